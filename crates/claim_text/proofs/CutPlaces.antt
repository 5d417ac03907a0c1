-- Places between lines.
use Rattle.std.proofs.Common.{◌≡◌, ℕ, ◌+◌, ◌-◌, ◌<◌, ◌≤◌, List, [], ◌∷◌, ◌++◌, length, take, drop, Bool, false, sym, ap, ◌∙◌, refl, arith, inl, inr, subst, zero, suc, zero-add, IsTrue, ◌==◌}
use Rattle.std.specs.Str.Lines.{lines, strip_carriage_return, lines_of_parts}
use Rattle.std.proofs.lemmas.Bool.{false≢true}
use Rattle.std.proofs.lemmas.List.{append_assoc, append-nil, length-append, take_at, drop_at, take_all, drop_all, take-append-drop, length-drop, length-take-le, same_from_push}
use Rattle.std.proofs.lemmas.List.Elements.{All-push}
use Rattle.span_text.proofs.TextCuts.Cuts.{lines_at, first_part}
use Rattle.claim_text.specs.Cut.{BeginsClaim, IsWithoutOk, ok_line}
use Rattle.claim_text.specs.CutLines.{EndsBetweenLines, IsLineLength, IsLastStart, IsCutPlace}
use Rattle.problem_reading.proofs.Parts.{IsFree, whole_is}
use Rattle.problem_reading.proofs.Problems.Readings.{lines_count}
use Rattle.std.proofs.lemmas.Bool.Decides.{nat_tests}
use Rattle.problem_reading.specs.Words.{parts}

-- ---- helpers

both_whole : (a b : List ℕ) → EndsBetweenLines a → EndsBetweenLines b → EndsBetweenLines (a ++ b)
both_whole a b whole_a whole_b more =
    ap lines (append_assoc a b more) ∙ (whole_a (b ++ more) ∙ (ap (λ l. lines a ++ l) (whole_b more) ∙ (sym (append_assoc (lines a) (lines b) (lines more)) ∙ sym (ap (λ l. l ++ lines more) (whole_a b)))))

take_more_bytes : (text : List ℕ) (at n : ℕ) → at ≤ length text → take (at + n) text ≡ take at text ++ take n (drop at text)
take_more_bytes text zero n le = ap (λ k. take k text) (zero-add n)
take_more_bytes [] (suc at) n le = absurd (omega (arith, le))
take_more_bytes (b ∷ text) (suc at) n le =
    let count : suc at + n ≡ suc (at + n) = omega arith in
    ap (λ k. take k (b ∷ text)) count ∙ ap (λ l. b ∷ l) (take_more_bytes text at n (omega (arith, le)))

line_here_is : (text part rest : List ℕ) (n : ℕ) (line : List ℕ) (more : List (List ℕ)) → IsFree 10 part → text ≡ part ++ 10 ∷ rest → take n text ≡ part ++ 10 ∷ [] → drop n text ≡ rest → lines text ≡ line ∷ more → (lines (take n text) ≡ line ∷ []) × (lines (drop n text) ≡ more)
line_here_is text part rest n line more free is taken left lines_are =
    let first : strip_carriage_return part ∷ lines rest ≡ line ∷ more = sym (lines_at part rest free) ∙ (sym (ap lines is) ∙ lines_are) in
    let heads : strip_carriage_return part ≡ line = cc in
    let tails : lines rest ≡ more = cc in
    (ap lines taken ∙ (lines_at part [] free ∙ ap (λ l. l ∷ []) heads), ap lines left ∙ tails)

still_whole : (text : List ℕ) (at count : ℕ) {n : ℕ} → IsCutPlace text at count → IsLineLength (drop at text) n → EndsBetweenLines (take at text)
still_whole text at count {n = n} place next = elim place.whole [
  | inl whole ↦ whole
  | inr all ↦ absurd (omega (arith, all, length-drop at text, next.some, next.within))
]

end_parts : (text : List ℕ) (at : ℕ) → at ≡ length text → lines text ≡ lines (take at text) ++ lines (drop at text)
end_parts text at all =
    let taken : take at text ≡ text = take_all at text (omega (arith, all)) in
    let left : drop at text ≡ [] = drop_all at text (omega (arith, all)) in
    sym (ap (λ l. lines l ++ lines (drop at text)) taken ∙ (ap (λ l. lines text ++ lines l) left ∙ append-nil (lines text)))

by_parts : (text : List ℕ) (ps : List (List ℕ)) → parts 10 text ≡ ps → 0 < length text → (line : List ℕ) × (more : List (List ℕ)) × (lines text ≡ line ∷ more)
by_parts text [] is some = let more = first_part (λ b. b == 10) text in let parts_are : parts 10 text ≡ more.0 ∷ more.1 = more.2 in absurd (cc)
by_parts text (y ∷ []) is some =
    let whole : text ≡ y = whole_is 10 text y is in
    let no_end : (length y == 0) ≡ false = grind (arith, nat_tests, ap length whole) in
    (y, [], ap lines_of_parts is ∙ rw no_end refl)
by_parts text (y ∷ z ∷ zs) is some = (strip_carriage_return y, lines_of_parts (z ∷ zs), ap lines_of_parts is)

line_of_some : (text : List ℕ) → 0 < length text → (line : List ℕ) × (more : List (List ℕ)) × (lines text ≡ line ∷ more)
line_of_some text some = by_parts text (parts 10 text) refl some

last_line_ok : (before front left : List (List ℕ)) → (line : List ℕ) × (more : List (List ℕ)) × (left ≡ line ∷ more) → ((line : List ℕ) (more : List (List ℕ)) → left ≡ line ∷ more → more ≡ [])
    → before ++ left ≡ front ++ ok_line ∷ [] → ((more : List (List ℕ)) → left ≡ ok_line ∷ more → ⊥) → ⊥
last_line_ok before front left has last is none =
    let alone : has.1 ≡ [] = last has.0 has.1 has.2 in
    let left_is : left ≡ has.0 ∷ [] = has.2 ∙ ap (λ l. has.0 ∷ l) alone in
    let both = same_from_push before front has.0 ok_line (ap (λ l. before ++ l) (sym left_is) ∙ is) in
    none [] (left_is ∙ ap (λ l. l ∷ []) both.1)

-- the last of the lines is the one at the last start
last_is_ok : (text : List ℕ) (at : ℕ) (front : List (List ℕ)) → IsLastStart text at → lines (take at text) ++ lines (drop at text) ≡ front ++ ok_line ∷ [] → ((more : List (List ℕ)) → lines (drop at text) ≡ ok_line ∷ more → ⊥) → ⊥
last_is_ok text at front last is none =
    last_line_ok (lines (take at text)) front (lines (drop at text)) (line_of_some (drop at text) (omega (arith, length-drop at text, last.within))) last.last is none

-- ---- the length of a line

line_whole : (part : List ℕ) → IsFree 10 part → EndsBetweenLines (part ++ 10 ∷ [])
line_whole part free more =
    ap lines (append_assoc part (10 ∷ []) more) ∙ (lines_at part more free ∙ sym (ap (λ l. l ++ lines more) (lines_at part [] free)))

pub line_ended : (text part rest : List ℕ) (n : ℕ) → IsFree 10 part → text ≡ part ++ 10 ∷ rest → n + length rest ≡ length text → IsLineLength text n
line_ended text part rest n free is count =
    let front : text ≡ (part ++ 10 ∷ []) ++ rest = is ∙ sym (append_assoc part (10 ∷ []) rest) in
    let n_is : length (part ++ 10 ∷ []) ≡ n = omega (arith, ap length front, length-append (part ++ 10 ∷ []) rest, count) in
    let taken : take n text ≡ part ++ 10 ∷ [] = ap (take n) front ∙ take_at (part ++ 10 ∷ []) rest n n_is in
    let left : drop n text ≡ rest = ap (drop n) front ∙ drop_at (part ++ 10 ∷ []) rest n n_is in
    record {
      some = omega (arith, n_is, length-append part (10 ∷ []));
      within = omega (arith, count);
      whole = inl (subst EndsBetweenLines (sym taken) (line_whole part free));
      here = λ line more lines_are. line_here_is text part rest n line more free is taken left lines_are;
    }

-- ---- places

pub place_more : (text line : List ℕ) (more : List (List ℕ)) (at count n : ℕ) → IsCutPlace text at count → IsLineLength (drop at text) n → lines (drop at text) ≡ line ∷ more → (BeginsClaim line → ⊥) → IsCutPlace text (at + n) (count + 1)
place_more text line more at count n place next lines_are none =
    let whole : EndsBetweenLines (take at text) = still_whole text at count place next in
    let taken : take (at + n) text ≡ take at text ++ take n (drop at text) = take_more_bytes text at n place.within in
    let said : lines (take (at + n) text) ≡ lines (take at text) ++ line ∷ [] = ap lines taken ∙ (whole (take n (drop at text)) ∙ ap (λ l. lines (take at text) ++ l) ((next.here line more lines_are).0)) in
    record {
      within = omega (arith, next.within, length-drop at text, place.within);
      whole = elim next.whole [
        | inl part ↦ inl (subst EndsBetweenLines (sym taken) (both_whole (take at text) (take n (drop at text)) whole part))
        | inr all ↦ inr (omega (arith, all, length-drop at text, place.within))
      ];
      count_is = omega (arith, ap length said, length-append (lines (take at text)) (line ∷ []), place.count_is);
      before = rw said (All-push (λ (l : List ℕ). BeginsClaim l → ⊥) (lines (take at text)) line place.before none);
    }

pub place_fits : (text : List ℕ) (at count : ℕ) → IsCutPlace text at count → count ≤ length text + 1
place_fits text at count place = omega (arith, place.count_is, lines_count (take at text), length-take-le at text place.within, place.within)

-- the lines before a place, and those behind it
pub place_parts : (text : List ℕ) (at count : ℕ) → IsCutPlace text at count → lines text ≡ lines (take at text) ++ lines (drop at text)
place_parts text at count place = elim place.whole [
  | inl whole ↦ ap lines (sym (take-append-drop at text)) ∙ whole (drop at text)
  | inr all ↦ end_parts text at all
]

-- ---- the last line

pub last_more : (text : List ℕ) (at n : ℕ) → at < length text → EndsBetweenLines (take at text) → IsLineLength (drop at text) n → (at + n ≡ length text → ⊥) → (at + n < length text) × EndsBetweenLines (take (at + n) text)
last_more text at n lt whole next not_all =
    let taken : take (at + n) text ≡ take at text ++ take n (drop at text) = take_more_bytes text at n (omega (arith, lt)) in (
      omega (arith, next.within, length-drop at text, lt, not_all),
      elim next.whole [
        | inl part ↦ subst EndsBetweenLines (sym taken) (both_whole (take at text) (take n (drop at text)) whole part)
        | inr all ↦ absurd (not_all (omega (arith, all, length-drop at text, lt)))
      ],
    )

pub ok_missing : (text : List ℕ) (at : ℕ) → IsLastStart text at → ((more : List (List ℕ)) → lines (drop at text) ≡ ok_line ∷ more → ⊥) → IsWithoutOk (lines text) (lines text)
ok_missing text at last none =
    let whole : lines text ≡ lines (take at text) ++ lines (drop at text) = ap lines (sym (take-append-drop at text)) ∙ last.whole (drop at text) in
    inr (refl, λ front is. last_is_ok text at front last (sym whole ∙ is) none)

pub rest_count : (text part rest : List ℕ) → text ≡ part ++ 10 ∷ rest → (length text - length rest) + length rest ≡ length text
rest_count text part rest is = omega (arith, ap length is, length-append part (10 ∷ rest))

pub not_so : {X : Type 0} (P : X → Type 0) (b : Bool) → b ≡ false → ((x : X) → P x → IsTrue b) → (x : X) → P x → ⊥
not_so P b no_way tells x holds = false≢true (rw no_way at (tells x holds))
