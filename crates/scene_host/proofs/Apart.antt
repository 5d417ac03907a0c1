-- What isn't told under a name.
use Rattle.std.proofs.Common.{◌≡◌, ◌≢◌, ◌∙◌, ◌<◌, ◌+◌, ◌/◌, ◌%◌, ℕ, zero, suc, Bool, true, false, true≢false, ◌==◌, ◌&&◌, nat_lt, not, cond, List, [], ◌∷◌, ◌++◌, codes, decimal, refl, sym, ap, ap₂, inl, inr, arith, append_assoc, append-nil}
use Rattle.std.proofs.lemmas.Bool.Decides.{Decides-eqb, nat_tests}
use Rattle.std.specs.Prelude.{if◌then◌else◌}
use Rattle.std.specs.Fmt.{digit_glyph, digits, digits_onto}
use Rattle.span_text.specs.Classes.{is_word}
use Rattle.span_text.specs.Language.{AllIn}
use Rattle.span_text.proofs.PieceLemmas.{and_parts}
use Rattle.line_by_line.specs.Answers.{AreWholeLines}
use Rattle.scene_host.specs.Hosts.{limit_line, mark_of, syntax_line}
use Rattle.scene_host.specs.Laws.{MarkedTextsAreTold, OtherTextsAreNotTold, behind_mark, behind_marks, has_mark, told_under}
use Rattle.scene_host.specs.Marks.{marked, marked_from}
use Rattle.scene_host.proofs.Told.{NoEnd, in_front, marked-told, none_behind, walk}

same_bytes : (a b : ℕ) → (a == b) ≡ true → a ≡ b
same_bytes a b is = (Decides-eqb a b).0 is

no_end_of : (b : ℕ) → 10 < b → (b == 10) ≡ false
no_end_of b more = grind (arith, nat_tests)

-- a byte that isn't in a word is none of a word's
outside : (a b : ℕ) → is_word a ≡ true → is_word b ≡ false → a ≡ b → ⊥
outside a b inside out same = absurd (true≢false (sym inside ∙ (ap is_word same ∙ out)))

-- ---- words have no end of a line

word_no_end : (n : List ℕ) → AllIn is_word n → NoEnd n
word_no_end [] are = tt
word_no_end (b ∷ n) are = (by (b == 10) refl, word_no_end n are.1)
  where
    by : (is : Bool) → (b == 10) ≡ is → is ≡ false
    by true h = absurd (outside b 10 are.0 refl (same_bytes b 10 h))
    by false h = refl

pub ends_nowhere : (m n : List ℕ) → NoEnd m → NoEnd n → NoEnd (m ++ n)
ends_nowhere [] n none other = other
ends_nowhere (b ∷ m) n none other = (none.0, ends_nowhere m n none.1 other)

pub mark_no_end : (name : List ℕ) → AllIn is_word name → NoEnd (mark_of name)
unfolding mark_of
mark_no_end name are = ends_nowhere name (codes ": ") (word_no_end name are) (refl, (refl, tt))

-- ---- marks that a line doesn't have

unmarked : (mark line : List ℕ) → has_mark mark line ≡ false → behind_mark mark line ≡ []
unmarked mark line lacks = rw lacks refl

-- two words, each with a colon behind it, are the same where the one line begins with the other
same_word : (n m r t : List ℕ) → AllIn is_word n → AllIn is_word m → has_mark (n ++ (58 ∷ r)) (m ++ (58 ∷ t)) ≡ true → n ≡ m
same_word [] [] r t in_n in_m has = refl
same_word [] (b ∷ m) r t in_n in_m has =
    let parts = and_parts (58 == b) (has_mark r (m ++ (58 ∷ t))) has in
    absurd (outside b 58 in_m.0 refl (sym (same_bytes 58 b parts.0)))
same_word (a ∷ n) [] r t in_n in_m has =
    let parts = and_parts (a == 58) (has_mark (n ++ (58 ∷ r)) t) has in
    absurd (outside a 58 in_n.0 refl (same_bytes a 58 parts.0))
same_word (a ∷ n) (b ∷ m) r t in_n in_m has =
    let parts = and_parts (a == b) (has_mark (n ++ (58 ∷ r)) (m ++ (58 ∷ t))) has in
    ap₂ (λ (c : ℕ) (l : List ℕ). c ∷ l) (same_bytes a b parts.0) (same_word n m r t in_n.1 in_m.1 parts.1)

-- behind the word in front stands something else than a colon
abbrev no_colon : List ℕ → Bool
no_colon [] = false
no_colon (b ∷ t) = if is_word b then no_colon t else not (58 == b)

no_word : (n r t : List ℕ) → AllIn is_word n → no_colon t ≡ true → has_mark (n ++ (58 ∷ r)) t ≡ false
no_word n r [] in_n is = absurd (true≢false (sym is))
no_word [] r (b ∷ t) in_n is = by (is_word b) refl (58 == b) refl is
  where
    by : (w : Bool) → is_word b ≡ w → (c : Bool) → (58 == b) ≡ c → cond w (no_colon t) (not c) ≡ true → (c && has_mark r t) ≡ false
    by true in_word true colon h = absurd (outside b 58 in_word refl (sym (same_bytes 58 b colon)))
    by true in_word false colon h = refl
    by false out true colon h = absurd (true≢false (sym h))
    by false out false colon h = refl
no_word (a ∷ n) r (b ∷ t) in_n is = by (a == b) refl (λ rest. no_word n r t in_n.1 rest)
  where
    by : (c : Bool) → (a == b) ≡ c → (no_colon t ≡ true → has_mark (n ++ (58 ∷ r)) t ≡ false) → (c && has_mark (n ++ (58 ∷ r)) t) ≡ false
    by false other on = refl
    by true same on =
        let inside : is_word b ≡ true = ap is_word (sym (same_bytes a b same)) ∙ in_n.0 in
        on (ap (λ (w : Bool). cond w (no_colon t) (not (58 == b))) (sym inside) ∙ is)

-- ---- a line of its own

one_line : (mark x : List ℕ) → NoEnd x → behind_marks mark [] (x ++ 10 ∷ []) ≡ behind_mark mark (x ++ 10 ∷ [])
one_line mark x none =
    let last : List ℕ = behind_mark mark (x ++ 10 ∷ []) in
    walk mark [] x (10 ∷ []) none ∙ (ap (λ (t : List ℕ). last ++ t) (none_behind mark) ∙ append-nil last)

-- a line without a mark tells nothing
untold : (name x : List ℕ) → AllIn is_word name → NoEnd x → no_colon (x ++ 10 ∷ []) ≡ true → told_under name (x ++ 10 ∷ []) ≡ []
unfolding mark_of
untold name x are none is =
    one_line (mark_of name) x none ∙ unmarked (mark_of name) (x ++ 10 ∷ []) (no_word name (32 ∷ []) (x ++ 10 ∷ []) are is)

-- ---- what a host itself says

refused_limit : NoEnd (codes "refused 4 limit ")
refused_limit = (refl, (refl, (refl, (refl, (refl, (refl, (refl, (refl, (refl, (refl, (refl, (refl, (refl, (refl, (refl, (refl, tt))))))))))))))))

refused_syntax : NoEnd (codes "refused 1 syntax ")
refused_syntax = (refl, (refl, (refl, (refl, (refl, (refl, (refl, (refl, (refl, (refl, (refl, (refl, (refl, (refl, (refl, (refl, (refl, tt)))))))))))))))))

pub limit_is : (word : List ℕ) → limit_line word ≡ (codes "refused 4 limit " ++ word) ++ 10 ∷ []
unfolding limit_line
limit_is word = sym (append_assoc (codes "refused 4 limit ") word (10 ∷ []))

pub syntax_is : (at : ℕ) → syntax_line at ≡ (codes "refused 1 syntax " ++ decimal at) ++ 10 ∷ []
unfolding syntax_line
syntax_is at = sym (append_assoc (codes "refused 1 syntax ") (decimal at) (10 ∷ []))

limit_untold : (name word : List ℕ) → AllIn is_word name → AllIn is_word word → told_under name (limit_line word) ≡ []
limit_untold name word are word_are =
    ap (told_under name) (limit_is word)
    ∙ untold name (codes "refused 4 limit " ++ word) are (ends_nowhere (codes "refused 4 limit ") word refused_limit (word_no_end word word_are)) refl

glyph_no_end : (d : ℕ) → (digit_glyph false d == 10) ≡ false
glyph_no_end d = no_end_of (digit_glyph false d) (elim (nat_lt d 10) as (λ b. 10 < cond b (48 + d) (87 + d)) [
  | true ↦ omega arith
  | false ↦ omega arith
])

digits_no_end : (k n : ℕ) (acc : List ℕ) → NoEnd acc → NoEnd (digits_onto k 10 false n acc)
digits_no_end zero n acc none = none
digits_no_end (suc k) n acc none =
    let one : NoEnd (digit_glyph false (n % 10) ∷ acc) = (glyph_no_end (n % 10), none) in
    elim (n / 10 == 0) as (λ b. NoEnd (cond b (digit_glyph false (n % 10) ∷ acc) (digits_onto k 10 false (n / 10) (digit_glyph false (n % 10) ∷ acc)))) [
      | true ↦ one
      | false ↦ digits_no_end k (n / 10) (digit_glyph false (n % 10) ∷ acc) one
    ]

decimal_no_end : (n : ℕ) → NoEnd (decimal n)
unfolding digits
decimal_no_end n = digits_no_end 64 n [] tt

syntax_untold : (name : List ℕ) (at : ℕ) → AllIn is_word name → told_under name (syntax_line at) ≡ []
syntax_untold name at are =
    ap (told_under name) (syntax_is at)
    ∙ untold name (codes "refused 1 syntax " ++ decimal at) are (ends_nowhere (codes "refused 1 syntax ") (decimal at) refused_syntax (decimal_no_end at)) refl

-- ---- what another scene says

module _ (mark own : List ℕ) (none : NoEnd mark) (apart : (t : List ℕ) → has_mark own (mark ++ t) ≡ false) where
  begins_apart : (c : ℕ) (r : List ℕ) → behind_marks own (mark ++ []) (marked_from mark false (c ∷ r)) ≡ [] → behind_marks own [] (marked_from mark true (c ∷ r)) ≡ []
  begins_apart c r on =
      ap (behind_marks own []) (in_front mark none c r) ∙ walk own [] mark (marked_from mark false (c ∷ r)) none
      ∙ ap (λ (l : List ℕ). behind_marks own l (marked_from mark false (c ∷ r))) (sym (append-nil mark)) ∙ on

  front_apart : (front : List ℕ) → behind_marks own (mark ++ []) (marked_from mark false (front ++ 10 ∷ [])) ≡ [] → behind_marks own [] (marked_from mark true (front ++ 10 ∷ [])) ≡ []
  front_apart [] on = begins_apart 10 [] on
  front_apart (b ∷ front) on = begins_apart b (front ++ 10 ∷ []) on

  seen_apart : (seen t : List ℕ) → behind_mark own ((mark ++ seen) ++ t) ≡ []
  seen_apart seen t = ap (behind_mark own) (append_assoc mark seen t) ∙ unmarked own (mark ++ (seen ++ t)) (apart (seen ++ t))

  goes_apart : (front seen : List ℕ) → behind_marks own (mark ++ seen) (marked_from mark false (front ++ 10 ∷ [])) ≡ []
  goes_apart [] seen = ap₂ (λ (s t : List ℕ). s ++ t) (seen_apart seen (10 ∷ [])) (none_behind own)
  goes_apart (b ∷ front) seen = by (b == 10) (front_apart front (goes_apart front [])) (goes_apart front (seen ++ b ∷ []))
    where
      rest : List ℕ
      rest = front ++ 10 ∷ []

      by : (ends : Bool) → behind_marks own [] (marked_from mark true rest) ≡ [] → behind_marks own (mark ++ (seen ++ b ∷ [])) (marked_from mark false rest) ≡ []
          → cond ends (behind_mark own ((mark ++ seen) ++ b ∷ []) ++ behind_marks own [] (marked_from mark ends rest)) (behind_marks own ((mark ++ seen) ++ b ∷ []) (marked_from mark ends rest)) ≡ []
      by true anew on = ap₂ (λ (s t : List ℕ). s ++ t) (seen_apart seen (b ∷ [])) anew
      by false anew on = ap (λ (l : List ℕ). behind_marks own l (marked_from mark false rest)) (append_assoc mark seen (b ∷ [])) ∙ on

  text_apart : (text : List ℕ) → AreWholeLines text → behind_marks own [] (marked mark text) ≡ []
  text_apart text whole = elim whole [
    | inl is ↦ rw is (none_behind own)
    | inr (front, is) ↦ rw is (front_apart front (goes_apart front []))
  ]

-- a name's mark isn't in front of what stands behind another's
marks_apart : (name another : List ℕ) → AllIn is_word name → AllIn is_word another → name ≢ another → (t : List ℕ) → has_mark (mark_of name) (mark_of another ++ t) ≡ false
unfolding mark_of
marks_apart name another are other_are other t = by (has_mark (name ++ (58 ∷ 32 ∷ [])) ((another ++ (58 ∷ 32 ∷ [])) ++ t)) refl
  where
    by : (has : Bool) → has_mark (name ++ (58 ∷ 32 ∷ [])) ((another ++ (58 ∷ 32 ∷ [])) ++ t) ≡ has → has ≡ false
    by true h = absurd (other (same_word name another (32 ∷ []) (32 ∷ t) are other_are
        (ap (has_mark (name ++ (58 ∷ 32 ∷ []))) (sym (append_assoc another (58 ∷ 32 ∷ []) t)) ∙ h)))
    by false h = refl

other_untold : (name another text : List ℕ) → AllIn is_word name → AllIn is_word another → name ≢ another → AreWholeLines text → told_under name (marked (mark_of another) text) ≡ []
other_untold name another text are other_are other whole =
    text_apart (mark_of another) (mark_of name) (mark_no_end another other_are) (marks_apart name another are other_are other) text whole

pub others_untold : OtherTextsAreNotTold
others_untold = record { other = other_untold; limit = limit_untold; syntax = syntax_untold }

pub all_told : MarkedTextsAreTold
all_told name text are whole = marked-told (mark_of name) (mark_no_end name are) text whole
