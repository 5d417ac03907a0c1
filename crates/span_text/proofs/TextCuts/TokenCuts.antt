-- A token's place in its line, and where a text may be cut.
use Rattle.std.proofs.Common.{◌≡◌, ℕ, zero, suc, ◌+◌, ◌-◌, ◌<◌, ◌≤◌, Bool, true, false, List, [], ◌∷◌, ◌++◌, length, take, drop, inl, inr, refl, sym, ap, subst, ◌∙◌, arith, length-append, length-drop, length-take-le}
use Rattle.std.proofs.lemmas.Bool.Decides.{nat_tests}
use Rattle.std.proofs.lemmas.List.{drop-drop, append-nil, nil_from_length}
use Rattle.std.proofs.Math.Seq.{take-append_seam, drop-append_seam}
use Rattle.std.specs.Str.{IsUtf8, IsCharBoundary}
use Rattle.std.proofs.lemmas.Str.{length-encode, len_utf8_bounds, IsCharBoundary-at_seam, IsUtf8-drop, IsCharBoundary-after_ascii, IsCharBoundary-from_drop}
use Rattle.std.specs.Prelude.{encode_utf8}
use Rattle.span_text.specs.Language.{AllIn, NotStart}
use Rattle.span_text.specs.Classes.{is_space, is_word}
use Rattle.span_text.specs.Reading.{front, back, starts}
use Rattle.span_text.specs.TextCuts.Cutting.{begins_relation, IsOther, IsToken}
use Rattle.span_text.specs.TextCuts.Slices.{IsSliceAt}
use Rattle.span_text.proofs.PieceLemmas.{bool_tells}
use Rattle.span_text.proofs.TextCuts.Fronts.{front_taken, back_dropped, front_within}

pub front_inside : (c : ℕ → Bool) (s : List ℕ) → AllIn c (front c s)
unfolding front
front_inside c [] = tt
front_inside c (b ∷ s) = elim (bool_tells (c b)) [ inl t ↦ rw t (t, front_inside c s) | inr t ↦ rw t tt ]

pub back_outside : (c : ℕ → Bool) (s : List ℕ) → NotStart c (back c s)
unfolding back
back_outside c [] = tt
back_outside c (b ∷ s) = elim (bool_tells (c b)) [ inl t ↦ rw t (back_outside c s) | inr t ↦ rw t t ]

pub front_back : (c : ℕ → Bool) (s : List ℕ) → s ≡ front c s ++ back c s
unfolding front back
front_back c [] = refl
front_back c (b ∷ s) = elim (bool_tells (c b)) [ inl t ↦ rw t (ap (λ (x : List ℕ). b ∷ x) (front_back c s)) | inr t ↦ rw t refl ]

pub front_none : (c : ℕ → Bool) (s : List ℕ) → length (front c s) ≡ 0 → starts c s ≡ false
unfolding front
front_none c [] e = refl
front_none c (b ∷ s) e = elim (bool_tells (c b)) [ inl t ↦ absurd (let f = rw t at e in omega (arith, f)) | inr t ↦ t ]

outside_starts : (c : ℕ → Bool) (s : List ℕ) → NotStart c s → starts c s ≡ false
outside_starts c [] h = refl
outside_starts c (b ∷ s) h = h

-- behind bytes below 128 a text may be cut
pub back_utf8 : (c : ℕ → Bool) → ((b : ℕ) → c b ≡ true → b < 128) → (s : List ℕ) → IsUtf8 s → IsUtf8 (back c s)
unfolding back
back_utf8 c low [] u = u
back_utf8 c low (b ∷ s) u = elim (bool_tells (c b)) [
  | inl t ↦ rw t (back_utf8 c low s (IsUtf8-drop (b ∷ s) 1 u (IsCharBoundary-after_ascii (b ∷ s) 0 u (omega arith) (low b t))))
  | inr t ↦ rw t u
]

pub space_below : (b : ℕ) → is_space b ≡ true → b < 128
space_below b h = grind (arith, nat_tests)

pub word_below : (b : ℕ) → is_word b ≡ true → b < 128
word_below b h = grind (arith, nat_tests)

pub spaces_utf8 : (s : List ℕ) → IsUtf8 s → IsUtf8 (back is_space s)
spaces_utf8 s u = back_utf8 is_space space_below s u

pub run_boundary : (s : List ℕ) (n : ℕ) → IsUtf8 s → n ≡ length (front is_word s) → IsCharBoundary s n
run_boundary s n u e = subst (IsCharBoundary s) (sym e) (IsCharBoundary-from_drop s (length (front is_word s)) (front_within is_word s) (subst IsUtf8 (back_dropped is_word s) (back_utf8 is_word word_below s u)))

pub run_token : (s : List ℕ) (n : ℕ) → 0 < n → n ≡ length (front is_word s) → IsToken (take n s) (drop n s)
run_token s n some e =
    let f : front is_word s ≡ take n s = front_taken is_word s ∙ ap (λ (k : ℕ). take k s) (sym e) in
    let g : back is_word s ≡ drop n s = back_dropped is_word s ∙ ap (λ (k : ℕ). drop k s) (sym e) in
    let l : length (take n s) ≡ n = ap length (sym f) ∙ sym e in
    inl (record {
      some = omega arith;
      inside = subst (AllIn is_word) f (front_inside is_word s);
      longest = subst (NotStart is_word) g (back_outside is_word s);
    })

pub relation_boundary : (s : List ℕ) → IsUtf8 s → begins_relation s ≡ true → IsCharBoundary s 2
relation_boundary [] u h = absurd cc
relation_boundary (b ∷ []) u h = absurd cc
relation_boundary (b ∷ c ∷ s) u h = IsCharBoundary-after_ascii (b ∷ c ∷ s) 1 u (omega arith) (let l : c < 128 = grind (arith, nat_tests) in l)

-- the first character, by what follows it
pub cut_before : (s x rest : List ℕ) → s ≡ x ++ rest → (take (length s - length rest) s ≡ x) × (drop (length s - length rest) s ≡ rest)
cut_before s x rest e =
    let n : length s - length rest ≡ length x = (let l : length s ≡ length x + length rest = ap length e ∙ length-append x rest in omega arith) in
    rw (n, e) (take-append_seam x rest, drop-append_seam x rest)

pub other_is : (s rest : List ℕ) (c : ℕ) → s ≡ encode_utf8 c ++ rest → starts is_word s ≡ false → starts is_space s ≡ false → begins_relation s ≡ false → IsOther (take (length s - length rest) s) (drop (length s - length rest) s)
other_is s rest c e w b r =
    let p = cut_before s (encode_utf8 c) rest e in
    rw (p.0, p.1) (record {
      character = c;
      encoded = refl;
      no_word = first_outside is_word (encode_utf8 c) rest (subst (λ (x : List ℕ). starts is_word x ≡ false) e w);
      no_space = first_outside is_space (encode_utf8 c) rest (subst (λ (x : List ℕ). starts is_space x ≡ false) e b);
      no_relation = subst (λ (x : List ℕ). begins_relation x ≡ false) e r;
    })
  where
    first_outside : (d : ℕ → Bool) (x y : List ℕ) → starts d (x ++ y) ≡ false → NotStart d x
    first_outside d [] y h = tt
    first_outside d (z ∷ x) y h = h

-- the text is the end of the line
abbrev pub IsEnd : List ℕ → List ℕ → Type 0
IsEnd line s = (length s ≤ length line) × (s ≡ drop (length line - length s) line)

pub end_of_end : (line s : List ℕ) (k : ℕ) → IsEnd line s → k ≤ length s → IsEnd line (drop k s)
end_of_end line s k (within, e) le =
    let l : length (drop k s) ≡ length s - k = length-drop k s in
    let m : length line - length (drop k s) ≡ (length line - length s) + k = omega arith in
    (omega arith, rw m (ap (drop k) e ∙ drop-drop k (length line - length s) line))

pub cut_boundary : (s rest : List ℕ) (c : ℕ) → s ≡ encode_utf8 c ++ rest → IsUtf8 rest → IsCharBoundary s (length s - length rest)
cut_boundary s rest c e u =
    let n : length s - length rest ≡ length (encode_utf8 c) = (let l : length s ≡ length (encode_utf8 c) + length rest = ap length e ∙ length-append (encode_utf8 c) rest in omega arith) in
    rw n (IsCharBoundary-at_seam s (encode_utf8 c) rest e u)

pub other_some : (s rest : List ℕ) (n : ℕ) → IsOther (take n s) rest → 0 < n
other_some s rest zero h = absurd (let e : 0 ≡ length (encode_utf8 h.character) = ap length h.encoded in let b = length-encode h.character in let d = len_utf8_bounds h.character in omega (arith, b, d.0))
other_some s rest (suc n) h = omega arith

-- the spaces in front and what follows them
pub back_end : (line s : List ℕ) → IsEnd line s → IsEnd line (back is_space s)
back_end line s h = subst (IsEnd line) (sym (back_dropped is_space s)) (end_of_end line s (length (front is_space s)) h (front_within is_space s))

pub back_starts : (s : List ℕ) → starts is_space (back is_space s) ≡ false
back_starts s = outside_starts is_space (back is_space s) (back_outside is_space s)

pub no_rest : (s : List ℕ) → length (back is_space s) ≡ 0 → AllIn is_space s
no_rest s e = subst (AllIn is_space) (sym (all_front s e)) (front_inside is_space s)
  where
    all_front : (s : List ℕ) → length (back is_space s) ≡ 0 → s ≡ front is_space s
    all_front s e = let f = front_back is_space s in let g : back is_space s ≡ [] = nil_from_length (back is_space s) e in f ∙ (ap (λ (x : List ℕ). front is_space s ++ x) g ∙ append-nil (front is_space s))

pub back_within : (s : List ℕ) → length (back is_space s) ≤ length s
back_within s = let l = ap length (back_dropped is_space s) ∙ length-drop (length (front is_space s)) s in omega (arith, l)

-- a front of the line's end stands in the line
pub slice_at_end : (line s : List ℕ) (n : ℕ) → IsEnd line s → n ≤ length s → IsSliceAt line (length line - length s) (take n s)
slice_at_end line s n (within, e) le = rw (sym e, length-take-le n s le) refl

pub spaces_end : (line s rest : List ℕ) → IsEnd line s → rest ≡ back is_space s → IsEnd line rest
spaces_end line s rest h e = rw e (back_end line s h)
