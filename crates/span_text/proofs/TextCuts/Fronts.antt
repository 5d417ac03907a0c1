-- The front and the back of a text are its parts at the front's length.
use Rattle.std.proofs.Common.{◌≡◌, ℕ, Bool, true, ◌≤◌, List, [], ◌∷◌, length, take, drop, get_or, ◌+◌, add-one, Ok, inl, inr, refl, ap, sym, ◌∙◌, arith}
use Rattle.span_text.specs.Reading.{front, back, one_at}
use Rattle.span_text.specs.Tokens.{raw_name_at}
use Rattle.span_text.proofs.PieceLemmas.{bool_tells}
use Rattle.span_text.specs.Classes.{is_word, is_letter}

pub front_taken : (c : ℕ → Bool) (s : List ℕ) → front c s ≡ take (length (front c s)) s
unfolding front
front_taken c [] = refl
front_taken c (b ∷ s) = elim (bool_tells (c b)) [ inl t ↦ rw t (ap (λ (x : List ℕ). b ∷ x) (front_taken c s)) | inr t ↦ rw t refl ]

pub back_dropped : (c : ℕ → Bool) (s : List ℕ) → back c s ≡ drop (length (front c s)) s
unfolding front back
back_dropped c [] = refl
back_dropped c (b ∷ s) = elim (bool_tells (c b)) [ inl t ↦ rw t (back_dropped c s) | inr t ↦ rw t refl ]

pub front_within : (c : ℕ → Bool) (s : List ℕ) → length (front c s) ≤ length s
unfolding front
front_within c [] = omega arith
front_within c (b ∷ s) = elim (bool_tells (c b)) [ inl t ↦ rw t (let h = front_within c s in omega arith) | inr t ↦ rw t (omega arith) ]

pub name_taken : (s : List ℕ) (n : ℕ) → 1 ≤ length s → is_letter (get_or s 0 0) ≡ true → n ≡ length (front is_word (drop 1 s)) → raw_name_at s ≡ Ok (take (n + 1) s, drop (n + 1) s)
unfolding raw_name_at one_at
name_taken [] n h l e = absurd (omega arith)
name_taken (b ∷ s) n h l e =
    let p : front is_word s ≡ take n s = front_taken is_word s ∙ ap (λ (z : ℕ). take z s) (sym e) in
    let q : back is_word s ≡ drop n s = back_dropped is_word s ∙ ap (λ (z : ℕ). drop z s) (sym e) in
    rw (l, p, q, add-one) refl
