-- What is left behind a word is no longer than the text.
use Rattle.std.proofs.Common.{ℕ, ◌≤◌, List, [], ◌∷◌, length, Result, Ok, Err, inl, inr, subst, arith}
use Rattle.std.specs.Prelude.{IfOk}
use Rattle.std.specs.Borrow.{Bor}
use Rattle.std.proofs.lemmas.Bool.Decides.{eqb_tells}
use Rattle.span_text.specs.Gives.{Gives}
use Rattle.span_text.specs.Reading.{◌>>=◌, lit_at, with_word, read_word, either, tried}

abbrev pub RestWithin : {K : Type 0} → ℕ → Result (K × List ℕ) ℕ → Type 0
RestWithin n (Ok p) = length p.1 ≤ n
RestWithin n (Err m) = Unit {0}

word_within : {K : Type 0} (k : K) (w s : List ℕ) (n : ℕ) → length s ≤ n → RestWithin n (lit_at w s >>= with_word k)
unfolding lit_at
word_within k [] s n le = le
word_within k (c ∷ w) [] n le = tt
word_within k (c ∷ w) (b ∷ s) n le = elim (eqb_tells b c) [ inl q ↦ rw q.0 (word_within k w s n (omega arith)) | inr q ↦ rw q.0 tt ]

pub tried_within : {K : Type 0} (ws : List (List ℕ × K)) (s : List ℕ) → RestWithin (length s) (tried ws s)
tried_within [] s = tt
tried_within {K} (w ∷ ws) s = within_either (read_word w.0 w.1 s) (tried ws s) (word_within w.1 w.0 s (length s) (omega arith)) (tried_within ws s)
  where
    within_either : (r q : Result (K × List ℕ) ℕ) → RestWithin (length s) r → RestWithin (length s) q → RestWithin (length s) (either r q)
    within_either (Ok x) q h i = h
    within_either (Err m) (Ok x) h i = i
    within_either (Err m) (Err n) h i = tt

-- the same of what a reader of words returned
pub gives_within : {K : Type 0} (x : Result (K × Bor (List ℕ)) ℕ) (r : Result (K × List ℕ) ℕ) (n : ℕ) → Gives (λ p. (p.0, p.1.now)) x r → RestWithin n r → IfOk x (λ p. length p.1.now ≤ n)
gives_within (Ok p) r n e h = subst (RestWithin n) e h
gives_within (Err m) r n e h = tt
