-- Names are ASCII, so UTF-8.
use Rattle.std.proofs.Common.{◌≡◌, ℕ, zero, suc, ◌<◌, true, List, [], ◌∷◌, get_or, Result, Ok, Err, inl, inr, ap, subst, arith}
use Rattle.std.proofs.lemmas.Bool.Decides.{nat_tests}
use Rattle.std.specs.Str.{IsAscii}
use Rattle.span_text.proofs.PieceLemmas.{bool_tells}
use Rattle.span_text.specs.Classes.{is_word, is_letter}
use Rattle.span_text.specs.Reading.{one_at, front}
use Rattle.span_text.specs.Tokens.{raw_name_at}
use Rattle.span_text.proofs.TextCuts.TokenCuts.{word_below}

letter_below : (b : ℕ) → is_letter b ≡ true → b < 128
letter_below b h = grind (arith, nat_tests)

front_ascii : (s : List ℕ) (i : ℕ) → get_or (front is_word s) i 0 < 128
unfolding front
front_ascii [] i = omega arith
front_ascii (b ∷ s) zero = elim (bool_tells (is_word b)) [ inl t ↦ rw t (word_below b t) | inr t ↦ rw t (omega arith) ]
front_ascii (b ∷ s) (suc i) = elim (bool_tells (is_word b)) [ inl t ↦ rw t (front_ascii s i) | inr t ↦ rw t (omega arith) ]

abbrev first : Result (List ℕ × List ℕ) ℕ → List ℕ
first (Ok p) = p.0
first (Err e) = []

pub name_ascii : (s n t : List ℕ) → raw_name_at s ≡ Ok (n, t) → IsAscii n
unfolding raw_name_at one_at
name_ascii [] n t e = absurd cc
name_ascii (b ∷ s) n t e = elim (bool_tells (is_letter b)) [
  | inl l ↦ (let f = rw l at e in let g : (b ∷ front is_word s) ≡ n = ap first f in subst IsAscii g (λ i. name_ascii_at i l))
  | inr l ↦ absurd (let f = rw l at e in cc)
]
  where
    name_ascii_at : (i : ℕ) → is_letter b ≡ true → get_or (b ∷ front is_word s) i 0 < 128
    name_ascii_at zero l = letter_below b l
    name_ascii_at (suc i) l = front_ascii s i
