-- A list of predicates is read one after the other.
use Rattle.std.proofs.Common.{◌≡◌, ℕ, suc, true, false, List, [], ◌∷◌, ◌++◌, length, Ok, Err, refl, ap}
use Rattle.span_text.specs.Reading.{starts}
use Rattle.span_text.specs.Tokens.{sign_at}
use Rattle.span_text.specs.Loops.{rounds_at, loop_at}
use Rattle.vfl_text.specs.Formats.{PredMeaning}
use Rattle.vfl_text.specs.Reading.{is_comma, pred_at, pred_round_at}

pub list_begins : (m : ℕ) (s : List ℕ) → m ≡ suc (length s) → rounds_at pred_round_at m [] s ≡ loop_at pred_round_at [] s
unfolding loop_at
list_begins m s e = ap (λ (n : ℕ). rounds_at pred_round_at n [] s) e

module _ (m n : ℕ) (before : List PredMeaning) (s : List ℕ) (fuel : m ≡ suc n) where
  pub list_fails : (e : ℕ) → pred_at s ≡ Err e → rounds_at pred_round_at m before s ≡ Err e
  unfolding rounds_at pred_round_at
  list_fails e h = rw (fuel, h) refl

  pub list_goes_on : (p : PredMeaning) (t u : List ℕ) → pred_at s ≡ Ok (p, t) → starts is_comma t ≡ true → sign_at 44 t ≡ Ok u → rounds_at pred_round_at m before s ≡ rounds_at pred_round_at n (before ++ p ∷ []) u
  unfolding rounds_at pred_round_at
  list_goes_on p t u h c g = rw (fuel, h, c, g) refl

  pub list_comma_fails : (p : PredMeaning) (t : List ℕ) (e : ℕ) → pred_at s ≡ Ok (p, t) → starts is_comma t ≡ true → sign_at 44 t ≡ Err e → rounds_at pred_round_at m before s ≡ Err e
  unfolding rounds_at pred_round_at
  list_comma_fails p t e h c g = rw (fuel, h, c, g) refl

  pub list_ends : (p : PredMeaning) (t u : List ℕ) → pred_at s ≡ Ok (p, t) → starts is_comma t ≡ false → sign_at 41 t ≡ Ok u → rounds_at pred_round_at m before s ≡ Ok (before ++ p ∷ [], u)
  unfolding rounds_at pred_round_at
  list_ends p t u h c g = rw (fuel, h, c, g) refl

  pub list_end_fails : (p : PredMeaning) (t : List ℕ) (e : ℕ) → pred_at s ≡ Ok (p, t) → starts is_comma t ≡ false → sign_at 41 t ≡ Err e → rounds_at pred_round_at m before s ≡ Err e
  unfolding rounds_at pred_round_at
  list_end_fails p t e h c g = rw (fuel, h, c, g) refl
