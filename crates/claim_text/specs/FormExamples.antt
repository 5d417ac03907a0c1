-- Lines outside the forms of claims and of problems.
use Rattle.std.specs.Prelude.{ℕ, [], ◌∷◌}
use Rattle.claim_text.specs.Claims.ClaimForms.{IsFirstOutside}
use Rattle.problem_reading.specs.ProblemForms.{IsFirstOutsideProblem}

-- no lines at all are a problem, and no claim, because `best` is missing; a line of another byte is no problem
pub record SomeAreOutside : Type 0 where
  pub early : IsFirstOutside [] 1
  pub no_later : IsFirstOutside [] 2 → ⊥
  pub empty : (n : ℕ) → IsFirstOutsideProblem [] n → ⊥
  pub stray : IsFirstOutsideProblem ((0 ∷ []) ∷ []) 1
