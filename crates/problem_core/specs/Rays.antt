-- Rays: how everything moves where one outside mark alone grows.
use Rattle.std.specs.Prelude.{◌≡◌, ◌≢◌, ℕ, List, map, ℤ, pos, ◌<ℤ◌, All, Contains}
use Rattle.problem_core.specs.declared.parts.Mark.{Mark}
use Rattle.problem_core.specs.Layout.{Problem, lines, value_at}
use Rattle.problem_core.specs.Corners.{IsIn, equation, marks_of, one_column, place}

-- the mark with the column c grows, and no other outside mark moves
pub record IsRay (p : Problem) (at : List Mark) (c : ℕ) (ray : ℕ → ℤ) : Type 0 where
  pub holds : All (λ l. value_at ray (equation l) ≡ pos 0) (lines p)
  pub still : ray one_column ≡ pos 0
  pub here : pos 0 <ℤ ray c
  pub other : All (λ m. (IsIn (place m) at → ⊥) → place m ≢ c → ray (place m) ≡ pos 0) (marks_of (lines p))

-- each outside mark can grow alone
abbrev pub HasRays : Problem → List Mark → Type 0
HasRays p at = (c : ℕ) → Contains (map place (marks_of (lines p))) c → (IsIn c at → ⊥)
    → (ray : ℕ → ℤ) × IsRay p at c ray
