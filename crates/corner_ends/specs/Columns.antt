-- Outside marks whose columns are negative.
use Rattle.std.specs.Prelude.{◌≡◌, ◌≢◌, ℕ, List, ℤ, pos, All}
use Rattle.problem_core.specs.declared.parts.Mark.{Mark}
use Rattle.problem_core.specs.Layout.{Problem, lines}
use Rattle.problem_core.specs.Corners.{HasNegativeColumn}
use Rattle.corner_laws.specs.RunLaws.{AreReduced}
use Rattle.corner_view.specs.Seen.{IsOutside}

-- the mark is outside, and its column is negative
pub record IsNegative (p : Problem) (at : List Mark) (m : Mark) : Type 0 where
  pub outside : IsOutside p at m
  pub column : HasNegativeColumn p at m

-- at each level the reduced costs, which are 0 where no line stands
pub record Reduced (p : Problem) (at : List Mark) : Type 0 where
  pub costs : ℕ → ℕ → ℤ
  pub are : AreReduced p at costs
  pub unused : (k : ℕ) → All (λ l. l.level ≢ k) (lines p) → (v : ℕ) → costs k v ≡ pos 0
