-- What stands on both sides of an exchange.
use Rattle.std.specs.Prelude.{◌≢◌, ℕ, List, ℤ, pos, ◌≤ℤ◌, All}
use Rattle.problem_core.specs.Layout.{Problem}
use Rattle.problem_core.specs.Kept.{IsWhole}
use Rattle.problem_core.specs.Corners.{IsCorner, IsExchange, IsIn, NoNegativeColumn, NoNegativeValue, Point}
use Rattle.problem_core.specs.Corners.{StandsAt, Swap, exchanged, place}
use Rattle.problem_core.specs.declared.parts.Mark.{Mark}
use Rattle.problem_core.specs.declared.parts.Term.{Term}
use Rattle.problem_core.specs.declared.parts.RowName.{RowName}
use Rattle.problem_core.specs.Unfit.{IsWritingOf}
use Rattle.problem_core.specs.Rays.{HasRays, IsRay}
use Rattle.corner_laws.specs.Laws.{IsFirstDown, IsMarkAt}
use Rattle.corner_laws.specs.Sums.{AreLevelSums, AreReducedAt, AreWritings, IsDualChoice, IsLeastRatio}
use Rattle.corner_laws.specs.Sums.{IsPrimalChoice, IsRowOf, Writings}

-- each outside mark can grow alone at the next corner too
abbrev pub RaysStay : Type 0
RaysStay = (p : Problem) (at : List Mark) (s : Swap) → IsMarkAt p (place s.enter) → IsExchange p at s
    → HasRays p at → HasRays p (exchanged s at)

-- at a corner, an outside mark can be exchanged for each inside mark that moves on its ray: the marks after
-- it are a corner
abbrev pub PivotIsExchange : Type 0
PivotIsExchange = (p : Problem) (at : List Mark) (s : Swap) (ray : ℕ → ℤ) → IsCorner p at
    → IsMarkAt p (place s.enter) → (IsIn (place s.enter) at → ⊥) → IsIn (place s.leave) at
    → IsRay p at (place s.enter) ray → ray (place s.leave) ≢ pos 0 → IsExchange p at s

-- the primal ratio rule: where the mark that comes to 0 first leaves, no value is negative at the next corner
abbrev pub ValuesStay : Type 0
ValuesStay = (p : Problem) (at : List Mark) (s : Swap) (x : Point) (ray : ℕ → ℤ) → IsMarkAt p (place s.enter)
    → (IsIn (place s.enter) at → ⊥) → IsIn (place s.leave) at → IsRay p at (place s.enter) ray
    → StandsAt p at x → All (λ m. pos 0 ≤ℤ x.num (place m)) at → IsFirstDown at x.num ray (place s.leave)
    → NoNegativeValue p (exchanged s at)

-- the primal ratio rule by the writings of the marks inside
abbrev pub PrimalChoiceStays : Type 0
PrimalChoiceStays = (p : Problem) (at : List Mark) (s : Swap) (w : Writings) → HasRays p at
    → IsMarkAt p (place s.enter) → (IsIn (place s.enter) at → ⊥) → IsIn (place s.leave) at
    → AreWritings p at w → IsPrimalChoice at s w → NoNegativeValue p at → NoNegativeValue p (exchanged s at)

-- the dual ratio rule: where the mark enters that has the least column over the size of its number in the
-- leaving mark's row, no column is negative at the next corner
abbrev pub ColumnsStay : Type 0
ColumnsStay = (p : Problem) (at : List Mark) (s : Swap) (scale : ℕ → ℕ) (times : ℕ → RowName → ℤ)
    (reduced : ℕ → ℕ → ℤ) (row : RowName → ℤ) (entry : ℕ → ℤ) → IsWhole p → HasRays p at
    → IsMarkAt p (place s.enter) → AreLevelSums p at scale times reduced
    → IsRowOf p at (place s.leave) row entry → NoNegativeColumn p at → IsLeastRatio p s entry reduced
    → NoNegativeColumn p (exchanged s at)

-- the dual ratio rule by writings, of the leaving mark and of the levels' costs
abbrev pub DualChoiceStays : Type 0
DualChoiceStays = (p : Problem) (at : List Mark) (s : Swap) (scale : ℕ) (form : List Term) (num : ℤ) (den : ℕ)
    (reduced : ℕ → ℕ → ℤ) → IsWhole p → IsCorner p at → HasRays p at → IsMarkAt p (place s.enter)
    → (IsIn (place s.enter) at → ⊥) → IsIn (place s.leave) at
    → IsWritingOf p at (λ x. x (place s.leave)) scale form num den
    → ((level : ℕ) → AreReducedAt p at level (reduced level)) → IsDualChoice p (place s.enter) form reduced
    → NoNegativeColumn p at → NoNegativeColumn p (exchanged s at)
