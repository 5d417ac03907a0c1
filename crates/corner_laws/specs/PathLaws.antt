-- What holds along paths, and where they end.
use Rattle.std.specs.Prelude.{◌≡◌, ◌<◌, ◌+◌, ◌^◌, ℕ, Bool, List, length, ℤ, pos, ◌*ℤ◌, ◌≤ℤ◌, ◌<ℤ◌, All}
use Rattle.problem_core.specs.Layout.{IsBest, Problem, lines}
use Rattle.problem_core.specs.Kept.{IsWhole}
use Rattle.problem_core.specs.Certificates.{IsRefutation, Multipliers}
use Rattle.problem_core.specs.Corners.{AreMultipliersAt, IsCorner, IsExchange, IsIn, NoNegativeColumn}
use Rattle.problem_core.specs.Corners.{NoNegativeValue, Point, StandsAt, Swap, assignment_at, column}
use Rattle.problem_core.specs.Corners.{exchanged, one_column, place}
use Rattle.problem_core.specs.declared.parts.Mark.{Mark}
use Rattle.problem_core.specs.declared.parts.Side.{Side}
use Rattle.problem_core.specs.declared.parts.RowName.TheVariants.{Held}
use Rattle.problem_core.specs.Levels.{CostsAbove, cost_at}
use Rattle.problem_core.specs.Changes.Paths.{IsPath}
use Rattle.problem_core.specs.Rays.{IsRay}
use Rattle.corner_laws.specs.Laws.{HasZeroColumn, IsMarkAt}

-- a lawful path of either kind has fewer than 3^N exchanges, where N counts rows and stays
abbrev pub PathsAreFew : Type 0
PathsAreFew = (dual : Bool) (p : Problem) (at : List Mark) (swaps : List Swap) → IsWhole p
    → IsPath dual p at swaps → length swaps < 3 ^ (length p.rows + length p.stays)

-- no outside mark's column is 0 at all levels
abbrev pub NoColumnIsZero : Type 0
NoColumnIsZero = (p : Problem) (at : List Mark) (m : Multipliers) (c : ℕ) (ray : ℕ → ℤ) → IsWhole p
    → IsCorner p at → AreMultipliersAt p at m → IsMarkAt p c → (IsIn c at → ⊥) → IsRay p at c ray
    → HasZeroColumn p m c → ⊥

-- along an exchange of a dual path the vector of the levels' costs does not fall
abbrev pub DualCostsNeverFall : Type 0
DualCostsNeverFall = (p : Problem) (at : List Mark) (s : Swap) (x y : Point) (level : ℕ) → IsWhole p
    → IsMarkAt p (place s.leave) → IsExchange p at s → StandsAt p at x → StandsAt p (exchanged s at) y
    → x.num (place s.leave) <ℤ pos 0 → NoNegativeColumn p (exchanged s at)
    → ((k : ℕ) → k < level → y.num one_column *ℤ cost_at p k x.num ≡ x.num one_column *ℤ cost_at p k y.num)
    → (y.num one_column *ℤ cost_at p level x.num) ≤ℤ (x.num one_column *ℤ cost_at p level y.num)

-- nor does it stay: it rises
abbrev pub DualCostsRise : Type 0
DualCostsRise = (p : Problem) (at : List Mark) (s : Swap) (x y : Point) → IsWhole p
    → IsMarkAt p (place s.leave) → IsExchange p at s → StandsAt p at x → StandsAt p (exchanged s at) y
    → x.num (place s.leave) <ℤ pos 0 → NoNegativeColumn p (exchanged s at)
    → ((k : ℕ) → y.num one_column *ℤ cost_at p k x.num ≡ x.num one_column *ℤ cost_at p k y.num) → ⊥

-- a corner with no negative value, no negative column and no required cost is best
abbrev pub EndIsBest : Type 0
EndIsBest = (p : Problem) (at : List Mark) → IsWhole p → NoNegativeValue p at → NoNegativeColumn p at
    → (CostsAbove p at 0 → ⊥) → (x : Point) × StandsAt p at x × IsBest p (assignment_at x)

-- where the required rows cost something, and no column of their level is negative, their multipliers refute
-- them
abbrev pub CostRefutes : Type 0
CostRefutes = (p : Problem) (at : List Mark) (m : Multipliers) → IsWhole p → AreMultipliersAt p at m
    → ((side : Side) → All (λ l. pos 0 ≤ℤ column m side l 0) (lines p)) → CostsAbove p at 0
    → IsRefutation p (λ id. m.times 0 (Held id))
