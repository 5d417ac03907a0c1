-- How a primal run falls: what the levels cost at its corners, each with what that changes by where a mark of
-- the run's first corner may stand below 0.
use Rattle.std.specs.Prelude.{◌≡◌, ◌⊎◌, ℕ, ◌*◌, ◌<◌, cond, nat_eq, List, [], ◌∷◌, map, ℤ, pos, ◌+ℤ◌, ◌-ℤ◌}
use Rattle.std.specs.Prelude.{◌*ℤ◌, neg_ℤ, ◌<ℤ◌, All, AllPairs}
use Rattle.problem_core.specs.declared.parts.Mark.{Mark}
use Rattle.problem_core.specs.Kept.{IsWhole}
use Rattle.problem_core.specs.Layout.{Problem, lines, value_at}
use Rattle.problem_core.specs.Levels.{cost_at}
use Rattle.problem_core.specs.Rays.{HasRays}
use Rattle.problem_core.specs.Corners.{IsCorner, IsIn, NoNegativeValue, Swap, corners, equation, marks_of}
use Rattle.problem_core.specs.Corners.{one_column, place}
use Rattle.corner_laws.specs.Runs.{AreRunSwaps}

-- the point that stands at a corner, over `one`, and for each mark the change of the point where this mark is
-- `one` below what it must not fall under
pub record Extended : Type 0 where
  pub one : ℕ
  pub values : ℕ → ℕ → ℤ

-- less `one` at the column c
abbrev pub lowered : ℕ → ℕ → (ℕ → ℤ) → ℕ → ℤ
lowered one c v u = v u +ℤ neg_ℤ (pos one) *ℤ cond (nat_eq u c) (pos 1) (pos 0)

-- the outside marks stand at 0
abbrev pub IsOutsideNone : Problem → List Mark → (ℕ → ℤ) → Type 0
IsOutsideNone p at v = All (λ m. (IsIn (place m) at → ⊥) → v (place m) ≡ pos 0) (marks_of (lines p))

-- where the mark with the column c may be `one` below 0 all moves so, and the outside marks stay at their
-- bounds
pub record IsChange (p : Problem) (at : List Mark) (one c : ℕ) (v : ℕ → ℤ) : Type 0 where
  pub holds : All (λ l. value_at (lowered one c v) (equation l) ≡ pos 0) (lines p)
  pub still : lowered one c v one_column ≡ pos 0
  pub outside : IsOutsideNone p at v

-- the values at a corner of a run that began with the marks `first` inside, extended by such changes
pub record IsExtendedAt (p : Problem) (first at : List Mark) (e : Extended) : Type 0 where
  pub above : 0 < e.one
  pub solves : All (λ l. value_at (e.values one_column) (equation l) ≡ pos 0) (lines p)
  pub unit : e.values one_column one_column ≡ pos e.one
  pub outside : IsOutsideNone p at (e.values one_column)
  pub changes : All (λ f. IsChange p at e.one (place f) (e.values (place f))) first

-- what the level costs, or what its cost changes by
abbrev pub extended_cost : Problem → Extended → ℕ → ℕ → ℤ
extended_cost p e level c = cost_at p level (lowered e.one c (e.values c))

-- of these numbers the first that isn't 0 is above 0, and there is one
abbrev pub IsAboveZero : (ℕ → ℤ) → List ℕ → Type 0
IsAboveZero f [] = ⊥
IsAboveZero f (c ∷ cs) = (pos 0 <ℤ f c) ⊎ ((f c ≡ pos 0) × IsAboveZero f cs)

-- over one denominator both have the same extended costs up to a level, and there the first that differs is
-- less in the second one
pub record HasFallen (p : Problem) (columns : List ℕ) (before after : Extended) : Type 0 where
  pub factor : ℕ
  pub above : 0 < factor
  pub ones : after.one ≡ factor * before.one
  pub level : ℕ
  pub same : (j : ℕ) → j < level
      → All (λ c. extended_cost p after j c ≡ pos factor *ℤ extended_cost p before j c) columns
  pub less : IsAboveZero
      (λ c. pos factor *ℤ extended_cost p before level c -ℤ extended_cost p after level c) columns

-- the extended costs at the second corner are less than those at the first
pub record FallsTo (p : Problem) (first at next : List Mark) : Type 0 where
  pub before : Extended
  pub is_before : IsExtendedAt p first at before
  pub after : Extended
  pub is_after : IsExtendedAt p first next after
  pub fallen : HasFallen p (one_column ∷ map place first) before after

-- along a run the extended costs fall from each corner to each later one
abbrev pub RunFalls : Type 0
RunFalls = (p : Problem) (first : List Mark) (swaps : List Swap) → IsWhole p → IsCorner p first
    → HasRays p first → NoNegativeValue p first → AreRunSwaps p first first swaps
    → AllPairs (FallsTo p first) (corners first swaps)
