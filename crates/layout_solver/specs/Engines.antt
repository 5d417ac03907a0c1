-- The parts of an engine.
use Rattle.std.specs.Prelude.{◌≡◌, ◌<◌, ℕ, List, [], ◌∷◌, length, map, take, All}
use Rattle.frac_core.specs.Fraction.{Fraction, IsLowest}
use Rattle.problem_core.specs.Corners.{IsCorner}
use Rattle.version_lists.specs.declared.versions.TheConstants.{VERSION_LIMIT}
use Rattle.corner_view.specs.Seen.{CornerView, IsKeptCorner, Scene}
use Rattle.corner_view.specs.Changes.{scene_of}
use Rattle.layout_solver.specs.Layouts.{AreValuesAt, IsKeptSolution, Layout, Solution}

-- the values of the attributes at the corner, and no others
pub record AreItsValues (s : Scene) (values : List (ℕ × Fraction)) : Type 0 where
  pub corner : IsCorner s.problem s.marks
  pub attributes : map (λ v. v.0) values ≡ map (λ y. y.attr) s.problem.stays
  pub lowest : All (λ v. IsLowest v.1) values
  pub stand : AreValuesAt s.problem s.marks values

-- the corner has values, which it fixes
abbrev pub HasValues : Scene → Type 0
HasValues s = (values : List (ℕ × Fraction)) × ∥ AreItsValues s values ∥₁

-- each of the corners has
abbrev pub HaveValues : List Scene → Type 0
HaveValues [] = Unit {0}
HaveValues (s ∷ before) = HasValues s × HaveValues before

-- the corner with these values, as a solution
abbrev pub solution_at : Scene → List (ℕ × Fraction) → Solution
solution_at s values = record { problem = s.problem; values = values; corner = s.marks }

-- the solutions of corners that have values
abbrev pub solutions_at : (before : List Scene) → HaveValues before → List Solution
solutions_at [] have = []
solutions_at (s ∷ before) have = solution_at s have.0.0 ∷ solutions_at before have.1

-- the layout of a corner that has these values, and whose earlier ones have theirs
abbrev pub layout_of : (c : CornerView) → List (ℕ × Fraction) → HaveValues c.before → Layout
layout_of c values earlier = record {
  problem = c.problem;
  values = values;
  corner = c.marks;
  earlier = solutions_at c.before earlier;
}

-- kept solutions; the present one is at a corner without a listed line
pub record IsSolved (c : CornerView) (values : List (ℕ × Fraction)) (before : HaveValues c.before)
    : Type 0 where
  pub kept : IsKeptSolution (solution_at (scene_of c) values)
  pub earlier : All IsKeptSolution (solutions_at c.before before)
  pub listed : c.candidates ≡ []

-- ---- on the way

-- a solved corner with its layout, and the same corner with itself as the latest of the earlier ones
pub record IsMarked (c mid : CornerView) (v : List (ℕ × Fraction)) (past : HaveValues c.before) (l : Layout)
    : Type 0 where
  pub solved : IsSolved c v past
  pub view : layout_of c v past ≡ l
  pub scene : scene_of mid ≡ scene_of c
  pub before : mid.before ≡ take VERSION_LIMIT (scene_of c ∷ c.before)
  pub room : length l.earlier < VERSION_LIMIT

-- the corner, whose layout was this one, has just been marked
pub record IsMarkedAs (mid : CornerView) (l : Layout) : Type 0 where
  pub from : CornerView
  pub values : List (ℕ × Fraction)
  pub past : HaveValues from.before
  pub is : IsMarked from mid values past l
  pub listed : mid.candidates ≡ []

-- the layout has the corner's problem, values and marks
pub record IsLayoutAt (c : CornerView) (l : Layout) : Type 0 where
  pub kept : IsKeptCorner c.problem c.marks
  pub problem : l.problem ≡ c.problem
  pub values : ∥ AreItsValues (scene_of c) l.values ∥₁
  pub corner : l.corner ≡ c.marks
