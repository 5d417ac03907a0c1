-- The lines and levels of a problem, in order.
use Rattle.std.specs.Prelude.{◌≡◌, ℕ, ◌<◌, ◌≤◌, List, [], ◌∷◌, map, length, slice_index_or}
use Rattle.std.specs.Prelude.{pos, ◌<ℤ◌, ◌≤ℤ◌, All, AllPairs}
use Rattle.problem_core.specs.declared.limits.TheConstants.{COEFFICIENT_LIMIT, REQUIRED, WEIGHT_LIMIT}
use Rattle.problem_core.specs.Layout.{Line, Problem, lines}
use Rattle.problem_core.specs.Certificates.{over_weight, under_weight}
use Rattle.problem_core.specs.Levels.{IsLevelAt}
use Rattle.path_levels.specs.declared.outline.LineFacts.{LineFacts}
use Rattle.path_levels.specs.declared.outline.LevelFacts.{LevelFacts}
use Rattle.path_levels.specs.declared.outline.Outline.{Outline}

-- the number of the level at a place
abbrev pub number_at : List LevelFacts → ℕ → ℕ
number_at levels at = slice_index_or (map (λ f. f.number) levels) at 0

-- the level at the place is one of rows
abbrev pub IsOfRows : Outline → ℕ → Type 0
IsOfRows outline place = number_at outline.levels.items place ≤ REQUIRED

-- the level at the place is a stay's
abbrev pub IsOfStay : Outline → ℕ → Type 0
IsOfStay outline place = REQUIRED < number_at outline.levels.items place

-- the facts are the line's
pub record IsFactsOf (levels : List LevelFacts) (l : Line) (facts : LineFacts) : Type 0 where
  pub name : facts.name ≡ l.name
  pub under : facts.under ≡ pos (under_weight l.rel l.weight)
  pub over : facts.over ≡ pos (over_weight l.rel l.weight)
  pub scale : facts.scale ≡ pos l.scale
  pub level : facts.level < length levels
  pub number : number_at levels facts.level ≡ l.level

-- the facts of these lines, in order
abbrev pub AreFactsOf : List LevelFacts → List Line → List LineFacts → Type 0
AreFactsOf levels [] [] = Unit {0}
AreFactsOf levels [] (f ∷ facts) = ⊥
AreFactsOf levels (l ∷ ls) [] = ⊥
AreFactsOf levels (l ∷ ls) (f ∷ facts) = IsFactsOf levels l f × AreFactsOf levels ls facts

-- the levels of the problem's lines, strongest first
pub record AreLevelFacts (p : Problem) (levels : List LevelFacts) : Type 0 where
  pub each : All (λ f. IsLevelAt p f.level f.number) levels
  pub rising : AllPairs (λ f g. f.number < g.number) levels

-- the facts of the problem's lines, its levels, and how many rows it has
pub record IsOutline (p : Problem) (outline : Outline) : Type 0 where
  pub lines_are : AreFactsOf outline.levels.items (lines p) outline.lines.items
  pub levels_are : AreLevelFacts p outline.levels.items
  pub rows_are : outline.rows ≡ length p.rows

-- ---- what is kept without a problem

-- a cost is from 0 to the greatest weight, a scale from 1 to the greatest one
pub record IsPriced (facts : LineFacts) : Type 0 where
  pub under : (pos 0 ≤ℤ facts.under) × (facts.under ≤ℤ pos WEIGHT_LIMIT)
  pub over : (pos 0 ≤ℤ facts.over) × (facts.over ≤ℤ pos WEIGHT_LIMIT)
  pub scale : (pos 0 <ℤ facts.scale) × (facts.scale ≤ℤ pos COEFFICIENT_LIMIT)

-- and the line's level is one of so many
pub record IsSizedFacts (levels : ℕ) (facts : LineFacts) : Type 0 where
  pub priced : IsPriced facts
  pub level : facts.level < levels

-- each line of the outline has such facts, and its level is one of the outline's
abbrev pub IsSizedOutline : Outline → Type 0
IsSizedOutline outline = All (IsSizedFacts (length outline.levels.items)) outline.lines.items
