-- The levels and the facts of lines, as far as they are made.
use Rattle.std.specs.Prelude.{◌≡◌, ℕ, ◌+◌, ◌<◌, List, length, get_or, All, AllPairs, Any}
use Rattle.problem_core.specs.declared.parts.Level.TheVariants.{Priority}
use Rattle.problem_core.specs.declared.limits.TheConstants.{FIRST_STAY_LEVEL, REQUIRED}
use Rattle.problem_core.specs.Layout.{Line, Problem, Row, lines, rank_level}
use Rattle.problem_core.specs.Levels.{IsLevelAt}
use Rattle.path_levels.specs.declared.outline.LevelFacts.{LevelFacts}
use Rattle.path_levels.specs.declared.outline.LineFacts.{LineFacts}
use Rattle.path_levels.specs.Outlines.{IsFactsOf, number_at}

-- the level with this number is among them
abbrev pub HasNumber : List LevelFacts → ℕ → Type 0
HasNumber levels number = Any (λ f. f.number ≡ number) levels

-- it is the level of a rank's rows, with a number below n
abbrev pub IsRankLevel : ℕ → LevelFacts → Type 0
IsRankLevel n f = (f.number < n) × ((rank : ℕ) × (f.level ≡ Priority rank) × (f.number + rank ≡ REQUIRED))

-- the levels of the rows with a number below n, strongest first
pub record AreRankLevels (rows : List Row) (n : ℕ) (levels : List LevelFacts) : Type 0 where
  pub each : All (IsRankLevel n) levels
  pub rising : AllPairs (λ f g. f.number < g.number) levels
  pub rows_have : All (λ r. rank_level r.rank < n → HasNumber levels (rank_level r.rank)) rows

-- the levels of the rows, so many, and of the first n stays
pub record AreLevelsTo (p : Problem) (ranks n : ℕ) (levels : List LevelFacts) : Type 0 where
  pub count : length levels ≡ ranks + n
  pub each : All (λ f. IsLevelAt p f.level f.number) levels
  pub below : All (λ f. f.number < FIRST_STAY_LEVEL + n) levels
  pub rising : AllPairs (λ f g. f.number < g.number) levels
  pub rows_have : All (λ r. HasNumber levels (rank_level r.rank)) p.rows
  pub stays_are : (i : ℕ) → i < n → number_at levels (ranks + i) ≡ FIRST_STAY_LEVEL + i

-- the facts of the first n lines
pub record AreFactsTo (p : Problem) (levels : List LevelFacts) (n : ℕ) (facts : List LineFacts) : Type 0 where
  pub count : length facts ≡ n
  pub each : (k : ℕ) (l : Line) (f : LineFacts) → k < n
      → IsFactsOf levels (get_or (lines p) k l) (get_or facts k f)
