-- A level's row by the places of lines, after an exchange.
use Rattle.std.specs.Prelude.{◌≡◌, ◌⊎◌, ℕ, ◌*◌, List, ℤ, pos, length, All}
use Rattle.problem_core.specs.declared.parts.Mark.{Mark}
use Rattle.problem_core.specs.Layout.{Problem, lines}
use Rattle.problem_core.specs.Corners.{Swap, exchanged}
use Rattle.corner_lines.specs.LineEquations.{IsOutsideLine}
use Rattle.corner_lines.specs.Levels.LevelRows.{AreFactors, HasLevelRow, IsEnteringNumber, IsLeavingNumber}
use Rattle.corner_lines.specs.Levels.LevelRows.{IsLevelExchange, exchanged_sum}
use Rattle.path_lines.specs.Numbers.{AreLowest}
use Rattle.path_lines.specs.Tables.{line_count, numbers_of}

-- the numbers of the outside lines after the exchange, before they are divided, and 0 at the others
pub record IsLevelList (p : Problem) (at : List Mark) (s : Swap) (k : ℕ) (number : List ℤ) (m : ℤ)
    (pivot : List ℤ) (extra : ℤ) (out : List ℤ) : Type 0 where
  pub count : length out ≡ line_count p
  pub outside : All (λ l. IsOutsideLine (exchanged s at) l.name → numbers_of (lines p) out l.name
      ≡ exchanged_sum k (numbers_of (lines p) number) m (numbers_of (lines p) pivot) s.leave.row extra l.name)
      (lines p)
  pub inside : All (λ l. IsOutsideLine (exchanged s at) l.name ⊎ (numbers_of (lines p) out l.name ≡ pos 0))
      (lines p)

-- in lowest terms they are the level's row at the next corner
abbrev pub CarriedLevelIsRow : Type 0
CarriedLevelIsRow = (p : Problem) (at : List Mark) (s : Swap) (level unit own size k low : ℕ)
    (number pivot out next : List ℤ) (n m extra : ℤ)
    → IsLevelExchange p at s level unit own (numbers_of (lines p) number) size (numbers_of (lines p) pivot)
    → IsOutsideLine at s.enter.row
    → IsEnteringNumber p s.enter level unit own (numbers_of (lines p) number) n
    → IsLeavingNumber p s.leave level unit own k extra → AreFactors size n k m
    → IsLevelList p at s k number m pivot extra out → AreLowest (pos (k * own)) out (pos low) next
    → HasLevelRow p (exchanged s at) level unit low (numbers_of (lines p) next)
