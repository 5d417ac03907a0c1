-- Exchanges after which no column is negative.
use Rattle.std.specs.Prelude.{ℕ, []}
use Rattle.problem_core.specs.declared.parts.Side.{Side}
use Rattle.problem_core.specs.Corners.{Swap}
use Rattle.corner_exchange.specs.Swaps.Exchanges.{IsPair, marks_after}
use Rattle.corner_exchange.specs.Swaps.TurnedLevels.{IsTurn}
use Rattle.corner_table.specs.Tables.{Lists, problem_of}
use Rattle.corner_view.specs.Seen.{AreCandidates}
use Rattle.corner_writings.specs.declared.levels.Pair.{Pair}

-- it is an exchange of the pair, after which no outside mark has a negative column
abbrev pub IsSettledBy : Lists → Pair → Type 0
IsSettledBy t pair = (s : Swap) × IsPair t pair s × AreCandidates (problem_of t) (marks_after t s) []

-- it is a turn of the line to this side, after which none has
abbrev pub IsSettledAt : Lists → ℕ → Side → Type 0
IsSettledAt t line side = (s : Swap) × IsTurn t line side s
    × AreCandidates (problem_of t) (marks_after t s) []
