use Rattle.std.proofs.Common.{◌≡◌, ℕ, ◌<◌, pos, get_or}
use Rattle.path_levels.specs.declared.sums.LevelSum.{LevelSum}
use Rattle.path_levels.specs.Costs.{cost_in}
use Rattle.path_levels.proofs.columns.is_negative_first.Given as goal

abbrev pub invariant-loop-place : goal.invariant-loop-place
invariant-loop-place l = (k : ℕ) (d : LevelSum) → k < l.place → cost_in l.spot.side l.facts l.spot.at k (get_or l.levels k d) ≡ pos 0
