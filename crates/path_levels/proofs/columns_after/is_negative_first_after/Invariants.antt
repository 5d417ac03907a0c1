use Rattle.std.proofs.Common.{◌≡◌, ℕ, ◌<◌, pos, get_or}
use Rattle.path_levels.specs.declared.columns_after.WideLevel.{WideLevel}
use Rattle.path_levels.specs.Exchanges.WideCosts.{wide_cost}
use Rattle.path_levels.proofs.columns_after.is_negative_first_after.Given as goal

abbrev pub invariant-loop-place : goal.invariant-loop-place
invariant-loop-place l = (k : ℕ) (d : WideLevel) → k < l.place → wide_cost l.spot.side l.facts l.spot.at k (get_or l.next k d) ≡ pos 0
