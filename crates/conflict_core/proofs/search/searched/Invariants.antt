use Rattle.std.proofs.Common.{◌≡◌}
use Rattle.conflict_core.specs.Searches.{IsSearch, left_of}
use Rattle.conflict_core.specs.Trials.{nothing}
use Rattle.conflict_core.proofs.search.searched.Given as goal

abbrev pub invariant-loop-e : goal.invariant-loop-e
invariant-loop-e g l = record { same : l.e ≡ nothing; way : IsSearch l.t.problem.now l.s }

abbrev pub decreases-loop-e : goal.decreases-loop-e
decreases-loop-e g l = left_of l.s
