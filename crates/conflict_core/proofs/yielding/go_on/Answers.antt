use Rattle.conflict_core.proofs.GivingWay.{trial_rises}
use Rattle.conflict_core.proofs.yielding.go_on.Goals as goal

pub next_yielded-requires-clause-rising : goal.next_yielded-requires-clause-rising
next_yielded-requires-clause-rising g c = trial_rises c.args.t.now.problem.now c.loop-last.s.rows.items c.args.clash.now.rows.now c.show_whole.ensures c.loop-last.invariant.rows
