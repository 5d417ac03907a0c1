use Rattle.conflict_core.proofs.GivingWay.{trial_rises}
use Rattle.conflict_core.proofs.yielding.give_way.Goals as goal

pub clash_sum-requires : goal.clash_sum-requires
clash_sum-requires g c = record { rising = trial_rises c.args.t.now.problem.now c.args.s.now.rows.items c.args.rows.now c.show_whole.ensures c.requires.rows }

pub next_yielded-requires-clause-rising : goal.next_yielded-requires-clause-rising
next_yielded-requires-clause-rising g c = trial_rises c.args.t.now.problem.now c.args.s.now.rows.items c.args.rows.now c.show_whole.ensures c.requires.rows
