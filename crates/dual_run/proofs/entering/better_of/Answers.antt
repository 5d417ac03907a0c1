use Rattle.dual_run.proofs.Turns.{before_choice_line}
use Rattle.dual_run.proofs.entering.better_of.Goals as goal

pub returns-in_ok-best-in-Some-clause-line : goal.returns-in_ok-best-in-Some-clause-line
returns-in_ok-best-in-Some-clause-line g c =
    before_choice_line c.args.c.now.problem c.args.c.now.marks c.args.leave c.in_ok-best-in-Some.best.choice c.in-Some.next c.args.row c.in-Some.ensures.some c.in-Some.ensures.row c.in-Some.ensures.other c.in_ok-best-in-Some.ensures.next
