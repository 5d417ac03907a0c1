use Rattle.primal_run.proofs.FirstLevel.{required_enters}
use Rattle.primal_run.proofs.settling.required_entering.Goals as goal

pub returns-in-Some-clause-enters : goal.returns-in-Some-clause-enters
returns-in-Some-clause-enters g c = required_enters c.args.c.now.problem c.args.c.now.marks c.in-Some.mark c.show_corner.ensures.kept c.in-Some.ensures

pub returns-in-Some-required_pick-clause-enters : goal.returns-in-Some-required_pick-clause-enters
returns-in-Some-required_pick-clause-enters g c = required_enters c.args.c.now.problem c.args.c.now.marks c.in-Some-required_pick.mark c.show_corner.ensures.kept c.in-Some-required_pick.ensures.some
