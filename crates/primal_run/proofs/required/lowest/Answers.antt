use Rattle.std.proofs.Common.{rules}
use Rattle.primal_run.proofs.FirstLevel.{required_named}
use Rattle.primal_run.proofs.required.lowest.Goals as goal

pub is_weaker-requires-clause-a : goal.is_weaker-requires-clause-a
is_weaker-requires-clause-a g c = required_named c.args.c.now.problem c.args.c.now.marks c.args.lower.mark c.requires.lower

pub is_weaker-requires-clause-b : goal.is_weaker-requires-clause-b
is_weaker-requires-clause-b g c = required_named c.args.c.now.problem c.args.c.now.marks c.in-Some.other.mark (search rules)
