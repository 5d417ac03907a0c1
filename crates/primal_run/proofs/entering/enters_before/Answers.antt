use Rattle.primal_run.proofs.FirstLevel.{choice_level, choice_named}
use Rattle.primal_run.proofs.entering.enters_before.Goals as goal

pub is_stronger-requires-clause-a : goal.is_stronger-requires-clause-a
is_stronger-requires-clause-a g c = choice_level c.args.c.now.problem c.args.c.now.marks c.args.a c.requires.a

pub is_stronger-requires-clause-b : goal.is_stronger-requires-clause-b
is_stronger-requires-clause-b g c = choice_level c.args.c.now.problem c.args.c.now.marks c.args.b c.requires.b

pub is_weaker-requires-clause-a : goal.is_weaker-requires-clause-a
is_weaker-requires-clause-a g c = choice_named c.args.c.now.problem c.args.c.now.marks c.args.a c.requires.a

pub is_weaker-requires-clause-b : goal.is_weaker-requires-clause-b
is_weaker-requires-clause-b g c = choice_named c.args.c.now.problem c.args.c.now.marks c.args.b c.requires.b
