use Rattle.dual_run.proofs.Choices.{choice_positive, no_greater_self}
use Rattle.dual_run.proofs.entering.lesser.Goals as goal

pub is_before-requires-clause-a : goal.is_before-requires-clause-a
is_before-requires-clause-a g c = choice_positive c.args.c.now.problem c.args.c.now.marks c.args.leave c.args.a.choice c.requires.a.choice

pub is_before-requires-clause-b : goal.is_before-requires-clause-b
is_before-requires-clause-b g c = choice_positive c.args.c.now.problem c.args.c.now.marks c.args.leave c.args.b.choice c.requires.b.choice

pub returns-then-before-clause-a : goal.returns-then-before-clause-a
returns-then-before-clause-a g c = no_greater_self c.args.c.now.problem c.args.c.now.marks c.args.a.choice

pub returns-else-before-clause-b : goal.returns-else-before-clause-b
returns-else-before-clause-b g c = no_greater_self c.args.c.now.problem c.args.c.now.marks c.args.b.choice
