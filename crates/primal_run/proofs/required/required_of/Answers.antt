use Rattle.primal_run.specs.Entering.{IsChoice}
use Rattle.primal_run.proofs.FirstLevel.{choice_required}
use Rattle.corner_ends.proofs.Marks.{some_here}
use Rattle.primal_run.proofs.required.required_of.Goals as goal

pub returns-then-is_required_level : goal.returns-then-is_required_level
returns-then-is_required_level g c =
    choice_required c.args.c.now.problem c.args.c.now.marks c.in_ok-choice.choice (c.is_required_level.ensures c.if-is_required_level.true)
    (some_here c.args.found (IsChoice c.args.c.now.problem c.args.c.now.marks) c.in_ok-choice.choice c.requires c.in_ok-choice.was)
