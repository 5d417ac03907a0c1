use Rattle.std.proofs.Common.{subst}
use Rattle.dual_run.specs.declared.ratios.Choice.{Choice}
use Rattle.dual_run.specs.Entering.{IsNoGreater}
use Rattle.dual_run.proofs.Choices.{no_greater_self}
use Rattle.dual_run.proofs.Turns.{free_lesser}
use Rattle.dual_run.proofs.entering.better.Goals as goal

pub returns-then-is_dear-clause-least : goal.returns-then-is_dear-clause-least
returns-then-is_dear-clause-least g c = no_greater_self c.args.c.now.problem c.args.c.now.marks c.args.found.choice

pub returns-then-is_dear-clause-next : goal.returns-then-is_dear-clause-next
returns-then-is_dear-clause-next g c =
    free_lesser c.args.c.now.problem c.args.c.now.marks c.args.leave c.args.found.choice c.args.next.mark c.args.next.by c.show_corner.ensures.kept c.requires.columns c.requires.found.choice
    (c.requires.free c.if-is_free.true) (c.is_dear.ensures.yes c.if-is_dear.true)

pub returns-clause-next : goal.returns-clause-next
returns-clause-next g c = subst (λ (f : Choice). IsNoGreater c.args.c.now.problem c.args.c.now.marks c.in_ok-best.best.choice f) c.found_at.ensures.choice c.in_ok-best.ensures.b
