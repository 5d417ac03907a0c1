use Rattle.std.proofs.Common.{subst, sym, arith}
use Rattle.problem_core.specs.declared.parts.Level.{Level}
use Rattle.problem_core.specs.Levels.{IsLevelAt}
use Rattle.dual_run.proofs.Turns.{growers_dear}
use Rattle.dual_run.proofs.entering.are_dear.Goals as goal

pub are_growers_dear-requires-clause-level : goal.are_growers_dear-requires-clause-level
are_growers_dear-requires-clause-level g c = (0, subst (λ (l : Level). IsLevelAt c.args.c.now.problem l 0) (sym c.required_level.ensures) (omega arith))

pub returns : goal.returns
returns g c = λ yes.
    growers_dear c.args.c.now.problem c.args.c.now.marks c.args.leave c.required_level.result c.show_corner.ensures.kept c.requires c.required_level.ensures (c.are_growers_dear.ensures yes)
