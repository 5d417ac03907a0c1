use Rattle.std.proofs.Common.{subst, sym}
use Rattle.problem_core.specs.declared.parts.Mark.{Mark}
use Rattle.problem_core.specs.declared.parts.Side.TheVariants.{Under, Over}
use Rattle.corner_view.specs.Fronts.{IsFoundOf}
use Rattle.corner_ends.proofs.Marks.{mark_is, no_negative}
use Rattle.primal_run.proofs.entering.negative_of.Goals as goal

pub negative_front-requires-clause-mark : goal.negative_front-requires-clause-mark
negative_front-requires-clause-mark g c = mark_is c.args.c.now.problem c.mark_at-under.result c.args.row Under c.mark_at-under.ensures c.requires

pub negative_front-requires-clause-found : goal.negative_front-requires-clause-found
negative_front-requires-clause-found g c =
    subst (λ (m : Mark). IsFoundOf c.args.c.now.problem c.args.c.now.marks m c.fronts-fronts.result.under) (sym c.mark_at-under.ensures) c.fronts-fronts.ensures.under

pub negative_front-requires-in-None-clause-mark : goal.negative_front-requires-in-None-clause-mark
negative_front-requires-in-None-clause-mark g c = mark_is c.args.c.now.problem c.mark_at-over.result c.args.row Over c.mark_at-over.ensures c.requires

pub negative_front-requires-in-None-clause-found : goal.negative_front-requires-in-None-clause-found
negative_front-requires-in-None-clause-found g c =
    subst (λ (m : Mark). IsFoundOf c.args.c.now.problem c.args.c.now.marks m c.fronts-fronts.result.over) (sym c.mark_at-over.ensures) c.fronts-fronts.ensures.over

pub returns-in_err-front-in-None-clause-none : goal.returns-in_err-front-in-None-clause-none
returns-in_err-front-in-None-clause-none g c =
    rw c.from_residual.ensures (no_negative c.args.c.now.problem c.args.c.now.marks c.args.row c.mark_at-under.result c.mark_at-over.result c.mark_at-under.ensures c.mark_at-over.ensures c.in-None.ensures.none c.in_err-front-in-None.ensures.none)
