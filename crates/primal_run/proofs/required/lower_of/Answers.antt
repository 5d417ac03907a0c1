use Rattle.std.proofs.Common.{ℤ, pos, ◌≤ℤ◌}
use Rattle.problem_core.specs.declared.parts.Level.TheVariants.{Priority}
use Rattle.problem_core.specs.declared.parts.Side.TheVariants.{Under, Over}
use Rattle.corner_view.specs.Seen.{IsReducedAt}
use Rattle.primal_run.specs.Entering.{HasNoRequired}
use Rattle.corner_ends.proofs.Marks.{mark_is, none_maps}
use Rattle.primal_run.proofs.FirstLevel.{no_required}
use Rattle.primal_run.proofs.required.lower_of.Goals as goal

pub lower_at-requires : goal.lower_at-requires
lower_at-requires g c = mark_is c.args.c.now.problem c.mark_at.result c.args.row Under c.mark_at.ensures c.requires

pub lower_at-requires-in-None : goal.lower_at-requires-in-None
lower_at-requires-in-None g c = mark_is c.args.c.now.problem c.mark_at-in-None.result c.args.row Over c.mark_at-in-None.ensures c.requires

pub returns-in-None-clause-none : goal.returns-in-None-clause-none
returns-in-None-clause-none g c =
    none_maps c.lower_at-in-None.result ((z : ℤ) × IsReducedAt c.args.c.now.problem c.args.c.now.marks (Priority 1000) c.mark_at-in-None.result z × (pos 0 ≤ℤ z)) (HasNoRequired c.args.c.now.problem c.args.c.now.marks c.args.row)
    (λ over. no_required c.args.c.now.problem c.args.c.now.marks c.args.row c.mark_at.result c.mark_at-in-None.result c.mark_at.ensures c.mark_at-in-None.ensures c.in-None.ensures.none over)
    c.lower_at-in-None.ensures.none
