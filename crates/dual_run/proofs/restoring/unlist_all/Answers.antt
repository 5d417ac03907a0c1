use Rattle.std.proofs.Common.{subst, List}
use Rattle.problem_core.specs.declared.parts.Mark.{Mark}
use Rattle.problem_core.specs.Layout.{Problem}
use Rattle.problem_core.specs.Corners.{HasNegativeColumn}
use Rattle.corner_ends.proofs.Signs.{not_both_signs}
use Rattle.dual_run.proofs.restoring.unlist_all.Goals as goal

pub unlist-requires-clause-settled : goal.unlist-requires-clause-settled
unlist-requires-clause-settled g c = λ name got side column.
    not_both_signs c.args.c.now.problem c.args.c.now.marks (record { row = name; side = side }) c.show_corner.ensures.kept.whole c.show_corner.ensures.kept.rays c.requires
    (subst (λ (p : Problem). HasNegativeColumn p c.args.c.now.marks (record { row = name; side = side })) c.loop-c.invariant.problem
    (subst (λ (at : List Mark). HasNegativeColumn c.loop-c.c.problem at (record { row = name; side = side })) c.loop-c.invariant.marks column))
