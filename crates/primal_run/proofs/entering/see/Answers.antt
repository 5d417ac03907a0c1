use Rattle.std.proofs.Common.{subst, slice_get}
use Rattle.corner_view.specs.Seen.{HasNoNegative, IsNamed}
use Rattle.corner_ends.proofs.Marks.{got_holds, same_got}
use Rattle.primal_run.proofs.entering.see.Goals as goal

pub negative_of-requires : goal.negative_of-requires
negative_of-requires g c = got_holds (IsNamed c.args.c.now.problem) c.args.c.now.candidates c.args.i c.candidate-row.result c.show_corner.ensures.named c.candidate-row.ensures

pub unlist-requires-clause-settled : goal.unlist-requires-clause-settled
unlist-requires-clause-settled g c = λ name e.
    subst (HasNoNegative c.args.c.now.problem c.args.c.now.marks) (same_got (slice_get c.args.c.now.candidates c.args.i) c.candidate-row.result name c.candidate-row.ensures e) c.in-None.ensures.none
