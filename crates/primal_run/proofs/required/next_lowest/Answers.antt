use Rattle.corner_view.specs.Seen.{IsNamed}
use Rattle.corner_ends.proofs.Marks.{got_holds}
use Rattle.primal_run.proofs.required.next_lowest.Goals as goal

pub lower_of-requires : goal.lower_of-requires
lower_of-requires g c = got_holds (IsNamed c.args.c.now.problem) c.args.c.now.candidates c.args.i c.candidate.result c.show_corner.ensures.named c.candidate.ensures
