use Rattle.corner_ends.proofs.Marks.{in_mark}
use Rattle.dual_run.proofs.leaving.low_at.Goals as goal

pub value-requires : goal.value-requires
value-requires g c = record { mark = in_mark c.args.c.now.problem c.args.c.now.marks c.in_ok-mark.mark c.show_corner.ensures.kept c.in_ok-mark.ensures.some.inside }
