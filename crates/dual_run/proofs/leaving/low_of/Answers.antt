use Rattle.dual_run.proofs.LowMarks.{low_found, low_row, none_found}
use Rattle.dual_run.proofs.leaving.low_of.Goals as goal

pub returns-clause-some : goal.returns-clause-some
returns-clause-some g c = low_found c.args.c.now.problem c.args.c.now.marks c.args.row c.low_mark.result c.low_mark.ensures.some

pub returns-clause-row : goal.returns-clause-row
returns-clause-row g c = low_row c.args.c.now.problem c.args.c.now.marks c.args.row c.low_mark.result c.low_mark.ensures.some

pub returns-clause-none : goal.returns-clause-none
returns-clause-none g c =
    none_found c.args.c.now.problem c.args.c.now.marks c.args.row c.low_mark.result c.show_corner.ensures.kept c.requires c.low_mark.ensures.none
