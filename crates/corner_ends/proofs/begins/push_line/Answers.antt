use Rattle.problem_core.specs.declared.parts.Side.TheVariants.{Under, Over}
use Rattle.corner_ends.proofs.Marks.{mark_is}
use Rattle.corner_ends.proofs.begins.push_line.Goals as goal

pub push_mark-requires : goal.push_mark-requires
push_mark-requires g c = mark_is c.args.c.now.problem c.mark_at.result c.args.row Under c.mark_at.ensures c.requires

pub push_mark-requires-2 : goal.push_mark-requires-2
push_mark-requires-2 g c = mark_is c.args.c.now.problem c.mark_at-2.result c.args.row Over c.mark_at-2.ensures c.requires
