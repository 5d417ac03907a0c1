use Rattle.problem_core.specs.declared.parts.RowName.TheVariants.{Held}
use Rattle.problem_core.specs.declared.parts.Side.TheVariants.{Under, Over}
use Rattle.corner_ends.proofs.Marks.{mark_is}
use Rattle.marker_remove.proofs.StayMoves.{row_named}
use Rattle.marker_remove.proofs.freeing.is_free.Goals as goal

pub is_inside-requires : goal.is_inside-requires
is_inside-requires g c = record { mark = mark_is c.args.c.now.problem c.mark_of.result (Held c.args.id) Under c.mark_of.ensures (row_named c.args.c.now.problem c.args.id c.requires) }

pub is_inside-requires-else-is_inside : goal.is_inside-requires-else-is_inside
is_inside-requires-else-is_inside g c = record { mark = mark_is c.args.c.now.problem c.mark_of-else-is_inside.result (Held c.args.id) Over c.mark_of-else-is_inside.ensures (row_named c.args.c.now.problem c.args.id c.requires) }
