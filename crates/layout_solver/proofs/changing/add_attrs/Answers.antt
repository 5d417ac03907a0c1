use Rattle.std.proofs.Common.{get_or}
use Rattle.layout_solver.specs.Starts.{attrs_of}
use Rattle.layout_solver.proofs.Starts.MovedProblems.{next_room, no_stay}
use Rattle.layout_solver.proofs.changing.add_attrs.Goals as goal

pub add_attr-requires-clause-fresh : goal.add_attr-requires-clause-fresh
add_attr-requires-clause-fresh g c =
    no_stay c.loop-attr.c.problem.stays (get_or c.args.attrs.now c.loop-attr.attr-index 0)
    (next_room (attrs_of c.loop-attr.c.problem) c.args.attrs.now c.loop-attr.attr-index 0 c.loop-attr-test.true c.loop-attr.invariant.room).1
