use Rattle.std.proofs.Common.{rules}
use Rattle.layout_solver.proofs.Changes.{some_values}
use Rattle.layout_solver.proofs.Solved.{none_before, none_layout, none_solved}
use Rattle.layout_solver.proofs.engine.Engine.new.Goals as goal

pub invariant_of-result : goal.invariant_of-result
invariant_of-result g c = (
  some_values c.in_ok-corner.corner c.show_corner.ensures.kept,
  (none_before c.in_ok-corner.corner c.in_ok-corner.ensures, tt),
)

pub invariant_of-result-2 : goal.invariant_of-result-2
invariant_of-result-2 g c = none_solved c.in_ok-corner.corner _ _ c.in_ok-corner.ensures c.show_corner.ensures.kept (search rules)

pub returns : goal.returns
returns g c = none_layout c.in_ok-corner.corner _ _ c.in_ok-corner.ensures c.show_corner.ensures.kept (search rules)
