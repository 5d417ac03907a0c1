use Rattle.std.proofs.Common.{◌≡◌, take, ◌∷◌, []}
use Rattle.problem_core.specs.Changes.Begins.{without_marks}
use Rattle.layout_solver.proofs.removing.marks_without.Given as goal

abbrev pub invariant-loop-mark : goal.invariant-loop-mark
invariant-loop-mark g l = l.out.items ≡ without_marks (l.id ∷ []) (take l.mark-index l.mark-items)
