use Rattle.std.proofs.Common.{◌≡◌, ◌++◌, take}
use Rattle.layout_solver.specs.Layouts.{stays_at, zeros}
use Rattle.layout_solver.proofs.posing.push_zeros.Given as goal

abbrev pub invariant-loop-attr : goal.invariant-loop-attr
invariant-loop-attr l = l.stays.items ≡ l.fn.stays.items ++ stays_at (zeros (take l.attr-index l.attrs))
