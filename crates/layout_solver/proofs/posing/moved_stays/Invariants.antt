use Rattle.std.proofs.Common.{◌≡◌, take}
use Rattle.layout_solver.proofs.Posed.Moves.{moved}
use Rattle.layout_solver.proofs.posing.moved_stays.Given as goal

abbrev pub invariant-loop-stay : goal.invariant-loop-stay
invariant-loop-stay g l = l.stays.items ≡ moved (take l.stay-index l.held) l.engine.values
