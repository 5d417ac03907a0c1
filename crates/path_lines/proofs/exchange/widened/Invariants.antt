use Rattle.std.proofs.Common.{◌≡◌, take}
use Rattle.path_lines.proofs.exchange.widened.Given as goal

abbrev pub invariant-loop-number : goal.invariant-loop-number
invariant-loop-number l = l.out.items ≡ take l.number-index l.fn.numbers
