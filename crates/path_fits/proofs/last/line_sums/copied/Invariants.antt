use Rattle.std.proofs.Common.{◌≡◌, take}
use Rattle.path_fits.proofs.last.line_sums.copied.Given as goal

abbrev pub invariant-loop-number : goal.invariant-loop-number
invariant-loop-number l = l.out.items ≡ take l.number-index l.fn.numbers
