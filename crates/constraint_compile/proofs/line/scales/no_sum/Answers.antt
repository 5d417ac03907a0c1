use Rattle.constraint_compile.proofs.Sums.Beginnings.{zero_sum, zero_kept}
use Rattle.std.proofs.Common.{arith}
use Rattle.constraint_compile.proofs.line.scales.no_sum.Goals as goal

pub returns-clause-kept : goal.returns-clause-kept
returns-clause-kept c = zero_kept c.args.attrs.now c.loop.numbers.items (omega (arith, c.loop.invariant.long, c.loop-test.false, c.loop.auto.index-end)) c.loop.invariant.zero

pub returns-clause-sum : goal.returns-clause-sum
returns-clause-sum c = zero_sum c.args.attrs.now c.loop.numbers.items (omega (arith, c.loop.invariant.long, c.loop-test.false, c.loop.auto.index-end)) c.loop.invariant.zero
