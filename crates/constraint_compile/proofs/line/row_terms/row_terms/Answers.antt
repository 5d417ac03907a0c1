use Rattle.std.proofs.Common.{arith}
use Rattle.constraint_compile.proofs.RowTerms.{no_terms, all_terms, too_many}
use Rattle.constraint_compile.proofs.line.row_terms.row_terms.Goals as goal

pub loop-place-init : goal.loop-place-init
loop-place-init c = rw c.in_ok-out.ensures.items (no_terms c.args.attrs.now c.args.sum.now.numbers.items)

pub returns-clause-terms : goal.returns-clause-terms
returns-clause-terms c = λ b sum. all_terms b c.args.attrs.now c.args.sum.now.scale c.args.sum.now.numbers.items c.loop-place.place c.loop-place.out.items (omega (arith, c.loop-place.auto.place-end, c.loop-place-test.false)) c.loop-place.invariant sum

pub returns-clause-many : goal.returns-clause-many
returns-clause-many c = λ b sum many. too_many b c.args.sum.now.scale c.loop-place.out.items sum.only.above (all_terms b c.args.attrs.now c.args.sum.now.scale c.args.sum.now.numbers.items c.loop-place.place c.loop-place.out.items (omega (arith, c.loop-place.auto.place-end, c.loop-place-test.false)) c.loop-place.invariant sum) many
