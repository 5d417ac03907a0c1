use Rattle.std.proofs.Common.{arith}
use Rattle.std.proofs.lemmas.List.{take_rest}
use Rattle.std.proofs.lemmas.Bool.{false≢true}
use Rattle.claim_text.proofs.CutPlaces.{place_fits, place_more}
use Rattle.claim_text.proofs.cut.claim_start.Goals as goal

pub overflow_add-count : goal.overflow_add-count
overflow_add-count c = omega (arith, place_fits c.args.input.now c.loop-line.at c.loop-line.count c.loop-line.invariant, c.requires)

pub loop-line-preserved : goal.loop-line-preserved
loop-line-preserved c =
    let rest = take_rest c.args.input.now c.loop-line.at in
    let next = rw rest at c.line_length-at.ensures in
    let here = rw rest at c.in-Some.ensures.1 in
    place_more c.args.input.now c.in-Some.line.now c.in-Some.ensures.0 c.loop-line.at c.loop-line.count c.line_length-at.result c.loop-line.invariant next here
    (λ begins. false≢true (rw c.if-begins_claim.false at (c.begins_claim.ensures.1 begins)))
