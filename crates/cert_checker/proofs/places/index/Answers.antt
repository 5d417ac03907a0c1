use Rattle.cert_checker.proofs.Indexes.{index-more}
use Rattle.cert_checker.proofs.places.index.Goals as goal

pub loop-place-preserved : goal.loop-place-preserved
loop-place-preserved c =
    index-more c.loop-place.places c.insert.new.self c.args.numbers.now c.loop-place.place c.loop-place-test.true c.in_ok-insert.ensures.updates c.loop-place.invariant
