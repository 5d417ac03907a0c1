use Rattle.std.proofs.lemmas.List.{take_rest}
use Rattle.claim_text.proofs.CutPlaces.{last_more}
use Rattle.claim_text.proofs.cut.last_line_start.Goals as goal

pub loop-at-preserved : goal.loop-at-preserved
loop-at-preserved c =
    let next = rw (take_rest c.args.text.now c.loop-at.at) at c.line_length.ensures in
    let more = last_more c.args.text.now c.loop-at.at c.line_length.result c.loop-at.invariant.within c.loop-at.invariant.whole next c.if-next-text.false in
    record { within = more.0; whole = more.1 }
