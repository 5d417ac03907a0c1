use Rattle.std.proofs.Common.{◌≡◌, ◌++◌, ◌∷◌}
use Rattle.claim_text.proofs.CutPlaces.{line_ended, rest_count}
use Rattle.claim_text.proofs.cut.line_length.Goals as goal

pub returns-in-Some : goal.returns-in-Some
returns-in-Some c =
    let cut : c.args.text.now ≡ c.first_part.result.part.now ++ 10 ∷ c.in-Some.rest.now = rw c.in-Some.is at c.first_part.ensures.text in
    line_ended c.args.text.now c.first_part.result.part.now c.in-Some.rest.now _ c.first_part.ensures.free cut (rest_count c.args.text.now c.first_part.result.part.now c.in-Some.rest.now cut)
