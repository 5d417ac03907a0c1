use Rattle.std.proofs.Common.{refl, SFits}
use Rattle.std.specs.Int.{w64}
use Rattle.std.proofs.lemmas.Int.{to_z-of_z}
use Rattle.path_lines.proofs.Stops.{is_refused}
use Rattle.path_fits.specs.TermSums.{IsTermMore, IsTermUnfit}
use Rattle.path_fits.proofs.last.terms.one_more.Goals as goal

pub returns-in-Ok-clause-next : goal.returns-in-Ok-clause-next
returns-in-Ok-clause-next c =
    let by : SFits w64 c.args.by = c.ranges.by in
    let next : IsTermMore c.args.sum.now c.args.by c.args.more.now c.in-Ok.next = simp to_z-of_z at c.in-Ok.ensures.next in
    next

pub returns-in-Err-Refused-clause-stop : goal.returns-in-Err-Refused-clause-stop
returns-in-Err-Refused-clause-stop c =
    let by : SFits w64 c.args.by = c.ranges.by in
    let unfit : IsTermUnfit c.args.sum.now c.args.by c.args.more.now = simp to_z-of_z at (c.in-Err-Refused.ensures.unfit (is_refused _ _ c.in-Err-Refused.field-0-is)) in
    (refl, unfit)
