use Rattle.std.proofs.Common.{◌≡◌, ◌∙◌, ◌<◌, length, sym, ap, arith, None}
use Rattle.std.specs.Prelude.{slice_index_or}
use Rattle.std.proofs.lemmas.List.{get_or_default}
use Rattle.std.proofs.lemmas.Result.{err_from_is_err_and}
use Rattle.path_lines.proofs.Iffs.{right_then, wrong_then}
use Rattle.path_claims.specs.declared.stations.Station.{Station}
use Rattle.path_claims.proofs.JourneySteps.{mark_came, mark_stopped, mark_was_inside}
use Rattle.path_claims.proofs.StationTables.{outline_long}
use Rattle.path_claims.proofs.journey.with_mark.Goals as goal

pub returns-then-is_one-clause-next : goal.returns-then-is_one-clause-next
returns-then-is_one-clause-next c =
    let within : c.args.enter.at < length c.args.journey.sides.items = omega (arith, c.requires.enter, c.requires.usable.sides) in
    let here : slice_index_or c.args.journey.sides.items c.args.enter.at None ≡ c.index.result.now = get_or_default c.args.journey.sides.items c.args.enter.at None c.index.result.now within ∙ sym c.index.ensures in
    mark_was_inside c.args.case c.args.journey c.args.enter c.requires.enter (here ∙ right_then c.is_one.result c.if-is_one.true c.is_one.ensures)

pub returns-in_err-station-clause-stop : goal.returns-in_err-station-clause-stop
returns-in_err-station-clause-stop c =
    let within : c.args.enter.at < length c.args.journey.sides.items = omega (arith, c.requires.enter, c.requires.usable.sides) in
    let here : slice_index_or c.args.journey.sides.items c.args.enter.at None ≡ c.index.result.now = get_or_default c.args.journey.sides.items c.args.enter.at None c.index.result.now within ∙ sym c.index.ensures in
    let exit = err_from_is_err_and c.from_residual.result c.from_residual.ensures.1 in
    rw (exit.1, exit.2) (mark_stopped c.args.case c.args.journey c.args.enter c.in_err-station.field-0.0 c.requires.enter
    (λ same. wrong_then c.is_one.result c.if-is_one.false c.is_one.ensures (sym here ∙ same)) c.in_err-station.ensures.stop)

pub returns-clause-count : goal.returns-clause-count
returns-clause-count c =
    let same : c.journey_after.result.station.count ≡ c.in_ok-station.station.count = ap (λ (k : Station). k.count) c.journey_after.ensures.station in
    omega (arith, same, c.in_ok-station.ensures.count)

pub returns-clause-next : goal.returns-clause-next
returns-clause-next c =
    let within : c.args.enter.at < length c.args.journey.sides.items = omega (arith, c.requires.enter, c.requires.usable.sides) in
    let here : slice_index_or c.args.journey.sides.items c.args.enter.at None ≡ c.index.result.now = get_or_default c.args.journey.sides.items c.args.enter.at None c.index.result.now within ∙ sym c.index.ensures in
    mark_came c.args.case c.args.journey c.journey_after.result c.in_ok-station.station c.args.enter c.requires.enter
    (λ same. wrong_then c.is_one.result c.if-is_one.false c.is_one.ensures (sym here ∙ same)) c.in_ok-station.ensures.brought c.journey_after.ensures.station c.journey_after.ensures.sides

pub journey_after-requires-clause-sides : goal.journey_after-requires-clause-sides
journey_after-requires-clause-sides c = c.requires.usable.sides ∙ sym (outline_long c.args.case.p.now c.args.case.outline.now c.requires.case.outline_is)
