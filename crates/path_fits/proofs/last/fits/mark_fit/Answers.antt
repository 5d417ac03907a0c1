use Rattle.std.proofs.Common.{◌≡◌, ◌≢◌, ◌<◌, ◌↔◌, List, All, IsTrue, true, false, sym, subst, rules}
use Rattle.problem_core.specs.declared.parts.RowName.{RowName}
use Rattle.problem_core.specs.Corners.{IsIn, place_of}
use Rattle.path_lines.specs.Exchanges.Pivots.{next_marks}
use Rattle.path_lines.specs.Tables.{IsLineAt, IsSpotOf, line_count, name_at, names_of}
use Rattle.path_lines.proofs.Iffs.{right_then, wrong_then}
use Rattle.path_lines.proofs.Stops.{is_refused}
use Rattle.path_fits.proofs.LastCorner.AttrsAfter.{mark_in_fits, mark_in_unfit, mark_out, spot_within, unknown_mark}
use Rattle.path_fits.proofs.last.fits.mark_fit.Goals as goal
use Rattle.path_levels.proofs.Exchanges.FitFacts.{next_is_there as corner_after}

pub returns-in_default : goal.returns-in_default
returns-in_default c = λ marks turn lines unfit.
    let list : c.deref.result.now ≡ names_of c.args.case.p.now = search rules in
    unknown_mark c.args.case.p.now (next_marks c.args.case.p.now c.args.case.pivot.now marks) c.args.mark (corner_after c.args.case.p.now marks c.args.case.pivot.now turn) (subst (λ (ns : List RowName). All (λ n. n ≢ c.args.mark.row) ns) list c.in_default.ensures.none) unfit.0

pub returns-then-not-is_inside_after : goal.returns-then-not-is_inside_after
returns-then-not-is_inside_after c =
    let list : c.deref.result.now ≡ names_of c.args.case.p.now = search rules in
    let spot : IsSpotOf (names_of c.args.case.p.now) c.args.mark c.in-Some.spot = subst (λ (ns : List RowName). IsSpotOf ns c.args.mark c.in-Some.spot) list c.in-Some.ensures.some in
    let within : c.in-Some.spot.at < line_count c.args.case.p.now = spot_within c.args.case.p.now c.args.mark c.in-Some.spot spot in
    let down : c.is_inside_after.result ≡ false = search rules in
    λ marks turn lines unfit.
    let line : IsLineAt c.args.case.p.now marks (name_at c.args.case.p.now c.in-Some.spot.at) c.index-lines-spot.result =
    subst (IsLineAt c.args.case.p.now marks (name_at c.args.case.p.now c.in-Some.spot.at)) (sym c.index-lines-spot.is) (lines.each c.in-Some.spot.at c.index-lines-spot.result within) in
    let iff : IsTrue c.is_inside_after.result ↔ IsIn (place_of (name_at c.args.case.p.now c.in-Some.spot.at) c.in-Some.spot.side) (next_marks c.args.case.p.now c.args.case.pivot.now marks) =
    c.is_inside_after.ensures c.args.case.p.now marks turn.there turn.exchange turn.sized.enter_at turn.sized.leave_at within line in
    mark_out c.args.case.p.now (next_marks c.args.case.p.now c.args.case.pivot.now marks) c.args.mark c.in-Some.spot spot (λ i. wrong_then c.is_inside_after.result down iff i) unfit

pub returns-in-Ok : goal.returns-in-Ok
returns-in-Ok c =
    let list : c.deref.result.now ≡ names_of c.args.case.p.now = search rules in
    let spot : IsSpotOf (names_of c.args.case.p.now) c.args.mark c.in-Some.spot = subst (λ (ns : List RowName). IsSpotOf ns c.args.mark c.in-Some.spot) list c.in-Some.ensures.some in
    let within : c.in-Some.spot.at < line_count c.args.case.p.now = spot_within c.args.case.p.now c.args.mark c.in-Some.spot spot in
    λ marks turn lines unfit.
    let line : IsLineAt c.args.case.p.now marks (name_at c.args.case.p.now c.in-Some.spot.at) c.index-lines-spot.result =
    subst (IsLineAt c.args.case.p.now marks (name_at c.args.case.p.now c.in-Some.spot.at)) (sym c.index-lines-spot.is) (lines.each c.in-Some.spot.at c.index-lines-spot.result within) in
    let iff : IsTrue c.is_inside_after.result ↔ IsIn (place_of (name_at c.args.case.p.now c.in-Some.spot.at) c.in-Some.spot.side) (next_marks c.args.case.p.now c.args.case.pivot.now marks) =
    c.is_inside_after.ensures c.args.case.p.now marks turn.there turn.exchange turn.sized.enter_at turn.sized.leave_at within line in
    mark_in_fits c.args.case.p.now (next_marks c.args.case.p.now c.args.case.pivot.now marks) c.args.mark c.in-Some.spot _ (corner_after c.args.case.p.now marks c.args.case.pivot.now turn) spot
    (c.in-Ok.ensures.line c.args.case.p.now marks turn c.requires.count within line) c.in-Ok.ensures.kept unfit

pub returns-in-Err-Refused : goal.returns-in-Err-Refused
returns-in-Err-Refused c =
    let list : c.deref.result.now ≡ names_of c.args.case.p.now = search rules in
    let spot : IsSpotOf (names_of c.args.case.p.now) c.args.mark c.in-Some.spot = subst (λ (ns : List RowName). IsSpotOf ns c.args.mark c.in-Some.spot) list c.in-Some.ensures.some in
    let within : c.in-Some.spot.at < line_count c.args.case.p.now = spot_within c.args.case.p.now c.args.mark c.in-Some.spot spot in
    let up : c.is_inside_after.result ≡ true = search rules in
    λ marks turn lines.
    let line : IsLineAt c.args.case.p.now marks (name_at c.args.case.p.now c.in-Some.spot.at) c.index-lines-spot.result =
    subst (IsLineAt c.args.case.p.now marks (name_at c.args.case.p.now c.in-Some.spot.at)) (sym c.index-lines-spot.is) (lines.each c.in-Some.spot.at c.index-lines-spot.result within) in
    let iff : IsTrue c.is_inside_after.result ↔ IsIn (place_of (name_at c.args.case.p.now c.in-Some.spot.at) c.in-Some.spot.side) (next_marks c.args.case.p.now c.args.case.pivot.now marks) =
    c.is_inside_after.ensures c.args.case.p.now marks turn.there turn.exchange turn.sized.enter_at turn.sized.leave_at within line in
    mark_in_unfit c.args.case.p.now (next_marks c.args.case.p.now c.args.case.pivot.now marks) c.args.mark c.in-Some.spot (corner_after c.args.case.p.now marks c.args.case.pivot.now turn) spot (right_then c.is_inside_after.result up iff)
    (c.in-Err-Refused.ensures.unfit (is_refused _ _ c.in-Err-Refused.field-0-is) c.args.case.p.now marks turn c.requires.count within line)
