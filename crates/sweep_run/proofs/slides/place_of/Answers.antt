use Rattle.std.proofs.Common.{rules, ◌≡◌, SFits}
use Rattle.std.specs.Int.{w128}
use Rattle.std.proofs.lemmas.Int.{to_z-of_z}
use Rattle.std.proofs.lemmas.Result.{on_err_weaker}
use Rattle.frac_core.specs.Fraction.{IsRatio, IsUnfitRatio}
use Rattle.problem_core.proofs.GapFacts.GapSigns.{on_err}
use Rattle.sweep_run.specs.declared.ways.Place.{Place}
use Rattle.sweep_run.specs.Ways.{IsPlace, IsPlaceOf, IsUnfitCrossing}
use Rattle.sweep_run.proofs.CrossingPlaces.{constant_unfit, far_unfit, place_is}
use Rattle.sweep_run.proofs.Ends.{both_ok}
use Rattle.sweep_run.proofs.slides.place_of.Goals as goal

pub returns-in_err-back-clause-unfit : goal.returns-in_err-back-clause-unfit
returns-in_err-back-clause-unfit c =
    let p : SFits w128 c.args.crossing.now.p = search rules in
    let q : SFits w128 c.args.crossing.now.q = search rules in
    let unfit : IsUnfitRatio c.args.crossing.now.p c.args.crossing.now.q = simp (to_z-of_z, p, q) at c.in_err-back.ensures.unfit in
    on_err c.from_residual.result (IsUnfitCrossing c.args.way.now c.args.crossing.now) (far_unfit c.args.way.now c.args.crossing.now c.num.ensures.kept.lowest.above unfit)

pub returns-clause-place : goal.returns-clause-place
returns-clause-place c =
    let p : SFits w128 c.args.crossing.now.p = search rules in
    let q : SFits w128 c.args.crossing.now.q = search rules in
    let ratio : IsRatio c.in_ok-back.back c.args.crossing.now.p c.args.crossing.now.q = simp (to_z-of_z, p, q) at c.in_ok-back.ensures.value in
    both_ok (IsPlace c.args.way.now.up c.args.way.now.end) (λ (place : Place). place.back ≡ c.in_ok-back.back) (IsPlaceOf c.args.way.now c.args.crossing.now) c.before_end.result
    (λ place is same. place_is c.args.way.now c.args.crossing.now c.in_ok-back.back place (record { lowest = c.in_ok-back.ensures.lowest; fits = c.in_ok-back.ensures.fits }) ratio is same)
    c.before_end.ensures.place c.before_end.ensures.back

pub returns-clause-unfit : goal.returns-clause-unfit
returns-clause-unfit c =
    let p : SFits w128 c.args.crossing.now.p = search rules in
    let q : SFits w128 c.args.crossing.now.q = search rules in
    let ratio : IsRatio c.in_ok-back.back c.args.crossing.now.p c.args.crossing.now.q = simp (to_z-of_z, p, q) at c.in_ok-back.ensures.value in
    on_err_weaker c.before_end.result (constant_unfit c.args.way.now c.args.crossing.now c.in_ok-back.back c.requires.q ratio) c.before_end.ensures.unfit
