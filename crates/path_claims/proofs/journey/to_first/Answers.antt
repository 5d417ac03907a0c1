use Rattle.std.proofs.Common.{◌≡◌, List, length, ap, arith}
use Rattle.std.proofs.lemmas.Result.{err_from_is_err_and}
use Rattle.problem_core.specs.declared.parts.Mark.{Mark}
use Rattle.path_claims.proofs.Walking.WayBegins.{no_spot}
use Rattle.path_claims.proofs.JourneySteps.{corner_then, journey_done, journey_ends, journey_more, next_mark}
use Rattle.path_claims.proofs.journey.to_first.Goals as goal

pub loop-mark-init : goal.loop-mark-init
loop-mark-init c = record {
  usable = c.in_ok-journey.ensures.usable c.args.case.outline.now;
  count = omega (arith, c.in_ok-journey.ensures.count);
  journey = c.in_ok-journey.ensures.journey c.args.case.path.now c.args.case.outline.now;
}

pub returns-in_default-clause-stop : goal.returns-in_default-clause-stop
returns-in_default-clause-stop c =
    no_spot c.args.case.p.now c.args.case.path.now c.corner-mark-items.result.now c.args.case.names.now c.loop-mark.mark-index _ c.corner-mark-items.ensures c.requires.names_are c.loop-mark-test.true c.in_default.ensures.none

pub returns-in_err-journey-2-clause-stop : goal.returns-in_err-journey-2-clause-stop
returns-in_err-journey-2-clause-stop c =
    let exit = err_from_is_err_and c.from_residual-in_err-journey-2.result c.from_residual-in_err-journey-2.ensures.1 in
    rw (exit.1, exit.2) (c.in_err-journey-2.ensures.stop _ _ _
    (next_mark c.args.case.p.now c.args.case.path.now c.args.case.outline.now c.corner-mark-items.result.now c.args.case.names.now c.loop-mark.mark-index _ c.loop-mark.journey c.in-Some.enter c.corner-mark-items.ensures c.requires.names_are c.loop-mark-test.true c.in-Some.ensures.some c.loop-mark.invariant.journey))

pub loop-mark-preserved : goal.loop-mark-preserved
loop-mark-preserved c = record {
  usable = c.in_ok-journey-2.ensures.usable;
  count = omega (arith, c.in_ok-journey-2.ensures.count, c.loop-mark.invariant.count);
  journey = journey_more c.args.case.p.now c.args.case.path.now c.args.case.outline.now c.corner-mark-items.result.now c.loop-mark.mark-index _ c.in_ok-journey-2.journey c.corner-mark-items.ensures c.loop-mark-test.true
      (c.in_ok-journey-2.ensures.next _ _ _
      (next_mark c.args.case.p.now c.args.case.path.now c.args.case.outline.now c.corner-mark-items.result.now c.args.case.names.now c.loop-mark.mark-index _ c.loop-mark.journey c.in-Some.enter c.corner-mark-items.ensures c.requires.names_are c.loop-mark-test.true c.in-Some.ensures.some c.loop-mark.invariant.journey));
}

pub returns-clause-arrived : goal.returns-clause-arrived
returns-clause-arrived c =
    let count : length c.corner-mark-items.result.now ≡ length c.args.case.path.now.corner = ap (λ (ms : List Mark). length ms) c.corner-mark-items.ensures in
    journey_ends c.args.case.p.now c.args.case.path.now c.args.case.outline.now c.loop-mark.journey c.requires.rows c.requires.apart
    (journey_done c.args.case.p.now c.args.case.path.now c.args.case.outline.now c.loop-mark.mark-index c.loop-mark.journey (omega (arith, count, c.loop-mark-test.false)) c.loop-mark.invariant.journey)

pub returns-clause-corner : goal.returns-clause-corner
returns-clause-corner c =
    let count : length c.corner-mark-items.result.now ≡ length c.args.case.path.now.corner = ap (λ (ms : List Mark). length ms) c.corner-mark-items.ensures in
    corner_then c.args.case.p.now c.args.case.path.now c.args.case.outline.now c.loop-mark.journey c.requires.rows c.requires.apart
    (journey_done c.args.case.p.now c.args.case.path.now c.args.case.outline.now c.loop-mark.mark-index c.loop-mark.journey (omega (arith, count, c.loop-mark-test.false)) c.loop-mark.invariant.journey)
