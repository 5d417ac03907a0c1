use Rattle.std.proofs.Common.{◌≡◌, ◌∙◌, ◌↔◌, List, length, get_or, take_all, refl, sym, ap, subst, arith, rules, Option, IsTrue}
use Rattle.std.proofs.lemmas.Result.{err_from_is_err_and}
use Rattle.problem_core.specs.Changes.Begins.{AreExchanges}
use Rattle.problem_core.specs.Corners.{Swap}
use Rattle.path_lines.specs.declared.table.Inside.{Inside}
use Rattle.path_claims.specs.PathClauses.{AreCalledFor}
use Rattle.path_lines.specs.Tables.{AreLines, line_count}
use Rattle.path_lines.proofs.Iffs.{right_then, wrong_then}
use Rattle.path_claims.proofs.Results.{err_says, ok_says}
use Rattle.path_claims.proofs.Walking.Following.{swap_stuck}
use Rattle.path_lines.proofs.Walking.PlacedSwaps.{as_many}
use Rattle.path_claims.specs.Journeys.{AreSoundAhead, IsOnRoute}
use Rattle.path_claims.specs.Stations.{IsSizedTable}
use Rattle.path_claims.proofs.AlongSteps.{any_step, any_swap, no_room_on, no_swap, step_there, walk_begins, walked_more}
use Rattle.path_claims.proofs.JourneySteps.{usable_after}
use Rattle.path_claims.proofs.StationTables.{outline_long}
use Rattle.path_claims.proofs.along.walk.Goals as goal

pub loop-step-init : goal.loop-step-init
loop-step-init c = walk_begins c.args.case.p.now c.args.case.path.now c.args.case.outline.now c.args.station c.requires.arrived c.requires.usable c.requires.count

pub returns-in_err-table-clause-stop : goal.returns-in_err-table-clause-stop
returns-in_err-table-clause-stop c =
    let exit = err_from_is_err_and c.from_residual.result c.from_residual.ensures.1 in
    let there = step_there c.args.case.p.now c.args.case.path.now c.args.steps.now c.loop-step.step-index c.requires.steps c.loop-step-test.true in
    rw (exit.1, exit.2) (swap_stuck c.args.case.p.now c.args.case.path.now c.in_err-table.field-0.0 c.loop-step.station.count (λ other.
    let told = c.in_err-table.ensures.stop other in (
      told.0,
      λ unfit. no_room_on c.args.case.p.now c.args.case.path.now c.args.case.outline.now c.loop-step.step-index c.loop-step.station.count c.loop-step.station unfit c.loop-step.invariant.route c.loop-step.invariant.exchanges there.0 refl
          (err_says _ c.table_now.result _ told.1 c.table_now.ensures.unfit tt _ c.loop-step.invariant.route.station_is),
    )))

lines_long : (c : goal.After-is_exchange-arg-1) → length c.deref.result.now ≡ line_count c.args.case.p.now
lines_long c =
    ap (λ (zs : List (Option Inside)). length zs) c.deref.ensures.value ∙ (ok_says (IsSizedTable c.args.case.outline.now) c.table_now.result c.in_ok-table.table c.in_ok-table.ensures.ok c.table_now.ensures.sized).count ∙ outline_long c.args.case.p.now c.args.case.outline.now c.requires.case.outline_is

pub is_exchange-requires-clause-enter : goal.is_exchange-requires-clause-enter
is_exchange-requires-clause-enter c =
    let there = step_there c.args.case.p.now c.args.case.path.now c.args.steps.now c.loop-step.step-index c.requires.steps c.loop-step-test.true in
    omega (arith, lines_long c, there.1.0)

pub is_exchange-requires-clause-leave : goal.is_exchange-requires-clause-leave
is_exchange-requires-clause-leave c =
    let there = step_there c.args.case.p.now c.args.case.path.now c.args.steps.now c.loop-step.step-index c.requires.steps c.loop-step-test.true in
    omega (arith, lines_long c, there.1.1)

pub returns-then-not-is_exchange-clause-stop : goal.returns-then-not-is_exchange-clause-stop
returns-then-not-is_exchange-clause-stop c =
    let there = step_there c.args.case.p.now c.args.case.path.now c.args.steps.now c.loop-step.step-index c.requires.steps c.loop-step-test.true in
    no_swap c.args.case.p.now c.args.case.path.now c.args.case.outline.now c.loop-step.step-index any_swap c.loop-step.station c.in_ok-table.table (get_or c.args.steps.now c.loop-step.step-index any_step) c.loop-step.sound c.loop-step.called c.loop-step.invariant c.requires.corner there.0 there.2
    (ok_says _ c.table_now.result c.in_ok-table.table c.in_ok-table.ensures.ok c.table_now.ensures.table)
    (λ at is. wrong_then c.is_exchange.result (search rules) (c.is_exchange.ensures c.args.case.p.now at is.kept.there (subst (AreLines c.args.case.p.now at) (sym c.deref.ensures.value) is.kept.lines_are)))

pub loop-step-preserved : goal.loop-step-preserved
loop-step-preserved c =
    let there = step_there c.args.case.p.now c.args.case.path.now c.args.steps.now c.loop-step.step-index c.requires.steps c.loop-step-test.true in
    let next = c.station_after-station.ensures in
    walked_more c.args.case.p.now c.args.case.path.now c.args.case.outline.now c.loop-step.step-index any_swap c.loop-step.station c.station_after-station.result c.in_ok-table.table (get_or c.args.steps.now c.loop-step.step-index any_step) c.loop-step.sound c.loop-step.called c.is_sound_there-sound.result c.is_called_for-called.result c.loop-step.invariant c.requires.corner there.0 there.2 there.1
    (ok_says _ c.table_now.result c.in_ok-table.table c.in_ok-table.ensures.ok c.table_now.ensures.table)
    (λ at is. right_then c.is_exchange.result (search rules) (c.is_exchange.ensures c.args.case.p.now at is.kept.there (subst (AreLines c.args.case.p.now at) (sym c.deref.ensures.value) is.kept.lines_are)))
    c.is_sound_there-sound.ensures c.is_called_for-called.ensures
    (usable_after c.args.case.p.now c.args.case.outline.now c.in_ok-table.table (get_or c.args.steps.now c.loop-step.step-index any_step) c.station_after-station.result c.requires.case.outline_is (ok_says _ c.table_now.result c.in_ok-table.table c.in_ok-table.ensures.ok c.table_now.ensures.sized) there.1 next.table next.step)
    next.table next.step next.count

pub returns-clause-exchanges : goal.returns-clause-exchanges
returns-clause-exchanges c =
    let all = take_all c.loop-step.step-index c.args.case.path.now.swaps (omega (arith, c.loop-step-test.false, as_many c.args.case.p.now c.args.case.path.now.swaps c.args.steps.now c.requires.steps)) in
    subst (AreExchanges c.args.case.p.now c.args.case.path.now.corner) all c.loop-step.invariant.exchanges

pub returns-clause-arrived : goal.returns-clause-arrived
returns-clause-arrived c =
    let all = take_all c.loop-step.step-index c.args.case.path.now.swaps (omega (arith, c.loop-step-test.false, as_many c.args.case.p.now c.args.case.path.now.swaps c.args.steps.now c.requires.steps)) in
    subst (λ (ss : List Swap). IsOnRoute c.args.case.p.now c.args.case.path.now c.args.case.outline.now ss c.loop-step.station) all c.loop-step.invariant.route

pub returns-clause-sound : goal.returns-clause-sound
returns-clause-sound c =
    let all = take_all c.loop-step.step-index c.args.case.path.now.swaps (omega (arith, c.loop-step-test.false, as_many c.args.case.p.now c.args.case.path.now.swaps c.args.steps.now c.requires.steps)) in
    subst (λ (ss : List Swap). IsTrue c.loop-step.sound ↔ AreSoundAhead c.args.case.path.now.dual c.args.case.p.now c.args.case.path.now.corner ss) all c.loop-step.invariant.sound_is

pub returns-clause-called : goal.returns-clause-called
returns-clause-called c =
    let all = take_all c.loop-step.step-index c.args.case.path.now.swaps (omega (arith, c.loop-step-test.false, as_many c.args.case.p.now c.args.case.path.now.swaps c.args.steps.now c.requires.steps)) in
    subst (λ (ss : List Swap). IsTrue c.loop-step.called ↔ AreCalledFor c.args.case.path.now.dual c.args.case.p.now c.args.case.path.now.corner ss) all c.loop-step.invariant.called_is
