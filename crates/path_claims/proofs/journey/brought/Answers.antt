use Rattle.std.proofs.Common.{◌≡◌, ◌∙◌, List, length, ap, sym, subst, Option, arith}
use Rattle.std.proofs.lemmas.Result.{err_from_is_err_and}
use Rattle.path_lines.specs.declared.table.Inside.{Inside}
use Rattle.path_lines.specs.declared.spots.Spot.{Spot}
use Rattle.path_lines.specs.Sides.{IsWithin}
use Rattle.path_lines.specs.Tables.{line_count}
use Rattle.path_claims.specs.Bringing.{IsBringing, NothingBrings}
use Rattle.path_claims.proofs.Results.{err_says, ok_says}
use Rattle.path_claims.specs.Stations.{IsSizedTable}
use Rattle.path_claims.proofs.JourneySteps.{bring_stuck, brings_in, brings_nothing, usable_after}
use Rattle.path_claims.proofs.StationTables.{outline_long}
use Rattle.path_claims.proofs.journey.brought.Goals as goal

table_sized : (c : goal.After-bringing_in-arg-1) → IsSizedTable c.args.case.outline.now c.in_ok-table.table
table_sized c = ok_says _ c.table_now.result c.in_ok-table.table c.in_ok-table.ensures.ok c.table_now.ensures.sized

table_long : (c : goal.After-bringing_in-arg-1) → length c.deref.result.now ≡ line_count c.args.case.p.now
table_long c = ap (λ (zs : List (Option Inside)). length zs) c.deref.ensures.value ∙ (table_sized c).count ∙ outline_long c.args.case.p.now c.args.case.outline.now c.requires.case.outline_is

pub bringing_in-requires-clause-enter : goal.bringing_in-requires-clause-enter
bringing_in-requires-clause-enter c = omega (arith, table_long c, c.requires.enter)

pub bringing_in-requires-clause-wanted : goal.bringing_in-requires-clause-wanted
bringing_in-requires-clause-wanted c = c.requires.case.wanted_are.count ∙ sym (table_long c)

pub returns-in_err-table-clause-stop : goal.returns-in_err-table-clause-stop
returns-in_err-table-clause-stop c =
    let exit = err_from_is_err_and c.from_residual.result c.from_residual.ensures.1 in
    rw (exit.1, exit.2) (bring_stuck c.args.case c.args.enter c.args.station c.in_err-table.field-0.0 (λ other.
    let told = c.in_err-table.ensures.stop other in
    (told.0, err_says _ c.table_now.result _ told.1 c.table_now.ensures.unfit tt)))

pub returns-in_default-clause-stop : goal.returns-in_default-clause-stop
returns-in_default-clause-stop c =
    brings_nothing c.args.case c.args.enter c.args.station c.in_ok-table.table c.requires.case (subst (λ (zs : List (Option Inside)). NothingBrings zs c.args.case.wanted.now c.args.enter) c.deref.ensures.value c.in_default.ensures.none)
    (ok_says _ c.table_now.result c.in_ok-table.table c.in_ok-table.ensures.ok c.table_now.ensures.table)

step_within : (c : goal.After-station_after) → IsWithin (line_count c.args.case.p.now) c.in-Some.step
step_within c =
    let long : length c.deref.result.now ≡ line_count c.args.case.p.now = ap (λ (zs : List (Option Inside)). length zs) c.deref.ensures.value ∙ (ok_says (IsSizedTable c.args.case.outline.now) c.table_now.result c.in_ok-table.table c.in_ok-table.ensures.ok c.table_now.ensures.sized).count ∙ outline_long c.args.case.p.now c.args.case.outline.now c.requires.case.outline_is in
    let enter : c.in-Some.step.enter.at ≡ c.args.enter.at = ap (λ (s : Spot). s.at) c.in-Some.ensures.enter in
    (omega (arith, enter, c.requires.enter), omega (arith, c.in-Some.ensures.leave, long))

pub returns-clause-usable : goal.returns-clause-usable
returns-clause-usable c =
    let sized : IsSizedTable c.args.case.outline.now c.in_ok-table.table = ok_says (IsSizedTable c.args.case.outline.now) c.table_now.result c.in_ok-table.table c.in_ok-table.ensures.ok c.table_now.ensures.sized in
    usable_after c.args.case.p.now c.args.case.outline.now c.in_ok-table.table c.in-Some.step c.station_after.result c.requires.case.outline_is sized (step_within c) c.station_after.ensures.table c.station_after.ensures.step

pub returns-clause-brought : goal.returns-clause-brought
returns-clause-brought c =
    brings_in c.args.case c.args.enter c.args.station c.station_after.result c.in_ok-table.table c.in-Some.step c.requires.case c.in-Some.ensures.enter (step_within c)
    (subst (λ (zs : List (Option Inside)). IsBringing zs c.args.case.wanted.now c.in-Some.step) c.deref.ensures.value c.in-Some.ensures.some)
    (ok_says _ c.table_now.result c.in_ok-table.table c.in_ok-table.ensures.ok c.table_now.ensures.table) c.station_after.ensures.table c.station_after.ensures.step c.station_after.ensures.count
