use Rattle.std.proofs.Common.{rules, SFits, to_z, of_z, ◌≡◌, ◌∙◌, ◌<ℤ◌, ℤ, pos, refl, sym, ap, subst}
use Rattle.std.specs.Int.{w64}
use Rattle.std.proofs.lemmas.Int.{to_z-of_z}
use Rattle.frac_core.specs.Fraction.{IsFitting}
use Rattle.problem_core.specs.declared.parts.Level.{Level}
use Rattle.problem_core.specs.declared.stops.What.TheVariants.{Level as LevelOf}
use Rattle.problem_core.specs.declared.stops.Quantity.TheVariants.{Plain}
use Rattle.frac_core.specs.declared.memory.Stop.TheVariants.{Refused}
use Rattle.corner_writings.specs.declared.levels.fitting.Draft.{Draft}
use Rattle.corner_exchange.specs.Swaps.Exchanges.{marks_after}
use Rattle.corner_exchange.specs.Swaps.LevelChanges.{IsStopOf}
use Rattle.corner_table.specs.Tables.{lists_of, priority_at}
use Rattle.corner_exchange.proofs.Pivots.LevelCosts.{IsDraftOf, change_after, draft_unfit, level_stop, unit_above, unit_fits}
use Rattle.corner_exchange.proofs.exchange.level_change.Goals as goal

pub does_level_fit-requires-clause-unit : goal.does_level_fit-requires-clause-unit
does_level_fit-requires-clause-unit c =
    let fits : SFits w64 c.priority_at-old.result.unit = search rules in
    let is : c.priority_at-old.result.unit ≡ (priority_at (lists_of c.args.table.now) c.args.l).unit = search rules in
    subst (λ (z : ℤ). pos 0 <ℤ z) (sym (to_z-of_z w64 c.priority_at-old.result.unit fits ∙ is)) (unit_above (lists_of c.args.table.now) c.args.l c.requires.pivot.kept c.requires.level.0)

pub does_level_fit-requires-clause-unit_fits : goal.does_level_fit-requires-clause-unit_fits
does_level_fit-requires-clause-unit_fits c =
    let fits : SFits w64 c.priority_at-old.result.unit = search rules in
    let is : c.priority_at-old.result.unit ≡ (priority_at (lists_of c.args.table.now) c.args.l).unit = search rules in
    subst (λ (z : ℤ). IsFitting z) (sym (to_z-of_z w64 c.priority_at-old.result.unit fits ∙ is)) (unit_fits (lists_of c.args.table.now) c.args.l c.requires.pivot.kept c.requires.level.0)

pub returns-then-not-does_level_fit-clause-stop : goal.returns-then-not-does_level_fit-clause-stop
returns-then-not-does_level_fit-clause-stop c s at =
    let t = lists_of c.args.table.now in
    let fits : SFits w64 c.priority_at-old.result.unit = search rules in
    let unit-is : c.priority_at-old.result.unit ≡ (priority_at (lists_of c.args.table.now) c.args.l).unit = search rules in
    let rows-is : c.priority_at-old.result.rows ≡ (priority_at (lists_of c.args.table.now) c.args.l).rows = search rules in
    let draft : Draft = record { level = c.args.l; unit = to_z w64 (of_z w64 c.priority_at-old.result.unit); pair = c.args.pivot.now.pair; rows = c.priority_at-old.result.rows } in
    let is : IsDraftOf (lists_of c.args.table.now) c.args.pivot.now c.args.l (record { level = c.args.l; unit = to_z w64 (of_z w64 c.priority_at-old.result.unit); pair = c.args.pivot.now.pair; rows = c.priority_at-old.result.rows }) =
    record { level_is = refl; rows_is = rows-is; unit_is = to_z-of_z w64 c.priority_at-old.result.unit fits ∙ unit-is; pair_is = refl } in
    let stop : IsStopOf c.args.l c.unfit-stop.result = c.unfit-stop.ensures ∙ ap (λ (level : Level). Refused (Plain (LevelOf level))) (c.level_of.ensures.priority c.requires.level.0) in
    level_stop t (marks_after (lists_of c.args.table.now) s) c.args.l c.unfit-stop.result c.requires.level.0 stop
    (draft_unfit t c.args.pivot.now s c.args.l c.in_ok-row.row c.in_ok-value.value draft c.requires.pivot.kept at c.requires.level.0 c.requires.level.1 is c.in_ok-row.ensures.kept c.in_ok-row.ensures.ok c.in_ok-value.ensures.ok c.in_ok-value.ensures.kept.lowest (c.if-not-does_level_fit.ensures.unfit refl))

pub returns-clause-ok : goal.returns-clause-ok
returns-clause-ok c s at =
    let t = lists_of c.args.table.now in
    let fits : SFits w64 c.priority_at-old.result.unit = search rules in
    let unit-is : c.priority_at-old.result.unit ≡ (priority_at (lists_of c.args.table.now) c.args.l).unit = search rules in
    let rows-is : c.priority_at-old.result.rows ≡ (priority_at (lists_of c.args.table.now) c.args.l).rows = search rules in
    let draft : Draft = record { level = c.args.l; unit = to_z w64 (of_z w64 c.priority_at-old.result.unit); pair = c.args.pivot.now.pair; rows = c.priority_at-old.result.rows } in
    let is : IsDraftOf (lists_of c.args.table.now) c.args.pivot.now c.args.l (record { level = c.args.l; unit = to_z w64 (of_z w64 c.priority_at-old.result.unit); pair = c.args.pivot.now.pair; rows = c.priority_at-old.result.rows }) =
    record { level_is = refl; rows_is = rows-is; unit_is = to_z-of_z w64 c.priority_at-old.result.unit fits ∙ unit-is; pair_is = refl } in
    change_after t c.args.pivot.now s c.args.l c.in_ok-row.row c.in_ok-value.value draft c.requires.pivot.kept at c.requires.level.0 c.requires.level.1 is c.in_ok-row.ensures.kept c.in_ok-row.ensures.ok c.in_ok-value.ensures.ok (c.if-not-does_level_fit.ensures.fits refl)
