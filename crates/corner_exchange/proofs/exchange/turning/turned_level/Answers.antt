use Rattle.std.proofs.Common.{rules, SFits, to_z, of_z, ◌≡◌, ◌∙◌, ◌<ℤ◌, ◌<◌, ◌-◌, ℕ, ℤ, pos, refl, sym, ap, subst}
use Rattle.std.specs.Int.{w64}
use Rattle.std.proofs.lemmas.Int.{to_z-of_z}
use Rattle.frac_core.specs.Fraction.{IsFitting}
use Rattle.problem_core.specs.declared.parts.Level.{Level}
use Rattle.problem_core.specs.declared.parts.Level.TheVariants.{Priority}
use Rattle.problem_core.specs.declared.stops.What.TheVariants.{Level as LevelOf}
use Rattle.problem_core.specs.declared.stops.Quantity.TheVariants.{Plain}
use Rattle.frac_core.specs.declared.memory.Stop.TheVariants.{Refused}
use Rattle.corner_writings.specs.declared.levels.fitting.Draft.{Draft}
use Rattle.corner_table.specs.declared.table.Slot.{Slot}
use Rattle.corner_table.specs.declared.table.TheConstants.{LEVELS}
use Rattle.corner_table.specs.Tables.{lists_of, priority_at, slot_at}
use Rattle.corner_exchange.specs.Swaps.TurnedLevels.{IsHomeStop, IsTurnStop}
use Rattle.corner_exchange.proofs.Pivots.LevelCosts.{unit_above, unit_fits}
use Rattle.corner_exchange.proofs.Swaps.TurnedChanges.{IsTurnDraft, turn_draft_stop, turned_change}
use Rattle.corner_exchange.proofs.exchange.turning.turned_level.Goals as goal

pub does_level_fit-requires-clause-unit : goal.does_level_fit-requires-clause-unit
does_level_fit-requires-clause-unit c =
    let fits : SFits w64 c.priority_at-old.result.unit = search rules in
    let is : c.priority_at-old.result.unit ≡ (priority_at (lists_of c.args.table.now) c.slot_at-l.result.home).unit = search rules in
    let low : c.slot_at-l.result.home < LEVELS = subst (λ (s : Slot). s.home < LEVELS) (sym c.slot_at-l.ensures) c.requires.level in
    subst (λ (z : ℤ). pos 0 <ℤ z) (sym (to_z-of_z w64 c.priority_at-old.result.unit fits ∙ is)) (unit_above (lists_of c.args.table.now) c.slot_at-l.result.home c.requires.turn.kept low)

pub does_level_fit-requires-clause-unit_fits : goal.does_level_fit-requires-clause-unit_fits
does_level_fit-requires-clause-unit_fits c =
    let fits : SFits w64 c.priority_at-old.result.unit = search rules in
    let is : c.priority_at-old.result.unit ≡ (priority_at (lists_of c.args.table.now) c.slot_at-l.result.home).unit = search rules in
    let low : c.slot_at-l.result.home < LEVELS = subst (λ (s : Slot). s.home < LEVELS) (sym c.slot_at-l.ensures) c.requires.level in
    subst (λ (z : ℤ). IsFitting z) (sym (to_z-of_z w64 c.priority_at-old.result.unit fits ∙ is)) (unit_fits (lists_of c.args.table.now) c.slot_at-l.result.home c.requires.turn.kept low)

pub returns-then-not-does_level_fit-clause-stop : goal.returns-then-not-does_level_fit-clause-stop
returns-then-not-does_level_fit-clause-stop c s turn =
    let t = lists_of c.args.table.now in
    let fits : SFits w64 c.priority_at-old.result.unit = search rules in
    let unit-is : c.priority_at-old.result.unit ≡ (priority_at (lists_of c.args.table.now) c.slot_at-l.result.home).unit = search rules in
    let rows-is : c.priority_at-old.result.rows ≡ (priority_at (lists_of c.args.table.now) c.slot_at-l.result.home).rows = search rules in
    let low : c.slot_at-l.result.home < LEVELS = subst (λ (s : Slot). s.home < LEVELS) (sym c.slot_at-l.ensures) c.requires.level in
    let home : (slot_at (lists_of c.args.table.now) c.args.line).home ≡ c.slot_at-l.result.home = ap (λ (s : Slot). s.home) (sym c.slot_at-l.ensures) in
    let draft : Draft = record { level = c.slot_at-l.result.home; unit = to_z w64 (of_z w64 c.priority_at-old.result.unit); pair = record { enter = c.args.line; side = c.args.side; leave = c.args.line }; rows = c.priority_at-old.result.rows } in
    let is : IsTurnDraft (lists_of c.args.table.now) c.args.line c.args.side c.slot_at-l.result.home (record { level = c.slot_at-l.result.home; unit = to_z w64 (of_z w64 c.priority_at-old.result.unit); pair = record { enter = c.args.line; side = c.args.side; leave = c.args.line }; rows = c.priority_at-old.result.rows }) =
    record { level_is = refl; rows_is = rows-is; unit_is = to_z-of_z w64 c.priority_at-old.result.unit fits ∙ unit-is; pair_is = refl } in
    let stop : IsHomeStop (lists_of c.args.table.now) c.args.line (Refused (Plain (LevelOf c.level_of.result))) =
    ap (λ (level : Level). Refused (Plain (LevelOf level))) (c.level_of.ensures.priority low ∙ ap (λ (k : ℕ). Priority (1000 - k)) (sym home)) in
    turn_draft_stop t c.args.line c.args.side s c.slot_at-l.result.home c.in_ok-row.row c.in_ok-value.value draft (Refused (Plain (LevelOf c.level_of.result))) c.requires.turn.kept turn c.requires.level home is stop c.in_ok-row.ensures.kept c.in_ok-value.ensures.kept c.in_ok-row.ensures.ok c.in_ok-value.ensures.ok (c.if-not-does_level_fit.ensures.unfit refl)

pub returns-clause-ok : goal.returns-clause-ok
returns-clause-ok c s turn =
    let t = lists_of c.args.table.now in
    let fits : SFits w64 c.priority_at-old.result.unit = search rules in
    let unit-is : c.priority_at-old.result.unit ≡ (priority_at (lists_of c.args.table.now) c.slot_at-l.result.home).unit = search rules in
    let rows-is : c.priority_at-old.result.rows ≡ (priority_at (lists_of c.args.table.now) c.slot_at-l.result.home).rows = search rules in
    let home : (slot_at (lists_of c.args.table.now) c.args.line).home ≡ c.slot_at-l.result.home = ap (λ (s : Slot). s.home) (sym c.slot_at-l.ensures) in
    let draft : Draft = record { level = c.slot_at-l.result.home; unit = to_z w64 (of_z w64 c.priority_at-old.result.unit); pair = record { enter = c.args.line; side = c.args.side; leave = c.args.line }; rows = c.priority_at-old.result.rows } in
    let is : IsTurnDraft (lists_of c.args.table.now) c.args.line c.args.side c.slot_at-l.result.home (record { level = c.slot_at-l.result.home; unit = to_z w64 (of_z w64 c.priority_at-old.result.unit); pair = record { enter = c.args.line; side = c.args.side; leave = c.args.line }; rows = c.priority_at-old.result.rows }) =
    record { level_is = refl; rows_is = rows-is; unit_is = to_z-of_z w64 c.priority_at-old.result.unit fits ∙ unit-is; pair_is = refl } in
    turned_change t c.args.line c.args.side s c.slot_at-l.result.home c.in_ok-row.row c.in_ok-value.value draft c.requires.turn.kept turn c.requires.level home is c.in_ok-row.ensures.kept c.in_ok-value.ensures.kept c.in_ok-row.ensures.ok c.in_ok-value.ensures.ok (c.if-not-does_level_fit.ensures.fits refl)

pub returns-in_err-value-clause-stop : goal.returns-in_err-value-clause-stop
returns-in_err-value-clause-stop c =
    let stop : IsTurnStop (lists_of c.args.table.now) c.args.line c.args.side c.in_err-value.field-0.0 = c.in_err-value.ensures.stop c.args.side in
    search rules
