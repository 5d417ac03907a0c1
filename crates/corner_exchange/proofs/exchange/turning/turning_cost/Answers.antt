use Rattle.std.proofs.Common.{rules, SFits, to_z, of_z, ◌≡◌, ◌∙◌, ◌<ℤ◌, ◌-ℤ◌, ◌<◌, ℤ, pos, neg_ℤ, sym, ap, subst}
use Rattle.std.specs.Int.{w64}
use Rattle.std.proofs.lemmas.Int.{to_z-of_z}
use Rattle.frac_core.specs.Fraction.{IsFitting}
use Rattle.corner_table.specs.declared.table.Slot.{Slot}
use Rattle.corner_table.specs.declared.table.TheConstants.{LEVELS}
use Rattle.corner_table.specs.Tables.{lists_of, priority_at}
use Rattle.corner_exchange.specs.Swaps.TurnedLevels.{IsAnyTurnStop, IsTurnedValue, counts_at}
use Rattle.corner_writings.proofs.LevelFacts.LevelReadFacts.{fitting_cost, negated}
use Rattle.corner_exchange.proofs.Pivots.LevelCosts.{unit_above, unit_fits}
use Rattle.corner_exchange.proofs.Swaps.TurnedChanges.{turn_cost_stop, turned_value_of}
use Rattle.corner_exchange.proofs.exchange.turning.turning_cost.Goals as goal
use Rattle.frac_core.proofs.Results.{ok_implies, err_implies as err_all}

pub named_sum-requires-clause-d : goal.named_sum-requires-clause-d
named_sum-requires-clause-d c =
    let fits : SFits w64 c.priority_at.result.unit = search rules in
    let is : c.priority_at.result.unit ≡ (priority_at (lists_of c.args.table.now) c.slot_at-home.result.home).unit = search rules in
    let low : c.slot_at-home.result.home < LEVELS = subst (λ (s : Slot). s.home < LEVELS) (sym c.slot_at-home.ensures) c.requires.count.level in
    subst (λ (z : ℤ). IsFitting z) (sym (to_z-of_z w64 c.priority_at.result.unit fits ∙ is)) (unit_fits (lists_of c.args.table.now) c.slot_at-home.result.home c.requires.turn.1.kept low)

pub named_sum-requires-clause-above : goal.named_sum-requires-clause-above
named_sum-requires-clause-above c =
    let fits : SFits w64 c.priority_at.result.unit = search rules in
    let is : c.priority_at.result.unit ≡ (priority_at (lists_of c.args.table.now) c.slot_at-home.result.home).unit = search rules in
    let low : c.slot_at-home.result.home < LEVELS = subst (λ (s : Slot). s.home < LEVELS) (sym c.slot_at-home.ensures) c.requires.count.level in
    subst (λ (z : ℤ). pos 0 <ℤ z) (sym (to_z-of_z w64 c.priority_at.result.unit fits ∙ is)) (unit_above (lists_of c.args.table.now) c.slot_at-home.result.home c.requires.turn.1.kept low)

number : (c : goal.After-named_sum) → to_z w64 (of_z w64 (pos 0 -ℤ to_z w64 (of_z w64 c.args.count))) ≡ neg_ℤ (pos (counts_at (lists_of c.args.table.now) c.args.line))
number c =
    let count : SFits w64 c.args.count = search rules in
    negated c.args.count (pos (counts_at (lists_of c.args.table.now) c.args.line)) count (fitting_cost c.args.count c.requires.count.fits) c.requires.count.count_is

scale : (c : goal.After-named_sum) → to_z w64 (of_z w64 c.priority_at.result.unit) ≡ (priority_at (lists_of c.args.table.now) c.slot_at-home.result.home).unit
scale c =
    let fits : SFits w64 c.priority_at.result.unit = search rules in
    let is : c.priority_at.result.unit ≡ (priority_at (lists_of c.args.table.now) c.slot_at-home.result.home).unit = search rules in
    to_z-of_z w64 c.priority_at.result.unit fits ∙ is

pub returns-clause-ok : goal.returns-clause-ok
returns-clause-ok c =
    ok_implies c.named_sum.result _ (IsTurnedValue (lists_of c.args.table.now) c.args.line)
    (λ f ratio. turned_value_of (lists_of c.args.table.now) c.args.line c.slot_at-home.result.home c.value_at.result c.value_at-2.result f (to_z w64 (of_z w64 (pos 0 -ℤ to_z w64 (of_z w64 c.args.count)))) (to_z w64 (of_z w64 c.priority_at.result.unit))
    (ap (λ (s : Slot). s.home) (sym c.slot_at-home.ensures)) c.value_at.ensures c.value_at-2.ensures (number c) (scale c) ratio)
    c.named_sum.ensures.ok

pub returns-clause-stop : goal.returns-clause-stop
returns-clause-stop c =
    err_all c.named_sum.result _ (IsAnyTurnStop (lists_of c.args.table.now) c.args.line)
    (λ stop h side s turn. turn_cost_stop (lists_of c.args.table.now) c.args.line side c.slot_at-home.result.home c.value_at.result c.value_at-2.result (to_z w64 (of_z w64 (pos 0 -ℤ to_z w64 (of_z w64 c.args.count)))) (to_z w64 (of_z w64 c.priority_at.result.unit)) stop c.requires.turn.1.kept c.requires.count.level (h.0 ∙ c.requires.stop)
    (ap (λ (s : Slot). s.home) (sym c.slot_at-home.ensures)) c.value_at.ensures c.value_at-2.ensures (number c) (scale c) h.1 s turn)
    c.named_sum.ensures.err
