use Rattle.std.proofs.Common.{◌≡◌, ◌<◌, ◌≤◌, ap, arith, length, slice_index_or, subst, sym}
use Rattle.frac_core.proofs.Bools.{not-both as not_both}
use Rattle.corner_table.specs.declared.table.Slot.{Slot}
use Rattle.corner_table.specs.Kept.{HasCost}
use Rattle.corner_table.specs.Tables.{lists_of, slot_at}
use Rattle.corner_writings.specs.Walks.{IsLowestCost}
use Rattle.corner_writings.proofs.LevelFacts.LevelFrontFacts.{home_within, none_more}
use Rattle.corner_writings.proofs.LevelFacts.LowestFronts.{cost_met, home_cost, home_met, none_met}
use Rattle.corner_writings.proofs.levels.fronts.lowest.Goals as goal

pub returns-then-l-home-clause-lowest : goal.returns-then-l-home-clause-lowest
returns-then-l-home-clause-lowest c =
    let le : (slot_at (lists_of c.args.table.now) c.args.line).home ≤ slice_index_or c.column-l-items.result.now c.loop-l.l-index 0 =
    subst (λ (s : Slot). s.home ≤ slice_index_or c.column-l-items.result.now c.loop-l.l-index 0) c.slot_at-home.ensures c.if-l-home.true in
    subst (λ (s : Slot). IsLowestCost (lists_of c.args.table.now) c.args.line s.home) (sym c.slot_at-home.ensures)
    (home_met (lists_of c.args.table.now) c.args.line c.column-l-items.result.now c.loop-l.l-index (home_cost (lists_of c.args.table.now) c.args.line c.requires.kept c.requires.line) c.column-l-items.ensures.value.rising c.loop-l-test.true
    (λ m nonzero. (c.column-l-items.ensures.value.exact m).1 nonzero) c.loop-l.invariant le)

pub returns-then-l-home-clause-within : goal.returns-then-l-home-clause-within
returns-then-l-home-clause-within c = subst (λ (s : Slot). s.home < length c.args.table.now.slots.items) (sym c.slot_at-home.ensures) (home_within (lists_of c.args.table.now) c.args.line c.requires.kept c.requires.line)

pub returns-then-has_cost-clause-lowest : goal.returns-then-has_cost-clause-lowest
returns-then-has_cost-clause-lowest c =
    let e : c.slot_at-home.result.home ≡ (slot_at (lists_of c.args.table.now) c.args.line).home = ap (λ (s : Slot). s.home) c.slot_at-home.ensures in
    cost_met (lists_of c.args.table.now) c.args.line c.column-l-items.result.now c.loop-l.l-index (c.has_cost.ensures.0 c.if-has_cost.true) c.column-l-items.ensures.value.rising c.loop-l-test.true
    (λ m nonzero. (c.column-l-items.ensures.value.exact m).1 nonzero) c.loop-l.invariant (omega (arith, c.if-l-home.false, e))

pub loop-l-preserved : goal.loop-l-preserved
loop-l-preserved c =
    none_more (HasCost (lists_of c.args.table.now)) c.column-l-items.result.now c.loop-l.l-index c.loop-l.invariant (λ h. not_both c.has_cost.result (c.has_cost.ensures.1 h) c.if-has_cost.false)

pub returns-clause-lowest : goal.returns-clause-lowest
returns-clause-lowest c =
    subst (λ (s : Slot). IsLowestCost (lists_of c.args.table.now) c.args.line s.home) (sym c.slot_at-home.ensures)
    (none_met (lists_of c.args.table.now) c.args.line c.column-l-items.result.now c.loop-l.l-index (home_cost (lists_of c.args.table.now) c.args.line c.requires.kept c.requires.line) c.loop-l-test.false
    (λ m nonzero. (c.column-l-items.ensures.value.exact m).1 nonzero) c.loop-l.invariant)

pub returns-clause-within : goal.returns-clause-within
returns-clause-within c = subst (λ (s : Slot). s.home < length c.args.table.now.slots.items) (sym c.slot_at-home.ensures) (home_within (lists_of c.args.table.now) c.args.line c.requires.kept c.requires.line)
