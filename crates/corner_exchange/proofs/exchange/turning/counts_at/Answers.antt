use Rattle.std.proofs.Common.{rules, SFits, ◌≡◌, ◌∙◌, ◌+◌, ◌+ℤ◌, ℕ, ℤ, pos, ap, ap₂, sym, subst, arith}
use Rattle.std.specs.Int.{w64}
use borrow.Author.Differences.{ints}
use Rattle.frac_core.specs.Fraction.{IsFitting}
use Rattle.problem_core.specs.declared.parts.Side.TheVariants.{Under, Over}
use Rattle.corner_table.specs.declared.table.Slot.{Slot}
use Rattle.corner_table.specs.Tables.{lists_of}
use Rattle.corner_table.specs.Reads.LevelNumbers.{IsCost, IsLinesSlot, count_of}
use Rattle.corner_writings.proofs.LevelFacts.LevelReadFacts.{added, added_fits, counted}
use Rattle.corner_exchange.proofs.LevelFacts.LevelCounts.{count_cost}
use Rattle.corner_exchange.proofs.Swaps.TurnedChanges.{counts_there, turn_line}
use Rattle.corner_exchange.proofs.exchange.turning.counts_at.Goals as goal

pub cost_share-requires-clause-counted : goal.cost_share-requires-clause-counted
cost_share-requires-clause-counted c =
    counted (lists_of c.args.table.now) c.slot_at-slot.result c.requires.turn.1.kept (c.args.line, turn_line (lists_of c.args.table.now) c.args.line c.requires.turn.0 c.requires.turn.1.swap c.requires.turn.1.is, sym c.slot_at-slot.ensures)

pub cost_share-requires-2-clause-counted : goal.cost_share-requires-2-clause-counted
cost_share-requires-2-clause-counted c =
    counted (lists_of c.args.table.now) c.slot_at-slot.result c.requires.turn.1.kept (c.args.line, turn_line (lists_of c.args.table.now) c.args.line c.requires.turn.0 c.requires.turn.1.swap c.requires.turn.1.is, sym c.slot_at-slot.ensures)

pub overflow_add-result : goal.overflow_add-result
overflow_add-result c =
    let t = lists_of c.args.table.now in
    let there : IsLinesSlot (lists_of c.args.table.now) c.slot_at-slot.result = (c.args.line, turn_line (lists_of c.args.table.now) c.args.line c.requires.turn.0 c.requires.turn.1.swap c.requires.turn.1.is, sym c.slot_at-slot.ensures) in
    let one : SFits w64 c.cost_share.result = search rules in
    let two : SFits w64 c.cost_share-2.result = search rules in
    added_fits c.cost_share.result c.cost_share-2.result one two
    (subst (λ (z : ℤ). IsCost z) (sym c.cost_share.ensures) (count_cost t c.slot_at-slot.result Under c.requires.turn.1.kept there)) (subst (λ (z : ℤ). IsCost z) (sym c.cost_share-2.ensures) (count_cost t c.slot_at-slot.result Over c.requires.turn.1.kept there))

both : (u o : ℕ) → pos u +ℤ pos o ≡ pos (u + o)
both u o = omega (arith, ints)

pub returns-clause-value : goal.returns-clause-value
returns-clause-value c =
    let t = lists_of c.args.table.now in
    let there : IsLinesSlot (lists_of c.args.table.now) c.slot_at-slot.result = (c.args.line, turn_line (lists_of c.args.table.now) c.args.line c.requires.turn.0 c.requires.turn.1.swap c.requires.turn.1.is, sym c.slot_at-slot.ensures) in
    let one : SFits w64 c.cost_share.result = search rules in
    let two : SFits w64 c.cost_share-2.result = search rules in
    added c.cost_share.result c.cost_share-2.result one two
    (subst (λ (z : ℤ). IsCost z) (sym c.cost_share.ensures) (count_cost t c.slot_at-slot.result Under c.requires.turn.1.kept there)) (subst (λ (z : ℤ). IsCost z) (sym c.cost_share-2.ensures) (count_cost t c.slot_at-slot.result Over c.requires.turn.1.kept there))
    ∙ ap₂ ◌+ℤ◌ c.cost_share.ensures c.cost_share-2.ensures ∙ both (count_of t c.slot_at-slot.result Under) (count_of t c.slot_at-slot.result Over)
    ∙ ap (λ (slot : Slot). pos (count_of (lists_of c.args.table.now) slot Under + count_of (lists_of c.args.table.now) slot Over)) c.slot_at-slot.ensures

pub returns-clause-fits : goal.returns-clause-fits
returns-clause-fits c = subst (λ (z : ℤ). IsFitting z) (sym (returns-clause-value c)) (counts_there (lists_of c.args.table.now) c.args.line c.requires.turn.0 c.requires.turn.1.swap c.requires.turn.1.kept c.requires.turn.1.is c.requires.level)
