use Rattle.std.proofs.Common.{rules, ◌≡◌, ◌∙◌, ◌*ℤ◌, ◌+ℤ◌, ℤ, ap, ap₂, subst, sym, SFits}
use Rattle.std.specs.Int.{w64}
use Rattle.std.proofs.lemmas.Int.{to_z-of_z}
use Rattle.corner_lines.specs.LineEquations.{sign_of}
use Rattle.corner_table.specs.declared.table.Slot.{Slot}
use Rattle.corner_table.specs.Tables.{lists_of, slot_at}
use Rattle.corner_table.specs.Reads.LevelNumbers.{IsCost, IsCounted, IsLinesSlot, own_cost, unit_at}
use Rattle.corner_writings.specs.Walks.{cost_by}
use Rattle.corner_writings.proofs.LevelFacts.LevelReadFacts.{added, added_fits, cost_small, counted, reduced_elsewhere, reduced_there}
use Rattle.corner_writings.proofs.LevelFacts.LowestFronts.{cost_read}
use Rattle.corner_writings.proofs.levels.reduced_by.Goals as goal

pub times_at-requires-clause-level : goal.times_at-requires-clause-level
times_at-requires-clause-level c = c.requires.read.slot

pub cost_by-requires-clause-counted : goal.cost_by-requires-clause-counted
cost_by-requires-clause-counted c =
    let line : IsLinesSlot (lists_of c.args.table.now) c.slot_at-slot.result = (c.args.line, c.requires.line, sym c.slot_at-slot.ensures) in
    let unit : unit_at (lists_of c.args.table.now) c.slot_at-slot.result.home ≡ c.args.read.unit = ap (unit_at (lists_of c.args.table.now)) c.if-slot-read.true ∙ sym c.requires.read.unit in
    let fits : SFits w64 c.args.read.unit = search rules in
    subst (λ (u : ℤ). IsCounted c.slot_at-slot.result u) (unit ∙ sym (to_z-of_z w64 c.args.read.unit fits)) (counted (lists_of c.args.table.now) c.slot_at-slot.result c.requires.kept line)

pub cost_by-requires-clause-small : goal.cost_by-requires-clause-small
cost_by-requires-clause-small c =
    let line : IsLinesSlot (lists_of c.args.table.now) c.slot_at-slot.result = (c.args.line, c.requires.line, sym c.slot_at-slot.ensures) in
    let fits : SFits w64 c.args.read.own = search rules in
    let fits-2 : SFits w64 c.args.read.unit = search rules in
    subst (λ (z : ℤ). IsCost z)
    (cost_read (lists_of c.args.table.now) c.args.read c.slot_at-slot.result c.args.side c.requires.read c.if-slot-read.true
    ∙ sym (ap₂ (λ (o u : ℤ). cost_by c.slot_at-slot.result c.args.side o u) (to_z-of_z w64 c.args.read.own fits) (to_z-of_z w64 c.args.read.unit fits-2)))
    (cost_small (lists_of c.args.table.now) c.slot_at-slot.result c.args.side c.requires.kept line)

pub overflow_add-result : goal.overflow_add-result
overflow_add-result c =
    let fits : SFits w64 c.cost_by.result = search rules in
    let fits-2 : SFits w64 c.signed-rest.result = search rules in
    added_fits c.cost_by.result c.signed-rest.result fits fits-2 c.cost_by.ensures.small c.signed-rest.ensures.small

pub returns-then-slot-read : goal.returns-then-slot-read
returns-then-slot-read c =
    let fits : SFits w64 c.cost_by.result = search rules in
    let fits-2 : SFits w64 c.signed-rest.result = search rules in
    let fits-3 : SFits w64 c.times_at.result = search rules in
    let fits-4 : SFits w64 c.args.read.own = search rules in
    let fits-5 : SFits w64 c.args.read.unit = search rules in
    let costs = simp to_z-of_z at c.cost_by.ensures.value in
    let slot : c.slot_at-slot.result ≡ slot_at (lists_of c.args.table.now) c.args.line = c.slot_at-slot.ensures in
    added c.cost_by.result c.signed-rest.result fits fits-2 c.cost_by.ensures.small c.signed-rest.ensures.small
    ∙ ap₂ ◌+ℤ◌ (costs ∙ sym (cost_read (lists_of c.args.table.now) c.args.read c.slot_at-slot.result c.args.side c.requires.read c.if-slot-read.true) ∙ ap (λ (s : Slot). own_cost (lists_of c.args.table.now) s c.args.side) slot)
    (c.signed-rest.ensures.value ∙ ap (λ (z : ℤ). sign_of c.args.side *ℤ z) (to_z-of_z w64 c.times_at.result fits-3 ∙ c.times_at.ensures.value))
    ∙ sym (reduced_there (lists_of c.args.table.now) c.args.read.l c.args.line c.args.side (sym (ap (λ (s : Slot). s.home) slot) ∙ c.if-slot-read.true))

pub returns-else-slot-read : goal.returns-else-slot-read
returns-else-slot-read c =
    let fits-2 : SFits w64 c.signed-rest.result = search rules in
    let fits-3 : SFits w64 c.times_at.result = search rules in
    let slot : c.slot_at-slot.result ≡ slot_at (lists_of c.args.table.now) c.args.line = c.slot_at-slot.ensures in
    to_z-of_z w64 c.signed-rest.result fits-2
    ∙ (c.signed-rest.ensures.value ∙ ap (λ (z : ℤ). sign_of c.args.side *ℤ z) (to_z-of_z w64 c.times_at.result fits-3 ∙ c.times_at.ensures.value))
    ∙ sym (reduced_elsewhere (lists_of c.args.table.now) c.args.read.l c.args.line c.args.side (λ q. c.if-slot-read.false (ap (λ (s : Slot). s.home) slot ∙ q)))
