use Rattle.std.proofs.Common.{rules, ◌≡◌, ◌∙◌, ◌*ℤ◌, ◌+ℤ◌, ℤ, ap, ap₂, sym, SFits}
use Rattle.std.specs.Int.{w64}
use Rattle.std.proofs.lemmas.Int.{to_z-of_z}
use Rattle.corner_lines.specs.LineEquations.{sign_of}
use Rattle.corner_table.specs.declared.table.Slot.{Slot}
use Rattle.corner_table.specs.Tables.{lists_of, slot_at}
use Rattle.corner_table.specs.Reads.LevelNumbers.{own_cost}
use Rattle.corner_writings.proofs.LevelFacts.LevelReadFacts.{added, added_fits, reduced_elsewhere, reduced_there}
use Rattle.corner_writings.proofs.levels.reduced_of.Goals as goal

pub own_cost-requires-clause-line : goal.own_cost-requires-clause-line
own_cost-requires-clause-line c = (c.args.line, c.requires.line, sym c.slot_at-slot.ensures)

pub overflow_add-result : goal.overflow_add-result
overflow_add-result c =
    let fits : SFits w64 c.own_cost.result = search rules in
    let fits-2 : SFits w64 c.signed-rest.result = search rules in
    added_fits c.own_cost.result c.signed-rest.result fits fits-2 c.own_cost.ensures.small c.signed-rest.ensures.small

pub returns-then-slot-l : goal.returns-then-slot-l
returns-then-slot-l c =
    let fits : SFits w64 c.own_cost.result = search rules in
    let fits-2 : SFits w64 c.signed-rest.result = search rules in
    let fits-3 : SFits w64 c.times_at.result = search rules in
    let slot : c.slot_at-slot.result ≡ slot_at (lists_of c.args.table.now) c.args.line = c.slot_at-slot.ensures in
    added c.own_cost.result c.signed-rest.result fits fits-2 c.own_cost.ensures.small c.signed-rest.ensures.small
    ∙ ap₂ ◌+ℤ◌ (c.own_cost.ensures.value ∙ ap (λ (s : Slot). own_cost (lists_of c.args.table.now) s c.args.side) slot)
    (c.signed-rest.ensures.value ∙ ap (λ (z : ℤ). sign_of c.args.side *ℤ z) (to_z-of_z w64 c.times_at.result fits-3 ∙ c.times_at.ensures.value))
    ∙ sym (reduced_there (lists_of c.args.table.now) c.args.l c.args.line c.args.side (sym (ap (λ (s : Slot). s.home) slot) ∙ c.if-slot-l.true))

pub returns-else-slot-l : goal.returns-else-slot-l
returns-else-slot-l c =
    let fits-2 : SFits w64 c.signed-rest.result = search rules in
    let fits-3 : SFits w64 c.times_at.result = search rules in
    let slot : c.slot_at-slot.result ≡ slot_at (lists_of c.args.table.now) c.args.line = c.slot_at-slot.ensures in
    to_z-of_z w64 c.signed-rest.result fits-2
    ∙ (c.signed-rest.ensures.value ∙ ap (λ (z : ℤ). sign_of c.args.side *ℤ z) (to_z-of_z w64 c.times_at.result fits-3 ∙ c.times_at.ensures.value))
    ∙ sym (reduced_elsewhere (lists_of c.args.table.now) c.args.l c.args.line c.args.side (λ q. c.if-slot-l.false (ap (λ (s : Slot). s.home) slot ∙ q)))
