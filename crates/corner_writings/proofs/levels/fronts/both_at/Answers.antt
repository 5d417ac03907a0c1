use Rattle.std.proofs.Common.{rules, ◌≡◌, ◌∙◌, ◌*ℤ◌, ◌+ℤ◌, ℤ, ap, ap₂, sym, SFits}
use Rattle.std.specs.Int.{w64}
use Rattle.std.proofs.lemmas.Int.{to_z-of_z}
use Rattle.problem_core.specs.declared.parts.Side.TheVariants.{Over, Under}
use Rattle.corner_lines.specs.LineEquations.{sign_of}
use Rattle.corner_table.specs.declared.table.Slot.{Slot}
use Rattle.corner_table.specs.Tables.{lists_of, slot_at}
use Rattle.corner_table.specs.Reads.LevelNumbers.{own_cost}
use Rattle.corner_writings.proofs.LevelFacts.LevelReadFacts.{reduced_elsewhere, reduced_there}
use Rattle.corner_writings.proofs.levels.fronts.both_at.Goals as goal

pub both_by-requires-clause-line : goal.both_by-requires-clause-line
both_by-requires-clause-line c = (c.args.line, c.requires.line, sym c.slot_at-slot.ensures)

pub returns-then-slot-l-clause-under : goal.returns-then-slot-l-clause-under
returns-then-slot-l-clause-under c =
    let fits : SFits w64 c.times_at-times.result = search rules in
    let slot : c.slot_at-slot.result ≡ slot_at (lists_of c.args.table.now) c.args.line = c.slot_at-slot.ensures in
    let sum = simp to_z-of_z at c.both_by.ensures.under in
    sum ∙ ap₂ ◌+ℤ◌ (ap (λ (s : Slot). own_cost (lists_of c.args.table.now) s Under) slot) (ap (λ (z : ℤ). sign_of Under *ℤ z) c.times_at-times.ensures.value)
    ∙ sym (reduced_there (lists_of c.args.table.now) c.args.l c.args.line Under (sym (ap (λ (s : Slot). s.home) slot) ∙ c.if-slot-l.true))

pub returns-clause-under : goal.returns-clause-under
returns-clause-under c =
    let fits : SFits w64 c.signed.result = search rules in
    let fits-2 : SFits w64 c.times_at-times.result = search rules in
    let slot : c.slot_at-slot.result ≡ slot_at (lists_of c.args.table.now) c.args.line = c.slot_at-slot.ensures in
    to_z-of_z w64 c.signed.result fits
    ∙ (c.signed.ensures.value ∙ ap (λ (z : ℤ). sign_of Under *ℤ z) (to_z-of_z w64 c.times_at-times.result fits-2 ∙ c.times_at-times.ensures.value))
    ∙ sym (reduced_elsewhere (lists_of c.args.table.now) c.args.l c.args.line Under (λ q. c.if-slot-l.false (ap (λ (s : Slot). s.home) slot ∙ q)))

pub returns-then-slot-l-clause-over : goal.returns-then-slot-l-clause-over
returns-then-slot-l-clause-over c =
    let fits : SFits w64 c.times_at-times.result = search rules in
    let slot : c.slot_at-slot.result ≡ slot_at (lists_of c.args.table.now) c.args.line = c.slot_at-slot.ensures in
    let sum = simp to_z-of_z at c.both_by.ensures.over in
    sum ∙ ap₂ ◌+ℤ◌ (ap (λ (s : Slot). own_cost (lists_of c.args.table.now) s Over) slot) (ap (λ (z : ℤ). sign_of Over *ℤ z) c.times_at-times.ensures.value)
    ∙ sym (reduced_there (lists_of c.args.table.now) c.args.l c.args.line Over (sym (ap (λ (s : Slot). s.home) slot) ∙ c.if-slot-l.true))

pub returns-clause-over : goal.returns-clause-over
returns-clause-over c =
    let fits : SFits w64 c.signed-2.result = search rules in
    let fits-2 : SFits w64 c.times_at-times.result = search rules in
    let slot : c.slot_at-slot.result ≡ slot_at (lists_of c.args.table.now) c.args.line = c.slot_at-slot.ensures in
    to_z-of_z w64 c.signed-2.result fits
    ∙ (c.signed-2.ensures.value ∙ ap (λ (z : ℤ). sign_of Over *ℤ z) (to_z-of_z w64 c.times_at-times.result fits-2 ∙ c.times_at-times.ensures.value))
    ∙ sym (reduced_elsewhere (lists_of c.args.table.now) c.args.l c.args.line Over (λ q. c.if-slot-l.false (ap (λ (s : Slot). s.home) slot ∙ q)))
