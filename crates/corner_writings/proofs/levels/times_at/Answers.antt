use Rattle.std.proofs.Common.{rules, ◌≡◌, ◌∙◌, ◌*ℤ◌, ℤ, ap, sym, SFits}
use Rattle.std.specs.Int.{w64}
use Rattle.std.proofs.lemmas.Int.{to_z-of_z}
use Rattle.corner_lines.specs.LineEquations.{sign_of}
use Rattle.corner_table.specs.declared.table.Slot.{Slot}
use Rattle.corner_table.specs.Tables.{lists_of, slot_at}
use Rattle.corner_table.specs.Reads.LevelNumbers.{own_cost}
use Rattle.corner_writings.proofs.LevelFacts.LevelFrontFacts.{level_within}
use Rattle.corner_writings.proofs.LevelFacts.LevelReadFacts.{negated, negated_small, times_inside}
use Rattle.corner_writings.proofs.levels.times_at.Goals as goal

pub outside_times-requires-clause-within : goal.outside_times-requires-clause-within
outside_times-requires-clause-within c = level_within (lists_of c.args.table.now) c.args.l c.requires.kept c.requires.level

pub returns-then-slot-l-clause-value : goal.returns-then-slot-l-clause-value
returns-then-slot-l-clause-value c =
    let fits : SFits w64 c.signed.result = search rules in
    let own-fits : SFits w64 c.own_cost.result = search rules in
    let e : c.signed.result ≡ sign_of c.in-Some.side *ℤ own_cost (lists_of c.args.table.now) (slot_at (lists_of c.args.table.now) c.args.line) c.in-Some.side =
    c.signed.ensures.value ∙ ap (λ (z : ℤ). sign_of c.in-Some.side *ℤ z) (to_z-of_z w64 c.own_cost.result own-fits ∙ c.own_cost.ensures.value ∙ ap (λ (s : Slot). own_cost (lists_of c.args.table.now) s c.in-Some.side) c.slot_at-slot.ensures) in
    negated c.signed.result (sign_of c.in-Some.side *ℤ own_cost (lists_of c.args.table.now) (slot_at (lists_of c.args.table.now) c.args.line) c.in-Some.side) fits c.signed.ensures.small e
    ∙ sym (times_inside (lists_of c.args.table.now) c.args.l c.args.line c.in-Some.side (sym c.side_at.ensures ∙ c.in-Some.is) (sym (ap (λ (s : Slot). s.home) c.slot_at-slot.ensures) ∙ c.if-slot-l.true))

pub returns-then-slot-l-clause-small : goal.returns-then-slot-l-clause-small
returns-then-slot-l-clause-small c =
    let fits : SFits w64 c.signed.result = search rules in
    negated_small c.signed.result fits c.signed.ensures.small
