use Rattle.std.proofs.Common.{rules, ◌≢◌, ◌∙◌, ap, sym}
use Rattle.corner_table.specs.declared.table.Slot.{Slot}
use Rattle.corner_table.specs.Tables.{lists_of}
use Rattle.corner_writings.proofs.LevelFacts.LevelReadFacts.{nothing_elsewhere}
use Rattle.corner_writings.proofs.levels.costs_nothing.Goals as goal

pub returns-in-Some : goal.returns-in-Some
returns-in-Some c = λ other side.
    let apart : c.slot_at.result.home ≢ c.args.l = search rules in
    nothing_elsewhere (lists_of c.args.table.now) c.args.l c.args.line c.in-Some.field-0 (sym c.side_at.ensures ∙ c.in-Some.is)
    (λ e. apart (ap (λ (s : Slot). s.home) c.slot_at.ensures ∙ e)) side
