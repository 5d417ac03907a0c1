use Rattle.std.proofs.Common.{rules, ◌≡◌, ◌∙◌, sym, None}
use Rattle.corner_table.specs.Tables.{lists_of}
use Rattle.corner_writings.proofs.Readings.LowLines.{inside_listed, outside_listed}
use Rattle.corner_writings.proofs.Readings.MovedFacts.{some_side}
use Rattle.corner_writings.proofs.lows.list_low.Goals as goal

pub returns-then-is_some : goal.returns-then-is_some
returns-then-is_some c =
    let s = some_side c.side_at.result (sym c.is_some.ensures ∙ c.if-is_some.true) in
    inside_listed (lists_of c.args.table.now) c.args.row c.line_slot-line.result s.0 c.args.low.now.items c.list_slot.new.low.items c.requires.kept c.requires.row c.line_slot-line.ensures.value (sym c.side_at.ensures ∙ s.1) c.in_ok-list_slot.ensures

pub returns : goal.returns
returns c =
    let none : c.side_at.result ≡ None = search rules in
    outside_listed (lists_of c.args.table.now) c.args.row c.line_slot-line.result c.moved.result.now c.args.low.now.items c.list_slots.new.low.items c.requires.kept c.requires.row c.line_slot-line.ensures.value (sym c.side_at.ensures ∙ none) c.moved.ensures.moved (search rules) c.in_ok-list_slots.ensures
