use Rattle.std.proofs.Common.{rules, ◌≡◌, ◌∙◌, sym, None}
use Rattle.corner_table.specs.Tables.{lists_of}
use Rattle.corner.proofs.LowMarks.{low_inside, none_inside, none_outside}
use Rattle.corner.proofs.lows.low_mark.Goals as goal

pub returns-then-is_negative-clause-some : goal.returns-then-is_negative-clause-some
returns-then-is_negative-clause-some c =
    low_inside (lists_of c.args.table.now) c.args.row c.line_slot-line.result c.in-Some.side c.value_at.result c.requires.kept c.requires.row c.line_slot-line.ensures.value (sym c.side_at.ensures ∙ c.in-Some.is) c.value_at.ensures
    c.is_negative.ensures.above (c.is_negative.ensures.yes c.if-is_negative.true)

pub returns-else-is_negative-clause-none : goal.returns-else-is_negative-clause-none
returns-else-is_negative-clause-none c =
    none_inside (lists_of c.args.table.now) c.args.row c.line_slot-line.result c.value_at.result c.requires.kept c.requires.row c.line_slot-line.ensures.value c.value_at.ensures
    c.is_negative.ensures.above (c.is_negative.ensures.no c.if-is_negative.false)

pub returns-in_default-clause-none : goal.returns-in_default-clause-none
returns-in_default-clause-none c =
    let none : c.side_at.result ≡ None = search rules in
    none_outside (lists_of c.args.table.now) c.args.row c.line_slot-line.result c.requires.kept c.requires.row c.line_slot-line.ensures.value (sym c.side_at.ensures ∙ none)
