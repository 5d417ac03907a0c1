use Rattle.std.proofs.Common.{rules, ◌≡◌, ◌∙◌, ap, subst, sym, Some, None}
use Rattle.problem_core.specs.declared.parts.Side.{Side}
use Rattle.problem_core.specs.declared.stops.What.TheVariants.{Mark as MarkOf}
use Rattle.corner_table.specs.Tables.{AreMoved, lists_of, problem_of, slot_at, standing_at}
use Rattle.corner_writings.proofs.Readings.MovedFacts.{count_is, first_of, nth_is, nth_thing, some_side}
use Rattle.corner_view.proofs.Facts.{mark_named}
use Rattle.corner_writings.proofs.writings.mover.Goals as goal

pub line_slot-line-requires-clause-row : goal.line_slot-line-requires-clause-row
line_slot-line-requires-clause-row c = mark_named (problem_of (lists_of c.args.table.now)) c.args.mark c.requires.outside.0

pub returns-then-is_some : goal.returns-then-is_some
returns-then-is_some c = λ whats are.
    let s = some_side c.side_at.result (sym c.is_some.ensures ∙ c.if-is_some.true) in
    let h = c.requires.within in
    first_of (lists_of c.args.table.now) c.args.mark s.0 whats h.0 c.args.i c.requires.kept c.requires.outside
    (ap (λ w. (standing_at (lists_of c.args.table.now) w).side) (sym c.line_slot-line.ensures.value) ∙ sym c.side_at.ensures ∙ s.1) h.1 h.2 are
    ∙ ap (λ (d : Side). Some (MarkOf (record { row = c.args.mark.row; side = d }))) (sym c.other.ensures)

pub nth-w-requires : goal.nth-w-requires
nth-w-requires c =
    let none : c.side_at.result ≡ None = search rules in
    let h = c.requires.within in
    count_is (lists_of c.args.table.now) c.args.mark c.moved.result.now h.0 c.args.i c.requires.kept c.requires.outside
    (ap (λ w. (standing_at (lists_of c.args.table.now) w).side) (sym c.line_slot-line.ensures.value) ∙ sym c.side_at.ensures ∙ none)
    (subst (λ n. AreMoved (lists_of c.args.table.now) n c.moved.result.now) c.line_slot-line.ensures.value c.moved.ensures.moved) c.moved.ensures.slots h.1 h.2

pub returns : goal.returns
returns c = λ whats are.
    let none : c.side_at.result ≡ None = search rules in
    let h = c.requires.within in
    let outside = ap (λ w. (standing_at (lists_of c.args.table.now) w).side) (sym c.line_slot-line.ensures.value) ∙ sym c.side_at.ensures ∙ none in
    let at = subst (λ n. AreMoved (lists_of c.args.table.now) n c.moved.result.now) c.line_slot-line.ensures.value c.moved.ensures.moved in
    let within = count_is (lists_of c.args.table.now) c.args.mark c.moved.result.now h.0 c.args.i c.requires.kept c.requires.outside outside at c.moved.ensures.slots h.1 h.2 in
    nth_is (lists_of c.args.table.now) c.args.mark c.moved.result.now whats c.args.i 0 c.what_at.result c.requires.kept c.requires.outside outside at c.moved.ensures.slots are within
    (nth_thing (lists_of c.args.table.now) c.args.mark c.moved.result.now c.args.i c.side_in.result c.what_at.result c.requires.kept at c.moved.ensures.slots within
    (λ attr e. c.what_at.ensures.attr attr (ap (λ w. (slot_at (lists_of c.args.table.now) w).owner) c.nth-w.ensures ∙ e))
    (λ name e. c.what_at.ensures.line name (ap (λ w. (slot_at (lists_of c.args.table.now) w).owner) c.nth-w.ensures ∙ e))
    (λ s e. c.side_in.ensures s (ap (λ w. (standing_at (lists_of c.args.table.now) w).side) c.nth-w.ensures ∙ e)))
