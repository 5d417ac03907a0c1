use Rattle.std.proofs.Common.{rules, ◌∙◌, ℕ, ap, subst, sym, SFits}
use Rattle.std.specs.Int.{w64}
use Rattle.std.proofs.lemmas.Int.{to_z-of_z}
use Rattle.corner_table.specs.Tables.{lists_of, problem_of}
use Rattle.corner_table.specs.Reads.LevelNumbers.{HasReducedAt, IsFirstSlot, IsSlotOfLine, reduced_at}
use Rattle.corner_view.proofs.Facts.{mark_named, used_level}
use Rattle.corner_writings.proofs.LevelFacts.LevelReadFacts.{named_line_slot}
use Rattle.corner_writings.proofs.LevelFacts.LevelUseFacts.{is_front, no_front}
use Rattle.corner_writings.proofs.Readings.MovedFacts.{some_side}
use Rattle.corner_writings.proofs.levels.front_of.Goals as goal

pub line_slot-line-requires-clause-row : goal.line_slot-line-requires-clause-row
line_slot-line-requires-clause-row c = mark_named (problem_of (lists_of c.args.table.now)) c.args.mark c.requires.mark

pub own_front-requires-clause-inside : goal.own_front-requires-clause-inside
own_front-requires-clause-inside c =
    let s = some_side c.side_at.result (sym c.is_some.ensures ∙ c.if-is_some.true) in (s.0, sym c.side_at.ensures ∙ s.1)

pub first_slot-requires-clause-line : goal.first_slot-requires-clause-line
first_slot-requires-clause-line c = subst (λ w. IsSlotOfLine (lists_of c.args.table.now) w) (sym c.line_slot-line.ensures.value) (named_line_slot (lists_of c.args.table.now) c.args.mark.row (mark_named (problem_of (lists_of c.args.table.now)) c.args.mark c.requires.mark))

pub returns-in_err-first-clause-none : goal.returns-in_err-first-clause-none
returns-in_err-first-clause-none c =
    rw c.from_residual.ensures (λ level use-of. no_front (lists_of c.args.table.now) c.args.mark c.requires.kept c.requires.mark
    (λ l h. c.in_err-first.ensures.none l (subst (λ (w : ℕ). HasReducedAt (lists_of c.args.table.now) w c.args.mark.side l) (sym c.line_slot-line.ensures.value) h)) level (used_level (problem_of (lists_of c.args.table.now)) level use-of))

pub front_at-requires-clause-within : goal.front_at-requires-clause-within
front_at-requires-clause-within c = c.in_ok-first.ensures.there.within

pub front_at-requires-clause-level : goal.front_at-requires-clause-level
front_at-requires-clause-level c = c.in_ok-first.ensures.there.there.0

pub returns-clause-some : goal.returns-clause-some
returns-clause-some c =
    let fits : SFits w64 c.in_ok-first.first.reduced = search rules in
    is_front (lists_of c.args.table.now) c.args.mark c.in_ok-first.first.l c.front_at.result c.requires.kept c.requires.mark
    (subst (λ (w : ℕ). IsFirstSlot (lists_of c.args.table.now) w c.args.mark.side c.in_ok-first.first.l) c.line_slot-line.ensures.value c.in_ok-first.ensures.some)
    c.front_at.ensures.level
    (c.front_at.ensures.reduced ∙ to_z-of_z w64 c.in_ok-first.first.reduced fits ∙ c.in_ok-first.ensures.there.reduced ∙ ap (λ (w : ℕ). reduced_at (lists_of c.args.table.now) c.in_ok-first.first.l w c.args.mark.side) c.line_slot-line.ensures.value)
