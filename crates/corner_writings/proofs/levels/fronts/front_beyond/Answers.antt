use Rattle.std.proofs.Common.{◌≡◌, ◌∙◌, ◌<◌, ℕ, arith, subst, sym}
use Rattle.corner_table.specs.Tables.{lists_of, problem_of}
use Rattle.corner_table.specs.Reads.LevelNumbers.{HasReducedAt, IsSlotOfLine}
use Rattle.corner_view.proofs.Facts.{mark_named, used_level}
use Rattle.corner_writings.proofs.LevelFacts.LevelReadFacts.{named_line_slot}
use Rattle.corner_writings.proofs.LevelFacts.LevelUseFacts.{no_front}
use Rattle.corner_writings.proofs.LevelFacts.LowestFronts.{next_is_strongest, nothing_beyond}
use Rattle.corner_writings.proofs.levels.fronts.front_beyond.Goals as goal

pub next_cost-requires-clause-line : goal.next_cost-requires-clause-line
next_cost-requires-clause-line c =
    subst (λ (w : ℕ). IsSlotOfLine (lists_of c.args.table.now) w) (sym c.requires.line) (named_line_slot (lists_of c.args.table.now) c.args.mark.row (mark_named (problem_of (lists_of c.args.table.now)) c.args.mark c.requires.mark))

pub front_at_other-requires-clause-other : goal.front_at_other-requires-clause-other
front_at_other-requires-clause-other c e =
    let lt : c.args.home < c.in_ok-n.n = c.in_ok-n.ensures.some.above in
    let same : c.args.home ≡ c.in_ok-n.n = sym c.requires.home ∙ e in
    omega (arith, lt, same)

pub front_at_other-requires-clause-first : goal.front_at_other-requires-clause-first
front_at_other-requires-clause-first c =
    next_is_strongest (lists_of c.args.table.now) c.args.line c.args.home c.in_ok-n.n c.args.mark.side c.requires.kept c.requires.home c.requires.below c.requires.nothing c.in_ok-n.ensures.some (c.ends_column.ensures.yes c.if-ends_column.true)

pub returns-in_err-n : goal.returns-in_err-n
returns-in_err-n c =
    rw c.from_residual.ensures (
      tt,
      λ level use-of. no_front (lists_of c.args.table.now) c.args.mark c.requires.kept c.requires.mark
          (λ l h. nothing_beyond (lists_of c.args.table.now) c.args.line c.args.home c.args.mark.side c.requires.home c.requires.below c.requires.nothing c.in_err-n.ensures.none l
          (subst (λ (w : ℕ). HasReducedAt (lists_of c.args.table.now) w c.args.mark.side l) (sym c.requires.line) h))
          level (used_level (problem_of (lists_of c.args.table.now)) level use-of),
    )
