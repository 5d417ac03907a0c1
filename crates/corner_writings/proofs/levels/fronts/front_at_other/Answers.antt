use Rattle.std.proofs.Common.{rules, ◌≡◌, ◌≢◌, ◌∙◌, ℕ, ℤ, ◌*ℤ◌, ap, pos, subst, sym, of_z, SFits}
use Rattle.std.specs.Int.{w64}
use Rattle.std.proofs.lemmas.Int.{to_z-of_z}
use Rattle.corner_lines.specs.LineEquations.{sign_of}
use Rattle.corner_table.specs.Tables.{lists_of, problem_of}
use Rattle.corner_table.specs.Reads.LevelNumbers.{IsFirstSlot, IsSlotOfLine, reduced_at, times_at}
use Rattle.corner_view.proofs.Facts.{mark_named}
use Rattle.corner_writings.proofs.LevelFacts.LevelFrontFacts.{cost_level}
use Rattle.corner_writings.proofs.LevelFacts.LevelReadFacts.{named_line_slot, reduced_elsewhere}
use Rattle.corner_writings.proofs.LevelFacts.LevelUseFacts.{is_front}
use Rattle.corner_writings.proofs.LevelFacts.LowestFronts.{strongest_is_first, turned_elsewhere}
use Rattle.corner_writings.proofs.levels.fronts.front_at_other.Goals as goal

pub times_at-times-requires-clause-level : goal.times_at-times-requires-clause-level
times_at-times-requires-clause-level c = cost_level (lists_of c.args.table.now) c.args.n c.requires.kept c.requires.within c.requires.cost

pub times_at-times-requires-clause-line : goal.times_at-times-requires-clause-line
times_at-times-requires-clause-line c =
    subst (λ (w : ℕ). IsSlotOfLine (lists_of c.args.table.now) w) (sym c.requires.line) (named_line_slot (lists_of c.args.table.now) c.args.mark.row (mark_named (problem_of (lists_of c.args.table.now)) c.args.mark c.requires.mark))

pub returns : goal.returns
returns c =
    let fits : SFits w64 c.times_at-times.result = search rules in
    let fits-2 : SFits w64 c.signed.result = search rules in
    let some : times_at (lists_of c.args.table.now) c.args.n c.args.line ≢ pos 0 = λ q. c.if-times-eq0.false (ap (of_z w64) (c.times_at-times.ensures.value ∙ q)) in
    let turns : c.signed.result ≡ sign_of c.args.mark.side *ℤ times_at (lists_of c.args.table.now) c.args.n c.args.line =
    c.signed.ensures.value ∙ ap (λ (z : ℤ). sign_of c.args.mark.side *ℤ z) (to_z-of_z w64 c.times_at-times.result fits ∙ c.times_at-times.ensures.value) in (
      is_front (lists_of c.args.table.now) c.args.mark c.args.n c.front_at.result c.requires.kept c.requires.mark
          (subst (λ (w : ℕ). IsFirstSlot (lists_of c.args.table.now) w c.args.mark.side c.args.n) c.requires.line
          (strongest_is_first (lists_of c.args.table.now) c.args.line c.args.n c.args.mark.side c.requires.cost c.requires.first (turned_elsewhere (lists_of c.args.table.now) c.args.n c.args.line c.args.mark.side c.requires.other some)))
          c.front_at.ensures.level
          (c.front_at.ensures.reduced ∙ to_z-of_z w64 c.signed.result fits-2 ∙ turns ∙ sym (reduced_elsewhere (lists_of c.args.table.now) c.args.n c.args.line c.args.mark.side c.requires.other)
          ∙ ap (λ (w : ℕ). reduced_at (lists_of c.args.table.now) c.args.n w c.args.mark.side) c.requires.line),
      tt,
    )
