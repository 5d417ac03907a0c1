use Rattle.std.proofs.Common.{rules, ◌≡◌, ◌∙◌, subst, sym, ap₂, ℤ, SFits, to_z, of_z}
use Rattle.std.specs.Int.{w64}
use Rattle.std.proofs.lemmas.Int.{to_z-of_z}
use Rattle.corner_table.specs.Tables.{lists_of, marks_at, problem_of}
use Rattle.corner_table.specs.Reads.LevelNumbers.{IsSlotOfLine, times_at}
use Rattle.corner_view.specs.Seen.{CornerView, HasNumbers, IsLevelOf, IsNamed}
use Rattle.corner_writings.proofs.LevelFacts.LevelReadFacts.{named_line_slot}
use Rattle.corner_writings.proofs.LevelFacts.LevelWrittenFacts.{has_times}
use Rattle.corner.proofs.corner.CornerTableau.multiplier.Goals as goal

pub times_at-requires-clause-line : goal.times_at-requires-clause-line
times_at-requires-clause-line c = subst (λ w. IsSlotOfLine (lists_of c.self.inside.table) w) (sym c.line_slot-line.ensures.value) (named_line_slot (lists_of c.self.inside.table) c.args.row (subst (λ (v : CornerView). IsNamed v.problem c.args.row) (sym c.self.view_is) c.requires.row))

pub returns : goal.returns
returns c =
    let fits : SFits w64 c.times_at.result = search rules in
    subst (λ (v : CornerView). HasNumbers v.problem v.marks c.args.level (λ scale times reduced. to_z w64 (of_z w64 c.times_at.result) ≡ times c.args.row)) c.self.view_is
    (subst (λ (z : ℤ). HasNumbers (problem_of (lists_of c.self.inside.table)) (marks_at (lists_of c.self.inside.table)) c.args.level (λ scale times reduced. z ≡ times c.args.row))
    (sym (to_z-of_z w64 c.times_at.result fits ∙ c.times_at.ensures.value ∙ ap₂ (times_at (lists_of c.self.inside.table)) c.level_slot.ensures.value c.line_slot-line.ensures.value))
    (has_times (lists_of c.self.inside.table) c.args.level c.args.row c.self.invariant.0.kept (subst (λ (v : CornerView). IsLevelOf v.problem c.args.level) (sym c.self.view_is) c.requires.level) (subst (λ (v : CornerView). IsNamed v.problem c.args.row) (sym c.self.view_is) c.requires.row)))
