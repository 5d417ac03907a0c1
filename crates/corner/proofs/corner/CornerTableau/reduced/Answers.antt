use Rattle.std.proofs.Common.{rules, ◌∙◌, subst, sym, ap, ℤ, SFits, to_z, of_z}
use Rattle.std.specs.Int.{w64}
use Rattle.std.proofs.lemmas.Int.{to_z-of_z}
use Rattle.corner_table.specs.Tables.{line_slot, lists_of, marks_at, problem_of}
use Rattle.corner_table.specs.Reads.LevelNumbers.{reduced_at}
use Rattle.corner_view.specs.Seen.{CornerView, IsLevelOf, IsMarkOf, IsReducedAt}
use Rattle.corner_writings.proofs.LevelFacts.LevelWrittenFacts.{has_reduced}
use Rattle.corner.proofs.corner.CornerTableau.reduced.Goals as goal

pub returns : goal.returns
returns c =
    let fits : SFits w64 c.reduced_at.result = search rules in
    subst (λ (v : CornerView). IsReducedAt v.problem v.marks c.args.level c.args.mark (to_z w64 (of_z w64 c.reduced_at.result))) c.self.view_is
    (subst (λ (z : ℤ). IsReducedAt (problem_of (lists_of c.self.inside.table)) (marks_at (lists_of c.self.inside.table)) c.args.level c.args.mark z)
    (sym (to_z-of_z w64 c.reduced_at.result fits ∙ c.reduced_at.ensures ∙ ap (λ w. reduced_at (lists_of c.self.inside.table) w (line_slot (lists_of c.self.inside.table) c.args.mark.row) c.args.mark.side) c.level_slot.ensures.value))
    (has_reduced (lists_of c.self.inside.table) c.args.level c.args.mark c.self.invariant.0.kept (subst (λ (v : CornerView). IsLevelOf v.problem c.args.level) (sym c.self.view_is) c.requires.level) (subst (λ (v : CornerView). IsMarkOf v.problem c.args.mark) (sym c.self.view_is) c.requires.mark)))
