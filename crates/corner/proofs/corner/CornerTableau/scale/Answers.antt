use Rattle.std.proofs.Common.{rules, ◌≡◌, ◌∙◌, subst, sym, ap, ℤ, pos, ◌*ℤ◌, SFits, to_z, of_z}
use Rattle.std.specs.Int.{w64}
use Rattle.std.proofs.lemmas.Int.{to_z-of_z}
use Rattle.corner_table.specs.Tables.{lists_of, marks_at, problem_of}
use Rattle.corner_table.specs.Reads.LevelNumbers.{own_at, unit_at}
use Rattle.corner_view.specs.Seen.{CornerView, HasNumbers, IsLevelOf}
use Rattle.corner_writings.proofs.LevelFacts.LevelWrittenFacts.{has_scale}
use Rattle.corner.proofs.corner.CornerTableau.scale.Goals as goal

pub returns : goal.returns
returns c =
    let fits : SFits w64 c.scale_at.result = search rules in
    subst (λ (v : CornerView). HasNumbers v.problem v.marks c.args.level (λ scale times reduced. to_z w64 (of_z w64 c.scale_at.result) ≡ pos scale)) c.self.view_is
    (subst (λ (z : ℤ). HasNumbers (problem_of (lists_of c.self.inside.table)) (marks_at (lists_of c.self.inside.table)) c.args.level (λ scale times reduced. z ≡ pos scale))
    (sym (to_z-of_z w64 c.scale_at.result fits ∙ c.scale_at.ensures ∙ ap (λ w. own_at (lists_of c.self.inside.table) w *ℤ unit_at (lists_of c.self.inside.table) w) c.level_slot.ensures.value))
    (has_scale (lists_of c.self.inside.table) c.args.level c.self.invariant.0.kept (subst (λ (v : CornerView). IsLevelOf v.problem c.args.level) (sym c.self.view_is) c.requires.level)))
