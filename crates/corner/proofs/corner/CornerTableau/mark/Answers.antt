use Rattle.std.proofs.Common.{◌≡◌, ◌∷◌, [], map, take, subst, sym}
use Rattle.version_lists.specs.declared.versions.TheConstants.{VERSION_LIMIT}
use Rattle.corner_view.specs.Seen.{CornerView}
use Rattle.corner.proofs.Corners.CornerFacts.{mark_before, mark_kept}
use Rattle.corner_view.specs.Changes.{scene_of}
use Rattle.corner_table.specs.Histories.{lists_before}
use Rattle.corner_table.specs.Tables.{lists_of, scene_at}
use Rattle.corner.proofs.Corners.CornerFacts.{same_known}
use Rattle.corner.proofs.corner.CornerTableau.mark.Goals as goal

pub invariant_of-self : goal.invariant_of-self
invariant_of-self c = (
  mark_kept c.self.inside.table c.mark.new.table c.self.inside.listed VERSION_LIMIT c.self.invariant.0
      (subst (λ (v : CornerView). v.candidates ≡ []) (sym c.self.view_is) c.requires) c.mark.ensures.alike c.mark.ensures.now c.mark.ensures.before,
  same_known (lists_of c.self.inside.table) (lists_of c.mark.new.table) c.self.inside.known c.mark.ensures.now c.self.invariant.1,
)

pub returns-clause-before : goal.returns-clause-before
returns-clause-before c =
    subst (λ (v : CornerView). map scene_at (lists_before c.mark.new.table) ≡ take VERSION_LIMIT (scene_of v ∷ v.before)) c.self.view_is
    (mark_before c.self.inside.table c.mark.new.table VERSION_LIMIT c.mark.ensures.before)
