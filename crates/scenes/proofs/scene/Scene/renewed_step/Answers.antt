use Rattle.std.proofs.Common.{subst, sym}
use Rattle.held_items.specs.Kept.{items_of}
use Rattle.scenes.specs.declared.scene.draft.Draft.TheVariants as draft
use Rattle.scenes.specs.Drafts.{MayTake}
use Rattle.scenes.specs.Kept.{scene_at}
use Rattle.scenes.specs.Scene.{History}
use Rattle.scenes.proofs.DraftSteps.{renewed-step}
use Rattle.scenes.proofs.Renewals.{near-numbers}
use Rattle.scenes.proofs.scene.Scene.renewed_step.Goals as goal

pub changes_of-requires : goal.changes_of-requires
changes_of-requires g c =
    let may : MayTake (scene_at c.self.inside.tree c.self.inside.metrics (items_of c.self.inside.items.items) c.self.inside.setting c.self.inside.engine) (draft.Renewed c.args.to) = subst (λ (h : History). MayTake h.scene (draft.Renewed c.args.to)) (sym c.self.view_is) c.requires in
    near-numbers (scene_at c.self.inside.tree c.self.inside.metrics (items_of c.self.inside.items.items) c.self.inside.setting c.self.inside.engine) c.args.to c.self.invariant.0.scene.each may

pub returns : goal.returns
returns g c =
    let may : MayTake (scene_at c.self.inside.tree c.self.inside.metrics (items_of c.self.inside.items.items) c.self.inside.setting c.self.inside.engine) (draft.Renewed c.args.to) = subst (λ (h : History). MayTake h.scene (draft.Renewed c.args.to)) (sym c.self.view_is) c.requires in
    rw (c.plain_step.ensures, ← c.self.view_is) (renewed-step c.self.inside.tree c.self.inside.metrics (items_of c.self.inside.items.items) c.self.inside.setting c.self.inside.engine c.self.invariant.0.scene c.show_layout.ensures.layout c.args.to c.in_ok-changes.changes c.in_ok-changes.ensures.changes c.in_ok-changes.ensures.kept may)
