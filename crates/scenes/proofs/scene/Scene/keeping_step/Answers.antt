use Rattle.std.proofs.Common.{subst, sym}
use Rattle.held_items.specs.Kept.{items_of}
use Rattle.scenes.specs.declared.scene.draft.Draft.TheVariants as draft
use Rattle.scenes.specs.Drafts.{MayTake}
use Rattle.scenes.specs.Kept.{scene_at}
use Rattle.scenes.specs.Scene.{History}
use Rattle.scenes.proofs.DraftSteps.{keeping-step}
use Rattle.scenes.proofs.KeptViews.{keep-small}
use Rattle.scenes.proofs.scene.Scene.keeping_step.Goals as goal

pub view_attributes-requires : goal.view_attributes-requires
view_attributes-requires g c =
    let may : MayTake (scene_at c.self.inside.tree c.self.inside.metrics (items_of c.self.inside.items.items) c.self.inside.setting c.self.inside.engine) (draft.Keep c.args.view) = subst (λ (h : History). MayTake h.scene (draft.Keep c.args.view)) (sym c.self.view_is) c.requires in
    keep-small c.self.inside.tree c.self.inside.metrics (items_of c.self.inside.items.items) c.self.inside.setting c.self.inside.engine c.self.invariant.0.scene c.show_layout.ensures.layout c.args.view.0 c.len-count.ensures.tree may

pub returns : goal.returns
returns g c =
    let may : MayTake (scene_at c.self.inside.tree c.self.inside.metrics (items_of c.self.inside.items.items) c.self.inside.setting c.self.inside.engine) (draft.Keep c.args.view) = subst (λ (h : History). MayTake h.scene (draft.Keep c.args.view)) (sym c.self.view_is) c.requires in
    rw (c.plain_step.ensures, ← c.self.view_is) (keeping-step c.self.inside.tree c.self.inside.metrics (items_of c.self.inside.items.items) c.self.inside.setting c.self.inside.engine c.self.invariant.0.scene c.show_layout.ensures.layout c.args.view c.in_ok-attrs.attrs (rw c.view_attributes.ensures at c.in_ok-attrs.ensures.items) may)
