use Rattle.std.proofs.Common.{◌≡◌, length, rules, subst, sym}
use Rattle.held_items.specs.Kept.{items_of}
use Rattle.scenes.specs.declared.scene.draft.Draft.TheVariants as draft
use Rattle.scenes.specs.Drafts.{MayTake}
use Rattle.scenes.specs.Kept.{scene_at}
use Rattle.scenes.specs.Scene.{History}
use Rattle.scenes.proofs.DraftSteps.{item-step}
use Rattle.scenes.proofs.scene.Scene.item_step.Goals as goal

pub returns : goal.returns
returns g c =
    let may : MayTake (scene_at c.self.inside.tree c.self.inside.metrics (items_of c.self.inside.items.items) c.self.inside.setting c.self.inside.engine) (draft.More c.args.new) = subst (λ (h : History). MayTake h.scene (draft.More c.args.new)) (sym c.self.view_is) c.requires in
    let long : c.len-more.result ≡ length c.args.new.rows.items = search rules in
    rw (c.plain_step-step.ensures, long, ← c.self.view_is) (item-step c.self.inside.tree c.self.inside.metrics (items_of c.self.inside.items.items) c.self.inside.setting c.self.inside.engine c.self.invariant.0.scene c.show_layout.ensures.layout c.args.new c.new-attrs.result c.new-attrs.ensures.items c.len-count.ensures.tree may)
