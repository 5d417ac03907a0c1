use Rattle.std.proofs.Common.{subst, sym}
use Rattle.held_items.specs.Kept.{items_of}
use Rattle.scenes.specs.declared.scene.draft.Draft.TheVariants as draft
use Rattle.scenes.specs.Drafts.{MayTake}
use Rattle.scenes.specs.Kept.{scene_at}
use Rattle.scenes.specs.Scene.{History}
use Rattle.scenes.specs.Stepping.{AreLeaving}
use Rattle.scenes.proofs.DraftSteps.{leaving-step}
use Rattle.scenes.proofs.scene.Scene.leaving_step.Goals as goal

pub returns : goal.returns
returns g c =
    let may : MayTake (scene_at c.self.inside.tree c.self.inside.metrics (items_of c.self.inside.items.items) c.self.inside.setting c.self.inside.engine) (draft.Out c.args.leaver) = subst (λ (h : History). MayTake h.scene (draft.Out c.args.leaver)) (sym c.self.view_is) c.requires in
    let are : AreLeaving (items_of c.self.inside.items.items) c.args.leaver c.in_ok-request.request = rw (← c.self.view_is) at c.in_ok-request.ensures in
    rw (c.plain_step-step.ensures, c.in_ok-tree.ensures, ← c.self.view_is) (leaving-step c.self.inside.tree c.self.inside.metrics (items_of c.self.inside.items.items) c.self.inside.setting c.self.inside.engine c.self.invariant.0.scene c.show_layout.ensures.layout c.args.leaver c.in_ok-request.request are c.len-count.ensures.tree may)
