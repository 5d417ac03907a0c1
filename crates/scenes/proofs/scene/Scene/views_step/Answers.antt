use Rattle.std.proofs.Common.{subst, sym}
use Rattle.held_items.specs.Kept.{items_of}
use Rattle.scenes.specs.declared.scene.draft.Draft.TheVariants as draft
use Rattle.scenes.specs.Drafts.{MayTake}
use Rattle.scenes.specs.Kept.{scene_at}
use Rattle.scenes.specs.Scene.{History}
use Rattle.scenes.specs.Stepping.{AreViewsJoining}
use Rattle.scenes.proofs.DraftSteps.{views-step}
use Rattle.scenes.proofs.scene.Scene.views_step.Goals as goal

pub returns : goal.returns
returns g c =
    let may : MayTake (scene_at c.self.inside.tree c.self.inside.metrics (items_of c.self.inside.items.items) c.self.inside.setting c.self.inside.engine) (draft.Views c.args.new) = subst (λ (h : History). MayTake h.scene (draft.Views c.args.new)) (sym c.self.view_is) c.requires in
    let joining : AreViewsJoining c.self.inside.setting.next_row c.args.new.first_view.0 c.args.new.count c.in_ok-request.request = rw (← c.self.view_is) at c.in_ok-request.ensures in
    rw (c.plain_step-step.ensures, ← c.self.view_is) (views-step c.self.inside.tree c.self.inside.metrics (items_of c.self.inside.items.items) c.self.inside.setting c.self.inside.engine c.self.invariant.0.scene c.show_layout.ensures.layout c.args.new c.in_ok-request.request joining may)
