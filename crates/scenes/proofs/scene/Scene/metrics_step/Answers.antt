use Rattle.std.proofs.Common.{subst, sym}
use Rattle.held_items.specs.Kept.{items_of}
use Rattle.scenes.specs.declared.scene.draft.Draft.TheVariants as draft
use Rattle.scenes.specs.Drafts.{MayTake}
use Rattle.scenes.specs.Kept.{scene_at}
use Rattle.scenes.specs.Scene.{History}
use Rattle.scenes.proofs.DraftSteps.{metrics-step}
use Rattle.scenes.proofs.scene.Scene.metrics_step.Goals as goal

pub returns : goal.returns
returns g c =
    let may : MayTake (scene_at c.self.inside.tree c.self.inside.metrics (items_of c.self.inside.items.items) c.self.inside.setting c.self.inside.engine) (draft.Metrics c.args.new) = subst (λ (h : History). MayTake h.scene (draft.Metrics c.args.new)) (sym c.self.view_is) c.requires in
    rw (c.plain_step-step.ensures, ← c.self.view_is) (metrics-step c.self.inside.tree c.self.inside.metrics (items_of c.self.inside.items.items) c.self.inside.setting c.self.inside.engine c.self.invariant.0.scene c.show_layout.ensures.layout c.args.new may)
