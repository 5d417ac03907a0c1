use Rattle.std.proofs.Common.{◌≡◌, subst, sym}
use Rattle.std.proofs.lemmas.Result.{IfOk-weaker}
use Rattle.problem_core.specs.Layout.{Problem}
use Rattle.layout_solver.specs.Requests.{posed_by}
use Rattle.held_items.specs.Kept.{items_of}
use Rattle.scenes.specs.Drafts.{drafted}
use Rattle.scenes.specs.Kept.{scene_at}
use Rattle.scenes.specs.Scene.{History}
use Rattle.scenes.specs.Steps.{IsProblemOf}
use Rattle.scenes.specs.Stepping.{IsStepTo}
use Rattle.scenes.proofs.Stepped.{step-can, step-posed}
use Rattle.scenes.proofs.scene.Scene.pose.Goals as goal

pub posed-requires : goal.posed-requires
posed-requires g c =
    let is : IsStepTo (scene_at c.self.inside.tree c.self.inside.metrics (items_of c.self.inside.items.items) c.self.inside.setting c.self.inside.engine) c.args.draft c.in_ok-step.step = subst (λ (h : History). IsStepTo h.scene c.args.draft c.in_ok-step.step) (sym c.self.view_is) c.in_ok-step.ensures in
    step-can c.self.inside.tree c.self.inside.metrics (items_of c.self.inside.items.items) c.self.inside.setting c.self.inside.engine c.self.invariant.0.scene c.show_layout.ensures.layout c.args.draft c.in_ok-step.step is

pub returns : goal.returns
returns g c =
    let is : IsStepTo (scene_at c.self.inside.tree c.self.inside.metrics (items_of c.self.inside.items.items) c.self.inside.setting c.self.inside.engine) c.args.draft c.in_ok-step.step = subst (λ (h : History). IsStepTo h.scene c.args.draft c.in_ok-step.step) (sym c.self.view_is) c.in_ok-step.ensures in
    rw (← c.self.view_is)
    (IfOk-weaker c.posed.result (λ (p : Problem). p ≡ posed_by c.self.inside.engine c.in_ok-step.step.request) (IsProblemOf (drafted (scene_at c.self.inside.tree c.self.inside.metrics (items_of c.self.inside.items.items) c.self.inside.setting c.self.inside.engine) c.args.draft))
    (λ p made. step-posed c.self.inside.tree c.self.inside.metrics (items_of c.self.inside.items.items) c.self.inside.setting c.self.inside.engine c.self.invariant.0.scene c.show_layout.ensures.layout c.args.draft c.in_ok-step.step is p made) c.posed.ensures)
