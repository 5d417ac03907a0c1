use Rattle.std.proofs.Common.{refl, subst, sym}
use Rattle.std.proofs.lemmas.Result.{IfErr-weaker, IfOk-weaker, err_from_is_err_and}
use Rattle.problem_core.specs.Kept.{IsWhole}
use Rattle.problem_core.specs.Layout.{Problem}
use Rattle.conflict_core.specs.Shown.{IsFound}
use Rattle.conflict_core.specs.Trials.{IsCoreStop}
use Rattle.conflict_core.specs.declared.found.Found.{Found}
use Rattle.conflict_core.specs.declared.found.CoreStop.{CoreStop}
use Rattle.layout_solver.specs.Requests.{posed_by}
use Rattle.held_items.specs.Kept.{items_of}
use Rattle.scenes.specs.Drafts.{MayTake, drafted}
use Rattle.scenes.specs.Kept.{scene_at}
use Rattle.scenes.specs.Scene.{History}
use Rattle.scenes.specs.Steps.{IsProblemOf}
use Rattle.scenes.specs.Stepping.{IsStepTo}
use Rattle.scenes.proofs.DraftSteps.{draft-posed}
use Rattle.scenes.proofs.Engines.Requests.{posed-whole}
use Rattle.scenes.proofs.Histories.{few-solutions, unchanged, unchanged-AreAlike, unchanged-IsKept}
use Rattle.scenes.proofs.Stepped.{step-can, step-posed}
use Rattle.scenes.proofs.scene.Scene.core.Goals as goal

pub core_of-requires : goal.core_of-requires
core_of-requires g c =
    let is : IsStepTo (scene_at c.self.inside.tree c.self.inside.metrics (items_of c.self.inside.items.items) c.self.inside.setting c.self.inside.engine) c.args.draft c.in_ok-step.step = subst (λ (h : History). IsStepTo h.scene c.args.draft c.in_ok-step.step) (sym c.self.view_is) c.in_ok-step.ensures in
    record {
      room = few-solutions c.self.inside.undo c.self.inside.items.before c.self.inside.engine.earlier c.self.inside.pasts.items c.self.invariant.1;
      can = step-can c.self.inside.tree c.self.inside.metrics (items_of c.self.inside.items.items) c.self.inside.setting c.self.inside.engine c.self.invariant.0.scene c.show_layout.ensures.layout c.args.draft c.in_ok-step.step is;
    }

pub returns-in_err-step-clause-stop : goal.returns-in_err-step-clause-stop
returns-in_err-step-clause-stop g c =
    let exit = err_from_is_err_and c.from_residual.result c.from_residual.ensures.1 in
    let may : MayTake (scene_at c.self.inside.tree c.self.inside.metrics (items_of c.self.inside.items.items) c.self.inside.setting c.self.inside.engine) c.args.draft = subst (λ (h : History). MayTake h.scene c.args.draft) (sym c.self.view_is) c.requires in
    let posed : (p : Problem) × IsProblemOf (drafted (scene_at c.self.inside.tree c.self.inside.metrics (items_of c.self.inside.items.items) c.self.inside.setting c.self.inside.engine) c.args.draft) p = draft-posed c.self.inside.tree c.self.inside.metrics (items_of c.self.inside.items.items) c.self.inside.setting c.self.inside.engine c.self.invariant.0.scene c.show_layout.ensures.layout c.args.draft c.len-count.ensures.tree may in
    rw (exit.1, exit.2, ← c.self.view_is) (posed.0, posed.1, tt)

pub returns-clause-found : goal.returns-clause-found
returns-clause-found g c =
    let is : IsStepTo (scene_at c.self.inside.tree c.self.inside.metrics (items_of c.self.inside.items.items) c.self.inside.setting c.self.inside.engine) c.args.draft c.in_ok-step.step = subst (λ (h : History). IsStepTo h.scene c.args.draft c.in_ok-step.step) (sym c.self.view_is) c.in_ok-step.ensures in
    rw (← c.self.view_is)
    (IfOk-weaker c.core_of.result (IsFound (posed_by c.self.inside.engine c.in_ok-step.step.request)) (λ (f : Found). (p : Problem) × IsProblemOf (drafted (scene_at c.self.inside.tree c.self.inside.metrics (items_of c.self.inside.items.items) c.self.inside.setting c.self.inside.engine) c.args.draft) p × IsWhole p × IsFound p f)
    (λ f found. (
      posed_by c.self.inside.engine c.in_ok-step.step.request,
      step-posed c.self.inside.tree c.self.inside.metrics (items_of c.self.inside.items.items) c.self.inside.setting c.self.inside.engine c.self.invariant.0.scene c.show_layout.ensures.layout c.args.draft c.in_ok-step.step is (posed_by c.self.inside.engine c.in_ok-step.step.request) refl,
      posed-whole c.self.inside.engine c.in_ok-step.step.request c.show_layout.ensures.layout (step-can c.self.inside.tree c.self.inside.metrics (items_of c.self.inside.items.items) c.self.inside.setting c.self.inside.engine c.self.invariant.0.scene c.show_layout.ensures.layout c.args.draft c.in_ok-step.step is),
      found,
    )) c.core_of.ensures.found)

pub returns-clause-stop : goal.returns-clause-stop
returns-clause-stop g c =
    let is : IsStepTo (scene_at c.self.inside.tree c.self.inside.metrics (items_of c.self.inside.items.items) c.self.inside.setting c.self.inside.engine) c.args.draft c.in_ok-step.step = subst (λ (h : History). IsStepTo h.scene c.args.draft c.in_ok-step.step) (sym c.self.view_is) c.in_ok-step.ensures in
    rw (← c.self.view_is)
    (IfErr-weaker c.core_of.result (IsCoreStop (posed_by c.self.inside.engine c.in_ok-step.step.request) c.args.budget) (λ (s : CoreStop). (p : Problem) × IsProblemOf (drafted (scene_at c.self.inside.tree c.self.inside.metrics (items_of c.self.inside.items.items) c.self.inside.setting c.self.inside.engine) c.args.draft) p × IsCoreStop p c.args.budget s)
    (λ s stops. (posed_by c.self.inside.engine c.in_ok-step.step.request, step-posed c.self.inside.tree c.self.inside.metrics (items_of c.self.inside.items.items) c.self.inside.setting c.self.inside.engine c.self.invariant.0.scene c.show_layout.ensures.layout c.args.draft c.in_ok-step.step is (posed_by c.self.inside.engine c.in_ok-step.step.request) refl, stops)) c.core_of.ensures.stop)

pub invariant_of-self : goal.invariant_of-self
invariant_of-self g c = (
  unchanged-IsKept c.self.inside.tree c.self.inside.metrics c.self.inside.items c.self.inside.items c.self.inside.setting c.self.inside.engine c.core_of.new.e c.self.inside.pasts.items c.self.inside.undo refl c.core_of.ensures.same c.self.invariant.0,
  unchanged-AreAlike c.self.inside.tree c.self.inside.metrics c.self.inside.items c.self.inside.items c.self.inside.setting c.self.inside.engine c.core_of.new.e c.self.inside.pasts.items c.self.inside.undo refl c.core_of.ensures.same c.self.invariant.1,
  c.self.invariant.2,
)

pub returns-clause-same : goal.returns-clause-same
returns-clause-same g c =
    rw (← c.self.view_is)
    (unchanged c.self.inside.tree c.self.inside.metrics c.self.inside.items c.self.inside.items c.self.inside.setting c.self.inside.engine c.core_of.new.e c.self.inside.pasts.items c.self.inside.undo refl c.core_of.ensures.same)
