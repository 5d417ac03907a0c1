use Rattle.std.proofs.Common.{refl, subst, sym}
use Rattle.std.proofs.lemmas.Result.{err_from_is_err_and}
use Rattle.held_items.specs.Kept.{items_of}
use Rattle.scenes.specs.Drafts.{KeepsValues, drafted, kind_of}
use Rattle.scenes.specs.Kept.{IsKept, scene_at}
use Rattle.scenes.specs.Scene.{History, Scene}
use Rattle.scenes.specs.Steps.{ComesTo}
use Rattle.scenes.specs.Stepping.{IsStepTo}
use Rattle.scenes.proofs.Histories.{few-items, few-solutions, kept-earlier, more-items, more-solutions, next-history, unchanged, unchanged-AreAlike, unchanged-IsKept}
use Rattle.scenes.proofs.KeptScenes.{kept-scene}
use Rattle.scenes.proofs.Stepped.{step-can, step-comes, step-kept, step-stops, step-values}
use Rattle.scenes.proofs.scene.Scene.make.Goals as goal

pub run-requires : goal.run-requires
run-requires g c =
    let is : IsStepTo (scene_at c.self.inside.tree c.self.inside.metrics (items_of c.self.inside.items.items) c.self.inside.setting c.self.inside.engine) c.requires.0 c.args.step = subst (λ (h : History). IsStepTo h.scene c.requires.0 c.args.step) (sym c.self.view_is) c.requires.1 in
    record {
      few = few-items c.self.inside.undo c.self.inside.items.before c.self.inside.engine.earlier c.self.inside.pasts.items c.self.invariant.1;
      room = few-solutions c.self.inside.undo c.self.inside.items.before c.self.inside.engine.earlier c.self.inside.pasts.items c.self.invariant.1;
      can = step-can c.self.inside.tree c.self.inside.metrics (items_of c.self.inside.items.items) c.self.inside.setting c.self.inside.engine c.self.invariant.0.scene c.show_layout.ensures.layout c.requires.0 c.args.step is;
      holds = is.holds;
    }

pub keep-requires : goal.keep-requires
keep-requires g c = record {
  most = c.self.invariant.1.limit;
  few = c.self.invariant.1.few;
  room = c.self.invariant.2;
  items = more-items c.self.inside.undo c.self.inside.items.before c.self.inside.engine.earlier c.self.inside.pasts.items c.self.invariant.1 c.run.new.items.before c.self.inside.items.items c.in_ok-run.ensures.before;
  solutions = more-solutions c.self.inside.undo c.self.inside.items.before c.self.inside.engine.earlier c.self.inside.pasts.items c.self.invariant.1 c.run.new.engine.earlier _ c.in_ok-run.ensures.earlier;
}

pub invariant_of-self-2 : goal.invariant_of-self-2
invariant_of-self-2 g c =
    let is : IsStepTo (scene_at c.self.inside.tree c.self.inside.metrics (items_of c.self.inside.items.items) c.self.inside.setting c.self.inside.engine) c.requires.0 c.args.step = subst (λ (h : History). IsStepTo h.scene c.requires.0 c.args.step) (sym c.self.view_is) c.requires.1 in (
      next-history c.self.inside.tree c.put-past.new.tree c.self.inside.metrics c.put-past.new.metrics c.self.inside.items c.self.inside.setting c.self.inside.engine c.self.inside.pasts.items c.self.inside.undo c.put-past.result c.put-past.ensures.old_tree c.put-past.ensures.old_metrics c.put-past.ensures.old_setting
          c.keep.new.items c.put-past.new.setting c.keep.new.engine c.keep.new.pasts.items c.run.new.items.before c.run.new.engine.earlier
          c.in_ok-run.ensures.before c.in_ok-run.ensures.earlier c.keep.ensures.items c.keep.ensures.solutions c.keep.ensures.pasts c.self.invariant.0
          (rw (c.put-past.ensures.tree, c.put-past.ensures.metrics, c.put-past.ensures.setting)
          (subst IsKept (kept-scene _ _ c.run.new.items.items c.keep.new.items.items c.args.step.own.setting c.run.new.engine c.keep.new.engine c.keep.ensures.now c.keep.ensures.solution)
          (step-kept c.self.inside.tree c.self.inside.metrics (items_of c.self.inside.items.items) c.self.inside.setting c.self.inside.engine c.self.invariant.0.scene c.show_layout.ensures.layout c.requires.0 c.args.step is (items_of c.run.new.items.items) c.run.new.engine c.in_ok-run.ensures.items c.in_ok-run.ensures.problem c.in_ok-run.ensures.layout))),
      c.keep.ensures.alike,
      rw c.keep.ensures.capacity c.self.invariant.2,
    )

pub returns-clause-taken : goal.returns-clause-taken
returns-clause-taken g c =
    rw (← c.self.view_is, c.put-past.ensures.tree, c.put-past.ensures.metrics, c.put-past.ensures.setting)
    (λ to is. subst (λ (s : Scene). ComesTo (kind_of to) (scene_at c.self.inside.tree c.self.inside.metrics (items_of c.self.inside.items.items) c.self.inside.setting c.self.inside.engine) (drafted (scene_at c.self.inside.tree c.self.inside.metrics (items_of c.self.inside.items.items) c.self.inside.setting c.self.inside.engine) to) c.args.budget s)
    (kept-scene _ _ c.run.new.items.items c.keep.new.items.items c.args.step.own.setting c.run.new.engine c.keep.new.engine c.keep.ensures.now c.keep.ensures.solution)
    (step-comes c.self.inside.tree c.self.inside.metrics (items_of c.self.inside.items.items) c.self.inside.setting c.self.inside.engine c.self.invariant.0.scene c.show_layout.ensures.layout to c.args.step is (items_of c.run.new.items.items) c.run.new.engine c.in_ok-run.ensures.items c.in_ok-run.ensures.problem c.in_ok-run.ensures.layout c.args.budget c.in_ok-run.ensures.solved))

pub returns-clause-values : goal.returns-clause-values
returns-clause-values g c =
    rw (← c.self.view_is, c.put-past.ensures.tree, c.put-past.ensures.metrics, c.put-past.ensures.setting)
    (λ to is. subst (λ (s : Scene). KeepsValues to (scene_at c.self.inside.tree c.self.inside.metrics (items_of c.self.inside.items.items) c.self.inside.setting c.self.inside.engine) s)
    (kept-scene _ _ c.run.new.items.items c.keep.new.items.items c.args.step.own.setting c.run.new.engine c.keep.new.engine c.keep.ensures.now c.keep.ensures.solution)
    (step-values c.self.inside.tree c.self.inside.metrics (items_of c.self.inside.items.items) c.self.inside.setting c.self.inside.engine c.self.invariant.0.scene c.show_layout.ensures.layout to c.args.step is (items_of c.run.new.items.items) c.run.new.engine c.in_ok-run.ensures.items c.in_ok-run.ensures.problem c.in_ok-run.ensures.layout c.args.budget c.in_ok-run.ensures.solved))

pub returns-clause-earlier : goal.returns-clause-earlier
returns-clause-earlier g c =
    rw (← c.self.view_is) (
      (kept-earlier c.self.inside.tree c.put-past.new.tree c.self.inside.metrics c.put-past.new.metrics c.self.inside.items c.self.inside.setting c.self.inside.engine c.self.inside.pasts.items c.self.inside.undo c.put-past.result c.put-past.ensures.old_tree c.put-past.ensures.old_metrics c.put-past.ensures.old_setting
          c.run.new.items.before c.keep.new.items.before c.run.new.engine.earlier c.keep.new.engine.earlier c.keep.new.pasts.items
          c.in_ok-run.ensures.before c.in_ok-run.ensures.earlier c.keep.ensures.items c.keep.ensures.solutions c.keep.ensures.pasts),
      refl,
    )

pub returns-in_err-run-clause-stop : goal.returns-in_err-run-clause-stop
returns-in_err-run-clause-stop g c =
    let exit = err_from_is_err_and c.from_residual.result c.from_residual.ensures.1 in
    rw (exit.1, exit.2, ← c.self.view_is)
    (λ to is. step-stops c.self.inside.tree c.self.inside.metrics (items_of c.self.inside.items.items) c.self.inside.setting c.self.inside.engine c.self.invariant.0.scene c.show_layout.ensures.layout to c.args.step is c.args.budget c.in_err-run.field-0.0 c.in_err-run.ensures.stop)

pub invariant_of-self : goal.invariant_of-self
invariant_of-self g c = (
  unchanged-IsKept c.self.inside.tree c.self.inside.metrics c.self.inside.items c.run.new.items c.self.inside.setting c.self.inside.engine c.run.new.engine c.self.inside.pasts.items c.self.inside.undo c.in_err-run.ensures.back c.in_err-run.ensures.same c.self.invariant.0,
  unchanged-AreAlike c.self.inside.tree c.self.inside.metrics c.self.inside.items c.run.new.items c.self.inside.setting c.self.inside.engine c.run.new.engine c.self.inside.pasts.items c.self.inside.undo c.in_err-run.ensures.back c.in_err-run.ensures.same c.self.invariant.1,
  c.self.invariant.2,
)

pub returns-in_err-run-clause-same : goal.returns-in_err-run-clause-same
returns-in_err-run-clause-same g c =
    let exit = err_from_is_err_and c.from_residual.result c.from_residual.ensures.1 in
    rw (exit.1, ← c.self.view_is)
    (unchanged c.self.inside.tree c.self.inside.metrics c.self.inside.items c.run.new.items c.self.inside.setting c.self.inside.engine c.run.new.engine c.self.inside.pasts.items c.self.inside.undo c.in_err-run.ensures.back c.in_err-run.ensures.same)
