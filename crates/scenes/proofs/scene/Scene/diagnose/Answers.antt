use Rattle.std.proofs.Common.{refl}
use Rattle.held_items.specs.Kept.{items_of}
use Rattle.scenes.proofs.Diagnosed.{can-probe, found-scene, stop-scene}
use Rattle.scenes.proofs.Histories.{few-solutions, unchanged, unchanged-AreAlike, unchanged-IsKept}
use Rattle.scenes.proofs.scene.Scene.diagnose.Goals as goal

pub diagnose-requires : goal.diagnose-requires
diagnose-requires g c = record {
  can = can-probe c.self.inside.tree c.self.inside.metrics (items_of c.self.inside.items.items) c.self.inside.setting c.self.inside.engine c.self.invariant.0.scene
      (few-solutions c.self.inside.undo c.self.inside.items.before c.self.inside.engine.earlier c.self.inside.pasts.items c.self.invariant.1);
}

pub invariant_of-self : goal.invariant_of-self
invariant_of-self g c = (
  unchanged-IsKept c.self.inside.tree c.self.inside.metrics c.self.inside.items c.self.inside.items c.self.inside.setting c.self.inside.engine c.diagnose.new.e c.self.inside.pasts.items c.self.inside.undo refl c.diagnose.ensures.same c.self.invariant.0,
  unchanged-AreAlike c.self.inside.tree c.self.inside.metrics c.self.inside.items c.self.inside.items c.self.inside.setting c.self.inside.engine c.diagnose.new.e c.self.inside.pasts.items c.self.inside.undo refl c.diagnose.ensures.same c.self.invariant.1,
  c.self.invariant.2,
)

pub returns-clause-found : goal.returns-clause-found
returns-clause-found g c =
    rw (← c.self.view_is)
    (found-scene c.self.inside.tree c.self.inside.metrics (items_of c.self.inside.items.items) c.self.inside.setting c.self.inside.engine c.diagnose.result c.diagnose.ensures.found)

pub returns-clause-stop : goal.returns-clause-stop
returns-clause-stop g c =
    rw (← c.self.view_is)
    (stop-scene c.self.inside.tree c.self.inside.metrics (items_of c.self.inside.items.items) c.self.inside.setting c.self.inside.engine c.args.budget c.diagnose.result c.diagnose.ensures.stop)

pub returns-clause-same : goal.returns-clause-same
returns-clause-same g c =
    rw (← c.self.view_is)
    (unchanged c.self.inside.tree c.self.inside.metrics c.self.inside.items c.self.inside.items c.self.inside.setting c.self.inside.engine c.diagnose.new.e c.self.inside.pasts.items c.self.inside.undo refl c.diagnose.ensures.same)
