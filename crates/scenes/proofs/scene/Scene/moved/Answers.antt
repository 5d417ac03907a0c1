use Rattle.std.proofs.Common.{◌<◌, length, refl, subst, sym, arith}
use Rattle.layout_solver.specs.Layouts.{solution_of}
use Rattle.held_items.specs.Kept.{items_of}
use Rattle.scenes.specs.Kept.{scene_at}
use Rattle.scenes.specs.Scene.{History}
use Rattle.scenes.proofs.Histories.{earlier-count}
use Rattle.scenes.proofs.MovedFrames.{frames_since, shown_of}
use Rattle.scenes.proofs.scene.Scene.moved.Goals as goal

pub moved-requires : goal.moved-requires
moved-requires g c =
    omega (
      arith,
      subst (λ (h : History). 0 < length h.earlier) (sym c.self.view_is) (c.has_earlier.ensures.yes c.if-not-has_earlier.false),
      earlier-count c.self.inside.tree c.self.inside.metrics c.self.inside.undo c.self.inside.items.before c.self.inside.engine.earlier c.self.inside.pasts.items c.self.invariant.1,
      c.self.invariant.1.solutions,
    )

pub returns-clause-some : goal.returns-clause-some
returns-clause-some g c =
    let some : 0 < length c.self.inside.pasts.items =
    omega (
      arith,
      subst (λ (h : History). 0 < length h.earlier) (sym c.self.view_is) (c.has_earlier.ensures.yes c.if-not-has_earlier.false),
      earlier-count c.self.inside.tree c.self.inside.metrics c.self.inside.undo c.self.inside.items.before c.self.inside.engine.earlier c.self.inside.pasts.items c.self.invariant.1,
    ) in
    rw (← c.self.view_is)
    (frames_since c.self.inside.tree c.self.inside.metrics c.self.inside.items.before c.self.inside.engine.earlier c.self.inside.pasts.items
    (scene_at c.self.inside.tree c.self.inside.metrics (items_of c.self.inside.items.items) c.self.inside.setting c.self.inside.engine)
    (solution_of c.self.inside.engine) c.in_ok-attrs.attrs.items c.in_ok-views.views.items c.self.invariant.1.items c.self.invariant.1.solutions some
    c.self.invariant.0.earlier c.show_layout.ensures.earlier
    (shown_of (scene_at c.self.inside.tree c.self.inside.metrics (items_of c.self.inside.items.items) c.self.inside.setting c.self.inside.engine)
    c.self.invariant.0.scene c.show_layout.ensures.layout.best.attributes c.show_layout.ensures.layout.apart)
    refl (rw c.deref.ensures.value at c.in_ok-views.ensures.owners) c.in_ok-attrs.ensures)
