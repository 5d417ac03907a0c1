use Rattle.std.proofs.Common.{sym}
use Rattle.scenes.proofs.Views.Places.{view-small, view-stays}
use Rattle.scenes.proofs.scene.Scene.frame_at.Goals as goal

pub frame_of-requires-clause-small : goal.frame_of-requires-clause-small
frame_of-requires-clause-small g c = view-small c.self.inside.tree c.args.place _ c.len-count.ensures.tree (sym c.in_ok-view.ensures)

pub frame_of-requires-clause-stays : goal.frame_of-requires-clause-stays
frame_of-requires-clause-stays g c =
    view-stays c.self.inside.engine.problem.stays c.self.inside.tree.views c.args.place _ c.self.invariant.0.scene.counted.stays (sym c.in_ok-view.ensures)

pub returns-clause-some : goal.returns-clause-some
returns-clause-some g c = rw (← c.self.view_is) (_, sym c.in_ok-view.ensures, c.frame_of.ensures)
