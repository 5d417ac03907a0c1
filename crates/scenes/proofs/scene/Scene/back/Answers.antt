use Rattle.std.proofs.Common.{sym}
use Rattle.scenes.proofs.Histories.{back-AreAlike, back-IsKept, back-history}
use Rattle.scenes.proofs.scene.Scene.back.Goals as goal

pub invariant_of-self-2 : goal.invariant_of-self-2
invariant_of-self-2 g c = (
  back-IsKept c.self.inside.tree c.put-after.new.tree c.self.inside.metrics c.put-after.new.metrics c.self.inside.items c.back.new.self c.self.inside.setting c.put-after.new.setting c.self.inside.engine c.back-2.new.self c.self.inside.pasts.items c.pop_front.new.self.items c.self.inside.undo c.in-Some.past
      c.in-Some.ensures.items c.back.ensures.version c.back-2.ensures (sym c.put-after.ensures.tree) (sym c.put-after.ensures.metrics) (sym c.put-after.ensures.setting) c.self.invariant.0,
  back-AreAlike c.self.inside.tree c.put-after.new.tree c.self.inside.metrics c.put-after.new.metrics c.self.inside.items c.back.new.self c.self.inside.setting c.put-after.new.setting c.self.inside.engine c.back-2.new.self c.self.inside.pasts.items c.pop_front.new.self.items c.self.inside.undo c.in-Some.past
      c.in-Some.ensures.items c.back.ensures.version c.back-2.ensures (sym c.put-after.ensures.tree) (sym c.put-after.ensures.metrics) (sym c.put-after.ensures.setting) c.self.invariant.1,
  rw c.pop_front.ensures.capacity c.self.invariant.2,
)

pub returns-clause-back : goal.returns-clause-back
returns-clause-back g c =
    rw (← c.self.view_is)
    (back-history c.self.inside.tree c.put-after.new.tree c.self.inside.metrics c.put-after.new.metrics c.self.inside.items c.back.new.self c.self.inside.setting c.put-after.new.setting c.self.inside.engine c.back-2.new.self c.self.inside.pasts.items c.pop_front.new.self.items c.self.inside.undo c.in-Some.past
    c.in-Some.ensures.items c.back.ensures.version c.back-2.ensures (sym c.put-after.ensures.tree) (sym c.put-after.ensures.metrics) (sym c.put-after.ensures.setting))
