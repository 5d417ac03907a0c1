use Rattle.std.proofs.lemmas.Bool.{not-true}
use Rattle.held_items.specs.Kept.{size_in}
use Rattle.scenes.proofs.scene.Scene.is_far_sweep.Goals as goal

pub returns-in-Some-clause-yes : goal.returns-in-Some-clause-yes
returns-in-Some-clause-yes g c = λ far.
    rw (← c.self.view_is) (size_in c.in-Some.held, rw c.as_slice.ensures at c.in-Some.ensures.some, c.is_near_sweep.ensures.no (not-true c.is_near_sweep.result far))
