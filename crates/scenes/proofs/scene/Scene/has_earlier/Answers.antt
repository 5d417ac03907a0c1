use Rattle.std.proofs.Common.{arith}
use Rattle.std.proofs.lemmas.Bool.Decides.{nat_tests}
use Rattle.std.proofs.lemmas.List.{nil_from_length}
use Rattle.scenes.proofs.Histories.{earlier-count, no-earlier}
use Rattle.scenes.proofs.scene.Scene.has_earlier.Goals as goal

pub returns-clause-yes : goal.returns-clause-yes
returns-clause-yes g c = λ yes.
    rw (← c.self.view_is)
    (grind (arith, nat_tests, yes, c.earlier.ensures.count, c.self.invariant.1.items, earlier-count c.self.inside.tree c.self.inside.metrics c.self.inside.undo c.self.inside.items.before c.self.inside.engine.earlier c.self.inside.pasts.items c.self.invariant.1))

pub returns-clause-no : goal.returns-clause-no
returns-clause-no g c = λ no.
    rw (← c.self.view_is)
    (no-earlier c.self.inside.tree c.self.inside.metrics c.self.inside.undo c.self.inside.items.before c.self.inside.engine.earlier c.self.inside.pasts.items c.self.invariant.1
    (nil_from_length c.self.inside.pasts.items (grind (arith, nat_tests, no, c.earlier.ensures.count, c.self.invariant.1.items))))
