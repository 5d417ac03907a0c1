use Rattle.std.proofs.Common.{inr, refl}
use Rattle.session_undo.specs.Kept.{session_at}
use Rattle.session_undo.proofs.Commands.Steps.{some-earlier}
use Rattle.session_undo.proofs.session.Session.undo_problem.Goals as goal

pub returns-clause-posed : goal.returns-clause-posed
returns-clause-posed g c =
    let old = (session_at c.self.inside.scene c.self.inside.budget c.self.inside.limits c.self.inside.version) in
    rw (← c.self.view_is) (inr ((some-earlier old.earlier (c.if-not-has_earlier.ensures.yes refl)), c.in_ok-problem.ensures))
