use Rattle.std.proofs.Common.{ap, subst, sym}
use Rattle.session_undo.specs.Kept.{AreLimitsOf, limits_of, session_at}
use Rattle.scenes.specs.Scene.{History}
use Rattle.session_undo.proofs.Commands.Diagnosed.{found-answer, stop-answer}
use Rattle.session_undo.proofs.Commands.Steps.{after}
use Rattle.session_undo.proofs.session.Session.diagnose.Goals as goal
use Rattle.session_undo.proofs.session.Session.diagnose.Goals.{in-Ok, in-Err}

pub returns-clause-accepted : goal.returns-clause-accepted
returns-clause-accepted g c =
    let old = (session_at c.self.inside.scene c.self.inside.budget c.self.inside.limits c.self.inside.version) in
    elim c.match-diagnose.branch [
      | in-Ok w ↦ rw (w.result-is, ← c.self.view_is)
          (found-answer old (after old c.diagnose.new.self) w.in-Ok.found w.in-Ok.ensures.found (ap (λ (h : History). after old h) c.diagnose.ensures.same))
      | in-Err w ↦ rw w.result-is tt
    ]

pub returns-clause-refused : goal.returns-clause-refused
returns-clause-refused g c =
    let old = (session_at c.self.inside.scene c.self.inside.budget c.self.inside.limits c.self.inside.version) in
    elim c.match-diagnose.branch [
      | in-Ok w ↦ rw w.result-is tt
      | in-Err w ↦ rw (w.result-is, w.probe_refusal.ensures, ← c.self.view_is)
          (stop-answer old w.in-Err.stopped.attr w.in-Err.stopped.stop w.in-Err.ensures.stop)
    ]

pub invariant_of-self : goal.invariant_of-self
invariant_of-self g c = (c.self.invariant.0, subst (λ (h : History). AreLimitsOf h (limits_of c.self.inside.limits)) (sym c.diagnose.ensures.same) c.self.invariant.1)
