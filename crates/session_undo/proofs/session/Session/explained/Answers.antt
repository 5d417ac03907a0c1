use Rattle.std.proofs.Common.{ap, subst, sym}
use Rattle.scenes.specs.Drafts.{drafted}
use Rattle.scenes.specs.Scene.{History}
use Rattle.session_undo.specs.Explaining.{ExplainsDraft}
use Rattle.session_undo.specs.Kept.{AreLimitsOf, limits_of, session_at}
use Rattle.session_undo.specs.Replies.{found_reply}
use Rattle.session_undo.specs.State.{State}
use Rattle.session_undo.proofs.Commands.Explained.{draft-stop-explains, found-explains}
use Rattle.session_undo.proofs.Commands.Steps.{after}
use Rattle.session_undo.proofs.session.Session.explained.Goals as goal
use Rattle.session_undo.proofs.session.Session.explained.Goals.{in-Ok, in-Err}

pub returns-clause-accepted : goal.returns-clause-accepted
returns-clause-accepted g c =
    let old = (session_at c.self.inside.scene c.self.inside.budget c.self.inside.limits c.self.inside.version) in
    let d = drafted old.scene c.args.draft in
    elim c.match-core.branch [
      | in-Ok w ↦ let (p, of, whole, found) = w.in-Ok.ensures.found in
          rw (w.result-is, ← c.self.view_is) (subst (λ (new : State). ExplainsDraft old d (found_reply w.in-Ok.found) new) (sym (ap (λ (h : History). after old h) c.core.ensures.same))
          (p, of, found-explains old p whole w.in-Ok.found found))
      | in-Err w ↦ rw w.result-is tt
    ]

pub returns-clause-refused : goal.returns-clause-refused
returns-clause-refused g c =
    let old = (session_at c.self.inside.scene c.self.inside.budget c.self.inside.limits c.self.inside.version) in
    let d = drafted old.scene c.args.draft in
    elim c.match-core.branch [
      | in-Ok w ↦ rw w.result-is tt
      | in-Err w ↦ let (p, of, stop) = w.in-Err.ensures.stop in
          rw (w.result-is, w.core_refusal.ensures, ← c.self.view_is) (draft-stop-explains old d p of w.in-Err.stop stop)
    ]

pub invariant_of-self : goal.invariant_of-self
invariant_of-self g c = (c.self.invariant.0, subst (λ (h : History). AreLimitsOf h (limits_of c.self.inside.limits)) (sym c.core.ensures.same) c.self.invariant.1)
