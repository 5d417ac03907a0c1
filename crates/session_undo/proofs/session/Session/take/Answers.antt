use Rattle.std.proofs.Common.{refl}
use Rattle.scenes.specs.Drafts.{drafted, kind_of}
use Rattle.session_undo.specs.Kept.{limits_of, session_at}
use Rattle.session_undo.proofs.Commands.Ends.{step-accepted, step-refused}
use Rattle.session_undo.proofs.Commands.Steps.{kept-end}
use Rattle.session_undo.proofs.Commands.TreeLimits.{limits-end, taken-most}
use Rattle.session_undo.proofs.session.Session.take.Goals as goal

pub returns-clause-accepted : goal.returns-clause-accepted
returns-clause-accepted g c =
    let old = (session_at c.self.inside.scene c.self.inside.budget c.self.inside.limits c.self.inside.version) in
    rw (← c.self.view_is) (step-accepted (drafted old.scene c.args.draft) old (kind_of c.args.draft) c.take.new.self c.take.result c.answer_of.result c.answer_of.ensures c.take.ensures.taken (kept-end old c.self.inside.scene c.take.new.self c.take.result refl refl c.self.invariant.1.undo c.take.ensures.earlier))

pub returns-clause-refused : goal.returns-clause-refused
returns-clause-refused g c =
    let old = (session_at c.self.inside.scene c.self.inside.budget c.self.inside.limits c.self.inside.version) in
    rw (← c.self.view_is) (step-refused (drafted old.scene c.args.draft) old (kind_of c.args.draft) c.take.result c.answer_of.result c.answer_of.ensures c.take.ensures.stop)

pub invariant_of-self : goal.invariant_of-self
invariant_of-self g c = (
  c.self.invariant.0,
  limits-end (limits_of c.self.inside.limits) c.self.inside.scene c.take.new.self c.take.result c.self.invariant.1 (taken-most c.self.inside.scene.scene c.args.draft c.self.inside.budget c.take.new.self.scene c.take.result (rw (← c.self.view_is) at c.requires) c.take.ensures.taken) c.take.ensures.earlier c.take.ensures.same,
)
