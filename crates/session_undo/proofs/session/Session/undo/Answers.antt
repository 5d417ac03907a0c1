use Rattle.session_undo.specs.Kept.{limits_of}
use Rattle.session_undo.proofs.Commands.TreeLimits.{limits-back}
use Rattle.session_undo.proofs.session.Session.undo.Goals as goal

pub invariant_of-self : goal.invariant_of-self
invariant_of-self g c = (c.self.invariant.0, limits-back (limits_of c.self.inside.limits) c.self.inside.scene c.back.new.self c.self.invariant.1 c.back.ensures.back c.back.ensures.undo)
