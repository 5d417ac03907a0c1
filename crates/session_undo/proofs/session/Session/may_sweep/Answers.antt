use Rattle.std.proofs.Common.{inl, inr, refl}
use Rattle.session_undo.proofs.session.Session.may_sweep.Goals as goal

pub returns-then-is_far_sweep-clause-refused : goal.returns-then-is_far_sweep-clause-refused
returns-then-is_far_sweep-clause-refused g c =
    rw (← c.self.view_is)
    (inr ((rw (← c.self.view_is) at c.if-is_no_sweep.ensures.no refl), inl (c.if-is_far_sweep.ensures.yes refl, refl, refl)))
