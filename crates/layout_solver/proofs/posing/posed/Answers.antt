use Rattle.std.proofs.Common.{sym, subst, All}
use Rattle.problem_core.specs.Layout.{HasStay}
use Rattle.layout_solver.specs.Requests.{AreStays, CanSolve}
use Rattle.layout_solver.proofs.posing.posed.Goals as goal

pub with_first-requires-clause-held : goal.with_first-requires-clause-held
with_first-requires-clause-held g c =
    let can : AreStays c.args.engine.now.problem c.in-Keep.attrs.items = subst (CanSolve c.args.engine.now) c.in-Keep.is c.requires in
    subst (All (HasStay c.args.engine.now.problem.stays)) (sym c.deref-in-Keep.ensures.value) can.held
