use Rattle.dual_run.proofs.Turns.{turn_of}
use Rattle.dual_run.specs.Entering.{IsFree}
use Rattle.std.proofs.Common.{subst, sym}
use Rattle.dual_run.proofs.runs.step.Goals as goal

pub exchange_with-requires-clause-outside : goal.exchange_with-requires-clause-outside
exchange_with-requires-clause-outside g c = (turn_of c.args.c.now.problem c.args.c.now.marks c.args.leave.mark c.other-own.result c.show_corner.ensures.kept c.requires.columns c.requires.leave.may c.other-own.ensures).outside

pub exchange_with-requires-clause-moves : goal.exchange_with-requires-clause-moves
exchange_with-requires-clause-moves g c = (turn_of c.args.c.now.problem c.args.c.now.marks c.args.leave.mark c.other-own.result c.show_corner.ensures.kept c.requires.columns c.requires.leave.may c.other-own.ensures).moves

pub exchange_with-requires-clause-swap : goal.exchange_with-requires-clause-swap
exchange_with-requires-clause-swap g c =
    let turn = c.requires.leave.turns c.if-leave.true in
    (turn_of c.args.c.now.problem c.args.c.now.marks c.args.leave.mark c.other-own.result c.show_corner.ensures.kept c.requires.columns c.requires.leave.may c.other-own.ensures).swap
    (subst (IsFree c.args.c.now.problem c.args.c.now.marks) (sym c.other-own.ensures) turn.free) turn.dear
