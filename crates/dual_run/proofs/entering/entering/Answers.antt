use borrow.Author.Tests.{not-true}
use Rattle.dual_run.proofs.Choices.{choice_moves, choice_swaps}
use Rattle.dual_run.proofs.Turns.{turn_of}
use Rattle.dual_run.proofs.entering.entering.Goals as goal

pub is_dear-is_free-requires : goal.is_dear-is_free-requires
is_dear-is_free-requires g c = (turn_of c.args.c.now.problem c.args.c.now.marks c.args.leave c.other-own.result c.show_corner.ensures.kept c.requires.columns c.requires.leave c.other-own.ensures).outside.0

pub returns-then-turns-clause-outside : goal.returns-then-turns-clause-outside
returns-then-turns-clause-outside g c = (turn_of c.args.c.now.problem c.args.c.now.marks c.args.leave c.other-own.result c.show_corner.ensures.kept c.requires.columns c.requires.leave c.other-own.ensures).outside

pub returns-then-turns-clause-moves : goal.returns-then-turns-clause-moves
returns-then-turns-clause-moves g c = (turn_of c.args.c.now.problem c.args.c.now.marks c.args.leave c.other-own.result c.show_corner.ensures.kept c.requires.columns c.requires.leave c.other-own.ensures).moves

pub returns-then-turns-clause-swap : goal.returns-then-turns-clause-swap
returns-then-turns-clause-swap g c =
    (turn_of c.args.c.now.problem c.args.c.now.marks c.args.leave c.other-own.result c.show_corner.ensures.kept c.requires.columns c.requires.leave c.other-own.ensures).swap
    (c.is_dear-is_free.ensures.no (not-true c.is_dear-is_free.result (c.turns.ensures.free c.if-turns.true))) (c.turns.ensures.dear c.if-turns.true)

pub returns-clause-moves : goal.returns-clause-moves
returns-clause-moves g c = choice_moves c.args.c.now.problem c.args.c.now.marks c.args.leave c.in_ok-best.best c.show_corner.ensures.kept c.requires.leave.low.inside c.in_ok-best.ensures.choice

pub returns-clause-swap : goal.returns-clause-swap
returns-clause-swap g c = choice_swaps c.args.c.now.problem c.args.c.now.marks c.args.leave c.in_ok-best.best c.show_corner.ensures.kept c.requires.leave c.in_ok-best.ensures.choice c.in_ok-best.ensures.own c.in_ok-best.ensures.least
