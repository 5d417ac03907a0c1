use Rattle.std.proofs.Common.{sym, subst}
use borrow.Author.Tests.{not-true}
use Rattle.corner_view.specs.Seen.{IsMarkOf}
use Rattle.dual_run.specs.Entering.{IsFree}
use Rattle.dual_run.proofs.Lows.{other_is_mark}
use Rattle.dual_run.proofs.leaving.is_turn.Goals as goal

pub is_dear-is_free-requires : goal.is_dear-is_free-requires
is_dear-is_free-requires g c =
    subst (IsMarkOf c.args.c.now.problem) (sym c.other-own.ensures) (other_is_mark c.args.c.now.problem c.args.c.now.marks c.args.leave c.show_corner.ensures.kept c.requires)

pub returns : goal.returns
returns g c = λ yes. record {
  free = subst (IsFree c.args.c.now.problem c.args.c.now.marks) c.other-own.ensures (c.is_dear-is_free.ensures.no (not-true c.is_dear-is_free.result (c.turns.ensures.free yes)));
  dear = c.turns.ensures.dear yes;
}
