use Rattle.std.proofs.Common.{refl, subst, List, ℕ, arith}
use Rattle.std.specs.Io.KnownBytes.{Appends}
use Rattle.edge_io.proofs.Moves.{appends_none}
use Rattle.reply_texts.proofs.Printed.{puts_as}
use Rattle.reply_texts.proofs.printing.print_at.Goals as goal

pub returns-in-Some : goal.returns-in-Some
returns-in-Some g c = puts_as _ _ _ _ _ _ _ c.in-Some.ensures.some c.print_frame.ensures

pub returns-in-None : goal.returns-in-None
returns-in-None g c = record {
  ok = subst (λ (t : List ℕ). Appends (g.K.Sink.held c.args.sink.now) (g.K.Sink.held c.args.sink.now) t) c.in-None.ensures.none
      (appends_none (g.K.Sink.held c.args.sink.now));
  err = tt;
  cause = record { later = omega arith; failed = tt; unfailed = refl };
}
