use Rattle.std.proofs.Common.{refl}
use Rattle.std.proofs.lemmas.Result.{err_from_is_err_and}
use Rattle.corner_table.specs.Tables.{lists_of}
use Rattle.corner_exchange.proofs.Pivots.TouchedFacts.{made_exchange}
use Rattle.corner_exchange.proofs.exchange.exchange_of.Goals as goal

pub returns-clause-ok : goal.returns-clause-ok
returns-clause-ok c = (
  refl,
  made_exchange (lists_of c.args.table.now) c.in_ok-pivot.pivot (record { pair = c.args.pair; entering = c.in_ok-entering.entering; changes = c.in_ok-changes.changes })
      c.in_ok-pivot.ensures.pair c.in_ok-pivot.ensures.ok c.in_ok-entering.ensures.ok c.in_ok-changes.ensures.changes c.in_ok-changes.ensures.rest,
)

pub returns-in_err-changes-clause-stop : goal.returns-in_err-changes-clause-stop
returns-in_err-changes-clause-stop c =
    let exit = err_from_is_err_and c.from_residual-in_err-changes.result c.from_residual-in_err-changes.ensures.1 in
    rw (exit.1, exit.2) (λ s are. c.in_err-changes.ensures.stop s (c.in_ok-pivot.ensures.ok s are))
