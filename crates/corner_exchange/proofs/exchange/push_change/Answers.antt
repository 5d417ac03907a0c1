use Rattle.std.proofs.Common.{All, List, sym, subst}
use Rattle.corner_exchange.specs.declared.exchange.Change.{Change}
use Rattle.corner_exchange.specs.Swaps.Exchanges.{IsChangeBy}
use Rattle.corner_table.specs.Tables.{lists_of}
use Rattle.corner_exchange.proofs.Pivots.TouchedFacts.{all_pushed}
use Rattle.corner_exchange.proofs.exchange.push_change.Goals as goal

pub returns-clause-changes : goal.returns-clause-changes
returns-clause-changes c =
    subst (λ (cs : List Change). All (IsChangeBy (lists_of c.args.table.now) c.args.pivot.now) cs) (sym c.push.ensures.items)
    (all_pushed (IsChangeBy (lists_of c.args.table.now) c.args.pivot.now) _ c.args.out.now.items c.in_ok-change.change c.requires.changes c.in_ok-change.ensures.ok)
