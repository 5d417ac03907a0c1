use Rattle.conflict_core.proofs.Narrowing.{fewer}
use Rattle.conflict_core.proofs.search.narrow.Goals as goal

pub returns : goal.returns
returns c = λ p id whole next way shown.
    fewer p c.args.s.now.rows.items c.in_ok-s.field-0.items c.args.s.now.by c.args.s.now.without.items id c.args.by c.in_ok-s.ensures whole way next shown
