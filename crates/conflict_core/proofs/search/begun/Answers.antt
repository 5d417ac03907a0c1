use Rattle.conflict_core.proofs.Narrowing.{begun}
use Rattle.conflict_core.proofs.search.begun.Goals as goal

pub returns : goal.returns
returns c = λ p ids whole shown.
    begun p ids c.in_ok-named.field-0.items c.args.by c.new.result.items c.in_ok-named.ensures c.new.ensures.items whole shown
