use Rattle.conflict_core.proofs.Narrowing.{kept}
use Rattle.conflict_core.proofs.search.keep.Goals as goal

pub returns : goal.returns
returns c = λ p next way solution.
    kept p c.args.s.now.rows.items c.args.s.now.by c.args.s.now.without.items c.push.new.self.items c.args.id c.args.values c.in_ok-push.ensures.items way next solution
