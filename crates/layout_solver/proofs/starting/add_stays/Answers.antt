use Rattle.std.proofs.Common.{◌≡◌, get_or, rules, sym, subst, take}
use Rattle.problem_core.specs.declared.parts.Stay.{Stay}
use Rattle.problem_core.specs.Layout.{HasStay, Problem}
use Rattle.layout_solver.proofs.Starts.FirstStays.{next_fresh}
use Rattle.layout_solver.proofs.starting.add_stays.Goals as goal

pub add_attr-requires-clause-fresh : goal.add_attr-requires-clause-fresh
add_attr-requires-clause-fresh g c =
    let is : get_or c.args.stays.now c.loop-stay.stay-index c.stay-item.result ≡ c.stay-item.result = search rules in
    subst (λ (p : Problem). HasStay p.stays c.stay-item.result.attr → ⊥) (sym c.loop-stay.invariant.problem)
    (subst (λ (s : Stay). HasStay (take c.loop-stay.stay-index c.args.stays.now) s.attr → ⊥) is
    (next_fresh c.args.stays.now c.loop-stay.stay-index c.stay-item.result c.requires.whole.apart c.loop-stay-test.true))
