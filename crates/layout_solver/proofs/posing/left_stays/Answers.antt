use Rattle.std.proofs.Common.{◌≡◌, ◌∷◌, ◌++◌, [], false, true, not, rules}
use Rattle.problem_core.specs.declared.parts.Stay.{Stay}
use Rattle.layout_solver.specs.Removals.{is_among}
use Rattle.layout_solver.proofs.Posed.Left.{kept-next, left-next}
use Rattle.layout_solver.proofs.posing.left_stays.Goals.{then-not-contains+in_ok-push, else-not-contains}
use Rattle.layout_solver.proofs.posing.left_stays.Goals as goal

pub loop-stay-preserved : goal.loop-stay-preserved
loop-stay-preserved c = elim c.if-not-contains.branch [
  | then-not-contains+in_ok-push w ↦ let stays : not (is_among c.args.gone.now c.stay-item.result.attr) ≡ true = search rules in
      let pushed : c.if-not-contains.left.items ≡ c.loop-stay.left.items ++ c.stay-item.result ∷ [] = search rules in
      kept-next (λ (s : Stay). not (is_among c.args.gone.now s.attr)) c.args.stays.now c.loop-stay.stay-index c.stay-item.result c.loop-stay.left.items c.if-not-contains.left.items c.loop-stay-test.true c.stay-item.is c.loop-stay.invariant stays pushed
  | else-not-contains w ↦ let leaves : not (is_among c.args.gone.now c.stay-item.result.attr) ≡ false = search rules in
      let same : c.if-not-contains.left.items ≡ c.loop-stay.left.items = search rules in
      left-next (λ (s : Stay). not (is_among c.args.gone.now s.attr)) c.args.stays.now c.loop-stay.stay-index c.stay-item.result c.loop-stay.left.items c.if-not-contains.left.items c.loop-stay-test.true c.stay-item.is c.loop-stay.invariant leaves same
]
