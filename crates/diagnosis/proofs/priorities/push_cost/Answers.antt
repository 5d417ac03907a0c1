use Rattle.std.proofs.Common.{◌≡◌, ◌+◌, ◌-◌, ℕ, subst, arith}
use Rattle.diagnosis.specs.Costs.{AreCosts}
use Rattle.diagnosis.proofs.CostLists.{costs_push, costs_skip}
use Rattle.diagnosis.proofs.priorities.push_cost.Goals as goal

pub returns-in_ok-push : goal.returns-in_ok-push
returns-in_ok-push g c are =
    let some = c.requires.some in
    let most = c.requires.most in
    costs_push c.args.e.now.problem c.args.e.now.values (c.args.above - 1) c.args.out.now.items c.push.new.self.items c.cost-cost.result (omega (arith, some, most))
    (c.cost-cost.ensures.value (1000 - (c.args.above - 1)) (omega (arith, some, most)))
    (c.is_zero.ensures.no c.if-not-is_zero.true) c.is_zero.ensures.kept.lowest c.in_ok-push.ensures.items
    (subst (λ (n : ℕ). AreCosts c.args.e.now.problem c.args.e.now.values n c.args.out.now.items) (let q : c.args.above ≡ c.args.above - 1 + 1 = omega (arith, some) in q) are)

pub returns-else-not-is_zero : goal.returns-else-not-is_zero
returns-else-not-is_zero g c are =
    let some = c.requires.some in
    let most = c.requires.most in
    costs_skip c.args.e.now.problem c.args.e.now.values (c.args.above - 1) c.args.out.now.items c.cost-cost.result
    (c.cost-cost.ensures.value (1000 - (c.args.above - 1)) (omega (arith, some, most)))
    (c.is_zero.ensures.yes c.if-not-is_zero.false) c.is_zero.ensures.kept.lowest
    (subst (λ (n : ℕ). AreCosts c.args.e.now.problem c.args.e.now.values n c.args.out.now.items) (let q : c.args.above ≡ c.args.above - 1 + 1 = omega (arith, some) in q) are)
