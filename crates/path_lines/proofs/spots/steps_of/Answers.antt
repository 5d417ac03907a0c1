use Rattle.std.proofs.Common.{◌≢◌, ◌+◌, ◌⊎◌, [], List, All, sym, subst, take, take_all, arith}
use Rattle.problem_core.specs.Corners.{Swap}
use Rattle.path_lines.specs.Sides.{AreSteps}
use Rattle.path_lines.specs.Tables.{IsSpotOf}
use Rattle.path_lines.proofs.Walking.PlacedSwaps.{no_steps, no_steps_yet, one_step_more}
use Rattle.path_lines.proofs.spots.steps_of.Goals as goal

pub loop-swap-init : goal.loop-swap-init
loop-swap-init c = λ p same. subst (AreSteps p []) (sym c.new-steps.ensures.items) (no_steps_yet p)

pub returns-in_default-clause-none : goal.returns-in_default-clause-none
returns-in_default-clause-none c = λ p at same corner are.
    no_steps p c.args.names.now at c.args.swaps.now c.loop-swap.swap-index c.swap-item.result same c.loop-swap-test.true
    (subst (λ (s : Swap). All (λ n. n ≢ s.enter.row) c.args.names.now ⊎ All (λ n. n ≢ s.leave.row) c.args.names.now) c.swap-item.is c.in_default.ensures.none) corner are

pub loop-swap-preserved : goal.loop-swap-preserved
loop-swap-preserved c = λ p same.
    subst (AreSteps p (take (c.loop-swap.swap-index + 1) c.args.swaps.now)) (sym c.in_ok-push.ensures.items)
    (one_step_more p c.args.names.now c.args.swaps.now c.loop-swap.steps.items c.loop-swap.swap-index c.swap-item.result c.in-Some.step same c.loop-swap-test.true
    (subst (λ (s : Swap). IsSpotOf c.args.names.now s.enter c.in-Some.step.enter) c.swap-item.is c.in-Some.ensures.enter)
    (subst (λ (s : Swap). IsSpotOf c.args.names.now s.leave c.in-Some.step.leave) c.swap-item.is c.in-Some.ensures.leave) (c.loop-swap.invariant p same))

pub returns-clause-some : goal.returns-clause-some
returns-clause-some c = λ p same.
    subst (λ (ss : List Swap). AreSteps p ss c.loop-swap.steps.items) (take_all c.loop-swap.swap-index c.args.swaps.now (omega (arith, c.loop-swap-test.false))) (c.loop-swap.invariant p same)
