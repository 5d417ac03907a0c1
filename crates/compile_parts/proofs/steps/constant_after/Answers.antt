use Rattle.std.proofs.Common.{◌≡◌, ◌<◌, ◌≤◌, ℕ, List, get_or, map, sym, subst, ap, ◌∙◌, ◌^◌, arith}
use Rattle.std.specs.String.{string_bytes}
use Rattle.std.proofs.Math.ListN.{get_or-map}
use Rattle.std.proofs.lemmas.List.{length-map}
use Rattle.compile_parts.specs.Keeps.{step_view, steps_view}
use Rattle.compile_parts.specs.declared.steps.Step.{Step}
use Rattle.compile_parts.proofs.Constants.{more_after, stops_after}
use Rattle.compile_parts.proofs.steps.constant_after.Goals as goal

step_at : (names : List (List ℕ)) (steps : List Step) (i : ℕ) (s : Step) → s ≡ get_or steps i s → step_view names s ≡ get_or (steps_view names steps) i (step_view names s)
step_at names steps i s is = ap (step_view names) is ∙ sym (get_or-map (step_view names) steps i s)

pub returns-in_err-now-clause-none : goal.returns-in_err-now-clause-none
returns-in_err-now-clause-none c = rw c.from_residual.ensures (λ all.
    stops_after c.args.metrics.now (steps_view (map string_bytes c.args.names.now) c.args.steps.now) c.loop-step.step-index c.loop-step.now.scale c.loop-step.now.constant (step_view (map string_bytes c.args.names.now) c.step-item.result)
    (omega (arith, c.loop-step-test.true, length-map c.args.steps.now (step_view (map string_bytes c.args.names.now)))) (step_at (map string_bytes c.args.names.now) c.args.steps.now c.loop-step.step-index c.step-item.result c.step-item.is) c.loop-step.invariant
    c.in_err-now.ensures.none all)

pub loop-step-preserved : goal.loop-step-preserved
loop-step-preserved c =
    let scale : c.in_ok-now.now.scale ≡ c.step-item.result.scale = c.in_ok-now.ensures.scale in
    rw scale (more_after c.args.metrics.now (steps_view (map string_bytes c.args.names.now) c.args.steps.now) c.loop-step.step-index c.loop-step.now.scale c.loop-step.now.constant (step_view (map string_bytes c.args.names.now) c.step-item.result) c.in_ok-now.now.constant
    (omega (arith, c.loop-step-test.true, length-map c.args.steps.now (step_view (map string_bytes c.args.names.now)))) (step_at (map string_bytes c.args.names.now) c.args.steps.now c.loop-step.step-index c.step-item.result c.step-item.is)
    (subst (λ (s : Step). (0 < s.scale) × (s.scale ≤ 2 ^ 30)) (sym c.step-item.is) (c.requires.scales c.loop-step.step-index c.step-item.result c.loop-step-test.true)) c.loop-step.invariant
    c.after.ensures.above c.in_ok-now.ensures.constant c.in_ok-now.ensures.small.0 c.in_ok-now.ensures.small.1)

pub returns-clause-small : goal.returns-clause-small
returns-clause-small c = λ i d within. c.loop-step.invariant.small i d (omega (arith, within, c.loop-step-test.false, length-map c.args.steps.now (step_view (map string_bytes c.args.names.now))))
