use Rattle.std.proofs.Common.{◌≡◌, ◌∙◌, ◌++◌, ◌∷◌, [], List, ℕ, ℤ, take, get_or, ap, ap₂, sym, append_assoc}
use Rattle.frac_core.specs.Fraction.{Fraction}
use Rattle.problem_core.specs.declared.parts.Stay.{Stay}
use Rattle.problem_core.specs.Window.{zero_fraction}
use Rattle.layout_solver.specs.Layouts.{stays_at, zeros}
use Rattle.layout_solver.proofs.Posed.Moves.{stay, zeros-next}
use Rattle.layout_solver.proofs.posing.push_zeros.Goals as goal

pub loop-attr-preserved : goal.loop-attr-preserved
loop-attr-preserved c =
    let next = zeros-next c.args.attrs.now c.loop-attr.attr-index 0 c.loop-attr-test.true in
    let nought : c.zero.result ≡ zero_fraction = ap₂ (λ (n : ℤ) (d : ℕ). (let f : Fraction = record { num = n; den = d } in f)) c.zero.ensures.num c.zero.ensures.den in
    c.in_ok-push.ensures.items ∙ ap (λ (f : Fraction). c.loop-attr.stays.items ++ stay (get_or c.args.attrs.now c.loop-attr.attr-index 0) f ∷ []) nought
    ∙ ap (λ (ss : List Stay). ss ++ stay (get_or c.args.attrs.now c.loop-attr.attr-index 0) zero_fraction ∷ []) c.loop-attr.invariant
    ∙ append_assoc c.args.stays.now.items (stays_at (zeros (take c.loop-attr.attr-index c.args.attrs.now))) (stay (get_or c.args.attrs.now c.loop-attr.attr-index 0) zero_fraction ∷ [])
    ∙ ap (λ (ss : List Stay). c.args.stays.now.items ++ ss) (sym next)
