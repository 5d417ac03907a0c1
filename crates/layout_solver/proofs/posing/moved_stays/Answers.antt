use Rattle.std.proofs.Common.{◌∙◌, ◌++◌, ◌∷◌, [], List, take, ap, sym}
use Rattle.std.proofs.lemmas.List.{take_all}
use Rattle.frac_core.specs.Fraction.{Fraction}
use Rattle.problem_core.specs.declared.parts.Stay.{Stay}
use Rattle.layout_solver.proofs.ApartValues.{value_is}
use Rattle.layout_solver.proofs.Posed.Moves.{moved, moved-is, moved-next, stay}
use Rattle.layout_solver.proofs.posing.moved_stays.Goals as goal

pub loop-stay-preserved : goal.loop-stay-preserved
loop-stay-preserved g c =
    let next = moved-next c.stays-held.result.now c.args.engine.now.values c.loop-stay.stay-index c.stay-item.result c.loop-stay-test.true c.stay-item.is in
    let read = value_is c.args.engine.now.values c.stay-item.result.attr c.value_at.result c.show_layout.ensures.apart c.value_at.ensures in
    c.in_ok-push.ensures.items ∙ ap (λ (ss : List Stay). ss ++ stay c.stay-item.result.attr c.value_at.result ∷ []) c.loop-stay.invariant
    ∙ ap (λ (f : Fraction). moved (take c.loop-stay.stay-index c.stays-held.result.now) c.args.engine.now.values ++ stay c.stay-item.result.attr f ∷ []) read ∙ sym next

pub returns : goal.returns
returns g c =
    c.loop-stay.invariant
    ∙ ap (λ (ss : List Stay). moved ss c.args.engine.now.values) (take_all c.loop-stay.stay-index c.stays-held.result.now c.loop-stay-test.false ∙ c.stays-held.ensures)
    ∙ moved-is c.args.engine.now.problem.stays c.args.engine.now.values c.show_layout.ensures.best.attributes c.show_layout.ensures.apart
