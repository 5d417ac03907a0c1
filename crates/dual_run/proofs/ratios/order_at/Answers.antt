use Rattle.std.proofs.Common.{rules, SFits, ◌∙◌, ◌*ℤ◌, ℤ, ap, ap₂, sym}
use Rattle.std.specs.Int.{w64, w128}
use Rattle.std.specs.Ordering.{int_cmp}
use Rattle.std.proofs.lemmas.Int.{to_z-of_z}
use Rattle.dual_run.proofs.Orders.{cost_there}
use Rattle.dual_run.proofs.ratios.order_at.Goals as goal

pub returns : goal.returns
returns g c = λ r k here.
    let by-a : SFits w64 c.args.a.by = search rules in
    let by-b : SFits w64 c.args.b.by = search rules in
    let cost-a : SFits w64 c.reduced.result = search rules in
    let cost-b : SFits w64 c.reduced-2.result = search rules in
    let one : SFits w128 c.product-first.result = search rules in
    let two : SFits w128 c.product.result = search rules in
    let x = simp to_z-of_z at c.product-first.ensures.value in
    let y = simp to_z-of_z at c.product.ensures.value in
    c.cmp.ensures
    ∙ ap₂ int_cmp (to_z-of_z w128 c.product-first.result one ∙ x ∙ ap (λ (z : ℤ). c.args.b.by *ℤ z) (sym (cost_there c.args.c.now.problem c.args.c.now.marks c.args.level c.args.a.mark c.reduced.result c.show_corner.ensures.kept c.requires.used c.requires.a c.reduced.ensures r k here)))
    (to_z-of_z w128 c.product.result two ∙ y ∙ ap (λ (z : ℤ). c.args.a.by *ℤ z) (sym (cost_there c.args.c.now.problem c.args.c.now.marks c.args.level c.args.b.mark c.reduced-2.result c.show_corner.ensures.kept c.requires.used c.requires.b c.reduced-2.ensures r k here)))
