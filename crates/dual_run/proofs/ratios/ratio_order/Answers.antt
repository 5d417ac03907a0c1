use Rattle.std.proofs.Common.{rules, SFits, ◌∙◌, ap₂}
use Rattle.std.specs.Int.{w64, w128}
use Rattle.std.specs.Ordering.{int_cmp}
use Rattle.std.proofs.lemmas.Int.{to_z-of_z}
use Rattle.dual_run.proofs.ratios.ratio_order.Goals as goal

pub returns : goal.returns
returns c =
    let by-a : SFits w64 c.args.a.by = search rules in
    let by-b : SFits w64 c.args.b.by = search rules in
    let cost-a : SFits w64 c.args.f.reduced = search rules in
    let cost-b : SFits w64 c.args.g.reduced = search rules in
    let one : SFits w128 c.product-first.result = search rules in
    let two : SFits w128 c.product.result = search rules in
    let x = simp to_z-of_z at c.product-first.ensures.value in
    let y = simp to_z-of_z at c.product.ensures.value in
    c.cmp.ensures ∙ ap₂ int_cmp (to_z-of_z w128 c.product-first.result one ∙ x) (to_z-of_z w128 c.product.result two ∙ y)
