use Rattle.std.proofs.Common.{rules, SFits, refl, ap, ◌∙◌, ◌*ℤ◌, neg_ℤ}
use Rattle.std.specs.Int.{w64, w128}
use Rattle.std.proofs.lemmas.Int.{to_z-of_z}
use Rattle.corner_ends.proofs.Marks.{in_mark}
use Rattle.primal_run.proofs.Counts.{ratio_made}
use Rattle.primal_run.proofs.ties.ratio_of.Goals as goal

pub value-value-requires : goal.value-value-requires
value-value-requires g c = record { mark = in_mark c.args.c.now.problem c.args.c.now.marks c.args.m c.show_corner.ensures.kept c.requires.inside }

pub returns-clause-some : goal.returns-clause-some
returns-clause-some g c =
    let by-fits : SFits w64 c.coefficient_of-by.result = search rules in
    let num-fits : SFits w64 c.num.result = search rules in
    let scale-fits : SFits w64 c.scale.result = search rules in
    let den-fits : SFits w64 c.den.result = search rules in
    let above-fits : SFits w128 c.product.result = search rules in
    let low-fits : SFits w128 c.product-2.result = search rules in
    let below-fits : SFits w128 c.opposite.result = search rules in
    let low = simp to_z-of_z at c.is_below.ensures.yes in
    let a = simp to_z-of_z at c.product.ensures.value in
    let b = simp to_z-of_z at c.product-2.ensures.value in
    let d = simp to_z-of_z at c.opposite.ensures in
    simp to_z-of_z
    (ratio_made c.args.c.now.problem c.args.c.now.marks c.args.enter c.args.m (record { mark = c.args.m; by = c.coefficient_of-by.result; above = c.product.result; below = c.opposite.result }) c.value-value.result c.coefficient_of-by.result c.scale.result c.product.result c.opposite.result c.den.result
    c.show_corner.ensures.kept c.requires.inside c.den.ensures.kept.lowest.above c.value-value.ensures c.scale.ensures.is c.coefficient_of-by.ensures (low c.if-not-is_below.false) (a ∙ ap (λ z. z *ℤ c.scale.result) c.num.ensures.value) c.den.ensures.value (d ∙ ap neg_ℤ b) refl)
