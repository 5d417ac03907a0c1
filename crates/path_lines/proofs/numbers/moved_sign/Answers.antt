use Rattle.std.proofs.Common.{◌≡◌, ◌∙◌, ◌*ℤ◌, ◌-ℤ◌, ◌<ℤ◌, ℤ, pos, neg_ℤ, ap, ap₂, sym, subst, SFits, rules}
use Rattle.std.specs.Int.{w128}
use Rattle.std.specs.Ordering.{int_cmp}
use Rattle.std.proofs.lemmas.Int.{to_z-of_z}
use Rattle.frac_core.proofs.Integers.{zero-add_ℤ}
use Rattle.path_lines.proofs.Arithmetic.Moves.{moved_order, neg_fits}
use Rattle.path_lines.proofs.numbers.moved_sign.Goals as goal
use Rattle.frac_core.proofs.Numbers.{product-up as positive_product}

pub cmp_wide-requires-clause-d : goal.cmp_wide-requires-clause-d
cmp_wide-requires-clause-d c =
    let over : SFits w128 c.args.ratio.over = search rules in
    let den : SFits w128 c.product-den.result = record { sfits = c.product-den.type_inv } in
    let above : pos 0 <ℤ pos c.args.value.den = search rules in
    let is : c.product-den.result ≡ c.args.ratio.over *ℤ pos c.args.value.den = search rules in
    simp to_z-of_z (subst (λ (z : ℤ). pos 0 <ℤ z) (sym is) (positive_product c.args.ratio.over (pos c.args.value.den) c.requires.above above))

pub returns : goal.returns
returns c =
    let times : SFits w128 c.args.ratio.times = search rules in
    let over : SFits w128 c.args.ratio.over = search rules in
    let num : SFits w128 c.product-num.result = record { sfits = c.product-num.type_inv } in
    let den : SFits w128 c.product-den.result = record { sfits = c.product-den.type_inv } in
    let num_is : c.product-num.result ≡ c.args.ratio.times *ℤ c.args.value.num = search rules in
    let den_is : c.product-den.result ≡ c.args.ratio.over *ℤ pos c.args.value.den = search rules in
    let base_num : c.from.result ≡ c.args.base.num = search rules in
    let base_den : c.from-2.result ≡ pos c.args.base.den = search rules in
    let first : SFits w128 c.from.result = record { sfits = c.from.type_inv } in
    let second : SFits w128 c.from-2.result = record { sfits = c.from-2.type_inv } in
    let minus : pos 0 -ℤ c.product-num.result ≡ neg_ℤ c.product-num.result = zero-add_ℤ (neg_ℤ c.product-num.result) in
    let opposite : SFits w128 (pos 0 -ℤ c.product-num.result) = rw minus (neg_fits c.product-num.result c.product-num.ensures.small) in
    let raw : c.cmp_wide.result ≡ int_cmp (c.from.result *ℤ c.product-den.result) ((pos 0 -ℤ c.product-num.result) *ℤ c.from-2.result) = simp to_z-of_z at c.cmp_wide.ensures in
    raw ∙ ap₂ int_cmp (ap₂ ◌*ℤ◌ base_num den_is) (ap₂ ◌*ℤ◌ (minus ∙ ap neg_ℤ num_is) base_den)
    ∙ moved_order c.args.base c.args.value c.args.ratio.times c.args.ratio.over
