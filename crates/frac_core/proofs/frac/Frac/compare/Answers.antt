use Rattle.std.proofs.Common.{◌≡◌, ◌*ℤ◌, SFits, ◌∙◌, ap₂, pos}
use Rattle.std.specs.Int.{w64, w128}
use Rattle.std.specs.Ordering.{int_cmp}
use Rattle.std.proofs.lemmas.Int.{to_z-of_z}
use Rattle.frac_core.proofs.frac.Frac.compare.Goals as goal

left_is : (c : goal.After-cmp) → c.pair_product-left.result ≡ c.args.self.now.num *ℤ pos c.args.other.now.den
left_is c =
    let num : SFits w64 c.num.result = record { sfits = c.num.type_inv } in
    let den : SFits w64 c.den.result = record { sfits = c.den.type_inv } in
    rw (c.num.ensures.value, c.den.ensures.value) at simp to_z-of_z at c.pair_product-left.ensures

right_is : (c : goal.After-cmp) → c.pair_product-right.result ≡ c.args.other.now.num *ℤ pos c.args.self.now.den
right_is c =
    let num : SFits w64 c.num-2.result = record { sfits = c.num-2.type_inv } in
    let den : SFits w64 c.den-2.result = record { sfits = c.den-2.type_inv } in
    rw (c.num-2.ensures.value, c.den-2.ensures.value) at simp to_z-of_z at c.pair_product-right.ensures

pub returns : goal.returns
returns c =
    let left : SFits w128 c.pair_product-left.result = record { sfits = c.pair_product-left.type_inv } in
    let right : SFits w128 c.pair_product-right.result = record { sfits = c.pair_product-right.type_inv } in
    let found : c.cmp.result ≡ int_cmp c.pair_product-left.result c.pair_product-right.result = simp to_z-of_z at c.cmp.ensures in
    found ∙ ap₂ int_cmp (left_is c) (right_is c)
