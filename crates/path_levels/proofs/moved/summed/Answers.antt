use Rattle.std.proofs.Common.{◌≡◌, ◌∙◌, ◌+ℤ◌, ◌*ℤ◌, ◌<ℤ◌, ℤ, pos, sym, ap, subst, subst₂, SFits, rules, arith}
use Rattle.std.specs.Int.{w64, w128}
use Rattle.std.proofs.lemmas.Int.{to_z-of_z}
use Rattle.std.specs.Prelude.{IfOk, OnErr}
use Rattle.path_levels.proofs.Results.{ok_both}
use Rattle.frac_core.specs.Fraction.{IsRatio, IsUnfitRatio}
use Rattle.frac_core.proofs.Products.{pair_size}
use Rattle.path_levels.proofs.Exchanges.MovedValues.{right_fits, sum_fits}
use Rattle.path_levels.proofs.moved.summed.Goals as goal
use Rattle.frac_core.proofs.Numbers.{product-up as positive_product}

pub product-whole-requires : goal.product-whole-requires
product-whole-requires c =
    let rest : SFits w128 c.args.rests.den = search rules in
    let den : SFits w64 c.den.result = record { sfits = c.den.type_inv } in
    let size = pair_size c.args.rests.den c.den.result c.requires.den c.den.ensures.fits in
    simp to_z-of_z (omega (arith, size))

pub product-left-requires : goal.product-left-requires
product-left-requires c =
    let rest : SFits w128 c.args.rests.den = search rules in
    let num : SFits w64 c.num.result = record { sfits = c.num.type_inv } in
    let size = pair_size c.args.rests.den c.num.result c.requires.den c.num.ensures.fits in
    simp to_z-of_z (omega (arith, size))

pub overflow_mul-num : goal.overflow_mul-num
overflow_mul-num c =
    let num : SFits w128 c.args.num = c.ranges.num in
    let share : SFits w128 c.args.rests.num = search rules in
    simp to_z-of_z (right_fits c.args.num c.args.rests.num c.requires.num c.requires.share)

pub overflow_add-left : goal.overflow_add-left
overflow_add-left c =
    let rest : SFits w128 c.args.rests.den = search rules in
    let small : SFits w64 c.num.result = record { sfits = c.num.type_inv } in
    let num : SFits w128 c.args.num = c.ranges.num in
    let share : SFits w128 c.args.rests.num = search rules in
    let left : SFits w128 c.product-left.result = record { sfits = c.product-left.type_inv } in
    let right = right_fits c.args.num c.args.rests.num c.requires.num c.requires.share in
    let left_is : c.product-left.result ≡ c.args.rests.den *ℤ c.num.result = simp to_z-of_z at c.product-left.ensures in
    simp to_z-of_z (subst (λ (z : ℤ). SFits w128 (z +ℤ c.args.num *ℤ c.args.rests.num)) (sym left_is)
    (sum_fits c.args.rests.den c.num.result c.args.num c.args.rests.num c.requires.den c.num.ensures.fits c.requires.num c.requires.share))

pub of-requires : goal.of-requires
of-requires c =
    let rest : SFits w128 c.args.rests.den = search rules in
    let den : SFits w64 c.den.result = record { sfits = c.den.type_inv } in
    let whole : SFits w128 c.product-whole.result = record { sfits = c.product-whole.type_inv } in
    let whole_is : c.product-whole.result ≡ c.args.rests.den *ℤ c.den.result = simp to_z-of_z at c.product-whole.ensures in
    simp to_z-of_z (subst (λ (z : ℤ). pos 0 <ℤ z) (sym whole_is) (positive_product c.args.rests.den c.den.result c.requires.above c.den.ensures.above))

-- what is said of the sum's parts as they are passed is said of them
sum_says : (c : goal.After-of) → IfOk c.of.result (λ f. IsRatio f (c.args.rests.den *ℤ c.args.base.num +ℤ c.args.num *ℤ c.args.rests.num) (c.args.rests.den *ℤ pos c.args.base.den))
    × OnErr c.of.result (IsUnfitRatio (c.args.rests.den *ℤ c.args.base.num +ℤ c.args.num *ℤ c.args.rests.num) (c.args.rests.den *ℤ pos c.args.base.den))
sum_says c =
    let rest : SFits w128 c.args.rests.den = search rules in
    let small : SFits w64 c.num.result = record { sfits = c.num.type_inv } in
    let den : SFits w64 c.den.result = record { sfits = c.den.type_inv } in
    let num : SFits w128 c.args.num = c.ranges.num in
    let share : SFits w128 c.args.rests.num = search rules in
    let left : SFits w128 c.product-left.result = record { sfits = c.product-left.type_inv } in
    let whole : SFits w128 c.product-whole.result = record { sfits = c.product-whole.type_inv } in
    let right = right_fits c.args.num c.args.rests.num c.requires.num c.requires.share in
    let left_raw : c.product-left.result ≡ c.args.rests.den *ℤ c.num.result = simp to_z-of_z at c.product-left.ensures in
    let whole_raw : c.product-whole.result ≡ c.args.rests.den *ℤ c.den.result = simp to_z-of_z at c.product-whole.ensures in
    let both : SFits w128 (c.product-left.result +ℤ c.args.num *ℤ c.args.rests.num) = subst (λ (z : ℤ). SFits w128 (z +ℤ c.args.num *ℤ c.args.rests.num)) (sym left_raw)
    (sum_fits c.args.rests.den c.num.result c.args.num c.args.rests.num c.requires.den c.num.ensures.fits c.requires.num c.requires.share) in
    subst₂ (λ (n d : ℤ). IfOk c.of.result (λ f. IsRatio f (n +ℤ c.args.num *ℤ c.args.rests.num) d) × OnErr c.of.result (IsUnfitRatio (n +ℤ c.args.num *ℤ c.args.rests.num) d))
    (left_raw ∙ ap (λ (z : ℤ). c.args.rests.den *ℤ z) c.num.ensures.value) (whole_raw ∙ ap (λ (z : ℤ). c.args.rests.den *ℤ z) c.den.ensures.value)
    (simp to_z-of_z at c.of.ensures.value, simp to_z-of_z at c.of.ensures.unfit)

pub returns-clause-value : goal.returns-clause-value
returns-clause-value c = (sum_says c).0

pub returns-clause-kept : goal.returns-clause-kept
returns-clause-kept c = ok_both c.of.result (λ f lowest fits. record { lowest = lowest; fits = fits }) c.of.ensures.lowest c.of.ensures.fits

pub returns-clause-unfit : goal.returns-clause-unfit
returns-clause-unfit c = (sum_says c).1
