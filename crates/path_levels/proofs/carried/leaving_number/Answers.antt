use Rattle.std.proofs.Common.{◌≡◌, pos, ◌∙◌, ◌+ℤ◌, ◌*ℤ◌, ℤ, ap, ap₂, rules, SFits}
use Rattle.std.specs.Int.{w64, w128}
use Rattle.path_lines.specs.Numbers.{number_at}
use Rattle.std.proofs.lemmas.Int.{to_z-of_z}
use Rattle.std.proofs.lemmas.List.{get_or_default}
use Rattle.path_levels.proofs.Exchanges.CarriedFacts.{both_fits, both_size}
use Rattle.path_levels.proofs.carried.leaving_number.Goals as goal

pub overflow_add-result : goal.overflow_add-result
overflow_add-result c =
    let a : SFits w128 c.product.result = record { sfits = c.product.type_inv } in
    let b : SFits w128 c.product-2.result = record { sfits = c.product-2.type_inv } in
    simp to_z-of_z (both_fits c.product.result c.product-2.result c.product.ensures.size c.product-2.ensures.size)

pub returns-clause-small : goal.returns-clause-small
returns-clause-small c =
    let a : SFits w128 c.product.result = record { sfits = c.product.type_inv } in
    let b : SFits w128 c.product-2.result = record { sfits = c.product-2.type_inv } in
    let both : SFits w128 (c.product.result +ℤ c.product-2.result) = both_fits c.product.result c.product-2.result c.product.ensures.size c.product-2.ensures.size in
    simp to_z-of_z (both_size c.product.result c.product-2.result c.product.ensures.size c.product-2.ensures.size)

pub returns-clause-value : goal.returns-clause-value
returns-clause-value c =
    let row : SFits w64 c.args.factors.row = search rules in
    let factor : SFits w64 c.args.factors.pivot = search rules in
    let stood : SFits w64 c.stood_number-stood.result = record { sfits = c.stood_number-stood.type_inv } in
    let here : c.index-number.result.now ≡ number_at c.args.pivot.now.by.items c.args.pivot.now.step.leave.at =
    c.index-number.ensures ∙ get_or_default c.args.pivot.now.by.items c.args.pivot.now.step.leave.at c.index-number.result.now (pos 0) c.requires.leave in
    let number : SFits w64 c.index-number.result.now = search rules in
    let a : SFits w128 c.product.result = record { sfits = c.product.type_inv } in
    let b : SFits w128 c.product-2.result = record { sfits = c.product-2.type_inv } in
    let both : SFits w128 (c.product.result +ℤ c.product-2.result) = both_fits c.product.result c.product-2.result c.product.ensures.size c.product-2.ensures.size in
    let first : c.product.result ≡ c.args.factors.row *ℤ c.stood_number-stood.result = simp to_z-of_z at c.product.ensures.value in
    let raw : c.product-2.result ≡ c.index-number.result.now *ℤ c.args.factors.pivot = simp to_z-of_z at c.product-2.ensures.value in
    let second : c.product-2.result ≡ number_at c.args.pivot.now.by.items c.args.pivot.now.step.leave.at *ℤ c.args.factors.pivot = raw ∙ ap (λ (z : ℤ). z *ℤ c.args.factors.pivot) here in
    simp to_z-of_z (ap₂ ◌+ℤ◌ (first ∙ ap (λ (z : ℤ). c.args.factors.row *ℤ z) c.stood_number-stood.ensures.value) second)
