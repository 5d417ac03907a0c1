use Rattle.std.proofs.Common.{◌≡◌, ◌∙◌, ◌<ℤ◌, ℤ, pos, List, rules, SFits, sym, ap, subst}
use Rattle.std.specs.Int.{w64}
use Rattle.std.proofs.lemmas.Int.{to_z-of_z}
use Rattle.std.proofs.lemmas.Result.{err_from_is_err_and}
use Rattle.frac_core.specs.Fraction.{IsRatio, IsUnfitRatio, sum_den, sum_num}
use Rattle.path_lines.specs.Numbers.{number_at}
use Rattle.path_lines.proofs.Exchanges.NextLines.{carried_from, carried_unfit, sized_from, value_unfit}
use Rattle.path_lines.proofs.exchange.carried_sum.Goals as goal
use Rattle.frac_core.proofs.Numbers.{product-up as positive_product}

pub in_lowest_terms-requires : goal.in_lowest_terms-requires
in_lowest_terms-requires c =
    subst (λ (z : ℤ). pos 0 <ℤ z) (sym c.in_ok-wide.ensures.own) (positive_product c.args.pivot.now.size c.args.sum.now.own c.requires.above c.requires.sized.above)

pub returns-in_err-numbers-clause-unfit : goal.returns-in_err-numbers-clause-unfit
returns-in_err-numbers-clause-unfit c =
    let exit = err_from_is_err_and c.from_residual-in_err-numbers.result c.from_residual-in_err-numbers.ensures.1 in
    rw (exit.1, exit.2) (λ same p at mark is entered sum_is inside.
    carried_unfit p at c.args.pivot.now mark c.args.enters c.args.sum.now c.in_ok-wide.wide.own c.in_ok-wide.wide.by.items is entered sum_is c.in_ok-wide.ensures.by c.in_ok-wide.ensures.own inside (c.in_err-numbers.ensures.unfit same))

pub returns-in_err-value-clause-unfit : goal.returns-in_err-value-clause-unfit
returns-in_err-value-clause-unfit c =
    let list : c.deref.result.now ≡ c.args.sum.now.by.items = search rules in
    let number_is : c.number_of-number.result ≡ number_at c.args.sum.now.by.items c.args.pivot.now.step.enter.at = c.number_of-number.ensures ∙ ap (λ (zs : List ℤ). number_at zs c.args.pivot.now.step.enter.at) list in
    let number : SFits w64 c.number_of-number.result = record { sfits = c.number_of-number.type_inv } in
    let own : SFits w64 c.args.sum.now.own = search rules in
    let raw : IsUnfitRatio (sum_num c.args.sum.now.value c.number_of-number.result c.args.sum.now.own c.args.enters) (sum_den c.args.sum.now.value c.args.sum.now.own c.args.enters) = simp to_z-of_z at c.in_err-value.ensures.unfit in
    let unfit : IsUnfitRatio (sum_num c.args.sum.now.value (number_at c.args.sum.now.by.items c.args.pivot.now.step.enter.at) c.args.sum.now.own c.args.enters) (sum_den c.args.sum.now.value c.args.sum.now.own c.args.enters) =
    subst (λ (z : ℤ). IsUnfitRatio (sum_num c.args.sum.now.value z c.args.sum.now.own c.args.enters) (sum_den c.args.sum.now.value c.args.sum.now.own c.args.enters)) number_is raw in
    let exit = err_from_is_err_and c.from_residual-in_err-value.result c.from_residual-in_err-value.ensures.1 in
    rw (exit.1, exit.2) (λ same p at mark is entered sum_is inside.
    value_unfit p at c.args.pivot.now mark c.args.enters c.args.sum.now c.in_ok-wide.wide.by.items is entered sum_is c.in_ok-wide.ensures.by inside unfit)

pub returns-clause-sized : goal.returns-clause-sized
returns-clause-sized c =
    sized_from _ c.sum_of.result c.in_ok-wide.wide.own c.in_ok-numbers.numbers.own c.in_ok-wide.wide.by.items c.in_ok-numbers.numbers.by.items c.in_ok-numbers.ensures.lowest
    (c.in_ok-wide.ensures.by.count ∙ c.requires.sized.count_is) c.in_ok-numbers.ensures.above c.in_ok-numbers.ensures.fits c.sum_of.ensures.own c.sum_of.ensures.by

pub returns-clause-sum : goal.returns-clause-sum
returns-clause-sum c =
    let list : c.deref.result.now ≡ c.args.sum.now.by.items = search rules in
    let number_is : c.number_of-number.result ≡ number_at c.args.sum.now.by.items c.args.pivot.now.step.enter.at = c.number_of-number.ensures ∙ ap (λ (zs : List ℤ). number_at zs c.args.pivot.now.step.enter.at) list in
    let number : SFits w64 c.number_of-number.result = record { sfits = c.number_of-number.type_inv } in
    let own : SFits w64 c.args.sum.now.own = search rules in
    let raw : IsRatio c.in_ok-value.value (sum_num c.args.sum.now.value c.number_of-number.result c.args.sum.now.own c.args.enters) (sum_den c.args.sum.now.value c.args.sum.now.own c.args.enters) = simp to_z-of_z at c.in_ok-value.ensures.value in
    λ p at name is entered sum_is.
    carried_from p at c.args.pivot.now name c.args.enters c.args.sum.now c.sum_of.result c.in_ok-wide.wide.own c.in_ok-numbers.numbers.own c.in_ok-wide.wide.by.items c.in_ok-numbers.numbers.by.items c.in_ok-value.value c.in_ok-wide.ensures.own c.in_ok-wide.ensures.by
    c.in_ok-numbers.ensures.lowest c.in_ok-numbers.ensures.above c.in_ok-numbers.ensures.fits c.in_ok-value.ensures.lowest
    (subst (λ (z : ℤ). IsRatio c.in_ok-value.value (sum_num c.args.sum.now.value z c.args.sum.now.own c.args.enters) (sum_den c.args.sum.now.value c.args.sum.now.own c.args.enters)) number_is raw)
    c.sum_of.ensures.own c.sum_of.ensures.by c.sum_of.ensures.value is entered sum_is
