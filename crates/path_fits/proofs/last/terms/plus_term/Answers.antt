use Rattle.std.proofs.Common.{◌∙◌, ◌*ℤ◌, ◌<ℤ◌, ℤ, pos, sym, subst, rules, SFits}
use Rattle.std.specs.Int.{w64}
use Rattle.std.proofs.lemmas.Int.{to_z-of_z}
use Rattle.std.proofs.lemmas.Result.{err_from_is_err_and}
use Rattle.frac_core.specs.Fraction.{IsRatio, IsUnfitRatio, sum_den, sum_num}
use Rattle.path_lines.specs.Numbers.{IsCombined}
use Rattle.path_lines.proofs.Exchanges.NextLines.{sized_from}
use Rattle.path_fits.proofs.LastCorner.TermsAfter.{term_list_unfit, term_more, term_value_unfit}
use Rattle.path_fits.proofs.last.terms.plus_term.Goals as goal
use Rattle.frac_core.proofs.Numbers.{product-up as positive_product}

pub in_lowest_terms-requires : goal.in_lowest_terms-requires
in_lowest_terms-requires c =
    subst (λ (z : ℤ). pos 0 <ℤ z) (sym c.in_ok-wide.ensures.own) (positive_product c.args.more.now.own c.args.sum.now.own c.requires.more.above c.requires.sum.above)

pub returns-in_err-numbers-clause-unfit : goal.returns-in_err-numbers-clause-unfit
returns-in_err-numbers-clause-unfit c =
    let by : SFits w64 c.args.by = search rules in
    let combined : IsCombined c.args.more.now.own c.args.sum.now.by.items (c.args.sum.now.own *ℤ c.args.by) c.args.more.now.by.items c.in_ok-wide.wide.by.items = simp to_z-of_z at c.in_ok-wide.ensures.by in
    let exit = err_from_is_err_and c.from_residual-in_err-numbers.result c.from_residual-in_err-numbers.ensures.1 in
    rw (exit.1, exit.2) (λ same p at q u there s m.
    (term_list_unfit p at q u c.args.sum.now c.args.more.now c.args.by c.in_ok-wide.wide.own c.in_ok-wide.wide.by.items there s m c.in_ok-wide.ensures.own combined (c.in_err-numbers.ensures.unfit same)))

pub returns-in_err-value-clause-unfit : goal.returns-in_err-value-clause-unfit
returns-in_err-value-clause-unfit c =
    let by : SFits w64 c.args.by = search rules in
    let combined : IsCombined c.args.more.now.own c.args.sum.now.by.items (c.args.sum.now.own *ℤ c.args.by) c.args.more.now.by.items c.in_ok-wide.wide.by.items = simp to_z-of_z at c.in_ok-wide.ensures.by in
    let unfit : IsUnfitRatio (sum_num c.args.sum.now.value c.args.by (pos 1) c.args.more.now.value) (sum_den c.args.sum.now.value (pos 1) c.args.more.now.value) = simp to_z-of_z at c.in_err-value.ensures.unfit in
    let exit = err_from_is_err_and c.from_residual-in_err-value.result c.from_residual-in_err-value.ensures.1 in
    rw (exit.1, exit.2) (λ same p at q u there s m.
    (term_value_unfit p at q u c.args.sum.now c.args.more.now c.args.by c.in_ok-wide.wide.by.items there s m combined unfit))

pub returns-clause-sized : goal.returns-clause-sized
returns-clause-sized c =
    sized_from _ c.sum_of.result c.in_ok-wide.wide.own c.in_ok-numbers.numbers.own c.in_ok-wide.wide.by.items c.in_ok-numbers.numbers.by.items c.in_ok-numbers.ensures.lowest
    (c.in_ok-wide.ensures.by.count ∙ c.requires.sum.count_is) c.in_ok-numbers.ensures.above c.in_ok-numbers.ensures.fits c.sum_of.ensures.own c.sum_of.ensures.by

pub returns-clause-next : goal.returns-clause-next
returns-clause-next c =
    let by : SFits w64 c.args.by = search rules in
    let combined : IsCombined c.args.more.now.own c.args.sum.now.by.items (c.args.sum.now.own *ℤ c.args.by) c.args.more.now.by.items c.in_ok-wide.wide.by.items = simp to_z-of_z at c.in_ok-wide.ensures.by in
    let ratio : IsRatio c.in_ok-value.value (sum_num c.args.sum.now.value c.args.by (pos 1) c.args.more.now.value) (sum_den c.args.sum.now.value (pos 1) c.args.more.now.value) = simp to_z-of_z at c.in_ok-value.ensures.value in
    λ p at q u there s m.
    (term_more p at q u c.args.sum.now c.args.more.now c.sum_of.result c.args.by c.in_ok-wide.wide.own c.in_ok-numbers.numbers.own c.in_ok-wide.wide.by.items c.in_ok-numbers.numbers.by.items c.in_ok-value.value there s m c.in_ok-wide.ensures.own combined
    c.in_ok-numbers.ensures.lowest c.in_ok-numbers.ensures.above c.in_ok-numbers.ensures.fits c.in_ok-value.ensures.lowest.above ratio c.sum_of.ensures.own c.sum_of.ensures.by c.sum_of.ensures.value)
