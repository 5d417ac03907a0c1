use Rattle.std.proofs.Common.{◌≡◌, ◌∙◌, ◌<ℤ◌, ℤ, pos, length, false, sym, subst, rules}
use Rattle.std.proofs.lemmas.Result.{err_from_is_err_and}
use Rattle.path_lines.proofs.Exchanges.NextLines.{sized_from}
use Rattle.path_fits.proofs.LastCorner.QuantitiesAfter.{copied_sized, list_unfit_after, moved_after, turned_after, value_unfit_after}
use Rattle.path_fits.proofs.last.line_sums.next_sum.Goals as goal
use Rattle.frac_core.proofs.Numbers.{product-up as positive_product}

pub returns-then-pivot-clause-sized : goal.returns-then-pivot-clause-sized
returns-then-pivot-clause-sized c = copied_sized (length c.args.sum.now.by.items) c.args.sum.now c.in_ok-with_value.field-0 c.args.sum.now.value c.in_ok-with_value.ensures.copy c.requires.sum

pub returns-then-pivot-clause-next : goal.returns-then-pivot-clause-next
returns-then-pivot-clause-next c = turned_after c.args.pivot.now c.args.sum.now c.in_ok-with_value.field-0 c.if-pivot.true c.in_ok-with_value.ensures.copy

pub in_lowest_terms-requires : goal.in_lowest_terms-requires
in_lowest_terms-requires c =
    subst (λ (z : ℤ). pos 0 <ℤ z) (sym c.in_ok-wide.ensures.own) (positive_product c.args.pivot.now.size c.args.sum.now.own c.requires.pivot.above c.requires.sum.above)

pub returns-in_err-numbers-clause-unfit : goal.returns-in_err-numbers-clause-unfit
returns-in_err-numbers-clause-unfit c =
    let other : c.args.pivot.now.is_turn ≡ false = search rules in
    let exit = err_from_is_err_and c.from_residual-in_err-numbers.result c.from_residual-in_err-numbers.ensures.1 in
    rw (exit.1, exit.2) (λ same p at quantity is s.
    list_unfit_after p at quantity c.args.pivot.now c.args.sum.now c.in_ok-wide.wide.own c.in_ok-wide.wide.by.items is (is.of_lines other) s c.in_ok-wide.ensures.own c.in_ok-wide.ensures.by (c.in_err-numbers.ensures.unfit same))

pub returns-in_err-value-clause-unfit : goal.returns-in_err-value-clause-unfit
returns-in_err-value-clause-unfit c =
    let other : c.args.pivot.now.is_turn ≡ false = search rules in
    let exit = err_from_is_err_and c.from_residual-in_err-value.result c.from_residual-in_err-value.ensures.1 in
    rw (exit.1, exit.2) (λ same p at quantity is s.
    value_unfit_after p at quantity c.args.pivot.now c.args.sum.now c.in_ok-wide.wide.by.items is (is.of_lines other) s c.in_ok-wide.ensures.by c.in_err-value.ensures.unfit)

pub returns-clause-sized : goal.returns-clause-sized
returns-clause-sized c =
    sized_from _ c.sum_of.result c.in_ok-wide.wide.own c.in_ok-numbers.numbers.own c.in_ok-wide.wide.by.items c.in_ok-numbers.numbers.by.items c.in_ok-numbers.ensures.lowest
    (c.in_ok-wide.ensures.by.count ∙ c.requires.sum.count_is) c.in_ok-numbers.ensures.above c.in_ok-numbers.ensures.fits c.sum_of.ensures.own c.sum_of.ensures.by

pub returns-clause-next : goal.returns-clause-next
returns-clause-next c =
    let other : c.args.pivot.now.is_turn ≡ false = search rules in
    λ p at quantity is s.
    moved_after p at quantity c.args.pivot.now c.args.sum.now c.sum_of.result c.in_ok-wide.wide.own c.in_ok-numbers.numbers.own c.in_ok-wide.wide.by.items c.in_ok-numbers.numbers.by.items c.in_ok-value.value (is.of_lines other) s c.in_ok-wide.ensures.own c.in_ok-wide.ensures.by
    c.in_ok-numbers.ensures.lowest c.in_ok-numbers.ensures.above c.in_ok-numbers.ensures.fits c.in_ok-value.ensures.kept.lowest.above c.in_ok-value.ensures.value c.sum_of.ensures.own c.sum_of.ensures.by c.sum_of.ensures.value
