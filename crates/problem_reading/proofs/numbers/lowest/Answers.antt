use Rattle.std.proofs.Common.{refl, pos, SFits, w64, sym, ◌∙◌, rules}
use Rattle.std.specs.Int.{w128}
use Rattle.std.proofs.lemmas.Int.{to_z-of_z}
use Rattle.frac_core.specs.Fraction.{IsRatio}
use Rattle.problem_reading.proofs.Maybe.{of_value, of_error}
use Rattle.problem_reading.proofs.Numerals.Lowest.{made_is, ratio_at}
use Rattle.problem_reading.proofs.numbers.lowest.Goals as goal
use Rattle.problem_reading.proofs.numbers.lowest.Goals.{else-num-via-then-num+else-den, else-num-via-else-num}

pub returns-in_err-made-clause-none : goal.returns-in_err-made-clause-none
returns-in_err-made-clause-none c = rw c.from_residual.ensures (λ kept.
    let num_fits : SFits w128 c.from.result = search rules in
    let den_fits : SFits w128 c.from-2.result = search rules in
    let num_is = to_z-of_z w128 c.from.result num_fits ∙ (c.from.ensures ∙ to_z-of_z w64 c.args.num c.ranges.num) in
    let den_is = to_z-of_z w128 c.from-2.result den_fits ∙ c.from-2.ensures in
    of_error c.of.result c.in_err-made.ensures.variant c.of.ensures.unfit (record { num = c.args.num; den = c.args.den }) kept.lowest (ratio_at _ _ _ _ _ (sym num_is) (sym den_is) refl) kept.fits)

pub returns-else-num-clause-none : goal.returns-else-num-clause-none
returns-else-num-clause-none c = λ kept.
    let num_fits : SFits w128 c.from.result = search rules in
    let den_fits : SFits w128 c.from-2.result = search rules in
    let num_is = to_z-of_z w128 c.from.result num_fits ∙ (c.from.ensures ∙ to_z-of_z w64 c.args.num c.ranges.num) in
    let den_is = to_z-of_z w128 c.from-2.result den_fits ∙ c.from-2.ensures in
    let is : IsRatio c.in_ok-made.made c.args.num (pos c.args.den) =
    ratio_at _ _ _ _ _ num_is den_is (of_value (λ f. IsRatio f _ _) c.of.result c.in_ok-made.made c.in_ok-made.ensures.value c.of.ensures.value) in
    let same = made_is c.in_ok-made.made c.args.num c.args.den c.num.ensures.kept is kept in
    elim c.else-num.branch [
      | else-num-via-then-num+else-den w ↦ w.if-den.false (rw (w.den.ensures.value, same.1) refl)
      | else-num-via-else-num w ↦ w.if-num.false (rw (c.num.ensures.value, same.0) refl)
    ]
