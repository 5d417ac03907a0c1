use Rattle.std.proofs.Common.{rules, ◌≡◌, ◌∙◌, ℤ, pos, subst, IfOk, OnErr, SFits, to_z, of_z}
use Rattle.std.specs.Int.{w128}
use Rattle.std.proofs.lemmas.Int.{to_z-of_z}
use Rattle.frac_core.specs.Fraction.{IsRatio, IsUnfitRatio, sum_num}
use Rattle.corner_table.proofs.Basics.WholeSums.{whole_den, whole_num}
use Rattle.corner_table.proofs.sums.sum.Goals as goal

pub returns-then-are_whole-clause-value : goal.returns-then-are_whole-clause-value
returns-then-are_whole-clause-value c =
    let fits : SFits w128 c.whole_sum.result = search rules in
    let whole = (simp (to_z-of_z, c.ranges.d) at c.are_whole.ensures) c.if-are_whole.true in
    let is = simp (to_z-of_z, c.ranges.n) at c.whole_sum.ensures in
    let e : to_z w128 (of_z w128 c.whole_sum.result) ≡ sum_num c.args.a c.args.n c.args.d c.args.t = to_z-of_z w128 c.whole_sum.result fits ∙ is ∙ whole_num c.args.a c.args.t c.args.n c.args.d whole.0 whole.1.0 whole.1.1 in
    subst (λ (q : ℤ). IfOk c.of.result (λ f. IsRatio f (sum_num c.args.a c.args.n c.args.d c.args.t) q)) (whole_den c.args.a c.args.t c.args.d whole.0 whole.1.0 whole.1.1)
    (subst (λ (p : ℤ). IfOk c.of.result (λ f. IsRatio f p (pos 1))) e c.of.ensures.value)

pub returns-then-are_whole-clause-unfit : goal.returns-then-are_whole-clause-unfit
returns-then-are_whole-clause-unfit c =
    let fits : SFits w128 c.whole_sum.result = search rules in
    let whole = (simp (to_z-of_z, c.ranges.d) at c.are_whole.ensures) c.if-are_whole.true in
    let is = simp (to_z-of_z, c.ranges.n) at c.whole_sum.ensures in
    let e : to_z w128 (of_z w128 c.whole_sum.result) ≡ sum_num c.args.a c.args.n c.args.d c.args.t = to_z-of_z w128 c.whole_sum.result fits ∙ is ∙ whole_num c.args.a c.args.t c.args.n c.args.d whole.0 whole.1.0 whole.1.1 in
    subst (λ (q : ℤ). OnErr c.of.result (IsUnfitRatio (sum_num c.args.a c.args.n c.args.d c.args.t) q)) (whole_den c.args.a c.args.t c.args.d whole.0 whole.1.0 whole.1.1)
    (subst (λ (p : ℤ). OnErr c.of.result (IsUnfitRatio p (pos 1))) e c.of.ensures.unfit)
