use Rattle.std.proofs.Common.{◌≡◌, ℕ, subst}
use Rattle.constraint_compile.specs.Coefficients.Sums.{AreKept, IsSum, AreWhole}
use Rattle.constraint_compile.proofs.Sums.Wholes.{whole_sum, whole_kept}
use Rattle.constraint_compile.proofs.line.sums.added.Goals as goal

pub returns-in-Some-clause-kept : goal.returns-in-Some-clause-kept
returns-in-Some-clause-kept c =
    let whole : AreWhole c.args.attrs.now c.args.sum.now.numbers.items c.args.share.now c.in-Some.numbers.items = rw c.in-Some.is at c.in_ok-numbers.ensures.whole in
    whole_kept c.args.attrs.now c.args.sum.now.numbers.items c.args.share.now c.in-Some.numbers.items whole

pub returns-in-Some-clause-sum : goal.returns-in-Some-clause-sum
returns-in-Some-clause-sum c = λ b sum covered.
    let whole : AreWhole c.args.attrs.now c.args.sum.now.numbers.items c.args.share.now c.in-Some.numbers.items = rw c.in-Some.is at c.in_ok-numbers.ensures.whole in
    let are : (c.args.sum.now.scale ≡ 1) × (c.args.share.now.by.den ≡ 1) = rw c.in-Some.is at c.in_ok-numbers.ensures.scale in
    whole_sum b c.args.attrs.now c.args.sum.now.numbers.items c.args.share.now c.in-Some.numbers.items
    (subst (λ (k : ℕ). AreKept c.args.attrs.now k c.args.sum.now.numbers.items) are.0 c.requires.kept) are.1 whole
    (subst (λ (k : ℕ). IsSum b c.args.attrs.now k c.args.sum.now.numbers.items) are.0 sum) covered
