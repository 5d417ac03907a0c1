use Rattle.std.proofs.Common.{◌≡◌, ℕ, pos, get_or, SFits, rules, subst}
use Rattle.std.specs.Prelude.{unsigned_abs}
use Rattle.std.specs.Int.{w128, IsGcd}
use Rattle.std.proofs.lemmas.Int.{to_z-of_z}
use Rattle.constraint_compile.proofs.Sums.Divisors.{divisor_more}
use Rattle.constraint_compile.proofs.line.sums.common_divisor.Goals as goal

pub loop-number-preserved : goal.loop-number-preserved
loop-number-preserved c =
    let fits : SFits w128 (get_or c.args.numbers.now c.loop-number.number-index (pos 0)) = search rules in
    let size : c.unsigned_abs.result ≡ unsigned_abs (get_or c.args.numbers.now c.loop-number.number-index (pos 0)) = simp to_z-of_z at c.unsigned_abs.ensures.value in
    divisor_more c.args.whole c.args.numbers.now c.loop-number.number-index c.loop-number.divisor c.gcd-divisor.result c.loop-number-test.true
    (subst (λ (n : ℕ). IsGcd n c.loop-number.divisor c.gcd-divisor.result) size c.gcd-divisor.ensures) c.loop-number.invariant
