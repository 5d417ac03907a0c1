use Rattle.std.proofs.Common.{◌∙◌, ◌<ℤ◌, arith, pos, subst, sym, unsigned_abs, ℕ, ℤ, w64}
use Rattle.std.specs.Prelude.{FitsSigned}
use borrow.Author.Differences.{ints}
use Rattle.std.specs.Int.{IsGcd}
use Rattle.std.proofs.lemmas.Int.{fits_signed_from_abs, to_z-of_z}
use Rattle.frac_core.proofs.divisor.common_divisor.Goals as goal
use Rattle.frac_core.proofs.Divisors.{gcd_small, positive_small, size_above}

pub overflow_cast-result : goal.overflow_cast-result
overflow_cast-result c =
    let size = simp (to_z-of_z, c.ranges.a) at c.unsigned_abs.ensures.value in
    let above = size_above c.args.a c.requires in
    let few = positive_small c.args.a c.ranges.a c.requires in
    let s = gcd_small c.into.result c.into-2.result c.gcd.result c.gcd.ensures (omega (arith, above, size, c.into.ensures)) in
    fits_signed_from_abs w64 (pos c.gcd.result) (omega (arith, s.1, size, c.into.ensures, few))

pub returns-clause-above : goal.returns-clause-above
returns-clause-above c =
    let size = simp (to_z-of_z, c.ranges.a) at c.unsigned_abs.ensures.value in
    let above = size_above c.args.a c.requires in
    let few = positive_small c.args.a c.ranges.a c.requires in
    let s = gcd_small c.into.result c.into-2.result c.gcd.result c.gcd.ensures (omega (arith, above, size, c.into.ensures)) in
    let fits : FitsSigned w64 (pos c.gcd.result) = fits_signed_from_abs w64 (pos c.gcd.result) (omega (arith, s.1, size, c.into.ensures, few)) in
    subst (λ (z : ℤ). pos 0 <ℤ z) (sym (to_z-of_z w64 (pos c.gcd.result) fits)) (omega (arith, ints, s.0))

pub returns-clause-divisor : goal.returns-clause-divisor
returns-clause-divisor c =
    let size = simp (to_z-of_z, c.ranges.a) at c.unsigned_abs.ensures.value in
    let size2 = simp (to_z-of_z, c.ranges.b) at c.unsigned_abs-2.ensures.value in
    let above = size_above c.args.a c.requires in
    let few = positive_small c.args.a c.ranges.a c.requires in
    let s = gcd_small c.into.result c.into-2.result c.gcd.result c.gcd.ensures (omega (arith, above, size, c.into.ensures)) in
    let fits : FitsSigned w64 (pos c.gcd.result) = fits_signed_from_abs w64 (pos c.gcd.result) (omega (arith, s.1, size, c.into.ensures, few)) in
    subst (λ (z : ℤ). IsGcd (unsigned_abs c.args.a) (unsigned_abs c.args.b) (unsigned_abs z)) (sym (to_z-of_z w64 (pos c.gcd.result) fits))
    (subst (λ (n : ℕ). IsGcd n (unsigned_abs c.args.b) c.gcd.result) (c.into.ensures ∙ size) (subst (λ (n : ℕ). IsGcd c.into.result n c.gcd.result) (c.into-2.ensures ∙ size2) c.gcd.ensures))
