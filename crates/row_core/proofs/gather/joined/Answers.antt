use Rattle.std.proofs.Common.{ℕ, ◌<◌, ◌^◌, subst, arith}
use Prim.Native.Nat.{◌∣◌}
use Rattle.std.specs.Int.{IsGcd}
use Rattle.std.proofs.Math.Nat.{one-dvd}
use Rattle.row_core.proofs.Dividing.{gcd_small}
use Rattle.row_core.proofs.gather.joined.Goals as goal

pub returns-then-divisor-eq1 : goal.returns-then-divisor-eq1
returns-then-divisor-eq1 c = (one-dvd c.args.size, one-dvd c.args.divisor, λ d a b. subst (λ (n : ℕ). d ∣ n) c.if-divisor-eq1.true b)

pub overflow_cast-result : goal.overflow_cast-result
overflow_cast-result c =
    let small : c.gcd.result < 2 ^ 64 =
    gcd_small c.from.result c.from-2.result c.gcd.result (2 ^ 64) c.gcd.ensures (omega (arith, c.from.ensures, c.ranges.size.fits)) (omega (arith, c.from-2.ensures, c.ranges.divisor.fits)) in
    record { fits = omega (arith, small) }

pub returns : goal.returns
returns c =
    subst (λ (n : ℕ). IsGcd n c.args.divisor c.gcd.result) c.from.ensures (subst (λ (n : ℕ). IsGcd c.from.result n c.gcd.result) c.from-2.ensures c.gcd.ensures)
