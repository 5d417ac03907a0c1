use Rattle.std.proofs.Common.{◌≡◌, ◌<◌, ◌≤◌, ℕ, sym, subst, arith}
use Rattle.std.specs.Int.{◌∣◌}
use Rattle.std.specs.Int.RustNames.{unsigned_abs}
use Rattle.std.proofs.lemmas.Int.{to_z-of_z}
use Rattle.std.proofs.lemmas.Nat.Gcd.{le_of_dvd}
use Rattle.corner_ends.proofs.SharedTimes.{abs_above}
use Rattle.corner_ends.proofs.conflicts.shared.Goals as goal

pub returns-else-is_zero-clause-small : goal.returns-else-is_zero-clause-small
returns-else-is_zero-clause-small c =
    let same : c.size_of.result ≡ unsigned_abs c.args.times = simp (to_z-of_z, c.ranges.times) at c.size_of.ensures in
    let apart = simp (to_z-of_z, c.ranges.times) at c.is_zero.ensures.no in
    let some : 0 < unsigned_abs c.args.times = abs_above c.args.times (apart c.if-is_zero.false) in
    let most : c.gcd.result ≤ c.size_of.result = le_of_dvd (omega (arith, some, same)) c.gcd.ensures.1 in
    omega (arith, most, same, c.requires.times)

pub returns-else-is_zero-clause-times : goal.returns-else-is_zero-clause-times
returns-else-is_zero-clause-times c =
    let same : c.size_of.result ≡ unsigned_abs c.args.times = simp (to_z-of_z, c.ranges.times) at c.size_of.ensures in
    subst (λ (n : ℕ). ◌∣◌ c.gcd.result n) same c.gcd.ensures.1

pub returns-then-is_zero-clause-greatest : goal.returns-then-is_zero-clause-greatest
returns-then-is_zero-clause-greatest c = λ k first second. first

pub returns-else-is_zero-clause-greatest : goal.returns-else-is_zero-clause-greatest
returns-else-is_zero-clause-greatest c = λ k first second.
    let same : c.size_of.result ≡ unsigned_abs c.args.times = simp (to_z-of_z, c.ranges.times) at c.size_of.ensures in
    c.gcd.ensures.2 k first (subst (λ (n : ℕ). ◌∣◌ k n) (sym same) second)
