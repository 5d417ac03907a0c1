use Rattle.std.proofs.Common.{◌≡◌, ◌<◌, ◌≤◌, ◌^◌, ◌<ℤ◌, ℕ, ℤ, pos, unsigned_abs, sym, subst, subst₂, SFits, rules, arith}
use Rattle.std.specs.Int.{w128, IsGcd}
use borrow.Author.Differences.{ints}
use Rattle.std.proofs.lemmas.Int.{to_z-of_z, fits_signed_from_abs, to_z_pos}
use Rattle.std.proofs.lemmas.Nat.Gcd.{le_of_dvd}
use Rattle.frac_core.proofs.Numbers.{divisor-above}
use Rattle.path_levels.proofs.moved.common.Goals as goal
use Rattle.frac_core.proofs.Divisors.{size_above as some_up}

size_of : (m n g : ℕ) → IsGcd m n g → 0 < n → n < 2 ^ 127 → (0 < g) × (g < 2 ^ 127)
size_of m n g is some less = (divisor-above g n some is.1, let le : g ≤ n = le_of_dvd some is.1 in omega (arith, le, less))

-- the divisor, which is above 0 and has 127 bits
made : (c : goal.After-gcd) → IsGcd (unsigned_abs c.args.number) (unsigned_abs c.args.whole) c.gcd.result × (0 < c.gcd.result) × (c.gcd.result < 2 ^ 127)
made c =
    let number : SFits w128 c.args.number = c.ranges.number in
    let whole : SFits w128 c.args.whole = c.ranges.whole in
    let first : c.unsigned_abs.result ≡ unsigned_abs c.args.number = simp to_z-of_z at c.unsigned_abs.ensures.value in
    let same : c.unsigned_abs-2.result ≡ unsigned_abs c.args.whole = simp to_z-of_z at c.unsigned_abs-2.ensures.value in
    let less : unsigned_abs c.args.whole < 2 ^ 127 = search rules in
    let gcd : IsGcd (unsigned_abs c.args.number) (unsigned_abs c.args.whole) c.gcd.result = subst₂ (λ (m n : ℕ). IsGcd m n c.gcd.result) first same c.gcd.ensures in
    let size = size_of (unsigned_abs c.args.number) (unsigned_abs c.args.whole) c.gcd.result gcd (some_up c.args.whole c.requires) less in
    (gcd, size.0, size.1)

pub overflow_cast-result : goal.overflow_cast-result
overflow_cast-result c = fits_signed_from_abs w128 (pos c.gcd.result) (made c).2

pub returns-clause-above : goal.returns-clause-above
returns-clause-above c = subst (λ (z : ℤ). pos 0 <ℤ z) (sym (to_z_pos w128 c.gcd.result (made c).2)) (let h = (made c).1 in omega (arith, ints, h))

pub returns-clause-gcd : goal.returns-clause-gcd
returns-clause-gcd c = subst (λ (z : ℤ). IsGcd (unsigned_abs c.args.number) (unsigned_abs c.args.whole) (unsigned_abs z)) (sym (to_z_pos w128 c.gcd.result (made c).2)) (made c).0
