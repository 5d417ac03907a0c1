use Rattle.std.proofs.Common.{◌*ℤ◌, ◌<◌, ◌^◌, ℤ, ℕ, ◌≤◌, ◌*◌, SFits, arith, unsigned_abs}
use Rattle.std.specs.Int.{w64}
use Rattle.std.proofs.lemmas.Int.{to_z-of_z, fits_signed_mul, unsigned_abs-mul}
use Rattle.std.proofs.Math.Nat.{mul-le-mul}
use Rattle.constraint_compile.proofs.line.sums.times_halves.Goals as goal

fits : (x y : ℤ) → unsigned_abs x < 2 ^ 42 → unsigned_abs y ≤ 4 → SFits w64 (x *ℤ y)
fits x y h k = fits_signed_mul w64 x y 4398046511103 4 (omega (arith, h)) k (omega arith)

most : (a b m n : ℕ) → a ≤ m → b ≤ n → a * b ≤ m * n
most a b m n h k = mul-le-mul h k

bound : (a b : ℕ) → a < 2 ^ 42 → b ≤ 4 → a * b ≤ 4398046511103 * 4
bound a b h k = most a b 4398046511103 4 (omega (arith, h)) k

size : (x y : ℤ) → unsigned_abs x < 2 ^ 42 → unsigned_abs y ≤ 4 → unsigned_abs (x *ℤ y) < 2 ^ 44
size x y h k = omega (arith, unsigned_abs-mul x y, bound (unsigned_abs x) (unsigned_abs y) h k)

pub overflow_mul-result : goal.overflow_mul-result
overflow_mul-result c = simp (to_z-of_z, c.ranges.num, c.ranges.halves) (fits c.args.num c.args.halves c.requires.num c.requires.halves)

pub returns-clause-value : goal.returns-clause-value
returns-clause-value c =
    let whole : SFits w64 (c.args.num *ℤ c.args.halves) = fits c.args.num c.args.halves c.requires.num c.requires.halves in
    simp (to_z-of_z, whole, c.ranges.num, c.ranges.halves)

pub returns-clause-small : goal.returns-clause-small
returns-clause-small c = rw (returns-clause-value c) (size c.args.num c.args.halves c.requires.num c.requires.halves)
