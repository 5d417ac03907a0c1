use Rattle.std.proofs.Common.{◌≡◌, ◌*ℤ◌, ◌<◌, ◌^◌, ℤ, ℕ, ◌≤◌, ◌*◌, SFits, arith, unsigned_abs}
use Rattle.std.specs.Int.{w128}
use Rattle.std.proofs.lemmas.Int.{to_z-of_z, fits_signed_mul, unsigned_abs-mul}
use Rattle.std.proofs.Math.Nat.{mul-le-mul}
use Rattle.compile_parts.proofs.wide.product.Goals as goal

fits : (x y : ℤ) → unsigned_abs x < 2 ^ 44 → unsigned_abs y < 2 ^ 44 → SFits w128 (x *ℤ y)
fits x y h k = fits_signed_mul w128 x y 17592186044415 17592186044415 (omega (arith, h)) (omega (arith, k)) (omega arith)

most : (a b m n : ℕ) → a ≤ m → b ≤ n → a * b ≤ m * n
most a b m n h k = mul-le-mul h k

bound : (a b : ℕ) → a < 2 ^ 44 → b < 2 ^ 44 → a * b ≤ 17592186044415 * 17592186044415
bound a b h k = most a b 17592186044415 17592186044415 (omega (arith, h)) (omega (arith, k))

size : (x y : ℤ) → unsigned_abs x < 2 ^ 44 → unsigned_abs y < 2 ^ 44 → unsigned_abs (x *ℤ y) < 2 ^ 88
size x y h k = omega (arith, unsigned_abs-mul x y, bound (unsigned_abs x) (unsigned_abs y) h k)

pub overflow_mul-result : goal.overflow_mul-result
overflow_mul-result c =
    let x_is : c.from.result ≡ c.args.x = simp (to_z-of_z, c.ranges.x) at c.from.ensures in
    let y_is : c.from-2.result ≡ c.args.y = simp (to_z-of_z, c.ranges.y) at c.from-2.ensures in
    let x_fits : SFits w128 c.from.result = record { sfits = c.from.type_inv } in
    let y_fits : SFits w128 c.from-2.result = record { sfits = c.from-2.type_inv } in
    simp to_z-of_z (rw (x_is, y_is) (fits c.args.x c.args.y c.requires.x c.requires.y))

pub returns-clause-value : goal.returns-clause-value
returns-clause-value c =
    let x_is : c.from.result ≡ c.args.x = simp (to_z-of_z, c.ranges.x) at c.from.ensures in
    let y_is : c.from-2.result ≡ c.args.y = simp (to_z-of_z, c.ranges.y) at c.from-2.ensures in
    let x_fits : SFits w128 c.from.result = record { sfits = c.from.type_inv } in
    let y_fits : SFits w128 c.from-2.result = record { sfits = c.from-2.type_inv } in
    let whole : SFits w128 (c.from.result *ℤ c.from-2.result) = rw (x_is, y_is) (fits c.args.x c.args.y c.requires.x c.requires.y) in
    simp to_z-of_z (rw (x_is, y_is))

pub returns-clause-small : goal.returns-clause-small
returns-clause-small c = rw (returns-clause-value c) (size c.args.x c.args.y c.requires.x c.requires.y)
