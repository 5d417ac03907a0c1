use Rattle.std.proofs.Common.{ℕ, ◌<◌, ◌≤◌, ◌*◌, ◌/◌, ◌^◌, arith}
use Rattle.std.proofs.lemmas.Bool.Decides.{nat_tests}
use Rattle.std.proofs.Math.Nat.{mul-le-mul}
use Rattle.compile_parts.proofs.Shifts.{within_quotient, past_quotient}
use Rattle.compile_parts.proofs.wide.ratios.is_bounded.Goals as goal

most : (x y m n : ℕ) → x ≤ m → y ≤ n → x * y ≤ m * n
most x y m n h k = mul-le-mul h k

short : (x y : ℕ) → x < 2 ^ 56 → y < 2 ^ 56 → x * y < 2 ^ 112
short x y h k = omega (arith, most x y 72057594037927935 72057594037927935 (omega (arith, h)) (omega (arith, k)))

within : (x y : ℕ) → x ≤ 5192296858534827628530496329220095 / y → x * y < 2 ^ 112
within x y h = omega (arith, within_quotient x y 5192296858534827628530496329220095 h)

past : (x y : ℕ) → 0 < y → 5192296858534827628530496329220095 / y < x → 2 ^ 112 ≤ x * y
past x y some h = omega (arith, past_quotient x y 5192296858534827628530496329220095 some h)

pub returns-then-y-lt-SHORT-clause-yes : goal.returns-then-y-lt-SHORT-clause-yes
returns-then-y-lt-SHORT-clause-yes c = λ _. short c.args.x c.args.y c.if-x-lt-SHORT.true c.if-y-lt-SHORT.true

pub returns-clause-yes : goal.returns-clause-yes
returns-clause-yes c = λ yes. within c.args.x c.args.y (grind (arith, nat_tests, yes))

pub returns-clause-no : goal.returns-clause-no
returns-clause-no c = λ no. past c.args.x c.args.y c.requires (grind (arith, nat_tests, no))
