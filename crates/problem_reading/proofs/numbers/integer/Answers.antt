use Rattle.std.proofs.Common.{◌≡◌, ℕ, ℤ, pos, negsuc, suc, ◌<◌, ◌≤◌, ◌^◌, decimal, unsigned_abs, List, ◌∷◌, arith}
use Rattle.std.specs.Fmt.{signed_decimal}
use Rattle.problem_reading.proofs.Numerals.Digits.{no_minus}
use Rattle.problem_reading.proofs.numbers.integer.Goals as goal

none_below : (most : ℕ) (word size : List ℕ) → most < 2 ^ 62 → word ≡ 45 ∷ size → ((n : ℕ) → 1 ≤ n → n ≤ most → size ≡ decimal n → ⊥) → (z : ℤ) → unsigned_abs z ≤ most → word ≡ signed_decimal z → ⊥
none_below most word size small front none (pos n) le same = no_minus n size (omega arith) (cc)
none_below most word size small front none (negsuc n) le same = none (suc n) (omega arith) le (cc)

none_above : (most : ℕ) (word : List ℕ) → most < 2 ^ 62 → ((size : List ℕ) → word ≡ 45 ∷ size → ⊥) → ((n : ℕ) → 0 ≤ n → n ≤ most → word ≡ decimal n → ⊥) → (z : ℤ) → unsigned_abs z ≤ most → word ≡ signed_decimal z → ⊥
none_above most word small front none (pos n) le same = none n (omega arith) le same
none_above most word small front none (negsuc n) le same = front (decimal (suc n)) same

pub returns-in_err-size-in-Some-clause-none : goal.returns-in_err-size-in-Some-clause-none
returns-in_err-size-in-Some-clause-none c =
    rw c.from_residual.ensures (none_below c.args.most c.args.word.now c.in-Some.size.now c.requires c.in-Some.ensures.some c.in_err-size-in-Some.ensures.none)
