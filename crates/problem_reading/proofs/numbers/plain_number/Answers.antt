use Rattle.std.proofs.Common.{◌≡◌, ℕ, ◌<◌, ◌^◌, ◌↔◌, List, length, get_or, ◌≤◌, Bool, true, false, IsTrue, IfSome, IfNone, decimal, Option, Some, None, rules, arith, ap, ◌∙◌, sym}
use Rattle.std.specs.Str.Parse.{digits_value}
use Rattle.problem_reading.specs.Words.{AreDigits}
use Rattle.problem_reading.proofs.Numerals.Digits.{leads, written, short_value, decimal_digits}
use Rattle.problem_reading.proofs.numbers.plain_number.Goals as goal

abbrev Leads : List ℕ → Bool → Type 0
Leads word b = IsTrue b ↔ ((1 < length word) × (get_or word 0 0 ≡ 48))

zero_leads : (word : List ℕ) (b : Bool) → Leads word b → b ≡ true → (n : ℕ) → n < 10 ^ 19 → word ≡ decimal n → ⊥
zero_leads word b means is n small same = let front = means.0 (search rules) in leads n small (rw same at front.0) (rw same at front.1)

no_zero_leads : (word : List ℕ) (b : Bool) → Leads word b → b ≡ false → get_or word 0 0 ≡ 48 → length word ≤ 1
no_zero_leads word b means is front = grind (arith, means)

value_is : (word : List ℕ) → (get_or word 0 0 ≡ 48 → length word ≤ 1) → (r : Option ℕ) → IfSome r (λ n. AreDigits word × (n ≡ digits_value 10 word)) → IfSome r (λ n. (n < 10 ^ 19) × (word ≡ decimal n))
value_is word front None read = read
value_is word front (Some n) read =
    let small : n < 10 ^ 19 = rw read.1 (short_value word 19 read.0.digits read.0.few) in
    (small, written word read.0 front ∙ ap decimal (sym read.1))

none_is : (word : List ℕ) (r : Option ℕ) → IfNone r (AreDigits word → ⊥) → IfNone r ((n : ℕ) → n < 10 ^ 19 → word ≡ decimal n → ⊥)
none_is word None read = λ n small same. read (rw same (decimal_digits n small))
none_is word (Some n) read = read

pub returns-then-has_leading_zero-clause-none : goal.returns-then-has_leading_zero-clause-none
returns-then-has_leading_zero-clause-none c = zero_leads _ _ c.has_leading_zero.ensures c.if-has_leading_zero.true

pub returns-else-has_leading_zero-clause-some : goal.returns-else-has_leading_zero-clause-some
returns-else-has_leading_zero-clause-some c = value_is _ (no_zero_leads _ _ c.has_leading_zero.ensures c.if-has_leading_zero.false) _ c.digits.ensures.some

pub returns-else-has_leading_zero-clause-none : goal.returns-else-has_leading_zero-clause-none
returns-else-has_leading_zero-clause-none c = none_is _ _ c.digits.ensures.none
