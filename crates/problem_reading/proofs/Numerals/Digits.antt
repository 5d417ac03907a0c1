-- The values of digits, and the digits of values.
use Rattle.std.proofs.Common.{◌≡◌, ℕ, ◌<◌, ◌≤◌, ◌+◌, ◌*◌, ◌-◌, ◌^◌, List, length, get_or, take, All, arith, decimal, sym, ap, ◌∙◌, zero, suc, ◌∷◌, ◌==◌, false, ℤ, pos, negsuc, unsigned_abs}
use Rattle.std.specs.Char.{IsAsciiDigit}
use Rattle.std.specs.Int.{IsInRange}
use Rattle.std.specs.Str.Parse.{digits_value}
use Rattle.std.proofs.lemmas.Str.Parse.{IsNumeralModel, numerals_by_value, tells_by_index, digits_value_short}
use Rattle.std.proofs.lemmas.Str.{digit_value_digit}
use Rattle.std.proofs.lemmas.List.{get_or_default}
use Rattle.std.proofs.lemmas.Int.Digits.{digits_value_more}
use Rattle.std.proofs.lemmas.Fmt.{digits_decimal, digits_value-decimal, decimal-digits_value, decimal_nonempty, length-decimal-le, first_decimal, signed_decimal_injective}
use lib.Signed.{mag}
use Rattle.std.proofs.lemmas.List.Elements.{All-cons}
use Rattle.std.specs.Fmt.{signed_decimal}
use Rattle.problem_reading.specs.Words.{AreDigits}
use Rattle.problem_reading.proofs.Parts.{IsFree}

own : IsNumeralModel (λ ds. (i : ℕ) → i < length ds → IsInRange 48 57 (get_or ds i 0)) (digits_value 10)
own = numerals_by_value _ tells_by_index

pub short_value : (ds : List ℕ) (k : ℕ) → All IsAsciiDigit ds → length ds ≤ k → digits_value 10 ds < 10 ^ k
short_value ds k all le = digits_value_short own ds k (λ i h. all i 0 h) le

-- one digit more
pub next_digit : (ds : List ℕ) (i value : ℕ) → i < length ds → value ≡ digits_value 10 (take i ds) → IsAsciiDigit (get_or ds i 0) → value * 10 + (get_or ds i 0 - 48) ≡ digits_value 10 (take (i + 1) ds)
next_digit ds i value lt is digit = rw (digits_value_more 10 ds i lt, ← is) (omega (arith, digit_value_digit (get_or ds i 0) digit))

-- digits with no leading zero are the text of their value
pub written : (ds : List ℕ) → AreDigits ds → (get_or ds 0 0 ≡ 48 → length ds ≤ 1) → ds ≡ decimal (digits_value 10 ds)
written ds are front =
    let small : digits_value 10 ds < 10 ^ 19 = short_value ds 19 are.digits are.few in
    sym (decimal-digits_value own ds (λ i h. are.digits i 0 h) are.some (λ h. omega (arith, front h, are.some)) (omega (arith, small)))

pub decimal_digits : (n : ℕ) → n < 10 ^ 19 → AreDigits (decimal n)
decimal_digits n small =
    let fits : n < 2 ^ 64 = omega arith in
    let digits : (i : ℕ) → i < length (decimal n) → IsInRange 48 57 (get_or (decimal n) i 0) = digits_decimal own n fits in
    record {
      digits = λ i d h. rw (get_or_default (decimal n) i d 0 h) (digits i h);
      some = decimal_nonempty n fits;
      few = length-decimal-le 19 n (omega arith) small fits;
    }

pub decimal_value : (n : ℕ) → n < 10 ^ 19 → digits_value 10 (decimal n) ≡ n
decimal_value n small = digits_value-decimal own n (omega arith)

-- one value at most has these digits
pub same_value : (m n : ℕ) → m < 10 ^ 19 → n < 10 ^ 19 → decimal m ≡ decimal n → m ≡ n
same_value m n hm hn same = sym (decimal_value m hm) ∙ (ap (digits_value 10) same ∙ decimal_value n hn)

-- a number of more than one digit begins with no zero
pub leads : (n : ℕ) → n < 10 ^ 19 → 1 < length (decimal n) → get_or (decimal n) 0 0 ≡ 48 → ⊥
leads zero small long front = absurd (omega (arith, long, length-decimal-le 1 0 (omega arith) (omega arith) (omega arith)))
leads (suc n) small long front = omega (arith, front, first_decimal (suc n) (omega arith) (omega arith))

-- no digit is a minus
pub no_minus : (n : ℕ) (ds : List ℕ) → n < 10 ^ 19 → decimal n ≡ 45 ∷ ds → ⊥
no_minus n ds small same =
    let are = decimal_digits n small in
    let front : IsAsciiDigit (get_or (decimal n) 0 0) = are.digits 0 0 are.some in
    let first : IsAsciiDigit 45 = rw same at front in
    omega (arith, first.0)

-- digits have no byte that is no digit
pub decimal_free : (end n : ℕ) → ((b : ℕ) → IsAsciiDigit b → (b == end) ≡ false) → n < 10 ^ 19 → IsFree end (decimal n)
decimal_free end n apart small = let are = decimal_digits n small in λ i d h. apart (get_or (decimal n) i d) (are.digits i d h)

pub signed_free : (end : ℕ) (z : ℤ) → ((b : ℕ) → IsAsciiDigit b → (b == end) ≡ false) → (45 == end) ≡ false → unsigned_abs z < 10 ^ 19 → IsFree end (signed_decimal z)
signed_free end (pos n) apart minus small = decimal_free end n apart small
signed_free end (negsuc n) apart minus small = All-cons (λ b. (b == end) ≡ false) 45 (decimal (suc n)) minus (decimal_free end (suc n) apart small)

mag_small : (z : ℤ) → unsigned_abs z < 10 ^ 18 → mag z < 2 ^ 63
mag_small (pos n) small = omega arith
mag_small (negsuc n) small = omega arith

pub same_integer : (y z : ℤ) → unsigned_abs y < 10 ^ 18 → unsigned_abs z < 10 ^ 18 → signed_decimal y ≡ signed_decimal z → y ≡ z
same_integer y z small_y small_z same = signed_decimal_injective y z (mag_small y small_y) (mag_small z small_z) same
