-- The fraction that is made of p and q, and that there is no other.
use Rattle.std.proofs.Common.{◌≡◌, ℕ, ◌*◌, ◌/◌, ◌<◌, ◌≤◌, ◌⊎◌, inl, inr, refl, sym, subst, ◌∙◌, ap, ap₂, arith, Bool, true, false}
use Rattle.std.specs.Prelude.{ℤ, pos, negsuc, neg_ℤ, ◌<ℤ◌, ◌*ℤ◌, if◌then◌else◌}
use Rattle.std.specs.Int.{IsGcd}
use Rattle.std.specs.Int.RustNames.{unsigned_abs}
use lib.Signed.{lt_z}
use lib.IntN.{*ℤ_comm}
use Rattle.frac_core.proofs.Integers.{cancel_mul}
use Rattle.std.proofs.Math.Nat.{mul-div_cancel_left}
use Rattle.frac_core.specs.declared.frac.TheConstants.{PART_BOUND}
use Rattle.frac_core.specs.Fraction.{Fraction, IsLowest, Fits, IsKept, IsRatio}
use Rattle.frac_core.proofs.Gauss.{Reduces, reduces, same_lowest}
use Rattle.frac_core.proofs.Signs.{signed_ratio, above_zero, unsigned_abs-neg, unsigned_abs-mul}

-- what the code knows of the sizes of p and q
pub record AreSizes (p q : ℤ) (size whole g : ℕ) : Type 0 where
  pub above : pos 0 <ℤ q
  pub size_is : size ≡ unsigned_abs p
  pub whole_is : whole ≡ unsigned_abs q
  pub divisor : IsGcd size whole g

pub reduced : (p q : ℤ) (size whole g : ℕ) → AreSizes p q size whole g → Reduces size whole g
reduced p q size whole g are = reduces size whole g (above_zero q whole are.above are.whole_is) are.divisor

size_of_signed : (b : Bool) (n : ℕ) → unsigned_abs (if b then neg_ℤ (pos n) else pos n) ≡ n
size_of_signed true n = unsigned_abs-neg n
size_of_signed false n = refl

signed_size : (s : ℤ) (b : Bool) (n : ℕ) → s ≡ (if b then neg_ℤ (pos n) else pos n) → unsigned_abs s ≡ n
signed_size s b n is = ap unsigned_abs is ∙ size_of_signed b n

pub is_lowest : (p q s : ℤ) (b : Bool) (size whole g : ℕ) → AreSizes p q size whole g → s ≡ (if b then neg_ℤ (pos (size / g)) else pos (size / g))
    → IsLowest (record { num = s; den = whole / g })
is_lowest p q s b size whole g are is =
    let r = reduced p q size whole g are in
    record { above = r.den_above; coprime = rw (signed_size s b (size / g) is) r.apart }

pub kept : (p q s : ℤ) (b : Bool) (size whole g : ℕ) → AreSizes p q size whole g → s ≡ (if b then neg_ℤ (pos (size / g)) else pos (size / g))
    → size / g < PART_BOUND → whole / g < PART_BOUND → IsKept (record { num = s; den = whole / g })
kept p q s b size whole g are is num_fits den_fits = record {
  lowest = is_lowest p q s b size whole g are is;
  fits = record { num_fits = rw (signed_size s b (size / g) is) num_fits; den_fits = den_fits };
}

pub ratio : (p q s : ℤ) (size whole g : ℕ) → AreSizes p q size whole g → s ≡ (if lt_z p (pos 0) then neg_ℤ (pos (size / g)) else pos (size / g))
    → IsRatio (record { num = s; den = whole / g }) p q
ratio p q s size whole g are s_is =
    let r = reduced p q size whole g are in
    rw s_is (signed_ratio p q (size / g) (whole / g) g are.above (r.num_is ∙ are.size_is) (r.den_is ∙ are.whole_is))

-- the same of parts that are known to be the quotients
pub record AreParts (size whole g num den : ℕ) : Type 0 where
  pub num_is : num ≡ size / g
  pub den_is : den ≡ whole / g

pub kept_parts : (p q s : ℤ) (b : Bool) (size whole g num den : ℕ) → AreSizes p q size whole g → AreParts size whole g num den
    → s ≡ (if b then neg_ℤ (pos num) else pos num) → num < PART_BOUND → den < PART_BOUND → IsKept (record { num = s; den = den })
kept_parts p q s b size whole g num den are parts is num_fits den_fits =
    subst (λ (d : ℕ). IsKept (record { num = s; den = d })) (sym parts.den_is)
    (kept p q s b size whole g are (rw parts.num_is at is) (rw parts.num_is at num_fits) (rw parts.den_is at den_fits))

pub ratio_parts : (p q s : ℤ) (size whole g num den : ℕ) → AreSizes p q size whole g → AreParts size whole g num den
    → s ≡ (if lt_z p (pos 0) then neg_ℤ (pos num) else pos num) → IsRatio (record { num = s; den = den }) p q
ratio_parts p q s size whole g num den are parts is =
    subst (λ (d : ℕ). IsRatio (record { num = s; den = d }) p q) (sym parts.den_is)
    (ratio p q s size whole g are (rw parts.num_is at is))

-- the sizes of two equal products
sizes : (f : Fraction) (p q : ℤ) (size whole : ℕ) → pos 0 <ℤ q → size ≡ unsigned_abs p → whole ≡ unsigned_abs q → IsRatio f p q → unsigned_abs f.num * whole ≡ size * f.den
sizes f p (negsuc w) size whole above size_is whole_is ratio = absurd (omega (arith, above))
sizes f p (pos w) size whole above size_is whole_is ratio =
    let left : unsigned_abs (f.num *ℤ pos w) ≡ unsigned_abs f.num * w = unsigned_abs-mul f.num w in
    let right : unsigned_abs (p *ℤ pos f.den) ≡ unsigned_abs p * f.den = unsigned_abs-mul p f.den in
    rw (whole_is, size_is) (sym left ∙ ap unsigned_abs ratio ∙ right)

cancel : (m d n e g : ℕ) → 0 < g → m * (d * g) ≡ (n * g) * e → m * d ≡ n * e
cancel m d n e g some cross =
    let scaled : g * (m * d) ≡ g * (n * e) = omega (arith, cross) in
    sym (mul-div_cancel_left (m * d) some) ∙ ap (λ k. k / g) scaled ∙ mul-div_cancel_left (n * e) some

pub none_fits : (p q : ℤ) (size whole g : ℕ) → AreSizes p q size whole g → (PART_BOUND ≤ size / g) ⊎ ((size / g < PART_BOUND) × (PART_BOUND ≤ whole / g))
    → (f : Fraction) → IsLowest f → IsRatio f p q → Fits f → ⊥
none_fits p q size whole g are large f lowest ratio fits =
    let r = reduced p q size whole g are in
    let n = size / g in
    let d = whole / g in
    let cross : unsigned_abs f.num * whole ≡ size * f.den = sizes f p q size whole are.above are.size_is are.whole_is ratio in
    let cross_parts : unsigned_abs f.num * (d * g) ≡ (n * g) * f.den = rw (r.den_is, r.num_is) cross in
    let same = same_lowest n d (unsigned_abs f.num) f.den r.den_above r.apart lowest.coprime (cancel (unsigned_abs f.num) d n f.den g r.g_above cross_parts) in
    elim large [
      | inl num ↦ absurd (omega (arith, num, same.0, fits.num_fits))
      | inr den ↦ absurd (omega (arith, den.1, same.1, fits.den_fits))
    ]

the_fraction : ℤ → ℕ → Fraction
the_fraction n d = record { num = n; den = d }

pub same_parts : (f g : Fraction) → f.num ≡ g.num → f.den ≡ g.den → f ≡ g
unfolding the_fraction
same_parts f g num den = ap₂ (λ (n : ℤ) (d : ℕ). the_fraction n d) num den

-- two fractions in lowest terms with one value are one
pub same_fraction : (f g : Fraction) → IsLowest f → IsLowest g → f.num *ℤ pos g.den ≡ g.num *ℤ pos f.den → f ≡ g
same_fraction f g low_f low_g cross =
    let sizes_cross : unsigned_abs g.num * f.den ≡ unsigned_abs f.num * g.den =
    sym (unsigned_abs-mul g.num f.den) ∙ sym (ap unsigned_abs cross) ∙ unsigned_abs-mul f.num g.den in
    let same = same_lowest (unsigned_abs f.num) f.den (unsigned_abs g.num) g.den low_f.above low_f.coprime low_g.coprime sizes_cross in
    let scaled : f.num *ℤ pos f.den ≡ g.num *ℤ pos f.den = ap (λ (d : ℕ). f.num *ℤ pos d) (sym same.1) ∙ cross in
    same_parts f g (cancel_mul f.den f.num g.num low_f.above (*ℤ_comm (pos f.den) f.num ∙ scaled ∙ *ℤ_comm g.num (pos f.den))) (sym same.1)

pub no_parts_fit : (p q : ℤ) (size whole g num den : ℕ) → AreSizes p q size whole g → AreParts size whole g num den
    → (PART_BOUND ≤ num) ⊎ ((num < PART_BOUND) × (PART_BOUND ≤ den)) → (f : Fraction) → IsLowest f → IsRatio f p q → Fits f → ⊥
no_parts_fit p q size whole g num den are parts large =
    none_fits p q size whole g are (rw (parts.num_is, parts.den_is) at large)
