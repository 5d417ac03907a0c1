-- Fractions in lowest terms, and their text.
use Rattle.std.proofs.Common.{◌≡◌, ℕ, ◌-◌, ◌*◌, ◌≤◌, ◌^◌, ◌==◌, false, List, [], ◌∷◌, ◌++◌, ℤ, pos, unsigned_abs, decimal, arith, ap, sym, ◌∙◌, refl, inl, inr}
use Rattle.std.specs.Prelude.{◌*ℤ◌, ◌⊎◌}
use Rattle.std.proofs.Math.IntN.{*ℤ_comm}
use Rattle.std.specs.Char.{IsAsciiDigit}
use Rattle.std.specs.Fmt.{signed_decimal}
use Rattle.std.proofs.lemmas.Bool.Decides.{nat_tests}
use Rattle.std.proofs.lemmas.Bool.{cases_eq}
use Rattle.frac_core.specs.Fraction.{Fraction, IsLowest, IsKept, IsRatio}
use Rattle.frac_core.specs.Text.{fraction_text}
use Rattle.frac_core.proofs.Gauss.{same_lowest}
use Rattle.frac_core.proofs.Signs.{unsigned_abs-mul}
use Rattle.frac_core.proofs.Integers.{cancel_mul}
use Rattle.problem_reading.specs.Words.{parts}
use Rattle.problem_reading.proofs.Parts.{IsFree, cut_is, not_cut, not_whole, whole_is}
use Rattle.problem_reading.proofs.Numerals.Digits.{signed_free, same_value, same_integer}
use Rattle.frac_core.proofs.Made.{same_parts}

-- two fractions in lowest terms with one value are one
pub same_fraction : (f g : Fraction) → IsLowest f → IsLowest g → IsRatio f g.num (pos g.den) → f ≡ g
same_fraction f g low_f low_g ratio =
    let sizes : unsigned_abs f.num * g.den ≡ unsigned_abs g.num * f.den =
    sym (unsigned_abs-mul f.num g.den) ∙ (ap unsigned_abs ratio ∙ unsigned_abs-mul g.num f.den) in
    let same = same_lowest (unsigned_abs g.num) g.den (unsigned_abs f.num) f.den low_g.above low_g.coprime low_f.coprime sizes in
    let scaled : f.num *ℤ pos g.den ≡ g.num *ℤ pos g.den = ratio ∙ ap (λ d. g.num *ℤ pos d) same.1 in
    let num : f.num ≡ g.num = cancel_mul g.den f.num g.num low_g.above (*ℤ_comm (pos g.den) f.num ∙ (scaled ∙ *ℤ_comm g.num (pos g.den))) in
    same_parts f g num same.1

slash_apart : (b : ℕ) → IsAsciiDigit b → (b == 47) ≡ false
slash_apart b digit = grind (arith, nat_tests)

pub num_free : (f : Fraction) → IsKept f → IsFree 47 (signed_decimal f.num)
num_free f kept = signed_free 47 f.num slash_apart refl (omega (arith, kept.fits.num_fits))

pub text_cases : (f : Fraction) → IsKept f → ((f.den ≡ 1) × (fraction_text f ≡ signed_decimal f.num)) ⊎ ((2 ≤ f.den) × (fraction_text f ≡ signed_decimal f.num ++ 47 ∷ decimal f.den))
text_cases f kept = elim (cases_eq f.den 1) [
  | inl one ↦ inl (one, rw one refl)
  | inr more ↦ let no : (f.den == 1) ≡ false = grind (arith, nat_tests) in inr (omega (arith, more, kept.lowest.above), rw no refl)
]

-- what a word without a slash says
pub whole_none : (word part : List ℕ) → parts 47 word ≡ part ∷ [] → ((f : Fraction) → IsKept f → f.den ≡ 1 → part ≡ signed_decimal f.num → ⊥) → (f : Fraction) → IsKept f → word ≡ fraction_text f → ⊥
whole_none word part cut none f kept is = elim (text_cases f kept) [
  | inl w ↦ none f kept w.0 (sym (whole_is 47 word part cut) ∙ (is ∙ w.1))
  | inr q ↦ not_whole 47 word part (signed_decimal f.num) (decimal f.den) cut (is ∙ q.1) (num_free f kept)
]

-- and one with a slash
pub quotient_none : (word above below : List ℕ) → parts 47 word ≡ above ∷ parts 47 below → ((f : Fraction) → IsKept f → 2 ≤ f.den → above ≡ signed_decimal f.num → below ≡ decimal f.den → ⊥) → (f : Fraction) → IsKept f → word ≡ fraction_text f → ⊥
quotient_none word above below cut none f kept is = elim (text_cases f kept) [
  | inl w ↦ not_cut 47 word above below cut (rw (is ∙ w.1) (num_free f kept))
  | inr q ↦ let same = cut_is 47 word above below (signed_decimal f.num) (decimal f.den) cut (is ∙ q.1) (num_free f kept) in none f kept q.0 same.0 same.1
]

-- the fraction with the numbers that two words write is that of the words
pub no_other : (f : Fraction) (num : ℤ) (den : ℕ) (above below : List ℕ) → IsKept f → unsigned_abs num ≤ 2 ^ 42 - 1 → den ≤ 2 ^ 42 - 1 → above ≡ signed_decimal num → below ≡ decimal den → above ≡ signed_decimal f.num → below ≡ decimal f.den → IsKept (record { num = num; den = den })
no_other f num den above below kept small_num small_den above_is below_is f_above f_below =
    let n : f.num ≡ num = same_integer f.num num (omega (arith, kept.fits.num_fits)) (omega (arith, small_num)) (sym f_above ∙ above_is) in
    let d : f.den ≡ den = same_value f.den den (omega (arith, kept.fits.den_fits)) (omega (arith, small_den)) (sym f_below ∙ below_is) in
    let same : f ≡ record { num = num; den = den } = same_parts f (record { num = num; den = den }) n d in
    rw same at kept

pub whole_of : (f : Fraction) (num : ℤ) (word : List ℕ) → IsKept f → unsigned_abs num ≤ 2 ^ 42 - 1 → word ≡ signed_decimal num → f.den ≡ 1 → word ≡ signed_decimal f.num → IsKept (record { num = num; den = 1 })
whole_of f num word kept small word_is one f_is =
    let n : f.num ≡ num = same_integer f.num num (omega (arith, kept.fits.num_fits)) (omega (arith, small)) (sym f_is ∙ word_is) in
    let same : f ≡ record { num = num; den = 1 } = same_parts f (record { num = num; den = 1 }) n one in
    rw same at kept

-- a fraction that is made of two numbers has these where they are in lowest terms
pub made_is : (f : Fraction) (num : ℤ) (den : ℕ) → IsKept f → IsRatio f num (pos den) → IsKept (record { num = num; den = den }) → (f.num ≡ num) × (f.den ≡ den)
made_is f num den kept ratio other =
    let same : f ≡ record { num = num; den = den } = same_fraction f (record { num = num; den = den }) kept.lowest other.lowest ratio in
    (ap (λ (g : Fraction). g.num) same, ap (λ (g : Fraction). g.den) same)

pub ratio_at : (f : Fraction) (p q num den : ℤ) → p ≡ num → q ≡ den → IsRatio f p q → IsRatio f num den
ratio_at f p q num den p_is q_is ratio = rw (← p_is, ← q_is) ratio
