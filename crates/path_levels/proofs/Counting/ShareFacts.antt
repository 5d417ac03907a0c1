-- What a line counts in a level's row: its size.
use Rattle.std.proofs.Common.{◌≡◌, ◌≢◌, ℕ, ◌*◌, ◌/◌, ◌<◌, ◌≤◌, Bool, cond, ℤ, pos, negsuc, ◌+ℤ◌, ◌-ℤ◌, ◌*ℤ◌, ◌<ℤ◌, ◌≤ℤ◌, unsigned_abs, refl, sym, ap, subst, arith, inl, inr, eq-eqb, ne_eqb, ◌↔◌, IsTrue, nat_lt}
use Rattle.std.specs.Prelude.{FitsSigned, int_div}
use Rattle.std.specs.Int.{w64}
use Rattle.std.proofs.lemmas.Bool.{cases_eq}
use Rattle.std.proofs.lemmas.Bool.Decides.{nat_tests}
use Rattle.std.proofs.lemmas.Int.{fits_signed_from_abs, fits_signed_mul, ints, unsigned_abs-mul}
use Rattle.std.proofs.Math.Nat.{div-le_self, mul-le-mul}
use Rattle.frac_core.specs.Fraction.{IsFitting}
use Rattle.problem_core.specs.declared.parts.Side.{Side}
use Rattle.problem_core.specs.declared.parts.Side.TheVariants.{Under, Over}
use Rattle.path_levels.specs.declared.outline.LineFacts.{LineFacts}
use Rattle.path_levels.specs.declared.sums.LevelSum.{LevelSum}
use Rattle.path_levels.specs.Outlines.{IsPriced}
use Rattle.path_levels.specs.Shares.{IsScaled, counted_of, reduced_of, share_at, weight_on}
use Rattle.path_levels.proofs.Joining.JoinShares.{cost-size as abs_most}

pub weight_up : (side : Side) (f : LineFacts) → IsPriced f → pos 0 ≤ℤ weight_on side f
weight_up Under f h = h.under.0
weight_up Over f h = h.over.0

pub weight_most : (side : Side) (f : LineFacts) → IsPriced f → unsigned_abs (weight_on side f) ≤ 1000
weight_most Under f h = abs_most f.under h.under.0 h.under.1
weight_most Over f h = abs_most f.over h.over.0 h.over.1

pub weighted_fits : (u w : ℤ) → IsFitting u → unsigned_abs w ≤ 1000 → FitsSigned w64 (u *ℤ w)
weighted_fits u w fits most = fits_signed_mul w64 u w 4398046511103 1000 (omega (arith, fits)) most (omega arith)

pub share_ints : (u w s : ℤ) → pos 0 <ℤ u → pos 0 ≤ℤ w → pos 0 <ℤ s → int_div (u *ℤ w) s ≡ pos (unsigned_abs u * unsigned_abs w / unsigned_abs s)
share_ints (pos u) (pos w) (pos s) a b c = refl
share_ints (negsuc u) w s a b c = absurd (omega (arith, ints, a))
share_ints (pos u) (negsuc w) s a b c = absurd (omega (arith, ints, b))
share_ints (pos u) (pos w) (negsuc s) a b c = absurd (omega (arith, ints, c))

pub share_here : (f : LineFacts) (side : Side) (place : ℕ) (unit : ℤ) → f.level ≡ place → share_at f side place unit ≡ unsigned_abs unit * unsigned_abs (weight_on side f) / unsigned_abs f.scale
share_here f side place unit e = ap (λ (b : Bool). cond b (unsigned_abs unit * unsigned_abs (weight_on side f) / unsigned_abs f.scale) 0) (eq-eqb f.level place e)

pub share_none : (f : LineFacts) (side : Side) (place : ℕ) (unit : ℤ) → f.level ≢ place → share_at f side place unit ≡ 0
share_none f side place unit ne = ap (λ (b : Bool). cond b (unsigned_abs unit * unsigned_abs (weight_on side f) / unsigned_abs f.scale) 0) (ne_eqb f.level place ne)

product_most : (u w s : ℕ) → w ≤ 1000 → u * w / s ≤ u * 1000
product_most u w s most =
    let a : u * w / s ≤ u * w = div-le_self (u * w) s in
    let b : u * w ≤ u * 1000 = mul-le-mul (omega arith) most in
    omega (arith, a, b)

pub share_small : (f : LineFacts) (side : Side) (place : ℕ) (unit : ℤ) → IsPriced f → share_at f side place unit ≤ unsigned_abs unit * 1000
share_small f side place unit small =
    elim (cases_eq f.level place) [
      | inl e ↦ subst (λ (n : ℕ). n ≤ unsigned_abs unit * 1000) (sym (share_here f side place unit e)) (product_most (unsigned_abs unit) (unsigned_abs (weight_on side f)) (unsigned_abs f.scale) (weight_most side f small))
      | inr ne ↦ subst (λ (n : ℕ). n ≤ unsigned_abs unit * 1000) (sym (share_none f side place unit ne)) (omega arith)
    ]

some_abs : (z : ℤ) → pos 0 <ℤ z → 1 ≤ unsigned_abs z
some_abs (pos n) up = omega (arith, ints, up)
some_abs (negsuc n) up = absurd (omega (arith, ints, up))

scale_size : (sum : LevelSum) → IsScaled sum → unsigned_abs sum.own * unsigned_abs sum.unit < 4398046511104
scale_size sum is = subst (λ (n : ℕ). n < 4398046511104) (unsigned_abs-mul sum.own sum.unit) is.scale

one_of : (a u n : ℕ) → 1 ≤ a → a * u < n → u < n
one_of a u n some less = let h : 1 * u ≤ a * u = mul-le-mul some (omega arith) in omega (arith, h, less)

pub unit_fits : (sum : LevelSum) → IsScaled sum → IsFitting sum.unit
unit_fits sum is = one_of (unsigned_abs sum.own) (unsigned_abs sum.unit) 4398046511104 (some_abs sum.own is.own) (scale_size sum is)

scaled_most : (a u s : ℕ) → a * u < 4398046511104 → s ≤ u * 1000 → a * s < 4503599627370496
scaled_most a u s less most = let h : a * s ≤ a * (u * 1000) = mul-le-mul (omega arith) most in omega (arith, h, less)

pub counted_small : (f : LineFacts) (side : Side) (place : ℕ) (sum : LevelSum) → IsPriced f → IsScaled sum → counted_of f side place sum < 4503599627370496
counted_small f side place sum small is = scaled_most (unsigned_abs sum.own) (unsigned_abs sum.unit) (share_at f side place sum.unit) (scale_size sum is) (share_small f side place sum.unit small)

pub own_times : (own : ℤ) (s : ℕ) → pos 0 <ℤ own → own *ℤ pos s ≡ pos (unsigned_abs own * s)
own_times (pos n) s up = refl
own_times (negsuc n) s up = absurd (omega (arith, ints, up))

pub counted_fits : (f : LineFacts) (side : Side) (place : ℕ) (sum : LevelSum) → IsPriced f → IsScaled sum → FitsSigned w64 (pos (counted_of f side place sum))
counted_fits f side place sum small is = fits_signed_from_abs w64 (pos (counted_of f side place sum)) (let h = counted_small f side place sum small is in omega (arith, h))

pub minus_fits : (n : ℕ) (z : ℤ) → n < 4503599627370496 → unsigned_abs z < 4503599627370496 → FitsSigned w64 (pos n -ℤ z)
minus_fits n (pos m) a b = fits_signed_from_abs w64 (pos n -ℤ pos m) (omega (arith, ints, a, b))
minus_fits n (negsuc m) a b = fits_signed_from_abs w64 (pos n -ℤ negsuc m) (omega (arith, ints, a, b))

pub plus_fits : (n : ℕ) (z : ℤ) → n < 4503599627370496 → unsigned_abs z < 4503599627370496 → FitsSigned w64 (pos n +ℤ z)
plus_fits n (pos m) a b = fits_signed_from_abs w64 (pos n +ℤ pos m) (omega (arith, ints, a, b))
plus_fits n (negsuc m) a b = fits_signed_from_abs w64 (pos n +ℤ negsuc m) (omega (arith, ints, a, b))

pub fits_test : (n : ℕ) (z : ℤ) → n ≡ unsigned_abs z → IsTrue (nat_lt n 4398046511104) ↔ IsFitting z
fits_test n z same = (λ is. let h : n < 4398046511104 = grind (arith, nat_tests, is) in omega (arith, h, same), λ less. let h : n < 4398046511104 = omega (arith, less, same) in grind (arith, nat_tests, h))

pub reduced_under : (f : LineFacts) (side : Side) (place : ℕ) (sum : LevelSum) (number : ℤ) → side ≡ Under → reduced_of f side place sum number ≡ pos (counted_of f side place sum) -ℤ number
reduced_under f side place sum number e = subst (λ (s : Side). reduced_of f s place sum number ≡ pos (counted_of f s place sum) -ℤ number) (sym e) refl

pub reduced_over : (f : LineFacts) (side : Side) (place : ℕ) (sum : LevelSum) (number : ℤ) → side ≡ Over → reduced_of f side place sum number ≡ pos (counted_of f side place sum) +ℤ number
reduced_over f side place sum number e = subst (λ (s : Side). reduced_of f s place sum number ≡ pos (counted_of f s place sum) +ℤ number) (sym e) refl
