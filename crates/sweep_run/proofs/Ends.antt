-- Places so far before a slide's end.
use Rattle.std.proofs.Common.{◌≡◌, ◌∙◌, ℕ, ◌<◌, Bool, true, false, ℤ, pos, ◌-ℤ◌, ◌*ℤ◌, ◌≤ℤ◌, sym, ap, subst, arith, unsigned_abs, IfOk}
use Rattle.std.proofs.Math.Nat.{one-dvd}
use Rattle.std.specs.Int.{IsGcd, w128}
use Rattle.std.proofs.lemmas.Int.{fits_signed_from_abs}
use Rattle.std.specs.Prelude.{FitsSigned, ◌^◌, ◌≤◌}
use Rattle.std.specs.declared.result.Result.{Result}
use Rattle.std.specs.declared.result.Result.TheVariants.{Err, Ok}
use borrow.Author.Differences.{ints}
use lib.IntN.{*ℤ_comm}
use Rattle.frac_core.specs.Fraction.{Fraction, IsKept, IsRatio, IsUnfitRatio, sum_den, sum_num}
use Rattle.frac_core.proofs.Integers.{mul_assoc_ℤ, zero-mul_ℤ}
use Rattle.sweep_run.specs.Ways.{IsPlace, backwards, far_back}
use Rattle.sweep_run.proofs.Places.{far-down, far-up, placed-down, placed-up}

pub zero_kept : (f : Fraction) → f.num ≡ pos 0 → f.den ≡ 1 → IsKept f
zero_kept f num den = record {
  lowest = record {
    above = omega (arith, den);
    coprime = subst (λ (z : ℤ). IsGcd (unsigned_abs z) f.den 1) (sym num) (subst (λ (n : ℕ). IsGcd 0 n 1) (sym den) (one-dvd 0, one-dvd 1, λ d p q. q));
  };
  fits = record { num_fits = omega (arith, ints, num); den_fits = omega (arith, den) };
}

pub placed_by : (up : Bool) (end width back : Fraction) (by : ℤ) → by ≡ backwards up (pos 1) → IsKept width → IsKept back → pos 0 ≤ℤ back.num → IsRatio width (sum_num end by (pos 1) back) (sum_den end (pos 1) back) → IsPlace up end (record { width = width; back = back })
placed_by true end width back by is kept far above r = placed-up end width back kept far above (subst (λ (z : ℤ). IsRatio width (sum_num end z (pos 1) back) (sum_den end (pos 1) back)) is r)
placed_by false end width back by is kept far above r = placed-down end width back kept far above (subst (λ (z : ℤ). IsRatio width (sum_num end z (pos 1) back) (sum_den end (pos 1) back)) is r)

pub far_by : (up : Bool) (end back : Fraction) (by : ℤ) → by ≡ backwards up (pos 1) → IsUnfitRatio (sum_num end by (pos 1) back) (sum_den end (pos 1) back) → (w : Fraction) → IsKept w → IsRatio back (far_back up w end).num (pos (far_back up w end).den) → ⊥
far_by true end back by is unfit = far-up end back (subst (λ (z : ℤ). IsUnfitRatio (sum_num end z (pos 1) back) (sum_den end (pos 1) back)) is unfit)
far_by false end back by is unfit = far-down end back (subst (λ (z : ℤ). IsUnfitRatio (sum_num end z (pos 1) back) (sum_den end (pos 1) back)) is unfit)

-- what doesn't grow
pub still_ratio : (f : Fraction) (n d : ℤ) (t : Fraction) → n ≡ pos 0 → IsRatio f (sum_num f n d t) (sum_den f d t)
still_ratio f n d t none =
    let e : n *ℤ (t.num *ℤ pos f.den) ≡ pos 0 = ap (λ (y : ℤ). y *ℤ (t.num *ℤ pos f.den)) none ∙ zero-mul_ℤ (t.num *ℤ pos f.den) in
    let sum : f.num *ℤ (d *ℤ pos t.den) ≡ sum_num f n d t = omega (arith, ints, e) in
    ap (λ (y : ℤ). f.num *ℤ y) (*ℤ_comm (pos f.den) (d *ℤ pos t.den))
    ∙ sym (mul_assoc_ℤ f.num (d *ℤ pos t.den) (pos f.den))
    ∙ ap (λ (y : ℤ). y *ℤ pos f.den) sum

pub both_ok : {X E : Type 0} (P Q R : X → Type 0) (r : Result X E) → ((x : X) → P x → Q x → R x) → IfOk r P → IfOk r Q → IfOk r R
both_ok P Q R (Ok x) both p q = both x p q
both_ok P Q R (Err e) both p q = tt

less : (z : ℤ) → unsigned_abs z ≤ 2 ^ 126 → unsigned_abs (pos 0 -ℤ z) < 2 ^ 127
less z h = omega (arith, ints, h)

pub product_turns : (z : ℤ) → unsigned_abs z ≤ 2 ^ 126 → FitsSigned w128 (pos 0 -ℤ z)
product_turns z h = fits_signed_from_abs w128 (pos 0 -ℤ z) (less z h)
