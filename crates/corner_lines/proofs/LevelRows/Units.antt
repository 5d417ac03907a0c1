-- Units of levels' costs, and their common multiples.
use Rattle.std.proofs.Common.{◌≡◌, ◌∙◌, ap, sym, subst, ℕ, zero, suc, ◌*◌, ◌<◌, arith, ◌/◌, ℤ, pos, negsuc, ◌<ℤ◌, unsigned_abs, refl}
use Rattle.std.specs.Int.{IsGcd}
use lib.Signed.{quot_z}
use borrow.Author.Differences.{ints}
use Rattle.std.proofs.Math.Nat.{dvd-mul_left, dvd-mul_right, mul-div_cancel'}
use Rattle.std.proofs.lemmas.Nat.Gcd.{IsGcd-swap}
use Rattle.frac_core.proofs.Gauss.{Reduces, gauss, reduces}
use Rattle.corner_laws.proofs.LevelCosts.Equal.{cancel-left}
use Rattle.corner_lines.specs.Levels.LevelJoins.{IsLeastMultiple}
use Rattle.std.specs.Int.{◌∣◌}
use Rattle.frac_core.proofs.Divisors.{size_above}

pub quotient : (a d : ℤ) → pos 0 <ℤ a → pos 0 <ℤ d → quot_z a d ≡ pos (unsigned_abs a / unsigned_abs d)
quotient (pos a) (pos d) h k = refl
quotient (pos a) (negsuc d) h k = absurd k.lt
quotient (negsuc a) d h k = absurd h.lt

-- the part of a number above 0 is above 0
pub part_above : (a b g : ℕ) → IsGcd a b g → 0 < a → 0 < a / g
part_above a b g d h = above (a / g) g (mul-div_cancel' g d.0)
  where
    above : (x g : ℕ) → g * x ≡ a → 0 < x
    above zero g e = absurd (omega (arith, e, h))
    above (suc x) g e = omega arith

pub quotient_above : (a d : ℤ) (b : ℕ) → IsGcd (unsigned_abs a) b (unsigned_abs d) → pos 0 <ℤ a → pos 0 <ℤ pos (unsigned_abs a / unsigned_abs d)
quotient_above a d b is h = let up = part_above (unsigned_abs a) b (unsigned_abs d) is (size_above a h) in omega (arith, ints, up)

pub positive_is : (z : ℤ) → pos 0 <ℤ z → z ≡ pos (unsigned_abs z)
positive_is (pos n) h = refl
positive_is (negsuc n) h = absurd h.lt

-- ---- the least common multiple

pub regrouped : (p g q : ℕ) → p * (q * g) ≡ q * (p * g)
regrouped p g q = omega arith

pub with_left : (p g y : ℕ) → g * (p * y) ≡ (p * g) * y
with_left p g y = omega arith

pub at_last : (p z u n : ℕ) → u * (p * z) ≡ n → (p * u) * z ≡ n
at_last p z u n e = omega (arith, e)

pub least_multiple : (part unit g : ℕ) → IsGcd part unit g → 0 < part → 0 < unit → IsLeastMultiple unit part (part / g * unit)
least_multiple part unit g is up above =
    let r : Reduces part unit g = reduces part unit g above is in
    let p : ℕ = part / g in
    let u : ℕ = unit / g in
    record {
      above = product_above (part / g) unit (part_above part unit g is up) above;
      left = dvd-mul_left unit (part / g);
      right = subst (λ (n : ℕ). part ∣ n) (whole (part / g) (unit / g) r.num_is r.den_is) (dvd-mul_left part (unit / g));
      least = λ n left right.
          let e : unit * (n / unit) ≡ n = mul-div_cancel' unit left in
          let d : part * (n / part) ≡ n = mul-div_cancel' part right in
          let same : (part / g) * (n / part) ≡ (unit / g) * (n / unit) =
          cancel-left g ((part / g) * (n / part)) ((unit / g) * (n / unit)) r.g_above
          (with_left (part / g) g (n / part) ∙ ap (λ (k : ℕ). k * (n / part)) r.num_is ∙ d ∙ sym e ∙ sym (with_left (unit / g) g (n / unit) ∙ ap (λ (k : ℕ). k * (n / unit)) r.den_is)) in
          let f : (part / g) ∣ (n / unit) = gauss (unit / g) (part / g) (n / unit) (IsGcd-swap (part / g) (unit / g) 1 r.apart) (subst (λ (k : ℕ). (part / g) ∣ k) same (dvd-mul_right (part / g) (n / part))) in
          let z : (part / g) * (n / unit / (part / g)) ≡ n / unit = mul-div_cancel' (part / g) f in
          subst (λ (k : ℕ). (part / g * unit) ∣ k) (at_last (part / g) (n / unit / (part / g)) unit n (ap (λ (k : ℕ). unit * k) z ∙ e)) (dvd-mul_right (part / g * unit) (n / unit / (part / g)));
    }
  where
    product_above : (a b : ℕ) → 0 < a → 0 < b → 0 < a * b
    product_above zero b h k = absurd (omega (arith, h))
    product_above (suc a) b h k = omega (arith, k)

    whole : (p u : ℕ) → p * g ≡ part → u * g ≡ unit → u * part ≡ p * unit
    whole p u e f = ap (λ (k : ℕ). u * k) (sym e) ∙ regrouped u g p ∙ ap (λ (k : ℕ). p * k) f
