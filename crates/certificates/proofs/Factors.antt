-- Numbers divided by the factor that they share.
use Rattle.std.proofs.Common.{◌≡◌, ◌∙◌, ℕ, ◌*◌, ◌<◌, ◌≤◌, List, [], ◌∷◌, ◌++◌, ◌+◌, length, take, get_or, ℤ, pos, negsuc, ◌*ℤ◌, ◌<ℤ◌, unsigned_abs, refl, sym, ap, ap₂, subst, arith, All, to_z}
use Rattle.std.specs.Int.{w64, ◌∣◌, IsGcd}
use Rattle.std.specs.List.{AllByRecursion as Each}
use Rattle.std.proofs.lemmas.Int.{to_z_pos, unsigned_abs-mul}
use Rattle.std.proofs.lemmas.List.{take_all, take_more}
use Rattle.std.proofs.lemmas.List.Elements.{All-from_recursion, All-nil, All-push, recursion_from_All}
use Rattle.std.proofs.lemmas.Nat.Gcd.{dvd_refl, dvd_trans, le_of_dvd}
use Rattle.std.proofs.Math.Nat.{mul-dvd-mul_right}
use borrow.Author.Differences.{ints}
use Rattle.frac_core.specs.Fraction.{IsFitting}
use Rattle.cert_core.specs.declared.by.By.{By}
use Rattle.certificates.specs.OwnLevels.{multiplied}
use Rattle.certificates.proofs.MultiplierLists.{multiplied_append}
use Rattle.frac_core.proofs.Numbers.{divisor-above as factor-some, only-one as one-left}

times-factor : (k g : ℕ) (z y : ℤ) → pos g *ℤ z ≡ y → k ∣ unsigned_abs z → (k * g) ∣ unsigned_abs y
times-factor k g z y e h =
    subst (λ (n : ℕ). (k * g) ∣ n) (let turn : unsigned_abs z * g ≡ g * unsigned_abs z = omega arith in turn ∙ sym (unsigned_abs-mul (pos g) z) ∙ ap unsigned_abs e)
    (mul-dvd-mul_right k h g)

each-factor : (k g : ℕ) (bys : List By) → Each (λ b. k ∣ unsigned_abs b.times) bys → Each (λ b. (k * g) ∣ unsigned_abs b.times) (multiplied g bys)
each-factor k g [] h = tt
each-factor k g (b ∷ bys) h = (times-factor k g b.times (pos g *ℤ b.times) refl h.0, each-factor k g bys h.1)

-- what is divided by the greatest factor that all share has no common factor
pub no_factor : (g : ℕ) (scale low : ℤ) (all bys : List By) → 0 < g → pos g *ℤ low ≡ scale → multiplied g bys ≡ all
    → ((k : ℕ) → k ∣ unsigned_abs scale → All (λ b. k ∣ unsigned_abs b.times) all → k ∣ g)
    → (k : ℕ) → k ∣ unsigned_abs low → All (λ b. k ∣ unsigned_abs b.times) bys → k ≡ 1
no_factor g scale low all bys above e same greatest k h each =
    one-left k g above
    (greatest (k * g) (times-factor k g low scale e h)
    (subst (λ (bs : List By). All (λ b. (k * g) ∣ unsigned_abs b.times) bs) same
    (All-from_recursion (λ b. (k * g) ∣ unsigned_abs b.times) (multiplied g bys) (each-factor k g bys (recursion_from_All (λ b. k ∣ unsigned_abs b.times) bys each)))))

-- ---- the greatest factor that all share

pub record Factored (scale : ℤ) (bys : List By) (factor : ℕ) : Type 0 where
  pub above : 0 < factor
  pub small : factor ≤ unsigned_abs scale
  pub divides : factor ∣ unsigned_abs scale
  pub by : All (λ b. factor ∣ unsigned_abs b.times) bys
  pub greatest : (k : ℕ) → k ∣ unsigned_abs scale → All (λ b. k ∣ unsigned_abs b.times) bys → k ∣ factor

pub factored_none : (scale : ℤ) → pos 0 <ℤ scale → Factored scale [] (unsigned_abs scale)
factored_none scale above = record {
  above = size-above scale above;
  small = omega arith;
  divides = dvd_refl (unsigned_abs scale);
  by = All-nil (λ b. unsigned_abs scale ∣ unsigned_abs b.times);
  greatest = λ k h each. h;
}
  where
    size-above : (z : ℤ) → pos 0 <ℤ z → 0 < unsigned_abs z
    size-above (pos n) h = omega (arith, ints, h)
    size-above (negsuc n) h = absurd h.lt

last-of : (P : By → Type 0) (bys : List By) (b : By) → All P (bys ++ b ∷ []) → All P bys × P b
last-of P bys b h =
    let r = parts bys (recursion_from_All P (bys ++ b ∷ []) h) in
    (All-from_recursion P bys r.0, r.1)
  where
    parts : (xs : List By) → Each P (xs ++ b ∷ []) → Each P xs × P b
    parts [] e = (tt, e.0)
    parts (x ∷ xs) e = let r = parts xs e.1 in ((e.0, r.0), r.1)

pub factored_more : (scale : ℤ) (bys : List By) (i : ℕ) (b : By) (factor g : ℕ) → i < length bys → b ≡ get_or bys i b → Factored scale (take i bys) factor → IsGcd factor (unsigned_abs b.times) g → Factored scale (take (i + 1) bys) g
factored_more scale bys i b factor g within is f (first, second, most) =
    subst (λ (bs : List By). Factored scale bs g) (ap (λ (x : By). take i bys ++ x ∷ []) is ∙ sym (take_more bys i b within))
    (record {
      above = factor-some g factor f.above first;
      small = (let less = le_of_dvd f.above first in let more = f.small in omega (arith, less, more));
      divides = dvd_trans g first f.divides;
      by = All-push (λ b. g ∣ unsigned_abs b.times) (take i bys) b (λ k d short. dvd_trans g first (f.by k d short)) second;
      greatest = λ k h each. let parts = last-of (λ b. k ∣ unsigned_abs b.times) (take i bys) b each in most k (f.greatest k h parts.0) parts.1;
    })

pub factored_all : (scale : ℤ) (bys : List By) (i factor : ℕ) → length bys ≤ i → Factored scale (take i bys) factor → Factored scale bys factor
factored_all scale bys i factor over h = subst (λ (bs : List By). Factored scale bs factor) (take_all i bys over) h

-- the number in 64 bits
pub factor_is : (scale : ℤ) (bys : List By) (factor : ℕ) → IsFitting scale → Factored scale bys factor → to_z w64 factor ≡ pos factor
factor_is scale bys factor fits h = to_z_pos w64 factor (let small = h.small in omega (arith, fits, small))

-- ---- the shares

pub share_more : (f : ℕ) (bys out : List By) (i : ℕ) (b : By) (z : ℤ) → i < length bys → b ≡ get_or bys i b → pos f *ℤ z ≡ b.times → multiplied f out ≡ take i bys → multiplied f (out ++ record { row = b.row; times = z } ∷ []) ≡ take (i + 1) bys
share_more f bys out i b z within is e h =
    multiplied_append f out (record { row = b.row; times = z } ∷ [])
    ∙ ap₂ (λ (xs : List By) (y : ℤ). xs ++ record { row = b.row; times = y } ∷ []) h e
    ∙ ap (λ (x : By). take i bys ++ x ∷ []) is
    ∙ sym (take_more bys i b within)
