-- The lowest terms of a row.
use Rattle.std.proofs.Common.{◌≡◌, ◌≢◌, ℕ, ◌*◌, ◌<◌, ◌≤◌, get_or, List, [], ◌∷◌, ℤ, pos, ◌*ℤ◌, ◌<ℤ◌, sym, subst, ap, ◌∙◌, arith}
use Prim.Native.Nat.{◌∣◌}
use Rattle.std.specs.Prelude.{unsigned_abs}
use borrow.Author.Differences.{ints}
use Rattle.std.proofs.lemmas.Int.{unsigned_abs-mul}
use Rattle.std.proofs.lemmas.List.Elements.{All-cons}
use Rattle.std.proofs.lemmas.Nat.Gcd.{dvd-zero, le_of_dvd}
use Rattle.std.proofs.Math.Nat.{dvd-mul_right, mul-dvd-mul_left, dvd_of_mul-dvd-mul_left, eq-one_of_dvd-one, dvd-mul_right}
use Rattle.frac_core.specs.Fraction.{IsFitting}
use Rattle.frac_core.proofs.Integers.{zero_from_mul}
use Rattle.row_core.specs.Rows.{Term, coefficient, IsRising, AllNonzero, IsLowestRow, IsKeptRow, IsReduced, IsUnfit}
use Rattle.row_core.specs.Walks.{DividesWhole, IsDivisor}
use Rattle.frac_core.specs.declared.frac.TheConstants.{PART_BOUND}
use Rattle.row_core.proofs.Places.{coefficient_at, of_coefficients}
use Rattle.frac_core.proofs.Quotients.{positive_is, above_bound}
use Rattle.frac_core.proofs.Numbers.{size-of-zero as size_none}

-- the divided row is in lowest terms
pub divided_lowest : (g : ℤ) (out : List Term) (whole : ℕ → ℤ) → IsDivisor g whole → ((c : ℕ) → g *ℤ coefficient c out ≡ whole c) → IsRising out → AllNonzero out → IsLowestRow out
divided_lowest g out whole is same rising nonzero =
    let n : ℕ = unsigned_abs g in
    record {
      rising = rising;
      nonzero = nonzero;
      coprime = λ d some all.
          let x : Term = get_or out 0 (record { col = 0; by = pos 0 }) in
          let here : coefficient x.col out ≡ x.by = coefficient_at out 0 (record { col = 0; by = pos 0 }) rising some in
          let filled : whole x.col ≢ pos 0 =
          λ none. nonzero 0 (record { col = 0; by = pos 0 }) some (sym here ∙ zero_from_mul n (coefficient x.col out) (positive_is g is.above).1
          (ap (λ (z : ℤ). z *ℤ coefficient x.col out) (sym (positive_is g is.above).0) ∙ same x.col ∙ none)) in
          let each : DividesWhole (n * d) whole =
          λ c.
          let number : d ∣ unsigned_abs (coefficient c out) = of_coefficients (λ z. d ∣ unsigned_abs z) (dvd-zero d) out rising all c in
          subst (λ (m : ℕ). n * d ∣ m) (sym (unsigned_abs-mul g (coefficient c out)) ∙ ap unsigned_abs (same c)) (mul-dvd-mul_left d n number) in
          let unit : n * d ∣ n * 1 = subst (λ (m : ℕ). n * d ∣ m) (omega arith) (is.greatest (n * d) x.col filled each) in
          eq-one_of_dvd-one (dvd_of_mul-dvd-mul_left d (positive_is g is.above).1 unit);
    }

pub divided_reduced : (g : ℤ) (out : List Term) (whole : ℕ → ℤ) → pos 0 <ℤ g → ((c : ℕ) → g *ℤ coefficient c out ≡ whole c) → IsReduced out whole
divided_reduced g out whole above same = record {
  factor = unsigned_abs g;
  above = (positive_is g above).1;
  same = λ c. ap (λ (z : ℤ). z *ℤ coefficient c out) (sym (positive_is g above).0) ∙ same c;
}

size_of_multiple : (f : ℕ) (z w : ℤ) → pos f *ℤ z ≡ w → unsigned_abs w ≡ f * unsigned_abs z
size_of_multiple f z w e = sym (ap unsigned_abs e) ∙ unsigned_abs-mul (pos f) z

factor_divides : (row : List Term) (whole : ℕ → ℤ) → (red : IsReduced row whole) → DividesWhole red.factor whole
factor_divides row whole red c =
    subst (λ (m : ℕ). red.factor ∣ m) (sym (size_of_multiple red.factor (coefficient c row) (whole c) (red.same c))) (dvd-mul_right red.factor (unsigned_abs (coefficient c row)))

-- where a number is the bound times the divisor or more, no row in lowest terms fits
pub none_fits : (g : ℤ) (whole : ℕ → ℤ) (c : ℕ) → IsDivisor g whole → unsigned_abs g * PART_BOUND ≤ unsigned_abs (whole c) → IsUnfit whole
none_fits g whole c is large row low red fits =
    let some : 0 < unsigned_abs g = (positive_is g is.above).1 in
    let filled : whole c ≢ pos 0 = λ none. let no : unsigned_abs (whole c) ≡ 0 = size_none (whole c) none in absurd (omega (arith, no, some, large)) in
    let le : red.factor ≤ unsigned_abs g = le_of_dvd some (is.greatest red.factor c filled (factor_divides row whole red)) in
    let small : IsFitting (coefficient c row) = of_coefficients IsFitting (omega arith) row low.rising fits c in
    above_bound (unsigned_abs g) red.factor (unsigned_abs (coefficient c row)) (unsigned_abs (whole c)) le
    (size_of_multiple red.factor (coefficient c row) (whole c) (red.same c)) red.above small large

-- the same of equal coefficients
pub reduced_same : (row : List Term) (f g : ℕ → ℤ) → ((c : ℕ) → f c ≡ g c) → IsReduced row f → IsReduced row g
reduced_same row f g same red = record { factor = red.factor; above = red.above; same = λ c. red.same c ∙ same c }

pub unfit_same : (f g : ℕ → ℤ) → ((c : ℕ) → f c ≡ g c) → IsUnfit f → IsUnfit g
unfit_same f g same unfit row low red fits = unfit row low (reduced_same row g f (λ c. sym (same c)) red) fits

-- the row of the number 1
pub unit_kept : (c : ℕ) → IsKeptRow (record { col = c; by = pos 1 } ∷ [])
unit_kept c = record {
  lowest = record {
    rising = λ i j d less within. absurd (omega (arith, less, within));
    nonzero = All-cons (λ t. t.by ≢ pos 0) (record { col = c; by = pos 1 }) [] (omega (arith, ints)) (λ k d within. absurd (omega arith));
    coprime = λ d some all. eq-one_of_dvd-one (all 0 (record { col = c; by = pos 1 }) (omega arith));
  };
  fits = All-cons (λ t. IsFitting t.by) (record { col = c; by = pos 1 }) [] (omega arith) (λ k d within. absurd (omega arith));
}
