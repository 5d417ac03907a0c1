-- The numbers of a sum that are gathered in one pass.
use Rattle.std.proofs.Common.{◌≡◌, ◌≢◌, ℕ, ◌+◌, ◌<◌, ◌≤◌, ◌^◌, ◌++◌, List, [], ◌∷◌, ℤ, pos, ◌*ℤ◌, sym, subst, refl, ap, ◌∙◌, arith, ◌⊎◌, inl, inr}
use Prim.Native.Nat.{◌∣◌}
use Rattle.std.specs.Prelude.{unsigned_abs}
use Rattle.std.specs.Int.{IsGcd}
use borrow.Author.Differences.{ints}
use Rattle.std.proofs.lemmas.Bool.{cases_lt}
use Rattle.std.proofs.lemmas.Nat.Gcd.{dvd-zero}
use Rattle.frac_core.specs.Fraction.{IsFitting}
use Rattle.frac_core.specs.declared.frac.TheConstants.{PART_BOUND}
use Rattle.row_core.specs.declared.walk.Sum.{Sum}
use Rattle.row_core.specs.declared.walk.Place.{Place}
use Rattle.row_core.specs.Rows.{Term, coefficient, IsReduced, IsKeptRow}
use Rattle.row_core.specs.Walks.{AreRead, HasRisingRows, IsFirst, IsEnd, DividesWhole, IsDivisor, IsPut, IsPushed, IsWritten, whole}
use Rattle.row_core.proofs.Lowest.{divided_lowest, divided_reduced}
use Rattle.row_core.proofs.Dividing.{IsDivisorSoFar, IsDividedSoFar, divisor_more, divided_more, divided_ends, divisor_of_none, divisor_of_some}

one_time : (z : ℤ) → pos 1 *ℤ z ≡ z
one_time z = omega (arith, ints)

-- the divisor of the numbers below a column, and these numbers where all fit
pub record IsGatheredSoFar (sum : Sum) (at : Place) (divisor most : ℕ) (out : List Term) : Type 0 where
  pub divides : IsDivisorSoFar sum at divisor
  pub written : most < PART_BOUND → IsDividedSoFar sum at (pos 1) out

pub gathered_starts : (sum : Sum) (at : Place) → AreRead sum at 0 → IsGatheredSoFar sum at 0 0 []
gathered_starts sum at are = record {
  divides = record {
    floor = 0;
    are = are;
    divides = λ c less. absurd (omega (arith, less));
    greatest = λ d all. dvd-zero d;
    small = omega arith;
  };
  written = λ small. record {
    floor = 0;
    are = are;
    same = λ c less. absurd (omega (arith, less));
    below = λ k d within. absurd (omega (arith, within));
    rising = λ i j d less within. absurd (omega (arith, within));
    nonzero = λ k d within. absurd (omega (arith, within));
    fits = λ k d within. absurd (omega (arith, within));
  };
}

put_is : (col : ℕ) (v : ℤ) (old new : List Term) → IsFitting v → IsPut col v old new → IsPushed (pos 1) col v old new
put_is col v old new fits put =
    elim put [
      | inl kept ↦ inl kept
      | inr more ↦ inr (v, more.0, one_time v, fits, more.1)
    ]

pub gathered_more : (sum : Sum) (at next : Place) (old new most more : ℕ) (out rows : List Term) (col : ℕ) (v : ℤ) → HasRisingRows sum
    → IsGatheredSoFar sum at old most out → IsFirst sum at col
    → ((floor : ℕ) → AreRead sum at floor → v ≡ whole sum col) → ((floor : ℕ) → AreRead sum at floor → AreRead sum next (col + 1))
    → unsigned_abs v < 2 ^ 127 → IsGcd (unsigned_abs v) old new → most ≤ more → unsigned_abs v ≤ more → IsPut col v out rows
    → IsGatheredSoFar sum next new more rows
gathered_more sum at next old new most more out rows col v rising is first value read small gcd before here put = record {
  divides = divisor_more sum at next old new col v rising is.divides first value read small gcd;
  written = λ less.
      divided_more sum at next (pos 1) out rows col v rising (is.written (omega (arith, less, before))) first value read
      (put_is col v out rows (omega (arith, less, here)) put);
}

pub gathered_ends : (sum : Sum) (at : Place) (divisor most : ℕ) (out : List Term) → HasRisingRows sum → IsGatheredSoFar sum at divisor most out → IsEnd sum at
    → most < PART_BOUND → IsWritten out (whole sum)
gathered_ends sum at divisor most out rising is end small =
    let done : IsDividedSoFar sum at (pos 1) out = is.written small in
    record {
      same = λ c. sym (one_time (coefficient c out)) ∙ divided_ends sum at (pos 1) out rising done end c;
      rising = done.rising;
      nonzero = done.nonzero;
      fits = done.fits;
    }

-- a divisor that is 0 or 1 stands for 1
unit_divisor : (whole : ℕ → ℤ) (divisor : ℕ) → DividesWhole divisor whole → ((d : ℕ) → DividesWhole d whole → d ∣ divisor) → divisor ≤ 1 → IsDivisor (pos 1) whole
unit_divisor whole divisor divides greatest small =
    elim (cases_lt 0 divisor) [
      | inl some ↦ let one : divisor ≡ 1 = omega (arith, some, small) in divisor_of_some whole divisor (pos 1) divides greatest some (ap pos (sym one))
      | inr none ↦ divisor_of_none whole divisor divides (omega (arith, none))
    ]

pub written_reduced : (out : List Term) (whole : ℕ → ℤ) → IsWritten out whole → IsReduced out whole
written_reduced out whole is = divided_reduced (pos 1) out whole (omega (arith, ints)) (λ c. one_time (coefficient c out) ∙ is.same c)

-- what is written is in lowest terms where nothing divides it
pub written_kept : (out : List Term) (whole : ℕ → ℤ) (divisor : ℕ) → DividesWhole divisor whole → ((d : ℕ) → DividesWhole d whole → d ∣ divisor) → divisor ≤ 1 → IsWritten out whole → IsKeptRow out
written_kept out whole divisor divides greatest small is = record {
  lowest = divided_lowest (pos 1) out whole (unit_divisor whole divisor divides greatest small) (λ c. one_time (coefficient c out) ∙ is.same c) is.rising is.nonzero;
  fits = is.fits;
}

-- the divisor of all, also where all are 0
pub made_divisor : (whole : ℕ → ℤ) (divisor : ℕ) (z : ℤ) → DividesWhole divisor whole → ((d : ℕ) → DividesWhole d whole → d ∣ divisor)
    → (0 < divisor → z ≡ pos divisor) → (divisor ≡ 0 → z ≡ pos 1) → IsDivisor z whole
made_divisor whole divisor z divides greatest some none =
    elim (cases_lt 0 divisor) [
      | inl more ↦ divisor_of_some whole divisor z divides greatest more (some more)
      | inr not ↦
          let zero_is : divisor ≡ 0 = omega (arith, not) in
          subst (λ (y : ℤ). IsDivisor y whole) (sym (none zero_is)) (divisor_of_none whole divisor divides zero_is)
    ]
