-- Small instances of fronts and of what does not fit, both ways.
use Rattle.std.proofs.Common.{◌≡◌, ◌∙◌, ℕ, zero, suc, ◌*◌, ◌<◌, ◌^◌, Bool, cond, nat_eq, ℤ, pos, negsuc, ◌+ℤ◌, ◌*ℤ◌, neg_ℤ, ◌<ℤ◌, unsigned_abs, refl, sym, ap, arith, All, ne_eqb}
use Rattle.std.specs.Int.{◌∣◌}
use Rattle.std.proofs.lemmas.Int.{unsigned_abs-mul}
use Rattle.std.proofs.lemmas.Nat.Gcd.{dvd_refl}
use Rattle.std.proofs.Math.Nat.{one-dvd}
use Rattle.std.proofs.lemmas.List.Elements.{All-from_recursion, recursion_from_All}
use borrow.Author.Differences.{ints}
use Rattle.frac_core.specs.Fraction.{IsFitting}
use Rattle.problem_core.specs.declared.parts.Side.TheVariants.{Under, Over}
use Rattle.problem_core.specs.declared.parts.RowName.TheVariants.{Held, Stay as StayOf}
use Rattle.problem_core.specs.Layout.{Line, line_of_row, line_of_stay, lines}
use Rattle.problem_core.specs.Certificates.{weight_at}
use Rattle.problem_core.specs.Corners.{IsIn, place_of}
use Rattle.problem_core.proofs.RowNames.{held-not-stay}
use Rattle.corner_laws.specs.Examples.{at_least, single}
use Rattle.corner_laws.specs.Units.{IsLevelUnit, over_share, under_share}
use Rattle.corner_laws.proofs.Counting.{IsIn-from_is_place}
use Rattle.corner_laws.proofs.ZeroColumns.{not-in}
use Rattle.corner_lines.specs.LineEquations.{IsOutsideLine}
use Rattle.corner_lines.specs.Levels.LevelRows.{HasLevelRow}
use Rattle.corner_lines.specs.Fronts.{AreLevelRows, IsFront, costs_of}
use Rattle.corner_lines.specs.Levels.LevelExamples.{SingleHasFront, SingleIsUnfit, SumIsUnfit, below_two, single_rows, stay_falls, whole_number}
use Rattle.corner_lines.proofs.LevelRows.LevelJoins.{free-number, one-divides}
use Rattle.corner_laws.proofs.Instances.LevelFits.{times_there, cancelled}
use Rattle.corner_laws.proofs.Instances.DualExamples.{none-taken as no-sum}
use Rattle.problem_core.proofs.Lines.{weight-none as no_weight}

row-line : Line
row-line = line_of_row (at_least 2)

stay-line : Line
stay-line = line_of_stay 1001 (record { attr = 1; target = record { num = pos 0; den = 1 } })

both : (P : Line → Type 0) → P (line_of_row (at_least 2)) → P (line_of_stay 1001 (record { attr = 1; target = record { num = pos 0; den = 1 } })) → All P (lines (single 2))
both P r s = All-from_recursion P (lines (single 2)) (r, (s, tt))

-- ---- the rows of the levels

unit-one : (level : ℕ) → IsLevelUnit (single 2) level 1
unit-one level = record {
  above = omega arith;
  whole = both (λ l. l.scale ∣ 1 * weight_at l level) (one-dvd (1 * weight_at (line_of_row (at_least 2)) level)) (one-dvd (1 * weight_at (line_of_stay 1001 (record { attr = 1; target = record { num = pos 0; den = 1 } })) level));
  least = λ n h. one-dvd n;
}

no-stay-under : IsIn (place_of (StayOf 1) Under) below_two → ⊥
no-stay-under = not-in below_two (place_of (StayOf 1) Under) refl

no-stay-over : IsIn (place_of (StayOf 1) Over) below_two → ⊥
no-stay-over = not-in below_two (place_of (StayOf 1) Over) refl

no-row-over : IsIn (place_of (Held 1) Over) below_two → ⊥
no-row-over = not-in below_two (place_of (Held 1) Over) refl

row-in : IsIn (place_of (Held 1) Under) below_two
row-in = IsIn-from_is_place (place_of (Held 1) Under) below_two refl

required-row : HasLevelRow (single 2) below_two 0 1 1 (λ name. cond (nat_eq 0 0) (stay_falls name) (pos 0))
required-row = record {
  by = times_there;
  row = record {
    own_positive = omega arith;
    cancel = λ v. cancelled (cond (nat_eq 1 v) (pos 1) (pos 0) +ℤ pos 0);
    under = both (λ l. IsIn (place_of l.name Under) below_two → times_there l.name ≡ pos (1 * under_share 1 0 l)) (λ i. refl) (λ i. absurd (no-stay-under i));
    over = both (λ l. IsIn (place_of l.name Over) below_two → times_there l.name ≡ neg_ℤ (pos (1 * over_share 1 0 l))) (λ i. absurd (no-row-over i)) (λ i. absurd (no-stay-over i));
    lowest = λ k d each. one-divides k d;
  };
  outside = both (λ l. IsOutsideLine below_two l.name → times_there l.name ≡ stay_falls l.name) (λ o. absurd (o.under row-in)) (λ o. refl);
}

empty-row : (n : ℕ) → HasLevelRow (single 2) below_two (suc n) 1 1 (λ name. cond (nat_eq (suc n) 0) (stay_falls name) (pos 0))
empty-row n = record {
  by = λ name. pos 0;
  row = record {
    own_positive = omega arith;
    cancel = λ v. no-sum (cond (nat_eq 1 v) (pos 1) (pos 0) +ℤ pos 0);
    under = both (λ l. IsIn (place_of l.name Under) below_two → pos 0 ≡ pos (1 * under_share 1 (suc n) l)) (λ i. sym (free-number Under (suc n) 1 1 (line_of_row (at_least 2)) (no_weight (line_of_row (at_least 2)) (suc n) (λ e. omega (arith, e))))) (λ i. absurd (no-stay-under i));
    over = both (λ l. IsIn (place_of l.name Over) below_two → pos 0 ≡ neg_ℤ (pos (1 * over_share 1 (suc n) l))) (λ i. absurd (no-row-over i)) (λ i. absurd (no-stay-over i));
    lowest = λ k d each. one-divides k d;
  };
  outside = both (λ l. IsOutsideLine below_two l.name → pos 0 ≡ cond (nat_eq (suc n) 0) (stay_falls l.name) (pos 0)) (λ o. absurd (o.under row-in)) (λ o. sym (ap (λ (b : Bool). cond b (negsuc 0) (pos 0)) (ne_eqb (suc n) 0 (λ e. omega (arith, e)))));
}

level-rows : AreLevelRows (single 2) below_two single_rows
level-rows zero = (unit-one 0, required-row)
level-rows (suc n) = (unit-one (suc n), empty-row n)

-- ---- fronts

-- an under mark whose cost is 1 at the first level has no front below 0
up-front : (costs : ℕ → ℤ) (level : ℕ) (front : ℤ) → costs 0 ≡ pos 1 → IsFront costs level front → front <ℤ pos 0 → ⊥
up-front costs zero front e f low = let h = f.there in absurd (omega (arith, ints, e, h, low))
up-front costs (suc n) front e f low = let h = f.before 0 (omega arith) in absurd (omega (arith, ints, e, h))

pub single_has_front : SingleHasFront
single_has_front = (
  level-rows,
  both (λ l. l.name ≡ StayOf 1 → IsFront (costs_of single_rows Over l) 0 (negsuc 0)) (λ e. absurd (held-not-stay 1 1 e)) (λ e. record { before = λ k less. absurd (omega (arith, less)); there = refl; some = λ e. omega (arith, ints, e) }),
  λ level front f low.
      let fronts = recursion_from_All (λ l. l.name ≡ StayOf 1 → IsFront (costs_of single_rows Under l) level front) (lines (single 2)) f in
      up-front (costs_of single_rows Under (line_of_stay 1001 (record { attr = 1; target = record { num = pos 0; den = 1 } }))) level front refl (fronts.1.0 refl) low,
)

-- ---- rows that do not fit

one-factor : (k n : ℕ) → k * n ≡ 1 → k ≡ 1
one-factor zero n e = absurd (omega (arith, e))
one-factor (suc zero) n e = refl
one-factor (suc (suc k)) zero e = absurd (omega (arith, e))
one-factor (suc (suc k)) (suc n) e = absurd (omega (arith, e))

too-large : (f low : ℕ) → f ≡ 1 → f * low ≡ 2 ^ 42 → IsFitting (pos low) → ⊥
too-large f low e h k = let g : 1 * low ≡ 2 ^ 42 = ap (λ (n : ℕ). n * low) (sym e) ∙ h in absurd (omega (arith, g, k))

pub single_is_unfit : SingleIsUnfit
single_is_unfit = (
  λ low number d fits numbers.
      let same = recursion_from_All (λ l. IsOutsideLine below_two l.name → pos d.factor *ℤ number l.name ≡ stay_falls l.name) (lines (single 2)) d.same in
      let one : pos d.factor *ℤ number (StayOf 1) ≡ negsuc 0 = same.1.0 (record { under = no-stay-under; over = no-stay-over }) in
      too-large d.factor low (one-factor d.factor (unsigned_abs (number (StayOf 1))) (sym (unsigned_abs-mul (pos d.factor) (number (StayOf 1))) ∙ ap unsigned_abs one)) d.own_is fits,
  λ unfit.
      unfit 1 stay_falls
      (record {
        factor = 1;
        above = omega arith;
        own_is = refl;
        same = both (λ l. IsOutsideLine below_two l.name → pos 1 *ℤ stay_falls l.name ≡ stay_falls l.name) (λ o. refl) (λ o. refl);
        lowest = λ k d each. one-divides k d;
      })
      (omega arith) (both (λ l. IsOutsideLine below_two l.name → IsFitting (stay_falls l.name)) (λ o. omega arith) (λ o. omega arith)),
)

-- ---- sums that do not fit

too-wide : (num : ℤ) (den : ℕ) → 0 < den → num *ℤ pos 1 ≡ pos (2 ^ 42) *ℤ pos den → unsigned_abs num < 2 ^ 42 → ⊥
too-wide num den above e h =
    let size : unsigned_abs num * 1 ≡ 2 ^ 42 * den = sym (unsigned_abs-mul num (pos 1)) ∙ ap unsigned_abs e in
    absurd (omega (arith, size, above, h))

pub sum_is_unfit : SumIsUnfit
sum_is_unfit = (
  λ next low ratio fits. too-wide next.num next.den low.above ratio fits.num_fits,
  λ unfit. unfit (whole_number (pos 1)) (record { above = omega arith; coprime = (dvd_refl 1, dvd_refl 1, λ d a b. a) }) refl (record { num_fits = omega arith; den_fits = omega arith }),
)
