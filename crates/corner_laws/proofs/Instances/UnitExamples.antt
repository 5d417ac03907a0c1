-- Units of levels and level rows: a row of scale 4 and weight 6 counts in units of 2.
use Rattle.std.proofs.Common.{◌≡◌, ℕ, ◌*◌, ◌/◌, ◌<◌, ◌≤◌, cond, nat_eq, [], ◌∷◌, pos, ◌+ℤ◌, ◌-ℤ◌, neg_ℤ, refl, arith, inr}
use Rattle.std.specs.Int.{◌∣◌, IsGcd}
use Rattle.std.proofs.lemmas.List.Elements.{All-from_recursion, recursion_from_All}
use Rattle.std.proofs.lemmas.Nat.Gcd.{IsGcd-from_mod, IsGcd-from_zero, dvd_antisymm, dvd_refl, le_of_dvd}
use Rattle.std.proofs.Math.Nat.{dvd-mul_right, one-dvd}
use Rattle.problem_core.specs.declared.parts.Rel.TheVariants.{Eq, Ge}
use Rattle.problem_core.specs.declared.parts.RowName.TheVariants.{Stay as StayOf}
use Rattle.problem_core.specs.declared.parts.Side.TheVariants.{Under, Over}
use Rattle.problem_core.specs.Layout.{Line, Problem, coefficient, lines}
use Rattle.problem_core.specs.Certificates.{weight_at}
use Rattle.problem_core.specs.Corners.{IsIn, place_of}
use Rattle.corner_laws.specs.Examples.{at_least, over_row, single, under_row}
use Rattle.problem_core.specs.Levels.{IsLevelWriting}
use Rattle.problem_core.proofs.RowNames.{held-not-stay}
use Rattle.corner_laws.specs.Units.{IsCommonShare, IsLevelRow, IsLevelUnit, IsReducedBy, IsStayLevel, over_share, under_share}
use Rattle.corner_laws.proofs.Instances.LevelFits.{cancelled, reduced_there, times_there}
use Rattle.corner_laws.proofs.LevelCosts.LevelNumbers.{level_numbers}
use Rattle.corner_laws.proofs.LevelCosts.LevelUnits.{common_share_is_unit}
use Rattle.corner_laws.proofs.Instances.PathExamples.{alone-in, no}

-- ---- units

abbrev heavy : Problem
heavy = record { rows = record { id = 1; rank = 1000; weight = 6; rel = Ge; scale = 4; constant = record { num = pos 5; den = 1 }; terms = record { attr = 1; by = pos 1 } ∷ [] } ∷ []; stays = record { attr = 1; target = record { num = pos 0; den = 1 } } ∷ [] }

abbrev divisor_there : Line → ℕ
divisor_there l = cond (nat_eq l.level 0) 2 1

two-of : IsGcd 4 6 2
two-of = IsGcd-from_mod 4 6 2 (IsGcd-from_mod 6 4 2 (IsGcd-from_mod 4 2 2 (IsGcd-from_zero 2 0 refl)))

later : (n : ℕ) → n ≡ 1001 → n ≡ 0 → ⊥
later n is e = absurd (omega (arith, is, e))

share_of_two : IsCommonShare heavy 0 2 divisor_there
share_of_two = record {
  above = omega arith;
  divisors = All-from_recursion (λ l. l.level ≡ 0 → IsGcd l.scale l.weight (divisor_there l)) (lines heavy) ((λ e. two-of), ((λ e. absurd (later 1001 refl e)), tt));
  common = All-from_recursion (λ l. l.level ≡ 0 → (l.scale / divisor_there l) ∣ 2) (lines heavy) ((λ e. dvd_refl 2), ((λ e. absurd (later 1001 refl e)), tt));
  least = λ n h. (recursion_from_All (λ l. l.level ≡ 0 → (l.scale / divisor_there l) ∣ n) (lines heavy) h).0 refl;
}

pub unit_of_two : IsLevelUnit heavy 0 2
unit_of_two = common_share_is_unit heavy 0 2 divisor_there (All-from_recursion (λ l. (0 < l.scale) × (0 < l.den)) (lines heavy) ((omega arith, omega arith), ((omega arith, omega arith), tt))) share_of_two

-- 4 would do, but it is not the least
pub no_unit_of_four : IsLevelUnit heavy 0 4 → ⊥
no_unit_of_four is =
    let less : 4 ≤ 2 = le_of_dvd (omega arith) (is.least 2 (All-from_recursion (λ l. l.scale ∣ 2 * weight_at l 0) (lines heavy) (dvd-mul_right 4 3, (one-dvd 0, tt)))) in
    absurd (omega (arith, less))

-- ---- a level's row

unit_of_one : IsLevelUnit (single 5) 0 1
unit_of_one = record {
  above = omega arith;
  whole = All-from_recursion (λ l. l.scale ∣ 1 * weight_at l 0) (lines (single 5)) (one-dvd 1, (one-dvd 0, tt));
  least = λ n h. one-dvd n;
}

-- `x >= 5` with its under mark inside: the cost is 5 less the stay's deviation
pub row_there : IsLevelRow (single 5) (under_row ∷ []) 0 1 1 times_there
row_there = record {
  own_positive = omega arith;
  cancel = λ v. cancelled (coefficient v (at_least 5).terms);
  under = All-from_recursion (λ l. IsIn (place_of l.name Under) (under_row ∷ []) → times_there l.name ≡ pos (1 * under_share 1 0 l)) (lines (single 5)) ((λ i. refl), ((λ i. absurd (alone-in under_row 6 (no 6 4 (inr (omega arith))) i)), tt));
  over = All-from_recursion (λ l. IsIn (place_of l.name Over) (under_row ∷ []) → times_there l.name ≡ neg_ℤ (pos (1 * over_share 1 0 l))) (lines (single 5)) ((λ i. absurd (alone-in under_row 5 (no 5 4 (inr (omega arith))) i)), ((λ i. absurd (alone-in under_row 7 (no 7 4 (inr (omega arith))) i)), tt));
  lowest = λ k d h. dvd_antisymm d (one-dvd k);
}

left_there : IsReducedBy (single 5) 0 1 1 times_there reduced_there
left_there = record {
  under = All-from_recursion (λ l. reduced_there (place_of l.name Under) ≡ pos (1 * under_share 1 0 l) -ℤ times_there l.name) (lines (single 5)) (refl, (refl, tt));
  over = All-from_recursion (λ l. reduced_there (place_of l.name Over) ≡ pos (1 * over_share 1 0 l) +ℤ times_there l.name) (lines (single 5)) (refl, (refl, tt));
}

pub writes_there : IsLevelWriting (single 5) (under_row ∷ []) 0 1 times_there reduced_there
writes_there = level_numbers (single 5) (under_row ∷ []) 0 1 1 times_there reduced_there unit_of_one row_there left_there

pub one-not-zero : pos 1 ≡ pos 0 → ⊥
one-not-zero e = cc

-- with the over mark inside the numbers are others
pub no_row_there : IsLevelRow (single 5) (over_row ∷ []) 0 1 1 times_there → ⊥
no_row_there is = absurd (one-not-zero ((recursion_from_All (λ l. IsIn (place_of l.name Over) (over_row ∷ []) → times_there l.name ≡ neg_ℤ (pos (1 * over_share 1 0 l))) (lines (single 5)) is.over).0 (0, omega arith, refl)))

-- ---- the level of a stay

zero-not : (n : ℕ) → n ≡ 1001 → 0 ≡ n → ⊥
zero-not n is e = absurd (omega (arith, is, e))

pub stay_alone : IsStayLevel (single 5) 1001 1
stay_alone = record {
  own = All-from_recursion (λ l. l.level ≡ 1001 → (l.name ≡ StayOf 1) × (l.rel ≡ Eq) × (l.scale ≡ 1) × (l.weight ≡ 1)) (lines (single 5)) ((λ e. absurd (zero-not 1001 refl e)), ((λ e. (refl, refl, refl, refl)), tt));
  named = All-from_recursion (λ l. l.name ≡ StayOf 1 → l.level ≡ 1001) (lines (single 5)) ((λ e. absurd (held-not-stay 1 1 e)), ((λ e. refl), tt));
}

-- at the level of the required rows it does not stand
pub no_stay_there : IsStayLevel (single 5) 0 1 → ⊥
no_stay_there is = held-not-stay 1 1 ((recursion_from_All (λ l. l.level ≡ 0 → (l.name ≡ StayOf 1) × (l.rel ≡ Eq) × (l.scale ≡ 1) × (l.weight ≡ 1)) (lines (single 5)) is.own).0 refl).0
