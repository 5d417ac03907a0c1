-- The cost of the required level that fits: `x >= 5` where x is 0.
use Rattle.std.proofs.Common.{◌≡◌, ℕ, zero, suc, cond, nat_eq, List, [], ◌∷◌, ℤ, pos, negsuc, ◌+ℤ◌, ◌*ℤ◌, refl, arith, inr, All}
use Rattle.std.proofs.lemmas.List.Elements.{All-from_recursion}
use Rattle.std.proofs.lemmas.Nat.Gcd.{dvd_antisymm}
use Rattle.std.proofs.Math.Nat.{one-dvd}
use borrow.Author.Differences.{ints}
use Rattle.frac_core.specs.Fraction.{IsFitting}
use Rattle.problem_core.specs.declared.parts.Side.{Side}
use Rattle.problem_core.specs.declared.parts.Side.TheVariants.{Under, Over}
use Rattle.problem_core.specs.declared.parts.RowName.{RowName}
use Rattle.problem_core.specs.declared.parts.RowName.TheVariants.{Held, Stay as StayOf}
use Rattle.problem_core.specs.declared.parts.Level.TheVariants.{Priority}
use Rattle.problem_core.specs.declared.stops.What.TheVariants.{Level as LevelOf}
use Rattle.problem_core.specs.declared.stops.Quantity.TheVariants.{Plain}
use Rattle.problem_core.specs.Layout.{Row, coefficient, lines}
use Rattle.problem_core.specs.Corners.{IsIn, column, place_of}
use Rattle.problem_core.specs.Levels.{AreFitting, HasNoLevelWriting, IsCostAt, IsLevelWriting, alone}
use Rattle.problem_core.specs.Unfit.{IsUnfit}
use Rattle.corner_laws.specs.Examples.{single, at_least, under_row}
use Rattle.corner_laws.proofs.MarkWritings.Fits.{whole_is_kept}
use Rattle.corner_laws.proofs.Instances.PathExamples.{alone-in, no, under_point, under-stands}

abbrev pub times_there : RowName → ℤ
times_there (Held id) = pos 1
times_there (StayOf attr) = negsuc 0

abbrev pub reduced_there : ℕ → ℤ
reduced_there v = cond (nat_eq v 5) (pos 1) (cond (nat_eq v 6) (pos 1) (cond (nat_eq v 7) (negsuc 0) (pos 0)))

pub cancelled : (c : ℤ) → pos 1 *ℤ c +ℤ (negsuc 0 *ℤ c +ℤ pos 0) ≡ pos 0
cancelled c = omega (arith, ints)

columns-there : (side : Side) → All (λ l. pos l.scale *ℤ reduced_there (place_of l.name side) ≡ column (alone 1 times_there) side l 0) (lines (single 5))
columns-there Under = All-from_recursion (λ l. pos l.scale *ℤ reduced_there (place_of l.name Under) ≡ column (alone 1 times_there) Under l 0) (lines (single 5)) (refl, (refl, tt))
columns-there Over = All-from_recursion (λ l. pos l.scale *ℤ reduced_there (place_of l.name Over) ≡ column (alone 1 times_there) Over l 0) (lines (single 5)) (refl, (refl, tt))

inside-there : (side : Side) → All (λ l. IsIn (place_of l.name side) (under_row ∷ []) → reduced_there (place_of l.name side) ≡ pos 0) (lines (single 5))
inside-there Under = All-from_recursion (λ l. IsIn (place_of l.name Under) (under_row ∷ []) → reduced_there (place_of l.name Under) ≡ pos 0) (lines (single 5))
    (λ i. refl, (λ i. absurd (alone-in under_row 6 (no 6 4 (inr (omega arith))) i), tt))
inside-there Over = All-from_recursion (λ l. IsIn (place_of l.name Over) (under_row ∷ []) → reduced_there (place_of l.name Over) ≡ pos 0) (lines (single 5))
    (λ i. absurd (alone-in under_row 5 (no 5 4 (inr (omega arith))) i), (λ i. absurd (alone-in under_row 7 (no 7 4 (inr (omega arith))) i), tt))

fit-there : (side : Side) → All (λ l. IsFitting (reduced_there (place_of l.name side))) (lines (single 5))
fit-there Under = All-from_recursion (λ l. IsFitting (reduced_there (place_of l.name Under))) (lines (single 5)) (omega arith, (omega arith, tt))
fit-there Over = All-from_recursion (λ l. IsFitting (reduced_there (place_of l.name Over))) (lines (single 5)) (omega arith, (omega arith, tt))

-- the multipliers 1 of the row and -1 of the stay write the cost as 5 and the row's over, less the stay's over and with its under deviation
pub writes : IsLevelWriting (single 5) (under_row ∷ []) 0 1 times_there reduced_there
writes = record {
  scale_positive = omega arith;
  cancel = λ v. cancelled (coefficient v (at_least 5).terms);
  columns = columns-there;
  inside_zero = inside-there;
  lowest = λ k h rest. dvd_antisymm h (one-dvd k);
}

pub costs : IsCostAt (single 5) (under_row ∷ []) 0 (record { num = pos 5; den = 1 })
costs = (under_point, under-stands, refl)

pub fits : AreFitting (single 5) 1 times_there reduced_there
fits = record {
  scale_fits = omega arith;
  times_fit = All-from_recursion (λ l. IsFitting (times_there l.name)) (lines (single 5)) (omega arith, (omega arith, tt));
  reduced_fit = fit-there;
}

has-writing : HasNoLevelWriting (single 5) (under_row ∷ []) 0 → ⊥
has-writing none = none 1 times_there reduced_there (record { num = pos 5; den = 1 }) writes costs fits (whole_is_kept 5 (omega arith))

pub level_fits : (old : List Row) → IsUnfit (single 5) old (under_row ∷ []) (Plain (LevelOf (Priority 1000))) → ⊥
level_fits old (zero, is, none) = has-writing none
level_fits old (suc k, is, none) = absurd (omega (arith, is))
