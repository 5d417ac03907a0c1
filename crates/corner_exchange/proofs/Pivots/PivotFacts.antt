-- The entering line of an exchange.
use Rattle.std.proofs.Common.{◌≡◌, ◌≢◌, ◌∙◌, ℕ, suc, zero, ◌*◌, ◌<◌, length, refl, sym, ap, ap₂, subst, arith, ℤ, pos, negsuc, ◌*ℤ◌, ◌<ℤ◌, unsigned_abs, Some}
use borrow.Author.Differences.{ints}
use Rattle.frac_core.specs.Fraction.{Fraction, IsFitting, IsLowest, IsRatio, IsUnfitRatio, sum_den, sum_num}
use Rattle.problem_core.specs.declared.parts.RowName.{RowName}
use Rattle.problem_core.specs.declared.parts.RowName.TheVariants.{Held, Stay as StayOf}
use Rattle.problem_core.specs.declared.parts.Side.{Side}
use Rattle.problem_core.specs.declared.parts.Level.TheVariants.{Stay as StayLevel}
use Rattle.problem_core.specs.declared.stops.What.TheVariants.{Mark as MarkOf, Level as LevelOf}
use Rattle.problem_core.specs.Window.{zero_fraction}
use Rattle.problem_core.specs.Corners.{IsIn, Swap, place_of}
use Rattle.problem_core.specs.Unfit.{IsUnfitWhat}
use Rattle.std.proofs.lemmas.Int.{unsigned_abs-mul}
use Rattle.frac_core.specs.declared.frac.TheConstants.{PART_BOUND}
use Rattle.corner_lines.specs.LineEquations.{IsLineEquation, deviation, sign_of}
use Rattle.corner_writings.specs.declared.levels.Pair.{Pair}
use Rattle.corner_view.specs.declared.types.Owner.{Owner}
use Rattle.corner_view.specs.declared.types.Owner.TheVariants.{Level as LevelSlot, Attr as AttrSlot, Line as LineSlot}
use Rattle.corner_table.specs.Tables.{Lists, entry, marks_at, problem_of, slot_at, standing_at}
use Rattle.corner_table.specs.Kept.{AreSlots, IsKept, IsStayOwner}
use Rattle.corner_view.specs.Seen.{IsNamed}
use Rattle.corner_exchange.specs.Swaps.Exchanges.{IsEntering, IsPair, marks_after, signed, solved}
use Rattle.corner_table.proofs.Readings.SlotFacts.{named_slot}
use Rattle.corner_exchange.proofs.Pivots.PairFacts.{leave_in, pair_exchange, pair_rays}
use Rattle.corner_exchange.proofs.Pivots.LineChanges.{pivot_line, pivot_unfit, stay_unfit}
use Rattle.corner_exchange.proofs.Basics.SumTurns.{turn, turn-lowest}
use Rattle.corner_table.proofs.Corners.NewTables.{zero_is as is-zero}
use Rattle.corner_table.proofs.Readings.WritingFacts.{line_owner}
use Rattle.problem_core.proofs.Marks.{entered-in as enter_in}
use Rattle.corner_table.proofs.Basics.OwnerFacts.{stay_owner}

pub size_above : (x r : ℤ) → x ≢ pos 0 → r ≡ pos (unsigned_abs x) → pos 0 <ℤ r
size_above (pos zero) r some e = absurd (some refl)
size_above (pos (suc n)) r some e = omega (arith, ints, e)
size_above (negsuc n) r some e = omega (arith, ints, e)

pub enter_within : (t : Lists) (pair : Pair) (s : Swap) → AreSlots t → IsPair t pair s → pair.enter < length t.slots
enter_within t pair s slots are = subst (λ w. w < length t.slots) are.enter_slot (named_slot t s.enter.row slots are.enters).1

pub leave_within : (t : Lists) (pair : Pair) (s : Swap) → AreSlots t → IsPair t pair s → pair.leave < length t.slots
leave_within t pair s slots are = subst (λ w. w < length t.slots) are.leave_slot (named_slot t s.leave.row slots are.leaves).1

pub enter_owner : (t : Lists) (pair : Pair) (s : Swap) → AreSlots t → IsPair t pair s → (slot_at t pair.enter).owner ≡ LineSlot s.enter.row
enter_owner t pair s slots are = ap (λ w. (slot_at t w).owner) (sym are.enter_slot) ∙ line_owner t s.enter.row slots are.enters

-- what the code has of the numbers
pub record AreNumbers (t : Lists) (pair : Pair) (z v : Fraction) (n d : ℤ) : Type 0 where
  pub zero_num : z.num ≡ pos 0
  pub zero_den : z.den ≡ 1
  pub value_is : v ≡ (standing_at t pair.leave).value
  pub size_is : d ≡ pos (unsigned_abs (entry t pair.leave pair.enter))
  pub side : Side
  pub inside : (r : Side) → (standing_at t pair.leave).side ≡ Some r → side ≡ r
  pub number : n ≡ (signed (entry t pair.leave pair.enter) (entry t pair.leave pair.leave) *ℤ sign_of pair.side) *ℤ sign_of side

number-is : (t : Lists) (pair : Pair) (s : Swap) (z v : Fraction) (n d : ℤ) → IsPair t pair s → AreNumbers t pair z v n d → n ≡ (signed (entry t pair.leave pair.enter) (entry t pair.leave pair.leave) *ℤ sign_of s.enter.side) *ℤ sign_of s.leave.side
number-is t pair s z v n d are is =
    is.number ∙ ap₂ (λ (a b : Side). (signed (entry t pair.leave pair.enter) (entry t pair.leave pair.leave) *ℤ sign_of a) *ℤ sign_of b) (sym are.enter_side) (is.inside s.leave.side are.inside)

pub entering : (t : Lists) (pair : Pair) (s : Swap) (z v f : Fraction) (n d : ℤ) → IsKept t → IsPair t pair s → AreNumbers t pair z v n d → 0 < f.den → IsRatio f (sum_num z n d v) (sum_den z d v) → IsEntering t pair s f
entering t pair s z v f n d kept are is above ratio =
    pivot_line t pair s f n kept are above (number-is t pair s z v n d are is)
    (subst (λ (e : ℤ). IsRatio f (sum_num zero_fraction n e (standing_at t pair.leave).value) (sum_den zero_fraction e (standing_at t pair.leave).value)) is.size_is
    (subst (λ (u : Fraction). IsRatio f (sum_num zero_fraction n d u) (sum_den zero_fraction d u)) is.value_is
    (subst (λ (u : Fraction). IsRatio f (sum_num u n d v) (sum_den u d v)) (is-zero z is.zero_num is.zero_den) ratio)))

pub entering_unfit : (t : Lists) (pair : Pair) (s : Swap) (z v : Fraction) (n d : ℤ) → IsKept t → IsPair t pair s → AreNumbers t pair z v n d → IsUnfitRatio (sum_num z n d v) (sum_den z d v)
    → IsUnfitWhat (problem_of t) (marks_after t s) (MarkOf s.enter)
entering_unfit t pair s z v n d kept are is unfit =
    pivot_unfit t pair s n kept are (number-is t pair s z v n d are is)
    (subst (λ (e : ℤ). IsUnfitRatio (sum_num zero_fraction n e (standing_at t pair.leave).value) (sum_den zero_fraction e (standing_at t pair.leave).value)) is.size_is
    (subst (λ (u : Fraction). IsUnfitRatio (sum_num zero_fraction n d u) (sum_den zero_fraction d u)) is.value_is
    (subst (λ (u : Fraction). IsUnfitRatio (sum_num u n d v) (sum_den u d v)) (is-zero z is.zero_num is.zero_den) unfit)))

abbrev name-or : Owner → RowName
name-or LevelSlot = Held 0
name-or (AttrSlot attr) = Held 0
name-or (LineSlot name) = name

double-size : (x : ℤ) → unsigned_abs (pos 2 *ℤ x) ≡ 2 * unsigned_abs x
double-size x = unsigned_abs-mul (pos 2) x

-- the entering stay's level has no room
pub entering_large : (t : Lists) (pair : Pair) (s : Swap) (f : Fraction) → IsKept t → IsPair t pair s → IsEntering t pair s f → IsLowest f → IsStayOwner (slot_at t pair.enter).owner
    → (IsFitting (pos 2 *ℤ entry t pair.leave pair.enter) → ⊥)
    → (attr : ℕ) × ((slot_at t pair.enter).owner ≡ LineSlot (StayOf attr)) × IsUnfitWhat (problem_of t) (marks_after t s) (LevelOf (StayLevel attr))
entering_large t pair s f kept are enters low stay large =
    let a = stay_owner (slot_at t pair.enter).owner stay in
    let name : s.enter.row ≡ StayOf a.0 = ap name-or (sym (enter_owner t pair s kept.slots are) ∙ a.1) in
    let x : ℤ = entry t pair.leave pair.enter in
    (a.0, a.1, stay-there t pair s f a.0 name kept are enters low (λ h. large (subst (λ k. k < PART_BOUND) (sym (double-size x)) h)))
  where
    stay-there : (t : Lists) (pair : Pair) (s : Swap) (f : Fraction) (attr : ℕ) → s.enter.row ≡ StayOf attr → IsKept t → IsPair t pair s → IsEntering t pair s f → IsLowest f
        → (IsFitting (pos (2 * unsigned_abs (entry t pair.leave pair.enter))) → ⊥) → IsUnfitWhat (problem_of t) (marks_after t s) (LevelOf (StayLevel attr))
    stay-there t pair s f attr name kept are enters low large =
        stay_unfit (problem_of t) (marks_after t s) attr s.enter.side (unsigned_abs (entry t pair.leave pair.enter)) (solved t pair) (turn s.enter.side f) kept.whole (pair_exchange t pair s kept are).corner (pair_rays t pair s kept are)
        (subst (λ (n : RowName). IsNamed (problem_of t) n) name are.enters)
        (subst (λ (n : RowName). IsIn (place_of n s.enter.side) (marks_after t s)) name (enter_in s (marks_at t) (leave_in t pair s are)))
        (subst (λ (n : RowName). IsLineEquation (problem_of t) (marks_after t s) (deviation n) (unsigned_abs (entry t pair.leave pair.enter)) (solved t pair) (sign_of s.enter.side *ℤ f.num) f.den) name enters)
        (turn-lowest s.enter.side f low) large
