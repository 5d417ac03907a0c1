-- Sums of lines by their places, before and after an exchange.
use Rattle.std.specs.Prelude.{◌≡◌, ◌≢◌, ℕ, ◌<◌, ◌*◌, cond, nat_eq, List, ℤ, pos, ◌*ℤ◌, neg_ℤ, length, All}
use Rattle.frac_core.specs.Fraction.{Fraction, IsRatio, sum_den, sum_num}
use Rattle.problem_core.specs.declared.parts.Side.{Side}
use Rattle.problem_core.specs.declared.parts.Side.TheVariants.{Under}
use Rattle.problem_core.specs.declared.parts.RowName.{RowName}
use Rattle.problem_core.specs.declared.parts.Mark.{Mark}
use Rattle.problem_core.specs.Layout.{Problem, lines}
use Rattle.problem_core.specs.Kept.{IsWhole}
use Rattle.problem_core.specs.Corners.{IsCorner, IsIn, Swap, exchanged, place, place_of}
use Rattle.problem_core.specs.Window.{zero_fraction}
use Rattle.corner_laws.specs.Laws.{IsMarkAt}
use Rattle.corner_lines.specs.LineEquations.{IsLineEquation, IsLineSum, IsUnfitLine, deviation, sign_of}
use Rattle.path_lines.specs.Numbers.{AreLowest, AreUnfit, IsCombined, IsReplaced}
use Rattle.path_lines.specs.Tables.{line_count, name_at, numbers_of}

-- the numbers, with 0 for the entering line
abbrev pub without : RowName → (RowName → ℤ) → RowName → ℤ
without enter by name = cond (nat_eq (place_of name Under) (place_of enter Under)) (pos 0) (by name)

-- the pivot: the lines cancel by its numbers. The entering line's is `-size`, and the others are its equation
-- at the next corner
pub record IsPivotOf (p : Problem) (at : List Mark) (s : Swap) (size : ℕ) (pivot : List ℤ)
    (enters : Fraction) : Type 0 where
  pub count : length pivot ≡ line_count p
  pub at_enter : numbers_of (lines p) pivot s.enter.row ≡ neg_ℤ (pos size)
  pub equation : IsLineEquation p (exchanged s at) (deviation s.enter.row) size
      (without s.enter.row (numbers_of (lines p) pivot)) enters.num enters.den

-- a quantity's sum with the pivot substituted, in lowest terms, is its equation at the next corner
abbrev pub CarriedIsEquation : Type 0
CarriedIsEquation = (p : Problem) (at : List Mark) (s : Swap) (quantity : (ℕ → ℤ) → ℤ) (own size : ℕ)
    (by pivot out part : List ℤ) (low : ℕ) (value enters next : Fraction) → IsWhole p
    → IsMarkAt p (place s.enter) → IsIn (place s.leave) at → length by ≡ line_count p
    → IsLineSum p at quantity own (numbers_of (lines p) by) value.num value.den
    → IsPivotOf p at s size pivot enters
    → IsCombined (pos size) by (numbers_of (lines p) by s.enter.row) pivot out
    → AreLowest (pos (size * own)) out (pos low) part → 0 < low → 0 < next.den
    → IsRatio next (sum_num value (numbers_of (lines p) by s.enter.row) (pos own) enters)
    (sum_den value (pos own) enters)
    → IsLineEquation p (exchanged s at) quantity low (numbers_of (lines p) part) next.num next.den

-- the leaving line's numbers with this sign, and its own number in its place
pub record IsResolvedList (p : Problem) (leave : RowName) (side : Side) (own : ℕ) (by pivot : List ℤ) : Type 0
  where
    pub count : length pivot ≡ line_count p
    pub leaves : numbers_of (lines p) pivot leave ≡ sign_of side *ℤ pos own
    pub others : All (λ l. l.name ≢ leave → numbers_of (lines p) pivot l.name
        ≡ neg_ℤ (sign_of side *ℤ numbers_of (lines p) by l.name)) (lines p)

-- they are the pivot, if the sign is that of the entering line's number
abbrev pub LeavingIsPivot : Type 0
LeavingIsPivot = (p : Problem) (at : List Mark) (s : Swap) (side : Side) (own size : ℕ) (by pivot : List ℤ)
    (value enters : Fraction) → IsWhole p → IsCorner p at → IsMarkAt p (place s.enter)
    → IsIn (place s.leave) at
    → IsLineEquation p at (deviation s.leave.row) own (numbers_of (lines p) by) value.num value.den
    → IsResolvedList p s.leave.row side own by pivot → 0 < size
    → pos size ≡ sign_of side *ℤ numbers_of (lines p) by s.enter.row → 0 < enters.den
    → IsRatio enters (sum_num zero_fraction (neg_ℤ (sign_of side *ℤ pos own)) (pos size) value)
    (sum_den zero_fraction (pos size) value)
    → IsPivotOf p at s size pivot enters

-- the pivot without the entering line's own number, in lowest terms, is its equation
abbrev pub EnteringIsEquation : Type 0
EnteringIsEquation = (p : Problem) (at : List Mark) (s : Swap) (size low e : ℕ) (pivot out part : List ℤ)
    (enters : Fraction) → IsWhole p → e < line_count p → name_at p e ≡ s.enter.row
    → IsPivotOf p at s size pivot enters → IsReplaced (pos 1) pivot e (pos 0) out
    → AreLowest (pos size) out (pos low) part → 0 < low
    → IsLineEquation p (exchanged s at) (deviation s.enter.row) low (numbers_of (lines p) part)
    enters.num enters.den

-- if no lowest terms of the list fit, no lowest terms of the line's sum do, whatever its value is
abbrev pub UnfitListIsUnfit : Type 0
UnfitListIsUnfit = (p : Problem) (own : ℕ) (out : List ℤ) (num : ℤ) (den : ℕ) → IsWhole p
    → length out ≡ line_count p → AreUnfit (pos own) out
    → IsUnfitLine p own (numbers_of (lines p) out) num den
