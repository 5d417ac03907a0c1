-- The rows and values of attributes and inside lines after an exchange.
use Rattle.std.proofs.Common.{◌≡◌, ◌≢◌, ◌∙◌, ℕ, suc, ◌*◌, ◌<◌, Bool, true, false, cond, nat_eq, get_or, List, refl, sym, ap, ap₂, subst, arith, inl, inr, ◌⊎◌, ℤ, pos, negsuc, neg_ℤ, ◌+ℤ◌, ◌*ℤ◌, unsigned_abs, Any, ne_eqb, mul-pos}
use lib.IntN.{*ℤ_comm}
use borrow.Author.Differences.{ints}
use Rattle.frac_core.specs.Fraction.{Fraction, IsFitting, IsLowest, IsRatio, IsUnfitRatio, sum_den, sum_num}
use Rattle.frac_core.proofs.Integers.{mul-zero_ℤ, neg-neg, add-zero_ℤ}
use Rattle.row_core.specs.Rows.{Term, IsLowestRow, IsReduced, IsUnfit}
use Rattle.problem_core.specs.declared.parts.Mark.{Mark}
use Rattle.problem_core.specs.declared.parts.RowName.{RowName}
use Rattle.problem_core.specs.declared.parts.Side.{Side}
use Rattle.problem_core.specs.declared.parts.Side.TheVariants.{Under, Over}
use Rattle.problem_core.specs.Layout.{lines}
use Rattle.problem_core.specs.Window.{zero_fraction}
use Rattle.problem_core.specs.Corners.{IsCorner, IsIn, Swap, place, place_of}
use Rattle.problem_core.specs.Rays.{HasRays}
use Rattle.problem_core.specs.Unfit.{HasNoWriting}
use Rattle.corner_lines.specs.LineEquations.{IsLineEquation, IsLineSum, IsUnfitLine, deviation, sign_of}
use Rattle.corner_lines.specs.LineExchanges.{IsExchangedRow}
use Rattle.corner_lines.specs.LineLaws.{IsUnfitValue}
use Rattle.corner_lines.specs.Levels.StayLevels.{turned}
use Rattle.corner_lines.proofs.Lines.LineCarried.{carried}
use Rattle.corner_lines.proofs.Lines.LineExchanges.{resolved}
use Rattle.corner_lines.proofs.Lines.LineUnfits.{line_sum, line_unfit, mark_unfit, reduced_line}
use Rattle.corner_writings.specs.declared.levels.Pair.{Pair}
use Rattle.corner_view.specs.Seen.{IsNamed}
use Rattle.corner_table.specs.Tables.{Lists, entry, line_slot, marks_at, number, problem_of, standing_at}
use Rattle.corner_table.specs.Kept.{IsKept}
use Rattle.corner_exchange.specs.Swaps.Exchanges.{IsEntering, IsEquationBy, IsOutsideAfter, IsPair, marks_after, moved, signed, solved}
use Rattle.corner_table.specs.Kept.{IsOutsideSlot}
use Rattle.corner_writings.specs.Rows.{row_number}
use Rattle.corner_table.proofs.Readings.SlotFacts.{any_impl}
use Rattle.corner_table.proofs.Readings.WritingFacts.{lines_apart, number_is}
use Rattle.corner_exchange.proofs.Basics.RowEquations.{AreTermsOf, reduced_terms, unfit_terms}
use Rattle.corner_table.proofs.Basics.OwnerFacts.{line-owned}
use Rattle.corner_exchange.proofs.Pivots.PairFacts.{IsWay, eqb-same, leave_equation, leave_in, line-here, named_mark, pair_exchange, pair_rays, pivot_row, times-sign, turned-turned, way_of}
use Rattle.std.proofs.lemmas.Bool.{cases_eq}
use Rattle.std.specs.Int.{◌∣◌}
use Rattle.problem_core.specs.declared.parts.RowName.TheVariants.{Stay as StayOf}
use Rattle.problem_core.specs.declared.parts.Level.TheVariants.{Stay as StayLevel}
use Rattle.problem_core.specs.declared.stops.What.TheVariants.{Level as LevelOf}
use Rattle.problem_core.specs.Layout.{Problem}
use Rattle.problem_core.specs.Kept.{IsWhole}
use Rattle.problem_core.specs.Levels.{IsLevelAt}
use Rattle.problem_core.specs.Unfit.{IsUnfitWhat}
use Rattle.corner_lines.specs.LineEquations.{IsOutsideLine}
use Rattle.corner_lines.specs.Levels.LevelRows.{line_numbers}
use Rattle.corner_lines.proofs.Lines.LinePivots.{equation_is_pivot}
use Rattle.corner_lines.proofs.Lines.LineWritings.{line_value}
use Rattle.corner_lines.proofs.Lines.MarkForms.{same-name}
use Rattle.corner_lines.proofs.LevelRows.StayRows.{stay_stands_alone}
use Rattle.corner_lines.proofs.Costs.StayFits.{stay_level_is_unfit}
use Rattle.corner_exchange.proofs.Basics.SumTurns.{ratio-turns, sum-turns, turn, unfit-turns}
use Rattle.frac_core.proofs.Numbers.{zero-or-not as decide-zero, divides-unless-zero as part-or-none, neg-times, mul-neg}
use Rattle.problem_core.proofs.Marks.{entered-in as enter_in}

-- ---- the entering line

turn-zero : (s : Side) → turn s zero_fraction ≡ zero_fraction
turn-zero Under = refl
turn-zero Over = refl

-- the two sums for the entering line's value
enter-sum : (r q way : Side) (own size : ℕ) (x n y : ℤ) (v : Fraction) → IsWay x way → y ≡ pos own → n ≡ (signed x y *ℤ sign_of r) *ℤ sign_of q
    → sum_num zero_fraction (neg_ℤ (sign_of way *ℤ pos own)) (pos size) (turn q v) ≡ turned r (sum_num zero_fraction n (pos size) v)
enter-sum r q way own size x n y v is own_is e =
    let b : ℤ = neg_ℤ (sign_of way *ℤ pos own) in
    let signs : n ≡ turned r (turned q b) =
    e ∙ times-sign q (signed x y *ℤ sign_of r) ∙ ap (turned q) (times-sign r (signed x y) ∙ ap (turned r) (is.signed_is y ∙ ap (λ z. neg_ℤ (sign_of way *ℤ z)) own_is)) ∙ turned-turned q r b in
    ap (λ f. sum_num f b (pos size) (turn q v)) (sym (turn-zero r)) ∙ sum-turns r q zero_fraction v b n (pos size) signs

pub pivot_line : (t : Lists) (pair : Pair) (s : Swap) (pv : Fraction) (n : ℤ) → IsKept t → IsPair t pair s → 0 < pv.den
    → n ≡ (signed (entry t pair.leave pair.enter) (entry t pair.leave pair.leave) *ℤ sign_of s.enter.side) *ℤ sign_of s.leave.side
    → IsRatio pv (sum_num zero_fraction n (pos (unsigned_abs (entry t pair.leave pair.enter))) (standing_at t pair.leave).value) (sum_den zero_fraction (pos (unsigned_abs (entry t pair.leave pair.enter))) (standing_at t pair.leave).value)
    → IsLineEquation (problem_of t) (marks_after t s) (deviation s.enter.row) (unsigned_abs (entry t pair.leave pair.enter)) (solved t pair) (sign_of s.enter.side *ℤ pv.num) pv.den
pivot_line t pair s pv n kept are above n_is ratio =
    let x : ℤ = entry t pair.leave pair.enter in
    let v : Fraction = (standing_at t pair.leave).value in
    let w = way_of x are.stands in
    let e = leave_equation t pair s kept are in
    resolved (problem_of t) (marks_at t) s kept.whole kept.corner (named_mark t s.enter are.enters) (leave_in t pair s are) w.0 e.0 (number t pair.leave) (turn s.leave.side v) (unsigned_abs x) (solved t pair) (sign_of s.enter.side *ℤ pv.num) pv.den
    e.2 (pivot_row t pair s w.0 e.0 kept are w.1 e.1) above
    (ratio-turns s.enter.side pv (sum_num zero_fraction n (pos (unsigned_abs x)) v) (sum_num zero_fraction (neg_ℤ (sign_of w.0 *ℤ pos e.0)) (pos (unsigned_abs x)) (turn s.leave.side v)) (sum_den zero_fraction (pos (unsigned_abs x)) v)
    (enter-sum s.enter.side s.leave.side w.0 e.0 (unsigned_abs x) x n (entry t pair.leave pair.leave) v w.1 e.1 n_is) ratio)

-- a value that does not fit is none of a line's sum
pub no_value : (t : Lists) (own : ℕ) (by : RowName → ℤ) (num : ℤ) (den : ℕ) → IsUnfitValue num den → IsUnfitLine (problem_of t) own by num den
no_value t own by num den h low part value r ratio fits each kept = h value kept.lowest ratio kept.fits

pub pivot_unfit : (t : Lists) (pair : Pair) (s : Swap) (n : ℤ) → IsKept t → IsPair t pair s
    → n ≡ (signed (entry t pair.leave pair.enter) (entry t pair.leave pair.leave) *ℤ sign_of s.enter.side) *ℤ sign_of s.leave.side
    → IsUnfitRatio (sum_num zero_fraction n (pos (unsigned_abs (entry t pair.leave pair.enter))) (standing_at t pair.leave).value) (sum_den zero_fraction (pos (unsigned_abs (entry t pair.leave pair.enter))) (standing_at t pair.leave).value)
    → IsIn (place s.enter) (marks_after t s) × HasNoWriting (problem_of t) (marks_after t s) (λ x. x (place s.enter))
pivot_unfit t pair s n kept are n_is unfit =
    let x : ℤ = entry t pair.leave pair.enter in
    let v : Fraction = (standing_at t pair.leave).value in
    let w = way_of x are.stands in
    let e = leave_equation t pair s kept are in
    let y : ℤ = sum_num zero_fraction (neg_ℤ (sign_of w.0 *ℤ pos e.0)) (pos (unsigned_abs x)) (turn s.leave.side v) in
    let d : ℕ = 1 * (unsigned_abs x * v.den) in
    let above : 0 < d = mul-pos (omega arith) (mul-pos w.1.positive e.2.den_positive) in
    let line = resolved (problem_of t) (marks_at t) s kept.whole kept.corner (named_mark t s.enter are.enters) (leave_in t pair s are) w.0 e.0 (number t pair.leave) (turn s.leave.side v) (unsigned_abs x) (solved t pair) y d
    e.2 (pivot_row t pair s w.0 e.0 kept are w.1 e.1) above refl in
    let inside = enter_in s (marks_at t) (leave_in t pair s are) in (
      inside,
      mark_unfit (problem_of t) (marks_after t s) s.enter.row s.enter.side (unsigned_abs x) (solved t pair) y d kept.whole (pair_exchange t pair s kept are).corner (pair_rays t pair s kept are) inside
          (line_sum (problem_of t) (marks_after t s) (deviation s.enter.row) (unsigned_abs x) (solved t pair) y d line)
          (no_value t (unsigned_abs x) (solved t pair) y d
          (unfit-turns s.enter.side (sum_num zero_fraction n (pos (unsigned_abs x)) v) y d (enter-sum s.enter.side s.leave.side w.0 e.0 (unsigned_abs x) x n (entry t pair.leave pair.leave) v w.1 e.1 n_is) unfit)),
    )

-- ---- sums of rows

-- the numbers of the lines in it
abbrev pub moved_number : Lists → Pair → ℕ → RowName → ℤ
moved_number t pair w name = cond (nat_eq (line_slot t name) w) (pos 0) (neg_ℤ (moved t pair w (line_slot t name)))

signed-moves : (x c y : ℤ) → signed x c *ℤ y ≡ c *ℤ signed x y
signed-moves (pos n) c y = refl
signed-moves (negsuc n) c y = neg-times c y ∙ sym (mul-neg c y)

signed-size : (x c : ℤ) → pos (unsigned_abs x) *ℤ c ≡ signed x c *ℤ x
signed-size (pos n) c = *ℤ_comm (pos n) c
signed-size (negsuc n) c = sym (neg-times c (negsuc n) ∙ ap neg_ℤ (mul-neg c (pos (suc n))) ∙ neg-neg (c *ℤ pos (suc n)) ∙ *ℤ_comm c (pos (suc n)))

pub signed-zero : (x z : ℤ) → z ≡ pos 0 → signed x z ≡ pos 0
signed-zero (pos n) z e = e
signed-zero (negsuc n) z e = ap neg_ℤ e

-- nothing is left of the entering line
pub moved_enter : (t : Lists) (pair : Pair) (w : ℕ) → moved t pair w pair.enter ≡ pos 0
moved_enter t pair w =
    let x : ℤ = entry t pair.leave pair.enter in
    let c : ℤ = entry t w pair.enter in
    let a : pos (unsigned_abs x) *ℤ c ≡ signed x c *ℤ x = signed-size x c in
    let b : neg_ℤ (signed x c) *ℤ x ≡ neg_ℤ (signed x c *ℤ x) = neg-times (signed x c) x in
    omega (arith, ints, a, b)

-- the slot is not an outside line's
abbrev pub IsNoOutside : Lists → ℕ → Type 0
IsNoOutside t w = IsOutsideSlot t w → ⊥

pub leave_absent : (t : Lists) (pair : Pair) (w : ℕ) → IsKept t → IsNoOutside t w → w ≢ pair.leave → entry t pair.leave w ≡ pos 0
leave_absent t pair w kept apart ne =
    elim (decide-zero (entry t pair.leave w)) [
      | inl none ↦ none
      | inr some ↦ absurd (apart (kept.outside pair.leave w some ne))
    ]

pub moved_own : (t : Lists) (pair : Pair) (w own : ℕ) → IsKept t → IsNoOutside t w → w ≢ pair.leave → entry t w w ≡ pos own → moved t pair w w ≡ pos (unsigned_abs (entry t pair.leave pair.enter) * own)
moved_own t pair w own kept apart ne own_is =
    let x : ℤ = entry t pair.leave pair.enter in
    let m : ℤ = neg_ℤ (signed x (entry t w pair.enter)) in
    ap₂ ◌+ℤ◌ (ap (λ z. pos (unsigned_abs x) *ℤ z) own_is) (ap (λ z. m *ℤ z) (leave_absent t pair w kept apart ne) ∙ mul-zero_ℤ m) ∙ add-zero_ℤ (pos (unsigned_abs x) *ℤ pos own)

-- columns of the sum are those of lines that are outside after the exchange
pub moved_columns : (t : Lists) (pair : Pair) (w c : ℕ) → IsKept t → moved t pair w c ≢ pos 0 → c ≢ w → IsOutsideAfter t pair c
moved_columns t pair w c kept some ne =
    let not_enter : c ≢ pair.enter = λ e. some (ap (moved t pair w) e ∙ moved_enter t pair w) in
    let x : ℤ = entry t pair.leave pair.enter in
    let m : ℤ = neg_ℤ (signed x (entry t w pair.enter)) in
    elim (decide-zero (entry t w c)) [
      | inr here ↦ inr (not_enter, kept.outside w c here ne)
      | inl none ↦ elim (decide-zero (entry t pair.leave c)) [
        | inl gone ↦ absurd (some (ap₂ ◌+ℤ◌ (ap (λ z. pos (unsigned_abs x) *ℤ z) none ∙ mul-zero_ℤ (pos (unsigned_abs x))) (ap (λ z. m *ℤ z) gone ∙ mul-zero_ℤ m)))
        | inr there ↦ elim (cases_eq c pair.leave) [
          | inl e ↦ inl e
          | inr other ↦ inr (not_enter, kept.outside pair.leave c there other)
        ]
      ]
    ]

pub after_line : (t : Lists) (pair : Pair) (s : Swap) (c : ℕ) → IsKept t → IsPair t pair s → IsOutsideAfter t pair c → Any (λ l. line_slot t l.name ≡ c) (lines (problem_of t))
after_line t pair s c kept are (inl e) =
    any_impl (λ l. l.name ≡ s.leave.row) (λ l. line_slot t l.name ≡ c) (lines (problem_of t)) (λ l n. ap (line_slot t) n ∙ are.leave_slot ∙ sym e) are.leaves
after_line t pair s c kept are (inr (not_enter, (slot, none, (name, owner)))) =
    let owned = line-owned t c name kept.slots owner in
    any_impl (λ l. l.name ≡ name) (λ l. line_slot t l.name ≡ c) (lines (problem_of t)) (λ l n. ap (line_slot t) n ∙ owned.1) owned.0

pub moved_terms : (t : Lists) (pair : Pair) (s : Swap) (w own : ℕ) → IsKept t → IsPair t pair s → IsNoOutside t w → w ≢ pair.leave → entry t w w ≡ pos own
    → AreTermsOf t w (moved t pair w) (unsigned_abs (entry t pair.leave pair.enter) * own) (moved_number t pair w)
moved_terms t pair s w own kept are apart ne own_is = record {
  own_is = moved_own t pair w own kept apart ne own_is;
  by_is = λ i d within. refl;
  columns = λ c some other. after_line t pair s c kept are (moved_columns t pair w c kept some other);
}

-- ---- the equation of a slot

pub cond-zero : (b : Bool) (z : ℤ) → z ≡ pos 0 → cond b (pos 0) (neg_ℤ z) ≡ pos 0
cond-zero true z e = refl
cond-zero false z e = ap neg_ℤ e

exchanged-number : (p a c y u v w : ℤ) → u ≡ neg_ℤ v → v *ℤ y ≡ c *ℤ w → neg_ℤ (p *ℤ a +ℤ u *ℤ y) ≡ p *ℤ neg_ℤ a +ℤ neg_ℤ c *ℤ neg_ℤ w
exchanged-number p a c y u v w e same =
    let one : p *ℤ neg_ℤ a ≡ neg_ℤ (p *ℤ a) = mul-neg p a in
    let two : u *ℤ y ≡ neg_ℤ (v *ℤ y) = ap (λ z. z *ℤ y) e ∙ neg-times v y in
    let three : neg_ℤ c *ℤ neg_ℤ w ≡ neg_ℤ (c *ℤ neg_ℤ w) = neg-times c (neg_ℤ w) in
    let four : c *ℤ neg_ℤ w ≡ neg_ℤ (c *ℤ w) = mul-neg c w in
    omega (arith, ints, one, two, three, four, same)

slot-number : (t : Lists) (pair : Pair) (s : Swap) (w : ℕ) → IsPair t pair s → w ≢ pair.enter → number t w s.enter.row ≡ neg_ℤ (entry t w pair.enter)
slot-number t pair s w are ne = number_is t w s.enter.row (λ e. ne (sym e ∙ are.enter_slot)) ∙ ap (λ c. neg_ℤ (entry t w c)) are.enter_slot

moved-elsewhere : (t : Lists) (pair : Pair) (s : Swap) (w : ℕ) (name : RowName) → IsKept t → IsPair t pair s → IsNoOutside t w → w ≢ pair.leave → w ≢ pair.enter → line_slot t name ≢ pair.enter
    → moved_number t pair w name ≡ pos (unsigned_abs (entry t pair.leave pair.enter)) *ℤ number t w name +ℤ number t w s.enter.row *ℤ solved t pair name
moved-elsewhere t pair s w name kept are apart nl ne other =
    let x : ℤ = entry t pair.leave pair.enter in
    let c : ℤ = entry t w pair.enter in
    let there : solved t pair name ≡ neg_ℤ (signed x (entry t pair.leave (line_slot t name))) = ap (λ b. cond b (pos 0) (neg_ℤ (signed x (entry t pair.leave (line_slot t name))))) (ne_eqb (line_slot t name) pair.enter other) in
    elim (cases_eq (line_slot t name) w) [
      | inl here ↦
          let test : nat_eq (line_slot t name) w ≡ true = eqb-same (line_slot t name) w here in
          let left : moved_number t pair w name ≡ pos 0 = ap (λ b. cond b (pos 0) (neg_ℤ (moved t pair w (line_slot t name)))) test in
          let none : number t w name ≡ pos 0 = ap (λ b. cond b (pos 0) (neg_ℤ (entry t w (line_slot t name)))) test in
          let gone : solved t pair name ≡ pos 0 = there ∙ ap neg_ℤ (signed-zero x (entry t pair.leave (line_slot t name)) (ap (entry t pair.leave) here ∙ leave_absent t pair w kept apart nl)) in
          left ∙ sym (ap₂ ◌+ℤ◌ (ap (λ z. pos (unsigned_abs x) *ℤ z) none ∙ mul-zero_ℤ (pos (unsigned_abs x))) (ap (λ z. number t w s.enter.row *ℤ z) gone ∙ mul-zero_ℤ (number t w s.enter.row)))
      | inr differs ↦
          ap (λ b. cond b (pos 0) (neg_ℤ (moved t pair w (line_slot t name)))) (ne_eqb (line_slot t name) w differs)
          ∙ exchanged-number (pos (unsigned_abs x)) (entry t w (line_slot t name)) c (entry t pair.leave (line_slot t name)) (neg_ℤ (signed x c)) (signed x c) (signed x (entry t pair.leave (line_slot t name))) refl (signed-moves x c (entry t pair.leave (line_slot t name)))
          ∙ sym (ap₂ ◌+ℤ◌ (ap (λ z. pos (unsigned_abs x) *ℤ z) (number_is t w name differs)) (ap₂ ◌*ℤ◌ (slot-number t pair s w are ne) there))
    ]

moved-row : (t : Lists) (pair : Pair) (s : Swap) (w : ℕ) → IsKept t → IsPair t pair s → IsNoOutside t w → w ≢ pair.leave → w ≢ pair.enter
    → IsExchangedRow (lines (problem_of t)) s.enter.row (unsigned_abs (entry t pair.leave pair.enter)) (solved t pair) (number t w) (moved_number t pair w)
moved-row t pair s w kept are apart nl ne = record {
  at_enter = cond-zero (nat_eq (line_slot t s.enter.row) w) (moved t pair w (line_slot t s.enter.row)) (ap (moved t pair w) are.enter_slot ∙ moved_enter t pair w);
  others = λ i d within other.
      moved-elsewhere t pair s w (get_or (lines (problem_of t)) i d).name kept are apart nl ne
      (λ e. other (lines_apart t (get_or (lines (problem_of t)) i d).name s.enter.row kept.slots (line-here (lines (problem_of t)) i d within) are.enters (are.enter_slot ∙ sym e)));
}

turned-neg : (s : Side) (z : ℤ) → turned s (neg_ℤ z) ≡ neg_ℤ (turned s z)
turned-neg Under z = refl
turned-neg Over z = refl

-- an attribute's or inside line's slot and equation, with the sign of its value
pub record IsMoving (t : Lists) (pair : Pair) (w : ℕ) (quantity : (ℕ → ℤ) → ℤ) (own : ℕ) (sw : Side) : Type 0 where
  pub apart : IsNoOutside t w
  pub not_leave : w ≢ pair.leave
  pub not_enter : w ≢ pair.enter
  pub own_is : entry t w w ≡ pos own
  pub line : IsLineEquation (problem_of t) (marks_at t) quantity own (number t w) (sign_of sw *ℤ (standing_at t w).value.num) (standing_at t w).value.den

abbrev pub IsStep : Lists → Pair → Swap → ℕ → Side → ℤ → Type 0
IsStep t pair s w sw n = n ≡ neg_ℤ ((entry t w pair.enter *ℤ sign_of s.enter.side) *ℤ sign_of sw)

pub moved_sum : (t : Lists) (pair : Pair) (s : Swap) (w : ℕ) (quantity : (ℕ → ℤ) → ℤ) (own : ℕ) (sw : Side) (pv : Fraction) (n num : ℤ) (den : ℕ) → IsKept t → IsPair t pair s → IsMoving t pair w quantity own sw → IsEntering t pair s pv → IsStep t pair s w sw n
    → 0 < den → IsRatio (record { num = num; den = den }) (turned sw (sum_num (standing_at t w).value n (pos own) pv)) (sum_den (standing_at t w).value (pos own) pv)
    → IsLineSum (problem_of t) (marks_after t s) quantity (unsigned_abs (entry t pair.leave pair.enter) * own) (moved_number t pair w) num den
moved_sum t pair s w quantity own sw pv n num den kept are m enters step above ratio =
    let x : ℤ = entry t pair.leave pair.enter in
    let c : ℤ = entry t w pair.enter in
    let a : Fraction = (standing_at t w).value in
    let b : ℤ = number t w s.enter.row in
    let signs : n ≡ turned sw (turned s.enter.side b) =
    step ∙ ap neg_ℤ (times-sign sw (c *ℤ sign_of s.enter.side) ∙ ap (turned sw) (times-sign s.enter.side c))
    ∙ sym (ap (λ z. turned sw (turned s.enter.side z)) (slot-number t pair s w are m.not_enter) ∙ ap (turned sw) (turned-neg s.enter.side c) ∙ turned-neg sw (turned s.enter.side c)) in
    carried (problem_of t) (marks_at t) s quantity kept.whole (named_mark t s.enter are.enters) (leave_in t pair s are) own (number t w) (turn sw a) (unsigned_abs x) (solved t pair) (turn s.enter.side pv) (moved_number t pair w) num den
    (line_sum (problem_of t) (marks_at t) quantity own (number t w) (sign_of sw *ℤ a.num) a.den m.line)
    (line_sum (problem_of t) (marks_after t s) (deviation s.enter.row) (unsigned_abs x) (solved t pair) (sign_of s.enter.side *ℤ pv.num) pv.den enters)
    (moved-row t pair s w kept are m.apart m.not_leave m.not_enter) above
    (subst (λ z. IsRatio (record { num = num; den = den }) z (sum_den a (pos own) pv)) (sym (sum-turns sw s.enter.side a pv b n (pos own) signs)) ratio)

pub moved_equation : (t : Lists) (pair : Pair) (s : Swap) (w : ℕ) (quantity : (ℕ → ℤ) → ℤ) (own : ℕ) (sw : Side) (pv : Fraction) (n : ℤ) (row : List Term) (f : Fraction) → IsKept t → IsPair t pair s → IsMoving t pair w quantity own sw → IsEntering t pair s pv → IsStep t pair s w sw n
    → IsLowestRow row → IsReduced row (moved t pair w) → 0 < f.den → IsRatio f (sum_num (standing_at t w).value n (pos own) pv) (sum_den (standing_at t w).value (pos own) pv)
    → IsEquationBy t (marks_after t s) quantity w row (sign_of sw *ℤ f.num) f.den
moved_equation t pair s w quantity own sw pv n row f kept are m enters step lowest red above ratio =
    let x : ℤ = entry t pair.leave pair.enter in
    let a : Fraction = (standing_at t w).value in
    let whole : ℕ = unsigned_abs x * own in
    let positive : 0 < whole = mul-pos (way_of x are.stands).1.positive m.line.own_positive in
    let low = reduced_terms t w (moved t pair w) whole (moved_number t pair w) row positive (moved_terms t pair s w own kept are m.apart m.not_leave m.own_is) lowest red in
    let sum = moved_sum t pair s w quantity own sw pv n (sign_of sw *ℤ f.num) f.den kept are m enters step above
    (ratio-turns sw f (sum_num a n (pos own) pv) (turned sw (sum_num a n (pos own) pv)) (sum_den a (pos own) pv) refl ratio) in
    (low.0, low.1, reduced_line (problem_of t) (marks_after t s) quantity whole (moved_number t pair w) (sign_of sw *ℤ f.num) f.den low.0 (row_number t w row) (turn sw f) sum low.2 above refl)

-- where the lowest terms of the row or of the value do not fit
pub moved_unfit : (t : Lists) (pair : Pair) (s : Swap) (w : ℕ) (quantity : (ℕ → ℤ) → ℤ) (own : ℕ) (sw : Side) (pv : Fraction) (n : ℤ) → IsKept t → IsPair t pair s → IsMoving t pair w quantity own sw → IsEntering t pair s pv → IsStep t pair s w sw n
    → IsUnfit (moved t pair w) ⊎ IsUnfitRatio (sum_num (standing_at t w).value n (pos own) pv) (sum_den (standing_at t w).value (pos own) pv)
    → HasNoWriting (problem_of t) (marks_after t s) quantity
moved_unfit t pair s w quantity own sw pv n kept are m enters step unfit =
    let x : ℤ = entry t pair.leave pair.enter in
    let a : Fraction = (standing_at t w).value in
    let whole : ℕ = unsigned_abs x * own in
    let num : ℤ = turned sw (sum_num a n (pos own) pv) in
    let den : ℕ = a.den * (own * pv.den) in
    let above : 0 < den = mul-pos m.line.den_positive (mul-pos m.line.own_positive enters.den_positive) in
    let sum = moved_sum t pair s w quantity own sw pv n num den kept are m enters step above refl in
    line_unfit (problem_of t) (marks_after t s) quantity whole (moved_number t pair w) num den kept.whole (pair_exchange t pair s kept are).corner (pair_rays t pair s kept are) sum
    (elim unfit [
      | inl row ↦ unfit_terms t w (moved t pair w) whole (moved_number t pair w) num den kept.slots (moved_terms t pair s w own kept are m.apart m.not_leave m.own_is) row
      | inr value ↦ no_value t whole (moved_number t pair w) num den (unfit-turns sw (sum_num a n (pos own) pv) num den refl value)
    ])

-- ---- a stay whose level has no room

pub named_level : (p : Problem) (attr : ℕ) → IsNamed p (StayOf attr) → (k : ℕ) × IsLevelAt p (StayLevel attr) k
named_level p attr (i, l, within, e, h) = (l.level, (i, l, within, e, (h, refl)))

inside-not : (at : List Mark) (name : RowName) (side : Side) → IsIn (place_of name side) at → IsOutsideLine at name → ⊥
inside-not at name Under inside outside = outside.under inside
inside-not at name Over inside outside = outside.over inside

same-numbers : (at : List Mark) (attr : ℕ) (side : Side) (own : ℕ) (by : RowName → ℤ) (k : RowName) → IsIn (place_of (StayOf attr) side) at → IsOutsideLine at k → line_numbers (StayOf attr) own by k ≡ by k
same-numbers at attr side own by k inside outside =
    ap (λ b. cond b (neg_ℤ (pos own)) (by k)) (ne_eqb (place_of k Under) (place_of (StayOf attr) Under)
    (λ e. inside-not at (StayOf attr) side inside (subst (λ (n : RowName). IsOutsideLine at n) (same-name k (StayOf attr) Under Under e) outside)))

pub stay_unfit : (p : Problem) (at : List Mark) (attr : ℕ) (side : Side) (own : ℕ) (by : RowName → ℤ) (value : Fraction) → IsWhole p → IsCorner p at → HasRays p at → IsNamed p (StayOf attr) → IsIn (place_of (StayOf attr) side) at
    → IsLineEquation p at (deviation (StayOf attr)) own by value.num value.den → IsLowest value → (IsFitting (pos (2 * own)) → ⊥) → IsUnfitWhat p at (LevelOf (StayLevel attr))
stay_unfit p at attr side own by value whole corner rays named inside e low unfit =
    let k = named_level p attr named in
    let pivot = equation_is_pivot p at (record { row = StayOf attr; side = side }) own by value.num value.den whole corner inside e in
    stay_level_is_unfit p at k.0 attr side own (line_numbers (StayOf attr) own by) value
    (record {
      whole = whole;
      corner = corner;
      alone = stay_stands_alone p attr k.0 whole k.1;
      inside = inside;
      line_is = pivot;
      lowest = λ d divides each. e.lowest d divides (λ i x within.
          part-or-none d (by (get_or (lines p) i x).name) (λ some.
          let outside : IsOutsideLine at (get_or (lines p) i x).name = e.outside i x within some in
          subst (λ z. d ∣ unsigned_abs z) (same-numbers at attr side own by (get_or (lines p) i x).name inside outside) (each i x within outside)));
    })
    rays (line_value p at (deviation (StayOf attr)) own by value.num value.den whole corner e) low k.1 unfit
