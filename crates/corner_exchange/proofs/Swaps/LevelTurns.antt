-- The row and the cost of a line's level after a turn of the line.
use Rattle.std.proofs.Common.{◌≡◌, ◌≢◌, ◌∙◌, ◌⊎◌, inl, inr, ℕ, ◌+◌, ◌*◌, ◌<◌, ◌≤◌, Bool, cond, nat_eq, List, get_or, length, refl, sym, ap, ap₂, subst, arith, ℤ, pos, negsuc, neg_ℤ, ◌+ℤ◌, ◌-ℤ◌, ◌*ℤ◌, All, Any, eq-eqb, ne_eqb, mul-pos, Some, None}
use Rattle.std.specs.declared.option.Option.{Option}
use borrow.Author.Differences.{ints}
use Rattle.frac_core.specs.Fraction.{Fraction, IsFitting, IsRatio, IsUnfitRatio, sum_den, sum_num}
use Rattle.frac_core.proofs.Integers.{add-zero_ℤ, mul-add_left, mul-zero_ℤ, mul_assoc_ℤ, mul_left_comm_ℤ}
use Rattle.row_core.specs.Rows.{Term, coefficient, combination, IsLowestRow, IsReduced, IsUnfit}
use Rattle.problem_core.specs.declared.parts.RowName.{RowName}
use Rattle.problem_core.specs.declared.parts.Side.{Side}
use Rattle.problem_core.specs.declared.parts.Side.TheVariants.{Under, Over}
use Rattle.problem_core.specs.Layout.{Line, lines}
use Rattle.problem_core.specs.Corners.{IsExchange, IsIn, Swap, place}
use Rattle.problem_core.specs.Levels.{HasNoLevelWriting, IsCostAt}
use Rattle.problem_core.specs.Rays.{HasRays}
use Rattle.corner_laws.proofs.Rays.{rays_after}
use Rattle.corner_laws.specs.Runs.{other_side}
use Rattle.corner_lines.specs.LineEquations.{IsOutsideLine, deviation, sign_of}
use Rattle.corner_lines.specs.Levels.LevelCosts.{HasDeviation}
use Rattle.corner_lines.specs.Levels.LevelRows.{HasLevelRow, IsLevelExchange, IsPivot, IsTurningNumber, inside_number, line_numbers, sum_by}
use Rattle.corner_lines.proofs.Costs.LevelCosts.{turned_cost_is_cost, unfit_turned_cost}
use Rattle.corner_lines.proofs.LevelRows.LevelDivided.{divided-same}
use Rattle.corner_lines.proofs.LevelRows.LevelExchanges.{turned_row_is_multiple, turned_row_is_row, at-side as at_side}
use Rattle.corner_lines.proofs.Costs.LevelFits.{unfit_multiple_has_no_writing}
use Rattle.corner_lines.proofs.LevelRows.LevelSound.{whole_is_sound}
use Rattle.corner_lines.proofs.Costs.LevelTakes.{turning_number_fits}
use Rattle.corner_lines.proofs.Lines.LineExchanges.{line_turns}
use Rattle.corner_lines.proofs.Lines.LineMoves.{turn_is_exchange}
use Rattle.corner_lines.proofs.Lines.LinePivots.{equation_is_pivot}
use Rattle.corner_lines.proofs.Lines.LineWritings.{line_value}
use Rattle.corner_table.specs.declared.table.TheConstants.{LEVELS}
use Rattle.corner_table.specs.Tables.{Lists, entry, line_slot, marks_at, number, priority_at, problem_of, row_at, slot_at, standing_at}
use Rattle.corner_table.specs.Kept.{IsEquationAt, IsKept, level_own}
use Rattle.corner_table.specs.Reads.LevelNumbers.{count_of}
use Rattle.corner_table.specs.Kept.{IsOutsideSlot}
use Rattle.corner_exchange.specs.Swaps.Exchanges.{marks_after}
use Rattle.corner_writings.specs.Rows.{row_number}
use Rattle.corner_writings.specs.Fitting.{side_after}
use Rattle.corner_exchange.specs.Swaps.LevelChanges.{count_by}
use Rattle.corner_exchange.specs.Swaps.TurnedLevels.{IsTurn, IsTurnedValue, counts_at, turned_sum, turning_at}
use Rattle.corner_table.proofs.Readings.SlotFacts.{any_impl, named_slot}
use Rattle.corner_table.proofs.Readings.WritingFacts.{number_is}
use Rattle.corner_table.proofs.Readings.ReadFacts.{inside_equation}
use Rattle.corner_exchange.proofs.Basics.RowEquations.{AreTermsOf, reduced_terms}
use Rattle.corner_table.proofs.Basics.OwnerFacts.{line-owned}
use Rattle.corner_exchange.proofs.Pivots.PairFacts.{named_mark, side-stands, times-sign, turned-right}
use Rattle.corner_lines.specs.Levels.StayLevels.{turned}
use Rattle.corner_exchange.proofs.Pivots.LevelSwaps.{above_level, all_lines, level_absent, other_numbers}
use Rattle.corner_exchange.proofs.Basics.SumTurns.{turn}
use Rattle.corner_writings.proofs.LevelFacts.LevelNumberFacts.{IsKnown}
use Rattle.corner_writings.proofs.LevelFacts.FittingRows.{StandsBy, none-out}
use Rattle.corner_exchange.proofs.LevelFacts.LevelTerms.{AreApart, divided_terms, unfit_divided}
use Rattle.corner_exchange.proofs.LevelFacts.LevelCounts.{IsAtLevel, count_is}
use Rattle.corner_exchange.proofs.Pivots.LevelCosts.{cost_above}
use Rattle.corner_exchange.proofs.Swaps.SwapSides.{elsewhere, sides_after, swap_leave_in, turn_pair, turn_swap}
use Rattle.frac_core.proofs.Fitting.{ratio-up as scaled-ratio, ratio-down as ratio-scaled}
use Rattle.frac_core.proofs.Numbers.{zero-or-not as decide_zero, zero-sum as zero_sum, neg-times, mul-neg}
use Rattle.problem_core.proofs.Sides.{none-not-some as not-some}
use Rattle.corner_exchange.proofs.Pivots.LineChanges.{cond-zero as cond_zero}

-- the sum of the line's costs, for the level's cost, that does not fit
abbrev pub IsUnfitTurnedCost : Lists → ℕ → Type 0
IsUnfitTurnedCost t line = IsUnfitRatio
    (sum_num (standing_at t (slot_at t line).home).value (neg_ℤ (pos (counts_at t line))) (priority_at t (slot_at t line).home).unit (standing_at t line).value)
    (sum_den (standing_at t (slot_at t line).home).value (priority_at t (slot_at t line).home).unit (standing_at t line).value)

-- what the turn starts from
pub record IsLevelTurn (t : Lists) (line : ℕ) (side : Side) (s : Swap) (l unit own : ℕ) : Type 0 where
  pub kept : IsKept t
  pub turn_is : IsTurn t line side s
  pub low : l < LEVELS
  pub home : (slot_at t line).home ≡ l
  pub level : IsAtLevel t l unit own

-- ---- the line's equation

pub turn_in : (t : Lists) (line : ℕ) (side : Side) (s : Swap) → IsTurn t line side s → IsIn (place s.leave) (marks_at t)
turn_in t line side s is = swap_leave_in t (turn_pair line side) s (turn_swap t line side s is)

pub turn_equation : (t : Lists) (line : ℕ) (side : Side) (s : Swap) → IsKept t → IsTurn t line side s
    → IsEquationAt t (deviation s.leave.row) line (sign_of s.leave.side *ℤ (standing_at t line).value.num) (standing_at t line).value.den
turn_equation t line side s kept is =
    let swap = turn_swap t line side s is in
    subst (λ w. IsEquationAt t (deviation s.leave.row) w (sign_of s.leave.side *ℤ (standing_at t w).value.num) (standing_at t w).value.den) swap.leave_slot
    (inside_equation t s.leave kept (named_mark t s.leave swap.leaves) (side-stands t s.leave (ap (λ w. (standing_at t w).side) swap.leave_slot ∙ is.inside)))

pub turn_exchange : (t : Lists) (line : ℕ) (side : Side) (s : Swap) → IsKept t → IsTurn t line side s → IsExchange (problem_of t) (marks_at t) s
turn_exchange t line side s kept is = turn_is_exchange (problem_of t) (marks_at t) s kept.whole kept.corner (turn_in t line side s is) is.row is.sides

pub turn_rays : (t : Lists) (line : ℕ) (side : Side) (s : Swap) → IsKept t → IsTurn t line side s → HasRays (problem_of t) (marks_after t s)
turn_rays t line side s kept is = rays_after (problem_of t) (marks_at t) s (named_mark t s.enter is.enters) (turn_exchange t line side s kept is) kept.rays

-- the line's numbers
abbrev pub own_numbers : Lists → ℕ → Swap → ℕ → RowName → ℤ
own_numbers t line s own = line_numbers s.leave.row own (number t line)

turn-pivot : (t : Lists) (line : ℕ) (side : Side) (s : Swap) → (kept : IsKept t) → (is : IsTurn t line side s)
    → IsPivot (problem_of t) (marks_at t) s.enter.row s.leave.row (turn_equation t line side s kept is).0 (own_numbers t line s (turn_equation t line side s kept is).0)
turn-pivot t line side s kept is =
    let e = turn_equation t line side s kept is in
    subst (λ (name : RowName). IsPivot (problem_of t) (marks_at t) name s.leave.row e.0 (own_numbers t line s e.0)) (sym is.row)
    (equation_is_pivot (problem_of t) (marks_at t) s.leave e.0 (number t line) (sign_of s.leave.side *ℤ (standing_at t line).value.num) (standing_at t line).value.den kept.whole kept.corner (turn_in t line side s is) e.2)

turn-level : (t : Lists) (line : ℕ) (side : Side) (s : Swap) (l unit own : ℕ) → (h : IsLevelTurn t line side s l unit own)
    → IsLevelExchange (problem_of t) (marks_at t) s l unit own (number t l) (turn_equation t line side s h.kept h.turn_is).0 (own_numbers t line s (turn_equation t line side s h.kept h.turn_is).0)
turn-level t line side s l unit own h = record {
  whole = h.kept.whole;
  corner = h.kept.corner;
  exchange = turn_exchange t line side s h.kept h.turn_is;
  row = h.level.row;
  pivot_is = turn-pivot t line side s h.kept h.turn_is;
}

-- ---- what the line counts

count-on : (t : Lists) (line : ℕ) (side : Side) (s : Swap) (l unit own : ℕ) (k : Line) (on : Side) → IsLevelTurn t line side s l unit own → IsKnown t k → line_slot t k.name ≡ line
    → pos own *ℤ (pos (count_of t (slot_at t line) on) *ℤ sign_of on) ≡ neg_ℤ (inside_number on l unit own k)
count-on t line side s l unit own k on h known slot =
    sym (ap (λ (b : Bool). pos own *ℤ cond b (pos (count_of t (slot_at t line) on) *ℤ sign_of on) (pos 0)) (eq-eqb (slot_at t line).home l h.home))
    ∙ ap (λ (w : ℕ). pos own *ℤ count_by t l w on) (sym slot) ∙ count_is t l unit own k on h.kept known h.low h.level.unit_is

split-counts : (own u o : ℕ) → pos own *ℤ pos (u + o) ≡ pos (own * u) +ℤ pos (own * o)
split-counts own u o =
    let e : own * (u + o) ≡ own * u + own * o = omega arith in
    let x : ℕ = own * u in
    let y : ℕ = own * o in
    let sum : pos (x + y) ≡ pos x +ℤ pos y = omega (arith, ints) in
    ap pos e ∙ sum

signed-count : (side : Side) (own u : ℕ) → pos own *ℤ (pos u *ℤ sign_of side) ≡ turned side (pos (own * u))
signed-count side own u = ap (λ (z : ℤ). pos own *ℤ z) (times-sign side (pos u)) ∙ turned-right side (pos own) (pos u)

-- what a line counts on one side and then on the other
number-turns : (a : Side) (own u o : ℕ) (i : Side → ℤ) → pos own *ℤ (pos u *ℤ sign_of Under) ≡ neg_ℤ (i Under) → pos own *ℤ (pos o *ℤ sign_of Over) ≡ neg_ℤ (i Over)
    → (pos own *ℤ pos (u + o)) *ℤ sign_of (other_side a) ≡ i a -ℤ i (other_side a)
number-turns Under own u o i e f =
    let x : ℤ = pos (own * u) in
    let y : ℤ = pos (own * o) in
    let under : neg_ℤ x ≡ neg_ℤ (i Under) = sym (signed-count Under own u) ∙ e in
    let over : y ≡ neg_ℤ (i Over) = sym (signed-count Over own o) ∙ f in
    let n : ℤ = i Under in
    let m : ℤ = i Over in
    let last : (x +ℤ y) *ℤ pos 1 ≡ n -ℤ m = omega (arith, ints, under, over) in
    ap (λ (z : ℤ). z *ℤ pos 1) (split-counts own u o) ∙ last
number-turns Over own u o i e f =
    let x : ℤ = pos (own * u) in
    let y : ℤ = pos (own * o) in
    let under : neg_ℤ x ≡ neg_ℤ (i Under) = sym (signed-count Under own u) ∙ e in
    let over : y ≡ neg_ℤ (i Over) = sym (signed-count Over own o) ∙ f in
    let n : ℤ = i Under in
    let m : ℤ = i Over in
    let last : (x +ℤ y) *ℤ negsuc 0 ≡ m -ℤ n = omega (arith, ints, under, over) in
    ap (λ (z : ℤ). z *ℤ negsuc 0) (split-counts own u o) ∙ last

pub turning : (t : Lists) (line : ℕ) (side : Side) (s : Swap) (l unit own : ℕ) → IsLevelTurn t line side s l unit own → IsTurningNumber (problem_of t) s l unit own (turning_at t line side)
turning t line side s l unit own h =
    all_lines t (λ k. k.name ≡ s.leave.row → turning_at t line side ≡ inside_number s.leave.side l unit own k -ℤ inside_number s.enter.side l unit own k) h.kept
    (λ k known e.
    let slot : line_slot t k.name ≡ line = ap (line_slot t) (e ∙ sym h.turn_is.row) ∙ h.turn_is.slot in
    let u : ℕ = count_of t (slot_at t line) Under in
    let o : ℕ = count_of t (slot_at t line) Over in
    ap₂ (λ (z : ℤ) (d : Side). (z *ℤ pos (u + o)) *ℤ sign_of d) (ap (level_own t) h.home ∙ h.level.own_is) (sym h.turn_is.side_is ∙ h.turn_is.sides)
    ∙ number-turns s.leave.side own u o (λ on. inside_number on l unit own k) (count-on t line side s l unit own k Under h known slot) (count-on t line side s l unit own k Over h known slot)
    ∙ ap (λ (d : Side). inside_number s.leave.side l unit own k -ℤ inside_number d l unit own k) (sym h.turn_is.sides))

pub turning_fits : (t : Lists) (line : ℕ) (side : Side) (s : Swap) (l unit own : ℕ) → IsLevelTurn t line side s l unit own → IsFitting (turning_at t line side)
turning_fits t line side s l unit own h =
    turning_number_fits (problem_of t) (marks_at t) s l unit own (number t l) (turning_at t line side) (turn_exchange t line side s h.kept h.turn_is) h.level.fits h.turn_is.row (turning t line side s l unit own h)

-- ---- the sum

sum-line : (t : Lists) (line : ℕ) (side : Side) (c : ℕ) → c ≡ line → turned_sum t line side c ≡ pos 0
sum-line t line side c e = ap (λ (b : Bool). cond b (pos 0) (combination (entry t line line) (row_at t (slot_at t line).home) (turning_at t line side) (row_at t line) c)) (eq-eqb c line e)

sum-other : (t : Lists) (line : ℕ) (side : Side) (l c : ℕ) → (slot_at t line).home ≡ l → c ≢ line → turned_sum t line side c ≡ entry t line line *ℤ entry t l c +ℤ turning_at t line side *ℤ entry t line c
sum-other t line side l c home ne =
    ap (λ (b : Bool). cond b (pos 0) (combination (entry t line line) (row_at t (slot_at t line).home) (turning_at t line side) (row_at t line) c)) (ne_eqb c line ne)
    ∙ ap (λ (w : ℕ). entry t line line *ℤ entry t w c +ℤ turning_at t line side *ℤ entry t line c) home

pub turned_columns : (t : Lists) (line : ℕ) (side : Side) (l c : ℕ) → IsKept t → (slot_at t line).home ≡ l → turned_sum t line side c ≢ pos 0 → c ≢ l → (c ≢ line) × IsOutsideSlot t c
turned_columns t line side l c kept home some ne =
    let nl : c ≢ line = λ e. some (sum-line t line side c e) in (
      nl,
      elim (decide_zero (entry t l c)) [
        | inr here ↦ kept.outside l c here ne
        | inl none ↦ elim (decide_zero (entry t line c)) [
          | inr there ↦ kept.outside line c there nl
          | inl gone ↦ absurd (some (sum-other t line side l c home nl ∙ zero_sum (entry t line line) (turning_at t line side) (entry t l c) (entry t line c) none gone))
        ]
      ],
    )

-- the numbers of lines in it
abbrev pub turned_number : Lists → ℕ → Side → ℕ → RowName → ℤ
turned_number t line side l name = cond (nat_eq (line_slot t name) l) (pos 0) (neg_ℤ (turned_sum t line side (line_slot t name)))

line-high : (t : Lists) (line : ℕ) (side : Side) (s : Swap) → IsKept t → IsTurn t line side s → LEVELS ≤ line
line-high t line side s kept is = subst (λ w. LEVELS ≤ w) is.slot (named_slot t s.enter.row kept.slots is.enters).0

outside-line : (t : Lists) (c : ℕ) → IsKept t → IsOutsideSlot t c → Any (λ k. line_slot t k.name ≡ c) (lines (problem_of t))
outside-line t c kept (slot, none, (name, owner)) =
    let owned = line-owned t c name kept.slots owner in
    any_impl (λ k. k.name ≡ name) (λ k. line_slot t k.name ≡ c) (lines (problem_of t)) (λ k n. ap (line_slot t) n ∙ owned.1) owned.0

turned-terms : (t : Lists) (line : ℕ) (side : Side) (s : Swap) (l unit own size : ℕ) → IsLevelTurn t line side s l unit own → entry t line line ≡ pos size → AreTermsOf t l (turned_sum t line side) (size * own) (turned_number t line side l)
turned-terms t line side s l unit own size h size_is =
    let low = h.low in
    let high = line-high t line side s h.kept h.turn_is in
    let ne : l ≢ line = λ e. omega (arith, e, low, high) in
    let n : ℤ = turning_at t line side in
    record {
      own_is = sum-other t line side l l h.home ne
          ∙ ap₂ (λ (a b : ℤ). a *ℤ b +ℤ n *ℤ entry t line l) size_is h.level.entry_is
          ∙ ap (λ (z : ℤ). pos size *ℤ pos own +ℤ n *ℤ z) (level_absent t line l h.kept h.low ne) ∙ ap (λ (z : ℤ). pos size *ℤ pos own +ℤ z) (mul-zero_ℤ n) ∙ add-zero_ℤ (pos size *ℤ pos own);
      by_is = λ i d within. refl;
      columns = λ c some other. outside-line t c h.kept (turned_columns t line side l c h.kept h.home some other).1;
    }

inside-apart : (t : Lists) (line : ℕ) (side : Side) (s : Swap) (l unit own : ℕ) (k : Line) (o : Option Side) → IsLevelTurn t line side s l unit own → IsKnown t k → side_after t (turn_pair line side) (line_slot t k.name) ≡ o → StandsBy (marks_after t s) k.name o
    → IsOutsideLine (marks_after t s) k.name ⊎ ((IsOutsideLine (marks_after t s) k.name → ⊥) × (turned_number t line side l k.name ≡ pos 0))
inside-apart t line side s l unit own k None h known e stands = inl (none-out (marks_after t s) k.name stands)
inside-apart t line side s l unit own k (Some on) h known e stands = inr (
  (λ out. at_side on (marks_after t s) k.name out ((stands on).1 refl)),
  elim (decide_zero (turned_sum t line side (line_slot t k.name))) [
    | inl none ↦ cond_zero (nat_eq (line_slot t k.name) l) (turned_sum t line side (line_slot t k.name)) none
    | inr some ↦
        let c = turned_columns t line side l (line_slot t k.name) h.kept h.home some (above_level t l k h.low known) in
        absurd (not-some on (sym c.1.1 ∙ sym (elsewhere t (turn_pair line side) (line_slot t k.name) c.0 c.0) ∙ e))
  ],
)

turned-apart : (t : Lists) (line : ℕ) (side : Side) (s : Swap) (l unit own : ℕ) → IsLevelTurn t line side s l unit own → AreApart (problem_of t) (marks_after t s) (turned_number t line side l)
turned-apart t line side s l unit own h i d within =
    let k : Line = get_or (lines (problem_of t)) i d in
    inside-apart t line side s l unit own k (side_after t (turn_pair line side) (line_slot t k.name)) h (all_lines t (IsKnown t) h.kept (λ m known. known) i d within) refl
    (sides_after t (turn_pair line side) s h.kept (turn_swap t line side s h.turn_is) i d within)

-- ---- its numbers are the law's

law-sum : (k n a y x w : ℤ) → x ≡ k → w ≡ x *ℤ a +ℤ n *ℤ y → k *ℤ neg_ℤ a +ℤ n *ℤ neg_ℤ y ≡ neg_ℤ w
law-sum k n a y x w e f =
    let one : k *ℤ neg_ℤ a ≡ neg_ℤ (k *ℤ a) = mul-neg k a in
    let two : n *ℤ neg_ℤ y ≡ neg_ℤ (n *ℤ y) = mul-neg n y in
    let three : x *ℤ a ≡ k *ℤ a = ap (λ (z : ℤ). z *ℤ a) e in
    omega (arith, ints, one, two, three, f)

law-line : (t : Lists) (line : ℕ) (side : Side) (s : Swap) (l unit own size : ℕ) (k : Line) → IsLevelTurn t line side s l unit own → entry t line line ≡ pos size → IsKnown t k → line_slot t k.name ≢ line
    → sum_by size (number t l) (turning_at t line side) (own_numbers t line s size) k.name ≡ turned_number t line side l k.name
law-line t line side s l unit own size k h size_is known ne =
    let w : ℕ = line_slot t k.name in
    let n : ℤ = turning_at t line side in
    let level : number t l k.name ≡ neg_ℤ (entry t l w) = number_is t l k.name (above_level t l k h.low known) in
    let own_is : own_numbers t line s size k.name ≡ neg_ℤ (entry t line w) =
    other_numbers k.name s.leave.row size (number t line) (λ e. ne (ap (line_slot t) (e ∙ sym h.turn_is.row) ∙ h.turn_is.slot)) ∙ number_is t line k.name ne in
    ap₂ (λ (a y : ℤ). pos size *ℤ a +ℤ n *ℤ y) level own_is
    ∙ law-sum (pos size) n (entry t l w) (entry t line w) (entry t line line) (turned_sum t line side w) size_is (sum-other t line side l w h.home ne)
    ∙ sym (ap (λ (b : Bool). cond b (pos 0) (neg_ℤ (turned_sum t line side w))) (ne_eqb w l (above_level t l k h.low known)))

law-numbers : (t : Lists) (line : ℕ) (side : Side) (s : Swap) (l unit own size : ℕ) → IsLevelTurn t line side s l unit own → entry t line line ≡ pos size
    → All (λ k. IsOutsideLine (marks_after t s) k.name → sum_by size (number t l) (turning_at t line side) (own_numbers t line s size) k.name ≡ turned_number t line side l k.name) (lines (problem_of t))
law-numbers t line side s l unit own size h size_is i d within out =
    let k : Line = get_or (lines (problem_of t)) i d in
    law-line t line side s l unit own size k h size_is (all_lines t (IsKnown t) h.kept (λ m known. known) i d within)
    (λ e. at_side side (marks_after t s) k.name out ((sides_after t (turn_pair line side) s h.kept (turn_swap t line side s h.turn_is) i d within side).1
    (ap (λ (b : Bool). cond b (Some side) (cond (nat_eq (line_slot t k.name) line) None (standing_at t (line_slot t k.name)).side)) (eq-eqb (line_slot t k.name) line e))))

-- ---- the row after the turn

pub turned_row : (t : Lists) (line : ℕ) (side : Side) (s : Swap) (l unit own : ℕ) (row : List Term) → IsLevelTurn t line side s l unit own → IsLowestRow row → IsReduced row (turned_sum t line side)
    → (low : ℕ) × (coefficient l row ≡ pos low) × HasLevelRow (problem_of t) (marks_after t s) l unit low (row_number t l row)
turned_row t line side s l unit own row h lowest red =
    let e = turn_equation t line side s h.kept h.turn_is in
    let n : ℤ = turning_at t line side in
    let above : 0 < e.0 * own = mul-pos e.2.own_positive h.level.row.row.own_positive in
    let terms = reduced_terms t l (turned_sum t line side) (e.0 * own) (turned_number t line side l) row above (turned-terms t line side s l unit own e.0 h e.1) lowest red in (
      terms.0,
      terms.1,
      turned_row_is_row (problem_of t) (marks_at t) s l unit own e.0 e.0 terms.0 (number t l) (own_numbers t line s e.0) (row_number t l row) n n (turn-level t line side s l unit own h) h.turn_is.row (turning t line side s l unit own h) (record { above = e.2.own_positive; same = refl })
          (divided-same (problem_of t) (marks_after t s) (e.0 * own) terms.0 (turned_number t line side l) (sum_by e.0 (number t l) n (own_numbers t line s e.0)) (row_number t l row) (law-numbers t line side s l unit own e.0 h e.1)
          (divided_terms (problem_of t) (marks_after t s) (e.0 * own) (turned_number t line side l) terms.0 (row_number t l row) terms.2 (turned-apart t line side s l unit own h))),
    )

pub turned_unfit : (t : Lists) (line : ℕ) (side : Side) (s : Swap) (l unit own : ℕ) → IsLevelTurn t line side s l unit own → IsUnfit (turned_sum t line side) → HasNoLevelWriting (problem_of t) (marks_after t s) l
turned_unfit t line side s l unit own h unfit =
    let e = turn_equation t line side s h.kept h.turn_is in
    let n : ℤ = turning_at t line side in
    let above : 0 < e.0 * own = mul-pos e.2.own_positive h.level.row.row.own_positive in
    let multiple = turned_row_is_multiple (problem_of t) (marks_at t) s l unit own e.0 e.0 (number t l) (own_numbers t line s e.0) n n (turn-level t line side s l unit own h) h.turn_is.row (turning t line side s l unit own h) (record { above = e.2.own_positive; same = refl }) in
    unfit_multiple_has_no_writing (problem_of t) (marks_after t s) l unit (e.0 * own) multiple.0 (turned_number t line side l) (whole_is_sound (problem_of t) h.kept.whole) (turn_rays t line side s h.kept h.turn_is) h.level.least multiple.1
    (λ i d within out. multiple.2 i d within out ∙ law-numbers t line side s l unit own e.0 h e.1 i d within out)
    (unfit_divided t l (turned_sum t line side) (e.0 * own) (turned_number t line side l) (marks_after t s) above h.kept.slots (turned-terms t line side s l unit own e.0 h e.1) (turned-apart t line side s l unit own h) unfit)

-- ---- the cost

left-factor : (o x y v : ℤ) → x *ℤ ((o *ℤ y) *ℤ v) ≡ o *ℤ (x *ℤ (y *ℤ v))
left-factor o x y v = ap (λ (z : ℤ). x *ℤ z) (mul_assoc_ℤ o y v) ∙ mul_left_comm_ℤ x o (y *ℤ v)

opposite-signs : (a : Side) (y : ℤ) → sign_of (other_side a) *ℤ (sign_of a *ℤ y) ≡ neg_ℤ y
opposite-signs Under y = omega (arith, ints)
opposite-signs Over y = omega (arith, ints)

-- the sums for the cost are alike, but for the level's own number
turned-num : (a : Side) (cost v : Fraction) (o c u : ℤ) → sum_num cost ((o *ℤ c) *ℤ sign_of (other_side a)) (o *ℤ u) (turn a v) ≡ o *ℤ sum_num cost (neg_ℤ c) u v
turned-num a cost v o c u =
    let y : ℤ = v.num *ℤ pos cost.den in
    let first : cost.num *ℤ ((o *ℤ u) *ℤ pos v.den) ≡ o *ℤ (cost.num *ℤ (u *ℤ pos v.den)) = left-factor o cost.num u (pos v.den) in
    let signs : ((o *ℤ c) *ℤ sign_of (other_side a)) *ℤ ((sign_of a *ℤ v.num) *ℤ pos cost.den) ≡ (o *ℤ c) *ℤ neg_ℤ y =
    ap (λ (z : ℤ). ((o *ℤ c) *ℤ sign_of (other_side a)) *ℤ z) (mul_assoc_ℤ (sign_of a) v.num (pos cost.den)) ∙ mul_assoc_ℤ (o *ℤ c) (sign_of (other_side a)) (sign_of a *ℤ y) ∙ ap (λ (z : ℤ). (o *ℤ c) *ℤ z) (opposite-signs a y) in
    let second : (o *ℤ c) *ℤ neg_ℤ y ≡ o *ℤ (neg_ℤ c *ℤ y) = mul_assoc_ℤ o c (neg_ℤ y) ∙ ap (λ (z : ℤ). o *ℤ z) (mul-neg c y ∙ sym (neg-times c y)) in
    ap₂ ◌+ℤ◌ first (signs ∙ second) ∙ sym (mul-add_left o (cost.num *ℤ (u *ℤ pos v.den)) (neg_ℤ c *ℤ y))

turned-den : (own : ℕ) (cost v : Fraction) (u : ℤ) → pos cost.den *ℤ ((pos own *ℤ u) *ℤ pos v.den) ≡ pos own *ℤ (pos cost.den *ℤ (u *ℤ pos v.den))
turned-den own cost v u = left-factor (pos own) (pos cost.den) u (pos v.den)

turned-ratio : (a : Side) (cost v f : Fraction) (own : ℕ) (c u : ℤ) → IsRatio f (sum_num cost (neg_ℤ c) u v) (sum_den cost u v)
    → IsRatio f (sum_num cost ((pos own *ℤ c) *ℤ sign_of (other_side a)) (pos own *ℤ u) (turn a v)) (sum_den cost (pos own *ℤ u) (turn a v))
turned-ratio a cost v f own c u e =
    subst (λ (z : ℤ). IsRatio f z (sum_den cost (pos own *ℤ u) (turn a v))) (sym (turned-num a cost v (pos own) c u))
    (subst (λ (z : ℤ). IsRatio f (pos own *ℤ sum_num cost (neg_ℤ c) u v) z) (sym (turned-den own cost v u)) (scaled-ratio own f (sum_num cost (neg_ℤ c) u v) (sum_den cost u v) e))

ratio-turned : (a : Side) (cost v f : Fraction) (own : ℕ) (c u : ℤ) → 0 < own → IsRatio f (sum_num cost ((pos own *ℤ c) *ℤ sign_of (other_side a)) (pos own *ℤ u) (turn a v)) (sum_den cost (pos own *ℤ u) (turn a v))
    → IsRatio f (sum_num cost (neg_ℤ c) u v) (sum_den cost u v)
ratio-turned a cost v f own c u above e =
    ratio-scaled own f (sum_num cost (neg_ℤ c) u v) (sum_den cost u v) above
    (subst (λ (z : ℤ). IsRatio f (pos own *ℤ sum_num cost (neg_ℤ c) u v) z) (turned-den own cost v u)
    (subst (λ (z : ℤ). IsRatio f z (sum_den cost (pos own *ℤ u) (turn a v))) (turned-num a cost v (pos own) c u) e))

turn-deviation : (t : Lists) (line : ℕ) (side : Side) (s : Swap) → IsKept t → IsTurn t line side s → HasDeviation (problem_of t) (marks_after t s) s.enter.row (turn s.leave.side (standing_at t line).value)
turn-deviation t line side s kept is =
    let e = turn_equation t line side s kept is in
    let v : Fraction = (standing_at t line).value in
    subst (λ (name : RowName). HasDeviation (problem_of t) (marks_after t s) name (turn s.leave.side v)) (sym is.row)
    (line_value (problem_of t) (marks_after t s) (deviation s.leave.row) e.0 (number t line) (sign_of s.leave.side *ℤ v.num) v.den kept.whole (turn_exchange t line side s kept is).corner
    (line_turns (problem_of t) (marks_at t) s (deviation s.leave.row) e.0 (number t line) (sign_of s.leave.side *ℤ v.num) v.den kept.corner (turn_in t line side s is) is.row e.2))

turning-is : (t : Lists) (line : ℕ) (side : Side) (s : Swap) (l unit own : ℕ) → IsLevelTurn t line side s l unit own → turning_at t line side ≡ (pos own *ℤ pos (counts_at t line)) *ℤ sign_of (other_side s.leave.side)
turning-is t line side s l unit own h = ap₂ (λ (z : ℤ) (d : Side). (z *ℤ pos (counts_at t line)) *ℤ sign_of d) (ap (level_own t) h.home ∙ h.level.own_is) (sym h.turn_is.side_is ∙ h.turn_is.sides)

abbrev IsTurnedAt : Lists → ℕ → ℕ → ℕ → Fraction → Type 0
IsTurnedAt t line l unit f = IsRatio f (sum_num (standing_at t l).value (neg_ℤ (pos (counts_at t line))) (pos unit) (standing_at t line).value) (sum_den (standing_at t l).value (pos unit) (standing_at t line).value)

turned-at : (t : Lists) (line : ℕ) (side : Side) (s : Swap) (l unit own : ℕ) (f : Fraction) → IsLevelTurn t line side s l unit own → IsTurnedValue t line f → IsTurnedAt t line l unit f
turned-at t line side s l unit own f h ratio =
    let v : Fraction = (standing_at t line).value in
    let there : IsRatio f (sum_num (standing_at t l).value (neg_ℤ (pos (counts_at t line))) (priority_at t l).unit v) (sum_den (standing_at t l).value (priority_at t l).unit v) =
    subst (λ (w : ℕ). IsRatio f (sum_num (standing_at t w).value (neg_ℤ (pos (counts_at t line))) (priority_at t w).unit v) (sum_den (standing_at t w).value (priority_at t w).unit v)) h.home ratio in
    subst (λ (z : ℤ). IsRatio f (sum_num (standing_at t l).value (neg_ℤ (pos (counts_at t line))) z v) (sum_den (standing_at t l).value z v)) h.level.unit_is there

at-turned : (t : Lists) (line : ℕ) (side : Side) (s : Swap) (l unit own : ℕ) (f : Fraction) → IsLevelTurn t line side s l unit own → IsTurnedAt t line l unit f → IsTurnedValue t line f
at-turned t line side s l unit own f h ratio =
    let v : Fraction = (standing_at t line).value in
    let there : IsRatio f (sum_num (standing_at t l).value (neg_ℤ (pos (counts_at t line))) (priority_at t l).unit v) (sum_den (standing_at t l).value (priority_at t l).unit v) =
    subst (λ (z : ℤ). IsRatio f (sum_num (standing_at t l).value (neg_ℤ (pos (counts_at t line))) z v) (sum_den (standing_at t l).value z v)) (sym h.level.unit_is) ratio in
    subst (λ (w : ℕ). IsRatio f (sum_num (standing_at t w).value (neg_ℤ (pos (counts_at t line))) (priority_at t w).unit v) (sum_den (standing_at t w).value (priority_at t w).unit v)) (sym h.home) there

value-above : (t : Lists) (w : ℕ) → IsKept t → w < length t.slots → 0 < (standing_at t w).value.den
value-above t w kept lt =
    let standings = kept.slots.standings in
    let within : w < length t.standings = omega (arith, lt, standings) in
    (kept.values w (record { side = None; value = record { num = pos 0; den = 1 } }) within).lowest.above

pub line_within : (t : Lists) (line : ℕ) (side : Side) (s : Swap) → IsKept t → IsTurn t line side s → line < length t.slots
line_within t line side s kept is = subst (λ w. w < length t.slots) is.slot (named_slot t s.enter.row kept.slots is.enters).1

pub turned_cost : (t : Lists) (line : ℕ) (side : Side) (s : Swap) (l unit own : ℕ) (f : Fraction) → IsLevelTurn t line side s l unit own → IsTurnedValue t line f → IsCostAt (problem_of t) (marks_after t s) l f
turned_cost t line side s l unit own f h ratio =
    let e = turn_equation t line side s h.kept h.turn_is in
    let v : Fraction = (standing_at t line).value in
    let cost : Fraction = (standing_at t l).value in
    turned_cost_is_cost (problem_of t) (marks_at t) s l unit own e.0 (number t l) (own_numbers t line s e.0) (turning_at t line side) cost (turn s.leave.side v) f
    (turn-level t line side s l unit own h) h.level.least h.turn_is.row (turning t line side s l unit own h) h.level.cost (turn-deviation t line side s h.kept h.turn_is)
    (record {
      cost_den = cost_above t l h.kept h.low;
      value_den = value-above t line h.kept (line_within t line side s h.kept h.turn_is);
      ratio = subst (λ (z : ℤ). IsRatio f (sum_num cost z (pos (own * unit)) (turn s.leave.side v)) (sum_den cost (pos (own * unit)) (turn s.leave.side v))) (sym (turning-is t line side s l unit own h))
          (turned-ratio s.leave.side cost v f own (pos (counts_at t line)) (pos unit) (turned-at t line side s l unit own f h ratio));
    })

pub turned_cost_unfit : (t : Lists) (line : ℕ) (side : Side) (s : Swap) (l unit own : ℕ) → IsLevelTurn t line side s l unit own → IsUnfitTurnedCost t line → HasNoLevelWriting (problem_of t) (marks_after t s) l
turned_cost_unfit t line side s l unit own h unfit =
    let e = turn_equation t line side s h.kept h.turn_is in
    let v : Fraction = (standing_at t line).value in
    let cost : Fraction = (standing_at t l).value in
    unfit_turned_cost (problem_of t) (marks_at t) s l unit own e.0 (number t l) (own_numbers t line s e.0) (turning_at t line side) cost (turn s.leave.side v)
    (turn-level t line side s l unit own h) h.level.least h.turn_is.row (turning t line side s l unit own h) h.level.cost (turn-deviation t line side s h.kept h.turn_is)
    (λ f lowest ratio fits. unfit f lowest (at-turned t line side s l unit own f h
    (ratio-turned s.leave.side cost v f own (pos (counts_at t line)) (pos unit) h.level.row.row.own_positive
    (subst (λ (z : ℤ). IsRatio f (sum_num cost z (pos (own * unit)) (turn s.leave.side v)) (sum_den cost (pos (own * unit)) (turn s.leave.side v))) (turning-is t line side s l unit own h) ratio))) fits)
