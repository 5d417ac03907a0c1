-- The cost of a level after an exchange, and its change.
use Rattle.std.proofs.Common.{◌≡◌, ◌≢◌, ◌∙◌, ℕ, ◌*◌, ◌<◌, ◌<ℤ◌, List, cond, nat_eq, length, mul-pos, sym, ap, ap₂, subst, arith, ℤ, pos, negsuc, neg_ℤ, ◌+ℤ◌, ◌*ℤ◌, None}
use borrow.Author.Differences.{ints}
use Rattle.frac_core.specs.Fraction.{Fraction, IsFitting, IsLowest, IsRatio, IsUnfitRatio, sum_den, sum_num}
use Rattle.frac_core.proofs.Integers.{mul_assoc_ℤ}
use Rattle.row_core.specs.Rows.{Term, coefficient, combination, IsKeptRow, IsReduced, IsUnfit}
use Rattle.row_core.specs.Combinations.{combination_but}
use Rattle.row_core.specs.declared.entry.Factors.{Factors}
use Rattle.row_core.specs.declared.entry.Patch.{Patch}
use Rattle.row_core.proofs.Lowest.{reduced_same, unfit_same}
use Rattle.problem_core.specs.declared.parts.Mark.{Mark}
use Rattle.problem_core.specs.declared.parts.Side.{Side}
use Rattle.problem_core.specs.Changes.Stops.{TableStop}
use Rattle.problem_core.specs.Layout.{Problem}
use Rattle.problem_core.specs.Corners.{IsCorner, Swap}
use Rattle.problem_core.specs.Rays.{HasRays}
use Rattle.corner_laws.specs.Units.{IsLevelUnit}
use Rattle.corner_lines.specs.Levels.LevelRows.{HasLevelRow}
use Rattle.problem_core.specs.Levels.{HasNoLevelWriting, IsCostAt}
use Rattle.corner_view.specs.Stops.{IsUnfitStop}
use Rattle.corner_lines.specs.LineEquations.{deviation, sign_of}
use Rattle.corner_lines.specs.Levels.LevelCosts.{HasDeviation}
use Rattle.corner_lines.specs.Levels.LevelFits.{IsFittingRow}
use Rattle.corner_lines.proofs.Costs.LevelCosts.{exchanged_cost_is_cost, unfit_exchanged_cost}
use Rattle.corner_lines.proofs.Costs.LevelFits.{reduced-by, reduced_by, unfit_row_has_no_writing}
use Rattle.corner_lines.proofs.LevelRows.LevelRests.{all_rows_have_joined}
use Rattle.corner_lines.proofs.LevelRows.LevelSound.{whole_is_sound}
use Rattle.corner_lines.proofs.Lines.LineWritings.{line_value}
use Rattle.corner_exchange.specs.declared.exchange.Pivot.{Pivot}
use Rattle.corner_writings.specs.declared.levels.fitting.Draft.{Draft}
use Rattle.corner_writings.specs.declared.levels.Pair.{Pair}
use Rattle.corner_table.specs.declared.table.TheConstants.{LEVELS}
use Rattle.corner_table.specs.Tables.{Lists, entry, marks_at, number, priority_at, problem_of, row_at, standing_at}
use Rattle.corner_table.specs.Kept.{IsKept, level_own}
use Rattle.corner_exchange.specs.Swaps.Exchanges.{AreOutsideAfter, IsChangeOf, IsLevelBy, IsPair, IsPivotAt, marks_after, signed, solved}
use Rattle.corner_writings.specs.Rows.{row_number}
use Rattle.corner_writings.specs.Fitting.{AreSidesAfter, HasFittingRow, HasNoFittingRow, drafted}
use Rattle.corner_exchange.specs.Swaps.LevelChanges.{IsLevelValue, IsStopOf, entering_at, leaving_at, level_sum}
use Rattle.corner_exchange.proofs.Pivots.PairFacts.{leave_equation, pair_exchange, pair_rays}
use Rattle.corner_exchange.proofs.Pivots.PivotFacts.{leave_within}
use Rattle.corner_exchange.proofs.Basics.SumTurns.{turn}
use Rattle.corner_exchange.proofs.Pivots.LineSlots.{below_slots}
use Rattle.corner_exchange.proofs.LevelFacts.LevelCounts.{IsAtLevel}
use Rattle.corner_exchange.proofs.LevelFacts.LevelTerms.{fitting_numbers}
use Rattle.corner_exchange.proofs.Pivots.LevelSwaps.{IsLevelPair, enter_out, enter_high, leave_high, leaving_numbers, level_entering, level_exchange, pivot_level, pivot_sign, row_after, row_unfit, size_of, sum_columns}
use Rattle.corner_exchange.proofs.Swaps.SwapSides.{pair_swap, sides_after}
use Rattle.corner_writings.proofs.LevelFacts.LevelReadFacts.{fit-right as unit-most}
use Rattle.corner_exchange.proofs.Basics.RowEquations.{some-whole as some_whole}
use Rattle.frac_core.proofs.Numbers.{neg-times}
use Rattle.frac_core.proofs.Products.{above_zero as positive-pos}

-- ---- the cost

cost-num : (cost pv : Fraction) (c d : ℤ) (side : Side) (w : ℕ) → d ≡ pos w → sum_num cost (neg_ℤ (c *ℤ sign_of side)) d pv ≡ sum_num cost (neg_ℤ c) (pos w) (turn side pv)
cost-num cost pv c d side w e =
    let a : ℤ = pos cost.den in
    let moved : neg_ℤ (c *ℤ sign_of side) *ℤ (pv.num *ℤ a) ≡ neg_ℤ c *ℤ ((sign_of side *ℤ pv.num) *ℤ a) =
    ap (λ (z : ℤ). z *ℤ (pv.num *ℤ a)) (sym (neg-times c (sign_of side))) ∙ mul_assoc_ℤ (neg_ℤ c) (sign_of side) (pv.num *ℤ a) ∙ ap (λ (z : ℤ). neg_ℤ c *ℤ z) (sym (mul_assoc_ℤ (sign_of side) pv.num a)) in
    ap₂ (λ (x y : ℤ). cost.num *ℤ (x *ℤ pos pv.den) +ℤ y) e moved

cost-ratio : (cost pv f : Fraction) (c d : ℤ) (side : Side) (w : ℕ) → d ≡ pos w → IsRatio f (sum_num cost (neg_ℤ (c *ℤ sign_of side)) d pv) (sum_den cost d pv) → IsRatio f (sum_num cost (neg_ℤ c) (pos w) (turn side pv)) (sum_den cost (pos w) (turn side pv))
cost-ratio cost pv f c d side w e ratio =
    subst (λ (z : ℤ). IsRatio f z (sum_den cost (pos w) (turn side pv))) (cost-num cost pv c d side w e)
    (subst (λ (z : ℤ). IsRatio f (sum_num cost (neg_ℤ (c *ℤ sign_of side)) d pv) (pos cost.den *ℤ (z *ℤ pos pv.den))) e ratio)

ratio-cost : (cost pv f : Fraction) (c d : ℤ) (side : Side) (w : ℕ) → d ≡ pos w → IsRatio f (sum_num cost (neg_ℤ c) (pos w) (turn side pv)) (sum_den cost (pos w) (turn side pv)) → IsRatio f (sum_num cost (neg_ℤ (c *ℤ sign_of side)) d pv) (sum_den cost d pv)
ratio-cost cost pv f c d side w e ratio =
    subst (λ (z : ℤ). IsRatio f z (sum_den cost d pv)) (sym (cost-num cost pv c d side w e))
    (subst (λ (z : ℤ). IsRatio f (sum_num cost (neg_ℤ c) (pos w) (turn side pv)) (pos cost.den *ℤ (z *ℤ pos pv.den))) (sym e) ratio)

whole-is : (t : Lists) (l unit own : ℕ) → IsAtLevel t l unit own → level_own t l *ℤ (priority_at t l).unit ≡ pos (own * unit)
whole-is t l unit own level = ap₂ ◌*ℤ◌ level.own_is level.unit_is

pub cost_above : (t : Lists) (l : ℕ) → IsKept t → l < LEVELS → 0 < (standing_at t l).value.den
cost_above t l kept low =
    let levels = kept.slots.levels in
    let standings = kept.slots.standings in
    let within : l < length t.standings = omega (arith, low, levels, standings) in
    (kept.values l (record { side = None; value = record { num = pos 0; den = 1 } }) within).lowest.above

pub enter_deviation : (t : Lists) (pivot : Pivot) (s : Swap) → IsKept t → IsPivotAt t pivot s → HasDeviation (problem_of t) (marks_after t s) s.enter.row (turn s.enter.side pivot.value)
enter_deviation t pivot s kept at =
    line_value (problem_of t) (marks_after t s) (deviation s.enter.row) (size_of t pivot.pair) (solved t pivot.pair) (sign_of s.enter.side *ℤ pivot.value.num) pivot.value.den kept.whole (pair_exchange t pivot.pair s kept at.pair).corner at.line

side-is : (t : Lists) (pivot : Pivot) (s : Swap) → IsPivotAt t pivot s → pivot.pair.side ≡ s.enter.side
side-is t pivot s at = sym at.pair.enter_side

pub value_after : (t : Lists) (pivot : Pivot) (s : Swap) (l unit own : ℕ) (f : Fraction) → IsLevelPair t pivot.pair s l unit own → IsPivotAt t pivot s → IsLevelValue t pivot l f → IsCostAt (problem_of t) (marks_after t s) l f
value_after t pivot s l unit own f h at ratio =
    let eq = leave_equation t pivot.pair s h.kept h.pair_is in
    let cost : Fraction = (standing_at t l).value in
    let there = subst (λ (d : Side). IsRatio f (sum_num cost (neg_ℤ (entering_at t pivot.pair l *ℤ sign_of d)) (level_own t l *ℤ (priority_at t l).unit) pivot.value) (sum_den cost (level_own t l *ℤ (priority_at t l).unit) pivot.value)) (side-is t pivot s at) ratio in
    exchanged_cost_is_cost (problem_of t) (marks_at t) s l unit own (size_of t pivot.pair) (number t l) (λ name. pivot_sign t pivot.pair *ℤ leaving_numbers t pivot.pair s eq.0 name) (neg_ℤ (entering_at t pivot.pair l)) cost (turn s.enter.side pivot.value) f
    (level_exchange t pivot.pair s l unit own h) h.level.least (enter_out t pivot.pair s h.pair_is) (level_entering t pivot.pair s l unit own h) h.level.cost (enter_deviation t pivot s h.kept at)
    (record {
      cost_den = cost_above t l h.kept h.low;
      value_den = at.lowest.above;
      ratio = cost-ratio cost pivot.value f (entering_at t pivot.pair l) (level_own t l *ℤ (priority_at t l).unit) s.enter.side (own * unit) (whole-is t l unit own h.level) there;
    })

abbrev pub IsUnfitLevelCost : Lists → Pivot → ℕ → Type 0
IsUnfitLevelCost t pivot l = IsUnfitRatio
    (sum_num (standing_at t l).value (neg_ℤ (entering_at t pivot.pair l *ℤ sign_of pivot.pair.side)) (level_own t l *ℤ (priority_at t l).unit) pivot.value)
    (sum_den (standing_at t l).value (level_own t l *ℤ (priority_at t l).unit) pivot.value)

pub value_unfit : (t : Lists) (pivot : Pivot) (s : Swap) (l unit own : ℕ) → IsLevelPair t pivot.pair s l unit own → IsPivotAt t pivot s → IsUnfitLevelCost t pivot l → HasNoLevelWriting (problem_of t) (marks_after t s) l
value_unfit t pivot s l unit own h at unfit =
    let eq = leave_equation t pivot.pair s h.kept h.pair_is in
    let cost : Fraction = (standing_at t l).value in
    unfit_exchanged_cost (problem_of t) (marks_at t) s l unit own (size_of t pivot.pair) (number t l) (λ name. pivot_sign t pivot.pair *ℤ leaving_numbers t pivot.pair s eq.0 name) (neg_ℤ (entering_at t pivot.pair l)) cost (turn s.enter.side pivot.value)
    (level_exchange t pivot.pair s l unit own h) h.level.least (enter_out t pivot.pair s h.pair_is) (level_entering t pivot.pair s l unit own h) h.level.cost (enter_deviation t pivot s h.kept at)
    (λ f lowest ratio fits. unfit f lowest
    (subst (λ (d : Side). IsRatio f (sum_num cost (neg_ℤ (entering_at t pivot.pair l *ℤ sign_of d)) (level_own t l *ℤ (priority_at t l).unit) pivot.value) (sum_den cost (level_own t l *ℤ (priority_at t l).unit) pivot.value)) (sym (side-is t pivot s at))
    (ratio-cost cost pivot.value f (entering_at t pivot.pair l) (level_own t l *ℤ (priority_at t l).unit) s.enter.side (own * unit) (whole-is t l unit own h.level) ratio)) fits)

-- ---- what fits

-- all rows of the level have joined
pub all_drafted : (t : Lists) (draft : Draft) → IsKept t → draft.level < LEVELS → draft.rows ≡ (priority_at t draft.level).rows → drafted t draft ≡ problem_of t
all_drafted t draft kept low e =
    all_rows_have_joined (problem_of t) draft.level draft.rows
    (let rows = (kept.levels draft.level low).rows in omega (arith, e, rows))

pub level_by : (t : Lists) (pair : Pair) (at : List Mark) (unit low : ℕ) (row : List Term) (f : Fraction) (draft : Draft) → IsKept t → draft.level < LEVELS → draft.rows ≡ (priority_at t draft.level).rows → draft.unit ≡ (priority_at t draft.level).unit
    → (priority_at t draft.level).unit ≡ pos unit → coefficient draft.level row ≡ pos low → (h : HasLevelRow (problem_of t) at draft.level unit low (row_number t draft.level row)) → AreSidesAfter t draft.pair at → IsCostAt (problem_of t) at draft.level f → HasFittingRow t draft row
    → IsLevelBy t at draft.level row f
level_by t pair at unit low row f draft kept lt rows units unit_is own_is h sides cost fits =
    let fit : IsFittingRow (problem_of t) at draft.level unit low (row_number t draft.level row) =
    subst (λ (p : Problem). IsFittingRow p at draft.level unit low (row_number t draft.level row)) (all_drafted t draft kept lt rows) (fits at unit low (record { unit_is = units ∙ unit_is; own_is = own_is; sides = sides })) in
    let sound = whole_is_sound (problem_of t) kept.whole in
    record {
      unit = unit;
      own = low;
      unit_is = unit_is;
      own_is = own_is;
      by = h.by;
      reduced = reduced_by (problem_of t) draft.level unit low h.by;
      level_row = h.row;
      outside = h.outside;
      reduced_by = reduced-by (problem_of t) draft.level unit low h.by sound;
      fits = fitting_numbers (problem_of t) at draft.level unit low h.by (row_number t draft.level row) sound h.row h.outside fit;
      cost_is = cost;
    }

pub level_unfit : (t : Lists) (pair : Pair) (at : List Mark) (unit low : ℕ) (row : List Term) (f : Fraction) (draft : Draft) → IsKept t → draft.level < LEVELS → draft.rows ≡ (priority_at t draft.level).rows → draft.unit ≡ (priority_at t draft.level).unit
    → (priority_at t draft.level).unit ≡ pos unit → coefficient draft.level row ≡ pos low → HasLevelRow (problem_of t) at draft.level unit low (row_number t draft.level row) → AreSidesAfter t draft.pair at → IsCostAt (problem_of t) at draft.level f → IsLowest f → HasNoFittingRow t draft row
    → IsCorner (problem_of t) at → HasRays (problem_of t) at → IsLevelUnit (problem_of t) draft.level unit → HasNoLevelWriting (problem_of t) at draft.level
level_unfit t pair at unit low row f draft kept lt rows units unit_is own_is h sides cost lowest unfit corner rays least =
    unfit_row_has_no_writing (problem_of t) at draft.level unit low (row_number t draft.level row) f
    (record { sound = whole_is_sound (problem_of t) kept.whole; corner = corner; rays = rays; unit_is = least; row = h; cost_is = cost; lowest = lowest })
    (λ fit fits. unfit at unit low (record { unit_is = units ∙ unit_is; own_is = own_is; sides = sides })
    (subst (λ (p : Problem). IsFittingRow p at draft.level unit low (row_number t draft.level row)) (sym (all_drafted t draft kept lt rows)) fit))

-- ---- the stop

pub level_stop : (t : Lists) (at : List Mark) (l : ℕ) (stop : TableStop) → l < LEVELS → IsStopOf l stop → HasNoLevelWriting (problem_of t) at l → IsUnfitStop (problem_of t) at stop
level_stop t at l stop low e none = subst (λ (k : TableStop). IsUnfitStop (problem_of t) at k) (sym e) (l, omega (arith, low), none)

-- what the code makes of the row: want of memory, or a stop that names the level
pub row_stop : (t : Lists) (pivot : Pivot) (l : ℕ) (stop : TableStop) → IsKept t → l < LEVELS → (priority_at t l).rows ≢ 0 → IsStopOf l stop → IsUnfit (level_sum t pivot.pair l) → (s : Swap) → IsPivotAt t pivot s → IsUnfitStop (problem_of t) (marks_after t s) stop
row_stop t pivot l stop kept low some e unfit s at =
    let start = pivot_level t pivot s l kept at low some in
    level_stop t (marks_after t s) l stop low e (row_unfit t pivot.pair s l start.0 start.1 start.2 unfit)

pub value_stop : (t : Lists) (pivot : Pivot) (l : ℕ) (stop : TableStop) → IsKept t → l < LEVELS → (priority_at t l).rows ≢ 0 → IsStopOf l stop → IsUnfitLevelCost t pivot l → (s : Swap) → IsPivotAt t pivot s → IsUnfitStop (problem_of t) (marks_after t s) stop
value_stop t pivot l stop kept low some e unfit s at =
    let start = pivot_level t pivot s l kept at low some in
    level_stop t (marks_after t s) l stop low e (value_unfit t pivot s l start.0 start.1 start.2 at unfit)

-- ---- the change

pub level_outside : (t : Lists) (pair : Pair) (s : Swap) (l : ℕ) (row : List Term) → IsKept t → IsPair t pair s → IsReduced row (level_sum t pair l) → AreOutsideAfter t pair l row
level_outside t pair s l row kept are red c some ne = sum_columns t pair s l c kept are (some_whole red.factor (coefficient c row) (level_sum t pair l c) red.above (red.same c) some) ne

level-within : (t : Lists) (l : ℕ) → IsKept t → l < LEVELS → l < length t.slots
level-within t l kept low = let levels = kept.slots.levels in omega (arith, low, levels)

-- the draft that the code makes
pub record IsDraftOf (t : Lists) (pivot : Pivot) (l : ℕ) (draft : Draft) : Type 0 where
  pub level_is : draft.level ≡ l
  pub rows_is : draft.rows ≡ (priority_at t l).rows
  pub unit_is : draft.unit ≡ (priority_at t l).unit
  pub pair_is : draft.pair ≡ pivot.pair

pub change_after : (t : Lists) (pivot : Pivot) (s : Swap) (l : ℕ) (row : List Term) (f : Fraction) (draft : Draft) → IsKept t → IsPivotAt t pivot s → l < LEVELS → (priority_at t l).rows ≢ 0 → IsDraftOf t pivot l draft
    → IsKeptRow row → IsReduced row (level_sum t pivot.pair l) → IsLevelValue t pivot l f → HasFittingRow t draft row → IsChangeOf t pivot.pair s (record { at = l; row = row; value = f })
change_after t pivot s l row f draft kept at low some is kept_row red value fits =
    let start = pivot_level t pivot s l kept at low some in
    let h = start.2 in
    let r = row_after t pivot.pair s l start.0 start.1 row h kept_row.lowest red in
    let outside = level_outside t pivot.pair s l row kept at.pair red in
    let within = level-within t l kept low in
    let high = enter_high t pivot.pair s kept at.pair in
    let leave = leave_high t pivot.pair s kept at.pair in
    record {
      within = within;
      not_enter = λ e. omega (arith, e, low, high);
      not_leave = λ e. omega (arith, e, low, leave);
      below = below_slots t pivot.pair l row within (leave_within t pivot.pair s kept.slots at.pair) kept_row.lowest outside;
      outside = outside;
      row_is = (
        (λ lt. subst (λ (k : ℕ). IsLevelBy t (marks_after t s) k row f) is.level_is
            (level_by t pivot.pair (marks_after t s) start.0 r.0 row f draft kept (subst (λ (k : ℕ). k < LEVELS) (sym is.level_is) low) (is.rows_is ∙ ap (λ (k : ℕ). (priority_at t k).rows) (sym is.level_is)) (is.unit_is ∙ ap (λ (k : ℕ). (priority_at t k).unit) (sym is.level_is))
            (ap (λ (k : ℕ). (priority_at t k).unit) is.level_is ∙ h.level.unit_is) (ap (λ (k : ℕ). coefficient k row) is.level_is ∙ r.1)
            (subst (λ (k : ℕ). HasLevelRow (problem_of t) (marks_after t s) k start.0 r.0 (row_number t k row)) (sym is.level_is) r.2)
            (subst (λ (p : Pair). AreSidesAfter t p (marks_after t s)) (sym is.pair_is) (sides_after t pivot.pair s kept (pair_swap t pivot.pair s at.pair)))
            (subst (λ (k : ℕ). IsCostAt (problem_of t) (marks_after t s) k f) (sym is.level_is) (value_after t pivot s l start.0 start.1 f h at value)) fits)),
        (λ le. absurd (omega (arith, low, le))),
      );
      some = λ lt. some;
    }

pub draft_unfit : (t : Lists) (pivot : Pivot) (s : Swap) (l : ℕ) (row : List Term) (f : Fraction) (draft : Draft) → IsKept t → IsPivotAt t pivot s → l < LEVELS → (priority_at t l).rows ≢ 0 → IsDraftOf t pivot l draft
    → IsKeptRow row → IsReduced row (level_sum t pivot.pair l) → IsLevelValue t pivot l f → IsLowest f → HasNoFittingRow t draft row → HasNoLevelWriting (problem_of t) (marks_after t s) l
draft_unfit t pivot s l row f draft kept at low some is kept_row red value lowest unfit =
    let start = pivot_level t pivot s l kept at low some in
    let h = start.2 in
    let r = row_after t pivot.pair s l start.0 start.1 row h kept_row.lowest red in
    subst (λ (k : ℕ). HasNoLevelWriting (problem_of t) (marks_after t s) k) is.level_is
    (level_unfit t pivot.pair (marks_after t s) start.0 r.0 row f draft kept (subst (λ (k : ℕ). k < LEVELS) (sym is.level_is) low) (is.rows_is ∙ ap (λ (k : ℕ). (priority_at t k).rows) (sym is.level_is)) (is.unit_is ∙ ap (λ (k : ℕ). (priority_at t k).unit) (sym is.level_is))
    (ap (λ (k : ℕ). (priority_at t k).unit) is.level_is ∙ h.level.unit_is) (ap (λ (k : ℕ). coefficient k row) is.level_is ∙ r.1)
    (subst (λ (k : ℕ). HasLevelRow (problem_of t) (marks_after t s) k start.0 r.0 (row_number t k row)) (sym is.level_is) r.2)
    (subst (λ (p : Pair). AreSidesAfter t p (marks_after t s)) (sym is.pair_is) (sides_after t pivot.pair s kept (pair_swap t pivot.pair s at.pair)))
    (subst (λ (k : ℕ). IsCostAt (problem_of t) (marks_after t s) k f) (sym is.level_is) (value_after t pivot s l start.0 start.1 f h at value)) lowest unfit
    (pair_exchange t pivot.pair s kept at.pair).corner (pair_rays t pivot.pair s kept at.pair) (subst (λ (k : ℕ). IsLevelUnit (problem_of t) k start.0) (sym is.level_is) h.level.least))

-- ---- the scale

kept-scale : (t : Lists) (l : ℕ) (h : IsKept t) (low : l < LEVELS) → level_own t l *ℤ (priority_at t l).unit ≡ pos ((h.levels l low).own * (h.levels l low).unit)
kept-scale t l h low = ap₂ ◌*ℤ◌ (h.levels l low).own_is (h.levels l low).unit_is

pub scale_fits : (t : Lists) (l : ℕ) → IsKept t → l < LEVELS → IsFitting (level_own t l *ℤ (priority_at t l).unit)
scale_fits t l kept low = subst IsFitting (sym (kept-scale t l kept low)) (kept.levels l low).numbers.fits.scale_fits

pub scale_above : (t : Lists) (l : ℕ) → IsKept t → l < LEVELS → pos 0 <ℤ (level_own t l *ℤ (priority_at t l).unit)
scale_above t l kept low =
    let k = kept.levels l low in
    subst (λ (z : ℤ). pos 0 <ℤ z) (sym (kept-scale t l kept low)) (positive-pos (k.own * k.unit) (mul-pos k.numbers.row.own_positive k.least.above))

pub unit_above : (t : Lists) (l : ℕ) → IsKept t → l < LEVELS → pos 0 <ℤ (priority_at t l).unit
unit_above t l kept low = let k = kept.levels l low in subst (λ (z : ℤ). pos 0 <ℤ z) (sym k.unit_is) (positive-pos k.unit k.least.above)

pub unit_fits : (t : Lists) (l : ℕ) → IsKept t → l < LEVELS → IsFitting (priority_at t l).unit
unit_fits t l kept low = let k = kept.levels l low in subst IsFitting (sym k.unit_is) (unit-most k.own k.unit k.numbers.row.own_positive k.numbers.fits.scale_fits)

-- ---- as the code has it

pub minus_sign : (c s : ℤ) → (c *ℤ negsuc 0) *ℤ s ≡ neg_ℤ (c *ℤ s)
minus_sign c s = let e : c *ℤ negsuc 0 ≡ neg_ℤ c = omega (arith, ints) in ap (λ (z : ℤ). z *ℤ s) e ∙ neg-times c s

pub value_of : (t : Lists) (pivot : Pivot) (l : ℕ) (a f : Fraction) (n d : ℤ) → a ≡ (standing_at t l).value → n ≡ neg_ℤ (entering_at t pivot.pair l *ℤ sign_of pivot.pair.side) → d ≡ level_own t l *ℤ (priority_at t l).unit
    → IsRatio f (sum_num a n d pivot.value) (sum_den a d pivot.value) → IsLevelValue t pivot l f
value_of t pivot l a f n d e g h ratio =
    subst (λ (z : ℤ). IsRatio f (sum_num (standing_at t l).value (neg_ℤ (entering_at t pivot.pair l *ℤ sign_of pivot.pair.side)) z pivot.value) (sum_den (standing_at t l).value z pivot.value)) h
    (subst (λ (z : ℤ). IsRatio f (sum_num (standing_at t l).value z d pivot.value) (sum_den (standing_at t l).value d pivot.value)) g
    (subst (λ (u : Fraction). IsRatio f (sum_num u n d pivot.value) (sum_den u d pivot.value)) e ratio))

pub unfit_of : (t : Lists) (pivot : Pivot) (l : ℕ) (a : Fraction) (n d : ℤ) → a ≡ (standing_at t l).value → n ≡ neg_ℤ (entering_at t pivot.pair l *ℤ sign_of pivot.pair.side) → d ≡ level_own t l *ℤ (priority_at t l).unit
    → IsUnfitRatio (sum_num a n d pivot.value) (sum_den a d pivot.value) → IsUnfitLevelCost t pivot l
unfit_of t pivot l a n d e g h unfit =
    subst (λ (z : ℤ). IsUnfitRatio (sum_num (standing_at t l).value (neg_ℤ (entering_at t pivot.pair l *ℤ sign_of pivot.pair.side)) z pivot.value) (sum_den (standing_at t l).value z pivot.value)) h
    (subst (λ (z : ℤ). IsUnfitRatio (sum_num (standing_at t l).value z d pivot.value) (sum_den (standing_at t l).value d pivot.value)) g
    (subst (λ (u : Fraction). IsUnfitRatio (sum_num u n d pivot.value) (sum_den u d pivot.value)) e unfit))

-- the sum as the code makes it
pub record AreSumNumbers (t : Lists) (pair : Pair) (l : ℕ) (by : Factors) (but : Patch) (r p : List Term) : Type 0 where
  pub size : by.k ≡ pos (size_of t pair)
  pub number : by.n ≡ neg_ℤ (signed (entry t pair.leave pair.enter) (entering_at t pair l))
  pub without : but.without.0 ≡ pair.enter
  pub place : but.at.0 ≡ pair.leave
  pub extra : but.extra ≡ pos (size_of t pair) *ℤ leaving_at t pair l
  pub row : row_at t l ≡ r
  pub pivot : row_at t pair.leave ≡ p

pub sum_same : (t : Lists) (pair : Pair) (l : ℕ) (by : Factors) (but : Patch) (r p : List Term) → AreSumNumbers t pair l by but r p → (c : ℕ) → combination_but by r p but c ≡ level_sum t pair l c
sum_same t pair l by but r p is c =
    let x : ℤ = pos (size_of t pair) in
    let m : ℤ = neg_ℤ (signed (entry t pair.leave pair.enter) (entering_at t pair l)) in
    let e : ℤ = x *ℤ leaving_at t pair l in
    let first : combination by.k r by.n p c ≡ combination x (row_at t l) m (row_at t pair.leave) c =
    ap₂ (λ (k n : ℤ). combination k r n p c) is.size is.number ∙ ap₂ (λ (u v : List Term). combination x u m v c) (sym is.row) (sym is.pivot) in
    let last : cond (nat_eq c but.at.0) but.extra (pos 0) ≡ cond (nat_eq c pair.leave) e (pos 0) = ap₂ (λ (k : ℕ) (z : ℤ). cond (nat_eq c k) z (pos 0)) is.place is.extra in
    ap₂ (λ (k : ℕ) (z : ℤ). cond (nat_eq c k) (pos 0) z) is.without (ap₂ ◌+ℤ◌ first last)

pub sum_reduced : (t : Lists) (pair : Pair) (l : ℕ) (by : Factors) (but : Patch) (r p row : List Term) → AreSumNumbers t pair l by but r p → IsReduced row (combination_but by r p but) → IsReduced row (level_sum t pair l)
sum_reduced t pair l by but r p row is red = reduced_same row (combination_but by r p but) (level_sum t pair l) (sum_same t pair l by but r p is) red

pub sum_unfit : (t : Lists) (pair : Pair) (l : ℕ) (by : Factors) (but : Patch) (r p : List Term) → AreSumNumbers t pair l by but r p → IsUnfit (combination_but by r p but) → IsUnfit (level_sum t pair l)
sum_unfit t pair l by but r p is unfit = unfit_same (combination_but by r p but) (level_sum t pair l) (sum_same t pair l by but r p is) unfit
