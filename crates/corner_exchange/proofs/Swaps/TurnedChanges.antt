-- The change of a line's level where the line turns, as the code makes it.
use Rattle.std.proofs.Common.{◌≡◌, ◌≢◌, ◌∙◌, inl, inr, ℕ, ◌<◌, Bool, true, false, cond, nat_eq, List, get_or, length, refl, sym, ap, ap₂, subst, arith, ℤ, pos, neg_ℤ, ◌+ℤ◌, ◌*ℤ◌, unsigned_abs}
use Rattle.std.proofs.lemmas.Bool.{cases_eq}
use Rattle.frac_core.specs.Fraction as fractions
use Rattle.frac_core.specs.Fraction.{Fraction, IsFitting, IsRatio, IsUnfitRatio, sum_den, sum_num}
use Rattle.frac_core.specs.declared.frac.TheConstants.{PART_BOUND}
use Rattle.frac_core.proofs.Integers.{add-zero_ℤ}
use Rattle.row_core.specs.Rows.{Term, coefficient, combination, IsKeptRow, IsLowestRow, IsReduced, IsUnfit}
use Rattle.row_core.specs.Combinations.{combination_but}
use Rattle.row_core.specs.declared.entry.Factors.{Factors}
use Rattle.row_core.specs.declared.entry.Patch.{Patch}
use Rattle.row_core.proofs.Lowest.{reduced_same, unfit_same}
use Rattle.row_core.proofs.Places.{coefficient_at}
use Rattle.version_lists.specs.Matrices.{IsBelow}
use Rattle.problem_core.specs.declared.parts.Side.{Side}
use Rattle.problem_core.specs.Changes.Stops.{TableStop}
use Rattle.problem_core.specs.Corners.{Swap}
use Rattle.problem_core.specs.Levels.{HasNoLevelWriting, IsCostAt}
use Rattle.corner_laws.specs.Units.{IsLevelUnit}
use Rattle.corner_lines.specs.LineEquations.{sign_of}
use Rattle.corner_lines.specs.Levels.LevelRows.{HasLevelRow}
use Rattle.corner_writings.specs.declared.levels.fitting.Draft.{Draft}
use Rattle.corner_writings.specs.declared.levels.Pair.{Pair}
use Rattle.corner_table.specs.declared.table.TheConstants.{LEVELS}
use Rattle.corner_table.specs.Tables.{Lists, entry, priority_at, problem_of, row_at, slot_at, standing_at}
use Rattle.corner_table.specs.Kept.{IsKept, level_own}
use Rattle.corner_table.specs.Reads.LevelNumbers.{IsSlotOfLine}
use Rattle.corner_view.specs.Stops.{IsUnfitStop}
use Rattle.corner_exchange.specs.Swaps.Exchanges.{IsLevelBy, marks_after}
use Rattle.corner_table.specs.Kept.{IsOutsideSlot}
use Rattle.corner_writings.specs.Rows.{row_number}
use Rattle.corner_writings.specs.Fitting.{AreSidesAfter, HasFittingRow, HasNoFittingRow}
use Rattle.corner_exchange.specs.Swaps.TurnedLevels.{IsHomeStop, IsTurn, IsTurnedLevel, IsTurnedValue, counts_at, turned_sum, turning_at}
use Rattle.corner_exchange.proofs.Pivots.PairFacts.{times-sign}
use Rattle.corner_writings.proofs.LevelFacts.LevelReadFacts.{named_line_slot, fit-right as without-own}
use Rattle.corner_exchange.proofs.LevelFacts.LevelCounts.{at_level, home_has_rows}
use Rattle.corner_exchange.proofs.Pivots.LevelCosts.{level_by, level_stop, level_unfit}
use Rattle.corner_exchange.proofs.Swaps.LevelTurns.{IsLevelTurn, IsUnfitTurnedCost, turn_exchange, turn_rays, turned_columns, turned_cost, turned_cost_unfit, turned_row, turned_unfit, turning_fits}
use Rattle.corner_exchange.proofs.Swaps.SwapSides.{sides_after, turn_pair, turn_swap}
use Rattle.corner_lines.proofs.LevelRows.StayRows.{turned-size}
use Rattle.corner_exchange.proofs.Basics.RowEquations.{some-whole as some_whole}

pub turn_line : (t : Lists) (line : ℕ) (side : Side) (s : Swap) → IsTurn t line side s → IsSlotOfLine t line
turn_line t line side s is = subst (IsSlotOfLine t) is.slot (named_line_slot t s.enter.row is.enters)

pub turn_start : (t : Lists) (line : ℕ) (side : Side) (s : Swap) (l : ℕ) → IsKept t → IsTurn t line side s → (slot_at t line).home < LEVELS → (slot_at t line).home ≡ l → (unit : ℕ) × (own : ℕ) × IsLevelTurn t line side s l unit own
turn_start t line side s l kept is low home =
    let there : l < LEVELS = subst (λ (k : ℕ). k < LEVELS) home low in
    let level = at_level t l kept there (subst (λ (k : ℕ). (priority_at t k).rows ≢ 0) home (home_has_rows t line kept (turn_line t line side s is) low)) in
    (level.0, level.1, record { kept = kept; turn_is = is; low = there; home = home; level = level.2 })

-- ---- how large the numbers are

pub turning_there : (t : Lists) (line : ℕ) (side : Side) (s : Swap) → IsKept t → IsTurn t line side s → (slot_at t line).home < LEVELS → IsFitting (turning_at t line side)
turning_there t line side s kept is low = let h = turn_start t line side s (slot_at t line).home kept is low refl in turning_fits t line side s (slot_at t line).home h.0 h.1 h.2

without-sign : (side : Side) (z : ℤ) → IsFitting (z *ℤ sign_of side) → IsFitting z
without-sign side z h = subst (λ (n : ℕ). n < PART_BOUND) (ap unsigned_abs (times-sign side z) ∙ turned-size side z) h

pub counted_there : (t : Lists) (line : ℕ) (side : Side) (s : Swap) → IsKept t → IsTurn t line side s → (slot_at t line).home < LEVELS → IsFitting (level_own t (slot_at t line).home *ℤ pos (counts_at t line))
counted_there t line side s kept is low = without-sign side (level_own t (slot_at t line).home *ℤ pos (counts_at t line)) (turning_there t line side s kept is low)

pub counts_there : (t : Lists) (line : ℕ) (side : Side) (s : Swap) → IsKept t → IsTurn t line side s → (slot_at t line).home < LEVELS → IsFitting (pos (counts_at t line))
counts_there t line side s kept is low =
    let h = turn_start t line side s (slot_at t line).home kept is low refl in
    without-own h.1 (counts_at t line) h.2.level.row.row.own_positive (subst (λ (z : ℤ). IsFitting (z *ℤ pos (counts_at t line))) h.2.level.own_is (counted_there t line side s kept is low))

-- ---- the row

-- the sum as the code makes it
pub record AreTurnNumbers (t : Lists) (line : ℕ) (side : Side) (by : Factors) (but : Patch) (r p : List Term) : Type 0 where
  pub size : by.k ≡ entry t line line
  pub number : by.n ≡ turning_at t line side
  pub without : but.without.0 ≡ line
  pub extra : but.extra ≡ pos 0
  pub row : row_at t (slot_at t line).home ≡ r
  pub own : row_at t line ≡ p

nothing-more : (b : Bool) (z : ℤ) → z ≡ pos 0 → cond b z (pos 0) ≡ pos 0
nothing-more true z e = e
nothing-more false z e = refl

turn-same : (t : Lists) (line : ℕ) (side : Side) (by : Factors) (but : Patch) (r p : List Term) → AreTurnNumbers t line side by but r p → (c : ℕ) → combination_but by r p but c ≡ turned_sum t line side c
turn-same t line side by but r p is c =
    let k : ℤ = entry t line line in
    let n : ℤ = turning_at t line side in
    let first : combination by.k r by.n p c ≡ combination k (row_at t (slot_at t line).home) n (row_at t line) c =
    ap₂ (λ (x y : ℤ). combination x r y p c) is.size is.number ∙ ap₂ (λ (u v : List Term). combination k u n v c) (sym is.row) (sym is.own) in
    ap₂ (λ (w : ℕ) (z : ℤ). cond (nat_eq c w) (pos 0) z) is.without
    (ap₂ ◌+ℤ◌ first (nothing-more (nat_eq c but.at.0) but.extra is.extra) ∙ add-zero_ℤ (combination k (row_at t (slot_at t line).home) n (row_at t line) c))

pub turn_reduced : (t : Lists) (line : ℕ) (side : Side) (by : Factors) (but : Patch) (r p row : List Term) → AreTurnNumbers t line side by but r p → IsReduced row (combination_but by r p but) → IsReduced row (turned_sum t line side)
turn_reduced t line side by but r p row is red = reduced_same row (combination_but by r p but) (turned_sum t line side) (turn-same t line side by but r p is) red

pub turn_row_stop : (t : Lists) (line : ℕ) (side : Side) (by : Factors) (but : Patch) (r p : List Term) (stop : TableStop) → IsKept t → (slot_at t line).home < LEVELS → IsHomeStop t line stop → AreTurnNumbers t line side by but r p → IsUnfit (combination_but by r p but)
    → (s : Swap) → IsTurn t line side s → IsUnfitStop (problem_of t) (marks_after t s) stop
turn_row_stop t line side by but r p stop kept low e is unfit s turn =
    let h = turn_start t line side s (slot_at t line).home kept turn low refl in
    level_stop t (marks_after t s) (slot_at t line).home stop low e (turned_unfit t line side s (slot_at t line).home h.0 h.1 h.2 (unfit_same (combination_but by r p but) (turned_sum t line side) (turn-same t line side by but r p is) unfit))

-- ---- the cost

pub turned_value_of : (t : Lists) (line l : ℕ) (a v f : Fraction) (n d : ℤ) → (slot_at t line).home ≡ l → a ≡ (standing_at t l).value → v ≡ (standing_at t line).value → n ≡ neg_ℤ (pos (counts_at t line)) → d ≡ (priority_at t l).unit
    → IsRatio f (sum_num a n d v) (sum_den a d v) → IsTurnedValue t line f
turned_value_of t line l a v f n d home e g k m ratio =
    let u : Fraction = (standing_at t line).value in
    let c : ℤ = neg_ℤ (pos (counts_at t line)) in
    subst (λ (w : ℕ). IsRatio f (sum_num (standing_at t w).value (neg_ℤ (pos (counts_at t line))) (priority_at t w).unit (standing_at t line).value) (sum_den (standing_at t w).value (priority_at t w).unit (standing_at t line).value)) (sym home)
    (subst (λ (z : ℤ). IsRatio f (sum_num (standing_at t l).value c z u) (sum_den (standing_at t l).value z u)) m
    (subst (λ (z : ℤ). IsRatio f (sum_num (standing_at t l).value z d u) (sum_den (standing_at t l).value d u)) k
    (subst (λ (x : Fraction). IsRatio f (sum_num (standing_at t l).value n d x) (sum_den (standing_at t l).value d x)) g
    (subst (λ (x : Fraction). IsRatio f (sum_num x n d v) (sum_den x d v)) e ratio))))

turned-unfit-of : (t : Lists) (line l : ℕ) (a v : Fraction) (n d : ℤ) → (slot_at t line).home ≡ l → a ≡ (standing_at t l).value → v ≡ (standing_at t line).value → n ≡ neg_ℤ (pos (counts_at t line)) → d ≡ (priority_at t l).unit
    → IsUnfitRatio (sum_num a n d v) (sum_den a d v) → IsUnfitTurnedCost t line
turned-unfit-of t line l a v n d home e g k m unfit =
    let u : Fraction = (standing_at t line).value in
    let c : ℤ = neg_ℤ (pos (counts_at t line)) in
    subst (λ (w : ℕ). IsUnfitRatio (sum_num (standing_at t w).value (neg_ℤ (pos (counts_at t line))) (priority_at t w).unit (standing_at t line).value) (sum_den (standing_at t w).value (priority_at t w).unit (standing_at t line).value)) (sym home)
    (subst (λ (z : ℤ). IsUnfitRatio (sum_num (standing_at t l).value c z u) (sum_den (standing_at t l).value z u)) m
    (subst (λ (z : ℤ). IsUnfitRatio (sum_num (standing_at t l).value z d u) (sum_den (standing_at t l).value d u)) k
    (subst (λ (x : Fraction). IsUnfitRatio (sum_num (standing_at t l).value n d x) (sum_den (standing_at t l).value d x)) g
    (subst (λ (x : Fraction). IsUnfitRatio (sum_num x n d v) (sum_den x d v)) e unfit))))

pub turn_cost_stop : (t : Lists) (line : ℕ) (side : Side) (l : ℕ) (a v : Fraction) (n d : ℤ) (stop : TableStop) → IsKept t → (slot_at t line).home < LEVELS → IsHomeStop t line stop
    → (slot_at t line).home ≡ l → a ≡ (standing_at t l).value → v ≡ (standing_at t line).value → n ≡ neg_ℤ (pos (counts_at t line)) → d ≡ (priority_at t l).unit
    → IsUnfitRatio (sum_num a n d v) (sum_den a d v) → (s : Swap) → IsTurn t line side s → IsUnfitStop (problem_of t) (marks_after t s) stop
turn_cost_stop t line side l a v n d stop kept low e home f g k m unfit s turn =
    let h = turn_start t line side s (slot_at t line).home kept turn low refl in
    level_stop t (marks_after t s) (slot_at t line).home stop low e (turned_cost_unfit t line side s (slot_at t line).home h.0 h.1 h.2 (turned-unfit-of t line l a v n d home f g k m unfit))

-- ---- the change

turned-outside : (t : Lists) (line : ℕ) (side : Side) (l : ℕ) (row : List Term) → IsKept t → (slot_at t line).home ≡ l → IsReduced row (turned_sum t line side) → (c : ℕ) → coefficient c row ≢ pos 0 → c ≢ l → IsOutsideSlot t c
turned-outside t line side l row kept home red c some ne = (turned_columns t line side l c kept home (some_whole red.factor (coefficient c row) (turned_sum t line side c) red.above (red.same c) some) ne).1

turned-below : (t : Lists) (l : ℕ) (row : List Term) → l < length t.slots → IsLowestRow row → ((c : ℕ) → coefficient c row ≢ pos 0 → c ≢ l → IsOutsideSlot t c) → IsBelow (length t.slots) row
turned-below t l row here lowest outside = λ i d within.
    elim (cases_eq (get_or row i d).col l) [
      | inl e ↦ subst (λ n. n < length t.slots) (sym e) here
      | inr ne ↦ (outside (get_or row i d).col (λ z. lowest.nonzero i d within (sym (coefficient_at row i d lowest.rising within) ∙ z)) ne).0.1
    ]

-- the draft that the code makes
pub record IsTurnDraft (t : Lists) (line : ℕ) (side : Side) (l : ℕ) (draft : Draft) : Type 0 where
  pub level_is : draft.level ≡ l
  pub rows_is : draft.rows ≡ (priority_at t l).rows
  pub unit_is : draft.unit ≡ (priority_at t l).unit
  pub pair_is : draft.pair ≡ turn_pair line side

pub turned_change : (t : Lists) (line : ℕ) (side : Side) (s : Swap) (l : ℕ) (row : List Term) (f : Fraction) (draft : Draft) → IsKept t → IsTurn t line side s → (slot_at t line).home < LEVELS → (slot_at t line).home ≡ l → IsTurnDraft t line side l draft
    → IsKeptRow row → fractions.IsKept f → IsReduced row (turned_sum t line side) → IsTurnedValue t line f → HasFittingRow t draft row → IsTurnedLevel t line s (record { at = l; row = row; value = f })
turned_change t line side s l row f draft kept turn low home is kept_row kept_value red value fits =
    let start = turn_start t line side s l kept turn low home in
    let h = start.2 in
    let r = turned_row t line side s l start.0 start.1 row h kept_row.lowest red in
    let outside = turned-outside t line side l row kept home red in
    let there = h.low in
    let levels = kept.slots.levels in
    let within : l < length t.slots = omega (arith, there, levels) in
    record {
      level = sym home;
      below = turned-below t l row within kept_row.lowest outside;
      kept = kept_row;
      value_kept = kept_value;
      outside = outside;
      level_is = subst (λ (k : ℕ). IsLevelBy t (marks_after t s) k row f) is.level_is
          (level_by t (turn_pair line side) (marks_after t s) start.0 r.0 row f draft kept (subst (λ (k : ℕ). k < LEVELS) (sym is.level_is) h.low) (is.rows_is ∙ ap (λ (k : ℕ). (priority_at t k).rows) (sym is.level_is)) (is.unit_is ∙ ap (λ (k : ℕ). (priority_at t k).unit) (sym is.level_is))
          (ap (λ (k : ℕ). (priority_at t k).unit) is.level_is ∙ h.level.unit_is) (ap (λ (k : ℕ). coefficient k row) is.level_is ∙ r.1)
          (subst (λ (k : ℕ). HasLevelRow (problem_of t) (marks_after t s) k start.0 r.0 (row_number t k row)) (sym is.level_is) r.2)
          (subst (λ (p : Pair). AreSidesAfter t p (marks_after t s)) (sym is.pair_is) (sides_after t (turn_pair line side) s kept (turn_swap t line side s turn)))
          (subst (λ (k : ℕ). IsCostAt (problem_of t) (marks_after t s) k f) (sym is.level_is) (turned_cost t line side s l start.0 start.1 f h value)) fits);
    }

pub turn_draft_stop : (t : Lists) (line : ℕ) (side : Side) (s : Swap) (l : ℕ) (row : List Term) (f : Fraction) (draft : Draft) (stop : TableStop) → IsKept t → IsTurn t line side s → (slot_at t line).home < LEVELS → (slot_at t line).home ≡ l → IsTurnDraft t line side l draft → IsHomeStop t line stop
    → IsKeptRow row → fractions.IsKept f → IsReduced row (turned_sum t line side) → IsTurnedValue t line f → HasNoFittingRow t draft row → IsUnfitStop (problem_of t) (marks_after t s) stop
turn_draft_stop t line side s l row f draft stop kept turn low home is e kept_row kept_value red value unfit =
    let start = turn_start t line side s l kept turn low home in
    let h = start.2 in
    let r = turned_row t line side s l start.0 start.1 row h kept_row.lowest red in
    let none : HasNoLevelWriting (problem_of t) (marks_after t s) draft.level =
    level_unfit t (turn_pair line side) (marks_after t s) start.0 r.0 row f draft kept (subst (λ (k : ℕ). k < LEVELS) (sym is.level_is) h.low) (is.rows_is ∙ ap (λ (k : ℕ). (priority_at t k).rows) (sym is.level_is)) (is.unit_is ∙ ap (λ (k : ℕ). (priority_at t k).unit) (sym is.level_is))
    (ap (λ (k : ℕ). (priority_at t k).unit) is.level_is ∙ h.level.unit_is) (ap (λ (k : ℕ). coefficient k row) is.level_is ∙ r.1)
    (subst (λ (k : ℕ). HasLevelRow (problem_of t) (marks_after t s) k start.0 r.0 (row_number t k row)) (sym is.level_is) r.2)
    (subst (λ (p : Pair). AreSidesAfter t p (marks_after t s)) (sym is.pair_is) (sides_after t (turn_pair line side) s kept (turn_swap t line side s turn)))
    (subst (λ (k : ℕ). IsCostAt (problem_of t) (marks_after t s) k f) (sym is.level_is) (turned_cost t line side s l start.0 start.1 f h value)) kept_value.lowest unfit
    (turn_exchange t line side s kept turn).corner (turn_rays t line side s kept turn) (subst (λ (k : ℕ). IsLevelUnit (problem_of t) k start.0) (sym is.level_is) h.level.least) in
    level_stop t (marks_after t s) (slot_at t line).home stop low e (subst (λ (k : ℕ). HasNoLevelWriting (problem_of t) (marks_after t s) k) (is.level_is ∙ sym home) none)
