-- What a level costs where a row has left it.
use Rattle.std.proofs.Common.{◌≡◌, ◌≢◌, ◌∙◌, ℕ, ◌+◌, ◌-◌, ◌*◌, ◌<◌, ◌≤◌, Bool, true, false, cond, nat_eq, List, [], ◌∷◌, length, refl, sym, ap, subst, arith, inl, inr, ℤ, pos, neg_ℤ, ◌*ℤ◌, All, eq-eqb, ne_eqb, get_or}
use Rattle.std.specs.List.{AllByRecursion as Each, filter}
use Rattle.std.proofs.lemmas.List.Elements.{All-from_recursion}
use borrow.Author.Differences.{ints}
use Rattle.frac_core.specs.Fraction.{Fraction, IsRatio, IsUnfitRatio, sum_den, sum_num}
use Rattle.frac_core.specs.Fraction as fractions
use Rattle.row_core.specs.Rows.{Term, coefficient, IsKeptRow}
use Rattle.version_lists.proofs.Indexing.{none_kept}
use Rattle.problem_core.specs.declared.parts.Side.{Side}
use Rattle.problem_core.specs.declared.parts.Side.TheVariants.{Under, Over}
use Rattle.problem_core.specs.declared.parts.Level.TheVariants.{Priority as PriorityLevel}
use Rattle.problem_core.specs.declared.parts.RowName.TheVariants.{Held}
use Rattle.problem_core.specs.declared.stops.What.TheVariants.{Level as LevelOf}
use Rattle.problem_core.specs.declared.stops.Quantity.TheVariants.{Plain}
use Rattle.problem_core.specs.Changes.Stops.{TableStop}
use Rattle.frac_core.specs.declared.memory.Stop.TheVariants.{Refused}
use Rattle.problem_core.specs.Layout.{Line, Row, line_of_row, lines, stay_lines}
use Rattle.problem_core.specs.Certificates.{weight_at}
use Rattle.problem_core.specs.Levels.{HasNoLevelWriting, IsCostAt}
use Rattle.problem_core.specs.Window.{zero_fraction}
use Rattle.problem_core.specs.Changes.Begins.{without_marks}
use Rattle.problem_core.proofs.Forms.{each-impl}
use Rattle.corner_laws.specs.Units.{IsLevelUnit}
use Rattle.corner_lines.specs.LineEquations.{sign_of}
use Rattle.corner_lines.specs.Levels.LevelJoins.{level_count}
use Rattle.corner_lines.specs.Levels.LevelRows.{inside_number}
use Rattle.corner_lines.specs.Removals.{without_row}
use Rattle.corner_lines.proofs.Costs.LevelFits.{reduced-by, reduced_by, small_row_fits}
use Rattle.corner_lines.proofs.Costs.LevelJoinCosts.{left_cost_is_cost}
use Rattle.corner_lines.proofs.LevelRows.LevelJoins.{empty_level_has_row}
use Rattle.corner_lines.proofs.LevelRows.LevelSound.{whole_is_sound}
use Rattle.corner_leaving.specs.declared.leaving.Leaver.{Leaver}
use Rattle.corner_leaving.specs.declared.leaving.Left.{Left}
use Rattle.corner_table.specs.declared.table.TheConstants.{LEVELS}
use Rattle.corner_table.specs.Tables.{Lists, line_slot, marks_at, number, priority_at, problem_of, standing_at}
use Rattle.corner_view.specs.Stops.{IsUnfitStop}
use Rattle.corner_writings.specs.Rows.{row_number}
use Rattle.corner_leaving.specs.Leaving.{IsFittingLeft, IsLeftRow, IsLeftStop, IsLevelLeft, IsUnfitLeft, left_count, marks_left, problem_left}
use Rattle.corner_joins.proofs.Costs.CostJoins.{row_fits, row_unfit}
use Rattle.corner_joins.proofs.Costs.CostValues.{ratio-back, ratio-same}
use Rattle.corner_writings.proofs.LevelFacts.FittingRows.{stays_above}
use Rattle.corner_table.proofs.Readings.KeptFacts.{value_kept}
use Rattle.corner_leaving.proofs.Removals.LeavingRows.{IsLeavingRow, count_is, its_count, its_deviation, its_equation, its_leave, its_level, its_name, its_numbers, its_size, left_sound, level_kept, rows_left_is}
use Rattle.corner_leaving.proofs.Removals.LeftLevels.{cost_left, cost_ratio, no_cost}
use Rattle.corner_leaving.proofs.Removals.LeftLists.{with_lighter}
use Rattle.problem_core.proofs.Best.Agreed.{each-lines as with-stays}
use Rattle.problem_core.proofs.Sides.{zero-kept as zero_kept}

-- ---- the cost

-- what its line counts, by its deviation
abbrev counted : (t : Lists) (r : Row) (x : Leaver) → IsLeavingRow t r x → ℤ
counted t r x h = inside_number x.side x.level (level_kept t r x h).unit 1 (line_of_row r)

signed-count : (side : Side) (n : ℕ) → neg_ℤ (pos n) *ℤ sign_of side ≡ neg_ℤ (pos n *ℤ sign_of side)
signed-count Under n = omega (arith, ints)
signed-count Over n = omega (arith, ints)

-- its deviation as a fraction
abbrev signed : Leaver → Fraction → Fraction
signed x f = record { num = sign_of x.side *ℤ f.num; den = f.den }

step-cost : (t : Lists) (r : Row) (x : Leaver) (v : Fraction) → (h : IsLeavingRow t r x)
    → IsRatio v (sum_num (standing_at t x.level).value (counted t r x h) (pos (level_kept t r x h).unit) (signed x (standing_at t x.line).value)) (sum_den (standing_at t x.level).value (pos (level_kept t r x h).unit) (signed x (standing_at t x.line).value))
    → IsCostAt (problem_left t x) (marks_left t x) x.level v
step-cost t r x v h ratio =
    let lev = level_kept t r x h in
    let sound = whole_is_sound (problem_of t) h.kept.whole in
    let cost : IsCostAt (with_lighter r.id (problem_of t)) (marks_at t) x.level v =
    left_cost_is_cost (problem_of t) (with_lighter r.id (problem_of t)) (marks_at t) x.level lev.unit lev.own (number t x.level) (Held r.id) x.side (its_size t r x h) (its_numbers t r x h) (counted t r x h) (standing_at t x.level).value (signed x (standing_at t x.line).value) v
    sound h.kept.corner (its_leave t r x h) (its_name t r x h.is) lev.least (its_count t r x x.level lev.unit 1 h) lev.cost (its_deviation t r x h)
    (record { cost_den = (value_kept t x.level h.kept).lowest.above; value_den = (its_equation t r x h).2.den_positive; ratio = ratio }) in
    subst (λ (n : ℕ). IsCostAt (without_row n (problem_of t)) (without_marks (n ∷ []) (marks_at t)) x.level v) (sym h.is.id_is) (cost_left (problem_of t) (marks_at t) r.id x.level v sound.problem cost)

pub left_cost_is : (t : Lists) (r : Row) (x : Leaver) (count unit : ℤ) (v : Fraction) → IsLeavingRow t r x → count ≡ neg_ℤ (pos (left_count t x)) → unit ≡ (priority_at t x.level).unit
    → IsRatio v (sum_num (standing_at t x.level).value count unit (standing_at t x.line).value) (sum_den (standing_at t x.level).value unit (standing_at t x.line).value) → IsCostAt (problem_left t x) (marks_left t x) x.level v
left_cost_is t r x count unit v h c u ratio =
    step-cost t r x v h
    (ratio-same x.side (standing_at t x.level).value (standing_at t x.line).value v count (counted t r x h) unit (level_kept t r x h).unit
    (ap (λ (z : ℤ). z *ℤ sign_of x.side) c ∙ signed-count x.side (left_count t x) ∙ count_is t r x h) (u ∙ (level_kept t r x h).unit_is) ratio)

pub left_cost_unfit : (t : Lists) (r : Row) (x : Leaver) (count unit : ℤ) → IsLeavingRow t r x → count ≡ neg_ℤ (pos (left_count t x)) → unit ≡ (priority_at t x.level).unit
    → IsUnfitRatio (sum_num (standing_at t x.level).value count unit (standing_at t x.line).value) (sum_den (standing_at t x.level).value unit (standing_at t x.line).value) → HasNoLevelWriting (problem_left t x) (marks_left t x) x.level
left_cost_unfit t r x count unit h c u unfit scale times reduced v w costs fit kept =
    let lev = level_kept t r x h in
    let a : Fraction = (standing_at t x.level).value in
    let b : Fraction = signed x (standing_at t x.line).value in
    let sound = left_sound t r x h in
    let next : Fraction = record { num = sum_num a (counted t r x h) (pos lev.unit) b; den = a.den * (lev.unit * b.den) } in
    unfit v kept.lowest
    (ratio-back x.side (standing_at t x.level).value (standing_at t x.line).value v count (counted t r x h) unit lev.unit
    (ap (λ (z : ℤ). z *ℤ sign_of x.side) c ∙ signed-count x.side (left_count t x) ∙ count_is t r x h) (u ∙ lev.unit_is)
    (cost_ratio (problem_left t x) (marks_left t x) x.level v (record { num = sum_num (standing_at t x.level).value (counted t r x h) (pos lev.unit) (signed x (standing_at t x.line).value); den = (standing_at t x.level).value.den * (lev.unit * (standing_at t x.line).value.den) }) sound.0.problem sound.1 costs
    (step-cost t r x (record { num = sum_num (standing_at t x.level).value (counted t r x h) (pos lev.unit) (signed x (standing_at t x.line).value); den = (standing_at t x.level).value.den * (lev.unit * (standing_at t x.line).value.den) }) h refl)))
    kept.fits

-- ---- the level

no-weights : (k : ℕ) (rows : List Row) → level_count k rows ≡ 0 → Each (λ (s : Row). weight_at (line_of_row s) k ≡ 0) rows
no-weights k [] e = tt
no-weights k (s ∷ rows) e = by-test (nat_eq (1000 - s.rank) k) (no-weights k rows) e
  where
    by-test : (b : Bool) → (level_count k rows ≡ 0 → Each (λ (s : Row). weight_at (line_of_row s) k ≡ 0) rows)
        → length (cond b (s ∷ filter (λ r. nat_eq (1000 - r.rank) k) rows) (filter (λ r. nat_eq (1000 - r.rank) k) rows)) ≡ 0 → (cond b s.weight 0 ≡ 0) × Each (λ (s : Row). weight_at (line_of_row s) k ≡ 0) rows
    by-test true f e = absurd (omega (arith, e))
    by-test false f e = (refl, f e)

other-level : (k : ℕ) (l : Line) → k < LEVELS → 1001 ≤ l.level → weight_at l k ≡ 0
other-level k l lt above = ap (λ (b : Bool). cond b l.weight 0) (ne_eqb l.level k (λ e. omega (arith, lt, above, e)))

none-left : (t : Lists) (r : Row) (x : Leaver) → IsLeavingRow t r x → level_count x.level (problem_left t x).rows ≡ 0 → All (λ l. weight_at l x.level ≡ 0) (lines (problem_left t x))
none-left t r x h e =
    All-from_recursion (λ l. weight_at l x.level ≡ 0) (lines (problem_left t x))
    (with-stays (λ l. weight_at l x.level ≡ 0) (problem_left t x).rows (stay_lines 1001 t.stays) (no-weights x.level (problem_left t x).rows e)
    (each-impl (λ l. 1001 ≤ l.level) (λ l. weight_at l x.level ≡ 0) (stay_lines 1001 t.stays) (λ l above. other-level x.level l (its_level t r x h) above) (stays_above 1001 t.stays (omega arith))))

one-less : (a b c : ℕ) → a ≡ b + 1 → c + 1 ≡ a → c ≡ b
one-less a b c e f = omega (arith, e, f)

-- without a row
pub none_left : (t : Lists) (r : Row) (x : Leaver) (left : Left) → IsLeavingRow t r x → left.change.at ≡ x.level → left.change.row ≡ [] → left.change.value ≡ zero_fraction → left.unit ≡ pos 1 → left.rows ≡ 0
    → 0 + 1 ≡ (priority_at t x.level).rows → IsLevelLeft t x left
none_left t r x left h at row value unit rows one =
    let count : level_count x.level (problem_left t x).rows ≡ 0 = sym (one-less (priority_at t x.level).rows (level_count x.level (problem_left t x).rows) 0 (rows_left_is t r x h) one) in
    let sound = left_sound t r x h in
    let none = none-left t r x h count in
    let is = empty_level_has_row (problem_left t x) (marks_left t x) x.level none in
    record {
      at_is = at;
      rows = ap (λ (n : ℕ). n + 1) rows ∙ one;
      count = rows ∙ sym count;
      unit = 1;
      own = 1;
      unit_is = unit;
      own_is = ap (λ (b : Bool). cond b (pos 1) (coefficient x.level left.change.row)) (eq-eqb left.rows 0 rows);
      empty = λ e. row;
      least = is.0;
      by = is.1.by;
      reduced = reduced_by (problem_left t x) x.level 1 1 is.1.by;
      row = is.1.row;
      outside = λ i d lt out. is.1.outside i d lt out ∙ sym (no-number left.change.row (line_slot t (get_or (lines (problem_left t x)) i d).name) x.level row);
      columns = λ c some ne. absurd (some (ap (coefficient c) row));
      reduced_by = reduced-by (problem_left t x) x.level 1 1 is.1.by sound.0;
      fits = row_fits (problem_left t x) (marks_left t x) x.level 1 1 (λ name. pos 0) sound.0 is.1
          (small_row_fits (problem_left t x) (marks_left t x) x.level 1 1 (λ name. pos 0) sound.0 (omega arith) (λ i d lt out. omega arith));
      cost = subst (λ (f : Fraction). IsCostAt (problem_left t x) (marks_left t x) x.level f) (sym value) (no_cost (problem_left t x) (marks_left t x) x.level sound.1 none);
      row_kept = subst IsKeptRow (sym row) none_kept;
      value_kept = subst fractions.IsKept (sym value) zero_kept;
    }
  where
    no-number : (row : List Term) (w l : ℕ) → row ≡ [] → cond (nat_eq w l) (pos 0) (neg_ℤ (coefficient w row)) ≡ pos 0
    no-number row w l e = ap (λ (p : List Term). cond (nat_eq w l) (pos 0) (neg_ℤ (coefficient w p))) e ∙ same (nat_eq w l)
      where
        same : (b : Bool) → cond b (pos 0) (neg_ℤ (pos 0)) ≡ pos 0
        same true = refl
        same false = refl

-- with others
pub some_left : (t : Lists) (r : Row) (x : Leaver) (left : Left) (size : ℕ) → IsLeavingRow t r x → left.change.at ≡ x.level → left.unit ≡ pos size → IsLevelUnit (problem_left t x) x.level size → (j : IsLeftRow t x size left.change.row) → IsKeptRow left.change.row
    → IsCostAt (problem_left t x) (marks_left t x) x.level left.change.value → fractions.IsKept left.change.value → IsFittingLeft t x left.unit left.change.row
    → left.rows + 1 ≡ (priority_at t x.level).rows → left.rows ≢ 0 → IsLevelLeft t x left
some_left t r x left size h at unit least j row_kept cost value_kept fit rows some =
    let sound = left_sound t r x h in
    record {
      at_is = at;
      rows = rows;
      count = one-less (priority_at t x.level).rows (level_count x.level (problem_left t x).rows) left.rows (rows_left_is t r x h) rows;
      unit = size;
      own = j.own;
      unit_is = unit;
      own_is = ap (λ (b : Bool). cond b (pos 1) (coefficient x.level left.change.row)) (ne_eqb left.rows 0 some) ∙ j.own_is;
      empty = λ e. absurd (some e);
      least = least;
      by = j.level_row.by;
      reduced = reduced_by (problem_left t x) x.level size j.own j.level_row.by;
      row = j.level_row.row;
      outside = j.level_row.outside;
      columns = j.columns;
      reduced_by = reduced-by (problem_left t x) x.level size j.own j.level_row.by sound.0;
      fits = row_fits (problem_left t x) (marks_left t x) x.level size j.own (row_number t x.level left.change.row) sound.0 j.level_row (fit size j.own unit j.own_is);
      cost = cost;
      row_kept = row_kept;
      value_kept = value_kept;
    }

pub unfit_stop : (t : Lists) (r : Row) (x : Leaver) (unit : ℤ) (size : ℕ) (row : List Term) (stop : TableStop) → IsLeavingRow t r x → unit ≡ pos size → IsLevelUnit (problem_left t x) x.level size → IsLeftRow t x size row → IsUnfitLeft t x unit row → IsLeftStop t x stop stop
unfit_stop t r x unit size row stop h e least j unfit =
    let sound = left_sound t r x h in
    inr (refl, row_unfit (problem_left t x) (marks_left t x) x.level size j.own (row_number t x.level row) sound.0 sound.1 sound.2 least j.level_row (λ fit. unfit size j.own e j.own_is fit))

-- ---- the stop

level-sum : (l : ℕ) → l ≤ 1000 → l + (1000 - l) ≡ 1000
level-sum l le = omega (arith, le)

pub left_stop : (t : Lists) (r : Row) (x : Leaver) (stop e : TableStop) → IsLeavingRow t r x → stop ≡ Refused (Plain (LevelOf (PriorityLevel (1000 - x.level)))) → IsLeftStop t x stop e → IsUnfitStop (problem_left t x) (marks_left t x) e
left_stop t r x stop e h is (inl none) = subst (IsUnfitStop (problem_left t x) (marks_left t x)) (sym none) tt
left_stop t r x stop e h is (inr (same, unfit)) =
    subst (IsUnfitStop (problem_left t x) (marks_left t x)) (sym (same ∙ is)) (x.level, level-sum x.level (let a = its_level t r x h in omega (arith, a)), unfit)
