-- What is answered where a row joins the cost of its level.
use Rattle.std.proofs.Common.{◌≡◌, ◌∙◌, ℕ, zero, suc, ◌+◌, ◌-◌, ◌*◌, ◌<◌, ◌≤◌, ◌++◌, Bool, false, cond, nat_eq, List, [], ◌∷◌, map, length, refl, sym, ap, subst, arith, inl, inr, ℤ, pos, ◌<ℤ◌, get_or, unsigned_abs, Any, lt-ltb}
use Rattle.std.specs.List.{filter}
use borrow.Author.Differences.{ints}
use Rattle.frac_core.specs.Fraction.{Fraction, IsFitting}
use Rattle.frac_core.specs.declared.frac.TheConstants.{PART_BOUND}
use Rattle.row_core.specs.Rows.{Term}
use Rattle.problem_core.specs.declared.parts.Mark.{Mark}
use Rattle.problem_core.specs.declared.parts.Side.{Side}
use Rattle.problem_core.specs.declared.parts.Level.TheVariants.{Priority as PriorityLevel}
use Rattle.problem_core.specs.declared.stops.Quantity.TheVariants.{Rows}
use Rattle.problem_core.specs.Changes.Stops.{TableStop}
use Rattle.frac_core.specs.declared.memory.Stop.TheVariants.{Refused, OutOfMemory as NoMemory}
use Rattle.problem_core.specs.Kept.{IsRow}
use Rattle.problem_core.specs.Layout.{Line, Row, line_of_row, lines, stay_lines}
use Rattle.problem_core.specs.Levels.{HasNoLevelWriting}
use Rattle.corner_laws.specs.Lifts.{HasOneIn}
use Rattle.corner_exchange.specs.declared.exchange.Change.{Change}
use Rattle.corner_table.specs.declared.table.TheConstants.{LEVELS}
use Rattle.corner_table.specs.Tables.{Lists, marks_at, priority_at, problem_of, slot_at}
use Rattle.corner_table.specs.Kept.{IsLineSlot, row_count}
use Rattle.corner_table.specs.Reads.LevelNumbers.{IsCounted, unit_at}
use Rattle.corner_joins.specs.Additions.Parts.{IsNextRow, IsPartlyKept, IsRowsStop}
use Rattle.corner_joins.specs.Additions.CostJoins.{IsCostStop, IsHeldAt, IsJoining, IsJoinStop, IsUnfitRise, home_at, with_cost, with_next}
use Rattle.corner_table.proofs.Readings.SlotFacts.{any_is}
use Rattle.corner_joins.proofs.Costs.CostLines.{IsNextAt, next_at, next_home}
use Rattle.corner_joins.proofs.Costs.CostJoins.{part_of}
use Rattle.corner_joins.proofs.Costs.CostSteps.{rise_unfit, unfit_join}
use Rattle.std.proofs.lemmas.Bool.{cases_eq}
use Rattle.row_core.proofs.Places.{coefficient_at}
use Rattle.version_lists.specs.Matrices.{IsBelow}
use Rattle.cert_core.specs.declared.stops.RunStop.{RunStop}
use Rattle.cert_core.specs.declared.stops.RunStop.TheVariants.{Conflict, Unfit, Spent, OutOfMemory}
use Rattle.corner_table.specs.Paths.{IsPathStop}
use Rattle.corner_table.specs.Kept.{AreSlots}
use Rattle.frac_core.specs.Stops.{IsRefused}
use Rattle.corner_joins.specs.Additions.RowJoins.{AreAsBefore}
use Rattle.corner_table.specs.Tables.{IsListedOf, marks_over, row_at}
use Rattle.corner_joins.specs.Additions.CostJoins.{IsCostJoined, IsJoinedCost, IsLineCostStop, IsNextListed}
use Rattle.corner_joins.proofs.Costs.CostFits.{next_count}
use Rattle.corner_joins.proofs.Costs.CostKept.{cost_kept, cost_marks, next_within}
use Rattle.corner_laws.proofs.LevelCosts.LevelLifts.{either-count as both-kept}
use Rattle.corner_joins.proofs.Costs.CostLines.{as_line as line-among}

pub row_line : (t : Lists) (s : Row) → Any (λ o. o ≡ s) t.rows → Any (λ l. l ≡ line_of_row s) (lines (problem_of t))
row_line t s is = line-among s t.rows (stay_lines 1001 t.stays) is

-- ---- the row of a list

held-in : (before : List Row) (r : Row) (after : List Row) → Any (λ s. s ≡ r) (before ++ (r ∷ after))
held-in [] r after = (0, r, omega arith, refl, refl)
held-in (s ∷ before) r after = let h = held-in before r after in (suc h.0, h.1, omega (arith, h.2), h.3, h.4)

pub next_held : (t : Lists) (r : Row) → IsNextRow t r → Any (λ s. s ≡ r) t.rows
next_held t r n = subst (λ (rows : List Row). Any (λ s. s ≡ r) rows) (sym n.2) (held-in n.0 r n.1)

pub held_row : (t : Lists) (r : Row) → IsPartlyKept t → Any (λ s. s ≡ r) t.rows → IsRow r
held_row t r kept held = any_is IsRow (λ s. s ≡ r) t.rows kept.whole.rows held (λ s h e. subst IsRow e h)

-- ---- a stop

rows-among : (k : ℕ) (rows : List Row) (ls : List Line) → length (filter (λ r. nat_eq (1000 - r.rank) k) rows) ≤ length (filter (λ l. nat_eq l.level k) (map line_of_row rows ++ ls))
rows-among k [] ls = let n : ℕ = length (filter (λ l. nat_eq l.level k) ls) in omega arith
rows-among k (s ∷ rows) ls = both-kept (nat_eq (1000 - s.rank) k) s (line_of_row s) (filter (λ r. nat_eq (1000 - r.rank) k) rows) (filter (λ l. nat_eq l.level k) (map line_of_row rows ++ ls)) (rows-among k rows ls)

pub rows_stop_is : (t : Lists) (r : Row) (line : ℕ) (side : Side) → IsNextAt t r line side → HasNoLevelWriting (with_next t (home_at t line)) (marks_at t) (home_at t line)
    → IsRowsStop t r (Refused (Rows (PriorityLevel (1000 - home_at t line)) ((priority_at t (home_at t line)).rows + 1)))
rows_stop_is t r line side n none =
    let home = next_home t r line side n in
    let rank = (held_row t r n.kept (next_held t r n.next)).rank in
    let few = next_within t r (home_at t line) n.next home in
    let more = rows-among (home_at t line) t.rows (stay_lines 1001 t.stays) in (
      ap PriorityLevel (let e : home_at t line ≡ 1000 - r.rank = home in omega (arith, e, rank)),
      ap (λ (l : ℕ). (priority_at t l).rows + 1) home,
      (home_at t line, (let e : home_at t line ≡ 1000 - r.rank = home in omega (arith, e)), omega arith, omega (arith, few, more), none),
    )

pub stop_is : (t : Lists) (line : ℕ) (stop e : TableStop) → IsPartlyKept t → stop ≡ Refused (Rows (PriorityLevel (1000 - home_at t line)) ((priority_at t (home_at t line)).rows + 1)) → IsCostStop t line stop e → IsJoinStop t line e
stop_is t line stop e kept is (inl none) r joins = subst (λ (x : TableStop). IsRowsStop t r x) (sym none) tt
stop_is t line stop e kept is (inr (same, unfit)) r joins = let n = next_at t r line kept joins in subst (λ (x : TableStop). IsRowsStop t r x) (sym (same ∙ is)) (rows_stop_is t r line n.0 n.1 unfit)

pub rise_stop : (t : Lists) (r : Row) (line : ℕ) → IsPartlyKept t → IsJoining t r line → IsUnfitRise (slot_at t line) (priority_at t (home_at t line)).unit → HasNoLevelWriting (with_next t (home_at t line)) (marks_at t) (home_at t line)
rise_stop t r line kept joins h =
    let j = unfit_join t r line kept joins h in
    rise_unfit t r line j.0 (home_at t line) h.times j.1 (subst (λ (n : ℕ). PART_BOUND ≤ h.times * n) (ap unsigned_abs (part_of t r line j.0 (home_at t line) h.times j.1).unit_is) h.unfit)

-- ---- what the line counts

unit-part : (own unit : ℕ) → 0 < own → own * unit < PART_BOUND → unit < PART_BOUND
unit-part zero unit up h = absurd (omega (arith, up))
unit-part (suc own) unit up h = let n : ℕ = own * unit in let e : suc own * unit ≡ own * unit + unit = omega arith in omega (arith, e, h)

pub held_home : (t : Lists) (r : Row) (line : ℕ) → IsPartlyKept t → IsHeldAt t r line → home_at t line ≡ 1000 - r.rank
held_home t r line kept h =
    ap (λ (w : ℕ). (slot_at t w).home) (sym h.slot_is)
    ∙ any_is (IsLineSlot t) (λ l. l ≡ line_of_row r) (lines (problem_of t)) kept.slots.lines (row_line t r h.held) (λ l s e. (subst (IsLineSlot t) e s).home)

pub held_counted : (t : Lists) (r : Row) (line : ℕ) → IsPartlyKept t → IsHeldAt t r line → IsCounted (slot_at t line) (unit_at t (home_at t line))
held_counted t r line kept h =
    let s : IsLineSlot t (line_of_row r) = any_is (IsLineSlot t) (λ l. l ≡ line_of_row r) (lines (problem_of t)) kept.slots.lines (row_line t r h.held) (λ l s e. subst (IsLineSlot t) e s) in
    let w : (slot_at t line).weight ≡ pos r.weight = ap (λ (n : ℕ). (slot_at t n).weight) (sym h.slot_is) ∙ s.weight in
    let k : (slot_at t line).scale ≡ pos r.scale = ap (λ (n : ℕ). (slot_at t n).scale) (sym h.slot_is) ∙ s.scale in
    let is = held_row t r kept h.held in
    let home = held_home t r line kept h in
    let lt : home_at t line < LEVELS = (let e : home_at t line ≡ 1000 - r.rank = home in omega (arith, e)) in
    let part = kept.levels (home_at t line) lt in
    let u : unit_at t (home_at t line) ≡ pos part.unit = ap (λ (b : Bool). cond b (priority_at t (home_at t line)).unit (pos 1)) (lt-ltb (home_at t line) LEVELS lt) ∙ part.unit_is in
    record {
      weight_is = w ∙ sym (ap (λ (z : ℤ). pos (unsigned_abs z)) w);
      light = subst (λ (z : ℤ). unsigned_abs z ≤ 1000) (sym w) is.weight.1;
      scale_is = k ∙ sym (ap (λ (z : ℤ). pos (unsigned_abs z)) k);
      scale_positive = subst (λ (z : ℤ). 0 < unsigned_abs z) (sym k) is.scale.0;
      unit_is = u ∙ sym (ap (λ (z : ℤ). pos (unsigned_abs z)) u);
      fits = subst IsFitting (sym u) (unit-part part.own part.unit part.numbers.row.own_positive part.numbers.fits.scale_fits);
    }

-- where it has joined the row is still there
pub still_held : (t : Lists) (r : Row) (line : ℕ) (row : List Term) (value : Fraction) (unit : ℤ) → IsPartlyKept t → home_at t line < LEVELS → IsJoining t r line → IsHeldAt (with_cost t (home_at t line) row value unit) r line
still_held t r line row value unit kept lt joins = record {
  held = next_held t r joins.next;
  inside = subst (λ (at : List Mark). HasOneIn at r) (sym (cost_marks t (home_at t line) row value unit kept.slots lt)) joins.inside;
  slot_is = joins.slot_is;
}

-- ---- as the code asks

pub joining_held : (t : Lists) (r : Row) (line : ℕ) → IsJoining t r line → IsHeldAt t r line
joining_held t r line joins = record { held = next_held t r joins.next; inside = joins.inside; slot_is = joins.slot_is }

pub joining_below : (t : Lists) (r : Row) (line : ℕ) → IsPartlyKept t → IsJoining t r line → home_at t line < LEVELS
joining_below t r line kept joins = let e : home_at t line ≡ 1000 - r.rank = held_home t r line kept (joining_held t r line joins) in omega (arith, e)

pub joining_counted : (t : Lists) (r : Row) (line : ℕ) → IsPartlyKept t → IsJoining t r line → IsCounted (slot_at t line) (priority_at t (home_at t line)).unit
joining_counted t r line kept joins =
    subst (λ (z : ℤ). IsCounted (slot_at t line) z) (ap (λ (b : Bool). cond b (priority_at t (home_at t line)).unit (pos 1)) (lt-ltb (home_at t line) LEVELS (joining_below t r line kept joins)))
    (held_counted t r line kept (joining_held t r line joins))

pub joining_unit : (t : Lists) (r : Row) (line : ℕ) → IsPartlyKept t → IsJoining t r line → pos 0 <ℤ (priority_at t (home_at t line)).unit
joining_unit t r line kept joins =
    let part = kept.levels (home_at t line) (joining_below t r line kept joins) in
    subst (λ (z : ℤ). pos 0 <ℤ z) (sym part.unit_is) (above-zero part.unit part.least.above)
  where
    above-zero : (n : ℕ) → 0 < n → pos 0 <ℤ pos n
    above-zero n h = omega (arith, ints, h)

pub joining_few : (t : Lists) (r : Row) (line : ℕ) → IsPartlyKept t → IsJoining t r line → (priority_at t (home_at t line)).rows + 1 ≤ 4096
joining_few t r line kept joins = subst (λ (l : ℕ). (priority_at t l).rows + 1 ≤ 4096) (sym (held_home t r line kept (joining_held t r line joins))) (next_count t r kept joins.next)

pub joining_within : (t : Lists) (r : Row) (line : ℕ) → IsPartlyKept t → IsJoining t r line → (priority_at t (home_at t line)).rows + 1 ≤ row_count t (home_at t line)
joining_within t r line kept joins = next_within t r (home_at t line) joins.next (held_home t r line kept (joining_held t r line joins))

pub joined_below : (t : Lists) (line : ℕ) (unit : ℤ) (change : Change) → IsPartlyKept t → home_at t line < LEVELS → IsJoinedCost t line unit change → IsBelow (length t.slots) change.row
joined_below t line unit change kept lt c = λ i d within.
    elim (cases_eq (get_or change.row i d).col (home_at t line)) [
      | inl e ↦ let h = kept.slots.levels in omega (arith, e, h, lt)
      | inr ne ↦
          (c.row.columns (get_or change.row i d).col
          (λ none. c.row_kept.lowest.nonzero i d within (sym (coefficient_at change.row i d c.row_kept.lowest.rising within) ∙ none)) ne).0.1
    ]

pub joined_kept : (t u : Lists) (r : Row) (line : ℕ) (unit : ℤ) (change : Change) → IsPartlyKept t → IsJoining t r line → IsJoinedCost t line unit change → u ≡ with_cost t change.at change.row change.value unit → IsPartlyKept u × IsHeldAt u r line
joined_kept t u r line unit change kept joins c e =
    let lt = joining_below t r line kept joins in
    let same : u ≡ with_cost t (home_at t line) change.row change.value unit = e ∙ ap (λ (l : ℕ). with_cost t l change.row change.value unit) c.at_is in (
      subst IsPartlyKept (sym same) (cost_kept t line unit change kept lt (joining_within t r line kept joins) c),
      subst (λ (v : Lists). IsHeldAt v r line) (sym same) (still_held t r line change.row change.value unit kept lt joins),
    )

-- ---- with the lines listed

pub cost_joined_kept : (t u : Lists) (r : Row) (line : ℕ) → IsPartlyKept t → IsJoining t r line → IsCostJoined t line u → IsPartlyKept u
cost_joined_kept t u r line kept joins c = subst IsPartlyKept (sym c.lists) (cost_kept t line c.unit c.change kept (joining_below t r line kept joins) (joining_within t r line kept joins) c.joined)

pub row_listed : (u : Lists) (line : ℕ) (old new : List ℕ) → IsListedOf line (row_at u line) old new → IsNextListed u line old new
row_listed u line old new h = record { keeps = h.keeps; listed = inr h.has; others = h.others }

pub same_slots : (t u : Lists) (stop : TableStop) → AreSlots t → AreAsBefore t u stop → IsRefused stop → AreSlots u
same_slots t u (Refused quantity) slots same is = subst AreSlots (sym same) slots
same_slots t u NoMemory slots same is = absurd is

pub line_stop : (t u : Lists) (line : ℕ) (stop : TableStop) (result : RunStop) → IsJoinStop t line stop → AreAsBefore t u stop → IsPathStop u [] stop result → IsLineCostStop t line result
line_stop t u line stop (Conflict by) h same path = absurd path
line_stop t u line stop (Spent p) h same path = absurd path
line_stop t u line stop OutOfMemory h same path = tt
line_stop t u line stop (Unfit at) h same path =
    let before : u ≡ t = subst (AreAsBefore t u) path.0 same in
    (path.1 ∙ ap (λ (l : Lists). record { dual = false; corner = marks_over l []; swaps = [] }) before, subst (IsJoinStop t line) path.0 h)
