-- Slots that are left: for a row or an attribute more, and again where it has joined.
use Rattle.std.proofs.Common.{◌≡◌, ◌+◌, ◌*◌, ◌<◌, ◌≤◌, ℕ, List, length, ap, arith}
use Rattle.std.proofs.lemmas.List.{length_push}
use Rattle.frac_core.specs.Fraction.{Fraction}
use Rattle.problem_core.specs.Layout.{Row}
use Rattle.corner_lines.specs.Joins.{new_stay}
use Rattle.corner_table.specs.declared.table.TheConstants.{LEVELS, MOST_SLOTS, SPARE_SLOTS}
use Rattle.corner_table.specs.Tables.{Lists}
use Rattle.corner_table.specs.Kept.{HasSlotsLeft, IsKept}
use Rattle.corner_table.specs.Joining.{IsWithAttr, slot_of_attr, slot_of_row, slot_of_stay}
use Rattle.corner_joins.specs.Additions.Parts.{CanTakeRow}
use Rattle.corner_joins.specs.Additions.RowJoins.{IsPushed}
use Rattle.corner_joins.specs.Additions.CostJoins.{AreCostsJoined}
use Rattle.corner_joins.proofs.Attributes.AttrJoins.{count_two}

-- ---- numbers

row-fits : (slots stays rows more : ℕ) → slots ≤ LEVELS + 2 * (2 * stays + rows) + SPARE_SLOTS → stays ≤ 4096 → more ≡ rows + 1 → more ≤ 4096 → slots < MOST_SLOTS
row-fits slots stays rows more left stay_count e row_count = omega (arith, left, stay_count, e, row_count)

attr-fits : (slots stays rows : ℕ) → slots ≤ LEVELS + 2 * (2 * stays + rows) + SPARE_SLOTS → stays < 4096 → rows ≤ 4096 → slots + 2 ≤ MOST_SLOTS
attr-fits slots stays rows left stay_count row_count = omega (arith, left, stay_count, row_count)

more-left : (slots taken new : ℕ) (slots_new taken_new : ℕ) → slots ≤ LEVELS + 2 * taken + SPARE_SLOTS → slots_new ≡ slots + new → taken_new ≡ taken + new → slots_new ≤ LEVELS + 2 * taken_new + SPARE_SLOTS
more-left slots taken new slots_new taken_new left e f = omega (arith, left, e, f)

-- ---- a row

pub row_room : (t : Lists) (r : Row) → CanTakeRow t r → length t.slots < MOST_SLOTS
row_room t r can = row-fits (length t.slots) (length t.stays) (length t.rows) _ can.left can.whole.stay_count (length_push t.rows r) can.whole.row_count

pub row_left : (t u : Lists) (r : Row) → HasSlotsLeft t → IsPushed r t u → HasSlotsLeft u
row_left t u r left h =
    let s = ap length h.slots in
    let n = length_push t.slots (slot_of_row r) in
    let x = ap length h.rows in
    let m = length_push t.rows r in
    let y = ap length h.stays in
    omega (arith, left, s, n, x, m, y)

-- ---- rows that join the costs

pub joined_left : (t u : Lists) (rows : List Row) (old new : List ℕ) → HasSlotsLeft t → AreCostsJoined rows t old u new → HasSlotsLeft u
joined_left t u rows old new left h =
    let s = ap length h.slots in
    let x = ap length h.rows_same in
    let y = ap length h.stays in
    omega (arith, left, s, x, y)

-- ---- an attribute

pub attr_room : (t : Lists) → IsKept t → length t.stays < 4096 → HasSlotsLeft t → length t.slots + 2 ≤ MOST_SLOTS
attr_room t kept room left = attr-fits (length t.slots) (length t.stays) (length t.rows) left room kept.whole.row_count

pub attr_left : (t u : Lists) (attr : ℕ) (target : Fraction) → HasSlotsLeft t → IsWithAttr attr target t u → HasSlotsLeft u
attr_left t u attr target left h =
    let s = ap length h.slots in
    let n = count_two t.slots (slot_of_attr attr (length t.slots)) (slot_of_stay attr (length t.slots + 1)) in
    let x = ap length h.rows in
    let y = ap length h.stays in
    let m = length_push t.stays (new_stay attr target) in
    omega (arith, left, s, n, x, y, m)
