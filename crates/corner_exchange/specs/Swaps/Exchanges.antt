-- What an exchange of two lines makes of the lists.
use Rattle.std.specs.Prelude.{◌≡◌, ◌≢◌, ◌⊎◌, ℕ, ◌*◌, ◌<◌, ◌≤◌, cond, nat_eq, List, [], ◌∷◌, length, ℤ, pos}
use Rattle.std.specs.Prelude.{negsuc, neg_ℤ, ◌*ℤ◌, unsigned_abs, slice_set, All, Any, Contains, Some, None}
use Rattle.std.specs.declared.option.Option.{Option}
use Rattle.frac_core.specs.Fraction.{Fraction, IsFitting, IsLowest, IsRatio, sum_den, sum_num}
use Rattle.row_core.specs.Rows.{Term, coefficient, combination}
use Rattle.problem_core.specs.declared.stops.What.{What}
use Rattle.problem_core.specs.declared.stops.What.TheVariants.{Attr as AttrOf, Mark as MarkOf}
use Rattle.problem_core.specs.declared.stops.What.TheVariants.{Level as LevelOf}
use Rattle.version_lists.specs.Matrices.{IsBelow}
use Rattle.problem_core.specs.declared.parts.RowName.{RowName}
use Rattle.problem_core.specs.declared.parts.RowName.TheVariants.{Stay as StayOf}
use Rattle.problem_core.specs.declared.parts.Level.TheVariants.{Stay as StayLevel}
use Rattle.problem_core.specs.declared.stops.Quantity.TheVariants.{Plain}
use Rattle.problem_core.specs.Changes.Stops.{TableStop}
use Rattle.frac_core.specs.declared.memory.Stop.TheVariants.{Refused}
use Rattle.corner_view.specs.Stops.{IsUnfitStop}
use Rattle.problem_core.specs.declared.parts.Mark.{Mark}
use Rattle.problem_core.specs.declared.parts.Side.{Side}
use Rattle.problem_core.specs.Layout.{lines}
use Rattle.problem_core.specs.Window.{zero_fraction}
use Rattle.problem_core.specs.Corners.{SameMarks, Swap, attr_column, exchanged}
use Rattle.problem_core.specs.Levels.{AreFitting, IsCostAt}
use Rattle.corner_laws.specs.Units.{IsLevelRow, IsReducedBy}
use Rattle.corner_lines.specs.LineEquations.{IsLineEquation, IsOutsideLine, deviation, sign_of}
use Rattle.corner_lines.specs.Levels.LevelRows.{inside_number}
use Rattle.corner_exchange.specs.declared.exchange.Change.{Change}
use Rattle.corner_exchange.specs.declared.exchange.Exchange.{Exchange}
use Rattle.corner_exchange.specs.declared.exchange.Pivot.{Pivot}
use Rattle.corner_writings.specs.declared.levels.Pair.{Pair}
use Rattle.corner_view.specs.declared.types.Owner.{Owner}
use Rattle.corner_view.specs.declared.types.Owner.TheVariants.{Level as LevelSlot, Attr as AttrSlot}
use Rattle.corner_view.specs.declared.types.Owner.TheVariants.{Line as LineSlot}
use Rattle.corner_table.specs.declared.table.Standing.{Standing}
use Rattle.corner_table.specs.declared.table.TheConstants.{LEVELS}
use Rattle.corner_table.specs.Tables.{Lists, entry, line_slot, marks_at, priority_at, problem_of, row_at}
use Rattle.corner_table.specs.Tables.{sign_of_what, slot_at, standing_at}
use Rattle.corner_table.specs.Kept.{IsKept, IsSlot, IsStayOwner, IsOutsideSlot}
use Rattle.corner_view.specs.Seen.{IsNamed}
use Rattle.corner_writings.specs.Rows.{row_number}

-- ---- the marks

-- the slots of an outside mark's line, which enters, and of an inside mark's, in whose row it stands
pub record IsPair (t : Lists) (pair : Pair) (s : Swap) : Type 0 where
  pub enters : IsNamed (problem_of t) s.enter.row
  pub enter_slot : line_slot t s.enter.row ≡ pair.enter
  pub enter_side : s.enter.side ≡ pair.side
  pub outside : (standing_at t pair.enter).side ≡ None
  pub leaves : IsNamed (problem_of t) s.leave.row
  pub leave_slot : line_slot t s.leave.row ≡ pair.leave
  pub inside : (standing_at t pair.leave).side ≡ Some s.leave.side
  pub stands : entry t pair.leave pair.enter ≢ pos 0

-- lists that are kept, with an exchange of these slots
pub record CanExchange (t : Lists) (pair : Pair) : Type 0 where
  pub kept : IsKept t
  pub swap : Swap
  pub is : IsPair t pair swap

-- the marks inside after the exchange
abbrev pub marks_after : Lists → Swap → List Mark
marks_after t s = exchanged s (marks_at t)

-- ---- rows of slots

-- the row of the slot and a value are an equation of the quantity at these marks
abbrev pub IsEquationBy : Lists → List Mark → ((ℕ → ℤ) → ℤ) → ℕ → List Term → ℤ → ℕ → Type 0
IsEquationBy t at quantity w row num den = (own : ℕ) × (coefficient w row ≡ pos own)
    × IsLineEquation (problem_of t) at quantity own (row_number t w row) num den

-- the row and the value are those of an attribute or of an inside line
abbrev pub IsOwnerRow : Lists → List Mark → ℕ → Owner → Option Side → List Term → Fraction → Type 0
IsOwnerRow t at w LevelSlot side row value = ⊥
IsOwnerRow t at w (AttrSlot attr) side row value =
    IsEquationBy t at (λ x. x (attr_column attr)) w row value.num value.den
IsOwnerRow t at w (LineSlot name) None row value = ⊥
IsOwnerRow t at w (LineSlot name) (Some side) row value =
    IsEquationBy t at (deviation name) w row (sign_of side *ℤ value.num) value.den

-- the slot of a line that is outside after the exchange: the leaving one, or one that was and doesn't enter
abbrev pub IsOutsideAfter : Lists → Pair → ℕ → Type 0
IsOutsideAfter t pair c = (c ≡ pair.leave) ⊎ ((c ≢ pair.enter) × IsOutsideSlot t c)

-- besides the slot w itself, lines that are outside after the exchange alone stand in the row
abbrev pub AreOutsideAfter : Lists → Pair → ℕ → List Term → Type 0
AreOutsideAfter t pair w row = (c : ℕ) → coefficient c row ≢ pos 0 → c ≢ w → IsOutsideAfter t pair c

-- ---- the level of a slot

-- the numbers of a level's row, which fit, and its cost
pub record IsLevelBy (t : Lists) (at : List Mark) (k : ℕ) (row : List Term) (cost : Fraction) : Type 0 where
  pub unit : ℕ
  pub own : ℕ
  pub unit_is : (priority_at t k).unit ≡ pos unit
  pub own_is : coefficient k row ≡ pos own
  pub by : RowName → ℤ
  pub reduced : ℕ → ℤ
  pub level_row : IsLevelRow (problem_of t) at k unit own by
  pub outside : All (λ l. IsOutsideLine at l.name → by l.name ≡ row_number t k row l.name)
      (lines (problem_of t))
  pub reduced_by : IsReducedBy (problem_of t) k unit own by reduced
  pub fits : AreFitting (problem_of t) (own * unit) by reduced
  pub cost_is : IsCostAt (problem_of t) at k cost

-- ---- what an exchange answers

-- the slot's row and value at these marks: of a level its cost, of all else its equation; a stay's level
-- has room for both marks' costs
abbrev pub IsRowAfter : Lists → List Mark → ℕ → List Term → Fraction → Type 0
IsRowAfter t at w row value = (w < LEVELS → IsLevelBy t at w row value)
    × (LEVELS ≤ w → IsOwnerRow t at w (slot_at t w).owner (standing_at t w).side row value
    × (IsStayOwner (slot_at t w).owner → IsFitting (pos 2 *ℤ coefficient w row)))

-- the number, with the other sign where `by` is below 0
abbrev pub signed : ℤ → ℤ → ℤ
signed (pos n) z = z
signed (negsuc n) z = neg_ℤ z

-- the leaving line's row, solved for the entering line
abbrev pub solved : Lists → Pair → RowName → ℤ
solved t pair name = cond (nat_eq (line_slot t name) pair.enter) (pos 0)
    (neg_ℤ (signed (entry t pair.leave pair.enter) (entry t pair.leave (line_slot t name))))

-- the entering mark comes to this value, and the leaving line's row, solved for the entering line, is its
-- equation
abbrev pub IsEntering : Lists → Pair → Swap → Fraction → Type 0
IsEntering t pair s value = IsLineEquation (problem_of t) (marks_after t s) (deviation s.enter.row)
    (unsigned_abs (entry t pair.leave pair.enter)) (solved t pair)
    (sign_of s.enter.side *ℤ value.num) value.den

-- the entering line's number in the leaving one's row, and the value that the entering mark comes to
pub record IsPivotAt (t : Lists) (pivot : Pivot) (s : Swap) : Type 0 where
  pub pair : IsPair t pivot.pair s
  pub by : pivot.by ≡ entry t pivot.pair.leave pivot.pair.enter
  pub fits : IsFitting pivot.by
  pub line : IsEntering t pivot.pair s pivot.value
  pub lowest : IsLowest pivot.value
  pub room : IsStayOwner (slot_at t pivot.pair.enter).owner → IsFitting (pos 2 *ℤ pivot.by)

-- lists that are kept, with an exchange by this pivot
pub record CanPivot (t : Lists) (pivot : Pivot) : Type 0 where
  pub kept : IsKept t
  pub swap : Swap
  pub is : IsPivotAt t pivot swap

-- the slot is past the levels' and not the leaving line's, and the entering line stands in its row
pub record IsMovedSlot (t : Lists) (pair : Pair) (w : ℕ) : Type 0 where
  pub slot : IsSlot t w
  pub other : w ≢ pair.leave
  pub stands : entry t w pair.enter ≢ pos 0

-- the level of a priority, whose cost has rows
abbrev pub IsCostedLevel : Lists → ℕ → Type 0
IsCostedLevel t l = (l < LEVELS) × ((priority_at t l).rows ≢ 0)

-- what a slot is of: an attribute, or an inside line's mark
abbrev pub IsWhatOf : Owner → Option Side → What → Type 0
IsWhatOf LevelSlot side what = ⊥
IsWhatOf (AttrSlot attr) side what = what ≡ AttrOf attr
IsWhatOf (LineSlot name) None what = ⊥
IsWhatOf (LineSlot name) (Some side) what = what ≡ MarkOf (record { row = name; side = side })

-- the slot w is of this: of an attribute, or of an inside line's mark
abbrev pub IsWhatAt : Lists → ℕ → What → Type 0
IsWhatAt t w what = IsWhatOf (slot_at t w).owner (standing_at t w).side what

-- the coefficients of a slot's row in which the entering line is replaced by its own row
abbrev pub moved : Lists → Pair → ℕ → ℕ → ℤ
moved t pair w c = combination (pos (unsigned_abs (entry t pair.leave pair.enter))) (row_at t w)
    (neg_ℤ (signed (entry t pair.leave pair.enter) (entry t w pair.enter))) (row_at t pair.leave) c

-- how often the entering mark's value is added, over the own number of the slot
abbrev pub moved_by : Lists → Pair → ℕ → What → ℤ
moved_by t pair w what = neg_ℤ ((entry t w pair.enter *ℤ sign_of pair.side) *ℤ sign_of_what what)

-- the value that the slot comes to
abbrev pub IsValueAfter : Lists → Pivot → ℕ → What → Fraction → Type 0
IsValueAfter t pivot w what f = IsRatio f
    (sum_num (standing_at t w).value (moved_by t pivot.pair w what) (entry t w w) pivot.value)
    (sum_den (standing_at t w).value (entry t w w) pivot.value)

-- ---- in contracts, for each exchange of these slots

-- want of memory, or a quantity of the problem that does not fit after it
abbrev pub IsPairStop : Lists → Pair → TableStop → Type 0
IsPairStop t pair stop = (s : Swap) → IsPair t pair s → IsUnfitStop (problem_of t) (marks_after t s) stop

-- the same, for each exchange with this pivot
abbrev pub IsPivotStop : Lists → Pivot → TableStop → Type 0
IsPivotStop t pivot stop = (s : Swap) → IsPivotAt t pivot s
    → IsUnfitStop (problem_of t) (marks_after t s) stop

-- the entering mark comes to this value
abbrev pub IsEnteringValue : Lists → Pair → Fraction → Type 0
IsEnteringValue t pair value = (s : Swap) → IsPair t pair s → IsEntering t pair s value

-- the pivot is that of the two lines
abbrev pub IsPivotOf : Lists → Pair → Pivot → Type 0
IsPivotOf t pair pivot = (s : Swap) → IsPair t pair s → IsPivotAt t pivot s

-- the slot is of a stay's line
abbrev pub IsStaySlot : Lists → ℕ → Type 0
IsStaySlot t w = IsStayOwner (slot_at t w).owner

-- the stop names the level of the slot's stay
abbrev pub IsLevelStop : Lists → ℕ → TableStop → Type 0
IsLevelStop t w stop = (attr : ℕ) → (slot_at t w).owner ≡ LineSlot (StayOf attr)
    → stop ≡ Refused (Plain (LevelOf (StayLevel attr)))

-- the new row and value of a slot that is none of the two lines'; a level that has one has rows
pub record IsChangeOf (t : Lists) (pair : Pair) (s : Swap) (change : Change) : Type 0 where
  pub within : change.at < length t.slots
  pub not_enter : change.at ≢ pair.enter
  pub not_leave : change.at ≢ pair.leave
  pub below : IsBelow (length t.slots) change.row
  pub outside : AreOutsideAfter t pair change.at change.row
  pub row_is : IsRowAfter t (marks_after t s) change.at change.row change.value
  pub some : change.at < LEVELS → (priority_at t change.at).rows ≢ 0

-- the entering line doesn't stand in the slot's row, and at a level neither line counts
pub record IsUntouched (t : Lists) (pair : Pair) (s : Swap) (w : ℕ) : Type 0 where
  pub absent : entry t w pair.enter ≡ pos 0
  pub comes : w < LEVELS → (unit own : ℕ)
      → All (λ l. l.name ≡ s.enter.row → inside_number s.enter.side w unit own l ≡ pos 0)
      (lines (problem_of t))
  pub goes : w < LEVELS → (unit own : ℕ)
      → All (λ l. l.name ≡ s.leave.row → inside_number s.leave.side w unit own l ≡ pos 0)
      (lines (problem_of t))

-- the entering line's row and value
pub record IsEnteringChange (t : Lists) (pair : Pair) (s : Swap) (change : Change) : Type 0 where
  pub at : change.at ≡ pair.enter
  pub below : IsBelow (length t.slots) change.row
  pub outside : AreOutsideAfter t pair pair.enter change.row
  pub line : IsEquationBy t (marks_after t s) (deviation s.enter.row) pair.enter change.row
      (sign_of s.enter.side *ℤ change.value.num) change.value.den
  pub room : IsStayOwner (slot_at t pair.enter).owner → IsFitting (pos 2 *ℤ coefficient pair.enter change.row)

-- the new row and value of a slot that is none of the two lines', for each exchange with this pivot
abbrev pub IsChangeBy : Lists → Pivot → Change → Type 0
IsChangeBy t pivot change = (s : Swap) → IsPivotAt t pivot s → IsChangeOf t pivot.pair s change

-- the entering line's row and value, for each exchange with this pivot
abbrev pub IsEnteringBy : Lists → Pivot → Change → Type 0
IsEnteringBy t pivot change = (s : Swap) → IsPivotAt t pivot s → IsEnteringChange t pivot.pair s change

-- the entering line's row and value, and those of all other slots that change
pub record IsExchangeOf (t : Lists) (made : Exchange) (s : Swap) : Type 0 where
  pub pair : IsPair t made.pair s
  pub enters : IsEnteringChange t made.pair s made.entering
  pub changes : All (IsChangeOf t made.pair s) made.changes.items
  pub rest : (w : ℕ) → w < length t.slots → w ≢ made.pair.enter → w ≢ made.pair.leave
      → All (λ change. change.at ≢ w) made.changes.items → IsUntouched t made.pair s w

-- ---- lists with other rows and values

-- the slot has this standing
abbrev pub with_standing : Lists → ℕ → Standing → Lists
with_standing t w standing = record {
  rows = t.rows;
  stays = t.stays;
  slots = t.slots;
  standings = slice_set t.standings w standing;
  matrix = t.matrix;
  attr_slots = t.attr_slots;
  row_slots = t.row_slots;
  priorities = t.priorities;
}

-- the slot has this row
abbrev pub with_row : Lists → ℕ → List Term → Lists
with_row t w row = record {
  rows = t.rows;
  stays = t.stays;
  slots = t.slots;
  standings = t.standings;
  matrix = slice_set t.matrix w row;
  attr_slots = t.attr_slots;
  row_slots = t.row_slots;
  priorities = t.priorities;
}

-- the slot has this value, and its side as before
abbrev pub with_value : Lists → ℕ → Fraction → Lists
with_value t w value = with_standing t w (record { side = (standing_at t w).side; value = value })

-- and the change's row
abbrev pub with_change : Lists → Change → Lists
with_change t change = with_row (with_value t change.at change.value) change.at change.row

-- the change is that of a slot, and in its row stand slots
abbrev pub IsChangeIn : Lists → Change → Type 0
IsChangeIn t change = (change.at < length t.slots) × IsBelow (length t.slots) change.row

-- the lists with all changes
abbrev pub with_changes : Lists → List Change → Lists
with_changes t [] = t
with_changes t (change ∷ changes) = with_change (with_changes t changes) change

-- without the slot's row
abbrev pub cleared : Lists → ℕ → Lists
cleared t w = with_standing (with_row t w []) w (record { side = None; value = zero_fraction })

-- with the change's row, and this side with the change's value
abbrev pub filled : Lists → Side → Change → Lists
filled t side change = with_row
    (with_standing t change.at (record { side = Some side; value = change.value })) change.at change.row

-- the lists after an exchange
abbrev pub exchanged_lists : Lists → Exchange → Lists
exchanged_lists t made =
    filled (with_changes (cleared t made.pair.leave) made.changes.items) made.pair.side made.entering

-- ---- turns

-- the value with the other sign
abbrev pub opposite : Fraction → Fraction
opposite f = record { num = neg_ℤ f.num; den = f.den }

-- the change, if there is one, is that of a slot, and in its row stand slots
abbrev pub AreChangesIn : Lists → Option Change → Type 0
AreChangesIn t None = Unit {0}
AreChangesIn t (Some change) = IsChangeIn t change

-- the line's other mark with the opposite value
abbrev pub turned_line : Lists → ℕ → Side → Lists
turned_line t line side =
    with_standing t line (record { side = Some side; value = opposite (standing_at t line).value })

-- the lists after a turn
abbrev pub turned_lists : Lists → ℕ → Side → Option Change → Lists
turned_lists t line side None = turned_line t line side
turned_lists t line side (Some change) = with_change (turned_line t line side) change

-- ---- what the changes and the listed lines are

-- each slot in whose row the entering line stands, but the leaving line's, has its change
abbrev pub ArePut : Lists → Pair → List Change → Type 0
ArePut t pair changes = (w : ℕ) → w ≢ pair.leave → entry t w pair.enter ≢ pos 0
    → Any (λ change. change.at ≡ w) changes

-- the entering line doesn't stand at the slots without a change, and neither line counts at such a level
abbrev pub IsRestUntouched : Lists → Pivot → List Change → Type 0
IsRestUntouched t pivot changes = (s : Swap) → IsPivotAt t pivot s → (w : ℕ) → w < length t.slots
    → w ≢ pivot.pair.enter → w ≢ pivot.pair.leave → All (λ change. change.at ≢ w) changes
    → IsUntouched t pivot.pair s w

-- it has these slots, and is what each exchange of them makes of the rows and values
abbrev pub IsExchangeBy : Lists → Pair → Exchange → Type 0
IsExchangeBy t pair made = (made.pair ≡ pair) × ((s : Swap) → IsPair t pair s → IsExchangeOf t made s)

-- the marks inside are those after the exchange
abbrev pub AreMarksAfter : Lists → Exchange → Lists → Type 0
AreMarksAfter t made u = (s : Swap) → IsExchangeOf t made s → SameMarks (marks_at u) (marks_after t s)

-- the leaving line and the outside lines of the entering line's row are listed, and all that were
pub record AreListedAfter (t : Lists) (made : Exchange) (old new : List ℕ) : Type 0 where
  pub leaving : Contains new made.pair.leave
  pub row : (c : ℕ) → coefficient c made.entering.row ≢ pos 0 → c ≢ made.pair.enter → Contains new c
  pub keeps : (w : ℕ) → Contains old w → Contains new w
  pub others : (w : ℕ) → Contains new w → Contains old w ⊎ IsOutsideAfter t made.pair w
