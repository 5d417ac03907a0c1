-- How a row that has joined the corner joins the cost of its level.
use Rattle.std.specs.Prelude.{◌≡◌, ◌≢◌, ◌⊎◌, ℕ, ◌+◌, ◌*◌, ◌/◌, ◌<◌, ◌≤◌, cond, nat_eq, List, [], ◌∷◌}
use Rattle.std.specs.Prelude.{◌++◌, false, slice_set, ℤ, pos, ◌+ℤ◌, ◌*ℤ◌, unsigned_abs, All, Any, Contains}
use Rattle.std.specs.Prelude.{Some, length}
use Rattle.std.specs.Int.{IsGcd}
use Rattle.frac_core.specs.Fraction as fractions
use Rattle.frac_core.specs.Fraction.{Fraction, IsFitting}
use Rattle.frac_core.specs.declared.frac.TheConstants.{PART_BOUND}
use Rattle.row_core.specs.Rows.{Term, coefficient, IsKeptRow, IsReduced, IsUnfit}
use Rattle.row_core.specs.declared.entry.Factors.{Factors}
use Rattle.problem_core.specs.declared.parts.RowName.TheVariants.{Held}
use Rattle.problem_core.specs.declared.parts.Side.{Side}
use Rattle.problem_core.specs.Changes.Stops.{TableStop}
use Rattle.frac_core.specs.declared.memory.Stop.TheVariants.{Refused, OutOfMemory as NoMemory}
use Rattle.problem_core.specs.Layout.{Problem, Row, rank_level}
use Rattle.problem_core.specs.Levels.{AreFitting, HasNoLevelWriting, IsCostAt}
use Rattle.problem_core.specs.Unfit.{IsUnfitRows, with_first_rows}
use Rattle.corner_laws.specs.Lifts.{HasOneIn}
use Rattle.corner_laws.specs.Units.{IsLevelUnit, IsReducedBy}
use Rattle.corner_lines.specs.LineEquations.{sign_of}
use Rattle.corner_lines.specs.Levels.LevelRows.{HasLevelRow}
use Rattle.corner_lines.specs.Levels.LevelJoins.{IsLeastMultiple, level_count}
use Rattle.corner_exchange.specs.declared.exchange.Change.{Change}
use Rattle.corner_joins.specs.declared.joining.Rise.{Rise}
use Rattle.corner_table.specs.declared.table.Slot.{Slot}
use Rattle.corner_table.specs.declared.table.TheConstants.{LEVELS}
use Rattle.corner_table.specs.Tables.{Lists, entry, line_slot, marks_at, priority_at, problem_of, row_at}
use Rattle.corner_table.specs.Tables.{marks_over, slot_at, standing_at}
use Rattle.problem_core.specs.Changes.Begins.{BeginsWith}
use Rattle.corner_table.specs.Kept.{IsKept, IsLineAt}
use Rattle.corner_joins.specs.Additions.RowJoins.{ArePushed}
use Rattle.version_lists.specs.Lists.{HasColumn}
use Rattle.cert_core.specs.declared.stops.RunStop.{RunStop}
use Rattle.cert_core.specs.declared.stops.RunStop.TheVariants.{Conflict, Unfit, Spent, OutOfMemory}
use Rattle.problem_core.specs.declared.parts.Level.TheVariants.{Priority as PriorityLevel}
use Rattle.problem_core.specs.declared.stops.Quantity.TheVariants.{Rows}
use Rattle.corner_table.specs.Kept.{IsOutsideSlot}
use Rattle.corner_writings.specs.Rows.{row_number}
use Rattle.corner_table.specs.Reads.LevelNumbers.{share_of, side_share}
use Rattle.corner_joins.specs.Additions.Parts.{IsNextRow, IsPartlyKept, IsRowsStop}

-- the row is the next of its level, with a mark inside, and this is its slot
pub record IsJoining (t : Lists) (r : Row) (line : ℕ) : Type 0 where
  pub next : IsNextRow t r
  pub inside : HasOneIn (marks_at t) r
  pub slot_is : line_slot t (Held r.id) ≡ line

-- lists that keep all but their levels, where the row of the line is the next of its level
pub record CanJoin (t : Lists) (line : ℕ) : Type 0 where
  pub kept : IsPartlyKept t
  pub row : Row
  pub is : IsJoining t row line
  pub within : line < length t.slots

-- the row is one of the lists', with a mark inside, and this is its slot
pub record IsHeldAt (t : Lists) (r : Row) (line : ℕ) : Type 0 where
  pub held : Any (λ s. s ≡ r) t.rows
  pub inside : HasOneIn (marks_at t) r
  pub slot_is : line_slot t (Held r.id) ≡ line

-- ---- units

-- the least multiple of the unit in which what the line counts is whole too
pub record IsLeastUnit (slot : Slot) (unit : ℤ) (next : ℕ) : Type 0 where
  pub divisor : ℕ
  pub divides : IsGcd (unsigned_abs slot.scale) (unsigned_abs slot.weight) divisor
  pub least : IsLeastMultiple (unsigned_abs unit) (unsigned_abs slot.scale / divisor) next

-- it is this one
pub record IsRise (slot : Slot) (unit : ℤ) (rise : Rise) : Type 0 where
  pub times : ℕ
  pub times_is : rise.times ≡ pos times
  pub above : 0 < times
  pub unit_is : rise.unit ≡ pos (times * unsigned_abs unit)
  pub least : IsLeastUnit slot unit (times * unsigned_abs unit)
  pub times_fits : IsFitting rise.times
  pub fits : IsFitting rise.unit

-- it does not fit
pub record IsUnfitRise (slot : Slot) (unit : ℤ) : Type 0 where
  pub times : ℕ
  pub above : 0 < times
  pub least : IsLeastUnit slot unit (times * unsigned_abs unit)
  pub unfit : PART_BOUND ≤ times * unsigned_abs unit

-- ---- rows

-- k and n to each other take the line's own number out, where the level's cost is taken so many times
pub record AreShareFactors (own line_own count times : ℤ) (by : Factors) : Type 0 where
  pub k : ℕ
  pub above : 0 < k
  pub k_is : by.k ≡ pos k *ℤ times
  pub same : by.n *ℤ line_own ≡ (own *ℤ count) *ℤ pos k

-- with them `own` is k times the level's own number where its cost is taken so many times
pub record AreUnitFactors (own times : ℤ) (by : Factors) : Type 0 where
  pub k : ℕ
  pub above : 0 < k
  pub k_is : by.k ≡ pos k
  pub same : (pos k *ℤ own +ℤ by.n) *ℤ times ≡ pos k *ℤ own

-- k and n take the line's own number out of its row and the level's, with what it counts
pub record IsShare (t : Lists) (old : List Term) (line : ℕ) (count : ℤ) (k : ℕ) (n : ℤ) : Type 0 where
  pub above : 0 < k
  pub same : n *ℤ entry t line line ≡ (coefficient (slot_at t line).home old *ℤ count) *ℤ pos k

-- the level's row with the line's, but without the line
abbrev pub shared_whole : Lists → List Term → ℕ → ℤ → ℕ → ℤ → ℕ → ℤ
shared_whole t old line times k n c =
    cond (nat_eq c line) (pos 0) ((pos k *ℤ times) *ℤ coefficient c old +ℤ n *ℤ entry t line c)

-- a factor above 0 times this row is the level's row with the line's, by such k and n
abbrev pub IsShared : Lists → List Term → ℕ → ℤ → ℤ → List Term → Type 0
IsShared t old line count times row = (k : ℕ) × (n : ℤ) × IsShare t old line count k n
    × IsReduced row (shared_whole t old line times k n)

-- want of memory, or this stop, where the level's row with the line's doesn't fit in lowest terms
abbrev pub IsShareStop : Lists → List Term → ℕ → ℤ → ℤ → TableStop → TableStop → Type 0
IsShareStop t old line count times stop e = (e ≡ NoMemory) ⊎ ((e ≡ stop)
    × ((k : ℕ) × (n : ℤ) × IsShare t old line count k n × IsUnfit (shared_whole t old line times k n)))

-- `own` is k times the level's own number where its cost is taken so many times
pub record IsUnitPart (row : List Term) (l : ℕ) (times : ℤ) (k : ℕ) (own : ℤ) : Type 0 where
  pub above : 0 < k
  pub same : own *ℤ times ≡ pos k *ℤ coefficient l row

-- k times the row's numbers, but at the level itself `own`
abbrev pub unit_whole : List Term → ℕ → ℕ → ℤ → ℕ → ℤ
unit_whole row l k own c = cond (nat_eq c l) own (pos k *ℤ coefficient c row)

-- up to a factor above 0 the new row is the level's where its cost is taken so many times
abbrev pub IsInUnit : List Term → ℕ → ℤ → List Term → Type 0
IsInUnit row l times new = (k : ℕ) × (own : ℤ) × IsUnitPart row l times k own
    × IsReduced new (unit_whole row l k own)

-- want of memory, or this stop, where that row doesn't fit in lowest terms
abbrev pub IsUnitStop : List Term → ℕ → ℤ → TableStop → TableStop → Type 0
IsUnitStop row l times stop e = (e ≡ NoMemory) ⊎ ((e ≡ stop)
    × ((k : ℕ) × (own : ℤ) × IsUnitPart row l times k own × IsUnfit (unit_whole row l k own)))

-- ---- a level's cost where its next row joins it

-- the problem in which the level's rows that have joined its cost, and the next one, have their weights there
abbrev pub with_next : Lists → ℕ → Problem
with_next t l = with_first_rows l ((priority_at t l).rows + 1) (problem_of t)

-- the level of the line
abbrev pub home_at : Lists → ℕ → ℕ
home_at t line = (slot_at t line).home

-- the line's level has this rise
abbrev pub IsRiseAt : Lists → ℕ → Rise → Type 0
IsRiseAt t line rise = IsRise (slot_at t line) (priority_at t (home_at t line)).unit rise

-- what the line's inside mark counts in this unit
abbrev pub IsCountOf : Lists → ℕ → ℤ → ℤ → Type 0
IsCountOf t line unit n = (side : Side) → (standing_at t line).side ≡ Some side
    → n ≡ pos (side_share (slot_at t line).rel side (share_of (slot_at t line) unit))

-- and the same, for the line's deviation
abbrev pub IsSignedCount : Lists → ℕ → ℤ → ℤ → Type 0
IsSignedCount t line unit n = (side : Side) → (standing_at t line).side ≡ Some side
    → n ≡ pos (side_share (slot_at t line).rel side (share_of (slot_at t line) unit)) *ℤ sign_of side

-- besides the level itself outside lines alone stand in the row
abbrev pub HasOutside : Lists → ℕ → List Term → Type 0
HasOutside t l row = (c : ℕ) → coefficient c row ≢ pos 0 → c ≢ l → IsOutsideSlot t c

-- the row of the line's level in this unit, where the line has joined it
pub record IsJoinedRow (t : Lists) (line : ℕ) (unit : ℤ) (row : List Term) : Type 0 where
  pub own : ℕ
  pub own_is : coefficient (home_at t line) row ≡ pos own
  pub level_row : HasLevelRow (with_next t (home_at t line)) (marks_at t) (home_at t line)
      (unsigned_abs unit) own (row_number t (home_at t line) row)
  pub columns : HasOutside t (home_at t line) row

-- want of memory, or a cost of the line's level that does not fit
abbrev pub IsCostStop : Lists → ℕ → TableStop → TableStop → Type 0
IsCostStop t line stop e = (e ≡ NoMemory) ⊎ ((e ≡ stop)
    × HasNoLevelWriting (with_next t (home_at t line)) (marks_at t) (home_at t line))

-- the level's unit, row and cost, which fit
pub record IsJoinedCost (t : Lists) (line : ℕ) (unit : ℤ) (change : Change) : Type 0 where
  pub at_is : change.at ≡ home_at t line
  pub size : ℕ
  pub unit_is : unit ≡ pos size
  pub row : IsJoinedRow t line (pos size) change.row
  pub least : IsLevelUnit (with_next t (home_at t line)) (home_at t line) size
  pub reduced : ℕ → ℤ
  pub reduced_by : IsReducedBy (with_next t (home_at t line)) (home_at t line) size row.own row.level_row.by
      reduced
  pub fits : AreFitting (with_next t (home_at t line)) (row.own * size) row.level_row.by reduced
  pub cost : IsCostAt (with_next t (home_at t line)) (marks_at t) (home_at t line) change.value
  pub row_kept : IsKeptRow change.row
  pub value_kept : fractions.IsKept change.value

-- ---- the lists where it has joined

-- with this row, cost and unit of the level, which has one row more
abbrev pub with_cost : Lists → ℕ → List Term → Fraction → ℤ → Lists
with_cost t l row value unit = record {
  rows = t.rows;
  stays = t.stays;
  slots = t.slots;
  standings = slice_set t.standings l (record { side = (standing_at t l).side; value = value });
  matrix = slice_set t.matrix l row;
  attr_slots = t.attr_slots;
  row_slots = t.row_slots;
  priorities = slice_set t.priorities l (record { unit = unit; rows = (priority_at t l).rows + 1 });
}

-- the lists with the cost of the line's level, which the line has joined
pub record IsCostJoined (t : Lists) (line : ℕ) (u : Lists) : Type 0 where
  pub unit : ℤ
  pub change : Change
  pub joined : IsJoinedCost t line unit change
  pub lists : u ≡ with_cost t (home_at t line) change.row change.value unit

-- the line's inside mark costs nothing
abbrev pub IsFreeLine : Lists → ℕ → Type 0
IsFreeLine t line = (side : Side) → (standing_at t line).side ≡ Some side
    → (n : ℕ) → side_share (slot_at t line).rel side n ≡ 0

-- want of memory, or the cost of the level's first rows that does not fit
abbrev pub IsJoinStop : Lists → ℕ → TableStop → Type 0
IsJoinStop t line stop = (r : Row) → IsJoining t r line → IsRowsStop t r stop

-- ---- all rows join their levels

-- the rows up to these have joined their levels, and these have joined the corner
pub record AreToJoin (t : Lists) (done rest : List Row) : Type 0 where
  pub rows : t.rows ≡ done ++ rest
  pub counts : (k : ℕ) → k < LEVELS → (priority_at t k).rows ≡ level_count k done
  pub inside : All (HasOneIn (marks_at t)) rest

-- where the line's inside mark costs, all lines of its row are listed
abbrev pub IsLineListed : Lists → List ℕ → ℕ → Type 0
IsLineListed t listed line = IsFreeLine t line
    ⊎ ((c : ℕ) → LEVELS ≤ c → c ≢ line → HasColumn c (row_at t line) → Contains listed c)

-- lines of the row alone are new
pub record IsNextListed (t : Lists) (line : ℕ) (old new : List ℕ) : Type 0 where
  pub keeps : (c : ℕ) → Contains old c → Contains new c
  pub listed : IsLineListed t new line
  pub others : (c : ℕ) → Contains new c → Contains old c
      ⊎ ((LEVELS ≤ c) × (c ≢ line) × HasColumn c (row_at t line))

-- the lists but for the levels are the same, and the rows' lines are listed
pub record AreCostsJoined (rows : List Row) (t : Lists) (old : List ℕ) (u : Lists) (new : List ℕ) : Type 0
  where
    pub rows_same : u.rows ≡ t.rows
    pub stays : u.stays ≡ t.stays
    pub slots : u.slots ≡ t.slots
    pub attr_slots : u.attr_slots ≡ t.attr_slots
    pub row_slots : u.row_slots ≡ t.row_slots
    pub marks : marks_at u ≡ marks_at t
    pub lines : (w : ℕ) → LEVELS ≤ w → row_at u w ≡ row_at t w
    pub sides : (w : ℕ) → (standing_at u w).side ≡ (standing_at t w).side
    pub values : (w : ℕ) → LEVELS ≤ w → standing_at u w ≡ standing_at t w
    pub keeps : (c : ℕ) → Contains old c → Contains new c
    pub listed : All (λ r. IsLineListed u new (line_slot u (Held r.id))) rows
    pub others : (c : ℕ) → Contains new c → Contains old c ⊎ IsLineAt t c

-- want of memory, or the path to where all rows have joined, with the cost of the first rows of a level up
-- to one of these
abbrev pub IsCostsStop : Lists → List Row → List Row → RunStop → Type 0
IsCostsStop t first rows (Conflict by) = ⊥
IsCostsStop t first rows (Spent path) = ⊥
IsCostsStop t first rows (Unfit at) =
    (at.path ≡ record { dual = false; corner = marks_over t []; swaps = [] })
    × ((done : List Row) × (r : Row) × (rest : List Row) × (rows ≡ done ++ (r ∷ rest))
    × ((j : ℕ) × (at.quantity ≡ Rows (PriorityLevel r.rank) j)
    × (j ≡ level_count (rank_level r.rank) (first ++ done) + 1)
    × IsUnfitRows (problem_of t) (marks_at t) (PriorityLevel r.rank) j))
IsCostsStop t first rows OutOfMemory = Unit {0}

-- the same, with the cost of the first rows of the line's level up to its own row
abbrev pub IsLineCostStop : Lists → ℕ → RunStop → Type 0
IsLineCostStop t line (Conflict by) = ⊥
IsLineCostStop t line (Spent path) = ⊥
IsLineCostStop t line (Unfit at) = (at.path ≡ record { dual = false; corner = marks_over t []; swaps = [] })
    × IsJoinStop t line (Refused at.quantity)
IsLineCostStop t line OutOfMemory = Unit {0}

-- the rows have joined the corner one by one, and then their levels
pub record AreAllJoined (rows : List Row) (t : Lists) (old : List ℕ) (u : Lists) (new : List ℕ) : Type 0 where
  pub mid : Lists
  pub pushed : ArePushed rows t mid
  pub begins : BeginsWith (problem_of mid) (marks_at t) rows [] (marks_at mid)
  pub joined : AreCostsJoined rows mid old u new
  pub kept : IsKept u
