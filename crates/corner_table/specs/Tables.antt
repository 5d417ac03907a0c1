-- The lists in which a corner is kept, and what is read of them.
use Rattle.std.specs.Prelude.{◌≡◌, ◌≢◌, ◌↔◌, ◌⊎◌, ℕ, ◌+◌, ◌<◌, ◌≤◌, AllPairs, Contains, Bool, true}
use Rattle.std.specs.Prelude.{false, cond, nat_eq, List, [], ◌∷◌, ◌++◌, map, filter, ℤ, pos, neg_ℤ}
use Rattle.std.specs.Prelude.{slice_index_or}
use Rattle.std.specs.declared.option.Option.{Option}
use Rattle.std.specs.Prelude.{Some, None}
use Rattle.row_core.specs.Rows.{Term, coefficient}
use Rattle.version_lists.specs.Lists.{HasColumn}
use Rattle.problem_core.specs.Layout.{Row, Problem, lines, rank_level}
use Rattle.problem_core.specs.Window.{zero_fraction}
use Rattle.problem_core.specs.Corners.{marks_of}
use Rattle.problem_core.specs.Unfit.{over_mark}
use Rattle.problem_core.specs.declared.parts.Rel.TheVariants.{Eq}
use Rattle.problem_core.specs.declared.parts.Mark.{Mark}
use Rattle.problem_core.specs.declared.parts.Side.{Side}
use Rattle.problem_core.specs.declared.parts.Side.TheVariants.{Under, Over}
use Rattle.problem_core.specs.declared.parts.RowName.{RowName}
use Rattle.problem_core.specs.declared.parts.RowName.TheVariants.{Held, Stay as StayOf}
use Rattle.problem_core.specs.declared.parts.Stay.{Stay}
use Rattle.problem_core.specs.declared.parts.Level.{Level}
use Rattle.problem_core.specs.declared.parts.Level.TheVariants.{Priority, Stay as StayLevel}
use Rattle.problem_core.specs.declared.stops.What.{What}
use Rattle.problem_core.specs.declared.stops.What.TheVariants.{Attr as AttrOf, Mark as MarkOf}
use Rattle.problem_core.specs.declared.stops.What.TheVariants.{Level as LevelOf}
use Rattle.corner_view.specs.declared.types.Owner.TheVariants.{Level as LevelSlot}
use Rattle.corner_table.specs.declared.table.TheConstants.{LEVELS}
use Rattle.corner_table.specs.declared.table.Slot.{Slot}
use Rattle.corner_table.specs.declared.table.Standing.{Standing}
use Rattle.corner_table.specs.declared.table.Priority as priority_type
use Rattle.corner_table.specs.declared.table.Table.{Table}
use Rattle.corner_lines.specs.LineEquations.{sign_of}
use Rattle.corner_view.specs.Seen.{Scene}

-- the lists as they are now, or were at a mark
pub record Lists : Type 0 where
  pub rows : List Row
  pub stays : List Stay
  pub slots : List Slot
  pub standings : List Standing
  pub matrix : List (List Term)
  pub attr_slots : List ℕ
  pub row_slots : List ℕ
  pub priorities : List priority_type.Priority

-- the lists as they are now
abbrev pub lists_of : Table → Lists
lists_of t = record {
  rows = t.rows.items;
  stays = t.stays.items;
  slots = t.slots.items;
  standings = t.standings.items;
  matrix = t.matrix.rows;
  attr_slots = t.attr_slots.items;
  row_slots = t.row_slots.items;
  priorities = t.priorities.items;
}

-- ---- by slot

-- of nothing
abbrev pub no_slot : Slot
no_slot = record { owner = LevelSlot; home = 0; rank = 0; weight = pos 1; scale = pos 1; rel = Eq }

-- where a slot of nothing stands
abbrev pub no_standing : Standing
no_standing = record { side = None; value = zero_fraction }

-- what the slot says; past the last one it is of nothing
abbrev pub slot_at : Lists → ℕ → Slot
slot_at t w = slice_index_or t.slots w no_slot

-- the slot's side, if it is an inside line's, and its value; past the last one no side, and 0
abbrev pub standing_at : Lists → ℕ → Standing
standing_at t w = slice_index_or t.standings w no_standing

-- the unit of a level's cost, and how many rows the level has; past the last level 1 and none
abbrev pub priority_at : Lists → ℕ → priority_type.Priority
priority_at t k = slice_index_or t.priorities k (record { unit = pos 1; rows = 0 })

-- the slot's row, with nothing in it past the last slot
abbrev pub row_at : Lists → ℕ → List Term
row_at t w = slice_index_or t.matrix w []

-- the number of the row of w at the slot c
abbrev pub entry : Lists → ℕ → ℕ → ℤ
entry t w c = coefficient c (row_at t w)

-- the slots past those of the levels in whose rows the slot c stands, rising
pub record AreMoved (t : Lists) (c : ℕ) (slots : List ℕ) : Type 0 where
  pub rising : AllPairs (λ v w. v < w) slots
  pub exact : (w : ℕ) → Contains slots w ↔ ((LEVELS ≤ w) × (entry t w c ≢ pos 0))

-- what is listed once a row was gone through, of which these are the terms: each line in them too, but not w
pub record IsListedOf (w : ℕ) (row : List Term) (old new : List ℕ) : Type 0 where
  pub keeps : (c : ℕ) → Contains old c → Contains new c
  pub has : (c : ℕ) → LEVELS ≤ c → c ≢ w → HasColumn c row → Contains new c
  pub others : (c : ℕ) → Contains new c → Contains old c ⊎ ((LEVELS ≤ c) × (c ≢ w) × HasColumn c row)

-- ---- by name

-- the slot that is listed for the attribute, 0 where none is
abbrev pub attr_slot : Lists → ℕ → ℕ
attr_slot t attr = slice_index_or t.attr_slots attr 0

-- the slot of a line; a stay's comes behind that of its attribute
abbrev pub line_slot : Lists → RowName → ℕ
line_slot t (Held id) = slice_index_or t.row_slots id 0
line_slot t (StayOf attr) = attr_slot t attr + 1

-- the rank of the level of an attribute's stay
abbrev pub stay_rank : Lists → ℕ → ℕ
stay_rank t attr = (slot_at t (attr_slot t attr + 1)).rank

-- the slot whose row is the level's cost: of a stay's that of the stay
abbrev pub level_slot : Lists → Level → ℕ
level_slot t (Priority rank) = rank_level rank
level_slot t (StayLevel attr) = attr_slot t attr + 1

-- the slot of an attribute, of a mark's line, or of a level's cost
abbrev pub what_slot : Lists → What → ℕ
what_slot t (AttrOf attr) = attr_slot t attr
what_slot t (MarkOf m) = line_slot t m.row
what_slot t (LevelOf level) = level_slot t level

-- the number of a line in what the row of w says: its own number times the slot is the sum of these times the
-- lines' deviations
abbrev pub number : Lists → ℕ → RowName → ℤ
number t w name = cond (nat_eq (line_slot t name) w) (pos 0) (neg_ℤ (entry t w (line_slot t name)))

-- both are under, or both are over
abbrev pub same_side : Side → Side → Bool
same_side Under Under = true
same_side Under Over = false
same_side Over Under = false
same_side Over Over = true

-- there is a side, and it is this one
abbrev pub is_side : Option Side → Side → Bool
is_side None s = false
is_side (Some t) s = same_side t s

-- it is a mark of the line
abbrev pub IsOfLine : What → RowName → Type 0
IsOfLine (AttrOf attr) name = ⊥
IsOfLine (MarkOf m) name = m.row ≡ name
IsOfLine (LevelOf level) name = ⊥

-- 1 or -1
abbrev pub IsSign : ℤ → Type 0
IsSign z = (z ≡ pos 1) ⊎ (z ≡ neg_ℤ (pos 1))

-- the sign of a mark, 1 of all else
abbrev pub sign_of_what : What → ℤ
sign_of_what (AttrOf attr) = pos 1
sign_of_what (MarkOf m) = sign_of m.side
sign_of_what (LevelOf level) = pos 1

-- the mark is inside
abbrev pub stands_in : Lists → Mark → Bool
stands_in t m = is_side (standing_at t (line_slot t m.row)).side m.side

-- ---- what they stand for

-- the problem of the lists' rows and stays
abbrev pub problem_of : Lists → Problem
problem_of t = record { rows = t.rows; stays = t.stays }

-- the marks inside, in the order of the lines
abbrev pub marks_at : Lists → List Mark
marks_at t = filter (stands_in t) (marks_of (lines (problem_of t)))

-- the marks inside of the lines of these names
abbrev pub inside_of : Lists → List RowName → List Mark
inside_of t [] = []
inside_of t (name ∷ names) =
    filter (stands_in t) (record { row = name; side = Under } ∷ record { row = name; side = Over } ∷ [])
    ++ inside_of t names

-- the rows' names, in their order
abbrev pub row_names : Lists → List RowName
row_names t = map (λ r. Held r.id) t.rows

-- the stays' names, in their order
abbrev pub stay_names : Lists → List RowName
stay_names t = map (λ s. StayOf s.attr) t.stays

-- the marks inside, with the over marks of these rows before those of the stays
abbrev pub marks_over : Lists → List Row → List Mark
marks_over t rest = inside_of t (row_names t)
    ++ (map (λ r. over_mark r.id) rest ++ inside_of t (stay_names t))

-- the problem of the lists, with the marks inside
abbrev pub scene_at : Lists → Scene
scene_at t = record { problem = problem_of t; marks = marks_at t }
