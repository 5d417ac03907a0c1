-- What the lists of a corner keep.
use Rattle.std.specs.Prelude.{◌≡◌, ◌≢◌, ◌⊎◌, ℕ, ◌^◌, ◌*◌, ◌<◌, ◌≤◌, ◌+◌, cond, nat_eq, [], filter}
use Rattle.std.specs.Prelude.{length}
use Rattle.std.specs.Prelude.{ℤ, pos, ◌*ℤ◌, All, Any, AllPairs, Some, None}
use Rattle.std.specs.declared.option.Option.{Option}
use Rattle.frac_core.specs.Fraction.{IsFitting}
use Rattle.frac_core.specs.Fraction as fractions
use Rattle.row_core.specs.Rows.{IsKeptRow}
use Rattle.problem_core.specs.declared.parts.RowName.{RowName}
use Rattle.problem_core.specs.declared.parts.RowName.TheVariants.{Held, Stay as StayOf}
use Rattle.problem_core.specs.declared.parts.Side.{Side}
use Rattle.problem_core.specs.declared.parts.Stay.{Stay}
use Rattle.problem_core.specs.declared.stops.What.{What}
use Rattle.problem_core.specs.declared.stops.What.TheVariants.{Attr as AttrOf, Mark as MarkOf}
use Rattle.problem_core.specs.declared.stops.What.TheVariants.{Level as LevelOf}
use Rattle.problem_core.specs.Layout.{HasStay, Line, Problem, lines, rank_level}
use Rattle.problem_core.specs.Window.{zero_fraction}
use Rattle.problem_core.specs.Kept.{IsWhole}
use Rattle.problem_core.specs.Corners.{IsCorner, attr_column}
use Rattle.problem_core.specs.Levels.{AreFitting, IsCostAt, IsLevelAt}
use Rattle.problem_core.specs.Rays.{HasRays}
use Rattle.corner_laws.specs.Units.{IsLevelRow, IsLevelUnit, IsReducedBy}
use Rattle.corner_lines.specs.LineEquations.{IsLineEquation, IsOutsideLine, deviation, sign_of}
use Rattle.corner_view.specs.declared.types.Owner.{Owner}
use Rattle.corner_view.specs.declared.types.Owner.TheVariants.{Level as LevelSlot, Attr as AttrSlot}
use Rattle.corner_view.specs.declared.types.Owner.TheVariants.{Line as LineSlot}
use Rattle.corner_table.specs.declared.table.TheConstants.{LEVELS, MOST_SLOTS, OWN_RANK, SPARE_SLOTS}
use Rattle.corner_table.specs.Tables.{Lists, attr_slot, entry, line_slot, marks_at, number, priority_at}
use Rattle.corner_table.specs.Tables.{problem_of}
use Rattle.corner_table.specs.Tables.{row_at, slot_at, standing_at, stay_rank}

-- ---- slots

-- the slot is one, past those of the levels
abbrev pub IsSlot : Lists → ℕ → Type 0
IsSlot t w = (LEVELS ≤ w) × (w < length t.slots)

-- an outside line's slot
abbrev pub IsOutsideSlot : Lists → ℕ → Type 0
IsOutsideSlot t c = IsSlot t c × ((standing_at t c).side ≡ None)
    × ((name : RowName) × ((slot_at t c).owner ≡ LineSlot name))

-- the slot whose row is the cost of the line's level: that of the level, of a stay its own
abbrev pub home_of : Lists → Line → RowName → ℕ
home_of t l (Held id) = l.level
home_of t l (StayOf attr) = line_slot t (StayOf attr)

-- the line has a slot, which says what it is
pub record IsLineSlot (t : Lists) (l : Line) : Type 0 where
  pub slot : IsSlot t (line_slot t l.name)
  pub owner : (slot_at t (line_slot t l.name)).owner ≡ LineSlot l.name
  pub home : (slot_at t (line_slot t l.name)).home ≡ home_of t l l.name
  pub weight : (slot_at t (line_slot t l.name)).weight ≡ pos l.weight
  pub scale : (slot_at t (line_slot t l.name)).scale ≡ pos l.scale
  pub rel : (slot_at t (line_slot t l.name)).rel ≡ l.rel

-- the attribute has a slot, which says that it is the attribute's
pub record IsAttrSlot (t : Lists) (attr : ℕ) : Type 0 where
  pub slot : IsSlot t (attr_slot t attr)
  pub owner : (slot_at t (attr_slot t attr)).owner ≡ AttrSlot attr

-- what the slot says is of the problem, and is at the slot; a slot past the levels' may be of nothing
abbrev pub IsOwned : Lists → ℕ → Owner → Type 0
IsOwned t w LevelSlot = Unit {0}
IsOwned t w (AttrSlot attr) = HasStay t.stays attr × (attr_slot t attr ≡ w)
IsOwned t w (LineSlot name) = Any (λ l. l.name ≡ name) (lines (problem_of t)) × (line_slot t name ≡ w)

-- what the slot is of is a stay's line
abbrev pub IsStayOwner : Owner → Type 0
IsStayOwner LevelSlot = ⊥
IsStayOwner (AttrSlot attr) = ⊥
IsStayOwner (LineSlot (Held id)) = ⊥
IsStayOwner (LineSlot (StayOf attr)) = Unit {0}

-- each attribute, stay and row has a slot, and each slot past the levels' is one of theirs or of nothing, and
-- another slot may follow an attribute's; a level is stronger than another where its rank is lower: those of
-- the priority levels are their numbers, and those of the stays' come in their order, behind them; no rank is
-- above the slot's own, and of two stays of which the first by slot has its own rank the other has a higher
-- one
pub record AreSlots (t : Lists) : Type 0 where
  pub standings : length t.standings ≡ length t.slots
  pub matrix : length t.matrix ≡ length t.slots
  pub levels : LEVELS ≤ length t.slots
  pub room : All (λ s. attr_slot t s.attr + 1 < 2 ^ 32) t.stays
  pub priorities : length t.priorities ≡ LEVELS
  pub attrs : All (λ s. IsAttrSlot t s.attr) t.stays
  pub lines : All (IsLineSlot t) (lines (problem_of t))
  pub owners : (w : ℕ) → IsSlot t w → IsOwned t w (slot_at t w).owner
  pub level_owners : (w : ℕ) → w < LEVELS → (slot_at t w).owner ≡ LevelSlot
  pub level_homes : (w : ℕ) → w < LEVELS → (slot_at t w).home ≡ w
  pub level_ranks : (w : ℕ) → w < LEVELS → (slot_at t w).rank ≡ w
  pub stay_ranks : All (λ s. LEVELS ≤ stay_rank t s.attr) t.stays
  pub stays_rise : AllPairs (λ s r. stay_rank t s.attr < stay_rank t r.attr) t.stays
  pub ranks : (w : ℕ) → (slot_at t w).rank ≤ OWN_RANK + w
  pub own_last : (v w : ℕ) → v < w → IsStayOwner (slot_at t v).owner → IsStayOwner (slot_at t w).owner
      → OWN_RANK ≤ (slot_at t v).rank → (slot_at t v).rank < (slot_at t w).rank

-- the slot is a line's
abbrev pub IsLineAt : Lists → ℕ → Type 0
IsLineAt t w = IsSlot t w × ((name : RowName) × ((slot_at t w).owner ≡ LineSlot name))

-- how many slots past those of the levels are of something: two for an attribute and its stay, one for a row
abbrev pub taken_slots : Lists → ℕ
taken_slots t = 2 * length t.stays + length t.rows

-- past those of the levels there are at most twice as many slots as are of something, and some more
abbrev pub HasSlotsLeft : Lists → Type 0
HasSlotsLeft t = length t.slots ≤ LEVELS + 2 * taken_slots t + SPARE_SLOTS

-- there are not too many slots, whatever came and left, and those of nothing have no row
pub record AreStored (t : Lists) : Type 0 where
  pub few : length t.slots ≤ MOST_SLOTS
  pub empty : (w : ℕ) → LEVELS ≤ w → (slot_at t w).owner ≡ LevelSlot → row_at t w ≡ []

-- the slot's row is the cost of a level
abbrev pub HasCost : Lists → ℕ → Type 0
HasCost t w = (w < LEVELS) ⊎ IsStayOwner (slot_at t w).owner

-- the problem has it
abbrev pub IsHeld : Problem → What → Type 0
IsHeld p (AttrOf attr) = HasStay p.stays attr
IsHeld p (MarkOf m) = Any (λ l. l.name ≡ m.row) (lines p)
IsHeld p (LevelOf level) = (k : ℕ) × IsLevelAt p level k

-- ---- rows

-- the row of the slot and a value are an equation of the quantity
abbrev pub IsEquationAt : Lists → ((ℕ → ℤ) → ℤ) → ℕ → ℤ → ℕ → Type 0
IsEquationAt t quantity w num den = (own : ℕ) × (entry t w w ≡ pos own)
    × IsLineEquation (problem_of t) (marks_at t) quantity own (number t w) num den

-- an inside line's row and the value of its inside mark are an equation of its deviation; an outside line has
-- neither
abbrev pub IsLineRow : Lists → RowName → Option Side → Type 0
IsLineRow t name (Some side) = IsEquationAt t (deviation name) (line_slot t name)
    (sign_of side *ℤ (standing_at t (line_slot t name)).value.num)
    (standing_at t (line_slot t name)).value.den
IsLineRow t name None = (row_at t (line_slot t name) ≡ [])
    × ((standing_at t (line_slot t name)).value ≡ zero_fraction)

-- the attribute's row and its value are an equation of it
abbrev pub IsAttrRow : Lists → ℕ → Type 0
IsAttrRow t attr = IsEquationAt t (λ x. x (attr_column attr)) (attr_slot t attr)
    (standing_at t (attr_slot t attr)).value.num (standing_at t (attr_slot t attr)).value.den

-- besides a slot itself, outside lines alone stand in its row
abbrev pub AreOutside : Lists → Type 0
AreOutside t = (w c : ℕ) → entry t w c ≢ pos 0 → c ≢ w
    → IsSlot t c × ((standing_at t c).side ≡ None)
    × ((name : RowName) × ((slot_at t c).owner ≡ LineSlot name))

-- ---- levels

-- how many rows the level has
abbrev pub row_count : Lists → ℕ → ℕ
row_count t k = length (filter (λ r. nat_eq (rank_level r.rank) k) t.rows)

-- the number of a level's row, 1 where it has none
abbrev pub level_own : Lists → ℕ → ℤ
level_own t k = cond (nat_eq (priority_at t k).rows 0) (pos 1) (entry t k k)

-- the numbers of a level's row, which fit
pub record HasLevelNumbers (t : Lists) (k unit own : ℕ) : Type 0 where
  pub by : RowName → ℤ
  pub reduced : ℕ → ℤ
  pub row : IsLevelRow (problem_of t) (marks_at t) k unit own by
  pub outside : All (λ l. IsOutsideLine (marks_at t) l.name → by l.name ≡ number t k l.name)
      (lines (problem_of t))
  pub reduced_by : IsReducedBy (problem_of t) k unit own by reduced
  pub fits : AreFitting (problem_of t) (own * unit) by reduced

-- a level's unit, row and cost
pub record IsLevelKept (t : Lists) (k : ℕ) : Type 0 where
  pub unit : ℕ
  pub own : ℕ
  pub unit_is : (priority_at t k).unit ≡ pos unit
  pub own_is : level_own t k ≡ pos own
  pub rows : (priority_at t k).rows ≡ row_count t k
  pub empty : row_count t k ≡ 0 → row_at t k ≡ []
  pub least : IsLevelUnit (problem_of t) k unit
  pub numbers : HasLevelNumbers t k unit own
  pub cost : IsCostAt (problem_of t) (marks_at t) k (standing_at t k).value

-- a stay's level has room for both marks' costs
abbrev pub HasStayRoom : Lists → Stay → Type 0
HasStayRoom t s = IsFitting (pos 2 *ℤ entry t (line_slot t (StayOf s.attr)) (line_slot t (StayOf s.attr)))

-- ---- all of it

-- the marks inside are a corner's; the rows and values are the equations of the attributes and the inside
-- lines, and the costs of the levels, by the outside lines
pub record IsKept (t : Lists) : Type 0 where
  pub whole : IsWhole (problem_of t)
  pub corner : IsCorner (problem_of t) (marks_at t)
  pub rays : HasRays (problem_of t) (marks_at t)
  pub slots : AreSlots t
  pub stored : AreStored t
  pub matrix : All IsKeptRow t.matrix
  pub values : All (λ s. fractions.IsKept s.value) t.standings
  pub attrs : All (λ s. IsAttrRow t s.attr) t.stays
  pub lines : All (λ l. IsLineRow t l.name (standing_at t (line_slot t l.name)).side) (lines (problem_of t))
  pub outside : AreOutside t
  pub levels : (k : ℕ) → k < LEVELS → IsLevelKept t k
  pub stay_levels : All (HasStayRoom t) t.stays
