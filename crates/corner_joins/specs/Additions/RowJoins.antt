-- How rows join the lists of a corner as lines.
use Rattle.std.specs.Prelude.{◌≡◌, ◌⊎◌, ℕ, ◌<◌, List, [], ◌∷◌, ◌++◌, length, map, pos, ◌<ℤ◌}
use Rattle.std.specs.Prelude.{◌≤ℤ◌, Some}
use Rattle.frac_core.specs.Fraction.{Fraction}
use Rattle.row_core.specs.Rows.{Term}
use Rattle.problem_core.specs.declared.parts.RowName.{RowName}
use Rattle.problem_core.specs.Changes.Stops.{TableStop}
use Rattle.frac_core.specs.declared.memory.Stop.TheVariants.{Refused, OutOfMemory as NoMemory}
use Rattle.problem_core.specs.Layout.{Row}
use Rattle.problem_core.specs.declared.parts.Side.TheVariants.{Under, Over}
use Rattle.corner_joins.specs.declared.joining.Sum.{Sum}
use Rattle.corner_table.specs.declared.table.Standing.{Standing}
use Rattle.corner_table.specs.declared.table.TheConstants.{MOST_SLOTS}
use Rattle.corner_table.specs.Tables.{Lists, line_slot, problem_of, row_at, standing_at}
use Rattle.version_lists.specs.Numbers.{IsNumbered}
use Rattle.corner_table.specs.Joining.{slot_of_row}
use Rattle.corner_exchange.specs.Swaps.Exchanges.{opposite}
use Rattle.corner_view.specs.Seen.{IsNamed}

-- with the row in the next slot, and all else as before
pub record IsPushed (r : Row) (old new : Lists) : Type 0 where
  pub standing : Standing
  pub own : List Term
  pub room : length old.slots < MOST_SLOTS
  pub rows : new.rows ≡ old.rows ++ (r ∷ [])
  pub stays : new.stays ≡ old.stays
  pub slots : new.slots ≡ old.slots ++ (slot_of_row r ∷ [])
  pub standings : new.standings ≡ old.standings ++ (standing ∷ [])
  pub matrix : new.matrix ≡ old.matrix ++ (own ∷ [])
  pub attr_slots : new.attr_slots ≡ old.attr_slots
  pub row_slots : IsNumbered r.id (length old.slots) old.row_slots new.row_slots
  pub priorities : new.priorities ≡ old.priorities

-- with the rows in the next slots, and all else as before
pub record ArePushed (more : List Row) (old new : Lists) : Type 0 where
  pub rows : new.rows ≡ old.rows ++ more
  pub stays : new.stays ≡ old.stays
  pub slots : new.slots ≡ old.slots ++ map slot_of_row more
  pub standings : (w : ℕ) → w < length old.slots → standing_at new w ≡ standing_at old w
  pub matrix : (w : ℕ) → w < length old.slots → row_at new w ≡ row_at old w
  pub lines : (name : RowName) → IsNamed (problem_of old) name → line_slot new name ≡ line_slot old name
  pub attr_slots : new.attr_slots ≡ old.attr_slots
  pub priorities : new.priorities ≡ old.priorities

-- where a quantity doesn't fit, the lists are as before
abbrev pub AreAsBefore : Lists → Lists → TableStop → Type 0
AreAsBefore old new (Refused quantity) = new ≡ old
AreAsBefore old new NoMemory = Unit {0}

-- ---- the row's slot

-- the mark that is not negative, over at 0, where this is the deviation
abbrev pub IsStandingOf : Fraction → Standing → Type 0
IsStandingOf f s = ((pos 0 ≤ℤ f.num) × (s ≡ record { side = Some Over; value = f }))
    ⊎ ((f.num <ℤ pos 0) × (s ≡ record { side = Some Under; value = opposite f }))

-- the sum is the row's deviation
abbrev pub IsPlaced : Row → Sum → Lists → Lists → Type 0
IsPlaced r sum old new = (h : IsPushed r old new) × IsStandingOf sum.value h.standing × (h.own ≡ sum.row)
