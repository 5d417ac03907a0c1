-- Whether the numbers of a level's new row fit.
use Rattle.std.specs.Prelude.{◌≡◌, ◌↔◌, ℕ, ◌-◌, Bool, true, false, cond, nat_eq, List, [], ◌∷◌, ℤ, pos, neg_ℤ}
use Rattle.std.specs.Prelude.{◌+ℤ◌, ◌-ℤ◌, ◌*ℤ◌, All, Some, None}
use Rattle.std.specs.declared.option.Option.{Option}
use Rattle.frac_core.specs.Fraction.{IsFitting}
use Rattle.row_core.specs.Rows.{Term, coefficient}
use Rattle.problem_core.specs.declared.parts.Mark.{Mark}
use Rattle.problem_core.specs.declared.parts.Rel.{Rel}
use Rattle.problem_core.specs.declared.parts.Rel.TheVariants.{Eq, Le, Ge}
use Rattle.problem_core.specs.declared.parts.RowName.TheVariants.{Held}
use Rattle.problem_core.specs.declared.parts.Side.{Side}
use Rattle.problem_core.specs.declared.parts.Side.TheVariants.{Under, Over}
use Rattle.problem_core.specs.Layout.{Problem, Row, lines, rank_level}
use Rattle.problem_core.specs.Corners.{IsIn, place_of}
use Rattle.problem_core.specs.Unfit.{with_first_rows}
use Rattle.corner_lines.specs.Levels.LevelFits.{IsFittingRow}
use Rattle.corner_lines.specs.LineEquations.{sign_of}
use Rattle.corner_writings.specs.declared.levels.fitting.Draft.{Draft}
use Rattle.corner_writings.specs.declared.levels.Pair.{Pair}
use Rattle.corner_table.specs.Tables.{Lists, line_slot, problem_of, slot_at, standing_at}
use Rattle.corner_writings.specs.Rows.{row_number}
use Rattle.corner_table.specs.Reads.LevelNumbers.{share_of}

-- the inside side of a slot after the exchange; where both lines of the pair are one, that line comes to the
-- pair's side, which is the other one at a turn, and the one it has where it only joins its level
abbrev pub side_after : Lists → Pair → ℕ → Option Side
side_after t pair c = cond (nat_eq c pair.enter) (Some pair.side)
    (cond (nat_eq c pair.leave) None (standing_at t c).side)

-- these marks are inside after the exchange, and no others of the problem
abbrev pub AreSidesAfter : Lists → Pair → List Mark → Type 0
AreSidesAfter t pair at = All (λ l. (side : Side)
    → IsIn (place_of l.name side) at ↔ (side_after t pair (line_slot t l.name) ≡ Some side))
    (lines (problem_of t))

-- the problem in which only the draft's rows of the level have weights there
abbrev pub drafted : Lists → Draft → Problem
drafted t draft = with_first_rows draft.level draft.rows (problem_of t)

-- the unit and the row's own number, and the marks after the draft's exchange
pub record IsDraftAt (t : Lists) (draft : Draft) (row : List Term) (at : List Mark) (unit own : ℕ) : Type 0
  where
    pub unit_is : draft.unit ≡ pos unit
    pub own_is : coefficient draft.level row ≡ pos own
    pub sides : AreSidesAfter t draft.pair at

-- the scale, the outside lines' numbers in the row, and both reduced costs of each line of the level fit
abbrev pub IsFittingDraft : Lists → Draft → List Term → List Mark → ℕ → ℕ → Type 0
IsFittingDraft t draft row at unit own =
    IsFittingRow (drafted t draft) at draft.level unit own (row_number t draft.level row)

-- ---- in contracts, at each list of these marks

-- all this fits
abbrev pub HasFittingRow : Lists → Draft → List Term → Type 0
HasFittingRow t draft row = (at : List Mark) (unit own : ℕ) → IsDraftAt t draft row at unit own
    → IsFittingDraft t draft row at unit own

-- not all of it fits
abbrev pub HasNoFittingRow : Lists → Draft → List Term → Type 0
HasNoFittingRow t draft row = (at : List Mark) (unit own : ℕ) → IsDraftAt t draft row at unit own
    → IsFittingDraft t draft row at unit own → ⊥

-- ---- a line of the level

-- what it counts on this side, where one to each side counts as often as `size` says
abbrev pub counted : Rel → Side → ℤ → ℤ
counted Eq side size = size
counted Le Under size = pos 0
counted Le Over size = size
counted Ge Under size = size
counted Ge Over size = pos 0

-- its number in the level's row, which is y where it is outside
abbrev pub number_by : Rel → Option Side → ℤ → ℤ → ℤ
number_by rel None y size = y
number_by rel (Some side) y size = neg_ℤ (sign_of side *ℤ counted rel side size)

-- both its reduced costs fit where this is its number
pub record AreFittingCosts (rel : Rel) (size times : ℤ) : Type 0 where
  pub over : IsFitting (counted rel Over size +ℤ times)
  pub under : IsFitting (counted rel Under size -ℤ times)

-- how often one to each side counts in the level's row
abbrev pub line_size : Lists → Draft → List Term → ℕ → ℤ
line_size t draft row w = coefficient draft.level row *ℤ pos (share_of (slot_at t w) draft.unit)

-- both reduced costs fit of the line of slot w
abbrev pub IsFittingLine : Lists → Draft → List Term → ℕ → Type 0
IsFittingLine t draft row w = AreFittingCosts (slot_at t w).rel (line_size t draft row w)
    (number_by (slot_at t w).rel (side_after t draft.pair w) (neg_ℤ (coefficient w row))
    (line_size t draft row w))

-- the first of the two where the condition is true, and else the second
abbrev pub either : Bool → Type 0 → Type 0 → Type 0
either true A B = A
either false A B = B

-- of these rows the first j of the level
abbrev pub AreFittingLines : Lists → Draft → List Term → ℕ → List Row → Type 0
AreFittingLines t draft row j [] = Unit {0}
AreFittingLines t draft row j (r ∷ rows) = either (nat_eq (rank_level r.rank) draft.level)
    (either (nat_eq j 0) (Unit {0})
    (IsFittingLine t draft row (line_slot t (Held r.id)) × AreFittingLines t draft row (j - 1) rows))
    (AreFittingLines t draft row j rows)
