-- Where a row that leaves has a stop, and where it has none: the row `x >= k` where x stands at k, and one of
-- three rows that lean on each other. And where the path of a removal begins.
use Rattle.std.specs.Prelude.{ℕ, List, [], ◌∷◌, ◌++◌, ℤ, pos, negsuc, false}
use Rattle.frac_core.specs.declared.frac.TheConstants.{PART_BOUND}
use Rattle.problem_core.specs.declared.limits.TheConstants.{REQUIRED}
use Rattle.problem_core.specs.declared.parts.Mark.{Mark}
use Rattle.problem_core.specs.declared.parts.Rel.TheVariants.{Ge}
use Rattle.problem_core.specs.declared.parts.RowName.TheVariants.{Stay as StayOf}
use Rattle.problem_core.specs.declared.parts.Side.TheVariants.{Under, Over}
use Rattle.problem_core.specs.declared.parts.Stay.{Stay}
use Rattle.problem_core.specs.declared.stops.What.TheVariants.{Attr, Mark as MarkOf}
use Rattle.problem_core.specs.declared.stops.Quantity.{Quantity}
use Rattle.problem_core.specs.declared.stops.Quantity.TheVariants.{Plain}
use Rattle.problem_core.specs.Kept.{IsWhole}
use Rattle.problem_core.specs.Layout.{Problem, Row}
use Rattle.problem_core.specs.Corners.{NoNegativeValue, Swap}
use Rattle.problem_core.specs.Changes.Begins.{ChangesNoValue, ComesFrom}
use Rattle.problem_core.specs.Unfit.{IsUnfitWhat, over_mark}
use Rattle.problem_core.specs.Window.{required_row, structural_rows, window_width}
use Rattle.cert_core.specs.declared.stops.UnfitPath.{UnfitPath}
use Rattle.cert_core.specs.declared.stops.RunStop.TheVariants.{Unfit}
use Rattle.corner_laws.specs.Examples.{at_least, over_row, over_stay, single}
use Rattle.marker_remove.specs.Freed.{DoStand, IsFreeStop}

-- one row `x >= k`, and the stay of x at k
abbrev pub standing : ℕ → Problem
standing k = record {
  rows = at_least k ∷ [];
  stays = record { attr = 1; target = record { num = pos k; den = 1 } } ∷ [];
}

-- that the quantity does not fit at these marks, as a stop says it
abbrev pub unfit_at : List Mark → Quantity → UnfitPath
unfit_at at quantity = record {
  path = record { dual = false; corner = at; swaps = [] };
  quantity = quantity;
}

-- x does not fit where the row's over mark is inside
abbrev pub x_over : UnfitPath
x_over = unfit_at (over_row ∷ []) (Plain (Attr 1))

-- the over mark of the row `x >= k` enters, and that of the stay of x leaves
abbrev pub row_for_stay : Swap
row_for_stay = record { enter = over_row; leave = over_stay }

-- ---- rows that lean on each other

-- the required row `a x + b y >= 0` of this number
abbrev pub through_origin : ℕ → ℤ → ℤ → Row
through_origin id a b = record {
  id = id;
  rank = REQUIRED;
  weight = 1;
  rel = Ge;
  scale = 1;
  constant = record { num = pos 0; den = 1 };
  terms = record { attr = 1; by = a } ∷ record { attr = 2; by = b } ∷ [];
}

-- `3000000 y >= 2 x`, `1500000 y >= x` and `1500000 x + y >= 0`, with the stays of x and y at 0
abbrev pub crossing : Problem
crossing = record {
  rows = through_origin 1 (negsuc 1) (pos 3000000) ∷ through_origin 2 (negsuc 0) (pos 1500000)
      ∷ through_origin 3 (pos 1500000) (pos 1) ∷ [];
  stays = record { attr = 1; target = record { num = pos 0; den = 1 } }
      ∷ record { attr = 2; target = record { num = pos 0; den = 1 } } ∷ [];
}

-- the over mark of the stay of y
abbrev pub over_second_stay : Mark
over_second_stay = record { row = StayOf 2; side = Over }

-- the corner that leans on the rows 2 and 3
abbrev pub leaning : List Mark
leaning = over_mark 1 ∷ over_stay ∷ over_second_stay ∷ []

-- the over mark of row 1 does not fit where that of row 2 is inside for that of the stay of x: there it grows
-- by more than PART_BOUND with the stay's under mark
abbrev pub first_over : UnfitPath
first_over = unfit_at (over_mark 1 ∷ over_mark 2 ∷ over_second_stay ∷ []) (Plain (MarkOf (over_mark 1)))

-- the corner leans on the row, and x is what may not fit once the row's mark is in; the exchange that brings
-- this in changes no value where the stay stands at the value of x, and does where it stands elsewhere
pub record SomeRowsCannotLeave : Type 0 where
  pub values : NoNegativeValue (standing PART_BOUND) (over_stay ∷ [])
  pub stands : DoStand (standing PART_BOUND) (over_stay ∷ [])
  pub unfit : IsFreeStop (standing PART_BOUND) (over_stay ∷ []) 1 (Unfit x_over)
  pub fits : IsFreeStop (standing 5) (over_stay ∷ []) 1 (Unfit x_over) → ⊥
  pub other_row : IsFreeStop (standing PART_BOUND) (over_stay ∷ []) 2 (Unfit x_over) → ⊥
  pub not_freed : (p : Problem) (at : List Mark) (id : ℕ) (quantity : Quantity)
      → IsFreeStop p at id (Unfit (unfit_at at quantity)) → ⊥
  pub same : ChangesNoValue (standing PART_BOUND) (over_stay ∷ []) row_for_stay
  pub moved : ChangesNoValue (single PART_BOUND) (over_stay ∷ []) row_for_stay → ⊥
  -- the same of a problem that the types hold, in which the mark fits before
  pub whole : IsWhole crossing
  pub whole_values : NoNegativeValue crossing leaning
  pub whole_stands : DoStand crossing leaning
  pub whole_fits : IsUnfitWhat crossing leaning (MarkOf (over_mark 1)) → ⊥
  pub whole_unfit : IsFreeStop crossing leaning 2 (Unfit first_over)

-- ---- where the path of a removal begins

-- the stay of an attribute at a whole number
abbrev pub stay_at : ℕ → ℕ → Stay
stay_at attr value = record { attr = attr; target = record { num = pos value; den = 1 } }

-- the under mark of an attribute's stay
abbrev pub under_stay_of : ℕ → Mark
under_stay_of attr = record { row = StayOf attr; side = Under }

-- the over mark of an attribute's stay
abbrev pub over_stay_of : ℕ → Mark
over_stay_of attr = record { row = StayOf attr; side = Over }

-- a session after its one line `constrain k window.width >= 5`, with the stays at the values
abbrev pub widened : Problem
widened = record {
  rows = structural_rows
      ++ required_row 5 window_width Ge (record { num = pos 5; den = 1 }) ∷ [];
  stays = stay_at 1 0 ∷ stay_at 2 0 ∷ stay_at 3 5 ∷ stay_at 4 0 ∷ [];
}

-- the corner that this session keeps leans on the line's row
abbrev pub on_line : List Mark
on_line = over_mark 3 ∷ over_mark 4 ∷ under_stay_of 1 ∷ under_stay_of 2 ∷ over_stay_of 3 ∷ []

-- what `remove k` begins with
abbrev pub off_line : List Mark
off_line = over_mark 3 ∷ over_mark 4 ∷ under_stay_of 1 ∷ under_stay_of 2 ∷ []

-- the over marks of three stays
abbrev pub others : List Mark
others = over_stay_of 2 ∷ over_stay_of 3 ∷ over_stay_of 4 ∷ []

-- those and the over mark of row 2
abbrev pub on_row : List Mark
on_row = over_mark 2 ∷ others

-- a stay's mark gives way to that of the row that leaves, and no mark of a row that stays does: whatever the
-- problem is, row 4 doesn't leave the mark of row 2 out
pub record SomeRemovalsBegin : Type 0 where
  pub line : ComesFrom widened on_line (5 ∷ []) (5 ∷ []) off_line
  pub not_for_row : (p : Problem) → ComesFrom p on_row (4 ∷ []) (4 ∷ []) others → ⊥
