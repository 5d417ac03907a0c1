-- A corner is a square system, which has one solution whatever the constants are; and what is told as unfit
-- has a writing.
use Rattle.std.specs.Prelude.{◌≡◌, ℕ, List, ℤ, All}
use Rattle.problem_core.specs.declared.parts.Mark.{Mark}
use Rattle.problem_core.specs.declared.parts.RowName.{RowName}
use Rattle.problem_core.specs.declared.parts.Term.{Term}
use Rattle.problem_core.specs.declared.stops.What.{What}
use Rattle.problem_core.specs.declared.stops.What.TheVariants.{Attr, Mark as MarkOf, Level as LevelOf}
use Rattle.problem_core.specs.declared.stops.Quantity.{Quantity}
use Rattle.problem_core.specs.declared.stops.Quantity.TheVariants.{Plain, Terms, Rows, Shifts}
use Rattle.problem_core.specs.Layout.{Problem, Row}
use Rattle.problem_core.specs.Kept.{IsRow, IsWhole}
use Rattle.problem_core.specs.Corners.{IsCorner, IsWritingOf, attr_column, place}
use Rattle.problem_core.specs.Levels.{IsLevelAt, IsLevelWriting}
use Rattle.problem_core.specs.Rays.{HasRays}
use Rattle.problem_core.specs.Unfit.{AreSameButConstants, IsUnfit, first_terms, over_mark, with_first_rows}
use Rattle.problem_core.specs.Unfit.{with_first_shifts}

-- each outside mark can grow alone
abbrev pub CornerHasRays : Type 0
CornerHasRays = (p : Problem) (at : List Mark) → IsWhole p → IsCorner p at → HasRays p at

-- the marks are a corner too where the same rows have other constants
abbrev pub ConstantsKeepCorner : Type 0
ConstantsKeepCorner = (p : Problem) (rows : List Row) (at : List Mark) → IsWhole p → All IsRow rows
    → AreSameButConstants p.rows rows → IsCorner p at → IsCorner (record { rows = rows; stays = p.stays }) at

-- ---- writings

-- the quantity has a writing at the corner
abbrev pub HasWriting : Problem → List Mark → ((ℕ → ℤ) → ℤ) → Type 0
HasWriting p at quantity = (scale : ℕ) × (form : List Term) × (num : ℤ) × (den : ℕ)
    × IsWritingOf p at quantity scale form num den

-- the level's cost has one
abbrev pub HasLevelWriting : Problem → List Mark → ℕ → Type 0
HasLevelWriting p at k = (scale : ℕ) × (times : RowName → ℤ) × (reduced : ℕ → ℤ)
    × IsLevelWriting p at k scale times reduced

-- the attribute, the mark or the level has one
abbrev pub IsWrittenWhat : Problem → List Mark → What → Type 0
IsWrittenWhat p at (Attr attr) = HasWriting p at (λ x. x (attr_column attr))
IsWrittenWhat p at (MarkOf m) = HasWriting p at (λ x. x (place m))
IsWrittenWhat p at (LevelOf level) = (k : ℕ) → IsLevelAt p level k → HasLevelWriting p at k

-- the quantity has one in the problem in which it is judged, where these are the rows before
abbrev pub IsWrittenThere : Problem → List Row → List Mark → Quantity → Type 0
IsWrittenThere p old at (Plain what) = IsWrittenWhat p at what
IsWrittenThere p old at (Terms mark j) =
    All (λ r. mark ≡ over_mark r.id → HasWriting p at (first_terms r j)) p.rows
IsWrittenThere p old at (Rows level j) = (k : ℕ) → IsLevelAt p level k
    → HasLevelWriting (with_first_rows k j p) at k
IsWrittenThere p old at (Shifts what j) = IsWrittenWhat (with_first_shifts old j p) at what

-- what does not fit has a writing, which is not for want of one
abbrev pub UnfitIsWritten : Type 0
UnfitIsWritten = (p : Problem) (old : List Row) (at : List Mark) (q : Quantity) → IsWhole p → All IsRow old
    → IsCorner p at → IsUnfit p old at q → IsWrittenThere p old at q
