-- The laws of a row or an attribute that is taken out.
use Rattle.std.specs.Prelude.{◌≢◌, [], ◌∷◌, ℕ, List}
use Rattle.problem_core.specs.Layout.{Problem}
use Rattle.problem_core.specs.Kept.{IsWhole}
use Rattle.problem_core.specs.Changes.Begins.{without_marks}
use Rattle.problem_core.specs.Corners.{IsCorner, IsIn, attr_column, place_of}
use Rattle.problem_core.specs.Rays.{HasRays}
use Rattle.problem_core.specs.Unfit.{IsUnfitWhat}
use Rattle.problem_core.specs.declared.parts.Mark.{Mark}
use Rattle.problem_core.specs.declared.parts.RowName.{RowName}
use Rattle.problem_core.specs.declared.parts.RowName.TheVariants.{Held, Stay as StayOf}
use Rattle.problem_core.specs.declared.parts.Side.{Side}
use Rattle.problem_core.specs.declared.stops.What.{What}
use Rattle.corner_lines.specs.LineEquations.{deviation}
use Rattle.corner_lines.specs.Removals.{HoldsWithoutAttr, HoldsWithoutRow, IsFree, without_attr, without_row}

-- without a row whose mark is inside, the other marks are a corner
abbrev pub WithoutRowIsCorner : Type 0
WithoutRowIsCorner = (p : Problem) (at : List Mark) (id : ℕ) (side : Side) → IsWhole p → IsCorner p at
    → IsIn (place_of (Held id) side) at → IsCorner (without_row id p) (without_marks (id ∷ []) at)

-- each outside mark can still grow alone
abbrev pub WithoutRowHasRays : Type 0
WithoutRowHasRays = (p : Problem) (at : List Mark) (id : ℕ) → HasRays p at
    → HasRays (without_row id p) (without_marks (id ∷ []) at)

-- the attributes' equations stay as they are
abbrev pub WithoutRowKeepsAttrs : Type 0
WithoutRowKeepsAttrs = (p : Problem) (at : List Mark) (id attr : ℕ) (side : Side) → IsWhole p
    → IsCorner p at → IsIn (place_of (Held id) side) at → HoldsWithoutRow p at id (λ x. x (attr_column attr))

-- the equations of the other lines' deviations stay as they are too
abbrev pub WithoutRowKeepsLines : Type 0
WithoutRowKeepsLines = (p : Problem) (at : List Mark) (id : ℕ) (name : RowName) (side : Side) → IsWhole p
    → IsCorner p at → IsIn (place_of (Held id) side) at → name ≢ Held id
    → HoldsWithoutRow p at id (deviation name)

-- the marks are a corner without an attribute that no row names
abbrev pub WithoutAttrIsCorner : Type 0
WithoutAttrIsCorner = (p : Problem) (at : List Mark) (attr : ℕ) → IsWhole p → IsCorner p at → IsFree p attr
    → IsCorner (without_attr attr p) at

-- each outside mark can still grow alone
abbrev pub WithoutAttrHasRays : Type 0
WithoutAttrHasRays = (p : Problem) (at : List Mark) (attr : ℕ) → HasRays p at
    → HasRays (without_attr attr p) at

-- the stay of such an attribute is outside
abbrev pub FreeStayIsOutside : Type 0
FreeStayIsOutside = (p : Problem) (at : List Mark) (attr : ℕ) (side : Side) → IsWhole p → IsCorner p at
    → IsFree p attr → IsIn (place_of (StayOf attr) side) at → ⊥

-- the other attributes' equations stay as they are
abbrev pub WithoutAttrKeepsAttrs : Type 0
WithoutAttrKeepsAttrs = (p : Problem) (at : List Mark) (attr other : ℕ) → IsWhole p → IsCorner p at
    → IsFree p attr → other ≢ attr → HoldsWithoutAttr p at attr (λ x. x (attr_column other))

-- the equations of the inside lines' deviations stay as they are too
abbrev pub WithoutAttrKeepsLines : Type 0
WithoutAttrKeepsLines = (p : Problem) (at : List Mark) (attr : ℕ) (name : RowName) (side : Side) → IsWhole p
    → IsCorner p at → IsFree p attr → IsIn (place_of name side) at
    → HoldsWithoutAttr p at attr (deviation name)

-- a quantity that does not fit beside such an attribute does not fit without it
abbrev pub LeftIsUnfit : Type 0
LeftIsUnfit = (p : Problem) (at : List Mark) (attr : ℕ) (what : What) → IsWhole p → IsCorner p at
    → IsFree p attr → IsUnfitWhat p at what → IsUnfitWhat (without_attr attr p) at what
