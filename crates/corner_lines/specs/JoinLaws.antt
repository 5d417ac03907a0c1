-- The laws of a row or an attribute that joins.
use Rattle.std.specs.Prelude.{◌≡◌, ◌<◌, [], ℕ, List}
use Rattle.frac_core.specs.Fraction.{Fraction}
use Rattle.problem_core.specs.Layout.{HasStay, Problem, Row}
use Rattle.problem_core.specs.Kept.{IsNumber, IsWhole}
use Rattle.problem_core.specs.Corners.{IsCorner, attr_column, exchanged}
use Rattle.problem_core.specs.Changes.Begins.{BeginsWith}
use Rattle.problem_core.specs.Rays.{HasRays}
use Rattle.problem_core.specs.Unfit.{over_mark, under_mark}
use Rattle.problem_core.specs.declared.parts.Mark.{Mark}
use Rattle.problem_core.specs.declared.parts.RowName.TheVariants.{Held}
use Rattle.problem_core.specs.declared.parts.Stay.{Stay}
use Rattle.corner_lines.specs.LineEquations.{deviation}
use Rattle.corner_lines.specs.Joins.{BeginsWithMore, AreToldUnfit, GivesDeviation, GoesOn, HasNoTerms}
use Rattle.corner_lines.specs.Joins.{HoldUnder, ComesToZero, HaveStood, HoldWithAttr, HoldWithRow}
use Rattle.corner_lines.specs.Joins.{IsLastToldUnfit, IsOwnDeviation, StaysAsWritten, over_joined}
use Rattle.corner_lines.specs.Joins.{under_joined, with_attr, with_row, with_stays}

-- a corner with a new row's over mark is a corner of the problem with the row
abbrev pub JoinedIsCorner : Type 0
JoinedIsCorner = (p : Problem) (at : List Mark) (r : Row) → IsWhole (with_row r p) → IsCorner p at
    → IsCorner (with_row r p) (over_joined r at)

-- each outside mark can grow alone there too
abbrev pub JoinedHasRays : Type 0
JoinedHasRays = (p : Problem) (at : List Mark) (r : Row) → IsWhole (with_row r p) → HasRays p at
    → HasRays (with_row r p) (over_joined r at)

-- all equations without a number for the row hold there
abbrev pub EquationsHoldWithRow : Type 0
EquationsHoldWithRow = (p : Problem) (at : List Mark) (r : Row) → IsWhole (with_row r p) → HoldWithRow p at r

-- no terms have the sum 0
abbrev pub NoTermsAreZero : Type 0
NoTermsAreZero = (p : Problem) (at : List Mark) (r : Row) → HasNoTerms p at r

-- the sum of a row's first terms goes on with the next attribute's equation
abbrev pub TermsGoOn : Type 0
TermsGoOn = (p : Problem) (at : List Mark) (r : Row) → GoesOn p at r

-- the sum of all terms gives the row's deviation
abbrev pub TermsGiveDeviation : Type 0
TermsGiveDeviation = (p : Problem) (at : List Mark) (r : Row) → IsWhole (with_row r p)
    → GivesDeviation (with_row r p) at r

-- if a sum of the first terms has no writing that fits, it may be the quantity that a stop names
abbrev pub TermsAreUnfit : Type 0
TermsAreUnfit = (p : Problem) (at : List Mark) (r : Row) → IsWhole (with_row r p) → AreToldUnfit p at r

-- if the over mark has no writing that fits, so may the whole sum less the constant
abbrev pub LastTermsAreUnfit : Type 0
LastTermsAreUnfit = (p : Problem) (at : List Mark) (r : Row) → IsWhole (with_row r p) → IsLastToldUnfit p at r

-- the row joins under by an exchange of its two marks
abbrev pub JoinedTurns : Type 0
JoinedTurns = (p : Problem) (at : List Mark) (r : Row) → IsWhole (with_row r p) → IsCorner p at
    → exchanged (record { enter = under_mark r.id; leave = over_mark r.id }) (over_joined r at) ≡ under_joined
    r at

-- a corner with a new row's under mark is a corner too
abbrev pub JoinedUnderIsCorner : Type 0
JoinedUnderIsCorner = (p : Problem) (at : List Mark) (r : Row) → IsWhole (with_row r p) → IsCorner p at
    → IsCorner (with_row r p) (under_joined r at)

-- each outside mark can grow alone there
abbrev pub JoinedUnderHasRays : Type 0
JoinedUnderHasRays = (p : Problem) (at : List Mark) (r : Row) → IsWhole (with_row r p) → IsCorner p at
    → HasRays p at → HasRays (with_row r p) (under_joined r at)

-- all equations are the same whether the row is over or under
abbrev pub JoinedUnderKeepsEquations : Type 0
JoinedUnderKeepsEquations = (p : Problem) (at : List Mark) (r : Row) → IsWhole (with_row r p)
    → IsCorner p at → HoldUnder p at r

-- a corner is a corner of the problem with a new attribute, whose stay is outside
abbrev pub AttrJoinsCorner : Type 0
AttrJoinsCorner = (p : Problem) (at : List Mark) (attr : ℕ) (target : Fraction) → IsWhole p → IsNumber attr
    → (HasStay p.stays attr → ⊥) → 0 < target.den → IsCorner p at → IsCorner (with_attr attr target p) at

-- each outside mark can grow alone there too
abbrev pub AttrJoinsRays : Type 0
AttrJoinsRays = (p : Problem) (at : List Mark) (attr : ℕ) (target : Fraction) → IsWhole p → IsNumber attr
    → (HasStay p.stays attr → ⊥) → 0 < target.den → HasRays p at → HasRays (with_attr attr target p) at

-- all equations without a number for the new stay hold there
abbrev pub EquationsHoldWithAttr : Type 0
EquationsHoldWithAttr = (p : Problem) (at : List Mark) (attr : ℕ) (target : Fraction)
    → HoldWithAttr p at attr target

-- the new attribute is its stay's target plus its stay's deviation
abbrev pub AttrIsOwnDeviation : Type 0
AttrIsOwnDeviation = (p : Problem) (at : List Mark) (attr : ℕ) (target : Fraction) → IsWhole p
    → IsNumber attr → (HasStay p.stays attr → ⊥) → 0 < target.den → IsCorner p at
    → IsOwnDeviation p at attr target

-- if the stays move to the values at a corner, it stays a corner
abbrev pub StoodIsCorner : Type 0
StoodIsCorner = (p : Problem) (at : List Mark) (stays : List Stay) → IsWhole p → IsCorner p at
    → HaveStood p at stays → IsCorner (with_stays stays p) at

-- each outside mark can still grow alone
abbrev pub StoodHasRays : Type 0
StoodHasRays = (p : Problem) (at : List Mark) (stays : List Stay) → IsWhole p → IsCorner p at
    → HaveStood p at stays → HasRays p at → HasRays (with_stays stays p) at

-- the attributes' equations stay as they are
abbrev pub StoodKeepsAttrs : Type 0
StoodKeepsAttrs = (p : Problem) (at : List Mark) (stays : List Stay) (attr : ℕ) → IsWhole p → IsCorner p at
    → HaveStood p at stays → StaysAsWritten p at stays (λ x. x (attr_column attr))

-- the equations of rows' deviations stay as they are
abbrev pub StoodKeepsRows : Type 0
StoodKeepsRows = (p : Problem) (at : List Mark) (stays : List Stay) (id : ℕ) → IsWhole p → IsCorner p at
    → HaveStood p at stays → StaysAsWritten p at stays (deviation (Held id))

-- the equations of the stays' deviations keep their numbers, and their values become 0
abbrev pub StoodClearsStays : Type 0
StoodClearsStays = (p : Problem) (at : List Mark) (stays : List Stay) (attr : ℕ) → IsWhole p → IsCorner p at
    → HaveStood p at stays → HasStay p.stays attr → ComesToZero p at stays attr

-- before a row joins, a path begins at the corner's own marks
abbrev pub PathBeginsWithNone : Type 0
PathBeginsWithNone = (p : Problem) (at : List Mark) → IsCorner p at → BeginsWith p at [] [] at

-- after rows have joined one by one, each with its mark that is not negative, a path begins
abbrev pub PathBeginsWithMore : Type 0
PathBeginsWithMore = (p : Problem) (kept at : List Mark) (joined : List Row) (r : Row)
    → IsWhole (with_row r p) → IsCorner p at → BeginsWith p kept joined [] at
    → BeginsWithMore p kept at joined r
