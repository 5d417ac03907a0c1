-- Small paths for the definitions of the first four clauses. The stay of x is at 0, and `x >= k` is required.
use Rattle.std.specs.Prelude.{ℕ, false, List, [], ◌∷◌, Option, None, Some}
use Rattle.frac_core.specs.declared.frac.TheConstants.{PART_BOUND}
use Rattle.problem_core.specs.declared.parts.Side.TheVariants.{Under, Over}
use Rattle.problem_core.specs.declared.parts.Mark.{Mark}
use Rattle.problem_core.specs.declared.stops.Quantity.{Quantity}
use Rattle.problem_core.specs.Corners.{Swap}
use Rattle.cert_core.specs.Paths.{Path}
use Rattle.corner_laws.specs.Examples.{over_row, over_stay, single, under_row}
use Rattle.path_lines.specs.declared.spots.Step.{Step}
use Rattle.path_claims.specs.declared.verdict.PathVerdict.TheVariants.{No}
use Rattle.path_lines.specs.Walking.FirstLines.{HasUnfitFirst}
use Rattle.path_claims.specs.PathClauses.{HoldToApart, HoldToSound, IsPathVerdict}
use Rattle.path_lines.specs.Sides.{AreSteps}
use Rattle.path_claims.specs.Ways.{IsRouteAt}
use Rattle.path_claims.specs.declared.verdict.TheConstants.{APART_CLAUSE, CORNER_CLAUSE}
use Rattle.path_claims.specs.declared.verdict.TheConstants.{EXCHANGES_CLAUSE, SOUND_CLAUSE}

-- x goes to its bound
abbrev pub to_bound : Swap
to_bound = record { enter = over_stay; leave = under_row }

-- and back
abbrev pub from_bound : Swap
from_bound = record { enter = under_row; leave = over_stay }

-- these exchanges from the corner where x is at its stay
abbrev pub going : List Swap → Path
going swaps = record { dual = false; corner = under_row ∷ []; swaps = swaps }

-- the same two by the places of the lines
abbrev pub to_bound_step : Step
to_bound_step = record { enter = record { at = 1; side = Over }; leave = record { at = 0; side = Under } }

-- the route has made no exchange; these marks of the path's first corner are inside, and the rest is to come
abbrev pub IsAtBegin : (before rest : List Mark) → Type 0
IsAtBegin before rest = IsRouteAt (single 5) (going []) (λ at. Unit {0}) before rest 0 None
    (Some Over ∷ None ∷ [])

-- whether all sums of first terms fit where the route begins
pub record SomeFirstFit : Type 0 where
  pub large : HasUnfitFirst (single PART_BOUND)
  pub small : HasUnfitFirst (single 5) → ⊥

-- marks that the route has brought in where it begins, marks that it has not, and swaps by places
pub record SomeWays : Type 0 where
  pub begun : IsAtBegin [] (under_row ∷ [])
  pub not_there : IsAtBegin (under_row ∷ []) [] → ⊥
  pub steps : AreSteps (single 5) (to_bound ∷ []) (to_bound_step ∷ [])
  pub one_is_left : AreSteps (single 5) (to_bound ∷ []) [] → ⊥

-- the clause fails, whatever quantity the path is shown with
abbrev pub Breaks : ℕ → Path → Type 0
Breaks clause path = (unfit : Option Quantity) → IsPathVerdict (single 5) path unfit (No clause)

-- no mark at all
abbrev pub no_marks : Path
no_marks = record { dual = false; corner = []; swaps = [] }

-- a lawful path, one without a corner, one with a swap that is no exchange, and one that comes back
pub record SomeVerdicts : Type 0 where
  pub lawful : HoldToApart (single 5) (going (to_bound ∷ []))
  pub no_mark : Breaks CORNER_CLAUSE no_marks
  pub no_mark_not : HoldToApart (single 5) no_marks → ⊥
  pub no_exchange : Breaks EXCHANGES_CLAUSE (going (from_bound ∷ []))
  pub no_exchange_not : HoldToApart (single 5) (going (from_bound ∷ [])) → ⊥
  pub back : Breaks APART_CLAUSE (going (to_bound ∷ from_bound ∷ []))
  pub back_not : HoldToApart (single 5) (going (to_bound ∷ from_bound ∷ [])) → ⊥
  pub lawful_not : Breaks EXCHANGES_CLAUSE (going (to_bound ∷ [])) → ⊥

-- if the row's over mark is inside, its value is below 0
abbrev pub below_bound : Path
below_bound = record { dual = false; corner = over_row ∷ []; swaps = [] }

-- a path without a negative value, and one with a negative value
pub record SomeValues : Type 0 where
  pub sound : HoldToSound (single 5) (going (to_bound ∷ [])) None
  pub sound_not : IsPathVerdict (single 5) (going (to_bound ∷ [])) None (No SOUND_CLAUSE) → ⊥
  pub negative : IsPathVerdict (single 5) below_bound None (No SOUND_CLAUSE)
  pub negative_not : HoldToSound (single 5) below_bound None → ⊥

-- the definitions of the first clauses hold in some small cases, and fail in others
pub record SomePathsHold : Type 0 where
  pub first : SomeFirstFit
  pub ways : SomeWays
  pub verdicts : SomeVerdicts
  pub values : SomeValues
