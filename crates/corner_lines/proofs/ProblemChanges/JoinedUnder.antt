-- A row joins under: as over, with its two marks exchanged.
use Rattle.std.proofs.Common.{ℕ, List, ℤ, refl, subst}
use Rattle.problem_core.specs.declared.parts.Mark.{Mark}
use Rattle.problem_core.specs.declared.parts.RowName.{RowName}
use Rattle.problem_core.specs.declared.parts.Side.TheVariants.{Under}
use Rattle.problem_core.specs.Kept.{IsWhole}
use Rattle.problem_core.specs.Layout.{Problem, Row}
use Rattle.problem_core.specs.Corners.{IsCorner, IsExchange, Swap}
use Rattle.problem_core.specs.Rays.{HasRays}
use Rattle.problem_core.specs.Unfit.{over_mark, under_mark}
use Rattle.corner_laws.proofs.Rays.{rays_after}
use Rattle.corner_lines.specs.LineEquations.{IsLineEquation}
use Rattle.corner_lines.specs.Joins.{over_joined, under_joined, with_row}
use Rattle.corner_lines.proofs.ProblemChanges.JoinedLines.{joined_turns}
use Rattle.corner_lines.proofs.ProblemChanges.JoinedRows.{joined_corner, joined_rays, new-in, own-mark}
use Rattle.corner_lines.proofs.Lines.LineExchanges.{line_turns}
use Rattle.corner_lines.proofs.Lines.LineMoves.{turn_is_exchange}

abbrev own_swap : Row → Swap
own_swap r = record { enter = under_mark r.id; leave = over_mark r.id }

own-turn : (p : Problem) (at : List Mark) (r : Row) → IsWhole (with_row r p) → IsCorner p at → IsExchange (with_row r p) (over_joined r at) (own_swap r)
own-turn p at r whole corner = turn_is_exchange (with_row r p) (over_joined r at) (own_swap r) whole (joined_corner p at r whole corner) (new-in at (over_mark r.id)) refl refl

pub under_corner : (p : Problem) (at : List Mark) (r : Row) → IsWhole (with_row r p) → IsCorner p at → IsCorner (with_row r p) (under_joined r at)
under_corner p at r whole corner = subst (λ (ms : List Mark). IsCorner (with_row r p) ms) (joined_turns p at r whole corner) (own-turn p at r whole corner).corner

pub under_rays : (p : Problem) (at : List Mark) (r : Row) → IsWhole (with_row r p) → IsCorner p at → HasRays p at → HasRays (with_row r p) (under_joined r at)
under_rays p at r whole corner rays =
    subst (λ (ms : List Mark). HasRays (with_row r p) ms) (joined_turns p at r whole corner)
    (rays_after (with_row r p) (over_joined r at) (own_swap r) (own-mark p r Under) (own-turn p at r whole corner) (joined_rays p at r whole rays))

pub under_line : (p : Problem) (at : List Mark) (r : Row) (quantity : (ℕ → ℤ) → ℤ) (own : ℕ) (by : RowName → ℤ) (num : ℤ) (den : ℕ) → IsWhole (with_row r p) → IsCorner p at → IsLineEquation (with_row r p) (over_joined r at) quantity own by num den → IsLineEquation (with_row r p) (under_joined r at) quantity own by num den
under_line p at r quantity own by num den whole corner e =
    subst (λ (ms : List Mark). IsLineEquation (with_row r p) ms quantity own by num den) (joined_turns p at r whole corner)
    (line_turns (with_row r p) (over_joined r at) (own_swap r) quantity own by num den (joined_corner p at r whole corner) (new-in at (over_mark r.id)) refl e)
