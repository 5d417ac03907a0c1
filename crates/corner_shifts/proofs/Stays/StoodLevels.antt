-- A priority level costs the same where the stays move to the attributes' values.
use Rattle.std.proofs.Common.{◌≡◌, ◌∙◌, ℕ, ◌+◌, ◌/◌, ◌<◌, ◌++◌, List, [], ◌∷◌, map, sym, ap, ap₂, ℤ, pos, ◌+ℤ◌, ◌*ℤ◌}
use Rattle.frac_core.specs.Fraction.{Fraction}
use Rattle.problem_core.specs.declared.parts.Mark.{Mark}
use Rattle.problem_core.specs.declared.parts.RowName.TheVariants.{Held}
use Rattle.problem_core.specs.declared.parts.Side.{Side}
use Rattle.problem_core.specs.declared.parts.Side.TheVariants.{Under, Over}
use Rattle.problem_core.specs.declared.parts.Stay.{Stay}
use Rattle.problem_core.specs.Layout.{Line, Problem, Row, line_of_row, lines, stay_lines, sum_of}
use Rattle.problem_core.specs.Kept.{IsWhole}
use Rattle.problem_core.specs.Certificates.{over_weight, under_weight, weight_at}
use Rattle.problem_core.specs.Corners.{IsCorner, place_of}
use Rattle.problem_core.specs.Levels.{IsCostAt, cost_at, line_cost, scales}
use Rattle.corner_lines.specs.Joins.{HaveStood, with_stays}
use Rattle.corner_lines.proofs.Costs.LevelPlaces.{cost_everywhere}
use Rattle.corner_lines.proofs.ProblemChanges.MovedStays.{stood_points}
use Rattle.corner_table.specs.declared.table.TheConstants.{LEVELS}
use Rattle.corner_table.proofs.Basics.StayCosts.{stays_cost}
use Rattle.corner_lines.specs.Shifts.{AreSeenAlike}
use Rattle.corner_view.proofs.Seen.SeenLines.{scales_seen}

-- the rows' cost is told by their marks
rows_cost : (s k : ℕ) (x y : ℕ → ℤ) (rows : List Row) (xs ys : List Line) → ((id : ℕ) (side : Side) → y (place_of (Held id) side) ≡ x (place_of (Held id) side))
    → sum_of (λ l. pos (s / l.scale) *ℤ line_cost k y l) ys ≡ sum_of (λ l. pos (s / l.scale) *ℤ line_cost k x l) xs
    → sum_of (λ l. pos (s / l.scale) *ℤ line_cost k y l) (map line_of_row rows ++ ys) ≡ sum_of (λ l. pos (s / l.scale) *ℤ line_cost k x l) (map line_of_row rows ++ xs)
rows_cost s k x y [] xs ys same e = e
rows_cost s k x y (r ∷ rows) xs ys same e =
    ap₂ ◌+ℤ◌
    (ap₂ (λ (u o : ℤ). pos (s / r.scale) *ℤ (pos (under_weight r.rel (weight_at (line_of_row r) k)) *ℤ u +ℤ pos (over_weight r.rel (weight_at (line_of_row r) k)) *ℤ o)) (same r.id Under) (same r.id Over))
    (rows_cost s k x y rows xs ys same e)

same_cost : (p : Problem) (new : List Stay) (k : ℕ) (x y : ℕ → ℤ) → AreSeenAlike (with_stays new p) p → k < LEVELS → ((id : ℕ) (side : Side) → y (place_of (Held id) side) ≡ x (place_of (Held id) side)) → cost_at (with_stays new p) k y ≡ cost_at p k x
same_cost p new k x y alike lt same =
    ap (λ (s : ℕ). sum_of (λ l. pos (s / l.scale) *ℤ line_cost k y l) (lines (with_stays new p))) (scales_seen (with_stays new p) p alike)
    ∙ rows_cost (scales p) k x y p.rows (stay_lines 1001 p.stays) (stay_lines 1001 new) same
    (stays_cost (scales p) k 1001 y new lt ∙ sym (stays_cost (scales p) k 1001 x p.stays lt))

pub cost_stood : (p : Problem) (at : List Mark) (new : List Stay) (k : ℕ) (f : Fraction) → IsWhole p → IsCorner p at → HaveStood p at new → AreSeenAlike (with_stays new p) p → k < LEVELS → IsCostAt p at k f → IsCostAt (with_stays new p) at k f
cost_stood p at new k f whole corner h alike lt cost =
    let (x, here, (y, there, one, marks)) = stood_points p at new whole corner h in (
      y,
      there,
      ap (λ (z : ℤ). z *ℤ pos f.den) (same_cost p new k x.num y.num alike lt marks)
          ∙ cost_everywhere p at k f x corner cost here
          ∙ ap₂ (λ (s : ℕ) (z : ℤ). f.num *ℤ (pos s *ℤ z)) (sym (scales_seen (with_stays new p) p alike)) (sym one),
    )
