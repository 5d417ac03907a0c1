-- What the type of a problem keeps gives what the laws ask of a problem.
use Rattle.std.proofs.Common.{ℕ, ◌+◌, ◌<◌, ◌≤◌, List, [], ◌∷◌, arith}
use Rattle.std.specs.List.{AllByRecursion as Each}
use Rattle.std.proofs.lemmas.List.Elements.{recursion_from_All, All-from_recursion, All-weaker}
use Rattle.problem_core.specs.declared.parts.Stay.{Stay}
use Rattle.problem_core.specs.Layout.{Problem, IsProblem, IsProper, lines, stay_lines}
use Rattle.problem_core.specs.Kept.{IsRow, IsStay, IsWhole}
use Rattle.problem_core.proofs.Forms.{each-impl}
use Rattle.problem_core.proofs.Best.Agreed.{each-lines}

stays-positive : (base : ℕ) (stays : List Stay) → Each IsStay stays → Each (λ l. (0 < l.scale) × (0 < l.den)) (stay_lines base stays)
stays-positive base [] h = tt
stays-positive base (s ∷ stays) h = ((omega arith, h.0.target.lowest.above), stays-positive (base + 1) stays h.1)

pub whole-IsProblem : (p : Problem) → IsWhole p → IsProblem p
whole-IsProblem p w =
    All-from_recursion (λ l. (0 < l.scale) × (0 < l.den)) (lines p)
    (each-lines (λ l. (0 < l.scale) × (0 < l.den)) p.rows (stay_lines 1001 p.stays)
    (each-impl IsRow _ p.rows (λ r h. (h.scale.0, h.constant.lowest.above)) (recursion_from_All IsRow p.rows w.rows))
    (stays-positive 1001 p.stays (recursion_from_All IsStay p.stays w.stays)))

pub whole-IsProper : (p : Problem) → IsWhole p → IsProper p
whole-IsProper p w = record {
  problem = whole-IsProblem p w;
  ranks = All-weaker IsRow (λ r. r.rank ≤ 1000) (λ r h. h.rank) p.rows w.rows;
  weights = All-weaker IsRow (λ r. 0 < r.weight) (λ r h. h.weight.0) p.rows w.rows;
  covered = w.covered;
}
