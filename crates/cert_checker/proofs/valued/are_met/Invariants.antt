use Rattle.std.proofs.Common.{◌≡◌, All, take}
use Rattle.problem_core.specs.Layout.{Assignment, Gives, error, line_of_row}
use Rattle.cert_checker.proofs.valued.are_met.Given as goal

abbrev pub invariant-loop-row : goal.invariant-loop-row
invariant-loop-row l = (x : Assignment) → Gives l.fn.values x → All (λ r. r.rank ≡ 1000 → error x (line_of_row r) ≡ 0) (take l.row-index l.fn.p.rows)
