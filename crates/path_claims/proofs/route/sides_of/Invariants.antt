use Rattle.std.proofs.Common.{◌≡◌, ◌≢◌, length, take, AllPairs}
use Rattle.problem_core.specs.Corners.{place}
use Rattle.problem_core.specs.Layout.{Problem}
use Rattle.problem_core.specs.Kept.{IsWhole}
use Rattle.path_lines.specs.Tables.{AreSides, names_of}
use Rattle.path_claims.proofs.route.sides_of.Given as goal

abbrev pub invariant-loop-mark : goal.invariant-loop-mark
invariant-loop-mark l = record {
  count : length l.sides.items ≡ length l.names;
  taken : (p : Problem) → IsWhole p → l.names ≡ names_of p → AreSides p (take l.mark-index l.marks) l.sides.items;
  apart : (p : Problem) → IsWhole p → l.names ≡ names_of p → AllPairs (λ m n. place m ≢ place n) (take l.mark-index l.marks);
}
