use Rattle.std.proofs.Common.{◌≡◌, ℕ, Bool, ◌||◌, ◌&&◌, nat_eq, length, take}
use Rattle.problem_core.specs.Certificates.{Multipliers}
use Rattle.cert_checker.specs.LineSums.{line_count}
use Rattle.cert_checker.specs.Fronts.{AreFronts, AreOfLevel, names_line}
use Rattle.cert_checker.proofs.fronts.enter_lines.Given as goal

abbrev pub invariant-loop-line : goal.invariant-loop-line
invariant-loop-line l = record {
  count : length l.sides ≡ line_count l.fn.p;
  fronts : (m : Multipliers) (seen : ℕ → ℕ → Bool) → AreOfLevel l.fn.p m l.level l.scale l.weighted → AreFronts l.fn.p m seen l.fn.sides
      → AreFronts l.fn.p m (λ at k. seen at k || (names_line at (take l.line-index l.weighted) && nat_eq k l.level)) l.sides;
}
