use Rattle.std.proofs.Common.{◌≡◌, length, All, take}
use Rattle.problem_core.specs.Certificates.{Multipliers}
use Rattle.cert_checker.specs.LineSums.{line_count}
use Rattle.cert_checker.specs.Fronts.{AreFronts, AreOfLevel, seen_by}
use Rattle.cert_checker.proofs.fronts.enter_levels.Given as goal

abbrev pub invariant-loop-q : goal.invariant-loop-q
invariant-loop-q l = record {
  count : length l.sides ≡ line_count l.fn.p;
  fronts : (m : Multipliers) → All (λ q. AreOfLevel l.fn.p m q.level q.scale q.weighted.items) l.fn.placed → AreFronts l.fn.p m (seen_by (take l.q-index l.fn.placed)) l.sides;
}
