use Rattle.std.proofs.Common.{ℕ, ◌<◌}
use Rattle.path_claims.specs.Bringing.{NoneGives}
use Rattle.path_claims.proofs.route.bringing_in.Given as goal

abbrev pub invariant-loop-at : goal.invariant-loop-at
invariant-loop-at l = (k : ℕ) → k < l.at → NoneGives l.lines l.wanted l.enter k
