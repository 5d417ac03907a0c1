use Rattle.std.proofs.Common.{◌≤◌, ◌<◌, ℕ}
use Rattle.std.specs.Prelude.{Contains}
use Rattle.version_lists.proofs.versions.since.push_places.Given as goal

abbrev pub invariant-loop-i : goal.invariant-loop-i
invariant-loop-i l = record {
  keeps : (n : ℕ) → Contains l.fn.out.items n → Contains l.out.items n;
  has : (n : ℕ) → l.first ≤ n → n < l.i → Contains l.out.items n;
}
