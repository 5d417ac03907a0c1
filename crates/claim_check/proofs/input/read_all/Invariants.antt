use Rattle.std.proofs.Common.{◌≡◌, ◌≤◌, ◌+◌, ◌-◌, vec_len}
use Rattle.std.specs.Io.KnownBytes.{Consumes}
use Rattle.claim_check.proofs.input.read_all.Given as goal

abbrev pub invariant-loop-piece : goal.invariant-loop-piece
invariant-loop-piece g l = record {
  read : Consumes (g.S.Source.left l.fn.source) (g.S.Source.left l.source) l.input.items;
  later : g.S.Source.faults l.fn.source ≤ g.S.Source.faults l.source;
  unfailed : g.S.Source.faults l.source ≡ g.S.Source.faults l.fn.source;
  each : g.S.Source.pulls l.source ≤ g.S.Source.pulls l.fn.source + vec_len l.input;
  few : g.S.Source.pulls l.source ≤ g.S.Source.pulls l.fn.source + (l.limit + 1);
}

abbrev pub decreases-loop-piece : goal.decreases-loop-piece
decreases-loop-piece g l = (l.limit + 1) - vec_len l.input
