use Rattle.std.proofs.Common.{◌≡◌, take}
use Rattle.diagnosis.specs.Probes.{AreMovingAmong}
use Rattle.diagnosis.proofs.moving.moving_among.Given as goal

abbrev pub invariant-loop-attr : goal.invariant-loop-attr
invariant-loop-attr g l = record {
  same : l.e ≡ l.fn.e;
  moving : AreMovingAmong l.fn.e.problem l.fn.e.values (take l.attr-index l.attrs) l.out.items;
}
