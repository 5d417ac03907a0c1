use Rattle.std.proofs.Common.{take}
use Rattle.cert_checker.specs.LinePlaces.{AreWeighed}
use Rattle.cert_checker.proofs.places.weigh.Given as goal

abbrev pub invariant-loop-line : goal.invariant-loop-line
invariant-loop-line l = AreWeighed l.fn.p (take l.line-index l.by) l.weighted.items
