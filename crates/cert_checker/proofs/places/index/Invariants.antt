use Rattle.std.proofs.Common.{take}
use Rattle.cert_checker.specs.LinePlaces.{IsIndex}
use Rattle.cert_checker.proofs.places.index.Given as goal

abbrev pub invariant-loop-place : goal.invariant-loop-place
invariant-loop-place l = IsIndex (take l.place l.numbers) l.places
