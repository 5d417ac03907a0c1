use Rattle.std.proofs.Common.{◌≡◌, length, All}
use Rattle.cert_checker.specs.Fronts.{IsBlank}
use Rattle.cert_checker.proofs.fronts.start.Given as goal

abbrev pub invariant-loop : goal.invariant-loop
invariant-loop l = record { count : length l.sides.items ≡ l.counter; blank : All IsBlank l.sides.items }
