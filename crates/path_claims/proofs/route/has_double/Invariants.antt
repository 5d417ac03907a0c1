use Rattle.path_claims.proofs.CornerNumbers.Corners.{AreApartTo, HasSeen}
use Rattle.path_claims.proofs.route.has_double.Given as goal

abbrev pub invariant-loop-number : goal.invariant-loop-number
invariant-loop-number l = record {
  seen : HasSeen l.numbers l.number-index l.seen;
  apart : AreApartTo l.numbers l.number-index;
}
