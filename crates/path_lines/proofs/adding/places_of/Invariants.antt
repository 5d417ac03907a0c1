use Rattle.path_lines.specs.Adding.{ArePlacesTo}
use Rattle.path_lines.proofs.adding.places_of.Given as goal

abbrev pub invariant-loop-at : goal.invariant-loop-at
invariant-loop-at l = ArePlacesTo l.at l.fn.numbers l.out.items
