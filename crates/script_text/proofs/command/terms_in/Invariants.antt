use Rattle.std.proofs.Common.{◌≡◌, map, take}
use Rattle.script_text.specs.Directions.{term_in}
use Rattle.script_text.specs.View.{terms_view}
use Rattle.script_text.proofs.command.terms_in.Given as goal

abbrev pub invariant-loop-term : goal.invariant-loop-term
invariant-loop-term l = terms_view l.out.items ≡ map (term_in l.to) (terms_view (take l.term-index l.terms))
