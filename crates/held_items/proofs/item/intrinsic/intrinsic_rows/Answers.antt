use Rattle.std.proofs.Common.{[]}
use Rattle.std.proofs.lemmas.List.Elements.{All-from_recursion}
use Rattle.problem_core.specs.Kept.{IsRow}
use Rattle.held_items.proofs.item.intrinsic.intrinsic_rows.Goals as goal

pub returns-clause-each : goal.returns-clause-each
returns-clause-each c =
    c.in_ok-push_bounds-2.ensures.each (c.in_ok-push_bounds.ensures.each (rw c.new-rows.ensures.items (All-from_recursion IsRow [] tt)))
