use Rattle.std.proofs.Common.{[]}
use Rattle.std.proofs.lemmas.List.Elements.{All-from_recursion}
use Rattle.problem_core.specs.Kept.{IsRow}
use Rattle.held_items.proofs.item.rows.structural_rows.Goals as goal

pub returns-clause-each : goal.returns-clause-each
returns-clause-each c =
    c.in_ok-push_required-4.ensures.each (c.in_ok-push_required-3.ensures.each (c.in_ok-push_required-2.ensures.each
    (c.in_ok-push_required.ensures.each (rw c.new-rows.ensures.items (All-from_recursion IsRow [] tt)))))
