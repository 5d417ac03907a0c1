use Rattle.std.proofs.Common.{[]}
use Rattle.std.proofs.lemmas.List.Elements.{All-from_recursion}
use Rattle.problem_core.specs.Kept.{IsRow}
use Rattle.held_items.proofs.Lists.{each-snoc}
use Rattle.held_items.proofs.item.rows.suggestion_rows.Goals as goal

pub returns-clause-each : goal.returns-clause-each
returns-clause-each c =
    each-snoc IsRow [] c.push.new.self.items c.in_ok-row.row (All-from_recursion IsRow [] tt) c.show_row.ensures (rw c.new-rows.ensures.items at c.in_ok-push.ensures.items)
