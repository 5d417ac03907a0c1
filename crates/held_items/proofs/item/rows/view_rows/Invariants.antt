use Rattle.std.proofs.Common.{◌≡◌, ◌+◌, ◌*◌, ◌++◌, ◌<◌, ◌≤◌, ◌^◌, All}
use Rattle.problem_core.specs.Kept.{IsRow}
use Rattle.held_items.specs.Items.{rows_of_views}
use Rattle.held_items.proofs.item.rows.view_rows.Given as goal

abbrev pub invariant-loop-left : goal.invariant-loop-left
invariant-loop-left l = record {
  is : l.rows.items ++ rows_of_views l.row l.next l.left ≡ rows_of_views l.first_row l.id l.count;
  some : 0 < l.row;
  rows : l.row + 2 * l.left ≤ 2 ^ 31;
  each : All IsRow l.rows.items;
  ids : l.next + l.left ≤ 2 ^ 29;
}

abbrev pub decreases-loop-left : goal.decreases-loop-left
decreases-loop-left l = l.left
