use Rattle.std.proofs.Common.{◌≡◌, ◌+◌, ◌≤◌, List, drop}
use Rattle.view_tree.specs.Views.{LiveView}
use Rattle.format_compile.specs.FormatStops.{row_count}
use Rattle.format_compile.specs.FormatViews.{parts_view}
use Rattle.format_compile.proofs.refusals.row_count.Given as goal

abbrev pub invariant-loop-part : goal.invariant-loop-part
invariant-loop-part l = record {
  count : (views : List LiveView) → l.count + row_count views (parts_view (drop l.part-index l.parts)) ≡ row_count views (parts_view l.parts);
  small : l.count ≤ l.part-index;
}
