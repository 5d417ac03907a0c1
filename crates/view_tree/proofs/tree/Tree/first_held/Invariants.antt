use Rattle.std.proofs.Common.{◌≡◌, [], take}
use Rattle.name_tables.specs.Names.{names_of}
use Rattle.view_tree.specs.JsonStops.{AreFree}
use Rattle.view_tree.specs.Plans.{names_of_plan}
use Rattle.view_tree.proofs.tree.Tree.first_held.Given as goal

abbrev pub invariant-loop-view : goal.invariant-loop-view
invariant-loop-view l = record {
  free : AreFree l.self l.metrics [] (names_of l.before);
  are : names_of l.before ≡ take l.view-index (names_of_plan l.views);
}
