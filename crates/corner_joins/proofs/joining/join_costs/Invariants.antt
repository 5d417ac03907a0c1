use Rattle.std.proofs.Common.{◌≡◌, ◌++◌, List, drop, take}
use Rattle.problem_core.specs.Layout.{Row}
use Rattle.corner_table.specs.Histories.{AreAlike, lists_before}
use Rattle.corner_joins.specs.Additions.Parts.{IsPartlyKept}
use Rattle.corner_joins.specs.Additions.CostJoins.{AreCostsJoined, AreToJoin}
use Rattle.corner_joins.specs.Additions.SumFits.{DoCostsFit}
use Rattle.corner_table.specs.Tables.{lists_of}
use Rattle.corner_joins.proofs.joining.join_costs.Given as goal

abbrev pub invariant-loop-i : goal.invariant-loop-i
invariant-loop-i l = record {
  kept : IsPartlyKept (lists_of l.table);
  joins : (first : List Row) → AreToJoin (lists_of l.fn.table) first l.rows → AreToJoin (lists_of l.table) (first ++ take l.i l.rows) (drop l.i l.rows);
  joined : AreCostsJoined (take l.i l.rows) (lists_of l.fn.table) l.fn.listed (lists_of l.table) l.listed;
  fits : (first : List Row) → AreToJoin (lists_of l.fn.table) first l.rows → DoCostsFit (lists_of l.fn.table) first l.rows l.i;
  before : lists_before l.table ≡ lists_before l.fn.table;
  alike : AreAlike l.fn.table → AreAlike l.table;
}
