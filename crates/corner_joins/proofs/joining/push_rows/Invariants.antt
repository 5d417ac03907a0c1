use Rattle.std.proofs.Common.{[], take}
use Rattle.problem_core.specs.Changes.Begins.{BeginsWith}
use Rattle.problem_core.specs.Corners.{NoNegativeValue}
use Rattle.corner_table.specs.Histories.{HasSameHistory}
use Rattle.corner_table.specs.Kept.{HasSlotsLeft}
use Rattle.corner_joins.specs.Additions.Parts.{IsPartlyKept}
use Rattle.corner_joins.specs.Additions.RowJoins.{ArePushed}
use Rattle.corner_joins.specs.Additions.SumFits.{DoRowsFit}
use Rattle.corner_table.specs.Tables.{lists_of, marks_at, problem_of}
use Rattle.corner_joins.proofs.joining.push_rows.Given as goal

abbrev pub invariant-loop-i : goal.invariant-loop-i
invariant-loop-i l = record {
  past : HasSameHistory l.fn.table l.table;
  lists : ArePushed (take l.i l.rows) (lists_of l.fn.table) (lists_of l.table);
  begins : BeginsWith (problem_of (lists_of l.table)) (marks_at (lists_of l.fn.table)) (take l.i l.rows) [] (marks_at (lists_of l.table));
  kept : IsPartlyKept (lists_of l.table);
  left : HasSlotsLeft (lists_of l.table);
  values : NoNegativeValue (problem_of (lists_of l.table)) (marks_at (lists_of l.table));
  fits : DoRowsFit (lists_of l.fn.table) l.rows l.i;
}
