use Rattle.corner_table.specs.Tables.{lists_of}
use Rattle.corner_leaving.proofs.Removals.LeavingFits.{FitsOther}
use Rattle.corner_leaving.proofs.Removals.LeavingUnits.{AllTo}
use Rattle.corner_leaving.proofs.leaving.do_others_fit.Given as goal

abbrev pub invariant-loop-row : goal.invariant-loop-row
invariant-loop-row l = AllTo l.row-index (FitsOther (lists_of l.table) l.draft l.new l.id) l.row-items
