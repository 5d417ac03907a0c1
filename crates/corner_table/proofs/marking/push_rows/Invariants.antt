use Rattle.std.proofs.Common.{◌≡◌, ◌++◌, map, take}
use Rattle.problem_core.specs.declared.parts.RowName.TheVariants.{Held}
use Rattle.corner_table.specs.Tables.{inside_of, lists_of}
use Rattle.corner_table.proofs.marking.push_rows.Given as goal

abbrev pub invariant-loop-row : goal.invariant-loop-row
invariant-loop-row l = l.out.items ≡ l.fn.out.items ++ inside_of (lists_of l.table) (map (λ r. Held r.id) (take l.row-index l.table.rows.items))
