use Rattle.std.proofs.Common.{◌≡◌, ◌++◌, map, take}
use Rattle.problem_core.specs.declared.parts.RowName.TheVariants.{Stay as StayOf}
use Rattle.corner_table.specs.Tables.{inside_of, lists_of}
use Rattle.corner_table.proofs.marking.push_stays.Given as goal

abbrev pub invariant-loop-stay : goal.invariant-loop-stay
invariant-loop-stay l = l.out.items ≡ l.fn.out.items ++ inside_of (lists_of l.table) (map (λ s. StayOf s.attr) (take l.stay-index l.table.stays.items))
