use Rattle.std.proofs.Common.{◌≡◌, ◌++◌, List, map, take}
use Rattle.problem_core.specs.declared.parts.Mark.{Mark}
use Rattle.problem_core.specs.declared.parts.RowName.TheVariants.{Held}
use Rattle.corner_ends.specs.Among.{lines_among}
use Rattle.corner_ends.specs.Begins.{HasExchanged}
use Rattle.corner_ends.proofs.begins.push_rows.Given as goal

abbrev pub invariant-loop-row : goal.invariant-loop-row
invariant-loop-row g l = (first : List Mark) → HasExchanged first l.swaps l.c.marks → l.out.items ≡ l.fn.out.items ++ lines_among first (map (λ r. Held r.id) (take l.row-index l.c.problem.rows))
