use Rattle.std.proofs.Common.{◌≡◌, ◌++◌, List, map, take}
use Rattle.problem_core.specs.declared.parts.Mark.{Mark}
use Rattle.problem_core.specs.declared.parts.RowName.TheVariants.{Stay as StayOf}
use Rattle.corner_ends.specs.Among.{lines_among}
use Rattle.corner_ends.specs.Begins.{HasExchanged}
use Rattle.corner_ends.proofs.begins.push_stays.Given as goal

abbrev pub invariant-loop-stay : goal.invariant-loop-stay
invariant-loop-stay g l = (first : List Mark) → HasExchanged first l.swaps l.c.marks → l.out.items ≡ l.fn.out.items ++ lines_among first (map (λ s. StayOf s.attr) (take l.stay-index l.c.problem.stays))
