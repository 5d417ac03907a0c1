-- What is known of a request's problem.
use Rattle.problem_core.specs.Layout.{Assignment, Problem, Satisfies}
use Rattle.cert_core.specs.Stops.{IsShownConflict}
use Rattle.conflict_core.specs.declared.asking.Known.{Known}
use Rattle.conflict_core.specs.declared.asking.Known.TheVariants.{Solvable, Refuted, Nothing}

-- so it is with the problem's required rows
abbrev pub IsKnown : Problem → Known → Type 0
IsKnown p Solvable = (x : Assignment) × Satisfies p x
IsKnown p (Refuted by) = IsShownConflict p by
IsKnown p Nothing = Unit {0}
