-- What stops a change, with the path to it.
use Rattle.std.specs.Prelude.{◌≡◌, false, List, []}
use Rattle.frac_core.specs.declared.memory.Stop.TheVariants.{Refused}
use Rattle.problem_core.specs.Changes.Stops.{TableStop}
use Rattle.problem_core.specs.Layout.{Row}
use Rattle.cert_core.specs.declared.stops.RunStop.{RunStop}
use Rattle.cert_core.specs.declared.stops.RunStop.TheVariants.{Conflict, Unfit, Spent, OutOfMemory}
use Rattle.corner_table.specs.Tables.{Lists, marks_over}

-- want of memory, or the quantity, with the path to where these rows are still to join
abbrev pub IsPathStop : Lists → List Row → TableStop → RunStop → Type 0
IsPathStop t rest stop (Conflict by) = ⊥
IsPathStop t rest stop (Spent path) = ⊥
IsPathStop t rest stop (Unfit at) = (stop ≡ Refused at.quantity)
    × (at.path ≡ record { dual = false; corner = marks_over t rest; swaps = [] })
IsPathStop t rest stop OutOfMemory = Unit {0}
