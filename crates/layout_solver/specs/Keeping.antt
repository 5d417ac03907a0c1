-- Stays that are put before all others.
use Rattle.std.specs.Prelude.{◌≡◌, ℕ, List, map}
use Rattle.problem_core.specs.Layout.{Problem}
use Rattle.cert_core.specs.declared.stops.RunStop.{RunStop}
use Rattle.cert_core.specs.declared.stops.RunStop.TheVariants.{Conflict, Unfit, Spent, OutOfMemory}
use Rattle.stay_orders.specs.Orders.{fronted}
use Rattle.layout_solver.specs.Layouts.{Layout}
use Rattle.layout_solver.specs.Removals.{stood}

-- with the stays of these attributes first, and all moved to the values before
abbrev pub with_kept : Layout → List ℕ → Problem
with_kept old attrs = fronted attrs (stood old)

-- each attribute has the value at which its stay stands
abbrev pub AreAtStays : Layout → Type 0
AreAtStays l = l.values ≡ map (λ s. (s.attr, s.target)) l.problem.stays

-- a run's stop that is no conflict
abbrev pub NoConflict : RunStop → Type 0
NoConflict (Conflict by) = ⊥
NoConflict (Unfit at) = Unit {0}
NoConflict (Spent path) = Unit {0}
NoConflict OutOfMemory = Unit {0}
