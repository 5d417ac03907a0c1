-- What is swept of a scene.
use Rattle.std.specs.Prelude.{◌≡◌, ℕ, List, Some}
use Rattle.frac_core.specs.Fraction.{Fraction}
use Rattle.problem_core.specs.Layout.{Problem}
use Rattle.layout_solver.specs.Layouts.{stays_at}
use Rattle.held_items.specs.Items.{Item, Size, size_of}
use Rattle.held_items.specs.Moving.{FitsAfter}
use Rattle.scenes.specs.Scene.{Scene}
use Rattle.sweep_laws.specs.Stretches.{IsSweep, Stretch}
use Rattle.sweep_param.specs.Sweeps.{IsSweepStop}
use Rattle.sweep_run.specs.declared.stretches.SweepStop.{SweepStop}

-- the scene's rows, with the stays at the present values
abbrev pub problem_here : Scene → Problem
problem_here scene = record { rows = scene.rows; stays = stays_at scene.values }

-- one of the widths minus the present one, or minus the other, doesn't fit (for the widths that a line may
-- name, they fit)
abbrev pub IsFarSweep : List Item → Fraction → Fraction → Type 0
IsFarSweep held from to = (size : Size) × (size_of held ≡ Some size)
    × (FitsAfter size.width from × FitsAfter size.width to × FitsAfter from to → ⊥)

-- the row of the window's width, which is the first of its size
abbrev pub IsWidthRow : Scene → ℕ → Type 0
IsWidthRow scene row = (size : Size) × (size_of scene.held ≡ Some size) × (row ≡ size.first_row)

-- the stretches of the window's width between two widths
abbrev pub AreSweptOf : Scene → Fraction → Fraction → List Stretch → Type 0
AreSweptOf scene from to stretches = (row : ℕ) × IsWidthRow scene row
    × IsSweep (problem_here scene) row from to stretches

-- the sweep stops so
abbrev pub IsSweepStopOf : Scene → Fraction → Fraction → ℕ → SweepStop → Type 0
IsSweepStopOf scene from to budget stop = (row : ℕ) × IsWidthRow scene row
    × IsSweepStop (problem_here scene) row from to budget stop
