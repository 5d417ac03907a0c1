-- What a sweep asks for, and why it stops.
use Rattle.std.specs.Prelude.{◌≡◌, ◌⊎◌, ℕ, false, List, [], Any}
use Rattle.frac_core.specs.Fraction.{Fraction, IsLowest}
use Rattle.problem_core.specs.declared.limits.TheConstants.{REQUIRED}
use Rattle.problem_core.specs.declared.parts.Mark.{Mark}
use Rattle.problem_core.specs.declared.parts.Rel.TheVariants.{Eq}
use Rattle.problem_core.specs.declared.stops.Quantity.{Quantity}
use Rattle.problem_core.specs.declared.stops.Quantity.TheVariants.{Plain}
use Rattle.problem_core.specs.Layout.{Assignment, Problem, Satisfies}
use Rattle.cert_core.specs.Paths.{Path}
use Rattle.cert_core.specs.Stops.{IsStopOf}
use Rattle.cert_core.specs.declared.stops.RunStop.TheVariants as run
use Rattle.corner_view.specs.AddStops.{FromAdded}
use Rattle.corner_view.specs.Seen.{in_order}
use Rattle.corner_ends.specs.Runs.{IsBestEnd, IsRun}
use Rattle.sweep_laws.specs.Stops.{HasConstant, IsSlideEnd, IsSlideFar, IsSlideSpent, IsSlideUnfit}
use Rattle.sweep_run.specs.declared.stretches.SweepQuantity.TheVariants.{At, Breakpoint}
use Rattle.sweep_run.specs.declared.stretches.SweepStop.{SweepStop}
use Rattle.sweep_run.specs.declared.stretches.SweepStop.TheVariants.{Unfit, Spent, OutOfMemory}

-- some assignment satisfies the required rows
abbrev pub HasSolution : Problem → Type 0
HasSolution p = (x : Assignment) × Satisfies p x

-- a required row that fixes a sum
abbrev pub IsSweptRow : Problem → ℕ → Type 0
IsSweptRow p row = Any (λ r. (r.id ≡ row) × (r.rank ≡ REQUIRED) × (r.rel ≡ Eq) × (r.scale ≡ 1)) p.rows

-- ---- stops

-- the start stops so
abbrev pub IsStartUnfit : Problem → ℕ → Path → Quantity → Type 0
IsStartUnfit p budget path q =
    IsStopOf false p [] (FromAdded p [] p.rows) budget (run.Unfit (record { path = path; quantity = q }))

abbrev pub IsStartSpent : Problem → ℕ → Path → Type 0
IsStartSpent p budget path = IsStopOf false p [] (FromAdded p [] p.rows) budget (run.Spent path)

-- the start stops so, with the present constant
abbrev pub IsStartStop : Problem → Fraction → ℕ → SweepStop → Type 0
IsStartStop p present budget (Unfit width path (At q)) = (width ≡ present) × IsStartUnfit p budget path q
IsStartStop p present budget (Unfit width path (Breakpoint m)) = ⊥
IsStartStop p present budget (Spent width path) = (width ≡ present) × IsStartSpent p budget path
IsStartStop p present budget OutOfMemory = Unit {0}

-- the corner that the start found, its marks in order: a lawful run from nothing leads there
pub record IsStarted (p : Problem) (budget : ℕ) (kept : List Mark) : Type 0 where
  pub best : IsBestEnd p kept
  pub ordered : kept ≡ in_order p kept
  pub path : Path
  pub run_is : IsRun false p (FromAdded p [] p.rows []) budget kept path

-- a slide from there stops so
abbrev pub FromStart : Problem → ℕ → (List Mark → Type 0) → Type 0
FromStart p budget F = (kept : List Mark) × IsStarted p budget kept × F kept

-- a slide to this end stops so
abbrev pub ToEnd : Problem → ℕ → Fraction → Fraction → (Fraction → Fraction → Type 0) → Type 0
ToEnd p row from to F = (present : Fraction) × (end : Fraction) × HasConstant p row present
    × IsSlideEnd present from to end × F present end

-- the constant that is told is in lowest terms
abbrev pub HasLowestWidth : SweepStop → Type 0
HasLowestWidth (Unfit width path what) = IsLowest width
HasLowestWidth (Spent width path) = Unit {0}
HasLowestWidth OutOfMemory = Unit {0}

-- a quantity of a slide doesn't fit
abbrev pub IsSweptUnfit : Problem → ℕ → Fraction → Fraction → ℕ → Fraction → Path → Quantity → Type 0
IsSweptUnfit p row from to budget width path (Plain what) = IsLowest width × FromStart p budget
    (λ kept. ToEnd p row from to
    (λ present end. IsSlideUnfit p row kept present from to end budget width path what))
IsSweptUnfit p row from to budget width path q = ⊥

-- why a sweep stops
abbrev pub IsSweepStop : Problem → ℕ → Fraction → Fraction → ℕ → SweepStop → Type 0
IsSweepStop p row from to budget (Unfit width path (At q)) =
    (HasConstant p row width × IsStartUnfit p budget path q)
    ⊎ IsSweptUnfit p row from to budget width path q
IsSweepStop p row from to budget (Unfit width path (Breakpoint m)) = FromStart p budget
    (λ kept. ToEnd p row from to
    (λ present end. (width ≡ end) × IsSlideFar p row kept present end budget path m))
IsSweepStop p row from to budget (Spent width path) = (HasConstant p row width × IsStartSpent p budget path)
    ⊎ FromStart p budget
    (λ kept. ToEnd p row from to (λ present end. (width ≡ end) × IsSlideSpent p row kept end budget path))
IsSweepStop p row from to budget OutOfMemory = Unit {0}
