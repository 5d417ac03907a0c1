-- The values that attributes have in a solution.
use Rattle.std.specs.Prelude.{◌≡◌, ℕ, Any}
use Rattle.frac_core.specs.Fraction.{Fraction}
use Rattle.layout_solver.specs.Layouts.{Solution}

-- the attribute has this value
abbrev pub HasValueOf : Solution → ℕ → Fraction → Type 0
HasValueOf s attr f = Any (λ v. (v.0 ≡ attr) × (v.1 ≡ f)) s.values
