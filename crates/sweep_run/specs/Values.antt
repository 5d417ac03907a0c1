-- The values of a corner's attributes.
use Rattle.std.specs.Prelude.{◌≡◌, ℕ, List, map, All}
use Rattle.frac_core.specs.Fraction.{Fraction, IsKept}
use Rattle.problem_core.specs.declared.parts.Mark.{Mark}
use Rattle.problem_core.specs.Layout.{Problem}
use Rattle.problem_core.specs.Corners.{attr_column}
use Rattle.corner_view.specs.Seen.{HasValueAt}
use Rattle.sweep_laws.specs.Stretches.{AreAllValues}

-- these attributes, with their values at the corner
pub record AreListed (p : Problem) (at : List Mark) (attrs : List ℕ) (values : List (ℕ × Fraction))
    : Type 0 where
  pub attributes : map (λ v. v.0) values ≡ attrs
  pub kept : All (λ v. IsKept v.1) values
  pub there : All (λ v. HasValueAt p at (attr_column v.0) v.1) values

-- all attributes, with their values at the corner
pub record AreValuesAt (p : Problem) (at : List Mark) (values : List (ℕ × Fraction)) : Type 0 where
  pub all : AreAllValues p values
  pub there : All (λ v. HasValueAt p at (attr_column v.0) v.1) values
