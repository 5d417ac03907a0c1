-- The findings about a layout.
use Rattle.std.specs.Prelude.{ℕ, List}
use Rattle.frac_core.specs.Fraction.{Fraction}
use Rattle.problem_core.specs.Layout.{Problem}
use Rattle.diagnosis.specs.Costs.{AreCosts}
use Rattle.diagnosis.specs.Probes.{AreMoving}
use Rattle.diagnosis.specs.Unmet.{AreUnmet}
use Rattle.diagnosis.specs.declared.diagnosing.Diagnosis.{Diagnosis}

-- priorities with their sums of weighted errors, rows with their errors, attributes with the values that they
-- reach
pub record Findings : Type 0 where
  pub errors : List (ℕ × Fraction)
  pub unmet : List (ℕ × Fraction)
  pub moving : List (ℕ × Fraction)

-- the findings of a diagnosis
abbrev pub findings_of : Diagnosis → Findings
findings_of d = record { errors = d.errors.items; unmet = d.unmet.items; moving = d.moving.items }

-- they are all that the problem lacks and leaves open, where the attributes have these values
pub record AreFindings (p : Problem) (values : List (ℕ × Fraction)) (f : Findings) : Type 0 where
  pub errors : AreCosts p values 1 f.errors
  pub unmet : AreUnmet p.rows values f.unmet
  pub moving : AreMoving p values p.stays f.moving
