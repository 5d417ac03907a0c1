-- Compiled lines: rows whose constants are sums of numbers and of multiples of metrics.
use Rattle.std.specs.Prelude.{◌≡◌, ℕ, ◌<◌, List, length}
use Rattle.std.specs.Prelude.{slice_index_or, All, pos, ◌*ℤ◌}
use Rattle.frac_core.specs.Fraction.{Fraction, IsLowest, Fits}
use Rattle.problem_core.specs.declared.parts.Rel.{Rel}
use Rattle.problem_core.specs.declared.parts.Term.{Term}
use Rattle.problem_core.specs.Layout.{Row}
use Rattle.compile_parts.specs.Fractions.{IsConstant}
use Rattle.compile_parts.specs.Meaning.{MetricList}
use Rattle.compile_parts.specs.Steps.{AreSmallSteps, Step, last_scale, step_sum}

-- a row, with the scale after its last step
pub record RowForm : Type 0 where
  pub id : ℕ
  pub rank : ℕ
  pub weight : ℕ
  pub rel : Rel
  pub terms : List Term
  pub steps : List Step

-- the rows of a line, and the numbers of the views that its text names
pub record CompiledLine : Type 0 where
  pub rows : List RowForm
  pub views : List ℕ

-- the same value
abbrev pub IsValue : Fraction → Fraction → Type 0
IsValue f g = f.num *ℤ pos g.den ≡ g.num *ℤ pos f.den

-- the sum in lowest terms fits
pub record IsFittingSum (e : Fraction) : Type 0 where
  pub sum : Fraction
  pub lowest : IsLowest sum
  pub fits : Fits sum
  pub value : IsValue sum e

-- the row for these metrics
pub record IsRowNow (metrics : MetricList) (form : RowForm) (row : Row) : Type 0 where
  pub id : row.id ≡ form.id
  pub rank : row.rank ≡ form.rank
  pub weight : row.weight ≡ form.weight
  pub rel : row.rel ≡ form.rel
  pub scale : row.scale ≡ last_scale form.steps
  pub terms : row.terms ≡ form.terms
  pub constant : IsConstant (last_scale form.steps) (step_sum metrics form.steps) row.constant

-- no constant is past the limit, whatever the step
abbrev pub AreSmallForms : MetricList → List RowForm → Type 0
AreSmallForms metrics forms = All (λ f. AreSmallSteps metrics f.steps) forms

-- the rows for these metrics, in order
pub record AreRowsNow (metrics : MetricList) (forms : List RowForm) (rows : List Row) : Type 0 where
  pub long : length rows ≡ length forms
  pub each : (i : ℕ) (f : RowForm) (r : Row) → i < length forms
      → IsRowNow metrics (slice_index_or forms i f) (slice_index_or rows i r)
  pub small : AreSmallForms metrics forms
