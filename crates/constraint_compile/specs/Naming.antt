-- The rows whose constants name a metric.
use Rattle.std.specs.Prelude.{◌≡◌, ℕ, Bool, false, List, filter}
use Rattle.std.specs.List.{list_any, AllZip}
use Rattle.std.specs.Str.{bytes_eq}
use Rattle.name_tables.specs.Names.{value_of}
use Rattle.compile_parts.specs.Meaning.{Part, Nothing, Number, Multiple, MetricList}
use Rattle.constraint_compile.specs.Compiled.{RowForm}
use Rattle.compile_parts.specs.Steps.{AreSmallSteps, last_scale, step_sum}
use Rattle.compile_parts.specs.Fractions.{IsConstant}
use Rattle.constraint_compile.specs.declared.naming.RowConstant.{RowConstant}

-- a multiple of the metric is added
abbrev pub is_multiple : List ℕ → Part → Bool
is_multiple name Nothing = false
is_multiple name (Number by) = false
is_multiple name (Multiple by other) = bytes_eq name other

-- a term of the row is a multiple of the metric, even if such terms cancel
abbrev pub names_metric : List ℕ → RowForm → Bool
names_metric name f = list_any (λ s. is_multiple name s.part) f.steps

-- the rows that name the metric
abbrev pub naming : List ℕ → List RowForm → List RowForm
naming name forms = filter (names_metric name) forms

-- the row's number and its constant for these metrics, which is small after each step
pub record IsConstantOf (metrics : MetricList) (form : RowForm) (c : RowConstant) : Type 0 where
  pub row : c.row ≡ form.id
  pub constant : IsConstant (last_scale form.steps) (step_sum metrics form.steps) c.constant
  pub small : AreSmallSteps metrics form.steps

-- the numbers and constants of all these rows, in order
abbrev pub AreConstantsOf : MetricList → List RowForm → List RowConstant → Type 0
AreConstantsOf metrics forms constants = AllZip (IsConstantOf metrics) forms constants

-- every other metric has the value that it had
abbrev pub AreSameBut : List ℕ → MetricList → MetricList → Type 0
AreSameBut name old new =
    (other : List ℕ) → bytes_eq name other ≡ false → value_of new other ≡ value_of old other
