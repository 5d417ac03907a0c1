-- The steps of a constant as a compiled line keeps them.
use Rattle.std.specs.Prelude.{◌≡◌, ℕ, ◌<◌, ◌≤◌, Bool, true, false, List, [], map, slice_index_or}
use Rattle.std.specs.Prelude.{All}
use Rattle.std.specs.List.{list_any}
use Rattle.problem_core.specs.declared.limits.TheConstants.{COEFFICIENT_LIMIT}
use Rattle.compile_parts.specs.Meaning as meaning
use Rattle.compile_parts.specs.Addends.{Addend}
use Rattle.compile_parts.specs.Steps as meant
use Rattle.compile_parts.specs.declared.steps.Part.{Part}
use Rattle.compile_parts.specs.declared.steps.Part.TheVariants as part
use Rattle.compile_parts.specs.declared.steps.Step.{Step}

-- a part whose metric's name is at a place among the names
abbrev pub part_view : List (List ℕ) → Part → meaning.Part
part_view names part.Nothing = meaning.Nothing
part_view names (part.Number by) = meaning.Number by
part_view names (part.Multiple by place) = meaning.Multiple by (slice_index_or names place [])

-- a step whose metric's name is at a place among the names
abbrev pub step_view : List (List ℕ) → Step → meant.Step
step_view names s = record { scale = s.scale; part = part_view names s.part }

-- the steps, in order, for the same names
abbrev pub steps_view : List (List ℕ) → List Step → List meant.Step
steps_view names steps = map (step_view names) steps

-- each scale is above 0, and within the limit of coefficients
abbrev pub AreScalesKept : List Step → Type 0
AreScalesKept steps = All (λ s. (0 < s.scale) × (s.scale ≤ COEFFICIENT_LIMIT)) steps

-- the metric a multiple of which is added, or no name
abbrev pub metric_in : meaning.Part → List ℕ
metric_in meaning.Nothing = []
metric_in (meaning.Number by) = []
metric_in (meaning.Multiple by name) = name

-- the metric a multiple of which the addend is, or no name
abbrev pub metric_name : Addend → List ℕ
metric_name a = metric_in a.part

-- a multiple of a metric is added
abbrev pub is_metric : meaning.Part → Bool
is_metric meaning.Nothing = false
is_metric (meaning.Number by) = false
is_metric (meaning.Multiple by name) = true

-- one of the addends is a multiple of a metric
abbrev pub any_names_metric : List Addend → Bool
any_names_metric added = list_any (λ a. is_metric a.part) added

-- at each addend's place there is the name of its metric, or no name if it is no multiple of one
pub record HaveNames (names : List (List ℕ)) (added : List Addend) : Type 0 where
  pub at : (i : ℕ) → slice_index_or names i [] ≡ slice_index_or (map metric_name added) i []
