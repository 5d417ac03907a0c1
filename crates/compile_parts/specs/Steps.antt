-- The steps of a constant: the contribution of each term to it, and the row's scale after the term.
use Rattle.std.specs.Prelude.{ℕ, ◌+◌, ◌<◌, List, [], ◌∷◌, length, take, slice_index_or}
use Rattle.frac_core.specs.Fraction.{Fraction}
use Rattle.compile_parts.specs.Fractions.{total, IsSmallConstant}
use Rattle.compile_parts.specs.Meaning.{Part, MetricList, part_value}

-- the scale of the row after a term, and the term's contribution to the constant
pub record Step : Type 0 where
  pub scale : ℕ
  pub part : Part

-- the constant in the sum of some steps' terms
abbrev pub step_sum : MetricList → List Step → Fraction
step_sum metrics steps = total (λ s. part_value metrics s.part) steps

-- the scale after the last step
abbrev pub last_scale : List Step → ℕ
last_scale [] = 1
last_scale (s ∷ []) = s.scale
last_scale (s ∷ (t ∷ steps)) = last_scale (t ∷ steps)

-- after the step at i the constant is small
abbrev pub IsSmallAfter : MetricList → List Step → ℕ → Step → Type 0
IsSmallAfter metrics steps i s = IsSmallConstant s.scale (step_sum metrics (take (i + 1) steps))

-- after each step the constant is small
abbrev pub AreSmallSteps : MetricList → List Step → Type 0
AreSmallSteps metrics steps = (i : ℕ) (d : Step) → i < length steps
    → IsSmallAfter metrics steps i (slice_index_or steps i d)
