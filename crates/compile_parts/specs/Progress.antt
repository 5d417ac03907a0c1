-- The constant of a row while its steps are taken.
use Rattle.std.specs.Prelude.{◌<◌}
use Rattle.frac_core.specs.Fraction.{Fraction}
use Rattle.compile_parts.specs.Fractions.{plus, IsConstant, IsSmallConstant}
use Rattle.compile_parts.specs.Meaning.{MetricList, part_value}
use Rattle.compile_parts.specs.Steps.{Step}
use Rattle.compile_parts.specs.declared.steps.Progress.{Progress}

-- if `before` has the constant of a sum, `now` has the constant of the sum with the step's value
abbrev pub IsAfter : MetricList → Progress → Step → Progress → Type 0
IsAfter metrics before s now = (e : Fraction) → 0 < e.den → IsConstant before.scale e before.constant
    → IsConstant s.scale (plus e (part_value metrics s.part)) now.constant

-- if `before` has the constant of a sum, the constant of the sum with the step's value isn't small
abbrev pub IsPastAfter : MetricList → Progress → Step → Type 0
IsPastAfter metrics before s = (e : Fraction) → 0 < e.den → IsConstant before.scale e before.constant
    → IsSmallConstant s.scale (plus e (part_value metrics s.part)) → ⊥
