-- What rows and levels lack, as fractions.
use Rattle.std.specs.Prelude.{◌≡◌, ◌≢◌, ℕ, ◌*◌, pos}
use Rattle.frac_core.specs.Fraction.{Fraction, IsRatio}
use Rattle.problem_core.specs.declared.parts.Rel.{Rel}
use Rattle.problem_core.specs.declared.parts.Rel.TheVariants.{Eq, Le, Ge}
use Rattle.problem_core.specs.Layout.{Assignment, Line, Problem, common, cost, error, lines}

-- the error of the line at x, in points
abbrev pub IsErrorAt : Assignment → Line → Fraction → Type 0
IsErrorAt x l f = IsRatio f (pos (error x l)) (pos (x.den * (l.den * l.scale)))

-- the sum of the weighted errors at the level
abbrev pub IsLevelCost : Problem → Assignment → ℕ → Fraction → Type 0
IsLevelCost p x level f = IsRatio f (pos (cost (lines p) x level)) (pos (x.den * common (lines p)))

-- of what a row has below and above, at most one of which is not 0, this is what it lacks
abbrev pub IsLack : Rel → Fraction → Fraction → Fraction → Type 0
IsLack Le under over f = f ≡ over
IsLack Ge under over f = f ≡ under
IsLack Eq under over f = (over.num ≡ pos 0 → f ≡ under) × (over.num ≢ pos 0 → f ≡ over)
