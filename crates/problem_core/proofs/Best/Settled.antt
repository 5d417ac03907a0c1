-- An assignment at which each line has no error, or which agrees with all that satisfies the rows on the line's attributes, is best.
-- The order of the rows doesn't matter.
use Rattle.std.proofs.Common.{◌≡◌, ◌⊎◌}
use Rattle.std.specs.List.{AllByRecursion as Each}
use Rattle.problem_core.specs.Layout.{Line, Problem, Assignment, Satisfies, error}
use Rattle.problem_core.proofs.Best.Agreed.{AgreeAt}

-- no error, or the values of all that satisfies the rows
abbrev pub IsSettled : Problem → Assignment → Line → Type 0
IsSettled p x l = (error x l ≡ 0) ⊎ ((y : Assignment) → Satisfies p y → Each (λ t. AgreeAt x y t.attr) l.form)
