-- A law of values.
use Rattle.std.specs.Prelude.{ℕ, ◌<◌, All, List}
use Rattle.frac_core.specs.Fraction.{Fraction}
use Rattle.problem_core.specs.Kept.{AreRising}
use Rattle.problem_core.specs.Layout.{Assignment, Gives}

-- some assignment gives all values, where their attributes rise and no denominator is 0; so what holds of
-- each assignment that gives them holds of one
abbrev pub ValuesAreGiven : Type 0
ValuesAreGiven = (values : List (ℕ × Fraction)) → AreRising values → All (λ v. 0 < v.1.den) values
    → (x : Assignment) × Gives values x
