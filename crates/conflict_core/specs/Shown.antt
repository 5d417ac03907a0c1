-- What shows a core: multipliers, and values that satisfy it without each of its rows.
use Rattle.std.specs.Prelude.{◌≡◌, ℕ, List, map, All}
use Rattle.frac_core.specs.Fraction.{Fraction, IsKept}
use Rattle.problem_core.specs.declared.parts.RowName.TheVariants.{Held}
use Rattle.problem_core.specs.Layout.{Assignment, Gives, Problem, Satisfies}
use Rattle.problem_core.specs.Kept.{AreRising}
use Rattle.cert_core.specs.declared.by.By.{By}
use Rattle.cert_core.specs.Stops.{IsShownConflict}
use Rattle.cert_checker.specs.Certifying.{AreOfStays}
use Rattle.conflict_core.specs.Cores.{AreRequired, trial, without}
use Rattle.conflict_core.specs.declared.found.Found.{Found}
use Rattle.conflict_core.specs.declared.found.Found.TheVariants.{Solvable, Core}

-- a value for each attribute of the problem and for no other, by rising attribute, in lowest terms that fit
pub record AreAllValues (p : Problem) (values : List (ℕ × Fraction)) : Type 0 where
  pub attributes : AreOfStays p values
  pub rising : AreRising values
  pub kept : All (λ v. IsKept v.1) values

-- values of all attributes that satisfy the problem's required rows
pub record IsSolution (p : Problem) (values : List (ℕ × Fraction)) : Type 0 where
  pub all : AreAllValues p values
  pub satisfies : (x : Assignment) × Satisfies p x × Gives values x

-- the values satisfy these rows without the one that is named with them
abbrev pub DoWithout : Problem → List ℕ → ℕ × List (ℕ × Fraction) → Type 0
DoWithout p ids w = IsSolution (trial p (without w.0 ids)) w.1

-- multipliers that refute these rows and name each of them, and for each, in their order, values that satisfy
-- the others
pub record IsShownCore (p : Problem) (ids : List ℕ) (by : List By) (values : List (ℕ × List (ℕ × Fraction)))
    : Type 0 where
  pub rows : AreRequired p ids
  pub refuted : IsShownConflict (trial p ids) by
  pub named : map (λ b. b.row) by ≡ map Held ids
  pub each : map (λ w. w.0) values ≡ ids
  pub others : All (DoWithout p ids) values

-- what is found of a problem: its required rows have a solution, or there is a core of them, which is shown
abbrev pub IsFound : Problem → Found → Type 0
IsFound p Solvable = (x : Assignment) × Satisfies p x
IsFound p (Core rows by values) = IsShownCore p rows.items by values.items
