-- On the way to a core.
use Rattle.std.specs.Prelude.{◌≡◌, ℕ, ◌-◌, ◌<◌, List, [], ◌∷◌, take, length, map, All, get_or}
use Rattle.frac_core.specs.Fraction.{Fraction}
use Rattle.problem_core.specs.declared.parts.RowName.{RowName}
use Rattle.problem_core.specs.declared.parts.RowName.TheVariants.{Held, Stay as StayOf}
use Rattle.problem_core.specs.Layout.{Problem}
use Rattle.problem_core.specs.Numbers.{AreNumbersOf}
use Rattle.cert_core.specs.declared.by.By.{By}
use Rattle.cert_core.specs.Stops.{IsShownConflict}
use Rattle.layout_solver.specs.Starts.{attrs_of}
use Rattle.conflict_core.specs.Cores.{AreRequired, trial}
use Rattle.conflict_core.specs.Shown.{DoWithout}
use Rattle.conflict_core.specs.declared.search.Search.{Search}
use Rattle.conflict_core.specs.declared.trials.Trials.{Trials}

-- the attributes are those of the problem, in its order and by number
pub record AreTrials (t : Trials) : Type 0 where
  pub attrs : t.attrs.now ≡ attrs_of t.problem.now
  pub numbers : AreNumbersOf t.problem.now.stays t.numbers.now

-- the row's number in front of these, where it is no stay's row
abbrev pub numbered : RowName → List ℕ → List ℕ
numbered (Held id) ids = id ∷ ids
numbered (StayOf attr) ids = ids

-- the numbers of the rows that are named
abbrev pub named : List By → List ℕ
named [] = []
named (b ∷ more) = numbered b.row (named more)

-- the multipliers refute these rows and name each of them, and for each of the first rows there are values
-- that satisfy the others
pub record AreOnTheWay (p : Problem) (ids : List ℕ) (by : List By) (values : List (ℕ × List (ℕ × Fraction)))
    : Type 0 where
  pub rows : AreRequired p ids
  pub refuted : IsShownConflict (trial p ids) by
  pub named : map (λ b. b.row) by ≡ map Held ids
  pub each : map (λ w. w.0) values ≡ take (length values) ids
  pub others : All (DoWithout p ids) values

-- so it is in a search
abbrev pub IsSearch : Problem → Search → Type 0
IsSearch p s = AreOnTheWay p s.rows.items s.by s.without.items

-- how many rows have no values yet
abbrev pub left_of : Search → ℕ
left_of s = length s.rows.items - length s.without.items

-- the row is the first that has no values yet
abbrev pub IsNext : Search → ℕ → Type 0
IsNext s id = (length s.without.items < length s.rows.items)
    × (get_or s.rows.items (length s.without.items) id ≡ id)
