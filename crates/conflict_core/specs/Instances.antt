-- A command that clashes with what is held: a core, what is no core, and when a trial stops.
use Rattle.std.specs.Prelude.{◌≡◌, ℕ, List, [], ◌∷◌, ◌++◌, ℤ, pos, negsuc}
use Rattle.std.specs.Global.{Vec}
use Rattle.frac_core.specs.Fraction.{Fraction}
use Rattle.problem_core.specs.declared.parts.Rel.TheVariants.{Eq, Ge, Le}
use Rattle.problem_core.specs.declared.parts.RowName.TheVariants.{Held}
use Rattle.problem_core.specs.declared.parts.Stay.{Stay}
use Rattle.problem_core.specs.Layout.{Problem, Row}
use Rattle.problem_core.specs.Window.{required_row, structural_rows, zero_fraction}
use Rattle.cert_core.specs.declared.by.By.{By}
use Rattle.corner_laws.specs.Examples.{single}
use Rattle.layout_solver.specs.Instances.{below_bound}
use Rattle.conflict_core.specs.Cores.{IsCore}
use Rattle.conflict_core.specs.Shown.{IsShownCore}
use Rattle.conflict_core.specs.Trials.{IsCoreStop}
use Rattle.conflict_core.specs.declared.found.CoreStop.TheVariants.{Spent}

-- ---- after `view a`, `constrain g a.width >= 200` and `constrain h a.width == 150 @500` the command
-- `constrain g a.width <= 100`

-- so many points
abbrev pub points : ℕ → Fraction
points n = record { num = pos n; den = 1 }

-- the number of a's width
abbrev pub a_width : ℕ
a_width = 7

-- width and height of a are at least 0, and the width at least 200
abbrev pub held_rows : List Row
held_rows = required_row 5 a_width Ge zero_fraction ∷ required_row 6 8 Ge zero_fraction
    ∷ required_row 7 a_width Ge (points 200) ∷ []

-- the width would be 150
abbrev pub wished_row : Row
wished_row = record {
  id = 8;
  rank = 500;
  weight = 1;
  rel = Eq;
  scale = 1;
  constant = points 150;
  terms = record { attr = a_width; by = pos 1 } ∷ [];
}

-- the stay of an attribute, at 0
abbrev pub still : ℕ → Stay
still attr = record { attr = attr; target = zero_fraction }

-- the window's rows and these, and that the width is at most 100
abbrev pub clash : Problem
clash = record {
  rows = structural_rows ++ (held_rows ++ (wished_row ∷ required_row 9 a_width Le (points 100) ∷ []));
  stays = still 1 ∷ still 2 ∷ still 3 ∷ still 4 ∷ still 5 ∷ still 6
      ∷ record { attr = a_width; target = points 200 } ∷ still 8 ∷ [];
}

-- rows 7 and 9 clash, and nothing less, nothing more, no optional row, in no other order
pub record SomeAreCores : Type 0 where
  pub two : IsCore clash (7 ∷ 9 ∷ [])
  pub none : IsCore clash [] → ⊥
  pub one : IsCore clash (7 ∷ []) → ⊥
  pub more : IsCore clash (5 ∷ 7 ∷ 9 ∷ []) → ⊥
  pub optional : IsCore clash (7 ∷ 8 ∷ 9 ∷ []) → ⊥
  pub falling : IsCore clash (9 ∷ 7 ∷ []) → ⊥

-- ---- what shows it

-- row 7 once, and row 9 so many times
abbrev pub once_and : ℤ → List By
once_and times = record { row = Held 7; times = pos 1 } ∷ record { row = Held 9; times = times } ∷ []

-- all attributes at 0, except a's width at so many points
abbrev pub with_width : ℕ → List (ℕ × Fraction)
with_width n = (1, zero_fraction) ∷ (2, zero_fraction) ∷ (3, zero_fraction) ∷ (4, zero_fraction)
    ∷ (5, zero_fraction) ∷ (6, zero_fraction) ∷ (a_width, points n) ∷ (8, zero_fraction) ∷ []

-- without row 7 the width may be so many points, and without row 9 so many
abbrev pub widths : ℕ → ℕ → List (ℕ × List (ℕ × Fraction))
widths m n = (7, with_width m) ∷ (9, with_width n) ∷ []

-- row 7 less row 9 shows it, with a width of 0 without the one and of 200 without the other; but no other
-- multiples, not with the values of the other row, nor without the values of one
pub record SomeAreShown : Type 0 where
  pub two : IsShownCore clash (7 ∷ 9 ∷ []) (once_and (negsuc 0)) (widths 0 200)
  pub summed : IsShownCore clash (7 ∷ 9 ∷ []) (once_and (pos 1)) (widths 0 200) → ⊥
  pub unnamed : IsShownCore clash (7 ∷ 9 ∷ []) [] (widths 0 200) → ⊥
  pub exchanged : IsShownCore clash (7 ∷ 9 ∷ []) (once_and (negsuc 0)) (widths 200 0) → ⊥
  pub lacking : IsShownCore clash (7 ∷ 9 ∷ []) (once_and (negsuc 0)) ((7, with_width 0) ∷ []) → ⊥

-- ---- where a trial stops

-- with no exchange the trial of `x >= 5` stops below its bound; with one it doesn't, nor does that of another
-- row
pub record SomeTrialsStop : Type 0 where
  pub spent : (held : Vec ℕ) → held.items ≡ 1 ∷ [] → IsCoreStop (single 5) 0 (Spent held below_bound)
  pub early : (held : Vec ℕ) → held.items ≡ 1 ∷ [] → IsCoreStop (single 5) 1 (Spent held below_bound) → ⊥
  pub other : (held : Vec ℕ) → held.items ≡ 2 ∷ [] → IsCoreStop (single 5) 0 (Spent held below_bound) → ⊥
  pub none : (held : Vec ℕ) → held.items ≡ [] → IsCoreStop (single 5) 0 (Spent held below_bound) → ⊥
