-- What the changes of a corner answer.
use Rattle.std.specs.Prelude.{◌≡◌, ℕ, List, [], ◌∷◌, map, All}
use Rattle.frac_core.specs.Fraction.{Fraction, IsKept}
use Rattle.problem_core.specs.Layout.{Problem}
use Rattle.corner_lines.specs.Shifts.{IsShift}
use Rattle.problem_core.specs.Changes.Stops.{TableStop}
use Rattle.frac_core.specs.declared.memory.Stop.TheVariants.{Refused, OutOfMemory as NoMemory}
use Rattle.problem_core.specs.Corners.{attr_column}
use Rattle.corner_view.specs.Seen.{CornerView, HasValueAt, Scene}

-- the scene of now
abbrev pub scene_of : CornerView → Scene
scene_of v = record { problem = v.problem; marks = v.marks }

-- the scene is that of the newest mark again
pub record IsRewound (old new : CornerView) : Type 0 where
  pub before : new.before ≡ old.before
  pub scene : (rest : List Scene) × (old.before ≡ scene_of new ∷ rest)
  pub candidates : new.candidates ≡ []

-- the same corner, but after want of memory that of the newest mark
abbrev pub IsAsBefore : CornerView → CornerView → TableStop → Type 0
IsAsBefore old new (Refused quantity) = new ≡ old
IsAsBefore old new NoMemory = IsRewound old new

-- the problems have the same rows and attributes, and the new one's stays stand at the old one's values
pub record HasStood (old new : CornerView) : Type 0 where
  pub rows : new.problem.rows ≡ old.problem.rows
  pub attrs : map (λ s. s.attr) new.problem.stays ≡ map (λ s. s.attr) old.problem.stays
  pub targets : All (λ s. HasValueAt old.problem old.marks (attr_column s.attr) s.target) new.problem.stays

-- the problem has the row, and what this constant is above the row's own fits
abbrev pub IsNear : Problem → ℕ → Fraction → Type 0
IsNear p id to = (from : Fraction) × (more : Fraction) × IsShift p id from to more × IsKept more
