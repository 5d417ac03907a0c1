-- The answer to `why`, and the reply to the change itself.
use Rattle.std.specs.Prelude.{ℕ, List, [], ◌∷◌, ℤ, pos, negsuc}
use Rattle.frac_core.specs.Fraction.{Fraction}
use Rattle.problem_core.specs.declared.parts.Mark.{Mark}
use Rattle.problem_core.specs.declared.parts.RowName.TheVariants.{Held}
use Rattle.problem_core.specs.Layout.{Problem}
use Rattle.problem_core.specs.Window.{window_values, zero_fraction}
use Rattle.cert_core.specs.declared.by.By.{By}
use Rattle.conflict_core.specs.Cores.{IsCore}
use Rattle.script_text.specs.declared.words.Version.{Version}
use Rattle.script_text.specs.Meaning.{Change}
use Rattle.script_text.specs.Meaning as mean
use Rattle.session_undo.specs.Explaining.{WhyStep}
use Rattle.session_undo.specs.Machine.{ChangeStep, PosesChange}
use Rattle.session_undo.specs.Replies.{Conflict, Core, Done, Solvable}
use Rattle.session_undo.specs.State.{State, first_state}
use Rattle.session_laws.specs.Posed.Definite.{IsDefinite, IsDefiniteChange}

-- a core in the reply is a core of the problem that the change poses
abbrev pub CoresArePosed : Type 0
CoresArePosed = (old : State) (c : Change) (ids : List ℕ) (by : List By)
    (values : List (ℕ × List (ℕ × Fraction))) (new : State) → WhyStep old c (Core ids by values) new
    → (p : Problem) × PosesChange old c p × IsCore p ids

-- if the reply says that there is no conflict, the change isn't refused for one
abbrev pub SolvableIsNotRefused : Type 0
SolvableIsNotRefused = (old : State) (c : Change) (told after : State) (by : List By) → IsDefinite old.scene
    → IsDefiniteChange c → WhyStep old c Solvable told → ChangeStep old c (Conflict by) after → ⊥

-- if the reply shows a core, the change isn't accepted
abbrev pub CoreIsNotAccepted : Type 0
CoreIsNotAccepted = (old : State) (c : Change) (ids : List ℕ) (by : List By)
    (values : List (ℕ × List (ℕ × Fraction))) (told after : State) → IsDefinite old.scene
    → IsDefiniteChange c → WhyStep old c (Core ids by values) told → ChangeStep old c Done after → ⊥

-- ---- instances

-- so many points
abbrev pub points : ℤ → Fraction
points n = record { num = n; den = 1 }

-- the window is so wide, and one point high
abbrev pub width_of_window : ℤ → Change
width_of_window n = mean.Update (mean.Window (points n) (points (pos 1)))

-- the window's own row, that its width is at least 0, less the row of its size
abbrev pub own_less_size : List By
own_less_size = record { row = Held 3; times = pos 1 } ∷ record { row = Held 5; times = negsuc 0 } ∷ []

-- without the former the width may be -1, and without the latter 0
abbrev pub widths : List (ℕ × List (ℕ × Fraction))
widths = (3, window_values (points (negsuc 0)) zero_fraction)
    ∷ (5, window_values zero_fraction zero_fraction) ∷ []

-- of a width of 1 it is told that there is no conflict, and never a core; of a width of -1 a core of these
-- two rows may be told, and never that there is none
pub record WidthsAreExplained (old : State) : Type 0 where
  pub solvable : WhyStep old (width_of_window (pos 1)) Solvable old
  pub no_core : (ids : List ℕ) (by : List By) (values : List (ℕ × List (ℕ × Fraction))) (new : State)
      → WhyStep old (width_of_window (pos 1)) (Core ids by values) new → ⊥
  pub core : WhyStep old (width_of_window (negsuc 0)) (Core (3 ∷ 5 ∷ []) own_less_size widths) old
  pub clashing : (new : State) → WhyStep old (width_of_window (negsuc 0)) Solvable new → ⊥

-- so it is in a new session
abbrev pub SizesAreExplained : Type 0
SizesAreExplained = (v : Version) (corner : List Mark) → WidthsAreExplained (first_state v corner)
