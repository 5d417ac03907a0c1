-- One problem at most is posed by a command.
use Rattle.std.specs.Prelude.{◌≡◌, List, ◌++◌}
use Rattle.frac_core.specs.Fraction.{Fraction}
use Rattle.problem_core.specs.declared.parts.Mark.{Mark}
use Rattle.problem_core.specs.Layout.{Problem}
use Rattle.problem_core.specs.Window.{structural_rows}
use Rattle.script_text.specs.declared.words.Version.{Version}
use Rattle.script_text.specs.Meaning.{Command}
use Rattle.script_text.specs.Meaning as mean
use Rattle.held_items.specs.Items.{size_rows}
use Rattle.held_items.specs.declared.row_numbers.TheConstants.{FIRST_FREE_ROW}
use Rattle.scenes.specs.Scene.{moved, new_stays, new_values}
use Rattle.session_undo.specs.Machine.{CommandStep, Poses, PosesChange}
use Rattle.session_undo.specs.Replies.{Reply}
use Rattle.session_undo.specs.State.{IsFirstOf, State, first_state}
use Rattle.session_laws.specs.Posed.Definite.{IsDefinite, IsDefiniteCommand, IsDefiniteState}

-- two problems that a command poses in a session are one
abbrev pub OneProblemIsPosed : Type 0
OneProblemIsPosed = (old : State) (c : Command) (p q : Problem) → IsDefinite old.scene
    → IsDefiniteCommand c → Poses old c p → Poses old c q → p ≡ q

-- a new session is one of those of which this is said, whatever its version
abbrev pub FirstIsDefinite : Type 0
FirstIsDefinite = (v : Version) (first : State) → IsFirstOf v first → IsDefiniteState first

-- and so is the session after each line
abbrev pub StepsStayDefinite : Type 0
StepsStayDefinite = (old : State) (c : Command) (reply : Reply) (new : State) → IsDefiniteState old
    → IsDefiniteCommand c → CommandStep old c reply new → IsDefiniteState new

-- ---- an instance

-- the problem of the first window of this size
abbrev pub sized_window : Fraction → Fraction → Problem
sized_window width height = record {
  rows = structural_rows ++ size_rows FIRST_FREE_ROW width height;
  stays = moved (new_stays 0) (new_values 0);
}

-- in a new session a size of the window poses it
abbrev pub SizesArePosed : Type 0
SizesArePosed = (v : Version) (corner : List Mark) (width height : Fraction)
    → PosesChange (first_state v corner) (mean.Update (mean.Window width height))
    (sized_window width height)
