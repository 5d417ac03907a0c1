-- States of one attribute: whose probes have room, and have not, and from which a row can leave; and the
-- scene of some lines, from which a row can leave that isn't the last.
use Rattle.std.specs.Prelude.{ℕ, List, [], ◌∷◌, ◌++◌, ◌-◌, pos, negsuc}
use Rattle.frac_core.specs.declared.frac.TheConstants.{PART_BOUND}
use Rattle.frac_core.specs.Fraction.{Fraction}
use Rattle.problem_core.specs.declared.limits.TheConstants.{REQUIRED}
use Rattle.problem_core.specs.declared.parts.Rel.TheVariants.{Eq, Ge}
use Rattle.problem_core.specs.Layout.{Problem, Row}
use Rattle.problem_core.specs.Window.{required_row, structural_rows, window_values, window_width}
use Rattle.problem_core.specs.Window.{zero_fraction}
use Rattle.script_text.specs.declared.words.AttrWord.{AttrWord}
use Rattle.script_text.specs.declared.words.AttrWord.TheVariants.{Height, Left}
use Rattle.script_text.specs.declared.words.Direction.TheVariants.{Ltr}
use Rattle.script_text.specs.declared.words.Version.TheVariants.{One}
use Rattle.view_tree.specs.Views.{first_tree}
use Rattle.view_tree.specs.declared.limits.TheConstants.{VIEW_LIMIT}
use Rattle.compile_parts.specs.Meaning.{Nothing, Number}
use Rattle.constraint_compile.specs.Compiled.{RowForm}
use Rattle.constraint_compile.specs.Suggestions.{suggested_row}
use Rattle.constraint_compile.specs.declared.suggestion.Suggestion.{Suggestion}
use Rattle.constraint_compile.specs.declared.suggestion.TheConstants.{USUAL_RANK}
use Rattle.scenes.specs.declared.limits.TheConstants.{FIRST_BUDGET}
use Rattle.held_items.specs.Items.{Item, OfLine, OfWindow, Suggested}
use Rattle.session_undo.specs.State.{State, first_limits}
use Rattle.session_laws.specs.Answered.Examples.{lone_row, zero_stay}

-- attribute 1 has this value, and these are held, with these rows
abbrev pub state_of : List Item → List Row → Fraction → State
state_of held rows value = record {
  scene = record {
    tree = first_tree VIEW_LIMIT;
    metrics = [];
    held = held;
    next_row = 2;
    direction = Ltr;
    rows = rows;
    stays = record { attr = 1; target = value } ∷ [];
    values = (1, value) ∷ [];
    corner = [];
  };
  earlier = [];
  budget = FIRST_BUDGET;
  limits = first_limits;
  version = One;
}

-- it is 0, and has no row
abbrev pub free_state : State
free_state = state_of [] [] zero_fraction

-- it has the greatest value that fits
abbrev pub far_state : State
far_state = state_of [] [] (record { num = pos (PART_BOUND - 1); den = 1 })

-- the row that attribute 1 is 0, of the least priority, as its line is compiled
abbrev pub lone_form : RowForm
lone_form = record {
  id = 1;
  rank = 0;
  weight = 1;
  rel = Eq;
  terms = record { attr = 1; by = pos 1 } ∷ [];
  steps = [];
}

-- it is 0, by a line of the group whose name is empty
abbrev pub held_state : State
held_state = state_of (OfLine [] (record { rows = lone_form ∷ []; views = [] }) ∷ []) (lone_row (pos 0) ∷ [])
    zero_fraction

-- ---- a scene that a script leads to

-- the row of `constrain g window.width >= 1`, as the line is compiled
abbrev pub width_form : RowForm
width_form = record {
  id = 5;
  rank = REQUIRED;
  weight = 1;
  rel = Ge;
  terms = record { attr = window_width; by = pos 1 } ∷ [];
  steps = record { scale = 1; part = Nothing }
      ∷ record { scale = 1; part = Number (record { num = negsuc 0; den = 1 }) } ∷ [];
}

-- the suggestion that this attribute of the window is 0, of the usual priority
abbrev pub zero_suggestion : ℕ → AttrWord → Suggestion
zero_suggestion row word = record {
  row = row;
  rank = USUAL_RANK;
  view = 0;
  word = word;
  direction = Ltr;
  constant = zero_fraction;
}

-- a width of at least 1, by a line of the group g, a height of 0 and a left of 0, by suggestions
abbrev pub three_rows : List Row
three_rows = required_row 5 window_width Ge (record { num = pos 1; den = 1 })
    ∷ suggested_row (zero_suggestion 6 Height) ∷ suggested_row (zero_suggestion 7 Left) ∷ []

-- the scene of the lines `constrain g window.width >= 1`, `suggest window.height 0`, `suggest window.left 0`,
-- with a budget of two millions
abbrev pub bounded_state : State
bounded_state = record {
  scene = record {
    tree = first_tree VIEW_LIMIT;
    metrics = [];
    held = OfWindow ∷ OfLine (103 ∷ []) (record { rows = width_form ∷ []; views = 0 ∷ [] })
        ∷ Suggested (zero_suggestion 6 Height) ∷ Suggested (zero_suggestion 7 Left) ∷ [];
    next_row = 8;
    direction = Ltr;
    rows = structural_rows ++ three_rows;
    stays = zero_stay 1 ∷ zero_stay 2
        ∷ record { attr = window_width; target = record { num = pos 1; den = 1 } } ∷ zero_stay 4 ∷ [];
    values = window_values (record { num = pos 1; den = 1 }) zero_fraction;
    corner = [];
  };
  earlier = [];
  budget = 2000000;
  limits = first_limits;
  version = One;
}

-- the problem that is left without the group: the row behind it, and the next, are still there
abbrev pub without_width : Problem
without_width = record {
  rows = structural_rows
      ++ (suggested_row (zero_suggestion 6 Height) ∷ suggested_row (zero_suggestion 7 Left) ∷ []);
  stays = bounded_state.scene.stays;
}
