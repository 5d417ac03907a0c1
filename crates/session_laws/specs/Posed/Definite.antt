-- What holds of every scene that a session reaches, and makes the problem of each of its drafts one alone: no
-- denominator is 0, and each view is newer than its parent.
use Rattle.std.specs.Prelude.{◌≡◌, ◌<◌, ℕ, List, All, Some}
use Rattle.name_tables.specs.Names.{values_of}
use Rattle.view_tree.specs.Views.{LiveView}
use Rattle.script_text.specs.Meaning.{Change, Command, Linear, Updating}
use Rattle.script_text.specs.Meaning as mean
use Rattle.compile_parts.specs.Meaning.{HasDenominator, MetricList, Part, Nothing, Number, Multiple}
use Rattle.constraint_compile.specs.Compiled.{RowForm}
use Rattle.held_items.specs.Items.{Item, OfWindow, OfView, Sized, OfLine, Suggested, Intrinsic}
use Rattle.scenes.specs.Scene.{Scene}
use Rattle.session_undo.specs.State.{State}

-- ---- denominators

-- each metric's value has a denominator above 0
abbrev pub AreDefinite : MetricList → Type 0
AreDefinite metrics = All (λ f. 0 < f.den) (values_of metrics)

-- the number, or the factor of the metric, has one
abbrev pub IsDefinitePart : Part → Type 0
IsDefinitePart Nothing = Unit {0}
IsDefinitePart (Number by) = 0 < by.den
IsDefinitePart (Multiple by name) = 0 < by.den

-- so it is with what each term adds to the row's constant
abbrev pub IsDefiniteForm : RowForm → Type 0
IsDefiniteForm f = All (λ s. IsDefinitePart s.part) f.steps

-- so it is with each row of a line that is held
abbrev pub IsDefiniteItem : Item → Type 0
IsDefiniteItem OfWindow = Unit {0}
IsDefiniteItem (OfView first_row id) = Unit {0}
IsDefiniteItem (Sized first_row width height) = Unit {0}
IsDefiniteItem (OfLine group line) = All IsDefiniteForm line.rows
IsDefiniteItem (Suggested s) = Unit {0}
IsDefiniteItem (Intrinsic s) = Unit {0}

-- so it is with the factor of each term of a line
pub record IsDefiniteLine (l : Linear) : Type 0 where
  pub left : All HasDenominator l.left
  pub right : All HasDenominator l.right

-- ---- views

-- each view is newer than its parent
abbrev pub AreOlder : List LiveView → Type 0
AreOlder views = All (λ v. (parent : ℕ) → v.parent ≡ Some parent → parent < v.id) views

-- ---- scenes

-- so it is with its metrics and with what is held, and so it is with its views, whose numbers are below that
-- of the next one
pub record IsDefinite (scene : Scene) : Type 0 where
  pub metrics : AreDefinite scene.metrics
  pub held : All IsDefiniteItem scene.held
  pub below : All (λ v. v.id < scene.tree.next) scene.tree.views
  pub older : AreOlder scene.tree.views

-- so it is with the scene of a session, and with each of those before it
pub record IsDefiniteState (s : State) : Type 0 where
  pub scene : IsDefinite s.scene
  pub earlier : All IsDefinite s.earlier

-- ---- commands

-- no number for a metric, a suggestion or a term has a denominator of 0
abbrev pub IsDefiniteUpdate : Updating → Type 0
IsDefiniteUpdate (mean.Metric name value) = 0 < value.den
IsDefiniteUpdate (mean.Constrain group line) = IsDefiniteLine line
IsDefiniteUpdate (mean.Suggest name attr value priority) = 0 < value.den
IsDefiniteUpdate _ = Unit {0}

-- so it is with a change, which alone gives such numbers
abbrev pub IsDefiniteChange : Change → Type 0
IsDefiniteChange (mean.Update new) = IsDefiniteUpdate new
IsDefiniteChange _ = Unit {0}

-- and with a command
abbrev pub IsDefiniteCommand : Command → Type 0
IsDefiniteCommand (mean.Changes c) = IsDefiniteChange c
IsDefiniteCommand (mean.Other c) = Unit {0}
