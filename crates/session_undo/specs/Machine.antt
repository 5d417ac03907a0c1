-- The step of a session: what a command leads to.
use Rattle.std.specs.Prelude.{◌≡◌, ℕ, ◌+◌, ◌*◌, ◌<◌, ◌≤◌, ◌⊎◌, List, [], ◌∷◌, length, codes, Option, Some}
use Rattle.std.specs.Prelude.{None, IsSome, Bool, false, All}
use Rattle.std.specs.List.{list_any}
use Rattle.std.specs.Option.{option_map}
use Rattle.frac_core.specs.Fraction.{Fraction}
use Rattle.name_tables.specs.Names.{names_of, place_of, value_of}
use Rattle.serde_json.specs.Data.{Data}
use Rattle.view_tree.specs.JsonTrees.{Branch, IsJson, IsTreeText, JsonTree, names, size, tree_of}
use Rattle.view_tree.specs.JsonStops.{GoesIn, IsFirstHeld, PassesTreeLimit}
use Rattle.view_tree.specs.Views.{LiveView, ViewTree, IsAtDepth, view_named}
use Rattle.problem_core.specs.Layout.{Row, Problem}
use Rattle.cert_core.specs.declared.by.By.{By}
use Rattle.cert_core.specs.Claims.{BestLevel}
use Rattle.cert_core.specs.Paths.{Path}
use Rattle.cert_core.specs.Stops.{IsShownConflict}
use Rattle.cert_core.specs.declared.stops.UnfitPath.{UnfitPath}
use Rattle.vfl_text.specs.Formats.{FormatMeaning}
use Rattle.view_tree.specs.Drops.{AreGoing}
use Rattle.layout_solver.specs.declared.request.RequestStop.{RequestStop}
use Rattle.span_text.specs.Objects.{Meant}
use Rattle.script_text.specs.declared.words.Align.{Align}
use Rattle.script_text.specs.declared.words.AttrWord.{AttrWord}
use Rattle.script_text.specs.Directions.{line_in}
use Rattle.script_text.specs.Meaning.{Change, Coming, Command, Leaving, Linear, Plain, Updating}
use Rattle.compile_parts.specs.Meaning.{MetricList, IsRank, unknown_object}
use Rattle.constraint_compile.specs.Suggestions.{priority_or, scale_of, suggested_priority}
use Rattle.constraint_compile.specs.declared.suggestion.Suggestion.{Suggestion}
use Rattle.constraint_compile.specs.Compiled.{CompiledLine}
use Rattle.compile_parts.specs.Fractions.{negated, IsConstant, IsSmallConstant}
use Rattle.constraint_compile.specs.Stops.{IsCompiled, MayStop}
use Rattle.format_compile.specs.FormatParts.{parts}
use Rattle.format_compile.specs.FormatStops.{row_count}
use Rattle.format_compile.specs.FormatRows.{IsCompiledFormat, MayStopFormat}
use Rattle.compile_parts.specs.declared.stops.CompileStop.{CompileStop}
use Rattle.name_tables.specs.declared.metrics.TheConstants.{METRIC_LIMIT}
use Rattle.name_tables.specs.declared.stops.TheConstants.{NAME_LIMIT}
use Rattle.problem_core.specs.declared.limits.TheConstants.{NUMBER_LIMIT}
use Rattle.view_tree.specs.declared.limits.TheConstants.{DEPTH_LIMIT, ID_LIMIT}
use Rattle.session_undo.specs.declared.limits.TheConstants.{BUDGET_LIMIT}
use Rattle.held_items.specs.declared.item.intrinsic.IntrinsicSize.{IntrinsicSize}
use Rattle.held_items.specs.declared.item.intrinsic.TheConstants.{USUAL_HUG, USUAL_RESIST}
use Rattle.held_items.specs.declared.row_numbers.TheConstants.{INTRINSIC_ROWS, SIZE_ROWS, VIEW_ROWS}
use Rattle.held_items.specs.Items.{IsSmallItem, line_count, has_size, suggestion_of, suggestion_name}
use Rattle.held_items.specs.Items.{intrinsic_name, intrinsic_of}
use Rattle.scenes.specs.Scene.{Scene, with_view, with_metric, with_window, with_line, problem_of, with_branch}
use Rattle.scenes.specs.Scene.{with_direction, with_earlier, with_suggestion, with_suggested, draft_problem}
use Rattle.scenes.specs.Scene.{with_kept}
use Rattle.scenes.specs.Scene.{AreDraftRows, IsBestScene, with_intrinsic, with_preferred}
use Rattle.session_undo.specs.State.{State}
use Rattle.session_undo.specs.Replies.{Reply, Done, Frames, Rows, Outside, Unknown, Taken, Limit}
use Rattle.session_undo.specs.Replies.{Kind, Certificate, NoEarlier, Conflict, Overflow, Spent, Place, Step}
use Rattle.session_undo.specs.Replies.{Still, Diagnosed, NoTarget, Probe, Sweep, SweepOverflow, Swept}
use Rattle.diagnosis.specs.Diagnoses.{Findings}
use Rattle.scenes.specs.Drafts as step
use Rattle.scenes.specs.Diagnosing.{AreFindingsOf, IsCertificateOf, IsProbedStop}
use Rattle.scenes.specs.Sweeping.{AreSweptOf, IsFarSweep, IsSweepStopOf, problem_here}
use Rattle.sweep_laws.specs.Fractions.{IsLess}
use Rattle.sweep_laws.specs.Stretches.{Stretch}
use Rattle.sweep_run.specs.declared.stretches.SweepQuantity.{SweepQuantity}
use Rattle.sweep_run.specs.declared.stretches.SweepStop.TheVariants as swept
use Rattle.held_items.specs.Leaving.{is_in_group}
use Rattle.scenes.specs.Leaving.{without_group, without_intrinsic, without_suggestion, without_views}
use Rattle.held_items.specs.Moving.{AreNear, FitsAfter, IsFarSize}
use Rattle.scenes.specs.Steps.{IsProblemOf, CannotLeave, HasLeft, IsStopped, IsSolved}
use Rattle.name_tables.specs.declared.stops.LimitWord.TheVariants as word
use Rattle.cert_core.specs.declared.stops.RunStop.TheVariants as run
use Rattle.layout_solver.specs.declared.request.RequestStop.TheVariants as request
use Rattle.compile_parts.specs.declared.stops.KindWord.TheVariants as kind
use Rattle.script_text.specs.Meaning as mean
use Rattle.compile_parts.specs.declared.stops.CompileStop.TheVariants as stop
use Rattle.diagnosis.specs.declared.probing.DiagnoseStop.TheVariants as probed

-- if the fact holds, this refusal and no change; otherwise as F says
abbrev pub Unless : Type 0 → Reply → State → (Reply → State → Type 0) → Reply → State → Type 0
Unless Fact refusal old F reply new = (Fact × (reply ≡ refusal) × (new ≡ old)) ⊎ ((Fact → ⊥) × F reply new)

-- if there is such a cause, its refusal and no change; otherwise as F says
abbrev pub UnlessAny : {A : Type 0} → (A → Type 0) → (A → Reply) → State → (Reply → State → Type 0)
    → Reply → State → Type 0
UnlessAny {A = A} IsCause refusal old F reply new =
    ((a : A) × IsCause a × (reply ≡ refusal a) × (new ≡ old)) ⊎ (((a : A) → IsCause a → ⊥) × F reply new)

-- the reply asks for no change
abbrev pub Keeps : Reply → State → Reply → State → Type 0
Keeps answer old reply new = (reply ≡ answer) × (new ≡ old)

-- ---- solving

-- the command is accepted, and the scene is this draft solved
pub record Accepts (draft : Scene) (old : State) (reply : Reply) (new : State) : Type 0 where
  pub done : reply ≡ Done
  pub path : Path
  pub solved : IsSolved old.scene draft old.budget path new.scene
  pub kept : new
      ≡ record old { scene = new.scene; earlier = with_earlier old.limits.undo old.scene old.earlier }

-- the required rows of the draft have no solution, as multipliers of them show
pub record Conflicts (draft : Scene) (old : State) (reply : Reply) (new : State) : Type 0 where
  pub by : List By
  pub rows : List Row
  pub are : AreDraftRows draft rows
  pub shown : IsShownConflict (draft_problem draft rows) by
  pub refused : Keeps (Conflict by) old reply new

-- a quantity doesn't fit at the end of a path over the draft's rows, within the budget
pub record Overflows (draft : Scene) (old : State) (reply : Reply) (new : State) : Type 0 where
  pub at : UnfitPath
  pub stopped : IsStopped old.scene draft old.budget (run.Unfit at)
  pub refused : Keeps (Overflow Step at.path at.quantity) old reply new

-- a path over the draft's rows has just the budget's exchanges, and its last corner is no end
pub record Spends (draft : Scene) (old : State) (reply : Reply) (new : State) : Type 0 where
  pub path : Path
  pub stopped : IsStopped old.scene draft old.budget (run.Spent path)
  pub refused : Keeps (Spent Step path) old reply new

-- the draft is solved, or nothing changes, and the reply is no conflict
abbrev pub SolvesFree : State → Scene → Reply → State → Type 0
SolvesFree old draft reply new =
    Accepts draft old reply new ⊎ Overflows draft old reply new ⊎ Spends draft old reply new

-- the draft is solved, or there is no change
abbrev pub Solves : State → Scene → Reply → State → Type 0
Solves old draft reply new = Conflicts draft old reply new ⊎ SolvesFree old draft reply new

-- ---- standing

-- the command is accepted, and the scene is this draft, whose rows, values and corner are those before: there
-- is nothing to solve, since these are the rows of what is held, and the values are the best
pub record Stands (old : State) (draft : Scene) (reply : Reply) (new : State) : Type 0 where
  pub done : reply ≡ Done
  pub rows : AreDraftRows draft draft.rows
  pub best : IsBestScene draft
  pub kept : new ≡ record old { scene = draft; earlier = with_earlier old.limits.undo old.scene old.earlier }

-- ---- leaving

-- the command is accepted, and the scene is this draft once the rest has left
pub record Leaves (draft : Scene) (old : State) (reply : Reply) (new : State) : Type 0 where
  pub done : reply ≡ Done
  pub left : HasLeft old.scene draft old.budget new.scene
  pub kept : new
      ≡ record old { scene = new.scene; earlier = with_earlier old.limits.undo old.scene old.earlier }

-- the rows that are still held, if any
abbrev pub still_place : List ℕ → Place
still_place [] = Step
still_place (id ∷ ids) = Still (id ∷ ids)

-- the reply to such a stop
abbrev pub TellsStill : State → RequestStop → Reply → State → Type 0
TellsStill old (request.Unfit still at) = Keeps (Overflow (still_place still.items) at.path at.quantity) old
TellsStill old (request.Conflict by) = λ reply new. ⊥
TellsStill old (request.Spent path) = λ reply new. ⊥
TellsStill old request.OutOfMemory = λ reply new. ⊥

-- a quantity doesn't fit on the way, or at the end of a path within the budget
pub record StillOverflows (draft : Scene) (old : State) (reply : Reply) (new : State) : Type 0 where
  pub stop : RequestStop
  pub stopped : CannotLeave old.scene draft old.budget stop
  pub told : TellsStill old stop reply new

-- a path from where the rows have left has just the budget's exchanges, and its last corner is no end
pub record LeftSpends (draft : Scene) (old : State) (reply : Reply) (new : State) : Type 0 where
  pub path : Path
  pub stopped : CannotLeave old.scene draft old.budget (request.Spent path)
  pub refused : Keeps (Spent Step path) old reply new

-- the rest of the scene is solved, or there is no change
abbrev pub LeavesFree : State → Scene → Reply → State → Type 0
LeavesFree old draft reply new =
    Leaves draft old reply new ⊎ StillOverflows draft old reply new ⊎ LeftSpends draft old reply new

-- ---- what is found

-- the reply has the findings of the scene
pub record Finds (old : State) (reply : Reply) (new : State) : Type 0 where
  pub findings : Findings
  pub are : AreFindingsOf old.scene findings
  pub told : Keeps (Diagnosed findings) old reply new

-- in a probe a quantity doesn't fit at the end of a path within the budget
pub record ProbeOverflows (old : State) (reply : Reply) (new : State) : Type 0 where
  pub attr : ℕ
  pub up : Bool
  pub at : UnfitPath
  pub stopped : IsProbedStop old.scene old.budget attr (probed.Unfit up at)
  pub refused : Keeps (Overflow (Probe attr up) at.path at.quantity) old reply new

-- a probe's path has just the budget's exchanges, and its last corner is no end
pub record ProbeSpends (old : State) (reply : Reply) (new : State) : Type 0 where
  pub attr : ℕ
  pub up : Bool
  pub path : Path
  pub stopped : IsProbedStop old.scene old.budget attr (probed.Spent up path)
  pub refused : Keeps (Spent (Probe attr up) path) old reply new

-- the value that a probe wishes doesn't fit
pub record LacksTarget (old : State) (reply : Reply) (new : State) : Type 0 where
  pub attr : ℕ
  pub up : Bool
  pub stopped : IsProbedStop old.scene old.budget attr (probed.Target up)
  pub refused : Keeps (NoTarget attr up) old reply new

-- the reply has the findings of the scene, or why a probe stops
abbrev pub Diagnoses : State → Reply → State → Type 0
Diagnoses old reply new =
    Finds old reply new ⊎ ProbeOverflows old reply new ⊎ ProbeSpends old reply new ⊎ LacksTarget old reply new

-- ---- sweeps

-- the first width is above the second, or the window has no size
abbrev pub IsNoSweep : Scene → Fraction → Fraction → Type 0
IsNoSweep scene from to = IsLess to from ⊎ (has_size scene.held ≡ false)

-- neither that, nor what a line can't name
abbrev pub IsSweepFree : Scene → Fraction → Fraction → Type 0
IsSweepFree scene from to = (IsNoSweep scene from to → ⊥) × (IsFarSweep scene.held from to → ⊥)

-- the reply has the stretches of the widths
pub record TellsSweep (old : State) (from to : Fraction) (reply : Reply) (new : State) : Type 0 where
  pub stretches : List Stretch
  pub are : AreSweptOf old.scene from to stretches
  pub told : Keeps (Swept stretches) old reply new

-- something that a sweep forms doesn't fit at the end of a path within the budget
pub record SweepOverflows (old : State) (from to : Fraction) (reply : Reply) (new : State) : Type 0 where
  pub width : Fraction
  pub path : Path
  pub what : SweepQuantity
  pub stopped : IsSweepStopOf old.scene from to old.budget (swept.Unfit width path what)
  pub refused : Keeps (SweepOverflow width path what) old reply new

-- a run of it has just the budget's exchanges, and its last corner is no end
pub record SweepSpends (old : State) (from to : Fraction) (reply : Reply) (new : State) : Type 0 where
  pub width : Fraction
  pub path : Path
  pub stopped : IsSweepStopOf old.scene from to old.budget (swept.Spent width path)
  pub refused : Keeps (Spent (Sweep width) path) old reply new

-- the reply has the solutions for each width, or why the sweep stops
abbrev pub Sweeps : State → Fraction → Fraction → Reply → State → Type 0
Sweeps old from to reply new =
    TellsSweep old from to reply new ⊎ SweepOverflows old from to reply new
    ⊎ SweepSpends old from to reply new

-- the widths between two
abbrev pub TriedSweep : State → Fraction → Fraction → (Reply → State → Type 0) → Reply → State → Type 0
TriedSweep old from to F = Unless (IsNoSweep old.scene from to) (Kind kind.Sweep) old
    (Unless (IsFarSweep old.scene.held from to) (Limit word.Constant) old F)

-- ---- limits and names

-- a view or a metric has the name
abbrev pub IsTaken : Scene → List ℕ → Type 0
IsTaken scene name = IsSome (view_named scene.tree.views name) ⊎ IsSome (value_of scene.metrics name)

-- there are as many views as there may be, or no number is left
abbrev pub HasAllViews : State → Type 0
HasAllViews s = (s.limits.views ≤ length s.scene.tree.views) ⊎ (ID_LIMIT ≤ s.scene.tree.next)

-- a view in this one would be at a depth past the limit
abbrev pub IsDeep : ViewTree → List ℕ → Type 0
IsDeep tree parent =
    (above : LiveView) × (depth : ℕ) × (view_named tree.views parent ≡ Some above)
    × IsAtDepth tree.views above.id depth × (DEPTH_LIMIT ≤ depth)

-- so many more rows would be too many, or one would have too great a number
abbrev pub IsCrowded : State → ℕ → Type 0
IsCrowded s count = (s.limits.rows < length s.scene.rows + count) ⊎ (NUMBER_LIMIT < s.scene.next_row + count)

-- there are as many lines of groups as there may be
abbrev pub HasAllLines : State → Type 0
HasAllLines s = s.limits.lines ≤ line_count s.scene.held

-- a metric of this name would be one too many
abbrev pub AreTooMany : MetricList → List ℕ → Type 0
AreTooMany metrics name = (place_of (names_of metrics) name ≡ None) × (METRIC_LIMIT ≤ length metrics)

-- after each term each constant of what the draft holds is small
abbrev pub AreSmall : Scene → Type 0
AreSmall draft = All (IsSmallItem draft.metrics) draft.held

-- the draft has these rows, and F holds
abbrev pub WithRows : Scene → (List Row → Reply → State → Type 0) → Reply → State → Type 0
WithRows draft F reply new = (rows : List Row) × AreDraftRows draft rows × F rows reply new

-- if a constant isn't small after some term, or moves too far, this limit; otherwise as F says
abbrev pub UnlessFar : State → Scene → (Reply → State → Type 0) → Reply → State → Type 0
UnlessFar old draft F =
    Unless (AreSmall draft → ⊥) (Limit word.Constant) old
    (WithRows draft (λ rows. Unless (AreNear old.scene.rows rows → ⊥) (Limit word.Constant) old F))

-- the window, if no view is named
abbrev pub parent_name : Option (List ℕ) → List ℕ
parent_name None = codes "window"
parent_name (Some name) = name

-- ---- The causes against each command, in the order in which they are tried. Where none of them is there,
-- `End` says what comes of the draft.

-- ---- views, metrics, the window

-- the scene with the view in its parent is the draft
abbrev pub AddsView : State → List ℕ → List ℕ → (Scene → Reply → State → Type 0) → Reply → State → Type 0
AddsView old name parent End reply new =
    (above : LiveView) × (view_named old.scene.tree.views parent ≡ Some above)
    × End (with_view old.scene name above.id) reply new

-- a view of this name, in the parent of that name
abbrev pub TriedView : State → List ℕ → List ℕ → (Scene → Reply → State → Type 0) → Reply → State → Type 0
TriedView old name parent End =
    Unless (view_named old.scene.tree.views parent ≡ None) (Unknown parent) old
    (Unless (IsTaken old.scene name) (Taken name) old
    (Unless (NAME_LIMIT < length name) (Limit word.Name) old
    (Unless (HasAllViews old) (Limit word.Views) old
    (Unless (IsDeep old.scene.tree parent) (Limit word.Depth) old
    (Unless (IsCrowded old VIEW_ROWS) (Limit word.Rows) old
    (AddsView old name parent End))))))

-- the tree of JSON text has another shape
abbrev pub IsMisshapen : List ℕ → Type 0
IsMisshapen text = (d : Data) × IsJson text d × (tree_of d ≡ None)

-- the branch, below this parent
abbrev pub TriedBranch : State → ℕ → Branch → (Scene → Reply → State → Type 0) → Reply → State → Type 0
TriedBranch old parent b End =
    UnlessAny (PassesTreeLimit old.scene.tree parent b) Limit old
    (Unless (IsCrowded old (VIEW_ROWS * size b)) (Limit word.Rows) old
    (End (with_branch old.scene parent b)))

-- the branch of the tree, below the view in which it goes
abbrev pub AddsBranch : State → JsonTree → (Scene → Reply → State → Type 0) → Reply → State → Type 0
AddsBranch old tree End reply new =
    (parent : ℕ) × GoesIn old.scene.tree tree parent × TriedBranch old parent tree.branch End reply new

-- the tree of the text: its parent, its names, its branch
abbrev pub AddsTree : State → List ℕ → (Scene → Reply → State → Type 0) → Reply → State → Type 0
AddsTree old text End reply new =
    (tree : JsonTree) × IsTreeText text tree
    × Unless (view_named old.scene.tree.views tree.place ≡ None) (Unknown tree.place) old
    (UnlessAny (IsFirstHeld old.scene.tree old.scene.metrics (names tree.branch)) Taken old
    (AddsBranch old tree End)) reply new

-- the text begins at this offset of its line
abbrev pub TriedTree : State → List ℕ → ℕ → (Scene → Reply → State → Type 0) → Reply → State → Type 0
TriedTree old text start End =
    Unless ((d : Data) → IsJson text d → ⊥) (Outside start) old
    (Unless (IsMisshapen text) (Kind kind.Tree) old
    (AddsTree old text End))

-- this value of a metric
abbrev pub TriedMetric : State → List ℕ → Fraction → (Scene → Reply → State → Type 0) → Reply → State → Type 0
TriedMetric old name value End =
    Unless (IsSome (view_named old.scene.tree.views name)) (Taken name) old
    (Unless (NAME_LIMIT < length name) (Limit word.Name) old
    (Unless (AreTooMany old.scene.metrics name) (Limit word.Metrics) old
    (UnlessFar old (with_metric old.scene name value)
    (End (with_metric old.scene name value)))))

-- this size of the window
abbrev pub TriedWindow : State → Fraction → Fraction → (Scene → Reply → State → Type 0) → Reply → State
    → Type 0
TriedWindow old width height End =
    Unless ((has_size old.scene.held ≡ false) × IsCrowded old SIZE_ROWS) (Limit word.Rows) old
    (Unless (IsFarSize old.scene.held width height) (Limit word.Constant) old
    (End (with_window old.scene width height)))

-- ---- lines of groups

-- the scene with a line of the group that is so compiled is the draft
abbrev pub AddsLine : State → List ℕ → (CompiledLine → Type 0) → (Scene → Reply → State → Type 0) → Reply
    → State → Type 0
AddsLine old group Is End reply new =
    (line : CompiledLine) × Is line × End (with_line old.scene group line) reply new

-- a line of so many rows, which may stop the compiler so, and is so compiled
abbrev pub TriedLine : State → List ℕ → ℕ → (CompileStop → Type 0) → (CompiledLine → Type 0)
    → (Scene → Reply → State → Type 0) → Reply → State → Type 0
TriedLine old group count May Is End =
    UnlessAny (λ name. May (stop.Unknown name)) Unknown old
    (Unless (NAME_LIMIT < length group) (Limit word.Name) old
    (Unless (HasAllLines old) (Limit word.Lines) old
    (UnlessAny (λ wrong. May (stop.Kind wrong)) Kind old
    (Unless (IsCrowded old count) (Limit word.Rows) old
    (UnlessAny (λ limit. May (stop.Limit limit)) Limit old
    (AddsLine old group Is End))))))

-- a linear line, as it is meant in the scene's direction, which has one row
abbrev pub TriedConstraint : State → List ℕ → Linear → (Scene → Reply → State → Type 0) → Reply → State
    → Type 0
TriedConstraint old group line =
    TriedLine old group 1
    (MayStop old.scene.tree.views old.scene.metrics (line_in old.scene.direction line) old.scene.next_row)
    (IsCompiled old.scene.tree.views old.scene.metrics (line_in old.scene.direction line) old.scene.next_row)

-- a format in the scene's direction, with so many rows as it asks for
abbrev pub TriedFormat : State → List ℕ → Option Align → FormatMeaning → (Scene → Reply → State → Type 0)
    → Reply → State → Type 0
TriedFormat old group align format =
    TriedLine old group (row_count old.scene.tree.views (parts format align old.scene.direction))
    (MayStopFormat old.scene.tree.views old.scene.metrics format align old.scene.direction old.scene.next_row)
    (IsCompiledFormat old.scene.tree.views old.scene.metrics format align old.scene.direction
    old.scene.next_row)

-- ---- suggestions

-- if a part of the row's constant for this value isn't small, this limit; otherwise as F says of it
abbrev pub UnlessLarge : State → AttrWord → Fraction → (Fraction → Reply → State → Type 0) → Reply → State
    → Type 0
UnlessLarge old attr value F =
    Unless (IsSmallConstant (scale_of attr) (negated value) → ⊥) (Limit word.Constant) old
    (λ reply new. (c : Fraction) × IsConstant (scale_of attr) (negated value) c × F c reply new)

-- the first suggestion of an attribute takes a row; a later one, which has no priority, is another constant
-- of that row
abbrev pub Suggests : State → ℕ → AttrWord → Fraction → Option Meant → ℕ → Option Suggestion
    → (Scene → Reply → State → Type 0) → Reply → State → Type 0
Suggests old view attr value priority rank None End =
    Unless (IsCrowded old 1) (Limit word.Rows) old
    (UnlessLarge old attr value (λ c. End (with_suggestion old.scene (record {
      row = old.scene.next_row;
      rank = rank;
      view = view;
      word = attr;
      direction = old.scene.direction;
      constant = c;
    }))))
Suggests old view attr value priority rank (Some held) End =
    Unless (IsSome priority) (Kind kind.Suggested) old
    (UnlessLarge old attr value (λ c.
    Unless (FitsAfter held.constant c → ⊥) (Limit word.Constant) old
    (End (with_suggested old.scene view attr c))))

-- if the priority's name is unknown, that; otherwise as F says
abbrev pub UnlessUnknown : State → Option Meant → (Reply → State → Type 0) → Reply → State → Type 0
UnlessUnknown old priority F =
    UnlessAny (λ name. unknown_object old.scene.tree.views old.scene.metrics priority ≡ Some name) Unknown
    old F

-- the priority stands for no rank
abbrev pub IsRankless : Scene → Option Meant → Type 0
IsRankless scene priority = (rank : ℕ) → IsRank scene.tree.views scene.metrics priority rank → ⊥

-- if the priority stands for no rank, the refusal; otherwise as F says
abbrev pub UnlessRankless : State → Option Meant → (Reply → State → Type 0) → Reply → State → Type 0
UnlessRankless old priority F =
    UnlessUnknown old priority (Unless (IsRankless old.scene priority) (Kind kind.Priority) old F)

-- the view of this name, and the rank that the priority stands for
abbrev pub SuggestsFor : State → List ℕ → AttrWord → Fraction → Option Meant
    → (Scene → Reply → State → Type 0) → Reply → State → Type 0
SuggestsFor old name attr value priority End reply new =
    (view : LiveView) × (view_named old.scene.tree.views name ≡ Some view)
    × (rank : ℕ) × IsRank old.scene.tree.views old.scene.metrics (suggested_priority priority) rank
    × Suggests old view.id attr value priority rank (suggestion_of view.id attr old.scene.held) End reply new

-- a suggestion of this value for an attribute of the view, with this priority or none written
abbrev pub TriedSuggest : State → List ℕ → AttrWord → Fraction → Option Meant
    → (Scene → Reply → State → Type 0) → Reply → State → Type 0
TriedSuggest old name attr value priority End =
    Unless (view_named old.scene.tree.views name ≡ None) (Unknown name) old
    (UnlessRankless old (suggested_priority priority) (SuggestsFor old name attr value priority End))

-- ---- sizes of views

-- the priorities of a size
abbrev pub hugging : Option Meant → Option Meant
hugging priority = priority_or USUAL_HUG priority

abbrev pub resisting : Option Meant → Option Meant
resisting priority = priority_or USUAL_RESIST priority

-- the names in both are known
abbrev pub AreKnownPulls : Scene → Option Meant → Option Meant → Type 0
AreKnownPulls scene hug resist =
    (unknown_object scene.tree.views scene.metrics (hugging hug) ≡ None)
    × (unknown_object scene.tree.views scene.metrics (resisting resist) ≡ None)

-- if one of the two stands for no rank, the refusal: an unknown name first; otherwise as F says
abbrev pub UnlessPullsRankless : State → Option Meant → Option Meant → (Reply → State → Type 0) → Reply
    → State → Type 0
UnlessPullsRankless old hug resist F =
    UnlessUnknown old (hugging hug)
    (UnlessUnknown old (resisting resist)
    (Unless (IsRankless old.scene (hugging hug) ⊎ IsRankless old.scene (resisting resist))
    (Kind kind.Priority) old F))

-- the size of this view, whose first row has this number
abbrev pub intrinsic_at : ℕ → ℕ → Fraction → Fraction → ℕ → ℕ → IntrinsicSize
intrinsic_at first_row view width height hugs resists = record {
  first_row = first_row;
  view = view;
  width = width;
  height = height;
  resist = resists;
  hug = hugs;
}

-- the first size of a view takes four rows; a later one, which has no priority, is other constants of those
abbrev pub Sizes : State → ℕ → Fraction → Fraction → Option Meant → Option Meant → ℕ → ℕ
    → Option IntrinsicSize → (Scene → Reply → State → Type 0) → Reply → State → Type 0
Sizes old view width height hug resist hugs resists None End =
    Unless (IsCrowded old INTRINSIC_ROWS) (Limit word.Rows) old
    (End (with_intrinsic old.scene (intrinsic_at old.scene.next_row view width height hugs resists)))
Sizes old view width height hug resist hugs resists (Some held) End =
    Unless (IsSome hug ⊎ IsSome resist) (Kind kind.Sized) old
    (Unless (FitsAfter held.width width × FitsAfter held.height height → ⊥) (Limit word.Constant) old
    (End (with_preferred old.scene view width height)))

-- the view of this name, and the ranks that the priorities stand for
abbrev pub SizesFor : State → List ℕ → Fraction → Fraction → Option Meant → Option Meant
    → (Scene → Reply → State → Type 0) → Reply → State → Type 0
SizesFor old name width height hug resist End reply new =
    (view : LiveView) × (view_named old.scene.tree.views name ≡ Some view) × (hugs resists : ℕ)
    × IsRank old.scene.tree.views old.scene.metrics (hugging hug) hugs
    × IsRank old.scene.tree.views old.scene.metrics (resisting resist) resists
    × Sizes old view.id width height hug resist hugs resists (intrinsic_of view.id old.scene.held) End
    reply new

-- the size that a view would like, with these priorities or none written
abbrev pub TriedSize : State → List ℕ → Fraction → Fraction → Option Meant → Option Meant
    → (Scene → Reply → State → Type 0) → Reply → State → Type 0
TriedSize old name width height hug resist End =
    Unless (view_named old.scene.tree.views name ≡ None) (Unknown name) old
    (UnlessPullsRankless old hug resist (SizesFor old name width height hug resist End))

-- ---- what leaves

-- the view of this name, whose size leaves if one is held
abbrev pub UnsizesOf : State → List ℕ → (Scene → Reply → State → Type 0) → Reply → State → Type 0
UnsizesOf old name End reply new =
    (view : LiveView) × (view_named old.scene.tree.views name ≡ Some view)
    × Unless (intrinsic_of view.id old.scene.held ≡ None) (Unknown (intrinsic_name name)) old
    (End (without_intrinsic old.scene view.id)) reply new

-- a view without the size that it would like
abbrev pub TriedUnsize : State → List ℕ → (Scene → Reply → State → Type 0) → Reply → State → Type 0
TriedUnsize old name End =
    Unless (view_named old.scene.tree.views name ≡ None) (Unknown name) old (UnsizesOf old name End)

-- the view of this name, whose stays come first
abbrev pub KeepsOf : State → List ℕ → (Scene → Reply → State → Type 0) → Reply → State → Type 0
KeepsOf old name End reply new =
    (view : LiveView) × (view_named old.scene.tree.views name ≡ Some view)
    × End (with_kept old.scene view.id) reply new

-- a view that is kept before all others
abbrev pub TriedKeep : State → List ℕ → (Scene → Reply → State → Type 0) → Reply → State → Type 0
TriedKeep old name End =
    Unless (view_named old.scene.tree.views name ≡ None) (Unknown name) old (KeepsOf old name End)

-- the view of this name, whose suggestion of this attribute leaves if one is held
abbrev pub ReleasesOf : State → List ℕ → AttrWord → (Scene → Reply → State → Type 0) → Reply → State → Type 0
ReleasesOf old name attr End reply new =
    (view : LiveView) × (view_named old.scene.tree.views name ≡ Some view)
    × Unless (suggestion_of view.id attr old.scene.held ≡ None) (Unknown (suggestion_name name attr)) old
    (End (without_suggestion old.scene view.id attr)) reply new

-- the release of an attribute of a view from its suggestion
abbrev pub TriedRelease : State → List ℕ → AttrWord → (Scene → Reply → State → Type 0) → Reply → State
    → Type 0
TriedRelease old name attr End =
    Unless (view_named old.scene.tree.views name ≡ None) (Unknown name) old (ReleasesOf old name attr End)

-- the removal of a group's lines
abbrev pub TriedRemove : State → List ℕ → (Scene → Reply → State → Type 0) → Reply → State → Type 0
TriedRemove old group End =
    Unless (list_any (is_in_group group) old.scene.held ≡ false) (Unknown group) old
    (End (without_group old.scene group))

-- the view of this name is the window
abbrev pub IsOfWindow : Scene → List ℕ → Type 0
IsOfWindow scene name = option_map (λ v. v.id) (view_named scene.tree.views name) ≡ Some 0

-- the scene without the view and all that go with it is the draft
abbrev pub DropsView : State → List ℕ → (Scene → Reply → State → Type 0) → Reply → State → Type 0
DropsView old name End reply new =
    (root : LiveView) × (gone : List ℕ) × (view_named old.scene.tree.views name ≡ Some root)
    × AreGoing old.scene.tree.views root.id gone × End (without_views old.scene gone) reply new

-- the removal of a view with all views below it, if it isn't the window
abbrev pub TriedDrop : State → List ℕ → (Scene → Reply → State → Type 0) → Reply → State → Type 0
TriedDrop old name End =
    Unless (view_named old.scene.tree.views name ≡ None) (Unknown name) old
    (Unless (IsOfWindow old.scene name) (Kind kind.Window) old
    (DropsView old name End))

-- ---- changes

-- each change, by its meaning: views that come
abbrev pub TriedViews : State → Coming → (Scene → Reply → State → Type 0) → Reply → State → Type 0
TriedViews old (mean.View name parent) = TriedView old name (parent_name parent)
TriedViews old (mean.Tree text start) = TriedTree old text start

-- what is new or gets another value
abbrev pub TriedUpdate : State → Updating → (Scene → Reply → State → Type 0) → Reply → State → Type 0
TriedUpdate old (mean.Metric name value) = TriedMetric old name value
TriedUpdate old (mean.Window width height) = TriedWindow old width height
TriedUpdate old (mean.Constrain group line) = TriedConstraint old group line
TriedUpdate old (mean.Vfl group align format) = TriedFormat old group align format
TriedUpdate old (mean.Suggest name attr value priority) = TriedSuggest old name attr value priority
TriedUpdate old (mean.Size name width height hug resist) = TriedSize old name width height hug resist

-- what leaves
abbrev pub TriedLeave : State → Leaving → (Scene → Reply → State → Type 0) → Reply → State → Type 0
TriedLeave old (mean.Drop name) = TriedDrop old name
TriedLeave old (mean.Remove group) = TriedRemove old group
TriedLeave old (mean.Release name attr) = TriedRelease old name attr
TriedLeave old (mean.Unsize name) = TriedUnsize old name

-- and each of them
abbrev pub Tried : State → Change → (Scene → Reply → State → Type 0) → Reply → State → Type 0
Tried old (mean.Views new) = TriedViews old new
Tried old (mean.Update new) = TriedUpdate old new
Tried old (mean.Leave gone) = TriedLeave old gone
Tried old (mean.Turn to) = λ End. End (with_direction old.scene to)
Tried old (mean.Keep name) = TriedKeep old name

-- the kind of its draft: views that come change no row that is held, and neither does a view that is kept, so
-- they are in no conflict; nor is a scene from which rows leave; another direction changes no row
abbrev pub kind_for : Change → step.Kind
kind_for (mean.Views new) = step.Free
kind_for (mean.Update new) = step.Any
kind_for (mean.Leave gone) = step.Left
kind_for (mean.Turn to) = step.Turned
kind_for (mean.Keep name) = step.Free

-- what comes of a draft of this kind
abbrev pub EndsAs : State → step.Kind → Scene → Reply → State → Type 0
EndsAs old step.Free = SolvesFree old
EndsAs old step.Any = Solves old
EndsAs old step.Left = LeavesFree old
EndsAs old step.Turned = Stands old

-- what a change leads to
abbrev pub ChangeStep : State → Change → Reply → State → Type 0
ChangeStep old c = Tried old c (EndsAs old (kind_for c))

-- ---- other commands

-- so many exchanges are no valid budget
abbrev pub IsNoBudget : ℕ → Type 0
IsNoBudget exchanges = (exchanges ≡ 0) ⊎ (BUDGET_LIMIT < exchanges)

-- each other command, by its meaning: the causes against it, and `Answer` if there is none
abbrev pub TriedPlain : State → Plain → (Reply → State → Type 0) → Reply → State → Type 0
TriedPlain old mean.Undo Answer = Unless (old.earlier ≡ []) NoEarlier old Answer
TriedPlain old (mean.Budget exchanges) Answer = Unless (IsNoBudget exchanges) (Limit word.Budget) old Answer
TriedPlain old (mean.Sweep from to) Answer = TriedSweep old from to Answer
TriedPlain old mean.Frames Answer = Answer
TriedPlain old mean.Rows Answer = Answer
TriedPlain old mean.Diagnose Answer = Answer
TriedPlain old mean.Certify Answer = Answer

-- the latest earlier scene becomes the scene, and leaves the list
pub record TakesBack (old : State) (reply : Reply) (new : State) : Type 0 where
  pub done : reply ≡ Done
  pub scene : Scene
  pub earlier : List Scene
  pub latest : old.earlier ≡ scene ∷ earlier
  pub back : new ≡ record old { scene = scene; earlier = earlier }

-- so many exchanges may be made from now on
abbrev pub SetsBudget : State → ℕ → Reply → State → Type 0
SetsBudget old exchanges reply new = (reply ≡ Done) × (new ≡ record old { budget = exchanges })

-- the reply is a certificate of the scene's values
abbrev pub Certifies : State → Reply → State → Type 0
Certifies old reply new =
    (levels : List BestLevel) × IsCertificateOf old.scene levels × Keeps (Certificate levels) old reply new

-- the answer to each of them
abbrev pub Answers : State → Plain → Reply → State → Type 0
Answers old mean.Undo = TakesBack old
Answers old (mean.Budget exchanges) = SetsBudget old exchanges
Answers old mean.Frames = Keeps Frames old
Answers old mean.Rows = Keeps Rows old
Answers old mean.Diagnose = Diagnoses old
Answers old mean.Certify = Certifies old
Answers old (mean.Sweep from to) = Sweeps old from to

-- what another command leads to
abbrev pub PlainStep : State → Plain → Reply → State → Type 0
PlainStep old c = TriedPlain old c (Answers old c)

-- what a command leads to
abbrev pub CommandStep : State → Command → Reply → State → Type 0
CommandStep old (mean.Changes c) = ChangeStep old c
CommandStep old (mean.Other c) = PlainStep old c

-- ---- what a command would solve

-- the problem is that of the draft
abbrev pub PosesDraft : Problem → Scene → Reply → State → Type 0
PosesDraft p draft reply new = IsProblemOf draft p

-- no cause is against the change, and this is the problem of its draft (a cause would make the reply a refusal,
-- and `Done` is none)
abbrev pub PosesChange : State → Change → Problem → Type 0
PosesChange old c p = Tried old c (PosesDraft p) Done old

-- the problem that the scene has: for a sweep that of the rows as they are, with the stays at the present
-- values
abbrev pub present_problem : Scene → Plain → Problem
present_problem scene (mean.Sweep from to) = problem_here scene
present_problem scene c = problem_of scene

-- the same of a command: the problem of one that has no draft is the scene's
abbrev pub Poses : State → Command → Problem → Type 0
Poses old (mean.Changes c) p = PosesChange old c p
Poses old (mean.Other c) p = TriedPlain old c (λ reply new. p ≡ present_problem old.scene c) Done old
