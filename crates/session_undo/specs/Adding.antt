-- Parts of the steps.
use Rattle.std.specs.Prelude.{◌≡◌, ◌≢◌, ◌⊎◌, ℕ, ◌*◌, ◌<◌, ◌≤◌, List, [], length, Some, All}
use Rattle.std.specs.Prelude.{IsSome, None, Option}
use Rattle.span_text.specs.Objects.{Meant}
use Rattle.script_text.specs.Meaning.{Command}
use Rattle.script_text.specs.Meaning as mean
use Rattle.script_text.specs.declared.words.AttrWord.{AttrWord}
use Rattle.name_tables.specs.declared.stops.LimitWord.{LimitWord}
use Rattle.view_tree.specs.Views.{ViewTree, LiveView, view_named}
use Rattle.view_tree.specs.Drops.{AreGoing}
use Rattle.view_tree.specs.JsonTrees.{JsonTree, IsTreeText, names, size, with_branch}
use Rattle.scenes.specs.Scene.{Scene, metrics_with}
use Rattle.view_tree.specs.JsonStops.{AreFree, GoesIn, IsWithin}
use Rattle.view_tree.specs.Stops.{IsNewView, MayStop}
use Rattle.view_tree.specs.declared.stops.ViewStop.TheVariants as view_stop
use Rattle.held_items.specs.declared.item.coming.NewViews.{NewViews}
use Rattle.scenes.specs.Drafts.{AreComing}
use Rattle.frac_core.specs.Fraction.{Fraction}
use Rattle.problem_core.specs.Kept.{IsRow}
use Rattle.problem_core.specs.Layout.{Row}
use Rattle.compile_parts.specs.Meaning.{MetricList, IsRank, unknown_object}
use Rattle.constraint_compile.specs.Compiled.{CompiledLine, AreRowsNow}
use Rattle.compile_parts.specs.Fractions.{negated, IsConstant, IsSmallConstant}
use Rattle.constraint_compile.specs.Suggestions.{scale_of, suggested_priority}
use Rattle.constraint_compile.specs.declared.suggestion.Suggestion.{Suggestion}
use Rattle.name_tables.specs.declared.stops.TheConstants.{NAME_LIMIT}
use Rattle.held_items.specs.declared.item.intrinsic.IntrinsicSize.{IntrinsicSize}
use Rattle.session_undo.specs.declared.wishes.NewIntrinsic.{NewIntrinsic}
use Rattle.session_undo.specs.declared.wishes.NewIntrinsic.TheVariants as wished
use Rattle.session_undo.specs.declared.wishes.NewSuggestion.{NewSuggestion}
use Rattle.session_undo.specs.declared.changes.Ranks.{Ranks}
use Rattle.compile_parts.specs.declared.stops.CompileStop.{CompileStop}
use Rattle.layout_solver.specs.declared.engine.Change.{Change}
use Rattle.std.specs.declared.result.Result.{Result}
use Rattle.std.specs.declared.result.Result.TheVariants.{Ok, Err}
use Rattle.session_undo.specs.declared.reply.StopPlace.{StopPlace}
use Rattle.layout_solver.specs.declared.request.RequestStop.{RequestStop}
use Rattle.session_undo.specs.declared.reply.Refusal.{Refusal}
use Rattle.held_items.specs.declared.row_numbers.TheConstants.{INTRINSIC_ROWS, VIEW_ROWS}
use Rattle.held_items.specs.Attributes.{IsNextLine}
use Rattle.held_items.specs.Items.{OfLine, intrinsic_of, suggestion_of}
use Rattle.held_items.specs.Kept.{item_of}
use Rattle.held_items.specs.declared.item.new_item.NewItem.{NewItem}
use Rattle.scenes.specs.Moving.{AreChangesFor}
use Rattle.session_undo.specs.Replies.{Reply, Unknown, Taken, Limit, Kind, place_of}
use Rattle.session_undo.specs.State.{State}
use Rattle.session_undo.specs.Machine.{still_place, Unless, Keeps, IsCrowded, HasAllLines, IsTaken, IsDeep}
use Rattle.session_undo.specs.Machine.{AreKnownPulls, AreTooMany, HasAllViews, Sizes, Suggests, Tried}
use Rattle.session_undo.specs.Machine.{TriedPlain}
use Rattle.session_undo.specs.Machine.{UnlessPullsRankless, UnlessRankless, hugging, intrinsic_at, resisting}
use Rattle.held_items.specs.Moving.{FitsAfter}
use Rattle.name_tables.specs.declared.stops.LimitWord.TheVariants as word
use Rattle.view_tree.specs.Views as tree
use Rattle.session_undo.specs.declared.wishes.NewSuggestion.TheVariants as new
use Rattle.compile_parts.specs.declared.stops.CompileStop.TheVariants as stop
use Rattle.session_undo.specs.declared.reply.Reply as answer
use Rattle.session_undo.specs.declared.reply.Reply.TheVariants as good
use Rattle.session_undo.specs.declared.reply.StopPlace.TheVariants as place
use Rattle.layout_solver.specs.declared.request.RequestStop.TheVariants as request
use Rattle.session_undo.specs.declared.reply.Refusal.TheVariants as refusal

-- ---- stops

-- the refusal tells what stops a step of the scene
abbrev pub TellsStop : RequestStop → Refusal → Type 0
TellsStop (request.Conflict by) told = told ≡ refusal.Conflict by
TellsStop (request.Unfit still at) told =
    (where_ : StopPlace) × (place_of where_ ≡ still_place still.items) × (told ≡ refusal.Overflow where_ at)
TellsStop (request.Spent path) told = told ≡ refusal.Spent place.Step path
TellsStop request.OutOfMemory told = told ≡ refusal.OutOfMemory

-- the answer to what a step of the scene comes to
abbrev pub IsAnswerOf : Result (Unit {0}) RequestStop → Result answer.Reply Refusal → Type 0
IsAnswerOf (Ok done) told = told ≡ Ok good.Done
IsAnswerOf (Err stop) told = (refused : Refusal) × (told ≡ Err refused) × TellsStop stop refused

-- ---- causes

-- no draft comes to its end
abbrev pub NoEnd : Scene → Reply → State → Type 0
NoEnd draft reply new = ⊥

-- no answer is given
abbrev pub NoAnswer : Reply → State → Type 0
NoAnswer reply new = ⊥

-- a cause is against the command
abbrev pub IsRefused : State → Command → Reply → State → Type 0
IsRefused old (mean.Changes c) = Tried old c NoEnd
IsRefused old (mean.Other c) = TriedPlain old c NoAnswer

-- ---- no cause is there

-- if no view may have this name, whatever its parent, the refusal; otherwise as F says
abbrev pub UnlessUnfree : State → List ℕ → (Reply → State → Type 0) → Reply → State → Type 0
UnlessUnfree old name F =
    Unless (IsTaken old.scene name) (Taken name) old
    (Unless (NAME_LIMIT < length name) (Limit word.Name) old
    (Unless (HasAllViews old) (Limit word.Views) old F))

-- neither a view nor a metric has the name, it is short, and a view more is not too many
pub record IsFreeName (old : State) (name : List ℕ) : Type 0 where
  pub free : IsTaken old.scene name → ⊥
  pub short : length name ≤ NAME_LIMIT
  pub few : length old.scene.tree.views < old.limits.views

-- the new views are one of this name, below the view of that number
pub record IsViewMore (scene : Scene) (name : List ℕ) (above : ℕ) (new : NewViews) : Type 0 where
  pub fresh : IsNewView scene.tree name above
  pub tree_is : new.tree ≡ tree.with_view scene.tree name above
  pub id_is : new.first_view.0 ≡ scene.tree.next
  pub one : new.count ≡ 1
  pub coming : AreComing scene new

-- a view of this name, below the view of that number, would pass this limit of the tree
abbrev pub ViewStep : State → List ℕ → ℕ → Reply → State → Type 0
ViewStep old name above reply new =
    (limit : LimitWord) × MayStop old.scene.tree name above (view_stop.Limit limit)
    × Keeps (Limit limit) old reply new

-- the view may be made, and this is the tree with it
pub record IsFreeView (old : State) (name parent : List ℕ) (new : ViewTree) (id : ℕ) : Type 0 where
  pub above : LiveView
  pub found : view_named old.scene.tree.views parent ≡ Some above
  pub free : IsTaken old.scene name → ⊥
  pub short : length name ≤ NAME_LIMIT
  pub room : HasAllViews old → ⊥
  pub high : IsDeep old.scene.tree parent → ⊥
  pub rows : IsCrowded old VIEW_ROWS → ⊥
  pub tree_is : new ≡ tree.with_view old.scene.tree name above.id
  pub id_is : id ≡ old.scene.tree.next

-- the tree of this text may be added, and this is the tree with so many views more, the first of this number
pub record IsFreeTree (old : State) (text : List ℕ) (new : ViewTree) (id count : ℕ) : Type 0 where
  pub tree : JsonTree
  pub parent : ℕ
  pub read : IsTreeText text tree
  pub goes : GoesIn old.scene.tree tree parent
  pub free : AreFree old.scene.tree old.scene.metrics [] (names tree.branch)
  pub within : IsWithin old.scene.tree parent tree.branch
  pub rows : IsCrowded old (VIEW_ROWS * size tree.branch) → ⊥
  pub tree_is : new ≡ with_branch old.scene.tree parent tree.branch
  pub id_is : id ≡ old.scene.tree.next
  pub count_is : count ≡ size tree.branch

-- the metric may be made or changed, and these are the metrics with it, and the changes for them
pub record IsFreeMetric (old : State) (name : List ℕ) (value : Fraction) (new : MetricList)
    (to : List Change) : Type 0 where
  pub free : IsSome (view_named old.scene.tree.views name) → ⊥
  pub short : length name ≤ NAME_LIMIT
  pub room : AreTooMany old.scene.metrics name → ⊥
  pub new_is : new ≡ metrics_with old.scene.metrics name value
  pub changes : AreChangesFor old.scene new to

-- the view of this name is not the window, and these go with it
pub record IsGoing (scene : Scene) (name gone : List ℕ) : Type 0 where
  pub root : LiveView
  pub found : view_named scene.tree.views name ≡ Some root
  pub below : root.id ≢ 0
  pub are : AreGoing scene.tree.views root.id gone

-- ---- suggestions

-- the view of this name is there, the priority's name is known, and this is its rank
pub record IsRanked (old : State) (name : List ℕ) (priority : Option Meant) (view : LiveView)
    (rank : ℕ) : Type 0 where
  pub found : view_named old.scene.tree.views name ≡ Some view
  pub known : unknown_object old.scene.tree.views old.scene.metrics (suggested_priority priority) ≡ None
  pub is : IsRank old.scene.tree.views old.scene.metrics (suggested_priority priority) rank

-- the suggestion is for this attribute of this view, and its row's constant is that for this value
pub record IsSuggestionOf (view : ℕ) (attr : AttrWord) (value : Fraction) (s : Suggestion) : Type 0 where
  pub view_is : s.view ≡ view
  pub word : s.word ≡ attr
  pub constant : IsConstant (scale_of attr) (negated value) s.constant
  pub small : IsSmallConstant (scale_of attr) (negated value)

-- the first suggestion of an attribute may be held
pub record IsFirstSuggestion (old : State) (name : List ℕ) (attr : AttrWord) (value : Fraction)
    (priority : Option Meant) (s : Suggestion) : Type 0 where
  pub view : LiveView
  pub ranked : IsRanked old name priority view s.rank
  pub none : suggestion_of view.id attr old.scene.held ≡ None
  pub room : IsCrowded old 1 → ⊥
  pub is : IsSuggestionOf view.id attr value s
  pub direction : s.direction ≡ old.scene.direction
  pub row : s.row ≡ old.scene.next_row

-- one that is held may have another constant
pub record IsLaterSuggestion (old : State) (name : List ℕ) (attr : AttrWord) (value : Fraction)
    (priority : Option Meant) (s : Suggestion) : Type 0 where
  pub view : LiveView
  pub rank : ℕ
  pub ranked : IsRanked old name priority view rank
  pub before : Suggestion
  pub some : suggestion_of view.id attr old.scene.held ≡ Some before
  pub plain : IsSome priority → ⊥
  pub is : IsSuggestionOf view.id attr value s
  pub row : s.row ≡ before.row
  pub near : FitsAfter before.constant s.constant

-- either of them
abbrev pub IsFreeSuggestion : State → List ℕ → AttrWord → Fraction → Option Meant → NewSuggestion → Type 0
IsFreeSuggestion old name attr value priority (new.First s) = IsFirstSuggestion old name attr value priority s
IsFreeSuggestion old name attr value priority (new.Again s) = IsLaterSuggestion old name attr value priority s

-- either of them, whatever the name of the view of this number
abbrev pub IsSuggestionFor : State → ℕ → AttrWord → Fraction → Option Meant → NewSuggestion → Type 0
IsSuggestionFor old view attr value priority suggestion =
    (name : List ℕ) (v : LiveView) → view_named old.scene.tree.views name ≡ Some v → v.id ≡ view
    → IsFreeSuggestion old name attr value priority suggestion

-- why neither may be held
abbrev pub SuggestStep : State → ℕ → AttrWord → Fraction → Option Meant → Reply → State → Type 0
SuggestStep old view attr value priority =
    UnlessRankless old (suggested_priority priority) (λ reply new.
    (rank : ℕ) × IsRank old.scene.tree.views old.scene.metrics (suggested_priority priority) rank
    × Suggests old view attr value priority rank (suggestion_of view attr old.scene.held) NoEnd reply new)

-- the view of this name, if this suggestion of it is held
pub record IsHeldSuggestion (scene : Scene) (name : List ℕ) (attr : AttrWord) (id : ℕ) : Type 0 where
  pub view : LiveView
  pub found : view_named scene.tree.views name ≡ Some view
  pub same : id ≡ view.id
  pub held : suggestion_of view.id attr scene.held ≡ None → ⊥

-- ---- sizes of views

-- these are the ranks that the priorities stand for
abbrev pub AreRanks : Scene → Option Meant → Option Meant → Ranks → Type 0
AreRanks scene hug resist ranks = IsRank scene.tree.views scene.metrics (hugging hug) ranks.hug
    × IsRank scene.tree.views scene.metrics (resisting resist) ranks.resist

-- the view of this name is there, the priorities' names are known, and these are their ranks
pub record IsPulled (old : State) (name : List ℕ) (hug resist : Option Meant) (view : LiveView)
    (ranks : Ranks) : Type 0 where
  pub found : view_named old.scene.tree.views name ≡ Some view
  pub known : AreKnownPulls old.scene hug resist
  pub are : AreRanks old.scene hug resist ranks

-- the first size of a view may be held
pub record IsFirstIntrinsic (old : State) (name : List ℕ) (width height : Fraction)
    (hug resist : Option Meant) (s : IntrinsicSize) : Type 0 where
  pub view : LiveView
  pub ranks : Ranks
  pub pulled : IsPulled old name hug resist view ranks
  pub none : intrinsic_of view.id old.scene.held ≡ None
  pub room : IsCrowded old INTRINSIC_ROWS → ⊥
  pub is : s ≡ intrinsic_at old.scene.next_row view.id width height ranks.hug ranks.resist

-- one that is held may have another width and height
pub record IsLaterIntrinsic (old : State) (name : List ℕ) (width height : Fraction)
    (hug resist : Option Meant) (s : IntrinsicSize) : Type 0 where
  pub view : LiveView
  pub ranks : Ranks
  pub pulled : IsPulled old name hug resist view ranks
  pub before : IntrinsicSize
  pub some : intrinsic_of view.id old.scene.held ≡ Some before
  pub plain : IsSome hug ⊎ IsSome resist → ⊥
  pub is : s ≡ record before { width = width; height = height }
  pub near : FitsAfter before.width width × FitsAfter before.height height

-- either of them
abbrev pub IsFreeIntrinsic : State → List ℕ → Fraction → Fraction → Option Meant → Option Meant → NewIntrinsic
    → Type 0
IsFreeIntrinsic old name width height hug resist (wished.First s) =
    IsFirstIntrinsic old name width height hug resist s
IsFreeIntrinsic old name width height hug resist (wished.Again s) =
    IsLaterIntrinsic old name width height hug resist s

-- either of them, whatever the name of the view of this number
abbrev pub IsIntrinsicFor : State → ℕ → Fraction → Fraction → Option Meant → Option Meant → NewIntrinsic
    → Type 0
IsIntrinsicFor old view width height hug resist size =
    (name : List ℕ) (v : LiveView) → view_named old.scene.tree.views name ≡ Some v → v.id ≡ view
    → IsFreeIntrinsic old name width height hug resist size

-- why neither may be held
abbrev pub SizeStep : State → ℕ → Fraction → Fraction → Option Meant → Option Meant → Reply → State → Type 0
SizeStep old view width height hug resist =
    UnlessPullsRankless old hug resist (λ reply new.
    (ranks : Ranks) × AreRanks old.scene hug resist ranks
    × Sizes old view width height hug resist ranks.hug ranks.resist (intrinsic_of view old.scene.held) NoEnd
    reply new)

-- the view of this name, if a size of it is held
pub record IsHeldIntrinsic (scene : Scene) (name : List ℕ) (id : ℕ) : Type 0 where
  pub view : LiveView
  pub found : view_named scene.tree.views name ≡ Some view
  pub same : id ≡ view.id
  pub held : intrinsic_of view.id scene.held ≡ None → ⊥

-- ---- lines of groups

-- the limits of groups that a further line may pass
abbrev pub UnlessFull : State → List ℕ → (Reply → State → Type 0) → Reply → State → Type 0
UnlessFull old group F =
    Unless (NAME_LIMIT < length group) (Limit word.Name) old
    (Unless (HasAllLines old) (Limit word.Lines) old F)

-- the first of these limits that it passes
abbrev pub IsGroupLimit : State → List ℕ → LimitWord → Type 0
IsGroupLimit old group limit = UnlessFull old group (λ reply new. ⊥) (Limit limit) old

-- it passes none of these limits
abbrev pub IsGroupFree : State → List ℕ → Type 0
IsGroupFree old group = (NAME_LIMIT < length group → ⊥) × (HasAllLines old → ⊥)

-- the first that it passes of these and the limit of rows
abbrev pub IsLineLimit : State → List ℕ → ℕ → LimitWord → Type 0
IsLineLimit old group count limit =
    UnlessFull old group (Unless (IsCrowded old count) (Limit word.Rows) old (λ reply new. ⊥))
    (Limit limit) old

-- it passes none of these, nor the limit of rows
abbrev pub IsLineFree : State → List ℕ → ℕ → Type 0
IsLineFree old group count = IsGroupFree old group × (IsCrowded old count → ⊥)

-- the line of this group has these rows, for which there is room
pub record IsFreeLine (old : State) (group : List ℕ) (line : CompiledLine) (rows : List Row) : Type 0 where
  pub are_rows : AreRowsNow old.scene.metrics line.rows rows
  pub each : All IsRow rows
  pub next : IsNextLine old.scene.tree.views old.scene.next_row line
  pub free : IsLineFree old group (length line.rows)

-- the item is that line, with its rows
pub record IsNewLine (old : State) (group : List ℕ) (line : CompiledLine) (new : NewItem) : Type 0 where
  pub item : item_of new.item ≡ OfLine group line
  pub free : IsFreeLine old group line new.rows.items

-- a line of so many rows that stops the compiler
abbrev pub StopStep : State → List ℕ → ℕ → CompileStop → Reply → State → Type 0
StopStep old group count (stop.Unknown name) = Keeps (Unknown name) old
StopStep old group count (stop.Kind wrong) = UnlessFull old group (Keeps (Kind wrong) old)
StopStep old group count (stop.Limit limit) =
    UnlessFull old group (Unless (IsCrowded old count) (Limit word.Rows) old (Keeps (Limit limit) old))
StopStep old group count stop.OutOfMemory = λ reply new. ⊥

-- a line whose rows have no room
abbrev pub AddStop : State → List ℕ → CompiledLine → Reply → State → Type 0
AddStop old group line =
    UnlessFull old group (Unless (IsCrowded old (length line.rows)) (Limit word.Rows) old (λ reply new. ⊥))
