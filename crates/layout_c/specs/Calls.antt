-- What the calls of a session come to.
use Rattle.std.specs.Prelude.{◌≡◌, ◌⊎◌, ◌≤◌, ◌<◌, ℕ, ℤ, pos, ◌<ℤ◌, ◌≤ℤ◌, length, take, slice_get}
use Rattle.std.specs.Prelude.{Bool, true, false, ⊤}
use Rattle.std.specs.Prelude.{List, [], ◌∷◌, Option, Some, None}
use Rattle.std.specs.declared.result.Result.{Result}
use Rattle.std.specs.declared.result.Result.TheVariants.{Ok, Err}
use Rattle.std.specs.Option.{option_map}
use Rattle.std.specs.Str.{IsUtf8}
use Rattle.std.specs.List.Sorted.{IsStrictlyIncreasing}
use Rattle.edge_io.specs.declared.feed.TheConstants.{LINE_LIMIT}
use Rattle.frac_core.specs.Fraction.{Fraction, IsKept, IsRatio, IsUnfitRatio}
use Rattle.script_text.specs.Meaning as mean
use Rattle.script_text.specs.declared.words.AttrWord.{AttrWord}
use Rattle.script_text.specs.declared.words.AttrWord.TheVariants as word
use Rattle.scenes.specs.Scene.{Scene}
use Rattle.scenes.specs.Frames.{IsFrameOf, frame_of}
use Rattle.view_tree.specs.Views.{LiveView, view_named, view_of}
use Rattle.corner_view.specs.Moves.{AreMovedSince}
use Rattle.session_undo.specs.Machine.{ChangeStep}
use Rattle.session_undo.specs.Replies.{Reply, is_accepted}
use Rattle.session_undo.specs.State.{State, IsFirst}
use Rattle.session_undo.specs.declared.reply.Reply.{Reply as Answer}
use Rattle.session_undo.specs.declared.reply.Refusal.{Refusal}
use Rattle.session_undo.specs.declared.reply.Refusal.TheVariants.{OutOfMemory}
use Rattle.layout_cli.specs.Machine.{Talking, Talks}
use Rattle.layout_c.specs.declared.calls.Ratio.{Ratio}
use Rattle.layout_c.specs.declared.calls.Frame.{Frame}
use Rattle.layout_c.specs.declared.frames.Placed.{Placed}
use Rattle.layout_c.specs.declared.status.TheConstants.{DONE, REFUSED, NONE, OUT_OF_MEMORY}
use Rattle.layout_c.specs.declared.status.TheConstants.{TOO_LONG, WRITE_FAULT}
use Rattle.layout_c.specs.Status.{status_names}

-- ---- a command

-- the number for what a command came to
abbrev pub outcome : Result Answer Refusal → ℕ
outcome (Ok reply) = DONE
outcome (Err OutOfMemory) = OUT_OF_MEMORY
outcome (Err refusal) = REFUSED

-- By this number a step was made that the machine allows: accepted, and a line that says the version comes
-- too late from then on; or refused, with nothing done. Or memory was wanting, with nothing done.
abbrev pub Steps : (Reply → State → Type 0) → (old new : Talking) → ℕ → Type 0
Steps Allows old new answer =
    ((reply : Reply) × Allows reply new.state × (is_accepted reply ≡ true) × (new.begun ≡ true)
    × (answer ≡ DONE))
    ⊎ ((reply : Reply) × Allows reply old.state × (is_accepted reply ≡ false) × (answer ≡ REFUSED)
    × (new ≡ old))
    ⊎ ((answer ≡ OUT_OF_MEMORY) × (new ≡ old))

-- ---- numbers

-- the fraction that these two numbers are, the second of which is above 0
abbrev pub IsGiven : Ratio → Fraction → Type 0
IsGiven r f = IsKept f × IsRatio f r.num r.den × (pos 0 <ℤ r.den)

-- no fraction that fits is the one over the other
abbrev pub IsNoFraction : ℤ → ℤ → Type 0
IsNoFraction num den = (den ≤ℤ pos 0) ⊎ IsUnfitRatio num den

-- the two numbers are the fraction's parts, which are in lowest terms and fit
abbrev pub IsRatioOf : Ratio → Fraction → Type 0
IsRatioOf r f = (r.num ≡ f.num) × (r.den ≡ pos f.den) × IsKept f

-- the same of a frame's four
abbrev pub AreRatios : Frame → List Fraction → Type 0
AreRatios frame (left ∷ top ∷ width ∷ height ∷ []) = IsRatioOf frame.left left × IsRatioOf frame.top top
    × IsRatioOf frame.width width × IsRatioOf frame.height height
AreRatios frame fractions = ⊥

-- ---- the calls

-- the window gets this size as by a line; or one of the numbers is no fraction, and nothing is done
abbrev pub Resizes : Talking → Talking → Ratio → Ratio → ℕ → Type 0
Resizes old new width height answer =
    ((w h : Fraction) × IsGiven width w × IsGiven height h
    × Steps (ChangeStep old.state (mean.Update (mean.Window w h))) old new answer)
    ⊎ ((IsNoFraction width.num width.den ⊎ IsNoFraction height.num height.den)
    × (answer ≡ NONE) × (new ≡ old))

-- what is done with the session that a handle holds; without one nothing is done
abbrev pub OnHeld : Option Talking → Option Talking → ℕ → (Talking → Talking → Type 0) → Type 0
OnHeld old new answer F = ((old ≡ None) × (answer ≡ NONE) × (new ≡ None))
    ⊎ ((before now : Talking) × (old ≡ Some before) × (new ≡ Some now) × F before now)

-- the attributes, by number
abbrev pub attributes : List AttrWord
attributes = word.Left ∷ word.Top ∷ word.Width ∷ word.Height ∷ word.Right ∷ word.Bottom ∷ word.CenterX
    ∷ word.CenterY ∷ word.Leading ∷ word.Trailing ∷ []

-- the attribute of a number
abbrev pub attribute : ℕ → Option AttrWord
attribute n = slice_get attributes n

-- these bytes are no text
abbrev pub IsNoText : List ℕ → Type 0
IsNoText bytes = IsUtf8 bytes → ⊥

-- an attribute of this number of the view of this name is wished to have a value, as by a line; or there is
-- no such text, attribute or fraction, and nothing is done
abbrev pub Suggests : Talking → Talking → List ℕ → ℕ → Ratio → ℕ → Type 0
Suggests old new name attr value answer =
    ((w : AttrWord) × (v : Fraction) × (attribute attr ≡ Some w) × IsGiven value v
    × Steps (ChangeStep old.state (mean.Update (mean.Suggest name w v None))) old new answer)
    ⊎ ((IsNoText name ⊎ (attribute attr ≡ None) ⊎ IsNoFraction value.num value.den)
    × (answer ≡ NONE) × (new ≡ old))

-- the wish goes, as by a line; or there is no such text or attribute, and nothing is done
abbrev pub Releases : Talking → Talking → List ℕ → ℕ → ℕ → Type 0
Releases old new name attr answer =
    ((w : AttrWord) × (attribute attr ≡ Some w)
    × Steps (ChangeStep old.state (mean.Leave (mean.Release name w))) old new answer)
    ⊎ ((IsNoText name ⊎ (attribute attr ≡ None)) × (answer ≡ NONE) × (new ≡ old))

-- the number of the view of a name
abbrev pub number_of : Scene → List ℕ → Option ℕ
number_of scene name = option_map (λ v. v.id) (view_named scene.tree.views name)

-- a new session, to which no line came
abbrev pub IsNewSession : Talking → Type 0
IsNewSession t = IsFirst t.state × (t.begun ≡ false)

-- the number of an answer that is accepted, or not
abbrev pub answer_of : Bool → ℕ
answer_of true = DONE
answer_of false = REFUSED

-- A line is answered as in a run. The reply stands in the room that was given, or isn't written where that is
-- too small: then its length tells how much is asked for. Or the line is too long, or memory was wanting, and
-- nothing is done.
abbrev pub IsAnswered : Talking → List ℕ → (room out : List ℕ) → ℕ → Talking → ℕ → Type 0
IsAnswered old line room out used new answer =
    ((text : List ℕ) × (good : Bool) × Talks old line text good new × (used ≡ length text)
    × (((length text ≤ length room) × (take used out ≡ text) × (answer ≡ answer_of good))
    ⊎ ((length room < length text) × (out ≡ room) × (answer ≡ WRITE_FAULT))))
    ⊎ ((LINE_LIMIT < length line) × (answer ≡ TOO_LONG) × (new ≡ old) × (used ≡ 0))
    ⊎ ((answer ≡ OUT_OF_MEMORY) × (new ≡ old) × (used ≡ 0))

-- by this number a view of the name was found; or there is none, or the bytes are no text
abbrev pub IsFound : Scene → List ℕ → ℕ → ℕ → Type 0
IsFound scene name id answer = ((answer ≡ DONE) × (number_of scene name ≡ Some id))
    ⊎ ((answer ≡ NONE) × (IsNoText name ⊎ (number_of scene name ≡ None)))

-- The numbers of the views whose frames aren't those of the scene that `undo` would give back stand, rising,
-- in the room that was given, or aren't written where that is too small: then their count tells how much is
-- asked for. Or no earlier scene is kept, or memory was wanting.
abbrev pub AreListed : State → (room out : List ℕ) → ℕ → ℕ → Type 0
AreListed s room out count answer =
    ((views : List ℕ) × AreMovedSince IsFrameOf s.earlier s.scene views × IsStrictlyIncreasing views
    × (count ≡ length views)
    × (((length views ≤ length room) × (take count out ≡ views) × (answer ≡ DONE))
    ⊎ ((length room < length views) × (out ≡ room) × (answer ≡ WRITE_FAULT))))
    ⊎ ((s.earlier ≡ []) × (answer ≡ NONE) × (count ≡ 0))
    ⊎ ((answer ≡ OUT_OF_MEMORY) × (count ≡ 0))

-- by this number the frame is that of the view of a number; or there is no such view
abbrev pub IsFramed : Scene → ℕ → Frame → ℕ → Type 0
IsFramed scene id frame answer =
    ((answer ≡ DONE)
    × ((fractions : List Fraction) × IsFrameOf scene id fractions × AreRatios frame fractions))
    ⊎ ((answer ≡ NONE) × (view_of scene.tree.views id ≡ None))

-- the text stands in the room that was given, or isn't written where that is too small: then its length tells
-- how much is asked for
abbrev pub IsPut : (text room out : List ℕ) → ℕ → ℕ → Type 0
IsPut text room out used answer = (used ≡ length text)
    × (((length text ≤ length room) × (take used out ≡ text) × (answer ≡ DONE))
    ⊎ ((length room < length text) × (out ≡ room) × (answer ≡ WRITE_FAULT)))

-- nothing is written, and the answer says that there is no such thing
abbrev pub IsNotPut : (room out : List ℕ) (before used : ℕ) → ℕ → Type 0
IsNotPut room out before used answer = (answer ≡ NONE) × (out ≡ room) × (used ≡ before)

-- the name of a status is put; or no status has the number
abbrev pub IsStatusNamed : ℕ → (room out : List ℕ) (before used : ℕ) → ℕ → Type 0
IsStatusNamed status room out before used answer =
    ((name : List ℕ) × (slice_get status_names status ≡ Some name) × IsPut name room out used answer)
    ⊎ ((slice_get status_names status ≡ None) × IsNotPut room out before used answer)

-- the name of the view of a number is put; or there is no such view
abbrev pub IsNamed : Scene → ℕ → (room out : List ℕ) (before used : ℕ) → ℕ → Type 0
IsNamed scene id room out before used answer =
    ((v : LiveView) × (view_of scene.tree.views id ≡ Some v) × IsPut v.name room out used answer)
    ⊎ ((view_of scene.tree.views id ≡ None) × IsNotPut room out before used answer)

-- the number of a view, with its frame
abbrev pub IsPlaced : Scene → LiveView → Placed → Type 0
IsPlaced scene v placed = (placed.view ≡ v.id) × AreRatios placed.frame (frame_of scene.values v.id)

-- these are the numbers of the views with their frames, one after the other
abbrev pub AreFrames : Scene → List LiveView → List Placed → Type 0
AreFrames scene [] [] = ⊤
AreFrames scene (v ∷ views) (p ∷ placed) = IsPlaced scene v p × AreFrames scene views placed
AreFrames scene views placed = ⊥

-- The numbers and frames of all views stand, in order of creation, in the room that was given, or aren't
-- written where that is too small. In both cases their count is told.
abbrev pub AreFramed : Scene → (room out : List Placed) → ℕ → ℕ → Type 0
AreFramed scene room out count answer = (count ≡ length scene.tree.views)
    × (((length scene.tree.views ≤ length room) × AreFrames scene scene.tree.views (take count out)
    × (answer ≡ DONE))
    ⊎ ((length room < length scene.tree.views) × (out ≡ room) × (answer ≡ WRITE_FAULT)))
