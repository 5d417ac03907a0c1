-- What the changes of a session come to.
use Rattle.std.proofs.Common.{◌≡◌, ℕ, ◌<◌, List, [], length, refl, ap, ap₂, ◌∙◌, subst, inl, inr, arith}
use Rattle.name_tables.specs.declared.stops.LimitWord.{LimitWord}
use Rattle.name_tables.specs.declared.stops.LimitWord.TheVariants as word
use Rattle.compile_parts.specs.declared.stops.KindWord.{KindWord}
use Rattle.compile_parts.specs.declared.stops.CompileStop.{CompileStop}
use Rattle.compile_parts.specs.declared.stops.CompileStop.TheVariants as stop
use Rattle.constraint_compile.specs.Compiled.{CompiledLine}
use Rattle.problem_core.specs.Layout.{Row}
use Rattle.cert_core.specs.Paths.{Path}
use Rattle.session_undo.specs.declared.reply.Refusal.{Refusal}
use Rattle.session_undo.specs.declared.reply.Refusal.TheVariants as refusal
use Rattle.std.specs.Prelude.{OnOk}
use Rattle.std.specs.declared.result.Result.{Result}
use Rattle.std.specs.declared.result.Result.TheVariants.{Ok, Err}
use Rattle.session_undo.specs.Replies.{Reply, Done, Limit, Kind, MayRefuse}
use Rattle.scenes.specs.Scene.{AreDraftRows, History, IsBestScene, Remembers, Scene, with_earlier, with_line}
use Rattle.session_undo.specs.State.{State}
use Rattle.session_undo.specs.Machine.{Unless, UnlessAny, Keeps, SolvesFree, Stands, TriedLine, AddsLine, IsCrowded}
use Rattle.scenes.specs.Steps.{IsSolved}
use Rattle.session_undo.specs.Adding.{UnlessFull, AddStop, StopStep, IsGroupLimit, IsGroupFree, IsLineLimit, IsLineFree, IsFreeLine}

-- what refuses for a narrower relation refuses for a wider one
pub refuses : (F G : Reply → Type 0) (r : Refusal) → ((reply : Reply) → F reply → G reply) → MayRefuse F r → MayRefuse G r
refuses F G (refusal.Syntax at) to h = to _ h
refuses F G (refusal.Unknown name) to h = to _ h
refuses F G (refusal.Taken name) to h = to _ h
refuses F G (refusal.Limit word) to h = to _ h
refuses F G (refusal.Kind word) to h = to _ h
refuses F G (refusal.Conflict by) to h = to _ h
refuses F G refusal.NoEarlier to h = to _ h
refuses F G (refusal.Overflow place at) to h = to _ h
refuses F G (refusal.Spent place path) to h = to _ h
refuses F G (refusal.NoTarget attr up) to h = to _ h
refuses F G (refusal.SweepOverflow width path what) to h = to _ h
refuses F G refusal.OutOfMemory to h = h

-- the session with this scene and those before it
abbrev pub after : State → History → State
after old history = record old { scene = history.scene; earlier = history.earlier }

-- the scene before is the latest earlier one, of as many as may be
abbrev pub IsKeptIn : State → History → Type 0
IsKeptIn old history = history.earlier ≡ with_earlier old.limits.undo old.scene old.earlier

-- what a scene remembers is that, where the session's limit is the scene's
pub kept-in : (old : State) (was history : History) → was.scene ≡ old.scene → was.earlier ≡ old.earlier → was.undo ≡ old.limits.undo → Remembers was history → IsKeptIn old history
kept-in old was history scene earlier undo remembers =
    remembers.0
    ∙ ap (λ (n : ℕ). with_earlier n was.scene was.earlier) undo
    ∙ ap₂ (λ (s : Scene) (ss : List Scene). with_earlier old.limits.undo s ss) scene earlier

-- the same of a step's end
pub kept-end : {E : Type 0} (old : State) (was history : History) (end : Result (Unit {0}) E) → was.scene ≡ old.scene → was.earlier ≡ old.earlier → was.undo ≡ old.limits.undo → OnOk end (Remembers was history) → OnOk end (IsKeptIn old history)
kept-end old was history (Ok done) scene earlier undo remembers = kept-in old was history scene earlier undo remembers
kept-end old was history (Err stop) scene earlier undo remembers = tt

pub kept-after : (old : State) (history : History) → IsKeptIn old history → after old history ≡ record old { scene = history.scene; earlier = with_earlier old.limits.undo old.scene old.earlier }
kept-after old history is = ap (λ (earlier : List Scene). record old { scene = history.scene; earlier = earlier }) is

-- the engine's end is the step's
abbrev Solved : Scene → State → Scene → Type 0
Solved draft old scene = (path : Path) × IsSolved old.scene draft old.budget path scene

pub run-accepts : (draft : Scene) (old : State) (history : History) → Solved draft old history.scene → IsKeptIn old history → SolvesFree old draft Done (after old history)
run-accepts draft old history solved kept = inl (record { done = refl; path = solved.0; solved = solved.1; kept = kept-after old history kept })

-- ---- standing

-- where the scene is the draft, with the rows of what is held and the best values, that is what it comes to
pub stands : (draft : Scene) (old : State) (history : History) → history.scene ≡ draft → AreDraftRows history.scene history.scene.rows → IsBestScene history.scene → IsKeptIn old history
    → Stands old draft Done (after old history)
stands draft old history is rows best kept = record {
  done = refl;
  rows = subst (λ (scene : Scene). AreDraftRows scene scene.rows) is rows;
  best = subst IsBestScene is best;
  kept =
      ap (λ (scene : Scene). record (after old history) { scene = scene }) is
      ∙ ap (λ (earlier : List Scene). record old { scene = draft; earlier = earlier }) kept;
}

-- ---- taking back

-- where there are some, there are not none
pub some-earlier : (earlier : List Scene) → 0 < length earlier → earlier ≡ [] → ⊥
some-earlier earlier some none = absurd (omega (arith, some, ap (λ (scenes : List Scene). length scenes) none))

-- the stops of a compiler exclude each other
pub record Excludes (May : CompileStop → Type 0) : Type 0 where
  pub kind : (name : List ℕ) (word : KindWord) → May (stop.Unknown name) → May (stop.Kind word) → ⊥
  pub limit : (name : List ℕ) (word : LimitWord) → May (stop.Unknown name) → May (stop.Limit word) → ⊥
  pub wrong : (kind : KindWord) (word : LimitWord) → May (stop.Kind kind) → May (stop.Limit word) → ⊥

-- no stop but want of memory may come
pub record NoStop (May : CompileStop → Type 0) : Type 0 where
  pub unknown : (name : List ℕ) → May (stop.Unknown name) → ⊥
  pub kind : (word : KindWord) → May (stop.Kind word) → ⊥
  pub limit : (word : LimitWord) → May (stop.Limit word) → ⊥

-- where a fact fails or holds, the same for what follows
unless-map : (Fact : Type 0) (refusal : Reply) (old : State) (F G : Reply → State → Type 0) (reply : Reply) (new : State) → (F reply new → G reply new) → Unless Fact refusal old F reply new → Unless Fact refusal old G reply new
unless-map Fact refusal old F G reply new to (inl h) = inl h
unless-map Fact refusal old F G reply new to (inr h) = inr (h.0, to h.1)

full-map : (old : State) (group : List ℕ) (F G : Reply → State → Type 0) (reply : Reply) (new : State) → (F reply new → G reply new) → UnlessFull old group F reply new → UnlessFull old group G reply new
full-map old group F G reply new to (inl h) = inl h
full-map old group F G reply new to (inr (a, inl h)) = inr (a, inl h)
full-map old group F G reply new to (inr (a, inr (b, h))) = inr (a, inr (b, to h))

-- the causes that are left where nothing is unknown and the group has room
module _ (old : State) (group : List ℕ) (May : CompileStop → Type 0) (Is : CompiledLine → Type 0) (End : Scene → Reply → State → Type 0) where
  abbrev AtLimit : Reply → State → Type 0
  AtLimit = UnlessAny (λ limit. May (stop.Limit limit)) Limit old (AddsLine old group Is End)

  abbrev AtRows : ℕ → Reply → State → Type 0
  AtRows count = Unless (IsCrowded old count) (Limit word.Rows) old AtLimit

  abbrev AtKind : ℕ → Reply → State → Type 0
  AtKind count = UnlessAny (λ wrong. May (stop.Kind wrong)) Kind old (AtRows count)

  limit-after : (limit : LimitWord) (reply : Reply) (new : State) → May (stop.Limit limit) → Keeps (Limit limit) old reply new → AtLimit reply new
  limit-after limit reply new may keeps = inl (limit, may, keeps.0, keeps.1)

  kind-after : (count : ℕ) (wrong : KindWord) (reply : Reply) (new : State) → May (stop.Kind wrong) → Keeps (Kind wrong) old reply new → AtKind count reply new
  kind-after count wrong reply new may keeps = inl (wrong, may, keeps.0, keeps.1)

  rows-after : (count : ℕ) (limit : LimitWord) (reply : Reply) (new : State) → Excludes May → May (stop.Limit limit) → Unless (IsCrowded old count) (Limit word.Rows) old (Keeps (Limit limit) old) reply new → AtKind count reply new
  rows-after count limit reply new ex may h =
      inr (
        (λ kind k. ex.wrong kind limit k may),
        unless-map (IsCrowded old count) (Limit word.Rows) old (Keeps (Limit limit) old) AtLimit reply new (limit-after limit reply new may) h,
      )

  -- a line that stops the compiler
  pub stop-step : (count : ℕ) (s : CompileStop) (reply : Reply) (new : State) → Excludes May → May s → StopStep old group count s reply new → TriedLine old group count May Is End reply new
  stop-step count (stop.Unknown name) reply new ex may step = inl (name, may, step.0, step.1)
  stop-step count (stop.Kind wrong) reply new ex may step =
      inr (
        (λ name u. ex.kind name wrong u may),
        full-map old group (Keeps (Kind wrong) old) (AtKind count) reply new (kind-after count wrong reply new may) step,
      )
  stop-step count (stop.Limit limit) reply new ex may step =
      inr (
        (λ name u. ex.limit name limit u may),
        full-map old group (Unless (IsCrowded old count) (Limit word.Rows) old (Keeps (Limit limit) old)) (AtKind count) reply new (rows-after count limit reply new ex may) step,
      )
  stop-step count stop.OutOfMemory reply new ex may step = absurd step

  -- a line that is compiled, and for whose rows there is no room
  pub add-stop : (count : ℕ) (line : CompiledLine) (reply : Reply) (new : State) → NoStop May → length line.rows ≡ count → AddStop old group line reply new → TriedLine old group count May Is End reply new
  add-stop count line reply new none long step =
      inr (
        none.unknown,
        full-map old group (Unless (IsCrowded old (length line.rows)) (Limit word.Rows) old (λ r n. ⊥)) (AtKind count) reply new
            (λ h. inr (
              none.kind,
              subst (λ (n : ℕ). AtRows n reply new) long (unless-map (IsCrowded old (length line.rows)) (Limit word.Rows) old (λ r n. ⊥) AtLimit reply new (λ never. absurd never) h),
            )) step,
      )

  -- a line that is compiled, and for which there is room
  pub add-passed : (count : ℕ) (line : CompiledLine) (rows : List Row) (reply : Reply) (new : State) → NoStop May → Is line → length line.rows ≡ count → IsFreeLine old group line rows
      → End (with_line old.scene group line) reply new → TriedLine old group count May Is End reply new
  add-passed count line rows reply new none is long free end =
      inr (
        none.unknown,
        inr (
          free.free.0.0,
          inr (
            free.free.0.1,
            inr (
              none.kind,
              inr (
                subst (λ (n : ℕ). IsCrowded old n → ⊥) long free.free.1,
                inr (none.limit, (line, is, end)),
              ),
            ),
          ),
        ),
      )

-- ---- limits

pub limited : (old : State) (group : List ℕ) (limit : LimitWord) (F : Reply → State → Type 0) → IsGroupLimit old group limit → UnlessFull old group F (Limit limit) old
limited old group limit F h = full-map old group (λ reply new. ⊥) F (Limit limit) old (λ never. absurd never) h

pub free : (old : State) (group : List ℕ) (F : Reply → State → Type 0) (reply : Reply) (new : State) → IsGroupFree old group → F reply new → UnlessFull old group F reply new
free old group F reply new is h = inr (is.0, inr (is.1, h))

pub line-limited : (old : State) (group : List ℕ) (count : ℕ) (limit : LimitWord) (F : Reply → State → Type 0) → IsLineLimit old group count limit
    → UnlessFull old group (Unless (IsCrowded old count) (Limit word.Rows) old F) (Limit limit) old
line-limited old group count limit F h =
    full-map old group (Unless (IsCrowded old count) (Limit word.Rows) old (λ reply new. ⊥)) (Unless (IsCrowded old count) (Limit word.Rows) old F) (Limit limit) old
    (unless-map (IsCrowded old count) (Limit word.Rows) old (λ reply new. ⊥) F (Limit limit) old (λ never. absurd never)) h

pub line-free : (old : State) (group : List ℕ) (count : ℕ) (F : Reply → State → Type 0) (reply : Reply) (new : State) → IsLineFree old group count → F reply new
    → UnlessFull old group (Unless (IsCrowded old count) (Limit word.Rows) old F) reply new
line-free old group count F reply new is h = inr (is.0.0, inr (is.0.1, inr (is.1, h)))

pub stop-kind-limited : (old : State) (group : List ℕ) (count : ℕ) (wrong : KindWord) (limit : LimitWord) → IsGroupLimit old group limit → StopStep old group count (stop.Kind wrong) (Limit limit) old
stop-kind-limited old group count wrong limit h = limited old group limit (Keeps (Kind wrong) old) h

pub stop-kind : (old : State) (group : List ℕ) (count : ℕ) (wrong : KindWord) → IsGroupFree old group → StopStep old group count (stop.Kind wrong) (Kind wrong) old
stop-kind old group count wrong is = free old group (Keeps (Kind wrong) old) (Kind wrong) old is (refl, refl)

pub stop-limit-limited : (old : State) (group : List ℕ) (count : ℕ) (passed limit : LimitWord) → IsLineLimit old group count limit → StopStep old group count (stop.Limit passed) (Limit limit) old
stop-limit-limited old group count passed limit h = line-limited old group count limit (Keeps (Limit passed) old) h

pub stop-limit : (old : State) (group : List ℕ) (count : ℕ) (passed : LimitWord) → IsLineFree old group count → StopStep old group count (stop.Limit passed) (Limit passed) old
stop-limit old group count passed is = line-free old group count (Keeps (Limit passed) old) (Limit passed) old is (refl, refl)

pub add-limited : (old : State) (group : List ℕ) (line : CompiledLine) (count : ℕ) (limit : LimitWord) → count ≡ length line.rows → IsLineLimit old group count limit → AddStop old group line (Limit limit) old
add-limited old group line count limit is h = subst (λ (n : ℕ). IsLineLimit old group n limit) is h
