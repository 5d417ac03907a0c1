-- What stops the compilers, and the steps of lines.
use Rattle.std.proofs.Common.{◌≡◌, ℕ, List, length, refl, sym, ap, ◌∙◌, subst, arith, true≢false}
use Rattle.std.specs.declared.option.Option.{Option}
use Rattle.std.proofs.lemmas.Option.{none-some}
use Rattle.name_tables.specs.declared.stops.LimitWord.{LimitWord}
use Rattle.name_tables.specs.declared.stops.LimitWord.TheVariants as word
use Rattle.vfl_text.specs.Formats.{FormatMeaning}
use Rattle.script_text.specs.declared.words.Align.{Align}
use Rattle.script_text.specs.declared.words.Direction.{Direction}
use Rattle.script_text.specs.Directions.{line_in}
use Rattle.script_text.specs.Meaning.{Linear}
use Rattle.view_tree.specs.Views.{LiveView}
use Rattle.compile_parts.specs.Meaning.{MetricList, terms_of}
use Rattle.constraint_compile.specs.Compiled.{CompiledLine}
use Rattle.compile_parts.specs.Steps.{AreSmallSteps}
use Rattle.constraint_compile.specs.Stops.{IsUsable, IsWrongUse, IsCompiled, MayStop}
use Rattle.format_compile.specs.FormatParts.{parts}
use Rattle.format_compile.specs.FormatStops.{row_count}
use Rattle.format_compile.specs.FormatRows.{IsCompiledFormat, MayStopFormat}
use Rattle.compile_parts.specs.declared.stops.KindWord.{KindWord}
use Rattle.compile_parts.specs.declared.stops.KindWord.TheVariants as kind
use Rattle.compile_parts.specs.declared.stops.CompileStop.{CompileStop}
use Rattle.compile_parts.specs.declared.stops.CompileStop.TheVariants as stop
use Rattle.format_compile.proofs.FormatCauses.{steps_same, compiled_count, compiled_refused, refused_once}
use Rattle.session_undo.specs.Replies.{Reply}
use Rattle.problem_core.specs.Layout.{Row}
use Rattle.scenes.specs.Scene.{Scene, with_line}
use Rattle.session_undo.specs.State.{State}
use Rattle.session_undo.specs.Machine.{TriedConstraint, TriedFormat}
use Rattle.session_undo.specs.Adding.{AddStop, StopStep, IsFreeLine}
use Rattle.session_undo.proofs.Commands.Steps.{Excludes, NoStop, stop-step, add-stop, add-passed}

-- stops of different kinds are different
abbrev tag : CompileStop → ℕ
tag (stop.Unknown name) = 0
tag (stop.Kind word) = 1
tag (stop.Limit word) = 2
tag stop.OutOfMemory = 3

apart : (a b : CompileStop) (m n : ℕ) → tag a ≡ m → tag b ≡ n → (m ≡ n → ⊥) → a ≡ b → ⊥
apart a b m n a_is b_is not is = not (sym a_is ∙ ap tag is ∙ b_is)

-- ---- linear lines

not-wrong : (views : List LiveView) (metrics : MetricList) (l : Linear) (w : KindWord) → IsUsable views metrics l → IsWrongUse views metrics l w → ⊥
not-wrong views metrics l kind.Object usable wrong = true≢false (sym wrong ∙ usable.numbers)
not-wrong views metrics l kind.Priority usable wrong = wrong.1 usable.rank
not-wrong views metrics l kind.Weight usable wrong = wrong.2 usable.weight
not-wrong views metrics l kind.Align usable wrong = wrong
not-wrong views metrics l kind.Parent usable wrong = wrong
not-wrong views metrics l kind.Window usable wrong = wrong
not-wrong views metrics l kind.Suggested usable wrong = wrong
not-wrong views metrics l kind.Sized usable wrong = wrong
not-wrong views metrics l kind.Tree usable wrong = wrong
not-wrong views metrics l kind.Sweep usable wrong = wrong

line-excludes : (views : List LiveView) (metrics : MetricList) (l : Linear) (n : ℕ) → Excludes (MayStop views metrics l n)
line-excludes views metrics l n = record {
  kind = λ name w u k. none-some name (sym k.0 ∙ u);
  limit = λ name w u k. none-some name (sym k.0.known ∙ u);
  wrong = λ w limit k h. not-wrong views metrics l w h.0 k.1;
}

not-past : (views : List LiveView) (metrics : MetricList) (l : Linear) (n : ℕ) (c : CompiledLine) (limit : LimitWord) → IsCompiled views metrics l n c → MayStop views metrics l n (stop.Limit limit) → ⊥
not-past views metrics l n c word.Rows is h = omega (arith, is.numbers, h.1)
not-past views metrics l n c word.Terms is h = omega (arith, is.count, h.1.1)
not-past views metrics l n c word.Attributes is h = is.row.3.few h.1.2
not-past views metrics l n c word.Coefficient is h = h.1.2.1 is.row.3.small
not-past views metrics l n c word.Constant is h =
    h.1.2.2.2 (subst (AreSmallSteps metrics) (steps_same views (terms_of l) is.row.0.steps h.1.2.2.0 is.row.2.sum.steps h.1.2.2.1) is.row.3.constants)
not-past views metrics l n c word.Line is h = h.1.2
not-past views metrics l n c word.Name is h = h.1.2
not-past views metrics l n c word.Views is h = h.1.2
not-past views metrics l n c word.Depth is h = h.1.2
not-past views metrics l n c word.Metrics is h = h.1.2
not-past views metrics l n c word.Lines is h = h.1.2
not-past views metrics l n c word.Budget is h = h.1.2

line-none : (views : List LiveView) (metrics : MetricList) (l : Linear) (n : ℕ) (c : CompiledLine) → IsCompiled views metrics l n c → NoStop (MayStop views metrics l n)
line-none views metrics l n c is = record {
  unknown = λ name u. none-some name (sym is.usable.known ∙ u);
  kind = λ w k. not-wrong views metrics l w is.usable k.1;
  limit = λ limit h. not-past views metrics l n c limit is h;
}

-- it stops the compiler of the line as it is meant in the scene's direction
abbrev pub MayStopLine : State → Linear → CompileStop → Type 0
MayStopLine old l = MayStop old.scene.tree.views old.scene.metrics (line_in old.scene.direction l) old.scene.next_row

-- the line as it is meant in the scene's direction is so compiled
abbrev pub IsLineOf : State → Linear → CompiledLine → Type 0
IsLineOf old l = IsCompiled old.scene.tree.views old.scene.metrics (line_in old.scene.direction l) old.scene.next_row

module _ (old : State) (group : List ℕ) (l : Linear) (End : Scene → Reply → State → Type 0) where
  abbrev meant : Linear
  meant = line_in old.scene.direction l

  abbrev LineMay : CompileStop → Type 0
  LineMay = MayStopLine old l

  abbrev LineIs : CompiledLine → Type 0
  LineIs = IsLineOf old l

  pub constraint-passed : (c : CompiledLine) (rows : List Row) (reply : Reply) (new : State) → LineIs c → IsFreeLine old group c rows → End (with_line old.scene group c) reply new → TriedConstraint old group l End reply new
  constraint-passed c rows reply new is free end =
      add-passed old group LineMay LineIs End 1 c rows reply new (line-none old.scene.tree.views old.scene.metrics meant old.scene.next_row c is) is (ap length is.row.1) free end

  pub constraint-full : (c : CompiledLine) (reply : Reply) (new : State) → LineIs c → AddStop old group c reply new → TriedConstraint old group l End reply new
  constraint-full c reply new is step = add-stop old group LineMay LineIs End 1 c reply new (line-none old.scene.tree.views old.scene.metrics meant old.scene.next_row c is) (ap length is.row.1) step

  pub constraint-stopped : (s : CompileStop) (reply : Reply) (new : State) → LineMay s → StopStep old group 1 s reply new → TriedConstraint old group l End reply new
  constraint-stopped s reply new may step = stop-step old group LineMay LineIs End 1 s reply new (line-excludes old.scene.tree.views old.scene.metrics meant old.scene.next_row) may step

-- ---- formats

module _ (views : List LiveView) (metrics : MetricList) (f : FormatMeaning) (align : Option Align) (d : Direction) (first : ℕ) where
  once : (a b : CompileStop) (m n : ℕ) → tag a ≡ m → tag b ≡ n → (m ≡ 3 → ⊥) → (n ≡ 3 → ⊥) → (m ≡ n → ⊥) → MayStopFormat views metrics f align d first a → MayStopFormat views metrics f align d first b → ⊥
  once a b m n a_is b_is a_not b_not not one other =
      apart a b m n a_is b_is not (refused_once views metrics f align d first a b one other (apart a stop.OutOfMemory m 3 a_is refl a_not) (apart b stop.OutOfMemory n 3 b_is refl b_not))

  format-excludes : Excludes (MayStopFormat views metrics f align d first)
  format-excludes = record {
    kind = λ name w u k. once (stop.Unknown name) (stop.Kind w) 0 1 refl refl (λ e. omega (arith, e)) (λ e. omega (arith, e)) (λ e. omega (arith, e)) u k;
    limit = λ name w u k. once (stop.Unknown name) (stop.Limit w) 0 2 refl refl (λ e. omega (arith, e)) (λ e. omega (arith, e)) (λ e. omega (arith, e)) u k;
    wrong = λ w limit k h. once (stop.Kind w) (stop.Limit limit) 1 2 refl refl (λ e. omega (arith, e)) (λ e. omega (arith, e)) (λ e. omega (arith, e)) k h;
  }

  format-none : (c : CompiledLine) → IsCompiledFormat views metrics f align d first c → NoStop (MayStopFormat views metrics f align d first)
  format-none c is = record {
    unknown = λ name u. apart (stop.Unknown name) stop.OutOfMemory 0 3 refl refl (λ e. omega (arith, e)) (compiled_refused views metrics f align d first c (stop.Unknown name) is u);
    kind = λ w k. apart (stop.Kind w) stop.OutOfMemory 1 3 refl refl (λ e. omega (arith, e)) (compiled_refused views metrics f align d first c (stop.Kind w) is k);
    limit = λ w h. apart (stop.Limit w) stop.OutOfMemory 2 3 refl refl (λ e. omega (arith, e)) (compiled_refused views metrics f align d first c (stop.Limit w) is h);
  }

-- it stops the compiler of the format in the scene's direction
abbrev pub MayStopText : State → Option Align → FormatMeaning → CompileStop → Type 0
MayStopText old align f = MayStopFormat old.scene.tree.views old.scene.metrics f align old.scene.direction old.scene.next_row

-- the format in the scene's direction is so compiled
abbrev pub IsTextOf : State → Option Align → FormatMeaning → CompiledLine → Type 0
IsTextOf old align f = IsCompiledFormat old.scene.tree.views old.scene.metrics f align old.scene.direction old.scene.next_row

-- it has so many rows
abbrev pub text_count : State → Option Align → FormatMeaning → ℕ
text_count old align f = row_count old.scene.tree.views (parts f align old.scene.direction)

module _ (old : State) (group : List ℕ) (align : Option Align) (f : FormatMeaning) (End : Scene → Reply → State → Type 0) where
  abbrev FormatMay : CompileStop → Type 0
  FormatMay = MayStopText old align f

  abbrev FormatIs : CompiledLine → Type 0
  FormatIs = IsTextOf old align f

  abbrev count : ℕ
  count = text_count old align f

  pub format-passed : (c : CompiledLine) (rows : List Row) (reply : Reply) (new : State) → FormatIs c → IsFreeLine old group c rows → End (with_line old.scene group c) reply new → TriedFormat old group align f End reply new
  format-passed c rows reply new is free end =
      add-passed old group FormatMay FormatIs End count c rows reply new (format-none old.scene.tree.views old.scene.metrics f align old.scene.direction old.scene.next_row c is) is
      (compiled_count old.scene.tree.views old.scene.metrics f align old.scene.direction old.scene.next_row c is) free end

  pub format-full : (c : CompiledLine) (reply : Reply) (new : State) → FormatIs c → AddStop old group c reply new → TriedFormat old group align f End reply new
  format-full c reply new is step =
      add-stop old group FormatMay FormatIs End count c reply new (format-none old.scene.tree.views old.scene.metrics f align old.scene.direction old.scene.next_row c is)
      (compiled_count old.scene.tree.views old.scene.metrics f align old.scene.direction old.scene.next_row c is) step

  pub format-stopped : (n : ℕ) (s : CompileStop) (reply : Reply) (new : State) → n ≡ text_count old align f → FormatMay s → StopStep old group n s reply new → TriedFormat old group align f End reply new
  format-stopped n s reply new n_is may step =
      stop-step old group FormatMay FormatIs End count s reply new (format-excludes old.scene.tree.views old.scene.metrics f align old.scene.direction old.scene.next_row) may (subst (λ (m : ℕ). StopStep old group m s reply new) n_is step)
