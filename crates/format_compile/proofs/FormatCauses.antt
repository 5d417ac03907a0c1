-- Causes of refusal exclude one another, and none comes where a format is compiled.
use Rattle.std.proofs.Common.{◌≡◌, ℕ, ◌+◌, List, [], ◌∷◌, length, get_or, All, Option, Some, None, refl, sym, ap, subst, ◌∙◌, arith}
use Rattle.std.specs.List.{Any, list_any}
use Rattle.std.proofs.lemmas.List.Elements.{All-nil, All-cons}
use Rattle.std.proofs.lemmas.List.{same_lists, get_or-map}
use Rattle.name_tables.specs.declared.stops.LimitWord.{LimitWord}
use Rattle.name_tables.specs.declared.stops.LimitWord.TheVariants as limit
use Rattle.vfl_text.specs.Formats.{FormatMeaning}
use Rattle.vfl_text.specs.declared.parts.Axis.{Axis}
use Rattle.script_text.specs.declared.words.Align.{Align}
use Rattle.script_text.specs.declared.words.Direction.{Direction}
use Rattle.script_text.specs.Meaning.{Linear}
use Rattle.script_text.specs.Meaning as mean
use Rattle.view_tree.specs.Views.{LiveView}
use Rattle.compile_parts.specs.Meaning as meaning
use Rattle.compile_parts.specs.Meaning.{MetricList, terms_of}
use Rattle.constraint_compile.specs.Coefficients.Sums.{first_sum}
use Rattle.compile_parts.specs.Steps.{Step, AreSmallSteps}
use Rattle.constraint_compile.specs.Compiled.{RowForm, CompiledLine}
use Rattle.constraint_compile.specs.Stops.{AreSteps}
use Rattle.format_compile.specs.FormatParts.{Part, parts}
use Rattle.format_compile.specs.FormatLines.{lines_of}
use Rattle.format_compile.specs.FormatRefusals.{unknown_parts, is_along, lacks_parent, has_view_space}
use Rattle.format_compile.specs.FormatStops.{row_count, IsUsableFormat, IsWrongFormat}
use Rattle.format_compile.specs.FormatRows.{Passes, NonePass, PassesFirst, PassesInFormat, IsRowWithin, AreRowsOf, IsCompiledFormat, MayStopFormat}
use Rattle.compile_parts.specs.declared.stops.CompileStop.{CompileStop}
use Rattle.compile_parts.specs.declared.stops.CompileStop.TheVariants.{Unknown, Kind, Limit, OutOfMemory}
use Rattle.compile_parts.specs.declared.stops.KindWord.{KindWord}
use Rattle.compile_parts.specs.declared.stops.KindWord.TheVariants as kind
use Rattle.format_compile.proofs.Numbered.{rows_long, rows_few, rows_small}
use Rattle.frac_core.proofs.Bools.{not-both as clash}
use Rattle.constraint_compile.proofs.Sums.Joint.{one_scale as scale_same}

-- ---- the steps of a row

step_same : (s t : Step) → s.scale ≡ t.scale → s.part ≡ t.part → s ≡ t
step_same s t scales same = ap (λ (k : ℕ). let step : Step = record { scale = k; part = s.part } in step) scales ∙ ap (λ (p : meaning.Part). let step : Step = record { scale = t.scale; part = p } in step) same

-- terms have one list of steps
pub steps_same : (views : List LiveView) (terms : List mean.Term) (xs ys : List Step) → AreSteps views terms xs → AreSteps views terms ys → xs ≡ ys
steps_same views terms xs ys one other = same_lists xs ys (one.long ∙ sym other.long) (λ k d within.
    step_same (get_or xs k d) (get_or ys k d)
    (scale_same (first_sum views terms (k + 1)) (get_or xs k d).scale (get_or ys k d).scale (one.scales k d (omega (arith, within, one.long))) (other.scales k d (omega (arith, within, one.long))))
    (sym (get_or-map (λ (s : Step). s.part) xs k d d.part within) ∙ ap (λ (ps : List meaning.Part). get_or ps k d.part) (one.parts ∙ sym other.parts) ∙ get_or-map (λ (s : Step). s.part) ys k d d.part (omega (arith, within, one.long, other.long))))

-- ---- rows

within_constant : (views : List LiveView) (metrics : MetricList) (l : Linear) (n : ℕ) (r : RowForm) → IsRowWithin views metrics l n r → Passes views metrics limit.Constant l → ⊥
within_constant views metrics l n r is passes = passes.2.2 (subst (AreSmallSteps metrics) (steps_same views (terms_of l) r.steps passes.2.0 is.is_row.sum.steps passes.2.1) is.within.constants)

rows_constant : (views : List LiveView) (metrics : MetricList) (lines : List Linear) (first : ℕ) (rows : List RowForm) → AreRowsOf views metrics lines first rows → NonePass views metrics lines limit.Constant
rows_constant views metrics [] first rows are = All-nil (λ (l : Linear). Passes views metrics limit.Constant l → ⊥)
rows_constant views metrics (x ∷ lines) first [] are = absurd are
rows_constant views metrics (x ∷ lines) first (y ∷ rows) are =
    All-cons (λ (l : Linear). Passes views metrics limit.Constant l → ⊥) x lines (within_constant views metrics x first y are.0) (rows_constant views metrics lines (first + 1) rows are.1)

none_any : {A : Type 0} (P : A → Type 0) (xs : List A) → All (λ x. P x → ⊥) xs → Any P xs → ⊥
none_any {A} P xs none any = none any.0 any.1 any.2 (subst P (sym any.3) any.4)

rows_pass_none : (views : List LiveView) (metrics : MetricList) (lines : List Linear) (first : ℕ) (rows : List RowForm) (word : LimitWord) → AreRowsOf views metrics lines first rows → PassesFirst views metrics lines word → ⊥
rows_pass_none views metrics lines first rows limit.Attributes are passes = none_any (Passes views metrics limit.Attributes) lines (rows_few views metrics lines first rows are) passes
rows_pass_none views metrics lines first rows limit.Coefficient are passes = none_any (Passes views metrics limit.Coefficient) lines (rows_small views metrics lines first rows are) passes.1
rows_pass_none views metrics lines first rows limit.Constant are passes = none_any (Passes views metrics limit.Constant) lines (rows_constant views metrics lines first rows are) passes.2
rows_pass_none views metrics lines first rows limit.Line are passes = absurd passes
rows_pass_none views metrics lines first rows limit.Name are passes = absurd passes
rows_pass_none views metrics lines first rows limit.Views are passes = absurd passes
rows_pass_none views metrics lines first rows limit.Depth are passes = absurd passes
rows_pass_none views metrics lines first rows limit.Metrics are passes = absurd passes
rows_pass_none views metrics lines first rows limit.Lines are passes = absurd passes
rows_pass_none views metrics lines first rows limit.Rows are passes = absurd passes
rows_pass_none views metrics lines first rows limit.Terms are passes = absurd passes
rows_pass_none views metrics lines first rows limit.Budget are passes = absurd passes

-- ---- causes

some_same : {A : Type 0} (x y : A) → let one : Option A = Some x in one ≡ Some y → x ≡ y
some_same {A} x y same = cc

none_some : {A : Type 0} (o : Option A) (x : A) → o ≡ None → o ≡ Some x → ⊥
none_some {A} o x nothing some = cc

usable_right : (views : List LiveView) (metrics : MetricList) (axis : Axis) (align : Option Align) (ps : List Part) (word : KindWord) → IsUsableFormat views metrics axis align ps → IsWrongFormat views metrics axis align ps word → ⊥
usable_right views metrics axis align ps kind.Align usable wrong = clash (is_along axis align) wrong usable.across
usable_right views metrics axis align ps kind.Parent usable wrong = clash (list_any (lacks_parent views) ps) wrong.1 usable.parents
usable_right views metrics axis align ps kind.Object usable wrong = clash (list_any (has_view_space views) ps) wrong.2 usable.numbers
usable_right views metrics axis align ps kind.Priority usable wrong = wrong.3 usable.ranks
usable_right views metrics axis align ps kind.Weight usable wrong = absurd wrong
usable_right views metrics axis align ps kind.Window usable wrong = absurd wrong
usable_right views metrics axis align ps kind.Suggested usable wrong = absurd wrong
usable_right views metrics axis align ps kind.Sized usable wrong = absurd wrong
usable_right views metrics axis align ps kind.Tree usable wrong = absurd wrong
usable_right views metrics axis align ps kind.Sweep usable wrong = absurd wrong

-- a format has one wrong use at most that is the first
wrong_same : (views : List LiveView) (metrics : MetricList) (axis : Axis) (align : Option Align) (ps : List Part) (one other : KindWord) → IsWrongFormat views metrics axis align ps one → IsWrongFormat views metrics axis align ps other → one ≡ other
wrong_same views metrics axis align ps kind.Align kind.Align h k = refl
wrong_same views metrics axis align ps kind.Align kind.Parent h k = absurd (clash (is_along axis align) h k.0)
wrong_same views metrics axis align ps kind.Align kind.Object h k = absurd (clash (is_along axis align) h k.0)
wrong_same views metrics axis align ps kind.Align kind.Priority h k = absurd (clash (is_along axis align) h k.0)
wrong_same views metrics axis align ps kind.Align kind.Weight h k = absurd k
wrong_same views metrics axis align ps kind.Align kind.Window h k = absurd k
wrong_same views metrics axis align ps kind.Align kind.Suggested h k = absurd k
wrong_same views metrics axis align ps kind.Align kind.Sized h k = absurd k
wrong_same views metrics axis align ps kind.Align kind.Tree h k = absurd k
wrong_same views metrics axis align ps kind.Align kind.Sweep h k = absurd k
wrong_same views metrics axis align ps kind.Parent kind.Align h k = absurd (clash (is_along axis align) k h.0)
wrong_same views metrics axis align ps kind.Parent kind.Parent h k = refl
wrong_same views metrics axis align ps kind.Parent kind.Object h k = absurd (clash (list_any (lacks_parent views) ps) h.1 k.1)
wrong_same views metrics axis align ps kind.Parent kind.Priority h k = absurd (clash (list_any (lacks_parent views) ps) h.1 k.1)
wrong_same views metrics axis align ps kind.Parent kind.Weight h k = absurd k
wrong_same views metrics axis align ps kind.Parent kind.Window h k = absurd k
wrong_same views metrics axis align ps kind.Parent kind.Suggested h k = absurd k
wrong_same views metrics axis align ps kind.Parent kind.Sized h k = absurd k
wrong_same views metrics axis align ps kind.Parent kind.Tree h k = absurd k
wrong_same views metrics axis align ps kind.Parent kind.Sweep h k = absurd k
wrong_same views metrics axis align ps kind.Object kind.Align h k = absurd (clash (is_along axis align) k h.0)
wrong_same views metrics axis align ps kind.Object kind.Parent h k = absurd (clash (list_any (lacks_parent views) ps) k.1 h.1)
wrong_same views metrics axis align ps kind.Object kind.Object h k = refl
wrong_same views metrics axis align ps kind.Object kind.Priority h k = absurd (clash (list_any (has_view_space views) ps) h.2 k.2)
wrong_same views metrics axis align ps kind.Object kind.Weight h k = absurd k
wrong_same views metrics axis align ps kind.Object kind.Window h k = absurd k
wrong_same views metrics axis align ps kind.Object kind.Suggested h k = absurd k
wrong_same views metrics axis align ps kind.Object kind.Sized h k = absurd k
wrong_same views metrics axis align ps kind.Object kind.Tree h k = absurd k
wrong_same views metrics axis align ps kind.Object kind.Sweep h k = absurd k
wrong_same views metrics axis align ps kind.Priority kind.Align h k = absurd (clash (is_along axis align) k h.0)
wrong_same views metrics axis align ps kind.Priority kind.Parent h k = absurd (clash (list_any (lacks_parent views) ps) k.1 h.1)
wrong_same views metrics axis align ps kind.Priority kind.Object h k = absurd (clash (list_any (has_view_space views) ps) k.2 h.2)
wrong_same views metrics axis align ps kind.Priority kind.Priority h k = refl
wrong_same views metrics axis align ps kind.Priority kind.Weight h k = absurd k
wrong_same views metrics axis align ps kind.Priority kind.Window h k = absurd k
wrong_same views metrics axis align ps kind.Priority kind.Suggested h k = absurd k
wrong_same views metrics axis align ps kind.Priority kind.Sized h k = absurd k
wrong_same views metrics axis align ps kind.Priority kind.Tree h k = absurd k
wrong_same views metrics axis align ps kind.Priority kind.Sweep h k = absurd k
wrong_same views metrics axis align ps kind.Weight other h k = absurd h
wrong_same views metrics axis align ps kind.Window other h k = absurd h
wrong_same views metrics axis align ps kind.Suggested other h k = absurd h
wrong_same views metrics axis align ps kind.Sized other h k = absurd h
wrong_same views metrics axis align ps kind.Tree other h k = absurd h
wrong_same views metrics axis align ps kind.Sweep other h k = absurd h

-- a format has one limit at most that it passes first
pass_same : (views : List LiveView) (metrics : MetricList) (ps : List Part) (first : ℕ) (one other : LimitWord) → PassesInFormat views metrics ps first one → PassesInFormat views metrics ps first other → one ≡ other
pass_same views metrics ps first limit.Rows limit.Rows h k = refl
pass_same views metrics ps first limit.Rows limit.Attributes h k = absurd (k.0 h)
pass_same views metrics ps first limit.Rows limit.Coefficient h k = absurd (k.0 h)
pass_same views metrics ps first limit.Rows limit.Constant h k = absurd (k.0 h)
pass_same views metrics ps first limit.Rows limit.Line h k = absurd k.1
pass_same views metrics ps first limit.Rows limit.Name h k = absurd k.1
pass_same views metrics ps first limit.Rows limit.Views h k = absurd k.1
pass_same views metrics ps first limit.Rows limit.Depth h k = absurd k.1
pass_same views metrics ps first limit.Rows limit.Metrics h k = absurd k.1
pass_same views metrics ps first limit.Rows limit.Lines h k = absurd k.1
pass_same views metrics ps first limit.Rows limit.Terms h k = absurd k.1
pass_same views metrics ps first limit.Rows limit.Budget h k = absurd k.1
pass_same views metrics ps first limit.Attributes limit.Rows h k = absurd (h.0 k)
pass_same views metrics ps first limit.Attributes limit.Attributes h k = refl
pass_same views metrics ps first limit.Attributes limit.Coefficient h k = absurd (none_any (Passes views metrics limit.Attributes) (lines_of views ps) k.1.0 h.1)
pass_same views metrics ps first limit.Attributes limit.Constant h k = absurd (none_any (Passes views metrics limit.Attributes) (lines_of views ps) k.1.0 h.1)
pass_same views metrics ps first limit.Attributes limit.Line h k = absurd k.1
pass_same views metrics ps first limit.Attributes limit.Name h k = absurd k.1
pass_same views metrics ps first limit.Attributes limit.Views h k = absurd k.1
pass_same views metrics ps first limit.Attributes limit.Depth h k = absurd k.1
pass_same views metrics ps first limit.Attributes limit.Metrics h k = absurd k.1
pass_same views metrics ps first limit.Attributes limit.Lines h k = absurd k.1
pass_same views metrics ps first limit.Attributes limit.Terms h k = absurd k.1
pass_same views metrics ps first limit.Attributes limit.Budget h k = absurd k.1
pass_same views metrics ps first limit.Coefficient limit.Rows h k = absurd (h.0 k)
pass_same views metrics ps first limit.Coefficient limit.Attributes h k = absurd (none_any (Passes views metrics limit.Attributes) (lines_of views ps) h.1.0 k.1)
pass_same views metrics ps first limit.Coefficient limit.Coefficient h k = refl
pass_same views metrics ps first limit.Coefficient limit.Constant h k = absurd (none_any (Passes views metrics limit.Coefficient) (lines_of views ps) k.1.1 h.1.1)
pass_same views metrics ps first limit.Coefficient limit.Line h k = absurd k.1
pass_same views metrics ps first limit.Coefficient limit.Name h k = absurd k.1
pass_same views metrics ps first limit.Coefficient limit.Views h k = absurd k.1
pass_same views metrics ps first limit.Coefficient limit.Depth h k = absurd k.1
pass_same views metrics ps first limit.Coefficient limit.Metrics h k = absurd k.1
pass_same views metrics ps first limit.Coefficient limit.Lines h k = absurd k.1
pass_same views metrics ps first limit.Coefficient limit.Terms h k = absurd k.1
pass_same views metrics ps first limit.Coefficient limit.Budget h k = absurd k.1
pass_same views metrics ps first limit.Constant limit.Rows h k = absurd (h.0 k)
pass_same views metrics ps first limit.Constant limit.Attributes h k = absurd (none_any (Passes views metrics limit.Attributes) (lines_of views ps) h.1.0 k.1)
pass_same views metrics ps first limit.Constant limit.Coefficient h k = absurd (none_any (Passes views metrics limit.Coefficient) (lines_of views ps) h.1.1 k.1.1)
pass_same views metrics ps first limit.Constant limit.Constant h k = refl
pass_same views metrics ps first limit.Constant limit.Line h k = absurd k.1
pass_same views metrics ps first limit.Constant limit.Name h k = absurd k.1
pass_same views metrics ps first limit.Constant limit.Views h k = absurd k.1
pass_same views metrics ps first limit.Constant limit.Depth h k = absurd k.1
pass_same views metrics ps first limit.Constant limit.Metrics h k = absurd k.1
pass_same views metrics ps first limit.Constant limit.Lines h k = absurd k.1
pass_same views metrics ps first limit.Constant limit.Terms h k = absurd k.1
pass_same views metrics ps first limit.Constant limit.Budget h k = absurd k.1
pass_same views metrics ps first limit.Line other h k = absurd h.1
pass_same views metrics ps first limit.Name other h k = absurd h.1
pass_same views metrics ps first limit.Views other h k = absurd h.1
pass_same views metrics ps first limit.Depth other h k = absurd h.1
pass_same views metrics ps first limit.Metrics other h k = absurd h.1
pass_same views metrics ps first limit.Lines other h k = absurd h.1
pass_same views metrics ps first limit.Terms other h k = absurd h.1
pass_same views metrics ps first limit.Budget other h k = absurd h.1

-- ---- formats

pub compiled_count : (views : List LiveView) (metrics : MetricList) (f : FormatMeaning) (align : Option Align) (d : Direction) (first : ℕ) (c : CompiledLine) → IsCompiledFormat views metrics f align d first c → length c.rows ≡ row_count views (parts f align d)
compiled_count views metrics f align d first c is = rows_long views metrics (lines_of views (parts f align d)) first c.rows is.rows

limit_refused : (views : List LiveView) (metrics : MetricList) (f : FormatMeaning) (align : Option Align) (d : Direction) (first : ℕ) (c : CompiledLine) (word : LimitWord) → IsCompiledFormat views metrics f align d first c → PassesInFormat views metrics (parts f align d) first word → ⊥
limit_refused views metrics f align d first c limit.Rows is passes = is.numbers passes
limit_refused views metrics f align d first c limit.Line is passes = rows_pass_none views metrics (lines_of views (parts f align d)) first c.rows limit.Line is.rows passes.1
limit_refused views metrics f align d first c limit.Name is passes = rows_pass_none views metrics (lines_of views (parts f align d)) first c.rows limit.Name is.rows passes.1
limit_refused views metrics f align d first c limit.Views is passes = rows_pass_none views metrics (lines_of views (parts f align d)) first c.rows limit.Views is.rows passes.1
limit_refused views metrics f align d first c limit.Depth is passes = rows_pass_none views metrics (lines_of views (parts f align d)) first c.rows limit.Depth is.rows passes.1
limit_refused views metrics f align d first c limit.Metrics is passes = rows_pass_none views metrics (lines_of views (parts f align d)) first c.rows limit.Metrics is.rows passes.1
limit_refused views metrics f align d first c limit.Lines is passes = rows_pass_none views metrics (lines_of views (parts f align d)) first c.rows limit.Lines is.rows passes.1
limit_refused views metrics f align d first c limit.Terms is passes = rows_pass_none views metrics (lines_of views (parts f align d)) first c.rows limit.Terms is.rows passes.1
limit_refused views metrics f align d first c limit.Attributes is passes = rows_pass_none views metrics (lines_of views (parts f align d)) first c.rows limit.Attributes is.rows passes.1
limit_refused views metrics f align d first c limit.Coefficient is passes = rows_pass_none views metrics (lines_of views (parts f align d)) first c.rows limit.Coefficient is.rows passes.1
limit_refused views metrics f align d first c limit.Constant is passes = rows_pass_none views metrics (lines_of views (parts f align d)) first c.rows limit.Constant is.rows passes.1
limit_refused views metrics f align d first c limit.Budget is passes = rows_pass_none views metrics (lines_of views (parts f align d)) first c.rows limit.Budget is.rows passes.1

pub compiled_refused : (views : List LiveView) (metrics : MetricList) (f : FormatMeaning) (align : Option Align) (d : Direction) (first : ℕ) (c : CompiledLine) (stop : CompileStop) → IsCompiledFormat views metrics f align d first c → MayStopFormat views metrics f align d first stop → stop ≡ OutOfMemory
compiled_refused views metrics f align d first c (Unknown name) is stop = absurd (none_some (unknown_parts views metrics (parts f align d)) name is.usable.known stop)
compiled_refused views metrics f align d first c (Kind word) is stop = absurd (usable_right views metrics f.axis align (parts f align d) word is.usable stop.1)
compiled_refused views metrics f align d first c (Limit word) is stop = absurd (limit_refused views metrics f align d first c word is stop.1)
compiled_refused views metrics f align d first c OutOfMemory is stop = refl

pub refused_once : (views : List LiveView) (metrics : MetricList) (f : FormatMeaning) (align : Option Align) (d : Direction) (first : ℕ) (one other : CompileStop) → MayStopFormat views metrics f align d first one → MayStopFormat views metrics f align d first other → (one ≡ OutOfMemory → ⊥) → (other ≡ OutOfMemory → ⊥) → one ≡ other
refused_once views metrics f align d first OutOfMemory other h k some more = absurd (some refl)
refused_once views metrics f align d first (Unknown name) OutOfMemory h k some more = absurd (more refl)
refused_once views metrics f align d first (Kind word) OutOfMemory h k some more = absurd (more refl)
refused_once views metrics f align d first (Limit word) OutOfMemory h k some more = absurd (more refl)
refused_once views metrics f align d first (Unknown name) (Unknown same) h k some more = ap Unknown (some_same name same (sym h ∙ k))
refused_once views metrics f align d first (Unknown name) (Kind word) h k some more = absurd (none_some (unknown_parts views metrics (parts f align d)) name k.0 h)
refused_once views metrics f align d first (Unknown name) (Limit word) h k some more = absurd (none_some (unknown_parts views metrics (parts f align d)) name k.0.known h)
refused_once views metrics f align d first (Kind word) (Unknown name) h k some more = absurd (none_some (unknown_parts views metrics (parts f align d)) name h.0 k)
refused_once views metrics f align d first (Limit word) (Unknown name) h k some more = absurd (none_some (unknown_parts views metrics (parts f align d)) name h.0.known k)
refused_once views metrics f align d first (Kind word) (Kind same) h k some more = ap Kind (wrong_same views metrics f.axis align (parts f align d) word same h.1 k.1)
refused_once views metrics f align d first (Kind word) (Limit same) h k some more = absurd (usable_right views metrics f.axis align (parts f align d) word k.0 h.1)
refused_once views metrics f align d first (Limit word) (Kind same) h k some more = absurd (usable_right views metrics f.axis align (parts f align d) same h.0 k.1)
refused_once views metrics f align d first (Limit word) (Limit same) h k some more = ap Limit (pass_same views metrics (parts f align d) first word same h.1 k.1)
