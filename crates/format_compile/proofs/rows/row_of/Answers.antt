use Rattle.std.proofs.Common.{◌≡◌, ℕ, List, Result, Ok, Err, IfOk, IfErr, sym, ap, ◌∙◌}
use Rattle.view_tree.specs.Views.{LiveView}
use Rattle.script_text.specs.Meaning.{Linear, Term}
use Rattle.compile_parts.specs.Addends.{addends, addends_view}
use Rattle.format_compile.specs.Asks.{added, IsAsk}
use Rattle.compile_parts.specs.declared.addends.Addend as code
use Rattle.format_compile.specs.declared.asks.Ask.{Ask}
use Rattle.constraint_compile.specs.declared.compiled.RowForm.{RowForm}
use Rattle.compile_parts.specs.declared.stops.CompileStop.{CompileStop}
use Rattle.compile_parts.specs.Meaning.{MetricList, terms_of}
use Rattle.constraint_compile.specs.Stops.{IsSumRow, IsWithinLimits, IsRowStop}
use Rattle.constraint_compile.specs.Inside.{form_view}
use Rattle.format_compile.specs.FormatRows.{IsRowWithin}
use Rattle.format_compile.proofs.rows.row_of.Goals as goal

within : (metrics : MetricList) (a : Ask) (items : List code.Addend) (id : ℕ) (o : Result RowForm CompileStop) → items ≡ added a
    → IfOk o (λ r. (r.id ≡ id) × (r.rank ≡ a.rank) × (r.weight ≡ 1) × (r.rel ≡ a.rel))
    → IfOk o (λ r. (vs : List LiveView) (ts : List Term) → addends_view items ≡ addends vs ts → IsSumRow vs ts (form_view r))
    → IfOk o (λ r. (vs : List LiveView) (ts : List Term) → addends_view items ≡ addends vs ts → IsWithinLimits vs metrics ts (form_view r).steps)
    → IfOk o (λ r. (views : List LiveView) (l : Linear) → IsAsk views metrics l a → IsRowWithin views metrics l id (form_view r))
within metrics a items id (Err e) same head row limits = tt
within metrics a items id (Ok r) same head row limits = λ views l is.
    let of : addends_view items ≡ addends views (terms_of l) = ap addends_view same ∙ is.added in
    record {
      is_row = record { id = head.0; rank = rw head.1 is.rank; weight = head.2 ∙ sym is.weight; rel = head.3 ∙ is.rel; sum = row views (terms_of l) of };
      within = limits views (terms_of l) of;
    }

stopped : (metrics : MetricList) (a : Ask) (items : List code.Addend) (o : Result RowForm CompileStop) → items ≡ added a
    → IfErr o (λ e. (vs : List LiveView) (ts : List Term) → addends_view items ≡ addends vs ts → IsRowStop vs metrics ts e)
    → IfErr o (λ e. (views : List LiveView) (l : Linear) → IsAsk views metrics l a → IsRowStop views metrics (terms_of l) e)
stopped metrics a items (Ok r) same stop = tt
stopped metrics a items (Err e) same stop = λ views l is. stop views (terms_of l) (ap addends_view same ∙ is.added)

pub returns-clause-row : goal.returns-clause-row
returns-clause-row c = within c.args.metrics.now c.args.ask.now c.deref.result.now c.args.id c.row_of_addends.result (c.deref.ensures.value ∙ c.in_ok-added.ensures.added) c.row_of_addends.ensures.head c.row_of_addends.ensures.row c.row_of_addends.ensures.within

pub returns-clause-stop : goal.returns-clause-stop
returns-clause-stop c = stopped c.args.metrics.now c.args.ask.now c.deref.result.now c.row_of_addends.result (c.deref.ensures.value ∙ c.in_ok-added.ensures.added) c.row_of_addends.ensures.stop
