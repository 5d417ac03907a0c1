-- The ranks of rows are above 0.
use Rattle.std.proofs.Common.{ℕ, zero, suc, ◌+◌, ◌<◌, List, [], ◌∷◌, length, Some, None, arith, All, lit<}
use Rattle.std.specs.Prelude.{Option}
use Rattle.std.specs.List.{AllByRecursion as Each}
use Rattle.std.proofs.lemmas.List.Elements.{All-from_recursion}
use Rattle.frac_core.specs.Fraction.{Fraction}
use Rattle.problem_core.specs.declared.parts.Rel.TheVariants.{Eq}
use Rattle.problem_core.specs.Layout.{Row}
use Rattle.span_text.specs.Objects.{Meant}
use Rattle.span_text.specs.Objects as object
use Rattle.view_tree.specs.Views.{LiveView}
use Rattle.script_text.specs.Meaning as mean
use Rattle.compile_parts.specs.Meaning.{MetricList, IsRank, IsRowRank}
use Rattle.constraint_compile.specs.Compiled.{RowForm, AreRowsNow}
use Rattle.format_compile.specs.FormatRows.{AreRowsOf}
use Rattle.held_items.specs.Items.{rows_of_views, size_rows}

abbrev pub HasRank : Row → Type 0
HasRank r = 0 < r.rank

abbrev pub FormHasRank : RowForm → Type 0
FormHasRank f = 0 < f.rank

pub rank-in-thousand : (views : List LiveView) (ms : MetricList) (priority : Option Meant) (rank : ℕ) → IsRank views ms priority rank → IsRowRank rank
rank-in-thousand views ms None rank is = (omega (arith, is), omega (arith, is))
rank-in-thousand views ms (Some (object.Number z)) rank is = is.1
rank-in-thousand views ms (Some (object.Name name)) rank is = is.2

pub rows-ranked : (views : List LiveView) (ms : MetricList) (lines : List mean.Linear) (n : ℕ) (rows : List RowForm) → AreRowsOf views ms lines n rows → Each FormHasRank rows
rows-ranked views ms [] n [] are = tt
rows-ranked views ms [] n (r ∷ rows) are = absurd are
rows-ranked views ms (l ∷ lines) n [] are = absurd are
rows-ranked views ms (l ∷ lines) n (r ∷ rows) are = ((rank-in-thousand views ms l.priority r.rank are.0.is_row.rank).0, rows-ranked views ms lines (n + 1) rows are.1)

abbrev some_form : RowForm
some_form = record { id = 0; rank = 0; weight = 0; rel = Eq; terms = []; steps = [] }

-- rows have the ranks of their forms
pub ranks-now : (ms : MetricList) (forms : List RowForm) (rows : List Row) → AreRowsNow ms forms rows → All FormHasRank forms → All HasRank rows
ranks-now ms forms rows are h k d within =
    let inside : k < length forms = omega (arith, within, are.long) in
    omega (arith, (are.each k some_form d inside).rank, h k some_form inside)

views-each : (first id n : ℕ) → Each HasRank (rows_of_views first id n)
views-each first id zero = tt
views-each first id (suc n) = (lit< tt, (lit< tt, views-each (first + 2) (id + 1) n))

pub views-ranked : (first id n : ℕ) → All HasRank (rows_of_views first id n)
views-ranked first id n = All-from_recursion HasRank (rows_of_views first id n) (views-each first id n)

pub size-ranked : (first : ℕ) (w h : Fraction) → All HasRank (size_rows first w h)
size-ranked first w h = All-from_recursion HasRank (size_rows first w h) (lit< tt, (lit< tt, tt))
