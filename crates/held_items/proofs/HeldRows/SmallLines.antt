-- What is compiled has small constants.
use Rattle.std.proofs.Common.{ℕ, ◌+◌, List, [], ◌∷◌, sym, subst}
use Rattle.std.specs.declared.option.Option.{Option}
use Rattle.std.specs.List.{AllByRecursion as Each}
use Rattle.std.proofs.lemmas.List.Elements.{All-from_recursion}
use Rattle.vfl_text.specs.Formats.{FormatMeaning}
use Rattle.script_text.specs.declared.words.Align.{Align}
use Rattle.script_text.specs.declared.words.Direction.{Direction}
use Rattle.script_text.specs.Meaning.{Linear}
use Rattle.view_tree.specs.Views.{LiveView}
use Rattle.compile_parts.specs.Meaning.{MetricList}
use Rattle.constraint_compile.specs.Compiled.{RowForm, CompiledLine, AreSmallForms}
use Rattle.compile_parts.specs.Steps.{AreSmallSteps}
use Rattle.constraint_compile.specs.Stops.{IsCompiled}
use Rattle.format_compile.specs.FormatParts.{parts}
use Rattle.format_compile.specs.FormatLines.{lines_of}
use Rattle.format_compile.specs.FormatRows.{AreRowsOf, IsCompiledFormat}

pub line-small : (views : List LiveView) (metrics : MetricList) (l : Linear) (number : ℕ) (c : CompiledLine) → IsCompiled views metrics l number c → AreSmallForms metrics c.rows
line-small views metrics l number c is =
    subst (AreSmallForms metrics) (sym is.row.1) (All-from_recursion (λ f. AreSmallSteps metrics f.steps) (is.row.0 ∷ []) (is.row.3.constants, tt))

each-small : (views : List LiveView) (metrics : MetricList) (lines : List Linear) (number : ℕ) (rows : List RowForm) → AreRowsOf views metrics lines number rows → Each (λ f. AreSmallSteps metrics f.steps) rows
each-small views metrics [] number [] are = tt
each-small views metrics [] number (r ∷ rows) are = absurd are
each-small views metrics (l ∷ lines) number [] are = absurd are
each-small views metrics (l ∷ lines) number (r ∷ rows) are = (are.0.within.constants, each-small views metrics lines (number + 1) rows are.1)

pub format-small : (views : List LiveView) (metrics : MetricList) (f : FormatMeaning) (align : Option Align) (d : Direction) (first : ℕ) (c : CompiledLine) → IsCompiledFormat views metrics f align d first c → AreSmallForms metrics c.rows
format-small views metrics f align d first c is = All-from_recursion (λ f. AreSmallSteps metrics f.steps) c.rows (each-small views metrics (lines_of views (parts f align d)) first c.rows is.rows)
