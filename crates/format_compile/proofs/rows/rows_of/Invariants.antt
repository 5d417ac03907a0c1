use Rattle.std.proofs.Common.{◌≡◌, ◌+◌, List, take, map}
use Rattle.script_text.specs.Meaning.{Linear}
use Rattle.view_tree.specs.Views.{LiveView}
use Rattle.format_compile.specs.Asks.{AreAsks}
use Rattle.constraint_compile.specs.Inside.{form_view, AreForms}
use Rattle.format_compile.specs.FormatFound.{IsFound}
use Rattle.format_compile.proofs.rows.rows_of.Given as goal

abbrev pub invariant-loop-ask : goal.invariant-loop-ask
invariant-loop-ask l = record {
  forms : AreForms l.found.rows.items;
  found : (views : List LiveView) (lines : List Linear) → AreAsks views l.metrics lines (take l.ask-index l.asks) → IsFound views l.metrics lines l.first_row (map form_view l.found.rows.items) l.found.limit;
  number : l.id ≡ l.first_row + l.ask-index;
}
