use Rattle.std.proofs.Common.{◌≡◌, ◌++◌, drop}
use Rattle.vfl_text.specs.View.{pred_meanings}
use Rattle.format_compile.specs.FormatParts.{asks}
use Rattle.format_compile.specs.FormatViews.{span_view, parts_view}
use Rattle.format_compile.proofs.lists.push_preds.Given as goal

abbrev pub invariant-loop-pred : goal.invariant-loop-pred
invariant-loop-pred l = parts_view l.out.items ++ asks (span_view l.span) (pred_meanings (drop l.pred-index l.preds)) ≡ parts_view l.fn.out.items ++ asks (span_view l.span) (pred_meanings l.preds)
