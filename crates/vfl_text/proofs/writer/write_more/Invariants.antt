use Rattle.std.proofs.Common.{◌≡◌, ◌++◌, drop}
use Rattle.vfl_text.specs.Text.{more_text}
use Rattle.vfl_text.specs.View.{pred_meanings}
use Rattle.vfl_text.proofs.writer.write_more.Given as goal

abbrev pub invariant-loop-pred : goal.invariant-loop-pred
invariant-loop-pred l = l.text.items ++ more_text (pred_meanings (drop l.pred-index l.preds)) ≡ l.fn.text.items ++ more_text (pred_meanings l.preds)
