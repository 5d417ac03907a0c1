use Rattle.std.proofs.Common.{◌≡◌, ◌+◌, ◌-◌, ◌≤◌, suc, length}
use Rattle.span_text.specs.Loops.{rounds_at, loop_at}
use Rattle.vfl_text.specs.Reading.{pred_round_at}
use Rattle.vfl_text.specs.View.{pred_meanings}
use Rattle.std.proofs.Common.{[]}
use Rattle.vfl_text.proofs.preds.predicates_from.Given as goal

abbrev pub invariant-loop-preds : goal.invariant-loop-preds
invariant-loop-preds l = record {
  same : rounds_at pred_round_at (suc (length l.fn.text) - length l.preds.items) (pred_meanings l.preds.items) l.rest ≡ loop_at pred_round_at [] l.fn.text;
  room : length l.rest + length l.preds.items ≤ length l.fn.text;
}

abbrev pub decreases-loop-preds : goal.decreases-loop-preds
decreases-loop-preds l = length l.rest
