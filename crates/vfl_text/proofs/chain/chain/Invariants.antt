use Rattle.std.proofs.Common.{◌≡◌, ◌+◌, ◌-◌, ◌≤◌, suc, length}
use Rattle.span_text.specs.Loops.{rounds_at, loop_at}
use Rattle.vfl_text.specs.Reading.{round_at}
use Rattle.vfl_text.specs.View.{meaning}
use Rattle.vfl_text.proofs.chain.chain.Given as goal

abbrev pub invariant-loop-alloc : goal.invariant-loop-alloc
invariant-loop-alloc l = record {
  same : rounds_at round_at (suc (length l.fn.text) + length l.fn.first.items.items - length l.format.items.items) (meaning l.format) l.rest ≡ loop_at round_at (meaning l.fn.first) l.fn.text;
  room : length l.rest + length l.format.items.items ≤ length l.fn.text + length l.fn.first.items.items;
}

abbrev pub decreases-loop-alloc : goal.decreases-loop-alloc
decreases-loop-alloc l = length l.rest
