use Rattle.std.proofs.Common.{arith, ◌+◌, string_bytes}
use Rattle.make_script.proofs.Parts.{text_more, state_more}
use Rattle.make_script.proofs.script.put_part.Goals as goal

pub loop-i-preserved : goal.loop-i-preserved
loop-i-preserved c = record {
  positive = omega (arith, c.loop-i.invariant.positive);
  within = omega (arith, c.loop-i-test.true);
  text = rw c.state_after-now.ensures (text_more c.args.part (c.from-begin.result + c.from.result) c.loop-i.i c.loop-i.now _ (string_bytes c.loop-i.text) (string_bytes c.put_line.new.text)
      c.loop-i-test.true c.loop-i.invariant.text c.in_ok-put_line.ensures);
  state = rw c.state_after-now.ensures (state_more c.args.part (c.from-begin.result + c.from.result) c.loop-i.i c.loop-i.now _ c.loop-i-test.true c.loop-i.invariant.state);
}
