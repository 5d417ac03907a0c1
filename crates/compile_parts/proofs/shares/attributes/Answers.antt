use Rattle.std.proofs.Common.{◌≡◌, pos}
use Rattle.compile_parts.specs.Addends.{addend_view}
use Rattle.compile_parts.specs.declared.addends.Addend.{Addend}
use Rattle.compile_parts.proofs.shares.attributes.Goals as goal
use Rattle.frac_core.proofs.Lists.{all-whole as all_whole, all-more as all_more}

pub loop-addend-preserved : goal.loop-addend-preserved
loop-addend-preserved c = record {
  rising = c.in_ok-include_addend.ensures.rising;
  numbers = c.in_ok-include_addend.ensures.numbers;
  off = λ v off.
      let parts = c.in_ok-include_addend.ensures.off v off in
      all_more (λ (a : Addend). ((addend_view a).share v).num ≡ pos 0) c.args.added.now c.loop-addend.addend-index c.addend-item.result c.loop-addend-test.true c.addend-item.is (c.loop-addend.invariant.off v parts.0) parts.1;
}

pub returns-clause-off : goal.returns-clause-off
returns-clause-off c = λ v off. all_whole (λ (a : Addend). ((addend_view a).share v).num ≡ pos 0) c.args.added.now c.loop-addend.addend-index c.loop-addend-test.false (c.loop-addend.invariant.off v off)
