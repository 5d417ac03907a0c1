use Rattle.layout_cli.proofs.Made.{counted_reply, small_count}
use Rattle.layout_cli.proofs.making.count_refusal.Goals as goal

pub returns : goal.returns
returns c = record {
  count = counted_reply c.args.session.now c.step-reply.new.session c.args.line.now c.step-reply.result c.step-reply.ensures.accepted c.step-reply.ensures.refused c.step-reply.ensures.same
      c.told_count-count.result c.told_count-count.ensures.told c.told_count-count.ensures.count;
  small = small_count c.told_count-count.result c.step-reply.result c.told_count-count.ensures.count;
}
