use Rattle.std.proofs.Common.{get_or}
use Rattle.std.proofs.lemmas.List.{get_or_default}
use Rattle.reply_texts.specs.Cores.{id_line}
use Rattle.reply_texts.proofs.Texts.{texts_next}
use Rattle.reply_texts.proofs.numbers.push_ids.Goals as goal

pub loop-id-preserved : goal.loop-id-preserved
loop-id-preserved c =
    let ids = c.args.ids.now in
    let id = get_or ids c.loop-id.id-index 0 in
    texts_next (id_line c.args.front.now) c.args.out.now.items c.loop-id.out.items c.push_id.new.out.items ids c.loop-id.id-index id c.loop-id-test.true (get_or_default ids c.loop-id.id-index 0 id c.loop-id-test.true) c.loop-id.invariant c.in_ok-push_id.ensures
