use Rattle.std.proofs.Common.{arith, string_bytes, sym}
use Rattle.reply_texts.specs.Replies.{name_lines}
use Rattle.reply_texts.proofs.EachView.{text_more, some_view}
use Rattle.reply_texts.proofs.names.put_names.Goals.{in-Some+in_ok-put_names_of-in-Some, in-None}
use Rattle.reply_texts.proofs.names.put_names.Goals as goal

pub loop-place-preserved : goal.loop-place-preserved
loop-place-preserved c = record {
  within = omega (arith, c.loop-place-test.true);
  is_end = c.loop-place.invariant.is_end;
  text = elim c.match-at.branch [
    | in-Some+in_ok-put_names_of-in-Some w ↦
        rw w.text-is
        (text_more name_lines c.args.tree.now.views c.loop-place.place _ (string_bytes c.args.text.now) (string_bytes c.loop-place.text) (string_bytes w.put_names_of.new.text) (sym w.in-Some.ensures) c.loop-place.invariant.text w.in_ok-put_names_of-in-Some.ensures)
    | in-None w ↦ absurd (some_view c.args.tree.now.views c.loop-place.place (rw c.len-place-end.ensures.len at c.loop-place-test.true) (sym w.in-None.ensures))
  ];
}
