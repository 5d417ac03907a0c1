use Rattle.std.proofs.Common.{◌∙◌, ◌<◌, length, sym, Some, rules}
use Rattle.std.proofs.lemmas.List.Elements.{All-pop}
use Rattle.version_lists.proofs.UndoLemmas.{undo_push}
use Rattle.version_lists.proofs.versions.log.give_back.Goals as goal

pub loop-last-preserved : goal.loop-last-preserved
loop-last-preserved g c = record {
  items =
      sym (undo_push (λ r. r.value) c.pop.new.self.items c.in-Some.last c.loop-last.list.items.items)
      ∙ (rw c.in-Some.ensures.items at c.loop-last.invariant.items);
  slots =
      sym (undo_push (λ r. r.slot) c.pop.new.self.items c.in-Some.last c.loop-last.list.slots.items)
      ∙ (rw c.in-Some.ensures.items at c.loop-last.invariant.slots);
  items_len = search rules;
  slots_len = search rules;
  room = search rules;
  places = (All-pop (λ r. r.at < length c.args.list.now.items.items) _ _ (Some c.in-Some.last) c.in-Some.ensures.items c.loop-last.invariant.places).0;
}
