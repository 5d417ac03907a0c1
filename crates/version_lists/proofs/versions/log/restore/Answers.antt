use Rattle.std.proofs.Common.{◌∙◌, ◌≡◌, ◌+◌, ◌∷◌, [], length, suc, refl, sym, ap, arith}
use Rattle.std.proofs.lemmas.List.{length-append}
use Rattle.version_lists.proofs.UndoLemmas.{AreGone_pop, reopen_push, length-undo_taken, length-put_back}
use Rattle.version_lists.proofs.versions.log.restore.Goals as goal

pub loop-last-init : goal.loop-last-init
loop-last-init g c =
    let items_len : length c.give_back.new.list.items.items ≡ c.args.log.len =
    rw (c.give_back.ensures.items, c.truncate.ensures.items)
    (length-undo_taken
    (λ r. r.value) c.args.log.replaced.items c.args.log.len c.args.list.now.items.items
    (omega (arith, c.requires.log.no_longer, c.requires.lengths)))
    in
    let slots_len : length c.give_back.new.list.slots.items ≡ c.args.log.len =
    rw (c.give_back.ensures.slots, c.truncate-2.ensures.items)
    (length-undo_taken
    (λ r. r.slot) c.args.log.replaced.items c.args.log.len c.args.list.now.slots.items c.requires.log.no_longer)
    in
    record {
      items = rw (c.give_back.ensures.items, c.truncate.ensures.items) refl;
      slots = rw (c.give_back.ensures.slots, c.truncate-2.ensures.items) refl;
      lengths = slots_len ∙ sym items_len;
      height = ap (λ n. n + length c.args.log.removed.items) items_len;
      room = record {
        items = c.give_back.ensures.room.items ∙ c.truncate.ensures.capacity;
        slots = c.give_back.ensures.room.slots ∙ c.truncate-2.ensures.capacity;
      };
      gone = rw items_len c.requires.log.gone;
    }

pub put_back-requires-clause-place : goal.put_back-requires-clause-place
put_back-requires-clause-place g c =
    (AreGone_pop
    (length c.loop-last.list.items.items) c.pop.new.self.items c.in-Some.last
    (rw c.in-Some.ensures.items at c.loop-last.invariant.gone)).0

pub put_back-requires-clause-places : goal.put_back-requires-clause-places
put_back-requires-clause-places g c =
    (AreGone_pop
    (length c.loop-last.list.items.items) c.pop.new.self.items c.in-Some.last
    (rw c.in-Some.ensures.items at c.loop-last.invariant.gone)).1

pub loop-last-preserved : goal.loop-last-preserved
loop-last-preserved g c =
    let popped =
    AreGone_pop
    (length c.loop-last.list.items.items) c.pop.new.self.items c.in-Some.last
    (rw c.in-Some.ensures.items at c.loop-last.invariant.gone)
    in
    let items_len : length c.put_back.new.list.items.items ≡ suc (length c.loop-last.list.items.items) =
    rw c.put_back.ensures.items
    (length-put_back
    (λ r. r.value) c.in-Some.last.earlier.items c.loop-last.list.items.items c.in-Some.last.element.at
    c.in-Some.last.element.value popped.0)
    in
    let slots_len : length c.put_back.new.list.slots.items ≡ suc (length c.loop-last.list.slots.items) =
    rw c.put_back.ensures.slots
    (length-put_back
    (λ r. r.slot) c.in-Some.last.earlier.items c.loop-last.list.slots.items c.in-Some.last.element.at
    c.in-Some.last.element.slot (omega (arith, popped.0, c.loop-last.invariant.lengths)))
    in
    let one : length c.loop-last.removed.items ≡ length c.pop.new.self.items + 1 =
    rw c.in-Some.ensures.items (length-append c.pop.new.self.items (c.in-Some.last ∷ []))
    in
    record {
      items =
          rw c.put_back.ensures.items
          (sym (reopen_push (λ r. r.value) c.pop.new.self.items c.in-Some.last c.loop-last.list.items.items)
          ∙ (rw c.in-Some.ensures.items at c.loop-last.invariant.items));
      slots =
          rw c.put_back.ensures.slots
          (sym (reopen_push (λ r. r.slot) c.pop.new.self.items c.in-Some.last c.loop-last.list.slots.items)
          ∙ (rw c.in-Some.ensures.items at c.loop-last.invariant.slots));
      lengths = omega (arith, slots_len, items_len, c.loop-last.invariant.lengths);
      height = omega (arith, items_len, one, c.loop-last.invariant.height);
      room = record {
        items = c.put_back.ensures.room.items ∙ c.loop-last.invariant.room.items;
        slots = c.put_back.ensures.room.slots ∙ c.loop-last.invariant.room.slots;
      };
      gone = rw items_len popped.2;
    }
