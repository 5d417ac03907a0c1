use Rattle.std.proofs.Common.{◌∙◌, ◌≤◌, ◌+◌, length, sym, arith, rules}
use Rattle.version_lists.specs.Undo.{room_of}
use Rattle.version_lists.proofs.UndoLemmas.{length-at_mark, back_room, back_spacious}
use Rattle.version_lists.proofs.versions.VersionList.back.Goals as goal

pub restore-requires-clause-room : goal.restore-requires-clause-room
restore-requires-clause-room g c =
    let are = rw c.in-Some.ensures.items at c.self.invariant.logs in
    let all = rw c.in-Some.ensures.items at c.self.invariant.spacious in
    let high : c.in-Some.log.len + length c.in-Some.log.removed.items ≤ room_of c.self.inside.list =
    back_room c.self.inside.list.items.items c.self.inside.list.slots.items c.in-Some.log _ _ c.self.invariant.lengths are all
    in
    record { items = omega (arith, high); slots = omega (arith, high) }

pub invariant_of-self : goal.invariant_of-self
invariant_of-self g c =
    let are = rw c.in-Some.ensures.items at c.self.invariant.logs in
    let all = rw c.in-Some.ensures.items at c.self.invariant.spacious in
    let within : c.in-Some.log.len ≤ length c.self.inside.list.items.items =
    omega (arith, are.0.no_longer, c.self.invariant.lengths)
    in
    let more : room_of c.self.inside.list ≤ room_of c.restore.new.list =
    omega (arith, c.restore.ensures.room.items, c.restore.ensures.room.slots)
    in
    record {
      lengths =
          rw (c.restore.ensures.slots, c.restore.ensures.items)
          (length-at_mark (λ r. r.slot) c.in-Some.log c.self.inside.list.slots.items are.0.gone are.0.no_longer
          ∙ sym (length-at_mark (λ r. r.value) c.in-Some.log c.self.inside.list.items.items are.0.gone within));
      logs = rw c.restore.ensures.slots are.1;
      few = search rules;
      room = search rules;
      spacious = rw c.restore.ensures.items (back_spacious c.self.inside.list.items.items c.in-Some.log _ _ _ more all);
    }
