use Rattle.std.proofs.Common.{◌<◌, length, arith, rules}
use Rattle.std.proofs.lemmas.List.{length-set}
use Rattle.version_lists.specs.Undo.{room_of, versions}
use Rattle.version_lists.proofs.UndoLemmas.{AreLogsOf_set, versions_set, spacious_still}
use Rattle.version_lists.proofs.versions.VersionList.put.Goals as goal

pub invariant_of-self-2 : goal.invariant_of-self-2
invariant_of-self-2 g c =
    let marked : 0 < length c.self.inside.logs.items = search rules in
    record {
      lengths = c.replace_at.ensures.lengths;
      logs =
          AreLogsOf_set
          c.self.inside.list.slots.items c.replace_at.new.list.slots.items c.self.inside.logs.items c.index_mut-2.result.now
          c.replace_at.new.log marked c.index_mut-2.ensures.value c.replace_at.ensures.slots c.replace_at.ensures.log
          c.self.invariant.logs;
      few = omega (arith, length-set c.self.inside.logs.items 0 c.replace_at.new.log, c.self.invariant.few);
      room = c.self.invariant.room;
      spacious =
          spacious_still (versions c.self.inside.list.items.items c.self.inside.logs.items) _
          (room_of c.self.inside.list) (room_of c.replace_at.new.list)
          (versions_set
          c.self.inside.list.items.items c.replace_at.new.list.items.items c.self.inside.logs.items c.index_mut-2.result.now
          c.replace_at.new.log marked c.index_mut-2.ensures.value c.replace_at.ensures.items)
          (omega (arith, c.replace_at.ensures.room.items, c.replace_at.ensures.room.slots))
          c.self.invariant.spacious;
    }
