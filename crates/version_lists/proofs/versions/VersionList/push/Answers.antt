use Rattle.std.proofs.Common.{min, vec_capacity, arith, rules}
use Rattle.version_lists.specs.Undo.{room_of, versions}
use Rattle.version_lists.proofs.UndoLemmas.{versions-append, AreLogsOf-append, spacious_still}
use Rattle.version_lists.proofs.versions.VersionList.push.Goals as goal

pub invariant_of-self-2 : goal.invariant_of-self-2
invariant_of-self-2 g c = record {
  lengths = search rules;
  logs = rw (c.push_reserved-2.ensures.items, c.reserve-2.ensures.items) (AreLogsOf-append _ _ _ c.self.invariant.logs);
  few = c.self.invariant.few;
  room = c.self.invariant.room;
  spacious =
      spacious_still
      (versions c.self.inside.list.items.items c.self.inside.logs.items)
      (versions c.push_reserved.new.self.items c.self.inside.logs.items)
      (room_of c.self.inside.list)
      (min (vec_capacity c.push_reserved.new.self) (vec_capacity c.push_reserved-2.new.self))
      (rw (c.push_reserved.ensures.items, c.reserve.ensures.items)
      (versions-append _ _ _ _ c.self.invariant.logs c.self.invariant.lengths))
      (omega (
        arith,
        c.push_reserved.ensures.capacity,
        c.reserve.ensures.capacity,
        c.push_reserved-2.ensures.capacity,
        c.reserve-2.ensures.capacity,
      ))
      c.self.invariant.spacious;
}

pub returns-clause-before : goal.returns-clause-before
returns-clause-before g c =
    rw (c.push_reserved.ensures.items, c.reserve.ensures.items, ← c.self.view_is)
    (versions-append _ _ _ _ c.self.invariant.logs c.self.invariant.lengths)
