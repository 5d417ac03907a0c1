use Rattle.std.proofs.Common.{◌≤◌, length, arith}
use Rattle.std.specs.VecDeque.{deque_capacity}
use Rattle.version_lists.specs.Undo.{room_of}
use Rattle.version_lists.proofs.SinceLemmas.{all_places}
use Rattle.version_lists.proofs.versions.VersionList.written.Goals as goal

pub returns : goal.returns
returns g c =
    rw (← c.self.view_is)
    (all_places c.self.inside.list c.self.inside.logs.items (deque_capacity c.self.inside.logs) c.capacity.result c.push_places.new.out.items
    c.self.invariant (omega (arith, c.capacity.ensures))
    (omega (arith, c.capacity.ensures, c.self.inside.list.items.ok.0, c.self.inside.list.items.ok.1, c.self.inside.list.slots.ok.0, c.self.inside.list.slots.ok.1, c.self.invariant.lengths))
    c.in_ok-push_places.ensures.has)
