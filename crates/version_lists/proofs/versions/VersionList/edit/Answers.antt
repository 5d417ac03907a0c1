use Rattle.std.proofs.Common.{refl, set, inl, arith, rules}
use Rattle.std.proofs.lemmas.List.{length-set}
use Rattle.version_lists.specs.Undo.{room_of, versions}
use Rattle.version_lists.proofs.UndoLemmas.{written, own_read, spacious_still, versions_written}
use Rattle.version_lists.proofs.versions.VersionList.edit.Goals as goal

pub invariant_of-self-lent : goal.invariant_of-self-lent
invariant_of-self-lent g c =
    λ w.
    record {
      lengths = omega (arith, length-set c.own.new.list.items.items c.args.i w, c.own.ensures.lengths);
      logs = c.own.ensures.logs;
      few = search rules;
      room = search rules;
      spacious =
          spacious_still
          (versions c.self.inside.list.items.items c.self.inside.logs.items)
          (versions (set c.own.new.list.items.items c.args.i w) c.own.new.logs.items)
          (room_of c.self.inside.list) (room_of c.own.new.list)
          (versions_written
          c.self.inside.list.items.items c.own.new.list.items.items c.in_ok-own.ensures.ok.0 c.own.new.logs.items _ c.args.i w
          c.in_ok-own.ensures.ok.2 (c.in_ok-own.ensures.kept w))
          (omega (arith, c.own.ensures.room.items, c.own.ensures.room.slots))
          c.self.invariant.spacious;
    }

pub invariant_of-self : goal.invariant_of-self
invariant_of-self g c = record {
  lengths = c.own.ensures.lengths;
  logs = c.own.ensures.logs;
  few = search rules;
  room = search rules;
  spacious =
      spacious_still
      (versions c.self.inside.list.items.items c.self.inside.logs.items)
      (versions c.own.new.list.items.items c.own.new.logs.items)
      (room_of c.self.inside.list) (room_of c.own.new.list)
      c.own.ensures.items
      (omega (arith, c.own.ensures.room.items, c.own.ensures.room.slots))
      c.self.invariant.spacious;
}

pub returns : goal.returns
returns g c =
    rw (← c.self.view_is) (
      (λ k.
          inl (
            c.index_mut.result.ghost_name,
            λ w.
                written
                c.self.inside.list.items.items c.own.new.list.items.items c.in_ok-own.ensures.ok.0 c.own.new.logs.items _ c.args.i w
                c.in_ok-own.ensures.ok.2 refl (c.in_ok-own.ensures.kept w) k,
          )),
      record {
        writes_back = tt;
        value =
            own_read
            g.T.Clone.is_clone c.self.inside.list.items.items c.own.new.list.items.items c.args.i c.in_ok-own.ensures.ok.0
            c.index_mut.result.now (search rules) c.in_ok-own.ensures.ok.1 c.in_ok-own.ensures.ok.2
            c.index_mut.ensures.value;
      },
    )
