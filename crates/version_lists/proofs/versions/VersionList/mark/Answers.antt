use Rattle.std.proofs.Common.{◌∷◌, ◌∙◌, ◌≤◌, length, arith, rules, ap}
use Rattle.std.proofs.lemmas.List.{length-take}
use Rattle.version_lists.specs.Undo.{room_of}
use Rattle.version_lists.proofs.UndoLemmas.{take-versions, versions_marked, AreLogsOf_marked, AreLogsOf-take, spacious_marked}
use Rattle.version_lists.proofs.versions.VersionList.mark.Goals as goal

pub push_front_reserved-requires : goal.push_front_reserved-requires
push_front_reserved-requires g c =
    omega (
      arith,
      ap length c.empty_log-log.ensures.rest,
      length-take 32 c.self.inside.logs.items,
      c.empty_log-log.new.logs.ok.0,
      c.empty_log-log.ensures.capacity,
      c.self.invariant.room,
    )

pub invariant_of-self : goal.invariant_of-self
invariant_of-self g c =
    let short : length c.self.inside.list.items.items ≤ room_of c.self.inside.list =
    omega (
      arith,
      c.self.inside.list.items.ok.0,
      c.self.inside.list.items.ok.1,
      c.self.inside.list.slots.ok.0,
      c.self.inside.list.slots.ok.1,
      c.self.invariant.lengths,
    )
    in
    record {
      lengths = c.self.invariant.lengths;
      logs =
          rw (c.push_front_reserved.ensures.items, c.empty_log-log.ensures.rest)
          (AreLogsOf_marked _ _ _ c.empty_log-log.ensures.empty c.empty_log-log.ensures.whole (search rules) (AreLogsOf-take 32 _ _ c.self.invariant.logs));
      few =
          omega (
            arith,
            ap length c.push_front_reserved.ensures.items,
            ap length c.empty_log-log.ensures.rest,
            length-take 32 c.self.inside.logs.items,
          );
      room = search rules;
      spacious =
          spacious_marked
          c.self.inside.list.items.items
          (record {
            len = c.len.result;
            replaced = c.empty_log-log.result.replaced;
            removed = c.empty_log-log.result.removed;
          })
          c.push_front_reserved.new.self.items c.empty_log-log.new.logs.items c.self.inside.logs.items 32
          (room_of c.self.inside.list) c.empty_log-log.ensures.empty
          c.empty_log-log.ensures.whole (c.len.ensures ∙ c.self.inside.list.items.ok.0) short
          c.push_front_reserved.ensures.items c.empty_log-log.ensures.rest c.self.invariant.spacious;
    }

pub returns-clause-before : goal.returns-clause-before
returns-clause-before g c =
    rw (c.push_front_reserved.ensures.items, c.empty_log-log.ensures.rest, ← c.self.view_is)
    (versions_marked
    c.self.inside.list.items.items (record { len = c.len.result; replaced = c.empty_log-log.result.replaced; removed = c.empty_log-log.result.removed }) _
    c.empty_log-log.ensures.empty c.empty_log-log.ensures.whole (c.len.ensures ∙ c.self.inside.list.items.ok.0)
    ∙ ap (λ vs. c.self.inside.list.items.items ∷ vs) (take-versions 32 c.self.inside.list.items.items c.self.inside.logs.items))
