use Rattle.std.proofs.Common.{◌≡◌, ◌-◌, ◌<◌, [], length, refl, arith, rules}
use Rattle.version_lists.proofs.UndoLemmas.{at_mark_removed, IsLogOf_removed}
use Rattle.version_lists.proofs.versions.log.take_out.Goals as goal

pub returns-clause-items : goal.returns-clause-items
returns-clause-items g c =
    let empty : c.replace-earlier.new.dest.items ≡ [] = search rules in
    let kept : c.replace-earlier.result.items ≡ c.args.log.now.replaced.items = search rules in
    let added = rw c.reserve.ensures.items at c.push_reserved.ensures.items in
    at_mark_removed (λ r. r.value) c.args.log.now
    (record { len = c.args.log.now.len - 1; replaced = c.replace-earlier.new.dest; removed = c.push_reserved.new.self })
    (record {
      element = record { at = c.args.at; slot = c.remove.result; value = c.remove-2.result };
      earlier = c.replace-earlier.result;
    })
    c.args.list.now.items.items c.remove-2.new.self.items refl empty added kept c.remove-2.ensures.items c.requires.marked
    c.requires.item c.remove-2.ensures.value

pub returns-clause-slots : goal.returns-clause-slots
returns-clause-slots g c =
    let empty : c.replace-earlier.new.dest.items ≡ [] = search rules in
    let kept : c.replace-earlier.result.items ≡ c.args.log.now.replaced.items = search rules in
    let added = rw c.reserve.ensures.items at c.push_reserved.ensures.items in
    let within : c.args.at < length c.args.list.now.slots.items = omega (arith, c.requires.item, c.requires.lengths) in
    at_mark_removed (λ r. r.slot) c.args.log.now
    (record { len = c.args.log.now.len - 1; replaced = c.replace-earlier.new.dest; removed = c.push_reserved.new.self })
    (record {
      element = record { at = c.args.at; slot = c.remove.result; value = c.remove-2.result };
      earlier = c.replace-earlier.result;
    })
    c.args.list.now.slots.items c.remove.new.self.items refl empty added kept c.remove.ensures.items c.requires.marked
    within c.remove.ensures.value

pub returns-clause-log : goal.returns-clause-log
returns-clause-log g c =
    λ is.
    let empty : c.replace-earlier.new.dest.items ≡ [] = search rules in
    let kept : c.replace-earlier.result.items ≡ c.args.log.now.replaced.items = search rules in
    let added = rw c.reserve.ensures.items at c.push_reserved.ensures.items in
    rw c.remove.ensures.items
    (IsLogOf_removed
    c.args.list.now.slots.items c.args.log.now
    (record { len = c.args.log.now.len - 1; replaced = c.replace-earlier.new.dest; removed = c.push_reserved.new.self })
    (record {
      element = record { at = c.args.at; slot = c.remove.result; value = c.remove-2.result };
      earlier = c.replace-earlier.result;
    })
    is refl empty added c.requires.marked kept)
