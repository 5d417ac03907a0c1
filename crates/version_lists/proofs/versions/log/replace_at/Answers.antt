use Rattle.std.proofs.Common.{◌≡◌, length, get_or, ap, refl, rules}
use Rattle.version_lists.specs.Undo.{reopen}
use Rattle.version_lists.proofs.UndoLemmas.{undo_replaced, IsLogOf_replaced}
use Rattle.version_lists.proofs.versions.log.replace_at.Goals as goal

pub returns-clause-items : goal.returns-clause-items
returns-clause-items g c =
    let was : c.replace-2.result ≡ get_or c.args.list.now.items.items c.args.at c.replace-2.result = search rules in
    rw (c.push_reserved.ensures.items, c.reserve.ensures.items)
    (ap (reopen (λ r. r.value) c.args.log.now.removed.items)
    (undo_replaced
    (λ r. r.value) c.args.log.now.replaced.items
    (record { at = c.args.at; slot = c.replace.result; value = c.replace-2.result })
    c.args.log.now.len c.args.list.now.items.items c.replace-2.new.dest c.requires.marked was))

pub returns-clause-slots : goal.returns-clause-slots
returns-clause-slots g c =
    let was : c.replace.result ≡ get_or c.args.list.now.slots.items c.args.at c.replace.result = search rules in
    rw (c.push_reserved.ensures.items, c.reserve.ensures.items)
    (ap (reopen (λ r. r.slot) c.args.log.now.removed.items)
    (undo_replaced
    (λ r. r.slot) c.args.log.now.replaced.items
    (record { at = c.args.at; slot = c.replace.result; value = c.replace-2.result })
    c.args.log.now.len c.args.list.now.slots.items c.replace.new.dest c.requires.marked was))

pub returns-clause-log : goal.returns-clause-log
returns-clause-log g c =
    λ is.
    let stored : c.replace.new.dest ≡ length c.args.log.now.replaced.items = search rules in
    let added = rw c.reserve.ensures.items at c.push_reserved.ensures.items in
    rw stored
    (IsLogOf_replaced
    c.args.list.now.slots.items c.args.log.now (record { len = c.args.log.now.len; replaced = c.push_reserved.new.self; removed = c.args.log.now.removed })
    (record { at = c.args.at; slot = c.replace.result; value = c.replace-2.result }) is refl refl added
    c.requires.marked c.requires.unwritten)

pub returns-clause-kept : goal.returns-clause-kept
returns-clause-kept g c =
    λ other.
    let was : c.replace-2.result ≡ get_or c.args.list.now.items.items c.args.at c.replace-2.result = search rules in
    rw (c.push_reserved.ensures.items, c.reserve.ensures.items)
    (ap (reopen (λ r. r.value) c.args.log.now.removed.items)
    (undo_replaced
    (λ r. r.value) c.args.log.now.replaced.items
    (record { at = c.args.at; slot = c.replace.result; value = c.replace-2.result })
    c.args.log.now.len c.args.list.now.items.items other c.requires.marked was))
