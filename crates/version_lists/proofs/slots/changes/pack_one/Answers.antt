use Rattle.version_lists.proofs.Packs.{packed_gone, packed_put}
use Rattle.version_lists.proofs.slots.changes.pack_one.Goals as goal

pub returns-then-place-eq0-clause-ok : goal.returns-then-place-eq0-clause-ok
returns-then-place-eq0-clause-ok c =
    λ items are.
    packed_gone c.args.places.now items c.args.kept.now.items c.args.i c.args.k c.place_in-place.result c.get-old.result.now are c.get-old.ensures
    c.place_in-place.ensures c.if-place-eq0.true

pub returns-clause-ok : goal.returns-clause-ok
returns-clause-ok c =
    λ items are.
    packed_put c.args.places.now items c.args.kept.now.items c.put_changed.new.kept.items c.args.i c.args.k c.place_in-place.result c.get-old.result.now are
    c.get-old.ensures c.place_in-place.ensures c.if-place-eq0.false c.in_ok-put_changed.ensures.ok
