use Rattle.version_lists.proofs.Packs.{same_put}
use Rattle.version_lists.proofs.slots.changes.put_changed.Goals as goal

pub returns-then-old-one-2-clause-ok : goal.returns-then-old-one-2-clause-ok
returns-then-old-one-2-clause-ok c =
    same_put c.args.kept.now.items c.args.k c.get-old.result.now c.args.one c.get-old.ensures c.if-old-one.true c.if-old-one-2.true
