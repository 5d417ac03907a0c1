use Rattle.std.proofs.Common.{set, rules}
use Rattle.version_lists.proofs.UndoLemmas.{versions_kept, items_at-has}
use Rattle.version_lists.proofs.versions.log.is_kept.Goals as goal

pub returns-else-log-at-clause-kept : goal.returns-else-log-at-clause-kept
returns-else-log-at-clause-kept g c =
    λ has items value.
    versions_kept c.args.logs.now.items c.in-Some.log.now (set items c.args.at value) items (search rules)
    c.in-Some.ensures.lookup
    (items_at-has c.in-Some.log.now c.args.slot c.args.at items value c.if-log-at.false (c.has.ensures.0 has))
