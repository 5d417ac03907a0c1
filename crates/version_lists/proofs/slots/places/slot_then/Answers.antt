use Rattle.std.proofs.Common.{[], slice_index_or}
use Rattle.version_lists.proofs.Edits.{newest_rises}
use Rattle.version_lists.proofs.Searches.{read_here}
use Rattle.version_lists.proofs.slots.places.slot_then.Goals as goal

pub returns-then-one-number : goal.returns-then-one-number
returns-then-one-number c =
    read_here (slice_index_or c.args.kept.now.before 0 []) c.in-Some.i c.args.number c.in-Some-was.one.now
    (newest_rises c.args.kept.now.before c.requires.rising.before) c.in-Some-was.ensures.some c.if-one-number.true
