use Rattle.std.proofs.Common.{ap}
use Rattle.corner_table.specs.Tables.{lists_of}
use Rattle.corner_leaving.proofs.Removals.LeavingEnds.{leaver_is, leaver_name}
use Rattle.corner_leaving.proofs.leaving.leaver_of.Goals as goal

pub line_slot-line-requires-clause-row : goal.line_slot-line-requires-clause-row
line_slot-line-requires-clause-row c = leaver_name (lists_of c.args.table.now) c.requires.held.0 c.args.id c.requires.held.1 c.requires.held.2

pub returns-clause-leaver : goal.returns-clause-leaver
returns-clause-leaver c = (
  c.requires.held.0,
  leaver_is (lists_of c.args.table.now) c.requires.held.0 c.args.id c.line_slot-line.result c.slot_at.result.home c.side_in.result c.requires.slots c.requires.held.1 c.requires.held.2 c.requires.held.3 c.line_slot-line.ensures.value c.side_in.ensures (ap (λ s. s.home) c.slot_at.ensures),
)
