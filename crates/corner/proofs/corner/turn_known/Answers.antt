use Rattle.corner_table.specs.Tables.{lists_of}
use Rattle.corner.proofs.corner.turn_known.Goals as goal

pub returns-in-Ok-clause-known : goal.returns-in-Ok-clause-known
returns-in-Ok-clause-known c = (
  c.clear_safe.ensures (lists_of c.turn_line.new.table),
  λ known. c.in-Ok.ensures.stays c.args.known.now.astray.lines (c.requires.known.1 known),
)

pub returns-in-Err-clause-known : goal.returns-in-Err-clause-known
returns-in-Err-clause-known c = c.forget_known.ensures (lists_of c.turn_line.new.table)
