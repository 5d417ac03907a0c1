use Rattle.corner_table.specs.Tables.{lists_of}
use Rattle.corner_shifts.proofs.AstrayStays.{all_first, none_first}
use Rattle.corner_shifts.proofs.astray.list_slots.Goals as goal

pub loop-i-init : goal.loop-i-init
loop-i-init c = none_first (lists_of c.args.table.now) c.args.slots.now c.args.lines.now

pub returns : goal.returns
returns c = all_first (lists_of c.args.table.now) c.args.slots.now c.loop-i.i c.args.lines.now c.loop-i.lines c.loop-i-test.false c.loop-i.invariant
