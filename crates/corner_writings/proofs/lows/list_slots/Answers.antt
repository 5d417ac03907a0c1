use Rattle.std.proofs.Common.{subst}
use Rattle.corner_writings.specs.Lows.{ListsSlot}
use Rattle.corner_table.specs.Tables.{lists_of}
use Rattle.corner_writings.proofs.Readings.LowLines.{all_first, none_first, one_first}
use Rattle.corner_writings.proofs.lows.list_slots.Goals as goal

pub loop-i-init : goal.loop-i-init
loop-i-init c = none_first (lists_of c.args.table.now) c.args.slots.now c.args.low.now.items

pub loop-i-preserved : goal.loop-i-preserved
loop-i-preserved c =
    one_first (lists_of c.args.table.now) c.args.slots.now c.loop-i.i 0 c.args.low.now.items c.loop-i.low.items c.list_slot.new.low.items c.loop-i-test.true
    (subst (λ w. ListsSlot (lists_of c.args.table.now) w c.loop-i.low.items c.list_slot.new.low.items) c.nth-w.ensures c.in_ok-list_slot.ensures) c.loop-i.invariant

pub returns : goal.returns
returns c = all_first (lists_of c.args.table.now) c.args.slots.now c.loop-i.i c.args.low.now.items c.loop-i.low.items c.loop-i-test.false c.loop-i.invariant
