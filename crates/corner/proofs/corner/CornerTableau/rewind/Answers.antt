use Rattle.corner_table.specs.Tables.{lists_of}
use Rattle.corner.proofs.corner.CornerTableau.rewind.Goals as goal

pub invariant_of-self : goal.invariant_of-self
invariant_of-self c = (c.take_back.ensures.consistent, c.forget_known.ensures (lists_of c.take_back.new.table))
