use Rattle.corner.proofs.Corners.CornerFacts.{back_kept}
use Rattle.corner_table.specs.Tables.{lists_of}
use Rattle.corner.proofs.corner.CornerTableau.back.Goals as goal

pub invariant_of-self : goal.invariant_of-self
invariant_of-self c = (
  back_kept c.self.inside.table c.back.new.table c.clear.new.self c.back.ensures.alike c.self.invariant.0.before c.back.ensures.before c.clear.ensures,
  c.forget_known.ensures (lists_of c.back.new.table),
)
