use Rattle.std.proofs.Common.{subst, sym}
use Rattle.corner_table.specs.Histories.{lists_before}
use Rattle.corner_table.specs.Invariants.{IsConsistent}
use Rattle.corner.proofs.Attributes.CornerAttrs.{back_consistent}
use Rattle.corner.proofs.corner.take_back.Goals as goal

pub returns-clause-consistent : goal.returns-clause-consistent
returns-clause-consistent c =
    subst (IsConsistent c.rewind.new.table) (sym c.clear.ensures)
    (back_consistent c.rewind.new.table (lists_before c.args.table.now) c.rewind.ensures.now.0 c.rewind.ensures.alike c.rewind.ensures.before c.rewind.ensures.now.1 c.requires.earlier)
