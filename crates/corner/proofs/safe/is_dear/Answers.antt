use Rattle.std.proofs.Common.{ℕ, refl, sym, subst}
use Rattle.problem_core.specs.declared.parts.Level.TheVariants.{Priority}
use Rattle.corner_table.specs.Tables.{lists_of, row_at}
use Rattle.corner_writings.specs.Growing.{IsRowDear}
use Rattle.corner.proofs.safe.is_dear.Goals as goal

pub level_slot-requires-clause-level : goal.level_slot-requires-clause-level
level_slot-requires-clause-level c = (0, refl)

pub is_row_dear-requires-clause-level : goal.is_row_dear-requires-clause-level
is_row_dear-requires-clause-level c = (0, (Priority 1000, refl, sym c.level_slot.ensures.value))

pub returns : goal.returns
returns c = λ yes. subst (λ (l : ℕ). IsRowDear (lists_of c.args.table.now) c.args.line c.args.side l (row_at (lists_of c.args.table.now) c.args.line)) c.level_slot.ensures.value (c.is_row_dear.ensures yes)
