use Rattle.std.proofs.Common.{subst, sym}
use Rattle.corner_lines.specs.Removals.{IsFree}
use Rattle.corner_view.specs.Seen.{CornerView}
use Rattle.corner_table.specs.Tables.{lists_of}
use Rattle.corner.proofs.corner.CornerTableau.drop_attr.Goals as goal

pub take_attr-requires-clause-free : goal.take_attr-requires-clause-free
take_attr-requires-clause-free c = subst (λ (v : CornerView). IsFree v.problem c.args.attr) (sym c.self.view_is) c.requires.free

pub invariant_of-self : goal.invariant_of-self
invariant_of-self c = (c.in-Ok.ensures.consistent, c.forget_known.ensures (lists_of c.take_attr.new.table))

pub invariant_of-self-in-Err : goal.invariant_of-self-in-Err
invariant_of-self-in-Err c = (c.take_back.ensures.consistent, c.forget_known.ensures (lists_of c.take_back.new.table))
