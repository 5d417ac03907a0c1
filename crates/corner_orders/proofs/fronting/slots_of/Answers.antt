use Rattle.std.proofs.Common.{subst, sym}
use Rattle.problem_core.specs.declared.parts.Stay.{Stay}
use Rattle.problem_core.specs.Layout.{HasStay}
use Rattle.corner_table.specs.Tables.{lists_of, problem_of}
use Rattle.corner_table.proofs.Basics.OwnerFacts.{stay_named}
use Rattle.corner_orders.proofs.fronting.slots_of.Goals as goal

pub line_slot-requires-clause-row : goal.line_slot-requires-clause-row
line_slot-requires-clause-row c =
    stay_named (problem_of (lists_of c.args.table.now)) c.stay-item.result.attr
    (subst (λ (s : Stay). HasStay c.args.table.now.stays.items s.attr) (sym c.stay-item.is) (c.requires.held c.loop-stay.stay-index c.stay-item.result c.loop-stay-test.true))
