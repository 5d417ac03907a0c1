use Rattle.corner_table.specs.Tables.{lists_of, problem_of}
use Rattle.corner_table.proofs.Basics.OwnerFacts.{stay_named}
use Rattle.corner_shifts.proofs.standing.move_stay.Goals as goal

pub line_slot-line-requires-clause-row : goal.line_slot-line-requires-clause-row
line_slot-line-requires-clause-row c = stay_named (problem_of (lists_of c.args.table.now)) c.args.attr c.requires.attr
