use Rattle.std.proofs.Common.{◌∙◌, sym}
use Rattle.corner_table.specs.Tables.{lists_of, problem_of}
use Rattle.corner_table.proofs.Readings.MarkFacts.{inside_stands, stands_inside}
use Rattle.corner_view.proofs.Facts.{mark_named}
use Rattle.corner_writings.proofs.writings.is_inside.Goals as goal

pub stands_in-requires-clause-row : goal.stands_in-requires-clause-row
stands_in-requires-clause-row c = mark_named (problem_of (lists_of c.args.table.now)) c.args.mark c.requires.mark

pub returns : goal.returns
returns c = ((λ e. stands_inside (lists_of c.args.table.now) c.args.mark c.requires.mark (sym c.stands_in.ensures ∙ e)), (λ i. c.stands_in.ensures ∙ inside_stands (lists_of c.args.table.now) c.args.mark i))
