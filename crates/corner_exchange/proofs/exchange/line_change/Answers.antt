use Rattle.corner_exchange.specs.Swaps.Exchanges.{IsWhatAt}
use Rattle.corner_table.specs.Tables.{lists_of}
use Rattle.corner_exchange.proofs.Pivots.LineSlots.{what_there}
use Rattle.corner_exchange.proofs.exchange.line_change.Goals as goal

there : (c : goal.After-what_at-what) → IsWhatAt (lists_of c.args.table.now) c.args.w c.what_at-what.result
there c = what_there (lists_of c.args.table.now) c.args.w c.args.pivot.now.pair.enter c.what_at-what.result c.side_in.result c.requires.pivot.kept c.requires.moved.slot c.requires.moved.stands c.side_in.ensures c.what_at-what.ensures.attr c.what_at-what.ensures.line

pub moved_row-requires-clause-what : goal.moved_row-requires-clause-what
moved_row-requires-clause-what c = there c

pub moved_value-requires-clause-what : goal.moved_value-requires-clause-what
moved_value-requires-clause-what c = what_there (lists_of c.args.table.now) c.args.w c.args.pivot.now.pair.enter c.what_at-what.result c.side_in.result c.requires.pivot.kept c.requires.moved.slot c.requires.moved.stands c.side_in.ensures c.what_at-what.ensures.attr c.what_at-what.ensures.line

pub moved_line-requires-clause-what : goal.moved_line-requires-clause-what
moved_line-requires-clause-what c = what_there (lists_of c.args.table.now) c.args.w c.args.pivot.now.pair.enter c.what_at-what.result c.side_in.result c.requires.pivot.kept c.requires.moved.slot c.requires.moved.stands c.side_in.ensures c.what_at-what.ensures.attr c.what_at-what.ensures.line
