use Rattle.corner_table.specs.Tables.{lists_of}
use Rattle.corner_exchange.proofs.Pivots.TouchedFacts.{standing_rows}
use Rattle.corner_exchange.proofs.exchange.change_of.Goals as goal

pub level_change-requires-clause-level : goal.level_change-requires-clause-level
level_change-requires-clause-level c = (c.is_level.ensures.0 c.if-is_level.true, standing_rows (lists_of c.args.table.now) c.args.w c.args.pivot.now.pair.enter c.requires.pivot.kept (c.is_level.ensures.0 c.if-is_level.true) c.requires.stands)
