use Rattle.problem_core.specs.declared.parts.Side.TheVariants.{Over, Under}
use Rattle.corner_table.specs.Tables.{lists_of, problem_of}
use Rattle.corner_view.proofs.Facts.{named_in}
use Rattle.corner_writings.proofs.levels.fronts.fronts_from.Goals as goal

pub front_from-requires-clause-mark : goal.front_from-requires-clause-mark
front_from-requires-clause-mark c = named_in (problem_of (lists_of c.args.table.now)) c.args.row Under c.requires.row

pub front_from-requires-2-clause-mark : goal.front_from-requires-2-clause-mark
front_from-requires-2-clause-mark c = named_in (problem_of (lists_of c.args.table.now)) c.args.row Over c.requires.row
