use Rattle.corner_table.specs.Tables.{lists_of}
use Rattle.corner_writings.proofs.LevelFacts.LevelFrontFacts.{level_there}
use Rattle.corner_writings.proofs.levels.front_at.Goals as goal

pub returns-clause-level : goal.returns-clause-level
returns-clause-level c = level_there (lists_of c.args.table.now) c.args.l c.level_of.result c.requires.kept c.requires.within c.requires.level c.level_of.ensures.priority c.level_of.ensures.stay
