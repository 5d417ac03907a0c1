-- What the fields of a level stand for.
use Rattle.cert_core.specs.declared.best.BestLevel.TheInside.{Inside}
use Rattle.cert_core.specs.Claims.{BestLevel}

-- the level that a level's fields stand for
abbrev pub level_of : Inside → BestLevel
level_of l = record { level = l.level; scale = l.scale; by = l.by.items }
