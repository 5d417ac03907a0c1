-- What is known of the lists.
use Rattle.corner_table.specs.Tables.{Lists}
use Rattle.corner.specs.declared.known.Known.{Known}
use Rattle.corner_shifts.specs.Astray.{IsAstray}
use Rattle.corner.specs.Safe.{AreSafe}

-- the listed lines are safe to turn, and no stay is astray but those that are listed, if these are known
abbrev pub AreKnown : Lists → Known → Type 0
AreKnown t k = AreSafe t k.safe × IsAstray t k.astray
