use Rattle.std.proofs.Common.{arith}
use Rattle.version_lists.proofs.UndoLemmas.{length-versions}
use Rattle.version_lists.proofs.versions.VersionList.earlier.Goals as goal

pub returns-clause-count : goal.returns-clause-count
returns-clause-count g c =
    rw (← c.self.view_is) (omega (arith, length-versions c.self.inside.list.items.items c.self.inside.logs.items))
