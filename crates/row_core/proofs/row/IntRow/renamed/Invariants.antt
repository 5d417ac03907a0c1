use Rattle.std.proofs.Common.{◌≡◌, take}
use Rattle.row_core.specs.Renames.{renamed}
use Rattle.row_core.proofs.row.IntRow.renamed.Given as goal

abbrev pub invariant-loop-e : goal.invariant-loop-e
invariant-loop-e l = l.entries.items ≡ renamed l.places (take l.e-index l.self)
