use Rattle.std.proofs.Common.{◌≡◌, ℕ, List, drop, slice_get}
use Rattle.version_lists.specs.Undo.{undo}
use Rattle.version_lists.proofs.versions.since.first_of.Given as goal

abbrev pub invariant-loop-one : goal.invariant-loop-one
invariant-loop-one g l = (xs : List g.row.T.Denot)
    → slice_get (undo (λ r. r.value) l.replaced xs) l.at ≡ slice_get (undo (λ r. r.value) (drop l.one-index l.replaced) xs) l.at
