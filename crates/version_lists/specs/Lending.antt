-- What a list ends as, where a `&mut` to one of its elements is returned.
use Rattle.std.specs.Prelude.{ℕ, Result, slice_set}
use Rattle.std.specs.Borrow.{LendsIfOk, Fml, RattleType, MutBor}
use Rattle.version_lists.specs.Versions.{Versions}
use Rattle.version_lists.specs.contracts.versions.VersionList.{the_row}

-- once the borrow ends, the place has the last value written through it. At an error the list stays as it is
abbrev pub lends_item :
    {E : Type 0} (T : RattleType) → MutBor (Versions T.Denot) → ℕ → Result (MutBor T.Denot) E → Fml
lends_item T list i r =
    LendsIfOk (the_row T) T list r (λ w. record list.now { items = slice_set list.now.items i w }) list.now
