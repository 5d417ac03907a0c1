use Rattle.std.proofs.Common.{◌≡◌, take, All}
use Rattle.row_core.specs.Renames.{place_in}
use Rattle.corner_packing.proofs.moving.is_still.Given as goal

abbrev pub invariant-loop-e : goal.invariant-loop-e
invariant-loop-e l = All (λ t. place_in l.places.of.items t.col ≡ t.col) (take l.e-index l.row)
