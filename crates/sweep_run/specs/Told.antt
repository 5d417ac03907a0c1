-- What the types of a slide stand for.
use Rattle.std.specs.Prelude.{List, map}
use Rattle.sweep_laws.specs.Stretches.{Clash, Piece, Stretch}
use Rattle.sweep_run.specs.declared.stretches.Stretch as declared
use Rattle.sweep_run.specs.declared.stretches.Stretch.TheVariants as told

-- the stretch that is told
abbrev pub stretch_of : declared.Stretch → Stretch
stretch_of (told.Piece from to low high) = Piece from to low high
stretch_of (told.Conflict from to by) = Clash from to by

-- in their order
abbrev pub stretches_of : List declared.Stretch → List Stretch
stretches_of stretches = map stretch_of stretches
