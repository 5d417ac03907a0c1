-- The limits of a scene by name, written out.
use Rattle.std.specs.Prelude.{◌≡◌}
use Rattle.name_tables.specs.declared.metrics.TheConstants.{METRIC_LIMIT}
use Rattle.name_tables.specs.declared.stops.TheConstants.{NAME_LIMIT}

-- There are 500 metrics at most, and a name has 64 bytes at most.
abbrev pub ConstantsAreAsSaid : Type 0
ConstantsAreAsSaid = (METRIC_LIMIT ≡ 500) × (NAME_LIMIT ≡ 64)
