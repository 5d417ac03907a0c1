-- The greatest length of a line, written out.
use Rattle.std.specs.Prelude.{◌≡◌}
use Rattle.edge_io.specs.declared.feed.TheConstants.{LINE_LIMIT}

-- A line has 4096 bytes at most.
abbrev pub ConstantsAreAsSaid : Type 0
ConstantsAreAsSaid = (LINE_LIMIT ≡ 4096)
