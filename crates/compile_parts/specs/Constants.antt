-- The limits of a line's sums, written out.
use Rattle.std.specs.Prelude.{◌≡◌, ◌^◌}
use Rattle.compile_parts.specs.declared.limits.TheConstants.{ADDEND_LIMIT, CONSTANT_LIMIT}

-- A side of a line has 64 parts at most, and a constant's size is 2^40 at most.
abbrev pub ConstantsAreAsSaid : Type 0
ConstantsAreAsSaid = (ADDEND_LIMIT ≡ 64) × (CONSTANT_LIMIT ≡ 2 ^ 40)
