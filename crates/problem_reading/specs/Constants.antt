-- The limits of a problem's text, written out.
use Rattle.std.specs.Prelude.{◌≡◌, ◌^◌}
use Rattle.problem_reading.specs.declared.limits.TheConstants.{TEXT_LIMIT, TEXT_ROW_LIMIT, TEXT_STAY_LIMIT}

-- A text has fewer than 2^31 bytes; a problem in it 2001 rows at most, and 800 stays.
abbrev pub ConstantsAreAsSaid : Type 0
ConstantsAreAsSaid = (TEXT_LIMIT ≡ 2 ^ 31) × (TEXT_ROW_LIMIT ≡ 2001) × (TEXT_STAY_LIMIT ≡ 800)
