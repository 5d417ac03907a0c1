-- How much is read, written out.
use Rattle.std.specs.Prelude.{◌≡◌}
use Rattle.claim_check.specs.declared.check.TheConstants.{CHECK_LIMIT}

-- A problem with a claim has 16,777,216 bytes at most.
abbrev pub ConstantsAreAsSaid : Type 0
ConstantsAreAsSaid = (CHECK_LIMIT ≡ 16777216)
