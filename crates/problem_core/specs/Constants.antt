-- The numbers of problems, written out.
use Rattle.std.specs.Prelude.{◌≡◌, ◌^◌}
use Rattle.problem_core.specs.declared.limits.TheConstants.{COEFFICIENT_LIMIT, FIRST_STAY_LEVEL, GAP_ROOM}
use Rattle.problem_core.specs.declared.limits.TheConstants.{MARKS, NUMBER_LIMIT, REQUIRED, ROW_LIMIT}
use Rattle.problem_core.specs.declared.limits.TheConstants.{TERM_LIMIT, WEIGHT_LIMIT}

-- Required rows have the rank 1000, stays the levels from 1001 on; weights go to 1000; numbers of rows and
-- attributes are below 2^31; coefficients go to 2^30; a row has 32 terms at most, a problem 4096 rows and as
-- many stays; the columns of marks are those below 2^34; and a gap's sign is told where the common
-- denominator is below 2^62.
abbrev pub ConstantsAreAsSaid : Type 0
ConstantsAreAsSaid = (REQUIRED ≡ 1000) × (FIRST_STAY_LEVEL ≡ 1001) × (WEIGHT_LIMIT ≡ 1000)
    × (NUMBER_LIMIT ≡ 2 ^ 31) × (COEFFICIENT_LIMIT ≡ 2 ^ 30) × (TERM_LIMIT ≡ 32) × (ROW_LIMIT ≡ 4096)
    × (MARKS ≡ 2 ^ 34) × (GAP_ROOM ≡ 2 ^ 62)
