-- The clauses of a verdict by number.
use Rattle.std.specs.Prelude.{◌≡◌}
use Rattle.cert_checker.specs.declared.verdict.TheConstants.{BALANCE_CLAUSE, CANCEL_CLAUSE, COLUMNS_CLAUSE}
use Rattle.cert_checker.specs.declared.verdict.TheConstants.{FREE_CLAUSE, GIVEN_CLAUSE, REQUIRED_CLAUSE}
use Rattle.cert_checker.specs.declared.verdict.TheConstants.{SIGNS_CLAUSE, SUM_CLAUSE}

-- Of best values: 1 each is given once, 2 the required rows hold, 3 the levels balance, 4 no column is
-- negative, 5 what is used is free; of a conflict: 6 the terms cancel, 7 the signs fit, 8 the sum is
-- impossible.
abbrev pub ConstantsAreAsSaid : Type 0
ConstantsAreAsSaid = (GIVEN_CLAUSE ≡ 1) × (REQUIRED_CLAUSE ≡ 2) × (BALANCE_CLAUSE ≡ 3)
    × (COLUMNS_CLAUSE ≡ 4) × (FREE_CLAUSE ≡ 5) × (CANCEL_CLAUSE ≡ 6) × (SIGNS_CLAUSE ≡ 7) × (SUM_CLAUSE ≡ 8)
