-- The clauses of a path's verdict by number.
use Rattle.std.specs.Prelude.{◌≡◌}
use Rattle.path_claims.specs.declared.verdict.TheConstants.{APART_CLAUSE, CALLED_CLAUSE, CORNER_CLAUSE}
use Rattle.path_claims.specs.declared.verdict.TheConstants.{EXCHANGES_CLAUSE, SOUND_CLAUSE, UNFIT_CLAUSE}

-- 9 each corner of the path is one, 10 the exchanges are lawful, 11 no corner comes twice, 12 each corner's
-- values and columns have their signs, 13 the kind is the one that is called for, 14 what is named doesn't
-- fit.
abbrev pub ConstantsAreAsSaid : Type 0
ConstantsAreAsSaid = (CORNER_CLAUSE ≡ 9) × (EXCHANGES_CLAUSE ≡ 10) × (APART_CLAUSE ≡ 11)
    × (SOUND_CLAUSE ≡ 12) × (CALLED_CLAUSE ≡ 13) × (UNFIT_CLAUSE ≡ 14)
