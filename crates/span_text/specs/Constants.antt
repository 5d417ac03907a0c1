-- The numbers of numbers in texts, written out.
use Rattle.std.specs.Prelude.{◌≡◌}
use Rattle.span_text.specs.declared.limits.TheConstants.{DECIMALS, HUNDREDTH, NUMBER_DIGITS, RATIO_DIGITS}
use Rattle.span_text.specs.declared.limits.TheConstants.{TENTH, UNIT, WHOLE_DIGITS}

-- A number is counted in thousandths; it has six digits before its point at most and three behind it, a part
-- of a ratio four, a whole number 19.
abbrev pub ConstantsAreAsSaid : Type 0
ConstantsAreAsSaid = (UNIT ≡ 1000) × (TENTH ≡ 100) × (HUNDREDTH ≡ 10) × (NUMBER_DIGITS ≡ 6) × (DECIMALS ≡ 3)
    × (RATIO_DIGITS ≡ 4) × (WHOLE_DIGITS ≡ 19)
