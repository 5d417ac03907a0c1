-- The numbers between which a script's are drawn, written out.
use Rattle.std.specs.Prelude.{◌≡◌}
use Rattle.make_script.specs.declared.texts.TheConstants.{HEIGHT_BOUND, LEAST_HEIGHT, LEAST_PRIORITY}
use Rattle.make_script.specs.declared.texts.TheConstants.{LEAST_SUGGESTION, LEAST_WIDTH, LEFT_BOUND}
use Rattle.make_script.specs.declared.texts.TheConstants.{MORE_BOUND, PRIORITY_BOUND, SUGGESTION_BOUND}
use Rattle.make_script.specs.declared.texts.TheConstants.{WIDTH_BOUND}

-- What is drawn is a least number, 0 where none is said, and one below a bound more: a view stands below 50
-- to the right, is 10 to 209 wide, 10 to 99 high, below 20 wider than the one before; a priority is 100 to
-- 899; the width that is suggested 50 to 149.
abbrev pub ConstantsAreAsSaid : Type 0
ConstantsAreAsSaid = (LEFT_BOUND ≡ 50) × (LEAST_WIDTH ≡ 10) × (WIDTH_BOUND ≡ 200) × (LEAST_HEIGHT ≡ 10)
    × (HEIGHT_BOUND ≡ 90) × (MORE_BOUND ≡ 20) × (LEAST_PRIORITY ≡ 100) × (PRIORITY_BOUND ≡ 800)
    × (LEAST_SUGGESTION ≡ 50) × (SUGGESTION_BOUND ≡ 100)
