-- The numbers of the words, written out.
use Rattle.std.specs.Prelude.{◌≡◌}
use Rattle.program_words.specs.declared.numbers.TheConstants.{LEAST_VIEWS, MOST_VIEWS, SEED_DIGITS}
use Rattle.program_words.specs.declared.numbers.TheConstants.{VIEWS_DIGITS}

-- A seed has 20 digits at most, a number of views three, and there are 2 to 120 views.
abbrev pub ConstantsAreAsSaid : Type 0
ConstantsAreAsSaid = (SEED_DIGITS ≡ 20) × (VIEWS_DIGITS ≡ 3) × (LEAST_VIEWS ≡ 2) × (MOST_VIEWS ≡ 120)
