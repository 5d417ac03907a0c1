-- The usual values of what a line leaves out, written out.
use Rattle.std.specs.Prelude.{◌≡◌}
use Rattle.constraint_compile.specs.declared.suggestion.TheConstants.{USUAL_RANK}

-- A suggestion has the priority 750.
abbrev pub ConstantsAreAsSaid : Type 0
ConstantsAreAsSaid = (USUAL_RANK ≡ 750)
