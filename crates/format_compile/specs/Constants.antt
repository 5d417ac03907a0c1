-- The usual spaces of a format, written out.
use Rattle.std.specs.Prelude.{◌≡◌}
use Rattle.format_compile.specs.declared.lists.TheConstants.{USUAL_BETWEEN, USUAL_INSIDE}

-- Between two views a format means 8 points, inside the parent 20, both in thousandths here.
abbrev pub ConstantsAreAsSaid : Type 0
ConstantsAreAsSaid = (USUAL_BETWEEN ≡ 8000) × (USUAL_INSIDE ≡ 20000)
