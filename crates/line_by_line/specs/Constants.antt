-- How much of a script is read, written out.
use Rattle.std.specs.Prelude.{◌≡◌}
use Rattle.line_by_line.specs.declared.script.TheConstants.{INPUT_LIMIT}

-- A script has 1,048,576 bytes at most.
abbrev pub ConstantsAreAsSaid : Type 0
ConstantsAreAsSaid = (INPUT_LIMIT ≡ 1048576)
