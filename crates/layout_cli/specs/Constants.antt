-- How much the modes read, written out.
use Rattle.std.specs.Prelude.{◌≡◌}
use Rattle.claim_check.specs.declared.check.TheConstants.{CHECK_LIMIT}
use Rattle.line_by_line.specs.declared.script.TheConstants.{INPUT_LIMIT}
use Rattle.layout_cli.specs.declared.hosting.TheConstants.{HOSTED_LINES, HOSTED_ROWS, HOSTED_UNDO}
use Rattle.layout_cli.specs.declared.hosting.TheConstants.{HOSTED_VIEWS}

-- A script has 1,048,576 bytes at most, a problem with a claim 16,777,216. A session of a host has 40 views,
-- 300 lines, 300 rows and 8 earlier scenes at most.
abbrev pub ConstantsAreAsSaid : Type 0
ConstantsAreAsSaid = (INPUT_LIMIT ≡ 1048576) × (CHECK_LIMIT ≡ 16777216)
    × (HOSTED_VIEWS ≡ 40) × (HOSTED_LINES ≡ 300) × (HOSTED_ROWS ≡ 300) × (HOSTED_UNDO ≡ 8)
