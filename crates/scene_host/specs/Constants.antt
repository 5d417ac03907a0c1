-- The limit of a host, written out.
use Rattle.std.specs.Prelude.{◌≡◌}
use Rattle.scene_host.specs.declared.limits.TheConstants.{SCENE_LIMIT}

-- There are 64 scenes at most.
abbrev pub ConstantsAreAsSaid : Type 0
ConstantsAreAsSaid = SCENE_LIMIT ≡ 64
