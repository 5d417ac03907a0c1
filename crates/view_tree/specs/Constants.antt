-- The limits of a tree of views, written out.
use Rattle.std.specs.Prelude.{◌≡◌, ◌^◌}
use Rattle.view_tree.specs.declared.limits.TheConstants.{DEPTH_LIMIT, ID_LIMIT, VIEW_LIMIT}

-- A scene has 200 views at most, the window among them, numbered below 2^29, and they stand 32 deep at most.
abbrev pub ConstantsAreAsSaid : Type 0
ConstantsAreAsSaid = (VIEW_LIMIT ≡ 200) × (ID_LIMIT ≡ 2 ^ 29) × (DEPTH_LIMIT ≡ 32)
