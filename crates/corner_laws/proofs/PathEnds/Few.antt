-- A lawful path of either kind makes fewer exchanges than there are words of its lines over three letters.
use Rattle.std.proofs.Common.{◌≡◌, ◌+◌, ◌^◌, ◌<◌, ◌≤◌, Bool, List, [], ◌∷◌, length, refl, arith}
use Rattle.std.specs.List.{AllByRecursion as Each}
use Rattle.std.proofs.lemmas.List.Elements.{All-from_recursion}
use Rattle.problem_core.specs.declared.parts.Mark.{Mark}
use Rattle.problem_core.specs.Layout.{Problem}
use Rattle.problem_core.specs.Kept.{IsWhole}
use Rattle.problem_core.specs.Corners.{IsCorner, Swap, corners, exchanged}
use Rattle.problem_core.specs.Changes.Paths.{ArePathSwaps, IsPath, last_marks}
use Rattle.corner_laws.proofs.Counting.{corners_few}

corners-length : (at : List Mark) (swaps : List Swap) → length (corners at swaps) ≡ length swaps + 1
corners-length at [] = refl
corners-length at (s ∷ swaps) = let rest = corners-length (exchanged s at) swaps in omega (arith, rest)

path_corners : (dual : Bool) (p : Problem) (at : List Mark) (swaps : List Swap) → IsCorner p at → ArePathSwaps dual p at swaps → Each (IsCorner p) (corners at swaps)
path_corners dual p at [] corner swaps = (corner, tt)
path_corners dual p at (s ∷ more) corner swaps = (corner, path_corners dual p (exchanged s at) more swaps.2.corner swaps.4)

pub last_corner : (dual : Bool) (p : Problem) (at : List Mark) (swaps : List Swap) → IsCorner p at → ArePathSwaps dual p at swaps → IsCorner p (last_marks at swaps)
last_corner dual p at [] corner swaps = corner
last_corner dual p at (s ∷ more) corner swaps = last_corner dual p (exchanged s at) more swaps.2.corner swaps.4

pub path_few : (dual : Bool) (p : Problem) (at : List Mark) (swaps : List Swap) → IsWhole p → IsPath dual p at swaps → length swaps < 3 ^ (length p.rows + length p.stays)
path_few dual p at swaps whole path =
    let most : length (corners at swaps) ≤ 3 ^ (length p.rows + length p.stays) =
    corners_few p whole (corners at swaps) (All-from_recursion (IsCorner p) (corners at swaps) (path_corners dual p at swaps path.corner path.lawful)) path.apart in
    omega (arith, most, corners-length at swaps)
