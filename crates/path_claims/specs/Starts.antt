-- The verdict on a path that is the corner where the route begins.
use Rattle.std.specs.Prelude.{◌≡◌, ◌<◌, ℕ, []}
use Rattle.problem_core.specs.Layout.{Problem}
use Rattle.problem_core.specs.Corners.{IsCorner, SameMarks}
use Rattle.cert_core.specs.Paths.{Path}
use Rattle.path_lines.specs.Route.{over_marks}
use Rattle.path_lines.specs.Tables.{IsUp, name_at}

-- the path has no swaps, and its corner is the one where the route begins
pub record IsAtStart (p : Problem) (path : Path) : Type 0 where
  pub swaps : path.swaps ≡ []
  pub corner : IsCorner p path.corner
  pub marks : SameMarks path.corner (over_marks p)

-- no value of the first lines' inside marks is negative there
abbrev pub AreUpTo : Problem → ℕ → Type 0
AreUpTo p count = (k : ℕ) → k < count → IsUp p (over_marks p) (name_at p k)
