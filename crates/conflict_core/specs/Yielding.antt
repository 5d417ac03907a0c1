-- One engine for all rows that clash, of which one gives way.
use Rattle.std.specs.Prelude.{◌≡◌, ℕ, List, [], ◌∷◌, length, All, Any}
use Rattle.frac_core.specs.Fraction.{IsKept}
use Rattle.problem_core.specs.Layout.{Problem, Row}
use Rattle.problem_core.specs.declared.parts.Stay.{Stay}
use Rattle.corner_view.specs.Changes.{IsNear}
use Rattle.layout_solver.specs.declared.engine.Change.{Change}
use Rattle.layout_solver.specs.Layouts.{Layout}
use Rattle.layout_solver.specs.Shifts.{shifted}
use Rattle.layout_solver.specs.Starts.{attrs_of}
use Rattle.conflict_core.specs.Cores.{trial}

-- the engine has the rows of these numbers, but one of them with this constant, and the problem's attributes;
-- one layout was before it
pub record GivesWay (p : Problem) (ids : List ℕ) (to : Change) (l : Layout) : Type 0 where
  pub rows : l.problem.rows ≡ shifted (to ∷ []) (trial p ids).rows
  pub attrs : attrs_of l.problem ≡ attrs_of p
  pub earlier : length l.earlier ≡ 1

-- whatever the stays, one of the rows may get this constant
abbrev pub MayGet : List Row → Change → Type 0
MayGet rows to = (stays : List Stay) → IsNear (record { rows = rows; stays = stays }) to.row to.constant

-- one of the rows has this number and this constant, and no other row has the number
pub record IsOwn (rows : List Row) (to : Change) : Type 0 where
  pub held : Any (λ r. r.id ≡ to.row) rows
  pub constant : All (λ r. r.id ≡ to.row → r.constant ≡ to.constant) rows
  pub kept : IsKept to.constant
