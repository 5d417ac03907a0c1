-- A removal's stop names a whole quantity.
use Rattle.std.proofs.Common.{ℕ, ◌++◌, false, List, take, inl, inr}
use Rattle.std.specs.Global.{Vec}
use Rattle.problem_core.specs.declared.parts.Mark.{Mark}
use Rattle.problem_core.specs.declared.stops.Quantity.{Quantity}
use Rattle.problem_core.specs.declared.stops.Quantity.TheVariants.{Plain, Terms, Rows, Shifts}
use Rattle.problem_core.specs.Layout.{Problem, Row}
use Rattle.cert_core.specs.Paths.{Path}
use Rattle.cert_core.specs.Stops.{IsPlain, IsUnfitPath}
use Rattle.cert_core.specs.declared.stops.UnfitPath.{UnfitPath}
use Rattle.corner_laws.proofs.PathEnds.Complete.{plain_alone}
use Rattle.layout_solver.specs.declared.request.RequestStop.TheVariants.{Unfit}
use Rattle.layout_solver.specs.Removals.{FromRemoved, IsRemoveStop, Leaving, without, without_rows}

-- over the problem's own rows
plain-path : (q : Problem) (Begins : List Row → List Mark → Type 0) (path : Path) (quantity : Quantity) → IsUnfitPath false q q.rows Begins path quantity → IsPlain quantity
plain-path q Begins path (Plain what) h = tt
plain-path q Begins path (Terms mark j) h = plain_alone q path.corner (Terms mark j) h.4
plain-path q Begins path (Rows level j) h = plain_alone q path.corner (Rows level j) h.3
plain-path q Begins path (Shifts what j) h = plain_alone q path.corner (Shifts what j) h.4

pub stops_plainly : (p : Problem) (kept : List Mark) (l : Leaving) (budget : ℕ) (still : Vec ℕ) (at : UnfitPath) → IsRemoveStop p kept l budget (Unfit still at) → IsPlain at.quantity
stops_plainly p kept l budget still at (inl (some, h)) = plain-path (without_rows h.gone p) (FromRemoved p kept (h.gone ++ take 1 still.items) h.gone (without_rows h.gone p)) at.path at.quantity h.stop.2
stops_plainly p kept l budget still at (inr (none, h)) = plain-path (without l p) (FromRemoved p kept l.rows l.rows (without l p)) at.path at.quantity h.2
