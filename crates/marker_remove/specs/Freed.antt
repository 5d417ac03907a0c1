-- How a mark of a row comes in before the row is taken out.
use Rattle.std.specs.Prelude.{◌≡◌, ℕ, false, List, [], All}
use Rattle.frac_core.specs.Fraction.{Fraction}
use Rattle.problem_core.specs.declared.parts.RowName.TheVariants.{Held, Stay as StayOf}
use Rattle.problem_core.specs.declared.parts.Mark.{Mark}
use Rattle.problem_core.specs.declared.stops.What.{What}
use Rattle.problem_core.specs.declared.stops.What.TheVariants.{Mark as MarkOf}
use Rattle.problem_core.specs.declared.stops.Quantity.TheVariants.{Plain}
use Rattle.problem_core.specs.Layout.{Problem}
use Rattle.problem_core.specs.Corners.{IsExchange, SameMarks, Swap, attr_column, exchanged}
use Rattle.problem_core.specs.Changes.Begins.{ChangesNoValue, HasMarkOf}
use Rattle.problem_core.specs.Changes.Paths.{IsPath}
use Rattle.problem_core.specs.Unfit.{IsUnfitWhat, over_mark}
use Rattle.cert_core.specs.Paths.{Path}
use Rattle.cert_core.specs.declared.stops.RunStop.{RunStop}
use Rattle.cert_core.specs.declared.stops.RunStop.TheVariants.{Conflict, Unfit, Spent, OutOfMemory}
use Rattle.corner_view.specs.Seen.{HasValueAt, in_order, MovesWith}

-- a mark of the row is inside
abbrev pub HasMarkIn : List Mark → ℕ → Type 0
HasMarkIn at id = HasMarkOf at (Held id)

-- the stays stand at the present values
abbrev pub DoStand : Problem → List Mark → Type 0
DoStand p at = All (λ s. HasValueAt p at (attr_column s.attr) s.target) p.stays

-- the inside mark is a stay's, and moves where the outside mark grows
pub record IsStayMover (p : Problem) (at : List Mark) (enter leave : Mark) : Type 0 where
  pub attr : ℕ
  pub stay : leave.row ≡ StayOf attr
  pub moves : MovesWith p at enter (MarkOf leave)

-- the exchange brings the row's over mark in, against a stay's, changes no value, and leads to these marks
pub record IsFreed (p : Problem) (at : List Mark) (id : ℕ) (new : List Mark) (s : Swap) : Type 0 where
  pub enter : s.enter ≡ over_mark id
  pub stay : (attr : ℕ) × (s.leave.row ≡ StayOf attr)
  pub exchange : IsExchange p at s
  pub same : ChangesNoValue p at s
  pub marks : SameMarks (exchanged s at) new

-- each column has the same value
abbrev pub HasSameValues : Problem → List Mark → List Mark → Type 0
HasSameValues p at new = (c : ℕ) (f : Fraction) → HasValueAt p at c f → HasValueAt p new c f

-- the path of no exchange at the corner after an exchange that frees the row, which had no mark inside
pub record IsFreedPath (p : Problem) (at : List Mark) (id : ℕ) (path : Path) : Type 0 where
  pub kind : path.dual ≡ false
  pub none : path.swaps ≡ []
  pub fresh : HasMarkIn at id → ⊥
  pub freed : (s : Swap) × IsFreed p at id path.corner s
  pub ordered : path.corner ≡ in_order p path.corner
  pub lawful : IsPath false p path.corner []

-- want of memory, or a quantity that does not fit at the corner after an exchange that frees the row
abbrev pub IsFreeStop : Problem → List Mark → ℕ → RunStop → Type 0
IsFreeStop p at id (Conflict by) = ⊥
IsFreeStop p at id (Spent path) = ⊥
IsFreeStop p at id (Unfit stop) = IsFreedPath p at id stop.path
    × ((what : What) × (stop.quantity ≡ Plain what) × IsUnfitWhat p stop.path.corner what)
IsFreeStop p at id OutOfMemory = Unit {0}
