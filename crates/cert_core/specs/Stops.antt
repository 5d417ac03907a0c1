-- What the stops of a change show.
use Rattle.std.specs.Prelude.{◌≡◌, ◌≢◌, ℕ, ◌<◌, ◌≤◌, Bool, true, false, List, [], ◌∷◌, length, pos, ◌≤ℤ◌}
use Rattle.std.specs.Prelude.{unsigned_abs, All, AllPairs, Any}
use Rattle.std.specs.Int.{◌∣◌}
use Rattle.problem_core.specs.declared.parts.RowName.{RowName}
use Rattle.problem_core.specs.declared.parts.RowName.TheVariants.{Held, Stay as StayOf}
use Rattle.problem_core.specs.declared.parts.Mark.{Mark}
use Rattle.problem_core.specs.declared.stops.Quantity.{Quantity}
use Rattle.problem_core.specs.declared.stops.Quantity.TheVariants.{Plain, Terms, Rows, Shifts}
use Rattle.problem_core.specs.Layout.{Row, Problem}
use Rattle.problem_core.specs.Certificates.{IsRefutation, required}
use Rattle.problem_core.specs.Corners.{IsCorner, Point, StandsAt, place}
use Rattle.cert_core.specs.declared.by.By.{By}
use Rattle.cert_core.specs.Claims.{times_of}
use Rattle.cert_core.specs.Paths.{Path}
use Rattle.cert_core.specs.declared.stops.RunStop.{RunStop}
use Rattle.cert_core.specs.declared.stops.RunStop.TheVariants.{Conflict, Unfit, Spent, OutOfMemory}
use Rattle.problem_core.specs.Unfit.{IsUnfit, over_mark}
use Rattle.problem_core.specs.Changes.Paths.{IsPath, IsEndOf, last_marks}

-- ---- a conflict

-- the first names a row, the second one of a greater number or a stay
abbrev pub ComesBefore : RowName → RowName → Type 0
ComesBefore (Held a) (Held b) = a < b
ComesBefore (Held a) (StayOf b) = Unit {0}
ComesBefore (StayOf a) name = ⊥

-- multipliers that refute the required rows: only such rows are named, by rising number, none with 0, and the
-- multipliers have no common factor
pub record IsShownConflict (p : Problem) (by : List By) : Type 0 where
  pub refutes : IsRefutation p (λ id. times_of by (Held id))
  pub named : All (λ b. Any (λ r. b.row ≡ Held r.id) (required p)) by
  pub nonzero : All (λ b. b.times ≢ pos 0) by
  pub rising : AllPairs (λ a b. ComesBefore a.row b.row) by
  pub lowest : (k : ℕ) → All (λ b. k ∣ unsigned_abs b.times) by → k ≡ 1

-- ---- paths

-- a row of a lesser number, or a stay
abbrev pub IsBefore : ℕ → RowName → Type 0
IsBefore id (Held n) = n < id
IsBefore id (StayOf attr) = Unit {0}

-- the values of the inside marks of rows before this one, and of stays, are not negative
abbrev pub AreNonnegativeBefore : Problem → List Mark → ℕ → Type 0
AreNonnegativeBefore p at id = (x : Point) × StandsAt p at x
    × All (λ m. IsBefore id m.row → pos 0 ≤ℤ x.num (place m)) at

-- an attribute, a mark or a level
abbrev pub IsPlain : Quantity → Type 0
IsPlain (Plain what) = Unit {0}
IsPlain (Terms mark j) = ⊥
IsPlain (Rows level j) = ⊥
IsPlain (Shifts what j) = ⊥

-- a sum of a row's first terms or of a level's first rows
abbrev pub IsPartial : Quantity → Type 0
IsPartial (Plain what) = ⊥
IsPartial (Terms mark j) = Unit {0}
IsPartial (Rows level j) = Unit {0}
IsPartial (Shifts what j) = ⊥

-- `Begins rest at`: a path may begin at these marks while the rows `rest` are still to join

-- a lawful path to a corner at which the quantity does not fit. Before a run has begun it has no exchange;
-- and while rows are still to join, which is before a primal run alone, these are over whatever their values
-- are, and the sum is one of the first of them. Changed constants are those of a dual path
abbrev pub IsUnfitPath : Bool → Problem → List Row → (List Row → List Mark → Type 0) → Path → Quantity
    → Type 0
IsUnfitPath dual p old Begins path (Plain what) = Begins [] path.corner × IsPath dual p path.corner path.swaps
    × IsUnfit p old (last_marks path.corner path.swaps) (Plain what)
IsUnfitPath dual p old Begins path (Terms mark j) = (dual ≡ false) × (path.swaps ≡ [])
    × IsCorner p path.corner
    × ((r : Row) × (rest : List Row) × Begins (r ∷ rest) path.corner × (mark ≡ over_mark r.id)
    × AreNonnegativeBefore p path.corner r.id)
    × IsUnfit p old path.corner (Terms mark j)
IsUnfitPath dual p old Begins path (Rows level j) = (path.swaps ≡ []) × Begins [] path.corner
    × IsPath dual p path.corner [] × IsUnfit p old path.corner (Rows level j)
IsUnfitPath dual p old Begins path (Shifts what j) = (dual ≡ true) × (path.swaps ≡ []) × Begins [] path.corner
    × IsPath dual p path.corner [] × IsUnfit p old path.corner (Shifts what j)

-- a lawful path of as many exchanges as the budget, to a corner that is no end
pub record IsSpentPath (dual : Bool) (p : Problem) (Begins : List Row → List Mark → Type 0) (budget : ℕ)
    (path : Path) : Type 0 where
  pub begins : Begins [] path.corner
  pub lawful : IsPath dual p path.corner path.swaps
  pub count : length path.swaps ≡ budget
  pub no_end : IsEndOf dual p (last_marks path.corner path.swaps) → ⊥

-- why a change to the problem p stops, where these are the rows before: a conflict that is shown, a path of
-- the budget's length, or a path of no more exchanges to what does not fit
abbrev pub IsStopOf : Bool → Problem → List Row → (List Row → List Mark → Type 0) → ℕ → RunStop → Type 0
IsStopOf dual p old Begins budget (Conflict by) = IsShownConflict p by
IsStopOf dual p old Begins budget (Spent path) = (path.dual ≡ dual) × IsSpentPath dual p Begins budget path
IsStopOf dual p old Begins budget (Unfit at) = (at.path.dual ≡ dual) × (length at.path.swaps ≤ budget)
    × IsUnfitPath dual p old Begins at.path at.quantity
IsStopOf dual p old Begins budget OutOfMemory = Unit {0}
