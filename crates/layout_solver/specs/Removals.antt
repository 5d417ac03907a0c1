-- Rows and attributes that leave.
use Rattle.std.specs.Prelude.{◌≡◌, ◌≢◌, ◌⊎◌, ◌+◌, ℕ, false, List, [], ◌∷◌, ◌++◌, take}
use Rattle.std.specs.Prelude.{All, AllPairs, Any, Contains, Bool, filter, nat_eq, not}
use Rattle.std.specs.List.{list_any}
use Rattle.problem_core.specs.declared.parts.Stay.{Stay}
use Rattle.problem_core.specs.declared.parts.Mark.{Mark}
use Rattle.problem_core.specs.Layout.{HasStay, Problem, Row}
use Rattle.problem_core.specs.Corners.{NoNegativeValue}
use Rattle.problem_core.specs.Changes.Begins.{ComesFrom}
use Rattle.cert_core.specs.declared.stops.UnfitPath.{UnfitPath}
use Rattle.cert_core.specs.Paths.{Path}
use Rattle.corner_ends.specs.Runs.{FromHere, IsRun}
use Rattle.cert_core.specs.declared.stops.RunStop.{RunStop}
use Rattle.cert_core.specs.declared.stops.RunStop.TheVariants.{Unfit as UnfitRun, Spent as SpentRun}
use Rattle.cert_core.specs.Stops.{IsStopOf}
use Rattle.corner_view.specs.Seen.{CornerView, in_order, IsKeptCorner}
use Rattle.corner_lines.specs.Removals.{without_attr, without_row}
use Rattle.marker_remove.specs.Freed.{DoStand}
use Rattle.layout_solver.specs.declared.request.RequestStop.{RequestStop}
use Rattle.layout_solver.specs.declared.request.RequestStop.TheVariants.{Conflict, Unfit, Spent, OutOfMemory}
use Rattle.layout_solver.specs.Layouts.{Layout, stays_at}

-- the problem without these rows, one after the other
abbrev pub without_rows : List ℕ → Problem → Problem
without_rows [] p = p
without_rows (id ∷ ids) p = without_rows ids (without_row id p)

-- the same without these attributes
abbrev pub without_attrs : List ℕ → Problem → Problem
without_attrs [] p = p
without_attrs (attr ∷ attrs) p = without_attrs attrs (without_attr attr p)

-- the number is one of these
abbrev pub is_among : List ℕ → ℕ → Bool
is_among numbers n = list_any (λ k. nat_eq k n) numbers

-- the rows that have none of these numbers
abbrev pub other_rows : List ℕ → List Row → List Row
other_rows ids rows = filter (λ r. not (is_among ids r.id)) rows

-- the stays of other attributes
abbrev pub other_stays : List ℕ → List Stay → List Stay
other_stays attrs stays = filter (λ s. not (is_among attrs s.attr)) stays

-- what leaves: rows and attributes by number
pub record Leaving : Type 0 where
  pub rows : List ℕ
  pub attrs : List ℕ

-- the problem without all that leaves
abbrev pub without : Leaving → Problem → Problem
without l p = without_attrs l.attrs (without_rows l.rows p)

-- the problem has them, each is named once, and a row that names a leaving attribute leaves
pub record CanLeave (l : Leaving) (p : Problem) : Type 0 where
  pub held : All (λ id. Any (λ r. r.id ≡ id) p.rows) l.rows
  pub stays : All (HasStay p.stays) l.attrs
  pub rows_apart : AllPairs (λ a b. a ≢ b) l.rows
  pub attrs_apart : AllPairs (λ a b. a ≢ b) l.attrs
  pub covered : All (λ r. Any (λ t. Contains l.attrs t.attr) r.terms → Contains l.rows r.id) p.rows

-- where a path may begin once these rows have gone: at the marks that were kept, after exchanges that bring
-- over marks of leaving rows in for stays' marks, without the marks of the rows that have gone
abbrev pub FromRemoved : Problem → List Mark → List ℕ → List ℕ → Problem → List Row → List Mark → Type 0
FromRemoved p kept leaving gone q rest at = (rest ≡ []) × ComesFrom p kept leaving gone at
    × (at ≡ in_order q at)

-- a quantity does not fit once the others have gone, in their order, while these and the attributes are still
-- held, and a mark of the first of these may have come in: the path has no exchange
pub record IsHeldPath (p : Problem) (kept : List Mark) (leaving still : List ℕ)
    (at : UnfitPath) : Type 0 where
  pub gone : List ℕ
  pub in_order : gone ++ still ≡ leaving
  pub stop : IsStopOf false (without_rows gone p) (without_rows gone p).rows
      (FromRemoved p kept (gone ++ take 1 still) gone (without_rows gone p)) 0 (UnfitRun at)

-- a stop of the run once all have gone
abbrev pub IsLeftStop : Problem → List Mark → Leaving → ℕ → RunStop → Type 0
IsLeftStop p kept l budget stop = IsStopOf false (without l p) (without l p).rows
    (FromRemoved p kept l.rows l.rows (without l p)) budget stop

-- why they cannot leave the problem at the marks that were kept: never a conflict. If no row is named as
-- still held, the attributes have left too
abbrev pub IsRemoveStop : Problem → List Mark → Leaving → ℕ → RequestStop → Type 0
IsRemoveStop p kept l budget (Conflict by) = ⊥
IsRemoveStop p kept l budget (Unfit still at) =
    ((still.items ≢ []) × IsHeldPath p kept l.rows still.items at)
    ⊎ ((still.items ≡ []) × IsLeftStop p kept l budget (UnfitRun at))
IsRemoveStop p kept l budget (Spent path) = IsLeftStop p kept l budget (SpentRun path)
IsRemoveStop p kept l budget OutOfMemory = Unit {0}

-- a lawful path within the budget from where they have left to these marks
abbrev pub HasRemoved : Problem → List Mark → Leaving → ℕ → List Mark → Type 0
HasRemoved p kept l budget last = (path : Path) × IsRun false (without l p)
    (FromRemoved p kept l.rows l.rows (without l p) []) budget last path

-- the same problem, with the stays moved to the values before
abbrev pub stood : Layout → Problem
stood old = record { rows = old.problem.rows; stays = stays_at old.values }

-- without these rows and attributes, and the stays moved to the values before
abbrev pub with_removed : Layout → Leaving → Problem
with_removed old l = without l (stood old)

-- ---- on the way

-- of the leaving rows these have gone from the problem at the marks that were kept, no value is negative, and
-- the stays stand at the values
pub record HaveGone (p : Problem) (kept : List Mark) (leaving gone : List ℕ) (c : CornerView) : Type 0 where
  pub problem : c.problem ≡ without_rows gone p
  pub comes : ComesFrom p kept leaving gone c.marks
  pub values : NoNegativeValue c.problem c.marks
  pub standing : DoStand c.problem c.marks

-- so many of these rows have gone, the first ones, and no other's mark was brought in; of the problem and the
-- marks before that, this holds
abbrev pub AfterGone : List ℕ → ℕ → CornerView → (Problem → List Mark → Type 0) → Type 0
AfterGone rows gone c holds = (p : Problem) (kept : List Mark) → IsKeptCorner p kept
    → AllPairs (λ a b. a ≢ b) rows → HaveGone p kept (take gone rows) (take gone rows) c → holds p kept

-- the same, and a mark of the next row was brought in too
abbrev pub AfterFreed : List ℕ → ℕ → CornerView → (Problem → List Mark → Type 0) → Type 0
AfterFreed rows gone c holds = (p : Problem) (kept : List Mark)
    → HaveGone p kept (take (gone + 1) rows) (take gone rows) c → holds p kept

-- the stop names these rows as still held, and this path
abbrev pub IsUnfitOf : List ℕ → UnfitPath → RequestStop → Type 0
IsUnfitOf still at (Conflict by) = ⊥
IsUnfitOf still at (Unfit held other) = (held.items ≡ still) × (other ≡ at)
IsUnfitOf still at (Spent path) = ⊥
IsUnfitOf still at OutOfMemory = Unit {0}

-- a stop on the way
abbrev pub IsStillStop : Problem → List Mark → List ℕ → RequestStop → Type 0
IsStillStop p kept leaving (Conflict by) = ⊥
IsStillStop p kept leaving (Unfit still at) = IsHeldPath p kept leaving still.items at
IsStillStop p kept leaving (Spent path) = ⊥
IsStillStop p kept leaving OutOfMemory = Unit {0}

-- a stop of the run from these marks, with no row still held
abbrev pub IsEndStop : Problem → List Mark → ℕ → RequestStop → Type 0
IsEndStop p at budget (Conflict by) = ⊥
IsEndStop p at budget (Unfit still path) = (still.items ≡ [])
    × IsStopOf false p p.rows (FromHere at) budget (UnfitRun path)
IsEndStop p at budget (Spent path) = IsStopOf false p p.rows (FromHere at) budget (SpentRun path)
IsEndStop p at budget OutOfMemory = Unit {0}
