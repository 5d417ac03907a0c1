-- Where changes begin, and why they stop.
use Rattle.std.specs.Prelude.{◌≡◌, ◌+◌, ◌^◌, ℕ, Bool, List, [], ◌∷◌, length, ◌≤◌, ◌++◌}
use Rattle.problem_core.specs.Layout.{Problem, Row}
use Rattle.problem_core.specs.Kept.{IsWhole}
use Rattle.problem_core.specs.Corners.{IsCorner, SameMarks}
use Rattle.problem_core.specs.declared.parts.Mark.{Mark}
use Rattle.problem_core.specs.declared.stops.Quantity.TheVariants.{Terms}
use Rattle.problem_core.specs.Unfit.{IsUnfit}
use Rattle.problem_core.specs.Changes.Begins.{BeginsWith}
use Rattle.corner_laws.specs.Laws.{AllFit, Anywhere, IsConflict}
use Rattle.cert_core.specs.Stops.{IsPlain, IsStopOf}
use Rattle.cert_core.specs.declared.stops.RunStop.{RunStop}
use Rattle.problem_core.specs.declared.stops.Quantity.{Quantity}
use Rattle.corner_laws.specs.Examples.{pair, over_row, over_stay}

-- a change begins at one corner: the one that was there fixes the attributes, and so which mark of each new
-- row is not negative
abbrev pub BeginsUnique : Type 0
BeginsUnique = (p : Problem) (old joined rest : List Row) (kept a b : List Mark) → IsWhole p
    → p.rows ≡ old ++ (joined ++ rest) → IsCorner (record { rows = old; stays = p.stays }) kept → IsCorner p a
    → IsCorner p b → BeginsWith p kept joined rest a → BeginsWith p kept joined rest b → SameMarks a b

-- where no row is new and no constant has changed, a stop names a whole writing alone
abbrev pub PlainAlone : Type 0
PlainAlone = (p : Problem) (at : List Mark) (q : Quantity) → IsUnfit p p.rows at q → IsPlain q

-- a sum of terms that fits everywhere, told at a corner with a later row outside, is not what does not fit
abbrev pub EarlyTermsAreRefused : Type 0
EarlyTermsAreRefused = (j : ℕ) → IsUnfit pair [] (over_row ∷ over_stay ∷ []) (Terms over_row j) → ⊥

-- where each quantity fits at each corner, and the budget is at least 3^N, a change stops at a conflict
-- alone, or for want of memory
abbrev pub StopsAreConflicts : Type 0
StopsAreConflicts = (dual : Bool) (p : Problem) (old : List Row) (budget : ℕ) (stop : RunStop) → IsWhole p
    → AllFit p old → 3 ^ (length p.rows + length p.stays) ≤ budget → IsStopOf dual p old Anywhere budget stop
    → IsConflict stop
