-- What holds of runs.
use Rattle.std.specs.Prelude.{◌≡◌, ℕ, true, false, List, [], ◌∷◌, ◌++◌, ℤ, pos, ◌≤ℤ◌, All}
use Rattle.problem_core.specs.declared.parts.Mark.{Mark}
use Rattle.problem_core.specs.Layout.{Problem, coefficient, lines}
use Rattle.problem_core.specs.Kept.{IsWhole}
use Rattle.problem_core.specs.Certificates.{IsLexNonnegative}
use Rattle.problem_core.specs.Corners.{HasNegativeColumn, IsCorner, IsIn, IsLexNegative, NoNegativeColumn}
use Rattle.problem_core.specs.Corners.{NoNegativeValue, SameMarks, Swap, marks_of, place}
use Rattle.problem_core.specs.Changes.Paths.{IsPath, NoNegativeRequired, last_marks}
use Rattle.problem_core.specs.Rays.{HasRays, IsRay}
use Rattle.corner_laws.specs.Laws.{IsMarkAt}
use Rattle.corner_laws.specs.Sums.{AreReducedAt}
use Rattle.corner_laws.specs.Runs.{AreDualSwaps, AreRunSwaps, IsDualSwap, IsRunSwap, Writes, Writing}
use Rattle.corner_laws.specs.Runs.{other_mark}

-- the exchanges of a run are a lawful path: no value turns negative, and no corner comes twice
abbrev pub RunIsPath : Type 0
RunIsPath = (p : Problem) (first : List Mark) (swaps : List Swap) → IsWhole p → IsCorner p first
    → HasRays p first → NoNegativeValue p first → AreRunSwaps p first first swaps
    → IsPath false p first swaps

-- a run grows by one exchange more at its last corner
abbrev pub RunGrows : Type 0
RunGrows = (p : Problem) (first at : List Mark) (swaps : List Swap) (s : Swap) → AreRunSwaps p first at swaps
    → IsRunSwap p first (last_marks at swaps) s → AreRunSwaps p first at (swaps ++ s ∷ [])

-- the order of the marks at which the exchange is made is free
abbrev pub OrderIsFree : Type 0
OrderIsFree = (p : Problem) (first at other : List Mark) (s : Swap) → SameMarks at other
    → IsRunSwap p first at s → IsRunSwap p first other s

-- where a mark with a negative column grows, and no other outside mark moves, an inside one falls
abbrev pub SomeMarkFalls : Type 0
SomeMarkFalls = (p : Problem) (at : List Mark) (enter : Mark) (ray : ℕ → ℤ) → IsWhole p
    → HasNegativeColumn p at enter → IsRay p at (place enter) ray
    → All (λ m. pos 0 ≤ℤ ray (place m)) at → ⊥

-- ---- columns by the reduced costs of all levels

-- the reduced costs of each level
abbrev pub AreReduced : Problem → List Mark → (ℕ → ℕ → ℤ) → Type 0
AreReduced p at reduced = (level : ℕ) → AreReducedAt p at level (reduced level)

-- a mark's column is negative where its reduced costs are, strongest level first
abbrev pub NegativeByReduced : Type 0
NegativeByReduced = (p : Problem) (at : List Mark) (reduced : ℕ → ℕ → ℤ) (m : Mark) → IsWhole p
    → AreReduced p at reduced → IsMarkAt p (place m) → IsLexNegative (λ level. reduced level (place m))
    → HasNegativeColumn p at m

-- no column is negative where no mark's reduced costs are
abbrev pub NoneNegativeByReduced : Type 0
NoneNegativeByReduced = (p : Problem) (at : List Mark) (reduced : ℕ → ℕ → ℤ) → AreReduced p at reduced
    → All (λ m. IsLexNonnegative (λ level. reduced level (place m))) (marks_of (lines p))
    → NoNegativeColumn p at

-- no column is negative at the level of the required rows where no reduced cost is below 0 there
abbrev pub RequiredByReduced : Type 0
RequiredByReduced = (p : Problem) (at : List Mark) (reduced : ℕ → ℕ → ℤ) → AreReduced p at reduced
    → All (λ m. pos 0 ≤ℤ reduced 0 (place m)) (marks_of (lines p)) → NoNegativeRequired p at

-- ---- dual runs

-- the exchanges of a dual run are a lawful path: no column turns negative, and no corner comes twice
abbrev pub DualRunIsPath : Type 0
DualRunIsPath = (p : Problem) (at : List Mark) (swaps : List Swap) → IsWhole p → IsCorner p at → HasRays p at
    → NoNegativeColumn p at → AreDualSwaps p at swaps → IsPath true p at swaps

-- a dual run grows by one exchange more at its last corner
abbrev pub DualRunGrows : Type 0
DualRunGrows = (p : Problem) (at : List Mark) (swaps : List Swap) (s : Swap) → AreDualSwaps p at swaps
    → IsDualSwap p (last_marks at swaps) s → AreDualSwaps p at (swaps ++ s ∷ [])

-- the order of the marks at which the exchange is made is free
abbrev pub DualOrderIsFree : Type 0
DualOrderIsFree = (p : Problem) (at other : List Mark) (s : Swap) → SameMarks at other → IsDualSwap p at s
    → IsDualSwap p other s

-- with an inside mark the other one of its line grows as much: so a mark can always enter
abbrev pub OtherMarkGrows : Type 0
OtherMarkGrows = (p : Problem) (at : List Mark) (m : Mark) (w : Writing) → IsWhole p → IsCorner p at
    → IsIn (place m) at → Writes p at (place m) w
    → (IsIn (place (other_mark m)) at → ⊥) × (coefficient (place (other_mark m)) w.form ≡ pos w.scale)
