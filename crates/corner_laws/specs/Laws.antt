-- What stands on both sides of an exchange, in words without a representation.
use Rattle.std.specs.Prelude.{◌≡◌, ℕ, List, map, ℤ, pos, ◌+ℤ◌, ◌*ℤ◌, ◌≤ℤ◌, ◌<ℤ◌, All, Contains}
use Rattle.problem_core.specs.declared.parts.Mark.{Mark}
use Rattle.problem_core.specs.declared.stops.Quantity.{Quantity}
use Rattle.cert_core.specs.declared.stops.RunStop.{RunStop}
use Rattle.cert_core.specs.declared.stops.RunStop.TheVariants.{Conflict, Unfit, Spent, OutOfMemory}
use Rattle.problem_core.specs.Unfit.{IsUnfit}
use Rattle.problem_core.specs.declared.parts.Side.{Side}
use Rattle.problem_core.specs.Layout.{Problem, Row, lines}
use Rattle.problem_core.specs.Certificates.{Multipliers}
use Rattle.problem_core.specs.Corners.{IsCorner, Point, StandsAt, column, marks_of, one_column, place}
use Rattle.problem_core.specs.Corners.{place_of}

-- the mark's column is 0 at all levels
abbrev pub HasZeroColumn : Problem → Multipliers → ℕ → Type 0
HasZeroColumn p m c = (side : Side) → All (λ l. place_of l.name side ≡ c → (level : ℕ)
    → column m side l level ≡ pos 0) (lines p)

-- the column c is that of a mark of the problem
abbrev pub IsMarkAt : Problem → ℕ → Type 0
IsMarkAt p c = Contains (map place (marks_of (lines p))) c

-- each quantity fits at each corner of the problem, where these are the rows before
abbrev pub AllFit : Problem → List Row → Type 0
AllFit p old = (at : List Mark) (q : Quantity) → IsCorner p at → IsUnfit p old at q → ⊥

-- a conflict, or want of memory
abbrev pub IsConflict : RunStop → Type 0
IsConflict (Conflict by) = Unit {0}
IsConflict (Unfit at) = ⊥
IsConflict (Spent path) = ⊥
IsConflict OutOfMemory = Unit {0}

-- a path may begin at any marks
abbrev pub Anywhere : List Row → List Mark → Type 0
Anywhere rest at = Unit {0}

-- of the inside marks that fall where the entering mark grows, this one comes to 0 first
abbrev pub IsFirstDown : List Mark → (ℕ → ℤ) → (ℕ → ℤ) → ℕ → Type 0
IsFirstDown at x ray leave = (ray leave <ℤ pos 0)
    × All (λ m. ray (place m) <ℤ pos 0 → (x (place m) *ℤ ray leave) ≤ℤ (x leave *ℤ ray (place m))) at

-- ---- quantities of a point

-- a combination of two points has that of their quantities
abbrev pub IsLinear : ((ℕ → ℤ) → ℤ) → Type 0
IsLinear quantity = (a b : ℤ) (x y : ℕ → ℤ)
    → quantity (λ v. a *ℤ x v +ℤ b *ℤ y v) ≡ a *ℤ quantity x +ℤ b *ℤ quantity y

-- it has one value at the corner
abbrev pub IsFixedAt : Problem → List Mark → ((ℕ → ℤ) → ℤ) → Type 0
IsFixedAt p at quantity = (x y : Point) → StandsAt p at x → StandsAt p at y
    → quantity x.num *ℤ y.num one_column ≡ quantity y.num *ℤ x.num one_column
