-- What has other values than at another time.
use Rattle.std.specs.Prelude.{◌≡◌, ◌≢◌, ◌⊎◌, ℕ, List, [], ◌∷◌, All, Contains, None, Some}
use Rattle.std.specs.declared.option.Option.{Option}
use Rattle.frac_core.specs.Fraction.{Fraction, IsLowest}
use Rattle.problem_core.specs.Layout.{HasStay}
use Rattle.problem_core.specs.Corners.{attr_column}
use Rattle.corner_view.specs.Seen.{HasValueAt, Scene}

-- ---- of anything that may have a value

-- this is the value that it has there, or it has none
abbrev pub Shows : {S F : Type 0} → (S → ℕ → F → Type 0) → S → ℕ → Option F → Type 0
Shows Has s x (Some f) = Has s x f
Shows {F = F} Has s x None = (f : F) → Has s x f → ⊥

-- it has another value in the new one than in the old one; one that came or left is another
abbrev pub HasMoved : {S F : Type 0} → (S → ℕ → F → Type 0) → S → S → ℕ → Type 0
HasMoved {F = F} Has old new x =
    (was : Option F) × (is : Option F) × Shows Has old x was × Shows Has new x is × (was ≢ is)

-- it has the same value in both, or none in both
abbrev pub HasStayed : {S F : Type 0} → (S → ℕ → F → Type 0) → S → S → ℕ → Type 0
HasStayed {F = F} Has old new x = (it : Option F) × Shows Has old x it × Shows Has new x it

-- these have moved, and all others have stayed
pub record AreMoved {S F : Type 0} (Has : S → ℕ → F → Type 0) (old new : S) (xs : List ℕ) : Type 0 where
  pub moved : All (HasMoved Has old new) xs
  pub others : (x : ℕ) → Contains xs x ⊎ HasStayed Has old new x

-- so it is since the newest of those before, of which there is one
abbrev pub AreMovedSince : {S F : Type 0} → (S → ℕ → F → Type 0) → List S → S → List ℕ → Type 0
AreMovedSince Has [] new xs = ⊥
AreMovedSince Has (old ∷ rest) new xs = AreMoved Has old new xs

-- ---- of attributes

-- the attribute's value at the corner, in lowest terms
abbrev pub HasValueIn : Scene → ℕ → Fraction → Type 0
HasValueIn s attr f = HasStay s.problem.stays attr × IsLowest f
    × HasValueAt s.problem s.marks (attr_column attr) f
