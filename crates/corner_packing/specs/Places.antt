-- The places of the first slots, while each is given its own.
use Rattle.std.specs.Prelude.{◌≡◌, ℕ, ◌+◌, ◌<◌, ◌≤◌, List, length}
use Rattle.row_core.specs.Renames.{place_in}

-- the places of the slots below i: those that are kept, the first ones among them, get all below the count
pub record AreDense (IsHeld : ℕ → Type 0) (first i : ℕ) (places : List ℕ) (count : ℕ) : Type 0 where
  pub length_is : length places ≡ i
  pub own : (w : ℕ) → w < first → w < i → place_in places w ≡ w
  pub none : (w : ℕ) → w < i → (IsHeld w → ⊥) → place_in places w ≡ 0
  pub high : (w : ℕ) → w < i → first ≤ w → IsHeld w → first ≤ place_in places w
  pub within : (w : ℕ) → w < i → IsHeld w → place_in places w < count
  pub low : (w : ℕ) → place_in places w ≤ w
  pub rising : (v w : ℕ) → w < i → v < w → IsHeld v → IsHeld w → place_in places v < place_in places w
  pub next : (w : ℕ) → w + 1 < i → IsHeld w → IsHeld (w + 1)
      → place_in places (w + 1) ≡ place_in places w + 1
  pub last : (w : ℕ) → w + 1 ≡ i → IsHeld w → count ≡ place_in places w + 1
  pub onto : (v : ℕ) → v < count → (w : ℕ) × (w < i) × IsHeld w × (place_in places w ≡ v)
  pub few : count ≤ i
  pub all : i ≤ first → count ≡ i
  pub above : first ≤ i → first ≤ count
