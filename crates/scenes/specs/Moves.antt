-- The views that have attributes.
use Rattle.std.specs.Prelude.{◌≡◌, ℕ, ◌-◌, ◌/◌, List, All, Contains}

-- the number of the view that has this attribute, which isn't 0
abbrev pub owner : ℕ → ℕ
owner attr = (attr - 1) / 4

-- these are the views that have these attributes, and no others
pub record AreOwners (attrs views : List ℕ) : Type 0 where
  pub has : (attr : ℕ) → Contains attrs attr → Contains views (owner attr)
  pub own : All (λ id. (attr : ℕ) × Contains attrs attr × (owner attr ≡ id)) views
