-- A term's shares of the attributes, as the code keeps them.
use Rattle.std.specs.Prelude.{◌≢◌, ℕ, ◌+◌, ◌*◌, ◌<◌, ◌≤◌, List, [], ◌∷◌, ◌*ℤ◌, unsigned_abs, All}
use Rattle.frac_core.specs.Fraction.{Fraction}
use Rattle.problem_core.specs.declared.parts.Term.{Term}
use Rattle.problem_core.specs.Layout.{coefficient}
use Rattle.problem_core.specs.Kept.{IsNumber}
use Rattle.compile_parts.specs.declared.shares.AttrSum.{AttrSum}
use Rattle.compile_parts.specs.declared.shares.EdgeAndSize.{EdgeAndSize}
use Rattle.compile_parts.specs.declared.shares.Share.{Share}

-- the scale is 1 or 2, and the factors are at most the scale, and not both 0
pub record IsAttrSum (s : AttrSum) : Type 0 where
  pub above : 0 < s.scale
  pub few : s.scale ≤ 2
  pub edge : s.edge ≤ s.scale
  pub size : s.size ≤ s.scale
  pub some : 0 < s.edge + s.size

-- the edge and the size as terms
abbrev pub form : EdgeAndSize → List Term
form d = d.edge ∷ d.size ∷ []

-- how often the share has the attribute v
abbrev pub share_fraction : Share → ℕ → Fraction
share_fraction s v = record { num = s.by.num *ℤ coefficient v (form s.of); den = s.by.den * 2 }

-- the edge and the size have attributes' numbers, and factors of at most 2 in size
pub record AreHalves (d : EdgeAndSize) : Type 0 where
  pub edge_number : IsNumber d.edge.attr
  pub size_number : IsNumber d.size.attr
  pub edge_small : unsigned_abs d.edge.by ≤ 2
  pub size_small : unsigned_abs d.size.by ≤ 2

-- v isn't among the attributes
abbrev pub IsOff : List ℕ → ℕ → Type 0
IsOff attrs v = All (λ a. a ≢ v) attrs
