-- The rows of a window, and the values that they fix.
use Rattle.std.specs.Prelude.{◌≡◌, ℕ, ◌<◌, List, [], ◌∷◌, ◌++◌, map, pos, ◌≤ℤ◌, All}
use Rattle.frac_core.specs.Fraction.{Fraction}
use Rattle.problem_core.specs.declared.parts.Rel.{Rel}
use Rattle.problem_core.specs.declared.parts.Rel.TheVariants.{Eq, Ge}
use Rattle.problem_core.specs.declared.parts.Stay.{Stay}
use Rattle.problem_core.specs.Layout.{Row}
use Rattle.problem_core.specs.declared.limits.TheConstants.{REQUIRED}

-- the fraction 0
abbrev pub zero_fraction : Fraction
zero_fraction = record { num = pos 0; den = 1 }

-- a problem's first four attributes are those of its window
abbrev pub window_left : ℕ
window_left = 1

abbrev pub window_top : ℕ
window_top = 2

abbrev pub window_width : ℕ
window_width = 3

abbrev pub window_height : ℕ
window_height = 4

-- the required row `attr rel c`
abbrev pub required_row : ℕ → ℕ → Rel → Fraction → Row
required_row id attr rel c = record {
  id = id;
  rank = REQUIRED;
  weight = 1;
  rel = rel;
  scale = 1;
  constant = c;
  terms = record { attr = attr; by = pos 1 } ∷ [];
}

-- left and top are 0, width and height at least 0
abbrev pub structural_rows : List Row
structural_rows = required_row 1 window_left Eq zero_fraction ∷ required_row 2 window_top Eq zero_fraction
    ∷ required_row 3 window_width Ge zero_fraction ∷ required_row 4 window_height Ge zero_fraction ∷ []

-- and width and height are as given
abbrev pub window_rows : Fraction → Fraction → List Row
window_rows w h = structural_rows
    ++ (required_row 5 window_width Eq w ∷ required_row 6 window_height Eq h ∷ [])

-- left and top with the value 0, width and height with those that are given
abbrev pub window_values : Fraction → Fraction → List (ℕ × Fraction)
window_values w h = (window_left, zero_fraction) ∷ (window_top, zero_fraction)
    ∷ (window_width, w) ∷ (window_height, h) ∷ []

-- the stays of left, top, width and height
abbrev pub AreWindowStays : List Stay → Type 0
AreWindowStays stays = (map (λ s. s.attr) stays
    ≡ window_left ∷ window_top ∷ window_width ∷ window_height ∷ []) × All (λ s. 0 < s.target.den) stays

-- a fraction that is at least 0, over a denominator above 0
abbrev pub IsSize : Fraction → Type 0
IsSize f = (pos 0 ≤ℤ f.num) × (0 < f.den)
