-- The values of a row's attributes over a common denominator.
use Rattle.std.specs.Prelude.{◌≡◌, ℕ, ◌/◌, ◌<◌, cond, nat_eq, List, [], ◌∷◌, map, ℤ, pos, ◌*ℤ◌}
use Rattle.std.specs.Prelude.{unsigned_abs, All}
use Rattle.std.specs.Int.{◌∣◌}
use Rattle.std.specs.List.{Any}
use Rattle.frac_core.specs.Fraction.{Fraction}
use Rattle.problem_core.specs.declared.limits.TheConstants.{GAP_ROOM}
use Rattle.problem_core.specs.declared.parts.Term.{Term}
use Rattle.problem_core.specs.Layout.{Row, sum_of}
use Rattle.problem_core.specs.Window.{zero_fraction}

-- one of the values is the attribute's
abbrev pub HasValue : List (ℕ × Fraction) → ℕ → Type 0
HasValue values attr = Any (λ v. v.0 ≡ attr) values

-- the attribute's value, 0 where it has none
abbrev pub value_of : List (ℕ × Fraction) → ℕ → Fraction
value_of [] attr = zero_fraction
value_of (v ∷ values) attr = cond (nat_eq v.0 attr) v.1 (value_of values attr)

-- a fraction times a multiple of its denominator
abbrev pub times_common : Fraction → ℕ → ℤ
times_common f d = f.num *ℤ pos (d / f.den)

-- the fraction has room over the common denominator d
abbrev pub HasRoomOver : ℕ → Fraction → Type 0
HasRoomOver d f = (f.den ∣ d) × (unsigned_abs (times_common f d) < GAP_ROOM)

-- the values of the row's attributes have a common denominator for which a gap has room, and each of them
-- times it is as small
abbrev pub HasGapRoom : Row → List (ℕ × Fraction) → Type 0
HasGapRoom r values = (d : ℕ) × (0 < d) × (d < GAP_ROOM)
    × All (λ t. HasRoomOver d (value_of values t.attr)) r.terms

-- the denominators of the values of the terms' attributes
abbrev pub value_dens : List (ℕ × Fraction) → List Term → List ℕ
value_dens values terms = map (λ t. (value_of values t.attr).den) terms

-- the sum of the terms at the values, times the common denominator d
abbrev pub scaled_sum : List (ℕ × Fraction) → ℕ → List Term → ℤ
scaled_sum values d terms = sum_of (λ t. t.by *ℤ times_common (value_of values t.attr) d) terms
