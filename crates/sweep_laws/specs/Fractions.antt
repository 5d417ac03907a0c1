-- Which fraction is less, and what lies between two.
use Rattle.std.specs.Prelude.{◌⊎◌, ◌*◌, pos, negsuc, ◌*ℤ◌, ◌≤ℤ◌, ◌<ℤ◌}
use Rattle.frac_core.specs.Fraction.{Fraction, IsKept, IsRatio, sum_num}

-- the first is no greater
abbrev pub IsNoMore : Fraction → Fraction → Type 0
IsNoMore a b = (a.num *ℤ pos b.den) ≤ℤ (b.num *ℤ pos a.den)

-- the first is less
abbrev pub IsLess : Fraction → Fraction → Type 0
IsLess a b = (a.num *ℤ pos b.den) <ℤ (b.num *ℤ pos a.den)

-- w is one of the two or between them, whichever of them is the greater
abbrev pub IsBetween : Fraction → Fraction → Fraction → Type 0
IsBetween a b w = (IsNoMore a w × IsNoMore w b) ⊎ (IsNoMore b w × IsNoMore w a)

-- what `to` is above `from`
abbrev pub difference : Fraction → Fraction → Fraction
difference to from = record { num = sum_num to (negsuc 0) (pos 1) from; den = to.den * from.den }

-- `from` and `rate` times `by`
abbrev pub along : Fraction → Fraction → Fraction → Fraction
along from rate by = record {
  num = sum_num from rate.num (pos rate.den) by;
  den = from.den * (rate.den * by.den);
}

-- the difference fits
abbrev pub IsFittingDifference : Fraction → Fraction → Type 0
IsFittingDifference to from = (f : Fraction) × IsKept f
    × IsRatio f (difference to from).num (pos (difference to from).den)

-- a part of the fraction's lowest terms doesn't fit
abbrev pub IsTooLarge : Fraction → Type 0
IsTooLarge f = (g : Fraction) → IsKept g → IsRatio g f.num (pos f.den) → ⊥
