-- A value with the other sign.
use Rattle.std.proofs.Common.{◌≡◌, ℕ, ◌<◌, List, [], ◌∷◌, map, ℤ, pos, refl, sym, subst, All, Result, Ok, Err, IfOk, OnErr}
use Rattle.std.specs.List.{AllByRecursion as Each}
use Rattle.std.proofs.lemmas.List.Elements.{All-from_recursion, recursion_from_All}
use Rattle.frac_core.specs.Fraction.{Fraction, IsFitting, IsKept, IsLowest, IsRatio, IsUnfitRatio}
use Rattle.frac_core.specs.declared.frac.TheConstants.{PART_BOUND}
use Rattle.problem_core.specs.declared.parts.Side.{Side}
use Rattle.corner_lines.specs.Levels.StayLevels.{turned}
use Rattle.corner_lines.proofs.LevelRows.StayRows.{turned-size}
use Rattle.corner_lines.proofs.Costs.StayFits.{turned-lowest, turned-fits as turned_fits}
use Rattle.frac_core.proofs.Made.{same_fraction}

pub turned_fitting : (side : Side) (z : ℤ) → IsFitting z → IsFitting (turned side z)
turned_fitting side z fits = subst (λ (n : ℕ). n < PART_BOUND) (sym (turned-size side z)) fits

made : (side : Side) (value f : Fraction) → IsKept value → IsLowest f → IsRatio f (turned side value.num) (pos value.den) → f ≡ record { num = turned side value.num; den = value.den }
made side value f kept low ratio = same_fraction f (record { num = turned side value.num; den = value.den }) low (turned-lowest side value kept.lowest) ratio

pub made_ok : {E : Type 0} (side : Side) (value : Fraction) (r : Result Fraction E) → IsKept value → IfOk r IsLowest → IfOk r (λ f. IsRatio f (turned side value.num) (pos value.den))
    → IfOk r (λ f. f ≡ record { num = turned side value.num; den = value.den })
made_ok side value (Ok f) kept low ratio = made side value f kept low ratio
made_ok side value (Err e) kept low ratio = low

pub none_unfit : {E : Type 0} (side : Side) (value : Fraction) (r : Result Fraction E) → IsKept value → OnErr r (IsUnfitRatio (turned side value.num) (pos value.den)) → OnErr r ⊥
none_unfit side value (Ok f) kept unfit = unfit
none_unfit side value (Err e) kept unfit = unfit (record { num = turned side value.num; den = value.den }) (turned-lowest side value kept.lowest) refl (turned_fits side value kept.fits)

each-turned : (side : Side) (zs : List ℤ) → Each IsFitting zs → Each IsFitting (map (turned side) zs)
each-turned side [] h = tt
each-turned side (z ∷ zs) h = (turned_fitting side z h.0, each-turned side zs h.1)

pub all_turned_fit : (side : Side) (zs : List ℤ) → All IsFitting zs → All IsFitting (map (turned side) zs)
all_turned_fit side zs h = All-from_recursion IsFitting (map (turned side) zs) (each-turned side zs (recursion_from_All IsFitting zs h))
