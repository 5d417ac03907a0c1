-- Fractions with the other sign.
use Rattle.std.proofs.Common.{◌≡◌, ◌∙◌, sym, ap, subst, arith, ℤ, pos, negsuc, neg_ℤ, ◌*ℤ◌}
use borrow.Author.Differences.{ints}
use Rattle.frac_core.specs.Fraction.{Fraction, Fits, IsKept, IsLowest, IsRatio, IsUnfitRatio, sum_den, sum_num}
use Rattle.frac_core.proofs.Integers.{minus-one}
use Rattle.frac_core.proofs.Made.{same_fraction}
use Rattle.problem_core.specs.declared.parts.Side.TheVariants.{Under}
use Rattle.problem_core.specs.Window.{zero_fraction}
use Rattle.corner_exchange.specs.Swaps.Exchanges.{opposite}
use Rattle.corner_exchange.proofs.Basics.SumTurns.{turn, turn-fits, turn-lowest}
use Rattle.corner_table.proofs.Corners.NewTables.{zero_is as is-zero}

opposite-turn : (f : Fraction) → turn Under f ≡ opposite f
opposite-turn f = ap (λ (z : ℤ). (record { num = z; den = f.den })) (minus-one f.num)

pub opposite_lowest : (f : Fraction) → IsLowest f → IsLowest (opposite f)
opposite_lowest f low = subst IsLowest (opposite-turn f) (turn-lowest Under f low)

pub opposite_fits : (f : Fraction) → Fits f → Fits (opposite f)
opposite_fits f fits = subst Fits (opposite-turn f) (turn-fits Under f fits)

opposite-sum : (f : Fraction) → sum_num zero_fraction (negsuc 0) (pos 1) f ≡ neg_ℤ f.num
opposite-sum f = omega (arith, ints)

opposite-den : (f : Fraction) → sum_den zero_fraction (pos 1) f ≡ pos f.den
opposite-den f = omega (arith, ints)

pub opposite_is : (z f g : Fraction) (n d : ℤ) → z.num ≡ pos 0 → z.den ≡ 1 → n ≡ negsuc 0 → d ≡ pos 1 → IsLowest f → IsLowest g → IsRatio g (sum_num z n d f) (sum_den z d f) → g ≡ opposite f
opposite_is z f g n d num den n_is d_is low_f low_g ratio =
    let plain : IsRatio g (sum_num zero_fraction (negsuc 0) (pos 1) f) (sum_den zero_fraction (pos 1) f) =
    subst (λ (k : ℤ). IsRatio g (sum_num zero_fraction (negsuc 0) k f) (sum_den zero_fraction k f)) d_is
    (subst (λ (k : ℤ). IsRatio g (sum_num zero_fraction k d f) (sum_den zero_fraction d f)) n_is
    (subst (λ (u : Fraction). IsRatio g (sum_num u n d f) (sum_den u d f)) (is-zero z num den) ratio)) in
    same_fraction g (opposite f) low_g (opposite_lowest f low_f)
    (sym (ap (λ (k : ℤ). g.num *ℤ k) (opposite-den f)) ∙ plain ∙ ap (λ (k : ℤ). k *ℤ pos g.den) (opposite-sum f))

pub opposite_there : (z f : Fraction) (n d : ℤ) → z.num ≡ pos 0 → z.den ≡ 1 → n ≡ negsuc 0 → d ≡ pos 1 → IsKept f → IsUnfitRatio (sum_num z n d f) (sum_den z d f) → ⊥
opposite_there z f n d num den n_is d_is kept unfit =
    let plain : IsUnfitRatio (sum_num zero_fraction (negsuc 0) (pos 1) f) (sum_den zero_fraction (pos 1) f) =
    subst (λ (k : ℤ). IsUnfitRatio (sum_num zero_fraction (negsuc 0) k f) (sum_den zero_fraction k f)) d_is
    (subst (λ (k : ℤ). IsUnfitRatio (sum_num zero_fraction k d f) (sum_den zero_fraction d f)) n_is
    (subst (λ (u : Fraction). IsUnfitRatio (sum_num u n d f) (sum_den u d f)) (is-zero z num den) unfit)) in
    plain (opposite f) (opposite_lowest f kept.lowest)
    (ap (λ (k : ℤ). neg_ℤ f.num *ℤ k) (opposite-den f) ∙ sym (ap (λ (k : ℤ). k *ℤ pos f.den) (opposite-sum f))) (opposite_fits f kept.fits)
