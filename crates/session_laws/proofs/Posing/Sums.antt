-- Sums, scales and constants of denominators above 0 are one alone.
use Rattle.std.proofs.Common.{◌≡◌, ◌∙◌, ℕ, ◌<◌, List, [], ◌∷◌, ℤ, pos, neg_ℤ, ◌*ℤ◌, All, sym, arith}
use Rattle.std.proofs.lemmas.List.Elements.{All-head, All-tail}
use borrow.Author.Differences.{ints}
use Rattle.frac_core.specs.Fraction.{Fraction}
use Rattle.frac_core.proofs.Fitting.{same-value}
use Rattle.frac_core.proofs.Integers.{cancel_mul}
use Rattle.frac_core.proofs.Numbers.{product-above}
use Rattle.compile_parts.specs.Fractions.{IsConstant, IsOver, IsScale, total}

pub total-above : {A : Type 0} (f : A → Fraction) (xs : List A) → All (λ x. 0 < (f x).den) xs → 0 < (total f xs).den
total-above f [] above = omega arith
total-above {A = A} f (x ∷ xs) above =
    product-above (f x).den (total f xs).den (All-head (λ (a : A). 0 < (f a).den) x xs above) (total-above f xs (All-tail (λ (a : A). 0 < (f a).den) x xs above))

-- there is one least number
pub one-scale : (b : ℕ → Fraction) (k j : ℕ) → IsScale b k → IsScale b j → k ≡ j
one-scale b k j is also = omega (arith, is.least j also.above also.whole, also.least k is.above is.whole)

pub one-over : (k : ℕ) (f : Fraction) (x y : ℤ) → 0 < f.den → IsOver k f x → IsOver k f y → x ≡ y
one-over k f x y above is also = cancel_mul f.den x y above (turn x ∙ is ∙ sym also ∙ sym (turn y))
  where
    turn : (z : ℤ) → pos f.den *ℤ z ≡ z *ℤ pos f.den
    turn z = omega (arith, ints)

pub one-constant : (k : ℕ) (e c d : Fraction) → 0 < e.den → IsConstant k e c → IsConstant k e d → c ≡ d
one-constant k e c d above is also =
    same-value c d (neg_ℤ (pos k *ℤ e.num)) (pos e.den) (omega (arith, ints, above)) is.lowest also.lowest is.value also.value
