-- Sums of whole numbers.
use Rattle.std.proofs.Common.{◌≡◌, ◌∙◌, ℕ, sym, ap, ap₂, ℤ, pos, ◌+ℤ◌, ◌*ℤ◌}
use Rattle.frac_core.specs.Fraction.{Fraction, sum_den, sum_num}
use Rattle.frac_core.proofs.Numbers.{times-one as times_one}

product_one : (d : ℤ) (k : ℕ) → d ≡ pos 1 → k ≡ 1 → d *ℤ pos k ≡ pos 1
product_one d k e f = ap₂ (λ (z : ℤ) (n : ℕ). z *ℤ pos n) e f

pub whole_num : (a t : Fraction) (n d : ℤ) → a.den ≡ 1 → d ≡ pos 1 → t.den ≡ 1 → a.num +ℤ n *ℤ t.num ≡ sum_num a n d t
whole_num a t n d e f g =
    let first : a.num *ℤ (d *ℤ pos t.den) ≡ a.num = ap (λ (z : ℤ). a.num *ℤ z) (product_one d t.den f g) ∙ times_one a.num in
    let second : n *ℤ (t.num *ℤ pos a.den) ≡ n *ℤ t.num = ap (λ (z : ℤ). n *ℤ z) (ap (λ (k : ℕ). t.num *ℤ pos k) e ∙ times_one t.num) in
    sym (ap₂ ◌+ℤ◌ first second)

pub whole_den : (a t : Fraction) (d : ℤ) → a.den ≡ 1 → d ≡ pos 1 → t.den ≡ 1 → pos 1 ≡ sum_den a d t
whole_den a t d e f g = sym (ap₂ (λ (k : ℕ) (z : ℤ). pos k *ℤ z) e (product_one d t.den f g))
