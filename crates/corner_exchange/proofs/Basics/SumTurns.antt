-- Values of marks and of deviations: sums with signs.
use Rattle.std.proofs.Common.{◌≡◌, ◌∙◌, ℕ, ◌<◌, refl, sym, ap, ap₂, subst, arith, inl, inr, ◌⊎◌, ℤ, pos, ◌+ℤ◌, ◌*ℤ◌}
use Rattle.std.specs.Int.{IsGcd}
use lib.IntN.{*ℤ_comm}
use borrow.Author.Differences.{ints}
use Rattle.frac_core.specs.Fraction.{Fraction, Fits, IsLowest, IsRatio, IsUnfitRatio, sum_den, sum_num}
use Rattle.frac_core.specs.declared.frac.TheConstants.{PART_BOUND}
use Rattle.frac_core.proofs.Integers.{mul_assoc_ℤ, mul-zero_ℤ, zero-mul_ℤ, add-zero_ℤ}
use Rattle.problem_core.specs.declared.parts.Side.{Side}
use Rattle.problem_core.specs.declared.parts.Side.TheVariants.{Under, Over}
use Rattle.corner_lines.specs.LineEquations.{sign_of}
use Rattle.corner_lines.specs.LineLaws.{IsUnfitValue}
use Rattle.corner_lines.specs.Levels.StayLevels.{turned}
use Rattle.corner_exchange.proofs.Pivots.PairFacts.{sign-times, turned-right, turned-twice}
use Rattle.corner_lines.proofs.Lines.LineWritings.{same-abs as sign-size}
use Rattle.corner_lines.proofs.Costs.StayFits.{turned-mul as turned-left}

-- the fraction with the sign of a side
abbrev pub turn : Side → Fraction → Fraction
turn s f = record { num = sign_of s *ℤ f.num; den = f.den }

turned-add : (s : Side) (x y : ℤ) → turned s (x +ℤ y) ≡ turned s x +ℤ turned s y
turned-add Under x y = omega (arith, ints)
turned-add Over x y = refl

pub sum-turns : (r q : Side) (a t : Fraction) (b n d : ℤ) → n ≡ turned r (turned q b) → sum_num (turn r a) b d (turn q t) ≡ turned r (sum_num a n d t)
sum-turns r q a t b n d e =
    let first : (sign_of r *ℤ a.num) *ℤ (d *ℤ pos t.den) ≡ turned r (a.num *ℤ (d *ℤ pos t.den)) =
    ap (λ z. z *ℤ (d *ℤ pos t.den)) (sign-times r a.num) ∙ turned-left r a.num (d *ℤ pos t.den) in
    let left : b *ℤ ((sign_of q *ℤ t.num) *ℤ pos a.den) ≡ turned q (b *ℤ (t.num *ℤ pos a.den)) =
    ap (λ z. b *ℤ (z *ℤ pos a.den)) (sign-times q t.num) ∙ ap (λ z. b *ℤ z) (turned-left q t.num (pos a.den)) ∙ turned-right q b (t.num *ℤ pos a.den) in
    let right : n *ℤ (t.num *ℤ pos a.den) ≡ turned r (turned q (b *ℤ (t.num *ℤ pos a.den))) =
    ap (λ z. z *ℤ (t.num *ℤ pos a.den)) e ∙ turned-left r (turned q b) (t.num *ℤ pos a.den) ∙ ap (turned r) (turned-left q b (t.num *ℤ pos a.den)) in
    ap₂ ◌+ℤ◌ first (left ∙ sym (turned-twice r (turned q (b *ℤ (t.num *ℤ pos a.den)))) ∙ ap (turned r) (sym right)) ∙ sym (turned-add r (a.num *ℤ (d *ℤ pos t.den)) (n *ℤ (t.num *ℤ pos a.den)))

pub ratio-turns : (r : Side) (f : Fraction) (x y q : ℤ) → y ≡ turned r x → IsRatio f x q → IsRatio (turn r f) y q
ratio-turns r f x y q e ratio =
    ap (λ z. z *ℤ q) (sign-times r f.num) ∙ turned-left r f.num q ∙ ap (turned r) ratio ∙ sym (turned-left r x (pos f.den)) ∙ ap (λ z. z *ℤ pos f.den) (sym e)

pub turn-lowest : (r : Side) (f : Fraction) → IsLowest f → IsLowest (turn r f)
turn-lowest r f low = record {
  above = low.above;
  coprime = subst (λ n. IsGcd n f.den 1) (sym (sign-size r f.num)) low.coprime;
}

pub turn-fits : (r : Side) (f : Fraction) → Fits f → Fits (turn r f)
turn-fits r f fits = record {
  num_fits = subst (λ n. n < PART_BOUND) (sym (sign-size r f.num)) fits.num_fits;
  den_fits = fits.den_fits;
}

-- where a sum does not fit, it does not with the other sign
pub unfit-turns : (r : Side) (x y : ℤ) (q : ℕ) → y ≡ turned r x → IsUnfitRatio x (pos q) → IsUnfitValue y q
unfit-turns r x y q e unfit f low ratio fits =
    unfit (turn r f) (turn-lowest r f low) (ratio-turns r f y x (pos q) (sym (turned-twice r x) ∙ ap (turned r) (sym e)) ratio) (turn-fits r f fits)

-- a sum to which nothing is added
pub nothing-added : (a t : Fraction) (n d : ℤ) → (n ≡ pos 0) ⊎ (t.num ≡ pos 0) → IsRatio a (sum_num a n d t) (sum_den a d t)
nothing-added a t n d none =
    let gone : n *ℤ (t.num *ℤ pos a.den) ≡ pos 0 = elim none [
      | inl e ↦ ap (λ z. z *ℤ (t.num *ℤ pos a.den)) e ∙ zero-mul_ℤ (t.num *ℤ pos a.den)
      | inr e ↦ ap (λ z. n *ℤ (z *ℤ pos a.den)) e ∙ ap (λ z. n *ℤ z) (zero-mul_ℤ (pos a.den)) ∙ mul-zero_ℤ n
    ] in
    let sum : sum_num a n d t ≡ a.num *ℤ (d *ℤ pos t.den) = ap (λ z. a.num *ℤ (d *ℤ pos t.den) +ℤ z) gone ∙ add-zero_ℤ (a.num *ℤ (d *ℤ pos t.den)) in
    sym (ap (λ z. z *ℤ pos a.den) sum ∙ mul_assoc_ℤ a.num (d *ℤ pos t.den) (pos a.den) ∙ ap (λ z. a.num *ℤ z) (*ℤ_comm (d *ℤ pos t.den) (pos a.den)))
