-- What fits is not told as what does not.
use Rattle.std.proofs.Common.{◌≡◌, ◌≢◌, ◌∙◌, ℕ, zero, suc, ◌*◌, ◌%◌, ◌<◌, true, false, cond, nat_eq, List, [], ◌∷◌, ℤ, pos, negsuc, ◌+ℤ◌, ◌-ℤ◌, ◌*ℤ◌, refl, sym, ap, arith, inl, inr, ◌⊎◌, ne_eqb}
use Rattle.std.proofs.lemmas.List.Elements.{recursion_from_All}
use Rattle.std.proofs.lemmas.Nat.Gcd.{IsGcd-from_zero, IsGcd-from_mod}
use Rattle.std.proofs.lemmas.Bool.{cases_eq}
use borrow.Author.Differences.{ints}
use Rattle.frac_core.specs.Fraction.{IsKept, IsFitting}
use Rattle.problem_core.specs.declared.parts.Term.{Term}
use Rattle.problem_core.specs.declared.stops.What.TheVariants.{Attr}
use Rattle.problem_core.specs.declared.stops.Quantity.TheVariants.{Plain}
use Rattle.problem_core.specs.Layout.{Row, lines, coefficient, value_at}
use Rattle.problem_core.specs.Corners.{IsIn, one_column, attr_column, equation}
use Rattle.problem_core.specs.Unfit.{IsUnfit, IsWritingOf}
use Rattle.corner_laws.specs.Examples.{single, over_stay}

pub whole_is_kept : (n : ℕ) → n < 4398046511104 → IsKept (record { num = pos n; den = 1 })
whole_is_kept n h = record {
  lowest = record { above = omega arith; coprime = IsGcd-from_mod n 1 1 (IsGcd-from_zero 1 (n % 1) (omega arith)) };
  fits = record { num_fits = omega (arith, h); den_fits = omega arith };
}

pub one_factor : (k n : ℕ) → 1 ≡ k * n → k ≡ 1
one_factor zero n e = absurd (omega (arith, e))
one_factor (suc zero) n e = refl
one_factor (suc (suc k)) zero e = absurd (omega (arith, e))
one_factor (suc (suc k)) (suc n) e = absurd (omega (arith, e))

-- two marks with the coefficients 1 and -1
abbrev pub difference : ℕ → ℕ → List Term
difference a b = record { attr = a; by = pos 1 } ∷ record { attr = b; by = negsuc 0 } ∷ []

pub difference-at : (a b v : ℕ) → coefficient v (difference a b) ≢ pos 0 → (v ≡ a) ⊎ (v ≡ b)
difference-at a b v some =
    elim (cases_eq a v) [
      | inl e ↦ inl (sym e)
      | inr n ↦ elim (cases_eq b v) [
        | inl e ↦ inr (sym e)
        | inr m ↦ absurd (some (ap (λ (t : _). cond t (pos 1) (pos 0) +ℤ (cond (nat_eq b v) (negsuc 0) (pos 0) +ℤ pos 0)) (ne_eqb a v n) ∙ ap (λ (t : _). pos 0 +ℤ (cond t (negsuc 0) (pos 0) +ℤ pos 0)) (ne_eqb b v m)))
      ]
    ]

pub small-by : (a b v : ℕ) → IsFitting (coefficient v (difference a b))
small-by a b v =
    elim (nat_eq a v) as (λ (t : _). IsFitting (cond t (pos 1) (pos 0) +ℤ (cond (nat_eq b v) (negsuc 0) (pos 0) +ℤ pos 0))) [
      | true ↦ elim (nat_eq b v) as (λ (t : _). IsFitting (pos 1 +ℤ (cond t (negsuc 0) (pos 0) +ℤ pos 0))) [
        | true ↦ omega arith
        | false ↦ omega arith
      ]
      | false ↦ elim (nat_eq b v) as (λ (t : _). IsFitting (pos 0 +ℤ (cond t (negsuc 0) (pos 0) +ℤ pos 0))) [
        | true ↦ omega arith
        | false ↦ omega arith
      ]
    ]

only-stay : (c : ℕ) → c ≢ 7 → IsIn c (over_stay ∷ []) → ⊥
only-stay c ne (zero, within, is) = ne (sym is)
only-stay c ne (suc k, within, is) = absurd (omega (arith, within))

pub attr-holds : (u o one a : ℤ) → pos 1 *ℤ u +ℤ (negsuc 0 *ℤ o +ℤ (negsuc 4 *ℤ one +ℤ (pos 1 *ℤ a +ℤ pos 0))) ≡ pos 0 → pos 1 *ℤ (pos 1 *ℤ a -ℤ (pos 1 *ℤ o +ℤ (negsuc 0 *ℤ u +ℤ pos 0))) ≡ pos 1 *ℤ (pos 5 *ℤ one)
attr-holds u o one a e = omega (arith, ints, e)

-- `x >= 5` where x stands at the bound: x is the row's over deviation less its under one, and 5
attr-writing : IsWritingOf (single 5) (over_stay ∷ []) (λ x. x (attr_column 1)) 1 (difference 5 4) (pos 5) 1
attr-writing = record {
  scale_positive = omega arith;
  den_positive = omega arith;
  outside = λ v some. elim (difference-at 5 4 v some) [
    | inl e ↦ ((1, omega arith, sym e), only-stay v (λ q. omega (arith, e, q)))
    | inr e ↦ ((0, omega arith, sym e), only-stay v (λ q. omega (arith, e, q)))
  ];
  holds = λ x solves. attr-holds (x.num 4) (x.num 5) (x.num one_column) (x.num (attr_column 1)) (recursion_from_All (λ l. value_at x.num (equation l) ≡ pos 0) (lines (single 5)) solves).0;
  lowest = λ k each whole. one_factor k whole.0 whole.1;
}

pub attr_fits : (old : List Row) → IsUnfit (single 5) old (over_stay ∷ []) (Plain (Attr 1)) → ⊥
attr_fits old (stay, none) = none 1 (difference 5 4) (record { num = pos 5; den = 1 }) attr-writing (omega arith) (small-by 5 4) (whole_is_kept 5 (omega arith))

pub sum-holds : (s t one a : ℤ) → pos 1 *ℤ s +ℤ (negsuc 0 *ℤ t +ℤ (pos 0 *ℤ one +ℤ (pos 1 *ℤ a +ℤ pos 0))) ≡ pos 0 → pos 1 *ℤ (pos 1 *ℤ (pos 1 *ℤ a +ℤ pos 0) -ℤ (pos 1 *ℤ t +ℤ (negsuc 0 *ℤ s +ℤ pos 0))) ≡ pos 1 *ℤ (pos 0 *ℤ one)
sum-holds s t one a e = omega (arith, ints, e)
