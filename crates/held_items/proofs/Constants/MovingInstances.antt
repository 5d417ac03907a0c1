-- A row of the constant 8: which constants it has, which are near and which are too far.
use Rattle.std.proofs.Common.{◌≡◌, ℕ, zero, suc, [], ◌∷◌, pos, refl, ap, subst, inl, inr, arith, lit<}
use Rattle.std.proofs.Math.Nat.{one-dvd}
use Rattle.std.specs.Prelude.{negsuc, unsigned_abs}
use borrow.Author.Differences.{ints}
use Rattle.frac_core.specs.Fraction.{Fraction}
use Rattle.problem_core.specs.declared.parts.Rel.TheVariants.{Eq}
use Rattle.problem_core.specs.Layout.{Row}
use Rattle.constraint_compile.specs.Compiled.{IsFittingSum}
use Rattle.compile_parts.specs.Fractions.{plus, negated}
use Rattle.constraint_compile.specs.declared.naming.RowConstant.{RowConstant}
use Rattle.held_items.specs.Moving.{AreMoves, IsFar, IsMoved, IsStill, change_to}

abbrev whole : ℕ → Fraction
whole n = record { num = pos n; den = 1 }

-- 2^41 below 0
abbrev lowest : Fraction
lowest = record { num = negsuc 2199023255551; den = 1 }

abbrev row_of : Fraction → Row
row_of constant = record { id = 5; rank = 1000; weight = 1; rel = Eq; scale = 1; constant = constant; terms = [] }

abbrev to : ℕ → RowConstant
to n = record { row = 5; constant = whole n }

differ : whole 8 ≡ whole 9 → ⊥
differ same = (let e : 8 ≡ 9 = ap (λ (f : Fraction). unsigned_abs f.num) same in omega (arith, e))

one-above : IsFittingSum (plus (whole 9) (negated (whole 8)))
one-above = record {
  sum = whole 1;
  lowest = record { above = lit< tt; coprime = (one-dvd 1, one-dvd 1, λ d a b. b) };
  fits = record { num_fits = lit< tt; den_fits = lit< tt };
  value = refl;
}

pub own-is-still : IsStill (row_of (whole 8) ∷ []) (to 8)
own-is-still zero d within same = refl
own-is-still (suc k) d within same = absurd (omega (arith, within))

pub other-is-not-still : IsStill (row_of (whole 8) ∷ []) (to 9) → ⊥
other-is-not-still still = differ (still zero (row_of (whole 8)) (omega arith) refl)

pub other-is-moved : IsMoved (row_of (whole 8) ∷ []) (to 9)
other-is-moved zero d within same = (differ, one-above)
other-is-moved (suc k) d within same = absurd (omega (arith, within))

pub other-is-near : IsFar (row_of (whole 8) ∷ []) (to 9) → ⊥
other-is-near (zero, r, within, is, (same, far)) = far (subst (λ (s : Row). IsFittingSum (plus (whole 9) (negated s.constant))) is one-above)
other-is-near (suc k, r, within, is, (same, far)) = omega (arith, within)

-- from -2^41 to 2^41 is 2^42, which doesn't fit
pub great-is-far : IsFar (row_of lowest ∷ []) (to 2199023255552)
great-is-far = (zero, row_of lowest, omega arith, refl, (refl, λ is. omega (arith, ints, is.value, is.fits.num_fits, is.lowest.above)))

-- the change to another constant alone
pub one-moves : AreMoves (row_of (whole 8) ∷ []) (to 8 ∷ to 9 ∷ []) (change_to (to 9) ∷ [])
one-moves = inl (own-is-still, inr (other-is-moved, ([], refl, refl)))
