-- Where an attribute moves, and where it does not.
use Rattle.std.proofs.Common.{◌≡◌, ◌∙◌, ℕ, ◌+◌, ◌*◌, ◌≤◌, zero, suc, Bool, true, false, cond, nat_eq, [], ◌∷◌, ℤ, pos, negsuc, ◌+ℤ◌, ◌-ℤ◌, ◌*ℤ◌, ◌≤ℤ◌, refl, sym, ap, subst, inl, inr, arith, ne_eqb}
use Rattle.std.proofs.lemmas.List.Elements.{All-from_recursion}
use borrow.Author.Differences.{ints}
use Rattle.frac_core.specs.Fraction.{Fraction}
use Rattle.frac_core.proofs.Integers.{zero-mul_ℤ}
use Rattle.problem_core.specs.declared.parts.Rel.TheVariants.{Eq, Le}
use Rattle.problem_core.specs.Layout.{Assignment, Line, cost, error, error_of, line_of_row, line_of_stay, lines, share}
use Rattle.diagnosis.specs.Ambiguity.{GoesAbove, IsAmbiguous, IsDownToLast, IsLooselyBest, IsLooselyLess, IsMove, IsUpToNext, Reaches}
use Rattle.diagnosis.specs.Examples.{cap_row, capped, free, held, minus_one, whole, zero_row}

-- attribute 1 is z
at : ℤ → Assignment
at z = record { den = 1; num = λ v. z; positive = omega arith }

-- the stay doesn't count at a priority
abbrev stay : Line
stay = line_of_stay 1001 (record { attr = 1; target = whole 0 })

no-cost : (x : Assignment) (level : ℕ) → level ≤ 1000 → cost (lines free) x level ≡ 0
no-cost x level h = ap (λ (b : Bool). cond b (1 * error x stay * share (lines free) stay) 0 + 0) (ne_eqb 1001 level (λ e. absurd (omega (arith, h, e))))

none-less : (x y : Assignment) → IsLooselyLess free x y → ⊥
none-less x y (level, low, before, less) =
    let a : cost (lines free) x level * y.den ≡ 0 * y.den = ap (λ (n : ℕ). n * y.den) (no-cost x level low) in
    let b : cost (lines free) y level * x.den ≡ 0 * x.den = ap (λ (n : ℕ). n * x.den) (no-cost y level low) in
    absurd (omega (arith, less, a, b))

any-is-best : (x : Assignment) → IsLooselyBest free x
any-is-best x = record { satisfies = λ i d within. absurd (omega (arith, within)); least = λ y less. none-less y x less }

-- the free attribute moves from 0 to 1
pub free_moves : IsMove free 1 (whole 0) (whole 1)
unfolding at
free_moves = inl (
  (at (pos 1), any-is-best (at (pos 1)), omega (arith, ints)),
  record {
    reached = (at (pos 1), any-is-best (at (pos 1)), refl, omega (arith, ints));
    greatest = λ y best up above. absurd (omega (arith, ints, up, above));
  },
)

-- not to 2, which is past 1
pub above_zero : GoesAbove free 1 (whole 0)
unfolding at
above_zero = (at (pos 1), any-is-best (at (pos 1)), omega (arith, ints))

pub free_not_two : IsMove free 1 (whole 0) (whole 2) → ⊥
free_not_two (inl (goes, most)) = past most.reached
  where
    past : (x : Assignment) × IsLooselyBest free x × Reaches x 1 (whole 2) × IsUpToNext x 1 (whole 0) → ⊥
    past (x, best, is, up) = let some = x.positive in absurd (omega (arith, ints, is, up, some))
free_not_two (inr (none, less, least)) = none above_zero

pub free_ambiguous : IsAmbiguous free 1
unfolding at
free_ambiguous = (at (pos 1), at (pos 0), any-is-best (at (pos 1)), any-is-best (at (pos 0)), λ e. absurd (omega (arith, ints, e)))

-- ---- the held attribute doesn't move

zero-size : (z : ℤ) → error_of Eq z ≡ 0 → z ≡ pos 0
zero-size (pos n) h = ap pos (omega (arith, h))
zero-size (negsuc n) h = absurd (omega (arith, h))

pub gap_size : (z : ℤ) (d : ℕ) → pos 1 *ℤ (pos 1 *ℤ z +ℤ pos 0) -ℤ pos 0 *ℤ pos d ≡ z
gap_size z d =
    let one : pos 1 *ℤ z +ℤ pos 0 ≡ z = omega (arith, ints) in
    let also : pos 1 *ℤ z ≡ z = omega (arith, ints) in
    let none = zero-mul_ℤ (pos d) in
    ap (λ (w : ℤ). pos 1 *ℤ w -ℤ pos 0 *ℤ pos d) one ∙ (omega (arith, ints, also, none))

zero-num : (z : ℤ) (d : ℕ) → error_of Eq (pos 1 *ℤ (pos 1 *ℤ z +ℤ pos 0) -ℤ pos 0 *ℤ pos d) ≡ 0 → z ≡ pos 0
zero-num z d h = zero-size z (subst (λ (w : ℤ). error_of Eq w ≡ 0) (gap_size z d) h)

held-there : (x : Assignment) → IsLooselyBest held x → x.num 1 ≡ pos 0
held-there x best = zero-num (x.num 1) x.den (best.satisfies 0 zero_row (omega arith) refl)

pub held_not_ambiguous : IsAmbiguous held 1 → ⊥
held_not_ambiguous (x, y, best, also, other) =
    other (ap (λ (z : ℤ). z *ℤ pos y.den) (held-there x best) ∙ zero-mul_ℤ (pos y.den) ∙ sym (zero-mul_ℤ (pos x.den)) ∙ ap (λ (z : ℤ). z *ℤ pos x.den) (sym (held-there y also)))

pub held_moves_not : (f : Fraction) → IsMove held 1 (whole 0) f → ⊥
held_moves_not f (inl ((x, best, above), rest)) = let h = held-there x best in absurd (omega (arith, ints, h, above))
held_moves_not f (inr (none, (x, best, below), rest)) = let h = held-there x best in absurd (omega (arith, ints, h, below))

-- ---- the capped attribute moves down, and not up

abbrev cap : Line
cap = line_of_row cap_row

none-chosen : (b : Bool) (n : ℕ) → n ≡ 0 → cond b n 0 ≡ 0
none-chosen true n e = e
none-chosen false n e = refl

capped-cost : (x : Assignment) (level : ℕ) → level ≤ 1000 → error x cap ≡ 0 → cost (lines capped) x level ≡ 0
capped-cost x level low none =
    let last : cond (nat_eq 1001 level) (1 * error x stay * share (lines capped) stay) 0 ≡ 0 = ap (λ (b : Bool). cond b (1 * error x stay * share (lines capped) stay) 0) (ne_eqb 1001 level (λ e. absurd (omega (arith, low, e)))) in
    let first : cond (nat_eq 0 level) (1 * error x cap * share (lines capped) cap) 0 ≡ 0 = none-chosen (nat_eq 0 level) (1 * error x cap * share (lines capped) cap) (ap (λ (n : ℕ). 1 * n * share (lines capped) cap) none) in
    omega (arith, first, last)

capped-best : (x : Assignment) → error x cap ≡ 0 → IsLooselyBest capped x
capped-best x none = record {
  satisfies = All-from_recursion (λ r. r.rank ≡ 1000 → error x (line_of_row r) ≡ 0) (cap_row ∷ []) ((λ rank. none), tt);
  least = λ y less.
      let a : cost (lines capped) x less.0 * y.den ≡ 0 * y.den = ap (λ (n : ℕ). n * y.den) (capped-cost x less.0 less.1 none) in
      let b = less.3 in
      absurd (omega (arith, a, b));
}

above-low : (z : ℤ) → error_of Le z ≡ 0 → z ≤ℤ pos 0
above-low (pos zero) h = omega (arith, ints)
above-low (pos (suc n)) h = absurd (omega (arith, h))
above-low (negsuc n) h = omega (arith, ints)

none-above : GoesAbove capped 1 (whole 0) → ⊥
none-above (x, best, above) =
    let low : x.num 1 ≤ℤ pos 0 = above-low (x.num 1) (subst (λ (w : ℤ). error_of Le w ≡ 0) (gap_size (x.num 1) x.den) (best.satisfies 0 cap_row (omega arith) refl)) in
    absurd (omega (arith, ints, low, above))

pub capped_moves_down : IsMove capped 1 (whole 0) minus_one
unfolding at
capped_moves_down = inr (
  none-above,
  (at (negsuc 0), capped-best (at (negsuc 0)) refl, omega (arith, ints)),
  record {
    reached = (at (negsuc 0), capped-best (at (negsuc 0)) refl, refl, omega (arith, ints));
    least = λ y best down below. absurd (omega (arith, ints, down, below));
  },
)

pub capped_not_up : IsMove capped 1 (whole 0) (whole 1) → ⊥
capped_not_up (inl (goes, most)) = none-above goes
capped_not_up (inr (none, less, least)) = past least.reached
  where
    past : (x : Assignment) × IsLooselyBest capped x × Reaches x 1 (whole 1) × IsDownToLast x 1 (whole 0) → ⊥
    past (x, best, is, down) = none (x, best, (let some = x.positive in omega (arith, ints, is, some)))
