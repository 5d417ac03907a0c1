-- The constant of a row.
use Rattle.std.proofs.Common.{◌≡◌, ◌∙◌, ◌⊎◌, inl, inr, ℕ, zero, suc, ◌<◌, List, length, ℤ, pos, ◌*ℤ◌, ◌≤ℤ◌, refl, sym, ap, subst, arith, AllPairs, get_or}
use Rattle.std.proofs.lemmas.List.{get_or_default}
use borrow.Author.Differences.{ints}
use Rattle.frac_core.specs.Fraction.{Fraction, IsKept}
use Rattle.problem_core.specs.Layout.{Problem, Row}
use Rattle.problem_core.specs.Kept.{IsRow, IsWhole}
use Rattle.corner_lines.specs.Shifts.{with_constant}
use Rattle.sweep_laws.specs.Fractions.{IsNoMore}
use Rattle.sweep_laws.specs.Stops.{HasConstant}
use Rattle.sweep_run.proofs.Moves.{HasOwn, still}

pub no_more_self : (a : Fraction) → IsNoMore a a
no_more_self a = same (a.num *ℤ pos a.den)
  where
    same : (z : ℤ) → z ≤ℤ z
    same z = omega (arith, ints)

-- rows of one number are one
one-row : (rows : List Row) (i j : ℕ) (d : Row) → AllPairs (λ r s. r.id < s.id) rows → i < length rows → j < length rows → (get_or rows i d).id ≡ (get_or rows j d).id → i ≡ j
one-row rows i j d rising hi hj e = elim (nat_compare i j) [
  | inl less ↦ absurd (let k = rising i j d less hj in omega (arith, k, e))
  | inr (inl same) ↦ same
  | inr (inr more) ↦ absurd (let k = rising j i d more hi in omega (arith, k, e))
]
  where
    nat_compare : (a b : ℕ) → (a < b) ⊎ ((a ≡ b) ⊎ (b < a))
    nat_compare zero zero = inr (inl refl)
    nat_compare zero (suc b) = inl (omega arith)
    nat_compare (suc a) zero = inr (inr (omega arith))
    nat_compare (suc a) (suc b) = elim (nat_compare a b) [
      | inl less ↦ inl (omega (arith, less))
      | inr (inl same) ↦ inr (inl (ap (λ (n : ℕ). suc n) same))
      | inr (inr more) ↦ inr (inr (omega (arith, more)))
    ]

pub own_constant : (p : Problem) (row : ℕ) (c : Fraction) → IsWhole p → HasConstant p row c → HasOwn p row c
own_constant p row c whole (j, r, hj, is, (named, const)) i d hi named_i =
    let same_d : get_or p.rows j d ≡ r = get_or_default p.rows j d r hj ∙ is in
    let same : i ≡ j = one-row p.rows i j d whole.rising hi hj (named_i ∙ sym (ap (λ (s : Row). s.id) same_d ∙ named)) in
    ap (λ (n : ℕ). (get_or p.rows n d).constant) same ∙ (ap (λ (s : Row). s.constant) same_d ∙ const)

pub constant_here : (p : Problem) (row : ℕ) (c : Fraction) → IsWhole p → HasConstant p row c → with_constant row c p ≡ p
constant_here p row c whole held = still p row c (own_constant p row c whole held)

pub constant_kept : (p : Problem) (row : ℕ) (c : Fraction) → IsWhole p → HasConstant p row c → IsKept c
constant_kept p row c whole (j, r, hj, is, (named, const)) =
    subst IsKept const (subst IsRow is (whole.rows j r hj)).constant
