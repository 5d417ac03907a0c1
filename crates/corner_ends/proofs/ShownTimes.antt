-- The multipliers that a conflict shows: those of required rows, by rising number, none 0, without a common factor.
use Rattle.std.proofs.Common.{◌≡◌, ◌∙◌, ◌⊎◌, ℕ, zero, suc, ◌+◌, ◌*◌, ◌/◌, ◌<◌, Bool, true, false, cond, nat_eq, List, [], ◌∷◌, ◌++◌, filter, length, take, get_or, ℤ, pos, ◌+ℤ◌, ◌*ℤ◌, unsigned_abs, sym, ap, ap₂, subst, arith, inl, inr, All, Any, eq-eqb, eqb-true}
use Rattle.std.specs.Int.{◌∣◌}
use Rattle.std.specs.List.{AllByRecursion as Each}
use Rattle.std.proofs.lemmas.List.{take_more}
use Rattle.std.proofs.lemmas.List.Elements.{recursion_from_All, All-from_recursion, filter_passes}
use borrow.Author.Differences.{ints}
use Rattle.frac_core.proofs.Integers.{mul-add_left, mul-zero_ℤ, mul_assoc_ℤ, zero-mul_ℤ}
use Rattle.problem_core.specs.declared.parts.RowName.{RowName}
use Rattle.problem_core.specs.declared.parts.RowName.TheVariants.{Held}
use Rattle.problem_core.specs.Layout.{Problem, Row, product_of}
use Rattle.problem_core.specs.Certificates.{IsRefutation, required}
use Rattle.problem_core.proofs.Forms.{each-both, each-filter, each-impl, sum-zero}
use Rattle.cert_core.specs.declared.by.By.{By}
use Rattle.cert_core.specs.Claims.{same_row, times_of}
use Rattle.cert_core.specs.Stops.{IsShownConflict}
use Rattle.corner_ends.specs.Shares.{AreShares, IsDivisor, IsGreatest}
use Rattle.corner_ends.proofs.SharedTimes.{shares_refute}
use Rattle.frac_core.proofs.Numbers.{only-one as one-left, zero-divides as none-size, divides-multiple}
use Rattle.corner_laws.proofs.MarkWritings.Equations.{whole_share as multiple}

each-parts : {A : Type 0} (P : A → Type 0) (xs ys : List A) → Each P (xs ++ ys) → Each P xs × Each P ys
each-parts P [] ys h = (tt, h)
each-parts P (x ∷ xs) ys h = let r = each-parts P xs ys h.1 in ((h.0, r.0), r.1)

pub greatest_parts : (k : ℕ) (y : ℕ → ℤ) (rows : List Row) (i : ℕ) (r : Row) → i < length rows → r ≡ get_or rows i r → All (IsDivisor k y) (take (i + 1) rows) → All (IsDivisor k y) (take i rows) × IsDivisor k y r
greatest_parts k y rows i r within is each =
    let parts = each-parts (IsDivisor k y) (take i rows) (get_or rows i r ∷ []) (recursion_from_All (IsDivisor k y) (take i rows ++ get_or rows i r ∷ []) (subst (All (IsDivisor k y)) (take_more rows i r within) each)) in
    (All-from_recursion (IsDivisor k y) (take i rows) parts.0, subst (IsDivisor k y) (sym is) parts.1.0)

-- ---- the rows that are named

any-filter : (P : Row → Type 0) (f : Row → Bool) (rows : List Row) → Any (λ r. (f r ≡ true) × P r) rows → Any P (filter f rows)
any-filter P f [] (k, x, within, is, h) = absurd (omega (arith, within))
any-filter P f (r ∷ rows) (zero, x, within, is, h) =
    subst (λ (b : Bool). Any P (cond b (r ∷ filter f rows) (filter f rows))) (sym (ap f is ∙ h.0)) (0, x, omega arith, is, h.1)
any-filter P f (r ∷ rows) (suc k, x, within, is, h) =
    let more = any-filter P f rows (k, x, omega (arith, within), is, h) in
    elim (f r) as (λ (b : Bool). Any P (cond b (r ∷ filter f rows) (filter f rows))) [
      | true ↦ (suc more.0, more.1, omega (arith, more.2), more.3, more.4)
      | false ↦ more
    ]

any-weaker : (P Q : Row → Type 0) (rows : List Row) → ((r : Row) → P r → Q r) → Any P rows → Any Q rows
any-weaker P Q rows f (k, x, within, is, h) = (k, x, within, is, f x h)

-- ---- no common factor

none-or : (b : Bool) (k : ℕ) (z t : ℤ) → z ≡ pos k *ℤ t → (u : ℤ) × (cond b z (pos 0) ≡ pos k *ℤ u)
none-or true k z t e = (t, e)
none-or false k z t e = (pos 0, sym (mul-zero_ℤ (pos k)))

multiple-of : (k : ℕ) (by : List By) (name : RowName) → Each (λ b. k ∣ unsigned_abs b.times) by → (t : ℤ) × (times_of by name ≡ pos k *ℤ t)
multiple-of k [] name h = (pos 0, sym (mul-zero_ℤ (pos k)))
multiple-of k (b ∷ by) name h =
    let m = multiple k b.times h.0 in
    let first = none-or (same_row b.row name) k b.times m.0 m.1 in
    let rest = multiple-of k by name h.1 in
    (first.0 +ℤ rest.0, ap₂ ◌+ℤ◌ first.1 rest.1 ∙ sym (mul-add_left (pos k) first.0 rest.0))

-- k times g divides each multiplier
still-divides : (k g : ℕ) (y : ℕ → ℤ) (by : List By) (r : Row) → Each (λ b. k ∣ unsigned_abs b.times) by → (r.rank ≡ 1000 → pos g *ℤ times_of by (Held r.id) ≡ y r.id) → IsDivisor (k * g) y r
still-divides k g y by r h e = λ rank.
    let m = multiple-of k by (Held r.id) h in
    divides-multiple (k * g) (y r.id) m.0
    (sym (e rank) ∙ ap (λ (z : ℤ). pos g *ℤ z) m.1 ∙ sym (mul_assoc_ℤ (pos g) (pos k) m.0) ∙ ap (λ (n : ℕ). pos n *ℤ m.0) (let turn : g * k ≡ k * g = omega arith in turn))

-- multipliers that are all 0 refute nothing
not-all_zero : (p : Problem) (y : ℕ → ℤ) → IsRefutation p y → All (IsDivisor 0 y) p.rows → ⊥
not-all_zero p y is none =
    let zeros : Each (λ r. y r.id ≡ pos 0) (required p) =
    each-impl (λ r. IsDivisor 0 y r × (nat_eq r.rank 1000 ≡ true)) (λ r. y r.id ≡ pos 0) (required p) (λ r h. none-size (y r.id) (h.0 (eqb-true r.rank 1000 h.1)))
    (each-both (IsDivisor 0 y) (λ r. nat_eq r.rank 1000 ≡ true) (required p) (each-filter (IsDivisor 0 y) (λ r. nat_eq r.rank 1000) p.rows (recursion_from_All (IsDivisor 0 y) p.rows none))
    (recursion_from_All (λ r. nat_eq r.rank 1000 ≡ true) (required p) (filter_passes (λ r. nat_eq r.rank 1000) p.rows))) in
    let sum = sum-zero (λ r. y r.id *ℤ (r.constant.num *ℤ pos (product_of (λ s. s.constant.den) (required p) / r.constant.den))) (required p)
    (each-impl (λ (r : Row). y r.id ≡ pos 0) _ (required p) (λ r e. ap (λ (z : ℤ). z *ℤ (r.constant.num *ℤ pos (product_of (λ s. s.constant.den) (required p) / r.constant.den))) e ∙ zero-mul_ℤ (r.constant.num *ℤ pos (product_of (λ s. s.constant.den) (required p) / r.constant.den))) zeros) in
    let above = is.above_zero in
    absurd (omega (arith, ints, sum, above))

pub shown_conflict : (p : Problem) (y : ℕ → ℤ) (g : ℕ) (by : List By) → IsRefutation p y → 0 < g → All (IsDivisor 0 y) p.rows ⊎ IsGreatest g y p.rows → AreShares y g p.rows by → IsShownConflict p by
shown_conflict p y g by is above (inl none) are = absurd (not-all_zero p y is none)
shown_conflict p y g by is above (inr greatest) are = record {
  refutes = shares_refute p y g by is are;
  named = λ k d within.
      any-filter (λ r. (get_or by k d).row ≡ Held r.id) (λ r. nat_eq r.rank 1000) p.rows
      (any-weaker (λ r. (r.rank ≡ 1000) × ((get_or by k d).row ≡ Held r.id)) (λ r. (nat_eq r.rank 1000 ≡ true) × ((get_or by k d).row ≡ Held r.id)) p.rows (λ r h. (eq-eqb r.rank 1000 h.0, h.1)) (are.named k d within));
  nonzero = are.nonzero;
  rising = are.rising;
  lowest = λ k divides.
      one-left k g above
      (greatest (k * g)
      (All-from_recursion (IsDivisor (k * g) y) p.rows
      (each-impl (λ r. r.rank ≡ 1000 → pos g *ℤ times_of by (Held r.id) ≡ y r.id) (IsDivisor (k * g) y) p.rows (λ r e. still-divides k g y by r (recursion_from_All (λ b. k ∣ unsigned_abs b.times) by divides) e)
      (recursion_from_All (λ r. r.rank ≡ 1000 → pos g *ℤ times_of by (Held r.id) ≡ y r.id) p.rows are.times))));
}
