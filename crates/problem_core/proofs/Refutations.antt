-- Multipliers that refute the required rows show a conflict: at an assignment that satisfies them the sum of the gaps, each times its multiplier, would be both below 0 and not below 0.
use Rattle.std.proofs.Common.{◌≡◌, ℕ, zero, suc, ◌+◌, ◌*◌, ◌/◌, ◌<◌, nat_eq, List, [], ◌∷◌, ℤ, pos, negsuc, ◌*ℤ◌, neg_ℤ, ◌≤ℤ◌, ap, arith, eqb-true}
use Rattle.std.specs.List.{AllByRecursion as Each}
use Rattle.std.proofs.lemmas.List.Elements.{recursion_from_All, filter_passes}
use borrow.Author.Differences.{ints}
use Rattle.problem_core.specs.declared.parts.Rel.{Rel}
use Rattle.problem_core.specs.declared.parts.Rel.TheVariants.{Eq, Ge, Le}
use Rattle.problem_core.specs.Layout.{Row, Problem, IsProblem, IsInConflict, line_of_row, stay_lines, gap, error, error_of, above, below, sum_of, product_of}
use Rattle.problem_core.specs.Certificates.{IsRefutation, HasSign, required}
use Rattle.frac_core.proofs.Integers.{mul_positive}
use Rattle.problem_core.proofs.Forms.{gaps-cancel, product-shares, each-map, each-impl, each-both, each-filter}

pub zero-gap : (g : ℤ) → above g + below g ≡ 0 → g ≡ pos 0
zero-gap (pos n) e = ap pos (omega arith)
zero-gap (negsuc n) e = absurd (omega arith)

both_negative : (m k : ℕ) → pos 0 ≤ℤ (negsuc m *ℤ neg_ℤ (pos k))
both_negative m zero = omega (arith, ints)
both_negative m (suc k) = omega (arith, ints)

-- a row that is met, times a multiplier of its sign
signed : (rel : Rel) (y : ℤ) (share : ℕ) (g : ℤ) → HasSign rel y → error_of rel g ≡ 0 → pos 0 ≤ℤ (y *ℤ (pos share *ℤ g))
signed Eq y share g h e = rw (zero-gap g e) (omega (arith, ints))
signed Ge (pos m) share (pos n) h e = omega (arith, ints)
signed Ge (negsuc m) share (pos n) h e = absurd (omega (arith, ints))
signed Ge y share (negsuc n) h e = absurd (omega arith)
signed Le y share (pos n) h e = rw e (omega (arith, ints))
signed Le (pos zero) share (negsuc n) h e = omega (arith, ints)
signed Le (pos (suc m)) share (negsuc n) h e = absurd (omega (arith, ints))
signed Le (negsuc m) share (negsuc n) h e = both_negative m (share * suc n)

pub sum-not_negative : {A : Type 0} (f : A → ℤ) (xs : List A) → Each (λ x. pos 0 ≤ℤ f x) xs → pos 0 ≤ℤ sum_of f xs
sum-not_negative f [] h = omega (arith, ints)
sum-not_negative f (x ∷ xs) h = omega (arith, ints, h.0, sum-not_negative f xs h.1)

pub refutation-IsInConflict : (p : Problem) → IsProblem p → (y : ℕ → ℤ) → IsRefutation p y → IsInConflict p
refutation-IsInConflict p ok y r x sat =
    let rows : List Row = required p in
    let whole : ℕ = product_of (λ s. s.constant.den) (required p) in
    let dens : Each (λ s. 0 < s.constant.den) (required p) =
    each-filter _ (λ s. nat_eq s.rank 1000) p.rows
    (each-impl _ _ p.rows (λ s h. h.1) (each-map (λ l. (0 < l.scale) × (0 < l.den)) line_of_row p.rows (stay_lines 1001 p.stays) (recursion_from_All _ _ ok))) in
    let same = gaps-cancel (λ s. y s.id) (λ s. s.terms) (λ s. s.constant.num) (λ s. s.constant.den) (λ s. product_of (λ s. s.constant.den) (required p) / s.constant.den) (product_of (λ s. s.constant.den) (required p)) x.num x.den (required p)
    (product-shares (λ s. s.constant.den) (required p) _ 1 (omega arith) dens) r.cancel in
    let met : Each (λ s. error x (line_of_row s) ≡ 0) (required p) =
    each-impl _ _ (required p) (λ s h. h.0 (eqb-true s.rank 1000 h.1))
    (each-both _ _ (required p) (each-filter (λ s. s.rank ≡ 1000 → error x (line_of_row s) ≡ 0) (λ s. nat_eq s.rank 1000) p.rows (recursion_from_All _ _ sat))
    (recursion_from_All _ _ (filter_passes (λ s. nat_eq s.rank 1000) p.rows))) in
    let sum = sum-not_negative _ (required p)
    (each-impl _ (λ s. pos 0 ≤ℤ (y s.id *ℤ (pos (product_of (λ s. s.constant.den) (required p) / s.constant.den) *ℤ gap x (line_of_row s)))) (required p) (λ s h. signed s.rel (y s.id) (product_of (λ s. s.constant.den) (required p) / s.constant.den) (gap x (line_of_row s)) h.0 h.1)
    (each-both _ _ (required p) (recursion_from_All _ _ r.signs) met)) in
    omega (arith, ints, same, sum, mul_positive x.den _ x.positive r.above_zero)
