-- Where the words of what does not fit hold, and where they do not.
use Rattle.std.proofs.Common.{◌≡◌, ◌≢◌, ◌∙◌, ℕ, zero, suc, ◌+◌, ◌*◌, ◌<◌, ◌≤◌, cond, nat_eq, List, [], ◌∷◌, length, ℤ, pos, negsuc, ◌+ℤ◌, ◌*ℤ◌, ◌<ℤ◌, refl, sym, ap, arith, All}
use Rattle.std.proofs.lemmas.List.Elements.{All-from_recursion, recursion_from_All}
use lib.IntN.{*ℤ_comm}
use borrow.Author.Differences.{ints}
use Rattle.frac_core.specs.Fraction.{IsKept}
use Rattle.frac_core.proofs.Integers.{cancel_mul, mul_assoc_ℤ}
use Rattle.problem_core.specs.declared.parts.Mark.{Mark}
use Rattle.problem_core.specs.declared.parts.Side.TheVariants.{Over}
use Rattle.problem_core.specs.declared.parts.RowName.{RowName}
use Rattle.problem_core.specs.declared.parts.RowName.TheVariants.{Held}
use Rattle.problem_core.specs.declared.parts.Level.TheVariants.{Priority}
use Rattle.problem_core.specs.declared.stops.What.TheVariants.{Attr, Mark as MarkOf, Level as LevelOf}
use Rattle.problem_core.specs.declared.stops.Quantity.TheVariants.{Plain, Terms, Rows, Shifts}
use Rattle.problem_core.specs.Layout.{Problem, Row, lines, value_at}
use Rattle.problem_core.specs.Corners.{Point, IsIn, Solves, StandsAt, marks_of, one_column, attr_column, place, equation}
use Rattle.problem_core.specs.Levels.{IsCostAt}
use Rattle.problem_core.specs.Unfit.{HasNoWriting, IsUnfit, first_terms}
use Rattle.corner_laws.specs.Equations.{IsUnfitEquation, IsUnfitSum}
use Rattle.corner_laws.specs.Lifts.{AreJoined}
use Rattle.corner_laws.specs.Examples.{single, pair, at_least, under_row, over_row, over_second, over_stay}
use Rattle.corner_laws.proofs.WrittenValues.{value_there}
use Rattle.frac_core.proofs.Numbers.{one-times}

-- ---- what does not fit

-- a value of 2^42 does not fit
pub too_large : (n : ℤ) (d : ℕ) → pos d *ℤ pos 4398046511104 ≡ n *ℤ pos 1 → IsKept (record { num = n; den = d }) → ⊥
too_large (pos n) d e k = absurd (omega (arith, ints, e, k.lowest.above, k.fits.num_fits))
too_large (negsuc n) d e k = absurd (omega (arith, ints, e))

-- a quantity that is 2^42 at the corner has no writing that fits
pub no_writing : (p : Problem) (at : List Mark) (quantity : (ℕ → ℤ) → ℤ) (x : Point) → StandsAt p at x → quantity x.num ≡ pos 4398046511104 → x.num one_column ≡ pos 1 → HasNoWriting p at quantity
no_writing p at quantity x stands large one scale form value w a b kept =
    too_large value.num value.den (ap (λ (z : ℤ). pos value.den *ℤ z) (sym large) ∙ value_there p at quantity scale form value.num value.den x w stands ∙ ap (λ (z : ℤ). value.num *ℤ z) one) kept

-- ---- the points of `x >= k`: places 4, 5 of the row, 6, 7 of the stay

-- x is 0
abbrev at_zero : ℕ → ℕ → ℤ
at_zero k v = cond (nat_eq v 4) (pos k) (cond (nat_eq v one_column) (pos 1) (pos 0))

abbrev zero_point : ℕ → Point
zero_point k = record { num = at_zero k; positive = record { lt = tt } }

-- x is k
abbrev pub at_bound : ℕ → ℕ → ℤ
at_bound k v = cond (nat_eq v 7) (pos k) (cond (nat_eq v (attr_column 1)) (pos k) (cond (nat_eq v one_column) (pos 1) (pos 0)))

abbrev pub bound_point : ℕ → Point
bound_point k = record { num = at_bound k; positive = record { lt = tt } }

big : ℕ
big = 4398046511104

zero-solves : Solves (single 4398046511104) (zero_point 4398046511104)
zero-solves = All-from_recursion (λ l. value_at (at_zero 4398046511104) (equation l) ≡ pos 0) (lines (single 4398046511104)) (refl, (refl, tt))

bound-solves : Solves (single 4398046511104) (bound_point 4398046511104)
bound-solves = All-from_recursion (λ l. value_at (at_bound 4398046511104) (equation l) ≡ pos 0) (lines (single 4398046511104)) (refl, (refl, tt))

zero-stands : StandsAt (single 4398046511104) (under_row ∷ []) (zero_point 4398046511104)
zero-stands = (
  zero-solves,
  All-from_recursion (λ m. (IsIn (place m) (under_row ∷ []) → ⊥) → at_zero 4398046511104 (place m) ≡ pos 0) (marks_of (lines (single 4398046511104)))
      (λ o. absurd (o (0, omega arith, refl)), (λ o. refl, (λ o. refl, (λ o. refl, tt)))),
)

pub bound-stands : StandsAt (single 4398046511104) (over_stay ∷ []) (bound_point 4398046511104)
bound-stands = (
  bound-solves,
  All-from_recursion (λ m. (IsIn (place m) (over_stay ∷ []) → ⊥) → at_bound 4398046511104 (place m) ≡ pos 0) (marks_of (lines (single 4398046511104)))
      (λ o. refl, (λ o. refl, (λ o. refl, (λ o. absurd (o (0, omega arith, refl)), tt)))),
)

-- ---- instances that hold

-- `x >= 2^42` where x stands at the bound: the attribute does not fit
pub attr_unfit : IsUnfit (single 4398046511104) [] (over_stay ∷ []) (Plain (Attr 1))
attr_unfit = ((0, record { attr = 1; target = record { num = pos 0; den = 1 } }, omega arith, refl, refl), no_writing (single 4398046511104) (over_stay ∷ []) (λ x. x (attr_column 1)) (bound_point 4398046511104) bound-stands refl refl)

-- where x stands at its stay: the row's under mark does not fit
pub mark_unfit : IsUnfit (single 4398046511104) [] (under_row ∷ []) (Plain (MarkOf under_row))
mark_unfit = ((0, omega arith, refl), no_writing (single 4398046511104) (under_row ∷ []) (λ x. x (place under_row)) (zero_point 4398046511104) zero-stands refl refl)

-- ---- a value below 0

pub too_low : (n : ℤ) (d : ℕ) → pos d *ℤ negsuc 4398046511103 ≡ n *ℤ pos 1 → IsKept (record { num = n; den = d }) → ⊥
too_low (pos n) d e k = absurd (omega (arith, ints, e, k.lowest.above))
too_low (negsuc n) d e k = absurd (omega (arith, ints, e, k.lowest.above, k.fits.num_fits))

no_low_writing : (p : Problem) (at : List Mark) (quantity : (ℕ → ℤ) → ℤ) (x : Point) → StandsAt p at x → quantity x.num ≡ negsuc 4398046511103 → x.num one_column ≡ pos 1 → HasNoWriting p at quantity
no_low_writing p at quantity x stands low one scale form value w a b kept =
    too_low value.num value.den (ap (λ (z : ℤ). pos value.den *ℤ z) (sym low) ∙ value_there p at quantity scale form value.num value.den x w stands ∙ ap (λ (z : ℤ). value.num *ℤ z) one) kept

-- where the row's over mark is inside and x is 0, it is below 0
abbrev pub at_below : ℕ → ℤ
at_below v = cond (nat_eq v 5) (negsuc 4398046511103) (cond (nat_eq v one_column) (pos 1) (pos 0))

abbrev pub below_point : Point
below_point = record { num = at_below; positive = record { lt = tt } }

below-solves : Solves (single 4398046511104) below_point
below-solves = All-from_recursion (λ l. value_at at_below (equation l) ≡ pos 0) (lines (single 4398046511104)) (refl, (refl, tt))

pub below-stands : StandsAt (single 4398046511104) (over_row ∷ []) below_point
below-stands = (
  below-solves,
  All-from_recursion (λ m. (IsIn (place m) (over_row ∷ []) → ⊥) → at_below (place m) ≡ pos 0) (marks_of (lines (single 4398046511104)))
      (λ o. refl, (λ o. absurd (o (0, omega arith, refl)), (λ o. refl, (λ o. refl, tt)))),
)

-- each row is over from this one on
only-over : (k : ℕ) → All (λ r. 1 ≤ r.id → IsIn (place (record { row = Held r.id; side = Over })) (over_row ∷ [])) (single k).rows
only-over k = All-from_recursion (λ r. 1 ≤ r.id → IsIn (place (record { row = Held r.id; side = Over })) (over_row ∷ [])) (single k).rows (λ h. (0, omega arith, refl), tt)

-- the new row `x >= 2^42` where x is 0: all of it less its constant does not fit
pub terms_unfit : IsUnfit (single 4398046511104) [] (over_row ∷ []) (Terms over_row 2)
terms_unfit = ((0, at_least 4398046511104, omega arith, refl, (refl, only-over 4398046511104, omega arith, omega arith, no_low_writing (single 4398046511104) (over_row ∷ []) (first_terms (at_least 4398046511104) 2) below_point below-stands refl refl)), λ i d within. absurd (omega (arith, within)))

-- the constant alone has changed
pub shifts_unfit : IsUnfit (single 4398046511104) (at_least 5 ∷ []) (over_stay ∷ []) (Shifts (Attr 1) 1)
shifts_unfit = (refl, omega arith, omega arith, attr_unfit)

-- ---- a level

level-value : (u o p q one a n : ℤ) (d : ℕ) → o ≡ pos 0 → p ≡ pos 0 → q ≡ pos 0
    → pos 1 *ℤ u +ℤ (negsuc 0 *ℤ o +ℤ (negsuc 4398046511103 *ℤ one +ℤ (pos 1 *ℤ a +ℤ pos 0))) ≡ pos 0
    → pos 1 *ℤ p +ℤ (negsuc 0 *ℤ q +ℤ (pos 0 *ℤ one +ℤ (pos 1 *ℤ a +ℤ pos 0))) ≡ pos 0
    → u ≡ pos 4398046511104 *ℤ one
level-value u o p q one a n d e f g h k = omega (arith, ints, e, f, g, h, k)

scaled-out : (one : ℕ) (n : ℤ) (d : ℕ) (c : ℤ) → 0 < one → c ≡ pos 4398046511104 *ℤ pos one → c *ℤ pos d ≡ n *ℤ pos one → pos d *ℤ pos 4398046511104 ≡ n *ℤ pos 1
scaled-out one n d c above e h =
    let a : pos one *ℤ (pos d *ℤ pos 4398046511104) ≡ pos one *ℤ n =
    *ℤ_comm (pos one) (pos d *ℤ pos 4398046511104) ∙ mul_assoc_ℤ (pos d) (pos 4398046511104) (pos one) ∙ ap (λ (z : ℤ). pos d *ℤ z) (sym e) ∙ *ℤ_comm (pos d) c ∙ h ∙ *ℤ_comm n (pos one) in
    cancel_mul one (pos d *ℤ pos 4398046511104) n above a ∙ (let k : n ≡ n *ℤ pos 1 = omega (arith, ints) in k)

level-out : (c one n : ℤ) (d : ℕ) → pos 0 <ℤ one → c ≡ pos 4398046511104 *ℤ one → c *ℤ pos d ≡ n *ℤ one → pos d *ℤ pos 4398046511104 ≡ n *ℤ pos 1
level-out c (pos one) n d above e h = scaled-out one n d c (omega (arith, ints, above)) e h
level-out c (negsuc one) n d above e h = absurd above.lt

not-in : (c : ℕ) → c ≢ 4 → IsIn c (under_row ∷ []) → ⊥
not-in c ne (zero, within, is) = ne (sym is)
not-in c ne (suc k, within, is) = absurd (omega (arith, within))

level-cost : (x : Point) → StandsAt (single 4398046511104) (under_row ∷ []) x → x.num 4 ≡ pos 4398046511104 *ℤ x.num one_column
level-cost x stands =
    let eqs = recursion_from_All (λ l. value_at x.num (equation l) ≡ pos 0) (lines (single 4398046511104)) stands.0 in
    let zeros = recursion_from_All (λ m. (IsIn (place m) (under_row ∷ []) → ⊥) → x.num (place m) ≡ pos 0) (marks_of (lines (single 4398046511104))) stands.1 in
    level-value (x.num 4) (x.num 5) (x.num 6) (x.num 7) (x.num one_column) (x.num (attr_column 1)) (pos 0) 1
    (zeros.1.0 (not-in 5 (λ e. absurd (omega (arith, e))))) (zeros.1.1.0 (not-in 6 (λ e. absurd (omega (arith, e))))) (zeros.1.1.1.0 (not-in 7 (λ e. absurd (omega (arith, e)))))
    eqs.0 eqs.1.0

cost-is : (u o p q : ℤ) → pos 1 *ℤ (pos 1 *ℤ u +ℤ pos 0 *ℤ o) +ℤ (pos 1 *ℤ (pos 0 *ℤ p +ℤ pos 0 *ℤ q) +ℤ pos 0) ≡ u
cost-is u o p q = omega (arith, ints)

large_cost : (n : ℤ) (d : ℕ) → IsCostAt (single 4398046511104) (under_row ∷ []) 0 (record { num = n; den = d }) → IsKept (record { num = n; den = d }) → ⊥
large_cost n d (x, stands, is) kept =
    too_large n d
    (level-out (x.num 4) (x.num one_column) n d x.positive (level-cost x stands)
    (ap (λ (z : ℤ). z *ℤ pos d) (sym (cost-is (x.num 4) (x.num 5) (x.num 6) (x.num 7))) ∙ is ∙ ap (λ (z : ℤ). n *ℤ z) (one-times (x.num one_column))))
    kept

-- where x is 0 the required rows cost 2^42
pub level_unfit : IsUnfit (single 4398046511104) [] (under_row ∷ []) (Plain (LevelOf (Priority 1000)))
level_unfit = (0, refl, λ scale times reduced value w cost fits kept. large_cost value.num value.den cost kept)

-- so do they when the first of them joins
pub rows_unfit : IsUnfit (single 4398046511104) [] (under_row ∷ []) (Rows (Priority 1000) 1)
rows_unfit = (
  (0, refl, omega arith, omega arith, λ scale times reduced value w cost fits kept. large_cost value.num value.den cost kept),
  (0, refl, ([], at_least 4398046511104, [], refl, refl, λ i d within. absurd (omega (arith, within)))),
)

-- ---- instances that do not hold

-- a row that is not new
pub old_terms_fit : (k : ℕ) (at : List Mark) (j : ℕ) → IsUnfit (single k) (at_least k ∷ []) at (Terms over_row j) → ⊥
old_terms_fit k at j h = (recursion_from_All (λ r. Held r.id ≢ over_row.row) (at_least k ∷ []) h.1).0 refl

-- a count past the terms and the constant
pub late_terms_fit : (k : ℕ) (old : List Row) (at : List Mark) → IsUnfit (single k) old at (Terms over_row 3) → ⊥
late_terms_fit k old at ((zero, r, within, is, h), fresh) = absurd (omega (arith, h.3, ap (λ (r : Row). length r.terms) is))
late_terms_fit k old at ((suc i, r, within, is, h), fresh) = absurd (omega (arith, within))

-- more changes than there are
pub late_shifts_fit : (at : List Mark) → IsUnfit (single 4398046511104) (at_least 5 ∷ []) at (Shifts (Attr 1) 2) → ⊥
late_shifts_fit at (same, a, b, h) = absurd (omega (arith, b))

-- more rows than the level has
pub late_rows_fit : (k : ℕ) (old : List Row) (at : List Mark) → IsUnfit (single k) old at (Rows (Priority 1000) 2) → ⊥
late_rows_fit k old at ((zero, is, a, b, h), fresh) = absurd (omega (arith, b))
late_rows_fit k old at ((suc n, is, a, b, h), fresh) = absurd (omega (arith, is))

-- `x >= 1`, then `x == 5`, at the corner of the first row's over mark and the stay's: the second row's mark is not inside, so this is no corner
-- before a run
out-second : (c : ℕ) → c ≡ 9 → IsIn c (over_row ∷ over_stay ∷ []) → ⊥
out-second c e (zero, within, is) = absurd (omega (arith, e, is))
out-second c e (suc zero, within, is) = absurd (omega (arith, e, is))
out-second c e (suc (suc k), within, is) = absurd (omega (arith, within))

pub old_terms_of_pair_fit : (j : ℕ) → IsUnfit pair [] (over_row ∷ over_stay ∷ []) (Terms over_row j) → ⊥
old_terms_of_pair_fit j ((i, r, within, is, (same, over, a, b, none)), fresh) =
    let later = (recursion_from_All (λ (s : Row). r.id ≤ s.id → IsIn (place (record { row = Held s.id; side = Over })) (over_row ∷ over_stay ∷ [])) pair.rows over).1.0 in
    let own : 4 * r.id + 1 ≡ 5 = sym (ap place same) in
    out-second 9 refl (later (omega (arith, own)))

-- an equation whose constant is 2^42 times its scale does not fit
pub equation_unfit : IsUnfitEquation 1 [] (pos 4398046511104)
equation_unfit low part value are ratio a b kept = too_large value.num value.den (*ℤ_comm (pos value.den) (pos 4398046511104) ∙ sym ratio) kept

-- nor do a level's numbers where its cost is 2^42
pub sum_unfit : (scale : ℕ) (times : RowName → ℤ) (reduced : ℕ → ℤ) → IsUnfitSum (single 4398046511104) (under_row ∷ []) 0 scale times reduced
sum_unfit scale times reduced low part rest value are cost fits kept = large_cost value.num value.den cost kept

-- ---- the marks of a corner with a row more

not-two : (c a b : ℕ) (m n : Mark) → place m ≡ a → place n ≡ b → c ≢ a → c ≢ b → IsIn c (m ∷ n ∷ []) → ⊥
not-two c a b m n e f no_a no_b (zero, within, is) = no_a (sym is ∙ e)
not-two c a b m n e f no_a no_b (suc zero, within, is) = no_b (sym is ∙ f)
not-two c a b m n e f no_a no_b (suc (suc k), within, is) = absurd (omega (arith, within))

-- the second row has joined over
pub marks_joined : (k : ℕ) → AreJoined (single k) (under_row ∷ []) (under_row ∷ over_second ∷ [])
marks_joined k = record {
  kept = All-from_recursion (λ m. IsIn (place m) (under_row ∷ over_second ∷ [])) (under_row ∷ []) ((0, omega arith, refl), tt);
  no_other = All-from_recursion (λ m. IsIn (place m) (under_row ∷ over_second ∷ []) → IsIn (place m) (under_row ∷ [])) (marks_of (lines (single k))) (
    λ i. (0, omega arith, refl),
    (
      λ i. absurd (not-two 5 4 9 under_row over_second refl refl (λ e. omega (arith, e)) (λ e. omega (arith, e)) i),
      (
        λ i. absurd (not-two 6 4 9 under_row over_second refl refl (λ e. omega (arith, e)) (λ e. omega (arith, e)) i),
        (λ i. absurd (not-two 7 4 9 under_row over_second refl refl (λ e. omega (arith, e)) (λ e. omega (arith, e)) i), tt),
      ),
    ),
  );
}

-- the first row's mark is another one
pub marks_not_joined : (k : ℕ) → AreJoined (single k) (under_row ∷ []) (over_row ∷ over_second ∷ []) → ⊥
marks_not_joined k are = not-two 4 5 9 over_row over_second refl refl (λ e. omega (arith, e)) (λ e. omega (arith, e)) (recursion_from_All (λ m. IsIn (place m) (over_row ∷ over_second ∷ [])) (under_row ∷ []) are.kept).0
