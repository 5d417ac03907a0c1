-- Multipliers that refute some rows, and name just some of these, refute those.
use Rattle.std.proofs.Common.{◌≡◌, ◌∙◌, ℕ, ◌*◌, ◌/◌, ◌<◌, Bool, true, false, cond, nat_eq, List, [], ◌∷◌, filter, ℤ, pos, ◌+ℤ◌, ◌*ℤ◌, ◌<ℤ◌, refl, sym, ap, ap₂, subst, arith, All, true≢false, mul-pos}
use Rattle.std.specs.List.{AllByRecursion as Each}
use Rattle.std.proofs.lemmas.Bool.{and_from, and_parts, false_from_ne_true, or_parts}
use Rattle.std.proofs.lemmas.List.Elements.{recursion_from_All, All-from_recursion, filter_passes}
use borrow.Author.Differences.{ints}
use Rattle.frac_core.proofs.Integers.{mul_left_comm_ℤ, positive_from, zero-mul_ℤ}
use Rattle.problem_core.specs.declared.limits.TheConstants.{REQUIRED}
use Rattle.problem_core.specs.declared.parts.RowName.{RowName}
use Rattle.problem_core.specs.declared.parts.RowName.TheVariants.{Held, Stay as StayOf}
use Rattle.problem_core.specs.Layout.{Problem, Row, coefficient, product_of, sum_of}
use Rattle.problem_core.specs.Kept.{IsRow, IsWhole}
use Rattle.problem_core.specs.Certificates.{HasSign, IsRefutation, required}
use Rattle.problem_core.proofs.Best.Midpoints.{cancel}
use Rattle.problem_core.proofs.Forms.{each-both, each-filter, each-impl, mul-sum, product-shares}
use Rattle.cert_core.specs.declared.by.By.{By}
use Rattle.cert_core.specs.Claims.{same_row, times_of}
use Rattle.conflict_core.specs.Cores.{is_among, is_tried, trial}
use Rattle.conflict_core.specs.Searches.{named, numbered}
use Rattle.conflict_core.proofs.Among.{IsPart}
use Rattle.conflict_core.proofs.TrialRows.{fewer, tried-more}

-- ---- a row that isn't named has the multiplier 0

off-step : (row : RowName) (times rest : ℤ) (more : List ℕ) (id : ℕ) → is_among (numbered row more) id ≡ false → (is_among more id ≡ false → rest ≡ pos 0) → cond (same_row row (Held id)) times (pos 0) +ℤ rest ≡ pos 0
off-step (Held n) times rest more id none h =
    let both = or_parts (nat_eq n id) (is_among more id) none in
    let zero : rest ≡ pos 0 = h both.1 in
    ap (λ (b : Bool). cond b times (pos 0) +ℤ rest) both.0 ∙ ap (λ (z : ℤ). pos 0 +ℤ z) zero
off-step (StayOf n) times rest more id none h = ap (λ (z : ℤ). pos 0 +ℤ z) (h none)

pub unnamed_times : (by : List By) (id : ℕ) → is_among (named by) id ≡ false → times_of by (Held id) ≡ pos 0
unnamed_times [] id none = refl
unnamed_times (b ∷ by) id none = off-step b.row b.times (times_of by (Held id)) (named by) id none (unnamed_times by id)

-- ---- sums and products over fewer rows

sum-step : (f g : Bool) (r : Row) (h : Row → ℤ) (fs gs : List Row) → (f ≡ true → g ≡ true) → (g ≡ true → f ≡ false → h r ≡ pos 0) → sum_of h gs ≡ sum_of h fs → sum_of h (cond g (r ∷ gs) gs) ≡ sum_of h (cond f (r ∷ fs) fs)
sum-step true true r h fs gs imp off e = ap (λ (z : ℤ). h r +ℤ z) e
sum-step true false r h fs gs imp off e = absurd (true≢false (sym (imp refl)))
sum-step false true r h fs gs imp off e = let zero = off refl refl in omega (arith, ints, zero, e)
sum-step false false r h fs gs imp off e = e

-- where the terms of the others are 0 the sum is that over fewer rows
sum-fewer : (f g : Row → Bool) → ((r : Row) → f r ≡ true → g r ≡ true) → (h : Row → ℤ) → ((r : Row) → g r ≡ true → f r ≡ false → h r ≡ pos 0) → (rows : List Row) → sum_of h (filter g rows) ≡ sum_of h (filter f rows)
sum-fewer f g imp h off [] = refl
sum-fewer f g imp h off (r ∷ rows) = sum-step (f r) (g r) r h (filter f rows) (filter g rows) (imp r) (off r) (sum-fewer f g imp h off rows)

abbrev IsMultiple : ℕ → ℕ → Type 0
IsMultiple whole part = (k : ℕ) × (0 < k) × (whole ≡ k * part)

product-step : (f g : Bool) (r : Row) (d : Row → ℕ) (fs gs : List Row) → (f ≡ true → g ≡ true) → 0 < d r → IsMultiple (product_of d gs) (product_of d fs) → IsMultiple (product_of d (cond g (r ∷ gs) gs)) (product_of d (cond f (r ∷ fs) fs))
product-step true true r d fs gs imp above (k, up, e) = (k, up, let h = ap (λ (n : ℕ). d r * n) e in omega (arith, h))
product-step true false r d fs gs imp above m = absurd (true≢false (sym (imp refl)))
product-step false true r d fs gs imp above (k, up, e) = (d r * k, mul-pos above up, let h = ap (λ (n : ℕ). d r * n) e in omega (arith, h))
product-step false false r d fs gs imp above m = m

product-fewer : (f g : Row → Bool) → ((r : Row) → f r ≡ true → g r ≡ true) → (d : Row → ℕ) (rows : List Row) → Each (λ r. 0 < d r) rows → IsMultiple (product_of d (filter g rows)) (product_of d (filter f rows))
product-fewer f g imp d [] above = (1, omega arith, refl)
product-fewer f g imp d (r ∷ rows) above = product-step (f r) (g r) r d (filter f rows) (filter g rows) (imp r) above.0 (product-fewer f g imp d rows above.1)

-- a share of the whole is as many times that of the part
share-is : (whole part k d a b : ℕ) → a * d ≡ whole → b * d ≡ part → whole ≡ k * part → 0 < d → a ≡ k * b
share-is whole part k d a b ha hb e above = cancel d a (k * b) above (let h = ap (λ (n : ℕ). k * n) hb in omega (arith, ha, h, e))

sum-each : (f g : Row → ℤ) (rows : List Row) → Each (λ r. f r ≡ g r) rows → sum_of f rows ≡ sum_of g rows
sum-each f g [] h = refl
sum-each f g (r ∷ rows) h = ap₂ ◌+ℤ◌ h.0 (sum-each f g rows h.1)

-- ---- the rows of a trial are required

filter-all : (test : Row → Bool) (rows : List Row) → Each (λ r. test r ≡ true) rows → filter test rows ≡ rows
filter-all test [] h = refl
filter-all test (r ∷ rows) h = ap (λ (b : Bool). cond b (r ∷ filter test rows) (filter test rows)) h.0 ∙ ap (λ (rs : List Row). r ∷ rs) (filter-all test rows h.1)

pub required_trial : (p : Problem) (ids : List ℕ) → required (trial p ids) ≡ filter (is_tried ids) p.rows
required_trial p ids =
    filter-all (λ r. nat_eq r.rank REQUIRED) (filter (is_tried ids) p.rows)
    (each-impl (λ r. is_tried ids r ≡ true) (λ r. nat_eq r.rank REQUIRED ≡ true) (filter (is_tried ids) p.rows) (λ r h. (and_parts (nat_eq r.rank REQUIRED) (is_among ids r.id) h).0)
    (recursion_from_All (λ r. is_tried ids r ≡ true) (filter (is_tried ids) p.rows) (filter_passes (is_tried ids) p.rows)))

-- ---- refutations

abbrev pub den_of : Row → ℕ
den_of r = r.constant.den

-- what the row's constant comes to over the whole, times its multiplier
abbrev pub amount : (ℕ → ℤ) → ℕ → Row → ℤ
amount y whole r = y r.id *ℤ (r.constant.num *ℤ pos (whole / r.constant.den))

-- the rows, each times its multiplier, add up to `0 >= c` with c above 0
pub record Refute (rows : List Row) (y : ℕ → ℤ) : Type 0 where
  pub cancel : (v : ℕ) → sum_of (λ r. y r.id *ℤ coefficient v r.terms) rows ≡ pos 0
  pub signs : All (λ r. HasSign r.rel (y r.id)) rows
  pub above_zero : pos 0 <ℤ sum_of (amount y (product_of den_of rows)) rows

refuted : (p : Problem) (ids : List ℕ) (y : ℕ → ℤ) → IsRefutation (trial p ids) y → Refute (filter (is_tried ids) p.rows) y
refuted p ids y h =
    subst (λ (rows : List Row). Refute rows y) (required_trial p ids) (record { cancel = h.cancel; signs = h.signs; above_zero = h.above_zero })

pub refuting : (p : Problem) (ids : List ℕ) (y : ℕ → ℤ) → Refute (filter (is_tried ids) p.rows) y → IsRefutation (trial p ids) y
refuting p ids y h =
    let k : Refute (required (trial p ids)) y = subst (λ (rows : List Row). Refute rows y) (sym (required_trial p ids)) h in
    record { cancel = k.cancel; signs = k.signs; above_zero = k.above_zero }

module _ (f g : Row → Bool) (imp : (r : Row) → f r ≡ true → g r ≡ true) (y : ℕ → ℤ) (off : (r : Row) → g r ≡ true → f r ≡ false → y r.id ≡ pos 0) (rows : List Row) (above : Each (λ r. 0 < den_of r) rows) where
  whole : ℕ
  whole = product_of den_of (filter g rows)

  part : ℕ
  part = product_of den_of (filter f rows)

  multiple : IsMultiple (product_of den_of (filter g rows)) (product_of den_of (filter f rows))
  multiple = product-fewer f g imp den_of rows above

  shares : Each (λ r. product_of den_of (filter g rows) / den_of r ≡ multiple.0 * (product_of den_of (filter f rows) / den_of r)) (filter f rows)
  shares =
      each-impl (λ r. ((product_of den_of (filter g rows) / den_of r * den_of r ≡ product_of den_of (filter g rows)) × (product_of den_of (filter f rows) / den_of r * den_of r ≡ product_of den_of (filter f rows))) × (0 < den_of r)) _ (filter f rows)
      (λ r h. share-is (product_of den_of (filter g rows)) (product_of den_of (filter f rows)) multiple.0 (den_of r) (product_of den_of (filter g rows) / den_of r) (product_of den_of (filter f rows) / den_of r) h.0.0 h.0.1 multiple.2 h.1)
      (each-both _ _ (filter f rows)
      (each-both _ _ (filter f rows)
      (fewer (λ r. product_of den_of (filter g rows) / den_of r * den_of r ≡ product_of den_of (filter g rows)) f g imp rows (product-shares den_of (filter g rows) (product_of den_of (filter g rows)) 1 (omega arith) (each-filter (λ r. 0 < den_of r) g rows above)))
      (product-shares den_of (filter f rows) (product_of den_of (filter f rows)) 1 (omega arith) (each-filter (λ r. 0 < den_of r) f rows above)))
      (each-filter (λ r. 0 < den_of r) f rows above))

  scaled : (y1 c : ℤ) (a k b : ℕ) → a ≡ k * b → y1 *ℤ (c *ℤ pos a) ≡ pos k *ℤ (y1 *ℤ (c *ℤ pos b))
  scaled y1 c a k b e =
      ap (λ (n : ℕ). y1 *ℤ (c *ℤ pos n)) e ∙ ap (λ (z : ℤ). y1 *ℤ z) (mul_left_comm_ℤ c (pos k) (pos b)) ∙ mul_left_comm_ℤ y1 (pos k) (c *ℤ pos b)

  amounts : sum_of (amount y (product_of den_of (filter g rows))) (filter g rows) ≡ pos multiple.0 *ℤ sum_of (amount y (product_of den_of (filter f rows))) (filter f rows)
  amounts =
      sum-fewer f g imp (amount y (product_of den_of (filter g rows))) (λ r passes fails. ap (λ (z : ℤ). z *ℤ (r.constant.num *ℤ pos (product_of den_of (filter g rows) / r.constant.den))) (off r passes fails) ∙ zero-mul_ℤ (r.constant.num *ℤ pos (product_of den_of (filter g rows) / r.constant.den))) rows
      ∙ sum-each (amount y (product_of den_of (filter g rows))) (λ r. pos multiple.0 *ℤ amount y (product_of den_of (filter f rows)) r) (filter f rows)
      (each-impl (λ r. product_of den_of (filter g rows) / den_of r ≡ multiple.0 * (product_of den_of (filter f rows) / den_of r)) _ (filter f rows)
      (λ r e. scaled (y r.id) r.constant.num (product_of den_of (filter g rows) / den_of r) multiple.0 (product_of den_of (filter f rows) / den_of r) e) shares)
      ∙ mul-sum (pos multiple.0) (amount y (product_of den_of (filter f rows))) (filter f rows)

  refute-fewer : Refute (filter g rows) y → Refute (filter f rows) y
  refute-fewer h = record {
    cancel = λ v.
        sym (sum-fewer f g imp (λ r. y r.id *ℤ coefficient v r.terms) (λ r passes fails. ap (λ (z : ℤ). z *ℤ coefficient v r.terms) (off r passes fails) ∙ zero-mul_ℤ (coefficient v r.terms)) rows) ∙ h.cancel v;
    signs = All-from_recursion (λ r. HasSign r.rel (y r.id)) (filter f rows)
        (fewer (λ r. HasSign r.rel (y r.id)) f g imp rows (recursion_from_All (λ r. HasSign r.rel (y r.id)) (filter g rows) h.signs));
    above_zero = positive_from multiple.0 (sum_of (amount y (product_of den_of (filter f rows))) (filter f rows)) (subst (λ (z : ℤ). pos 0 <ℤ z) amounts h.above_zero);
  }

dens-above : (p : Problem) → IsWhole p → Each (λ r. 0 < den_of r) p.rows
dens-above p whole = each-impl IsRow (λ r. 0 < den_of r) p.rows (λ r h. h.constant.lowest.above) (recursion_from_All IsRow p.rows whole.rows)

untried : (xs ys : List ℕ) (r : Row) → is_tried ys r ≡ true → is_tried xs r ≡ false → is_among xs r.id ≡ false
untried xs ys r passes fails =
    let req : nat_eq r.rank REQUIRED ≡ true = (and_parts (nat_eq r.rank REQUIRED) (is_among ys r.id) passes).0 in
    false_from_ne_true (is_among xs r.id) (λ among. true≢false (sym (and_from (nat_eq r.rank REQUIRED) (is_among xs r.id) req among) ∙ fails))

pub part_refutes : (p : Problem) (xs ys : List ℕ) (y : ℕ → ℤ) → IsWhole p → IsPart xs ys → ((id : ℕ) → is_among xs id ≡ false → y id ≡ pos 0) → IsRefutation (trial p ys) y → IsRefutation (trial p xs) y
part_refutes p xs ys y whole part off h =
    refuting p xs y
    (refute-fewer (is_tried xs) (is_tried ys) (tried-more xs ys part) y (λ r passes fails. off r.id (untried xs ys r passes fails)) p.rows (dens-above p whole) (refuted p ys y h))
