-- The paths of `x >= 5` with its stay at 0: a primal one from the row's under mark, a dual one from its over mark.
use Rattle.std.proofs.Common.{◌≡◌, ◌≢◌, ◌∙◌, ℕ, zero, suc, ◌+◌, ◌*◌, ◌<◌, ◌≤◌, Bool, true, false, cond, nat_eq, List, [], ◌∷◌, map, ℤ, pos, negsuc, ◌+ℤ◌, ◌-ℤ◌, ◌*ℤ◌, ◌<ℤ◌, ◌≤ℤ◌, refl, sym, ap, arith, inl, inr, ◌⊎◌, All, AllPairs, Contains, ne_eqb}
use Rattle.std.proofs.lemmas.List.Elements.{All-from_recursion, recursion_from_All}
use Rattle.std.proofs.lemmas.List.Kept.{AllPairs-cons}
use Rattle.std.proofs.lemmas.Bool.{cases_eq}
use borrow.Author.Differences.{ints}
use Rattle.problem_core.specs.declared.parts.Mark.{Mark}
use Rattle.problem_core.specs.declared.parts.Side.{Side}
use Rattle.problem_core.specs.declared.parts.Side.TheVariants.{Under, Over}
use Rattle.problem_core.specs.declared.parts.RowName.{RowName}
use Rattle.problem_core.specs.declared.parts.RowName.TheVariants.{Held, Stay as StayOf}
use Rattle.problem_core.specs.Layout.{line_of_stay, lines, coefficient, value_at}
use Rattle.problem_core.specs.Certificates.{Multipliers, IsLexNonnegative}
use Rattle.problem_core.specs.Corners.{Agree, AreMultipliersAt, ArePairwiseDifferent, HasNegativeColumn, IsCorner, Point, IsIn, Solves, StandsAt, SameMarks, Swap, NoNegativeColumn, NoNegativeValue, column, marks_of, one_column, attr_column, place, place_of, equation}
use Rattle.problem_core.specs.Levels.{alone}
use Rattle.problem_core.specs.Changes.Paths.{IsPath, IsEndOf}
use Rattle.corner_laws.specs.Examples.{single, at_least, under_row, over_row, over_stay}
use Rattle.frac_core.proofs.Numbers.{zero-up as zero-fits}

pub alone-in : (m : Mark) (c : ℕ) → c ≢ place m → IsIn c (m ∷ []) → ⊥
alone-in m c ne (zero, within, is) = ne (sym is)
alone-in m c ne (suc k, within, is) = absurd (omega (arith, within))

pub same : (k y one : ℤ) → y ≡ k *ℤ one → k *ℤ one ≡ y *ℤ pos 1
same k y one e = omega (arith, ints, e)

apart-one : (m : Mark) → AllPairs (λ (a b : Mark). place a ≢ place b) (m ∷ [])
apart-one m i j d less within = absurd (omega (arith, less, within))

eqs : (x : Point) → Solves (single 5) x
    → (pos 1 *ℤ x.num 4 +ℤ (negsuc 0 *ℤ x.num 5 +ℤ (negsuc 4 *ℤ x.num one_column +ℤ (pos 1 *ℤ x.num (attr_column 1) +ℤ pos 0))) ≡ pos 0)
    × (pos 1 *ℤ x.num 6 +ℤ (negsuc 0 *ℤ x.num 7 +ℤ (pos 0 *ℤ x.num one_column +ℤ (pos 1 *ℤ x.num (attr_column 1) +ℤ pos 0))) ≡ pos 0)
eqs x h = let e = recursion_from_All (λ l. value_at x.num (equation l) ≡ pos 0) (lines (single 5)) h in (e.0, e.1.0)

-- ---- the corner of one mark: u, o the row's deviations, p, q the stay's, a the attribute
pub record Numbers (x : Point) (u o p q a : ℤ) : Type 0 where
  pub under : x.num 4 ≡ u *ℤ x.num one_column
  pub over : x.num 5 ≡ o *ℤ x.num one_column
  pub below : x.num 6 ≡ p *ℤ x.num one_column
  pub above : x.num 7 ≡ q *ℤ x.num one_column
  pub attr : x.num (attr_column 1) ≡ a *ℤ x.num one_column

pub corner-from : (b : ℕ) (m : Mark) (x : Point) (u o p q a : ℤ) → Contains (map place (marks_of (lines (single b)))) (place m) → StandsAt (single b) (m ∷ []) x → x.num one_column ≡ pos 1 → ((y : Point) → StandsAt (single b) (m ∷ []) y → Numbers y u o p q a) → IsCorner (single b) (m ∷ [])
corner-from b m x u o p q a mark stands one all =
    let agree : (v : ℕ) (k : ℤ) (y : Point) → x.num v ≡ k *ℤ x.num one_column → y.num v ≡ k *ℤ y.num one_column → Agree v x y =
    λ v k y e f.
    let g : x.num v ≡ k = e ∙ ap (λ (z : ℤ). k *ℤ z) one ∙ (let h : k *ℤ pos 1 ≡ k = omega (arith, ints) in h) in
    ap (λ (z : ℤ). z *ℤ y.num one_column) g ∙ sym f ∙ (let h : y.num v ≡ y.num v *ℤ pos 1 = omega (arith, ints) in h) ∙ ap (λ (z : ℤ). y.num v *ℤ z) (sym one) in
    let mine = all x stands in
    record {
      count = refl;
      marks = All-from_recursion (λ n. Contains (map place (marks_of (lines (single b)))) (place n)) (m ∷ []) (mark, tt);
      apart = apart-one m;
      point = x;
      stands = stands;
      marks_fixed = λ y h. let yours = all y h in
          All-from_recursion (λ n. Agree (place n) x y) (marks_of (lines (single b)))
          (agree 4 u y mine.under yours.under, (agree 5 o y mine.over yours.over, (agree 6 p y mine.below yours.below, (agree 7 q y mine.above yours.above, tt))));
      attrs_fixed = λ y h. let yours = all y h in
          All-from_recursion (λ s. Agree (attr_column s.attr) x y) (single b).stays (agree (attr_column 1) a y mine.attr yours.attr, tt);
    }

pub zeros-of : (b : ℕ) (m : Mark) (y : Point) → StandsAt (single b) (m ∷ []) y → ((4 ≢ place m → y.num 4 ≡ pos 0) × (5 ≢ place m → y.num 5 ≡ pos 0) × (6 ≢ place m → y.num 6 ≡ pos 0) × (7 ≢ place m → y.num 7 ≡ pos 0))
zeros-of b m y h =
    let z = recursion_from_All (λ n. (IsIn (place n) (m ∷ []) → ⊥) → y.num (place n) ≡ pos 0) (marks_of (lines (single b))) h.1 in
    (λ n. z.0 (alone-in m 4 n), λ n. z.1.0 (alone-in m 5 n), λ n. z.1.1.0 (alone-in m 6 n), λ n. z.1.1.1.0 (alone-in m 7 n))

solve-under : (u o p q one a : ℤ) → o ≡ pos 0 → p ≡ pos 0 → q ≡ pos 0
    → pos 1 *ℤ u +ℤ (negsuc 0 *ℤ o +ℤ (negsuc 4 *ℤ one +ℤ (pos 1 *ℤ a +ℤ pos 0))) ≡ pos 0
    → pos 1 *ℤ p +ℤ (negsuc 0 *ℤ q +ℤ (pos 0 *ℤ one +ℤ (pos 1 *ℤ a +ℤ pos 0))) ≡ pos 0
    → (u ≡ pos 5 *ℤ one) × (o ≡ pos 0 *ℤ one) × (p ≡ pos 0 *ℤ one) × (q ≡ pos 0 *ℤ one) × (a ≡ pos 0 *ℤ one)
solve-under u o p q one a e f g h k = (omega (arith, ints, e, f, g, h, k), omega (arith, ints, e), omega (arith, ints, f), omega (arith, ints, g), omega (arith, ints, f, g, k))

solve-over : (u o p q one a : ℤ) → u ≡ pos 0 → p ≡ pos 0 → q ≡ pos 0
    → pos 1 *ℤ u +ℤ (negsuc 0 *ℤ o +ℤ (negsuc 4 *ℤ one +ℤ (pos 1 *ℤ a +ℤ pos 0))) ≡ pos 0
    → pos 1 *ℤ p +ℤ (negsuc 0 *ℤ q +ℤ (pos 0 *ℤ one +ℤ (pos 1 *ℤ a +ℤ pos 0))) ≡ pos 0
    → (u ≡ pos 0 *ℤ one) × (o ≡ negsuc 4 *ℤ one) × (p ≡ pos 0 *ℤ one) × (q ≡ pos 0 *ℤ one) × (a ≡ pos 0 *ℤ one)
solve-over u o p q one a e f g h k = (omega (arith, ints, e), omega (arith, ints, e, f, g, h, k), omega (arith, ints, f), omega (arith, ints, g), omega (arith, ints, f, g, k))

solve-stay : (u o p q one a : ℤ) → u ≡ pos 0 → o ≡ pos 0 → p ≡ pos 0
    → pos 1 *ℤ u +ℤ (negsuc 0 *ℤ o +ℤ (negsuc 4 *ℤ one +ℤ (pos 1 *ℤ a +ℤ pos 0))) ≡ pos 0
    → pos 1 *ℤ p +ℤ (negsuc 0 *ℤ q +ℤ (pos 0 *ℤ one +ℤ (pos 1 *ℤ a +ℤ pos 0))) ≡ pos 0
    → (u ≡ pos 0 *ℤ one) × (o ≡ pos 0 *ℤ one) × (p ≡ pos 0 *ℤ one) × (q ≡ pos 5 *ℤ one) × (a ≡ pos 5 *ℤ one)
solve-stay u o p q one a e f g h k = (omega (arith, ints, e), omega (arith, ints, f), omega (arith, ints, g), omega (arith, ints, e, f, g, h, k), omega (arith, ints, e, f, h))

pub no : (a b : ℕ) → (a + 1 ≤ b) ⊎ (b + 1 ≤ a) → a ≢ b
no a b (inl h) e = absurd (omega (arith, e, h))
no a b (inr h) e = absurd (omega (arith, e, h))

under-numbers : (y : Point) → StandsAt (single 5) (under_row ∷ []) y → Numbers y (pos 5) (pos 0) (pos 0) (pos 0) (pos 0)
under-numbers y h =
    let z = zeros-of 5 under_row y h in
    let e = eqs y h.0 in
    let s = solve-under (y.num 4) (y.num 5) (y.num 6) (y.num 7) (y.num one_column) (y.num (attr_column 1)) (z.1 (no 5 4 (inr (omega arith)))) (z.2 (no 6 4 (inr (omega arith)))) (z.3 (no 7 4 (inr (omega arith)))) e.0 e.1 in
    record { under = s.0; over = s.1; below = s.2; above = s.3; attr = s.4 }

pub over-numbers : (y : Point) → StandsAt (single 5) (over_row ∷ []) y → Numbers y (pos 0) (negsuc 4) (pos 0) (pos 0) (pos 0)
over-numbers y h =
    let z = zeros-of 5 over_row y h in
    let e = eqs y h.0 in
    let s = solve-over (y.num 4) (y.num 5) (y.num 6) (y.num 7) (y.num one_column) (y.num (attr_column 1)) (z.0 (no 4 5 (inl (omega arith)))) (z.2 (no 6 5 (inr (omega arith)))) (z.3 (no 7 5 (inr (omega arith)))) e.0 e.1 in
    record { under = s.0; over = s.1; below = s.2; above = s.3; attr = s.4 }

stay-numbers : (y : Point) → StandsAt (single 5) (over_stay ∷ []) y → Numbers y (pos 0) (pos 0) (pos 0) (pos 5) (pos 5)
stay-numbers y h =
    let z = zeros-of 5 over_stay y h in
    let e = eqs y h.0 in
    let s = solve-stay (y.num 4) (y.num 5) (y.num 6) (y.num 7) (y.num one_column) (y.num (attr_column 1)) (z.0 (no 4 7 (inl (omega arith)))) (z.1 (no 5 7 (inl (omega arith)))) (z.2 (no 6 7 (inl (omega arith)))) e.0 e.1 in
    record { under = s.0; over = s.1; below = s.2; above = s.3; attr = s.4 }

abbrev pub under_num : ℕ → ℤ
under_num v = cond (nat_eq v 4) (pos 5) (cond (nat_eq v one_column) (pos 1) (pos 0))

abbrev pub over_num : ℕ → ℤ
over_num v = cond (nat_eq v 5) (negsuc 4) (cond (nat_eq v one_column) (pos 1) (pos 0))

abbrev pub stay_num : ℕ → ℤ
stay_num v = cond (nat_eq v 7) (pos 5) (cond (nat_eq v (attr_column 1)) (pos 5) (cond (nat_eq v one_column) (pos 1) (pos 0)))

abbrev pub under_point : Point
under_point = record { num = under_num; positive = record { lt = tt } }

abbrev pub over_point : Point
over_point = record { num = over_num; positive = record { lt = tt } }

abbrev stay_point : Point
stay_point = record { num = stay_num; positive = record { lt = tt } }

pub under-stands : StandsAt (single 5) (under_row ∷ []) under_point
under-stands = (
  All-from_recursion (λ l. value_at under_num (equation l) ≡ pos 0) (lines (single 5)) (refl, (refl, tt)),
  All-from_recursion (λ m. (IsIn (place m) (under_row ∷ []) → ⊥) → under_num (place m) ≡ pos 0) (marks_of (lines (single 5))) (λ o. absurd (o (0, omega arith, refl)), (λ o. refl, (λ o. refl, (λ o. refl, tt)))),
)

pub over-stands : StandsAt (single 5) (over_row ∷ []) over_point
over-stands = (
  All-from_recursion (λ l. value_at over_num (equation l) ≡ pos 0) (lines (single 5)) (refl, (refl, tt)),
  All-from_recursion (λ m. (IsIn (place m) (over_row ∷ []) → ⊥) → over_num (place m) ≡ pos 0) (marks_of (lines (single 5))) (λ o. refl, (λ o. absurd (o (0, omega arith, refl)), (λ o. refl, (λ o. refl, tt)))),
)

stay-stands : StandsAt (single 5) (over_stay ∷ []) stay_point
stay-stands = (
  All-from_recursion (λ l. value_at stay_num (equation l) ≡ pos 0) (lines (single 5)) (refl, (refl, tt)),
  All-from_recursion (λ m. (IsIn (place m) (over_stay ∷ []) → ⊥) → stay_num (place m) ≡ pos 0) (marks_of (lines (single 5))) (λ o. refl, (λ o. refl, (λ o. refl, (λ o. absurd (o (0, omega arith, refl)), tt)))),
)

pub under_corner : IsCorner (single 5) (under_row ∷ [])
under_corner = corner-from 5 under_row under_point (pos 5) (pos 0) (pos 0) (pos 0) (pos 0) (0, omega arith, refl) under-stands refl under-numbers

pub over_corner : IsCorner (single 5) (over_row ∷ [])
over_corner = corner-from 5 over_row over_point (pos 0) (negsuc 4) (pos 0) (pos 0) (pos 0) (1, omega arith, refl) over-stands refl over-numbers

pub stay_corner : IsCorner (single 5) (over_stay ∷ [])
stay_corner = corner-from 5 over_stay stay_point (pos 0) (pos 0) (pos 0) (pos 5) (pos 5) (3, omega arith, refl) stay-stands refl stay-numbers

-- ---- values and columns

pub one-value : (m : Mark) (x : Point) → pos 0 ≤ℤ x.num (place m) → All (λ n. pos 0 ≤ℤ x.num (place n)) (m ∷ [])
one-value m x h = All-from_recursion (λ n. pos 0 ≤ℤ x.num (place n)) (m ∷ []) (h, tt)

pub under-sound : NoNegativeValue (single 5) (under_row ∷ [])
under-sound = (under_point, under-stands, one-value under_row under_point (record { le = tt }))

pub stay-sound : NoNegativeValue (single 5) (over_stay ∷ [])
stay-sound = (stay_point, stay-stands, one-value over_stay stay_point (record { le = tt }))

-- the row's multiplier is y at this level and the stay's is -y
abbrev opposites : ℕ → ℕ → RowName → ℤ
opposites here level (Held id) = cond (nat_eq level here) (pos 1) (pos 0)
opposites here level (StayOf attr) = cond (nat_eq level here) (negsuc 0) (pos 0)

abbrev by_level : ℕ → Multipliers
by_level here = record { scale = λ k. 1; times = λ k name. opposites here k name }

opposed : (b : Bool) (c : ℤ) → cond b (pos 1) (pos 0) *ℤ c +ℤ (cond b (negsuc 0) (pos 0) *ℤ c +ℤ pos 0) ≡ pos 0
opposed true c = omega (arith, ints)
opposed false c = omega (arith, ints)

first-zero : (level : ℕ) → pos (1 * cond (nat_eq 0 level) 1 0) -ℤ pos 1 *ℤ cond (nat_eq level 0) (pos 1) (pos 0) ≡ pos 0
first-zero zero = refl
first-zero (suc n) = rw (ne_eqb 0 (suc n) (λ e. absurd (omega (arith, e))), ne_eqb (suc n) 0 (λ e. absurd (omega (arith, e)))) refl

under-inside : (side : Side) → All (λ l. IsIn (place_of l.name side) (under_row ∷ []) → (level : ℕ) → column (by_level 0) side l level ≡ pos 0) (lines (single 5))
under-inside Under = All-from_recursion (λ l. IsIn (place_of l.name Under) (under_row ∷ []) → (level : ℕ) → column (by_level 0) Under l level ≡ pos 0) (lines (single 5))
    (λ i level. first-zero level, (λ i. absurd (alone-in under_row 6 (no 6 4 (inr (omega arith))) i), tt))
under-inside Over = All-from_recursion (λ l. IsIn (place_of l.name Over) (under_row ∷ []) → (level : ℕ) → column (by_level 0) Over l level ≡ pos 0) (lines (single 5))
    (λ i. absurd (alone-in under_row 5 (no 5 4 (inr (omega arith))) i), (λ i. absurd (alone-in under_row 7 (no 7 4 (inr (omega arith))) i), tt))

under-multipliers : AreMultipliersAt (single 5) (under_row ∷ []) (by_level 0)
under-multipliers = record {
  scales = λ k. omega arith;
  cancel = λ level v. opposed (nat_eq level 0) (coefficient v (at_least 5).terms);
  inside_zero = under-inside;
}

-- the column of the stay's over mark is negative there: x can rise towards its bound
pub under-negative : HasNegativeColumn (single 5) (under_row ∷ []) over_stay
under-negative = (by_level 0, under-multipliers, (1, line_of_stay 1001 (record { attr = 1; target = record { num = pos 0; den = 1 } }), omega arith, refl, (refl, (0, (λ k h. absurd (omega (arith, h))), record { lt = tt }))))

below-zero : (d : ℕ) (y z : ℤ) → 0 < d → pos (d * 1) -ℤ pos 1 *ℤ y ≡ pos 0 → y *ℤ pos 1 +ℤ (z *ℤ pos 1 +ℤ pos 0) ≡ pos 0 → pos 0 ≤ℤ (pos (d * 0) +ℤ pos 1 *ℤ z) → ⊥
below-zero d y z above e f h = absurd (omega (arith, ints, above, e, f, h))

not-nonnegative : (m : Multipliers) → AreMultipliersAt (single 5) (under_row ∷ []) m → pos 0 ≤ℤ (pos (m.scale 0 * 0) +ℤ pos 1 *ℤ m.times 0 (StayOf 1)) → ⊥
not-nonnegative m is h =
    below-zero (m.scale 0) (m.times 0 (Held 1)) (m.times 0 (StayOf 1)) (is.scales 0)
    ((recursion_from_All (λ l. IsIn (place_of l.name Under) (under_row ∷ []) → (level : ℕ) → column m Under l level ≡ pos 0) (lines (single 5)) (is.inside_zero Under)).0 (0, omega arith, refl) 0)
    (is.cancel 0 1) h

pub under_no_end : IsEndOf false (single 5) (under_row ∷ []) → ⊥
under_no_end (inl (m, is, columns)) = not-nonnegative m is ((recursion_from_All (λ l. IsLexNonnegative (column m Over l)) (lines (single 5)) (columns Over)).1.0 0 (λ k h. absurd (omega (arith, h))))
under_no_end (inr (cost, (m, is, columns))) = not-nonnegative m is ((recursion_from_All (λ l. pos 0 ≤ℤ column m Over l 0) (lines (single 5)) (columns Over)).1.0)

-- ---- the paths

pub different : (m n : Mark) → place m ≢ place n → SameMarks (m ∷ []) (n ∷ []) → ⊥
different m n ne both = alone-in n (place m) ne ((recursion_from_All (λ k. IsIn (place k) (n ∷ [])) (m ∷ []) both.0).0)

two-apart : (m n : Mark) → place m ≢ place n → ArePairwiseDifferent ((m ∷ []) ∷ (n ∷ []) ∷ [])
two-apart m n ne =
    AllPairs-cons (λ (a b : List Mark). SameMarks a b → ⊥) (m ∷ []) ((n ∷ []) ∷ []) (All-from_recursion (λ (b : List Mark). SameMarks (m ∷ []) b → ⊥) ((n ∷ []) ∷ []) (different m n ne, tt))
    (λ i j d less within. absurd (omega (arith, less, within)))

-- `in 1-`, `swap s1+ 1-`
pub primal_path : IsPath false (single 5) (under_row ∷ []) (record { enter = over_stay; leave = under_row } ∷ [])
primal_path = record {
  corner = under_corner;
  apart = two-apart under_row over_stay (no 4 7 (inl (omega arith)));
  lawful = (
    under-sound,
    under_no_end,
    record { enters = alone-in under_row 7 (no 7 4 (inr (omega arith))); leaves = (0, omega arith, refl); corner = stay_corner },
    under-negative,
    stay-sound,
  );
}

pub below-five : (one : ℤ) (v : ℤ) → pos 0 <ℤ one → v ≡ negsuc 4 *ℤ one → pos 0 ≤ℤ v → ⊥
below-five one v h e k = absurd (omega (arith, ints, h, e, k))

-- a value is below 0 at `in 1+`, so no primal path begins there
pub no_primal_path : (swaps : List Swap) → IsPath false (single 5) (over_row ∷ []) swaps → ⊥
no_primal_path [] path = (λ (h : NoNegativeValue (single 5) (over_row ∷ [])). below-five (h.0.num one_column) (h.0.num 5) h.0.positive ((over-numbers h.0 h.1).over) ((recursion_from_All (λ n. pos 0 ≤ℤ h.0.num (place n)) (over_row ∷ []) h.2).0)) path.lawful
no_primal_path (s ∷ swaps) path = (λ (h : NoNegativeValue (single 5) (over_row ∷ [])). below-five (h.0.num one_column) (h.0.num 5) h.0.positive ((over-numbers h.0 h.1).over) ((recursion_from_All (λ n. pos 0 ≤ℤ h.0.num (place n)) (over_row ∷ []) h.2).0)) path.lawful.0

-- ---- the dual path

over-inside : (side : Side) → All (λ l. IsIn (place_of l.name side) (over_row ∷ []) → (level : ℕ) → column (alone 1 (λ name. pos 0)) side l level ≡ pos 0) (lines (single 5))
over-inside Under = All-from_recursion (λ l. IsIn (place_of l.name Under) (over_row ∷ []) → (level : ℕ) → column (alone 1 (λ name. pos 0)) Under l level ≡ pos 0) (lines (single 5))
    (λ i. absurd (alone-in over_row 4 (no 4 5 (inl (omega arith))) i), (λ i. absurd (alone-in over_row 6 (no 6 5 (inr (omega arith))) i), tt))
over-inside Over = All-from_recursion (λ l. IsIn (place_of l.name Over) (over_row ∷ []) → (level : ℕ) → column (alone 1 (λ name. pos 0)) Over l level ≡ pos 0) (lines (single 5))
    (λ i level. refl, (λ i. absurd (alone-in over_row 7 (no 7 5 (inr (omega arith))) i), tt))

no-cost : (n : ℕ) → pos 0 ≤ℤ (pos n -ℤ pos 1 *ℤ pos 0)
no-cost n = omega (arith, ints)

no-over-cost : (n : ℕ) → pos 0 ≤ℤ (pos n +ℤ pos 1 *ℤ pos 0)
no-over-cost n = omega (arith, ints)

over-columns : (side : Side) → All (λ l. IsLexNonnegative (column (alone 1 (λ name. pos 0)) side l)) (lines (single 5))
over-columns Under = All-from_recursion (λ l. IsLexNonnegative (column (alone 1 (λ name. pos 0)) Under l)) (lines (single 5)) (λ level h. no-cost _, (λ level h. no-cost _, tt))
over-columns Over = All-from_recursion (λ l. IsLexNonnegative (column (alone 1 (λ name. pos 0)) Over l)) (lines (single 5)) (λ level h. no-over-cost 0, (λ level h. no-over-cost (1 * cond (nat_eq 1001 level) 1 0), tt))

pub over-sound : NoNegativeColumn (single 5) (over_row ∷ [])
over-sound = (alone 1 (λ name. pos 0), record { scales = λ k. omega arith; cancel = λ level v. (let h : (c : ℤ) → pos 0 *ℤ c +ℤ (pos 0 *ℤ c +ℤ pos 0) ≡ pos 0 = λ c. omega (arith, ints) in h (coefficient v (at_least 5).terms)); inside_zero = over-inside }, over-columns)

cost-none : (u o p q : ℤ) → u ≡ pos 0 → pos 0 <ℤ (pos 1 *ℤ (pos 1 *ℤ u +ℤ pos 0 *ℤ o) +ℤ (pos 1 *ℤ (pos 0 *ℤ p +ℤ pos 0 *ℤ q) +ℤ pos 0)) → ⊥
cost-none u o p q e h = absurd (omega (arith, ints, e, h))

-- a value is below 0, and the required rows cost nothing there
pub over_no_end : IsEndOf true (single 5) (over_row ∷ []) → ⊥
over_no_end (inl (x, stands, values)) = below-five (x.num one_column) (x.num 5) x.positive ((over-numbers x stands).over) ((recursion_from_All (λ n. pos 0 ≤ℤ x.num (place n)) (over_row ∷ []) values).0)
over_no_end (inr (x, stands, cost)) = cost-none (x.num 4) (x.num 5) (x.num 6) (x.num 7) ((zeros-of 5 over_row x stands).0 (no 4 5 (inl (omega arith)))) cost

stay-first : (level : ℕ) → pos (1 * cond (nat_eq 1001 level) 1 0) +ℤ pos 1 *ℤ cond (nat_eq level 1001) (negsuc 0) (pos 0) ≡ pos 0
stay-first level = elim (cases_eq level 1001) [
  | inl e ↦ rw e refl
  | inr n ↦ rw (ne_eqb level 1001 n, ne_eqb 1001 level (λ e. n (sym e))) refl
]

stay-inside : (side : Side) → All (λ l. IsIn (place_of l.name side) (over_stay ∷ []) → (level : ℕ) → column (by_level 1001) side l level ≡ pos 0) (lines (single 5))
stay-inside Under = All-from_recursion (λ l. IsIn (place_of l.name Under) (over_stay ∷ []) → (level : ℕ) → column (by_level 1001) Under l level ≡ pos 0) (lines (single 5))
    (λ i. absurd (alone-in over_stay 4 (no 4 7 (inl (omega arith))) i), (λ i. absurd (alone-in over_stay 6 (no 6 7 (inl (omega arith))) i), tt))
stay-inside Over = All-from_recursion (λ l. IsIn (place_of l.name Over) (over_stay ∷ []) → (level : ℕ) → column (by_level 1001) Over l level ≡ pos 0) (lines (single 5))
    (λ i. absurd (alone-in over_stay 5 (no 5 7 (inl (omega arith))) i), (λ i level. stay-first level, tt))

weighed-first : (level : ℕ) → ((k : ℕ) → k < level → pos (1 * cond (nat_eq 0 k) 1 0) -ℤ pos 1 *ℤ cond (nat_eq k 1001) (pos 1) (pos 0) ≡ pos 0) → pos 0 ≤ℤ (pos (1 * cond (nat_eq 0 level) 1 0) -ℤ pos 1 *ℤ cond (nat_eq level 1001) (pos 1) (pos 0))
weighed-first zero h = record { le = tt }
weighed-first (suc n) h = absurd (omega (arith, ints, h 0 (omega arith)))

plus-either : (b : Bool) (n : ℕ) → pos 0 ≤ℤ (pos n +ℤ pos 1 *ℤ cond b (pos 1) (pos 0))
plus-either true n = omega (arith, ints)
plus-either false n = omega (arith, ints)

less-either : (b : Bool) (n : ℕ) → pos 0 ≤ℤ (pos n -ℤ pos 1 *ℤ cond b (negsuc 0) (pos 0))
less-either true n = omega (arith, ints)
less-either false n = omega (arith, ints)

stay-columns : (side : Side) → All (λ l. IsLexNonnegative (column (by_level 1001) side l)) (lines (single 5))
stay-columns Under = All-from_recursion (λ l. IsLexNonnegative (column (by_level 1001) Under l)) (lines (single 5)) (λ level h. weighed-first level h, (λ level h. less-either (nat_eq level 1001) _, tt))
stay-columns Over = All-from_recursion (λ l. IsLexNonnegative (column (by_level 1001) Over l)) (lines (single 5)) (λ level h. plus-either (nat_eq level 1001) _, (λ level h. zero-fits _ (stay-first level), tt))

stay-end : NoNegativeColumn (single 5) (over_stay ∷ [])
stay-end = (by_level 1001, record { scales = λ k. omega arith; cancel = λ level v. opposed (nat_eq level 1001) (coefficient v (at_least 5).terms); inside_zero = stay-inside }, stay-columns)

pub both_end : IsEndOf false (single 5) (over_stay ∷ []) × IsEndOf true (single 5) (over_stay ∷ [])
both_end = (inl stay-end, inl stay-sound)

-- `in 1+`, `swap s1+ 1+`
pub dual_path : IsPath true (single 5) (over_row ∷ []) (record { enter = over_stay; leave = over_row } ∷ [])
dual_path = record {
  corner = over_corner;
  apart = two-apart over_row over_stay (no 5 7 (inl (omega arith)));
  lawful = (
    over-sound,
    over_no_end,
    record { enters = alone-in over_row 7 (no 7 5 (inr (omega arith))); leaves = (0, omega arith, refl); corner = stay_corner },
    (over_point, over-stands, record { lt = tt }),
    stay-end,
  );
}
