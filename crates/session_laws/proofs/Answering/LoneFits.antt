-- Each quantity of a problem of one attribute fits at each corner, with a row that gives it -1, 0 or 1, and without.
use Rattle.std.proofs.Common.{◌≡◌, ◌≢◌, ◌∙◌, ℕ, zero, suc, ◌+◌, ◌*◌, ◌≤◌, Bool, true, false, cond, nat_eq, List, [], ◌∷◌, ◌++◌, length, map, ℤ, pos, negsuc, ◌+ℤ◌, ◌-ℤ◌, ◌*ℤ◌, neg_ℤ, refl, sym, ap, ap₂, subst, arith, inl, inr, All, Contains, ne_eqb}
use Rattle.std.proofs.lemmas.List.Elements.{All-from_recursion, recursion_from_All}
use Rattle.std.proofs.lemmas.Nat.Gcd.{IsGcd-from_mod, IsGcd-from_zero, dvd_antisymm}
use Rattle.std.proofs.Math.Nat.{one-dvd}
use borrow.Author.Differences.{ints}
use Rattle.frac_core.specs.Fraction.{IsFitting, IsKept}
use Rattle.frac_core.proofs.Integers.{mul-zero_ℤ, zero-mul_ℤ}
use Rattle.problem_core.specs.declared.parts.Mark.{Mark}
use Rattle.problem_core.specs.declared.parts.RowName.{RowName}
use Rattle.problem_core.specs.declared.parts.RowName.TheVariants.{Held, Stay as StayOf}
use Rattle.problem_core.specs.declared.parts.Side.{Side}
use Rattle.problem_core.specs.declared.parts.Side.TheVariants.{Under, Over}
use Rattle.problem_core.specs.declared.parts.Stay.{Stay}
use Rattle.problem_core.specs.declared.parts.Term.{Term}
use Rattle.problem_core.specs.declared.stops.Quantity.TheVariants.{Plain, Terms, Rows, Shifts}
use Rattle.problem_core.specs.declared.stops.What.TheVariants.{Attr, Mark as MarkOf, Level as LevelOf}
use Rattle.problem_core.specs.Kept.{IsRow, IsStay, IsTerm, IsWhole}
use Rattle.problem_core.specs.Layout.{HasStay, IsCovered, Problem, Row, coefficient, lines, value_at}
use Rattle.problem_core.specs.Window.{zero_fraction}
use Rattle.problem_core.specs.Corners.{IsCorner, IsIn, Point, Solves, StandsAt, attr_column, column, equation, marks_of, one_column, place, place_of}
use Rattle.problem_core.specs.Levels.{AreFitting, HasNoLevelWriting, IsLevelWriting, alone, cost_at}
use Rattle.problem_core.specs.Unfit.{AreOverFrom, HasNoWriting, changes, first_terms, lightened, over_mark, with_first_rows, without_weight}
use Rattle.problem_core.proofs.Corners.CornerFacts.{is_place}
use Rattle.corner_laws.specs.Laws.{AllFit}
use Rattle.corner_laws.proofs.Counting.{IsIn-from_is_place, is_place-from_IsIn}
use Rattle.corner_laws.proofs.MarkWritings.Fits.{one_factor, whole_is_kept}
use Rattle.corner_laws.proofs.Instances.PathExamples.{alone-in}
use Rattle.corner_laws.proofs.WrittenValues.{contains_each}
use Rattle.session_laws.specs.Answered.Examples.{bare, lone, lone_row, zero_stay}
use Rattle.session_laws.proofs.Answering.FirstFits.{IsUnit, at-above, at-below, at-over, at-under, give, minus, multiplier, multiplier-unit, none, one, opposite, take, three, three-at, three-fits, unit-fits, weight_of, zero_point}
use Rattle.corner_lines.proofs.Costs.LevelFits.{look_up}
use Rattle.corner_lines.proofs.ProblemChanges.JoinedBegins.{nowhere}
use Rattle.frac_core.proofs.Numbers.{neg-times, one-times as once}
use Rattle.frac_core.proofs.Bools.{bit-most as most-one}

-- ---- they are whole

pub unit-kept : (z : ℤ) → IsUnit z → IsKept (record { num = z; den = 1 })
unit-kept (pos n) h = whole_is_kept n (omega (arith, ints, h.high))
unit-kept (negsuc n) h = record {
  lowest = record { above = omega arith; coprime = IsGcd-from_mod (suc n) 1 1 (IsGcd-from_zero 1 _ (omega arith)) };
  fits = record { num_fits = omega (arith, ints, h.low); den_fits = omega arith };
}

stay-whole : IsStay (zero_stay 1)
stay-whole = record { attr = (omega arith, omega arith); target = whole_is_kept 0 (omega arith) }

pub bare-whole : IsWhole bare
bare-whole = record {
  rows = λ k d within. absurd (omega (arith, within));
  stays = All-from_recursion IsStay bare.stays (stay-whole, tt);
  rising = λ i j d less within. absurd (omega (arith, within));
  apart = λ i j d less within. absurd (omega (arith, less, within));
  covered = λ k d within. absurd (omega (arith, within));
  row_count = omega arith;
  stay_count = omega arith;
}

row-whole : (n : ℤ) → IsUnit n → IsRow (lone_row n)
row-whole n unit = record {
  number = (omega arith, omega arith);
  rank = omega arith;
  weight = (omega arith, omega arith);
  scale = (omega arith, omega arith);
  constant = unit-kept n unit;
  terms = All-from_recursion IsTerm (lone_row n).terms (record { attr = (omega arith, omega arith); nonzero = λ e. omega (arith, ints, e); small = omega arith }, tt);
  rising = λ i j t less within. absurd (omega (arith, less, within));
  count = omega arith;
}

pub lone-whole : (n : ℤ) → IsUnit n → IsWhole (lone n)
lone-whole n unit = record {
  rows = All-from_recursion IsRow (lone n).rows (row-whole n unit, tt);
  stays = All-from_recursion IsStay (lone n).stays (stay-whole, tt);
  rising = λ i j d less within. absurd (omega (arith, less, within));
  apart = λ i j d less within. absurd (omega (arith, less, within));
  covered = All-from_recursion (IsCovered (lone n).stays) (lone n).rows (All-from_recursion (λ (t : Term). HasStay (lone n).stays t.attr) (lone_row n).terms ((0, zero_stay 1, omega arith, refl, refl), tt), tt);
  row_count = omega arith;
  stay_count = omega arith;
}

-- ---- writings

holds : (q v o c : ℤ) → q ≡ v +ℤ c *ℤ o → pos 1 *ℤ (pos 1 *ℤ q -ℤ v) ≡ pos 1 *ℤ (c *ℤ o)
holds q v o c e = omega (arith, ints, e)

-- an outside mark of the problem
abbrev IsOut : Problem → List Mark → ℕ → Type 0
IsOut p at c = Contains (map place (marks_of (lines p))) c × (IsIn c at → ⊥)

-- what is a sum of three outside marks and of a number from -1 to 1 fits
written : (p : Problem) (at : List Mark) (quantity : (ℕ → ℤ) → ℤ) (a b d : ℕ) (i j k c : ℤ) → IsOut p at a → IsOut p at b → IsOut p at d → IsUnit i → IsUnit j → IsUnit k → IsUnit c
    → ((x : Point) → Solves p x → quantity x.num ≡ value_at x.num (three a i b j d k) +ℤ c *ℤ x.num one_column) → HasNoWriting p at quantity → ⊥
written p at quantity a b d i j k c oa ob od ui uj uk uc sums unfit =
    unfit 1 (three a i b j d k) (record { num = c; den = 1 })
    (record {
      scale_positive = omega arith;
      den_positive = omega arith;
      outside = λ v some. elim (three-at a b d i j k v some) [
        | inl e ↦ subst (IsOut p at) (sym e) oa
        | inr more ↦ elim more [
          | inl e ↦ subst (IsOut p at) (sym e) ob
          | inr e ↦ subst (IsOut p at) (sym e) od
        ]
      ];
      holds = λ x solves. holds (quantity x.num) (value_at x.num (three a i b j d k)) (x.num one_column) c (sums x solves);
      lowest = λ n each whole. one_factor n whole.0 whole.1;
    })
    (omega arith) (three-fits a b d i j k ui uj uk) (unit-kept c uc)

-- ---- without a row

bare-solved : (x : Point) → Solves bare x → pos 1 *ℤ x.num 6 +ℤ (negsuc 0 *ℤ x.num 7 +ℤ (pos 0 *ℤ x.num one_column +ℤ (pos 1 *ℤ x.num (attr_column 1) +ℤ pos 0))) ≡ pos 0
bare-solved x h = (recursion_from_All (λ l. value_at x.num (equation l) ≡ pos 0) (lines bare) h).0

pub only-attr : (n : ℤ) (attr : ℕ) → HasStay (zero_stay 1 ∷ []) attr → 1 ≡ attr
only-attr n attr (zero, s, within, is, e) = ap (λ (t : Stay). t.attr) is ∙ e
only-attr n attr (suc k, s, within, is, e) = absurd (omega (arith, within))

bare-attr : HasNoWriting bare [] (λ x. x (attr_column 1)) → ⊥
bare-attr =
    written bare [] (λ x. x (attr_column 1)) 7 6 6 (pos 1) (negsuc 0) (pos 0) (pos 0) ((1, omega arith, refl), nowhere 7) ((0, omega arith, refl), nowhere 6) ((0, omega arith, refl), nowhere 6) one minus none none
    (λ x h. omega (arith, ints, bare-solved x h))

no-times : RowName → ℤ
no-times name = pos 0

abbrev bare-reduced : ℕ → ℕ → ℤ
bare-reduced k c = cond (nat_eq c 6) (pos (weight_of 1001 k)) (cond (nat_eq c 7) (pos (weight_of 1001 k)) (pos 0))

less-none : (w : ℕ) → pos 1 *ℤ pos w ≡ pos (1 * w) -ℤ pos 1 *ℤ pos 0
less-none w = omega (arith, ints)

plus-none : (w : ℕ) → pos 1 *ℤ pos w ≡ pos (1 * w) +ℤ pos 1 *ℤ pos 0
plus-none w = omega (arith, ints)

weight-fits : (w : ℕ) → w ≤ 1 → IsFitting (pos w)
weight-fits w h = omega (arith, h)

no-product : (z : ℤ) → pos 0 *ℤ z +ℤ pos 0 ≡ pos 0
no-product z = omega (arith, ints)

abbrev zero_num : ℕ → ℤ
zero_num v = cond (nat_eq v one_column) (pos 1) (pos 0)

bare-stands : StandsAt bare [] zero_point
bare-stands = (
  All-from_recursion (λ l. value_at zero_num (equation l) ≡ pos 0) (lines bare) (refl, tt),
  All-from_recursion (λ m. (IsIn (place m) [] → ⊥) → zero_num (place m) ≡ pos 0) (marks_of (lines bare)) ((λ o. refl), ((λ o. refl), tt)),
)

bare-cost : (u o : ℤ) → pos 1 *ℤ (u *ℤ pos 0 +ℤ o *ℤ pos 0) +ℤ pos 0 ≡ pos 0
bare-cost u o = ap (λ (z : ℤ). pos 1 *ℤ z +ℤ pos 0) (ap₂ ◌+ℤ◌ (mul-zero_ℤ u) (mul-zero_ℤ o))

bare-level : (k : ℕ) → HasNoLevelWriting bare [] k → ⊥
unfolding no-times
bare-level k unfit =
    unfit 1 no-times (bare-reduced k) zero_fraction
    (record {
      scale_positive = omega arith;
      cancel = λ v. no-product (coefficient v (record { attr = 1; by = pos 1 } ∷ []));
      columns = λ side. elim side as (λ (s : Side). All (λ l. pos l.scale *ℤ bare-reduced k (place_of l.name s) ≡ column (alone 1 no-times) s l k) (lines bare)) [
        | Under ↦ All-from_recursion (λ l. pos l.scale *ℤ bare-reduced k (place_of l.name Under) ≡ column (alone 1 no-times) Under l k) (lines bare) (less-none (weight_of 1001 k), tt)
        | Over ↦ All-from_recursion (λ l. pos l.scale *ℤ bare-reduced k (place_of l.name Over) ≡ column (alone 1 no-times) Over l k) (lines bare) (plus-none (weight_of 1001 k), tt)
      ];
      inside_zero = λ side i d within h. absurd (nowhere _ h);
      lowest = λ n h rest. dvd_antisymm h (one-dvd n);
    })
    (zero_point, bare-stands, ap (λ (z : ℤ). z *ℤ pos 1) (bare-cost (pos (weight_of 1001 k)) (pos (weight_of 1001 k))) ∙ sym (zero-mul_ℤ (pos 1 *ℤ pos 1)))
    (record {
      scale_fits = omega arith;
      times_fit = All-from_recursion (λ l. IsFitting (no-times l.name)) (lines bare) (omega arith, tt);
      reduced_fit = λ side. elim side as (λ (s : Side). All (λ l. IsFitting (bare-reduced k (place_of l.name s))) (lines bare)) [
        | Under ↦ All-from_recursion (λ l. IsFitting (bare-reduced k (place_of l.name Under))) (lines bare) (weight-fits (weight_of 1001 k) (most-one (nat_eq 1001 k)), tt)
        | Over ↦ All-from_recursion (λ l. IsFitting (bare-reduced k (place_of l.name Over))) (lines bare) (weight-fits (weight_of 1001 k) (most-one (nat_eq 1001 k)), tt)
      ];
    })
    (whole_is_kept 0 (omega arith))

split-length : (before after : List Row) (r : Row) → [] ≡ before ++ (r ∷ after) → ⊥
split-length [] after r e = let n : 0 ≡ length (r ∷ after) = ap length e in absurd (omega (arith, n))
split-length (b ∷ before) after r e = let n : 0 ≡ length (b ∷ (before ++ (r ∷ after))) = ap length e in absurd (omega (arith, n))

no-changes : (old : List Row) → changes old [] ≡ 0
no-changes [] = refl
no-changes (o ∷ old) = refl

pub bare-fits : (old : List Row) → AllFit bare old
bare-fits old (m ∷ at) q corner h = let e : length (m ∷ at) ≡ 0 = corner.count in absurd (omega (arith, e))
bare-fits old [] (Plain (Attr attr)) corner (has, unfit) = subst (λ (a : ℕ). HasNoWriting bare [] (λ x. x (attr_column a)) → ⊥) (only-attr (pos 0) attr has) bare-attr unfit
bare-fits old [] (Plain (MarkOf m)) corner (i, unfit) = nowhere (place m) i
bare-fits old [] (Plain (LevelOf level)) corner (k, is, unfit) = bare-level k unfit
bare-fits old [] (Terms mark j) corner ((k, r, within, is, h), fresh) = absurd (omega (arith, within))
bare-fits old [] (Rows level j) corner (sum, (k, number, (before, r, after, e, count, fresh))) = absurd (split-length before after r e)
bare-fits old [] (Shifts what j) corner (alike, a, b, h) = absurd (omega (arith, a, b, no-changes old))

-- ---- with a row

module _ (n : ℤ) (unit : IsUnit n) where
  -- n times the common denominator, as the row's equation has it
  row-solved : (x : Point) → Solves (lone n) x → pos 1 *ℤ x.num 4 +ℤ (negsuc 0 *ℤ x.num 5 +ℤ (neg_ℤ n *ℤ x.num one_column +ℤ (pos 1 *ℤ x.num (attr_column 1) +ℤ pos 0))) ≡ pos 0
  row-solved x h = (recursion_from_All (λ l. value_at x.num (equation l) ≡ pos 0) (lines (lone n)) h).0

  stay-solved : (x : Point) → Solves (lone n) x → pos 1 *ℤ x.num 6 +ℤ (negsuc 0 *ℤ x.num 7 +ℤ (pos 0 *ℤ x.num one_column +ℤ (pos 1 *ℤ x.num (attr_column 1) +ℤ pos 0))) ≡ pos 0
  stay-solved x h = (recursion_from_All (λ l. value_at x.num (equation l) ≡ pos 0) (lines (lone n)) h).1.0

  other : ℤ
  other = neg_ℤ n

  abbrev Is : ℕ → Type 0
  Is c = Contains (map place (marks_of (lines (lone n)))) c

  m4 : Is 4
  m4 = (0, omega arith, refl)

  m5 : Is 5
  m5 = (1, omega arith, refl)

  m6 : Is 6
  m6 = (2, omega arith, refl)

  m7 : Is 7
  m7 = (3, omega arith, refl)

  module _ (m : Mark) where
    abbrev at : List Mark
    at = m ∷ []

    -- another column is outside
    out : (c d : ℕ) → place m ≡ c → c ≢ d → IsIn d at → ⊥
    out c d is ne i = alone-in m d (λ e. ne (sym (e ∙ is))) i

    abbrev Unfit : ((ℕ → ℤ) → ℤ) → Type 0
    Unfit quantity = HasNoWriting (lone n) at quantity

    attr-by-stay : (quantity : (ℕ → ℤ) → ℤ) → ((x : Point) → quantity x.num ≡ x.num (attr_column 1)) → (IsIn 6 at → ⊥) → (IsIn 7 at → ⊥) → Unfit quantity → ⊥
    attr-by-stay quantity same u o =
        written (lone n) at quantity 7 6 6 (pos 1) (negsuc 0) (pos 0) (pos 0) (m7, o) (m6, u) (m6, u) one minus none none
        (λ x h. omega (arith, ints, same x, stay-solved x h))

    attr-by-row : (quantity : (ℕ → ℤ) → ℤ) → ((x : Point) → quantity x.num ≡ x.num (attr_column 1)) → (IsIn 4 at → ⊥) → (IsIn 5 at → ⊥) → Unfit quantity → ⊥
    attr-by-row quantity same u o =
        written (lone n) at quantity 5 4 4 (pos 1) (negsuc 0) (pos 0) n (m5, o) (m4, u) (m4, u) one minus none unit
        (λ x h. omega (arith, ints, same x, row-solved x h, neg-times n (x.num one_column)))

    fits-4 : place m ≡ 4 → Unfit (λ x. x 4) → ⊥
    fits-4 is =
        written (lone n) at (λ x. x 4) 5 6 7 (pos 1) (pos 1) (negsuc 0) n (m5, out 4 5 is (λ e. omega (arith, e))) (m6, out 4 6 is (λ e. omega (arith, e))) (m7, out 4 7 is (λ e. omega (arith, e))) one one minus unit
        (λ x h. omega (arith, ints, row-solved x h, stay-solved x h, neg-times n (x.num one_column)))

    fits-5 : place m ≡ 5 → Unfit (λ x. x 5) → ⊥
    fits-5 is =
        written (lone n) at (λ x. x 5) 4 6 7 (pos 1) (negsuc 0) (pos 1) (neg_ℤ n) (m4, out 5 4 is (λ e. omega (arith, e))) (m6, out 5 6 is (λ e. omega (arith, e))) (m7, out 5 7 is (λ e. omega (arith, e))) one minus one (opposite n unit)
        (λ x h. omega (arith, ints, row-solved x h, stay-solved x h, neg-times n (x.num one_column)))

    fits-6 : place m ≡ 6 → Unfit (λ x. x 6) → ⊥
    fits-6 is =
        written (lone n) at (λ x. x 6) 7 4 5 (pos 1) (pos 1) (negsuc 0) (neg_ℤ n) (m7, out 6 7 is (λ e. omega (arith, e))) (m4, out 6 4 is (λ e. omega (arith, e))) (m5, out 6 5 is (λ e. omega (arith, e))) one one minus (opposite n unit)
        (λ x h. omega (arith, ints, row-solved x h, stay-solved x h, neg-times n (x.num one_column)))

    fits-7 : place m ≡ 7 → Unfit (λ x. x 7) → ⊥
    fits-7 is =
        written (lone n) at (λ x. x 7) 6 4 5 (pos 1) (negsuc 0) (pos 1) n (m6, out 7 6 is (λ e. omega (arith, e))) (m4, out 7 4 is (λ e. omega (arith, e))) (m5, out 7 5 is (λ e. omega (arith, e))) one minus one unit
        (λ x h. omega (arith, ints, row-solved x h, stay-solved x h, neg-times n (x.num one_column)))

    -- ---- levels

    abbrev factor : ℕ → ℤ
    factor k = multiplier (is_place at 4) (is_place at 5) (is_place at 6) (is_place at 7) (weight_of 1000 k) (weight_of 1000 k) (weight_of 1001 k)

    factor-unit : (k : ℕ) → IsUnit (factor k)
    factor-unit k = multiplier-unit (is_place at 4) (is_place at 5) (is_place at 6) (is_place at 7) (weight_of 1000 k) (weight_of 1000 k) (weight_of 1001 k) (most-one (nat_eq 1000 k)) (most-one (nat_eq 1000 k)) (most-one (nat_eq 1001 k))

    abbrev times_at : ℕ → RowName → ℤ
    times_at k (Held id) = factor k
    times_at k (StayOf attr) = neg_ℤ (factor k)

    abbrev reduced_at : ℕ → ℕ → ℤ
    reduced_at k c = look_up (λ side l. column (alone 1 (times_at k)) side l k) (lines (lone n)) c

    -- not both are inside
    not-both : (c d : ℕ) → c ≢ d → is_place at c ≡ true → is_place at d ≡ true → ⊥
    not-both c d ne i j = both (IsIn-from_is_place c at i) (IsIn-from_is_place d at j)
      where
        both : IsIn c at → IsIn d at → ⊥
        both (zero, within, is) (zero, also, too) = ne (sym is ∙ too)
        both (zero, within, is) (suc k, also, too) = omega (arith, also)
        both (suc k, within, is) h = omega (arith, within)

    inside-4 : (k : ℕ) → IsIn 4 at → pos (1 * weight_of 1000 k) -ℤ pos 1 *ℤ factor k ≡ pos 0
    inside-4 k i = at-under (is_place at 4) (is_place at 5) (is_place at 6) (is_place at 7) (weight_of 1000 k) (weight_of 1000 k) (weight_of 1001 k) (is_place-from_IsIn 4 at i)

    inside-5 : (k : ℕ) → IsIn 5 at → pos (1 * weight_of 1000 k) +ℤ pos 1 *ℤ factor k ≡ pos 0
    inside-5 k i =
        let here = is_place-from_IsIn 5 at i in
        at-over (is_place at 4) (is_place at 5) (is_place at 6) (is_place at 7) (weight_of 1000 k) (weight_of 1000 k) (weight_of 1001 k) (λ e. not-both 4 5 (λ q. omega (arith, q)) e here) here

    inside-6 : (k : ℕ) → IsIn 6 at → pos (1 * weight_of 1001 k) -ℤ pos 1 *ℤ neg_ℤ (factor k) ≡ pos 0
    inside-6 k i =
        let here = is_place-from_IsIn 6 at i in
        at-below (is_place at 4) (is_place at 5) (is_place at 6) (is_place at 7) (weight_of 1000 k) (weight_of 1000 k) (weight_of 1001 k) (λ e. not-both 4 6 (λ q. omega (arith, q)) e here) (λ e. not-both 5 6 (λ q. omega (arith, q)) e here) here

    inside-7 : (k : ℕ) → IsIn 7 at → pos (1 * weight_of 1001 k) +ℤ pos 1 *ℤ neg_ℤ (factor k) ≡ pos 0
    inside-7 k i =
        let here = is_place-from_IsIn 7 at i in
        at-above (is_place at 4) (is_place at 5) (is_place at 6) (is_place at 7) (weight_of 1000 k) (weight_of 1000 k) (weight_of 1001 k) (λ e. not-both 4 7 (λ q. omega (arith, q)) e here) (λ e. not-both 5 7 (λ q. omega (arith, q)) e here)
        (λ e. not-both 6 7 (λ q. omega (arith, q)) e here) here

    cancel-two : (f c : ℤ) → f *ℤ c +ℤ (neg_ℤ f *ℤ c +ℤ pos 0) ≡ pos 0
    cancel-two f c = omega (arith, ints, neg-times f c)

    columns : (k : ℕ) (side : Side) → All (λ l. pos l.scale *ℤ reduced_at k (place_of l.name side) ≡ column (alone 1 (times_at k)) side l k) (lines (lone n))
    columns k Under = All-from_recursion (λ l. pos l.scale *ℤ reduced_at k (place_of l.name Under) ≡ column (alone 1 (times_at k)) Under l k) (lines (lone n)) (once _, (once _, tt))
    columns k Over = All-from_recursion (λ l. pos l.scale *ℤ reduced_at k (place_of l.name Over) ≡ column (alone 1 (times_at k)) Over l k) (lines (lone n)) (once _, (once _, tt))

    insides : (k : ℕ) (side : Side) → All (λ l. IsIn (place_of l.name side) at → reduced_at k (place_of l.name side) ≡ pos 0) (lines (lone n))
    insides k Under = All-from_recursion (λ l. IsIn (place_of l.name Under) at → reduced_at k (place_of l.name Under) ≡ pos 0) (lines (lone n)) (inside-4 k, (inside-6 k, tt))
    insides k Over = All-from_recursion (λ l. IsIn (place_of l.name Over) at → reduced_at k (place_of l.name Over) ≡ pos 0) (lines (lone n)) (inside-5 k, (inside-7 k, tt))

    writes : (k : ℕ) → IsLevelWriting (lone n) at k 1 (times_at k) (reduced_at k)
    writes k = record {
      scale_positive = omega arith;
      cancel = λ v. cancel-two (factor k) (coefficient v (lone_row n).terms);
      columns = columns k;
      inside_zero = insides k;
      lowest = λ j h rest. dvd_antisymm h (one-dvd j);
    }

    reduced-fit : (k : ℕ) (side : Side) → All (λ l. IsFitting (reduced_at k (place_of l.name side))) (lines (lone n))
    reduced-fit k Under = All-from_recursion (λ l. IsFitting (reduced_at k (place_of l.name Under))) (lines (lone n))
        (take (weight_of 1000 k) (factor k) (most-one (nat_eq 1000 k)) (factor-unit k), (take (weight_of 1001 k) (neg_ℤ (factor k)) (most-one (nat_eq 1001 k)) (opposite (factor k) (factor-unit k)), tt))
    reduced-fit k Over = All-from_recursion (λ l. IsFitting (reduced_at k (place_of l.name Over))) (lines (lone n))
        (give (weight_of 1000 k) (factor k) (most-one (nat_eq 1000 k)) (factor-unit k), (give (weight_of 1001 k) (neg_ℤ (factor k)) (most-one (nat_eq 1001 k)) (opposite (factor k) (factor-unit k)), tt))

    level-fit : (k : ℕ) → AreFitting (lone n) 1 (times_at k) (reduced_at k)
    level-fit k = record {
      scale_fits = omega arith;
      times_fit = All-from_recursion (λ l. IsFitting (times_at k l.name)) (lines (lone n)) (unit-fits (factor k) (factor-unit k), (unit-fits (neg_ℤ (factor k)) (opposite (factor k) (factor-unit k)), tt));
      reduced_fit = reduced-fit k;
    }

    -- the columns at the corner
    abbrev num : ℤ → ℤ → ℤ → ℤ → ℤ → ℕ → ℤ
    num u o p q a v = cond (nat_eq v 4) u (cond (nat_eq v 5) o (cond (nat_eq v 6) p (cond (nat_eq v 7) q (cond (nat_eq v (attr_column 1)) a (cond (nat_eq v one_column) (pos 1) (pos 0))))))

    abbrev point : ℤ → ℤ → ℤ → ℤ → ℤ → Point
    point u o p q a = record { num = num u o p q a; positive = record { lt = tt } }

    cost-unit : (b c : Bool) (u o p q : ℤ) → IsUnit (u +ℤ o) → IsUnit (p +ℤ q) → IsUnit ((u +ℤ o) +ℤ (p +ℤ q))
        → IsUnit (pos 1 *ℤ (pos (cond b 1 0) *ℤ u +ℤ pos (cond b 1 0) *ℤ o) +ℤ (pos 1 *ℤ (pos (cond c 1 0) *ℤ p +ℤ pos (cond c 1 0) *ℤ q) +ℤ pos 0))
    cost-unit true true u o p q f s t = record { low = omega (arith, ints, t.low); high = omega (arith, ints, t.high) }
    cost-unit true false u o p q f s t = record { low = omega (arith, ints, f.low); high = omega (arith, ints, f.high) }
    cost-unit false true u o p q f s t = record { low = omega (arith, ints, s.low); high = omega (arith, ints, s.high) }
    cost-unit false false u o p q f s t = record { low = omega (arith, ints); high = omega (arith, ints) }

    -- what stands there, with a cost from -1 to 1
    level-fits : (u o p q a : ℤ) (k : ℕ) → StandsAt (lone n) at (point u o p q a) → IsUnit (u +ℤ o) → IsUnit (p +ℤ q) → IsUnit ((u +ℤ o) +ℤ (p +ℤ q)) → HasNoLevelWriting (lone n) at k → ⊥
    level-fits u o p q a k stands f s t unfit =
        let cost : ℤ = cost_at (lone n) k (num u o p q a) in
        unfit 1 (times_at k) (reduced_at k) (record { num = cost_at (lone n) k (num u o p q a); den = 1 }) (writes k)
        (point u o p q a, stands, refl) (level-fit k)
        (unit-kept (cost_at (lone n) k (num u o p q a)) (cost-unit (nat_eq 1000 k) (nat_eq 1001 k) u o p q f s t))

    row-eq : (u o a : ℤ) → u -ℤ o -ℤ n +ℤ a ≡ pos 0 → pos 1 *ℤ u +ℤ (negsuc 0 *ℤ o +ℤ (neg_ℤ n *ℤ pos 1 +ℤ (pos 1 *ℤ a +ℤ pos 0))) ≡ pos 0
    row-eq u o a e = omega (arith, ints, e)

    stay-eq : (p q a : ℤ) → p -ℤ q +ℤ a ≡ pos 0 → pos 1 *ℤ p +ℤ (negsuc 0 *ℤ q +ℤ (pos 0 *ℤ pos 1 +ℤ (pos 1 *ℤ a +ℤ pos 0))) ≡ pos 0
    stay-eq p q a e = omega (arith, ints, e)

    stands-at : (u o p q a : ℤ) → u -ℤ o -ℤ n +ℤ a ≡ pos 0 → p -ℤ q +ℤ a ≡ pos 0 → ((IsIn 4 at → ⊥) → u ≡ pos 0) → ((IsIn 5 at → ⊥) → o ≡ pos 0) → ((IsIn 6 at → ⊥) → p ≡ pos 0) → ((IsIn 7 at → ⊥) → q ≡ pos 0)
        → StandsAt (lone n) at (point u o p q a)
    stands-at u o p q a e f zu zo zp zq = (
      All-from_recursion (λ l. value_at (num u o p q a) (equation l) ≡ pos 0) (lines (lone n)) (row-eq u o a e, (stay-eq p q a f, tt)),
      All-from_recursion (λ m. (IsIn (place m) at → ⊥) → num u o p q a (place m) ≡ pos 0) (marks_of (lines (lone n))) (zu, (zo, (zp, (zq, tt)))),
    )

    here : (c : ℕ) → place m ≡ c → IsIn c at
    here c is = (0, omega arith, is)

    zero-unit : (z : ℤ) → z ≡ n → IsUnit z
    zero-unit z e = subst IsUnit (sym e) unit

    other-unit : (z : ℤ) → z ≡ neg_ℤ n → IsUnit z
    other-unit z e = subst IsUnit (sym e) (opposite n unit)

    none-unit : (z : ℤ) → z ≡ pos 0 → IsUnit z
    none-unit z e = subst IsUnit (sym e) none

    level-4 : (k : ℕ) → place m ≡ 4 → HasNoLevelWriting (lone n) at k → ⊥
    level-4 k is =
        level-fits n (pos 0) (pos 0) (pos 0) (pos 0) k
        (stands-at n (pos 0) (pos 0) (pos 0) (pos 0) (omega (arith, ints)) (omega (arith, ints)) (λ o. absurd (o (here 4 is))) (λ o. refl) (λ o. refl) (λ o. refl))
        (zero-unit _ (omega (arith, ints))) (none-unit _ (omega (arith, ints))) (zero-unit _ (omega (arith, ints)))

    level-5 : (k : ℕ) → place m ≡ 5 → HasNoLevelWriting (lone n) at k → ⊥
    level-5 k is =
        level-fits (pos 0) (neg_ℤ n) (pos 0) (pos 0) (pos 0) k
        (stands-at (pos 0) (neg_ℤ n) (pos 0) (pos 0) (pos 0) (omega (arith, ints)) (omega (arith, ints)) (λ o. refl) (λ o. absurd (o (here 5 is))) (λ o. refl) (λ o. refl))
        (other-unit _ (omega (arith, ints))) (none-unit _ (omega (arith, ints))) (other-unit _ (omega (arith, ints)))

    level-6 : (k : ℕ) → place m ≡ 6 → HasNoLevelWriting (lone n) at k → ⊥
    level-6 k is =
        level-fits (pos 0) (pos 0) (neg_ℤ n) (pos 0) n k
        (stands-at (pos 0) (pos 0) (neg_ℤ n) (pos 0) n (omega (arith, ints)) (omega (arith, ints)) (λ o. refl) (λ o. refl) (λ o. absurd (o (here 6 is))) (λ o. refl))
        (none-unit _ (omega (arith, ints))) (other-unit _ (omega (arith, ints))) (other-unit _ (omega (arith, ints)))

    level-7 : (k : ℕ) → place m ≡ 7 → HasNoLevelWriting (lone n) at k → ⊥
    level-7 k is =
        level-fits (pos 0) (pos 0) (pos 0) n n k
        (stands-at (pos 0) (pos 0) (pos 0) n n (omega (arith, ints)) (omega (arith, ints)) (λ o. refl) (λ o. refl) (λ o. refl) (λ o. absurd (o (here 7 is))))
        (none-unit _ (omega (arith, ints))) (zero-unit _ (omega (arith, ints))) (zero-unit _ (omega (arith, ints)))

    -- ---- the one mark inside is one of four

    record IsGood : Type 0 where
      attr : (quantity : (ℕ → ℤ) → ℤ) → ((x : Point) → quantity x.num ≡ x.num (attr_column 1)) → Unfit quantity → ⊥
      own : Unfit (λ x. x (place m)) → ⊥
      level : (k : ℕ) → HasNoLevelWriting (lone n) at k → ⊥

    abbrev Good : ℕ → Type 0
    Good c = place m ≡ c → IsGood

    at-mark : (c : ℕ) → place m ≡ c → (Unfit (λ x. x c) → ⊥) → Unfit (λ x. x (place m)) → ⊥
    at-mark c is f h = f (subst (λ (v : ℕ). Unfit (λ x. x v)) is h)

    good-4 : Good 4
    good-4 is = record { attr = λ q same. attr-by-stay q same (out 4 6 is (λ e. omega (arith, e))) (out 4 7 is (λ e. omega (arith, e))); own = at-mark 4 is (fits-4 is); level = λ k. level-4 k is }

    good-5 : Good 5
    good-5 is = record { attr = λ q same. attr-by-stay q same (out 5 6 is (λ e. omega (arith, e))) (out 5 7 is (λ e. omega (arith, e))); own = at-mark 5 is (fits-5 is); level = λ k. level-5 k is }

    good-6 : Good 6
    good-6 is = record { attr = λ q same. attr-by-row q same (out 6 4 is (λ e. omega (arith, e))) (out 6 5 is (λ e. omega (arith, e))); own = at-mark 6 is (fits-6 is); level = λ k. level-6 k is }

    good-7 : Good 7
    good-7 is = record { attr = λ q same. attr-by-row q same (out 7 4 is (λ e. omega (arith, e))) (out 7 5 is (λ e. omega (arith, e))); own = at-mark 7 is (fits-7 is); level = λ k. level-7 k is }

    good : IsCorner (lone n) at → IsGood
    good corner =
        contains_each Good (marks_of (lines (lone n))) (place m) (good-4, (good-5, (good-6, (good-7, tt))))
        (recursion_from_All (λ k. Is (place k)) at corner.marks).0 refl

    own-at : IsGood → (c : ℕ) → IsIn c at → Unfit (λ x. x c) → ⊥
    own-at h c (zero, within, is) = subst (λ (v : ℕ). Unfit (λ x. x v) → ⊥) is h.own
    own-at h c (suc k, within, is) = absurd (omega (arith, within))

    attr-at : IsGood → (attr : ℕ) → HasStay (lone n).stays attr → Unfit (λ x. x (attr_column attr)) → ⊥
    attr-at h attr has = subst (λ (a : ℕ). Unfit (λ x. x (attr_column a)) → ⊥) (only-attr n attr has) (h.attr (λ x. x (attr_column 1)) (λ x. refl))

    first-term : (a : ℤ) → pos 1 *ℤ a +ℤ pos 0 ≡ a
    first-term a = omega (arith, ints)

    terms-at : IsGood → (j : ℕ) → 1 ≤ j → j ≤ 2 → IsIn 5 at → Unfit (first_terms (lone_row n) j) → ⊥
    terms-at h zero a b i unfit = omega (arith, a)
    terms-at h (suc zero) a b i unfit = h.attr (first_terms (lone_row n) 1) (λ x. first-term (x.num (attr_column 1))) unfit
    terms-at h (suc (suc zero)) a b i unfit = own-at h 5 i unfit
    terms-at h (suc (suc (suc j))) a b i unfit = omega (arith, b)

lightened-same : (n : ℤ) (k j : ℕ) → lightened k (suc j) (lone n).rows ≡ (lone n).rows
lightened-same n k j =
    ap (λ (b : Bool). cond (nat_eq 1000 k) (cond b (without_weight (lone_row n)) (lone_row n) ∷ []) (lone_row n ∷ [])) (ne_eqb (suc j) 0 (λ e. omega (arith, e)))
    ∙ elim (nat_eq 1000 k) as (λ (b : Bool). cond b (lone_row n ∷ []) (lone_row n ∷ []) ≡ lone_row n ∷ []) [
      | true ↦ refl
      | false ↦ refl
    ]

-- what a stop says of a row whose first terms don't fit
abbrev Said : ℤ → List Mark → ℕ → Row → Type 0
Said n at j r = AreOverFrom (lone n) at r.id × (1 ≤ j) × (j ≤ length r.terms + 1) × HasNoWriting (lone n) at (first_terms r j)

terms-fit : (n : ℤ) (unit : IsUnit n) (m : Mark) → IsCorner (lone n) (m ∷ []) → (j : ℕ) → Said n (m ∷ []) j (lone_row n) → ⊥
terms-fit n unit m corner j (over, a, b, unfit) =
    terms-at n unit m (good n unit m corner) j a b
    ((recursion_from_All (λ (s : Row). 1 ≤ s.id → IsIn (place (over_mark s.id)) (m ∷ [])) (lone n).rows over).0 (omega arith)) unfit

rows-fit : (n : ℤ) (unit : IsUnit n) (m : Mark) → IsCorner (lone n) (m ∷ []) → (k j : ℕ) → 1 ≤ j → HasNoLevelWriting (with_first_rows k j (lone n)) (m ∷ []) k → ⊥
rows-fit n unit m corner k zero a unfit = omega (arith, a)
rows-fit n unit m corner k (suc j) a unfit =
    (good n unit m corner).level k
    (subst (λ (rs : List Row). (let p : Problem = record { rows = rs; stays = (lone n).stays } in HasNoLevelWriting p (m ∷ []) k)) (lightened-same n k j) unfit)

pub lone-fits : (n : ℤ) → IsUnit n → (old : List Row) → changes old (lone n).rows ≡ 0 → AllFit (lone n) old
lone-fits n unit old same [] q corner h = let e : 0 ≡ 1 = corner.count in absurd (omega (arith, e))
lone-fits n unit old same (m ∷ (k ∷ at)) q corner h = let e : length (m ∷ (k ∷ at)) ≡ 1 = corner.count in absurd (omega (arith, e))
lone-fits n unit old same (m ∷ []) (Plain (Attr attr)) corner (has, unfit) = attr-at n unit m (good n unit m corner) attr has unfit
lone-fits n unit old same (m ∷ []) (Plain (MarkOf k)) corner (i, unfit) = own-at n unit m (good n unit m corner) (place k) i unfit
lone-fits n unit old same (m ∷ []) (Plain (LevelOf level)) corner (k, is, unfit) = (good n unit m corner).level k unfit
lone-fits n unit old same (m ∷ []) (Terms mark j) corner ((zero, r, within, is, (its, over, a, b, unfit)), fresh) = terms-fit n unit m corner j (subst (Said n (m ∷ []) j) (sym is) (over, a, b, unfit))
lone-fits n unit old same (m ∷ []) (Terms mark j) corner ((suc k, r, within, is, h), fresh) = absurd (omega (arith, within))
lone-fits n unit old same (m ∷ []) (Rows level j) corner ((k, number, a, b, unfit), new) = rows-fit n unit m corner k j a unfit
lone-fits n unit old same (m ∷ []) (Shifts what j) corner (alike, a, b, h) = absurd (omega (arith, a, b, same))
