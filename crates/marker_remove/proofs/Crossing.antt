-- Three rows that lean on each other: places 4, 5 of `3000000 y >= 2 x`, 8, 9 of `1500000 y >= x`, 12, 13 of
-- `1500000 x + y >= 0`, 6, 7 of the stay of x, 10, 11 of that of y.
use Rattle.std.proofs.Common.{◌≡◌, ◌≢◌, ℕ, zero, suc, ◌+◌, ◌<◌, ◌≤◌, ◌⊎◌, Bool, true, false, cond, nat_eq, List, [], ◌∷◌, map, ℤ, pos, negsuc, ◌+ℤ◌, ◌-ℤ◌, ◌*ℤ◌, ◌≤ℤ◌, refl, sym, arith, inl, inr, AllPairs, Contains, true≢false, ne_eqb}
use Rattle.std.specs.Int.RustNames.{unsigned_abs}
use Rattle.std.proofs.lemmas.Bool.{cases_eq}
use Rattle.std.proofs.lemmas.List.Elements.{All-from_recursion, recursion_from_All}
use Rattle.std.proofs.lemmas.List.Kept.{AllPairs-cons}
use borrow.Author.Differences.{ints}
use Rattle.frac_core.specs.Fraction.{IsFitting}
use Rattle.frac_core.proofs.Numbers.{zero-up}
use Rattle.problem_core.specs.declared.parts.Mark.{Mark}
use Rattle.problem_core.specs.declared.parts.Stay.{Stay}
use Rattle.problem_core.specs.declared.parts.Term.{Term}
use Rattle.problem_core.specs.declared.stops.What.TheVariants.{Mark as MarkOf}
use Rattle.problem_core.specs.Kept.{IsRow, IsStay, IsTerm, IsWhole}
use Rattle.problem_core.specs.Layout.{HasStay, IsCovered, Row, coefficient, lines, value_at}
use Rattle.problem_core.specs.Corners.{Agree, IsCorner, IsExchange, IsIn, IsWritingOf, NoNegativeValue, Point, SameMarks, Solves, StandsAt, Swap, attr_column, equation, marks_of, one_column, place}
use Rattle.problem_core.specs.Changes.Begins.{ChangesNoValue}
use Rattle.problem_core.specs.Rays.{IsRay}
use Rattle.problem_core.specs.Unfit.{IsUnfitWhat, over_mark}
use Rattle.problem_core.proofs.Marks.{no-swaps as path_here}
use Rattle.cert_core.specs.declared.stops.RunStop.TheVariants.{Unfit}
use Rattle.corner_view.specs.Seen.{HasValueAt}
use Rattle.corner_laws.specs.Examples.{over_stay}
use Rattle.corner_laws.proofs.MarkWritings.Directions.{writing_moves}
use Rattle.corner_laws.proofs.MarkWritings.Fits.{one_factor, whole_is_kept}
use Rattle.corner_laws.proofs.Instances.PathExamples.{no}
use Rattle.marker_remove.specs.Freed.{DoStand, HasMarkIn, IsFreeStop}
use Rattle.marker_remove.specs.Instances.{crossing, first_over, leaning, over_second_stay, through_origin}
use Rattle.marker_remove.proofs.ZeroSwaps.{next_stands}

-- ---- what the types keep

one-term : (attr : ℕ) (by : ℤ) → (0 < attr) × (attr ≤ 2147483648) → by ≢ pos 0 → unsigned_abs by ≤ 1073741824 → IsTerm (record { attr = attr; by = by })
one-term attr by number some small = record { attr = number; nonzero = some; small = small }

terms-rise : (a b : ℤ) → AllPairs (λ (s t : Term). s.attr < t.attr) (record { attr = 1; by = a } ∷ record { attr = 2; by = b } ∷ [])
terms-rise a b =
    AllPairs-cons (λ (s t : Term). s.attr < t.attr) (record { attr = 1; by = a }) (record { attr = 2; by = b } ∷ [])
    (All-from_recursion (λ (t : Term). 1 < t.attr) (record { attr = 2; by = b } ∷ []) (omega arith, tt))
    (λ i j d less within. absurd (omega (arith, less, within)))

one-row : (id : ℕ) (a b : ℤ) → (0 < id) × (id ≤ 2147483648) → a ≢ pos 0 → unsigned_abs a ≤ 1073741824 → b ≢ pos 0 → unsigned_abs b ≤ 1073741824 → IsRow (through_origin id a b)
one-row id a b number a-some a-small b-some b-small = record {
  number = number;
  rank = omega arith;
  weight = (omega arith, omega arith);
  scale = (omega arith, omega arith);
  constant = whole_is_kept 0 (omega arith);
  terms = All-from_recursion IsTerm (through_origin id a b).terms (one-term 1 a (omega arith, omega arith) a-some a-small, (one-term 2 b (omega arith, omega arith) b-some b-small, tt));
  rising = terms-rise a b;
  count = omega arith;
}

one-stay : (attr : ℕ) → (0 < attr) × (attr ≤ 2147483648) → IsStay (record { attr = attr; target = record { num = pos 0; den = 1 } })
one-stay attr number = record { attr = number; target = whole_is_kept 0 (omega arith) }

covered : (id : ℕ) (a b : ℤ) → IsCovered crossing.stays (through_origin id a b)
covered id a b =
    All-from_recursion (λ (t : Term). HasStay crossing.stays t.attr) (through_origin id a b).terms
    ((0, record { attr = 1; target = record { num = pos 0; den = 1 } }, omega arith, refl, refl), ((1, record { attr = 2; target = record { num = pos 0; den = 1 } }, omega arith, refl, refl), tt))

rows-rise : AllPairs (λ (r s : Row). r.id < s.id) crossing.rows
rows-rise =
    AllPairs-cons (λ (r s : Row). r.id < s.id) (through_origin 1 (negsuc 1) (pos 3000000)) (through_origin 2 (negsuc 0) (pos 1500000) ∷ through_origin 3 (pos 1500000) (pos 1) ∷ [])
    (All-from_recursion (λ (s : Row). 1 < s.id) (through_origin 2 (negsuc 0) (pos 1500000) ∷ through_origin 3 (pos 1500000) (pos 1) ∷ []) (omega arith, (omega arith, tt)))
    (AllPairs-cons (λ (r s : Row). r.id < s.id) (through_origin 2 (negsuc 0) (pos 1500000)) (through_origin 3 (pos 1500000) (pos 1) ∷ [])
    (All-from_recursion (λ (s : Row). 2 < s.id) (through_origin 3 (pos 1500000) (pos 1) ∷ []) (omega arith, tt))
    (λ i j d less within. absurd (omega (arith, less, within))))

stays-apart : AllPairs (λ (s t : Stay). s.attr ≢ t.attr) crossing.stays
stays-apart =
    AllPairs-cons (λ (s t : Stay). s.attr ≢ t.attr) (record { attr = 1; target = record { num = pos 0; den = 1 } }) (record { attr = 2; target = record { num = pos 0; den = 1 } } ∷ [])
    (All-from_recursion (λ (t : Stay). 1 ≢ t.attr) (record { attr = 2; target = record { num = pos 0; den = 1 } } ∷ []) (no 1 2 (inl (omega arith)), tt))
    (λ i j d less within. absurd (omega (arith, less, within)))

pub whole : IsWhole crossing
whole = record {
  rows = All-from_recursion IsRow crossing.rows (
    one-row 1 (negsuc 1) (pos 3000000) (omega arith, omega arith) (λ e. absurd (omega (arith, ints, e))) (omega arith) (λ e. absurd (omega (arith, ints, e))) (omega arith),
    (
      one-row 2 (negsuc 0) (pos 1500000) (omega arith, omega arith) (λ e. absurd (omega (arith, ints, e))) (omega arith) (λ e. absurd (omega (arith, ints, e))) (omega arith),
      (one-row 3 (pos 1500000) (pos 1) (omega arith, omega arith) (λ e. absurd (omega (arith, ints, e))) (omega arith) (λ e. absurd (omega (arith, ints, e))) (omega arith), tt),
    ),
  );
  stays = All-from_recursion IsStay crossing.stays (one-stay 1 (omega arith, omega arith), (one-stay 2 (omega arith, omega arith), tt));
  rising = rows-rise;
  apart = stays-apart;
  covered = All-from_recursion (IsCovered crossing.stays) crossing.rows (covered 1 (negsuc 1) (pos 3000000), (covered 2 (negsuc 0) (pos 1500000), (covered 3 (pos 1500000) (pos 1), tt)));
  row_count = omega arith;
  stay_count = omega arith;
}

-- ---- all attributes and deviations at 0

abbrev at_rest : ℕ → ℤ
at_rest v = cond (nat_eq v one_column) (pos 1) (pos 0)

abbrev rest_point : Point
rest_point = record { num = at_rest; positive = record { lt = tt } }

solves : Solves crossing rest_point
solves = All-from_recursion (λ l. value_at at_rest (equation l) ≡ pos 0) (lines crossing) (refl, (refl, (refl, (refl, (refl, tt)))))

rests : (at : List Mark) → StandsAt crossing at rest_point
rests at = (
  solves,
  All-from_recursion (λ n. (IsIn (place n) at → ⊥) → at_rest (place n) ≡ pos 0) (marks_of (lines crossing))
      (λ o. refl, (λ o. refl, (λ o. refl, (λ o. refl, (λ o. refl, (λ o. refl, (λ o. refl, (λ o. refl, (λ o. refl, (λ o. refl, tt)))))))))),
)

values : (a b c : Mark) → at_rest (place a) ≡ pos 0 → at_rest (place b) ≡ pos 0 → at_rest (place c) ≡ pos 0 → NoNegativeValue crossing (a ∷ b ∷ c ∷ [])
values a b c e f g = (rest_point, rests (a ∷ b ∷ c ∷ []), All-from_recursion (λ n. pos 0 ≤ℤ at_rest (place n)) (a ∷ b ∷ c ∷ []) (zero-up (at_rest (place a)) e, (zero-up (at_rest (place b)) f, (zero-up (at_rest (place c)) g, tt))))

pub whole_values : NoNegativeValue crossing leaning
whole_values = values (over_mark 1) over_stay over_second_stay refl refl refl

pub whole_stands : DoStand crossing leaning
whole_stands = All-from_recursion (λ s. HasValueAt crossing leaning (attr_column s.attr) s.target) crossing.stays ((rest_point, rests leaning, refl), ((rest_point, rests leaning, refl), tt))

-- ---- the corner with a mark of row 2

abbrev freed : List Mark
freed = over_mark 1 ∷ over_mark 2 ∷ over_second_stay ∷ []

abbrev second_for_stay : Swap
second_for_stay = record { enter = over_mark 2; leave = over_stay }

none-of : (a b c : Mark) (v : ℕ) → v ≢ place a → v ≢ place b → v ≢ place c → IsIn v (a ∷ b ∷ c ∷ []) → ⊥
none-of a b c v x y z (zero, within, is) = x (sym is)
none-of a b c v x y z (suc zero, within, is) = y (sym is)
none-of a b c v x y z (suc (suc zero), within, is) = z (sym is)
none-of a b c v x y z (suc (suc (suc k)), within, is) = absurd (omega (arith, within))

-- the sums of the five lines
abbrev Row1 : (u o one x y : ℤ) → Type 0
Row1 u o one x y = pos 1 *ℤ u +ℤ (negsuc 0 *ℤ o +ℤ (pos 0 *ℤ one +ℤ (negsuc 1 *ℤ x +ℤ (pos 3000000 *ℤ y +ℤ pos 0)))) ≡ pos 0

abbrev Row2 : (u o one x y : ℤ) → Type 0
Row2 u o one x y = pos 1 *ℤ u +ℤ (negsuc 0 *ℤ o +ℤ (pos 0 *ℤ one +ℤ (negsuc 0 *ℤ x +ℤ (pos 1500000 *ℤ y +ℤ pos 0)))) ≡ pos 0

abbrev Row3 : (u o one x y : ℤ) → Type 0
Row3 u o one x y = pos 1 *ℤ u +ℤ (negsuc 0 *ℤ o +ℤ (pos 0 *ℤ one +ℤ (pos 1500000 *ℤ x +ℤ (pos 1 *ℤ y +ℤ pos 0)))) ≡ pos 0

abbrev StayAt : (u o one x : ℤ) → Type 0
StayAt u o one x = pos 1 *ℤ u +ℤ (negsuc 0 *ℤ o +ℤ (pos 0 *ℤ one +ℤ (pos 1 *ℤ x +ℤ pos 0))) ≡ pos 0

stay-zero : (u o one x : ℤ) → StayAt u o one x → u ≡ pos 0 → o ≡ pos 0 → x ≡ pos 0
stay-zero u o one x h e f = omega (arith, ints, h, e, f)

third-zero : (u o one x y : ℤ) → Row3 u o one x y → u ≡ pos 0 → o ≡ pos 0 → x ≡ pos 0 → y ≡ pos 0
third-zero u o one x y h e f g = omega (arith, ints, h, e, f, g)

over-one : (u o one x y : ℤ) → Row1 u o one x y → u ≡ pos 0 → x ≡ pos 0 → y ≡ pos 0 → o ≡ pos 0
over-one u o one x y h e f g = omega (arith, ints, h, e, f, g)

over-two : (u o one x y : ℤ) → Row2 u o one x y → u ≡ pos 0 → x ≡ pos 0 → y ≡ pos 0 → o ≡ pos 0
over-two u o one x y h e f g = omega (arith, ints, h, e, f, g)

over-zero : (u o one y : ℤ) → StayAt u o one y → u ≡ pos 0 → y ≡ pos 0 → o ≡ pos 0
over-zero u o one y h e f = omega (arith, ints, h, e, f)

record AtRest (y : Point) : Type 0 where
  under1 : y.num 4 ≡ pos 0
  over1 : y.num 5 ≡ pos 0
  under2 : y.num 8 ≡ pos 0
  over2 : y.num 9 ≡ pos 0
  under3 : y.num 12 ≡ pos 0
  over3 : y.num 13 ≡ pos 0
  below : y.num 6 ≡ pos 0
  above : y.num 7 ≡ pos 0
  below2 : y.num 10 ≡ pos 0
  above2 : y.num 11 ≡ pos 0
  attr1 : y.num (attr_column 1) ≡ pos 0
  attr2 : y.num (attr_column 2) ≡ pos 0

out-freed : (v : ℕ) → v ≢ 5 → v ≢ 9 → v ≢ 11 → IsIn v freed → ⊥
out-freed v a b c i = none-of (over_mark 1) (over_mark 2) over_second_stay v a b c i

at-rest : (y : Point) → StandsAt crossing freed y → AtRest y
at-rest y h =
    let z = recursion_from_All (λ n. (IsIn (place n) freed → ⊥) → y.num (place n) ≡ pos 0) (marks_of (lines crossing)) h.1 in
    let e = recursion_from_All (λ l. value_at y.num (equation l) ≡ pos 0) (lines crossing) h.0 in
    let one : ℤ = y.num one_column in
    let u1 : y.num 4 ≡ pos 0 = z.0 (out-freed 4 (no 4 5 (inl (omega arith))) (no 4 9 (inl (omega arith))) (no 4 11 (inl (omega arith)))) in
    let u2 : y.num 8 ≡ pos 0 = z.1.1.0 (out-freed 8 (no 8 5 (inr (omega arith))) (no 8 9 (inl (omega arith))) (no 8 11 (inl (omega arith)))) in
    let u3 : y.num 12 ≡ pos 0 = z.1.1.1.1.0 (out-freed 12 (no 12 5 (inr (omega arith))) (no 12 9 (inr (omega arith))) (no 12 11 (inr (omega arith)))) in
    let o3 : y.num 13 ≡ pos 0 = z.1.1.1.1.1.0 (out-freed 13 (no 13 5 (inr (omega arith))) (no 13 9 (inr (omega arith))) (no 13 11 (inr (omega arith)))) in
    let b1 : y.num 6 ≡ pos 0 = z.1.1.1.1.1.1.0 (out-freed 6 (no 6 5 (inr (omega arith))) (no 6 9 (inl (omega arith))) (no 6 11 (inl (omega arith)))) in
    let a1 : y.num 7 ≡ pos 0 = z.1.1.1.1.1.1.1.0 (out-freed 7 (no 7 5 (inr (omega arith))) (no 7 9 (inl (omega arith))) (no 7 11 (inl (omega arith)))) in
    let b2 : y.num 10 ≡ pos 0 = z.1.1.1.1.1.1.1.1.0 (out-freed 10 (no 10 5 (inr (omega arith))) (no 10 9 (inr (omega arith))) (no 10 11 (inl (omega arith)))) in
    let x0 : y.num (attr_column 1) ≡ pos 0 = stay-zero (y.num 6) (y.num 7) (y.num one_column) (y.num (attr_column 1)) e.1.1.1.0 b1 a1 in
    let y0 : y.num (attr_column 2) ≡ pos 0 = third-zero (y.num 12) (y.num 13) (y.num one_column) (y.num (attr_column 1)) (y.num (attr_column 2)) e.1.1.0 u3 o3 x0 in
    record {
      under1 = u1;
      over1 = over-one (y.num 4) (y.num 5) (y.num one_column) (y.num (attr_column 1)) (y.num (attr_column 2)) e.0 u1 x0 y0;
      under2 = u2;
      over2 = over-two (y.num 8) (y.num 9) (y.num one_column) (y.num (attr_column 1)) (y.num (attr_column 2)) e.1.0 u2 x0 y0;
      under3 = u3;
      over3 = o3;
      below = b1;
      above = a1;
      below2 = b2;
      above2 = over-zero (y.num 10) (y.num 11) (y.num one_column) (y.num (attr_column 2)) e.1.1.1.1.0 b2 y0;
      attr1 = x0;
      attr2 = y0;
    }

-- a column that is 0 at both
pub nothing : (z one : ℤ) → z ≡ pos 0 → pos 0 *ℤ one ≡ z *ℤ pos 1
nothing z one e = omega (arith, ints, e)

freed-apart : AllPairs (λ (m n : Mark). place m ≢ place n) freed
freed-apart =
    AllPairs-cons (λ (m n : Mark). place m ≢ place n) (over_mark 1) (over_mark 2 ∷ over_second_stay ∷ [])
    (All-from_recursion (λ (n : Mark). 5 ≢ place n) (over_mark 2 ∷ over_second_stay ∷ []) (no 5 9 (inl (omega arith)), (no 5 11 (inl (omega arith)), tt)))
    (AllPairs-cons (λ (m n : Mark). place m ≢ place n) (over_mark 2) (over_second_stay ∷ [])
    (All-from_recursion (λ (n : Mark). 9 ≢ place n) (over_second_stay ∷ []) (no 9 11 (inl (omega arith)), tt))
    (λ i j d less within. absurd (omega (arith, less, within))))

corner : IsCorner crossing freed
corner = record {
  count = refl;
  marks = All-from_recursion (λ n. Contains (map place (marks_of (lines crossing))) (place n)) freed ((1, omega arith, refl), ((3, omega arith, refl), ((9, omega arith, refl), tt)));
  apart = freed-apart;
  point = rest_point;
  stands = rests freed;
  marks_fixed = λ y h. let b = at-rest y h in
      All-from_recursion (λ n. Agree (place n) rest_point y) (marks_of (lines crossing)) (
        nothing (y.num 4) (y.num one_column) b.under1,
        (
          nothing (y.num 5) (y.num one_column) b.over1,
          (
            nothing (y.num 8) (y.num one_column) b.under2,
            (
              nothing (y.num 9) (y.num one_column) b.over2,
              (
                nothing (y.num 12) (y.num one_column) b.under3,
                (
                  nothing (y.num 13) (y.num one_column) b.over3,
                  (
                    nothing (y.num 6) (y.num one_column) b.below,
                    (
                      nothing (y.num 7) (y.num one_column) b.above,
                      (nothing (y.num 10) (y.num one_column) b.below2, (nothing (y.num 11) (y.num one_column) b.above2, tt)),
                    ),
                  ),
                ),
              ),
            ),
          ),
        ),
      );
  attrs_fixed = λ y h. let b = at-rest y h in
      All-from_recursion (λ s. Agree (attr_column s.attr) rest_point y) crossing.stays (nothing (y.num (attr_column 1)) (y.num one_column) b.attr1, (nothing (y.num (attr_column 2)) (y.num one_column) b.attr2, tt));
}

exchange : IsExchange crossing leaning second_for_stay
exchange = record {
  enters = none-of (over_mark 1) over_stay over_second_stay 9 (no 9 5 (inr (omega arith))) (no 9 7 (inr (omega arith))) (no 9 11 (inl (omega arith)));
  leaves = (1, omega arith, refl);
  corner = corner;
}

-- where the corner leans on the rows 2 and 3, x and y are 0
both-zero : (u2 o2 u3 o3 one x y : ℤ) → Row2 u2 o2 one x y → Row3 u3 o3 one x y → u2 ≡ pos 0 → o2 ≡ pos 0 → u3 ≡ pos 0 → o3 ≡ pos 0 → x ≡ pos 0
both-zero u2 o2 u3 o3 one x y h k a b c d = omega (arith, ints, h, k, a, b, c, d)

out-leaning : (v : ℕ) → v ≢ 5 → v ≢ 7 → v ≢ 11 → IsIn v leaning → ⊥
out-leaning v a b c i = none-of (over_mark 1) over_stay over_second_stay v a b c i

same : ChangesNoValue crossing leaning second_for_stay
same y h =
    let z = recursion_from_All (λ n. (IsIn (place n) leaning → ⊥) → y.num (place n) ≡ pos 0) (marks_of (lines crossing)) h.1 in
    let e = recursion_from_All (λ l. value_at y.num (equation l) ≡ pos 0) (lines crossing) h.0 in
    let u2 : y.num 8 ≡ pos 0 = z.1.1.0 (out-leaning 8 (no 8 5 (inr (omega arith))) (no 8 7 (inr (omega arith))) (no 8 11 (inl (omega arith)))) in
    let o2 : y.num 9 ≡ pos 0 = z.1.1.1.0 (out-leaning 9 (no 9 5 (inr (omega arith))) (no 9 7 (inr (omega arith))) (no 9 11 (inl (omega arith)))) in
    let u3 : y.num 12 ≡ pos 0 = z.1.1.1.1.0 (out-leaning 12 (no 12 5 (inr (omega arith))) (no 12 7 (inr (omega arith))) (no 12 11 (inr (omega arith)))) in
    let o3 : y.num 13 ≡ pos 0 = z.1.1.1.1.1.0 (out-leaning 13 (no 13 5 (inr (omega arith))) (no 13 7 (inr (omega arith))) (no 13 11 (inr (omega arith)))) in
    let b1 : y.num 6 ≡ pos 0 = z.1.1.1.1.1.1.0 (out-leaning 6 (no 6 5 (inr (omega arith))) (no 6 7 (inl (omega arith))) (no 6 11 (inl (omega arith)))) in
    let x0 : y.num (attr_column 1) ≡ pos 0 = both-zero (y.num 8) (y.num 9) (y.num 12) (y.num 13) (y.num one_column) (y.num (attr_column 1)) (y.num (attr_column 2)) e.1.0 e.1.1.0 u2 o2 u3 o3 in
    next_stands crossing leaning second_for_stay y h
    (over-zero (y.num 6) (y.num 7) (y.num one_column) (y.num (attr_column 1)) e.1.1.1.0 b1 x0)

-- ---- what fits before

-- the row 1 is over by twice as much as row 2
abbrev twice : List Term
twice = record { attr = 4; by = pos 1 } ∷ record { attr = 8; by = negsuc 1 } ∷ record { attr = 9; by = pos 2 } ∷ []

sum-off : (a b c : Bool) → a ≡ false → b ≡ false → c ≡ false → cond a (pos 1) (pos 0) +ℤ (cond b (negsuc 1) (pos 0) +ℤ (cond c (pos 2) (pos 0) +ℤ pos 0)) ≡ pos 0
sum-off true b c e f g = absurd (true≢false e)
sum-off false true c e f g = absurd (true≢false f)
sum-off false false true e f g = absurd (true≢false g)
sum-off false false false e f g = refl

sum-small : (a b c : Bool) → IsFitting (cond a (pos 1) (pos 0) +ℤ (cond b (negsuc 1) (pos 0) +ℤ (cond c (pos 2) (pos 0) +ℤ pos 0)))
sum-small true true true = omega arith
sum-small true true false = omega arith
sum-small true false true = omega arith
sum-small true false false = omega arith
sum-small false true true = omega arith
sum-small false true false = omega arith
sum-small false false true = omega arith
sum-small false false false = omega arith

twice-at : (v : ℕ) → coefficient v twice ≢ pos 0 → (v ≡ 4) ⊎ ((v ≡ 8) ⊎ (v ≡ 9))
twice-at v some = elim (cases_eq 4 v) [
  | inl e ↦ inl (sym e)
  | inr a ↦ elim (cases_eq 8 v) [
    | inl e ↦ inr (inl (sym e))
    | inr b ↦ elim (cases_eq 9 v) [
      | inl e ↦ inr (inr (sym e))
      | inr c ↦ absurd (some (sum-off (nat_eq 4 v) (nat_eq 8 v) (nat_eq 9 v) (ne_eqb 4 v a) (ne_eqb 8 v b) (ne_eqb 9 v c)))
    ]
  ]
]

twice-holds : (u1 o1 u2 o2 one x y : ℤ) → Row1 u1 o1 one x y → Row2 u2 o2 one x y
    → pos 1 *ℤ (pos 1 *ℤ o1 -ℤ (pos 1 *ℤ u1 +ℤ (negsuc 1 *ℤ u2 +ℤ (pos 2 *ℤ o2 +ℤ pos 0)))) ≡ pos 1 *ℤ (pos 0 *ℤ one)
twice-holds u1 o1 u2 o2 one x y h k = omega (arith, ints, h, k)

twice-writing : IsWritingOf crossing leaning (λ x. x 5) 1 twice (pos 0) 1
twice-writing = record {
  scale_positive = omega arith;
  den_positive = omega arith;
  outside = λ v some. elim (twice-at v some) [
    | inl e ↦ ((0, omega arith, sym e), out-leaning v (λ q. absurd (omega (arith, e, q))) (λ q. absurd (omega (arith, e, q))) (λ q. absurd (omega (arith, e, q))))
    | inr r ↦ elim r [
      | inl e ↦ ((2, omega arith, sym e), out-leaning v (λ q. absurd (omega (arith, e, q))) (λ q. absurd (omega (arith, e, q))) (λ q. absurd (omega (arith, e, q))))
      | inr e ↦ ((3, omega arith, sym e), out-leaning v (λ q. absurd (omega (arith, e, q))) (λ q. absurd (omega (arith, e, q))) (λ q. absurd (omega (arith, e, q))))
    ]
  ];
  holds = λ x h. let e = recursion_from_All (λ l. value_at x.num (equation l) ≡ pos 0) (lines crossing) h in
      twice-holds (x.num 4) (x.num 5) (x.num 8) (x.num 9) (x.num one_column) (x.num (attr_column 1)) (x.num (attr_column 2)) e.0 e.1.0;
  lowest = λ k each whole. one_factor k whole.0 whole.1;
}

pub whole_fits : IsUnfitWhat crossing leaning (MarkOf (over_mark 1)) → ⊥
whole_fits (inside, none) = none 1 twice (record { num = pos 0; den = 1 }) twice-writing (omega arith) (λ v. sum-small (nat_eq 4 v) (nat_eq 8 v) (nat_eq 9 v)) (whole_is_kept 0 (omega arith))

-- ---- what does not fit there

-- the stay's under mark grows
abbrev ray : ℕ → ℤ
ray v = cond (nat_eq v 6) (pos 1) (cond (nat_eq v 5) (pos 4500000000002) (cond (nat_eq v 9) (pos 2250000000001) (cond (nat_eq v 11) (pos 1500000)
    (cond (nat_eq v (attr_column 1)) (negsuc 0) (cond (nat_eq v (attr_column 2)) (pos 1500000) (pos 0))))))

is-ray : IsRay crossing freed 6 ray
is-ray = record {
  holds = All-from_recursion (λ l. value_at ray (equation l) ≡ pos 0) (lines crossing) (refl, (refl, (refl, (refl, (refl, tt)))));
  still = refl;
  here = record { lt = tt };
  other = All-from_recursion (λ m. (IsIn (place m) freed → ⊥) → place m ≢ 6 → ray (place m) ≡ pos 0) (marks_of (lines crossing)) (
    λ o n. refl,
    (
      λ o n. absurd (o (0, omega arith, refl)),
      (
        λ o n. refl,
        (
          λ o n. absurd (o (1, omega arith, refl)),
          (
            λ o n. refl,
            (
              λ o n. refl,
              (λ o n. absurd (n refl), (λ o n. refl, (λ o n. refl, (λ o n. absurd (o (2, omega arith, refl)), tt)))),
            ),
          ),
        ),
      ),
    ),
  );
}

large : (scale : ℕ) (c : ℤ) → 0 < scale → pos scale *ℤ pos 4500000000002 ≡ c *ℤ pos 1 → IsFitting c → ⊥
large scale (pos n) above e fits = absurd (omega (arith, ints, above, e, fits))
large scale (negsuc n) above e fits = absurd (omega (arith, ints, above, e))

unfit : IsUnfitWhat crossing freed (MarkOf (over_mark 1))
unfit = (
  (0, omega arith, refl),
  λ scale form value w a b kept. large scale (coefficient 6 form) w.scale_positive (writing_moves crossing freed 5 scale form value.num value.den 6 ray corner w is-ray) (b 6),
)

freed-same : SameMarks freed freed
freed-same = (
  All-from_recursion (λ k. IsIn (place k) freed) freed ((0, omega arith, refl), ((1, omega arith, refl), ((2, omega arith, refl), tt))),
  All-from_recursion (λ k. IsIn (place k) freed) freed ((0, omega arith, refl), ((1, omega arith, refl), ((2, omega arith, refl), tt))),
)

no-second : HasMarkIn leaning 2 → ⊥
no-second (inl u) = out-leaning 8 (no 8 5 (inr (omega arith))) (no 8 7 (inr (omega arith))) (no 8 11 (inl (omega arith))) u
no-second (inr o) = out-leaning 9 (no 9 5 (inr (omega arith))) (no 9 7 (inr (omega arith))) (no 9 11 (inl (omega arith))) o

pub whole_unfit : IsFreeStop crossing leaning 2 (Unfit first_over)
whole_unfit = (
  record {
    kind = refl;
    none = refl;
    fresh = no-second;
    freed = (second_for_stay, record { enter = refl; stay = (1, refl); exchange = exchange; same = same; marks = freed-same });
    ordered = refl;
    lawful = path_here crossing freed corner (values (over_mark 1) (over_mark 2) over_second_stay refl refl refl);
  },
  (MarkOf (over_mark 1), refl, unfit),
)
