-- Where the path of a removal begins: of the only line of a script, `constrain k window.width >= 5`, and where it cannot.
use Rattle.std.proofs.Common.{◌≡◌, ◌≢◌, ◌∙◌, ℕ, zero, suc, ◌+◌, ◌++◌, Bool, true, false, cond, nat_eq, List, [], ◌∷◌, map, ℤ, pos, negsuc, ◌+ℤ◌, ◌*ℤ◌, refl, sym, ap, arith, inl, inr, All, AllPairs, Contains, true≢false, eq-eqb, ne_eqb}
use Rattle.std.proofs.lemmas.Bool.{cases_Bool}
use Rattle.std.proofs.lemmas.List.Elements.{All-from_recursion, recursion_from_All}
use Rattle.std.proofs.lemmas.List.Kept.{AllPairs-cons}
use borrow.Author.Differences.{ints}
use Rattle.problem_core.specs.declared.parts.Mark.{Mark}
use Rattle.problem_core.specs.declared.parts.Rel.TheVariants.{Ge}
use Rattle.problem_core.specs.declared.parts.RowName.{RowName}
use Rattle.problem_core.specs.declared.parts.RowName.TheVariants.{Held, Stay as StayOf}
use Rattle.problem_core.specs.declared.parts.Side.{Side}
use Rattle.problem_core.specs.declared.parts.Side.TheVariants.{Under, Over}
use Rattle.problem_core.specs.declared.parts.Stay.{Stay}
use Rattle.problem_core.specs.Layout.{Problem, lines, value_at}
use Rattle.problem_core.specs.Changes.Begins.{ChangesNoValue, ComesFrom, HasMarkOf, IsFreeing, is_one_of, without_marks}
use Rattle.problem_core.specs.Changes.Paths.{last_marks}
use Rattle.problem_core.specs.Corners.{Agree, IsCorner, IsExchange, IsIn, Point, Solves, StandsAt, Swap, attr_column, equation, marks_of, one_column, place, place_of}
use Rattle.problem_core.specs.Unfit.{over_mark}
use Rattle.problem_core.specs.Window.{required_row, structural_rows}
use Rattle.problem_core.proofs.Marks.{later-in, rows-stay}
use Rattle.corner_laws.proofs.Instances.PathExamples.{same}
use Rattle.corner_laws.proofs.RunSteps.RunPaths.{contains_in}

-- ---- what is not among marks

abbrev among : ℕ → List Mark → Bool
among c [] = false
among c (m ∷ ms) = cond (nat_eq (place m) c) true (among c ms)

not-among : (c : ℕ) (ms : List Mark) → among c ms ≡ false → IsIn c ms → ⊥
not-among c [] none (k, within, is) = absurd (omega (arith, within))
not-among c (m ∷ ms) none (zero, within, is) = true≢false (sym (ap (λ (b : Bool). cond b true (among c ms)) (eq-eqb (place m) c is)) ∙ none)
not-among c (m ∷ ms) none (suc k, within, is) = elim (cases_Bool (nat_eq (place m) c)) [
  | inl on ↦ absurd (true≢false (sym (ap (λ (b : Bool). cond b true (among c ms)) on) ∙ none))
  | inr off ↦ not-among c ms (sym (ap (λ (b : Bool). cond b true (among c ms)) off) ∙ none) (k, omega (arith, within), is)
]

-- ---- the scene of that line

abbrev stay_at : ℕ → ℕ → Stay
stay_at attr value = record { attr = attr; target = record { num = pos value; den = 1 } }

abbrev pub widened : Problem
widened = record {
  rows = structural_rows ++ required_row 5 3 Ge (record { num = pos 5; den = 1 }) ∷ [];
  stays = stay_at 1 0 ∷ stay_at 2 0 ∷ stay_at 3 5 ∷ stay_at 4 0 ∷ [];
}

abbrev stay_under : ℕ → Mark
stay_under attr = record { row = StayOf attr; side = Under }

abbrev stay_over : ℕ → Mark
stay_over attr = record { row = StayOf attr; side = Over }

-- the corner that the line's run ends at leans on the line's row
abbrev pub leaning : List Mark
leaning = over_mark 3 ∷ over_mark 4 ∷ stay_under 1 ∷ stay_under 2 ∷ stay_over 3 ∷ []

abbrev freed : List Mark
freed = over_mark 3 ∷ over_mark 4 ∷ stay_under 1 ∷ stay_under 2 ∷ over_mark 5 ∷ []

-- the corner that `remove k` leaves
abbrev pub left : List Mark
left = over_mark 3 ∷ over_mark 4 ∷ stay_under 1 ∷ stay_under 2 ∷ []

abbrev row_for_stay : Swap
row_for_stay = record { enter = over_mark 5; leave = stay_over 3 }

-- ---- the corner after the exchange: left, top and height at 0, and width at 5

abbrev at_five : ℕ → ℤ
at_five v = cond (nat_eq v (attr_column 3)) (pos 5) (cond (nat_eq v 13) (pos 5) (cond (nat_eq v one_column) (pos 1) (pos 0)))

abbrev five_point : Point
five_point = record { num = at_five; positive = record { lt = tt } }

solves : Solves widened five_point
solves = All-from_recursion (λ l. value_at at_five (equation l) ≡ pos 0) (lines widened) (refl, (refl, (refl, (refl, (refl, (refl, (refl, (refl, (refl, tt)))))))))

stands : StandsAt widened freed five_point
stands = (
  solves,
  All-from_recursion (λ m. (IsIn (place m) freed → ⊥) → at_five (place m) ≡ pos 0) (marks_of (lines widened))
      (λ o. refl, (λ o. refl, (λ o. refl, (λ o. refl, (λ o. refl, (λ o. absurd (o (0, omega arith, refl)), (λ o. refl, (λ o. refl, (λ o. refl, (λ o. refl, (λ o. refl, (λ o. refl, (λ o. refl, (λ o. refl, (λ o. refl, (λ o. refl, (λ o. refl, (λ o. refl, tt)))))))))))))))))),
)

-- the row or stay that holds a column at k
held-at : (k : ℤ) (u o one a : ℤ) → u ≡ pos 0 → o ≡ pos 0 → pos 1 *ℤ u +ℤ (negsuc 0 *ℤ o +ℤ (k *ℤ one +ℤ (pos 1 *ℤ a +ℤ pos 0))) ≡ pos 0 → k *ℤ one +ℤ a ≡ pos 0
held-at k u o one a e f h = omega (arith, ints, e, f, h)

none-of : (one a : ℤ) → pos 0 *ℤ one +ℤ a ≡ pos 0 → a ≡ pos 0
none-of one a h = omega (arith, ints, h)

five-of : (one a : ℤ) → negsuc 4 *ℤ one +ℤ a ≡ pos 0 → a ≡ pos 5 *ℤ one
five-of one a h = omega (arith, ints, h)

under-of : (k u o one a : ℤ) → o ≡ pos 0 → k *ℤ one +ℤ a ≡ pos 0 → pos 1 *ℤ u +ℤ (negsuc 0 *ℤ o +ℤ (k *ℤ one +ℤ (pos 1 *ℤ a +ℤ pos 0))) ≡ pos 0 → u ≡ pos 0
under-of k u o one a e f h = omega (arith, ints, e, f, h)

over-of : (k u o one a : ℤ) → u ≡ pos 0 → k *ℤ one +ℤ a ≡ pos 0 → pos 1 *ℤ u +ℤ (negsuc 0 *ℤ o +ℤ (k *ℤ one +ℤ (pos 1 *ℤ a +ℤ pos 0))) ≡ pos 0 → o ≡ pos 0
over-of k u o one a e f h = omega (arith, ints, e, f, h)

above-zero : (u o one a : ℤ) → u ≡ pos 0 → a ≡ pos 5 *ℤ one → pos 1 *ℤ u +ℤ (negsuc 0 *ℤ o +ℤ (pos 0 *ℤ one +ℤ (pos 1 *ℤ a +ℤ pos 0))) ≡ pos 0 → o ≡ pos 5 *ℤ one
above-zero u o one a e f h = omega (arith, ints, e, f, h)

pub record Numbers (y : Point) : Type 0 where
  left_under : y.num 4 ≡ pos 0
  left_over : y.num 5 ≡ pos 0
  top_under : y.num 8 ≡ pos 0
  top_over : y.num 9 ≡ pos 0
  width_under : y.num 12 ≡ pos 0
  width_over : y.num 13 ≡ pos 5 *ℤ y.num one_column
  height_under : y.num 16 ≡ pos 0
  height_over : y.num 17 ≡ pos 0
  line_under : y.num 20 ≡ pos 0
  line_over : y.num 21 ≡ pos 0
  left_below : y.num 6 ≡ pos 0
  left_above : y.num 7 ≡ pos 0
  top_below : y.num 10 ≡ pos 0
  top_above : y.num 11 ≡ pos 0
  width_below : y.num 14 ≡ pos 0
  width_above : y.num 15 ≡ pos 0
  height_below : y.num 18 ≡ pos 0
  height_above : y.num 19 ≡ pos 0
  left_at : y.num (attr_column 1) ≡ pos 0
  top_at : y.num (attr_column 2) ≡ pos 0
  width_at : y.num (attr_column 3) ≡ pos 5 *ℤ y.num one_column
  height_at : y.num (attr_column 4) ≡ pos 0

numbers : (y : Point) → StandsAt widened freed y → Numbers y
numbers y h =
    let one : ℤ = y.num one_column in
    let z = recursion_from_All (λ m. (IsIn (place m) freed → ⊥) → y.num (place m) ≡ pos 0) (marks_of (lines widened)) h.1 in
    let e = recursion_from_All (λ l. value_at y.num (equation l) ≡ pos 0) (lines widened) h.0 in
    let r1u : y.num 4 ≡ pos 0 = z.0 (not-among 4 freed refl) in
    let r1o : y.num 5 ≡ pos 0 = z.1.0 (not-among 5 freed refl) in
    let r2u : y.num 8 ≡ pos 0 = z.1.1.0 (not-among 8 freed refl) in
    let r2o : y.num 9 ≡ pos 0 = z.1.1.1.0 (not-among 9 freed refl) in
    let r3u : y.num 12 ≡ pos 0 = z.1.1.1.1.0 (not-among 12 freed refl) in
    let r4u : y.num 16 ≡ pos 0 = z.1.1.1.1.1.1.0 (not-among 16 freed refl) in
    let r5u : y.num 20 ≡ pos 0 = z.1.1.1.1.1.1.1.1.0 (not-among 20 freed refl) in
    let s1o : y.num 7 ≡ pos 0 = z.1.1.1.1.1.1.1.1.1.1.1.0 (not-among 7 freed refl) in
    let s2o : y.num 11 ≡ pos 0 = z.1.1.1.1.1.1.1.1.1.1.1.1.1.0 (not-among 11 freed refl) in
    let s3u : y.num 14 ≡ pos 0 = z.1.1.1.1.1.1.1.1.1.1.1.1.1.1.0 (not-among 14 freed refl) in
    let s3o : y.num 15 ≡ pos 0 = z.1.1.1.1.1.1.1.1.1.1.1.1.1.1.1.0 (not-among 15 freed refl) in
    let s4u : y.num 18 ≡ pos 0 = z.1.1.1.1.1.1.1.1.1.1.1.1.1.1.1.1.0 (not-among 18 freed refl) in
    let s4o : y.num 19 ≡ pos 0 = z.1.1.1.1.1.1.1.1.1.1.1.1.1.1.1.1.1.0 (not-among 19 freed refl) in
    let l = held-at (pos 0) (y.num 4) (y.num 5) (y.num one_column) (y.num (attr_column 1)) r1u r1o e.0 in
    let t = held-at (pos 0) (y.num 8) (y.num 9) (y.num one_column) (y.num (attr_column 2)) r2u r2o e.1.0 in
    let w = held-at (negsuc 4) (y.num 14) (y.num 15) (y.num one_column) (y.num (attr_column 3)) s3u s3o e.1.1.1.1.1.1.1.0 in
    let g = held-at (pos 0) (y.num 18) (y.num 19) (y.num one_column) (y.num (attr_column 4)) s4u s4o e.1.1.1.1.1.1.1.1.0 in
    let five = five-of (y.num one_column) (y.num (attr_column 3)) w in
    record {
      left_under = r1u;
      left_over = r1o;
      top_under = r2u;
      top_over = r2o;
      width_under = r3u;
      width_over = above-zero (y.num 12) (y.num 13) (y.num one_column) (y.num (attr_column 3)) r3u five e.1.1.0;
      height_under = r4u;
      height_over = over-of (pos 0) (y.num 16) (y.num 17) (y.num one_column) (y.num (attr_column 4)) r4u g e.1.1.1.0;
      line_under = r5u;
      line_over = over-of (negsuc 4) (y.num 20) (y.num 21) (y.num one_column) (y.num (attr_column 3)) r5u w e.1.1.1.1.0;
      left_below = under-of (pos 0) (y.num 6) (y.num 7) (y.num one_column) (y.num (attr_column 1)) s1o l e.1.1.1.1.1.0;
      left_above = s1o;
      top_below = under-of (pos 0) (y.num 10) (y.num 11) (y.num one_column) (y.num (attr_column 2)) s2o t e.1.1.1.1.1.1.0;
      top_above = s2o;
      width_below = s3u;
      width_above = s3o;
      height_below = s4u;
      height_above = s4o;
      left_at = none-of (y.num one_column) (y.num (attr_column 1)) l;
      top_at = none-of (y.num one_column) (y.num (attr_column 2)) t;
      width_at = five;
      height_at = none-of (y.num one_column) (y.num (attr_column 4)) g;
    }

zero-same : (y one : ℤ) → y ≡ pos 0 → pos 0 *ℤ one ≡ y *ℤ pos 1
zero-same y one e = omega (arith, ints, e)

apart : AllPairs (λ (a b : Mark). place a ≢ place b) freed
apart =
    AllPairs-cons (λ (a b : Mark). place a ≢ place b) (over_mark 3) (over_mark 4 ∷ stay_under 1 ∷ stay_under 2 ∷ over_mark 5 ∷ []) (All-from_recursion (λ (b : Mark). 13 ≢ place b) (over_mark 4 ∷ stay_under 1 ∷ stay_under 2 ∷ over_mark 5 ∷ []) (λ e. omega (arith, e), (λ e. omega (arith, e), (λ e. omega (arith, e), (λ e. omega (arith, e), tt)))))
    (AllPairs-cons (λ (a b : Mark). place a ≢ place b) (over_mark 4) (stay_under 1 ∷ stay_under 2 ∷ over_mark 5 ∷ []) (All-from_recursion (λ (b : Mark). 17 ≢ place b) (stay_under 1 ∷ stay_under 2 ∷ over_mark 5 ∷ []) (λ e. omega (arith, e), (λ e. omega (arith, e), (λ e. omega (arith, e), tt))))
    (AllPairs-cons (λ (a b : Mark). place a ≢ place b) (stay_under 1) (stay_under 2 ∷ over_mark 5 ∷ []) (All-from_recursion (λ (b : Mark). 6 ≢ place b) (stay_under 2 ∷ over_mark 5 ∷ []) (λ e. omega (arith, e), (λ e. omega (arith, e), tt)))
    (AllPairs-cons (λ (a b : Mark). place a ≢ place b) (stay_under 2) (over_mark 5 ∷ []) (All-from_recursion (λ (b : Mark). 10 ≢ place b) (over_mark 5 ∷ []) (λ e. omega (arith, e), tt))
    (λ i j d less within. absurd (omega (arith, less, within))))))

corner : IsCorner widened freed
corner = record {
  count = refl;
  marks = All-from_recursion (λ n. Contains (map place (marks_of (lines widened))) (place n)) freed ((5, omega arith, refl), ((7, omega arith, refl), ((10, omega arith, refl), ((12, omega arith, refl), ((9, omega arith, refl), tt)))));
  apart = apart;
  point = five_point;
  stands = stands;
  marks_fixed = λ y h. let n = numbers y h in
      let none : (v : ℤ) → v ≡ pos 0 → pos 0 *ℤ y.num one_column ≡ v *ℤ pos 1 = λ v e. zero-same v (y.num one_column) e in
      All-from_recursion (λ m. Agree (place m) five_point y) (marks_of (lines widened)) (
        none _ n.left_under,
        (
          none _ n.left_over,
          (
            none _ n.top_under,
            (
              none _ n.top_over,
              (
                none _ n.width_under,
                (
                  same (pos 5) (y.num 13) (y.num one_column) n.width_over,
                  (
                    none _ n.height_under,
                    (
                      none _ n.height_over,
                      (
                        none _ n.line_under,
                        (
                          none _ n.line_over,
                          (none _ n.left_below, (none _ n.left_above, (none _ n.top_below, (none _ n.top_above, (none _ n.width_below, (none _ n.width_above, (none _ n.height_below, (none _ n.height_above, tt)))))))),
                        ),
                      ),
                    ),
                  ),
                ),
              ),
            ),
          ),
        ),
      );
  attrs_fixed = λ y h. let n = numbers y h in
      All-from_recursion (λ s. Agree (attr_column s.attr) five_point y) widened.stays
      (zero-same (y.num (attr_column 1)) (y.num one_column) n.left_at, (zero-same (y.num (attr_column 2)) (y.num one_column) n.top_at, (same (pos 5) (y.num (attr_column 3)) (y.num one_column) n.width_at, (zero-same (y.num (attr_column 4)) (y.num one_column) n.height_at, tt))));
}

exchange : IsExchange widened leaning row_for_stay
exchange = record { enters = not-among 21 leaning refl; leaves = (4, omega arith, refl); corner = corner }

-- ---- it changes no value, since the stay is at its target

no-value : ChangesNoValue widened leaning row_for_stay
no-value x h =
    let z = recursion_from_All (λ m. (IsIn (place m) leaning → ⊥) → x.num (place m) ≡ pos 0) (marks_of (lines widened)) h.1 in
    let e = recursion_from_All (λ l. value_at x.num (equation l) ≡ pos 0) (lines widened) h.0 in
    let r5u : x.num 20 ≡ pos 0 = z.1.1.1.1.1.1.1.1.0 (not-among 20 leaning refl) in
    let r5o : x.num 21 ≡ pos 0 = z.1.1.1.1.1.1.1.1.1.0 (not-among 21 leaning refl) in
    let s3u : x.num 14 ≡ pos 0 = z.1.1.1.1.1.1.1.1.1.1.1.1.1.1.0 (not-among 14 leaning refl) in
    let w = held-at (negsuc 4) (x.num 20) (x.num 21) (x.num one_column) (x.num (attr_column 3)) r5u r5o e.1.1.1.1.0 in
    let s3o : x.num 15 ≡ pos 0 = over-of (negsuc 4) (x.num 14) (x.num 15) (x.num one_column) (x.num (attr_column 3)) s3u w e.1.1.1.1.1.1.1.0 in (
      h.0,
      All-from_recursion (λ m. (IsIn (place m) freed → ⊥) → x.num (place m) ≡ pos 0) (marks_of (lines widened)) (
        λ o. z.0 (not-among 4 leaning refl),
        (
          λ o. z.1.0 (not-among 5 leaning refl),
          (
            λ o. z.1.1.0 (not-among 8 leaning refl),
            (
              λ o. z.1.1.1.0 (not-among 9 leaning refl),
              (
                λ o. z.1.1.1.1.0 (not-among 12 leaning refl),
                (
                  λ o. absurd (o (0, omega arith, refl)),
                  (
                    λ o. z.1.1.1.1.1.1.0 (not-among 16 leaning refl),
                    (
                      λ o. absurd (o (1, omega arith, refl)),
                      (
                        λ o. r5u,
                        (
                          λ o. r5o,
                          (
                            λ o. absurd (o (2, omega arith, refl)),
                            (
                              λ o. z.1.1.1.1.1.1.1.1.1.1.1.0 (not-among 7 leaning refl),
                              (
                                λ o. absurd (o (3, omega arith, refl)),
                                (
                                  λ o. z.1.1.1.1.1.1.1.1.1.1.1.1.1.0 (not-among 11 leaning refl),
                                  (λ o. s3u, (λ o. s3o, (λ o. z.1.1.1.1.1.1.1.1.1.1.1.1.1.1.1.1.0 (not-among 18 leaning refl), (λ o. z.1.1.1.1.1.1.1.1.1.1.1.1.1.1.1.1.1.0 (not-among 19 leaning refl), tt)))),
                                ),
                              ),
                            ),
                          ),
                        ),
                      ),
                    ),
                  ),
                ),
              ),
            ),
          ),
        ),
      ),
    )

-- ---- `remove k` begins there

fresh : HasMarkOf leaning (Held 5) → ⊥
fresh (inl u) = not-among 20 leaning refl u
fresh (inr o) = not-among 21 leaning refl o

pub comes_from_line : ComesFrom widened leaning (5 ∷ []) (5 ∷ []) left
comes_from_line = record {
  frees = row_for_stay ∷ [];
  each = All-from_recursion (IsFreeing leaning (5 ∷ [])) (row_for_stay ∷ []) (record { row = refl; over = refl; fresh = fresh; stay = (3, refl) }, tt);
  apart = λ i j d less within. absurd (omega (arith, less, within));
  exchanges = (exchange, tt);
  same = (no-value, tt);
  marks = (inside, inside);
}
  where
    inside : All (λ m. IsIn (place m) left) left
    inside = All-from_recursion (λ m. IsIn (place m) left) left ((0, omega arith, refl), ((1, omega arith, refl), ((2, omega arith, refl), ((3, omega arith, refl), tt))))

-- ---- no mark of a row that stays is exchanged for one of row 4, however little that changes

name-nine : (name : RowName) (side : Side) → place_of name side ≡ 9 → is_one_of (4 ∷ []) name ≡ false
name-nine (Held id) Under e = absurd (omega (arith, e))
name-nine (Held id) Over e = ap (λ (b : Bool). cond b true false) (ne_eqb id 4 (λ f. absurd (omega (arith, e, f))))
name-nine (StayOf attr) side e = refl

nine-left : (ms : List Mark) → IsIn 9 ms → IsIn 9 (without_marks (4 ∷ []) ms)
nine-left [] (k, within, is) = absurd (omega (arith, within))
nine-left (m ∷ ms) (zero, within, is) = rw (name-nine m.row m.side is) (0, omega arith, is)
nine-left (m ∷ ms) (suc k, within, is) = elim (cases_Bool (is_one_of (4 ∷ []) m.row)) [
  | inl on ↦ rw on (nine-left ms (k, omega (arith, within), is))
  | inr off ↦ rw off (later-in m (without_marks (4 ∷ []) ms) 9 (nine-left ms (k, omega (arith, within), is)))
]

abbrev pub leaning_on_four : List Mark
leaning_on_four = over_mark 2 ∷ stay_over 2 ∷ stay_over 3 ∷ stay_over 4 ∷ []

pub comes_not_for_row : (p : Problem) → ComesFrom p leaning_on_four (4 ∷ []) (4 ∷ []) (stay_over 2 ∷ stay_over 3 ∷ stay_over 4 ∷ []) → ⊥
comes_not_for_row p h =
    not-among 9 (stay_over 2 ∷ stay_over 3 ∷ stay_over 4 ∷ []) refl
    (contains_in (without_marks (4 ∷ []) (last_marks leaning_on_four h.frees)) (stay_over 2 ∷ stay_over 3 ∷ stay_over 4 ∷ []) 9 h.marks.1
    (nine-left (last_marks leaning_on_four h.frees)
    (rows-stay leaning_on_four leaning_on_four (4 ∷ []) h.frees 2 Over (recursion_from_All (IsFreeing leaning_on_four (4 ∷ [])) h.frees h.each) (0, omega arith, refl))))
