-- The row `x >= k` where x stands at k: places 4, 5 of the row, 6, 7 of the stay.
use Rattle.std.proofs.Common.{◌≡◌, ◌∙◌, ℕ, zero, suc, false, cond, nat_eq, List, [], ◌∷◌, map, ℤ, pos, negsuc, ◌+ℤ◌, ◌*ℤ◌, ◌≤ℤ◌, refl, sym, ap, subst, arith, inl, inr, Contains}
use Rattle.std.proofs.lemmas.List.Elements.{All-from_recursion, recursion_from_All}
use borrow.Author.Differences.{ints}
use Rattle.problem_core.specs.declared.parts.Mark.{Mark}
use Rattle.problem_core.specs.declared.parts.RowName.TheVariants.{Held}
use Rattle.problem_core.specs.declared.parts.Side.{Side}
use Rattle.problem_core.specs.declared.parts.Side.TheVariants.{Under, Over}
use Rattle.problem_core.specs.declared.stops.What.{What}
use Rattle.problem_core.specs.declared.stops.What.TheVariants.{Attr}
use Rattle.problem_core.specs.declared.stops.Quantity.{Quantity}
use Rattle.problem_core.specs.declared.stops.Quantity.TheVariants.{Plain, Terms, Rows, Shifts}
use Rattle.problem_core.specs.Layout.{Problem, lines, value_at}
use Rattle.problem_core.specs.Corners.{Agree, IsCorner, IsExchange, IsIn, IsWritingOf, NoNegativeValue, Point, Solves, StandsAt, attr_column, equation, exchanged, marks_of, one_column, place, place_of}
use Rattle.problem_core.specs.Unfit.{IsUnfitWhat}
use Rattle.problem_core.specs.Changes.Begins.{ChangesNoValue}
use Rattle.problem_core.specs.Changes.Paths.{IsPath}
use Rattle.cert_core.specs.declared.stops.RunStop.TheVariants.{Unfit}
use Rattle.corner_view.specs.Seen.{HasValueAt}
use Rattle.corner_laws.specs.Examples.{over_row, over_stay, single}
use Rattle.corner_laws.proofs.Instances.Examples.{bound-stands, bound_point as stayed_point, no_writing}
use Rattle.corner_laws.proofs.MarkWritings.Fits.{one_factor, whole_is_kept, difference, difference-at, small-by, attr-holds as five-holds}
use Rattle.corner_laws.proofs.Instances.PathExamples.{alone-in, no, one-value}
use Rattle.corner_laws.proofs.RunSteps.RunPaths.{contains_in}
use Rattle.marker_remove.specs.Freed.{DoStand, HasMarkIn, IsFreeStop}
use Rattle.marker_remove.proofs.Crossing.{nothing, whole, whole_fits, whole_stands, whole_unfit, whole_values}
use Rattle.marker_remove.proofs.ZeroSwaps.{next_stands}
use Rattle.marker_remove.specs.Instances.{SomeRowsCannotLeave, row_for_stay, standing, unfit_at, x_over}
use Rattle.corner_laws.proofs.Instances.BeginExamples.{one-same}
use Rattle.problem_core.proofs.Marks.{entered-in as enter_in, no-swaps as path_here}

-- ---- x at 2^42, with all deviations 0

abbrev at_bound : ℕ → ℤ
at_bound v = cond (nat_eq v (attr_column 1)) (pos 4398046511104) (cond (nat_eq v one_column) (pos 1) (pos 0))

abbrev bound_point : Point
bound_point = record { num = at_bound; positive = record { lt = tt } }

solves : Solves (standing 4398046511104) bound_point
solves = All-from_recursion (λ l. value_at at_bound (equation l) ≡ pos 0) (lines (standing 4398046511104)) (refl, (refl, tt))

stands : (m : Mark) → StandsAt (standing 4398046511104) (m ∷ []) bound_point
stands m = (
  solves,
  All-from_recursion (λ n. (IsIn (place n) (m ∷ []) → ⊥) → at_bound (place n) ≡ pos 0) (marks_of (lines (standing 4398046511104))) (λ o. refl, (λ o. refl, (λ o. refl, (λ o. refl, tt)))),
)

values : (m : Mark) → pos 0 ≤ℤ at_bound (place m) → NoNegativeValue (standing 4398046511104) (m ∷ [])
values m up = (bound_point, stands m, one-value m bound_point up)

do_stand : DoStand (standing 4398046511104) (over_stay ∷ [])
do_stand = All-from_recursion (λ s. HasValueAt (standing 4398046511104) (over_stay ∷ []) (attr_column s.attr) s.target) (standing 4398046511104).stays ((bound_point, stands over_stay, refl), tt)

-- ---- the corner of the row's over mark

solve : (u o p q one a : ℤ) → u ≡ pos 0 → p ≡ pos 0 → q ≡ pos 0
    → pos 1 *ℤ u +ℤ (negsuc 0 *ℤ o +ℤ (negsuc 4398046511103 *ℤ one +ℤ (pos 1 *ℤ a +ℤ pos 0))) ≡ pos 0
    → pos 1 *ℤ p +ℤ (negsuc 0 *ℤ q +ℤ (negsuc 4398046511103 *ℤ one +ℤ (pos 1 *ℤ a +ℤ pos 0))) ≡ pos 0
    → (o ≡ pos 0) × (a ≡ pos 4398046511104 *ℤ one)
solve u o p q one a e f g h k = (omega (arith, ints, e, f, g, h, k), omega (arith, ints, f, g, k))

bound-same : (a one : ℤ) → a ≡ pos 4398046511104 *ℤ one → pos 4398046511104 *ℤ one ≡ a *ℤ pos 1
bound-same a one e = omega (arith, ints, e)

pub record AtBound (y : Point) : Type 0 where
  pub under : y.num 4 ≡ pos 0
  pub over : y.num 5 ≡ pos 0
  pub below : y.num 6 ≡ pos 0
  pub above : y.num 7 ≡ pos 0
  pub attr : y.num (attr_column 1) ≡ pos 4398046511104 *ℤ y.num one_column

at-bound : (y : Point) → StandsAt (standing 4398046511104) (over_row ∷ []) y → AtBound y
at-bound y h =
    let z = recursion_from_All (λ n. (IsIn (place n) (over_row ∷ []) → ⊥) → y.num (place n) ≡ pos 0) (marks_of (lines (standing 4398046511104))) h.1 in
    let e = recursion_from_All (λ l. value_at y.num (equation l) ≡ pos 0) (lines (standing 4398046511104)) h.0 in
    let u = z.0 (alone-in over_row 4 (no 4 5 (inl (omega arith)))) in
    let p = z.1.1.0 (alone-in over_row 6 (no 6 5 (inr (omega arith)))) in
    let q = z.1.1.1.0 (alone-in over_row 7 (no 7 5 (inr (omega arith)))) in
    let s = solve (y.num 4) (y.num 5) (y.num 6) (y.num 7) (y.num one_column) (y.num (attr_column 1)) u p q e.0 e.1.0 in
    record { under = u; over = s.0; below = p; above = q; attr = s.1 }

row_corner : IsCorner (standing 4398046511104) (over_row ∷ [])
row_corner = record {
  count = refl;
  marks = All-from_recursion (λ n. Contains (map place (marks_of (lines (standing 4398046511104)))) (place n)) (over_row ∷ []) ((1, omega arith, refl), tt);
  apart = λ i j d less within. absurd (omega (arith, less, within));
  point = bound_point;
  stands = stands over_row;
  marks_fixed = λ y h. let b = at-bound y h in
      All-from_recursion (λ n. Agree (place n) bound_point y) (marks_of (lines (standing 4398046511104)))
      (nothing (y.num 4) (y.num one_column) b.under, (nothing (y.num 5) (y.num one_column) b.over, (nothing (y.num 6) (y.num one_column) b.below, (nothing (y.num 7) (y.num one_column) b.above, tt))));
  attrs_fixed = λ y h. All-from_recursion (λ s. Agree (attr_column s.attr) bound_point y) (standing 4398046511104).stays (bound-same (y.num (attr_column 1)) (y.num one_column) (at-bound y h).attr, tt);
}

-- ---- the stop

pub row_exchange : IsExchange (standing 4398046511104) (over_stay ∷ []) (record { enter = over_row; leave = over_stay })
row_exchange = record {
  enters = alone-in over_stay 5 (no 5 7 (inl (omega arith)));
  leaves = (0, omega arith, refl);
  corner = row_corner;
}

-- the stay's mark is at 0 where the row's are, so that it changes no value
at-zero : (u o p q one a : ℤ) → u ≡ pos 0 → o ≡ pos 0 → p ≡ pos 0
    → pos 1 *ℤ u +ℤ (negsuc 0 *ℤ o +ℤ (negsuc 4398046511103 *ℤ one +ℤ (pos 1 *ℤ a +ℤ pos 0))) ≡ pos 0
    → pos 1 *ℤ p +ℤ (negsuc 0 *ℤ q +ℤ (negsuc 4398046511103 *ℤ one +ℤ (pos 1 *ℤ a +ℤ pos 0))) ≡ pos 0
    → q ≡ pos 0
at-zero u o p q one a e f g h k = omega (arith, ints, e, f, g, h, k)

pub row_same : ChangesNoValue (standing 4398046511104) (over_stay ∷ []) (record { enter = over_row; leave = over_stay })
row_same x h =
    let z = recursion_from_All (λ n. (IsIn (place n) (over_stay ∷ []) → ⊥) → x.num (place n) ≡ pos 0) (marks_of (lines (standing 4398046511104))) h.1 in
    let e = recursion_from_All (λ l. value_at x.num (equation l) ≡ pos 0) (lines (standing 4398046511104)) h.0 in
    let u = z.0 (alone-in over_stay 4 (no 4 7 (inl (omega arith)))) in
    let o = z.1.0 (alone-in over_stay 5 (no 5 7 (inl (omega arith)))) in
    let p = z.1.1.0 (alone-in over_stay 6 (no 6 7 (inl (omega arith)))) in
    next_stands (standing 4398046511104) (over_stay ∷ []) (record { enter = over_row; leave = over_stay }) x h
    (at-zero (x.num 4) (x.num 5) (x.num 6) (x.num 7) (x.num one_column) (x.num (attr_column 1)) u o p e.0 e.1.0)

pub x_unfit : IsUnfitWhat (standing 4398046511104) (over_row ∷ []) (Attr 1)
x_unfit = (
  (0, record { attr = 1; target = record { num = pos 4398046511104; den = 1 } }, omega arith, refl, refl),
  no_writing (standing 4398046511104) (over_row ∷ []) (λ x. x (attr_column 1)) bound_point (stands over_row) refl refl,
)

pub no_mark : HasMarkIn (over_stay ∷ []) 1 → ⊥
no_mark (inl u) = alone-in over_stay 4 (no 4 7 (inl (omega arith))) u
no_mark (inr o) = alone-in over_stay 5 (no 5 7 (inl (omega arith))) o

unfit : IsFreeStop (standing 4398046511104) (over_stay ∷ []) 1 (Unfit x_over)
unfit = (
  record {
    kind = refl;
    none = refl;
    fresh = no_mark;
    freed = (record { enter = over_row; leave = over_stay }, record { enter = refl; stay = (1, refl); exchange = row_exchange; same = row_same; marks = one-same over_row });
    ordered = refl;
    lawful = path_here (standing 4398046511104) (over_row ∷ []) row_corner (values over_row (record { le = tt }));
  },
  (Attr 1, refl, x_unfit),
)

-- the path of no exchange there
pub row_path : IsPath false (standing 4398046511104) (over_row ∷ []) []
row_path = path_here (standing 4398046511104) (over_row ∷ []) row_corner (values over_row (record { le = tt }))

-- ---- no stop

abbrev what_of : Quantity → What
what_of (Plain what) = what
what_of (Terms mark j) = Attr 0
what_of (Rows level j) = Attr 0
what_of (Shifts what j) = Attr 0

-- x is the stay's over deviation less its under one, and 5
x-writing : IsWritingOf (standing 5) (over_row ∷ []) (λ x. x (attr_column 1)) 1 (difference 7 6) (pos 5) 1
x-writing = record {
  scale_positive = omega arith;
  den_positive = omega arith;
  outside = λ v some. elim (difference-at 7 6 v some) [
    | inl e ↦ ((3, omega arith, sym e), alone-in over_row v (λ q. omega (arith, e, q)))
    | inr e ↦ ((2, omega arith, sym e), alone-in over_row v (λ q. omega (arith, e, q)))
  ];
  holds = λ x h. five-holds (x.num 6) (x.num 7) (x.num one_column) (x.num (attr_column 1)) (recursion_from_All (λ l. value_at x.num (equation l) ≡ pos 0) (lines (standing 5)) h).1.0;
  lowest = λ k each whole. one_factor k whole.0 whole.1;
}

pub x_fits : IsUnfitWhat (standing 5) (over_row ∷ []) (Attr 1) → ⊥
x_fits (stay, none) = none 1 (difference 7 6) (record { num = pos 5; den = 1 }) x-writing (omega arith) (small-by 7 6) (whole_is_kept 5 (omega arith))

fits : IsFreeStop (standing 5) (over_stay ∷ []) 1 (Unfit x_over) → ⊥
fits (path, (what, is, bad)) = x_fits (subst (IsUnfitWhat (standing 5) (over_row ∷ [])) (sym (ap what_of is)) bad)

-- what enters is in the corner after, and is not in the one before
not_freed : (p : Problem) (at : List Mark) (id : ℕ) (quantity : Quantity) → IsFreeStop p at id (Unfit (unfit_at at quantity)) → ⊥
not_freed p at id quantity (path, bad) =
    let s = path.freed.0 in
    let freed = path.freed.1 in
    freed.exchange.enters (contains_in (exchanged s at) at (place s.enter) freed.marks.0 (enter_in s at freed.exchange.leaves))

second-place : (m : Mark) → m.row ≡ Held 2 → place m ≡ 5 → ⊥
second-place m e f = small-eight m.side (sym (ap (λ (r : _). place_of r m.side) e) ∙ f)
  where
    small-eight : (side : Side) → place_of (Held 2) side ≡ 5 → ⊥
    small-eight Under e = absurd (omega (arith, e))
    small-eight Over e = absurd (omega (arith, e))

in-one : (c : ℕ) (m : Mark) → IsIn c (m ∷ []) → place m ≡ c
in-one c m (zero, within, is) = is
in-one c m (suc k, within, is) = absurd (omega (arith, within))

other_row : IsFreeStop (standing 4398046511104) (over_stay ∷ []) 2 (Unfit x_over) → ⊥
other_row (path, bad) =
    let s = path.freed.0 in
    let freed = path.freed.1 in
    second-place s.enter (ap (λ (m : Mark). m.row) freed.enter) (sym (in-one (place s.enter) over_row (contains_in (exchanged s (over_stay ∷ [])) (over_row ∷ []) (place s.enter) freed.marks.0 (enter_in s (over_stay ∷ []) freed.exchange.leaves))))

-- where the stay is at 0 and x at 2^42, the exchange takes x to 0
moved : ChangesNoValue (single 4398046511104) (over_stay ∷ []) row_for_stay → ⊥
moved h =
    let z = recursion_from_All (λ n. (IsIn (place n) (over_row ∷ []) → ⊥) → (stayed_point 4398046511104).num (place n) ≡ pos 0) (marks_of (lines (single 4398046511104))) (h (stayed_point 4398046511104) bound-stands).1 in
    let e : pos 4398046511104 ≡ pos 0 = z.1.1.1.0 (alone-in over_row 7 (no 7 5 (inr (omega arith)))) in
    absurd (omega (arith, ints, e))

pub some_rows_cannot_leave : SomeRowsCannotLeave
some_rows_cannot_leave = record {
  values = values over_stay (record { le = tt });
  stands = do_stand;
  unfit = unfit;
  fits = fits;
  other_row = other_row;
  not_freed = not_freed;
  same = row_same;
  moved = moved;
  whole = whole;
  whole_values = whole_values;
  whole_stands = whole_stands;
  whole_fits = whole_fits;
  whole_unfit = whole_unfit;
}
