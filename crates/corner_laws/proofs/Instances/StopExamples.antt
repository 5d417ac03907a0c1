-- Why a change stops, as a whole: where each cause is shown, and where it is not.
use Rattle.std.proofs.Common.{◌≡◌, ℕ, Bool, true, false, List, [], ◌∷◌, length, ℤ, pos, negsuc, ◌+ℤ◌, ◌*ℤ◌, ◌≤ℤ◌, refl, sym, arith, inl, inr, All, true≢false}
use Rattle.std.proofs.lemmas.List.Elements.{All-from_recursion, recursion_from_All}
use Rattle.std.proofs.lemmas.List.Kept.{AllPairs-cons}
use Rattle.std.proofs.lemmas.Nat.Gcd.{dvd_antisymm}
use Rattle.std.proofs.Math.Nat.{one-dvd}
use borrow.Author.Differences.{ints}
use Rattle.frac_core.proofs.Integers.{zero-mul_ℤ}
use Rattle.problem_core.specs.declared.parts.Mark.{Mark}
use Rattle.problem_core.specs.declared.stops.What.TheVariants.{Attr, Mark as MarkOf, Level as LevelOf}
use Rattle.problem_core.specs.declared.stops.Quantity.TheVariants.{Plain, Terms, Rows, Shifts}
use Rattle.problem_core.specs.Layout.{Problem, Row, lines, value_at}
use Rattle.problem_core.specs.Corners.{ArePairwiseDifferent, IsCorner, NoNegativeValue, Point, SameMarks, StandsAt, equation, one_column, place, attr_column}
use Rattle.cert_core.specs.Paths.{Path}
use Rattle.cert_core.specs.Stops.{AreNonnegativeBefore, IsBefore, IsStopOf}
use Rattle.cert_core.specs.declared.stops.RunStop.TheVariants.{Conflict, Unfit, Spent}
use Rattle.corner_laws.specs.Examples.{at_least, over_row, over_stay, single, under_row}
use Rattle.corner_laws.specs.Laws.{AllFit, Anywhere}
use Rattle.corner_laws.proofs.Instances.Examples.{attr_unfit, below-stands, below_point, bound-stands, bound_point, terms_unfit}
use Rattle.corner_laws.proofs.MarkWritings.Fits.{attr_fits, whole_is_kept}
use Rattle.corner_laws.proofs.Instances.PathExamples.{Numbers, corner-from, no, one-value, under-sound, under_corner, under_no_end, zeros-of}
use Rattle.corner_laws.proofs.Instances.Shown.{not_shown, one_each, opposed, shown, two_each}

one-corner : (at : List Mark) → ArePairwiseDifferent (at ∷ [])
one-corner at = AllPairs-cons (λ (a b : List Mark). SameMarks a b → ⊥) at [] (All-from_recursion (λ (b : List Mark). SameMarks at b → ⊥) [] tt) (λ i j d less within. absurd (omega (arith, within)))

-- ---- a conflict

pub conflict_stops : IsStopOf false opposed [] Anywhere 0 (Conflict one_each)
conflict_stops = shown

pub factor_stops_not : IsStopOf false opposed [] Anywhere 0 (Conflict two_each) → ⊥
factor_stops_not h = not_shown h

-- ---- a budget that is used up

abbrev idle_path : Bool → Path
idle_path dual = record { dual = dual; corner = under_row ∷ []; swaps = [] }

-- no exchange is left at a corner that is no end
pub spent_stops : IsStopOf false (single 5) [] Anywhere 0 (Spent (idle_path false))
spent_stops = (
  refl,
  record {
    begins = tt;
    lawful = record { corner = under_corner; apart = one-corner (under_row ∷ []); lawful = under-sound };
    count = refl;
    no_end = under_no_end;
  },
)

-- one is left
pub early_stops_not : IsStopOf false (single 5) [] Anywhere 1 (Spent (idle_path false)) → ⊥
early_stops_not (kind, h) = let e : 0 ≡ 1 = h.count in absurd (omega (arith, e))

-- a path of the other kind
pub dual_stops_not : IsStopOf false (single 5) [] Anywhere 0 (Spent (idle_path true)) → ⊥
dual_stops_not (kind, h) = not-both kind
  where
    not-both : true ≡ false → ⊥
    not-both e = true≢false e

-- ---- what does not fit: `x >= 2^42`

eqs : (x : Point) → All (λ l. value_at x.num (equation l) ≡ pos 0) (lines (single 4398046511104))
    → (pos 1 *ℤ x.num 4 +ℤ (negsuc 0 *ℤ x.num 5 +ℤ (negsuc 4398046511103 *ℤ x.num one_column +ℤ (pos 1 *ℤ x.num (attr_column 1) +ℤ pos 0))) ≡ pos 0)
    × (pos 1 *ℤ x.num 6 +ℤ (negsuc 0 *ℤ x.num 7 +ℤ (pos 0 *ℤ x.num one_column +ℤ (pos 1 *ℤ x.num (attr_column 1) +ℤ pos 0))) ≡ pos 0)
eqs x h = let e = recursion_from_All (λ l. value_at x.num (equation l) ≡ pos 0) (lines (single 4398046511104)) h in (e.0, e.1.0)

solve-stay : (u o p q one a : ℤ) → u ≡ pos 0 → o ≡ pos 0 → p ≡ pos 0
    → pos 1 *ℤ u +ℤ (negsuc 0 *ℤ o +ℤ (negsuc 4398046511103 *ℤ one +ℤ (pos 1 *ℤ a +ℤ pos 0))) ≡ pos 0
    → pos 1 *ℤ p +ℤ (negsuc 0 *ℤ q +ℤ (pos 0 *ℤ one +ℤ (pos 1 *ℤ a +ℤ pos 0))) ≡ pos 0
    → (u ≡ pos 0 *ℤ one) × (o ≡ pos 0 *ℤ one) × (p ≡ pos 0 *ℤ one) × (q ≡ pos 4398046511104 *ℤ one) × (a ≡ pos 4398046511104 *ℤ one)
solve-stay u o p q one a e f g h k = (omega (arith, ints, e), omega (arith, ints, f), omega (arith, ints, g), omega (arith, ints, e, f, g, h, k), omega (arith, ints, e, f, h))

solve-over : (u o p q one a : ℤ) → u ≡ pos 0 → p ≡ pos 0 → q ≡ pos 0
    → pos 1 *ℤ u +ℤ (negsuc 0 *ℤ o +ℤ (negsuc 4398046511103 *ℤ one +ℤ (pos 1 *ℤ a +ℤ pos 0))) ≡ pos 0
    → pos 1 *ℤ p +ℤ (negsuc 0 *ℤ q +ℤ (pos 0 *ℤ one +ℤ (pos 1 *ℤ a +ℤ pos 0))) ≡ pos 0
    → (u ≡ pos 0 *ℤ one) × (o ≡ negsuc 4398046511103 *ℤ one) × (p ≡ pos 0 *ℤ one) × (q ≡ pos 0 *ℤ one) × (a ≡ pos 0 *ℤ one)
solve-over u o p q one a e f g h k = (omega (arith, ints, e), omega (arith, ints, e, f, g, h, k), omega (arith, ints, f), omega (arith, ints, g), omega (arith, ints, f, g, k))

stay-numbers : (y : Point) → StandsAt (single 4398046511104) (over_stay ∷ []) y → Numbers y (pos 0) (pos 0) (pos 0) (pos 4398046511104) (pos 4398046511104)
stay-numbers y h =
    let z = zeros-of 4398046511104 over_stay y h in
    let e = eqs y h.0 in
    let s = solve-stay (y.num 4) (y.num 5) (y.num 6) (y.num 7) (y.num one_column) (y.num (attr_column 1)) (z.0 (no 4 7 (inl (omega arith)))) (z.1 (no 5 7 (inl (omega arith)))) (z.2 (no 6 7 (inl (omega arith)))) e.0 e.1 in
    record { under = s.0; over = s.1; below = s.2; above = s.3; attr = s.4 }

over-numbers : (y : Point) → StandsAt (single 4398046511104) (over_row ∷ []) y → Numbers y (pos 0) (negsuc 4398046511103) (pos 0) (pos 0) (pos 0)
over-numbers y h =
    let z = zeros-of 4398046511104 over_row y h in
    let e = eqs y h.0 in
    let s = solve-over (y.num 4) (y.num 5) (y.num 6) (y.num 7) (y.num one_column) (y.num (attr_column 1)) (z.0 (no 4 5 (inl (omega arith)))) (z.2 (no 6 5 (inr (omega arith)))) (z.3 (no 7 5 (inr (omega arith)))) e.0 e.1 in
    record { under = s.0; over = s.1; below = s.2; above = s.3; attr = s.4 }

stay_corner : IsCorner (single 4398046511104) (over_stay ∷ [])
stay_corner = corner-from 4398046511104 over_stay (bound_point 4398046511104) (pos 0) (pos 0) (pos 0) (pos 4398046511104) (pos 4398046511104) (3, omega arith, refl) bound-stands refl stay-numbers

over_corner : IsCorner (single 4398046511104) (over_row ∷ [])
over_corner = corner-from 4398046511104 over_row below_point (pos 0) (negsuc 4398046511103) (pos 0) (pos 0) (pos 0) (1, omega arith, refl) below-stands refl over-numbers

stay-sound : NoNegativeValue (single 4398046511104) (over_stay ∷ [])
stay-sound = (bound_point 4398046511104, bound-stands, one-value over_stay (bound_point 4398046511104) (record { le = tt }))

-- x does not fit where it stands at the bound
pub unfit_stops : IsStopOf false (single 4398046511104) [] Anywhere 0 (Unfit (record { path = record { dual = false; corner = over_stay ∷ []; swaps = [] }; quantity = Plain (Attr 1) }))
unfit_stops = (
  refl,
  omega arith,
  (tt, record { corner = stay_corner; apart = one-corner (over_stay ∷ []); lawful = stay-sound }, attr_unfit),
)

-- 5 fits
pub fitting_stops_not : (budget : ℕ) → IsStopOf false (single 5) [] Anywhere budget (Unfit (record { path = record { dual = false; corner = over_stay ∷ []; swaps = [] }; quantity = Plain (Attr 1) })) → ⊥
fitting_stops_not budget (kind, few, (begins, lawful, none)) = attr_fits [] none

before-one : AreNonnegativeBefore (single 4398046511104) (over_row ∷ []) 1
before-one = (below_point, below-stands, All-from_recursion (λ m. IsBefore 1 m.row → pos 0 ≤ℤ below_point.num (place m)) (over_row ∷ []) ((λ h. absurd (omega (arith, h))), tt))

-- while the new row is over, all of it less its constant does not fit
pub terms_stop : IsStopOf false (single 4398046511104) [] Anywhere 0 (Unfit (record { path = record { dual = false; corner = over_row ∷ []; swaps = [] }; quantity = Terms over_row 2 }))
terms_stop = (refl, omega arith, (refl, refl, over_corner, (at_least 4398046511104, [], tt, refl, before-one), terms_unfit))

-- on a dual path no sum of terms stops
pub dual_terms_stop_not : (p : Problem) (old : List Row) (budget : ℕ) (path : Path) (mark : Mark) (j : ℕ) → IsStopOf true p old Anywhere budget (Unfit (record { path = path; quantity = Terms mark j })) → ⊥
dual_terms_stop_not p old budget path mark j (kind, few, h) = not-both h.0
  where
    not-both : true ≡ false → ⊥
    not-both e = true≢false e

-- ---- whether all fits

-- nothing is there that could not fit
pub all_fit : AllFit (record { rows = []; stays = [] }) []
all_fit at (Plain (Attr attr)) corner ((k, s, within, is, e), none) = absurd (omega (arith, within))
all_fit [] (Plain (MarkOf m)) corner ((k, within, is), none) = absurd (omega (arith, within))
all_fit (n ∷ at) (Plain (MarkOf m)) corner h = let e : length (n ∷ at) ≡ 0 = corner.count in absurd (omega (arith, e))
all_fit at (Plain (LevelOf level)) corner (k, is, none) =
    none 1 (λ name. pos 0) (λ v. pos 0) (record { num = pos 0; den = 1 })
    (record {
      scale_positive = omega arith;
      cancel = λ v. refl;
      columns = λ side i d within. absurd (omega (arith, within));
      inside_zero = λ side i d within. absurd (omega (arith, within));
      lowest = λ j h each. dvd_antisymm h (one-dvd j);
    })
    (corner.point, corner.stands, sym (zero-mul_ℤ (pos 1 *ℤ corner.point.num one_column)))
    (record { scale_fits = omega arith; times_fit = λ i d within. absurd (omega (arith, within)); reduced_fit = λ side i d within. absurd (omega (arith, within)) })
    (whole_is_kept 0 (omega arith))
all_fit at (Terms mark j) corner ((k, r, within, is, h), fresh) = absurd (omega (arith, within))
all_fit at (Rows level j) corner ((k, is, a, b, none), fresh) = absurd (omega (arith, a, b))
all_fit at (Shifts what j) corner (same, a, b, h) = absurd (omega (arith, a, b))

-- `x >= 2^42` has a corner at which x does not fit
pub not_all_fit : AllFit (single 4398046511104) [] → ⊥
not_all_fit fit = fit (over_stay ∷ []) (Plain (Attr 1)) stay_corner attr_unfit
