-- A view that is 20 narrower than the window, and at least 30 wide: a conflict below 50, and a piece above.
use Rattle.std.proofs.Common.{◌≡◌, ◌≢◌, ◌∙◌, ℕ, ◌+◌, ◌*◌, ◌/◌, ◌<◌, ◌≤◌, inl, Bool, true, false, cond, nat_eq, [], ◌∷◌, ℤ, pos, negsuc, ◌+ℤ◌, ◌-ℤ◌, ◌*ℤ◌, ◌≤ℤ◌, ◌<ℤ◌, unsigned_abs, refl, sym, ap, ap₂, subst, arith, All, AllPairs, Any}
use Rattle.std.specs.Int.{◌∣◌}
use Rattle.std.proofs.Math.Nat.{div_self, one-dvd}
use Rattle.std.proofs.lemmas.List.Elements.{All-from_recursion, recursion_from_All}
use Rattle.std.proofs.lemmas.List.Kept.{AllPairs-cons}
use Rattle.std.proofs.lemmas.Nat.Gcd.{dvd_antisymm}
use borrow.Author.Differences.{ints}
use Rattle.frac_core.specs.declared.frac.TheConstants.{PART_BOUND}
use Rattle.frac_core.specs.Fraction.{Fraction, IsKept, IsLowest}
use Rattle.frac_core.proofs.Bools.{true-not-false}
use Rattle.frac_core.proofs.Integers.{cancel_mul, diff-add, diff-mul, diff-neg, diff-pos, diff_eq, minus-one, neg-pos, on_1}
use Rattle.problem_core.specs.declared.parts.RowName.TheVariants.{Held}
use Rattle.problem_core.specs.declared.parts.Rel.TheVariants.{Eq, Ge}
use Rattle.problem_core.specs.Layout.{Assignment, HasStay, IsBest, IsCovered, IsProper, Problem, Row, above, below, error, line_of_row, lines}
use Rattle.problem_core.specs.Certificates.{HasSign, required}
use Rattle.problem_core.proofs.Best.Agreed.{agreed-IsBest}
use Rattle.problem_core.proofs.Best.WindowRows.{not_below}
use Rattle.problem_core.proofs.StayNumbers.{two_numbers}
use Rattle.cert_core.specs.declared.by.By.{By}
use Rattle.cert_core.specs.Claims.{times_of}
use Rattle.cert_core.specs.Stops.{ComesBefore, IsShownConflict}
use Rattle.corner_laws.proofs.MarkWritings.Fits.{whole_is_kept}
use Rattle.corner_lines.specs.Shifts.{with_constant}
use Rattle.sweep_laws.specs.Fractions.{IsLess, IsNoMore, difference}
use Rattle.sweep_laws.specs.Stretches.{AreAllValues, AreMovedTo, Clash, IsBestAt, IsRightConflict, IsRightPiece, IsSweep, Rates, Stretch, moved_values}
use Rattle.sweep_laws.specs.Instances.{SomeConflicts, both, by_row, narrow, narrow_by, piece, points, row_of, still, term}
use Rattle.sweep_laws.proofs.BendSweeps.{gives-line, long, no-more-points, no-more-than, reach-line, rising_rates, upwards}
use Rattle.sweep_laws.proofs.Forms.{alone-form, clash-form, not-pointed, not-split, not-twice}

ruleset ring = (minus-one, diff-add, diff-mul, diff-neg, diff-pos, neg-pos)

abbrev Value : Type 0
Value = ℕ × Fraction

abbrev narrow_at : Fraction → Problem
narrow_at w = with_constant 1 w narrow

abbrev width_at : Fraction → Row
width_at w = row_of 1 1000 Eq w (term 1 (pos 1) ∷ [])

abbrev pub inset : Row
inset = row_of 2 1000 Eq (points 20) (term 1 (pos 1) ∷ term 2 (negsuc 0) ∷ [])

abbrev least : Row
least = row_of 3 1000 Ge (points 30) (term 2 (pos 1) ∷ [])

-- ---- the conflict

cancels : (d e : Bool) → negsuc 0 *ℤ (cond d (pos 1) (pos 0) +ℤ pos 0) +ℤ (pos 1 *ℤ (cond d (pos 1) (pos 0) +ℤ (cond e (negsuc 0) (pos 0) +ℤ pos 0)) +ℤ (pos 1 *ℤ (cond e (pos 1) (pos 0) +ℤ pos 0) +ℤ pos 0)) ≡ pos 0
cancels true true = refl
cancels true false = refl
cancels false true = refl
cancels false false = refl

pub own-share : (d : ℕ) → 0 < d → d * 1 / d ≡ 1
own-share d h = let e : d / d ≡ 1 = div_self h in ap (λ (n : ℕ). n / d) (let f : d * 1 ≡ d = omega arith in f) ∙ e

pub whole-share : (d : ℕ) → d * 1 / 1 ≡ d
whole-share d = omega arith

above-none : (n : ℤ) (d p q : ℕ) → p ≡ 1 → q ≡ d → (n *ℤ pos 1) <ℤ (pos 50 *ℤ pos d) → pos 0 <ℤ (negsuc 0 *ℤ (n *ℤ pos p) +ℤ (pos 1 *ℤ (pos 20 *ℤ pos q) +ℤ (pos 1 *ℤ (pos 30 *ℤ pos q) +ℤ pos 0)))
above-none n d p q e f h =
    subst (λ (z : ℤ). pos 0 <ℤ z) (sym (ap₂ (λ (a b : ℕ). negsuc 0 *ℤ (n *ℤ pos a) +ℤ (pos 1 *ℤ (pos 20 *ℤ pos b) +ℤ (pos 1 *ℤ (pos 30 *ℤ pos b) +ℤ pos 0))) e f))
    (let g : pos 0 <ℤ (negsuc 0 *ℤ (n *ℤ pos 1) +ℤ (pos 1 *ℤ (pos 20 *ℤ pos d) +ℤ (pos 1 *ℤ (pos 30 *ℤ pos d) +ℤ pos 0))) = omega (arith, ints, h) in g)

some-times : (z : ℤ) → (z ≡ negsuc 0) → z ≢ pos 0
some-times z e f = omega (arith, ints, e, f)

one-times : (z : ℤ) → (z ≡ pos 1) → z ≢ pos 0
one-times z e f = omega (arith, ints, e, f)

rising-by : AllPairs (λ (a b : By). ComesBefore a.row b.row) narrow_by
rising-by =
    AllPairs-cons (λ (a b : By). ComesBefore a.row b.row) (by_row 1 (negsuc 0)) (by_row 2 (pos 1) ∷ by_row 3 (pos 1) ∷ []) (All-from_recursion (λ (b : By). ComesBefore (Held 1) b.row) (by_row 2 (pos 1) ∷ by_row 3 (pos 1) ∷ []) (omega arith, (omega arith, tt)))
    (AllPairs-cons (λ (a b : By). ComesBefore a.row b.row) (by_row 2 (pos 1)) (by_row 3 (pos 1) ∷ []) (All-from_recursion (λ (b : By). ComesBefore (Held 2) b.row) (by_row 3 (pos 1) ∷ []) (omega arith, tt)) (λ i j d less within. absurd (omega (arith, less, within))))

shown-at : (w : Fraction) → 0 < w.den → (w.num *ℤ pos 1) <ℤ (pos 50 *ℤ pos w.den) → IsShownConflict (narrow_at w) narrow_by
shown-at w hw low = record {
  refutes = record {
    cancel = λ v. cancels (nat_eq 1 v) (nat_eq 2 v);
    signs = All-from_recursion (λ r. HasSign r.rel (times_of narrow_by (Held r.id))) (required (narrow_at w)) (tt, (tt, (record { le = tt }, tt)));
    above_zero = above-none w.num w.den (w.den * 1 / w.den) (w.den * 1 / 1) (own-share w.den hw) (whole-share w.den) low;
  };
  named = All-from_recursion (λ b. Any (λ r. b.row ≡ Held r.id) (required (narrow_at w))) narrow_by ((0, width_at w, omega arith, refl, refl), ((1, inset, omega arith, refl, refl), ((2, least, omega arith, refl, refl), tt)));
  nonzero = All-from_recursion (λ b. b.times ≢ pos 0) narrow_by (some-times (negsuc 0) refl, (one-times (pos 1) refl, (one-times (pos 1) refl, tt)));
  rising = rising-by;
  lowest = λ k h. dvd_antisymm ((recursion_from_All (λ b. k ∣ unsigned_abs b.times) narrow_by h).0) (one-dvd k);
}

below-50 : (n : ℤ) (d m : ℕ) → m < 50 → 0 < d → (n *ℤ pos 1) ≤ℤ (pos m *ℤ pos d) → (n *ℤ pos 1) <ℤ (pos 50 *ℤ pos d)
below-50 n d m h some up = strictly (no-more-than 49 m d (n *ℤ pos 1) (omega (arith, h)) up)
  where
    strictly : (n *ℤ pos 1) ≤ℤ (pos 49 *ℤ pos d) → (n *ℤ pos 1) <ℤ (pos 50 *ℤ pos d)
    strictly k = omega (arith, ints, k, some)

right-below : IsRightConflict narrow 1 (points 40) (points 50) true false narrow_by
right-below = record {
  upwards = upwards 40 50 (omega arith) (omega arith) (omega arith);
  each = λ w is within. shown-at w is.above (within.not_last refl);
}

right-alone : IsRightConflict narrow 1 (points 40) (points 45) true true narrow_by
right-alone = record {
  upwards = upwards 40 45 (omega arith) (omega arith) (omega arith);
  each = λ w is within. shown-at w is.above (below-50 w.num w.den 45 (omega arith) is.above within.upper);
}

pub true-is-not : (A : Type 0) → true ≡ false → A
true-is-not A e = absurd (true-not-false e)

not-at : IsRightConflict narrow 1 (points 40) (points 50) true true narrow_by → ⊥
not-at right =
    let shown = right.each (points 50) (whole_is_kept 50 (omega arith)).lowest
    (record {
      lower = no-more-points 40 50 (omega arith);
      upper = no-more-points 50 50 (omega arith);
      not_first = λ e. true-is-not (IsLess (points 40) (points 50)) e;
      not_last = λ e. true-is-not (IsLess (points 50) (points 50)) e;
    }) in
    absurd shown.refutes.above_zero.lt

-- ---- what is best from 50 on

is-proper : (w : Fraction) → 0 < w.den → IsProper (narrow_at w)
is-proper w hw = record {
  problem = All-from_recursion (λ l. (0 < l.scale) × (0 < l.den)) (lines (narrow_at w)) ((omega arith, hw), ((omega arith, omega arith), ((omega arith, omega arith), ((omega arith, omega arith), ((omega arith, omega arith), tt)))));
  ranks = All-from_recursion (λ r. r.rank ≤ 1000) (narrow_at w).rows (omega arith, (omega arith, (omega arith, tt)));
  weights = All-from_recursion (λ r. 0 < r.weight) (narrow_at w).rows (omega arith, (omega arith, (omega arith, tt)));
  covered = All-from_recursion (IsCovered narrow.stays) (narrow_at w).rows (
    All-from_recursion (λ t. HasStay narrow.stays t.attr) (width_at w).terms (first, tt),
    (All-from_recursion (λ t. HasStay narrow.stays t.attr) inset.terms (first, (second, tt)), (All-from_recursion (λ t. HasStay narrow.stays t.attr) least.terms (second, tt), tt)),
  );
}
  where
    first : HasStay narrow.stays 1
    first = (0, still 1 (points 100), omega arith, refl, refl)

    second : HasStay narrow.stays 2
    second = (1, still 2 (points 80), omega arith, refl, refl)

inset_there : (w : Fraction) → 0 < w.den → Assignment
inset_there w hw = record { den = w.den; num = λ v. cond (nat_eq v 1) w.num (cond (nat_eq v 2) (w.num -ℤ pos 20 *ℤ pos w.den) (pos 0)); positive = hw }

pub width-gap : (n : ℤ) (d : ℕ) → pos d *ℤ (pos 1 *ℤ n +ℤ pos 0) -ℤ n *ℤ pos d ≡ pos 0
width-gap n d = on_1 (λ n. pos d *ℤ (pos 1 *ℤ n +ℤ pos 0) -ℤ n *ℤ pos d ≡ pos 0) (λ a a'. simp ring (diff_eq _ _ _ _ (omega arith))) n

pub inset-gap : (n : ℤ) (d : ℕ) → pos 1 *ℤ (pos 1 *ℤ n +ℤ (negsuc 0 *ℤ (n -ℤ pos 20 *ℤ pos d) +ℤ pos 0)) -ℤ pos 20 *ℤ pos d ≡ pos 0
inset-gap n d = omega (arith, ints)

least-gap : (n : ℤ) (d : ℕ) → (pos 50 *ℤ pos d) ≤ℤ (n *ℤ pos 1) → pos 0 ≤ℤ (pos 1 *ℤ (pos 1 *ℤ (n -ℤ pos 20 *ℤ pos d) +ℤ pos 0) -ℤ pos 30 *ℤ pos d)
least-gap n d h = omega (arith, ints, h)

pub no-error : (z : ℤ) → z ≡ pos 0 → above z + below z ≡ 0
no-error z e = ap (λ (y : ℤ). above y + below y) e

pub no-gap : (z : ℤ) → above z + below z ≡ 0 → z ≡ pos 0
no-gap (pos n) h = omega (arith, ints, h)
no-gap (negsuc n) h = absurd (omega (arith, h))

none-below : (z : ℤ) → below z ≡ 0 → pos 0 ≤ℤ z
none-below (pos n) h = omega (arith, ints)
none-below (negsuc n) h = absurd (omega (arith, h))

-- the first attribute's value is the row's
pub width-same : (n y : ℤ) (d e : ℕ) → pos d *ℤ (pos 1 *ℤ y +ℤ pos 0) -ℤ n *ℤ pos e ≡ pos 0 → n *ℤ pos e ≡ y *ℤ pos d
width-same n y d e h = let t = turn y d in omega (arith, ints, h, t)
  where
    turn : (y : ℤ) (d : ℕ) → pos d *ℤ (pos 1 *ℤ y +ℤ pos 0) ≡ y *ℤ pos d
    turn y d = on_1 (λ y. pos d *ℤ (pos 1 *ℤ y +ℤ pos 0) ≡ y *ℤ pos d) (λ a a'. simp ring (diff_eq _ _ _ _ (omega arith))) y

spread : (n : ℤ) (d e : ℕ) → (n -ℤ pos 20 *ℤ pos d) *ℤ pos e ≡ n *ℤ pos e -ℤ pos (20 * (d * e))
spread n d e = on_1 (λ n. (n -ℤ pos 20 *ℤ pos d) *ℤ pos e ≡ n *ℤ pos e -ℤ pos (20 * (d * e))) (λ a a'. simp ring (diff_eq _ _ _ _ (omega arith))) n

pub view-same : (n y z : ℤ) (d e : ℕ) → n *ℤ pos e ≡ y *ℤ pos d → pos 1 *ℤ (pos 1 *ℤ y +ℤ (negsuc 0 *ℤ z +ℤ pos 0)) -ℤ pos 20 *ℤ pos e ≡ pos 0 → (n -ℤ pos 20 *ℤ pos d) *ℤ pos e ≡ z *ℤ pos d
view-same n y z d e h g =
    let is : z ≡ y -ℤ pos 20 *ℤ pos e = omega (arith, ints, g) in
    let turn : 20 * (d * e) ≡ 20 * (e * d) = omega arith in
    spread n d e ∙ ap₂ (λ (a : ℤ) (b : ℕ). a -ℤ pos b) h turn ∙ sym (spread y e d) ∙ ap (λ (a : ℤ). a *ℤ pos d) (sym is)

narrow-best : (w : Fraction) (hw : 0 < w.den) → IsNoMore (points 50) w → IsBest (narrow_at w) (inset_there w hw)
unfolding inset_there
narrow-best w hw from =
    agreed-IsBest (narrow_at w) (is-proper w hw) (inset_there w hw)
    (All-from_recursion (λ r. r.rank ≡ 1000 → error (inset_there w hw) (line_of_row r) ≡ 0) (narrow_at w).rows (
      (λ e. no-error (pos w.den *ℤ (pos 1 *ℤ w.num +ℤ pos 0) -ℤ w.num *ℤ pos w.den) (width-gap w.num w.den)),
      (
        (λ e. no-error (pos 1 *ℤ (pos 1 *ℤ w.num +ℤ (negsuc 0 *ℤ (w.num -ℤ pos 20 *ℤ pos w.den) +ℤ pos 0)) -ℤ pos 20 *ℤ pos w.den) (inset-gap w.num w.den)),
        ((λ e. not_below (pos 1 *ℤ (pos 1 *ℤ (w.num -ℤ pos 20 *ℤ pos w.den) +ℤ pos 0) -ℤ pos 30 *ℤ pos w.den) (least-gap w.num w.den from)), tt),
      ),
    ))
    (λ y fits.
    let rows = recursion_from_All (λ r. r.rank ≡ 1000 → error y (line_of_row r) ≡ 0) (narrow_at w).rows fits in
    let first : w.num *ℤ pos y.den ≡ y.num 1 *ℤ pos w.den = width-same w.num (y.num 1) w.den y.den (no-gap (pos w.den *ℤ (pos 1 *ℤ y.num 1 +ℤ pos 0) -ℤ w.num *ℤ pos y.den) (rows.0 refl)) in
    let second : (w.num -ℤ pos 20 *ℤ pos w.den) *ℤ pos y.den ≡ y.num 2 *ℤ pos w.den =
    view-same w.num (y.num 1) (y.num 2) w.den y.den first (no-gap (pos 1 *ℤ (pos 1 *ℤ y.num 1 +ℤ (negsuc 0 *ℤ y.num 2 +ℤ pos 0)) -ℤ pos 20 *ℤ pos y.den) (rows.1.0 refl)) in
    All-from_recursion (λ s. (inset_there w hw).num s.attr *ℤ pos y.den ≡ y.num s.attr *ℤ pos w.den) narrow.stays (first, (second, tt)))

all-values : (m n : ℕ) → m < PART_BOUND → n < PART_BOUND → AreAllValues narrow (both m n)
all-values m n hm hn = record {
  attributes = two_numbers (still 1 (points 100)) (still 2 (points 80)) (omega arith);
  kept = All-from_recursion (λ (v : Value). IsKept v.1) (both m n) (whole_is_kept m hm, (whole_is_kept n hn, tt));
}

-- from m, where the view is k, it grows as the window does
pub inset-line : (k m d : ℕ) (n : ℤ) → m ≡ k + 20 → (n -ℤ pos 20 *ℤ pos d) *ℤ pos (1 * (1 * (d * 1))) ≡ (pos k *ℤ (pos 1 *ℤ pos (d * 1)) +ℤ pos 1 *ℤ ((n *ℤ (pos 1 *ℤ pos 1) +ℤ negsuc 0 *ℤ (pos m *ℤ pos d)) *ℤ pos 1)) *ℤ pos d
inset-line k m d n e = whole n ∙ ap (λ (j : ℕ). (pos k *ℤ (pos 1 *ℤ pos (d * 1)) +ℤ pos 1 *ℤ ((n *ℤ (pos 1 *ℤ pos 1) +ℤ negsuc 0 *ℤ (pos j *ℤ pos d)) *ℤ pos 1)) *ℤ pos d) (sym e)
  where
    whole : (n : ℤ) → (n -ℤ pos 20 *ℤ pos d) *ℤ pos (1 * (1 * (d * 1))) ≡ (pos k *ℤ (pos 1 *ℤ pos (d * 1)) +ℤ pos 1 *ℤ ((n *ℤ (pos 1 *ℤ pos 1) +ℤ negsuc 0 *ℤ (pos (k + 20) *ℤ pos d)) *ℤ pos 1)) *ℤ pos d
    whole = on_1 (λ n. (n -ℤ pos 20 *ℤ pos d) *ℤ pos (1 * (1 * (d * 1))) ≡ (pos k *ℤ (pos 1 *ℤ pos (d * 1)) +ℤ pos 1 *ℤ ((n *ℤ (pos 1 *ℤ pos 1) +ℤ negsuc 0 *ℤ (pos (k + 20) *ℤ pos d)) *ℤ pos 1)) *ℤ pos d) (λ a a'. simp ring (diff_eq _ _ _ _ (omega arith)))

reach-inset : (n k : ℕ) → n ≡ k + 20 → pos k *ℤ (pos 1 *ℤ (pos 1 *ℤ pos (1 * 1))) ≡ (pos 30 *ℤ (pos 1 *ℤ pos (1 * 1)) +ℤ pos 1 *ℤ ((pos n *ℤ (pos 1 *ℤ pos 1) +ℤ negsuc 0 *ℤ (pos 50 *ℤ pos 1)) *ℤ pos 1)) *ℤ pos 1
reach-inset n k e = omega (arith, ints, e)

inset-each : (w : Fraction) → IsLowest w → IsNoMore (points 50) w → IsBestAt narrow 1 (points 50) (both 50 30) rising_rates w
unfolding inset_there
inset-each w is from = (
  inset_there w is.above,
  narrow-best w is.above from,
  All-from_recursion (λ (v : Value). (inset_there w is.above).num v.0 *ℤ pos v.1.den ≡ v.1.num *ℤ pos w.den) (moved_values (difference w (points 50)) (both 50 30) rising_rates) (gives-line w.num 50 w.den, (inset-line 30 50 w.den w.num refl, tt)),
)

inset-piece : (n k : ℕ) → n ≡ k + 20 → 50 ≤ n → n < PART_BOUND → IsRightPiece narrow 1 (points 50) (points n) (both 50 30) (both n k)
inset-piece n k e h few = record {
  upwards = upwards 50 n (omega arith) few h;
  are_low = all-values 50 30 (omega arith) (omega arith);
  are_high = all-values n k few (omega (arith, e, few));
  rates = rising_rates;
  are_fractions = All-from_recursion (λ (r : Value). 0 < r.1.den) rising_rates (omega arith, (omega arith, tt));
  ends = ((refl, refl, reach-line 50 n), ((refl, refl, reach-inset n k e), tt));
  each = λ w is from to. inset-each w is from;
}

-- ---- the sweeps

abbrev to_80 : Stretch
to_80 = piece 50 30 80 60

abbrev just_50 : Stretch
just_50 = piece 50 30 50 30

abbrev below_50 : Stretch
below_50 = Clash (points 40) (points 50) narrow_by

whole-sweep : IsSweep narrow 1 (points 40) (points 80) (below_50 ∷ to_80 ∷ [])
whole-sweep = record {
  covers = (refl, (refl, refl));
  right = (right-below, (inset-piece 80 60 refl (omega arith) (omega arith), tt));
  form = clash-form below_50 (to_80 ∷ []) tt (long 40 50 (omega arith)) (tt, tt) (inl refl);
}

edge-sweep : IsSweep narrow 1 (points 40) (points 50) (below_50 ∷ just_50 ∷ [])
edge-sweep = record {
  covers = (refl, (refl, refl));
  right = (right-below, (inset-piece 50 30 refl (omega arith) (omega arith), tt));
  form = clash-form below_50 (just_50 ∷ []) tt (long 40 50 (omega arith)) (tt, tt) (inl refl);
}

abbrev to_45 : Stretch
to_45 = Clash (points 40) (points 45) narrow_by

alone-sweep : IsSweep narrow 1 (points 40) (points 45) (to_45 ∷ [])
alone-sweep = record { covers = (refl, refl); right = (right-alone, tt); form = alone-form to_45 tt }

-- ---- a piece that begins too early

early-left : (z : ℤ) (rd : ℕ) → pos rd *ℤ z ≡ z *ℤ pos (1 * (rd * 1))
early-left z rd = on_1 (λ z. pos rd *ℤ z ≡ z *ℤ pos (1 * (rd * 1))) (λ a a'. simp ring (diff_eq _ _ _ _ (omega arith))) z

early-right : (rn : ℤ) (rd d : ℕ) → (pos 29 *ℤ (pos rd *ℤ pos 1) +ℤ rn *ℤ (pos 0 *ℤ pos 1)) *ℤ pos d ≡ pos rd *ℤ (pos 29 *ℤ pos d)
early-right rn rd d = on_1 (λ rn. (pos 29 *ℤ (pos rd *ℤ pos 1) +ℤ rn *ℤ (pos 0 *ℤ pos 1)) *ℤ pos d ≡ pos rd *ℤ (pos 29 *ℤ pos d)) (λ a a'. simp ring (diff_eq _ _ _ _ (omega arith))) rn

too-narrow : (z : ℤ) (d : ℕ) → 0 < d → z ≡ pos 29 *ℤ pos d → pos 0 ≤ℤ (pos 1 *ℤ (pos 1 *ℤ z +ℤ pos 0) -ℤ pos 30 *ℤ pos d) → ⊥
too-narrow z d some e h = omega (arith, ints, some, e, h)

early-rates : (rates : Rates) → All (λ (r : Value). 0 < r.1.den) rates → AreMovedTo (difference (points 80) (points 49)) (both 49 29) rates (both 80 60) → IsBestAt narrow 1 (points 49) (both 49 29) rates (points 49) → ⊥
early-rates [] some ends best = absurd ends
early-rates (r ∷ []) some ends best = absurd ends.1
early-rates (r ∷ s ∷ []) some ends best =
    let rd : 0 < s.1.den = (recursion_from_All (λ (q : Value). 0 < q.1.den) (r ∷ s ∷ []) some).1.0 in
    let gives : best.0.num 2 *ℤ pos (1 * (s.1.den * 1)) ≡ (pos 29 *ℤ (pos s.1.den *ℤ pos 1) +ℤ s.1.num *ℤ (pos 0 *ℤ pos 1)) *ℤ pos best.0.den =
    (recursion_from_All (λ (v : Value). best.0.num v.0 *ℤ pos v.1.den ≡ v.1.num *ℤ pos best.0.den) (moved_values (difference (points 49) (points 49)) (both 49 29) (r ∷ s ∷ [])) best.2).1.0 in
    too-narrow (best.0.num 2) best.0.den best.0.positive (cancel_mul s.1.den (best.0.num 2) (pos 29 *ℤ pos best.0.den) rd (early-left (best.0.num 2) s.1.den ∙ gives ∙ early-right s.1.num s.1.den best.0.den))
    (none-below (pos 1 *ℤ (pos 1 *ℤ best.0.num 2 +ℤ pos 0) -ℤ pos 30 *ℤ pos best.0.den) ((recursion_from_All (λ r. r.rank ≡ 1000 → error best.0 (line_of_row r) ≡ 0) (narrow_at (points 49)).rows best.1.0).1.1.0 refl))
early-rates (r ∷ s ∷ t ∷ more) some ends best = absurd ends.1.1

early-wrong : IsRightPiece narrow 1 (points 49) (points 80) (both 49 29) (both 80 60) → ⊥
early-wrong right = early-rates right.rates right.are_fractions right.ends (right.each (points 49) (whole_is_kept 49 (omega arith)).lowest (no-more-points 49 49 (omega arith)) (no-more-points 49 80 (omega arith)))

pub some_conflicts : SomeConflicts
some_conflicts = record {
  below = right-below;
  at = not-at;
  sweep = whole-sweep;
  edge = edge-sweep;
  alone = alone-sweep;
  early = λ sweep. early-wrong sweep.right.1.0;
  left_open = λ sweep. not-at sweep.right.0;
  twice = λ sweep. not-twice (Clash (points 40) (points 42) narrow_by) (Clash (points 42) (points 45) narrow_by) tt tt sweep.form;
  pointed = λ sweep. not-pointed (points 50) narrow_by to_80 tt sweep.form;
  split = λ sweep. not-split (Clash (points 40) (points 45) narrow_by) (Clash (points 45) (points 50) narrow_by) to_80 tt tt sweep.form;
}
