-- A view that is 20 narrower than the window, and at most 30 wide: a piece up to 50, and a conflict above.
use Rattle.std.proofs.Common.{◌≡◌, ◌≢◌, ℕ, ◌*◌, ◌/◌, ◌<◌, ◌≤◌, Bool, true, false, cond, nat_eq, [], ◌∷◌, ℤ, pos, negsuc, ◌+ℤ◌, ◌-ℤ◌, ◌*ℤ◌, ◌≤ℤ◌, ◌<ℤ◌, unsigned_abs, refl, sym, ap, ap₂, subst, arith, AllPairs, Any}
use Rattle.std.specs.Int.{◌∣◌}
use Rattle.std.proofs.Math.Nat.{one-dvd}
use Rattle.std.proofs.lemmas.List.Elements.{All-from_recursion, recursion_from_All}
use Rattle.std.proofs.lemmas.List.Kept.{AllPairs-cons}
use Rattle.std.proofs.lemmas.Nat.Gcd.{dvd_antisymm}
use borrow.Author.Differences.{ints}
use Rattle.frac_core.specs.declared.frac.TheConstants.{PART_BOUND}
use Rattle.frac_core.specs.Fraction.{Fraction, IsKept, IsLowest}
use Rattle.problem_core.specs.declared.parts.RowName.TheVariants.{Held}
use Rattle.problem_core.specs.declared.parts.Rel.TheVariants.{Eq, Le}
use Rattle.problem_core.specs.Layout.{Assignment, HasStay, IsBest, IsCovered, IsProper, Problem, Row, above, error, line_of_row, lines}
use Rattle.problem_core.specs.Certificates.{HasSign, required}
use Rattle.problem_core.proofs.Best.Agreed.{agreed-IsBest}
use Rattle.problem_core.proofs.StayNumbers.{two_numbers}
use Rattle.cert_core.specs.declared.by.By.{By}
use Rattle.cert_core.specs.Claims.{times_of}
use Rattle.cert_core.specs.Stops.{ComesBefore, IsShownConflict}
use Rattle.corner_laws.proofs.MarkWritings.Fits.{whole_is_kept}
use Rattle.corner_lines.specs.Shifts.{with_constant}
use Rattle.sweep_laws.specs.Fractions.{IsLess, IsNoMore, difference}
use Rattle.sweep_laws.specs.Stretches.{AreAllValues, Clash, IsBestAt, IsRightConflict, IsRightPiece, Stretch, moved_values}
use Rattle.sweep_laws.specs.Instances.{SomeBounded, both, bounded, bounded_by, by_row, piece, points, row_of, still, term}
use Rattle.sweep_laws.proofs.BendSweeps.{gives-line, long, no-more-points, reach-line, rising_rates, upwards}
use Rattle.sweep_laws.proofs.Forms.{behind-form}
use Rattle.sweep_laws.proofs.Narrow.{inset, inset-gap, inset-line, no-error, no-gap, own-share, true-is-not, view-same, whole-share, width-gap, width-same}

abbrev Value : Type 0
Value = ℕ × Fraction

abbrev bounded_at : Fraction → Problem
bounded_at w = with_constant 1 w bounded

abbrev width_at : Fraction → Row
width_at w = row_of 1 1000 Eq w (term 1 (pos 1) ∷ [])

abbrev most : Row
most = row_of 3 1000 Le (points 30) (term 2 (pos 1) ∷ [])

-- ---- the conflict

cancels : (d e : Bool) → pos 1 *ℤ (cond d (pos 1) (pos 0) +ℤ pos 0) +ℤ (negsuc 0 *ℤ (cond d (pos 1) (pos 0) +ℤ (cond e (negsuc 0) (pos 0) +ℤ pos 0)) +ℤ (negsuc 0 *ℤ (cond e (pos 1) (pos 0) +ℤ pos 0) +ℤ pos 0)) ≡ pos 0
cancels true true = refl
cancels true false = refl
cancels false true = refl
cancels false false = refl

above-none : (n : ℤ) (d p q : ℕ) → p ≡ 1 → q ≡ d → (pos 50 *ℤ pos d) <ℤ (n *ℤ pos 1) → pos 0 <ℤ (pos 1 *ℤ (n *ℤ pos p) +ℤ (negsuc 0 *ℤ (pos 20 *ℤ pos q) +ℤ (negsuc 0 *ℤ (pos 30 *ℤ pos q) +ℤ pos 0)))
above-none n d p q e f h =
    subst (λ (z : ℤ). pos 0 <ℤ z) (sym (ap₂ (λ (a b : ℕ). pos 1 *ℤ (n *ℤ pos a) +ℤ (negsuc 0 *ℤ (pos 20 *ℤ pos b) +ℤ (negsuc 0 *ℤ (pos 30 *ℤ pos b) +ℤ pos 0))) e f))
    (let g : pos 0 <ℤ (pos 1 *ℤ (n *ℤ pos 1) +ℤ (negsuc 0 *ℤ (pos 20 *ℤ pos d) +ℤ (negsuc 0 *ℤ (pos 30 *ℤ pos d) +ℤ pos 0))) = omega (arith, ints, h) in g)

one-is-some : pos 1 ≢ pos 0
one-is-some e = omega (arith, ints, e)

minus-is-some : negsuc 0 ≢ pos 0
minus-is-some e = omega (arith, ints, e)

rising-by : AllPairs (λ (a b : By). ComesBefore a.row b.row) bounded_by
rising-by =
    AllPairs-cons (λ (a b : By). ComesBefore a.row b.row) (by_row 1 (pos 1)) (by_row 2 (negsuc 0) ∷ by_row 3 (negsuc 0) ∷ []) (All-from_recursion (λ (b : By). ComesBefore (Held 1) b.row) (by_row 2 (negsuc 0) ∷ by_row 3 (negsuc 0) ∷ []) (omega arith, (omega arith, tt)))
    (AllPairs-cons (λ (a b : By). ComesBefore a.row b.row) (by_row 2 (negsuc 0)) (by_row 3 (negsuc 0) ∷ []) (All-from_recursion (λ (b : By). ComesBefore (Held 2) b.row) (by_row 3 (negsuc 0) ∷ []) (omega arith, tt)) (λ i j d less within. absurd (omega (arith, less, within))))

shown-at : (w : Fraction) → 0 < w.den → (pos 50 *ℤ pos w.den) <ℤ (w.num *ℤ pos 1) → IsShownConflict (bounded_at w) bounded_by
shown-at w hw high = record {
  refutes = record {
    cancel = λ v. cancels (nat_eq 1 v) (nat_eq 2 v);
    signs = All-from_recursion (λ r. HasSign r.rel (times_of bounded_by (Held r.id))) (required (bounded_at w)) (tt, (tt, (record { le = tt }, tt)));
    above_zero = above-none w.num w.den (w.den * 1 / w.den) (w.den * 1 / 1) (own-share w.den hw) (whole-share w.den) high;
  };
  named = All-from_recursion (λ b. Any (λ r. b.row ≡ Held r.id) (required (bounded_at w))) bounded_by ((0, width_at w, omega arith, refl, refl), ((1, inset, omega arith, refl, refl), ((2, most, omega arith, refl, refl), tt)));
  nonzero = All-from_recursion (λ b. b.times ≢ pos 0) bounded_by (one-is-some, (minus-is-some, (minus-is-some, tt)));
  rising = rising-by;
  lowest = λ k h. dvd_antisymm ((recursion_from_All (λ b. k ∣ unsigned_abs b.times) bounded_by h).0) (one-dvd k);
}

right-above : IsRightConflict bounded 1 (points 50) (points 80) false true bounded_by
right-above = record {
  upwards = upwards 50 80 (omega arith) (omega arith) (omega arith);
  each = λ w is within. shown-at w is.above (within.not_first refl);
}

not-at : IsRightConflict bounded 1 (points 50) (points 80) true true bounded_by → ⊥
not-at right =
    let shown = right.each (points 50) (whole_is_kept 50 (omega arith)).lowest
    (record {
      lower = no-more-points 50 50 (omega arith);
      upper = no-more-points 50 80 (omega arith);
      not_first = λ e. true-is-not (IsLess (points 50) (points 50)) e;
      not_last = λ e. true-is-not (IsLess (points 50) (points 80)) e;
    }) in
    absurd shown.refutes.above_zero.lt

-- ---- what is best up to 50

is-proper : (w : Fraction) → 0 < w.den → IsProper (bounded_at w)
is-proper w hw = record {
  problem = All-from_recursion (λ l. (0 < l.scale) × (0 < l.den)) (lines (bounded_at w)) ((omega arith, hw), ((omega arith, omega arith), ((omega arith, omega arith), ((omega arith, omega arith), ((omega arith, omega arith), tt)))));
  ranks = All-from_recursion (λ r. r.rank ≤ 1000) (bounded_at w).rows (omega arith, (omega arith, (omega arith, tt)));
  weights = All-from_recursion (λ r. 0 < r.weight) (bounded_at w).rows (omega arith, (omega arith, (omega arith, tt)));
  covered = All-from_recursion (IsCovered bounded.stays) (bounded_at w).rows (
    All-from_recursion (λ t. HasStay bounded.stays t.attr) (width_at w).terms (first, tt),
    (All-from_recursion (λ t. HasStay bounded.stays t.attr) inset.terms (first, (second, tt)), (All-from_recursion (λ t. HasStay bounded.stays t.attr) most.terms (second, tt), tt)),
  );
}
  where
    first : HasStay bounded.stays 1
    first = (0, still 1 (points 40), omega arith, refl, refl)

    second : HasStay bounded.stays 2
    second = (1, still 2 (points 20), omega arith, refl, refl)

inset_there : (w : Fraction) → 0 < w.den → Assignment
inset_there w hw = record { den = w.den; num = λ v. cond (nat_eq v 1) w.num (cond (nat_eq v 2) (w.num -ℤ pos 20 *ℤ pos w.den) (pos 0)); positive = hw }

most-gap : (n : ℤ) (d : ℕ) → (n *ℤ pos 1) ≤ℤ (pos 50 *ℤ pos d) → (pos 1 *ℤ (pos 1 *ℤ (n -ℤ pos 20 *ℤ pos d) +ℤ pos 0) -ℤ pos 30 *ℤ pos d) ≤ℤ pos 0
most-gap n d h = omega (arith, ints, h)

not-above : (z : ℤ) → z ≤ℤ pos 0 → above z ≡ 0
not-above (pos n) h = omega (arith, ints, h)
not-above (negsuc n) h = refl

bounded-best : (w : Fraction) (hw : 0 < w.den) → IsNoMore w (points 50) → IsBest (bounded_at w) (inset_there w hw)
unfolding inset_there
bounded-best w hw to =
    agreed-IsBest (bounded_at w) (is-proper w hw) (inset_there w hw)
    (All-from_recursion (λ r. r.rank ≡ 1000 → error (inset_there w hw) (line_of_row r) ≡ 0) (bounded_at w).rows (
      (λ e. no-error (pos w.den *ℤ (pos 1 *ℤ w.num +ℤ pos 0) -ℤ w.num *ℤ pos w.den) (width-gap w.num w.den)),
      (
        (λ e. no-error (pos 1 *ℤ (pos 1 *ℤ w.num +ℤ (negsuc 0 *ℤ (w.num -ℤ pos 20 *ℤ pos w.den) +ℤ pos 0)) -ℤ pos 20 *ℤ pos w.den) (inset-gap w.num w.den)),
        ((λ e. not-above (pos 1 *ℤ (pos 1 *ℤ (w.num -ℤ pos 20 *ℤ pos w.den) +ℤ pos 0) -ℤ pos 30 *ℤ pos w.den) (most-gap w.num w.den to)), tt),
      ),
    ))
    (λ y fits.
    let rows = recursion_from_All (λ r. r.rank ≡ 1000 → error y (line_of_row r) ≡ 0) (bounded_at w).rows fits in
    let first : w.num *ℤ pos y.den ≡ y.num 1 *ℤ pos w.den = width-same w.num (y.num 1) w.den y.den (no-gap (pos w.den *ℤ (pos 1 *ℤ y.num 1 +ℤ pos 0) -ℤ w.num *ℤ pos y.den) (rows.0 refl)) in
    let second : (w.num -ℤ pos 20 *ℤ pos w.den) *ℤ pos y.den ≡ y.num 2 *ℤ pos w.den =
    view-same w.num (y.num 1) (y.num 2) w.den y.den first (no-gap (pos 1 *ℤ (pos 1 *ℤ y.num 1 +ℤ (negsuc 0 *ℤ y.num 2 +ℤ pos 0)) -ℤ pos 20 *ℤ pos y.den) (rows.1.0 refl)) in
    All-from_recursion (λ s. (inset_there w hw).num s.attr *ℤ pos y.den ≡ y.num s.attr *ℤ pos w.den) bounded.stays (first, (second, tt)))

all-values : (m n : ℕ) → m < PART_BOUND → n < PART_BOUND → AreAllValues bounded (both m n)
all-values m n hm hn = record {
  attributes = two_numbers (still 1 (points 40)) (still 2 (points 20)) (omega arith);
  kept = All-from_recursion (λ (v : Value). IsKept v.1) (both m n) (whole_is_kept m hm, (whole_is_kept n hn, tt));
}

bounded-each : (w : Fraction) → IsLowest w → IsNoMore w (points 50) → IsBestAt bounded 1 (points 40) (both 40 20) rising_rates w
unfolding inset_there
bounded-each w is to = (
  inset_there w is.above,
  bounded-best w is.above to,
  All-from_recursion (λ (v : Value). (inset_there w is.above).num v.0 *ℤ pos v.1.den ≡ v.1.num *ℤ pos w.den) (moved_values (difference w (points 40)) (both 40 20) rising_rates) (gives-line w.num 40 w.den, (inset-line 20 40 w.den w.num refl, tt)),
)

bounded-piece : IsRightPiece bounded 1 (points 40) (points 50) (both 40 20) (both 50 30)
bounded-piece = record {
  upwards = upwards 40 50 (omega arith) (omega arith) (omega arith);
  are_low = all-values 40 20 (omega arith) (omega arith);
  are_high = all-values 50 30 (omega arith) (omega arith);
  rates = rising_rates;
  are_fractions = All-from_recursion (λ (r : Value). 0 < r.1.den) rising_rates (omega arith, (omega arith, tt));
  ends = ((refl, refl, reach-line 40 50), ((refl, refl, refl), tt));
  each = λ w is from to. bounded-each w is to;
}

-- ---- the sweep

abbrev to_50 : Stretch
to_50 = piece 40 20 50 30

abbrev above_50 : Stretch
above_50 = Clash (points 50) (points 80) bounded_by

no-start : points 50 ≡ points 40 → ⊥
no-start e = let f : ◌≡◌ {A = ℤ} (pos 50) (pos 40) = ap (λ (g : Fraction). g.num) e in absurd (omega (arith, ints, f))

pub some_bounded : SomeBounded
some_bounded = record {
  above = right-above;
  at = not-at;
  sweep = record {
    covers = (refl, (refl, refl));
    right = (bounded-piece, (right-above, tt));
    form = behind-form to_50 above_50 tt tt (long 50 80 (omega arith));
  };
  swapped = λ sweep. no-start sweep.covers.0;
}
