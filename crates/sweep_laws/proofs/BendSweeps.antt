-- The sweeps of the view that is as wide as the window, but no wider than 150.
use Rattle.std.proofs.Common.{◌≡◌, ◌∙◌, ℕ, ◌*◌, ◌<◌, ◌≤◌, inl, inr, List, [], ◌∷◌, ℤ, pos, negsuc, ◌+ℤ◌, ◌*ℤ◌, ◌≤ℤ◌, ◌<ℤ◌, refl, ap, arith, All, mul-le-mul_right}
use Rattle.std.proofs.lemmas.List.Elements.{All-from_recursion, recursion_from_All}
use borrow.Author.Differences.{ints}
use Rattle.frac_core.specs.declared.frac.TheConstants.{PART_BOUND}
use Rattle.frac_core.specs.Fraction.{Fraction, IsKept, IsLowest}
use Rattle.frac_core.proofs.Integers.{cancel_mul, diff-add, diff-mul, diff-neg, diff-pos, diff_eq, minus-one, neg-pos, on_1}
use Rattle.problem_core.proofs.Best.Midpoints.{best-AreSame}
use Rattle.problem_core.proofs.StayNumbers.{two_numbers}
use Rattle.corner_laws.proofs.MarkWritings.Fits.{whole_is_kept}
use Rattle.sweep_laws.specs.Fractions.{IsNoMore, difference}
use Rattle.sweep_laws.specs.Stretches.{AreAllValues, AreMovedTo, IsBestAt, IsLong, IsRightPiece, IsSweep, IsUpwards, Rates, Stretch, moved_values}
use Rattle.sweep_laws.specs.Instances.{SomeSweeps, StraightIsWrong, bent, both, piece, points, still}
use Rattle.sweep_laws.proofs.Bends.{as_wide_there, at_most_there, bent_at, high-best, is-problem, low-best}
use Rattle.sweep_laws.proofs.Forms.{not-short, pieces-form}

ruleset ring = (minus-one, diff-add, diff-mul, diff-neg, diff-pos, neg-pos)

abbrev Value : Type 0
Value = ℕ × Fraction

-- ---- values and ends

all-values : (m n : ℕ) → m < PART_BOUND → n < PART_BOUND → AreAllValues bent (both m n)
all-values m n hm hn = record {
  attributes = two_numbers (still 1 (points 100)) (still 2 (points 100)) (omega arith);
  kept = All-from_recursion (λ (v : Value). IsKept v.1) (both m n) (whole_is_kept m hm, (whole_is_kept n hn, tt));
}

pub no-more-points : (m n : ℕ) → m ≤ n → (pos m *ℤ pos 1) ≤ℤ (pos n *ℤ pos 1)
no-more-points m n h = omega (arith, ints, h)

pub upwards : (m n : ℕ) → m < PART_BOUND → n < PART_BOUND → m ≤ n → IsUpwards (points m) (points n)
upwards m n hm hn h = record { first = (whole_is_kept m hm).lowest; last = (whole_is_kept n hn).lowest; rises = no-more-points m n h }

count-product : (m d : ℕ) → pos m *ℤ pos d ≡ pos (m * d)
count-product m d = simp ring (diff_eq _ _ _ _ (omega arith))

pub no-less-than : (k m d : ℕ) (n : ℤ) → k ≤ m → (pos m *ℤ pos d) ≤ℤ n → (pos k *ℤ pos d) ≤ℤ n
no-less-than k m d n h low = let more = mul-le-mul_right d h in omega (arith, ints, count-product m d, count-product k d, more, low)

pub no-more-than : (k m d : ℕ) (n : ℤ) → m ≤ k → n ≤ℤ (pos m *ℤ pos d) → n ≤ℤ (pos k *ℤ pos d)
no-more-than k m d n h up = let more = mul-le-mul_right d h in omega (arith, ints, count-product m d, count-product k d, more, up)

-- ---- the lines of values

pub reach-line : (m n : ℕ) → pos n *ℤ (pos 1 *ℤ (pos 1 *ℤ pos (1 * 1))) ≡ (pos m *ℤ (pos 1 *ℤ pos (1 * 1)) +ℤ pos 1 *ℤ ((pos n *ℤ (pos 1 *ℤ pos 1) +ℤ negsuc 0 *ℤ (pos m *ℤ pos 1)) *ℤ pos 1)) *ℤ pos 1
reach-line m n = omega (arith, ints)

pub gives-line : (n : ℤ) (m d : ℕ) → n *ℤ pos (1 * (1 * (d * 1))) ≡ (pos m *ℤ (pos 1 *ℤ pos (d * 1)) +ℤ pos 1 *ℤ ((n *ℤ (pos 1 *ℤ pos 1) +ℤ negsuc 0 *ℤ (pos m *ℤ pos d)) *ℤ pos 1)) *ℤ pos d
gives-line n m d = on_1 (λ n. n *ℤ pos (1 * (1 * (d * 1))) ≡ (pos m *ℤ (pos 1 *ℤ pos (d * 1)) +ℤ pos 1 *ℤ ((n *ℤ (pos 1 *ℤ pos 1) +ℤ negsuc 0 *ℤ (pos m *ℤ pos d)) *ℤ pos 1)) *ℤ pos d) (λ a a'. simp ring (diff_eq _ _ _ _ (omega arith))) n

still-line : (step : ℤ) (d : ℕ) → (pos 150 *ℤ pos d) *ℤ pos (1 * (1 * (d * 1))) ≡ (pos 150 *ℤ (pos 1 *ℤ pos (d * 1)) +ℤ pos 0 *ℤ (step *ℤ pos 1)) *ℤ pos d
still-line step d = on_1 (λ step. (pos 150 *ℤ pos d) *ℤ pos (1 * (1 * (d * 1))) ≡ (pos 150 *ℤ (pos 1 *ℤ pos (d * 1)) +ℤ pos 0 *ℤ (step *ℤ pos 1)) *ℤ pos d) (λ a a'. simp ring (diff_eq _ _ _ _ (omega arith))) step

abbrev pub rising_rates : Rates
rising_rates = (1, points 1) ∷ (2, points 1) ∷ []

abbrev level_rates : Rates
level_rates = (1, points 1) ∷ (2, points 0) ∷ []

-- ---- the pieces

low-each : (m n : ℕ) → 100 ≤ m → n ≤ 150 → (w : Fraction) → IsLowest w → IsNoMore (points m) w → IsNoMore w (points n) → IsBestAt bent 1 (points m) (both m m) rising_rates w
unfolding as_wide_there
low-each m n hm hn w is from to = (
  as_wide_there w is.above,
  low-best w is.above (no-less-than 100 m w.den (w.num *ℤ pos 1) hm from) (no-more-than 150 n w.den (w.num *ℤ pos 1) hn to),
  All-from_recursion (λ (v : Value). (as_wide_there w is.above).num v.0 *ℤ pos v.1.den ≡ v.1.num *ℤ pos w.den) (moved_values (difference w (points m)) (both m m) rising_rates) (gives-line w.num m w.den, (gives-line w.num m w.den, tt)),
)

low-piece : (m n : ℕ) → 100 ≤ m → m ≤ n → n ≤ 150 → IsRightPiece bent 1 (points m) (points n) (both m m) (both n n)
low-piece m n hm h hn = record {
  upwards = upwards m n (omega (arith, h, hn)) (omega (arith, hn)) h;
  are_low = all-values m m (omega (arith, h, hn)) (omega (arith, h, hn));
  are_high = all-values n n (omega (arith, hn)) (omega (arith, hn));
  rates = rising_rates;
  are_fractions = All-from_recursion (λ (r : Value). 0 < r.1.den) rising_rates (omega arith, (omega arith, tt));
  ends = ((refl, refl, reach-line m n), ((refl, refl, reach-line m n), tt));
  each = λ w is from to. low-each m n hm hn w is from to;
}

high-each : (w : Fraction) → IsLowest w → IsNoMore (points 150) w → IsBestAt bent 1 (points 150) (both 150 150) level_rates w
unfolding at_most_there
high-each w is from = (
  at_most_there w is.above,
  high-best w is.above from,
  All-from_recursion (λ (v : Value). (at_most_there w is.above).num v.0 *ℤ pos v.1.den ≡ v.1.num *ℤ pos w.den) (moved_values (difference w (points 150)) (both 150 150) level_rates)
      (gives-line w.num 150 w.den, (still-line (w.num *ℤ (pos 1 *ℤ pos 1) +ℤ negsuc 0 *ℤ (pos 150 *ℤ pos w.den)) w.den, tt)),
)

high-piece : IsRightPiece bent 1 (points 150) (points 200) (both 150 150) (both 200 150)
high-piece = record {
  upwards = upwards 150 200 (omega arith) (omega arith) (omega arith);
  are_low = all-values 150 150 (omega arith) (omega arith);
  are_high = all-values 200 150 (omega arith) (omega arith);
  rates = level_rates;
  are_fractions = All-from_recursion (λ (r : Value). 0 < r.1.den) level_rates (omega arith, (omega arith, tt));
  ends = ((refl, refl, refl), ((refl, refl, refl), tt));
  each = λ w is from to. high-each w is from;
}

-- ---- the sweeps

pub long : (m n : ℕ) → m < n → (pos m *ℤ pos 1) <ℤ (pos n *ℤ pos 1)
long m n h = omega (arith, ints, h)

abbrev two_pieces : List Stretch
two_pieces = piece 100 100 150 150 ∷ piece 150 150 200 150 ∷ []

two-sweep : IsSweep bent 1 (points 100) (points 200) two_pieces
two-sweep = record {
  covers = (refl, (refl, refl));
  right = (low-piece 100 150 (omega arith) (omega arith) (omega arith), (high-piece, tt));
  form = pieces-form two_pieces (tt, (tt, tt)) (inr (All-from_recursion IsLong two_pieces (long 100 150 (omega arith), (long 150 200 (omega arith), tt))));
}

abbrev cut_pieces : List Stretch
cut_pieces = piece 100 100 120 120 ∷ piece 120 120 150 150 ∷ piece 150 150 200 150 ∷ []

cut-sweep : IsSweep bent 1 (points 100) (points 200) cut_pieces
cut-sweep = record {
  covers = (refl, (refl, (refl, refl)));
  right = (low-piece 100 120 (omega arith) (omega arith) (omega arith), (low-piece 120 150 (omega arith) (omega arith) (omega arith), (high-piece, tt)));
  form = pieces-form cut_pieces (tt, (tt, (tt, tt))) (inr (All-from_recursion IsLong cut_pieces (long 100 120 (omega arith), (long 120 150 (omega arith), (long 150 200 (omega arith), tt)))));
}

single-sweep : IsSweep bent 1 (points 120) (points 120) (piece 120 120 120 120 ∷ [])
single-sweep = record {
  covers = (refl, refl);
  right = (low-piece 120 120 (omega arith) (omega arith) (omega arith), tt);
  form = pieces-form (piece 120 120 120 120 ∷ []) (tt, tt) (inl refl);
}

-- ---- lines that are wrong between

same-left : (k d rd : ℕ) → pos d *ℤ (pos k *ℤ pos rd) ≡ (pos k *ℤ pos d) *ℤ pos (1 * (rd * 1))
same-left k d rd = simp ring (diff_eq _ _ _ _ (omega arith))

-- the line's value there is the best one: k
line-there : (k rd d : ℕ) (z line : ℤ) → 0 < d → z *ℤ pos (1 * (rd * 1)) ≡ line *ℤ pos d → z *ℤ pos 1 ≡ pos k *ℤ pos d → pos k *ℤ pos rd ≡ line
line-there k rd d z line hd gives same =
    cancel_mul d (pos k *ℤ pos rd) line hd
    (same-left k d rd ∙ ap (λ (y : ℤ). y *ℤ pos (1 * (rd * 1))) (let e : pos k *ℤ pos d ≡ z = omega (arith, ints, same) in e) ∙ gives ∙ turn line d)
  where
    turn : (x : ℤ) (d : ℕ) → x *ℤ pos d ≡ pos d *ℤ x
    turn x d = on_1 (λ x. x *ℤ pos d ≡ pos d *ℤ x) (λ a a'. simp ring (diff_eq _ _ _ _ (omega arith))) x

straight-numbers : (rn : ℤ) (rd : ℕ) → 0 < rd → pos 150 *ℤ (pos 1 *ℤ (pos rd *ℤ pos 1)) ≡ (pos 100 *ℤ (pos rd *ℤ pos 1) +ℤ rn *ℤ (pos 100 *ℤ pos 1)) *ℤ pos 1 → pos 125 *ℤ pos rd ≡ pos 100 *ℤ (pos rd *ℤ pos 1) +ℤ rn *ℤ (pos 25 *ℤ pos 1) → ⊥
straight-numbers rn rd some e f = omega (arith, ints, some, e, f)

late-numbers : (rn : ℤ) (rd : ℕ) → 0 < rd → pos 150 *ℤ (pos 1 *ℤ (pos rd *ℤ pos 1)) ≡ (pos 100 *ℤ (pos rd *ℤ pos 1) +ℤ rn *ℤ (pos 60 *ℤ pos 1)) *ℤ pos 1 → pos 130 *ℤ pos rd ≡ pos 100 *ℤ (pos rd *ℤ pos 1) +ℤ rn *ℤ (pos 30 *ℤ pos 1) → ⊥
late-numbers rn rd some e f = omega (arith, ints, some, e, f)

-- the best values with k between 100 and 150, by any assignment that is best
view-there : (k : ℕ) (hk : k < PART_BOUND) → 100 ≤ k → k ≤ 150 → (from : Fraction) (low : List Value) (rates : Rates) → (best : IsBestAt bent 1 from low rates (points k)) → best.0.num 2 *ℤ pos 1 ≡ pos k *ℤ pos best.0.den
unfolding as_wide_there
view-there k hk lower upper from low rates best =
    (recursion_from_All (λ s. best.0.num s.attr *ℤ pos 1 ≡ (as_wide_there (points k) (omega arith)).num s.attr *ℤ pos best.0.den) bent.stays
    (best-AreSame (bent_at (points k)) (is-problem (points k) (omega arith)) best.0 (as_wide_there (points k) (omega arith)) best.1 (low-best (points k) (omega arith) (no-more-points 100 k lower) (no-more-points k 150 upper)))).1.0

straight-rates : (rates : Rates) → All (λ (r : Value). 0 < r.1.den) rates → AreMovedTo (difference (points 200) (points 100)) (both 100 100) rates (both 200 150) → IsBestAt bent 1 (points 100) (both 100 100) rates (points 125) → ⊥
straight-rates [] some ends best = absurd ends
straight-rates (r ∷ []) some ends best = absurd ends.1
straight-rates (r ∷ s ∷ []) some ends best =
    straight-numbers s.1.num s.1.den (recursion_from_All (λ (q : Value). 0 < q.1.den) (r ∷ s ∷ []) some).1.0 ends.1.0.2
    (line-there 125 s.1.den best.0.den (best.0.num 2) (pos 100 *ℤ (pos s.1.den *ℤ pos 1) +ℤ s.1.num *ℤ (pos 25 *ℤ pos 1)) best.0.positive
    (recursion_from_All (λ (v : Value). best.0.num v.0 *ℤ pos v.1.den ≡ v.1.num *ℤ pos best.0.den) (moved_values (difference (points 125) (points 100)) (both 100 100) (r ∷ s ∷ [])) best.2).1.0
    (view-there 125 (omega arith) (omega arith) (omega arith) (points 100) (both 100 100) (r ∷ s ∷ []) best))
straight-rates (r ∷ s ∷ t ∷ more) some ends best = absurd ends.1.1

late-rates : (rates : Rates) → All (λ (r : Value). 0 < r.1.den) rates → AreMovedTo (difference (points 160) (points 100)) (both 100 100) rates (both 160 150) → IsBestAt bent 1 (points 100) (both 100 100) rates (points 130) → ⊥
late-rates [] some ends best = absurd ends
late-rates (r ∷ []) some ends best = absurd ends.1
late-rates (r ∷ s ∷ []) some ends best =
    late-numbers s.1.num s.1.den (recursion_from_All (λ (q : Value). 0 < q.1.den) (r ∷ s ∷ []) some).1.0 ends.1.0.2
    (line-there 130 s.1.den best.0.den (best.0.num 2) (pos 100 *ℤ (pos s.1.den *ℤ pos 1) +ℤ s.1.num *ℤ (pos 30 *ℤ pos 1)) best.0.positive
    (recursion_from_All (λ (v : Value). best.0.num v.0 *ℤ pos v.1.den ≡ v.1.num *ℤ pos best.0.den) (moved_values (difference (points 130) (points 100)) (both 100 100) (r ∷ s ∷ [])) best.2).1.0
    (view-there 130 (omega arith) (omega arith) (omega arith) (points 100) (both 100 100) (r ∷ s ∷ []) best))
late-rates (r ∷ s ∷ t ∷ more) some ends best = absurd ends.1.1

pub straight_is_wrong : StraightIsWrong
straight_is_wrong right =
    straight-rates right.rates right.are_fractions right.ends
    (right.each (points 125) (whole_is_kept 125 (omega arith)).lowest (no-more-points 100 125 (omega arith)) (no-more-points 125 200 (omega arith)))

late-wrong : IsRightPiece bent 1 (points 100) (points 160) (both 100 100) (both 160 150) → ⊥
late-wrong right =
    late-rates right.rates right.are_fractions right.ends
    (right.each (points 130) (whole_is_kept 130 (omega arith)).lowest (no-more-points 100 130 (omega arith)) (no-more-points 130 160 (omega arith)))

-- ---- lists that aren't in form

not-upwards : IsUpwards (points 200) (points 100) → ⊥
not-upwards h = absurd h.rises.le

no-gap : points 150 ≡ points 140 → ⊥
no-gap e = let f : ◌≡◌ {A = ℤ} (pos 150) (pos 140) = ap (λ (g : Fraction). g.num) e in absurd (omega (arith, ints, f))

pub some_sweeps : SomeSweeps
some_sweeps = record {
  two = two-sweep;
  cut = cut-sweep;
  single = single-sweep;
  straight = λ sweep. straight_is_wrong sweep.right.0;
  late = λ sweep. late-wrong sweep.right.0;
  short = λ sweep. not-short (piece 100 100 150 150) (points 150) (both 150 150) (piece 150 150 200 150) tt tt sweep.form;
  backwards = λ sweep. not-upwards sweep.right.0.upwards;
  gap = λ sweep. no-gap sweep.covers.1.0;
  none = λ sweep. sweep.covers;
}
