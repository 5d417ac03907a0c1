-- A primal run is a lawful path: its extended values stay above 0, its costs with their lifts fall, and so no corner comes twice.
use Rattle.std.proofs.Common.{◌≡◌, ◌≢◌, ◌∙◌, ◌⊎◌, ℕ, zero, suc, ◌*◌, ◌<◌, Bool, false, cond, nat_eq, List, [], ◌∷◌, ◌++◌, map, ℤ, pos, negsuc, ◌+ℤ◌, ◌*ℤ◌, neg_ℤ, ◌<ℤ◌, ◌≤ℤ◌, refl, sym, ap, ap₂, subst, arith, inl, inr, All, ne_eqb, length, slice_index_or}
use Rattle.std.specs.List.{AllByRecursion as Each}
use Rattle.std.proofs.lemmas.Bool.{cases_eq}
use Rattle.std.proofs.lemmas.List.Elements.{All-from_recursion, recursion_from_All}
use Rattle.std.proofs.lemmas.List.Kept.{AllPairs-cons}
use borrow.Author.Differences.{ints}
use Rattle.frac_core.proofs.Integers.{mul-zero_ℤ}
use Rattle.problem_core.specs.declared.parts.Mark.{Mark}
use Rattle.problem_core.specs.declared.parts.Term.{Term}
use Rattle.problem_core.specs.Layout.{Problem, coefficient, lines, value_at}
use Rattle.problem_core.specs.Kept.{IsWhole}
use Rattle.problem_core.specs.Corners.{ArePairwiseDifferent, IsCorner, IsExchange, IsIn, NoNegativeValue, Point, SameMarks, StandsAt, Swap, corners, equation, exchanged, marks_of, one_column, place}
use Rattle.problem_core.specs.Changes.Paths.{ArePathSwaps, IsEndOf, IsPath, last_marks}
use Rattle.problem_core.specs.Rays.{HasRays, IsRay}
use Rattle.problem_core.proofs.Corners.Exchanges.{IsLexPositive}
use Rattle.problem_core.proofs.Forms.{each-impl, each-both}
use Rattle.problem_core.proofs.Corners.Tableaus.{unit_at}
use Rattle.corner_laws.specs.Laws.{IsMarkAt}
use Rattle.corner_laws.specs.Runs.{AreRunSwaps, FallsFirst, IsRunSwap, Writes, Writing}
use Rattle.corner_laws.proofs.RunSteps.ColumnSigns.{negative_costs}
use Rattle.corner_laws.proofs.MarkWritings.Directions.{ray_number, small-mark}
use Rattle.corner_laws.proofs.RunSteps.Extended.{IsExtended, IsLift, extended_next, less_unit, next_values, point_of, point_stands, run_columns}
use Rattle.corner_laws.proofs.RunSteps.FirstToLeave.{falls_later}
use Rattle.corner_laws.proofs.Swaps.Pivots.{pivot_is_exchange}
use Rattle.corner_laws.proofs.Swaps.PrimalChoice.{down-from}
use Rattle.corner_laws.proofs.Rays.{rays_after}
use Rattle.corner_laws.proofs.RunSteps.RunCosts.{AreLower, lower_next, lower_trans, not_lower, turned-up as turned-low}
use Rattle.corner_laws.proofs.WrittenValues.{contains_each}
use Rattle.corner_laws.proofs.ZeroColumns.{IsDirection}
use Rattle.frac_core.proofs.Numbers.{low-not-zero as low-some, as-natural as above-zero, neg-times}
use Rattle.problem_core.proofs.Marks.{in-list, same-multipliers as same_multipliers}
use Rattle.frac_core.proofs.Bools.{count-other as cond_other, count-same as cond_same}

-- ---- the first corner

pub first_values : ℕ → (ℕ → ℤ) → ℕ → ℕ → ℤ
first_values one n c v = cond (nat_eq c one_column) (n v) (pos one *ℤ unit_at c v)

first-value : (one : ℕ) (n : ℕ → ℤ) (v : ℕ) → first_values one n one_column v ≡ n v
unfolding first_values
first-value one n v = refl

first-lift : (one : ℕ) (n : ℕ → ℤ) (c v : ℕ) → c ≢ one_column → first_values one n c v ≡ pos one *ℤ unit_at c v
unfolding first_values
first-lift one n c v ne = ap (λ (b : Bool). cond b (n v) (pos one *ℤ unit_at c v)) (ne_eqb c one_column ne)

scaled-none : (one : ℕ) (z : ℤ) → z ≡ pos 0 → pos one *ℤ z ≡ pos 0
scaled-none one z e = ap (λ (t : ℤ). pos one *ℤ t) e ∙ mul-zero_ℤ (pos one)

no-lift : (a z : ℤ) (one : ℕ) → a ≡ pos one *ℤ z → a +ℤ neg_ℤ (pos one) *ℤ z ≡ pos 0
no-lift a z one e = omega (arith, ints, e, neg-times (pos one) z)

zero_value : (p : Problem) (d : ℕ → ℤ) → ((v : ℕ) → d v ≡ pos 0) → IsDirection p d
zero_value p d h = record {
  holds = All-from_recursion (λ l. value_at d (equation l) ≡ pos 0) (lines p) (each-any (λ l. value_at d (equation l) ≡ pos 0) (lines p) (λ l. none d h (equation l)));
  still = h one_column;
}
  where
    each-any : {X : Type 0} (P : X → Type 0) (xs : List X) → ((x : X) → P x) → Each P xs
    each-any P [] h = tt
    each-any P (x ∷ xs) h = (h x, each-any P xs h)

    none : (d : ℕ → ℤ) → ((v : ℕ) → d v ≡ pos 0) → (form : List Term) → value_at d form ≡ pos 0
    none d h [] = refl
    none d h (e ∷ form) = ap₂ ◌+ℤ◌ (ap (λ (z : ℤ). e.by *ℤ z) (h e.attr) ∙ mul-zero_ℤ e.by) (none d h form)

unit_positive : (one : ℕ) (n : ℕ → ℤ) (v : ℕ) (ms : List Mark) → 0 < one → Each (λ m. place m ≢ one_column) ms → IsIn v ms → IsLexPositive (λ c. first_values one n c v) (map place ms)
unit_positive one n v [] above far (k, within, is) = absurd (omega (arith, within))
unit_positive one n v (m ∷ ms) above far (k, within, is) =
    elim (cases_eq v (place m)) [
      | inl e ↦ inl (above-one one (first_values one n (place m) v) above (first-lift one n (place m) v far.0 ∙ ap (λ (z : ℤ). pos one *ℤ z) (cond_same v (place m) (pos 1) e)))
      | inr ne ↦ inr (first-lift one n (place m) v far.0 ∙ scaled-none one (unit_at (place m) v) (cond_other v (place m) (pos 1) ne), unit_positive one n v ms above far.1 (later k within is ne))
    ]
  where
    above-one : (one : ℕ) (z : ℤ) → 0 < one → z ≡ pos one *ℤ pos 1 → pos 0 <ℤ z
    above-one one z h e = omega (arith, ints, h, e)

    later : (k : ℕ) → k < length (map place (m ∷ ms)) → slice_index_or (map place (m ∷ ms)) k v ≡ v → v ≢ place m → IsIn v ms
    later zero within is ne = absurd (ne (sym is))
    later (suc k) within is ne = (k, omega (arith, within), is)

-- at the first corner the marks inside have lifts of their own alone
pub first_extended : (p : Problem) (first : List Mark) (x : Point) (one : ℕ) → IsWhole p → IsCorner p first → StandsAt p first x → x.num one_column ≡ pos one → 0 < one → All (λ m. pos 0 ≤ℤ x.num (place m)) first → IsExtended p first first (first_values one x.num) one
unfolding first_values
first_extended p first x one whole corner stands unit above values =
    let marks : Each (λ m. IsMarkAt p (place m)) first = recursion_from_All (λ m. IsMarkAt p (place m)) first corner.marks in
    let far : Each (λ m. place m ≢ one_column) first = each-impl (λ m. IsMarkAt p (place m)) (λ m. place m ≢ one_column) first (λ m is e. absurd (omega (arith, small-mark p (place m) whole is, e))) marks in
    record {
      above = above;
      solves = stands.0;
      unit = unit;
      outside = stands.1;
      lifts = each-impl (λ m. (place m ≢ one_column) × IsIn (place m) first) (λ m. IsLift p first one (place m) (first_values one x.num (place m))) first
          (λ m h. record {
            direction = zero_value p (less_unit one (place m) (first_values one x.num (place m))) (λ v. no-lift (first_values one x.num (place m) v) (unit_at (place m) v) one (first-lift one x.num (place m) v h.0));
            outside = All-from_recursion (λ n. (IsIn (place n) first → ⊥) → first_values one x.num (place m) (place n) ≡ pos 0) (marks_of (lines p))
                (each-all (λ n. (IsIn (place n) first → ⊥) → first_values one x.num (place m) (place n) ≡ pos 0) (marks_of (lines p))
                (λ n out. first-lift one x.num (place m) (place n) h.0 ∙ scaled-none one (unit_at (place m) (place n)) (cond_other (place n) (place m) (pos 1) (λ e. out (subst (λ (v : ℕ). IsIn v first) (sym e) h.1)))));
          })
          (each-both _ _ first far (in-list first));
      positive = each-impl (λ m. (pos 0 ≤ℤ x.num (place m)) × IsIn (place m) first) _ first
          (λ m h. up-or (x.num (place m)) (λ c. first_values one x.num c (place m)) (map place first) refl h.0 (unit_positive one x.num (place m) first above far h.1))
          (each-both _ _ first (recursion_from_All (λ m. pos 0 ≤ℤ x.num (place m)) first values) (in-list first));
    }
  where
    each-all : {X : Type 0} (P : X → Type 0) (xs : List X) → ((x : X) → P x) → Each P xs
    each-all P [] h = tt
    each-all P (x ∷ xs) h = (h x, each-all P xs h)

    up-or : (z : ℤ) (f : ℕ → ℤ) (cs : List ℕ) → f one_column ≡ z → pos 0 ≤ℤ z → IsLexPositive f cs → IsLexPositive f (one_column ∷ cs)
    up-or (pos zero) f cs e h l = inr (e, l)
    up-or (pos (suc n)) f cs e h l = inl (subst (λ (z : ℤ). pos 0 <ℤ z) (sym e) (omega (arith, ints)))
    up-or (negsuc n) f cs e h l = absurd h.le

-- ---- one exchange

-- what stands after it
pub record HasStepped (p : Problem) (first at : List Mark) (s : Swap) (values : ℕ → ℕ → ℤ) (one : ℕ) : Type 0 where
  pub exchange : IsExchange p at s
  pub after : ℕ → ℕ → ℤ
  pub scale : ℕ
  pub extended : IsExtended p first (exchanged s at) after scale
  pub lower : AreLower p (run_columns first) one values scale after

pub run_step : (p : Problem) (first at : List Mark) (s : Swap) (values : ℕ → ℕ → ℤ) (one : ℕ) → IsWhole p → HasRays p first → IsCorner p at → HasRays p at → IsExtended p first at values one → IsRunSwap p first at s → HasStepped p first at s values one
run_step p first at s values one whole start corner rays e swap =
    let v : Writing = swap.first_to_leave.leaving in
    let r = rays (place s.enter) swap.mark swap.enters in
    let x : Point = point_of p first at values one e in
    let moves : pos v.scale *ℤ r.0 (place s.leave) ≡ coefficient (place s.enter) v.form *ℤ r.0 (place s.enter) =
    ray_number p at (place s.leave) v.scale v.form v.num v.den x (place s.enter) r.0 e.solves swap.first_to_leave.writes r.1 in
    let low : r.0 (place s.leave) <ℤ pos 0 = down-from v.scale (r.0 (place s.leave)) (coefficient (place s.enter) v.form) (r.0 (place s.enter)) swap.first_to_leave.writes.scale_positive r.1.here moves swap.first_to_leave.falls in
    let k = above-zero (neg_ℤ (r.0 (place s.leave))) (turned-low (r.0 (place s.leave)) low) in
    let g = above-zero (neg_ℤ (coefficient (place s.enter) v.form)) (turned-low (coefficient (place s.enter) v.form) swap.first_to_leave.falls) in
    let marks : Each (λ m. IsMarkAt p (place m)) at = recursion_from_All (λ m. IsMarkAt p (place m)) at corner.marks in
    let leaving : IsMarkAt p (place s.leave) = contains_each (λ c. IsMarkAt p c) at (place s.leave) marks swap.leaves in
    let costs = negative_costs p at s.enter r.0 whole swap.column r.1 in
    let lex : IsLexPositive (λ c. values c (place s.leave)) (run_columns first) = contains_each (λ c. IsLexPositive (λ u. values u c) (run_columns first)) at (place s.leave) e.positive swap.leaves in
    record {
      exchange = pivot_is_exchange p at s r.0 corner swap.mark swap.enters swap.leaves r.1 (low-some (r.0 (place s.leave)) low);
      after = next_values (place s.leave) r.0 values;
      scale = k.0 * one;
      extended = extended_next p first at s values one r.0 k.0 e swap.mark swap.enters swap.leaves r.1 k.2 k.1
          (each-impl (λ m. (IsMarkAt p (place m) × IsIn (place m) at) × (r.0 (place m) <ℤ pos 0 → (w : Writing) × Writes p at (place m) w × FallsFirst (map place first) (place s.enter) (place s.leave) v (place m) w)) _ at
          (λ m h apart down.
          let w = h.1 down in
          falls_later p first at values one (place s.enter) (place s.leave) (place m) g.0 r.0 v w.0 e start leaving h.0.0 r.1
          (record { leaving = swap.first_to_leave.writes; other = w.1; here = swap.leaves; there = h.0.1; apart = apart }) g.2 g.1 swap.first_to_leave.falls w.2)
          (each-both _ _ at (each-both _ _ at marks (in-list at)) (recursion_from_All _ at (swap.first_to_leave.least r.0 r.1))));
      lower = lower_next p (run_columns first) (place s.leave) one k.0 costs.0 r.0 values k.2 k.1 costs.1 costs.2 lex;
    }

-- ---- all exchanges

-- the costs at these marks are lower than those
pub record IsLaterCorner (p : Problem) (first : List Mark) (values : ℕ → ℕ → ℤ) (one : ℕ) (at : List Mark) : Type 0 where
  pub after : ℕ → ℕ → ℤ
  pub scale : ℕ
  pub extended : IsExtended p first at after scale
  pub lower : AreLower p (run_columns first) one values scale after

pub later_all : (p : Problem) (first at : List Mark) (s : Swap) (swaps : List Swap) (values : ℕ → ℕ → ℤ) (one : ℕ) → IsWhole p → HasRays p first → IsCorner p at → HasRays p at → IsExtended p first at values one → AreRunSwaps p first at (s ∷ swaps) → Each (IsLaterCorner p first values one) (corners (exchanged s at) swaps)
later_all p first at s [] values one whole start corner rays e run =
    let h = run_step p first at s values one whole start corner rays e run.0 in
    (record { after = h.after; scale = h.scale; extended = h.extended; lower = h.lower }, tt)
later_all p first at s (t ∷ swaps) values one whole start corner rays e run =
    let h = run_step p first at s values one whole start corner rays e run.0 in (
      record { after = h.after; scale = h.scale; extended = h.extended; lower = h.lower },
      each-impl (IsLaterCorner p first h.after h.scale) (IsLaterCorner p first values one) (corners (exchanged t (exchanged s at)) swaps)
          (λ b l. record { after = l.after; scale = l.scale; extended = l.extended; lower = lower_trans p (run_columns first) one h.scale l.scale values h.after l.after h.lower l.lower })
          (later_all p first (exchanged s at) t swaps h.after h.scale whole start h.exchange.corner (rays_after p at s run.0.mark h.exchange rays) h.extended run.1),
    )

-- what holds of the outside marks at the same marks in another order
same_outside : (p : Problem) (at other : List Mark) (n : ℕ → ℤ) → ((v : ℕ) → IsIn v other → IsIn v at) → All (λ m. (IsIn (place m) other → ⊥) → n (place m) ≡ pos 0) (marks_of (lines p)) → All (λ m. (IsIn (place m) at → ⊥) → n (place m) ≡ pos 0) (marks_of (lines p))
same_outside p at other n back h = λ i d within out. h i d within (λ k. out (back _ k))

pub contains_in : (at other : List Mark) (v : ℕ) → All (λ m. IsIn (place m) other) at → IsIn v at → IsIn v other
contains_in at other v h i = contains_each (λ c. IsIn c other) at v (recursion_from_All (λ m. IsIn (place m) other) at h) i

same_extended : (p : Problem) (first at other : List Mark) (values : ℕ → ℕ → ℤ) (one : ℕ) → SameMarks at other → IsExtended p first other values one → IsExtended p first at values one
same_extended p first at other values one same e =
    let back : (v : ℕ) → IsIn v other → IsIn v at = λ v i. contains_in other at v same.1 i in
    record {
      above = e.above;
      solves = e.solves;
      unit = e.unit;
      outside = same_outside p at other (values one_column) back e.outside;
      lifts = each-impl (λ m. IsLift p other one (place m) (values (place m))) (λ m. IsLift p at one (place m) (values (place m))) first
          (λ m h. record { direction = h.direction; outside = same_outside p at other (values (place m)) back h.outside }) e.lifts;
      positive = each-impl (λ m. IsIn (place m) other) (λ m. IsLexPositive (λ c. values c (place m)) (run_columns first)) at
          (λ m i. contains_each (λ v. IsLexPositive (λ c. values c v) (run_columns first)) other (place m) e.positive i)
          (recursion_from_All (λ m. IsIn (place m) other) at same.0);
    }

not_again : (p : Problem) (first at b : List Mark) (values : ℕ → ℕ → ℤ) (one : ℕ) → IsCorner p at → IsExtended p first at values one → IsLaterCorner p first values one b → SameMarks at b → ⊥
not_again p first at b values one corner e later same =
    not_lower p first at one later.scale values later.after corner e (same_extended p first at b later.after later.scale same later.extended) later.lower

run_apart : (p : Problem) (first at : List Mark) (swaps : List Swap) (values : ℕ → ℕ → ℤ) (one : ℕ) → IsWhole p → HasRays p first → IsCorner p at → HasRays p at → IsExtended p first at values one → AreRunSwaps p first at swaps → ArePairwiseDifferent (corners at swaps)
run_apart p first at [] values one whole start corner rays e run = AllPairs-cons (λ (a b : List Mark). SameMarks a b → ⊥) at [] (All-from_recursion (λ b. SameMarks at b → ⊥) [] tt) (λ i j d less within. absurd (omega (arith, within)))
run_apart p first at (s ∷ swaps) values one whole start corner rays e run =
    let h = run_step p first at s values one whole start corner rays e run.0 in
    AllPairs-cons (λ (a b : List Mark). SameMarks a b → ⊥) at (corners (exchanged s at) swaps)
    (All-from_recursion (λ b. SameMarks at b → ⊥) (corners (exchanged s at) swaps)
    (each-impl (IsLaterCorner p first values one) (λ b. SameMarks at b → ⊥) (corners (exchanged s at) swaps) (λ b l. not_again p first at b values one corner e l) (later_all p first at s swaps values one whole start corner rays e run)))
    (run_apart p first (exchanged s at) swaps h.after h.scale whole start h.exchange.corner (rays_after p at s run.0.mark h.exchange rays) h.extended run.1)

-- the values are not negative
values_up : (p : Problem) (first at : List Mark) (values : ℕ → ℕ → ℤ) (one : ℕ) → IsExtended p first at values one → NoNegativeValue p at
values_up p first at values one e = (
  point_of p first at values one e,
  point_stands p first at values one e,
  All-from_recursion (λ m. pos 0 ≤ℤ values one_column (place m)) at (each-impl (λ m. IsLexPositive (λ c. values c (place m)) (run_columns first)) (λ m. pos 0 ≤ℤ values one_column (place m)) at (λ m l. head-up (values one_column (place m)) l) e.positive),
)
  where
    head-up : {R : Type 0} (z : ℤ) → ((pos 0 <ℤ z) ⊎ ((z ≡ pos 0) × R)) → pos 0 ≤ℤ z
    head-up z (inl h) = omega (arith, ints, h)
    head-up z (inr h) = omega (arith, ints, h.0)

run_lawful : (p : Problem) (first at : List Mark) (swaps : List Swap) (values : ℕ → ℕ → ℤ) (one : ℕ) → IsWhole p → HasRays p first → IsCorner p at → HasRays p at → IsExtended p first at values one → AreRunSwaps p first at swaps → ArePathSwaps false p at swaps
run_lawful p first at [] values one whole start corner rays e run = values_up p first at values one e
run_lawful p first at (s ∷ swaps) values one whole start corner rays e run =
    let h = run_step p first at s values one whole start corner rays e run.0 in (
      values_up p first at values one e,
      run.0.no_end,
      h.exchange,
      run.0.column,
      run_lawful p first (exchanged s at) swaps h.after h.scale whole start h.exchange.corner (rays_after p at s run.0.mark h.exchange rays) h.extended run.1,
    )

-- ---- the laws

pub run_is_path : (p : Problem) (first : List Mark) (swaps : List Swap) → IsWhole p → IsCorner p first → HasRays p first → NoNegativeValue p first → AreRunSwaps p first first swaps → IsPath false p first swaps
run_is_path p first swaps whole corner rays (x, stands, values) run =
    let k = above-zero (x.num one_column) x.positive in
    let e = first_extended p first x k.0 whole corner stands k.2 k.1 values in
    record {
      corner = corner;
      apart = run_apart p first first swaps (first_values k.0 x.num) k.0 whole rays corner rays e run;
      lawful = run_lawful p first first swaps (first_values k.0 x.num) k.0 whole rays corner rays e run;
    }

pub run_grows : (p : Problem) (first at : List Mark) (swaps : List Swap) (s : Swap) → AreRunSwaps p first at swaps → IsRunSwap p first (last_marks at swaps) s → AreRunSwaps p first at (swaps ++ s ∷ [])
run_grows p first at [] s run swap = (swap, tt)
run_grows p first at (t ∷ swaps) s run swap = (run.0, run_grows p first (exchanged t at) swaps s run.1 swap)

-- ---- the order of the marks

pub same_stands : (p : Problem) (at other : List Mark) (x : Point) → ((v : ℕ) → IsIn v other → IsIn v at) → StandsAt p other x → StandsAt p at x
same_stands p at other x back (solves, outside) = (solves, same_outside p at other x.num back outside)

same_end : (p : Problem) (at other : List Mark) → ((v : ℕ) → IsIn v at → IsIn v other) → ((v : ℕ) → IsIn v other → IsIn v at) → IsEndOf false p other → IsEndOf false p at
same_end p at other to back (inl (m, is, up)) = inl (m, same_multipliers p at other m to is, up)
same_end p at other to back (inr ((x, stands, cost), (m, is, up))) = inr ((x, same_stands p at other x back stands, cost), (m, same_multipliers p at other m to is, up))

pub same_writes : (p : Problem) (at other : List Mark) (c : ℕ) (w : Writing) → ((v : ℕ) → IsIn v other → IsIn v at) → Writes p at c w → Writes p other c w
same_writes p at other c w back h = record {
  scale_positive = h.scale_positive;
  den_positive = h.den_positive;
  outside = λ v some. ((h.outside v some).0, λ i. (h.outside v some).1 (back v i));
  holds = h.holds;
  lowest = h.lowest;
}

same_ray : (p : Problem) (at other : List Mark) (c : ℕ) (ray : ℕ → ℤ) → ((v : ℕ) → IsIn v other → IsIn v at) → IsRay p other c ray → IsRay p at c ray
same_ray p at other c ray back h = record { holds = h.holds; still = h.still; here = h.here; other = λ i d within out ne. h.other i d within (λ k. out (back _ k)) ne }

pub order_is_free : (p : Problem) (first at other : List Mark) (s : Swap) → SameMarks at other → IsRunSwap p first at s → IsRunSwap p first other s
order_is_free p first at other s same h =
    let to : (v : ℕ) → IsIn v at → IsIn v other = λ v i. contains_in at other v same.0 i in
    let back : (v : ℕ) → IsIn v other → IsIn v at = λ v i. contains_in other at v same.1 i in
    record {
      no_end = λ end. h.no_end (same_end p at other to back end);
      mark = h.mark;
      enters = λ i. h.enters (back (place s.enter) i);
      leaves = to (place s.leave) h.leaves;
      column = (h.column.0, same_multipliers p other at h.column.0 back h.column.1, h.column.2);
      first_to_leave = record {
        leaving = h.first_to_leave.leaving;
        writes = same_writes p at other (place s.leave) h.first_to_leave.leaving back h.first_to_leave.writes;
        falls = h.first_to_leave.falls;
        least = λ ray r.
            All-from_recursion (λ m. ray (place m) <ℤ pos 0 → (w : Writing) × Writes p other (place m) w × FallsFirst (map place first) (place s.enter) (place s.leave) h.first_to_leave.leaving (place m) w) other
            (each-impl (λ m. IsIn (place m) at) _ other
            (λ m i down.
            let w = contains_each (λ v. ray v <ℤ pos 0 → (w : Writing) × Writes p at v w × FallsFirst (map place first) (place s.enter) (place s.leave) h.first_to_leave.leaving v w) at (place m)
            (recursion_from_All (λ m. ray (place m) <ℤ pos 0 → (w : Writing) × Writes p at (place m) w × FallsFirst (map place first) (place s.enter) (place s.leave) h.first_to_leave.leaving (place m) w) at (h.first_to_leave.least ray (same_ray p at other (place s.enter) ray back r))) i down in
            (w.0, same_writes p at other (place m) w.0 back w.1, w.2))
            (recursion_from_All (λ m. IsIn (place m) at) other same.1));
      };
    }
