-- A command that clashes: what is a core there, what shows it, and where a trial stops.
use Rattle.std.proofs.Common.{◌≡◌, ◌≢◌, ℕ, zero, suc, ◌<◌, cond, nat_eq, List, [], ◌∷◌, ◌++◌, length, ℤ, pos, negsuc, ◌+ℤ◌, ◌-ℤ◌, ◌*ℤ◌, ◌≤ℤ◌, unsigned_abs, refl, sym, ap, subst, arith, All, Any}
use Rattle.std.specs.Int.{◌∣◌}
use Rattle.std.specs.List.{AllZip}
use Rattle.std.specs.List.Sorted.{IsStrictlyIncreasing}
use Rattle.std.proofs.lemmas.List.Elements.{recursion_from_All, All-from_recursion}
use Rattle.std.proofs.lemmas.List.Kept.{AllPairs-cons, AllPairs-from_increasing}
use Rattle.std.proofs.lemmas.Nat.Gcd.{dvd_antisymm}
use Rattle.std.proofs.Math.Nat.{one-dvd}
use borrow.Author.Differences.{ints}
use Rattle.frac_core.specs.Fraction.{Fraction, IsKept}
use Rattle.frac_core.proofs.Lists.{pairs-unmapped}
use Rattle.problem_core.specs.declared.limits.TheConstants.{REQUIRED}
use Rattle.problem_core.specs.declared.parts.Rel.TheVariants.{Ge, Le}
use Rattle.problem_core.specs.declared.parts.RowName.TheVariants.{Held}
use Rattle.problem_core.specs.declared.parts.Mark.{Mark}
use Rattle.problem_core.specs.Changes.Begins.{BeginsWith, IsJoined}
use Rattle.problem_core.specs.Corners.{IsIn, Point, SameMarks, place}
use Rattle.problem_core.specs.Layout.{Assignment, IsInConflict, Problem, Row, Satisfies, above, below, coefficient, error, gap, line_of_row}
use Rattle.problem_core.specs.Kept.{AreRising}
use Rattle.problem_core.specs.Certificates.{HasSign}
use Rattle.problem_core.specs.Window.{required_row}
use Rattle.problem_core.proofs.Sides.{zero-kept}
use Rattle.cert_core.specs.declared.by.By.{By}
use Rattle.cert_core.specs.Claims.{times_of}
use Rattle.cert_core.specs.Stops.{ComesBefore, IsShownConflict}
use Rattle.cert_core.specs.declared.stops.RunStop.TheVariants as run
use Rattle.certificates.proofs.SameValues.{of_stays}
use Rattle.corner_laws.specs.Examples.{at_least, single, under_row}
use Rattle.corner_laws.proofs.Instances.BeginExamples.{begins_under}
use Rattle.corner_laws.proofs.Instances.StopExamples.{spent_stops}
use Rattle.corner_laws.proofs.MarkWritings.Fits.{whole_is_kept}
use Rattle.layout_solver.specs.Instances.{below_bound}
use Rattle.conflict_core.specs.Cores.{AreRequired, IsCore, trial, without}
use Rattle.conflict_core.specs.Shown.{DoWithout, IsShownCore, IsSolution}
use Rattle.conflict_core.specs.Trials.{IsStopOfTrial}
use Rattle.conflict_core.specs.Instances.{SomeAreCores, SomeAreShown, SomeTrialsStop, clash, once_and, points, widths, with_width}

-- ---- the two rows

abbrev least : Row
least = required_row 7 7 Ge (points 200)

abbrev most : Row
most = required_row 9 7 Le (points 100)

abbrev IsMet : Assignment → Row → Type 0
IsMet x r = r.rank ≡ REQUIRED → error x (line_of_row r) ≡ 0

no-lack : (z : ℤ) → below z ≡ 0 → pos 0 ≤ℤ z
no-lack (pos n) e = omega (arith, ints)
no-lack (negsuc n) e = absurd (omega (arith, e))

no-more : (z : ℤ) → above z ≡ 0 → z ≤ℤ pos 0
no-more (pos n) e = omega (arith, ints, e)
no-more (negsuc n) e = omega (arith, ints)

apart : (a : ℤ) (d : ℕ) → 0 < d → pos 0 ≤ℤ (pos 1 *ℤ (pos 1 *ℤ a +ℤ pos 0) -ℤ pos 200 *ℤ pos d) → (pos 1 *ℤ (pos 1 *ℤ a +ℤ pos 0) -ℤ pos 100 *ℤ pos d) ≤ℤ pos 0 → ⊥
apart a d up least most = omega (arith, ints, up, least, most)

clashes : IsInConflict (trial clash (7 ∷ 9 ∷ []))
clashes x sat =
    let h : IsMet x least × (IsMet x most × Unit {0}) = recursion_from_All (IsMet x) (least ∷ most ∷ []) sat in
    let low : below (gap x (line_of_row least)) ≡ 0 = h.0 refl in
    let high : above (gap x (line_of_row most)) ≡ 0 = h.1.0 refl in
    apart (x.num 7) x.den x.positive (no-lack (gap x (line_of_row least)) low) (no-more (gap x (line_of_row most)) high)

-- all at 0, but the width at so many points
abbrev at_width : ℕ → Assignment
at_width n = record { den = 1; num = λ v. cond (nat_eq v 7) (pos n) (pos 0); positive = omega arith }

-- the narrow one satisfies row 9, the wide one row 7
narrow : Satisfies (trial clash (9 ∷ [])) (at_width 0)
narrow = All-from_recursion (IsMet (at_width 0)) (most ∷ []) ((λ e. refl), tt)

wide : Satisfies (trial clash (7 ∷ [])) (at_width 200)
wide = All-from_recursion (IsMet (at_width 200)) (least ∷ []) ((λ e. refl), tt)

empty : Satisfies (trial clash []) (at_width 0)
empty = All-from_recursion (IsMet (at_width 0)) [] tt

-- ---- cores

are-required : AreRequired clash (7 ∷ 9 ∷ [])
are-required = record {
  rising = AllPairs-cons (λ (a b : ℕ). a < b) 7 (9 ∷ []) (All-from_recursion (λ (b : ℕ). 7 < b) (9 ∷ []) (omega arith, tt)) (λ i j d less within. absurd (omega (arith, less, within)));
  held = All-from_recursion (λ (id : ℕ). Any (λ (r : Row). (r.id ≡ id) × (r.rank ≡ REQUIRED)) clash.rows) (7 ∷ 9 ∷ [])
      ((6, least, omega arith, refl, (refl, refl)), ((8, most, omega arith, refl, (refl, refl)), tt));
}

abbrev IsNeeded : List ℕ → ℕ → Type 0
IsNeeded ids id = IsInConflict (trial clash (without id ids)) → ⊥

are-core : IsCore clash (7 ∷ 9 ∷ [])
are-core = record {
  rows = are-required;
  conflict = clashes;
  needed = All-from_recursion (IsNeeded (7 ∷ 9 ∷ [])) (7 ∷ 9 ∷ []) ((λ none. none (at_width 0) narrow), ((λ none. none (at_width 200) wide), tt));
}

-- a row of which the others are in conflict without it isn't needed
more-are-none : IsCore clash (5 ∷ 7 ∷ 9 ∷ []) → ⊥
more-are-none is = (recursion_from_All (IsNeeded (5 ∷ 7 ∷ 9 ∷ [])) (5 ∷ 7 ∷ 9 ∷ []) is.needed).0 clashes

optional-are-none : IsCore clash (7 ∷ 8 ∷ 9 ∷ []) → ⊥
optional-are-none is = (recursion_from_All (IsNeeded (7 ∷ 8 ∷ 9 ∷ [])) (7 ∷ 8 ∷ 9 ∷ []) is.needed).1.0 clashes

falling-are-none : IsCore clash (9 ∷ 7 ∷ []) → ⊥
falling-are-none is = let less : 9 < 7 = is.rows.rising 0 1 0 (omega arith) (omega arith) in absurd (omega (arith, less))

pub some_are_cores : SomeAreCores
some_are_cores = record {
  two = are-core;
  none = λ is. is.conflict (at_width 0) empty;
  one = λ is. is.conflict (at_width 200) wide;
  more = more-are-none;
  optional = optional-are-none;
  falling = falling-are-none;
}

-- ---- what shows it

difference : (c : ℤ) → (pos 1 +ℤ (pos 0 +ℤ pos 0)) *ℤ c +ℤ ((pos 0 +ℤ (negsuc 0 +ℤ pos 0)) *ℤ c +ℤ pos 0) ≡ pos 0
difference c = omega (arith, ints)

abbrev row_7 : By
row_7 = record { row = Held 7; times = pos 1 }

abbrev row_9 : By
row_9 = record { row = Held 9; times = negsuc 0 }

refuted : IsShownConflict (trial clash (7 ∷ 9 ∷ [])) (once_and (negsuc 0))
refuted = record {
  refutes = record {
    cancel = λ v. difference (coefficient v least.terms);
    signs = All-from_recursion (λ r. HasSign r.rel (times_of (once_and (negsuc 0)) (Held r.id))) (least ∷ most ∷ []) (record { le = tt }, (record { le = tt }, tt));
    above_zero = record { lt = tt };
  };
  named = All-from_recursion (λ b. Any (λ r. b.row ≡ Held r.id) (least ∷ most ∷ [])) (once_and (negsuc 0)) ((0, least, omega arith, refl, refl), ((1, most, omega arith, refl, refl), tt));
  nonzero = All-from_recursion (λ b. b.times ≢ pos 0) (once_and (negsuc 0)) ((λ e. absurd (omega (arith, ints, e))), ((λ e. absurd (omega (arith, ints, e))), tt));
  rising = AllPairs-cons (λ (a b : By). ComesBefore a.row b.row) row_7 (row_9 ∷ []) (All-from_recursion (λ (b : By). ComesBefore (Held 7) b.row) (row_9 ∷ []) (omega arith, tt)) (λ i j d less within. absurd (omega (arith, less, within)));
  lowest = λ k h. dvd_antisymm ((recursion_from_All (λ b. k ∣ unsigned_abs b.times) (once_and (negsuc 0)) h).0) (one-dvd k);
}

abbrev one_to_eight : List ℕ
one_to_eight = 1 ∷ 2 ∷ 3 ∷ 4 ∷ 5 ∷ 6 ∷ 7 ∷ 8 ∷ []

increasing : IsStrictlyIncreasing one_to_eight
increasing zero h = omega arith
increasing (suc zero) h = omega arith
increasing (suc (suc zero)) h = omega arith
increasing (suc (suc (suc zero))) h = omega arith
increasing (suc (suc (suc (suc zero)))) h = omega arith
increasing (suc (suc (suc (suc (suc zero))))) h = omega arith
increasing (suc (suc (suc (suc (suc (suc zero)))))) h = omega arith
increasing (suc (suc (suc (suc (suc (suc (suc k))))))) h = absurd (omega (arith, h))

rising : (n : ℕ) → AreRising (with_width n)
rising n = pairs-unmapped (λ (v : ℕ × Fraction). v.0) (λ (a b : ℕ). a < b) (with_width n) (AllPairs-from_increasing one_to_eight increasing)

kept : (n : ℕ) → n < 4398046511104 → All (λ (v : ℕ × Fraction). IsKept v.1) (with_width n)
kept n small = All-from_recursion (λ (v : ℕ × Fraction). IsKept v.1) (with_width n) (zero-kept, (zero-kept, (zero-kept, (zero-kept, (zero-kept, (zero-kept, (whole_is_kept n small, (zero-kept, tt))))))))

given : (n : ℕ) → pos n *ℤ pos 1 ≡ pos n *ℤ pos 1
given n = refl

solution : (n : ℕ) (ids : List ℕ) → n < 4398046511104 → Satisfies (trial clash ids) (at_width n) → IsSolution (trial clash ids) (with_width n)
solution n ids small sat = record {
  all = record { attributes = of_stays (trial clash ids) (with_width n) refl; rising = rising n; kept = kept n small };
  satisfies = (
    at_width n,
    sat,
    All-from_recursion (λ (v : ℕ × Fraction). (at_width n).num v.0 *ℤ pos v.1.den ≡ v.1.num *ℤ pos 1) (with_width n) (refl, (refl, (refl, (refl, (refl, (refl, (refl, (refl, tt)))))))),
  );
}

abbrev Do : ℕ × List (ℕ × Fraction) → Type 0
Do w = DoWithout clash (7 ∷ 9 ∷ []) w

shown : IsShownCore clash (7 ∷ 9 ∷ []) (once_and (negsuc 0)) (widths 0 200)
shown = record {
  rows = are-required;
  refuted = refuted;
  named = refl;
  each = refl;
  others = All-from_recursion Do (widths 0 200) (solution 0 (9 ∷ []) (omega arith) narrow, (solution 200 (7 ∷ []) (omega arith) wide, tt));
}

twice : ◌≡◌ {A = ℤ} (pos 2) (pos 0) → ⊥
twice e = absurd (omega (arith, ints, e))

-- the width can't be 200 where row 9 holds
too-wide : (a : ℤ) (d : ℕ) → 0 < d → a *ℤ pos 1 ≡ pos 200 *ℤ pos d → (pos 1 *ℤ (pos 1 *ℤ a +ℤ pos 0) -ℤ pos 100 *ℤ pos d) ≤ℤ pos 0 → ⊥
too-wide a d up is most = omega (arith, ints, up, is, most)

abbrev IsGiven : Assignment → ℕ × Fraction → Type 0
IsGiven x v = x.num v.0 *ℤ pos v.1.den ≡ v.1.num *ℤ pos x.den

not-exchanged : IsShownCore clash (7 ∷ 9 ∷ []) (once_and (negsuc 0)) (widths 200 0) → ⊥
not-exchanged h =
    let first : IsSolution (trial clash (9 ∷ [])) (with_width 200) = (recursion_from_All Do (widths 200 0) h.others).0 in
    let (x, sat, gives) = first.satisfies in
    let met : IsMet x most × Unit {0} = recursion_from_All (IsMet x) (most ∷ []) sat in
    let high : above (gap x (line_of_row most)) ≡ 0 = met.0 refl in
    let each = recursion_from_All (IsGiven x) (with_width 200) gives in
    too-wide (x.num 7) x.den x.positive each.1.1.1.1.1.1.0 (no-more (gap x (line_of_row most)) high)

pub some_are_shown : SomeAreShown
some_are_shown = record {
  two = shown;
  summed = λ h. twice (h.refuted.refutes.cancel 7);
  unnamed = λ h. (let e = ap length h.named in absurd (omega (arith, e)));
  exchanged = not-exchanged;
  lacking = λ h. (let e = ap length h.each in absurd (omega (arith, e)));
}

-- ---- where a trial stops

-- the trial of these rows stops there
abbrev StopsThere : ℕ → List ℕ → Type 0
StopsThere budget ids = AreRequired (single 5) ids × IsStopOfTrial (single 5) ids budget (run.Spent below_bound)

first-required : AreRequired (single 5) (1 ∷ [])
first-required = record {
  rising = λ i j d less within. absurd (omega (arith, less, within));
  held = All-from_recursion (λ (id : ℕ). Any (λ (r : Row). (r.id ≡ id) × (r.rank ≡ REQUIRED)) (single 5).rows) (1 ∷ []) ((0, at_least 5, omega arith, refl, (refl, refl)), tt);
}

not-second : Any (λ (r : Row). (r.id ≡ 2) × (r.rank ≡ REQUIRED)) (at_least 5 ∷ []) → ⊥
not-second (zero, r, within, is, (e, rank)) = absurd (omega (arith, e, ap (λ (s : Row). s.id) is))
not-second (suc k, r, within, is, e) = absurd (omega (arith, within))

second-required : AreRequired (single 5) (2 ∷ []) → ⊥
second-required h = not-second ((recursion_from_All (λ (id : ℕ). Any (λ (r : Row). (r.id ≡ id) × (r.rank ≡ REQUIRED)) (single 5).rows) (2 ∷ []) h.held).0)

spent-stop : StopsThere 0 (1 ∷ [])
spent-stop =
    let (kind, h) = spent_stops in (
      first-required,
      (refl, record { begins = (at_least 5 ∷ [], refl, begins_under, refl); lawful = h.lawful; count = h.count; no_end = h.no_end }),
    )

early : StopsThere 1 (1 ∷ []) → ⊥
early (rows, (kind, h)) = let e : 0 ≡ 1 = h.count in absurd (omega (arith, e))

-- where no row has joined no mark is inside
no-news : (p : Problem) (news : List Mark) (x : Point) → SameMarks (under_row ∷ []) (news ++ []) → AllZip (IsJoined x) [] news → ⊥
no-news p [] x marks each = let (k, within, is) = (recursion_from_All (λ m. IsIn (place m) []) (under_row ∷ []) marks.0).0 in absurd (omega (arith, within))
no-news p (m ∷ news) x marks each = absurd each

no-begin : (p : Problem) (joined : List Row) → joined ++ [] ≡ [] → BeginsWith p [] joined [] (under_row ∷ []) → ⊥
no-begin p [] e h = no-news p h.news h.point h.marks h.each
no-begin p (r ∷ joined) e h = cc

none : StopsThere 0 [] → ⊥
none (rows, (kind, h)) = let (joined, e, begins, ordered) = h.begins in no-begin (trial (single 5) []) joined e begins

pub some_trials_stop : SomeTrialsStop
some_trials_stop = record {
  spent = λ held e. subst (StopsThere 0) (sym e) spent-stop;
  early = λ held e h. early (subst (StopsThere 1) e h);
  other = λ held e h. second-required (subst (StopsThere 0) e h).0;
  none = λ held e h. none (subst (StopsThere 0) e h);
}
