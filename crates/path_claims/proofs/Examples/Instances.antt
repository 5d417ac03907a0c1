-- The words of the first four clauses in small cases.
use Rattle.std.proofs.Common.{◌≡◌, ◌≢◌, ℕ, zero, suc, ◌+◌, ◌≤◌, Bool, true, false, cond, nat_eq, List, [], ◌∷◌, length, pos, negsuc, ◌+ℤ◌, refl, sym, ap, subst, arith, inl, inr, ◌⊎◌, None, ne_eqb}
use Rattle.std.proofs.lemmas.List.Elements.{All-from_recursion, recursion_from_All}
use Rattle.std.proofs.lemmas.Bool.{cases_eq}
use Rattle.frac_core.specs.Fraction.{IsFitting, IsKept}
use Rattle.problem_core.specs.declared.parts.Term.{Term}
use Rattle.problem_core.specs.Layout.{Row, coefficient, lines, value_at}
use Rattle.problem_core.specs.Changes.Begins.{AreExchanges}
use Rattle.problem_core.specs.Corners.{IsCorner, IsIn, IsWritingOf, NoNegativeValue, SameMarks, Swap, attr_column, equation, one_column, place}
use Rattle.problem_core.specs.Unfit.{HasNoWriting, first_terms}
use Rattle.corner_laws.specs.Examples.{at_least, over_row, over_stay, single, under_row}
use Rattle.corner_laws.proofs.Instances.Examples.{terms_unfit}
use Rattle.corner_laws.proofs.MarkWritings.Fits.{one_factor, whole_is_kept, sum-holds}
use Rattle.corner_laws.proofs.Instances.PathExamples.{alone-in, no, no_primal_path, over_corner, primal_path, stay-sound, under-sound, under_corner}
use Rattle.corner_laws.proofs.Instances.RunExamples.{single_whole}
use Rattle.path_claims.specs.declared.verdict.PathVerdict.TheVariants.{No}
use Rattle.path_lines.specs.Walking.FirstLines.{HasUnfitFirst}
use Rattle.path_claims.specs.Instances.{Breaks, IsAtBegin, below_bound, SomePathsHold, from_bound, going, to_bound, to_bound_step}
use Rattle.path_claims.specs.PathClauses.{AreApart, AreSound, IsPathVerdict}
use Rattle.path_lines.specs.Route.{corner_after}
use Rattle.path_lines.specs.Sides.{AreSteps, IsWithin}
use Rattle.path_lines.proofs.Walking.FirstCorner.{begins_there}
use Rattle.path_claims.proofs.Examples.WayExamples.{over_is}
use Rattle.corner_laws.proofs.Instances.DualExamples.{over-holds as row_holds}

-- ---- sums of first terms

-- `x >= 2^42`: all of it less its constant does not fit
large_first : HasUnfitFirst (single 4398046511104)
large_first = (0, at_least 4398046511104, omega arith, refl, (2, terms_unfit.0))

only-row : (c : ℕ) → c ≢ 5 → IsIn c (over_row ∷ []) → ⊥
only-row c ne i = alone-in over_row c ne i

abbrev stay_form : List Term
stay_form = record { attr = 7; by = pos 1 } ∷ record { attr = 6; by = negsuc 0 } ∷ []

abbrev row_form : List Term
row_form = record { attr = 4; by = pos 1 } ∷ stay_form

one_of : (v : ℕ) → coefficient v row_form ≢ pos 0 → (v ≡ 4) ⊎ (v ≡ 7) ⊎ (v ≡ 6)
one_of v some =
    elim (cases_eq 4 v) [
      | inl e ↦ inl (sym e)
      | inr k ↦ elim (cases_eq 7 v) [
        | inl e ↦ inr (inl (sym e))
        | inr m ↦ elim (cases_eq 6 v) [
          | inl e ↦ inr (inr (sym e))
          | inr n ↦ absurd (some (rw (ne_eqb 4 v k, ne_eqb 7 v m, ne_eqb 6 v n) refl))
        ]
      ]
    ]

two_of : (v : ℕ) → coefficient v stay_form ≢ pos 0 → (v ≡ 7) ⊎ (v ≡ 6)
two_of v some =
    elim (cases_eq 7 v) [
      | inl e ↦ inl (sym e)
      | inr m ↦ elim (cases_eq 6 v) [
        | inl e ↦ inr (sym e)
        | inr n ↦ absurd (some (rw (ne_eqb 7 v m, ne_eqb 6 v n) refl))
      ]
    ]

small_sum : (a b c : Bool) → IsFitting (cond a (pos 1) (pos 0) +ℤ (cond b (pos 1) (pos 0) +ℤ (cond c (negsuc 0) (pos 0) +ℤ pos 0)))
small_sum true true true = omega arith
small_sum true true false = omega arith
small_sum true false true = omega arith
small_sum true false false = omega arith
small_sum false true true = omega arith
small_sum false true false = omega arith
small_sum false false true = omega arith
small_sum false false false = omega arith

small_stay : (b c : Bool) → IsFitting (cond b (pos 1) (pos 0) +ℤ (cond c (negsuc 0) (pos 0) +ℤ pos 0))
small_stay true true = omega arith
small_stay true false = omega arith
small_stay false true = omega arith
small_stay false false = omega arith

-- the sum of the one term of `x >= 5` is x, and 0 where it begins
one_term : IsWritingOf (single 5) (over_row ∷ []) (first_terms (at_least 5) 1) 1 stay_form (pos 0) 1
one_term = record {
  scale_positive = omega arith;
  den_positive = omega arith;
  outside = λ v some. elim (two_of v some) [
    | inl e ↦ ((3, omega arith, sym e), only-row v (λ q. omega (arith, e, q)))
    | inr e ↦ ((2, omega arith, sym e), only-row v (λ q. omega (arith, e, q)))
  ];
  holds = λ x solves. sum-holds (x.num 6) (x.num 7) (x.num one_column) (x.num (attr_column 1)) (recursion_from_All (λ l. value_at x.num (equation l) ≡ pos 0) (lines (single 5)) solves).1.0;
  lowest = λ k each whole. one_factor k whole.0 whole.1;
}

-- with its constant it is -5
all_terms : IsWritingOf (single 5) (over_row ∷ []) (first_terms (at_least 5) 2) 1 row_form (negsuc 4) 1
all_terms = record {
  scale_positive = omega arith;
  den_positive = omega arith;
  outside = λ v some. elim (one_of v some) [
    | inl e ↦ ((0, omega arith, sym e), only-row v (λ q. omega (arith, e, q)))
    | inr (inl e) ↦ ((3, omega arith, sym e), only-row v (λ q. omega (arith, e, q)))
    | inr (inr e) ↦ ((2, omega arith, sym e), only-row v (λ q. omega (arith, e, q)))
  ];
  holds = λ x solves. let es = recursion_from_All (λ l. value_at x.num (equation l) ≡ pos 0) (lines (single 5)) solves in
      row_holds (x.num 4) (x.num 5) (x.num 6) (x.num 7) (x.num one_column) (x.num (attr_column 1)) es.0 es.1.0;
  lowest = λ k each whole. one_factor k whole.0 whole.1;
}

minus_five : IsKept (record { num = negsuc 4; den = 1 })
minus_five = let five = whole_is_kept 5 (omega arith) in record {
  lowest = record { above = omega arith; coprime = five.lowest.coprime };
  fits = record { num_fits = omega arith; den_fits = omega arith };
}

fit_at : (j : ℕ) → 1 ≤ j → j ≤ 2 → HasNoWriting (single 5) (over_row ∷ []) (first_terms (at_least 5) j) → ⊥
fit_at zero low high none = absurd (omega (arith, low))
fit_at (suc zero) low high none = none 1 stay_form (record { num = pos 0; den = 1 }) one_term (omega arith) (λ v. small_stay (nat_eq 7 v) (nat_eq 6 v)) (whole_is_kept 0 (omega arith))
fit_at (suc (suc zero)) low high none = none 1 row_form (record { num = negsuc 4; den = 1 }) all_terms (omega arith) (λ v. small_sum (nat_eq 4 v) (nat_eq 7 v) (nat_eq 6 v)) minus_five
fit_at (suc (suc (suc j))) low high none = absurd (omega (arith, high))

-- whatever row it is, it is `x >= 5`
row_fits : (r : Row) (j : ℕ) → at_least 5 ≡ r → 1 ≤ j → j ≤ length r.terms + 1 → HasNoWriting (single 5) (over_row ∷ []) (first_terms r j) → ⊥
row_fits r j is low high none =
    fit_at j low (subst (λ (q : Row). j ≤ length q.terms + 1) (sym is) high) (subst (λ (q : Row). HasNoWriting (single 5) (over_row ∷ []) (first_terms q j)) (sym is) none)

small_first : HasUnfitFirst (single 5) → ⊥
small_first (zero, q, here, same, (j, (zero, r, within, is, (mark, over, low, high, none)))) = row_fits r j is low high none
small_first (zero, q, here, same, (j, (suc k, r, within, is, more))) = absurd (omega (arith, within))
small_first (suc k, q, here, same, more) = absurd (omega (arith, here))

-- ---- the route

begun : IsAtBegin [] (under_row ∷ [])
begun = record {
  done = [];
  count = refl;
  begun = refl;
  there = begins_there (single 5) single_whole;
  kept = tt;
  sides = over_is;
  goes_on = λ more goes. goes;
  inside = λ k d within. absurd (omega (arith, within));
  wanted = λ k d within. absurd (omega (arith, within));
  new = tt;
}

no_mark_there : (done : List Swap) → length done ≡ 0 → IsIn (place under_row) (corner_after (single 5) done) → ⊥
no_mark_there [] count i = alone-in over_row 4 (no 4 5 (inl (omega arith))) i
no_mark_there (s ∷ done) count i = absurd (omega (arith, count))

not_there : IsAtBegin (under_row ∷ []) [] → ⊥
not_there at = no_mark_there at.done at.count (recursion_from_All (λ m. IsIn (place m) (corner_after (single 5) at.done)) (under_row ∷ []) at.inside).0

goes : AreExchanges (single 5) (under_row ∷ []) (to_bound ∷ [])
goes = (primal_path.lawful.2, tt)

steps_are : AreSteps (single 5) (to_bound ∷ []) (to_bound_step ∷ [])
steps_are = record { swaps_are = refl; within = All-from_recursion (IsWithin 2) (to_bound_step ∷ []) ((omega arith, omega arith), tt) }

some_swap : (s : Swap) → [] ≡ s ∷ [] → ⊥
some_swap s e = let count = ap (λ (ss : List Swap). length ss) e in absurd (omega (arith, count))

one_is_left : AreSteps (single 5) (to_bound ∷ []) [] → ⊥
one_is_left are = some_swap to_bound are.swaps_are

-- the under mark is inside before
is_inside : AreExchanges (single 5) (under_row ∷ []) (from_bound ∷ []) → ⊥
is_inside are = are.0.enters (0, omega arith, refl)

-- ---- verdicts

there_and_back : AreExchanges (single 5) (under_row ∷ []) (to_bound ∷ from_bound ∷ [])
there_and_back = (primal_path.lawful.2, (record { enters = alone-in over_stay 4 (no 4 7 (inl (omega arith))); leaves = (0, omega arith, refl); corner = under_corner }, tt))

again : SameMarks (under_row ∷ []) (under_row ∷ [])
again =
    let both = All-from_recursion (λ m. IsIn (place m) (under_row ∷ [])) (under_row ∷ []) ((0, omega arith, refl), tt) in
    (both, both)

not_apart : AreApart (going (to_bound ∷ from_bound ∷ [])) → ⊥
not_apart apart = apart 0 2 [] (omega arith) (omega arith) again

no_count : IsCorner (single 5) [] → ⊥
no_count corner = let c = corner.count in absurd (omega (arith, c))

not_ten : Breaks 10 (going (to_bound ∷ [])) → ⊥
not_ten answer = elim (answer None) [
  | inl h ↦ h.1 under_corner
  | inr (inl h) ↦ h.2 goes
  | inr (inr (inl h)) ↦ let e = h.0 in absurd (omega (arith, e))
  | inr (inr (inr (inl h))) ↦ let e = h.0 in absurd (omega (arith, e))
  | inr (inr (inr (inr (inl h)))) ↦ let e = h.0 in absurd (omega (arith, e))
  | inr (inr (inr (inr (inr h)))) ↦ let e = h.0 in absurd (omega (arith, e))
]

-- ---- values

all_sound : AreSound false (single 5) (under_row ∷ []) (to_bound ∷ [])
all_sound = (under-sound, stay-sound)

one_corner : AreApart below_bound
one_corner i j d less within = absurd (omega (arith, less, within))

below_there : NoNegativeValue (single 5) (over_row ∷ []) → ⊥
below_there values = no_primal_path [] (record { corner = over_corner; apart = one_corner; lawful = values })

not_twelve : IsPathVerdict (single 5) (going (to_bound ∷ [])) None (No 12) → ⊥
not_twelve answer = elim answer [
  | inl h ↦ let e = h.0 in absurd (omega (arith, e))
  | inr (inl h) ↦ let e = h.0 in absurd (omega (arith, e))
  | inr (inr (inl h)) ↦ let e = h.0 in absurd (omega (arith, e))
  | inr (inr (inr (inl h))) ↦ h.2 all_sound
  | inr (inr (inr (inr (inl h)))) ↦ let e = h.0 in absurd (omega (arith, e))
  | inr (inr (inr (inr (inr h)))) ↦ let e = h.0 in absurd (omega (arith, e))
]

pub some_paths_hold : SomePathsHold
some_paths_hold = record {
  first = record { large = large_first; small = small_first };
  ways = record {
    begun = begun;
    not_there = not_there;
    steps = steps_are;
    one_is_left = one_is_left;
  };
  verdicts = record {
    lawful = (record { corner = under_corner; exchanges = goes }, primal_path.apart);
    no_mark = λ unfit. inl (refl, no_count);
    no_mark_not = λ answer. no_count answer.0.corner;
    no_exchange = λ unfit. inr (inl (refl, under_corner, is_inside));
    no_exchange_not = λ answer. is_inside answer.0.exchanges;
    back = λ unfit. inr (inr (inl (refl, record { corner = under_corner; exchanges = there_and_back }, not_apart)));
    back_not = λ answer. not_apart answer.1;
    lawful_not = not_ten;
  };
  values = record {
    sound = ((record { corner = under_corner; exchanges = goes }, primal_path.apart), all_sound);
    sound_not = not_twelve;
    negative = inr (inr (inr (inl (refl, (record { corner = over_corner; exchanges = tt }, one_corner), below_there))));
    negative_not = λ answer. below_there answer.1;
  };
}
