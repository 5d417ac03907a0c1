-- An exchange of a dual run: `x >= 5` where the row is over at -5.
use Rattle.std.proofs.Common.{◌≡◌, ◌≢◌, ◌⊎◌, ℕ, zero, suc, true, cond, nat_eq, [], ◌∷◌, ℤ, pos, negsuc, ◌+ℤ◌, ◌-ℤ◌, ◌*ℤ◌, refl, sym, subst, arith, inl, inr, All, ne_eqb}
use Rattle.std.proofs.lemmas.Bool.{cases_eq}
use Rattle.std.proofs.lemmas.List.Elements.{All-from_recursion, recursion_from_All}
use Rattle.std.proofs.lemmas.Nat.Gcd.{dvd_antisymm}
use Rattle.std.proofs.Math.Nat.{one-dvd}
use borrow.Author.Differences.{ints}
use Rattle.problem_core.specs.declared.parts.Side.{Side}
use Rattle.problem_core.specs.declared.parts.Side.TheVariants.{Under, Over}
use Rattle.problem_core.specs.Layout.{coefficient, lines, value_at}
use Rattle.problem_core.specs.Corners.{IsIn, IsWritingOf, attr_column, column, equation, marks_of, one_column, place, place_of}
use Rattle.problem_core.specs.Levels.{IsLevelWriting, alone}
use Rattle.problem_core.specs.Changes.Paths.{IsPath}
use Rattle.problem_core.specs.Rays.{HasRays, IsRay}
use Rattle.corner_laws.specs.Examples.{at_least, over_row, over_stay, single, under_row}
use Rattle.corner_laws.specs.Runs.{IsDualSwap}
use Rattle.corner_laws.specs.Sums.{AreReducedAt}
use Rattle.corner_laws.proofs.RunSteps.DualRuns.{dual_run_is_path}
use Rattle.corner_laws.proofs.MarkWritings.Fits.{one_factor}
use Rattle.corner_laws.proofs.Instances.PathExamples.{alone-in, no, over-sound, over-stands, over_corner, over_no_end, over_point}
use Rattle.corner_laws.proofs.Instances.RatioExamples.{over_form, reduced_over, stay_enters}
use Rattle.corner_laws.proofs.Instances.RunExamples.{single_whole}

-- ---- its writing

form-at : (v : ℕ) → coefficient v over_form ≢ pos 0 → (v ≡ 4) ⊎ ((v ≡ 7) ⊎ (v ≡ 6))
form-at v some =
    elim (cases_eq 4 v) [
      | inl e ↦ inl (sym e)
      | inr n ↦ elim (cases_eq 7 v) [
        | inl e ↦ inr (inl (sym e))
        | inr m ↦ elim (cases_eq 6 v) [
          | inl e ↦ inr (inr (sym e))
          | inr k ↦ absurd (some (rw (ne_eqb 4 v n, ne_eqb 7 v m, ne_eqb 6 v k) refl))
        ]
      ]
    ]

pub over-holds : (u o p q one a : ℤ) → pos 1 *ℤ u +ℤ (negsuc 0 *ℤ o +ℤ (negsuc 4 *ℤ one +ℤ (pos 1 *ℤ a +ℤ pos 0))) ≡ pos 0 → pos 1 *ℤ p +ℤ (negsuc 0 *ℤ q +ℤ (pos 0 *ℤ one +ℤ (pos 1 *ℤ a +ℤ pos 0))) ≡ pos 0
    → pos 1 *ℤ (pos 1 *ℤ o -ℤ (pos 1 *ℤ u +ℤ (pos 1 *ℤ q +ℤ (negsuc 0 *ℤ p +ℤ pos 0)))) ≡ pos 1 *ℤ (negsuc 4 *ℤ one)
over-holds u o p q one a e f = omega (arith, ints, e, f)

over-writing : IsWritingOf (single 5) (over_row ∷ []) (λ x. x 5) 1 over_form (negsuc 4) 1
over-writing = record {
  scale_positive = omega arith;
  den_positive = omega arith;
  outside = λ v some. elim (form-at v some) [
    | inl e ↦ ((0, omega arith, sym e), alone-in over_row v (λ q. omega (arith, e, q)))
    | inr (inl e) ↦ ((3, omega arith, sym e), alone-in over_row v (λ q. omega (arith, e, q)))
    | inr (inr e) ↦ ((2, omega arith, sym e), alone-in over_row v (λ q. omega (arith, e, q)))
  ];
  holds = λ x solves.
      let e = recursion_from_All (λ l. value_at x.num (equation l) ≡ pos 0) (lines (single 5)) solves in
      over-holds (x.num 4) (x.num 5) (x.num 6) (x.num 7) (x.num one_column) (x.num (attr_column 1)) e.0 e.1.0;
  lowest = λ k each whole. one_factor k whole.0 whole.1;
}

-- ---- the levels' costs: no line is needed

pub none-taken : (c : ℤ) → pos 0 *ℤ c +ℤ (pos 0 *ℤ c +ℤ pos 0) ≡ pos 0
none-taken c = omega (arith, ints)

-- what is at the one level where a line stands
first-writing : IsLevelWriting (single 5) (over_row ∷ []) 0 1 (λ name. pos 0) (reduced_over 0)
first-writing = record {
  scale_positive = omega arith;
  cancel = λ v. none-taken (coefficient v (at_least 5).terms);
  columns = columns-first;
  inside_zero = inside-first;
  lowest = λ k h rest. dvd_antisymm h (one-dvd k);
}
  where
    columns-first : (side : Side) → All (λ l. pos l.scale *ℤ reduced_over 0 (place_of l.name side) ≡ column (alone 1 (λ name. pos 0)) side l 0) (lines (single 5))
    columns-first Under = All-from_recursion (λ l. pos l.scale *ℤ reduced_over 0 (place_of l.name Under) ≡ column (alone 1 (λ name. pos 0)) Under l 0) (lines (single 5)) (refl, (refl, tt))
    columns-first Over = All-from_recursion (λ l. pos l.scale *ℤ reduced_over 0 (place_of l.name Over) ≡ column (alone 1 (λ name. pos 0)) Over l 0) (lines (single 5)) (refl, (refl, tt))

    inside-first : (side : Side) → All (λ l. IsIn (place_of l.name side) (over_row ∷ []) → reduced_over 0 (place_of l.name side) ≡ pos 0) (lines (single 5))
    inside-first Under = All-from_recursion (λ l. IsIn (place_of l.name Under) (over_row ∷ []) → reduced_over 0 (place_of l.name Under) ≡ pos 0) (lines (single 5)) ((λ i. absurd (alone-in over_row 4 (no 4 5 (inl (omega arith))) i)), ((λ i. refl), tt))
    inside-first Over = All-from_recursion (λ l. IsIn (place_of l.name Over) (over_row ∷ []) → reduced_over 0 (place_of l.name Over) ≡ pos 0) (lines (single 5)) ((λ i. refl), ((λ i. refl), tt))

stay-writing : IsLevelWriting (single 5) (over_row ∷ []) 1001 1 (λ name. pos 0) (reduced_over 1001)
stay-writing = record {
  scale_positive = omega arith;
  cancel = λ v. none-taken (coefficient v (at_least 5).terms);
  columns = columns-stay;
  inside_zero = inside-stay;
  lowest = λ k h rest. dvd_antisymm h (one-dvd k);
}
  where
    columns-stay : (side : Side) → All (λ l. pos l.scale *ℤ reduced_over 1001 (place_of l.name side) ≡ column (alone 1 (λ name. pos 0)) side l 1001) (lines (single 5))
    columns-stay Under = All-from_recursion (λ l. pos l.scale *ℤ reduced_over 1001 (place_of l.name Under) ≡ column (alone 1 (λ name. pos 0)) Under l 1001) (lines (single 5)) (refl, (refl, tt))
    columns-stay Over = All-from_recursion (λ l. pos l.scale *ℤ reduced_over 1001 (place_of l.name Over) ≡ column (alone 1 (λ name. pos 0)) Over l 1001) (lines (single 5)) (refl, (refl, tt))

    inside-stay : (side : Side) → All (λ l. IsIn (place_of l.name side) (over_row ∷ []) → reduced_over 1001 (place_of l.name side) ≡ pos 0) (lines (single 5))
    inside-stay Under = All-from_recursion (λ l. IsIn (place_of l.name Under) (over_row ∷ []) → reduced_over 1001 (place_of l.name Under) ≡ pos 0) (lines (single 5)) ((λ i. refl), ((λ i. absurd (alone-in over_row 6 (no 6 5 (inr (omega arith))) i)), tt))
    inside-stay Over = All-from_recursion (λ l. IsIn (place_of l.name Over) (over_row ∷ []) → reduced_over 1001 (place_of l.name Over) ≡ pos 0) (lines (single 5)) ((λ i. refl), ((λ i. absurd (alone-in over_row 7 (no 7 5 (inr (omega arith))) i)), tt))

all-levels : (level : ℕ) → AreReducedAt (single 5) (over_row ∷ []) level (reduced_over level)
all-levels level =
    elim (cases_eq level 0) [
      | inl e ↦ subst (λ (k : ℕ). AreReducedAt (single 5) (over_row ∷ []) k (reduced_over k)) (sym e) (inl (1, (λ name. pos 0), first-writing))
      | inr n ↦ elim (cases_eq level 1001) [
        | inl e ↦ subst (λ (k : ℕ). AreReducedAt (single 5) (over_row ∷ []) k (reduced_over k)) (sym e) (inl (1, (λ name. pos 0), stay-writing))
        | inr m ↦ inr (
          All-from_recursion (λ l. l.level ≢ level) (lines (single 5)) ((λ e. n (sym e)), ((λ e. m (sym e)), tt)),
          λ v. rw (ne_eqb level 0 n, ne_eqb level 1001 m) refl,
        )
      ]
    ]

-- ---- the exchange

pub dual_swaps : IsDualSwap (single 5) (over_row ∷ []) (record { enter = over_stay; leave = over_row })
dual_swaps = record {
  no_end = over_no_end;
  mark = (3, omega arith, refl);
  enters = alone-in over_row 7 (no 7 5 (inr (omega arith)));
  leaves = (0, omega arith, refl);
  value = (over_point, over-stands, record { lt = tt });
  leaving = record { scale = 1; form = over_form; num = negsuc 4; den = 1 };
  writes = over-writing;
  reduced = reduced_over;
  levels = all-levels;
  choice = stay_enters;
}

-- what is outside does not leave
pub dual_swaps_not : IsDualSwap (single 5) (over_row ∷ []) (record { enter = over_stay; leave = under_row }) → ⊥
dual_swaps_not h = alone-in over_row 4 (no 4 5 (inl (omega arith))) h.leaves

-- ---- the run

under_grows : ℕ → ℤ
under_grows v = cond (nat_eq v 4) (pos 1) (cond (nat_eq v 5) (pos 1) (pos 0))

-- with the stay's under mark x falls, and so does the row's over mark
stay_falls : ℕ → ℤ
stay_falls v = cond (nat_eq v 6) (pos 1) (cond (nat_eq v (attr_column 1)) (negsuc 0) (cond (nat_eq v 5) (negsuc 0) (pos 0)))

stay_rises : ℕ → ℤ
stay_rises v = cond (nat_eq v 7) (pos 1) (cond (nat_eq v (attr_column 1)) (pos 1) (cond (nat_eq v 5) (pos 1) (pos 0)))

first-ray : IsRay (single 5) (over_row ∷ []) 4 under_grows
unfolding under_grows
first-ray = record {
  holds = All-from_recursion (λ l. value_at under_grows (equation l) ≡ pos 0) (lines (single 5)) (refl, (refl, tt));
  still = refl;
  here = record { lt = tt };
  other = All-from_recursion (λ m. (IsIn (place m) (over_row ∷ []) → ⊥) → place m ≢ 4 → under_grows (place m) ≡ pos 0) (marks_of (lines (single 5)))
      ((λ out ne. absurd (ne refl)), ((λ out ne. absurd (out (0, omega arith, refl))), ((λ out ne. refl), ((λ out ne. refl), tt))));
}

second-ray : IsRay (single 5) (over_row ∷ []) 6 stay_falls
unfolding stay_falls
second-ray = record {
  holds = All-from_recursion (λ l. value_at stay_falls (equation l) ≡ pos 0) (lines (single 5)) (refl, (refl, tt));
  still = refl;
  here = record { lt = tt };
  other = All-from_recursion (λ m. (IsIn (place m) (over_row ∷ []) → ⊥) → place m ≢ 6 → stay_falls (place m) ≡ pos 0) (marks_of (lines (single 5)))
      ((λ out ne. refl), ((λ out ne. absurd (out (0, omega arith, refl))), ((λ out ne. absurd (ne refl)), ((λ out ne. refl), tt))));
}

third-ray : IsRay (single 5) (over_row ∷ []) 7 stay_rises
unfolding stay_rises
third-ray = record {
  holds = All-from_recursion (λ l. value_at stay_rises (equation l) ≡ pos 0) (lines (single 5)) (refl, (refl, tt));
  still = refl;
  here = record { lt = tt };
  other = All-from_recursion (λ m. (IsIn (place m) (over_row ∷ []) → ⊥) → place m ≢ 7 → stay_rises (place m) ≡ pos 0) (marks_of (lines (single 5)))
      ((λ out ne. refl), ((λ out ne. absurd (out (0, omega arith, refl))), ((λ out ne. refl), ((λ out ne. absurd (ne refl)), tt))));
}

over_rays : HasRays (single 5) (over_row ∷ [])
over_rays c (zero, within, is) out = (under_grows, subst (λ (v : ℕ). IsRay (single 5) (over_row ∷ []) v under_grows) is first-ray)
over_rays c (suc zero, within, is) out = absurd (out (0, omega arith, is))
over_rays c (suc (suc zero), within, is) out = (stay_falls, subst (λ (v : ℕ). IsRay (single 5) (over_row ∷ []) v stay_falls) is second-ray)
over_rays c (suc (suc (suc zero)), within, is) out = (stay_rises, subst (λ (v : ℕ). IsRay (single 5) (over_row ∷ []) v stay_rises) is third-ray)
over_rays c (suc (suc (suc (suc k))), within, is) out = absurd (omega (arith, within))

-- its one exchange is a lawful path
pub dual_run_there : IsPath true (single 5) (over_row ∷ []) (record { enter = over_stay; leave = over_row } ∷ [])
dual_run_there = dual_run_is_path (single 5) (over_row ∷ []) (record { enter = over_stay; leave = over_row } ∷ []) single_whole over_corner over_rays over-sound (dual_swaps, tt)
