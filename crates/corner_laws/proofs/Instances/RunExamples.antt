-- A problem, a corner and its rays that the laws speak of: `x >= 5` where x is 0, from which a run makes one exchange.
use Rattle.std.proofs.Common.{◌≡◌, ◌≢◌, ℕ, zero, suc, false, cond, nat_eq, [], ◌∷◌, ℤ, pos, negsuc, ◌+ℤ◌, ◌*ℤ◌, ◌<ℤ◌, refl, subst, arith, inr}
use Rattle.std.proofs.lemmas.List.Elements.{All-from_recursion, recursion_from_All}
use borrow.Author.Differences.{ints}
use Rattle.problem_core.specs.Layout.{HasStay, IsCovered, lines, value_at}
use Rattle.problem_core.specs.Kept.{IsRow, IsStay, IsTerm, IsWhole}
use Rattle.problem_core.specs.Corners.{IsIn, Point, StandsAt, equation, marks_of, one_column, place, attr_column}
use Rattle.problem_core.specs.Changes.Paths.{IsPath}
use Rattle.problem_core.specs.Rays.{HasRays, IsRay}
use Rattle.corner_laws.specs.Examples.{at_least, over_row, over_stay, single, under_row}
use Rattle.corner_laws.specs.Laws.{IsFixedAt, IsLinear}
use Rattle.corner_laws.proofs.Instances.ChoiceExamples.{run_begins}
use Rattle.corner_laws.proofs.MarkWritings.Fits.{whole_is_kept}
use Rattle.corner_laws.proofs.LevelCosts.LevelExists.{level_writing_exists}
use Rattle.corner_laws.proofs.MarkWritings.LowestForms.{marks_are_fixed}
use Rattle.corner_laws.proofs.Instances.PathExamples.{no, under-sound, under_corner, under_num}
use Rattle.corner_laws.proofs.RunSteps.RunPaths.{run_is_path}
use Rattle.problem_core.specs.Levels.{IsLevelWriting}
use Rattle.problem_core.specs.declared.parts.RowName.{RowName}

-- ---- the problem

single_term : IsTerm (record { attr = 1; by = pos 1 })
single_term = record { attr = (omega arith, omega arith); nonzero = λ e. absurd (omega (arith, ints, e)); small = omega arith }

single_row : IsRow (at_least 5)
single_row = record {
  number = (omega arith, omega arith);
  rank = omega arith;
  weight = (omega arith, omega arith);
  scale = (omega arith, omega arith);
  constant = whole_is_kept 5 (omega arith);
  terms = All-from_recursion IsTerm (at_least 5).terms (single_term, tt);
  rising = λ i j d less within. absurd (omega (arith, less, within));
  count = omega arith;
}

pub single_whole : IsWhole (single 5)
single_whole = record {
  rows = All-from_recursion IsRow (single 5).rows (single_row, tt);
  stays = All-from_recursion IsStay (single 5).stays (record { attr = (omega arith, omega arith); target = whole_is_kept 0 (omega arith) }, tt);
  rising = λ i j d less within. absurd (omega (arith, less, within));
  apart = λ i j d less within. absurd (omega (arith, less, within));
  covered = All-from_recursion (IsCovered (single 5).stays) (single 5).rows
      (All-from_recursion (λ t. HasStay (single 5).stays t.attr) (at_least 5).terms ((0, record { attr = 1; target = record { num = pos 0; den = 1 } }, omega arith, refl, refl), tt), tt);
  row_count = omega arith;
  stay_count = omega arith;
}

-- ---- its rays

-- x grows where the stay's over mark does, and the row's under mark falls
abbrev pub rising_ray : ℕ → ℤ
rising_ray v = cond (nat_eq v 7) (pos 1) (cond (nat_eq v (attr_column 1)) (pos 1) (cond (nat_eq v 4) (negsuc 0) (pos 0)))

abbrev falling_ray : ℕ → ℤ
falling_ray v = cond (nat_eq v 6) (pos 1) (cond (nat_eq v (attr_column 1)) (negsuc 0) (cond (nat_eq v 4) (pos 1) (pos 0)))

-- both of the row's marks grow
abbrev both_ray : ℕ → ℤ
both_ray v = cond (nat_eq v 5) (pos 1) (cond (nat_eq v 4) (pos 1) (pos 0))

pub rises : IsRay (single 5) (under_row ∷ []) 7 rising_ray
rises = record {
  holds = All-from_recursion (λ l. value_at rising_ray (equation l) ≡ pos 0) (lines (single 5)) (refl, (refl, tt));
  still = refl;
  here = record { lt = tt };
  other = All-from_recursion (λ m. (IsIn (place m) (under_row ∷ []) → ⊥) → place m ≢ 7 → rising_ray (place m) ≡ pos 0) (marks_of (lines (single 5)))
      ((λ out ne. absurd (out (0, omega arith, refl))), ((λ out ne. refl), ((λ out ne. refl), ((λ out ne. absurd (ne refl)), tt))));
}

falls : IsRay (single 5) (under_row ∷ []) 6 falling_ray
falls = record {
  holds = All-from_recursion (λ l. value_at falling_ray (equation l) ≡ pos 0) (lines (single 5)) (refl, (refl, tt));
  still = refl;
  here = record { lt = tt };
  other = All-from_recursion (λ m. (IsIn (place m) (under_row ∷ []) → ⊥) → place m ≢ 6 → falling_ray (place m) ≡ pos 0) (marks_of (lines (single 5)))
      ((λ out ne. absurd (out (0, omega arith, refl))), ((λ out ne. refl), ((λ out ne. absurd (ne refl)), ((λ out ne. refl), tt))));
}

both_grow : IsRay (single 5) (under_row ∷ []) 5 both_ray
both_grow = record {
  holds = All-from_recursion (λ l. value_at both_ray (equation l) ≡ pos 0) (lines (single 5)) (refl, (refl, tt));
  still = refl;
  here = record { lt = tt };
  other = All-from_recursion (λ m. (IsIn (place m) (under_row ∷ []) → ⊥) → place m ≢ 5 → both_ray (place m) ≡ pos 0) (marks_of (lines (single 5)))
      ((λ out ne. absurd (out (0, omega arith, refl))), ((λ out ne. absurd (ne refl)), ((λ out ne. refl), ((λ out ne. refl), tt))));
}

pub has_rays : HasRays (single 5) (under_row ∷ [])
has_rays c (zero, within, is) out = absurd (out (0, omega arith, is))
has_rays c (suc zero, within, is) out = (both_ray, subst (λ (v : ℕ). IsRay (single 5) (under_row ∷ []) v both_ray) is both_grow)
has_rays c (suc (suc zero), within, is) out = (falling_ray, subst (λ (v : ℕ). IsRay (single 5) (under_row ∷ []) v falling_ray) is falls)
has_rays c (suc (suc (suc zero)), within, is) out = (rising_ray, subst (λ (v : ℕ). IsRay (single 5) (under_row ∷ []) v rising_ray) is rises)
has_rays c (suc (suc (suc (suc k))), within, is) out = absurd (omega (arith, within))

none-moves : (u o p q one a : ℤ) → o ≡ pos 0 → p ≡ pos 0 → q ≡ pos 0 → one ≡ pos 0
    → pos 1 *ℤ u +ℤ (negsuc 0 *ℤ o +ℤ (negsuc 4 *ℤ one +ℤ (pos 1 *ℤ a +ℤ pos 0))) ≡ pos 0
    → pos 1 *ℤ p +ℤ (negsuc 0 *ℤ q +ℤ (pos 0 *ℤ one +ℤ (pos 1 *ℤ a +ℤ pos 0))) ≡ pos 0
    → pos 0 <ℤ u → ⊥
none-moves u o p q one a e f g h k l up = absurd (omega (arith, ints, e, f, g, h, k, l, up))

-- with no mark inside none can grow alone
pub no_rays : HasRays (single 5) [] → ⊥
no_rays rays =
    let r = rays 4 (0, omega arith, refl) (λ i. none i) in
    let z = recursion_from_All (λ m. (IsIn (place m) [] → ⊥) → place m ≢ 4 → r.0 (place m) ≡ pos 0) (marks_of (lines (single 5))) r.1.other in
    let e = recursion_from_All (λ l. value_at r.0 (equation l) ≡ pos 0) (lines (single 5)) r.1.holds in
    none-moves (r.0 4) (r.0 5) (r.0 6) (r.0 7) (r.0 one_column) (r.0 (attr_column 1)) (z.1.0 (λ i. none i) (no 5 4 (inr (omega arith)))) (z.1.1.0 (λ i. none i) (no 6 4 (inr (omega arith)))) (z.1.1.1.0 (λ i. none i) (no 7 4 (inr (omega arith)))) r.1.still e.0 e.1.0 r.1.here
  where
    none : {c : ℕ} → IsIn c [] → ⊥
    none {c} (k, within, is) = absurd (omega (arith, within))

-- ---- what the laws give there

-- the run of one exchange is a lawful path
pub run_there : IsPath false (single 5) (under_row ∷ []) (record { enter = over_stay; leave = under_row } ∷ [])
run_there = run_is_path (single 5) (under_row ∷ []) (record { enter = over_stay; leave = under_row } ∷ []) single_whole under_corner has_rays under-sound (run_begins, tt)

-- the required level has a writing
pub level_there : (scale : ℕ) × (times : RowName → ℤ) × (reduced : ℕ → ℤ) × IsLevelWriting (single 5) (under_row ∷ []) 0 scale times reduced
level_there = level_writing_exists (single 5) (under_row ∷ []) 0 single_whole under_corner has_rays

-- ---- quantities

pub value_is_linear : IsLinear (λ x. x 4)
value_is_linear a b x y = refl

pub product_is_not : IsLinear (λ x. x 4 *ℤ x 5) → ⊥
product_is_not linear = let e : (pos 1 *ℤ pos 1 +ℤ pos 1 *ℤ pos 1) *ℤ (pos 1 *ℤ pos 1 +ℤ pos 1 *ℤ pos 1) ≡ pos 1 *ℤ (pos 1 *ℤ pos 1) +ℤ pos 1 *ℤ (pos 1 *ℤ pos 1) = linear (pos 1) (pos 1) (λ v. pos 1) (λ v. pos 1) in absurd (omega (arith, ints, e))

pub under_is_fixed : IsFixedAt (single 5) (under_row ∷ []) (λ x. x 4)
under_is_fixed = marks_are_fixed (single 5) (under_row ∷ []) 4 under_corner (0, omega arith, refl)

abbrev high_num : ℕ → ℤ
high_num v = cond (nat_eq v 4) (pos 6) (cond (nat_eq v 5) (pos 1) (cond (nat_eq v one_column) (pos 1) (pos 0)))

abbrev low_point : Point
low_point = record { num = under_num; positive = record { lt = tt } }

abbrev high_point : Point
high_point = record { num = high_num; positive = record { lt = tt } }

low-stands : StandsAt (single 5) (under_row ∷ over_row ∷ []) low_point
low-stands = (
  All-from_recursion (λ l. value_at under_num (equation l) ≡ pos 0) (lines (single 5)) (refl, (refl, tt)),
  All-from_recursion (λ m. (IsIn (place m) (under_row ∷ over_row ∷ []) → ⊥) → under_num (place m) ≡ pos 0) (marks_of (lines (single 5))) (λ o. absurd (o (0, omega arith, refl)), (λ o. refl, (λ o. refl, (λ o. refl, tt)))),
)

high-stands : StandsAt (single 5) (under_row ∷ over_row ∷ []) high_point
high-stands = (
  All-from_recursion (λ l. value_at high_num (equation l) ≡ pos 0) (lines (single 5)) (refl, (refl, tt)),
  All-from_recursion (λ m. (IsIn (place m) (under_row ∷ over_row ∷ []) → ⊥) → high_num (place m) ≡ pos 0) (marks_of (lines (single 5))) (λ o. absurd (o (0, omega arith, refl)), (λ o. absurd (o (1, omega arith, refl)), (λ o. refl, (λ o. refl, tt)))),
)

pub under_is_not_fixed : IsFixedAt (single 5) (under_row ∷ over_row ∷ []) (λ x. x 4) → ⊥
under_is_not_fixed fixed = let e : pos 5 *ℤ pos 1 ≡ pos 6 *ℤ pos 1 = fixed low_point high_point low-stands high-stands in absurd (omega (arith, ints, e))
