-- A path to what does not fit is shown: of `x >= 1/4194303` at 1/4194304 what is lacking doesn't fit.
use Rattle.std.proofs.Common.{◌≡◌, ℕ, ◌%◌, [], ◌∷◌, cond, nat_eq, false, ℤ, pos, negsuc, ◌+ℤ◌, ◌*ℤ◌, refl, arith, inr, All, Contains}
use Rattle.std.specs.Prelude.{map}
use Rattle.std.proofs.lemmas.List.Elements.{All-from_recursion, recursion_from_All}
use Rattle.std.proofs.lemmas.Nat.Gcd.{IsGcd-from_mod, IsGcd-from_zero}
use borrow.Author.Differences.{ints}
use Rattle.frac_core.specs.Fraction.{IsKept}
use Rattle.problem_core.specs.declared.parts.Rel.TheVariants.{Ge}
use Rattle.problem_core.specs.declared.parts.Stay.{Stay}
use Rattle.problem_core.specs.declared.stops.What.TheVariants.{Mark as MarkOf}
use Rattle.problem_core.specs.declared.stops.Quantity.TheVariants.{Plain}
use Rattle.problem_core.specs.Layout.{HasStay, IsCovered, Problem, Row, lines, value_at}
use Rattle.problem_core.specs.Kept.{IsRow, IsStay, IsTerm, IsWhole}
use Rattle.problem_core.specs.Corners.{Agree, IsCorner, IsIn, NoNegativeValue, Point, StandsAt, attr_column, equation, marks_of, one_column, place}
use Rattle.problem_core.specs.Unfit.{HasNoWriting}
use Rattle.cert_core.specs.declared.stops.UnfitPath.{UnfitPath}
use Rattle.corner_laws.specs.Examples.{under_row}
use Rattle.corner_laws.proofs.Instances.PathExamples.{alone-in, no, one-value}
use Rattle.corner_laws.proofs.WrittenValues.{value_there}
use Rattle.session_laws.specs.Shown.Shown.{IsUnfitShown}
use Rattle.session_laws.proofs.Showing.PathsAccepted.{alone}

-- ---- the problem

abbrev near_row : Row
near_row = record { id = 1; rank = 1000; weight = 1; rel = Ge; scale = 1; constant = record { num = pos 1; den = 4194303 }; terms = record { attr = 1; by = pos 1 } ∷ [] }

abbrev near_stay : Stay
near_stay = record { attr = 1; target = record { num = pos 1; den = 4194304 } }

abbrev pub near : Problem
near = record { rows = near_row ∷ []; stays = near_stay ∷ [] }

row-constant : IsKept (record { num = pos 1; den = 4194303 })
row-constant = record {
  lowest = record { above = omega arith; coprime = IsGcd-from_mod 1 4194303 1 (IsGcd-from_mod 4194303 1 1 (IsGcd-from_zero 1 (4194303 % 1) (omega arith))) };
  fits = record { num_fits = omega arith; den_fits = omega arith };
}

stay-target : IsKept (record { num = pos 1; den = 4194304 })
stay-target = record {
  lowest = record { above = omega arith; coprime = IsGcd-from_mod 1 4194304 1 (IsGcd-from_mod 4194304 1 1 (IsGcd-from_zero 1 (4194304 % 1) (omega arith))) };
  fits = record { num_fits = omega arith; den_fits = omega arith };
}

near-term : IsTerm (record { attr = 1; by = pos 1 })
near-term = record { attr = (omega arith, omega arith); nonzero = λ e. absurd (omega (arith, ints, e)); small = omega arith }

near-row-kept : IsRow near_row
near-row-kept = record {
  number = (omega arith, omega arith);
  rank = omega arith;
  weight = (omega arith, omega arith);
  scale = (omega arith, omega arith);
  constant = row-constant;
  terms = All-from_recursion IsTerm near_row.terms (near-term, tt);
  rising = λ i j d less within. absurd (omega (arith, less, within));
  count = omega arith;
}

near-whole : IsWhole near
near-whole = record {
  rows = All-from_recursion IsRow near.rows (near-row-kept, tt);
  stays = All-from_recursion IsStay near.stays (record { attr = (omega arith, omega arith); target = stay-target }, tt);
  rising = λ i j d less within. absurd (omega (arith, less, within));
  apart = λ i j d less within. absurd (omega (arith, less, within));
  covered = All-from_recursion (IsCovered near.stays) near.rows (All-from_recursion (λ t. HasStay near.stays t.attr) near_row.terms ((0, near_stay, omega arith, refl, refl), tt), tt);
  row_count = omega arith;
  stay_count = omega arith;
}

-- ---- the corner at which the row's under mark is inside: x is 1/4194304, and 1/17592181850112 is lacking

abbrev near_num : ℕ → ℤ
near_num v = cond (nat_eq v 4) (pos 1) (cond (nat_eq v (attr_column 1)) (pos 4194303) (cond (nat_eq v one_column) (pos 17592181850112) (pos 0)))

abbrev near_point : Point
near_point = record { num = near_num; positive = record { lt = tt } }

near-stands : StandsAt near (under_row ∷ []) near_point
near-stands = (
  All-from_recursion (λ l. value_at near_num (equation l) ≡ pos 0) (lines near) (refl, (refl, tt)),
  All-from_recursion (λ m. (IsIn (place m) (under_row ∷ []) → ⊥) → near_num (place m) ≡ pos 0) (marks_of (lines near)) (λ o. absurd (o (0, omega arith, refl)), (λ o. refl, (λ o. refl, (λ o. refl, tt)))),
)

near-eqs : (x : Point) → All (λ l. value_at x.num (equation l) ≡ pos 0) (lines near)
    → (pos 4194303 *ℤ x.num 4 +ℤ (negsuc 4194302 *ℤ x.num 5 +ℤ (negsuc 0 *ℤ x.num one_column +ℤ (pos 4194303 *ℤ x.num (attr_column 1) +ℤ pos 0))) ≡ pos 0)
    × (pos 4194304 *ℤ x.num 6 +ℤ (negsuc 4194303 *ℤ x.num 7 +ℤ (negsuc 0 *ℤ x.num one_column +ℤ (pos 4194304 *ℤ x.num (attr_column 1) +ℤ pos 0))) ≡ pos 0)
near-eqs x h = let e = recursion_from_All (λ l. value_at x.num (equation l) ≡ pos 0) (lines near) h in (e.0, e.1.0)

solve : (u o p q one a : ℤ) → o ≡ pos 0 → p ≡ pos 0 → q ≡ pos 0
    → pos 4194303 *ℤ u +ℤ (negsuc 4194302 *ℤ o +ℤ (negsuc 0 *ℤ one +ℤ (pos 4194303 *ℤ a +ℤ pos 0))) ≡ pos 0
    → pos 4194304 *ℤ p +ℤ (negsuc 4194303 *ℤ q +ℤ (negsuc 0 *ℤ one +ℤ (pos 4194304 *ℤ a +ℤ pos 0))) ≡ pos 0
    → (pos 1 *ℤ one ≡ u *ℤ pos 17592181850112) × (pos 0 *ℤ one ≡ o *ℤ pos 17592181850112) × (pos 0 *ℤ one ≡ p *ℤ pos 17592181850112) × (pos 0 *ℤ one ≡ q *ℤ pos 17592181850112) × (pos 4194303 *ℤ one ≡ a *ℤ pos 17592181850112)
solve u o p q one a e f g h k = (omega (arith, ints, e, f, g, h, k), omega (arith, ints, e), omega (arith, ints, f), omega (arith, ints, g), omega (arith, ints, f, g, k))

near-agree : (y : Point) → StandsAt near (under_row ∷ []) y → Agree 4 near_point y × Agree 5 near_point y × Agree 6 near_point y × Agree 7 near_point y × Agree (attr_column 1) near_point y
near-agree y h =
    let z = recursion_from_All (λ n. (IsIn (place n) (under_row ∷ []) → ⊥) → y.num (place n) ≡ pos 0) (marks_of (lines near)) h.1 in
    let e = near-eqs y h.0 in
    solve (y.num 4) (y.num 5) (y.num 6) (y.num 7) (y.num one_column) (y.num (attr_column 1)) (z.1.0 (alone-in under_row 5 (no 5 4 (inr (omega arith))))) (z.1.1.0 (alone-in under_row 6 (no 6 4 (inr (omega arith))))) (z.1.1.1.0 (alone-in under_row 7 (no 7 4 (inr (omega arith))))) e.0 e.1

near-corner : IsCorner near (under_row ∷ [])
near-corner = record {
  count = refl;
  marks = All-from_recursion (λ n. Contains (map place (marks_of (lines near))) (place n)) (under_row ∷ []) ((0, omega arith, refl), tt);
  apart = λ i j d less within. absurd (omega (arith, less, within));
  point = near_point;
  stands = near-stands;
  marks_fixed = λ y h.
      (let a = near-agree y h in
      All-from_recursion (λ n. Agree (place n) near_point y) (marks_of (lines near)) (a.0, (a.1, (a.2, (a.3, tt)))));
  attrs_fixed = λ y h.
      (let a = near-agree y h in
      All-from_recursion (λ s. Agree (attr_column s.attr) near_point y) near.stays (a.4, tt));
}

near-sound : NoNegativeValue near (under_row ∷ [])
near-sound = (near_point, near-stands, one-value under_row near_point (record { le = tt }))

-- ---- what is lacking does not fit

too-small : (n : ℤ) (d : ℕ) → pos d *ℤ pos 1 ≡ n *ℤ pos 17592181850112 → IsKept (record { num = n; den = d }) → ⊥
too-small (pos n) d e k = absurd (omega (arith, ints, e, k.lowest.above, k.fits.den_fits))
too-small (negsuc n) d e k = absurd (omega (arith, ints, e, k.lowest.above))

near-no-writing : HasNoWriting near (under_row ∷ []) (λ x. x (place under_row))
near-no-writing scale form value w a b kept =
    too-small value.num value.den (value_there near (under_row ∷ []) (λ x. x (place under_row)) scale form value.num value.den near_point w near-stands) kept

abbrev pub near_path : UnfitPath
near_path = record { path = record { dual = false; corner = under_row ∷ []; swaps = [] }; quantity = Plain (MarkOf under_row) }

pub near-shown : IsUnfitShown false near [] 0 near_path
near-shown = record {
  whole = near-whole;
  small = record { rows = omega arith; stays = omega arith };
  before = λ k d within. absurd (omega (arith, within));
  ordered = refl;
  stops = (
    refl,
    omega arith,
    (tt, record { corner = near-corner; apart = alone (under_row ∷ []); lawful = near-sound }, ((0, omega arith, refl), near-no-writing)),
  );
}
