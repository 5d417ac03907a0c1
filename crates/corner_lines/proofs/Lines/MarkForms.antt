-- Sums of lines as forms of marks: their coefficients and their values.
use Rattle.std.proofs.Common.{◌≡◌, ◌≢◌, ◌∙◌, ℕ, cond, nat_eq, List, [], ◌∷◌, ℤ, pos, negsuc, ◌+ℤ◌, ◌-ℤ◌, ◌*ℤ◌, neg_ℤ, refl, sym, ap, ap₂, subst, arith, inl, inr}
use Rattle.std.specs.List.{AllByRecursion as Each}
use Rattle.std.proofs.lemmas.Bool.{cases_eq}
use borrow.Author.Differences.{ints}
use Rattle.frac_core.proofs.Integers.{mul-sub_left, zero-add_ℤ}
use Rattle.problem_core.specs.declared.parts.RowName.{RowName}
use Rattle.problem_core.specs.declared.parts.RowName.TheVariants.{Held, Stay as StayOf}
use Rattle.problem_core.specs.declared.parts.Side.{Side}
use Rattle.problem_core.specs.declared.parts.Side.TheVariants.{Under, Over}
use Rattle.problem_core.specs.Layout.{Line, coefficient, sum_of, value_at}
use Rattle.problem_core.specs.Corners.{place_of}
use Rattle.problem_core.proofs.Forms.{each-impl}
use Rattle.corner_laws.proofs.Counting.{sides_apart}
use Rattle.corner_laws.proofs.LinePlaces.{AllApart, AreApart}
use Rattle.corner_lines.specs.LineEquations.{deviation, mark_form, sign_of}
use Rattle.frac_core.proofs.Numbers.{as-one-times as one-times, neg-times}
use Rattle.frac_core.proofs.Bools.{count-other as cond_other, count-same as cond_same}

-- ---- places name lines

pub same-name : (a b : RowName) (s t : Side) → place_of a s ≡ place_of b t → a ≡ b
same-name (Held i) (Held j) Under Under e = ap Held (omega (arith, e))
same-name (Held i) (Held j) Under Over e = absurd (omega (arith, e))
same-name (Held i) (Held j) Over Under e = absurd (omega (arith, e))
same-name (Held i) (Held j) Over Over e = ap Held (omega (arith, e))
same-name (Held i) (StayOf j) Under Under e = absurd (omega (arith, e))
same-name (Held i) (StayOf j) Under Over e = absurd (omega (arith, e))
same-name (Held i) (StayOf j) Over Under e = absurd (omega (arith, e))
same-name (Held i) (StayOf j) Over Over e = absurd (omega (arith, e))
same-name (StayOf i) (Held j) Under Under e = absurd (omega (arith, e))
same-name (StayOf i) (Held j) Under Over e = absurd (omega (arith, e))
same-name (StayOf i) (Held j) Over Under e = absurd (omega (arith, e))
same-name (StayOf i) (Held j) Over Over e = absurd (omega (arith, e))
same-name (StayOf i) (StayOf j) Under Under e = ap StayOf (omega (arith, e))
same-name (StayOf i) (StayOf j) Under Over e = absurd (omega (arith, e))
same-name (StayOf i) (StayOf j) Over Under e = absurd (omega (arith, e))
same-name (StayOf i) (StayOf j) Over Over e = ap StayOf (omega (arith, e))

-- ---- coefficients

no-other : (v a b : ℕ) (k z : ℤ) → a ≢ v → b ≢ v → cond (nat_eq a v) k (pos 0) +ℤ (cond (nat_eq b v) (neg_ℤ k) (pos 0) +ℤ z) ≡ z
no-other v a b k z n m = ap₂ (λ (s t : ℤ). s +ℤ (t +ℤ z)) (cond_other a v k n) (cond_other b v (neg_ℤ k) m) ∙ zero-add_ℤ (pos 0 +ℤ z) ∙ zero-add_ℤ z

first-there : (v a b : ℕ) (k z : ℤ) → a ≡ v → b ≢ v → z ≡ pos 0 → cond (nat_eq a v) k (pos 0) +ℤ (cond (nat_eq b v) (neg_ℤ k) (pos 0) +ℤ z) ≡ k
first-there v a b k z e m none = ap₂ (λ (s t : ℤ). s +ℤ (t +ℤ z)) (cond_same a v k e) (cond_other b v (neg_ℤ k) m) ∙ omega (arith, ints, none)

second-there : (v a b : ℕ) (k z : ℤ) → a ≢ v → b ≡ v → z ≡ pos 0 → cond (nat_eq a v) k (pos 0) +ℤ (cond (nat_eq b v) (neg_ℤ k) (pos 0) +ℤ z) ≡ neg_ℤ k
second-there v a b k z n e none = ap₂ (λ (s t : ℤ). s +ℤ (t +ℤ z)) (cond_other a v k n) (cond_same b v (neg_ℤ k) e) ∙ omega (arith, ints, none)

-- where no line has a mark there is no coefficient
pub none-there : (by : RowName → ℤ) (v : ℕ) (ls : List Line) → Each (λ l. (place_of l.name Over ≢ v) × (place_of l.name Under ≢ v)) ls → coefficient v (mark_form by ls) ≡ pos 0
none-there by v [] h = refl
none-there by v (l ∷ ls) h =
    no-other v (place_of l.name Over) (place_of l.name Under) (by l.name) (coefficient v (mark_form by ls)) h.0.0 h.0.1 ∙ none-there by v ls h.1

over-rest : (by : RowName → ℤ) (l : Line) (ls : List Line) → Each (AreApart l) ls → coefficient (place_of l.name Over) (mark_form by ls) ≡ pos 0
over-rest by l ls apart = none-there by (place_of l.name Over) ls (each-impl (AreApart l) _ ls (λ k a. ((λ e. a.over_over (sym e)), (λ e. a.over_under (sym e)))) apart)

under-rest : (by : RowName → ℤ) (l : Line) (ls : List Line) → Each (AreApart l) ls → coefficient (place_of l.name Under) (mark_form by ls) ≡ pos 0
under-rest by l ls apart = none-there by (place_of l.name Under) ls (each-impl (AreApart l) _ ls (λ k a. ((λ e. a.under_over (sym e)), (λ e. a.under_under (sym e)))) apart)

at-over : (by : RowName → ℤ) (l : Line) (ls : List Line) → Each (AreApart l) ls → coefficient (place_of l.name Over) (mark_form by (l ∷ ls)) ≡ by l.name
at-over by l ls apart =
    first-there (place_of l.name Over) (place_of l.name Over) (place_of l.name Under) (by l.name) (coefficient (place_of l.name Over) (mark_form by ls)) refl (λ e. sides_apart l.name l.name (sym e)) (over-rest by l ls apart)

at-under : (by : RowName → ℤ) (l : Line) (ls : List Line) → Each (AreApart l) ls → coefficient (place_of l.name Under) (mark_form by (l ∷ ls)) ≡ neg_ℤ (by l.name)
at-under by l ls apart =
    second-there (place_of l.name Under) (place_of l.name Over) (place_of l.name Under) (by l.name) (coefficient (place_of l.name Under) (mark_form by ls)) (sides_apart l.name l.name) refl (under-rest by l ls apart)

-- what holds at 0, and of each line's number at its two marks, holds of each coefficient
pub by-places : (P : ℕ → ℤ → Type 0) (by : RowName → ℤ) (ls : List Line) → AllApart ls → ((v : ℕ) → P v (pos 0)) → Each (λ l. P (place_of l.name Over) (by l.name) × P (place_of l.name Under) (neg_ℤ (by l.name))) ls → (v : ℕ) → P v (coefficient v (mark_form by ls))
by-places P by [] apart none h v = none v
by-places P by (l ∷ ls) apart none h v =
    elim (cases_eq (place_of l.name Over) v) [
      | inl e ↦ subst (λ (c : ℕ). P c (coefficient c (mark_form by (l ∷ ls)))) e (subst (P (place_of l.name Over)) (sym (at-over by l ls apart.0)) h.0.0)
      | inr n ↦ elim (cases_eq (place_of l.name Under) v) [
        | inl e ↦ subst (λ (c : ℕ). P c (coefficient c (mark_form by (l ∷ ls)))) e (subst (P (place_of l.name Under)) (sym (at-under by l ls apart.0)) h.0.1)
        | inr m ↦ subst (P v) (sym (no-other v (place_of l.name Over) (place_of l.name Under) (by l.name) (coefficient v (mark_form by ls)) n m)) (by-places P by ls apart.1 none h.1 v)
      ]
    ]

minus-one : (z : ℤ) → neg_ℤ z ≡ negsuc 0 *ℤ z
minus-one z = omega (arith, ints)

later : (by : RowName → ℤ) (l k : Line) (side : Side) (ls : List Line) → AreApart l k → coefficient (place_of k.name side) (mark_form by ls) ≡ sign_of side *ℤ by k.name → coefficient (place_of k.name side) (mark_form by (l ∷ ls)) ≡ sign_of side *ℤ by k.name
later by l k Under ls a h = no-other (place_of k.name Under) (place_of l.name Over) (place_of l.name Under) (by l.name) (coefficient (place_of k.name Under) (mark_form by ls)) a.over_under a.under_under ∙ h
later by l k Over ls a h = no-other (place_of k.name Over) (place_of l.name Over) (place_of l.name Under) (by l.name) (coefficient (place_of k.name Over) (mark_form by ls)) a.over_over a.under_over ∙ h

first : (by : RowName → ℤ) (side : Side) (l : Line) (ls : List Line) → Each (AreApart l) ls → coefficient (place_of l.name side) (mark_form by (l ∷ ls)) ≡ sign_of side *ℤ by l.name
first by Under l ls apart = at-under by l ls apart ∙ minus-one (by l.name)
first by Over l ls apart = at-over by l ls apart ∙ one-times (by l.name)

-- a line's number with the side's sign at each of its marks
pub each-coefficient : (by : RowName → ℤ) (side : Side) (ls : List Line) → AllApart ls → Each (λ l. coefficient (place_of l.name side) (mark_form by ls) ≡ sign_of side *ℤ by l.name) ls
each-coefficient by side [] apart = tt
each-coefficient by side (l ∷ ls) apart = (
  first by side l ls apart.0,
  both-impl l ls apart.0 (each-coefficient by side ls apart.1),
)
  where
    both-impl : (l : Line) (ks : List Line) → Each (AreApart l) ks → Each (λ k. coefficient (place_of k.name side) (mark_form by ls) ≡ sign_of side *ℤ by k.name) ks → Each (λ k. coefficient (place_of k.name side) (mark_form by (l ∷ ls)) ≡ sign_of side *ℤ by k.name) ks
    both-impl l [] a h = tt
    both-impl l (k ∷ ks) a h = (later by l k side ls a.0 h.0, both-impl l ks a.1 h.1)

-- ---- values

two-marks : (k o u z : ℤ) → k *ℤ o +ℤ (neg_ℤ k *ℤ u +ℤ z) ≡ k *ℤ (o -ℤ u) +ℤ z
two-marks k o u z = let a = mul-sub_left k o u in let b = neg-times k u in omega (arith, ints, a, b)

pub form-value : (by : RowName → ℤ) (x : ℕ → ℤ) (ls : List Line) → value_at x (mark_form by ls) ≡ sum_of (λ l. by l.name *ℤ deviation l.name x) ls
form-value by x [] = refl
form-value by x (l ∷ ls) =
    two-marks (by l.name) (x (place_of l.name Over)) (x (place_of l.name Under)) (value_at x (mark_form by ls))
    ∙ ap (λ (z : ℤ). by l.name *ℤ deviation l.name x +ℤ z) (form-value by x ls)
