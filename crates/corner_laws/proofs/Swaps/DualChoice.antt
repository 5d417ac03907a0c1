-- The dual ratio rule by the writings of the leaving mark and of the levels' costs.
use Rattle.std.proofs.Common.{◌≡◌, ◌≢◌, ◌∙◌, ℕ, ◌*◌, List, ℤ, pos, ◌+ℤ◌, ◌-ℤ◌, ◌*ℤ◌, neg_ℤ, ◌<ℤ◌, sym, ap, subst, arith, inl, inr, All}
use Rattle.std.proofs.lemmas.Bool.{cases_eq}
use Rattle.std.proofs.lemmas.List.Elements.{All-from_recursion, recursion_from_All}
use borrow.Author.Differences.{ints}
use Rattle.frac_core.proofs.Integers.{mul-zero_ℤ, zero-mul_ℤ}
use Rattle.problem_core.specs.declared.parts.Mark.{Mark}
use Rattle.problem_core.specs.declared.parts.Side.{Side}
use Rattle.problem_core.specs.declared.parts.Side.TheVariants.{Under, Over}
use Rattle.problem_core.specs.declared.parts.RowName.{RowName}
use Rattle.problem_core.specs.declared.parts.Term.{Term}
use Rattle.problem_core.specs.Layout.{Problem, coefficient, lines}
use Rattle.problem_core.specs.Kept.{IsWhole}
use Rattle.problem_core.specs.Certificates.{IsLexNonnegative, under_weight, over_weight, weight_at}
use Rattle.problem_core.specs.Corners.{IsCorner, IsIn, NoNegativeColumn, Swap, column, exchanged, place, place_of}
use Rattle.problem_core.proofs.Forms.{each-impl, sum-zero}
use Rattle.corner_laws.specs.Laws.{IsMarkAt}
use Rattle.problem_core.specs.Levels.{alone}
use Rattle.problem_core.specs.Rays.{HasRays}
use Rattle.corner_laws.specs.Sums.{AreReducedAt, IsDualChoice, IsLevelSum}
use Rattle.problem_core.specs.Unfit.{IsWritingOf}
use Rattle.corner_laws.proofs.Swaps.ColumnsStay.{columns_stay, lex_same}
use Rattle.corner_laws.proofs.MarkWritings.Directions.{each-of, writing_is_row}
use Rattle.frac_core.proofs.Products.{above_zero as positive-pos}
use Rattle.corner_laws.proofs.LevelCosts.Equal.{writing-sum as writing-IsLevelSum}
use Rattle.frac_core.proofs.Numbers.{neg-times}
use Rattle.problem_core.proofs.Lines.{under-none, over-none, weight-none as no_weight}

-- ---- the levels

no-reduced : (k : ℕ) (r : ℤ) (w : ℕ) → r ≡ pos 0 → w ≡ 0 → pos k *ℤ r ≡ pos (1 * w) -ℤ pos k *ℤ pos 0
no-reduced k r w e f =
    let a : pos k *ℤ r ≡ pos 0 = ap (λ (z : ℤ). pos k *ℤ z) e ∙ mul-zero_ℤ (pos k) in
    let b = mul-zero_ℤ (pos k) in
    let c : 1 * w ≡ 0 = omega (arith, f) in
    omega (arith, ints, a, b, c)

no-reduced-over : (k : ℕ) (r : ℤ) (w : ℕ) → r ≡ pos 0 → w ≡ 0 → pos k *ℤ r ≡ pos (1 * w) +ℤ pos k *ℤ pos 0
no-reduced-over k r w e f =
    let a : pos k *ℤ r ≡ pos 0 = ap (λ (z : ℤ). pos k *ℤ z) e ∙ mul-zero_ℤ (pos k) in
    let b = mul-zero_ℤ (pos k) in
    let c : 1 * w ≡ 0 = omega (arith, f) in
    omega (arith, ints, a, b, c)

unused-columns : (p : Problem) (level : ℕ) (reduced : ℕ → ℤ) → All (λ l. l.level ≢ level) (lines p) → ((v : ℕ) → reduced v ≡ pos 0) → (side : Side) → All (λ l. pos l.scale *ℤ reduced (place_of l.name side) ≡ column (alone 1 (λ name. pos 0)) side l level) (lines p)
unused-columns p level reduced unused none Under =
    All-from_recursion (λ l. pos l.scale *ℤ reduced (place_of l.name Under) ≡ column (alone 1 (λ name. pos 0)) Under l level) (lines p)
    (each-impl (λ l. l.level ≢ level) _ (lines p) (λ l ne. no-reduced l.scale (reduced (place_of l.name Under)) (under_weight l.rel (weight_at l level)) (none (place_of l.name Under)) (ap (under_weight l.rel) (no_weight l level ne) ∙ under-none l.rel)) (recursion_from_All _ (lines p) unused))
unused-columns p level reduced unused none Over =
    All-from_recursion (λ l. pos l.scale *ℤ reduced (place_of l.name Over) ≡ column (alone 1 (λ name. pos 0)) Over l level) (lines p)
    (each-impl (λ l. l.level ≢ level) _ (lines p) (λ l ne. no-reduced-over l.scale (reduced (place_of l.name Over)) (over_weight l.rel (weight_at l level)) (none (place_of l.name Over)) (ap (over_weight l.rel) (no_weight l level ne) ∙ over-none l.rel)) (recursion_from_All _ (lines p) unused))

-- a level at which no line stands
pub unused-IsLevelSum : (p : Problem) (at : List Mark) (level : ℕ) (reduced : ℕ → ℤ) → All (λ l. l.level ≢ level) (lines p) → ((v : ℕ) → reduced v ≡ pos 0) → IsLevelSum p at level 1 (λ name. pos 0) reduced
unused-IsLevelSum p at level reduced unused none = record {
  scale_positive = omega arith;
  cancel = λ v. sum-zero (λ l. pos 0 *ℤ coefficient v l.form) (lines p) (each-of (λ l. pos 0 *ℤ coefficient v l.form ≡ pos 0) (lines p) (λ l. zero-mul_ℤ (coefficient v l.form)));
  columns = unused-columns p level reduced unused none;
  inside_zero = λ side. All-from_recursion (λ l. IsIn (place_of l.name side) at → reduced (place_of l.name side) ≡ pos 0) (lines p) (each-of (λ l. IsIn (place_of l.name side) at → reduced (place_of l.name side) ≡ pos 0) (lines p) (λ l i. none (place_of l.name side)));
}

pub has-sum : (p : Problem) (at : List Mark) (level : ℕ) (reduced : ℕ → ℤ) → AreReducedAt p at level reduced → (scale : ℕ) × (times : RowName → ℤ) × IsLevelSum p at level scale times reduced
has-sum p at level reduced (inl (scale, times, w)) = (scale, times, writing-IsLevelSum p at level scale times reduced w)
has-sum p at level reduced (inr (unused, none)) = (1, (λ name. pos 0), unused-IsLevelSum p at level reduced unused none)

-- ---- the ratios

opposite-up : (e f : ℤ) → e ≡ neg_ℤ f → e <ℤ pos 0 → pos 0 <ℤ f
opposite-up e f is h = omega (arith, ints, is, h)

opposite-down : (e f : ℤ) → e ≡ neg_ℤ f → pos 0 <ℤ f → e <ℤ pos 0
opposite-down e f is h = omega (arith, ints, is, h)

not-down : (e : ℤ) (n : ℕ) → e ≡ pos n → e <ℤ pos 0 → ⊥
not-down e n is h = absurd (omega (arith, ints, is, h))

turned-ratio : (f g r x d e : ℤ) → d ≡ neg_ℤ f → e ≡ neg_ℤ g → g *ℤ x -ℤ f *ℤ r ≡ d *ℤ r -ℤ e *ℤ x
turned-ratio f g r x d e is h =
    let a : d *ℤ r ≡ neg_ℤ (f *ℤ r) = ap (λ (z : ℤ). z *ℤ r) is ∙ neg-times f r in
    let b : e *ℤ x ≡ neg_ℤ (g *ℤ x) = ap (λ (z : ℤ). z *ℤ x) h ∙ neg-times g x in
    omega (arith, ints, a, b)

-- where the mark of the least ratio by writings enters, no column is negative at the next corner
pub dual_choice_stays : (p : Problem) (at : List Mark) (s : Swap) (scale : ℕ) (form : List Term) (num : ℤ) (den : ℕ) (reduced : ℕ → ℕ → ℤ) → IsWhole p → IsCorner p at → HasRays p at → IsMarkAt p (place s.enter) → (IsIn (place s.enter) at → ⊥) → IsIn (place s.leave) at
    → IsWritingOf p at (λ x. x (place s.leave)) scale form num den → ((level : ℕ) → AreReducedAt p at level (reduced level)) → IsDualChoice p (place s.enter) form reduced → NoNegativeColumn p at → NoNegativeColumn p (exchanged s at)
dual_choice_stays p at s scale form num den reduced whole corner rays mark enters leaves w levels (up, least) columns =
    let r = writing_is_row p at (place s.leave) scale form num den whole corner leaves w in
    let sums = λ (k : ℕ). has-sum p at k (reduced k) (levels k) in
    let entering : r.1 (place s.enter) ≡ neg_ℤ (coefficient (place s.enter) form) = r.4 (place s.enter) (λ e. enters (subst (λ (v : ℕ). IsIn v at) (sym e) leaves)) in
    columns_stay p at s (λ k. (sums k).0) (λ k. (sums k).1) reduced r.0 r.1 whole rays mark (λ k. (sums k).2) r.2 columns
    (record {
      leaving = subst (λ (z : ℤ). pos 0 <ℤ z) (sym r.3) (positive-pos scale w.scale_positive);
      entering = opposite-down (r.1 (place s.enter)) (coefficient (place s.enter) form) entering up;
      least = λ side. All-from_recursion (λ l. r.1 (place_of l.name side) <ℤ pos 0 → IsLexNonnegative (λ level. r.1 (place_of l.name side) *ℤ reduced level (place s.enter) -ℤ r.1 (place s.enter) *ℤ reduced level (place_of l.name side))) (lines p)
          (each-impl (λ l. pos 0 <ℤ coefficient (place_of l.name side) form → IsLexNonnegative (λ level. coefficient (place s.enter) form *ℤ reduced level (place_of l.name side) -ℤ coefficient (place_of l.name side) form *ℤ reduced level (place s.enter))) _ (lines p)
          (λ l h down. elim (cases_eq (place_of l.name side) (place s.leave)) [
            | inl e ↦ absurd (not-down (r.1 (place_of l.name side)) scale (ap r.1 e ∙ r.3) down)
            | inr ne ↦
                let is : r.1 (place_of l.name side) ≡ neg_ℤ (coefficient (place_of l.name side) form) = r.4 (place_of l.name side) ne in
                lex_same _ _ (λ k. turned-ratio (coefficient (place_of l.name side) form) (coefficient (place s.enter) form) (reduced k (place s.enter)) (reduced k (place_of l.name side)) (r.1 (place_of l.name side)) (r.1 (place s.enter)) is entering)
                (h (opposite-up (r.1 (place_of l.name side)) (coefficient (place_of l.name side) form) is down))
          ])
          (recursion_from_All _ (lines p) (least side)));
    })
