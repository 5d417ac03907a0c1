-- At a corner with no negative value and no negative column the corner's own multipliers are a certificate.
use Rattle.std.proofs.Common.{◌≡◌, ℕ, ◌*◌, List, [], ◌∷◌, map, ℤ, pos, negsuc, ◌+ℤ◌, ◌-ℤ◌, ◌*ℤ◌, neg_ℤ, nat_abs, ◌≤ℤ◌, ◌<ℤ◌, refl, sym, ap, ap₂, ◌∙◌, inl, inr, ◌⊎◌, arith}
use Rattle.std.specs.List.{All, AllByRecursion as Each}
use Rattle.std.proofs.lemmas.List.Elements.{recursion_from_All, All-from_recursion}
use borrow.Author.Differences.{ints}
use Rattle.problem_core.specs.declared.parts.Term.{Term}
use Rattle.problem_core.specs.Layout.{Line, Problem, Satisfies, lines, gap, value_at}
use Rattle.problem_core.specs.Certificates.{Multipliers, IsCertificate, IsLexNonnegative, under, over}
use Rattle.problem_core.specs.declared.parts.Mark.{Mark}
use Rattle.problem_core.specs.declared.parts.Side.{Side}
use Rattle.problem_core.specs.declared.parts.Side.TheVariants.{Under, Over}
use Rattle.problem_core.specs.Corners.{Point, equation, StandsAt, IsIn, marks_of, place_of, place, attr_column, one_column, column, AreMultipliersAt, assignment_at}
use Rattle.frac_core.proofs.Integers.{mul-zero_ℤ, mul_assoc_ℤ, mul-add_left, mul-opposite}
use Rattle.problem_core.proofs.Forms.{each-impl, each-both}

pub value-columns : (n : ℕ → ℤ) (k : ℤ) (form : List Term) → value_at n (map (λ e. record { attr = attr_column e.attr; by = k *ℤ e.by }) form) ≡ k *ℤ value_at (λ v. n (attr_column v)) form
value-columns n k [] = sym (mul-zero_ℤ k)
value-columns n k (e ∷ form) = ap₂ ◌+ℤ◌ (mul_assoc_ℤ k e.by (n (attr_column e.attr))) (value-columns n k form) ∙ sym (mul-add_left k _ _)

pub abs_same : (z : ℤ) → pos 0 <ℤ z → pos (nat_abs z) ≡ z
abs_same (pos n) h = refl
abs_same (negsuc n) h = absurd h.lt

gap-step : (q u o p w v one a : ℤ) → q *ℤ u +ℤ (neg_ℤ q *ℤ o +ℤ (neg_ℤ p *ℤ one +ℤ w)) ≡ pos 0 → w ≡ v → a ≡ one → v -ℤ p *ℤ a +ℤ q *ℤ u ≡ q *ℤ o
gap-step q u o p w v one a e f g =
    let h : p *ℤ a ≡ p *ℤ one = ap (λ (t : ℤ). p *ℤ t) g in
    omega (arith, ints, e, f, h, mul-opposite q o, mul-opposite p one)

-- the gap is the difference of the deviations
gap-parts : (x : Point) (l : Line) → value_at x.num (equation l) ≡ pos 0 → gap (assignment_at x) l +ℤ pos l.den *ℤ x.num (place_of l.name Under) ≡ pos l.den *ℤ x.num (place_of l.name Over)
gap-parts x l e =
    gap-step (pos l.den) (x.num (place_of l.name Under)) (x.num (place_of l.name Over)) l.num _ _ (x.num one_column) (pos (nat_abs (x.num one_column))) e
    (value-columns x.num (pos l.den) l.form) (abs_same (x.num one_column) x.positive)

-- a line whose gap is below 0 has its under deviation above 0, and likewise above
used_under : (d : ℕ) (g u o : ℤ) → g +ℤ pos d *ℤ u ≡ pos d *ℤ o → pos 0 ≤ℤ o → g <ℤ pos 0 → u ≡ pos 0 → ⊥
used_under d g u (pos n) e h k z =
    let f : g +ℤ pos d *ℤ pos 0 ≡ pos (d * n) = ap (λ (t : ℤ). g +ℤ pos d *ℤ t) (sym z) ∙ e in omega (arith, ints, f)
used_under d g u (negsuc n) e h k z = absurd h.le

used_over : (d : ℕ) (g u o : ℤ) → g +ℤ pos d *ℤ u ≡ pos d *ℤ o → pos 0 ≤ℤ u → pos 0 <ℤ g → o ≡ pos 0 → ⊥
used_over d g (pos n) o e h k z =
    let f : g +ℤ pos (d * n) ≡ pos d *ℤ pos 0 = e ∙ ap (λ (t : ℤ). pos d *ℤ t) z in omega (arith, ints, f)
used_over d g (negsuc n) o e h k z = absurd h.le

-- what holds of both marks of each line
both_marks : (P : Mark → Type 0) (ls : List Line) → Each P (marks_of ls) → Each (λ l. P (record { row = l.name; side = Under }) × P (record { row = l.name; side = Over })) ls
both_marks P [] h = tt
both_marks P (l ∷ ls) h = ((h.0, h.1.0), both_marks P ls h.1.1)

-- the corner's multipliers are a certificate
pub end-IsCertificate : (p : Problem) (inside : List Mark) (x : Point) (m : Multipliers) → StandsAt p inside x → All (λ k. pos 0 ≤ℤ x.num (place k)) (marks_of (lines p)) → ((k : Mark) → (IsIn (place k) inside) ⊎ (IsIn (place k) inside → ⊥)) → AreMultipliersAt p inside m → ((side : Side) → All (λ l. IsLexNonnegative (column m side l)) (lines p)) → Satisfies p (assignment_at x) → IsCertificate p (assignment_at x) m
end-IsCertificate p inside x m s values decide at columns sat =
    let facts : Each (λ l. (value_at x.num (equation l) ≡ pos 0) × (((pos 0 ≤ℤ x.num (place_of l.name Under)) × (pos 0 ≤ℤ x.num (place_of l.name Over))) × (((IsIn (place_of l.name Under) inside → ⊥) → x.num (place_of l.name Under) ≡ pos 0) × ((IsIn (place_of l.name Over) inside → ⊥) → x.num (place_of l.name Over) ≡ pos 0)))) (lines p) =
    each-both _ _ (lines p) (recursion_from_All _ _ s.0)
    (each-both _ _ (lines p) (both_marks (λ k. pos 0 ≤ℤ x.num (place k)) (lines p) (recursion_from_All _ _ values)) (both_marks (λ k. (IsIn (place k) inside → ⊥) → x.num (place k) ≡ pos 0) (lines p) (recursion_from_All _ _ s.1))) in
    record {
      required = sat;
      scales = at.scales;
      cancel = at.cancel;
      under_columns = columns Under;
      over_columns = columns Over;
      under_used = All-from_recursion _ _
          (each-impl (λ l. (IsIn (place_of l.name Under) inside → (level : ℕ) → under m l level ≡ pos 0) × ((value_at x.num (equation l) ≡ pos 0) × (((pos 0 ≤ℤ x.num (place_of l.name Under)) × (pos 0 ≤ℤ x.num (place_of l.name Over))) × (((IsIn (place_of l.name Under) inside → ⊥) → x.num (place_of l.name Under) ≡ pos 0) × ((IsIn (place_of l.name Over) inside → ⊥) → x.num (place_of l.name Over) ≡ pos 0))))) (λ l. gap (assignment_at x) l <ℤ pos 0 → (level : ℕ) → under m l level ≡ pos 0) (lines p)
          (λ l h g. elim (decide (record { row = l.name; side = Under })) [
            | inl i ↦ h.0 i
            | inr o ↦ absurd (used_under l.den (gap (assignment_at x) l) _ _ (gap-parts x l h.1.0) h.1.1.0.1 g (h.1.1.1.0 o))
          ])
          (each-both _ _ (lines p) (recursion_from_All _ _ (at.inside_zero Under)) facts));
      over_used = All-from_recursion _ _
          (each-impl (λ l. (IsIn (place_of l.name Over) inside → (level : ℕ) → over m l level ≡ pos 0) × ((value_at x.num (equation l) ≡ pos 0) × (((pos 0 ≤ℤ x.num (place_of l.name Under)) × (pos 0 ≤ℤ x.num (place_of l.name Over))) × (((IsIn (place_of l.name Under) inside → ⊥) → x.num (place_of l.name Under) ≡ pos 0) × ((IsIn (place_of l.name Over) inside → ⊥) → x.num (place_of l.name Over) ≡ pos 0))))) (λ l. pos 0 <ℤ gap (assignment_at x) l → (level : ℕ) → over m l level ≡ pos 0) (lines p)
          (λ l h g. elim (decide (record { row = l.name; side = Over })) [
            | inl i ↦ h.0 i
            | inr o ↦ absurd (used_over l.den (gap (assignment_at x) l) _ _ (gap-parts x l h.1.0) h.1.1.0.0 g (h.1.1.1.1 o))
          ])
          (each-both _ _ (lines p) (recursion_from_All _ _ (at.inside_zero Over)) facts));
    }
