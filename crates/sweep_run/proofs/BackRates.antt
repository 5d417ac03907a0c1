-- How much an attribute or an inside mark grows towards the beginning of a slide.
use Rattle.std.proofs.Common.{◌≡◌, ◌≢◌, ◌∙◌, inl, inr, ℕ, ◌<◌, Bool, true, false, List, ℤ, pos, negsuc, ◌<ℤ◌, refl, sym, ap, subst, arith, unsigned_abs, Any}
use Rattle.std.proofs.lemmas.Bool.{cases_lt}
use borrow.Author.Differences.{ints}
use Rattle.frac_core.specs.Fraction.{Fraction, IsFitting, IsRatio, sum_den, sum_num}
use Rattle.frac_core.specs.declared.frac.TheConstants.{PART_BOUND}
use Rattle.problem_core.specs.declared.parts.Mark.{Mark}
use Rattle.problem_core.specs.declared.parts.RowName.TheVariants.{Held}
use Rattle.problem_core.specs.declared.parts.Side.TheVariants.{Over}
use Rattle.problem_core.specs.declared.parts.Term.{Term}
use Rattle.problem_core.specs.declared.stops.What.{What}
use Rattle.problem_core.specs.declared.stops.What.TheVariants.{Attr, Mark as MarkOf, Level as LevelOf}
use Rattle.problem_core.specs.Layout.{Problem, coefficient}
use Rattle.problem_core.specs.Corners.{IsIn, attr_column, place, place_of}
use Rattle.problem_core.specs.Unfit.{HasNoWriting, IsWritingOf}
use Rattle.corner_laws.specs.Laws.{IsFixedAt}
use Rattle.corner_laws.proofs.Counting.{IsSmall}
use Rattle.corner_laws.proofs.MarkWritings.Equations.{writings_are_equal}
use Rattle.corner_laws.proofs.MarkWritings.LowestForms.{attrs_are_fixed, marks_are_fixed}
use Rattle.corner_lines.specs.Shifts.{with_constant}
use Rattle.corner_lines.proofs.ProblemChanges.Shifted.{shift-small}
use Rattle.corner_view.proofs.Facts.{named_in, same_mark}
use Rattle.corner_view.specs.Seen.{HasValueAt, IsCoefficientOf, IsColumnOf, IsKeptCorner, IsMarkOf, IsScaleOf, IsWritten}
use Rattle.corner_ends.proofs.Marks.{in_mark}
use Rattle.corner_ends.proofs.RequiredTimes.{row_named}
use Rattle.sweep_laws.specs.Fractions.{difference}
use Rattle.sweep_run.specs.declared.rates.Rate.{Rate}
use Rattle.sweep_run.specs.declared.ways.Way.{Way}
use Rattle.sweep_run.specs.Ways.{IsBackRate, IsOther, backwards, column_of, far_back, own, there}
use Rattle.sweep_run.proofs.Moves.{HasOwn, moves_itself, moves_nothing, moves_outside, shift-to, still}

-- the row's over mark is one of the problem's
pub over_is_mark : (p : Problem) (row : ℕ) → Any (λ r. r.id ≡ row) p.rows → IsMarkOf p (own row Over)
over_is_mark p row held = named_in p (Held row) Over (row_named p row row held refl)

-- ---- what is written at a corner fits

pub writing_some : (p : Problem) (at : List Mark) (what : What) (c : ℕ) → IsKeptCorner p at → IsColumnOf p at what c → HasNoWriting p at (λ x. x c) → ⊥
writing_some p at (Attr attr) c kept (stay, e) none = kept.fits (Attr attr) (stay, subst (λ (v : ℕ). HasNoWriting p at (λ x. x v)) e none)
writing_some p at (MarkOf m) c kept (inside, e) none = kept.fits (MarkOf m) (inside, subst (λ (v : ℕ). HasNoWriting p at (λ x. x v)) e none)
writing_some p at (LevelOf level) c kept column none = absurd column

module _ (p : Problem) (at : List Mark) (c : ℕ) (kept : IsKeptCorner p at) (some : HasNoWriting p at (λ x. x c) → ⊥) (scale : ℕ) (form : List Term) (num : ℤ) (den : ℕ) (is : IsWritingOf p at (λ x. x c) scale form num den) where
  pub form_fits : (v : ℕ) → IsFitting (coefficient v form)
  form_fits v = elim (cases_lt (unsigned_abs (coefficient v form)) PART_BOUND) [
    | inl less ↦ less
    | inr more ↦ absurd (some (λ s g value w scale_fits fits whole.
        let same = writings_are_equal p at (λ x. x c) scale s form g num value.num den value.den kept.corner kept.rays is w in
        let fit : IsFitting (coefficient v form) = subst IsFitting (sym (same.1 v)) (fits v) in
        omega (arith, more, fit)))
  ]

  pub scale_fits : IsFitting (pos scale)
  scale_fits = elim (cases_lt scale PART_BOUND) [
    | inl less ↦ less
    | inr more ↦ absurd (some (λ s g value w own_fits fits whole.
        let same = writings_are_equal p at (λ x. x c) scale s form g num value.num den value.den kept.corner kept.rays is w in
        let fit : IsFitting (pos scale) = subst (λ (n : ℕ). IsFitting (pos n)) (sym same.0) own_fits in
        omega (arith, more, fit)))
  ]

pub coefficient_fits : (p : Problem) (at : List Mark) (what : What) (m : Mark) (z : ℤ) → IsKeptCorner p at → IsCoefficientOf p at what m z → IsFitting z
coefficient_fits p at what m z kept (c, column, (scale, form, value, is, e)) =
    subst IsFitting (sym e) (form_fits p at c kept (writing_some p at what c kept column) scale form value.num value.den is (place m))

pub denominator_fits : (p : Problem) (at : List Mark) (what : What) (z : ℤ) → IsKeptCorner p at → IsScaleOf p at what z → IsFitting z
denominator_fits p at what z kept (c, column, (scale, form, value, is, e)) =
    subst IsFitting (sym e) (scale_fits p at c kept (writing_some p at what c kept column) scale form value.num value.den is)

denominator_up : (p : Problem) (at : List Mark) (what : What) (z : ℤ) → IsScaleOf p at what z → pos 0 <ℤ z
denominator_up p at what z (c, column, (scale, form, value, is, e)) = subst (λ (y : ℤ). pos 0 <ℤ y) (sym e) (let up : 0 < scale = is.scale_positive in omega (arith, ints, up))

-- ---- columns

same-column : (p : Problem) (at : List Mark) (what : What) (c d : ℕ) → IsColumnOf p at what c → column_of what d → c ≡ d
same-column p at (Attr attr) c d (stay, e) f = e ∙ sym f
same-column p at (MarkOf m) c d (inside, e) f = e ∙ sym f
same-column p at (LevelOf level) c d column f = absurd column

same-columns : (p : Problem) (at : List Mark) (what : What) (c d : ℕ) → IsColumnOf p at what c → IsColumnOf p at what d → c ≡ d
same-columns p at (Attr attr) c d (stay, e) (there, f) = e ∙ sym f
same-columns p at (MarkOf m) c d (inside, e) (there, f) = e ∙ sym f
same-columns p at (LevelOf level) c d column f = absurd column

not-over : (what : What) (row c : ℕ) → IsSmall (Held row) → IsOther row what → column_of what c → c ≢ place_of (Held row) Over
not-over (Attr attr) row c small other e = λ same. absurd (let q : attr_column attr ≡ place_of (Held row) Over = sym e ∙ same in omega (arith, small, q))
not-over (MarkOf m) row c small other e = λ same. other (same_mark m (own row Over) (sym e ∙ same))
not-over (LevelOf level) row c small other e = absurd other

column-fixed : (p : Problem) (at : List Mark) (what : What) (c : ℕ) → IsKeptCorner p at → IsWritten p at what → column_of what c → IsFixedAt p at (λ x. x c)
column-fixed p at (Attr attr) c kept (d, (stay, f)) e = subst (λ (v : ℕ). IsFixedAt p at (λ x. x v)) (sym e) (attrs_are_fixed p at attr kept.corner stay)
column-fixed p at (MarkOf m) c kept (d, (inside, f)) e = subst (λ (v : ℕ). IsFixedAt p at (λ x. x v)) (sym e) (marks_are_fixed p at (place m) kept.corner (in_mark p at m kept inside))
column-fixed p at (LevelOf level) c kept (d, column) e = absurd e

-- ---- rates

abbrev IsMoved : Problem → List Mark → Bool → ℕ → Fraction → ℕ → ℤ → ℤ → Type 0
IsMoved p at up row e c n d = (f w value : Fraction) → 0 < f.den → 0 < w.den → HasValueAt p at c f
    → IsRatio value (sum_num f n d (far_back up w e)) (sum_den f d (far_back up w e)) → HasValueAt (with_constant row w p) at c value

none-back : (up : Bool) → backwards up (pos 0) ≡ pos 0
none-back true = refl
none-back false = refl

module _ (p : Problem) (at : List Mark) (way : Way) (kept : IsKeptCorner p at) (held : Any (λ r. r.id ≡ way.row) p.rows) (own_constant : HasOwn p way.row way.end) (he : 0 < way.end.den) where
  pub small : IsSmall (Held way.row)
  small = shift-small p way.row way.end way.end (difference way.end way.end) kept.whole (shift-to p way.row way.end way.end held own_constant he he)

  -- at the end's constant the problem is as it is
  pub at_its_end : there p way way.end ≡ p
  at_its_end = still p way.row way.end own_constant

  outside-moves : (what : What) (c : ℕ) (n d : ℤ) (k : ℤ) → IsOther way.row what → column_of what c → IsCoefficientOf p at what (own way.row Over) k → IsScaleOf p at what d → n ≡ backwards way.up k → IsMoved p at way.up way.row way.end c n d
  outside-moves what c n d k other column (a, is_a, (scale, form, value, is, e)) (b, is_b, (scale_b, form_b, value_b, is_there, e_b)) back f w moved hf hw has ratio =
      let here : IsWritingOf p at (λ x. x c) scale form value.num value.den = subst (λ (v : ℕ). IsWritingOf p at (λ x. x v) scale form value.num value.den) (same-column p at what a c is_a column) is in
      let same_b : IsWritingOf p at (λ x. x c) scale_b form_b value_b.num value_b.den = subst (λ (v : ℕ). IsWritingOf p at (λ x. x v) scale_b form_b value_b.num value_b.den) (same-column p at what b c is_b column) is_there in
      let equal = writings_are_equal p at (λ x. x c) scale scale_b form form_b value.num value_b.num value.den value_b.den kept.corner kept.rays here same_b in
      let den : d ≡ pos scale = e_b ∙ ap pos (sym equal.0) in
      moves_outside p at way.row way.up way.end w kept.whole kept.corner kept.rays held own_constant he hw c scale form value.num value.den f moved here (not-over what way.row c small other column) hf has
      (subst (λ (t : ℤ). IsRatio moved (sum_num f t (pos scale) (far_back way.up w way.end)) (sum_den f (pos scale) (far_back way.up w way.end))) (back ∙ ap (backwards way.up) e)
      (subst (λ (t : ℤ). IsRatio moved (sum_num f n t (far_back way.up w way.end)) (sum_den f t (far_back way.up w way.end))) den ratio))

  pub rate_outside : (what : What) (k : ℤ) (rate : Rate) → IsOther way.row what → IsCoefficientOf p at what (own way.row Over) k → IsScaleOf p at what rate.d → rate.n ≡ backwards way.up k → IsFitting rate.n → IsBackRate p at way what rate
  rate_outside what k rate other coefficient_is scale_is back fits = record {
    above = denominator_up p at what rate.d scale_is;
    small_n = fits;
    small_d = denominator_fits p at what rate.d kept scale_is;
    moves = λ c f w value column hf hw has ratio.
        outside-moves what c rate.n rate.d k other column coefficient_is scale_is back f w value hf hw
        (subst (λ (q : Problem). HasValueAt q at c f) at_its_end has) ratio;
  }

  pub rate_none : (what : What) (rate : Rate) → IsWritten p at what → IsOther way.row what → IsIn (place_of (Held way.row) Over) at → rate.n ≡ pos 0 → rate.d ≡ pos 1 → IsBackRate p at way what rate
  rate_none what rate written other inside n d = record {
    above = subst (λ (z : ℤ). pos 0 <ℤ z) (sym d) (omega (arith, ints));
    small_n = subst IsFitting (sym n) (omega (arith));
    small_d = subst IsFitting (sym d) (omega (arith));
    moves = λ c f w value column hf hw has ratio.
        moves_nothing p at way.row way.up way.end w kept.whole kept.corner kept.rays held own_constant he hw c f value inside (column-fixed p at what c kept written column) (not-over what way.row c small other column) hf
        (subst (λ (q : Problem). HasValueAt q at c f) at_its_end has)
        (subst (λ (t : ℤ). IsRatio value (sum_num f t (pos 1) (far_back way.up w way.end)) (sum_den f (pos 1) (far_back way.up w way.end))) (n ∙ sym (none-back way.up))
        (subst (λ (t : ℤ). IsRatio value (sum_num f rate.n t (far_back way.up w way.end)) (sum_den f t (far_back way.up w way.end))) d ratio));
  }

  pub rate_own : (rate : Rate) → IsIn (place_of (Held way.row) Over) at → rate.n ≡ backwards way.up (negsuc 0) → IsFitting rate.n → rate.d ≡ pos 1 → IsBackRate p at way (MarkOf (own way.row Over)) rate
  rate_own rate inside n fits d = record {
    above = subst (λ (z : ℤ). pos 0 <ℤ z) (sym d) (omega (arith, ints));
    small_n = fits;
    small_d = subst IsFitting (sym d) (omega (arith));
    moves = λ c f w value column hf hw has ratio.
        subst (λ (v : ℕ). HasValueAt (there p way w) at v value) (sym column)
        (moves_itself p at way.row way.up way.end w kept.whole kept.corner kept.rays held own_constant he hw f value inside
        (marks_are_fixed p at (place_of (Held way.row) Over) kept.corner (in_mark p at (own way.row Over) kept inside)) hf
        (subst (λ (v : ℕ). HasValueAt p at v f) column (subst (λ (q : Problem). HasValueAt q at c f) at_its_end has))
        (subst (λ (t : ℤ). IsRatio value (sum_num f t (pos 1) (far_back way.up w way.end)) (sum_den f (pos 1) (far_back way.up w way.end))) n
        (subst (λ (t : ℤ). IsRatio value (sum_num f rate.n t (far_back way.up w way.end)) (sum_den f t (far_back way.up w way.end))) d ratio)));
  }
