-- The sum of all terms of a row less its constant, and which sum a quantity names.
use Rattle.std.proofs.Common.{◌≡◌, ◌≢◌, ◌∙◌, ℕ, zero, suc, ◌+◌, ◌*◌, ◌<◌, ◌≤◌, List, [], ◌∷◌, length, get_or, take, ℤ, pos, negsuc, ◌+ℤ◌, ◌-ℤ◌, ◌*ℤ◌, unsigned_abs, refl, sym, ap, subst, arith, Any, inl, inr, mul-pos}
use Rattle.std.proofs.lemmas.Bool.{cases_eq}
use Rattle.std.proofs.lemmas.List.{get_or_default}
use borrow.Author.Differences.{ints}
use Rattle.frac_core.specs.Fraction.{Fraction, IsKept, IsRatio, IsUnfitRatio, sum_den, sum_num}
use Rattle.problem_core.specs.declared.parts.Mark.{Mark}
use Rattle.problem_core.specs.declared.parts.RowName.{RowName}
use Rattle.problem_core.specs.declared.parts.RowName.TheVariants.{Held}
use Rattle.problem_core.specs.declared.parts.Side.TheVariants.{Under, Over}
use Rattle.problem_core.specs.declared.parts.Term.{Term}
use Rattle.problem_core.specs.Layout.{Line, Problem, Row, line_of_row, lines, sum_of, value_at}
use Rattle.problem_core.specs.Corners.{IsIn, Point, Solves, equation, one_column, place, place_of}
use Rattle.problem_core.specs.Unfit.{HasNoWriting, first_terms, over_mark}
use Rattle.corner_laws.proofs.LevelCosts.Gaps.{line_gap}
use Rattle.corner_lines.specs.LineEquations.{IsLineSum, deviation}
use Rattle.corner_lines.proofs.ProblemChanges.JoinedLines.{added, past-terms, plain-terms, same-sum, same-writing}
use Rattle.corner_lines.proofs.Lines.LineUnfits.{line_sum, mark_unfit}
use Rattle.path_lines.specs.Walking.FirstLines.{IsRowOf}
use Rattle.path_lines.specs.declared.table.Sum.{Sum}
use Rattle.path_lines.specs.Tables.{IsThere, numbers_of}
use Rattle.path_lines.proofs.Walking.FirstLines.{count_lines, row_at, nothing_moves}
use Rattle.path_lines.proofs.Places.{any_line}
use Rattle.path_fits.specs.Sums.{IsQuantitySum}
use Rattle.path_fits.specs.TermSums.{IsRowFit, IsTermsStop, terms_of}
use Rattle.path_fits.specs.declared.last.Fit.{Fit}
use Rattle.path_fits.specs.declared.last.Fit.TheVariants.{Unfit, NoRoom}
use Rattle.path_fits.specs.declared.last.terms.TermsStop.TheVariants.{UnfitAttr, UnfitTerms}
use Rattle.path_fits.proofs.LastCorner.QuantitiesAfter.{line_sum_is, mark_fits, quantity_fits}
use Rattle.frac_core.proofs.Numbers.{one-times as one_times}

-- the terms less the deviation are the constant
row_gap : (p : Problem) (r : Row) (x : Point) → IsRowOf p r → Solves p x → pos r.constant.den *ℤ (terms_of r.terms x.num -ℤ deviation (Held r.id) x.num) ≡ r.constant.num *ℤ x.num one_column
row_gap p r x (k, s, within, is, same) solves =
    let here : get_or p.rows k r ≡ r = get_or_default p.rows k r s within ∙ is ∙ same in
    let line : get_or (lines p) k any_line ≡ line_of_row r = row_at p k any_line r within ∙ ap line_of_row here in
    let gap = line_gap x.num (line_of_row r) (subst (λ (l : Line). value_at x.num (equation l) ≡ pos 0) line (solves k any_line (omega (arith, within, count_lines p)))) in
    parts r.constant.den r.constant.num (x.num (place_of (Held r.id) Under)) (x.num (place_of (Held r.id) Over)) (terms_of r.terms x.num) (x.num one_column) gap
  where
    parts : (d : ℕ) (k u o f one : ℤ) → pos d *ℤ ((u -ℤ o) +ℤ f) ≡ k *ℤ one → pos d *ℤ (f -ℤ (o -ℤ u)) ≡ k *ℤ one
    parts d k u o f one e = (let g : f -ℤ (o -ℤ u) ≡ (u -ℤ o) +ℤ f = omega (arith, ints) in ap (λ (z : ℤ). pos d *ℤ z) g) ∙ e

less_sum : (p : Problem) (at : List Mark) (r : Row) → IsRowOf p r → 0 < r.constant.den → IsLineSum p at (λ x. terms_of r.terms x -ℤ deviation (Held r.id) x) 1 (λ n. pos 0) r.constant.num r.constant.den
less_sum p at r held above = record {
  own_positive = omega arith;
  den_positive = above;
  outside = λ q d here some. absurd (some refl);
  holds = λ x solves. parts r.constant.den (terms_of r.terms x.num -ℤ deviation (Held r.id) x.num) (sum_of (λ l. pos 0 *ℤ deviation l.name x.num) (lines p)) (r.constant.num *ℤ x.num one_column) (nothing_moves p x.num) (row_gap p r x held solves);
}
  where
    parts : (d : ℕ) (a s r : ℤ) → s ≡ pos 0 → pos d *ℤ a ≡ r → pos d *ℤ (pos 1 *ℤ a -ℤ s) ≡ pos 1 *ℤ r
    parts d a s r e f =
        let g : pos 1 *ℤ a -ℤ s ≡ a = omega (arith, ints, e) in
        ap (λ (z : ℤ). pos d *ℤ z) g ∙ f ∙ sym (one_times r)

deviation_sum : (p : Problem) (at : List Mark) (r : Row) (sum : Sum) (num : ℤ) (den : ℕ) → IsRowOf p r → 0 < r.constant.den → IsQuantitySum p at (terms_of r.terms) sum → 0 < den
    → num *ℤ sum_den sum.value (pos 1) r.constant ≡ sum_num sum.value (negsuc 0) (pos 1) r.constant *ℤ pos den
    → IsLineSum p at (deviation (Held r.id)) (unsigned_abs sum.own) (numbers_of (lines p) sum.by.items) num den
deviation_sum p at r sum num den held constant s above ratio =
    let own : ℕ = unsigned_abs sum.own in
    let by : RowName → ℤ = numbers_of (lines p) sum.by.items in
    let both : IsLineSum p at (λ x. terms_of r.terms x +ℤ negsuc 0 *ℤ (terms_of r.terms x -ℤ deviation (Held r.id) x)) (1 * own) by num den =
    added p at (terms_of r.terms) (λ x. terms_of r.terms x -ℤ deviation (Held r.id) x) (negsuc 0) own by sum.value 1 (λ n. pos 0) r.constant by num den
    (line_sum p at (terms_of r.terms) own by sum.value.num sum.value.den s.equation) (less_sum p at r held constant) (λ k d within. numbers own (by (get_or (lines p) k d).name)) above ratio in
    subst (λ (n : ℕ). IsLineSum p at (deviation (Held r.id)) n by num den) (let o : 1 * own ≡ own = omega arith in o)
    (same-sum p at (λ x. terms_of r.terms x +ℤ negsuc 0 *ℤ (terms_of r.terms x -ℤ deviation (Held r.id) x)) (deviation (Held r.id)) (1 * own) by num den (λ x. back (terms_of r.terms x) (deviation (Held r.id) x)) both)
  where
    back : (q dev : ℤ) → q +ℤ negsuc 0 *ℤ (q -ℤ dev) ≡ dev
    back q dev = omega (arith, ints)

    zero_times : (z : ℤ) → z *ℤ pos 0 ≡ pos 0
    zero_times z = omega (arith, ints)

    numbers : (own : ℕ) (b : ℤ) → b ≡ pos 1 *ℤ b +ℤ (pos own *ℤ negsuc 0) *ℤ pos 0
    numbers own b = let z : (pos own *ℤ negsuc 0) *ℤ pos 0 ≡ pos 0 = zero_times (pos own *ℤ negsuc 0) in omega (arith, ints, z)

-- the whole sum less the constant fits, or does not
pub last_fits : (p : Problem) (at : List Mark) (r : Row) (sum : Sum) (value : Fraction) → IsThere p at → IsRowOf p r → 0 < r.constant.den → IsQuantitySum p at (terms_of r.terms) sum → IsIn (place (over_mark r.id)) at → IsKept value
    → IsRatio value (sum_num sum.value (negsuc 0) (pos 1) r.constant) (sum_den sum.value (pos 1) r.constant) → HasNoWriting p at (first_terms r (length r.terms + 1)) → ⊥
last_fits p at r sum value there held constant s inside kept ratio none =
    let next : Sum = record { own = sum.own; by = sum.by; value = value } in
    let e = deviation_sum p at r sum value.num value.den held constant s kept.lowest.above ratio in
    let q : IsQuantitySum p at (deviation (Held r.id)) next = record {
      sized = record { count_is = s.sized.count_is; above = s.sized.above; fits = s.sized.fits };
      equation = record { own_positive = e.own_positive; den_positive = e.den_positive; outside = e.outside; holds = e.holds; lowest = s.equation.lowest };
    } in
    mark_fits p at (Held r.id) (record { side = Over; sum = next }) there (inside, line_sum_is p at (Held r.id) next q) kept
    (same-writing p at (first_terms r (length r.terms + 1)) (λ x. x (place (over_mark r.id))) (λ x. past-terms r x) none)

pub last_unfit : (p : Problem) (at : List Mark) (r : Row) (sum : Sum) → IsThere p at → IsRowOf p r → 0 < r.constant.den → IsQuantitySum p at (terms_of r.terms) sum → IsIn (place (over_mark r.id)) at
    → IsUnfitRatio (sum_num sum.value (negsuc 0) (pos 1) r.constant) (sum_den sum.value (pos 1) r.constant) → HasNoWriting p at (first_terms r (length r.terms + 1))
last_unfit p at r sum there held constant s inside unfit =
    let num : ℤ = sum_num sum.value (negsuc 0) (pos 1) r.constant in
    let den : ℕ = sum.value.den * (1 * r.constant.den) in
    same-writing p at (λ x. x (place (over_mark r.id))) (first_terms r (length r.terms + 1)) (λ x. sym (past-terms r x))
    (mark_unfit p at (Held r.id) Over (unsigned_abs sum.own) (numbers_of (lines p) sum.by.items) num den there.whole there.corner there.rays inside
    (deviation_sum p at r sum num den held constant s (den_above sum.value.den r.constant.den s.equation.den_positive constant) refl)
    (λ low part value reduced ratio low_fits part_fit kept. unfit value kept.lowest ratio kept.fits))
  where
    den_above : (a b : ℕ) → 0 < a → 0 < b → 0 < a * (1 * b)
    den_above a b h k = mul-pos h (let o : 0 < 1 * b = omega (arith, k) in o)

-- ---- a row's first terms

take_over : (ts : List Term) (k : ℕ) → length ts ≤ k → take k ts ≡ ts
take_over [] zero h = refl
take_over [] (suc k) h = refl
take_over (t ∷ ts) zero h = absurd (omega (arith, h))
take_over (t ∷ ts) (suc k) h = ap (λ (us : List Term). t ∷ us) (take_over ts k (omega (arith, h)))

pub take_twice : (ts : List Term) (j k : ℕ) → j ≤ k → take j (take k ts) ≡ take j ts
take_twice ts zero k h = nothing ts (take k ts)
  where
    nothing : (a b : List Term) → take zero b ≡ take zero a
    nothing a b = refl
take_twice [] (suc j) zero h = absurd (omega (arith, h))
take_twice [] (suc j) (suc k) h = refl
take_twice (t ∷ ts) (suc j) zero h = absurd (omega (arith, h))
take_twice (t ∷ ts) (suc j) (suc k) h = ap (λ (us : List Term). t ∷ us) (take_twice ts j k (omega (arith, h)))

take_long : (ts : List Term) (k : ℕ) → length (take k ts) ≤ k
take_long [] zero = omega arith
take_long [] (suc k) = omega arith
take_long (t ∷ ts) zero = omega arith
take_long (t ∷ ts) (suc k) = let h = take_long ts k in omega (arith, h)

first_is : (r : Row) (j : ℕ) (x : ℕ → ℤ) → j ≤ length r.terms → first_terms r j x ≡ terms_of (take j r.terms) x
first_is r j x within = plain-terms r j x within

-- a sum of fewer terms, or an attribute, stops the sum
pub stop_of_terms : (p : Problem) (at : List Mark) (r : Row) (first j : ℕ) → 1 ≤ j → j ≤ length (take first r.terms) → j ≤ length r.terms → HasNoWriting p at (terms_of (take j (take first r.terms))) → HasNoWriting p at (first_terms r j)
stop_of_terms p at r first j low high within none =
    same-writing p at (terms_of (take j (take first r.terms))) (first_terms r j)
    (λ x. ap (λ (ts : List Term). terms_of ts x) (take_twice r.terms j first (let l = take_long r.terms first in omega (arith, high, l))) ∙ sym (first_is r j x within)) none

pub first_fits : (p : Problem) (at : List Mark) (r : Row) (first : ℕ) (sum : Sum) → IsThere p at → first ≤ length r.terms → IsQuantitySum p at (terms_of (take first r.terms)) sum → IsKept sum.value → HasNoWriting p at (first_terms r first) → ⊥
first_fits p at r first sum there within s kept none =
    quantity_fits p at (terms_of (take first r.terms)) sum there s kept (same-writing p at (first_terms r first) (terms_of (take first r.terms)) (λ x. first_is r first x within) none)

-- an attribute of them
pub attr_part : (p : Problem) (at : List Mark) (r : Row) (first attr : ℕ) → IsTermsStop p at (take first r.terms) (UnfitAttr attr) → IsRowFit p at r first NoRoom
attr_part p at r first attr is = inr (attr, is.0, is.1)

-- a sum of some of them, or of all
pub terms_part : (p : Problem) (at : List Mark) (r : Row) (first j : ℕ) (fit : Fit) → first ≤ length r.terms → (j ≡ first → fit ≡ Unfit) → (j ≢ first → fit ≡ NoRoom) → IsTermsStop p at (take first r.terms) (UnfitTerms j) → IsRowFit p at r first fit
terms_part p at r first j fit within same other is =
    let long : length (take first r.terms) ≤ first = take_long r.terms first in
    let none : HasNoWriting p at (first_terms r j) = stop_of_terms p at r first j is.0 is.1 (omega (arith, is.1, long, within)) is.2 in
    elim (cases_eq j first) [
      | inl e ↦ subst (IsRowFit p at r first) (sym (same e)) (subst (λ (k : ℕ). HasNoWriting p at (first_terms r k)) e none)
      | inr ne ↦ subst (IsRowFit p at r first) (sym (other ne)) (inl (j, is.0, omega (arith, is.1, long, ne), none))
    ]

-- all of them, less the constant
pub whole_attr_part : (p : Problem) (at : List Mark) (r : Row) (attr : ℕ) → IsTermsStop p at r.terms (UnfitAttr attr) → IsRowFit p at r (length r.terms + 1) NoRoom
whole_attr_part p at r attr is = inr (attr, subst (λ (ts : List Term). Any (λ t. t.attr ≡ attr) ts) (sym (take_over r.terms (length r.terms + 1) (omega arith))) is.0, is.1)

pub whole_terms_part : (p : Problem) (at : List Mark) (r : Row) (j : ℕ) → IsTermsStop p at r.terms (UnfitTerms j) → IsRowFit p at r (length r.terms + 1) NoRoom
whole_terms_part p at r j is =
    inl (j, is.0, omega (arith, is.1), same-writing p at (terms_of (take j r.terms)) (first_terms r j) (λ x. sym (first_is r j x is.1)) is.2)
