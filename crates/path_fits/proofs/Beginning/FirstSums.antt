-- Sums of rows' first terms at the corner where the route begins.
use Rattle.std.proofs.Common.{◌≡◌, ◌∙◌, ℕ, ◌+◌, ◌*◌, ◌<◌, ◌≤◌, ◌^◌, Bool, cond, nat_eq, List, [], ◌∷◌, length, get_or, true, false, ℤ, pos, ◌+ℤ◌, ◌*ℤ◌, neg_ℤ, unsigned_abs, refl, sym, ap, subst, arith, inl, inr, replicate, ◌++◌, Option, Some}
use Rattle.std.specs.List.{All, AllPairs, AllByRecursion as Each}
use Rattle.std.proofs.lemmas.Bool.{cases_eq, cases_lt}
use Rattle.std.proofs.lemmas.List.{get_or_default, get_or-replicate, length-replicate}
use Rattle.std.proofs.lemmas.List.Elements.{recursion_from_All}
use Rattle.std.proofs.Math.Nat.{eq-one_of_dvd-one}
use Rattle.frac_core.specs.Fraction.{Fraction, IsFitting, IsKept, IsRatio, IsUnfitRatio, sum_den, sum_num}
use Rattle.problem_core.specs.declared.parts.RowName.{RowName}
use Rattle.problem_core.specs.declared.parts.RowName.TheVariants.{Held}
use Rattle.problem_core.specs.declared.parts.Side.TheVariants.{Under, Over}
use Rattle.problem_core.specs.declared.parts.Stay.{Stay}
use Rattle.problem_core.specs.declared.parts.Term.{Term}
use Rattle.problem_core.specs.Kept.{IsTerm, IsWhole}
use Rattle.problem_core.specs.Layout.{HasStay, IsCovered, Line, Problem, Row, coefficient, lines}
use Rattle.problem_core.specs.Corners.{IsIn, attr_column, place, place_of}
use Rattle.problem_core.specs.Unfit.{HasNoWriting, IsUnfitTerms, first_terms, over_mark}
use Rattle.corner_laws.proofs.MarkWritings.Directions.{each-of}
use Rattle.corner_laws.proofs.LinePlaces.{lines_apart}
use Rattle.corner_lines.specs.LineEquations.{IsLineEquation, IsLineSum, deviation, inside_form, mark_form}
use Rattle.corner_lines.proofs.ProblemChanges.JoinedLines.{goes_on, past-terms, same-writing}
use Rattle.corner_lines.proofs.Lines.LineUnfits.{line_unfit}
use Rattle.corner_lines.proofs.Lines.LineWritings.{inside-other, line_writing, mark_writing, other_coefficient}
use Rattle.corner_lines.proofs.Lines.MarkForms.{by-places}
use Rattle.path_lines.specs.Walking.FirstLines.{HasUnfitTerms, IsRowOf, IsTermsSum}
use Rattle.path_lines.specs.Route.{over_marks}
use Rattle.path_lines.specs.Tables.{IsSumOf, IsThere, line_count, numbers_of}
use Rattle.path_lines.specs.declared.table.Inside.{Inside}
use Rattle.path_lines.specs.declared.table.Sum.{Sum}
use Rattle.path_lines.proofs.Walking.FirstCorner.{begins_there}
use Rattle.path_lines.proofs.Walking.FirstLines.{attr_sum, held_line, no_terms_yet, one_line_more, one_term_more, over_in, stay_there, units, den_above}
use Rattle.path_fits.specs.FirstSums.{AllSumsFit, AreMade, DoFitBefore, IsFirstUnfitSum, IsNextTooMuch, IsNextValue, IsTarget, IsTermsValue, IsUnfitSum}
use Rattle.frac_core.proofs.Fitting.{neg-fits as fits_turned}
use Rattle.frac_core.proofs.Numbers.{as-one-times as once}

-- ---- numbers that fit

number_small : (ls : List Line) (by : List ℤ) (name : RowName) (n : ℕ) → Each (λ z. unsigned_abs z ≤ n) by → unsigned_abs (numbers_of ls by name) ≤ n
number_small [] by name n all = omega arith
number_small (l ∷ ls) [] name n all = omega arith
number_small (l ∷ ls) (z ∷ by) name n all = either (nat_eq (place_of l.name Under) (place_of name Under)) z (numbers_of ls by name) all.0 (number_small ls by name n all.1)
  where
    either : (b : Bool) (x y : ℤ) → unsigned_abs x ≤ n → unsigned_abs y ≤ n → unsigned_abs (cond b x y) ≤ n
    either true x y h k = h
    either false x y h k = k

small_fits : (n j : ℕ) → n ≤ j * 2 ^ 30 → j ≤ 32 → (z : ℤ) → unsigned_abs z ≤ n → IsFitting z
small_fits n j less few z h = omega (arith, less, few, h)

-- where all numbers fit, so do all coefficients
pub coefficients_fit : (p : Problem) (by : RowName → ℤ) → IsWhole p → ((name : RowName) → IsFitting (by name)) → (v : ℕ) → IsFitting (coefficient v (mark_form by (lines p)))
coefficients_fit p by whole fits =
    by-places (λ v z. IsFitting z) by (lines p) (lines_apart p whole) (λ v. omega arith)
    (each-of (λ l. IsFitting (by l.name) × IsFitting (neg_ℤ (by l.name))) (lines p) (λ l. (fits l.name, fits_turned (by l.name) (fits l.name))))

-- ---- one sum

sum_fits : (p : Problem) (r : Row) (j : ℕ) (by : List ℤ) (value : Fraction) → IsWhole p → j ≤ 32 → IsTermsSum p r j by value → IsKept value → IsUnfitSum p r j → ⊥
sum_fits p r j by value whole few is kept none =
    let equation : IsLineEquation p (over_marks p) (first_terms r j) 1 (numbers_of (lines p) by) value.num value.den = record {
      own_positive = is.sum.own_positive;
      den_positive = is.sum.den_positive;
      outside = is.sum.outside;
      holds = is.sum.holds;
      lowest = λ k d all. eq-one_of_dvd-one d;
    } in
    none 1 (mark_form (numbers_of (lines p) by) (lines p)) value (line_writing p (over_marks p) (first_terms r j) 1 (numbers_of (lines p) by) value.num value.den whole equation) (omega arith)
    (coefficients_fit p (numbers_of (lines p) by) whole
    (λ name. small_fits (j * 2 ^ 30) j (omega arith) few (numbers_of (lines p) by name)
    (number_small (lines p) by name (j * 2 ^ 30) (recursion_from_All (λ z. unsigned_abs z ≤ j * 2 ^ 30) by is.small)))) kept

pub value_fits : (p : Problem) (r : Row) (j : ℕ) (value : Fraction) → IsWhole p → j ≤ 32 → IsTermsValue p r j value → IsKept value → IsUnfitSum p r j → ⊥
value_fits p r j value whole few (by, is) kept none = sum_fits p r j by value whole few is kept none

pub no_terms_value : (p : Problem) (r : Row) (value : Fraction) → value ≡ record { num = pos 0; den = 1 } → IsTermsValue p r 0 value
no_terms_value p r value is =
    subst (IsTermsValue p r 0) (sym is)
    (replicate (line_count p) (pos 0), no_terms_yet p r (replicate (line_count p) (pos 0)) (length-replicate (line_count p) (pos 0)) (λ k d within. get_or-replicate (line_count p) k (pos 0) d (let l = length-replicate (line_count p) (pos 0) in omega (arith, within, l))))

-- ---- one term more

pub next_value : (p : Problem) (term : Term) (value next target : Fraction) → IsWhole p → IsTerm term → IsTarget p.stays term.attr target → 0 < next.den
    → IsRatio next (sum_num value term.by (pos 1) target) (sum_den value (pos 1) target) → IsNextValue p term value next
next_value p term value next target whole proper (i, s, within, is, (attr, same)) above ratio r j d less here (by, sum) = (
  _,
  one_term_more p r j i d s by value next whole less within (subst IsTerm (sym here) proper)
      (ap (λ (x : Stay). x.attr) is ∙ attr ∙ ap (λ (t : Term). t.attr) (sym here)) sum above
      (subst (λ (f : Fraction). IsRatio next (sum_num value (get_or r.terms j d).by (pos 1) f) (sum_den value (pos 1) f)) (sym (ap (λ (x : Stay). x.target) is ∙ same))
      (subst (λ (t : Term). IsRatio next (sum_num value t.by (pos 1) target) (sum_den value (pos 1) target)) (sym here) ratio)),
)

-- the numbers with the next term's
abbrev raised : Problem → List ℤ → ℤ → ℕ → RowName → ℤ
raised p by k at name = pos 1 *ℤ numbers_of (lines p) by name +ℤ (pos 1 *ℤ k) *ℤ units p at name

one_more_unfit : (p : Problem) (r : Row) (j i : ℕ) (d : Term) (s : Stay) (by : List ℤ) (value : Fraction) → IsWhole p → j < length r.terms → i < length p.stays → (stay_there p i s).attr ≡ (get_or r.terms j d).attr → IsTermsSum p r j by value
    → IsUnfitRatio (sum_num value (get_or r.terms j d).by (pos 1) (stay_there p i s).target) (sum_den value (pos 1) (stay_there p i s).target) → IsUnfitSum p r (j + 1)
one_more_unfit p r j i d s by value whole less within attr is unfit =
    let num : ℤ = sum_num value (get_or r.terms j d).by (pos 1) (stay_there p i s).target in
    let den : ℕ = value.den * (1 * (stay_there p i s).target.den) in
    let there : IsThere p (over_marks p) = begins_there p whole in
    let numbers : RowName → ℤ = raised p by (get_or r.terms j d).by (length p.rows + i) in
    let sum : IsLineSum p (over_marks p) (first_terms r (j + 1)) 1 numbers num den =
    goes_on p (over_marks p) r j d 1 (numbers_of (lines p) by) value 1 (units p (length p.rows + i)) (stay_there p i s).target numbers num den less is.sum
    (subst (λ (a : ℕ). IsLineSum p (over_marks p) (λ x. x (attr_column a)) 1 (units p (length p.rows + i)) (stay_there p i s).target.num (stay_there p i s).target.den) attr (attr_sum p i s whole within))
    (λ k l here. refl) (den_above value.den (stay_there p i s).target.den is.sum.den_positive (whole.stays i s within).target.lowest.above) refl in
    line_unfit p (over_marks p) (first_terms r (j + 1)) 1 numbers num den whole there.corner there.rays sum (λ low part value reduced ratio low_fits part_fit kept. unfit value kept.lowest ratio kept.fits)

pub next_unfit : (p : Problem) (term : Term) (value target : Fraction) → IsWhole p → IsTarget p.stays term.attr target → IsUnfitRatio (sum_num value term.by (pos 1) target) (sum_den value (pos 1) target) → IsNextTooMuch p term value
next_unfit p term value target whole (i, s, within, is, (attr, same)) unfit r j d less here (by, sum) =
    one_more_unfit p r j i d s by value whole less within (ap (λ (x : Stay). x.attr) is ∙ attr ∙ ap (λ (t : Term). t.attr) (sym here)) sum
    (subst (λ (f : Fraction). IsUnfitRatio (sum_num value (get_or r.terms j d).by (pos 1) f) (sum_den value (pos 1) f)) (sym (ap (λ (x : Stay). x.target) is ∙ same))
    (subst (λ (t : Term). IsUnfitRatio (sum_num value t.by (pos 1) target) (sum_den value (pos 1) target)) (sym here) unfit))

-- ---- as the code goes

row_is : (p : Problem) (r : Row) (P : Row → Type 0) → All P p.rows → IsRowOf p r → P r
row_is p r P each (k, s, within, is, same) = subst P (get_or_default p.rows k r s within ∙ is ∙ same) (each k r within)

pub term_has_stay : (p : Problem) (r : Row) (j : ℕ) (d : Term) → IsWhole p → IsRowOf p r → j < length r.terms → HasStay p.stays (get_or r.terms j d).attr
term_has_stay p r j d whole held less = row_is p r (IsCovered p.stays) whole.covered held j d less

pub none_before : (p : Problem) (r : Row) → DoFitBefore p r 1
none_before p r i low less unfit = absurd (omega (arith, low, less))

pub one_more_fits : (p : Problem) (r : Row) (j : ℕ) → DoFitBefore p r j → (IsUnfitSum p r j → ⊥) → DoFitBefore p r (j + 1)
one_more_fits p r j before here i low less unfit =
    elim (cases_eq i j) [
      | inl e ↦ here (subst (IsUnfitSum p r) e unfit)
      | inr ne ↦ before i low (omega (arith, less, ne)) unfit
    ]

-- ---- the whole sum less the constant

number_holds : (P : ℤ → Type 0) (ls : List Line) (by : List ℤ) (name : RowName) → P (pos 0) → Each P by → P (numbers_of ls by name)
number_holds P [] by name none all = none
number_holds P (l ∷ ls) [] name none all = none
number_holds P (l ∷ ls) (z ∷ by) name none all = either (nat_eq (place_of l.name Under) (place_of name Under)) z (numbers_of ls by name) all.0 (number_holds P ls by name none all.1)
  where
    either : (b : Bool) (x y : ℤ) → P x → P y → P (cond b x y)
    either true x y h k = h
    either false x y h k = k

pub mark_has_none : (p : Problem) (r : Row) → IsUnfitSum p r (length r.terms + 1) → HasNoWriting p (over_marks p) (λ x. x (place (over_mark r.id)))
mark_has_none p r none = same-writing p (over_marks p) (first_terms r (length r.terms + 1)) (λ x. x (place (over_mark r.id))) (λ x. past-terms r x) none

inside_fits : (p : Problem) (name : RowName) (own : ℕ) (by : List ℤ) (num : ℤ) (den : ℕ) → IsThere p (over_marks p) → IsIn (place_of name Over) (over_marks p) → IsLineEquation p (over_marks p) (deviation name) own (numbers_of (lines p) by) num den
    → IsFitting (pos own) → All IsFitting by → (v : ℕ) → IsFitting (coefficient v (inside_form Over name own (numbers_of (lines p) by) (lines p)))
inside_fits p name own by num den there inside equation own_fits fits v =
    elim (cases_eq (place_of name Under) v) [
      | inl e ↦
          subst (λ (c : ℕ). IsFitting (coefficient c (inside_form Over name own (numbers_of (lines p) by) (lines p)))) e
          (subst IsFitting (sym (other_coefficient p (over_marks p) name Over own (numbers_of (lines p) by) num den there.whole there.corner inside equation)) own_fits)
      | inr ne ↦
          subst IsFitting (sym (inside-other Over name own (numbers_of (lines p) by) (lines p) v ne))
          (coefficients_fit p (λ n. pos 1 *ℤ numbers_of (lines p) by n) there.whole
          (λ n. subst IsFitting (once (numbers_of (lines p) by n)) (number_holds IsFitting (lines p) by n (omega arith) (recursion_from_All IsFitting by fits))) v)
    ]

last_fits : (p : Problem) (r : Row) (own : ℕ) (by : List ℤ) (value : Fraction) → IsWhole p → IsRowOf p r → IsLineEquation p (over_marks p) (deviation (Held r.id)) own (numbers_of (lines p) by) value.num value.den
    → IsFitting (pos own) → All IsFitting by → IsKept value → IsUnfitSum p r (length r.terms + 1) → ⊥
last_fits p r own by value whole held equation own_fits fits kept none =
    let there : IsThere p (over_marks p) = begins_there p whole in
    let inside : IsIn (place_of (Held r.id) Over) (over_marks p) = over_inside p r held in
    mark_has_none p r none own (inside_form Over (Held r.id) own (numbers_of (lines p) by) (lines p)) (record { num = pos 1 *ℤ value.num; den = value.den })
    (mark_writing p (over_marks p) (Held r.id) Over own (numbers_of (lines p) by) value.num value.den whole there.corner inside equation) own_fits
    (inside_fits p (Held r.id) own by value.num value.den there inside equation own_fits fits)
    (subst (λ (z : ℤ). IsKept (record { num = z; den = value.den })) (once value.num) kept)
  where
    over_inside : (p : Problem) (r : Row) → IsRowOf p r → IsIn (place (over_mark r.id)) (over_marks p)
    over_inside p r (k, s, within, is, same) = subst (λ (t : Row). IsIn (place (over_mark t.id)) (over_marks p)) (get_or_default p.rows k r s within ∙ is ∙ same) (over_in p k r within)

pub sums_fit : (p : Problem) (r : Row) (sum : Sum) → IsWhole p → IsRowOf p r → IsSumOf p (over_marks p) (Held r.id) sum → IsKept sum.value → DoFitBefore p r (length r.terms + 1) → AllSumsFit p r
sums_fit p r sum whole held is kept before i low less unfit =
    one_more_fits p r (length r.terms + 1) before
    (last_fits p r (unsigned_abs sum.own) sum.by.items sum.value whole held is.equation is.sized.fits.0 is.sized.fits.1 kept) i low (omega (arith, less)) unfit

-- ---- one row of each number

pub over_number : (a b : ℕ) → over_mark a ≡ over_mark b → a ≡ b
over_number a b e = let h : place (over_mark a) ≡ place (over_mark b) = ap place e in omega (arith, h)

same_place : (rows : List Row) (k l : ℕ) (d : Row) → AllPairs (λ (r s : Row). r.id < s.id) rows → k < length rows → l < length rows → (get_or rows k d).id ≡ (get_or rows l d).id → k ≡ l
same_place rows k l d rising here there same =
    elim (cases_lt k l) [
      | inl before ↦ (let h = rising k l d before there in absurd (omega (arith, h, same)))
      | inr from ↦ elim (cases_lt l k) [
        | inl after ↦ (let h = rising l k d after here in absurd (omega (arith, h, same)))
        | inr not_after ↦ omega (arith, from, not_after)
      ]
    ]

pub same_row : (p : Problem) (r s : Row) → IsWhole p → IsRowOf p r → IsRowOf p s → r.id ≡ s.id → r ≡ s
same_row p r s whole (k, x, within, is, same) (l, y, within2, is2, same2) e =
    let here : get_or p.rows k r ≡ r = get_or_default p.rows k r x within ∙ is ∙ same in
    let there : get_or p.rows l r ≡ s = get_or_default p.rows l r y within2 ∙ is2 ∙ same2 in
    let place : k ≡ l = same_place p.rows k l r whole.rising within within2 (ap (λ (t : Row). t.id) here ∙ e ∙ ap (λ (t : Row). t.id) (sym there)) in
    sym here ∙ ap (λ (n : ℕ). get_or p.rows n r) place ∙ there

-- the sum of a row's first terms is just that row's
pub unfit_of : (p : Problem) (r : Row) (j : ℕ) → IsWhole p → IsRowOf p r → IsUnfitTerms p (over_marks p) (over_mark r.id) j → (1 ≤ j) × (j ≤ length r.terms + 1) × IsUnfitSum p r j
unfit_of p r j whole held (k, s, within, is, (mark, over, low, high, none)) =
    let e : s ≡ r = sym (same_row p r s whole held (k, s, within, is, refl) (over_number r.id s.id mark)) in
    (low, subst (λ (t : Row). j ≤ length t.terms + 1) e high, subst (λ (t : Row). IsUnfitSum p t j) e none)

pub last_is_first : (p : Problem) (r : Row) (n : ℕ) → IsWhole p → IsRowOf p r → n ≡ length r.terms + 1 → HasUnfitTerms p r → DoFitBefore p r (length r.terms + 1) → IsFirstUnfitSum p r n
last_is_first p r n whole held n_is (j, told) before =
    let unfit = unfit_of p r j whole held told in
    elim (cases_lt j (length r.terms + 1)) [
      | inl less ↦ absurd (before j unfit.0 less unfit.2)
      | inr from ↦
          let e : j ≡ n = omega (arith, from, unfit.1, n_is) in
          record { low = omega (arith, n_is); high = omega (arith, n_is); unfit = subst (IsUnfitSum p r) e unfit.2; before = subst (DoFitBefore p r) (sym n_is) before }
    ]

-- ---- line by line

pub one_more_made : (p : Problem) (n : ℕ) (r : Row) (sum : Sum) (lines : List (Option Inside)) → n < length p.rows → r ≡ get_or p.rows n r → IsSumOf p (over_marks p) (Held r.id) sum → AllSumsFit p r → AreMade p n lines
    → AreMade p (n + 1) (lines ++ Some (record { side = Over; sum = sum }) ∷ [])
one_more_made p n r sum lines within is here fits old = record {
  lines_are = one_line_more p n lines (Some (record { side = Over; sum = sum })) old.lines_are (held_line p n r sum within (sym is) here);
  fit = λ k d less.
      elim (cases_eq k n) [
        | inl e ↦ subst (AllSumsFit p) (is ∙ get_or_default p.rows n r d within ∙ ap (λ (m : ℕ). get_or p.rows m d) (sym e)) fits
        | inr ne ↦ old.fit k d (omega (arith, less, ne))
      ];
}
