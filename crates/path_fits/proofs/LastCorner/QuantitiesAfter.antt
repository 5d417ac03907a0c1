-- The equation of any quantity after an exchange, when it fits and when it does not.
use Rattle.std.proofs.Common.{◌≡◌, ◌∙◌, ℕ, ◌*◌, ◌<◌, List, length, get_or, ℤ, pos, ◌-ℤ◌, ◌*ℤ◌, ◌<ℤ◌, neg_ℤ, unsigned_abs, sym, ap, ap₂, subst, subst₂, arith, All, inl, inr, true, Some}
use Rattle.std.proofs.lemmas.Bool.{cases_eq}
use Rattle.std.proofs.lemmas.List.Elements.{recursion_from_All}
use Rattle.std.proofs.lemmas.List.{get_or_default}
use Rattle.std.proofs.Math.Nat.{eq-one_of_dvd-one}
use borrow.Author.Differences.{ints}
use Rattle.frac_core.specs.Fraction.{Fraction, IsFitting, IsKept, IsRatio, IsUnfitRatio, sum_den, sum_num}
use Rattle.frac_core.specs.declared.frac.TheConstants.{PART_BOUND}
use Rattle.problem_core.proofs.Forms.{each-impl}
use Rattle.problem_core.specs.declared.parts.Mark.{Mark}
use Rattle.problem_core.specs.declared.parts.RowName.{RowName}
use Rattle.problem_core.specs.declared.parts.Side.{Side}
use Rattle.problem_core.specs.Layout.{Problem, coefficient, lines, sum_of}
use Rattle.problem_core.specs.Kept.{IsWhole}
use Rattle.problem_core.specs.Corners.{IsIn, place_of}
use Rattle.problem_core.specs.Unfit.{HasNoWriting}
use Rattle.corner_laws.proofs.LinePlaces.{lines_apart}
use Rattle.corner_laws.specs.Runs.{other_side}
use Rattle.corner_lines.specs.LineEquations.{IsLineEquation, IsLineSum, IsUnfitLine, deviation, inside_form, mark_form, sign_of}
use Rattle.corner_lines.proofs.Lines.LineExchanges.{line_turns}
use Rattle.corner_lines.proofs.Lines.LineUnfits.{line_sum, line_unfit, mark_has_none, reduced_line, signed-kept as signed_kept}
use Rattle.corner_lines.proofs.Lines.LineWritings.{inside-other, line_writing, mark_writing, other_coefficient, same-abs}
use Rattle.corner_lines.proofs.Lines.MarkForms.{by-places}
use Rattle.path_lines.specs.declared.exchange.Pivot.{Pivot}
use Rattle.path_lines.specs.declared.table.Inside.{Inside}
use Rattle.path_lines.specs.declared.table.Sum.{Sum}
use Rattle.path_lines.specs.Numbers.{AreFitting, AreLowest, AreUnfit, IsCombined, number_at}
use Rattle.path_lines.specs.Exchanges.Pivots.{IsPivotAt, next_marks}
use Rattle.path_lines.specs.Tables.{IsLineAt, IsSized, IsSumOf, IsThere, line_count, name_at, numbers_of, swap_of}
use Rattle.path_lines.proofs.Exchanges.CarriedSums.{carried_line_sum, parts_product}
use Rattle.path_lines.proofs.Exchanges.EnteringLine.{at_place}
use Rattle.path_lines.proofs.Walking.FirstLines.{units, units_here, units_other}
use Rattle.path_lines.proofs.Exchanges.NextLines.{sized_from}
use Rattle.path_lines.proofs.Arithmetic.NumbersOf.{reduced_numbers}
use Rattle.path_lines.proofs.Places.{mark_is_there, name_there, names_differ, number_there}
use Rattle.path_lines.proofs.Arithmetic.Unfits.{unfit_list_is_unfit}
use Rattle.path_fits.specs.Sums.{IsCopy, IsQuantitySum, IsUnitList, IsUnitSum, IsSumAfter, IsUnfitLineAt}
use Rattle.path_levels.specs.Exchanges.Pivots.{IsExchangePivot}
use Rattle.path_fits.proofs.LastCorner.SumsAfter.{den_after, entered_by, enters_of, num_after}
use Rattle.problem_core.proofs.Corners.Conflicts.{sum-each}
use Rattle.frac_core.proofs.Fitting.{neg-fits as neg_fits}
use Rattle.frac_core.proofs.Numbers.{pos-size as up}
use Rattle.frac_core.proofs.Divisors.{size_above as some_up}
use Rattle.path_levels.proofs.Exchanges.FitFacts.{next_is_there as corner_after}

-- ---- the same numbers

pub copied_sum : (p : Problem) (at : List Mark) (quantity : (ℕ → ℤ) → ℤ) (sum next : Sum) (value : Fraction) → IsCopy sum value next → IsSized (line_count p) sum
    → IsLineEquation p at quantity (unsigned_abs sum.own) (numbers_of (lines p) sum.by.items) value.num value.den → IsQuantitySum p at quantity next
copied_sum p at quantity sum next value copy sized e = record {
  sized = record {
    count_is = ap (λ (zs : List ℤ). length zs) copy.by ∙ sized.count_is;
    above = subst (λ (z : ℤ). pos 0 <ℤ z) (sym copy.own) sized.above;
    fits = (subst IsFitting (sym copy.own) sized.fits.0, subst (λ (zs : List ℤ). All IsFitting zs) (sym copy.by) sized.fits.1);
  };
  equation = subst (λ (f : Fraction). IsLineEquation p at quantity (unsigned_abs next.own) (numbers_of (lines p) next.by.items) f.num f.den) (sym copy.value_is)
      (subst₂ (λ (z : ℤ) (zs : List ℤ). IsLineEquation p at quantity (unsigned_abs z) (numbers_of (lines p) zs) value.num value.den) (sym copy.own) (sym copy.by) e);
}

pub copied_sized : (count : ℕ) (sum next : Sum) (value : Fraction) → IsCopy sum value next → IsSized count sum → IsSized count next
copied_sized count sum next value copy sized = record {
  count_is = ap (λ (zs : List ℤ). length zs) copy.by ∙ sized.count_is;
  above = subst (λ (z : ℤ). pos 0 <ℤ z) (sym copy.own) sized.above;
  fits = (subst IsFitting (sym copy.own) sized.fits.0, subst (λ (zs : List ℤ). All IsFitting zs) (sym copy.by) sized.fits.1);
}

-- after a turn nothing changes
pub turned_after : (pivot : Pivot) (sum next : Sum) → pivot.is_turn ≡ true → IsCopy sum sum.value next → IsSumAfter pivot sum next
turned_after pivot sum next turn copy p at quantity is s =
    copied_sum p (next_marks p pivot at) quantity sum next sum.value copy s.sized
    (line_turns p at (swap_of p pivot.step) quantity (unsigned_abs sum.own) (numbers_of (lines p) sum.by.items) sum.value.num sum.value.den is.there.corner is.exchange.leaves (ap (name_at p) (is.sized.turn turn)) s.equation)

-- ---- an exchange of two lines

-- the sum with the pivot put in, before it is divided
abbrev pub num_put : Problem → Pivot → Sum → ℤ
num_put p pivot sum = sum_num sum.value (numbers_of (lines p) sum.by.items (name_at p pivot.step.enter.at)) (pos (unsigned_abs sum.own)) (enters_of pivot)

abbrev pub den_put : Pivot → Sum → ℕ
den_put pivot sum = sum.value.den * (unsigned_abs sum.own * (enters_of pivot).den)

put_sum : (p : Problem) (at : List Mark) (quantity : (ℕ → ℤ) → ℤ) (pivot : Pivot) (sum : Sum) (out : List ℤ) → IsPivotAt p at pivot → IsQuantitySum p at quantity sum
    → IsCombined pivot.size sum.by.items (number_at sum.by.items pivot.step.enter.at) pivot.by.items out
    → IsLineSum p (next_marks p pivot at) quantity (unsigned_abs pivot.size * unsigned_abs sum.own) (numbers_of (lines p) out) (num_put p pivot sum) (den_put pivot sum)
put_sum p at quantity pivot sum out is s combined =
    let entered = entered_by pivot is.above is.value_den in
    let number : numbers_of (lines p) sum.by.items (name_at p pivot.step.enter.at) ≡ number_at sum.by.items pivot.step.enter.at = number_there p sum.by.items pivot.step.enter.at is.there.whole s.sized.count_is is.enter_at in
    let combined_is : IsCombined (pos (unsigned_abs pivot.size)) sum.by.items (numbers_of (lines p) sum.by.items (name_at p pivot.step.enter.at)) pivot.by.items out =
    subst₂ (λ (k m : ℤ). IsCombined k sum.by.items m pivot.by.items out) (sym (up pivot.size is.above)) (sym number) combined in
    carried_line_sum p at (swap_of p pivot.step) quantity (unsigned_abs sum.own) (unsigned_abs pivot.size) sum.by.items pivot.by.items out sum.value (enters_of pivot) is.there.whole
    (mark_is_there p pivot.step.enter.at pivot.step.enter.side is.enter_at) is.exchange.leaves s.sized.count_is s.equation.den_positive entered.0 (some_up sum.own s.sized.above)
    (line_sum p at quantity (unsigned_abs sum.own) (numbers_of (lines p) sum.by.items) sum.value.num sum.value.den s.equation) (is.solved (enters_of pivot) entered) combined_is

-- its value is as it is computed
put_num : (p : Problem) (at : List Mark) (quantity : (ℕ → ℤ) → ℤ) (pivot : Pivot) (sum : Sum) → IsPivotAt p at pivot → IsQuantitySum p at quantity sum
    → num_put p pivot sum ≡ sum_num sum.value (number_at sum.by.items pivot.step.enter.at *ℤ pivot.times) (sum.own *ℤ pivot.size) pivot.value
put_num p at quantity pivot sum is s =
    ap₂ (λ (n o : ℤ). sum_num sum.value n o (enters_of pivot)) (number_there p sum.by.items pivot.step.enter.at is.there.whole s.sized.count_is is.enter_at) (up sum.own s.sized.above)
    ∙ num_after sum.value (number_at sum.by.items pivot.step.enter.at) sum.own pivot is.above is.value_den

put_den : (p : Problem) (at : List Mark) (quantity : (ℕ → ℤ) → ℤ) (pivot : Pivot) (sum : Sum) → IsPivotAt p at pivot → IsQuantitySum p at quantity sum
    → pos (den_put pivot sum) ≡ sum_den sum.value (sum.own *ℤ pivot.size) pivot.value
put_den p at quantity pivot sum is s =
    parts_product sum.value.den (unsigned_abs sum.own) (enters_of pivot).den
    ∙ ap (λ (o : ℤ). sum_den sum.value o (enters_of pivot)) (up sum.own s.sized.above) ∙ den_after sum.value sum.own pivot is.above is.value_den

pub product_is : (a b : ℤ) → pos 0 <ℤ a → pos 0 <ℤ b → pos (unsigned_abs a * unsigned_abs b) ≡ a *ℤ b
product_is a b a_up b_up = ap₂ ◌*ℤ◌ (up a a_up) (up b b_up)

pub moved_after : (p : Problem) (at : List Mark) (quantity : (ℕ → ℤ) → ℤ) (pivot : Pivot) (sum next : Sum) (own low : ℤ) (out part : List ℤ) (value : Fraction) → IsPivotAt p at pivot → IsQuantitySum p at quantity sum → own ≡ pivot.size *ℤ sum.own
    → IsCombined pivot.size sum.by.items (number_at sum.by.items pivot.step.enter.at) pivot.by.items out → AreLowest own out low part → pos 0 <ℤ low → AreFitting low part → 0 < value.den
    → IsRatio value (sum_num sum.value (number_at sum.by.items pivot.step.enter.at *ℤ pivot.times) (sum.own *ℤ pivot.size) pivot.value) (sum_den sum.value (sum.own *ℤ pivot.size) pivot.value)
    → next.own ≡ low → next.by.items ≡ part → next.value ≡ value → IsQuantitySum p (next_marks p pivot at) quantity next
moved_after p at quantity pivot sum next own low out part value is s own_is combined are above fits den ratio next_own next_by next_value =
    let long : length out ≡ line_count p = combined.count ∙ s.sized.count_is in
    let lowest : AreLowest (pos (unsigned_abs pivot.size * unsigned_abs sum.own)) out (pos (unsigned_abs low)) part =
    subst₂ (λ (x y : ℤ). AreLowest x out y part) (own_is ∙ sym (product_is pivot.size sum.own is.above s.sized.above)) (sym (up low above)) are in
    let e : IsLineEquation p (next_marks p pivot at) quantity (unsigned_abs low) (numbers_of (lines p) part) value.num value.den =
    reduced_line p (next_marks p pivot at) quantity (unsigned_abs pivot.size * unsigned_abs sum.own) (numbers_of (lines p) out) (num_put p pivot sum) (den_put pivot sum) (unsigned_abs low) (numbers_of (lines p) part) value
    (put_sum p at quantity pivot sum out is s combined)
    (reduced_numbers p (unsigned_abs pivot.size * unsigned_abs sum.own) (unsigned_abs low) out part is.there.whole long (some_up low above) lowest) den
    (subst₂ (λ (n d : ℤ). IsRatio value n d) (sym (put_num p at quantity pivot sum is s)) (sym (put_den p at quantity pivot sum is s)) ratio) in
    record {
      sized = sized_from (line_count p) next own low out part are long above fits next_own next_by;
      equation = subst (λ (f : Fraction). IsLineEquation p (next_marks p pivot at) quantity (unsigned_abs next.own) (numbers_of (lines p) next.by.items) f.num f.den) (sym next_value)
          (subst₂ (λ (z : ℤ) (zs : List ℤ). IsLineEquation p (next_marks p pivot at) quantity (unsigned_abs z) (numbers_of (lines p) zs) value.num value.den) (sym next_own) (sym next_by) e);
    }

told : (p : Problem) (at : List Mark) (quantity : (ℕ → ℤ) → ℤ) (pivot : Pivot) (sum : Sum) (out : List ℤ) → IsExchangePivot p at pivot → IsPivotAt p at pivot → IsQuantitySum p at quantity sum
    → IsCombined pivot.size sum.by.items (number_at sum.by.items pivot.step.enter.at) pivot.by.items out
    → IsUnfitLine p (unsigned_abs pivot.size * unsigned_abs sum.own) (numbers_of (lines p) out) (num_put p pivot sum) (den_put pivot sum) → HasNoWriting p (next_marks p pivot at) quantity
told p at quantity pivot sum out turn is s combined unfit =
    let there : IsThere p (next_marks p pivot at) = corner_after p at pivot turn in
    line_unfit p (next_marks p pivot at) quantity (unsigned_abs pivot.size * unsigned_abs sum.own) (numbers_of (lines p) out) (num_put p pivot sum) (den_put pivot sum) there.whole there.corner there.rays
    (put_sum p at quantity pivot sum out is s combined) unfit

pub list_unfit_after : (p : Problem) (at : List Mark) (quantity : (ℕ → ℤ) → ℤ) (pivot : Pivot) (sum : Sum) (own : ℤ) (out : List ℤ) → IsExchangePivot p at pivot → IsPivotAt p at pivot → IsQuantitySum p at quantity sum → own ≡ pivot.size *ℤ sum.own
    → IsCombined pivot.size sum.by.items (number_at sum.by.items pivot.step.enter.at) pivot.by.items out → AreUnfit own out → HasNoWriting p (next_marks p pivot at) quantity
list_unfit_after p at quantity pivot sum own out turn is s own_is combined unfit =
    told p at quantity pivot sum out turn is s combined
    (unfit_list_is_unfit p (unsigned_abs pivot.size * unsigned_abs sum.own) out (num_put p pivot sum) (den_put pivot sum) is.there.whole (combined.count ∙ s.sized.count_is)
    (subst (λ (z : ℤ). AreUnfit z out) (own_is ∙ sym (product_is pivot.size sum.own is.above s.sized.above)) unfit))

pub value_unfit_after : (p : Problem) (at : List Mark) (quantity : (ℕ → ℤ) → ℤ) (pivot : Pivot) (sum : Sum) (out : List ℤ) → IsExchangePivot p at pivot → IsPivotAt p at pivot → IsQuantitySum p at quantity sum
    → IsCombined pivot.size sum.by.items (number_at sum.by.items pivot.step.enter.at) pivot.by.items out
    → IsUnfitRatio (sum_num sum.value (number_at sum.by.items pivot.step.enter.at *ℤ pivot.times) (sum.own *ℤ pivot.size) pivot.value) (sum_den sum.value (sum.own *ℤ pivot.size) pivot.value)
    → HasNoWriting p (next_marks p pivot at) quantity
value_unfit_after p at quantity pivot sum out turn is s combined unfit =
    told p at quantity pivot sum out turn is s combined
    (λ low part value reduced ratio low_fits part_fit kept.
    unfit value kept.lowest (subst₂ (λ (n d : ℤ). IsRatio value n d) (put_num p at quantity pivot sum is s) (put_den p at quantity pivot sum is s) ratio) kept.fits)

-- ---- what fits

-- numbers that fit make a form that fits
pub form_fits : (p : Problem) (by : RowName → ℤ) → IsWhole p → All (λ l. IsFitting (by l.name)) (lines p) → (v : ℕ) → IsFitting (coefficient v (mark_form by (lines p)))
form_fits p by whole fits =
    by-places (λ v z. IsFitting z) by (lines p) (lines_apart p whole) (λ v. omega arith)
    (each-impl (λ l. IsFitting (by l.name)) (λ l. IsFitting (by l.name) × IsFitting (neg_ℤ (by l.name))) (lines p) (λ l h. (h, neg_fits (by l.name) h)) (recursion_from_All (λ l. IsFitting (by l.name)) (lines p) fits))

numbers_fit : (p : Problem) (by : List ℤ) → IsWhole p → length by ≡ line_count p → All IsFitting by → All (λ l. IsFitting (numbers_of (lines p) by l.name)) (lines p)
numbers_fit p by whole count fits k d within = subst IsFitting (sym (at_place (lines p) by k d (lines_apart p whole) count within)) (fits k (pos 0) (omega (arith, within, count)))

pub quantity_fits : (p : Problem) (at : List Mark) (quantity : (ℕ → ℤ) → ℤ) (sum : Sum) → IsThere p at → IsQuantitySum p at quantity sum → IsKept sum.value → HasNoWriting p at quantity → ⊥
quantity_fits p at quantity sum there s kept none =
    none (unsigned_abs sum.own) (mark_form (numbers_of (lines p) sum.by.items) (lines p)) sum.value
    (line_writing p at quantity (unsigned_abs sum.own) (numbers_of (lines p) sum.by.items) sum.value.num sum.value.den there.whole s.equation)
    s.sized.fits.0 (form_fits p (numbers_of (lines p) sum.by.items) there.whole (numbers_fit p sum.by.items there.whole s.sized.count_is s.sized.fits.1)) kept

pub mark_fits : (p : Problem) (at : List Mark) (name : RowName) (inside : Inside) → IsThere p at → IsLineAt p at name (Some inside) → IsKept inside.sum.value → HasNoWriting p at (λ x. x (place_of name inside.side)) → ⊥
mark_fits p at name inside there line kept none =
    let own : ℕ = unsigned_abs inside.sum.own in
    let by : RowName → ℤ = numbers_of (lines p) inside.sum.by.items in
    let by_fit : All (λ l. IsFitting (sign_of inside.side *ℤ by l.name)) (lines p) =
    λ k d within. subst (λ (n : ℕ). n < PART_BOUND) (sym (same-abs inside.side (by (get_or (lines p) k d).name))) (numbers_fit p inside.sum.by.items there.whole line.1.sized.count_is line.1.sized.fits.1 k d within) in
    none own (inside_form inside.side name own by (lines p)) (record { num = sign_of inside.side *ℤ inside.sum.value.num; den = inside.sum.value.den })
    (mark_writing p at name inside.side own by inside.sum.value.num inside.sum.value.den there.whole there.corner line.0 line.1.equation)
    line.1.sized.fits.0
    (λ v. elim (cases_eq (place_of name (other_side inside.side)) v) [
      | inl e ↦ subst (λ (c : ℕ). IsFitting (coefficient c (inside_form inside.side name own by (lines p)))) e
          (subst IsFitting (sym (other_coefficient p at name inside.side own by inside.sum.value.num inside.sum.value.den there.whole there.corner line.0 line.1.equation)) line.1.sized.fits.0)
      | inr ne ↦ subst IsFitting (sym (inside-other inside.side name own by (lines p) v ne)) (form_fits p (λ n. sign_of inside.side *ℤ by n) there.whole by_fit v)
    ])
    (signed_kept inside.side inside.sum.value kept)

-- ---- a line

-- an outside line's own deviation
unit_fits : (count k : ℕ) (by : List ℤ) → IsUnitList count k by → All IsFitting by
unit_fits count k by is q d less =
    elim (cases_eq q k) [
      | inl e ↦ subst IsFitting (sym (get_or_default by q d (pos 0) less ∙ ap (number_at by) e ∙ is.here (subst (λ (i : ℕ). i < count) e (omega (arith, less, is.count_is))))) (omega arith)
      | inr ne ↦ subst IsFitting (sym (get_or_default by q d (pos 0) less ∙ is.others q (omega (arith, less, is.count_is)) ne)) (omega arith)
    ]

pub unit_sized : (count k : ℕ) (value : Fraction) (sum : Sum) → IsUnitSum count k value sum → IsSized count sum
unit_sized count k value sum is = record {
  count_is = is.by.count_is;
  above = subst (λ (z : ℤ). pos 0 <ℤ z) (sym is.own) (omega (arith, ints));
  fits = (subst IsFitting (sym is.own) (omega arith), unit_fits count k sum.by.items is.by);
}

pub unit_equation : (p : Problem) (at : List Mark) (k : ℕ) (sum : Sum) (quantity : (ℕ → ℤ) → ℤ) (value : Fraction) → IsThere p at → k < line_count p → IsUnitSum (line_count p) k value sum
    → IsLineSum p at quantity 1 (units p k) value.num value.den → IsQuantitySum p at quantity sum
unit_equation p at k sum quantity value there within is s = record {
  sized = unit_sized (line_count p) k value sum is;
  equation = subst₂ (λ (z : ℤ) (f : Fraction). IsLineEquation p at quantity (unsigned_abs z) (numbers_of (lines p) sum.by.items) f.num f.den) (sym is.own) (sym is.value_is)
      (unit_is p at k sum.by.items quantity value.num value.den there.whole within is.by s);
}
  where
    unit_number : (p : Problem) (k : ℕ) (by : List ℤ) → IsWhole p → k < line_count p → IsUnitList (line_count p) k by → All (λ l. units p k l.name ≡ numbers_of (lines p) by l.name) (lines p)
    unit_number p k by whole within is q d less =
        let here : numbers_of (lines p) by (get_or (lines p) q d).name ≡ number_at by q = at_place (lines p) by q d (lines_apart p whole) is.count_is less in
        let name : (get_or (lines p) q d).name ≡ name_at p q = name_there p q d less in
        elim (cases_eq q k) [
          | inl e ↦ units_here p k (get_or (lines p) q d).name (name ∙ ap (name_at p) e) ∙ sym (here ∙ ap (number_at by) e ∙ is.here within)
          | inr ne ↦ units_other p k (get_or (lines p) q d).name (λ same. names_differ p q k whole less within ne (sym name ∙ same)) ∙ sym (here ∙ is.others q less ne)
        ]

    unit_is : (p : Problem) (at : List Mark) (k : ℕ) (by : List ℤ) (quantity : (ℕ → ℤ) → ℤ) (num : ℤ) (den : ℕ) → IsWhole p → k < line_count p → IsUnitList (line_count p) k by → IsLineSum p at quantity 1 (units p k) num den
        → IsLineEquation p at quantity 1 (numbers_of (lines p) by) num den
    unit_is p at k by quantity num den whole within is s =
        let same = unit_number p k by whole within is in
        let sums : (x : ℕ → ℤ) → sum_of (λ l. units p k l.name *ℤ deviation l.name x) (lines p) ≡ sum_of (λ l. numbers_of (lines p) by l.name *ℤ deviation l.name x) (lines p) =
        λ x. sum-each (λ l. units p k l.name *ℤ deviation l.name x) (λ l. numbers_of (lines p) by l.name *ℤ deviation l.name x) (lines p)
        (recursion_from_All (λ l. units p k l.name *ℤ deviation l.name x ≡ numbers_of (lines p) by l.name *ℤ deviation l.name x) (lines p) (λ q d less. ap (λ (z : ℤ). z *ℤ deviation (get_or (lines p) q d).name x) (same q d less))) in
        record {
          own_positive = s.own_positive;
          den_positive = s.den_positive;
          outside = λ q d less some. s.outside q d less (λ none. some (sym (same q d less) ∙ none));
          holds = λ x solves. ap (λ (z : ℤ). pos den *ℤ (pos 1 *ℤ quantity x.num -ℤ z)) (sym (sums x.num)) ∙ s.holds x solves;
          lowest = λ i d all. eq-one_of_dvd-one d;
        }

-- the line after the exchange, or that it does not fit
pub line_unfit_after : (p : Problem) (at : List Mark) (pivot : Pivot) (name : RowName) (side : Side) → IsExchangePivot p at pivot → IsIn (place_of name side) (next_marks p pivot at) → HasNoWriting p (next_marks p pivot at) (deviation name) → IsUnfitLineAt p (next_marks p pivot at) name
line_unfit_after p at pivot name side is inside none =
    let there : IsThere p (next_marks p pivot at) = corner_after p at pivot is in
    (side, (inside, mark_has_none p (next_marks p pivot at) name side there.whole there.corner inside none))

pub line_sum_is : (p : Problem) (at : List Mark) (name : RowName) (sum : Sum) → IsQuantitySum p at (deviation name) sum → IsSumOf p at name sum
line_sum_is p at name sum s = record { sized = s.sized; equation = s.equation }
