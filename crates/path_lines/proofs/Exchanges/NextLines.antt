-- The lines' equations at the next corner, and when one does not fit.
use Rattle.std.proofs.Common.{◌≡◌, ◌≢◌, ◌∙◌, ◌↔◌, Bool, false, IsTrue, ℕ, zero, suc, ◌*◌, ◌<◌, List, get_or, length, ℤ, pos, negsuc, ◌*ℤ◌, ◌<ℤ◌, unsigned_abs, refl, sym, ap, subst, subst₂, arith, inl, inr}
use Rattle.std.proofs.lemmas.List.{length-map}
use borrow.Author.Differences.{ints}
use Rattle.frac_core.proofs.Integers.{mul_positive}
use Rattle.frac_core.specs.Fraction.{Fraction, IsLowest, IsRatio, IsUnfitRatio, sum_den, sum_num}
use Rattle.problem_core.specs.declared.parts.Mark.{Mark}
use Rattle.problem_core.specs.declared.parts.RowName.{RowName}
use Rattle.problem_core.specs.declared.parts.Side.{Side}
use Rattle.problem_core.specs.declared.parts.Side.TheVariants.{Under, Over}
use Rattle.problem_core.specs.declared.stops.What.TheVariants.{Mark as MarkOf}
use Rattle.problem_core.specs.Layout.{Problem, lines}
use Rattle.problem_core.specs.Kept.{IsWhole}
use Rattle.problem_core.specs.Corners.{IsIn, Swap, exchanged, place, place_of}
use Rattle.problem_core.specs.Unfit.{HasNoWriting}
use Rattle.problem_core.specs.Window.{zero_fraction}
use Rattle.corner_laws.specs.Laws.{IsMarkAt}
use Rattle.corner_laws.proofs.Exchanged.{exchanged_in}
use Rattle.corner_laws.proofs.Rays.{rays_after}
use Rattle.corner_lines.specs.LineEquations.{IsLineEquation, IsLineSum, IsOutsideLine, IsUnfitLine, deviation}
use Rattle.corner_lines.proofs.LevelRows.LevelExchanges.{by-sides}
use Rattle.corner_lines.proofs.Lines.LineUnfits.{mark_unfit, reduced_line, line_sum}
use Rattle.path_lines.specs.declared.exchange.Pivot.{Pivot}
use Rattle.path_lines.specs.declared.table.Sum.{Sum}
use Rattle.path_lines.specs.Numbers.{AreFitting, AreLowest, AreUnfit, IsCombined, IsReplaced, number_at}
use Rattle.path_lines.specs.Exchanges.Carried.{IsPivotOf, without}
use Rattle.path_lines.specs.Tables.{IsSized, IsSumOf, IsThere, line_count, mark_of, name_at, numbers_of, swap_of}
use Rattle.path_lines.specs.Exchanges.Pivots.{HasUnfit, IsEnteredBy, IsPivotAt, next_marks}
use Rattle.path_lines.proofs.Exchanges.CarriedSums.{carried_line_sum}
use Rattle.path_lines.proofs.Exchanges.EnteringLine.{entering_is_equation, entering_line_sum}
use Rattle.path_lines.proofs.Exchanges.Exchanging.{one_side}
use Rattle.path_lines.proofs.Arithmetic.NumbersOf.{reduced_numbers}
use Rattle.path_lines.proofs.Iffs.{wrong_then}
use Rattle.path_lines.proofs.Places.{mark_is_there, name_there, names_differ, number_there}
use Rattle.path_lines.proofs.Arithmetic.Unfits.{unfit_list_is_unfit}
use Rattle.frac_core.proofs.Numbers.{pos-size as up, product-up as positive_product}
use Rattle.frac_core.proofs.Divisors.{size_above as some_up}
use Rattle.problem_core.proofs.Marks.{entered-in as enter_in, kept-in as kept_in}

pub next_there : (p : Problem) (at : List Mark) (pivot : Pivot) → IsPivotAt p at pivot → IsThere p (next_marks p pivot at)
next_there p at pivot is = record {
  whole = is.there.whole;
  corner = is.exchange.corner;
  rays = rays_after p at (swap_of p pivot.step) (mark_is_there p pivot.step.enter.at pivot.step.enter.side is.enter_at) is.exchange is.there.rays;
}

pub lowest_count : (own low : ℤ) (by part : List ℤ) → AreLowest own by low part → length part ≡ length by
lowest_count own low by part are = sym (length-map part (λ (z : ℤ). pos are.factor *ℤ z)) ∙ ap length are.same

-- ---- the entering line

enter_signed : (p : Problem) (at : List Mark) (s : Swap) (size low : ℤ) (e : ℕ) (pivot out part : List ℤ) (enters : Fraction) → IsWhole p → e < line_count p → name_at p e ≡ s.enter.row → pos 0 <ℤ size → pos 0 <ℤ low
    → IsPivotOf p at s (unsigned_abs size) pivot enters → IsReplaced (pos 1) pivot e (pos 0) out → AreLowest size out low part
    → IsLineEquation p (exchanged s at) (deviation s.enter.row) (unsigned_abs low) (numbers_of (lines p) part) enters.num enters.den
enter_signed p at s (pos size) (pos low) e pivot out part enters whole inside named above some is replaced are = entering_is_equation p at s size low e pivot out part enters whole inside named is replaced are (some_up (pos low) some)
enter_signed p at s (negsuc size) low e pivot out part enters whole inside named above some is replaced are = absurd above.lt
enter_signed p at s (pos size) (negsuc low) e pivot out part enters whole inside named above some is replaced are = absurd some.lt

pub entering_next : (p : Problem) (at : List Mark) (pivot : Pivot) (enters : Fraction) (sum : Sum) (out : List ℤ) → IsPivotAt p at pivot → IsEnteredBy pivot enters → IsReplaced (pos 1) pivot.by.items pivot.step.enter.at (pos 0) out
    → AreLowest pivot.size out sum.own sum.by.items → pos 0 <ℤ sum.own → AreFitting sum.own sum.by.items → sum.value ≡ enters → IsSumOf p (next_marks p pivot at) (name_at p pivot.step.enter.at) sum
entering_next p at pivot enters sum out is entered replaced are some fits value = record {
  sized = record {
    count_is = lowest_count pivot.size sum.own out sum.by.items are ∙ replaced.count ∙ (is.solved enters entered).count;
    above = some;
    fits = fits;
  };
  equation = subst (λ (v : Fraction). IsLineEquation p (next_marks p pivot at) (deviation (name_at p pivot.step.enter.at)) (unsigned_abs sum.own) (numbers_of (lines p) sum.by.items) v.num v.den) (sym value)
      (enter_signed p at (swap_of p pivot.step) pivot.size sum.own pivot.step.enter.at pivot.by.items out sum.by.items enters is.there.whole is.enter_at refl is.above some (is.solved enters entered) replaced are);
}

enter_unfit : (p : Problem) (at : List Mark) (s : Swap) (size : ℤ) (e : ℕ) (pivot out : List ℤ) (enters : Fraction) → IsThere p (exchanged s at) → e < line_count p → name_at p e ≡ s.enter.row → IsIn (place s.leave) at → pos 0 <ℤ size
    → IsPivotOf p at s (unsigned_abs size) pivot enters → IsReplaced (pos 1) pivot e (pos 0) out → AreUnfit size out → HasNoWriting p (exchanged s at) (λ x. x (place s.enter))
enter_unfit p at s (pos size) e pivot out enters there inside named leaves above is replaced unfit =
    mark_unfit p (exchanged s at) s.enter.row s.enter.side size (numbers_of (lines p) out) enters.num enters.den there.whole there.corner there.rays (enter_in s at leaves)
    (entering_line_sum p at s size e pivot out enters there.whole inside named is replaced)
    (unfit_list_is_unfit p size out enters.num enters.den there.whole (replaced.count ∙ is.count) unfit)
enter_unfit p at s (negsuc size) e pivot out enters there inside named leaves above is replaced unfit = absurd above.lt

pub entering_unfit : (p : Problem) (at : List Mark) (pivot : Pivot) (enters : Fraction) (out : List ℤ) → IsPivotAt p at pivot → IsEnteredBy pivot enters → IsReplaced (pos 1) pivot.by.items pivot.step.enter.at (pos 0) out → AreUnfit pivot.size out
    → HasUnfit p (next_marks p pivot at)
entering_unfit p at pivot enters out is entered replaced unfit = (
  MarkOf (mark_of p pivot.step.enter),
  (
    enter_in (swap_of p pivot.step) at is.exchange.leaves,
    enter_unfit p at (swap_of p pivot.step) pivot.size pivot.step.enter.at pivot.by.items out enters (next_there p at pivot is) is.enter_at refl is.exchange.leaves is.above (is.solved enters entered) replaced unfit,
  ),
)

-- ---- another inside line

-- its sum before it is divided
abbrev IsCarriedSum : Problem → List Mark → Swap → RowName → (own size number : ℤ) → List ℤ → Fraction → Fraction → Type 0
IsCarriedSum p at s name own size number out value enters = (count : length out ≡ line_count p)
    × IsLineSum p (exchanged s at) (deviation name) (unsigned_abs size * unsigned_abs own) (numbers_of (lines p) out) (sum_num value number own enters) (value.den * (unsigned_abs own * enters.den))

carried_signed : (p : Problem) (at : List Mark) (s : Swap) (name : RowName) (own size number : ℤ) (by pivot out : List ℤ) (value enters : Fraction) → IsWhole p → IsMarkAt p (place s.enter) → IsIn (place s.leave) at → length by ≡ line_count p → pos 0 <ℤ own → pos 0 <ℤ size
    → number ≡ numbers_of (lines p) by s.enter.row → 0 < enters.den → IsLineEquation p at (deviation name) (unsigned_abs own) (numbers_of (lines p) by) value.num value.den → IsPivotOf p at s (unsigned_abs size) pivot enters
    → IsCombined size by number pivot out → IsCarriedSum p at s name own size number out value enters
carried_signed p at s name (pos own) (pos size) number by pivot out value enters whole mark leaves count own_up size_up is den e pivot_is combined = (
  combined.count ∙ count,
  subst (λ (z : ℤ). IsLineSum p (exchanged s at) (deviation name) (size * own) (numbers_of (lines p) out) (sum_num value z (pos own) enters) (value.den * (own * enters.den))) (sym is)
      (carried_line_sum p at s (deviation name) own size by pivot out value enters whole mark leaves count e.den_positive den (some_up (pos own) own_up) (line_sum p at (deviation name) own (numbers_of (lines p) by) value.num value.den e) pivot_is
      (subst (λ (z : ℤ). IsCombined (pos size) by z pivot out) is combined)),
)
carried_signed p at s name (negsuc own) size number by pivot out value enters whole mark leaves count own_up size_up is den e pivot_is combined = absurd own_up.lt
carried_signed p at s name (pos own) (negsuc size) number by pivot out value enters whole mark leaves count own_up size_up is den e pivot_is combined = absurd size_up.lt

carried_is : (p : Problem) (at : List Mark) (pivot : Pivot) (name : RowName) (enters : Fraction) (sum : Sum) (out : List ℤ) → IsPivotAt p at pivot → IsEnteredBy pivot enters → IsSumOf p at name sum
    → IsCombined pivot.size sum.by.items (number_at sum.by.items pivot.step.enter.at) pivot.by.items out
    → IsCarriedSum p at (swap_of p pivot.step) name sum.own pivot.size (number_at sum.by.items pivot.step.enter.at) out sum.value enters
carried_is p at pivot name enters sum out is entered sum_is combined =
    carried_signed p at (swap_of p pivot.step) name sum.own pivot.size (number_at sum.by.items pivot.step.enter.at) sum.by.items pivot.by.items out sum.value enters is.there.whole
    (mark_is_there p pivot.step.enter.at pivot.step.enter.side is.enter_at) is.exchange.leaves sum_is.sized.count_is sum_is.sized.above is.above
    (sym (number_there p sum.by.items pivot.step.enter.at is.there.whole sum_is.sized.count_is is.enter_at)) entered.0 sum_is.equation (is.solved enters entered) combined

divide_signed : (p : Problem) (next : List Mark) (name : RowName) (own size low : ℤ) (out part : List ℤ) (num : ℤ) (own_den : ℕ) (value : Fraction) → IsWhole p → length out ≡ line_count p → pos 0 <ℤ own → pos 0 <ℤ size → pos 0 <ℤ low
    → IsLineSum p next (deviation name) (unsigned_abs size * unsigned_abs own) (numbers_of (lines p) out) num own_den → AreLowest (size *ℤ own) out low part → 0 < value.den → IsRatio value num (pos own_den)
    → IsLineEquation p next (deviation name) (unsigned_abs low) (numbers_of (lines p) part) value.num value.den
divide_signed p next name (pos own) (pos size) (pos low) out part num own_den value whole count own_up size_up low_up sum are den ratio =
    reduced_line p next (deviation name) (size * own) (numbers_of (lines p) out) num own_den low (numbers_of (lines p) part) value sum (reduced_numbers p (size * own) low out part whole count (some_up (pos low) low_up) are) den ratio
divide_signed p next name (negsuc own) size low out part num own_den value whole count own_up size_up low_up sum are den ratio = absurd own_up.lt
divide_signed p next name (pos own) (negsuc size) low out part num own_den value whole count own_up size_up low_up sum are den ratio = absurd size_up.lt
divide_signed p next name (pos own) (pos size) (negsuc low) out part num own_den value whole count own_up size_up low_up sum are den ratio = absurd low_up.lt

den_is : (own : ℤ) (a b : ℕ) → pos 0 <ℤ own → pos a *ℤ (own *ℤ pos b) ≡ pos (a * (unsigned_abs own * b))
den_is (pos own) a b up = refl
den_is (negsuc own) a b up = absurd up.lt

pub carried_next : (p : Problem) (at : List Mark) (pivot : Pivot) (name : RowName) (enters : Fraction) (sum next : Sum) (own : ℤ) (out : List ℤ) → IsPivotAt p at pivot → IsEnteredBy pivot enters → IsSumOf p at name sum
    → IsCombined pivot.size sum.by.items (number_at sum.by.items pivot.step.enter.at) pivot.by.items out → own ≡ pivot.size *ℤ sum.own → AreLowest own out next.own next.by.items → pos 0 <ℤ next.own → AreFitting next.own next.by.items
    → IsLowest next.value → IsRatio next.value (sum_num sum.value (number_at sum.by.items pivot.step.enter.at) sum.own enters) (sum_den sum.value sum.own enters) → IsSumOf p (next_marks p pivot at) name next
carried_next p at pivot name enters sum next own out is entered sum_is combined own_is are some fits lowest ratio =
    let c = carried_is p at pivot name enters sum out is entered sum_is combined in
    record {
      sized = record {
        count_is = lowest_count own next.own out next.by.items are ∙ c.0;
        above = some;
        fits = fits;
      };
      equation = divide_signed p (next_marks p pivot at) name sum.own pivot.size next.own out next.by.items (sum_num sum.value (number_at sum.by.items pivot.step.enter.at) sum.own enters) (sum.value.den * (unsigned_abs sum.own * enters.den)) next.value is.there.whole c.0
          sum_is.sized.above is.above some c.1 (subst (λ (z : ℤ). AreLowest z out next.own next.by.items) own_is are) lowest.above
          (subst (λ (z : ℤ). IsRatio next.value (sum_num sum.value (number_at sum.by.items pivot.step.enter.at) sum.own enters) z) (den_is sum.own sum.value.den enters.den sum_is.sized.above) ratio);
    }

list_unfit : (p : Problem) (own size : ℤ) (out : List ℤ) (num : ℤ) (den : ℕ) → IsWhole p → length out ≡ line_count p → pos 0 <ℤ own → pos 0 <ℤ size → AreUnfit (size *ℤ own) out → IsUnfitLine p (unsigned_abs size * unsigned_abs own) (numbers_of (lines p) out) num den
list_unfit p (pos own) (pos size) out num den whole count own_up size_up unfit = unfit_list_is_unfit p (size * own) out num den whole count unfit
list_unfit p (negsuc own) size out num den whole count own_up size_up unfit = absurd own_up.lt
list_unfit p (pos own) (negsuc size) out num den whole count own_up size_up unfit = absurd size_up.lt

told : (p : Problem) (next : List Mark) (mark : Mark) (own : ℕ) (by : RowName → ℤ) (num : ℤ) (den : ℕ) → IsThere p next → IsIn (place mark) next → IsLineSum p next (deviation mark.row) own by num den → IsUnfitLine p own by num den → HasUnfit p next
told p next mark own by num den there inside sum unfit = (MarkOf mark, (inside, mark_unfit p next mark.row mark.side own by num den there.whole there.corner there.rays inside sum unfit))

pub carried_unfit : (p : Problem) (at : List Mark) (pivot : Pivot) (mark : Mark) (enters : Fraction) (sum : Sum) (own : ℤ) (out : List ℤ) → IsPivotAt p at pivot → IsEnteredBy pivot enters → IsSumOf p at mark.row sum
    → IsCombined pivot.size sum.by.items (number_at sum.by.items pivot.step.enter.at) pivot.by.items out → own ≡ pivot.size *ℤ sum.own → IsIn (place mark) (next_marks p pivot at) → AreUnfit own out → HasUnfit p (next_marks p pivot at)
carried_unfit p at pivot mark enters sum own out is entered sum_is combined own_is inside unfit =
    let c = carried_is p at pivot mark.row enters sum out is entered sum_is combined in
    told p (next_marks p pivot at) mark (unsigned_abs pivot.size * unsigned_abs sum.own) (numbers_of (lines p) out) (sum_num sum.value (number_at sum.by.items pivot.step.enter.at) sum.own enters) (sum.value.den * (unsigned_abs sum.own * enters.den))
    (next_there p at pivot is) inside c.1
    (list_unfit p sum.own pivot.size out (sum_num sum.value (number_at sum.by.items pivot.step.enter.at) sum.own enters) (sum.value.den * (unsigned_abs sum.own * enters.den)) is.there.whole c.0 sum_is.sized.above is.above
    (subst (λ (z : ℤ). AreUnfit z out) own_is unfit))

pub value_unfit : (p : Problem) (at : List Mark) (pivot : Pivot) (mark : Mark) (enters : Fraction) (sum : Sum) (out : List ℤ) → IsPivotAt p at pivot → IsEnteredBy pivot enters → IsSumOf p at mark.row sum
    → IsCombined pivot.size sum.by.items (number_at sum.by.items pivot.step.enter.at) pivot.by.items out → IsIn (place mark) (next_marks p pivot at)
    → IsUnfitRatio (sum_num sum.value (number_at sum.by.items pivot.step.enter.at) sum.own enters) (sum_den sum.value sum.own enters) → HasUnfit p (next_marks p pivot at)
value_unfit p at pivot mark enters sum out is entered sum_is combined inside unfit =
    let c = carried_is p at pivot mark.row enters sum out is entered sum_is combined in
    told p (next_marks p pivot at) mark (unsigned_abs pivot.size * unsigned_abs sum.own) (numbers_of (lines p) out) (sum_num sum.value (number_at sum.by.items pivot.step.enter.at) sum.own enters) (sum.value.den * (unsigned_abs sum.own * enters.den))
    (next_there p at pivot is) inside c.1
    (λ low part value reduced ratio low_fits part_fit kept.
    unfit value kept.lowest (subst (λ (z : ℤ). IsRatio value (sum_num sum.value (number_at sum.by.items pivot.step.enter.at) sum.own enters) z) (sym (den_is sum.own sum.value.den enters.den sum_is.sized.above)) ratio) kept.fits)

-- ---- lines outside

pub still_inside : (p : Problem) (at : List Mark) (pivot : Pivot) (k : ℕ) (side : Side) → IsPivotAt p at pivot → k < line_count p → k ≢ pivot.step.leave.at → IsIn (place_of (name_at p k) side) at → IsIn (place_of (name_at p k) side) (next_marks p pivot at)
still_inside p at pivot k side is within other inside =
    kept_in (swap_of p pivot.step) at (place_of (name_at p k) side) inside (λ same. names_differ p k pivot.step.leave.at is.there.whole within is.leave_at other (by-sides (name_at p k) (name_at p pivot.step.leave.at) side pivot.step.leave.side same).0)

out_side : (p : Problem) (at : List Mark) (pivot : Pivot) (k : ℕ) (side : Side) → IsPivotAt p at pivot → k < line_count p → k ≢ pivot.step.enter.at → (IsIn (place_of (name_at p k) side) at → place_of (name_at p k) side ≢ place (swap_of p pivot.step).leave → ⊥)
    → IsIn (place_of (name_at p k) side) (next_marks p pivot at) → ⊥
out_side p at pivot k side is within other none inside =
    elim (exchanged_in (swap_of p pivot.step) at (place_of (name_at p k) side) inside) [
      | inl same ↦ names_differ p k pivot.step.enter.at is.there.whole within is.enter_at other (by-sides (name_at p k) (name_at p pivot.step.enter.at) side pivot.step.enter.side same).0
      | inr kept ↦ none kept.0 kept.1
    ]

pub still_outside : (p : Problem) (at : List Mark) (pivot : Pivot) (k : ℕ) → IsPivotAt p at pivot → k < line_count p → k ≢ pivot.step.enter.at → IsOutsideLine at (name_at p k) → IsOutsideLine (next_marks p pivot at) (name_at p k)
still_outside p at pivot k is within other out = record {
  under = out_side p at pivot k Under is within other (λ i n. out.under i);
  over = out_side p at pivot k Over is within other (λ i n. out.over i);
}

pub leaving_outside : (p : Problem) (at : List Mark) (pivot : Pivot) → IsPivotAt p at pivot → IsOutsideLine (next_marks p pivot at) (name_at p pivot.step.leave.at)
leaving_outside p at pivot is =
    let gone : (side : Side) → IsIn (place_of (name_at p pivot.step.leave.at) side) at → place_of (name_at p pivot.step.leave.at) side ≢ place (swap_of p pivot.step).leave → ⊥ =
    λ side i n. n (ap (λ (s : Side). place_of (name_at p pivot.step.leave.at) s) (one_side p at (name_at p pivot.step.leave.at) side pivot.step.leave.side is.there i is.exchange.leaves)) in
    record {
      under = out_side p at pivot pivot.step.leave.at Under is is.leave_at (λ same. is.apart (sym same)) (gone Under);
      over = out_side p at pivot pivot.step.leave.at Over is is.leave_at (λ same. is.apart (sym same)) (gone Over);
    }

-- ---- by what is made

pub entering_from : (p : Problem) (at : List Mark) (pivot : Pivot) (enters : Fraction) (sum : Sum) (own low : ℤ) (out part : List ℤ) → own ≡ pivot.size → IsReplaced (pos 1) pivot.by.items pivot.step.enter.at (pos 0) out → AreLowest own out low part → pos 0 <ℤ low → AreFitting low part
    → sum.own ≡ low → sum.by.items ≡ part → sum.value ≡ enters → IsPivotAt p at pivot → IsEnteredBy pivot enters → IsSumOf p (next_marks p pivot at) (name_at p pivot.step.enter.at) sum
entering_from p at pivot enters sum own low out part own_is replaced are some fits sum_own sum_by sum_value is entered =
    entering_next p at pivot enters sum out is entered replaced
    (subst (λ (z : ℤ). AreLowest z out sum.own sum.by.items) own_is (subst₂ (λ (z : ℤ) (zs : List ℤ). AreLowest own out z zs) (sym sum_own) (sym sum_by) are))
    (subst (λ (z : ℤ). pos 0 <ℤ z) (sym sum_own) some) (subst₂ (λ (z : ℤ) (zs : List ℤ). AreFitting z zs) (sym sum_own) (sym sum_by) fits) sum_value

pub entering_unfit_from : (p : Problem) (at : List Mark) (pivot : Pivot) (enters : Fraction) (own : ℤ) (out : List ℤ) → own ≡ pivot.size → IsReplaced (pos 1) pivot.by.items pivot.step.enter.at (pos 0) out → AreUnfit own out → IsPivotAt p at pivot → IsEnteredBy pivot enters → HasUnfit p (next_marks p pivot at)
entering_unfit_from p at pivot enters own out own_is replaced unfit is entered = entering_unfit p at pivot enters out is entered replaced (subst (λ (z : ℤ). AreUnfit z out) own_is unfit)

pub carried_from : (p : Problem) (at : List Mark) (pivot : Pivot) (name : RowName) (enters : Fraction) (sum next : Sum) (own low : ℤ) (out part : List ℤ) (value : Fraction) → own ≡ pivot.size *ℤ sum.own
    → IsCombined pivot.size sum.by.items (number_at sum.by.items pivot.step.enter.at) pivot.by.items out → AreLowest own out low part → pos 0 <ℤ low → AreFitting low part
    → IsLowest value → IsRatio value (sum_num sum.value (number_at sum.by.items pivot.step.enter.at) sum.own enters) (sum_den sum.value sum.own enters)
    → next.own ≡ low → next.by.items ≡ part → next.value ≡ value → IsPivotAt p at pivot → IsEnteredBy pivot enters → IsSumOf p at name sum → IsSumOf p (next_marks p pivot at) name next
carried_from p at pivot name enters sum next own low out part value own_is combined are some fits lowest ratio next_own next_by next_value is entered sum_is =
    carried_next p at pivot name enters sum next own out is entered sum_is combined own_is
    (subst₂ (λ (z : ℤ) (zs : List ℤ). AreLowest own out z zs) (sym next_own) (sym next_by) are)
    (subst (λ (z : ℤ). pos 0 <ℤ z) (sym next_own) some) (subst₂ (λ (z : ℤ) (zs : List ℤ). AreFitting z zs) (sym next_own) (sym next_by) fits)
    (subst IsLowest (sym next_value) lowest)
    (subst (λ (v : Fraction). IsRatio v (sum_num sum.value (number_at sum.by.items pivot.step.enter.at) sum.own enters) (sum_den sum.value sum.own enters)) (sym next_value) ratio)

pub sized_from : (count : ℕ) (sum : Sum) (own low : ℤ) (out part : List ℤ) → AreLowest own out low part → length out ≡ count → pos 0 <ℤ low → AreFitting low part → sum.own ≡ low → sum.by.items ≡ part → IsSized count sum
sized_from count sum own low out part are long some fits sum_own sum_by = record {
  count_is = ap (λ (zs : List ℤ). length zs) sum_by ∙ lowest_count own low out part are ∙ long;
  above = subst (λ (z : ℤ). pos 0 <ℤ z) (sym sum_own) some;
  fits = subst₂ (λ (z : ℤ) (zs : List ℤ). AreFitting z zs) (sym sum_own) (sym sum_by) fits;
}

-- ---- the entering line's value

pub den_up : (size : ℤ) (den : ℕ) → pos 0 <ℤ size → 0 < den → pos 0 <ℤ (pos 1 *ℤ (size *ℤ pos den))
den_up size den above some = mul_positive 1 (size *ℤ pos den) (omega arith) (positive_product size (pos den) above (omega (arith, ints, some)))

pub entering_value_unfit : (p : Problem) (at : List Mark) (pivot : Pivot) → IsPivotAt p at pivot → IsUnfitRatio (sum_num zero_fraction pivot.times pivot.size pivot.value) (sum_den zero_fraction pivot.size pivot.value) → HasUnfit p (next_marks p pivot at)
entering_value_unfit p at pivot is unfit =
    let above : pos 0 <ℤ sum_den zero_fraction pivot.size pivot.value = den_up pivot.size pivot.value.den is.above is.value_den in
    let same : pos (unsigned_abs (sum_den zero_fraction pivot.size pivot.value)) ≡ sum_den zero_fraction pivot.size pivot.value = up (sum_den zero_fraction pivot.size pivot.value) above in
    let enters : Fraction = record { num = sum_num zero_fraction pivot.times pivot.size pivot.value; den = unsigned_abs (sum_den zero_fraction pivot.size pivot.value) } in
    let solved : IsPivotOf p at (swap_of p pivot.step) (unsigned_abs pivot.size) pivot.by.items enters =
    is.solved enters (some_up (sum_den zero_fraction pivot.size pivot.value) above, ap (λ (z : ℤ). sum_num zero_fraction pivot.times pivot.size pivot.value *ℤ z) (sym same)) in
    told p (next_marks p pivot at) (mark_of p pivot.step.enter) (unsigned_abs pivot.size) (without (name_at p pivot.step.enter.at) (numbers_of (lines p) pivot.by.items)) (sum_num zero_fraction pivot.times pivot.size pivot.value) (unsigned_abs (sum_den zero_fraction pivot.size pivot.value))
    (next_there p at pivot is) (enter_in (swap_of p pivot.step) at is.exchange.leaves)
    (line_sum p (next_marks p pivot at) (deviation (name_at p pivot.step.enter.at)) (unsigned_abs pivot.size) (without (name_at p pivot.step.enter.at) (numbers_of (lines p) pivot.by.items)) (sum_num zero_fraction pivot.times pivot.size pivot.value) (unsigned_abs (sum_den zero_fraction pivot.size pivot.value)) solved.equation)
    (λ low part value reduced ratio low_fits part_fit kept. unfit value kept.lowest (subst (λ (z : ℤ). IsRatio value (sum_num zero_fraction pivot.times pivot.size pivot.value) z) same ratio) kept.fits)

-- ---- lines that an exchange leaves alone

pub untouched_sum : (p : Problem) (at : List Mark) (pivot : Pivot) (name : RowName) (sum : Sum) → IsPivotAt p at pivot → number_at sum.by.items pivot.step.enter.at ≡ pos 0 → IsSumOf p at name sum → IsSumOf p (next_marks p pivot at) name sum
untouched_sum p at pivot name sum is none old = record {
  sized = old.sized;
  equation = record {
    own_positive = old.equation.own_positive;
    den_positive = old.equation.den_positive;
    outside = λ k d within stood.
        let there : (get_or (lines p) k d).name ≡ name_at p k = name_there p k d within in
        subst (λ (n : RowName). IsOutsideLine (next_marks p pivot at) n) (sym there)
        (still_outside p at pivot k is within
        (λ same. stood (ap (numbers_of (lines p) sum.by.items) (there ∙ ap (λ (j : ℕ). name_at p j) same) ∙ number_there p sum.by.items pivot.step.enter.at is.there.whole old.sized.count_is is.enter_at ∙ none))
        (subst (λ (n : RowName). IsOutsideLine at n) there (old.equation.outside k d within stood)));
    holds = old.equation.holds;
    lowest = old.equation.lowest;
  };
}

pub zero_then : (b : Bool) (z : ℤ) → b ≡ false → IsTrue b ↔ (z ≢ pos 0) → z ≡ pos 0
zero_then b (pos zero) e f = refl
zero_then b (pos (suc n)) e f = absurd (wrong_then b e f (λ h. omega (arith, ints, h)))
zero_then b (negsuc n) e f = absurd (wrong_then b e f (λ h. omega (arith, ints, h)))
