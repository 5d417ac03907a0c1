-- The pivot of an exchange, of two lines or of the two marks of one.
use Rattle.std.proofs.Common.{◌≡◌, ◌≢◌, ◌∙◌, ℕ, ◌<◌, Bool, true, false, not, List, length, get_or, set, ℤ, pos, negsuc, ◌+ℤ◌, ◌*ℤ◌, ◌<ℤ◌, neg_ℤ, unsigned_abs, refl, sym, ap, subst, arith, inl, inr, All, Option, Some, None}
use Rattle.std.proofs.lemmas.Bool.{cases_eq}
use Rattle.std.proofs.lemmas.Bool.Decides.{nat_tests}
use Rattle.std.proofs.lemmas.List.{get_or-set_other, get_or-set_same, length-set}
use Rattle.std.proofs.lemmas.List.Elements.{All-set, recursion_from_All}
use borrow.Author.Differences.{ints}
use lib.IntN.{*ℤ_comm}
use Rattle.frac_core.proofs.Integers.{cancel_mul, mul_assoc_ℤ, mul_left_comm_ℤ}
use Rattle.frac_core.specs.Fraction.{Fraction, IsFitting, IsRatio, sum_den, sum_num}
use Rattle.problem_core.specs.declared.parts.Mark.{Mark}
use Rattle.problem_core.specs.declared.parts.RowName.{RowName}
use Rattle.problem_core.specs.declared.parts.Side.TheVariants.{Under}
use Rattle.problem_core.specs.Layout.{Problem, coefficient, lines}
use Rattle.problem_core.specs.Corners.{IsExchange, IsIn, exchanged, one_column, place_of}
use Rattle.problem_core.specs.Window.{zero_fraction}
use Rattle.corner_laws.proofs.LinePlaces.{lines_apart}
use Rattle.corner_lines.specs.LineEquations.{IsLineEquation, deviation}
use Rattle.corner_lines.specs.Levels.LevelCosts.{HasDeviation}
use Rattle.corner_lines.specs.Levels.LevelRows.{IsPivot, line_numbers}
use Rattle.corner_lines.proofs.Lines.LineExchanges.{line_turns}
use Rattle.corner_lines.proofs.Lines.LinePivots.{equation_is_pivot, pivot_is_solved}
use Rattle.corner_lines.proofs.Lines.LineWritings.{line_value}
use Rattle.path_lines.specs.declared.exchange.Pivot.{Pivot}
use Rattle.path_lines.specs.declared.spots.Step.{Step}
use Rattle.path_lines.specs.declared.table.Inside.{Inside}
use Rattle.path_lines.specs.declared.table.Sum.{Sum}
use Rattle.path_lines.specs.Numbers.{IsReplaced, flip_sign, number_at}
use Rattle.path_lines.specs.Exchanges.Pivots.{IsPivotAt, IsSolvedFrom, next_marks}
use Rattle.path_lines.specs.Tables.{AreLines, IsLineAt, IsSized, IsSizedLine, IsSumOf, IsThere, line_count, name_at, numbers_of, swap_of}
use Rattle.path_lines.proofs.Exchanges.EnteringLine.{at_place}
use Rattle.path_lines.proofs.Exchanges.Exchanging.{one_side, other_iff}
use Rattle.path_lines.proofs.Places.{name_there, names_differ, number_there}
use Rattle.path_lines.proofs.Exchanges.SolvedPivots.{solved_is_pivot}
use Rattle.path_levels.specs.Exchanges.Pivots.{IsExchangePivot, IsSizedPivot, IsTurnedFrom}
use Rattle.problem_core.proofs.Corners.Conflicts.{sum-each}
use Rattle.frac_core.proofs.Bools.{not-both as true_false}
use Rattle.corner_lines.proofs.LevelRows.OtherNumbers.{other-number as line_other}
use Rattle.frac_core.proofs.Divisors.{size_above as some_up}

-- the same numbers on all lines
pivot_same : (p : Problem) (at : List Mark) (enter leave : RowName) (size : ℕ) (f g : RowName → ℤ) → IsPivot p at enter leave size f → All (λ l. g l.name ≡ f l.name) (lines p) → g enter ≡ f enter → IsPivot p at enter leave size g
pivot_same p at enter leave size f g is same here = record {
  size_positive = is.size_positive;
  cancel = λ v.
      sum-each (λ l. g l.name *ℤ coefficient v l.form) (λ l. f l.name *ℤ coefficient v l.form) (lines p)
      (recursion_from_All (λ l. g l.name *ℤ coefficient v l.form ≡ f l.name *ℤ coefficient v l.form) (lines p) (λ k d within. ap (λ (z : ℤ). z *ℤ coefficient v (get_or (lines p) k d).form) (same k d within)))
      ∙ is.cancel v;
  enter_is = here ∙ is.enter_is;
  inside_zero = λ side k d within inside other. same k d within ∙ is.inside_zero side k d within inside other;
}

line_here : (line : RowName) (own : ℕ) (by : RowName → ℤ) (name : RowName) → name ≡ line → line_numbers line own by name ≡ neg_ℤ (pos own)
line_here line own by name e = grind (arith, nat_tests, ap (λ (n : RowName). place_of n Under) e)

-- ---- the two marks of one line

turned_numbers : (p : Problem) (at : List Mark) (line : ℕ) (own : ℕ) (by : List ℤ) → IsThere p at → line < line_count p → length by ≡ line_count p → All (λ l. numbers_of (lines p) (set by line (neg_ℤ (pos own))) l.name ≡ line_numbers (name_at p line) own (numbers_of (lines p) by) l.name) (lines p)
turned_numbers p at line own by there within count k d inside =
    let long : length (set by line (neg_ℤ (pos own))) ≡ line_count p = length-set by line (neg_ℤ (pos own)) ∙ count in
    at_place (lines p) (set by line (neg_ℤ (pos own))) k d (lines_apart p there.whole) long inside
    ∙ elim (cases_eq k line) [
      | inl e ↦
          subst (λ (j : ℕ). number_at (set by line (neg_ℤ (pos own))) j ≡ neg_ℤ (pos own)) (sym e) (get_or-set_same by line (neg_ℤ (pos own)) (pos 0) (omega (arith, within, count)))
          ∙ sym (line_here (name_at p line) own (numbers_of (lines p) by) (get_or (lines p) k d).name (name_there p k d inside ∙ ap (name_at p) e))
      | inr ne ↦
          get_or-set_other by line k (neg_ℤ (pos own)) (pos 0) ne
          ∙ sym (at_place (lines p) by k d (lines_apart p there.whole) count inside)
          ∙ sym (line_other (name_at p line) own (numbers_of (lines p) by) (get_or (lines p) k d).name (λ same. names_differ p k line there.whole inside within ne (sym (name_there p k d inside) ∙ same)))
    ]

turned_pivot : (p : Problem) (at : List Mark) (step : Step) (own : ℕ) (by : List ℤ) (num : ℤ) (den : ℕ) → IsThere p at → step.enter.at < line_count p → length by ≡ line_count p → IsIn (place_of (name_at p step.enter.at) step.leave.side) at
    → IsLineEquation p at (deviation (name_at p step.enter.at)) own (numbers_of (lines p) by) num den
    → IsPivot p at (name_at p step.enter.at) (name_at p step.enter.at) own (numbers_of (lines p) (set by step.enter.at (neg_ℤ (pos own))))
turned_pivot p at step own by num den there within count inside e =
    pivot_same p at (name_at p step.enter.at) (name_at p step.enter.at) own (line_numbers (name_at p step.enter.at) own (numbers_of (lines p) by)) (numbers_of (lines p) (set by step.enter.at (neg_ℤ (pos own))))
    (equation_is_pivot p at (record { row = name_at p step.enter.at; side = step.leave.side }) own (numbers_of (lines p) by) num den there.whole there.corner inside e)
    (turned_numbers p at step.enter.at own by there within count)
    (number_there p (set by step.enter.at (neg_ℤ (pos own))) step.enter.at there.whole (length-set by step.enter.at (neg_ℤ (pos own)) ∙ count) within
    ∙ get_or-set_same by step.enter.at (neg_ℤ (pos own)) (pos 0) (omega (arith, within, count))
    ∙ sym (line_here (name_at p step.enter.at) own (numbers_of (lines p) by) (name_at p step.enter.at) refl))

-- ---- two lines

turned_back : (b : Bool) (z : ℤ) → flip_sign (not b) *ℤ neg_ℤ z ≡ flip_sign b *ℤ z
turned_back true z = omega (arith, ints)
turned_back false z = omega (arith, ints)

size_back : (b : Bool) (z y : ℤ) → y ≡ flip_sign b *ℤ z → flip_sign (not b) *ℤ z ≡ neg_ℤ y
size_back true z y e = omega (arith, ints, e)
size_back false z y e = omega (arith, ints, e)

solved_numbers : (p : Problem) (at : List Mark) (leave : ℕ) (b : Bool) (own : ℕ) (by pivot : List ℤ) → IsThere p at → leave < line_count p → length by ≡ line_count p → IsReplaced (flip_sign (not b)) by leave (flip_sign b *ℤ pos own) pivot
    → All (λ l. numbers_of (lines p) pivot l.name ≡ flip_sign (not b) *ℤ line_numbers (name_at p leave) own (numbers_of (lines p) by) l.name) (lines p)
solved_numbers p at leave b own by pivot there within count is k d inside =
    at_place (lines p) pivot k d (lines_apart p there.whole) (is.count ∙ count) inside
    ∙ elim (cases_eq k leave) [
      | inl e ↦
          subst (λ (j : ℕ). number_at pivot j ≡ flip_sign b *ℤ pos own) (sym e) (is.here (omega (arith, within, count)))
          ∙ sym (ap (λ (z : ℤ). flip_sign (not b) *ℤ z) (line_here (name_at p leave) own (numbers_of (lines p) by) (get_or (lines p) k d).name (name_there p k d inside ∙ ap (name_at p) e)) ∙ turned_back b (pos own))
      | inr ne ↦
          is.others k (omega (arith, inside, count)) ne
          ∙ ap (λ (z : ℤ). flip_sign (not b) *ℤ z)
          (sym (at_place (lines p) by k d (lines_apart p there.whole) count inside)
          ∙ sym (line_other (name_at p leave) own (numbers_of (lines p) by) (get_or (lines p) k d).name (λ same. names_differ p k leave there.whole inside within ne (sym (name_there p k d inside) ∙ same))))
    ]

solved_pivot : (p : Problem) (at : List Mark) (step : Step) (b : Bool) (own size : ℕ) (by pivot : List ℤ) (num : ℤ) (den : ℕ) → IsThere p at → step.enter.at < line_count p → step.leave.at < line_count p → step.enter.at ≢ step.leave.at
    → length by ≡ line_count p → IsIn (place_of (name_at p step.leave.at) step.leave.side) at
    → IsLineEquation p at (deviation (name_at p step.leave.at)) own (numbers_of (lines p) by) num den → IsReplaced (flip_sign (not b)) by step.leave.at (flip_sign b *ℤ pos own) pivot → 0 < size → pos size ≡ flip_sign b *ℤ number_at by step.enter.at
    → IsPivot p at (name_at p step.enter.at) (name_at p step.leave.at) size (numbers_of (lines p) pivot)
solved_pivot p at step b own size by pivot num den there enter leave apart count inside e is some size_is =
    let own_is : line_numbers (name_at p step.leave.at) own (numbers_of (lines p) by) (name_at p step.enter.at) ≡ number_at by step.enter.at =
    line_other (name_at p step.leave.at) own (numbers_of (lines p) by) (name_at p step.enter.at) (names_differ p step.enter.at step.leave.at there.whole enter leave apart)
    ∙ number_there p by step.enter.at there.whole count enter in
    let t_is : flip_sign (not b) *ℤ line_numbers (name_at p step.leave.at) own (numbers_of (lines p) by) (name_at p step.enter.at) ≡ neg_ℤ (pos size) =
    ap (λ (z : ℤ). flip_sign (not b) *ℤ z) own_is ∙ size_back b (number_at by step.enter.at) (pos size) size_is in
    pivot_same p at (name_at p step.enter.at) (name_at p step.leave.at) size (λ name. flip_sign (not b) *ℤ line_numbers (name_at p step.leave.at) own (numbers_of (lines p) by) name) (numbers_of (lines p) pivot)
    (pivot_is_solved p at (name_at p step.enter.at) (name_at p step.leave.at) own size (line_numbers (name_at p step.leave.at) own (numbers_of (lines p) by)) (flip_sign (not b))
    (equation_is_pivot p at (record { row = name_at p step.leave.at; side = step.leave.side }) own (numbers_of (lines p) by) num den there.whole there.corner inside e) some t_is)
    (solved_numbers p at step.leave.at b own by pivot there leave count is)
    (number_there p pivot step.enter.at there.whole (is.count ∙ count) enter ∙ is.others step.enter.at (omega (arith, enter, count)) apart
    ∙ ap (λ (z : ℤ). flip_sign (not b) *ℤ z) (sym own_is))

-- the same with signed numbers
solved_signed : (p : Problem) (at : List Mark) (step : Step) (b : Bool) (own size : ℤ) (by pivot : List ℤ) (num : ℤ) (den : ℕ) → IsThere p at → step.enter.at < line_count p → step.leave.at < line_count p → step.enter.at ≢ step.leave.at
    → length by ≡ line_count p → IsIn (place_of (name_at p step.leave.at) step.leave.side) at → pos 0 <ℤ own
    → IsLineEquation p at (deviation (name_at p step.leave.at)) (unsigned_abs own) (numbers_of (lines p) by) num den → IsReplaced (flip_sign (not b)) by step.leave.at (flip_sign b *ℤ own) pivot → pos 0 <ℤ size → size ≡ flip_sign b *ℤ number_at by step.enter.at
    → IsPivot p at (name_at p step.enter.at) (name_at p step.leave.at) (unsigned_abs size) (numbers_of (lines p) pivot)
solved_signed p at step b (pos own) (pos size) by pivot num den there enter leave apart count inside own_up e is some size_is =
    solved_pivot p at step b own size by pivot num den there enter leave apart count inside e is (some_up (pos size) some) size_is
solved_signed p at step b (negsuc own) size by pivot num den there enter leave apart count inside own_up e is some size_is = absurd own_up.lt
solved_signed p at step b (pos own) (negsuc size) by pivot num den there enter leave apart count inside own_up e is some size_is = absurd some.lt

turned_signed : (p : Problem) (at : List Mark) (step : Step) (own : ℤ) (by : List ℤ) (num : ℤ) (den : ℕ) → IsThere p at → step.enter.at < line_count p → length by ≡ line_count p → IsIn (place_of (name_at p step.enter.at) step.leave.side) at → pos 0 <ℤ own
    → IsLineEquation p at (deviation (name_at p step.enter.at)) (unsigned_abs own) (numbers_of (lines p) by) num den
    → IsPivot p at (name_at p step.enter.at) (name_at p step.enter.at) (unsigned_abs own) (numbers_of (lines p) (set by step.enter.at (neg_ℤ own)))
turned_signed p at step (pos own) by num den there within count inside own_up e = turned_pivot p at step own by num den there within count inside e
turned_signed p at step (negsuc own) by num den there within count inside own_up e = absurd own_up.lt

-- ---- the entering line's deviation

swapped : (x y z : ℤ) → x *ℤ (y *ℤ z) ≡ (y *ℤ x) *ℤ z
swapped x y z = mul_left_comm_ℤ x y z ∙ sym (mul_assoc_ℤ y x z)

same_ratio : (x o v e : ℤ) (vd ed : ℕ) → 0 < vd → x *ℤ pos vd ≡ v *ℤ o → e *ℤ pos vd ≡ v *ℤ pos ed → x *ℤ pos ed ≡ e *ℤ o
same_ratio x o v e vd ed some h k =
    cancel_mul vd (x *ℤ pos ed) (e *ℤ o) some
    (swapped (pos vd) x (pos ed) ∙ ap (λ (z : ℤ). z *ℤ pos ed) h ∙ mul_assoc_ℤ v o (pos ed) ∙ ap (λ (z : ℤ). v *ℤ z) (*ℤ_comm o (pos ed)) ∙ sym (mul_assoc_ℤ v (pos ed) o)
    ∙ ap (λ (z : ℤ). z *ℤ o) (sym k) ∙ sym (swapped (pos vd) e o))

one_ratio : (own vd ed : ℕ) (v e : ℤ) → 0 < own → e *ℤ (pos 1 *ℤ (pos own *ℤ pos vd)) ≡ (pos 0 *ℤ (pos own *ℤ pos vd) +ℤ pos own *ℤ (v *ℤ pos 1)) *ℤ pos ed → e *ℤ pos vd ≡ v *ℤ pos ed
one_ratio own vd ed v e some h =
    let left : pos 1 *ℤ (pos own *ℤ pos vd) ≡ pos own *ℤ pos vd = omega (arith, ints) in
    let one : v *ℤ pos 1 ≡ v = omega (arith, ints) in
    let right : pos 0 *ℤ (pos own *ℤ pos vd) +ℤ pos own *ℤ (v *ℤ pos 1) ≡ pos own *ℤ v = omega (arith, ints, ap (λ (z : ℤ). pos own *ℤ z) one) in
    cancel_mul own (e *ℤ pos vd) (v *ℤ pos ed) some
    (mul_left_comm_ℤ (pos own) e (pos vd) ∙ ap (λ (z : ℤ). e *ℤ z) (sym left) ∙ h ∙ ap (λ (z : ℤ). z *ℤ pos ed) right ∙ mul_assoc_ℤ (pos own) v (pos ed))

one_signed : (own : ℤ) (value enters : Fraction) → pos 0 <ℤ own → IsRatio enters (sum_num zero_fraction own own value) (sum_den zero_fraction own value) → enters.num *ℤ pos value.den ≡ value.num *ℤ pos enters.den
one_signed (pos own) value enters some h = one_ratio own value.den enters.den value.num enters.num (some_up (pos own) some) h
one_signed (negsuc own) value enters some h = absurd some.lt

-- ---- as they are made

pub turned_is : (p : Problem) (at : List Mark) (step : Step) (sum : Sum) (pivot : Pivot) → IsThere p at → step.enter.at < line_count p → step.enter.at ≡ step.leave.at → IsSumOf p at (name_at p step.leave.at) sum → IsExchange p at (swap_of p step)
    → IsTurnedFrom sum step pivot → IsSizedPivot (line_count p) pivot → IsExchangePivot p at pivot
turned_is p at step sum pivot there within turn line ex is sized =
    let here : name_at p step.enter.at ≡ name_at p step.leave.at = ap (name_at p) turn in
    let own_line : IsSumOf p at (name_at p step.enter.at) sum = subst (λ (n : RowName). IsSumOf p at n sum) (sym here) line in
    let inside : IsIn (place_of (name_at p step.enter.at) step.leave.side) at = subst (λ (n : RowName). IsIn (place_of n step.leave.side) at) (sym here) ex.leaves in
    let made : IsPivot p at (name_at p step.enter.at) (name_at p step.leave.at) (unsigned_abs sum.own) (numbers_of (lines p) (set sum.by.items step.enter.at (neg_ℤ sum.own))) =
    subst (λ (n : RowName). IsPivot p at (name_at p step.enter.at) n (unsigned_abs sum.own) (numbers_of (lines p) (set sum.by.items step.enter.at (neg_ℤ sum.own)))) here
    (turned_signed p at step sum.own sum.by.items sum.value.num sum.value.den there within own_line.sized.count_is inside own_line.sized.above own_line.equation) in
    let value : HasDeviation p (exchanged (swap_of p step) at) (name_at p step.enter.at) sum.value =
    line_value p (exchanged (swap_of p step) at) (deviation (name_at p step.enter.at)) (unsigned_abs sum.own) (numbers_of (lines p) sum.by.items) sum.value.num sum.value.den there.whole ex.corner
    (line_turns p at (swap_of p step) (deviation (name_at p step.enter.at)) (unsigned_abs sum.own) (numbers_of (lines p) sum.by.items) sum.value.num sum.value.den there.corner ex.leaves here own_line.equation) in
    record {
      there = there;
      sized = sized;
      exchange = subst (λ (t : Step). IsExchange p at (swap_of p t)) (sym is.step_is) ex;
      pivot_is =
          subst (λ (t : Step). IsPivot p at (name_at p t.enter.at) (name_at p t.leave.at) (unsigned_abs pivot.size) (numbers_of (lines p) pivot.by.items)) (sym is.step_is)
          (subst (λ (z : ℤ). IsPivot p at (name_at p step.enter.at) (name_at p step.leave.at) (unsigned_abs z) (numbers_of (lines p) pivot.by.items)) (sym is.size_is)
          (subst (λ (zs : List ℤ). IsPivot p at (name_at p step.enter.at) (name_at p step.leave.at) (unsigned_abs sum.own) (numbers_of (lines p) zs)) (sym is.by_is) made));
      value_den = subst (λ (v : Fraction). 0 < v.den) (sym is.value_is) line.equation.den_positive;
      deviation_is = λ enters entered.
          let ratio : enters.num *ℤ pos sum.value.den ≡ sum.value.num *ℤ pos enters.den =
          one_signed sum.own sum.value enters line.sized.above
          (subst (λ (v : Fraction). IsRatio enters (sum_num zero_fraction sum.own sum.own v) (sum_den zero_fraction sum.own v)) is.value_is
          (subst (λ (z : ℤ). IsRatio enters (sum_num zero_fraction sum.own z pivot.value) (sum_den zero_fraction z pivot.value)) is.size_is
          (subst (λ (z : ℤ). IsRatio enters (sum_num zero_fraction z pivot.size pivot.value) (sum_den zero_fraction pivot.size pivot.value)) is.times_is entered.1))) in
          subst (λ (t : Step). HasDeviation p (exchanged (swap_of p t) at) (name_at p t.enter.at) enters) (sym is.step_is)
          (value.0, value.1, same_ratio (deviation (name_at p step.enter.at) value.0.num) (value.0.num one_column) sum.value.num enters.num sum.value.den enters.den line.equation.den_positive value.2 ratio);
      of_lines = λ wrong. absurd (true_false pivot.is_turn is.turn wrong);
    }

pub solved_is : (p : Problem) (at : List Mark) (step : Step) (sum : Sum) (pivot : Pivot) → IsThere p at → step.enter.at < line_count p → step.leave.at < line_count p → step.enter.at ≢ step.leave.at → IsSumOf p at (name_at p step.leave.at) sum
    → IsExchange p at (swap_of p step) → IsSolvedFrom sum step pivot → IsSizedPivot (line_count p) pivot → IsExchangePivot p at pivot
solved_is p at step sum pivot there enter leave apart line ex is sized =
    let of : IsPivotAt p at pivot = solved_is_pivot p at step sum pivot there enter leave apart ex line is in
    record {
      there = there;
      sized = sized;
      exchange = of.exchange;
      pivot_is =
          subst (λ (t : Step). IsPivot p at (name_at p t.enter.at) (name_at p t.leave.at) (unsigned_abs pivot.size) (numbers_of (lines p) pivot.by.items)) (sym is.step_is)
          (solved_signed p at step is.is_below sum.own pivot.size sum.by.items pivot.by.items sum.value.num sum.value.den there enter leave apart line.sized.count_is ex.leaves line.sized.above line.equation is.by_is is.above is.size_is);
      value_den = of.value_den;
      deviation_is = λ enters entered. line_value p (next_marks p pivot at) (deviation (name_at p pivot.step.enter.at)) _ _ enters.num enters.den there.whole of.exchange.corner (of.solved enters entered).equation;
      of_lines = λ same. of;
    }

-- ---- by the leaving line

pub turned_sized : (count : ℕ) (step : Step) (sum : Sum) (pivot : Pivot) → step.enter.at < count → step.enter.at ≡ step.leave.at → IsSized count sum → IsTurnedFrom sum step pivot → IsSizedPivot count pivot
turned_sized count step sum pivot enter turn sized is =
    let neg_fits : IsFitting (neg_ℤ sum.own) = neg_size sum.own sized.fits.0 in
    record {
      enter_at = subst (λ (t : Step). t.enter.at < count) (sym is.step_is) enter;
      leave_at = subst (λ (t : Step). t.leave.at < count) (sym is.step_is) (omega (arith, enter, turn));
      turn = λ same. subst (λ (t : Step). t.enter.at ≡ t.leave.at) (sym is.step_is) turn;
      other = λ wrong. absurd (true_false pivot.is_turn is.turn wrong);
      count_is = ap (λ (zs : List ℤ). length zs) is.by_is ∙ length-set sum.by.items step.enter.at (neg_ℤ sum.own) ∙ sized.count_is;
      above = subst (λ (z : ℤ). pos 0 <ℤ z) (sym is.size_is) sized.above;
      fits = (subst IsFitting (sym is.size_is) sized.fits.0, subst (λ (zs : List ℤ). All IsFitting zs) (sym is.by_is) (All-set IsFitting sum.by.items step.enter.at (neg_ℤ sum.own) neg_fits sized.fits.1));
      times_fit = subst IsFitting (sym is.times_is) sized.fits.0;
    }
  where
    neg_size : (z : ℤ) → IsFitting z → IsFitting (neg_ℤ z)
    neg_size z h = omega (arith, ints, h)

pub solved_sized : (count : ℕ) (step : Step) (sum : Sum) (pivot : Pivot) → step.enter.at < count → step.leave.at < count → step.enter.at ≢ step.leave.at → IsSized count sum → IsSolvedFrom sum step pivot → IsSizedPivot count pivot
solved_sized count step sum pivot enter leave apart sized is = record {
  enter_at = subst (λ (t : Step). t.enter.at < count) (sym is.step_is) enter;
  leave_at = subst (λ (t : Step). t.leave.at < count) (sym is.step_is) leave;
  turn = λ wrong. absurd (true_false pivot.is_turn wrong is.no_turn);
  other = λ same. subst (λ (t : Step). t.enter.at ≢ t.leave.at) (sym is.step_is) apart;
  count_is = is.by_is.count ∙ sized.count_is;
  above = is.above;
  fits = is.fits;
  times_fit = is.times_fit;
}

leaving_sum : (p : Problem) (at : List Mark) (step : Step) (kept : List (Option Inside)) (inside : Inside) → AreLines p at kept → step.leave.at < length kept → get_or kept step.leave.at None ≡ Some inside → IsLineAt p at (name_at p step.leave.at) (Some inside)
leaving_sum p at step kept inside lines leave is = subst (IsLineAt p at (name_at p step.leave.at)) is (lines.each step.leave.at None (omega (arith, leave, lines.count)))

pub pivot_is : (p : Problem) (at : List Mark) (step : Step) (kept : List (Option Inside)) (inside : Inside) (pivot : Pivot) → step.enter.at < length kept → step.leave.at < length kept → get_or kept step.leave.at None ≡ Some inside → IsSized (length kept) inside.sum
    → (step.enter.at ≡ step.leave.at → IsTurnedFrom inside.sum step pivot) → (step.enter.at ≢ step.leave.at → IsSolvedFrom inside.sum step pivot) → IsThere p at → AreLines p at kept → IsExchange p at (swap_of p step) → IsExchangePivot p at pivot
pivot_is p at step kept inside pivot enter leave is sized turned solved there lines ex =
    let line : IsSumOf p at (name_at p step.leave.at) inside.sum = (leaving_sum p at step kept inside lines leave is).1 in
    let enter_in : step.enter.at < line_count p = omega (arith, enter, lines.count) in
    let leave_in : step.leave.at < line_count p = omega (arith, leave, lines.count) in
    elim (cases_eq step.enter.at step.leave.at) [
      | inl e ↦ turned_is p at step inside.sum pivot there enter_in e line ex (turned e) (turned_sized (line_count p) step inside.sum pivot enter_in e line.sized (turned e))
      | inr ne ↦ solved_is p at step inside.sum pivot there enter_in leave_in ne line ex (solved ne) (solved_sized (line_count p) step inside.sum pivot enter_in leave_in ne line.sized (solved ne))
    ]

pub none_enters : (p : Problem) (at : List Mark) (step : Step) (kept : List (Option Inside)) (inside : Inside) → step.enter.at < length kept → step.leave.at < length kept → get_or kept step.leave.at None ≡ Some inside
    → step.enter.at ≢ step.leave.at → number_at inside.sum.by.items step.enter.at ≡ pos 0 → IsThere p at → AreLines p at kept → IsExchange p at (swap_of p step) → ⊥
none_enters p at step kept inside enter leave is ne none there lines ex =
    let line : IsLineAt p at (name_at p step.leave.at) (Some inside) = leaving_sum p at step kept inside lines leave is in
    let side = one_side p at (name_at p step.leave.at) inside.side step.leave.side there line.0 ex.leaves in
    (other_iff p at step inside there (omega (arith, enter, lines.count)) (omega (arith, leave, lines.count)) side line ne).1 ex none

pub sized_line : (count : ℕ) (line : Option Inside) (inside : Inside) → line ≡ Some inside → IsSizedLine count line → IsSized count inside.sum
sized_line count line inside is sized = subst (IsSizedLine count) is sized
