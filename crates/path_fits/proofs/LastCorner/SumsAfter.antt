-- Sums of any quantity after an exchange.
use Rattle.std.proofs.Common.{◌≡◌, ◌≢◌, ◌∙◌, ◌↔◌, ℕ, ◌*◌, ◌<◌, List, get_or, ℤ, pos, ◌+ℤ◌, ◌-ℤ◌, ◌*ℤ◌, ◌<ℤ◌, ◌≤ℤ◌, unsigned_abs, sym, ap, ap₂, subst, subst₂, arith, inl, inr, None, Some, true, false, Contains, map}
use Rattle.std.proofs.lemmas.Bool.{cases_eq}
use borrow.Author.Differences.{ints}
use Rattle.frac_core.specs.Fraction.{Fraction, sum_den, sum_num}
use Rattle.frac_core.proofs.Integers.{cancel_mul, mul_assoc_ℤ, mul_left_comm_ℤ, mul_positive, zero-mul_ℤ}
use Rattle.problem_core.specs.declared.parts.Mark.{Mark}
use Rattle.problem_core.specs.declared.parts.RowName.{RowName}
use Rattle.problem_core.specs.declared.parts.Side.{Side}
use Rattle.problem_core.specs.declared.parts.Side.TheVariants.{Under, Over}
use Rattle.problem_core.specs.Layout.{Problem, lines, sum_of}
use Rattle.problem_core.specs.Kept.{IsWhole}
use Rattle.problem_core.specs.Corners.{IsExchange, IsIn, Point, StandsAt, Swap, exchanged, marks_of, one_column, place, place_of}
use Rattle.problem_core.specs.Window.{zero_fraction}
use Rattle.corner_laws.proofs.Exchanged.{exchanged_in}
use Rattle.corner_laws.proofs.Rays.{rays_after}
use Rattle.corner_laws.proofs.WrittenValues.{form_there, nothing_outside, less-none}
use Rattle.corner_laws.specs.Runs.{other_side}
use Rattle.corner_lines.specs.LineEquations.{IsLineSum, IsOutsideLine, deviation, mark_form, sign_of}
use Rattle.corner_lines.specs.LineExchanges.{IsExchangedRow}
use Rattle.corner_lines.proofs.LevelRows.LevelExchanges.{by-sides}
use Rattle.corner_lines.proofs.Lines.LineCarried.{carried}
use Rattle.corner_lines.proofs.Lines.LineExchanges.{still-outside}
use Rattle.corner_lines.proofs.Lines.LineUnfits.{line_sum}
use Rattle.corner_lines.proofs.Lines.LineWritings.{form-outside, other-out, side-value, no-side}
use Rattle.corner_lines.proofs.Lines.MarkForms.{form-value}
use Rattle.path_lines.specs.declared.exchange.Pivot.{Pivot}
use Rattle.path_lines.specs.declared.spots.Step.{Step}
use Rattle.path_lines.specs.declared.table.Inside.{Inside}
use Rattle.path_lines.specs.Numbers.{number_at}
use Rattle.path_lines.specs.Exchanges.Pivots.{IsEnteredBy, IsPivotAt, next_marks}
use Rattle.path_lines.specs.Exchanges.Carried.{IsPivotOf, without}
use Rattle.path_lines.specs.Tables.{IsLineAt, IsThere, IsUp, line_count, name_at, numbers_of, swap_of}
use Rattle.path_lines.proofs.Exchanges.CarriedSums.{without_other}
use Rattle.path_lines.proofs.Exchanges.Exchanging.{one_side}
use Rattle.path_lines.proofs.Walking.FirstLines.{units, sum_of_unit, units_here, units_other, units_outside}
use Rattle.path_lines.proofs.Places.{mark_is_there, names_differ, number_there}
use Rattle.path_fits.specs.declared.last.after.Mover.{Mover}
use Rattle.path_fits.specs.Sums.{IsMoverOf, IsSideAt}
use Rattle.path_levels.specs.Exchanges.Pivots.{IsExchangePivot}
use Rattle.path_lines.proofs.Exchanges.NextLines.{den_up}
use Rattle.frac_core.proofs.Numbers.{one-times as one_times, mul-cancelled as cancelled, signs-same as signs_same, pos-size as up, product-up as positive_product}
use Rattle.path_levels.proofs.Exchanges.FitFacts.{next_is_there as corner_after}
use Rattle.frac_core.proofs.Divisors.{size_above as some_up}
use Rattle.problem_core.proofs.Marks.{entered-in as enter_in, kept-in as kept_in}

-- ---- which marks are inside

not_entering : (p : Problem) (at : List Mark) (step : Step) (k : ℕ) (side : Side) → IsThere p at → step.enter.at < line_count p → k < line_count p → k ≢ step.enter.at → (IsIn (place_of (name_at p k) side) at → place_of (name_at p k) side ≢ place (swap_of p step).leave → ⊥)
    → IsIn (place_of (name_at p k) side) (exchanged (swap_of p step) at) → ⊥
not_entering p at step k side there enter within other none inside =
    elim (exchanged_in (swap_of p step) at (place_of (name_at p k) side) inside) [
      | inl same ↦ names_differ p k step.enter.at there.whole within enter other (by-sides (name_at p k) (name_at p step.enter.at) side step.enter.side same).0
      | inr kept ↦ none kept.0 kept.1
    ]

pub entered : (p : Problem) (at : List Mark) (step : Step) (k : ℕ) → IsExchange p at (swap_of p step) → k ≡ step.enter.at → IsSideAt (exchanged (swap_of p step) at) (name_at p k) (Some step.enter.side)
entered p at step k ex same = subst (λ (i : ℕ). IsIn (place_of (name_at p i) step.enter.side) (exchanged (swap_of p step) at)) (sym same) (enter_in (swap_of p step) at ex.leaves)

pub left : (p : Problem) (at : List Mark) (step : Step) (k : ℕ) → IsThere p at → IsExchange p at (swap_of p step) → step.enter.at < line_count p → k < line_count p → k ≢ step.enter.at → k ≡ step.leave.at → IsSideAt (exchanged (swap_of p step) at) (name_at p k) None
left p at step k there ex enter within other same =
    let leaves : IsIn (place_of (name_at p k) step.leave.side) at = subst (λ (i : ℕ). IsIn (place_of (name_at p i) step.leave.side) at) (sym same) ex.leaves in
    let gone : (side : Side) → IsIn (place_of (name_at p k) side) at → place_of (name_at p k) side ≢ place (swap_of p step).leave → ⊥ =
    λ side i n. n (ap (λ (s : Side). place_of (name_at p k) s) (one_side p at (name_at p k) side step.leave.side there i leaves) ∙ ap (λ (i : ℕ). place_of (name_at p i) step.leave.side) same) in
    record {
      under = not_entering p at step k Under there enter within other (gone Under);
      over = not_entering p at step k Over there enter within other (gone Over);
    }

pub stayed_out : (p : Problem) (at : List Mark) (step : Step) (k : ℕ) → IsThere p at → step.enter.at < line_count p → k < line_count p → k ≢ step.enter.at → IsOutsideLine at (name_at p k) → IsSideAt (exchanged (swap_of p step) at) (name_at p k) None
stayed_out p at step k there enter within other out = record {
  under = not_entering p at step k Under there enter within other (λ i n. out.under i);
  over = not_entering p at step k Over there enter within other (λ i n. out.over i);
}

pub stayed_in : (p : Problem) (at : List Mark) (step : Step) (k : ℕ) (side : Side) → IsThere p at → step.leave.at < line_count p → k < line_count p → k ≢ step.leave.at → IsIn (place_of (name_at p k) side) at → IsSideAt (exchanged (swap_of p step) at) (name_at p k) (Some side)
stayed_in p at step k side there leave within other inside =
    kept_in (swap_of p step) at (place_of (name_at p k) side) inside (λ same. names_differ p k step.leave.at there.whole within leave other (by-sides (name_at p k) (name_at p step.leave.at) side step.leave.side same).0)

-- ---- the value of a sum

pub sum_value : (p : Problem) (at : List Mark) (quantity : (ℕ → ℤ) → ℤ) (own : ℕ) (by : RowName → ℤ) (num : ℤ) (den : ℕ) (x : Point) → IsWhole p → IsLineSum p at quantity own by num den → StandsAt p at x → pos den *ℤ quantity x.num ≡ num *ℤ x.num one_column
sum_value p at quantity own by num den x whole s stands =
    let none : sum_of (λ l. by l.name *ℤ deviation l.name x.num) (lines p) ≡ pos 0 = sym (form-value by x.num (lines p)) ∙ form_there p at x (mark_form by (lines p)) stands (form-outside p at by whole s.outside) in
    cancel_mul own (pos den *ℤ quantity x.num) (num *ℤ x.num one_column) s.own_positive
    (mul_left_comm_ℤ (pos own) (pos den) (quantity x.num)
    ∙ ap (λ (t : ℤ). pos den *ℤ t) (less-none own (quantity x.num) (sum_of (λ l. by l.name *ℤ deviation l.name x.num) (lines p)) none)
    ∙ s.holds x stands.0)

-- ---- a turn

pub turned_sum : (p : Problem) (at : List Mark) (s : Swap) (quantity : (ℕ → ℤ) → ℤ) (own : ℕ) (by : RowName → ℤ) (num : ℤ) (den : ℕ) → IsIn (place s.leave) at → s.enter.row ≡ s.leave.row → IsLineSum p at quantity own by num den → IsLineSum p (exchanged s at) quantity own by num den
turned_sum p at s quantity own by num den leaves same e = record {
  own_positive = e.own_positive;
  den_positive = e.den_positive;
  outside = λ k d within some.
      let out : IsOutsideLine at (get_or (lines p) k d).name = e.outside k d within some in
      still-outside s at (get_or (lines p) k d).name (λ name. no-side at (get_or (lines p) k d).name s.leave.side out (subst (λ (n : RowName). IsIn (place_of n s.leave.side) at) (sym (name ∙ same)) leaves)) out;
  holds = e.holds;
}

-- ---- an exchange of two lines

-- the entering line's value after it, whether or not it fits
abbrev pub enters_of : Pivot → Fraction
enters_of pivot = record { num = sum_num zero_fraction pivot.times pivot.size pivot.value; den = unsigned_abs (sum_den zero_fraction pivot.size pivot.value) }

pub entered_by : (pivot : Pivot) → pos 0 <ℤ pivot.size → 0 < pivot.value.den → IsEnteredBy pivot (enters_of pivot)
entered_by pivot above some =
    let more : pos 0 <ℤ sum_den zero_fraction pivot.size pivot.value = den_up pivot.size pivot.value.den above some in
    (some_up (sum_den zero_fraction pivot.size pivot.value) more, ap (λ (z : ℤ). sum_num zero_fraction pivot.times pivot.size pivot.value *ℤ z) (sym (up (sum_den zero_fraction pivot.size pivot.value) more)))

enters_den : (pivot : Pivot) → pos 0 <ℤ pivot.size → 0 < pivot.value.den → pos (enters_of pivot).den ≡ pivot.size *ℤ pos pivot.value.den
enters_den pivot above some = up (sum_den zero_fraction pivot.size pivot.value) (den_up pivot.size pivot.value.den above some) ∙ one_times (pivot.size *ℤ pos pivot.value.den)
  where
    one_times : (z : ℤ) → pos 1 *ℤ z ≡ z
    one_times z = omega (arith, ints)

enters_num : (pivot : Pivot) → (enters_of pivot).num ≡ pivot.times *ℤ pivot.value.num
enters_num pivot = ap₂ ◌+ℤ◌ (zero-mul_ℤ (pivot.size *ℤ pos pivot.value.den)) (ap (λ (z : ℤ). pivot.times *ℤ z) (times_one pivot.value.num)) ∙ zero_plus (pivot.times *ℤ pivot.value.num)
  where
    times_one : (z : ℤ) → z *ℤ pos 1 ≡ z
    times_one z = omega (arith, ints)

    zero_plus : (z : ℤ) → pos 0 +ℤ z ≡ z
    zero_plus z = omega (arith, ints)

regroup : (n t v b : ℤ) → n *ℤ ((t *ℤ v) *ℤ b) ≡ (n *ℤ t) *ℤ (v *ℤ b)
regroup n t v b = ap (λ (z : ℤ). n *ℤ z) (mul_assoc_ℤ t v b) ∙ sym (mul_assoc_ℤ n t (v *ℤ b))

pub num_after : (base : Fraction) (n own : ℤ) (pivot : Pivot) → pos 0 <ℤ pivot.size → 0 < pivot.value.den → sum_num base n own (enters_of pivot) ≡ sum_num base (n *ℤ pivot.times) (own *ℤ pivot.size) pivot.value
num_after base n own pivot above some =
    ap₂ ◌+ℤ◌ (ap (λ (z : ℤ). base.num *ℤ z) (ap (λ (z : ℤ). own *ℤ z) (enters_den pivot above some) ∙ sym (mul_assoc_ℤ own pivot.size (pos pivot.value.den))))
    (ap (λ (z : ℤ). n *ℤ (z *ℤ pos base.den)) (enters_num pivot) ∙ regroup n pivot.times pivot.value.num (pos base.den))

pub den_after : (base : Fraction) (own : ℤ) (pivot : Pivot) → pos 0 <ℤ pivot.size → 0 < pivot.value.den → sum_den base own (enters_of pivot) ≡ sum_den base (own *ℤ pivot.size) pivot.value
den_after base own pivot above some = ap (λ (z : ℤ). pos base.den *ℤ z) (ap (λ (z : ℤ). own *ℤ z) (enters_den pivot above some) ∙ sym (mul_assoc_ℤ own pivot.size (pos pivot.value.den)))

-- the numbers with the pivot put in
abbrev pub put_in : Problem → Pivot → (RowName → ℤ) → RowName → ℤ
put_in p pivot by name = pos (unsigned_abs pivot.size) *ℤ by name +ℤ by (name_at p pivot.step.enter.at) *ℤ numbers_of (lines p) pivot.by.items name

put_in_row : (p : Problem) (at : List Mark) (pivot : Pivot) (by : RowName → ℤ) → IsPivotOf p at (swap_of p pivot.step) (unsigned_abs pivot.size) pivot.by.items (enters_of pivot)
    → IsExchangedRow (lines p) (name_at p pivot.step.enter.at) (unsigned_abs pivot.size) (without (name_at p pivot.step.enter.at) (numbers_of (lines p) pivot.by.items)) by (put_in p pivot by)
put_in_row p at pivot by is = record {
  at_enter = ap (λ (z : ℤ). pos (unsigned_abs pivot.size) *ℤ by (name_at p pivot.step.enter.at) +ℤ by (name_at p pivot.step.enter.at) *ℤ z) is.at_enter ∙ cancelled (pos (unsigned_abs pivot.size)) (by (name_at p pivot.step.enter.at));
  others = λ k d within other. ap (λ (z : ℤ). pos (unsigned_abs pivot.size) *ℤ by (get_or (lines p) k d).name +ℤ by (name_at p pivot.step.enter.at) *ℤ z)
      (sym (without_other (name_at p pivot.step.enter.at) (numbers_of (lines p) pivot.by.items) (get_or (lines p) k d).name other));
}

-- a quantity's sum with the pivot put in
pub moved_sum : (p : Problem) (at : List Mark) (pivot : Pivot) (quantity : (ℕ → ℤ) → ℤ) (own : ℕ) (by : RowName → ℤ) (base : Fraction) (num : ℤ) (den : ℕ) → IsPivotAt p at pivot → IsLineSum p at quantity own by base.num base.den → 0 < den
    → num *ℤ sum_den base (pos own *ℤ pivot.size) pivot.value ≡ sum_num base (by (name_at p pivot.step.enter.at) *ℤ pivot.times) (pos own *ℤ pivot.size) pivot.value *ℤ pos den
    → IsLineSum p (next_marks p pivot at) quantity (unsigned_abs pivot.size * own) (put_in p pivot by) num den
moved_sum p at pivot quantity own by base num den is sum above ratio =
    let solved : IsPivotOf p at (swap_of p pivot.step) (unsigned_abs pivot.size) pivot.by.items (enters_of pivot) = is.solved (enters_of pivot) (entered_by pivot is.above is.value_den) in
    carried p at (swap_of p pivot.step) quantity is.there.whole (mark_is_there p pivot.step.enter.at pivot.step.enter.side is.enter_at) is.exchange.leaves own by base (unsigned_abs pivot.size) (without (name_at p pivot.step.enter.at) (numbers_of (lines p) pivot.by.items)) (enters_of pivot) (put_in p pivot by) num den sum
    (line_sum p (next_marks p pivot at) (deviation (name_at p pivot.step.enter.at)) (unsigned_abs pivot.size) (without (name_at p pivot.step.enter.at) (numbers_of (lines p) pivot.by.items)) (enters_of pivot).num (enters_of pivot).den solved.equation)
    (put_in_row p at pivot by solved) above
    (ap (λ (z : ℤ). num *ℤ z) (den_after base (pos own) pivot is.above is.value_den) ∙ ratio ∙ ap (λ (z : ℤ). z *ℤ pos den) (sym (num_after base (by (name_at p pivot.step.enter.at)) (pos own) pivot is.above is.value_den)))

-- ---- one line alone

-- an outside line's deviation is itself
pub unit_line : (p : Problem) (at : List Mark) (k : ℕ) → IsWhole p → k < line_count p → IsOutsideLine at (name_at p k) → IsLineSum p at (deviation (name_at p k)) 1 (units p k) (pos 0) 1
unit_line p at k whole within out = record {
  own_positive = omega arith;
  den_positive = omega arith;
  outside = λ q d here some. units_outside p at k (get_or (lines p) q d).name out some;
  holds = λ x solves. nothing (deviation (name_at p k) x.num) (sum_of (λ l. units p k l.name *ℤ deviation l.name x.num) (lines p)) (x.num one_column) (sum_of_unit p k x.num whole within);
}
  where
    nothing : (q s o : ℤ) → s ≡ q → pos 1 *ℤ (pos 1 *ℤ q -ℤ s) ≡ pos 1 *ℤ (pos 0 *ℤ o)
    nothing q s o e = (let h : pos 1 *ℤ (pos 1 *ℤ q -ℤ s) ≡ pos 0 = omega (arith, ints, e) in h) ∙ sym (one_times (pos 0 *ℤ o) ∙ zero-mul_ℤ o)

-- ---- movers

pub inside_mover : (p : Problem) (at : List Mark) (k enter : ℕ) (inside : Inside) (mover : Mover) → IsThere p at → enter < line_count p → IsLineAt p at (name_at p k) (Some inside) → mover.own ≡ inside.sum.own → mover.number ≡ number_at inside.sum.by.items enter → mover.value ≡ inside.sum.value
    → IsMoverOf p at (name_at p k) (name_at p enter) mover
inside_mover p at k enter inside mover there within line own number value =
    let e : IsLineSum p at (deviation (name_at p k)) (unsigned_abs inside.sum.own) (numbers_of (lines p) inside.sum.by.items) inside.sum.value.num inside.sum.value.den =
    line_sum p at (deviation (name_at p k)) (unsigned_abs inside.sum.own) (numbers_of (lines p) inside.sum.by.items) inside.sum.value.num inside.sum.value.den line.1.equation in
    record {
      by = numbers_of (lines p) inside.sum.by.items;
      sum = subst₂ (λ (z : ℤ) (f : Fraction). IsLineSum p at (deviation (name_at p k)) (unsigned_abs z) (numbers_of (lines p) inside.sum.by.items) f.num f.den) (sym own) (sym value) e;
      number = number_there p inside.sum.by.items enter there.whole line.1.sized.count_is within ∙ sym number;
    }

pub outside_mover : (p : Problem) (at : List Mark) (k enter : ℕ) (mover : Mover) → IsThere p at → k < line_count p → enter < line_count p → IsLineAt p at (name_at p k) None → mover.own ≡ pos 1 → (k ≡ enter → mover.number ≡ pos 1) → (k ≢ enter → mover.number ≡ pos 0) → mover.value.num ≡ pos 0 → mover.value.den ≡ 1
    → IsMoverOf p at (name_at p k) (name_at p enter) mover
outside_mover p at k enter mover there here within out own same other num den = record {
  by = units p k;
  sum = subst (λ (z : ℤ). IsLineSum p at (deviation (name_at p k)) (unsigned_abs z) (units p k) mover.value.num mover.value.den) (sym own)
      (subst₂ (λ (z : ℤ) (d : ℕ). IsLineSum p at (deviation (name_at p k)) 1 (units p k) z d) (sym num) (sym den) (unit_line p at k there.whole here out));
  number = elim (cases_eq k enter) [
    | inl e ↦ units_here p k (name_at p enter) (ap (name_at p) (sym e)) ∙ sym (same e)
    | inr ne ↦ units_other p k (name_at p enter) (λ e. names_differ p k enter there.whole here within ne (sym e)) ∙ sym (other ne)
  ];
}

-- ---- signs

-- an inside mark is the deviation with its sign
side_is : (p : Problem) (at : List Mark) (name : RowName) (side : Side) (x : Point) → IsThere p at → Contains (map place (marks_of (lines p))) (place_of name (other_side side)) → IsIn (place_of name side) at → StandsAt p at x → x.num (place_of name side) ≡ sign_of side *ℤ deviation name x.num
side_is p at name side x there known inside stands =
    let none : x.num (place_of name (other_side side)) ≡ pos 0 = nothing_outside p at x (place_of name (other_side side)) stands known (other-out p at name side there.whole there.corner inside) in
    side-value name side x.num ∙ ap (λ (z : ℤ). z +ℤ sign_of side *ℤ deviation name x.num) none ∙ zero_plus (sign_of side *ℤ deviation name x.num)
  where
    zero_plus : (z : ℤ) → pos 0 +ℤ z ≡ z
    zero_plus z = omega (arith, ints)

pub up_by_sum : (p : Problem) (at : List Mark) (k : ℕ) (side : Side) (own : ℕ) (by : RowName → ℤ) (num : ℤ) (den : ℕ) → IsThere p at → k < line_count p → IsIn (place_of (name_at p k) side) at → IsLineSum p at (deviation (name_at p k)) own by num den
    → (pos 0 ≤ℤ (sign_of side *ℤ num)) ↔ IsUp p at (name_at p k)
up_by_sum p at k side own by num den there within inside sum =
    let known : Contains (map place (marks_of (lines p))) (place_of (name_at p k) (other_side side)) = mark_is_there p k (other_side side) within in
    let value : (x : Point) → StandsAt p at x → pos den *ℤ x.num (place_of (name_at p k) side) ≡ (sign_of side *ℤ num) *ℤ x.num one_column =
    λ x stands. ap (λ (z : ℤ). pos den *ℤ z) (side_is p at (name_at p k) side x there known inside stands) ∙ mul_left_comm_ℤ (pos den) (sign_of side) (deviation (name_at p k) x.num)
    ∙ ap (λ (z : ℤ). sign_of side *ℤ z) (sum_value p at (deviation (name_at p k)) own by num den x there.whole sum stands) ∙ sym (mul_assoc_ℤ (sign_of side) num (x.num one_column)) in
    let iff : (x : Point) → StandsAt p at x → (pos 0 ≤ℤ x.num (place_of (name_at p k) side)) ↔ (pos 0 ≤ℤ (sign_of side *ℤ num)) =
    λ x stands. signs_same den (x.num (place_of (name_at p k) side)) (sign_of side *ℤ num) (x.num one_column) sum.den_positive x.positive (value x stands) in (
      λ not_down x other stands i. subst (λ (s : Side). pos 0 ≤ℤ x.num (place_of (name_at p k) s)) (one_side p at (name_at p k) side other there inside i) ((iff x stands).1 not_down),
      λ is_up. (iff there.corner.point there.corner.stands).0 (is_up there.corner.point side there.corner.stands inside),
    )

-- the sign after the exchange: of a mover that turns, and of one that moves
pub up_turned : (p : Problem) (at : List Mark) (pivot : Pivot) (k : ℕ) (side : Side) (mover : Mover) → IsExchangePivot p at pivot → pivot.is_turn ≡ true → k < line_count p → IsIn (place_of (name_at p k) side) (next_marks p pivot at)
    → IsMoverOf p at (name_at p k) (name_at p pivot.step.enter.at) mover → (pos 0 ≤ℤ (sign_of side *ℤ mover.value.num)) ↔ IsUp p (next_marks p pivot at) (name_at p k)
up_turned p at pivot k side mover is turn within inside s =
    up_by_sum p (next_marks p pivot at) k side (unsigned_abs mover.own) s.by mover.value.num mover.value.den (corner_after p at pivot is) within inside
    (turned_sum p at (swap_of p pivot.step) (deviation (name_at p k)) (unsigned_abs mover.own) s.by mover.value.num mover.value.den is.exchange.leaves (ap (name_at p) (is.sized.turn turn)) s.sum)

pub up_moved : (p : Problem) (at : List Mark) (pivot : Pivot) (k : ℕ) (side : Side) (mover : Mover) → IsExchangePivot p at pivot → pivot.is_turn ≡ false → k < line_count p → IsIn (place_of (name_at p k) side) (next_marks p pivot at) → pos 0 <ℤ mover.own
    → IsMoverOf p at (name_at p k) (name_at p pivot.step.enter.at) mover → (pos 0 ≤ℤ (sign_of side *ℤ sum_num mover.value (mover.number *ℤ pivot.times) (mover.own *ℤ pivot.size) pivot.value)) ↔ IsUp p (next_marks p pivot at) (name_at p k)
up_moved p at pivot k side mover is other within inside above s =
    let pivoted : IsPivotAt p at pivot = is.of_lines other in
    let num : ℤ = sum_num mover.value (mover.number *ℤ pivot.times) (mover.own *ℤ pivot.size) pivot.value in
    let den : ℤ = sum_den mover.value (mover.own *ℤ pivot.size) pivot.value in
    let den_above : pos 0 <ℤ den = mul_positive mover.value.den ((mover.own *ℤ pivot.size) *ℤ pos pivot.value.den) s.sum.den_positive
    (positive_product (mover.own *ℤ pivot.size) (pos pivot.value.den) (positive_product mover.own pivot.size above pivoted.above) (pos_above pivot.value.den pivoted.value_den)) in
    let own_is : pos (unsigned_abs mover.own) ≡ mover.own = up mover.own above in
    up_by_sum p (next_marks p pivot at) k side (unsigned_abs pivot.size * unsigned_abs mover.own) (put_in p pivot s.by) num (unsigned_abs den) (corner_after p at pivot is) within inside
    (moved_sum p at pivot (deviation (name_at p k)) (unsigned_abs mover.own) s.by mover.value num (unsigned_abs den) pivoted s.sum (some_up den den_above)
    (subst₂ (λ (o n : ℤ). num *ℤ sum_den mover.value (o *ℤ pivot.size) pivot.value ≡ sum_num mover.value (n *ℤ pivot.times) (o *ℤ pivot.size) pivot.value *ℤ pos (unsigned_abs den)) (sym own_is) (sym s.number)
    (ap (λ (z : ℤ). num *ℤ z) (sym (up den den_above)))))
  where
    pos_above : (n : ℕ) → 0 < n → pos 0 <ℤ pos n
    pos_above n h = omega (arith, ints, h)

-- the corner after an exchange by its step
pub step_there : (p : Problem) (at : List Mark) (step : Step) → IsThere p at → IsExchange p at (swap_of p step) → step.enter.at < line_count p → IsThere p (exchanged (swap_of p step) at)
step_there p at step there ex enter = record {
  whole = there.whole;
  corner = ex.corner;
  rays = rays_after p at (swap_of p step) (mark_is_there p step.enter.at step.enter.side enter) ex there.rays;
}
