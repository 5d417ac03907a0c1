-- The leaving line's equation, solved for the entering line, is the pivot.
use Rattle.std.proofs.Common.{◌≡◌, ◌≢◌, ◌∙◌, ℕ, ◌<◌, Bool, true, false, not, List, length, ℤ, pos, negsuc, ◌*ℤ◌, ◌<ℤ◌, neg_ℤ, unsigned_abs, refl, sym, ap, ap₂, subst, arith}
use borrow.Author.Differences.{ints}
use Rattle.frac_core.specs.Fraction.{Fraction, IsRatio, sum_den, sum_num}
use Rattle.problem_core.specs.declared.parts.Mark.{Mark}
use Rattle.problem_core.specs.declared.parts.RowName.{RowName}
use Rattle.problem_core.specs.declared.parts.Side.{Side}
use Rattle.problem_core.specs.declared.parts.Side.TheVariants.{Under, Over}
use Rattle.problem_core.specs.Layout.{Problem, lines}
use Rattle.problem_core.specs.Kept.{IsWhole}
use Rattle.problem_core.specs.Corners.{IsExchange, Swap, place_of}
use Rattle.problem_core.specs.Window.{zero_fraction}
use Rattle.corner_laws.specs.Laws.{IsMarkAt}
use Rattle.corner_laws.proofs.LinePlaces.{lines_apart}
use Rattle.corner_lines.specs.LineEquations.{IsLineEquation, deviation, sign_of}
use Rattle.path_lines.specs.declared.spots.Step.{Step}
use Rattle.path_lines.specs.Numbers.{IsReplaced, flip_sign, number_at}
use Rattle.path_lines.specs.Exchanges.Carried.{IsPivotOf, IsResolvedList}
use Rattle.path_lines.specs.Tables.{IsThere, line_count, name_at, numbers_of, swap_of}
use Rattle.path_lines.specs.Exchanges.Pivots.{SolvedIsPivot}
use Rattle.path_lines.proofs.Exchanges.CarriedSums.{leaving_is_pivot}
use Rattle.path_lines.proofs.Exchanges.EnteringLine.{at_place}
use Rattle.path_lines.proofs.Places.{mark_is_there, name_there, number_there}
use Rattle.frac_core.proofs.Divisors.{size_above as some_up}

-- the side whose sign it is
abbrev pub side_of : Bool → Side
side_of true = Under
side_of false = Over

pub sign_is : (b : Bool) → sign_of (side_of b) ≡ flip_sign b
sign_is true = refl
sign_is false = refl

turned_back : (b : Bool) (z : ℤ) → flip_sign (not b) *ℤ z ≡ neg_ℤ (sign_of (side_of b) *ℤ z)
turned_back true z = omega (arith, ints)
turned_back false z = omega (arith, ints)

resolved_list : (p : Problem) (leave : ℕ) (b : Bool) (own : ℕ) (by pivot : List ℤ) → IsWhole p → leave < line_count p → length by ≡ line_count p → IsReplaced (flip_sign (not b)) by leave (flip_sign b *ℤ pos own) pivot
    → IsResolvedList p (name_at p leave) (side_of b) own by pivot
resolved_list p leave b own by pivot whole within count is =
    let long : length pivot ≡ line_count p = is.count ∙ count in
    record {
      count = long;
      leaves = number_there p pivot leave whole long within ∙ is.here (omega (arith, within, count)) ∙ ap (λ (z : ℤ). z *ℤ pos own) (sym (sign_is b));
      others = λ k d inside other.
          at_place (lines p) pivot k d (lines_apart p whole) long inside
          ∙ is.others k (omega (arith, inside, count)) (λ same. other (name_there p k d inside ∙ ap (name_at p) same))
          ∙ turned_back b (number_at by k)
          ∙ ap (λ (z : ℤ). neg_ℤ (sign_of (side_of b) *ℤ z)) (sym (at_place (lines p) by k d (lines_apart p whole) count inside));
    }

solved_one : (p : Problem) (at : List Mark) (s : Swap) (enter leave : ℕ) (b : Bool) (own size : ℕ) (times : ℤ) (by pivot : List ℤ) (value enters : Fraction) → IsThere p at → enter < line_count p → leave < line_count p
    → name_at p enter ≡ s.enter.row → name_at p leave ≡ s.leave.row → IsExchange p at s → length by ≡ line_count p
    → IsLineEquation p at (deviation s.leave.row) own (numbers_of (lines p) by) value.num value.den → IsReplaced (flip_sign (not b)) by leave (flip_sign b *ℤ pos own) pivot → 0 < size → pos size ≡ flip_sign b *ℤ number_at by enter
    → times ≡ neg_ℤ (flip_sign b *ℤ pos own) → 0 < enters.den → IsRatio enters (sum_num zero_fraction times (pos size) value) (sum_den zero_fraction (pos size) value)
    → IsPivotOf p at s size pivot enters
solved_one p at s enter leave b own size times by pivot value enters there enter_in leave_in enter_is leave_is ex count e is some size_is times_is den ratio =
    leaving_is_pivot p at s (side_of b) own size by pivot value enters there.whole there.corner
    (subst (λ (n : RowName). IsMarkAt p (place_of n s.enter.side)) enter_is (mark_is_there p enter s.enter.side enter_in)) ex.leaves e
    (subst (λ (n : RowName). IsResolvedList p n (side_of b) own by pivot) leave_is (resolved_list p leave b own by pivot there.whole leave_in count is)) some
    (size_is ∙ ap₂ ◌*ℤ◌ (sym (sign_is b)) (sym (number_there p by enter there.whole count enter_in) ∙ ap (numbers_of (lines p) by) enter_is)) den
    (subst (λ (z : ℤ). IsRatio enters (sum_num zero_fraction z (pos size) value) (sum_den zero_fraction (pos size) value)) (times_is ∙ ap (λ (z : ℤ). neg_ℤ (z *ℤ pos own)) (sym (sign_is b))) ratio)

-- the same with signed numbers
solved_two : (p : Problem) (at : List Mark) (s : Swap) (enter leave : ℕ) (b : Bool) (own size times : ℤ) (by pivot : List ℤ) (value enters : Fraction) → IsThere p at → enter < line_count p → leave < line_count p
    → name_at p enter ≡ s.enter.row → name_at p leave ≡ s.leave.row → IsExchange p at s → length by ≡ line_count p → pos 0 <ℤ own
    → IsLineEquation p at (deviation s.leave.row) (unsigned_abs own) (numbers_of (lines p) by) value.num value.den → IsReplaced (flip_sign (not b)) by leave (flip_sign b *ℤ own) pivot → pos 0 <ℤ size → size ≡ flip_sign b *ℤ number_at by enter
    → times ≡ neg_ℤ (flip_sign b *ℤ own) → 0 < enters.den → IsRatio enters (sum_num zero_fraction times size value) (sum_den zero_fraction size value)
    → IsPivotOf p at s (unsigned_abs size) pivot enters
solved_two p at s enter leave b (pos own) (pos size) times by pivot value enters there enter_in leave_in enter_is leave_is ex count own_up e is some size_is times_is den ratio =
    solved_one p at s enter leave b own size times by pivot value enters there enter_in leave_in enter_is leave_is ex count e is (some_up (pos size) some) size_is times_is den ratio
solved_two p at s enter leave b (negsuc own) size times by pivot value enters there enter_in leave_in enter_is leave_is ex count own_up e is some size_is times_is den ratio = absurd own_up.lt
solved_two p at s enter leave b (pos own) (negsuc size) times by pivot value enters there enter_in leave_in enter_is leave_is ex count own_up e is some size_is times_is den ratio = absurd some.lt

pub solved_is_pivot : SolvedIsPivot
solved_is_pivot p at step leaving pivot there enter leave apart ex sum is = record {
  there = there;
  enter_at = subst (λ (t : Step). t.enter.at < line_count p) (sym is.step_is) enter;
  leave_at = subst (λ (t : Step). t.leave.at < line_count p) (sym is.step_is) leave;
  apart = subst (λ (t : Step). t.enter.at ≢ t.leave.at) (sym is.step_is) apart;
  above = is.above;
  value_den = subst (λ (v : Fraction). 0 < v.den) (sym is.value_is) sum.equation.den_positive;
  exchange = subst (λ (t : Step). IsExchange p at (swap_of p t)) (sym is.step_is) ex;
  solved = λ enters entered.
      subst (λ (t : Step). IsPivotOf p at (swap_of p t) (unsigned_abs pivot.size) pivot.by.items enters) (sym is.step_is)
      (solved_two p at (swap_of p step) step.enter.at step.leave.at is.is_below leaving.own pivot.size pivot.times leaving.by.items pivot.by.items leaving.value enters there enter leave refl refl ex sum.sized.count_is sum.sized.above
      sum.equation is.by_is is.above is.size_is is.times_is entered.0
      (subst (λ (v : Fraction). IsRatio enters (sum_num zero_fraction pivot.times pivot.size v) (sum_den zero_fraction pivot.size v)) is.value_is entered.1));
}
