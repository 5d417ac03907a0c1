-- From a corner's lines to those of the next, by an exchange.
use Rattle.std.proofs.Common.{◌≡◌, ◌≢◌, ℕ, ◌<◌, List, length, get_or, pos, sym, subst, arith, inl, inr, Result, Ok, Err, IfOk, IfErr, Option, None, Some}
use Rattle.std.proofs.lemmas.Bool.{cases_eq}
use Rattle.frac_core.specs.Fraction.{Fraction, IsUnfitRatio, sum_den, sum_num}
use Rattle.problem_core.specs.declared.parts.Mark.{Mark}
use Rattle.problem_core.specs.declared.parts.Side.{Side}
use Rattle.problem_core.specs.Layout.{Problem}
use Rattle.problem_core.specs.Corners.{IsExchange, exchanged}
use Rattle.problem_core.specs.Window.{zero_fraction}
use Rattle.corner_laws.proofs.Rays.{rays_after}
use Rattle.path_lines.specs.declared.exchange.Pivot.{Pivot}
use Rattle.path_lines.specs.declared.spots.Step.{Step}
use Rattle.path_lines.specs.declared.table.Inside.{Inside}
use Rattle.path_lines.specs.declared.table.Sum.{Sum}
use Rattle.path_lines.specs.Numbers.{number_at}
use Rattle.path_lines.specs.Tables.{AreLines, AreSized, IsLineAt, IsSizedLine, IsSumOf, IsThere, IsTurned, IsTurnedLine, line_count, name_at, swap_of}
use Rattle.path_lines.specs.Exchanges.Pivots.{AreNextLines, AreUnfitNext, HasUnfit, IsEnteredBy, IsLeavingBy, IsPivotAt, IsSolvedFrom, LeadTo, LeadToUnfit}
use Rattle.path_lines.proofs.Exchanges.Exchanging.{none_leaves, one_side, other_iff}
use Rattle.path_lines.proofs.Exchanges.NextLines.{entering_value_unfit, next_there}
use Rattle.path_lines.proofs.Places.{mark_is_there}
use Rattle.path_lines.proofs.Exchanges.SolvedPivots.{solved_is_pivot}
use Rattle.path_lines.proofs.Exchanges.Turning.{turned_lines_are}

pub ok_then : {T E : Type 0} {P Q : T → Type 0} (r : Result T E) → ((x : T) → P x → Q x) → IfOk r P → IfOk r Q
ok_then (Ok x) f h = f x h
ok_then (Err e) f h = h

pub err_then : {T E : Type 0} {P Q : E → Type 0} (r : Result T E) → ((x : E) → P x → Q x) → IfErr r P → IfErr r Q
err_then (Ok x) f h = h
err_then (Err e) f h = f e h

leaving_line : (p : Problem) (at : List Mark) (step : Step) (kept : List (Option Inside)) (leaving : Sum) → AreLines p at kept → (left : IsLeavingBy step kept leaving) → IsLineAt p at (name_at p step.leave.at) (Some left.0)
leaving_line p at step kept leaving lines left =
    subst (IsLineAt p at (name_at p step.leave.at)) (left.4 None) (lines.each step.leave.at None (omega (arith, left.3, lines.count)))

pub exchange_stands : (p : Problem) (at : List Mark) (step : Step) (kept : List (Option Inside)) (leaving : Sum) → IsThere p at → AreLines p at kept → step.enter.at < length kept → IsLeavingBy step kept leaving → IsExchange p at (swap_of p step)
    → number_at leaving.by.items step.enter.at ≢ pos 0
exchange_stands p at step kept leaving there lines enter left ex =
    let line : IsLineAt p at (name_at p step.leave.at) (Some left.0) = leaving_line p at step kept leaving lines left in
    let side : left.0.side ≡ step.leave.side = one_side p at (name_at p step.leave.at) left.0.side step.leave.side there line.0 ex.leaves in
    subst (λ (s : Sum). number_at s.by.items step.enter.at ≢ pos 0) left.1
    ((other_iff p at step left.0 there (omega (arith, enter, lines.count)) (omega (arith, left.3, lines.count)) side line left.2).1 ex)

pub pivot_there : (p : Problem) (at : List Mark) (step : Step) (kept : List (Option Inside)) (leaving : Sum) (pivot : Pivot) → IsThere p at → AreLines p at kept → step.enter.at < length kept → IsLeavingBy step kept leaving → IsExchange p at (swap_of p step)
    → IsSolvedFrom leaving step pivot → IsPivotAt p at pivot
pivot_there p at step kept leaving pivot there lines enter left ex is =
    let line : IsLineAt p at (name_at p step.leave.at) (Some left.0) = leaving_line p at step kept leaving lines left in
    solved_is_pivot p at step leaving pivot there (omega (arith, enter, lines.count)) (omega (arith, left.3, lines.count)) left.2 ex (subst (λ (s : Sum). IsSumOf p at (name_at p step.leave.at) s) left.1 line.1) is

pub leads : (step : Step) (kept next : List (Option Inside)) (leaving : Sum) (pivot : Pivot) (enters : Fraction) → step.enter.at < length kept → IsSolvedFrom leaving step pivot → IsEnteredBy pivot enters → AreNextLines pivot enters kept next → IsLeavingBy step kept leaving → LeadTo step kept next
leads step kept next leaving pivot enters enter is entered made left p at there lines ex =
    let pivot_is : IsPivotAt p at pivot = pivot_there p at step kept leaving pivot there lines enter left ex is in
    subst (λ (t : Step). IsThere p (exchanged (swap_of p t) at) × AreLines p (exchanged (swap_of p t) at) next) is.step_is (next_there p at pivot pivot_is, made p at pivot_is entered lines)

pub leads_to_unfit : (step : Step) (kept : List (Option Inside)) (leaving : Sum) (pivot : Pivot) (enters : Fraction) → step.enter.at < length kept → IsSolvedFrom leaving step pivot → IsEnteredBy pivot enters → AreUnfitNext pivot enters kept → IsLeavingBy step kept leaving → LeadToUnfit step kept
leads_to_unfit step kept leaving pivot enters enter is entered unfit left p at there lines ex =
    subst (λ (t : Step). HasUnfit p (exchanged (swap_of p t) at)) is.step_is (unfit p at (pivot_there p at step kept leaving pivot there lines enter left ex is) entered lines)

pub value_leads_to_unfit : (step : Step) (kept : List (Option Inside)) (leaving : Sum) (pivot : Pivot) → step.enter.at < length kept → IsSolvedFrom leaving step pivot
    → IsUnfitRatio (sum_num zero_fraction pivot.times pivot.size pivot.value) (sum_den zero_fraction pivot.size pivot.value) → IsLeavingBy step kept leaving → LeadToUnfit step kept
value_leads_to_unfit step kept leaving pivot enter is unfit left p at there lines ex =
    subst (λ (t : Step). HasUnfit p (exchanged (swap_of p t) at)) is.step_is (entering_value_unfit p at pivot (pivot_there p at step kept leaving pivot there lines enter left ex is) unfit)

pub nothing_leaves : (step : Step) (kept : List (Option Inside)) → ((d : Option Inside) → get_or kept step.leave.at d ≡ None) → step.leave.at < length kept → LeadToUnfit step kept
nothing_leaves step kept none leave p at there lines ex =
    absurd (none_leaves p at step (subst (IsLineAt p at (name_at p step.leave.at)) (none None) (lines.each step.leave.at None (omega (arith, leave, lines.count)))) ex)

pub turn_leads : (step : Step) (kept next : List (Option Inside)) → step.enter.at < length kept → step.enter.at ≡ step.leave.at → IsTurned step.enter.at step.enter.side kept next → LeadTo step kept next
turn_leads step kept next enter turn is p at there lines ex =
    let within : step.enter.at < line_count p = omega (arith, enter, lines.count) in (
      record { whole = there.whole; corner = ex.corner; rays = rays_after p at (swap_of p step) (mark_is_there p step.enter.at step.enter.side within) ex there.rays },
      turned_lines_are p at step kept next there within turn ex lines is,
    )

turned_sized_line : (count : ℕ) (side : Side) (old next : Option Inside) → IsTurnedLine side old next → IsSizedLine count old → IsSizedLine count next
turned_sized_line count side None None is sized = sized
turned_sized_line count side None (Some next) is sized = absurd is
turned_sized_line count side (Some old) None is sized = absurd is
turned_sized_line count side (Some old) (Some next) is sized = subst (λ (s : Sum). IsSizedLine count (Some (record { side = next.side; sum = s }))) (sym is.1) sized

pub turned_sized : (at : ℕ) (side : Side) (kept next : List (Option Inside)) → IsTurned at side kept next → AreSized kept → AreSized next
turned_sized at side kept next is sized k d within =
    subst (λ (n : ℕ). IsSizedLine n (get_or next k d)) (sym is.count)
    (elim (cases_eq k at) [
      | inl e ↦ subst (λ (j : ℕ). IsSizedLine (length kept) (get_or next j d)) (sym e) (turned_sized_line (length kept) side (get_or kept at d) (get_or next at d) (is.here d) (sized at d (omega (arith, within, is.count, e))))
      | inr n ↦ subst (IsSizedLine (length kept)) (sym (is.others k d n)) (sized k d (omega (arith, within, is.count)))
    ])
