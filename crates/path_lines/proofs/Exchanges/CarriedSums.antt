-- A sum carried over an exchange.
use Rattle.std.proofs.Common.{◌≡◌, ◌≢◌, ◌∙◌, ℕ, ◌*◌, ◌<◌, Bool, cond, List, get_or, length, ℤ, pos, ◌+ℤ◌, ◌*ℤ◌, neg_ℤ, refl, sym, ap, mul-pos, eq-eqb, ne_eqb}
use Rattle.std.proofs.lemmas.List.Elements.{recursion_from_All}
use Rattle.frac_core.specs.Fraction.{Fraction, sum_num}
use Rattle.problem_core.specs.declared.parts.Side.TheVariants.{Under}
use Rattle.problem_core.specs.declared.parts.RowName.{RowName}
use Rattle.problem_core.specs.declared.parts.Mark.{Mark}
use Rattle.problem_core.specs.Layout.{Problem, lines}
use Rattle.problem_core.specs.Corners.{IsIn, Swap, exchanged, place, place_of}
use Rattle.problem_core.specs.Kept.{IsWhole}
use Rattle.corner_laws.specs.Laws.{IsMarkAt}
use Rattle.corner_laws.proofs.LevelCosts.Unique.{same-name}
use Rattle.corner_lines.specs.LineEquations.{IsLineSum, deviation, sign_of}
use Rattle.corner_lines.proofs.Lines.LineWritings.{Named, at-name, mark-named, none-inside}
use Rattle.corner_lines.proofs.Lines.LineExchanges.{resolved, size-some as sign_some}
use Rattle.corner_lines.specs.LineExchanges.{IsExchangedRow}
use Rattle.corner_lines.proofs.Lines.LineCarried.{carried}
use Rattle.corner_lines.proofs.Lines.LineUnfits.{reduced_line, line_sum}
use Rattle.path_lines.specs.Numbers.{IsCombined}
use Rattle.path_lines.specs.Tables.{line_count, numbers_of}
use Rattle.path_lines.specs.Exchanges.Carried.{CarriedIsEquation, IsPivotOf, LeavingIsPivot, without}
use Rattle.path_lines.proofs.Arithmetic.NumbersOf.{numbers-combined, reduced_numbers}
use Rattle.frac_core.proofs.Numbers.{mul-cancelled as cancelled}

pub without_here : (enter : RowName) (by : RowName → ℤ) → without enter by enter ≡ pos 0
without_here enter by = ap (λ (b : Bool). cond b (pos 0) (by enter)) (eq-eqb (place_of enter Under) (place_of enter Under) refl)

pub without_other : (enter : RowName) (by : RowName → ℤ) (name : RowName) → name ≢ enter → without enter by name ≡ by name
without_other enter by name other = ap (λ (b : Bool). cond b (pos 0) (by name)) (ne_eqb (place_of name Under) (place_of enter Under) (λ same. other (same-name name enter same)))

exchanged_row : (p : Problem) (at : List Mark) (s : Swap) (size : ℕ) (by pivot out : List ℤ) (enters : Fraction) → length by ≡ line_count p → IsPivotOf p at s size pivot enters
    → IsCombined (pos size) by (numbers_of (lines p) by s.enter.row) pivot out
    → IsExchangedRow (lines p) s.enter.row size (without s.enter.row (numbers_of (lines p) pivot)) (numbers_of (lines p) by) (numbers_of (lines p) out)
exchanged_row p at s size by pivot out enters count is combined = record {
  at_enter = numbers-combined (pos size) (numbers_of (lines p) by s.enter.row) (lines p) by pivot out s.enter.row count is.count combined
      ∙ ap (λ (z : ℤ). pos size *ℤ numbers_of (lines p) by s.enter.row +ℤ numbers_of (lines p) by s.enter.row *ℤ z) is.at_enter
      ∙ cancelled (pos size) (numbers_of (lines p) by s.enter.row);
  others = λ k d within other.
      numbers-combined (pos size) (numbers_of (lines p) by s.enter.row) (lines p) by pivot out (get_or (lines p) k d).name count is.count combined
      ∙ ap (λ (z : ℤ). pos size *ℤ numbers_of (lines p) by (get_or (lines p) k d).name +ℤ numbers_of (lines p) by s.enter.row *ℤ z)
      (sym (without_other s.enter.row (numbers_of (lines p) pivot) (get_or (lines p) k d).name other));
}

pub parts_product : (a b c : ℕ) → pos (a * (b * c)) ≡ pos a *ℤ (pos b *ℤ pos c)
parts_product a b c = refl

pub carried_line_sum : (p : Problem) (at : List Mark) (s : Swap) (quantity : (ℕ → ℤ) → ℤ) (own size : ℕ) (by pivot out : List ℤ) (value enters : Fraction) → IsWhole p → IsMarkAt p (place s.enter) → IsIn (place s.leave) at → length by ≡ line_count p
    → 0 < value.den → 0 < enters.den → 0 < own → IsLineSum p at quantity own (numbers_of (lines p) by) value.num value.den → IsPivotOf p at s size pivot enters
    → IsCombined (pos size) by (numbers_of (lines p) by s.enter.row) pivot out
    → IsLineSum p (exchanged s at) quantity (size * own) (numbers_of (lines p) out) (sum_num value (numbers_of (lines p) by s.enter.row) (pos own) enters) (value.den * (own * enters.den))
carried_line_sum p at s quantity own size by pivot out value enters whole mark leaves count den enters_den some sum is combined =
    carried p at s quantity whole mark leaves own (numbers_of (lines p) by) value size (without s.enter.row (numbers_of (lines p) pivot)) enters (numbers_of (lines p) out)
    (sum_num value (numbers_of (lines p) by s.enter.row) (pos own) enters) (value.den * (own * enters.den)) sum
    (line_sum p (exchanged s at) (deviation s.enter.row) size (without s.enter.row (numbers_of (lines p) pivot)) enters.num enters.den is.equation)
    (exchanged_row p at s size by pivot out enters count is combined) (mul-pos den (mul-pos some enters_den))
    (ap (λ (z : ℤ). sum_num value (numbers_of (lines p) by s.enter.row) (pos own) enters *ℤ z) (sym (parts_product value.den own enters.den)))

pub carried_is_equation : CarriedIsEquation
carried_is_equation p at s quantity own size by pivot out part low value enters next whole mark leaves count sum is combined are some den ratio =
    reduced_line p (exchanged s at) quantity (size * own) (numbers_of (lines p) out) next.num next.den low (numbers_of (lines p) part) next
    (carried p at s quantity whole mark leaves own (numbers_of (lines p) by) value size (without s.enter.row (numbers_of (lines p) pivot)) enters (numbers_of (lines p) out) next.num next.den sum
    (line_sum p (exchanged s at) (deviation s.enter.row) size (without s.enter.row (numbers_of (lines p) pivot)) enters.num enters.den is.equation)
    (exchanged_row p at s size by pivot out enters count is combined) den ratio)
    (reduced_numbers p (size * own) low out part whole (combined.count ∙ count) some are) den refl

-- ---- the pivot

pub leaving_is_pivot : LeavingIsPivot
leaving_is_pivot p at s side own size by pivot value enters whole corner mark leaves equation is some size_is den ratio =
    let none : numbers_of (lines p) by s.leave.row ≡ pos 0 = none-inside p at (numbers_of (lines p) by) s.leave.row s.leave.side equation.outside corner leaves in
    let ne : s.enter.row ≢ s.leave.row = λ same. sign_some side size (numbers_of (lines p) by s.enter.row) some size_is (ap (numbers_of (lines p) by) same ∙ none) in
    let other : (name : RowName) → Named name (lines p) → name ≢ s.leave.row → numbers_of (lines p) pivot name ≡ neg_ℤ (sign_of side *ℤ numbers_of (lines p) by name) =
    λ name named. at-name (λ n. n ≢ s.leave.row → numbers_of (lines p) pivot n ≡ neg_ℤ (sign_of side *ℤ numbers_of (lines p) by n)) name (lines p) named
    (recursion_from_All (λ l. l.name ≢ s.leave.row → numbers_of (lines p) pivot l.name ≡ neg_ℤ (sign_of side *ℤ numbers_of (lines p) by l.name)) (lines p) is.others) in
    record {
      count = is.count;
      at_enter = other s.enter.row (mark-named p s.enter.row s.enter.side mark) ne ∙ ap neg_ℤ (sym size_is);
      equation = resolved p at s whole corner mark leaves side own (numbers_of (lines p) by) value size (without s.enter.row (numbers_of (lines p) pivot)) enters.num enters.den equation
          (record {
            pivot_positive = some;
            size = size_is;
            at_enter = without_here s.enter.row (numbers_of (lines p) pivot);
            at_leave = without_other s.enter.row (numbers_of (lines p) pivot) s.leave.row (λ same. ne (sym same)) ∙ is.leaves;
            others = λ k d within not_enter not_leave. without_other s.enter.row (numbers_of (lines p) pivot) (get_or (lines p) k d).name not_enter ∙ is.others k d within not_leave;
          })
          den ratio;
    }
