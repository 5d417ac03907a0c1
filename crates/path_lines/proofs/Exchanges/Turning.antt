-- The lines after an exchange of the two marks of one.
use Rattle.std.proofs.Common.{◌≡◌, ◌≢◌, ◌∙◌, ℕ, ◌<◌, List, get_or, unsigned_abs, sym, ap, ap₂, subst, inl, inr, Option, None, Some}
use Rattle.std.proofs.lemmas.Bool.{cases_eq}
use Rattle.problem_core.specs.declared.parts.Mark.{Mark}
use Rattle.problem_core.specs.declared.parts.RowName.{RowName}
use Rattle.problem_core.specs.declared.parts.Side.{Side}
use Rattle.problem_core.specs.declared.parts.Side.TheVariants.{Under, Over}
use Rattle.problem_core.specs.Layout.{Problem, lines}
use Rattle.problem_core.specs.Corners.{IsExchange, IsIn, exchanged, place_of}
use Rattle.corner_laws.proofs.Exchanged.{exchanged_in}
use Rattle.corner_lines.specs.LineEquations.{IsOutsideLine, deviation}
use Rattle.corner_lines.proofs.LevelRows.LevelExchanges.{by-sides}
use Rattle.corner_lines.proofs.Lines.LineExchanges.{line_turns}
use Rattle.path_lines.specs.declared.spots.Step.{Step}
use Rattle.path_lines.specs.declared.table.Inside.{Inside}
use Rattle.path_lines.specs.declared.table.Sum.{Sum}
use Rattle.path_lines.specs.Tables.{IsLineAt, IsSumOf, IsThere, IsTurnedLine, TurnedLinesAre, line_count, name_at, numbers_of, swap_of}
use Rattle.path_lines.proofs.Places.{names_differ}
use Rattle.corner_lines.proofs.Lines.LineWritings.{no-side}
use Rattle.problem_core.proofs.Marks.{entered-in as enter_in, kept-in as kept_in}

kept_sum : (p : Problem) (at : List Mark) (step : Step) (name : RowName) (sum : Sum) → IsThere p at → step.enter.at ≡ step.leave.at → IsExchange p at (swap_of p step) → IsSumOf p at name sum → IsSumOf p (exchanged (swap_of p step) at) name sum
kept_sum p at step name sum there turn ex is = record {
  sized = is.sized;
  equation = line_turns p at (swap_of p step) (deviation name) (unsigned_abs sum.own) (numbers_of (lines p) sum.by.items) sum.value.num sum.value.den there.corner ex.leaves (ap (name_at p) turn) is.equation;
}

other_line : (p : Problem) (at : List Mark) (step : Step) (k : ℕ) (kept : Option Inside) → IsThere p at → k < line_count p → step.enter.at < line_count p → step.enter.at ≡ step.leave.at → IsExchange p at (swap_of p step) → k ≢ step.enter.at
    → IsLineAt p at (name_at p k) kept → IsLineAt p (exchanged (swap_of p step) at) (name_at p k) kept
other_line p at step k None there within enter turn ex other out =
    let away : (side : Side) → (IsIn (place_of (name_at p k) side) at → ⊥) → IsIn (place_of (name_at p k) side) (exchanged (swap_of p step) at) → ⊥ =
    λ side none i. elim (exchanged_in (swap_of p step) at (place_of (name_at p k) side) i) [
      | inl same ↦ names_differ p k step.enter.at there.whole within enter other (by-sides (name_at p k) (name_at p step.enter.at) side step.enter.side same).0
      | inr was ↦ none was.0
    ] in
    record { under = away Under out.under; over = away Over out.over }
other_line p at step k (Some inside) there within enter turn ex other line = (
  kept_in (swap_of p step) at (place_of (name_at p k) inside.side) line.0
      (λ same. names_differ p k step.enter.at there.whole within enter other ((by-sides (name_at p k) (name_at p step.leave.at) inside.side step.leave.side same).0 ∙ ap (name_at p) (sym turn))),
  kept_sum p at step (name_at p k) inside.sum there turn ex line.1,
)

turned_line : (p : Problem) (at : List Mark) (step : Step) (k : ℕ) (old next : Option Inside) → IsThere p at → step.enter.at ≡ step.leave.at → IsExchange p at (swap_of p step) → k ≡ step.enter.at → IsTurnedLine step.enter.side old next
    → IsLineAt p at (name_at p k) old → IsLineAt p (exchanged (swap_of p step) at) (name_at p k) next
turned_line p at step k None next there turn ex here is out = absurd (none_inside p at step k turn here out ex)
  where
    none_inside : (p : Problem) (at : List Mark) (step : Step) (k : ℕ) → step.enter.at ≡ step.leave.at → k ≡ step.enter.at → IsOutsideLine at (name_at p k) → IsExchange p at (swap_of p step) → ⊥
    none_inside p at step k turn here out ex = no-side at (name_at p k) step.leave.side out (subst (λ (j : ℕ). IsIn (place_of (name_at p j) step.leave.side) at) (sym (here ∙ turn)) ex.leaves)
turned_line p at step k (Some old) None there turn ex here is line = absurd is
turned_line p at step k (Some old) (Some next) there turn ex here is line = (
  subst (λ (c : ℕ). IsIn c (exchanged (swap_of p step) at)) (same_mark (sym here) (sym is.0)) (enter_in (swap_of p step) at ex.leaves),
  subst (λ (s : Sum). IsSumOf p (exchanged (swap_of p step) at) (name_at p k) s) (sym is.1) (kept_sum p at step (name_at p k) old.sum there turn ex line.1),
)
  where
    same_mark : {j : ℕ} {s : Side} → step.enter.at ≡ j → step.enter.side ≡ s → place_of (name_at p step.enter.at) step.enter.side ≡ place_of (name_at p j) s
    same_mark e f = ap₂ (λ (j : ℕ) (s : Side). place_of (name_at p j) s) e f

pub turned_lines_are : TurnedLinesAre
turned_lines_are p at step old next there enter turn ex lines is = record {
  count = is.count ∙ lines.count;
  each = λ k d within.
      elim (cases_eq k step.enter.at) [
        | inl here ↦ turned_line p at step k (get_or old k d) (get_or next k d) there turn ex here (subst (λ (j : ℕ). IsTurnedLine step.enter.side (get_or old j d) (get_or next j d)) (sym here) (is.here d)) (lines.each k d within)
        | inr other ↦ subst (λ (o : Option Inside). IsLineAt p (exchanged (swap_of p step) at) (name_at p k) o) (sym (is.others k d other)) (other_line p at step k (get_or old k d) there within enter turn ex other (lines.each k d within))
      ];
}
