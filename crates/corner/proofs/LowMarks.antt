-- The values of a line's marks, by the line's slot.
use Rattle.std.proofs.Common.{◌≡◌, ◌∙◌, ℕ, ◌<◌, ◌<ℤ◌, ◌≤ℤ◌, true, false, inl, inr, refl, sym, ap, subst, arith, pos, Some, None}
use Rattle.std.proofs.lemmas.Bool.{cases_Bool}
use Rattle.std.specs.declared.option.Option.{Option}
use Rattle.frac_core.specs.Fraction.{Fraction}
use Rattle.problem_core.specs.declared.parts.Mark.{Mark}
use Rattle.problem_core.specs.declared.parts.RowName.{RowName}
use Rattle.problem_core.specs.declared.parts.Side.{Side}
use Rattle.problem_core.specs.declared.parts.Side.TheVariants.{Under, Over}
use Rattle.problem_core.specs.Window.{zero_fraction}
use Rattle.problem_core.specs.Corners.{place}
use Rattle.corner_table.specs.Kept.{IsKept}
use Rattle.corner_table.specs.Tables.{Lists, is_side, line_slot, marks_at, problem_of, standing_at, stands_in}
use Rattle.corner_view.specs.Seen.{HasValueAt, IsNamed}
use Rattle.corner_view.proofs.Facts.{named_in}
use Rattle.corner_table.proofs.Readings.ReadFacts.{value_inside, value_outside}
use Rattle.corner_view.specs.Lows.{AreNotLow, HasValueUp, IsLowMark}

own-side : (side : Side) → is_side (Some side) side ≡ true
own-side Under = refl
own-side Over = refl

pub low_inside : (t : Lists) (row : RowName) (w : ℕ) (side : Side) (f : Fraction) → IsKept t → IsNamed (problem_of t) row → w ≡ line_slot t row → (standing_at t w).side ≡ Some side → f ≡ (standing_at t w).value
    → 0 < f.den → f.num <ℤ pos 0 → IsLowMark (problem_of t) (marks_at t) row (record { row = row; side = side })
low_inside t row w side f kept named at inside is above low =
    let m : Mark = record { row = row; side = side } in
    let there : (standing_at t (line_slot t row)).side ≡ Some side = subst (λ (v : ℕ). (standing_at t v).side ≡ Some side) at inside in
    let value : f ≡ (standing_at t (line_slot t row)).value = is ∙ ap (λ (v : ℕ). (standing_at t v).value) at in
    record {
      own = refl;
      mark = named_in (problem_of t) row side named;
      value = f;
      above = above;
      has = subst (λ (g : Fraction). HasValueAt (problem_of t) (marks_at t) (place m) g) (sym value)
          (value_inside t m kept (named_in (problem_of t) row side named) (ap (λ (i : Option Side). is_side i side) there ∙ own-side side));
      low = low;
    }

outside-up : (t : Lists) (row : RowName) (side : Side) → IsKept t → IsNamed (problem_of t) row → stands_in t (record { row = row; side = side }) ≡ false
    → HasValueUp (problem_of t) (marks_at t) (record { row = row; side = side })
outside-up t row side kept named out =
    let m : Mark = record { row = row; side = side } in
    (zero_fraction, omega arith, value_outside t m kept (named_in (problem_of t) row side named) out, omega arith)

pub none_outside : (t : Lists) (row : RowName) (w : ℕ) → IsKept t → IsNamed (problem_of t) row → w ≡ line_slot t row → (standing_at t w).side ≡ None → AreNotLow (problem_of t) (marks_at t) row
none_outside t row w kept named at out side =
    let there : (standing_at t (line_slot t row)).side ≡ None = subst (λ (v : ℕ). (standing_at t v).side ≡ None) at out in
    outside-up t row side kept named (ap (λ (i : Option Side). is_side i side) there)

pub none_inside : (t : Lists) (row : RowName) (w : ℕ) (f : Fraction) → IsKept t → IsNamed (problem_of t) row → w ≡ line_slot t row → f ≡ (standing_at t w).value
    → 0 < f.den → pos 0 ≤ℤ f.num → AreNotLow (problem_of t) (marks_at t) row
none_inside t row w f kept named at is above up side =
    let m : Mark = record { row = row; side = side } in
    let value : f ≡ (standing_at t (line_slot t row)).value = is ∙ ap (λ (v : ℕ). (standing_at t v).value) at in
    elim (cases_Bool (stands_in t m)) [
      | inl is-in ↦ (
        f,
        above,
        subst (λ (g : Fraction). HasValueAt (problem_of t) (marks_at t) (place m) g) (sym value)
            (value_inside t m kept (named_in (problem_of t) row side named) is-in),
        up,
      )
      | inr out ↦ outside-up t row side kept named out
    ]
