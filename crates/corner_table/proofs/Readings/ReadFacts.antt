-- Values and writings, as the lists have them.
use Rattle.std.proofs.Common.{◌≡◌, ◌∙◌, ℕ, true, false, ◌∷◌, refl, sym, ap, subst, ℤ, pos, ◌*ℤ◌, Some, None}
use Rattle.std.specs.declared.option.Option.{Option}
use Rattle.frac_core.specs.Fraction.{Fraction}
use Rattle.frac_core.proofs.Integers.{zero-mul_ℤ}
use Rattle.problem_core.specs.declared.parts.Mark.{Mark}
use Rattle.problem_core.specs.declared.parts.RowName.{RowName}
use Rattle.problem_core.specs.declared.parts.Side.{Side}
use Rattle.problem_core.specs.declared.parts.Side.TheVariants.{Under, Over}
use Rattle.problem_core.specs.Layout.{HasStay, lines}
use Rattle.problem_core.specs.Window.{zero_fraction}
use Rattle.problem_core.specs.Corners.{IsIn, attr_column, one_column, place}
use Rattle.corner_laws.proofs.WrittenValues.{nothing_outside}
use Rattle.corner_lines.specs.LineEquations.{deviation, sign_of}
use Rattle.corner_lines.proofs.Lines.LineWritings.{line_value, mark_value}
use Rattle.corner_view.specs.Seen.{HasValueAt, IsMarkOf}
use Rattle.corner_table.specs.Tables.{Lists, attr_slot, is_side, line_slot, marks_at, number, problem_of, same_side, standing_at, stands_in}
use Rattle.corner_table.specs.Kept.{IsAttrRow, IsEquationAt, IsKept, IsLineRow}
use Rattle.corner_table.proofs.Readings.SlotFacts.{any_is}
use Rattle.corner_table.proofs.Readings.MarkFacts.{inside_stands, stands_inside}
use Rattle.corner_lines.proofs.Lines.LineUnfits.{twice}
use Rattle.frac_core.proofs.Bools.{not-both as not_both}
use Rattle.corner_view.proofs.Facts.{mark_named}

pub same_is : (a b : Side) → same_side a b ≡ true → a ≡ b
same_is Under Under e = refl
same_is Under Over e = absurd (not_both false e refl)
same_is Over Under e = absurd (not_both false e refl)
same_is Over Over e = refl

pub is_some : (o : Option Side) (s : Side) → is_side o s ≡ true → o ≡ Some s
is_some None s e = absurd (not_both false e refl)
is_some (Some t) s e = ap (λ (r : Side). Some r) (same_is t s e)

-- the equation of an inside mark's line
pub inside_equation : (t : Lists) (m : Mark) → IsKept t → IsMarkOf (problem_of t) m → stands_in t m ≡ true
    → IsEquationAt t (deviation m.row) (line_slot t m.row) (sign_of m.side *ℤ (standing_at t (line_slot t m.row)).value.num) (standing_at t (line_slot t m.row)).value.den
inside_equation t m kept is h =
    let side : (standing_at t (line_slot t m.row)).side ≡ Some m.side = is_some (standing_at t (line_slot t m.row)).side m.side h in
    any_is (λ l. IsLineRow t l.name (standing_at t (line_slot t l.name)).side) (λ l. l.name ≡ m.row) (lines (problem_of t)) kept.lines (mark_named (problem_of t) m is)
    (λ l row e. subst (λ (o : Option Side). IsLineRow t m.row o) side (subst (λ (n : RowName). IsLineRow t n (standing_at t (line_slot t n)).side) e row))

pub value_inside : (t : Lists) (m : Mark) → IsKept t → IsMarkOf (problem_of t) m → stands_in t m ≡ true → HasValueAt (problem_of t) (marks_at t) (place m) (standing_at t (line_slot t m.row)).value
value_inside t m kept is h =
    let e = inside_equation t m kept is h in
    let f : Fraction = (standing_at t (line_slot t m.row)).value in
    let v = mark_value (problem_of t) (marks_at t) m.row m.side e.0 (number t (line_slot t m.row)) (sign_of m.side *ℤ f.num) f.den kept.whole kept.corner (stands_inside t m is h) e.2 in
    (v.0, v.1, subst (λ (z : ℤ). v.0.num (place m) *ℤ pos f.den ≡ z *ℤ v.0.num one_column) (twice m.side f.num) v.2)

pub value_outside : (t : Lists) (m : Mark) → IsKept t → IsMarkOf (problem_of t) m → stands_in t m ≡ false → HasValueAt (problem_of t) (marks_at t) (place m) zero_fraction
value_outside t m kept is h =
    let out : IsIn (place m) (marks_at t) → ⊥ = λ i. not_both (stands_in t m) (inside_stands t m i) h in
    let none = nothing_outside (problem_of t) (marks_at t) kept.corner.point (place m) kept.corner.stands is out in
    (kept.corner.point, kept.corner.stands, ap (λ (z : ℤ). z *ℤ pos 1) none ∙ sym (zero-mul_ℤ (kept.corner.point.num one_column)))

pub attr_equation : (t : Lists) (attr : ℕ) → IsKept t → HasStay t.stays attr → IsAttrRow t attr
attr_equation t attr kept has = any_is (λ s. IsAttrRow t s.attr) (λ s. s.attr ≡ attr) t.stays kept.attrs has (λ s row e. subst (λ (a : ℕ). IsAttrRow t a) e row)

pub value_attr : (t : Lists) (attr : ℕ) → IsKept t → HasStay t.stays attr → HasValueAt (problem_of t) (marks_at t) (attr_column attr) (standing_at t (attr_slot t attr)).value
value_attr t attr kept has =
    let e = attr_equation t attr kept has in
    let f : Fraction = (standing_at t (attr_slot t attr)).value in
    line_value (problem_of t) (marks_at t) (λ x. x (attr_column attr)) e.0 (number t (attr_slot t attr)) f.num f.den kept.whole kept.corner e.2

pub zero_value : (t : Lists) (c : ℕ) (f : Fraction) → f.num ≡ pos 0 → f.den ≡ 1 → HasValueAt (problem_of t) (marks_at t) c zero_fraction → HasValueAt (problem_of t) (marks_at t) c f
zero_value t c f n d h = (h.0, h.1, subst (λ (z : ℤ). h.0.num c *ℤ pos f.den ≡ z *ℤ h.0.num one_column) (sym n) (subst (λ (k : ℕ). h.0.num c *ℤ pos k ≡ pos 0 *ℤ h.0.num one_column) (sym d) h.2))
