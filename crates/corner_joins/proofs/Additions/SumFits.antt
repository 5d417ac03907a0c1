-- A sum of terms whose row and value are kept has a writing that fits.
use Rattle.std.proofs.Common.{◌≡◌, ℕ, ◌+◌, Bool, cond, nat_eq, List, [], ◌∷◌, length, take, sym, ap, subst, arith, inl, inr, ℤ, pos, neg_ℤ, ◌*ℤ◌, ne_eqb, eq-eqb, lt-ltb}
use Rattle.std.specs.List.{AllByRecursion as Each}
use Rattle.std.proofs.lemmas.Bool.{cases_eq, cases_lt}
use Rattle.frac_core.specs.Fraction.{Fraction, IsFitting, IsKept as IsKeptFraction}
use Rattle.frac_core.proofs.Fitting.{neg-fits}
use Rattle.frac_core.proofs.Numbers.{one-times}
use Rattle.row_core.specs.Rows.{IsKeptRow, Term, coefficient as number_of}
use Rattle.row_core.proofs.Places.{of_coefficients}
use Rattle.problem_core.specs.declared.parts.Mark.{Mark}
use Rattle.problem_core.specs.declared.parts.RowName.{RowName}
use Rattle.problem_core.specs.declared.parts.RowName.TheVariants.{Held}
use Rattle.problem_core.specs.declared.parts.Side.TheVariants.{Over}
use Rattle.problem_core.specs.Layout.{Line, Problem, Row, coefficient, lines, sum_of}
use Rattle.problem_core.specs.Kept.{IsWhole}
use Rattle.problem_core.specs.Corners.{IsCorner, IsIn, IsWritingOf, attr_column, place, place_of}
use Rattle.problem_core.specs.Unfit.{HasNoWriting, over_mark}
use Rattle.corner_laws.specs.Runs.{other_side}
use Rattle.corner_laws.proofs.LinePlaces.{lines_apart}
use Rattle.corner_lines.specs.Joins.{over_joined, with_row}
use Rattle.corner_lines.specs.LineEquations.{IsLineEquation, deviation, inside_form, mark_form}
use Rattle.corner_lines.proofs.Lines.LineWritings.{inside-other, line_writing, mark_writing, other_coefficient}
use Rattle.corner_lines.proofs.Lines.MarkForms.{by-places}
use Rattle.corner_lines.proofs.ProblemChanges.JoinedRows.{joined_corner, new-in}
use Rattle.corner_joins.specs.declared.joining.Sum.{Sum}
use Rattle.corner_table.specs.Tables.{Lists, line_slot, marks_at, problem_of}
use Rattle.corner_table.specs.Joining.{at_zero}
use Rattle.corner_writings.specs.Rows.{row_number}
use Rattle.corner_joins.specs.Additions.Parts.{IsPartlyKept}
use Rattle.corner_joins.specs.Additions.RowSums.{IsSumRow, with_pushed}
use Rattle.corner_joins.specs.Additions.SumFits.{DoFirstTermsFit, DoTermsFit}
use Rattle.corner_joins.proofs.Additions.RowTerms.{numbered, with_number}

-- ---- numbers

each-of : {X : Type 0} (P : X → Type 0) (xs : List X) → ((x : X) → P x) → Each P xs
each-of P [] h = tt
each-of P (x ∷ xs) h = (h x, each-of P xs h)

kept-fits : (row : List Term) (c : ℕ) → IsKeptRow row → IsFitting (number_of c row)
kept-fits row c kept = of_coefficients IsFitting (omega arith) row kept.lowest.rising kept.fits c

row-fits : (row : List Term) (c w : ℕ) → IsKeptRow row → IsFitting (cond (nat_eq c w) (pos 0) (neg_ℤ (number_of c row)))
row-fits row c w kept = elim (cases_eq c w) [
  | inl e ↦ subst IsFitting (sym (ap (λ (b : Bool). cond b (pos 0) (neg_ℤ (number_of c row))) (eq-eqb c w e))) (omega arith)
  | inr ne ↦ subst IsFitting (sym (ap (λ (b : Bool). cond b (pos 0) (neg_ℤ (number_of c row))) (ne_eqb c w ne))) (neg-fits (number_of c row) (kept-fits row c kept))
]

form-fits : (p : Problem) (by : RowName → ℤ) → IsWhole p → ((name : RowName) → IsFitting (by name)) → (v : ℕ) → IsFitting (coefficient v (mark_form by (lines p)))
form-fits p by whole fits =
    by-places (λ v z. IsFitting z) by (lines p) (lines_apart p whole) (λ v. omega arith)
    (each-of (λ (l : Line). IsFitting (by l.name) × IsFitting (neg_ℤ (by l.name))) (lines p) (λ l. (fits l.name, neg-fits (by l.name) (fits l.name))))

-- ---- writings

line-fits : (p : Problem) (at : List Mark) (quantity : (ℕ → ℤ) → ℤ) (own : ℕ) (by : RowName → ℤ) (value : Fraction) → IsWhole p → IsLineEquation p at quantity own by value.num value.den → IsFitting (pos own) → ((name : RowName) → IsFitting (by name)) → IsKeptFraction value
    → HasNoWriting p at quantity → ⊥
line-fits p at quantity own by value whole e own_fits fits kept none =
    none own (mark_form by (lines p)) value (line_writing p at quantity own by value.num value.den whole e) own_fits (form-fits p by whole fits) kept

over-fits : (p : Problem) (at : List Mark) (id own : ℕ) (by : RowName → ℤ) (value : Fraction) → IsWhole p → IsCorner p at → IsIn (place_of (Held id) Over) at → IsLineEquation p at (deviation (Held id)) own by value.num value.den → IsFitting (pos own) → ((name : RowName) → IsFitting (by name)) → IsKeptFraction value
    → HasNoWriting p at (λ x. x (place_of (Held id) Over)) → ⊥
over-fits p at id own by value whole corner inside e own_fits fits kept none =
    none own (inside_form Over (Held id) own by (lines p)) value
    (subst (λ (z : ℤ). IsWritingOf p at (λ x. x (place_of (Held id) Over)) own (inside_form Over (Held id) own by (lines p)) z value.den) (one-times value.num)
    (mark_writing p at (Held id) Over own by value.num value.den whole corner inside e))
    own_fits each kept
  where
    each : (v : ℕ) → IsFitting (coefficient v (inside_form Over (Held id) own by (lines p)))
    each v = elim (cases_eq (place_of (Held id) (other_side Over)) v) [
      | inl same ↦
          subst (λ (c : ℕ). IsFitting (coefficient c (inside_form Over (Held id) own by (lines p)))) same
          (subst IsFitting (sym (other_coefficient p at (Held id) Over own by value.num value.den whole corner inside e)) own_fits)
      | inr ne ↦
          subst IsFitting (sym (inside-other Over (Held id) own by (lines p) v ne))
          (form-fits p (λ n. pos 1 *ℤ by n) whole (λ n. subst IsFitting (sym (one-times (by n))) (fits n)) v)
    ]

-- ---- sums of first terms

pub sum_fits : (t : Lists) (r : Row) (quantity : (ℕ → ℤ) → ℤ) (s : Sum) → IsWhole (with_row r (problem_of t)) → IsSumRow t r quantity s → IsKeptRow s.row → IsKeptFraction s.value → HasNoWriting (with_row r (problem_of t)) (over_joined r (marks_at t)) quantity → ⊥
sum_fits t r quantity s whole sum row value =
    let a : List ℕ = with_number r.id (length t.slots) t.row_slots in
    let e = sum.equation a (numbered r.id (length t.slots) t.row_slots) in
    line-fits (with_row r (problem_of t)) (over_joined r (marks_at t)) quantity e.0 (row_number (with_pushed r at_zero [] a t) (length t.slots) s.row) s.value whole e.2
    (subst IsFitting e.1 (kept-fits s.row (length t.slots) row)) (λ name. row-fits s.row (line_slot (with_pushed r at_zero [] a t) name) (length t.slots) row) value

-- past the terms it is the over mark that fits
last-fits : (t : Lists) (r : Row) (s : Sum) → IsPartlyKept t → IsWhole (with_row r (problem_of t)) → IsSumRow t r (deviation (Held r.id)) s → IsKeptRow s.row → IsKeptFraction s.value → DoTermsFit t r (length r.terms + 1)
last-fits t r s kept whole sum row value none =
    let q : Problem = with_row r (problem_of t) in
    let over : List Mark = over_joined r (marks_at t) in
    let a : List ℕ = with_number r.id (length t.slots) t.row_slots in
    let e = sum.equation a (numbered r.id (length t.slots) t.row_slots) in
    over-fits q over r.id e.0 (row_number (with_pushed r at_zero [] a t) (length t.slots) s.row) s.value whole (joined_corner (problem_of t) (marks_at t) r whole kept.corner) (new-in (marks_at t) (over_mark r.id)) e.2
    (subst IsFitting e.1 (kept-fits s.row (length t.slots) row)) (λ name. row-fits s.row (line_slot (with_pushed r at_zero [] a t) name) (length t.slots) row) value
    (subst (λ (b : Bool). HasNoWriting q over (λ x. cond b (x (place (over_mark r.id))) (sum_of (λ u. u.by *ℤ x (attr_column u.attr)) (take (length r.terms + 1) r.terms)))) (lt-ltb (length r.terms) (length r.terms + 1) (omega arith)) none)

pub one_more_fits : (t : Lists) (r : Row) (i : ℕ) → DoFirstTermsFit t r i → DoTermsFit t r (i + 1) → DoFirstTermsFit t r (i + 1)
one_more_fits t r i first last j low high = elim (cases_lt j (i + 1)) [
  | inl less ↦ first j low (omega (arith, less))
  | inr from ↦ (let e : j ≡ i + 1 = omega (arith, high, from) in subst (DoTermsFit t r) (sym e) last)
]

pub no_terms_fit : (t : Lists) (r : Row) → DoFirstTermsFit t r 0
no_terms_fit t r j low high = absurd (omega (arith, low, high))

-- with the constant
pub all_terms_fit : (t : Lists) (r : Row) (s : Sum) → IsPartlyKept t → IsWhole (with_row r (problem_of t)) → DoFirstTermsFit t r (length r.terms) → IsSumRow t r (deviation (Held r.id)) s → IsKeptRow s.row → IsKeptFraction s.value → DoFirstTermsFit t r (length r.terms + 1)
all_terms_fit t r s kept whole first sum row value = one_more_fits t r (length r.terms) first (last-fits t r s kept whole sum row value)
