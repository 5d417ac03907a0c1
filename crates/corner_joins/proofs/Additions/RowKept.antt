-- What the lists keep where a row has been pushed: the corner, and the rows of attributes and lines.
use Rattle.std.proofs.Common.{◌≡◌, ◌≢◌, ◌∙◌, ℕ, ◌<◌, ◌≤◌, ◌++◌, cond, nat_eq, List, [], ◌∷◌, length, sym, ap, subst, arith, inl, inr, ℤ, pos, negsuc, neg_ℤ, ◌*ℤ◌, slice_index_or, Some, None}
use Rattle.std.specs.declared.option.Option.{Option}
use Rattle.std.proofs.lemmas.Bool.{cases_eq}
use Rattle.std.proofs.lemmas.List.{get_or_past, length_push}
use borrow.Author.Differences.{ints}
use Rattle.frac_core.specs.Fraction.{Fraction}
use Rattle.row_core.specs.Rows.{Term, coefficient}
use Rattle.problem_core.specs.declared.parts.Mark.{Mark}
use Rattle.problem_core.specs.declared.parts.Side.{Side}
use Rattle.problem_core.specs.declared.parts.Side.TheVariants.{Under, Over}
use Rattle.problem_core.specs.declared.parts.RowName.{RowName}
use Rattle.problem_core.specs.declared.parts.RowName.TheVariants.{Held}
use Rattle.problem_core.specs.Layout.{Problem, Row, lines}
use Rattle.problem_core.specs.Kept.{IsWhole}
use Rattle.problem_core.specs.Corners.{IsCorner, attr_column}
use Rattle.problem_core.specs.Rays.{HasRays}
use Rattle.corner_lines.specs.Joins.{over_joined, with_row}
use Rattle.corner_lines.specs.LineEquations.{IsLineEquation, deviation, sign_of}
use Rattle.corner_lines.proofs.ProblemChanges.JoinedRows.{joined_corner, joined_rays}
use Rattle.corner_lines.proofs.ProblemChanges.JoinedUnder.{under_corner, under_line, under_rays}
use Rattle.corner_lines.proofs.SameMarks.{same_corner, same_line, same_rays}
use Rattle.corner_joins.specs.declared.joining.Sum.{Sum}
use Rattle.corner_table.specs.declared.table.Slot.{Slot}
use Rattle.corner_table.specs.declared.table.Standing.{Standing}
use Rattle.corner_view.specs.Seen.{IsNamed}
use Rattle.corner_table.specs.Tables.{Lists, attr_slot, entry, line_slot, marks_at, number, problem_of, row_at, standing_at}
use Rattle.corner_table.specs.Kept.{AreOutside, IsAttrRow, IsAttrSlot, IsEquationAt, IsLineRow}
use Rattle.corner_table.specs.Joining.{at_zero, slot_of_row}
use Rattle.corner_table.specs.Kept.{IsOutsideSlot}
use Rattle.corner_writings.specs.Rows.{row_number}
use Rattle.corner_joins.specs.Additions.RowJoins.{IsStandingOf}
use Rattle.corner_joins.specs.Additions.RowSums.{IsSumRow, with_pushed}
use Rattle.corner_table.proofs.Basics.SameEquations.{same_numbers}
use Rattle.corner_table.proofs.Basics.SmallFacts.{below_or}
use Rattle.corner_table.proofs.Readings.SlotFacts.{named_slot}
use Rattle.corner_joins.proofs.Additions.RowPlaces.{IsPush, marks_pushed, named_by, old_row, old_slot, old_standing, row_here, row_own, row_standing, next}
use Rattle.corner_joins.proofs.Additions.RowTerms.{old_equation}
use Rattle.frac_core.proofs.Numbers.{one-times as one_time}
use Rattle.corner_exchange.proofs.Swaps.NextFacts.{marks_apart as marks_different}

-- ---- the corner

abbrev pub side_joined : Side → Row → List Mark → List Mark
side_joined s r at = at ++ (record { row = Held r.id; side = s } ∷ [])

side_corner : (p : Problem) (at : List Mark) (r : Row) (s : Side) → IsWhole (with_row r p) → IsCorner p at → IsCorner (with_row r p) (side_joined s r at)
side_corner p at r Under whole corner = under_corner p at r whole corner
side_corner p at r Over whole corner = joined_corner p at r whole corner

side_rays : (p : Problem) (at : List Mark) (r : Row) (s : Side) → IsWhole (with_row r p) → IsCorner p at → HasRays p at → HasRays (with_row r p) (side_joined s r at)
side_rays p at r Under whole corner rays = under_rays p at r whole corner rays
side_rays p at r Over whole corner rays = joined_rays p at r whole rays

side_line : (p : Problem) (at : List Mark) (r : Row) (s : Side) (quantity : (ℕ → ℤ) → ℤ) (own : ℕ) (by : RowName → ℤ) (num : ℤ) (den : ℕ) → IsWhole (with_row r p) → IsCorner p at
    → IsLineEquation (with_row r p) (over_joined r at) quantity own by num den → IsLineEquation (with_row r p) (side_joined s r at) quantity own by num den
side_line p at r Under quantity own by num den whole corner e = under_line p at r quantity own by num den whole corner e
side_line p at r Over quantity own by num den whole corner e = e

pub corner_pushed : (t : Lists) (r : Row) (v : Standing) (o : List Term) (a : List ℕ) (s : Side) → IsPush t r a → v.side ≡ Some s → IsCorner (with_row r (problem_of t)) (marks_at (with_pushed r v o a t))
corner_pushed t r v o a s j side =
    same_corner (with_row r (problem_of t)) (side_joined s r (marks_at t)) (marks_at (with_pushed r v o a t)) (marks_pushed t r v o a s (next t r a j) side) (marks_different (with_pushed r v o a t) j.whole) (side_corner (problem_of t) (marks_at t) r s j.whole j.kept.corner)

pub rays_pushed : (t : Lists) (r : Row) (v : Standing) (o : List Term) (a : List ℕ) (s : Side) → IsPush t r a → v.side ≡ Some s → HasRays (with_row r (problem_of t)) (marks_at (with_pushed r v o a t))
rays_pushed t r v o a s j side = same_rays (with_row r (problem_of t)) (side_joined s r (marks_at t)) (marks_at (with_pushed r v o a t)) (marks_pushed t r v o a s (next t r a j) side) (side_rays (problem_of t) (marks_at t) r s j.whole j.kept.corner j.kept.rays)

pub line_pushed : (t : Lists) (r : Row) (v : Standing) (o : List Term) (a : List ℕ) (s : Side) (quantity : (ℕ → ℤ) → ℤ) (own : ℕ) (by : RowName → ℤ) (num : ℤ) (den : ℕ) → IsPush t r a → v.side ≡ Some s
    → IsLineEquation (with_row r (problem_of t)) (over_joined r (marks_at t)) quantity own by num den → IsLineEquation (with_row r (problem_of t)) (marks_at (with_pushed r v o a t)) quantity own by num den
line_pushed t r v o a s quantity own by num den j side e =
    same_line (with_row r (problem_of t)) (side_joined s r (marks_at t)) (marks_at (with_pushed r v o a t)) quantity own by num den (marks_pushed t r v o a s (next t r a j) side)
    (side_line (problem_of t) (marks_at t) r s quantity own by num den j.whole j.kept.corner e)

-- ---- equations

old_at : (t : Lists) (r : Row) (v : Standing) (o : List Term) (a : List ℕ) (s : Side) (quantity : (ℕ → ℤ) → ℤ) (w : ℕ) (num : ℤ) (den : ℕ) → IsPush t r a → v.side ≡ Some s → w < length t.slots → IsEquationAt t quantity w num den → IsEquationAt (with_pushed r v o a t) quantity w num den
old_at t r v o a s quantity w num den j side lt e = (
  e.0,
  ap (coefficient w) (old_row t r v o a w j.kept.slots lt) ∙ e.1,
  line_pushed t r v o a s quantity e.0 (number (with_pushed r v o a t) w) num den j side (old_equation t r v o a quantity w num den e.0 j lt e.2),
)

pub old_attr_row : (t : Lists) (r : Row) (v : Standing) (o : List Term) (a : List ℕ) (s : Side) (b : ℕ) → IsPush t r a → v.side ≡ Some s → IsAttrSlot t b → IsAttrRow t b → IsAttrRow (with_pushed r v o a t) b
old_attr_row t r v o a s b j side slot row =
    let e = old_at t r v o a s (λ x. x (attr_column b)) (attr_slot t b) (standing_at t (attr_slot t b)).value.num (standing_at t (attr_slot t b)).value.den j side slot.slot.1 row in
    subst (λ (x : Standing). IsEquationAt (with_pushed r v o a t) (λ x. x (attr_column b)) (attr_slot t b) x.value.num x.value.den) (sym (old_standing t r v o a (attr_slot t b) j.kept.slots slot.slot.1)) e

old_line_row : (t : Lists) (r : Row) (v : Standing) (o : List Term) (a : List ℕ) (s : Side) (name : RowName) (side : Option Side) → IsPush t r a → v.side ≡ Some s → IsNamed (problem_of t) name → IsLineRow t name side → IsLineRow (with_pushed r v o a t) name side
old_line_row t r v o a s name (Some side) j is named row =
    let slot = named_slot t name j.kept.slots named in
    let e = old_at t r v o a s (deviation name) (line_slot t name) (sign_of side *ℤ (standing_at t (line_slot t name)).value.num) (standing_at t (line_slot t name)).value.den j is slot.1 row in
    subst (λ (w : ℕ). IsEquationAt (with_pushed r v o a t) (deviation name) w (sign_of side *ℤ (standing_at (with_pushed r v o a t) w).value.num) (standing_at (with_pushed r v o a t) w).value.den) (sym (named_by t r v o a name (next t r a j) named))
    (subst (λ (x : Standing). IsEquationAt (with_pushed r v o a t) (deviation name) (line_slot t name) (sign_of side *ℤ x.value.num) x.value.den) (sym (old_standing t r v o a (line_slot t name) j.kept.slots slot.1)) e)
old_line_row t r v o a s name None j is named row =
    let slot = named_slot t name j.kept.slots named in
    let same = named_by t r v o a name (next t r a j) named in (
      ap (row_at (with_pushed r v o a t)) same ∙ old_row t r v o a (line_slot t name) j.kept.slots slot.1 ∙ row.0,
      ap (λ (w : ℕ). (standing_at (with_pushed r v o a t) w).value) same ∙ ap (λ (x : Standing). x.value) (old_standing t r v o a (line_slot t name) j.kept.slots slot.1) ∙ row.1,
    )

pub old_kept_line : (t : Lists) (r : Row) (v : Standing) (o : List Term) (a : List ℕ) (s : Side) (name : RowName) → IsPush t r a → v.side ≡ Some s → IsNamed (problem_of t) name → IsLineRow t name (standing_at t (line_slot t name)).side → IsLineRow (with_pushed r v o a t) name (standing_at (with_pushed r v o a t) (line_slot (with_pushed r v o a t) name)).side
old_kept_line t r v o a s name j is named row =
    let slot = named_slot t name j.kept.slots named in
    let same : (standing_at (with_pushed r v o a t) (line_slot (with_pushed r v o a t) name)).side ≡ (standing_at t (line_slot t name)).side = ap (λ (w : ℕ). (standing_at (with_pushed r v o a t) w).side) (named_by t r v o a name (next t r a j) named) ∙ ap (λ (x : Standing). x.side) (old_standing t r v o a (line_slot t name) j.kept.slots slot.1) in
    subst (IsLineRow (with_pushed r v o a t) name) (sym same) (old_line_row t r v o a s name (standing_at t (line_slot t name)).side j is named row)

-- ---- the new line

-- the mark's value with its sign is the deviation's
pub record IsSideOf (f : Fraction) (v : Standing) (s : Side) : Type 0 where
  pub side : v.side ≡ Some s
  pub num : sign_of s *ℤ v.value.num ≡ f.num
  pub den : v.value.den ≡ f.den

minus_minus : (z : ℤ) → negsuc 0 *ℤ neg_ℤ z ≡ z
minus_minus z = omega (arith, ints)

pub side_of : (f : Fraction) (v : Standing) → IsStandingOf f v → (s : Side) × IsSideOf f v s
side_of f v (inl (up, e)) = (Over, record { side = ap (λ (x : Standing). x.side) e; num = ap (λ (x : Standing). pos 1 *ℤ x.value.num) e ∙ one_time f.num; den = ap (λ (x : Standing). x.value.den) e })
side_of f v (inr (down, e)) = (Under, record { side = ap (λ (x : Standing). x.side) e; num = ap (λ (x : Standing). negsuc 0 *ℤ x.value.num) e ∙ minus_minus f.num; den = ap (λ (x : Standing). x.value.den) e })

pub row_equation : (t : Lists) (r : Row) (v : Standing) (o : List Term) (a : List ℕ) (s : Side) (sum : Sum) → IsPush t r a → IsSideOf sum.value v s → o ≡ sum.row → IsSumRow t r (deviation (Held r.id)) sum → IsEquationAt (with_pushed r v o a t) (deviation (Held r.id)) (length t.slots) sum.value.num sum.value.den
row_equation t r v o a s sum j is own h =
    let e = h.equation a j.numbers in
    let row : row_at (with_pushed r v o a t) (length t.slots) ≡ sum.row = row_own t r v o a j.kept.slots ∙ own in
    let by : RowName → ℤ = row_number (with_pushed r at_zero [] a t) (length t.slots) sum.row in (
      e.0,
      ap (coefficient (length t.slots)) row ∙ e.1,
      line_pushed t r v o a s (deviation (Held r.id)) e.0 (number (with_pushed r v o a t) (length t.slots)) sum.value.num sum.value.den j is.side
          (same_numbers (with_row r (problem_of t)) (over_joined r (marks_at t)) (deviation (Held r.id)) e.0 by (number (with_pushed r v o a t) (length t.slots)) sum.value.num sum.value.den
          (λ k x lt. ap (λ (p : List Term). cond (nat_eq (line_slot (with_pushed r v o a t) (slice_index_or (lines (with_row r (problem_of t))) k x).name) (length t.slots)) (pos 0) (neg_ℤ (coefficient (line_slot (with_pushed r v o a t) (slice_index_or (lines (with_row r (problem_of t))) k x).name) p))) row) e.2),
    )

pub new_kept_line : (t : Lists) (r : Row) (v : Standing) (o : List Term) (a : List ℕ) (s : Side) (sum : Sum) → IsPush t r a → IsSideOf sum.value v s → o ≡ sum.row → IsSumRow t r (deviation (Held r.id)) sum → IsLineRow (with_pushed r v o a t) (Held r.id) (standing_at (with_pushed r v o a t) (line_slot (with_pushed r v o a t) (Held r.id))).side
new_kept_line t r v o a s sum j is own h =
    let here = row_here t r v o a (next t r a j) in
    let standing : standing_at (with_pushed r v o a t) (line_slot (with_pushed r v o a t) (Held r.id)) ≡ v = ap (standing_at (with_pushed r v o a t)) here ∙ row_standing t r v o a j.kept.slots in
    let e = row_equation t r v o a s sum j is own h in
    let signed : IsEquationAt (with_pushed r v o a t) (deviation (Held r.id)) (length t.slots) (sign_of s *ℤ v.value.num) v.value.den =
    subst (λ (z : ℤ). IsEquationAt (with_pushed r v o a t) (deviation (Held r.id)) (length t.slots) z v.value.den) (sym is.num) (subst (λ (n : ℕ). IsEquationAt (with_pushed r v o a t) (deviation (Held r.id)) (length t.slots) sum.value.num n) (sym is.den) e) in
    subst (IsLineRow (with_pushed r v o a t) (Held r.id)) (sym (ap (λ (x : Standing). x.side) standing ∙ is.side))
    (subst (λ (w : ℕ). IsEquationAt (with_pushed r v o a t) (deviation (Held r.id)) w (sign_of s *ℤ (standing_at (with_pushed r v o a t) w).value.num) (standing_at (with_pushed r v o a t) w).value.den) (sym here)
    (subst (λ (x : Standing). IsEquationAt (with_pushed r v o a t) (deviation (Held r.id)) (length t.slots) (sign_of s *ℤ x.value.num) x.value.den) (sym (row_standing t r v o a j.kept.slots)) signed))

-- ---- outside lines

outside_still : (t : Lists) (r : Row) (v : Standing) (o : List Term) (a : List ℕ) (c : ℕ) → IsPush t r a → IsOutsideSlot t c → IsOutsideSlot (with_pushed r v o a t) c
outside_still t r v o a c j out =
    let n = length_push t.slots (slot_of_row r) in (
      (out.0.0, omega (arith, out.0.1, n)),
      ap (λ (x : Standing). x.side) (old_standing t r v o a c j.kept.slots out.0.1) ∙ out.1,
      (out.2.0, ap (λ (x : Slot). x.owner) (old_slot t r v o a c out.0.1) ∙ out.2.1),
    )

past_row : (t : Lists) (r : Row) (v : Standing) (o : List Term) (a : List ℕ) (w : ℕ) → IsPush t r a → length t.slots ≤ w → w ≢ length t.slots → row_at (with_pushed r v o a t) w ≡ []
past_row t r v o a w j le ne = let n = length_push t.matrix o in get_or_past (t.matrix ++ (o ∷ [])) w [] (omega (arith, le, ne, n, j.kept.slots.matrix))

pub outside_pushed : (t : Lists) (r : Row) (v : Standing) (o : List Term) (a : List ℕ) (sum : Sum) → IsPush t r a → o ≡ sum.row → IsSumRow t r (deviation (Held r.id)) sum → AreOutside (with_pushed r v o a t)
outside_pushed t r v o a sum j own h w c some other =
    elim (below_or w (length t.slots)) [
      | inl lt ↦ outside_still t r v o a c j (j.kept.outside w c (λ e. some (ap (coefficient c) (old_row t r v o a w j.kept.slots lt) ∙ e)) other)
      | inr le ↦ elim (cases_eq w (length t.slots)) [
        | inl e ↦
            outside_still t r v o a c j (h.columns c (λ z. some (ap (λ (n : ℕ). entry (with_pushed r v o a t) n c) e ∙ ap (coefficient c) (row_own t r v o a j.kept.slots ∙ own) ∙ z)) (λ z. other (z ∙ sym e)))
        | inr ne ↦ absurd (some (ap (coefficient c) (past_row t r v o a w j le ne)))
      ]
    ]
