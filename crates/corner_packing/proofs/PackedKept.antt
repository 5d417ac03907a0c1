-- Lists whose slots are packed keep what they keep, and the marks inside: `packed_kept`, `packed_marks`.
use Rattle.std.proofs.Common.{◌≡◌, ◌∙◌, ℕ, List, slice_index_or, sym, ap, ap₂, subst, ℤ, ◌*ℤ◌, Some, None}
use Rattle.std.specs.declared.option.Option.{Option}
use Rattle.frac_core.specs.Fraction.{Fraction}
use Rattle.row_core.specs.Renames.{place_in, renamed}
use Rattle.problem_core.specs.declared.parts.Mark.{Mark}
use Rattle.problem_core.specs.declared.parts.RowName.{RowName}
use Rattle.problem_core.specs.declared.parts.Side.{Side}
use Rattle.problem_core.specs.declared.parts.Stay.{Stay}
use Rattle.problem_core.specs.Layout.{HasStay, Problem, Row, lines}
use Rattle.problem_core.specs.Corners.{IsCorner, attr_column}
use Rattle.problem_core.specs.Rays.{HasRays}
use Rattle.corner_lines.specs.LineEquations.{IsLineEquation, deviation, sign_of}
use Rattle.corner_table.specs.declared.table.Standing.{Standing}
use Rattle.corner_view.specs.Seen.{IsNamed}
use Rattle.corner_table.specs.Tables.{Lists, attr_slot, line_slot, marks_at, number, problem_of, row_at, standing_at}
use Rattle.corner_table.specs.Kept.{IsAttrRow, IsEquationAt, IsKept, IsLineRow}
use Rattle.corner_table.proofs.Basics.SameEquations.{same_numbers}
use Rattle.corner_table.proofs.Basics.SmallFacts.{own_name, own_stay}
use Rattle.corner_packing.specs.Packing.{ArePacked, ArePlaces, IsTaken}
use Rattle.corner_packing.proofs.PackedPlaces.{IsPacking, after, after_is, attr_place, attr_taken, line_place, line_taken}
use Rattle.corner_packing.proofs.PackedSlots.{packed_slots, packed_stored}
use Rattle.corner_packing.proofs.PackedRows.{entry_there, line_standing, number_there, packed_outside}
use Rattle.corner_packing.proofs.PackedLevels.{marks_after, packed_levels, stay_room}

-- ---- equations

equation-there : (places : List ℕ) (count : ℕ) (t u : Lists) (quantity : (ℕ → ℤ) → ℤ) (w : ℕ) (num : ℤ) (den : ℕ) → IsPacking places count t u → IsTaken t w
    → IsEquationAt t quantity w num den → IsEquationAt (after t u) quantity (place_in places w) num den
equation-there places count t u quantity w num den f taken e =
    let p : Problem = problem_of t in
    let by : RowName → ℤ = number (after t u) (place_in places w) in (
      e.0,
      entry_there places count t u w w f taken taken ∙ e.1,
      subst (λ (at : List Mark). IsLineEquation p at quantity e.0 by num den) (sym (marks_after places count t u f))
          (same_numbers p (marks_at t) quantity e.0 (number t w) by num den
          (λ k x lt. number_there places count t u w (slice_index_or (lines p) k x).name f taken (own_name (lines p) k x lt)) e.2),
    )

attr-row : (places : List ℕ) (count : ℕ) (t u : Lists) (attr : ℕ) → IsPacking places count t u → HasStay t.stays attr → IsAttrRow t attr → IsAttrRow (after t u) attr
attr-row places count t u attr f has h =
    let w : ℕ = attr_slot t attr in
    let taken = attr_taken t attr f.kept.slots has in
    let v : Fraction = (standing_at t w).value in
    subst (λ (n : ℕ). IsEquationAt (after t u) (λ x. x (attr_column attr)) n (standing_at u n).value.num (standing_at u n).value.den) (sym (attr_place places count t u attr f))
    (subst (λ (s : Standing). IsEquationAt (after t u) (λ x. x (attr_column attr)) (place_in places w) s.value.num s.value.den) (sym (f.packed.standings w taken))
    (equation-there places count t u (λ x. x (attr_column attr)) w v.num v.den f taken h))

line-row : (places : List ℕ) (count : ℕ) (t u : Lists) (name : RowName) (side : Option Side) → IsPacking places count t u → IsNamed (problem_of t) name → IsLineRow t name side → IsLineRow (after t u) name side
line-row places count t u name None f named h =
    let w : ℕ = line_slot t name in (
      ap (row_at u) (line_place places count t u name f named) ∙ f.packed.matrix w (line_taken t name f.kept.slots named) ∙ ap (renamed places) h.0,
      ap (λ (s : Standing). s.value) (line_standing places count t u name f named) ∙ h.1,
    )
line-row places count t u name (Some side) f named h =
    let w : ℕ = line_slot t name in
    let taken = line_taken t name f.kept.slots named in
    let v : Fraction = (standing_at t w).value in
    subst (λ (n : ℕ). IsEquationAt (after t u) (deviation name) n (sign_of side *ℤ (standing_at u n).value.num) (standing_at u n).value.den) (sym (line_place places count t u name f named))
    (subst (λ (s : Standing). IsEquationAt (after t u) (deviation name) (place_in places w) (sign_of side *ℤ s.value.num) s.value.den) (sym (f.packed.standings w taken))
    (equation-there places count t u (deviation name) w (sign_of side *ℤ v.num) v.den f taken h))

-- ---- all of it

kept-after : (places : List ℕ) (count : ℕ) (t u : Lists) → IsPacking places count t u → IsKept (after t u)
kept-after places count t u f =
    let p : Problem = problem_of t in
    let k = f.kept in
    let marks = sym (marks_after places count t u f) in
    record {
      whole = k.whole;
      corner = subst (λ (at : List Mark). IsCorner p at) marks k.corner;
      rays = subst (λ (at : List Mark). HasRays p at) marks k.rays;
      slots = packed_slots places count t u f;
      stored = packed_stored places count t u f;
      matrix = f.packed.kept;
      values = f.packed.values;
      attrs = λ i x lt. attr-row places count t u (slice_index_or t.stays i x).attr f (own_stay t.stays i x lt) (k.attrs i x lt);
      lines = λ i x lt.
          let name : RowName = (slice_index_or (lines p) i x).name in
          let named = own_name (lines p) i x lt in
          subst (λ (s : Standing). IsLineRow (after t u) name s.side) (sym (line_standing places count t u name f named))
          (line-row places count t u name (standing_at t (line_slot t name)).side f named (k.lines i x lt));
      outside = packed_outside places count t u f;
      levels = packed_levels places count t u f;
      stay_levels = λ i x lt. stay_room places count t u (slice_index_or t.stays i x) f (own_stay t.stays i x lt) (k.stay_levels i x lt);
    }

pub packed_kept : (places : List ℕ) (count : ℕ) (old new : Lists) → IsKept old → ArePlaces old places count → ArePacked places count old new → IsKept new
packed_kept places count old new kept are packed =
    subst IsKept (after_is places count old new packed) (kept-after places count old new (record { kept = kept; are = are; packed = packed }))

pub packed_marks : (places : List ℕ) (count : ℕ) (old new : Lists) → IsKept old → ArePlaces old places count → ArePacked places count old new → marks_at new ≡ marks_at old
packed_marks places count old new kept are packed =
    ap marks_at (sym (after_is places count old new packed)) ∙ marks_after places count old new (record { kept = kept; are = are; packed = packed })

pub packed_problem : (places : List ℕ) (count : ℕ) (old new : Lists) → ArePacked places count old new → problem_of new ≡ problem_of old
packed_problem places count old new packed = ap₂ (λ (rows : List Row) (stays : List Stay). (record { rows = rows; stays = stays })) packed.rows packed.stays
