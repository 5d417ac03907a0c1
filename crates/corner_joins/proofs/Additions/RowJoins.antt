-- All that the lists keep where a row has been pushed.
use Rattle.std.proofs.Common.{◌≡◌, ◌∙◌, ℕ, zero, suc, ◌+◌, ◌≤◌, length, ◌<◌, ◌++◌, List, [], ◌∷◌, refl, sym, ap, subst, arith, inl, inr, ℤ, pos, negsuc, ◌*ℤ◌, ◌<ℤ◌, ◌≤ℤ◌, slice_index_or, All, Some, None}
use Rattle.std.proofs.lemmas.List.Elements.{All-cons, All-push}
use lib.IntN.{*ℤ_comm}
use borrow.Author.Differences.{ints}
use Rattle.frac_core.specs.Fraction.{Fraction, IsFitting}
use Rattle.frac_core.specs.Fraction as fractions
use Rattle.frac_core.proofs.Integers.{mul_positive, positive_from, zero-mul_ℤ, zero_from_mul}
use Rattle.row_core.specs.Rows.{IsKeptRow, Term, coefficient}
use Rattle.problem_core.specs.declared.parts.Mark.{Mark}
use Rattle.problem_core.specs.declared.parts.Stay.{Stay}
use Rattle.problem_core.specs.declared.parts.Side.{Side}
use Rattle.problem_core.specs.declared.parts.Side.TheVariants.{Under, Over}
use Rattle.problem_core.specs.declared.parts.RowName.TheVariants.{Held, Stay as StayOf}
use Rattle.problem_core.specs.Layout.{HasStay, Row, lines}
use Rattle.problem_core.specs.Kept.{IsWhole}
use Rattle.problem_core.specs.Changes.Begins.{IsJoined}
use Rattle.problem_core.specs.Corners.{IsIn, Point, SameMarks, one_column, place, place_of}
use Rattle.corner_lines.specs.Joins.{with_row}
use Rattle.corner_lines.specs.LineEquations.{deviation, sign_of}
use Rattle.corner_lines.proofs.ProblemChanges.JoinedRows.{in-parts}
use Rattle.corner_lines.proofs.Lines.LineWritings.{mark_value}
use Rattle.corner_joins.specs.declared.joining.Sum.{Sum}
use Rattle.corner_table.specs.declared.table.Slot.{Slot}
use Rattle.corner_table.specs.declared.table.Standing.{Standing}
use Rattle.corner_table.specs.declared.table.TheConstants.{MOST_SLOTS}
use Rattle.corner_table.specs.Tables.{Lists, line_slot, marks_at, problem_of, standing_at}
use Rattle.corner_table.specs.Kept.{AreStored, HasStayRoom, IsLineRow}
use Rattle.corner_table.specs.Tables.{slot_at}
use Rattle.std.proofs.lemmas.Bool.{cases_lt}
use Rattle.std.proofs.lemmas.List.{get_or_past}
use Rattle.corner_writings.proofs.Readings.FreeSlots.{free_line}
use Rattle.corner_joins.specs.Additions.Parts.{IsPartlyKept, IsWithRow}
use Rattle.corner_table.specs.Joining.{slot_of_row}
use Rattle.corner_joins.specs.Additions.RowJoins.{IsPlaced, IsPushed, IsStandingOf}
use Rattle.corner_joins.specs.Additions.RowSums.{IsSumRow, with_pushed}
use Rattle.std.specs.declared.option.Option.{Option}
use Rattle.std.proofs.lemmas.List.{length_push}
use Rattle.std.proofs.Math.ListN.{get_or-append}
use Rattle.corner_table.proofs.Basics.SmallFacts.{own_name, own_stay}
use Rattle.corner_exchange.proofs.Basics.Opposites.{opposite_fits, opposite_lowest}
use Rattle.corner_joins.proofs.Attributes.AttrLevels.{made}
use Rattle.corner_table.proofs.Basics.OwnerFacts.{stay_named}
use Rattle.corner_table.proofs.Readings.SlotFacts.{named_slot}
use Rattle.corner_joins.proofs.Additions.RowPlaces.{IsPush, last_of, marks_pushed, old_row, old_slot, put_line, row_place, slots_pushed, next}
use Rattle.corner_joins.proofs.Additions.RowKept.{IsSideOf, corner_pushed, new_kept_line, old_attr_row, old_kept_line, outside_pushed, rays_pushed, row_equation, side_of}
use Rattle.corner_joins.proofs.Additions.RowLevels.{level_pushed}

room_pushed : (t : Lists) (r : Row) (v : Standing) (o : List Term) (a : List ℕ) (s : Stay) → IsPush t r a → HasStay t.stays s.attr → HasStayRoom t s → HasStayRoom (with_pushed r v o a t) s
room_pushed t r v o a s j has room =
    let slot = named_slot t (StayOf s.attr) j.kept.slots (stay_named (problem_of t) s.attr has) in
    subst (λ (z : ℤ). IsFitting (pos 2 *ℤ z)) (sym (ap (coefficient (line_slot t (StayOf s.attr))) (old_row t r v o a (line_slot t (StayOf s.attr)) j.kept.slots slot.1))) room

stored_pushed : (t : Lists) (r : Row) (v : Standing) (o : List Term) (a : List ℕ) → IsPush t r a → length t.slots < MOST_SLOTS → AreStored (with_pushed r v o a t)
stored_pushed t r v o a j room =
    let n = length_push t.slots (slot_of_row r) in
    record {
      few = omega (arith, n, room);
      empty = λ w high free. elim (cases_lt w (length t.slots)) [
        | inl lt ↦ old_row t r v o a w j.kept.slots lt ∙ j.kept.stored.empty w high (sym (ap (λ (x : Slot). x.owner) (old_slot t r v o a w lt)) ∙ free)
        | inr past ↦ elim (cases_lt (length t.slots) w) [
          | inl more ↦ get_or_past (t.matrix ++ (o ∷ [])) w [] (let k = length_push t.matrix o in omega (arith, k, more, j.kept.slots.matrix))
          | inr here ↦ absurd (free_line (Held r.id) (sym (ap (λ (x : Slot). x.owner) (ap (slot_at (with_pushed r v o a t)) (same w (length t.slots) past here) ∙ row_place t r v o a)) ∙ free))
        ]
      ];
    }
  where
    same : (w n : ℕ) → n ≤ w → w ≤ n → w ≡ n
    same w n le ge = omega (arith, le, ge)

pub kept_pushed : (t : Lists) (r : Row) (v : Standing) (o : List Term) (a : List ℕ) (s : Side) (sum : Sum) → IsPush t r a → length t.slots < MOST_SLOTS → IsSideOf sum.value v s → o ≡ sum.row → IsSumRow t r (deviation (Held r.id)) sum → IsKeptRow o → fractions.IsKept v.value → IsPartlyKept (with_pushed r v o a t)
kept_pushed t r v o a s sum j few is own h row value = record {
  whole = j.whole;
  corner = corner_pushed t r v o a s j is.side;
  rays = rays_pushed t r v o a s j is.side;
  slots = slots_pushed t r v o a (next t r a j);
  stored = stored_pushed t r v o a j few;
  matrix = All-push IsKeptRow t.matrix o j.kept.matrix row;
  values = All-push (λ (x : Standing). fractions.IsKept x.value) t.standings v j.kept.values value;
  attrs = λ i x lt. old_attr_row t r v o a s (slice_index_or t.stays i x).attr j is.side (j.kept.slots.attrs i x lt) (j.kept.attrs i x lt);
  lines = put_line (λ l. IsLineRow (with_pushed r v o a t) l.name (standing_at (with_pushed r v o a t) (line_slot (with_pushed r v o a t) l.name)).side) (problem_of t) r
      (λ i x lt. old_kept_line t r v o a s (slice_index_or (lines (problem_of t)) i x).name j is.side (own_name (lines (problem_of t)) i x lt) (j.kept.lines i x lt)) (new_kept_line t r v o a s sum j is own h);
  outside = outside_pushed t r v o a sum j own h;
  levels = λ k lt. level_pushed t r v o a s k j is.side lt (j.kept.levels k lt);
  stay_levels = λ i x lt. room_pushed t r v o a (slice_index_or t.stays i x) j (own_stay t.stays i x lt) (j.kept.stay_levels i x lt);
}

-- ---- the mark

pub not_less : (x y : ℤ) (d : ℕ) (one : ℤ) → 0 < d → pos 0 <ℤ one → x *ℤ pos d ≡ y *ℤ one → pos 0 <ℤ y → pos 0 <ℤ x
not_less x y d (pos n) above up e h = positive_from d x (subst (λ (z : ℤ). pos 0 <ℤ z) (*ℤ_comm (pos n) y ∙ sym e ∙ *ℤ_comm x (pos d)) (mul_positive n y (omega (arith, ints, up)) h))
not_less x y d (negsuc n) above up e h = absurd up.lt

pub not_below : (x y : ℤ) (d : ℕ) (one : ℤ) → 0 < d → pos 0 <ℤ one → x *ℤ pos d ≡ y *ℤ one → pos 0 ≤ℤ y → pos 0 ≤ℤ x
not_below x (pos zero) d one above up e h = let z : x ≡ pos 0 = zero_from_mul d x above (*ℤ_comm (pos d) x ∙ e ∙ zero-mul_ℤ one) in omega (arith, ints, z)
not_below x (pos (suc n)) d one above up e h = let k = not_less x (pos (suc n)) d one above up e (omega (arith, ints)) in omega (arith, ints, k)
not_below x (negsuc n) d one above up e h = absurd (omega (arith, ints, h))

abbrev is_over : Option Side → Type 0
is_over None = ⊥
is_over (Some Under) = ⊥
is_over (Some Over) = Unit {0}

sides_apart : (x y : Option Side) → x ≡ Some Over → y ≡ Some Under → x ≡ y → ⊥
sides_apart x y e f k = subst is_over (sym e ∙ k ∙ f) tt

is_joined : (r : Row) (s : Side) (f : Fraction) (v : Standing) (x : Point) → IsStandingOf f v → v.side ≡ Some s → 0 < f.den → x.num (place_of (Held r.id) s) *ℤ pos f.den ≡ (sign_of s *ℤ f.num) *ℤ x.num one_column → IsJoined x r (record { row = Held r.id; side = s })
is_joined r Over f v x (inl (up, e)) side above eq = inl (refl, not_below (x.num (place_of (Held r.id) Over)) (pos 1 *ℤ f.num) f.den (x.num one_column) above x.positive eq (omega (arith, ints, up)))
is_joined r Under f v x (inr (down, e)) side above eq = inr (refl, not_less (x.num (place_of (Held r.id) Under)) (negsuc 0 *ℤ f.num) f.den (x.num one_column) above x.positive eq (omega (arith, ints, down)))
is_joined r Under f v x (inl (up, e)) side above eq = absurd (sides_apart v.side v.side (ap (λ (y : Standing). y.side) e) side refl)
is_joined r Over f v x (inr (down, e)) side above eq = absurd (sides_apart v.side v.side side (ap (λ (y : Standing). y.side) e) refl)

-- the standing's value fits
standing_kept : (f : Fraction) (v : Standing) → IsStandingOf f v → fractions.IsKept f → fractions.IsKept v.value
standing_kept f v (inl (up, e)) kept = subst (λ (x : Standing). fractions.IsKept x.value) (sym e) kept
standing_kept f v (inr (down, e)) kept = subst (λ (x : Standing). fractions.IsKept x.value) (sym e) (record { lowest = opposite_lowest f kept.lowest; fits = opposite_fits f kept.fits })

-- the marks as a set
turned_marks : (at : List Mark) (m : Mark) (new : List Mark) → SameMarks (at ++ (m ∷ [])) new → SameMarks new (m ∷ at)
turned_marks at m new same = (
  λ i x lt. first (place (slice_index_or new i x)) (same.1 i x lt),
  All-cons (λ n. IsIn (place n) new) m at (last_of (λ n. IsIn (place n) new) at m same.0) (front at m same.0),
)
  where
    first : (c : ℕ) → IsIn c (at ++ (m ∷ [])) → IsIn c (m ∷ at)
    first c i = elim (in-parts at m c i) [
      | inl (k, within, is) ↦ (suc k, omega (arith, within), is)
      | inr e ↦ (0, omega arith, sym e)
    ]

    front : (xs : List Mark) (y : Mark) → All (λ n. IsIn (place n) new) (xs ++ (y ∷ [])) → All (λ n. IsIn (place n) new) xs
    front xs y h k x lt = subst (λ n. IsIn (place n) new) (get_or-append xs (y ∷ []) x k lt) (h k x (omega (arith, lt, length_push xs y)))

pub with_pushed_row : (t : Lists) (r : Row) (v : Standing) (o : List Term) (a : List ℕ) (s : Side) (sum : Sum) → IsPush t r a → IsStandingOf sum.value v → IsSideOf sum.value v s → o ≡ sum.row → IsSumRow t r (deviation (Held r.id)) sum → 0 < sum.value.den → IsWithRow r t (with_pushed r v o a t)
with_pushed_row t r v o a s sum j st is own h above =
    let e = row_equation t r v o a s sum j is own h in
    let mark : Mark = record { row = Held r.id; side = s } in
    let same = marks_pushed t r v o a s (next t r a j) is.side in
    let inside : IsIn (place mark) (marks_at (with_pushed r v o a t)) = last_of (λ m. IsIn (place m) (marks_at (with_pushed r v o a t))) (marks_at t) mark same.0 in
    let value = mark_value (with_row r (problem_of t)) (marks_at (with_pushed r v o a t)) (Held r.id) s e.0 _ sum.value.num sum.value.den j.whole (corner_pushed t r v o a s j is.side) inside e.2 in
    record {
      problem = refl;
      mark = mark;
      marks = turned_marks (marks_at t) mark (marks_at (with_pushed r v o a t)) same;
      point = value.0;
      stands = value.1;
      joined = is_joined r s sum.value v value.0 st is.side above value.2;
      levels = refl;
    }

-- ---- as the code finds it

pub pushed_is : (t u : Lists) (r : Row) → (h : IsPushed r t u) → u ≡ with_pushed r h.standing h.own u.row_slots t
pushed_is t u r h =
    ap (λ x. made x u.stays u.slots u.standings u.matrix u.attr_slots u.row_slots u.priorities) h.rows
    ∙ ap (λ x. made (t.rows ++ (r ∷ [])) x u.slots u.standings u.matrix u.attr_slots u.row_slots u.priorities) h.stays
    ∙ ap (λ x. made (t.rows ++ (r ∷ [])) t.stays x u.standings u.matrix u.attr_slots u.row_slots u.priorities) h.slots
    ∙ ap (λ x. made (t.rows ++ (r ∷ [])) t.stays (t.slots ++ (slot_of_row r ∷ [])) x u.matrix u.attr_slots u.row_slots u.priorities) h.standings
    ∙ ap (λ x. made (t.rows ++ (r ∷ [])) t.stays (t.slots ++ (slot_of_row r ∷ [])) (t.standings ++ (h.standing ∷ [])) x u.attr_slots u.row_slots u.priorities) h.matrix
    ∙ ap (λ x. made (t.rows ++ (r ∷ [])) t.stays (t.slots ++ (slot_of_row r ∷ [])) (t.standings ++ (h.standing ∷ [])) (t.matrix ++ (h.own ∷ [])) x u.row_slots u.priorities) h.attr_slots
    ∙ ap (λ x. made (t.rows ++ (r ∷ [])) t.stays (t.slots ++ (slot_of_row r ∷ [])) (t.standings ++ (h.standing ∷ [])) (t.matrix ++ (h.own ∷ [])) t.attr_slots u.row_slots x) h.priorities

push_of : (t u : Lists) (r : Row) → IsPartlyKept t → IsWhole (with_row r (problem_of t)) → IsPushed r t u → IsPush t r u.row_slots
push_of t u r kept whole h = record { kept = kept; whole = whole; numbers = h.row_slots }

pub row_kept_part : (t u : Lists) (r : Row) (sum : Sum) → IsPartlyKept t → IsWhole (with_row r (problem_of t)) → IsSumRow t r (deviation (Held r.id)) sum → IsKeptRow sum.row → fractions.IsKept sum.value → IsPlaced r sum t u → IsPartlyKept u
row_kept_part t u r sum kept whole h row value (p, st, own) =
    let side = side_of sum.value p.standing st in
    subst IsPartlyKept (sym (pushed_is t u r p))
    (kept_pushed t r p.standing p.own u.row_slots side.0 sum (push_of t u r kept whole p) p.room side.1 own h (subst IsKeptRow (sym own) row) (standing_kept sum.value p.standing st value))

pub row_joins : (t u : Lists) (r : Row) (sum : Sum) → IsPartlyKept t → IsWhole (with_row r (problem_of t)) → IsSumRow t r (deviation (Held r.id)) sum → fractions.IsKept sum.value → IsPlaced r sum t u → IsWithRow r t u
row_joins t u r sum kept whole h value (p, st, own) =
    let side = side_of sum.value p.standing st in
    subst (IsWithRow r t) (sym (pushed_is t u r p))
    (with_pushed_row t r p.standing p.own u.row_slots side.0 sum (push_of t u r kept whole p) st side.1 own h value.lowest.above)
