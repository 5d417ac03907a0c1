-- A corner whose lists are those without a row is consistent.
use Rattle.std.proofs.Common.{◌≡◌, ◌≢◌, ◌∙◌, ◌⊎◌, ℕ, ◌<◌, List, [], ◌∷◌, refl, sym, ap, subst, arith, inl, inr, ℤ, pos, ◌*ℤ◌, ◌++◌, zero, suc, map, nat_eq, All, Any, Contains, Some}
use Rattle.std.specs.declared.option.Option.{Option}
use Rattle.std.specs.List.{AllByRecursion as Each}
use Rattle.std.proofs.lemmas.List.Elements.{recursion_from_All}
use Rattle.version_lists.proofs.Indexing.{number_at_column}
use Rattle.problem_core.specs.declared.parts.Mark.{Mark}
use Rattle.problem_core.specs.declared.parts.RowName.{RowName}
use Rattle.problem_core.specs.declared.parts.RowName.TheVariants.{Held}
use Rattle.problem_core.specs.declared.parts.Side.{Side}
use Rattle.problem_core.specs.Changes.Begins.{without_marks}
use Rattle.problem_core.specs.Corners.{HasNegativeColumn, IsIn, place_of}
use Rattle.problem_core.specs.declared.parts.Rel.{Rel}
use Rattle.problem_core.specs.Kept.{IsRow}
use Rattle.problem_core.specs.Layout.{Line, Problem, Row, line_of_row, lines, stay_lines}
use Rattle.corner_lines.specs.Levels.LevelRows.{IsPivot, line_numbers}
use Rattle.corner_lines.specs.LineEquations.{deviation, sign_of}
use Rattle.corner_lines.specs.Removals.{without_row}
use Rattle.corner_lines.proofs.Lines.LinePivots.{equation_is_pivot}
use Rattle.corner_leaving.specs.declared.leaving.Leaver.{Leaver}
use Rattle.corner_leaving.specs.declared.leaving.Left.{Left}
use Rattle.corner_view.specs.declared.types.Owner.{Owner}
use Rattle.corner_view.specs.declared.types.Owner.TheVariants.{Level as LevelSlot, Attr as AttrSlot, Line as LineSlot}
use Rattle.corner_table.specs.declared.table.Slot.{Slot}
use Rattle.corner_table.specs.declared.table.Table.{Table}
use Rattle.corner_joins.specs.Additions.CostJoins.{IsFreeLine}
use Rattle.corner_leaving.specs.Dropping.{AreLeftListed, dropped}
use Rattle.corner_table.specs.Histories.{AreAlike, lists_before}
use Rattle.corner_table.specs.Invariants.{IsConsistent, IsEarlier, name_of, names_of}
use Rattle.corner_table.specs.Kept.{AreSlots, IsEquationAt, IsKept, IsLineRow, IsSlot}
use Rattle.corner_joins.specs.Additions.JoinedLists.{IsFreeRow}
use Rattle.corner_leaving.specs.Leaving.{IsLeaver, marks_left, problem_left}
use Rattle.corner_table.specs.Reads.LevelNumbers.{side_share}
use Rattle.corner_table.specs.Tables.{Lists, entry, line_slot, lists_of, marks_at, number, problem_of, row_at, slot_at, standing_at}
use Rattle.corner_view.specs.Seen.{AreCandidates, IsNamed, IsOutside}
use Rattle.corner_lines.proofs.LevelRows.OtherNumbers.{other-number}
use Rattle.corner_exchange.proofs.Swaps.ListedSlots.{not_zero}
use Rattle.corner_leaving.proofs.Removals.DroppedCandidates.{left_negative}
use Rattle.corner_leaving.proofs.Removals.DroppedKept.{IsDrop, IsGoing, drop-slot-count, drop_kept, drop_marks, drop_slot_same, left-named, named-left, one-row}
use Rattle.corner_leaving.proofs.Removals.LeftLists.{in_left}
use Rattle.corner_table.proofs.Readings.MarkFacts.{inside_stands}
use Rattle.corner_table.proofs.Readings.KeptFacts.{row_kept}
use Rattle.corner_table.proofs.Basics.ListFacts.{all_from, from_map, to_map}
use Rattle.corner_exchange.proofs.Swaps.ListedSlots.{CanBeListed, outside_listed, were_listed}
use Rattle.corner_table.proofs.Readings.ReadFacts.{is_some}
use Rattle.corner_view.proofs.Facts.{mark_named, named_in}
use Rattle.corner_table.proofs.Basics.OwnerFacts.{line-owned}
use Rattle.corner_table.proofs.Readings.SlotFacts.{any_is, named_slot}
use Rattle.corner_table.proofs.Readings.WritingFacts.{line_owner, lines_apart}
use Rattle.problem_core.proofs.RowNames.{stay-not-held as stay-not}
use Rattle.problem_core.proofs.Sides.{some-same as some-one}
use Rattle.frac_core.proofs.Numbers.{zero-or-not as decide_zero}
use Rattle.corner_exchange.proofs.Pivots.LineChanges.{cond-zero as row-none}

-- ---- names

other-name : (t : Lists) (leaver : Leaver) (w : ℕ) (o : Owner) → IsGoing t leaver → w ≢ leaver.line → (slot_at t w).owner ≡ o → IsNamed (problem_of t) (name_of o) → name_of o ≢ Held leaver.id
other-name t leaver w LevelSlot g ne owner named e = not_zero (problem_of t) g.kept.whole named
other-name t leaver w (AttrSlot attr) g ne owner named e = stay-not attr leaver.id e
other-name t leaver w (LineSlot name) g ne owner named e = ne (sym (line-owned t w name g.kept.slots owner).1 ∙ ap (line_slot t) e ∙ g.line)

drop-named : (t : Lists) (leaver : Leaver) (left : Left) (w : ℕ) → IsDrop t leaver left → w ≢ leaver.line → CanBeListed t w → IsNamed (problem_left t leaver) (name_of (slot_at (dropped t leaver left) w).owner)
drop-named t leaver left w d ne can =
    subst (λ (s : Slot). IsNamed (problem_left t leaver) (name_of s.owner)) (sym (drop_slot_same t leaver left w ne))
    (named-left t leaver (name_of (slot_at t w).owner) (other-name t leaver w (slot_at t w).owner d.going ne refl can.1) can.1)

-- what is listed could be before, and is another line
was-listed : (t : Lists) (leaver : Leaver) (old new : List ℕ) → IsKept t → AreLeftListed t leaver.line old new → ((w : ℕ) → Contains old w → CanBeListed t w) → (w : ℕ) → Contains new w → CanBeListed t w × (w ≢ leaver.line)
was-listed t leaver old new kept listed can w has = (
  elim (listed.others w has) [
    | inl before ↦ can w before
    | inr (le, ne, column) ↦ outside_listed t w kept.slots (kept.outside leaver.line w ((number_at_column w (row_at t leaver.line) (row_kept t leaver.line kept)).1 column) ne)
  ],
  λ e. listed.gone (subst (λ (c : ℕ). Contains new c) e has),
)

-- ---- candidates

-- the row that goes, and its equation
record HasPivot (t : Lists) (leaver : Leaver) (r : Row) : Type 0 where
  id_is : leaver.id ≡ r.id
  scale : 0 < r.scale
  only : Each (λ (s : Row). s.id ≡ r.id → s ≡ r) t.rows
  slot_rel : (slot_at t leaver.line).rel ≡ r.rel
  no_other : (o : Side) → IsIn (place_of (Held r.id) o) (marks_at t) → o ≡ leaver.side
  own : ℕ
  pivot : IsPivot (problem_of t) (marks_at t) (Held r.id) (Held r.id) own (line_numbers (Held r.id) own (number t leaver.line))

left-row : (t : Lists) (name : RowName) (o : Option Side) (side : Side) → o ≡ Some side → IsLineRow t name o → IsLineRow t name (Some side)
left-row t name o side e h = subst (IsLineRow t name) e h

has-pivot : (t : Lists) (leaver : Leaver) (r : Row) → IsGoing t leaver → IsLeaver t r leaver → HasPivot t leaver r
has-pivot t leaver r g is =
    let here : line_slot t (Held r.id) ≡ leaver.line = is.line_is in
    let named : IsNamed (problem_of t) (Held r.id) = subst (λ (n : ℕ). IsNamed (problem_of t) (Held n)) is.id_is g.named in
    let inside : IsIn (place_of (Held r.id) leaver.side) (marks_at t) = subst (λ (n : ℕ). IsIn (place_of (Held n) leaver.side) (marks_at t)) is.id_is g.inside in
    let row : IsLineRow t (Held r.id) (Some leaver.side) = left-row t (Held r.id) (standing_at t (line_slot t (Held r.id))).side leaver.side (ap (λ (c : ℕ). (standing_at t c).side) here ∙ is.side_is)
    (any_is (λ l. IsLineRow t l.name (standing_at t (line_slot t l.name)).side) (λ l. l.name ≡ Held r.id) (lines (problem_of t)) g.kept.lines named
    (λ l h e. subst (λ (n : RowName). IsLineRow t n (standing_at t (line_slot t n)).side) e h)) in
    let q : IsEquationAt t (deviation (Held r.id)) leaver.line (sign_of leaver.side *ℤ (standing_at t leaver.line).value.num) (standing_at t leaver.line).value.den =
    subst (λ (c : ℕ). IsEquationAt t (deviation (Held r.id)) c (sign_of leaver.side *ℤ (standing_at t c).value.num) (standing_at t c).value.den) here row in
    record {
      id_is = is.id_is;
      scale = any_is IsRow (λ (s : Row). s ≡ r) t.rows g.kept.whole.rows is.held (λ s h e. subst (λ (x : Row). 0 < x.scale) e h.scale.0);
      only = recursion_from_All (λ (s : Row). s.id ≡ r.id → s ≡ r) t.rows (one-row t.rows r g.kept.whole.rising is.held);
      slot_rel = ap (λ (c : ℕ). (slot_at t c).rel) (sym here) ∙ row-rel t r g.kept.slots is.held;
      no_other = λ o i. some-one o leaver.side (sym (is_some (standing_at t (line_slot t (Held r.id))).side o (inside_stands t (record { row = Held r.id; side = o }) i)) ∙ ap (λ (c : ℕ). (standing_at t c).side) here ∙ is.side_is);
      own = q.0;
      pivot = equation_is_pivot (problem_of t) (marks_at t) (record { row = Held r.id; side = leaver.side }) q.0 (number t leaver.line) (sign_of leaver.side *ℤ (standing_at t leaver.line).value.num) (standing_at t leaver.line).value.den
          g.kept.whole g.kept.corner inside q.2;
    }
  where
    rel-in : (t : Lists) (r : Row) (rows : List Row) (ls : List Line) → Each (λ l. (slot_at t (line_slot t l.name)).rel ≡ l.rel) (map line_of_row rows ++ ls) → Any (λ (s : Row). s ≡ r) rows → (slot_at t (line_slot t (Held r.id))).rel ≡ r.rel
    rel-in t r [] ls h (k, x, lt, e, is) = absurd (omega (arith, lt))
    rel-in t r (s ∷ rows) ls h (zero, x, lt, e, is) = subst (λ (y : Row). (slot_at t (line_slot t (Held y.id))).rel ≡ y.rel) (e ∙ is) h.0
    rel-in t r (s ∷ rows) ls h (suc k, x, lt, e, is) = rel-in t r rows ls h.1 (k, x, omega (arith, lt), e, is)

    row-rel : (t : Lists) (r : Row) → AreSlots t → Any (λ (s : Row). s ≡ r) t.rows → (slot_at t (line_slot t (Held r.id))).rel ≡ r.rel
    row-rel t r slots held = rel-in t r t.rows (stay_lines 1001 t.stays) (recursion_from_All (λ l. (slot_at t (line_slot t l.name)).rel ≡ l.rel) (lines (problem_of t)) (λ i x lt. (slots.lines i x lt).rel)) held

free-row : (t : Lists) (leaver : Leaver) (r : Row) → IsLeaver t r leaver → HasPivot t leaver r → IsFreeLine t leaver.line → IsFreeRow (marks_at t) r
free-row t leaver r is h free side inside =
    subst (λ (rel : Rel). side_share rel side 1 ≡ 0) h.slot_rel (free side (is.side_is ∙ ap (λ (s : Side). Some s) (sym (h.no_other side inside))) 1)

none-else : (z : ℤ) (P : Type 0) → (z ≡ pos 0) ⊎ (z ≢ pos 0) → (z ≡ pos 0 → P) → (z ≢ pos 0 → P) → P
none-else z P (inl e) f g = f e
none-else z P (inr n) f g = g n

-- a name that was listed, and isn't the row's, still is
kept-name : (t : Lists) (leaver : Leaver) (left : Left) (old new : List ℕ) (name : RowName) → IsDrop t leaver left → AreLeftListed t leaver.line old new → name ≢ Held leaver.id → Contains (names_of t old) name → Contains (names_of (dropped t leaver left) new) name
kept-name t leaver left old new name d listed other has =
    let i = from_map (λ w. name_of (slot_at t w).owner) old name has in
    let ne : i.of ≢ leaver.line = λ e. other
    (sym i.is ∙ ap (λ (c : ℕ). name_of (slot_at t c).owner) (e ∙ sym d.going.line) ∙ ap name_of (line_owner t (Held leaver.id) d.going.kept.slots d.going.named)) in
    subst (λ (n : RowName). Contains (names_of (dropped t leaver left) new) n) (ap (λ (x : Slot). name_of x.owner) (drop_slot_same t leaver left i.of ne) ∙ i.is)
    (to_map (λ w. name_of (slot_at (dropped t leaver left) w).owner) new i.of (listed.keeps i.of ne i.has))

-- so is one whose line is listed now
new-name : (t : Lists) (leaver : Leaver) (left : Left) (new : List ℕ) (name : RowName) → IsDrop t leaver left → IsNamed (problem_of t) name → line_slot t name ≢ leaver.line → Contains new (line_slot t name) → Contains (names_of (dropped t leaver left) new) name
new-name t leaver left new name d named ne has =
    subst (λ (n : RowName). Contains (names_of (dropped t leaver left) new) n)
    (ap (λ (x : Slot). name_of x.owner) (drop_slot_same t leaver left (line_slot t name) ne) ∙ ap name_of (line_owner t name d.going.kept.slots named))
    (to_map (λ w. name_of (slot_at (dropped t leaver left) w).owner) new (line_slot t name) has)

drop-candidate : (t : Lists) (leaver : Leaver) (left : Left) (r : Row) (old new : List ℕ) (m : Mark) → IsDrop t leaver left → IsLeaver t r leaver → AreLeftListed t leaver.line old new
    → AreCandidates (problem_of t) (marks_at t) (names_of t old) → IsOutside (problem_left t leaver) (marks_left t leaver) m → HasNegativeColumn (problem_left t leaver) (marks_left t leaver) m
    → Contains (names_of (dropped t leaver left) new) m.row
drop-candidate t leaver left r old new m d is listed before out negative =
    let g = d.going in
    let h = has-pivot t leaver r g is in
    let at : List Mark = marks_at t in
    let p : Problem = problem_of t in
    let low : HasNegativeColumn (without_row r.id p) (without_marks (r.id ∷ []) at) m = subst (λ (n : ℕ). HasNegativeColumn (without_row n p) (without_marks (n ∷ []) at) m) is.id_is negative in
    let both : IsNamed p m.row × (m.row ≢ Held leaver.id) =
    any_is (λ l. IsNamed p l.name × (l.name ≢ Held leaver.id)) (λ l. l.name ≡ m.row) (lines (problem_left t leaver)) (left-named t leaver) (mark_named (problem_left t leaver) m out.0)
    (λ l k e. subst (λ (n : RowName). IsNamed p n × (n ≢ Held leaver.id)) e k) in
    let off : line_slot t m.row ≢ leaver.line = λ e. both.1 (sym (lines_apart t (Held leaver.id) m.row g.kept.slots g.named both.0 (e ∙ sym g.line))) in
    let still : HasNegativeColumn p at m → Contains (names_of (dropped t leaver left) new) m.row = λ k.
    kept-name t leaver left old new m.row d listed both.1 (before m (named_in p m.row m.side both.0, λ i. out.1 (in_left leaver.id m.row m.side at both.1 i)) k) in
    elim listed.listed [
      | inl free ↦ still (left_negative p at r leaver.side h.own (line_numbers (Held r.id) h.own (number t leaver.line)) m h.scale h.only h.no_other h.pivot (inl (free-row t leaver r is h free)) low)
      | inr all ↦
          none-else (entry t leaver.line (line_slot t m.row)) (Contains (names_of (dropped t leaver left) new) m.row) (decide_zero (entry t leaver.line (line_slot t m.row)))
          (λ e. still (left_negative p at r leaver.side h.own (line_numbers (Held r.id) h.own (number t leaver.line)) m h.scale h.only h.no_other h.pivot
          (inr (other-number (Held r.id) h.own (number t leaver.line) m.row (λ q. both.1 (q ∙ ap Held (sym is.id_is))) ∙ row-none (nat_eq (line_slot t m.row) leaver.line) (entry t leaver.line (line_slot t m.row)) e)) low))
          (λ some. new-name t leaver left new m.row d both.0 off
          (all (line_slot t m.row) (named_slot t m.row g.kept.slots both.0).0 off ((number_at_column (line_slot t m.row) (row_at t leaver.line) (row_kept t leaver.line g.kept)).0 some)))
    ]

-- ---- all of it

drop-there : (t : Lists) (leaver : Leaver) (left : Left) (r : Row) (old new : List ℕ) → IsDrop t leaver left → IsLeaver t r leaver → AreLeftListed t leaver.line old new
    → All (IsSlot t) old → All (IsNamed (problem_of t)) (names_of t old)
    → All (IsSlot (dropped t leaver left)) new × All (IsNamed (problem_left t leaver)) (names_of (dropped t leaver left) new)
drop-there t leaver left r old new d is listed slots named =
    let can = was-listed t leaver old new d.going.kept listed (were_listed t old slots named) in (
      all_from (IsSlot (dropped t leaver left)) new (λ w has. let s = (can w has).0.0 in (s.0, let n = drop-slot-count t leaver left in omega (arith, n, s.1))),
      all_from (IsNamed (problem_left t leaver)) (names_of (dropped t leaver left) new) (λ name has.
          let i = from_map (λ w. name_of (slot_at (dropped t leaver left) w).owner) new name has in
          let k = can i.of i.has in
          subst (IsNamed (problem_left t leaver)) i.is (drop-named t leaver left i.of d k.1 k.0)),
    )

pub drop_consistent : (old new : Table) (leaver : Leaver) (left : Left) (r : Row) (listed next : List ℕ) → IsConsistent old listed → IsDrop (lists_of old) leaver left → IsLeaver (lists_of old) r leaver → AreAlike new → lists_before new ≡ lists_before old
    → lists_of new ≡ dropped (lists_of old) leaver left → AreLeftListed (lists_of old) leaver.line listed next → IsConsistent new next
drop_consistent old new leaver left r listed next c d is alike before now after =
    let t : Lists = lists_of old in
    let u : Lists = dropped t leaver left in
    let there = drop-there t leaver left r listed next d is after c.slots c.named in
    record {
      alike = alike;
      before = subst (All IsEarlier) (sym before) c.before;
      kept = subst IsKept (sym now) (drop_kept t leaver left d);
      slots = subst (λ (x : Lists). All (IsSlot x) next) (sym now) there.0;
      named = subst (λ (x : Lists). All (IsNamed (problem_of x)) (names_of x next)) (sym now) there.1;
      candidates = subst (λ (x : Lists). AreCandidates (problem_of x) (marks_at x) (names_of x next)) (sym now)
          (subst (λ (at : List Mark). AreCandidates (problem_left t leaver) at (names_of u next)) (sym (drop_marks t leaver left d)) (λ m out negative. drop-candidate t leaver left r listed next m d is after c.candidates out negative));
    }
