-- All that moves with an outside mark, in the order of the slots.
use Rattle.std.proofs.Common.{◌≡◌, ◌≢◌, ◌∙◌, ℕ, zero, suc, ◌+◌, ◌<◌, ◌≤◌, Bool, true, false, cond, nat_eq, List, [], ◌∷◌, map, filter, length, drop, slice_get, slice_index_or, refl, sym, ap, ap₂, subst, arith, inl, inr, ℤ, pos, neg_ℤ, ◌*ℤ◌, unsigned_abs, All, AllPairs, Contains, Some, None, eq-eqb, ne_eqb}
use Rattle.std.specs.declared.option.Option.{Option}
use Rattle.std.specs.Option.{is_some as has_side}
use Rattle.std.proofs.lemmas.Bool.{cases_eq}
use Rattle.std.proofs.lemmas.List.Elements.{All-contains}
use borrow.Author.Differences.{ints}
use Rattle.frac_core.proofs.Integers.{zero-mul_ℤ}
use Rattle.row_core.specs.Rows.{coefficient}
use Rattle.problem_core.specs.declared.parts.Mark.{Mark}
use Rattle.problem_core.specs.declared.parts.RowName.{RowName}
use Rattle.problem_core.specs.declared.parts.Side.{Side}
use Rattle.problem_core.specs.declared.parts.Side.TheVariants.{Under, Over}
use Rattle.problem_core.specs.declared.parts.Level.TheVariants.{Priority}
use Rattle.problem_core.specs.declared.stops.What.{What}
use Rattle.problem_core.specs.declared.stops.What.TheVariants.{Attr as AttrOf, Mark as MarkOf, Level as LevelOf}
use Rattle.problem_core.specs.Corners.{IsIn, attr_column, place, place_of}
use Rattle.corner_laws.specs.Runs.{other_side}
use Rattle.corner_lines.specs.LineEquations.{sign_of}
use Rattle.corner_view.specs.declared.types.Owner.{Owner}
use Rattle.corner_view.specs.declared.types.Owner.TheVariants.{Level as LevelSlot, Attr as AttrSlot, Line as LineSlot}
use Rattle.corner_table.specs.declared.table.Slot.{Slot}
use Rattle.corner_table.specs.declared.table.TheConstants.{LEVELS}
use Rattle.corner_view.specs.Seen.{AreMovers, IsNamed, IsOutside, IsWritten, MovesWith, owner_of}
use Rattle.corner_table.specs.Tables.{AreMoved, IsOfLine, Lists, lists_of, attr_slot, entry, is_side, line_slot, marks_at, problem_of, sign_of_what, slot_at, standing_at, stands_in, what_slot}
use Rattle.corner_table.specs.Kept.{AreSlots, IsAttrSlot, IsKept, IsLineRow, IsOwned, IsSlot}
use Rattle.corner_table.specs.declared.table.Table.{Table}
use Rattle.corner_table.specs.Invariants.{order_of, seen_of, view_of}
use Rattle.corner_table.proofs.Readings.SlotFacts.{any_is, named_slot}
use Rattle.corner_table.proofs.Readings.MarkFacts.{inside_stands, stands_inside}
use Rattle.corner_table.proofs.Readings.ReadFacts.{inside_equation, is_some}
use Rattle.corner_view.proofs.Facts.{mark_named, moves_where, named_in}
use Rattle.corner_table.proofs.Readings.WritingFacts.{attr_apart, attr_owner, in_mark, is_other, line_owner, lines_apart, other_what, own_what}
use Rattle.corner_table.proofs.Basics.ListFacts.{all_from, from_map, further, get_mapped, to_map}
use Rattle.corner_writings.proofs.Readings.FreeSlots.{free_line, not_free}
use Rattle.corner_writings.proofs.Readings.MoverFacts.{AreAt, has_where, in_slots, none_false, one_list}
use Rattle.corner_writings.proofs.LevelFacts.LevelCostFacts.{line_row as row_of_line}
use Rattle.frac_core.proofs.Bools.{not-both as not_both, or-later as here_or}
use Rattle.frac_core.proofs.Lists.{length-mapped as map_length}

-- ---- what the slots are of

abbrev pub slot_of : Lists → Owner → ℕ
slot_of t LevelSlot = 0
slot_of t (AttrSlot attr) = attr_slot t attr
slot_of t (LineSlot name) = line_slot t name

abbrev pub what_of : Owner → Side → What
what_of LevelSlot side = LevelOf (Priority 0)
what_of (AttrSlot attr) side = AttrOf attr
what_of (LineSlot name) side = MarkOf (record { row = name; side = side })

abbrev pub side_of : Option Side → Side
side_of None = Over
side_of (Some side) = side

abbrev pub thing : Lists → ℕ → What
thing t w = what_of (slot_at t w).owner (side_of (standing_at t w).side)

same_owner : (o : Owner) (side : Side) → owner_of (what_of o side) ≡ o
same_owner LevelSlot side = refl
same_owner (AttrSlot attr) side = refl
same_owner (LineSlot name) side = refl

pub side_itself : (s : Side) → is_side (Some s) s ≡ true
side_itself Under = refl
side_itself Over = refl

no_side : (s : Side) (o : Option Side) → o ≡ None → is_side o s ≡ true → ⊥
no_side s o e h = not_both (is_side None s) (subst (λ (p : Option Side). is_side p s ≡ true) e h) refl

line_in : (t : Lists) (name : RowName) (c : ℕ) (o : Option Side) → IsNamed (problem_of t) name → (standing_at t (line_slot t name)).side ≡ o → IsLineRow t name o
    → entry t (line_slot t name) c ≢ pos 0 → IsIn (place_of name (side_of o)) (marks_at t)
line_in t name c None named e row some = absurd (some (ap (λ r. coefficient c r) row.0))
line_in t name c (Some side) named e row some =
    stands_inside t (record { row = name; side = side }) (named_in (problem_of t) name side named) (subst (λ (o : Option Side). is_side o side ≡ true) (sym e) (side_itself side))

pub record IsThing (t : Lists) (w : ℕ) (what : What) : Type 0 where
  pub written : IsWritten (problem_of t) (marks_at t) what
  pub slot : what_slot t what ≡ w

thing_is : (t : Lists) (w c : ℕ) (o : Owner) → IsKept t → LEVELS ≤ w → (slot_at t w).owner ≡ o → IsOwned t w o → entry t w c ≢ pos 0 → IsThing t w (what_of o (side_of (standing_at t w).side))
thing_is t w c LevelSlot kept high e h some = absurd (not_free t w c kept.stored high some e)
thing_is t w c (AttrSlot attr) kept high e h some = record { written = (attr_column attr, (h.0, refl)); slot = h.1 }
thing_is t w c (LineSlot name) kept high e h some =
    let i : IsIn (place_of name (side_of (standing_at t (line_slot t name)).side)) (marks_at t) =
    line_in t name c (standing_at t (line_slot t name)).side h.0 refl (row_of_line t name kept h.0) (subst (λ n. entry t n c ≢ pos 0) (sym h.1) some) in
    let j : IsIn (place_of name (side_of (standing_at t w).side)) (marks_at t) = subst (λ n. IsIn (place_of name (side_of (standing_at t n).side)) (marks_at t)) h.1 i in
    record { written = (place_of name (side_of (standing_at t w).side), (j, refl)); slot = h.1 }

-- what is written stands at its slot
thing_at : (t : Lists) (what : What) → IsKept t → IsWritten (problem_of t) (marks_at t) what → IsSlot t (what_slot t what) × (thing t (what_slot t what) ≡ what)
thing_at t (AttrOf attr) kept h = (
  any_is (λ s. IsAttrSlot t s.attr) (λ s. s.attr ≡ attr) t.stays kept.slots.attrs h.1.0 (λ s k e. subst (λ (a : ℕ). IsSlot t (attr_slot t a)) e k.slot),
  ap (λ (o : Owner). what_of o (side_of (standing_at t (attr_slot t attr)).side)) (attr_owner t attr kept.slots h.1.0),
)
thing_at t (MarkOf m) kept h =
    let named = mark_named (problem_of t) m (in_mark t m kept h.1.0) in (
      named_slot t m.row kept.slots named,
      ap₂ (λ (o : Owner) (s : Option Side). what_of o (side_of s)) (line_owner t m.row kept.slots named) (is_some (standing_at t (line_slot t m.row)).side m.side (inside_stands t m h.1.0)),
    )
thing_at t (LevelOf level) kept h = absurd h.1

-- ---- where the mark's line is outside

not_of_line : (t : Lists) (what : What) (row : RowName) → (standing_at t (line_slot t row)).side ≡ None → IsWritten (problem_of t) (marks_at t) what → IsOfLine what row → ⊥
not_of_line t (AttrOf attr) row none h of = of
not_of_line t (MarkOf m) row none h of = no_side m.side (standing_at t (line_slot t m.row)).side (ap (λ (n : RowName). (standing_at t (line_slot t n)).side) of ∙ none) (inside_stands t m h.1.0)
not_of_line t (LevelOf level) row none h of = of

by_sides : (a b : Side) (y : ℤ) → neg_ℤ (y *ℤ (sign_of a *ℤ sign_of b)) ≡ pos 0 → y ≡ pos 0
by_sides Under Under y h = omega (arith, ints, h)
by_sides Under Over y h = omega (arith, ints, h)
by_sides Over Under y h = omega (arith, ints, h)
by_sides Over Over y h = omega (arith, ints, h)

pub no_entry : (side : Side) (what : What) (y : ℤ) → neg_ℤ (y *ℤ (sign_of side *ℤ sign_of_what what)) ≡ pos 0 → y ≡ pos 0
no_entry side (AttrOf attr) y h = by_sides side Over y h
no_entry side (MarkOf m) y h = by_sides side m.side y h
no_entry side (LevelOf level) y h = by_sides side Over y h

by_none : (y s : ℤ) → y ≡ pos 0 → neg_ℤ (y *ℤ s) ≡ pos 0
by_none y s e = ap (λ (z : ℤ). neg_ℤ (z *ℤ s)) e ∙ ap neg_ℤ (zero-mul_ℤ s)

pub thing_moves : (t : Lists) (m : Mark) (what : What) → IsKept t → IsOutside (problem_of t) (marks_at t) m → (standing_at t (line_slot t m.row)).side ≡ None
    → IsWritten (problem_of t) (marks_at t) what → entry t (what_slot t what) (line_slot t m.row) ≢ pos 0 → MovesWith (problem_of t) (marks_at t) m what
thing_moves t m what kept out none written some =
    moves_where (problem_of t) (marks_at t) m what (neg_ℤ (entry t (what_slot t what) (line_slot t m.row) *ℤ (sign_of m.side *ℤ sign_of_what what))) kept.corner kept.rays out
    (other_what t what m kept written out (not_of_line t what m.row none written)) (λ e. some (no_entry m.side what (entry t (what_slot t what) (line_slot t m.row)) e))

pub moves_entry : (t : Lists) (m : Mark) (what : What) → IsKept t → IsOutside (problem_of t) (marks_at t) m → (IsOfLine what m.row → ⊥) → MovesWith (problem_of t) (marks_at t) m what → entry t (what_slot t what) (line_slot t m.row) ≢ pos 0
moves_entry t m what kept out apart moves e =
    has_where (problem_of t) (marks_at t) m what (neg_ℤ (entry t (what_slot t what) (line_slot t m.row) *ℤ (sign_of m.side *ℤ sign_of_what what))) kept.corner
    (other_what t what m kept (moves.0, moves.1) out apart) moves (by_none (entry t (what_slot t what) (line_slot t m.row)) (sign_of m.side *ℤ sign_of_what what) e)

-- ---- in order

abbrev pub is_among : List ℕ → ℕ → Bool
is_among [] w = false
is_among (v ∷ ws) w = cond (nat_eq v w) true (is_among ws w)

among_has : (ws : List ℕ) (w : ℕ) → is_among ws w ≡ true → Contains ws w
among_has [] w e = absurd (not_both false e refl)
among_has (v ∷ ws) w e =
    elim (cases_eq v w) [
      | inl same ↦ (0, omega arith, same)
      | inr other ↦ further v ws w (among_has ws w (subst (λ (b : Bool). cond b true (is_among ws w) ≡ true) (ne_eqb v w other) e))
    ]

has_among : (ws : List ℕ) (w : ℕ) → Contains ws w → is_among ws w ≡ true
has_among [] w (k, within, is) = absurd (omega (arith, within))
has_among (v ∷ ws) w (zero, within, is) = ap (λ (b : Bool). cond b true (is_among ws w)) (eq-eqb v w is)
has_among (v ∷ ws) w (suc k, within, is) = here_or (nat_eq v w) (is_among ws w) (has_among ws w (k, omega (arith, within), is))

dropped_length : {X Y : Type 0} (f : X → Y) (n : ℕ) (xs : List X) (k : ℕ) → k < length (map f (drop n xs)) → n + k < length xs
dropped_length f zero [] k lt = absurd (omega (arith, lt))
dropped_length f zero (x ∷ xs) zero lt = omega arith
dropped_length f zero (x ∷ xs) (suc k) lt = let h = dropped_length f zero xs k (omega (arith, lt)) in omega (arith, h)
dropped_length f (suc n) [] k lt = absurd (omega (arith, lt))
dropped_length f (suc n) (x ∷ xs) k lt = let h = dropped_length f n xs k lt in omega (arith, h)

dropped_room : {X Y : Type 0} (f : X → Y) (n : ℕ) (xs : List X) (w : ℕ) → n ≤ w → w < length xs → w < n + length (map f (drop n xs))
dropped_room f zero [] w le lt = absurd (omega (arith, lt))
dropped_room f zero (x ∷ xs) zero le lt = omega arith
dropped_room f zero (x ∷ xs) (suc w) le lt = let h = dropped_room f zero xs w (omega arith) (omega (arith, lt)) in omega (arith, h)
dropped_room f (suc n) [] w le lt = absurd (omega (arith, lt))
dropped_room f (suc n) (x ∷ xs) zero le lt = absurd (omega (arith, le))
dropped_room f (suc n) (x ∷ xs) (suc w) le lt = let h = dropped_room f n xs w (omega (arith, le)) (omega (arith, lt)) in omega (arith, h)

dropped_at : {X Y : Type 0} (f : X → Y) (n : ℕ) (xs : List X) (k : ℕ) (d : Y) (e : X) → k < length (map f (drop n xs)) → slice_index_or (map f (drop n xs)) k d ≡ f (slice_index_or xs (n + k) e)
dropped_at f zero [] k d e lt = absurd (omega (arith, lt))
dropped_at f zero (x ∷ xs) zero d e lt = refl
dropped_at f zero (x ∷ xs) (suc k) d e lt =
    let more : suc (0 + k) ≡ 0 + suc k = omega arith in
    subst (λ n. slice_index_or (map f xs) k d ≡ f (slice_index_or (x ∷ xs) n e)) more (dropped_at f zero xs k d e (omega (arith, lt)))
dropped_at f (suc n) [] k d e lt = absurd (omega (arith, lt))
dropped_at f (suc n) (x ∷ xs) k d e lt =
    let more : suc (n + k) ≡ suc n + k = omega arith in
    subst (λ j. slice_index_or (map f (drop n xs)) k d ≡ f (slice_index_or (x ∷ xs) j e)) more (dropped_at f n xs k d e lt)

-- slots of something
abbrev AreOfSome : Lists → List ℕ → Type 0
AreOfSome t ws = (w : ℕ) → Contains ws w → (slot_at t w).owner ≡ LevelSlot → ⊥

owner_among : (t : Lists) (ws : List ℕ) (w : ℕ) (o : Owner) → (slot_at t w).owner ≡ o → IsOwned t w o → ((v : ℕ) → Contains ws v → IsSlot t v) → AreOfSome t ws → is_among ws (slot_of t o) ≡ is_among ws w
owner_among t ws w LevelSlot e h within some =
    none_false (is_among ws 0) (λ k. let s = within 0 (among_has ws 0 k) in absurd (omega (arith, s.0)))
    ∙ sym (none_false (is_among ws w) (λ k. some w (among_has ws w k) e))
owner_among t ws w (AttrSlot attr) e h within some = ap (is_among ws) h.1
owner_among t ws w (LineSlot name) e h within some = ap (is_among ws) h.1

slots_at : (t : Lists) (ws : List ℕ) → AreSlots t → ((v : ℕ) → Contains ws v → IsSlot t v) → AreOfSome t ws → AreAt (λ w. (slot_at t w).owner) (is_among ws) (λ o. is_among ws (slot_of t o)) (order_of t) LEVELS
slots_at t ws h of some = record {
  slot = λ k lt.
      let within = dropped_length (λ (s : Slot). s.owner) LEVELS t.slots k lt in
      owner_among t ws (LEVELS + k) (slot_at t (LEVELS + k)).owner refl (h.owners (LEVELS + k) (omega arith, within)) of some;
  at = λ k d lt. dropped_at (λ (s : Slot). s.owner) LEVELS t.slots k d _ lt;
}

pub slots_in_order : (t : Lists) (ws : List ℕ) → AreSlots t → AllPairs (λ v w. v < w) ws → ((w : ℕ) → Contains ws w → IsSlot t w) → AreOfSome t ws
    → map (λ w. (slot_at t w).owner) ws ≡ filter (λ o. is_among ws (slot_of t o)) (order_of t)
slots_in_order t ws h rising within some =
    in_slots (is_among ws) (λ w. (slot_at t w).owner) (λ o. is_among ws (slot_of t o)) (order_of t) LEVELS ws rising
    (λ w c. let s = within w c in (s.0, dropped_room (λ (s : Slot). s.owner) LEVELS t.slots w s.0 s.1)) (slots_at t ws h within some)
    (λ w le e. among_has ws w e) (λ w c. has_among ws w c)

pub maps_same : {X Y Z : Type 0} (f : X → Y) (g : Y → Z) (h : X → Z) (xs : List X) → ((x : X) → Contains xs x → g (f x) ≡ h x) → map g (map f xs) ≡ map h xs
maps_same f g h [] e = refl
maps_same f g h (x ∷ xs) e = ap₂ (λ u us. u ∷ us) (e x (0, omega arith, refl)) (maps_same f g h xs (λ y c. e y (further x xs y c)))

-- ---- all of them

pub moved_are : (t : Lists) (m : Mark) (ws : List ℕ) → IsKept t → IsOutside (problem_of t) (marks_at t) m → (standing_at t (line_slot t m.row)).side ≡ None
    → AreMoved t (line_slot t m.row) ws → All (λ w. w < length t.matrix) ws → AreMovers (seen_of t) m (map (thing t) ws)
moved_are t m ws kept out none moved within =
    let slot : (w : ℕ) → Contains ws w → IsSlot t w = λ w c. (((moved.exact w).0 c).0, subst (λ n. w < n) kept.slots.matrix (All-contains (λ v. v < length t.matrix) ws w within c)) in
    record {
      move = all_from (MovesWith (problem_of t) (marks_at t) m) (map (thing t) ws) (λ what c.
          let i = from_map (thing t) ws what c in
          let s = slot i.of i.has in
          let some = ((moved.exact i.of).0 i.has).1 in
          let is = thing_is t i.of (line_slot t m.row) (slot_at t i.of).owner kept s.0 refl (kept.slots.owners i.of s) some in
          subst (MovesWith (problem_of t) (marks_at t) m) i.is (thing_moves t m (thing t i.of) kept out none is.written (subst (λ w. entry t w (line_slot t m.row) ≢ pos 0) (sym is.slot) some)));
      all = λ what moves.
          let at = thing_at t what kept (moves.0, moves.1) in
          let some = moves_entry t m what kept out (not_of_line t what m.row none (moves.0, moves.1)) moves in
          subst (λ w. Contains (map (thing t) ws) w) at.1 (to_map (thing t) ws (what_slot t what) ((moved.exact (what_slot t what)).1 (at.0.0, some)));
      in_order = (
        λ o. is_among ws (slot_of t o),
        maps_same (thing t) owner_of (λ w. (slot_at t w).owner) ws (λ w c. same_owner (slot_at t w).owner (side_of (standing_at t w).side))
            ∙ slots_in_order t ws kept.slots moved.rising slot (λ w c. let k = (moved.exact w).0 c in not_free t w (line_slot t m.row) kept.stored k.0 k.1),
      );
    }

-- ---- where the mark's line is inside

other_inside : (t : Lists) (m : Mark) (s : Side) → IsKept t → IsOutside (problem_of t) (marks_at t) m → (standing_at t (line_slot t m.row)).side ≡ Some s → other_side m.side ≡ s
other_inside t m s kept out e =
    is_other m.side s (λ same. out.1 (stands_inside t m out.0 (subst (λ (o : Option Side). is_side o m.side ≡ true) (ap (λ (r : Side). Some r) same ∙ sym e) (side_itself m.side))))

pub none_some : (o : Option Side) (s : Side) → o ≡ None → o ≡ Some s → ⊥
none_some o s e f = no_side s o e (subst (λ (p : Option Side). is_side p s ≡ true) (sym f) (side_itself s))

only_one : (c w : ℕ) → Contains (c ∷ []) w → c ≡ w
only_one c w (zero, lt, e) = e
only_one c w (suc k, lt, e) = absurd (omega (arith, lt))

pub not_zero : (own : ℕ) → 0 < own → pos own ≢ pos 0
not_zero own above e = let h : own ≡ 0 = ap unsigned_abs e in omega (arith, h, above)

nothing_else : (t : Lists) (m : Mark) (s : Side) (what : What) → IsKept t → IsOutside (problem_of t) (marks_at t) m → (standing_at t (line_slot t m.row)).side ≡ Some s
    → (IsOfLine what m.row → ⊥) → line_slot t m.row ≢ what_slot t what → MovesWith (problem_of t) (marks_at t) m what → ⊥
nothing_else t m s what kept out e apart ne moves =
    let h = kept.outside (what_slot t what) (line_slot t m.row) (moves_entry t m what kept out apart moves) ne in
    none_some (standing_at t (line_slot t m.row)).side s h.1 e

pub only_other : (t : Lists) (m : Mark) (s : Side) (what : What) → IsKept t → IsOutside (problem_of t) (marks_at t) m → (standing_at t (line_slot t m.row)).side ≡ Some s
    → MovesWith (problem_of t) (marks_at t) m what → MarkOf (record { row = m.row; side = s }) ≡ what
only_other t m s (AttrOf attr) kept out e moves =
    absurd (nothing_else t m s (AttrOf attr) kept out e (λ h. h) (attr_apart t attr m.row kept.slots moves.1.0 (mark_named (problem_of t) m out.0)) moves)
only_other t m s (MarkOf j) kept out e moves =
    let named = mark_named (problem_of t) m out.0 in
    let there = mark_named (problem_of t) j (in_mark t j kept moves.1.0) in
    elim (cases_eq (line_slot t m.row) (line_slot t j.row)) [
      | inl same ↦
          let row : j.row ≡ m.row = lines_apart t j.row m.row kept.slots there named same in
          let side : (standing_at t (line_slot t j.row)).side ≡ Some j.side = is_some (standing_at t (line_slot t j.row)).side j.side (inside_stands t j moves.1.0) in
          let sides : s ≡ j.side = ap side_of (sym e ∙ ap (λ w. (standing_at t w).side) same ∙ side) in
          ap₂ (λ (r : RowName) (d : Side). MarkOf (record { row = r; side = d })) (sym row) sides
      | inr ne ↦ absurd (nothing_else t m s (MarkOf j) kept out e (λ row. ne (ap (line_slot t) (sym row))) ne moves)
    ]
only_other t m s (LevelOf level) kept out e moves = absurd moves.1

one_what : (a b : What) → Contains (a ∷ []) b → a ≡ b
one_what a b (zero, lt, e) = e
one_what a b (suc k, lt, e) = absurd (omega (arith, lt))

pub some_side : (o : Option Side) → has_side o ≡ true → (s : Side) × (o ≡ Some s)
some_side None e = absurd (not_both false e refl)
some_side (Some s) e = (s, refl)

pub turned_are : (t : Lists) (m : Mark) (s : Side) → IsKept t → IsOutside (problem_of t) (marks_at t) m → (standing_at t (line_slot t m.row)).side ≡ Some s
    → AreMovers (seen_of t) m (MarkOf (record { row = m.row; side = other_side m.side }) ∷ [])
turned_are t m s kept out e =
    let other = other_inside t m s kept out e in
    let named = mark_named (problem_of t) m out.0 in
    let k : Mark = record { row = m.row; side = s } in
    let stands : stands_in t k ≡ true = subst (λ (o : Option Side). is_side o s ≡ true) (sym e) (side_itself s) in
    let is = named_in (problem_of t) m.row s named in
    let i = stands_inside t k is stands in
    let row = inside_equation t k kept is stands in
    let moves : MovesWith (problem_of t) (marks_at t) m (MarkOf k) =
    moves_where (problem_of t) (marks_at t) m (MarkOf k) (entry t (line_slot t m.row) (line_slot t m.row)) kept.corner kept.rays out
    (own_what t (MarkOf k) m kept (place k, (i, refl)) out refl) (λ z. not_zero row.0 row.2.own_positive (sym row.1 ∙ z)) in
    subst (λ (d : Side). AreMovers (seen_of t) m (MarkOf (record { row = m.row; side = d }) ∷ [])) (sym other)
    (record {
      move = all_from (MovesWith (problem_of t) (marks_at t) m) (MarkOf k ∷ []) (λ what c. subst (MovesWith (problem_of t) (marks_at t) m) (one_what (MarkOf k) what c) moves);
      all = λ what h. (0, omega arith, only_other t m s what kept out e h);
      in_order = (
        λ o. is_among (line_slot t m.row ∷ []) (slot_of t o),
        ap (λ (o : Owner). o ∷ []) (sym (line_owner t m.row kept.slots named))
            ∙ slots_in_order t (line_slot t m.row ∷ []) kept.slots (λ i j d less lt. absurd (omega (arith, less, lt))) (λ w c. subst (λ n. IsSlot t n) (only_one (line_slot t m.row) w c) (named_slot t m.row kept.slots named))
            (λ w c e. free_line m.row (sym (line_owner t m.row kept.slots named) ∙ ap (λ n. (slot_at t n).owner) (only_one (line_slot t m.row) w c) ∙ e)),
      );
    })

-- ---- what each is

slot_same : (t : Lists) (what : What) → IsWritten (problem_of t) (marks_at t) what → what_slot t what ≡ slot_of t (owner_of what)
slot_same t (AttrOf attr) h = refl
slot_same t (MarkOf m) h = refl
slot_same t (LevelOf level) h = absurd h.1

pub one_owner : (t : Lists) (m : Mark) → IsKept t → (a b : What) → MovesWith (problem_of t) (marks_at t) m a → MovesWith (problem_of t) (marks_at t) m b → owner_of a ≡ owner_of b → a ≡ b
one_owner t m kept a b h k e =
    sym (thing_at t a kept (h.0, h.1)).1 ∙ ap (thing t) (slot_same t a (h.0, h.1) ∙ ap (slot_of t) e ∙ sym (slot_same t b (k.0, k.1))) ∙ (thing_at t b kept (k.0, k.1)).1

pub what_is : (t : Lists) (w c : ℕ) (o : Owner) (side : Side) (what : What) → IsKept t → LEVELS ≤ w → (slot_at t w).owner ≡ o → IsOwned t w o → entry t w c ≢ pos 0
    → ((attr : ℕ) → (slot_at t w).owner ≡ AttrSlot attr → what ≡ AttrOf attr)
    → ((name : RowName) → (slot_at t w).owner ≡ LineSlot name → what ≡ MarkOf (record { row = name; side = side }))
    → ((s : Side) → (standing_at t w).side ≡ Some s → side ≡ s) → what ≡ what_of o (side_of (standing_at t w).side)
what_is t w c LevelSlot side what kept high e h some of_attr of_line of_side = absurd (not_free t w c kept.stored high some e)
what_is t w c (AttrSlot attr) side what kept high e h some of_attr of_line of_side = of_attr attr e
what_is t w c (LineSlot name) side what kept high e h some of_attr of_line of_side =
    let m : Mark = record { row = name; side = side_of (standing_at t w).side } in
    let i : IsIn (place m) (marks_at t) = (thing_is t w c (LineSlot name) kept high e h some).written.1.0 in
    let s : (standing_at t (line_slot t name)).side ≡ Some m.side = is_some (standing_at t (line_slot t name)).side m.side (inside_stands t m i) in
    of_line name e ∙ ap (λ (d : Side). MarkOf (record { row = name; side = d })) (of_side m.side (ap (λ n. (standing_at t n).side) (sym h.1) ∙ s))

-- ---- one of them

pub nth_is : (t : Lists) (m : Mark) (ws : List ℕ) (whats : List What) (i d : ℕ) (what : What) → IsKept t → IsOutside (problem_of t) (marks_at t) m → (standing_at t (line_slot t m.row)).side ≡ None
    → AreMoved t (line_slot t m.row) ws → All (λ w. w < length t.matrix) ws → AreMovers (seen_of t) m whats → i < length ws → what ≡ thing t (slice_index_or ws i d) → slice_get whats i ≡ Some what
nth_is t m ws whats i d what kept out none moved within are lt e =
    ap (λ us. slice_get us i) (one_list (seen_of t) m whats (map (thing t) ws) (one_owner t m kept) are (moved_are t m ws kept out none moved within))
    ∙ get_mapped (thing t) ws i d lt ∙ ap (λ (w : What). Some w) (sym e)

pub count_is : (t : Lists) (m : Mark) (ws : List ℕ) (whats : List What) (i : ℕ) → IsKept t → IsOutside (problem_of t) (marks_at t) m → (standing_at t (line_slot t m.row)).side ≡ None
    → AreMoved t (line_slot t m.row) ws → All (λ w. w < length t.matrix) ws → AreMovers (seen_of t) m whats → i < length whats → i < length ws
count_is t m ws whats i kept out none moved within are lt =
    subst (λ n. i < n) (ap length (one_list (seen_of t) m whats (map (thing t) ws) (one_owner t m kept) are (moved_are t m ws kept out none moved within)) ∙ map_length (thing t) ws) lt

pub first_of : (t : Lists) (m : Mark) (s : Side) (whats us : List What) (i : ℕ) → IsKept t → IsOutside (problem_of t) (marks_at t) m → (standing_at t (line_slot t m.row)).side ≡ Some s
    → AreMovers (seen_of t) m us → i < length us → AreMovers (seen_of t) m whats → slice_get whats i ≡ Some (MarkOf (record { row = m.row; side = other_side m.side }))
first_of t m s whats us i kept out e there lt are =
    let one = turned_are t m s kept out e in
    let same : us ≡ MarkOf (record { row = m.row; side = other_side m.side }) ∷ [] = one_list (seen_of t) m us (MarkOf (record { row = m.row; side = other_side m.side }) ∷ []) (one_owner t m kept) there one in
    let small : i < 1 = subst (λ (ws : List What). i < length ws) same lt in
    let zero_is : i ≡ 0 = omega (arith, small) in
    ap (λ ws. slice_get ws i) (one_list (seen_of t) m whats (MarkOf (record { row = m.row; side = other_side m.side }) ∷ []) (one_owner t m kept) are one)
    ∙ ap (λ n. slice_get (MarkOf (record { row = m.row; side = other_side m.side }) ∷ []) n) zero_is

-- ---- of a corner

pub seen_moves : (t : Table) (listed : List ℕ) (m : Mark) (whats : List What) → AreMovers (seen_of (lists_of t)) m whats → AreMovers (view_of t listed) m whats
seen_moves t listed m whats h = record { move = h.move; all = h.all; in_order = h.in_order }

pub moves_seen : (t : Table) (listed : List ℕ) (m : Mark) (whats : List What) → AreMovers (view_of t listed) m whats → AreMovers (seen_of (lists_of t)) m whats
moves_seen t listed m whats h = record { move = h.move; all = h.all; in_order = h.in_order }

-- an element is below what all are below
pub below_all : (ws : List ℕ) (i n : ℕ) → All (λ w. w < n) ws → i < length ws → slice_index_or ws i 0 < n
below_all ws i n h lt = h i 0 lt

pub has_at : (ws : List ℕ) (i : ℕ) → i < length ws → Contains ws (slice_index_or ws i 0)
has_at [] i lt = absurd (omega (arith, lt))
has_at (w ∷ ws) zero lt = (0, omega arith, refl)
has_at (w ∷ ws) (suc i) lt = further w ws (slice_index_or ws i 0) (has_at ws i (omega (arith, lt)))

-- the slot's place in the rows is that of something that moves
pub nth_thing : (t : Lists) (m : Mark) (ws : List ℕ) (i : ℕ) (side : Side) (what : What) → IsKept t → AreMoved t (line_slot t m.row) ws → All (λ w. w < length t.matrix) ws → i < length ws
    → ((attr : ℕ) → (slot_at t (slice_index_or ws i 0)).owner ≡ AttrSlot attr → what ≡ AttrOf attr)
    → ((name : RowName) → (slot_at t (slice_index_or ws i 0)).owner ≡ LineSlot name → what ≡ MarkOf (record { row = name; side = side }))
    → ((s : Side) → (standing_at t (slice_index_or ws i 0)).side ≡ Some s → side ≡ s) → what ≡ thing t (slice_index_or ws i 0)
nth_thing t m ws i side what kept moved within lt of_attr of_line of_side =
    let h = (moved.exact (slice_index_or ws i 0)).0 (has_at ws i lt) in
    what_is t (slice_index_or ws i 0) (line_slot t m.row) (slot_at t (slice_index_or ws i 0)).owner side what kept h.0 refl
    (kept.slots.owners (slice_index_or ws i 0) (h.0, subst (λ n. slice_index_or ws i 0 < n) kept.slots.matrix (below_all ws i (length t.matrix) within lt))) h.1 of_attr of_line of_side
