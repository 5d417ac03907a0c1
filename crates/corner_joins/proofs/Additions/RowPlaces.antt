-- The slots and marks of the lists where a row has been pushed.
use Rattle.std.proofs.Common.{◌≡◌, ◌≢◌, ◌∙◌, ◌⊎◌, ℕ, zero, suc, ◌+◌, ◌<◌, ◌≤◌, ◌++◌, Bool, true, false, cond, List, [], ◌∷◌, map, filter, length, refl, sym, ap, subst, arith, inl, inr, pos, slice_index_or, All, Any, Some, None}
use Rattle.std.specs.List.{AllByRecursion as Each}
use Rattle.std.proofs.lemmas.List.{get_or_push, length_push}
use Rattle.std.proofs.lemmas.List.Elements.{All-push, All-from_recursion, recursion_from_All}
use Rattle.std.proofs.Math.ListN.{get_or-append}
use Rattle.row_core.specs.Rows.{Term}
use Rattle.problem_core.specs.Window.{zero_fraction}
use Rattle.problem_core.specs.declared.parts.Rel.TheVariants.{Eq}
use Rattle.problem_core.specs.declared.parts.Mark.{Mark}
use Rattle.problem_core.specs.declared.parts.Side.{Side}
use Rattle.problem_core.specs.declared.parts.Side.TheVariants.{Under, Over}
use Rattle.problem_core.specs.declared.parts.RowName.{RowName}
use Rattle.problem_core.specs.declared.parts.RowName.TheVariants.{Held, Stay as StayOf}
use Rattle.problem_core.specs.Layout.{HasStay, Line, Problem, Row, line_of_row, lines, stay_lines}
use Rattle.problem_core.specs.Kept.{IsRow, IsWhole}
use Rattle.problem_core.specs.Corners.{IsIn, SameMarks, marks_of, place, place_of}
use Rattle.corner_laws.proofs.MarkWritings.Lifts.{each_drop, each_put}
use Rattle.corner_lines.specs.Joins.{with_row}
use Rattle.corner_lines.proofs.ProblemChanges.JoinedRows.{fresh-names, new-in, old-in}
use Rattle.corner_view.specs.declared.types.Owner.{Owner}
use Rattle.corner_view.specs.declared.types.Owner.TheVariants.{Level as LevelSlot, Attr as AttrSlot, Line as LineSlot}
use Rattle.corner_table.specs.declared.table.Slot.{Slot}
use Rattle.corner_table.specs.declared.table.Standing.{Standing}
use Rattle.corner_table.specs.declared.table.TheConstants.{LEVELS}
use Rattle.corner_view.specs.Seen.{IsNamed}
use Rattle.corner_table.specs.Tables.{Lists, attr_slot, is_side, line_slot, marks_at, problem_of, row_at, slot_at, standing_at, stands_in, stay_rank}
use Rattle.corner_table.specs.Kept.{AreSlots, IsAttrSlot, IsLineSlot, IsOwned}
use Rattle.corner_joins.specs.Additions.Parts.{IsPartlyKept}
use Rattle.version_lists.specs.Numbers.{IsNumbered}
use Rattle.corner_table.specs.Joining.{slot_of_row}
use Rattle.corner_joins.specs.Additions.RowSums.{with_pushed}
use Rattle.corner_joins.proofs.Attributes.AttrJoins.{home_same}
use Rattle.corner_table.proofs.Basics.SmallFacts.{own_name, own_stay}
use Rattle.corner_table.proofs.Readings.MarkFacts.{stands_inside}
use Rattle.corner_table.proofs.Corners.NewTables.{less_or}
use Rattle.corner_table.proofs.Corners.SlotRanks.{last_pushed, ranks_pushed}
use Rattle.corner_table.proofs.Readings.SlotFacts.{any_is, named_slot}
use Rattle.corner_table.proofs.Basics.OwnerFacts.{stay_named}
use Rattle.corner_view.proofs.Facts.{named_in as mark_of_line}
use Rattle.corner_table.proofs.Readings.ReadFacts.{same_is as one_side}
use Rattle.corner_writings.proofs.Basics.SmallFacts.{self_side}

-- a new row's slot is the next one
pub record IsNext (t : Lists) (r : Row) (a : List ℕ) : Type 0 where
  pub slots : AreSlots t
  pub whole : IsWhole (with_row r (problem_of t))
  pub numbers : IsNumbered r.id (length t.slots) t.row_slots a

-- what a row starts from that is pushed
pub record IsPush (t : Lists) (r : Row) (a : List ℕ) : Type 0 where
  pub kept : IsPartlyKept t
  pub whole : IsWhole (with_row r (problem_of t))
  pub numbers : IsNumbered r.id (length t.slots) t.row_slots a

pub next : (t : Lists) (r : Row) (a : List ℕ) → IsPush t r a → IsNext t r a
next t r a j = record { slots = j.kept.slots; whole = j.whole; numbers = j.numbers }

-- ---- lists of lines

pub last_of : {X : Type 0} (P : X → Type 0) (xs : List X) (y : X) → All P (xs ++ (y ∷ [])) → P y
last_of P xs y h = subst P (get_or_push xs y y (length xs) refl) (h (length xs) y (omega (arith, length_push xs y)))

pub row_is : (p : Problem) (r : Row) → IsWhole (with_row r p) → IsRow r
row_is p r whole = last_of IsRow p.rows r whole.rows

-- what holds of each line before and of the new one holds of all
pub put_line : (P : Line → Type 0) (p : Problem) (r : Row) → All P (lines p) → P (line_of_row r) → All P (lines (with_row r p))
put_line P p r h here = All-from_recursion P (lines (with_row r p)) (each_put P p.rows r (stay_lines 1001 p.stays) (recursion_from_All P (lines p) h) here)

pub each_old : (P : Line → Type 0) (p : Problem) (r : Row) → All P (lines (with_row r p)) → All P (lines p)
each_old P p r h = All-from_recursion P (lines p) (each_drop P p.rows r (stay_lines 1001 p.stays) (recursion_from_All P (lines (with_row r p)) h)).0

pub each_new : (P : Line → Type 0) (p : Problem) (r : Row) → All P (lines (with_row r p)) → P (line_of_row r)
each_new P p r h = (each_drop P p.rows r (stay_lines 1001 p.stays) (recursion_from_All P (lines (with_row r p)) h)).1

any_put : (P : Line → Type 0) (rows : List Row) (r : Row) (ls : List Line) → Any P (map line_of_row rows ++ ls) → Any P (map line_of_row (rows ++ (r ∷ [])) ++ ls)
any_put P [] r ls (k, x, lt, e, h) = (suc k, x, omega (arith, lt), e, h)
any_put P (s ∷ rows) r ls (zero, x, lt, e, h) = (0, x, omega arith, e, h)
any_put P (s ∷ rows) r ls (suc k, x, lt, e, h) = let i = any_put P rows r ls (k, x, omega (arith, lt), e, h) in (suc i.0, i.1, omega (arith, i.2), i.3, i.4)

any_here : (P : Line → Type 0) (rows : List Row) (r : Row) (ls : List Line) → P (line_of_row r) → Any P (map line_of_row (rows ++ (r ∷ [])) ++ ls)
any_here P [] r ls h = (0, line_of_row r, omega arith, refl, h)
any_here P (s ∷ rows) r ls h = let i = any_here P rows r ls h in (suc i.0, i.1, omega (arith, i.2), i.3, i.4)

pub named_more : (p : Problem) (r : Row) (name : RowName) → IsNamed p name → IsNamed (with_row r p) name
named_more p r name h = any_put (λ l. l.name ≡ name) p.rows r (stay_lines 1001 p.stays) h

pub named_new : (p : Problem) (r : Row) → IsNamed (with_row r p) (Held r.id)
named_new p r = any_here (λ l. l.name ≡ Held r.id) p.rows r (stay_lines 1001 p.stays) refl

-- a line before has another name
pub other_name : (p : Problem) (r : Row) (name : RowName) → IsWhole (with_row r p) → IsNamed p name → name ≢ Held r.id
other_name p r name whole named e =
    any_is (λ l. l.name ≢ Held r.id) (λ l. l.name ≡ name) (lines p) (All-from_recursion (λ l. l.name ≢ Held r.id) (lines p) (fresh-names p r whole)) named (λ l ne same. ne (same ∙ e))

-- ---- by slot

pub old_slot : (t : Lists) (r : Row) (v : Standing) (o : List Term) (a : List ℕ) (w : ℕ) → w < length t.slots → slot_at (with_pushed r v o a t) w ≡ slot_at t w
old_slot t r v o a w lt = get_or-append t.slots (slot_of_row r ∷ []) (record { owner = LevelSlot; home = 0; rank = 0; weight = pos 1; scale = pos 1; rel = Eq }) w lt

pub row_place : (t : Lists) (r : Row) (v : Standing) (o : List Term) (a : List ℕ) → slot_at (with_pushed r v o a t) (length t.slots) ≡ slot_of_row r
row_place t r v o a = get_or_push t.slots (slot_of_row r) (record { owner = LevelSlot; home = 0; rank = 0; weight = pos 1; scale = pos 1; rel = Eq }) (length t.slots) refl

pub old_standing : (t : Lists) (r : Row) (v : Standing) (o : List Term) (a : List ℕ) (w : ℕ) → AreSlots t → w < length t.slots → standing_at (with_pushed r v o a t) w ≡ standing_at t w
old_standing t r v o a w s lt =
    let within : w < length t.standings = omega (arith, lt, s.standings) in
    get_or-append t.standings (v ∷ []) (record { side = None; value = zero_fraction }) w within

pub row_standing : (t : Lists) (r : Row) (v : Standing) (o : List Term) (a : List ℕ) → AreSlots t → standing_at (with_pushed r v o a t) (length t.slots) ≡ v
row_standing t r v o a s = get_or_push t.standings v (record { side = None; value = zero_fraction }) (length t.slots) s.standings

pub old_row : (t : Lists) (r : Row) (v : Standing) (o : List Term) (a : List ℕ) (w : ℕ) → AreSlots t → w < length t.slots → row_at (with_pushed r v o a t) w ≡ row_at t w
old_row t r v o a w s lt =
    let within : w < length t.matrix = omega (arith, lt, s.matrix) in
    get_or-append t.matrix (o ∷ []) [] w within

pub row_own : (t : Lists) (r : Row) (v : Standing) (o : List Term) (a : List ℕ) → AreSlots t → row_at (with_pushed r v o a t) (length t.slots) ≡ o
row_own t r v o a s = get_or_push t.matrix o [] (length t.slots) s.matrix

-- ---- by name

pub named_by : (t : Lists) (r : Row) (v : Standing) (o : List Term) (a : List ℕ) (name : RowName) → IsNext t r a → IsNamed (problem_of t) name → line_slot (with_pushed r v o a t) name ≡ line_slot t name
named_by t r v o a (Held id) j named = j.numbers.others id (λ e. other_name (problem_of t) r (Held id) j.whole named (ap (λ (n : ℕ). Held n) e))
named_by t r v o a (StayOf b) j named = refl

pub row_here : (t : Lists) (r : Row) (v : Standing) (o : List Term) (a : List ℕ) → IsNext t r a → line_slot (with_pushed r v o a t) (Held r.id) ≡ length t.slots
row_here t r v o a j = j.numbers.here

-- ---- the slots stay sound

line_slot_kept : (t : Lists) (r : Row) (v : Standing) (o : List Term) (a : List ℕ) (l : Line) → IsNext t r a → IsNamed (problem_of t) l.name → IsLineSlot t l → IsLineSlot (with_pushed r v o a t) l
line_slot_kept t r v o a l j named s =
    let same = named_by t r v o a l.name j named in
    let slot : slot_at (with_pushed r v o a t) (line_slot (with_pushed r v o a t) l.name) ≡ slot_at t (line_slot t l.name) = ap (slot_at (with_pushed r v o a t)) same ∙ old_slot t r v o a (line_slot t l.name) s.slot.1 in
    let n = length_push t.slots (slot_of_row r) in
    record {
      slot = (subst (λ (w : ℕ). LEVELS ≤ w) (sym same) s.slot.0, omega (arith, same, s.slot.1, n));
      owner = ap (λ (x : Slot). x.owner) slot ∙ s.owner;
      home = ap (λ (x : Slot). x.home) slot ∙ s.home ∙ sym (home_same t (with_pushed r v o a t) l l.name same);
      weight = ap (λ (x : Slot). x.weight) slot ∙ s.weight;
      scale = ap (λ (x : Slot). x.scale) slot ∙ s.scale;
      rel = ap (λ (x : Slot). x.rel) slot ∙ s.rel;
    }

new_line_slot : (t : Lists) (r : Row) (v : Standing) (o : List Term) (a : List ℕ) → IsNext t r a → IsLineSlot (with_pushed r v o a t) (line_of_row r)
new_line_slot t r v o a j =
    let here = row_here t r v o a j in
    let slot : slot_at (with_pushed r v o a t) (line_slot (with_pushed r v o a t) (Held r.id)) ≡ slot_of_row r = ap (slot_at (with_pushed r v o a t)) here ∙ row_place t r v o a in
    let n = length_push t.slots (slot_of_row r) in
    record {
      slot = (subst (λ (w : ℕ). LEVELS ≤ w) (sym here) j.slots.levels, omega (arith, here, n));
      owner = ap (λ (x : Slot). x.owner) slot;
      home = ap (λ (x : Slot). x.home) slot;
      weight = ap (λ (x : Slot). x.weight) slot;
      scale = ap (λ (x : Slot). x.scale) slot;
      rel = ap (λ (x : Slot). x.rel) slot;
    }

-- the stays' levels have the ranks that they had
rank_kept : (t : Lists) (r : Row) (v : Standing) (o : List Term) (a : List ℕ) (b : ℕ) → IsNext t r a → HasStay t.stays b → stay_rank (with_pushed r v o a t) b ≡ stay_rank t b
rank_kept t r v o a b j has = ap (λ (x : Slot). x.rank) (old_slot t r v o a (attr_slot t b + 1) (named_slot t (StayOf b) j.slots (stay_named (problem_of t) b has)).1)

attr_slot_kept : (t : Lists) (r : Row) (v : Standing) (o : List Term) (a : List ℕ) (b : ℕ) → IsAttrSlot t b → IsAttrSlot (with_pushed r v o a t) b
attr_slot_kept t r v o a b s =
    let n = length_push t.slots (slot_of_row r) in
    record {
      slot = (s.slot.0, omega (arith, s.slot.1, n));
      owner = ap (λ (x : Slot). x.owner) (old_slot t r v o a (attr_slot t b) s.slot.1) ∙ s.owner;
    }

owned_kept : (t : Lists) (r : Row) (v : Standing) (o : List Term) (a : List ℕ) (w : ℕ) (w' : Owner) → IsNext t r a → IsOwned t w w' → IsOwned (with_pushed r v o a t) w w'
owned_kept t r v o a w LevelSlot j h = h
owned_kept t r v o a w (AttrSlot b) j h = h
owned_kept t r v o a w (LineSlot name) j h = (named_more (problem_of t) r name h.0, named_by t r v o a name j h.0 ∙ h.1)

owned_at : (t : Lists) (r : Row) (v : Standing) (o : List Term) (a : List ℕ) (w : ℕ) → IsNext t r a → LEVELS ≤ w → (w < length t.slots) ⊎ (w ≡ length t.slots) → IsOwned (with_pushed r v o a t) w (slot_at (with_pushed r v o a t) w).owner
owned_at t r v o a w j above (inl lt) =
    subst (IsOwned (with_pushed r v o a t) w) (ap (λ (x : Slot). x.owner) (sym (old_slot t r v o a w lt))) (owned_kept t r v o a w (slot_at t w).owner j (j.slots.owners w (above, lt)))
owned_at t r v o a w j above (inr e) =
    subst (IsOwned (with_pushed r v o a t) w) (ap (λ (x : Slot). x.owner) (sym (ap (slot_at (with_pushed r v o a t)) e ∙ row_place t r v o a))) (named_new (problem_of t) r, row_here t r v o a j ∙ sym e)

pub slots_pushed : (t : Lists) (r : Row) (v : Standing) (o : List Term) (a : List ℕ) → IsNext t r a → AreSlots (with_pushed r v o a t)
slots_pushed t r v o a j =
    let s = j.slots in
    let n = length_push t.slots (slot_of_row r) in
    let standings = length_push t.standings v in
    let matrix = length_push t.matrix o in
    record {
      standings = omega (arith, n, standings, s.standings);
      matrix = omega (arith, n, matrix, s.matrix);
      levels = omega (arith, n, s.levels);
      room = s.room;
      priorities = s.priorities;
      attrs = λ k x lt. attr_slot_kept t r v o a (slice_index_or t.stays k x).attr (s.attrs k x lt);
      lines = put_line (IsLineSlot (with_pushed r v o a t)) (problem_of t) r
          (λ k x lt. line_slot_kept t r v o a (slice_index_or (lines (problem_of t)) k x) j (own_name (lines (problem_of t)) k x lt) (s.lines k x lt)) (new_line_slot t r v o a j);
      owners = λ w h. owned_at t r v o a w j h.0 (less_or (length t.slots) w (omega (arith, n, h.1)));
      level_owners = λ w lt. ap (λ (x : Slot). x.owner) (old_slot t r v o a w (omega (arith, lt, s.levels))) ∙ s.level_owners w lt;
      level_homes = λ w lt. ap (λ (x : Slot). x.home) (old_slot t r v o a w (omega (arith, lt, s.levels))) ∙ s.level_homes w lt;
      level_ranks = λ w lt. ap (λ (x : Slot). x.rank) (old_slot t r v o a w (omega (arith, lt, s.levels))) ∙ s.level_ranks w lt;
      stay_ranks = λ k x lt.
          let one = rank_kept t r v o a (slice_index_or t.stays k x).attr j (own_stay t.stays k x lt) in
          let is = s.stay_ranks k x lt in
          omega (arith, one, is);
      stays_rise = λ i k x lt within.
          let one = rank_kept t r v o a (slice_index_or t.stays i x).attr j (own_stay t.stays i x (omega (arith, lt, within))) in
          let two = rank_kept t r v o a (slice_index_or t.stays k x).attr j (own_stay t.stays k x within) in
          let less = s.stays_rise i k x lt within in
          omega (arith, one, two, less);
      ranks = ranks_pushed t.slots (slot_of_row r) s.ranks (omega arith);
      own_last = last_pushed t.slots (slot_of_row r) s.ranks s.own_last (λ (none : ⊥). absurd none);
    }

-- ---- marks

-- what holds of each mark that passes
passed : (P : Mark → Type 0) (f : Mark → Bool) (m : Mark) (ms : List Mark) (b : Bool) → f m ≡ b → (f m ≡ true → P m) → Each P (filter f ms) → Each P (cond b (m ∷ filter f ms) (filter f ms))
passed P f m ms true e h rest = (h e, rest)
passed P f m ms false e h rest = rest

each_filter : (P : Mark → Type 0) (f : Mark → Bool) (ls : List Line) → Each (λ l. (side : Side) → f (record { row = l.name; side = side }) ≡ true → P (record { row = l.name; side = side })) ls → Each P (filter f (marks_of ls))
each_filter P f [] h = tt
each_filter P f (l ∷ ls) h =
    passed P f (record { row = l.name; side = Under }) (record { row = l.name; side = Over } ∷ marks_of ls) (f (record { row = l.name; side = Under })) refl (h.0 Under)
    (passed P f (record { row = l.name; side = Over }) (marks_of ls) (f (record { row = l.name; side = Over })) refl (h.0 Over) (each_filter P f ls h.1))

pub all_marks : (P : Mark → Type 0) (t : Lists) → All (λ l. (side : Side) → stands_in t (record { row = l.name; side = side }) ≡ true → P (record { row = l.name; side = side })) (lines (problem_of t)) → All P (marks_at t)
all_marks P t h = All-from_recursion P (marks_at t) (each_filter P (stands_in t) (lines (problem_of t)) (recursion_from_All _ (lines (problem_of t)) h))

pub stand_same : (t : Lists) (r : Row) (v : Standing) (o : List Term) (a : List ℕ) (name : RowName) (side : Side) → IsNext t r a → IsNamed (problem_of t) name → stands_in (with_pushed r v o a t) (record { row = name; side = side }) ≡ stands_in t (record { row = name; side = side })
stand_same t r v o a name side j named =
    let s = named_slot t name j.slots named in
    ap (λ (x : Standing). is_side x.side side) (ap (standing_at (with_pushed r v o a t)) (named_by t r v o a name j named) ∙ old_standing t r v o a (line_slot t name) j.slots s.1)

pub row_stands : (t : Lists) (r : Row) (v : Standing) (o : List Term) (a : List ℕ) (side : Side) → IsNext t r a → stands_in (with_pushed r v o a t) (record { row = Held r.id; side = side }) ≡ is_side v.side side
row_stands t r v o a side j = ap (λ (x : Standing). is_side x.side side) (ap (standing_at (with_pushed r v o a t)) (row_here t r v o a j) ∙ row_standing t r v o a j.slots)

-- the marks before with the row's mark of this side
pub marks_pushed : (t : Lists) (r : Row) (v : Standing) (o : List Term) (a : List ℕ) (s : Side) → IsNext t r a → v.side ≡ Some s → SameMarks (marks_at t ++ (record { row = Held r.id; side = s } ∷ [])) (marks_at (with_pushed r v o a t))
marks_pushed t r v o a s j side =
    let p : Problem = problem_of t in
    let mark : Mark = record { row = Held r.id; side = s } in
    let stands : stands_in (with_pushed r v o a t) mark ≡ true = row_stands t r v o a s j ∙ ap (λ x. is_side x s) side ∙ self_side s in (
      All-push (λ m. IsIn (place m) (marks_at (with_pushed r v o a t))) (marks_at t) mark
          (all_marks (λ m. IsIn (place m) (marks_at (with_pushed r v o a t))) t (λ k x lt c h.
          let name : RowName = (slice_index_or (lines p) k x).name in
          let named : IsNamed p name = own_name (lines p) k x lt in
          stands_inside (with_pushed r v o a t) (record { row = name; side = c }) (mark_of_line (with_row r p) name c (named_more p r name named)) (stand_same t r v o a name c j named ∙ h)))
          (stands_inside (with_pushed r v o a t) mark (mark_of_line (with_row r p) (Held r.id) s (named_new p r)) stands),
      all_marks (λ m. IsIn (place m) (marks_at t ++ (mark ∷ []))) (with_pushed r v o a t)
          (put_line (λ l. (c : Side) → stands_in (with_pushed r v o a t) (record { row = l.name; side = c }) ≡ true → IsIn (place_of l.name c) (marks_at t ++ (mark ∷ []))) p r
          (λ k x lt c h.
          let name : RowName = (slice_index_or (lines p) k x).name in
          let named : IsNamed p name = own_name (lines p) k x lt in
          old-in (marks_at t) mark (place_of name c) (stands_inside t (record { row = name; side = c }) (mark_of_line p name c named) (sym (stand_same t r v o a name c j named) ∙ h)))
          (λ c h. subst (λ (d : Side). IsIn (place_of (Held r.id) d) (marks_at t ++ (mark ∷ []))) (one_side s c (sym (ap (λ x. is_side x c) side) ∙ sym (row_stands t r v o a c j) ∙ h)) (new-in (marks_at t) mark))),
    )
