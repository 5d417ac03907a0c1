-- What the lists keep where a row is taken out.
use Rattle.std.proofs.Common.{◌≡◌, ◌≢◌, ◌∙◌, ◌⊎◌, ℕ, zero, suc, ◌-◌, ◌*◌, ◌<◌, ◌≤◌, ◌++◌, Bool, true, false, cond, nat_eq, List, [], ◌∷◌, map, length, length-set, slice_set, refl, sym, ap, ap₂, subst, arith, inl, inr, ℤ, pos, ◌*ℤ◌, ◌+ℤ◌, ◌-ℤ◌, neg_ℤ, ne_eqb, slice_index_or, All, AllPairs, Any, Some, None}
use Rattle.std.specs.declared.option.Option.{Option}
use Rattle.std.specs.List.{AllByRecursion as Each, filter}
use Rattle.std.proofs.lemmas.Bool.{cases_eq, cases_lt}
use Rattle.std.proofs.lemmas.Grind.{get_or-set_at}
use Rattle.std.proofs.lemmas.List.{get_or_default, get_or-set_other}
use Rattle.std.proofs.lemmas.List.Elements.{All-set, All-from_recursion, recursion_from_All}
use Rattle.frac_core.specs.Fraction.{IsFitting}
use Rattle.frac_core.specs.Fraction as fractions
use Rattle.row_core.specs.Rows.{Term, coefficient, IsKeptRow}
use Rattle.version_lists.proofs.Indexing.{none_kept}
use Rattle.problem_core.specs.declared.parts.Mark.{Mark}
use Rattle.problem_core.specs.declared.parts.RowName.{RowName}
use Rattle.problem_core.specs.declared.parts.RowName.TheVariants.{Held, Stay as StayOf}
use Rattle.problem_core.specs.declared.parts.Side.{Side}
use Rattle.problem_core.specs.declared.parts.Side.TheVariants.{Under, Over}
use Rattle.problem_core.specs.declared.parts.Stay.{Stay}
use Rattle.problem_core.specs.Changes.Begins.{is_one_of, without_marks}
use Rattle.problem_core.specs.Certificates.{weight_at}
use Rattle.problem_core.specs.Layout.{HasStay, Line, Problem, Row, line_of_row, lines, stay_lines}
use Rattle.problem_core.specs.Corners.{IsCorner, IsIn, attr_column, marks_of, place_of}
use Rattle.problem_core.specs.Levels.{IsCostAt}
use Rattle.problem_core.specs.Rays.{HasRays}
use Rattle.problem_core.proofs.Forms.{each-impl}
use Rattle.corner_laws.specs.Units.{IsLevelRow, over_share, under_share}
use Rattle.corner_lines.specs.Levels.LevelJoins.{level_count}
use Rattle.corner_lines.specs.LineEquations.{IsLineEquation, IsOutsideLine, deviation, sign_of}
use Rattle.corner_lines.proofs.ProblemChanges.Dropped.{attr_without, deviation_without, left_corner, left_line, left_rays, row-on, row-off, filter-on, filter-off, other_row, left-far as left_far}
use Rattle.corner_leaving.specs.declared.leaving.Leaver.{Leaver}
use Rattle.corner_leaving.specs.declared.leaving.Left.{Left}
use Rattle.corner_view.specs.declared.types.Owner.{Owner}
use Rattle.corner_view.specs.declared.types.Owner.TheVariants.{Level as LevelSlot, Attr as AttrSlot, Line as LineSlot}
use Rattle.corner_table.specs.declared.table.Priority.{Priority}
use Rattle.corner_table.specs.declared.table.Slot.{Slot}
use Rattle.corner_table.specs.declared.table.Standing.{Standing}
use Rattle.corner_table.specs.declared.table.TheConstants.{LEVELS, MOST_SLOTS}
use Rattle.corner_table.specs.Tables.{no_slot, no_standing}
use Rattle.corner_leaving.specs.Dropping.{dropped}
use Rattle.corner_table.specs.Kept.{IsOutsideSlot}
use Rattle.corner_writings.specs.Rows.{row_number}
use Rattle.corner_table.specs.Kept.{AreOutside, AreSlots, AreStored, HasStayRoom, IsAttrRow, IsAttrSlot, IsEquationAt, IsKept, IsLevelKept, IsLineRow, IsLineSlot, IsOwned, IsSlot, home_of, row_count}
use Rattle.corner_leaving.specs.Leaving.{IsLeaver, IsLevelLeft, marks_left, problem_left}
use Rattle.corner_table.specs.Tables.{Lists, attr_slot, entry, is_side, line_slot, marks_at, number, priority_at, problem_of, row_at, slot_at, standing_at, stands_in, stay_rank}
use Rattle.corner_view.specs.Seen.{IsNamed}
use Rattle.corner_table.proofs.Basics.SmallFacts.{own_name, own_stay}
use Rattle.corner_table.proofs.Basics.OwnerFacts.{stay_named}
use Rattle.problem_core.proofs.RowNames.{held-not-stay}
use Rattle.corner_leaving.proofs.Removals.DroppedLevels.{CountsNothing, other_cost, other_row_is, other_unit}
use Rattle.corner_leaving.proofs.Removals.LeftLists.{all_left, left_whole_problem, outside_back}
use Rattle.corner_table.proofs.Readings.MarkFacts.{stands_inside}
use Rattle.corner_writings.proofs.Readings.MovedFacts.{none_some}
use Rattle.corner_exchange.proofs.Pivots.PairFacts.{named_mark, side-stands}
use Rattle.corner_table.proofs.Corners.SlotRanks.{last_left, ranks_left}
use Rattle.corner_table.proofs.Readings.SlotFacts.{any_impl, any_is, named_slot}
use Rattle.corner_table.proofs.Readings.WritingFacts.{attr_apart, lines_apart}
use Rattle.frac_core.proofs.Numbers.{zero-or-not as decide_zero}
use Rattle.problem_core.proofs.Sides.{zero-kept as zero_kept}

-- ---- the row that goes

pub record IsGoing (t : Lists) (leaver : Leaver) : Type 0 where
  pub kept : IsKept t
  pub held : Any (λ (s : Row). s.id ≡ leaver.id) t.rows
  pub ranks : Each (λ (s : Row). s.id ≡ leaver.id → 1000 - s.rank ≡ leaver.level) t.rows
  pub named : IsNamed (problem_of t) (Held leaver.id)
  pub slot : IsSlot t leaver.line
  pub line : line_slot t (Held leaver.id) ≡ leaver.line
  pub side : (standing_at t leaver.line).side ≡ Some leaver.side
  pub inside : IsIn (place_of (Held leaver.id) leaver.side) (marks_at t)
  pub low : leaver.level < LEVELS

-- rows with rising numbers have each number once
pub one-row : (rows : List Row) (r : Row) → AllPairs (λ (a b : Row). a.id < b.id) rows → Any (λ (s : Row). s ≡ r) rows → All (λ (s : Row). s.id ≡ r.id → s ≡ r) rows
one-row rows r rising (j, x, lt, e, is) i d within same =
    elim (cases_lt i j) [
      | inl less ↦
          let h = rising i j d less lt in
          let k : (slice_index_or rows j d).id ≡ r.id = ap (λ (s : Row). s.id) (get_or_default rows j d x lt ∙ e ∙ is) in
          absurd (omega (arith, h, k, same))
      | inr ge ↦ elim (cases_lt j i) [
        | inl more ↦
            let h = rising j i d more within in
            let k : (slice_index_or rows j d).id ≡ r.id = ap (λ (s : Row). s.id) (get_or_default rows j d x lt ∙ e ∙ is) in
            absurd (omega (arith, h, k, same))
        | inr le ↦
            let both : i ≡ j = omega (arith, ge, le) in
            get_or_default rows i d x within ∙ ap (λ (n : ℕ). slice_index_or rows n x) both ∙ e ∙ is
      ]
    ]

row-named : (rows : List Row) (id : ℕ) (ls : List Line) → Any (λ (s : Row). s.id ≡ id) rows → Any (λ l. l.name ≡ Held id) (map line_of_row rows ++ ls)
row-named [] id ls (j, x, lt, e, is) = absurd (omega (arith, lt))
row-named (r ∷ rows) id ls (zero, x, lt, e, is) = (0, line_of_row r, omega arith, refl, ap Held (ap (λ (s : Row). s.id) e ∙ is))
row-named (r ∷ rows) id ls (suc j, x, lt, e, is) = let i = row-named rows id ls (j, x, omega (arith, lt), e, is) in (suc i.0, i.1, omega (arith, i.2), i.3, i.4)

pub going : (t : Lists) (leaver : Leaver) (r : Row) → IsKept t → IsLeaver t r leaver → IsGoing t leaver
going t leaver r kept is =
    let held : Any (λ (s : Row). s.id ≡ leaver.id) t.rows = any_impl (λ (s : Row). s ≡ r) (λ (s : Row). s.id ≡ leaver.id) t.rows (λ s e. ap (λ (x : Row). x.id) e ∙ sym is.id_is) is.held in
    let named : IsNamed (problem_of t) (Held leaver.id) = row-named t.rows leaver.id (stay_lines 1001 t.stays) held in
    let line : line_slot t (Held leaver.id) ≡ leaver.line = ap (λ (n : ℕ). line_slot t (Held n)) is.id_is ∙ is.line_is in
    let mark : Mark = record { row = Held leaver.id; side = leaver.side } in
    record {
      kept = kept;
      held = held;
      ranks = each-impl (λ (s : Row). s.id ≡ r.id → s ≡ r) (λ (s : Row). s.id ≡ leaver.id → 1000 - s.rank ≡ leaver.level) t.rows
          (λ s f e. ap (λ (x : Row). 1000 - x.rank) (f (e ∙ is.id_is)) ∙ sym is.level_is) (recursion_from_All (λ (s : Row). s.id ≡ r.id → s ≡ r) t.rows (one-row t.rows r kept.whole.rising is.held));
      named = named;
      slot = subst (IsSlot t) line (named_slot t (Held leaver.id) kept.slots named);
      line = line;
      side = is.side_is;
      inside = stands_inside t mark (named_mark t mark named) (side-stands t mark (ap (λ (w : ℕ). (standing_at t w).side) line ∙ is.side_is));
      low = omega (arith, is.level_is);
    }

-- the row counts nothing at another level
no-count : (t : Lists) (leaver : Leaver) (k : ℕ) → IsGoing t leaver → k ≢ leaver.level → CountsNothing leaver.id k t.rows
no-count t leaver k g ne =
    each-impl (λ (s : Row). s.id ≡ leaver.id → 1000 - s.rank ≡ leaver.level) (λ (s : Row). s.id ≡ leaver.id → weight_at (line_of_row s) k ≡ 0) t.rows
    (λ s h e. ap (λ (b : Bool). cond b s.weight 0) (ne_eqb (1000 - s.rank) k (λ q. ne (sym q ∙ h e)))) g.ranks

-- ---- what is read of the lists

pub record IsDrop (t : Lists) (leaver : Leaver) (left : Left) : Type 0 where
  pub going : IsGoing t leaver
  pub level : IsLevelLeft t leaver left

pub high : (w l : ℕ) → LEVELS ≤ w → l < LEVELS → w ≢ l
high w l up lt e = omega (arith, up, lt, e)

pub drop_row_same : (t : Lists) (leaver : Leaver) (left : Left) (c : ℕ) → IsDrop t leaver left → c ≢ leaver.line → c ≢ leaver.level → row_at (dropped t leaver left) c ≡ row_at t c
drop_row_same t leaver left c d nl nh =
    get_or-set_other (slice_set t.matrix left.change.at left.change.row) leaver.line c [] [] nl
    ∙ get_or-set_other t.matrix left.change.at c left.change.row [] (λ e. nh (e ∙ d.level.at_is))

pub drop_row_gone : (t : Lists) (leaver : Leaver) (left : Left) → IsDrop t leaver left → row_at (dropped t leaver left) leaver.line ≡ []
drop_row_gone t leaver left d =
    get_or-set_at (slice_set t.matrix left.change.at left.change.row) leaver.line leaver.line [] [] refl
    (let n = length-set t.matrix left.change.at left.change.row in let m = d.going.kept.slots.matrix in let s = d.going.slot in omega (arith, n, m, s.1))

drop-row-level : (t : Lists) (leaver : Leaver) (left : Left) → IsDrop t leaver left → row_at (dropped t leaver left) leaver.level ≡ left.change.row
drop-row-level t leaver left d =
    get_or-set_other (slice_set t.matrix left.change.at left.change.row) leaver.line leaver.level [] [] (λ e. high leaver.line leaver.level d.going.slot.0 d.going.low (sym e))
    ∙ get_or-set_at t.matrix left.change.at leaver.level left.change.row [] (sym d.level.at_is)
    (let a = d.going.kept.slots.matrix in let b = d.going.kept.slots.levels in let lt = d.going.low in let e = d.level.at_is in omega (arith, a, b, lt, e))

pub drop_standing_same : (t : Lists) (leaver : Leaver) (left : Left) (c : ℕ) → IsDrop t leaver left → c ≢ leaver.line → c ≢ leaver.level → standing_at (dropped t leaver left) c ≡ standing_at t c
drop_standing_same t leaver left c d nl nh =
    let st : Standing = record { side = (standing_at t left.change.at).side; value = left.change.value } in
    get_or-set_other (slice_set t.standings left.change.at st) leaver.line c no_standing no_standing nl
    ∙ get_or-set_other t.standings left.change.at c st no_standing (λ e. nh (e ∙ d.level.at_is))

drop-value-level : (t : Lists) (leaver : Leaver) (left : Left) → IsDrop t leaver left → (standing_at (dropped t leaver left) leaver.level).value ≡ left.change.value
drop-value-level t leaver left d =
    let st : Standing = record { side = (standing_at t left.change.at).side; value = left.change.value } in
    ap (λ (s : Standing). s.value)
    (get_or-set_other (slice_set t.standings left.change.at st) leaver.line leaver.level no_standing no_standing (λ e. high leaver.line leaver.level d.going.slot.0 d.going.low (sym e))
    ∙ get_or-set_at t.standings left.change.at leaver.level st no_standing (sym d.level.at_is)
    (let a = d.going.kept.slots.standings in let b = d.going.kept.slots.levels in let lt = d.going.low in let e = d.level.at_is in omega (arith, a, b, lt, e)))

pub drop_slot_same : (t : Lists) (leaver : Leaver) (left : Left) (c : ℕ) → c ≢ leaver.line → slot_at (dropped t leaver left) c ≡ slot_at t c
drop_slot_same t leaver left c nl = get_or-set_other t.slots leaver.line c no_slot no_slot nl

pub drop_slot_gone : (t : Lists) (leaver : Leaver) (left : Left) → IsDrop t leaver left → slot_at (dropped t leaver left) leaver.line ≡ no_slot
drop_slot_gone t leaver left d = get_or-set_at t.slots leaver.line leaver.line no_slot no_slot refl d.going.slot.1

-- each slot is as before, or of nothing
same-or-none : (t : Lists) (leaver : Leaver) (left : Left) → IsDrop t leaver left → (w : ℕ) → (slot_at (dropped t leaver left) w ≡ slot_at t w) ⊎ (slot_at (dropped t leaver left) w ≡ no_slot)
same-or-none t leaver left d w = elim (cases_eq w leaver.line) [
  | inl e ↦ inr (ap (slot_at (dropped t leaver left)) e ∙ drop_slot_gone t leaver left d)
  | inr ne ↦ inl (drop_slot_same t leaver left w ne)
]

drop-priority-same : (t : Lists) (leaver : Leaver) (left : Left) (k : ℕ) → IsDrop t leaver left → k ≢ leaver.level → priority_at (dropped t leaver left) k ≡ priority_at t k
drop-priority-same t leaver left k d ne = get_or-set_other t.priorities left.change.at k (record { unit = left.unit; rows = left.rows }) (record { unit = pos 1; rows = 0 }) (λ e. ne (e ∙ d.level.at_is))

drop-priority-level : (t : Lists) (leaver : Leaver) (left : Left) → IsDrop t leaver left → priority_at (dropped t leaver left) leaver.level ≡ record { unit = left.unit; rows = left.rows }
drop-priority-level t leaver left d =
    get_or-set_at t.priorities left.change.at leaver.level (record { unit = left.unit; rows = left.rows }) (record { unit = pos 1; rows = 0 }) (sym d.level.at_is)
    (let a = d.going.kept.slots.priorities in let lt = d.going.low in let e = d.level.at_is in omega (arith, a, lt, e))

pub drop-slot-count : (t : Lists) (leaver : Leaver) (left : Left) → length (dropped t leaver left).slots ≡ length t.slots
drop-slot-count t leaver left = length-set t.slots leaver.line no_slot

-- ---- names

-- a line that is left is one of before, with another name
pub left-named : (t : Lists) (leaver : Leaver) → All (λ l. IsNamed (problem_of t) l.name × (l.name ≢ Held leaver.id)) (lines (problem_left t leaver))
left-named t leaver =
    All-from_recursion _ (lines (problem_left t leaver))
    (both (lines (problem_left t leaver)) (recursion_from_All _ (lines (problem_left t leaver)) (all_left (λ l. IsNamed (problem_of t) l.name) leaver.id (problem_of t) (own_name (lines (problem_of t))))) (left_far (problem_of t) leaver.id))
  where
    both : (ls : List Line) → Each (λ l. IsNamed (problem_of t) l.name) ls → Each (λ l. l.name ≢ Held leaver.id) ls → Each (λ l. IsNamed (problem_of t) l.name × (l.name ≢ Held leaver.id)) ls
    both [] a b = tt
    both (l ∷ ls) a b = ((a.0, b.0), both ls a.1 b.1)

-- its slot is another one
line-off : (t : Lists) (leaver : Leaver) (name : RowName) → IsGoing t leaver → IsNamed (problem_of t) name → name ≢ Held leaver.id → line_slot t name ≢ leaver.line
line-off t leaver name g named ne e = ne (sym (lines_apart t (Held leaver.id) name g.kept.slots g.named named (e ∙ sym g.line)))

attr-off : (t : Lists) (leaver : Leaver) (attr : ℕ) → IsGoing t leaver → HasStay t.stays attr → attr_slot t attr ≢ leaver.line
attr-off t leaver attr g has e = attr_apart t attr (Held leaver.id) g.kept.slots has g.named (g.line ∙ sym e)

line-high : (t : Lists) (leaver : Leaver) (name : RowName) → IsGoing t leaver → IsNamed (problem_of t) name → line_slot t name ≢ leaver.level
line-high t leaver name g named = high (line_slot t name) leaver.level (named_slot t name g.kept.slots named).0 g.low

attr-slot : (t : Lists) (attr : ℕ) → AreSlots t → HasStay t.stays attr → IsSlot t (attr_slot t attr)
attr-slot t attr slots has = any_is (λ (s : Stay). IsAttrSlot t s.attr) (λ (s : Stay). s.attr ≡ attr) t.stays slots.attrs has (λ s h e. subst (λ (a : ℕ). IsSlot t (attr_slot t a)) e h.slot)

attr-high : (t : Lists) (leaver : Leaver) (attr : ℕ) → IsGoing t leaver → HasStay t.stays attr → attr_slot t attr ≢ leaver.level
attr-high t leaver attr g has = high (attr_slot t attr) leaver.level (attr-slot t attr g.kept.slots has).0 g.low

-- ---- the marks

twice : (f : Mark → Bool) (id : ℕ) (m : Mark) (b : Bool) (ms : List Mark) → without_marks (id ∷ []) (cond b (m ∷ ms) ms) ≡ cond b (cond (cond (is_one_of (id ∷ []) m.row) false true) (m ∷ without_marks (id ∷ []) ms) (without_marks (id ∷ []) ms)) (without_marks (id ∷ []) ms)
twice f id m true ms = refl
twice f id m false ms = refl

both-none : (b : Bool) (ms : List Mark) → cond b ms ms ≡ ms
both-none true ms = refl
both-none false ms = refl

mark-on : (f : Mark → Bool) (id : ℕ) (m : Mark) (ms : List Mark) → m.row ≡ Held id → without_marks (id ∷ []) (filter f (m ∷ ms)) ≡ without_marks (id ∷ []) (filter f ms)
mark-on f id m ms e =
    twice f id m (f m) (filter f ms)
    ∙ ap (λ (b : Bool). cond (f m) (cond (cond (cond b true false) false true) (m ∷ without_marks (id ∷ []) (filter f ms)) (without_marks (id ∷ []) (filter f ms))) (without_marks (id ∷ []) (filter f ms))) (row-on id m.row e)
    ∙ both-none (f m) (without_marks (id ∷ []) (filter f ms))

mark-off : (f : Mark → Bool) (id : ℕ) (m : Mark) (ms : List Mark) → m.row ≢ Held id → without_marks (id ∷ []) (filter f (m ∷ ms)) ≡ cond (f m) (m ∷ without_marks (id ∷ []) (filter f ms)) (without_marks (id ∷ []) (filter f ms))
mark-off f id m ms n =
    twice f id m (f m) (filter f ms)
    ∙ ap (λ (b : Bool). cond (f m) (cond (cond (cond b true false) false true) (m ∷ without_marks (id ∷ []) (filter f ms)) (without_marks (id ∷ []) (filter f ms))) (without_marks (id ∷ []) (filter f ms))) (row-off id m.row n)

marks-same : (f g : Mark → Bool) (id : ℕ) (ls : List Line) → Each (λ l. (l.name ≢ Held id) × ((side : Side) → g (record { row = l.name; side = side }) ≡ f (record { row = l.name; side = side }))) ls → filter g (marks_of ls) ≡ without_marks (id ∷ []) (filter f (marks_of ls))
marks-same f g id [] h = refl
marks-same f g id (l ∷ ls) h =
    let rest = marks-same f g id ls h.1 in
    let u : Mark = record { row = l.name; side = Under } in
    let o : Mark = record { row = l.name; side = Over } in
    ap₂ (λ (b : Bool) (ms : List Mark). cond b (u ∷ ms) ms) (h.0.1 Under) (ap₂ (λ (b : Bool) (ms : List Mark). cond b (o ∷ ms) ms) (h.0.1 Over) rest ∙ sym (mark-off f id o (marks_of ls) h.0.0))
    ∙ sym (mark-off f id u (o ∷ marks_of ls) h.0.0)

marks-gone : (f g : Mark → Bool) (id : ℕ) (rows : List Row) (ls : List Line) → Each (λ l. (l.name ≢ Held id) × ((side : Side) → g (record { row = l.name; side = side }) ≡ f (record { row = l.name; side = side }))) (map line_of_row (filter (other_row id) rows) ++ ls)
    → filter g (marks_of (map line_of_row (filter (other_row id) rows) ++ ls)) ≡ without_marks (id ∷ []) (filter f (marks_of (map line_of_row rows ++ ls)))
marks-gone f g id [] ls h = marks-same f g id ls h
marks-gone f g id (r ∷ rows) ls h = elim (cases_eq r.id id) [
  | inl e ↦
      let u : Mark = record { row = Held r.id; side = Under } in
      let o : Mark = record { row = Held r.id; side = Over } in
      let rest : List Mark = marks_of (map line_of_row rows ++ ls) in
      ap (λ (rs : List Row). filter g (marks_of (map line_of_row rs ++ ls))) (filter-on id r rows e)
      ∙ marks-gone f g id rows ls (subst (λ (rs : List Row). Each (λ l. (l.name ≢ Held id) × ((side : Side) → g (record { row = l.name; side = side }) ≡ f (record { row = l.name; side = side }))) (map line_of_row rs ++ ls)) (filter-on id r rows e) h)
      ∙ sym (mark-on f id u (o ∷ rest) (ap Held e) ∙ mark-on f id o rest (ap Held e))
  | inr n ↦
      let u : Mark = record { row = Held r.id; side = Under } in
      let o : Mark = record { row = Held r.id; side = Over } in
      let rest : List Mark = marks_of (map line_of_row rows ++ ls) in
      let k : Each (λ l. (l.name ≢ Held id) × ((side : Side) → g (record { row = l.name; side = side }) ≡ f (record { row = l.name; side = side }))) (map line_of_row (r ∷ filter (other_row id) rows) ++ ls) =
      subst (λ (rs : List Row). Each (λ l. (l.name ≢ Held id) × ((side : Side) → g (record { row = l.name; side = side }) ≡ f (record { row = l.name; side = side }))) (map line_of_row rs ++ ls)) (filter-off id r rows n) h in
      ap (λ (rs : List Row). filter g (marks_of (map line_of_row rs ++ ls))) (filter-off id r rows n)
      ∙ ap₂ (λ (b : Bool) (ms : List Mark). cond b (u ∷ ms) ms) (k.0.1 Under) (ap₂ (λ (b : Bool) (ms : List Mark). cond b (o ∷ ms) ms) (k.0.1 Over) (marks-gone f g id rows ls k.1) ∙ sym (mark-off f id o rest k.0.0))
      ∙ sym (mark-off f id u (o ∷ rest) k.0.0)
]

pub drop_marks : (t : Lists) (leaver : Leaver) (left : Left) → IsDrop t leaver left → marks_at (dropped t leaver left) ≡ marks_left t leaver
drop_marks t leaver left d =
    marks-gone (stands_in t) (stands_in (dropped t leaver left)) leaver.id t.rows (stay_lines 1001 t.stays)
    (each-impl (λ l. IsNamed (problem_of t) l.name × (l.name ≢ Held leaver.id)) _ (lines (problem_left t leaver))
    (λ l h. (h.1, λ side. ap (λ (s : Standing). is_side s.side side) (drop_standing_same t leaver left (line_slot t l.name) d (line-off t leaver l.name d.going h.0 h.1) (line-high t leaver l.name d.going h.0))))
    (recursion_from_All _ (lines (problem_left t leaver)) (left-named t leaver)))

-- ---- slots

attr-slot-kept : (t : Lists) (leaver : Leaver) (left : Left) (attr : ℕ) → IsDrop t leaver left → HasStay t.stays attr → IsAttrSlot t attr → IsAttrSlot (dropped t leaver left) attr
attr-slot-kept t leaver left attr d has s = record {
  slot = (s.slot.0, let n = drop-slot-count t leaver left in omega (arith, n, s.slot.1));
  owner = ap (λ (x : Slot). x.owner) (drop_slot_same t leaver left (attr_slot t attr) (attr-off t leaver attr d.going has)) ∙ s.owner;
}

-- the stays' levels have the ranks that they had
stay-rank-kept : (t : Lists) (leaver : Leaver) (left : Left) (attr : ℕ) → IsDrop t leaver left → HasStay t.stays attr → stay_rank (dropped t leaver left) attr ≡ stay_rank t attr
stay-rank-kept t leaver left attr d has =
    ap (λ (x : Slot). x.rank) (drop_slot_same t leaver left (line_slot t (StayOf attr)) (line-off t leaver (StayOf attr) d.going (stay_named (problem_of t) attr has) (λ e. held-not-stay leaver.id attr (sym e))))

line-slot-kept : (t : Lists) (leaver : Leaver) (left : Left) (l : Line) → IsDrop t leaver left → IsNamed (problem_of t) l.name → l.name ≢ Held leaver.id → IsLineSlot t l → IsLineSlot (dropped t leaver left) l
line-slot-kept t leaver left l d named ne s =
    let same : slot_at (dropped t leaver left) (line_slot t l.name) ≡ slot_at t (line_slot t l.name) = drop_slot_same t leaver left (line_slot t l.name) (line-off t leaver l.name d.going named ne) in
    record {
      slot = (s.slot.0, let n = drop-slot-count t leaver left in omega (arith, n, s.slot.1));
      owner = ap (λ (x : Slot). x.owner) same ∙ s.owner;
      home = ap (λ (x : Slot). x.home) same ∙ s.home ∙ home-same l l.name;
      weight = ap (λ (x : Slot). x.weight) same ∙ s.weight;
      scale = ap (λ (x : Slot). x.scale) same ∙ s.scale;
      rel = ap (λ (x : Slot). x.rel) same ∙ s.rel;
    }
  where
    home-same : (l : Line) (name : RowName) → home_of t l name ≡ home_of (dropped t leaver left) l name
    home-same l (Held id) = refl
    home-same l (StayOf attr) = refl

past-row : (name : RowName) (id : ℕ) (r : Row) (ls : List Line) → name ≢ Held id → r.id ≡ id → Any (λ l. l.name ≡ name) (line_of_row r ∷ ls) → Any (λ l. l.name ≡ name) ls
past-row name id r ls ne e (zero, x, lt, is, h) = absurd (ne (sym h ∙ sym (ap (λ (l : Line). l.name) is) ∙ ap Held e))
past-row name id r ls ne e (suc k, x, lt, is, h) = (k, x, omega (arith, lt), is, h)

same-first : (name : RowName) (l : Line) (ls ms : List Line) → (Any (λ k. k.name ≡ name) ls → Any (λ k. k.name ≡ name) ms) → Any (λ k. k.name ≡ name) (l ∷ ls) → Any (λ k. k.name ≡ name) (l ∷ ms)
same-first name l ls ms f (zero, x, lt, is, h) = (0, x, omega arith, is, h)
same-first name l ls ms f (suc k, x, lt, is, h) = let i = f (k, x, omega (arith, lt), is, h) in (suc i.0, i.1, omega (arith, i.2), i.3, i.4)

still-named : (name : RowName) (id : ℕ) (rows : List Row) (ls : List Line) → name ≢ Held id → Any (λ l. l.name ≡ name) (map line_of_row rows ++ ls) → Any (λ l. l.name ≡ name) (map line_of_row (filter (other_row id) rows) ++ ls)
still-named name id [] ls ne i = i
still-named name id (r ∷ rows) ls ne i = elim (cases_eq r.id id) [
  | inl e ↦ subst (λ (xs : List Row). Any (λ l. l.name ≡ name) (map line_of_row xs ++ ls)) (sym (filter-on id r rows e)) (still-named name id rows ls ne (past-row name id r (map line_of_row rows ++ ls) ne e i))
  | inr n ↦ subst (λ (xs : List Row). Any (λ l. l.name ≡ name) (map line_of_row xs ++ ls)) (sym (filter-off id r rows n))
      (same-first name (line_of_row r) (map line_of_row rows ++ ls) (map line_of_row (filter (other_row id) rows) ++ ls) (still-named name id rows ls ne) i)
]

pub named-left : (t : Lists) (leaver : Leaver) (name : RowName) → name ≢ Held leaver.id → IsNamed (problem_of t) name → IsNamed (problem_left t leaver) name
named-left t leaver name ne named = still-named name leaver.id t.rows (stay_lines 1001 t.stays) ne named

owned-kept : (t : Lists) (leaver : Leaver) (left : Left) (w : ℕ) (o : Owner) → IsDrop t leaver left → w ≢ leaver.line → IsOwned t w o → IsOwned (dropped t leaver left) w o
owned-kept t leaver left w LevelSlot d ne h = tt
owned-kept t leaver left w (AttrSlot attr) d ne h = h
owned-kept t leaver left w (LineSlot name) d ne h = (named-left t leaver name (λ e. ne (sym h.1 ∙ ap (line_slot t) e ∙ d.going.line)) h.0, h.1)

drop-slots : (t : Lists) (leaver : Leaver) (left : Left) → IsDrop t leaver left → AreSlots (dropped t leaver left)
drop-slots t leaver left d =
    let s = d.going.kept.slots in
    let n = drop-slot-count t leaver left in
    let st : Standing = record { side = (standing_at t left.change.at).side; value = left.change.value } in
    record {
      standings = length-set (slice_set t.standings left.change.at st) leaver.line no_standing ∙ length-set t.standings left.change.at st ∙ s.standings ∙ sym n;
      matrix = length-set (slice_set t.matrix left.change.at left.change.row) leaver.line [] ∙ length-set t.matrix left.change.at left.change.row ∙ s.matrix ∙ sym n;
      levels = subst (λ (k : ℕ). LEVELS ≤ k) (sym n) s.levels;
      room = s.room;
      priorities = length-set t.priorities left.change.at (record { unit = left.unit; rows = left.rows }) ∙ s.priorities;
      attrs = λ i x lt. attr-slot-kept t leaver left (slice_index_or t.stays i x).attr d (own_stay t.stays i x lt) (s.attrs i x lt);
      lines = λ i x lt.
          let l : Line = slice_index_or (lines (problem_left t leaver)) i x in
          let h = left-named t leaver i x lt in
          line-slot-kept t leaver left l d h.0 h.1 (all_left (IsLineSlot t) leaver.id (problem_of t) s.lines i x lt);
      owners = λ w is. elim (cases_eq w leaver.line) [
        | inl e ↦ subst (λ (o : Owner). IsOwned (dropped t leaver left) w o) (sym (ap (λ (c : ℕ). (slot_at (dropped t leaver left) c).owner) e ∙ ap (λ (x : Slot). x.owner) (drop_slot_gone t leaver left d))) tt
        | inr ne ↦ subst (λ (o : Owner). IsOwned (dropped t leaver left) w o) (sym (ap (λ (x : Slot). x.owner) (drop_slot_same t leaver left w ne)))
            (owned-kept t leaver left w (slot_at t w).owner d ne (s.owners w (is.0, subst (λ (k : ℕ). w < k) n is.1)))
      ];
      level_owners = λ w lt. ap (λ (x : Slot). x.owner) (drop_slot_same t leaver left w (λ e. high leaver.line w d.going.slot.0 lt (sym e))) ∙ s.level_owners w lt;
      level_homes = λ w lt. ap (λ (x : Slot). x.home) (drop_slot_same t leaver left w (λ e. high leaver.line w d.going.slot.0 lt (sym e))) ∙ s.level_homes w lt;
      level_ranks = λ w lt. ap (λ (x : Slot). x.rank) (drop_slot_same t leaver left w (λ e. high leaver.line w d.going.slot.0 lt (sym e))) ∙ s.level_ranks w lt;
      stay_ranks = λ i x lt.
          let one = stay-rank-kept t leaver left (slice_index_or t.stays i x).attr d (own_stay t.stays i x lt) in
          let is = s.stay_ranks i x lt in
          omega (arith, one, is);
      stays_rise = λ i k x lt within.
          let one = stay-rank-kept t leaver left (slice_index_or t.stays i x).attr d (own_stay t.stays i x (omega (arith, lt, within))) in
          let two = stay-rank-kept t leaver left (slice_index_or t.stays k x).attr d (own_stay t.stays k x within) in
          let less = s.stays_rise i k x lt within in
          omega (arith, one, two, less);
      ranks = ranks_left t.slots (dropped t leaver left).slots (same-or-none t leaver left d) s.ranks;
      own_last = last_left t.slots (dropped t leaver left).slots (same-or-none t leaver left d) s.own_last;
    }

drop-stored : (t : Lists) (leaver : Leaver) (left : Left) → IsDrop t leaver left → AreStored (dropped t leaver left)
drop-stored t leaver left d = record {
  few = subst (λ (k : ℕ). k ≤ MOST_SLOTS) (sym (drop-slot-count t leaver left)) d.going.kept.stored.few;
  empty = λ w up free. elim (cases_eq w leaver.line) [
    | inl e ↦ ap (row_at (dropped t leaver left)) e ∙ drop_row_gone t leaver left d
    | inr ne ↦ drop_row_same t leaver left w d ne (high w leaver.level up d.going.low)
        ∙ d.going.kept.stored.empty w up (sym (ap (λ (x : Slot). x.owner) (drop_slot_same t leaver left w ne)) ∙ free)
  ];
}

-- ---- equations

-- an equation by its row
abbrev pub EquationBy : Lists → Problem → List Mark → ((ℕ → ℤ) → ℤ) → ℕ → List Term → ℤ → ℕ → Type 0
EquationBy t p at quantity w row num den = (own : ℕ) × (coefficient w row ≡ pos own)
    × IsLineEquation p at quantity own (λ name. cond (nat_eq (line_slot t name) w) (pos 0) (neg_ℤ (coefficient (line_slot t name) row))) num den

-- an inside line stands in no other row
stands-not : (t : Lists) (leaver : Leaver) (w : ℕ) → IsGoing t leaver → w ≢ leaver.line → number t w (Held leaver.id) ≡ pos 0
stands-not t leaver w g ne =
    subst (λ (c : ℕ). cond (nat_eq c w) (pos 0) (neg_ℤ (entry t w c)) ≡ pos 0) (sym g.line)
    (by-kind (nat_eq leaver.line w)
    (elim (decide_zero (entry t w leaver.line)) [
      | inl e ↦ e
      | inr some ↦ absurd (none_some (standing_at t leaver.line).side leaver.side (g.kept.outside w leaver.line some (λ e. ne (sym e))).1 g.side)
    ]))
  where
    by-kind : (b : Bool) → entry t w leaver.line ≡ pos 0 → cond b (pos 0) (neg_ℤ (entry t w leaver.line)) ≡ pos 0
    by-kind true e = refl
    by-kind false e = ap neg_ℤ e

equation-kept : (t : Lists) (leaver : Leaver) (left : Left) (quantity : (ℕ → ℤ) → ℤ) (w : ℕ) (num : ℤ) (den : ℕ) → IsDrop t leaver left → w ≢ leaver.line → w ≢ leaver.level
    → ((own : ℕ) → IsLineEquation (problem_of t) (marks_at t) quantity own (number t w) num den → IsLineEquation (problem_left t leaver) (marks_left t leaver) quantity own (number t w) num den)
    → IsEquationAt t quantity w num den → IsEquationAt (dropped t leaver left) quantity w num den
equation-kept t leaver left quantity w num den d nl nh holds e =
    subst (λ (at : List Mark). EquationBy t (problem_left t leaver) at quantity w (row_at (dropped t leaver left) w) num den) (sym (drop_marks t leaver left d))
    (subst (λ (row : List Term). EquationBy t (problem_left t leaver) (marks_left t leaver) quantity w row num den) (sym (drop_row_same t leaver left w d nl nh))
    (e.0, e.1, holds e.0 e.2))

attr-kept : (t : Lists) (leaver : Leaver) (left : Left) (attr : ℕ) → IsDrop t leaver left → HasStay t.stays attr → IsAttrRow t attr → IsAttrRow (dropped t leaver left) attr
attr-kept t leaver left attr d has h =
    let w : ℕ = attr_slot t attr in
    let g = d.going in
    let nl = attr-off t leaver attr g has in
    let nh = attr-high t leaver attr g has in
    subst (λ (s : Standing). IsEquationAt (dropped t leaver left) (λ x. x (attr_column attr)) w s.value.num s.value.den) (sym (drop_standing_same t leaver left w d nl nh))
    (equation-kept t leaver left (λ x. x (attr_column attr)) w (standing_at t w).value.num (standing_at t w).value.den d nl nh
    (λ own q. left_line (problem_of t) (marks_at t) leaver.id leaver.side (λ x. x (attr_column attr)) own (number t w) (standing_at t w).value.num (standing_at t w).value.den g.kept.whole g.kept.corner g.inside (attr_without leaver.id attr) q (stands-not t leaver w g nl)) h)

line-kept : (t : Lists) (leaver : Leaver) (left : Left) (name : RowName) (o : Option Side) → IsDrop t leaver left → IsNamed (problem_of t) name → name ≢ Held leaver.id → IsLineRow t name o → IsLineRow (dropped t leaver left) name o
line-kept t leaver left name None d named ne h =
    let w : ℕ = line_slot t name in
    let nl = line-off t leaver name d.going named ne in
    let nh = line-high t leaver name d.going named in
    (drop_row_same t leaver left w d nl nh ∙ h.0, ap (λ (s : Standing). s.value) (drop_standing_same t leaver left w d nl nh) ∙ h.1)
line-kept t leaver left name (Some side) d named ne h =
    let w : ℕ = line_slot t name in
    let g = d.going in
    let nl = line-off t leaver name g named ne in
    let nh = line-high t leaver name g named in
    subst (λ (s : Standing). IsEquationAt (dropped t leaver left) (deviation name) w (sign_of side *ℤ s.value.num) s.value.den) (sym (drop_standing_same t leaver left w d nl nh))
    (equation-kept t leaver left (deviation name) w (sign_of side *ℤ (standing_at t w).value.num) (standing_at t w).value.den d nl nh
    (λ own q. left_line (problem_of t) (marks_at t) leaver.id leaver.side (deviation name) own (number t w) (sign_of side *ℤ (standing_at t w).value.num) (standing_at t w).value.den g.kept.whole g.kept.corner g.inside (deviation_without leaver.id name ne) q (stands-not t leaver w g nl)) h)

-- ---- what stands in the rows

outside-kept : (t : Lists) (leaver : Leaver) (left : Left) (c : ℕ) → IsDrop t leaver left → IsOutsideSlot t c → IsOutsideSlot (dropped t leaver left) c
outside-kept t leaver left c d out =
    let nl : c ≢ leaver.line = λ e. none_some (standing_at t leaver.line).side leaver.side (ap (λ (n : ℕ). (standing_at t n).side) (sym e) ∙ out.1) d.going.side in
    let nh : c ≢ leaver.level = high c leaver.level out.0.0 d.going.low in (
      (out.0.0, let n = drop-slot-count t leaver left in omega (arith, n, out.0.1)),
      ap (λ (s : Standing). s.side) (drop_standing_same t leaver left c d nl nh) ∙ out.1,
      (out.2.0, ap (λ (x : Slot). x.owner) (drop_slot_same t leaver left c nl) ∙ out.2.1),
    )

drop-outside : (t : Lists) (leaver : Leaver) (left : Left) → IsDrop t leaver left → AreOutside (dropped t leaver left)
drop-outside t leaver left d w c some ne = elim (cases_eq w leaver.line) [
  | inl e ↦ absurd (some (ap (λ (n : ℕ). entry (dropped t leaver left) n c) e ∙ ap (coefficient c) (drop_row_gone t leaver left d)))
  | inr nl ↦ elim (cases_eq w leaver.level) [
    | inl e ↦ outside-kept t leaver left c d (d.level.columns c (λ z. some (ap (λ (n : ℕ). entry (dropped t leaver left) n c) e ∙ ap (coefficient c) (drop-row-level t leaver left d) ∙ z)) (λ q. ne (q ∙ sym e)))
    | inr nh ↦ outside-kept t leaver left c d (d.going.kept.outside w c (λ z. some (ap (coefficient c) (drop_row_same t leaver left w d nl nh) ∙ z)) ne)
  ]
]

-- ---- levels

level-here : (t : Lists) (leaver : Leaver) (left : Left) → IsDrop t leaver left → IsLevelKept (dropped t leaver left) leaver.level
level-here t leaver left d =
    let u : Lists = dropped t leaver left in
    let k : ℕ = leaver.level in
    let l = d.level in
    let p = drop-priority-level t leaver left d in
    let row = drop-row-level t leaver left d in
    let marks = sym (drop_marks t leaver left d) in
    record {
      unit = l.unit;
      own = l.own;
      unit_is = ap (λ (x : Priority). x.unit) p ∙ l.unit_is;
      own_is = ap₂ (λ (x : Priority) (r : List Term). cond (nat_eq x.rows 0) (pos 1) (coefficient k r)) p row ∙ l.own_is;
      rows = ap (λ (x : Priority). x.rows) p ∙ l.count;
      empty = λ z. row ∙ l.empty (l.count ∙ z);
      least = l.least;
      numbers = record {
        by = l.by;
        reduced = l.reduced;
        row = subst (λ (at : List Mark). IsLevelRow (problem_left t leaver) at k l.unit l.own l.by) marks l.row;
        outside = subst (λ (at : List Mark). All (λ m. IsOutsideLine at m.name → l.by m.name ≡ number u k m.name) (lines (problem_left t leaver))) marks
            (subst (λ (r : List Term). All (λ m. IsOutsideLine (marks_left t leaver) m.name → l.by m.name ≡ row_number t k r m.name) (lines (problem_left t leaver))) (sym row) l.outside);
        reduced_by = l.reduced_by;
        fits = l.fits;
      };
      cost = subst (λ (at : List Mark). IsCostAt (problem_left t leaver) at k (standing_at u k).value) marks
          (subst (IsCostAt (problem_left t leaver) (marks_left t leaver) k) (sym (drop-value-level t leaver left d)) l.cost);
    }

count-first : (k : ℕ) (s : Row) (rows less : List Row) (b : Bool) → level_count k less ≡ level_count k rows
    → length (cond b (s ∷ filter (λ r. nat_eq (1000 - r.rank) k) less) (filter (λ r. nat_eq (1000 - r.rank) k) less)) ≡ length (cond b (s ∷ filter (λ r. nat_eq (1000 - r.rank) k) rows) (filter (λ r. nat_eq (1000 - r.rank) k) rows))
count-first k s rows less true e = ap suc e
count-first k s rows less false e = e

count-same : (k id : ℕ) (rows : List Row) → Each (λ (s : Row). s.id ≡ id → 1000 - s.rank ≢ k) rows → level_count k (filter (other_row id) rows) ≡ level_count k rows
count-same k id [] h = refl
count-same k id (s ∷ rows) h = elim (cases_eq s.id id) [
  | inl e ↦ ap (λ (rs : List Row). level_count k rs) (filter-on id s rows e) ∙ count-same k id rows h.1
      ∙ sym (ap (λ (b : Bool). length (cond b (s ∷ filter (λ r. nat_eq (1000 - r.rank) k) rows) (filter (λ r. nat_eq (1000 - r.rank) k) rows))) (ne_eqb (1000 - s.rank) k (h.0 e)))
  | inr n ↦ ap (λ (rs : List Row). level_count k rs) (filter-off id s rows n) ∙ count-first k s rows (filter (other_row id) rows) (nat_eq (1000 - s.rank) k) (count-same k id rows h.1)
]

level-other : (t : Lists) (leaver : Leaver) (left : Left) (k : ℕ) → IsDrop t leaver left → k < LEVELS → k ≢ leaver.level → IsLevelKept t k → IsLevelKept (dropped t leaver left) k
level-other t leaver left k d lt ne l =
    let u : Lists = dropped t leaver left in
    let g = d.going in
    let p = drop-priority-same t leaver left k d ne in
    let nl : k ≢ leaver.line = λ e. high leaver.line k g.slot.0 lt (sym e) in
    let row = drop_row_same t leaver left k d nl ne in
    let marks = sym (drop_marks t leaver left d) in
    let none = no-count t leaver k g ne in
    let count : row_count u k ≡ row_count t k = count-same k leaver.id t.rows (each-impl (λ (s : Row). s.id ≡ leaver.id → 1000 - s.rank ≡ leaver.level) (λ (s : Row). s.id ≡ leaver.id → 1000 - s.rank ≢ k) t.rows (λ s h e q. ne (sym q ∙ h e)) g.ranks) in
    record {
      unit = l.unit;
      own = l.own;
      unit_is = ap (λ (x : Priority). x.unit) p ∙ l.unit_is;
      own_is = ap₂ (λ (x : Priority) (r : List Term). cond (nat_eq x.rows 0) (pos 1) (coefficient k r)) p row ∙ l.own_is;
      rows = ap (λ (x : Priority). x.rows) p ∙ l.rows ∙ sym count;
      empty = λ z. row ∙ l.empty (sym count ∙ z);
      least = other_unit (problem_of t) leaver.id k l.unit none l.least;
      numbers = record {
        by = l.numbers.by;
        reduced = l.numbers.reduced;
        row = subst (λ (at : List Mark). IsLevelRow (problem_left t leaver) at k l.unit l.own l.numbers.by) marks
            (other_row_is (problem_of t) (marks_at t) leaver.id k l.unit l.own l.numbers.by leaver.side none g.held g.inside l.numbers.row);
        outside = subst (λ (at : List Mark). All (λ m. IsOutsideLine at m.name → l.numbers.by m.name ≡ number u k m.name) (lines (problem_left t leaver))) marks
            (subst (λ (r : List Term). All (λ m. IsOutsideLine (marks_left t leaver) m.name → l.numbers.by m.name ≡ row_number t k r m.name) (lines (problem_left t leaver))) (sym row)
            (λ i x within out.
            let h = left-named t leaver i x within in
            all_left (λ m. IsOutsideLine (marks_at t) m.name → l.numbers.by m.name ≡ number t k m.name) leaver.id (problem_of t) l.numbers.outside i x within
            (outside_back (marks_at t) leaver.id (slice_index_or (lines (problem_left t leaver)) i x).name h.1 out)));
        reduced_by = record {
          under = all_left (λ m. l.numbers.reduced (place_of m.name Under) ≡ pos (l.own * under_share l.unit k m) -ℤ l.numbers.by m.name) leaver.id (problem_of t) l.numbers.reduced_by.under;
          over = all_left (λ m. l.numbers.reduced (place_of m.name Over) ≡ pos (l.own * over_share l.unit k m) +ℤ l.numbers.by m.name) leaver.id (problem_of t) l.numbers.reduced_by.over;
        };
        fits = record {
          scale_fits = l.numbers.fits.scale_fits;
          times_fit = all_left (λ m. IsFitting (l.numbers.by m.name)) leaver.id (problem_of t) l.numbers.fits.times_fit;
          reduced_fit = λ side. all_left (λ m. IsFitting (l.numbers.reduced (place_of m.name side))) leaver.id (problem_of t) (l.numbers.fits.reduced_fit side);
        };
      };
      cost = subst (λ (at : List Mark). IsCostAt (problem_left t leaver) at k (standing_at u k).value) marks
          (subst (λ (s : Standing). IsCostAt (problem_left t leaver) (marks_left t leaver) k s.value) (sym (drop_standing_same t leaver left k d nl ne))
          (other_cost (problem_of t) (marks_at t) leaver.id k leaver.side (standing_at t k).value g.kept.whole g.kept.corner g.inside none l.cost));
    }

-- ---- all of it

drop-room : (t : Lists) (leaver : Leaver) (left : Left) (s : Stay) → IsDrop t leaver left → HasStay t.stays s.attr → HasStayRoom t s → HasStayRoom (dropped t leaver left) s
drop-room t leaver left s d has room =
    let name : RowName = StayOf s.attr in
    let named = stay_named (problem_of t) s.attr has in
    subst (λ (r : List Term). IsFitting (pos 2 *ℤ coefficient (line_slot t name) r))
    (sym (drop_row_same t leaver left (line_slot t name) d (line-off t leaver name d.going named (λ e. stay-held s.attr leaver.id e)) (line-high t leaver name d.going named))) room
  where
    is-held : RowName → Type 0
    is-held (Held id) = Unit {0}
    is-held (StayOf attr) = ⊥

    stay-held : (a id : ℕ) → StayOf a ≡ Held id → ⊥
    stay-held a id e = subst is-held (sym e) tt

pub drop_kept : (t : Lists) (leaver : Leaver) (left : Left) → IsDrop t leaver left → IsKept (dropped t leaver left)
drop_kept t leaver left d =
    let g = d.going in
    let k = g.kept in
    let marks = sym (drop_marks t leaver left d) in
    let st : Standing = record { side = (standing_at t left.change.at).side; value = left.change.value } in
    record {
      whole = left_whole_problem (problem_of t) leaver.id k.whole;
      corner = subst (λ (at : List Mark). IsCorner (problem_left t leaver) at) marks (left_corner (problem_of t) (marks_at t) leaver.id leaver.side k.whole k.corner g.inside);
      rays = subst (λ (at : List Mark). HasRays (problem_left t leaver) at) marks (left_rays (problem_of t) (marks_at t) leaver.id k.rays);
      slots = drop-slots t leaver left d;
      stored = drop-stored t leaver left d;
      matrix = All-set IsKeptRow (slice_set t.matrix left.change.at left.change.row) leaver.line [] none_kept (All-set IsKeptRow t.matrix left.change.at left.change.row d.level.row_kept k.matrix);
      values = All-set (λ (s : Standing). fractions.IsKept s.value) (slice_set t.standings left.change.at st) leaver.line no_standing zero_kept
          (All-set (λ (s : Standing). fractions.IsKept s.value) t.standings left.change.at st d.level.value_kept k.values);
      attrs = λ i x lt. attr-kept t leaver left (slice_index_or t.stays i x).attr d (own_stay t.stays i x lt) (k.attrs i x lt);
      lines = λ i x lt.
          let name : RowName = (slice_index_or (lines (problem_left t leaver)) i x).name in
          let h = left-named t leaver i x lt in
          subst (λ (s : Standing). IsLineRow (dropped t leaver left) name s.side) (sym (drop_standing_same t leaver left (line_slot t name) d (line-off t leaver name g h.0 h.1) (line-high t leaver name g h.0)))
          (line-kept t leaver left name (standing_at t (line_slot t name)).side d h.0 h.1 (all_left (λ l. IsLineRow t l.name (standing_at t (line_slot t l.name)).side) leaver.id (problem_of t) k.lines i x lt));
      outside = drop-outside t leaver left d;
      levels = λ n lt. elim (cases_eq n leaver.level) [
        | inl e ↦ subst (IsLevelKept (dropped t leaver left)) (sym e) (level-here t leaver left d)
        | inr ne ↦ level-other t leaver left n d lt ne (k.levels n lt)
      ];
      stay_levels = λ i x lt. drop-room t leaver left (slice_index_or t.stays i x) d (own_stay t.stays i x lt) (k.stay_levels i x lt);
    }
