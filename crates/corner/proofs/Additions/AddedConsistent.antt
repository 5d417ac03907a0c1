-- What a corner keeps after rows have joined it.
use Rattle.std.proofs.Common.{◌≡◌, ℕ, zero, suc, ◌<◌, ◌++◌, List, [], ◌∷◌, length, refl, ap, arith, get_or, ◌∙◌}
use Rattle.std.proofs.Common.{map, sym, subst, Any, inl, inr, All, ◌≤◌, ap₂, Contains, slice_index_or}
use Rattle.problem_core.specs.Layout.{Row, line_of_row, lines, stay_lines, Problem, Line}
use Rattle.corner_table.specs.Tables.{Lists, problem_of, line_slot, row_at, standing_at, slot_at, lists_of}
use Rattle.corner_table.specs.Tables.{marks_at}
use Rattle.corner_joins.proofs.Costs.CostLines.{row_among}
use Rattle.corner_view.proofs.Facts.{append_more}
use Rattle.version_lists.proofs.Indexing.{number_at_column}
use Rattle.problem_core.specs.declared.parts.RowName.TheVariants.{Held}
use Rattle.corner_table.specs.Kept.{IsKept, IsLineSlot, IsSlot}
use Rattle.problem_core.specs.declared.parts.Rel.{Rel}
use Rattle.corner_joins.specs.Additions.JoinedLists.{AreRowsListed}
use Rattle.corner_table.specs.Reads.LevelNumbers.{side_share}
use Rattle.corner_joins.specs.Additions.CostJoins.{IsLineListed, AreAllJoined}
use Rattle.corner_table.proofs.Readings.SlotFacts.{any_is}
use Rattle.corner_table.proofs.Readings.MarkFacts.{inside_stands}
use Rattle.corner_table.proofs.Readings.ReadFacts.{is_some}
use Rattle.corner_table.proofs.Readings.KeptFacts.{row_kept as part-row}
use Rattle.std.specs.List.{AllByRecursion as Each}
use Rattle.problem_core.specs.declared.parts.Mark.{Mark}
use Rattle.std.proofs.lemmas.List.Elements.{recursion_from_All, All-from_recursion}
use Rattle.problem_core.specs.Changes.Begins.{BeginsWith}
use Rattle.problem_core.specs.Corners.{IsIn, place}
use Rattle.problem_core.specs.Unfit.{over_mark}
use Rattle.corner_laws.proofs.WrittenValues.{contains_each}
use Rattle.corner_table.specs.Invariants.{names_of, name_of, IsConsistent, IsEarlier, seen_of, view_of}
use Rattle.corner_view.specs.Seen.{IsNamed}
use Rattle.std.proofs.lemmas.List.{get_or_append_left}
use Rattle.problem_core.specs.declared.parts.Stay.{Stay}
use Rattle.problem_core.specs.declared.parts.RowName.{RowName}
use Rattle.corner_laws.specs.Lifts.{HasOneIn, with_rows}
use Rattle.corner_table.specs.declared.table.Slot.{Slot}
use Rattle.corner_table.specs.declared.table.Table.{Table}
use Rattle.corner_table.specs.Histories.{AreAlike, lists_before}
use Rattle.corner_table.specs.Joining.{slot_of_row}
use Rattle.corner_joins.proofs.Attributes.AttrJoins.{nowhere}
use Rattle.corner_writings.proofs.Readings.FreeSlots.{line_named}
use Rattle.corner_exchange.proofs.Swaps.ListedSlots.{were_listed}
use Rattle.corner_joins.proofs.Additions.PartFacts.{kept_part}
use Rattle.corner.proofs.Additions.JoinedCandidates.{joined_candidates}
use Rattle.frac_core.proofs.Lists.{each-at as contained, each-of as each-contained}
use Rattle.corner_joins.proofs.Additions.AddedRows.{begins_one_in}
use Rattle.cert_core.specs.declared.stops.RunStop.{RunStop}
use Rattle.cert_core.specs.declared.stops.RunStop.TheVariants.{Conflict, Unfit, Spent, OutOfMemory}
use Rattle.corner_view.specs.AddStops.{AllSumsFit, IsAddStop}

split-at : (xs : List Row) (i : ℕ) (x : Row) → i < length xs → (before : List Row) × (after : List Row) × (xs ≡ before ++ (get_or xs i x ∷ after))
split-at [] i x lt = absurd (omega (arith, lt))
split-at (s ∷ xs) zero x lt = ([], xs, refl)
split-at (s ∷ xs) (suc i) x lt = let h = split-at xs i x (omega (arith, lt)) in (s ∷ h.0, h.1, ap (λ (ys : List Row). s ∷ ys) h.2)

-- the line of one of the new rows
new-line : (u : Lists) (old rows : List Row) (i : ℕ) (x : Row) → u.rows ≡ old ++ rows → i < length rows → Any (λ l. l ≡ line_of_row (get_or rows i x)) (lines (problem_of u))
new-line u old rows i x e lt =
    let s = split-at rows i x lt in
    subst (λ (all : List Row). Any (λ l. l ≡ line_of_row (get_or rows i x)) (map line_of_row all ++ stay_lines 1001 u.stays))
    (sym (e ∙ ap (λ (xs : List Row). old ++ xs) s.2 ∙ sym (append_more old s.0 (get_or rows i x ∷ s.1)))) (row_among (old ++ s.0) (get_or rows i x) s.1 (stay_lines 1001 u.stays))

rows-listed : (u : Lists) (old rows : List Row) (new : List ℕ) → IsKept u → u.rows ≡ old ++ rows → All (λ r. IsLineListed u new (line_slot u (Held r.id))) rows → AreRowsListed u rows new
rows-listed u old rows new kept e h i x lt =
    let r : Row = get_or rows i x in
    let slot : IsLineSlot u (line_of_row (get_or rows i x)) = any_is (IsLineSlot u) (λ l. l ≡ line_of_row (get_or rows i x)) (lines (problem_of u)) kept.slots.lines (new-line u old rows i x e lt) (λ l s q. subst (IsLineSlot u) q s) in
    elim (h i x lt) [
      | inl free ↦ inl (λ side inside. ap (λ (q : Rel). side_share q side 1) (sym slot.rel)
          ∙ free side (is_some (standing_at u (line_slot u (Held (get_or rows i x).id))).side side (inside_stands u (record { row = Held (get_or rows i x).id; side = side }) inside)) 1)
      | inr has ↦ inr (λ c some ne. has c (kept.outside (line_slot u (Held (get_or rows i x).id)) c some ne).0.0 ne ((number_at_column c (row_at u (line_slot u (Held (get_or rows i x).id))) (part-row u (line_slot u (Held (get_or rows i x).id)) kept)).0 some))
    ]

first-marks : (P : Mark → Type 0) (xs ys : List Mark) → Each P (xs ++ ys) → Each P xs
first-marks P [] ys h = tt
first-marks P (x ∷ xs) ys h = (h.0, first-marks P xs ys h.1)

stay-inside : (p : Problem) (kept : List Mark) (rows : List Row) (at : List Mark) → BeginsWith p kept rows [] at → (c : ℕ) → IsIn c kept → IsIn c at
stay-inside p kept rows at b c i =
    contains_each (λ d. IsIn d at) kept c
    (first-marks (λ m. IsIn (place m) at) kept (b.news ++ map (λ (r : Row). over_mark r.id) []) (recursion_from_All (λ m. IsIn (place m) at) (kept ++ (b.news ++ map (λ (r : Row). over_mark r.id) [])) b.marks.1)) i

names-named : (u : Lists) (ws : List ℕ) → Each (λ w. IsNamed (problem_of u) (name_of (slot_at u w).owner)) ws → Each (IsNamed (problem_of u)) (names_of u ws)
names-named u [] h = tt
names-named u (w ∷ ws) h = (h.0, names-named u ws h.1)

pub added_consistent : (t u : Table) (rows : List Row) (old new : List ℕ) → IsConsistent t old → AreAlike u → lists_before u ≡ lists_before t → AreAllJoined rows (lists_of t) old (lists_of u) new → IsConsistent u new
added_consistent t u rows old new c alike before h =
    let a : Lists = lists_of t in
    let b : Lists = lists_of u in
    let slots : u.slots.items ≡ t.slots.items ++ map slot_of_row rows = h.joined.slots ∙ h.pushed.slots in
    let all : u.rows.items ≡ t.rows.items ++ rows = h.joined.rows_same ∙ h.pushed.rows in
    let problem : problem_of (lists_of u) ≡ with_rows rows (problem_of (lists_of t)) = ap₂ (λ (xs : List Row) (ys : List Stay). record { rows = xs; stays = ys }) all (h.joined.stays ∙ h.pushed.stays) in
    let longer : length t.slots.items ≤ length u.slots.items = subst (λ (xs : List Slot). length t.slots.items ≤ length xs) (sym slots) (longer-than t.slots.items (map slot_of_row rows)) in
    let was : Each (IsSlot (lists_of t)) old = recursion_from_All (IsSlot (lists_of t)) old c.slots in
    let each : Each (IsSlot (lists_of u)) new = each-contained (IsSlot (lists_of u)) new
    (λ w i. elim (h.joined.others w i) [
      | inl j ↦ let s = contained (IsSlot (lists_of t)) old w was j in (s.0, omega (arith, s.1, longer))
      | inr s ↦ (s.0.0, subst (λ (xs : List Slot). w < length xs) (sym h.joined.slots) s.0.1)
    ]) in
    let old_slot : (w : ℕ) → Contains old w → slot_at (lists_of u) w ≡ slot_at (lists_of t) w = λ w i. ap (λ (xs : List Slot). slice_index_or xs w nowhere) slots
    ∙ get_or_append_left t.slots.items (map slot_of_row rows) nowhere w (contained (IsSlot (lists_of t)) old w was i).1 in
    let names : Each (λ w. IsNamed (problem_of (lists_of u)) (name_of (slot_at (lists_of u) w).owner)) new = each-contained (λ w. IsNamed (problem_of (lists_of u)) (name_of (slot_at (lists_of u) w).owner)) new
    (λ w i. elim (h.joined.others w i) [
      | inl j ↦ subst (λ (x : Slot). IsNamed (problem_of (lists_of u)) (name_of x.owner)) (sym (old_slot w j))
          (subst (λ (p : Problem). IsNamed p (name_of (slot_at (lists_of t) w).owner)) (sym problem) (all_named (problem_of (lists_of t)) rows (name_of (slot_at (lists_of t) w).owner) (were_listed (lists_of t) old c.slots c.named w j).1))
      | inr s ↦ line_named (lists_of u) w s.1.0 h.kept.slots (ap (λ (xs : List Slot). (slice_index_or xs w nowhere).owner) h.joined.slots ∙ s.1.1)
    ]) in
    record {
      alike = alike;
      before = subst (All IsEarlier) (sym before) c.before;
      kept = h.kept;
      slots = All-from_recursion (IsSlot (lists_of u)) new each;
      named = All-from_recursion (IsNamed (problem_of (lists_of u))) (names_of (lists_of u) new) (names-named (lists_of u) new names);
      candidates = joined_candidates (lists_of t) (lists_of u) rows old new (kept_part (lists_of u) h.kept) problem
          old_slot
          (λ d i. subst (λ (at : List Mark). IsIn d at) (sym h.joined.marks) (stay-inside (problem_of h.mid) (marks_at (lists_of t)) rows (marks_at h.mid) h.begins d i))
          (subst (λ (at : List Mark). All (HasOneIn at) rows) (sym h.joined.marks) (begins_one_in (problem_of h.mid) (marks_at (lists_of t)) rows (marks_at h.mid) h.begins))
          h.joined.keeps
          (rows-listed (lists_of u) t.rows.items rows new h.kept all h.joined.listed)
          c.candidates;
    }
  where
    any_more : (P : Line → Type 0) (xs ys : List Row) (ls : List Line) → Any P (map line_of_row xs ++ ls) → Any P (map line_of_row (xs ++ ys) ++ ls)
    any_more P [] [] ls h = h
    any_more P [] (y ∷ ys) ls h = let i = any_more P [] ys ls h in (suc i.0, i.1, omega (arith, i.2), i.3, i.4)
    any_more P (x ∷ xs) ys ls (zero, d, lt, e, h) = (0, d, omega arith, e, h)
    any_more P (x ∷ xs) ys ls (suc k, d, lt, e, h) = let i = any_more P xs ys ls (k, d, omega (arith, lt), e, h) in (suc i.0, i.1, omega (arith, i.2), i.3, i.4)

    all_named : (p : Problem) (more : List Row) (name : RowName) → IsNamed p name → IsNamed (with_rows more p) name
    all_named p more name h = any_more (λ l. l.name ≡ name) p.rows more (stay_lines 1001 p.stays) h

    longer-than : (xs ys : List Slot) → length xs ≤ length (xs ++ ys)
    longer-than [] ys = let n : ℕ = length ys in omega arith
    longer-than (x ∷ xs) ys = let k = longer-than xs ys in omega (arith, k)

pub seen_stop : (t : Table) (listed : List ℕ) (rows : List Row) (stop : RunStop) → IsAddStop (seen_of (lists_of t)) rows stop → IsAddStop (view_of t listed) rows stop
seen_stop t listed rows (Conflict by) h = h
seen_stop t listed rows (Spent path) h = h
seen_stop t listed rows (Unfit at) h = h
seen_stop t listed rows OutOfMemory h = h

pub seen_fits : (t : Table) (listed : List ℕ) (rows : List Row) → AllSumsFit (seen_of (lists_of t)) rows → AllSumsFit (view_of t listed) rows
seen_fits t listed rows h = λ at stop. h at stop
