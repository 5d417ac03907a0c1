-- Rows join the costs of their levels one by one.
use Rattle.std.proofs.Common.{◌≡◌, ◌∙◌, inl, inr, ℕ, zero, suc, ◌+◌, ◌-◌, ◌<◌, ◌≤◌, ◌++◌, Bool, true, false, cond, nat_eq, List, [], ◌∷◌, map, length, take, drop, refl, sym, ap, ap₂, subst, arith, All, Any, Contains, slice_index_or, get_or, eq-eqb, ne_eqb, pos}
use Rattle.std.specs.List.{filter}
use Rattle.std.proofs.lemmas.Bool.{cases_eq}
use Rattle.std.proofs.lemmas.List.Elements.{All-push}
use Rattle.std.proofs.lemmas.Bool.{cases_lt}
use Rattle.std.proofs.lemmas.List.{get_or_past, append-nil as append_none}
use Rattle.row_core.specs.Rows.{IsKeptRow}
use Rattle.version_lists.proofs.Indexing.{none_kept, number_at_column}
use Rattle.problem_core.specs.declared.parts.Rel.TheVariants.{Eq}
use Rattle.problem_core.specs.declared.parts.RowName.{RowName}
use Rattle.corner_view.specs.declared.types.Owner.TheVariants.{Level as LevelSlot}
use Rattle.corner_table.specs.declared.table.Slot.{Slot}
use Rattle.corner_table.specs.Reads.LevelNumbers.{side_share}
use Rattle.version_lists.specs.Lists.{HasColumn}
use Rattle.cert_core.specs.declared.stops.RunStop.{RunStop}
use Rattle.cert_core.specs.declared.stops.RunStop.TheVariants.{Conflict, Unfit, Spent, OutOfMemory}
use Rattle.problem_core.specs.declared.parts.Mark.{Mark}
use Rattle.problem_core.specs.declared.parts.RowName.TheVariants.{Held}
use Rattle.problem_core.specs.declared.parts.Level.{Level}
use Rattle.problem_core.specs.declared.parts.Level.TheVariants.{Priority as PriorityLevel}
use Rattle.problem_core.specs.declared.stops.Quantity.{Quantity}
use Rattle.problem_core.specs.declared.stops.Quantity.TheVariants.{Plain, Terms, Rows, Shifts}
use Rattle.frac_core.specs.declared.memory.Stop.TheVariants.{Refused}
use Rattle.problem_core.specs.declared.parts.Stay.{Stay}
use Rattle.problem_core.specs.Layout.{Line, Row, line_of_row, lines, stay_lines}
use Rattle.corner_view.specs.Seen.{IsNamed}
use Rattle.corner_joins.specs.Additions.Parts.{IsRowsStop}
use Rattle.corner_table.proofs.Readings.SlotFacts.{any_impl}
use Rattle.corner_joins.proofs.Costs.CostLines.{row_among}
use Rattle.problem_core.specs.Unfit.{IsUnfitRows}
use Rattle.corner_laws.specs.Lifts.{HasOneIn}
use Rattle.corner_lines.specs.Levels.LevelJoins.{level_count}
use Rattle.corner_table.specs.declared.table.Priority.{Priority}
use Rattle.corner_table.specs.declared.table.TheConstants.{LEVELS}
use Rattle.corner_table.specs.Tables.{Lists, line_slot, marks_at, marks_over, priority_at, problem_of, row_at, standing_at}
use Rattle.corner_view.specs.declared.types.Owner.TheVariants.{Line as LineSlot}
use Rattle.corner_table.specs.Kept.{IsKept}
use Rattle.corner_joins.proofs.Attributes.AttrJoins.{nowhere}
use Rattle.corner_joins.specs.Additions.Parts.{IsPartlyKept}
use Rattle.corner_joins.specs.Additions.CostJoins.{AreCostsJoined, AreToJoin, IsCostJoined, IsCostsStop, IsJoining, IsLineListed, IsLineCostStop, IsNextListed, home_at, with_cost}
use Rattle.corner_table.proofs.Readings.MarkingFacts.{marks_inside}
use Rattle.corner_view.proofs.Facts.{append_more}
use Rattle.corner_table.proofs.Readings.SlotFacts.{named_slot}
use Rattle.corner_joins.proofs.Additions.PartFacts.{part_kept}
use Rattle.corner_joins.proofs.Additions.RowStops.{next_rows, this_row}
use Rattle.corner_joins.proofs.Costs.CostEnds.{cost_joined_kept, held_home, joining_below, joining_held}
use Rattle.corner_joins.proofs.Costs.CostKept.{cost_marks, cost_priority, cost_priority_here, cost_row, cost_side, cost_standing, high}
use Rattle.frac_core.proofs.Lists.{take-drop as take_drop}

-- ---- the next row

pub this_joins : (t : Lists) (done : List Row) (r : Row) (rest : List Row) → AreToJoin t done (r ∷ rest) → IsJoining t r (line_slot t (Held r.id))
this_joins t done r rest h = record {
  next = (done, rest, h.rows, h.counts (1000 - r.rank) (let n : ℕ = r.rank in omega arith));
  inside = h.inside 0 r (omega arith);
  slot_is = refl;
}

one-count : (k : ℕ) (r : Row) → level_count k (r ∷ []) ≡ cond (nat_eq (1000 - r.rank) k) 1 0
one-count k r = by-case (nat_eq (1000 - r.rank) k) r
  where
    by-case : (b : Bool) (r : Row) → length (cond b (r ∷ []) []) ≡ cond b 1 0
    by-case true r = refl
    by-case false r = refl

filter-append : (p : Row → Bool) (xs ys : List Row) → length (filter p (xs ++ ys)) ≡ length (filter p xs) + length (filter p ys)
filter-append p [] ys = let n : ℕ = length (filter p ys) in omega arith
filter-append p (x ∷ xs) ys = either (p x) x (filter p (xs ++ ys)) (filter p xs) (length (filter p ys)) (filter-append p xs ys)
  where
    either : (b : Bool) (x : Row) (all some : List Row) (n : ℕ) → length all ≡ length some + n → length (cond b (x ∷ all) all) ≡ length (cond b (x ∷ some) some) + n
    either true x all some n e = omega (arith, e)
    either false x all some n e = e

more-count : (k : ℕ) (done : List Row) (r : Row) → level_count k (done ++ (r ∷ [])) ≡ level_count k done + cond (nat_eq (1000 - r.rank) k) 1 0
more-count k done r = filter-append (λ s. nat_eq (1000 - s.rank) k) done (r ∷ []) ∙ ap (λ (n : ℕ). level_count k done + n) (one-count k r)

counts-next : (t u : Lists) (done : List Row) (r : Row) (rest : List Row) (line : ℕ) → IsPartlyKept t → (h : AreToJoin t done (r ∷ rest)) → (j : IsJoining t r line) → IsCostJoined t line u → (k : ℕ) → k < LEVELS → (priority_at u k).rows ≡ level_count k (done ++ (r ∷ []))
counts-next t u done r rest line kept h j c k lt =
    let home = held_home t r line kept (joining_held t r line j) in
    let here = joining_below t r line kept j in
    ap (λ (v : Lists). (priority_at v k).rows) c.lists
    ∙ elim (cases_eq k (home_at t line)) [
      | inl e ↦
          ap (λ (n : ℕ). (priority_at (with_cost t (home_at t line) c.change.row c.change.value c.unit) n).rows) e
          ∙ ap (λ (p : Priority). p.rows) (cost_priority_here t (home_at t line) c.change.row c.change.value c.unit kept.slots here)
          ∙ ap (λ (n : ℕ). (priority_at t n).rows + 1) (sym e)
          ∙ ap (λ (n : ℕ). n + 1) (h.counts k lt)
          ∙ sym (more-count k done r ∙ ap (λ (b : Bool). level_count k done + cond b 1 0) (eq-eqb (1000 - r.rank) k (sym (e ∙ home))))
      | inr ne ↦
          ap (λ (p : Priority). p.rows) (cost_priority t (home_at t line) c.change.row c.change.value c.unit k ne)
          ∙ h.counts k lt
          ∙ sym (more-count k done r ∙ ap (λ (b : Bool). level_count k done + cond b 1 0) (ne_eqb (1000 - r.rank) k (λ q. ne (sym q ∙ sym home))) ∙ plain (level_count k done))
    ]
  where
    plain : (n : ℕ) → n + 0 ≡ n
    plain n = omega arith

joined-marks : (t u : Lists) (r : Row) (line : ℕ) → IsPartlyKept t → IsJoining t r line → IsCostJoined t line u → marks_at u ≡ marks_at t
joined-marks t u r line kept j c = ap marks_at c.lists ∙ cost_marks t (home_at t line) c.change.row c.change.value c.unit kept.slots (joining_below t r line kept j)

pub next_to_join : (t u : Lists) (done : List Row) (r : Row) (rest : List Row) (line : ℕ) → IsPartlyKept t → AreToJoin t done (r ∷ rest) → IsJoining t r line → IsCostJoined t line u → AreToJoin u (done ++ (r ∷ [])) rest
next_to_join t u done r rest line kept h j c = record {
  rows = ap (λ (v : Lists). v.rows) c.lists ∙ h.rows ∙ sym (append_more done (r ∷ []) rest);
  counts = counts-next t u done r rest line kept h j c;
  inside = subst (λ (at : List Mark). All (HasOneIn at) rest) (sym (joined-marks t u r line kept j c)) (λ i x lt. h.inside (suc i) x (omega (arith, lt)));
}

-- ---- what is the same

next-row-same : (t u : Lists) (r : Row) (line : ℕ) → IsPartlyKept t → IsJoining t r line → IsCostJoined t line u → (w : ℕ) → LEVELS ≤ w → row_at u w ≡ row_at t w
next-row-same t u r line kept j c w up = ap (λ (v : Lists). row_at v w) c.lists ∙ cost_row t (home_at t line) c.change.row c.change.value c.unit w (high (home_at t line) w (joining_below t r line kept j) up)

next-side-same : (t u : Lists) (r : Row) (line : ℕ) → IsPartlyKept t → IsJoining t r line → IsCostJoined t line u → (w : ℕ) → (standing_at u w).side ≡ (standing_at t w).side
next-side-same t u r line kept j c w = ap (λ (v : Lists). (standing_at v w).side) c.lists ∙ cost_side t (home_at t line) c.change.row c.change.value c.unit w kept.slots (joining_below t r line kept j)

next-value-same : (t u : Lists) (r : Row) (line : ℕ) → IsPartlyKept t → IsJoining t r line → IsCostJoined t line u → (w : ℕ) → LEVELS ≤ w → standing_at u w ≡ standing_at t w
next-value-same t u r line kept j c w up = ap (λ (v : Lists). standing_at v w) c.lists ∙ cost_standing t (home_at t line) c.change.row c.change.value c.unit w (high (home_at t line) w (joining_below t r line kept j) up)

part_row : (t : Lists) (w : ℕ) → IsPartlyKept t → IsKeptRow (row_at t w)
part_row t w kept = elim (cases_lt w (length t.matrix)) [
  | inl lt ↦ kept.matrix w [] lt
  | inr past ↦ subst IsKeptRow (sym (get_or_past t.matrix w [] past)) none_kept
]

-- what was listed is
still-listed : (t u : Lists) (old new : List ℕ) (w : ℕ) → u.slots ≡ t.slots → row_at u w ≡ row_at t w → (standing_at u w).side ≡ (standing_at t w).side → ((c : ℕ) → Contains old c → Contains new c) → IsLineListed t old w → IsLineListed u new w
still-listed t u old new w slots row side keeps (inl free) =
    inl (λ s e n. ap (λ (xs : List Slot). side_share (slice_index_or xs w (record { owner = LevelSlot; home = 0; rank = 0; weight = pos 1; scale = pos 1; rel = Eq })).rel s n) slots ∙ free s (sym side ∙ e) n)
still-listed t u old new w slots row side keeps (inr has) = inr (λ c up ne h. keeps c (has c up ne (subst (HasColumn c) row h)))

pub one_joined : (done : List Row) (t0 t u : Lists) (listed0 old new : List ℕ) (r : Row) → IsPartlyKept t → IsPartlyKept u → (j : IsJoining t r (line_slot t (Held r.id))) → IsCostJoined t (line_slot t (Held r.id)) u → IsNextListed u (line_slot t (Held r.id)) old new
    → All (λ s. LEVELS ≤ line_slot t (Held s.id)) done → LEVELS ≤ line_slot t (Held r.id) → AreCostsJoined done t0 listed0 t old → AreCostsJoined (done ++ (r ∷ [])) t0 listed0 u new
one_joined done t0 t u listed0 old new r kept after j c listed high_done up h =
    let line : ℕ = line_slot t (Held r.id) in
    let same : line_slot u ≡ line_slot t = ap line_slot c.lists in
    let slots : u.slots ≡ t.slots = ap (λ (v : Lists). v.slots) c.lists in
    record {
      rows_same = ap (λ (v : Lists). v.rows) c.lists ∙ h.rows_same;
      stays = ap (λ (v : Lists). v.stays) c.lists ∙ h.stays;
      slots = slots ∙ h.slots;
      attr_slots = ap (λ (v : Lists). v.attr_slots) c.lists ∙ h.attr_slots;
      row_slots = ap (λ (v : Lists). v.row_slots) c.lists ∙ h.row_slots;
      marks = joined-marks t u r (line_slot t (Held r.id)) kept j c ∙ h.marks;
      lines = λ w high. next-row-same t u r (line_slot t (Held r.id)) kept j c w high ∙ h.lines w high;
      sides = λ w. next-side-same t u r (line_slot t (Held r.id)) kept j c w ∙ h.sides w;
      values = λ w high. next-value-same t u r (line_slot t (Held r.id)) kept j c w high ∙ h.values w high;
      keeps = λ d i. listed.keeps d (h.keeps d i);
      listed = All-push (λ s. IsLineListed u new (line_slot u (Held s.id))) done r
          (λ i x lt. subst (λ (f : RowName → ℕ). IsLineListed u new (f (Held (get_or done i x).id))) (sym same)
          (still-listed t u old new (line_slot t (Held (get_or done i x).id)) slots (next-row-same t u r (line_slot t (Held r.id)) kept j c (line_slot t (Held (get_or done i x).id)) (high_done i x lt))
          (next-side-same t u r (line_slot t (Held r.id)) kept j c (line_slot t (Held (get_or done i x).id))) listed.keeps (h.listed i x lt)))
          (subst (λ (f : RowName → ℕ). IsLineListed u new (f (Held r.id))) (sym same) listed.listed);
      others = λ d i. elim (listed.others d i) [
        | inl before ↦ h.others d before
        | inr (high, ne, has) ↦
            let out = after.outside (line_slot t (Held r.id)) d ((number_at_column d (row_at u (line_slot t (Held r.id))) (part_row u (line_slot t (Held r.id)) after)).1 has) ne in
            inr (subst (λ (xs : List Slot). ((LEVELS ≤ d) × (d < length xs)) × ((name : RowName) × ((slice_index_or xs d nowhere).owner ≡ LineSlot name))) (slots ∙ h.slots) (out.0, out.2))
      ];
    }

-- ---- the loop

pub to_join_named : (t : Lists) (done rest : List Row) (r : Row) → t.rows ≡ done ++ (r ∷ rest) → IsNamed (problem_of t) (Held r.id)
to_join_named t done rest r e = any_impl (λ l. l ≡ line_of_row r) (λ l. l.name ≡ Held r.id) (lines (problem_of t)) (λ l q. ap (λ (k : Line). k.name) q)
    (subst (λ (rows : List Row). Any (λ l. l ≡ line_of_row r) (map line_of_row rows ++ stay_lines 1001 t.stays)) (sym e) (row_among done r rest (stay_lines 1001 t.stays)))

pub rows_high : (t : Lists) (first done rest : List Row) → IsPartlyKept t → t.rows ≡ (first ++ done) ++ rest → All (λ s. LEVELS ≤ line_slot t (Held s.id)) done
rows_high t first done rest kept e i x lt =
    (named_slot t (Held (get_or done i x).id) kept.slots (among-named t first done rest i x lt e)).0
  where
    split : (xs : List Row) (i : ℕ) (x : Row) → i < length xs → (before : List Row) × (after : List Row) × (xs ≡ before ++ (get_or xs i x ∷ after))
    split [] i x lt = absurd (omega (arith, lt))
    split (s ∷ xs) zero x lt = ([], xs, refl)
    split (s ∷ xs) (suc i) x lt = let h = split xs i x (omega (arith, lt)) in (s ∷ h.0, h.1, ap (λ (ys : List Row). s ∷ ys) h.2)

    among-named : (t : Lists) (first done rest : List Row) (i : ℕ) (x : Row) → i < length done → t.rows ≡ (first ++ done) ++ rest → IsNamed (problem_of t) (Held (get_or done i x).id)
    among-named t first done rest i x lt e =
        let s = split done i x lt in
        to_join_named t (first ++ s.0) (s.1 ++ rest) (get_or done i x)
        (e ∙ ap (λ (ys : List Row). (first ++ ys) ++ rest) s.2 ∙ ap (λ (ys : List Row). ys ++ rest) (sym (append_more first s.0 (get_or done i x ∷ s.1))) ∙ append_more (first ++ s.0) (get_or done i x ∷ s.1) rest)

pub all_kept : (t : Lists) (done : List Row) → IsPartlyKept t → AreToJoin t done [] → IsKept t
all_kept t done kept h =
    part_kept t kept (λ k lt. h.counts k lt ∙ sym (ap (λ (rows : List Row). level_count k rows) (h.rows ∙ append_none done)))

-- where one of them stops
pub costs_stop : (t0 t : Lists) (first done : List Row) (r : Row) (rest rows : List Row) (listed old : List ℕ) (stop : RunStop) → rows ≡ done ++ (r ∷ rest) → IsPartlyKept t → AreToJoin t (first ++ done) (r ∷ rest) → AreCostsJoined done t0 listed t old
    → IsLineCostStop t (line_slot t (Held r.id)) stop → IsCostsStop t0 first rows stop
costs_stop t0 t first done r rest rows listed old (Conflict by) parts kept h same stop = absurd stop
costs_stop t0 t first done r rest rows listed old (Spent path) parts kept h same stop = absurd stop
costs_stop t0 t first done r rest rows listed old OutOfMemory parts kept h same stop = tt
costs_stop t0 t first done r rest rows listed old (Unfit at) parts kept h same (path, unfit) =
    (path ∙ ap (λ (ms : List Mark). record { dual = false; corner = ms; swaps = [] }) (over_same t t0 same.marks), (done, r, rest, parts, by_quantity at.quantity (unfit r (this_joins t (first ++ done) r rest h))))
  where
    over_same : (t t0 : Lists) → marks_at t ≡ marks_at t0 → marks_over t [] ≡ marks_over t0 []
    over_same t t0 e = marks_inside t ∙ e ∙ sym (marks_inside t0)

    problem_same : problem_of t ≡ problem_of t0
    problem_same = ap₂ (λ (rows : List Row) (stays : List Stay). record { rows = rows; stays = stays }) same.rows_same same.stays

    by_quantity : (q : Quantity) → IsRowsStop t r (Refused q) → (j : ℕ) × (q ≡ Rows (PriorityLevel r.rank) j) × (j ≡ level_count (1000 - r.rank) (first ++ done) + 1) × IsUnfitRows (problem_of t0) (marks_at t0) (PriorityLevel r.rank) j
    by_quantity (Plain what) h = absurd h
    by_quantity (Terms mark j) h = absurd h
    by_quantity (Shifts what j) h = absurd h
    by_quantity (Rows level j) (a, b, c) = (
      j,
      ap (λ (l : Level). Rows l j) a,
      b ∙ ap (λ (n : ℕ). n + 1) (h.counts (1000 - r.rank) (let n : ℕ = r.rank in omega arith)),
      subst (λ (l : Level). IsUnfitRows (problem_of t0) (marks_at t0) l j) a (subst (λ (ms : List Mark). IsUnfitRows (problem_of t0) ms level j) same.marks (subst (λ p. IsUnfitRows p (marks_at t) level j) problem_same c)),
    )

-- ---- as the code has it

pub here_joins : (t : Lists) (first rows : List Row) (i : ℕ) (r : Row) → i < length rows → r ≡ slice_index_or rows i r → AreToJoin t (first ++ take i rows) (drop i rows) → AreToJoin t (first ++ take i rows) (r ∷ drop (i + 1) rows)
here_joins t first rows i r lt e h = subst (λ (xs : List Row). AreToJoin t (first ++ take i rows) xs) (this_row rows i r lt e) h

pub joins_at : (t : Lists) (done : List Row) (r : Row) (rest : List Row) (line : ℕ) → line ≡ line_slot t (Held r.id) → AreToJoin t done (r ∷ rest) → IsJoining t r line
joins_at t done r rest line e h = subst (IsJoining t r) (sym e) (this_joins t done r rest h)

pub step_joins : (t u : Lists) (first rows : List Row) (i : ℕ) (r : Row) (line : ℕ) → IsPartlyKept t → i < length rows → r ≡ slice_index_or rows i r → line ≡ line_slot t (Held r.id) → IsCostJoined t line u → AreToJoin t (first ++ take i rows) (drop i rows) → AreToJoin u (first ++ take (i + 1) rows) (drop (i + 1) rows)
step_joins t u first rows i r line kept lt e at c h =
    let here = here_joins t first rows i r lt e h in
    subst (λ (xs : List Row). AreToJoin u xs (drop (i + 1) rows)) (append_more first (take i rows) (r ∷ []) ∙ ap (λ (xs : List Row). first ++ xs) (next_rows rows i r lt e))
    (next_to_join t u (first ++ take i rows) r (drop (i + 1) rows) line kept here (joins_at t (first ++ take i rows) r (drop (i + 1) rows) line at here) c)

pub step_joined : (t0 t u : Lists) (first rows : List Row) (i : ℕ) (r : Row) (line : ℕ) (listed0 old new : List ℕ) → IsPartlyKept t → i < length rows → r ≡ slice_index_or rows i r → line ≡ line_slot t (Held r.id) → IsCostJoined t line u → IsNextListed u line old new
    → AreToJoin t (first ++ take i rows) (drop i rows) → AreCostsJoined (take i rows) t0 listed0 t old → AreCostsJoined (take (i + 1) rows) t0 listed0 u new
step_joined t0 t u first rows i r line listed0 old new kept lt e at c listed h same =
    let here = here_joins t first rows i r lt e h in
    let j = this_joins t (first ++ take i rows) r (drop (i + 1) rows) here in
    let there : IsCostJoined t (line_slot t (Held r.id)) u = subst (λ (w : ℕ). IsCostJoined t w u) at c in
    subst (λ (xs : List Row). AreCostsJoined xs t0 listed0 u new) (next_rows rows i r lt e)
    (one_joined (take i rows) t0 t u listed0 old new r kept (cost_joined_kept t u r (line_slot t (Held r.id)) kept j there) j there (subst (λ (w : ℕ). IsNextListed u w old new) at listed)
    (rows_high t first (take i rows) (r ∷ drop (i + 1) rows) kept here.rows) (named_slot t (Held r.id) kept.slots (to_join_named t (first ++ take i rows) (drop (i + 1) rows) r here.rows)).0 same)

pub step_kept : (t u : Lists) (first rows : List Row) (i : ℕ) (r : Row) (line : ℕ) → IsPartlyKept t → i < length rows → r ≡ slice_index_or rows i r → line ≡ line_slot t (Held r.id) → IsCostJoined t line u → AreToJoin t (first ++ take i rows) (drop i rows) → IsPartlyKept u
step_kept t u first rows i r line kept lt e at c h =
    let here = here_joins t first rows i r lt e h in
    cost_joined_kept t u r line kept (joins_at t (first ++ take i rows) r (drop (i + 1) rows) line at here) c

pub step_stop : (t0 t : Lists) (first rows : List Row) (i : ℕ) (r : Row) (line : ℕ) (listed old : List ℕ) (stop : RunStop) → IsPartlyKept t → i < length rows → r ≡ slice_index_or rows i r → line ≡ line_slot t (Held r.id) → AreToJoin t (first ++ take i rows) (drop i rows)
    → AreCostsJoined (take i rows) t0 listed t old → IsLineCostStop t line stop → IsCostsStop t0 first rows stop
step_stop t0 t first rows i r line listed old stop kept lt e at h same is =
    costs_stop t0 t first (take i rows) r (drop (i + 1) rows) rows listed old stop (sym (ap (λ (xs : List Row). take i rows ++ xs) (sym (this_row rows i r lt e)) ∙ take_drop rows i)) kept (here_joins t first rows i r lt e h) same
    (subst (λ (w : ℕ). IsLineCostStop t w stop) at is)

pub last_kept : (t : Lists) (first rows : List Row) (i : ℕ) → IsPartlyKept t → length rows ≤ i → AreToJoin t (first ++ take i rows) (drop i rows) → IsKept t
last_kept t first rows i kept le h = all_kept t (first ++ take i rows) kept (subst (AreToJoin t (first ++ take i rows)) (none-left rows i le) h)
  where
    none-left : (xs : List Row) (i : ℕ) → length xs ≤ i → drop i xs ≡ []
    none-left [] zero le = refl
    none-left [] (suc i) le = refl
    none-left (x ∷ xs) zero le = absurd (omega (arith, le))
    none-left (x ∷ xs) (suc i) le = none-left xs i (omega (arith, le))
