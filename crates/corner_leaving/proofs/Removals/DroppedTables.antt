-- What the functions that take a row or an attribute out find.
use Rattle.std.proofs.Common.{◌≡◌, ◌≢◌, ◌∙◌, ℕ, zero, suc, ◌+◌, ◌<◌, ◌++◌, List, [], ◌∷◌, map, length, length-set, get_or, refl, sym, ap, subst, arith, inl, inr, slice_index_or, AllPairs, Any, None}
use Rattle.std.specs.List.{filter, remove}
use Rattle.std.proofs.lemmas.Bool.{cases_eq}
use Rattle.row_core.proofs.Places.{coefficient_at}
use Rattle.version_lists.specs.Matrices.{IsBelow}
use Rattle.problem_core.specs.declared.parts.Mark.{Mark}
use Rattle.problem_core.specs.declared.parts.RowName.{RowName}
use Rattle.problem_core.specs.declared.parts.RowName.TheVariants.{Held, Stay as StayOf}
use Rattle.problem_core.specs.declared.parts.Side.{Side}
use Rattle.problem_core.specs.declared.parts.Side.TheVariants.{Under, Over}
use Rattle.problem_core.specs.declared.parts.Stay.{Stay}
use Rattle.problem_core.specs.Layout.{Line, Row, line_of_row, stay_lines}
use Rattle.problem_core.specs.Corners.{IsIn, place, place_of}
use Rattle.corner_laws.specs.Lifts.{HasOneIn}
use Rattle.corner_leaving.specs.declared.leaving.Leaver.{Leaver}
use Rattle.corner_leaving.specs.declared.leaving.Left.{Left}
use Rattle.corner_table.specs.declared.table.TheConstants.{LEVELS}
use Rattle.corner_joins.specs.Additions.CostJoins.{IsFreeLine}
use Rattle.corner_leaving.specs.Dropping.{AreLeftListed, dropped, dropped_attr, freed, with_left}
use Rattle.corner_table.specs.Tables.{no_slot}
use Rattle.corner_table.specs.Kept.{IsKept}
use Rattle.corner_table.specs.Reads.Listing.{HasLeft}
use Rattle.corner_leaving.specs.Leaving.{IsLeaver, IsLevelLeft}
use Rattle.corner_table.specs.Tables.{IsListedOf, Lists, attr_slot, marks_at, problem_of, row_at, standing_at}
use Rattle.problem_core.specs.Window.{zero_fraction}
use Rattle.corner_view.specs.Seen.{IsNamed}
use Rattle.corner_leaving.proofs.Removals.DroppedLists.{other_than, removed}
use Rattle.corner_table.proofs.Basics.ListFacts.{to_map}
use Rattle.corner_table.proofs.Readings.WritingFacts.{in_mark}
use Rattle.corner_view.proofs.Facts.{mark_named}

pub left_below : (t : Lists) (leaver : Leaver) (left : Left) → IsKept t → leaver.level < LEVELS → IsLevelLeft t leaver left → IsBelow (length t.slots) left.change.row
left_below t leaver left kept lt h = λ i d within.
    elim (cases_eq (get_or left.change.row i d).col leaver.level) [
      | inl e ↦ let n = kept.slots.levels in omega (arith, e, n, lt)
      | inr ne ↦
          (h.columns (get_or left.change.row i d).col
          (λ none. h.row_kept.lowest.nonzero i d within (sym (coefficient_at left.change.row i d h.row_kept.lowest.rising within) ∙ none)) ne).0.1
    ]

pub leaver_low : (t : Lists) (leaver : Leaver) (r : Row) → IsLeaver t r leaver → leaver.level < LEVELS
leaver_low t leaver r is = let e = is.level_is in omega (arith, e)

-- the row at its place goes
pub row_removed : (rows : List Row) (i id : ℕ) → AllPairs (λ (r s : Row). r.id < s.id) rows → i < length rows → ((r : Row) → (slice_index_or rows i r).id ≡ id) → remove rows i ≡ filter (other_than (λ (r : Row). r.id) id) rows
row_removed rows i id rising lt is = removed (λ (r : Row). r.id) id rows i (λ k j d less within e. let h = rising k j d less within in omega (arith, h, e)) lt is

-- a mark of a row is inside: the row is held
held-line : (rows : List Row) (id base : ℕ) (stays : List Stay) → Any (λ l. l.name ≡ Held id) (map line_of_row rows ++ stay_lines base stays) → (r : Row) × (r.id ≡ id) × Any (λ s. s ≡ r) rows
held-line [] id base stays i = absurd (no-stay base stays i)
  where
    is-held : RowName → Type 0
    is-held (Held n) = Unit {0}
    is-held (StayOf a) = ⊥

    no-stay : (base : ℕ) (stays : List Stay) → Any (λ l. l.name ≡ Held id) (stay_lines base stays) → ⊥
    no-stay base [] (k, x, lt, e, h) = absurd (omega (arith, lt))
    no-stay base (s ∷ stays) (zero, x, lt, e, h) = subst is-held (sym (ap (λ (l : Line). l.name) e ∙ h)) tt
    no-stay base (s ∷ stays) (suc k, x, lt, e, h) = no-stay (base + 1) stays (k, x, omega (arith, lt), e, h)
held-line (r ∷ rows) id base stays (zero, x, lt, e, h) = (r, held-number (ap (λ (l : Line). l.name) e ∙ h), (0, r, omega arith, refl, refl))
  where
    number-of : RowName → ℕ
    number-of (Held n) = n
    number-of (StayOf a) = 0

    held-number : Held r.id ≡ Held id → r.id ≡ id
    held-number q = ap number-of q
held-line (r ∷ rows) id base stays (suc k, x, lt, e, h) =
    let i = held-line rows id base stays (k, x, omega (arith, lt), e, h) in
    (i.0, i.1, (suc i.2.0, i.2.1, (let w = i.2.2 in omega (arith, w)), i.2.3, i.2.4))

pub inside_row : (t : Lists) (id : ℕ) → IsKept t → Any (λ (m : Mark). m.row ≡ Held id) (marks_at t) → (r : Row) × (r.id ≡ id) × Any (λ s. s ≡ r) t.rows × HasOneIn (marks_at t) r
inside_row t id kept (k, m, lt, e, is) =
    let inside : IsIn (place m) (marks_at t) = to_map place (marks_at t) m (k, lt, e) in
    let named : IsNamed (problem_of t) (Held id) = subst (IsNamed (problem_of t)) is (mark_named (problem_of t) m (in_mark t m kept inside)) in
    let r = held-line t.rows id 1001 t.stays named in
    (r.0, r.1, r.2, one r.0 m.side (subst (λ (n : RowName). IsIn (place_of n m.side) (marks_at t)) (is ∙ ap Held (sym r.1)) inside))
  where
    one : (r : Row) (side : Side) → IsIn (place_of (Held r.id) side) (marks_at t) → HasOneIn (marks_at t) r
    one r Under i = inl i
    one r Over i = inr i

-- ---- what is listed

pub listed_free : (t : Lists) (line : ℕ) (old mid : List ℕ) → HasLeft line old mid → IsFreeLine t line → AreLeftListed t line old mid
listed_free t line old mid left free = record {
  gone = left.gone;
  keeps = left.keeps;
  listed = inl free;
  others = λ w has. inl (left.others w has);
}

pub listed_row : (t : Lists) (line : ℕ) (old mid new : List ℕ) → HasLeft line old mid → IsListedOf line (row_at t line) mid new → AreLeftListed t line old new
listed_row t line old mid new left row = record {
  gone = λ has. elim (row.others line has) [
    | inl before ↦ left.gone before
    | inr (up, ne, column) ↦ ne refl
  ];
  keeps = λ w ne has. row.keeps w (left.keeps w ne has);
  listed = inr row.has;
  others = λ w has. elim (row.others w has) [
    | inl before ↦ inl (left.others w before)
    | inr new ↦ inr new
  ];
}

-- ---- lengths

pub freed_slots : (t : Lists) (w : ℕ) → length (freed t w).slots ≡ length t.slots
freed_slots t w = length-set t.slots w no_slot

pub freed_standings : (t : Lists) (w : ℕ) → length (freed t w).standings ≡ length t.standings
freed_standings t w = length-set t.standings w (record { side = None; value = zero_fraction })

pub freed_rows : (t : Lists) (w : ℕ) → length (freed t w).matrix ≡ length t.matrix
freed_rows t w = length-set t.matrix w []

pub left_standings : (t : Lists) (left : Left) → length (with_left t left).standings ≡ length t.standings
left_standings t left = length-set t.standings left.change.at (record { side = (standing_at t left.change.at).side; value = left.change.value })

pub left_rows : (t : Lists) (left : Left) → length (with_left t left).matrix ≡ length t.matrix
left_rows t left = length-set t.matrix left.change.at left.change.row

-- ---- the lists

abbrev with_rows_of : List Row → Lists → Lists
with_rows_of rows t = record {
  rows = rows;
  stays = t.stays;
  slots = t.slots;
  standings = t.standings;
  matrix = t.matrix;
  attr_slots = t.attr_slots;
  row_slots = t.row_slots;
  priorities = t.priorities;
}

abbrev with_stays_of : List Stay → Lists → Lists
with_stays_of stays t = record {
  rows = t.rows;
  stays = stays;
  slots = t.slots;
  standings = t.standings;
  matrix = t.matrix;
  attr_slots = t.attr_slots;
  row_slots = t.row_slots;
  priorities = t.priorities;
}

pub line_dropped : (t one two : Lists) (rows : List Row) (leaver : Leaver) (left : Left) (at : ℕ) → AllPairs (λ (r s : Row). r.id < s.id) t.rows → at < length t.rows → ((r : Row) → (slice_index_or t.rows at r).id ≡ leaver.id)
    → one ≡ with_left t left → two ≡ freed one leaver.line → rows ≡ remove two.rows at → with_rows_of rows two ≡ dropped t leaver left
line_dropped t one two rows leaver left at rising lt is first second more =
    let both : two ≡ freed (with_left t left) leaver.line = second ∙ ap (λ (x : Lists). freed x leaver.line) first in
    ap (λ (xs : List Row). with_rows_of xs two) (more ∙ ap (λ (x : Lists). remove x.rows at) both ∙ row_removed t.rows at leaver.id rising lt is)
    ∙ ap (λ (x : Lists). with_rows_of (filter (other_than (λ (r : Row). r.id) leaver.id) t.rows) x) both

pub stay_removed : (stays : List Stay) (i attr : ℕ) → AllPairs (λ (s r : Stay). s.attr ≢ r.attr) stays → i < length stays → ((s : Stay) → (slice_index_or stays i s).attr ≡ attr) → remove stays i ≡ filter (other_than (λ (s : Stay). s.attr) attr) stays
stay_removed stays i attr apart lt is = removed (λ (s : Stay). s.attr) attr stays i apart lt is

pub stay_dropped : (t one two : Lists) (stays : List Stay) (attr i : ℕ) → AllPairs (λ (s r : Stay). s.attr ≢ r.attr) t.stays → i < length t.stays → ((s : Stay) → (slice_index_or t.stays i s).attr ≡ attr)
    → one ≡ freed t (attr_slot t attr) → two ≡ freed one (attr_slot t attr + 1) → stays ≡ remove two.stays i → with_stays_of stays two ≡ dropped_attr t attr
stay_dropped t one two stays attr i apart lt is first second more =
    let both : two ≡ freed (freed t (attr_slot t attr)) (attr_slot t attr + 1) = second ∙ ap (λ (x : Lists). freed x (attr_slot t attr + 1)) first in
    ap (λ (xs : List Stay). with_stays_of xs two) (more ∙ ap (λ (x : Lists). remove x.stays i) both ∙ stay_removed t.stays i attr apart lt is)
    ∙ ap (λ (x : Lists). with_stays_of (filter (other_than (λ (s : Stay). s.attr) attr) t.stays) x) both
