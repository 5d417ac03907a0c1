-- What the lists keep where an attribute that no row names is taken out.
use Rattle.std.proofs.Common.{◌≡◌, ◌≢◌, ◌∙◌, ◌⊎◌, ℕ, zero, suc, ◌+◌, ◌*◌, ◌^◌, ◌<◌, ◌≤◌, ◌++◌, Bool, false, cond, nat_eq, List, [], ◌∷◌, map, length, length-set, slice_set, refl, sym, ap, ap₂, subst, arith, inl, inr, ℤ, pos, ◌*ℤ◌, ◌+ℤ◌, ◌-ℤ◌, neg_ℤ, ne_eqb, slice_index_or, All, Any, Some, None}
use Rattle.std.specs.declared.option.Option.{Option}
use Rattle.std.specs.List.{AllByRecursion as Each, filter}
use Rattle.std.proofs.lemmas.Bool.{cases_eq, cases_lt}
use Rattle.std.proofs.lemmas.Grind.{get_or-set_at}
use Rattle.std.proofs.lemmas.List.{get_or-set_other}
use Rattle.std.proofs.lemmas.List.Elements.{All-set, All-from_recursion, recursion_from_All}
use Rattle.std.proofs.lemmas.List.Kept.{AllPairs-filter}
use borrow.Author.Differences.{ints}
use Rattle.frac_core.specs.Fraction.{IsFitting}
use Rattle.frac_core.specs.Fraction as fractions
use Rattle.row_core.specs.Rows.{Term, coefficient, IsKeptRow}
use Rattle.version_lists.proofs.Indexing.{none_kept}
use Rattle.problem_core.specs.declared.parts.Mark.{Mark}
use Rattle.problem_core.specs.declared.parts.RowName.{RowName}
use Rattle.problem_core.specs.declared.parts.RowName.TheVariants.{Held, Stay as StayOf}
use Rattle.problem_core.specs.declared.parts.Side.{Side}
use Rattle.problem_core.specs.declared.parts.Side.TheVariants.{Under, Over}
use Rattle.problem_core.specs.declared.parts.Stay.{Stay}
use Rattle.problem_core.specs.Kept.{IsStay, IsWhole}
use Rattle.problem_core.specs.Layout.{HasStay, Line, Problem, Row, line_of_row, line_of_stay, lines, stay_lines}
use Rattle.problem_core.specs.Corners.{IsCorner, IsIn, attr_column, marks_of, place_of}
use Rattle.problem_core.specs.Levels.{IsCostAt}
use Rattle.problem_core.specs.Rays.{HasRays}
use Rattle.problem_core.proofs.Forms.{each-impl}
use Rattle.std.proofs.lemmas.List.{get_or_past}
use Rattle.corner_laws.specs.Units.{IsLevelRow, over_share, under_share}
use Rattle.corner_laws.proofs.LevelCosts.LevelSizes.{no-over, no-under}
use Rattle.corner_lines.specs.LineEquations.{IsLineEquation, IsOutsideLine, deviation, sign_of}
use Rattle.corner_lines.specs.Removals.{IsFree, without_attr}
use Rattle.corner_lines.proofs.ProblemChanges.DroppedAttr.{attr_left_attr, attr_left_corner, attr_left_inside, attr_left_rays, attr_none, line_none, stay-out, filter-on, filter-off, other_stay}
use Rattle.corner_view.specs.declared.types.Owner.{Owner}
use Rattle.corner_view.specs.declared.types.Owner.TheVariants.{Level as LevelSlot, Attr as AttrSlot, Line as LineSlot}
use Rattle.corner_table.specs.declared.table.Slot.{Slot}
use Rattle.corner_table.specs.declared.table.Standing.{Standing}
use Rattle.corner_table.specs.declared.table.TheConstants.{LEVELS, MOST_SLOTS}
use Rattle.corner_table.specs.Tables.{no_slot, no_standing}
use Rattle.corner_leaving.specs.Dropping.{dropped_attr}
use Rattle.corner_table.specs.Kept.{AreOutside, AreSlots, AreStored, HasStayRoom, IsAttrRow, IsAttrSlot, IsEquationAt, IsKept, IsLevelKept, IsLineRow, IsLineSlot, IsOwned, IsSlot, home_of}
use Rattle.corner_writings.specs.Rows.{row_number}
use Rattle.corner_table.specs.Tables.{Lists, attr_slot, entry, is_side, line_slot, marks_at, number, priority_at, problem_of, row_at, slot_at, standing_at, stands_in, stay_rank}
use Rattle.corner_view.specs.Seen.{IsNamed}
use Rattle.corner_table.proofs.Basics.SmallFacts.{own_name, own_stay}
use Rattle.corner_table.proofs.Basics.OwnerFacts.{stay_named}
use Rattle.problem_core.proofs.RowNames.{stay-same}
use Rattle.corner_leaving.proofs.Attributes.DroppedAttrLevels.{attr_left_cost, attr_left_level, attr_left_unit, attr_level_none}
use Rattle.corner_view.proofs.Facts.{stays_part}
use Rattle.corner_table.proofs.Corners.SlotRanks.{last_left, ranks_left}
use Rattle.corner_table.proofs.Readings.MarkFacts.{stands_inside}
use Rattle.corner_exchange.proofs.Pivots.PairFacts.{named_mark}
use Rattle.corner_table.proofs.Readings.ReadFacts.{attr_equation}
use Rattle.corner_table.proofs.Readings.SlotFacts.{any_is, named_slot}
use Rattle.corner_table.proofs.Readings.WritingFacts.{attr_apart, attr_owner, lines_apart}
use Rattle.corner_leaving.proofs.Removals.DroppedKept.{EquationBy}
use Rattle.problem_core.proofs.Lines.{rows-change as rows-left}
use Rattle.corner_writings.proofs.Readings.MovedFacts.{side_itself as side-true}
use Rattle.problem_core.proofs.Sides.{zero-kept as zero_kept}

-- ---- stays without one

stays-left : (P Q : Line → Type 0) (attr n k : ℕ) (stays : List Stay) → 1001 ≤ n → 1001 ≤ k → ((s : Stay) (i j : ℕ) → 1001 ≤ i → 1001 ≤ j → s.attr ≢ attr → P (line_of_stay i s) → Q (line_of_stay j s)) → Each P (stay_lines n stays) → Each Q (stay_lines k (filter (other_stay attr) stays))
stays-left P Q attr n k [] up high f h = tt
stays-left P Q attr n k (s ∷ stays) up high f h = elim (cases_eq s.attr attr) [
  | inl e ↦ subst (λ (ss : List Stay). Each Q (stay_lines k ss)) (sym (filter-on attr s stays e)) (stays-left P Q attr (n + 1) k stays (omega (arith, up)) high f h.1)
  | inr ne ↦ subst (λ (ss : List Stay). Each Q (stay_lines k ss)) (sym (filter-off attr s stays ne)) (f s n k up high ne h.0, stays-left P Q attr (n + 1) (k + 1) stays (omega (arith, up)) (omega (arith, high)) f h.1)
]

-- what holds of each line, of a stay at whatever level, holds of each that is left
pub attr_lines : (P Q : Line → Type 0) (attr : ℕ) (p : Problem) → ((r : Row) → P (line_of_row r) → Q (line_of_row r)) → ((s : Stay) (i j : ℕ) → 1001 ≤ i → 1001 ≤ j → s.attr ≢ attr → P (line_of_stay i s) → Q (line_of_stay j s)) → All P (lines p) → All Q (lines (without_attr attr p))
attr_lines P Q attr p f g h =
    All-from_recursion Q (lines (without_attr attr p))
    (rows-left P Q p.rows (stay_lines 1001 p.stays) (stay_lines 1001 (filter (other_stay attr) p.stays)) f (stays-left P Q attr 1001 1001 p.stays (omega arith) (omega arith) g) (recursion_from_All P (lines p) h))

each-stay : (P : Stay → Type 0) (attr : ℕ) (stays : List Stay) → Each P stays → Each (λ s. P s × (s.attr ≢ attr)) (filter (other_stay attr) stays)
each-stay P attr [] h = tt
each-stay P attr (s ∷ stays) h = elim (cases_eq s.attr attr) [
  | inl e ↦ subst (λ (ss : List Stay). Each (λ s. P s × (s.attr ≢ attr)) ss) (sym (filter-on attr s stays e)) (each-stay P attr stays h.1)
  | inr ne ↦ subst (λ (ss : List Stay). Each (λ s. P s × (s.attr ≢ attr)) ss) (sym (filter-off attr s stays ne)) ((h.0, ne), each-stay P attr stays h.1)
]

all-stays : (P : Stay → Type 0) (attr : ℕ) (stays : List Stay) → All P stays → All (λ s. P s × (s.attr ≢ attr)) (filter (other_stay attr) stays)
all-stays P attr stays h = All-from_recursion (λ s. P s × (s.attr ≢ attr)) (filter (other_stay attr) stays) (each-stay P attr stays (recursion_from_All P stays h))

past-stay : (attr a : ℕ) (s : Stay) (stays : List Stay) → a ≢ attr → s.attr ≡ attr → HasStay (s ∷ stays) a → HasStay stays a
past-stay attr a s stays ne e (zero, x, lt, is, h) = absurd (ne (sym h ∙ sym (ap (λ (y : Stay). y.attr) is) ∙ e))
past-stay attr a s stays ne e (suc k, x, lt, is, h) = (k, x, omega (arith, lt), is, h)

first-stay : (a : ℕ) (s : Stay) (stays less : List Stay) → (HasStay stays a → HasStay less a) → HasStay (s ∷ stays) a → HasStay (s ∷ less) a
first-stay a s stays less f (zero, x, lt, is, h) = (0, x, omega arith, is, h)
first-stay a s stays less f (suc k, x, lt, is, h) = let i = f (k, x, omega (arith, lt), is, h) in (suc i.0, i.1, omega (arith, i.2), i.3, i.4)

pub has_left : (attr a : ℕ) (stays : List Stay) → a ≢ attr → HasStay stays a → HasStay (filter (other_stay attr) stays) a
has_left attr a [] ne (k, x, lt, e, is) = absurd (omega (arith, lt))
has_left attr a (s ∷ stays) ne i = elim (cases_eq s.attr attr) [
  | inl e ↦ subst (λ (ss : List Stay). HasStay ss a) (sym (filter-on attr s stays e)) (has_left attr a stays ne (past-stay attr a s stays ne e i))
  | inr n ↦ subst (λ (ss : List Stay). HasStay ss a) (sym (filter-off attr s stays n)) (first-stay a s stays (filter (other_stay attr) stays) (has_left attr a stays ne) i)
]

few-stays : (attr : ℕ) (stays : List Stay) → length (filter (other_stay attr) stays) ≤ length stays
few-stays attr [] = omega arith
few-stays attr (s ∷ stays) = elim (cases_eq s.attr attr) [
  | inl e ↦ subst (λ (ss : List Stay). length ss ≤ suc (length stays)) (sym (filter-on attr s stays e)) (let h = few-stays attr stays in omega (arith, h))
  | inr n ↦ subst (λ (ss : List Stay). length ss ≤ suc (length stays)) (sym (filter-off attr s stays n)) (let h = few-stays attr stays in omega (arith, h))
]

attr-whole : (p : Problem) (attr : ℕ) → IsWhole p → IsFree p attr → IsWhole (without_attr attr p)
attr-whole p attr whole free = record {
  rows = whole.rows;
  stays = λ i x lt. (all-stays IsStay attr p.stays whole.stays i x lt).0;
  rising = whole.rising;
  apart = AllPairs-filter (λ (s t : Stay). s.attr ≢ t.attr) (other_stay attr) p.stays whole.apart;
  covered = λ i x lt j y within. has_left attr (slice_index_or (slice_index_or p.rows i x).terms j y).attr p.stays (free.free i x lt j y within) (whole.covered i x lt j y within);
  row_count = whole.row_count;
  stay_count = let a = whole.stay_count in let b = few-stays attr p.stays in omega (arith, a, b);
}

-- ---- what is read of the lists

pub record IsAttrDrop (t : Lists) (attr : ℕ) : Type 0 where
  pub kept : IsKept t
  pub free : IsFree (problem_of t) attr
  pub slot : IsSlot t (attr_slot t attr)
  pub stay_slot : IsSlot t (attr_slot t attr + 1)
  pub outside : (standing_at t (attr_slot t attr + 1)).side ≡ None

is-none : (o : Option Side) → ((s : Side) → o ≡ Some s → ⊥) → o ≡ None
is-none None h = refl
is-none (Some s) h = absurd (h s refl)

pub attr_drop : (t : Lists) (attr : ℕ) → IsKept t → IsFree (problem_of t) attr → IsAttrDrop t attr
attr_drop t attr kept free =
    let named = stay_named (problem_of t) attr free.held in
    record {
      kept = kept;
      free = free;
      slot = any_is (λ (s : Stay). IsAttrSlot t s.attr) (λ (s : Stay). s.attr ≡ attr) t.stays kept.slots.attrs free.held (λ s h e. subst (λ (a : ℕ). IsSlot t (attr_slot t a)) e h.slot);
      stay_slot = named_slot t (StayOf attr) kept.slots named;
      outside = is-none (standing_at t (attr_slot t attr + 1)).side (λ s e.
          let m : Mark = record { row = StayOf attr; side = s } in
          stay-out (problem_of t) (marks_at t) attr s kept.whole kept.corner free (stands_inside t m (named_mark t m named) (ap (λ (o : Option Side). is_side o s) e ∙ side-true s)));
    }

-- neither of its slots
pub record IsApart (t : Lists) (attr c : ℕ) : Type 0 where
  pub attr_off : c ≢ attr_slot t attr
  pub stay_off : c ≢ attr_slot t attr + 1

pub attr_row_same : (t : Lists) (attr c : ℕ) → IsApart t attr c → row_at (dropped_attr t attr) c ≡ row_at t c
attr_row_same t attr c off =
    get_or-set_other (slice_set t.matrix (attr_slot t attr) []) (attr_slot t attr + 1) c [] [] off.stay_off ∙ get_or-set_other t.matrix (attr_slot t attr) c [] [] off.attr_off

pub attr_standing_same : (t : Lists) (attr c : ℕ) → IsApart t attr c → standing_at (dropped_attr t attr) c ≡ standing_at t c
attr_standing_same t attr c off =
    get_or-set_other (slice_set t.standings (attr_slot t attr) no_standing) (attr_slot t attr + 1) c no_standing no_standing off.stay_off
    ∙ get_or-set_other t.standings (attr_slot t attr) c no_standing no_standing off.attr_off

pub attr_slot_same : (t : Lists) (attr c : ℕ) → IsApart t attr c → slot_at (dropped_attr t attr) c ≡ slot_at t c
attr_slot_same t attr c off =
    get_or-set_other (slice_set t.slots (attr_slot t attr) no_slot) (attr_slot t attr + 1) c no_slot no_slot off.stay_off ∙ get_or-set_other t.slots (attr_slot t attr) c no_slot no_slot off.attr_off

data Where (t : Lists) (attr c : ℕ) : Type 0 where
  gone : row_at (dropped_attr t attr) c ≡ [] → slot_at (dropped_attr t attr) c ≡ no_slot → Where t attr c
  there : IsApart t attr c → Where t attr c

same-or-none : (t : Lists) (attr c : ℕ) → Where t attr c → (slot_at (dropped_attr t attr) c ≡ slot_at t c) ⊎ (slot_at (dropped_attr t attr) c ≡ no_slot)
same-or-none t attr c (gone row slot) = inr slot
same-or-none t attr c (there off) = inl (attr_slot_same t attr c off)

where-is : (t : Lists) (attr c : ℕ) → IsAttrDrop t attr → Where t attr c
where-is t attr c d =
    let w : ℕ = attr_slot t attr in
    let m = length-set t.matrix w [] in
    let s = length-set t.slots w no_slot in
    let all = d.kept.slots.matrix in
    elim (cases_eq c (w + 1)) [
      | inl e ↦ gone (get_or-set_at (slice_set t.matrix w []) (w + 1) c [] [] e (omega (arith, m, all, d.stay_slot.1)))
          (get_or-set_at (slice_set t.slots w no_slot) (w + 1) c no_slot no_slot e (omega (arith, s, d.stay_slot.1)))
      | inr ne ↦ elim (cases_eq c w) [
        | inl e ↦ gone (get_or-set_other (slice_set t.matrix w []) (w + 1) c [] [] ne ∙ get_or-set_at t.matrix w c [] [] e (omega (arith, all, d.slot.1)))
            (get_or-set_other (slice_set t.slots w no_slot) (w + 1) c no_slot no_slot ne ∙ get_or-set_at t.slots w c no_slot no_slot e d.slot.1)
        | inr n ↦ there (record { attr_off = n; stay_off = ne })
      ]
    ]

-- ---- what is apart

attr-apart : (t : Lists) (attr a : ℕ) → IsAttrDrop t attr → a ≢ attr → HasStay t.stays a → IsApart t attr (attr_slot t a)
attr-apart t attr a d ne has = record {
  attr_off = λ e. ne (one-attr a attr (sym (attr_owner t a d.kept.slots has) ∙ ap (λ (c : ℕ). (slot_at t c).owner) e ∙ attr_owner t attr d.kept.slots d.free.held));
  stay_off = λ e. attr_apart t a (StayOf attr) d.kept.slots has (stay_named (problem_of t) attr d.free.held) (sym e);
}
  where
    attr-of : Owner → ℕ
    attr-of LevelSlot = 0
    attr-of (AttrSlot a) = a
    attr-of (LineSlot name) = 0

    one-attr : (a b : ℕ) → AttrSlot a ≡ AttrSlot b → a ≡ b
    one-attr a b e = ap attr-of e

line-apart : (t : Lists) (attr : ℕ) (name : RowName) → IsAttrDrop t attr → name ≢ StayOf attr → IsNamed (problem_of t) name → IsApart t attr (line_slot t name)
line-apart t attr name d ne named = record {
  attr_off = λ e. attr_apart t attr name d.kept.slots d.free.held named e;
  stay_off = λ e. ne (sym (lines_apart t (StayOf attr) name d.kept.slots (stay_named (problem_of t) attr d.free.held) named e));
}

level-apart : (t : Lists) (attr k : ℕ) → IsAttrDrop t attr → k < LEVELS → IsApart t attr k
level-apart t attr k d lt = record {
  attr_off = λ e. let up = d.slot.0 in absurd (omega (arith, up, lt, e));
  stay_off = λ e. let up = d.stay_slot.0 in absurd (omega (arith, up, lt, e));
}

-- a line that is left is one of before, but for its level
pub left-lines : (t : Lists) (attr : ℕ) → All (λ l. IsNamed (problem_of t) l.name × (l.name ≢ StayOf attr)) (lines (without_attr attr (problem_of t)))
left-lines t attr =
    attr_lines (λ l. IsNamed (problem_of t) l.name) (λ l. IsNamed (problem_of t) l.name × (l.name ≢ StayOf attr)) attr (problem_of t) (λ r h. (h, λ e. row-not r.id attr e)) (λ s i j up high ne h. (h, λ e. ne (one-stay s.attr attr e))) (own_name (lines (problem_of t)))
  where
    is-held : RowName → Type 0
    is-held (Held id) = Unit {0}
    is-held (StayOf attr) = ⊥

    row-not : (id a : ℕ) → Held id ≡ StayOf a → ⊥
    row-not id a e = subst is-held e tt

    attr-in : RowName → ℕ
    attr-in (Held id) = 0
    attr-in (StayOf a) = a

    one-stay : (a b : ℕ) → StayOf a ≡ StayOf b → a ≡ b
    one-stay a b e = ap attr-in e

-- ---- the marks

two-marks : (f : Mark → Bool) (m n : Mark) (ms : List Mark) → f m ≡ false → f n ≡ false → filter f (m ∷ n ∷ ms) ≡ filter f ms
two-marks f m n ms e g = ap (λ (b : Bool). cond b (m ∷ filter f (n ∷ ms)) (filter f (n ∷ ms))) e ∙ ap (λ (b : Bool). cond b (n ∷ filter f ms) (filter f ms)) g

two-same : (f g : Mark → Bool) (m n : Mark) (ms ns : List Mark) → g m ≡ f m → g n ≡ f n → filter g ns ≡ filter f ms → filter g (m ∷ n ∷ ns) ≡ filter f (m ∷ n ∷ ms)
two-same f g m n ms ns e h rest = ap₂ (λ (b : Bool) (xs : List Mark). cond b (m ∷ xs) xs) e (ap₂ (λ (b : Bool) (xs : List Mark). cond b (n ∷ xs) xs) h rest)

stays-marks : (f g : Mark → Bool) (attr n k : ℕ) (stays : List Stay) → ((side : Side) → f (record { row = StayOf attr; side = side }) ≡ false)
    → Each (λ (s : Stay). s.attr ≢ attr → (side : Side) → g (record { row = StayOf s.attr; side = side }) ≡ f (record { row = StayOf s.attr; side = side })) stays
    → filter g (marks_of (stay_lines k (filter (other_stay attr) stays))) ≡ filter f (marks_of (stay_lines n stays))
stays-marks f g attr n k [] none same = refl
stays-marks f g attr n k (s ∷ stays) none same = elim (cases_eq s.attr attr) [
  | inl e ↦
      ap (λ (ss : List Stay). filter g (marks_of (stay_lines k ss))) (filter-on attr s stays e) ∙ stays-marks f g attr (n + 1) k stays none same.1
      ∙ sym (two-marks f (record { row = StayOf s.attr; side = Under }) (record { row = StayOf s.attr; side = Over }) (marks_of (stay_lines (n + 1) stays))
      (ap (λ (a : ℕ). f (record { row = StayOf a; side = Under })) e ∙ none Under) (ap (λ (a : ℕ). f (record { row = StayOf a; side = Over })) e ∙ none Over))
  | inr ne ↦
      ap (λ (ss : List Stay). filter g (marks_of (stay_lines k ss))) (filter-off attr s stays ne)
      ∙ two-same f g (record { row = StayOf s.attr; side = Under }) (record { row = StayOf s.attr; side = Over }) (marks_of (stay_lines (n + 1) stays)) (marks_of (stay_lines (k + 1) (filter (other_stay attr) stays))) (same.0 ne Under) (same.0 ne Over)
      (stays-marks f g attr (n + 1) (k + 1) stays none same.1)
]

rows-marks : (f g : Mark → Bool) (rows : List Row) (ls ms : List Line) → Each (λ (r : Row). (side : Side) → g (record { row = Held r.id; side = side }) ≡ f (record { row = Held r.id; side = side })) rows → filter g (marks_of ms) ≡ filter f (marks_of ls)
    → filter g (marks_of (map line_of_row rows ++ ms)) ≡ filter f (marks_of (map line_of_row rows ++ ls))
rows-marks f g [] ls ms same rest = rest
rows-marks f g (r ∷ rows) ls ms same rest =
    two-same f g (record { row = Held r.id; side = Under }) (record { row = Held r.id; side = Over }) (marks_of (map line_of_row rows ++ ls)) (marks_of (map line_of_row rows ++ ms)) (same.0 Under) (same.0 Over) (rows-marks f g rows ls ms same.1 rest)

row-part : (P : Line → Type 0) (rows : List Row) (ls : List Line) → Each P (map line_of_row rows ++ ls) → Each (λ (r : Row). P (line_of_row r)) rows
row-part P [] ls h = tt
row-part P (r ∷ rows) ls h = (h.0, row-part P rows ls h.1)

stays-part : (P : RowName → Type 0) (n : ℕ) (stays : List Stay) → Each (λ l. P l.name) (stay_lines n stays) → Each (λ (s : Stay). P (StayOf s.attr)) stays
stays-part P n [] h = tt
stays-part P n (s ∷ stays) h = (h.0, stays-part P (n + 1) stays h.1)

pub attr_drop_marks : (t : Lists) (attr : ℕ) → IsAttrDrop t attr → marks_at (dropped_attr t attr) ≡ marks_at t
attr_drop_marks t attr d =
    rows-marks (stands_in t) (stands_in (dropped_attr t attr)) t.rows (stay_lines 1001 t.stays) (stay_lines 1001 (filter (other_stay attr) t.stays))
    (each-impl (λ (r : Row). IsNamed (problem_of t) (Held r.id)) _ t.rows (λ r named side. side-same (Held r.id) side (row-not r.id attr) named) (row-part (λ l. IsNamed (problem_of t) l.name) t.rows (stay_lines 1001 t.stays) names))
    (stays-marks (stands_in t) (stands_in (dropped_attr t attr)) attr 1001 1001 t.stays (λ side. ap (λ (o : Option Side). is_side o side) d.outside)
    (each-impl (λ (s : Stay). IsNamed (problem_of t) (StayOf s.attr)) _ t.stays (λ s named ne side. side-same (StayOf s.attr) side (λ e. ne (ap attr-in e)) named)
    (stays-part (IsNamed (problem_of t)) 1001 t.stays (stays_part (λ l. IsNamed (problem_of t) l.name) t.rows (stay_lines 1001 t.stays) names))))
  where
    names : Each (λ l. IsNamed (problem_of t) l.name) (lines (problem_of t))
    names = recursion_from_All (λ l. IsNamed (problem_of t) l.name) (lines (problem_of t)) (own_name (lines (problem_of t)))

    attr-in : RowName → ℕ
    attr-in (Held id) = 0
    attr-in (StayOf a) = a

    is-held : RowName → Type 0
    is-held (Held id) = Unit {0}
    is-held (StayOf attr) = ⊥

    row-not : (id a : ℕ) → Held id ≡ StayOf a → ⊥
    row-not id a e = subst is-held e tt

    side-same : (name : RowName) (side : Side) → name ≢ StayOf attr → IsNamed (problem_of t) name → stands_in (dropped_attr t attr) (record { row = name; side = side }) ≡ stands_in t (record { row = name; side = side })
    side-same name side ne named = ap (λ (s : Standing). is_side s.side side) (attr_standing_same t attr (line_slot t name) (line-apart t attr name d ne named))

-- ---- slots

pub count : (t : Lists) (attr : ℕ) → length (dropped_attr t attr).slots ≡ length t.slots
count t attr = length-set (slice_set t.slots (attr_slot t attr) no_slot) (attr_slot t attr + 1) no_slot ∙ length-set t.slots (attr_slot t attr) no_slot

past-line : (name : RowName) (attr n : ℕ) (s : Stay) (ls : List Line) → name ≢ StayOf attr → s.attr ≡ attr → Any (λ l. l.name ≡ name) (line_of_stay n s ∷ ls) → Any (λ l. l.name ≡ name) ls
past-line name attr n s ls ne e (zero, x, lt, is, h) = absurd (ne (sym h ∙ sym (ap (λ (l : Line). l.name) is) ∙ ap StayOf e))
past-line name attr n s ls ne e (suc i, x, lt, is, h) = (i, x, omega (arith, lt), is, h)

-- a line with the same name in the place of the first
first-line : (name : RowName) (l m : Line) (ls ms : List Line) → m.name ≡ l.name → (Any (λ k. k.name ≡ name) ls → Any (λ k. k.name ≡ name) ms) → Any (λ k. k.name ≡ name) (l ∷ ls) → Any (λ k. k.name ≡ name) (m ∷ ms)
first-line name l m ls ms e f (zero, x, lt, is, h) = (0, m, omega arith, refl, e ∙ ap (λ (k : Line). k.name) is ∙ h)
first-line name l m ls ms e f (suc i, x, lt, is, h) = let j = f (i, x, omega (arith, lt), is, h) in (suc j.0, j.1, omega (arith, j.2), j.3, j.4)

stays-named : (name : RowName) (attr n k : ℕ) (stays : List Stay) → name ≢ StayOf attr → Any (λ l. l.name ≡ name) (stay_lines n stays) → Any (λ l. l.name ≡ name) (stay_lines k (filter (other_stay attr) stays))
stays-named name attr n k [] ne (i, x, lt, e, h) = absurd (omega (arith, lt))
stays-named name attr n k (s ∷ stays) ne i = elim (cases_eq s.attr attr) [
  | inl e ↦ subst (λ (xs : List Stay). Any (λ l. l.name ≡ name) (stay_lines k xs)) (sym (filter-on attr s stays e)) (stays-named name attr (n + 1) k stays ne (past-line name attr n s (stay_lines (n + 1) stays) ne e i))
  | inr ne2 ↦ subst (λ (xs : List Stay). Any (λ l. l.name ≡ name) (stay_lines k xs)) (sym (filter-off attr s stays ne2))
      (first-line name (line_of_stay n s) (line_of_stay k s) (stay_lines (n + 1) stays) (stay_lines (k + 1) (filter (other_stay attr) stays)) refl (stays-named name attr (n + 1) (k + 1) stays ne) i)
]

rows-named : (name : RowName) (rows : List Row) (ls ms : List Line) → (Any (λ l. l.name ≡ name) ls → Any (λ l. l.name ≡ name) ms) → Any (λ l. l.name ≡ name) (map line_of_row rows ++ ls) → Any (λ l. l.name ≡ name) (map line_of_row rows ++ ms)
rows-named name [] ls ms f i = f i
rows-named name (r ∷ rows) ls ms f i = first-line name (line_of_row r) (line_of_row r) (map line_of_row rows ++ ls) (map line_of_row rows ++ ms) refl (rows-named name rows ls ms f) i

pub named-attr-left : (t : Lists) (attr : ℕ) (name : RowName) → name ≢ StayOf attr → IsNamed (problem_of t) name → IsNamed (without_attr attr (problem_of t)) name
named-attr-left t attr name ne named = rows-named name t.rows (stay_lines 1001 t.stays) (stay_lines 1001 (filter (other_stay attr) t.stays)) (stays-named name attr 1001 1001 t.stays ne) named

owned-left : (t : Lists) (attr w : ℕ) (o : Owner) → IsApart t attr w → IsOwned t w o → IsOwned (dropped_attr t attr) w o
owned-left t attr w LevelSlot off h = tt
owned-left t attr w (AttrSlot a) off h = (has_left attr a t.stays (λ e. off.attr_off (sym h.1 ∙ ap (attr_slot t) e)) h.0, h.1)
owned-left t attr w (LineSlot name) off h = (named-attr-left t attr name (λ e. off.stay_off (sym h.1 ∙ ap (line_slot t) e)) h.0, h.1)

-- a line that is left says of its slot what it said
pub record IsSaid (t : Lists) (l : Line) : Type 0 where
  pub is : IsLineSlot t l
  pub named : IsNamed (problem_of t) l.name

said-row : (t : Lists) (attr : ℕ) (l m : Line) → IsApart t attr (line_slot t l.name) → m.name ≡ l.name → m.weight ≡ l.weight → m.scale ≡ l.scale → m.rel ≡ l.rel → home_of t m l.name ≡ home_of t l l.name → IsLineSlot t l → IsLineSlot (dropped_attr t attr) m
said-row t attr l m off name weight scale rel home s =
    let same : slot_at (dropped_attr t attr) (line_slot t m.name) ≡ slot_at t (line_slot t l.name) = ap (λ (n : RowName). slot_at (dropped_attr t attr) (line_slot t n)) name ∙ attr_slot_same t attr (line_slot t l.name) off in
    let here : line_slot t m.name ≡ line_slot t l.name = ap (line_slot t) name in
    record {
      slot = (subst (λ (c : ℕ). LEVELS ≤ c) (sym here) s.slot.0, let n = count t attr in omega (arith, n, s.slot.1, here));
      owner = ap (λ (x : Slot). x.owner) same ∙ s.owner ∙ ap LineSlot (sym name);
      home = ap (λ (x : Slot). x.home) same ∙ s.home ∙ sym home ∙ home-there m l.name ∙ ap (home_of (dropped_attr t attr) m) (sym name);
      weight = ap (λ (x : Slot). x.weight) same ∙ s.weight ∙ ap pos (sym weight);
      scale = ap (λ (x : Slot). x.scale) same ∙ s.scale ∙ ap pos (sym scale);
      rel = ap (λ (x : Slot). x.rel) same ∙ s.rel ∙ sym rel;
    }
  where
    home-there : (l : Line) (name : RowName) → home_of t l name ≡ home_of (dropped_attr t attr) l name
    home-there l (Held id) = refl
    home-there l (StayOf a) = refl

-- the levels of the stays that are left have the ranks that they had
rank-left : (t : Lists) (attr b : ℕ) → IsAttrDrop t attr → HasStay t.stays b → b ≢ attr → stay_rank (dropped_attr t attr) b ≡ stay_rank t b
rank-left t attr b d has ne =
    ap (λ (x : Slot). x.rank) (attr_slot_same t attr (line_slot t (StayOf b)) (line-apart t attr (StayOf b) d (λ e. ne (stay-same b attr e)) (stay_named (problem_of t) b has)))

attr-slots : (t : Lists) (attr : ℕ) → IsAttrDrop t attr → AreSlots (dropped_attr t attr)
attr-slots t attr d =
    let s = d.kept.slots in
    let n = count t attr in
    let w : ℕ = attr_slot t attr in
    let left = all-stays (λ (x : Stay). HasStay t.stays x.attr × (LEVELS ≤ stay_rank t x.attr)) attr t.stays (λ j y within. (own_stay t.stays j y within, s.stay_ranks j y within)) in
    record {
      standings = length-set (slice_set t.standings w no_standing) (w + 1) no_standing ∙ length-set t.standings w no_standing ∙ s.standings ∙ sym n;
      matrix = length-set (slice_set t.matrix w []) (w + 1) [] ∙ length-set t.matrix w [] ∙ s.matrix ∙ sym n;
      levels = subst (λ (k : ℕ). LEVELS ≤ k) (sym n) s.levels;
      room = λ i x lt. (all-stays (λ (x : Stay). attr_slot t x.attr + 1 < 2 ^ 32) attr t.stays s.room i x lt).0;
      priorities = s.priorities;
      attrs = λ i x lt. attr-kept (all-stays (λ (x : Stay). HasStay t.stays x.attr × IsAttrSlot t x.attr) attr t.stays (λ j y within. (own_stay t.stays j y within, s.attrs j y within)) i x lt);
      lines = attr_lines (IsSaid t) (IsLineSlot (dropped_attr t attr)) attr (problem_of t)
          (λ r h. said-row t attr (line_of_row r) (line_of_row r) (line-apart t attr (Held r.id) d (row-not r.id attr) h.named) refl refl refl refl refl h.is)
          (λ x i j up high ne h. said-row t attr (line_of_stay i x) (line_of_stay j x) (line-apart t attr (StayOf x.attr) d (λ e. ne (ap attr-in e)) h.named) refl refl refl refl refl h.is)
          (λ i x lt. record { is = s.lines i x lt; named = own_name (lines (problem_of t)) i x lt });
      owners = λ c is. owned c (where-is t attr c d) is;
      level_owners = λ c lt. ap (λ (x : Slot). x.owner) (attr_slot_same t attr c (level-apart t attr c d lt)) ∙ s.level_owners c lt;
      level_homes = λ c lt. ap (λ (x : Slot). x.home) (attr_slot_same t attr c (level-apart t attr c d lt)) ∙ s.level_homes c lt;
      level_ranks = λ c lt. ap (λ (x : Slot). x.rank) (attr_slot_same t attr c (level-apart t attr c d lt)) ∙ s.level_ranks c lt;
      stay_ranks = λ i x lt.
          let is = left i x lt in
          let one = rank-left t attr (slice_index_or (filter (other_stay attr) t.stays) i x).attr d is.0.0 is.1 in
          let le = is.0.1 in
          omega (arith, one, le);
      stays_rise = λ i k x lt within.
          let a = left i x (omega (arith, lt, within)) in
          let b = left k x within in
          let one = rank-left t attr (slice_index_or (filter (other_stay attr) t.stays) i x).attr d a.0.0 a.1 in
          let two = rank-left t attr (slice_index_or (filter (other_stay attr) t.stays) k x).attr d b.0.0 b.1 in
          let less = AllPairs-filter (λ (x y : Stay). stay_rank t x.attr < stay_rank t y.attr) (other_stay attr) t.stays s.stays_rise i k x lt within in
          omega (arith, one, two, less);
      ranks = ranks_left t.slots (dropped_attr t attr).slots (λ c. same-or-none t attr c (where-is t attr c d)) s.ranks;
      own_last = last_left t.slots (dropped_attr t attr).slots (λ c. same-or-none t attr c (where-is t attr c d)) s.own_last;
    }
  where
    attr-in : RowName → ℕ
    attr-in (Held id) = 0
    attr-in (StayOf a) = a

    is-held : RowName → Type 0
    is-held (Held id) = Unit {0}
    is-held (StayOf attr) = ⊥

    row-not : (id a : ℕ) → Held id ≡ StayOf a → ⊥
    row-not id a e = subst is-held e tt

    attr-kept : {a : ℕ} → (HasStay t.stays a × IsAttrSlot t a) × (a ≢ attr) → IsAttrSlot (dropped_attr t attr) a
    attr-kept {a} h = record {
      slot = (h.0.1.slot.0, let n = count t attr in let k = h.0.1.slot.1 in omega (arith, n, k));
      owner = ap (λ (x : Slot). x.owner) (attr_slot_same t attr (attr_slot t a) (attr-apart t attr a d h.1 h.0.0)) ∙ h.0.1.owner;
    }

    owned : (c : ℕ) → Where t attr c → IsSlot (dropped_attr t attr) c → IsOwned (dropped_attr t attr) c (slot_at (dropped_attr t attr) c).owner
    owned c (gone row slot) is = subst (λ (o : Owner). IsOwned (dropped_attr t attr) c o) (sym (ap (λ (x : Slot). x.owner) slot)) tt
    owned c (there off) is =
        subst (λ (o : Owner). IsOwned (dropped_attr t attr) c o) (sym (ap (λ (x : Slot). x.owner) (attr_slot_same t attr c off)))
        (owned-left t attr c (slot_at t c).owner off (d.kept.slots.owners c (is.0, subst (λ (k : ℕ). c < k) (count t attr) is.1)))

attr-stored : (t : Lists) (attr : ℕ) → IsAttrDrop t attr → AreStored (dropped_attr t attr)
attr-stored t attr d = record {
  few = subst (λ (k : ℕ). k ≤ MOST_SLOTS) (sym (count t attr)) d.kept.stored.few;
  empty = λ c up free. empty-at c (where-is t attr c d) up free;
}
  where
    empty-at : (c : ℕ) → Where t attr c → LEVELS ≤ c → (slot_at (dropped_attr t attr) c).owner ≡ LevelSlot → row_at (dropped_attr t attr) c ≡ []
    empty-at c (gone none slot) up free = none
    empty-at c (there off) up free = attr_row_same t attr c off ∙ d.kept.stored.empty c up (sym (ap (λ (x : Slot). x.owner) (attr_slot_same t attr c off)) ∙ free)

-- ---- rows

equation-left : (t : Lists) (attr : ℕ) (quantity : (ℕ → ℤ) → ℤ) (w : ℕ) (num : ℤ) (den : ℕ) → IsAttrDrop t attr → IsApart t attr w
    → ((own : ℕ) → IsLineEquation (problem_of t) (marks_at t) quantity own (number t w) num den → IsLineEquation (without_attr attr (problem_of t)) (marks_at t) quantity own (number t w) num den)
    → IsEquationAt t quantity w num den → IsEquationAt (dropped_attr t attr) quantity w num den
equation-left t attr quantity w num den d off holds e =
    subst (λ (at : List Mark). EquationBy t (without_attr attr (problem_of t)) at quantity w (row_at (dropped_attr t attr) w) num den) (sym (attr_drop_marks t attr d))
    (subst (λ (row : List Term). EquationBy t (without_attr attr (problem_of t)) (marks_at t) quantity w row num den) (sym (attr_row_same t attr w off))
    (e.0, e.1, holds e.0 e.2))

attr-left : (t : Lists) (attr a : ℕ) → IsAttrDrop t attr → a ≢ attr → HasStay t.stays a → IsAttrRow t a → IsAttrRow (dropped_attr t attr) a
attr-left t attr a d ne has h =
    let w : ℕ = attr_slot t a in
    let off = attr-apart t attr a d ne has in
    subst (λ (s : Standing). IsEquationAt (dropped_attr t attr) (λ x. x (attr_column a)) w s.value.num s.value.den) (sym (attr_standing_same t attr w off))
    (equation-left t attr (λ x. x (attr_column a)) w (standing_at t w).value.num (standing_at t w).value.den d off
    (λ own q. attr_left_attr (problem_of t) (marks_at t) attr a own (number t w) (standing_at t w).value.num (standing_at t w).value.den d.kept.whole d.kept.corner d.free ne q) h)

line-left : (t : Lists) (attr : ℕ) (name : RowName) (o : Option Side) → IsAttrDrop t attr → name ≢ StayOf attr → IsNamed (problem_of t) name → (standing_at t (line_slot t name)).side ≡ o → IsLineRow t name o → IsLineRow (dropped_attr t attr) name o
line-left t attr name None d ne named here h =
    let off = line-apart t attr name d ne named in
    (attr_row_same t attr (line_slot t name) off ∙ h.0, ap (λ (s : Standing). s.value) (attr_standing_same t attr (line_slot t name) off) ∙ h.1)
line-left t attr name (Some side) d ne named here h =
    let w : ℕ = line_slot t name in
    let off = line-apart t attr name d ne named in
    let m : Mark = record { row = name; side = side } in
    let inside : IsIn (place_of name side) (marks_at t) = stands_inside t m (named_mark t m named) (ap (λ (o : Option Side). is_side o side) here ∙ side-true side) in
    subst (λ (s : Standing). IsEquationAt (dropped_attr t attr) (deviation name) w (sign_of side *ℤ s.value.num) s.value.den) (sym (attr_standing_same t attr w off))
    (equation-left t attr (deviation name) w (sign_of side *ℤ (standing_at t w).value.num) (standing_at t w).value.den d off
    (λ own q. attr_left_inside (problem_of t) (marks_at t) attr name side own (number t w) (sign_of side *ℤ (standing_at t w).value.num) (standing_at t w).value.den d.kept.whole d.kept.corner d.free inside q) h)

-- ---- what stands in the rows

none-of : (t : Lists) (c v : ℕ) (name : RowName) → line_slot t name ≡ v → c ≢ v → number t c name ≡ pos 0 → entry t c v ≡ pos 0
none-of t c v name here ne e =
    let k : neg_ℤ (entry t c v) ≡ pos 0 = sym (ap (λ (b : Bool). cond b (pos 0) (neg_ℤ (entry t c v))) (ne_eqb v c (λ q. ne (sym q)))) ∙ ap (λ (x : ℕ). cond (nat_eq x c) (pos 0) (neg_ℤ (entry t c x))) (sym here) ∙ e in
    neg-none (entry t c v) k
  where
    neg-none : (z : ℤ) → neg_ℤ z ≡ pos 0 → z ≡ pos 0
    neg-none z e = omega (arith, ints, e)

stay-row : (t : Lists) (attr c : ℕ) (o : Owner) (i : Option Side) → IsAttrDrop t attr → IsApart t attr c → IsSlot t c → (slot_at t c).owner ≡ o → IsOwned t c o → (standing_at t c).side ≡ i → entry t c (attr_slot t attr + 1) ≡ pos 0
stay-row t attr c LevelSlot i d off slot owner owned side = ap (λ (r : List Term). coefficient (attr_slot t attr + 1) r) (d.kept.stored.empty c slot.0 owner)
stay-row t attr c (AttrSlot a) i d off slot owner owned side =
    let q : IsAttrRow t a = attr_equation t a d.kept owned.0 in
    none-of t c (attr_slot t attr + 1) (StayOf attr) refl off.stay_off
    (subst (λ (w : ℕ). number t w (StayOf attr) ≡ pos 0) owned.1
    (attr_none (problem_of t) (marks_at t) attr a q.0 (number t (attr_slot t a)) (standing_at t (attr_slot t a)).value.num (standing_at t (attr_slot t a)).value.den d.kept.whole d.kept.corner d.free (λ e. off.attr_off (sym owned.1 ∙ ap (attr_slot t) e)) q.2))
stay-row t attr c (LineSlot name) None d off slot owner owned side =
    let row : IsLineRow t name None = subst (IsLineRow t name) (ap (λ (w : ℕ). (standing_at t w).side) owned.1 ∙ side)
    (any_is (λ l. IsLineRow t l.name (standing_at t (line_slot t l.name)).side) (λ l. l.name ≡ name) (lines (problem_of t)) d.kept.lines owned.0 (λ l h e. subst (λ (n : RowName). IsLineRow t n (standing_at t (line_slot t n)).side) e h)) in
    ap (λ (r : List Term). coefficient (attr_slot t attr + 1) r) (ap (row_at t) (sym owned.1) ∙ row.0)
stay-row t attr c (LineSlot name) (Some s) d off slot owner owned side =
    let here : (standing_at t (line_slot t name)).side ≡ Some s = ap (λ (w : ℕ). (standing_at t w).side) owned.1 ∙ side in
    let row : IsLineRow t name (Some s) = subst (IsLineRow t name) here
    (any_is (λ l. IsLineRow t l.name (standing_at t (line_slot t l.name)).side) (λ l. l.name ≡ name) (lines (problem_of t)) d.kept.lines owned.0 (λ l h e. subst (λ (n : RowName). IsLineRow t n (standing_at t (line_slot t n)).side) e h)) in
    let m : Mark = record { row = name; side = s } in
    let inside : IsIn (place_of name s) (marks_at t) = stands_inside t m (named_mark t m owned.0) (ap (λ (o : Option Side). is_side o s) here ∙ side-true s) in
    none-of t c (attr_slot t attr + 1) (StayOf attr) refl off.stay_off
    (subst (λ (w : ℕ). number t w (StayOf attr) ≡ pos 0) owned.1
    (line_none (problem_of t) (marks_at t) attr name s row.0 (number t (line_slot t name)) (sign_of s *ℤ (standing_at t (line_slot t name)).value.num) (standing_at t (line_slot t name)).value.den d.kept.whole d.kept.corner d.free inside row.2))

outside-stay : (t : Lists) (attr : ℕ) → IsAttrDrop t attr → IsOutsideLine (marks_at t) (StayOf attr)
outside-stay t attr d = record {
  under = stay-out (problem_of t) (marks_at t) attr Under d.kept.whole d.kept.corner d.free;
  over = stay-out (problem_of t) (marks_at t) attr Over d.kept.whole d.kept.corner d.free;
}

stay-none : (t : Lists) (attr c : ℕ) → IsAttrDrop t attr → IsApart t attr c → entry t c (attr_slot t attr + 1) ≡ pos 0
stay-none t attr c d off = elim (cases_lt c LEVELS) [
  | inl low ↦
      let l = d.kept.levels c low in
      let named = stay_named (problem_of t) attr d.free.held in
      let by_none : l.numbers.by (StayOf attr) ≡ pos 0 = attr_level_none (problem_of t) (marks_at t) attr c l.unit l.own l.numbers.by d.kept.whole d.kept.corner d.free low l.numbers.row in
      let is : l.numbers.by (StayOf attr) ≡ number t c (StayOf attr) =
      any_is (λ m. IsOutsideLine (marks_at t) m.name → l.numbers.by m.name ≡ number t c m.name) (λ m. m.name ≡ StayOf attr) (lines (problem_of t)) l.numbers.outside named
      (λ m h e. subst (λ (n : RowName). IsOutsideLine (marks_at t) n → l.numbers.by n ≡ number t c n) e h (outside-stay t attr d)) in
      none-of t c (attr_slot t attr + 1) (StayOf attr) refl off.stay_off (sym is ∙ by_none)
  | inr up ↦ elim (cases_lt c (length t.slots)) [
    | inl within ↦ stay-row t attr c (slot_at t c).owner (standing_at t c).side d off (up, within) refl (d.kept.slots.owners c (up, within)) refl
    | inr past ↦ ap (λ (r : List Term). coefficient (attr_slot t attr + 1) r) (get_or_past t.matrix c [] (let m = d.kept.slots.matrix in omega (arith, m, past)))
  ]
]

attr-outside : (t : Lists) (attr : ℕ) → IsAttrDrop t attr → AreOutside (dropped_attr t attr)
attr-outside t attr d c e some ne = by-place (where-is t attr c d)
  where
    is-line : Owner → Type 0
    is-line LevelSlot = ⊥
    is-line (AttrSlot a) = ⊥
    is-line (LineSlot name) = Unit {0}

    not-line : (a : ℕ) (name : RowName) → AttrSlot a ≡ LineSlot name → ⊥
    not-line a name q = subst is-line (sym q) tt

    by-place : Where t attr c → IsSlot (dropped_attr t attr) e × ((standing_at (dropped_attr t attr) e).side ≡ None) × ((name : RowName) × ((slot_at (dropped_attr t attr) e).owner ≡ LineSlot name))
    by-place (gone row slot) = absurd (some (ap (coefficient e) row))
    by-place (there off) =
        let was : entry t c e ≢ pos 0 = λ z. some (ap (coefficient e) (attr_row_same t attr c off) ∙ z) in
        let out = d.kept.outside c e was ne in
        let apart : IsApart t attr e = record {
          attr_off = λ q. not-line attr out.2.0 (sym (attr_owner t attr d.kept.slots d.free.held) ∙ ap (λ (x : ℕ). (slot_at t x).owner) (sym q) ∙ out.2.1);
          stay_off = λ q. was (ap (entry t c) q ∙ stay-none t attr c d off);
        } in (
          (out.0.0, let n = count t attr in let k = out.0.1 in omega (arith, n, k)),
          ap (λ (s : Standing). s.side) (attr_standing_same t attr e apart) ∙ out.1,
          (out.2.0, ap (λ (x : Slot). x.owner) (attr_slot_same t attr e apart) ∙ out.2.1),
        )

-- ---- levels

attr-level : (t : Lists) (attr k : ℕ) → IsAttrDrop t attr → k < LEVELS → IsLevelKept t k → IsLevelKept (dropped_attr t attr) k
attr-level t attr k d lt l =
    let u : Lists = dropped_attr t attr in
    let p : Problem = problem_of t in
    let off = level-apart t attr k d lt in
    let row = attr_row_same t attr k off in
    let marks = sym (attr_drop_marks t attr d) in
    record {
      unit = l.unit;
      own = l.own;
      unit_is = l.unit_is;
      own_is = ap (λ (r : List Term). cond (nat_eq (priority_at t k).rows 0) (pos 1) (coefficient k r)) row ∙ l.own_is;
      rows = l.rows;
      empty = λ z. row ∙ l.empty z;
      least = attr_left_unit p attr k l.unit lt l.least;
      numbers = record {
        by = l.numbers.by;
        reduced = l.numbers.reduced;
        row = subst (λ (at : List Mark). IsLevelRow (without_attr attr p) at k l.unit l.own l.numbers.by) marks (attr_left_level p (marks_at t) attr k l.unit l.own l.numbers.by d.kept.whole d.kept.corner d.free lt l.numbers.row);
        outside = subst (λ (at : List Mark). All (λ m. IsOutsideLine at m.name → l.numbers.by m.name ≡ number u k m.name) (lines (without_attr attr p))) marks
            (subst (λ (r : List Term). All (λ m. IsOutsideLine (marks_at t) m.name → l.numbers.by m.name ≡ row_number t k r m.name) (lines (without_attr attr p))) (sym row)
            (attr_lines (λ m. IsOutsideLine (marks_at t) m.name → l.numbers.by m.name ≡ number t k m.name) (λ m. IsOutsideLine (marks_at t) m.name → l.numbers.by m.name ≡ number t k m.name) attr p (λ r h. h) (λ s i j up high ne h. h) l.numbers.outside));
        reduced_by = record {
          under = attr_lines (λ m. l.numbers.reduced (place_of m.name Under) ≡ pos (l.own * under_share l.unit k m) -ℤ l.numbers.by m.name) (λ m. l.numbers.reduced (place_of m.name Under) ≡ pos (l.own * under_share l.unit k m) -ℤ l.numbers.by m.name) attr p (λ r h. h)
              (λ s i j up high ne h. h ∙ ap (λ (n : ℕ). pos (l.own * n) -ℤ l.numbers.by (StayOf s.attr)) (no-under l.unit k (line_of_stay i s) (λ e. omega (arith, up, lt, e)) ∙ sym (no-under l.unit k (line_of_stay j s) (λ e. omega (arith, high, lt, e))))) l.numbers.reduced_by.under;
          over = attr_lines (λ m. l.numbers.reduced (place_of m.name Over) ≡ pos (l.own * over_share l.unit k m) +ℤ l.numbers.by m.name) (λ m. l.numbers.reduced (place_of m.name Over) ≡ pos (l.own * over_share l.unit k m) +ℤ l.numbers.by m.name) attr p (λ r h. h)
              (λ s i j up high ne h. h ∙ ap (λ (n : ℕ). pos (l.own * n) +ℤ l.numbers.by (StayOf s.attr)) (no-over l.unit k (line_of_stay i s) (λ e. omega (arith, up, lt, e)) ∙ sym (no-over l.unit k (line_of_stay j s) (λ e. omega (arith, high, lt, e))))) l.numbers.reduced_by.over;
        };
        fits = record {
          scale_fits = l.numbers.fits.scale_fits;
          times_fit = attr_lines (λ m. IsFitting (l.numbers.by m.name)) (λ m. IsFitting (l.numbers.by m.name)) attr p (λ r h. h) (λ s i j up high ne h. h) l.numbers.fits.times_fit;
          reduced_fit = λ side. attr_lines (λ m. IsFitting (l.numbers.reduced (place_of m.name side))) (λ m. IsFitting (l.numbers.reduced (place_of m.name side))) attr p (λ r h. h) (λ s i j up high ne h. h) (l.numbers.fits.reduced_fit side);
        };
      };
      cost = subst (λ (at : List Mark). IsCostAt (without_attr attr p) at k (standing_at u k).value) marks
          (subst (λ (s : Standing). IsCostAt (without_attr attr p) (marks_at t) k s.value) (sym (attr_standing_same t attr k off))
          (attr_left_cost p (marks_at t) attr k (standing_at t k).value d.kept.whole d.kept.corner d.free lt l.cost));
    }

-- ---- all of it

pub attr_drop_kept : (t : Lists) (attr : ℕ) → IsAttrDrop t attr → IsKept (dropped_attr t attr)
attr_drop_kept t attr d =
    let p : Problem = problem_of t in
    let k = d.kept in
    let marks = sym (attr_drop_marks t attr d) in
    let w : ℕ = attr_slot t attr in
    record {
      whole = attr-whole p attr k.whole d.free;
      corner = subst (λ (at : List Mark). IsCorner (without_attr attr p) at) marks (attr_left_corner p (marks_at t) attr k.whole k.corner d.free);
      rays = subst (λ (at : List Mark). HasRays (without_attr attr p) at) marks (attr_left_rays p (marks_at t) attr k.rays);
      slots = attr-slots t attr d;
      stored = attr-stored t attr d;
      matrix = All-set IsKeptRow (slice_set t.matrix w []) (w + 1) [] none_kept (All-set IsKeptRow t.matrix w [] none_kept k.matrix);
      values = All-set (λ (s : Standing). fractions.IsKept s.value) (slice_set t.standings w no_standing) (w + 1) no_standing zero_kept (All-set (λ (s : Standing). fractions.IsKept s.value) t.standings w no_standing zero_kept k.values);
      attrs = λ i x lt.
          let h = all-stays (λ (s : Stay). HasStay t.stays s.attr × IsAttrRow t s.attr) attr t.stays (λ j y within. (own_stay t.stays j y within, k.attrs j y within)) i x lt in
          attr-left t attr (slice_index_or (filter (other_stay attr) t.stays) i x).attr d h.1 h.0.0 h.0.1;
      lines = λ i x lt.
          let name : RowName = (slice_index_or (lines (without_attr attr p)) i x).name in
          let h = left-lines t attr i x lt in
          let row : IsLineRow t name (standing_at t (line_slot t name)).side =
          any_is (λ l. IsLineRow t l.name (standing_at t (line_slot t l.name)).side) (λ l. l.name ≡ name) (lines p) k.lines h.0 (λ l r e. subst (λ (n : RowName). IsLineRow t n (standing_at t (line_slot t n)).side) e r) in
          subst (λ (s : Standing). IsLineRow (dropped_attr t attr) name s.side) (sym (attr_standing_same t attr (line_slot t name) (line-apart t attr name d h.1 h.0)))
          (line-left t attr name (standing_at t (line_slot t name)).side d h.1 h.0 refl row);
      outside = attr-outside t attr d;
      levels = λ n lt. attr-level t attr n d lt (k.levels n lt);
      stay_levels = λ i x lt.
          let h = all-stays (λ (s : Stay). HasStay t.stays s.attr × HasStayRoom t s) attr t.stays (λ j y within. (own_stay t.stays j y within, k.stay_levels j y within)) i x lt in
          let a : ℕ = (slice_index_or (filter (other_stay attr) t.stays) i x).attr in
          subst (λ (r : List Term). IsFitting (pos 2 *ℤ coefficient (attr_slot t a + 1) r)) (sym (attr_row_same t attr (attr_slot t a + 1) (line-apart t attr (StayOf a) d (λ e. h.1 (ap attr-in e)) (stay_named p a h.0.0)))) h.0.1;
    }
  where
    attr-in : RowName → ℕ
    attr-in (Held id) = 0
    attr-in (StayOf a) = a
