-- The outside lines in an inside mark's row, in the order of the slots.
use Rattle.std.proofs.Common.{◌≡◌, ◌≢◌, ◌∙◌, ℕ, zero, suc, ◌<◌, ◌≤◌, Bool, true, cond, List, [], ◌∷◌, map, filter, length, slice_get, slice_index_or, refl, sym, ap, subst, arith, inl, inr, pos, neg_ℤ, ◌*ℤ◌, All, AllPairs, Contains, ◌⊎◌, Some, None, eq-eqb, ne_eqb}
use Rattle.std.specs.List.{AllByRecursion as Each}
use Rattle.std.proofs.lemmas.Bool.{cases_eq}
use Rattle.std.proofs.lemmas.List.Elements.{All-contains, recursion_from_All}
use Rattle.std.proofs.lemmas.List.Kept.{AllPairs-cons}
use Rattle.row_core.specs.Rows.{IsKeptRow, IsRising, Term}
use Rattle.version_lists.specs.Lists.{HasColumn}
use Rattle.version_lists.proofs.Indexing.{number_at_column}
use Rattle.problem_core.specs.declared.parts.Mark.{Mark}
use Rattle.problem_core.specs.declared.parts.RowName.{RowName}
use Rattle.problem_core.specs.declared.parts.Side.{Side}
use Rattle.problem_core.specs.declared.parts.Side.TheVariants.{Under}
use Rattle.problem_core.specs.declared.stops.What.TheVariants.{Mark as MarkOf}
use Rattle.problem_core.specs.Corners.{IsIn, place}
use Rattle.corner_lines.specs.LineEquations.{sign_of}
use Rattle.corner_view.specs.declared.types.Owner.{Owner}
use Rattle.corner_view.specs.declared.types.Owner.TheVariants.{Line as LineSlot}
use Rattle.corner_table.specs.declared.table.Table.{Table}
use Rattle.corner_view.specs.Seen.{CornerView, IsNamed, IsOutside}
use Rattle.corner_view.specs.Entries.{AreBothOutside, AreEntries, HasEntry}
use Rattle.corner_table.specs.Tables.{Lists, entry, line_slot, lists_of, marks_at, problem_of, row_at, slot_at, standing_at}
use Rattle.corner_writings.specs.Entries.{columns_but}
use Rattle.corner_table.specs.Kept.{IsKept, IsOwned, IsSlot}
use Rattle.corner_table.specs.Invariants.{name_of, seen_of, view_of}
use Rattle.corner_table.proofs.Basics.ListFacts.{all_from, from_map, further, get_mapped, to_map}
use Rattle.corner_table.proofs.Readings.MarkFacts.{inside_stands}
use Rattle.corner_table.proofs.Readings.ReadFacts.{inside_equation, is_some}
use Rattle.corner_view.proofs.Facts.{mark_named, moves_where, named_in}
use Rattle.corner_table.proofs.Readings.SlotFacts.{named_slot}
use Rattle.corner_table.proofs.Readings.WritingFacts.{in_mark, line_owner, lines_apart, other_what}
use Rattle.corner_writings.proofs.Readings.MoverFacts.{by_images, filter_has}
use Rattle.std.proofs.lemmas.List.Elements.{filter_passes}
use Rattle.corner_table.proofs.Readings.KeptFacts.{filter_same}
use Rattle.corner_writings.proofs.Readings.FreeSlots.{free_line}
use Rattle.corner_writings.proofs.Readings.MovedFacts.{has_at, is_among, moves_entry, no_entry, none_some, not_zero, slot_of, slots_in_order, maps_same as images_same}
use Rattle.frac_core.proofs.Bools.{bools-same as both_ways}
use Rattle.frac_core.proofs.Lists.{pairs-rest, length-mapped as map_length}
use Rattle.corner_laws.proofs.Counting.{head_pairs as pairs-first}

-- ---- the columns of a row but one

not_here : (w : ℕ) (t : Term) (row : List Term) → t.col ≢ w → columns_but w (t ∷ row) ≡ t.col ∷ columns_but w row
not_here w t row ne = ap (λ (b : Bool). cond b (columns_but w row) (t.col ∷ columns_but w row)) (ne_eqb t.col w ne)

only_here : (w : ℕ) (t : Term) (row : List Term) → t.col ≡ w → columns_but w (t ∷ row) ≡ columns_but w row
only_here w t row e = ap (λ (b : Bool). cond b (columns_but w row) (t.col ∷ columns_but w row)) (eq-eqb t.col w e)

-- past the column all are left
all_left : (w c : ℕ) (row : List Term) → w ≡ c → Each (λ t. c < t.col) row → columns_but w row ≡ map (λ (t : Term). t.col) row
all_left w c [] e h = refl
all_left w c (t ∷ row) e h = not_here w t row (let less = h.0 in λ same. absurd (omega (arith, less, same, e))) ∙ ap (λ cs. t.col ∷ cs) (all_left w c row e h.1)

first_less : (c w : ℕ) (row : List Term) → Each (λ t. c < t.col) row → HasColumn w row → c ≢ w
first_less c w [] h has e = absurd has
first_less c w (t ∷ row) h (inl here) e = let less = h.0 in absurd (omega (arith, less, here, e))
first_less c w (t ∷ row) h (inr has) e = first_less c w row h.1 has e

before_all : (t : Term) (row : List Term) → IsRising (t ∷ row) → Each (λ s. t.col < s.col) row
before_all t row rising = recursion_from_All (λ (s : Term). t.col < s.col) row (pairs-first (λ (s r : Term). s.col < r.col) t row rising)

pub count_but : (w : ℕ) (row : List Term) → IsRising row → HasColumn w row → suc (length (columns_but w row)) ≡ length row
count_but w [] rising has = absurd has
count_but w (t ∷ row) rising (inl e) = ap (λ (n : ℕ). suc n) (ap length (only_here w t row e ∙ all_left w t.col row (sym e) (before_all t row rising)) ∙ map_length (λ (s : Term). s.col) row)
count_but w (t ∷ row) rising (inr has) =
    ap (λ cs. suc (length cs)) (not_here w t row (first_less t.col w row (before_all t row rising) has))
    ∙ ap (λ (n : ℕ). suc n) (count_but w row (pairs-rest (λ (s r : Term). s.col < r.col) t row rising) has)

map_at : (row : List Term) (i : ℕ) (d : Term) → i < length row → slice_index_or (map (λ (t : Term). t.col) row) i 0 ≡ (slice_index_or row i d).col
map_at [] i d lt = absurd (omega (arith, lt))
map_at (t ∷ row) zero d lt = refl
map_at (t ∷ row) (suc i) d lt = map_at row i d (omega (arith, lt))

-- before the column that is left out
pub before_but : (w : ℕ) (row : List Term) (i : ℕ) (d : Term) → IsRising row → HasColumn w row → i < length row → (slice_index_or row i d).col < w → slice_index_or (columns_but w row) i 0 ≡ (slice_index_or row i d).col
before_but w [] i d rising has lt less = absurd has
before_but w (t ∷ row) zero d rising (inl e) lt less = absurd (omega (arith, e, less))
before_but w (t ∷ row) (suc i) d rising (inl e) lt less =
    let after : t.col < (slice_index_or row i d).col = pairs-first (λ (s r : Term). s.col < r.col) t row rising i d (omega (arith, lt)) in
    absurd (omega (arith, after, e, less))
before_but w (t ∷ row) zero d rising (inr has) lt less = ap (λ cs. slice_index_or cs 0 0) (not_here w t row (first_less t.col w row (before_all t row rising) has))
before_but w (t ∷ row) (suc i) d rising (inr has) lt less =
    ap (λ cs. slice_index_or cs (suc i) 0) (not_here w t row (first_less t.col w row (before_all t row rising) has))
    ∙ before_but w row i d (pairs-rest (λ (s r : Term). s.col < r.col) t row rising) has (omega (arith, lt)) less

later_column : (w : ℕ) (t : Term) (row : List Term) → IsRising (t ∷ row) → HasColumn w row → t.col < w
later_column w t row rising has = less_than t.col w row (before_all t row rising) has
  where
    less_than : (c w : ℕ) (row : List Term) → Each (λ t. c < t.col) row → HasColumn w row → c < w
    less_than c w [] h has = absurd has
    less_than c w (t ∷ row) h (inl here) = let less = h.0 in omega (arith, less, here)
    less_than c w (t ∷ row) h (inr has) = less_than c w row h.1 has

-- from the column that is left out on
pub behind_but : (w : ℕ) (row : List Term) (i : ℕ) (d : Term) → IsRising row → HasColumn w row → suc i < length row → w ≤ (slice_index_or row i d).col → slice_index_or (columns_but w row) i 0 ≡ (slice_index_or row (suc i) d).col
behind_but w [] i d rising has lt le = absurd has
behind_but w (t ∷ row) i d rising (inl e) lt le =
    ap (λ cs. slice_index_or cs i 0) (only_here w t row e ∙ all_left w t.col row (sym e) (before_all t row rising))
    ∙ map_at row i d (omega (arith, lt))
behind_but w (t ∷ row) zero d rising (inr has) lt le = let less = later_column w t row rising has in absurd (omega (arith, less, le))
behind_but w (t ∷ row) (suc i) d rising (inr has) lt le =
    ap (λ cs. slice_index_or cs (suc i) 0) (not_here w t row (first_less t.col w row (before_all t row rising) has))
    ∙ behind_but w row i d (pairs-rest (λ (s r : Term). s.col < r.col) t row rising) has (omega (arith, lt)) le

but_behind : (w : ℕ) (t : Term) (row : List Term) (c : ℕ) → t.col ≡ w → c ≢ w → (HasColumn c row → Contains (columns_but w row) c) → (t.col ≡ c) ⊎ HasColumn c row → Contains (columns_but w row) c
but_behind w t row c e ne rest (inl here) = absurd (ne (sym here ∙ e))
but_behind w t row c e ne rest (inr there) = rest there

but_here : (w : ℕ) (t : Term) (row : List Term) (c : ℕ) → (HasColumn c row → Contains (columns_but w row) c) → (t.col ≡ c) ⊎ HasColumn c row → Contains (t.col ∷ columns_but w row) c
but_here w t row c rest (inl here) = (0, omega arith, here)
but_here w t row c rest (inr there) = further t.col (columns_but w row) c (rest there)

pub has_but : (w : ℕ) (row : List Term) (c : ℕ) → HasColumn c row → c ≢ w → Contains (columns_but w row) c
has_but w [] c has ne = absurd has
has_but w (t ∷ row) c has ne =
    elim (cases_eq t.col w) [
      | inl e ↦ subst (λ cs. Contains cs c) (sym (only_here w t row e)) (but_behind w t row c e ne (λ there. has_but w row c there ne) has)
      | inr other ↦ subst (λ cs. Contains cs c) (sym (not_here w t row other)) (but_here w t row c (λ there. has_but w row c there ne) has)
    ]

first_or_later : (x : ℕ) (xs : List ℕ) (c : ℕ) → Contains (x ∷ xs) c → (x ≡ c) ⊎ Contains xs c
first_or_later x xs c (zero, within, is) = inl is
first_or_later x xs c (suc k, within, is) = inr (k, omega (arith, within), is)

of_but : (w : ℕ) (row : List Term) (c : ℕ) → Contains (columns_but w row) c → HasColumn c row × (c ≢ w)
of_but w [] c (k, within, is) = absurd (omega (arith, within))
of_but w (t ∷ row) c has =
    elim (cases_eq t.col w) [
      | inl e ↦ let h = of_but w row c (subst (λ cs. Contains cs c) (only_here w t row e) has) in (inr h.0, h.1)
      | inr other ↦
          elim (first_or_later t.col (columns_but w row) c (subst (λ cs. Contains cs c) (not_here w t row other) has)) [
            | inl here ↦ (inl here, λ e. other (here ∙ e))
            | inr there ↦ let h = of_but w row c there in (inr h.0, h.1)
          ]
    ]

each_but : (c : ℕ) (row : List Term) → Each (λ t. c < t.col) row → (v : ℕ) → HasColumn v row → c < v
each_but c [] h v has = absurd has
each_but c (t ∷ row) h v (inl e) = let less = h.0 in omega (arith, less, e)
each_but c (t ∷ row) h v (inr has) = each_but c row h.1 v has

rise_but : (w : ℕ) (row : List Term) → IsRising row → AllPairs (λ v u. v < u) (columns_but w row)
rise_but w [] rising = λ i j d less within. absurd (omega (arith, within))
rise_but w (t ∷ row) rising =
    let rest : AllPairs (λ v u. v < u) (columns_but w row) = rise_but w row (pairs-rest (λ (s r : Term). s.col < r.col) t row rising) in
    elim (cases_eq t.col w) [
      | inl e ↦ subst (AllPairs (λ v u. v < u)) (sym (only_here w t row e)) rest
      | inr other ↦
          subst (AllPairs (λ v u. v < u)) (sym (not_here w t row other))
          (AllPairs-cons (λ v u. v < u) t.col (columns_but w row)
          (all_from (λ v. t.col < v) (columns_but w row) (λ v has. each_but t.col row (before_all t row rising) v (of_but w row v has).0)) rest)
    ]

pub same_default : (row : List Term) (i : ℕ) (d e : Term) → i < length row → slice_index_or row i d ≡ slice_index_or row i e
same_default [] i d e lt = absurd (omega (arith, lt))
same_default (t ∷ row) zero d e lt = refl
same_default (t ∷ row) (suc i) d e lt = same_default row i d e (omega (arith, lt))

-- ---- the row of an inside mark

abbrev pub slot_in : Lists → Mark → ℕ
slot_in t m = line_slot t m.row

abbrev pub row_in : Lists → Mark → List Term
row_in t m = row_at t (slot_in t m)

abbrev pub line_at : Lists → ℕ → RowName
line_at t w = name_of (slot_at t w).owner

pub row_slot : (t : Lists) (m : Mark) → IsKept t → IsIn (place m) (marks_at t) → IsSlot t (slot_in t m)
row_slot t m kept inside = named_slot t m.row kept.slots (mark_named (problem_of t) m (in_mark t m kept inside))

pub row_within : (t : Lists) (m : Mark) → IsKept t → IsIn (place m) (marks_at t) → slot_in t m < length t.matrix
row_within t m kept inside = let h = (row_slot t m kept inside).1 in let e = kept.slots.matrix in omega (arith, h, e)

pub row_kept : (t : Lists) (m : Mark) → IsKept t → IsIn (place m) (marks_at t) → IsKeptRow (row_in t m)
row_kept t m kept inside = kept.matrix (slot_in t m) [] (row_within t m kept inside)

pub row_has : (t : Lists) (m : Mark) → IsKept t → IsIn (place m) (marks_at t) → HasColumn (slot_in t m) (row_in t m)
row_has t m kept inside =
    let h = inside_equation t m kept (in_mark t m kept inside) (inside_stands t m inside) in
    (number_at_column (slot_in t m) (row_in t m) (row_kept t m kept inside)).0 (λ e. not_zero h.0 h.2.own_positive (sym h.1 ∙ e))

-- a slot in it other than its own is an outside line's
pub record IsEntrySlot (t : Lists) (m : Mark) (c : ℕ) : Type 0 where
  pub slot : IsSlot t c
  pub name : RowName
  pub owner : (slot_at t c).owner ≡ LineSlot name
  pub slot_is : line_slot t name ≡ c
  pub named : IsNamed (problem_of t) name
  pub none : (standing_at t c).side ≡ None
  pub some : entry t (slot_in t m) c ≢ pos 0

pub owned_named : (t : Lists) (c : ℕ) (name : RowName) → IsKept t → IsSlot t c → (slot_at t c).owner ≡ LineSlot name → IsNamed (problem_of t) name × (line_slot t name ≡ c)
owned_named t c name kept slot e = subst (IsOwned t c) e (kept.slots.owners c slot)

pub entry_slot : (t : Lists) (m : Mark) (c : ℕ) → IsKept t → IsIn (place m) (marks_at t) → Contains (columns_but (slot_in t m) (row_in t m)) c → IsEntrySlot t m c
entry_slot t m c kept inside has =
    let h = of_but (slot_in t m) (row_in t m) c has in
    let some = (number_at_column c (row_in t m) (row_kept t m kept inside)).1 h.0 in
    let out = kept.outside (slot_in t m) c some h.1 in
    let owned = owned_named t c out.2.0 kept out.0 out.2.1 in
    record {
      slot = out.0;
      name = out.2.0;
      owner = out.2.1;
      slot_is = owned.1;
      named = owned.0;
      none = out.1;
      some = some;
    }

pub entry_outside : (t : Lists) (m : Mark) (c : ℕ) (h : IsEntrySlot t m c) → (side : Side) → IsOutside (problem_of t) (marks_at t) (record { row = h.name; side = side })
entry_outside t m c h side = (
  named_in (problem_of t) h.name side h.named,
  λ i. none_some (standing_at t (line_slot t h.name)).side side (ap (λ w. (standing_at t w).side) h.slot_is ∙ h.none)
      (is_some (standing_at t (line_slot t h.name)).side side (inside_stands t (record { row = h.name; side = side }) i)),
)

entry_apart : (t : Lists) (m : Mark) (c : ℕ) → IsIn (place m) (marks_at t) → (h : IsEntrySlot t m c) → m.row ≢ h.name
entry_apart t m c inside h e =
    none_some (standing_at t (line_slot t h.name)).side m.side (ap (λ w. (standing_at t w).side) h.slot_is ∙ h.none)
    (ap (λ (n : RowName). (standing_at t (line_slot t n)).side) (sym e) ∙ is_some (standing_at t (line_slot t m.row)).side m.side (inside_stands t m inside))

pub slot_entry : (t : Lists) (m : Mark) (c : ℕ) → IsKept t → IsIn (place m) (marks_at t) → (h : IsEntrySlot t m c) → HasEntry (problem_of t) (marks_at t) m h.name
slot_entry t m c kept inside h =
    let k : Mark = record { row = h.name; side = Under } in
    record {
      other = λ e. entry_apart t m c inside h (sym e);
      side = Under;
      outside = entry_outside t m c h Under;
      number = neg_ℤ (entry t (slot_in t m) (line_slot t h.name) *ℤ (sign_of Under *ℤ sign_of m.side));
      is = other_what t (MarkOf m) k kept (place m, (inside, refl)) (entry_outside t m c h Under) (entry_apart t m c inside h);
      nonzero = λ e. h.some (subst (λ w. entry t (slot_in t m) w ≡ pos 0) h.slot_is (no_entry Under (MarkOf m) (entry t (slot_in t m) (line_slot t h.name)) e));
    }

pub entry_named : (t : Lists) (m : Mark) (name : RowName) → HasEntry (problem_of t) (marks_at t) m name → IsNamed (problem_of t) name
entry_named t m name h = mark_named (problem_of t) (record { row = name; side = h.side }) h.outside.0

pub entry_there : (t : Lists) (m : Mark) (name : RowName) → IsKept t → IsIn (place m) (marks_at t) → HasEntry (problem_of t) (marks_at t) m name → Contains (columns_but (slot_in t m) (row_in t m)) (line_slot t name)
entry_there t m name kept inside h =
    let k : Mark = record { row = name; side = h.side } in
    let moves = moves_where (problem_of t) (marks_at t) k (MarkOf m) h.number kept.corner kept.rays h.outside h.is h.nonzero in
    let some = moves_entry t k (MarkOf m) kept h.outside (λ e. h.other (sym e)) moves in
    has_but (slot_in t m) (row_in t m) (line_slot t name) ((number_at_column (line_slot t name) (row_in t m) (row_kept t m kept inside)).0 some)
    (λ e. h.other (sym (lines_apart t m.row name kept.slots (mark_named (problem_of t) m (in_mark t m kept inside)) (entry_named t m name h) e)))

-- ---- all of them

line_is : (t : Lists) (c : ℕ) (name : RowName) → (slot_at t c).owner ≡ LineSlot name → line_at t c ≡ name
line_is t c name e = ap name_of e

pub entries_are : (t : Lists) (m : Mark) → IsKept t → IsIn (place m) (marks_at t) → AreEntries (seen_of t) m (map (line_at t) (columns_but (slot_in t m) (row_in t m)))
entries_are t m kept inside =
    let ws = columns_but (slot_in t m) (row_in t m) in
    record {
      outside = all_from (AreBothOutside (problem_of t) (marks_at t)) (map (line_at t) ws) (λ name c.
          let i = from_map (line_at t) ws name c in
          let h = entry_slot t m i.of kept inside i.has in
          subst (AreBothOutside (problem_of t) (marks_at t)) (sym (line_is t i.of h.name h.owner) ∙ i.is) (entry_outside t m i.of h));
      have = all_from (HasEntry (problem_of t) (marks_at t) m) (map (line_at t) ws) (λ name c.
          let i = from_map (line_at t) ws name c in
          let h = entry_slot t m i.of kept inside i.has in
          subst (HasEntry (problem_of t) (marks_at t) m) (sym (line_is t i.of h.name h.owner) ∙ i.is) (slot_entry t m i.of kept inside h));
      all = λ name h.
          subst (λ (n : RowName). Contains (map (line_at t) ws) n)
          (line_is t (line_slot t name) name (line_owner t name kept.slots (entry_named t m name h)))
          (to_map (line_at t) ws (line_slot t name) (entry_there t m name kept inside h));
      in_order = (
        λ o. is_among ws (slot_of t o),
        images_same (line_at t) (λ (n : RowName). LineSlot n) (λ w. (slot_at t w).owner) ws (λ w c. let h = entry_slot t m w kept inside c in ap (λ (n : RowName). LineSlot n) (line_is t w h.name h.owner) ∙ sym h.owner)
            ∙ slots_in_order t ws kept.slots (rise_but (slot_in t m) (row_in t m) (row_kept t m kept inside).lowest.rising) (λ w c. (entry_slot t m w kept inside c).slot)
            (λ w c e. let s = entry_slot t m w kept inside c in free_line s.name (sym s.owner ∙ e)),
      );
    }

-- ---- one list of them

line_name : (a b : RowName) → LineSlot a ≡ LineSlot b → a ≡ b
line_name a b e = ap name_of e

passed : (v : CornerView) (m : Mark) (us ws : List RowName) (k l : Owner → Bool) → All (HasEntry v.problem v.marks m) us → ((name : RowName) → HasEntry v.problem v.marks m name → Contains ws name)
    → map (λ (n : RowName). LineSlot n) us ≡ filter k v.order → map (λ (n : RowName). LineSlot n) ws ≡ filter l v.order → (o : Owner) → Contains v.order o → k o ≡ true → l o ≡ true
passed v m us ws k l have all a b o has e =
    let i = from_map (λ (n : RowName). LineSlot n) us o (subst (λ os. Contains os o) (sym a) (filter_has k v.order o has e)) in
    All-contains (λ q. l q ≡ true) (filter l v.order) o (filter_passes l v.order)
    (subst (λ os. Contains os o) b (subst (λ q. Contains (map (λ (n : RowName). LineSlot n) ws) q) i.is (to_map (λ (n : RowName). LineSlot n) ws i.of (all i.of (All-contains (HasEntry v.problem v.marks m) us i.of have i.has)))))

pub same_entries : (v : CornerView) (m : Mark) (us ws : List RowName) → AreEntries v m us → AreEntries v m ws → us ≡ ws
same_entries v m us ws a b =
    by_images (λ (n : RowName). LineSlot n) (HasEntry v.problem v.marks m) us ws (λ x y g h e. line_name x y e) (recursion_from_All _ us a.have) (recursion_from_All _ ws b.have)
    (a.in_order.1 ∙ filter_same a.in_order.0 b.in_order.0 v.order (λ o has. both_ways (a.in_order.0 o) (b.in_order.0 o)
    (passed v m us ws a.in_order.0 b.in_order.0 a.have b.all a.in_order.1 b.in_order.1 o has) (passed v m ws us b.in_order.0 a.in_order.0 b.have a.all b.in_order.1 a.in_order.1 o has)) ∙ sym b.in_order.1)

pub few_columns : (t : Lists) (m : Mark) (us : List RowName) (i : ℕ) → IsKept t → IsIn (place m) (marks_at t) → AreEntries (seen_of t) m us → i < length us → i < length (columns_but (slot_in t m) (row_in t m))
few_columns t m us i kept inside are lt =
    subst (λ n. i < n) (ap length (same_entries (seen_of t) m us (map (line_at t) (columns_but (slot_in t m) (row_in t m))) are (entries_are t m kept inside)) ∙ map_length (line_at t) (columns_but (slot_in t m) (row_in t m))) lt

pub entry_at : (t : Lists) (m : Mark) (us : List RowName) (i : ℕ) → IsKept t → IsIn (place m) (marks_at t) → AreEntries (seen_of t) m us → i < length (columns_but (slot_in t m) (row_in t m))
    → slice_get us i ≡ Some (line_at t (slice_index_or (columns_but (slot_in t m) (row_in t m)) i 0))
entry_at t m us i kept inside are lt =
    ap (λ ns. slice_get ns i) (same_entries (seen_of t) m us (map (line_at t) (columns_but (slot_in t m) (row_in t m))) are (entries_are t m kept inside))
    ∙ get_mapped (line_at t) (columns_but (slot_in t m) (row_in t m)) i 0 lt

pub column_slot : (t : Lists) (m : Mark) (i : ℕ) → IsKept t → IsIn (place m) (marks_at t) → i < length (columns_but (slot_in t m) (row_in t m)) → IsSlot t (slice_index_or (columns_but (slot_in t m) (row_in t m)) i 0)
column_slot t m i kept inside lt = (entry_slot t m (slice_index_or (columns_but (slot_in t m) (row_in t m)) i 0) kept inside (has_at (columns_but (slot_in t m) (row_in t m)) i lt)).slot

-- ---- of a corner

pub seen_entries : (t : Table) (listed : List ℕ) (m : Mark) (names : List RowName) → AreEntries (seen_of (lists_of t)) m names → AreEntries (view_of t listed) m names
seen_entries t listed m names h = record { outside = h.outside; have = h.have; all = h.all; in_order = h.in_order }

pub entries_seen : (t : Table) (listed : List ℕ) (m : Mark) (names : List RowName) → AreEntries (view_of t listed) m names → AreEntries (seen_of (lists_of t)) m names
entries_seen t listed m names h = record { outside = h.outside; have = h.have; all = h.all; in_order = h.in_order }
