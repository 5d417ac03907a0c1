-- What packing needs of a corner's lists, and what it makes of them.
use Rattle.std.proofs.Common.{◌≡◌, ◌≢◌, ◌⊎◌, ◌∙◌, ℕ, zero, suc, ◌+◌, ◌<◌, ◌≤◌, ◌++◌, List, [], ◌∷◌, length, slice_index_or, slice_set, take, All, sym, ap, refl, pos, arith, inl, inr, subst}
use Rattle.std.specs.List.{AllByRecursion as Each}
use Rattle.std.proofs.lemmas.List.{get_or_past, get_or-set_same, get_or-set_other, get_or-take, length-set, length-take-le}
use Rattle.std.proofs.lemmas.List.Elements.{All-get_or, All-from_get_or, All-from_recursion}
use Rattle.std.proofs.lemmas.Bool.Decides.{eqb_tells, leb_tells}
use Rattle.frac_core.specs.Fraction.{IsKept as IsKeptFraction}
use Rattle.version_lists.specs.Numbers.{AreRenumbered}
use Rattle.row_core.specs.Rows.{Term, IsKeptRow, coefficient}
use Rattle.row_core.specs.Renames.{AreKeptApart, place_in, renamed}
use Rattle.row_core.proofs.Renames.{renamed_below, renamed_kept}
use Rattle.version_lists.specs.Indexes.{row_at}
use Rattle.version_lists.specs.Lists.{HasColumn}
use Rattle.version_lists.specs.Matrices.{IsBelow}
use Rattle.version_lists.proofs.Indexing.{number_at_column}
use Rattle.corner_view.specs.declared.types.Owner.{Owner}
use Rattle.corner_view.specs.declared.types.Owner.TheVariants.{Level as LevelSlot, Attr as AttrSlot, Line as LineSlot}
use Rattle.corner_table.specs.declared.table.Standing.{Standing}
use Rattle.corner_table.specs.declared.table.TheConstants.{LEVELS}
use Rattle.corner_table.specs.Tables.{Lists, slot_at}
use Rattle.corner_table.specs.Kept.{AreSlots, IsKept}
use Rattle.corner_packing.specs.Packing.{ArePacked, ArePlaces, IsTaken, packed_slot}
use Rattle.corner_packing.specs.Places.{AreDense}
use Rattle.corner_packing.specs.Moving.{AreAtPlaces, AreCleared, AreMoved, AreRisingPlaces, HasPlaces, IsPlaced}
use Rattle.corner_table.specs.Tables.{no_slot, no_standing}
use Rattle.corner_packing.proofs.PlaceFacts.{below_or, no_place, place_none}
use Rattle.corner_packing.proofs.MovingFacts.{placed_within}

-- ---- slots that are taken

owner_or : (o : Owner) → (o ≡ LevelSlot) ⊎ (o ≢ LevelSlot)
owner_or LevelSlot = inl refl
owner_or (AttrSlot attr) = inr (λ e. cc)
owner_or (LineSlot name) = inr (λ e. cc)

in_slots : (t : Lists) (w : ℕ) → LEVELS ≤ length t.slots → IsTaken t w → w < length t.slots
in_slots t w levels (inl lt) = omega (arith, lt, levels)
in_slots t w levels (inr (lt, ne)) = lt

pub is_taken_or : (t : Lists) (w : ℕ) → IsTaken t w ⊎ (IsTaken t w → ⊥)
is_taken_or t w = elim (leb_tells LEVELS w) [
  | inr (b, lt) ↦ inl (inl lt)
  | inl (b, le) ↦ elim (leb_tells (length t.slots) w) [
    | inl (b, past) ↦ inr (λ k. elim k [
      | inl lt ↦ absurd (omega (arith, lt, le))
      | inr (lt, ne) ↦ absurd (omega (arith, lt, past))
    ])
    | inr (b, within) ↦ elim (owner_or (slot_at t w).owner) [
      | inl e ↦ inr (λ k. elim k [
        | inl lt ↦ absurd (omega (arith, lt, le))
        | inr (lt, ne) ↦ ne e
      ])
      | inr ne ↦ inl (inr (within, ne))
    ]
  ]
]

-- a slot of nothing gets no place
pub none_taken : (t : Lists) (w : ℕ) (places : List ℕ) (count : ℕ) → AreDense (IsTaken t) LEVELS w places count → (IsTaken t w → ⊥) → AreDense (IsTaken t) LEVELS (w + 1) (places ++ 0 ∷ []) count
none_taken t w places count h never = elim (leb_tells LEVELS w) [
  | inl (b, le) ↦ place_none (IsTaken t) LEVELS w places count le h never
  | inr (b, lt) ↦ absurd (never (inl lt))
]

-- once each slot has its place
pub are_places : (t : Lists) (i : ℕ) (places : List ℕ) (count : ℕ) → i ≡ length t.slots → LEVELS ≤ length t.slots → AreDense (IsTaken t) LEVELS i places count → ArePlaces t places count
are_places t i places count end levels h = record {
  length_is = h.length_is ∙ end;
  levels = λ w lt. h.own w lt (omega (arith, lt, end, levels));
  none = λ w never. elim (leb_tells i w) [
    | inl (b, past) ↦ let long = h.length_is in no_place places w (omega (arith, long, past))
    | inr (b, lt) ↦ h.none w lt never
  ];
  high = λ w le taken. h.high w (below w taken) le taken;
  within = λ w taken. h.within w (below w taken) taken;
  low = h.low;
  rising = λ v w lt one two. h.rising v w (below w two) lt one two;
  next = λ w one two. h.next w (below (w + 1) two) one two;
  onto = λ v lt.
      let (w, under, taken, is) = h.onto v lt in
      (w, taken, is);
}
  where
    below : (w : ℕ) → IsTaken t w → w < i
    below w taken = let lt = in_slots t w levels taken in omega (arith, lt, end)

-- ---- places that rise

pub placed_of : (t : Lists) (places : List ℕ) (count w : ℕ) → ArePlaces t places count → IsTaken t w → IsPlaced places w
placed_of t places count w h taken = elim (leb_tells LEVELS w) [
  | inr (b, lt) ↦ inl lt
  | inl (b, le) ↦ inr (λ none. let k = h.high w le taken in some_levels (omega (arith, k, none)))
]
  where
    some_levels : LEVELS ≤ 0 → ⊥
    some_levels le = omega (arith, le)

pub taken_of : (t : Lists) (places : List ℕ) (count w : ℕ) → ArePlaces t places count → IsPlaced places w → IsTaken t w
taken_of t places count w h (inl lt) = inl lt
taken_of t places count w h (inr some) = elim (is_taken_or t w) [
  | inl taken ↦ taken
  | inr never ↦ absurd (some (h.none w never))
]

count_few : (t : Lists) (places : List ℕ) (count : ℕ) → AreSlots t → ArePlaces t places count → count ≤ length places
count_few t places zero slots h = omega arith
count_few t places (suc n) slots h =
    let (w, taken, is) = h.onto n (omega arith) in
    let lt = in_slots t w slots.levels taken in
    let low = h.low w in
    let long = h.length_is in
    omega (arith, lt, low, long, is)

pub rising_places : (t : Lists) (places : List ℕ) (count : ℕ) → IsKept t → ArePlaces t places count → AreRisingPlaces places count
rising_places t places count kept h = record {
  levels = let le = kept.slots.levels in let long = h.length_is in omega (arith, le, long);
  most = let few = kept.stored.few in let long = h.length_is in omega (arith, few, long);
  few = count_few t places count kept.slots h;
  own = h.levels;
  within = λ w here. h.within w (taken_of t places count w h here);
  low = h.low;
  rising = λ v w lt one two. h.rising v w lt (taken_of t places count v h one) (taken_of t places count w h two);
  onto = λ v lt.
      let (w, taken, is) = h.onto v lt in
      (w, placed_of t places count w h taken, is);
}

-- ---- the columns of rows

row_kept : (t : Lists) (w : ℕ) → IsKept t → row_at t.matrix w ≢ [] → IsKeptRow (row_at t.matrix w)
row_kept t w kept some = elim (leb_tells (length t.matrix) w) [
  | inl (b, past) ↦ absurd (some (get_or_past t.matrix w [] past))
  | inr (b, lt) ↦ All-get_or IsKeptRow t.matrix w [] lt kept.matrix
]

not_empty : (c : ℕ) (row : List Term) → HasColumn c row → row ≢ []
not_empty c [] has e = has
not_empty c (x ∷ row) has e = cc

-- a column of a row is a slot that is taken
column_taken : (t : Lists) (w c : ℕ) → IsKept t → HasColumn c (row_at t.matrix w) → IsTaken t c
column_taken t w c kept has = elim (eqb_tells c w) [
  | inl (b, same) ↦ subst (IsTaken t) (sym same) own
  | inr (b, other) ↦
      let (is, none, named) = kept.outside w c number other in
      let (name, line) = named in
      inr (is.1, (λ e. let k : LineSlot name ≡ LevelSlot = sym line ∙ e in cc))
]
  where
    some : row_at t.matrix w ≢ []
    some = not_empty c (row_at t.matrix w) has

    number : coefficient c (row_at t.matrix w) ≢ pos 0
    number = (number_at_column c (row_at t.matrix w) (row_kept t w kept some)).1 has

    within : w < length t.slots
    within = elim (leb_tells (length t.matrix) w) [
      | inl (b, past) ↦ absurd (some (get_or_past t.matrix w [] past))
      | inr (b, lt) ↦ let long = kept.slots.matrix in omega (arith, lt, long)
    ]

    own : IsTaken t w
    own = elim (leb_tells LEVELS w) [
      | inr (b, lt) ↦ inl lt
      | inl (b, le) ↦ elim (owner_or (slot_at t w).owner) [
        | inl e ↦ absurd (some (kept.stored.empty w le e))
        | inr ne ↦ inr (within, ne)
      ]
    ]

each_column : (P : ℕ → Type 0) (row : List Term) → ((c : ℕ) → HasColumn c row → P c) → Each (λ t. P t.col) row
each_column P [] h = tt
each_column P (x ∷ row) h = (h x.col (inl refl), each_column P row (λ c has. h c (inr has)))

-- the columns of the rows have places
pub columns_placed : (t : Lists) (places : List ℕ) (count : ℕ) → IsKept t → ArePlaces t places count → (w : ℕ) → HasPlaces places (row_at t.matrix w)
columns_placed t places count kept h w =
    All-from_recursion (λ x. IsPlaced places x.col) (row_at t.matrix w)
    (each_column (IsPlaced places) (row_at t.matrix w) (λ c has. placed_of t places count c h (column_taken t w c kept has)))

-- a row's columns are kept apart
pub kept_apart : (places : List ℕ) (count : ℕ) (row : List Term) → AreRisingPlaces places count → IsKeptRow row → HasPlaces places row → AreKeptApart places row
kept_apart places count row p kept placed = record {
  within = λ k d lt. placed_within places count (slice_index_or row k d).col p (placed k d lt);
  rising = λ i j d less lt.
      p.rising (slice_index_or row i d).col (slice_index_or row j d).col (kept.lowest.rising i j d less lt)
      (placed i d (omega (arith, less, lt))) (placed j d lt);
}

-- the places of a row's columns are below the count
pub below_count : (places : List ℕ) (count : ℕ) (row : List Term) → AreRisingPlaces places count → HasPlaces places row → IsBelow count (renamed places row)
below_count places count row p placed = renamed_below places row count (λ k d lt. p.within (slice_index_or row k d).col (placed k d lt))

-- ---- rows that are emptied

pub uncleared : (count : ℕ) (rows : List (List Term)) → AreCleared count count rows rows
uncleared count rows = record {
  length_is = refl;
  kept = λ w lt. refl;
  empty = λ w le lt. absurd (omega (arith, le, lt));
}

-- one row more
pub one_cleared : (count i : ℕ) (old mid new : List (List Term)) → count ≤ i → i < length mid → AreCleared count i old mid → new ≡ slice_set mid i [] → AreCleared count (i + 1) old new
one_cleared count i old mid new from lt h is = record {
  length_is = ap length is ∙ length-set mid i [] ∙ h.length_is;
  kept = λ w under. let ne : w ≢ i = omega (arith, under, from) in ap (λ rows. row_at rows w) is ∙ get_or-set_other mid i w [] [] ne ∙ h.kept w under;
  empty = λ w le under. elim (below_or w i under) [
    | inl before ↦ let ne : w ≢ i = omega (arith, before) in ap (λ rows. row_at rows w) is ∙ get_or-set_other mid i w [] [] ne ∙ h.empty w le before
    | inr same ↦ ap (λ rows. row_at rows w) is ∙ ap (λ n. row_at (slice_set mid i []) n) same ∙ get_or-set_same mid i [] [] lt
  ];
}

-- all rows from the count on are empty
pub all_cleared : (count : ℕ) (mid new : List (List Term)) (w : ℕ) → AreCleared count (length mid) mid new → count ≤ w → row_at new w ≡ []
all_cleared count mid new w h le = elim (leb_tells (length new) w) [
  | inl (b, past) ↦ get_or_past new w [] past
  | inr (b, lt) ↦ let long = h.length_is in h.empty w le (omega (arith, lt, long))
]

-- the columns of the rows that are left are below the count
pub cleared_below : (places : List ℕ) (count : ℕ) (old mid new : List (List Term)) → AreRisingPlaces places count → length old ≡ length places → ((w : ℕ) → HasPlaces places (row_at old w))
    → AreMoved places (λ w. renamed places) [] (length old) old mid → AreCleared count (length mid) mid new → All (IsBelow count) new
cleared_below places count old mid new p same placed moved cleared = All-from_get_or (IsBelow count) new [] (λ i lt. elim (leb_tells count i) [
  | inl (b, past) ↦ subst (IsBelow count) (sym (all_cleared count mid new i cleared past)) (λ k d within. absurd (omega (arith, within)))
  | inr (b, under) ↦
      let (w, here, is) = p.onto i under in
      let inside = placed_within places count w p here in
      subst (IsBelow count)
      (sym (cleared.kept i under ∙ ap (λ n. row_at mid n) (sym is) ∙ moved.moved w (omega (arith, inside, same)) here))
      (below_count places count (row_at old w) p (placed w))
])

-- the rows are at their places, and no more
pub all_packed : (places : List ℕ) (count : ℕ) (old mid left new : List (List Term)) → AreRisingPlaces places count → length old ≡ length places
    → AreMoved places (λ w. renamed places) [] (length old) old mid → AreCleared count (length mid) mid left → new ≡ take count left
    → AreAtPlaces places count (λ w. renamed places) [] old new
all_packed places count old mid left new p same moved cleared is = record {
  length_is = let few = p.few in let long = moved.length_is in let longer = cleared.length_is in ap length is ∙ length-take-le count left (omega (arith, few, long, longer, same));
  moved = λ w here.
      let inside = placed_within places count w p here in
      let lt = p.within w here in
      ap (λ rows. row_at rows (place_in places w)) is
      ∙ get_or-take count left (place_in places w) [] lt
      ∙ cleared.kept (place_in places w) lt
      ∙ moved.moved w (omega (arith, inside, same)) here;
}

-- ---- all lists

all_at : {X : Type 0} (P : X → Type 0) (places : List ℕ) (count : ℕ) (change : ℕ → X → X) (d : X) (old new : List X) → AreRisingPlaces places count → length old ≡ length places
    → AreAtPlaces places count change d old new → ((w : ℕ) → IsPlaced places w → w < length old → P (change w (slice_index_or old w d))) → All P new
all_at P places count change d old new p same h each = All-from_get_or P new d (λ i lt.
    let n = h.length_is in
    let under : i < count = omega (arith, lt, n) in
    let (w, here, is) = p.onto i under in
    let inside = placed_within places count w p here in
    subst P (sym (ap (λ n. slice_index_or new n d) (sym is) ∙ h.moved w here)) (each w here (omega (arith, inside, same))))

rows_kept : (t : Lists) (places : List ℕ) (count : ℕ) (new : List (List Term)) → IsKept t → ArePlaces t places count → AreAtPlaces places count (λ w. renamed places) [] t.matrix new → All IsKeptRow new
rows_kept t places count new kept h moved =
    all_at IsKeptRow places count (λ w. renamed places) [] t.matrix new (rising_places t places count kept h) (kept.slots.matrix ∙ sym h.length_is) moved
    (λ w here lt.
    let row = All-get_or IsKeptRow t.matrix w [] lt kept.matrix in
    renamed_kept places (row_at t.matrix w) row (kept_apart places count (row_at t.matrix w) (rising_places t places count kept h) row (columns_placed t places count kept h w)))

values_kept : (t : Lists) (places : List ℕ) (count : ℕ) (new : List Standing) → IsKept t → ArePlaces t places count → AreAtPlaces places count (λ w x. x) no_standing t.standings new → All (λ s. IsKeptFraction s.value) new
values_kept t places count new kept h moved =
    all_at (λ s. IsKeptFraction s.value) places count (λ w x. x) no_standing t.standings new (rising_places t places count kept h) (kept.slots.standings ∙ sym h.length_is) moved
    (λ w here lt. All-get_or (λ s. IsKeptFraction s.value) t.standings w no_standing lt kept.values)

-- the lists are packed
pub are_packed : (t u : Lists) (places : List ℕ) (count : ℕ) → IsKept t → ArePlaces t places count → u.rows ≡ t.rows → u.stays ≡ t.stays → u.priorities ≡ t.priorities
    → AreAtPlaces places count (packed_slot places) no_slot t.slots u.slots → AreAtPlaces places count (λ w x. x) no_standing t.standings u.standings
    → AreAtPlaces places count (λ w. renamed places) [] t.matrix u.matrix → AreRenumbered places t.attr_slots u.attr_slots → AreRenumbered places t.row_slots u.row_slots
    → ArePacked places count t u
are_packed t u places count kept h rows stays priorities slots standings matrix attrs lines = record {
  rows = rows;
  stays = stays;
  priorities = priorities;
  slot_count = slots.length_is;
  standing_count = standings.length_is;
  row_count = matrix.length_is;
  slots = λ w taken. slots.moved w (placed_of t places count w h taken);
  standings = λ w taken. standings.moved w (placed_of t places count w h taken);
  matrix = λ w taken. matrix.moved w (placed_of t places count w h taken);
  attr_slots = attrs;
  row_slots = lines;
  kept = rows_kept t places count u.matrix kept h matrix;
  values = values_kept t places count u.standings kept h standings;
}
