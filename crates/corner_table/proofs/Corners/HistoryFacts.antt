-- The lists of earlier marks side by side.
use Rattle.std.proofs.Common.{◌≡◌, ◌∙◌, ◌-◌, ◌<◌, ℕ, zero, suc, List, [], ◌∷◌, length, take, drop, slice_index_or, refl, sym, ap, arith}
use Rattle.version_lists.specs.declared.versions.TheConstants.{VERSION_LIMIT}
use Rattle.row_core.specs.Rows.{Term}
use Rattle.problem_core.specs.Layout.{Row}
use Rattle.problem_core.specs.declared.parts.Stay.{Stay}
use Rattle.corner_table.specs.declared.table.Slot.{Slot}
use Rattle.corner_table.specs.declared.table.Standing.{Standing}
use Rattle.corner_table.specs.declared.table.Priority.{Priority}
use Rattle.corner_table.specs.declared.table.Table.{Table}
use Rattle.corner_table.specs.Tables.{Lists, lists_of}
use Rattle.corner_table.specs.Histories.{AreAlike, HasSameHistory, lists_before, side_by_side}

-- the first n of each are the first n of them side by side
pub taken : (n : ℕ) (rs : List (List Row)) (ss : List (List Stay)) (ls : List (List Slot)) (vs : List (List Standing)) (ms : List (List (List Term))) (bs ds : List (List ℕ)) (ps : List (List Priority))
    → side_by_side (take n rs) (take n ss) (take n ls) (take n vs) (take n ms) (take n bs) (take n ds) (take n ps) ≡ take n (side_by_side rs ss ls vs ms bs ds ps)
taken zero rs ss ls vs ms bs ds ps = refl
taken (suc n) [] ss ls vs ms bs ds ps = refl
taken (suc n) (r ∷ rs) [] ls vs ms bs ds ps = refl
taken (suc n) (r ∷ rs) (s ∷ ss) [] vs ms bs ds ps = refl
taken (suc n) (r ∷ rs) (s ∷ ss) (l ∷ ls) [] ms bs ds ps = refl
taken (suc n) (r ∷ rs) (s ∷ ss) (l ∷ ls) (v ∷ vs) [] bs ds ps = refl
taken (suc n) (r ∷ rs) (s ∷ ss) (l ∷ ls) (v ∷ vs) (m ∷ ms) [] ds ps = refl
taken (suc n) (r ∷ rs) (s ∷ ss) (l ∷ ls) (v ∷ vs) (m ∷ ms) (b ∷ bs) [] ps = refl
taken (suc n) (r ∷ rs) (s ∷ ss) (l ∷ ls) (v ∷ vs) (m ∷ ms) (b ∷ bs) (d ∷ ds) [] = refl
taken (suc n) (r ∷ rs) (s ∷ ss) (l ∷ ls) (v ∷ vs) (m ∷ ms) (b ∷ bs) (d ∷ ds) (p ∷ ps) =
    ap (λ (xs : List Lists). (record { rows = r; stays = s; slots = l; standings = v; matrix = m; attr_slots = b; row_slots = d; priorities = p }) ∷ xs) (taken n rs ss ls vs ms bs ds ps)

-- lists with a first version each, side by side
pub first_of : (r : List Row) (rs : List (List Row)) (s : List Stay) (ss : List (List Stay)) (l : List Slot) (ls : List (List Slot)) (v : List Standing) (vs : List (List Standing)) (m : List (List Term)) (ms : List (List (List Term))) (b : List ℕ) (bs : List (List ℕ)) (d : List ℕ) (ds : List (List ℕ)) (p : List Priority) (ps : List (List Priority))
    → side_by_side (r ∷ rs) (s ∷ ss) (l ∷ ls) (v ∷ vs) (m ∷ ms) (b ∷ bs) (d ∷ ds) (p ∷ ps) ≡ (record { rows = r; stays = s; slots = l; standings = v; matrix = m; attr_slots = b; row_slots = d; priorities = p }) ∷ side_by_side rs ss ls vs ms bs ds ps
first_of r rs s ss l ls v vs m ms b bs d ds p ps = refl

-- ---- of tables

pub forgotten : (old new : Table) → AreAlike old → new.rows.before ≡ take (length old.rows.before - 1) old.rows.before → new.stays.before ≡ take (length old.stays.before - 1) old.stays.before
    → new.slots.before ≡ take (length old.slots.before - 1) old.slots.before → new.standings.before ≡ take (length old.standings.before - 1) old.standings.before
    → new.matrix.before ≡ take (length old.matrix.before - 1) old.matrix.before → new.attr_slots.before ≡ take (length old.attr_slots.before - 1) old.attr_slots.before
    → new.row_slots.before ≡ take (length old.row_slots.before - 1) old.row_slots.before → new.priorities.before ≡ take (length old.priorities.before - 1) old.priorities.before
    → lists_before new ≡ take (length old.rows.before - 1) (lists_before old)
forgotten old new alike e1 e2 e3 e4 e5 e6 e7 e8 =
    rw (e1, e2, e3, e4, e5, e6, e7, e8, alike.stays, alike.slots, alike.standings, alike.matrix, alike.attr_slots, alike.row_slots, alike.priorities)
    (taken (length old.rows.before - 1) old.rows.before old.stays.before old.slots.before old.standings.before old.matrix.before old.attr_slots.before old.row_slots.before old.priorities.before)

pub marked : (old new : Table) → new.rows.before ≡ take VERSION_LIMIT (old.rows.items ∷ old.rows.before) → new.stays.before ≡ take VERSION_LIMIT (old.stays.items ∷ old.stays.before)
    → new.slots.before ≡ take VERSION_LIMIT (old.slots.items ∷ old.slots.before) → new.standings.before ≡ take VERSION_LIMIT (old.standings.items ∷ old.standings.before)
    → new.matrix.before ≡ take VERSION_LIMIT (old.matrix.rows ∷ old.matrix.before) → new.attr_slots.before ≡ take VERSION_LIMIT (old.attr_slots.items ∷ old.attr_slots.before)
    → new.row_slots.before ≡ take VERSION_LIMIT (old.row_slots.items ∷ old.row_slots.before) → new.priorities.before ≡ take VERSION_LIMIT (old.priorities.items ∷ old.priorities.before)
    → lists_before new ≡ take VERSION_LIMIT (lists_of old ∷ lists_before old)
marked old new e1 e2 e3 e4 e5 e6 e7 e8 =
    rw (e1, e2, e3, e4, e5, e6, e7, e8)
    (taken VERSION_LIMIT (old.rows.items ∷ old.rows.before) (old.stays.items ∷ old.stays.before) (old.slots.items ∷ old.slots.before) (old.standings.items ∷ old.standings.before) (old.matrix.rows ∷ old.matrix.before) (old.attr_slots.items ∷ old.attr_slots.before) (old.row_slots.items ∷ old.row_slots.before) (old.priorities.items ∷ old.priorities.before))

take_same : {X Y : Type 0} (n : ℕ) (xs : List X) (ys : List Y) → length xs ≡ length ys → length (take n xs) ≡ length (take n ys)
take_same zero xs ys e = refl
take_same (suc n) [] [] e = refl
take_same (suc n) [] (y ∷ ys) e = absurd (omega (arith, e))
take_same (suc n) (x ∷ xs) [] e = absurd (omega (arith, e))
take_same (suc n) (x ∷ xs) (y ∷ ys) e = let k : length xs ≡ length ys = omega (arith, e) in let h = take_same n xs ys k in omega (arith, h)

one_marked : {X Y : Type 0} (x : X) (xs new : List X) (y : Y) (ys next : List Y) → length xs ≡ length ys → new ≡ take VERSION_LIMIT (x ∷ xs) → next ≡ take VERSION_LIMIT (y ∷ ys) → length new ≡ length next
one_marked x xs new y ys next e a b = let k : length (x ∷ xs) ≡ length (y ∷ ys) = omega (arith, e) in rw (a, b) (take_same VERSION_LIMIT (x ∷ xs) (y ∷ ys) k)

pub marked_alike : (old new : Table) → AreAlike old → new.rows.before ≡ take VERSION_LIMIT (old.rows.items ∷ old.rows.before) → new.stays.before ≡ take VERSION_LIMIT (old.stays.items ∷ old.stays.before)
    → new.slots.before ≡ take VERSION_LIMIT (old.slots.items ∷ old.slots.before) → new.standings.before ≡ take VERSION_LIMIT (old.standings.items ∷ old.standings.before)
    → new.matrix.before ≡ take VERSION_LIMIT (old.matrix.rows ∷ old.matrix.before) → new.attr_slots.before ≡ take VERSION_LIMIT (old.attr_slots.items ∷ old.attr_slots.before)
    → new.row_slots.before ≡ take VERSION_LIMIT (old.row_slots.items ∷ old.row_slots.before) → new.priorities.before ≡ take VERSION_LIMIT (old.priorities.items ∷ old.priorities.before)
    → AreAlike new
marked_alike old new alike e1 e2 e3 e4 e5 e6 e7 e8 = record {
  stays = one_marked old.stays.items old.stays.before new.stays.before old.rows.items old.rows.before new.rows.before alike.stays e2 e1;
  slots = one_marked old.slots.items old.slots.before new.slots.before old.rows.items old.rows.before new.rows.before alike.slots e3 e1;
  standings = one_marked old.standings.items old.standings.before new.standings.before old.rows.items old.rows.before new.rows.before alike.standings e4 e1;
  matrix = one_marked old.matrix.rows old.matrix.before new.matrix.before old.rows.items old.rows.before new.rows.before alike.matrix e5 e1;
  attr_slots = one_marked old.attr_slots.items old.attr_slots.before new.attr_slots.before old.rows.items old.rows.before new.rows.before alike.attr_slots e6 e1;
  row_slots = one_marked old.row_slots.items old.row_slots.before new.row_slots.before old.rows.items old.rows.before new.rows.before alike.row_slots e7 e1;
  priorities = one_marked old.priorities.items old.priorities.before new.priorities.before old.rows.items old.rows.before new.rows.before alike.priorities e8 e1;
}

-- where there is a first version, it comes first side by side
pub front : (rs : List (List Row)) (ss : List (List Stay)) (ls : List (List Slot)) (vs : List (List Standing)) (ms : List (List (List Term))) (bs ds : List (List ℕ)) (ps : List (List Priority))
    → 0 < length rs → length ss ≡ length rs → length ls ≡ length rs → length vs ≡ length rs → length ms ≡ length rs → length bs ≡ length rs → length ds ≡ length rs → length ps ≡ length rs
    → side_by_side rs ss ls vs ms bs ds ps ≡ (record { rows = slice_index_or rs 0 []; stays = slice_index_or ss 0 []; slots = slice_index_or ls 0 []; standings = slice_index_or vs 0 []; matrix = slice_index_or ms 0 []; attr_slots = slice_index_or bs 0 []; row_slots = slice_index_or ds 0 []; priorities = slice_index_or ps 0 [] })
    ∷ side_by_side (drop 1 rs) (drop 1 ss) (drop 1 ls) (drop 1 vs) (drop 1 ms) (drop 1 bs) (drop 1 ds) (drop 1 ps)
front [] ss ls vs ms bs ds ps more a b c d e f g = absurd (omega (arith, more))
front (r ∷ rs) [] ls vs ms bs ds ps more a b c d e f g = absurd (omega (arith, a))
front (r ∷ rs) (s ∷ ss) [] vs ms bs ds ps more a b c d e f g = absurd (omega (arith, b))
front (r ∷ rs) (s ∷ ss) (l ∷ ls) [] ms bs ds ps more a b c d e f g = absurd (omega (arith, c))
front (r ∷ rs) (s ∷ ss) (l ∷ ls) (v ∷ vs) [] bs ds ps more a b c d e f g = absurd (omega (arith, d))
front (r ∷ rs) (s ∷ ss) (l ∷ ls) (v ∷ vs) (m ∷ ms) [] ds ps more a b c d e f g = absurd (omega (arith, e))
front (r ∷ rs) (s ∷ ss) (l ∷ ls) (v ∷ vs) (m ∷ ms) (x ∷ bs) [] ps more a b c d e f g = absurd (omega (arith, f))
front (r ∷ rs) (s ∷ ss) (l ∷ ls) (v ∷ vs) (m ∷ ms) (x ∷ bs) (y ∷ ds) [] more a b c d e f g = absurd (omega (arith, g))
front (r ∷ rs) (s ∷ ss) (l ∷ ls) (v ∷ vs) (m ∷ ms) (x ∷ bs) (y ∷ ds) (p ∷ ps) more a b c d e f g = refl

pub rewound : (old new : Table) → AreAlike old → 0 < length old.rows.before → new.rows.items ≡ slice_index_or old.rows.before 0 [] → new.stays.items ≡ slice_index_or old.stays.before 0 []
    → new.slots.items ≡ slice_index_or old.slots.before 0 [] → new.standings.items ≡ slice_index_or old.standings.before 0 []
    → new.matrix.rows ≡ slice_index_or old.matrix.before 0 [] → new.attr_slots.items ≡ slice_index_or old.attr_slots.before 0 []
    → new.row_slots.items ≡ slice_index_or old.row_slots.before 0 [] → new.priorities.items ≡ slice_index_or old.priorities.before 0 []
    → (rest : List Lists) × (lists_before old ≡ lists_of new ∷ rest)
rewound old new alike more e1 e2 e3 e4 e5 e6 e7 e8 = (
  side_by_side (drop 1 old.rows.before) (drop 1 old.stays.before) (drop 1 old.slots.before) (drop 1 old.standings.before) (drop 1 old.matrix.before) (drop 1 old.attr_slots.before) (drop 1 old.row_slots.before) (drop 1 old.priorities.before),
  rw (e1, e2, e3, e4, e5, e6, e7, e8)
      (front old.rows.before old.stays.before old.slots.before old.standings.before old.matrix.before old.attr_slots.before old.row_slots.before old.priorities.before more alike.stays alike.slots alike.standings alike.matrix alike.attr_slots alike.row_slots alike.priorities),
)

pub sided : (rs : List (List Row)) (ss : List (List Stay)) (ls : List (List Slot)) (vs : List (List Standing)) (ms : List (List (List Term))) (bs ds : List (List ℕ)) (ps : List (List Priority))
    → length ss ≡ length rs → length ls ≡ length rs → length vs ≡ length rs → length ms ≡ length rs → length bs ≡ length rs → length ds ≡ length rs → length ps ≡ length rs
    → length (side_by_side rs ss ls vs ms bs ds ps) ≡ length rs
sided [] ss ls vs ms bs ds ps a b c d e f g = refl
sided (r ∷ rs) [] ls vs ms bs ds ps a b c d e f g = absurd (omega (arith, a))
sided (r ∷ rs) (s ∷ ss) [] vs ms bs ds ps a b c d e f g = absurd (omega (arith, b))
sided (r ∷ rs) (s ∷ ss) (l ∷ ls) [] ms bs ds ps a b c d e f g = absurd (omega (arith, c))
sided (r ∷ rs) (s ∷ ss) (l ∷ ls) (v ∷ vs) [] bs ds ps a b c d e f g = absurd (omega (arith, d))
sided (r ∷ rs) (s ∷ ss) (l ∷ ls) (v ∷ vs) (m ∷ ms) [] ds ps a b c d e f g = absurd (omega (arith, e))
sided (r ∷ rs) (s ∷ ss) (l ∷ ls) (v ∷ vs) (m ∷ ms) (x ∷ bs) [] ps a b c d e f g = absurd (omega (arith, f))
sided (r ∷ rs) (s ∷ ss) (l ∷ ls) (v ∷ vs) (m ∷ ms) (x ∷ bs) (y ∷ ds) [] a b c d e f g = absurd (omega (arith, g))
sided (r ∷ rs) (s ∷ ss) (l ∷ ls) (v ∷ vs) (m ∷ ms) (x ∷ bs) (y ∷ ds) (p ∷ ps) a b c d e f g =
    let h = sided rs ss ls vs ms bs ds ps (omega (arith, a)) (omega (arith, b)) (omega (arith, c)) (omega (arith, d)) (omega (arith, e)) (omega (arith, f)) (omega (arith, g)) in
    omega (arith, h)

-- ---- tables with the same earlier versions

pub same_again : (s t u : Table) → HasSameHistory s t → HasSameHistory t u → HasSameHistory s u
same_again s t u a b = record {
  rows = b.rows ∙ a.rows;
  stays = b.stays ∙ a.stays;
  slots = b.slots ∙ a.slots;
  standings = b.standings ∙ a.standings;
  matrix = b.matrix ∙ a.matrix;
  attr_slots = b.attr_slots ∙ a.attr_slots;
  row_slots = b.row_slots ∙ a.row_slots;
  priorities = b.priorities ∙ a.priorities;
}

pub past_same : (t u : Table) → HasSameHistory t u → lists_before u ≡ lists_before t
past_same t u h =
    ap (λ x. side_by_side x u.stays.before u.slots.before u.standings.before u.matrix.before u.attr_slots.before u.row_slots.before u.priorities.before) h.rows
    ∙ ap (λ x. side_by_side t.rows.before x u.slots.before u.standings.before u.matrix.before u.attr_slots.before u.row_slots.before u.priorities.before) h.stays
    ∙ ap (λ x. side_by_side t.rows.before t.stays.before x u.standings.before u.matrix.before u.attr_slots.before u.row_slots.before u.priorities.before) h.slots
    ∙ ap (λ x. side_by_side t.rows.before t.stays.before t.slots.before x u.matrix.before u.attr_slots.before u.row_slots.before u.priorities.before) h.standings
    ∙ ap (λ x. side_by_side t.rows.before t.stays.before t.slots.before t.standings.before x u.attr_slots.before u.row_slots.before u.priorities.before) h.matrix
    ∙ ap (λ x. side_by_side t.rows.before t.stays.before t.slots.before t.standings.before t.matrix.before x u.row_slots.before u.priorities.before) h.attr_slots
    ∙ ap (λ x. side_by_side t.rows.before t.stays.before t.slots.before t.standings.before t.matrix.before t.attr_slots.before x u.priorities.before) h.row_slots
    ∙ ap (λ x. side_by_side t.rows.before t.stays.before t.slots.before t.standings.before t.matrix.before t.attr_slots.before t.row_slots.before x) h.priorities

pub alike_same : (t u : Table) → HasSameHistory t u → AreAlike t → AreAlike u
alike_same t u h a = record {
  stays = ap length h.stays ∙ a.stays ∙ sym (ap length h.rows);
  slots = ap length h.slots ∙ a.slots ∙ sym (ap length h.rows);
  standings = ap length h.standings ∙ a.standings ∙ sym (ap length h.rows);
  matrix = ap length h.matrix ∙ a.matrix ∙ sym (ap length h.rows);
  attr_slots = ap length h.attr_slots ∙ a.attr_slots ∙ sym (ap length h.rows);
  row_slots = ap length h.row_slots ∙ a.row_slots ∙ sym (ap length h.rows);
  priorities = ap length h.priorities ∙ a.priorities ∙ sym (ap length h.rows);
}
