-- One number more among those that are kept, or one in the place of its own; and the versions that are kept.
use Rattle.std.proofs.Common.{◌≡◌, ◌≢◌, ◌∙◌, ℕ, zero, suc, ◌-◌, ◌<◌, ◌≤◌, cond, nat_eq, List, [], ◌∷◌, ◌++◌, length, get_or, take, drop, map, refl, sym, ap, subst, arith, inl, inr, slice_index_or, slice_set, slice_get, Some, All, Result, Ok, Err, OnOk, OnErr}
use Rattle.std.specs.List.{insert, HoldsAt}
use Rattle.std.proofs.lemmas.Bool.{cases_lt}
use Rattle.std.proofs.lemmas.Option.{get_or_from_slice_get}
use Rattle.std.proofs.lemmas.List.Elements.{All-append, All-cons, All-drop, All-head, All-nil, All-rest, All-set, All-tail, All-take}
use Rattle.version_lists.specs.Versions.{Versions}
use Rattle.version_lists.specs.declared.slots.Numbered.{Numbered}
use Rattle.version_lists.specs.Numbers.{by_number, AreRising, IsNumbered, IsRising}
use Rattle.version_lists.proofs.ByNumber.{read, rising_cons, rising_head, rising_tail, slot_here, slot_in, slot_later}

slot_cons : (n : ℕ) (one : Numbered) (xs ys : List Numbered) → slot_in n xs ≡ slot_in n ys → slot_in n (one ∷ xs) ≡ slot_in n (one ∷ ys)
slot_cons n one xs ys e = ap (λ (s : ℕ). cond (nat_eq one.number n) one.slot s) e

-- ---- in its place

set_here : (kept : List Numbered) (i : ℕ) (one d : Numbered) → IsRising kept → i < length kept → (get_or kept i d).number ≡ one.number → slot_in one.number (slice_set kept i one) ≡ one.slot
set_here [] i one d rising within is = absurd (omega arith)
set_here (x ∷ xs) zero one d rising within is = slot_here one.number one xs refl
set_here (x ∷ xs) (suc i) one d rising within is =
    let inside : i < length xs = omega arith in
    let less : x.number < (get_or xs i d).number = rising_head x xs rising i d inside in
    let same : (get_or xs i d).number ≡ one.number = is in
    slot_later one.number x (slice_set xs i one) (λ e. absurd (omega (arith, e, less, same))) ∙ set_here xs i one d (rising_tail x xs rising) inside same

set_others : (kept : List Numbered) (i : ℕ) (one d : Numbered) (n : ℕ) → n ≢ one.number → i < length kept → (get_or kept i d).number ≡ one.number → slot_in n (slice_set kept i one) ≡ slot_in n kept
set_others [] i one d n ne within is = absurd (omega arith)
set_others (x ∷ xs) zero one d n ne within is =
    slot_later n one xs (λ e. ne (sym e)) ∙ sym (slot_later n x xs (λ e. ne (sym e ∙ is)))
set_others (x ∷ xs) (suc i) one d n ne within is =
    slot_cons n x (slice_set xs i one) xs (set_others xs i one d n ne (omega arith) is)

pub set_rising : (kept : List Numbered) (i : ℕ) (one d : Numbered) → IsRising kept → i < length kept → (get_or kept i d).number ≡ one.number → IsRising (slice_set kept i one)
set_rising [] i one d rising within is = absurd (omega arith)
set_rising (x ∷ xs) zero one d rising within is =
    let same : x.number ≡ one.number = is in
    rising_cons one xs (λ k e inside. let less : x.number < (get_or xs k e).number = rising_head x xs rising k e inside in omega (arith, same, less)) (rising_tail x xs rising)
set_rising (x ∷ xs) (suc i) one d rising within is =
    let inside : i < length xs = omega arith in
    let less : x.number < (get_or xs i d).number = rising_head x xs rising i d inside in
    let same : (get_or xs i d).number ≡ one.number = is in
    rising_cons x (slice_set xs i one)
    (All-set (λ n. x.number < n.number) xs i one (omega (arith, less, same)) (rising_head x xs rising))
    (set_rising xs i one d (rising_tail x xs rising) inside same)

pub set_numbered : (kept : List Numbered) (i : ℕ) (one d : Numbered) → IsRising kept → i < length kept → (get_or kept i d).number ≡ one.number → IsNumbered one.number one.slot (by_number kept) (by_number (slice_set kept i one))
set_numbered kept i one d rising within is = record {
  here = read (slice_set kept i one) one.number ∙ set_here kept i one d rising within is;
  others = λ n ne. read (slice_set kept i one) n ∙ set_others kept i one d n ne within is ∙ sym (read kept n);
}

-- ---- among the others

insert_here : (kept : List Numbered) (i : ℕ) (one : Numbered) → All (λ n. n.number ≢ one.number) kept → slot_in one.number (insert kept i one) ≡ one.slot
insert_here [] zero one absent = slot_here one.number one [] refl
insert_here [] (suc i) one absent = slot_here one.number one [] refl
insert_here (x ∷ xs) zero one absent = slot_here one.number one (x ∷ xs) refl
insert_here (x ∷ xs) (suc i) one absent =
    slot_later one.number x (insert xs i one) (All-head (λ n. n.number ≢ one.number) x xs absent)
    ∙ insert_here xs i one (All-tail (λ n. n.number ≢ one.number) x xs absent)

insert_others : (kept : List Numbered) (i : ℕ) (one : Numbered) (n : ℕ) → n ≢ one.number → slot_in n (insert kept i one) ≡ slot_in n kept
insert_others [] zero one n ne = slot_later n one [] (λ e. ne (sym e))
insert_others [] (suc i) one n ne = slot_later n one [] (λ e. ne (sym e))
insert_others (x ∷ xs) zero one n ne = slot_later n one (x ∷ xs) (λ e. ne (sym e))
insert_others (x ∷ xs) (suc i) one n ne = slot_cons n x (insert xs i one) xs (insert_others xs i one n ne)

pub insert_numbered : (kept : List Numbered) (i : ℕ) (one : Numbered) → All (λ n. n.number ≢ one.number) kept → IsNumbered one.number one.slot (by_number kept) (by_number (insert kept i one))
insert_numbered kept i one absent = record {
  here = read (insert kept i one) one.number ∙ insert_here kept i one absent;
  others = λ n ne. read (insert kept i one) n ∙ insert_others kept i one n ne ∙ sym (read kept n);
}

all_insert : (P : Numbered → Type 0) (xs : List Numbered) (i : ℕ) (one : Numbered) → All P xs → P one → All P (insert xs i one)
all_insert P xs i one all p = All-append P (take i xs) (one ∷ drop i xs) (All-take P i xs all) (All-cons P one (drop i xs) p (All-drop P i xs all))

rising_none : IsRising []
rising_none = λ i j d less within. absurd (omega (arith, within))

rising_one : (one : Numbered) → IsRising (one ∷ [])
rising_one one = rising_cons one [] (All-nil (λ n. one.number < n.number)) rising_none

pub insert_rising :
    (kept : List Numbered) (i : ℕ) (one : Numbered) → IsRising kept
    → ((k : ℕ) (d : Numbered) → k < i → k < length kept → (get_or kept k d).number < one.number)
    → ((k : ℕ) (d : Numbered) → i ≤ k → k < length kept → one.number < (get_or kept k d).number)
    → IsRising (insert kept i one)
insert_rising [] zero one rising below above = rising_one one
insert_rising [] (suc i) one rising below above = rising_one one
insert_rising (x ∷ xs) zero one rising below above =
    rising_cons one (x ∷ xs) (λ k d within. above k d (omega arith) within) rising
insert_rising (x ∷ xs) (suc i) one rising below above =
    rising_cons x (insert xs i one)
    (all_insert (λ n. x.number < n.number) xs i one (rising_head x xs rising) (below zero x (omega arith) (omega arith)))
    (insert_rising xs i one (rising_tail x xs rising)
    (λ k d less within. below (suc k) d (omega arith) (omega arith))
    (λ k d from within. above (suc k) d (omega arith) (omega arith)))

-- ---- behind them

pub push_insert : (kept : List Numbered) (one : Numbered) → insert kept (length kept) one ≡ kept ++ one ∷ []
push_insert [] one = refl
push_insert (x ∷ xs) one = ap (λ (l : List Numbered). x ∷ l) (push_insert xs one)

pub push_numbered : (kept : List Numbered) (one : Numbered) → All (λ n. n.number < one.number) kept → IsNumbered one.number one.slot (by_number kept) (by_number (kept ++ one ∷ []))
push_numbered kept one below =
    subst (λ (l : List Numbered). IsNumbered one.number one.slot (by_number kept) (by_number l)) (push_insert kept one)
    (insert_numbered kept (length kept) one (λ k d within e. absurd (omega (arith, e, below k d within))))

pub push_rising : (kept : List Numbered) (one : Numbered) → IsRising kept → All (λ n. n.number < one.number) kept → IsRising (kept ++ one ∷ [])
push_rising kept one rising below =
    subst IsRising (push_insert kept one)
    (insert_rising kept (length kept) one rising (λ k d less within. below k d within) (λ k d from within. absurd (omega (arith, from, within))))

-- ---- the others move up

set_insert : (kept : List Numbered) (i : ℕ) (x y : Numbered) → i ≤ length kept → slice_set (insert kept i x) i y ≡ insert kept i y
set_insert [] zero x y within = refl
set_insert [] (suc i) x y within = absurd (omega arith)
set_insert (a ∷ rest) zero x y within = refl
set_insert (a ∷ rest) (suc i) x y within = ap (λ (l : List Numbered). a ∷ l) (set_insert rest i x y (omega arith))

insert_copy : (kept : List Numbered) (j : ℕ) (d : Numbered) → j < length kept → insert kept (suc j) (get_or kept j d) ≡ insert kept j (get_or kept j d)
insert_copy [] j d within = absurd (omega arith)
insert_copy (a ∷ rest) zero d within = refl
insert_copy (a ∷ rest) (suc j) d within = ap (λ (l : List Numbered). a ∷ l) (insert_copy rest j d (omega arith))

insert_reads : (kept : List Numbered) (j : ℕ) (x d : Numbered) → j < length kept → get_or (insert kept (suc j) x) j d ≡ get_or kept j d
insert_reads [] j x d within = absurd (omega arith)
insert_reads (a ∷ rest) zero x d within = refl
insert_reads (a ∷ rest) (suc j) x d within = insert_reads rest j x d (omega arith)

get_or_same : (kept : List Numbered) (j : ℕ) (d e : Numbered) → j < length kept → get_or kept j d ≡ get_or kept j e
get_or_same [] j d e within = absurd (omega arith)
get_or_same (a ∷ rest) zero d e within = refl
get_or_same (a ∷ rest) (suc j) d e within = get_or_same rest j d e (omega arith)

above_from : (a b : ℕ) → a ≤ b → b ≢ a → a < b
above_from a b le ne =
    elim (cases_lt a b) [
      | inl less ↦ less
      | inr ge ↦ absurd (ne (omega (arith, le, ge)))
    ]

below_from :
    (old : List Numbered) (one : Numbered) (i : ℕ) → i ≤ length old → IsRising old
    → ((k : ℕ) (d : Numbered) → suc k ≡ i → (get_or old k d).number < one.number)
    → (k : ℕ) (d : Numbered) → k < i → k < length old → (get_or old k d).number < one.number
below_from old one i long rising before k d less within =
    let last : (get_or old (i - 1) d).number < one.number = before (i - 1) d (omega (arith, less)) in
    elim (cases_lt k (i - 1)) [
      | inl earlier ↦ omega (arith, last, rising k (i - 1) d earlier (omega (arith, less, long)))
      | inr from ↦
          let here : k ≡ i - 1 = omega (arith, from, less) in
          rw here last
    ]

-- there is room for one at the place, and all from there on are above its number
pub record HasMoved (old : List Numbered) (one : Numbered) (i : ℕ) (items : List Numbered) : Type 0 where
  pub within : i ≤ length old
  pub hole : Numbered
  pub items_are : items ≡ insert old i hole
  pub above : (k : ℕ) (d : Numbered) → i ≤ k → k < length old → one.number < (get_or old k d).number

pub moved_none : (old items : List Numbered) (one : Numbered) (i : ℕ) → i ≡ length old → items ≡ old ++ one ∷ [] → HasMoved old one i items
moved_none old items one i is pushed = record {
  within = omega (arith, is);
  hole = one;
  items_are = pushed ∙ sym (push_insert old one) ∙ ap (λ (n : ℕ). insert old n one) (sym is);
  above = λ k d from inside. absurd (omega (arith, is, from, inside));
}

-- one more moves up
pub moved_more :
    (old items : List Numbered) (one below : Numbered) (j : ℕ) → HasMoved old one (suc j) items → IsRising old → All (λ n. n.number ≢ one.number) old
    → slice_get items j ≡ Some below → one.number ≤ below.number → HasMoved old one j (slice_set items (suc j) below)
moved_more old items one below j h rising absent at least =
    let inside : j < length old = omega (arith, h.within) in
    let read : get_or items j below ≡ below = get_or_from_slice_get items j below below at in
    let is : get_or old j below ≡ below = sym (insert_reads old j h.hole below inside) ∙ ap (λ (l : List Numbered). get_or l j below) (sym h.items_are) ∙ read in
    record {
      within = omega (arith, inside);
      hole = below;
      items_are =
          ap (λ (l : List Numbered). slice_set l (suc j) below) h.items_are
          ∙ set_insert old (suc j) h.hole below h.within
          ∙ ap (insert old (suc j)) (sym is)
          ∙ insert_copy old j below inside
          ∙ ap (insert old j) is;
      above = λ k d from within.
          elim (cases_lt j k) [
            | inl less ↦ h.above k d (omega (arith, less)) within
            | inr ge ↦
                let here : k ≡ j = omega (arith, from, ge) in
                let number : one.number ≤ (get_or old j d).number =
                let known : get_or old j d ≡ below = get_or_same old j d below inside ∙ is in
                rw known least in
                let ne : (get_or old j d).number ≢ one.number = absent j d inside in
                let more : one.number < (get_or old j d).number = above_from one.number (get_or old j d).number number ne in
                rw here more
          ];
    }

-- the number is put where those before it are below
pub moved_all :
    (old items : List Numbered) (one : Numbered) (i : ℕ) → HasMoved old one i items → IsRising old
    → ((k : ℕ) (d : Numbered) → suc k ≡ i → (get_or old k d).number < one.number)
    → IsRising (slice_set items i one)
moved_all old items one i h rising before =
    subst IsRising (sym (ap (λ (l : List Numbered). slice_set l i one) h.items_are ∙ set_insert old i h.hole one h.within))
    (insert_rising old i one rising (below_from old one i h.within rising before) h.above)

pub moved_numbered :
    (old items : List Numbered) (one : Numbered) (i : ℕ) → HasMoved old one i items → All (λ n. n.number ≢ one.number) old
    → IsNumbered one.number one.slot (by_number old) (by_number (slice_set items i one))
moved_numbered old items one i h absent =
    subst (λ (l : List Numbered). IsNumbered one.number one.slot (by_number old) (by_number l))
    (sym (ap (λ (l : List Numbered). slice_set l i one) h.items_are ∙ set_insert old i h.hole one h.within))
    (insert_numbered old i one absent)

-- ---- versions

pub newest_rises : (before : List (List Numbered)) → All IsRising before → IsRising (slice_index_or before 0 [])
newest_rises [] all = rising_none
newest_rises (items ∷ before) all = All-head IsRising items before all

pub marked : (old new : Versions Numbered) → AreRising old → new.items ≡ old.items → new.before ≡ take 33 (old.items ∷ old.before) → AreRising new
marked old new rising items before = record {
  now = subst IsRising (sym items) rising.now;
  before = subst (All IsRising) (sym before) (All-take IsRising 33 (old.items ∷ old.before) (All-cons IsRising old.items old.before rising.now rising.before));
}

pub gone_back : (old new : Versions Numbered) → AreRising old → old.before ≡ new.items ∷ new.before → AreRising new
gone_back old new rising version = record {
  now = All-head IsRising new.items new.before (subst (All IsRising) version rising.before);
  before = All-rest IsRising new.items new.before old.before version rising.before;
}

pub rewound : (old new : Versions Numbered) → AreRising old → new.items ≡ slice_index_or old.before 0 [] → new.before ≡ old.before → AreRising new
rewound old new rising items before = record {
  now = subst IsRising (sym items) (newest_rises old.before rising.before);
  before = subst (All IsRising) (sym before) rising.before;
}

-- gone back to the newest mark of a list whose numbers rose
pub rewound_from : (start old new : Versions Numbered) → AreRising start → old.before ≡ start.before → new.items ≡ slice_index_or old.before 0 [] → new.before ≡ old.before → AreRising new
rewound_from start old new rising same items before =
    rewound start new rising (items ∙ ap (λ (l : List (List Numbered)). slice_index_or l 0 []) same) (before ∙ same)

pub with_items : (old new : Versions Numbered) → AreRising old → IsRising new.items → new.before ≡ old.before → AreRising new
with_items old new rising items before = record {
  now = items;
  before = subst (All IsRising) (sym before) rising.before;
}

pub changed_rising : {X E : Type 0} (old new : Versions Numbered) (items : List Numbered) (r : Result X E) → AreRising old → IsRising items → OnOk r (new.items ≡ items) → OnErr r (new ≡ old) → new.before ≡ old.before → AreRising new
changed_rising old new items (Ok x) rising good ok err before = with_items old new rising (subst IsRising (sym ok) good) before
changed_rising old new items (Err x) rising good ok err before = subst AreRising (sym err) rising

pub changed_numbered : {X E : Type 0} (old new items : List Numbered) (n s : ℕ) (r : Result X E) → IsNumbered n s (by_number old) (by_number items) → OnOk r (new ≡ items) → OnOk r (IsNumbered n s (by_number old) (by_number new))
changed_numbered old new items n s (Ok x) h ok = subst (λ (l : List Numbered). IsNumbered n s (by_number old) (by_number l)) (sym ok) h
changed_numbered old new items n s (Err x) h ok = tt

pub rising_if : {X E : Type 0} (new items : List Numbered) (r : Result X E) → IsRising items → OnOk r (new ≡ items) → OnOk r (IsRising new)
rising_if new items (Ok x) h ok = subst IsRising (sym ok) h
rising_if new items (Err x) h ok = tt

pub take_each : (n : ℕ) (lists : List (List Numbered)) → map by_number (take n lists) ≡ take n (map by_number lists)
take_each zero lists = refl
take_each (suc n) [] = refl
take_each (suc n) (items ∷ lists) = ap (λ (l : List (List ℕ)). by_number items ∷ l) (take_each n lists)

pub newest_is : (lists : List (List Numbered)) → by_number (slice_index_or lists 0 []) ≡ slice_index_or (map by_number lists) 0 []
newest_is [] = refl
newest_is (items ∷ lists) = refl

pub length_each : (lists : List (List Numbered)) → length lists ≡ length (map by_number lists)
length_each [] = refl
length_each (items ∷ lists) = ap suc (length_each lists)

-- ---- what the functions that change them go by

pub moved_step :
    (old items seen : List Numbered) (one below : Numbered) (i j : ℕ) → i ≡ suc j → HasMoved old one i items → IsRising old → All (λ n. n.number ≢ one.number) old
    → slice_get items j ≡ Some below → seen ≡ items → HoldsAt (λ n. one.number ≤ n.number) seen j → HasMoved old one j (slice_set items i below)
moved_step old items seen one below i j e h rising absent at same hold =
    let is : get_or seen j below ≡ below = ap (λ (l : List Numbered). get_or l j below) same ∙ get_or_from_slice_get items j below below at in
    let least : one.number ≤ below.number = subst (λ (x : Numbered). one.number ≤ x.number) is (hold below) in
    subst (λ (n : ℕ). HasMoved old one j (slice_set items n below)) (sym e)
    (moved_more old items one below j (subst (λ (n : ℕ). HasMoved old one n items) e h) rising absent at least)

pub before_place :
    (old items seen : List Numbered) (one : Numbered) (i : ℕ) → HasMoved old one i items → seen ≡ items → (0 < i → HoldsAt (λ n. n.number < one.number) seen (i - 1))
    → (k : ℕ) (d : Numbered) → suc k ≡ i → (get_or old k d).number < one.number
before_place old items seen one i h same below k d e =
    let low : (get_or seen (i - 1) d).number < one.number = below (omega (arith, e)) d in
    let at : i - 1 ≡ k = omega (arith, e) in
    let read_is : get_or seen (i - 1) d ≡ get_or old k d =
    ap (λ (n : ℕ). get_or seen n d) at
    ∙ ap (λ (l : List Numbered). get_or l k d) (same ∙ h.items_are)
    ∙ ap (λ (n : ℕ). get_or (insert old n h.hole) k d) (sym e)
    ∙ insert_reads old k h.hole d (omega (arith, e, h.within)) in
    subst (λ (x : Numbered). x.number < one.number) read_is low

pub put_rising :
    {X E : Type 0} (old new : Versions Numbered) (seen : List Numbered) (i : ℕ) (one : Numbered) (r : Result X E) → AreRising old → seen ≡ old.items → i < length seen
    → HoldsAt (λ n. n.number ≡ one.number) seen i → OnOk r (new.items ≡ slice_set old.items i one) → OnErr r (new ≡ old) → new.before ≡ old.before → AreRising new
put_rising old new seen i one r rising same within found ok err before =
    changed_rising old new (slice_set old.items i one) r rising
    (set_rising old.items i one one rising.now
    (subst (λ (l : List Numbered). i < length l) same within)
    (subst (λ (l : List Numbered). (get_or l i one).number ≡ one.number) same (found one)))
    ok err before

pub put_numbered :
    {X E : Type 0} (old new seen : List Numbered) (i : ℕ) (one : Numbered) (r : Result X E) → IsRising old → seen ≡ old → i < length seen
    → HoldsAt (λ n. n.number ≡ one.number) seen i → OnOk r (new ≡ slice_set old i one) → OnOk r (IsNumbered one.number one.slot (by_number old) (by_number new))
put_numbered old new seen i one r rising same within found ok =
    changed_numbered old new (slice_set old i one) one.number one.slot r
    (set_numbered old i one one rising
    (subst (λ (l : List Numbered). i < length l) same within)
    (subst (λ (l : List Numbered). (get_or l i one).number ≡ one.number) same (found one)))
    ok
