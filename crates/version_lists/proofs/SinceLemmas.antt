-- Lemmas on what stood where at the newest mark.
use Rattle.std.proofs.Common.{◌≡◌, ◌≢◌, ◌⊎◌, ℕ, ◌+◌, ◌-◌, ◌<◌, ◌≤◌, List, [], ◌∷◌, ◌++◌, length, take, drop, set, get_or, map, refl, ap, ◌∙◌, sym, arith, suc, zero, subst, inl, inr, Some, None}
use Rattle.std.proofs.lemmas.Bool.{cases_eq, cases_lt}
use Rattle.std.proofs.lemmas.Option.{slice_get_past, slice_get-get_or}
use Rattle.std.proofs.lemmas.List.{drop_more, length-take}
use Rattle.std.proofs.lemmas.List.Edits.{length-insert}
use Rattle.std.proofs.lemmas.List.Elements.{Contains-append_left, Contains-push}
use Rattle.std.specs.List.{insert}
use Rattle.std.specs.Prelude.{All, AllPairs, Contains, slice_get, slice_index_or, vec_capacity}
use Rattle.version_lists.specs.declared.versions.log.Log.{Log}
use Rattle.version_lists.specs.declared.versions.log.Removed.{Removed}
use Rattle.version_lists.specs.declared.versions.log.Replaced.{Replaced}
use Rattle.version_lists.specs.declared.versions.log.Slotted.{Slotted}
use Rattle.version_lists.specs.Undo.{AreGone, HasAt, IsLogOf, IsSound, items_at, reopen, room_of, undo, versions}
use Rattle.version_lists.proofs.UndoLemmas.{length-reopen, length-undo, length-undo_taken}

pub get_set_same : {X : Type 0} (xs : List X) (i : ℕ) (y : X) → i < length xs → slice_get (set xs i y) i ≡ Some y
get_set_same [] i y within = absurd (omega arith)
get_set_same (x ∷ xs) zero y within = refl
get_set_same (x ∷ xs) (suc i) y within = get_set_same xs i y (omega arith)

pub get_set_other : {X : Type 0} (xs : List X) (i j : ℕ) (y : X) → i ≢ j → slice_get (set xs i y) j ≡ slice_get xs j
get_set_other [] i j y other = refl
get_set_other (x ∷ xs) zero zero y other = absurd (other refl)
get_set_other (x ∷ xs) zero (suc j) y other = refl
get_set_other (x ∷ xs) (suc i) zero y other = refl
get_set_other (x ∷ xs) (suc i) (suc j) y other = get_set_other xs i j y (λ e. other (ap suc e))

pub get_insert_same : {X : Type 0} (xs : List X) (i : ℕ) (y : X) → i ≤ length xs → slice_get (insert xs i y) i ≡ Some y
get_insert_same [] zero y within = refl
get_insert_same [] (suc i) y within = absurd (omega arith)
get_insert_same (x ∷ xs) zero y within = refl
get_insert_same (x ∷ xs) (suc i) y within = get_insert_same xs i y (omega arith)

pub get_insert_below :
    {X : Type 0} (xs : List X) (i j : ℕ) (y : X) → j < i → i ≤ length xs
    → slice_get (insert xs i y) j ≡ slice_get xs j
get_insert_below [] i j y below within = absurd (omega arith)
get_insert_below (x ∷ xs) zero j y below within = absurd (omega arith)
get_insert_below (x ∷ xs) (suc i) zero y below within = refl
get_insert_below (x ∷ xs) (suc i) (suc j) y below within = get_insert_below xs i j y (omega arith) (omega arith)

pub get_insert_above :
    {X : Type 0} (xs : List X) (i j : ℕ) (y : X) → i ≤ j → i ≤ length xs
    → slice_get (insert xs i y) (suc j) ≡ slice_get xs j
get_insert_above [] zero j y above within = refl
get_insert_above [] (suc i) j y above within = absurd (omega arith)
get_insert_above (x ∷ xs) zero j y above within = refl
get_insert_above (x ∷ xs) (suc i) zero y above within = absurd (omega arith)
get_insert_above (x ∷ xs) (suc i) (suc j) y above within = get_insert_above xs i j y (omega arith) (omega arith)

pub get_take_below : {X : Type 0} (n : ℕ) (xs : List X) (i : ℕ) → i < n → slice_get (take n xs) i ≡ slice_get xs i
get_take_below zero xs i below = absurd (omega arith)
get_take_below (suc n) [] i below = refl
get_take_below (suc n) (x ∷ xs) zero below = refl
get_take_below (suc n) (x ∷ xs) (suc i) below = get_take_below n xs i (omega arith)

-- the first of these is of the place
pub undo_first :
    {T : Type 0} (r : Replaced T) (rs : List (Replaced T)) (xs : List T) (at : ℕ) → r.at ≡ at → at < length xs
    → slice_get (undo (λ r. r.value) (r ∷ rs) xs) at ≡ Some r.value
undo_first r rs xs at is within =
    rw (← is)
    (get_set_same (undo (λ r. r.value) rs xs) r.at r.value (omega (arith, is, within, length-undo (λ r. r.value) rs xs)))

-- none of these is of the place
pub undo_others :
    {T : Type 0} (rs : List (Replaced T)) (xs : List T) (at : ℕ)
    → ((k : ℕ) (d : Replaced T) → k < length rs → (get_or rs k d).at ≢ at)
    → slice_get (undo (λ r. r.value) rs xs) at ≡ slice_get xs at
undo_others [] xs at others = refl
undo_others (r ∷ rs) xs at others =
    get_set_other (undo (λ r. r.value) rs xs) r.at at r.value (others zero r (omega arith))
    ∙ undo_others rs xs at (λ k d within. others (suc k) d (omega arith))

-- the element that is found at the place's own slot
pub undo_found :
    {T : Type 0} (rs : List (Replaced T)) (slot : ℕ) (d : Replaced T) (xs : List T) (at : ℕ)
    → AllPairs (λ r s. r.at ≢ s.at) rs → slot < length rs → (get_or rs slot d).at ≡ at → at < length xs
    → slice_get (undo (λ r. r.value) rs xs) at ≡ Some (get_or rs slot d).value
undo_found [] slot d xs at once within is below = absurd (omega arith)
undo_found (r ∷ rs) zero d xs at once within is below = undo_first r rs xs at is below
undo_found (r ∷ rs) (suc slot) d xs at once within is below =
    get_set_other (undo (λ r. r.value) rs xs) r.at at r.value
    (λ same. once zero (suc slot) d (omega arith) within (same ∙ sym is))
    ∙ undo_found rs slot d xs at (λ i j e before past. once (suc i) (suc j) e (omega arith) (omega arith)) (omega arith) is below

-- what is at the slot is there
pub HasAt-within : {T : Type 0} (rs : List (Replaced T)) (slot at : ℕ) → HasAt rs slot at → slot < length rs
HasAt-within [] slot at has = elim has [ ]
HasAt-within (r ∷ rs) zero at has = omega arith
HasAt-within (r ∷ rs) (suc slot) at has = let rest = HasAt-within rs slot at has in omega (arith, rest)

pub HasAt-is : {T : Type 0} (rs : List (Replaced T)) (slot at : ℕ) (d : Replaced T) → HasAt rs slot at → (get_or rs slot d).at ≡ at
HasAt-is [] slot at d has = elim has [ ]
HasAt-is (r ∷ rs) zero at d has = has
HasAt-is (r ∷ rs) (suc slot) at d has = HasAt-is rs slot at d has

pub Contains-first : {X : Type 0} (x : X) (xs : List X) → Contains (x ∷ xs) x
Contains-first x xs = (zero, omega arith, refl)

pub Contains-later : {X : Type 0} (y : X) (xs : List X) (x : X) → Contains xs x → Contains (y ∷ xs) x
Contains-later y xs x has = (suc has.0, omega (arith, has.1), has.2)

-- each place was written, or has the element that it had
pub written_or_same :
    {T : Type 0} (rs : List (Replaced T)) (xs : List T) (i : ℕ)
    → Contains (map (λ r. r.at) rs) i ⊎ (slice_get (undo (λ r. r.value) rs xs) i ≡ slice_get xs i)
written_or_same [] xs i = inr refl
written_or_same (r ∷ rs) xs i =
    elim (cases_eq r.at i) [
      | inl same ↦ inl (subst (λ (n : ℕ). Contains (r.at ∷ map (λ r. r.at) rs) n) same (Contains-first r.at (map (λ r. r.at) rs)))
      | inr other ↦
          elim (written_or_same rs xs i) [
            | inl has ↦ inl (Contains-later r.at (map (λ r. r.at) rs) i has)
            | inr rest ↦ inr (get_set_other (undo (λ r. r.value) rs xs) r.at i r.value other ∙ rest)
          ]
    ]

-- ---- loops over what was replaced, and over what left

pub same_read : {X : Type 0} (xs ys : List X) (i : ℕ) (x : X) → xs ≡ ys → x ≡ get_or xs i x → x ≡ get_or ys i x
same_read xs ys i x same is = is ∙ ap (λ zs. get_or zs i x) same

-- the next one is of the place
pub first_read :
    {T : Type 0} (rs : List (Replaced T)) (i : ℕ) (r : Replaced T) (xs : List T) (at : ℕ)
    → i < length rs → r ≡ get_or rs i r → r.at ≡ at → All (λ q. q.at < length xs) rs
    → slice_get (undo (λ q. q.value) (drop i rs) xs) at ≡ Some r.value
first_read rs i r xs at within is same all =
    let here : (get_or rs i r).at ≡ at = sym (ap (λ q. q.at) is) ∙ same in
    let below : (get_or rs i r).at < length xs = all i r within in
    ap (λ ds. slice_get (undo (λ q. q.value) ds xs) at) (drop_more rs i r within)
    ∙ undo_first (get_or rs i r) (drop (i + 1) rs) xs at here (omega (arith, here, below))
    ∙ ap (λ q. Some q.value) (sym is)

-- the next one is not
pub others_read :
    {T : Type 0} (rs : List (Replaced T)) (i : ℕ) (r : Replaced T) (xs : List T) (at : ℕ)
    → i < length rs → r ≡ get_or rs i r → r.at ≢ at
    → slice_get (undo (λ q. q.value) (drop i rs) xs) at ≡ slice_get (undo (λ q. q.value) (drop (i + 1) rs) xs) at
others_read rs i r xs at within is other =
    ap (λ ds. slice_get (undo (λ q. q.value) ds xs) at) (drop_more rs i r within)
    ∙ get_set_other (undo (λ q. q.value) (drop (i + 1) rs) xs) (get_or rs i r).at at (get_or rs i r).value
    (λ same. other (ap (λ q. q.at) is ∙ same))

-- the list with the next one at its place again, and what was replaced before
pub reopen_here :
    {T : Type 0} (gone : List (Removed T)) (i : ℕ) (g : Removed T) (xs : List T)
    → i < length gone → g ≡ get_or gone i g
    → reopen (λ r. r.value) (drop i gone) xs
    ≡ undo (λ r. r.value) g.earlier.items (insert (reopen (λ r. r.value) (drop (i + 1) gone) xs) g.element.at g.element.value)
reopen_here gone i g xs within is =
    ap (λ gs. reopen (λ r. r.value) gs xs) (drop_more gone i g within)
    ∙ ap
    (λ h. undo (λ r. r.value) h.earlier.items (insert (reopen (λ r. r.value) (drop (i + 1) gone) xs) h.element.at h.element.value))
    (sym is)

-- the next one has its place there
pub record HasPlace {T : Type 0} (n : ℕ) (g : Removed T) (more : List (Removed T)) (xs : List T) : Type 0 where
  pub at : g.element.at ≤ length xs
  pub earlier : All (λ r. r.at ≤ length xs) g.earlier.items
  pub rest : AreGone n more

placed :
    {T : Type 0} (n : ℕ) (g : Removed T) (more : List (Removed T)) (xs : List T)
    → AreGone n (g ∷ more) → length xs ≡ n + length more → HasPlace n g more xs
placed n g more xs are long = record {
  at = omega (arith, are.0, long);
  earlier = λ k d within. omega (arith, long, are.1 k d within);
  rest = are.2;
}

pub gone_here :
    {T : Type 0} (n : ℕ) (gone : List (Removed T)) (i : ℕ) (g : Removed T) (xs : List T)
    → i < length gone → g ≡ get_or gone i g → AreGone n (drop i gone) → length xs ≡ n
    → HasPlace n g (drop (i + 1) gone) (reopen (λ r. r.value) (drop (i + 1) gone) xs)
gone_here n gone i g xs within is are long =
    let next : AreGone n (get_or gone i g ∷ drop (i + 1) gone) =
    subst (λ gs. AreGone n gs) (drop_more gone i g within) are in
    let here : AreGone n (g ∷ drop (i + 1) gone) =
    subst (λ h. AreGone n (h ∷ drop (i + 1) gone)) (sym is) next in
    placed n g (drop (i + 1) gone) (reopen (λ r. r.value) (drop (i + 1) gone) xs) here
    (length-reopen (λ r. r.value) (drop (i + 1) gone) xs n here.2 long)

-- another place than that of an element that was put in
pub get_inserted_other :
    {X : Type 0} (xs : List X) (p at to : ℕ) (y : X) → p ≢ at
    → (at < p → to ≡ at) → (p < at → to ≡ at - 1) → p ≤ length xs
    → slice_get (insert xs p y) at ≡ slice_get xs to
get_inserted_other xs p at to y other below above within =
    elim (cases_lt at p) [
      | inl less ↦ get_insert_below xs p at y less within ∙ ap (slice_get xs) (sym (below less))
      | inr not_less ↦
          let more : p < at = omega (arith, not_less, other) in
          let one : at ≡ suc (at - 1) = omega (arith, more) in
          ap (slice_get (insert xs p y)) one
          ∙ get_insert_above xs p (at - 1) y (omega (arith, more)) within
          ∙ ap (slice_get xs) (sym (above more))
    ]

-- ---- the places where another element may stand

-- each was written, or came, or has the element that it had
pub changed_all :
    {T : Type 0} (log : Log T) (items : List T) (count : ℕ) (out places : List ℕ)
    → log.removed.items ≡ [] → log.len ≤ count → length items ≡ count → out ≡ map (λ r. r.at) log.replaced.items
    → ((i : ℕ) → Contains out i → Contains places i)
    → ((i : ℕ) → log.len ≤ i → i < count → Contains places i)
    → (i : ℕ) → Contains places i ⊎ (slice_get (items_at log items) i ≡ slice_get items i)
changed_all {T = T} log items count out places whole within long are keeps has i =
    let now : slice_get (items_at log items) i
    ≡ slice_get (undo (λ r. r.value) log.replaced.items (take log.len items)) i =
    ap (λ (gs : List (Removed T)). slice_get (reopen (λ r. r.value) gs (undo (λ r. r.value) log.replaced.items (take log.len items))) i) whole in
    elim (written_or_same log.replaced.items (take log.len items) i) [
      | inl written ↦ inl (keeps i (rw are written))
      | inr same ↦
          elim (cases_lt i log.len) [
            | inl less ↦ inr (now ∙ same ∙ get_take_below log.len items i less)
            | inr not_less ↦
                elim (cases_lt i count) [
                  | inl inside ↦ inl (has i not_less inside)
                  | inr past ↦
                      inr
                      (now ∙ same
                      ∙ slice_get_past (take log.len items) i (omega (arith, not_less, length-take log.len items))
                      ∙ sym (slice_get_past items i (omega (arith, long, past))))
                ]
          ]
    ]

-- one place more
pub has_pushed :
    (out : List ℕ) (first i : ℕ) → ((n : ℕ) → first ≤ n → n < i → Contains out n)
    → (n : ℕ) → first ≤ n → n < i + 1 → Contains (out ++ i ∷ []) n
has_pushed out first i has n from below =
    elim (cases_lt n i) [
      | inl less ↦ Contains-append_left out (i ∷ []) n (has n from less)
      | inr not_less ↦
          let last : i ≡ n = omega (arith, below, not_less) in
          subst (λ (m : ℕ). Contains (out ++ i ∷ []) m) last (Contains-push out i)
    ]

-- no earlier version is longer than there is room for
first_short :
    {T : Type 0} (items : List T) (stack : List (Log T)) (n : ℕ) → All (λ version. length version ≤ n) (versions items stack)
    → length (slice_index_or (versions items stack) 0 []) ≤ n
first_short items [] n all = omega arith
first_short items (log ∷ logs) n all = all zero [] (omega arith)

-- where all places with room are told, what stands past them is nothing
pub all_places :
    {T : Type 0} (list : Slotted T) (stack : List (Log T)) (capacity k : ℕ) (places : List ℕ)
    → IsSound list stack capacity → room_of list ≤ k → length list.items.items ≤ k
    → ((i : ℕ) → 0 ≤ i → i < k → Contains places i)
    → (i : ℕ) → Contains places i
    ⊎ (slice_get (slice_index_or (versions list.items.items stack) 0 []) i ≡ slice_get list.items.items i)
all_places list stack capacity k places is room short has i =
    elim (cases_lt i k) [
      | inl inside ↦ inl (has i (omega arith) inside)
      | inr past ↦
          inr
          (slice_get_past (slice_index_or (versions list.items.items stack) 0 []) i
          (omega (arith, past, room, first_short list.items.items stack (room_of list) is.spacious))
          ∙ sym (slice_get_past list.items.items i (omega (arith, past, short))))
    ]
