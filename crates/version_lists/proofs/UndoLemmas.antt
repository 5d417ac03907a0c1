-- Lemmas on `undo` and what is made of it.
use Rattle.std.proofs.Common.{◌≡◌, ◌≢◌, ℕ, ◌+◌, ◌-◌, ◌<◌, ◌≤◌, List, [], ◌∷◌, ◌++◌, length, take, set, get_or, refl, ap, ◌∙◌, sym, arith, suc, zero, subst, inl, inr}
use Rattle.std.proofs.lemmas.List.{length-set, set-set, set_comm, set-get_or, get_or-take, take-append-le, take_all, length-take, length-append, get_or_append_left, get_or_push, get_or-set_same, get_or-set_other}
use Rattle.std.proofs.lemmas.List.Edits.{length-insert, length-remove}
use Rattle.std.proofs.lemmas.List.Elements.{All-cons, All-push, All-take}
use Rattle.std.specs.List.{insert, remove}
use Rattle.std.specs.Prelude.{All}
use Rattle.std.proofs.lemmas.List.Quantifiers.{all_pairs_push}
use Rattle.std.proofs.lemmas.Bool.{cases_eq}
use Rattle.std.proofs.lemmas.Option.{slice_get_read}
use Rattle.std.proofs.Math.Seq.{take-set-lt}
use Rattle.version_lists.specs.Versions.{Versions, IsOwn}
use Rattle.version_lists.specs.declared.versions.log.Log.{Log}
use Rattle.version_lists.specs.declared.versions.log.Removed.{Removed}
use Rattle.version_lists.specs.declared.versions.log.Replaced.{Replaced}
use Rattle.version_lists.specs.Undo.{undo, reopen, at_mark, items_at, slots_at, versions, HasAt, AreGone, IsLogOf, AreLogsOf}

-- the list as it was at the log's mark, from the first elements alone
abbrev at_taken : {T X : Type 0} → (Replaced T → X) → Log T → List X → List X
at_taken part log xs = reopen part log.removed.items (undo part log.replaced.items xs)

pub length-undo : {T X : Type 0} (part : Replaced T → X) (rs : List (Replaced T)) (xs : List X) → length (undo part rs xs) ≡ length xs
length-undo part [] xs = refl
length-undo part (r ∷ rs) xs = length-set (undo part rs xs) r.at (part r) ∙ length-undo part rs xs

-- what was replaced last is given back first
pub undo_push :
    {T X : Type 0} (part : Replaced T → X) (rs : List (Replaced T)) (r : Replaced T) (xs : List X)
    → undo part (rs ++ r ∷ []) xs ≡ undo part rs (set xs r.at (part r))
undo_push part [] r xs = refl
undo_push part (q ∷ rs) r xs = ap (λ zs. set zs q.at (part q)) (undo_push part rs r xs)

-- a write before the undoing shows at its own place alone
pub undo_set_set :
    {T X : Type 0} (part : Replaced T → X) (rs : List (Replaced T)) (xs : List X) (at : ℕ) (y z : X)
    → set (undo part rs (set xs at y)) at z ≡ set (undo part rs xs) at z
undo_set_set part [] xs at y z = set-set xs at y z
undo_set_set part (r ∷ rs) xs at y z =
    elim (cases_eq r.at at) [
      | inl same ↦
          rw (← same)
          (set-set (undo part rs (set xs r.at y)) r.at (part r) z
          ∙ undo_set_set part rs xs r.at y z
          ∙ sym (set-set (undo part rs xs) r.at (part r) z))
      | inr other ↦
          set_comm (undo part rs (set xs at y)) r.at at (part r) z other
          ∙ ap (λ zs. set zs r.at (part r)) (undo_set_set part rs xs at y z)
          ∙ sym (set_comm (undo part rs xs) r.at at (part r) z other)
    ]

-- undoing hides a write to a place that the log has
pub undo_has :
    {T X : Type 0} (part : Replaced T → X) (rs : List (Replaced T)) (slot : ℕ) (xs : List X) (at : ℕ) (y : X)
    → HasAt rs slot at
    → undo part rs (set xs at y) ≡ undo part rs xs
undo_has part [] slot xs at y h = elim h [ ]
undo_has part (r ∷ rs) zero xs at y h = rw (← h) (undo_set_set part rs xs r.at y (part r))
undo_has part (r ∷ rs) (suc slot) xs at y h = ap (λ zs. set zs r.at (part r)) (undo_has part rs slot xs at y h)

-- an element that is put in its old place again
back_again :
    {T X : Type 0} (part : Replaced T → X) (r : Replaced T) (len : ℕ) (xs : List X) (y : X)
    → r.at < len → part r ≡ get_or xs r.at (part r)
    → set (take len (set xs r.at y)) r.at (part r) ≡ take len xs
back_again part r len xs y below was =
    let here : part r ≡ get_or (take len xs) r.at (part r) = was ∙ sym (get_or-take len xs r.at (part r) below) in
    ap (λ zs. set zs r.at (part r)) (take-set-lt len xs r.at y below)
    ∙ set-set (take len xs) r.at y (part r)
    ∙ ap (set (take len xs) r.at) here
    ∙ set-get_or (take len xs) r.at (part r)

-- a log that the place's element went into gives back what the log before gave
pub undo_replaced :
    {T X : Type 0} (part : Replaced T → X) (rs : List (Replaced T)) (r : Replaced T) (len : ℕ) (xs : List X) (y : X)
    → r.at < len → part r ≡ get_or xs r.at (part r)
    → undo part (rs ++ r ∷ []) (take len (set xs r.at y)) ≡ undo part rs (take len xs)
undo_replaced part rs r len xs y below was =
    undo_push part rs r (take len (set xs r.at y)) ∙ ap (undo part rs) (back_again part r len xs y below was)

-- going back hides a write that the newest log hides
pub versions_kept :
    {T : Type 0} (logs : List (Log T)) (log : Log T) (items other : List T)
    → 0 < length logs → log ≡ get_or logs 0 log → items_at log items ≡ items_at log other
    → versions items logs ≡ versions other logs
versions_kept [] log items other some is same = absurd (omega arith)
versions_kept (l ∷ logs) log items other some is same =
    ap (λ zs. zs ∷ versions zs logs) (subst (λ (k : _). items_at k items ≡ items_at k other) is same)

pub length-versions : {T : Type 0} (items : List T) (logs : List (Log T)) → length (versions items logs) ≡ length logs
length-versions items [] = refl
length-versions items (log ∷ logs) = ap suc (length-versions (items_at log items) logs)

pub take-versions :
    {T : Type 0} (n : ℕ) (items : List T) (logs : List (Log T)) → versions items (take n logs) ≡ take n (versions items logs)
take-versions zero items logs = refl
take-versions (suc n) items [] = refl
take-versions (suc n) items (log ∷ logs) = ap (λ vs. items_at log items ∷ vs) (take-versions n (items_at log items) logs)

pub AreLogsOf-take :
    {T : Type 0} (n : ℕ) (slots : List ℕ) (logs : List (Log T)) → AreLogsOf slots logs → AreLogsOf slots (take n logs)
AreLogsOf-take zero slots logs are = tt
AreLogsOf-take (suc n) slots [] are = tt
AreLogsOf-take (suc n) slots (log ∷ logs) are = (are.0, AreLogsOf-take n (slots_at log slots) logs are.1)

-- going back drops what stands behind the earlier version
pub versions-append :
    {T : Type 0} (items more : List T) (slots : List ℕ) (logs : List (Log T))
    → AreLogsOf slots logs → length slots ≡ length items → versions (items ++ more) logs ≡ versions items logs
versions-append items more slots [] are lengths = refl
versions-append items more slots (log ∷ logs) are lengths =
    let within : log.len ≤ length items = omega (arith, are.0.no_longer) in
    ap
    (λ zs. at_taken (λ r. r.value) log zs ∷ versions (at_taken (λ r. r.value) log zs) logs)
    (take-append-le log.len items more within)

IsLogOf-append : {T : Type 0} (slots more : List ℕ) (log : Log T) → IsLogOf slots log → IsLogOf (slots ++ more) log
IsLogOf-append slots more log is = record {
  no_longer = omega (arith, length-append slots more, is.no_longer);
  places = is.places;
  found = λ k d within.
      let below : (get_or log.replaced.items k d).at < length slots = omega (arith, is.places k d within, is.no_longer) in
      get_or_append_left slots more 0 (get_or log.replaced.items k d).at below ∙ is.found k d within;
  once = is.once;
  gone = is.gone;
}

pub AreLogsOf-append :
    {T : Type 0} (slots more : List ℕ) (logs : List (Log T)) → AreLogsOf slots logs → AreLogsOf (slots ++ more) logs
AreLogsOf-append slots more [] are = tt
AreLogsOf-append slots more (log ∷ logs) are =
    let same = take-append-le log.len slots more are.0.no_longer in (
      IsLogOf-append slots more log are.0,
      subst (λ (zs : List ℕ). AreLogsOf (at_taken (λ r. r.slot) log zs) logs) (sym same) are.1,
    )

IsLogOf_empty :
    {T : Type 0} (slots : List ℕ) (log : Log T)
    → log.replaced.items ≡ [] → log.removed.items ≡ [] → log.len ≡ length slots → IsLogOf slots log
IsLogOf_empty slots log empty whole all = record {
  no_longer = omega arith;
  places = λ k d within. absurd (omega (arith, ap length empty, within));
  found = λ k d within. absurd (omega (arith, ap length empty, within));
  once = λ i j d less within. absurd (omega (arith, ap length empty, within));
  gone = rw whole tt;
}

-- an empty log as long as the list gives back the list
pub undo_empty :
    {T X : Type 0} (part : Replaced T → X) (log : Log T) (xs : List X)
    → log.replaced.items ≡ [] → log.removed.items ≡ [] → log.len ≡ length xs → at_mark part log xs ≡ xs
undo_empty part log xs empty whole all = rw (whole, empty) (take_all log.len xs (omega arith))

pub versions_marked :
    {T : Type 0} (items : List T) (log : Log T) (logs : List (Log T))
    → log.replaced.items ≡ [] → log.removed.items ≡ [] → log.len ≡ length items
    → versions items (log ∷ logs) ≡ items ∷ versions items logs
versions_marked items log logs empty whole all =
    ap (λ zs. zs ∷ versions zs logs) (undo_empty (λ r. r.value) log items empty whole all)

pub AreLogsOf_marked :
    {T : Type 0} (slots : List ℕ) (log : Log T) (logs : List (Log T))
    → log.replaced.items ≡ [] → log.removed.items ≡ [] → log.len ≡ length slots → AreLogsOf slots logs
    → AreLogsOf slots (log ∷ logs)
AreLogsOf_marked slots log logs empty whole all are = (
  IsLogOf_empty slots log empty whole all,
  subst (λ (zs : List ℕ). AreLogsOf zs logs) (sym (undo_empty (λ r. r.slot) log slots empty whole all)) are,
)

pub versions_without_oldest :
    {T : Type 0} (n : ℕ) (items : List T) (logs : List (Log T)) → n ≡ length logs
    → versions items (take (n - 1) logs) ≡ take (length (versions items logs) - 1) (versions items logs)
versions_without_oldest n items logs all =
    take-versions (n - 1) items logs
    ∙ ap (λ k. take (k - 1) (versions items logs)) (all ∙ sym (length-versions items logs))

-- a log hides a write to a place that it has
pub items_at-has :
    {T : Type 0} (log : Log T) (slot at : ℕ) (items : List T) (value : T) → at < log.len
    → HasAt log.replaced.items slot at
    → items_at log (set items at value) ≡ items_at log items
items_at-has log slot at items value below has =
    ap (at_taken (λ r. r.value) log) (take-set-lt log.len items at value below)
    ∙ ap
    (reopen (λ r. r.value) log.removed.items)
    (undo_has (λ r. r.value) log.replaced.items slot (take log.len items) at value has)

-- the list grows by what had left
pub length-reopen :
    {T X : Type 0} (part : Replaced T → X) (gone : List (Removed T)) (xs : List X) (n : ℕ)
    → AreGone n gone → length xs ≡ n → length (reopen part gone xs) ≡ n + length gone
length-reopen part [] xs n are long = omega arith
length-reopen part (g ∷ gone) xs n are long =
    let rest : length (reopen part gone xs) ≡ n + length gone = length-reopen part gone xs n are.2 long in
    omega (
      arith,
      rest,
      length-undo part g.earlier.items (insert (reopen part gone xs) g.element.at (part g.element)),
      length-insert (reopen part gone xs) g.element.at (part g.element) (omega (arith, rest, are.0)),
    )

-- how long the list was at the log's mark
pub length-at_mark :
    {T X : Type 0} (part : Replaced T → X) (log : Log T) (xs : List X)
    → AreGone log.len log.removed.items → log.len ≤ length xs
    → length (at_mark part log xs) ≡ log.len + length log.removed.items
length-at_mark part log xs are within =
    length-reopen part log.removed.items (undo part log.replaced.items (take log.len xs)) log.len are
    (omega (arith, length-undo part log.replaced.items (take log.len xs), length-take log.len xs))

-- what left last returns first
pub reopen_push :
    {T X : Type 0} (part : Replaced T → X) (gone : List (Removed T)) (last : Removed T) (xs : List X)
    → reopen part (gone ++ last ∷ []) xs
    ≡ reopen part gone (undo part last.earlier.items (insert xs last.element.at (part last.element)))
reopen_push part [] last xs = refl
reopen_push part (g ∷ gone) last xs =
    ap (λ zs. undo part g.earlier.items (insert zs g.element.at (part g.element))) (reopen_push part gone last xs)

pub AreGone_push :
    {T : Type 0} (n : ℕ) (gone : List (Removed T)) (last : Removed T)
    → AreGone (suc n) gone → last.element.at ≤ n → All (λ r. r.at ≤ n) last.earlier.items
    → AreGone n (gone ++ last ∷ [])
AreGone_push n [] last are place places = (
  omega (arith, place),
  λ k d within. omega (arith, places k d within),
  tt,
)
AreGone_push n (g ∷ gone) last are place places = (
  omega (arith, are.0, length-append gone (last ∷ [])),
  λ k d within. omega (arith, are.1 k d within, length-append gone (last ∷ [])),
  AreGone_push n gone last are.2 place places,
)

pub AreGone_pop :
    {T : Type 0} (n : ℕ) (gone : List (Removed T)) (last : Removed T) → AreGone n (gone ++ last ∷ [])
    → (last.element.at ≤ n) × All (λ r. r.at ≤ n) last.earlier.items × AreGone (suc n) gone
AreGone_pop n [] last are = (
  omega (arith, are.0),
  λ k d within. omega (arith, are.1 k d within),
  tt,
)
AreGone_pop n (g ∷ gone) last are =
    let rest = AreGone_pop n gone last are.2 in (
      rest.0,
      rest.1,
      (
        omega (arith, are.0, length-append gone (last ∷ [])),
        λ k d within. omega (arith, are.1 k d within, length-append gone (last ∷ [])),
        rest.2,
      ),
    )

-- what lies before the place stays
take_remove : {X : Type 0} (n at : ℕ) (xs : List X) → n ≤ at → take n (remove xs at) ≡ take n xs
take_remove zero at xs before = refl
take_remove (suc n) zero xs before = absurd (omega (arith, before))
take_remove (suc n) (suc at) [] before = refl
take_remove (suc n) (suc at) (x ∷ xs) before = ap (λ zs. x ∷ zs) (take_remove n at xs (omega (arith, before)))

-- the element that left, where it stood
insert_removed :
    {X : Type 0} (n at : ℕ) (xs : List X) (x : X) → at ≤ n → at < length xs → x ≡ get_or xs at x
    → insert (take n (remove xs at)) at x ≡ take (suc n) xs
insert_removed n at [] x before within read = absurd (omega (arith, within))
insert_removed n zero (y ∷ xs) x before within read = ap (λ z. z ∷ take n xs) read
insert_removed zero (suc at) (y ∷ xs) x before within read = absurd (omega (arith, before))
insert_removed (suc n) (suc at) (y ∷ xs) x before within read =
    ap (λ zs. y ∷ zs) (insert_removed n at xs x (omega (arith, before)) (omega (arith, within)) read)

-- a log that an element went into as it left gives back what the log before gave
reopen_removed :
    {T X : Type 0} (part : Replaced T → X) (gone : List (Removed T)) (last : Removed T) (len : ℕ) (xs : List X)
    → last.element.at < len → last.element.at < length xs
    → part last.element ≡ get_or xs last.element.at (part last.element)
    → reopen part (gone ++ last ∷ []) (take (len - 1) (remove xs last.element.at))
    ≡ reopen part gone (undo part last.earlier.items (take len xs))
reopen_removed part gone last len xs below within read =
    let before : last.element.at ≤ len - 1 = omega (arith, below) in
    let one : suc (len - 1) ≡ len = omega (arith, below) in
    reopen_push part gone last (take (len - 1) (remove xs last.element.at))
    ∙ ap
    (λ zs. reopen part gone (undo part last.earlier.items zs))
    (insert_removed (len - 1) last.element.at xs (part last.element) before within read
    ∙ ap (λ n. take n xs) one)

pub at_mark_removed :
    {T X : Type 0} (part : Replaced T → X) (old new : Log T) (last : Removed T) (xs ys : List X)
    → new.len ≡ old.len - 1 → new.replaced.items ≡ [] → new.removed.items ≡ old.removed.items ++ last ∷ []
    → last.earlier.items ≡ old.replaced.items → ys ≡ remove xs last.element.at
    → last.element.at < old.len → last.element.at < length xs
    → part last.element ≡ get_or xs last.element.at (part last.element)
    → at_mark part new ys ≡ at_mark part old xs
at_mark_removed part old new last xs ys less empty items earlier gone below within read =
    rw (less, empty, items, gone)
    (reopen_removed part old.removed.items last old.len xs below within read
    ∙ ap (λ rs. reopen part old.removed.items (undo part rs (take old.len xs))) earlier)

-- the log of a list that an element has left
pub IsLogOf_removed :
    {T : Type 0} (slots : List ℕ) (old log : Log T) (last : Removed T) → IsLogOf slots old
    → log.len ≡ old.len - 1 → log.replaced.items ≡ [] → log.removed.items ≡ old.removed.items ++ last ∷ []
    → last.element.at < old.len → last.earlier.items ≡ old.replaced.items
    → IsLogOf (remove slots last.element.at) log
IsLogOf_removed slots old log last is less empty items below earlier = record {
  no_longer =
      omega (arith, less, below, is.no_longer, length-remove slots last.element.at (omega (arith, below, is.no_longer)));
  places = λ k d within. absurd (omega (arith, ap length empty, within));
  found = λ k d within. absurd (omega (arith, ap length empty, within));
  once = λ i j d first within. absurd (omega (arith, ap length empty, within));
  gone =
      let one : suc (old.len - 1) ≡ old.len = omega (arith, below) in
      let before : All (λ r. r.at < old.len) last.earlier.items = rw earlier is.places in
      rw (less, items)
      (AreGone_push
      (old.len - 1) old.removed.items last (rw one is.gone) (omega (arith, below))
      (λ k d within. omega (arith, before k d within)));
}

-- the same earlier versions have as much space or more
pub spacious_still :
    {T : Type 0} (old new : List (List T)) (n m : ℕ) → new ≡ old → n ≤ m
    → All (λ version. length version ≤ n) old → All (λ version. length version ≤ m) new
spacious_still old new n m same more all = rw same (λ k d within. omega (arith, more, all k d within))

pub spacious_take :
    {T : Type 0} (k : ℕ) (items : List T) (logs : List (Log T)) (n : ℕ)
    → All (λ version. length version ≤ n) (versions items logs)
    → All (λ version. length version ≤ n) (versions items (take k logs))
spacious_take k items logs n all =
    rw (take-versions k items logs) (All-take (λ version. length version ≤ n) k (versions items logs) all)

pub spacious_marked :
    {T : Type 0} (items : List T) (log : Log T) (stack rest logs : List (Log T)) (k n : ℕ)
    → log.replaced.items ≡ [] → log.removed.items ≡ [] → log.len ≡ length items → length items ≤ n
    → stack ≡ log ∷ rest → rest ≡ take k logs → All (λ version. length version ≤ n) (versions items logs)
    → All (λ version. length version ≤ n) (versions items stack)
spacious_marked {T = T} items log stack rest logs k n empty whole there short pushed left all =
    let now : versions items stack ≡ items ∷ take k (versions items logs) =
    ap (λ ls. versions items ls) pushed
    ∙ versions_marked items log rest empty whole there
    ∙ ap (λ ls. items ∷ versions items ls) left
    ∙ ap (λ vs. items ∷ vs) (take-versions k items logs)
    in
    subst
    (λ (vs : List (List T)). All (λ version. length version ≤ n) vs)
    (sym now)
    (All-cons
    (λ version. length version ≤ n) items (take k (versions items logs)) short
    (All-take (λ version. length version ≤ n) k (versions items logs) all))

-- there is space for the newest earlier version
pub back_room :
    {T : Type 0} (items : List T) (slots : List ℕ) (log : Log T) (logs : List (Log T)) (n : ℕ)
    → length slots ≡ length items → AreLogsOf slots (log ∷ logs)
    → All (λ version. length version ≤ n) (versions items (log ∷ logs))
    → log.len + length log.removed.items ≤ n
back_room items slots log logs n lengths are all =
    let first : length (items_at log items) ≤ n = all 0 items (omega arith) in
    let within : log.len ≤ length items = omega (arith, lengths, are.0.no_longer) in
    omega (arith, first, length-at_mark (λ r. r.value) log items are.0.gone within)

-- and for those before it
pub back_spacious :
    {T : Type 0} (items : List T) (log : Log T) (logs : List (Log T)) (n m : ℕ) → n ≤ m
    → All (λ version. length version ≤ n) (versions items (log ∷ logs))
    → All (λ version. length version ≤ m) (versions (items_at log items) logs)
back_spacious items log logs n m more all =
    λ k d within.
    let one : length (get_or (versions (items_at log items) logs) k d) ≤ n = all (suc k) d (omega (arith, within)) in
    omega (arith, more, one)

pub length-undo_taken :
    {T X : Type 0} (part : Replaced T → X) (rs : List (Replaced T)) (n : ℕ) (xs : List X) → n ≤ length xs
    → length (undo part rs (take n xs)) ≡ n
length-undo_taken part rs n xs within = omega (arith, within, length-undo part rs (take n xs), length-take n xs)

pub length-put_back :
    {T X : Type 0} (part : Replaced T → X) (rs : List (Replaced T)) (xs : List X) (at : ℕ) (x : X) → at ≤ length xs
    → length (undo part rs (insert xs at x)) ≡ suc (length xs)
length-put_back part rs xs at x within =
    omega (arith, length-undo part rs (insert xs at x), length-insert xs at x within)

-- where the newest log changes with the list, and going back from it gives the same
pub versions_set :
    {T : Type 0} (items other : List T) (logs : List (Log T)) (old new : Log T) → 0 < length logs
    → old ≡ get_or logs 0 old → items_at new other ≡ items_at old items
    → versions other (set logs 0 new) ≡ versions items logs
versions_set items other [] old new some is same = absurd (omega (arith, some))
versions_set items other (l ∷ logs) old new some is same =
    ap (λ zs. zs ∷ versions zs logs) (same ∙ ap (λ k. items_at k items) is)

pub AreLogsOf_set :
    {T : Type 0} (slots other : List ℕ) (logs : List (Log T)) (old new : Log T) → 0 < length logs
    → old ≡ get_or logs 0 old → slots_at new other ≡ slots_at old slots
    → (IsLogOf slots old → IsLogOf other new)
    → AreLogsOf slots logs → AreLogsOf other (set logs 0 new)
AreLogsOf_set slots other [] old new some is same keeps are = absurd (omega (arith, some))
AreLogsOf_set slots other (l ∷ logs) old new some is same keeps are =
    let first : IsLogOf slots old = rw is are.0 in
    let rest : slots_at l slots ≡ slots_at new other = sym (same ∙ ap (λ k. slots_at k slots) is) in
    (keeps first, subst (λ (zs : List ℕ). AreLogsOf zs logs) rest are.1)

-- an element that was put where another stands in its log
pub versions_written :
    {T : Type 0} (items edited : List T) (x : T) (logs : List (Log T)) (old : List (List T)) (at : ℕ) (w : T)
    → edited ≡ set items at x → versions (set items at w) logs ≡ old → versions (set edited at w) logs ≡ old
versions_written items edited x logs old at w put before =
    let again : set edited at w ≡ set items at w = rw put (set-set items at x w) in
    ap (λ zs. versions zs logs) again ∙ before

-- what is found at a place's own slot is there
HasAt-found :
    {T : Type 0} (rs : List (Replaced T)) (k : ℕ) (d : Replaced T) (at : ℕ)
    → k < length rs → (get_or rs k d).at ≡ at → HasAt rs k at
HasAt-found [] k d at within is = absurd (omega arith)
HasAt-found (r ∷ rs) zero d at within is = is
HasAt-found (r ∷ rs) (suc k) d at within is = HasAt-found rs k d at (omega arith) is

-- no element that the log has is of a place that it hasn't
pub other_place :
    {T : Type 0} (slots : List ℕ) (log : Log T) (at : ℕ) → IsLogOf slots log
    → ¬ HasAt log.replaced.items (get_or slots at 0) at
    → (k : ℕ) (d : Replaced T) → k < length log.replaced.items → (get_or log.replaced.items k d).at ≢ at
other_place slots log at is new k d within same =
    let slot : get_or slots at 0 ≡ k = subst (λ (n : ℕ). get_or slots n 0 ≡ k) same (is.found k d within) in
    new (rw slot (HasAt-found log.replaced.items k d at within same))

-- one more element, found at the end
found_push :
    {T : Type 0} (slots : List ℕ) (rs : List (Replaced T)) (r : Replaced T) → r.at < length slots
    → ((k : ℕ) (d : Replaced T) → k < length rs → get_or slots (get_or rs k d).at 0 ≡ k)
    → ((k : ℕ) (d : Replaced T) → k < length rs → (get_or rs k d).at ≢ r.at)
    → (k : ℕ) (d : Replaced T) → k < length (rs ++ r ∷ [])
    → get_or (set slots r.at (length rs)) (get_or (rs ++ r ∷ []) k d).at 0 ≡ k
found_push slots rs r below found other k d within =
    elim (cases_eq k (length rs)) [
      | inl last ↦
          rw (get_or_push rs r d k (sym last)) (get_or-set_same slots r.at (length rs) 0 below ∙ sym last)
      | inr not_last ↦
          let before : k < length rs = omega (arith, length-append rs (r ∷ [])) in
          rw (get_or_append_left rs (r ∷ []) d k before)
          (get_or-set_other slots r.at (get_or rs k d).at (length rs) 0 (other k d before) ∙ found k d before)
    ]

-- a log with one more element, of a place that it had none of
pub IsLogOf_replaced :
    {T : Type 0} (slots : List ℕ) (old log : Log T) (r : Replaced T) → IsLogOf slots old
    → log.len ≡ old.len → log.removed.items ≡ old.removed.items
    → log.replaced.items ≡ old.replaced.items ++ r ∷ [] → r.at < old.len
    → ¬ HasAt old.replaced.items (get_or slots r.at 0) r.at
    → IsLogOf (set slots r.at (length old.replaced.items)) log
IsLogOf_replaced slots old log r is same_len same_gone items below new = record {
  no_longer = omega (arith, length-set slots r.at (length old.replaced.items), is.no_longer);
  places = rw (items, same_len) (All-push (λ q. q.at < old.len) old.replaced.items r is.places below);
  found =
      rw items
      (found_push
      slots old.replaced.items r (omega (arith, is.no_longer)) is.found (other_place slots old r.at is new));
  once = rw items (all_pairs_push (λ q s. q.at ≢ s.at) old.replaced.items r is.once (other_place slots old r.at is new));
  gone = rw (same_len, same_gone) is.gone;
}

-- an element is its own
pub own_itself :
    {T : Type 0} (is_clone : T → T → Type 0) (items : List T) (at : ℕ) → at < length items
    → (x : T) × IsOwn is_clone items at x × (items ≡ set items at x)
own_itself is_clone [] at within = absurd (omega arith)
own_itself is_clone (x ∷ xs) zero within = (x, inl refl, refl)
own_itself is_clone (x ∷ xs) (suc at) within =
    let rest = own_itself is_clone xs at (omega arith) in
    (rest.0, rest.1, ap (λ zs. x ∷ zs) rest.2)

-- and so is a clone of it
pub own_clone :
    {T : Type 0} (is_clone : T → T → Type 0) (items : List T) (at : ℕ) (x copy : T)
    → at < length items → x ≡ get_or items at x → is_clone x copy → IsOwn is_clone items at copy
own_clone is_clone items at x copy within read clone =
    inr (rw (slice_get_read items (length items) at x refl within read) clone)

-- what is read at the place that it was put at is its own
pub own_read :
    {T : Type 0} (is_clone : T → T → Type 0) (items edited : List T) (at : ℕ) (x v : T) → at < length items
    → IsOwn is_clone items at x → edited ≡ set items at x → v ≡ get_or edited at v → IsOwn is_clone items at v
own_read is_clone items edited at x v within own put read =
    let same : x ≡ v =
    sym (read ∙ ap (λ zs. get_or zs at v) put ∙ get_or-set_same items at x v within)
    in
    subst (IsOwn is_clone items at) same own

-- what a list is seen as, once an element of it was written
pub written :
    {T : Type 0} (items edited : List T) (x : T) (logs : List (Log T)) (old : Versions T) (at : ℕ) (w : T)
    → edited ≡ set items at x → items ≡ old.items → versions (set items at w) logs ≡ old.before
    → Path
    (Versions T) (record { items = set edited at w; before = versions (set edited at w) logs })
    (record { items = set old.items at w; before = old.before })
written items edited x logs old at w put same before =
    let again : set edited at w ≡ set items at w = rw put (set-set items at x w) in
    rw again (λ k. record { items = set (same k) at w; before = before k })
