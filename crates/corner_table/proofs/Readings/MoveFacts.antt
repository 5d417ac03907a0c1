-- Which attributes have other values than at another time.
use Rattle.std.proofs.Common.{◌≡◌, ◌⊎◌, ◌∙◌, ◌<◌, ◌≤◌, ℕ, ◌+◌, List, [], ◌∷◌, ◌++◌, length, take, get_or, All, pos, Some, None, refl, sym, ap, subst, arith, inl, inr}
use Rattle.std.specs.Prelude.{Contains, slice_get, slice_index_or}
use Rattle.std.specs.declared.option.Option.{Option}
use Rattle.std.specs.Option.{unwrap_or}
use Rattle.std.proofs.lemmas.Bool.{cases_eq, cases_lt}
use Rattle.std.proofs.lemmas.List.{take_more}
use Rattle.std.proofs.lemmas.List.Elements.{All-push, Contains-append_left, Contains-push, Contains-push_cases}
use Rattle.std.proofs.lemmas.Option.{get_or_from_slice_get, slice_get-get_or, slice_get_past, unwrap_or-slice_get}
use Rattle.problem_core.specs.Layout.{HasStay}
use Rattle.problem_core.specs.Window.{zero_fraction}
use Rattle.problem_core.specs.declared.parts.Rel.TheVariants.{Eq}
use Rattle.corner_view.specs.declared.types.Owner.{Owner}
use Rattle.corner_view.specs.declared.types.Owner.TheVariants.{Level as LevelSlot, Attr as AttrSlot, Line as LineSlot}
use Rattle.corner_table.specs.declared.table.Slot.{Slot}
use Rattle.corner_table.specs.declared.table.Standing.{Standing}
use Rattle.corner_table.specs.declared.table.Priority.{Priority}
use Rattle.corner_table.specs.declared.table.Table.{Table}
use Rattle.row_core.specs.Rows.{Term}
use Rattle.problem_core.specs.Layout.{Row}
use Rattle.problem_core.specs.declared.parts.Stay.{Stay}
use Rattle.corner_table.specs.declared.table.TheConstants.{LEVELS}
use Rattle.corner_table.specs.Tables.{Lists, attr_slot, slot_at, standing_at}
use Rattle.corner_table.specs.Histories.{AreAlike, lists_before, side_by_side}
use Rattle.corner_table.specs.Kept.{AreSlots, IsAttrSlot, IsOwned}
use Rattle.frac_core.specs.Fraction.{Fraction}
use Rattle.corner_view.specs.Moves.{AreMoved, HasMoved, HasStayed, Shows}
use Rattle.corner_table.specs.Moves.{HasOwnValue, HasValue, HaveOtherSlots, IsListed, IsListedOrStayed, Keeps, marked_of}
use Rattle.corner_table.proofs.Readings.SlotFacts.{any_is}

-- ---- past the end

abbrev empty-slot : Slot
empty-slot = record {
  owner = LevelSlot;
  home = 0;
  rank = 0;
  weight = pos 1;
  scale = pos 1;
  rel = Eq;
}

abbrev empty-standing : Standing
empty-standing = record { side = None; value = zero_fraction }

get-none : {X : Type 0} (xs : List X) (i : ℕ) (d : X) → slice_get xs i ≡ None → get_or xs i d ≡ d
get-none xs i d none = sym (unwrap_or-slice_get xs i d) ∙ ap (λ o. unwrap_or o d) none

get-same : {X : Type 0} (xs ys : List X) (i : ℕ) (d : X) → slice_get xs i ≡ slice_get ys i → get_or xs i d ≡ get_or ys i d
get-same xs ys i d same =
    sym (unwrap_or-slice_get xs i d) ∙ ap (λ o. unwrap_or o d) same ∙ unwrap_or-slice_get ys i d

-- ---- slots of attributes

no-attr : (o : Owner) (attr : ℕ) → o ≡ LevelSlot → o ≡ AttrSlot attr → ⊥
no-attr o attr level own = cc

-- a slot that says so is the attribute's
pub own_stay :
    (t : Lists) (attr w : ℕ) → AreSlots t → (slot_at t w).owner ≡ AttrSlot attr
    → HasStay t.stays attr × (attr_slot t attr ≡ w)
own_stay t attr w slots own =
    let within : w < length t.slots =
    elim (cases_lt w (length t.slots)) [
      | inl inside ↦ inside
      | inr past ↦
          let none : (slot_at t w).owner ≡ LevelSlot =
          ap (λ (s : Slot). s.owner) (get-none t.slots w empty-slot (slice_get_past t.slots w past)) in
          absurd (no-attr (slot_at t w).owner attr none own)
    ] in
    let above : LEVELS ≤ w =
    elim (cases_lt w LEVELS) [
      | inl low ↦ absurd (no-attr (slot_at t w).owner attr (slots.level_owners w low) own)
      | inr high ↦ high
    ] in
    subst (λ (o : Owner). IsOwned t w o) own (slots.owners w (above, within))

-- an attribute has a slot, which says so
pub slot_of : (t : Lists) (attr : ℕ) → AreSlots t → HasStay t.stays attr → IsAttrSlot t attr
slot_of t attr slots has =
    any_is (λ s. IsAttrSlot t s.attr) (λ s. s.attr ≡ attr) t.stays slots.attrs has
    (λ s k e. subst (λ (a : ℕ). IsAttrSlot t a) e k)

-- ---- what is found of an attribute

pub record IsFound (t : Lists) (attr w : ℕ) (slot : Slot) (s : Standing) : Type 0 where
  pub at : attr_slot t attr ≡ w
  pub there : slice_get t.slots w ≡ Some slot
  pub own : slot.owner ≡ AttrSlot attr
  pub stands : slice_get t.standings w ≡ Some s

pub value_found :
    (t : Lists) (attr : ℕ) → AreSlots t → HasStay t.stays attr
    → IsFound t attr (attr_slot t attr) (slot_at t (attr_slot t attr)) (standing_at t (attr_slot t attr))
value_found t attr slots has =
    let is = slot_of t attr slots has in record {
      at = refl;
      there = slice_get-get_or t.slots (attr_slot t attr) empty-slot is.slot.1;
      own = is.owner;
      stands = slice_get-get_or t.standings (attr_slot t attr) empty-standing (omega (arith, is.slot.1, slots.standings));
    }

none-some : {A : Type 0} (o : Option A) (x : A) → o ≡ None → o ≡ Some x → ⊥
none-some o x none some = cc

same-some : {A : Type 0} (o : Option A) (x y : A) → o ≡ Some x → o ≡ Some y → x ≡ y
same-some o x y a b = cc

-- without a slot there is no value
pub no_slot :
    (t : Lists) (attr w : ℕ) → AreSlots t → w ≡ attr_slot t attr → slice_get t.slots w ≡ None
    → Shows HasValue t attr None
no_slot t attr w slots at none = λ f has.
    let found = value_found t attr slots has.0 in
    none-some (slice_get t.slots w) (slot_at t (attr_slot t attr)) none
    (subst (λ (v : ℕ). slice_get t.slots v ≡ Some (slot_at t (attr_slot t attr))) (sym at) found.there)

-- where the slot isn't the attribute's
pub no_owner :
    (t : Lists) (attr w : ℕ) (slot : Slot) → AreSlots t → w ≡ attr_slot t attr
    → slice_get t.slots w ≡ Some slot → (slot.owner ≡ AttrSlot attr → ⊥) → Shows HasValue t attr None
no_owner t attr w slot slots at there other = λ f has.
    let found = value_found t attr slots has.0 in
    let one : slot ≡ slot_at t (attr_slot t attr) =
    same-some (slice_get t.slots w) slot (slot_at t (attr_slot t attr)) there
    (subst (λ (v : ℕ). slice_get t.slots v ≡ Some (slot_at t (attr_slot t attr))) (sym at) found.there) in
    other (ap (λ (x : Slot). x.owner) one ∙ found.own)

-- without a value there
pub no_standing :
    (t : Lists) (attr w : ℕ) → AreSlots t → w ≡ attr_slot t attr → slice_get t.standings w ≡ None
    → Shows HasValue t attr None
no_standing t attr w slots at none = λ f has.
    let found = value_found t attr slots has.0 in
    none-some (slice_get t.standings w) (standing_at t (attr_slot t attr)) none
    (subst (λ (v : ℕ). slice_get t.standings v ≡ Some (standing_at t (attr_slot t attr))) (sym at) found.stands)

-- ---- what a slot has of its attribute

pub value_there :
    (t : Lists) (w : ℕ) (s : Standing) → AreSlots t → slice_get t.standings w ≡ Some s → HasOwnValue t w (Some s.value)
value_there t w s slots there = λ attr own.
    let is = own_stay t attr w slots own in (
      is.0,
      ap (λ (v : ℕ). (standing_at t v).value) is.1
          ∙ ap (λ (x : Standing). x.value) (get_or_from_slice_get t.standings w s empty-standing there),
    )

pub no_value_there : (t : Lists) (w : ℕ) → AreSlots t → slice_get t.standings w ≡ None → HasOwnValue t w None
no_value_there t w slots none = λ attr own.
    no_standing t attr w slots (sym (own_stay t attr w slots own).1) none

pub value_of_own :
    (t : Lists) (attr w : ℕ) (slot : Slot) (f : Option Fraction) → slice_get t.slots w ≡ Some slot
    → slot.owner ≡ AttrSlot attr → HasOwnValue t w f → Shows HasValue t attr f
value_of_own t attr w slot f there own has =
    has attr (ap (λ (x : Slot). x.owner) (get_or_from_slice_get t.slots w slot empty-slot there) ∙ own)

-- where all slots are the same, what is an attribute's was its
own-then :
    (old new : Lists) (attr w : ℕ) → HaveOtherSlots old new [] → (slot_at new w).owner ≡ AttrSlot attr
    → (slot_at old w).owner ≡ AttrSlot attr
own-then old new attr w others own =
    elim (others w) [
      | inl none ↦ absurd (omega (arith, none.1))
      | inr same ↦ ap (λ (x : Slot). x.owner) (get-same old.slots new.slots w empty-slot same) ∙ own
    ]

pub moved_there :
    (old new : Lists) (attr w : ℕ) (was is : Option Fraction) → HaveOtherSlots old new []
    → (slot_at new w).owner ≡ AttrSlot attr → HasOwnValue old w was → HasOwnValue new w is → (was ≡ is → ⊥)
    → HasMoved HasValue old new attr
moved_there old new attr w was is others own then now differ =
    (was, is, then attr (own-then old new attr w others own), now attr own, differ)

pub stayed_there :
    (old new : Lists) (w : ℕ) (was is : Option Fraction) → HaveOtherSlots old new [] → HasOwnValue old w was
    → HasOwnValue new w is → was ≡ is → IsListedOrStayed old new [] w
stayed_there old new w was is others then now same = λ attr own.
    inr (
      was,
      then attr (own-then old new attr w others own),
      subst (λ (f : Option Fraction). Shows HasValue new attr f) (sym same) (now attr own),
    )

-- ---- what is listed

-- past the last slot nothing is an attribute's
pub none_listed : (t : Lists) (attrs : List ℕ) (w : ℕ) → slice_get t.slots w ≡ None → IsListed t attrs w
none_listed t attrs w none = λ attr own.
    let level : (slot_at t w).owner ≡ LevelSlot =
    ap (λ (s : Slot). s.owner) (get-none t.slots w empty-slot none) in
    absurd (no-attr (slot_at t w).owner attr level own)

pub one_listed :
    (t : Lists) (attrs : List ℕ) (w : ℕ) (slot : Slot) → slice_get t.slots w ≡ Some slot
    → ((attr : ℕ) → slot.owner ≡ AttrSlot attr → Contains attrs attr) → IsListed t attrs w
one_listed t attrs w slot there has = λ attr own.
    has attr (sym (ap (λ (x : Slot). x.owner) (get_or_from_slice_get t.slots w slot empty-slot there)) ∙ own)

pub of_these : {X : Type 0} (P : X → Type 0) (xs : List X) (x : X) → All P xs → Contains xs x → P x
of_these P xs x all has = subst P has.2 (all has.0 x has.1)

owner-is : (o : Owner) (attr : ℕ) → (o ≡ AttrSlot attr) ⊎ (o ≡ AttrSlot attr → ⊥)
owner-is LevelSlot attr = inr (λ own. no-attr LevelSlot attr refl own)
owner-is (AttrSlot a) attr =
    elim (cases_eq a attr) [
      | inl same ↦ inl (ap AttrSlot same)
      | inr other ↦ inr (λ own. other (attr-same a attr own))
    ]
  where
    attr-same : (a b : ℕ) → AttrSlot a ≡ AttrSlot b → a ≡ b
    attr-same a b e = cc
owner-is (LineSlot name) attr = inr (λ own. line-no-attr own)
  where
    line-no-attr : LineSlot name ≡ AttrSlot attr → ⊥
    line-no-attr own = cc

same-slot : (old new : Lists) (w : ℕ) → slice_get old.slots w ≡ slice_get new.slots w → slot_at old w ≡ slot_at new w
same-slot old new w same =
    get-same old.slots new.slots w empty-slot same

same-standing :
    (old new : Lists) (w : ℕ) → slice_get old.standings w ≡ slice_get new.standings w → standing_at old w ≡ standing_at new w
same-standing old new w same =
    get-same old.standings new.standings w empty-standing same

stayed-here :
    (old new : Lists) (attr w : ℕ) → AreSlots old → AreSlots new → attr_slot new attr ≡ w
    → (slot_at new w).owner ≡ AttrSlot attr → slot_at old w ≡ slot_at new w → standing_at old w ≡ standing_at new w
    → HasStayed HasValue old new attr
stayed-here old new attr w slots_old slots_new at own slot standing =
    let then = own_stay old attr w slots_old (ap (λ (x : Slot). x.owner) slot ∙ own) in
    let now = own_stay new attr w slots_new own in (
      Some (standing_at new w).value,
      (then.0, ap (λ (v : ℕ). (standing_at old v).value) then.1 ∙ ap (λ (x : Standing). x.value) standing),
      (now.0, ap (λ (v : ℕ). (standing_at new v).value) now.1),
    )

-- where other slots and values stand at the listed places alone, an attribute is listed or has stayed
pub one_or_stayed :
    (old new : Lists) (attrs slots standings : List ℕ) → AreSlots old → AreSlots new
    → HaveOtherSlots old new slots
    → ((w : ℕ) → Contains standings w ⊎ (slice_get old.standings w ≡ slice_get new.standings w))
    → All (IsListed new attrs) slots → All (IsListed old attrs) slots → All (IsListedOrStayed old new attrs) standings
    → (attr : ℕ) → Contains attrs attr ⊎ HasStayed HasValue old new attr
one_or_stayed old new attrs slots standings slots_old slots_new at_slots at_standings now then now_too attr =
    elim (owner-is (slot_at new (attr_slot new attr)).owner attr) [
      | inl own ↦
          elim (at_slots (attr_slot new attr)) [
            | inl listed ↦ inl (of_these (IsListed new attrs) slots (attr_slot new attr) now listed attr own)
            | inr slot ↦
                elim (at_standings (attr_slot new attr)) [
                  | inl listed ↦ of_these (IsListedOrStayed old new attrs) standings (attr_slot new attr) now_too listed attr own
                  | inr standing ↦
                      inr
                      (stayed-here old new attr (attr_slot new attr) slots_old slots_new refl own
                      (same-slot old new (attr_slot new attr) slot) (same-standing old new (attr_slot new attr) standing))
                ]
          ]
      | inr none ↦
          elim (owner-is (slot_at old (attr_slot old attr)).owner attr) [
            | inl own ↦
                elim (at_slots (attr_slot old attr)) [
                  | inl listed ↦ inl (of_these (IsListed old attrs) slots (attr_slot old attr) then listed attr own)
                  | inr slot ↦
                      let there : (slot_at new (attr_slot old attr)).owner ≡ AttrSlot attr =
                      ap (λ (x : Slot). x.owner) (sym (same-slot old new (attr_slot old attr) slot)) ∙ own in
                      let at = (own_stay new attr (attr_slot old attr) slots_new there).1 in
                      absurd (none (subst (λ (v : ℕ). (slot_at new v).owner ≡ AttrSlot attr) (sym at) there))
                ]
            | inr none_old ↦
                inr (None, (λ f has. none_old (slot_of old attr slots_old has.0).owner), (λ f has. none (slot_of new attr slots_new has.0).owner))
          ]
    ]

listed-more :
    (t : Lists) (attrs more : List ℕ) (places : List ℕ) (i : ℕ) → i < length places → Keeps attrs more
    → All (IsListed t attrs) (take i places) → IsListed t more (get_or places i 0)
    → All (IsListed t more) (take (i + 1) places)
listed-more t attrs more places i within keeps before here =
    subst (All (IsListed t more)) (sym (take_more places i 0 within))
    (All-push (IsListed t more) (take i places) (get_or places i 0)
    (λ k d inside attr own. keeps attr (before k d inside attr own)) here)

-- after one place more
pub record AreListed (now then : Lists) (first attrs : List ℕ) (places : List ℕ) : Type 0 where
  pub keeps : Keeps first attrs
  pub now_listed : All (IsListed now attrs) places
  pub then_listed : All (IsListed then attrs) places

pub next_listed :
    (now then : Lists) (first attrs mid more : List ℕ) (places : List ℕ) (i : ℕ) → i < length places
    → AreListed now then first attrs (take i places) → Keeps attrs mid → IsListed now mid (get_or places i 0)
    → Keeps mid more → IsListed then more (get_or places i 0)
    → AreListed now then first more (take (i + 1) places)
next_listed now then first attrs mid more places i within are to_mid here to_more here_then = record {
  keeps = λ x has. to_more x (to_mid x (are.keeps x has));
  now_listed = listed-more now attrs more places i within (λ x has. to_more x (to_mid x has)) are.now_listed
      (λ attr own. to_more attr (here attr own));
  then_listed = listed-more then attrs more places i within (λ x has. to_more x (to_mid x has)) are.then_listed here_then;
}

pub still_listed :
    (t : Lists) (attrs more : List ℕ) (places : List ℕ) → Keeps attrs more → All (IsListed t attrs) places
    → All (IsListed t more) places
still_listed t attrs more places keeps all = λ k d within attr own. keeps attr (all k d within attr own)

-- ---- what has moved among these

pub record AreMovedOf (old new : Lists) (tried out : List ℕ) : Type 0 where
  pub moved : All (HasMoved HasValue old new) out
  pub others : (x : ℕ) → Contains tried x → Contains out x ⊎ HasStayed HasValue old new x

pub next_moved :
    (old new : Lists) (tried out : List ℕ) (i : ℕ) → i < length tried → AreMovedOf old new (take i tried) out
    → HasMoved HasValue old new (get_or tried i 0)
    → AreMovedOf old new (take (i + 1) tried) (out ++ get_or tried i 0 ∷ [])
next_moved old new tried out i within are moves = record {
  moved = All-push (HasMoved HasValue old new) out (get_or tried i 0) are.moved moves;
  others = λ x has.
      elim (Contains-push_cases (take i tried) (get_or tried i 0) x (subst (λ (xs : List ℕ). Contains xs x) (take_more tried i 0 within) has)) [
        | inl before ↦
            elim (are.others x before) [
              | inl one ↦ inl (Contains-append_left out (get_or tried i 0 ∷ []) x one)
              | inr stayed ↦ inr stayed
            ]
        | inr last ↦ inl (subst (Contains (out ++ get_or tried i 0 ∷ [])) last (Contains-push out (get_or tried i 0)))
      ];
}

pub next_stayed :
    (old new : Lists) (tried out : List ℕ) (i : ℕ) → i < length tried → AreMovedOf old new (take i tried) out
    → HasStayed HasValue old new (get_or tried i 0)
    → AreMovedOf old new (take (i + 1) tried) out
next_stayed old new tried out i within are stays = record {
  moved = are.moved;
  others = λ x has.
      elim (Contains-push_cases (take i tried) (get_or tried i 0) x (subst (λ (xs : List ℕ). Contains xs x) (take_more tried i 0 within) has)) [
        | inl before ↦ are.others x before
        | inr last ↦ inr (subst (HasStayed HasValue old new) last stays)
      ];
}

pub all_moved :
    (old new : Lists) (tried out : List ℕ) → AreMovedOf old new tried out
    → ((x : ℕ) → Contains tried x ⊎ HasStayed HasValue old new x) → AreMoved HasValue old new out
all_moved old new tried out are each = record {
  moved = are.moved;
  others = λ x.
      elim (each x) [
        | inl one ↦ are.others x one
        | inr stayed ↦ inr stayed
      ];
}

-- ---- what has moved at these places

pub record AreMovedAt (old new : Lists) (out places : List ℕ) : Type 0 where
  pub moved : All (HasMoved HasValue old new) out
  pub stayed : All (IsListedOrStayed old new out) places

-- after one place more, whose attribute may have come
pub next_place :
    (old new : Lists) (out more places : List ℕ) (i : ℕ) → i < length places → AreMovedAt old new out (take i places)
    → Keeps out more → All (HasMoved HasValue old new) more → IsListedOrStayed old new more (get_or places i 0)
    → AreMovedAt old new more (take (i + 1) places)
next_place old new out more places i within are keeps moved here = record {
  moved = moved;
  stayed = subst (All (IsListedOrStayed old new more)) (sym (take_more places i 0 within))
      (All-push (IsListedOrStayed old new more) (take i places) (get_or places i 0)
      (λ k d inside attr own.
      elim (are.stayed k d inside attr own) [
        | inl one ↦ inl (keeps attr one)
        | inr stays ↦ inr stays
      ])
      here);
}

own-same : (o : Owner) (a b : ℕ) → o ≡ AttrSlot a → o ≡ AttrSlot b → a ≡ b
own-same o a b one other = cc

pub next_came :
    (old new : Lists) (out places : List ℕ) (i attr : ℕ) → i < length places → AreMovedAt old new out (take i places)
    → (slot_at new (get_or places i 0)).owner ≡ AttrSlot attr → HasMoved HasValue old new attr
    → AreMovedAt old new (out ++ attr ∷ []) (take (i + 1) places)
next_came old new out places i attr within are own moves =
    next_place old new out (out ++ attr ∷ []) places i within are (λ x has. Contains-append_left out (attr ∷ []) x has)
    (All-push (HasMoved HasValue old new) out attr are.moved moves)
    (λ a its.
    inl
    (subst (Contains (out ++ attr ∷ [])) (own-same (slot_at new (get_or places i 0)).owner attr a own its)
    (Contains-push out attr)))

pub next_kept :
    (old new : Lists) (out places : List ℕ) (i : ℕ) → i < length places → AreMovedAt old new out (take i places)
    → IsListedOrStayed old new [] (get_or places i 0) → AreMovedAt old new out (take (i + 1) places)
next_kept old new out places i within are here =
    next_place old new out out places i within are (λ x has. has) are.moved
    (λ attr own.
    elim (here attr own) [
      | inl none ↦ absurd (omega (arith, none.1))
      | inr stays ↦ inr stays
    ])

-- where the other values stand at these places alone
pub all_there :
    (old new : Lists) (out places : List ℕ) → AreSlots old → AreSlots new → HaveOtherSlots old new []
    → ((w : ℕ) → Contains places w ⊎ (slice_get old.standings w ≡ slice_get new.standings w))
    → AreMovedAt old new out places → AreMoved HasValue old new out
all_there old new out places slots_old slots_new others at_places are = record {
  moved = are.moved;
  others = one_or_stayed old new out [] places slots_old slots_new others at_places (λ k d none. absurd (omega (arith, none)))
      (λ k d none. absurd (omega (arith, none))) are.stayed;
}

-- ---- the newest mark

first-lists :
    (rs : List (List Row)) (ss : List (List Stay)) (ls : List (List Slot)) (vs : List (List Standing)) (ms : List (List (List Term)))
    (bs ds : List (List ℕ)) (ps : List (List Priority))
    → 0 < length rs → length ss ≡ length rs → length ls ≡ length rs → length vs ≡ length rs → length ms ≡ length rs
    → length bs ≡ length rs → length ds ≡ length rs → length ps ≡ length rs
    → (rest : List Lists) × (side_by_side rs ss ls vs ms bs ds ps ≡ record {
      rows = slice_index_or rs 0 [];
      stays = slice_index_or ss 0 [];
      slots = slice_index_or ls 0 [];
      standings = slice_index_or vs 0 [];
      matrix = slice_index_or ms 0 [];
      attr_slots = slice_index_or bs 0 [];
      row_slots = slice_index_or ds 0 [];
      priorities = slice_index_or ps 0 [];
    } ∷ rest)
first-lists [] ss ls vs ms bs ds ps some e1 e2 e3 e4 e5 e6 e7 = absurd (omega (arith, some))
first-lists (r ∷ rs) [] ls vs ms bs ds ps some e1 e2 e3 e4 e5 e6 e7 = absurd (omega (arith, e1))
first-lists (r ∷ rs) (s ∷ ss) [] vs ms bs ds ps some e1 e2 e3 e4 e5 e6 e7 = absurd (omega (arith, e2))
first-lists (r ∷ rs) (s ∷ ss) (l ∷ ls) [] ms bs ds ps some e1 e2 e3 e4 e5 e6 e7 = absurd (omega (arith, e3))
first-lists (r ∷ rs) (s ∷ ss) (l ∷ ls) (v ∷ vs) [] bs ds ps some e1 e2 e3 e4 e5 e6 e7 = absurd (omega (arith, e4))
first-lists (r ∷ rs) (s ∷ ss) (l ∷ ls) (v ∷ vs) (m ∷ ms) [] ds ps some e1 e2 e3 e4 e5 e6 e7 = absurd (omega (arith, e5))
first-lists (r ∷ rs) (s ∷ ss) (l ∷ ls) (v ∷ vs) (m ∷ ms) (b ∷ bs) [] ps some e1 e2 e3 e4 e5 e6 e7 = absurd (omega (arith, e6))
first-lists (r ∷ rs) (s ∷ ss) (l ∷ ls) (v ∷ vs) (m ∷ ms) (b ∷ bs) (d ∷ ds) [] some e1 e2 e3 e4 e5 e6 e7 = absurd (omega (arith, e7))
first-lists (r ∷ rs) (s ∷ ss) (l ∷ ls) (v ∷ vs) (m ∷ ms) (b ∷ bs) (d ∷ ds) (p ∷ ps) some e1 e2 e3 e4 e5 e6 e7 =
    (side_by_side rs ss ls vs ms bs ds ps, refl)

-- the lists at the newest mark are the first of the earlier ones
pub first_before :
    (t : Table) → AreAlike t → 0 < length t.rows.before → (rest : List Lists) × (lists_before t ≡ marked_of t ∷ rest)
first_before t alike some =
    first-lists t.rows.before t.stays.before t.slots.before t.standings.before t.matrix.before t.attr_slots.before t.row_slots.before
    t.priorities.before some alike.stays alike.slots alike.standings alike.matrix alike.attr_slots alike.row_slots alike.priorities
