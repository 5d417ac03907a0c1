-- Items of the code that leave, one after the other.
use Rattle.std.proofs.Common.{◌≡◌, ◌||◌, ℕ, zero, suc, ◌+◌, ◌<◌, ◌≤◌, Some, Bool, true, false, cond, not, List, [], ◌∷◌, ◌++◌, drop, filter, length, take, get_or, slice_get, refl, sym, ap, subst, ◌∙◌, append_assoc, true≢false, arith}
use Rattle.std.proofs.lemmas.List.{append-nil, drop_all, take_all, take_more}
use Rattle.std.proofs.lemmas.Option.{same_Some}
use Rattle.std.specs.List.{list_any, remove}
use Rattle.held_items.specs.declared.item.Item as declared
use Rattle.held_items.specs.Attributes.{view_attributes}
use Rattle.held_items.specs.Items.{Item}
use Rattle.held_items.specs.Kept.{item_of, items_of}
use Rattle.held_items.specs.Leaving.{attributes_in, item_numbers, numbers_of, staying}
use Rattle.held_items.proofs.HeldRows.ItemRows.{line-more}

module _ (goes : Item → Bool) where
  any-last : (held : List Item) (item : Item) → list_any goes held ≡ false → list_any goes (held ++ item ∷ []) ≡ (goes item || false)
  any-last [] item none = refl
  any-last (x ∷ held) item none = by (goes x) none (any-last held item)
    where
      by : (b : Bool) → (b || list_any goes held) ≡ false → (list_any goes held ≡ false → list_any goes (held ++ item ∷ []) ≡ (goes item || false)) → (b || list_any goes (held ++ item ∷ [])) ≡ (goes item || false)
      by true h rest = absurd (true≢false h)
      by false h rest = rest h

  or-false : (b : Bool) → (b || false) ≡ b
  or-false true = refl
  or-false false = refl

  pub any-next : (items : List declared.Item) (i : ℕ) (item : declared.Item) → i < length items → item ≡ get_or items i item → list_any goes (items_of (take i items)) ≡ false
      → list_any goes (items_of (take (i + 1) items)) ≡ goes (item_of item)
  any-next items i item within read none = ap (list_any goes) (line-more items i item within read) ∙ any-last (items_of (take i items)) (item_of item) none ∙ or-false (goes (item_of item))

  any-here : (held more : List Item) (item : Item) → goes item ≡ true → list_any goes (held ++ item ∷ more) ≡ true
  any-here [] more item is = ap (λ b. b || list_any goes more) is
  any-here (x ∷ held) more item is = by (goes x) (any-here held more item is)
    where
      by : (b : Bool) → list_any goes (held ++ item ∷ more) ≡ true → (b || list_any goes (held ++ item ∷ more)) ≡ true
      by true h = refl
      by false h = h

  pub any-at : (items : List declared.Item) (i : ℕ) (item : declared.Item) → i < length items → item ≡ get_or items i item → goes (item_of item) ≡ true → list_any goes (items_of items) ≡ true
  any-at [] i item within read is = absurd (omega (arith, within))
  any-at (x ∷ items) zero item within read is = ap (λ b. b || list_any goes (items_of items)) (sym (ap (λ (y : declared.Item). goes (item_of y)) read) ∙ is)
  any-at (x ∷ items) (suc i) item within read is = by (goes (item_of x)) (any-at items i item (omega (arith, within)) read is)
    where
      by : (b : Bool) → list_any goes (items_of items) ≡ true → (b || list_any goes (items_of items)) ≡ true
      by true h = refl
      by false h = h

  numbers-last : (held : List Item) (item : Item) → numbers_of goes (held ++ item ∷ []) ≡ numbers_of goes held ++ cond (goes item) (item_numbers item) []
  numbers-last [] item = append-nil (cond (goes item) (item_numbers item) [])
  numbers-last (x ∷ held) item =
      ap (λ ns. cond (goes x) (item_numbers x) [] ++ ns) (numbers-last held item)
      ∙ sym (append_assoc (cond (goes x) (item_numbers x) []) (numbers_of goes held) (cond (goes item) (item_numbers item) []))

  numbers-next : (items : List declared.Item) (i : ℕ) (item : declared.Item) → i < length items → item ≡ get_or items i item
      → numbers_of goes (items_of (take (i + 1) items)) ≡ numbers_of goes (items_of (take i items)) ++ cond (goes (item_of item)) (item_numbers (item_of item)) []
  numbers-next items i item within read = ap (numbers_of goes) (line-more items i item within read) ∙ numbers-last (items_of (take i items)) (item_of item)

  pub numbers-go : (items : List declared.Item) (i : ℕ) (item : declared.Item) (old new : List ℕ) → i < length items → item ≡ get_or items i item → old ≡ numbers_of goes (items_of (take i items)) → goes (item_of item) ≡ true
      → new ≡ old ++ item_numbers (item_of item) → new ≡ numbers_of goes (items_of (take (i + 1) items))
  numbers-go items i item old new within read before is pushed =
      pushed ∙ ap (λ ns. ns ++ item_numbers (item_of item)) before ∙ ap (λ b. numbers_of goes (items_of (take i items)) ++ cond b (item_numbers (item_of item)) []) (sym is) ∙ sym (numbers-next items i item within read)

  pub numbers-stay : (items : List declared.Item) (i : ℕ) (item : declared.Item) (old new : List ℕ) → i < length items → item ≡ get_or items i item → old ≡ numbers_of goes (items_of (take i items)) → goes (item_of item) ≡ false
      → new ≡ old → new ≡ numbers_of goes (items_of (take (i + 1) items))
  numbers-stay items i item old new within read before is same =
      same ∙ before ∙ sym (append-nil (numbers_of goes (items_of (take i items)))) ∙ ap (λ b. numbers_of goes (items_of (take i items)) ++ cond b (item_numbers (item_of item)) []) (sym is) ∙ sym (numbers-next items i item within read)

  -- ---- from the last item to the first

  -- what stays, where the items from this place on were looked at
  abbrev pub left_at : ℕ → List declared.Item → List declared.Item
  left_at n items = take n items ++ filter (λ item. not (goes (item_of item))) (drop n items)

  pub left-all : (items : List declared.Item) (n : ℕ) → n ≡ length items → items ≡ left_at n items
  left-all items n all =
      sym (ap (λ (ys : List declared.Item). take n items ++ filter (λ item. not (goes (item_of item))) ys) (drop_all n items (omega (arith, all)))
      ∙ append-nil (take n items) ∙ take_all n items (omega (arith, all)))

  read-is : (items rest : List declared.Item) (k : ℕ) (item : declared.Item) → k < length items → slice_get (take (suc k) items ++ rest) k ≡ Some item → drop k items ≡ item ∷ drop (suc k) items
  read-is [] rest k item within read = absurd (omega (arith, within))
  read-is (x ∷ items) rest zero item within read = ap (λ (y : declared.Item). y ∷ items) (same_Some x item read)
  read-is (x ∷ items) rest (suc k) item within read = read-is items rest k item (omega (arith, within)) read

  last-is : (items rest : List declared.Item) (k : ℕ) (item : declared.Item) → k < length items → slice_get (take (suc k) items ++ rest) k ≡ Some item → take (suc k) items ++ rest ≡ take k items ++ item ∷ rest
  last-is [] rest k item within read = absurd (omega (arith, within))
  last-is (x ∷ items) rest zero item within read = ap (λ (y : declared.Item). y ∷ rest) (same_Some x item read)
  last-is (x ∷ items) rest (suc k) item within read = ap (λ (ys : List declared.Item). x ∷ ys) (last-is items rest k item (omega (arith, within)) read)

  without-last : (items rest : List declared.Item) (k : ℕ) → k < length items → remove (take (suc k) items ++ rest) k ≡ take k items ++ rest
  without-last [] rest k within = absurd (omega (arith, within))
  without-last (x ∷ items) rest zero within = refl
  without-last (x ∷ items) rest (suc k) within = ap (λ (ys : List declared.Item). x ∷ ys) (without-last items rest k (omega (arith, within)))

  behind : (items : List declared.Item) (k : ℕ) (item : declared.Item) (b : Bool) → drop k items ≡ item ∷ drop (suc k) items → goes (item_of item) ≡ b
      → filter (λ x. not (goes (item_of x))) (drop k items) ≡ cond (not b) (item ∷ filter (λ x. not (goes (item_of x))) (drop (suc k) items)) (filter (λ x. not (goes (item_of x))) (drop (suc k) items))
  behind items k item b read is =
      ap (filter (λ x. not (goes (item_of x)))) read
      ∙ ap (λ (b : Bool). cond (not b) (item ∷ filter (λ x. not (goes (item_of x))) (drop (suc k) items)) (filter (λ x. not (goes (item_of x))) (drop (suc k) items))) is

  pub left-go : (items now : List declared.Item) (n k : ℕ) (item : declared.Item) → n ≡ suc k → n ≤ length items → now ≡ left_at n items → slice_get now k ≡ Some item → goes (item_of item) ≡ true → remove now k ≡ left_at k items
  left-go items now n k item next within before read is =
      let within' : k < length items = omega (arith, within, next) in
      let rest : List declared.Item = filter (λ x. not (goes (item_of x))) (drop (suc k) items) in
      let before' : now ≡ take (suc k) items ++ rest = before ∙ ap (λ (m : ℕ). left_at m items) next in
      let found : drop k items ≡ item ∷ drop (suc k) items = read-is items rest k item within' (subst (λ (ys : List declared.Item). slice_get ys k ≡ Some item) before' read) in
      ap (λ (ys : List declared.Item). remove ys k) before'
      ∙ without-last items rest k within'
      ∙ ap (λ (ys : List declared.Item). take k items ++ ys) (sym (behind items k item true found is))

  pub left-stay : (items now : List declared.Item) (n k : ℕ) (item : declared.Item) → n ≡ suc k → n ≤ length items → now ≡ left_at n items → slice_get now k ≡ Some item → goes (item_of item) ≡ false → now ≡ left_at k items
  left-stay items now n k item next within before read is =
      let within' : k < length items = omega (arith, within, next) in
      let rest : List declared.Item = filter (λ x. not (goes (item_of x))) (drop (suc k) items) in
      let before' : now ≡ take (suc k) items ++ rest = before ∙ ap (λ (m : ℕ). left_at m items) next in
      let read' : slice_get (take (suc k) items ++ rest) k ≡ Some item = subst (λ (ys : List declared.Item). slice_get ys k ≡ Some item) before' read in
      before'
      ∙ last-is items rest k item within' read'
      ∙ ap (λ (ys : List declared.Item). take k items ++ ys) (sym (behind items k item false (read-is items rest k item within' read') is))

  pub staying-is : (items : List declared.Item) → items_of (filter (λ item. not (goes (item_of item))) items) ≡ staying goes (items_of items)
  staying-is [] = refl
  staying-is (x ∷ items) = by (goes (item_of x)) (staying-is items)
    where
      by : (b : Bool) → items_of (filter (λ item. not (goes (item_of item))) items) ≡ staying goes (items_of items)
          → items_of (cond (not b) (x ∷ filter (λ item. not (goes (item_of item))) items) (filter (λ item. not (goes (item_of item))) items)) ≡ cond (not b) (item_of x ∷ staying goes (items_of items)) (staying goes (items_of items))
      by true h = h
      by false h = ap (λ (is : List Item). item_of x ∷ is) h

-- ---- attributes, one view after the other

attributes-append : (xs ys : List ℕ) → attributes_in (xs ++ ys) ≡ attributes_in xs ++ attributes_in ys
attributes-append [] ys = refl
attributes-append (x ∷ xs) ys = ap (λ ns. view_attributes x ++ ns) (attributes-append xs ys)

pub attributes-next : (gone : List ℕ) (i d : ℕ) (old new : List ℕ) → i < length gone → old ≡ attributes_in (take i gone) → new ≡ old ++ view_attributes (get_or gone i d) → new ≡ attributes_in (take (i + 1) gone)
attributes-next gone i d old new within before pushed =
    pushed ∙ ap (λ ns. ns ++ view_attributes (get_or gone i d)) before
    ∙ sym (ap attributes_in (take_more gone i d within) ∙ attributes-append (take i gone) (get_or gone i d ∷ []))
