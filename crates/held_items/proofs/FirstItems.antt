-- The first item of some kind: what it is, and it replaced by another.
use Rattle.std.proofs.Common.{◌≡◌, ◌∙◌, ◌||◌, ℕ, zero, suc, ◌<◌, Bool, true, false, true≢false, cond, Option, None, List, [], ◌∷◌, take, length, get_or, set, refl, sym, ap, arith, All}
use Rattle.std.specs.List.{list_any, AllByRecursion as Each}
use Rattle.std.proofs.lemmas.List.Elements.{All-from_recursion, recursion_from_All}
use Rattle.held_items.specs.declared.item.Item as declared
use Rattle.held_items.specs.Items.{IsFirstPlace, Item, first_of, replaced}
use Rattle.held_items.specs.Kept.{item_of, items_of}

module _ (is : Item → Bool) where
  pub no-first : {A : Type 0} (own : Item → Option A) (held : List Item) → list_any is held ≡ false → first_of is own held ≡ None
  no-first own [] none = refl
  no-first {A = A} own (item ∷ held) none = by (is item) none (no-first own held)
    where
      by : (b : Bool) → (b || list_any is held) ≡ false → (list_any is held ≡ false → first_of is own held ≡ None) → cond b (own item) (first_of is own held) ≡ None
      by true h rest = absurd (true≢false h)
      by false h rest = rest h

  pub unreplaced : (other : Item → Item) (held : List Item) → list_any is held ≡ false → replaced is other held ≡ held
  unreplaced other [] none = refl
  unreplaced other (item ∷ held) none = by (is item) none (unreplaced other held)
    where
      by : (b : Bool) → (b || list_any is held) ≡ false → (list_any is held ≡ false → replaced is other held ≡ held)
          → cond b (other item ∷ held) (item ∷ replaced is other held) ≡ item ∷ held
      by true h rest = absurd (true≢false h)
      by false h rest = ap (λ (xs : List Item). item ∷ xs) (rest h)

  -- the first of the kind stands at this place
  pub first-at : (items : List declared.Item) (i : ℕ) (item : declared.Item) → i < length items → item ≡ get_or items i item → list_any is (items_of (take i items)) ≡ false → is (item_of item) ≡ true
      → IsFirstPlace is (items_of items) i
  first-at [] i item within read none own_is = absurd (omega (arith, within))
  first-at (x ∷ items) zero item within read none own_is = sym (ap (λ (y : declared.Item). is (item_of y)) read) ∙ own_is
  first-at (x ∷ items) (suc i) item within read none own_is =
      elim (is (item_of x)) as (λ b. (b || list_any is (items_of (take i items))) ≡ false → (b ≡ false) × IsFirstPlace is (items_of items) i) [
        | true ↦ λ e. absurd (true≢false e)
        | false ↦ λ e. (refl, first-at items i item (omega (arith, within)) read e own_is)
      ] none

  -- it is one of the items
  pub first-within : (items : List declared.Item) (i : ℕ) → IsFirstPlace is (items_of items) i → i < length items
  first-within [] i at = absurd at
  first-within (x ∷ items) zero at = omega arith
  first-within (x ∷ items) (suc i) at = omega (arith, first-within items i at.1)

  pub first-any : (held : List Item) (i : ℕ) → IsFirstPlace is held i → list_any is held ≡ true
  first-any [] i at = absurd at
  first-any (item ∷ held) zero at = ap (λ (b : Bool). b || list_any is held) at
  first-any (item ∷ held) (suc i) at = ap (λ (b : Bool). b || list_any is held) at.0 ∙ first-any held i at.1

  -- what the first of the kind is
  pub first-is : {A : Type 0} (own : Item → Option A) (items : List declared.Item) (i : ℕ) (item : declared.Item) → IsFirstPlace is (items_of items) i → item ≡ get_or items i item
      → first_of is own (items_of items) ≡ own (item_of item)
  first-is own [] i item at read = absurd at
  first-is own (x ∷ items) zero item at read =
      ap (λ (b : Bool). cond b (own (item_of x)) (first_of is own (items_of items))) at ∙ sym (ap (λ (y : declared.Item). own (item_of y)) read)
  first-is own (x ∷ items) (suc i) item at read =
      ap (λ (b : Bool). cond b (own (item_of x)) (first_of is own (items_of items))) at.0 ∙ first-is own items i item at.1 read

  -- it is this one from now on
  pub replaced-at : (other : Item → Item) (items : List declared.Item) (i : ℕ) (item new : declared.Item) → i < length items → item ≡ get_or items i item → list_any is (items_of (take i items)) ≡ false → is (item_of item) ≡ true
      → item_of new ≡ other (item_of item) → items_of (set items i new) ≡ replaced is other (items_of items)
  replaced-at other [] i item new within read none own_is new_is = absurd (omega (arith, within))
  replaced-at other (x ∷ items) zero item new within read none own_is new_is =
      ap (λ (y : Item). y ∷ items_of items) (new_is ∙ ap (λ (y : declared.Item). other (item_of y)) read)
      ∙ ap (λ (b : Bool). cond b (other (item_of x) ∷ items_of items) (item_of x ∷ replaced is other (items_of items))) (sym own_is ∙ ap (λ (y : declared.Item). is (item_of y)) read)
  replaced-at other (x ∷ items) (suc i) item new within read none own_is new_is =
      elim (is (item_of x)) as (λ b. (b || list_any is (items_of (take i items))) ≡ false → item_of x ∷ items_of (set items i new) ≡ cond b (other (item_of x) ∷ items_of items) (item_of x ∷ replaced is other (items_of items))) [
        | true ↦ λ e. absurd (true≢false e)
        | false ↦ λ e. ap (λ (xs : List Item). item_of x ∷ xs) (replaced-at other items i item new (omega (arith, within)) read e own_is new_is)
      ] none

  -- ---- what is kept

  each-replaced : (P : Item → Type 0) (other : Item → Item) → ((item : Item) → P item → P (other item)) → (held : List Item) → Each P held → Each P (replaced is other held)
  each-replaced P other to [] each = tt
  each-replaced P other to (item ∷ held) each = elim (is item) as (λ b. Each P (cond b (other item ∷ held) (item ∷ replaced is other held))) [
    | true ↦ (to item each.0, each.1)
    | false ↦ (each.0, each-replaced P other to held each.1)
  ]

  pub all-replaced : (P : Item → Type 0) (other : Item → Item) → ((item : Item) → P item → P (other item)) → (held : List Item) → All P held → All P (replaced is other held)
  all-replaced P other to held all = All-from_recursion P (replaced is other held) (each-replaced P other to held (recursion_from_All P held all))
