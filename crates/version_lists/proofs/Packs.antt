-- Those whose slot has a place, with it.
use Rattle.std.proofs.Common.{◌≡◌, ◌≢◌, ◌∙◌, ℕ, zero, suc, ◌+◌, ◌<◌, ◌≤◌, Bool, true, false, cond, nat_eq, List, [], ◌∷◌, ◌++◌, length, get_or, take, refl, sym, ap, ap₂, subst, arith, inl, inr, ne_eqb, eq-eqb, slice_index_or, slice_set, slice_get, Some, All, take-suc-set, take_all, get_or-set_other, length-set}
use Rattle.std.proofs.lemmas.Bool.{cases_eq}
use Rattle.std.proofs.lemmas.Option.{get_or_from_slice_get, slice_get_within}
use Rattle.std.proofs.lemmas.List.{set-get_or}
use Rattle.std.proofs.lemmas.List.Elements.{All-cons, All-head, All-tail}
use Rattle.version_lists.specs.declared.slots.Numbered.{Numbered}
use Rattle.version_lists.specs.Numbers.{by_number, with_places, ArePacked, AreRenumbered, IsRising}
use Rattle.version_lists.proofs.ByNumber.{read, rising_cons, rising_head, rising_tail, slot_here, slot_in, slot_later, slot_none}

-- the number with the place of its slot
abbrev pub placed : List ℕ → Numbered → Numbered
placed places one = record { number = one.number; slot = slice_index_or places one.slot 0 }

leaves : (places : List ℕ) (one : Numbered) (rest : List Numbered) → slice_index_or places one.slot 0 ≡ 0 → with_places places (one ∷ rest) ≡ with_places places rest
leaves places one rest e =
    ap (λ (b : Bool). cond b (with_places places rest) (placed places one ∷ with_places places rest)) (eq-eqb (slice_index_or places one.slot 0) 0 e)

stays : (places : List ℕ) (one : Numbered) (rest : List Numbered) → slice_index_or places one.slot 0 ≢ 0 → with_places places (one ∷ rest) ≡ placed places one ∷ with_places places rest
stays places one rest ne =
    ap (λ (b : Bool). cond b (with_places places rest) (placed places one ∷ with_places places rest)) (ne_eqb (slice_index_or places one.slot 0) 0 ne)

-- what holds of all numbers holds of those that stay
all_placed : (P : ℕ → Type 0) (places : List ℕ) (kept : List Numbered) → All (λ one. P one.number) kept → All (λ one. P one.number) (with_places places kept)
all_placed P places [] all = all
all_placed P places (one ∷ rest) all =
    let others : All (λ one. P one.number) (with_places places rest) = all_placed P places rest (All-tail (λ one. P one.number) one rest all) in
    elim (cases_eq (slice_index_or places one.slot 0) 0) [
      | inl e ↦ subst (All (λ one. P one.number)) (sym (leaves places one rest e)) others
      | inr ne ↦
          subst (All (λ one. P one.number)) (sym (stays places one rest ne))
          (All-cons (λ one. P one.number) (placed places one) (with_places places rest) (All-head (λ one. P one.number) one rest all) others)
    ]

pub placed_rising : (places : List ℕ) (kept : List Numbered) → IsRising kept → IsRising (with_places places kept)
placed_rising places [] rising = rising
placed_rising places (one ∷ rest) rising =
    let others : IsRising (with_places places rest) = placed_rising places rest (rising_tail one rest rising) in
    elim (cases_eq (slice_index_or places one.slot 0) 0) [
      | inl e ↦ subst IsRising (sym (leaves places one rest e)) others
      | inr ne ↦
          subst IsRising (sym (stays places one rest ne))
          (rising_cons (placed places one) (with_places places rest) (all_placed (λ n. one.number < n) places rest (rising_head one rest rising)) others)
    ]

slot_placed : (places : List ℕ) (kept : List Numbered) (n : ℕ) → slice_index_or places 0 0 ≡ 0 → IsRising kept → slot_in n (with_places places kept) ≡ slice_index_or places (slot_in n kept) 0
slot_placed places [] n none rising = sym none
slot_placed places (one ∷ rest) n none rising =
    elim (cases_eq one.number n) [
      | inl here ↦
          let now : slice_index_or places (slot_in n (one ∷ rest)) 0 ≡ slice_index_or places one.slot 0 = ap (λ (s : ℕ). slice_index_or places s 0) (slot_here n one rest here) in
          elim (cases_eq (slice_index_or places one.slot 0) 0) [
            | inl e ↦
                let others : All (λ one. one.number ≢ n) rest = λ k d within same. absurd (omega (arith, rising_head one rest rising k d within, here, same)) in
                ap (slot_in n) (leaves places one rest e) ∙ slot_none n (with_places places rest) (all_placed (λ m. m ≢ n) places rest others) ∙ sym (now ∙ e)
            | inr ne ↦ ap (slot_in n) (stays places one rest ne) ∙ slot_here n (placed places one) (with_places places rest) here ∙ sym now
          ]
      | inr other ↦
          let now : slice_index_or places (slot_in n (one ∷ rest)) 0 ≡ slice_index_or places (slot_in n rest) 0 = ap (λ (s : ℕ). slice_index_or places s 0) (slot_later n one rest other) in
          let rests : slot_in n (with_places places rest) ≡ slice_index_or places (slot_in n rest) 0 = slot_placed places rest n none (rising_tail one rest rising) in
          elim (cases_eq (slice_index_or places one.slot 0) 0) [
            | inl e ↦ ap (slot_in n) (leaves places one rest e) ∙ rests ∙ sym now
            | inr ne ↦ ap (slot_in n) (stays places one rest ne) ∙ slot_later n (placed places one) (with_places places rest) other ∙ rests ∙ sym now
          ]
    ]

pub placed_renumbered : (places : List ℕ) (kept : List Numbered) → slice_index_or places 0 0 ≡ 0 → IsRising kept → AreRenumbered places (by_number kept) (by_number (with_places places kept))
placed_renumbered places kept none rising n =
    read (with_places places kept) n ∙ slot_placed places kept n none rising ∙ ap (λ (s : ℕ). slice_index_or places s 0) (sym (read kept n))

-- ---- one after the other

abbrev numbered : ℕ → ℕ → Numbered
numbered n s = record { number = n; slot = s }

one_leaves : (places : List ℕ) (kept : List Numbered) (i : ℕ) (d : Numbered) → i < length kept → slice_index_or places (get_or kept i d).slot 0 ≡ 0 → with_places places (take (suc i) kept) ≡ with_places places (take i kept)
one_leaves places [] i d within e = absurd (omega arith)
one_leaves places (x ∷ xs) zero d within e = leaves places x [] e
one_leaves places (x ∷ xs) (suc i) d within e =
    ap (λ (l : List Numbered). cond (nat_eq (slice_index_or places x.slot 0) 0) l (placed places x ∷ l)) (one_leaves places xs i d (omega arith) e)

cond_append : (b : Bool) (x y : Numbered) (l : List Numbered) → cond b (l ++ y ∷ []) (x ∷ (l ++ y ∷ [])) ≡ cond b l (x ∷ l) ++ y ∷ []
cond_append true x y l = refl
cond_append false x y l = refl

one_stays : (places : List ℕ) (kept : List Numbered) (i : ℕ) (d : Numbered) → i < length kept → slice_index_or places (get_or kept i d).slot 0 ≢ 0 → with_places places (take (suc i) kept) ≡ with_places places (take i kept) ++ placed places (get_or kept i d) ∷ []
one_stays places [] i d within ne = absurd (omega arith)
one_stays places (x ∷ xs) zero d within ne = stays places x [] ne
one_stays places (x ∷ xs) (suc i) d within ne =
    ap (λ (l : List Numbered). cond (nat_eq (slice_index_or places x.slot 0) 0) l (placed places x ∷ l)) (one_stays places xs i d (omega arith) ne)
    ∙ cond_append (nat_eq (slice_index_or places x.slot 0) 0) (placed places x) (placed places (get_or xs i d)) (with_places places (take i xs))

pub packed_none : (places : List ℕ) (old : List Numbered) → ArePacked places old 0 0 old
packed_none places old = record {
  few = omega arith;
  long = refl;
  first = refl;
  others = λ n d from. refl;
}

pub packed_without : (places : List ℕ) (old items : List Numbered) (i k : ℕ) (one : Numbered) → ArePacked places old i k items → slice_get items i ≡ Some one → slice_index_or places one.slot 0 ≡ 0 → ArePacked places old (suc i) k items
packed_without places old items i k one h at e =
    let is : get_or old i one ≡ one = sym (h.others i one (omega arith)) ∙ get_or_from_slice_get items i one one at in
    let within : i < length old = omega (arith, h.long, slice_get_within items i one at) in
    let gone : slice_index_or places (get_or old i one).slot 0 ≡ 0 = ap (λ (x : Numbered). slice_index_or places x.slot 0) is ∙ e in
    record {
      few = omega (arith, h.few);
      long = h.long;
      first = h.first ∙ sym (one_leaves places old i one within gone);
      others = λ n d from. h.others n d (omega (arith, from));
    }

pub packed_with : (places : List ℕ) (old items : List Numbered) (i k : ℕ) (one : Numbered) → ArePacked places old i k items → slice_get items i ≡ Some one → slice_index_or places one.slot 0 ≢ 0 → ArePacked places old (suc i) (suc k) (slice_set items k (placed places one))
packed_with places old items i k one h at ne =
    let is : get_or old i one ≡ one = sym (h.others i one (omega arith)) ∙ get_or_from_slice_get items i one one at in
    let inside : i < length items = slice_get_within items i one at in
    let within : i < length old = omega (arith, h.long, inside) in
    let same : slice_index_or places (get_or old i one).slot 0 ≡ slice_index_or places one.slot 0 = ap (λ (x : Numbered). slice_index_or places x.slot 0) is in
    record {
      few = omega (arith, h.few);
      long = length-set items k (placed places one) ∙ h.long;
      first =
          take-suc-set items k (placed places one) (omega (arith, inside, h.few))
          ∙ ap (λ (l : List Numbered). l ++ placed places one ∷ []) h.first
          ∙ ap (λ (x : Numbered). with_places places (take i old) ++ placed places x ∷ []) (sym is)
          ∙ sym (one_stays places old i one within (λ e. ne (sym same ∙ e)));
      others = λ n d from. get_or-set_other items k n (placed places one) d (omega (arith, from, h.few)) ∙ h.others n d (omega (arith, from));
    }

-- all are packed
pub packed_all : (places : List ℕ) (old items : List Numbered) (i k : ℕ) → ArePacked places old i k items → i ≡ length old → take k items ≡ with_places places old
packed_all places old items i k h is = h.first ∙ ap (with_places places) (ap (λ (n : ℕ). take n old) is ∙ take_all (length old) old (omega arith))

pub packed_few : (places : List ℕ) (old items : List Numbered) (i k : ℕ) → ArePacked places old i k items → i ≡ length old → k ≤ length items
packed_few places old items i k h is = omega (arith, h.few, h.long, is)

-- one that is there already
pub same_put : (items : List Numbered) (k : ℕ) (old one : Numbered) → slice_get items k ≡ Some old → old.number ≡ one.number → old.slot ≡ one.slot → items ≡ slice_set items k one
same_put items k old one at e f =
    let same : old ≡ one = ap₂ numbered e f in
    let is : get_or items k old ≡ one = get_or_from_slice_get items k old old at ∙ same in
    sym (ap (slice_set items k) (sym is) ∙ set-get_or items k old)

pub packed_gone : (places : List ℕ) (old items : List Numbered) (i k r : ℕ) (one : Numbered) → ArePacked places old i k items → slice_get items i ≡ Some one → r ≡ slice_index_or places one.slot 0 → r ≡ 0 → ArePacked places old (i + 1) k items
packed_gone places old items i k r one h at is none =
    let more : suc i ≡ i + 1 = omega arith in
    subst (λ (n : ℕ). ArePacked places old n k items) more (packed_without places old items i k one h at (sym is ∙ none))

pub packed_put : (places : List ℕ) (old items new : List Numbered) (i k r : ℕ) (one : Numbered) → ArePacked places old i k items → slice_get items i ≡ Some one → r ≡ slice_index_or places one.slot 0 → r ≢ 0 → new ≡ slice_set items k (record { number = one.number; slot = r }) → ArePacked places old (i + 1) (k + 1) new
packed_put places old items new i k r one h at is some put =
    let more : suc i ≡ i + 1 = omega arith in
    let count : suc k ≡ k + 1 = omega arith in
    let same : new ≡ slice_set items k (placed places one) = put ∙ ap (λ (s : ℕ). slice_set items k (numbered one.number s)) is in
    subst (λ (n : ℕ). ArePacked places old n (k + 1) new) more
    (subst (λ (n : ℕ). ArePacked places old (suc i) n new) count
    (subst (ArePacked places old (suc i) (suc k)) (sym same) (packed_with places old items i k one h at (λ e. some (is ∙ e)))))
