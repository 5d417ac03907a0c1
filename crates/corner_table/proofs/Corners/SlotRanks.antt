-- What slots' ranks keep where slots come, or go.
use Rattle.std.proofs.Common.{◌≡◌, ◌⊎◌, ℕ, ◌+◌, ◌<◌, ◌≤◌, ◌++◌, List, [], ◌∷◌, length, sym, ap, subst, arith, slice_index_or, inl, inr}
use Rattle.std.proofs.lemmas.Bool.{cases_eq, cases_lt}
use Rattle.std.proofs.lemmas.List.{get_or_past, get_or_push, length_push}
use Rattle.std.proofs.Math.ListN.{get_or-append}
use Rattle.corner_table.specs.declared.table.Slot.{Slot}
use Rattle.corner_table.specs.declared.table.TheConstants.{OWN_RANK}
use Rattle.corner_table.specs.Kept.{IsStayOwner}
use Rattle.corner_table.specs.Tables.{no_slot}

abbrev pub at : List Slot → ℕ → Slot
at slots w = slice_index_or slots w no_slot

-- no rank is above the slot's own
abbrev pub AreRanks : List Slot → Type 0
AreRanks slots = (w : ℕ) → (at slots w).rank ≤ OWN_RANK + w

-- of two stays of which the first by slot has its own rank the other has a higher one
abbrev pub AreOwnLast : List Slot → Type 0
AreOwnLast slots = (v w : ℕ) → v < w → IsStayOwner (at slots v).owner → IsStayOwner (at slots w).owner
    → OWN_RANK ≤ (at slots v).rank → (at slots v).rank < (at slots w).rank

-- ---- one that comes

where-pushed : (slots : List Slot) (y : Slot) (w : ℕ) → ((w < length slots) × (at (slots ++ (y ∷ [])) w ≡ at slots w)) ⊎ (((w ≡ length slots) × (at (slots ++ (y ∷ [])) w ≡ y)) ⊎ (at (slots ++ (y ∷ [])) w ≡ no_slot))
where-pushed slots y w = elim (cases_lt w (length slots)) [
  | inl lt ↦ inl (lt, get_or-append slots (y ∷ []) no_slot w lt)
  | inr past ↦ elim (cases_eq w (length slots)) [
    | inl e ↦ inr (inl (e, get_or_push slots y no_slot w (sym e)))
    | inr ne ↦ let n = length_push slots y in inr (inr (get_or_past (slots ++ (y ∷ [])) w no_slot (omega (arith, n, past, ne))))
  ]
]

pub ranks_pushed : (slots : List Slot) (y : Slot) → AreRanks slots → y.rank ≤ OWN_RANK + length slots → AreRanks (slots ++ (y ∷ []))
ranks_pushed slots y ranks own w = elim (where-pushed slots y w) [
  | inl old ↦ let e = ap (λ (s : Slot). s.rank) old.1 in let le = ranks w in omega (arith, e, le)
  | inr (inl new) ↦ let e = ap (λ (s : Slot). s.rank) new.1 in let n = new.0 in omega (arith, e, n, own)
  | inr (inr none) ↦ let e = ap (λ (s : Slot). s.rank) none in omega (arith, e)
]

pub last_pushed : (slots : List Slot) (y : Slot) → AreRanks slots → AreOwnLast slots → (IsStayOwner y.owner → y.rank ≡ OWN_RANK + length slots) → AreOwnLast (slots ++ (y ∷ []))
last_pushed slots y ranks last own v w lt one two high = elim (where-pushed slots y w) [
  | inl old ↦
      let within = old.0 in
      let before = get_or-append slots (y ∷ []) no_slot v (omega (arith, lt, within)) in
      let a = ap (λ (s : Slot). s.rank) before in
      let b = ap (λ (s : Slot). s.rank) old.1 in
      let less = last v w lt (subst (λ (s : Slot). IsStayOwner s.owner) before one) (subst (λ (s : Slot). IsStayOwner s.owner) old.1 two) (omega (arith, a, high)) in
      omega (arith, a, b, less)
  | inr (inl new) ↦
      let n = new.0 in
      let a = ap (λ (s : Slot). s.rank) (get_or-append slots (y ∷ []) no_slot v (omega (arith, lt, n))) in
      let b = ap (λ (s : Slot). s.rank) new.1 in
      let is = own (subst (λ (s : Slot). IsStayOwner s.owner) new.1 two) in
      let le = ranks v in
      omega (arith, a, b, is, le, lt, n)
  | inr (inr none) ↦ absurd (subst (λ (s : Slot). IsStayOwner s.owner) none two)
]

-- ---- some that go

pub ranks_left : (slots next : List Slot) → ((w : ℕ) → (at next w ≡ at slots w) ⊎ (at next w ≡ no_slot)) → AreRanks slots → AreRanks next
ranks_left slots next is ranks w = elim (is w) [
  | inl same ↦ let e = ap (λ (s : Slot). s.rank) same in let le = ranks w in omega (arith, e, le)
  | inr none ↦ let e = ap (λ (s : Slot). s.rank) none in omega (arith, e)
]

pub last_left : (slots next : List Slot) → ((w : ℕ) → (at next w ≡ at slots w) ⊎ (at next w ≡ no_slot)) → AreOwnLast slots → AreOwnLast next
last_left slots next is last v w lt one two high = elim (is w) [
  | inl same ↦ elim (is v) [
    | inl before ↦
        let a = ap (λ (s : Slot). s.rank) before in
        let b = ap (λ (s : Slot). s.rank) same in
        let less = last v w lt (subst (λ (s : Slot). IsStayOwner s.owner) before one) (subst (λ (s : Slot). IsStayOwner s.owner) same two) (omega (arith, a, high)) in
        omega (arith, a, b, less)
    | inr gone ↦ absurd (subst (λ (s : Slot). IsStayOwner s.owner) gone one)
  ]
  | inr none ↦ absurd (subst (λ (s : Slot). IsStayOwner s.owner) none two)
]
