-- The slots by number, read at a number.
use Rattle.std.proofs.Common.{◌≡◌, ◌≢◌, ◌∙◌, ℕ, zero, suc, ◌<◌, ◌≤◌, Bool, cond, nat_eq, List, [], ◌∷◌, length, get_or, refl, sym, ap, arith, inl, inr, ne_eqb, eq-eqb, slice_index_or, All}
use Rattle.std.proofs.lemmas.Bool.{cases_eq}
use Rattle.std.proofs.lemmas.List.Elements.{All-head, All-tail}
use Rattle.std.proofs.lemmas.List.Kept.{AllPairs-cons}
use Rattle.version_lists.specs.declared.slots.Numbered.{Numbered}
use Rattle.version_lists.specs.Numbers.{by_number, with_number, IsRising}

-- the slot that the number has among these, or 0
abbrev pub slot_in : ℕ → List Numbered → ℕ
slot_in n [] = 0
slot_in n (one ∷ rest) = cond (nat_eq one.number n) one.slot (slot_in n rest)

pub slot_here : (n : ℕ) (one : Numbered) (rest : List Numbered) → one.number ≡ n → slot_in n (one ∷ rest) ≡ one.slot
slot_here n one rest e = ap (λ (b : Bool). cond b one.slot (slot_in n rest)) (eq-eqb one.number n e)

pub slot_later : (n : ℕ) (one : Numbered) (rest : List Numbered) → one.number ≢ n → slot_in n (one ∷ rest) ≡ slot_in n rest
slot_later n one rest ne = ap (λ (b : Bool). cond b one.slot (slot_in n rest)) (ne_eqb one.number n ne)

number_here : (n s : ℕ) (xs : List ℕ) → slice_index_or (with_number n s xs) n 0 ≡ s
number_here zero s [] = refl
number_here zero s (x ∷ xs) = refl
number_here (suc n) s [] = number_here n s []
number_here (suc n) s (x ∷ xs) = number_here n s xs

number_others : (n s : ℕ) (xs : List ℕ) (m : ℕ) → m ≢ n → slice_index_or (with_number n s xs) m 0 ≡ slice_index_or xs m 0
number_others zero s [] zero ne = absurd (ne refl)
number_others zero s (x ∷ xs) zero ne = absurd (ne refl)
number_others zero s [] (suc m) ne = refl
number_others zero s (x ∷ xs) (suc m) ne = refl
number_others (suc n) s [] zero ne = refl
number_others (suc n) s (x ∷ xs) zero ne = refl
number_others (suc n) s [] (suc m) ne = number_others n s [] m (λ e. ne (ap suc e))
number_others (suc n) s (x ∷ xs) (suc m) ne = number_others n s xs m (λ e. ne (ap suc e))

-- what is read at a number
pub read : (kept : List Numbered) (n : ℕ) → slice_index_or (by_number kept) n 0 ≡ slot_in n kept
read [] n = refl
read (one ∷ rest) n =
    elim (cases_eq one.number n) [
      | inl e ↦
          ap (λ (m : ℕ). slice_index_or (with_number one.number one.slot (by_number rest)) m 0) (sym e) ∙ number_here one.number one.slot (by_number rest) ∙ sym (slot_here n one rest e)
      | inr ne ↦ number_others one.number one.slot (by_number rest) n (λ e. ne (sym e)) ∙ read rest n ∙ sym (slot_later n one rest ne)
    ]

-- ---- numbers that rise

pub rising_head : (one : Numbered) (rest : List Numbered) → IsRising (one ∷ rest) → All (λ n. one.number < n.number) rest
rising_head one rest rising = λ k d within. rising zero (suc k) d (omega arith) (omega arith)

pub rising_tail : (one : Numbered) (rest : List Numbered) → IsRising (one ∷ rest) → IsRising rest
rising_tail one rest rising = λ i j d less within. rising (suc i) (suc j) d (omega arith) (omega arith)

pub rising_cons : (one : Numbered) (rest : List Numbered) → All (λ n. one.number < n.number) rest → IsRising rest → IsRising (one ∷ rest)
rising_cons one rest first others = AllPairs-cons (λ a b. a.number < b.number) one rest first others

-- a number that is not there
pub slot_none : (n : ℕ) (kept : List Numbered) → All (λ one. one.number ≢ n) kept → slot_in n kept ≡ 0
slot_none n [] all = refl
slot_none n (one ∷ rest) all =
    slot_later n one rest (All-head (λ one. one.number ≢ n) one rest all) ∙ slot_none n rest (All-tail (λ one. one.number ≢ n) one rest all)

-- the number of an element
pub slot_at : (kept : List Numbered) (i : ℕ) (d : Numbered) → IsRising kept → i < length kept → slot_in (get_or kept i d).number kept ≡ (get_or kept i d).slot
slot_at [] i d rising within = absurd (omega arith)
slot_at (one ∷ rest) zero d rising within = slot_here one.number one rest refl
slot_at (one ∷ rest) (suc i) d rising within =
    let inside : i < length rest = omega arith in
    let less : one.number < (get_or rest i d).number = rising_head one rest rising i d inside in
    slot_later (get_or rest i d).number one rest (λ e. absurd (omega (arith, e, less))) ∙ slot_at rest i d (rising_tail one rest rising) inside

-- an element at its number
pub slot_found : (kept : List Numbered) (i n : ℕ) (d : Numbered) → IsRising kept → i < length kept → (get_or kept i d).number ≡ n → (get_or kept i d).slot ≡ slice_index_or (by_number kept) n 0
slot_found kept i n d rising within is = sym (slot_at kept i d rising within) ∙ ap (λ (m : ℕ). slot_in m kept) is ∙ sym (read kept n)

-- no element with the number
pub slot_absent : (kept : List Numbered) (n : ℕ) → All (λ one. one.number ≢ n) kept → 0 ≡ slice_index_or (by_number kept) n 0
slot_absent kept n all = sym (read kept n ∙ slot_none n kept all)

-- the place of a number is at most the number
pub place_below : (kept : List Numbered) (i : ℕ) (d : Numbered) → IsRising kept → i < length kept → i ≤ (get_or kept i d).number
place_below kept zero d rising within = omega arith
place_below kept (suc i) d rising within =
    let before : i ≤ (get_or kept i d).number = place_below kept i d rising (omega (arith, within)) in
    let less : (get_or kept i d).number < (get_or kept (suc i) d).number = rising i (suc i) d (omega arith) within in
    omega (arith, before, less)
