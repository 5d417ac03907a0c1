-- The slots once stays have come in another order: each is as before but for its rank, and the ranks of the stays'
-- go up with their places.
use Rattle.std.proofs.Common.{◌≡◌, ◌≢◌, ◌∙◌, ℕ, zero, suc, ◌+◌, ◌<◌, ◌≤◌, List, [], ◌∷◌, map, length, slice_index_or, slice_set, refl, sym, ap, subst, arith, inl, inr, All, AllPairs}
use Rattle.std.specs.List.{AllByRecursion as Each}
use Rattle.std.proofs.lemmas.Bool.{cases_eq, cases_lt}
use Rattle.std.proofs.lemmas.Grind.{get_or-set_at}
use Rattle.std.proofs.lemmas.List.{get_or_past, get_or-set_same, get_or-set_other, length-set}
use Rattle.std.proofs.lemmas.List.Elements.{recursion_from_All}
use Rattle.frac_core.proofs.Lists.{pairs-rest}
use Rattle.corner_laws.proofs.Counting.{head_pairs}
use Rattle.problem_core.proofs.Forms.{each-impl}
use Rattle.problem_core.specs.declared.parts.RowName.TheVariants.{Stay as StayOf}
use Rattle.problem_core.specs.declared.parts.Stay.{Stay}
use Rattle.corner_table.specs.declared.table.Slot.{Slot}
use Rattle.corner_table.specs.declared.table.TheConstants.{LEVELS, OWN_RANK}
use Rattle.corner_table.specs.Tables.{Lists, attr_slot, line_slot, slot_at}
use Rattle.corner_table.specs.Tables.{no_slot}
use Rattle.corner_table.proofs.Corners.SlotRanks.{AreRanks}
use Rattle.corner_orders.specs.Fronted.{AreFronted, ranked, slots_of, with_order, with_rank, with_ranks, with_slots}

-- ---- ranks that are put one by one

abbrev pub put_ranks : ℕ → List ℕ → List Slot → List Slot
put_ranks rank [] slots = slots
put_ranks rank (w ∷ ws) slots = put_ranks (rank + 1) ws (slice_set slots w (ranked rank (slice_index_or slots w no_slot)))

pub slots_put : (rank : ℕ) (ws : List ℕ) (t : Lists) → with_ranks rank ws t ≡ with_slots (put_ranks rank ws t.slots) t
slots_put rank [] t = refl
slots_put rank (w ∷ ws) t = slots_put (rank + 1) ws (with_rank w rank t)

pub put_count : (rank : ℕ) (ws : List ℕ) (slots : List Slot) → length (put_ranks rank ws slots) ≡ length slots
put_count rank [] slots = refl
put_count rank (w ∷ ws) slots =
    put_count (rank + 1) ws (slice_set slots w (ranked rank (slice_index_or slots w no_slot))) ∙ length-set slots w (ranked rank (slice_index_or slots w no_slot))

-- but for its rank a slot stays
one-same : (slots : List Slot) (w v rank : ℕ) → ranked 0 (slice_index_or (slice_set slots w (ranked rank (slice_index_or slots w no_slot))) v no_slot) ≡ ranked 0 (slice_index_or slots v no_slot)
one-same slots w v rank =
    let y : Slot = ranked rank (slice_index_or slots w no_slot) in
    elim (cases_eq v w) [
      | inl e ↦ subst (λ (n : ℕ). ranked 0 (slice_index_or (slice_set slots w y) n no_slot) ≡ ranked 0 (slice_index_or slots n no_slot)) (sym e)
          (elim (cases_lt w (length slots)) [
            | inl within ↦ ap (ranked 0) (get_or-set_same slots w y no_slot within)
            | inr past ↦
                let count = length-set slots w y in
                ap (ranked 0) (get_or_past (slice_set slots w y) w no_slot (omega (arith, past, count)) ∙ sym (get_or_past slots w no_slot past))
          ])
      | inr ne ↦ ap (ranked 0) (get_or-set_other slots w v y no_slot ne)
    ]

pub put_same : (rank : ℕ) (ws : List ℕ) (slots : List Slot) (v : ℕ) → ranked 0 (slice_index_or (put_ranks rank ws slots) v no_slot) ≡ ranked 0 (slice_index_or slots v no_slot)
put_same rank [] slots v = refl
put_same rank (w ∷ ws) slots v = put_same (rank + 1) ws (slice_set slots w (ranked rank (slice_index_or slots w no_slot))) v ∙ one-same slots w v rank

-- one that is not among them stays
pub put_other : (rank : ℕ) (ws : List ℕ) (slots : List Slot) (v : ℕ) → Each (λ w. v ≢ w) ws → slice_index_or (put_ranks rank ws slots) v no_slot ≡ slice_index_or slots v no_slot
put_other rank [] slots v others = refl
put_other rank (w ∷ ws) slots v others =
    put_other (rank + 1) ws (slice_set slots w (ranked rank (slice_index_or slots w no_slot))) v others.1
    ∙ get_or-set_other slots w v (ranked rank (slice_index_or slots w no_slot)) no_slot others.0

mapped : (f : Stay → ℕ) (v : ℕ) (order : List Stay) → Each (λ s. v ≢ f s) order → Each (λ w. v ≢ w) (map f order)
mapped f v [] h = tt
mapped f v (s ∷ order) h = (h.0, mapped f v order h.1)

-- the n-th of them has the n-th rank
pub put_rank_at : (f : Stay → ℕ) (rank : ℕ) (order : List Stay) (slots : List Slot) (i : ℕ) (d : Stay) → AllPairs (λ s r. f s ≢ f r) order → Each (λ s. f s < length slots) order → i < length order
    → (slice_index_or (put_ranks rank (map f order) slots) (f (slice_index_or order i d)) no_slot).rank ≡ rank + i
put_rank_at f rank [] slots i d apart below within = absurd (omega (arith, within))
put_rank_at f rank (s ∷ order) slots zero d apart below within =
    let y : Slot = ranked rank (slice_index_or slots (f s) no_slot) in
    let same : rank ≡ rank + 0 = omega arith in
    ap (λ (x : Slot). x.rank)
    (put_other (rank + 1) (map f order) (slice_set slots (f s) y) (f s) (mapped f (f s) order (recursion_from_All (λ r. f s ≢ f r) order (head_pairs (λ s r. f s ≢ f r) s order apart)))
    ∙ get_or-set_same slots (f s) y no_slot below.0)
    ∙ same
put_rank_at f rank (s ∷ order) slots (suc i) d apart below within =
    let y : Slot = ranked rank (slice_index_or slots (f s) no_slot) in
    let count = length-set slots (f s) y in
    let more : (rank + 1) + i ≡ rank + suc i = omega arith in
    put_rank_at f (rank + 1) order (slice_set slots (f s) y) i d (pairs-rest (λ s r. f s ≢ f r) s order apart)
    (each-impl (λ r. f r < length slots) (λ r. f r < length (slice_set slots (f s) y)) order (λ r lt. omega (arith, lt, count)) below.1) (omega (arith, within))
    ∙ more

-- none is above the slot's own
one-most : (slots : List Slot) (w rank : ℕ) → AreRanks slots → rank ≤ OWN_RANK → AreRanks (slice_set slots w (ranked rank (slice_index_or slots w no_slot)))
one-most slots w rank ranks few v =
    let y : Slot = ranked rank (slice_index_or slots w no_slot) in
    elim (cases_eq v w) [
      | inl e ↦ elim (cases_lt v (length slots)) [
        | inl within ↦ let is = ap (λ (x : Slot). x.rank) (get_or-set_at slots w v y no_slot e (omega (arith, e, within))) in omega (arith, is, few)
        | inr past ↦ let count = length-set slots w y in let is = ap (λ (x : Slot). x.rank) (get_or_past (slice_set slots w y) v no_slot (omega (arith, past, count))) in omega (arith, is)
      ]
      | inr ne ↦ let is = ap (λ (x : Slot). x.rank) (get_or-set_other slots w v y no_slot ne) in let le = ranks v in omega (arith, is, le)
    ]

put_most : (rank : ℕ) (ws : List ℕ) (slots : List Slot) → AreRanks slots → rank + length ws ≤ OWN_RANK → AreRanks (put_ranks rank ws slots)
put_most rank [] slots ranks few = ranks
put_most rank (w ∷ ws) slots ranks few =
    put_most (rank + 1) ws (slice_set slots w (ranked rank (slice_index_or slots w no_slot))) (one-most slots w rank ranks (omega (arith, few))) (omega (arith, few))

slots-count : (t : Lists) (order : List Stay) → length (slots_of t order) ≡ length order
slots-count t [] = refl
slots-count t (s ∷ order) = ap suc (slots-count t order)

-- ---- all of them

-- the slots are as before but for ranks: those of the priority levels stay, and the stays' are their places' in the
-- order, behind these
pub record AreReranked (order : List Stay) (t : Lists) (slots : List Slot) : Type 0 where
  pub count : length slots ≡ length t.slots
  pub same : (w : ℕ) → ranked 0 (slice_index_or slots w no_slot) ≡ ranked 0 (slot_at t w)
  pub levels : (w : ℕ) → w < LEVELS → (slice_index_or slots w no_slot).rank ≡ (slot_at t w).rank
  pub most : AreRanks slots
  pub ranks : (i : ℕ) (s : Stay) → i < length order → (slice_index_or slots (attr_slot t (slice_index_or order i s).attr + 1) no_slot).rank ≡ LEVELS + i

pub reranked : (order : List Stay) (t : Lists) → AllPairs (λ s r. attr_slot t s.attr + 1 ≢ attr_slot t r.attr + 1) order → All (λ s. (LEVELS ≤ attr_slot t s.attr + 1) × (attr_slot t s.attr + 1 < length t.slots)) order
    → AreRanks t.slots → LEVELS + length order ≤ OWN_RANK
    → AreReranked order t (put_ranks LEVELS (slots_of t order) t.slots)
reranked order t apart within ranks few = record {
  count = put_count LEVELS (slots_of t order) t.slots;
  same = put_same LEVELS (slots_of t order) t.slots;
  levels = λ w low. ap (λ (x : Slot). x.rank) (put_other LEVELS (slots_of t order) t.slots w
      (mapped (λ s. line_slot t (StayOf s.attr)) w order
      (each-impl (λ s. (LEVELS ≤ attr_slot t s.attr + 1) × (attr_slot t s.attr + 1 < length t.slots)) (λ s. w ≢ attr_slot t s.attr + 1) order (λ s h e. let le = h.0 in omega (arith, le, low, e)) (recursion_from_All _ order within))));
  most = put_most LEVELS (slots_of t order) t.slots ranks (let n = slots-count t order in omega (arith, n, few));
  ranks = λ i s lt. put_rank_at (λ r. line_slot t (StayOf r.attr)) LEVELS order t.slots i s apart
      (each-impl (λ r. (LEVELS ≤ attr_slot t r.attr + 1) × (attr_slot t r.attr + 1 < length t.slots)) (λ r. attr_slot t r.attr + 1 < length t.slots) order (λ r h. h.1) (recursion_from_All _ order within)) lt;
}

-- the lists with these stays and slots
abbrev pub put : List Stay → List Slot → Lists → Lists
put order slots t = record {
  rows = t.rows;
  stays = order;
  slots = slots;
  standings = t.standings;
  matrix = t.matrix;
  attr_slots = t.attr_slots;
  row_slots = t.row_slots;
  priorities = t.priorities;
}

pub fronted_lists : (order : List Stay) (t u : Lists) → AreFronted order t u → u ≡ put order (put_ranks LEVELS (slots_of t order) t.slots) t
fronted_lists order t u h = h ∙ ap (with_order order) (slots_put LEVELS (slots_of t order) t)
