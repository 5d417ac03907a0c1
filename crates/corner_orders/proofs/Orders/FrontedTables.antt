-- The loops in which stays are put before all others.
use Rattle.std.proofs.Common.{◌≡◌, ◌∙◌, ℕ, zero, suc, ◌+◌, ◌-◌, ◌^◌, ◌<◌, ◌≤◌, ◌++◌, List, [], ◌∷◌, drop, map, length, slice_index_or, slice_set, take, refl, sym, ap, subst, arith, All}
use Rattle.std.proofs.lemmas.List.{append-nil, drop_all, map-append, take_more}
use Rattle.corner_table.proofs.Basics.ListFacts.{take_all}
use Rattle.problem_core.specs.declared.parts.RowName.TheVariants.{Stay as StayOf}
use Rattle.problem_core.specs.declared.parts.Stay.{Stay}
use Rattle.problem_core.specs.Layout.{HasStay}
use Rattle.corner_table.specs.declared.table.TheConstants.{LEVELS}
use Rattle.corner_table.specs.Kept.{IsKept}
use Rattle.corner_table.specs.Tables.{IsListedOf, Lists, line_slot, problem_of, row_at}
use Rattle.corner_table.proofs.Readings.SlotFacts.{named_slot}
use Rattle.corner_table.proofs.Basics.OwnerFacts.{stay_named}
use Rattle.corner_orders.specs.Fronted.{AreListedOf, slots_of, with_order, with_rank, with_ranks}
use Rattle.corner_orders.proofs.Orders.FrontedSlots.{put_count, slots_put}

-- ---- one more

listed-last : (t : Lists) (attrs : List ℕ) (attr : ℕ) (old mid new : List ℕ) → AreListedOf t attrs old mid → IsListedOf (line_slot t (StayOf attr)) (row_at t (line_slot t (StayOf attr))) mid new → AreListedOf t (attrs ++ attr ∷ []) old new
listed-last t [] attr old mid new same one = (new, subst (λ ws. IsListedOf (line_slot t (StayOf attr)) (row_at t (line_slot t (StayOf attr))) ws new) same one, refl)
listed-last t (a ∷ attrs) attr old mid new (first, here, rest) one = (first, here, listed-last t attrs attr first mid new rest one)

pub listed_next : (t : Lists) (attrs : List ℕ) (i d : ℕ) (old mid new : List ℕ) → i < length attrs → AreListedOf t (take i attrs) old mid
    → IsListedOf (line_slot t (StayOf (slice_index_or attrs i d))) (row_at t (line_slot t (StayOf (slice_index_or attrs i d)))) mid new → AreListedOf t (take (i + 1) attrs) old new
listed_next t attrs i d old mid new within before one =
    subst (λ ws. AreListedOf t ws old new) (sym (take_more attrs i d within)) (listed-last t (take i attrs) (slice_index_or attrs i d) old mid new before one)

pub listed_all : (t : Lists) (attrs : List ℕ) (i : ℕ) (old new : List ℕ) → length attrs ≤ i → AreListedOf t (take i attrs) old new → AreListedOf t attrs old new
listed_all t attrs i old new past h = subst (λ ws. AreListedOf t ws old new) (take_all attrs i past) h

ranks-last : (rank : ℕ) (ws : List ℕ) (w : ℕ) (t : Lists) → with_ranks rank (ws ++ w ∷ []) t ≡ with_rank w (rank + length ws) (with_ranks rank ws t)
ranks-last rank [] w t = let same : rank ≡ rank + 0 = omega arith in ap (λ n. with_rank w n t) same
ranks-last rank (v ∷ ws) w t =
    let more : (rank + 1) + length ws ≡ rank + suc (length ws) = omega arith in
    ranks-last (rank + 1) ws w (with_rank v rank t) ∙ ap (λ n. with_rank w n (with_ranks (rank + 1) ws (with_rank v rank t))) more

length-front : (ws : List ℕ) (i : ℕ) → i < length ws → length (take i ws) ≡ i
length-front [] i lt = absurd (omega (arith, lt))
length-front (w ∷ ws) zero lt = refl
length-front (w ∷ ws) (suc i) lt = ap suc (length-front ws i (omega (arith, lt)))

pub ranks_next : (ws : List ℕ) (i d : ℕ) (t now next : Lists) → i < length ws → now ≡ with_ranks LEVELS (take i ws) t → next ≡ with_rank (slice_index_or ws i d) (LEVELS + i) now → next ≡ with_ranks LEVELS (take (i + 1) ws) t
ranks_next ws i d t now next within before one =
    one ∙ ap (with_rank (slice_index_or ws i d) (LEVELS + i)) before
    ∙ ap (λ n. with_rank (slice_index_or ws i d) (LEVELS + n) (with_ranks LEVELS (take i ws) t)) (sym (length-front ws i within))
    ∙ sym (ranks-last LEVELS (take i ws) (slice_index_or ws i d) t) ∙ ap (λ xs. with_ranks LEVELS xs t) (sym (take_more ws i d within))

pub ranks_count : (ws : List ℕ) (t now : Lists) → now ≡ with_ranks LEVELS ws t → length now.slots ≡ length t.slots
ranks_count ws t now h = ap (λ (x : Lists). length x.slots) (h ∙ slots_put LEVELS ws t) ∙ put_count LEVELS ws t.slots

-- ---- stays in the place of others

set-next : (xs ys : List Stay) (i : ℕ) (d : Stay) → length xs ≡ length ys → i < length xs → slice_set (take i xs ++ drop i ys) i (slice_index_or xs i d) ≡ take (i + 1) xs ++ drop (i + 1) ys
set-next [] ys i d same lt = absurd (omega (arith, lt))
set-next (x ∷ xs) [] i d same lt = absurd (omega (arith, same))
set-next (x ∷ xs) (y ∷ ys) zero d same lt = refl
set-next (x ∷ xs) (y ∷ ys) (suc i) d same lt =
    let n : suc (i + 1) ≡ suc i + 1 = omega arith in
    subst (λ k. x ∷ slice_set (take i xs ++ drop i ys) i (slice_index_or xs i d) ≡ take k (x ∷ xs) ++ drop k (y ∷ ys)) n
    (ap (λ (ss : List Stay). x ∷ ss) (set-next xs ys i d (omega (arith, same)) (omega (arith, lt))))

pub order_next : (order : List Stay) (i : ℕ) (d : Stay) (t now next : Lists) → length order ≡ length t.stays → i < length order → now ≡ with_order (take i order ++ drop i t.stays) t
    → next ≡ with_order (slice_set now.stays i (slice_index_or order i d)) now → next ≡ with_order (take (i + 1) order ++ drop (i + 1) t.stays) t
order_next order i d t now next same lt before one =
    one ∙ ap (λ (x : Lists). with_order (slice_set x.stays i (slice_index_or order i d)) x) before ∙ ap (λ (ss : List Stay). with_order ss t) (set-next order t.stays i d same lt)

pub order_count : (order : List Stay) (i : ℕ) (t now : Lists) → length order ≡ length t.stays → i < length order → now ≡ with_order (take i order ++ drop i t.stays) t → i < length now.stays
order_count order i t now same lt before = subst (λ (x : Lists). i < length x.stays) (sym before) (counted order t.stays i same lt)
  where
    counted : (xs ys : List Stay) (i : ℕ) → length xs ≡ length ys → i < length xs → i < length (take i xs ++ drop i ys)
    counted [] ys i same lt = absurd (omega (arith, lt))
    counted (x ∷ xs) [] i same lt = absurd (omega (arith, same))
    counted (x ∷ xs) (y ∷ ys) zero same lt = omega arith
    counted (x ∷ xs) (y ∷ ys) (suc i) same lt = let less = counted xs ys i (omega (arith, same)) (omega (arith, lt)) in omega (arith, less)

pub order_all : (order : List Stay) (i : ℕ) (t now : Lists) → length order ≡ length t.stays → length order ≤ i → now ≡ with_order (take i order ++ drop i t.stays) t → now ≡ with_order order t
order_all order i t now same past h =
    h ∙ ap (λ (ss : List Stay). with_order ss t) (ap (λ (ss : List Stay). ss ++ drop i t.stays) (take_all order i past) ∙ ap (λ (ss : List Stay). order ++ ss) (drop_all i t.stays (omega (arith, same, past))) ∙ append-nil order)

-- ---- room

pub stays_room : (t : Lists) → IsKept t → LEVELS + length t.stays ≤ 2 ^ 32
stays_room t kept = let few = kept.whole.stay_count in omega (arith, few)

pub slots_within : (t : Lists) (order : List Stay) → IsKept t → All (λ s. HasStay t.stays s.attr) order → All (λ w. w < length t.slots) (slots_of t order)
slots_within t [] kept held i d lt = absurd (omega (arith, lt))
slots_within t (s ∷ order) kept held zero d lt = (named_slot t (StayOf s.attr) kept.slots (stay_named (problem_of t) s.attr (held 0 s (omega arith)))).1
slots_within t (s ∷ order) kept held (suc i) d lt = slots_within t order kept (λ k x less. held (suc k) x (omega (arith, less))) i d (omega (arith, lt))

-- ---- numbers that are listed one by one

pub mapped_next : {X : Type 0} (f : X → ℕ) (xs : List X) (i : ℕ) (x : X) (old new : List ℕ) → i < length xs → x ≡ slice_index_or xs i x → old ≡ map f (take i xs) → new ≡ old ++ f x ∷ [] → new ≡ map f (take (i + 1) xs)
mapped_next f xs i x old new within read before pushed =
    pushed ∙ ap (λ ys. ys ++ f x ∷ []) before ∙ ap (λ y. map f (take i xs) ++ f y ∷ []) read
    ∙ sym (ap (map f) (take_more xs i x within) ∙ map-append f (take i xs) (slice_index_or xs i x ∷ []))

pub mapped_all : {X : Type 0} (f : X → ℕ) (xs : List X) (i : ℕ) (new : List ℕ) → length xs ≤ i → new ≡ map f (take i xs) → new ≡ map f xs
mapped_all f xs i new past h = h ∙ ap (map f) (take_all xs i past)
