-- Lists whose elements move to their places.
use Rattle.std.proofs.Common.{◌≡◌, ◌≢◌, ◌⊎◌, ◌∙◌, ℕ, zero, suc, ◌+◌, ◌<◌, ◌≤◌, List, [], ◌∷◌, length, slice_index_or, slice_set, take, All, refl, sym, ap, arith, inl, inr, subst}
use Rattle.std.proofs.lemmas.List.{get_or-set_same, get_or-set_other, get_or-take, length-set, length-take-le, set-get_or}
use Rattle.corner_table.specs.declared.table.TheConstants.{LEVELS}
use Rattle.corner_table.specs.declared.table.Slot.{Slot}
use Rattle.row_core.specs.Rows.{Term}
use Rattle.row_core.specs.Renames.{place_in, renamed}
use Rattle.corner_packing.specs.Packing.{packed_slot}
use Rattle.corner_packing.specs.Moving.{AreAtPlaces, AreMoved, IsMoved, AreRisingPlaces, IsPlaced}
use Rattle.std.proofs.lemmas.Bool.Decides.{eqb_tells, leb_tells}
use Rattle.corner_packing.proofs.PlaceFacts.{below_or, no_place}

-- a slot that has a place is one of the list
pub placed_within : (places : List ℕ) (count w : ℕ) → AreRisingPlaces places count → IsPlaced places w → w < length places
placed_within places count w h (inl lt) = let k = h.levels in omega (arith, lt, k)
placed_within places count w h (inr some) = elim (leb_tells (length places) w) [
  | inl (t, le) ↦ absurd (some (no_place places w le))
  | inr (t, lt) ↦ lt
]

pub unmoved : {X : Type 0} (places : List ℕ) (change : ℕ → X → X) (d : X) (old : List X) → AreMoved places change d 0 old old
unmoved places change d old = record {
  length_is = refl;
  later = λ w le. refl;
  moved = λ w lt placed. absurd (omega (arith, lt));
}

-- one slot more
pub one_moved : {X : Type 0} (places : List ℕ) (count : ℕ) (change : ℕ → X → X) (d : X) (i : ℕ) (old mid new : List X)
    → AreRisingPlaces places count → i < length old → AreMoved places change d i old mid → IsMoved places i (change i (slice_index_or mid i d)) mid new → ((IsPlaced places i) ⊎ (IsPlaced places i → ⊥))
    → AreMoved places change d (i + 1) old new
one_moved places count change d i old mid new p lt h s (inl placed) = record {
  length_is = ap length (s.placed placed) ∙ length-set mid (place_in places i) (change i (slice_index_or mid i d)) ∙ h.length_is;
  later = λ w le.
      let low = p.low i in
      let ne : w ≢ place_in places i = omega (arith, low, le) in
      ap (λ xs. slice_index_or xs w d) (s.placed placed) ∙ get_or-set_other mid (place_in places i) w (change i (slice_index_or mid i d)) d ne ∙ h.later w (omega (arith, le));
  moved = λ w below here. elim (below_or w i below) [
    | inl under ↦
        let k = p.rising w i under here placed in
        let ne : place_in places w ≢ place_in places i = omega (arith, k) in
        ap (λ xs. slice_index_or xs (place_in places w) d) (s.placed placed) ∙ get_or-set_other mid (place_in places i) (place_in places w) (change i (slice_index_or mid i d)) d ne ∙ h.moved w under here
    | inr same ↦
        let low = p.low i in
        let long = h.length_is in
        subst (λ n. slice_index_or new (place_in places n) d ≡ change n (slice_index_or old n d)) (sym same)
        (ap (λ xs. slice_index_or xs (place_in places i) d) (s.placed placed) ∙ get_or-set_same mid (place_in places i) (change i (slice_index_or mid i d)) d (omega (arith, low, long, lt)) ∙ ap (change i) (h.later i (omega arith)))
  ];
}
one_moved places count change d i old mid new p lt h s (inr free) = subst (λ xs. AreMoved places change d (i + 1) old xs) (sym (s.free free)) (record {
  length_is = h.length_is;
  later = λ w le. h.later w (omega (arith, le));
  moved = λ w below here. elim (below_or w i below) [
    | inl under ↦ h.moved w under here
    | inr same ↦ absurd (free (subst (IsPlaced places) same here))
  ];
})

-- a slot has a place or none
pub is_placed_or : (places : List ℕ) (w : ℕ) → (IsPlaced places w) ⊎ (IsPlaced places w → ⊥)
is_placed_or places w = elim (leb_tells LEVELS w) [
  | inl (t, le) ↦ elim (eqb_tells (place_in places w) 0) [
    | inl (t, none) ↦ inr (λ placed. elim placed [
      | inl lt ↦ absurd (omega (arith, lt, le))
      | inr some ↦ some none
    ])
    | inr (t, some) ↦ inl (inr some)
  ]
  | inr (t, lt) ↦ inl (inl lt)
]

-- all slots have moved, and the rest is gone
pub all_moved : {X : Type 0} (places : List ℕ) (count : ℕ) (change : ℕ → X → X) (d : X) (i : ℕ) (old mid new : List X)
    → AreRisingPlaces places count → length old ≡ length places → length old ≤ i → AreMoved places change d i old mid → new ≡ take count mid
    → AreAtPlaces places count change d old new
all_moved places count change d i old mid new p same past h is = record {
  length_is = let few = p.few in let long = h.length_is in ap length is ∙ length-take-le count mid (omega (arith, few, long, same));
  moved = λ w here.
      let within = placed_within places count w p here in
      let lt = p.within w here in
      ap (λ xs. slice_index_or xs (place_in places w) d) is ∙ get_or-take count mid (place_in places w) d lt ∙ h.moved w (omega (arith, within, same, past)) here;
}

-- a slot that has no place
pub not_moved : {X : Type 0} (places : List ℕ) (w : ℕ) (x : X) (old : List X) → (IsPlaced places w → ⊥) → IsMoved places w x old old
not_moved places w x old never = record { placed = λ here. absurd (never here); free = λ free. refl }

-- a slot that stays where it is, with what it has
pub stayed : {X : Type 0} (places : List ℕ) (w : ℕ) (x d : X) (old : List X) → place_in places w ≡ w → x ≡ slice_index_or old w d → IsMoved places w x old old
stayed places w x d old same is = record {
  placed = λ here. sym (ap (λ n. slice_set old n x) same ∙ ap (λ y. slice_set old w y) is ∙ set-get_or old w d);
  free = λ free. refl;
}

-- a slot that is put at its place
pub was_put : {X : Type 0} (places : List ℕ) (w place : ℕ) (x y : X) (old new : List X) → IsPlaced places w → place ≡ place_in places w → y ≡ x → new ≡ slice_set old place y → IsMoved places w x old new
was_put places w place x y old new here there is put = record {
  placed = λ here. put ∙ ap (λ n. slice_set old n y) there ∙ ap (λ z. slice_set old (place_in places w) z) is;
  free = λ never. absurd (never here);
}

-- what a slot says at its place is what it said, where neither its home nor its rank has changed
pub same_slot : (places : List ℕ) (w : ℕ) (s m : Slot) → m ≡ packed_slot places w s → s.home ≡ m.home → s.rank ≡ m.rank → packed_slot places w s ≡ s
same_slot places w s m is home rank =
    ap (λ n. with n (packed_slot places w s).rank) (sym (home ∙ ap (λ (k : Slot). k.home) is))
    ∙ ap (λ n. with s.home n) (sym (rank ∙ ap (λ (k : Slot). k.rank) is))
  where
    with : ℕ → ℕ → Slot
    with home rank = record { owner = s.owner; home = home; rank = rank; weight = s.weight; scale = s.scale; rel = s.rel }

-- no column of the row moves
pub still : (places : List ℕ) (row : List Term) → All (λ t. place_in places t.col ≡ t.col) row → renamed places row ≡ row
still places [] all = refl
still places (x ∷ row) all =
    let first : place_in places x.col ≡ x.col = all zero x (omega arith) in
    let rest : renamed places row ≡ row = still places row (λ k d lt. all (suc k) d (omega (arith, lt))) in
    ap (λ n. (record { col = n; by = x.by }) ∷ renamed places row) first ∙ ap (λ xs. x ∷ xs) rest
