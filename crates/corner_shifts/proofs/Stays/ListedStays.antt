-- The stays of listed lines, and their places.
use Rattle.std.proofs.Common.{◌≡◌, ◌∙◌, ◌⊎◌, ℕ, ◌+◌, ◌<◌, ◌≤◌, arith, List, [], length, sym, ap, subst, inl, inr, pos, slice_index_or, All, Contains, IsPermutation}
use Rattle.std.proofs.lemmas.List.{get_or_default, get_or_past}
use Rattle.std.proofs.lemmas.List.Elements.{All-contains, Contains-get_or}
use Rattle.std.proofs.lemmas.List.Filters.{dedup_is}
use Rattle.std.proofs.lemmas.List.Kept.{AllPairs-from_increasing, Contains-dedup_nat, Contains-from_dedup}
use Rattle.std.proofs.lemmas.List.Sorted.{Contains-permutation, IsPermutation-sym}
use Rattle.std.proofs.lemmas.Map.Keys.{IsStrictlyIncreasing-dedup}
use Rattle.std.specs.List.{dedup}
use Rattle.std.specs.List.Retain.{DiffersFromLast, IsFiltered}
use Rattle.std.specs.Ordering.{nat_cmp}
use lib.Dec.{eqb}
use Rattle.std.specs.List.Sorted.{IsSorted, IsStrictlyIncreasing}
use Rattle.problem_core.specs.Window.{zero_fraction}
use Rattle.problem_core.specs.declared.parts.RowName.TheVariants.{Stay as StayOf}
use Rattle.problem_core.specs.declared.parts.Stay.{Stay}
use Rattle.corner_view.specs.declared.types.Owner.TheVariants.{Line as LineSlot}
use Rattle.corner_table.specs.Tables.{Lists, problem_of, slot_at, standing_at}
use Rattle.corner_table.specs.Kept.{AreSlots, IsKept, IsStayOwner}
use Rattle.corner_table.proofs.Corners.NewTables.{less_or}
use Rattle.corner_table.proofs.Readings.SlotFacts.{named_slot}
use Rattle.corner_table.proofs.Basics.SmallFacts.{below_or, own_stay}
use Rattle.corner_table.proofs.Basics.OwnerFacts.{stay_named}
use Rattle.corner_shifts.specs.Astray.{AreAstray}
use Rattle.corner_shifts.specs.Stood.{AreFirstStood, IsAtRest, stay_slot, with_moved}
use Rattle.corner_shifts.proofs.Stays.StoodKept.{attr_same}
use Rattle.corner_shifts.proofs.Stays.StoodLists.{first_apart, line_or, stay_owner}
use Rattle.corner_shifts.proofs.Stays.StoodTables.{all_rest}

-- ---- what a slot says

-- a stay whose line has the slot stands at its target
abbrev pub IsResting : Lists → ℕ → Stay → Type 0
IsResting t w s = stay_slot t s.attr ≡ w → (standing_at t w).value.num ≡ pos 0

-- past the last slot there is no line
pub past_resting : (t : Lists) (w : ℕ) → AreSlots t → length t.slots ≤ w → All (IsResting t w) t.stays
past_resting t w slots past k s lt e =
    let attr : ℕ = (slice_index_or t.stays k s).attr in
    let at = named_slot t (StayOf attr) slots (stay_named (problem_of t) attr (own_stay t.stays k s lt)) in
    absurd (omega (arith, at.1, past, e))

-- nor is one of a stay where the slot isn't a stay's
pub other_resting : (t : Lists) (w : ℕ) → AreSlots t → (IsStayOwner (slot_at t w).owner → ⊥) → All (IsResting t w) t.stays
other_resting t w slots never k s lt e =
    let attr : ℕ = (slice_index_or t.stays k s).attr in
    let own : (slot_at t w).owner ≡ LineSlot (StayOf attr) =
    subst (λ (v : ℕ). (slot_at t v).owner ≡ LineSlot (StayOf attr)) e (stay_owner t attr slots (own_stay t.stays k s lt)) in
    absurd (never (subst IsStayOwner (sym own) tt))

-- ---- the place of a stay

-- of an attribute there is one stay
one_place : (t : Lists) (k i : ℕ) (s : Stay) → AreSlots t → k < length t.stays → i < length t.stays → (slice_index_or t.stays k s).attr ≡ (slice_index_or t.stays i s).attr → k ≡ i
one_place t k i s slots lt within e = elim (below_or k i) [
  | inl less ↦ absurd (first_apart t k i s s slots less within (ap (stay_slot t) e))
  | inr le ↦ elim (below_or i k) [
    | inl less ↦ absurd (first_apart t i k s s slots less lt (ap (stay_slot t) (sym e)))
    | inr more ↦ omega (arith, le, more)
  ]
]

-- a stay whose line has the slot is in the place that was found for the attribute of the slot
pub place_has : (t : Lists) (w attr place : ℕ) (places : List ℕ) → AreSlots t → (slot_at t w).owner ≡ LineSlot (StayOf attr) → place < length t.stays
    → ((s : Stay) → (slice_index_or t.stays place s).attr ≡ attr) → Contains places place
    → (i : ℕ) (s : Stay) → i < length t.stays → stay_slot t (slice_index_or t.stays i s).attr ≡ w → IsAtRest t i ⊎ Contains places i
place_has t w attr place places slots own within is has i s lt e =
    let a : ℕ = (slice_index_or t.stays i s).attr in
    let at : (slot_at t w).owner ≡ LineSlot (StayOf a) =
    subst (λ (v : ℕ). (slot_at t v).owner ≡ LineSlot (StayOf a)) e (stay_owner t a slots (own_stay t.stays i s lt)) in
    let more : a + 1 ≡ attr + 1 = ap line_or (sym at ∙ own) in
    let same : a ≡ attr = omega (arith, more) in
    inr (subst (Contains places) (one_place t place i s slots within lt (is s ∙ sym same)) has)

-- ---- the places of all

-- the stays of the first k lines rest, or are in these places
abbrev pub ArePlaced : Lists → List ℕ → ℕ → List ℕ → Type 0
ArePlaced t lines k places = (m i : ℕ) (s : Stay) → m < k → i < length t.stays → stay_slot t (slice_index_or t.stays i s).attr ≡ slice_index_or lines m 0
    → IsAtRest t i ⊎ Contains places i

pub more_placed : (t : Lists) (lines : List ℕ) (k w : ℕ) (old new : List ℕ) → ArePlaced t lines k old → slice_index_or lines k 0 ≡ w
    → ((i : ℕ) → Contains old i → Contains new i)
    → ((i : ℕ) (s : Stay) → i < length t.stays → stay_slot t (slice_index_or t.stays i s).attr ≡ w → IsAtRest t i ⊎ Contains new i)
    → ArePlaced t lines (k + 1) new
more_placed t lines k w old new placed at keeps next m i s lt within e = elim (less_or k m (omega (arith, lt))) [
  | inl less ↦ elim (placed m i s less within e) [
    | inl rest ↦ inl rest
    | inr has ↦ inr (keeps i has)
  ]
  | inr same ↦ next i s within (e ∙ ap (λ (n : ℕ). slice_index_or lines n 0) same ∙ at)
]

pub all_placed : (t : Lists) (lines : List ℕ) (k : ℕ) (places : List ℕ) → AreAstray t lines → length lines ≤ k → ArePlaced t lines k places
    → (i : ℕ) → i < length t.stays → IsAtRest t i ⊎ Contains places i
all_placed t lines k places astray most placed i within =
    let s : Stay = record { attr = 0; target = zero_fraction } in
    elim (astray i s within) [
      | inl none ↦ inl (λ r.
          subst (λ (x : Stay). (standing_at t (stay_slot t x.attr)).value.num ≡ pos 0) (get_or_default t.stays i s r within) none)
      | inr (m, lt, is) ↦
          let w : ℕ = stay_slot t (slice_index_or t.stays i s).attr in
          placed m i s (omega (arith, lt, most)) within (sym is ∙ get_or_default lines m w 0 lt)
    ]

-- ---- standing in turn

-- a later stay stands as at first
later_rests : (n i : ℕ) (t u : Lists) → AreSlots t → AreFirstStood n t u → n ≤ i → i < length t.stays → IsAtRest t i → IsAtRest u i
later_rests n i t u slots h from within rest =
    subst (λ (v : Lists). IsAtRest v i) (sym h.0) (λ s.
    subst (λ (a : ℕ). (standing_at (with_moved u.stays u.standings t) (stay_slot t a)).value.num ≡ pos 0)
    (sym (attr_same n t u.stays u.standings h.1 i s within))
    (ap (λ x. x.value.num) (h.1.others (stay_slot t (slice_index_or t.stays i s).attr)
    (λ j r lt few. first_apart t j i r s slots (omega (arith, lt, from)) within)) ∙ rest s))

-- the next place, or how many stays there are
abbrev pub next_place : Lists → List ℕ → ℕ → ℕ
next_place t places k = slice_index_or places k (length t.stays)

pub next_most : (t : Lists) (places : List ℕ) (k : ℕ) → All (λ i. i < length t.stays) places → next_place t places k ≤ length t.stays
next_most t places k within = elim (below_or k (length places)) [
  | inl lt ↦ let less = within k (length t.stays) lt in omega (arith, less)
  | inr le ↦ let is : next_place t places k ≡ length t.stays = get_or_past places k (length t.stays) le in omega (arith, is)
]

-- before the next place all those past the earlier ones rest
between : (t : Lists) (places : List ℕ) (k from i : ℕ) → IsStrictlyIncreasing places → All (λ i. i < length t.stays) places
    → ((i : ℕ) → i < length t.stays → IsAtRest t i ⊎ Contains places i)
    → ((j : ℕ) → j < k → j < length places → slice_index_or places j (length t.stays) < from)
    → from ≤ i → i < next_place t places k → IsAtRest t i
between t places k from i rising within has past low lt =
    let most = next_most t places k within in
    elim (has i (omega (arith, lt, most))) [
      | inl rest ↦ rest
      | inr (m, inside, is) ↦
          let at : slice_index_or places m (length t.stays) ≡ i = get_or_default places m (length t.stays) i inside ∙ is in
          elim (below_or m k) [
            | inl less ↦ let early = past m less inside in absurd (omega (arith, early, at, low))
            | inr le ↦ elim (below_or k m) [
              | inl less ↦
                  let up = AllPairs-from_increasing places rising k m (length t.stays) less inside in
                  absurd (omega (arith, up, at, lt))
              | inr more ↦
                  let same : k ≡ m = omega (arith, le, more) in
                  let here : next_place t places k ≡ i = ap (next_place t places) same ∙ at in
                  absurd (omega (arith, here, lt))
            ]
          ]
    ]

pub none_past : (t : Lists) (places : List ℕ) → IsKept t → IsStrictlyIncreasing places → All (λ i. i < length t.stays) places
    → ((i : ℕ) → i < length t.stays → IsAtRest t i ⊎ Contains places i)
    → AreFirstStood 0 t t → AreFirstStood (next_place t places 0) t t
none_past t places kept rising within has none =
    all_rest 0 (next_place t places 0) t t kept (omega arith) (next_most t places 0 within) none
    (λ i from lt. between t places 0 0 i rising within has (λ j early inside. absurd (omega (arith, early))) from lt)

next_above : (t : Lists) (places : List ℕ) (k : ℕ) → IsStrictlyIncreasing places → All (λ i. i < length t.stays) places → k < length places
    → next_place t places k + 1 ≤ next_place t places (k + 1)
next_above t places k rising within here = elim (below_or (k + 1) (length places)) [
  | inl lt ↦ let up = AllPairs-from_increasing places rising k (k + 1) (length t.stays) (omega arith) lt in omega (arith, up)
  | inr le ↦
      let is : next_place t places (k + 1) ≡ length t.stays = get_or_past places (k + 1) (length t.stays) le in
      let less = within k (length t.stays) here in
      omega (arith, is, less)
]

earlier_below : (t : Lists) (places : List ℕ) (k : ℕ) → IsStrictlyIncreasing places → k < length places → (j : ℕ) → j < k + 1 → j < length places
    → slice_index_or places j (length t.stays) < next_place t places k + 1
earlier_below t places k rising here j lt inside = elim (less_or k j (omega (arith, lt))) [
  | inl less ↦ let up = AllPairs-from_increasing places rising j k (length t.stays) less here in omega (arith, up)
  | inr same ↦ let is = ap (next_place t places) same in omega (arith, is)
]

-- once the stay in the next place stands, all before the one behind it do
pub more_stood : (t u : Lists) (places : List ℕ) (k : ℕ) → IsKept t → IsStrictlyIncreasing places → All (λ i. i < length t.stays) places
    → ((i : ℕ) → i < length t.stays → IsAtRest t i ⊎ Contains places i) → k < length places
    → AreFirstStood (next_place t places k + 1) t u → AreFirstStood (next_place t places (k + 1)) t u
more_stood t u places k kept rising within has here h =
    let n : ℕ = next_place t places k + 1 in
    let most = next_most t places (k + 1) within in
    all_rest n (next_place t places (k + 1)) t u kept (next_above t places k rising within here) most h
    (λ i from lt. later_rests n i t u kept.slots h from (omega (arith, lt, most))
    (between t places (k + 1) n i rising within has (earlier_below t places k rising here) from lt))

-- ---- sorted places

pub sorted_rise : (sorted places : List ℕ) → IsSorted nat_cmp sorted → IsFiltered (DiffersFromLast eqb) [] sorted places → IsStrictlyIncreasing places
sorted_rise sorted places is filtered = subst IsStrictlyIncreasing (sym (dedup_is eqb sorted places filtered)) (IsStrictlyIncreasing-dedup sorted is)

pub sorted_has : (found sorted places : List ℕ) (i : ℕ) → IsPermutation found sorted → IsFiltered (DiffersFromLast eqb) [] sorted places
    → Contains found i → Contains places i
sorted_has found sorted places i same filtered has =
    subst (λ (xs : List ℕ). Contains xs i) (sym (dedup_is eqb sorted places filtered))
    (Contains-dedup_nat sorted i (Contains-permutation found sorted i same has))

pub sorted_within : (count : ℕ) (found sorted places : List ℕ) → IsPermutation found sorted → IsFiltered (DiffersFromLast eqb) [] sorted places
    → All (λ i. i < count) found → All (λ i. i < count) places
sorted_within count found sorted places same filtered within =
    subst (All (λ i. i < count)) (sym (dedup_is eqb sorted places filtered)) (λ k d lt.
    All-contains (λ i. i < count) found (slice_index_or (dedup eqb sorted) k d) within
    (Contains-permutation sorted found (slice_index_or (dedup eqb sorted) k d) (IsPermutation-sym found sorted same)
    (Contains-from_dedup eqb sorted (slice_index_or (dedup eqb sorted) k d) (Contains-get_or (dedup eqb sorted) k d lt))))
