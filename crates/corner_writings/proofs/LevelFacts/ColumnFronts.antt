-- The strongest level of a column, found slot by slot.
use Rattle.std.proofs.Common.{◌≡◌, ◌≢◌, ◌⊎◌, ℕ, ◌∙◌, ◌+◌, ◌<◌, ◌≤◌, List, length, slice_index_or, refl, sym, ap, subst, arith, inl, inr, pos, AllPairs, Contains, Some, None, IfSome, IfNone}
use Rattle.std.specs.declared.option.Option.{Option}
use Rattle.std.proofs.lemmas.Bool.{cases_eq, cases_lt}
use Rattle.problem_core.specs.declared.parts.Side.{Side}
use Rattle.problem_core.specs.declared.parts.RowName.TheVariants.{Stay as StayOf}
use Rattle.corner_table.specs.declared.table.TheConstants.{LEVELS, OWN_RANK}
use Rattle.corner_table.specs.Tables.{Lists, entry, slot_at, stay_rank}
use Rattle.corner_table.specs.Kept.{HasCost, IsKept, IsStayOwner}
use Rattle.corner_table.specs.Reads.LevelNumbers.{HasReducedAt, IsFirstInColumn, IsFirstSlot, IsNoneInColumn}
use Rattle.corner_table.proofs.Readings.SlotFacts.{any_is, named_stay}
use Rattle.corner_writings.specs.declared.levels.Found.{Found}
use Rattle.corner_writings.specs.Walks.{IsReducedThere}
use Rattle.corner_table.proofs.Basics.OwnerFacts.{line-owned, stay_owner}
use Rattle.corner_writings.proofs.LevelFacts.LevelFrontFacts.{before_in, column_before_home, home_alone, home_before_column, none_in}

-- the slot's rank
abbrev pub rank_of : Lists → ℕ → ℕ
rank_of t w = (slot_at t w).rank

-- of the first n of the slots none that is stronger has a reduced cost, and none at all where there is no level so far
abbrev pub IsBestSoFar : Lists → ℕ → Side → List ℕ → ℕ → Option Found → Type 0
IsBestSoFar t line side xs n found =
    IfSome found (λ best. IsReducedThere t line side best × (LEVELS ≤ best.l)
    × ((i : ℕ) → i < n → (slot_at t (slice_index_or xs i 0)).rank < (slot_at t best.l).rank → HasReducedAt t line side (slice_index_or xs i 0) → ⊥))
    × IfNone found ((i : ℕ) → i < n → HasReducedAt t line side (slice_index_or xs i 0) → ⊥)

-- ---- a further slot

below : (j i : ℕ) → j < i + 1 → j ≢ i → j < i
below j i lt ne = elim (cases_lt j i) [
  | inl l ↦ l
  | inr le ↦ absurd (ne (omega (arith, lt, le)))
]

-- that is none
pub best_stays : (t : Lists) (line : ℕ) (side : Side) (xs : List ℕ) (n : ℕ) (found : Option Found) → IsBestSoFar t line side xs n found
    → (((best : Found) × (found ≡ Some best) × (rank_of t best.l ≤ rank_of t (slice_index_or xs n 0))) ⊎ (HasReducedAt t line side (slice_index_or xs n 0) → ⊥))
    → IsBestSoFar t line side xs (n + 1) found
best_stays t line side xs n None h passed = (
  tt,
  λ i lt there. elim (cases_eq i n) [
    | inl e ↦ elim passed [
      | inl (best, same, le) ↦ absurd (not-some best same)
      | inr none ↦ none (subst (λ (k : ℕ). HasReducedAt t line side (slice_index_or xs k 0)) e there)
    ]
    | inr ne ↦ h.1 i (below i n lt ne) there
  ],
)
  where
    not-some : (best : Found) → None ≡ Some best → ⊥
    not-some best e = absurd (subst (λ (o : Option Found). IfSome o (λ b. ⊥)) e tt)
best_stays t line side xs n (Some best) h passed = (
  (
    h.0.0,
    h.0.1,
    λ i lt less there. elim (cases_eq i n) [
      | inl e ↦ elim passed [
        | inl (other, same, le) ↦
            let one : best ≡ other = one-some best other same in
            let l : rank_of t (slice_index_or xs n 0) < rank_of t best.l = subst (λ (k : ℕ). rank_of t (slice_index_or xs k 0) < rank_of t best.l) e less in
            let r : rank_of t best.l ≡ rank_of t other.l = ap (λ (f : Found). rank_of t f.l) one in
            omega (arith, l, r, le)
        | inr none ↦ none (subst (λ (k : ℕ). HasReducedAt t line side (slice_index_or xs k 0)) e there)
      ]
      | inr ne ↦ h.0.2 i (below i n lt ne) less there
    ],
  ),
  tt,
)
  where
    one-some : (a b : Found) → Some a ≡ Some b → a ≡ b
    one-some a b e = subst (λ (o : Option Found). IfSome o (λ c. a ≡ c)) e refl

-- that is a stay's, stronger than what is found so far
pub best_next : (t : Lists) (line : ℕ) (side : Side) (xs : List ℕ) (n : ℕ) (found : Option Found) (here : Found) → IsBestSoFar t line side xs n found
    → IfSome found (λ best. rank_of t (slice_index_or xs n 0) < rank_of t best.l) → here.l ≡ slice_index_or xs n 0 → LEVELS ≤ slice_index_or xs n 0 → IsReducedThere t line side here
    → IsBestSoFar t line side xs (n + 1) (Some here)
best_next t line side xs n found here h less is high there = (
  (
    there,
    omega (arith, is, high),
    λ i lt lower some. elim (cases_eq i n) [
      | inl e ↦ let same : rank_of t (slice_index_or xs i 0) ≡ rank_of t here.l = ap (λ (k : ℕ). rank_of t (slice_index_or xs k 0)) e ∙ ap (rank_of t) (sym is) in omega (arith, same, lower)
      | inr ne ↦ earlier found h less i (below i n lt ne) (subst (λ (k : ℕ). rank_of t (slice_index_or xs i 0) < rank_of t k) is lower) some
    ],
  ),
  tt,
)
  where
    earlier : (found : Option Found) → IsBestSoFar t line side xs n found → IfSome found (λ best. rank_of t (slice_index_or xs n 0) < rank_of t best.l)
        → (i : ℕ) → i < n → rank_of t (slice_index_or xs i 0) < rank_of t (slice_index_or xs n 0) → HasReducedAt t line side (slice_index_or xs i 0) → ⊥
    earlier None h less i lt lower there = h.1 i lt there
    earlier (Some best) h less i lt lower there = h.0.2 i lt (omega (arith, less, lower)) there

-- ---- a priority level, or a stay with its own rank, ends the search

stay-high : (t : Lists) (m : ℕ) → IsKept t → IsStayOwner (slot_at t m).owner → LEVELS ≤ rank_of t m
stay-high t m kept h =
    let o = stay_owner (slot_at t m).owner h in
    let owned = line-owned t m (StayOf o.0) kept.slots o.1 in
    let high : LEVELS ≤ stay_rank t o.0 =
    any_is (λ s. LEVELS ≤ stay_rank t s.attr) (λ s. s.attr ≡ o.0) t.stays kept.slots.stay_ranks (named_stay (record { rows = t.rows; stays = t.stays }) o.0 owned.0)
    (λ s r e. subst (λ (a : ℕ). LEVELS ≤ stay_rank t a) e r) in
    subst (λ (w : ℕ). LEVELS ≤ rank_of t w) owned.1 high

-- a stronger level has a lower slot
pub lower_slot : (t : Lists) (l m : ℕ) → IsKept t → HasCost t l → HasCost t m → (l < LEVELS) ⊎ (OWN_RANK ≤ rank_of t l) → rank_of t m < rank_of t l → m < l
lower_slot t l m kept (inl low) (inl level) ends less = let a = kept.slots.level_ranks l low in let b = kept.slots.level_ranks m level in omega (arith, a, b, less)
lower_slot t l m kept (inl low) (inr stay) ends less = let a = kept.slots.level_ranks l low in let high = stay-high t m kept stay in absurd (omega (arith, a, high, less, low))
lower_slot t l m kept (inr here) (inl level) (inl low) less = let a = kept.slots.level_ranks l low in let b = kept.slots.level_ranks m level in omega (arith, a, b, less)
lower_slot t l m kept (inr here) (inl level) (inr own) less = elim (cases_lt l LEVELS) [
  | inl low ↦ let a = kept.slots.level_ranks l low in absurd (omega (arith, a, own, low))
  | inr above ↦ omega (arith, above, level)
]
lower_slot t l m kept (inr here) (inr stay) (inl low) less = let a = kept.slots.level_ranks l low in let high = stay-high t m kept stay in absurd (omega (arith, a, high, less, low))
lower_slot t l m kept (inr here) (inr stay) (inr own) less = elim (cases_lt m l) [
  | inl before ↦ before
  | inr le ↦ elim (cases_eq l m) [
    | inl e ↦ let same : rank_of t l ≡ rank_of t m = ap (rank_of t) e in absurd (omega (arith, same, less))
    | inr ne ↦ let more = kept.slots.own_last l m (omega (arith, le, ne)) here stay own in absurd (omega (arith, more, less))
  ]
]

-- none of the slots before it has a reduced cost
pub ends_first : (t : Lists) (line : ℕ) (side : Side) (xs : List ℕ) (n : ℕ) (found : Option Found) (here : Found) → IsKept t → AllPairs (λ v w. v < w) xs → n < length xs → ((m : ℕ) → entry t m line ≢ pos 0 → Contains xs m)
    → IsBestSoFar t line side xs n found → IfSome found (λ best. rank_of t (slice_index_or xs n 0) < rank_of t best.l)
    → (slice_index_or xs n 0 < LEVELS) ⊎ (OWN_RANK ≤ rank_of t (slice_index_or xs n 0)) → here.l ≡ slice_index_or xs n 0 → IsReducedThere t line side here
    → IsFirstInColumn t line side here.l
ends_first t line side xs n found here kept rising within in-column h less ends is there =
    subst (IsFirstInColumn t line side) (sym is) (record {
      there = at;
      first = λ m lower some more. before found h less m lower (in-column m some) more;
    })
  where
    at : HasReducedAt t line side (slice_index_or xs n 0)
    at = subst (HasReducedAt t line side) is there.there

    before : (found : Option Found) → IsBestSoFar t line side xs n found → IfSome found (λ best. rank_of t (slice_index_or xs n 0) < rank_of t best.l)
        → (m : ℕ) → rank_of t m < rank_of t (slice_index_or xs n 0) → Contains xs m → HasReducedAt t line side m → ⊥
    before None h less m lower has there =
        before_in (HasReducedAt t line side) xs n m rising within (lower_slot t (slice_index_or xs n 0) m kept at.0 there.0 ends lower) has h.1 there
    before (Some best) h less m lower has there =
        before_in (λ w. (rank_of t w < rank_of t best.l) × HasReducedAt t line side w) xs n m rising within (lower_slot t (slice_index_or xs n 0) m kept at.0 there.0 ends lower) has (λ j lt k. h.0.2 j lt k.0 k.1) (omega (arith, lower, less), there)

-- ---- all slots

pub best_is_first : (t : Lists) (line : ℕ) (side : Side) (xs : List ℕ) (n : ℕ) (found : Option Found) → ((m : ℕ) → entry t m line ≢ pos 0 → Contains xs m) → length xs ≤ n → IsBestSoFar t line side xs n found → IfSome found (λ best. IsFirstInColumn t line side best.l)
best_is_first t line side xs n None in-column past h = tt
best_is_first t line side xs n (Some best) in-column past h = record {
  there = h.0.0.there;
  first = λ m lower some there.
      none_in (λ w. (rank_of t w < rank_of t best.l) × HasReducedAt t line side w) xs m (in-column m some) (λ j lt k. h.0.2 j (omega (arith, lt, past)) k.0 k.1) (lower, there);
}

pub none_is_none : (t : Lists) (line : ℕ) (side : Side) (xs : List ℕ) (n : ℕ) (found : Option Found) → ((m : ℕ) → entry t m line ≢ pos 0 → Contains xs m) → length xs ≤ n → IsBestSoFar t line side xs n found → IfNone found (IsNoneInColumn t line side)
none_is_none t line side xs n None in-column past h = λ m some there. none_in (HasReducedAt t line side) xs m (in-column m some) (λ j lt. h.1 j (omega (arith, lt, past))) there
none_is_none t line side xs n (Some best) in-column past h = tt

-- ---- with the line's own level

-- that is stronger than what is found in the column
pub own_before : (t : Lists) (w home : ℕ) (side : Side) (found : Option Found) (own : Found) → (slot_at t w).home ≡ home → IfSome found (λ f. rank_of t home < rank_of t f.l)
    → IfSome found (λ f. IsFirstInColumn t w side f.l) → IfNone found (IsNoneInColumn t w side) → own.l ≡ home → IsReducedThere t w side own → IsFirstSlot t w side own.l
own_before t w home side found own is before first none at there =
    subst (IsFirstSlot t w side) (is ∙ sym at) (by-found found (subst (λ (h : ℕ). IfSome found (λ f. rank_of t h < rank_of t f.l)) (sym is) before) first none)
  where
    here : HasReducedAt t w side (slot_at t w).home
    here = subst (HasReducedAt t w side) (at ∙ sym is) there.there

    by-found : (found : Option Found) → IfSome found (λ f. rank_of t (slot_at t w).home < rank_of t f.l) → IfSome found (λ f. IsFirstInColumn t w side f.l) → IfNone found (IsNoneInColumn t w side) → IsFirstSlot t w side (slot_at t w).home
    by-found None before first none = home_alone t w side here none
    by-found (Some f) before first none = home_before_column t w side f.l (omega (arith, before)) here first

-- that isn't
pub column_before : (t : Lists) (w home : ℕ) (side : Side) (found : Option Found) → (slot_at t w).home ≡ home → ((best : Found) × (found ≡ Some best) × (rank_of t best.l ≤ rank_of t home))
    → IfSome found (λ f. IsFirstInColumn t w side f.l) → IfSome found (λ f. IsFirstSlot t w side f.l)
column_before t w home side found is (best, same, le) first =
    subst (λ (o : Option Found). IfSome o (λ f. IsFirstSlot t w side f.l)) (sym same)
    (column_before_home t w side best.l (subst (λ (h : ℕ). rank_of t best.l ≤ rank_of t h) (sym is) le) (subst (λ (o : Option Found). IfSome o (λ f. IsFirstInColumn t w side f.l)) same first))
