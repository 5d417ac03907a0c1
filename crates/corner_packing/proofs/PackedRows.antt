-- The rows of slots at their places: the same numbers at the places of the columns.
use Rattle.std.proofs.Common.{◌≡◌, ◌≢◌, ◌∙◌, ℕ, suc, ◌<◌, Bool, cond, nat_eq, List, [], ◌∷◌, length, slice_index_or, refl, sym, ap, ap₂, subst, arith, inl, inr, ℤ, pos, neg_ℤ, ◌+ℤ◌, All}
use Rattle.std.proofs.lemmas.Bool.{cases_eq}
use Rattle.std.proofs.lemmas.List.{get_or_past}
use Rattle.row_core.specs.Renames.{place_in, renamed}
use Rattle.row_core.specs.Rows.{IsKeptRow, Term, coefficient}
use Rattle.row_core.proofs.Places.{at-elsewhere, coefficient_at}
use Rattle.row_core.proofs.Renames.{renamed_coefficient}
use Rattle.row_core.proofs.Walks.{nothing}
use Rattle.problem_core.specs.declared.parts.RowName.{RowName}
use Rattle.corner_view.specs.declared.types.Owner.TheVariants.{Line as LineSlot}
use Rattle.corner_table.specs.declared.table.Standing.{Standing}
use Rattle.corner_view.specs.Seen.{IsNamed}
use Rattle.corner_table.specs.Tables.{Lists, entry, line_slot, number, problem_of, row_at, slot_at, standing_at}
use Rattle.corner_table.specs.Kept.{AreOutside, IsKept}
use Rattle.corner_table.proofs.Readings.KeptFacts.{row_kept}
use Rattle.corner_table.specs.Kept.{IsOutsideSlot}
use Rattle.corner_table.proofs.Basics.OwnerFacts.{line-like}
use Rattle.corner_packing.specs.Packing.{IsTaken}
use Rattle.corner_packing.proofs.PackedPlaces.{IsPacking, after, line_place, line_taken, owner_taken, owner_there, same_slot, same_test, slot_there, where_is}

-- ---- columns

-- a slot of a line is taken
pub line_owned_taken : (t : Lists) (w : ℕ) (name : RowName) → (slot_at t w).owner ≡ LineSlot name → IsTaken t w
line_owned_taken t w name e = owner_taken t w (λ none. subst line-like (sym e ∙ none) tt)

-- a column of a row in lowest terms has a number that isn't 0
column-counts : (row : List Term) (k : ℕ) (d : Term) → IsKeptRow row → k < length row → coefficient (slice_index_or row k d).col row ≢ pos 0
column-counts row k d kept lt z = kept.lowest.nonzero k d lt (sym (coefficient_at row k d kept.lowest.rising lt) ∙ z)

row-taken : (t : Lists) (w : ℕ) → IsKept t → IsTaken t w → All (λ s. IsTaken t s.col) (row_at t w)
row-taken t w kept taken k d lt =
    let c : ℕ = (slice_index_or (row_at t w) k d).col in
    elim (cases_eq c w) [
      | inl e ↦ subst (IsTaken t) (sym e) taken
      | inr ne ↦
          let out = kept.outside w c (column-counts (row_at t w) k d (row_kept t w kept) lt) ne in
          line_owned_taken t c out.2.0 out.2.1
    ]

-- ---- numbers

-- a column with a number is the place of one of the row's
came-from : (places : List ℕ) (c : ℕ) (row : List Term) → coefficient c (renamed places row) ≢ pos 0 → (k : ℕ) × (k < length row) × (place_in places (slice_index_or row k nothing).col ≡ c)
came-from places c [] some = absurd (some refl)
came-from places c (x ∷ row) some = elim (cases_eq (place_in places x.col) c) [
  | inl e ↦ (0, omega arith, e)
  | inr ne ↦
      let none = at-elsewhere c (record { col = place_in places x.col; by = x.by }) ne in
      let k = came-from places c row (λ z. some (ap₂ ◌+ℤ◌ none z)) in
      (suc k.0, omega (arith, k.1), k.2)
]

pub entry_there : (places : List ℕ) (count : ℕ) (t u : Lists) (w c : ℕ) → IsPacking places count t u → IsTaken t w → IsTaken t c → entry u (place_in places w) (place_in places c) ≡ entry t w c
entry_there places count t u w c f one two =
    ap (coefficient (place_in places c)) (f.packed.matrix w one)
    ∙ renamed_coefficient places (row_at t w) c
    (λ k d lt e. same_slot t places count (slice_index_or (row_at t w) k d).col c f.are (row-taken t w f.kept one k d lt) two e)

pub number_there : (places : List ℕ) (count : ℕ) (t u : Lists) (w : ℕ) (name : RowName) → IsPacking places count t u → IsTaken t w → IsNamed (problem_of t) name
    → number (after t u) (place_in places w) name ≡ number t w name
number_there places count t u w name f taken named =
    let c : ℕ = line_slot t name in
    let is = line_taken t name f.kept.slots named in
    ap (λ (n : ℕ). cond (nat_eq n (place_in places w)) (pos 0) (neg_ℤ (entry u (place_in places w) n))) (line_place places count t u name f named)
    ∙ ap₂ (λ (b : Bool) (z : ℤ). cond b (pos 0) (neg_ℤ z)) (same_test t places count c w f.are is taken) (entry_there places count t u w c f taken is)

-- ---- outside lines

pub packed_outside : (places : List ℕ) (count : ℕ) (t u : Lists) → IsPacking places count t u → AreOutside (after t u)
packed_outside places count t u f v c some ne = elim (where_is t places count v f.are) [
  | inl (w, taken, e) ↦
      let row : List Term = row_at t w in
      let k = came-from places c row (λ z. some (ap (λ (n : ℕ). entry u n c) (sym e) ∙ ap (coefficient c) (f.packed.matrix w taken) ∙ z)) in
      let d : ℕ = (slice_index_or row k.0 nothing).col in
      let at : place_in places d ≡ c = k.2 in
      let out = f.kept.outside w d (column-counts row k.0 nothing (row_kept t w f.kept) k.1) (λ q. ne (sym at ∙ ap (place_in places) q ∙ e)) in
      let is = line_owned_taken t d out.2.0 out.2.1 in
      subst (IsOutsideSlot (after t u)) at
      ((
        slot_there places count t u d f is out.0,
        ap (λ (s : Standing). s.side) (f.packed.standings d is) ∙ out.1,
        (out.2.0, owner_there places count t u d f is ∙ out.2.1),
      ))
  | inr past ↦ absurd (some (ap (coefficient c) (get_or_past u.matrix v [] (let n = f.packed.row_count in omega (arith, n, past)))))
]

-- ---- what stands at a line's slot

pub line_standing : (places : List ℕ) (count : ℕ) (t u : Lists) (name : RowName) → IsPacking places count t u → IsNamed (problem_of t) name
    → standing_at u (line_slot u name) ≡ standing_at t (line_slot t name)
line_standing places count t u name f named = ap (standing_at u) (line_place places count t u name f named) ∙ f.packed.standings (line_slot t name) (line_taken t name f.kept.slots named)
