-- Which place a slot gets, and which slot a place is of.
use Rattle.std.proofs.Common.{◌≡◌, ◌≢◌, ◌∙◌, ◌⊎◌, ℕ, ◌+◌, ◌<◌, ◌≤◌, nat_eq, List, length, sym, ap, subst, arith, inl, inr, eq-eqb, ne_eqb}
use Rattle.std.proofs.lemmas.Bool.{cases_eq, cases_lt, cases_order}
use Rattle.std.proofs.lemmas.List.{get_or_past}
use Rattle.row_core.specs.Renames.{place_in}
use Rattle.problem_core.specs.declared.parts.RowName.{RowName}
use Rattle.problem_core.specs.declared.parts.RowName.TheVariants.{Held, Stay as StayOf}
use Rattle.problem_core.specs.declared.parts.Stay.{Stay}
use Rattle.problem_core.specs.Layout.{HasStay, Row}
use Rattle.corner_view.specs.declared.types.Owner.{Owner}
use Rattle.corner_view.specs.declared.types.Owner.TheVariants.{Level as LevelSlot, Attr as AttrSlot, Line as LineSlot}
use Rattle.corner_table.specs.declared.table.Priority.{Priority}
use Rattle.corner_table.specs.declared.table.Slot.{Slot}
use Rattle.corner_table.specs.declared.table.TheConstants.{LEVELS}
use Rattle.corner_view.specs.Seen.{IsNamed}
use Rattle.corner_table.specs.Tables.{Lists, attr_slot, line_slot, problem_of, slot_at}
use Rattle.corner_table.specs.Kept.{AreSlots, IsKept, IsSlot}
use Rattle.corner_table.specs.Tables.{no_slot}
use Rattle.corner_table.proofs.Readings.WritingFacts.{attr_owner, line_owner}
use Rattle.corner_table.proofs.Readings.SlotFacts.{named_stay}
use Rattle.corner_table.proofs.Basics.OwnerFacts.{line-like, past-slots}
use Rattle.corner_packing.specs.Packing.{ArePacked, ArePlaces, IsTaken, packed_slot}

-- the lists u are those of t with the slots that are taken at their places
pub record IsPacking (places : List ℕ) (count : ℕ) (t u : Lists) : Type 0 where
  pub kept : IsKept t
  pub are : ArePlaces t places count
  pub packed : ArePacked places count t u

-- the slots of u, and all else of t
abbrev pub after : Lists → Lists → Lists
after t u = record {
  rows = t.rows;
  stays = t.stays;
  slots = u.slots;
  standings = u.standings;
  matrix = u.matrix;
  attr_slots = u.attr_slots;
  row_slots = u.row_slots;
  priorities = t.priorities;
}

pub after_is : (places : List ℕ) (count : ℕ) (t u : Lists) → ArePacked places count t u → after t u ≡ u
after_is places count t u h =
    ap (λ (rows : List Row). with rows t.stays t.priorities) (sym h.rows)
    ∙ ap (λ (stays : List Stay). with u.rows stays t.priorities) (sym h.stays)
    ∙ ap (λ (priorities : List Priority). with u.rows u.stays priorities) (sym h.priorities)
  where
    with : List Row → List Stay → List Priority → Lists
    with rows stays priorities = record {
      rows = rows;
      stays = stays;
      slots = u.slots;
      standings = u.standings;
      matrix = u.matrix;
      attr_slots = u.attr_slots;
      row_slots = u.row_slots;
      priorities = priorities;
    }

-- ---- slots that are taken

pub owner_taken : (t : Lists) (w : ℕ) → (slot_at t w).owner ≢ LevelSlot → IsTaken t w
owner_taken t w ne = elim (cases_lt w (length t.slots)) [
  | inl lt ↦ inr (lt, ne)
  | inr past ↦ absurd (ne (past-slots t w past))
]

pub taken_within : (t : Lists) (w : ℕ) → AreSlots t → IsTaken t w → w < length t.slots
taken_within t w slots taken = elim taken [
  | inl low ↦ let le = slots.levels in omega (arith, low, le)
  | inr (lt, ne) ↦ lt
]

-- a slot past the levels' that is taken is of something
pub taken_owner : (t : Lists) (w : ℕ) → LEVELS ≤ w → IsTaken t w → (slot_at t w).owner ≢ LevelSlot
taken_owner t w high taken = elim taken [
  | inl low ↦ absurd (omega (arith, low, high))
  | inr (lt, ne) ↦ ne
]

pub line_taken : (t : Lists) (name : RowName) → AreSlots t → IsNamed (problem_of t) name → IsTaken t (line_slot t name)
line_taken t name slots named = owner_taken t (line_slot t name) (λ e. subst line-like (sym (line_owner t name slots named) ∙ e) tt)

abbrev attr-like : Owner → Type 0
attr-like LevelSlot = ⊥
attr-like (AttrSlot attr) = Unit {0}
attr-like (LineSlot name) = ⊥

pub attr_taken : (t : Lists) (attr : ℕ) → AreSlots t → HasStay t.stays attr → IsTaken t (attr_slot t attr)
attr_taken t attr slots has = owner_taken t (attr_slot t attr) (λ e. subst attr-like (sym (attr_owner t attr slots has) ∙ e) tt)

-- ---- places

-- two slots that are taken have two places
pub same_slot : (t : Lists) (places : List ℕ) (count v w : ℕ) → ArePlaces t places count → IsTaken t v → IsTaken t w → place_in places v ≡ place_in places w → v ≡ w
same_slot t places count v w are one two e = elim (cases_order v w) [
  | inl same ↦ same
  | inr (inl less) ↦ let lt = are.rising v w less one two in absurd (omega (arith, lt, e))
  | inr (inr more) ↦ let lt = are.rising w v more two one in absurd (omega (arith, lt, e))
]

pub same_test : (t : Lists) (places : List ℕ) (count v w : ℕ) → ArePlaces t places count → IsTaken t v → IsTaken t w → nat_eq (place_in places v) (place_in places w) ≡ nat_eq v w
same_test t places count v w are one two = elim (cases_eq v w) [
  | inl e ↦ eq-eqb (place_in places v) (place_in places w) (ap (place_in places) e) ∙ sym (eq-eqb v w e)
  | inr ne ↦ ne_eqb (place_in places v) (place_in places w) (λ e. ne (same_slot t places count v w are one two e)) ∙ sym (ne_eqb v w ne)
]

-- what comes later has a later place, and no other has
pub later_slot : (t : Lists) (places : List ℕ) (count v w : ℕ) → ArePlaces t places count → IsTaken t v → IsTaken t w → place_in places v < place_in places w → v < w
later_slot t places count v w are one two lt = elim (cases_order v w) [
  | inl same ↦ let e = ap (place_in places) same in absurd (omega (arith, lt, e))
  | inr (inl less) ↦ less
  | inr (inr more) ↦ let back = are.rising w v more two one in absurd (omega (arith, lt, back))
]

-- a number is the place of a slot that is taken, or is past the last one
pub where_is : (t : Lists) (places : List ℕ) (count v : ℕ) → ArePlaces t places count → ((w : ℕ) × IsTaken t w × (place_in places w ≡ v)) ⊎ (count ≤ v)
where_is t places count v are = elim (cases_lt v count) [
  | inl lt ↦ inl (are.onto v lt)
  | inr past ↦ inr past
]

-- a place past the levels' is that of a slot past them
pub slot_high : (t : Lists) (places : List ℕ) (count w : ℕ) → ArePlaces t places count → LEVELS ≤ place_in places w → LEVELS ≤ w
slot_high t places count w are high = let low = are.low w in omega (arith, low, high)

-- ---- names

pub attr_place : (places : List ℕ) (count : ℕ) (t u : Lists) (attr : ℕ) → IsPacking places count t u → attr_slot u attr ≡ place_in places (attr_slot t attr)
attr_place places count t u attr f = f.packed.attr_slots attr

pub line_place : (places : List ℕ) (count : ℕ) (t u : Lists) (name : RowName) → IsPacking places count t u → IsNamed (problem_of t) name → line_slot u name ≡ place_in places (line_slot t name)
line_place places count t u (Held id) f named = f.packed.row_slots id
line_place places count t u (StayOf attr) f named =
    ap (λ (n : ℕ). n + 1) (f.packed.attr_slots attr)
    ∙ sym (f.are.next (attr_slot t attr) (attr_taken t attr f.kept.slots (named_stay (problem_of t) attr named)) (line_taken t (StayOf attr) f.kept.slots named))

-- ---- what is at a place

pub slot_there : (places : List ℕ) (count : ℕ) (t u : Lists) (w : ℕ) → IsPacking places count t u → IsTaken t w → IsSlot t w → IsSlot (after t u) (place_in places w)
slot_there places count t u w f taken is = (f.are.high w is.0 taken, let lt = f.are.within w taken in let n = f.packed.slot_count in omega (arith, lt, n))

pub owner_there : (places : List ℕ) (count : ℕ) (t u : Lists) (w : ℕ) → IsPacking places count t u → IsTaken t w → (slot_at u (place_in places w)).owner ≡ (slot_at t w).owner
owner_there places count t u w f taken = ap (λ (s : Slot). s.owner) (f.packed.slots w taken)

-- past the last place there is nothing
pub past_place : (places : List ℕ) (count : ℕ) (t u : Lists) (v : ℕ) → IsPacking places count t u → count ≤ v → slot_at u v ≡ no_slot
past_place places count t u v f past = get_or_past u.slots v no_slot (let n = f.packed.slot_count in omega (arith, n, past))

-- the slot of a line
pub line_there : (places : List ℕ) (count : ℕ) (t u : Lists) (name : RowName) → IsPacking places count t u → IsNamed (problem_of t) name
    → slot_at u (line_slot u name) ≡ packed_slot places (line_slot t name) (slot_at t (line_slot t name))
line_there places count t u name f named = ap (slot_at u) (line_place places count t u name f named) ∙ f.packed.slots (line_slot t name) (line_taken t name f.kept.slots named)
