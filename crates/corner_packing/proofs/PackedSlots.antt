-- The slots of attributes, lines and levels at their places: `packed_slots`.
use Rattle.std.proofs.Common.{◌≡◌, ◌∙◌, ◌⊎◌, ℕ, ◌+◌, ◌<◌, ◌≤◌, ◌++◌, Bool, cond, List, [], ◌∷◌, map, length, slice_index_or, sym, ap, subst, arith, inl, inr, All, lt-ltb, le-ltb}
use Rattle.std.specs.List.{AllByRecursion as Each}
use Rattle.std.proofs.lemmas.Bool.{cases_lt, cases_order}
use Rattle.std.proofs.lemmas.List.{get_or_past}
use Rattle.std.proofs.lemmas.List.Elements.{All-from_recursion}
use Rattle.row_core.specs.Renames.{place_in}
use Rattle.problem_core.specs.declared.parts.RowName.{RowName}
use Rattle.problem_core.specs.declared.parts.RowName.TheVariants.{Held, Stay as StayOf}
use Rattle.problem_core.specs.declared.parts.Stay.{Stay}
use Rattle.problem_core.specs.Layout.{HasStay, Line, Problem, Row, line_of_row, lines, stay_lines}
use Rattle.corner_view.specs.declared.types.Owner.{Owner}
use Rattle.corner_view.specs.declared.types.Owner.TheVariants.{Level as LevelSlot, Attr as AttrSlot, Line as LineSlot}
use Rattle.corner_table.specs.declared.table.Slot.{Slot}
use Rattle.corner_table.specs.declared.table.TheConstants.{LEVELS, OWN_RANK}
use Rattle.corner_view.specs.Seen.{IsNamed}
use Rattle.corner_table.specs.Tables.{Lists, attr_slot, line_slot, problem_of, slot_at, stay_rank}
use Rattle.corner_table.specs.Kept.{AreSlots, AreStored, IsAttrSlot, IsKept, IsLineSlot, IsOwned, IsSlot, IsStayOwner, home_of}
use Rattle.corner_table.proofs.Basics.SmallFacts.{own_name, own_stay}
use Rattle.corner_table.proofs.Readings.WritingFacts.{line_owner}
use Rattle.corner_table.proofs.Basics.OwnerFacts.{stay_named}
use Rattle.corner_packing.specs.Packing.{ArePlaces, IsTaken, packed_rank, packed_slot}
use Rattle.corner_packing.proofs.PackedPlaces.{IsPacking, after, attr_place, attr_taken, later_slot, line_place, line_taken, line_there, owner_there, past_place, slot_high, slot_there, taken_owner, taken_within, where_is}

-- ---- attributes and lines

attr-there : (places : List ℕ) (count : ℕ) (t u : Lists) (attr : ℕ) → IsPacking places count t u → HasStay t.stays attr → IsAttrSlot t attr → IsAttrSlot (after t u) attr
attr-there places count t u attr f has s =
    let place = attr_place places count t u attr f in
    let taken = attr_taken t attr f.kept.slots has in
    record {
      slot = subst (IsSlot (after t u)) (sym place) (slot_there places count t u (attr_slot t attr) f taken s.slot);
      owner = ap (λ (c : ℕ). (slot_at u c).owner) place ∙ owner_there places count t u (attr_slot t attr) f taken ∙ s.owner;
    }

-- a row's level is one of the priority levels
abbrev pub IsLow : ℕ → RowName → Type 0
IsLow level (Held id) = level < LEVELS
IsLow level (StayOf attr) = Unit {0}

pub all_low : (p : Problem) → All (λ l. IsLow l.level l.name) (lines p)
all_low p = All-from_recursion (λ l. IsLow l.level l.name) (lines p) (of-rows p.rows)
  where
    of-stays : (level : ℕ) (stays : List Stay) → Each (λ l. IsLow l.level l.name) (stay_lines level stays)
    of-stays level [] = tt
    of-stays level (s ∷ stays) = (tt, of-stays (level + 1) stays)

    of-rows : (rows : List Row) → Each (λ l. IsLow l.level l.name) (map line_of_row rows ++ stay_lines 1001 p.stays)
    of-rows [] = of-stays 1001 p.stays
    of-rows (r ∷ rows) = (omega arith, of-rows rows)

home-there : (places : List ℕ) (count : ℕ) (t u : Lists) (l : Line) (name : RowName) → IsPacking places count t u → IsNamed (problem_of t) name → IsLow l.level name
    → place_in places (home_of t l name) ≡ home_of (after t u) l name
home-there places count t u l (Held id) f named low = f.are.levels l.level low
home-there places count t u l (StayOf attr) f named low = sym (line_place places count t u (StayOf attr) f named)

line-there : (places : List ℕ) (count : ℕ) (t u : Lists) (l : Line) → IsPacking places count t u → IsNamed (problem_of t) l.name → IsLow l.level l.name → IsLineSlot t l → IsLineSlot (after t u) l
line-there places count t u l f named low s =
    let w : ℕ = line_slot t l.name in
    let there = line_there places count t u l.name f named in
    record {
      slot = subst (IsSlot (after t u)) (sym (line_place places count t u l.name f named)) (slot_there places count t u w f (line_taken t l.name f.kept.slots named) s.slot);
      owner = ap (λ (x : Slot). x.owner) there ∙ s.owner;
      home = ap (λ (x : Slot). x.home) there ∙ ap (place_in places) s.home ∙ home-there places count t u l l.name f named low;
      weight = ap (λ (x : Slot). x.weight) there ∙ s.weight;
      scale = ap (λ (x : Slot). x.scale) there ∙ s.scale;
      rel = ap (λ (x : Slot). x.rel) there ∙ s.rel;
    }

owned-there : (places : List ℕ) (count : ℕ) (t u : Lists) (w : ℕ) (o : Owner) → IsPacking places count t u → IsOwned t w o → IsOwned (after t u) (place_in places w) o
owned-there places count t u w LevelSlot f h = tt
owned-there places count t u w (AttrSlot attr) f h = (h.0, attr_place places count t u attr f ∙ ap (place_in places) h.1)
owned-there places count t u w (LineSlot name) f h = (h.0, line_place places count t u name f h.0 ∙ ap (place_in places) h.1)

owners-there : (places : List ℕ) (count : ℕ) (t u : Lists) (v : ℕ) → IsPacking places count t u → IsSlot (after t u) v → IsOwned (after t u) v (slot_at u v).owner
owners-there places count t u v f is = elim (where_is t places count v f.are) [
  | inl (w, taken, e) ↦
      let high : LEVELS ≤ w = slot_high t places count w f.are (subst (λ (n : ℕ). LEVELS ≤ n) (sym e) is.0) in
      let owned = f.kept.slots.owners w (high, taken_within t w f.kept.slots taken) in
      subst (λ (n : ℕ). IsOwned (after t u) n (slot_at u n).owner) e
      (subst (λ (o : Owner). IsOwned (after t u) (place_in places w) o) (sym (owner_there places count t u w f taken)) (owned-there places count t u w (slot_at t w).owner f owned))
  | inr past ↦ let n = f.packed.slot_count in let lt = is.1 in absurd (omega (arith, n, lt, past))
]

-- ---- ranks

-- a rank that is none's own stays, and an own one is that of the place
pub which_rank : (place rank : ℕ) → ((rank < OWN_RANK) × (packed_rank place rank ≡ rank)) ⊎ ((OWN_RANK ≤ rank) × (packed_rank place rank ≡ OWN_RANK + place))
which_rank place rank = elim (cases_lt rank OWN_RANK) [
  | inl lt ↦ inl (lt, ap (λ (b : Bool). cond b rank (OWN_RANK + place)) (lt-ltb rank OWN_RANK lt))
  | inr le ↦ inr (le, ap (λ (b : Bool). cond b rank (OWN_RANK + place)) (le-ltb rank OWN_RANK le))
]

pub rank_there : (places : List ℕ) (count : ℕ) (t u : Lists) (w : ℕ) → IsPacking places count t u → IsTaken t w → (slot_at u (place_in places w)).rank ≡ packed_rank (place_in places w) (slot_at t w).rank
rank_there places count t u w f taken = ap (λ (s : Slot). s.rank) (f.packed.slots w taken)

stay-rank : (places : List ℕ) (count : ℕ) (t u : Lists) (attr : ℕ) → IsPacking places count t u → HasStay t.stays attr
    → stay_rank u attr ≡ packed_rank (place_in places (attr_slot t attr + 1)) (stay_rank t attr)
stay-rank places count t u attr f has = ap (λ (s : Slot). s.rank) (line_there places count t u (StayOf attr) f (stay_named (problem_of t) attr has))

level-rank : (places : List ℕ) (count : ℕ) (t u : Lists) (attr : ℕ) → IsPacking places count t u → HasStay t.stays attr → LEVELS ≤ stay_rank t attr → LEVELS ≤ stay_rank u attr
level-rank places count t u attr f has high =
    let e = stay-rank places count t u attr f has in
    elim (which_rank (place_in places (attr_slot t attr + 1)) (stay_rank t attr)) [
      | inl (lt, same) ↦ omega (arith, e, same, high)
      | inr (le, own) ↦ omega (arith, e, own)
    ]

stay-owner : (t : Lists) (attr : ℕ) → AreSlots t → HasStay t.stays attr → IsStayOwner (slot_at t (attr_slot t attr + 1)).owner
stay-owner t attr slots has = subst IsStayOwner (sym (line_owner t (StayOf attr) slots (stay_named (problem_of t) attr has))) tt

stays-rise : (places : List ℕ) (count : ℕ) (t u : Lists) (a b : ℕ) → IsPacking places count t u → HasStay t.stays a → HasStay t.stays b → stay_rank t a < stay_rank t b → stay_rank u a < stay_rank u b
stays-rise places count t u a b f one two less =
    let v : ℕ = attr_slot t a + 1 in
    let w : ℕ = attr_slot t b + 1 in
    let c = stay-rank places count t u a f one in
    let d = stay-rank places count t u b f two in
    elim (which_rank (place_in places v) (stay_rank t a)) [
      | inl (lt, same) ↦ elim (which_rank (place_in places w) (stay_rank t b)) [
        | inl (below, also) ↦ omega (arith, c, d, same, also, less)
        | inr (le, own) ↦ omega (arith, c, d, same, own, lt)
      ]
      | inr (le, own) ↦ elim (which_rank (place_in places w) (stay_rank t b)) [
        | inl (below, also) ↦ absurd (omega (arith, below, le, less))
        | inr (above, too) ↦
            let before : v < w = in-order le in
            let rise = f.are.rising v w before (line_taken t (StayOf a) f.kept.slots (stay_named (problem_of t) a one)) (line_taken t (StayOf b) f.kept.slots (stay_named (problem_of t) b two)) in
            omega (arith, c, d, own, too, rise)
      ]
    ]
  where
    in-order : OWN_RANK ≤ stay_rank t a → attr_slot t a + 1 < attr_slot t b + 1
    in-order high = elim (cases_order (attr_slot t a + 1) (attr_slot t b + 1)) [
      | inl same ↦ let e = ap (λ (n : ℕ). (slot_at t n).rank) same in absurd (omega (arith, e, less))
      | inr (inl before) ↦ before
      | inr (inr behind) ↦
          let back = f.kept.slots.own_last (attr_slot t b + 1) (attr_slot t a + 1) behind (stay-owner t b f.kept.slots two) (stay-owner t a f.kept.slots one) (omega (arith, high, less)) in
          absurd (omega (arith, back, less))
    ]

rank-most : (places : List ℕ) (count : ℕ) (t u : Lists) (v : ℕ) → IsPacking places count t u → (slot_at u v).rank ≤ OWN_RANK + v
rank-most places count t u v f = elim (where_is t places count v f.are) [
  | inl (w, taken, e) ↦
      let is = rank_there places count t u w f taken in
      let le : (slot_at u (place_in places w)).rank ≤ OWN_RANK + place_in places w =
      elim (which_rank (place_in places w) (slot_at t w).rank) [
        | inl (lt, same) ↦ omega (arith, is, same, lt)
        | inr (high, own) ↦ omega (arith, is, own)
      ] in
      subst (λ (n : ℕ). (slot_at u n).rank ≤ OWN_RANK + n) e le
  | inr past ↦ let e = ap (λ (s : Slot). s.rank) (past_place places count t u v f past) in omega (arith, e)
]

-- a stay's place is that of a stay's slot
pub record IsStayPlace (places : List ℕ) (t u : Lists) (v : ℕ) : Type 0 where
  pub slot : ℕ
  pub taken : IsTaken t slot
  pub is : place_in places slot ≡ v
  pub owner : IsStayOwner (slot_at t slot).owner
  pub rank : (slot_at u v).rank ≡ packed_rank v (slot_at t slot).rank

stay-place : (places : List ℕ) (count : ℕ) (t u : Lists) (v : ℕ) → IsPacking places count t u → IsStayOwner (slot_at u v).owner → IsStayPlace places t u v
stay-place places count t u v f stay = elim (where_is t places count v f.are) [
  | inl (w, taken, e) ↦ record {
    slot = w;
    taken = taken;
    is = e;
    owner = subst IsStayOwner (ap (λ (n : ℕ). (slot_at u n).owner) (sym e) ∙ owner_there places count t u w f taken) stay;
    rank = subst (λ (n : ℕ). (slot_at u n).rank ≡ packed_rank n (slot_at t w).rank) e (rank_there places count t u w f taken);
  }
  | inr past ↦ absurd (subst (λ (s : Slot). IsStayOwner s.owner) (past_place places count t u v f past) stay)
]

own-last : (places : List ℕ) (count : ℕ) (t u : Lists) (v w : ℕ) → IsPacking places count t u → v < w → IsStayOwner (slot_at u v).owner → IsStayOwner (slot_at u w).owner
    → OWN_RANK ≤ (slot_at u v).rank → (slot_at u v).rank < (slot_at u w).rank
own-last places count t u v w f lt one two own =
    let a = stay-place places count t u v f one in
    let b = stay-place places count t u w f two in
    let x = a.rank in
    let y = b.rank in
    let i = a.is in
    let j = b.is in
    elim (which_rank v (slot_at t a.slot).rank) [
      | inl (less, same) ↦ absurd (omega (arith, x, same, less, own))
      | inr (high, is) ↦
          let before = later_slot t places count a.slot b.slot f.are a.taken b.taken (omega (arith, i, j, lt)) in
          let more = f.kept.slots.own_last a.slot b.slot before a.owner b.owner high in
          elim (which_rank w (slot_at t b.slot).rank) [
            | inl (low, same) ↦ absurd (omega (arith, low, high, more))
            | inr (up, also) ↦ omega (arith, x, y, is, also, lt)
          ]
    ]

-- ---- all of it

-- a level's slot is where it was
pub level_there : (places : List ℕ) (count : ℕ) (t u : Lists) (k : ℕ) → IsPacking places count t u → k < LEVELS → slot_at u k ≡ packed_slot places k (slot_at t k)
level_there places count t u k f low =
    let same = f.are.levels k low in
    subst (λ (n : ℕ). slot_at u n ≡ packed_slot places k (slot_at t k)) same (f.packed.slots k (inl low))

level-ranked : (places : List ℕ) (count : ℕ) (t u : Lists) (k : ℕ) → IsPacking places count t u → k < LEVELS → (slot_at u k).rank ≡ k
level-ranked places count t u k f low =
    let e = ap (λ (s : Slot). s.rank) (level_there places count t u k f low) in
    let r = f.kept.slots.level_ranks k low in
    elim (which_rank (place_in places k) (slot_at t k).rank) [
      | inl (lt, same) ↦ e ∙ same ∙ r
      | inr (le, own) ↦ absurd (omega (arith, le, r, low))
    ]

pub as_many : (places : List ℕ) (count : ℕ) (t : Lists) → IsKept t → ArePlaces t places count → (LEVELS ≤ count) × (count ≤ length t.slots)
as_many places count t kept are =
    let low : 1000 < LEVELS = omega arith in
    let lt = are.within 1000 (inl low) in
    let is = are.levels 1000 low in (
      omega (arith, lt, is),
      elim (cases_lt (length t.slots) count) [
        | inl more ↦
            let o = are.onto (length t.slots) more in
            let within = taken_within t o.0 kept.slots o.1 in
            let le = are.low o.0 in
            let e = o.2 in
            absurd (omega (arith, within, le, e))
        | inr le ↦ le
      ],
    )

pub packed_slots : (places : List ℕ) (count : ℕ) (t u : Lists) → IsPacking places count t u → AreSlots (after t u)
packed_slots places count t u f =
    let s = f.kept.slots in
    let n = f.packed.slot_count in
    record {
      standings = f.packed.standing_count ∙ sym n;
      matrix = f.packed.row_count ∙ sym n;
      levels = let le = (as_many places count t f.kept f.are).0 in omega (arith, n, le);
      room = λ k x lt.
          let attr : ℕ = (slice_index_or t.stays k x).attr in
          let le = f.are.low (attr_slot t attr) in
          let e = f.packed.attr_slots attr in
          let room = s.room k x lt in
          omega (arith, le, e, room);
      priorities = s.priorities;
      attrs = λ k x lt. attr-there places count t u (slice_index_or t.stays k x).attr f (own_stay t.stays k x lt) (s.attrs k x lt);
      lines = λ k x lt. line-there places count t u (slice_index_or (lines (problem_of t)) k x) f (own_name (lines (problem_of t)) k x lt) (all_low (problem_of t) k x lt) (s.lines k x lt);
      owners = λ w is. owners-there places count t u w f is;
      level_owners = λ w lt. ap (λ (x : Slot). x.owner) (level_there places count t u w f lt) ∙ s.level_owners w lt;
      level_homes = λ w lt. ap (λ (x : Slot). x.home) (level_there places count t u w f lt) ∙ ap (place_in places) (s.level_homes w lt) ∙ f.are.levels w lt;
      level_ranks = λ w lt. level-ranked places count t u w f lt;
      stay_ranks = λ k x lt. level-rank places count t u (slice_index_or t.stays k x).attr f (own_stay t.stays k x lt) (s.stay_ranks k x lt);
      stays_rise = λ i k x lt within.
          stays-rise places count t u (slice_index_or t.stays i x).attr (slice_index_or t.stays k x).attr f
          (own_stay t.stays i x (omega (arith, lt, within))) (own_stay t.stays k x within) (s.stays_rise i k x lt within);
      ranks = λ w. rank-most places count t u w f;
      own_last = λ v w lt one two own. own-last places count t u v w f lt one two own;
    }

pub packed_stored : (places : List ℕ) (count : ℕ) (t u : Lists) → IsPacking places count t u → AreStored (after t u)
packed_stored places count t u f = record {
  few = let n = f.packed.slot_count in let le = (as_many places count t f.kept f.are).1 in let most = f.kept.stored.few in omega (arith, n, le, most);
  empty = λ v high none. elim (where_is t places count v f.are) [
    | inl (w, taken, e) ↦
        let there : (slot_at t w).owner ≡ LevelSlot = sym (owner_there places count t u w f taken) ∙ ap (λ (n : ℕ). (slot_at u n).owner) e ∙ none in
        absurd (taken_owner t w (slot_high t places count w f.are (subst (λ (n : ℕ). LEVELS ≤ n) (sym e) high)) taken there)
    | inr past ↦ get_or_past u.matrix v [] (let n = f.packed.row_count in omega (arith, n, past))
  ];
}
