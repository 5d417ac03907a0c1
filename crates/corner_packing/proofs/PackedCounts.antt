-- There are no more places than are taken: `packed_count`. Each slot past the levels' that is taken is that of an
-- attribute with a stay, or of a line, and there are no more names.
use Rattle.std.proofs.Common.{◌≡◌, ◌≢◌, ◌∙◌, ℕ, zero, suc, ◌+◌, ◌-◌, ◌<◌, ◌≤◌, ◌++◌, List, [], ◌∷◌, map, length, refl, sym, ap, subst, arith, Any, Contains}
use Rattle.std.proofs.lemmas.Cmp.{nat_eq_equiv}
use Rattle.std.proofs.lemmas.List.{length-append, length-map}
use Rattle.std.proofs.lemmas.Map.Steps.{le-length_from_below}
use Rattle.std.proofs.lemmas.Map.Views.{list_any-from_Contains}
use Rattle.row_core.specs.Renames.{place_in}
use Rattle.problem_core.specs.declared.parts.Stay.{Stay}
use Rattle.problem_core.specs.Layout.{Line, line_of_row, lines, stay_lines}
use Rattle.problem_core.proofs.Lines.{length-stays}
use Rattle.corner_view.specs.declared.types.Owner.{Owner}
use Rattle.corner_view.specs.declared.types.Owner.TheVariants.{Level as LevelSlot, Attr as AttrSlot, Line as LineSlot}
use Rattle.corner_table.specs.declared.table.TheConstants.{LEVELS}
use Rattle.corner_table.specs.Tables.{Lists, attr_slot, line_slot, problem_of, slot_at}
use Rattle.corner_table.specs.Kept.{IsKept, IsOwned, taken_slots}
use Rattle.corner_table.proofs.Basics.ListFacts.{further, to_map}
use Rattle.corner_packing.specs.Packing.{ArePacked, ArePlaces, IsTaken}
use Rattle.corner_packing.proofs.PackedPlaces.{slot_high, taken_owner, taken_within}
use Rattle.corner_packing.proofs.PackedSlots.{as_many}

-- ---- what lists contain

sooner : {X : Type 0} (xs ys : List X) (x : X) → Contains xs x → Contains (xs ++ ys) x
sooner [] ys x (k, within, is) = absurd (omega (arith, within))
sooner (y ∷ xs) ys x (zero, within, is) = (0, omega arith, is)
sooner (y ∷ xs) ys x (suc k, within, is) = further y (xs ++ ys) x (sooner xs ys x (k, omega (arith, within), is))

later : {X : Type 0} (xs ys : List X) (x : X) → Contains ys x → Contains (xs ++ ys) x
later [] ys x has = has
later (y ∷ xs) ys x has = further y (xs ++ ys) x (later xs ys x has)

any-mapped : {X Y : Type 0} (P : X → Type 0) (f : X → Y) (y : Y) (xs : List X) → ((x : X) → P x → f x ≡ y) → Any P xs → Contains (map f xs) y
any-mapped P f y [] is (k, x, within, e, h) = absurd (omega (arith, within))
any-mapped P f y (w ∷ xs) is (zero, x, within, e, h) = (0, omega arith, is w (subst P (sym e) h))
any-mapped P f y (w ∷ xs) is (suc k, x, within, e, h) = further (f w) (map f xs) y (any-mapped P f y xs is (k, x, omega (arith, within), e, h))

-- ---- the slots of all lines and attributes

abbrev held-slots : Lists → List ℕ
held-slots t = map (λ l. line_slot t l.name) (lines (problem_of t)) ++ map (λ s. attr_slot t s.attr) t.stays

how-many : (t : Lists) → length (held-slots t) ≡ taken_slots t
how-many t =
    let all = length-append (map (λ l. line_slot t l.name) (lines (problem_of t))) (map (λ s. attr_slot t s.attr) t.stays) in
    let both = length-append (map line_of_row t.rows) (stay_lines 1001 t.stays) in
    let named = length-map (lines (problem_of t)) (λ (l : Line). line_slot t l.name) in
    let attrs = length-map t.stays (λ (s : Stay). attr_slot t s.attr) in
    let rows = length-map t.rows line_of_row in
    let stays = length-stays 1001 t.stays in
    omega (arith, all, both, named, attrs, rows, stays)

held-owned : (t : Lists) (w : ℕ) (o : Owner) → o ≢ LevelSlot → IsOwned t w o → Contains (held-slots t) w
held-owned t w LevelSlot some h = absurd (some refl)
held-owned t w (AttrSlot attr) some h =
    later (map (λ l. line_slot t l.name) (lines (problem_of t))) (map (λ s. attr_slot t s.attr) t.stays) w
    (any-mapped (λ s. s.attr ≡ attr) (λ s. attr_slot t s.attr) w t.stays (λ s e. ap (attr_slot t) e ∙ h.1) h.0)
held-owned t w (LineSlot name) some h =
    sooner (map (λ l. line_slot t l.name) (lines (problem_of t))) (map (λ s. attr_slot t s.attr) t.stays) w
    (any-mapped (λ l. l.name ≡ name) (λ l. line_slot t l.name) w (lines (problem_of t)) (λ l e. ap (line_slot t) e ∙ h.1) h.0)

held-slot : (t : Lists) (w : ℕ) → IsKept t → LEVELS ≤ w → IsTaken t w → Contains (held-slots t) w
held-slot t w kept high taken =
    held-owned t w (slot_at t w).owner (taken_owner t w high taken) (kept.slots.owners w (high, taken_within t w kept.slots taken))

-- ---- all of it

-- the places past the levels' are all among these
place-held : (places : List ℕ) (count : ℕ) (t : Lists) (q : ℕ) → IsKept t → ArePlaces t places count → LEVELS + q < count
    → Contains (map (λ w. place_in places w - LEVELS) (held-slots t)) q
place-held places count t q kept are lt =
    let o = are.onto (LEVELS + q) lt in
    let e = o.2 in
    let has = held-slot t o.0 kept (slot_high t places count o.0 are (omega (arith, e))) o.1 in
    let is : place_in places o.0 - LEVELS ≡ q = omega (arith, e) in
    subst (Contains (map (λ w. place_in places w - LEVELS) (held-slots t))) is (to_map (λ w. place_in places w - LEVELS) (held-slots t) o.0 has)

pub packed_count : (places : List ℕ) (count : ℕ) (t : Lists) → IsKept t → ArePlaces t places count → count ≤ LEVELS + taken_slots t
packed_count places count t kept are =
    let held : List ℕ = map (λ w. place_in places w - LEVELS) (held-slots t) in
    let few = le-length_from_below held (count - LEVELS) (λ q lt. list_any-from_Contains nat_eq_equiv q held (place-held places count t q kept are (omega (arith, lt)))) in
    let long = length-map (held-slots t) (λ (w : ℕ). place_in places w - LEVELS) in
    let many = how-many t in
    let levels = (as_many places count t kept are).0 in
    omega (arith, few, long, many, levels)

-- so of the slots there are
pub packed_few : (places : List ℕ) (count : ℕ) (old new : Lists) → IsKept old → ArePlaces old places count → ArePacked places count old new → length new.slots ≤ LEVELS + taken_slots new
packed_few places count old new kept are packed =
    let few = packed_count places count old kept are in
    let n = packed.slot_count in
    let rows = ap length packed.rows in
    let stays = ap length packed.stays in
    omega (arith, few, n, rows, stays)
