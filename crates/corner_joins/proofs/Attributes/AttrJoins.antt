-- What the lists keep when an attribute joins.
use Rattle.std.proofs.Common.{◌≡◌, ◌≢◌, ◌∙◌, ◌⊎◌, ℕ, zero, suc, ◌+◌, ◌^◌, ◌<◌, ◌≤◌, ◌++◌, Bool, true, false, cond, nat_eq, List, [], ◌∷◌, map, filter, length, refl, sym, ap, ap₂, subst, arith, inl, inr, ℤ, pos, negsuc, neg_ℤ, ◌*ℤ◌, ne_eqb, eq-eqb, slice_index_or, All, AllPairs, Any, Some, None}
use Rattle.std.proofs.lemmas.List.{get_or_push, get_or_past, length_push}
use Rattle.std.proofs.lemmas.List.Elements.{All-push, filter-append}
use Rattle.std.proofs.lemmas.List.Quantifiers.{all_pairs_push}
use Rattle.std.proofs.Math.ListN.{get_or-append}
use Rattle.std.specs.declared.option.Option.{Option}
use Rattle.std.proofs.lemmas.Bool.{cases_eq}
use Rattle.frac_core.specs.Fraction.{Fraction, IsKept as IsKeptFraction}
use Rattle.row_core.specs.Rows.{IsKeptRow, Term, coefficient}
use Rattle.problem_core.specs.Window.{zero_fraction}
use Rattle.problem_core.specs.declared.parts.Rel.TheVariants.{Eq}
use Rattle.problem_core.specs.declared.parts.Mark.{Mark}
use Rattle.problem_core.specs.declared.parts.Side.{Side}
use Rattle.problem_core.specs.declared.parts.Side.TheVariants.{Under, Over}
use Rattle.problem_core.specs.declared.parts.Stay.{Stay}
use Rattle.problem_core.specs.declared.parts.RowName.{RowName}
use Rattle.problem_core.specs.declared.parts.RowName.TheVariants.{Held, Stay as StayOf}
use Rattle.problem_core.specs.Layout.{HasStay, Line, Problem, line_of_row, line_of_stay, lines, stay_lines}
use Rattle.problem_core.specs.Kept.{IsNumber, IsStay, IsWhole}
use Rattle.problem_core.specs.Corners.{attr_column, marks_of}
use Rattle.corner_lines.specs.LineEquations.{IsLineEquation, deviation, sign_of}
use Rattle.corner_lines.specs.Joins.{new_stay, with_attr}
use Rattle.corner_lines.proofs.ProblemChanges.NewStays.{attr_line, old_line}
use Rattle.corner_view.specs.declared.types.Owner.{Owner}
use Rattle.corner_view.specs.declared.types.Owner.TheVariants.{Level as LevelSlot, Attr as AttrSlot, Line as LineSlot}
use Rattle.corner_table.specs.declared.table.Slot.{Slot}
use Rattle.corner_table.specs.declared.table.Standing.{Standing}
use Rattle.corner_table.specs.declared.table.TheConstants.{LEVELS, MOST_SLOTS, OWN_RANK}
use Rattle.corner_view.specs.Seen.{IsNamed}
use Rattle.corner_table.specs.Tables.{Lists, attr_slot, entry, is_side, line_slot, marks_at, number, problem_of, row_at, slot_at, standing_at, stands_in, stay_rank}
use Rattle.corner_table.specs.Kept.{AreOutside, AreSlots, IsAttrRow, IsAttrSlot, IsEquationAt, IsKept, IsLineRow, IsLineSlot, IsOwned, IsSlot, home_of}
use Rattle.version_lists.specs.Numbers.{IsNumbered}
use Rattle.corner_table.specs.Joining.{IsStayForm, at_value, at_zero, slot_of_attr, slot_of_stay}
use Rattle.corner_table.proofs.Readings.SlotFacts.{named_slot, named_stay}
use Rattle.corner_table.proofs.Corners.NewTables.{less_or}
use Rattle.corner_table.proofs.Corners.SlotRanks.{last_pushed, ranks_pushed}
use Rattle.corner_lines.proofs.FrontsStay.{stays-more, regrouped}
use Rattle.corner_writings.proofs.Basics.SmallFacts.{zero_unless}
use Rattle.corner_table.proofs.Basics.SmallFacts.{own_name, own_stay}
use Rattle.corner_table.proofs.Basics.OwnerFacts.{stay_named}
use Rattle.corner_table.proofs.Basics.SameEquations.{same_numbers}

-- ---- two more in a list

pub old_two : {X : Type 0} (xs : List X) (x y d : X) (w : ℕ) → w < length xs → slice_index_or ((xs ++ (x ∷ [])) ++ (y ∷ [])) w d ≡ slice_index_or xs w d
old_two xs x y d w lt =
    let more : w < length (xs ++ (x ∷ [])) = omega (arith, lt, length_push xs x) in
    get_or-append (xs ++ (x ∷ [])) (y ∷ []) d w more ∙ get_or-append xs (x ∷ []) d w lt

pub first_two : {X : Type 0} (xs : List X) (x y d : X) → slice_index_or ((xs ++ (x ∷ [])) ++ (y ∷ [])) (length xs) d ≡ x
first_two xs x y d =
    let more : length xs < length (xs ++ (x ∷ [])) = omega (arith, length_push xs x) in
    get_or-append (xs ++ (x ∷ [])) (y ∷ []) d (length xs) more ∙ get_or_push xs x d (length xs) refl

pub second_two : {X : Type 0} (xs : List X) (x y d : X) → slice_index_or ((xs ++ (x ∷ [])) ++ (y ∷ [])) (length xs + 1) d ≡ y
second_two xs x y d = get_or_push (xs ++ (x ∷ [])) y d (length xs + 1) (length_push xs x)

pub count_two : {X : Type 0} (xs : List X) (x y : X) → length ((xs ++ (x ∷ [])) ++ (y ∷ [])) ≡ length xs + 2
count_two xs x y = omega (arith, length_push (xs ++ (x ∷ [])) y, length_push xs x)

-- ---- the lists with the attribute

abbrev pub joined : Lists → ℕ → Fraction → List (List Term) → List ℕ → Lists
joined t attr target m a = record {
  rows = t.rows;
  stays = t.stays ++ (new_stay attr target ∷ []);
  slots = (t.slots ++ (slot_of_attr attr (length t.slots) ∷ [])) ++ (slot_of_stay attr (length t.slots + 1) ∷ []);
  standings = (t.standings ++ (at_value target ∷ [])) ++ (at_zero ∷ []);
  matrix = m;
  attr_slots = a;
  row_slots = t.row_slots;
  priorities = t.priorities;
}

pub record IsJoin (t : Lists) (attr : ℕ) (target : Fraction) (m : List (List Term)) (a : List ℕ) : Type 0 where
  pub kept : IsKept t
  pub is_number : IsNumber attr
  pub value : IsKeptFraction target
  pub fresh : HasStay t.stays attr → ⊥
  pub few : length t.stays < 4096
  pub room : length t.slots + 2 ≤ MOST_SLOTS
  pub count : length m ≡ length t.matrix + 2
  pub own : IsStayForm (length t.slots) (slice_index_or m (length t.slots) [])
  pub own_kept : IsKeptRow (slice_index_or m (length t.slots) [])
  pub others : (w : ℕ) → w ≢ length t.slots → slice_index_or m w [] ≡ row_at t w
  pub attrs : IsNumbered attr (length t.slots) t.attr_slots a

-- ---- slots

abbrev pub nowhere : Slot
nowhere = record { owner = LevelSlot; home = 0; rank = 0; weight = pos 1; scale = pos 1; rel = Eq }

pub old_slot : (t : Lists) (attr : ℕ) (target : Fraction) (m : List (List Term)) (a : List ℕ) (w : ℕ) → w < length t.slots → slot_at (joined t attr target m a) w ≡ slot_at t w
old_slot t attr target m a w lt = old_two t.slots (slot_of_attr attr (length t.slots)) (slot_of_stay attr (length t.slots + 1)) (record { owner = LevelSlot; home = 0; rank = 0; weight = pos 1; scale = pos 1; rel = Eq }) w lt

pub attr_place : (t : Lists) (attr : ℕ) (target : Fraction) (m : List (List Term)) (a : List ℕ) → slot_at (joined t attr target m a) (length t.slots) ≡ slot_of_attr attr (length t.slots)
attr_place t attr target m a = first_two t.slots (slot_of_attr attr (length t.slots)) (slot_of_stay attr (length t.slots + 1)) (record { owner = LevelSlot; home = 0; rank = 0; weight = pos 1; scale = pos 1; rel = Eq })

pub stay_place : (t : Lists) (attr : ℕ) (target : Fraction) (m : List (List Term)) (a : List ℕ) → slot_at (joined t attr target m a) (length t.slots + 1) ≡ slot_of_stay attr (length t.slots + 1)
stay_place t attr target m a = second_two t.slots (slot_of_attr attr (length t.slots)) (slot_of_stay attr (length t.slots + 1)) (record { owner = LevelSlot; home = 0; rank = 0; weight = pos 1; scale = pos 1; rel = Eq })

pub old_standing : (t : Lists) (attr : ℕ) (target : Fraction) (m : List (List Term)) (a : List ℕ) (w : ℕ) → AreSlots t → w < length t.slots → standing_at (joined t attr target m a) w ≡ standing_at t w
old_standing t attr target m a w s lt =
    let within : w < length t.standings = omega (arith, lt, s.standings) in
    old_two t.standings (at_value target) at_zero (record { side = None; value = zero_fraction }) w within

pub attr_standing : (t : Lists) (attr : ℕ) (target : Fraction) (m : List (List Term)) (a : List ℕ) → AreSlots t → standing_at (joined t attr target m a) (length t.slots) ≡ at_value target
attr_standing t attr target m a s = subst (λ (n : ℕ). standing_at (joined t attr target m a) n ≡ at_value target) s.standings (first_two t.standings (at_value target) at_zero (record { side = None; value = zero_fraction }))

pub stay_standing : (t : Lists) (attr : ℕ) (target : Fraction) (m : List (List Term)) (a : List ℕ) → AreSlots t → standing_at (joined t attr target m a) (length t.slots + 1) ≡ at_zero
stay_standing t attr target m a s = subst (λ (n : ℕ). standing_at (joined t attr target m a) (n + 1) ≡ at_zero) s.standings (second_two t.standings (at_value target) at_zero (record { side = None; value = zero_fraction }))

-- another attribute
pub other_attr : (t : Lists) (attr b : ℕ) → (HasStay t.stays attr → ⊥) → HasStay t.stays b → b ≢ attr
other_attr t attr b fresh has e = fresh (subst (λ (n : ℕ). HasStay t.stays n) e has)

pub old_attr : (t : Lists) (attr : ℕ) (target : Fraction) (m : List (List Term)) (a : List ℕ) (b : ℕ) → IsJoin t attr target m a → HasStay t.stays b → attr_slot (joined t attr target m a) b ≡ attr_slot t b
old_attr t attr target m a b j has = j.attrs.others b (other_attr t attr b j.fresh has)

pub named_by : (t : Lists) (attr : ℕ) (target : Fraction) (m : List (List Term)) (a : List ℕ) (name : RowName) → IsJoin t attr target m a → IsNamed (problem_of t) name → line_slot (joined t attr target m a) name ≡ line_slot t name
named_by t attr target m a (Held id) j named = refl
named_by t attr target m a (StayOf b) j named = ap (λ (n : ℕ). n + 1) (old_attr t attr target m a b j (named_stay (problem_of t) b named))

-- ---- lines

abbrev pub new_line : Problem → ℕ → Fraction → Line
new_line p attr target = line_of_stay (1001 + length p.stays) (new_stay attr target)

pub lines_more : (p : Problem) (attr : ℕ) (target : Fraction) → lines (with_attr attr target p) ≡ lines p ++ (new_line p attr target ∷ [])
lines_more p attr target = ap (λ (ls : List Line). map line_of_row p.rows ++ ls) (stays-more 1001 p.stays (new_stay attr target)) ∙ regrouped (map line_of_row p.rows) (stay_lines 1001 p.stays) (new_line p attr target ∷ [])

-- what holds of each line before and of the new one holds of all
pub put_line : (P : Line → Type 0) (p : Problem) (attr : ℕ) (target : Fraction) → All P (lines p) → P (new_line p attr target) → All P (lines (with_attr attr target p))
put_line P p attr target h here = subst (All P) (sym (lines_more p attr target)) (All-push P (lines p) (new_line p attr target) h here)

pub any_more : (P : Line → Type 0) (xs : List Line) (y : Line) → Any P xs → Any P (xs ++ (y ∷ []))
any_more P xs y h =
    let lt : h.0 < length (xs ++ (y ∷ [])) = omega (arith, h.2, length_push xs y) in
    (h.0, h.1, lt, get_or-append xs (y ∷ []) h.1 h.0 h.2 ∙ h.3, h.4)

pub any_last : (P : Line → Type 0) (xs : List Line) (y : Line) → P y → Any P (xs ++ (y ∷ []))
any_last P xs y here =
    let lt : length xs < length (xs ++ (y ∷ [])) = omega (arith, length_push xs y) in
    (length xs, y, lt, get_or_push xs y y (length xs) refl, here)

pub named_more : (p : Problem) (attr : ℕ) (target : Fraction) (name : RowName) → IsNamed p name → IsNamed (with_attr attr target p) name
named_more p attr target name h = subst (Any (λ l. l.name ≡ name)) (sym (lines_more p attr target)) (any_more (λ l. l.name ≡ name) (lines p) (new_line p attr target) h)

pub named_new : (p : Problem) (attr : ℕ) (target : Fraction) → IsNamed (with_attr attr target p) (StayOf attr)
named_new p attr target = subst (Any (λ l. l.name ≡ StayOf attr)) (sym (lines_more p attr target)) (any_last (λ l. l.name ≡ StayOf attr) (lines p) (new_line p attr target) refl)

pub stay_more : (stays : List Stay) (s : Stay) (b : ℕ) → HasStay stays b → HasStay (stays ++ (s ∷ [])) b
stay_more stays s b h =
    let lt : h.0 < length (stays ++ (s ∷ [])) = omega (arith, h.2, length_push stays s) in
    (h.0, h.1, lt, get_or-append stays (s ∷ []) h.1 h.0 h.2 ∙ h.3, h.4)

pub stay_last : (stays : List Stay) (s : Stay) → HasStay (stays ++ (s ∷ [])) s.attr
stay_last stays s =
    let lt : length stays < length (stays ++ (s ∷ [])) = omega (arith, length_push stays s) in
    (length stays, s, lt, get_or_push stays s s (length stays) refl, refl)

-- ---- the slots stay sound

pub home_same : (t u : Lists) (l : Line) (name : RowName) → line_slot u name ≡ line_slot t name → home_of u l name ≡ home_of t l name
home_same t u l (Held id) e = refl
home_same t u l (StayOf attr) e = e

pub line_slot_kept : (t : Lists) (attr : ℕ) (target : Fraction) (m : List (List Term)) (a : List ℕ) (l : Line) → IsJoin t attr target m a → IsNamed (problem_of t) l.name → IsLineSlot t l → IsLineSlot (joined t attr target m a) l
line_slot_kept t attr target m a l j named s =
    let same = named_by t attr target m a l.name j named in
    let slot : slot_at (joined t attr target m a) (line_slot (joined t attr target m a) l.name) ≡ slot_at t (line_slot t l.name) = ap (slot_at (joined t attr target m a)) same ∙ old_slot t attr target m a (line_slot t l.name) s.slot.1 in
    let n = count_two t.slots (slot_of_attr attr (length t.slots)) (slot_of_stay attr (length t.slots + 1)) in
    record {
      slot = (subst (λ (w : ℕ). LEVELS ≤ w) (sym same) s.slot.0, omega (arith, same, s.slot.1, n));
      owner = ap (λ (x : Slot). x.owner) slot ∙ s.owner;
      home = ap (λ (x : Slot). x.home) slot ∙ s.home ∙ sym (home_same t (joined t attr target m a) l l.name same);
      weight = ap (λ (x : Slot). x.weight) slot ∙ s.weight;
      scale = ap (λ (x : Slot). x.scale) slot ∙ s.scale;
      rel = ap (λ (x : Slot). x.rel) slot ∙ s.rel;
    }

pub stay_here : (t : Lists) (attr : ℕ) (target : Fraction) (m : List (List Term)) (a : List ℕ) → IsJoin t attr target m a → line_slot (joined t attr target m a) (StayOf attr) ≡ length t.slots + 1
stay_here t attr target m a j = ap (λ (n : ℕ). n + 1) j.attrs.here

pub new_line_slot : (t : Lists) (attr : ℕ) (target : Fraction) (m : List (List Term)) (a : List ℕ) → IsJoin t attr target m a → IsLineSlot (joined t attr target m a) (new_line (problem_of t) attr target)
new_line_slot t attr target m a j =
    let here = stay_here t attr target m a j in
    let slot : slot_at (joined t attr target m a) (line_slot (joined t attr target m a) (StayOf attr)) ≡ slot_of_stay attr (length t.slots + 1) = ap (slot_at (joined t attr target m a)) here ∙ stay_place t attr target m a in
    let n = count_two t.slots (slot_of_attr attr (length t.slots)) (slot_of_stay attr (length t.slots + 1)) in
    record {
      slot = (omega (arith, here, j.kept.slots.levels), omega (arith, here, n));
      owner = ap (λ (x : Slot). x.owner) slot;
      home = ap (λ (x : Slot). x.home) slot ∙ sym here;
      weight = ap (λ (x : Slot). x.weight) slot;
      scale = ap (λ (x : Slot). x.scale) slot;
      rel = ap (λ (x : Slot). x.rel) slot;
    }

pub attr_slot_kept : (t : Lists) (attr : ℕ) (target : Fraction) (m : List (List Term)) (a : List ℕ) (b : ℕ) → IsJoin t attr target m a → HasStay t.stays b → IsAttrSlot t b → IsAttrSlot (joined t attr target m a) b
attr_slot_kept t attr target m a b j has s =
    let same = old_attr t attr target m a b j has in
    let n = count_two t.slots (slot_of_attr attr (length t.slots)) (slot_of_stay attr (length t.slots + 1)) in
    record {
      slot = (subst (λ (w : ℕ). LEVELS ≤ w) (sym same) s.slot.0, omega (arith, same, s.slot.1, n));
      owner = ap (λ (w : ℕ). (slot_at (joined t attr target m a) w).owner) same ∙ ap (λ (x : Slot). x.owner) (old_slot t attr target m a (attr_slot t b) s.slot.1) ∙ s.owner;
    }

pub new_attr_slot : (t : Lists) (attr : ℕ) (target : Fraction) (m : List (List Term)) (a : List ℕ) → IsJoin t attr target m a → IsAttrSlot (joined t attr target m a) attr
new_attr_slot t attr target m a j =
    let n = count_two t.slots (slot_of_attr attr (length t.slots)) (slot_of_stay attr (length t.slots + 1)) in
    record {
      slot = (subst (λ (w : ℕ). LEVELS ≤ w) (sym j.attrs.here) j.kept.slots.levels, omega (arith, j.attrs.here, n));
      owner = ap (λ (w : ℕ). (slot_at (joined t attr target m a) w).owner) j.attrs.here ∙ ap (λ (x : Slot). x.owner) (attr_place t attr target m a);
    }

pub owned_kept : (t : Lists) (attr : ℕ) (target : Fraction) (m : List (List Term)) (a : List ℕ) (w : ℕ) (o : Owner) → IsJoin t attr target m a → IsOwned t w o → IsOwned (joined t attr target m a) w o
owned_kept t attr target m a w LevelSlot j h = h
owned_kept t attr target m a w (AttrSlot b) j h = (stay_more t.stays (new_stay attr target) b h.0, old_attr t attr target m a b j h.0 ∙ h.1)
owned_kept t attr target m a w (LineSlot name) j h = (named_more (problem_of t) attr target name h.0, named_by t attr target m a name j h.0 ∙ h.1)

pub owned_at : (t : Lists) (attr : ℕ) (target : Fraction) (m : List (List Term)) (a : List ℕ) (w : ℕ) → IsJoin t attr target m a → LEVELS ≤ w → (w < length t.slots) ⊎ ((w ≡ length t.slots) ⊎ (w ≡ length t.slots + 1)) → IsOwned (joined t attr target m a) w (slot_at (joined t attr target m a) w).owner
owned_at t attr target m a w j above (inl lt) =
    subst (IsOwned (joined t attr target m a) w) (ap (λ (x : Slot). x.owner) (sym (old_slot t attr target m a w lt))) (owned_kept t attr target m a w (slot_at t w).owner j (j.kept.slots.owners w (above, lt)))
owned_at t attr target m a w j above (inr (inl e)) =
    subst (IsOwned (joined t attr target m a) w) (ap (λ (x : Slot). x.owner) (sym (ap (slot_at (joined t attr target m a)) e ∙ attr_place t attr target m a))) (stay_last t.stays (new_stay attr target), j.attrs.here ∙ sym e)
owned_at t attr target m a w j above (inr (inr e)) =
    subst (IsOwned (joined t attr target m a) w) (ap (λ (x : Slot). x.owner) (sym (ap (slot_at (joined t attr target m a)) e ∙ stay_place t attr target m a))) (named_new (problem_of t) attr target, stay_here t attr target m a j ∙ sym e)

pub past_first : (n w : ℕ) → (w < n) ⊎ (w ≡ n) → (w < n) ⊎ ((w ≡ n) ⊎ (w ≡ n + 1))
past_first n w (inl h) = inl h
past_first n w (inr e) = inr (inl e)

pub where_past : (n w : ℕ) → (w < n + 1) ⊎ (w ≡ n + 1) → (w < n) ⊎ ((w ≡ n) ⊎ (w ≡ n + 1))
where_past n w (inl h) = past_first n w (less_or n w (omega (arith, h)))
where_past n w (inr e) = inr (inr e)

pub where_is : (n w : ℕ) → w < n + 2 → (w < n) ⊎ ((w ≡ n) ⊎ (w ≡ n + 1))
where_is n w h = where_past n w (less_or (n + 1) w (omega (arith, h)))

-- the level of each attribute before has the rank that it had
pub rank_same : (t : Lists) (attr : ℕ) (target : Fraction) (m : List (List Term)) (a : List ℕ) (b : ℕ) → IsJoin t attr target m a → HasStay t.stays b → stay_rank (joined t attr target m a) b ≡ stay_rank t b
rank_same t attr target m a b j is =
    ap (λ (w : ℕ). (slot_at (joined t attr target m a) (w + 1)).rank) (old_attr t attr target m a b j is)
    ∙ ap (λ (x : Slot). x.rank) (old_slot t attr target m a (attr_slot t b + 1) (named_slot t (StayOf b) j.kept.slots (stay_named (problem_of t) b is)).1)

-- that of the new one is its own
pub rank_here : (t : Lists) (attr : ℕ) (target : Fraction) (m : List (List Term)) (a : List ℕ) → IsJoin t attr target m a → stay_rank (joined t attr target m a) attr ≡ OWN_RANK + (length t.slots + 1)
rank_here t attr target m a j =
    ap (λ (w : ℕ). (slot_at (joined t attr target m a) (w + 1)).rank) j.attrs.here
    ∙ ap (λ (x : Slot). x.rank) (stay_place t attr target m a)

-- each attribute before has a lower rank
pub rise_same : (t : Lists) (attr : ℕ) (target : Fraction) (m : List (List Term)) (a : List ℕ) → IsJoin t attr target m a → AllPairs (λ (s r : Stay). stay_rank (joined t attr target m a) s.attr < stay_rank (joined t attr target m a) r.attr) t.stays
rise_same t attr target m a j i k d lt within =
    let one = rank_same t attr target m a (slice_index_or t.stays i d).attr j (own_stay t.stays i d (omega (arith, lt, within))) in
    let two = rank_same t attr target m a (slice_index_or t.stays k d).attr j (own_stay t.stays k d within) in
    let less = j.kept.slots.stays_rise i k d lt within in
    omega (arith, one, two, less)

pub rising_joined : (t : Lists) (attr : ℕ) (target : Fraction) (m : List (List Term)) (a : List ℕ) → IsJoin t attr target m a → AllPairs (λ (s r : Stay). stay_rank (joined t attr target m a) s.attr < stay_rank (joined t attr target m a) r.attr) (t.stays ++ (new_stay attr target ∷ []))
rising_joined t attr target m a j =
    all_pairs_push (λ (s r : Stay). stay_rank (joined t attr target m a) s.attr < stay_rank (joined t attr target m a) r.attr) t.stays (new_stay attr target) (rise_same t attr target m a j)
    (λ k d lt.
    let one = rank_same t attr target m a (slice_index_or t.stays k d).attr j (own_stay t.stays k d lt) in
    let most = j.kept.slots.ranks (attr_slot t (slice_index_or t.stays k d).attr + 1) in
    let within = (named_slot t (StayOf (slice_index_or t.stays k d).attr) j.kept.slots (stay_named (problem_of t) (slice_index_or t.stays k d).attr (own_stay t.stays k d lt))).1 in
    let here = rank_here t attr target m a j in
    omega (arith, one, most, within, here))

pub slots_joined : (t : Lists) (attr : ℕ) (target : Fraction) (m : List (List Term)) (a : List ℕ) → IsJoin t attr target m a → AreSlots (joined t attr target m a)
slots_joined t attr target m a j =
    let s = j.kept.slots in
    let n = count_two t.slots (slot_of_attr attr (length t.slots)) (slot_of_stay attr (length t.slots + 1)) in
    let v = count_two t.standings (at_value target) at_zero in
    let one = length_push t.slots (slot_of_attr attr (length t.slots)) in
    let attr-ranks = ranks_pushed t.slots (slot_of_attr attr (length t.slots)) s.ranks (omega arith) in
    record {
      standings = omega (arith, n, v, s.standings);
      matrix = omega (arith, n, j.count, s.matrix);
      levels = omega (arith, n, s.levels);
      room = All-push (λ (x : Stay). attr_slot (joined t attr target m a) x.attr + 1 < 2 ^ 32) t.stays (new_stay attr target)
          (λ k x lt.
          let e = old_attr t attr target m a (slice_index_or t.stays k x).attr j (own_stay t.stays k x lt) in
          let few = s.room k x lt in
          omega (arith, e, few)) (omega (arith, j.attrs.here, j.room));
      priorities = s.priorities;
      attrs = All-push (λ (x : Stay). IsAttrSlot (joined t attr target m a) x.attr) t.stays (new_stay attr target)
          (λ k x lt. attr_slot_kept t attr target m a (slice_index_or t.stays k x).attr j (own_stay t.stays k x lt) (s.attrs k x lt)) (new_attr_slot t attr target m a j);
      lines = put_line (IsLineSlot (joined t attr target m a)) (problem_of t) attr target
          (λ k x lt. line_slot_kept t attr target m a (slice_index_or (lines (problem_of t)) k x) j (own_name (lines (problem_of t)) k x lt) (s.lines k x lt)) (new_line_slot t attr target m a j);
      owners = λ w h. owned_at t attr target m a w j h.0 (where_is (length t.slots) w (subst (λ (k : ℕ). w < k) n h.1));
      level_owners = λ w lt. ap (λ (x : Slot). x.owner) (old_slot t attr target m a w (omega (arith, lt, s.levels))) ∙ s.level_owners w lt;
      level_homes = λ w lt. ap (λ (x : Slot). x.home) (old_slot t attr target m a w (omega (arith, lt, s.levels))) ∙ s.level_homes w lt;
      level_ranks = λ w lt. ap (λ (x : Slot). x.rank) (old_slot t attr target m a w (omega (arith, lt, s.levels))) ∙ s.level_ranks w lt;
      stay_ranks = All-push (λ (x : Stay). LEVELS ≤ stay_rank (joined t attr target m a) x.attr) t.stays (new_stay attr target)
          (λ k x lt.
          let one = rank_same t attr target m a (slice_index_or t.stays k x).attr j (own_stay t.stays k x lt) in
          let is = s.stay_ranks k x lt in
          omega (arith, one, is))
          (let here = rank_here t attr target m a j in omega (arith, here, s.levels));
      stays_rise = rising_joined t attr target m a j;
      ranks = ranks_pushed (t.slots ++ (slot_of_attr attr (length t.slots) ∷ [])) (slot_of_stay attr (length t.slots + 1)) attr-ranks (omega (arith, one));
      own_last = last_pushed (t.slots ++ (slot_of_attr attr (length t.slots) ∷ [])) (slot_of_stay attr (length t.slots + 1)) attr-ranks
          (last_pushed t.slots (slot_of_attr attr (length t.slots)) s.ranks s.own_last (λ (none : ⊥). absurd none)) (λ stay. omega (arith, one));
    }

-- ---- marks

pub marks_append : (xs ys : List Line) → marks_of (xs ++ ys) ≡ marks_of xs ++ marks_of ys
marks_append [] ys = refl
marks_append (x ∷ xs) ys = ap (λ (ms : List Mark). record { row = x.name; side = Under } ∷ record { row = x.name; side = Over } ∷ ms) (marks_append xs ys)

pub taken_same : (b c : Bool) (x : Mark) (xs ys : List Mark) → b ≡ c → xs ≡ ys → cond b (x ∷ xs) xs ≡ cond c (x ∷ ys) ys
taken_same b c x xs ys e d = ap₂ (λ (k : Bool) (zs : List Mark). cond k (x ∷ zs) zs) e d

pub filter_same : (f g : Mark → Bool) (ls : List Line) → All (λ l. (side : Side) → f (record { row = l.name; side = side }) ≡ g (record { row = l.name; side = side })) ls → filter f (marks_of ls) ≡ filter g (marks_of ls)
filter_same f g [] h = refl
filter_same f g (l ∷ ls) h =
    let rest = filter_same f g ls (λ k x lt. h (suc k) x (omega (arith, lt))) in
    let one = h zero l (omega arith) Under in
    let two = h zero l (omega arith) Over in
    let over = taken_same (f (record { row = l.name; side = Over })) (g (record { row = l.name; side = Over })) (record { row = l.name; side = Over }) (filter f (marks_of ls)) (filter g (marks_of ls)) two rest in
    taken_same (f (record { row = l.name; side = Under })) (g (record { row = l.name; side = Under })) (record { row = l.name; side = Under }) (filter f (record { row = l.name; side = Over } ∷ marks_of ls)) (filter g (record { row = l.name; side = Over } ∷ marks_of ls)) one over

pub stand_same : (t : Lists) (attr : ℕ) (target : Fraction) (m : List (List Term)) (a : List ℕ) (name : RowName) (side : Side) → IsJoin t attr target m a → IsNamed (problem_of t) name → stands_in (joined t attr target m a) (record { row = name; side = side }) ≡ stands_in t (record { row = name; side = side })
stand_same t attr target m a name side j named =
    let s = named_slot t name j.kept.slots named in
    ap (λ (x : Standing). is_side x.side side) (ap (standing_at (joined t attr target m a)) (named_by t attr target m a name j named) ∙ old_standing t attr target m a (line_slot t name) j.kept.slots s.1)

pub new_outside : (t : Lists) (attr : ℕ) (target : Fraction) (m : List (List Term)) (a : List ℕ) (side : Side) → IsJoin t attr target m a → stands_in (joined t attr target m a) (record { row = StayOf attr; side = side }) ≡ false
new_outside t attr target m a side j = ap (λ (x : Standing). is_side x.side side) (ap (standing_at (joined t attr target m a)) (stay_here t attr target m a j) ∙ stay_standing t attr target m a j.kept.slots)

pub none_taken : (f : Mark → Bool) (x y : Mark) → f x ≡ false → f y ≡ false → filter f (x ∷ y ∷ []) ≡ []
none_taken f x y e d = ap (λ (b : Bool). cond b (x ∷ filter f (y ∷ [])) (filter f (y ∷ []))) e ∙ ap (λ (b : Bool). cond b (y ∷ []) []) d

pub append_none : (ms : List Mark) → ms ++ [] ≡ ms
append_none [] = refl
append_none (m ∷ ms) = ap (λ (ns : List Mark). m ∷ ns) (append_none ms)

pub marks_joined : (t : Lists) (attr : ℕ) (target : Fraction) (m : List (List Term)) (a : List ℕ) → IsJoin t attr target m a → marks_at (joined t attr target m a) ≡ marks_at t
marks_joined t attr target m a j =
    let f : Mark → Bool = stands_in (joined t attr target m a) in
    ap (λ (ls : List Line). filter f (marks_of ls)) (lines_more (problem_of t) attr target)
    ∙ ap (filter f) (marks_append (lines (problem_of t)) (new_line (problem_of t) attr target ∷ []))
    ∙ filter-append f (marks_of (lines (problem_of t))) (marks_of (new_line (problem_of t) attr target ∷ []))
    ∙ ap₂ ◌++◌
    (filter_same f (stands_in t) (lines (problem_of t)) (λ k x lt side. stand_same t attr target m a (slice_index_or (lines (problem_of t)) k x).name side j (own_name (lines (problem_of t)) k x lt)))
    (none_taken f (record { row = StayOf attr; side = Under }) (record { row = StayOf attr; side = Over }) (new_outside t attr target m a Under j) (new_outside t attr target m a Over j))
    ∙ append_none (marks_at t)

-- ---- the problem

pub joined_whole : (t : Lists) (attr : ℕ) (target : Fraction) (m : List (List Term)) (a : List ℕ) → IsJoin t attr target m a → IsWhole (with_attr attr target (problem_of t))
joined_whole t attr target m a j =
    let w = j.kept.whole in
    let c = length_push t.stays (new_stay attr target) in
    record {
      rows = w.rows;
      stays = All-push IsStay t.stays (new_stay attr target) w.stays (record { attr = j.is_number; target = j.value });
      rising = w.rising;
      apart = all_pairs_push (λ (s r : Stay). s.attr ≢ r.attr) t.stays (new_stay attr target) w.apart (λ k d lt e. j.fresh (subst (HasStay t.stays) e (own_stay t.stays k d lt)));
      covered = λ k x lt i y within. stay_more t.stays (new_stay attr target) (slice_index_or (slice_index_or t.rows k x).terms i y).attr (w.covered k x lt i y within);
      row_count = w.row_count;
      stay_count = omega (arith, c, j.few);
    }

-- no row before has a number at the stay's slot
-- ---- equations

pub past_entry : (t : Lists) (w c : ℕ) → IsKept t → w < length t.slots → length t.slots ≤ c → entry t w c ≡ pos 0
past_entry t w c kept lt past = zero_unless (entry t w c) (λ ne. let out = kept.outside w c ne (λ e. absurd (omega (arith, e, lt, past))) in absurd (omega (arith, out.0.1, past)))

pub old_row : (t : Lists) (attr : ℕ) (target : Fraction) (m : List (List Term)) (a : List ℕ) (w : ℕ) → IsJoin t attr target m a → w < length t.slots → row_at (joined t attr target m a) w ≡ row_at t w
old_row t attr target m a w j lt = j.others w (λ e. absurd (omega (arith, e, lt)))

pub old_number : (t : Lists) (attr : ℕ) (target : Fraction) (m : List (List Term)) (a : List ℕ) (w : ℕ) (name : RowName) → IsJoin t attr target m a → w < length t.slots → IsNamed (problem_of t) name → number (joined t attr target m a) w name ≡ number t w name
old_number t attr target m a w name j lt named =
    ap (λ (s : ℕ). cond (nat_eq s w) (pos 0) (neg_ℤ (entry (joined t attr target m a) w s))) (named_by t attr target m a name j named)
    ∙ ap (λ (r : List Term). cond (nat_eq (line_slot t name) w) (pos 0) (neg_ℤ (coefficient (line_slot t name) r))) (old_row t attr target m a w j lt)

pub no_number : (t : Lists) (attr : ℕ) (target : Fraction) (m : List (List Term)) (a : List ℕ) (w : ℕ) → IsJoin t attr target m a → w < length t.slots → number (joined t attr target m a) w (StayOf attr) ≡ pos 0
no_number t attr target m a w j lt =
    ap (λ (s : ℕ). cond (nat_eq s w) (pos 0) (neg_ℤ (entry (joined t attr target m a) w s))) (stay_here t attr target m a j)
    ∙ ap (λ (b : Bool). cond b (pos 0) (neg_ℤ (entry (joined t attr target m a) w (length t.slots + 1)))) (ne_eqb (length t.slots + 1) w (λ e. absurd (omega (arith, e, lt))))
    ∙ ap neg_ℤ (ap (coefficient (length t.slots + 1)) (old_row t attr target m a w j lt) ∙ past_entry t w (length t.slots + 1) j.kept lt (omega arith))

pub old_equation : (t : Lists) (attr : ℕ) (target : Fraction) (m : List (List Term)) (a : List ℕ) (quantity : (ℕ → ℤ) → ℤ) (w : ℕ) (num : ℤ) (den : ℕ) → IsJoin t attr target m a → w < length t.slots → IsEquationAt t quantity w num den → IsEquationAt (joined t attr target m a) quantity w num den
old_equation t attr target m a quantity w num den j lt e =
    let to : RowName → ℤ = number (joined t attr target m a) w in
    let same : All (λ l. to l.name ≡ number t w l.name) (lines (problem_of t)) = λ k x within. old_number t attr target m a w (slice_index_or (lines (problem_of t)) k x).name j lt (own_name (lines (problem_of t)) k x within) in
    let before : IsLineEquation (problem_of t) (marks_at t) quantity e.0 to num den = same_numbers (problem_of t) (marks_at t) quantity e.0 (number t w) to num den same e.2 in (
      e.0,
      ap (coefficient w) (old_row t attr target m a w j lt) ∙ e.1,
      subst (λ (ms : List Mark). IsLineEquation (with_attr attr target (problem_of t)) ms quantity e.0 to num den) (sym (marks_joined t attr target m a j))
          (old_line (problem_of t) (marks_at t) attr target quantity e.0 to num den before (no_number t attr target m a w j lt)),
    )

-- ---- attributes

pub old_attr_row : (t : Lists) (attr : ℕ) (target : Fraction) (m : List (List Term)) (a : List ℕ) (b : ℕ) → IsJoin t attr target m a → HasStay t.stays b → IsAttrSlot t b → IsAttrRow t b → IsAttrRow (joined t attr target m a) b
old_attr_row t attr target m a b j has s row =
    let e = old_equation t attr target m a (λ x. x (attr_column b)) (attr_slot t b) (standing_at t (attr_slot t b)).value.num (standing_at t (attr_slot t b)).value.den j s.slot.1 row in
    let standing = old_standing t attr target m a (attr_slot t b) j.kept.slots s.slot.1 in
    subst (λ (w : ℕ). IsEquationAt (joined t attr target m a) (λ x. x (attr_column b)) w (standing_at (joined t attr target m a) w).value.num (standing_at (joined t attr target m a) w).value.den) (sym (old_attr t attr target m a b j has))
    (subst (λ (x : Standing). IsEquationAt (joined t attr target m a) (λ x. x (attr_column b)) (attr_slot t b) x.value.num x.value.den) (sym standing) e)

pub new_entry : (t : Lists) (attr : ℕ) (target : Fraction) (m : List (List Term)) (a : List ℕ) → IsJoin t attr target m a → entry (joined t attr target m a) (length t.slots) (length t.slots) ≡ pos 1
new_entry t attr target m a j = j.own (length t.slots) ∙ ap (λ (b : Bool). cond b (pos 1) (cond (nat_eq (length t.slots + 1) (length t.slots)) (negsuc 0) (pos 0))) (eq-eqb (length t.slots) (length t.slots) refl)

pub stay_entry : (t : Lists) (attr : ℕ) (target : Fraction) (m : List (List Term)) (a : List ℕ) → IsJoin t attr target m a → entry (joined t attr target m a) (length t.slots) (length t.slots + 1) ≡ negsuc 0
stay_entry t attr target m a j =
    j.own (length t.slots + 1)
    ∙ ap (λ (b : Bool). cond b (pos 1) (cond (nat_eq (length t.slots + 1) (length t.slots + 1)) (negsuc 0) (pos 0))) (ne_eqb (length t.slots) (length t.slots + 1) (λ e. absurd (omega (arith, e))))
    ∙ ap (λ (b : Bool). cond b (negsuc 0) (pos 0)) (eq-eqb (length t.slots + 1) (length t.slots + 1) refl)

pub far_entry : (t : Lists) (attr : ℕ) (target : Fraction) (m : List (List Term)) (a : List ℕ) (c : ℕ) → IsJoin t attr target m a → c ≢ length t.slots → c ≢ length t.slots + 1 → entry (joined t attr target m a) (length t.slots) c ≡ pos 0
far_entry t attr target m a c j one two =
    j.own c
    ∙ ap (λ (b : Bool). cond b (pos 1) (cond (nat_eq (length t.slots + 1) c) (negsuc 0) (pos 0))) (ne_eqb (length t.slots) c (λ e. one (sym e)))
    ∙ ap (λ (b : Bool). cond b (negsuc 0) (pos 0)) (ne_eqb (length t.slots + 1) c (λ e. two (sym e)))

pub cond_zero : (b : Bool) (z : ℤ) → z ≡ pos 0 → cond b (pos 0) z ≡ pos 0
cond_zero true z e = refl
cond_zero false z e = e

pub new_numbers : (t : Lists) (attr : ℕ) (target : Fraction) (m : List (List Term)) (a : List ℕ) (name : RowName) → IsJoin t attr target m a → IsNamed (problem_of t) name → number (joined t attr target m a) (length t.slots) name ≡ pos 0
new_numbers t attr target m a name j named =
    let s = named_slot t name j.kept.slots named in
    ap (λ (n : ℕ). cond (nat_eq n (length t.slots)) (pos 0) (neg_ℤ (entry (joined t attr target m a) (length t.slots) n))) (named_by t attr target m a name j named)
    ∙ cond_zero (nat_eq (line_slot t name) (length t.slots)) (neg_ℤ (entry (joined t attr target m a) (length t.slots) (line_slot t name)))
    (ap neg_ℤ (far_entry t attr target m a (line_slot t name) j (λ e. absurd (omega (arith, e, s.1))) (λ e. absurd (omega (arith, e, s.1)))))

pub new_own_number : (t : Lists) (attr : ℕ) (target : Fraction) (m : List (List Term)) (a : List ℕ) → IsJoin t attr target m a → number (joined t attr target m a) (length t.slots) (StayOf attr) ≡ pos 1
new_own_number t attr target m a j =
    ap (λ (n : ℕ). cond (nat_eq n (length t.slots)) (pos 0) (neg_ℤ (entry (joined t attr target m a) (length t.slots) n))) (stay_here t attr target m a j)
    ∙ ap (λ (b : Bool). cond b (pos 0) (neg_ℤ (entry (joined t attr target m a) (length t.slots) (length t.slots + 1)))) (ne_eqb (length t.slots + 1) (length t.slots) (λ e. absurd (omega (arith, e))))
    ∙ ap neg_ℤ (stay_entry t attr target m a j)

pub new_attr_row : (t : Lists) (attr : ℕ) (target : Fraction) (m : List (List Term)) (a : List ℕ) → IsJoin t attr target m a → IsAttrRow (joined t attr target m a) attr
new_attr_row t attr target m a j =
    let to : RowName → ℤ = number (joined t attr target m a) (length t.slots) in
    let e : IsLineEquation (with_attr attr target (problem_of t)) (marks_at t) (λ x. x (attr_column attr)) 1 to target.num target.den =
    attr_line (problem_of t) (marks_at t) attr target to j.kept.whole j.is_number j.fresh j.value.lowest.above j.kept.corner (new_own_number t attr target m a j) (λ k x lt. new_numbers t attr target m a (slice_index_or (lines (problem_of t)) k x).name j (own_name (lines (problem_of t)) k x lt)) in
    let f : IsLineEquation (with_attr attr target (problem_of t)) (marks_at (joined t attr target m a)) (λ x. x (attr_column attr)) 1 to target.num target.den =
    subst (λ (ms : List Mark). IsLineEquation (with_attr attr target (problem_of t)) ms (λ x. x (attr_column attr)) 1 to target.num target.den) (sym (marks_joined t attr target m a j)) e in
    subst (λ (w : ℕ). IsEquationAt (joined t attr target m a) (λ x. x (attr_column attr)) w (standing_at (joined t attr target m a) w).value.num (standing_at (joined t attr target m a) w).value.den) (sym j.attrs.here)
    (subst (λ (x : Standing). IsEquationAt (joined t attr target m a) (λ x. x (attr_column attr)) (length t.slots) x.value.num x.value.den) (sym (attr_standing t attr target m a j.kept.slots))
    (1, new_entry t attr target m a j, f))

-- ---- lines

pub old_line_row : (t : Lists) (attr : ℕ) (target : Fraction) (m : List (List Term)) (a : List ℕ) (name : RowName) (side : Option Side) → IsJoin t attr target m a → IsNamed (problem_of t) name → IsLineRow t name side → IsLineRow (joined t attr target m a) name side
old_line_row t attr target m a name (Some side) j named row =
    let s = named_slot t name j.kept.slots named in
    let e = old_equation t attr target m a (deviation name) (line_slot t name) (sign_of side *ℤ (standing_at t (line_slot t name)).value.num) (standing_at t (line_slot t name)).value.den j s.1 row in
    subst (λ (w : ℕ). IsEquationAt (joined t attr target m a) (deviation name) w (sign_of side *ℤ (standing_at (joined t attr target m a) w).value.num) (standing_at (joined t attr target m a) w).value.den) (sym (named_by t attr target m a name j named))
    (subst (λ (x : Standing). IsEquationAt (joined t attr target m a) (deviation name) (line_slot t name) (sign_of side *ℤ x.value.num) x.value.den) (sym (old_standing t attr target m a (line_slot t name) j.kept.slots s.1)) e)
old_line_row t attr target m a name None j named row =
    let s = named_slot t name j.kept.slots named in
    let same = named_by t attr target m a name j named in (
      ap (row_at (joined t attr target m a)) same ∙ old_row t attr target m a (line_slot t name) j s.1 ∙ row.0,
      ap (λ (w : ℕ). (standing_at (joined t attr target m a) w).value) same ∙ ap (λ (x : Standing). x.value) (old_standing t attr target m a (line_slot t name) j.kept.slots s.1) ∙ row.1,
    )

pub old_kept_line : (t : Lists) (attr : ℕ) (target : Fraction) (m : List (List Term)) (a : List ℕ) (name : RowName) → IsJoin t attr target m a → IsNamed (problem_of t) name → IsLineRow t name (standing_at t (line_slot t name)).side → IsLineRow (joined t attr target m a) name (standing_at (joined t attr target m a) (line_slot (joined t attr target m a) name)).side
old_kept_line t attr target m a name j named row =
    let s = named_slot t name j.kept.slots named in
    let same : (standing_at (joined t attr target m a) (line_slot (joined t attr target m a) name)).side ≡ (standing_at t (line_slot t name)).side = ap (λ (w : ℕ). (standing_at (joined t attr target m a) w).side) (named_by t attr target m a name j named) ∙ ap (λ (x : Standing). x.side) (old_standing t attr target m a (line_slot t name) j.kept.slots s.1) in
    subst (IsLineRow (joined t attr target m a) name) (sym same) (old_line_row t attr target m a name (standing_at t (line_slot t name)).side j named row)

pub new_kept_line : (t : Lists) (attr : ℕ) (target : Fraction) (m : List (List Term)) (a : List ℕ) → IsJoin t attr target m a → IsLineRow (joined t attr target m a) (StayOf attr) (standing_at (joined t attr target m a) (line_slot (joined t attr target m a) (StayOf attr))).side
new_kept_line t attr target m a j =
    let here = stay_here t attr target m a j in
    let standing : standing_at (joined t attr target m a) (line_slot (joined t attr target m a) (StayOf attr)) ≡ at_zero = ap (standing_at (joined t attr target m a)) here ∙ stay_standing t attr target m a j.kept.slots in
    let row : row_at (joined t attr target m a) (line_slot (joined t attr target m a) (StayOf attr)) ≡ [] =
    ap (row_at (joined t attr target m a)) here ∙ j.others (length t.slots + 1) (λ e. absurd (omega (arith, e))) ∙ get_or_past t.matrix (length t.slots + 1) [] (omega (arith, j.kept.slots.matrix)) in
    subst (IsLineRow (joined t attr target m a) (StayOf attr)) (sym (ap (λ (x : Standing). x.side) standing)) (row, ap (λ (x : Standing). x.value) standing)

-- ---- outside lines

abbrev pub stands_outside : (t : Lists) (c : ℕ) → Type 0
stands_outside t c = IsSlot t c × ((standing_at t c).side ≡ None) × ((name : RowName) × ((slot_at t c).owner ≡ LineSlot name))

pub stay_outside : (t : Lists) (attr : ℕ) (target : Fraction) (m : List (List Term)) (a : List ℕ) → IsJoin t attr target m a → stands_outside (joined t attr target m a) (length t.slots + 1)
stay_outside t attr target m a j =
    let n = count_two t.slots (slot_of_attr attr (length t.slots)) (slot_of_stay attr (length t.slots + 1)) in (
      (omega (arith, j.kept.slots.levels), omega (arith, n)),
      ap (λ (x : Standing). x.side) (stay_standing t attr target m a j.kept.slots),
      (StayOf attr, ap (λ (x : Slot). x.owner) (stay_place t attr target m a)),
    )

pub old_outside_row : (t : Lists) (attr : ℕ) (target : Fraction) (m : List (List Term)) (a : List ℕ) (w c : ℕ) → IsJoin t attr target m a → w ≢ length t.slots → entry (joined t attr target m a) w c ≢ pos 0 → c ≢ w → stands_outside (joined t attr target m a) c
old_outside_row t attr target m a w c j far ne other =
    let before : entry t w c ≢ pos 0 = λ e. ne (ap (coefficient c) (j.others w far) ∙ e) in
    let out = j.kept.outside w c before other in
    let n = count_two t.slots (slot_of_attr attr (length t.slots)) (slot_of_stay attr (length t.slots + 1)) in (
      (out.0.0, omega (arith, out.0.1, n)),
      ap (λ (x : Standing). x.side) (old_standing t attr target m a c j.kept.slots out.0.1) ∙ out.1,
      (out.2.0, ap (λ (x : Slot). x.owner) (old_slot t attr target m a c out.0.1) ∙ out.2.1),
    )

pub new_outside_row : (t : Lists) (attr : ℕ) (target : Fraction) (m : List (List Term)) (a : List ℕ) (c : ℕ) → IsJoin t attr target m a → entry (joined t attr target m a) (length t.slots) c ≢ pos 0 → c ≢ length t.slots → stands_outside (joined t attr target m a) c
new_outside_row t attr target m a c j ne other =
    elim (cases_eq c (length t.slots + 1)) [
      | inl e ↦ subst (stands_outside (joined t attr target m a)) (sym e) (stay_outside t attr target m a j)
      | inr far ↦ absurd (ne (far_entry t attr target m a c j other far))
    ]

pub outside_joined : (t : Lists) (attr : ℕ) (target : Fraction) (m : List (List Term)) (a : List ℕ) → IsJoin t attr target m a → AreOutside (joined t attr target m a)
outside_joined t attr target m a j w c ne other =
    elim (cases_eq w (length t.slots)) [
      | inl e ↦ new_outside_row t attr target m a c j (subst (λ (n : ℕ). entry (joined t attr target m a) n c ≢ pos 0) e ne) (subst (λ (n : ℕ). c ≢ n) e other)
      | inr far ↦ old_outside_row t attr target m a w c j far ne other
    ]
