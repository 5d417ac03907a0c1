-- The lines that are listed for negative values.
use Rattle.std.proofs.Common.{◌≡◌, ◌≢◌, ◌∙◌, ◌⊎◌, inl, inr, ℕ, zero, suc, ◌+◌, ◌<◌, ◌≤◌, ◌++◌, List, [], ◌∷◌, length, slice_index_or, pos, ◌≤ℤ◌, ◌<ℤ◌, refl, sym, ap, subst, arith, All, Contains, Some, None}
use Rattle.std.proofs.lemmas.List.Elements.{All-contains, All-push, Contains-append_left, Contains-push}
use borrow.Author.Differences.{ints}
use Rattle.problem_core.specs.declared.parts.Mark.{Mark}
use Rattle.problem_core.specs.declared.parts.RowName.{RowName}
use Rattle.problem_core.specs.declared.parts.Side.{Side}
use Rattle.problem_core.specs.declared.stops.What.{What}
use Rattle.problem_core.specs.declared.stops.What.TheVariants.{Attr as AttrOf, Mark as MarkOf, Level as LevelOf}
use Rattle.problem_core.specs.Corners.{IsIn, place}
use Rattle.corner_view.specs.declared.types.Owner.{Owner}
use Rattle.corner_view.specs.declared.types.Owner.TheVariants.{Level as LevelSlot, Attr as AttrSlot, Line as LineSlot}
use Rattle.corner_view.specs.Seen.{IsNamed}
use Rattle.corner_table.specs.Tables.{AreMoved, Lists, entry, line_slot, marks_at, problem_of, slot_at, standing_at}
use Rattle.corner_table.specs.Invariants.{name_of}
use Rattle.corner_table.specs.Kept.{IsKept, IsOwned, IsSlot}
use Rattle.corner_view.specs.Lows.{IsListedIfLow, ListsLow}
use Rattle.corner_writings.specs.Lows.{HasSide, IsLowSlot, ListsSlot, ListsSlots, name_at}
use Rattle.corner_table.proofs.Basics.OwnerFacts.{stay_named}
use Rattle.corner_writings.proofs.Readings.FreeSlots.{not_free}
use Rattle.corner_table.proofs.Readings.MarkFacts.{inside_stands}
use Rattle.corner_writings.proofs.Readings.MovedFacts.{moves_entry, none_some, only_other}
use Rattle.corner_table.proofs.Readings.ReadFacts.{inside_equation, is_some, value_inside}
use Rattle.corner_view.proofs.Facts.{mark_named, up_or_low}
use Rattle.corner_table.proofs.Readings.SlotFacts.{named_slot}
use Rattle.corner_table.proofs.Readings.WritingFacts.{in_mark, line_owner}
use Rattle.frac_core.proofs.Numbers.{less-or-here as before_or_here}

-- ---- one slot more

-- the lines of the first ones of the slots that have are listed, and no others are new
pub record ListsFirst (t : Lists) (ws : List ℕ) (i : ℕ) (old new : List RowName) : Type 0 where
  pub keeps : (name : RowName) → Contains old name → Contains new name
  pub named : ((w : ℕ) → Contains ws w → IsLowSlot t w → IsNamed (problem_of t) (name_at t w)) → All (IsNamed (problem_of t)) old → All (IsNamed (problem_of t)) new
  pub has : (k d : ℕ) → k < i → IsLowSlot t (slice_index_or ws k d) → Contains new (name_at t (slice_index_or ws k d))

pub none_first : (t : Lists) (ws : List ℕ) (old : List RowName) → ListsFirst t ws 0 old old
none_first t ws old = record {
  keeps = λ name h. h;
  named = λ of all. all;
  has = λ k d less low. absurd (omega (arith, less));
}

same_slot : (ws : List ℕ) (k d e : ℕ) → k < length ws → slice_index_or ws k d ≡ slice_index_or ws k e
same_slot [] k d e lt = absurd (omega (arith, lt))
same_slot (w ∷ ws) zero d e lt = refl
same_slot (w ∷ ws) (suc k) d e lt = same_slot ws k d e (omega (arith, lt))

has_slot : (ws : List ℕ) (k d : ℕ) → k < length ws → Contains ws (slice_index_or ws k d)
has_slot ws k d lt = (k, lt, same_slot ws k (slice_index_or ws k d) d lt)

pub one_first : (t : Lists) (ws : List ℕ) (i e : ℕ) (old mid new : List RowName) → i < length ws → ListsSlot t (slice_index_or ws i e) mid new → ListsFirst t ws i old mid → ListsFirst t ws (i + 1) old new
one_first t ws i e old mid new lt (inl (low, is)) h =
    subst (ListsFirst t ws (i + 1) old) (sym is) (record {
      keeps = λ name c. Contains-append_left mid (name_at t (slice_index_or ws i e) ∷ []) name (h.keeps name c);
      named = λ of all. All-push (IsNamed (problem_of t)) mid (name_at t (slice_index_or ws i e)) (h.named of all) (of (slice_index_or ws i e) (has_slot ws i e lt) low);
      has = λ k d less low. elim (before_or_here k i less) [
        | inl before ↦ Contains-append_left mid (name_at t (slice_index_or ws i e) ∷ []) (name_at t (slice_index_or ws k d)) (h.has k d before low)
        | inr here ↦
            subst (λ (w : ℕ). Contains (mid ++ name_at t (slice_index_or ws i e) ∷ []) (name_at t w))
            (same_slot ws i e d lt ∙ ap (λ (n : ℕ). slice_index_or ws n d) (sym here)) (Contains-push mid (name_at t (slice_index_or ws i e)))
      ];
    })
one_first t ws i e old mid new lt (inr (not, is)) h =
    subst (ListsFirst t ws (i + 1) old) (sym is) (record {
      keeps = h.keeps;
      named = h.named;
      has = λ k d less low. elim (before_or_here k i less) [
        | inl before ↦ h.has k d before low
        | inr here ↦ absurd (not (subst (IsLowSlot t) (ap (λ (n : ℕ). slice_index_or ws n d) here ∙ same_slot ws i d e lt) low))
      ];
    })

pub all_first : (t : Lists) (ws : List ℕ) (i : ℕ) (old new : List RowName) → length ws ≤ i → ListsFirst t ws i old new → ListsSlots t ws old new
all_first t ws i old new over h = record {
  keeps = h.keeps;
  named = h.named;
  has = λ w (k, lt, is) low.
      subst (λ (v : ℕ). Contains new (name_at t v)) is (h.has k w (omega (arith, lt, over)) (subst (IsLowSlot t) (sym is) low));
}

-- ---- by marks

inside_side : (t : Lists) (m : Mark) → IsIn (place m) (marks_at t) → (standing_at t (line_slot t m.row)).side ≡ Some m.side
inside_side t m i = is_some (standing_at t (line_slot t m.row)).side m.side (inside_stands t m i)

line_name : (t : Lists) (m : Mark) → IsKept t → IsIn (place m) (marks_at t) → name_at t (line_slot t m.row) ≡ m.row
line_name t m kept i = ap name_of (line_owner t m.row kept.slots (mark_named (problem_of t) m (in_mark t m kept i)))

-- a mark whose line is listed where its slot has a negative value
if_low : (t : Lists) (m : Mark) (new : List RowName) → IsKept t → IsIn (place m) (marks_at t) → (IsLowSlot t (line_slot t m.row) → Contains new (name_at t (line_slot t m.row))) → IsListedIfLow (problem_of t) (marks_at t) new m
if_low t m new kept i h = elim (up_or_low (standing_at t (line_slot t m.row)).value.num) [
  | inl up ↦ inr ((standing_at t (line_slot t m.row)).value, (inside_equation t m kept (in_mark t m kept i) (inside_stands t m i)).2.den_positive, value_inside t m kept (in_mark t m kept i) (inside_stands t m i), up)
  | inr low ↦ inl (subst (Contains new) (line_name t m kept i) (h (subst HasSide (sym (inside_side t m i)) tt, low)))
]

abbrev row_of : RowName → What → RowName
row_of name (AttrOf attr) = name
row_of name (MarkOf m) = m.row
row_of name (LevelOf level) = name

-- where the line is inside it alone is looked at
pub inside_listed : (t : Lists) (row : RowName) (w : ℕ) (s : Side) (old new : List RowName) → IsKept t → IsNamed (problem_of t) row → w ≡ line_slot t row → (standing_at t w).side ≡ Some s → ListsSlot t w old new → ListsLow (problem_of t) (marks_at t) row old new
inside_listed t row w s old new kept named e side lists = record {
  keeps = keeps lists;
  named = all_named lists;
  own = λ m r i. if_low t m new kept i (there m r);
  moved = λ d out m moves.
      let other = only_other t (record { row = row; side = d }) s (MarkOf m) kept out (ap (λ v. (standing_at t v).side) (sym e) ∙ side) moves in
      if_low t m new kept moves.1.0 (there m (sym (ap (row_of row) other)));
}
  where
    is_name : name_at t w ≡ row
    is_name = ap (name_at t) e ∙ ap name_of (line_owner t row kept.slots named)

    keeps : ListsSlot t w old new → (name : RowName) → Contains old name → Contains new name
    keeps (inl (low, is)) name c = subst (λ (xs : List RowName). Contains xs name) (sym is) (Contains-append_left old (name_at t w ∷ []) name c)
    keeps (inr (not, is)) name c = subst (λ (xs : List RowName). Contains xs name) (sym is) c

    all_named : ListsSlot t w old new → All (IsNamed (problem_of t)) old → All (IsNamed (problem_of t)) new
    all_named (inl (low, is)) all = subst (All (IsNamed (problem_of t))) (sym is) (All-push (IsNamed (problem_of t)) old (name_at t w) all (subst (IsNamed (problem_of t)) (sym is_name) named))
    all_named (inr (not, is)) all = subst (All (IsNamed (problem_of t))) (sym is) all

    has : ListsSlot t w old new → IsLowSlot t w → Contains new (name_at t w)
    has (inl (low, is)) h = subst (λ (xs : List RowName). Contains xs (name_at t w)) (sym is) (Contains-push old (name_at t w))
    has (inr (not, is)) h = absurd (not h)

    there : (m : Mark) → m.row ≡ row → IsLowSlot t (line_slot t m.row) → Contains new (name_at t (line_slot t m.row))
    there m r h =
        let same : w ≡ line_slot t m.row = e ∙ ap (line_slot t) (sym r) in
        subst (λ (v : ℕ). Contains new (name_at t v)) same (has lists (subst (IsLowSlot t) (sym same) h))

-- else the slots in whose rows it stands
pub outside_listed : (t : Lists) (row : RowName) (w : ℕ) (ws : List ℕ) (old new : List RowName) → IsKept t → IsNamed (problem_of t) row → w ≡ line_slot t row → (standing_at t w).side ≡ None → AreMoved t w ws → All (λ v. v < length t.slots) ws → ListsSlots t ws old new → ListsLow (problem_of t) (marks_at t) row old new
outside_listed t row w ws old new kept named e none moved within lists = record {
  keeps = lists.keeps;
  named = lists.named (λ v c low. slot_named v (slot_at t v).owner (((moved.exact v).0 c).0, All-contains (λ u. u < length t.slots) ws v within c) ((moved.exact v).0 c).1 refl);
  own = λ m r i. absurd (never m r i);
  moved = λ d out m moves.
      let i = moves.1.0 in
      let some = moves_entry t (record { row = row; side = d }) (MarkOf m) kept out (λ r. never m r i) moves in
      let slot = named_slot t m.row kept.slots (mark_named (problem_of t) m (in_mark t m kept i)) in
      if_low t m new kept i (lists.has (line_slot t m.row) ((moved.exact (line_slot t m.row)).1 (slot.0, subst (λ (v : ℕ). entry t (line_slot t m.row) v ≢ pos 0) (sym e) some)));
}
  where
    never : (m : Mark) → m.row ≡ row → IsIn (place m) (marks_at t) → ⊥
    never m r i = none_some (standing_at t w).side m.side none (ap (λ v. (standing_at t v).side) (e ∙ ap (line_slot t) (sym r)) ∙ inside_side t m i)

    owner_named : (v : ℕ) (o : Owner) → IsOwned t v o → (o ≡ LevelSlot → ⊥) → IsNamed (problem_of t) (name_of o)
    owner_named v LevelSlot owned not = absurd (not refl)
    owner_named v (AttrSlot attr) owned not = stay_named (problem_of t) attr owned.0
    owner_named v (LineSlot name) owned not = owned.0

    slot_named : (v : ℕ) (o : Owner) → IsSlot t v → entry t v w ≢ pos 0 → (slot_at t v).owner ≡ o → IsNamed (problem_of t) (name_at t v)
    slot_named v o slot some is = subst (IsNamed (problem_of t)) (sym (ap name_of is)) (owner_named v o (subst (IsOwned t v) is (kept.slots.owners v slot)) (λ free. not_free t v w kept.stored slot.0 some (is ∙ free)))
