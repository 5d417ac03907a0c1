-- A corner whose stays come in another order is consistent: `fronted_consistent`.
use Rattle.std.proofs.Common.{◌≡◌, ◌∙◌, ℕ, List, [], ◌∷◌, slice_index_or, sym, ap, subst, arith, inl, inr, All, Any, Contains, Result, Ok, Err, OnOk}
use Rattle.std.specs.List.{AllByRecursion as Each}
use Rattle.std.proofs.lemmas.List.Elements.{recursion_from_All}
use Rattle.version_lists.proofs.Indexing.{number_at_column}
use Rattle.frac_core.proofs.Lists.{any-cases}
use Rattle.problem_core.proofs.Marks.{same-back, same-multipliers}
use Rattle.problem_core.proofs.RowNames.{stay-same}
use Rattle.problem_core.specs.declared.parts.Mark.{Mark}
use Rattle.problem_core.specs.declared.parts.RowName.{RowName}
use Rattle.problem_core.specs.declared.parts.RowName.TheVariants.{Stay as StayOf}
use Rattle.problem_core.specs.declared.parts.Stay.{Stay}
use Rattle.problem_core.specs.Layout.{HasStay, Problem}
use Rattle.problem_core.specs.Corners.{HasNegativeColumn, IsIn, SameMarks, place}
use Rattle.corner_laws.proofs.WrittenValues.{contains_each}
use Rattle.stay_orders.specs.Orders.{fronted, with_front}
use Rattle.stay_orders.proofs.Members.{there_before}
use Rattle.stay_orders.proofs.Wholes.{front_apart, front_length}
use Rattle.corner_table.specs.declared.table.Slot.{Slot}
use Rattle.corner_table.specs.declared.table.Table.{Table}
use Rattle.corner_table.specs.declared.table.TheConstants.{LEVELS}
use Rattle.corner_table.specs.Histories.{AreAlike, lists_before}
use Rattle.corner_table.specs.Invariants.{IsConsistent, IsEarlier, name_of, names_of}
use Rattle.corner_table.specs.Kept.{IsKept, IsSlot}
use Rattle.corner_table.specs.Tables.{Lists, line_slot, lists_of, marks_at, problem_of, row_at, slot_at}
use Rattle.corner_view.specs.Seen.{AreCandidates, IsNamed, IsOutside}
use Rattle.corner_table.proofs.Basics.ListFacts.{all_from, from_map, to_map}
use Rattle.corner_table.proofs.Readings.KeptFacts.{row_kept}
use Rattle.corner_view.proofs.Facts.{mark_named}
use Rattle.corner_table.proofs.Readings.SlotFacts.{named_slot}
use Rattle.corner_table.proofs.Readings.WritingFacts.{line_owner, lines_apart}
use Rattle.corner_table.proofs.Basics.OwnerFacts.{stay_named}
use Rattle.corner_table.proofs.Basics.SmallFacts.{own_stay}
use Rattle.corner_orders.specs.Fronted.{AreFronted, AreListedOf, slots_of}
use Rattle.corner_orders.proofs.Orders.FrontedColumns.{StandsIn, fronted_negative}
use Rattle.corner_orders.proofs.Orders.FrontedKept.{IsFronting, all_stays, front, fronted_kept, marks_there, named_there, owner_same, slot_there}
use Rattle.corner_orders.proofs.Orders.FrontedSlots.{fronted_lists, put_ranks, reranked}
use Rattle.corner_exchange.proofs.Swaps.ListedSlots.{CanBeListed, outside_listed, were_listed}

-- ---- what is listed

listed-keeps : (t : Lists) (attrs old new : List ℕ) → AreListedOf t attrs old new → (w : ℕ) → Contains old w → Contains new w
listed-keeps t [] old new same w has = subst (λ ws. Contains ws w) (sym same) has
listed-keeps t (attr ∷ attrs) old new (mid, one, rest) w has = listed-keeps t attrs mid new rest w (one.keeps w has)

-- a line that stands in the row of one of the stays
listed-stands : (t : Lists) (attrs old new : List ℕ) (m : Mark) → IsKept t → Each (HasStay t.stays) attrs → IsNamed (problem_of t) m.row → AreListedOf t attrs old new → Any (StandsIn t m) attrs → Contains new (line_slot t m.row)
listed-stands t [] old new m kept has named listed some = absurd (omega (arith, some.2))
listed-stands t (attr ∷ attrs) old new m kept has named (mid, one, rest) some =
    let w : ℕ = line_slot t (StayOf attr) in
    elim (any-cases (StandsIn t m) attr attrs some) [
      | inl here ↦
          listed-keeps t attrs mid new rest (line_slot t m.row)
          (one.has (line_slot t m.row) (named_slot t m.row kept.slots named).0
          (λ e. here.0 (lines_apart t m.row (StayOf attr) kept.slots named (stay_named (problem_of t) attr has.0) (sym e)))
          ((number_at_column (line_slot t m.row) (row_at t w) (row_kept t w kept)).0 here.1))
      | inr later ↦ listed-stands t attrs mid new m kept has.1 named rest later
    ]

-- what is listed then could be before
could-be : (t : Lists) (attrs old new : List ℕ) → IsKept t → ((w : ℕ) → Contains old w → CanBeListed t w) → AreListedOf t attrs old new → (w : ℕ) → Contains new w → CanBeListed t w
could-be t [] old new kept can same w has = can w (subst (λ ws. Contains ws w) same has)
could-be t (attr ∷ attrs) old new kept can (mid, one, rest) w has =
    could-be t attrs mid new kept
    (λ c there. elim (one.others c there) [
      | inl before ↦ can c before
      | inr (le, ne, column) ↦
          let s : ℕ = line_slot t (StayOf attr) in
          outside_listed t c kept.slots (kept.outside s c ((number_at_column c (row_at t s) (row_kept t s kept)).1 column) ne)
    ]) rest w has

-- ---- the slots of the order

abbrev new_slots : Lists → List ℕ → List Slot
new_slots t attrs = put_ranks LEVELS (slots_of t (with_front attrs t.stays)) t.slots

fronting : (t : Lists) (attrs : List ℕ) → IsKept t → IsFronting t attrs (new_slots t attrs)
fronting t attrs kept =
    let order : List Stay = with_front attrs t.stays in
    let held : All (λ s. HasStay t.stays s.attr) order = all_stays (λ s. HasStay t.stays s.attr) attrs t.stays (λ k x lt. own_stay t.stays k x lt) in
    record {
      kept = kept;
      ranks = reranked order t
          (λ i k d lt within e.
          front_apart attrs t.stays kept.whole.apart i k d lt within
          (stay-same (slice_index_or order i d).attr (slice_index_or order k d).attr
          (lines_apart t (StayOf (slice_index_or order i d).attr) (StayOf (slice_index_or order k d).attr) kept.slots
          (stay_named (problem_of t) (slice_index_or order i d).attr (held i d (omega (arith, lt, within)))) (stay_named (problem_of t) (slice_index_or order k d).attr (held k d within)) (sym e))))
          (λ k d lt. named_slot t (StayOf (slice_index_or order k d).attr) kept.slots (stay_named (problem_of t) (slice_index_or order k d).attr (held k d lt)))
          kept.slots.ranks (let count = front_length attrs t.stays in let few = kept.whole.stay_count in omega (arith, count, few));
    }

pub fronted_now : (t u : Lists) (attrs : List ℕ) → AreFronted (with_front attrs t.stays) t u → u ≡ front t attrs (new_slots t attrs)
fronted_now t u attrs h = fronted_lists (with_front attrs t.stays) t u h

-- ---- the corner

name-there : (t : Lists) (attrs : List ℕ) (slots : List Slot) (new : List ℕ) (w : ℕ) (name : RowName) → IsFronting t attrs slots → name_of (slot_at t w).owner ≡ name → Contains new w → Contains (names_of (front t attrs slots) new) name
name-there t attrs slots new w name f is has =
    subst (λ (n : RowName). Contains (names_of (front t attrs slots) new) n) (ap name_of (owner_same t attrs slots w f) ∙ is)
    (to_map (λ w. name_of (slot_at (front t attrs slots) w).owner) new w has)

candidate : (t : Lists) (attrs : List ℕ) (slots : List Slot) (old new : List ℕ) (m : Mark) → IsFronting t attrs slots → Each (HasStay t.stays) attrs → AreListedOf t attrs old new → AreCandidates (problem_of t) (marks_at t) (names_of t old)
    → IsOutside (fronted attrs (problem_of t)) (marks_at (front t attrs slots)) m → HasNegativeColumn (fronted attrs (problem_of t)) (marks_at (front t attrs slots)) m → Contains (names_of (front t attrs slots) new) m.row
candidate t attrs slots old new m f has listed before out negative =
    let p : Problem = problem_of t in
    let q : Problem = fronted attrs p in
    let u : Lists = front t attrs slots in
    let same = marks_there t attrs slots f.kept in
    let to : (c : ℕ) → IsIn c (marks_at t) → IsIn c (marks_at u) = λ c i. contains_each (λ (b : ℕ). IsIn b (marks_at u)) (marks_at t) c (recursion_from_All (λ (k : Mark). IsIn (place k) (marks_at u)) (marks_at t) same.0) i in
    let was : IsOutside p (marks_at t) m = (there_before attrs p (place m) out.0, λ i. out.1 (to (place m) i)) in
    let low : HasNegativeColumn q (marks_at t) m = (negative.0, same-multipliers q (marks_at t) (marks_at u) negative.0 to negative.1, negative.2) in
    elim (fronted_negative t attrs m f.kept has was low) [
      | inl still ↦
          let i = from_map (λ w. name_of (slot_at t w).owner) old m.row (before m was still) in
          name-there t attrs slots new i.of m.row f i.is (listed-keeps t attrs old new listed i.of i.has)
      | inr some ↦
          let named = mark_named p m was.0 in
          name-there t attrs slots new (line_slot t m.row) m.row f (ap name_of (line_owner t m.row f.kept.slots named)) (listed-stands t attrs old new m f.kept has named listed some)
    ]

there : (t : Lists) (attrs : List ℕ) (slots : List Slot) (old new : List ℕ) → IsFronting t attrs slots → AreListedOf t attrs old new → All (IsSlot t) old → All (IsNamed (problem_of t)) (names_of t old)
    → All (IsSlot (front t attrs slots)) new × All (IsNamed (fronted attrs (problem_of t))) (names_of (front t attrs slots) new)
there t attrs slots old new f listed are named =
    let can = could-be t attrs old new f.kept (were_listed t old are named) listed in (
      all_from (IsSlot (front t attrs slots)) new (λ w has. slot_there t attrs slots w f (can w has).0),
      all_from (IsNamed (fronted attrs (problem_of t))) (names_of (front t attrs slots) new) (λ name has.
          let i = from_map (λ w. name_of (slot_at (front t attrs slots) w).owner) new name has in
          named_there attrs (problem_of t) name
          (subst (IsNamed (problem_of t)) (sym (ap name_of (owner_same t attrs slots i.of f)) ∙ i.is) (can i.of i.has).1)),
    )

pub fronted_consistent : (old new : Table) (attrs listed next : List ℕ) → IsConsistent old listed → All (HasStay old.stays.items) attrs → AreAlike new → lists_before new ≡ lists_before old
    → AreFronted (with_front attrs old.stays.items) (lists_of old) (lists_of new) → AreListedOf (lists_of old) attrs listed next → IsConsistent new next
fronted_consistent old new attrs listed next c held alike before order after =
    let t : Lists = lists_of old in
    let slots : List Slot = new_slots t attrs in
    let u : Lists = front t attrs slots in
    let now : lists_of new ≡ u = fronted_now t (lists_of new) attrs order in
    let f = fronting t attrs c.kept in
    let has = recursion_from_All (HasStay t.stays) attrs held in
    let both = there t attrs slots listed next f after c.slots c.named in
    record {
      alike = alike;
      before = subst (All IsEarlier) (sym before) c.before;
      kept = subst IsKept (sym now) (fronted_kept t attrs slots f);
      slots = subst (λ (x : Lists). All (IsSlot x) next) (sym now) both.0;
      named = subst (λ (x : Lists). All (IsNamed (problem_of x)) (names_of x next)) (sym now) both.1;
      candidates = subst (λ (x : Lists). AreCandidates (problem_of x) (marks_at x) (names_of x next)) (sym now)
          (λ m out negative. candidate t attrs slots listed next m f has after c.candidates out negative);
    }

pub fronted_marks : (t u : Lists) (attrs : List ℕ) → IsKept t → AreFronted (with_front attrs t.stays) t u → SameMarks (marks_at u) (marks_at t)
fronted_marks t u attrs kept order =
    subst (λ (x : Lists). SameMarks (marks_at x) (marks_at t)) (sym (fronted_now t u attrs order)) (same-back (marks_at t) (marks_at (front t attrs (new_slots t attrs))) (marks_there t attrs (new_slots t attrs) kept))

pub fronted_problem : (t u : Lists) (attrs : List ℕ) → AreFronted (with_front attrs t.stays) t u → problem_of u ≡ fronted attrs (problem_of t)
fronted_problem t u attrs order = ap problem_of (fronted_now t u attrs order)

pub on_both : {A E : Type 0} (r : Result A E) (P Q R : Type 0) → (P → Q → R) → OnOk r P → OnOk r Q → OnOk r R
on_both (Ok x) P Q R f h g = f h g
on_both (Err e) P Q R f h g = tt
