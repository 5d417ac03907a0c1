-- The marks inside, the slots in rows and the stays' room after an exchange.
use Rattle.std.proofs.Common.{◌≡◌, ◌≢◌, ◌∙◌, ℕ, ◌<◌, ◌≤◌, true, List, [], length, slice_index_or, sym, ap, ap₂, subst, arith, inl, inr, pos, ◌*ℤ◌, All, Some, None}
use Rattle.std.specs.declared.option.Option.{Option}
use Rattle.std.proofs.lemmas.Bool.{cases_eq}
use Rattle.std.proofs.lemmas.List.{get_or_past}
use Rattle.std.proofs.lemmas.List.Elements.{All-contains, All-filter}
use Rattle.frac_core.specs.Fraction.{IsFitting}
use Rattle.row_core.specs.Rows.{Term, coefficient}
use Rattle.problem_core.specs.declared.parts.Mark.{Mark}
use Rattle.problem_core.specs.declared.parts.RowName.{RowName}
use Rattle.problem_core.specs.declared.parts.RowName.TheVariants.{Stay as StayOf}
use Rattle.problem_core.specs.declared.parts.Side.{Side}
use Rattle.problem_core.specs.declared.parts.Side.TheVariants.{Over}
use Rattle.problem_core.specs.declared.parts.Stay.{Stay}
use Rattle.problem_core.specs.Layout.{HasStay, lines}
use Rattle.problem_core.specs.Corners.{IsIn, SameMarks, Swap, marks_of, place}
use Rattle.corner_laws.proofs.Exchanged.{exchanged_in}
use Rattle.corner_exchange.specs.declared.exchange.Exchange.{Exchange}
use Rattle.corner_view.specs.declared.types.Owner.{Owner}
use Rattle.corner_view.specs.declared.types.Owner.TheVariants.{Line as LineSlot}
use Rattle.corner_table.specs.declared.table.Standing.{Standing}
use Rattle.corner_table.specs.declared.table.TheConstants.{LEVELS}
use Rattle.corner_view.specs.Seen.{IsMarkOf, IsNamed}
use Rattle.corner_table.specs.Tables.{Lists, entry, line_slot, marks_at, problem_of, row_at, slot_at, standing_at, stands_in}
use Rattle.corner_table.specs.Kept.{AreOutside, HasStayRoom, IsKept, IsSlot, IsStayOwner}
use Rattle.corner_exchange.specs.Swaps.Exchanges.{IsOutsideAfter, marks_after}
use Rattle.corner_table.specs.Kept.{IsOutsideSlot}
use Rattle.corner_exchange.specs.Swaps.NextLists.{over}
use Rattle.corner_table.proofs.Readings.SlotFacts.{named_slot}
use Rattle.corner_table.proofs.Readings.MarkFacts.{inside_stands, stands_inside}
use Rattle.corner_view.proofs.Facts.{mark_named, same_mark}
use Rattle.corner_table.proofs.Readings.ReadFacts.{is_some}
use Rattle.corner_table.proofs.Basics.ListFacts.{all_from, to_map}
use Rattle.corner_table.proofs.Readings.WritingFacts.{line_owner, lines_apart}
use Rattle.corner_exchange.proofs.Pivots.PairFacts.{leave_in, pair_exchange, side-stands}
use Rattle.corner_table.proofs.Basics.SmallFacts.{own_stay}
use Rattle.corner_table.proofs.Basics.OwnerFacts.{stay_named}
use Rattle.corner_table.proofs.Basics.SmallFacts.{below_or}
use Rattle.corner_exchange.proofs.Swaps.ExchangedFacts.{IsNext, same-side}
use Rattle.problem_core.proofs.Marks.{entered-in as enter_in, kept-in as kept_in}
use Rattle.problem_core.proofs.Sides.{none-not-some as not-some}

-- ---- the marks

abbrev some-side : Option Side → Side
some-side None = Over
some-side (Some s) = s

enter-standing : (t : Lists) (v : List Standing) (m : List (List Term)) (made : Exchange) (s : Swap) → IsNext t v m made s → (standing_at (over t v m) (line_slot t s.enter.row)).side ≡ Some s.enter.side
enter-standing t v m made s n =
    ap (λ w. (standing_at (over t v m) w).side) n.is.pair.enter_slot ∙ ap (λ (x : Standing). x.side) n.at.enter_standing ∙ ap (λ (d : Side). Some d) (sym n.is.pair.enter_side)

stands-next : (t : Lists) (v : List Standing) (m : List (List Term)) (made : Exchange) (s : Swap) (k : Mark) → IsNext t v m made s → IsMarkOf (problem_of t) k → stands_in (over t v m) k ≡ true → IsIn (place k) (marks_after t s)
stands-next t v m made s k n is stands =
    let u : Lists = over t v m in
    let w : ℕ = line_slot t k.row in
    let are = n.is.pair in
    let named = mark_named (problem_of t) k is in
    let side : (standing_at u w).side ≡ Some k.side = is_some (standing_at u w).side k.side stands in
    elim (cases_eq w made.pair.enter) [
      | inl e ↦
          let row : s.enter.row ≡ k.row = lines_apart t s.enter.row k.row n.kept.slots are.enters named (e ∙ sym are.enter_slot) in
          let there : Some s.enter.side ≡ Some k.side = sym (ap (λ (r : RowName). (standing_at u (line_slot t r)).side) (sym row) ∙ enter-standing t v m made s n) ∙ side in
          let mark : s.enter ≡ k = ap₂ (λ (r : RowName) (d : Side). (record { row = r; side = d })) row (ap some-side there) in
          subst (λ (x : Mark). IsIn (place x) (marks_after t s)) mark (enter_in s (marks_at t) (leave_in t made.pair s are))
      | inr ne ↦ elim (cases_eq w made.pair.leave) [
        | inl e ↦ absurd (not-some k.side (sym (ap (λ c. (standing_at u c).side) e ∙ ap (λ (x : Standing). x.side) n.at.leave_standing) ∙ side))
        | inr nl ↦
            let before : (standing_at t w).side ≡ Some k.side = sym (same-side t u _ made.changes.items w (n.at.others w ne nl)) ∙ side in
            kept_in s (marks_at t) (place k) (stands_inside t k is (side-stands t k before))
            (λ q. nl (ap (λ (x : Mark). line_slot t x.row) (same_mark k s.leave q) ∙ are.leave_slot))
      ]
    ]

next-stands : (t : Lists) (v : List Standing) (m : List (List Term)) (made : Exchange) (s : Swap) (k : Mark) → IsNext t v m made s → IsMarkOf (problem_of t) k → IsIn (place k) (marks_after t s) → stands_in (over t v m) k ≡ true
next-stands t v m made s k n is inside =
    let u : Lists = over t v m in
    let w : ℕ = line_slot t k.row in
    let are = n.is.pair in
    let named = mark_named (problem_of t) k is in
    elim (exchanged_in s (marks_at t) (place k) inside) [
      | inl q ↦ subst (λ (x : Mark). stands_in u x ≡ true) (sym (same_mark k s.enter q)) (side-stands u s.enter (enter-standing t v m made s n))
      | inr (i, nq) ↦
          let side : (standing_at t w).side ≡ Some k.side = is_some (standing_at t w).side k.side (inside_stands t k i) in
          let ne : w ≢ made.pair.enter = λ e. not-some k.side (sym (ap (λ c. (standing_at t c).side) e ∙ are.outside) ∙ side) in
          let nl : w ≢ made.pair.leave = λ e.
          let row : s.leave.row ≡ k.row = lines_apart t s.leave.row k.row n.kept.slots are.leaves named (e ∙ sym are.leave_slot) in
          let there : Some s.leave.side ≡ Some k.side = sym (ap (λ c. (standing_at t c).side) e ∙ are.inside) ∙ side in
          nq (ap place (sym (ap₂ (λ (r : RowName) (d : Side). (record { row = r; side = d })) row (ap some-side there)))) in
          side-stands u k (same-side t u _ made.changes.items w (n.at.others w ne nl) ∙ side)
    ]

-- each mark inside is one of the problem's
pub marks_are : (t : Lists) → All (IsMarkOf (problem_of t)) (marks_at t)
marks_are t =
    All-filter (stands_in t) (IsMarkOf (problem_of t)) (marks_of (lines (problem_of t)))
    (all_from (IsMarkOf (problem_of t)) (marks_of (lines (problem_of t))) (λ m c. to_map place (marks_of (lines (problem_of t))) m c))

-- marks where the lists say so are those inside
pub same_inside : (t : Lists) (at : List Mark) → All (IsMarkOf (problem_of t)) at → ((m : Mark) → IsMarkOf (problem_of t) m → stands_in t m ≡ true → IsIn (place m) at)
    → ((m : Mark) → IsMarkOf (problem_of t) m → IsIn (place m) at → stands_in t m ≡ true) → SameMarks at (marks_at t)
same_inside t at are to from = (
  all_from (λ (m : Mark). IsIn (place m) (marks_at t)) at (λ m c. let is = All-contains (IsMarkOf (problem_of t)) at m are c in stands_inside t m is (from m is (to_map place at m c))),
  all_from (λ (m : Mark). IsIn (place m) at) (marks_at t) (λ m c. to m (All-contains (IsMarkOf (problem_of t)) (marks_at t) m (marks_are t) c) (inside_stands t m (to_map place (marks_at t) m c))),
)

pub exchanged_marks : (t : Lists) (v : List Standing) (m : List (List Term)) (made : Exchange) (s : Swap) → IsNext t v m made s → SameMarks (marks_after t s) (marks_at (over t v m))
exchanged_marks t v m made s n =
    same_inside (over t v m) (marks_after t s) (pair_exchange t made.pair s n.kept n.is.pair).corner.marks (λ k. stands-next t v m made s k n) (λ k. next-stands t v m made s k n)

-- ---- the slots in rows

line_owned : (t : Lists) (w : ℕ) (name : RowName) → IsKept t → IsNamed (problem_of t) name → line_slot t name ≡ w → IsSlot t w × ((name : RowName) × ((slot_at t w).owner ≡ LineSlot name))
line_owned t w name kept named e = (subst (IsSlot t) e (named_slot t name kept.slots named), (name, ap (λ c. (slot_at t c).owner) (sym e) ∙ line_owner t name kept.slots named))

leave-outside : (t : Lists) (v : List Standing) (m : List (List Term)) (made : Exchange) (s : Swap) (c : ℕ) → IsNext t v m made s → c ≡ made.pair.leave → IsOutsideSlot (over t v m) c
leave-outside t v m made s c n e =
    let h = line_owned t made.pair.leave s.leave.row n.kept n.is.pair.leaves n.is.pair.leave_slot in
    subst (IsOutsideSlot (over t v m)) (sym e) (h.0, ap (λ (x : Standing). x.side) n.at.leave_standing, h.1)

after-outside : (t : Lists) (v : List Standing) (m : List (List Term)) (made : Exchange) (s : Swap) (c : ℕ) → IsNext t v m made s → IsOutsideAfter t made.pair c → IsOutsideSlot (over t v m) c
after-outside t v m made s c n (inl e) = leave-outside t v m made s c n e
after-outside t v m made s c n (inr (ne, (slot, none, owner))) =
    elim (cases_eq c made.pair.leave) [
      | inl e ↦ leave-outside t v m made s c n e
      | inr nl ↦ (slot, same-side t (over t v m) _ made.changes.items c (n.at.others c ne nl) ∙ none, owner)
    ]

none-there : (c : ℕ) (row : List Term) → row ≡ [] → coefficient c row ≢ pos 0 → ⊥
none-there c row e some = some (ap (coefficient c) e)

outside-within : (t : Lists) (v : List Standing) (m : List (List Term)) (made : Exchange) (s : Swap) (w c : ℕ) → IsNext t v m made s → w < length t.slots → coefficient c (row_at (over t v m) w) ≢ pos 0 → c ≢ w → IsOutsideAfter t made.pair c
outside-within t v m made s w c n lt some ne =
    let u : Lists = over t v m in
    elim (cases_eq w made.pair.enter) [
      | inl e ↦ n.is.enters.outside c (λ z. some (ap (λ k. coefficient c (row_at u k)) e ∙ ap (coefficient c) n.at.enter_row ∙ z)) (λ q. ne (q ∙ sym e))
      | inr de ↦ elim (cases_eq w made.pair.leave) [
        | inl e ↦ absurd (none-there c (row_at u w) (ap (row_at u) e ∙ n.at.leave_row) some)
        | inr dl ↦ elim (n.at.others w de dl) [
          | inl (d, p, here, row, side, value) ↦ p.outside c (λ z. some (ap (coefficient c) row ∙ z)) (λ q. ne (q ∙ here))
          | inr (none, row, st) ↦
              let there : entry t w c ≢ pos 0 = λ z. some (ap (coefficient c) row ∙ z) in
              inr ((λ e. there (ap (entry t w) e ∙ (n.is.rest w lt de dl none).absent)), n.kept.outside w c there ne)
        ]
      ]
    ]

pub exchanged_outside : (t : Lists) (v : List Standing) (m : List (List Term)) (made : Exchange) (s : Swap) → length m ≡ length t.slots → IsNext t v m made s → AreOutside (over t v m)
exchanged_outside t v m made s count n w c some ne =
    elim (below_or w (length t.slots)) [
      | inl lt ↦ after-outside t v m made s c n (outside-within t v m made s w c n lt some ne)
      | inr past ↦ absurd (none-there c (row_at (over t v m) w) (get_or_past m w [] (omega (arith, past, count))) some)
    ]

-- ---- the stays' room

zero-room : IsFitting (pos 2 *ℤ pos 0)
zero-room = omega arith

room-next : (t : Lists) (v : List Standing) (m : List (List Term)) (made : Exchange) (s : Swap) (x : Stay) → IsNext t v m made s → HasStay t.stays x.attr → HasStayRoom t x → HasStayRoom (over t v m) x
room-next t v m made s x n has room =
    let u : Lists = over t v m in
    let name : RowName = StayOf x.attr in
    let w : ℕ = line_slot t name in
    let named = stay_named (problem_of t) x.attr has in
    let slot = named_slot t name n.kept.slots named in
    let owner : (slot_at t w).owner ≡ LineSlot name = line_owner t name n.kept.slots named in
    let stay : IsStayOwner (slot_at t w).owner = subst (λ (o : Owner). IsStayOwner o) (sym owner) tt in
    elim (cases_eq w made.pair.enter) [
      | inl e ↦ subst (λ k. IsFitting (pos 2 *ℤ entry u k k)) (sym e)
          (subst (λ (r : List Term). IsFitting (pos 2 *ℤ coefficient made.pair.enter r)) (sym n.at.enter_row) (n.is.enters.room (subst (λ k. IsStayOwner (slot_at t k).owner) e stay)))
      | inr de ↦ elim (cases_eq w made.pair.leave) [
        | inl e ↦ subst (λ k. IsFitting (pos 2 *ℤ entry u k k)) (sym e) (subst (λ (r : List Term). IsFitting (pos 2 *ℤ coefficient made.pair.leave r)) (sym n.at.leave_row) zero-room)
        | inr dl ↦ elim (n.at.others w de dl) [
          | inl (d, p, here, row, side, value) ↦
              subst (λ (r : List Term). IsFitting (pos 2 *ℤ coefficient w r)) (sym row)
              (subst (λ k. IsFitting (pos 2 *ℤ coefficient k d.row)) here ((p.row_is.1 (subst (λ k. LEVELS ≤ k) (sym here) slot.0)).1 (subst (λ k. IsStayOwner (slot_at t k).owner) (sym here) stay)))
          | inr (none, row, st) ↦ subst (λ (r : List Term). IsFitting (pos 2 *ℤ coefficient w r)) (sym row) room
        ]
      ]
    ]

pub exchanged_room : (t : Lists) (v : List Standing) (m : List (List Term)) (made : Exchange) (s : Swap) → IsNext t v m made s → All (HasStayRoom (over t v m)) t.stays
exchanged_room t v m made s n i x lt = room-next t v m made s (slice_index_or t.stays i x) n (own_stay t.stays i x lt) (n.kept.stay_levels i x lt)
