-- The lists after an exchange keep all.
use Rattle.std.proofs.Common.{◌≡◌, ◌≢◌, ◌∙◌, ◌⊎◌, ℕ, ◌<◌, ◌≤◌, List, [], ◌∷◌, length, refl, sym, ap, ap₂, subst, arith, inl, inr, ℤ, pos, neg_ℤ, ◌*ℤ◌, All, Some, None}
use Rattle.std.specs.declared.option.Option.{Option}
use Rattle.std.specs.List.{AllByRecursion as Each}
use Rattle.std.proofs.lemmas.Bool.{cases_eq}
use Rattle.std.proofs.lemmas.Grind.{get_or-set_at}
use Rattle.std.proofs.lemmas.List.{get_or-set_other}
use Rattle.std.proofs.lemmas.List.Elements.{All-from_recursion, recursion_from_All}
use Rattle.frac_core.specs.Fraction.{Fraction}
use Rattle.row_core.specs.Rows.{Term}
use Rattle.problem_core.specs.declared.parts.Mark.{Mark}
use Rattle.problem_core.specs.declared.parts.RowName.{RowName}
use Rattle.problem_core.specs.declared.parts.Side.{Side}
use Rattle.problem_core.specs.declared.parts.Stay.{Stay}
use Rattle.problem_core.specs.Layout.{HasStay, Line, lines}
use Rattle.problem_core.specs.Window.{zero_fraction}
use Rattle.problem_core.specs.Corners.{Swap, attr_column}
use Rattle.corner_lines.specs.LineEquations.{deviation, sign_of}
use Rattle.corner_lines.proofs.Lines.LineExchanges.{line_stays}
use Rattle.corner_exchange.specs.declared.exchange.Change.{Change}
use Rattle.corner_exchange.specs.declared.exchange.Exchange.{Exchange}
use Rattle.corner_writings.specs.declared.levels.Pair.{Pair}
use Rattle.corner_view.specs.declared.types.Owner.{Owner}
use Rattle.corner_view.specs.declared.types.Owner.TheVariants.{Level as LevelSlot, Attr as AttrSlot, Line as LineSlot}
use Rattle.corner_table.specs.declared.table.Slot.{Slot}
use Rattle.corner_table.specs.declared.table.Standing.{Standing}
use Rattle.corner_table.specs.declared.table.TheConstants.{LEVELS}
use Rattle.corner_view.specs.Seen.{IsNamed}
use Rattle.corner_table.specs.Tables.{Lists, attr_slot, entry, line_slot, marks_at, number, problem_of, row_at, slot_at, standing_at}
use Rattle.corner_table.specs.Kept.{AreSlots, AreStored, IsAttrSlot, IsEquationAt, IsKept, IsLineRow, IsSlot}
use Rattle.corner_exchange.specs.Swaps.Exchanges.{IsChangeOf, IsEquationBy, IsExchangeOf, IsOwnerRow, IsPair, cleared, exchanged_lists, filled, marks_after, with_change, with_changes}
use Rattle.corner_exchange.specs.Swaps.NextLists.{IsLineBy, over}
use Rattle.corner_table.proofs.Readings.SlotFacts.{any_is, named_slot}
use Rattle.corner_writings.proofs.Readings.FreeSlots.{free_line}
use Rattle.corner_table.proofs.Readings.ReadFacts.{attr_equation}
use Rattle.corner_table.proofs.Readings.WritingFacts.{attr_apart, attr_owner, line_owner, lines_apart, number_is}
use Rattle.corner_exchange.proofs.Pivots.PairFacts.{slots_apart}
use Rattle.corner_exchange.proofs.Pivots.PivotFacts.{enter_within, leave_within}
use Rattle.corner_exchange.proofs.Swaps.PutFacts.{changes_keep, changes_slots, cleared_slots}

-- ---- changes that were put

-- the slot has the row and the value of a change
abbrev pub IsPutAt : Lists → Lists → (Change → Type 0) → ℕ → Type 0
IsPutAt t u P w = (change : Change) × P change × (change.at ≡ w) × (row_at u w ≡ change.row)
    × ((standing_at u w).side ≡ (standing_at t w).side) × ((standing_at u w).value ≡ change.value)

-- the slot is as it was
abbrev pub IsStillAt : Lists → Lists → List Change → ℕ → Type 0
IsStillAt t u changes w = All (λ change. change.at ≢ w) changes × (row_at u w ≡ row_at t w) × (standing_at u w ≡ standing_at t w)

put-here : (t u : Lists) (P : Change → Type 0) (c : Change) (w : ℕ) → P c → w ≡ c.at → c.at < length u.matrix → c.at < length u.standings → (standing_at u c.at).side ≡ (standing_at t c.at).side → IsPutAt t (with_change u c) P w
put-here t u P c w p e m s side =
    let st : standing_at (with_change u c) w ≡ record { side = (standing_at u c.at).side; value = c.value } =
    get_or-set_at u.standings c.at w (record { side = (standing_at u c.at).side; value = c.value }) (record { side = None; value = zero_fraction }) e s in
    (c, p, sym e, get_or-set_at u.matrix c.at w c.row [] e m, ap (λ (x : Standing). x.side) st ∙ side ∙ ap (λ n. (standing_at t n).side) (sym e), ap (λ (x : Standing). x.value) st)

put-other : (t u : Lists) (P : Change → Type 0) (c : Change) (cs : List Change) (w : ℕ) → w ≢ c.at → IsPutAt t u P w ⊎ IsStillAt t u cs w → IsPutAt t (with_change u c) P w ⊎ IsStillAt t (with_change u c) (c ∷ cs) w
put-other t u P c cs w ne before =
    let row : row_at (with_change u c) w ≡ row_at u w = get_or-set_other u.matrix c.at w c.row [] ne in
    let st : standing_at (with_change u c) w ≡ standing_at u w =
    get_or-set_other u.standings c.at w (record { side = (standing_at u c.at).side; value = c.value }) (record { side = None; value = zero_fraction }) ne in
    elim before [
      | inl (d, p, at, r, side, value) ↦ inl (d, p, at, row ∙ r, ap (λ (x : Standing). x.side) st ∙ side, ap (λ (x : Standing). x.value) st ∙ value)
      | inr (none, r, s) ↦ inr (All-from_recursion (λ (x : Change). x.at ≢ w) (c ∷ cs) ((λ e. ne (sym e)), recursion_from_All (λ (x : Change). x.at ≢ w) cs none), row ∙ r, st ∙ s)
    ]

pub same-side : (t u : Lists) (P : Change → Type 0) (cs : List Change) (w : ℕ) → IsPutAt t u P w ⊎ IsStillAt t u cs w → (standing_at u w).side ≡ (standing_at t w).side
same-side t u P cs w (inl (d, p, at, r, side, value)) = side
same-side t u P cs w (inr (none, r, s)) = ap (λ (x : Standing). x.side) s

pub changes_at : (t : Lists) (P : Change → Type 0) (changes : List Change) (w : ℕ) → AreSlots t → Each P changes → ((c : Change) → P c → c.at < length t.slots)
    → IsPutAt t (with_changes t changes) P w ⊎ IsStillAt t (with_changes t changes) changes w
changes_at t P [] w slots h within = inr ((λ i d lt. absurd (omega (arith, lt))), refl, refl)
changes_at t P (c ∷ cs) w slots h within =
    let u : Lists = with_changes t cs in
    let there = changes_slots t cs slots in
    let count : length u.slots ≡ length t.slots = ap (λ (xs : List Slot). length xs) (changes_keep t cs) in
    let lt = within c h.0 in
    elim (cases_eq w c.at) [
      | inl e ↦ inl (put-here t u P c w h.0 e (omega (arith, lt, count, there.matrix)) (omega (arith, lt, count, there.standings)) (same-side t u P cs c.at (changes_at t P cs c.at slots h.1 within)))
      | inr ne ↦ put-other t u P c cs w ne (changes_at t P cs w slots h.1 within)
    ]

-- ---- slot by slot

pub record AreExchanged (t u : Lists) (made : Exchange) (s : Swap) : Type 0 where
  pub enter_row : row_at u made.pair.enter ≡ made.entering.row
  pub enter_standing : standing_at u made.pair.enter ≡ record { side = Some made.pair.side; value = made.entering.value }
  pub leave_row : row_at u made.pair.leave ≡ []
  pub leave_standing : standing_at u made.pair.leave ≡ record { side = None; value = zero_fraction }
  pub others : (w : ℕ) → w ≢ made.pair.enter → w ≢ made.pair.leave → IsPutAt t u (IsChangeOf t made.pair s) w ⊎ IsStillAt t u made.changes.items w

exchanged-other : (t : Lists) (made : Exchange) (s : Swap) (w : ℕ) → AreSlots t → IsExchangeOf t made s → w ≢ made.pair.enter → w ≢ made.pair.leave
    → IsPutAt t (exchanged_lists t made) (IsChangeOf t made.pair s) w ⊎ IsStillAt t (exchanged_lists t made) made.changes.items w
exchanged-other t made s w slots h ne nl =
    let c0 : Lists = cleared t made.pair.leave in
    let c1 : Lists = with_changes c0 made.changes.items in
    let other : w ≢ made.entering.at = λ e. ne (e ∙ h.enters.at) in
    let row : row_at (exchanged_lists t made) w ≡ row_at c1 w = get_or-set_other c1.matrix made.entering.at w made.entering.row [] other in
    let st : standing_at (exchanged_lists t made) w ≡ standing_at c1 w =
    get_or-set_other c1.standings made.entering.at w (record { side = Some made.pair.side; value = made.entering.value }) (record { side = None; value = zero_fraction }) other in
    let row0 : row_at c0 w ≡ row_at t w = get_or-set_other t.matrix made.pair.leave w [] [] nl in
    let st0 : standing_at c0 w ≡ standing_at t w = get_or-set_other t.standings made.pair.leave w (record { side = None; value = zero_fraction }) (record { side = None; value = zero_fraction }) nl in
    elim (changes_at c0 (IsChangeOf t made.pair s) made.changes.items w (cleared_slots t made.pair.leave slots) (recursion_from_All (IsChangeOf t made.pair s) made.changes.items h.changes) (λ c p. p.within)) [
      | inl (d, p, at, r, side, value) ↦ inl (d, p, at, row ∙ r, ap (λ (x : Standing). x.side) st ∙ side ∙ ap (λ (x : Standing). x.side) st0, ap (λ (x : Standing). x.value) st ∙ value)
      | inr (none, r, s) ↦ inr (none, row ∙ r ∙ row0, st ∙ s ∙ st0)
    ]

exchanged-leave : (t : Lists) (made : Exchange) (s : Swap) → AreSlots t → IsExchangeOf t made s → (row_at (exchanged_lists t made) made.pair.leave ≡ []) × (standing_at (exchanged_lists t made) made.pair.leave ≡ record { side = None; value = zero_fraction })
exchanged-leave t made s slots h =
    let c0 : Lists = cleared t made.pair.leave in
    let c1 : Lists = with_changes c0 made.changes.items in
    let lt = leave_within t made.pair s slots h.pair in
    let other : made.pair.leave ≢ made.entering.at = λ e. slots_apart t made.pair s h.pair (e ∙ h.enters.at) in
    let row : row_at (exchanged_lists t made) made.pair.leave ≡ row_at c1 made.pair.leave = get_or-set_other c1.matrix made.entering.at made.pair.leave made.entering.row [] other in
    let st : standing_at (exchanged_lists t made) made.pair.leave ≡ standing_at c1 made.pair.leave =
    get_or-set_other c1.standings made.entering.at made.pair.leave (record { side = Some made.pair.side; value = made.entering.value }) (record { side = None; value = zero_fraction }) other in
    let row0 : row_at c0 made.pair.leave ≡ [] = get_or-set_at t.matrix made.pair.leave made.pair.leave [] [] refl (omega (arith, lt, slots.matrix)) in
    let st0 : standing_at c0 made.pair.leave ≡ record { side = None; value = zero_fraction } =
    get_or-set_at t.standings made.pair.leave made.pair.leave (record { side = None; value = zero_fraction }) (record { side = None; value = zero_fraction }) refl (omega (arith, lt, slots.standings)) in
    elim (changes_at c0 (IsChangeOf t made.pair s) made.changes.items made.pair.leave (cleared_slots t made.pair.leave slots) (recursion_from_All (IsChangeOf t made.pair s) made.changes.items h.changes) (λ c p. p.within)) [
      | inl (d, p, at, r, side, value) ↦ absurd (p.not_leave at)
      | inr (none, r, s) ↦ (row ∙ r ∙ row0, st ∙ s ∙ st0)
    ]

pub exchanged_at : (t : Lists) (made : Exchange) (s : Swap) → AreSlots t → IsExchangeOf t made s → AreExchanged t (exchanged_lists t made) made s
exchanged_at t made s slots h =
    let c0 : Lists = cleared t made.pair.leave in
    let c1 : Lists = with_changes c0 made.changes.items in
    let there = changes_slots c0 made.changes.items (cleared_slots t made.pair.leave slots) in
    let count : length c1.slots ≡ length t.slots = ap (λ (xs : List Slot). length xs) (changes_keep c0 made.changes.items) in
    let at : made.entering.at ≡ made.pair.enter = h.enters.at in
    let lt = enter_within t made.pair s slots h.pair in
    let gone = exchanged-leave t made s slots h in
    record {
      enter_row = get_or-set_at c1.matrix made.entering.at made.pair.enter made.entering.row [] (sym at) (omega (arith, lt, at, count, there.matrix));
      enter_standing = get_or-set_at c1.standings made.entering.at made.pair.enter (record { side = Some made.pair.side; value = made.entering.value }) (record { side = None; value = zero_fraction }) (sym at) (omega (arith, lt, at, count, there.standings));
      leave_row = gone.0;
      leave_standing = gone.1;
      others = λ w ne nl. exchanged-other t made s w slots h ne nl;
    }

-- ---- the other lists are the same

changes-over : (t : Lists) (cs : List Change) → with_changes t cs ≡ over t (with_changes t cs).standings (with_changes t cs).matrix
changes-over t [] = refl
changes-over t (c ∷ cs) = ap (λ (u : Lists). with_change u c) (changes-over t cs)

pub exchanged_over : (t : Lists) (made : Exchange) → exchanged_lists t made ≡ over t (exchanged_lists t made).standings (exchanged_lists t made).matrix
exchanged_over t made = ap (λ (u : Lists). filled u made.pair.side made.entering) (changes-over (cleared t made.pair.leave) made.changes.items)

-- ---- equations

still-equation : (t : Lists) (pair : Pair) (s : Swap) (quantity : (ℕ → ℤ) → ℤ) (w : ℕ) (num : ℤ) (den : ℕ) → IsPair t pair s → w ≢ pair.enter → entry t w pair.enter ≡ pos 0
    → IsEquationAt t quantity w num den → IsEquationBy t (marks_after t s) quantity w (row_at t w) num den
still-equation t pair s quantity w num den are ne absent e =
    let none : number t w s.enter.row ≡ pos 0 = number_is t w s.enter.row (λ z. ne (sym z ∙ are.enter_slot)) ∙ ap (λ c. neg_ℤ (entry t w c)) are.enter_slot ∙ ap neg_ℤ absent in
    (e.0, e.1, line_stays (problem_of t) (marks_at t) s quantity e.0 (number t w) num den e.2 none)

owner-here : (t : Lists) (at : List Mark) (c : Change) (w : ℕ) (o : Owner) → c.at ≡ w → (slot_at t w).owner ≡ o → IsOwnerRow t at c.at (slot_at t c.at).owner (standing_at t c.at).side c.row c.value → IsOwnerRow t at w o (standing_at t w).side c.row c.value
owner-here t at c w o here owner h =
    subst (λ (x : Owner). IsOwnerRow t at w x (standing_at t w).side c.row c.value) owner
    (subst (λ n. IsOwnerRow t at n (slot_at t n).owner (standing_at t n).side c.row c.value) here h)

owner-line : (t : Lists) (at : List Mark) (w : ℕ) (name : RowName) (side : Option Side) (row : List Term) (f : Fraction) → IsOwnerRow t at w (LineSlot name) side row f → IsLineBy t at name w row side f
owner-line t at w name None row f h = absurd h
owner-line t at w name (Some side) row f h = h

still-line : (t : Lists) (pair : Pair) (s : Swap) (name : RowName) (side : Option Side) → IsPair t pair s → line_slot t name ≢ pair.enter → entry t (line_slot t name) pair.enter ≡ pos 0
    → IsLineRow t name side → IsLineBy t (marks_after t s) name (line_slot t name) (row_at t (line_slot t name)) side (standing_at t (line_slot t name)).value
still-line t pair s name None are ne absent h = h
still-line t pair s name (Some side) are ne absent h =
    still-equation t pair s (deviation name) (line_slot t name) (sign_of side *ℤ (standing_at t (line_slot t name)).value.num) (standing_at t (line_slot t name)).value.den are ne absent h

-- what is known of lists after an exchange
pub record IsNext (t : Lists) (v : List Standing) (m : List (List Term)) (made : Exchange) (s : Swap) : Type 0 where
  pub kept : IsKept t
  pub is : IsExchangeOf t made s
  pub at : AreExchanged t (over t v m) made s

pub attr_next : (t : Lists) (v : List Standing) (m : List (List Term)) (made : Exchange) (s : Swap) (attr : ℕ) → IsNext t v m made s → HasStay t.stays attr
    → IsEquationBy (over t v m) (marks_after t s) (λ x. x (attr_column attr)) (attr_slot t attr) (row_at (over t v m) (attr_slot t attr)) (standing_at (over t v m) (attr_slot t attr)).value.num (standing_at (over t v m) (attr_slot t attr)).value.den
attr_next t v m made s attr n has =
    let u : Lists = over t v m in
    let w : ℕ = attr_slot t attr in
    let q : (ℕ → ℤ) → ℤ = λ x. x (attr_column attr) in
    let are = n.is.pair in
    let slot : IsSlot t w = any_is (λ (x : Stay). IsAttrSlot t x.attr) (λ (x : Stay). x.attr ≡ attr) t.stays n.kept.slots.attrs has (λ x k e. subst (λ a. IsSlot t (attr_slot t a)) e k.slot) in
    let ne : w ≢ made.pair.enter = λ e. attr_apart t attr s.enter.row n.kept.slots has are.enters (are.enter_slot ∙ sym e) in
    let nl : w ≢ made.pair.leave = λ e. attr_apart t attr s.leave.row n.kept.slots has are.leaves (are.leave_slot ∙ sym e) in
    elim (n.at.others w ne nl) [
      | inl (c, p, here, row, side, value) ↦
          let e : IsEquationBy t (marks_after t s) q w c.row c.value.num c.value.den =
          owner-here t (marks_after t s) c w (AttrSlot attr) here (attr_owner t attr n.kept.slots has) (p.row_is.1 (subst (λ k. LEVELS ≤ k) (sym here) slot.0)).0 in
          subst (λ (f : Fraction). IsEquationBy t (marks_after t s) q w (row_at u w) f.num f.den) (sym value)
          (subst (λ (r : List Term). IsEquationBy t (marks_after t s) q w r c.value.num c.value.den) (sym row) e)
      | inr (none, row, st) ↦
          let e = still-equation t made.pair s q w (standing_at t w).value.num (standing_at t w).value.den are ne (n.is.rest w slot.1 ne nl none).absent (attr_equation t attr n.kept has) in
          subst (λ (x : Standing). IsEquationBy t (marks_after t s) q w (row_at u w) x.value.num x.value.den) (sym st)
          (subst (λ (r : List Term). IsEquationBy t (marks_after t s) q w r (standing_at t w).value.num (standing_at t w).value.den) (sym row) e)
    ]

-- a slot of nothing still has no row
pub stored_next : (t : Lists) (v : List Standing) (m : List (List Term)) (made : Exchange) (s : Swap) → IsNext t v m made s → AreStored (over t v m)
stored_next t v m made s n = record {
  few = n.kept.stored.few;
  empty = λ w high free. elim (cases_eq w made.pair.enter) [
    | inl e ↦ absurd (free_line s.enter.row (sym (line_owner t s.enter.row n.kept.slots n.is.pair.enters) ∙ ap (λ c. (slot_at t c).owner) (n.is.pair.enter_slot ∙ sym e) ∙ free))
    | inr ne ↦ elim (cases_eq w made.pair.leave) [
      | inl e ↦ ap (row_at (over t v m)) e ∙ n.at.leave_row
      | inr nl ↦ elim (n.at.others w ne nl) [
        | inl (c, p, here, row, side, value) ↦ absurd (owner-here t (marks_after t s) c w LevelSlot here free (p.row_is.1 (subst (λ k. LEVELS ≤ k) (sym here) high)).0)
        | inr (none, row, st) ↦ row ∙ n.kept.stored.empty w high free
      ]
    ]
  ];
}

pub line_is : (t : Lists) (at : List Mark) (name : RowName) (w : ℕ) (row next : List Term) (side : Option Side) (value : Fraction) (st : Standing) → next ≡ row → st ≡ record { side = side; value = value } → IsLineBy t at name w row side value → IsLineBy t at name w next st.side st.value
line_is t at name w row next side value st e f h =
    subst (λ (r : List Term). IsLineBy t at name w r st.side st.value) (sym e) (subst (λ (x : Standing). IsLineBy t at name w row x.side x.value) (sym f) h)

enter-line : (t : Lists) (v : List Standing) (m : List (List Term)) (made : Exchange) (s : Swap) → IsNext t v m made s
    → IsLineBy t (marks_after t s) s.enter.row made.pair.enter (row_at (over t v m) made.pair.enter) (standing_at (over t v m) made.pair.enter).side (standing_at (over t v m) made.pair.enter).value
enter-line t v m made s n =
    line_is t (marks_after t s) s.enter.row made.pair.enter made.entering.row (row_at (over t v m) made.pair.enter) (Some made.pair.side) made.entering.value (standing_at (over t v m) made.pair.enter) n.at.enter_row n.at.enter_standing
    (subst (λ (d : Side). IsEquationBy t (marks_after t s) (deviation s.enter.row) made.pair.enter made.entering.row (sign_of d *ℤ made.entering.value.num) made.entering.value.den) n.is.pair.enter_side n.is.enters.line)

pub line_next : (t : Lists) (v : List Standing) (m : List (List Term)) (made : Exchange) (s : Swap) (name : RowName) → IsNext t v m made s → IsNamed (problem_of t) name
    → IsLineBy t (marks_after t s) name (line_slot t name) (row_at (over t v m) (line_slot t name)) (standing_at (over t v m) (line_slot t name)).side (standing_at (over t v m) (line_slot t name)).value
line_next t v m made s name n named =
    let u : Lists = over t v m in
    let w : ℕ = line_slot t name in
    let at : List Mark = marks_after t s in
    let are = n.is.pair in
    elim (cases_eq w made.pair.enter) [
      | inl e ↦
          let same : s.enter.row ≡ name = lines_apart t s.enter.row name n.kept.slots are.enters named (e ∙ sym are.enter_slot) in
          subst (λ k. IsLineBy t at name k (row_at u k) (standing_at u k).side (standing_at u k).value) (sym e)
          (subst (λ (r : RowName). IsLineBy t at r made.pair.enter (row_at u made.pair.enter) (standing_at u made.pair.enter).side (standing_at u made.pair.enter).value) same (enter-line t v m made s n))
      | inr ne ↦ elim (cases_eq w made.pair.leave) [
        | inl e ↦ subst (λ k. IsLineBy t at name k (row_at u k) (standing_at u k).side (standing_at u k).value) (sym e)
            (line_is t at name made.pair.leave [] (row_at u made.pair.leave) None zero_fraction (standing_at u made.pair.leave) n.at.leave_row n.at.leave_standing (refl, refl))
        | inr nl ↦
            let slot = named_slot t name n.kept.slots named in
            elim (n.at.others w ne nl) [
              | inl (c, p, here, row, side, value) ↦
                  let h : IsLineBy t at name w c.row (standing_at t w).side c.value = owner-line t at w name (standing_at t w).side c.row c.value
                  (owner-here t at c w (LineSlot name) here (line_owner t name n.kept.slots named) (p.row_is.1 (subst (λ k. LEVELS ≤ k) (sym here) slot.0)).0) in
                  line_is t at name w c.row (row_at u w) (standing_at t w).side c.value (standing_at u w) row (ap₂ (λ (d : Option Side) (f : Fraction). (record { side = d; value = f })) side value) h
              | inr (none, row, st) ↦
                  let line : IsLineRow t name (standing_at t w).side = any_is (λ (l : Line). IsLineRow t l.name (standing_at t (line_slot t l.name)).side) (λ (l : Line). l.name ≡ name) (lines (problem_of t)) n.kept.lines named
                  (λ l h e. subst (λ (r : RowName). IsLineRow t r (standing_at t (line_slot t r)).side) e h) in
                  line_is t at name w (row_at t w) (row_at u w) (standing_at t w).side (standing_at t w).value (standing_at u w) row st
                  (still-line t made.pair s name (standing_at t w).side are ne (n.is.rest w slot.1 ne nl none).absent line)
            ]
      ]
    ]
