-- Which stays may be astray after an exchange.
use Rattle.std.proofs.Common.{◌≡◌, ◌≢◌, ◌∙◌, ℕ, ◌<◌, List, slice_index_or, sym, ap, subst, arith, inl, inr, ℤ, pos, neg_ℤ, ◌*ℤ◌, Contains, None, Some}
use Rattle.std.specs.declared.option.Option.{Option}
use Rattle.std.proofs.lemmas.Bool.{cases_eq}
use lib.IntN.{*ℤ_comm}
use borrow.Author.Differences.{ints}
use Rattle.frac_core.proofs.Integers.{mul-zero_ℤ, zero-mul_ℤ, zero_from_mul}
use Rattle.frac_core.proofs.Numbers.{zero-or-not}
use Rattle.frac_core.specs.Fraction.{Fraction}
use Rattle.row_core.specs.Rows.{Term}
use Rattle.problem_core.specs.declared.parts.RowName.{RowName}
use Rattle.problem_core.specs.declared.parts.RowName.TheVariants.{Stay as StayOf}
use Rattle.problem_core.specs.declared.parts.Side.{Side}
use Rattle.problem_core.specs.declared.parts.Side.TheVariants.{Under, Over}
use Rattle.problem_core.specs.Kept.{IsWhole}
use Rattle.problem_core.specs.Layout.{Line, Problem, lines}
use Rattle.problem_core.specs.Corners.{IsCorner, Swap}
use Rattle.problem_core.specs.declared.parts.Mark.{Mark}
use Rattle.corner_laws.proofs.WrittenValues.{values_same}
use Rattle.corner_lines.specs.LineEquations.{IsLineEquation, deviation, mark_form, sign_of}
use Rattle.corner_lines.proofs.Lines.LineExchanges.{line_stays}
use Rattle.corner_lines.proofs.Lines.LineWritings.{line_writing}
use Rattle.corner_view.specs.Seen.{IsNamed}
use Rattle.corner_table.specs.declared.table.Standing.{Standing}
use Rattle.corner_table.specs.Kept.{IsKept, IsLineRow, IsStayOwner}
use Rattle.corner_table.specs.Tables.{Lists, entry, line_slot, marks_at, number, problem_of, slot_at, standing_at}
use Rattle.corner_table.proofs.Basics.OwnerFacts.{stay_named}
use Rattle.corner_table.proofs.Basics.SmallFacts.{own_stay}
use Rattle.corner_table.proofs.Readings.SlotFacts.{any_is}
use Rattle.corner_table.proofs.Readings.WritingFacts.{number_is}
use Rattle.corner_writings.specs.declared.levels.Pair.{Pair}
use Rattle.corner_exchange.specs.declared.exchange.Exchange.{Exchange}
use Rattle.corner_exchange.specs.Swaps.Exchanges.{IsChangeOf, IsExchangeOf, IsPair, exchanged_lists, marks_after}
use Rattle.corner_exchange.specs.Swaps.NextLists.{IsLineBy, over}
use Rattle.corner_exchange.proofs.Pivots.PairFacts.{pair_exchange}
use Rattle.corner_exchange.proofs.Swaps.ExchangedFacts.{AreExchanged, IsNext, exchanged_at, exchanged_over, line_next, same-side}
use Rattle.corner_shifts.specs.declared.astray.Astray.{Astray}
use Rattle.corner_shifts.specs.Astray.{AreAstray, AreExchangedListed, GoOnlyListed}
use Rattle.corner_shifts.specs.Stood.{stay_slot}
use Rattle.corner_shifts.proofs.AstrayStays.{stay-there}

-- ---- a value of 0

no-sign : (side : Side) (z : ℤ) → sign_of side *ℤ z ≡ pos 0 → z ≡ pos 0
no-sign Under z e = omega (arith, ints, e)
no-sign Over z e = omega (arith, ints, e)

-- a quantity that is 0 by one equation is 0 by each other
zero-by : (p : Problem) (at : List Mark) (quantity : (ℕ → ℤ) → ℤ) (own new : ℕ) (by next : RowName → ℤ) (m n : ℤ) (d e : ℕ) → IsWhole p → IsCorner p at
    → IsLineEquation p at quantity own by m d → IsLineEquation p at quantity new next n e → m ≡ pos 0 → n ≡ pos 0
zero-by p at quantity own new by next m n d e whole corner old now zero =
    zero_from_mul d n old.den_positive
    (*ℤ_comm (pos d) n
    ∙ sym (values_same p at quantity own new (mark_form by (lines p)) (mark_form next (lines p)) m n d e corner (line_writing p at quantity own by m d whole old) (line_writing p at quantity new next n e whole now))
    ∙ ap (λ (z : ℤ). z *ℤ pos e) zero ∙ zero-mul_ℤ (pos e))

-- where the entering line doesn't stand in the line's row, and its value was 0, it still is
still-zero : (t : Lists) (pair : Pair) (s : Swap) (name : RowName) (row : List Term) (o : Option Side) (f : Fraction) → IsKept t → IsPair t pair s → line_slot t name ≢ pair.enter
    → entry t (line_slot t name) pair.enter ≡ pos 0 → (standing_at t (line_slot t name)).value.num ≡ pos 0 → IsLineRow t name o → IsLineBy t (marks_after t s) name (line_slot t name) row o f → f.num ≡ pos 0
still-zero t pair s name row None f kept are ne absent zero old new = ap (λ (g : Fraction). g.num) new.1
still-zero t pair s name row (Some side) f kept are ne absent zero old new =
    let w : ℕ = line_slot t name in
    let n : ℤ = (standing_at t w).value.num in
    let none : number t w s.enter.row ≡ pos 0 = number_is t w s.enter.row (λ z. ne (sym z ∙ are.enter_slot)) ∙ ap (λ (c : ℕ). neg_ℤ (entry t w c)) are.enter_slot ∙ ap (λ (z : ℤ). neg_ℤ z) absent in
    let stays = line_stays (problem_of t) (marks_at t) s (deviation name) old.0 (number t w) (sign_of side *ℤ n) (standing_at t w).value.den old.2 none in
    no-sign side f.num
    (zero-by (problem_of t) (marks_after t s) (deviation name) old.0 new.0 (number t w) _ (sign_of side *ℤ n) (sign_of side *ℤ f.num) (standing_at t w).value.den f.den kept.whole (pair_exchange t pair s kept are).corner stays new.2
    (ap (λ (z : ℤ). sign_of side *ℤ z) zero ∙ mul-zero_ℤ (sign_of side)))

-- ---- the stays

line-row : (t : Lists) (name : RowName) → IsKept t → IsNamed (problem_of t) name → IsLineRow t name (standing_at t (line_slot t name)).side
line-row t name kept named =
    any_is (λ (l : Line). IsLineRow t l.name (standing_at t (line_slot t l.name)).side) (λ (l : Line). l.name ≡ name) (lines (problem_of t)) kept.lines named
    (λ l h e. subst (λ (r : RowName). IsLineRow t r (standing_at t (line_slot t r)).side) e h)

-- a stay's line that is none of the two, and in whose row the entering line doesn't stand
other-stay : (t : Lists) (v : List Standing) (m : List (List Term)) (made : Exchange) (s : Swap) (name : RowName) → IsNext t v m made s → IsNamed (problem_of t) name → line_slot t name ≢ made.pair.enter → line_slot t name ≢ made.pair.leave
    → entry t (line_slot t name) made.pair.enter ≡ pos 0 → (standing_at t (line_slot t name)).value.num ≡ pos 0 → (standing_at (over t v m) (line_slot t name)).value.num ≡ pos 0
other-stay t v m made s name n named ne nl absent zero =
    let u : Lists = over t v m in
    let w : ℕ = line_slot t name in
    let side : (standing_at u w).side ≡ (standing_at t w).side = same-side t u (IsChangeOf t made.pair s) made.changes.items w (n.at.others w ne nl) in
    still-zero t made.pair s name _ (standing_at u w).side (standing_at u w).value n.kept n.is.pair ne absent zero
    (subst (IsLineRow t name) (sym side) (line-row t name n.kept named)) (line_next t v m made s name n named)

exchanged-stays : (t : Lists) (v : List Standing) (m : List (List Term)) (made : Exchange) (s : Swap) (old new : Astray) → IsNext t v m made s → AreExchangedListed t made.pair.enter old new → AreAstray t old.lines → AreAstray (over t v m) new.lines
exchanged-stays t v m made s old new n listed astray i x lt =
    let attr : ℕ = (slice_index_or t.stays i x).attr in
    let w : ℕ = stay_slot t attr in
    let there = stay-there t i x n.kept.slots lt in
    elim (cases_eq w made.pair.enter) [
      | inl e ↦ inr (subst (Contains new.lines) (sym e) (listed.own (subst (λ (k : ℕ). IsStayOwner (slot_at t k).owner) e there.0)))
      | inr ne ↦ elim (cases_eq w made.pair.leave) [
        | inl e ↦ inl (ap (λ (k : ℕ). (standing_at (over t v m) k).value.num) e ∙ ap (λ (y : Standing). y.value.num) n.at.leave_standing)
        | inr nl ↦ elim (zero-or-not (entry t w made.pair.enter)) [
          | inr some ↦ inr (listed.moved.has w some there.0)
          | inl none ↦ elim (astray i x lt) [
            | inl zero ↦ inl (other-stay t v m made s (StayOf attr) n (stay_named (problem_of t) attr (own_stay t.stays i x lt)) ne nl none zero)
            | inr has ↦ inr (listed.moved.keeps w has)
          ]
        ]
      ]
    ]

pub exchanged_stays : (t u : Lists) (made : Exchange) (s : Swap) (enter : ℕ) → IsKept t → IsExchangeOf t made s → made.pair.enter ≡ enter → u ≡ exchanged_lists t made → GoOnlyListed t enter u
exchanged_stays t u made s enter kept is at same old new lists astray known =
    let v : Lists = exchanged_lists t made in
    let whole : v ≡ over t v.standings v.matrix = exchanged_over t made in
    let listed : AreExchangedListed t enter old new = lists known in
    subst (λ (y : Lists). AreAstray y new.lines) (sym (same ∙ whole))
    (exchanged-stays t v.standings v.matrix made s old new
    (record { kept = kept; is = is; at = subst (λ (y : Lists). AreExchanged t y made s) whole (exchanged_at t made s kept.slots is) })
    (subst (λ (k : ℕ). AreExchangedListed t k old new) (sym at) listed) (astray listed.moved.known))
