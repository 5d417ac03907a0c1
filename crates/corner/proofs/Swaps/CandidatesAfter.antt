-- After an exchange each outside mark with a negative column is of a listed line: `candidates_after` for the
-- lists with the exchange, `exchanged_candidates` for any with the same marks; and after a turn:
-- `candidates_turned`, `turned_candidates`.
use Rattle.std.proofs.Common.{◌≡◌, ◌≢◌, ◌∙◌, ℕ, ◌<◌, ◌⊎◌, inl, inr, nat_eq, List, sym, ap, subst, arith, ℤ, pos, neg_ℤ, ◌*ℤ◌, All, Contains, Some}
use Rattle.std.proofs.lemmas.Bool.{cases_Bool}
use Rattle.std.proofs.lemmas.List.Elements.{All-from_recursion, recursion_from_All}
use borrow.Author.Differences.{ints}
use Rattle.row_core.specs.Rows.{coefficient}
use Rattle.problem_core.specs.declared.parts.Mark.{Mark}
use Rattle.problem_core.specs.declared.parts.RowName.{RowName}
use Rattle.problem_core.specs.declared.parts.Side.{Side}
use Rattle.problem_core.specs.declared.parts.Side.TheVariants.{Under, Over}
use Rattle.problem_core.specs.Layout.{Line, Problem, lines}
use Rattle.problem_core.specs.Corners.{IsIn, SameMarks, Swap, place, place_of}
use Rattle.problem_core.proofs.Corners.CornerFacts.{is_place}
use Rattle.problem_core.proofs.Forms.{each-both, each-impl}
use Rattle.problem_core.proofs.Wholes.{whole-IsProblem}
use Rattle.corner_laws.proofs.Counting.{IsIn-from_is_place}
use Rattle.corner_laws.proofs.LevelCosts.Unique.{AreIdle, idle_none}
use Rattle.corner_lines.proofs.LevelRows.OtherNumbers.{other-number}
use Rattle.corner_laws.proofs.ZeroColumns.{not-in}
use Rattle.corner_lines.specs.LineEquations.{IsOutsideLine, deviation, sign_of}
use Rattle.corner_lines.specs.Levels.LevelRows.{IsPivot, line_numbers}
use Rattle.corner_lines.proofs.LevelRows.LevelExchanges.{by-sides, at-side}
use Rattle.corner_lines.proofs.Lines.LinePivots.{equation_is_pivot}
use Rattle.corner_exchange.specs.declared.exchange.Exchange.{Exchange}
use Rattle.corner_table.specs.declared.table.Slot.{Slot}
use Rattle.corner_table.specs.Tables.{Lists, entry, line_slot, marks_at, number, problem_of, slot_at, standing_at}
use Rattle.corner_table.specs.Kept.{AreSlots, IsEquationAt, IsKept}
use Rattle.corner_view.specs.Seen.{AreCandidates, IsNamed}
use Rattle.corner_table.specs.Invariants.{name_of, names_of}
use Rattle.corner_exchange.specs.Swaps.Exchanges.{AreListedAfter, IsExchangeOf, marks_after}
use Rattle.corner_writings.specs.Rows.{row_number}
use Rattle.corner_exchange.proofs.Swaps.ColumnReturns.{IsReturn, candidates_return}
use Rattle.corner_writings.proofs.LevelFacts.LevelRowFacts.{out_line}
use Rattle.corner_table.proofs.Basics.ListFacts.{from_map, to_map}
use Rattle.corner_exchange.proofs.Pivots.PairFacts.{leave_in, named_mark, pair_exchange, side-stands}
use Rattle.corner_table.proofs.Readings.MarkFacts.{stands_inside}
use Rattle.corner_table.proofs.Readings.ReadFacts.{inside_equation}
use Rattle.corner_table.proofs.Readings.SlotFacts.{any_is}
use Rattle.corner_table.proofs.Readings.WritingFacts.{lines_apart, line_owner}
use Rattle.corner_exchange.proofs.Pivots.LineChanges.{cond-zero as row-none}
use Rattle.problem_core.proofs.Marks.{entered-in as enter_in, kept-in as kept_in}
use Rattle.problem_core.proofs.Lines.{name-cases}

-- ---- names of listed slots

pub listed_name : (t : Lists) (listed : List ℕ) (name : RowName) → AreSlots t → IsNamed (problem_of t) name → Contains listed (line_slot t name) → Contains (names_of t listed) name
listed_name t listed name slots named has =
    subst (λ (n : RowName). Contains (names_of t listed) n) (ap name_of (line_owner t name slots named)) (to_map (λ w. name_of (slot_at t w).owner) listed (line_slot t name) has)

names_keep : (t : Lists) (old new : List ℕ) (name : RowName) → ((w : ℕ) → Contains old w → Contains new w) → Contains (names_of t old) name → Contains (names_of t new) name
names_keep t old new name keeps has =
    let i = from_map (λ w. name_of (slot_at t w).owner) old name has in
    subst (λ (n : RowName). Contains (names_of t new) n) i.is (to_map (λ w. name_of (slot_at t w).owner) new i.of (keeps i.of i.has))

abbrev with_slots : Lists → List Slot → Lists
with_slots t slots = record {
  rows = t.rows;
  stays = t.stays;
  slots = slots;
  standings = t.standings;
  matrix = t.matrix;
  attr_slots = t.attr_slots;
  row_slots = t.row_slots;
  priorities = t.priorities;
}

-- the candidates are seen by the problem and the slots
seen_alike : (t u : Lists) (marks : List Mark) (listed : List ℕ) → problem_of u ≡ problem_of t → u.slots ≡ t.slots → AreCandidates (problem_of t) marks (names_of t listed) → AreCandidates (problem_of u) marks (names_of u listed)
seen_alike t u marks listed problem slots h =
    subst (λ (p : Problem). AreCandidates p marks (names_of u listed)) (sym problem)
    (subst (λ (ss : List Slot). AreCandidates (problem_of t) marks (names_of (with_slots t ss) listed)) (sym slots) h)

-- ---- the entering line's row

idle-line : (at : List Mark) (leave : RowName) (by : RowName → ℤ) (l : Line) → by leave ≡ pos 0 → ((side : Side) → IsIn (place_of l.name side) at → l.name ≢ leave → by l.name ≡ pos 0)
    → (by l.name ≡ pos 0) ⊎ ((IsIn (place_of l.name Under) at → ⊥) × (IsIn (place_of l.name Over) at → ⊥))
idle-line at leave by l none zeros = elim (name-cases l.name leave) [
  | inl e ↦ inl (ap by e ∙ none)
  | inr ne ↦ elim (cases_Bool (is_place at (place_of l.name Under))) [
    | inl i ↦ inl (zeros Under (IsIn-from_is_place (place_of l.name Under) at i) ne)
    | inr a ↦ elim (cases_Bool (is_place at (place_of l.name Over))) [
      | inl i ↦ inl (zeros Over (IsIn-from_is_place (place_of l.name Over) at i) ne)
      | inr b ↦ inr (not-in at (place_of l.name Under) a, not-in at (place_of l.name Over) b)
    ]
  ]
]

side-zeros : (leave : RowName) (at : List Mark) (by : RowName → ℤ) (l : Line) → (IsIn (place_of l.name Under) at → l.name ≢ leave → by l.name ≡ pos 0) → (IsIn (place_of l.name Over) at → l.name ≢ leave → by l.name ≡ pos 0)
    → (side : Side) → IsIn (place_of l.name side) at → l.name ≢ leave → by l.name ≡ pos 0
side-zeros leave at by l u o Under i ne = u i ne
side-zeros leave at by l u o Over i ne = o i ne

no-own : (own : ℕ) (z : ℤ) → 0 < own → z ≡ neg_ℤ (pos own) → z ≡ pos 0 → ⊥
no-own own z above e none = absurd (omega (arith, ints, above, e, none))

abbrev row_numbers : Lists → Exchange → Swap → ℕ → RowName → ℤ
row_numbers t made s own = line_numbers s.enter.row own (row_number t made.pair.enter made.entering.row)

entering_return : (t : Lists) (made : Exchange) (s : Swap) → IsKept t → (ex : IsExchangeOf t made s) → IsReturn (problem_of t) (marks_at t) s.leave.row (row_numbers t made s ex.enters.line.0)
entering_return t made s kept ex =
    let p : Problem = problem_of t in
    let at : List Mark = marks_at t in
    let own : ℕ = ex.enters.line.0 in
    let by : RowName → ℤ = row_numbers t made s own in
    let leaves : IsIn (place s.leave) at = leave_in t made.pair s ex.pair in
    let pivot : IsPivot p (marks_after t s) s.enter.row s.enter.row own by =
    equation_is_pivot p (marks_after t s) s.enter own (row_number t made.pair.enter made.entering.row) (sign_of s.enter.side *ℤ made.entering.value.num) made.entering.value.den kept.whole (pair_exchange t made.pair s kept ex.pair).corner (enter_in s at leaves) ex.enters.line.2 in
    let out : IsOutsideLine at s.enter.row = out_line t s.enter.row (ap (λ w. (standing_at t w).side) ex.pair.enter_slot ∙ ex.pair.outside) in
    let zeros : (side : Side) → All (λ l. IsIn (place_of l.name side) at → l.name ≢ s.leave.row → by l.name ≡ pos 0) (lines p) = λ side.
    All-from_recursion (λ l. IsIn (place_of l.name side) at → l.name ≢ s.leave.row → by l.name ≡ pos 0) (lines p)
    (each-impl (λ l. IsIn (place_of l.name side) (marks_after t s) → l.name ≢ s.enter.row → by l.name ≡ pos 0) _ (lines p)
    (λ l h i ne. h (kept_in s at (place_of l.name side) i (λ z. ne (by-sides l.name s.leave.row side s.leave.side z).0)) (λ e. at-side side at l.name (subst (λ (r : RowName). IsOutsideLine at r) (sym e) out) i))
    (recursion_from_All _ (lines p) (pivot.inside_zero side))) in
    record {
      cancel = pivot.cancel;
      inside_zero = zeros;
      some = λ none.
          let idle : AreIdle p at by = record {
            cancel = pivot.cancel;
            inside = All-from_recursion (λ l. (by l.name ≡ pos 0) ⊎ ((IsIn (place_of l.name Under) at → ⊥) × (IsIn (place_of l.name Over) at → ⊥))) (lines p)
                (each-impl (λ l. (IsIn (place_of l.name Under) at → l.name ≢ s.leave.row → by l.name ≡ pos 0) × (IsIn (place_of l.name Over) at → l.name ≢ s.leave.row → by l.name ≡ pos 0)) _ (lines p)
                (λ l h. idle-line at s.leave.row by l none (side-zeros s.leave.row at by l h.0 h.1))
                (each-both _ _ (lines p) (recursion_from_All _ (lines p) (zeros Under)) (recursion_from_All _ (lines p) (zeros Over))));
          } in
          let gone : by s.enter.row ≡ pos 0 = any_is (λ l. by l.name ≡ pos 0) (λ l. l.name ≡ s.enter.row) (lines p) (idle_none p at by (whole-IsProblem p kept.whole) kept.rays idle) ex.pair.enters (λ l h e. ap by (sym e) ∙ h) in
          no-own own (by s.enter.row) pivot.size_positive pivot.enter_is gone;
    }

-- ---- after an exchange

pub exchanged_candidates : (t u : Lists) (made : Exchange) (s : Swap) (old new : List ℕ) → IsKept t → IsExchangeOf t made s → problem_of u ≡ problem_of t → u.slots ≡ t.slots → SameMarks (marks_at u) (marks_after t s) → AreListedAfter t made old new
    → AreCandidates (problem_of t) (marks_at t) (names_of t old) → AreCandidates (problem_of u) (marks_at u) (names_of u new)
exchanged_candidates t u made s old new kept ex problem slots same listed before =
    let by : RowName → ℤ = row_numbers t made s ex.enters.line.0 in
    seen_alike t u (marks_at u) new problem slots
    (candidates_return (problem_of t) (marks_at t) (marks_at u) s by (names_of t old) (names_of t new) kept.whole kept.corner (leave_in t made.pair s ex.pair) ex.pair.leaves (entering_return t made s kept ex) same before
    (λ name. names_keep t old new name listed.keeps)
    (inr (listed_name t new s.leave.row kept.slots ex.pair.leaves (subst (λ w. Contains new w) (sym ex.pair.leave_slot) listed.leaving)))
    (λ name named other stays some.
    listed_name t new name kept.slots named
    (listed.row (line_slot t name)
    (λ none. some (other-number s.enter.row ex.enters.line.0 (row_number t made.pair.enter made.entering.row) name other ∙ row-none (nat_eq (line_slot t name) made.pair.enter) (coefficient (line_slot t name) made.entering.row) none))
    (λ e. other (lines_apart t name s.enter.row kept.slots named ex.pair.enters (ex.pair.enter_slot ∙ sym e))))))

-- ---- after a turn

turning_return : (t : Lists) (mark : Mark) → IsKept t → IsIn (place mark) (marks_at t) → (e : IsEquationAt t (deviation mark.row) (line_slot t mark.row) (sign_of mark.side *ℤ (standing_at t (line_slot t mark.row)).value.num) (standing_at t (line_slot t mark.row)).value.den)
    → IsReturn (problem_of t) (marks_at t) mark.row (line_numbers mark.row e.0 (number t (line_slot t mark.row)))
turning_return t mark kept inside e =
    let w : ℕ = line_slot t mark.row in
    let pivot = equation_is_pivot (problem_of t) (marks_at t) mark e.0 (number t w) (sign_of mark.side *ℤ (standing_at t w).value.num) (standing_at t w).value.den kept.whole kept.corner inside e.2 in
    record {
      cancel = pivot.cancel;
      inside_zero = pivot.inside_zero;
      some = no-own e.0 (line_numbers mark.row e.0 (number t w) mark.row) pivot.size_positive pivot.enter_is;
    }

-- the line turns from the one mark of the swap to the other, and the lines of its row are listed
pub turned_candidates : (t u : Lists) (s : Swap) (line : ℕ) (old new : List ℕ) → IsKept t → IsNamed (problem_of t) s.leave.row → line_slot t s.leave.row ≡ line → (standing_at t line).side ≡ Some s.leave.side → s.enter.row ≡ s.leave.row
    → problem_of u ≡ problem_of t → u.slots ≡ t.slots → SameMarks (marks_at u) (marks_after t s) → ((w : ℕ) → Contains old w → Contains new w) → ((c : ℕ) → entry t line c ≢ pos 0 → c ≢ line → Contains new c)
    → AreCandidates (problem_of t) (marks_at t) (names_of t old) → AreCandidates (problem_of u) (marks_at u) (names_of u new)
turned_candidates t u s line old new kept named at_line side turns problem slots same keeps row before =
    let stands = side-stands t s.leave (ap (λ w. (standing_at t w).side) at_line ∙ side) in
    let marked = named_mark t s.leave named in
    let inside : IsIn (place s.leave) (marks_at t) = stands_inside t s.leave marked stands in
    let e = inside_equation t s.leave kept marked stands in
    seen_alike t u (marks_at u) new problem slots
    (candidates_return (problem_of t) (marks_at t) (marks_at u) s (line_numbers s.leave.row e.0 (number t (line_slot t s.leave.row))) (names_of t old) (names_of t new) kept.whole kept.corner inside named (turning_return t s.leave kept inside e) same before
    (λ name. names_keep t old new name keeps)
    (inl (sym turns))
    (λ name is other stays some.
    let apart : line_slot t name ≢ line_slot t s.leave.row = λ z. stays (lines_apart t name s.leave.row kept.slots is named (sym z)) in
    listed_name t new name kept.slots is
    (row (line_slot t name)
    (λ none. some (other-number s.leave.row e.0 (number t (line_slot t s.leave.row)) name stays ∙ row-none (nat_eq (line_slot t name) (line_slot t s.leave.row)) (entry t (line_slot t s.leave.row) (line_slot t name)) (ap (λ w. entry t w (line_slot t name)) at_line ∙ none)))
    (λ z. apart (z ∙ sym at_line)))))
