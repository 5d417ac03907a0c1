-- The lists after a turn keep all.
use Rattle.std.proofs.Common.{◌≡◌, ◌≢◌, ◌∙◌, ◌⊎◌, ℕ, zero, suc, ◌+◌, ◌++◌, ◌-◌, ◌*◌, ◌<◌, ◌≤◌, Bool, true, false, cond, nat_eq, List, [], ◌∷◌, map, filter, length, length-set, slice_index_or, refl, sym, ap, ap₂, subst, arith, inl, inr, ℤ, pos, negsuc, neg_ℤ, ◌-ℤ◌, ◌*ℤ◌, All, Any, Some, None, ne_eqb}
use Rattle.std.specs.declared.option.Option.{Option}
use Rattle.std.specs.List.{AllByRecursion as Each}
use Rattle.std.proofs.lemmas.Bool.{cases_eq}
use Rattle.std.proofs.lemmas.Grind.{get_or-set_at}
use Rattle.std.proofs.lemmas.List.{get_or-set_other}
use Rattle.std.proofs.lemmas.List.Elements.{All-from_recursion, All-set}
use borrow.Author.Differences.{ints}
use Rattle.frac_core.specs.Fraction.{Fraction, IsFitting}
use Rattle.frac_core.specs.Fraction as fractions
use Rattle.row_core.specs.Rows.{IsKeptRow, Term, coefficient}
use Rattle.problem_core.specs.declared.parts.Mark.{Mark}
use Rattle.problem_core.specs.declared.parts.RowName.{RowName}
use Rattle.problem_core.specs.declared.parts.RowName.TheVariants.{Held, Stay as StayOf}
use Rattle.problem_core.specs.declared.parts.Side.{Side}
use Rattle.problem_core.specs.declared.parts.Side.TheVariants.{Under, Over}
use Rattle.problem_core.specs.declared.parts.Stay.{Stay}
use Rattle.problem_core.specs.Layout.{HasStay, Line, Problem, Row, line_of_row, lines, stay_lines}
use Rattle.problem_core.specs.Window.{zero_fraction}
use Rattle.problem_core.specs.Levels.{IsCostAt}
use Rattle.problem_core.specs.Corners.{IsIn, SameMarks, Swap, attr_column, place, place_of}
use Rattle.corner_laws.proofs.Exchanged.{exchanged_in}
use Rattle.corner_laws.specs.Runs.{other_side}
use Rattle.corner_lines.specs.LineEquations.{deviation, sign_of}
use Rattle.corner_lines.specs.Levels.LevelCosts.{HasDeviation}
use Rattle.corner_lines.specs.Levels.LevelRows.{IsLevelExchange, IsPivot, IsTurningNumber, inside_number, line_numbers}
use Rattle.corner_lines.proofs.Costs.LevelCosts.{turned_cost_is_cost}
use Rattle.corner_lines.proofs.LevelRows.LevelJoins.{free-number}
use Rattle.corner_lines.proofs.Lines.LineExchanges.{line_turns}
use Rattle.corner_lines.proofs.Lines.LinePivots.{equation_is_pivot}
use Rattle.corner_lines.proofs.Lines.LineWritings.{line_value}
use Rattle.corner_exchange.specs.declared.exchange.Change.{Change}
use Rattle.corner_table.specs.declared.table.Standing.{Standing}
use Rattle.corner_table.specs.declared.table.TheConstants.{LEVELS}
use Rattle.corner_view.specs.Seen.{IsMarkOf, IsNamed}
use Rattle.corner_table.specs.Tables.{Lists, attr_slot, entry, line_slot, marks_at, number, priority_at, problem_of, row_at, slot_at, standing_at, stands_in}
use Rattle.corner_table.specs.Kept.{AreOutside, AreSlots, HasStayRoom, IsAttrSlot, IsEquationAt, IsKept, IsLineRow, IsSlot, home_of, row_count}
use Rattle.corner_exchange.specs.Swaps.Exchanges.{AreChangesIn, IsEquationBy, IsLevelBy, marks_after, opposite, turned_line, turned_lists, with_changes}
use Rattle.corner_table.specs.Kept.{IsOutsideSlot}
use Rattle.corner_writings.specs.Rows.{row_number}
use Rattle.corner_exchange.specs.Swaps.TurnedLevels.{IsTurn, IsTurnBy, IsTurnedLevel}
use Rattle.corner_exchange.specs.Swaps.NextLists.{IsKeptBy, IsLevelNext, IsLineBy, over}
use Rattle.corner_table.proofs.Readings.SlotFacts.{any_is, named_slot}
use Rattle.corner_table.proofs.Basics.SmallFacts.{own_name, own_stay}
use Rattle.corner_table.proofs.Basics.OwnerFacts.{stay_named}
use Rattle.corner_table.proofs.Basics.SmallFacts.{below_or}
use Rattle.corner_table.proofs.Readings.KeptFacts.{value_kept}
use Rattle.corner_exchange.proofs.Basics.Opposites.{opposite_fits, opposite_lowest}
use Rattle.corner_writings.proofs.LevelFacts.LevelNumberFacts.{AreLevelsOf, IsKnown, all-known, named_line}
use Rattle.corner_table.proofs.Readings.MarkFacts.{inside_stands, stands_inside}
use Rattle.corner_view.proofs.Facts.{mark_named, same_mark}
use Rattle.corner_table.proofs.Readings.ReadFacts.{attr_equation, is_some}
use Rattle.corner_table.proofs.Readings.WritingFacts.{attr_apart, lines_apart, number_is}
use Rattle.corner_exchange.proofs.Pivots.PairFacts.{eqb-same, side-stands}
use Rattle.corner_exchange.proofs.Swaps.PutFacts.{standing_slots}
use Rattle.corner_exchange.proofs.Swaps.NextFacts.{kept_by, over_slots}
use Rattle.corner_exchange.proofs.Swaps.ExchangedFacts.{IsPutAt, IsStillAt, changes_at, line_is}
use Rattle.corner_exchange.proofs.Swaps.ExchangedMarks.{same_inside}
use Rattle.corner_exchange.proofs.Swaps.ExchangedLevels.{IsFree, free_outside, free_row, inside_by, level_put, no_step}
use Rattle.corner_writings.proofs.LevelFacts.LevelCostFacts.{line_row as line-row}
use Rattle.corner_exchange.proofs.Swaps.LevelTurns.{turn_in, turn_exchange, turn_rays}
use Rattle.problem_core.proofs.Marks.{entered-in as enter_in, kept-in as kept_in}
use Rattle.problem_core.proofs.Sides.{none-not-some as not-some}
use Rattle.corner_writings.proofs.Basics.SmallFacts.{any-with}

-- ---- the marks of a turn

pub turn_leaves : (t : Lists) (line : ℕ) (side : Side) (s : Swap) → IsTurn t line side s → line_slot t s.leave.row ≡ line
turn_leaves t line side s h = ap (line_slot t) (sym h.row) ∙ h.slot

pub turn_named : (t : Lists) (line : ℕ) (side : Side) (s : Swap) → IsTurn t line side s → IsNamed (problem_of t) s.leave.row
turn_named t line side s h = subst (IsNamed (problem_of t)) h.row h.enters

-- ---- slot by slot

abbrev pub listed : Option Change → List Change
listed None = []
listed (Some change) = change ∷ []

turned-changes : (t : Lists) (line : ℕ) (side : Side) (change : Option Change) → turned_lists t line side change ≡ with_changes (turned_line t line side) (listed change)
turned-changes t line side None = refl
turned-changes t line side (Some change) = refl

-- where no change is at it, a level is not the line's
turned-home : (t : Lists) (line : ℕ) (side : Side) (s : Swap) (change : Option Change) (k : ℕ) → IsTurn t line side s → IsTurnBy t line side change → k < LEVELS → All (λ c. c.at ≢ k) (listed change) → k ≢ (slot_at t line).home
turned-home t line side s None k h by lt none e = absurd (let le : LEVELS ≤ (slot_at t line).home = by in omega (arith, e, lt, le))
turned-home t line side s (Some change) k h by lt none e = none 0 change (omega arith) ((by.1 s h).level ∙ sym e)

pub record AreTurned (t u : Lists) (line : ℕ) (side : Side) (s : Swap) : Type 0 where
  pub rows : (w : ℕ) → LEVELS ≤ w → row_at u w ≡ row_at t w
  pub line_is : standing_at u line ≡ record { side = Some side; value = opposite (standing_at t line).value }
  pub others : (w : ℕ) → LEVELS ≤ w → w ≢ line → standing_at u w ≡ standing_at t w
  pub levels : (k : ℕ) → k < LEVELS → IsPutAt t u (IsTurnedLevel t line s) k ⊎ ((k ≢ (slot_at t line).home) × (row_at u k ≡ row_at t k) × (standing_at u k ≡ standing_at t k))

pub turn_slot : (t : Lists) (line : ℕ) (side : Side) (s : Swap) → AreSlots t → IsTurn t line side s → IsSlot t line
turn_slot t line side s slots h = subst (IsSlot t) h.slot (named_slot t s.enter.row slots h.enters)

-- past the levels only the line has changed
high-still : (t : Lists) (line : ℕ) (side : Side) (s : Swap) (change : Option Change) (w : ℕ) → AreSlots t → IsTurn t line side s → IsTurnBy t line side change → LEVELS ≤ w
    → (row_at (turned_lists t line side change) w ≡ row_at t w) × (standing_at (turned_lists t line side change) w ≡ standing_at (turned_line t line side) w)
high-still t line side s None w slots h by le = (refl, refl)
high-still t line side s (Some change) w slots h by le =
    let u : Lists = turned_line t line side in
    let ne : w ≢ change.at = λ e. absurd (let low : (slot_at t line).home < LEVELS = by.0 in omega (arith, e, le, low, (by.1 s h).level)) in
    (get_or-set_other u.matrix change.at w change.row [] ne, get_or-set_other u.standings change.at w (record { side = (standing_at u change.at).side; value = change.value }) (record { side = None; value = zero_fraction }) ne)

turned-level : (t : Lists) (line : ℕ) (side : Side) (s : Swap) (change : Option Change) (k : ℕ) → AreSlots t → IsTurn t line side s → IsTurnBy t line side change → k < LEVELS
    → IsPutAt t (turned_lists t line side change) (IsTurnedLevel t line s) k ⊎ ((k ≢ (slot_at t line).home) × (row_at (turned_lists t line side change) k ≡ row_at t k) × (standing_at (turned_lists t line side change) k ≡ standing_at t k))
turned-level t line side s change k slots h by lt =
    let c0 : Lists = turned_line t line side in
    let u : Lists = turned_lists t line side change in
    let same = turned-changes t line side change in
    let high = (turn_slot t line side s slots h).0 in
    let st : standing_at c0 k ≡ standing_at t k =
    get_or-set_other t.standings line k (record { side = Some side; value = opposite (standing_at t line).value }) (record { side = None; value = zero_fraction }) (λ e. absurd (omega (arith, e, high, lt))) in
    let within : (c : Change) → IsTurnedLevel t line s c → c.at < LEVELS → c.at < length t.slots = λ c is low. omega (arith, low, slots.levels) in
    elim (subst (λ (x : Lists). IsPutAt c0 x (λ c. IsTurnedLevel t line s c × (c.at < LEVELS)) k ⊎ IsStillAt c0 x (listed change) k) (sym same)
    (changes_at c0 (λ c. IsTurnedLevel t line s c × (c.at < LEVELS)) (listed change) k (standing_slots t line (record { side = Some side; value = opposite (standing_at t line).value }) slots) (both-each t line side s change h by) (λ c p. within c p.0 p.1))) [
      | inl (c, p, at, row, side_is, value) ↦ inl (c, p.0, at, row, side_is ∙ ap (λ (x : Standing). x.side) st, value)
      | inr (none, row, standing) ↦ inr (turned-home t line side s change k h by lt none, row, standing ∙ st)
    ]
  where
    both-each : (t : Lists) (line : ℕ) (side : Side) (s : Swap) (change : Option Change) → IsTurn t line side s → IsTurnBy t line side change → Each (λ c. IsTurnedLevel t line s c × (c.at < LEVELS)) (listed change)
    both-each t line side s None h by = tt
    both-each t line side s (Some change) h by = let is = by.1 s h in ((is, subst (λ n. n < LEVELS) (sym is.level) by.0), tt)

pub turned_at : (t : Lists) (line : ℕ) (side : Side) (s : Swap) (change : Option Change) → AreSlots t → IsTurn t line side s → IsTurnBy t line side change → AreTurned t (turned_lists t line side change) line side s
turned_at t line side s change slots h by =
    let slot = turn_slot t line side s slots h in
    record {
      rows = λ w le. (high-still t line side s change w slots h by le).0;
      line_is = (high-still t line side s change line slots h by slot.0).1
          ∙ get_or-set_at t.standings line line (record { side = Some side; value = opposite (standing_at t line).value }) (record { side = None; value = zero_fraction }) refl (omega (arith, slot.1, slots.standings));
      others = λ w le ne. (high-still t line side s change w slots h by le).1
          ∙ get_or-set_other t.standings line w (record { side = Some side; value = opposite (standing_at t line).value }) (record { side = None; value = zero_fraction }) ne;
      levels = λ k lt. turned-level t line side s change k slots h by lt;
    }

pub turned_over : (t : Lists) (line : ℕ) (side : Side) (change : Option Change) → turned_lists t line side change ≡ over t (turned_lists t line side change).standings (turned_lists t line side change).matrix
turned_over t line side None = refl
turned_over t line side (Some change) = refl

-- what is known of lists after a turn
pub record IsTurnedNext (t : Lists) (v : List Standing) (m : List (List Term)) (line : ℕ) (side : Side) (s : Swap) : Type 0 where
  pub kept : IsKept t
  pub is : IsTurn t line side s
  pub at : AreTurned t (over t v m) line side s

-- ---- the marks inside

abbrev some-side : Option Side → Side
some-side None = Over
some-side (Some s) = s

enter-standing : (t : Lists) (v : List Standing) (m : List (List Term)) (line : ℕ) (side : Side) (s : Swap) → IsTurnedNext t v m line side s → (standing_at (over t v m) (line_slot t s.enter.row)).side ≡ Some s.enter.side
enter-standing t v m line side s n =
    ap (λ w. (standing_at (over t v m) w).side) n.is.slot ∙ ap (λ (x : Standing). x.side) n.at.line_is ∙ ap (λ (d : Side). Some d) (sym n.is.side_is)

stands-next : (t : Lists) (v : List Standing) (m : List (List Term)) (line : ℕ) (side : Side) (s : Swap) (k : Mark) → IsTurnedNext t v m line side s → IsMarkOf (problem_of t) k → stands_in (over t v m) k ≡ true → IsIn (place k) (marks_after t s)
stands-next t v m line side s k n is stands =
    let u : Lists = over t v m in
    let w : ℕ = line_slot t k.row in
    let named = mark_named (problem_of t) k is in
    let there : (standing_at u w).side ≡ Some k.side = is_some (standing_at u w).side k.side stands in
    elim (cases_eq w line) [
      | inl e ↦
          let row : s.enter.row ≡ k.row = lines_apart t s.enter.row k.row n.kept.slots n.is.enters named (e ∙ sym n.is.slot) in
          let both : Some s.enter.side ≡ Some k.side = sym (ap (λ (r : RowName). (standing_at u (line_slot t r)).side) (sym row) ∙ enter-standing t v m line side s n) ∙ there in
          let mark : s.enter ≡ k = ap₂ (λ (r : RowName) (d : Side). (record { row = r; side = d })) row (ap some-side both) in
          subst (λ (x : Mark). IsIn (place x) (marks_after t s)) mark (enter_in s (marks_at t) (turn_in t line side s n.is))
      | inr ne ↦
          let slot = named_slot t k.row n.kept.slots named in
          let before : (standing_at t w).side ≡ Some k.side = sym (ap (λ (x : Standing). x.side) (n.at.others w slot.0 ne)) ∙ there in
          kept_in s (marks_at t) (place k) (stands_inside t k is (side-stands t k before))
          (λ q. ne (ap (λ (x : Mark). line_slot t x.row) (same_mark k s.leave q) ∙ turn_leaves t line side s n.is))
    ]

next-stands : (t : Lists) (v : List Standing) (m : List (List Term)) (line : ℕ) (side : Side) (s : Swap) (k : Mark) → IsTurnedNext t v m line side s → IsMarkOf (problem_of t) k → IsIn (place k) (marks_after t s) → stands_in (over t v m) k ≡ true
next-stands t v m line side s k n is inside =
    let u : Lists = over t v m in
    let w : ℕ = line_slot t k.row in
    let named = mark_named (problem_of t) k is in
    elim (exchanged_in s (marks_at t) (place k) inside) [
      | inl q ↦ subst (λ (x : Mark). stands_in u x ≡ true) (sym (same_mark k s.enter q)) (side-stands u s.enter (enter-standing t v m line side s n))
      | inr (i, nq) ↦
          let before : (standing_at t w).side ≡ Some k.side = is_some (standing_at t w).side k.side (inside_stands t k i) in
          let slot = named_slot t k.row n.kept.slots named in
          let ne : w ≢ line = λ e.
          let row : s.leave.row ≡ k.row = lines_apart t s.leave.row k.row n.kept.slots (turn_named t line side s n.is) named (e ∙ sym (turn_leaves t line side s n.is)) in
          let both : Some s.leave.side ≡ Some k.side = sym (ap (λ c. (standing_at t c).side) e ∙ n.is.inside) ∙ before in
          nq (ap place (sym (ap₂ (λ (r : RowName) (d : Side). (record { row = r; side = d })) row (ap some-side both)))) in
          side-stands u k (ap (λ (x : Standing). x.side) (n.at.others w slot.0 ne) ∙ before)
    ]

turned-marks : (t : Lists) (v : List Standing) (m : List (List Term)) (line : ℕ) (side : Side) (s : Swap) → IsTurnedNext t v m line side s → SameMarks (marks_after t s) (marks_at (over t v m))
turned-marks t v m line side s n =
    same_inside (over t v m) (marks_after t s) (turn_exchange t line side s n.kept n.is).corner.marks (λ k. stands-next t v m line side s k n) (λ k. next-stands t v m line side s k n)

-- ---- equations

still-equation : (t : Lists) (line : ℕ) (side : Side) (s : Swap) (quantity : (ℕ → ℤ) → ℤ) (w : ℕ) (num : ℤ) (den : ℕ) → IsKept t → IsTurn t line side s
    → IsEquationAt t quantity w num den → IsEquationBy t (marks_after t s) quantity w (row_at t w) num den
still-equation t line side s quantity w num den kept h e =
    (e.0, e.1, line_turns (problem_of t) (marks_at t) s quantity e.0 (number t w) num den kept.corner (turn_in t line side s h) h.row e.2)

attr-next : (t : Lists) (v : List Standing) (m : List (List Term)) (line : ℕ) (side : Side) (s : Swap) (attr : ℕ) → IsTurnedNext t v m line side s → HasStay t.stays attr
    → IsEquationBy (over t v m) (marks_after t s) (λ x. x (attr_column attr)) (attr_slot t attr) (row_at (over t v m) (attr_slot t attr)) (standing_at (over t v m) (attr_slot t attr)).value.num (standing_at (over t v m) (attr_slot t attr)).value.den
attr-next t v m line side s attr n has =
    let w : ℕ = attr_slot t attr in
    let q : (ℕ → ℤ) → ℤ = λ x. x (attr_column attr) in
    let slot : IsSlot t w = any_is (λ (x : Stay). IsAttrSlot t x.attr) (λ (x : Stay). x.attr ≡ attr) t.stays n.kept.slots.attrs has (λ x k e. subst (λ a. IsSlot t (attr_slot t a)) e k.slot) in
    let ne : w ≢ line = λ e. attr_apart t attr s.enter.row n.kept.slots has n.is.enters (n.is.slot ∙ sym e) in
    let e = still-equation t line side s q w (standing_at t w).value.num (standing_at t w).value.den n.kept n.is (attr_equation t attr n.kept has) in
    subst (λ (x : Standing). IsEquationBy t (marks_after t s) q w (row_at (over t v m) w) x.value.num x.value.den) (sym (n.at.others w slot.0 ne))
    (subst (λ (r : List Term). IsEquationBy t (marks_after t s) q w r (standing_at t w).value.num (standing_at t w).value.den) (sym (n.at.rows w slot.0)) e)

still-line : (t : Lists) (line : ℕ) (side : Side) (s : Swap) (name : RowName) (d : Option Side) → IsKept t → IsTurn t line side s
    → IsLineRow t name d → IsLineBy t (marks_after t s) name (line_slot t name) (row_at t (line_slot t name)) d (standing_at t (line_slot t name)).value
still-line t line side s name None kept h r = r
still-line t line side s name (Some d) kept h r =
    still-equation t line side s (deviation name) (line_slot t name) (sign_of d *ℤ (standing_at t (line_slot t name)).value.num) (standing_at t (line_slot t name)).value.den kept h r

sign-other : (d : Side) (z : ℤ) → sign_of d *ℤ z ≡ sign_of (other_side d) *ℤ neg_ℤ z
sign-other Under z = omega (arith, ints)
sign-other Over z = omega (arith, ints)

-- the line's own equation after the turn
pub turned_equation : (t : Lists) (line : ℕ) (side : Side) (s : Swap) → IsKept t → IsTurn t line side s
    → IsEquationBy t (marks_after t s) (deviation s.enter.row) line (row_at t line) (sign_of side *ℤ (opposite (standing_at t line).value).num) (standing_at t line).value.den
turned_equation t line side s kept h =
    let d : Side = s.leave.side in
    let row : IsLineRow t s.enter.row (Some d) = subst (λ (o : Option Side). IsLineRow t s.enter.row o) (ap (λ w. (standing_at t w).side) h.slot ∙ h.inside) (line-row t s.enter.row kept h.enters) in
    let e = still-line t line side s s.enter.row (Some d) kept h row in
    let there : IsEquationBy t (marks_after t s) (deviation s.enter.row) line (row_at t line) (sign_of d *ℤ (standing_at t line).value.num) (standing_at t line).value.den =
    subst (λ w. IsEquationBy t (marks_after t s) (deviation s.enter.row) w (row_at t w) (sign_of d *ℤ (standing_at t w).value.num) (standing_at t w).value.den) h.slot e in
    subst (λ (z : ℤ). IsEquationBy t (marks_after t s) (deviation s.enter.row) line (row_at t line) z (standing_at t line).value.den)
    (sign-other d (standing_at t line).value.num ∙ ap (λ (x : Side). sign_of x *ℤ neg_ℤ (standing_at t line).value.num) (sym h.sides ∙ h.side_is)) there

line-next : (t : Lists) (v : List Standing) (m : List (List Term)) (line : ℕ) (side : Side) (s : Swap) (name : RowName) → IsTurnedNext t v m line side s → IsNamed (problem_of t) name
    → IsLineBy t (marks_after t s) name (line_slot t name) (row_at (over t v m) (line_slot t name)) (standing_at (over t v m) (line_slot t name)).side (standing_at (over t v m) (line_slot t name)).value
line-next t v m line side s name n named =
    let u : Lists = over t v m in
    let w : ℕ = line_slot t name in
    let at : List Mark = marks_after t s in
    let slot = named_slot t name n.kept.slots named in
    elim (cases_eq w line) [
      | inl e ↦
          let same : s.enter.row ≡ name = lines_apart t s.enter.row name n.kept.slots n.is.enters named (e ∙ sym n.is.slot) in
          let h : IsLineBy t at name line (row_at t line) (Some side) (opposite (standing_at t line).value) =
          subst (λ (r : RowName). IsLineBy t at r line (row_at t line) (Some side) (opposite (standing_at t line).value)) same (turned_equation t line side s n.kept n.is) in
          subst (λ k. IsLineBy t at name k (row_at u k) (standing_at u k).side (standing_at u k).value) (sym e)
          (line_is t at name line (row_at t line) (row_at u line) (Some side) (opposite (standing_at t line).value) (standing_at u line) (n.at.rows line (subst (λ k. LEVELS ≤ k) e slot.0)) n.at.line_is h)
      | inr ne ↦
          line_is t at name w (row_at t w) (row_at u w) (standing_at t w).side (standing_at t w).value (standing_at u w) (n.at.rows w slot.0) (n.at.others w slot.0 ne)
          (still-line t line side s name (standing_at t w).side n.kept n.is (line-row t name n.kept named))
    ]

-- ---- slots in rows, and the stays' room

outside-there : (t : Lists) (v : List Standing) (m : List (List Term)) (line : ℕ) (side : Side) (s : Swap) (c : ℕ) → IsTurnedNext t v m line side s → IsOutsideSlot t c → IsOutsideSlot (over t v m) c
outside-there t v m line side s c n (slot, none, owner) =
    (slot, ap (λ (x : Standing). x.side) (n.at.others c slot.0 (λ e. not-some s.leave.side (sym none ∙ ap (λ k. (standing_at t k).side) e ∙ n.is.inside))) ∙ none, owner)

outside-level : (t : Lists) (v : List Standing) (m : List (List Term)) (line : ℕ) (side : Side) (s : Swap) (w c : ℕ) → IsTurnedNext t v m line side s → w < LEVELS → coefficient c (row_at (over t v m) w) ≢ pos 0 → c ≢ w → IsOutsideSlot t c
outside-level t v m line side s w c n low some ne =
    elim (n.at.levels w low) [
      | inl (d, p, here, row, side_is, value) ↦ p.outside c (λ z. some (ap (coefficient c) row ∙ z)) (λ q. ne (q ∙ here))
      | inr (apart, row, st) ↦ n.kept.outside w c (λ z. some (ap (coefficient c) row ∙ z)) ne
    ]

turned-outside : (t : Lists) (v : List Standing) (m : List (List Term)) (line : ℕ) (side : Side) (s : Swap) → IsTurnedNext t v m line side s → AreOutside (over t v m)
turned-outside t v m line side s n w c some ne =
    elim (below_or w LEVELS) [
      | inl low ↦ outside-there t v m line side s c n (outside-level t v m line side s w c n low some ne)
      | inr high ↦ outside-there t v m line side s c n (n.kept.outside w c (λ z. some (ap (coefficient c) (n.at.rows w high) ∙ z)) ne)
    ]

turned-room : (t : Lists) (v : List Standing) (m : List (List Term)) (line : ℕ) (side : Side) (s : Swap) → IsTurnedNext t v m line side s → All (HasStayRoom (over t v m)) t.stays
turned-room t v m line side s n i x lt =
    let name : RowName = StayOf (slice_index_or t.stays i x).attr in
    let slot = named_slot t name n.kept.slots (stay_named (problem_of t) (slice_index_or t.stays i x).attr (own_stay t.stays i x lt)) in
    subst (λ (r : List Term). IsFitting (pos 2 *ℤ coefficient (line_slot t name) r)) (sym (n.at.rows (line_slot t name) slot.0)) (n.kept.stay_levels i x lt)

-- ---- levels

-- the level of a line
line-level : (t : Lists) (l : Line) (name : RowName) (k : ℕ) → IsKnown t l → l.name ≡ name → k < LEVELS → k ≢ (slot_at t (line_slot t name)).home → l.level ≢ k
line-level t l (Held id) k known e lt ne q =
    let home : (slot_at t (line_slot t (Held id))).home ≡ l.level = subst (λ (r : RowName). (slot_at t (line_slot t r)).home ≡ home_of t l r) e known.slot.home in
    ne (sym q ∙ sym home)
line-level t l (StayOf attr) k known e lt ne q =
    let high : AreLevelsOf (StayOf attr) l.level = subst (λ (r : RowName). AreLevelsOf r l.level) e known.levels in
    absurd (omega (arith, high, q, lt))

counts-none : (t : Lists) (line : ℕ) (side : Side) (s : Swap) (k unit own : ℕ) (d : Side) → IsKept t → IsTurn t line side s → k < LEVELS → k ≢ (slot_at t line).home → (l : Line) → IsKnown t l → l.name ≡ s.enter.row → inside_number d k unit own l ≡ pos 0
counts-none t line side s k unit own d kept h lt ne l known e =
    free-number d k unit own l (ap (λ (b : Bool). cond b l.weight 0) (ne_eqb l.level k (line-level t l s.enter.row k known e lt (subst (λ w. k ≢ (slot_at t w).home) (sym h.slot) ne))))

abbrev stay-number : RowName → ℕ
stay-number (Held id) = 0
stay-number (StayOf attr) = attr + 1

no-held : (id level : ℕ) (stays : List Stay) → Any (λ l. l.name ≡ Held id) (stay_lines level stays) → ⊥
no-held id level [] h = absurd (omega (arith, h.2))
no-held id level (s ∷ stays) (zero, y, lt, e, h) = let k : s.attr + 1 ≡ 0 = ap stay-number (ap (λ (l : Line). l.name) e ∙ h) in absurd (omega (arith, k))
no-held id level (s ∷ stays) (suc k, y, lt, e, h) = no-held id (level + 1) stays (k, y, omega (arith, lt), e, h)

one-more : (b : Bool) (r : Row) (rs : List Row) → length (cond b (r ∷ rs) rs) ≡ 0 → (b ≡ true → ⊥) × (length rs ≡ 0)
one-more true r rs e = absurd (omega (arith, e))
one-more false r rs e = ((λ z. subst is-false z tt), e)
  where
    is-false : Bool → Type 0
    is-false true = ⊥
    is-false false = Unit {0}

count-some : (id k : ℕ) (rows : List Row) (rest : List Line) → (Any (λ l. l.name ≡ Held id) rest → ⊥) → Any (λ l. (l.name ≡ Held id) × (l.level ≡ k)) (map line_of_row rows ++ rest) → length (filter (λ r. nat_eq (1000 - r.rank) k) rows) ≢ 0
count-some id k [] rest none (i, y, lt, e, h) q = none (i, y, lt, e, h.0)
count-some id k (r ∷ rows) rest none (zero, y, lt, e, h) q =
    (one-more (nat_eq (1000 - r.rank) k) r (filter (λ (r : Row). nat_eq (1000 - r.rank) k) rows) q).0 (eqb-same (1000 - r.rank) k (ap (λ (l : Line). l.level) e ∙ h.1))
count-some id k (r ∷ rows) rest none (suc i, y, lt, e, h) q =
    count-some id k rows rest none (i, y, omega (arith, lt), e, h) (one-more (nat_eq (1000 - r.rank) k) r (filter (λ (r : Row). nat_eq (1000 - r.rank) k) rows) q).1

-- the level of a line has rows
home-rows : (t : Lists) (name : RowName) (k : ℕ) → IsKept t → IsNamed (problem_of t) name → k < LEVELS → (slot_at t (line_slot t name)).home ≡ k → row_count t k ≢ 0
home-rows t (Held id) k kept named lt home =
    count-some id k t.rows (stay_lines 1001 t.stays) (no-held id 1001 t.stays)
    (any-with (IsKnown t) (λ (l : Line). l.name ≡ Held id) (λ (l : Line). (l.name ≡ Held id) × (l.level ≡ k)) (lines (problem_of t)) (All-from_recursion (IsKnown t) (lines (problem_of t)) (all-known t kept)) named
    (λ l known e. (e, sym (subst (λ (r : RowName). (slot_at t (line_slot t r)).home ≡ home_of t l r) e known.slot.home) ∙ home)))
home-rows t (StayOf attr) k kept named lt home =
    let slot = named_slot t (StayOf attr) kept.slots named in
    named_line t (StayOf attr) kept named (λ l known e.
    let own : (slot_at t (line_slot t (StayOf attr))).home ≡ line_slot t (StayOf attr) = subst (λ (r : RowName). (slot_at t (line_slot t r)).home ≡ home_of t l r) e known.slot.home in
    absurd (omega (arith, lt, home, own, slot.0)))

-- the line's equation, with its own number below 0
pub turn_pivot : (t : Lists) (line : ℕ) (side : Side) (s : Swap) → IsKept t → IsTurn t line side s → (size : ℕ) × (pivot : RowName → ℤ) × IsPivot (problem_of t) (marks_at t) s.enter.row s.leave.row size pivot
turn_pivot t line side s kept h =
    let p : Problem = problem_of t in
    let name : RowName = s.leave.row in
    let w : ℕ = line_slot t name in
    let row : IsLineRow t name (Some s.leave.side) = subst (λ (o : Option Side). IsLineRow t name o) (ap (λ c. (standing_at t c).side) (turn_leaves t line side s h) ∙ h.inside) (line-row t name kept (turn_named t line side s h)) in
    let e : IsEquationAt t (deviation name) w (sign_of s.leave.side *ℤ (standing_at t w).value.num) (standing_at t w).value.den = row in
    let pivot = equation_is_pivot p (marks_at t) s.leave e.0 (number t w) (sign_of s.leave.side *ℤ (standing_at t w).value.num) (standing_at t w).value.den kept.whole kept.corner (turn_in t line side s h) e.2 in
    (e.0, line_numbers name e.0 (number t w), subst (λ (r : RowName). IsPivot p (marks_at t) r name e.0 (line_numbers name e.0 (number t w))) (sym h.row) pivot)

line-gone : (t : Lists) (line : ℕ) (side : Side) (s : Swap) (k : ℕ) → IsKept t → IsTurn t line side s → k < LEVELS → entry t k line ≡ pos 0
line-gone t line side s k kept h lt =
    let high = (turn_slot t line side s kept.slots h).0 in
    elim (decide-zero (entry t k line)) [
      | inl none ↦ none
      | inr some ↦ absurd (not-some s.leave.side (sym (kept.outside k line some (λ e. absurd (omega (arith, e, high, lt)))).1 ∙ h.inside))
    ]
  where
    decide-zero : (z : ℤ) → (z ≡ pos 0) ⊎ (z ≢ pos 0)
    decide-zero (pos zero) = inl refl
    decide-zero (pos (suc n)) = inr (λ e. omega (arith, ints, e))
    decide-zero (negsuc n) = inr (λ e. omega (arith, ints, e))

level-still : (t : Lists) (v : List Standing) (m : List (List Term)) (line : ℕ) (side : Side) (s : Swap) (k : ℕ) → IsTurnedNext t v m line side s → k < LEVELS → k ≢ (slot_at t line).home → row_at (over t v m) k ≡ row_at t k → standing_at (over t v m) k ≡ standing_at t k
    → IsLevelNext (over t v m) (marks_after t s) k
level-still t v m line side s k n lt apart row st =
    let p : Problem = problem_of t in
    let at : List Mark = marks_at t in
    let l = n.kept.levels k lt in
    let by : RowName → ℤ = l.numbers.by in
    let name : RowName = s.leave.row in
    let named = turn_named t line side s n.is in
    let none : (d : Side) (x : Line) → IsKnown t x → x.name ≡ s.enter.row → inside_number d k l.unit l.own x ≡ pos 0 = λ d x known e. counts-none t line side s k l.unit l.own d n.kept n.is lt apart x known e in
    let all : All (IsKnown t) (lines p) = All-from_recursion (IsKnown t) (lines p) (all-known t n.kept) in
    let by_leave : by name ≡ pos 0 = any_is (λ (x : Line). (IsIn (place_of x.name s.leave.side) at → by x.name ≡ inside_number s.leave.side k l.unit l.own x) × IsKnown t x) (λ (x : Line). x.name ≡ name) (lines p)
    (λ i d within. (inside_by p at k l.unit l.own by s.leave.side l.numbers.row i d within, all i d within)) named
    (λ x h e. ap by (sym e) ∙ h.0 (subst (λ (r : RowName). IsIn (place_of r s.leave.side) at) (sym e) (turn_in t line side s n.is)) ∙ none s.leave.side x h.1 (e ∙ sym n.is.row)) in
    let by_enter : by s.enter.row ≡ pos 0 = ap by n.is.row ∙ by_leave in
    let high : LEVELS ≤ line_slot t name = (named_slot t name n.kept.slots named).0 in
    let number_leave : number t k name ≡ pos 0 = number_is t k name (λ e. absurd (omega (arith, e, high, lt))) ∙ ap (λ c. neg_ℤ (entry t k c)) (turn_leaves t line side s n.is) ∙ ap neg_ℤ (line-gone t line side s k n.kept n.is lt) in
    let free : IsFree p at s k l.unit l.own by = record {
      row = l.numbers.row;
      enters = by_enter;
      leaves = by_leave;
      comes = λ i d within e. none s.enter.side (slice_index_or (lines p) i d) (all i d within) e;
    } in
    let pivot = turn_pivot t line side s n.kept n.is in
    let ex : IsLevelExchange p at s k l.unit l.own (number t k) pivot.0 pivot.1 = record {
      whole = n.kept.whole;
      corner = n.kept.corner;
      exchange = turn_exchange t line side s n.kept n.is;
      row = record { by = by; row = l.numbers.row; outside = l.numbers.outside };
      pivot_is = pivot.2;
    } in
    let turning : IsTurningNumber p s k l.unit l.own (pos 0) = λ i d within e.
    let x : Line = slice_index_or (lines p) i d in
    let one : inside_number s.leave.side k l.unit l.own x ≡ pos 0 = none s.leave.side x (all i d within) (e ∙ sym n.is.row) in
    let two : inside_number s.enter.side k l.unit l.own x ≡ pos 0 = none s.enter.side x (all i d within) (e ∙ sym n.is.row) in
    sym (ap₂ ◌-ℤ◌ one two) in
    let e = turned_equation t line side s n.kept n.is in
    let value : Fraction = record { num = sign_of side *ℤ (opposite (standing_at t line).value).num; den = (standing_at t line).value.den } in
    let has : HasDeviation p (marks_after t s) s.enter.row value = line_value p (marks_after t s) (deviation s.enter.row) e.0 (row_number t line (row_at t line)) value.num value.den n.kept.whole (turn_exchange t line side s n.kept n.is).corner e.2 in
    let cost : IsCostAt p (marks_after t s) k (standing_at t k).value =
    turned_cost_is_cost p at s k l.unit l.own pivot.0 (number t k) pivot.1 (pos 0) (standing_at t k).value value (standing_at t k).value ex l.least n.is.row turning l.cost has
    (no_step (standing_at t k).value value (l.own * l.unit) (value_kept t k n.kept).lowest.above e.2.den_positive) in
    record {
      unit = l.unit;
      own = l.own;
      unit_is = l.unit_is;
      own_is = ap (λ (x : List Term). cond (nat_eq (priority_at t k).rows 0) (pos 1) (coefficient k x)) row ∙ l.own_is;
      rows = l.rows;
      empty = λ z. row ∙ l.empty z;
      least = l.least;
      by = by;
      reduced = l.numbers.reduced;
      row = free_row p at s k l.unit l.own by free;
      outside = λ i d within o. free_outside p at s (number t k) by by_leave number_leave l.numbers.outside i d within o ∙ ap (λ (x : List Term). row_number t k x (slice_index_or (lines p) i d).name) (sym row);
      reduced_by = l.numbers.reduced_by;
      fits = l.numbers.fits;
      cost = subst (λ (x : Standing). IsCostAt p (marks_after t s) k x.value) (sym st) cost;
    }

turned-levels : (t : Lists) (v : List Standing) (m : List (List Term)) (line : ℕ) (side : Side) (s : Swap) (k : ℕ) → IsTurnedNext t v m line side s → k < LEVELS → IsLevelNext (over t v m) (marks_after t s) k
turned-levels t v m line side s k n lt =
    let l = n.kept.levels k lt in
    elim (n.at.levels k lt) [
      | inl (c, p, here, row, side_is, value) ↦
          let home : (slot_at t (line_slot t s.enter.row)).home ≡ k = ap (λ w. (slot_at t w).home) n.is.slot ∙ sym p.level ∙ here in
          level_put t (marks_after t s) v m k c.row c.value l (λ z. home-rows t s.enter.row k n.kept n.is.enters lt home (sym l.rows ∙ z))
          (subst (λ w. IsLevelBy t (marks_after t s) w c.row c.value) here p.level_is) row value
      | inr (apart, row, st) ↦ level-still t v m line side s k n lt apart row st
    ]

-- ---- rows and values

opposite-kept : (f : Fraction) → fractions.IsKept f → fractions.IsKept (opposite f)
opposite-kept f h = record { lowest = opposite_lowest f h.lowest; fits = opposite_fits f h.fits }

turned-kept : (t : Lists) (line : ℕ) (side : Side) (s : Swap) (change : Option Change) → IsKept t → IsTurn t line side s → IsTurnBy t line side change
    → All IsKeptRow (turned_lists t line side change).matrix × All (λ s. fractions.IsKept s.value) (turned_lists t line side change).standings
    × (length (turned_lists t line side change).standings ≡ length t.slots) × (length (turned_lists t line side change).matrix ≡ length t.slots)
turned-kept t line side s None kept h by =
    let st : Standing = record { side = Some side; value = opposite (standing_at t line).value } in (
      kept.matrix,
      All-set (λ (s : Standing). fractions.IsKept s.value) t.standings line st (opposite-kept (standing_at t line).value (value_kept t line kept)) kept.values,
      length-set t.standings line st ∙ kept.slots.standings,
      kept.slots.matrix,
    )
turned-kept t line side s (Some change) kept h by =
    let st : Standing = record { side = Some side; value = opposite (standing_at t line).value } in
    let u : Lists = turned_line t line side in
    let next : Standing = record { side = (standing_at u change.at).side; value = change.value } in
    let is = by.1 s h in (
      All-set IsKeptRow t.matrix change.at change.row is.kept kept.matrix,
      All-set (λ (s : Standing). fractions.IsKept s.value) u.standings change.at next is.value_kept
          (All-set (λ (s : Standing). fractions.IsKept s.value) t.standings line st (opposite-kept (standing_at t line).value (value_kept t line kept)) kept.values),
      length-set u.standings change.at next ∙ length-set t.standings line st ∙ kept.slots.standings,
      length-set t.matrix change.at change.row ∙ kept.slots.matrix,
    )

-- ---- all of it

next-kept : (t : Lists) (v : List Standing) (m : List (List Term)) (line : ℕ) (side : Side) (s : Swap) → IsTurnedNext t v m line side s → length v ≡ length t.slots → length m ≡ length t.slots → All IsKeptRow m → All (λ s. fractions.IsKept s.value) v
    → IsKeptBy (over t v m) (marks_after t s)
next-kept t v m line side s n vs ms rows values = record {
  marks = turned-marks t v m line side s n;
  whole = n.kept.whole;
  corner = (turn_exchange t line side s n.kept n.is).corner;
  rays = turn_rays t line side s n.kept n.is;
  slots = over_slots t v m n.kept.slots vs ms;
  stored = record { few = n.kept.stored.few; empty = λ w high free. n.at.rows w high ∙ n.kept.stored.empty w high free };
  matrix = rows;
  values = values;
  attrs = λ i x lt. attr-next t v m line side s (slice_index_or t.stays i x).attr n (own_stay t.stays i x lt);
  lines = λ i x lt. line-next t v m line side s (slice_index_or (lines (problem_of t)) i x).name n (own_name (lines (problem_of t)) i x lt);
  outside = turned-outside t v m line side s n;
  levels = λ k lt. turned-levels t v m line side s k n lt;
  stay_levels = turned-room t v m line side s n;
}

next-by : (t : Lists) (line : ℕ) (side : Side) (s : Swap) (change : Option Change) → IsKept t → IsTurn t line side s → IsTurnBy t line side change
    → IsKeptBy (over t (turned_lists t line side change).standings (turned_lists t line side change).matrix) (marks_after t s)
next-by t line side s change kept h by =
    let u : Lists = turned_lists t line side change in
    let all = turned-kept t line side s change kept h by in
    next-kept t u.standings u.matrix line side s
    (record { kept = kept; is = h; at = subst (λ (x : Lists). AreTurned t x line side s) (turned_over t line side change) (turned_at t line side s change kept.slots h by) })
    all.2 all.3 all.0 all.1

pub turned_kept : (t : Lists) (line : ℕ) (side : Side) (s : Swap) (change : Option Change) → IsKept t → IsTurn t line side s → IsTurnBy t line side change → IsKept (turned_lists t line side change)
turned_kept t line side s change kept h by =
    subst IsKept (sym (turned_over t line side change)) (kept_by (over t (turned_lists t line side change).standings (turned_lists t line side change).matrix) (marks_after t s) (next-by t line side s change kept h by))

pub turned_after : (t : Lists) (line : ℕ) (side : Side) (s : Swap) (change : Option Change) → IsKept t → IsTurn t line side s → IsTurnBy t line side change → SameMarks (marks_at (turned_lists t line side change)) (marks_after t s)
turned_after t line side s change kept h by =
    subst (λ (x : Lists). SameMarks (marks_at x) (marks_after t s)) (sym (turned_over t line side change))
    (let same = (next-by t line side s change kept h by).marks in (same.1, same.0))

pub turned_in : (t : Lists) (line : ℕ) (side : Side) (s : Swap) (change : Option Change) → AreSlots t → IsTurn t line side s → IsTurnBy t line side change → AreChangesIn t change
turned_in t line side s None slots h by = tt
turned_in t line side s (Some change) slots h by =
    let is = by.1 s h in
    (let low : (slot_at t line).home < LEVELS = by.0 in omega (arith, low, is.level, slots.levels), is.below)

pub turned_count : (t : Lists) (line : ℕ) (side : Side) (change : Option Change) → length (turned_lists t line side change).slots ≡ length t.slots
turned_count t line side change = ap (λ (x : Lists). length x.slots) (turned_over t line side change)

pub turned_row : (t : Lists) (line : ℕ) (side : Side) (s : Swap) (change : Option Change) → AreSlots t → IsTurn t line side s → IsTurnBy t line side change → row_at (turned_lists t line side change) line ≡ row_at t line
turned_row t line side s change slots h by = (turned_at t line side s change slots h by).rows line (turn_slot t line side s slots h).0
