-- The levels after an exchange.
use Rattle.std.proofs.Common.{◌≡◌, ◌≢◌, ◌∙◌, ◌⊎◌, ℕ, zero, suc, ◌*◌, ◌<◌, ◌≤◌, Bool, cond, nat_eq, List, slice_index_or, refl, sym, ap, ap₂, subst, arith, inl, inr, ℤ, pos, negsuc, neg_ℤ, ◌+ℤ◌, ◌-ℤ◌, ◌*ℤ◌, unsigned_abs, All, ne_eqb}
use Rattle.std.specs.Int.{◌∣◌}
use Rattle.std.proofs.lemmas.Bool.{cases_eq}
use Rattle.std.proofs.lemmas.Nat.Gcd.{dvd-zero}
use borrow.Author.Differences.{ints}
use Rattle.frac_core.specs.Fraction.{Fraction}
use Rattle.frac_core.proofs.Integers.{add-zero_ℤ, mul_assoc_ℤ, zero-mul_ℤ}
use lib.IntN.{*ℤ_comm}
use Rattle.row_core.specs.Rows.{Term, coefficient}
use Rattle.problem_core.specs.declared.parts.Mark.{Mark}
use Rattle.problem_core.specs.declared.parts.RowName.{RowName}
use Rattle.problem_core.specs.declared.parts.Side.{Side}
use Rattle.problem_core.specs.declared.parts.Side.TheVariants.{Under, Over}
use Rattle.problem_core.specs.Layout.{Line, Problem, lines}
use Rattle.problem_core.specs.Corners.{IsIn, Swap, exchanged, place, place_of}
use Rattle.problem_core.specs.Levels.{IsCostAt}
use Rattle.corner_laws.specs.Units.{IsLevelRow, IsLevelUnit}
use Rattle.corner_laws.proofs.Exchanged.{exchanged_in}
use Rattle.corner_lines.specs.LineEquations.{IsOutsideLine, deviation, sign_of}
use Rattle.corner_lines.specs.Levels.LevelRows.{IsEnteringNumber, IsLevelExchange, IsPivot, inside_number, line_numbers}
use Rattle.corner_lines.specs.Levels.LevelCosts.{HasDeviation, IsCostStep}
use Rattle.corner_lines.proofs.Lines.LinePivots.{equation_is_pivot, pivot_is_solved}
use Rattle.corner_lines.proofs.Costs.LevelCosts.{exchanged_cost_is_cost}
use Rattle.corner_lines.proofs.Lines.LineWritings.{line_value}
use Rattle.corner_lines.proofs.Lines.MarkForms.{same-name}
use Rattle.corner_exchange.specs.declared.exchange.Exchange.{Exchange}
use Rattle.corner_writings.specs.declared.levels.Pair.{Pair}
use Rattle.corner_table.specs.declared.table.Standing.{Standing}
use Rattle.corner_table.specs.declared.table.TheConstants.{LEVELS}
use Rattle.corner_table.specs.Tables.{Lists, entry, line_slot, marks_at, number, priority_at, problem_of, row_at, standing_at}
use Rattle.corner_table.specs.Kept.{IsKept, IsLevelKept}
use Rattle.corner_exchange.specs.Swaps.Exchanges.{IsLevelBy, IsPair, IsUntouched, marks_after}
use Rattle.corner_writings.specs.Rows.{row_number}
use Rattle.corner_exchange.specs.Swaps.NextLists.{IsLevelNext, over}
use Rattle.corner_table.proofs.Readings.SlotFacts.{any_is, named_slot}
use Rattle.corner_view.proofs.Facts.{same_mark}
use Rattle.corner_table.proofs.Readings.KeptFacts.{value_kept}
use Rattle.corner_table.proofs.Readings.WritingFacts.{number_is}
use Rattle.corner_writings.proofs.LevelFacts.LevelRowFacts.{out_line}
use Rattle.corner_exchange.proofs.Pivots.PairFacts.{entering_number, leave_equation, leave_in, pair_exchange, way_of}
use Rattle.corner_exchange.proofs.Swaps.ExchangedFacts.{IsNext}
use Rattle.frac_core.proofs.Numbers.{neg-times}
use Rattle.problem_core.proofs.Marks.{kept-in as kept_in}
use Rattle.problem_core.proofs.Sides.{none-not-some as not-some}

-- ---- levels that have changed

same-unit : (a b : ℕ) (z : ℤ) → z ≡ pos a → z ≡ pos b → a ≡ b
same-unit a b z e f = ap unsigned_abs (sym e ∙ f)

-- the level's row and cost are new ones
pub level_put : (t : Lists) (at : List Mark) (v : List Standing) (m : List (List Term)) (k : ℕ) (row : List Term) (cost : Fraction) → IsLevelKept t k → (priority_at t k).rows ≢ 0 → IsLevelBy t at k row cost
    → row_at (over t v m) k ≡ row → (standing_at (over t v m) k).value ≡ cost → IsLevelNext (over t v m) at k
level_put t at v m k row cost l some h r c =
    let u : Lists = over t v m in
    record {
      unit = h.unit;
      own = h.own;
      unit_is = h.unit_is;
      own_is = ap (λ (b : Bool). cond b (pos 1) (entry u k k)) (ne_eqb (priority_at t k).rows 0 some) ∙ ap (coefficient k) r ∙ h.own_is;
      rows = l.rows;
      empty = λ z. absurd (some (l.rows ∙ z));
      least = subst (λ n. IsLevelUnit (problem_of t) k n) (same-unit l.unit h.unit (priority_at t k).unit l.unit_is h.unit_is) l.least;
      by = h.by;
      reduced = h.reduced;
      row = h.level_row;
      outside = λ i d within out. h.outside i d within out ∙ ap (λ (x : List Term). row_number t k x (slice_index_or (lines (problem_of t)) i d).name) (sym r);
      reduced_by = h.reduced_by;
      fits = h.fits;
      cost = subst (λ (f : Fraction). IsCostAt (problem_of t) at k f) (sym c) h.cost_is;
    }

-- ---- levels that stay

-- an inside line's number
pub inside_by : (p : Problem) (at : List Mark) (k unit own : ℕ) (by : RowName → ℤ) (side : Side) → IsLevelRow p at k unit own by → All (λ l. IsIn (place_of l.name side) at → by l.name ≡ inside_number side k unit own l) (lines p)
inside_by p at k unit own by Under r = r.under
inside_by p at k unit own by Over r = r.over

-- a level at which neither line of the exchange stands or counts
pub record IsFree (p : Problem) (at : List Mark) (s : Swap) (k unit own : ℕ) (by : RowName → ℤ) : Type 0 where
  pub row : IsLevelRow p at k unit own by
  pub enters : by s.enter.row ≡ pos 0
  pub leaves : by s.leave.row ≡ pos 0
  pub comes : All (λ l. l.name ≡ s.enter.row → inside_number s.enter.side k unit own l ≡ pos 0) (lines p)

free-inside : (p : Problem) (at : List Mark) (s : Swap) (k unit own : ℕ) (by : RowName → ℤ) (side : Side) → IsFree p at s k unit own by → All (λ l. IsIn (place_of l.name side) (exchanged s at) → by l.name ≡ inside_number side k unit own l) (lines p)
free-inside p at s k unit own by side f i d within inside =
    let l : Line = slice_index_or (lines p) i d in
    elim (exchanged_in s at (place_of l.name side) inside) [
      | inl q ↦
          let mark : record { row = l.name; side = side } ≡ s.enter = same_mark (record { row = l.name; side = side }) s.enter q in
          let name : l.name ≡ s.enter.row = ap (λ (x : Mark). x.row) mark in
          ap by name ∙ f.enters ∙ sym (subst (λ (r : Side). inside_number r k unit own l ≡ pos 0) (sym (ap (λ (x : Mark). x.side) mark)) (f.comes i d within name))
      | inr (there, other) ↦ inside_by p at k unit own by side f.row i d within there
    ]

free-lowest : (p : Problem) (at : List Mark) (s : Swap) (k unit own : ℕ) (by : RowName → ℤ) (n : ℕ) (l : Line) → IsFree p at s k unit own by
    → ((IsIn (place_of l.name Under) (exchanged s at) → ⊥) → (IsIn (place_of l.name Over) (exchanged s at) → ⊥) → n ∣ unsigned_abs (by l.name))
    → (IsIn (place_of l.name Under) at → ⊥) → (IsIn (place_of l.name Over) at → ⊥) → n ∣ unsigned_abs (by l.name)
free-lowest p at s k unit own by n l f each under over =
    elim (cases_eq (place_of l.name Under) (place_of s.enter.row Under)) [
      | inl e ↦ subst (λ (z : ℤ). n ∣ unsigned_abs z) (sym (ap by (same-name l.name s.enter.row Under Under e) ∙ f.enters)) (dvd-zero n)
      | inr ne ↦
          let never : (side : Side) → (IsIn (place_of l.name side) at → ⊥) → IsIn (place_of l.name side) (exchanged s at) → ⊥ = λ side no i. elim (exchanged_in s at (place_of l.name side) i) [
            | inl q ↦ ne (ap (λ (r : RowName). place_of r Under) (ap (λ (x : Mark). x.row) (same_mark (record { row = l.name; side = side }) s.enter q)))
            | inr (there, other) ↦ no there
          ] in
          each (never Under under) (never Over over)
    ]

pub free_row : (p : Problem) (at : List Mark) (s : Swap) (k unit own : ℕ) (by : RowName → ℤ) → IsFree p at s k unit own by → IsLevelRow p (exchanged s at) k unit own by
free_row p at s k unit own by f = record {
  own_positive = f.row.own_positive;
  cancel = f.row.cancel;
  under = free-inside p at s k unit own by Under f;
  over = free-inside p at s k unit own by Over f;
  lowest = λ n divides each. f.row.lowest n divides (λ i d within. free-lowest p at s k unit own by n (slice_index_or (lines p) i d) f (each i d within));
}

-- a line that is outside after the exchange was so, or it is the leaving one
pub free_outside : (p : Problem) (at : List Mark) (s : Swap) (number by : RowName → ℤ) → by s.leave.row ≡ pos 0 → number s.leave.row ≡ pos 0
    → All (λ l. IsOutsideLine at l.name → by l.name ≡ number l.name) (lines p) → All (λ l. IsOutsideLine (exchanged s at) l.name → by l.name ≡ number l.name) (lines p)
free_outside p at s number by none gone h i d within out =
    let l : Line = slice_index_or (lines p) i d in
    elim (cases_eq (place_of l.name Under) (place_of s.leave.row Under)) [
      | inl e ↦ let name = same-name l.name s.leave.row Under Under e in ap by name ∙ none ∙ sym (ap number name ∙ gone)
      | inr ne ↦
          let apart : (side : Side) → place_of l.name side ≢ place s.leave = λ side q. ne (ap (λ (r : RowName). place_of r Under) (ap (λ (x : Mark). x.row) (same_mark (record { row = l.name; side = side }) s.leave q))) in
          h i d within (record {
            under = λ inside. out.under (kept_in s at (place_of l.name Under) inside (apart Under));
            over = λ inside. out.over (kept_in s at (place_of l.name Over) inside (apart Over));
          })
    ]

-- ---- the pivot and the cost

-- the leaving line's equation, solved for the entering line
pub pair_pivot : (t : Lists) (pair : Pair) (s : Swap) → IsKept t → IsPair t pair s → (size : ℕ) × (pivot : RowName → ℤ) × IsPivot (problem_of t) (marks_at t) s.enter.row s.leave.row size pivot
pair_pivot t pair s kept are =
    let p : Problem = problem_of t in
    let x : ℤ = entry t pair.leave pair.enter in
    let w = way_of x are.stands in
    let e = leave_equation t pair s kept are in
    let line : RowName → ℤ = line_numbers s.leave.row e.0 (number t pair.leave) in
    let own = equation_is_pivot p (marks_at t) s.leave e.0 (number t pair.leave) (sign_of s.leave.side *ℤ (standing_at t pair.leave).value.num) (standing_at t pair.leave).value.den kept.whole kept.corner (leave_in t pair s are) e.2 in
    let other : place_of s.enter.row Under ≢ place_of s.leave.row Under = λ q. enter_not_leave t pair s are (same-name s.enter.row s.leave.row Under Under q) in
    let there : line s.enter.row ≡ neg_ℤ x = ap (λ b. cond b (neg_ℤ (pos e.0)) (number t pair.leave s.enter.row)) (ne_eqb (place_of s.enter.row Under) (place_of s.leave.row Under) other) ∙ entering_number t pair s are in
    let t0 : ℤ = neg_ℤ (sign_of w.0) in
    let is : t0 *ℤ line s.enter.row ≡ neg_ℤ (pos (unsigned_abs x)) = ap (λ z. t0 *ℤ z) there ∙ neg-times (sign_of w.0) (neg_ℤ x) ∙ ap neg_ℤ (sym w.1.size) in
    (unsigned_abs x, (λ name. t0 *ℤ line name), pivot_is_solved p (marks_at t) s.enter.row s.leave.row e.0 (unsigned_abs x) line t0 own w.1.positive is)
  where
    enter_not_leave : (t : Lists) (pair : Pair) (s : Swap) → IsPair t pair s → s.enter.row ≢ s.leave.row
    enter_not_leave t pair s are e =
        let same : pair.enter ≡ pair.leave = sym are.enter_slot ∙ ap (line_slot t) e ∙ are.leave_slot in
        not-some s.leave.side (sym are.outside ∙ ap (λ w. (standing_at t w).side) same ∙ are.inside)

-- a cost to which nothing is added
pub no_step : (cost value : Fraction) (whole : ℕ) → 0 < cost.den → 0 < value.den → IsCostStep cost (pos 0) whole value cost
no_step cost value whole a b = record {
  cost_den = a;
  value_den = b;
  ratio =
      let d : ℤ = pos whole *ℤ pos value.den in
      let none : pos 0 *ℤ (value.num *ℤ pos cost.den) ≡ pos 0 = zero-mul_ℤ (value.num *ℤ pos cost.den) in
      let left : cost.num *ℤ (pos cost.den *ℤ d) ≡ (cost.num *ℤ d) *ℤ pos cost.den =
      ap (λ z. cost.num *ℤ z) (*ℤ_comm (pos cost.den) d) ∙ sym (mul_assoc_ℤ cost.num d (pos cost.den)) in
      left ∙ sym (ap (λ z. ((cost.num *ℤ d) +ℤ z) *ℤ pos cost.den) none ∙ ap (λ z. z *ℤ pos cost.den) (add-zero_ℤ (cost.num *ℤ d)));
}

-- ---- an untouched level

level-still : (t : Lists) (v : List Standing) (m : List (List Term)) (made : Exchange) (s : Swap) (k : ℕ) → IsNext t v m made s → k < LEVELS → IsUntouched t made.pair s k → row_at (over t v m) k ≡ row_at t k → standing_at (over t v m) k ≡ standing_at t k
    → IsLevelNext (over t v m) (marks_after t s) k
level-still t v m made s k n lt un row st =
    let p : Problem = problem_of t in
    let at : List Mark = marks_at t in
    let u : Lists = over t v m in
    let are = n.is.pair in
    let l = n.kept.levels k lt in
    let by : RowName → ℤ = l.numbers.by in
    let high : LEVELS ≤ line_slot t s.enter.row = (named_slot t s.enter.row n.kept.slots are.enters).0 in
    let lhigh : LEVELS ≤ line_slot t s.leave.row = (named_slot t s.leave.row n.kept.slots are.leaves).0 in
    let out : IsOutsideLine at s.enter.row = out_line t s.enter.row (ap (λ w. (standing_at t w).side) are.enter_slot ∙ are.outside) in
    let number_enter : number t k s.enter.row ≡ pos 0 = number_is t k s.enter.row (λ e. absurd (omega (arith, e, high, lt))) ∙ ap (λ c. neg_ℤ (entry t k c)) are.enter_slot ∙ ap neg_ℤ un.absent in
    let gone : entry t k made.pair.leave ≡ pos 0 = leave-gone t made.pair s k n.kept are lt in
    let number_leave : number t k s.leave.row ≡ pos 0 = number_is t k s.leave.row (λ e. absurd (omega (arith, e, lhigh, lt))) ∙ ap (λ c. neg_ℤ (entry t k c)) are.leave_slot ∙ ap neg_ℤ gone in
    let by_enter : by s.enter.row ≡ pos 0 = any_is (λ (x : Line). IsOutsideLine at x.name → by x.name ≡ number t k x.name) (λ (x : Line). x.name ≡ s.enter.row) (lines p) l.numbers.outside are.enters
    (λ x h e. subst (λ (r : RowName). IsOutsideLine at r → by r ≡ number t k r) e h out) ∙ number_enter in
    let by_leave : by s.leave.row ≡ pos 0 = any_is (λ (x : Line). (IsIn (place_of x.name s.leave.side) at → by x.name ≡ inside_number s.leave.side k l.unit l.own x) × (x.name ≡ s.leave.row → inside_number s.leave.side k l.unit l.own x ≡ pos 0)) (λ (x : Line). x.name ≡ s.leave.row) (lines p)
    (λ i d within. (inside_by p at k l.unit l.own by s.leave.side l.numbers.row i d within, un.goes lt l.unit l.own i d within)) are.leaves
    (λ x h e. ap by (sym e) ∙ h.0 (subst (λ (r : RowName). IsIn (place_of r s.leave.side) at) (sym e) (leave_in t made.pair s are)) ∙ h.1 e) in
    let free : IsFree p at s k l.unit l.own by = record { row = l.numbers.row; enters = by_enter; leaves = by_leave; comes = un.comes lt l.unit l.own } in
    let pivot = pair_pivot t made.pair s n.kept are in
    let ex : IsLevelExchange p at s k l.unit l.own (number t k) pivot.0 pivot.1 = record {
      whole = n.kept.whole;
      corner = n.kept.corner;
      exchange = pair_exchange t made.pair s n.kept are;
      row = record { by = by; row = l.numbers.row; outside = l.numbers.outside };
      pivot_is = pivot.2;
    } in
    let enters : IsEnteringNumber p s.enter k l.unit l.own (number t k) (pos 0) = λ i d within e.
    let x : Line = slice_index_or (lines p) i d in
    let one : number t k x.name ≡ pos 0 = ap (number t k) e ∙ number_enter in
    let two : inside_number s.enter.side k l.unit l.own x ≡ pos 0 = un.comes lt l.unit l.own i d within e in
    sym (ap₂ ◌-ℤ◌ one two) in
    let e = n.is.enters.line in
    let value : Fraction = record { num = sign_of s.enter.side *ℤ made.entering.value.num; den = made.entering.value.den } in
    let has : HasDeviation p (marks_after t s) s.enter.row value = line_value p (marks_after t s) (deviation s.enter.row) e.0 (row_number t made.pair.enter made.entering.row) value.num value.den n.kept.whole (pair_exchange t made.pair s n.kept are).corner e.2 in
    let cost : IsCostAt p (marks_after t s) k (standing_at t k).value =
    exchanged_cost_is_cost p at s k l.unit l.own pivot.0 (number t k) pivot.1 (pos 0) (standing_at t k).value value (standing_at t k).value ex l.least out enters l.cost has
    (no_step (standing_at t k).value value (l.own * l.unit) (value_kept t k n.kept).lowest.above e.2.den_positive) in
    record {
      unit = l.unit;
      own = l.own;
      unit_is = l.unit_is;
      own_is = ap (λ (x : List Term). cond (nat_eq (priority_at t k).rows 0) (pos 1) (coefficient k x)) row ∙ l.own_is;
      rows = l.rows;
      empty = λ z. row ∙ l.empty z;
      least = l.least;
      by = by;
      reduced = l.numbers.reduced;
      row = free_row p at s k l.unit l.own by free;
      outside = λ i d within o. free_outside p at s (number t k) by by_leave number_leave l.numbers.outside i d within o ∙ ap (λ (x : List Term). row_number t k x (slice_index_or (lines p) i d).name) (sym row);
      reduced_by = l.numbers.reduced_by;
      fits = l.numbers.fits;
      cost = subst (λ (x : Standing). IsCostAt p (marks_after t s) k x.value) (sym st) cost;
    }
  where
    decide-zero : (z : ℤ) → (z ≡ pos 0) ⊎ (z ≢ pos 0)
    decide-zero (pos zero) = inl refl
    decide-zero (pos (suc n)) = inr (λ e. omega (arith, ints, e))
    decide-zero (negsuc n) = inr (λ e. omega (arith, ints, e))

    leave-gone : (t : Lists) (pair : Pair) (s : Swap) (k : ℕ) → IsKept t → IsPair t pair s → k < LEVELS → entry t k pair.leave ≡ pos 0
    leave-gone t pair s k kept are lt =
        let high : LEVELS ≤ pair.leave = subst (λ w. LEVELS ≤ w) are.leave_slot (named_slot t s.leave.row kept.slots are.leaves).0 in
        elim (decide-zero (entry t k pair.leave)) [
          | inl none ↦ none
          | inr some ↦ absurd (not-some s.leave.side (sym (kept.outside k pair.leave some (λ e. absurd (omega (arith, e, high, lt)))).1 ∙ are.inside))
        ]

pub exchanged_levels : (t : Lists) (v : List Standing) (m : List (List Term)) (made : Exchange) (s : Swap) (k : ℕ) → IsNext t v m made s → k < LEVELS → IsLevelNext (over t v m) (marks_after t s) k
exchanged_levels t v m made s k n lt =
    let are = n.is.pair in
    let high : LEVELS ≤ made.pair.enter = subst (λ w. LEVELS ≤ w) are.enter_slot (named_slot t s.enter.row n.kept.slots are.enters).0 in
    let lhigh : LEVELS ≤ made.pair.leave = subst (λ w. LEVELS ≤ w) are.leave_slot (named_slot t s.leave.row n.kept.slots are.leaves).0 in
    let ne : k ≢ made.pair.enter = λ e. absurd (omega (arith, e, high, lt)) in
    let nl : k ≢ made.pair.leave = λ e. absurd (omega (arith, e, lhigh, lt)) in
    elim (n.at.others k ne nl) [
      | inl (c, p, here, row, side, value) ↦
          level_put t (marks_after t s) v m k c.row c.value (n.kept.levels k lt) (subst (λ w. (priority_at t w).rows ≢ 0) here (p.some (subst (λ w. w < LEVELS) (sym here) lt)))
          (subst (λ w. IsLevelBy t (marks_after t s) w c.row c.value) here (p.row_is.0 (subst (λ w. w < LEVELS) (sym here) lt))) row value
      | inr (none, row, st) ↦ level-still t v m made s k n lt (n.is.rest k (omega (arith, lt, n.kept.slots.levels)) ne nl none) row st
    ]
