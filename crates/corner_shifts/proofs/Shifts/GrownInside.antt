-- The value of an inside line's mark grows, and the cost of its level.
use Rattle.std.proofs.Common.{◌≡◌, ◌≢◌, ◌∙◌, ℕ, ◌+◌, ◌<◌, ◌≤◌, cond, Bool, nat_eq, List, length, refl, sym, ap, subst, arith, inl, inr, ℤ, pos, negsuc, ◌*ℤ◌, ◌<ℤ◌, slice_index_or, slice_set, Any, Some, eq-eqb, ne_eqb}
use Rattle.std.proofs.lemmas.Bool.{cases_eq}
use Rattle.std.proofs.lemmas.List.{get_or-set_same, get_or-set_other, length-set}
use Rattle.std.proofs.lemmas.List.Elements.{All-set}
use Rattle.std.specs.declared.option.Option.{Option}
use lib.IntN.{*ℤ_comm}
use borrow.Author.Differences.{ints}
use Rattle.frac_core.specs.Fraction.{Fraction, IsFitting, IsRatio, IsUnfitRatio, sum_den, sum_num}
use Rattle.frac_core.specs.Fraction as fractions
use Rattle.frac_core.proofs.Integers.{cancel_mul, mul_assoc_ℤ, mul_positive}
use Rattle.frac_core.proofs.Made.{same_fraction}
use Rattle.problem_core.specs.declared.parts.RowName.{RowName}
use Rattle.problem_core.specs.declared.parts.RowName.TheVariants.{Held}
use Rattle.problem_core.specs.declared.parts.Side.{Side}
use Rattle.problem_core.specs.declared.parts.Side.TheVariants.{Under, Over}
use Rattle.problem_core.specs.Changes.Stops.{TableStop}
use Rattle.frac_core.specs.declared.memory.Stop.TheVariants.{Refused, OutOfMemory as NoMemory}
use Rattle.problem_core.specs.Corners.{Swap}
use Rattle.problem_core.specs.Layout.{lines}
use Rattle.corner_laws.specs.Runs.{other_side}
use Rattle.corner_shifts.specs.declared.shifting.Growth.{Growth}
use Rattle.corner_view.specs.declared.types.Owner.TheVariants.{Line as LineSlot}
use Rattle.corner_table.specs.declared.table.Standing.{Standing}
use Rattle.corner_table.specs.declared.table.TheConstants.{LEVELS}
use Rattle.corner_exchange.specs.Swaps.Exchanges.{with_value}
use Rattle.corner_table.specs.Joining.{at_zero}
use Rattle.corner_table.specs.Kept.{AreSlots, IsKept, IsLineSlot, IsSlot, home_of}
use Rattle.corner_table.specs.Reads.LevelNumbers.{IsSlotOfLine, count_of, unit_at}
use Rattle.corner_shifts.specs.Shifting.{AreGrown, HaveGrown, IsGrowStop, IsGrowth, IsGrown, IsGrownValueStop, IsThere, growth_at, growth_by, home_growth, inside_growth, mark_growth, with_standings}
use Rattle.corner_table.specs.Tables.{Lists, line_slot, problem_of, slot_at, standing_at}
use Rattle.corner_exchange.specs.Swaps.TurnedLevels.{IsTurn, counts_at}
use Rattle.corner_view.specs.Seen.{IsNamed}
use Rattle.corner_shifts.proofs.Shifts.GrownLists.{there_before}
use Rattle.corner_table.proofs.Readings.KeptFacts.{value_kept}
use Rattle.corner_exchange.proofs.Pivots.LevelCosts.{unit_above, unit_fits}
use Rattle.corner_writings.proofs.LevelFacts.LevelNumberFacts.{AreLevelsOf, named_line}
use Rattle.corner_table.proofs.Readings.MarkingFacts.{row_named}
use Rattle.corner_exchange.proofs.Swaps.PutFacts.{standing_slots}
use Rattle.corner_table.proofs.Readings.SlotFacts.{any_is}
use Rattle.corner_exchange.proofs.Basics.SumTurns.{nothing-added}
use Rattle.corner_exchange.proofs.Swaps.TurnedChanges.{counts_there}
use Rattle.corner_writings.proofs.LevelFacts.LevelRowFacts.{unit-below as unit-there}
use Rattle.corner_shifts.proofs.Shifts.ShiftValues.{no-zero as sign-some}
use Rattle.corner_shifts.proofs.Shifts.ShiftGrowths.{own_growth as at-line}

-- ---- the line

pub line_owner : (t : Lists) (line : ℕ) → AreSlots t → IsSlotOfLine t line → (name : RowName) × ((slot_at t line).owner ≡ LineSlot name)
line_owner t line slots is =
    any_is (IsLineSlot t) (λ l. line_slot t l.name ≡ line) (lines (problem_of t)) slots.lines is
    (λ l s e. (l.name, subst (λ (w : ℕ). (slot_at t w).owner ≡ LineSlot l.name) e s.owner))

pub held_named : (t : Lists) (id : ℕ) → Any (λ r. r.id ≡ id) t.rows → IsNamed (problem_of t) (Held id)
held_named t id (k, r, within, is, own) = subst (λ (i : ℕ). IsNamed (problem_of t) (Held i)) own (row_named (problem_of t) k r within is)

-- a row's level is a priority level
pub home_low : (t : Lists) (id : ℕ) → IsKept t → IsNamed (problem_of t) (Held id) → (slot_at t (line_slot t (Held id))).home < LEVELS
home_low t id kept is =
    named_line t (Held id) kept is (λ l known e.
    let home : (slot_at t (line_slot t (Held id))).home ≡ l.level = subst (λ (n : RowName). (slot_at t (line_slot t n)).home ≡ home_of t l n) e known.slot.home in
    let most : l.level ≤ 1000 = subst (λ (n : RowName). AreLevelsOf n l.level) e known.levels in
    omega (arith, home, most))

-- its other mark can come inside
can-turn : (t : Lists) (line : ℕ) (side : Side) → IsSlotOfLine t line → (standing_at t line).side ≡ Some side → (s : Swap) × IsTurn t line (other_side side) s
can-turn t line side (k, l, within, is, e) inside = (
  record { enter = record { row = l.name; side = other_side side }; leave = record { row = l.name; side = side } },
  record {
    enters = (k, l, within, is, refl);
    slot = e;
    side_is = refl;
    row = refl;
    sides = refl;
    inside = inside;
  },
)

part-fits : (t : Lists) (line : ℕ) (side : Side) → IsFitting (pos (counts_at t line)) → IsFitting (pos (count_of t (slot_at t line) side))
part-fits t line Under h = left-fits (count_of t (slot_at t line) Under) (count_of t (slot_at t line) Over) h
  where
    left-fits : (a b : ℕ) → IsFitting (pos (a + b)) → IsFitting (pos a)
    left-fits a b h = omega (arith, h)
part-fits t line Over h = right-fits (count_of t (slot_at t line) Under) (count_of t (slot_at t line) Over) h
  where
    right-fits : (a b : ℕ) → IsFitting (pos (a + b)) → IsFitting (pos b)
    right-fits a b h = omega (arith, h)

pub count_fits : (t : Lists) (line : ℕ) (side : Side) → IsKept t → IsSlotOfLine t line → (standing_at t line).side ≡ Some side → (slot_at t line).home < LEVELS → IsFitting (pos (count_of t (slot_at t line) side))
count_fits t line side kept is inside low =
    let turn = can-turn t line side is inside in
    part-fits t line side (counts_there t line (other_side side) turn.0 kept turn.1 low)

pub home_unit_above : (t : Lists) (w : ℕ) → IsKept t → w < LEVELS → pos 0 <ℤ unit_at t w
home_unit_above t w kept low = subst (λ (z : ℤ). pos 0 <ℤ z) (sym (unit-there t w low)) (unit_above t w kept low)

pub home_unit_fits : (t : Lists) (w : ℕ) → IsKept t → w < LEVELS → IsFitting (unit_at t w)
home_unit_fits t w kept low = subst IsFitting (sym (unit-there t w low)) (unit_fits t w kept low)

pub home_grown : (t u : Lists) (line w : ℕ) (side : Side) (by : Growth) (more : Fraction) → w ≡ (slot_at t line).home → by ≡ home_growth t line side → IsGrown t w by more u
    → IsGrown t (slot_at t line).home (home_growth t line side) more u
home_grown t u line w side by more at is grown =
    subst (λ (k : ℕ). IsGrown t k (home_growth t line side) more u) at (subst (λ (g : Growth). IsGrown t w g more u) is grown)

-- ---- values that don't grow

-- a value to which nothing is added, in lowest terms
same-value : (a f t : Fraction) (n d : ℤ) → fractions.IsKept a → fractions.IsKept f → pos 0 <ℤ d → 0 < t.den → n ≡ pos 0 → IsRatio f (sum_num a n d t) (sum_den a d t) → f ≡ a
same-value a f t n d low_a low_f above some none ratio = same_fraction f a low_f.lowest low_a.lowest (same-cross f.num f.den a.num a.den (sum_num a n d t) (sum_den a d t) ratio (nothing-added a t n d (inl none)) (sum-some a d t low_a.lowest.above above some))
  where
    sum-some : (a : Fraction) (d : ℤ) (t : Fraction) → 0 < a.den → pos 0 <ℤ d → 0 < t.den → pos 0 <ℤ sum_den a d t
    sum-some a d t x y z = mul_positive a.den (d *ℤ pos t.den) x (subst (λ (k : ℤ). pos 0 <ℤ k) (*ℤ_comm (pos t.den) d) (mul_positive t.den d z y))

    moved : (z : ℤ) (g s : ℕ) → pos g *ℤ (z *ℤ pos s) ≡ (z *ℤ pos g) *ℤ pos s
    moved z g s = sym (mul_assoc_ℤ (pos g) z (pos s)) ∙ ap (λ (x : ℤ). x *ℤ pos s) (*ℤ_comm (pos g) z)

    turned : (m : ℤ) (q s : ℕ) → (m *ℤ pos q) *ℤ pos s ≡ (m *ℤ pos s) *ℤ pos q
    turned m q s = mul_assoc_ℤ m (pos q) (pos s) ∙ ap (λ (x : ℤ). m *ℤ x) (*ℤ_comm (pos q) (pos s)) ∙ sym (mul_assoc_ℤ m (pos s) (pos q))

    same-cross : (p : ℤ) (q : ℕ) (r : ℤ) (s : ℕ) (m k : ℤ) → p *ℤ k ≡ m *ℤ pos q → r *ℤ k ≡ m *ℤ pos s → pos 0 <ℤ k → p *ℤ pos s ≡ r *ℤ pos q
    same-cross p q r s m (pos g) e f above =
        cancel_mul g (p *ℤ pos s) (r *ℤ pos q) (omega (arith, ints, above))
        (moved p g s ∙ ap (λ (x : ℤ). x *ℤ pos s) e ∙ turned m q s ∙ ap (λ (x : ℤ). x *ℤ pos q) (sym f) ∙ sym (moved r g q))
    same-cross p q r s m (negsuc g) e f above = absurd (omega (arith, ints, above))

-- ---- the numbers by slots

inside-growth : (t : Lists) (line : ℕ) (side : Side) (w : ℕ) → (standing_at t line).side ≡ Some side → growth_at t line w ≡ inside_growth t line side w
inside-growth t line side w inside = ap (λ (i : Option Side). growth_by t line i w) inside

off-line : (t : Lists) (line : ℕ) (side : Side) (w : ℕ) → w ≢ line → inside_growth t line side w ≡ cond (nat_eq w (slot_at t line).home) (home_growth t line side) (record { n = pos 0; d = pos 1 })
off-line t line side w ne = ap (λ (b : Bool). cond b (mark_growth side) (cond (nat_eq w (slot_at t line).home) (home_growth t line side) (record { n = pos 0; d = pos 1 }))) (ne_eqb w line ne)

at-home : (t : Lists) (line : ℕ) (side : Side) (w : ℕ) → w ≢ line → w ≡ (slot_at t line).home → inside_growth t line side w ≡ home_growth t line side
at-home t line side w ne e = off-line t line side w ne ∙ ap (λ (b : Bool). cond b (home_growth t line side) (record { n = pos 0; d = pos 1 })) (eq-eqb w (slot_at t line).home e)

elsewhere : (t : Lists) (line : ℕ) (side : Side) (w : ℕ) → w ≢ line → w ≢ (slot_at t line).home → (inside_growth t line side w).n ≡ pos 0
elsewhere t line side w ne other = ap (λ (by : Growth). by.n) (off-line t line side w ne ∙ ap (λ (b : Bool). cond b (home_growth t line side) (record { n = pos 0; d = pos 1 })) (ne_eqb w (slot_at t line).home other))

-- ---- both

-- the standing with another value
abbrev valued : Standing → Fraction → Standing
valued s value = record { side = s.side; value = value }

-- the standings with another value at the slot
abbrev put : List Standing → ℕ → Fraction → List Standing
put ss w value = slice_set ss w (valued (slice_index_or ss w at_zero) value)

put-here : (ss : List Standing) (w : ℕ) (value : Fraction) → w < length ss → slice_index_or (put ss w value) w at_zero ≡ valued (slice_index_or ss w at_zero) value
put-here ss w value within = get_or-set_same ss w (valued (slice_index_or ss w at_zero) value) at_zero within

put-other : (ss : List Standing) (w v : ℕ) (value : Fraction) → v ≢ w → slice_index_or (put ss w value) v at_zero ≡ slice_index_or ss v at_zero
put-other ss w v value ne = get_or-set_other ss w v (valued (slice_index_or ss w at_zero) value) at_zero ne

put-sides : (ss : List Standing) (w v : ℕ) (value : Fraction) → w < length ss → (slice_index_or (put ss w value) v at_zero).side ≡ (slice_index_or ss v at_zero).side
put-sides ss w v value within =
    elim (cases_eq v w) [
      | inl e ↦ subst (λ (k : ℕ). (slice_index_or (put ss w value) k at_zero).side ≡ (slice_index_or ss k at_zero).side) (sym e) (ap (λ (s : Standing). s.side) (put-here ss w value within))
      | inr ne ↦ ap (λ (s : Standing). s.side) (put-other ss w v value ne)
    ]

put-count : (ss : List Standing) (w : ℕ) (value : Fraction) → length (put ss w value) ≡ length ss
put-count ss w value = length-set ss w (valued (slice_index_or ss w at_zero) value)

-- what both values are
record AreBoth (t : Lists) (line : ℕ) (side : Side) (more cost value : Fraction) : Type 0 where
  kept : IsKept t
  more_positive : 0 < more.den
  inside : (standing_at t line).side ≡ Some side
  within : line < length t.slots
  high : LEVELS ≤ line
  low : (slot_at t line).home < LEVELS
  cost_kept : fractions.IsKept cost
  cost_is : IsGrowth (standing_at t (slot_at t line).home).value (home_growth t line side) more cost
  value_kept : fractions.IsKept value
  value_is : IsGrowth (standing_at t line).value (mark_growth side) more value

both-grown : (t : Lists) (line : ℕ) (side : Side) (more cost value : Fraction) → AreBoth t line side more cost value → AreGrown t line more (put (put t.standings (slot_at t line).home cost) line value)
both-grown t line side more cost value h = record {
  count = put-count one line value ∙ put-count t.standings home cost;
  values = All-set (λ (s : Standing). fractions.IsKept s.value) one line (valued (slice_index_or one line at_zero) value) h.value_kept
      (All-set (λ (s : Standing). fractions.IsKept s.value) t.standings home (valued (standing_at t home) cost) h.cost_kept h.kept.values);
  sides = λ w. put-sides one line w value there ∙ put-sides t.standings home w cost here;
  grown = λ w some.
      subst (λ (by : Growth). IsGrowth (standing_at t w).value by more (slice_index_or two w at_zero).value) (sym (inside-growth t line side w h.inside))
      (grows w (subst (λ (by : Growth). by.n ≢ pos 0) (inside-growth t line side w h.inside) some));
  others = λ w none. stays w (ap (λ (by : Growth). by.n) (sym (inside-growth t line side w h.inside)) ∙ none);
}
  where
    home : ℕ
    home = (slot_at t line).home

    one : List Standing
    one = put t.standings home cost

    two : List Standing
    two = put one line value

    here : home < length t.standings
    here = let low : home < LEVELS = h.low in let high : LEVELS ≤ line = h.high in let within : line < length t.slots = h.within in omega (arith, low, high, within, h.kept.slots.standings)

    there : line < length one
    there = let within : line < length t.slots = h.within in omega (arith, within, h.kept.slots.standings, put-count t.standings home cost)

    apart : home ≢ line
    apart e = let low : home < LEVELS = h.low in let high : LEVELS ≤ line = h.high in absurd (omega (arith, low, high, e))

    line-is : (slice_index_or two line at_zero).value ≡ value
    line-is = ap (λ (s : Standing). s.value) (put-here one line value there)

    home-is : slice_index_or two home at_zero ≡ valued (standing_at t home) cost
    home-is = put-other one line home value apart ∙ put-here t.standings home cost here

    at-mark : (w : ℕ) → w ≡ line → IsGrowth (standing_at t w).value (inside_growth t line side w) more (slice_index_or two w at_zero).value
    at-mark w e =
        subst (λ (k : ℕ). IsGrowth (standing_at t k).value (inside_growth t line side k) more (slice_index_or two k at_zero).value) (sym e)
        (subst (λ (by : Growth). IsGrowth (standing_at t line).value by more (slice_index_or two line at_zero).value) (sym (at-line t line side))
        (subst (λ (f : Fraction). IsGrowth (standing_at t line).value (mark_growth side) more f) (sym line-is) h.value_is))

    at-cost : (w : ℕ) → w ≢ line → w ≡ home → IsGrowth (standing_at t w).value (inside_growth t line side w) more (slice_index_or two w at_zero).value
    at-cost w ne e =
        subst (λ (by : Growth). IsGrowth (standing_at t w).value by more (slice_index_or two w at_zero).value) (sym (at-home t line side w ne e))
        (subst (λ (k : ℕ). IsGrowth (standing_at t k).value (home_growth t line side) more (slice_index_or two k at_zero).value) (sym e)
        (subst (λ (s : Standing). IsGrowth (standing_at t home).value (home_growth t line side) more s.value) (sym home-is) h.cost_is))

    grows : (w : ℕ) → (inside_growth t line side w).n ≢ pos 0 → IsGrowth (standing_at t w).value (inside_growth t line side w) more (slice_index_or two w at_zero).value
    grows w some =
        elim (cases_eq w line) [
          | inl e ↦ at-mark w e
          | inr ne ↦ elim (cases_eq w home) [
            | inl e ↦ at-cost w ne e
            | inr other ↦ absurd (some (elsewhere t line side w ne other))
          ]
        ]

    cost-stays : (home_growth t line side).n ≡ pos 0 → cost ≡ (standing_at t home).value
    cost-stays none =
        same-value (standing_at t home).value cost more (home_growth t line side).n (home_growth t line side).d (value_kept t home h.kept) h.cost_kept (home_unit_above t home h.kept h.low) h.more_positive none h.cost_is

    stays : (w : ℕ) → (inside_growth t line side w).n ≡ pos 0 → slice_index_or two w at_zero ≡ standing_at t w
    stays w none =
        elim (cases_eq w line) [
          | inl e ↦ absurd (sign-some side (ap (λ (by : Growth). by.n) (sym (at-line t line side)) ∙ ap (λ (k : ℕ). (inside_growth t line side k).n) (sym e) ∙ none))
          | inr ne ↦ elim (cases_eq w home) [
            | inl e ↦
                subst (λ (k : ℕ). slice_index_or two k at_zero ≡ standing_at t k) (sym e)
                (home-is ∙ ap (valued (standing_at t home)) (cost-stays (ap (λ (by : Growth). by.n) (sym (at-home t line side w ne e)) ∙ none)))
            | inr other ↦ put-other one line w value ne ∙ put-other t.standings home w cost other
          ]
        ]

-- the lists after both
pub both_grown : (t u v : Lists) (line : ℕ) (side : Side) (more : Fraction) → IsKept t → 0 < more.den → IsSlot t line → (standing_at t line).side ≡ Some side → (slot_at t line).home < LEVELS
    → IsGrown t (slot_at t line).home (home_growth t line side) more u → IsGrown u line (mark_growth side) more v → HaveGrown t line more v
both_grown t u v line side more kept positive slot inside low (cost, cost-kept, cost-is, first) (value, value-kept, value-is, second) =
    let two : List Standing = put (put t.standings (slot_at t line).home cost) line value in
    let same : v ≡ with_standings two t = second ∙ ap (λ (x : Lists). with_value x line value) first in
    let before : IsGrowth (standing_at t line).value (mark_growth side) more value =
    subst (λ (s : Standing). IsGrowth s.value (mark_growth side) more value) (put-other t.standings (slot_at t line).home line cost (λ e. let h : LEVELS ≤ line = slot.0 in absurd (omega (arith, e, low, h))))
    (subst (λ (x : Lists). IsGrowth (standing_at x line).value (mark_growth side) more value) first value-is) in
    subst (HaveGrown t line more) (sym same) (
      both-grown t line side more cost value (record {
        kept = kept;
        more_positive = positive;
        inside = inside;
        within = slot.1;
        high = slot.0;
        low = low;
        cost_kept = cost-kept;
        cost_is = cost-is;
        value_kept = value-kept;
        value_is = before;
      }),
      refl,
    )

-- ---- after the first

-- the slots and the line are as before
pub home_slots : (t u : Lists) (line : ℕ) (by : Growth) (more : Fraction) → AreSlots t → IsGrown t (slot_at t line).home by more u → AreSlots u
home_slots t u line by more slots grown = subst AreSlots (sym grown.3) (standing_slots t (slot_at t line).home (valued (standing_at t (slot_at t line).home) grown.0) slots)

pub home_slot : (t u : Lists) (line w : ℕ) (by : Growth) (more : Fraction) → IsGrown t (slot_at t line).home by more u → slot_at u w ≡ slot_at t w
home_slot t u line w by more grown = ap (λ (x : Lists). slot_at x w) grown.3

-- ---- what doesn't fit

some-unfit : (a t : Fraction) (by : Growth) → fractions.IsKept a → IsUnfitRatio (sum_num a by.n by.d t) (sum_den a by.d t) → by.n ≢ pos 0
some-unfit a t by kept unfit none = unfit a kept.lowest (nothing-added a t by.n by.d (inl none)) kept.fits

pub home_stop : (t : Lists) (line : ℕ) (side : Side) (more : Fraction) (stop : TableStop) → IsKept t → IsSlot t line → (standing_at t line).side ≡ Some side → (slot_at t line).home < LEVELS
    → IsGrowStop t (slot_at t line).home (home_growth t line side) more stop → IsGrownValueStop t line more stop
home_stop t line side more NoMemory kept slot inside low stop = tt
home_stop t line side more (Refused quantity) kept slot inside low (what, there, names, unfit) =
    let home : ℕ = (slot_at t line).home in
    let high : LEVELS ≤ line = slot.0 in
    let same : growth_at t line (slot_at t line).home ≡ home_growth t line side = inside-growth t line side home inside ∙ at-home t line side home (λ e. absurd (omega (arith, e, low, high))) refl in (
      home,
      what,
      (let within : line < length t.slots = slot.1 in omega (arith, low, high, within)),
      subst (λ (by : Growth). by.n ≢ pos 0) (sym same) (some-unfit (standing_at t home).value more (home_growth t line side) (value_kept t home kept) unfit),
      there,
      names,
      subst (λ (by : Growth). IsUnfitRatio (sum_num (standing_at t home).value by.n by.d more) (sum_den (standing_at t home).value by.d more)) (sym same) unfit,
    )

pub mark_stop : (t u : Lists) (line : ℕ) (side : Side) (more : Fraction) (stop : TableStop) → IsKept t → IsSlot t line → (standing_at t line).side ≡ Some side → (slot_at t line).home < LEVELS
    → IsGrown t (slot_at t line).home (home_growth t line side) more u → IsGrowStop u line (mark_growth side) more stop → IsGrownValueStop t line more stop
mark_stop t u line side more NoMemory kept slot inside low grown stop = tt
mark_stop t u line side more (Refused quantity) kept slot inside low (cost, cost-kept, cost-is, first) (what, there, names, unfit) =
    let high : LEVELS ≤ line = slot.0 in
    let before = put-other t.standings (slot_at t line).home line cost (λ e. absurd (omega (arith, e, low, high))) in
    let same : growth_at t line line ≡ mark_growth side = inside-growth t line side line inside ∙ at-line t line side in (
      line,
      what,
      slot.1,
      subst (λ (by : Growth). by.n ≢ pos 0) (sym same) (sign-some side),
      there_before t (put t.standings (slot_at t line).home cost) line what (ap (λ (s : Standing). s.side) before) (subst (λ (x : Lists). IsThere x line what) first there),
      names,
      subst (λ (by : Growth). IsUnfitRatio (sum_num (standing_at t line).value by.n by.d more) (sum_den (standing_at t line).value by.d more)) (sym same)
          (subst (λ (s : Standing). IsUnfitRatio (sum_num s.value (mark_growth side).n (mark_growth side).d more) (sum_den s.value (mark_growth side).d more)) before
          (subst (λ (x : Lists). IsUnfitRatio (sum_num (standing_at x line).value (mark_growth side).n (mark_growth side).d more) (sum_den (standing_at x line).value (mark_growth side).d more)) first unfit)),
    )
