-- The values of an outside line's column grow one by one.
use Rattle.std.proofs.Common.{◌≡◌, ◌≢◌, ◌∙◌, ℕ, ◌+◌, ◌<◌, ◌≤◌, List, [], ◌∷◌, length, refl, sym, ap, subst, arith, inl, inr, ℤ, pos, neg_ℤ, ◌*ℤ◌, slice_index_or, slice_set, All, AllPairs, Contains, Some, None}
use Rattle.std.proofs.lemmas.Bool.{cases_eq}
use Rattle.std.proofs.lemmas.List.{get_or_default, get_or-set_same, get_or-set_other, length-set}
use Rattle.std.proofs.lemmas.List.Elements.{All-contains, All-set}
use Rattle.std.specs.declared.option.Option.{Option}
use borrow.Author.Differences.{ints}
use Rattle.frac_core.specs.Fraction.{Fraction, IsUnfitRatio, sum_den, sum_num}
use Rattle.frac_core.specs.Fraction as fractions
use Rattle.frac_core.proofs.Integers.{mul-zero_ℤ}
use Rattle.row_core.specs.Rows.{Term}
use Rattle.version_lists.specs.Indexes.{IsColumnOf}
use Rattle.problem_core.specs.declared.parts.Side.{Side}
use Rattle.problem_core.specs.declared.parts.Side.TheVariants.{Under, Over}
use Rattle.problem_core.specs.declared.stops.What.{What}
use Rattle.problem_core.specs.Changes.Stops.{TableStop}
use Rattle.frac_core.specs.declared.memory.Stop.TheVariants.{Refused, OutOfMemory as NoMemory}
use Rattle.corner_shifts.specs.declared.shifting.Growth.{Growth}
use Rattle.corner_view.specs.declared.types.Owner.{Owner}
use Rattle.corner_view.specs.declared.types.Owner.TheVariants.{Level as LevelSlot, Attr as AttrSlot, Line as LineSlot}
use Rattle.corner_table.specs.declared.table.Standing.{Standing}
use Rattle.corner_exchange.specs.Swaps.Exchanges.{IsWhatOf}
use Rattle.corner_table.specs.Kept.{AreSlots, IsKept}
use Rattle.corner_table.specs.Joining.{at_zero}
use Rattle.corner_shifts.specs.Shifting.{CanGrow, HaveGrown, IsGrowStop, IsGrowth, IsGrown, IsGrownValueStop, IsThere, growth_at, growth_by, outside_growth, sign_at, sign_there, with_standings}
use Rattle.corner_table.specs.Tables.{IsSign, Lists, entry, slot_at, standing_at}
use Rattle.corner_shifts.proofs.Shifts.GrownSlots.{can_grow}
use Rattle.corner_table.proofs.Basics.ListFacts.{further}
use Rattle.corner_exchange.proofs.Swaps.NextFacts.{over_slots}
use Rattle.corner_table.proofs.Corners.NewTables.{less_or}
use Rattle.frac_core.proofs.Lists.{pairs-rest}
use Rattle.corner_laws.proofs.Counting.{head_pairs as pairs-first}
use Rattle.corner_writings.proofs.Basics.SmallFacts.{behind}

-- no one of the first n slots is this one
abbrev pub IsNoFirst : ℕ → List ℕ → ℕ → Type 0
IsNoFirst n slots w = (k : ℕ) → k < n → k < length slots → slice_index_or slots k 0 ≢ w

-- the values of the first n slots have grown; all else is as before
pub record HaveFirstGrown (n : ℕ) (t : Lists) (line : ℕ) (more : Fraction) (slots : List ℕ) (standings : List Standing) : Type 0 where
  pub count : length standings ≡ length t.standings
  pub values : All (λ s. fractions.IsKept s.value) standings
  pub sides : (w : ℕ) → (slice_index_or standings w at_zero).side ≡ (standing_at t w).side
  pub first : (k : ℕ) → k < n → k < length slots
      → IsGrowth (standing_at t (slice_index_or slots k 0)).value (outside_growth t line (slice_index_or slots k 0)) more (slice_index_or standings (slice_index_or slots k 0) at_zero).value
  pub others : (w : ℕ) → IsNoFirst n slots w → slice_index_or standings w at_zero ≡ standing_at t w

abbrev pub AreFirstGrown : ℕ → Lists → ℕ → Fraction → List ℕ → Lists → Type 0
AreFirstGrown n t line more slots u = HaveFirstGrown n t line more slots u.standings × (u ≡ with_standings u.standings t)

pub none_grown : (t : Lists) (line : ℕ) (more : Fraction) (slots : List ℕ) → IsKept t → AreFirstGrown 0 t line more slots t
none_grown t line more slots kept = (
  record {
    count = refl;
    values = kept.values;
    sides = λ w. refl;
    first = λ k lt within. absurd (omega (arith, lt));
    others = λ w never. refl;
  },
  refl,
)

-- ---- the next one

earlier-apart : (n k : ℕ) (slots : List ℕ) → AllPairs (λ v w. v < w) slots → k < n → n < length slots → slice_index_or slots k 0 ≢ slice_index_or slots n 0
earlier-apart n k slots rising lt within e = let less = rising k n 0 lt within in absurd (omega (arith, less, e))

-- where sides are as before, the slot's value grows as much
same-sign : (t : Lists) (standings : List Standing) (w : ℕ) → (slice_index_or standings w at_zero).side ≡ (standing_at t w).side → sign_at (with_standings standings t) w ≡ sign_at t w
same-sign t standings w e = ap (sign_there (slot_at t w).owner) e

pub same_growth : (t : Lists) (standings : List Standing) (line w : ℕ) → (slice_index_or standings w at_zero).side ≡ (standing_at t w).side
    → outside_growth (with_standings standings t) line w ≡ outside_growth t line w
same_growth t standings line w e = ap (λ (z : ℤ). record { n = neg_ℤ (z *ℤ entry t w line); d = (outside_growth t line w).d }) (same-sign t standings w e)

next-grown : (n : ℕ) (t : Lists) (line : ℕ) (more : Fraction) (slots : List ℕ) (standings : List Standing) (value : Fraction) → AllPairs (λ v w. v < w) slots → n < length slots
    → slice_index_or slots n 0 < length t.standings → HaveFirstGrown n t line more slots standings → fractions.IsKept value
    → IsGrowth (slice_index_or standings (slice_index_or slots n 0) at_zero).value (outside_growth (with_standings standings t) line (slice_index_or slots n 0)) more value
    → HaveFirstGrown (n + 1) t line more slots (slice_set standings (slice_index_or slots n 0) (record { side = (slice_index_or standings (slice_index_or slots n 0) at_zero).side; value = value }))
next-grown n t line more slots standings value rising within below h kept growth = record {
  count = length-set standings w y ∙ h.count;
  values = All-set (λ (s : Standing). fractions.IsKept s.value) standings w y kept h.values;
  sides = λ v. elim (cases_eq v w) [
    | inl e ↦
        subst (λ (k : ℕ). (slice_index_or (slice_set standings w y) k at_zero).side ≡ (standing_at t k).side) (sym e)
        (ap (λ (s : Standing). s.side) (get_or-set_same standings w y at_zero there) ∙ h.sides w)
    | inr ne ↦ ap (λ (s : Standing). s.side) (get_or-set_other standings w v y at_zero ne) ∙ h.sides v
  ];
  first = λ k lt few. elim (less_or n k (omega (arith, lt))) [
    | inl less ↦
        subst (λ (s : Standing). IsGrowth (standing_at t (slice_index_or slots k 0)).value (outside_growth t line (slice_index_or slots k 0)) more s.value)
        (sym (get_or-set_other standings w (slice_index_or slots k 0) y at_zero (earlier-apart n k slots rising less within))) (h.first k less few)
    | inr e ↦
        subst (λ (j : ℕ). IsGrowth (standing_at t (slice_index_or slots j 0)).value (outside_growth t line (slice_index_or slots j 0)) more (slice_index_or (slice_set standings w y) (slice_index_or slots j 0) at_zero).value) (sym e) here
  ];
  others = λ v never. get_or-set_other standings w v y at_zero (λ e. never n (omega arith) within (sym e)) ∙ h.others v (λ k lt few. never k (omega (arith, lt)) few);
}
  where
    w : ℕ
    w = slice_index_or slots n 0

    y : Standing
    y = record { side = (slice_index_or standings w at_zero).side; value = value }

    there : w < length standings
    there = omega (arith, below, h.count)

    before : slice_index_or standings w at_zero ≡ standing_at t w
    before = h.others w (λ k lt few. earlier-apart n k slots rising lt within)

    here : IsGrowth (standing_at t w).value (outside_growth t line w) more (slice_index_or (slice_set standings w y) w at_zero).value
    here =
        subst (λ (s : Standing). IsGrowth (standing_at t w).value (outside_growth t line w) more s.value) (sym (get_or-set_same standings w y at_zero there))
        (subst (λ (s : Standing). IsGrowth s.value (outside_growth t line w) more value) before
        (subst (λ (by : Growth). IsGrowth (slice_index_or standings w at_zero).value by more value) (same_growth t standings line w (h.sides w)) growth))

-- the lists after the next slot's value has grown
pub next_grown : (n w : ℕ) (t : Lists) (line : ℕ) (more : Fraction) (slots : List ℕ) (u v : Lists) → AllPairs (λ v w. v < w) slots → n < length slots → w ≡ slice_index_or slots n 0 → w < length t.standings
    → AreFirstGrown n t line more slots u → IsGrown u w (outside_growth u line w) more v → AreFirstGrown (n + 1) t line more slots v
next_grown n w t line more slots u v rising within is below h grown =
    let kept : fractions.IsKept grown.0 = grown.1 in
    let growth : IsGrowth (slice_index_or u.standings w at_zero).value (outside_growth (with_standings u.standings t) line w) more grown.0 =
    subst (λ (x : Lists). IsGrowth (slice_index_or u.standings w at_zero).value (outside_growth x line w) more grown.0) h.1 grown.2 in
    let step = subst (λ (k : ℕ). k < length t.standings → IsGrowth (slice_index_or u.standings k at_zero).value (outside_growth (with_standings u.standings t) line k) more grown.0
    → HaveFirstGrown (n + 1) t line more slots (slice_set u.standings k (record { side = (slice_index_or u.standings k at_zero).side; value = grown.0 }))) (sym is)
    (λ lt g. next-grown n t line more slots u.standings grown.0 rising within lt h.0 kept g) in
    let standings : List Standing = slice_set u.standings w (record { side = (slice_index_or u.standings w at_zero).side; value = grown.0 }) in
    let same : v ≡ with_standings standings t = grown.3 ∙ ap (λ (x : Lists). with_standings standings x) h.1 in
    subst (AreFirstGrown (n + 1) t line more slots) (sym same) (step below growth, refl)

-- ---- the column

least : (w v : ℕ) (ws vs : List ℕ) → AllPairs (λ a b. a < b) (w ∷ ws) → Contains (w ∷ ws) v → w ≤ v
least w v ws vs rising c =
    elim (cases_eq w v) [
      | inl e ↦ omega (arith, e)
      | inr ne ↦ let less = All-contains (λ u. w < u) ws v (pairs-first (λ a b. a < b) w ws rising) (behind w ws v c ne) in omega (arith, less)
    ]

rest-has : (w : ℕ) (ws vs : List ℕ) → AllPairs (λ a b. a < b) (w ∷ ws) → ((u : ℕ) → Contains (w ∷ ws) u → Contains (w ∷ vs) u) → (u : ℕ) → Contains ws u → Contains vs u
rest-has w ws vs rising has u c =
    behind w vs u (has u (further w ws u c)) (λ e. let less = All-contains (λ x. w < x) ws u (pairs-first (λ a b. a < b) w ws rising) c in absurd (omega (arith, less, e)))

-- two rising lists of the same slots are one
pub one_rising : (ws vs : List ℕ) → AllPairs (λ a b. a < b) ws → AllPairs (λ a b. a < b) vs → ((u : ℕ) → Contains ws u → Contains vs u) → ((u : ℕ) → Contains vs u → Contains ws u) → ws ≡ vs
one_rising [] [] up down to from = refl
one_rising [] (v ∷ vs) up down to from = let c = from v (0, omega arith, refl) in absurd (omega (arith, c.1))
one_rising (w ∷ ws) [] up down to from = let c = to w (0, omega arith, refl) in absurd (omega (arith, c.1))
one_rising (w ∷ ws) (v ∷ vs) up down to from =
    let le : w ≤ v = least w v ws vs up (from v (0, omega arith, refl)) in
    let ge : v ≤ w = least v w vs ws down (to w (0, omega arith, refl)) in
    let same : v ≡ w = omega (arith, le, ge) in
    let rising : AllPairs (λ a b. a < b) (w ∷ vs) = subst (λ (u : ℕ). AllPairs (λ a b. a < b) (u ∷ vs)) same down in
    ap (λ us. w ∷ us) (one_rising ws vs (pairs-rest (λ a b. a < b) w ws up) (pairs-rest (λ a b. a < b) v vs down)
    (rest-has w ws vs up (λ u c. subst (λ (x : ℕ). Contains (x ∷ vs) u) same (to u c)))
    (rest-has w vs ws rising (λ u c. from u (subst (λ (x : ℕ). Contains (x ∷ vs) u) (sym same) c))))
    ∙ ap (λ u. u ∷ vs) (sym same)

pub one_column : (rows : List (List Term)) (line : ℕ) (ws vs : List ℕ) → IsColumnOf rows line ws → IsColumnOf rows line vs → ws ≡ vs
one_column rows line ws vs a b = one_rising ws vs a.rising b.rising (λ u c. (b.exact u).1 ((a.exact u).0 c)) (λ u c. (a.exact u).1 ((b.exact u).0 c))

-- ---- all of them

-- where nothing stands in the row, nothing grows
nothing : (z y : ℤ) → y ≡ pos 0 → neg_ℤ (z *ℤ y) ≡ pos 0
nothing z y none = ap (λ (x : ℤ). neg_ℤ (z *ℤ x)) none ∙ ap neg_ℤ (mul-zero_ℤ z)

sign-or : (o : Owner) (i : Option Side) → IsSign (sign_there o i)
sign-or LevelSlot i = inl refl
sign-or (AttrSlot attr) i = inl refl
sign-or (LineSlot name) None = inl refl
sign-or (LineSlot name) (Some Under) = inr refl
sign-or (LineSlot name) (Some Over) = inl refl

none-signed : (z y : ℤ) → IsSign z → neg_ℤ (z *ℤ y) ≡ pos 0 → y ≡ pos 0
none-signed z y (inl e) none = let h : neg_ℤ (pos 1 *ℤ y) ≡ pos 0 = subst (λ (x : ℤ). neg_ℤ (x *ℤ y) ≡ pos 0) e none in omega (arith, ints, h)
none-signed z y (inr e) none = let h : neg_ℤ (neg_ℤ (pos 1) *ℤ y) ≡ pos 0 = subst (λ (x : ℤ). neg_ℤ (x *ℤ y) ≡ pos 0) e none in omega (arith, ints, h)

-- a slot's value grows where the line stands in its row
pub some_entry : (t : Lists) (line w : ℕ) → (outside_growth t line w).n ≢ pos 0 → entry t w line ≢ pos 0
some_entry t line w some none = some (nothing (sign_at t w) (entry t w line) none)

pub some_growth : (t : Lists) (line w : ℕ) → entry t w line ≢ pos 0 → (outside_growth t line w).n ≢ pos 0
some_growth t line w some none = some (none-signed (sign_at t w) (entry t w line) (sign-or (slot_at t w).owner (standing_at t w).side) none)

outside-growth : (t : Lists) (line w : ℕ) → (standing_at t line).side ≡ None → growth_at t line w ≡ outside_growth t line w
outside-growth t line w outside = ap (λ (i : Option Side). growth_by t line i w) outside

pub all_grown : (n : ℕ) (t u : Lists) (line : ℕ) (more : Fraction) (slots : List ℕ) → (standing_at t line).side ≡ None → IsColumnOf t.matrix line slots → length slots ≤ n
    → AreFirstGrown n t line more slots u → HaveGrown t line more u
all_grown n t u line more slots outside column all h = (
  record {
    count = h.0.count;
    values = h.0.values;
    sides = h.0.sides;
    grown = λ w some. grows w (subst (λ (by : Growth). by.n ≢ pos 0) (outside-growth t line w outside) some);
    others = λ w none. h.0.others w (λ k lt few e.
        let stands = (column.exact w).0 (k, few, get_or_default slots k w 0 few ∙ e) in
        some_growth t line w stands (ap (λ (by : Growth). by.n) (sym (outside-growth t line w outside)) ∙ none));
  },
  h.1,
)
  where
    here : (w k : ℕ) → k < length slots → slice_index_or slots k 0 ≡ w → IsGrowth (standing_at t w).value (outside_growth t line w) more (slice_index_or u.standings w at_zero).value
    here w k few e = subst (λ (v : ℕ). IsGrowth (standing_at t v).value (outside_growth t line v) more (slice_index_or u.standings v at_zero).value) e (h.0.first k (omega (arith, few, all)) few)

    there : (w : ℕ) → Contains slots w → IsGrowth (standing_at t w).value (outside_growth t line w) more (slice_index_or u.standings w at_zero).value
    there w (k, few, is) = here w k few (get_or_default slots k 0 w few ∙ is)

    grows : (w : ℕ) → (outside_growth t line w).n ≢ pos 0 → IsGrowth (standing_at t w).value (growth_at t line w) more (slice_index_or u.standings w at_zero).value
    grows w some =
        subst (λ (by : Growth). IsGrowth (standing_at t w).value by more (slice_index_or u.standings w at_zero).value) (sym (outside-growth t line w outside))
        (there w ((column.exact w).1 (some_entry t line w some)))

-- ---- the loop

pub first_slots : (n : ℕ) (t u : Lists) (line : ℕ) (more : Fraction) (slots : List ℕ) → AreSlots t → AreFirstGrown n t line more slots u → AreSlots u
first_slots n t u line more slots h grown =
    subst AreSlots (sym grown.1) (over_slots t u.standings t.matrix h (grown.0.count ∙ h.standings) h.matrix)

-- the column is that of before
pub column_now : (n : ℕ) (t u : Lists) (line : ℕ) (more : Fraction) (slots now : List ℕ) → IsColumnOf t.matrix line slots → IsColumnOf u.matrix line now → AreFirstGrown n t line more slots u
    → slice_index_or now n 0 ≡ slice_index_or slots n 0
column_now n t u line more slots now before after grown =
    ap (λ ws. slice_index_or ws n 0) (one_column t.matrix line now slots (subst (λ (x : Lists). IsColumnOf x.matrix line now) grown.1 after) before)

pub column_within : (n w : ℕ) (t : Lists) (slots : List ℕ) → AreSlots t → All (λ w. w < length t.matrix) slots → n < length slots → w ≡ slice_index_or slots n 0 → w < length t.slots
column_within n w t slots h all within is = let lt = all n 0 within in omega (arith, lt, is, h.matrix)

-- ---- what doesn't fit

-- where sides are as before, the same is at the slot
pub there_before : (t : Lists) (standings : List Standing) (w : ℕ) (what : What) → (slice_index_or standings w at_zero).side ≡ (standing_at t w).side → IsThere (with_standings standings t) w what → IsThere t w what
there_before t standings w what e is = (is.0, λ high. subst (λ (i : Option Side). IsWhatOf (slot_at t w).owner i what) e (is.1 high))

pub there_after : (t : Lists) (standings : List Standing) (w : ℕ) (what : What) → (slice_index_or standings w at_zero).side ≡ (standing_at t w).side → IsThere t w what → IsThere (with_standings standings t) w what
there_after t standings w what e is = (is.0, λ high. subst (λ (i : Option Side). IsWhatOf (slot_at t w).owner i what) (sym e) (is.1 high))

pub grows_after : (t : Lists) (standings : List Standing) (w : ℕ) → (slice_index_or standings w at_zero).side ≡ (standing_at t w).side → CanGrow t w → CanGrow (with_standings standings t) w
grows_after t standings w e h = record { fits = h.fits; above = h.above; what = h.what; there = there_after t standings w h.what e h.there }

-- the next slot's stop
pub next_stop : (n w : ℕ) (t : Lists) (line : ℕ) (more : Fraction) (slots : List ℕ) (u : Lists) (stop : TableStop) → IsKept t → (standing_at t line).side ≡ None → IsColumnOf t.matrix line slots
    → n < length slots → w ≡ slice_index_or slots n 0 → w < length t.slots → AreFirstGrown n t line more slots u → IsGrowStop u w (outside_growth u line w) more stop → IsGrownValueStop t line more stop
next_stop n w t line more slots u NoMemory kept outside column within is below h stop = tt
next_stop n w t line more slots u (Refused quantity) kept outside column within is below h (what, there, names, unfit) = (
  w,
  what,
  below,
  subst (λ (by : Growth). by.n ≢ pos 0) (sym same) (some_growth t line w stands),
  there_before t u.standings w what (h.0.sides w) (subst (λ (x : Lists). IsThere x w what) h.1 there),
  names,
  subst (λ (by : Growth). IsUnfitRatio (sum_num (standing_at t w).value by.n by.d more) (sum_den (standing_at t w).value by.d more)) (sym same)
      (subst (λ (s : Standing). IsUnfitRatio (sum_num s.value (outside_growth t line w).n (outside_growth t line w).d more) (sum_den s.value (outside_growth t line w).d more)) before
      (subst (λ (by : Growth). IsUnfitRatio (sum_num (slice_index_or u.standings w at_zero).value by.n by.d more) (sum_den (slice_index_or u.standings w at_zero).value by.d more)) (same_growth t u.standings line w (h.0.sides w))
      (subst (λ (x : Lists). IsUnfitRatio (sum_num (slice_index_or u.standings w at_zero).value (outside_growth x line w).n (outside_growth x line w).d more) (sum_den (slice_index_or u.standings w at_zero).value (outside_growth x line w).d more)) h.1 unfit))),
)
  where
    same : growth_at t line w ≡ outside_growth t line w
    same = outside-growth t line w outside

    stands : entry t w line ≢ pos 0
    stands = (column.exact w).0 (n, within, get_or_default slots n w 0 within ∙ sym is)

    before : slice_index_or u.standings w at_zero ≡ standing_at t w
    before = h.0.others w (λ k lt few e. earlier-apart n k slots column.rising lt within (e ∙ is))

-- what the next slot is of can grow
pub next_grows : (n w : ℕ) (t : Lists) (line : ℕ) (more : Fraction) (slots : List ℕ) (u : Lists) → IsKept t → IsColumnOf t.matrix line slots → n < length slots → w ≡ slice_index_or slots n 0 → w < length t.slots
    → AreFirstGrown n t line more slots u → CanGrow u w
next_grows n w t line more slots u kept column within is below h =
    subst (λ (x : Lists). CanGrow x w) (sym h.1)
    (grows_after t u.standings w (h.0.sides w) (can_grow t w line kept below ((column.exact w).0 (n, within, get_or_default slots n w 0 within ∙ sym is))))
