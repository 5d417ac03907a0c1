-- The row of a level at the next corner, or its cost does not fit there.
use Rattle.std.proofs.Common.{◌≡◌, ◌≢◌, ◌∙◌, ℕ, zero, suc, ◌*◌, ◌<◌, true, false, List, map, length, get_or, ℤ, pos, negsuc, ◌-ℤ◌, ◌*ℤ◌, ◌<ℤ◌, unsigned_abs, refl, sym, ap, ap₂, subst, subst₂, arith, inl, inr, All, ◌⊎◌, Option}
use Rattle.std.specs.Int.{◌∣◌}
use Rattle.std.proofs.lemmas.Bool.{cases_Bool, cases_eq}
use Rattle.std.proofs.lemmas.Int.{ints, unsigned_abs-mul}
use Rattle.std.proofs.lemmas.List.Elements.{All-from_recursion, All-map, recursion_from_All}
use Rattle.std.proofs.lemmas.Nat.Gcd.{dvd-zero}
use Rattle.frac_core.proofs.Integers.{mul-zero_ℤ, sign_cases, zero_from_mul}
use Rattle.frac_core.specs.Fraction.{Fraction, IsFitting, IsRatio, IsUnfitRatio}
use Rattle.problem_core.specs.declared.parts.Mark.{Mark}
use Rattle.problem_core.specs.Layout.{Line, Problem, lines}
use Rattle.problem_core.specs.Corners.{IsExchange, exchanged}
use Rattle.problem_core.specs.Levels.{HasNoLevelWriting, IsCostAt}
use Rattle.corner_laws.proofs.LinePlaces.{lines_apart}
use Rattle.corner_lines.specs.LineEquations.{IsOutsideLine}
use Rattle.corner_lines.specs.Levels.LevelRows.{HasLevelRow, IsEnteringNumber, IsLevelExchange, IsTurningNumber, IsUnfitRow}
use Rattle.corner_lines.specs.Levels.LevelFits.{IsLevelThere}
use Rattle.corner_lines.proofs.Costs.LevelCosts.{exchanged_cost_is_cost, turned_cost_is_cost, unfit_exchanged_cost, unfit_turned_cost}
use Rattle.corner_lines.proofs.LevelRows.LevelDivided.{divided_row_is_row}
use Rattle.corner_lines.proofs.Costs.LevelFits.{unfit_multiple_has_no_writing, unfit_row_has_no_writing}
use Rattle.corner_lines.proofs.LevelRows.LevelSound.{whole_is_sound}
use Rattle.corner_lines.proofs.Costs.LevelTakes.{entering_number_fits, turning_number_fits}
use Rattle.path_lines.specs.declared.exchange.Pivot.{Pivot}
use Rattle.path_lines.specs.declared.numbers.Wide.{Wide}
use Rattle.path_lines.specs.declared.table.Inside.{Inside}
use Rattle.path_lines.specs.Numbers.{AreFitting, AreLowest, AreUnfit}
use Rattle.path_lines.specs.Exchanges.Pivots.{next_marks}
use Rattle.path_lines.specs.Tables.{AreLines, IsThere, line_count, name_at, numbers_of, swap_of}
use Rattle.path_lines.proofs.Exchanges.NextLines.{lowest_count}
use Rattle.path_lines.proofs.Arithmetic.NumbersOf.{each_number, numbers-map}
use Rattle.path_lines.proofs.Places.{name_there, names_differ, number_there}
use Rattle.path_levels.specs.declared.outline.Outline.{Outline}
use Rattle.path_levels.specs.declared.outline.LineFacts.{LineFacts}
use Rattle.path_levels.specs.declared.sums.LevelSum.{LevelSum}
use Rattle.path_levels.specs.Exchanges.FitsAfter.{IsFitLevel, IsMadeLevel, IsMovedCost, moved_den, moved_num}
use Rattle.path_levels.specs.Outlines.{IsFactsOf, IsOutline, number_at}
use Rattle.path_levels.specs.Levels.{IsLevelSum, IsSizedLevel}
use Rattle.path_levels.specs.Rows.{AreKept}
use Rattle.path_levels.specs.Shares.{entering_of}
use Rattle.path_lines.specs.declared.spots.Step.{Step}
use Rattle.path_levels.proofs.Counting.ShareFacts.{unit_fits}
use Rattle.path_levels.specs.Exchanges.Pivots.{IsExchangePivot, IsMultipleAt, IsWideLevel}
use Rattle.path_levels.proofs.Exchanges.CostFacts.{cost_step, entered, entered_is, unfit_step}
use Rattle.path_levels.proofs.Exchanges.FitFacts.{fit_level, fitting_row, next_is_there}
use Rattle.path_levels.proofs.Counting.LineShares.{facts_count, stood_line}
use Rattle.path_levels.proofs.Exchanges.MultipleFacts.{any_level, before_other, before_turn, enter_out, some_number}
use Rattle.path_lines.proofs.Arithmetic.Unfits.{same_list}
use Rattle.frac_core.proofs.Numbers.{pos-size as up, product-up as positive_product}
use Rattle.frac_core.proofs.Lists.{each-from_map as unmapped}
use Rattle.path_levels.proofs.Parts.PartLines.{facts_at}

-- ---- lowest terms

signed_one : (own low : ℤ) (factor : ℕ) → pos factor *ℤ low ≡ own → factor * unsigned_abs low ≡ unsigned_abs own
signed_one own low factor same = sym (unsigned_abs-mul (pos factor) low) ∙ ap unsigned_abs same

lowest_there : (p : Problem) (at : List Mark) (level : ℕ) (unit : ℤ) (wide : Wide) (low : ℤ) (part : List ℤ) → IsThere p at → length wide.by.items ≡ line_count p → IsMultipleAt p at level unit wide → AreLowest wide.own wide.by.items low part
    → (g : ℕ) → All (λ l. IsOutsideLine at l.name → g ∣ unsigned_abs (numbers_of (lines p) part l.name)) (lines p) → All (λ z. g ∣ unsigned_abs z) part
lowest_there p at level unit wide low part there count is are g all =
    let long : length part ≡ length (lines p) = lowest_count wide.own low wide.by.items part are ∙ count in
    All-from_recursion (λ z. g ∣ unsigned_abs z) part
    (each_number (λ z. g ∣ unsigned_abs z) (lines p) part (lines_apart p there.whole) long
    (recursion_from_All (λ l. g ∣ unsigned_abs (numbers_of (lines p) part l.name)) (lines p)
    (λ i d within. elim (is.inside i d within) [
      | inl outside ↦ all i d within outside
      | inr none ↦
          let times : pos are.factor *ℤ numbers_of (lines p) part (get_or (lines p) i d).name ≡ numbers_of (lines p) wide.by.items (get_or (lines p) i d).name =
          sym (numbers-map (pos are.factor) (lines p) part (get_or (lines p) i d).name) ∙ ap (λ (zs : List ℤ). numbers_of (lines p) zs (get_or (lines p) i d).name) are.same in
          let zero : numbers_of (lines p) part (get_or (lines p) i d).name ≡ pos 0 = zero_from_mul are.factor (numbers_of (lines p) part (get_or (lines p) i d).name) are.above (times ∙ none) in
          subst (λ (z : ℤ). g ∣ unsigned_abs z) (sym zero) (dvd-zero g)
    ])))

pub lowest_row : (p : Problem) (at : List Mark) (level : ℕ) (unit : ℤ) (wide : Wide) (low : ℤ) (part : List ℤ) → IsThere p at → length wide.by.items ≡ line_count p → IsMultipleAt p at level unit wide → AreLowest wide.own wide.by.items low part
    → HasLevelRow p at level (unsigned_abs unit) (unsigned_abs low) (numbers_of (lines p) part)
lowest_row p at level unit wide low part there count is are =
    divided_row_is_row p at level (unsigned_abs unit) (unsigned_abs wide.own) (unsigned_abs low) is.by (numbers_of (lines p) part) is.multiple
    (record {
      factor = are.factor;
      above = are.above;
      own_is = signed_one wide.own low are.factor are.own_is;
      same = λ i d within outside.
          sym (numbers-map (pos are.factor) (lines p) part (get_or (lines p) i d).name) ∙ ap (λ (zs : List ℤ). numbers_of (lines p) zs (get_or (lines p) i d).name) are.same
          ∙ sym (is.outside i d within outside);
      lowest = λ g divides all. are.lowest g (divides, lowest_there p at level unit wide low part there count is are g all);
    })

pub inside_zeros : (p : Problem) (at : List Mark) (level : ℕ) (unit : ℤ) (wide : Wide) (low : ℤ) (part : List ℤ) → IsMultipleAt p at level unit wide → AreLowest wide.own wide.by.items low part
    → All (λ l. IsOutsideLine at l.name ⊎ (numbers_of (lines p) part l.name ≡ pos 0)) (lines p)
inside_zeros p at level unit wide low part is are i d within =
    elim (is.inside i d within) [
      | inl outside ↦ inl outside
      | inr none ↦
          inr (zero_from_mul are.factor (numbers_of (lines p) part (get_or (lines p) i d).name) are.above
          (sym (numbers-map (pos are.factor) (lines p) part (get_or (lines p) i d).name) ∙ ap (λ (zs : List ℤ). numbers_of (lines p) zs (get_or (lines p) i d).name) are.same ∙ none))
    ]

-- ---- lowest terms that do not fit

-- the number, or 0 where there is none before
only : ℤ → ℤ → ℤ
only (pos zero) y = pos 0
only (pos (suc n)) y = y
only (negsuc n) y = y

only_none : (x y : ℤ) → x ≡ pos 0 → only x y ≡ pos 0
unfolding only
only_none (pos zero) y e = refl
only_none (pos (suc n)) y e = absurd (omega (arith, ints, e))
only_none (negsuc n) y e = absurd (omega (arith, ints, e))

only_some : (x y : ℤ) → x ≢ pos 0 → only x y ≡ y
unfolding only
only_some (pos zero) y ne = absurd (ne refl)
only_some (pos (suc n)) y ne = refl
only_some (negsuc n) y ne = refl

pub unfit_row : (p : Problem) (at : List Mark) (level : ℕ) (unit : ℤ) (wide : Wide) → IsThere p at → length wide.by.items ≡ line_count p → pos 0 <ℤ wide.own → IsMultipleAt p at level unit wide → AreUnfit wide.own wide.by.items
    → IsUnfitRow p at (unsigned_abs wide.own) (numbers_of (lines p) wide.by.items)
unfit_row p at level unit wide there count above is unfit low number divided low_fits fits =
    unfit (pos low) (map (λ l. only (numbers_of (lines p) wide.by.items l.name) (number l.name)) (lines p))
    (record {
      factor = divided.factor;
      above = divided.above;
      own_is = ap pos divided.own_is ∙ up wide.own above;
      same = same_list (pos divided.factor) (λ name. only (numbers_of (lines p) wide.by.items name) (number name)) (lines p) wide.by.items (lines_apart p there.whole) count
          (recursion_from_All (λ l. pos divided.factor *ℤ only (numbers_of (lines p) wide.by.items l.name) (number l.name) ≡ numbers_of (lines p) wide.by.items l.name) (lines p)
          (λ i d within. elim (sign_cases (numbers_of (lines p) wide.by.items (get_or (lines p) i d).name)) [
            | inl none ↦ ap (λ (z : ℤ). pos divided.factor *ℤ z) (only_none (numbers_of (lines p) wide.by.items (get_or (lines p) i d).name) (number (get_or (lines p) i d).name) none) ∙ mul-zero_ℤ (pos divided.factor) ∙ sym none
            | inr some ↦
                let ne = some_number (numbers_of (lines p) wide.by.items (get_or (lines p) i d).name) some in
                ap (λ (z : ℤ). pos divided.factor *ℤ z) (only_some (numbers_of (lines p) wide.by.items (get_or (lines p) i d).name) (number (get_or (lines p) i d).name) ne)
                ∙ divided.same i d within (out i d within ne)
          ]));
      lowest = λ k all.
          divided.lowest k all.0
          (λ i d within outside.
          let each : k ∣ unsigned_abs (only (numbers_of (lines p) wide.by.items (get_or (lines p) i d).name) (number (get_or (lines p) i d).name)) =
          All-from_recursion (λ l. k ∣ unsigned_abs (only (numbers_of (lines p) wide.by.items l.name) (number l.name))) (lines p)
          (unmapped (λ z. k ∣ unsigned_abs z) (λ (l : Line). only (numbers_of (lines p) wide.by.items l.name) (number l.name)) (lines p)
          (recursion_from_All (λ z. k ∣ unsigned_abs z) (map (λ (l : Line). only (numbers_of (lines p) wide.by.items l.name) (number l.name)) (lines p)) all.1)) i d within in
          elim (sign_cases (numbers_of (lines p) wide.by.items (get_or (lines p) i d).name)) [
            | inl none ↦
                let zero : number (get_or (lines p) i d).name ≡ pos 0 = zero_from_mul divided.factor (number (get_or (lines p) i d).name) divided.above (divided.same i d within outside ∙ none) in
                subst (λ (z : ℤ). k ∣ unsigned_abs z) (sym zero) (dvd-zero k)
            | inr some ↦ subst (λ (z : ℤ). k ∣ unsigned_abs z) (only_some (numbers_of (lines p) wide.by.items (get_or (lines p) i d).name) (number (get_or (lines p) i d).name) (some_number (numbers_of (lines p) wide.by.items (get_or (lines p) i d).name) some)) each
          ]);
    }) (
      low_fits,
      All-map IsFitting (λ (l : Line). only (numbers_of (lines p) wide.by.items l.name) (number l.name)) (lines p)
          (λ i d within. elim (sign_cases (numbers_of (lines p) wide.by.items (get_or (lines p) i d).name)) [
            | inl none ↦ subst IsFitting (sym (only_none (numbers_of (lines p) wide.by.items (get_or (lines p) i d).name) (number (get_or (lines p) i d).name) none)) (omega arith)
            | inr some ↦
                let ne = some_number (numbers_of (lines p) wide.by.items (get_or (lines p) i d).name) some in
                subst IsFitting (sym (only_some (numbers_of (lines p) wide.by.items (get_or (lines p) i d).name) (number (get_or (lines p) i d).name) ne)) (fits i d within (out i d within ne))
          ]),
    )
  where
    out : (i : ℕ) (d : Line) → i < length (lines p) → numbers_of (lines p) wide.by.items (get_or (lines p) i d).name ≢ pos 0 → IsOutsideLine at (get_or (lines p) i d).name
    out i d within ne =
        elim (is.inside i d within) [
          | inl outside ↦ outside
          | inr none ↦ absurd (ne none)
        ]

pub unfit_multiple : (p : Problem) (at : List Mark) (level : ℕ) (sum : LevelSum) (pivot : Pivot) (wide : Wide) → IsExchangePivot p at pivot → IsLevelSum p at level sum → length wide.by.items ≡ line_count p → pos 0 <ℤ wide.own → IsMultipleAt p (next_marks p pivot at) level sum.unit wide
    → AreUnfit wide.own wide.by.items → HasNoLevelWriting p (next_marks p pivot at) level
unfit_multiple p at level sum pivot wide turn is count above multiple unfit =
    let there : IsThere p (next_marks p pivot at) = next_is_there p at pivot turn in
    unfit_multiple_has_no_writing p (next_marks p pivot at) level (unsigned_abs sum.unit) (unsigned_abs wide.own) multiple.by (numbers_of (lines p) wide.by.items) (whole_is_sound p there.whole) there.rays is.there.unit_is multiple.multiple multiple.outside
    (unfit_row p (next_marks p pivot at) level sum.unit wide there count above multiple unfit)

-- ---- the cost

exchange_is : (p : Problem) (at : List Mark) (level : ℕ) (sum : LevelSum) (pivot : Pivot) → IsExchangePivot p at pivot → IsLevelSum p at level sum
    → IsLevelExchange p at (swap_of p pivot.step) level (unsigned_abs sum.unit) (unsigned_abs sum.own) (numbers_of (lines p) sum.by.items) (unsigned_abs pivot.size) (numbers_of (lines p) pivot.by.items)
exchange_is p at level sum pivot turn is = record {
  whole = turn.there.whole;
  corner = turn.there.corner;
  exchange = turn.exchange;
  row = is.there.row;
  pivot_is = turn.pivot_is;
}

enter_facts : (p : Problem) (at : List Mark) (outline : Outline) (pivot : Pivot) (f : LineFacts) (k : ℕ) (d : Line) → IsExchangePivot p at pivot → IsOutline p outline → f ≡ get_or outline.lines.items pivot.step.enter.at f → k < line_count p → (get_or (lines p) k d).name ≡ name_at p pivot.step.enter.at
    → IsFactsOf outline.levels.items (get_or (lines p) k d) f
enter_facts p at outline pivot f k d turn outline_is f_is inside same =
    let here : k ≡ pivot.step.enter.at = place_is k pivot.step.enter.at inside turn.sized.enter_at (sym (name_there p k d inside) ∙ same) in
    subst (IsFactsOf outline.levels.items (get_or (lines p) k d)) (ap (λ (j : ℕ). get_or outline.lines.items j f) here ∙ sym f_is) (facts_at outline.levels.items (lines p) outline.lines.items k d f outline_is.lines_are inside)
  where
    place_is : (k e : ℕ) → k < line_count p → e < line_count p → name_at p k ≡ name_at p e → k ≡ e
    place_is k e here there same =
        elim (cases_eq k e) [
          | inl yes_same ↦ yes_same
          | inr ne ↦ absurd (names_differ p k e turn.there.whole here there ne same)
        ]

turning_is : (p : Problem) (at : List Mark) (outline : Outline) (place : ℕ) (sum : LevelSum) (pivot : Pivot) (f : LineFacts) → place < length outline.levels.items → f ≡ get_or outline.lines.items pivot.step.enter.at f → IsOutline p outline → IsExchangePivot p at pivot → pivot.is_turn ≡ true
    → IsTurningNumber p (swap_of p pivot.step) (number_at outline.levels.items place) (unsigned_abs sum.unit) (unsigned_abs sum.own) (entering_of f pivot place sum)
turning_is p at outline place sum pivot f within f_is outline_is turn one k d inside same =
    let facts = enter_facts p at outline pivot f k d turn outline_is f_is inside (same ∙ ap (name_at p) (sym (turn.sized.turn one))) in
    ap₂ ◌-ℤ◌ (before_turn f pivot place sum one ∙ stood_line pivot.step.leave.side p outline.levels.items place (get_or (lines p) k d) f any_level sum outline_is.levels_are within facts)
    (stood_line pivot.step.enter.side p outline.levels.items place (get_or (lines p) k d) f any_level sum outline_is.levels_are within facts)

entering_is : (p : Problem) (at : List Mark) (outline : Outline) (place : ℕ) (sum : LevelSum) (pivot : Pivot) (f : LineFacts) → place < length outline.levels.items → f ≡ get_or outline.lines.items pivot.step.enter.at f → IsOutline p outline → IsExchangePivot p at pivot → length sum.by.items ≡ line_count p
    → pivot.is_turn ≡ false → IsEnteringNumber p (swap_of p pivot.step).enter (number_at outline.levels.items place) (unsigned_abs sum.unit) (unsigned_abs sum.own) (numbers_of (lines p) sum.by.items) (entering_of f pivot place sum)
entering_is p at outline place sum pivot f within f_is outline_is turn count other k d inside same =
    let facts = enter_facts p at outline pivot f k d turn outline_is f_is inside same in
    ap₂ ◌-ℤ◌ (before_other f pivot place sum other ∙ sym (number_there p sum.by.items pivot.step.enter.at turn.there.whole count turn.sized.enter_at) ∙ ap (numbers_of (lines p) sum.by.items) (sym same))
    (stood_line pivot.step.enter.side p outline.levels.items place (get_or (lines p) k d) f any_level sum outline_is.levels_are within facts)

scale_above : (p : Problem) (at : List Mark) (level : ℕ) (sum : LevelSum) → IsLevelSum p at level sum → pos 0 <ℤ (sum.own *ℤ sum.unit)
scale_above p at level sum is = positive_product sum.own sum.unit is.sized.own_above is.sized.unit_above

pub number_fits : (p : Problem) (at : List Mark) (outline : Outline) (place : ℕ) (sum : LevelSum) (pivot : Pivot) (f : LineFacts) → place < length outline.levels.items → f ≡ get_or outline.lines.items pivot.step.enter.at f → IsOutline p outline → IsExchangePivot p at pivot
    → IsLevelSum p at (number_at outline.levels.items place) sum → IsFitting (entering_of f pivot place sum)
number_fits p at outline place sum pivot f within f_is outline_is turn is =
    elim (cases_Bool pivot.is_turn) [
      | inl one ↦
          turning_number_fits p at (swap_of p pivot.step) (number_at outline.levels.items place) (unsigned_abs sum.unit) (unsigned_abs sum.own) (numbers_of (lines p) sum.by.items) (entering_of f pivot place sum) turn.exchange is.fitting
          (ap (name_at p) (turn.sized.turn one)) (turning_is p at outline place sum pivot f within f_is outline_is turn one)
      | inr other ↦
          entering_number_fits p at (swap_of p pivot.step) (number_at outline.levels.items place) (unsigned_abs sum.unit) (unsigned_abs sum.own) (numbers_of (lines p) sum.by.items) (entering_of f pivot place sum) turn.exchange is.fitting
          (enter_out p at pivot turn (turn.sized.other other)) (entering_is p at outline place sum pivot f within f_is outline_is turn is.sized.count_is other)
    ]

pub next_cost : (p : Problem) (at : List Mark) (outline : Outline) (place : ℕ) (sum : LevelSum) (pivot : Pivot) (f : LineFacts) (cost : Fraction) → place < length outline.levels.items → f ≡ get_or outline.lines.items pivot.step.enter.at f → IsOutline p outline → IsExchangePivot p at pivot
    → IsLevelSum p at (number_at outline.levels.items place) sum → IsRatio cost (moved_num (entering_of f pivot place sum) pivot sum) (moved_den pivot sum) → IsCostAt p (next_marks p pivot at) (number_at outline.levels.items place) cost
next_cost p at outline place sum pivot f cost within f_is outline_is turn is moved =
    let there = turn.deviation_is (entered pivot) (entered_is pivot turn.sized.above turn.value_den) in
    let step = cost_step (entering_of f pivot place sum) pivot sum cost turn.sized.above (scale_above p at (number_at outline.levels.items place) sum is) is.there.lowest.above turn.value_den moved in
    elim (cases_Bool pivot.is_turn) [
      | inl one ↦
          turned_cost_is_cost p at (swap_of p pivot.step) (number_at outline.levels.items place) (unsigned_abs sum.unit) (unsigned_abs sum.own) (unsigned_abs pivot.size) (numbers_of (lines p) sum.by.items) (numbers_of (lines p) pivot.by.items) (entering_of f pivot place sum)
          sum.cost (entered pivot) cost (exchange_is p at (number_at outline.levels.items place) sum pivot turn is) is.there.unit_is (ap (name_at p) (turn.sized.turn one)) (turning_is p at outline place sum pivot f within f_is outline_is turn one) is.there.cost_is there step
      | inr other ↦
          exchanged_cost_is_cost p at (swap_of p pivot.step) (number_at outline.levels.items place) (unsigned_abs sum.unit) (unsigned_abs sum.own) (unsigned_abs pivot.size) (numbers_of (lines p) sum.by.items) (numbers_of (lines p) pivot.by.items) (entering_of f pivot place sum)
          sum.cost (entered pivot) cost (exchange_is p at (number_at outline.levels.items place) sum pivot turn is) is.there.unit_is (enter_out p at pivot turn (turn.sized.other other)) (entering_is p at outline place sum pivot f within f_is outline_is turn is.sized.count_is other) is.there.cost_is there step
    ]

pub unfit_cost : (p : Problem) (at : List Mark) (outline : Outline) (place : ℕ) (sum : LevelSum) (pivot : Pivot) (f : LineFacts) → place < length outline.levels.items → f ≡ get_or outline.lines.items pivot.step.enter.at f → IsOutline p outline → IsExchangePivot p at pivot
    → IsLevelSum p at (number_at outline.levels.items place) sum → (IsFitting (entering_of f pivot place sum) → IsUnfitRatio (moved_num (entering_of f pivot place sum) pivot sum) (moved_den pivot sum)) → HasNoLevelWriting p (next_marks p pivot at) (number_at outline.levels.items place)
unfit_cost p at outline place sum pivot f within f_is outline_is turn is unfit =
    let there = turn.deviation_is (entered pivot) (entered_is pivot turn.sized.above turn.value_den) in
    let step = unfit_step (entering_of f pivot place sum) pivot sum turn.sized.above (scale_above p at (number_at outline.levels.items place) sum is) (unfit (number_fits p at outline place sum pivot f within f_is outline_is turn is)) in
    elim (cases_Bool pivot.is_turn) [
      | inl one ↦
          unfit_turned_cost p at (swap_of p pivot.step) (number_at outline.levels.items place) (unsigned_abs sum.unit) (unsigned_abs sum.own) (unsigned_abs pivot.size) (numbers_of (lines p) sum.by.items) (numbers_of (lines p) pivot.by.items) (entering_of f pivot place sum)
          sum.cost (entered pivot) (exchange_is p at (number_at outline.levels.items place) sum pivot turn is) is.there.unit_is (ap (name_at p) (turn.sized.turn one)) (turning_is p at outline place sum pivot f within f_is outline_is turn one) is.there.cost_is there step
      | inr other ↦
          unfit_exchanged_cost p at (swap_of p pivot.step) (number_at outline.levels.items place) (unsigned_abs sum.unit) (unsigned_abs sum.own) (unsigned_abs pivot.size) (numbers_of (lines p) sum.by.items) (numbers_of (lines p) pivot.by.items) (entering_of f pivot place sum)
          sum.cost (entered pivot) (exchange_is p at (number_at outline.levels.items place) sum pivot turn is) is.there.unit_is (enter_out p at pivot turn (turn.sized.other other)) (entering_is p at outline place sum pivot f within f_is outline_is turn is.sized.count_is other) is.there.cost_is there step
    ]

-- ---- all of it

-- the row with its cost, as it is made
pub record IsMadeFrom (pivot : Pivot) (place : ℕ) (sum : LevelSum) (wide : Wide) (n : ℤ) (next : LevelSum) : Type 0 where
  pub made : IsMadeLevel (length wide.by.items) next
  pub unit : next.unit ≡ sum.unit
  pub lowest : AreLowest wide.own wide.by.items next.own next.by.items
  pub cost : IsMovedCost n pivot sum next.cost

there_next : (p : Problem) (at : List Mark) (outline : Outline) (place : ℕ) (sum : LevelSum) (pivot : Pivot) (f : LineFacts) (wide : Wide) (next : LevelSum) → place < length outline.levels.items → f ≡ get_or outline.lines.items pivot.step.enter.at f → IsOutline p outline → IsExchangePivot p at pivot
    → IsLevelSum p at (number_at outline.levels.items place) sum → length wide.by.items ≡ line_count p → IsMultipleAt p (next_marks p pivot at) (number_at outline.levels.items place) sum.unit wide → IsMadeFrom pivot place sum wide (entering_of f pivot place sum) next
    → IsLevelThere p (next_marks p pivot at) (number_at outline.levels.items place) (unsigned_abs next.unit) (unsigned_abs next.own) (numbers_of (lines p) next.by.items) next.cost
there_next p at outline place sum pivot f wide next within f_is outline_is turn is count multiple made =
    let there : IsThere p (next_marks p pivot at) = next_is_there p at pivot turn in
    subst (λ (u : ℤ). IsLevelThere p (next_marks p pivot at) (number_at outline.levels.items place) (unsigned_abs u) (unsigned_abs next.own) (numbers_of (lines p) next.by.items) next.cost) (sym made.unit)
    (record {
      sound = whole_is_sound p there.whole;
      corner = there.corner;
      rays = there.rays;
      unit_is = is.there.unit_is;
      row = lowest_row p (next_marks p pivot at) (number_at outline.levels.items place) sum.unit wide next.own next.by.items there count multiple made.lowest;
      cost_is = next_cost p at outline place sum pivot f next.cost within f_is outline_is turn is made.cost.ratio;
      lowest = made.cost.kept.lowest;
    })

pub level_is : (p : Problem) (at : List Mark) (outline : Outline) (kept : List (Option Inside)) (place : ℕ) (sum : LevelSum) (pivot : Pivot) (f : LineFacts) (wide : Wide) (next : LevelSum) → place < length outline.levels.items → f ≡ get_or outline.lines.items pivot.step.enter.at f → IsOutline p outline
    → AreLines p at kept → IsExchangePivot p at pivot → IsLevelSum p at (number_at outline.levels.items place) sum → length wide.by.items ≡ line_count p → IsMultipleAt p (next_marks p pivot at) (number_at outline.levels.items place) sum.unit wide
    → IsMadeFrom pivot place sum wide (entering_of f pivot place sum) next → IsFitLevel outline kept pivot place next → IsLevelSum p (next_marks p pivot at) (number_at outline.levels.items place) next
level_is p at outline kept place sum pivot f wide next within f_is outline_is are turn is count multiple made fits =
    let good : IsMadeLevel (line_count p) next = subst (λ (n : ℕ). IsMadeLevel n next) count made.made in
    record {
      sized = record { count_is = good.count_is; unit_above = good.unit_above; own_above = good.own_above; scale = fits.scale; fits = good.fits };
      there = there_next p at outline place sum pivot f wide next within f_is outline_is turn is count multiple made;
      fitting = fitting_row p at outline kept pivot place next within outline_is are turn good fits;
      inside = inside_zeros p (next_marks p pivot at) (number_at outline.levels.items place) sum.unit wide next.own next.by.items multiple made.lowest;
    }

pub level_unfit : (p : Problem) (at : List Mark) (outline : Outline) (kept : List (Option Inside)) (place : ℕ) (sum : LevelSum) (pivot : Pivot) (f : LineFacts) (wide : Wide) (next : LevelSum) → place < length outline.levels.items → f ≡ get_or outline.lines.items pivot.step.enter.at f → IsOutline p outline
    → AreLines p at kept → IsExchangePivot p at pivot → IsLevelSum p at (number_at outline.levels.items place) sum → length wide.by.items ≡ line_count p → IsMultipleAt p (next_marks p pivot at) (number_at outline.levels.items place) sum.unit wide
    → IsMadeFrom pivot place sum wide (entering_of f pivot place sum) next → (IsFitLevel outline kept pivot place next → ⊥) → HasNoLevelWriting p (next_marks p pivot at) (number_at outline.levels.items place)
level_unfit p at outline kept place sum pivot f wide next within f_is outline_is are turn is count multiple made down =
    let good : IsMadeLevel (line_count p) next = subst (λ (n : ℕ). IsMadeLevel n next) count made.made in
    unfit_row_has_no_writing p (next_marks p pivot at) (number_at outline.levels.items place) (unsigned_abs next.unit) (unsigned_abs next.own) (numbers_of (lines p) next.by.items) next.cost
    (there_next p at outline place sum pivot f wide next within f_is outline_is turn is count multiple made)
    (λ fit fits. down (fit_level p at outline kept pivot place next within outline_is are turn good fit))

-- ---- by the clauses of what is called

pub made_level : (count : ℕ) (sum : LevelSum) (wide : Wide) (low : ℤ) (part : List ℤ) (next : LevelSum) → IsSizedLevel count sum → length wide.by.items ≡ count → AreLowest wide.own wide.by.items low part → pos 0 <ℤ low → AreFitting low part
    → next.unit ≡ sum.unit → next.own ≡ low → next.by.items ≡ part → IsMadeLevel count next
made_level count sum wide low part next sized long are above fits unit_is own_is by_is = record {
  count_is = ap (λ (zs : List ℤ). length zs) by_is ∙ lowest_count wide.own low wide.by.items part are ∙ long;
  unit_above = subst (λ (z : ℤ). pos 0 <ℤ z) (sym unit_is) sized.unit_above;
  unit_fits = subst IsFitting (sym unit_is) (unit_fits sum (record { unit = sized.unit_above; own = sized.own_above; scale = sized.scale }));
  own_above = subst (λ (z : ℤ). pos 0 <ℤ z) (sym own_is) above;
  own_fits = subst IsFitting (sym own_is) fits.0;
  fits = subst (λ (zs : List ℤ). All IsFitting zs) (sym by_is) fits.1;
}

pub made_from : (sum : LevelSum) (pivot : Pivot) (place : ℕ) (n : ℤ) (wide : Wide) (low : ℤ) (part : List ℤ) (cost : Fraction) (next : LevelSum) → IsMadeLevel (length wide.by.items) next → AreLowest wide.own wide.by.items low part → IsMovedCost n pivot sum cost
    → next.unit ≡ sum.unit → next.own ≡ low → next.by.items ≡ part → next.cost ≡ cost → IsMadeFrom pivot place sum wide n next
made_from sum pivot place n wide low part cost next made are moved unit_is own_is by_is cost_is = record {
  made = made;
  unit = unit_is;
  lowest = subst₂ (λ (z : ℤ) (zs : List ℤ). AreLowest wide.own wide.by.items z zs) (sym own_is) (sym by_is) are;
  cost = subst (IsMovedCost n pivot sum) (sym cost_is) moved;
}

abbrev pub GivesPivot : List (Option Inside) → Step → Pivot → Type 0
GivesPivot kept step pivot = (p : Problem) (at : List Mark) → IsThere p at → AreLines p at kept → IsExchange p at (swap_of p step) → IsExchangePivot p at pivot

abbrev pub GivesMultiple : Outline → Pivot → ℕ → LevelSum → Wide → Type 0
GivesMultiple outline pivot place sum wide = (p : Problem) (at : List Mark) → IsOutline p outline → IsExchangePivot p at pivot → IsLevelSum p at (number_at outline.levels.items place) sum
    → IsMultipleAt p (next_marks p pivot at) (number_at outline.levels.items place) sum.unit wide

pub next_is : (outline : Outline) (kept : List (Option Inside)) (step : Step) (place : ℕ) (sum : LevelSum) (pivot : Pivot) (f : LineFacts) (wide : Wide) (next : LevelSum) → place < length outline.levels.items → pivot.step ≡ step → f ≡ get_or outline.lines.items step.enter.at f
    → length wide.by.items ≡ length outline.lines.items → GivesPivot kept step pivot → GivesMultiple outline pivot place sum wide → IsMadeFrom pivot place sum wide (entering_of f pivot place sum) next → IsFitLevel outline kept pivot place next
    → (p : Problem) (at : List Mark) → AreKept p at outline kept → IsLevelSum p at (number_at outline.levels.items place) sum → IsExchange p at (swap_of p step) → IsLevelSum p (exchanged (swap_of p step) at) (number_at outline.levels.items place) next
next_is outline kept step place sum pivot f wide next within step_is f_is long gives multiple made fits p at are is ex =
    let turn : IsExchangePivot p at pivot = gives p at are.there are.lines_are ex in
    let count : length wide.by.items ≡ line_count p = long ∙ facts_count outline.levels.items (lines p) outline.lines.items are.outline_is.lines_are in
    let f_there : f ≡ get_or outline.lines.items pivot.step.enter.at f = subst (λ (t : Step). f ≡ get_or outline.lines.items t.enter.at f) (sym step_is) f_is in
    subst (λ (t : Step). IsLevelSum p (exchanged (swap_of p t) at) (number_at outline.levels.items place) next) step_is
    (level_is p at outline kept place sum pivot f wide next within f_there are.outline_is are.lines_are turn is count (multiple p at are.outline_is turn is) made fits)

pub next_unfit : (outline : Outline) (kept : List (Option Inside)) (step : Step) (place : ℕ) (sum : LevelSum) (pivot : Pivot) (f : LineFacts) (wide : Wide) (next : LevelSum) → place < length outline.levels.items → pivot.step ≡ step → f ≡ get_or outline.lines.items step.enter.at f
    → length wide.by.items ≡ length outline.lines.items → GivesPivot kept step pivot → GivesMultiple outline pivot place sum wide → IsMadeFrom pivot place sum wide (entering_of f pivot place sum) next → (IsFitLevel outline kept pivot place next → ⊥)
    → (p : Problem) (at : List Mark) → AreKept p at outline kept → IsLevelSum p at (number_at outline.levels.items place) sum → IsExchange p at (swap_of p step) → HasNoLevelWriting p (exchanged (swap_of p step) at) (number_at outline.levels.items place)
next_unfit outline kept step place sum pivot f wide next within step_is f_is long gives multiple made down p at are is ex =
    let turn : IsExchangePivot p at pivot = gives p at are.there are.lines_are ex in
    let count : length wide.by.items ≡ line_count p = long ∙ facts_count outline.levels.items (lines p) outline.lines.items are.outline_is.lines_are in
    let f_there : f ≡ get_or outline.lines.items pivot.step.enter.at f = subst (λ (t : Step). f ≡ get_or outline.lines.items t.enter.at f) (sym step_is) f_is in
    subst (λ (t : Step). HasNoLevelWriting p (exchanged (swap_of p t) at) (number_at outline.levels.items place)) step_is
    (level_unfit p at outline kept place sum pivot f wide next within f_there are.outline_is are.lines_are turn is count (multiple p at are.outline_is turn is) made down)

pub next_cost_unfit : (outline : Outline) (kept : List (Option Inside)) (step : Step) (place : ℕ) (sum : LevelSum) (pivot : Pivot) (f : LineFacts) → place < length outline.levels.items → pivot.step ≡ step → f ≡ get_or outline.lines.items step.enter.at f → GivesPivot kept step pivot
    → (IsFitting (entering_of f pivot place sum) → IsUnfitRatio (moved_num (entering_of f pivot place sum) pivot sum) (moved_den pivot sum))
    → (p : Problem) (at : List Mark) → AreKept p at outline kept → IsLevelSum p at (number_at outline.levels.items place) sum → IsExchange p at (swap_of p step) → HasNoLevelWriting p (exchanged (swap_of p step) at) (number_at outline.levels.items place)
next_cost_unfit outline kept step place sum pivot f within step_is f_is gives unfit p at are is ex =
    let turn : IsExchangePivot p at pivot = gives p at are.there are.lines_are ex in
    let f_there : f ≡ get_or outline.lines.items pivot.step.enter.at f = subst (λ (t : Step). f ≡ get_or outline.lines.items t.enter.at f) (sym step_is) f_is in
    subst (λ (t : Step). HasNoLevelWriting p (exchanged (swap_of p t) at) (number_at outline.levels.items place)) step_is
    (unfit_cost p at outline place sum pivot f within f_there are.outline_is turn is unfit)

pub next_row_unfit : (outline : Outline) (kept : List (Option Inside)) (step : Step) (place : ℕ) (sum : LevelSum) (pivot : Pivot) (wide : Wide) → pivot.step ≡ step → IsWideLevel (length outline.lines.items) sum.unit wide → GivesPivot kept step pivot → GivesMultiple outline pivot place sum wide
    → AreUnfit wide.own wide.by.items
    → (p : Problem) (at : List Mark) → AreKept p at outline kept → IsLevelSum p at (number_at outline.levels.items place) sum → IsExchange p at (swap_of p step) → HasNoLevelWriting p (exchanged (swap_of p step) at) (number_at outline.levels.items place)
next_row_unfit outline kept step place sum pivot wide step_is sized gives multiple unfit p at are is ex =
    let turn : IsExchangePivot p at pivot = gives p at are.there are.lines_are ex in
    let count : length wide.by.items ≡ line_count p = sized.count_is ∙ facts_count outline.levels.items (lines p) outline.lines.items are.outline_is.lines_are in
    subst (λ (t : Step). HasNoLevelWriting p (exchanged (swap_of p t) at) (number_at outline.levels.items place)) step_is
    (unfit_multiple p at (number_at outline.levels.items place) sum pivot wide turn is count sized.above (multiple p at are.outline_is turn is) unfit)
