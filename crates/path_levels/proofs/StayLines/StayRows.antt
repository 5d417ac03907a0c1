-- The row of a stay's level, as the stay is kept.
use Rattle.std.proofs.Common.{◌≡◌, ◌≢◌, ◌⊎◌, ◌∙◌, ℕ, ◌*◌, Bool, true, false, cond, nat_eq, List, [], ◌∷◌, map, get_or, ℤ, pos, negsuc, ◌*ℤ◌, ◌-ℤ◌, unsigned_abs, refl, sym, ap, subst, arith, inl, inr, All, None, Some}
use Rattle.std.specs.declared.option.Option.{Option}
use Rattle.std.specs.Int.{◌∣◌}
use Rattle.std.proofs.lemmas.Bool.{cases_eq}
use Rattle.std.proofs.lemmas.List.Elements.{recursion_from_All}
use borrow.Author.Differences.{ints}
use Rattle.frac_core.specs.Fraction.{Fits, Fraction, IsFitting, IsKept}
use Rattle.problem_core.specs.Window.{zero_fraction}
use Rattle.problem_core.specs.declared.parts.Level.TheVariants.{Stay as StayLevel}
use Rattle.problem_core.specs.declared.parts.Mark.{Mark}
use Rattle.problem_core.specs.declared.parts.Rel.TheVariants.{Eq}
use Rattle.problem_core.specs.declared.parts.RowName.{RowName}
use Rattle.problem_core.specs.declared.parts.RowName.TheVariants.{Stay as StayOf}
use Rattle.problem_core.specs.declared.parts.Side.{Side}
use Rattle.problem_core.specs.declared.parts.Side.TheVariants.{Under, Over}
use Rattle.problem_core.specs.Layout.{Line, Problem, lines}
use Rattle.problem_core.specs.Corners.{IsIn, place_of}
use Rattle.problem_core.specs.Levels.{HasNoLevelWriting, IsLevelAt}
use Rattle.corner_laws.specs.Units.{IsStayLevel}
use Rattle.corner_lines.specs.LineEquations.{IsOutsideLine, deviation}
use Rattle.corner_lines.specs.Levels.LevelCosts.{HasDeviation}
use Rattle.corner_lines.specs.Levels.LevelFits.{IsFittingRow, IsLevelThere}
use Rattle.corner_lines.specs.Levels.LevelRows.{inside_number, line_numbers, reduced_number}
use Rattle.corner_lines.specs.Levels.StayLevels.{IsInsideStay, turned}
use Rattle.corner_lines.proofs.Costs.LevelFits.{fitting_row_has_writing}
use Rattle.corner_lines.proofs.LevelRows.LevelSound.{whole_is_sound}
use Rattle.corner_lines.proofs.Lines.LinePivots.{equation_is_pivot}
use Rattle.corner_lines.proofs.Lines.LineWritings.{line_value}
use Rattle.corner_lines.proofs.Costs.StayFits.{inside_stay_costs, inside_stay_is_unfit, no-cost, outside_stay_costs_one, turned-lowest, over-as, turned-fits as turned_fits}
use Rattle.corner_lines.proofs.LevelRows.StayRows.{inside_stay_has_row, outside_stay_has_row, stay-number, stay_stands_alone, turned-size}
use Rattle.path_lines.specs.declared.table.Inside.{Inside}
use Rattle.path_lines.specs.Tables.{IsLineAt, IsThere, line_count, numbers_of}
use Rattle.path_levels.specs.declared.sums.LevelSum.{LevelSum}
use Rattle.path_levels.specs.Levels.{IsLevelSum, IsSizedLevel}
use Rattle.path_levels.specs.Parts.{IsEmptySum}
use Rattle.path_levels.specs.StaySums.{IsStayRow, IsUnfitStay}
use Rattle.path_levels.proofs.StayLines.TurnedValues.{turned_fitting}
use Rattle.corner_lines.proofs.LevelRows.LevelExchanges.{at-side}
use Rattle.path_levels.proofs.Joining.FittingRows.{named-fits}
use Rattle.corner_lines.proofs.LevelRows.Units.{positive_is}
use Rattle.corner_lines.proofs.LevelRows.OtherNumbers.{other-number}
use Rattle.path_lines.proofs.Walking.FirstLines.{numbers_zero as named-zero}
use Rattle.path_levels.proofs.Joining.LineLists.{small-zero as zero-fits}
use Rattle.frac_core.proofs.Numbers.{divides-unless-zero as divides-zero}
use Rattle.problem_core.proofs.Sides.{zero-lowest}

-- ---- numbers of the list

turned-zero : (side : Side) → pos 0 ≡ turned side (pos 0)
turned-zero Under = omega (arith, ints)
turned-zero Over = refl

turned-cond : (b : Bool) (side : Side) (x y z : ℤ) → z ≡ turned side y → cond b (turned side x) z ≡ turned side (cond b x y)
turned-cond true side x y z h = refl
turned-cond false side x y z h = h

named-turned : (side : Side) (ls : List Line) (zs : List ℤ) (name : RowName) → numbers_of ls (map (turned side) zs) name ≡ turned side (numbers_of ls zs name)
named-turned side [] zs name = turned-zero side
named-turned side (l ∷ ls) [] name = turned-zero side
named-turned side (l ∷ ls) (z ∷ zs) name = turned-cond (nat_eq (place_of l.name Under) (place_of name Under)) side z (numbers_of ls zs name) (numbers_of ls (map (turned side) zs) name) (named-turned side ls zs name)

-- ---- a row with these numbers

-- what is known of a row before its parts are named by the sum
record IsRowThere (p : Problem) (at : List Mark) (level unit own : ℕ) (number : RowName → ℤ) (cost : Fraction) : Type 0 where
  there : IsLevelThere p at level unit own number cost
  fitting : IsFittingRow p at level unit own number
  fits : Fits cost

record IsFittingSum (p : Problem) (at : List Mark) (level : ℕ) (sum : LevelSum) : Type 0 where
  there : IsLevelThere p at level (unsigned_abs sum.unit) (unsigned_abs sum.own) (numbers_of (lines p) sum.by.items) sum.cost
  fitting : IsFittingRow p at level (unsigned_abs sum.unit) (unsigned_abs sum.own) (numbers_of (lines p) sum.by.items)
  fits : Fits sum.cost
  inside : All (λ l. IsOutsideLine at l.name ⊎ (numbers_of (lines p) sum.by.items l.name ≡ pos 0)) (lines p)

as-sum : (p : Problem) (at : List Mark) (level own : ℕ) (cost : Fraction) (sum : LevelSum) → sum.unit ≡ pos 1 → sum.own ≡ pos own → sum.cost ≡ cost → IsRowThere p at level 1 own (numbers_of (lines p) sum.by.items) cost
    → IsRowThere p at level (unsigned_abs sum.unit) (unsigned_abs sum.own) (numbers_of (lines p) sum.by.items) sum.cost
as-sum p at level own cost sum unit same costs row =
    subst (λ (n : ℕ). IsRowThere p at level n (unsigned_abs sum.own) (numbers_of (lines p) sum.by.items) sum.cost) (sym (ap unsigned_abs unit))
    (subst (λ (n : ℕ). IsRowThere p at level 1 n (numbers_of (lines p) sum.by.items) sum.cost) (sym (ap unsigned_abs same))
    (subst (λ (f : Fraction). IsRowThere p at level 1 own (numbers_of (lines p) sum.by.items) f) (sym costs) row))

-- ---- a stay outside

outside-row : (p : Problem) (at : List Mark) (level attr : ℕ) (number : RowName → ℤ) → IsThere p at → IsLevelAt p (StayLevel attr) level → IsOutsideLine at (StayOf attr) → ((name : RowName) → number name ≡ pos 0) → IsRowThere p at level 1 1 number zero_fraction
outside-row p at level attr number there is out zeros =
    let alone : IsStayLevel p level attr = stay_stands_alone p attr level there.whole is in
    let row = outside_stay_has_row p at level attr alone out in
    record {
      there = record {
        sound = whole_is_sound p there.whole;
        corner = there.corner;
        rays = there.rays;
        unit_is = row.0;
        row = record { by = row.1.by; row = row.1.row; outside = λ i d within o. row.1.outside i d within o ∙ sym (zeros (get_or (lines p) i d).name) };
        cost_is = no-cost p at level attr there.whole there.corner alone out;
        lowest = zero-lowest;
      };
      fitting = record {
        scale_fits = omega arith;
        outside_fit = λ i d within o. subst IsFitting (sym (zeros (get_or (lines p) i d).name)) zero-fits;
        own_fit = λ i d within e o side.
            subst (λ (z : ℤ). IsFitting (reduced_number side level 1 1 z (get_or (lines p) i d))) (sym (zeros (get_or (lines p) i d).name))
            (subst IsFitting (sym (outside_stay_costs_one p level attr alone i d within (alone.own i d within e).0 side)) (omega arith));
        inside_fit = λ i d within e side inside here. absurd (at-side inside at (StayOf attr) out (subst (λ (n : RowName). IsIn (place_of n inside) at) (alone.own i d within e).0 here));
      };
      fits = record { num_fits = omega arith; den_fits = omega arith };
    }

outside-sum : (p : Problem) (at : List Mark) (level attr : ℕ) (sum : LevelSum) → IsThere p at → IsLevelAt p (StayLevel attr) level → IsOutsideLine at (StayOf attr) → IsEmptySum (line_count p) sum → IsFittingSum p at level sum
outside-sum p at level attr sum there is out empty =
    let zeros : (name : RowName) → numbers_of (lines p) sum.by.items name ≡ pos 0 = λ name. named-zero (lines p) sum.by.items name (recursion_from_All (λ z. z ≡ pos 0) sum.by.items empty.zero) in
    let row = as-sum p at level 1 zero_fraction sum empty.unit empty.own empty.cost (outside-row p at level attr (numbers_of (lines p) sum.by.items) there is out zeros) in
    record { there = row.there; fitting = row.fitting; fits = row.fits; inside = λ i d within. inr (zeros (get_or (lines p) i d).name) }

-- ---- a stay inside

not-here : (at : List Mark) (name l : RowName) (side : Side) → IsIn (place_of name side) at → IsOutsideLine at l → l ≢ name
not-here at name l side i out = λ e. at-side side at l out (subst (λ (n : RowName). IsIn (place_of n side) at) (sym e) i)

inside-stay : (p : Problem) (at : List Mark) (level attr : ℕ) (inside : Inside) → IsThere p at → IsLevelAt p (StayLevel attr) level → IsLineAt p at (StayOf attr) (Some inside)
    → IsInsideStay p at level attr inside.side (unsigned_abs inside.sum.own) (line_numbers (StayOf attr) (unsigned_abs inside.sum.own) (numbers_of (lines p) inside.sum.by.items))
inside-stay p at level attr inside there is line =
    let by : RowName → ℤ = numbers_of (lines p) inside.sum.by.items in
    record {
      whole = there.whole;
      corner = there.corner;
      alone = stay_stands_alone p attr level there.whole is;
      inside = line.0;
      line_is = equation_is_pivot p at (record { row = StayOf attr; side = inside.side }) (unsigned_abs inside.sum.own) (numbers_of (lines p) inside.sum.by.items) inside.sum.value.num inside.sum.value.den there.whole there.corner line.0 line.1.equation;
      lowest = λ k divides all.
          line.1.equation.lowest k divides
          (λ i d within.
          divides-zero k (numbers_of (lines p) inside.sum.by.items (get_or (lines p) i d).name)
          (λ ne.
          let out : IsOutsideLine at (get_or (lines p) i d).name = line.1.equation.outside i d within ne in
          subst (λ (z : ℤ). k ∣ unsigned_abs z) (other-number (StayOf attr) (unsigned_abs inside.sum.own) (numbers_of (lines p) inside.sum.by.items) (get_or (lines p) i d).name (not-here at (StayOf attr) (get_or (lines p) i d).name inside.side line.0 out)) (all i d within out)));
    }

stay-deviation : (p : Problem) (at : List Mark) (attr : ℕ) (inside : Inside) → IsThere p at → IsLineAt p at (StayOf attr) (Some inside) → HasDeviation p at (StayOf attr) inside.sum.value
stay-deviation p at attr inside there line = line_value p at (deviation (StayOf attr)) (unsigned_abs inside.sum.own) (numbers_of (lines p) inside.sum.by.items) inside.sum.value.num inside.sum.value.den there.whole there.corner line.1.equation

both-cost : (level attr own : ℕ) (l : Line) (side inside : Side) → (l.level ≡ level → (l.name ≡ StayOf attr) × (l.rel ≡ Eq) × (l.scale ≡ 1) × (l.weight ≡ 1)) → l.level ≡ level → IsFitting (pos (2 * own)) → IsFitting (reduced_number side level 1 own (inside_number inside level 1 own l) l)
both-cost level attr own l Under Under h e two =
    let a : ℤ = inside_number Under level 1 own l in
    let c : inside_number Under level 1 own l -ℤ inside_number Under level 1 own l ≡ pos 0 = omega (arith, ints) in subst IsFitting (sym c) zero-fits
both-cost level attr own l Under Over h e two =
    let a = stay-number level attr own l Under h e in let b = stay-number level attr own l Over h e in
    let c : inside_number Under level 1 own l -ℤ inside_number Over level 1 own l ≡ pos (2 * own) = omega (arith, ints, a, b) in subst IsFitting (sym c) two
both-cost level attr own l Over Under h e two =
    let a = stay-number level attr own l Under h e in let b = stay-number level attr own l Over h e in
    let c : inside_number Under level 1 own l -ℤ inside_number Over level 1 own l ≡ pos (2 * own) = omega (arith, ints, a, b) in
    subst IsFitting (sym (over-as level 1 own (inside_number Under level 1 own l) l ∙ c)) two
both-cost level attr own l Over Over h e two =
    let a : ℤ = inside_number Over level 1 own l in
    let c : inside_number Over level 1 own l -ℤ inside_number Over level 1 own l ≡ pos 0 = omega (arith, ints) in
    subst IsFitting (sym (over-as level 1 own (inside_number Over level 1 own l) l ∙ c)) zero-fits

double : (own : ℕ) (z : ℤ) → z ≡ pos own → IsFitting (pos 2 *ℤ z) → IsFitting (pos (2 * own))
double own z e h = let there : IsFitting (pos 2 *ℤ pos own) = subst (λ (z : ℤ). IsFitting (pos 2 *ℤ z)) e h in omega (arith, there)

halved : (own : ℕ) (z : ℤ) → z ≡ pos own → IsFitting (pos (2 * own)) → IsFitting (pos 2 *ℤ z)
halved own z e h = subst (λ (z : ℤ). IsFitting (pos 2 *ℤ z)) (sym e) (let there : IsFitting (pos 2 *ℤ pos own) = omega (arith, h) in there)

once-fits : (own : ℕ) → IsFitting (pos (2 * own)) → IsFitting (pos (own * 1))
once-fits own two = omega (arith, two)

inside-row : (p : Problem) (at : List Mark) (level attr : ℕ) (inside : Inside) (number : RowName → ℤ) → IsThere p at → IsLevelAt p (StayLevel attr) level → IsLineAt p at (StayOf attr) (Some inside) → IsFitting (pos (2 * unsigned_abs inside.sum.own)) → IsKept inside.sum.value
    → ((name : RowName) → number name ≡ turned inside.side (numbers_of (lines p) inside.sum.by.items name))
    → IsRowThere p at level 1 (unsigned_abs inside.sum.own) number (record { num = turned inside.side inside.sum.value.num; den = inside.sum.value.den })
inside-row p at level attr inside number there is line two kept same =
    let stay = inside-stay p at level attr inside there is line in
    let given = inside_stay_has_row p at level attr inside.side (unsigned_abs inside.sum.own) (line_numbers (StayOf attr) (unsigned_abs inside.sum.own) (numbers_of (lines p) inside.sum.by.items)) stay in
    record {
      there = record {
        sound = whole_is_sound p there.whole;
        corner = there.corner;
        rays = there.rays;
        unit_is = given.0;
        row = record {
          by = given.1.by;
          row = given.1.row;
          outside = λ i d within out.
              given.1.outside i d within out
              ∙ ap (turned inside.side) (other-number (StayOf attr) (unsigned_abs inside.sum.own) (numbers_of (lines p) inside.sum.by.items) (get_or (lines p) i d).name (not-here at (StayOf attr) (get_or (lines p) i d).name inside.side line.0 out))
              ∙ sym (same (get_or (lines p) i d).name);
        };
        cost_is = inside_stay_costs p at level attr inside.side (unsigned_abs inside.sum.own) (line_numbers (StayOf attr) (unsigned_abs inside.sum.own) (numbers_of (lines p) inside.sum.by.items)) inside.sum.value stay (stay-deviation p at attr inside there line);
        lowest = turned-lowest inside.side inside.sum.value kept.lowest;
      };
      fitting = record {
        scale_fits = once-fits (unsigned_abs inside.sum.own) two;
        outside_fit = λ i d within out.
            subst IsFitting (sym (same (get_or (lines p) i d).name)) (turned_fitting inside.side (numbers_of (lines p) inside.sum.by.items (get_or (lines p) i d).name) (named-fits (lines p) inside.sum.by.items (get_or (lines p) i d).name (recursion_from_All IsFitting inside.sum.by.items line.1.sized.fits.1)));
        own_fit = λ i d within e out side. absurd (not-here at (StayOf attr) (get_or (lines p) i d).name inside.side line.0 out (stay.alone.own i d within e).0);
        inside_fit = λ i d within e side other here. both-cost level attr (unsigned_abs inside.sum.own) (get_or (lines p) i d) side other (stay.alone.own i d within) e two;
      };
      fits = turned_fits inside.side inside.sum.value kept.fits;
    }

in-or-zero : (side : Side) (out : Type 0) (z y : ℤ) → y ≡ turned side z → (z ≢ pos 0 → out) → out ⊎ (y ≡ pos 0)
in-or-zero side out z y same h = elim (cases_eq (unsigned_abs z) 0) [
  | inl e ↦ inr (no-size y (ap unsigned_abs same ∙ turned-size side z ∙ e))
  | inr ne ↦ inl (h (λ e. ne (ap (λ (y : ℤ). unsigned_abs y) e)))
]
  where
    no-size : (y : ℤ) → unsigned_abs y ≡ 0 → y ≡ pos 0
    no-size (pos n) e = ap pos e
    no-size (negsuc n) e = absurd (omega (arith, e))

inside-sum : (p : Problem) (at : List Mark) (level attr : ℕ) (inside : Inside) (sum : LevelSum) → IsThere p at → IsLevelAt p (StayLevel attr) level → IsLineAt p at (StayOf attr) (Some inside) → IsStayRow (line_count p) (Some inside) sum → IsFittingSum p at level sum
inside-sum p at level attr inside sum there is line row =
    let own : inside.sum.own ≡ pos (unsigned_abs inside.sum.own) = positive_is inside.sum.own line.1.sized.above in
    let same : (name : RowName) → numbers_of (lines p) sum.by.items name ≡ turned inside.side (numbers_of (lines p) inside.sum.by.items name) =
    λ name. ap (λ (zs : List ℤ). numbers_of (lines p) zs name) row.0.by ∙ named-turned inside.side (lines p) inside.sum.by.items name in
    let two : IsFitting (pos (2 * unsigned_abs inside.sum.own)) = double (unsigned_abs inside.sum.own) inside.sum.own own row.1 in
    let made = as-sum p at level (unsigned_abs inside.sum.own) (record { num = turned inside.side inside.sum.value.num; den = inside.sum.value.den }) sum row.0.unit (row.0.own ∙ own) row.0.cost
    (inside-row p at level attr inside (numbers_of (lines p) sum.by.items) there is line two row.2 same) in
    record {
      there = made.there;
      fitting = made.fitting;
      fits = made.fits;
      inside = λ i d within. in-or-zero inside.side (IsOutsideLine at (get_or (lines p) i d).name) (numbers_of (lines p) inside.sum.by.items (get_or (lines p) i d).name) (numbers_of (lines p) sum.by.items (get_or (lines p) i d).name) (same (get_or (lines p) i d).name) (line.1.equation.outside i d within);
    }

-- ---- either

fitting-sum : (p : Problem) (at : List Mark) (level attr : ℕ) (line : Option Inside) (sum : LevelSum) → IsThere p at → IsLevelAt p (StayLevel attr) level → IsLineAt p at (StayOf attr) line → IsStayRow (line_count p) line sum → IsFittingSum p at level sum
fitting-sum p at level attr None sum there is line row = outside-sum p at level attr sum there is line row
fitting-sum p at level attr (Some inside) sum there is line row = inside-sum p at level attr inside sum there is line row

pub stay_sum : (p : Problem) (at : List Mark) (level attr : ℕ) (line : Option Inside) (sum : LevelSum) → IsThere p at → IsLevelAt p (StayLevel attr) level → IsLineAt p at (StayOf attr) line → IsSizedLevel (line_count p) sum → IsStayRow (line_count p) line sum → IsLevelSum p at level sum
stay_sum p at level attr line sum there is kept sized row =
    let made = fitting-sum p at level attr line sum there is kept row in
    record { sized = sized; there = made.there; fitting = made.fitting; inside = made.inside }

pub stay_fits : (p : Problem) (at : List Mark) (level attr : ℕ) (line : Option Inside) (sum : LevelSum) → IsThere p at → IsLevelAt p (StayLevel attr) level → IsLineAt p at (StayOf attr) line → IsStayRow (line_count p) line sum → HasNoLevelWriting p at level → ⊥
stay_fits p at level attr line sum there is kept row none =
    let made = fitting-sum p at level attr line sum there is kept row in
    fitting_row_has_writing p at level (unsigned_abs sum.unit) (unsigned_abs sum.own) (numbers_of (lines p) sum.by.items) sum.cost made.there made.fitting made.fits none

pub stay_unfit : (p : Problem) (at : List Mark) (level attr : ℕ) (line : Option Inside) → IsThere p at → IsLevelAt p (StayLevel attr) level → IsLineAt p at (StayOf attr) line → IsUnfitStay line → HasNoLevelWriting p at level
stay_unfit p at level attr None there is line unfit = absurd unfit
stay_unfit p at level attr (Some inside) there is line unfit =
    inside_stay_is_unfit p at level attr inside.side (unsigned_abs inside.sum.own) (line_numbers (StayOf attr) (unsigned_abs inside.sum.own) (numbers_of (lines p) inside.sum.by.items)) inside.sum.value (inside-stay p at level attr inside there is line) there.rays (stay-deviation p at attr inside there line) unfit.1.lowest
    (λ two. unfit.0 (halved (unsigned_abs inside.sum.own) inside.sum.own (positive_is inside.sum.own line.1.sized.above) two))
