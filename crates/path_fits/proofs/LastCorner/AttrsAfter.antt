-- Attributes by their stays' lines, and marks, after an exchange.
use Rattle.std.proofs.Common.{◌≡◌, ◌≢◌, ◌∙◌, ◌↔◌, ℕ, ◌+◌, ◌*◌, ◌<◌, List, length, get_or, ℤ, pos, ◌+ℤ◌, ◌-ℤ◌, ◌*ℤ◌, unsigned_abs, refl, sym, ap, ap₂, subst, arith, All, Option, None, Some, Bool, true, false, cond, nat_eq, mul-pos}
use Rattle.std.proofs.lemmas.List.{get_or_default, length-map}
use borrow.Author.Differences.{ints}
use Rattle.frac_core.specs.Fraction.{Fraction, IsFitting, IsKept, IsRatio, IsUnfitRatio, sum_den, sum_num}
use Rattle.problem_core.specs.declared.parts.Mark.{Mark}
use Rattle.problem_core.specs.declared.parts.RowName.{RowName}
use Rattle.problem_core.specs.declared.parts.RowName.TheVariants.{Held, Stay as StayOf}
use Rattle.problem_core.specs.declared.parts.Side.{Side}
use Rattle.problem_core.specs.declared.parts.Side.TheVariants.{Under, Over}
use Rattle.problem_core.specs.declared.parts.Stay.{Stay}
use Rattle.problem_core.specs.declared.stops.What.TheVariants.{Attr, Mark as MarkOf}
use Rattle.problem_core.specs.Kept.{IsWhole}
use Rattle.problem_core.specs.Layout.{HasStay, Line, Problem, line_of_stay, lines, sum_of, value_at}
use Rattle.problem_core.specs.Corners.{IsIn, Point, Solves, attr_column, equation, one_column, place, place_of}
use Rattle.problem_core.specs.Unfit.{HasNoWriting, IsUnfitWhat}
use Rattle.corner_laws.proofs.LevelCosts.Gaps.{line_gap}
use Rattle.corner_lines.specs.LineEquations.{IsLineEquation, IsLineSum, deviation, mark_form}
use Rattle.corner_lines.proofs.ProblemChanges.JoinedLines.{added, same-sum}
use Rattle.corner_lines.proofs.Lines.LineUnfits.{line_sum, line_unfit}
use Rattle.path_lines.specs.declared.table.Inside.{Inside}
use Rattle.path_lines.specs.declared.table.Sum.{Sum}
use Rattle.path_lines.specs.declared.spots.Spot.{Spot}
use Rattle.path_lines.specs.Tables.{AreLines, IsLineAt, IsSpotOf, IsThere, line_count, name_at, names_of, numbers_of}
use Rattle.path_lines.proofs.Exchanges.Exchanging.{one_side}
use Rattle.path_lines.proofs.Walking.FirstLines.{count_lines, stay_at, stay_name, units, sum_of_unit, units_outside, nothing_moves}
use Rattle.path_lines.proofs.Places.{any_line}
use Rattle.path_lines.proofs.Arithmetic.ValueSigns.{inside_place}
use Rattle.path_fits.specs.Attrs.{IsAttrAfter, IsFittingStay, IsStayAt, IsUnfitStay}
use Rattle.path_fits.specs.Fits.{AllAttrsFit}
use Rattle.path_lines.specs.Exchanges.Pivots.{HasUnfit}
use Rattle.std.proofs.Math.Nat.{eq-one_of_dvd-one}
use Rattle.corner_lines.proofs.Lines.LineWritings.{line_writing, no-side}
use Rattle.path_fits.specs.Sums.{IsCopy, HasFittingValue, IsQuantitySum, IsSideAt, IsUnfitLineAt}
use Rattle.path_fits.proofs.LastCorner.QuantitiesAfter.{copied_sum, form_fits, mark_fits, quantity_fits}
use Rattle.path_lines.proofs.Places.{any_stay}
use Rattle.frac_core.proofs.Numbers.{one-times as one_times}

-- ---- a stay's line

pub stay_within : (p : Problem) (attr at : ℕ) (target : Fraction) → IsStayAt p attr at target → at < line_count p
stay_within p attr at target is = omega (arith, is.within, is.place, count_lines p)

stay_named : (p : Problem) (attr at : ℕ) (target : Fraction) → IsStayAt p attr at target → name_at p at ≡ StayOf attr
stay_named p attr at target is = ap (name_at p) is.place ∙ stay_name p is.stay any_stay is.within ∙ ap (λ (s : Stay). StayOf s.attr) (is.is any_stay)

gap_parts : (d : ℕ) (k a u o one : ℤ) → pos d *ℤ ((u -ℤ o) +ℤ (pos 1 *ℤ a +ℤ pos 0)) ≡ k *ℤ one → pos d *ℤ (a -ℤ (o -ℤ u)) ≡ k *ℤ one
gap_parts d k a u o one e =
    let g : a -ℤ (o -ℤ u) ≡ (u -ℤ o) +ℤ (pos 1 *ℤ a +ℤ pos 0) = omega (arith, ints) in
    ap (λ (z : ℤ). pos d *ℤ z) g ∙ e

-- the attribute less its stay's deviation is the target
stay_gap : (p : Problem) (attr at : ℕ) (target : Fraction) (x : Point) → IsStayAt p attr at target → Solves p x → pos target.den *ℤ (x.num (attr_column attr) -ℤ deviation (name_at p at) x.num) ≡ target.num *ℤ x.num one_column
stay_gap p attr at target x is solves =
    let line = stay_at p is.stay any_line any_stay is.within in
    let here : get_or (lines p) (length p.rows + is.stay) any_line ≡ line_of_stay line.0 (record { attr = attr; target = target }) = line.1 ∙ ap (λ (s : Stay). line_of_stay line.0 s) (is.is any_stay) in
    let within : length p.rows + is.stay < line_count p = omega (arith, is.within, count_lines p) in
    let gap = line_gap x.num (line_of_stay line.0 (record { attr = attr; target = target })) (subst (λ (l : Line). value_at x.num (equation l) ≡ pos 0) here (solves (length p.rows + is.stay) any_line within)) in
    subst (λ (n : RowName). pos target.den *ℤ (x.num (attr_column attr) -ℤ deviation n x.num) ≡ target.num *ℤ x.num one_column) (sym (stay_named p attr at target is))
    (gap_parts target.den target.num (x.num (attr_column attr)) (x.num (place_of (StayOf attr) Under)) (x.num (place_of (StayOf attr) Over)) (x.num one_column) gap)

target_above : (p : Problem) (attr at : ℕ) (target : Fraction) → IsWhole p → IsStayAt p attr at target → 0 < target.den
target_above p attr at target whole is = subst (λ (s : Stay). 0 < s.target.den) (is.is any_stay) (whole.stays is.stay any_stay is.within).target.lowest.above

-- ---- outside

pub outside_attr : (p : Problem) (marks : List Mark) (attr at : ℕ) (target : Fraction) → IsThere p marks → IsStayAt p attr at target → IsLineAt p marks (name_at p at) None → IsLineSum p marks (λ x. x (attr_column attr)) 1 (units p at) target.num target.den
outside_attr p marks attr at target there is out = record {
  own_positive = omega arith;
  den_positive = target_above p attr at target there.whole is;
  outside = λ q d here some. units_outside p marks at (get_or (lines p) q d).name out some;
  holds = λ x solves.
      parts target.den (x.num (attr_column attr)) (deviation (name_at p at) x.num) (sum_of (λ l. units p at l.name *ℤ deviation l.name x.num) (lines p)) (target.num *ℤ x.num one_column)
      (sum_of_unit p at x.num there.whole (stay_within p attr at target is)) (stay_gap p attr at target x is solves);
}
  where
    parts : (d : ℕ) (a dev s r : ℤ) → s ≡ dev → pos d *ℤ (a -ℤ dev) ≡ r → pos d *ℤ (pos 1 *ℤ a -ℤ s) ≡ pos 1 *ℤ r
    parts d a dev s r e f =
        let g : pos 1 *ℤ a -ℤ s ≡ a -ℤ dev = omega (arith, ints, e) in
        ap (λ (z : ℤ). pos d *ℤ z) g ∙ f ∙ sym (one_times r)

-- ---- inside

target_sum : (p : Problem) (marks : List Mark) (attr at : ℕ) (target : Fraction) → IsThere p marks → IsStayAt p attr at target → IsLineSum p marks (λ x. x (attr_column attr) -ℤ deviation (name_at p at) x) 1 (λ n. pos 0) target.num target.den
target_sum p marks attr at target there is = record {
  own_positive = omega arith;
  den_positive = target_above p attr at target there.whole is;
  outside = λ q d here some. absurd (some refl);
  holds = λ x solves.
      parts target.den (x.num (attr_column attr) -ℤ deviation (name_at p at) x.num) (sum_of (λ l. pos 0 *ℤ deviation l.name x.num) (lines p)) (target.num *ℤ x.num one_column) (nothing_moves p x.num) (stay_gap p attr at target x is solves);
}
  where
    parts : (d : ℕ) (a s r : ℤ) → s ≡ pos 0 → pos d *ℤ a ≡ r → pos d *ℤ (pos 1 *ℤ a -ℤ s) ≡ pos 1 *ℤ r
    parts d a s r e f =
        let g : pos 1 *ℤ a -ℤ s ≡ a = omega (arith, ints, e) in
        ap (λ (z : ℤ). pos d *ℤ z) g ∙ f ∙ sym (one_times r)

pub inside_attr : (p : Problem) (marks : List Mark) (attr at : ℕ) (target : Fraction) (inside : Inside) (num : ℤ) (den : ℕ) → IsThere p marks → IsStayAt p attr at target → IsLineAt p marks (name_at p at) (Some inside) → 0 < den
    → num *ℤ sum_den target (pos 1) inside.sum.value ≡ sum_num target (pos 1) (pos 1) inside.sum.value *ℤ pos den
    → IsLineSum p marks (λ x. x (attr_column attr)) (unsigned_abs inside.sum.own) (numbers_of (lines p) inside.sum.by.items) num den
inside_attr p marks attr at target inside num den there is line above ratio =
    let own : ℕ = unsigned_abs inside.sum.own in
    let by : RowName → ℤ = numbers_of (lines p) inside.sum.by.items in
    let dev : IsLineSum p marks (deviation (name_at p at)) own by inside.sum.value.num inside.sum.value.den = line_sum p marks (deviation (name_at p at)) own by inside.sum.value.num inside.sum.value.den line.1.equation in
    let both : IsLineSum p marks (λ x. (x (attr_column attr) -ℤ deviation (name_at p at) x) +ℤ pos 1 *ℤ deviation (name_at p at) x) (own * 1) by num den =
    added p marks (λ x. x (attr_column attr) -ℤ deviation (name_at p at) x) (deviation (name_at p at)) (pos 1) 1 (λ n. pos 0) target own by inside.sum.value by num den (target_sum p marks attr at target there is) dev
    (λ q d here. numbers own (by (get_or (lines p) q d).name)) above ratio in
    subst (λ (n : ℕ). IsLineSum p marks (λ x. x (attr_column attr)) n by num den) (let o : own * 1 ≡ own = omega arith in o)
    (same-sum p marks (λ x. (x (attr_column attr) -ℤ deviation (name_at p at) x) +ℤ pos 1 *ℤ deviation (name_at p at) x) (λ x. x (attr_column attr)) (own * 1) by num den (λ x. back (x (attr_column attr)) (deviation (name_at p at) x)) both)
  where
    back : (a dev : ℤ) → (a -ℤ dev) +ℤ pos 1 *ℤ dev ≡ a
    back a dev = omega (arith, ints)

    numbers : (own : ℕ) (b : ℤ) → b ≡ pos own *ℤ pos 0 +ℤ (pos 1 *ℤ pos 1) *ℤ b
    numbers own b =
        let z : pos own *ℤ pos 0 ≡ pos 0 = omega (arith, ints) in
        omega (arith, ints, z)

pub inside_attr_sum : (p : Problem) (marks : List Mark) (attr at : ℕ) (target value : Fraction) (inside : Inside) (sum : Sum) → IsThere p marks → IsStayAt p attr at target → IsLineAt p marks (name_at p at) (Some inside) → 0 < value.den
    → IsRatio value (sum_num target (pos 1) (pos 1) inside.sum.value) (sum_den target (pos 1) inside.sum.value) → IsCopy inside.sum value sum → IsQuantitySum p marks (λ x. x (attr_column attr)) sum
inside_attr_sum p marks attr at target value inside sum there is line above ratio copy =
    let s = inside_attr p marks attr at target inside value.num value.den there is line above ratio in
    copied_sum p marks (λ x. x (attr_column attr)) inside.sum sum value copy line.1.sized
    (record { own_positive = s.own_positive; den_positive = s.den_positive; outside = s.outside; holds = s.holds; lowest = line.1.equation.lowest })

pub inside_attr_unfit : (p : Problem) (marks : List Mark) (attr at : ℕ) (target : Fraction) (inside : Inside) → IsThere p marks → IsStayAt p attr at target → IsLineAt p marks (name_at p at) (Some inside)
    → IsUnfitRatio (sum_num target (pos 1) (pos 1) inside.sum.value) (sum_den target (pos 1) inside.sum.value) → HasNoWriting p marks (λ x. x (attr_column attr))
inside_attr_unfit p marks attr at target inside there is line unfit =
    let num : ℤ = sum_num target (pos 1) (pos 1) inside.sum.value in
    let den : ℕ = target.den * (1 * inside.sum.value.den) in
    line_unfit p marks (λ x. x (attr_column attr)) (unsigned_abs inside.sum.own) (numbers_of (lines p) inside.sum.by.items) num den there.whole there.corner there.rays
    (inside_attr p marks attr at target inside num den there is line (den_above target.den inside.sum.value.den (target_above p attr at target there.whole is) line.1.equation.den_positive) refl)
    (λ low part value reduced ratio low_fits part_fit kept. unfit value kept.lowest ratio kept.fits)
  where
    den_above : (a b : ℕ) → 0 < a → 0 < b → 0 < a * (1 * b)
    den_above a b h k = mul-pos h (let o : 0 < 1 * b = omega (arith, k) in o)

-- ---- marks

pub unknown_mark : (p : Problem) (at : List Mark) (mark : Mark) → IsThere p at → All (λ n. n ≢ mark.row) (names_of p) → IsIn (place mark) at → ⊥
unknown_mark p at mark there none inside =
    let k = inside_place p at mark there.corner inside in
    none k.0 (Held 0) (omega (arith, k.1, length-map (lines p) (λ (l : Line). l.name))) k.2

-- where the line is as it is kept, its inside mark fits
pub line_fits : (p : Problem) (at : List Mark) (name : RowName) (side : Side) (line : Option Inside) → IsThere p at → IsLineAt p at name line → HasFittingValue line → IsIn (place_of name side) at → HasNoWriting p at (λ x. x (place_of name side)) → ⊥
line_fits p at name side None there out kept inside none = no-side at name side out inside
line_fits p at name side (Some one) there line kept inside none =
    mark_fits p at name one there line kept (subst (λ (s : Side). HasNoWriting p at (λ x. x (place_of name s))) (one_side p at name side one.side there inside line.0) none)

pub side_same : (p : Problem) (at : List Mark) (name : RowName) (side other : Side) → IsThere p at → IsSideAt at name (Some other) → (other ≡ side) ↔ IsIn (place_of name side) at
side_same p at name side other there inside = (λ e. subst (λ (s : Side). IsIn (place_of name s) at) e inside, λ i. one_side p at name other side there inside i)

-- ---- by the place of the mark's line

spot_place : (p : Problem) (mark : Mark) (spot : Spot) → IsSpotOf (names_of p) mark spot → place_of (name_at p spot.at) spot.side ≡ place mark
spot_place p mark spot is = ap₂ place_of is.1 is.2

pub spot_within : (p : Problem) (mark : Mark) (spot : Spot) → IsSpotOf (names_of p) mark spot → spot.at < line_count p
spot_within p mark spot is = omega (arith, is.0, length-map (lines p) (λ (l : Line). l.name))

pub mark_out : (p : Problem) (at : List Mark) (mark : Mark) (spot : Spot) → IsSpotOf (names_of p) mark spot → (IsIn (place_of (name_at p spot.at) spot.side) at → ⊥) → IsUnfitWhat p at (MarkOf mark) → ⊥
mark_out p at mark spot is out unfit = out (subst (λ (c : ℕ). IsIn c at) (sym (spot_place p mark spot is)) unfit.0)

pub mark_in_fits : (p : Problem) (at : List Mark) (mark : Mark) (spot : Spot) (line : Option Inside) → IsThere p at → IsSpotOf (names_of p) mark spot → IsLineAt p at (name_at p spot.at) line → HasFittingValue line → IsUnfitWhat p at (MarkOf mark) → ⊥
mark_in_fits p at mark spot line there is here kept unfit =
    line_fits p at (name_at p spot.at) spot.side line there here kept (subst (λ (c : ℕ). IsIn c at) (sym (spot_place p mark spot is)) unfit.0)
    (subst (λ (c : ℕ). HasNoWriting p at (λ x. x c)) (sym (spot_place p mark spot is)) unfit.1)

pub mark_in_unfit : (p : Problem) (at : List Mark) (mark : Mark) (spot : Spot) → IsThere p at → IsSpotOf (names_of p) mark spot → IsIn (place_of (name_at p spot.at) spot.side) at → IsUnfitLineAt p at (name_at p spot.at) → IsUnfitWhat p at (MarkOf mark)
mark_in_unfit p at mark spot there is inside unfit =
    let side : unfit.0 ≡ spot.side = one_side p at (name_at p spot.at) unfit.0 spot.side there unfit.1.0 inside in
    subst (λ (c : ℕ). IsIn c at × HasNoWriting p at (λ x. x c)) (ap (place_of (name_at p spot.at)) side ∙ spot_place p mark spot is) unfit.1

-- ---- by the attribute's stay

pub line_is : (p : Problem) (marks : List Mark) (lines : List (Option Inside)) (k : ℕ) (kept : Option Inside) → AreLines p marks lines → k < line_count p → kept ≡ get_or lines k kept → IsLineAt p marks (name_at p k) kept
line_is p marks lines k kept are within is = subst (IsLineAt p marks (name_at p k)) (sym is) (are.each k kept within)

pub stay_at_place : (p : Problem) (attr i : ℕ) (target : Fraction) (stay : Stay) → i < length p.stays → stay ≡ get_or p.stays i stay → stay.attr ≡ attr → stay.target ≡ target → IsStayAt p attr (length p.rows + i) target
stay_at_place p attr i target stay within is attr_is target_is = record {
  stay = i;
  within = within;
  place = refl;
  is = λ s. get_or_default p.stays i s stay within ∙ sym is ∙ ap₂ (λ (a : ℕ) (f : Fraction). record { attr = a; target = f }) attr_is target_is;
}

pub has_stay : (p : Problem) (attr at : ℕ) (target : Fraction) → IsStayAt p attr at target → HasStay p.stays attr
has_stay p attr at target is = (is.stay, get_or p.stays is.stay any_stay, is.within, get_or_default p.stays is.stay (get_or p.stays is.stay any_stay) any_stay is.within, ap (λ (s : Stay). s.attr) (is.is any_stay))

pub attr_after_fits : (p : Problem) (at : List Mark) (attr : ℕ) (made : Option Sum) → IsThere p at → IsAttrAfter p at attr made → IsUnfitWhat p at (Attr attr) → ⊥
attr_after_fits p at attr None there none unfit = none unfit.0
attr_after_fits p at attr (Some sum) there made unfit = quantity_fits p at (λ x. x (attr_column attr)) sum there made.0 made.1 unfit.1

-- ---- all attributes

pub outside_stay_fits : (target : Fraction) → IsFittingStay target None
outside_stay_fits target p marks attr at there is out none =
    let s = outside_attr p marks attr at target there is out in
    let kept : IsKept target = subst (λ (t : Stay). IsKept t.target) (is.is any_stay) (there.whole.stays is.stay any_stay is.within).target in
    let e : IsLineEquation p marks (λ x. x (attr_column attr)) 1 (units p at) target.num target.den =
    record { own_positive = s.own_positive; den_positive = s.den_positive; outside = s.outside; holds = s.holds; lowest = λ k d all. eq-one_of_dvd-one d } in
    none 1 (mark_form (units p at) (lines p)) target (line_writing p marks (λ x. x (attr_column attr)) 1 (units p at) target.num target.den there.whole e)
    (omega arith) (form_fits p (units p at) there.whole (λ q d within. unit_fits_here (nat_eq (place_of (get_or (lines p) q d).name Under) (place_of (name_at p at) Under)))) kept
  where
    unit_fits_here : (b : Bool) → IsFitting (cond b (pos 1) (pos 0))
    unit_fits_here true = omega arith
    unit_fits_here false = omega arith

pub inside_stay_fits : (target value : Fraction) (inside : Inside) → IsKept value → IsRatio value (sum_num target (pos 1) (pos 1) inside.sum.value) (sum_den target (pos 1) inside.sum.value) → IsFittingStay target (Some inside)
inside_stay_fits target value inside kept ratio p marks attr at there is line none =
    let sum : Sum = record { own = inside.sum.own; by = inside.sum.by; value = value } in
    quantity_fits p marks (λ x. x (attr_column attr)) sum there (inside_attr_sum p marks attr at target value inside sum there is line kept.lowest.above ratio (record { own = refl; by = refl; value_is = refl })) kept none

pub inside_stay_unfit : (target : Fraction) (inside : Inside) → IsUnfitRatio (sum_num target (pos 1) (pos 1) inside.sum.value) (sum_den target (pos 1) inside.sum.value) → IsUnfitStay target (Some inside)
inside_stay_unfit target inside unfit p marks attr at there is line = inside_attr_unfit p marks attr at target inside there is line unfit

pub all_stays_fit : (p : Problem) (at : List Mark) → ((k : ℕ) (s : Stay) → k < length p.stays → HasNoWriting p at (λ x. x (attr_column (get_or p.stays k s).attr)) → ⊥) → AllAttrsFit p at
all_stays_fit p at each attr ((k, s, within, is, e), none) =
    each k s within (subst (λ (a : ℕ). HasNoWriting p at (λ x. x (attr_column a))) (sym (ap (λ (t : Stay). t.attr) is ∙ e)) none)

pub stay_is_unfit : (p : Problem) (at : List Mark) (attr place : ℕ) (target : Fraction) → IsStayAt p attr place target → HasNoWriting p at (λ x. x (attr_column attr)) → HasUnfit p at
stay_is_unfit p at attr place target is none = (Attr attr, (has_stay p attr place target is, none))
