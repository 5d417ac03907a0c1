-- Where the words of lines' equations hold, and where they do not: `x >= 5` where x stands at 5.
use Rattle.std.proofs.Common.{◌≡◌, ◌≢◌, ℕ, ◌<◌, cond, nat_eq, [], ◌∷◌, ℤ, pos, negsuc, ◌+ℤ◌, ◌-ℤ◌, ◌*ℤ◌, neg_ℤ, unsigned_abs, refl, arith, All}
use Rattle.std.specs.Int.{◌∣◌}
use Rattle.std.proofs.Math.Nat.{eq-one_of_dvd-one}
use Rattle.std.proofs.lemmas.List.Elements.{All-from_recursion, recursion_from_All}
use Rattle.std.proofs.lemmas.Nat.Gcd.{dvd-zero, dvd_refl}
use borrow.Author.Differences.{ints}
use Rattle.frac_core.specs.Fraction.{Fraction, IsFitting}
use Rattle.problem_core.specs.declared.parts.RowName.{RowName}
use Rattle.problem_core.specs.declared.parts.RowName.TheVariants.{Held, Stay as StayOf}
use Rattle.problem_core.specs.declared.parts.Side.TheVariants.{Under, Over}
use Rattle.problem_core.specs.declared.parts.Stay.{Stay}
use Rattle.problem_core.specs.Layout.{Problem, lines, value_at}
use Rattle.problem_core.specs.Corners.{IsIn, Point, Solves, StandsAt, attr_column, equation, marks_of, one_column, place, place_of}
use Rattle.corner_laws.specs.Examples.{at_least, single, over_stay, under_row}
use Rattle.corner_laws.proofs.Instances.Examples.{too_large}
use Rattle.corner_laws.proofs.MarkWritings.Fits.{whole_is_kept}
use Rattle.corner_laws.proofs.Instances.PathExamples.{alone-in}
use Rattle.corner_lines.specs.LineEquations.{AreReduced, IsLineEquation, IsLineSum, IsOutsideLine, IsUnfitLine, deviation}
use Rattle.corner_lines.specs.LineExchanges.{IsExchangedRow, IsPivotRow}
use Rattle.corner_lines.specs.Joins.{HaveStood}
use Rattle.corner_lines.specs.Removals.{IsFree}
use Rattle.corner_lines.specs.Shifts.{IsShift}

-- the row's number alone
abbrev pub by_row : ℕ → RowName → ℤ
by_row k name = cond (nat_eq (place_of name Over) 5) (pos k) (pos 0)

eqs : (k : ℕ) (x : Point) → Solves (single k) x
    → (pos 1 *ℤ x.num 4 +ℤ (negsuc 0 *ℤ x.num 5 +ℤ (neg_ℤ (pos k) *ℤ x.num one_column +ℤ (pos 1 *ℤ x.num 17179869185 +ℤ pos 0))) ≡ pos 0)
    × (pos 1 *ℤ x.num 6 +ℤ (negsuc 0 *ℤ x.num 7 +ℤ (pos 0 *ℤ x.num one_column +ℤ (pos 1 *ℤ x.num 17179869185 +ℤ pos 0))) ≡ pos 0)
eqs k x h = let e = recursion_from_All (λ l. value_at x.num (equation l) ≡ pos 0) (lines (single k)) h in (e.0, e.1.0)

row-out : IsOutsideLine (over_stay ∷ []) (Held 1)
row-out = record { under = alone-in over_stay 4 (λ e. absurd (omega (arith, e))); over = alone-in over_stay 5 (λ e. absurd (omega (arith, e))) }

row-outside : (k j : ℕ) → All (λ l. by_row j l.name ≢ pos 0 → IsOutsideLine (over_stay ∷ []) l.name) (lines (single k))
row-outside k j = All-from_recursion (λ l. by_row j l.name ≢ pos 0 → IsOutsideLine (over_stay ∷ []) l.name) (lines (single k)) ((λ some. row-out), ((λ some. absurd (some refl)), tt))

-- the attribute is 5 and the row's deviation
attr-holds : (a u o p q one : ℤ) → pos 1 *ℤ u +ℤ (negsuc 0 *ℤ o +ℤ (negsuc 4 *ℤ one +ℤ (pos 1 *ℤ a +ℤ pos 0))) ≡ pos 0 → pos 1 *ℤ (pos 1 *ℤ a -ℤ (pos 1 *ℤ (o -ℤ u) +ℤ (pos 0 *ℤ (q -ℤ p) +ℤ pos 0))) ≡ pos 1 *ℤ (pos 5 *ℤ one)
attr-holds a u o p q one e = omega (arith, ints, e)

pub attr_line : IsLineEquation (single 5) (over_stay ∷ []) (λ x. x (attr_column 1)) 1 (by_row 1) (pos 5) 1
attr_line = record {
  own_positive = omega arith;
  den_positive = omega arith;
  outside = row-outside 5 1;
  holds = λ x solves. attr-holds (x.num 17179869185) (x.num 4) (x.num 5) (x.num 6) (x.num 7) (x.num one_column) (eqs 5 x solves).0;
  lowest = λ k d all. eq-one_of_dvd-one d;
}

-- so is the stay's deviation
stay-holds : (a u o p q one : ℤ) → pos 1 *ℤ u +ℤ (negsuc 0 *ℤ o +ℤ (negsuc 4 *ℤ one +ℤ (pos 1 *ℤ a +ℤ pos 0))) ≡ pos 0 → pos 1 *ℤ p +ℤ (negsuc 0 *ℤ q +ℤ (pos 0 *ℤ one +ℤ (pos 1 *ℤ a +ℤ pos 0))) ≡ pos 0
    → pos 1 *ℤ (pos 1 *ℤ (q -ℤ p) -ℤ (pos 1 *ℤ (o -ℤ u) +ℤ (pos 0 *ℤ (q -ℤ p) +ℤ pos 0))) ≡ pos 1 *ℤ (pos 5 *ℤ one)
stay-holds a u o p q one e f = omega (arith, ints, e, f)

pub stay_line : IsLineEquation (single 5) (over_stay ∷ []) (deviation (StayOf 1)) 1 (by_row 1) (pos 5) 1
stay_line = record {
  own_positive = omega arith;
  den_positive = omega arith;
  outside = row-outside 5 1;
  holds = λ x solves. stay-holds (x.num 17179869185) (x.num 4) (x.num 5) (x.num 6) (x.num 7) (x.num one_column) (eqs 5 x solves).0 (eqs 5 x solves).1;
  lowest = λ k d all. eq-one_of_dvd-one d;
}

-- ---- where it does not hold

-- twice the numbers have a common factor
pub not_lowest : IsLineEquation (single 5) (over_stay ∷ []) (λ x. x (attr_column 1)) 2 (by_row 2) (pos 5) 1 → ⊥
not_lowest e =
    let one : 2 ≡ 1 = e.lowest 2 (dvd_refl 2) (All-from_recursion (λ l. 2 ∣ unsigned_abs (by_row 2 l.name)) (lines (single 5)) (dvd_refl 2, (nothing, tt))) in
    absurd (omega (arith, one))
  where
    nothing : 2 ∣ 0
    nothing = dvd-zero 2

-- they are its sum all the same
twice-holds : (a u o p q one : ℤ) → pos 1 *ℤ u +ℤ (negsuc 0 *ℤ o +ℤ (negsuc 4 *ℤ one +ℤ (pos 1 *ℤ a +ℤ pos 0))) ≡ pos 0 → pos 1 *ℤ (pos 2 *ℤ a -ℤ (pos 2 *ℤ (o -ℤ u) +ℤ (pos 0 *ℤ (q -ℤ p) +ℤ pos 0))) ≡ pos 2 *ℤ (pos 5 *ℤ one)
twice-holds a u o p q one e = omega (arith, ints, e)

pub twice_sum : IsLineSum (single 5) (over_stay ∷ []) (λ x. x (attr_column 1)) 2 (by_row 2) (pos 5) 1
twice_sum = record {
  own_positive = omega arith;
  den_positive = omega arith;
  outside = row-outside 5 2;
  holds = λ x solves. twice-holds (x.num 17179869185) (x.num 4) (x.num 5) (x.num 6) (x.num 7) (x.num one_column) (eqs 5 x solves).0;
}

-- x is 5: 4 is not its value
abbrev at_five : ℕ → ℤ
at_five v = cond (nat_eq v 7) (pos 5) (cond (nat_eq v 17179869185) (pos 5) (cond (nat_eq v 34359738368) (pos 1) (pos 0)))

abbrev five_point : Point
five_point = record { num = at_five; positive = record { lt = tt } }

five-solves : Solves (single 5) five_point
five-solves = All-from_recursion (λ l. value_at at_five (equation l) ≡ pos 0) (lines (single 5)) (refl, (refl, tt))

pub not_four : IsLineEquation (single 5) (over_stay ∷ []) (λ x. x (attr_column 1)) 1 (by_row 1) (pos 4) 1 → ⊥
not_four e = let h : pos 5 ≡ pos 4 = e.holds five_point five-solves in absurd (omega (arith, ints, h))

-- where the row is inside it has no number
pub not_inside : IsLineEquation (single 5) (under_row ∷ []) (λ x. x (attr_column 1)) 1 (by_row 1) (pos 5) 1 → ⊥
not_inside e =
    let out : IsOutsideLine (under_row ∷ []) (Held 1) = (recursion_from_All (λ l. by_row 1 l.name ≢ pos 0 → IsOutsideLine (under_row ∷ []) l.name) (lines (single 5)) e.outside).0 (λ h. absurd (omega (arith, ints, h))) in
    out.under (0, omega arith, refl)

-- ---- lowest terms

-- the factor of twice the numbers is 2
pub halved : AreReduced (lines (single 5)) 2 (by_row 2) 1 (by_row 1)
halved = record {
  factor = 2;
  factor_positive = omega arith;
  low_positive = omega arith;
  own_same = refl;
  same = All-from_recursion (λ l. pos 2 *ℤ by_row 1 l.name ≡ by_row 2 l.name) (lines (single 5)) (refl, (refl, tt));
  lowest = λ k d all. eq-one_of_dvd-one d;
}

-- they are not their own lowest terms
pub not_halved : AreReduced (lines (single 5)) 2 (by_row 2) 2 (by_row 2) → ⊥
not_halved r =
    let one : 2 ≡ 1 = r.lowest 2 (dvd_refl 2) (All-from_recursion (λ l. 2 ∣ unsigned_abs (by_row 2 l.name)) (lines (single 5)) (dvd_refl 2, (dvd-zero 2, tt))) in
    absurd (omega (arith, one))

-- a value of 2^42 does not fit, one of 5 does
pub line_too_large : IsUnfitLine (single 4398046511104) 1 (by_row 1) (pos 4398046511104) 1
line_too_large low part value r ratio fits each kept = too_large value.num value.den (turned value.num value.den ratio) kept
  where
    turned : (n : ℤ) (d : ℕ) → n *ℤ pos 1 ≡ pos 4398046511104 *ℤ pos d → pos d *ℤ pos 4398046511104 ≡ n *ℤ pos 1
    turned n d e = omega (arith, ints, e)

pub line_fits : IsUnfitLine (single 5) 1 (by_row 1) (pos 5) 1 → ⊥
line_fits unfit =
    unfit 1 (by_row 1) (record { num = pos 5; den = 1 })
    (record {
      factor = 1;
      factor_positive = omega arith;
      low_positive = omega arith;
      own_same = refl;
      same = All-from_recursion (λ l. pos 1 *ℤ by_row 1 l.name ≡ by_row 1 l.name) (lines (single 5)) (refl, (refl, tt));
      lowest = λ k d all. eq-one_of_dvd-one d;
    }) refl (omega arith) (All-from_recursion (λ l. IsFitting (by_row 1 l.name)) (lines (single 5)) (omega arith, (omega arith, tt))) (whole_is_kept 5 (omega arith))

-- ---- exchanges

-- the stay's number alone
abbrev by_stay : ℕ → RowName → ℤ
by_stay k name = cond (nat_eq (place_of name Over) 7) (pos k) (pos 0)

-- the stay's equation, resolved for the row
pub row_pivot : IsPivotRow (lines (single 5)) (Held 1) (StayOf 1) Over 1 (by_row 1) 1 (by_stay 1)
row_pivot = record {
  pivot_positive = omega arith;
  size = refl;
  at_enter = refl;
  at_leave = refl;
  others = All-from_recursion (λ l. l.name ≢ Held 1 → l.name ≢ StayOf 1 → by_stay 1 l.name ≡ neg_ℤ (pos 1 *ℤ by_row 1 l.name)) (lines (single 5)) ((λ a b. absurd (a refl)), ((λ a b. absurd (b refl)), tt));
}

-- the number's sign has to be told
pub not_under : IsPivotRow (lines (single 5)) (Held 1) (StayOf 1) Under 1 (by_row 1) 1 (by_stay 1) → ⊥
not_under r = let h : pos 1 ≡ negsuc 0 = r.size in absurd (omega (arith, ints, h))

-- the attribute's numbers after it: those of the stay
pub attr_exchanged : IsExchangedRow (lines (single 5)) (Held 1) 1 (by_stay 1) (by_row 1) (by_stay 1)
attr_exchanged = record {
  at_enter = refl;
  others = All-from_recursion (λ l. l.name ≢ Held 1 → by_stay 1 l.name ≡ pos 1 *ℤ by_row 1 l.name +ℤ pos 1 *ℤ by_stay 1 l.name) (lines (single 5)) ((λ a. absurd (a refl)), ((λ a. refl), tt));
}

pub not_kept : IsExchangedRow (lines (single 5)) (Held 1) 1 (by_stay 1) (by_row 1) (by_row 1) → ⊥
not_kept r = let h : pos 1 ≡ pos 0 = r.at_enter in absurd (omega (arith, ints, h))

-- ---- stays at the present values

abbrev stay_at : ℕ → Stay
stay_at k = record { attr = 1; target = record { num = pos k; den = 1 } }

five-stands : StandsAt (single 5) (over_stay ∷ []) five_point
five-stands = (
  five-solves,
  All-from_recursion (λ m. (IsIn (place m) (over_stay ∷ []) → ⊥) → at_five (place m) ≡ pos 0) (marks_of (lines (single 5)))
      (λ o. refl, (λ o. refl, (λ o. refl, (λ o. absurd (o (0, omega arith, refl)), tt)))),
)

pub stood_at_five : HaveStood (single 5) (over_stay ∷ []) (stay_at 5 ∷ [])
stood_at_five = record {
  same = refl;
  positive = All-from_recursion (λ (s : Stay). 0 < s.target.den) (stay_at 5 ∷ []) (omega arith, tt);
  values = All-from_recursion (λ (s : Stay). (x : Point) × StandsAt (single 5) (over_stay ∷ []) x × (x.num (attr_column s.attr) *ℤ pos s.target.den ≡ s.target.num *ℤ x.num one_column)) (stay_at 5 ∷ []) ((five_point, five-stands, refl), tt);
}

stay-gone : (a u o one : ℤ) → pos 1 *ℤ u +ℤ (negsuc 0 *ℤ o +ℤ (negsuc 4 *ℤ one +ℤ (pos 1 *ℤ a +ℤ pos 0))) ≡ pos 0 → u ≡ pos 0 → o ≡ pos 0 → a *ℤ pos 1 ≡ pos 4 *ℤ one → one ≡ pos 0
stay-gone a u o one e f g h = omega (arith, ints, e, f, g, h)

pub not_stood_at_four : HaveStood (single 5) (over_stay ∷ []) (stay_at 4 ∷ []) → ⊥
not_stood_at_four h =
    let v = (recursion_from_All (λ (s : Stay). (x : Point) × StandsAt (single 5) (over_stay ∷ []) x × (x.num (attr_column s.attr) *ℤ pos s.target.den ≡ s.target.num *ℤ x.num one_column)) (stay_at 4 ∷ []) h.values).0 in
    let none = recursion_from_All (λ m. (IsIn (place m) (over_stay ∷ []) → ⊥) → v.0.num (place m) ≡ pos 0) (marks_of (lines (single 5))) v.1.1 in
    let one : v.0.num one_column ≡ pos 0 = stay-gone (v.0.num 17179869185) (v.0.num 4) (v.0.num 5) (v.0.num one_column) (eqs 5 v.0 v.1.0).0 (none.0 row-out.under) (none.1.0 row-out.over) v.2 in
    absurd (let up = v.0.positive in omega (arith, ints, one, up))

-- ---- a constant that changes

abbrev whole_fraction : ℕ → Fraction
whole_fraction k = record { num = pos k; den = 1 }

-- from `x >= 5` to `x >= 7` there are 2 more
pub two_more : IsShift (single 5) 1 (whole_fraction 5) (whole_fraction 7) (whole_fraction 2)
two_more = record {
  held = (0, at_least 5, omega arith, refl, refl);
  constant = All-from_recursion (λ r. r.id ≡ 1 → r.constant ≡ whole_fraction 5) (single 5).rows ((λ e. refl), tt);
  from_positive = omega arith;
  to_positive = omega arith;
  more_positive = omega arith;
  difference = refl;
}

pub not_three_more : IsShift (single 5) 1 (whole_fraction 5) (whole_fraction 7) (whole_fraction 3) → ⊥
not_three_more s = let h : pos 3 ≡ pos 2 = s.difference in absurd (omega (arith, ints, h))

-- ---- an attribute that no row names

abbrev no_rows : Problem
no_rows = record { rows = []; stays = stay_at 0 ∷ [] }

pub alone_is_free : IsFree no_rows 1
alone_is_free = record { held = (0, stay_at 0, omega arith, refl, refl); free = All-from_recursion (λ r. All (λ t. t.attr ≢ 1) r.terms) no_rows.rows tt }

pub named_is_not_free : IsFree (single 5) 1 → ⊥
named_is_not_free f =
    let row = (recursion_from_All (λ r. All (λ t. t.attr ≢ 1) r.terms) (single 5).rows f.free).0 in
    (recursion_from_All (λ t. t.attr ≢ 1) (at_least 5).terms row).0 refl
