-- Marks that are a corner with one constant are one with each.
use Rattle.std.proofs.Common.{◌≡◌, ◌≢◌, ◌∙◌, ℕ, ◌<◌, ◌++◌, Bool, true, false, cond, nat_eq, List, [], ◌∷◌, length, map, ℤ, pos, negsuc, ◌+ℤ◌, ◌-ℤ◌, ◌*ℤ◌, neg_ℤ, ◌<ℤ◌, refl, sym, ap, ap₂, subst, arith, inl, inr, All, AllPairs, Contains}
use Rattle.std.specs.List.{AllByRecursion as Each}
use Rattle.std.proofs.lemmas.List.Elements.{All-from_recursion, recursion_from_All}
use lib.IntN.{*ℤ_comm}
use borrow.Author.Differences.{ints}
use Rattle.frac_core.specs.Fraction.{Fraction}
use Rattle.frac_core.proofs.Integers.{mul-add_left, mul-opposite, mul-sub_left, mul-zero_ℤ, sign_cases}
use Rattle.frac_core.proofs.Lists.{each-at, each-from_map, each-joined, each-left, each-onto_map, each-right, pairs-map, pairs-unmapped}
use Rattle.frac_core.proofs.Numbers.{neg-times, turned-cancels, zero-sum}
use Rattle.problem_core.specs.declared.parts.Mark.{Mark}
use Rattle.problem_core.specs.declared.parts.Term.{Term}
use Rattle.problem_core.specs.declared.parts.Side.TheVariants.{Under, Over}
use Rattle.problem_core.specs.Kept.{IsRow, IsWhole}
use Rattle.problem_core.specs.Layout.{Line, Problem, Row, line_of_row, lines, stay_lines, value_at}
use Rattle.problem_core.specs.Corners.{Agree, IsCorner, IsIn, Point, StandsAt, attr_column, equation, marks_of, one_column, place, place_of}
use Rattle.problem_core.specs.Unfit.{AreSameButConstants, without_constant}
use Rattle.problem_core.proofs.Corners.Ends.{value-columns}
use Rattle.problem_core.proofs.Forms.{each-both, each-impl, value-plus, value-scaled}
use Rattle.corner_laws.proofs.CornerRays.{columns, columns-count, columns-distinct, columns-none, equations, equations-linear, line_value, one-outside, outside-column}
use Rattle.corner_laws.proofs.LevelCosts.Gaps.{deviation, form_value, no_gap}
use Rattle.corner_laws.proofs.LinePlaces.{IsPlaced, IsPlacedRow, whole-placed}
use Rattle.corner_laws.proofs.MarkWritings.Directions.{placed-mark}
use Rattle.corner_laws.proofs.OtherConstants.{each-by, length-by, marks-alike, with_rows_of}
use Rattle.corner_laws.proofs.Systems.{Equation, HasKernel, kernel}
use Rattle.corner_laws.proofs.WrittenValues.{contains_each}
use Rattle.corner_laws.proofs.ZeroColumns.{IsDirection, all-marks, direction_still, direction_zero}
use Rattle.corner_lines.specs.Shifts.{has_constant, with_constant}
use Rattle.corner_lines.proofs.ProblemChanges.Shifted.{changed, same-id}
use Rattle.sweep_laws.specs.Laws.{CornerAtEach}

-- ---- directions

gap-back-parts : (q u o p w v one : ℤ) → one ≡ pos 0 → (u -ℤ o) +ℤ v ≡ pos 0 → w ≡ q *ℤ v → q *ℤ u +ℤ (neg_ℤ q *ℤ o +ℤ (neg_ℤ p *ℤ one +ℤ w)) ≡ pos 0
gap-back-parts q u o p w v one still none e =
    let a : q *ℤ ((u -ℤ o) +ℤ v) ≡ pos 0 = ap (λ (z : ℤ). q *ℤ z) none ∙ mul-zero_ℤ q in
    let b : neg_ℤ p *ℤ one ≡ pos 0 = ap (λ (z : ℤ). neg_ℤ p *ℤ z) still ∙ mul-zero_ℤ (neg_ℤ p) in
    omega (arith, ints, a, b, e, mul-opposite q o, mul-add_left q (u -ℤ o) v, mul-sub_left q u o)

gap-back : (n : ℕ → ℤ) (l : Line) → n one_column ≡ pos 0 → deviation n l +ℤ form_value n l ≡ pos 0 → value_at n (equation l) ≡ pos 0
gap-back n l still none =
    gap-back-parts (pos l.den) (n (place_of l.name Under)) (n (place_of l.name Over)) l.num (value_at n (map (λ (e : Term). record { attr = attr_column e.attr; by = pos l.den *ℤ e.by }) l.form)) (form_value n l) (n one_column) still none
    (value-columns n (pos l.den) l.form)

-- the line of the row has no gap
abbrev HasNoGap : (ℕ → ℤ) → Row → Type 0
HasNoGap n r = deviation n (line_of_row r) +ℤ form_value n (line_of_row r) ≡ pos 0

-- the row's constant is a fraction
abbrev pub IsPositive : Row → Type 0
IsPositive r = 0 < r.constant.den

-- a direction with these constants is one with those
direction-alike : (p : Problem) (rows : List Row) (n : ℕ → ℤ) → Each IsPositive rows → AreSameButConstants p.rows rows → IsDirection (with_rows_of rows p) n → IsDirection p n
direction-alike p rows n each same d =
    let all : Each (λ l. value_at n (equation l) ≡ pos 0) (map line_of_row rows ++ stay_lines 1001 p.stays) = recursion_from_All (λ l. value_at n (equation l) ≡ pos 0) (lines (with_rows_of rows p)) d.holds in
    let own : Each (λ r. value_at n (equation (line_of_row r)) ≡ pos 0) rows = each-from_map (λ l. value_at n (equation l) ≡ pos 0) line_of_row rows (each-left (λ l. value_at n (equation l) ≡ pos 0) (map line_of_row rows) (stay_lines 1001 p.stays) all) in
    let gaps : Each (HasNoGap n) rows = each-impl (λ r. IsPositive r × (value_at n (equation (line_of_row r)) ≡ pos 0)) (HasNoGap n) rows (λ r h. no_gap n (line_of_row r) h.0 d.still h.1) (each-both IsPositive (λ r. value_at n (equation (line_of_row r)) ≡ pos 0) rows each own) in
    let back : Each (HasNoGap n) p.rows = each-by without_constant (HasNoGap n) rows p.rows (sym same) gaps in
    record {
      holds = All-from_recursion (λ l. value_at n (equation l) ≡ pos 0) (lines p)
          (each-joined (λ l. value_at n (equation l) ≡ pos 0) (map line_of_row p.rows) (stay_lines 1001 p.stays)
          (each-onto_map (λ l. value_at n (equation l) ≡ pos 0) line_of_row p.rows (each-impl (HasNoGap n) (λ r. value_at n (equation (line_of_row r)) ≡ pos 0) p.rows (λ r g. gap-back n (line_of_row r) d.still g) back))
          (each-right (λ l. value_at n (equation l) ≡ pos 0) (map line_of_row rows) (stay_lines 1001 p.stays) all));
      still = d.still;
    }

-- ---- the corner

from-none : (a b x y : ℤ) → a *ℤ x +ℤ neg_ℤ b *ℤ y ≡ pos 0 → x *ℤ a ≡ y *ℤ b
from-none a b x y h = omega (arith, ints, h, neg-times b y, *ℤ_comm x a, *ℤ_comm y b)

scaled-none : (k z : ℤ) → z ≡ pos 0 → k *ℤ z ≡ pos 0
scaled-none k z e = ap (λ (y : ℤ). k *ℤ y) e ∙ mul-zero_ℤ k

module _ (p : Problem) (rows : List Row) (at : List Mark) (placed : IsPlaced p) (each : Each IsPositive rows) (same : AreSameButConstants p.rows rows) (corner : IsCorner p at) where
  abbrev q : Problem
  q = with_rows_of rows p

  same-marks : marks_of (lines p) ≡ marks_of (lines q)
  same-marks = marks-alike p.rows rows (stay_lines 1001 p.stays) same

  back : (n : ℕ → ℤ) → IsDirection q n → IsDirection p n
  back n d = direction-alike p rows n each same d

  -- numbers for the columns and the constants' one
  numbers : HasKernel (one_column ∷ columns p at) (equations q)
  numbers =
      let count : length (equations q) ≡ length (columns p at) = columns-count q at (corner.count ∙ length-by without_constant p.rows rows same) in
      kernel (one_column ∷ columns p at) (equations q) (equations-linear q) (omega (arith, count)) (one-outside p at placed corner, columns-distinct p at placed corner)

  holding : All (λ l. value_at numbers.num (equation l) ≡ pos 0) (lines q)
  holding = All-from_recursion (λ l. value_at numbers.num (equation l) ≡ pos 0) (lines q) (each-from_map (λ (f : Equation). f numbers.num ≡ pos 0) line_value (lines q) numbers.holds)

  outside-none : (v : ℕ) → (IsIn v at → ⊥) → Contains (map place (marks_of (lines p))) v → numbers.num v ≡ pos 0
  outside-none v out mark = numbers.outside v ((λ e. (let low = placed-mark p v placed mark in absurd (omega (arith, low, e)))), outside-column p at v placed mark out)

  some-one : numbers.num one_column ≢ pos 0
  some-one none =
      let d : IsDirection p numbers.num = back numbers.num (record { holds = holding; still = none }) in
      numbers.some (each-at (λ c. numbers.num c ≡ pos 0) (one_column ∷ columns p at) numbers.at (none, columns-none p at numbers.num corner d outside-none) numbers.inside)

  each-mark : (P : ℕ → Type 0) → ((v : ℕ) → Contains (map place (marks_of (lines p))) v → P v) → All (λ m. P (place m)) (marks_of (lines q))
  each-mark P h =
      subst (λ (ms : List Mark). All (λ m. P (place m)) ms) same-marks
      (All-from_recursion (λ m. P (place m)) (marks_of (lines p)) (each-impl (λ m. Contains (map place (marks_of (lines p))) (place m)) (λ m. P (place m)) (marks_of (lines p)) (λ m is. h (place m) is) (all-marks (marks_of (lines p)))))

  -- the numbers k times, for a sign k
  scaled : (k : ℤ) → pos 0 <ℤ (k *ℤ numbers.num one_column) → (x : Point) × StandsAt q at x
  scaled k up = (
    record { num = λ v. k *ℤ numbers.num v; positive = up },
    (
      All-from_recursion (λ l. value_at (λ v. k *ℤ numbers.num v) (equation l) ≡ pos 0) (lines q)
          (each-impl (λ l. value_at numbers.num (equation l) ≡ pos 0) (λ l. value_at (λ v. k *ℤ numbers.num v) (equation l) ≡ pos 0) (lines q) (λ l e. value-scaled k numbers.num (equation l) ∙ scaled-none k (value_at numbers.num (equation l)) e) (recursion_from_All (λ l. value_at numbers.num (equation l) ≡ pos 0) (lines q) holding)),
      each-mark (λ v. (IsIn v at → ⊥) → k *ℤ numbers.num v ≡ pos 0) (λ v is out. scaled-none k (numbers.num v) (outside-none v out is)),
    ),
  )

  point : (x : Point) × StandsAt q at x
  point = elim (sign_cases (numbers.num one_column)) [
    | inl none ↦ absurd (some-one none)
    | inr (inl up) ↦ scaled (pos 1) (omega (arith, ints, up))
    | inr (inr low) ↦ scaled (negsuc 0) (omega (arith, ints, low))
  ]

  stands-zero : (x : Point) → StandsAt q at x → (v : ℕ) → (IsIn v at → ⊥) → Contains (map place (marks_of (lines p))) v → x.num v ≡ pos 0
  stands-zero x stands v out mark =
      contains_each (λ c. (IsIn c at → ⊥) → x.num c ≡ pos 0) (marks_of (lines p)) v
      (recursion_from_All (λ m. (IsIn (place m) at → ⊥) → x.num (place m) ≡ pos 0) (marks_of (lines p)) (subst (λ (ms : List Mark). All (λ m. (IsIn (place m) at → ⊥) → x.num (place m) ≡ pos 0) ms) (sym same-marks) stands.1)) mark out

  -- between two points that stand there
  abbrev between : Point → Point → ℕ → ℤ
  between x y v = y.num one_column *ℤ x.num v +ℤ neg_ℤ (x.num one_column) *ℤ y.num v

  between-direction : (x y : Point) → StandsAt q at x → StandsAt q at y → IsDirection p (between x y)
  between-direction x y here there =
      back (between x y)
      (record {
        holds = All-from_recursion (λ l. value_at (between x y) (equation l) ≡ pos 0) (lines q)
            (each-impl (λ l. (value_at x.num (equation l) ≡ pos 0) × (value_at y.num (equation l) ≡ pos 0)) (λ l. value_at (between x y) (equation l) ≡ pos 0) (lines q)
            (λ l e. value-plus (λ v. y.num one_column *ℤ x.num v) (λ v. neg_ℤ (x.num one_column) *ℤ y.num v) (equation l)
            ∙ ap₂ ◌+ℤ◌ (value-scaled (y.num one_column) x.num (equation l)) (value-scaled (neg_ℤ (x.num one_column)) y.num (equation l))
            ∙ zero-sum (y.num one_column) (neg_ℤ (x.num one_column)) (value_at x.num (equation l)) (value_at y.num (equation l)) e.0 e.1)
            (each-both (λ l. value_at x.num (equation l) ≡ pos 0) (λ l. value_at y.num (equation l) ≡ pos 0) (lines q) (recursion_from_All (λ l. value_at x.num (equation l) ≡ pos 0) (lines q) here.0) (recursion_from_All (λ l. value_at y.num (equation l) ≡ pos 0) (lines q) there.0)));
        still = turned-cancels (y.num one_column) (x.num one_column);
      })

  between-none : (x y : Point) → StandsAt q at x → StandsAt q at y → (v : ℕ) → (IsIn v at → ⊥) → Contains (map place (marks_of (lines p))) v → between x y v ≡ pos 0
  between-none x y here there v out mark = zero-sum (y.num one_column) (neg_ℤ (x.num one_column)) (x.num v) (y.num v) (stands-zero x here v out mark) (stands-zero y there v out mark)

  pub keeps-corner : IsCorner (with_rows_of rows p) at
  keeps-corner = record {
    count = corner.count ∙ length-by without_constant p.rows rows same;
    marks = subst (λ (ms : List Mark). All (λ m. Contains (map place ms) (place m)) at) same-marks corner.marks;
    apart = corner.apart;
    point = point.0;
    stands = point.1;
    marks_fixed = λ y there. each-mark (λ v. Agree v point.0 y) (λ v is. from-none (y.num one_column) (point.0.num one_column) (point.0.num v) (y.num v) (direction_zero p at (between point.0 y) v corner (between-direction point.0 y point.1 there) (between-none point.0 y point.1 there) is));
    attrs_fixed = λ y there. All-from_recursion (λ s. Agree (attr_column s.attr) point.0 y) p.stays
        (each-impl (λ s. between point.0 y (attr_column s.attr) ≡ pos 0) (λ s. Agree (attr_column s.attr) point.0 y) p.stays (λ s e. from-none (y.num one_column) (point.0.num one_column) (point.0.num (attr_column s.attr)) (y.num (attr_column s.attr)) e)
        (direction_still p at (between point.0 y) corner (between-direction point.0 y point.1 there) (between-none point.0 y point.1 there)));
  }

-- ---- one row's constant

same-rest : (same : Bool) (f : Fraction) (r : Row) → without_constant (cond same (changed f r) r) ≡ without_constant r
same-rest true f r = refl
same-rest false f r = refl

rests : (id : ℕ) (f : Fraction) (rows : List Row) → map without_constant (map (has_constant id f) rows) ≡ map without_constant rows
rests id f [] = refl
rests id f (r ∷ rows) = ap₂ (λ (s : Row) (rs : List Row). s ∷ rs) (same-rest (nat_eq r.id id) f r) (rests id f rows)

placed-row : (same : Bool) (f : Fraction) (r : Row) → IsPlacedRow r → IsPlacedRow (cond same (changed f r) r)
placed-row true f r h = h
placed-row false f r h = h

positive-row : (same : Bool) (f : Fraction) (r : Row) → 0 < f.den → IsPositive r → IsPositive (cond same (changed f r) r)
positive-row true f r h k = h
positive-row false f r h k = k

ids : (id : ℕ) (f : Fraction) (rows : List Row) → map (λ (r : Row). r.id) (map (has_constant id f) rows) ≡ map (λ (r : Row). r.id) rows
ids id f [] = refl
ids id f (r ∷ rows) = ap₂ (λ (n : ℕ) (ns : List ℕ). n ∷ ns) (same-id id f r) (ids id f rows)

pub placed-with : (p : Problem) (row : ℕ) (a : Fraction) → IsWhole p → IsPlaced (with_constant row a p)
placed-with p row a whole =
    let placed = whole-placed p whole in
    record {
      rows = each-onto_map IsPlacedRow (has_constant row a) p.rows (each-impl IsPlacedRow (λ r. IsPlacedRow (has_constant row a r)) p.rows (λ r h. placed-row (nat_eq r.id row) a r h) placed.rows);
      stays = placed.stays;
      rising = pairs-unmapped (λ (r : Row). r.id) (λ (m n : ℕ). m < n) (map (has_constant row a) p.rows)
          (subst (AllPairs (λ (m n : ℕ). m < n)) (sym (ids row a p.rows)) (pairs-map (λ (r : Row). r.id) (λ (m n : ℕ). m < n) p.rows placed.rising));
      apart = placed.apart;
    }

pub positive-with : (p : Problem) (row : ℕ) (b : Fraction) → IsWhole p → 0 < b.den → Each IsPositive (map (has_constant row b) p.rows)
positive-with p row b whole hb =
    each-onto_map IsPositive (has_constant row b) p.rows
    (each-impl IsRow (λ r. IsPositive (has_constant row b r)) p.rows (λ r h. positive-row (nat_eq r.id row) b r hb h.constant.lowest.above) (recursion_from_All IsRow p.rows whole.rows))

pub corner_at_each : CornerAtEach
corner_at_each p row at a b whole ha hb corner =
    keeps-corner (with_constant row a p) (map (has_constant row b) p.rows) at (placed-with p row a whole) (positive-with p row b whole hb) (rests row a p.rows ∙ sym (rests row b p.rows)) corner
