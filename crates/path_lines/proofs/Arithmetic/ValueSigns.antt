-- The signs of the values of inside marks.
use Rattle.std.proofs.Common.{◌≡◌, ◌∙◌, ◌↔◌, ◌⊎◌, ℕ, suc, ◌<◌, ◌≤◌, List, [], ◌∷◌, get_or, length, ℤ, pos, ◌*ℤ◌, ◌<ℤ◌, ◌≤ℤ◌, unsigned_abs, sym, subst, arith, inl, inr, Option, None, Some}
use Rattle.std.proofs.lemmas.List.Elements.{All-from_recursion, recursion_from_All}
use borrow.Author.Differences.{ints}
use Rattle.frac_core.proofs.Integers.{sign_cases}
use Rattle.problem_core.specs.declared.parts.Mark.{Mark}
use Rattle.problem_core.specs.declared.parts.RowName.{RowName}
use Rattle.problem_core.specs.declared.parts.Side.{Side}
use Rattle.problem_core.specs.Layout.{Line, Problem, lines}
use Rattle.problem_core.specs.Corners.{HasNegativeValue, IsCorner, IsIn, NoNegativeValue, Point, StandsAt, one_column, place, place_of}
use Rattle.problem_core.proofs.Forms.{each-impl}
use Rattle.cert_core.specs.Stops.{AreNonnegativeBefore, IsBefore}
use Rattle.corner_laws.proofs.WrittenValues.{value_there}
use Rattle.corner_laws.proofs.ZeroColumns.{all-marks}
use Rattle.corner_lines.specs.LineEquations.{inside_form, sign_of}
use Rattle.corner_lines.proofs.LevelRows.LevelExchanges.{by-sides}
use Rattle.corner_lines.proofs.Lines.LineWritings.{Named, inside-named, mark_writing, no-side}
use Rattle.path_lines.specs.declared.table.Inside.{Inside}
use Rattle.path_lines.specs.Tables.{AreJudged, IsLineAt, IsThere, IsUp, line_count, name_at, numbers_of}
use Rattle.path_lines.proofs.Exchanges.Exchanging.{one_side}
use Rattle.path_lines.proofs.Places.{any_line, name_there}
use Rattle.frac_core.proofs.Numbers.{zero-up as none_up, weakly-up as above_up, up-not-low as not_down, signs-same as signs_same}
use Rattle.problem_core.proofs.Marks.{mark-there as mark_of_column}

-- ---- the value of an inside mark

value_at_point : (p : Problem) (at : List Mark) (name : RowName) (inside : Inside) (x : Point) → IsThere p at → IsLineAt p at name (Some inside) → StandsAt p at x
    → (pos 0 ≤ℤ x.num (place_of name inside.side)) ↔ (pos 0 ≤ℤ (sign_of inside.side *ℤ inside.sum.value.num))
value_at_point p at name inside x there line stands =
    signs_same inside.sum.value.den (x.num (place_of name inside.side)) (sign_of inside.side *ℤ inside.sum.value.num) (x.num one_column) line.1.equation.den_positive x.positive
    (value_there p at (λ y. y (place_of name inside.side)) (unsigned_abs inside.sum.own) (inside_form inside.side name (unsigned_abs inside.sum.own) (numbers_of (lines p) inside.sum.by.items) (lines p)) (sign_of inside.side *ℤ inside.sum.value.num) inside.sum.value.den x
    (mark_writing p at name inside.side (unsigned_abs inside.sum.own) (numbers_of (lines p) inside.sum.by.items) inside.sum.value.num inside.sum.value.den there.whole there.corner line.0 line.1.equation) stands)

-- it is not negative exactly where that of its equation is not, with the mark's sign
pub value_sign : (p : Problem) (at : List Mark) (name : RowName) (inside : Inside) → IsThere p at → IsLineAt p at name (Some inside) → (pos 0 ≤ℤ (sign_of inside.side *ℤ inside.sum.value.num)) ↔ IsUp p at name
value_sign p at name inside there line = (
  λ up x side stands i. subst (λ (s : Side). pos 0 ≤ℤ x.num (place_of name s)) (one_side p at name inside.side side there line.0 i) ((value_at_point p at name inside x there line stands).1 up),
  λ up. (value_at_point p at name inside there.corner.point there line there.corner.stands).0 (up there.corner.point inside.side there.corner.stands line.0),
)

pub outside_is_up : (p : Problem) (at : List Mark) (name : RowName) → IsLineAt p at name None → IsUp p at name
outside_is_up p at name out x side stands i = absurd (no-side at name side out i)

-- ---- all of them

named_place : (name : RowName) (ls : List Line) → Named name ls → (k : ℕ) × (k < length ls) × ((d : Line) → (get_or ls k d).name ≡ name)
named_place name [] n = absurd n
named_place name (l ∷ ls) (inl e) = (0, omega arith, λ d. e)
named_place name (l ∷ ls) (inr n) = let rest = named_place name ls n in (suc rest.0, omega (arith, rest.1), rest.2)

-- the place of an inside mark's line
pub inside_place : (p : Problem) (at : List Mark) (m : Mark) → IsCorner p at → IsIn (place m) at → (k : ℕ) × (k < line_count p) × (name_at p k ≡ m.row)
inside_place p at m corner i =
    let n : (k : ℕ) × (k < length (lines p)) × ((d : Line) → (get_or (lines p) k d).name ≡ m.row) = named_place m.row (lines p) (inside-named p at m.row m.side corner i) in
    (n.0, n.1, sym (name_there p n.0 any_line n.1) ∙ n.2 any_line)

pub up_at_all : (p : Problem) (at : List Mark) (id judged rows : ℕ) → IsThere p at → AreJudged p id judged rows → ((k : ℕ) → k < line_count p → (k < judged) ⊎ (rows ≤ k) → IsUp p at (name_at p k)) → AreNonnegativeBefore p at id
up_at_all p at id judged rows there are all = (
  there.corner.point,
  there.corner.stands,
  All-from_recursion (λ m. IsBefore id m.row → pos 0 ≤ℤ there.corner.point.num (place m)) at
      (each-impl (λ m. IsIn (place m) at) (λ m. IsBefore id m.row → pos 0 ≤ℤ there.corner.point.num (place m)) at
      (λ m i before.
      let k : (k : ℕ) × (k < line_count p) × (name_at p k ≡ m.row) = inside_place p at m there.corner i in
      let up : IsUp p at m.row = subst (λ (n : RowName). IsUp p at n) k.2 (all k.0 k.1 ((are k.0 k.1).1 (subst (λ (n : RowName). IsBefore id n) (sym k.2) before))) in
      up there.corner.point m.side there.corner.stands i)
      (all-marks at)),
)

-- where no judged value is negative, each is so
pub judged_is_up : (p : Problem) (at : List Mark) (id judged rows k : ℕ) (kept : Option Inside) → IsThere p at → AreJudged p id judged rows → k < line_count p → (k < judged) ⊎ (rows ≤ k) → IsLineAt p at (name_at p k) kept → AreNonnegativeBefore p at id → IsUp p at (name_at p k)
judged_is_up p at id judged rows k None there are within judges out up = outside_is_up p at (name_at p k) out
judged_is_up p at id judged rows k (Some inside) there are within judges line up =
    let m : (m : Mark) × (place m ≡ place_of (name_at p k) inside.side) × (IsBefore id m.row → pos 0 ≤ℤ up.0.num (place m)) =
    mark_of_column (λ m. IsBefore id m.row → pos 0 ≤ℤ up.0.num (place m)) at (place_of (name_at p k) inside.side) (recursion_from_All (λ m. IsBefore id m.row → pos 0 ≤ℤ up.0.num (place m)) at up.2) line.0 in
    let row : m.0.row ≡ name_at p k = (by-sides m.0.row (name_at p k) m.0.side inside.side m.1).0 in
    let here : pos 0 ≤ℤ up.0.num (place_of (name_at p k) inside.side) =
    subst (λ (c : ℕ). pos 0 ≤ℤ up.0.num c) m.1 (m.2 (subst (λ (n : RowName). IsBefore id n) (sym row) ((are k within).0 judges))) in
    λ x side stands i.
    (value_sign p at (name_at p k) inside there line).0 ((value_at_point p at (name_at p k) inside up.0 there line up.1).0 here) x side stands i

-- ---- where all are judged

pub judged_all : (p : Problem) (at : List Mark) (k : ℕ) (kept : Option Inside) → IsThere p at → k < line_count p → IsLineAt p at (name_at p k) kept → NoNegativeValue p at → IsUp p at (name_at p k)
judged_all p at k None there within out up = outside_is_up p at (name_at p k) out
judged_all p at k (Some inside) there within line up =
    let m : (m : Mark) × (place m ≡ place_of (name_at p k) inside.side) × (pos 0 ≤ℤ up.0.num (place m)) =
    mark_of_column (λ m. pos 0 ≤ℤ up.0.num (place m)) at (place_of (name_at p k) inside.side) (recursion_from_All (λ m. pos 0 ≤ℤ up.0.num (place m)) at up.2) line.0 in
    (value_sign p at (name_at p k) inside there line).0 ((value_at_point p at (name_at p k) inside up.0 there line up.1).0 (subst (λ (c : ℕ). pos 0 ≤ℤ up.0.num c) m.1 m.2))

pub all_up : (p : Problem) (at : List Mark) → IsThere p at → ((k : ℕ) → k < line_count p → IsUp p at (name_at p k)) → NoNegativeValue p at
all_up p at there all = (
  there.corner.point,
  there.corner.stands,
  All-from_recursion (λ m. pos 0 ≤ℤ there.corner.point.num (place m)) at
      (each-impl (λ m. IsIn (place m) at) (λ m. pos 0 ≤ℤ there.corner.point.num (place m)) at
      (λ m i.
      let k : (k : ℕ) × (k < line_count p) × (name_at p k ≡ m.row) = inside_place p at m there.corner i in
      subst (λ (n : RowName). IsUp p at n) k.2 (all k.0 k.1) there.corner.point m.side there.corner.stands i)
      (all-marks at)),
)

-- ---- a mark with a negative value

below_if : (z : ℤ) → (pos 0 ≤ℤ z → ⊥) → z <ℤ pos 0
below_if z none = elim (sign_cases z) [
  | inl nothing ↦ absurd (none (none_up z nothing))
  | inr (inl above) ↦ absurd (none (above_up z above))
  | inr (inr down) ↦ omega (arith, ints, down)
]

pub down_iff : (p : Problem) (at : List Mark) (mark : Mark) (kept : Option Inside) → IsThere p at → IsLineAt p at mark.row kept → IsIn (place mark) at → (IsUp p at mark.row → ⊥) ↔ HasNegativeValue p at mark
down_iff p at mark None there out inside = absurd (no-side at mark.row mark.side out inside)
down_iff p at mark (Some kept) there line inside = (
  λ none. (
    there.corner.point,
    there.corner.stands,
    below_if (there.corner.point.num (place mark))
        (λ up. none ((value_sign p at mark.row kept there line).0 ((value_at_point p at mark.row kept there.corner.point there line there.corner.stands).0
        (subst (λ (s : Side). pos 0 ≤ℤ there.corner.point.num (place_of mark.row s)) (one_side p at mark.row mark.side kept.side there inside line.0) up)))),
  ),
  λ down up. not_down (down.0.num (place mark)) (up down.0 mark.side down.1 inside) down.2,
)
