-- Rows without their weights have the same equations.
use Rattle.std.proofs.Common.{◌≡◌, ◌∙◌, ℕ, ◌-◌, ◌<◌, ◌++◌, Bool, true, false, cond, nat_eq, List, [], ◌∷◌, length, map, pos, refl, sym, ap, ap₂, subst, All, Contains}
use Rattle.std.specs.List.{AllByRecursion as Each}
use Rattle.std.proofs.lemmas.List.Elements.{All-from_recursion, recursion_from_All}
use Rattle.frac_core.proofs.Lists.{each-from_map, each-joined, each-left, each-onto_map, each-right}
use Rattle.problem_core.specs.declared.parts.Mark.{Mark}
use Rattle.problem_core.specs.declared.parts.RowName.TheVariants.{Held}
use Rattle.problem_core.specs.declared.parts.Side.TheVariants.{Under, Over}
use Rattle.problem_core.specs.Layout.{IsProblem, Line, Problem, Row, line_of_row, lines, rank_level, stay_lines, value_at}
use Rattle.problem_core.specs.Kept.{IsWhole}
use Rattle.problem_core.specs.Corners.{Agree, IsCorner, IsIn, Point, StandsAt, attr_column, equation, marks_of, place}
use Rattle.problem_core.specs.Unfit.{lightened, with_first_rows, without_weight}
use Rattle.problem_core.proofs.Forms.{each-impl}
use Rattle.problem_core.proofs.Wholes.{whole-IsProblem}
use Rattle.corner_laws.specs.CornerLaws.{HasLevelWriting}
use Rattle.corner_laws.proofs.CornerRays.{placed_rays}
use Rattle.corner_laws.proofs.LevelCosts.LevelExists.{placed_level_writing}
use Rattle.corner_laws.proofs.LinePlaces.{IsPlaced, IsPlacedRow, whole-placed}
use Rattle.corner_laws.proofs.OtherConstants.{each-by, length-by, pairs-by}

-- ---- rows

-- the same but for their weights
abbrev AreLike : List Row → List Row → Type 0
AreLike xs ys = map without_weight xs ≡ map without_weight ys

chosen : (b : Bool) (r : Row) → without_weight r ≡ without_weight (cond b (without_weight r) r)
chosen true r = refl
chosen false r = refl

next-like : (b c : Bool) (r : Row) (rows some other : List Row) → AreLike rows some → AreLike rows other → AreLike (r ∷ rows) (cond b (cond c (without_weight r) r ∷ some) (r ∷ other))
next-like true c r rows some other f g = ap₂ (λ (s : Row) (ss : List Row). s ∷ ss) (chosen c r) f
next-like false c r rows some other f g = ap (λ (ss : List Row). without_weight r ∷ ss) g

light-like : (k j : ℕ) (rows : List Row) → AreLike rows (lightened k j rows)
light-like k j [] = refl
light-like k j (r ∷ rows) = next-like (nat_eq (rank_level r.rank) k) (nat_eq j 0) r rows (lightened k (j - 1) rows) (lightened k j rows) (light-like k (j - 1) rows) (light-like k j rows)

marks-plain : (rows : List Row) (ls : List Line) → marks_of (map line_of_row (map without_weight rows) ++ ls) ≡ marks_of (map line_of_row rows ++ ls)
marks-plain [] ls = refl
marks-plain (r ∷ rows) ls = ap (λ (ms : List Mark). record { row = Held r.id; side = Under } ∷ record { row = Held r.id; side = Over } ∷ ms) (marks-plain rows ls)

marks-like : (xs ys : List Row) (ls : List Line) → AreLike xs ys → marks_of (map line_of_row xs ++ ls) ≡ marks_of (map line_of_row ys ++ ls)
marks-like xs ys ls same = sym (marks-plain xs ls) ∙ ap (λ (rs : List Row). marks_of (map line_of_row rs ++ ls)) same ∙ marks-plain ys ls

-- what does not speak of weights
lines-like : (P : Line → Type 0) (xs ys : List Row) (ls : List Line) → AreLike xs ys → ((r : Row) → P (line_of_row r) → P (line_of_row (without_weight r))) → ((r : Row) → P (line_of_row (without_weight r)) → P (line_of_row r)) → Each P (map line_of_row xs ++ ls) → Each P (map line_of_row ys ++ ls)
lines-like P xs ys ls same there back h =
    each-joined P (map line_of_row ys) ls
    (each-onto_map P line_of_row ys
    (each-impl (λ r. P (line_of_row (without_weight r))) (λ r. P (line_of_row r)) ys back
    (each-by without_weight (λ r. P (line_of_row r)) xs ys same
    (each-impl (λ r. P (line_of_row r)) (λ r. P (line_of_row (without_weight r))) xs there (each-from_map P line_of_row xs (each-left P (map line_of_row xs) ls h))))))
    (each-right P (map line_of_row xs) ls h)

-- ---- the corner

module _ (p : Problem) (k j : ℕ) where
  abbrev q : Problem
  q = with_first_rows k j p

  same : AreLike p.rows (lightened k j p.rows)
  same = light-like k j p.rows

  same-marks : marks_of (lines p) ≡ marks_of (lines q)
  same-marks = marks-like p.rows (lightened k j p.rows) (stay_lines 1001 p.stays) same

  light-placed : IsPlaced p → IsPlaced q
  light-placed placed = record {
    rows = each-by without_weight IsPlacedRow p.rows (lightened k j p.rows) same placed.rows;
    stays = placed.stays;
    rising = pairs-by without_weight (λ r s. r.id < s.id) p.rows (lightened k j p.rows) same placed.rising;
    apart = placed.apart;
  }

  light-problem : IsProblem p → IsProblem q
  light-problem problem =
      All-from_recursion (λ l. (0 < l.scale) × (0 < l.den)) (lines q)
      (lines-like (λ l. (0 < l.scale) × (0 < l.den)) p.rows (lightened k j p.rows) (stay_lines 1001 p.stays) same (λ r h. h) (λ r h. h) (recursion_from_All (λ l. (0 < l.scale) × (0 < l.den)) (lines p) problem))

  stands-there : (at : List Mark) (x : Point) → StandsAt p at x → StandsAt q at x
  stands-there at x stands = (
    All-from_recursion (λ l. value_at x.num (equation l) ≡ pos 0) (lines q)
        (lines-like (λ l. value_at x.num (equation l) ≡ pos 0) p.rows (lightened k j p.rows) (stay_lines 1001 p.stays) same (λ r h. h) (λ r h. h) (recursion_from_All (λ l. value_at x.num (equation l) ≡ pos 0) (lines p) stands.0)),
    subst (λ (ms : List Mark). All (λ m. (IsIn (place m) at → ⊥) → x.num (place m) ≡ pos 0) ms) same-marks stands.1,
  )

  stands-back : (at : List Mark) (x : Point) → StandsAt q at x → StandsAt p at x
  stands-back at x stands = (
    All-from_recursion (λ l. value_at x.num (equation l) ≡ pos 0) (lines p)
        (lines-like (λ l. value_at x.num (equation l) ≡ pos 0) (lightened k j p.rows) p.rows (stay_lines 1001 p.stays) (sym same) (λ r h. h) (λ r h. h) (recursion_from_All (λ l. value_at x.num (equation l) ≡ pos 0) (lines q) stands.0)),
    subst (λ (ms : List Mark). All (λ m. (IsIn (place m) at → ⊥) → x.num (place m) ≡ pos 0) ms) (sym same-marks) stands.1,
  )

  light-corner : (at : List Mark) → IsCorner p at → IsCorner q at
  light-corner at corner = record {
    count = corner.count ∙ length-by without_weight p.rows (lightened k j p.rows) same;
    marks = subst (λ (ms : List Mark). All (λ m. Contains (map place ms) (place m)) at) same-marks corner.marks;
    apart = corner.apart;
    point = corner.point;
    stands = stands-there at corner.point corner.stands;
    marks_fixed = λ y there. subst (λ (ms : List Mark). All (λ m. Agree (place m) corner.point y) ms) same-marks (corner.marks_fixed y (stands-back at y there));
    attrs_fixed = λ y there. corner.attrs_fixed y (stands-back at y there);
  }

  -- the cost of the level's first rows has a writing
  pub rows-written : (at : List Mark) → IsWhole p → IsCorner p at → HasLevelWriting (with_first_rows k j p) at k
  rows-written at whole corner =
      let placed : IsPlaced q = light-placed (whole-placed p whole) in
      let there : IsCorner q at = light-corner at corner in
      placed_level_writing q at k placed (light-problem (whole-IsProblem p whole)) there (placed_rays q at placed there)
