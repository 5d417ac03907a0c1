-- The signs of columns, by the reduced costs of all levels.
use Rattle.std.proofs.Common.{◌≡◌, ◌∙◌, ℕ, ◌<◌, List, ℤ, pos, ◌*ℤ◌, ◌≤ℤ◌, ◌<ℤ◌, sym, ap, subst, arith}
use Rattle.std.specs.List.{AllByRecursion as Each}
use Rattle.std.proofs.lemmas.List.Elements.{recursion_from_All}
use borrow.Author.Differences.{ints}
use Rattle.frac_core.proofs.Integers.{zero_from_mul}
use Rattle.problem_core.specs.declared.parts.Mark.{Mark}
use Rattle.problem_core.specs.declared.parts.Side.{Side}
use Rattle.problem_core.specs.Layout.{Problem, lines}
use Rattle.problem_core.specs.Kept.{IsWhole}
use Rattle.problem_core.specs.Certificates.{IsLexNonnegative, Multipliers}
use Rattle.problem_core.specs.Corners.{AreMultipliersAt, HasNegativeColumn, IsLexNegative, NoNegativeColumn, column, place, place_of}
use Rattle.problem_core.specs.Rays.{HasRays}
use Rattle.problem_core.proofs.Wholes.{whole-IsProblem}
use Rattle.problem_core.proofs.Forms.{each-impl}
use Rattle.corner_laws.specs.RunLaws.{AreReduced}
use Rattle.corner_laws.proofs.Swaps.ColumnsStay.{columns-of, sums-AreMultipliersAt, together, column-alike as columns-multiple}
use Rattle.corner_laws.proofs.RunSteps.ColumnSigns.{pick}
use Rattle.corner_laws.proofs.Swaps.DualChoice.{has-sum}
use Rattle.corner_laws.proofs.LevelCosts.Unique.{multipliers_same}
use Rattle.corner_lines.proofs.ColumnsBelow.{low_from}
use Rattle.frac_core.proofs.Numbers.{zero-carried as none_from}

-- ---- by two lists of multipliers

-- the columns by two lists of multipliers are proportional
pub columns_alike : (p : Problem) (at : List Mark) (m n : Multipliers) (side : Side) (level : ℕ) → IsWhole p → HasRays p at → AreMultipliersAt p at m → AreMultipliersAt p at n
    → Each (λ l. pos (m.scale level) *ℤ column n side l level ≡ pos (n.scale level) *ℤ column m side l level) (lines p)
columns_alike p at m n side level whole rays a b =
    each-impl (λ l. pos (m.scale level) *ℤ n.times level l.name ≡ pos (n.scale level) *ℤ m.times level l.name) _ (lines p) (λ l e. columns-multiple m n side l level e)
    (recursion_from_All _ (lines p) (multipliers_same p at m n level whole rays a b))

-- ---- the line of a mark

-- the column of a mark's line is its reduced cost, times the line's scale
pub mark_column : (p : Problem) (at : List Mark) (reduced : ℕ → ℕ → ℤ) → AreReduced p at reduced → (m : Multipliers) × AreMultipliersAt p at m
    × ((side : Side) → Each (λ l. (level : ℕ) → pos l.scale *ℤ reduced level (place_of l.name side) ≡ column m side l level) (lines p))
mark_column p at reduced levels =
    let sums = λ (k : ℕ). has-sum p at k (reduced k) (levels k) in (
      together (λ k. (sums k).0) (λ k. (sums k).1),
      sums-AreMultipliersAt p at (λ k. (sums k).0) (λ k. (sums k).1) reduced (λ k. (sums k).2),
      λ side. recursion_from_All _ (lines p) (columns-of p at (λ k. (sums k).0) (λ k. (sums k).1) reduced (λ k. (sums k).2) side),
    )

-- a mark with a negative column has reduced costs of which the first that isn't 0 is below 0
pub reduced_by_negative : (p : Problem) (at : List Mark) (reduced : ℕ → ℕ → ℤ) (m : Mark) → IsWhole p → HasRays p at → AreReduced p at reduced → HasNegativeColumn p at m → IsLexNegative (λ level. reduced level (place m))
reduced_by_negative p at reduced m whole rays levels (n, is, (k, x, within, found, (e, (level, before, low)))) =
    let own = mark_column p at reduced levels in
    let alike : (j : ℕ) → pos (n.scale j) *ℤ column own.0 m.side x j ≡ pos (own.0.scale j) *ℤ column n m.side x j =
    λ j. pick (λ l. pos (n.scale j) *ℤ column own.0 m.side l j ≡ pos (own.0.scale j) *ℤ column n m.side l j) (lines p) k x (columns_alike p at n own.0 m.side j whole rays is own.1) within found in
    let scaled : (j : ℕ) → pos x.scale *ℤ reduced j (place_of x.name m.side) ≡ column own.0 m.side x j =
    λ j. pick (λ l. (i : ℕ) → pos l.scale *ℤ reduced i (place_of l.name m.side) ≡ column own.0 m.side l i) (lines p) k x (own.2 m.side) within found j in
    let above : 0 < x.scale = (pick (λ l. (0 < l.scale) × (0 < l.den)) (lines p) k x (recursion_from_All _ (lines p) (whole-IsProblem p whole)) within found).0 in
    let none : (j : ℕ) → j < level → reduced j (place_of x.name m.side) ≡ pos 0 =
    λ j less. zero_from_mul x.scale (reduced j (place_of x.name m.side)) above (scaled j ∙ none_from (n.scale j) (own.0.scale j) (column n m.side x j) (column own.0 m.side x j) (is.scales j) (alike j) (before j less)) in
    let down : column own.0 m.side x level <ℤ pos 0 = low_from (n.scale level) (own.0.scale level) (column n m.side x level) (column own.0 m.side x level) (own.1.scales level) (alike level) low in
    let under : reduced level (place_of x.name m.side) <ℤ pos 0 = low_from x.scale 1 (column own.0 m.side x level) (reduced level (place_of x.name m.side)) (omega arith) (scaled level ∙ one (column own.0 m.side x level)) down in (
      level,
      (λ j less. ap (λ (v : ℕ). reduced j v) (sym e) ∙ none j less),
      subst (λ (v : ℕ). reduced level v <ℤ pos 0) e under,
    )
  where
    one : (z : ℤ) → z ≡ pos 1 *ℤ z
    one z = omega (arith, ints)

-- a column that is negative is none by any multipliers
pub not_both_signs : (p : Problem) (at : List Mark) (m : Mark) → IsWhole p → HasRays p at → NoNegativeColumn p at → HasNegativeColumn p at m → ⊥
not_both_signs p at m whole rays (q, other, up) (n, is, (k, x, within, found, (e, (level, before, low)))) =
    let alike : (j : ℕ) → pos (n.scale j) *ℤ column q m.side x j ≡ pos (q.scale j) *ℤ column n m.side x j =
    λ j. pick (λ l. pos (n.scale j) *ℤ column q m.side l j ≡ pos (q.scale j) *ℤ column n m.side l j) (lines p) k x (columns_alike p at n q m.side j whole rays is other) within found in
    let down : column q m.side x level <ℤ pos 0 = low_from (n.scale level) (q.scale level) (column n m.side x level) (column q m.side x level) (other.scales level) (alike level) low in
    let not : pos 0 ≤ℤ column q m.side x level =
    pick (λ l. IsLexNonnegative (column q m.side l)) (lines p) k x (recursion_from_All _ (lines p) (up m.side)) within found level
    (λ j less. none_from (n.scale j) (q.scale j) (column n m.side x j) (column q m.side x j) (is.scales j) (alike j) (before j less)) in
    omega (arith, ints, down, not)
