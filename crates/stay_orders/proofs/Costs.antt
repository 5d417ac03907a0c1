-- The cost of a priority level in another order of the stays.
use Rattle.std.proofs.Common.{◌≡◌, ℕ, ◌+◌, ◌*◌, ◌/◌, ◌<◌, ◌≤◌, arith, List, [], ◌∷◌, ◌++◌, refl, map, sym, ap, subst, ◌∙◌, ℤ, pos, ◌+ℤ◌, ◌*ℤ◌}
use Rattle.frac_core.specs.Fraction.{Fraction}
use Rattle.problem_core.specs.declared.parts.Mark.{Mark}
use Rattle.problem_core.specs.declared.parts.Side.TheVariants.{Under, Over}
use Rattle.problem_core.specs.declared.parts.Rel.TheVariants.{Eq}
use Rattle.problem_core.specs.declared.parts.RowName.TheVariants.{Stay as StayOf}
use Rattle.problem_core.specs.declared.parts.Stay.{Stay}
use Rattle.problem_core.specs.Certificates.{under_weight, over_weight, weight_at}
use Rattle.problem_core.specs.Corners.{one_column, place_of}
use Rattle.problem_core.specs.Layout.{Line, Problem, line_of_row, line_of_stay, lines, product_of, stay_lines, sum_of}
use Rattle.problem_core.specs.Levels.{IsCostAt, cost_at, line_cost, scales}
use Rattle.stay_orders.specs.Orders.{fronted, with_front}
use Rattle.stay_orders.proofs.Corners.{stands}
use Rattle.stay_orders.proofs.LevelRows.{IsLevelless, lines_sum, same_weight}

ones : (n : ℕ) (stays : List Stay) → product_of (λ l. l.scale) (stay_lines n stays) ≡ 1
ones n [] = refl
ones n (s ∷ stays) = let h = ones (n + 1) stays in omega (arith, h)

by-ones : (ls ms : List Line) → product_of (λ l. l.scale) ms ≡ 1 → product_of (λ l. l.scale) (ls ++ ms) ≡ product_of (λ l. l.scale) ls
by-ones [] ms h = h
by-ones (l ∷ ls) ms h = ap (λ (n : ℕ). l.scale * n) (by-ones ls ms h)

same_scales : (attrs : List ℕ) (p : Problem) → scales (fronted attrs p) ≡ scales p
same_scales attrs p =
    by-ones (map line_of_row p.rows) (stay_lines 1001 (with_front attrs p.stays)) (ones 1001 (with_front attrs p.stays))
    ∙ sym (by-ones (map line_of_row p.rows) (stay_lines 1001 p.stays) (ones 1001 p.stays))

-- what a line adds, where n is the common multiple of the scales
abbrev part : ℕ → ℕ → (ℕ → ℤ) → Line → ℤ
part n level x l = pos (n / l.scale) *ℤ line_cost level x l

levelless : (n level : ℕ) (x : ℕ → ℤ) → level < 1001 → IsLevelless (part n level x)
levelless n level x below j k s up above =
    ap (λ (w : ℕ). pos (n / 1) *ℤ (pos (under_weight Eq w) *ℤ x (place_of (StayOf s.attr) Under) +ℤ pos (over_weight Eq w) *ℤ x (place_of (StayOf s.attr) Over)))
    (same_weight j k level s below up above)

same_cost : (attrs : List ℕ) (p : Problem) (level : ℕ) (x : ℕ → ℤ) → level < 1001 → cost_at (fronted attrs p) level x ≡ cost_at p level x
same_cost attrs p level x below =
    ap (λ (n : ℕ). sum_of (part n level x) (lines (fronted attrs p))) (same_scales attrs p)
    ∙ lines_sum (part (scales p) level x) (levelless (scales p) level x below) attrs p

pub costs : (attrs : List ℕ) (p : Problem) (at : List Mark) (level : ℕ) (f : Fraction) → level < 1001 → IsCostAt p at level f → IsCostAt (fronted attrs p) at level f
costs attrs p at level f below (x, there, is) = (
  x,
  (stands attrs p at x).to there,
  ap (λ (z : ℤ). z *ℤ pos f.den) (same_cost attrs p level x.num below) ∙ is
      ∙ ap (λ (n : ℕ). f.num *ℤ (pos n *ℤ x.num one_column)) (sym (same_scales attrs p)),
)
