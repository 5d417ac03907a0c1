-- A level costs the same at each point of a corner.
use Rattle.std.proofs.Common.{◌≡◌, ◌∙◌, ℕ, ◌/◌, ◌<◌, List, ℤ, pos, negsuc, ◌+ℤ◌, ◌*ℤ◌, neg_ℤ, ◌<ℤ◌, sym, ap, arith}
use Rattle.std.specs.List.{AllByRecursion as Each}
use Rattle.std.proofs.lemmas.List.Elements.{recursion_from_All}
use lib.IntN.{*ℤ_comm}
use borrow.Author.Differences.{ints}
use Rattle.frac_core.specs.Fraction.{Fraction, IsLowest}
use Rattle.frac_core.proofs.Integers.{cancel_mul, mul_assoc_ℤ, mul_left_comm_ℤ, mul_positive}
use Rattle.problem_core.specs.declared.parts.Mark.{Mark}
use Rattle.problem_core.specs.declared.parts.Side.TheVariants.{Under, Over}
use Rattle.problem_core.specs.Layout.{IsProblem, Problem, lines}
use Rattle.problem_core.specs.Certificates.{under_weight, over_weight, weight_at}
use Rattle.problem_core.specs.Corners.{Agree, IsCorner, Point, StandsAt, marks_of, one_column, place, place_of}
use Rattle.problem_core.proofs.Forms.{each-impl, each-both, sum-zero}
use Rattle.problem_core.specs.Levels.{IsCostAt, cost_at, line_cost, scales}
use Rattle.corner_laws.proofs.PathEnds.Rises.{cost_linear}
use Rattle.corner_laws.proofs.ZeroColumns.{scales-above}
use Rattle.corner_laws.proofs.PathEnds.Ends.{both_marks}
use Rattle.frac_core.proofs.Fitting.{same-value as same_value}
use Rattle.frac_core.proofs.Numbers.{no-cost, neg-times}

-- ---- points of a corner

-- both are as the corner's point, over their denominators
agree-through : (c : ℕ) (m x1 x y1 y : ℤ) → 0 < c → m *ℤ x1 ≡ x *ℤ pos c → m *ℤ y1 ≡ y *ℤ pos c → x *ℤ y1 ≡ y *ℤ x1
agree-through c m x1 x y1 y above e f =
    cancel_mul c (x *ℤ y1) (y *ℤ x1) above
    (sym (mul_assoc_ℤ (pos c) x y1) ∙ ap (λ (z : ℤ). z *ℤ y1) (*ℤ_comm (pos c) x ∙ sym e) ∙ mul_assoc_ℤ m x1 y1 ∙ ap (λ (z : ℤ). m *ℤ z) (*ℤ_comm x1 y1) ∙ sym (mul_assoc_ℤ m y1 x1)
    ∙ ap (λ (z : ℤ). z *ℤ x1) (f ∙ *ℤ_comm y (pos c)) ∙ mul_assoc_ℤ (pos c) y x1)

agree-both : (c m x1 x y1 y : ℤ) → pos 0 <ℤ c → m *ℤ x1 ≡ x *ℤ c → m *ℤ y1 ≡ y *ℤ c → x *ℤ y1 ≡ y *ℤ x1
agree-both (pos c) m x1 x y1 y above e f = agree-through c m x1 x y1 y (omega (arith, ints, above)) e f
agree-both (negsuc c) m x1 x y1 y above e f = absurd above.lt

pub marks-agree : (p : Problem) (at : List Mark) (x y : Point) → IsCorner p at → StandsAt p at x → StandsAt p at y → Each (λ m. x.num (place m) *ℤ y.num one_column ≡ y.num (place m) *ℤ x.num one_column) (marks_of (lines p))
marks-agree p at x y corner here there =
    each-impl (λ m. Agree (place m) corner.point x × Agree (place m) corner.point y) _ (marks_of (lines p))
    (λ m h. agree-both (corner.point.num one_column) (corner.point.num (place m)) (x.num one_column) (x.num (place m)) (y.num one_column) (y.num (place m)) corner.point.positive h.0 h.1)
    (each-both _ _ (marks_of (lines p)) (recursion_from_All _ (marks_of (lines p)) (corner.marks_fixed x here)) (recursion_from_All _ (marks_of (lines p)) (corner.marks_fixed y there)))

no-step : (a b x y : ℤ) → x *ℤ b ≡ y *ℤ a → a *ℤ y +ℤ neg_ℤ b *ℤ x ≡ pos 0
no-step a b x y e = omega (arith, ints, e, neg-times b x, *ℤ_comm a y, *ℤ_comm b x)

same-from : (a b : ℤ) → a +ℤ neg_ℤ b ≡ pos 0 → a ≡ b
same-from a b e = omega (arith, ints, e)

-- the cost at one point, over its denominator, is that at the other
pub costs-agree : (p : Problem) (at : List Mark) (level : ℕ) (x y : Point) → IsCorner p at → StandsAt p at x → StandsAt p at y → x.num one_column *ℤ cost_at p level y.num ≡ y.num one_column *ℤ cost_at p level x.num
costs-agree p at level x y corner here there =
    same-from (x.num one_column *ℤ cost_at p level y.num) (y.num one_column *ℤ cost_at p level x.num)
    (ap (λ (z : ℤ). x.num one_column *ℤ cost_at p level y.num +ℤ z) (sym (neg-times (y.num one_column) (cost_at p level x.num)))
    ∙ sym (cost_linear p level (x.num one_column) (neg_ℤ (y.num one_column)) y.num x.num)
    ∙ sum-zero (λ l. pos (scales p / l.scale) *ℤ line_cost level (λ v. x.num one_column *ℤ y.num v +ℤ neg_ℤ (y.num one_column) *ℤ x.num v) l) (lines p)
    (each-impl (λ l. (x.num (place_of l.name Under) *ℤ y.num one_column ≡ y.num (place_of l.name Under) *ℤ x.num one_column) × (x.num (place_of l.name Over) *ℤ y.num one_column ≡ y.num (place_of l.name Over) *ℤ x.num one_column)) _ (lines p)
    (λ l h. no-cost (scales p / l.scale) (under_weight l.rel (weight_at l level)) (over_weight l.rel (weight_at l level)) (x.num one_column *ℤ y.num (place_of l.name Under) +ℤ neg_ℤ (y.num one_column) *ℤ x.num (place_of l.name Under)) (x.num one_column *ℤ y.num (place_of l.name Over) +ℤ neg_ℤ (y.num one_column) *ℤ x.num (place_of l.name Over))
    (no-step (x.num one_column) (y.num one_column) (x.num (place_of l.name Under)) (y.num (place_of l.name Under)) h.0)
    (no-step (x.num one_column) (y.num one_column) (x.num (place_of l.name Over)) (y.num (place_of l.name Over)) h.1))
    (both_marks (λ c. x.num c *ℤ y.num one_column ≡ y.num c *ℤ x.num one_column) (lines p) (marks-agree p at x y corner here there))))

moved-over : (X : ℕ) (y1 cx cy fn s : ℤ) (fd : ℕ) → 0 < X → pos X *ℤ cy ≡ y1 *ℤ cx → cx *ℤ pos fd ≡ fn *ℤ (s *ℤ pos X) → cy *ℤ pos fd ≡ fn *ℤ (s *ℤ y1)
moved-over X y1 cx cy fn s fd above e f =
    cancel_mul X (cy *ℤ pos fd) (fn *ℤ (s *ℤ y1)) above
    (sym (mul_assoc_ℤ (pos X) cy (pos fd)) ∙ ap (λ (z : ℤ). z *ℤ pos fd) e ∙ mul_assoc_ℤ y1 cx (pos fd) ∙ ap (λ (z : ℤ). y1 *ℤ z) f
    ∙ mul_left_comm_ℤ y1 fn (s *ℤ pos X) ∙ ap (λ (z : ℤ). fn *ℤ z) (mul_left_comm_ℤ y1 s (pos X) ∙ ap (λ (z : ℤ). s *ℤ z) (*ℤ_comm y1 (pos X)) ∙ mul_left_comm_ℤ s (pos X) y1)
    ∙ mul_left_comm_ℤ fn (pos X) (s *ℤ y1))

moved-ratio : (x1 y1 cx cy fn s : ℤ) (fd : ℕ) → pos 0 <ℤ x1 → x1 *ℤ cy ≡ y1 *ℤ cx → cx *ℤ pos fd ≡ fn *ℤ (s *ℤ x1) → cy *ℤ pos fd ≡ fn *ℤ (s *ℤ y1)
moved-ratio (pos X) y1 cx cy fn s fd above e f = moved-over X y1 cx cy fn s fd (omega (arith, ints, above)) e f
moved-ratio (negsuc X) y1 cx cy fn s fd above e f = absurd above.lt

-- the cost at any point of the corner
pub cost_everywhere : (p : Problem) (at : List Mark) (level : ℕ) (f : Fraction) (y : Point) → IsCorner p at → IsCostAt p at level f → StandsAt p at y → cost_at p level y.num *ℤ pos f.den ≡ f.num *ℤ (pos (scales p) *ℤ y.num one_column)
cost_everywhere p at level f y corner (x, here, e) there =
    moved-ratio (x.num one_column) (y.num one_column) (cost_at p level x.num) (cost_at p level y.num) f.num (pos (scales p)) f.den x.positive (costs-agree p at level x y corner here there) e

-- one cost has one fraction in lowest terms
pub cost_same : (p : Problem) (at : List Mark) (level : ℕ) (f g : Fraction) → IsProblem p → IsCorner p at → IsLowest f → IsLowest g → IsCostAt p at level f → IsCostAt p at level g → f ≡ g
cost_same p at level f g problem corner low_f low_g is_f (y, there, e) =
    same_value f g (cost_at p level y.num) (pos (scales p) *ℤ y.num one_column) (mul_positive (scales p) (y.num one_column) (scales-above p problem) y.positive) low_f low_g
    (sym (cost_everywhere p at level f y corner is_f there)) (sym e)
