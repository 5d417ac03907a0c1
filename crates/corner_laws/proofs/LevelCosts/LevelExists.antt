-- At a corner each level has multipliers, and its cost a writing.
use Rattle.std.proofs.Common.{◌≡◌, ◌≢◌, ◌∙◌, ℕ, suc, ◌+◌, ◌*◌, ◌/◌, ◌<◌, List, [], ◌∷◌, ℤ, pos, negsuc, ◌+ℤ◌, ◌-ℤ◌, ◌*ℤ◌, neg_ℤ, ◌<ℤ◌, unsigned_abs, refl, sym, ap, ap₂, subst, arith, inl, inr, All, mul_comm, mul-pos}
use Rattle.std.specs.Int.{◌∣◌}
use Rattle.std.specs.List.{AllByRecursion as Each}
use Rattle.std.proofs.lemmas.Bool.{cases_eq}
use Rattle.std.proofs.lemmas.Int.{unsigned_abs-mul}
use Rattle.std.proofs.lemmas.List.Elements.{All-from_recursion, recursion_from_All}
use Rattle.std.proofs.Math.Nat.{div-mul_cancel, mul-dvd-mul_right, pos_of_dvd_of_pos}
use lib.IntN.{*ℤ_comm}
use borrow.Author.Differences.{ints}
use Rattle.frac_core.proofs.Integers.{add-mul_right, mul_assoc_ℤ, mul-add_left, mul-sub_left, mul-zero_ℤ}
use Rattle.problem_core.specs.declared.parts.Mark.{Mark}
use Rattle.problem_core.specs.declared.parts.RowName.{RowName}
use Rattle.problem_core.specs.declared.parts.Side.{Side}
use Rattle.problem_core.specs.declared.parts.Side.TheVariants.{Under, Over}
use Rattle.problem_core.specs.declared.parts.Term.{Term}
use Rattle.problem_core.specs.Layout.{IsProblem, Line, Problem, coefficient, lines, sum_of, value_at}
use Rattle.problem_core.specs.Kept.{IsWhole}
use Rattle.problem_core.specs.Certificates.{Multipliers, over_weight, under_weight, weight_at}
use Rattle.problem_core.specs.Corners.{AreMultipliersAt, IsCorner, IsIn, Point, Solves, attr_column, column, equation, one_column, place_of}
use Rattle.problem_core.specs.Levels.{IsLevelWriting, alone, cost_at, line_cost, scales}
use Rattle.problem_core.specs.Rays.{HasRays}
use Rattle.problem_core.proofs.Forms.{each-impl, each-both, mul-sum, sum-add, sum-zero, value-plus, value-scaled}
use Rattle.problem_core.proofs.Corners.Tableaus.{unit_at}
use Rattle.problem_core.proofs.Wholes.{whole-IsProblem}
use Rattle.corner_laws.specs.Equations.{AreLowestNumbers, IsEquationOf, IsLevelSum}
use Rattle.corner_laws.specs.Laws.{IsFixedAt, IsLinear}
use Rattle.corner_laws.proofs.Swaps.ColumnsStay.{sums-AreMultipliersAt, together}
use Rattle.corner_laws.proofs.Counting.{IsSmall, bump, bump_other, bump_under, over_next, sides_apart, unit_value}
use Rattle.corner_laws.proofs.MarkWritings.Directions.{attr_ray, bump-direction, each-of, no-attr, none-unless, only-first, only-rest, placed-direction, placed-mark, spread, spread-none, spread-own, spread-value}
use Rattle.corner_laws.proofs.LevelCosts.Equal.{writing_from_level}
use Rattle.corner_laws.proofs.LevelCosts.Gaps.{shares}
use Rattle.corner_laws.proofs.LinePlaces.{IsPlaced, IsSmallLine, placed_apart, placed_attrs, placed_small, sum-single, whole-placed}
use Rattle.corner_laws.proofs.MarkWritings.Linear.{equation_exists}
use Rattle.corner_laws.proofs.MarkWritings.LowestForms.{marks_are_fixed, pos-quotient, shared}
use Rattle.corner_laws.proofs.PathEnds.Rises.{cost_linear}
use Rattle.corner_laws.proofs.RunSteps.RunCosts.{cost_none}
use Rattle.corner_laws.proofs.ZeroColumns.{IsDirection, bump-over, scales-above}
use Rattle.problem_core.proofs.Corners.Conflicts.{sum-each}
use Rattle.frac_core.proofs.Numbers.{no-cost as none-cost, times-zero as no-part, only-one, neg-times}
use Rattle.frac_core.proofs.Bools.{count-other as cond_other, count-same as cond_same}

-- ---- the level's cost is a quantity that the corner fixes

from-none : (a b x y : ℤ) → a *ℤ x +ℤ neg_ℤ b *ℤ y ≡ pos 0 → x *ℤ a ≡ y *ℤ b
from-none a b x y h = omega (arith, ints, h, neg-times b y, *ℤ_comm x a, *ℤ_comm y b)

crossed-none : (a b x y : ℤ) → x *ℤ a ≡ y *ℤ b → a *ℤ x +ℤ neg_ℤ b *ℤ y ≡ pos 0
crossed-none a b x y h = omega (arith, ints, h, neg-times b y, *ℤ_comm x a, *ℤ_comm y b)

pub cost_fixed : (p : Problem) (at : List Mark) (level : ℕ) → IsCorner p at → IsFixedAt p at (cost_at p level)
cost_fixed p at level corner x y here there =
    from-none (y.num one_column) (x.num one_column) (cost_at p level x.num) (cost_at p level y.num)
    (sym (cost_linear p level (y.num one_column) (neg_ℤ (x.num one_column)) x.num y.num)
    ∙ cost_none p level (λ v. y.num one_column *ℤ x.num v +ℤ neg_ℤ (x.num one_column) *ℤ y.num v)
    (λ v mark. crossed-none (y.num one_column) (x.num one_column) (x.num v) (y.num v) (marks_are_fixed p at v corner mark x y here there)))

cost-IsLinear : (p : Problem) (level : ℕ) → IsLinear (cost_at p level)
cost-IsLinear p level a b x y = cost_linear p level a b x y

-- ---- along a direction

along-equation : (s : ℕ) (q r f g c o e : ℤ) → e ≡ pos 0 → pos s *ℤ q ≡ f +ℤ c *ℤ o → pos s *ℤ (pos 1 *ℤ q +ℤ pos 1 *ℤ r) ≡ (pos 1 *ℤ f +ℤ pos 1 *ℤ g) +ℤ c *ℤ (pos 1 *ℤ o +ℤ pos 1 *ℤ e) → pos s *ℤ r ≡ g
along-equation s q r f g c o e none a b =
    let i : pos 1 *ℤ q +ℤ pos 1 *ℤ r ≡ q +ℤ r = omega (arith, ints) in
    let j : pos s *ℤ (pos 1 *ℤ q +ℤ pos 1 *ℤ r) ≡ pos s *ℤ q +ℤ pos s *ℤ r = ap (λ (z : ℤ). pos s *ℤ z) i ∙ mul-add_left (pos s) q r in
    let k : c *ℤ (pos 1 *ℤ o +ℤ pos 1 *ℤ e) ≡ c *ℤ o = ap (λ (z : ℤ). c *ℤ z) (let h : pos 1 *ℤ o +ℤ pos 1 *ℤ e ≡ o = omega (arith, ints, none) in h) in
    omega (arith, ints, a, b, j, k)

still-up : (o e : ℤ) → e ≡ pos 0 → pos 0 <ℤ o → pos 0 <ℤ (pos 1 *ℤ o +ℤ pos 1 *ℤ e)
still-up o e none h = omega (arith, ints, none, h)

once-none : (a b : ℤ) → a ≡ pos 0 → b ≡ pos 0 → pos 1 *ℤ a +ℤ pos 1 *ℤ b ≡ pos 0
once-none a b e f = omega (arith, ints, e, f)

equation_along : (p : Problem) (at : List Mark) (quantity : (ℕ → ℤ) → ℤ) (scale : ℕ) (form : List Term) (const : ℤ) (x : Point) (n : ℕ → ℤ) → Solves p x → IsLinear quantity → IsEquationOf p at quantity scale form const → IsDirection p n → pos scale *ℤ quantity n ≡ value_at n form
equation_along p at quantity scale form const x n solves linear e d =
    let y : Point = record { num = λ v. pos 1 *ℤ x.num v +ℤ pos 1 *ℤ n v; positive = still-up (x.num one_column) (n one_column) d.still x.positive } in
    let there : Solves p y =
    All-from_recursion (λ l. value_at y.num (equation l) ≡ pos 0) (lines p)
    (each-impl (λ l. (value_at x.num (equation l) ≡ pos 0) × (value_at n (equation l) ≡ pos 0)) _ (lines p)
    (λ l h. value-plus (λ v. pos 1 *ℤ x.num v) (λ v. pos 1 *ℤ n v) (equation l) ∙ ap₂ ◌+ℤ◌ (value-scaled (pos 1) x.num (equation l)) (value-scaled (pos 1) n (equation l)) ∙ once-none (value_at x.num (equation l)) (value_at n (equation l)) h.0 h.1)
    (each-both _ _ (lines p) (recursion_from_All _ (lines p) solves) (recursion_from_All _ (lines p) d.holds))) in
    along-equation scale (quantity x.num) (quantity n) (value_at x.num form) (value_at n form) const (x.num one_column) (n one_column) d.still (e.holds x solves)
    (ap (λ (z : ℤ). pos scale *ℤ z) (sym (linear (pos 1) (pos 1) x.num n)) ∙ e.holds y there
    ∙ ap (λ (z : ℤ). z +ℤ const *ℤ y.num one_column) (value-plus (λ v. pos 1 *ℤ x.num v) (λ v. pos 1 *ℤ n v) form ∙ ap₂ ◌+ℤ◌ (value-scaled (pos 1) x.num form) (value-scaled (pos 1) n form)))

-- ---- both deviations of a line

abbrev share : Problem → Line → ℕ
share p l = scales p / l.scale

abbrev under_at : ℕ → Line → ℕ
under_at level l = under_weight l.rel (weight_at l level)

abbrev over_at : ℕ → Line → ℕ
over_at level l = over_weight l.rel (weight_at l level)

both-cost : (q w v : ℕ) (a b : ℤ) → a ≡ pos 1 → b ≡ pos 1 → pos q *ℤ (pos w *ℤ a +ℤ pos v *ℤ b) ≡ pos (q * (w + v))
both-cost q w v a b e f =
    ap₂ (λ (y z : ℤ). pos q *ℤ (pos w *ℤ y +ℤ pos v *ℤ z)) e f
    ∙ ap (λ (z : ℤ). pos q *ℤ z) (let h : pos w *ℤ pos 1 +ℤ pos v *ℤ pos 1 ≡ pos (w + v) = omega (arith, ints) in h)

cost_of_both : (p : Problem) (level : ℕ) → IsPlaced p → Each (λ l. cost_at p level (bump l.name) ≡ pos (share p l * (under_at level l + over_at level l))) (lines p)
cost_of_both p level placed =
    each-impl (λ k. cost_at p level (bump k.name) ≡ pos (share p k) *ℤ line_cost level (bump k.name) k) _ (lines p)
    (λ k e. e ∙ both-cost (share p k) (under_at level k) (over_at level k) (bump k.name (place_of k.name Under)) (bump k.name (place_of k.name Over)) (bump_under k.name) (bump-over k.name))
    (sum-single (λ k l. pos (share p l) *ℤ line_cost level (bump k.name) l)
    (λ k l a. none-cost (share p l) (under_at level l) (over_at level l) (bump k.name (place_of l.name Under)) (bump k.name (place_of l.name Over))
    (bump_other k.name (place_of l.name Under) (λ e. a.under_under (sym e)) (λ e. a.over_under (sym e)))
    (bump_other k.name (place_of l.name Over) (λ e. a.under_over (sym e)) (λ e. a.over_over (sym e))))
    (lines p) (placed_apart p placed))

-- ---- one attribute

ray_at_lines : (p : Problem) (v : ℕ) → IsPlaced p → Each (λ l. (attr_ray v (lines p) (place_of l.name Under) ≡ neg_ℤ (coefficient v l.form)) × (attr_ray v (lines p) (place_of l.name Over) ≡ pos 0)) (lines p)
ray_at_lines p v placed =
    each-impl (λ l. IsSmallLine l × (spread v (lines p) (place_of l.name Under) ≡ coefficient v l.form)) _ (lines p)
    (λ l h. (
      only-rest (unit_at (attr_column v) (place_of l.name Under)) (spread v (lines p) (place_of l.name Under)) (coefficient v l.form) (cond_other (place_of l.name Under) (attr_column v) (pos 1) (λ e. absurd (omega (arith, h.0.under, e)))) h.1,
      only-first (unit_at (attr_column v) (place_of l.name Over)) (spread v (lines p) (place_of l.name Over)) (spread-none v (place_of l.name Over) (lines p) (each-of (λ k. place_of l.name Over ≢ place_of k.name Under) (lines p) (λ k. sides_apart l.name k.name)))
          ∙ cond_other (place_of l.name Over) (attr_column v) (pos 1) (λ e. absurd (omega (arith, h.0.over, e))),
    ))
    (each-both _ _ (lines p) (placed_small p placed) (spread-own v (lines p) (placed_apart p placed)))

under-cost : (q w v : ℕ) (a b c : ℤ) → a ≡ neg_ℤ c → b ≡ pos 0 → pos q *ℤ (pos w *ℤ a +ℤ pos v *ℤ b) ≡ negsuc 0 *ℤ (pos (q * w) *ℤ c)
under-cost q w v a b c e f =
    let g : pos v *ℤ b ≡ pos 0 = ap (λ (z : ℤ). pos v *ℤ z) f ∙ mul-zero_ℤ (pos v) in
    let h : pos w *ℤ a ≡ neg_ℤ (pos w *ℤ c) = ap (λ (z : ℤ). pos w *ℤ z) e ∙ *ℤ_comm (pos w) (neg_ℤ c) ∙ neg-times c (pos w) ∙ ap neg_ℤ (*ℤ_comm c (pos w)) in
    let i : pos q *ℤ (pos w *ℤ a +ℤ pos v *ℤ b) ≡ pos q *ℤ neg_ℤ (pos w *ℤ c) = ap (λ (z : ℤ). pos q *ℤ z) (let t : pos w *ℤ a +ℤ pos v *ℤ b ≡ neg_ℤ (pos w *ℤ c) = omega (arith, ints, g, h) in t) in
    let j : pos q *ℤ neg_ℤ (pos w *ℤ c) ≡ neg_ℤ (pos (q * w) *ℤ c) = *ℤ_comm (pos q) (neg_ℤ (pos w *ℤ c)) ∙ neg-times (pos w *ℤ c) (pos q) ∙ ap neg_ℤ (*ℤ_comm (pos w *ℤ c) (pos q) ∙ sym (mul_assoc_ℤ (pos q) (pos w) c)) in
    let k : negsuc 0 *ℤ (pos (q * w) *ℤ c) ≡ neg_ℤ (pos (q * w) *ℤ c) = omega (arith, ints) in
    i ∙ j ∙ sym k

-- what the under deviations cost, each as often as the attribute is in its line
abbrev attr_cost : Problem → ℕ → ℕ → ℤ
attr_cost p level v = sum_of (λ l. pos (share p l * under_at level l) *ℤ coefficient v l.form) (lines p)

cost_of_attr : (p : Problem) (level v : ℕ) → IsPlaced p → cost_at p level (attr_ray v (lines p)) ≡ negsuc 0 *ℤ attr_cost p level v
cost_of_attr p level v placed =
    sum-each (λ l. pos (share p l) *ℤ line_cost level (attr_ray v (lines p)) l) (λ l. negsuc 0 *ℤ (pos (share p l * under_at level l) *ℤ coefficient v l.form)) (lines p)
    (each-impl (λ l. (attr_ray v (lines p) (place_of l.name Under) ≡ neg_ℤ (coefficient v l.form)) × (attr_ray v (lines p) (place_of l.name Over) ≡ pos 0)) _ (lines p)
    (λ l h. under-cost (share p l) (under_at level l) (over_at level l) (attr_ray v (lines p) (place_of l.name Under)) (attr_ray v (lines p) (place_of l.name Over)) (coefficient v l.form) h.0 h.1)
    (ray_at_lines p v placed))
    ∙ mul-sum (negsuc 0) (λ l. pos (share p l * under_at level l) *ℤ coefficient v l.form) (lines p)

-- ---- the multipliers

-- what the line's under deviation costs, `scale` times
abbrev heavy : Problem → ℕ → ℕ → RowName → ℤ
heavy p level scale name = sum_of (λ l. pos (scale * (share p l * under_at level l)) *ℤ unit_at (place_of l.name Under) (place_of name Under)) (lines p)

heavy_own : (p : Problem) (level scale : ℕ) → IsPlaced p → Each (λ l. heavy p level scale l.name ≡ pos (scale * (share p l * under_at level l))) (lines p)
heavy_own p level scale placed =
    each-impl (λ k. heavy p level scale k.name ≡ pos (scale * (share p k * under_at level k)) *ℤ unit_at (place_of k.name Under) (place_of k.name Under)) _ (lines p)
    (λ k e. e ∙ ap (λ (z : ℤ). pos (scale * (share p k * under_at level k)) *ℤ z) (cond_same (place_of k.name Under) (place_of k.name Under) (pos 1) refl) ∙ (let h : pos (scale * (share p k * under_at level k)) *ℤ pos 1 ≡ pos (scale * (share p k * under_at level k)) = omega (arith, ints) in h))
    (sum-single (λ k l. pos (scale * (share p l * under_at level l)) *ℤ unit_at (place_of l.name Under) (place_of k.name Under))
    (λ k l a. no-part (pos (scale * (share p l * under_at level l))) (unit_at (place_of l.name Under) (place_of k.name Under)) (cond_other (place_of k.name Under) (place_of l.name Under) (pos 1) a.under_under))
    (lines p) (placed_apart p placed))

abbrev times_by : Problem → ℕ → ℕ → List Term → RowName → ℤ
times_by p level scale form name = heavy p level scale name -ℤ coefficient (place_of name Under) form

split-part : (s h : ℕ) (f c : ℤ) → (pos (s * h) -ℤ f) *ℤ c ≡ pos s *ℤ (pos h *ℤ c) +ℤ negsuc 0 *ℤ (c *ℤ f)
split-part s h f c =
    let a : (pos (s * h) +ℤ neg_ℤ f) *ℤ c ≡ pos (s * h) *ℤ c +ℤ neg_ℤ f *ℤ c = add-mul_right (pos (s * h)) (neg_ℤ f) c in
    let b : pos (s * h) -ℤ f ≡ pos (s * h) +ℤ neg_ℤ f = omega (arith, ints) in
    let d : neg_ℤ f *ℤ c ≡ negsuc 0 *ℤ (c *ℤ f) = neg-times f c ∙ ap neg_ℤ (*ℤ_comm f c) ∙ (let t : neg_ℤ (c *ℤ f) ≡ negsuc 0 *ℤ (c *ℤ f) = omega (arith, ints) in t) in
    ap (λ (z : ℤ). z *ℤ c) b ∙ a ∙ ap₂ ◌+ℤ◌ (mul_assoc_ℤ (pos s) (pos h) c) d

sum-closed : (s : ℕ) (h t f : ℤ) → f ≡ pos 0 → pos s *ℤ (negsuc 0 *ℤ h) ≡ f +ℤ negsuc 0 *ℤ t → pos s *ℤ h +ℤ negsuc 0 *ℤ t ≡ pos 0
sum-closed s h t f none e =
    let a : negsuc 0 *ℤ h ≡ neg_ℤ h = omega (arith, ints) in
    let b : pos s *ℤ neg_ℤ h ≡ neg_ℤ (pos s *ℤ h) = *ℤ_comm (pos s) (neg_ℤ h) ∙ neg-times h (pos s) ∙ ap neg_ℤ (*ℤ_comm h (pos s)) in
    let c : pos s *ℤ (negsuc 0 *ℤ h) ≡ pos s *ℤ neg_ℤ h = ap (λ (z : ℤ). pos s *ℤ z) a in
    omega (arith, ints, a, b, c, none, e)

times_cancel : (p : Problem) (at : List Mark) (level scale : ℕ) (form : List Term) (const : ℤ) (x : Point) → IsPlaced p → Solves p x → IsEquationOf p at (cost_at p level) scale form const → (v : ℕ) → sum_of (λ l. times_by p level scale form l.name *ℤ coefficient v l.form) (lines p) ≡ pos 0
times_cancel p at level scale form const x placed solves e v =
    elim (cases_eq v (attr_column 0)) [
      | inl q ↦
          sum-zero (λ l. times_by p level scale form l.name *ℤ coefficient v l.form) (lines p)
          (each-impl (λ l. Each (λ t. t.attr < attr_column 0) l.form) _ (lines p) (λ l h. no-part (times_by p level scale form l.name) (coefficient v l.form) (no-attr v l.form h q)) (placed_attrs p placed))
      | inr ne ↦
          let moves : pos scale *ℤ (negsuc 0 *ℤ attr_cost p level v) ≡ coefficient (attr_column v) form +ℤ negsuc 0 *ℤ sum_of (λ l. coefficient v l.form *ℤ coefficient (place_of l.name Under) form) (lines p) =
          ap (λ (z : ℤ). pos scale *ℤ z) (sym (cost_of_attr p level v placed))
          ∙ equation_along p at (cost_at p level) scale form const x (attr_ray v (lines p)) solves (cost-IsLinear p level) e (placed-direction p v placed ne)
          ∙ value-plus (unit_at (attr_column v)) (λ u. negsuc 0 *ℤ spread v (lines p) u) form
          ∙ ap₂ ◌+ℤ◌ (unit_value (attr_column v) form) (value-scaled (negsuc 0) (spread v (lines p)) form ∙ ap (λ (z : ℤ). negsuc 0 *ℤ z) (spread-value v (lines p) form)) in
          sum-each (λ l. times_by p level scale form l.name *ℤ coefficient v l.form) (λ l. pos scale *ℤ (pos (share p l * under_at level l) *ℤ coefficient v l.form) +ℤ negsuc 0 *ℤ (coefficient v l.form *ℤ coefficient (place_of l.name Under) form)) (lines p)
          (each-impl (λ l. heavy p level scale l.name ≡ pos (scale * (share p l * under_at level l))) _ (lines p)
          (λ l h. ap (λ (z : ℤ). (z -ℤ coefficient (place_of l.name Under) form) *ℤ coefficient v l.form) h ∙ split-part scale (share p l * under_at level l) (coefficient (place_of l.name Under) form) (coefficient v l.form))
          (heavy_own p level scale placed))
          ∙ sum-add (λ l. pos scale *ℤ (pos (share p l * under_at level l) *ℤ coefficient v l.form)) (λ l. negsuc 0 *ℤ (coefficient v l.form *ℤ coefficient (place_of l.name Under) form)) (lines p)
          ∙ ap₂ ◌+ℤ◌ (mul-sum (pos scale) (λ l. pos (share p l * under_at level l) *ℤ coefficient v l.form) (lines p)) (mul-sum (negsuc 0) (λ l. coefficient v l.form *ℤ coefficient (place_of l.name Under) form) (lines p))
          ∙ sum-closed scale (attr_cost p level v) (sum_of (λ l. coefficient v l.form *ℤ coefficient (place_of l.name Under) form) (lines p)) (coefficient (attr_column v) form)
          (none-unless p at form (attr_column v) e.outside (λ o. let h = placed-mark p (attr_column v) placed o.0 in absurd (omega (arith, h))))
          moves
    ]

-- ---- the columns

under-column : (k s q w total : ℕ) (c t : ℤ) → q * k ≡ total → t ≡ pos (s * (q * w)) -ℤ c → pos k *ℤ c ≡ pos (s * total * w) -ℤ pos k *ℤ t
under-column k s q w total c t e h =
    let a : pos k *ℤ t ≡ pos k *ℤ pos (s * (q * w)) -ℤ pos k *ℤ c = ap (λ (z : ℤ). pos k *ℤ z) h ∙ mul-sub_left (pos k) (pos (s * (q * w))) c in
    let n : k * (s * (q * w)) ≡ s * (q * k) * w = omega arith in
    let b : pos k *ℤ pos (s * (q * w)) ≡ pos (s * total * w) = ap pos (n ∙ ap (λ (m : ℕ). s * m * w) e) in
    omega (arith, ints, a, b)

over-column : (k s q w v total : ℕ) (c d t : ℤ) → q * k ≡ total → t ≡ pos (s * (q * w)) -ℤ c → c +ℤ d ≡ pos s *ℤ pos (q * (w + v)) → pos k *ℤ d ≡ pos (s * total * v) +ℤ pos k *ℤ t
over-column k s q w v total c d t e h both =
    let m : s * (q * (w + v)) ≡ s * (q * w) + s * (q * v) = omega arith in
    let f : d ≡ pos (s * (q * v)) +ℤ t = (let g : pos s *ℤ pos (q * (w + v)) ≡ pos (s * (q * w)) +ℤ pos (s * (q * v)) = ap pos m in omega (arith, ints, g, h, both)) in
    let n : k * (s * (q * v)) ≡ s * (q * k) * v = omega arith in
    let b : pos k *ℤ pos (s * (q * v)) ≡ pos (s * total * v) = ap pos (n ∙ ap (λ (m : ℕ). s * m * v) e) in
    let a : pos k *ℤ d ≡ pos k *ℤ pos (s * (q * v)) +ℤ pos k *ℤ t = ap (λ (z : ℤ). pos k *ℤ z) f ∙ mul-add_left (pos k) (pos (s * (q * v))) t in
    omega (arith, ints, a, b)

-- what is known of a line
abbrev Facts : Problem → ℕ → ℕ → List Term → Line → Type 0
Facts p level scale form l =
    (share p l * l.scale ≡ scales p) × ((heavy p level scale l.name ≡ pos (scale * (share p l * under_at level l)))
    × (coefficient (place_of l.name Under) form +ℤ coefficient (place_of l.name Over) form ≡ pos scale *ℤ pos (share p l * (under_at level l + over_at level l))))

both_sides : (p : Problem) (at : List Mark) (level scale : ℕ) (form : List Term) (const : ℤ) (x : Point) → IsPlaced p → Solves p x → IsEquationOf p at (cost_at p level) scale form const
    → Each (λ l. coefficient (place_of l.name Under) form +ℤ coefficient (place_of l.name Over) form ≡ pos scale *ℤ pos (share p l * (under_at level l + over_at level l))) (lines p)
both_sides p at level scale form const x placed solves e =
    each-impl (λ l. IsSmall l.name × (cost_at p level (bump l.name) ≡ pos (share p l * (under_at level l + over_at level l)))) _ (lines p)
    (λ l h.
    sym (value-plus (unit_at (place_of l.name Under)) (unit_at (place_of l.name Over)) form ∙ ap₂ ◌+ℤ◌ (unit_value (place_of l.name Under) form) (unit_value (place_of l.name Over) form))
    ∙ sym (equation_along p at (cost_at p level) scale form const x (bump l.name) solves (cost-IsLinear p level) e (bump-direction p l.name h.0))
    ∙ ap (λ (z : ℤ). pos scale *ℤ z) h.1)
    (each-both _ _ (lines p) (each-impl IsSmallLine (λ l. IsSmall l.name) (lines p) (λ l s. (let next = over_next l.name in omega (arith, s.over, next))) (placed_small p placed)) (cost_of_both p level placed))

sum_columns : (p : Problem) (level scale : ℕ) (form : List Term) → Each (Facts p level scale form) (lines p) → (side : Side) → All (λ l. pos l.scale *ℤ coefficient (place_of l.name side) form ≡ column (alone (scale * scales p) (times_by p level scale form)) side l level) (lines p)
sum_columns p level scale form facts Under =
    All-from_recursion (λ l. pos l.scale *ℤ coefficient (place_of l.name Under) form ≡ column (alone (scale * scales p) (times_by p level scale form)) Under l level) (lines p)
    (each-impl (Facts p level scale form) _ (lines p)
    (λ l h. under-column l.scale scale (share p l) (under_at level l) (scales p) (coefficient (place_of l.name Under) form) (times_by p level scale form l.name) h.0 (ap (λ (z : ℤ). z -ℤ coefficient (place_of l.name Under) form) h.1.0)) facts)
sum_columns p level scale form facts Over =
    All-from_recursion (λ l. pos l.scale *ℤ coefficient (place_of l.name Over) form ≡ column (alone (scale * scales p) (times_by p level scale form)) Over l level) (lines p)
    (each-impl (Facts p level scale form) _ (lines p)
    (λ l h. over-column l.scale scale (share p l) (under_at level l) (over_at level l) (scales p) (coefficient (place_of l.name Under) form) (coefficient (place_of l.name Over) form) (times_by p level scale form l.name) h.0 (ap (λ (z : ℤ). z -ℤ coefficient (place_of l.name Under) form) h.1.0) h.1.1) facts)

-- the level's numbers, not yet in lowest terms
placed_sum : (p : Problem) (at : List Mark) (level : ℕ) → IsPlaced p → IsProblem p → IsCorner p at → HasRays p at → (scale : ℕ) × (times : RowName → ℤ) × (reduced : ℕ → ℤ) × IsLevelSum p at level scale times reduced
placed_sum p at level placed problem corner rays =
    let e = equation_exists p at (cost_at p level) corner rays (cost-IsLinear p level) (cost_fixed p at level corner) in
    let facts : Each (Facts p level e.0 e.1) (lines p) = each-both _ _ (lines p) (shares p problem) (each-both _ _ (lines p) (heavy_own p level e.0 placed) (both_sides p at level e.0 e.1 e.2 corner.point placed corner.stands.0 e.3)) in (
      e.0 * scales p,
      times_by p level e.0 e.1,
      λ v. coefficient v e.1,
      record {
        scale_positive = mul-pos e.3.scale_positive (scales-above p problem);
        cancel = times_cancel p at level e.0 e.1 e.2 corner.point placed corner.stands.0 e.3;
        columns = sum_columns p level e.0 e.1 facts;
        inside_zero = λ side. All-from_recursion (λ l. IsIn (place_of l.name side) at → coefficient (place_of l.name side) e.1 ≡ pos 0) (lines p)
            (each-of (λ l. IsIn (place_of l.name side) at → coefficient (place_of l.name side) e.1 ≡ pos 0) (lines p) (λ l i. none-unless p at e.1 (place_of l.name side) e.3.outside (λ o. o.1 i)));
      },
    )

pub sum_exists : (p : Problem) (at : List Mark) (level : ℕ) → IsWhole p → IsCorner p at → HasRays p at → (scale : ℕ) × (times : RowName → ℤ) × (reduced : ℕ → ℤ) × IsLevelSum p at level scale times reduced
sum_exists p at level whole corner rays = placed_sum p at level (whole-placed p whole) (whole-IsProblem p whole) corner rays

-- so the corner has multipliers at all levels
pub multipliers_exist : (p : Problem) (at : List Mark) → IsWhole p → IsCorner p at → HasRays p at → (m : Multipliers) × AreMultipliersAt p at m
multipliers_exist p at whole corner rays =
    let sums = λ (k : ℕ). sum_exists p at k whole corner rays in
    (together (λ k. (sums k).0) (λ k. (sums k).1), sums-AreMultipliersAt p at (λ k. (sums k).0) (λ k. (sums k).1) (λ k. (sums k).2) (λ k. (sums k).3))

-- ---- in lowest terms

unfoldable pub quotient : ℕ → ℤ → ℤ
quotient g (pos n) = pos (n / g)
quotient g (negsuc n) = neg_ℤ (pos (suc n / g))

quotient-is : (g : ℕ) (z : ℤ) → g ∣ unsigned_abs z → z ≡ pos g *ℤ quotient g z
unfolding quotient
quotient-is g (pos n) h = ap pos (sym (div-mul_cancel g h) ∙ mul_comm (n / g) g)
quotient-is g (negsuc n) h =
    let e : suc n ≡ g * (suc n / g) = sym (div-mul_cancel g h) ∙ mul_comm (suc n / g) g in
    let a : pos g *ℤ neg_ℤ (pos (suc n / g)) ≡ neg_ℤ (pos (g * (suc n / g))) = *ℤ_comm (pos g) (neg_ℤ (pos (suc n / g))) ∙ neg-times (pos (suc n / g)) (pos g) ∙ ap neg_ℤ (*ℤ_comm (pos (suc n / g)) (pos g)) in
    let b : neg_ℤ (pos (suc n)) ≡ neg_ℤ (pos (g * (suc n / g))) = ap (λ (k : ℕ). neg_ℤ (pos k)) e in
    b ∙ sym a

-- the numbers of the lines, as terms
abbrev numbers : (RowName → ℤ) → (ℕ → ℤ) → List Line → List Term
numbers times reduced [] = []
numbers times reduced (l ∷ ls) = record { attr = 0; by = times l.name } ∷ record { attr = 0; by = reduced (place_of l.name Under) } ∷ record { attr = 0; by = reduced (place_of l.name Over) } ∷ numbers times reduced ls

abbrev Divides : (RowName → ℤ) → (ℕ → ℤ) → ℕ → Line → Type 0
Divides times reduced d l = (d ∣ unsigned_abs (times l.name)) × (d ∣ unsigned_abs (reduced (place_of l.name Under))) × (d ∣ unsigned_abs (reduced (place_of l.name Over)))

to-lines : (times : RowName → ℤ) (reduced : ℕ → ℤ) (d : ℕ) (ls : List Line) → Each (λ t. d ∣ unsigned_abs t.by) (numbers times reduced ls) → Each (Divides times reduced d) ls
to-lines times reduced d [] h = tt
to-lines times reduced d (l ∷ ls) h = ((h.0, h.1.0, h.1.1.0), to-lines times reduced d ls h.1.1.1)

from-lines : (times : RowName → ℤ) (reduced : ℕ → ℤ) (d : ℕ) (ls : List Line) → Each (Divides times reduced d) ls → Each (λ t. d ∣ unsigned_abs t.by) (numbers times reduced ls)
from-lines times reduced d [] h = tt
from-lines times reduced d (l ∷ ls) h = (h.0.0, (h.0.1, (h.0.2, from-lines times reduced d ls h.1)))

same-part : (q g s : ℕ) (t : ℤ) → q * g ≡ s → t ≡ pos g *ℤ quotient g t → pos s *ℤ quotient g t ≡ pos q *ℤ t
same-part q g s t e h = ap (λ (n : ℕ). pos n *ℤ quotient g t) (sym e) ∙ mul_assoc_ℤ (pos q) (pos g) (quotient g t) ∙ ap (λ (z : ℤ). pos q *ℤ z) (sym h)

more-divides : (k g : ℕ) (t : ℤ) → t ≡ pos g *ℤ quotient g t → k ∣ unsigned_abs (quotient g t) → (k * g) ∣ unsigned_abs t
more-divides k g t e h = subst (λ (n : ℕ). (k * g) ∣ n) (mul_comm (unsigned_abs (quotient g t)) g ∙ sym (unsigned_abs-mul (pos g) (quotient g t)) ∙ ap unsigned_abs (sym e)) (mul-dvd-mul_right k h g)

lowest_numbers : (p : Problem) (scale : ℕ) (times : RowName → ℤ) (reduced : ℕ → ℤ) → 0 < scale → (low : ℕ) × (part : RowName → ℤ) × (rest : ℕ → ℤ) × AreLowestNumbers p scale times reduced low part rest
lowest_numbers p scale times reduced above =
    let h = shared scale (numbers times reduced (lines p)) in
    let up : 0 < h.0 = pos_of_dvd_of_pos h.1.scale above in
    let whole : scale / h.0 * h.0 ≡ scale = div-mul_cancel h.0 h.1.scale in
    let divides : Each (Divides times reduced h.0) (lines p) = to-lines times reduced h.0 (lines p) h.1.terms in (
      scale / h.0,
      λ name. quotient h.0 (times name),
      λ v. quotient h.0 (reduced v),
      record {
        low_positive = pos-quotient (scale / h.0) h.0 scale above whole;
        same = All-from_recursion (λ l. (pos scale *ℤ quotient h.0 (times l.name) ≡ pos (scale / h.0) *ℤ times l.name) × ((pos scale *ℤ quotient h.0 (reduced (place_of l.name Under)) ≡ pos (scale / h.0) *ℤ reduced (place_of l.name Under)) × (pos scale *ℤ quotient h.0 (reduced (place_of l.name Over)) ≡ pos (scale / h.0) *ℤ reduced (place_of l.name Over)))) (lines p)
            (each-impl (Divides times reduced h.0) (λ l. (pos scale *ℤ quotient h.0 (times l.name) ≡ pos (scale / h.0) *ℤ times l.name) × ((pos scale *ℤ quotient h.0 (reduced (place_of l.name Under)) ≡ pos (scale / h.0) *ℤ reduced (place_of l.name Under)) × (pos scale *ℤ quotient h.0 (reduced (place_of l.name Over)) ≡ pos (scale / h.0) *ℤ reduced (place_of l.name Over)))) (lines p)
            (λ l d. (
              same-part (scale / h.0) h.0 scale (times l.name) whole (quotient-is h.0 (times l.name) d.0),
              (
                same-part (scale / h.0) h.0 scale (reduced (place_of l.name Under)) whole (quotient-is h.0 (reduced (place_of l.name Under)) d.1),
                same-part (scale / h.0) h.0 scale (reduced (place_of l.name Over)) whole (quotient-is h.0 (reduced (place_of l.name Over)) d.2),
              ),
            )) divides);
        lowest = λ k e each.
            only-one k h.0 up
            (h.1.greatest (k * h.0) (subst (λ (n : ℕ). (k * h.0) ∣ n) whole (mul-dvd-mul_right k e h.0))
            (from-lines times reduced (k * h.0) (lines p)
            (each-impl (λ l. Divides times reduced h.0 l × ((k ∣ unsigned_abs (quotient h.0 (times l.name))) × (k ∣ unsigned_abs (quotient h.0 (reduced (place_of l.name Under)))) × (k ∣ unsigned_abs (quotient h.0 (reduced (place_of l.name Over)))))) (Divides times reduced (k * h.0)) (lines p)
            (λ l d. (
              more-divides k h.0 (times l.name) (quotient-is h.0 (times l.name) d.0.0) d.1.0,
              more-divides k h.0 (reduced (place_of l.name Under)) (quotient-is h.0 (reduced (place_of l.name Under)) d.0.1) d.1.1,
              more-divides k h.0 (reduced (place_of l.name Over)) (quotient-is h.0 (reduced (place_of l.name Over)) d.0.2) d.1.2,
            ))
            (each-both _ _ (lines p) divides (recursion_from_All _ (lines p) each)))));
      },
    )

pub placed_level_writing : (p : Problem) (at : List Mark) (level : ℕ) → IsPlaced p → IsProblem p → IsCorner p at → HasRays p at → (scale : ℕ) × (times : RowName → ℤ) × (reduced : ℕ → ℤ) × IsLevelWriting p at level scale times reduced
placed_level_writing p at level placed problem corner rays =
    let s = placed_sum p at level placed problem corner rays in
    let l = lowest_numbers p s.0 s.1 s.2 s.3.scale_positive in
    (l.0, l.1, l.2, writing_from_level p at level s.0 s.1 s.2 l.0 l.1 l.2 s.3 l.3)

pub level_writing_exists : (p : Problem) (at : List Mark) (level : ℕ) → IsWhole p → IsCorner p at → HasRays p at → (scale : ℕ) × (times : RowName → ℤ) × (reduced : ℕ → ℤ) × IsLevelWriting p at level scale times reduced
level_writing_exists p at level whole corner rays = placed_level_writing p at level (whole-placed p whole) (whole-IsProblem p whole) corner rays
