-- The levels' costs in a run, each with what they change by where the first corner's marks count more, fall at each exchange.
use Rattle.std.proofs.Common.{◌≡◌, ◌∙◌, ℕ, ◌*◌, ◌/◌, ◌<◌, List, [], ℤ, pos, ◌+ℤ◌, ◌-ℤ◌, ◌*ℤ◌, neg_ℤ, ◌<ℤ◌, refl, sym, ap, ap₂, subst, arith, inl, inr, All, mul-pos}
use Rattle.std.specs.List.{AllByRecursion as Each}
use Rattle.std.proofs.lemmas.Bool.{cases_lt, cases_eq}
use Rattle.std.proofs.lemmas.List.Elements.{All-from_recursion, recursion_from_All}
use lib.IntN.{*ℤ_comm}
use borrow.Author.Differences.{ints}
use Rattle.frac_core.proofs.Integers.{mul_assoc_ℤ, mul_left_comm_ℤ, mul-add_left, mul-sub_left, mul-zero_ℤ, zero_from_mul}
use Rattle.problem_core.specs.declared.parts.Mark.{Mark}
use Rattle.problem_core.specs.Layout.{Line, Problem, lines, value_at}
use Rattle.problem_core.specs.Certificates.{over_weight, under_weight, weight_at}
use Rattle.problem_core.specs.Corners.{IsCorner, IsIn, equation, marks_of, one_column, place}
use Rattle.problem_core.specs.Levels.{cost_at, line_cost, scales}
use Rattle.problem_core.specs.declared.parts.Side.TheVariants.{Under, Over}
use Rattle.problem_core.specs.Corners.{place_of}
use Rattle.problem_core.proofs.Corners.Exchanges.{IsLexPositive, lex_irreflexive, lex_plus, lex_times}
use Rattle.problem_core.proofs.Forms.{each-impl, each-both, sum-cong, value-plus, value-scaled, sum-zero as sum-none}
use Rattle.problem_core.proofs.Corners.Tableaus.{unit_at}
use Rattle.corner_laws.specs.Laws.{IsMarkAt}
use Rattle.corner_laws.proofs.RunSteps.Extended.{IsExtended, IsLift, each_column, each_places, less_unit, lex_each, next_values, run_columns}
use Rattle.corner_laws.proofs.Rays.{combined-holds, combined_ray}
use Rattle.corner_laws.proofs.PathEnds.Rises.{cost_linear}
use Rattle.corner_laws.proofs.WrittenValues.{contains_each}
use Rattle.corner_laws.proofs.ZeroColumns.{IsDirection, direction_zero, here-in}
use Rattle.frac_core.proofs.Numbers.{no-cost as line-none, as-natural as above-zero, neg-times}

-- ---- costs

line-same : (q w v : ℕ) (a b c d : ℤ) → a ≡ b → c ≡ d → pos q *ℤ (pos w *ℤ a +ℤ pos v *ℤ c) ≡ pos q *ℤ (pos w *ℤ b +ℤ pos v *ℤ d)
line-same q w v a b c d e f = ap₂ (λ (x y : ℤ). pos q *ℤ (pos w *ℤ x +ℤ pos v *ℤ y)) e f

cost_same : (p : Problem) (level : ℕ) (x y : ℕ → ℤ) → ((v : ℕ) → x v ≡ y v) → cost_at p level x ≡ cost_at p level y
cost_same p level x y h =
    sum-cong (λ l. pos (scales p / l.scale) *ℤ line_cost level x l) (λ l. pos (scales p / l.scale) *ℤ line_cost level y l) (lines p)
    (λ l. line-same (scales p / l.scale) (under_weight l.rel (weight_at l level)) (over_weight l.rel (weight_at l level)) (x (place_of l.name Under)) (y (place_of l.name Under)) (x (place_of l.name Over)) (y (place_of l.name Over)) (h (place_of l.name Under)) (h (place_of l.name Over)))

-- what moves no mark costs nothing
pub cost_none : (p : Problem) (level : ℕ) (x : ℕ → ℤ) → ((v : ℕ) → IsMarkAt p v → x v ≡ pos 0) → cost_at p level x ≡ pos 0
cost_none p level x none =
    sum-none (λ l. pos (scales p / l.scale) *ℤ line_cost level x l) (lines p)
    (each-impl (λ l. IsMarkAt p (place_of l.name Under) × IsMarkAt p (place_of l.name Over)) _ (lines p)
    (λ l h. line-none (scales p / l.scale) (under_weight l.rel (weight_at l level)) (over_weight l.rel (weight_at l level)) (x (place_of l.name Under)) (x (place_of l.name Over)) (none (place_of l.name Under) h.0) (none (place_of l.name Over) h.1))
    (here-in (lines p)))

-- what the level costs at the corner, and what that changes by
abbrev pub entry : Problem → ℕ → ℕ → (ℕ → ℕ → ℤ) → ℕ → ℤ
entry p level one values c = cost_at p level (less_unit one c (values c))

split-unit : (x r b v u : ℤ) (k one : ℕ) → neg_ℤ r ≡ pos k → (x *ℤ b +ℤ neg_ℤ r *ℤ v) +ℤ neg_ℤ (pos (k * one)) *ℤ u ≡ x *ℤ b +ℤ neg_ℤ r *ℤ (v +ℤ neg_ℤ (pos one) *ℤ u)
split-unit x r b v u k one e =
    let a : neg_ℤ r *ℤ (v +ℤ neg_ℤ (pos one) *ℤ u) ≡ neg_ℤ r *ℤ v +ℤ neg_ℤ r *ℤ (neg_ℤ (pos one) *ℤ u) = mul-add_left (neg_ℤ r) v (neg_ℤ (pos one) *ℤ u) in
    let c : neg_ℤ r *ℤ (neg_ℤ (pos one) *ℤ u) ≡ pos k *ℤ (neg_ℤ (pos one) *ℤ u) = ap (λ (z : ℤ). z *ℤ (neg_ℤ (pos one) *ℤ u)) e in
    let d : pos k *ℤ (neg_ℤ (pos one) *ℤ u) ≡ neg_ℤ (pos (k * one) *ℤ u) =
    ap (λ (z : ℤ). pos k *ℤ z) (neg-times (pos one) u) ∙ *ℤ_comm (pos k) (neg_ℤ (pos one *ℤ u)) ∙ neg-times (pos one *ℤ u) (pos k)
    ∙ ap neg_ℤ (*ℤ_comm (pos one *ℤ u) (pos k) ∙ sym (mul_assoc_ℤ (pos k) (pos one) u)) in
    omega (arith, ints, a, c, d, neg-times (pos (k * one)) u)

-- after an exchange: as much of the ray's cost as the leaving mark stands above 0
entry_next : (p : Problem) (level leave one k : ℕ) (ray : ℕ → ℤ) (values : ℕ → ℕ → ℤ) (c : ℕ) → neg_ℤ (ray leave) ≡ pos k → entry p level (k * one) (next_values leave ray values) c ≡ values c leave *ℤ cost_at p level ray +ℤ pos k *ℤ entry p level one values c
entry_next p level leave one k ray values c e =
    cost_same p level (less_unit (k * one) c (next_values leave ray values c)) (λ u. values c leave *ℤ ray u +ℤ neg_ℤ (ray leave) *ℤ less_unit one c (values c) u)
    (λ u. split-unit (values c leave) (ray leave) (ray u) (values c u) (unit_at c u) k one e)
    ∙ cost_linear p level (values c leave) (neg_ℤ (ray leave)) ray (less_unit one c (values c))
    ∙ ap (λ (z : ℤ). values c leave *ℤ cost_at p level ray +ℤ z *ℤ entry p level one values c) e

-- ---- lower costs

-- up to a level all entries are the same, over the two scales, and there the first that differs is lower
pub record AreLower (p : Problem) (cs : List ℕ) (one : ℕ) (values : ℕ → ℕ → ℤ) (after : ℕ) (next : ℕ → ℕ → ℤ) : Type 0 where
  pub factor : ℕ
  pub above : 0 < factor
  pub ones : after ≡ factor * one
  pub level : ℕ
  pub before : (j : ℕ) → j < level → Each (λ c. entry p j after next c ≡ pos factor *ℤ entry p j one values c) cs
  pub here : IsLexPositive (λ c. pos factor *ℤ entry p level one values c -ℤ entry p level after next c) cs

kept-entry : (x z e : ℤ) (k : ℕ) → z ≡ pos 0 → x *ℤ z +ℤ pos k *ℤ e ≡ pos k *ℤ e
kept-entry x z e k h = let a : x *ℤ z ≡ pos 0 = ap (λ (t : ℤ). x *ℤ t) h ∙ mul-zero_ℤ x in omega (arith, ints, a)

fallen-entry : (x z e : ℤ) (k g : ℕ) → neg_ℤ z ≡ pos g → pos g *ℤ x ≡ pos k *ℤ e -ℤ (x *ℤ z +ℤ pos k *ℤ e)
fallen-entry x z e k g h =
    let a : pos g *ℤ x ≡ neg_ℤ z *ℤ x = ap (λ (t : ℤ). t *ℤ x) (sym h) in
    omega (arith, ints, a, neg-times z x, *ℤ_comm z x)

pub turned-up : (z : ℤ) → z <ℤ pos 0 → pos 0 <ℤ neg_ℤ z
turned-up z h = omega (arith, ints, h)

-- an exchange on a ray whose first cost that isn't 0 is below 0
pub lower_next : (p : Problem) (cs : List ℕ) (leave one k level : ℕ) (ray : ℕ → ℤ) (values : ℕ → ℕ → ℤ) → neg_ℤ (ray leave) ≡ pos k → 0 < k → ((j : ℕ) → j < level → cost_at p j ray ≡ pos 0) → cost_at p level ray <ℤ pos 0 → IsLexPositive (λ c. values c leave) cs
    → AreLower p cs one values (k * one) (next_values leave ray values)
lower_next p cs leave one k level ray values turned above none low lex =
    let g = above-zero (neg_ℤ (cost_at p level ray)) (turned-up (cost_at p level ray) low) in
    record {
      factor = k;
      above = above;
      ones = refl;
      level = level;
      before = λ j less. each_column (λ c. entry p j (k * one) (next_values leave ray values) c ≡ pos k *ℤ entry p j one values c) cs
          (λ c. entry_next p j leave one k ray values c turned ∙ kept-entry (values c leave) (cost_at p j ray) (entry p j one values c) k (none j less));
      here = lex_each (λ c. pos g.0 *ℤ values c leave) (λ c. pos k *ℤ entry p level one values c -ℤ entry p level (k * one) (next_values leave ray values) c) cs
          (each_column _ cs (λ c. fallen-entry (values c leave) (cost_at p level ray) (entry p level one values c) k g.0 g.2 ∙ ap (λ (z : ℤ). pos k *ℤ entry p level one values c -ℤ z) (sym (entry_next p level leave one k ray values c turned))))
          (lex_times g.0 (λ c. values c leave) cs g.1 lex);
    }

-- ---- one after the other

both-falls : (a b : ℕ) (x y z : ℤ) → pos b *ℤ (pos a *ℤ x -ℤ y) +ℤ (pos b *ℤ y -ℤ z) ≡ pos (b * a) *ℤ x -ℤ z
both-falls a b x y z = omega (arith, ints, mul-sub_left (pos b) (pos a *ℤ x) y, mul_assoc_ℤ (pos b) (pos a) x)

first-falls : (a b : ℕ) (x y z : ℤ) → z ≡ pos b *ℤ y → pos b *ℤ (pos a *ℤ x -ℤ y) ≡ pos (b * a) *ℤ x -ℤ z
first-falls a b x y z e = omega (arith, ints, e, mul-sub_left (pos b) (pos a *ℤ x) y, mul_assoc_ℤ (pos b) (pos a) x)

then-falls : (a b : ℕ) (x y z : ℤ) → y ≡ pos a *ℤ x → pos b *ℤ y -ℤ z ≡ pos (b * a) *ℤ x -ℤ z
then-falls a b x y z e = let h : pos b *ℤ y ≡ pos (b * a) *ℤ x = ap (λ (t : ℤ). pos b *ℤ t) e ∙ sym (mul_assoc_ℤ (pos b) (pos a) x) in omega (arith, ints, h)

both-kept : (a b : ℕ) (x y z : ℤ) → y ≡ pos a *ℤ x → z ≡ pos b *ℤ y → z ≡ pos (b * a) *ℤ x
both-kept a b x y z e f = f ∙ ap (λ (t : ℤ). pos b *ℤ t) e ∙ sym (mul_assoc_ℤ (pos b) (pos a) x)

pub lower_trans : (p : Problem) (cs : List ℕ) (one mid last : ℕ) (x y z : ℕ → ℕ → ℤ) → AreLower p cs one x mid y → AreLower p cs mid y last z → AreLower p cs one x last z
lower_trans p cs one mid last x y z f h =
    let ones : last ≡ h.factor * f.factor * one = h.ones ∙ ap (λ (k : ℕ). h.factor * k) f.ones ∙ omega arith in
    let kept : (j : ℕ) → j < f.level → j < h.level → Each (λ c. entry p j last z c ≡ pos (h.factor * f.factor) *ℤ entry p j one x c) cs =
    λ j a b. each-impl (λ c. (entry p j mid y c ≡ pos f.factor *ℤ entry p j one x c) × (entry p j last z c ≡ pos h.factor *ℤ entry p j mid y c)) _ cs
    (λ c e. both-kept f.factor h.factor (entry p j one x c) (entry p j mid y c) (entry p j last z c) e.0 e.1)
    (each-both _ _ cs (f.before j a) (h.before j b)) in
    elim (cases_lt f.level h.level) [
      | inl less ↦ record {
        factor = h.factor * f.factor;
        above = mul-pos h.above f.above;
        ones = ones;
        level = f.level;
        before = λ j lt. kept j lt (omega (arith, lt, less));
        here = lex_each (λ c. pos h.factor *ℤ (pos f.factor *ℤ entry p f.level one x c -ℤ entry p f.level mid y c)) _ cs
            (each-impl (λ c. entry p f.level last z c ≡ pos h.factor *ℤ entry p f.level mid y c) _ cs (λ c e. first-falls f.factor h.factor (entry p f.level one x c) (entry p f.level mid y c) (entry p f.level last z c) e) (h.before f.level less))
            (lex_times h.factor (λ c. pos f.factor *ℤ entry p f.level one x c -ℤ entry p f.level mid y c) cs h.above f.here);
      }
      | inr more ↦ elim (cases_eq f.level h.level) [
        | inl same ↦
            let there : IsLexPositive (λ c. pos h.factor *ℤ entry p f.level mid y c -ℤ entry p f.level last z c) cs = subst (λ (k : ℕ). IsLexPositive (λ c. pos h.factor *ℤ entry p k mid y c -ℤ entry p k last z c) cs) (sym same) h.here in
            record {
              factor = h.factor * f.factor;
              above = mul-pos h.above f.above;
              ones = ones;
              level = f.level;
              before = λ j lt. kept j lt (omega (arith, lt, same));
              here = lex_each (λ c. pos h.factor *ℤ (pos f.factor *ℤ entry p f.level one x c -ℤ entry p f.level mid y c) +ℤ (pos h.factor *ℤ entry p f.level mid y c -ℤ entry p f.level last z c)) _ cs
                  (each_column _ cs (λ c. both-falls f.factor h.factor (entry p f.level one x c) (entry p f.level mid y c) (entry p f.level last z c)))
                  (lex_plus _ _ cs (lex_times h.factor (λ c. pos f.factor *ℤ entry p f.level one x c -ℤ entry p f.level mid y c) cs h.above f.here) there);
            }
        | inr ne ↦
            let later : h.level < f.level = omega (arith, more, ne) in
            record {
              factor = h.factor * f.factor;
              above = mul-pos h.above f.above;
              ones = ones;
              level = h.level;
              before = λ j lt. kept j (omega (arith, lt, later)) lt;
              here = lex_each (λ c. pos h.factor *ℤ entry p h.level mid y c -ℤ entry p h.level last z c) _ cs
                  (each-impl (λ c. entry p h.level mid y c ≡ pos f.factor *ℤ entry p h.level one x c) _ cs (λ c e. then-falls f.factor h.factor (entry p h.level one x c) (entry p h.level mid y c) (entry p h.level last z c) e) (f.before h.level later))
                  h.here;
            }
      ]
    ]

-- ---- a corner has one list of costs

cross-units : (n one : ℕ) (a b u : ℤ) → a ≡ pos 0 → b ≡ pos 0 → pos n *ℤ (a +ℤ neg_ℤ (pos one) *ℤ u) +ℤ neg_ℤ (pos one) *ℤ (b +ℤ neg_ℤ (pos n) *ℤ u) ≡ pos 0
cross-units n one a b u e f =
    let c : a +ℤ neg_ℤ (pos one) *ℤ u ≡ neg_ℤ (pos one *ℤ u) = omega (arith, ints, e, neg-times (pos one) u) in
    let d : b +ℤ neg_ℤ (pos n) *ℤ u ≡ neg_ℤ (pos n *ℤ u) = omega (arith, ints, f, neg-times (pos n) u) in
    let g : pos n *ℤ neg_ℤ (pos one *ℤ u) ≡ neg_ℤ (pos n *ℤ (pos one *ℤ u)) = *ℤ_comm (pos n) (neg_ℤ (pos one *ℤ u)) ∙ neg-times (pos one *ℤ u) (pos n) ∙ ap neg_ℤ (*ℤ_comm (pos one *ℤ u) (pos n)) in
    let h : neg_ℤ (pos one) *ℤ neg_ℤ (pos n *ℤ u) ≡ pos one *ℤ (pos n *ℤ u) =
    neg-times (pos one) (neg_ℤ (pos n *ℤ u)) ∙ ap neg_ℤ (*ℤ_comm (pos one) (neg_ℤ (pos n *ℤ u)) ∙ neg-times (pos n *ℤ u) (pos one)) ∙ (let t : neg_ℤ (neg_ℤ ((pos n *ℤ u) *ℤ pos one)) ≡ (pos n *ℤ u) *ℤ pos one = omega (arith, ints) in t) ∙ *ℤ_comm (pos n *ℤ u) (pos one) in
    ap₂ ◌+ℤ◌ (ap (λ (z : ℤ). pos n *ℤ z) c ∙ g) (ap (λ (z : ℤ). neg_ℤ (pos one) *ℤ z) d ∙ h)
    ∙ (let t : neg_ℤ (pos n *ℤ (pos one *ℤ u)) +ℤ pos one *ℤ (pos n *ℤ u) ≡ pos 0 = omega (arith, ints, mul_left_comm_ℤ (pos one) (pos n) u) in t)

less-unit-value : (one c : ℕ) (v : ℕ → ℤ) (l : Line) → value_at (less_unit one c v) (equation l) ≡ value_at v (equation l) +ℤ neg_ℤ (pos one) *ℤ value_at (unit_at c) (equation l)
less-unit-value one c v l = value-plus v (λ u. neg_ℤ (pos one) *ℤ unit_at c u) (equation l) ∙ ap (λ (z : ℤ). value_at v (equation l) +ℤ z) (value-scaled (neg_ℤ (pos one)) (unit_at c) (equation l))

crossed-still : (n one : ℕ) (a b u : ℤ) → a ≡ pos one → b ≡ pos n → u ≡ pos 1 → pos n *ℤ (a +ℤ neg_ℤ (pos one) *ℤ u) +ℤ neg_ℤ (pos one) *ℤ (b +ℤ neg_ℤ (pos n) *ℤ u) ≡ pos 0
crossed-still n one a b u e f g =
    let c : a +ℤ neg_ℤ (pos one) *ℤ u ≡ pos 0 = ap₂ (λ (x y : ℤ). x +ℤ neg_ℤ (pos one) *ℤ y) e g ∙ (let t : pos one +ℤ neg_ℤ (pos one) *ℤ pos 1 ≡ pos 0 = omega (arith, ints) in t) in
    let d : b +ℤ neg_ℤ (pos n) *ℤ u ≡ pos 0 = ap₂ (λ (x y : ℤ). x +ℤ neg_ℤ (pos n) *ℤ y) f g ∙ (let t : pos n +ℤ neg_ℤ (pos n) *ℤ pos 1 ≡ pos 0 = omega (arith, ints) in t) in
    ap₂ ◌+ℤ◌ (ap (λ (z : ℤ). pos n *ℤ z) c ∙ mul-zero_ℤ (pos n)) (ap (λ (z : ℤ). neg_ℤ (pos one) *ℤ z) d ∙ mul-zero_ℤ (neg_ℤ (pos one)))

from-difference : (n one : ℕ) (a b : ℤ) → pos n *ℤ a +ℤ neg_ℤ (pos one) *ℤ b ≡ pos 0 → pos n *ℤ a ≡ pos one *ℤ b
from-difference n one a b h = omega (arith, ints, h, neg-times (pos one) b)

-- what vanishes outside, and with its constants cancelled solves the equations, vanishes at all marks: so the costs are the same
entries_same : (p : Problem) (at : List Mark) (one n c : ℕ) (x y : ℕ → ℤ) → IsCorner p at → IsDirection p (combined_ray n (pos one) (less_unit one c x) (less_unit n c y))
    → ((v : ℕ) → IsMarkAt p v → (IsIn v at → ⊥) → (x v ≡ pos 0) × (y v ≡ pos 0)) → (level : ℕ) → pos n *ℤ cost_at p level (less_unit one c x) ≡ pos one *ℤ cost_at p level (less_unit n c y)
entries_same p at one n c x y corner dir outside level =
    let none : (v : ℕ) → IsMarkAt p v → combined_ray n (pos one) (less_unit one c x) (less_unit n c y) v ≡ pos 0 =
    λ v mark. direction_zero p at (combined_ray n (pos one) (less_unit one c x) (less_unit n c y)) v corner dir
    (λ u out is. cross-units n one (x u) (y u) (unit_at c u) (outside u is out).0 (outside u is out).1) mark in
    from-difference n one (cost_at p level (less_unit one c x)) (cost_at p level (less_unit n c y))
    (sym (cost_linear p level (pos n) (neg_ℤ (pos one)) (less_unit one c x) (less_unit n c y)) ∙ cost_none p level (combined_ray n (pos one) (less_unit one c x) (less_unit n c y)) none)

-- two lists of values at the same marks
pub same_entries : (p : Problem) (first at : List Mark) (one n : ℕ) (x y : ℕ → ℕ → ℤ) → IsCorner p at → IsExtended p first at x one → IsExtended p first at y n → (level : ℕ) → Each (λ c. pos n *ℤ entry p level one x c ≡ pos one *ℤ entry p level n y c) (run_columns first)
same_entries p first at one n x y corner e f level = (
  entries_same p at one n one_column (x one_column) (y one_column) corner
      (record {
        holds = All-from_recursion (λ l. value_at (combined_ray n (pos one) (less_unit one one_column (x one_column)) (less_unit n one_column (y one_column))) (equation l) ≡ pos 0) (lines p)
            (each-impl (λ l. (value_at (x one_column) (equation l) ≡ pos 0) × (value_at (y one_column) (equation l) ≡ pos 0)) _ (lines p)
            (λ l h. value-plus (λ v. pos n *ℤ less_unit one one_column (x one_column) v) (λ v. neg_ℤ (pos one) *ℤ less_unit n one_column (y one_column) v) (equation l)
            ∙ ap₂ ◌+ℤ◌ (value-scaled (pos n) (less_unit one one_column (x one_column)) (equation l) ∙ ap (λ (z : ℤ). pos n *ℤ z) (less-unit-value one one_column (x one_column) l))
            (value-scaled (neg_ℤ (pos one)) (less_unit n one_column (y one_column)) (equation l) ∙ ap (λ (z : ℤ). neg_ℤ (pos one) *ℤ z) (less-unit-value n one_column (y one_column) l))
            ∙ cross-units n one (value_at (x one_column) (equation l)) (value_at (y one_column) (equation l)) (value_at (unit_at one_column) (equation l)) h.0 h.1)
            (each-both _ _ (lines p) (recursion_from_All _ (lines p) e.solves) (recursion_from_All _ (lines p) f.solves)));
        still = crossed-still n one (x one_column one_column) (y one_column one_column) (unit_at one_column one_column) e.unit f.unit refl;
      })
      (λ v mark out. (there (x one_column) v e.outside mark out, there (y one_column) v f.outside mark out))
      level,
  each_places (λ c. pos n *ℤ entry p level one x c ≡ pos one *ℤ entry p level n y c) first
      (each-impl (λ m. IsLift p at one (place m) (x (place m)) × IsLift p at n (place m) (y (place m))) _ first
      (λ m h. entries_same p at one n (place m) (x (place m)) (y (place m)) corner
      (record {
        holds = combined-holds p n (pos one) (less_unit one (place m) (x (place m))) (less_unit n (place m) (y (place m))) h.0.direction.holds h.1.direction.holds;
        still = ap₂ (λ (a b : ℤ). pos n *ℤ a +ℤ neg_ℤ (pos one) *ℤ b) h.0.direction.still h.1.direction.still ∙ ap₂ ◌+ℤ◌ (mul-zero_ℤ (pos n)) (mul-zero_ℤ (neg_ℤ (pos one)));
      })
      (λ v mark out. (there (x (place m)) v h.0.outside mark out, there (y (place m)) v h.1.outside mark out))
      level)
      (each-both _ _ first e.lifts f.lifts)),
)
  where
    there : (n : ℕ → ℤ) (v : ℕ) → All (λ m. (IsIn (place m) at → ⊥) → n (place m) ≡ pos 0) (marks_of (lines p)) → IsMarkAt p v → (IsIn v at → ⊥) → n v ≡ pos 0
    there n v h mark out = contains_each (λ u. (IsIn u at → ⊥) → n u ≡ pos 0) (marks_of (lines p)) v (recursion_from_All _ (marks_of (lines p)) h) mark out

no-fall : (one after k : ℕ) (a b : ℤ) → 0 < one → after ≡ k * one → pos after *ℤ a ≡ pos one *ℤ b → pos k *ℤ a -ℤ b ≡ pos 0
no-fall one after k a b above e h =
    let c : pos one *ℤ (pos k *ℤ a) ≡ pos after *ℤ a = mul_left_comm_ℤ (pos one) (pos k) a ∙ sym (mul_assoc_ℤ (pos k) (pos one) a) ∙ ap (λ (n : ℕ). pos n *ℤ a) (sym e) in
    zero_from_mul one (pos k *ℤ a -ℤ b) above (mul-sub_left (pos one) (pos k *ℤ a) b ∙ (let t : pos one *ℤ (pos k *ℤ a) -ℤ pos one *ℤ b ≡ pos 0 = omega (arith, ints, c, h) in t))

-- so the costs are not lower there
pub not_lower : (p : Problem) (first at : List Mark) (one n : ℕ) (x y : ℕ → ℕ → ℤ) → IsCorner p at → IsExtended p first at x one → IsExtended p first at y n → AreLower p (run_columns first) one x n y → ⊥
not_lower p first at one n x y corner e f h =
    lex_irreflexive (λ c. pos h.factor *ℤ entry p h.level one x c -ℤ entry p h.level n y c) (run_columns first) h.here
    (each-impl (λ c. pos n *ℤ entry p h.level one x c ≡ pos one *ℤ entry p h.level n y c) (λ c. pos h.factor *ℤ entry p h.level one x c -ℤ entry p h.level n y c ≡ pos 0) (run_columns first)
    (λ c g. no-fall one n h.factor (entry p h.level one x c) (entry p h.level n y c) e.above h.ones g)
    (same_entries p first at one n x y corner e f h.level))
