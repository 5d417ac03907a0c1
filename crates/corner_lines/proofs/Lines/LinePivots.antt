-- The equation of an inside line as a sum of lines that cancel.
use Rattle.std.proofs.Common.{◌≡◌, ◌≢◌, ◌∙◌, ℕ, ◌<◌, Bool, cond, nat_eq, List, map, ℤ, pos, ◌+ℤ◌, ◌-ℤ◌, ◌*ℤ◌, neg_ℤ, ◌<ℤ◌, refl, sym, ap, ap₂, subst, arith, inl, inr, Contains, eq-eqb, ne_eqb}
use Rattle.std.specs.List.{AllByRecursion as Each}
use Rattle.std.proofs.lemmas.Bool.{cases_eq}
use Rattle.std.proofs.lemmas.List.Elements.{All-from_recursion, recursion_from_All}
use borrow.Author.Differences.{ints}
use Rattle.frac_core.proofs.Integers.{mul_assoc_ℤ, mul-add_left, mul-zero_ℤ, sign_cases, zero-mul_ℤ}
use Rattle.problem_core.specs.declared.parts.Mark.{Mark}
use Rattle.problem_core.specs.declared.parts.Side.{Side}
use Rattle.problem_core.specs.declared.parts.Side.TheVariants.{Under, Over}
use Rattle.problem_core.specs.declared.parts.RowName.{RowName}
use Rattle.problem_core.specs.declared.parts.Term.{Term}
use Rattle.problem_core.specs.Layout.{Line, Problem, coefficient, lines, sum_of, value_at}
use Rattle.problem_core.specs.Kept.{IsWhole}
use Rattle.problem_core.specs.Corners.{IsCorner, IsIn, Point, Solves, attr_column, equation, marks_of, one_column, place, place_of}
use Rattle.problem_core.proofs.Forms.{each-impl, each-both, mul-sum, sum-add, sum-cong, sum-zero, value-plus}
use Rattle.problem_core.proofs.Corners.Tableaus.{unit_at}
use Rattle.corner_laws.proofs.Counting.{sides_apart, unit_value}
use Rattle.corner_laws.proofs.MarkWritings.Directions.{attr_ray, each-of, spread, spread-none, spread-own, only-first, only-rest, attr-unit, along-parts, moved-one, parts-none}
use Rattle.corner_laws.proofs.LinePlaces.{IsSmallLine, lines_apart, lines_attrs, lines_small}
use Rattle.corner_laws.proofs.LevelCosts.Unique.{same-name}
use Rattle.corner_laws.proofs.WrittenValues.{contains_each}
use Rattle.corner_laws.proofs.ZeroColumns.{IsDirection}
use Rattle.corner_lines.specs.LineEquations.{IsLineEquation, IsOutsideLine, deviation}
use Rattle.corner_lines.specs.Levels.LevelRows.{EquationIsPivot, PivotIsSolved, line_numbers}
use Rattle.corner_lines.proofs.Lines.LineSums.{Cancel}
use Rattle.corner_lines.proofs.Costs.LevelCosts.{one-line}
use Rattle.problem_core.proofs.Corners.Ends.{value-columns}
use Rattle.problem_core.proofs.Corners.Conflicts.{sum-each}
use Rattle.frac_core.proofs.Numbers.{times-zero as no-part, signed-not-zero as not_zero, neg-times}
use Rattle.frac_core.proofs.Bools.{count-other as cond_other, count-same as cond_same}

-- ---- the direction in which one attribute grows

-- where the marks of a line are along the direction
record Moves (v : ℕ) (ls : List Line) (l : Line) : Type 0 where
  under : attr_ray v ls (place_of l.name Under) ≡ neg_ℤ (coefficient v l.form)
  over : attr_ray v ls (place_of l.name Over) ≡ pos 0

all-moves : (p : Problem) (v : ℕ) → IsWhole p → Each (Moves v (lines p)) (lines p)
all-moves p v whole =
    each-impl (λ l. IsSmallLine l × (spread v (lines p) (place_of l.name Under) ≡ coefficient v l.form)) _ (lines p)
    (λ l h. record {
      under = only-rest (unit_at (attr_column v) (place_of l.name Under)) (spread v (lines p) (place_of l.name Under)) (coefficient v l.form) (cond_other (place_of l.name Under) (attr_column v) (pos 1) (λ e. absurd (omega (arith, h.0.under, e)))) h.1;
      over = only-first (unit_at (attr_column v) (place_of l.name Over)) (spread v (lines p) (place_of l.name Over)) (spread-none v (place_of l.name Over) (lines p) (each-of (λ k. place_of l.name Over ≢ place_of k.name Under) (lines p) (λ k. sides_apart l.name k.name)))
          ∙ cond_other (place_of l.name Over) (attr_column v) (pos 1) (λ e. absurd (omega (arith, h.0.over, e)));
    })
    (each-both _ _ (lines p) (lines_small p whole) (spread-own v (lines p) (lines_apart p whole)))

attr-direction : (p : Problem) (v : ℕ) → IsWhole p → v ≢ 17179869184 → IsDirection p (attr_ray v (lines p))
attr-direction p v whole ne =
    let small = lines_small p whole in
    let still : attr_ray v (lines p) one_column ≡ pos 0 =
    only-first (unit_at (attr_column v) one_column) (spread v (lines p) one_column) (spread-none v one_column (lines p) (each-impl IsSmallLine _ (lines p) (λ l s e. absurd (omega (arith, s.under, e))) small))
    ∙ cond_other one_column (attr_column v) (pos 1) (λ e. ne (omega (arith, e))) in
    record {
      still = still;
      holds = All-from_recursion (λ l. value_at (attr_ray v (lines p)) (equation l) ≡ pos 0) (lines p)
          (each-impl (Moves v (lines p)) _ (lines p)
          (λ l h. parts-none (pos l.den) (attr_ray v (lines p) (place_of l.name Under)) (attr_ray v (lines p) (place_of l.name Over)) (neg_ℤ l.num) (attr_ray v (lines p) one_column) (value_at (attr_ray v (lines p)) (map (λ (e : Term). record { attr = attr_column e.attr; by = pos l.den *ℤ e.by }) l.form)) (coefficient v l.form)
          h.under h.over still
          (value-columns (attr_ray v (lines p)) (pos l.den) l.form
          ∙ ap (λ (z : ℤ). pos l.den *ℤ z)
          (sum-cong (λ (e : Term). e.by *ℤ attr_ray v (lines p) (attr_column e.attr)) (λ (e : Term). e.by *ℤ unit_at v e.attr) l.form
          (λ e. ap (λ (z : ℤ). e.by *ℤ z)
          (only-first (unit_at (attr_column v) (attr_column e.attr)) (spread v (lines p) (attr_column e.attr)) (spread-none v (attr_column e.attr) (lines p) (each-impl IsSmallLine _ (lines p) (λ l s e. absurd (omega (arith, s.under, e))) small))
          ∙ attr-unit v e.attr))
          ∙ unit_value v l.form)))
          (all-moves p v whole));
    }

-- ---- along a direction

split-difference : (a b c d : ℤ) → (a +ℤ b) -ℤ (c +ℤ d) ≡ (a -ℤ c) +ℤ (b -ℤ d)
split-difference a b c d = omega (arith, ints)

-- own times what the line's deviation moves by is the sum of the outside lines' moves
along-line : (p : Problem) (at : List Mark) (name : RowName) (own : ℕ) (by : RowName → ℤ) (num : ℤ) (den : ℕ) (x : Point) (n : ℕ → ℤ) → Solves p x → IsLineEquation p at (deviation name) own by num den → IsDirection p n
    → pos own *ℤ deviation name n ≡ sum_of (λ l. by l.name *ℤ deviation l.name n) (lines p)
along-line p at name own by num den x n solves w d =
    let y : Point = record { num = λ v. x.num v +ℤ n v; positive = subst (λ (z : ℤ). pos 0 <ℤ z) (moved-one x n d.still) x.positive } in
    let there : Solves p y =
    All-from_recursion (λ l. value_at y.num (equation l) ≡ pos 0) (lines p)
    (each-impl (λ l. (value_at x.num (equation l) ≡ pos 0) × (value_at n (equation l) ≡ pos 0)) _ (lines p)
    (λ l e. value-plus x.num n (equation l) ∙ ap₂ ◌+ℤ◌ e.0 e.1)
    (each-both _ _ (lines p) (recursion_from_All _ (lines p) solves) (recursion_from_All _ (lines p) d.holds))) in
    let sums : sum_of (λ l. by l.name *ℤ deviation l.name y.num) (lines p) ≡ sum_of (λ l. by l.name *ℤ deviation l.name x.num) (lines p) +ℤ sum_of (λ l. by l.name *ℤ deviation l.name n) (lines p) =
    sum-cong (λ l. by l.name *ℤ deviation l.name y.num) (λ l. by l.name *ℤ deviation l.name x.num +ℤ by l.name *ℤ deviation l.name n) (lines p)
    (λ l. ap (λ (z : ℤ). by l.name *ℤ z) (split-difference (x.num (place_of l.name Over)) (n (place_of l.name Over)) (x.num (place_of l.name Under)) (n (place_of l.name Under))) ∙ mul-add_left (by l.name) (deviation l.name x.num) (deviation l.name n))
    ∙ sum-add (λ l. by l.name *ℤ deviation l.name x.num) (λ l. by l.name *ℤ deviation l.name n) (lines p) in
    along-parts den own (deviation name x.num) (deviation name n) (sum_of (λ l. by l.name *ℤ deviation l.name x.num) (lines p)) (sum_of (λ l. by l.name *ℤ deviation l.name n) (lines p)) num (x.num one_column) (n one_column) w.den_positive d.still (w.holds x solves)
    (ap₂ (λ (u v : ℤ). pos den *ℤ (pos own *ℤ u -ℤ v)) (sym (split-difference (x.num (place_of name Over)) (n (place_of name Over)) (x.num (place_of name Under)) (n (place_of name Under)))) (sym sums) ∙ w.holds y there)

-- ---- the lines cancel

dev-along : (u o c : ℤ) → u ≡ neg_ℤ c → o ≡ pos 0 → o -ℤ u ≡ c
dev-along u o c e f = omega (arith, ints, e, f)

no-attr : (v : ℕ) (form : List Term) → Each (λ e. e.attr < 17179869184) form → v ≡ 17179869184 → coefficient v form ≡ pos 0
no-attr v form small e = sum-zero (λ (t : Term). cond (nat_eq t.attr v) t.by (pos 0)) form (each-impl (λ (t : Term). t.attr < 17179869184) _ form (λ t lt. cond_other t.attr v t.by (λ q. absurd (omega (arith, lt, e, q)))) small)

own-part : (own : ℕ) (y c d : ℤ) → y ≡ pos 0 → c ≡ d → neg_ℤ (pos own) *ℤ c ≡ y *ℤ c +ℤ neg_ℤ (pos own *ℤ d)
own-part own y c d e f =
    let a : y *ℤ c ≡ pos 0 = ap (λ (z : ℤ). z *ℤ c) e ∙ zero-mul_ℤ c in
    let b : neg_ℤ (pos own) *ℤ c ≡ neg_ℤ (pos own *ℤ d) = neg-times (pos own) c ∙ ap (λ (z : ℤ). neg_ℤ (pos own *ℤ z)) f in
    omega (arith, ints, a, b)

plus-none : (y z : ℤ) → z ≡ pos 0 → y ≡ y +ℤ z
plus-none y z e = omega (arith, ints, e)

to-none : (a b : ℤ) → a ≡ b → b +ℤ neg_ℤ a ≡ pos 0
to-none a b e = omega (arith, ints, e)

-- a line with a mark inside has no number
pub inside-none : (p : Problem) (at : List Mark) (quantity : (ℕ → ℤ) → ℤ) (own : ℕ) (by : RowName → ℤ) (num : ℤ) (den : ℕ) → IsLineEquation p at quantity own by num den → Each (λ l. (side : Side) → IsIn (place_of l.name side) at → by l.name ≡ pos 0) (lines p)
inside-none p at quantity own by num den w =
    each-impl (λ l. by l.name ≢ pos 0 → IsOutsideLine at l.name) _ (lines p)
    (λ l h side i. elim (sign_cases (by l.name)) [
      | inl e ↦ e
      | inr s ↦ absurd (at-side side at l.name (h (not_zero (by l.name) s)) i)
    ]) (recursion_from_All _ (lines p) w.outside)
  where
    at-side : (side : Side) (marks : List Mark) (name : RowName) → IsOutsideLine marks name → IsIn (place_of name side) marks → ⊥
    at-side Under marks name out i = out.under i
    at-side Over marks name out i = out.over i

line-same : (line : RowName) (own : ℕ) (by : RowName → ℤ) (name : RowName) → place_of name Under ≡ place_of line Under → line_numbers line own by name ≡ neg_ℤ (pos own)
line-same line own by name e = ap (λ (b : Bool). cond b (neg_ℤ (pos own)) (by name)) (eq-eqb (place_of name Under) (place_of line Under) e)

line-other : (line : RowName) (own : ℕ) (by : RowName → ℤ) (name : RowName) → place_of name Under ≢ place_of line Under → line_numbers line own by name ≡ by name
line-other line own by name ne = ap (λ (b : Bool). cond b (neg_ℤ (pos own)) (by name)) (ne_eqb (place_of name Under) (place_of line Under) ne)

lines-cancel : (p : Problem) (at : List Mark) (mark : Mark) (own : ℕ) (by : RowName → ℤ) (num : ℤ) (den : ℕ) → IsWhole p → IsCorner p at → IsIn (place mark) at → IsLineEquation p at (deviation mark.row) own by num den → Cancel p (line_numbers mark.row own by)
lines-cancel p at mark own by num den whole corner inside w v =
    elim (cases_eq v 17179869184) [
      | inl e ↦ sum-zero (λ l. line_numbers mark.row own by l.name *ℤ coefficient v l.form) (lines p) (each-impl (λ l. Each (λ t. t.attr < 17179869184) l.form) _ (lines p) (λ l h. no-part (line_numbers mark.row own by l.name) (coefficient v l.form) (no-attr v l.form h e)) (lines_attrs p whole))
      | inr ne ↦
          let n : ℕ → ℤ = attr_ray v (lines p) in
          let moves = all-moves p v whole in
          let is_mark : Contains (map place (marks_of (lines p))) (place mark) = contains_each (λ c. Contains (map place (marks_of (lines p))) c) at (place mark) (recursion_from_All (λ m. Contains (map place (marks_of (lines p))) (place m)) at corner.marks) inside in
          let along : pos own *ℤ deviation mark.row (attr_ray v (lines p)) ≡ sum_of (λ l. by l.name *ℤ coefficient v l.form) (lines p) =
          along-line p at mark.row own by num den corner.point (attr_ray v (lines p)) corner.stands.0 w (attr-direction p v whole ne)
          ∙ sum-each (λ l. by l.name *ℤ deviation l.name (attr_ray v (lines p))) (λ l. by l.name *ℤ coefficient v l.form) (lines p)
          (each-impl (Moves v (lines p)) _ (lines p) (λ l m. ap (λ (z : ℤ). by l.name *ℤ z) (dev-along (attr_ray v (lines p) (place_of l.name Under)) (attr_ray v (lines p) (place_of l.name Over)) (coefficient v l.form) m.under m.over)) moves) in
          sum-each (λ l. line_numbers mark.row own by l.name *ℤ coefficient v l.form) (λ l. by l.name *ℤ coefficient v l.form +ℤ cond (nat_eq (place_of l.name Under) (place_of mark.row Under)) (neg_ℤ (pos own *ℤ deviation mark.row (attr_ray v (lines p)))) (pos 0)) (lines p)
          (each-impl (λ l. Moves v (lines p) l × ((side : Side) → IsIn (place_of l.name side) at → by l.name ≡ pos 0)) _ (lines p)
          (λ l h. elim (cases_eq (place_of l.name Under) (place_of mark.row Under)) [
            | inl e ↦
                let name : l.name ≡ mark.row = same-name l.name mark.row e in
                ap (λ (z : ℤ). z *ℤ coefficient v l.form) (line-same mark.row own by l.name e)
                ∙ own-part own (by l.name) (coefficient v l.form) (deviation mark.row (attr_ray v (lines p))) (h.1 mark.side (subst (λ (r : RowName). IsIn (place_of r mark.side) at) (sym name) inside))
                (sym (dev-along (attr_ray v (lines p) (place_of l.name Under)) (attr_ray v (lines p) (place_of l.name Over)) (coefficient v l.form) h.0.under h.0.over) ∙ ap (λ (r : RowName). deviation r (attr_ray v (lines p))) name)
                ∙ ap (λ (z : ℤ). by l.name *ℤ coefficient v l.form +ℤ z) (sym (cond_same (place_of l.name Under) (place_of mark.row Under) (neg_ℤ (pos own *ℤ deviation mark.row (attr_ray v (lines p)))) e))
            | inr other ↦
                ap (λ (z : ℤ). z *ℤ coefficient v l.form) (line-other mark.row own by l.name other)
                ∙ plus-none (by l.name *ℤ coefficient v l.form) (cond (nat_eq (place_of l.name Under) (place_of mark.row Under)) (neg_ℤ (pos own *ℤ deviation mark.row (attr_ray v (lines p)))) (pos 0)) (cond_other (place_of l.name Under) (place_of mark.row Under) (neg_ℤ (pos own *ℤ deviation mark.row (attr_ray v (lines p)))) other)
          ])
          (each-both _ _ (lines p) moves (inside-none p at (deviation mark.row) own by num den w)))
          ∙ sum-add (λ l. by l.name *ℤ coefficient v l.form) (λ l. cond (nat_eq (place_of l.name Under) (place_of mark.row Under)) (neg_ℤ (pos own *ℤ deviation mark.row (attr_ray v (lines p)))) (pos 0)) (lines p)
          ∙ ap (λ (z : ℤ). sum_of (λ l. by l.name *ℤ coefficient v l.form) (lines p) +ℤ z) (one-line p mark (neg_ℤ (pos own *ℤ deviation mark.row (attr_ray v (lines p)))) whole is_mark)
          ∙ to-none (pos own *ℤ deviation mark.row (attr_ray v (lines p))) (sum_of (λ l. by l.name *ℤ coefficient v l.form) (lines p)) along
    ]

pub equation_is_pivot : EquationIsPivot
equation_is_pivot p at mark own by num den whole corner inside w = record {
  size_positive = w.own_positive;
  cancel = lines-cancel p at mark own by num den whole corner inside w;
  enter_is = line-same mark.row own by mark.row refl;
  inside_zero = λ side.
      All-from_recursion (λ l. IsIn (place_of l.name side) at → l.name ≢ mark.row → line_numbers mark.row own by l.name ≡ pos 0) (lines p)
      (each-impl (λ l. (x : Side) → IsIn (place_of l.name x) at → by l.name ≡ pos 0) _ (lines p)
      (λ l h i ne. line-other mark.row own by l.name (λ e. ne (same-name l.name mark.row e)) ∙ h side i)
      (inside-none p at (deviation mark.row) own by num den w));
}

pub times-cancel : (p : Problem) (k : ℤ) (y : RowName → ℤ) (v : ℕ) → sum_of (λ l. y l.name *ℤ coefficient v l.form) (lines p) ≡ pos 0 → sum_of (λ l. (k *ℤ y l.name) *ℤ coefficient v l.form) (lines p) ≡ pos 0
times-cancel p k y v h =
    sum-cong (λ l. (k *ℤ y l.name) *ℤ coefficient v l.form) (λ l. k *ℤ (y l.name *ℤ coefficient v l.form)) (lines p) (λ l. mul_assoc_ℤ k (y l.name) (coefficient v l.form))
    ∙ mul-sum k (λ l. y l.name *ℤ coefficient v l.form) (lines p) ∙ ap (λ (z : ℤ). k *ℤ z) h ∙ mul-zero_ℤ k

pub pivot_is_solved : PivotIsSolved
pivot_is_solved p at enter leave own size line t pi above is = record {
  size_positive = above;
  cancel = λ v. times-cancel p t line v (pi.cancel v);
  enter_is = is;
  inside_zero = λ side.
      All-from_recursion (λ l. IsIn (place_of l.name side) at → l.name ≢ leave → t *ℤ line l.name ≡ pos 0) (lines p)
      (each-impl (λ l. IsIn (place_of l.name side) at → l.name ≢ leave → line l.name ≡ pos 0) _ (lines p) (λ l h i ne. no-part t (line l.name) (h i ne)) (recursion_from_All _ (lines p) (pi.inside_zero side)));
}
