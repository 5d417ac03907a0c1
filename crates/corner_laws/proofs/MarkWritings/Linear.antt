-- Each quantity that a corner fixes is a sum of outside marks and of a constant: one outside mark after the other is taken back to 0 along its ray.
use Rattle.std.proofs.Common.{◌≡◌, ◌≢◌, ◌∙◌, ℕ, ◌*◌, ◌<◌, Bool, cond, nat_eq, List, [], ◌∷◌, ◌++◌, ℤ, pos, ◌+ℤ◌, ◌*ℤ◌, neg_ℤ, ◌<ℤ◌, refl, sym, ap, ap₂, subst, arith, inl, inr, All, mul-pos, eq-eqb, ne_eqb}
use Rattle.std.specs.List.{AllByRecursion as Each}
use Rattle.std.proofs.lemmas.Bool.{cases_eq, cases_Bool}
use Rattle.std.proofs.lemmas.List.Elements.{All-from_recursion}
use lib.IntN.{*ℤ_comm}
use borrow.Author.Differences.{ints}
use Rattle.frac_core.proofs.Integers.{add-zero_ℤ, mul_assoc_ℤ, mul-add_left, mul-zero_ℤ, zero-mul_ℤ, mul_positive}
use Rattle.problem_core.specs.declared.parts.Mark.{Mark}
use Rattle.problem_core.specs.declared.parts.Term.{Term}
use Rattle.problem_core.specs.Layout.{Problem, coefficient, lines, value_at}
use Rattle.problem_core.specs.Corners.{IsCorner, IsIn, Point, StandsAt, equation, marks_of, one_column, place}
use Rattle.problem_core.specs.Rays.{HasRays, IsRay}
use Rattle.problem_core.proofs.Corners.CornerFacts.{is_place}
use Rattle.frac_core.proofs.Sums.{sum-append}
use Rattle.problem_core.proofs.Forms.{coefficient-times, each-impl, each-both, times, value-times}
use Rattle.corner_laws.specs.Equations.{IsEquationOf}
use Rattle.corner_laws.specs.Laws.{IsFixedAt, IsLinear, IsMarkAt}
use Rattle.corner_laws.proofs.Counting.{IsIn-from_is_place}
use Rattle.corner_laws.proofs.Rays.{combined-holds, combined_ray}
use Rattle.corner_laws.proofs.ZeroColumns.{all-marks, not-in, outside-still}
use Rattle.frac_core.proofs.Numbers.{zero-or-not, as-natural as above-zero, neg-times}
use Rattle.frac_core.proofs.Bools.{count-other as cond_other}

-- `back x` solves the equations as x does, over `scale` times x's denominator; of the outside marks each is a multiple of what it is at x, and those
-- of this list are 0; and the quantity there is `scale` times that at x, less the form's value
pub record IsReduction (p : Problem) (at : List Mark) (quantity : (ℕ → ℤ) → ℤ) (done : List Mark) (scale : ℕ) (back : (ℕ → ℤ) → ℕ → ℤ) (left : ℕ → ℤ) (form : List Term) : Type 0 where
  pub above : 0 < scale
  pub solves : (x : ℕ → ℤ) → All (λ l. value_at x (equation l) ≡ pos 0) (lines p) → All (λ l. value_at (back x) (equation l) ≡ pos 0) (lines p)
  pub one : (x : ℕ → ℤ) → back x one_column ≡ pos scale *ℤ x one_column
  pub outside : (x : ℕ → ℤ) (v : ℕ) → IsMarkAt p v → (IsIn v at → ⊥) → back x v ≡ left v *ℤ x v
  pub gone : Each (λ m. (IsIn (place m) at → ⊥) → left (place m) ≡ pos 0) done
  pub value : (x : ℕ → ℤ) → quantity (back x) ≡ pos scale *ℤ quantity x +ℤ neg_ℤ (value_at x form)
  pub marks : (v : ℕ) → coefficient v form ≢ pos 0 → IsMarkAt p v × (IsIn v at → ⊥)

pub record HasReduction (p : Problem) (at : List Mark) (quantity : (ℕ → ℤ) → ℤ) (done : List Mark) : Type 0 where
  pub scale : ℕ
  pub back : (ℕ → ℤ) → ℕ → ℤ
  pub left : ℕ → ℤ
  pub form : List Term
  pub is : IsReduction p at quantity done scale back left form

none-yet : (p : Problem) (at : List Mark) (quantity : (ℕ → ℤ) → ℤ) → HasReduction p at quantity []
none-yet p at quantity = record {
  scale = 1;
  back = λ x. x;
  left = λ v. pos 1;
  form = [];
  is = record {
    above = omega arith;
    solves = λ x h. h;
    one = λ x. once (x one_column);
    outside = λ x v mark out. once (x v);
    gone = tt;
    value = λ x. once-less (quantity x);
    marks = λ v some. absurd (some refl);
  };
}
  where
    once : (z : ℤ) → z ≡ pos 1 *ℤ z
    once z = omega (arith, ints)

    once-less : (z : ℤ) → z ≡ pos 1 *ℤ z +ℤ neg_ℤ (pos 0)
    once-less z = omega (arith, ints)

-- ---- one mark more

own-gone : (g : ℕ) (t r : ℤ) → r ≡ pos g → pos g *ℤ t +ℤ neg_ℤ t *ℤ r ≡ pos 0
own-gone g t r e =
    let a : neg_ℤ t *ℤ r ≡ neg_ℤ (pos g *ℤ t) = ap (λ (z : ℤ). neg_ℤ t *ℤ z) e ∙ neg-times t (pos g) ∙ ap neg_ℤ (*ℤ_comm t (pos g)) in
    omega (arith, ints, a)

other-kept : (g : ℕ) (k x b t r : ℤ) → b ≡ k *ℤ x → r ≡ pos 0 → pos g *ℤ b +ℤ neg_ℤ t *ℤ r ≡ (pos g *ℤ k) *ℤ x
other-kept g k x b t r e f =
    let a : neg_ℤ t *ℤ r ≡ pos 0 = ap (λ (z : ℤ). neg_ℤ t *ℤ z) f ∙ mul-zero_ℤ (neg_ℤ t) in
    let c : pos g *ℤ b ≡ (pos g *ℤ k) *ℤ x = ap (λ (z : ℤ). pos g *ℤ z) e ∙ sym (mul_assoc_ℤ (pos g) k x) in
    omega (arith, ints, a, c)

-- b is s*q - f, and t is k*x
value-next : (g s : ℕ) (q f t k x r b : ℤ) → b ≡ pos s *ℤ q +ℤ neg_ℤ f → t ≡ k *ℤ x → pos g *ℤ b +ℤ neg_ℤ t *ℤ r ≡ pos (g * s) *ℤ q +ℤ neg_ℤ (pos g *ℤ f +ℤ ((k *ℤ r) *ℤ x +ℤ pos 0))
value-next g s q f t k x r b e h =
    let a : pos g *ℤ b ≡ pos g *ℤ (pos s *ℤ q) +ℤ pos g *ℤ neg_ℤ f = ap (λ (z : ℤ). pos g *ℤ z) e ∙ mul-add_left (pos g) (pos s *ℤ q) (neg_ℤ f) in
    let c : pos g *ℤ neg_ℤ f ≡ neg_ℤ (pos g *ℤ f) = *ℤ_comm (pos g) (neg_ℤ f) ∙ neg-times f (pos g) ∙ ap neg_ℤ (*ℤ_comm f (pos g)) in
    let d : neg_ℤ t *ℤ r ≡ neg_ℤ ((k *ℤ r) *ℤ x) = neg-times t r ∙ ap neg_ℤ (ap (λ (z : ℤ). z *ℤ r) h ∙ mul_assoc_ℤ k x r ∙ ap (λ (z : ℤ). k *ℤ z) (*ℤ_comm x r) ∙ sym (mul_assoc_ℤ k r x)) in
    omega (arith, ints, a, c, d, mul_assoc_ℤ (pos g) (pos s) q)

abbrev taken : List Term → ℕ → ℤ → ℕ → List Term
taken form g by v = times (pos g) form ++ record { attr = v; by = by } ∷ []

taken-at : (u g v : ℕ) (form : List Term) (by : ℤ) → coefficient u (taken form g by v) ≡ pos g *ℤ coefficient u form +ℤ cond (nat_eq v u) by (pos 0)
taken-at u g v form by =
    sum-append (λ e. cond (nat_eq e.attr u) e.by (pos 0)) (times (pos g) form) (record { attr = v; by = by } ∷ [])
    ∙ ap₂ ◌+ℤ◌ (coefficient-times u (pos g) form) (add-zero_ℤ (cond (nat_eq v u) by (pos 0)))

taken-value : (x : ℕ → ℤ) (g v : ℕ) (form : List Term) (by : ℤ) → value_at x (taken form g by v) ≡ pos g *ℤ value_at x form +ℤ (by *ℤ x v +ℤ pos 0)
taken-value x g v form by = sum-append (λ e. e.by *ℤ x e.attr) (times (pos g) form) (record { attr = v; by = by } ∷ []) ∙ ap (λ (z : ℤ). z +ℤ (by *ℤ x v +ℤ pos 0)) (value-times x (pos g) form)

none-both : (g : ℕ) (a b : ℤ) → a ≡ pos 0 → b ≡ pos 0 → pos g *ℤ a +ℤ b ≡ pos 0
none-both g a b e f = ap₂ ◌+ℤ◌ (ap (λ (z : ℤ). pos g *ℤ z) e ∙ mul-zero_ℤ (pos g)) f

left-next : ℕ → ℕ → (ℕ → ℤ) → ℕ → ℤ
left-next g m left v = cond (nat_eq v m) (pos 0) (pos g *ℤ left v)

left-own : (g m : ℕ) (left : ℕ → ℤ) (v : ℕ) → v ≡ m → left-next g m left v ≡ pos 0
unfolding left-next
left-own g m left v e = ap (λ (b : Bool). cond b (pos 0) (pos g *ℤ left v)) (eq-eqb v m e)

left-other : (g m : ℕ) (left : ℕ → ℤ) (v : ℕ) → v ≢ m → left-next g m left v ≡ pos g *ℤ left v
unfolding left-next
left-other g m left v n = ap (λ (b : Bool). cond b (pos 0) (pos g *ℤ left v)) (ne_eqb v m n)

-- an outside mark is taken back to 0 along its ray
back-one : (p : Problem) (at : List Mark) (quantity : (ℕ → ℤ) → ℤ) (done : List Mark) (m : Mark) (ray : ℕ → ℤ) (g : ℕ) → IsLinear quantity → IsMarkAt p (place m) → (IsIn (place m) at → ⊥) → IsRay p at (place m) ray → ray (place m) ≡ pos g → 0 < g → HasReduction p at quantity done → HasReduction p at quantity (m ∷ done)
back-one p at quantity done m ray g linear mark out r unit above h = record {
  scale = g * h.scale;
  back = λ x. combined_ray g (h.back x (place m)) (h.back x) ray;
  left = left-next g (place m) h.left;
  form = taken h.form g (h.left (place m) *ℤ quantity ray) (place m);
  is = record {
    above = mul-pos above h.is.above;
    solves = λ x e. combined-holds p g (h.back x (place m)) (h.back x) ray (h.is.solves x e) r.holds;
    one = λ x. other-kept g (pos h.scale) (x one_column) (h.back x one_column) (h.back x (place m)) (ray one_column) (h.is.one x) r.still;
    outside = λ x v is away. elim (cases_eq v (place m)) [
      | inl e ↦
          ap (combined_ray g (h.back x (place m)) (h.back x) ray) e
          ∙ own-gone g (h.back x (place m)) (ray (place m)) unit
          ∙ sym (ap (λ (z : ℤ). z *ℤ x v) (left-own g (place m) h.left v e) ∙ zero-mul_ℤ (x v))
      | inr n ↦
          other-kept g (h.left v) (x v) (h.back x v) (h.back x (place m)) (ray v) (h.is.outside x v is away) (outside-still p at (place m) ray v r is away n)
          ∙ ap (λ (z : ℤ). z *ℤ x v) (sym (left-other g (place m) h.left v n))
    ];
    gone = (
      (λ away. left-own g (place m) h.left (place m) refl),
      each-impl (λ n. (IsIn (place n) at → ⊥) → h.left (place n) ≡ pos 0) _ done
          (λ n e away. elim (cases_eq (place n) (place m)) [
            | inl q ↦ left-own g (place m) h.left (place n) q
            | inr q ↦ left-other g (place m) h.left (place n) q ∙ ap (λ (z : ℤ). pos g *ℤ z) (e away) ∙ mul-zero_ℤ (pos g)
          ]) h.is.gone,
    );
    value = λ x.
        linear (pos g) (neg_ℤ (h.back x (place m))) (h.back x) ray
        ∙ value-next g h.scale (quantity x) (value_at x h.form) (h.back x (place m)) (h.left (place m)) (x (place m)) (quantity ray) (quantity (h.back x)) (h.is.value x) (h.is.outside x (place m) mark out)
        ∙ ap (λ (z : ℤ). pos (g * h.scale) *ℤ quantity x +ℤ neg_ℤ z) (sym (taken-value x g (place m) h.form (h.left (place m) *ℤ quantity ray)));
    marks = λ v some. elim (cases_eq (place m) v) [
      | inl e ↦ (subst (λ (u : ℕ). IsMarkAt p u) e mark, λ i. out (subst (λ (u : ℕ). IsIn u at) (sym e) i))
      | inr n ↦ elim (zero-or-not (coefficient v h.form)) [
        | inr s ↦ h.is.marks v s
        | inl z ↦ absurd (some (taken-at v g (place m) h.form (h.left (place m) *ℤ quantity ray) ∙ none-both g (coefficient v h.form) (cond (nat_eq (place m) v) (h.left (place m) *ℤ quantity ray) (pos 0)) z (cond_other (place m) v (h.left (place m) *ℤ quantity ray) n)))
      ]
    ];
  };
}

reduction : (p : Problem) (at : List Mark) (quantity : (ℕ → ℤ) → ℤ) (ms : List Mark) → HasRays p at → IsLinear quantity → Each (λ m. IsMarkAt p (place m)) ms → HasReduction p at quantity ms
reduction p at quantity [] rays linear marks = none-yet p at quantity
reduction p at quantity (m ∷ ms) rays linear marks =
    let h = reduction p at quantity ms rays linear marks.1 in
    elim (cases_Bool (is_place at (place m))) [
      | inl i ↦ record {
        scale = h.scale;
        back = h.back;
        left = h.left;
        form = h.form;
        is = record { above = h.is.above; solves = h.is.solves; one = h.is.one; outside = h.is.outside; gone = ((λ away. absurd (away (IsIn-from_is_place (place m) at i))), h.is.gone); value = h.is.value; marks = h.is.marks };
      }
      | inr o ↦
          let r = rays (place m) marks.0 (not-in at (place m) o) in
          let g = above-zero (r.0 (place m)) r.1.here in
          back-one p at quantity ms m r.0 g.0 linear marks.0 (not-in at (place m) o) r.1 g.2 g.1 h
    ]

-- ---- the equation

up-scaled : (s : ℕ) (z o : ℤ) → 0 < s → pos 0 <ℤ o → z ≡ pos s *ℤ o → pos 0 <ℤ z
up-scaled s z o above up e = subst (λ (t : ℤ). pos 0 <ℤ t) (sym e) (mul_positive s o above up)

-- c*(s*x) = (s*q - f)*o
closed : (s o : ℕ) (q f c x b y : ℤ) → b ≡ pos s *ℤ q +ℤ neg_ℤ f → y ≡ pos s *ℤ x → c *ℤ y ≡ b *ℤ pos o → pos (o * s) *ℤ q ≡ pos o *ℤ f +ℤ (c *ℤ pos s) *ℤ x
closed s o q f c x b y e h k =
    let a : c *ℤ y ≡ (c *ℤ pos s) *ℤ x = ap (λ (z : ℤ). c *ℤ z) h ∙ sym (mul_assoc_ℤ c (pos s) x) in
    let d : b *ℤ pos o ≡ pos o *ℤ (pos s *ℤ q) +ℤ pos o *ℤ neg_ℤ f = ap (λ (z : ℤ). z *ℤ pos o) e ∙ *ℤ_comm (pos s *ℤ q +ℤ neg_ℤ f) (pos o) ∙ mul-add_left (pos o) (pos s *ℤ q) (neg_ℤ f) in
    let g : pos o *ℤ neg_ℤ f ≡ neg_ℤ (pos o *ℤ f) = *ℤ_comm (pos o) (neg_ℤ f) ∙ neg-times f (pos o) ∙ ap neg_ℤ (*ℤ_comm f (pos o)) in
    omega (arith, ints, a, d, g, k, mul_assoc_ℤ (pos o) (pos s) q)

pub equation_exists : (p : Problem) (at : List Mark) (quantity : (ℕ → ℤ) → ℤ) → IsCorner p at → HasRays p at → IsLinear quantity → IsFixedAt p at quantity → (scale : ℕ) × (form : List Term) × (const : ℤ) × IsEquationOf p at quantity scale form const
equation_exists p at quantity corner rays linear fixed =
    let h = reduction p at quantity (marks_of (lines p)) rays linear (all-marks (marks_of (lines p))) in
    let o = above-zero (corner.point.num one_column) corner.point.positive in (
      o.0 * h.scale,
      times (pos o.0) h.form,
      quantity corner.point.num *ℤ pos h.scale,
      record {
        scale_positive = mul-pos o.1 h.is.above;
        outside = λ v some. h.is.marks v (λ z. some (coefficient-times v (pos o.0) h.form ∙ ap (λ (t : ℤ). pos o.0 *ℤ t) z ∙ mul-zero_ℤ (pos o.0)));
        holds = λ x solves.
            let y : Point = record { num = h.back x.num; positive = up-scaled h.scale (h.back x.num one_column) (x.num one_column) h.is.above x.positive (h.is.one x.num) } in
            let there : StandsAt p at y = (
              h.is.solves x.num solves,
              All-from_recursion (λ m. (IsIn (place m) at → ⊥) → h.back x.num (place m) ≡ pos 0) (marks_of (lines p))
                  (each-impl (λ m. IsMarkAt p (place m) × ((IsIn (place m) at → ⊥) → h.left (place m) ≡ pos 0)) _ (marks_of (lines p))
                  (λ m e out. h.is.outside x.num (place m) e.0 out ∙ ap (λ (z : ℤ). z *ℤ x.num (place m)) (e.1 out) ∙ zero-mul_ℤ (x.num (place m)))
                  (each-both _ _ (marks_of (lines p)) (all-marks (marks_of (lines p))) h.is.gone)),
            ) in
            closed h.scale o.0 (quantity x.num) (value_at x.num h.form) (quantity corner.point.num) (x.num one_column) (quantity y.num) (y.num one_column) (h.is.value x.num) (h.is.one x.num)
            (fixed corner.point y corner.stands there ∙ ap (λ (z : ℤ). quantity y.num *ℤ z) o.2)
            ∙ ap (λ (z : ℤ). z +ℤ (quantity corner.point.num *ℤ pos h.scale) *ℤ x.num one_column) (sym (value-times x.num (pos o.0) h.form));
      },
    )
