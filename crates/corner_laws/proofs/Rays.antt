-- Rays after an exchange, and what they show of writings.
use Rattle.std.proofs.Common.{◌≡◌, ◌≢◌, ◌∙◌, ℕ, ◌<◌, List, [], map, ℤ, pos, negsuc, ◌+ℤ◌, ◌*ℤ◌, neg_ℤ, ◌<ℤ◌, sym, ap, ap₂, subst, arith, inl, inr, All, Contains}
use Rattle.std.proofs.lemmas.Bool.{cases_eq}
use Rattle.std.proofs.lemmas.List.Elements.{All-from_recursion, recursion_from_All}
use lib.IntN.{*ℤ_comm}
use borrow.Author.Differences.{ints}
use Rattle.frac_core.proofs.Integers.{cancel_mul, mul_assoc_ℤ, mul_left_comm_ℤ, mul-add_left, zero-mul_ℤ, mul-zero_ℤ, sign_cases, mul_positive}
use Rattle.problem_core.specs.declared.parts.Mark.{Mark}
use Rattle.problem_core.specs.declared.parts.Term.{Term}
use Rattle.problem_core.specs.Layout.{Problem, lines, coefficient, value_at}
use Rattle.problem_core.specs.Corners.{Agree, Point, IsExchange, IsIn, Solves, StandsAt, Swap, equation, exchanged, marks_of, one_column, place}
use Rattle.problem_core.proofs.Forms.{each-impl, each-both, value-plus, value-scaled, value-single}
use Rattle.problem_core.specs.Rays.{IsRay, HasRays}
use Rattle.corner_laws.proofs.WrittenValues.{contains_each, form_there}
use Rattle.corner_laws.proofs.Exchanged.{IsEquationOf}
use Rattle.frac_core.proofs.Numbers.{as-natural as above-zero, signed-not-zero as not_zero, neg-times}
use Rattle.problem_core.proofs.Marks.{entered-in as enter_in, kept-in as kept_in}

-- ---- a point moved along a ray

pub moved-one : (p : Problem) (at : List Mark) (c : ℕ) (ray : ℕ → ℤ) (x : Point) → IsRay p at c ray → x.num one_column +ℤ ray one_column ≡ x.num one_column
moved-one p at c ray x r = omega (arith, ints, r.still)

unfoldable pub moved : (p : Problem) (at : List Mark) (c : ℕ) (ray : ℕ → ℤ) (x : Point) → IsRay p at c ray → Point
moved p at c ray x r = record { num = λ v. x.num v +ℤ ray v; positive = subst (λ (z : ℤ). pos 0 <ℤ z) (sym (moved-one p at c ray x r)) x.positive }

pub moved_solves : (p : Problem) (at : List Mark) (c : ℕ) (ray : ℕ → ℤ) (x : Point) (r : IsRay p at c ray) → Solves p x → Solves p (moved p at c ray x r)
unfolding moved
moved_solves p at c ray x r h =
    All-from_recursion (λ l. value_at (λ v. x.num v +ℤ ray v) (equation l) ≡ pos 0) (lines p)
    (each-impl (λ l. (value_at x.num (equation l) ≡ pos 0) × (value_at ray (equation l) ≡ pos 0)) _ (lines p)
    (λ l e. value-plus x.num ray (equation l) ∙ ap₂ ◌+ℤ◌ e.0 e.1)
    (each-both _ _ (lines p) (recursion_from_All _ (lines p) h) (recursion_from_All _ (lines p) r.holds)))

-- a form of outside marks has one term on the ray
pub ray_form : (p : Problem) (at : List Mark) (c : ℕ) (ray : ℕ → ℤ) (form : List Term) → IsRay p at c ray → ((v : ℕ) → coefficient v form ≢ pos 0 → Contains (map place (marks_of (lines p))) v × (IsIn v at → ⊥)) → value_at ray form ≡ coefficient c form *ℤ ray c
ray_form p at c ray form r outside =
    value-single ray c form
    (λ v ne. elim (sign_cases (coefficient v form)) [
      | inl z ↦ ap (λ (t : ℤ). t *ℤ ray v) z ∙ zero-mul_ℤ (ray v)
      | inr s ↦ let out = outside v (not_zero (coefficient v form) s) in
          ap (λ (t : ℤ). coefficient v form *ℤ t)
          (contains_each (λ u. (IsIn u at → ⊥) → u ≢ c → ray u ≡ pos 0) (marks_of (lines p)) v (recursion_from_All (λ m. (IsIn (place m) at → ⊥) → place m ≢ c → ray (place m) ≡ pos 0) (marks_of (lines p)) r.other) out.0 out.1 ne)
          ∙ mul-zero_ℤ (coefficient v form)
    ])

-- ---- two equations of one quantity

-- s*q = k*o there, s*q' = f + k*o on the ray; the same with t, l, m
crossed : (s t : ℕ) (q f l k m : ℤ) → pos t *ℤ k ≡ pos s *ℤ m → pos s *ℤ q ≡ f +ℤ k → pos t *ℤ q ≡ l +ℤ m → pos t *ℤ f ≡ pos s *ℤ l
crossed s t q f l k m e a b =
    let one : pos t *ℤ (pos s *ℤ q) ≡ pos t *ℤ f +ℤ pos t *ℤ k = ap (λ (z : ℤ). pos t *ℤ z) a ∙ mul-add_left (pos t) f k in
    let two : pos s *ℤ (pos t *ℤ q) ≡ pos s *ℤ l +ℤ pos s *ℤ m = ap (λ (z : ℤ). pos s *ℤ z) b ∙ mul-add_left (pos s) l m in
    omega (arith, ints, one, two, mul_left_comm_ℤ (pos t) (pos s) q, e)

level-there : (s t : ℕ) (q k m : ℤ) → pos s *ℤ q ≡ pos 0 +ℤ k → pos t *ℤ q ≡ pos 0 +ℤ m → pos t *ℤ k ≡ pos s *ℤ m
level-there s t q k m a b =
    let one : pos t *ℤ (pos s *ℤ q) ≡ pos t *ℤ k = ap (λ (z : ℤ). pos t *ℤ z) (let h : pos s *ℤ q ≡ k = omega (arith, ints, a) in h) in
    let two : pos s *ℤ (pos t *ℤ q) ≡ pos s *ℤ m = ap (λ (z : ℤ). pos s *ℤ z) (let h : pos t *ℤ q ≡ m = omega (arith, ints, b) in h) in
    omega (arith, ints, one, two, mul_left_comm_ℤ (pos t) (pos s) q)

pub cancel-right : (x y z : ℤ) → pos 0 <ℤ z → x *ℤ z ≡ y *ℤ z → x ≡ y
cancel-right x y (pos n) above e = cancel_mul n x y (omega (arith, ints, above)) (*ℤ_comm (pos n) x ∙ e ∙ *ℤ_comm y (pos n))
cancel-right x y (negsuc n) above e = absurd above.lt

on-ray : (f g k : ℤ) (o r : ℤ) → g ≡ pos 0 → r ≡ pos 0 → (g +ℤ f) +ℤ k *ℤ (o +ℤ r) ≡ f +ℤ k *ℤ o
on-ray f g k o r a b = let e : o +ℤ r ≡ o = omega (arith, ints, b) in ap (λ (z : ℤ). (g +ℤ f) +ℤ k *ℤ z) e ∙ omega (arith, ints, a)

-- at a corner, the coefficients of two equations of one quantity are proportional at each mark that has a ray
pub coefficients_same : (p : Problem) (at : List Mark) (quantity : (ℕ → ℤ) → ℤ) (s t : ℕ) (f l : List Term) (k m : ℤ) (x : Point) (c : ℕ) (ray : ℕ → ℤ) → StandsAt p at x → IsRay p at c ray → IsEquationOf p at quantity s f k → IsEquationOf p at quantity t l m → pos t *ℤ coefficient c f ≡ pos s *ℤ coefficient c l
unfolding moved
coefficients_same p at quantity s t f l k m x c ray stands r v w =
    let here : pos t *ℤ (k *ℤ x.num one_column) ≡ pos s *ℤ (m *ℤ x.num one_column) =
    level-there s t (quantity x.num) (k *ℤ x.num one_column) (m *ℤ x.num one_column)
    (v.holds x stands.0 ∙ ap (λ (z : ℤ). z +ℤ k *ℤ x.num one_column) (form_there p at x f stands v.outside))
    (w.holds x stands.0 ∙ ap (λ (z : ℤ). z +ℤ m *ℤ x.num one_column) (form_there p at x l stands w.outside)) in
    let y : Point = moved p at c ray x r in
    let there = moved_solves p at c ray x r stands.0 in
    let a : pos s *ℤ quantity y.num ≡ value_at ray f +ℤ k *ℤ x.num one_column =
    v.holds y there ∙ ap (λ (z : ℤ). z +ℤ k *ℤ (x.num one_column +ℤ ray one_column)) (value-plus x.num ray f)
    ∙ on-ray (value_at ray f) (value_at x.num f) k (x.num one_column) (ray one_column) (form_there p at x f stands v.outside) r.still in
    let b : pos t *ℤ quantity y.num ≡ value_at ray l +ℤ m *ℤ x.num one_column =
    w.holds y there ∙ ap (λ (z : ℤ). z +ℤ m *ℤ (x.num one_column +ℤ ray one_column)) (value-plus x.num ray l)
    ∙ on-ray (value_at ray l) (value_at x.num l) m (x.num one_column) (ray one_column) (form_there p at x l stands w.outside) r.still in
    let both : pos t *ℤ value_at ray f ≡ pos s *ℤ value_at ray l = crossed s t (quantity y.num) (value_at ray f) (value_at ray l) (k *ℤ x.num one_column) (m *ℤ x.num one_column) here a b in
    cancel-right (pos t *ℤ coefficient c f) (pos s *ℤ coefficient c l) (ray c) r.here
    (mul_assoc_ℤ (pos t) (coefficient c f) (ray c) ∙ ap (λ (z : ℤ). pos t *ℤ z) (sym (ray_form p at c ray f r v.outside)) ∙ both
    ∙ ap (λ (z : ℤ). pos s *ℤ z) (ray_form p at c ray l r w.outside) ∙ sym (mul_assoc_ℤ (pos s) (coefficient c l) (ray c)))

-- ---- the leaving mark moves on the entering mark's ray

no-more : (x r o : ℤ) → pos 0 <ℤ r → pos 0 <ℤ o → x *ℤ o ≡ (x +ℤ r) *ℤ o → ⊥
no-more x r o above one e =
    let same : x ≡ x +ℤ r = cancel-right x (x +ℤ r) o one e in
    omega (arith, ints, same, above)

-- otherwise both the corner after and that point moved along the ray would stand there
pub pivot_nonzero : (p : Problem) (at : List Mark) (s : Swap) (ray : ℕ → ℤ) → Contains (map place (marks_of (lines p))) (place s.enter) → IsExchange p at s → IsRay p at (place s.enter) ray → ray (place s.leave) ≢ pos 0
unfolding moved
pivot_nonzero p at s ray mark ex r none =
    let x : Point = ex.corner.point in
    let y : Point = moved p at (place s.enter) ray x r in
    let stands : StandsAt p (exchanged s at) y = (
      moved_solves p at (place s.enter) ray x r ex.corner.stands.0,
      All-from_recursion (λ m. (IsIn (place m) (exchanged s at) → ⊥) → x.num (place m) +ℤ ray (place m) ≡ pos 0) (marks_of (lines p))
          (each-impl (λ m. ((IsIn (place m) (exchanged s at) → ⊥) → x.num (place m) ≡ pos 0) × ((IsIn (place m) at → ⊥) → place m ≢ place s.enter → ray (place m) ≡ pos 0)) _ (marks_of (lines p))
          (λ m h out. ap₂ ◌+ℤ◌ (h.0 out) (elim (cases_eq (place m) (place s.leave)) [
            | inl e ↦ ap ray e ∙ none
            | inr n ↦ h.1 (λ i. out (kept_in s at (place m) i n)) (λ e. out (subst (λ (c : ℕ). IsIn c (exchanged s at)) (sym e) (enter_in s at ex.leaves)))
          ]))
          (each-both _ _ (marks_of (lines p)) (recursion_from_All (λ m. (IsIn (place m) (exchanged s at) → ⊥) → x.num (place m) ≡ pos 0) (marks_of (lines p)) ex.corner.stands.1) (recursion_from_All _ (marks_of (lines p)) r.other))),
    ) in
    let agree : Agree (place s.enter) x y = contains_each (λ c. Agree c x y) (marks_of (lines p)) (place s.enter) (recursion_from_All _ (marks_of (lines p)) (ex.corner.marks_fixed y stands)) mark in
    let one : x.num one_column +ℤ ray one_column ≡ x.num one_column = moved-one p at (place s.enter) ray x r in
    no-more (x.num (place s.enter)) (ray (place s.enter)) (x.num one_column) r.here x.positive (ap (λ (z : ℤ). x.num (place s.enter) *ℤ z) (sym one) ∙ agree)

-- ---- rays after an exchange

-- g times one ray less t times the other
abbrev pub combined_ray : ℕ → ℤ → (ℕ → ℤ) → (ℕ → ℤ) → ℕ → ℤ
combined_ray g t a b v = pos g *ℤ a v +ℤ neg_ℤ t *ℤ b v

pub combined-zero : (g : ℕ) (t a b : ℤ) → a ≡ pos 0 → b ≡ pos 0 → pos g *ℤ a +ℤ neg_ℤ t *ℤ b ≡ pos 0
combined-zero g t a b e f = ap₂ ◌+ℤ◌ (ap (λ (z : ℤ). pos g *ℤ z) e ∙ mul-zero_ℤ (pos g)) (ap (λ (z : ℤ). neg_ℤ t *ℤ z) f ∙ mul-zero_ℤ (neg_ℤ t))

pub combined-holds : (p : Problem) (g : ℕ) (t : ℤ) (a b : ℕ → ℤ) → All (λ l. value_at a (equation l) ≡ pos 0) (lines p) → All (λ l. value_at b (equation l) ≡ pos 0) (lines p) → All (λ l. value_at (combined_ray g t a b) (equation l) ≡ pos 0) (lines p)
combined-holds p g t a b h k =
    All-from_recursion (λ l. value_at (combined_ray g t a b) (equation l) ≡ pos 0) (lines p)
    (each-impl (λ l. (value_at a (equation l) ≡ pos 0) × (value_at b (equation l) ≡ pos 0)) _ (lines p)
    (λ l e. value-plus (λ v. pos g *ℤ a v) (λ v. neg_ℤ t *ℤ b v) (equation l)
    ∙ ap₂ ◌+ℤ◌ (value-scaled (pos g) a (equation l)) (value-scaled (neg_ℤ t) b (equation l))
    ∙ combined-zero g t (value_at a (equation l)) (value_at b (equation l)) e.0 e.1)
    (each-both _ _ (lines p) (recursion_from_All _ (lines p) h) (recursion_from_All _ (lines p) k)))

pub cancelled : (g : ℕ) (t a b : ℤ) → pos g *ℤ a ≡ t *ℤ b → pos g *ℤ a +ℤ neg_ℤ t *ℤ b ≡ pos 0
cancelled g t a b e = omega (arith, ints, e, neg-times t b)

pub above-here : (g : ℕ) (t a b : ℤ) → 0 < g → pos 0 <ℤ a → b ≡ pos 0 → pos 0 <ℤ (pos g *ℤ a +ℤ neg_ℤ t *ℤ b)
above-here g t a b above h e =
    let one : pos 0 <ℤ (pos g *ℤ a) = mul_positive g a above h in
    let two : neg_ℤ t *ℤ b ≡ pos 0 = ap (λ (z : ℤ). neg_ℤ t *ℤ z) e ∙ mul-zero_ℤ (neg_ℤ t) in
    omega (arith, ints, one, two)

-- the other outside mark's ray, made still at the leaving mark
other-ray : (p : Problem) (at : List Mark) (s : Swap) (c g : ℕ) (t : ℤ) (a b : ℕ → ℤ) → IsIn (place s.leave) at → Contains (map place (marks_of (lines p))) c → (IsIn c at → ⊥) → c ≢ place s.enter → IsRay p at c a → IsRay p at (place s.enter) b → 0 < g → pos g *ℤ a (place s.leave) ≡ t *ℤ b (place s.leave) → IsRay p (exchanged s at) c (combined_ray g t a b)
other-ray p at s c g t a b leaves mark out ne ra rb above cancels = record {
  holds = combined-holds p g t a b ra.holds rb.holds;
  still = combined-zero g t (a one_column) (b one_column) ra.still rb.still;
  here = above-here g t (a c) (b c) above ra.here
      (contains_each (λ u. (IsIn u at → ⊥) → u ≢ place s.enter → b u ≡ pos 0) (marks_of (lines p)) c (recursion_from_All (λ m. (IsIn (place m) at → ⊥) → place m ≢ place s.enter → b (place m) ≡ pos 0) (marks_of (lines p)) rb.other) mark out ne);
  other = All-from_recursion (λ m. (IsIn (place m) (exchanged s at) → ⊥) → place m ≢ c → combined_ray g t a b (place m) ≡ pos 0) (marks_of (lines p))
      (each-impl (λ m. ((IsIn (place m) at → ⊥) → place m ≢ c → a (place m) ≡ pos 0) × ((IsIn (place m) at → ⊥) → place m ≢ place s.enter → b (place m) ≡ pos 0)) _ (marks_of (lines p))
      (λ m h gone apart. elim (cases_eq (place m) (place s.leave)) [
        | inl e ↦ cancelled g t (a (place m)) (b (place m)) (subst (λ (v : ℕ). pos g *ℤ a v ≡ t *ℤ b v) (sym e) cancels)
        | inr n ↦
            let before : IsIn (place m) at → ⊥ = λ i. gone (kept_in s at (place m) i n) in
            combined-zero g t (a (place m)) (b (place m)) (h.0 before apart) (h.1 before (λ e. gone (subst (λ (v : ℕ). IsIn v (exchanged s at)) (sym e) (enter_in s at leaves))))
      ])
      (each-both _ _ (marks_of (lines p)) (recursion_from_All _ (marks_of (lines p)) ra.other) (recursion_from_All _ (marks_of (lines p)) rb.other)));
}

-- the entering mark's ray, with the sign that lets the leaving mark grow
leaving-ray : (p : Problem) (at : List Mark) (s : Swap) (b : ℕ → ℤ) (t : ℤ) → IsIn (place s.leave) at → IsRay p at (place s.enter) b → pos 0 <ℤ (neg_ℤ t *ℤ b (place s.leave)) → IsRay p (exchanged s at) (place s.leave) (combined_ray 0 t b b)
leaving-ray p at s b t leaves rb above = record {
  holds = combined-holds p 0 t b b rb.holds rb.holds;
  still = combined-zero 0 t (b one_column) (b one_column) rb.still rb.still;
  here = (let none = zero-mul_ℤ (b (place s.leave)) in let h : pos 0 <ℤ (pos 0 *ℤ b (place s.leave) +ℤ neg_ℤ t *ℤ b (place s.leave)) = omega (arith, ints, none, above) in h);
  other = All-from_recursion (λ m. (IsIn (place m) (exchanged s at) → ⊥) → place m ≢ place s.leave → combined_ray 0 t b b (place m) ≡ pos 0) (marks_of (lines p))
      (each-impl (λ m. (IsIn (place m) at → ⊥) → place m ≢ place s.enter → b (place m) ≡ pos 0) _ (marks_of (lines p))
      (λ m h gone apart.
      let none : b (place m) ≡ pos 0 = h (λ i. gone (kept_in s at (place m) i apart)) (λ e. gone (subst (λ (v : ℕ). IsIn v (exchanged s at)) (sym e) (enter_in s at leaves))) in
      combined-zero 0 t (b (place m)) (b (place m)) none none)
      (recursion_from_All _ (marks_of (lines p)) rb.other));
}

-- a factor that takes the second number to the first, times a positive one
pub factors : (a b : ℤ) → b ≢ pos 0 → (g : ℕ) × (t : ℤ) × (0 < g) × (pos g *ℤ a ≡ t *ℤ b)
factors a b ne =
    elim (sign_cases b) [
      | inl e ↦ absurd (ne e)
      | inr (inl h) ↦ let k = above-zero b h in (k.0, a, k.1, *ℤ_comm (pos k.0) a ∙ ap (λ (z : ℤ). a *ℤ z) (sym k.2))
      | inr (inr h) ↦ let k = above-zero (neg_ℤ b) h in (
        k.0,
        neg_ℤ a,
        k.1,
        *ℤ_comm (pos k.0) a ∙ ap (λ (z : ℤ). a *ℤ z) (sym k.2)
            ∙ *ℤ_comm a (neg_ℤ b) ∙ neg-times b a ∙ ap neg_ℤ (*ℤ_comm b a) ∙ sym (neg-times a b),
      )
    ]

some-sign : (z : ℤ) → z ≢ pos 0 → (t : ℤ) × (pos 0 <ℤ (neg_ℤ t *ℤ z))
some-sign z ne =
    elim (sign_cases z) [
      | inl e ↦ absurd (ne e)
      | inr (inl h) ↦ (negsuc 0, (let k : pos 1 *ℤ z ≡ z = omega (arith, ints) in let g : pos 0 <ℤ (pos 1 *ℤ z) = omega (arith, ints, k, h) in g))
      | inr (inr h) ↦ (pos 1, (let k : negsuc 0 *ℤ z ≡ neg_ℤ z = omega (arith, ints) in let g : pos 0 <ℤ (negsuc 0 *ℤ z) = omega (arith, ints, k, h) in g))
    ]

-- each outside mark has a ray at the next corner too
pub rays_after : (p : Problem) (at : List Mark) (s : Swap) → Contains (map place (marks_of (lines p))) (place s.enter) → IsExchange p at s → HasRays p at → HasRays p (exchanged s at)
rays_after p at s mark ex rays c is out =
    let b = rays (place s.enter) mark ex.enters in
    let pivot = pivot_nonzero p at s b.0 mark ex b.1 in
    elim (cases_eq c (place s.leave)) [
      | inl e ↦
          let t = some-sign (b.0 (place s.leave)) pivot in
          (combined_ray 0 t.0 b.0 b.0, subst (λ (v : ℕ). IsRay p (exchanged s at) v (combined_ray 0 t.0 b.0 b.0)) (sym e) (leaving-ray p at s b.0 t.0 ex.leaves b.1 t.1))
      | inr n ↦
          let before : IsIn c at → ⊥ = λ i. out (kept_in s at c i n) in
          let a = rays c is before in
          let f = factors (a.0 (place s.leave)) (b.0 (place s.leave)) pivot in
          (combined_ray f.0 f.1 a.0 b.0, other-ray p at s c f.0 f.1 a.0 b.0 ex.leaves is before (λ e. out (subst (λ (v : ℕ). IsIn v (exchanged s at)) (sym e) (enter_in s at ex.leaves))) a.1 b.1 f.2 f.3)
    ]
