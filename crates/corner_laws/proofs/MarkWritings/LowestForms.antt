-- Each form has lowest terms, together with its scale; so each quantity that a corner fixes has a writing.
use Rattle.std.proofs.Common.{◌≡◌, ◌≢◌, ◌∙◌, ℕ, ◌*◌, ◌/◌, ◌<◌, Bool, cond, nat_eq, List, [], ◌∷◌, ℤ, pos, ◌+ℤ◌, ◌*ℤ◌, unsigned_abs, refl, sym, ap, ap₂, subst, arith, inl, inr, ◌⊎◌, eq-eqb, ne_eqb, mul_comm}
use Rattle.std.specs.Int.{◌∣◌}
use Rattle.std.specs.List.{AllByRecursion as Each}
use Rattle.std.proofs.lemmas.Bool.{cases_eq}
use Rattle.std.proofs.lemmas.Nat.Gcd.{dvd_refl, dvd_trans}
use Rattle.std.proofs.lemmas.Int.{unsigned_abs-mul}
use Rattle.std.proofs.Math.Nat.{div-mul_cancel, mul-dvd-mul_right, pos_of_dvd_of_pos}
use Rattle.frac_core.proofs.Gauss.{scaled}
use Rattle.frac_core.proofs.Integers.{cancel_mul, mul_assoc_ℤ, zero-add_ℤ}
use Rattle.problem_core.specs.declared.parts.Term.{Term}
use Rattle.problem_core.specs.Layout.{coefficient}
use Rattle.problem_core.proofs.Forms.{coefficient-times, each-impl, times}
use Rattle.problem_core.specs.declared.parts.Mark.{Mark}
use Rattle.problem_core.specs.declared.parts.Stay.{Stay}
use Rattle.problem_core.specs.Layout.{HasStay, Problem, lines}
use Rattle.problem_core.specs.Corners.{Agree, IsCorner, IsWritingOf, Point, StandsAt, attr_column, marks_of, one_column, place}
use Rattle.problem_core.specs.Rays.{HasRays}
use Rattle.std.proofs.lemmas.List.Elements.{recursion_from_All}
use lib.IntN.{*ℤ_comm}
use Rattle.corner_laws.specs.Equations.{AreLowest}
use Rattle.corner_laws.specs.Laws.{IsFixedAt, IsLinear, IsMarkAt}
use Rattle.corner_laws.proofs.MarkWritings.Equations.{writing_from_equation, whole_share as multiple}
use Rattle.corner_laws.proofs.MarkWritings.Linear.{equation_exists}
use Rattle.corner_laws.proofs.WrittenValues.{contains_each}
use Rattle.frac_core.proofs.Numbers.{plus-zero as at-zero, only-one, as-natural as above-zero}
use Rattle.frac_core.proofs.Bools.{count-other as cond_other, count-same as cond_same}

-- ---- each column once

abbrev drop_column : ℕ → List Term → List Term
drop_column a [] = []
drop_column a (t ∷ ts) = cond (nat_eq t.attr a) (drop_column a ts) (t ∷ drop_column a ts)

-- by whether the first term is of the column
by-first : (P : List Term → Type 0) (a : ℕ) (t : Term) (ts : List Term) → (t.attr ≡ a → P (drop_column a ts)) → (t.attr ≢ a → P (t ∷ drop_column a ts)) → P (drop_column a (t ∷ ts))
by-first P a t ts same other =
    elim (cases_eq t.attr a) [
      | inl e ↦ subst (λ (b : Bool). P (cond b (drop_column a ts) (t ∷ drop_column a ts))) (sym (eq-eqb t.attr a e)) (same e)
      | inr n ↦ subst (λ (b : Bool). P (cond b (drop_column a ts) (t ∷ drop_column a ts))) (sym (ne_eqb t.attr a n)) (other n)
    ]

not-first : (u v : ℕ) (k z : ℤ) → u ≢ v → cond (nat_eq u v) k (pos 0) +ℤ z ≡ z
not-first u v k z n = ap (λ (t : ℤ). t +ℤ z) (cond_other u v k n) ∙ zero-add_ℤ z

dropped-own : (a : ℕ) (ts : List Term) → coefficient a (drop_column a ts) ≡ pos 0
dropped-own a [] = refl
dropped-own a (t ∷ ts) =
    by-first (λ us. coefficient a us ≡ pos 0) a t ts (λ e. dropped-own a ts)
    (λ n. not-first t.attr a t.by (coefficient a (drop_column a ts)) n ∙ dropped-own a ts)

dropped-other : (a v : ℕ) (ts : List Term) → v ≢ a → coefficient v (drop_column a ts) ≡ coefficient v ts
dropped-other a v [] ne = refl
dropped-other a v (t ∷ ts) ne =
    by-first (λ us. coefficient v us ≡ coefficient v (t ∷ ts)) a t ts
    (λ e. dropped-other a v ts ne ∙ sym (not-first t.attr v t.by (coefficient v ts) (λ q. ne (sym q ∙ e))))
    (λ n. ap (λ (z : ℤ). cond (nat_eq t.attr v) t.by (pos 0) +ℤ z) (dropped-other a v ts ne))

dropped-each : (P : Term → Type 0) (a : ℕ) (ts : List Term) → Each P ts → Each (λ u. (u.attr ≢ a) × P u) (drop_column a ts)
dropped-each P a [] h = tt
dropped-each P a (t ∷ ts) h =
    by-first (λ us. Each (λ u. (u.attr ≢ a) × P u) us) a t ts (λ e. dropped-each P a ts h.1) (λ n. ((n, h.0), dropped-each P a ts h.1))

abbrev once : List Term → List Term
once [] = []
once (t ∷ ts) = record { attr = t.attr; by = coefficient t.attr (t ∷ ts) } ∷ drop_column t.attr (once ts)

once-at : (v : ℕ) (ts : List Term) → coefficient v (once ts) ≡ coefficient v ts
once-at v [] = refl
once-at v (t ∷ ts) =
    elim (cases_eq t.attr v) [
      | inl e ↦
          ap (λ (z : ℤ). z +ℤ coefficient v (drop_column t.attr (once ts))) (cond_same t.attr v (coefficient t.attr (t ∷ ts)) e)
          ∙ at-zero (coefficient t.attr (t ∷ ts)) (coefficient v (drop_column t.attr (once ts))) (ap (λ (u : ℕ). coefficient u (drop_column t.attr (once ts))) (sym e) ∙ dropped-own t.attr (once ts))
          ∙ ap (λ (u : ℕ). coefficient u (t ∷ ts)) e
      | inr n ↦
          not-first t.attr v (coefficient t.attr (t ∷ ts)) (coefficient v (drop_column t.attr (once ts))) n
          ∙ dropped-other t.attr v (once ts) (λ e. n (sym e)) ∙ once-at v ts
          ∙ sym (not-first t.attr v t.by (coefficient v ts) n)
    ]

-- each term then has its column's whole coefficient
once-own : (ts : List Term) → Each (λ u. u.by ≡ coefficient u.attr ts) (once ts)
once-own [] = tt
once-own (t ∷ ts) = (
  refl,
  each-impl (λ u. (u.attr ≢ t.attr) × (u.by ≡ coefficient u.attr ts)) _ (drop_column t.attr (once ts))
      (λ u h. h.1 ∙ sym (not-first t.attr u.attr t.by (coefficient u.attr ts) (λ e. h.0 (sym e))))
      (dropped-each (λ u. u.by ≡ coefficient u.attr ts) t.attr (once ts) (once-own ts)),
)

-- ---- the greatest common divisor

pub record IsShared (s : ℕ) (ts : List Term) (g : ℕ) : Type 0 where
  pub scale : g ∣ s
  pub terms : Each (λ t. g ∣ unsigned_abs t.by) ts
  pub greatest : (d : ℕ) → d ∣ s → Each (λ t. d ∣ unsigned_abs t.by) ts → d ∣ g

pub shared : (s : ℕ) (ts : List Term) → (g : ℕ) × IsShared s ts g
shared s [] = (s, record { scale = dvd_refl s; terms = tt; greatest = λ d h each. h })
shared s (t ∷ ts) =
    let h = shared s ts in
    let r = scaled (unsigned_abs t.by) h.0 (unsigned_abs t.by) (omega arith) in
    let to : r.0 ∣ h.0 = r.1.0 in (
      r.0,
      record {
        scale = dvd_trans r.0 to h.1.scale;
        terms = (r.1.1, each-impl (λ t. h.0 ∣ unsigned_abs t.by) (λ t. r.0 ∣ unsigned_abs t.by) ts (λ t e. dvd_trans r.0 to e) h.1.terms);
        greatest = λ d e each. r.1.2 d (h.1.greatest d e each.1) each.0;
      },
    )

-- the terms over a common divisor
parts : (g : ℕ) (ts : List Term) → Each (λ t. g ∣ unsigned_abs t.by) ts → (us : List Term) × (times (pos g) us ≡ ts)
parts g [] h = ([], refl)
parts g (t ∷ ts) h =
    let m = multiple g t.by h.0 in
    let rest = parts g ts h.1 in
    (record { attr = t.attr; by = m.0 } ∷ rest.0, ap₂ (λ (z : ℤ) (us : List Term). record { attr = t.attr; by = z } ∷ us) (sym m.1) rest.1)

-- ---- lowest terms

pub pos-quotient : (q g s : ℕ) → 0 < s → q * g ≡ s → 0 < q
pos-quotient q g s above e = elim (cases_eq q 0) [
  | inl z ↦ absurd (omega (arith, above, e, ap (λ (n : ℕ). n * g) z))
  | inr n ↦ omega (arith, n)
]

pub lowest_exists : (scale : ℕ) (form : List Term) → 0 < scale → (low : ℕ) × (part : List Term) × AreLowest scale (λ v. coefficient v form) low (λ v. coefficient v part)
lowest_exists scale form above =
    let h = shared scale (once form) in
    let g : ℕ = h.0 in
    let up : 0 < h.0 = pos_of_dvd_of_pos h.1.scale above in
    let whole : scale / h.0 * h.0 ≡ scale = div-mul_cancel h.0 h.1.scale in
    let p = parts h.0 (once form) h.1.terms in
    let is : (v : ℕ) → coefficient v form ≡ pos h.0 *ℤ coefficient v p.0 = λ v. sym (once-at v form) ∙ ap (λ (ts : List Term). coefficient v ts) (sym p.1) ∙ coefficient-times v (pos h.0) p.0 in (
      scale / h.0,
      p.0,
      record {
        low_positive = pos-quotient (scale / h.0) h.0 scale above whole;
        same = λ v. ap (λ (n : ℕ). pos n *ℤ coefficient v p.0) (sym whole) ∙ mul_assoc_ℤ (pos (scale / h.0)) (pos h.0) (coefficient v p.0) ∙ ap (λ (z : ℤ). pos (scale / h.0) *ℤ z) (sym (is v));
        lowest = λ k divides each.
            only-one k h.0 up
            (h.1.greatest (k * h.0) (subst (λ (n : ℕ). (k * h.0) ∣ n) whole (mul-dvd-mul_right k divides h.0))
            (each-impl (λ u. u.by ≡ coefficient u.attr form) (λ u. (k * h.0) ∣ unsigned_abs u.by) (once form)
            (λ u e. subst (λ (n : ℕ). (k * h.0) ∣ n) (mul_comm (unsigned_abs (coefficient u.attr p.0)) h.0 ∙ sym (unsigned_abs-mul (pos h.0) (coefficient u.attr p.0)) ∙ ap unsigned_abs (sym (is u.attr) ∙ sym e)) (mul-dvd-mul_right k (each u.attr) h.0))
            (once-own form)));
      },
    )

-- ---- the writing

pub writing_exists : (p : Problem) (at : List Mark) (quantity : (ℕ → ℤ) → ℤ) → IsCorner p at → HasRays p at → IsLinear quantity → IsFixedAt p at quantity → (scale : ℕ) × (form : List Term) × (num : ℤ) × (den : ℕ) × IsWritingOf p at quantity scale form num den
writing_exists p at quantity corner rays linear fixed =
    let e = equation_exists p at quantity corner rays linear fixed in
    let l = lowest_exists e.0 e.1 e.3.scale_positive in
    (l.0, l.1, e.2, e.0, writing_from_equation p at quantity e.0 e.1 e.2 l.0 l.1 (record { num = e.2; den = e.0 }) e.3 l.2 e.3.scale_positive refl)

-- ---- what a corner fixes

-- two points that agree with a third agree
agree-both : (o x y a b : ℤ) (k : ℕ) → o ≡ pos k → 0 < k → (c : ℤ) → c *ℤ a ≡ x *ℤ o → c *ℤ b ≡ y *ℤ o → x *ℤ b ≡ y *ℤ a
agree-both o x y a b k e above c f g =
    cancel_mul k (x *ℤ b) (y *ℤ a) above
    (ap (λ (z : ℤ). z *ℤ (x *ℤ b)) (sym e) ∙ sym (mul_assoc_ℤ o x b) ∙ ap (λ (z : ℤ). z *ℤ b) (*ℤ_comm o x ∙ sym f)
    ∙ mul_assoc_ℤ c a b ∙ ap (λ (z : ℤ). c *ℤ z) (*ℤ_comm a b) ∙ sym (mul_assoc_ℤ c b a) ∙ ap (λ (z : ℤ). z *ℤ a) (g ∙ *ℤ_comm y o) ∙ mul_assoc_ℤ o y a ∙ ap (λ (z : ℤ). z *ℤ (y *ℤ a)) e)

agreed : (p : Problem) (at : List Mark) (c : ℕ) (z : Point) → ((y : Point) → StandsAt p at y → Agree c z y) → IsFixedAt p at (λ x. x c)
agreed p at c z h x y here there =
    let o = above-zero (z.num one_column) z.positive in
    agree-both (z.num one_column) (x.num c) (y.num c) (x.num one_column) (y.num one_column) o.0 o.2 o.1 (z.num c) (h x here) (h y there)

pub marks_are_fixed : (p : Problem) (at : List Mark) (c : ℕ) → IsCorner p at → IsMarkAt p c → IsFixedAt p at (λ x. x c)
marks_are_fixed p at c corner mark = agreed p at c corner.point (λ y h. contains_each (λ v. Agree v corner.point y) (marks_of (lines p)) c (recursion_from_All (λ m. Agree (place m) corner.point y) (marks_of (lines p)) (corner.marks_fixed y h)) mark)

pub attrs_are_fixed : (p : Problem) (at : List Mark) (attr : ℕ) → IsCorner p at → HasStay p.stays attr → IsFixedAt p at (λ x. x (attr_column attr))
attrs_are_fixed p at attr corner (k, s, within, is, e) =
    agreed p at (attr_column attr) corner.point
    (λ y h. subst (λ (a : ℕ). Agree (attr_column a) corner.point y) (ap (λ (t : Stay). t.attr) is ∙ e) (corner.attrs_fixed y h k s within))

column-linear : (c : ℕ) → IsLinear (λ x. x c)
column-linear c a b x y = refl

-- an attribute or an inside mark
pub column_has_writing : (p : Problem) (at : List Mark) (c : ℕ) → IsCorner p at → HasRays p at → IsMarkAt p c ⊎ ((attr : ℕ) × HasStay p.stays attr × (c ≡ attr_column attr)) → (scale : ℕ) × (form : List Term) × (num : ℤ) × (den : ℕ) × IsWritingOf p at (λ x. x c) scale form num den
column_has_writing p at c corner rays (inl mark) = writing_exists p at (λ x. x c) corner rays (column-linear c) (marks_are_fixed p at c corner mark)
column_has_writing p at c corner rays (inr (attr, stay, e)) = writing_exists p at (λ x. x c) corner rays (column-linear c) (subst (λ (v : ℕ). IsFixedAt p at (λ x. x v)) (sym e) (attrs_are_fixed p at attr corner stay))
