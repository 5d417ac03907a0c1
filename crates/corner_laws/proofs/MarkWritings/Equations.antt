-- Equations and writings of one quantity at a corner have the same lowest terms.
use Rattle.std.proofs.Common.{◌≡◌, ◌≢◌, ◌∙◌, ℕ, suc, ◌*◌, ◌/◌, ◌<◌, List, ℤ, pos, negsuc, ◌+ℤ◌, ◌-ℤ◌, ◌*ℤ◌, neg_ℤ, unsigned_abs, sym, ap, subst, arith, inl, inr, mul-pos}
use Rattle.std.specs.Int.{◌∣◌}
use Rattle.std.proofs.Math.Nat.{div-mul_cancel, dvd-mul_right}
use Rattle.frac_core.specs.Fraction.{Fraction, IsRatio}
use lib.IntN.{*ℤ_comm}
use borrow.Author.Differences.{ints}
use Rattle.frac_core.proofs.Integers.{cancel_mul, mul_assoc_ℤ, mul_left_comm_ℤ, mul-add_left, mul-sub_left, mul-zero_ℤ}
use Rattle.problem_core.specs.declared.parts.Mark.{Mark}
use Rattle.problem_core.specs.declared.parts.Term.{Term}
use Rattle.problem_core.specs.Layout.{Problem, coefficient, value_at}
use Rattle.problem_core.specs.Corners.{IsCorner, Point, one_column}
use Rattle.problem_core.proofs.Forms.{times, coefficient-times, value-equal, value-plus, value-times}
use Rattle.problem_core.proofs.Lowest.{lowest-same}
use Rattle.problem_core.specs.Unfit.{HasNoWriting, IsWritingOf}
use Rattle.corner_laws.specs.Equations.{AreLowest, IsEquationOf, IsUnfitEquation}
use Rattle.problem_core.specs.Rays.{HasRays, IsRay}
use Rattle.corner_laws.proofs.Exchanged.{zero-or-out}
use Rattle.corner_laws.proofs.Rays.{coefficients_same, moved, moved_solves, ray_form}
use Rattle.corner_laws.proofs.WrittenValues.{crossed, form_there, value_there, values_same}
use Rattle.frac_core.proofs.Numbers.{zero-carried as zero-part, divides-multiple as divisor, neg-times}

-- ---- numbers in joint lowest terms

pub cancel-number : (s k : ℕ) (y z : ℤ) → 0 < s → s ≡ k → pos s *ℤ z ≡ pos k *ℤ y → y ≡ z
cancel-number s k y z above e h = cancel_mul s y z above (ap (λ (n : ℕ). pos n *ℤ y) e ∙ sym h)

-- they are the same where they are proportional
pub lowest_equal : {V : Type 0} (k l : ℕ) (a b : V → ℤ) → 0 < k → 0 < l
    → ((m : ℕ) → m ∣ k → ((v : V) → m ∣ unsigned_abs (a v)) → m ≡ 1) → ((m : ℕ) → m ∣ l → ((v : V) → m ∣ unsigned_abs (b v)) → m ≡ 1)
    → ((v : V) → pos k *ℤ b v ≡ pos l *ℤ a v) → (k ≡ l) × ((v : V) → a v ≡ b v)
lowest_equal k l a b h i p q e =
    let same : k ≡ l = lowest-same k l a b h i p q e in
    (same, λ v. cancel-number k l (a v) (b v) h same (e v))

-- a whole number is a divisor of its size times another one
pub whole_share : (k : ℕ) (z : ℤ) → k ∣ unsigned_abs z → (y : ℤ) × (z ≡ pos k *ℤ y)
whole_share k (pos n) d = (pos (n / k), (let e : n / k * k ≡ n = div-mul_cancel k d in ap pos (omega (arith, e))))
whole_share k (negsuc n) d = (
  neg_ℤ (pos (suc n / k)),
  (
      let e : suc n / k * k ≡ suc n = div-mul_cancel k d in
      let back : pos (suc n) ≡ pos (suc n / k) *ℤ pos k = ap pos (sym e) in
      ap neg_ℤ back ∙ sym (neg-times (pos (suc n / k)) (pos k)) ∙ *ℤ_comm (neg_ℤ (pos (suc n / k))) (pos k)
      ),
)

-- ---- a writing as an equation

pub spread : (d s : ℕ) (q f n one : ℤ) → pos d *ℤ (pos s *ℤ q -ℤ f) ≡ pos s *ℤ (n *ℤ one) → pos (d * s) *ℤ q ≡ pos d *ℤ f +ℤ (pos s *ℤ n) *ℤ one
spread d s q f n one h =
    let a : pos (d * s) *ℤ q ≡ pos d *ℤ (pos s *ℤ q) = mul_assoc_ℤ (pos d) (pos s) q in
    let b = mul-sub_left (pos d) (pos s *ℤ q) f in
    let e = mul_assoc_ℤ (pos s) n one in
    omega (arith, ints, a, b, e, h)

pub not-zero : (k : ℕ) (z y : ℤ) → y ≡ pos k *ℤ z → y ≢ pos 0 → z ≢ pos 0
not-zero k z y e some none = some (e ∙ ap (λ (x : ℤ). pos k *ℤ x) none ∙ mul-zero_ℤ (pos k))

pub writing-equation : (p : Problem) (at : List Mark) (quantity : (ℕ → ℤ) → ℤ) (scale : ℕ) (form : List Term) (num : ℤ) (den : ℕ) → IsWritingOf p at quantity scale form num den → IsEquationOf p at quantity (den * scale) (times (pos den) form) (pos scale *ℤ num)
writing-equation p at quantity scale form num den w = record {
  scale_positive = mul-pos w.den_positive w.scale_positive;
  outside = λ v some. w.outside v (not-zero den (coefficient v form) (coefficient v (times (pos den) form)) (coefficient-times v (pos den) form) some);
  holds = λ x solves.
      spread den scale (quantity x.num) (value_at x.num form) num (x.num one_column) (w.holds x solves)
      ∙ ap (λ (z : ℤ). z +ℤ (pos scale *ℤ num) *ℤ x.num one_column) (sym (value-times x.num (pos den) form));
}

pub writing-lowest : (p : Problem) (at : List Mark) (quantity : (ℕ → ℤ) → ℤ) (scale : ℕ) (form : List Term) (num : ℤ) (den : ℕ) → IsWritingOf p at quantity scale form num den → (k : ℕ) → k ∣ scale → ((v : ℕ) → k ∣ unsigned_abs (coefficient v form)) → k ≡ 1
writing-lowest p at quantity scale form num den w k d h =
    w.lowest k (λ v. whole_share k (coefficient v form) (h v))
    (scale / k, (let e : scale / k * k ≡ scale = div-mul_cancel k d in omega (arith, e)))

-- ---- two equations of one quantity

both-none : (s t : ℕ) (y z : ℤ) → y ≡ pos 0 → z ≡ pos 0 → pos t *ℤ y ≡ pos s *ℤ z
both-none s t y z e f = ap (λ (x : ℤ). pos t *ℤ x) e ∙ mul-zero_ℤ (pos t) ∙ sym (ap (λ (x : ℤ). pos s *ℤ x) f ∙ mul-zero_ℤ (pos s))

-- their coefficients are proportional
pub equations_same : (p : Problem) (at : List Mark) (quantity : (ℕ → ℤ) → ℤ) (s t : ℕ) (f l : List Term) (c d : ℤ) → IsCorner p at → HasRays p at → IsEquationOf p at quantity s f c → IsEquationOf p at quantity t l d → (v : ℕ) → pos t *ℤ coefficient v f ≡ pos s *ℤ coefficient v l
equations_same p at quantity s t f l c d corner rays a b v =
    elim (zero-or-out p at f v a.outside) [
      | inr o ↦ let r = rays v o.0 o.1 in coefficients_same p at quantity s t f l c d corner.point v r.0 corner.stands r.1 a b
      | inl y ↦ elim (zero-or-out p at l v b.outside) [
        | inr o ↦ let r = rays v o.0 o.1 in coefficients_same p at quantity s t f l c d corner.point v r.0 corner.stands r.1 a b
        | inl z ↦ both-none s t (coefficient v f) (coefficient v l) y z
      ]
    ]

-- d*t, s and f, d*l: without d
without-den : (d s t : ℕ) (f l : ℤ) → 0 < d → pos (d * t) *ℤ f ≡ pos s *ℤ (pos d *ℤ l) → pos t *ℤ f ≡ pos s *ℤ l
without-den d s t f l above e = cancel_mul d (pos t *ℤ f) (pos s *ℤ l) above (sym (mul_assoc_ℤ (pos d) (pos t) f) ∙ e ∙ mul_left_comm_ℤ (pos s) (pos d) l)

-- an equation and a writing
pub writing_same : (p : Problem) (at : List Mark) (quantity : (ℕ → ℤ) → ℤ) (s t : ℕ) (f l : List Term) (c num : ℤ) (den : ℕ) → IsCorner p at → HasRays p at → IsEquationOf p at quantity s f c → IsWritingOf p at quantity t l num den → (v : ℕ) → pos t *ℤ coefficient v f ≡ pos s *ℤ coefficient v l
writing_same p at quantity s t f l c num den corner rays a w v =
    without-den den s t (coefficient v f) (coefficient v l) w.den_positive
    (equations_same p at quantity s (den * t) f (times (pos den) l) c (pos t *ℤ num) corner rays a (writing-equation p at quantity t l num den w) v
    ∙ ap (λ (z : ℤ). pos s *ℤ z) (coefficient-times v (pos den) l))

-- without d on both sides
without-both : (d s t : ℕ) (f l : ℤ) → 0 < d → pos t *ℤ (pos d *ℤ f) ≡ pos (d * s) *ℤ l → pos s *ℤ l ≡ pos t *ℤ f
without-both d s t f l above e = cancel_mul d (pos s *ℤ l) (pos t *ℤ f) above (sym (mul_assoc_ℤ (pos d) (pos s) l) ∙ sym e ∙ mul_left_comm_ℤ (pos t) (pos d) f)

-- two writings of one quantity at a corner are the same
pub writings_are_equal : (p : Problem) (at : List Mark) (quantity : (ℕ → ℤ) → ℤ) (s t : ℕ) (f g : List Term) (n m : ℤ) (d e : ℕ) → IsCorner p at → HasRays p at → IsWritingOf p at quantity s f n d → IsWritingOf p at quantity t g m e → (s ≡ t) × ((v : ℕ) → coefficient v f ≡ coefficient v g) × (n *ℤ pos e ≡ m *ℤ pos d)
writings_are_equal p at quantity s t f g n m d e corner rays a b =
    let equal =
    lowest_equal s t (λ (v : ℕ). coefficient v f) (λ v. coefficient v g) a.scale_positive b.scale_positive (writing-lowest p at quantity s f n d a) (writing-lowest p at quantity t g m e b)
    (λ v. without-both d s t (coefficient v f) (coefficient v g) a.den_positive
    (ap (λ (z : ℤ). pos t *ℤ z) (sym (coefficient-times v (pos d) f)) ∙ writing_same p at quantity (d * s) t (times (pos d) f) g (pos s *ℤ n) m e corner rays (writing-equation p at quantity s f n d a) b v)) in
    (equal.0, equal.1, values_same p at quantity s t f g n m d e corner a b)

-- ---- what does not fit

plain-there : (f c z : ℤ) → f ≡ pos 0 → z ≡ f +ℤ c → z ≡ c
plain-there f c z e h = omega (arith, ints, e, h)

-- the writing's value is the equation's constant over its scale
pub constant_same : (p : Problem) (at : List Mark) (quantity : (ℕ → ℤ) → ℤ) (s t : ℕ) (f l : List Term) (c num : ℤ) (den : ℕ) → IsCorner p at → IsEquationOf p at quantity s f c → IsWritingOf p at quantity t l num den → num *ℤ pos s ≡ c *ℤ pos den
constant_same p at quantity s t f l c num den corner a w =
    crossed num c (quantity corner.point.num) den s (corner.point.num one_column) corner.point.positive
    (value_there p at quantity t l num den corner.point w corner.stands)
    (plain-there (value_at corner.point.num f) (c *ℤ corner.point.num one_column) (pos s *ℤ quantity corner.point.num) (form_there p at corner.point f corner.stands a.outside) (a.holds corner.point corner.stands.0))

-- where an equation's lowest terms or value do not fit, the quantity has no writing
pub unfit_from_equation : (p : Problem) (at : List Mark) (quantity : (ℕ → ℤ) → ℤ) (scale : ℕ) (form : List Term) (const : ℤ) → IsCorner p at → HasRays p at → IsEquationOf p at quantity scale form const → IsUnfitEquation scale form const → HasNoWriting p at quantity
unfit_from_equation p at quantity scale form const corner rays is unfit low part value w fits each kept =
    unfit low (λ v. coefficient v part) value
    (record {
      low_positive = w.scale_positive;
      same = λ v. sym (writing_same p at quantity scale low form part const value.num value.den corner rays is w v);
      lowest = writing-lowest p at quantity low part value.num value.den w;
    })
    (constant_same p at quantity scale low form part const value.num value.den corner is w) fits each kept

-- ---- an equation in lowest terms

-- s*q = f + c*o and s*p = k*f and n*s = c*d give d*(k*q - p) = k*(n*o)
divided : (s k d : ℕ) (q f p c n o : ℤ) → 0 < s → pos s *ℤ q ≡ f +ℤ c *ℤ o → pos s *ℤ p ≡ pos k *ℤ f → n *ℤ pos s ≡ c *ℤ pos d → pos d *ℤ (pos k *ℤ q -ℤ p) ≡ pos k *ℤ (n *ℤ o)
divided s k d q f p c n o above e g h =
    let a : pos s *ℤ (pos k *ℤ q -ℤ p) ≡ pos s *ℤ (pos k *ℤ q) -ℤ pos s *ℤ p = mul-sub_left (pos s) (pos k *ℤ q) p in
    let b : pos s *ℤ (pos k *ℤ q) ≡ pos k *ℤ f +ℤ pos k *ℤ (c *ℤ o) = mul_left_comm_ℤ (pos s) (pos k) q ∙ ap (λ (z : ℤ). pos k *ℤ z) e ∙ mul-add_left (pos k) f (c *ℤ o) in
    let inner : pos s *ℤ (pos k *ℤ q -ℤ p) ≡ pos k *ℤ (c *ℤ o) = omega (arith, ints, a, b, g) in
    let left : pos d *ℤ (c *ℤ o) ≡ pos s *ℤ (n *ℤ o) = sym (mul_assoc_ℤ (pos d) c o) ∙ ap (λ (z : ℤ). z *ℤ o) (*ℤ_comm (pos d) c ∙ sym h ∙ *ℤ_comm n (pos s)) ∙ mul_assoc_ℤ (pos s) n o in
    cancel_mul s (pos d *ℤ (pos k *ℤ q -ℤ p)) (pos k *ℤ (n *ℤ o)) above
    (mul_left_comm_ℤ (pos s) (pos d) (pos k *ℤ q -ℤ p) ∙ ap (λ (z : ℤ). pos d *ℤ z) inner ∙ mul_left_comm_ℤ (pos d) (pos k) (c *ℤ o) ∙ ap (λ (z : ℤ). pos k *ℤ z) left ∙ mul_left_comm_ℤ (pos k) (pos s) (n *ℤ o))

proportional-value : (s k : ℕ) (f l : List Term) (x : ℕ → ℤ) → ((v : ℕ) → pos s *ℤ coefficient v l ≡ pos k *ℤ coefficient v f) → pos s *ℤ value_at x l ≡ pos k *ℤ value_at x f
proportional-value s k f l x same =
    sym (value-times x (pos s) l) ∙ value-equal x (times (pos s) l) (times (pos k) f) (λ v. coefficient-times v (pos s) l ∙ same v ∙ sym (coefficient-times v (pos k) f)) ∙ value-times x (pos k) f

-- an equation's lowest terms are a writing, with its constant over its scale
pub writing_from_equation : (p : Problem) (at : List Mark) (quantity : (ℕ → ℤ) → ℤ) (scale : ℕ) (form : List Term) (const : ℤ) (low : ℕ) (part : List Term) (value : Fraction)
    → IsEquationOf p at quantity scale form const → AreLowest scale (λ v. coefficient v form) low (λ v. coefficient v part) → 0 < value.den → IsRatio value const (pos scale) → IsWritingOf p at quantity low part value.num value.den
writing_from_equation p at quantity scale form const low part value is are above ratio = record {
  scale_positive = are.low_positive;
  den_positive = above;
  outside = λ v some. is.outside v (λ none. some (zero-part scale low (coefficient v form) (coefficient v part) is.scale_positive (are.same v) none));
  holds = λ x solves.
      divided scale low value.den (quantity x.num) (value_at x.num form) (value_at x.num part) const value.num (x.num one_column) is.scale_positive (is.holds x solves)
      (proportional-value scale low form part x.num are.same) ratio;
  lowest = λ k h n. are.lowest k (subst (λ (m : ℕ). k ∣ m) (sym n.1) (dvd-mul_right k n.0)) (λ v. divisor k (coefficient v part) (h v).0 (h v).1);
}

-- ---- the coefficient of an outside mark and its ray

moved-parts : (s : ℕ) (q r f g k o z : ℤ) → f ≡ pos 0 → z ≡ pos 0 → pos s *ℤ q ≡ f +ℤ k *ℤ o → pos s *ℤ (q +ℤ r) ≡ (f +ℤ g) +ℤ k *ℤ (o +ℤ z) → pos s *ℤ r ≡ g
moved-parts s q r f g k o z none still a b =
    let split = mul-add_left (pos s) q r in
    let same : k *ℤ (o +ℤ z) ≡ k *ℤ o = ap (λ (t : ℤ). k *ℤ t) (let e : o +ℤ z ≡ o = omega (arith, ints, still) in e) in
    omega (arith, ints, a, b, split, same)

-- on an outside mark's ray each column moves by that mark's coefficient in its equation
pub ray_is_column : (p : Problem) (at : List Mark) (c v scale : ℕ) (ray : ℕ → ℤ) (form : List Term) (const : ℤ) → IsCorner p at → IsRay p at c ray → IsEquationOf p at (λ x. x v) scale form const → pos scale *ℤ ray v ≡ coefficient c form *ℤ ray c
unfolding moved
ray_is_column p at c v scale ray form const corner r is =
    let x : Point = corner.point in
    moved-parts scale (x.num v) (ray v) (value_at x.num form) (value_at ray form) const (x.num one_column) (ray one_column) (form_there p at x form corner.stands is.outside) r.still (is.holds x corner.stands.0)
    (is.holds (moved p at c ray x r) (moved_solves p at c ray x r corner.stands.0) ∙ ap (λ (z : ℤ). z +ℤ const *ℤ (x.num one_column +ℤ ray one_column)) (value-plus x.num ray form))
    ∙ ray_form p at c ray form r is.outside
