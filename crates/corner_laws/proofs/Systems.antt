-- Linear systems: where there are fewer equations than columns, numbers that are not all 0 solve them.
use Rattle.std.proofs.Common.{◌≡◌, ◌≢◌, ◌∙◌, ℕ, zero, suc, ◌+◌, ◌<◌, ◌++◌, List, [], ◌∷◌, length, map, ℤ, pos, ◌+ℤ◌, ◌*ℤ◌, neg_ℤ, ◌<ℤ◌, refl, sym, ap, ap₂, subst, arith, inl, inr, ◌⊎◌, Contains}
use Rattle.std.specs.List.{AllByRecursion as Each}
use Rattle.std.proofs.Math.Path.{fun_ext}
use lib.IntN.{*ℤ_comm}
use borrow.Author.Differences.{ints}
use Rattle.frac_core.proofs.Integers.{add-mul_right, mul_assoc_ℤ, mul_left_comm_ℤ, mul-add_left, mul-zero_ℤ, sign_cases, zero_from_mul}
use Rattle.frac_core.proofs.Numbers.{as-natural, mul-neg, neg-times, turned-cancels, zero-or-not, zero-sum}
use Rattle.frac_core.proofs.Bools.{count-other as cond_other, count-same as cond_same}
use Rattle.frac_core.proofs.Lists.{each-at, each-from_map, each-joined, each-left, each-onto_map, each-right, length-mapped}
use Rattle.problem_core.proofs.Forms.{each-impl}
use Rattle.problem_core.proofs.Corners.Tableaus.{unit_at}
use Rattle.corner_laws.specs.Laws.{IsLinear}

-- what an equation gives for numbers at the columns
abbrev pub Equation : Type 0
Equation = (ℕ → ℤ) → ℤ

-- no column stands twice
abbrev pub AreDistinct : List ℕ → Type 0
AreDistinct [] = Unit {0}
AreDistinct (c ∷ cs) = Each (λ d. d ≢ c) cs × AreDistinct cs

-- numbers that solve the equations, are 0 elsewhere, and not 0 at one of the columns
pub record HasKernel (cols : List ℕ) (eqs : List Equation) : Type 0 where
  pub num : ℕ → ℤ
  pub holds : Each (λ f. f num ≡ pos 0) eqs
  pub at : ℕ
  pub inside : Contains cols at
  pub some : num at ≢ pos 0
  pub outside : (v : ℕ) → Each (λ d. d ≢ v) cols → num v ≡ pos 0

-- ---- one column swept out

-- the numbers, as often as f has at c, less what f gives for them at c: f gives 0 for that
abbrev swept : Equation → ℕ → (ℕ → ℤ) → ℕ → ℤ
swept f c x v = f (unit_at c) *ℤ x v +ℤ neg_ℤ (f x) *ℤ unit_at c v

-- an equation of what is left
abbrev through : Equation → ℕ → Equation → Equation
through f c g x = g (swept f c x)

swept-parts : (k a b x y fx fy u s : ℤ) → s ≡ a *ℤ fx +ℤ b *ℤ fy
    → k *ℤ (a *ℤ x +ℤ b *ℤ y) +ℤ neg_ℤ s *ℤ u ≡ a *ℤ (k *ℤ x +ℤ neg_ℤ fx *ℤ u) +ℤ b *ℤ (k *ℤ y +ℤ neg_ℤ fy *ℤ u)
swept-parts k a b x y fx fy u s e =
    let whole : s *ℤ u ≡ a *ℤ (fx *ℤ u) +ℤ b *ℤ (fy *ℤ u) =
    ap (λ (z : ℤ). z *ℤ u) e ∙ add-mul_right (a *ℤ fx) (b *ℤ fy) u ∙ ap₂ ◌+ℤ◌ (mul_assoc_ℤ a fx u) (mul_assoc_ℤ b fy u) in
    let first : a *ℤ (neg_ℤ fx *ℤ u) ≡ neg_ℤ (a *ℤ (fx *ℤ u)) = ap (λ (z : ℤ). a *ℤ z) (neg-times fx u) ∙ mul-neg a (fx *ℤ u) in
    let next : b *ℤ (neg_ℤ fy *ℤ u) ≡ neg_ℤ (b *ℤ (fy *ℤ u)) = ap (λ (z : ℤ). b *ℤ z) (neg-times fy u) ∙ mul-neg b (fy *ℤ u) in
    omega (arith, ints, whole, first, next, neg-times s u, mul-add_left k (a *ℤ x) (b *ℤ y), mul_left_comm_ℤ k a x, mul_left_comm_ℤ k b y, mul-add_left a (k *ℤ x) (neg_ℤ fx *ℤ u), mul-add_left b (k *ℤ y) (neg_ℤ fy *ℤ u))

swept-linear : (f g : Equation) (c : ℕ) → IsLinear f → IsLinear g → IsLinear (λ x. g (swept f c x))
swept-linear f g c first linear a b x y =
    ap g (fun_ext (λ v. swept-parts (f (unit_at c)) a b (x v) (y v) (f x) (f y) (unit_at c v) (f (λ w. a *ℤ x w +ℤ b *ℤ y w)) (first a b x y)))
    ∙ linear a b (swept f c x) (swept f c y)

-- the equation itself is swept out
swept-none : (f : Equation) (c : ℕ) (x : ℕ → ℤ) → IsLinear f → f (swept f c x) ≡ pos 0
swept-none f c x linear = linear (f (unit_at c)) (neg_ℤ (f x)) x (unit_at c) ∙ turned-cancels (f (unit_at c)) (f x)

-- ---- an equation with a number at the column

record HasPivot (c : ℕ) (eqs : List Equation) : Type 0 where
  pivot : Equation
  before : List Equation
  after : List Equation
  is : eqs ≡ before ++ (pivot ∷ after)
  some : pivot (unit_at c) ≢ pos 0

find : (c : ℕ) (eqs : List Equation) → Each (λ f. f (unit_at c) ≡ pos 0) eqs ⊎ HasPivot c eqs
find c [] = inl tt
find c (f ∷ eqs) = elim (zero-or-not (f (unit_at c))) [
  | inl none ↦ elim (find c eqs) [
    | inl all ↦ inl (none, all)
    | inr h ↦ inr (record { pivot = h.pivot; before = f ∷ h.before; after = h.after; is = ap (λ (fs : List Equation). f ∷ fs) h.is; some = h.some })
  ]
  | inr some ↦ inr (record { pivot = f; before = []; after = eqs; is = refl; some = some })
]

one-less : (f : Equation) (xs ys : List Equation) → length (xs ++ (f ∷ ys)) ≡ length (xs ++ ys) + 1
one-less f [] ys = omega arith
one-less f (x ∷ xs) ys = omega (arith, one-less f xs ys)

-- ---- the numbers

some-product : (a b : ℤ) → a ≢ pos 0 → b ≢ pos 0 → a *ℤ b ≢ pos 0
some-product a b some other = λ e. elim (sign_cases a) [
  | inl none ↦ some none
  | inr (inl up) ↦ let n = as-natural a up in other (zero_from_mul n.0 b n.1 (ap (λ (z : ℤ). z *ℤ b) (sym n.2) ∙ e))
  | inr (inr low) ↦ let n = as-natural (neg_ℤ a) low in other (zero_from_mul n.0 b n.1 (ap (λ (z : ℤ). z *ℤ b) (sym n.2) ∙ neg-times a b ∙ ap neg_ℤ e))
]

still-some : (a x b u : ℤ) → a ≢ pos 0 → x ≢ pos 0 → u ≡ pos 0 → a *ℤ x +ℤ b *ℤ u ≢ pos 0
still-some a x b u some other e = λ h. some-product a x some other (let none : b *ℤ u ≡ pos 0 = ap (λ (z : ℤ). b *ℤ z) e ∙ mul-zero_ℤ b in omega (arith, ints, none, h))

-- with fewer equations than columns
pub kernel : (cols : List ℕ) (eqs : List Equation) → Each IsLinear eqs → length eqs < length cols → AreDistinct cols → HasKernel cols eqs
kernel [] eqs linear less apart = absurd (omega (arith, less))
kernel (c ∷ cs) eqs linear less apart = elim (find c eqs) [
  | inl all ↦ record {
    num = unit_at c;
    holds = all;
    at = c;
    inside = (0, omega arith, refl);
    some = λ e. (let one : pos 1 ≡ pos 0 = sym (cond_same c c (pos 1) refl) ∙ e in absurd (omega (arith, ints, one)));
    outside = λ v off. cond_other v c (pos 1) (λ e. off.0 (sym e));
  }
  | inr h ↦
      let split : Each IsLinear (h.before ++ (h.pivot ∷ h.after)) = subst (Each IsLinear) h.is linear in
      let later : Each IsLinear (h.pivot ∷ h.after) = each-right IsLinear h.before (h.pivot ∷ h.after) split in
      let others : Each IsLinear (h.before ++ h.after) = each-joined IsLinear h.before h.after (each-left IsLinear h.before (h.pivot ∷ h.after) split) later.1 in
      let count : length eqs ≡ length (h.before ++ h.after) + 1 = ap length h.is ∙ one-less h.pivot h.before h.after in
      let same : length (map (through h.pivot c) (h.before ++ h.after)) ≡ length (h.before ++ h.after) = length-mapped (through h.pivot c) (h.before ++ h.after) in
      let k : HasKernel cs (map (through h.pivot c) (h.before ++ h.after)) =
      kernel cs (map (through h.pivot c) (h.before ++ h.after))
      (each-onto_map IsLinear (through h.pivot c) (h.before ++ h.after) (each-impl IsLinear (λ g. IsLinear (λ x. g (swept h.pivot c x))) (h.before ++ h.after) (λ g. swept-linear h.pivot g c later.0) others))
      (omega (arith, less, count, same)) apart.1 in
      let solved : Each (λ g. g (swept h.pivot c k.num) ≡ pos 0) (h.before ++ h.after) = each-from_map (λ g. g k.num ≡ pos 0) (through h.pivot c) (h.before ++ h.after) k.holds in
      record {
        num = swept h.pivot c k.num;
        holds = subst (Each (λ g. g (swept h.pivot c k.num) ≡ pos 0)) (sym h.is)
            (each-joined (λ g. g (swept h.pivot c k.num) ≡ pos 0) h.before (h.pivot ∷ h.after) (each-left (λ g. g (swept h.pivot c k.num) ≡ pos 0) h.before h.after solved)
            (swept-none h.pivot c k.num later.0, each-right (λ g. g (swept h.pivot c k.num) ≡ pos 0) h.before h.after solved));
        at = k.at;
        inside = (suc k.inside.0, omega (arith, k.inside.1), k.inside.2);
        some = still-some (h.pivot (unit_at c)) (k.num k.at) (neg_ℤ (h.pivot k.num)) (unit_at c k.at) h.some k.some (cond_other k.at c (pos 1) (each-at (λ d. d ≢ c) cs k.at apart.0 k.inside));
        outside = λ v off. zero-sum (h.pivot (unit_at c)) (neg_ℤ (h.pivot k.num)) (k.num v) (unit_at c v) (k.outside v off.1) (cond_other v c (pos 1) (λ e. off.0 (sym e)));
      }
]
