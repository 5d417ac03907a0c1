-- A corner has one list of multipliers at each level, up to the scale.
use Rattle.std.proofs.Common.{◌≡◌, ◌∙◌, ◌⊎◌, ℕ, ◌*◌, ◌<◌, List, [], ◌∷◌, map, ℤ, pos, negsuc, ◌+ℤ◌, ◌-ℤ◌, ◌*ℤ◌, neg_ℤ, ◌<ℤ◌, ◌≤ℤ◌, refl, sym, ap, ap₂, arith, inl, inr, All, Contains}
use Rattle.std.specs.List.{AllByRecursion as Each}
use Rattle.std.proofs.lemmas.Bool.{cases_eq, cases_Bool}
use Rattle.std.proofs.lemmas.List.Elements.{All-from_recursion, recursion_from_All}
use lib.IntN.{*ℤ_comm}
use borrow.Author.Differences.{ints}
use Rattle.frac_core.proofs.Integers.{add-mul_right, cancel_mul, mul_assoc_ℤ, mul_left_comm_ℤ, mul-add_left, mul-zero_ℤ, zero-mul_ℤ, sign_cases, zero_from_mul, same_from_sub}
use Rattle.problem_core.specs.declared.parts.Mark.{Mark}
use Rattle.problem_core.specs.declared.parts.Side.TheVariants.{Under, Over}
use Rattle.problem_core.specs.declared.parts.RowName.{RowName}
use Rattle.problem_core.specs.declared.parts.RowName.TheVariants.{Held, Stay as StayOf}
use Rattle.problem_core.specs.Layout.{IsProblem, Line, Problem, coefficient, lines, sum_of, value_at}
use Rattle.problem_core.specs.Kept.{IsWhole}
use Rattle.problem_core.specs.Certificates.{Multipliers, under_weight, over_weight, weight_at}
use Rattle.problem_core.specs.Corners.{AreMultipliersAt, IsIn, attr_column, column, equation, marks_of, one_column, place, place_of}
use Rattle.problem_core.proofs.Corners.CornerFacts.{is_place}
use Rattle.problem_core.proofs.Forms.{combination-zero, each-impl, each-both, sum-add, sum-zero, sum-cong, mul-sum}
use Rattle.problem_core.proofs.Wholes.{whole-IsProblem}
use Rattle.problem_core.specs.Rays.{HasRays, IsRay}
use Rattle.corner_laws.proofs.Counting.{IsIn-from_is_place, sides_apart}
use Rattle.corner_laws.proofs.LevelCosts.Gaps.{deviation, form_value, no_gap}
use Rattle.corner_laws.proofs.ZeroColumns.{each-none, here-in, not-in, outside-still}
use Rattle.frac_core.proofs.Numbers.{neg-times, mul-neg as mul-opp}

-- names with the same place are the same
pub same-name : (a b : RowName) → place_of a Under ≡ place_of b Under → a ≡ b
same-name (Held i) (Held j) e = ap Held (omega (arith, e))
same-name (Held i) (StayOf j) e = absurd (omega (arith, e))
same-name (StayOf i) (Held j) e = absurd (omega (arith, e))
same-name (StayOf i) (StayOf j) e = ap StayOf (omega (arith, e))

-- the numbers z of the lines cancel, and are 0 where a mark of the line is inside
pub record AreIdle (p : Problem) (at : List Mark) (z : RowName → ℤ) : Type 0 where
  pub cancel : (v : ℕ) → sum_of (λ l. z l.name *ℤ coefficient v l.form) (lines p) ≡ pos 0
  pub inside : All (λ l. (z l.name ≡ pos 0) ⊎ ((IsIn (place_of l.name Under) at → ⊥) × (IsIn (place_of l.name Over) at → ⊥))) (lines p)

idle-sum : (p : Problem) (z : RowName → ℤ) (n : ℕ → ℤ) → IsProblem p → ((v : ℕ) → sum_of (λ l. z l.name *ℤ coefficient v l.form) (lines p) ≡ pos 0) → n one_column ≡ pos 0 → All (λ l. value_at n (equation l) ≡ pos 0) (lines p) → sum_of (λ l. z l.name *ℤ deviation n l) (lines p) ≡ pos 0
idle-sum p z n problem cancel still solves =
    let forms : sum_of (λ l. z l.name *ℤ form_value n l) (lines p) ≡ pos 0 = combination-zero (λ v. n (attr_column v)) (λ (l : Line). z l.name) (λ l. l.form) (lines p) cancel in
    let whole : sum_of (λ l. z l.name *ℤ deviation n l) (lines p) +ℤ sum_of (λ l. z l.name *ℤ form_value n l) (lines p) ≡ pos 0 =
    sym (sum-add (λ l. z l.name *ℤ deviation n l) (λ l. z l.name *ℤ form_value n l) (lines p))
    ∙ sum-zero (λ l. z l.name *ℤ deviation n l +ℤ z l.name *ℤ form_value n l) (lines p)
    (each-impl (λ l. ((0 < l.scale) × (0 < l.den)) × (value_at n (equation l) ≡ pos 0)) _ (lines p)
    (λ l h. sym (mul-add_left (z l.name) (deviation n l) (form_value n l)) ∙ ap (λ (k : ℤ). z l.name *ℤ k) (no_gap n l h.0.1 still h.1) ∙ mul-zero_ℤ (z l.name))
    (each-both _ _ (lines p) (recursion_from_All _ (lines p) problem) (recursion_from_All _ (lines p) solves))) in
    omega (arith, ints, whole, forms)

no-over : (u o : ℤ) → o ≡ pos 0 → u -ℤ o ≡ u
no-over u o e = omega (arith, ints, e)

-- a line's part on the ray of the under mark of `name`: none, or that of `name`
one-part : (p : Problem) (at : List Mark) (z : RowName → ℤ) (name : RowName) (n : ℕ → ℤ) (l : Line) → IsRay p at (place_of name Under) n → Contains (map place (marks_of (lines p))) (place_of l.name Under) → Contains (map place (marks_of (lines p))) (place_of l.name Over)
    → (z l.name ≡ pos 0) ⊎ ((IsIn (place_of l.name Under) at → ⊥) × (IsIn (place_of l.name Over) at → ⊥)) → (z l.name *ℤ deviation n l ≡ pos 0) ⊎ (z l.name *ℤ deviation n l ≡ z name *ℤ n (place_of name Under))
one-part p at z name n l ray u o (inl e) = inl (ap (λ (k : ℤ). k *ℤ deviation n l) e ∙ zero-mul_ℤ (deviation n l))
one-part p at z name n l ray u o (inr out) =
    let none : n (place_of l.name Over) ≡ pos 0 = outside-still p at (place_of name Under) n (place_of l.name Over) ray o out.1 (sides_apart l.name name) in
    elim (cases_eq (place_of l.name Under) (place_of name Under)) [
      | inl e ↦ inr (ap₂ (λ (a b : ℤ). a *ℤ b) (ap z (same-name l.name name e)) (no-over (n (place_of l.name Under)) (n (place_of l.name Over)) none ∙ ap n e))
      | inr ne ↦ inl (ap (λ (k : ℤ). z l.name *ℤ k) (no-over (n (place_of l.name Under)) (n (place_of l.name Over)) none ∙ outside-still p at (place_of name Under) n (place_of l.name Under) ray u out.0 ne) ∙ mul-zero_ℤ (z l.name))
    ]

zero-or-up : (z t : ℤ) → pos 0 <ℤ t → (z ≡ pos 0) ⊎ (z ≡ t) → pos 0 ≤ℤ z
zero-or-up z t h (inl e) = omega (arith, ints, e)
zero-or-up z t h (inr e) = omega (arith, ints, e, h)

zero-or-low : (z t : ℤ) → pos 0 <ℤ neg_ℤ t → (z ≡ pos 0) ⊎ (z ≡ t) → pos 0 ≤ℤ (pos 0 -ℤ z)
zero-or-low z t h (inl e) = omega (arith, ints, e)
zero-or-low z t h (inr e) = omega (arith, ints, e, h)

turned-none : (z t : ℤ) → pos 0 -ℤ z ≡ pos 0 → z ≡ t → t ≡ pos 0
turned-none z t a b = omega (arith, ints, a, b)

turned-step : (a b : ℤ) → (pos 0 -ℤ a) +ℤ (pos 0 -ℤ b) ≡ pos 0 -ℤ (a +ℤ b)
turned-step a b = omega (arith, ints)

turned-sum : {X : Type 0} (f : X → ℤ) (xs : List X) → sum_of (λ x. pos 0 -ℤ f x) xs ≡ pos 0 -ℤ sum_of f xs
turned-sum f [] = refl
turned-sum f (x ∷ xs) = ap (λ (z : ℤ). (pos 0 -ℤ f x) +ℤ z) (turned-sum f xs) ∙ turned-step (f x) (sum_of f xs)

-- parts of which each is 0 or t, and whose sum is 0: where one is t, t is 0
none-each : {X : Type 0} (f : X → ℤ) (t : ℤ) (xs : List X) → Each (λ x. (f x ≡ pos 0) ⊎ (f x ≡ t)) xs → sum_of f xs ≡ pos 0 → Each (λ x. f x ≡ t → t ≡ pos 0) xs
none-each f t xs h e = elim (sign_cases t) [
  | inl z ↦ each-impl (λ x. (f x ≡ pos 0) ⊎ (f x ≡ t)) (λ x. f x ≡ t → t ≡ pos 0) xs (λ x a b. z) h
  | inr (inl up) ↦
      each-impl (λ x. f x ≡ pos 0) (λ x. f x ≡ t → t ≡ pos 0) xs (λ x a b. sym b ∙ a)
      (each-none f xs (each-impl (λ x. (f x ≡ pos 0) ⊎ (f x ≡ t)) (λ x. pos 0 ≤ℤ f x) xs (λ x a. zero-or-up (f x) t up a) h) e)
  | inr (inr low) ↦
      each-impl (λ x. pos 0 -ℤ f x ≡ pos 0) (λ x. f x ≡ t → t ≡ pos 0) xs (λ x a b. turned-none (f x) t a b)
      (each-none (λ x. pos 0 -ℤ f x) xs (each-impl (λ x. (f x ≡ pos 0) ⊎ (f x ≡ t)) (λ x. pos 0 ≤ℤ (pos 0 -ℤ f x)) xs (λ x a. zero-or-low (f x) t low a) h) (turned-sum f xs ∙ (let k : pos 0 -ℤ sum_of f xs ≡ pos 0 = omega (arith, ints, e) in k)))
]

-- the line's own part on its ray
pub own-zero : (z n : ℤ) → pos 0 <ℤ n → z *ℤ n ≡ pos 0 → z ≡ pos 0
own-zero z (pos k) h e = zero_from_mul k z (omega (arith, ints, h)) (*ℤ_comm (pos k) z ∙ e)
own-zero z (negsuc k) h e = absurd h.lt

-- what is known of a line
abbrev Known : Problem → List Mark → (RowName → ℤ) → Line → Type 0
Known p at z l = (Contains (map place (marks_of (lines p))) (place_of l.name Under) × Contains (map place (marks_of (lines p))) (place_of l.name Over)) × ((z l.name ≡ pos 0) ⊎ ((IsIn (place_of l.name Under) at → ⊥) × (IsIn (place_of l.name Over) at → ⊥)))

own-line : (p : Problem) (at : List Mark) (z : RowName → ℤ) (l : Line) → IsProblem p → HasRays p at → ((v : ℕ) → sum_of (λ l. z l.name *ℤ coefficient v l.form) (lines p) ≡ pos 0) → Each (Known p at z) (lines p) → Known p at z l → ((P : Line → Type 0) → Each P (lines p) → P l) → z l.name ≡ pos 0
own-line p at z l problem rays cancel known here member =
    elim here.1 [
      | inl e ↦ e
      | inr out ↦
          let r = rays (place_of l.name Under) here.0.0 out.0 in
          let parts : Each (λ k. (z k.name *ℤ deviation r.0 k ≡ pos 0) ⊎ (z k.name *ℤ deviation r.0 k ≡ z l.name *ℤ r.0 (place_of l.name Under))) (lines p) =
          each-impl (Known p at z) _ (lines p) (λ k h. one-part p at z l.name r.0 k r.1 h.0.0 h.0.1 h.1) known in
          let all = none-each (λ k. z k.name *ℤ deviation r.0 k) (z l.name *ℤ r.0 (place_of l.name Under)) (lines p) parts (idle-sum p z r.0 problem cancel r.1.still r.1.holds) in
          let none : r.0 (place_of l.name Over) ≡ pos 0 = outside-still p at (place_of l.name Under) r.0 (place_of l.name Over) r.1 here.0.1 out.1 (sides_apart l.name l.name) in
          own-zero (z l.name) (r.0 (place_of l.name Under)) r.1.here
          (member (λ k. z k.name *ℤ deviation r.0 k ≡ z l.name *ℤ r.0 (place_of l.name Under) → z l.name *ℤ r.0 (place_of l.name Under) ≡ pos 0) all
          (ap (λ (k : ℤ). z l.name *ℤ k) (no-over (r.0 (place_of l.name Under)) (r.0 (place_of l.name Over)) none)))
    ]

-- numbers of lines that cancel and are 0 where a mark is inside are 0
pub idle_none : (p : Problem) (at : List Mark) (z : RowName → ℤ) → IsProblem p → HasRays p at → AreIdle p at z → All (λ l. z l.name ≡ pos 0) (lines p)
idle_none p at z problem rays idle =
    let known : Each (Known p at z) (lines p) = each-both _ _ (lines p) (here-in (lines p)) (recursion_from_All _ (lines p) idle.inside) in
    λ i d within. own-line p at z _ problem rays idle.cancel known (All-from_recursion (Known p at z) (lines p) known i d within) (λ P h. All-from_recursion P (lines p) h i d within)

-- ---- two lists of multipliers

-- how far they are from being proportional
abbrev pub apart_by : ℕ → Multipliers → Multipliers → RowName → ℤ
apart_by k m n name = pos (m.scale k) *ℤ n.times k name -ℤ pos (n.scale k) *ℤ m.times k name

pub crossed-under : (k s t w : ℕ) (x y : ℤ) → 0 < k → pos (s * w) -ℤ pos k *ℤ x ≡ pos 0 → pos (t * w) -ℤ pos k *ℤ y ≡ pos 0 → pos s *ℤ y -ℤ pos t *ℤ x ≡ pos 0
crossed-under k s t w x y above e f =
    let a : pos k *ℤ x ≡ pos s *ℤ pos w = omega (arith, ints, e) in
    let b : pos k *ℤ y ≡ pos t *ℤ pos w = omega (arith, ints, f) in
    let same : pos s *ℤ y ≡ pos t *ℤ x =
    cancel_mul k (pos s *ℤ y) (pos t *ℤ x) above
    (mul_left_comm_ℤ (pos k) (pos s) y ∙ ap (λ (z : ℤ). pos s *ℤ z) b ∙ mul_left_comm_ℤ (pos s) (pos t) (pos w) ∙ sym (mul_left_comm_ℤ (pos k) (pos t) x ∙ ap (λ (z : ℤ). pos t *ℤ z) a)) in
    omega (arith, ints, same)

pub crossed-over : (k s t w : ℕ) (x y : ℤ) → 0 < k → pos (s * w) +ℤ pos k *ℤ x ≡ pos 0 → pos (t * w) +ℤ pos k *ℤ y ≡ pos 0 → pos s *ℤ y -ℤ pos t *ℤ x ≡ pos 0
crossed-over k s t w x y above e f =
    let a : pos k *ℤ x ≡ neg_ℤ (pos s *ℤ pos w) = omega (arith, ints, e) in
    let b : pos k *ℤ y ≡ neg_ℤ (pos t *ℤ pos w) = omega (arith, ints, f) in
    let c : pos s *ℤ (pos k *ℤ y) ≡ neg_ℤ (pos s *ℤ (pos t *ℤ pos w)) = ap (λ (z : ℤ). pos s *ℤ z) b ∙ mul-opp (pos s) (pos t *ℤ pos w) in
    let d : pos t *ℤ (pos k *ℤ x) ≡ neg_ℤ (pos t *ℤ (pos s *ℤ pos w)) = ap (λ (z : ℤ). pos t *ℤ z) a ∙ mul-opp (pos t) (pos s *ℤ pos w) in
    let same : pos s *ℤ y ≡ pos t *ℤ x =
    cancel_mul k (pos s *ℤ y) (pos t *ℤ x) above
    (mul_left_comm_ℤ (pos k) (pos s) y ∙ c ∙ ap neg_ℤ (mul_left_comm_ℤ (pos s) (pos t) (pos w)) ∙ sym (mul_left_comm_ℤ (pos k) (pos t) x ∙ d)) in
    omega (arith, ints, same)

apart-sum : (s t a b c : ℤ) → (s *ℤ a -ℤ t *ℤ b) *ℤ c ≡ s *ℤ (a *ℤ c) +ℤ neg_ℤ t *ℤ (b *ℤ c)
apart-sum s t a b c =
    let one : (s *ℤ a +ℤ neg_ℤ (t *ℤ b)) *ℤ c ≡ (s *ℤ a) *ℤ c +ℤ neg_ℤ (t *ℤ b) *ℤ c = add-mul_right (s *ℤ a) (neg_ℤ (t *ℤ b)) c in
    let same : s *ℤ a -ℤ t *ℤ b ≡ s *ℤ a +ℤ neg_ℤ (t *ℤ b) = omega (arith, ints) in
    ap (λ (z : ℤ). z *ℤ c) same ∙ one ∙ ap₂ ◌+ℤ◌ (mul_assoc_ℤ s a c) (neg-times (t *ℤ b) c ∙ ap neg_ℤ (mul_assoc_ℤ t b c) ∙ sym (neg-times t (b *ℤ c)))

pub apart-cancel : (p : Problem) (k : ℕ) (m n : Multipliers) → ((v : ℕ) → sum_of (λ l. m.times k l.name *ℤ coefficient v l.form) (lines p) ≡ pos 0) → ((v : ℕ) → sum_of (λ l. n.times k l.name *ℤ coefficient v l.form) (lines p) ≡ pos 0) → (v : ℕ) → sum_of (λ l. apart_by k m n l.name *ℤ coefficient v l.form) (lines p) ≡ pos 0
apart-cancel p k m n f g v =
    sum-cong (λ l. apart_by k m n l.name *ℤ coefficient v l.form) (λ l. pos (m.scale k) *ℤ (n.times k l.name *ℤ coefficient v l.form) +ℤ neg_ℤ (pos (n.scale k)) *ℤ (m.times k l.name *ℤ coefficient v l.form)) (lines p)
    (λ l. apart-sum (pos (m.scale k)) (pos (n.scale k)) (n.times k l.name) (m.times k l.name) (coefficient v l.form))
    ∙ sum-add (λ l. pos (m.scale k) *ℤ (n.times k l.name *ℤ coefficient v l.form)) (λ l. neg_ℤ (pos (n.scale k)) *ℤ (m.times k l.name *ℤ coefficient v l.form)) (lines p)
    ∙ ap₂ ◌+ℤ◌
    (mul-sum (pos (m.scale k)) (λ l. n.times k l.name *ℤ coefficient v l.form) (lines p) ∙ ap (λ (z : ℤ). pos (m.scale k) *ℤ z) (g v) ∙ mul-zero_ℤ (pos (m.scale k)))
    (mul-sum (neg_ℤ (pos (n.scale k))) (λ l. m.times k l.name *ℤ coefficient v l.form) (lines p) ∙ ap (λ (z : ℤ). neg_ℤ (pos (n.scale k)) *ℤ z) (f v) ∙ mul-zero_ℤ (neg_ℤ (pos (n.scale k))))

apart-inside : (at : List Mark) (k : ℕ) (m n : Multipliers) (l : Line) → 0 < l.scale → ((IsIn (place_of l.name Under) at → (level : ℕ) → column m Under l level ≡ pos 0) × (IsIn (place_of l.name Under) at → (level : ℕ) → column n Under l level ≡ pos 0)) → ((IsIn (place_of l.name Over) at → (level : ℕ) → column m Over l level ≡ pos 0) × (IsIn (place_of l.name Over) at → (level : ℕ) → column n Over l level ≡ pos 0))
    → (apart_by k m n l.name ≡ pos 0) ⊎ ((IsIn (place_of l.name Under) at → ⊥) × (IsIn (place_of l.name Over) at → ⊥))
apart-inside at k m n l above u o =
    elim (cases_Bool (is_place at (place_of l.name Under))) [
      | inl i ↦ let here = IsIn-from_is_place (place_of l.name Under) at i in inl (crossed-under l.scale (m.scale k) (n.scale k) (under_weight l.rel (weight_at l k)) (m.times k l.name) (n.times k l.name) above (u.0 here k) (u.1 here k))
      | inr a ↦ elim (cases_Bool (is_place at (place_of l.name Over))) [
        | inl i ↦ let here = IsIn-from_is_place (place_of l.name Over) at i in inl (crossed-over l.scale (m.scale k) (n.scale k) (over_weight l.rel (weight_at l k)) (m.times k l.name) (n.times k l.name) above (o.0 here k) (o.1 here k))
        | inr b ↦ inr (not-in at (place_of l.name Under) a, not-in at (place_of l.name Over) b)
      ]
    ]

-- the multipliers of a corner are proportional at each level, by their scales
pub multipliers_same : (p : Problem) (at : List Mark) (m n : Multipliers) (k : ℕ) → IsWhole p → HasRays p at → AreMultipliersAt p at m → AreMultipliersAt p at n → All (λ l. pos (m.scale k) *ℤ n.times k l.name ≡ pos (n.scale k) *ℤ m.times k l.name) (lines p)
multipliers_same p at m n k whole rays f g =
    let problem = whole-IsProblem p whole in
    let inside : All (λ l. (apart_by k m n l.name ≡ pos 0) ⊎ ((IsIn (place_of l.name Under) at → ⊥) × (IsIn (place_of l.name Over) at → ⊥))) (lines p) =
    All-from_recursion _ (lines p)
    (each-impl (λ l. ((0 < l.scale) × (0 < l.den)) × (((IsIn (place_of l.name Under) at → (level : ℕ) → column m Under l level ≡ pos 0) × (IsIn (place_of l.name Under) at → (level : ℕ) → column n Under l level ≡ pos 0)) × ((IsIn (place_of l.name Over) at → (level : ℕ) → column m Over l level ≡ pos 0) × (IsIn (place_of l.name Over) at → (level : ℕ) → column n Over l level ≡ pos 0)))) _ (lines p)
    (λ l h. apart-inside at k m n l h.0.0 h.1.0 h.1.1)
    (each-both _ _ (lines p) (recursion_from_All _ (lines p) problem)
    (each-both _ _ (lines p)
    (each-both _ _ (lines p) (recursion_from_All _ (lines p) (f.inside_zero Under)) (recursion_from_All _ (lines p) (g.inside_zero Under)))
    (each-both _ _ (lines p) (recursion_from_All _ (lines p) (f.inside_zero Over)) (recursion_from_All _ (lines p) (g.inside_zero Over)))))) in
    let none = idle_none p at (apart_by k m n) problem rays (record { cancel = apart-cancel p k m n (f.cancel k) (g.cancel k); inside = inside }) in
    All-from_recursion (λ l. pos (m.scale k) *ℤ n.times k l.name ≡ pos (n.scale k) *ℤ m.times k l.name) (lines p)
    (each-impl (λ l. apart_by k m n l.name ≡ pos 0) _ (lines p) (λ l e. same_from_sub (pos (m.scale k) *ℤ n.times k l.name) (pos (n.scale k) *ℤ m.times k l.name) e) (recursion_from_All _ (lines p) none))
