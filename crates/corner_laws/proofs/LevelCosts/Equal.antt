-- The numbers of a level's writing at a corner are unique.
use Rattle.std.proofs.Common.{◌≡◌, ◌∙◌, ◌⊎◌, ℕ, ◌*◌, ◌/◌, ◌<◌, List, [], ◌∷◌, ℤ, pos, ◌+ℤ◌, ◌-ℤ◌, ◌*ℤ◌, unsigned_abs, sym, ap, ap₂, subst, arith, inl, inr, All}
use Rattle.std.specs.List.{AllByRecursion as Each}
use Rattle.std.specs.Int.{◌∣◌}
use Rattle.std.proofs.lemmas.Int.{unsigned_abs-mul}
use Rattle.std.proofs.lemmas.Nat.Gcd.{dvd_antisymm}
use Rattle.std.proofs.Math.Nat.{dvd-mul_right}
use Rattle.std.proofs.lemmas.Bool.{cases_Bool}
use Rattle.std.proofs.lemmas.List.Elements.{All-from_recursion, recursion_from_All}
use borrow.Author.Differences.{ints}
use Rattle.frac_core.proofs.Gauss.{Reduces, gauss, reduces, scaled}
use Rattle.frac_core.proofs.Integers.{cancel_mul, mul_assoc_ℤ, mul_left_comm_ℤ, mul-add_left, mul-sub_left, mul-zero_ℤ, same_from_sub}
use Rattle.problem_core.specs.declared.parts.Mark.{Mark}
use Rattle.problem_core.specs.declared.parts.Side.{Side}
use Rattle.problem_core.specs.declared.parts.Side.TheVariants.{Under, Over}
use Rattle.problem_core.specs.declared.parts.RowName.{RowName}
use Rattle.problem_core.specs.Layout.{IsProblem, Line, Problem, coefficient, lines, sum_of}
use Rattle.problem_core.specs.Kept.{IsWhole}
use Rattle.problem_core.specs.Certificates.{under_weight, over_weight, weight_at}
use Rattle.problem_core.specs.Corners.{IsIn, column, place_of}
use Rattle.problem_core.proofs.Corners.CornerFacts.{is_place}
use Rattle.problem_core.proofs.Forms.{each-impl, each-both}
use Rattle.problem_core.proofs.Wholes.{whole-IsProblem}
use Rattle.problem_core.specs.Levels.{HasNoLevelWriting, IsLevelWriting, alone}
use Rattle.corner_laws.specs.Equations.{AreLowestNumbers, IsLevelSum, IsUnfitSum}
use Rattle.problem_core.specs.Rays.{HasRays}
use Rattle.corner_laws.proofs.Counting.{IsIn-from_is_place}
use Rattle.corner_laws.proofs.MarkWritings.Equations.{cancel-number}
use Rattle.corner_laws.proofs.LevelCosts.Unique.{apart-cancel, apart_by, crossed-over, crossed-under, idle_none}
use Rattle.corner_laws.proofs.ZeroColumns.{not-in}
use Rattle.frac_core.proofs.Numbers.{zero-carried as zero-part}

pub writing-sum : (p : Problem) (at : List Mark) (k s : ℕ) (y : RowName → ℤ) (r : ℕ → ℤ) → IsLevelWriting p at k s y r → IsLevelSum p at k s y r
writing-sum p at k s y r w = record { scale_positive = w.scale_positive; cancel = w.cancel; columns = w.columns; inside_zero = w.inside_zero }

-- ---- up to the scale

pub zero-column : (k : ℕ) (r c : ℤ) → pos k *ℤ r ≡ c → r ≡ pos 0 → c ≡ pos 0
zero-column k r c e h = sym e ∙ ap (λ (z : ℤ). pos k *ℤ z) h ∙ mul-zero_ℤ (pos k)

pub times_same : (p : Problem) (at : List Mark) (k s t : ℕ) (y z : RowName → ℤ) (r q : ℕ → ℤ) → IsProblem p → HasRays p at → IsLevelSum p at k s y r → IsLevelSum p at k t z q → All (λ l. pos s *ℤ z l.name ≡ pos t *ℤ y l.name) (lines p)
times_same p at k s t y z r q problem rays f g =
    let inside : Each (λ l. (apart_by k (alone s y) (alone t z) l.name ≡ pos 0) ⊎ ((IsIn (place_of l.name Under) at → ⊥) × (IsIn (place_of l.name Over) at → ⊥))) (lines p) =
    each-impl (λ l. (((0 < l.scale) × (0 < l.den)) × ((pos l.scale *ℤ r (place_of l.name Under) ≡ column (alone s y) Under l k) × (pos l.scale *ℤ r (place_of l.name Over) ≡ column (alone s y) Over l k)))
    × (((pos l.scale *ℤ q (place_of l.name Under) ≡ column (alone t z) Under l k) × (pos l.scale *ℤ q (place_of l.name Over) ≡ column (alone t z) Over l k))
    × (((IsIn (place_of l.name Under) at → r (place_of l.name Under) ≡ pos 0) × (IsIn (place_of l.name Over) at → r (place_of l.name Over) ≡ pos 0)) × ((IsIn (place_of l.name Under) at → q (place_of l.name Under) ≡ pos 0) × (IsIn (place_of l.name Over) at → q (place_of l.name Over) ≡ pos 0))))) _ (lines p)
    (λ l h. elim (cases_Bool (is_place at (place_of l.name Under))) [
      | inl i ↦ let here = IsIn-from_is_place (place_of l.name Under) at i in
          inl (crossed-under l.scale s t (under_weight l.rel (weight_at l k)) (y l.name) (z l.name) h.0.0.0 (zero-column l.scale (r (place_of l.name Under)) (column (alone s y) Under l k) h.0.1.0 (h.1.1.0.0 here)) (zero-column l.scale (q (place_of l.name Under)) (column (alone t z) Under l k) h.1.0.0 (h.1.1.1.0 here)))
      | inr a ↦ elim (cases_Bool (is_place at (place_of l.name Over))) [
        | inl i ↦ let here = IsIn-from_is_place (place_of l.name Over) at i in
            inl (crossed-over l.scale s t (over_weight l.rel (weight_at l k)) (y l.name) (z l.name) h.0.0.0 (zero-column l.scale (r (place_of l.name Over)) (column (alone s y) Over l k) h.0.1.1 (h.1.1.0.1 here)) (zero-column l.scale (q (place_of l.name Over)) (column (alone t z) Over l k) h.1.0.1 (h.1.1.1.1 here)))
        | inr b ↦ inr (not-in at (place_of l.name Under) a, not-in at (place_of l.name Over) b)
      ]
    ])
    (each-both _ _ (lines p)
    (each-both _ _ (lines p) (recursion_from_All _ (lines p) problem) (each-both _ _ (lines p) (recursion_from_All _ (lines p) (f.columns Under)) (recursion_from_All _ (lines p) (f.columns Over))))
    (each-both _ _ (lines p)
    (each-both _ _ (lines p) (recursion_from_All _ (lines p) (g.columns Under)) (recursion_from_All _ (lines p) (g.columns Over)))
    (each-both _ _ (lines p)
    (each-both _ _ (lines p) (recursion_from_All _ (lines p) (f.inside_zero Under)) (recursion_from_All _ (lines p) (f.inside_zero Over)))
    (each-both _ _ (lines p) (recursion_from_All _ (lines p) (g.inside_zero Under)) (recursion_from_All _ (lines p) (g.inside_zero Over)))))) in
    let none = idle_none p at (apart_by k (alone s y) (alone t z)) problem rays (record { cancel = apart-cancel p k (alone s y) (alone t z) f.cancel g.cancel; inside = All-from_recursion _ (lines p) inside }) in
    All-from_recursion (λ l. pos s *ℤ z l.name ≡ pos t *ℤ y l.name) (lines p)
    (each-impl (λ l. apart_by k (alone s y) (alone t z) l.name ≡ pos 0) _ (lines p) (λ l e. same_from_sub (pos s *ℤ z l.name) (pos t *ℤ y l.name) e) (recursion_from_All _ (lines p) none))

reduced-under : (k s t w : ℕ) (y z r q : ℤ) → 0 < k → pos s *ℤ z ≡ pos t *ℤ y → pos k *ℤ r ≡ pos (s * w) -ℤ pos k *ℤ y → pos k *ℤ q ≡ pos (t * w) -ℤ pos k *ℤ z → pos s *ℤ q ≡ pos t *ℤ r
reduced-under k s t w y z r q above e f g =
    let a : pos s *ℤ (pos k *ℤ q) ≡ pos s *ℤ pos (t * w) -ℤ pos s *ℤ (pos k *ℤ z) = ap (λ (x : ℤ). pos s *ℤ x) g ∙ mul-sub_left (pos s) (pos (t * w)) (pos k *ℤ z) in
    let b : pos t *ℤ (pos k *ℤ r) ≡ pos t *ℤ pos (s * w) -ℤ pos t *ℤ (pos k *ℤ y) = ap (λ (x : ℤ). pos t *ℤ x) f ∙ mul-sub_left (pos t) (pos (s * w)) (pos k *ℤ y) in
    let c : pos s *ℤ (pos k *ℤ z) ≡ pos t *ℤ (pos k *ℤ y) = mul_left_comm_ℤ (pos s) (pos k) z ∙ ap (λ (x : ℤ). pos k *ℤ x) e ∙ mul_left_comm_ℤ (pos k) (pos t) y in
    let d : pos s *ℤ pos (t * w) ≡ pos t *ℤ pos (s * w) = ap pos (omega arith) in
    cancel_mul k (pos s *ℤ q) (pos t *ℤ r) above (mul_left_comm_ℤ (pos k) (pos s) q ∙ omega (arith, ints, a, b, c, d) ∙ sym (mul_left_comm_ℤ (pos k) (pos t) r))

reduced-over : (k s t w : ℕ) (y z r q : ℤ) → 0 < k → pos s *ℤ z ≡ pos t *ℤ y → pos k *ℤ r ≡ pos (s * w) +ℤ pos k *ℤ y → pos k *ℤ q ≡ pos (t * w) +ℤ pos k *ℤ z → pos s *ℤ q ≡ pos t *ℤ r
reduced-over k s t w y z r q above e f g =
    let a : pos s *ℤ (pos k *ℤ q) ≡ pos s *ℤ pos (t * w) +ℤ pos s *ℤ (pos k *ℤ z) = ap (λ (x : ℤ). pos s *ℤ x) g ∙ mul-add_left (pos s) (pos (t * w)) (pos k *ℤ z) in
    let b : pos t *ℤ (pos k *ℤ r) ≡ pos t *ℤ pos (s * w) +ℤ pos t *ℤ (pos k *ℤ y) = ap (λ (x : ℤ). pos t *ℤ x) f ∙ mul-add_left (pos t) (pos (s * w)) (pos k *ℤ y) in
    let c : pos s *ℤ (pos k *ℤ z) ≡ pos t *ℤ (pos k *ℤ y) = mul_left_comm_ℤ (pos s) (pos k) z ∙ ap (λ (x : ℤ). pos k *ℤ x) e ∙ mul_left_comm_ℤ (pos k) (pos t) y in
    let d : pos s *ℤ pos (t * w) ≡ pos t *ℤ pos (s * w) = ap pos (omega arith) in
    cancel_mul k (pos s *ℤ q) (pos t *ℤ r) above (mul_left_comm_ℤ (pos k) (pos s) q ∙ omega (arith, ints, a, b, c, d) ∙ sym (mul_left_comm_ℤ (pos k) (pos t) r))

-- all numbers of one writing, times the scale of the other
pub all_same : (p : Problem) (at : List Mark) (k s t : ℕ) (y z : RowName → ℤ) (r q : ℕ → ℤ) → IsProblem p → HasRays p at → IsLevelSum p at k s y r → IsLevelSum p at k t z q → Each (λ l. (pos s *ℤ z l.name ≡ pos t *ℤ y l.name) × ((pos s *ℤ q (place_of l.name Under) ≡ pos t *ℤ r (place_of l.name Under)) × (pos s *ℤ q (place_of l.name Over) ≡ pos t *ℤ r (place_of l.name Over)))) (lines p)
all_same p at k s t y z r q problem rays f g =
    each-impl (λ l. (((0 < l.scale) × (0 < l.den)) × (pos s *ℤ z l.name ≡ pos t *ℤ y l.name)) × (((pos l.scale *ℤ r (place_of l.name Under) ≡ column (alone s y) Under l k) × (pos l.scale *ℤ r (place_of l.name Over) ≡ column (alone s y) Over l k)) × ((pos l.scale *ℤ q (place_of l.name Under) ≡ column (alone t z) Under l k) × (pos l.scale *ℤ q (place_of l.name Over) ≡ column (alone t z) Over l k)))) _ (lines p)
    (λ l h. (
      h.0.1,
      (
        reduced-under l.scale s t (under_weight l.rel (weight_at l k)) (y l.name) (z l.name) (r (place_of l.name Under)) (q (place_of l.name Under)) h.0.0.0 h.0.1 h.1.0.0 h.1.1.0,
        reduced-over l.scale s t (over_weight l.rel (weight_at l k)) (y l.name) (z l.name) (r (place_of l.name Over)) (q (place_of l.name Over)) h.0.0.0 h.0.1 h.1.0.1 h.1.1.1,
      ),
    ))
    (each-both _ _ (lines p)
    (each-both _ _ (lines p) (recursion_from_All _ (lines p) problem) (recursion_from_All _ (lines p) (times_same p at k s t y z r q problem rays f g)))
    (each-both _ _ (lines p)
    (each-both _ _ (lines p) (recursion_from_All _ (lines p) (f.columns Under)) (recursion_from_All _ (lines p) (f.columns Over)))
    (each-both _ _ (lines p) (recursion_from_All _ (lines p) (g.columns Under)) (recursion_from_All _ (lines p) (g.columns Over)))))

-- ---- in joint lowest terms

pub sizes : (s t : ℕ) (y z : ℤ) → pos s *ℤ z ≡ pos t *ℤ y → s * unsigned_abs z ≡ t * unsigned_abs y
sizes s t y z e = sym (unsigned_abs-mul (pos s) z) ∙ ap unsigned_abs e ∙ unsigned_abs-mul (pos t) y

pub cancel-left : (g a b : ℕ) → 0 < g → g * a ≡ g * b → a ≡ b
cancel-left g a b above e = let h : pos a ≡ pos b = cancel_mul g (pos a) (pos b) above (ap pos e) in omega (arith, ints, h)

pub regroup : (a g x b y : ℕ) → (a * g) * x ≡ (b * g) * y → g * (a * x) ≡ g * (b * y)
regroup a g x b y e = omega (arith, e)

-- the share of the scale that the other one lacks divides each number
pub share-divides : (s t g y z : ℕ) → Reduces t s g → s * z ≡ t * y → (s / g) ∣ y
share-divides s t g y z r e =
    let parts : ((s / g) * g) * z ≡ ((t / g) * g) * y = ap (λ (n : ℕ). n * z) r.den_is ∙ e ∙ sym (ap (λ (n : ℕ). n * y) r.num_is) in
    let same : (s / g) * z ≡ (t / g) * y = cancel-left g ((s / g) * z) ((t / g) * y) r.g_above (regroup (s / g) g z (t / g) y parts) in
    gauss (t / g) (s / g) y r.apart (subst (λ (n : ℕ). (s / g) ∣ n) same (dvd-mul_right (s / g) z))

-- the scale of one divides that of the other
divides-other : (p : Problem) (at : List Mark) (k s t : ℕ) (y z : RowName → ℤ) (r q : ℕ → ℤ) → IsWhole p → HasRays p at → IsLevelWriting p at k s y r → IsLevelWriting p at k t z q → s ∣ t
divides-other p at k s t y z r q whole rays f g =
    let d = scaled s t s (omega arith) in
    let red : Reduces t s d.0 = reduces t s d.0 f.scale_positive d.1 in
    let one : s / d.0 ≡ 1 =
    f.lowest (s / d.0) (subst (λ (n : ℕ). (s / d.0) ∣ n) red.den_is (dvd-mul_right (s / d.0) d.0))
    (All-from_recursion (λ l. ((s / d.0) ∣ unsigned_abs (y l.name)) × ((s / d.0) ∣ unsigned_abs (r (place_of l.name Under))) × ((s / d.0) ∣ unsigned_abs (r (place_of l.name Over)))) (lines p)
    (each-impl (λ l. (pos s *ℤ z l.name ≡ pos t *ℤ y l.name) × ((pos s *ℤ q (place_of l.name Under) ≡ pos t *ℤ r (place_of l.name Under)) × (pos s *ℤ q (place_of l.name Over) ≡ pos t *ℤ r (place_of l.name Over)))) (λ l. ((s / d.0) ∣ unsigned_abs (y l.name)) × ((s / d.0) ∣ unsigned_abs (r (place_of l.name Under))) × ((s / d.0) ∣ unsigned_abs (r (place_of l.name Over)))) (lines p)
    (λ l h. (
      share-divides s t d.0 (unsigned_abs (y l.name)) (unsigned_abs (z l.name)) red (sizes s t (y l.name) (z l.name) h.0),
      share-divides s t d.0 (unsigned_abs (r (place_of l.name Under))) (unsigned_abs (q (place_of l.name Under))) red (sizes s t (r (place_of l.name Under)) (q (place_of l.name Under)) h.1.0),
      share-divides s t d.0 (unsigned_abs (r (place_of l.name Over))) (unsigned_abs (q (place_of l.name Over))) red (sizes s t (r (place_of l.name Over)) (q (place_of l.name Over)) h.1.1),
    ))
    (all_same p at k s t y z r q (whole-IsProblem p whole) rays (writing-sum p at k s y r f) (writing-sum p at k t z q g)))) in
    let whole_g : d.0 ≡ s = (let h : 1 * d.0 ≡ d.0 = omega arith in sym (ap (λ (n : ℕ). n * d.0) one ∙ h)) ∙ red.den_is in
    subst (λ (n : ℕ). n ∣ t) whole_g d.1.0

-- two writings of a level's cost at a corner are the same
pub numbers_are_equal : (p : Problem) (at : List Mark) (k s t : ℕ) (y z : RowName → ℤ) (r q : ℕ → ℤ) → IsWhole p → HasRays p at → IsLevelWriting p at k s y r → IsLevelWriting p at k t z q
    → (s ≡ t) × All (λ l. (y l.name ≡ z l.name) × ((r (place_of l.name Under) ≡ q (place_of l.name Under)) × (r (place_of l.name Over) ≡ q (place_of l.name Over)))) (lines p)
numbers_are_equal p at k s t y z r q whole rays f g =
    let same : s ≡ t = dvd_antisymm (divides-other p at k s t y z r q whole rays f g) (divides-other p at k t s z y q r whole rays g f) in (
      same,
      All-from_recursion (λ l. (y l.name ≡ z l.name) × ((r (place_of l.name Under) ≡ q (place_of l.name Under)) × (r (place_of l.name Over) ≡ q (place_of l.name Over)))) (lines p)
          (each-impl (λ l. (pos s *ℤ z l.name ≡ pos t *ℤ y l.name) × ((pos s *ℤ q (place_of l.name Under) ≡ pos t *ℤ r (place_of l.name Under)) × (pos s *ℤ q (place_of l.name Over) ≡ pos t *ℤ r (place_of l.name Over)))) (λ l. (y l.name ≡ z l.name) × ((r (place_of l.name Under) ≡ q (place_of l.name Under)) × (r (place_of l.name Over) ≡ q (place_of l.name Over)))) (lines p)
          (λ l h. (cancel-number s t (y l.name) (z l.name) f.scale_positive same h.0, (cancel-number s t (r (place_of l.name Under)) (q (place_of l.name Under)) f.scale_positive same h.1.0, cancel-number s t (r (place_of l.name Over)) (q (place_of l.name Over)) f.scale_positive same h.1.1)))
          (all_same p at k s t y z r q (whole-IsProblem p whole) rays (writing-sum p at k s y r f) (writing-sum p at k t z q g))),
    )

-- where the lowest terms of a level's numbers, or its value, do not fit, its cost has no writing
pub unfit_from_level : (p : Problem) (at : List Mark) (level scale : ℕ) (times : RowName → ℤ) (reduced : ℕ → ℤ) → IsProblem p → HasRays p at → IsLevelSum p at level scale times reduced → IsUnfitSum p at level scale times reduced → HasNoLevelWriting p at level
unfit_from_level p at level scale times reduced problem rays is unfit low part rest value w cost fits kept =
    unfit low part rest value
    (record {
      low_positive = w.scale_positive;
      same = All-from_recursion _ (lines p) (all_same p at level scale low times part reduced rest problem rays is (writing-sum p at level low part rest w));
      lowest = w.lowest;
    }) cost fits kept

-- ---- a level's numbers in lowest terms

-- s times the sum of the parts is k times that of the numbers
parts-cancel : (p : Problem) (s k : ℕ) (y z : RowName → ℤ) (v : ℕ) → All (λ l. pos s *ℤ z l.name ≡ pos k *ℤ y l.name) (lines p) → pos s *ℤ sum_of (λ l. z l.name *ℤ coefficient v l.form) (lines p) ≡ pos k *ℤ sum_of (λ l. y l.name *ℤ coefficient v l.form) (lines p)
parts-cancel p s k y z v same =
    both (lines p) (recursion_from_All (λ l. pos s *ℤ z l.name ≡ pos k *ℤ y l.name) (lines p) same)
  where
    one : (a b c : ℤ) → pos s *ℤ b ≡ pos k *ℤ a → pos s *ℤ (b *ℤ c) ≡ pos k *ℤ (a *ℤ c)
    one a b c e = sym (mul_assoc_ℤ (pos s) b c) ∙ ap (λ (t : ℤ). t *ℤ c) e ∙ mul_assoc_ℤ (pos k) a c

    both : (ls : List Line) → Each (λ l. pos s *ℤ z l.name ≡ pos k *ℤ y l.name) ls → pos s *ℤ sum_of (λ l. z l.name *ℤ coefficient v l.form) ls ≡ pos k *ℤ sum_of (λ l. y l.name *ℤ coefficient v l.form) ls
    both [] h = mul-zero_ℤ (pos s) ∙ sym (mul-zero_ℤ (pos k))
    both (l ∷ ls) h =
        mul-add_left (pos s) (z l.name *ℤ coefficient v l.form) (sum_of (λ l. z l.name *ℤ coefficient v l.form) ls)
        ∙ ap₂ ◌+ℤ◌ (one (y l.name) (z l.name) (coefficient v l.form) h.0) (both ls h.1)
        ∙ sym (mul-add_left (pos k) (y l.name *ℤ coefficient v l.form) (sum_of (λ l. y l.name *ℤ coefficient v l.form) ls))

under-part : (s k d w : ℕ) (y z r q : ℤ) → 0 < s → pos s *ℤ z ≡ pos k *ℤ y → pos s *ℤ q ≡ pos k *ℤ r → pos d *ℤ r ≡ pos (s * w) -ℤ pos d *ℤ y → pos d *ℤ q ≡ pos (k * w) -ℤ pos d *ℤ z
under-part s k d w y z r q above e f g =
    let a : pos s *ℤ (pos d *ℤ q) ≡ pos k *ℤ pos (s * w) -ℤ pos k *ℤ (pos d *ℤ y) = mul_left_comm_ℤ (pos s) (pos d) q ∙ ap (λ (t : ℤ). pos d *ℤ t) f ∙ mul_left_comm_ℤ (pos d) (pos k) r ∙ ap (λ (t : ℤ). pos k *ℤ t) g ∙ mul-sub_left (pos k) (pos (s * w)) (pos d *ℤ y) in
    let b : pos s *ℤ (pos (k * w) -ℤ pos d *ℤ z) ≡ pos s *ℤ pos (k * w) -ℤ pos s *ℤ (pos d *ℤ z) = mul-sub_left (pos s) (pos (k * w)) (pos d *ℤ z) in
    let c : pos s *ℤ (pos d *ℤ z) ≡ pos k *ℤ (pos d *ℤ y) = mul_left_comm_ℤ (pos s) (pos d) z ∙ ap (λ (t : ℤ). pos d *ℤ t) e ∙ mul_left_comm_ℤ (pos d) (pos k) y in
    let h : pos k *ℤ pos (s * w) ≡ pos s *ℤ pos (k * w) = ap pos (omega arith) in
    cancel_mul s (pos d *ℤ q) (pos (k * w) -ℤ pos d *ℤ z) above (omega (arith, ints, a, b, c, h))

over-part : (s k d w : ℕ) (y z r q : ℤ) → 0 < s → pos s *ℤ z ≡ pos k *ℤ y → pos s *ℤ q ≡ pos k *ℤ r → pos d *ℤ r ≡ pos (s * w) +ℤ pos d *ℤ y → pos d *ℤ q ≡ pos (k * w) +ℤ pos d *ℤ z
over-part s k d w y z r q above e f g =
    let a : pos s *ℤ (pos d *ℤ q) ≡ pos k *ℤ pos (s * w) +ℤ pos k *ℤ (pos d *ℤ y) = mul_left_comm_ℤ (pos s) (pos d) q ∙ ap (λ (t : ℤ). pos d *ℤ t) f ∙ mul_left_comm_ℤ (pos d) (pos k) r ∙ ap (λ (t : ℤ). pos k *ℤ t) g ∙ mul-add_left (pos k) (pos (s * w)) (pos d *ℤ y) in
    let b : pos s *ℤ (pos (k * w) +ℤ pos d *ℤ z) ≡ pos s *ℤ pos (k * w) +ℤ pos s *ℤ (pos d *ℤ z) = mul-add_left (pos s) (pos (k * w)) (pos d *ℤ z) in
    let c : pos s *ℤ (pos d *ℤ z) ≡ pos k *ℤ (pos d *ℤ y) = mul_left_comm_ℤ (pos s) (pos d) z ∙ ap (λ (t : ℤ). pos d *ℤ t) e ∙ mul_left_comm_ℤ (pos d) (pos k) y in
    let h : pos k *ℤ pos (s * w) ≡ pos s *ℤ pos (k * w) = ap pos (omega arith) in
    cancel_mul s (pos d *ℤ q) (pos (k * w) +ℤ pos d *ℤ z) above (omega (arith, ints, a, b, c, h))

-- what is known of a line's numbers and parts
abbrev AreParts : ℕ → ℕ → (RowName → ℤ) → (RowName → ℤ) → (ℕ → ℤ) → (ℕ → ℤ) → Line → Type 0
AreParts s k y z r q l = (pos s *ℤ z l.name ≡ pos k *ℤ y l.name) × ((pos s *ℤ q (place_of l.name Under) ≡ pos k *ℤ r (place_of l.name Under)) × (pos s *ℤ q (place_of l.name Over) ≡ pos k *ℤ r (place_of l.name Over)))

-- a level's lowest terms are a writing of its cost
pub writing_from_level : (p : Problem) (at : List Mark) (level scale : ℕ) (times : RowName → ℤ) (reduced : ℕ → ℤ) (low : ℕ) (part : RowName → ℤ) (rest : ℕ → ℤ) → IsLevelSum p at level scale times reduced → AreLowestNumbers p scale times reduced low part rest → IsLevelWriting p at level low part rest
writing_from_level p at level scale times reduced low part rest is are = record {
  scale_positive = are.low_positive;
  cancel = λ v.
      zero-part scale low (sum_of (λ l. times l.name *ℤ coefficient v l.form) (lines p)) (sum_of (λ l. part l.name *ℤ coefficient v l.form) (lines p)) is.scale_positive
      (parts-cancel p scale low times part v (All-from_recursion (λ l. pos scale *ℤ part l.name ≡ pos low *ℤ times l.name) (lines p) (each-impl (AreParts scale low times part reduced rest) _ (lines p) (λ l h. h.0) all)))
      (is.cancel v);
  columns = columns;
  inside_zero = inside;
  lowest = are.lowest;
}
  where
    all : Each (AreParts scale low times part reduced rest) (lines p)
    all = recursion_from_All (AreParts scale low times part reduced rest) (lines p) are.same

    columns : (side : Side) → All (λ l. pos l.scale *ℤ rest (place_of l.name side) ≡ column (alone low part) side l level) (lines p)
    columns Under =
        All-from_recursion (λ l. pos l.scale *ℤ rest (place_of l.name Under) ≡ column (alone low part) Under l level) (lines p)
        (each-impl (λ l. AreParts scale low times part reduced rest l × (pos l.scale *ℤ reduced (place_of l.name Under) ≡ column (alone scale times) Under l level)) _ (lines p)
        (λ l h. under-part scale low l.scale (under_weight l.rel (weight_at l level)) (times l.name) (part l.name) (reduced (place_of l.name Under)) (rest (place_of l.name Under)) is.scale_positive h.0.0 h.0.1.0 h.1)
        (each-both _ _ (lines p) all (recursion_from_All _ (lines p) (is.columns Under))))
    columns Over =
        All-from_recursion (λ l. pos l.scale *ℤ rest (place_of l.name Over) ≡ column (alone low part) Over l level) (lines p)
        (each-impl (λ l. AreParts scale low times part reduced rest l × (pos l.scale *ℤ reduced (place_of l.name Over) ≡ column (alone scale times) Over l level)) _ (lines p)
        (λ l h. over-part scale low l.scale (over_weight l.rel (weight_at l level)) (times l.name) (part l.name) (reduced (place_of l.name Over)) (rest (place_of l.name Over)) is.scale_positive h.0.0 h.0.1.1 h.1)
        (each-both _ _ (lines p) all (recursion_from_All _ (lines p) (is.columns Over))))

    inside : (side : Side) → All (λ l. IsIn (place_of l.name side) at → rest (place_of l.name side) ≡ pos 0) (lines p)
    inside Under =
        All-from_recursion (λ l. IsIn (place_of l.name Under) at → rest (place_of l.name Under) ≡ pos 0) (lines p)
        (each-impl (λ l. AreParts scale low times part reduced rest l × (IsIn (place_of l.name Under) at → reduced (place_of l.name Under) ≡ pos 0)) _ (lines p) (λ l h i. zero-part scale low (reduced (place_of l.name Under)) (rest (place_of l.name Under)) is.scale_positive h.0.1.0 (h.1 i))
        (each-both _ _ (lines p) all (recursion_from_All _ (lines p) (is.inside_zero Under))))
    inside Over =
        All-from_recursion (λ l. IsIn (place_of l.name Over) at → rest (place_of l.name Over) ≡ pos 0) (lines p)
        (each-impl (λ l. AreParts scale low times part reduced rest l × (IsIn (place_of l.name Over) at → reduced (place_of l.name Over) ≡ pos 0)) _ (lines p) (λ l h i. zero-part scale low (reduced (place_of l.name Over)) (rest (place_of l.name Over)) is.scale_positive h.0.1.1 (h.1 i))
        (each-both _ _ (lines p) all (recursion_from_All _ (lines p) (is.inside_zero Over))))
