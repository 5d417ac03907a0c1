-- At a corner where the required cost is above 0 and no reduced cost of that level is negative, the level's multipliers refute the required rows.
use Rattle.std.proofs.Common.{◌≡◌, ℕ, zero, suc, ◌+◌, ◌-◌, ◌*◌, ◌/◌, ◌<◌, ◌≤◌, Bool, cond, nat_eq, List, [], ◌∷◌, map, filter, ℤ, pos, negsuc, ◌+ℤ◌, ◌-ℤ◌, ◌*ℤ◌, ◌≤ℤ◌, ◌<ℤ◌, refl, sym, ap, ap₂, subst, ◌∙◌, inl, inr, arith, ne_eqb, mul-zero}
use Rattle.std.specs.List.{All, AllByRecursion as Each}
use Rattle.std.proofs.lemmas.List.Elements.{recursion_from_All, All-from_recursion}
use Rattle.std.proofs.lemmas.Bool.{cases_Bool, eqb-false}
use borrow.Author.Differences.{ints}
use Rattle.problem_core.specs.declared.parts.Stay.{Stay}
use Rattle.problem_core.specs.declared.parts.Rel.{Rel}
use Rattle.problem_core.specs.declared.parts.Rel.TheVariants.{Eq, Ge, Le}
use Rattle.problem_core.specs.declared.parts.RowName.TheVariants.{Held}
use Rattle.problem_core.specs.Layout.{Row, Line, Problem, IsProblem, lines, line_of_row, stay_lines, coefficient, common, share, sum_of, product_of}
use Rattle.problem_core.specs.Certificates.{Multipliers, IsRefutation, HasSign, required, under, over, under_weight, over_weight, weight_at, constant}
use Rattle.frac_core.proofs.Integers.{zero-mul_ℤ, zero-add_ℤ, add-zero_ℤ, mul_positive, positive_from, shift_factor}
use Rattle.frac_core.proofs.Sums.{sum-append}
use Rattle.problem_core.proofs.Forms.{mul-sum, each-map, each-filter, each-impl, each-both, product-shares, product-positive}
use Rattle.problem_core.proofs.Best.Duality.{shares}
use Rattle.frac_core.proofs.Lists.{each-right}

-- ---- a sum over the lines is a sum over the required rows, where every other line adds nothing

required_part : (g : Line → ℤ) (rows : List Row) → Each (λ r. r.rank ≤ 1000) rows → Each (λ r. (1000 - r.rank ≡ 0 → ⊥) → g (line_of_row r) ≡ pos 0) rows → sum_of g (map line_of_row rows) ≡ sum_of (λ r. g (line_of_row r)) (filter (λ r. nat_eq r.rank 1000) rows)
required_part g [] h z = refl
required_part g (r ∷ rows) h z =
    elim (cases_Bool (nat_eq r.rank 1000)) [
      | inl t ↦ ap (λ (s : ℤ). g (line_of_row r) +ℤ s) (required_part g rows h.1 z.1)
          ∙ ap (λ (b : Bool). sum_of (λ r. g (line_of_row r)) (cond b (r ∷ filter (λ r. nat_eq r.rank 1000) rows) (filter (λ r. nat_eq r.rank 1000) rows))) (sym t)
      | inr f ↦ ap₂ ◌+ℤ◌ (z.0 (λ e. eqb-false r.rank 1000 f (omega (arith, h.0)))) (required_part g rows h.1 z.1) ∙ zero-add_ℤ _
          ∙ ap (λ (b : Bool). sum_of (λ r. g (line_of_row r)) (cond b (r ∷ filter (λ r. nat_eq r.rank 1000) rows) (filter (λ r. nat_eq r.rank 1000) rows))) (sym f)
    ]

stay_part : (g : Line → ℤ) (base : ℕ) (stays : List Stay) → 0 < base → Each (λ l. (l.level ≡ 0 → ⊥) → g l ≡ pos 0) (stay_lines base stays) → sum_of g (stay_lines base stays) ≡ pos 0
stay_part g base [] h z = refl
stay_part g base (s ∷ stays) h z = ap₂ ◌+ℤ◌ (z.0 (λ e. omega (arith, e))) (stay_part g (base + 1) stays (omega arith) z.1)

pub by_required : (g : Line → ℤ) (p : Problem) → Each (λ r. r.rank ≤ 1000) p.rows → Each (λ l. (l.level ≡ 0 → ⊥) → g l ≡ pos 0) (lines p) → sum_of g (lines p) ≡ sum_of (λ r. g (line_of_row r)) (required p)
by_required g p h z =
    sum-append g (map line_of_row p.rows) (stay_lines 1001 p.stays)
    ∙ ap₂ ◌+ℤ◌ (required_part g p.rows h (each-map _ line_of_row p.rows (stay_lines 1001 p.stays) z)) (stay_part g 1001 p.stays (omega arith) (each-right _ (map line_of_row p.rows) _ z))
    ∙ add-zero_ℤ _

-- ---- the signs of the multipliers

both_sides : (k : ℕ) (y : ℤ) → 0 < k → pos 0 ≤ℤ (pos 0 -ℤ pos k *ℤ y) → pos 0 ≤ℤ (pos 0 +ℤ pos k *ℤ y) → y ≡ pos 0
both_sides k (pos zero) h u o = refl
both_sides k (pos (suc n)) h u o = absurd (omega (arith, ints))
both_sides k (negsuc n) h u o = absurd (omega (arith, ints))

no_weight : (rel : Rel) (d : ℕ) → (d * under_weight rel 0 ≡ 0) × (d * over_weight rel 0 ≡ 0)
no_weight Eq d = (mul-zero d, mul-zero d)
no_weight Ge d = (mul-zero d, mul-zero d)
no_weight Le d = (mul-zero d, mul-zero d)

-- a line of another level has no multiplier
unweighted : (m : Multipliers) (l : Line) → (l.level ≡ 0 → ⊥) → 0 < l.scale → pos 0 ≤ℤ under m l 0 → pos 0 ≤ℤ over m l 0 → m.times 0 l.name ≡ pos 0
unweighted m l n h u o =
    let none : weight_at l 0 ≡ 0 = ap (λ (b : Bool). cond b l.weight 0) (ne_eqb l.level 0 n) in
    let y : ℤ = m.times 0 l.name in
    both_sides l.scale (m.times 0 l.name) h
    (subst (λ (t : ℕ). pos 0 ≤ℤ (pos t -ℤ pos l.scale *ℤ m.times 0 l.name)) (ap (λ (w : ℕ). m.scale 0 * under_weight l.rel w) none ∙ (no_weight l.rel (m.scale 0)).0) u)
    (subst (λ (t : ℕ). pos 0 ≤ℤ (pos t +ℤ pos l.scale *ℤ m.times 0 l.name)) (ap (λ (w : ℕ). m.scale 0 * over_weight l.rel w) none ∙ (no_weight l.rel (m.scale 0)).1) o)

signs_of : (rel : Rel) (d w k : ℕ) (y : ℤ) → 0 < k → pos 0 ≤ℤ (pos (d * under_weight rel w) -ℤ pos k *ℤ y) → pos 0 ≤ℤ (pos (d * over_weight rel w) +ℤ pos k *ℤ y) → HasSign rel y
signs_of Eq d w k y h u o = tt
signs_of Ge d w k (pos n) h u o = omega (arith, ints)
signs_of Ge d w k (negsuc n) h u o = absurd (omega (arith, ints))
signs_of Le d w k (pos zero) h u o = omega (arith, ints)
signs_of Le d w k (pos (suc n)) h u o = absurd (omega (arith, ints))
signs_of Le d w k (negsuc n) h u o = omega (arith, ints)

-- ---- the constant, with the required rows' own denominators

pub sum-each : {A : Type 0} (f g : A → ℤ) (xs : List A) → Each (λ x. f x ≡ g x) xs → sum_of f xs ≡ sum_of g xs
sum-each f g [] h = refl
sum-each f g (x ∷ xs) h = ap₂ ◌+ℤ◌ h.0 (sum-each f g xs h.1)

swap_wholes : (s t d w q : ℕ) → s * d ≡ w → t * d ≡ q → q * s ≡ w * t
swap_wholes s t d w q e f = omega (arith, ap (λ (v : ℕ). v * t) e, ap (λ (v : ℕ). v * s) f)

positive_after : (p : Problem) → Each (λ l. (0 < l.scale) × (0 < l.den)) (lines p) → (m : Multipliers) → pos 0 <ℤ sum_of (λ r. m.times 0 (Held r.id) *ℤ (r.constant.num *ℤ pos (share (lines p) (line_of_row r) * r.scale))) (required p) → pos 0 <ℤ sum_of (λ r. m.times 0 (Held r.id) *ℤ (r.constant.num *ℤ pos (product_of (λ s. s.constant.den) (required p) / r.constant.den))) (required p)
positive_after p fine m c =
    let dens : Each (λ s. 0 < s.constant.den) (required p) =
    each-filter _ (λ s. nat_eq s.rank 1000) p.rows (each-impl (λ s. (0 < s.scale) × (0 < s.constant.den)) _ p.rows (λ s h. h.1) (each-map (λ l. (0 < l.scale) × (0 < l.den)) line_of_row p.rows (stay_lines 1001 p.stays) fine)) in
    let wholes : Each (λ s. (share (lines p) (line_of_row s) * s.scale) * s.constant.den ≡ common (lines p)) (required p) =
    each-filter _ (λ s. nat_eq s.rank 1000) p.rows (each-map (λ l. (share (lines p) l * l.scale) * l.den ≡ common (lines p)) line_of_row p.rows (stay_lines 1001 p.stays) (shares (lines p) fine)) in
    let parts : Each (λ s. product_of (λ s. s.constant.den) (required p) / s.constant.den * s.constant.den ≡ product_of (λ s. s.constant.den) (required p)) (required p) =
    product-shares (λ s. s.constant.den) (required p) (product_of (λ s. s.constant.den) (required p)) 1 (omega arith) dens in
    let q : ℕ = product_of (λ s. s.constant.den) (required p) in
    let same : pos (product_of (λ s. s.constant.den) (required p)) *ℤ sum_of (λ r. m.times 0 (Held r.id) *ℤ (r.constant.num *ℤ pos (share (lines p) (line_of_row r) * r.scale))) (required p) ≡ pos (common (lines p)) *ℤ sum_of (λ r. m.times 0 (Held r.id) *ℤ (r.constant.num *ℤ pos (product_of (λ s. s.constant.den) (required p) / r.constant.den))) (required p) =
    sym (mul-sum (pos (product_of (λ s. s.constant.den) (required p))) _ (required p))
    ∙ sum-each _ (λ r. pos (common (lines p)) *ℤ (m.times 0 (Held r.id) *ℤ (r.constant.num *ℤ pos (product_of (λ s. s.constant.den) (required p) / r.constant.den)))) (required p)
    (each-impl (λ s. ((share (lines p) (line_of_row s) * s.scale) * s.constant.den ≡ common (lines p)) × (product_of (λ s. s.constant.den) (required p) / s.constant.den * s.constant.den ≡ product_of (λ s. s.constant.den) (required p))) _ (required p)
    (λ s h. shift_factor (product_of (λ s. s.constant.den) (required p)) (share (lines p) (line_of_row s) * s.scale) (m.times 0 (Held s.id)) s.constant.num
    ∙ ap (λ (t : ℕ). pos t *ℤ (m.times 0 (Held s.id) *ℤ s.constant.num)) (swap_wholes (share (lines p) (line_of_row s) * s.scale) (product_of (λ s. s.constant.den) (required p) / s.constant.den) s.constant.den (common (lines p)) (product_of (λ s. s.constant.den) (required p)) h.0 h.1)
    ∙ sym (shift_factor (common (lines p)) (product_of (λ s. s.constant.den) (required p) / s.constant.den) (m.times 0 (Held s.id)) s.constant.num))
    (each-both _ _ (required p) wholes parts))
    ∙ mul-sum (pos (common (lines p))) _ (required p) in
    positive_from (common (lines p)) _ (subst (λ (t : ℤ). pos 0 <ℤ t) same (mul_positive (product_of (λ s. s.constant.den) (required p)) _ (product-positive (λ s. s.constant.den) (required p) dens) c))

pub end-IsRefutation : (p : Problem) → IsProblem p → All (λ r. r.rank ≤ 1000) p.rows → (m : Multipliers) → ((v : ℕ) → sum_of (λ l. m.times 0 l.name *ℤ coefficient v l.form) (lines p) ≡ pos 0) → All (λ l. pos 0 ≤ℤ under m l 0) (lines p) → All (λ l. pos 0 ≤ℤ over m l 0) (lines p) → pos 0 <ℤ constant m (lines p) 0 → IsRefutation p (λ id. m.times 0 (Held id))
end-IsRefutation p ok ranks m cancel u o c =
    let fine = recursion_from_All _ _ ok in
    let zero : Each (λ l. (l.level ≡ 0 → ⊥) → m.times 0 l.name ≡ pos 0) (lines p) =
    each-impl (λ l. ((0 < l.scale) × (0 < l.den)) × ((pos 0 ≤ℤ under m l 0) × (pos 0 ≤ℤ over m l 0))) _ (lines p) (λ l h n. unweighted m l n h.0.0 h.1.0 h.1.1)
    (each-both _ _ (lines p) fine (each-both _ _ (lines p) (recursion_from_All _ _ u) (recursion_from_All _ _ o))) in
    record {
      cancel = λ v. sym (by_required (λ l. m.times 0 l.name *ℤ coefficient v l.form) p (recursion_from_All _ _ ranks)
          (each-impl _ (λ l. (l.level ≡ 0 → ⊥) → m.times 0 l.name *ℤ coefficient v l.form ≡ pos 0) (lines p) (λ l h n. ap (λ (t : ℤ). t *ℤ coefficient v l.form) (h n) ∙ zero-mul_ℤ (coefficient v l.form)) zero)) ∙ cancel v;
      signs = All-from_recursion _ _
          (each-filter (λ r. HasSign r.rel (m.times 0 (Held r.id))) (λ r. nat_eq r.rank 1000) p.rows
          (each-map (λ l. HasSign l.rel (m.times 0 l.name)) line_of_row p.rows (stay_lines 1001 p.stays)
          (each-impl (λ l. ((0 < l.scale) × (0 < l.den)) × ((pos 0 ≤ℤ under m l 0) × (pos 0 ≤ℤ over m l 0))) (λ l. HasSign l.rel (m.times 0 l.name)) (lines p)
          (λ l h. signs_of l.rel (m.scale 0) (weight_at l 0) l.scale (m.times 0 l.name) h.0.0 h.1.0 h.1.1)
          (each-both _ _ (lines p) fine (each-both _ _ (lines p) (recursion_from_All _ _ u) (recursion_from_All _ _ o))))));
      above_zero = positive_after p fine m (subst (λ (t : ℤ). pos 0 <ℤ t)
          (by_required (λ l. m.times 0 l.name *ℤ (l.num *ℤ pos (share (lines p) l * l.scale))) p (recursion_from_All _ _ ranks)
          (each-impl _ (λ l. (l.level ≡ 0 → ⊥) → m.times 0 l.name *ℤ (l.num *ℤ pos (share (lines p) l * l.scale)) ≡ pos 0) (lines p)
          (λ l h n. ap (λ (t : ℤ). t *ℤ (l.num *ℤ pos (share (lines p) l * l.scale))) (h n) ∙ zero-mul_ℤ (l.num *ℤ pos (share (lines p) l * l.scale))) zero)) c);
    }
