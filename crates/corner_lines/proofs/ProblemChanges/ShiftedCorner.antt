-- A row's constant changes: the marks stay a corner.
use Rattle.std.proofs.Common.{◌≡◌, ◌≢◌, ◌∙◌, ℕ, suc, ◌+◌, ◌*◌, ◌<◌, ◌≤◌, List, [], ◌∷◌, length, map, ℤ, pos, negsuc, ◌+ℤ◌, ◌-ℤ◌, ◌*ℤ◌, neg_ℤ, ◌<ℤ◌, refl, sym, ap, ap₂, subst, arith, All, Contains, inl, inr, mul-pos}
use Rattle.std.specs.List.{AllByRecursion as Each}
use Rattle.std.proofs.lemmas.Bool.{cases_Bool, cases_eq}
use Rattle.std.proofs.lemmas.List.Elements.{recursion_from_All, All-from_recursion}
use lib.IntN.{*ℤ_comm}
use borrow.Author.Differences.{ints}
use Rattle.frac_core.specs.Fraction.{Fraction}
use Rattle.frac_core.proofs.Integers.{diff_eq, mul-add_left, mul-sub_left, mul-zero_ℤ, mul_positive, on_2, zero-add_ℤ, add-zero_ℤ, zero_from_mul, diff-add, diff-mul, diff-neg, diff-pos, neg-pos}
use Rattle.problem_core.specs.declared.parts.Mark.{Mark}
use Rattle.problem_core.specs.declared.parts.RowName.TheVariants.{Held}
use Rattle.problem_core.specs.declared.parts.Side.{Side}
use Rattle.problem_core.specs.declared.parts.Side.TheVariants.{Under, Over}
use Rattle.problem_core.specs.declared.parts.Stay.{Stay}
use Rattle.problem_core.specs.declared.parts.Term.{Term}
use Rattle.problem_core.specs.Kept.{IsWhole}
use Rattle.problem_core.specs.Layout.{Line, Problem, Row, coefficient, line_of_row, line_of_stay, lines, stay_lines, value_at}
use Rattle.problem_core.specs.Corners.{Agree, IsCorner, IsIn, Point, Solves, StandsAt, attr_column, equation, marks_of, one_column, place, place_of}
use Rattle.problem_core.specs.Rays.{HasRays, IsRay}
use Rattle.problem_core.proofs.Corners.CornerFacts.{is_place}
use Rattle.problem_core.proofs.Forms.{each-both, each-impl, value-plus, value-scaled}
use Rattle.corner_laws.proofs.Counting.{IsIn-from_is_place, IsSmall, no_attr, sides_apart, sum_3}
use Rattle.corner_laws.proofs.LevelCosts.Gaps.{form_value}
use Rattle.corner_laws.proofs.Rays.{combined-holds, combined_ray}
use Rattle.corner_laws.proofs.WrittenValues.{nothing_outside}
use Rattle.corner_laws.proofs.ZeroColumns.{IsDirection, not-in}
use Rattle.corner_lines.specs.LineEquations.{sign_of}
use Rattle.corner_lines.specs.Shifts.{IsShift, has_constant, with_constant}
use Rattle.corner_lines.proofs.Lines.LineWritings.{named-mark}
use Rattle.corner_lines.proofs.Lines.MarkForms.{same-name}
use Rattle.corner_lines.proofs.ProblemChanges.Shifted.{changed, held-named, raised, raised-here, raised-other, raised-value, row-holds, row-solves, rows-back, rows-forward, same-marks, shift-parts, shift-small}
use Rattle.problem_core.proofs.Corners.Conflicts.{sum-each}
use Rattle.problem_core.proofs.RowNames.{held-same, stay-not-held}
use Rattle.corner_laws.proofs.PathEnds.Rises.{step, both-none}
use Rattle.frac_core.proofs.Numbers.{turned-cancels as between-one, plus-none as no-more, as-natural as above-zero, neg-times}
use Rattle.frac_core.proofs.Bools.{count-other as cond_other}

ruleset ring = (diff-add, diff-mul, diff-neg, diff-pos, neg-pos)

-- ---- directions at a corner

-- where no outside mark moves, no attribute does
still-attr : (p : Problem) (at : List Mark) (corner : IsCorner p at) (n : ℕ → ℤ) → IsDirection p n → All (λ m. (IsIn (place m) at → ⊥) → n (place m) ≡ pos 0) (marks_of (lines p)) → (All (λ m. n (place m) ≡ pos 0) (marks_of (lines p))) × All (λ s. n (attr_column s.attr) ≡ pos 0) p.stays
still-attr p at corner n d out =
    let y : Point = record { num = λ v. corner.point.num v +ℤ n v; positive = subst (λ (z : ℤ). pos 0 <ℤ z) (sym one) corner.point.positive } in
    let stands : StandsAt p at y = (
      All-from_recursion (λ l. value_at y.num (equation l) ≡ pos 0) (lines p)
          (each-impl (λ l. (value_at corner.point.num (equation l) ≡ pos 0) × (value_at n (equation l) ≡ pos 0)) _ (lines p) (λ l e. value-plus corner.point.num n (equation l) ∙ ap₂ ◌+ℤ◌ e.0 e.1)
          (each-both _ _ (lines p) (recursion_from_All (λ l. value_at corner.point.num (equation l) ≡ pos 0) (lines p) corner.stands.0) (recursion_from_All (λ l. value_at n (equation l) ≡ pos 0) (lines p) d.holds))),
      All-from_recursion (λ m. (IsIn (place m) at → ⊥) → y.num (place m) ≡ pos 0) (marks_of (lines p))
          (each-impl (λ m. ((IsIn (place m) at → ⊥) → corner.point.num (place m) ≡ pos 0) × ((IsIn (place m) at → ⊥) → n (place m) ≡ pos 0)) _ (marks_of (lines p)) (λ m h gone. ap₂ ◌+ℤ◌ (h.0 gone) (h.1 gone))
          (each-both _ _ (marks_of (lines p)) (recursion_from_All (λ m. (IsIn (place m) at → ⊥) → corner.point.num (place m) ≡ pos 0) (marks_of (lines p)) corner.stands.1) (recursion_from_All (λ m. (IsIn (place m) at → ⊥) → n (place m) ≡ pos 0) (marks_of (lines p)) out))),
    ) in (
      All-from_recursion (λ m. n (place m) ≡ pos 0) (marks_of (lines p))
          (each-impl (λ m. Agree (place m) corner.point y) _ (marks_of (lines p)) (λ m a. still (corner.point.num (place m)) (n (place m)) (corner.point.num one_column) (n one_column) corner.point.positive d.still a) (recursion_from_All (λ m. Agree (place m) corner.point y) (marks_of (lines p)) (corner.marks_fixed y stands))),
      All-from_recursion (λ s. n (attr_column s.attr) ≡ pos 0) p.stays
          (each-impl (λ s. Agree (attr_column s.attr) corner.point y) _ p.stays (λ s a. still (corner.point.num (attr_column s.attr)) (n (attr_column s.attr)) (corner.point.num one_column) (n one_column) corner.point.positive d.still a) (recursion_from_All (λ s. Agree (attr_column s.attr) corner.point y) p.stays (corner.attrs_fixed y stands))),
    )
  where
    one : corner.point.num one_column +ℤ n one_column ≡ corner.point.num one_column
    one = let h = d.still in omega (arith, ints, h)

    still : (x k o z : ℤ) → pos 0 <ℤ o → z ≡ pos 0 → x *ℤ (o +ℤ z) ≡ (x +ℤ k) *ℤ o → k ≡ pos 0
    still x k o z above e h =
        let g = above-zero o above in
        let plain : o +ℤ z ≡ o = omega (arith, ints, e) in
        let left : x *ℤ (o +ℤ z) ≡ o *ℤ x = ap (λ (t : ℤ). x *ℤ t) plain ∙ *ℤ_comm x o in
        let right : (x +ℤ k) *ℤ o ≡ o *ℤ x +ℤ o *ℤ k = *ℤ_comm (x +ℤ k) o ∙ mul-add_left o x k in
        let none : o *ℤ k ≡ pos 0 = omega (arith, ints, left, right, h) in
        zero_from_mul g.0 k g.1 (ap (λ (t : ℤ). t *ℤ k) (sym g.2) ∙ none)

-- a direction with the new constant is one with the old
direction-back : (p : Problem) (id : ℕ) (c f more : Fraction) (n : ℕ → ℤ) → IsShift p id c f more → n one_column ≡ pos 0 → All (λ l. value_at n (equation l) ≡ pos 0) (lines (with_constant id f p)) → All (λ l. value_at n (equation l) ≡ pos 0) (lines p)
direction-back p id c f more n s still h =
    All-from_recursion (λ l. value_at n (equation l) ≡ pos 0) (lines p)
    (rows-back (λ l. value_at n (equation l) ≡ pos 0) (λ l. value_at n (equation l) ≡ pos 0) id c f p.rows (stay_lines 1001 p.stays) (λ r ne k. k) own (λ k. k)
    (recursion_from_All (λ r. r.id ≡ id → r.constant ≡ c) p.rows s.constant) (recursion_from_All (λ l. value_at n (equation l) ≡ pos 0) (lines (with_constant id f p)) h))
  where
    still-gap : (d : ℕ) (k w o : ℤ) → 0 < d → o ≡ pos 0 → pos d *ℤ w ≡ k *ℤ o → w ≡ pos 0
    still-gap d k w o above e h = zero_from_mul d w above (h ∙ ap (λ (z : ℤ). k *ℤ z) e ∙ mul-zero_ℤ k)

    no-gap : (t : ℕ) (k w o : ℤ) → o ≡ pos 0 → w ≡ pos 0 → pos t *ℤ w ≡ k *ℤ o
    no-gap t k w o e f = ap (λ (z : ℤ). pos t *ℤ z) f ∙ mul-zero_ℤ (pos t) ∙ sym (ap (λ (z : ℤ). k *ℤ z) e ∙ mul-zero_ℤ k)

    own : (r : Row) → r.id ≡ id → r.constant ≡ c → value_at n (equation (line_of_row (changed f r))) ≡ pos 0 → value_at n (equation (line_of_row r)) ≡ pos 0
    own r e q k =
        row-solves n r
        (no-gap r.constant.den r.constant.num ((n (place_of (Held r.id) Under) -ℤ n (place_of (Held r.id) Over)) +ℤ form_value n (line_of_row r)) (n one_column) still
        (still-gap f.den f.num ((n (place_of (Held r.id) Under) -ℤ n (place_of (Held r.id) Over)) +ℤ form_value n (line_of_row r)) (n one_column) s.to_positive still (row-holds n (changed f r) k)))

-- ---- a solution with the new constant

side-none : (id : ℕ) (side : Side) (l : Line) → IsSmall (Held id) → l.name ≢ Held id → coefficient (place_of (Held id) side) (equation l) ≡ pos 0
side-none id Under l small ne =
    sum_3 _ _ _ _ _ _ _ _
    (cond_other (place_of l.name Under) (place_of (Held id) Under) (pos l.den) (λ e. ne (same-name l.name (Held id) Under Under e)))
    (cond_other (place_of l.name Over) (place_of (Held id) Under) (neg_ℤ (pos l.den)) (sides_apart l.name (Held id)))
    (cond_other one_column (place_of (Held id) Under) (neg_ℤ l.num) (λ e. omega (arith, small, e)))
    (no_attr (place_of (Held id) Under) l.den l.form (omega (arith, small)))
side-none id Over l small ne =
    sum_3 _ _ _ _ _ _ _ _
    (cond_other (place_of l.name Under) (place_of (Held id) Over) (pos l.den) (λ e. sides_apart (Held id) l.name (sym e)))
    (cond_other (place_of l.name Over) (place_of (Held id) Over) (neg_ℤ (pos l.den)) (λ e. ne (same-name l.name (Held id) Over Over e)))
    (cond_other one_column (place_of (Held id) Over) (neg_ℤ l.num) (λ e. omega (arith, small, e)))
    (no_attr (place_of (Held id) Over) l.den l.form (omega (arith, small)))

-- d times the numbers, with the row's deviation less by e
lowered : ℕ → ℤ → ℕ → Side → (ℕ → ℤ) → ℕ → ℤ
lowered d e id side x = raised d (neg_ℤ (sign_of side *ℤ e)) (place_of (Held id) side) x

far-place : (id : ℕ) (side : Side) (v : ℕ) → IsSmall (Held id) → 17179869184 ≤ v → v ≢ place_of (Held id) side
far-place id Under v small large e = absurd (omega (arith, small, large, e))
far-place id Over v small large e = absurd (omega (arith, small, large, e))

lowered-gap : (d : ℕ) (e : ℤ) (id : ℕ) (side : Side) (x : ℕ → ℤ) → lowered d e id side x (place_of (Held id) Under) -ℤ lowered d e id side x (place_of (Held id) Over) ≡ pos d *ℤ (x (place_of (Held id) Under) -ℤ x (place_of (Held id) Over)) +ℤ e
unfolding lowered
lowered-gap d e id Under x =
    parts (x (place_of (Held id) Under)) (x (place_of (Held id) Over)) (raised d (neg_ℤ (negsuc 0 *ℤ e)) (place_of (Held id) Under) x (place_of (Held id) Under)) (raised d (neg_ℤ (negsuc 0 *ℤ e)) (place_of (Held id) Under) x (place_of (Held id) Over))
    (raised-here d (neg_ℤ (negsuc 0 *ℤ e)) (place_of (Held id) Under) x) (raised-other d (neg_ℤ (negsuc 0 *ℤ e)) (place_of (Held id) Under) x (place_of (Held id) Over) (sides_apart (Held id) (Held id)))
  where
    parts : (u o a b : ℤ) → a ≡ pos d *ℤ u +ℤ neg_ℤ (negsuc 0 *ℤ e) → b ≡ pos d *ℤ o → a -ℤ b ≡ pos d *ℤ (u -ℤ o) +ℤ e
    parts u o a b f g = omega (arith, ints, f, g, mul-sub_left (pos d) u o)
lowered-gap d e id Over x =
    parts (x (place_of (Held id) Under)) (x (place_of (Held id) Over)) (raised d (neg_ℤ (pos 1 *ℤ e)) (place_of (Held id) Over) x (place_of (Held id) Under)) (raised d (neg_ℤ (pos 1 *ℤ e)) (place_of (Held id) Over) x (place_of (Held id) Over))
    (raised-other d (neg_ℤ (pos 1 *ℤ e)) (place_of (Held id) Over) x (place_of (Held id) Under) (λ z. sides_apart (Held id) (Held id) (sym z))) (raised-here d (neg_ℤ (pos 1 *ℤ e)) (place_of (Held id) Over) x)
  where
    parts : (u o a b : ℤ) → a ≡ pos d *ℤ u → b ≡ pos d *ℤ o +ℤ neg_ℤ (pos 1 *ℤ e) → a -ℤ b ≡ pos d *ℤ (u -ℤ o) +ℤ e
    parts u o a b f g = omega (arith, ints, f, g, mul-sub_left (pos d) u o)

lowered-form : (d : ℕ) (e : ℤ) (id : ℕ) (side : Side) (x : ℕ → ℤ) (form : List Term) → IsSmall (Held id) → value_at (λ a. lowered d e id side x (attr_column a)) form ≡ pos d *ℤ value_at (λ a. x (attr_column a)) form
unfolding lowered
lowered-form d e id side x form small =
    sum-each (λ (t : Term). t.by *ℤ lowered d e id side x (attr_column t.attr)) (λ t. t.by *ℤ (pos d *ℤ x (attr_column t.attr))) form (each form)
    ∙ value-scaled (pos d) (λ a. x (attr_column a)) form
  where
    each : (form : List Term) → Each (λ (t : Term). t.by *ℤ lowered d e id side x (attr_column t.attr) ≡ t.by *ℤ (pos d *ℤ x (attr_column t.attr))) form
    each [] = tt
    each (t ∷ form) = (ap (λ (z : ℤ). t.by *ℤ z) (raised-other d (neg_ℤ (sign_of side *ℤ e)) (place_of (Held id) side) x (attr_column t.attr) (far-place id side (attr_column t.attr) small (omega arith))), each form)

lowered-one : (d : ℕ) (e : ℤ) (id : ℕ) (side : Side) (x : ℕ → ℤ) → IsSmall (Held id) → lowered d e id side x one_column ≡ pos d *ℤ x one_column
unfolding lowered
lowered-one d e id side x small = raised-other d (neg_ℤ (sign_of side *ℤ e)) (place_of (Held id) side) x one_column (far-place id side one_column small (omega arith))

-- the difference the other way round
turned-ratio : (cd fd d : ℕ) (cn fn e : ℤ) → e *ℤ (pos fd *ℤ (pos 1 *ℤ pos cd)) ≡ (fn *ℤ (pos 1 *ℤ pos cd) +ℤ negsuc 0 *ℤ (cn *ℤ pos fd)) *ℤ pos d → neg_ℤ e *ℤ (pos cd *ℤ (pos 1 *ℤ pos fd)) ≡ (cn *ℤ (pos 1 *ℤ pos fd) +ℤ negsuc 0 *ℤ (fn *ℤ pos cd)) *ℤ pos d
turned-ratio cd fd d cn fn e h = left cd fd e ∙ ap neg_ℤ h ∙ right cd fd d cn fn
  where
    left : (cd fd : ℕ) (e : ℤ) → neg_ℤ e *ℤ (pos cd *ℤ (pos 1 *ℤ pos fd)) ≡ neg_ℤ (e *ℤ (pos fd *ℤ (pos 1 *ℤ pos cd)))
    left cd fd e = on_2 (λ e z. neg_ℤ e *ℤ (pos cd *ℤ (pos 1 *ℤ pos fd)) ≡ neg_ℤ (e *ℤ (pos fd *ℤ (pos 1 *ℤ pos cd)))) (λ a a' b b'. simp ring (diff_eq _ _ _ _ (omega arith))) e (pos 0)

    right : (cd fd d : ℕ) (cn fn : ℤ) → neg_ℤ ((fn *ℤ (pos 1 *ℤ pos cd) +ℤ negsuc 0 *ℤ (cn *ℤ pos fd)) *ℤ pos d) ≡ (cn *ℤ (pos 1 *ℤ pos fd) +ℤ negsuc 0 *ℤ (fn *ℤ pos cd)) *ℤ pos d
    right cd fd d cn fn =
        let a : negsuc 0 *ℤ (cn *ℤ pos fd) ≡ neg_ℤ (cn *ℤ (pos 1 *ℤ pos fd)) = (let o : pos 1 *ℤ pos fd ≡ pos fd = omega (arith, ints) in (let m : negsuc 0 *ℤ (cn *ℤ pos fd) ≡ neg_ℤ (cn *ℤ pos fd) = omega (arith, ints) in m ∙ ap (λ (z : ℤ). neg_ℤ (cn *ℤ z)) (sym o))) in
        let b : negsuc 0 *ℤ (fn *ℤ pos cd) ≡ neg_ℤ (fn *ℤ (pos 1 *ℤ pos cd)) = (let o : pos 1 *ℤ pos cd ≡ pos cd = omega (arith, ints) in (let m : negsuc 0 *ℤ (fn *ℤ pos cd) ≡ neg_ℤ (fn *ℤ pos cd) = omega (arith, ints) in m ∙ ap (λ (z : ℤ). neg_ℤ (fn *ℤ z)) (sym o))) in
        let k : neg_ℤ (fn *ℤ (pos 1 *ℤ pos cd) +ℤ negsuc 0 *ℤ (cn *ℤ pos fd)) ≡ cn *ℤ (pos 1 *ℤ pos fd) +ℤ negsuc 0 *ℤ (fn *ℤ pos cd) = omega (arith, ints, a, b) in
        sym (neg-times (fn *ℤ (pos 1 *ℤ pos cd) +ℤ negsuc 0 *ℤ (cn *ℤ pos fd)) (pos d)) ∙ ap (λ (z : ℤ). z *ℤ pos d) k

plus-back : (a e y : ℤ) → a -ℤ neg_ℤ e *ℤ y ≡ a +ℤ e *ℤ y
plus-back a e y = let h = neg-times e y in omega (arith, ints, h)

-- a solution with the old constant gives one with the new one
shift-solves : (p : Problem) (id : ℕ) (c f more : Fraction) (side : Side) (x : ℕ → ℤ) → IsSmall (Held id) → IsShift p id c f more → All (λ l. value_at x (equation l) ≡ pos 0) (lines p) → All (λ l. value_at (lowered more.den (more.num *ℤ x one_column) id side x) (equation l) ≡ pos 0) (lines (with_constant id f p))
unfolding lowered
shift-solves p id c f more side x small s h =
    All-from_recursion (λ l. value_at (lowered more.den (more.num *ℤ x one_column) id side x) (equation l) ≡ pos 0) (lines (with_constant id f p))
    (rows-forward (λ l. value_at x (equation l) ≡ pos 0) (λ l. value_at (lowered more.den (more.num *ℤ x one_column) id side x) (equation l) ≡ pos 0) id c f p.rows (stay_lines 1001 p.stays)
    (λ r n k. other (line_of_row r) (λ e. n (held-same r.id id e)) k)
    own
    (λ k. stays 1001 p.stays k)
    (recursion_from_All (λ r. r.id ≡ id → r.constant ≡ c) p.rows s.constant) (recursion_from_All (λ l. value_at x (equation l) ≡ pos 0) (lines p) h))
  where
    other : (l : Line) → l.name ≢ Held id → value_at x (equation l) ≡ pos 0 → value_at (lowered more.den (more.num *ℤ x one_column) id side x) (equation l) ≡ pos 0
    other l ne k =
        raised-value more.den (neg_ℤ (sign_of side *ℤ (more.num *ℤ x one_column))) (place_of (Held id) side) x (equation l) ∙ no-more (pos more.den *ℤ value_at x (equation l)) (neg_ℤ (sign_of side *ℤ (more.num *ℤ x one_column))) (coefficient (place_of (Held id) side) (equation l)) (side-none id side l small ne)
        ∙ ap (λ (z : ℤ). pos more.den *ℤ z) k ∙ mul-zero_ℤ (pos more.den)

    stays : (level : ℕ) (ss : List Stay) → Each (λ l. value_at x (equation l) ≡ pos 0) (stay_lines level ss) → Each (λ l. value_at (lowered more.den (more.num *ℤ x one_column) id side x) (equation l) ≡ pos 0) (stay_lines level ss)
    stays level [] k = tt
    stays level (t ∷ ss) k = (other (line_of_stay level t) (stay-not-held t.attr id) k.0, stays (level + 1) ss k.1)

    gap-parts : (u o a e w b : ℤ) → w ≡ pos more.den *ℤ (u -ℤ o) +ℤ e → b ≡ pos more.den *ℤ a → w +ℤ b ≡ pos more.den *ℤ ((u -ℤ o) +ℤ a) +ℤ e
    gap-parts u o a e w b f g = omega (arith, ints, f, g, mul-add_left (pos more.den) (u -ℤ o) a)

    at-id : (r : Row) → r.id ≡ id → r.constant ≡ c → value_at x (equation (line_of_row r)) ≡ pos 0 → value_at (lowered more.den (more.num *ℤ x one_column) r.id side x) (equation (line_of_row (changed f r))) ≡ pos 0
    at-id r e q k =
        let tiny : IsSmall (Held r.id) = subst (λ (n : ℕ). IsSmall (Held n)) (sym e) small in
        let gap : ℤ = (x (place_of (Held r.id) Under) -ℤ x (place_of (Held r.id) Over)) +ℤ form_value x (line_of_row r) in
        let old : pos c.den *ℤ ((x (place_of (Held r.id) Under) -ℤ x (place_of (Held r.id) Over)) +ℤ form_value x (line_of_row r)) ≡ c.num *ℤ x one_column = subst (λ (t : Fraction). pos t.den *ℤ ((x (place_of (Held r.id) Under) -ℤ x (place_of (Held r.id) Over)) +ℤ form_value x (line_of_row r)) ≡ t.num *ℤ x one_column) q (row-holds x r k) in
        row-solves (lowered more.den (more.num *ℤ x one_column) r.id side x) (changed f r)
        (ap (λ (z : ℤ). pos f.den *ℤ z)
        (gap-parts (x (place_of (Held r.id) Under)) (x (place_of (Held r.id) Over)) (form_value x (line_of_row r)) (more.num *ℤ x one_column) (lowered more.den (more.num *ℤ x one_column) r.id side x (place_of (Held r.id) Under) -ℤ lowered more.den (more.num *ℤ x one_column) r.id side x (place_of (Held r.id) Over)) (form_value (lowered more.den (more.num *ℤ x one_column) r.id side x) (line_of_row r))
        (lowered-gap more.den (more.num *ℤ x one_column) r.id side x) (lowered-form more.den (more.num *ℤ x one_column) r.id side x r.terms tiny)
        ∙ sym (plus-back (pos more.den *ℤ ((x (place_of (Held r.id) Under) -ℤ x (place_of (Held r.id) Over)) +ℤ form_value x (line_of_row r))) more.num (x one_column)))
        ∙ shift-parts f.den c.den more.den f.num c.num (neg_ℤ more.num) ((x (place_of (Held r.id) Under) -ℤ x (place_of (Held r.id) Over)) +ℤ form_value x (line_of_row r)) (x one_column) s.from_positive (turned-ratio c.den f.den more.den c.num f.num more.num s.difference) old
        ∙ ap (λ (z : ℤ). f.num *ℤ z) (sym (lowered-one more.den (more.num *ℤ x one_column) r.id side x tiny)))

    own : (r : Row) → r.id ≡ id → r.constant ≡ c → value_at x (equation (line_of_row r)) ≡ pos 0 → value_at (lowered more.den (more.num *ℤ x one_column) id side x) (equation (line_of_row (changed f r))) ≡ pos 0
    own r e q k = subst (λ (n : ℕ). value_at (lowered more.den (more.num *ℤ x one_column) n side x) (equation (line_of_row (changed f r))) ≡ pos 0) e (at-id r e q k)

-- ---- the corner

pub length-same : (id : ℕ) (f : Fraction) (rows : List Row) → length (map (has_constant id f) rows) ≡ length rows
length-same id f [] = refl
length-same id f (r ∷ rows) = ap suc (length-same id f rows)

between-agree : (x y a b : ℤ) → a *ℤ y +ℤ neg_ℤ b *ℤ x ≡ pos 0 → x *ℤ b ≡ y *ℤ a
between-agree x y a b h = let k = neg-times b x in omega (arith, ints, h, k, *ℤ_comm a y, *ℤ_comm b x)

between-direction : (p : Problem) (id : ℕ) (c f more : Fraction) (x y : Point) → IsShift p id c f more → Solves (with_constant id f p) x → Solves (with_constant id f p) y → IsDirection p (step x y)
between-direction p id c f more x y s hx hy = record {
  still = between-one (x.num one_column) (y.num one_column);
  holds = direction-back p id c f more (step x y) s (between-one (x.num one_column) (y.num one_column))
      (All-from_recursion (λ l. value_at (step x y) (equation l) ≡ pos 0) (lines (with_constant id f p))
      (each-impl (λ l. (value_at x.num (equation l) ≡ pos 0) × (value_at y.num (equation l) ≡ pos 0)) _ (lines (with_constant id f p))
      (λ l e. value-plus (λ v. x.num one_column *ℤ y.num v) (λ v. neg_ℤ (y.num one_column) *ℤ x.num v) (equation l)
      ∙ ap₂ ◌+ℤ◌ (value-scaled (x.num one_column) y.num (equation l)) (value-scaled (neg_ℤ (y.num one_column)) x.num (equation l))
      ∙ both-none (x.num one_column) (y.num one_column) (value_at x.num (equation l)) (value_at y.num (equation l)) e.0 e.1)
      (each-both _ _ (lines (with_constant id f p)) (recursion_from_All (λ l. value_at x.num (equation l) ≡ pos 0) (lines (with_constant id f p)) hx) (recursion_from_All (λ l. value_at y.num (equation l) ≡ pos 0) (lines (with_constant id f p)) hy))));
}

-- where a point stands there, it is a corner
corner-with : (p : Problem) (at : List Mark) (id : ℕ) (c f more : Fraction) (x : Point) → IsCorner p at → IsShift p id c f more → StandsAt (with_constant id f p) at x → IsCorner (with_constant id f p) at
corner-with p at id c f more x corner s stands =
    let marks : marks_of (lines (with_constant id f p)) ≡ marks_of (lines p) = same-marks id f p in
    let nothing : (y : Point) → StandsAt (with_constant id f p) at y → (All (λ m. step x y (place m) ≡ pos 0) (marks_of (lines p))) × All (λ s. step x y (attr_column s.attr) ≡ pos 0) p.stays = λ y there.
    still-attr p at corner (step x y) (between-direction p id c f more x y s stands.0 there.0)
    (subst (λ (ms : List Mark). All (λ m. (IsIn (place m) at → ⊥) → step x y (place m) ≡ pos 0) ms) marks
    (All-from_recursion (λ m. (IsIn (place m) at → ⊥) → step x y (place m) ≡ pos 0) (marks_of (lines (with_constant id f p)))
    (each-impl (λ m. ((IsIn (place m) at → ⊥) → x.num (place m) ≡ pos 0) × ((IsIn (place m) at → ⊥) → y.num (place m) ≡ pos 0)) _ (marks_of (lines (with_constant id f p)))
    (λ m h out. both-none (x.num one_column) (y.num one_column) (x.num (place m)) (y.num (place m)) (h.0 out) (h.1 out))
    (each-both _ _ (marks_of (lines (with_constant id f p))) (recursion_from_All (λ m. (IsIn (place m) at → ⊥) → x.num (place m) ≡ pos 0) (marks_of (lines (with_constant id f p))) stands.1) (recursion_from_All (λ m. (IsIn (place m) at → ⊥) → y.num (place m) ≡ pos 0) (marks_of (lines (with_constant id f p))) there.1))))) in
    record {
      count = corner.count ∙ sym (length-same id f p.rows);
      marks = All-from_recursion (λ m. Contains (map place (marks_of (lines (with_constant id f p)))) (place m)) at
          (each-impl (λ m. Contains (map place (marks_of (lines p))) (place m)) _ at (λ m is. subst (λ (ms : List Mark). Contains (map place ms) (place m)) (sym marks) is) (recursion_from_All (λ m. Contains (map place (marks_of (lines p))) (place m)) at corner.marks));
      apart = corner.apart;
      point = x;
      stands = stands;
      marks_fixed = λ y there.
          subst (λ (ms : List Mark). All (λ m. Agree (place m) x y) ms) (sym marks)
          (All-from_recursion (λ m. Agree (place m) x y) (marks_of (lines p))
          (each-impl (λ m. step x y (place m) ≡ pos 0) _ (marks_of (lines p)) (λ m h. between-agree (x.num (place m)) (y.num (place m)) (x.num one_column) (y.num one_column) h) (recursion_from_All (λ m. step x y (place m) ≡ pos 0) (marks_of (lines p)) (nothing y there).0)));
      attrs_fixed = λ y there.
          All-from_recursion (λ s. Agree (attr_column s.attr) x y) p.stays
          (each-impl (λ s. step x y (attr_column s.attr) ≡ pos 0) _ p.stays (λ s h. between-agree (x.num (attr_column s.attr)) (y.num (attr_column s.attr)) (x.num one_column) (y.num one_column) h) (recursion_from_All (λ s. step x y (attr_column s.attr) ≡ pos 0) p.stays (nothing y there).1));
    }

unfoldable lowered-point : (id : ℕ) → IsSmall (Held id) → (d : ℕ) → 0 < d → ℤ → Side → Point → Point
lowered-point id small d above e side x = record {
  num = lowered d (e *ℤ x.num one_column) id side x.num;
  positive = subst (λ (z : ℤ). pos 0 <ℤ z) (sym (lowered-one d (e *ℤ x.num one_column) id side x.num small)) (mul_positive d (x.num one_column) above x.positive);
}

-- the solution has 0 at each outside mark, but for the row's mark that is moved, which comes to 0 if it is outside
lowered-stands : (p : Problem) (at : List Mark) (id : ℕ) (c f more : Fraction) (side : Side) (x : Point) (small : IsSmall (Held id)) (s : IsShift p id c f more) → Solves p x → All (λ m. (IsIn (place m) at → ⊥) → place m ≢ place_of (Held id) side → x.num (place m) ≡ pos 0) (marks_of (lines p))
    → ((IsIn (place_of (Held id) side) at → ⊥) → lowered more.den (more.num *ℤ x.num one_column) id side x.num (place_of (Held id) side) ≡ pos 0) → StandsAt (with_constant id f p) at (lowered-point id small more.den s.more_positive more.num side x)
unfolding lowered-point lowered
lowered-stands p at id c f more side x small s solves zeros moved = (
  shift-solves p id c f more side x.num small s solves,
  subst (λ (ms : List Mark). All (λ m. (IsIn (place m) at → ⊥) → lowered more.den (more.num *ℤ x.num one_column) id side x.num (place m) ≡ pos 0) ms) (sym (same-marks id f p))
      (All-from_recursion (λ m. (IsIn (place m) at → ⊥) → lowered more.den (more.num *ℤ x.num one_column) id side x.num (place m) ≡ pos 0) (marks_of (lines p))
      (each-impl (λ m. (IsIn (place m) at → ⊥) → place m ≢ place_of (Held id) side → x.num (place m) ≡ pos 0) _ (marks_of (lines p))
      (λ m h out. elim (cases_eq (place m) (place_of (Held id) side)) [
        | inl e ↦ subst (λ (v : ℕ). lowered more.den (more.num *ℤ x.num one_column) id side x.num v ≡ pos 0) (sym e) (moved (λ i. out (subst (λ (v : ℕ). IsIn v at) (sym e) i)))
        | inr n ↦ raised-other more.den (neg_ℤ (sign_of side *ℤ (more.num *ℤ x.num one_column))) (place_of (Held id) side) x.num (place m) n ∙ ap (λ (z : ℤ). pos more.den *ℤ z) (h out n) ∙ mul-zero_ℤ (pos more.den)
      ])
      (recursion_from_All (λ m. (IsIn (place m) at → ⊥) → place m ≢ place_of (Held id) side → x.num (place m) ≡ pos 0) (marks_of (lines p)) zeros))),
)

-- where the row is inside, its mark takes the difference
inside-corner : (p : Problem) (at : List Mark) (id : ℕ) (c f more : Fraction) (side : Side) → IsWhole p → IsCorner p at → IsShift p id c f more → IsIn (place_of (Held id) side) at → IsCorner (with_constant id f p) at
inside-corner p at id c f more side whole corner s inside =
    let small = shift-small p id c f more whole s in
    corner-with p at id c f more (lowered-point id small more.den s.more_positive more.num side corner.point) corner s
    (lowered-stands p at id c f more side corner.point small s corner.stands.0
    (All-from_recursion (λ m. (IsIn (place m) at → ⊥) → place m ≢ place_of (Held id) side → corner.point.num (place m) ≡ pos 0) (marks_of (lines p))
    (each-impl (λ m. (IsIn (place m) at → ⊥) → corner.point.num (place m) ≡ pos 0) _ (marks_of (lines p)) (λ m h out ne. h out) (recursion_from_All (λ m. (IsIn (place m) at → ⊥) → corner.point.num (place m) ≡ pos 0) (marks_of (lines p)) corner.stands.1)))
    (λ out. absurd (out inside)))

plain-one : (g d : ℕ) (a t z : ℤ) → z ≡ pos 0 → pos (g * d) *ℤ a +ℤ t *ℤ z ≡ pos (g * d) *ℤ a
plain-one g d a t z e = ap (λ (k : ℤ). pos (g * d) *ℤ a +ℤ k) (ap (λ (k : ℤ). t *ℤ k) e ∙ mul-zero_ℤ t) ∙ add-zero_ℤ (pos (g * d) *ℤ a)

-- along the row's ray, until its over mark is the difference
along-row : (g d : ℕ) (e a z r o w : ℤ) → z ≡ pos 0 → r ≡ pos g → o ≡ pos (g * d) *ℤ a → w ≡ pos d *ℤ (pos (g * d) *ℤ z +ℤ neg_ℤ (neg_ℤ (e *ℤ a)) *ℤ r) +ℤ neg_ℤ (pos 1 *ℤ (e *ℤ o)) → w ≡ pos 0
along-row g d e a z r o w f h k q =
    let none : pos (g * d) *ℤ z ≡ pos 0 = ap (λ (t : ℤ). pos (g * d) *ℤ t) f ∙ mul-zero_ℤ (pos (g * d)) in
    let twice : neg_ℤ (neg_ℤ (e *ℤ a)) ≡ e *ℤ a = omega (arith, ints) in
    let inner : pos (g * d) *ℤ z +ℤ neg_ℤ (neg_ℤ (e *ℤ a)) *ℤ r ≡ (e *ℤ a) *ℤ pos g = ap₂ ◌+ℤ◌ none (ap₂ ◌*ℤ◌ twice h) ∙ zero-add_ℤ ((e *ℤ a) *ℤ pos g) in
    let left : pos d *ℤ ((e *ℤ a) *ℤ pos g) ≡ e *ℤ (pos (g * d) *ℤ a) = same g d e a in
    let right : pos 1 *ℤ (e *ℤ o) ≡ e *ℤ (pos (g * d) *ℤ a) = (let m : pos 1 *ℤ (e *ℤ o) ≡ e *ℤ o = omega (arith, ints) in m) ∙ ap (λ (t : ℤ). e *ℤ t) k in
    q ∙ ap₂ (λ (s t : ℤ). pos d *ℤ s +ℤ neg_ℤ t) inner right ∙ (let m : pos d *ℤ ((e *ℤ a) *ℤ pos g) +ℤ neg_ℤ (e *ℤ (pos (g * d) *ℤ a)) ≡ pos 0 = omega (arith, ints, left) in m)
  where
    same : (g d : ℕ) (e a : ℤ) → pos d *ℤ ((e *ℤ a) *ℤ pos g) ≡ e *ℤ (pos (g * d) *ℤ a)
    same g d = on_2 (λ e a. pos d *ℤ ((e *ℤ a) *ℤ pos g) ≡ e *ℤ (pos (g * d) *ℤ a)) (λ a a' b b'. simp ring (diff_eq _ _ _ _ (omega arith)))

unfoldable along-point : (p : Problem) (at : List Mark) (v g d : ℕ) (t : ℤ) (x : Point) (n : ℕ → ℤ) → 0 < g * d → IsRay p at v n → Point
along-point p at v g d t x n above r = record {
  num = combined_ray (g * d) t x.num n;
  positive = subst (λ (z : ℤ). pos 0 <ℤ z) (sym (plain-one g d (x.num one_column) (neg_ℤ t) (n one_column) r.still)) (mul_positive (g * d) (x.num one_column) above x.positive);
}

outside-corner : (p : Problem) (at : List Mark) (id : ℕ) (c f more : Fraction) → IsWhole p → IsCorner p at → HasRays p at → IsShift p id c f more → (IsIn (place_of (Held id) Over) at → ⊥) → IsCorner (with_constant id f p) at
unfolding along-point lowered
outside-corner p at id c f more whole corner rays s out =
    let small = shift-small p id c f more whole s in
    let mark : Contains (map place (marks_of (lines p))) (place_of (Held id) Over) = named-mark p (Held id) Over (held-named p id s.held) in
    let n = rays (place_of (Held id) Over) mark out in
    let g = above-zero (n.0 (place_of (Held id) Over)) n.1.here in
    let t : ℤ = neg_ℤ (more.num *ℤ corner.point.num one_column) in
    let x : Point = along-point p at (place_of (Held id) Over) g.0 more.den t corner.point n.0 (mul-pos g.1 s.more_positive) n.1 in
    corner-with p at id c f more (lowered-point id small more.den s.more_positive more.num Over x) corner s
    (lowered-stands p at id c f more Over x small s (combined-holds p (g.0 * more.den) t corner.point.num n.0 corner.stands.0 n.1.holds)
    (All-from_recursion (λ m. (IsIn (place m) at → ⊥) → place m ≢ place_of (Held id) Over → x.num (place m) ≡ pos 0) (marks_of (lines p))
    (each-impl (λ m. ((IsIn (place m) at → ⊥) → corner.point.num (place m) ≡ pos 0) × ((IsIn (place m) at → ⊥) → place m ≢ place_of (Held id) Over → n.0 (place m) ≡ pos 0)) _ (marks_of (lines p))
    (λ m h gone ne. plain-one g.0 more.den (corner.point.num (place m)) (neg_ℤ t) (n.0 (place m)) (h.1 gone ne) ∙ ap (λ (z : ℤ). pos (g.0 * more.den) *ℤ z) (h.0 gone) ∙ mul-zero_ℤ (pos (g.0 * more.den)))
    (each-both _ _ (marks_of (lines p)) (recursion_from_All (λ m. (IsIn (place m) at → ⊥) → corner.point.num (place m) ≡ pos 0) (marks_of (lines p)) corner.stands.1)
    (recursion_from_All (λ m. (IsIn (place m) at → ⊥) → place m ≢ place_of (Held id) Over → n.0 (place m) ≡ pos 0) (marks_of (lines p)) n.1.other))))
    (λ gone. along-row g.0 more.den more.num (corner.point.num one_column) (corner.point.num (place_of (Held id) Over)) (n.0 (place_of (Held id) Over)) (x.num one_column) (lowered more.den (more.num *ℤ x.num one_column) id Over x.num (place_of (Held id) Over))
    (nothing_outside p at corner.point (place_of (Held id) Over) corner.stands mark out) g.2 (plain-one g.0 more.den (corner.point.num one_column) (neg_ℤ t) (n.0 one_column) n.1.still)
    (raised-here more.den (neg_ℤ (pos 1 *ℤ (more.num *ℤ x.num one_column))) (place_of (Held id) Over) x.num)))

-- the marks stay a corner where a row's constant changes
pub shift_corner : (p : Problem) (at : List Mark) (id : ℕ) (c f more : Fraction) → IsWhole p → IsCorner p at → HasRays p at → IsShift p id c f more → IsCorner (with_constant id f p) at
shift_corner p at id c f more whole corner rays s =
    elim (cases_Bool (is_place at (place_of (Held id) Over))) [
      | inl i ↦ inside-corner p at id c f more Over whole corner s (IsIn-from_is_place (place_of (Held id) Over) at i)
      | inr o ↦ outside-corner p at id c f more whole corner rays s (not-in at (place_of (Held id) Over) o)
    ]
