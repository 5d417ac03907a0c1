-- A row's constant changes: solutions of both problems, rays and equations.
use Rattle.std.proofs.Common.{◌≡◌, ◌≢◌, ◌∙◌, ℕ, zero, suc, ◌+◌, ◌*◌, ◌<◌, ◌++◌, Bool, cond, List, [], ◌∷◌, map, ℤ, pos, negsuc, ◌+ℤ◌, ◌-ℤ◌, ◌*ℤ◌, neg_ℤ, ◌<ℤ◌, unsigned_abs, refl, sym, ap, ap₂, subst, arith, All, Contains, inl, inr, eq-eqb, ne_eqb}
use Rattle.std.specs.Int.{◌∣◌}
use Rattle.std.specs.List.{Any, AllByRecursion as Each}
use Rattle.std.proofs.lemmas.Bool.{cases_eq}
use Rattle.std.proofs.lemmas.List.Elements.{recursion_from_All, All-from_recursion}
use lib.IntN.{*ℤ_comm}
use borrow.Author.Differences.{ints}
use Rattle.frac_core.specs.Fraction.{Fraction, IsRatio, sum_den, sum_num}
use Rattle.frac_core.proofs.Integers.{add-mul_right, cancel_mul, diff_eq, mul-add_left, mul-sub_left, mul-zero_ℤ, mul_assoc_ℤ, mul_left_comm_ℤ, mul_positive, on_2, zero-mul_ℤ, zero_from_mul, diff-add, diff-mul, diff-neg, diff-pos, neg-pos}
use Rattle.problem_core.specs.declared.parts.Mark.{Mark}
use Rattle.problem_core.specs.declared.parts.RowName.{RowName}
use Rattle.problem_core.specs.declared.parts.RowName.TheVariants.{Held}
use Rattle.problem_core.specs.declared.parts.Side.TheVariants.{Under, Over}
use Rattle.problem_core.specs.declared.parts.Stay.{Stay}
use Rattle.problem_core.specs.declared.parts.Term.{Term}
use Rattle.problem_core.specs.Kept.{IsWhole}
use Rattle.problem_core.specs.Layout.{Line, Problem, Row, coefficient, line_of_row, line_of_stay, lines, stay_lines, sum_of, value_at}
use Rattle.problem_core.specs.Corners.{IsIn, Point, Solves, attr_column, equation, marks_of, one_column, place, place_of}
use Rattle.problem_core.specs.Rays.{HasRays}
use Rattle.problem_core.proofs.Forms.{mul-sum, sum-add, value-plus, value-scaled}
use Rattle.problem_core.proofs.Corners.Tableaus.{unit_at}
use Rattle.corner_laws.proofs.Counting.{IsSmall, no_attr, sides_apart, sum_3, unit_value}
use Rattle.corner_laws.proofs.LevelCosts.Gaps.{form_value}
use Rattle.corner_laws.proofs.LinePlaces.{lines_apart}
use Rattle.corner_lines.specs.LineEquations.{IsLineEquation, IsOutsideLine, deviation}
use Rattle.corner_lines.specs.Shifts.{IsShift, has_constant, with_constant}
use Rattle.corner_lines.proofs.ProblemChanges.JoinedLines.{times-own}
use Rattle.corner_lines.proofs.Lines.LineCarried.{carried-value}
use Rattle.corner_lines.proofs.Lines.LineExchanges.{single}
use Rattle.corner_lines.proofs.Lines.LineWritings.{Named, all-small, at-name}
use Rattle.corner_lines.proofs.Lines.MarkForms.{same-name}
use Rattle.problem_core.proofs.Corners.Ends.{value-columns}
use Rattle.problem_core.proofs.Corners.Conflicts.{sum-each}
use Rattle.problem_core.proofs.RowNames.{held-same, stay-not-held}
use Rattle.corner_lines.proofs.ProblemChanges.Dropped.{same-deviation}
use Rattle.frac_core.proofs.Numbers.{plus-none as no-more, neg-times}
use Rattle.frac_core.proofs.Bools.{count-other as cond_other, count-same as cond_same}

ruleset ring = (diff-add, diff-mul, diff-neg, diff-pos, neg-pos)

-- ---- the lines, one by one

abbrev pub changed : Fraction → Row → Row
changed f r = record { id = r.id; rank = r.rank; weight = r.weight; rel = r.rel; scale = r.scale; constant = f; terms = r.terms }

pub shift-on : (id : ℕ) (f : Fraction) (r : Row) → r.id ≡ id → has_constant id f r ≡ changed f r
shift-on id f r e = ap (λ (b : Bool). cond b (changed f r) r) (eq-eqb r.id id e)

pub shift-off : (id : ℕ) (f : Fraction) (r : Row) → r.id ≢ id → has_constant id f r ≡ r
shift-off id f r n = ap (λ (b : Bool). cond b (changed f r) r) (ne_eqb r.id id n)

pub rows-forward : (P Q : Line → Type 0) (id : ℕ) (c f : Fraction) (rows : List Row) (ls : List Line) → ((r : Row) → r.id ≢ id → P (line_of_row r) → Q (line_of_row r)) → ((r : Row) → r.id ≡ id → r.constant ≡ c → P (line_of_row r) → Q (line_of_row (changed f r))) → (Each P ls → Each Q ls)
    → Each (λ (r : Row). r.id ≡ id → r.constant ≡ c) rows → Each P (map line_of_row rows ++ ls) → Each Q (map line_of_row (map (has_constant id f) rows) ++ ls)
rows-forward P Q id c f [] ls off on rest k h = rest h
rows-forward P Q id c f (r ∷ rows) ls off on rest k h = (
  elim (cases_eq r.id id) [
    | inl e ↦ subst (λ (s : Row). Q (line_of_row s)) (sym (shift-on id f r e)) (on r e (k.0 e) h.0)
    | inr n ↦ subst (λ (s : Row). Q (line_of_row s)) (sym (shift-off id f r n)) (off r n h.0)
  ],
  rows-forward P Q id c f rows ls off on rest k.1 h.1,
)

pub rows-back : (P Q : Line → Type 0) (id : ℕ) (c f : Fraction) (rows : List Row) (ls : List Line) → ((r : Row) → r.id ≢ id → P (line_of_row r) → Q (line_of_row r)) → ((r : Row) → r.id ≡ id → r.constant ≡ c → P (line_of_row (changed f r)) → Q (line_of_row r)) → (Each P ls → Each Q ls)
    → Each (λ (r : Row). r.id ≡ id → r.constant ≡ c) rows → Each P (map line_of_row (map (has_constant id f) rows) ++ ls) → Each Q (map line_of_row rows ++ ls)
rows-back P Q id c f [] ls off on rest k h = rest h
rows-back P Q id c f (r ∷ rows) ls off on rest k h = (
  elim (cases_eq r.id id) [
    | inl e ↦ on r e (k.0 e) (subst (λ (s : Row). P (line_of_row s)) (shift-on id f r e) h.0)
    | inr n ↦ off r n (subst (λ (s : Row). P (line_of_row s)) (shift-off id f r n) h.0)
  ],
  rows-back P Q id c f rows ls off on rest k.1 h.1,
)

pub same-id : (id : ℕ) (f : Fraction) (r : Row) → (has_constant id f r).id ≡ r.id
same-id id f r = elim (cases_eq r.id id) [
  | inl e ↦ ap (λ (s : Row). s.id) (shift-on id f r e)
  | inr n ↦ ap (λ (s : Row). s.id) (shift-off id f r n)
]

pub names-forward : (P : RowName → Type 0) (id : ℕ) (f : Fraction) (p : Problem) → Each (λ l. P l.name) (lines p) → Each (λ l. P l.name) (lines (with_constant id f p))
names-forward P id f p h = rows p.rows h
  where
    rows : (rows : List Row) → Each (λ l. P l.name) (map line_of_row rows ++ stay_lines 1001 p.stays) → Each (λ l. P l.name) (map line_of_row (map (has_constant id f) rows) ++ stay_lines 1001 p.stays)
    rows [] h = h
    rows (r ∷ rs) h = (subst (λ (n : ℕ). P (Held n)) (sym (same-id id f r)) h.0, rows rs h.1)

pub names-back : (P : RowName → Type 0) (id : ℕ) (f : Fraction) (p : Problem) → Each (λ l. P l.name) (lines (with_constant id f p)) → Each (λ l. P l.name) (lines p)
names-back P id f p h = rows p.rows h
  where
    rows : (rows : List Row) → Each (λ l. P l.name) (map line_of_row (map (has_constant id f) rows) ++ stay_lines 1001 p.stays) → Each (λ l. P l.name) (map line_of_row rows ++ stay_lines 1001 p.stays)
    rows [] h = h
    rows (r ∷ rs) h = (subst (λ (n : ℕ). P (Held n)) (same-id id f r) h.0, rows rs h.1)

pub names-sum : (F : RowName → ℤ) (id : ℕ) (f : Fraction) (p : Problem) → sum_of (λ l. F l.name) (lines (with_constant id f p)) ≡ sum_of (λ l. F l.name) (lines p)
names-sum F id f p = rows p.rows
  where
    rows : (rows : List Row) → sum_of (λ l. F l.name) (map line_of_row (map (has_constant id f) rows) ++ stay_lines 1001 p.stays) ≡ sum_of (λ l. F l.name) (map line_of_row rows ++ stay_lines 1001 p.stays)
    rows [] = refl
    rows (r ∷ rs) = ap₂ ◌+ℤ◌ (ap (λ (n : ℕ). F (Held n)) (same-id id f r)) (rows rs)

pub same-marks : (id : ℕ) (f : Fraction) (p : Problem) → marks_of (lines (with_constant id f p)) ≡ marks_of (lines p)
same-marks id f p = rows p.rows
  where
    rows : (rows : List Row) → marks_of (map line_of_row (map (has_constant id f) rows) ++ stay_lines 1001 p.stays) ≡ marks_of (map line_of_row rows ++ stay_lines 1001 p.stays)
    rows [] = refl
    rows (r ∷ rs) = ap₂ (λ (n : ℕ) (ms : List Mark). record { row = Held n; side = Under } ∷ record { row = Held n; side = Over } ∷ ms) (same-id id f r) (rows rs)

-- ---- a solution with a row's mark moved

-- d times the numbers, and e more at the column c
abbrev pub raised : ℕ → ℤ → ℕ → (ℕ → ℤ) → ℕ → ℤ
raised d e c y v = pos d *ℤ y v +ℤ e *ℤ unit_at c v

pub raised-value : (d : ℕ) (e : ℤ) (c : ℕ) (y : ℕ → ℤ) (form : List Term) → value_at (raised d e c y) form ≡ pos d *ℤ value_at y form +ℤ e *ℤ coefficient c form
raised-value d e c y form =
    value-plus (λ v. pos d *ℤ y v) (λ v. e *ℤ unit_at c v) form
    ∙ ap₂ ◌+ℤ◌ (value-scaled (pos d) y form) (value-scaled e (unit_at c) form ∙ ap (λ (z : ℤ). e *ℤ z) (unit_value c form))

pub raised-other : (d : ℕ) (e : ℤ) (c : ℕ) (y : ℕ → ℤ) (v : ℕ) → v ≢ c → raised d e c y v ≡ pos d *ℤ y v
raised-other d e c y v n = no-more (pos d *ℤ y v) e (unit_at c v) (cond_other v c (pos 1) n)

pub raised-here : (d : ℕ) (e : ℤ) (c : ℕ) (y : ℕ → ℤ) → raised d e c y c ≡ pos d *ℤ y c +ℤ e
raised-here d e c y = ap (λ (z : ℤ). pos d *ℤ y c +ℤ e *ℤ z) (cond_same c c (pos 1) refl) ∙ (let h : e *ℤ pos 1 ≡ e = omega (arith, ints) in ap (λ (z : ℤ). pos d *ℤ y c +ℤ z) h)

-- in an equation of another line the row's over mark does not stand
over-none : (id : ℕ) (l : Line) → IsSmall (Held id) → l.name ≢ Held id → coefficient (place_of (Held id) Over) (equation l) ≡ pos 0
over-none id l small ne =
    sum_3 _ _ _ _ _ _ _ _
    (cond_other (place_of l.name Under) (place_of (Held id) Over) (pos l.den) (λ e. sides_apart (Held id) l.name (sym e)))
    (cond_other (place_of l.name Over) (place_of (Held id) Over) (neg_ℤ (pos l.den)) (λ e. ne (same-name l.name (Held id) Over Over e)))
    (cond_other one_column (place_of (Held id) Over) (neg_ℤ l.num) (λ e. omega (arith, small, e)))
    (no_attr (place_of (Held id) Over) l.den l.form (omega (arith, small)))

-- ---- the row's equation in both problems

gap-value : (n : ℕ → ℤ) (r : Row) → value_at n (equation (line_of_row r)) ≡ pos r.constant.den *ℤ ((n (place_of (Held r.id) Under) -ℤ n (place_of (Held r.id) Over)) +ℤ form_value n (line_of_row r)) -ℤ r.constant.num *ℤ n one_column
gap-value n r =
    parts r.constant.den r.constant.num (n (place_of (Held r.id) Under)) (n (place_of (Held r.id) Over)) (n one_column) (form_value n (line_of_row r)) (value_at n (map (λ e. record { attr = attr_column e.attr; by = pos r.constant.den *ℤ e.by }) r.terms)) (value-columns n (pos r.constant.den) r.terms)
  where
    parts : (d : ℕ) (k u o one a w : ℤ) → w ≡ pos d *ℤ a → pos d *ℤ u +ℤ (neg_ℤ (pos d) *ℤ o +ℤ (neg_ℤ k *ℤ one +ℤ w)) ≡ pos d *ℤ ((u -ℤ o) +ℤ a) -ℤ k *ℤ one
    parts d k u o one a w e =
        let b = neg-times (pos d) o in
        let c = neg-times k one in
        omega (arith, ints, b, c, e, mul-add_left (pos d) (u -ℤ o) a, mul-sub_left (pos d) u o)

pub row-holds : (n : ℕ → ℤ) (r : Row) → value_at n (equation (line_of_row r)) ≡ pos 0 → pos r.constant.den *ℤ ((n (place_of (Held r.id) Under) -ℤ n (place_of (Held r.id) Over)) +ℤ form_value n (line_of_row r)) ≡ r.constant.num *ℤ n one_column
row-holds n r h = same (pos r.constant.den *ℤ ((n (place_of (Held r.id) Under) -ℤ n (place_of (Held r.id) Over)) +ℤ form_value n (line_of_row r))) (r.constant.num *ℤ n one_column) (sym (gap-value n r) ∙ h)
  where
    same : (a b : ℤ) → a -ℤ b ≡ pos 0 → a ≡ b
    same a b e = omega (arith, ints, e)

pub row-solves : (n : ℕ → ℤ) (r : Row) → pos r.constant.den *ℤ ((n (place_of (Held r.id) Under) -ℤ n (place_of (Held r.id) Over)) +ℤ form_value n (line_of_row r)) ≡ r.constant.num *ℤ n one_column → value_at n (equation (line_of_row r)) ≡ pos 0
row-solves n r h = gap-value n r ∙ same (pos r.constant.den *ℤ ((n (place_of (Held r.id) Under) -ℤ n (place_of (Held r.id) Over)) +ℤ form_value n (line_of_row r))) (r.constant.num *ℤ n one_column) h
  where
    same : (a b : ℤ) → a ≡ b → a -ℤ b ≡ pos 0
    same a b e = omega (arith, ints, e)

-- e*(fd*(1*cd)) = (fn*(1*cd) - cn*fd)*d: with fd*w = fn*y, cd*(d*w - e*y) = cn*(d*y)
pub shift-parts : (cd fd d : ℕ) (cn fn e w y : ℤ) → 0 < fd → e *ℤ (pos fd *ℤ (pos 1 *ℤ pos cd)) ≡ (fn *ℤ (pos 1 *ℤ pos cd) +ℤ negsuc 0 *ℤ (cn *ℤ pos fd)) *ℤ pos d → pos fd *ℤ w ≡ fn *ℤ y → pos cd *ℤ (pos d *ℤ w -ℤ e *ℤ y) ≡ cn *ℤ (pos d *ℤ y)
shift-parts cd fd d cn fn e w y above r h =
    let first : pos fd *ℤ (pos cd *ℤ (pos d *ℤ w)) ≡ (fn *ℤ (pos 1 *ℤ pos cd)) *ℤ (pos d *ℤ y) = ap (λ (z : ℤ). z) (left cd fd d w) ∙ ap (λ (z : ℤ). pos cd *ℤ (pos d *ℤ z)) h ∙ turn cd d fn y in
    let second : pos fd *ℤ (pos cd *ℤ (e *ℤ y)) ≡ ((fn *ℤ (pos 1 *ℤ pos cd) +ℤ negsuc 0 *ℤ (cn *ℤ pos fd)) *ℤ pos d) *ℤ y = whole cd fd e y ∙ ap (λ (z : ℤ). z *ℤ y) r in
    let third : ((fn *ℤ (pos 1 *ℤ pos cd) +ℤ negsuc 0 *ℤ (cn *ℤ pos fd)) *ℤ pos d) *ℤ y ≡ (fn *ℤ (pos 1 *ℤ pos cd)) *ℤ (pos d *ℤ y) -ℤ pos fd *ℤ (cn *ℤ (pos d *ℤ y)) = apart cd fd d fn cn y in
    let split : pos fd *ℤ (pos cd *ℤ (pos d *ℤ w -ℤ e *ℤ y)) ≡ pos fd *ℤ (pos cd *ℤ (pos d *ℤ w)) -ℤ pos fd *ℤ (pos cd *ℤ (e *ℤ y)) = ap (λ (z : ℤ). pos fd *ℤ z) (mul-sub_left (pos cd) (pos d *ℤ w) (e *ℤ y)) ∙ mul-sub_left (pos fd) (pos cd *ℤ (pos d *ℤ w)) (pos cd *ℤ (e *ℤ y)) in
    cancel_mul fd (pos cd *ℤ (pos d *ℤ w -ℤ e *ℤ y)) (cn *ℤ (pos d *ℤ y)) above (omega (arith, ints, first, second, third, split))
  where
    left : (cd fd d : ℕ) (w : ℤ) → pos fd *ℤ (pos cd *ℤ (pos d *ℤ w)) ≡ pos cd *ℤ (pos d *ℤ (pos fd *ℤ w))
    left cd fd d w = mul_left_comm_ℤ (pos fd) (pos cd) (pos d *ℤ w) ∙ ap (λ (z : ℤ). pos cd *ℤ z) (mul_left_comm_ℤ (pos fd) (pos d) w)

    turn : (cd d : ℕ) (fn y : ℤ) → pos cd *ℤ (pos d *ℤ (fn *ℤ y)) ≡ (fn *ℤ (pos 1 *ℤ pos cd)) *ℤ (pos d *ℤ y)
    turn cd d = on_2 (λ fn y. pos cd *ℤ (pos d *ℤ (fn *ℤ y)) ≡ (fn *ℤ (pos 1 *ℤ pos cd)) *ℤ (pos d *ℤ y)) (λ a a' b b'. simp ring (diff_eq _ _ _ _ (omega arith)))

    whole : (cd fd : ℕ) (e y : ℤ) → pos fd *ℤ (pos cd *ℤ (e *ℤ y)) ≡ (e *ℤ (pos fd *ℤ (pos 1 *ℤ pos cd))) *ℤ y
    whole cd fd = on_2 (λ e y. pos fd *ℤ (pos cd *ℤ (e *ℤ y)) ≡ (e *ℤ (pos fd *ℤ (pos 1 *ℤ pos cd))) *ℤ y) (λ a a' b b'. simp ring (diff_eq _ _ _ _ (omega arith)))

    apart : (cd fd d : ℕ) (fn cn y : ℤ) → ((fn *ℤ (pos 1 *ℤ pos cd) +ℤ negsuc 0 *ℤ (cn *ℤ pos fd)) *ℤ pos d) *ℤ y ≡ (fn *ℤ (pos 1 *ℤ pos cd)) *ℤ (pos d *ℤ y) -ℤ pos fd *ℤ (cn *ℤ (pos d *ℤ y))
    apart cd fd d fn cn y =
        let m : negsuc 0 *ℤ (cn *ℤ pos fd) ≡ neg_ℤ (cn *ℤ pos fd) = omega (arith, ints) in
        let k : (fn *ℤ (pos 1 *ℤ pos cd) +ℤ neg_ℤ (cn *ℤ pos fd)) *ℤ (pos d *ℤ y) ≡ (fn *ℤ (pos 1 *ℤ pos cd)) *ℤ (pos d *ℤ y) +ℤ neg_ℤ (cn *ℤ pos fd) *ℤ (pos d *ℤ y) = add-mul_right (fn *ℤ (pos 1 *ℤ pos cd)) (neg_ℤ (cn *ℤ pos fd)) (pos d *ℤ y) in
        let n : neg_ℤ (cn *ℤ pos fd) *ℤ (pos d *ℤ y) ≡ neg_ℤ (pos fd *ℤ (cn *ℤ (pos d *ℤ y))) = neg-times (cn *ℤ pos fd) (pos d *ℤ y) ∙ ap neg_ℤ (ap (λ (z : ℤ). z *ℤ (pos d *ℤ y)) (*ℤ_comm cn (pos fd)) ∙ mul_assoc_ℤ (pos fd) cn (pos d *ℤ y)) in
        mul_assoc_ℤ (fn *ℤ (pos 1 *ℤ pos cd) +ℤ negsuc 0 *ℤ (cn *ℤ pos fd)) (pos d) y ∙ ap (λ (z : ℤ). (fn *ℤ (pos 1 *ℤ pos cd) +ℤ z) *ℤ (pos d *ℤ y)) m ∙ k ∙ omega (arith, ints, n)

-- d*(u - o) - e*y, where the over mark takes e*y more
over-gap : (d : ℕ) (e u o a x z w : ℤ) → x ≡ pos d *ℤ u → z ≡ pos d *ℤ o +ℤ e → w ≡ pos d *ℤ a → (x -ℤ z) +ℤ w ≡ pos d *ℤ ((u -ℤ o) +ℤ a) -ℤ e
over-gap d e u o a x z w f g h = omega (arith, ints, f, g, h, mul-add_left (pos d) (u -ℤ o) a, mul-sub_left (pos d) u o)

small-row : (p : Problem) (id : ℕ) → IsWhole p → Named (Held id) (lines p) → IsSmall (Held id)
small-row p id whole named = at-name IsSmall (Held id) (lines p) named (all-small p whole)

raised-form : (d : ℕ) (e : ℤ) (id : ℕ) (y : ℕ → ℤ) (form : List Term) → IsSmall (Held id) → value_at (λ a. raised d e (place_of (Held id) Over) y (attr_column a)) form ≡ pos d *ℤ value_at (λ a. y (attr_column a)) form
raised-form d e id y form small =
    sum-each (λ (t : Term). t.by *ℤ raised d e (place_of (Held id) Over) y (attr_column t.attr)) (λ t. t.by *ℤ (pos d *ℤ y (attr_column t.attr))) form (each form)
    ∙ value-scaled (pos d) (λ a. y (attr_column a)) form
  where
    each : (form : List Term) → Each (λ (t : Term). t.by *ℤ raised d e (place_of (Held id) Over) y (attr_column t.attr) ≡ t.by *ℤ (pos d *ℤ y (attr_column t.attr))) form
    each [] = tt
    each (t ∷ form) = (ap (λ (z : ℤ). t.by *ℤ z) (raised-other d e (place_of (Held id) Over) y (attr_column t.attr) (λ q. absurd (omega (arith, small, q)))), each form)

-- a solution with the new constant gives one with the old constant
pub unshift-solves : (p : Problem) (id : ℕ) (c f more : Fraction) (y : ℕ → ℤ) → IsSmall (Held id) → IsShift p id c f more → All (λ l. value_at y (equation l) ≡ pos 0) (lines (with_constant id f p)) → All (λ l. value_at (raised more.den (more.num *ℤ y one_column) (place_of (Held id) Over) y) (equation l) ≡ pos 0) (lines p)
unshift-solves p id c f more y small s h =
    All-from_recursion (λ l. value_at (raised more.den (more.num *ℤ y one_column) (place_of (Held id) Over) y) (equation l) ≡ pos 0) (lines p)
    (rows-back (λ l. value_at y (equation l) ≡ pos 0) (λ l. value_at (raised more.den (more.num *ℤ y one_column) (place_of (Held id) Over) y) (equation l) ≡ pos 0) id c f p.rows (stay_lines 1001 p.stays)
    (λ r n k. other (line_of_row r) (λ e. n (held-same r.id id e)) k)
    own
    (λ k. stays 1001 p.stays k)
    (recursion_from_All (λ r. r.id ≡ id → r.constant ≡ c) p.rows s.constant) (recursion_from_All (λ l. value_at y (equation l) ≡ pos 0) (lines (with_constant id f p)) h))
  where
    other : (l : Line) → l.name ≢ Held id → value_at y (equation l) ≡ pos 0 → value_at (raised more.den (more.num *ℤ y one_column) (place_of (Held id) Over) y) (equation l) ≡ pos 0
    other l ne k =
        raised-value more.den (more.num *ℤ y one_column) (place_of (Held id) Over) y (equation l) ∙ no-more (pos more.den *ℤ value_at y (equation l)) (more.num *ℤ y one_column) (coefficient (place_of (Held id) Over) (equation l)) (over-none id l small ne)
        ∙ ap (λ (z : ℤ). pos more.den *ℤ z) k ∙ mul-zero_ℤ (pos more.den)

    stays : (level : ℕ) (ss : List Stay) → Each (λ l. value_at y (equation l) ≡ pos 0) (stay_lines level ss) → Each (λ l. value_at (raised more.den (more.num *ℤ y one_column) (place_of (Held id) Over) y) (equation l) ≡ pos 0) (stay_lines level ss)
    stays level [] k = tt
    stays level (t ∷ ss) k = (other (line_of_stay level t) (stay-not-held t.attr id) k.0, stays (level + 1) ss k.1)

    at-id : (r : Row) → r.id ≡ id → r.constant ≡ c → value_at y (equation (line_of_row (changed f r))) ≡ pos 0 → pos r.constant.den *ℤ ((raised more.den (more.num *ℤ y one_column) (place_of (Held r.id) Over) y (place_of (Held r.id) Under) -ℤ raised more.den (more.num *ℤ y one_column) (place_of (Held r.id) Over) y (place_of (Held r.id) Over)) +ℤ form_value (raised more.den (more.num *ℤ y one_column) (place_of (Held r.id) Over) y) (line_of_row r)) ≡ r.constant.num *ℤ raised more.den (more.num *ℤ y one_column) (place_of (Held r.id) Over) y one_column
    at-id r e q k =
        let tiny : IsSmall (Held r.id) = subst (λ (n : ℕ). IsSmall (Held n)) (sym e) small in
        let gap : ℤ = (y (place_of (Held r.id) Under) -ℤ y (place_of (Held r.id) Over)) +ℤ form_value y (line_of_row r) in
        subst (λ (k : Fraction). pos k.den *ℤ ((raised more.den (more.num *ℤ y one_column) (place_of (Held r.id) Over) y (place_of (Held r.id) Under) -ℤ raised more.den (more.num *ℤ y one_column) (place_of (Held r.id) Over) y (place_of (Held r.id) Over)) +ℤ form_value (raised more.den (more.num *ℤ y one_column) (place_of (Held r.id) Over) y) (line_of_row r)) ≡ k.num *ℤ raised more.den (more.num *ℤ y one_column) (place_of (Held r.id) Over) y one_column) (sym q)
        (ap (λ (z : ℤ). pos c.den *ℤ z)
        (over-gap more.den (more.num *ℤ y one_column) (y (place_of (Held r.id) Under)) (y (place_of (Held r.id) Over)) (form_value y (line_of_row r)) (raised more.den (more.num *ℤ y one_column) (place_of (Held r.id) Over) y (place_of (Held r.id) Under)) (raised more.den (more.num *ℤ y one_column) (place_of (Held r.id) Over) y (place_of (Held r.id) Over)) (form_value (raised more.den (more.num *ℤ y one_column) (place_of (Held r.id) Over) y) (line_of_row r))
        (raised-other more.den (more.num *ℤ y one_column) (place_of (Held r.id) Over) y (place_of (Held r.id) Under) (λ z. sides_apart (Held r.id) (Held r.id) (sym z)))
        (raised-here more.den (more.num *ℤ y one_column) (place_of (Held r.id) Over) y)
        (raised-form more.den (more.num *ℤ y one_column) r.id y r.terms tiny))
        ∙ shift-parts c.den f.den more.den c.num f.num more.num ((y (place_of (Held r.id) Under) -ℤ y (place_of (Held r.id) Over)) +ℤ form_value y (line_of_row r)) (y one_column) s.to_positive s.difference (row-holds y (changed f r) k)
        ∙ ap (λ (z : ℤ). c.num *ℤ z) (sym (raised-other more.den (more.num *ℤ y one_column) (place_of (Held r.id) Over) y one_column (λ z. absurd (omega (arith, tiny, z))))))

    own : (r : Row) → r.id ≡ id → r.constant ≡ c → value_at y (equation (line_of_row (changed f r))) ≡ pos 0 → value_at (raised more.den (more.num *ℤ y one_column) (place_of (Held id) Over) y) (equation (line_of_row r)) ≡ pos 0
    own r e q k =
        subst (λ (n : ℕ). value_at (raised more.den (more.num *ℤ y one_column) (place_of (Held n) Over) y) (equation (line_of_row r)) ≡ pos 0) e
        (row-solves (raised more.den (more.num *ℤ y one_column) (place_of (Held r.id) Over) y) r (at-id r e q k))

-- ---- equations

pub held-named : (p : Problem) (id : ℕ) → Any (λ r. r.id ≡ id) p.rows → Named (Held id) (lines p)
held-named p id h = rows p.rows h
  where
    rows : (rows : List Row) → Any (λ r. r.id ≡ id) rows → Named (Held id) (map line_of_row rows ++ stay_lines 1001 p.stays)
    rows [] (k, r, within, is, e) = absurd (omega (arith, within))
    rows (s ∷ rs) (zero, r, within, is, e) = inl (ap (λ (t : Row). Held t.id) is ∙ ap Held e)
    rows (s ∷ rs) (suc k, r, within, is, e) = inr (rows rs (k, r, omega (arith, within), is, e))

pub shift-small : (p : Problem) (id : ℕ) (c f more : Fraction) → IsWhole p → IsShift p id c f more → IsSmall (Held id)
shift-small p id c f more whole s = small-row p id whole (held-named p id s.held)

pub raised-deviation : (d : ℕ) (e : ℤ) (id : ℕ) (y : ℕ → ℤ) (name : RowName) → name ≢ Held id → deviation name (raised d e (place_of (Held id) Over) y) ≡ pos d *ℤ deviation name y
raised-deviation d e id y name ne =
    same-deviation d (y (place_of name Over)) (y (place_of name Under)) (raised d e (place_of (Held id) Over) y (place_of name Over)) (raised d e (place_of (Held id) Over) y (place_of name Under))
    (raised-other d e (place_of (Held id) Over) y (place_of name Over) (λ q. ne (same-name name (Held id) Over Over q)))
    (raised-other d e (place_of (Held id) Over) y (place_of name Under) (λ q. sides_apart (Held id) name (sym q)))

pub raised-own : (d : ℕ) (e : ℤ) (id : ℕ) (y : ℕ → ℤ) → deviation (Held id) (raised d e (place_of (Held id) Over) y) ≡ pos d *ℤ deviation (Held id) y +ℤ e
raised-own d e id y =
    parts (y (place_of (Held id) Over)) (y (place_of (Held id) Under)) (raised d e (place_of (Held id) Over) y (place_of (Held id) Over)) (raised d e (place_of (Held id) Over) y (place_of (Held id) Under))
    (raised-here d e (place_of (Held id) Over) y) (raised-other d e (place_of (Held id) Over) y (place_of (Held id) Under) (λ q. sides_apart (Held id) (Held id) (sym q)))
  where
    parts : (o u a b : ℤ) → a ≡ pos d *ℤ o +ℤ e → b ≡ pos d *ℤ u → a -ℤ b ≡ pos d *ℤ (o -ℤ u) +ℤ e
    parts o u a b f g = omega (arith, ints, f, g, mul-sub_left (pos d) o u)

-- the sum at the solution before
pub raised-sum : (p : Problem) (id : ℕ) (d : ℕ) (e : ℤ) (by : RowName → ℤ) (y : ℕ → ℤ) → IsWhole p → Named (Held id) (lines p) → sum_of (λ l. by l.name *ℤ deviation l.name (raised d e (place_of (Held id) Over) y)) (lines p) ≡ pos d *ℤ sum_of (λ l. by l.name *ℤ deviation l.name y) (lines p) +ℤ by (Held id) *ℤ e
raised-sum p id d e by y whole named =
    back (sum_of (λ l. by l.name *ℤ deviation l.name (raised d e (place_of (Held id) Over) y)) (lines p)) (pos d *ℤ sum_of (λ l. by l.name *ℤ deviation l.name y) (lines p)) (by (Held id) *ℤ e)
    (ap (λ (z : ℤ). sum_of (λ l. by l.name *ℤ deviation l.name (raised d e (place_of (Held id) Over) y)) (lines p) +ℤ negsuc 0 *ℤ z) (sym (mul-sum (pos d) (λ l. by l.name *ℤ deviation l.name y) (lines p)))
    ∙ ap (λ (z : ℤ). sum_of (λ l. by l.name *ℤ deviation l.name (raised d e (place_of (Held id) Over) y)) (lines p) +ℤ z) (sym (mul-sum (negsuc 0) (λ l. pos d *ℤ (by l.name *ℤ deviation l.name y)) (lines p)))
    ∙ sym (sum-add (λ l. by l.name *ℤ deviation l.name (raised d e (place_of (Held id) Over) y)) (λ l. negsuc 0 *ℤ (pos d *ℤ (by l.name *ℤ deviation l.name y))) (lines p))
    ∙ single (λ n. by n *ℤ deviation n (raised d e (place_of (Held id) Over) y) +ℤ negsuc 0 *ℤ (pos d *ℤ (by n *ℤ deviation n y))) (Held id) (lines p) (lines_apart p whole) named (others (lines p))
    ∙ here (by (Held id)) (deviation (Held id) (raised d e (place_of (Held id) Over) y)) (deviation (Held id) y) (raised-own d e id y))
  where
    back : (s t k : ℤ) → s +ℤ negsuc 0 *ℤ t ≡ k → s ≡ t +ℤ k
    back s t k h = omega (arith, ints, h)

    none : (b a v : ℤ) → a ≡ pos d *ℤ v → b *ℤ a +ℤ negsuc 0 *ℤ (pos d *ℤ (b *ℤ v)) ≡ pos 0
    none b a v h = let k : b *ℤ a ≡ pos d *ℤ (b *ℤ v) = ap (λ (z : ℤ). b *ℤ z) h ∙ mul_left_comm_ℤ b (pos d) v in omega (arith, ints, k)

    here : (b a v : ℤ) → a ≡ pos d *ℤ v +ℤ e → b *ℤ a +ℤ negsuc 0 *ℤ (pos d *ℤ (b *ℤ v)) ≡ b *ℤ e
    here b a v h = let k : b *ℤ a ≡ pos d *ℤ (b *ℤ v) +ℤ b *ℤ e = ap (λ (z : ℤ). b *ℤ z) h ∙ mul-add_left b (pos d *ℤ v) e ∙ ap (λ (z : ℤ). z +ℤ b *ℤ e) (mul_left_comm_ℤ b (pos d) v) in omega (arith, ints, k)

    others : (ls : List Line) → Each (λ l. l.name ≢ Held id → by l.name *ℤ deviation l.name (raised d e (place_of (Held id) Over) y) +ℤ negsuc 0 *ℤ (pos d *ℤ (by l.name *ℤ deviation l.name y)) ≡ pos 0) ls
    others [] = tt
    others (l ∷ ls) = ((λ ne. none (by l.name) (deviation l.name (raised d e (place_of (Held id) Over) y)) (deviation l.name y) (raised-deviation d e id y l.name ne)), others ls)

-- vd*(d*A - b*w) = own*(vn*(d*y1)), w = e*y1
shifted-value : (vd d den own : ℕ) (A w b vn e num y1 : ℤ) → 0 < vd → 0 < d → pos vd *ℤ (pos d *ℤ A -ℤ b *ℤ w) ≡ pos own *ℤ (vn *ℤ (pos d *ℤ y1)) → w ≡ e *ℤ y1
    → num *ℤ (pos vd *ℤ (pos own *ℤ pos d)) ≡ (vn *ℤ (pos own *ℤ pos d) +ℤ b *ℤ (e *ℤ pos vd)) *ℤ pos den → pos den *ℤ A ≡ pos own *ℤ (num *ℤ y1)
shifted-value vd d den own A w b vn e num y1 va da h k r =
    let all : pos den *ℤ (pos 1 *ℤ (pos d *ℤ A -ℤ b *ℤ w) +ℤ b *ℤ w) ≡ pos (1 * own) *ℤ (num *ℤ (pos d *ℤ y1)) =
    carried-value vd d den 1 own (pos d *ℤ A -ℤ b *ℤ w) w b vn e num (pos d *ℤ y1) va da h
    (ap (λ (z : ℤ). pos d *ℤ z) k ∙ mul_left_comm_ℤ (pos d) e y1 ∙ (let o : e *ℤ (pos d *ℤ y1) ≡ pos 1 *ℤ (e *ℤ (pos d *ℤ y1)) = omega (arith, ints) in o)) r in
    let inner : pos 1 *ℤ (pos d *ℤ A -ℤ b *ℤ w) +ℤ b *ℤ w ≡ pos d *ℤ A = omega (arith, ints) in
    cancel_mul d (pos den *ℤ A) (pos own *ℤ (num *ℤ y1)) da
    (mul_left_comm_ℤ (pos d) (pos den) A ∙ ap (λ (z : ℤ). pos den *ℤ z) (sym inner) ∙ all ∙ ap (λ (n : ℕ). pos n *ℤ (num *ℤ (pos d *ℤ y1))) (let o : 1 * own ≡ own = omega arith in o)
    ∙ ap (λ (z : ℤ). pos own *ℤ z) (mul_left_comm_ℤ num (pos d) y1) ∙ mul_left_comm_ℤ (pos own) (pos d) (num *ℤ y1))

unfoldable pub unshifted : (id : ℕ) → IsSmall (Held id) → (d : ℕ) → 0 < d → ℤ → Point → Point
unshifted id small d above e y = record {
  num = raised d (e *ℤ y.num one_column) (place_of (Held id) Over) y.num;
  positive = subst (λ (z : ℤ). pos 0 <ℤ z) (sym (raised-other d (e *ℤ y.num one_column) (place_of (Held id) Over) y.num one_column (λ z. absurd (omega (arith, small, z))))) (mul_positive d (y.num one_column) above y.positive);
}

shift-holds : (p : Problem) (at : List Mark) (id : ℕ) (c f more : Fraction) (quantity : (ℕ → ℤ) → ℤ) (own : ℕ) (by : RowName → ℤ) (num : ℤ) (den : ℕ) → IsWhole p → (small : IsSmall (Held id)) (s : IsShift p id c f more) → IsLineEquation p at quantity own by num den → (y : Point) → Solves (with_constant id f p) y
    → pos den *ℤ (pos own *ℤ quantity (raised more.den (more.num *ℤ y.num one_column) (place_of (Held id) Over) y.num) -ℤ (pos more.den *ℤ sum_of (λ l. by l.name *ℤ deviation l.name y.num) (lines (with_constant id f p)) +ℤ by (Held id) *ℤ (more.num *ℤ y.num one_column))) ≡ pos own *ℤ (num *ℤ (pos more.den *ℤ y.num one_column))
unfolding unshifted
shift-holds p at id c f more quantity own by num den whole small s e y solves =
    ap (λ (z : ℤ). pos den *ℤ (pos own *ℤ quantity (raised more.den (more.num *ℤ y.num one_column) (place_of (Held id) Over) y.num) -ℤ (pos more.den *ℤ z +ℤ by (Held id) *ℤ (more.num *ℤ y.num one_column)))) (names-sum (λ n. by n *ℤ deviation n y.num) id f p)
    ∙ ap (λ (z : ℤ). pos den *ℤ (pos own *ℤ quantity (raised more.den (more.num *ℤ y.num one_column) (place_of (Held id) Over) y.num) -ℤ z)) (sym (raised-sum p id more.den (more.num *ℤ y.num one_column) by y.num whole (held-named p id s.held)))
    ∙ e.holds (unshifted id small more.den s.more_positive more.num y) (unshift-solves p id c f more y.num small s solves)
    ∙ ap (λ (z : ℤ). pos own *ℤ (num *ℤ z)) (raised-other more.den (more.num *ℤ y.num one_column) (place_of (Held id) Over) y.num one_column (λ z. absurd (omega (arith, small, z))))

other-parts : (d own : ℕ) (q S b w : ℤ) → pos own *ℤ (pos d *ℤ q) -ℤ (pos d *ℤ S +ℤ b *ℤ w) ≡ pos d *ℤ (pos own *ℤ q -ℤ S) -ℤ b *ℤ w
other-parts d own q S b w = omega (arith, ints, mul_left_comm_ℤ (pos own) (pos d) q, mul-sub_left (pos d) (pos own *ℤ q) S)

own-parts : (d own : ℕ) (q S b w : ℤ) → b ≡ pos 0 → pos own *ℤ (pos d *ℤ q +ℤ w) -ℤ (pos d *ℤ S +ℤ b *ℤ w) ≡ pos d *ℤ (pos own *ℤ q -ℤ S) -ℤ (pos own *ℤ negsuc 0) *ℤ w
own-parts d own q S b w e =
    let none : b *ℤ w ≡ pos 0 = ap (λ (z : ℤ). z *ℤ w) e ∙ zero-mul_ℤ w in
    let back : (pos own *ℤ negsuc 0) *ℤ w ≡ neg_ℤ (pos own *ℤ w) = mul_assoc_ℤ (pos own) (negsuc 0) w ∙ ap (λ (z : ℤ). pos own *ℤ z) (let h : negsuc 0 *ℤ w ≡ neg_ℤ w = omega (arith, ints) in h) ∙ *ℤ_comm (pos own) (neg_ℤ w) ∙ neg-times w (pos own) ∙ ap neg_ℤ (*ℤ_comm w (pos own)) in
    omega (arith, ints, none, back, mul-add_left (pos own) (pos d *ℤ q) w, mul_left_comm_ℤ (pos own) (pos d) q, mul-sub_left (pos d) (pos own *ℤ q) S)

-- a quantity in which the row's over mark does not stand
abbrev pub IsStill : ℕ → ((ℕ → ℤ) → ℤ) → Type 0
IsStill id quantity = (d : ℕ) (e : ℤ) (y : ℕ → ℤ) → quantity (raised d e (place_of (Held id) Over) y) ≡ pos d *ℤ quantity y

pub shift_line : (p : Problem) (at : List Mark) (id : ℕ) (c f more : Fraction) (quantity : (ℕ → ℤ) → ℤ) (own : ℕ) (by : RowName → ℤ) (value : Fraction) (num : ℤ) (den : ℕ) → IsWhole p → IsShift p id c f more → IsStill id quantity → IsLineEquation p at quantity own by value.num value.den
    → 0 < den → IsRatio (record { num = num; den = den }) (sum_num value (by (Held id)) (pos own) more) (sum_den value (pos own) more) → IsLineEquation (with_constant id f p) at quantity own by num den
shift_line p at id c f more quantity own by value num den whole s still e above ratio =
    let small = shift-small p id c f more whole s in
    record {
      own_positive = e.own_positive;
      den_positive = above;
      outside = All-from_recursion (λ l. by l.name ≢ pos 0 → IsOutsideLine at l.name) (lines (with_constant id f p)) (names-forward (λ n. by n ≢ pos 0 → IsOutsideLine at n) id f p (recursion_from_All (λ l. by l.name ≢ pos 0 → IsOutsideLine at l.name) (lines p) e.outside));
      holds = λ y solves.
          let S : ℤ = sum_of (λ l. by l.name *ℤ deviation l.name y.num) (lines (with_constant id f p)) in
          let w : ℤ = more.num *ℤ y.num one_column in
          shifted-value value.den more.den den own (pos own *ℤ quantity y.num -ℤ S) w (by (Held id)) value.num more.num num (y.num one_column) e.den_positive s.more_positive
          (ap (λ (z : ℤ). pos value.den *ℤ z)
          (sym (other-parts more.den own (quantity y.num) S (by (Held id)) w) ∙ ap (λ (z : ℤ). pos own *ℤ z -ℤ (pos more.den *ℤ S +ℤ by (Held id) *ℤ w)) (sym (still more.den w y.num)))
          ∙ shift-holds p at id c f more quantity own by value.num value.den whole small s e y solves)
          refl ratio;
      lowest = λ k d all. e.lowest k d (All-from_recursion (λ l. k ∣ unsigned_abs (by l.name)) (lines p) (names-back (λ n. k ∣ unsigned_abs (by n)) id f p (recursion_from_All (λ l. k ∣ unsigned_abs (by l.name)) (lines (with_constant id f p)) all)));
    }

pub shift_own : (p : Problem) (at : List Mark) (id : ℕ) (c f more : Fraction) (own : ℕ) (by : RowName → ℤ) (value : Fraction) (num : ℤ) (den : ℕ) → IsWhole p → IsShift p id c f more → IsLineEquation p at (deviation (Held id)) own by value.num value.den → by (Held id) ≡ pos 0
    → 0 < den → IsRatio (record { num = num; den = den }) (sum_num value (negsuc 0) (pos 1) more) (sum_den value (pos 1) more) → IsLineEquation (with_constant id f p) at (deviation (Held id)) own by num den
shift_own p at id c f more own by value num den whole s e none above ratio =
    let small = shift-small p id c f more whole s in
    record {
      own_positive = e.own_positive;
      den_positive = above;
      outside = All-from_recursion (λ l. by l.name ≢ pos 0 → IsOutsideLine at l.name) (lines (with_constant id f p)) (names-forward (λ n. by n ≢ pos 0 → IsOutsideLine at n) id f p (recursion_from_All (λ l. by l.name ≢ pos 0 → IsOutsideLine at l.name) (lines p) e.outside));
      holds = λ y solves.
          let S : ℤ = sum_of (λ l. by l.name *ℤ deviation l.name y.num) (lines (with_constant id f p)) in
          let w : ℤ = more.num *ℤ y.num one_column in
          shifted-value value.den more.den den own (pos own *ℤ deviation (Held id) y.num -ℤ S) w (pos own *ℤ negsuc 0) value.num more.num num (y.num one_column) e.den_positive s.more_positive
          (ap (λ (z : ℤ). pos value.den *ℤ z)
          (sym (own-parts more.den own (deviation (Held id) y.num) S (by (Held id)) w none) ∙ ap (λ (z : ℤ). pos own *ℤ z -ℤ (pos more.den *ℤ S +ℤ by (Held id) *ℤ w)) (sym (raised-own more.den w id y.num)))
          ∙ shift-holds p at id c f more (deviation (Held id)) own by value.num value.den whole small s e y solves)
          refl (times-own own value.den more.den den value.num (negsuc 0) more.num num ratio);
      lowest = λ k d all. e.lowest k d (All-from_recursion (λ l. k ∣ unsigned_abs (by l.name)) (lines p) (names-back (λ n. k ∣ unsigned_abs (by n)) id f p (recursion_from_All (λ l. k ∣ unsigned_abs (by l.name)) (lines (with_constant id f p)) all)));
    }

-- attributes, and the deviations of other lines
pub attr_still : (id a : ℕ) → IsSmall (Held id) → IsStill id (λ x. x (attr_column a))
attr_still id a small d e y = raised-other d e (place_of (Held id) Over) y (attr_column a) (λ q. absurd (omega (arith, small, q)))

pub deviation_still : (id : ℕ) (name : RowName) → name ≢ Held id → IsStill id (deviation name)
deviation_still id name ne d e y = raised-deviation d e id y name ne

-- ---- rays

-- a direction is one whatever the constant
pub shift_direction : (p : Problem) (id : ℕ) (c f more : Fraction) (n : ℕ → ℤ) → IsShift p id c f more → n one_column ≡ pos 0 → All (λ l. value_at n (equation l) ≡ pos 0) (lines p) → All (λ l. value_at n (equation l) ≡ pos 0) (lines (with_constant id f p))
shift_direction p id c f more n s still h =
    All-from_recursion (λ l. value_at n (equation l) ≡ pos 0) (lines (with_constant id f p))
    (rows-forward (λ l. value_at n (equation l) ≡ pos 0) (λ l. value_at n (equation l) ≡ pos 0) id c f p.rows (stay_lines 1001 p.stays) (λ r ne k. k) own (λ k. k)
    (recursion_from_All (λ r. r.id ≡ id → r.constant ≡ c) p.rows s.constant) (recursion_from_All (λ l. value_at n (equation l) ≡ pos 0) (lines p) h))
  where
    still-gap : (d : ℕ) (k w o : ℤ) → 0 < d → o ≡ pos 0 → pos d *ℤ w ≡ k *ℤ o → w ≡ pos 0
    still-gap d k w o above e h = zero_from_mul d w above (h ∙ ap (λ (z : ℤ). k *ℤ z) e ∙ mul-zero_ℤ k)

    no-gap : (t : ℕ) (k w o : ℤ) → o ≡ pos 0 → w ≡ pos 0 → pos t *ℤ w ≡ k *ℤ o
    no-gap t k w o e f = ap (λ (z : ℤ). pos t *ℤ z) f ∙ mul-zero_ℤ (pos t) ∙ sym (ap (λ (z : ℤ). k *ℤ z) e ∙ mul-zero_ℤ k)

    own : (r : Row) → r.id ≡ id → r.constant ≡ c → value_at n (equation (line_of_row r)) ≡ pos 0 → value_at n (equation (line_of_row (changed f r))) ≡ pos 0
    own r e q k =
        row-solves n (changed f r)
        (no-gap f.den f.num ((n (place_of (Held r.id) Under) -ℤ n (place_of (Held r.id) Over)) +ℤ form_value n (line_of_row r)) (n one_column) still
        (still-gap r.constant.den r.constant.num ((n (place_of (Held r.id) Under) -ℤ n (place_of (Held r.id) Over)) +ℤ form_value n (line_of_row r)) (n one_column) (subst (λ (k : Fraction). 0 < k.den) (sym q) s.from_positive) still (row-holds n r k)))

pub shift_rays : (p : Problem) (at : List Mark) (id : ℕ) (c f more : Fraction) → IsShift p id c f more → HasRays p at → HasRays (with_constant id f p) at
shift_rays p at id c f more s rays v is out =
    let marks : marks_of (lines (with_constant id f p)) ≡ marks_of (lines p) = same-marks id f p in
    let r = rays v (subst (λ (ms : List Mark). Contains (map place ms) v) marks is) out in (
      r.0,
      record {
        holds = shift_direction p id c f more r.0 s r.1.still r.1.holds;
        still = r.1.still;
        here = r.1.here;
        other = subst (λ (ms : List Mark). All (λ mk. (IsIn (place mk) at → ⊥) → place mk ≢ v → r.0 (place mk) ≡ pos 0) ms) (sym marks) r.1.other;
      },
    )
