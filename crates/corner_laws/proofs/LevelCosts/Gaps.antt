-- What the multipliers of a level say of the cost of a direction.
use Rattle.std.proofs.Common.{◌≡◌, ◌∙◌, ℕ, ◌*◌, ◌/◌, ◌<◌, List, [], ◌∷◌, map, ℤ, pos, ◌+ℤ◌, ◌-ℤ◌, ◌*ℤ◌, neg_ℤ, sym, ap, arith, All, one-mul}
use Rattle.std.specs.List.{AllByRecursion as Each}
use Rattle.std.proofs.lemmas.List.Elements.{recursion_from_All}
use borrow.Author.Differences.{ints}
use Rattle.frac_core.proofs.Integers.{mul_assoc_ℤ, mul_left_comm_ℤ, mul-add_left, add-mul_right, mul-sub_left, mul-zero_ℤ, mul-opposite, zero_from_mul}
use Rattle.problem_core.specs.declared.parts.Side.TheVariants.{Under, Over}
use Rattle.problem_core.specs.declared.parts.Term.{Term}
use Rattle.problem_core.specs.Layout.{Line, Problem, IsProblem, lines, coefficient, sum_of, value_at}
use Rattle.problem_core.specs.Certificates.{Multipliers, under_weight, over_weight, weight_at}
use Rattle.problem_core.specs.Corners.{attr_column, column, equation, one_column, place_of}
use Rattle.problem_core.proofs.Forms.{combination-zero, each-impl, each-both, sum-add, sum-zero, product-shares}
use Rattle.problem_core.specs.Levels.{cost_at, line_cost, scales}
use Rattle.problem_core.proofs.Corners.Ends.{value-columns}
use Rattle.frac_core.proofs.Numbers.{sub-mul_right as sub-mul}

-- ---- a direction: it solves the equations without their constants

abbrev pub deviation : (ℕ → ℤ) → Line → ℤ
deviation n l = n (place_of l.name Under) -ℤ n (place_of l.name Over)

abbrev pub form_value : (ℕ → ℤ) → Line → ℤ
form_value n l = value_at (λ v. n (attr_column v)) l.form

gap-parts : (q u o p w v one : ℤ) → q *ℤ u +ℤ (neg_ℤ q *ℤ o +ℤ (neg_ℤ p *ℤ one +ℤ w)) ≡ pos 0 → w ≡ q *ℤ v → q *ℤ ((u -ℤ o) +ℤ v) ≡ p *ℤ one
gap-parts q u o p w v one e f = omega (arith, ints, e, f, mul-opposite q o, mul-opposite p one, mul-add_left q (u -ℤ o) v, mul-sub_left q u o)

pub line_gap : (n : ℕ → ℤ) (l : Line) → value_at n (equation l) ≡ pos 0 → pos l.den *ℤ (deviation n l +ℤ form_value n l) ≡ l.num *ℤ n one_column
line_gap n l e =
    gap-parts (pos l.den) (n (place_of l.name Under)) (n (place_of l.name Over)) l.num (value_at n (map (λ (e : Term). record { attr = attr_column e.attr; by = pos l.den *ℤ e.by }) l.form)) (form_value n l) (n one_column) e
    (value-columns n (pos l.den) l.form)

pub no_gap : (n : ℕ → ℤ) (l : Line) → 0 < l.den → n one_column ≡ pos 0 → value_at n (equation l) ≡ pos 0 → deviation n l +ℤ form_value n l ≡ pos 0
no_gap n l above still e = zero_from_mul l.den (deviation n l +ℤ form_value n l) above (line_gap n l e ∙ ap (λ (z : ℤ). l.num *ℤ z) still ∙ mul-zero_ℤ l.num)

-- ---- one line

-- what the line's marks move by, times their columns
abbrev pub moved_columns : Multipliers → (ℕ → ℤ) → ℕ → Line → ℤ
moved_columns m n level l = column m Under l level *ℤ n (place_of l.name Under) +ℤ column m Over l level *ℤ n (place_of l.name Over)

columns-split : (d k wu wo : ℕ) (y u o : ℤ) → (pos (d * wu) -ℤ pos k *ℤ y) *ℤ u +ℤ (pos (d * wo) +ℤ pos k *ℤ y) *ℤ o ≡ pos d *ℤ (pos wu *ℤ u +ℤ pos wo *ℤ o) -ℤ pos k *ℤ (y *ℤ (u -ℤ o))
columns-split d k wu wo y u o =
    let a = sub-mul (pos (d * wu)) (pos k *ℤ y) u in
    let b = add-mul_right (pos (d * wo)) (pos k *ℤ y) o in
    let c : pos (d * wu) *ℤ u ≡ pos d *ℤ (pos wu *ℤ u) = mul_assoc_ℤ (pos d) (pos wu) u in
    let e : pos (d * wo) *ℤ o ≡ pos d *ℤ (pos wo *ℤ o) = mul_assoc_ℤ (pos d) (pos wo) o in
    let f = mul_assoc_ℤ (pos k) y u in
    let g = mul_assoc_ℤ (pos k) y o in
    let h = mul-add_left (pos d) (pos wu *ℤ u) (pos wo *ℤ o) in
    let i : pos k *ℤ (y *ℤ (u -ℤ o)) ≡ pos k *ℤ (y *ℤ u) -ℤ pos k *ℤ (y *ℤ o) = ap (λ (z : ℤ). pos k *ℤ z) (mul-sub_left y u o) ∙ mul-sub_left (pos k) (y *ℤ u) (y *ℤ o) in
    omega (arith, ints, a, b, c, e, f, g, h, i)

scaled-split : (q d k whole : ℕ) (c x s : ℤ) → q * k ≡ whole → s ≡ pos d *ℤ c -ℤ pos k *ℤ x → pos q *ℤ s +ℤ pos whole *ℤ x ≡ pos d *ℤ (pos q *ℤ c)
scaled-split q d k whole c x s e h =
    let a : pos q *ℤ s ≡ pos q *ℤ (pos d *ℤ c) -ℤ pos q *ℤ (pos k *ℤ x) = ap (λ (z : ℤ). pos q *ℤ z) h ∙ mul-sub_left (pos q) (pos d *ℤ c) (pos k *ℤ x) in
    let b : pos q *ℤ (pos k *ℤ x) ≡ pos whole *ℤ x = sym (mul_assoc_ℤ (pos q) (pos k) x) ∙ ap (λ (z : ℕ). pos z *ℤ x) e in
    let f = mul_left_comm_ℤ (pos q) (pos d) c in
    omega (arith, ints, a, b, f)

-- ---- all lines

pub sums-split : (m : Multipliers) (n : ℕ → ℤ) (level whole : ℕ) (ls : List Line) → Each (λ l. whole / l.scale * l.scale ≡ whole) ls
    → sum_of (λ l. pos (whole / l.scale) *ℤ moved_columns m n level l) ls +ℤ pos whole *ℤ sum_of (λ l. m.times level l.name *ℤ deviation n l) ls ≡ pos (m.scale level) *ℤ sum_of (λ l. pos (whole / l.scale) *ℤ line_cost level n l) ls
sums-split m n level whole [] h = ap (λ (z : ℤ). pos 0 +ℤ z) (mul-zero_ℤ (pos whole)) ∙ sym (mul-zero_ℤ (pos (m.scale level)))
sums-split m n level whole (l ∷ ls) h =
    let here = scaled-split (whole / l.scale) (m.scale level) l.scale whole (line_cost level n l) (m.times level l.name *ℤ deviation n l) (moved_columns m n level l) h.0
    (columns-split (m.scale level) l.scale (under_weight l.rel (weight_at l level)) (over_weight l.rel (weight_at l level)) (m.times level l.name) (n (place_of l.name Under)) (n (place_of l.name Over))) in
    let rest = sums-split m n level whole ls h.1 in
    let a = mul-add_left (pos whole) (m.times level l.name *ℤ deviation n l) (sum_of (λ l. m.times level l.name *ℤ deviation n l) ls) in
    let b = mul-add_left (pos (m.scale level)) (pos (whole / l.scale) *ℤ line_cost level n l) (sum_of (λ l. pos (whole / l.scale) *ℤ line_cost level n l) ls) in
    omega (arith, ints, here, rest, a, b)

pub shares : (p : Problem) → IsProblem p → Each (λ l. scales p / l.scale * l.scale ≡ scales p) (lines p)
shares p problem = product-shares (λ (l : Line). l.scale) (lines p) (scales p) 1 (sym (one-mul (scales p))) (each-impl (λ l. (0 < l.scale) × (0 < l.den)) (λ l. 0 < l.scale) (lines p) (λ l h. h.0) (recursion_from_All _ (lines p) problem))

-- along a direction the cancelling lines say nothing
no-times : (p : Problem) (m : Multipliers) (n : ℕ → ℤ) (level : ℕ) → IsProblem p → ((v : ℕ) → sum_of (λ l. m.times level l.name *ℤ coefficient v l.form) (lines p) ≡ pos 0) → n one_column ≡ pos 0 → All (λ l. value_at n (equation l) ≡ pos 0) (lines p) → sum_of (λ l. m.times level l.name *ℤ deviation n l) (lines p) ≡ pos 0
no-times p m n level problem cancel still solves =
    let forms : sum_of (λ l. m.times level l.name *ℤ form_value n l) (lines p) ≡ pos 0 = combination-zero (λ v. n (attr_column v)) (λ (l : Line). m.times level l.name) (λ l. l.form) (lines p) cancel in
    let whole : sum_of (λ l. m.times level l.name *ℤ deviation n l) (lines p) +ℤ sum_of (λ l. m.times level l.name *ℤ form_value n l) (lines p) ≡ pos 0 =
    sym (sum-add (λ l. m.times level l.name *ℤ deviation n l) (λ l. m.times level l.name *ℤ form_value n l) (lines p))
    ∙ sum-zero (λ l. m.times level l.name *ℤ deviation n l +ℤ m.times level l.name *ℤ form_value n l) (lines p)
    (each-impl (λ l. ((0 < l.scale) × (0 < l.den)) × (value_at n (equation l) ≡ pos 0)) _ (lines p)
    (λ l h. sym (mul-add_left (m.times level l.name) (deviation n l) (form_value n l)) ∙ ap (λ (z : ℤ). m.times level l.name *ℤ z) (no_gap n l h.0.1 still h.1) ∙ mul-zero_ℤ (m.times level l.name))
    (each-both _ _ (lines p) (recursion_from_All _ (lines p) problem) (recursion_from_All _ (lines p) solves))) in
    omega (arith, ints, whole, forms)

-- the level's cost along a direction is that of the marks that move, by their columns
pub direction_cost : (p : Problem) (m : Multipliers) (n : ℕ → ℤ) (level : ℕ) → IsProblem p → ((v : ℕ) → sum_of (λ l. m.times level l.name *ℤ coefficient v l.form) (lines p) ≡ pos 0) → n one_column ≡ pos 0 → All (λ l. value_at n (equation l) ≡ pos 0) (lines p)
    → pos (m.scale level) *ℤ cost_at p level n ≡ sum_of (λ l. pos (scales p / l.scale) *ℤ moved_columns m n level l) (lines p)
direction_cost p m n level problem cancel still solves =
    let split = sums-split m n level (scales p) (lines p) (shares p problem) in
    let none : pos (scales p) *ℤ sum_of (λ l. m.times level l.name *ℤ deviation n l) (lines p) ≡ pos 0 = ap (λ (z : ℤ). pos (scales p) *ℤ z) (no-times p m n level problem cancel still solves) ∙ mul-zero_ℤ (pos (scales p)) in
    omega (arith, ints, split, none)
