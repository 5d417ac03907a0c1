-- What satisfies, and gives the stays' attributes the values that all that satisfies gives them, is best; so is what costs nothing.
use Rattle.std.proofs.Common.{◌≡◌, ℕ, zero, suc, ◌+◌, ◌-◌, ◌*◌, ◌<◌, ◌≤◌, Bool, true, false, cond, nat_eq, List, [], ◌∷◌, ◌++◌, map, ℤ, pos, negsuc, ◌-ℤ◌, ◌*ℤ◌, refl, sym, ap, ap₂, subst, ◌∙◌, inl, inr, arith, mul-pos, eq-eqb, ne_eqb, zero-mul}
use Rattle.std.specs.List.{AllByRecursion as Each, All}
use Rattle.std.proofs.lemmas.List.Elements.{recursion_from_All, All-from_recursion}
use Rattle.std.proofs.lemmas.Bool.{cases_eq}
use borrow.Author.Differences.{ints}
use Rattle.problem_core.specs.declared.parts.Stay.{Stay}
use Rattle.problem_core.specs.declared.parts.Term.{Term}
use Rattle.problem_core.specs.declared.parts.Rel.{Rel}
use Rattle.problem_core.specs.declared.parts.Rel.TheVariants.{Eq, Ge, Le}
use Rattle.problem_core.specs.Layout.{Row, Line, Problem, Assignment, IsProblem, IsProper, IsCovered, HasStay, Satisfies, IsBest, IsLess, AreSame, lines, line_of_row, stay_lines, gap, error, error_of, above, below, common, share, cost, count_of, value_at}
use Rattle.frac_core.proofs.Integers.{diff_eq, diff-add, diff-mul, diff-neg, diff-pos, neg-pos, on_3, add-mul_right, mul_assoc_ℤ}
use Rattle.problem_core.proofs.Forms.{each-impl, each-both, each-map, product-positive}
use Rattle.problem_core.proofs.Best.Midpoints.{count-append, none-before}
use Rattle.problem_core.proofs.Best.Targets.{wholes}
use Rattle.frac_core.proofs.Numbers.{factor-zero as no_product}
use Rattle.frac_core.proofs.Gauss.{above_left as left-positive}

ruleset ring = (diff-add, diff-mul, diff-neg, diff-pos, neg-pos)

-- ---- two assignments that agree

abbrev pub AgreeAt : Assignment → Assignment → ℕ → Type 0
AgreeAt x y v = x.num v *ℤ pos y.den ≡ y.num v *ℤ pos x.den

value-agree : (x y : Assignment) (form : List Term) → Each (λ t. AgreeAt x y t.attr) form → value_at x.num form *ℤ pos y.den ≡ value_at y.num form *ℤ pos x.den
value-agree x y [] h = omega (arith, ints)
value-agree x y (t ∷ form) h =
    omega (
      arith,
      ints,
      value-agree x y form h.1,
      ap (λ (z : ℤ). t.by *ℤ z) h.0,
      mul_assoc_ℤ t.by (x.num t.attr) (pos y.den),
      mul_assoc_ℤ t.by (y.num t.attr) (pos x.den),
      add-mul_right (t.by *ℤ x.num t.attr) (value_at x.num form) (pos y.den),
      add-mul_right (t.by *ℤ y.num t.attr) (value_at y.num form) (pos x.den),
    )

gap-scaled : (q d e : ℕ) (v c z : ℤ) → (pos q *ℤ v -ℤ c *ℤ pos d) *ℤ pos e ≡ pos q *ℤ (v *ℤ pos e) -ℤ c *ℤ pos (d * e)
gap-scaled q d e = on_3 (λ v c z. (pos q *ℤ v -ℤ c *ℤ pos d) *ℤ pos e ≡ pos q *ℤ (v *ℤ pos e) -ℤ c *ℤ pos (d * e)) (λ a a' b b' c c'. simp ring (diff_eq _ _ _ _ (omega arith)))

pub gap-agree : (x y : Assignment) (l : Line) → Each (λ t. AgreeAt x y t.attr) l.form → gap x l *ℤ pos y.den ≡ gap y l *ℤ pos x.den
gap-agree x y l h =
    let products : x.den * y.den ≡ y.den * x.den = omega arith in
    gap-scaled l.den x.den y.den (value_at x.num l.form) l.num (pos 0)
    ∙ ap₂ (λ (v : ℤ) (n : ℕ). pos l.den *ℤ v -ℤ l.num *ℤ pos n) (value-agree x y l.form h) products
    ∙ sym (gap-scaled l.den y.den x.den (value_at y.num l.form) l.num (pos 0))

sides-agree : (g h : ℤ) (d e : ℕ) → 0 < d → 0 < e → g *ℤ pos e ≡ h *ℤ pos d → (above g * e ≡ above h * d) × (below g * e ≡ below h * d)
sides-agree (pos a) (pos b) d e k l s = (omega (arith, ints), omega arith)
sides-agree (pos a) (negsuc b) d e k l s = absurd (omega (arith, ints, mul-pos {m = suc b} {n = d} (omega arith) k))
sides-agree (negsuc a) (pos b) d e k l s = absurd (omega (arith, ints, mul-pos {m = suc a} {n = e} (omega arith) l))
sides-agree (negsuc a) (negsuc b) d e k l s = (omega arith, omega (arith, ints))

pub error-agree : (rel : Rel) (g h : ℤ) (d e : ℕ) → 0 < d → 0 < e → g *ℤ pos e ≡ h *ℤ pos d → error_of rel g * e ≡ error_of rel h * d
error-agree Eq g h d e k l s = omega (arith, (sides-agree g h d e k l s).0, (sides-agree g h d e k l s).1)
error-agree Ge g h d e k l s = (sides-agree g h d e k l s).1
error-agree Le g h d e k l s = (sides-agree g h d e k l s).0

pub weighted : (b : Bool) (w g h s d e : ℕ) → g * e ≡ h * d → cond b (w * g * s) 0 * e ≡ cond b (w * h * s) 0 * d
weighted true w g h s d e f = omega (arith, ap (λ (t : ℕ). (w * s) * t) f)
weighted false w g h s d e f = omega arith

-- their costs are equal at each level; the costs are summed over xs
pub cost-agree : (share : Line → ℕ) (xs : List Line) (x y : Assignment) (level : ℕ) → Each (λ l. Each (λ t. AgreeAt x y t.attr) l.form) xs → count_of (λ l. cond (nat_eq l.level level) (l.weight * error x l * share l) 0) xs * y.den ≡ count_of (λ l. cond (nat_eq l.level level) (l.weight * error y l * share l) 0) xs * x.den
cost-agree share [] x y level h = omega arith
cost-agree share (l ∷ xs) x y level h =
    omega (
      arith,
      cost-agree share xs x y level h.1,
      weighted (nat_eq l.level level) l.weight (error x l) (error y l) (share l) x.den y.den (error-agree l.rel (gap x l) (gap y l) x.den y.den x.positive y.positive (gap-agree x y l h.0)),
    )

-- ---- all lines

pub each-lines : (P : Line → Type 0) (rows : List Row) (ys : List Line) → Each (λ r. P (line_of_row r)) rows → Each P ys → Each P (map line_of_row rows ++ ys)
each-lines P [] ys h k = k
each-lines P (r ∷ rows) ys h k = (h.0, each-lines P rows ys h.1 k)

agree-stays : (x y : Assignment) (base : ℕ) (stays : List Stay) → Each (λ s. AgreeAt x y s.attr) stays → Each (λ l. Each (λ t. AgreeAt x y t.attr) l.form) (stay_lines base stays)
agree-stays x y base [] h = tt
agree-stays x y base (s ∷ stays) h = ((h.0, tt), agree-stays x y (base + 1) stays h.1)

agree-held : (x y : Assignment) (stays : List Stay) → All (λ s. AgreeAt x y s.attr) stays → (v : ℕ) → HasStay stays v → AgreeAt x y v
agree-held x y stays same v (k, s, below, is, attr) = subst (AgreeAt x y) (ap (λ (t : Stay). t.attr) is ∙ attr) (same k s below)

pub agree-row : (x y : Assignment) (stays : List Stay) → All (λ s. AgreeAt x y s.attr) stays → (r : Row) → IsCovered stays r → Each (λ t. AgreeAt x y t.attr) r.terms
agree-row x y stays same r covered = each-impl (λ t. HasStay stays t.attr) (λ t. AgreeAt x y t.attr) r.terms (λ t h. agree-held x y stays same t.attr h) (recursion_from_All _ _ covered)

pub agree-lines : (p : Problem) (x y : Assignment) → All (IsCovered p.stays) p.rows → AreSame p x y → Each (λ l. Each (λ t. AgreeAt x y t.attr) l.form) (lines p)
agree-lines p x y covered same =
    each-lines (λ l. Each (λ t. AgreeAt x y t.attr) l.form) p.rows (stay_lines 1001 p.stays)
    (each-impl (IsCovered p.stays) _ p.rows (λ r h. agree-row x y p.stays same r h) (recursion_from_All _ _ covered))
    (agree-stays x y 1001 p.stays (recursion_from_All (λ s. AgreeAt x y s.attr) _ same))

-- ---- the required level

no_error : (w e s : ℕ) → 0 < w → 0 < s → w * e * s ≡ 0 → e ≡ 0
no_error w zero s h k f = refl
no_error w (suc e) s h k f = absurd (omega (arith, mul-pos {m = w * suc e} {n = s} (mul-pos {m = w} {n = suc e} h (omega arith)) k))

sum_parts : (a b : ℕ) → a + b ≡ 0 → (a ≡ 0) × (b ≡ 0)
sum_parts a b h = (omega arith, omega arith)

pub zero-here : (share : Line → ℕ) (y : Assignment) (rows : List Row) (ys : List Line) → Each (λ r. (0 < r.weight) × (0 < share (line_of_row r))) rows → count_of (λ l. cond (nat_eq l.level 0) (l.weight * error y l * share l) 0) (map line_of_row rows ++ ys) ≡ 0 → Each (λ r. r.rank ≡ 1000 → error y (line_of_row r) ≡ 0) rows
zero-here share y [] ys h f = tt
zero-here share y (r ∷ rows) ys h f =
    let both = sum_parts (cond (nat_eq (1000 - r.rank) 0) (r.weight * error y (line_of_row r) * share (line_of_row r)) 0) (count_of (λ l. cond (nat_eq l.level 0) (l.weight * error y l * share l) 0) (map line_of_row rows ++ ys)) f in (
      λ e. no_error r.weight (error y (line_of_row r)) (share (line_of_row r)) h.0.0 h.0.1 (sym (ap (λ (b : Bool). cond b (r.weight * error y (line_of_row r) * share (line_of_row r)) 0) (eq-eqb (1000 - r.rank) 0 (omega arith))) ∙ both.0),
      zero-here share y rows ys h.1 both.1,
    )

no_part : (w e s : ℕ) → e ≡ 0 → w * e * s ≡ 0
no_part w e s h = rw h (omega arith)

required-zero : (share : Line → ℕ) (x : Assignment) (rows : List Row) → Each (λ r. (r.rank ≤ 1000) × (r.rank ≡ 1000 → error x (line_of_row r) ≡ 0)) rows → count_of (λ l. cond (nat_eq l.level 0) (l.weight * error x l * share l) 0) (map line_of_row rows) ≡ 0
required-zero share x [] h = refl
required-zero share x (r ∷ rows) h =
    let rest = required-zero share x rows h.1 in
    elim (cases_eq (1000 - r.rank) 0) [
      | inl e ↦
          let none : r.weight * error x (line_of_row r) * share (line_of_row r) ≡ 0 = no_part r.weight (error x (line_of_row r)) (share (line_of_row r)) (h.0.1 (omega (arith, h.0.0))) in
          omega (arith, rest, ap (λ (b : Bool). cond b (r.weight * error x (line_of_row r) * share (line_of_row r)) 0) (eq-eqb (1000 - r.rank) 0 e), none)
      | inr e ↦ omega (arith, rest, ap (λ (b : Bool). cond b (r.weight * error x (line_of_row r) * share (line_of_row r)) 0) (ne_eqb (1000 - r.rank) 0 e))
    ]

pub satisfied-costs : (p : Problem) (x : Assignment) → All (λ r. r.rank ≤ 1000) p.rows → Satisfies p x → cost (lines p) x 0 ≡ 0
satisfied-costs p x ranks sat =
    let h : Line → ℕ = λ l. l.weight * error x l * share (lines p) l in
    count-append _ (map line_of_row p.rows) (stay_lines 1001 p.stays)
    ∙ ap₂ ◌+◌ (required-zero (share (lines p)) x p.rows (each-both _ _ p.rows (recursion_from_All _ _ ranks) (recursion_from_All _ _ sat))) (none-before 0 1001 h p.stays (omega arith))

pub positive-shares : (p : Problem) → IsProblem p → Each (λ l. 0 < share (lines p) l) (lines p)
positive-shares p ok =
    let fine = recursion_from_All (λ l. (0 < l.scale) × (0 < l.den)) _ ok in
    let all : 0 < common (lines p) = product-positive (λ l. l.scale * l.den) (lines p) (each-impl (λ l. (0 < l.scale) × (0 < l.den)) _ (lines p) (λ l h. mul-pos h.0 h.1) fine) in
    each-impl (λ l. share (lines p) l * (l.scale * l.den) ≡ common (lines p)) _ (lines p) (λ l h. left-positive (share (lines p) l) (l.scale * l.den) (common (lines p)) h all) (wholes (lines p) fine)

costless-satisfied : (p : Problem) → IsProper p → (y : Assignment) → cost (lines p) y 0 ≡ 0 → Satisfies p y
costless-satisfied p ok y none =
    All-from_recursion (λ r. r.rank ≡ 1000 → error y (line_of_row r) ≡ 0) p.rows
    (zero-here (share (lines p)) y p.rows (stay_lines 1001 p.stays)
    (each-both _ _ p.rows (recursion_from_All _ _ ok.weights) (each-map (λ l. 0 < share (lines p) l) line_of_row p.rows (stay_lines 1001 p.stays) (positive-shares p ok.problem))) none)

-- ---- best

agreed-beaten : (p : Problem) → IsProper p → (x : Assignment) → Satisfies p x → ((y : Assignment) → Satisfies p y → AreSame p x y) → (y : Assignment) → IsLess p y x → ⊥
agreed-beaten p ok x sat agree y (level, before, less) =
    elim (cases_eq level 0) [
      | inl e ↦
          let none : cost (lines p) x level ≡ 0 = rw e (satisfied-costs p x ok.ranks sat) in
          omega (arith, less, ap (λ (t : ℕ). t * y.den) none)
      | inr e ↦
          let none : cost (lines p) y 0 ≡ 0 = no_product (cost (lines p) y 0) x.den x.positive (before 0 (omega (arith, e)) ∙ ap (λ (t : ℕ). t * y.den) (satisfied-costs p x ok.ranks sat) ∙ zero-mul y.den) in
          let equal : cost (lines p) x level * y.den ≡ cost (lines p) y level * x.den =
          cost-agree (share (lines p)) (lines p) x y level (agree-lines p x y ok.covered (agree y (costless-satisfied p ok y none))) in
          omega (arith, less, equal)
    ]

pub agreed-IsBest : (p : Problem) → IsProper p → (x : Assignment) → Satisfies p x → ((y : Assignment) → Satisfies p y → AreSame p x y) → IsBest p x
agreed-IsBest p ok x sat agree = (sat, agreed-beaten p ok x sat agree)

pub costless-IsBest : (p : Problem) (x : Assignment) → Satisfies p x → ((level : ℕ) → cost (lines p) x level ≡ 0) → IsBest p x
costless-IsBest p x sat none = (sat, λ y less. omega (arith, less.2, ap (λ (t : ℕ). t * y.den) (none less.0)))

pub weightless : (b : Bool) (w e s : ℕ) → e ≡ 0 → cond b (w * e * s) 0 ≡ 0
weightless true w e s h = no_part w e s h
weightless false w e s h = refl

no_errors : (share : Line → ℕ) (x : Assignment) (level : ℕ) (xs : List Line) → Each (λ l. error x l ≡ 0) xs → count_of (λ l. cond (nat_eq l.level level) (l.weight * error x l * share l) 0) xs ≡ 0
no_errors share x level [] h = refl
no_errors share x level (l ∷ xs) h =
    omega (arith, no_errors share x level xs h.1, weightless (nat_eq l.level level) l.weight (error x l) (share l) h.0)

pub errorless-IsBest : (p : Problem) (x : Assignment) → All (λ l. error x l ≡ 0) (lines p) → IsBest p x
errorless-IsBest p x none =
    let each = recursion_from_All (λ l. error x l ≡ 0) _ none in
    costless-IsBest p x
    (All-from_recursion (λ r. r.rank ≡ 1000 → error x (line_of_row r) ≡ 0) p.rows (each-impl (λ r. error x (line_of_row r) ≡ 0) _ p.rows (λ r h e. h) (each-map (λ l. error x l ≡ 0) line_of_row p.rows (stay_lines 1001 p.stays) each)))
    (λ level. no_errors (share (lines p)) x level (lines p) each)
