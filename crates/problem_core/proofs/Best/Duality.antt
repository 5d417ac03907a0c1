-- An assignment with a certificate is best: at each level the scaled cost of any assignment is its slack plus a constant, the slack is lexicographically not negative, and the certified assignment has none.
use Rattle.std.proofs.Common.{◌≡◌, ℕ, zero, suc, ◌+◌, ◌*◌, ◌<◌, Bool, true, false, cond, nat_eq, List, [], ◌∷◌, ℤ, pos, negsuc, ◌+ℤ◌, ◌-ℤ◌, ◌*ℤ◌, ◌≤ℤ◌, ◌<ℤ◌, refl, sym, ap, ◌∙◌, arith, mul-pos, mul-le-mul_left}
use Rattle.std.specs.List.{AllByRecursion as Each}
use Rattle.std.proofs.lemmas.List.Elements.{recursion_from_All}
use borrow.Author.Differences.{ints}
use Rattle.problem_core.specs.declared.parts.Rel.{Rel}
use Rattle.problem_core.specs.declared.parts.Rel.TheVariants.{Eq, Ge, Le}
use Rattle.problem_core.specs.Layout.{Line, Problem, Assignment, IsProblem, IsBest, IsLess, lines, gap, error, error_of, above, below, common, share, cost, sum_of, count_of, coefficient}
use Rattle.problem_core.specs.Certificates.{Multipliers, IsCertificate, IsLexNonnegative, under, over, under_weight, over_weight, weight_at, constant}
use Rattle.frac_core.proofs.Integers.{slack-split, neg-neg, zero-mul_ℤ, zero-add_ℤ, mul-add_left, mul_left_comm_ℤ, zero_from_mul, mul_not_negative, sub-self}
use Rattle.problem_core.proofs.Forms.{gaps-cancel, sum-zero, product-shares, each-impl, each-both}
use Rattle.problem_core.proofs.Corners.Columns.{lex-add, lex-mul_right, lex-sum}

-- what the two sides of a line cost beyond the level's multipliers, over `x.den * common`
abbrev pub slack : Multipliers → List Line → Assignment → Line → ℕ → ℤ
slack m ls x l level = (under m l level *ℤ pos (below (gap x l)) +ℤ over m l level *ℤ pos (above (gap x l))) *ℤ pos (share ls l)

by_sides : (rel : Rel) (w : ℕ) (g : ℤ) → under_weight rel w * below g + over_weight rel w * above g ≡ w * error_of rel g
by_sides Eq w g = omega arith
by_sides Ge w g = omega arith
by_sides Le w g = omega arith

parts : (g : ℤ) → g ≡ pos (above g) -ℤ pos (below g)
parts (pos n) = omega (arith, ints)
parts (negsuc n) = omega (arith, ints)

at_level : (b : Bool) (w e s : ℕ) → cond b (w * e * s) 0 ≡ cond b w 0 * e * s
at_level true w e s = refl
at_level false w e s = omega arith

-- one line's weighted error at a level
line-split : (m : Multipliers) (ls : List Line) (x : Assignment) (l : Line) (level : ℕ) → pos (m.scale level * cond (nat_eq l.level level) (l.weight * error x l * share ls l) 0) ≡ slack m ls x l level -ℤ m.times level l.name *ℤ (pos (share ls l * l.scale) *ℤ gap x l)
line-split m ls x l level =
    ap (λ (t : ℕ). pos (m.scale level * t))
    (at_level (nat_eq l.level level) l.weight (error x l) (share ls l)
    ∙ ap (λ (t : ℕ). t * share ls l) (sym (by_sides l.rel (weight_at l level) (gap x l))))
    ∙ slack-split (m.scale level) (under_weight l.rel (weight_at l level)) (over_weight l.rel (weight_at l level)) l.scale (share ls l) (below (gap x l)) (above (gap x l)) (m.times level l.name)
    ∙ ap (λ (t : ℤ). slack m ls x l level -ℤ m.times level l.name *ℤ (pos (share ls l * l.scale) *ℤ t)) (sym (parts (gap x l)))

step : (d n c : ℕ) (a b s t : ℤ) → pos (d * n) ≡ a -ℤ b → pos (d * c) ≡ s -ℤ t → pos (d * (n + c)) ≡ (a +ℤ s) -ℤ (b +ℤ t)
step d n c a b s t e f = omega (arith, ints, e, f)

-- all lines, of which the costs are summed over xs
lines-split : (m : Multipliers) (ls : List Line) (x : Assignment) (level : ℕ) (xs : List Line) → pos (m.scale level * count_of (λ l. cond (nat_eq l.level level) (l.weight * error x l * share ls l) 0) xs) ≡ sum_of (λ l. slack m ls x l level) xs -ℤ sum_of (λ l. m.times level l.name *ℤ (pos (share ls l * l.scale) *ℤ gap x l)) xs
lines-split m ls x level [] = omega (arith, ints)
lines-split m ls x level (l ∷ xs) =
    let s : Line → ℤ = λ l. slack m ls x l level in
    let t : Line → ℤ = λ l. m.times level l.name *ℤ (pos (share ls l * l.scale) *ℤ gap x l) in
    step (m.scale level) _ _ (s l) (t l) (sum_of s xs) (sum_of t xs) (line-split m ls x l level) (lines-split m ls x level xs)

pub shares : (ls : List Line) → Each (λ l. (0 < l.scale) × (0 < l.den)) ls → Each (λ l. (share ls l * l.scale) * l.den ≡ common ls) ls
shares ls ok =
    each-impl (λ l. share ls l * (l.scale * l.den) ≡ common ls) _ ls (λ l h. omega (arith, h))
    (product-shares (λ l. l.scale * l.den) ls (common ls) 1 (omega arith) (each-impl _ _ ls (λ l h. mul-pos h.0 h.1) ok))

cost-split : (m : Multipliers) (ls : List Line) (x : Assignment) (level : ℕ) → Each (λ l. (0 < l.scale) × (0 < l.den)) ls → ((v : ℕ) → sum_of (λ l. m.times level l.name *ℤ coefficient v l.form) ls ≡ pos 0) → pos (m.scale level * cost ls x level) ≡ sum_of (λ l. slack m ls x l level) ls +ℤ pos x.den *ℤ constant m ls level
cost-split m ls x level ok cancel =
    let split = lines-split m ls x level ls in
    let same = gaps-cancel (λ l. m.times level l.name) (λ l. l.form) (λ l. l.num) (λ l. l.den) (λ l. share ls l * l.scale) (common ls) x.num x.den ls (shares ls ok) cancel in
    split ∙ ap (λ (t : ℤ). sum_of (λ l. slack m ls x l level) ls -ℤ t) same ∙ ap (λ (t : ℤ). sum_of (λ l. slack m ls x l level) ls +ℤ t) (neg-neg _)

-- ---- the slack

unused : (g u o : ℤ) → (g <ℤ pos 0 → u ≡ pos 0) → (pos 0 <ℤ g → o ≡ pos 0) → u *ℤ pos (below g) +ℤ o *ℤ pos (above g) ≡ pos 0
unused (pos zero) u o h k = omega (arith, ints)
unused (pos (suc n)) u o h k = rw (k (omega (arith, ints))) (omega (arith, ints))
unused (negsuc n) u o h k = rw (h (omega (arith, ints))) (omega (arith, ints))

-- the certified assignment has none
no_slack : (m : Multipliers) (ls : List Line) (x : Assignment) (l : Line) (level : ℕ) → (gap x l <ℤ pos 0 → under m l level ≡ pos 0) → (pos 0 <ℤ gap x l → over m l level ≡ pos 0) → slack m ls x l level ≡ pos 0
no_slack m ls x l level u o =
    ap (λ (t : ℤ). t *ℤ pos (share ls l)) (unused (gap x l) (under m l level) (over m l level) u o) ∙ zero-mul_ℤ (pos (share ls l))

slack-IsLexNonnegative : (m : Multipliers) (ls : List Line) (x : Assignment) (l : Line) → IsLexNonnegative (under m l) → IsLexNonnegative (over m l) → IsLexNonnegative (slack m ls x l)
slack-IsLexNonnegative m ls x l u o =
    lex-mul_right (share ls l) _ (lex-add _ _ (lex-mul_right (below (gap x l)) (under m l) u) (lex-mul_right (above (gap x l)) (over m l) o))

-- ---- two assignments

-- d and e are the denominators of x and y, and D is the level's scale
compared : (D cx cy d e : ℕ) (z k : ℤ) → pos (D * cy) ≡ z +ℤ pos e *ℤ k → pos (D * cx) ≡ pos 0 +ℤ pos d *ℤ k → pos d *ℤ z ≡ pos (D * (cy * d)) -ℤ pos (D * (cx * e))
compared D cx cy d e z k f g =
    let a : pos d *ℤ pos (D * cy) ≡ pos d *ℤ (z +ℤ pos e *ℤ k) = ap (λ (t : ℤ). pos d *ℤ t) f in
    let b : pos e *ℤ pos (D * cx) ≡ pos e *ℤ (pos d *ℤ k) = ap (λ (t : ℤ). pos e *ℤ t) (g ∙ zero-add_ℤ (pos d *ℤ k)) in
    omega (arith, ints, a, b, mul-add_left (pos d) z (pos e *ℤ k), mul_left_comm_ℤ (pos d) (pos e) k)

-- where the slack of y isn't negative, y costs no less
no_less : (D cx cy d e : ℕ) (z : ℤ) → 0 < D → pos 0 ≤ℤ z → pos d *ℤ z ≡ pos (D * (cy * d)) -ℤ pos (D * (cx * e)) → cy * d < cx * e → ⊥
no_less D cx cy d e z h k f l = omega (arith, ints, f, mul_not_negative d z k, mul-le-mul_left D l)

beaten : (p : Problem) → IsProblem p → (x : Assignment) (m : Multipliers) → IsCertificate p x m → (y : Assignment) → IsLess p y x → ⊥
beaten p ok x m c y less =
    let ls : List Line = lines p in
    let fine = recursion_from_All _ _ ok in
    let total : ℕ → ℤ = λ k. sum_of (λ l. slack m (lines p) y l k) (lines p) in
    let none : (k : ℕ) → sum_of (λ l. slack m (lines p) x l k) (lines p) ≡ pos 0 = λ k.
    sum-zero (λ l. slack m (lines p) x l k) (lines p)
    (each-impl (λ l. (gap x l <ℤ pos 0 → (j : ℕ) → under m l j ≡ pos 0) × (pos 0 <ℤ gap x l → (j : ℕ) → over m l j ≡ pos 0)) (λ l. slack m (lines p) x l k ≡ pos 0) (lines p) (λ l h. no_slack m (lines p) x l k (λ g. h.0 g k) (λ g. h.1 g k))
    (each-both _ _ (lines p) (recursion_from_All _ _ c.under_used) (recursion_from_All _ _ c.over_used))) in
    let key : (k : ℕ) → pos x.den *ℤ total k ≡ pos (m.scale k * (cost (lines p) y k * x.den)) -ℤ pos (m.scale k * (cost (lines p) x k * y.den)) = λ k.
    compared (m.scale k) (cost (lines p) x k) (cost (lines p) y k) x.den y.den (total k) (constant m (lines p) k)
    (cost-split m (lines p) y k fine (c.cancel k))
    (cost-split m (lines p) x k fine (c.cancel k) ∙ ap (λ (t : ℤ). t +ℤ pos x.den *ℤ constant m (lines p) k) (none k)) in
    let zero : (k : ℕ) → k < less.0 → total k ≡ pos 0 = λ k h.
    zero_from_mul x.den (total k) x.positive
    (key k ∙ ap (λ (t : ℕ). pos (m.scale k * t) -ℤ pos (m.scale k * (cost (lines p) x k * y.den))) (less.1 k h) ∙ sub-self (pos (m.scale k * (cost (lines p) x k * y.den)))) in
    let columns : Each (λ l. IsLexNonnegative (slack m (lines p) y l)) (lines p) =
    each-impl (λ l. IsLexNonnegative (under m l) × IsLexNonnegative (over m l)) _ (lines p) (λ l h. slack-IsLexNonnegative m (lines p) y l h.0 h.1)
    (each-both _ _ (lines p) (recursion_from_All _ _ c.under_columns) (recursion_from_All _ _ c.over_columns)) in
    no_less (m.scale less.0) (cost (lines p) x less.0) (cost (lines p) y less.0) x.den y.den (total less.0) (c.scales less.0)
    (lex-sum (slack m (lines p) y) (lines p) columns less.0 zero) (key less.0) less.2

pub certificate-IsBest : (p : Problem) → IsProblem p → (x : Assignment) (m : Multipliers) → IsCertificate p x m → IsBest p x
certificate-IsBest p ok x m c = (c.required, λ y less. beaten p ok x m c y less)
