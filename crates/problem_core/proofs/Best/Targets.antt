-- What is best stays best when the stays' targets become its values: the stays cost nothing then, and the rows' costs keep their order.
use Rattle.std.proofs.Common.{◌≡◌, ℕ, ◌+◌, ◌*◌, ◌<◌, Bool, true, false, cond, nat_eq, List, [], ◌∷◌, map, ℤ, pos, refl, sym, ap, ap₂, subst, ◌∙◌, inl, inr, arith, mul-pos, mul-le-mul_right}
use Rattle.std.specs.List.{AllByRecursion as Each}
use Rattle.std.proofs.lemmas.List.Elements.{recursion_from_All}
use Rattle.std.proofs.lemmas.Bool.{cases_lt}
use Rattle.problem_core.specs.declared.parts.Stay.{Stay}
use Rattle.problem_core.specs.Layout.{Row, Line, Problem, Assignment, IsProblem, IsBest, IsLess, StandAt, lines, line_of_row, line_of_stay, stay_lines, gap, error, above, below, common, share, cost, count_of}
use Rattle.problem_core.proofs.Forms.{each-impl, each-both, product-shares, product-positive}
use Rattle.problem_core.proofs.Best.Midpoints.{none-at, none-before, count-append, cancel}
use Rattle.frac_core.proofs.Lists.{each-left}

pub wholes : (ls : List Line) → Each (λ l. (0 < l.scale) × (0 < l.den)) ls → Each (λ l. share ls l * (l.scale * l.den) ≡ common ls) ls
wholes ls ok = product-shares (λ l. l.scale * l.den) ls (common ls) 1 (omega arith) (each-impl _ (λ l. 0 < l.scale * l.den) ls (λ l h. mul-pos h.0 h.1) ok)

pub cross-shares : (s t d c e : ℕ) → s * d ≡ c → t * d ≡ e → t * c ≡ s * e
cross-shares s t d c e f g = omega (arith, ap (λ (v : ℕ). t * v) f, ap (λ (v : ℕ). s * v) g)

one : (b : Bool) (w f g c e : ℕ) → f * c ≡ g * e → cond b (w * f) 0 * c ≡ cond b (w * g) 0 * e
one true w f g c e h = omega (arith, ap (λ (t : ℕ). w * t) h)
one false w f g c e h = omega arith

-- costs with other shares are in proportion
pub in_proportion : (xs : List Line) (x : Assignment) (level : ℕ) (f g : Line → ℕ) (c e : ℕ) → Each (λ l. f l * c ≡ g l * e) xs → count_of (λ l. cond (nat_eq l.level level) (l.weight * error x l * f l) 0) xs * c ≡ count_of (λ l. cond (nat_eq l.level level) (l.weight * error x l * g l) 0) xs * e
in_proportion [] x level f g c e h = omega arith
in_proportion (l ∷ xs) x level f g c e h =
    omega (arith, in_proportion xs x level f g c e h.1, one (nat_eq l.level level) (l.weight * error x l) (f l) (g l) c e h.0)

-- the part of the rows
rows_cost : (p : Problem) (x : Assignment) (level : ℕ) → level < 1001 → cost (lines p) x level ≡ count_of (λ l. cond (nat_eq l.level level) (l.weight * error x l * share (lines p) l) 0) (map line_of_row p.rows)
rows_cost p x level h =
    count-append _ (map line_of_row p.rows) (stay_lines 1001 p.stays)
    ∙ ap (λ (t : ℕ). count_of (λ l. cond (nat_eq l.level level) (l.weight * error x l * share (lines p) l) 0) (map line_of_row p.rows) + t) (none-before level 1001 (λ l. l.weight * error x l * share (lines p) l) p.stays h)
    ∙ (omega arith)

nothing : (b : Bool) (e s : ℕ) → e ≡ 0 → cond b (1 * e * s) 0 ≡ 0
nothing true e s h = rw h (omega arith)
nothing false e s h = refl

-- the stays cost nothing
stays_cost : (x : Assignment) (level base : ℕ) (s : Line → ℕ) (stays : List Stay) → Each (λ s. gap x (line_of_stay 0 s) ≡ pos 0) stays → count_of (λ l. cond (nat_eq l.level level) (l.weight * error x l * s l) 0) (stay_lines base stays) ≡ 0
stays_cost x level base s [] h = refl
stays_cost x level base s (t ∷ stays) h =
    let none : error x (line_of_stay base t) ≡ 0 = ap (λ (g : ℤ). above g + below g) h.0 in
    omega (arith, stays_cost x level (base + 1) s stays h.1, nothing (nat_eq base level) (error x (line_of_stay base t)) (s (line_of_stay base t)) none)

proportion : (p q : Problem) → IsProblem p → IsProblem q → p.rows ≡ q.rows → (z : Assignment) (k : ℕ) → k < 1001 → cost (lines q) z k * common (lines p) ≡ cost (lines p) z k * common (lines q)
proportion p q okp okq e z k h =
    let wp : Each (λ l. share (lines p) l * (l.scale * l.den) ≡ common (lines p)) (map line_of_row p.rows) = each-left _ (map line_of_row p.rows) (stay_lines 1001 p.stays) (wholes (lines p) (recursion_from_All _ _ okp)) in
    let wq : Each (λ l. share (lines q) l * (l.scale * l.den) ≡ common (lines q)) (map line_of_row q.rows) = each-left _ (map line_of_row q.rows) (stay_lines 1001 q.stays) (wholes (lines q) (recursion_from_All _ _ okq)) in
    let wq2 : Each (λ l. share (lines q) l * (l.scale * l.den) ≡ common (lines q)) (map line_of_row p.rows) = subst (λ (rows : List Row). Each (λ l. share (lines q) l * (l.scale * l.den) ≡ common (lines q)) (map line_of_row rows)) (sym e) wq in
    let rows : cost (lines q) z k ≡ count_of (λ l. cond (nat_eq l.level k) (l.weight * error z l * share (lines q) l) 0) (map line_of_row p.rows) =
    rows_cost q z k h ∙ ap (λ (rows : List Row). count_of (λ l. cond (nat_eq l.level k) (l.weight * error z l * share (lines q) l) 0) (map line_of_row rows)) (sym e) in
    ap (λ (t : ℕ). t * common (lines p)) rows
    ∙ in_proportion (map line_of_row p.rows) z k (share (lines q)) (share (lines p)) (common (lines p)) (common (lines q))
    (each-impl (λ l. (share (lines p) l * (l.scale * l.den) ≡ common (lines p)) × (share (lines q) l * (l.scale * l.den) ≡ common (lines q))) _ (map line_of_row p.rows)
    (λ l h. cross-shares (share (lines p) l) (share (lines q) l) (l.scale * l.den) (common (lines p)) (common (lines q)) h.0 h.1) (each-both _ _ (map line_of_row p.rows) wp wq2))
    ∙ ap (λ (t : ℕ). t * common (lines q)) (sym (rows_cost p z k h))

pub some : (p : Problem) → IsProblem p → 0 < common (lines p)
some p ok = product-positive (λ l. l.scale * l.den) (lines p) (each-impl (λ l. (0 < l.scale) × (0 < l.den)) _ (lines p) (λ l h. mul-pos h.0 h.1) (recursion_from_All _ _ ok))

still_below : (c e a b f g d n : ℕ) → 0 < c → f * c ≡ a * e → g * c ≡ b * e → f * d < g * n → a * d < b * n
still_below c e a b f g d n h p q l =
    elim (cases_lt (a * d) (b * n)) [
      | inl k ↦ k
      | inr k ↦ absurd (omega (arith, mul-le-mul_right e k, mul-le-mul_right c l, ap (λ (t : ℕ). t * d) p, ap (λ (t : ℕ). t * n) q))
    ]

beaten : (p : Problem) → IsProblem p → (x : Assignment) → IsBest p x → (q : Problem) → p.rows ≡ q.rows → StandAt x q.stays → IsProblem q → (y : Assignment) → IsLess q y x → ⊥
beaten p ok x b q e at ok2 y less =
    elim (cases_lt less.0 1001) [
      | inl h ↦
          b.1 y (
            less.0,
            λ k l.
                let m : k < 1001 = omega (arith, l, h) in
                cancel (common (lines q)) (cost (lines p) y k * x.den) (cost (lines p) x k * y.den) (some q ok2)
                (omega (arith, ap (λ (t : ℕ). t * x.den) (proportion p q ok ok2 e y k m), ap (λ (t : ℕ). t * y.den) (proportion p q ok ok2 e x k m), ap (λ (t : ℕ). t * common (lines p)) (less.1 k l))),
            still_below (common (lines p)) (common (lines q)) (cost (lines p) y less.0) (cost (lines p) x less.0) (cost (lines q) y less.0) (cost (lines q) x less.0) x.den y.den (some p ok)
                (proportion p q ok ok2 e y less.0 h) (proportion p q ok ok2 e x less.0 h) less.2,
          )
      | inr h ↦
          let zero : cost (lines q) x less.0 ≡ 0 + 0 =
          count-append _ (map line_of_row q.rows) (stay_lines 1001 q.stays)
          ∙ ap₂ ◌+◌ (none-at less.0 (λ l. l.weight * error x l * share (lines q) l) q.rows (omega (arith, h))) (stays_cost x less.0 1001 (share (lines q)) q.stays (recursion_from_All _ _ at)) in
          omega (arith, less.2, ap (λ (t : ℕ). t * y.den) zero)
    ]

pub still-IsBest : (p : Problem) → IsProblem p → (x : Assignment) → IsBest p x → (stays : List Stay) → StandAt x stays → IsProblem (record { rows = p.rows; stays = stays }) → IsBest (record { rows = p.rows; stays = stays }) x
still-IsBest p ok x b stays at ok2 = (b.0, λ y less. beaten p ok x b (record { rows = p.rows; stays = stays }) refl at ok2 y less)
