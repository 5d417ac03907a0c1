-- What is best where the stays are left out.
use Rattle.std.proofs.Common.{◌≡◌, inl, inr, ℕ, zero, suc, ◌+◌, ◌*◌, ◌<◌, ◌≤◌, get_or, sym, ap, subst, arith, mul-le-mul_right}
use Rattle.std.proofs.lemmas.Bool.{cases_eq, cases_order}
use Rattle.problem_core.specs.Layout.{Assignment, IsBest, Problem, Satisfies, cost, error, line_of_row, lines}
use Rattle.problem_core.proofs.Best.Midpoints.{cancel}
use Rattle.diagnosis.specs.Ambiguity.{IsLooselyBest}
use Rattle.diagnosis.proofs.Mixes.{cost_mix, line_error_mix, mix}

-- what is best is loosely best
pub best_loosely : (p : Problem) (x : Assignment) → IsBest p x → IsLooselyBest p x
best_loosely p x best = record { satisfies = best.0; least = λ y less. best.1 y (less.0, less.2, less.3) }

-- ---- costs at the priorities

-- c and d are the costs by level, each times the other's denominator
same-up : (c d : ℕ → ℕ) → ((level : ℕ) → level ≤ 1000 → ((k : ℕ) → k < level → c k ≡ d k) → c level < d level → ⊥) → ((level : ℕ) → level ≤ 1000 → ((k : ℕ) → k < level → d k ≡ c k) → d level < c level → ⊥) → (n : ℕ) → n ≤ 1001 → (k : ℕ) → k < n → c k ≡ d k
same-up c d h g zero low k l = absurd (omega (arith, l))
same-up c d h g (suc n) low k l =
    let before : (j : ℕ) → j < n → c j ≡ d j = λ j m. same-up c d h g n (omega (arith, low)) j m in
    let up : n ≤ 1000 = omega (arith, low) in
    elim (cases_eq k n) [
      | inl e ↦ subst (λ (m : ℕ). c m ≡ d m) (sym e) (elim (cases_order (c n) (d n)) [
        | inl f ↦ f
        | inr f ↦ elim f [ inl m ↦ absurd (h n up before m) | inr m ↦ absurd (g n up (λ j q. sym (before j q)) m) ]
      ])
      | inr e ↦ before k (omega (arith, l, e))
    ]

pub same_costs : (p : Problem) (x y : Assignment) → IsLooselyBest p x → IsLooselyBest p y → (k : ℕ) → k ≤ 1000 → cost (lines p) x k * y.den ≡ cost (lines p) y k * x.den
same_costs p x y a b k low =
    same-up (λ i. cost (lines p) x i * y.den) (λ i. cost (lines p) y i * x.den) (λ n up f m. b.least x (n, up, f, m)) (λ n up f m. a.least y (n, up, f, m)) 1001 (omega arith) k (omega (arith, low))

-- what costs no more than a loosely best one costs the same
none-more : (c d : ℕ → ℕ) → ((k : ℕ) → k ≤ 1000 → c k ≤ d k) → ((level : ℕ) → level ≤ 1000 → ((k : ℕ) → k < level → c k ≡ d k) → c level < d level → ⊥) → (k : ℕ) → k ≤ 1000 → c k ≡ d k
none-more c d most h k low =
    same-up c d h (λ level up before less. let m = most level up in absurd (omega (arith, m, less))) 1001 (omega arith) k (omega (arith, low))

turned-cost : (w x z W X Z : ℕ) → 0 < Z → w * Z ≡ z * W → z * X ≡ x * Z → w * X ≡ x * W
turned-cost w x z W X Z above e h =
    cancel Z (w * X) (x * W) above
    (let a : w * Z * X ≡ z * W * X = ap (λ (n : ℕ). n * X) e in
    let b : z * X * W ≡ x * Z * W = ap (λ (n : ℕ). n * W) h in
    omega (arith, a, b))

pub less_from : (a b s : ℕ) → a * s < b * s → a < b
less_from a b s h = elim (cases_order a b) [
  | inl e ↦ absurd (let q : a * s ≡ b * s = ap (λ (n : ℕ). n * s) e in omega (arith, h, q))
  | inr f ↦ elim f [ inl l ↦ l | inr l ↦ absurd (let q : b * s ≤ a * s = mul-le-mul_right s (let m : b ≤ a = omega (arith, l) in m) in omega (arith, h, q)) ]
]

pub less_times : (a b s : ℕ) → 0 < s → a < b → a * s < b * s
less_times a b zero above h = absurd (omega (arith, above))
less_times a b (suc s) above h = let q : (a + 1) * suc s ≤ b * suc s = mul-le-mul_right (suc s) (let m : a + 1 ≤ b = omega (arith, h) in m) in omega (arith, q)

turned-less : (w x z W X Z : ℕ) → 0 < Z → 0 < X → w * Z < z * W → z * X ≡ x * Z → w * X < x * W
turned-less w x z W X Z above up e h =
    less_from (w * X) (x * W) Z
    (let a : w * Z * X < z * W * X = less_times (w * Z) (z * W) X up e in
    let b : z * X * W ≡ x * Z * W = ap (λ (n : ℕ). n * W) h in
    omega (arith, a, b))

-- what costs the same as a loosely best one, and satisfies, is loosely best
pub same_loosely : (p : Problem) (x z : Assignment) → IsLooselyBest p x → Satisfies p z → ((k : ℕ) → k ≤ 1000 → cost (lines p) z k * x.den ≡ cost (lines p) x k * z.den) → IsLooselyBest p z
same_loosely p x z best sat same = record {
  satisfies = sat;
  least = λ w less.
      best.least w (
        less.0,
        less.1,
        λ k before. turned-cost (cost (lines p) w k) (cost (lines p) x k) (cost (lines p) z k) w.den x.den z.den z.positive (less.2 k before) (same k (let up = less.1 in omega (arith, before, up))),
        turned-less (cost (lines p) w less.0) (cost (lines p) x less.0) (cost (lines p) z less.0) w.den x.den z.den z.positive x.positive less.3 (same less.0 less.1),
      );
}

-- ---- between two loosely best ones

mix-most : (a b c e m D E : ℕ) → c * E ≡ e * D → m ≤ a * E * c + b * D * e → m * D ≤ c * ((a + b) * (D * E))
mix-most a b c e m D E same most =
    let all : m * D ≤ (a * E * c + b * D * e) * D = mul-le-mul_right D most in
    let turn : b * D * (c * E) ≡ b * D * (e * D) = ap (λ (n : ℕ). b * D * n) same in
    omega (arith, all, turn)

pub mix_loosely : (p : Problem) (a b : ℕ) (some : 0 < a + b) (x y : Assignment) → IsLooselyBest p x → IsLooselyBest p y → IsLooselyBest p (mix a b some x y)
mix_loosely p a b some x y best also =
    let z : Assignment = mix a b some x y in
    let sat : Satisfies p (mix a b some x y) = λ i r within rank.
    let e : error x (line_of_row (get_or p.rows i r)) ≡ 0 = best.satisfies i r within rank in
    let f : error y (line_of_row (get_or p.rows i r)) ≡ 0 = also.satisfies i r within rank in
    let most = line_error_mix a b some x y (line_of_row (get_or p.rows i r)) in
    let g : a * y.den * error x (line_of_row (get_or p.rows i r)) ≡ a * y.den * 0 = ap (λ (n : ℕ). a * y.den * n) e in
    let h : b * x.den * error y (line_of_row (get_or p.rows i r)) ≡ b * x.den * 0 = ap (λ (n : ℕ). b * x.den * n) f in
    omega (arith, most, g, h) in
    same_loosely p x (mix a b some x y) best sat
    (none-more (λ k. cost (lines p) (mix a b some x y) k * x.den) (λ k. cost (lines p) x k * ((a + b) * (x.den * y.den)))
    (λ k low. mix-most a b (cost (lines p) x k) (cost (lines p) y k) (cost (lines p) (mix a b some x y) k) x.den y.den (same_costs p x y best also k low) (cost_mix (lines p) a b some x y k))
    (λ level up before less. best.least (mix a b some x y) (level, up, before, less)))
