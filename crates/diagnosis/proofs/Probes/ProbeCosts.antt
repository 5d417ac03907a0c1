-- What a problem costs with one more row of rank 0.
use Rattle.std.proofs.Common.{◌≡◌, ◌∙◌, inl, inr, ℕ, ◌+◌, ◌-◌, ◌*◌, ◌<◌, ◌≤◌, Bool, true, false, cond, nat_eq, List, [], ◌∷◌, ◌++◌, map, refl, sym, ap, ap₂, subst, arith, All, one-mul, ne_eqb}
use Rattle.std.specs.List.{AllByRecursion as Each}
use Rattle.std.proofs.lemmas.Bool.{cases_lt}
use Rattle.std.proofs.lemmas.List.Elements.{All-from_recursion, recursion_from_All}
use Rattle.problem_core.specs.declared.parts.Stay.{Stay}
use Rattle.problem_core.specs.Layout.{Assignment, IsBest, IsProblem, Line, Problem, Row, common, cost, count_of, error, line_of_row, lines, share, stay_lines}
use Rattle.problem_core.proofs.Forms.{each-both, each-impl, product-shares}
use Rattle.problem_core.proofs.Best.Midpoints.{cancel, count-append, none-before}
use Rattle.diagnosis.specs.Ambiguity.{IsLooselyBest}
use Rattle.diagnosis.proofs.Loosely.{less_from, less_times, same_costs}
use Rattle.certificates.proofs.ErrorFacts.{counts-alike}
use Rattle.corner_view.proofs.Facts.{made_problem}
use Rattle.problem_core.proofs.Best.Targets.{some as common_above}
use Rattle.frac_core.proofs.Gauss.{above_left as left-positive}
use Rattle.frac_core.proofs.Numbers.{product-above as product-up}

line-products : (p : Problem) → IsProblem p → Each (λ l. 0 < l.scale * l.den) (lines p)
line-products p problem = each-impl (λ l. (0 < l.scale) × (0 < l.den)) (λ l. 0 < l.scale * l.den) (lines p) (λ l h. product-up l.scale l.den h.0 h.1) (recursion_from_All _ (lines p) problem)

line-shares : (p : Problem) → IsProblem p → Each (λ l. share (lines p) l * (l.scale * l.den) ≡ common (lines p)) (lines p)
line-shares p problem = product-shares (λ (l : Line). l.scale * l.den) (lines p) (common (lines p)) 1 (sym (one-mul (common (lines p)))) (line-products p problem)

-- ---- the two problems

abbrev pub probed : List Row → Row → List Stay → Problem
probed rows r stays = record { rows = rows ++ r ∷ []; stays = stays }

map-more : (rows : List Row) (r : Row) → map line_of_row (rows ++ r ∷ []) ≡ map line_of_row rows ++ line_of_row r ∷ []
map-more [] r = refl
map-more (s ∷ rows) r = ap (λ (ls : List Line). line_of_row s ∷ ls) (map-more rows r)

-- a line's part of the cost of a level
abbrev part : List Line → Assignment → ℕ → Line → ℕ
part ls x k l = cond (nat_eq l.level k) (l.weight * error x l * share ls l) 0

-- the rows alone cost at a priority
base-cost : (rows : List Row) (stays : List Stay) (x : Assignment) (k : ℕ) → k ≤ 1000 → cost (lines (made_problem rows stays)) x k ≡ count_of (part (lines (made_problem rows stays)) x k) (map line_of_row rows)
base-cost rows stays x k low =
    let none = none-before k 1001 (λ l. l.weight * error x l * share (lines (made_problem rows stays)) l) stays (omega (arith, low)) in
    count-append (part (lines (made_problem rows stays)) x k) (map line_of_row rows) (stay_lines 1001 stays)
    ∙ (let q : count_of (part (lines (made_problem rows stays)) x k) (stay_lines 1001 stays) ≡ 0 = none in omega (arith, q))

probed-cost : (rows : List Row) (r : Row) (stays : List Stay) (x : Assignment) (k : ℕ) → k ≤ 1000
    → cost (lines (probed rows r stays)) x k ≡ count_of (part (lines (probed rows r stays)) x k) (map line_of_row rows) + part (lines (probed rows r stays)) x k (line_of_row r)
probed-cost rows r stays x k low =
    let f : Line → ℕ = part (lines (probed rows r stays)) x k in
    let none = none-before k 1001 (λ l. l.weight * error x l * share (lines (probed rows r stays)) l) stays (omega (arith, low)) in
    count-append (part (lines (probed rows r stays)) x k) (map line_of_row (rows ++ r ∷ [])) (stay_lines 1001 stays)
    ∙ (let q : count_of (part (lines (probed rows r stays)) x k) (stay_lines 1001 stays) ≡ 0 = none in
    let m : count_of (part (lines (probed rows r stays)) x k) (map line_of_row (rows ++ r ∷ [])) ≡ count_of (part (lines (probed rows r stays)) x k) (map line_of_row rows) + (part (lines (probed rows r stays)) x k (line_of_row r) + 0) =
    ap (count_of (part (lines (probed rows r stays)) x k)) (map-more rows r) ∙ count-append (part (lines (probed rows r stays)) x k) (map line_of_row rows) (line_of_row r ∷ []) in
    omega (arith, q, m))

-- ---- costs below the probe's rank

front : (P : Line → Type 0) (rows : List Row) (ls : List Line) → Each P (map line_of_row rows ++ ls) → Each P (map line_of_row rows)
front P [] ls h = tt
front P (r ∷ rows) ls h = (h.0, front P rows ls h.1)

front-more : (P : Line → Type 0) (rows : List Row) (r : Row) (ls : List Line) → Each P (map line_of_row (rows ++ r ∷ []) ++ ls) → Each P (map line_of_row rows) × P (line_of_row r)
front-more P [] r ls h = (tt, h.0)
front-more P (s ∷ rows) r ls h = let rest = front-more P rows r ls h.1 in ((h.0, rest.0), rest.1)

part-alike : (b : Bool) (w e s u n A B : ℕ) → 0 < n → s * n ≡ A → u * n ≡ B → cond b (w * e * s) 0 * B ≡ cond b (w * e * u) 0 * A
part-alike false w e s u n A B above h k = omega arith
part-alike true w e s u n A B above h k =
    let a : w * e * s * B ≡ w * e * s * (u * n) = ap (λ (z : ℕ). w * e * s * z) (sym k) in
    let b : w * e * u * A ≡ w * e * u * (s * n) = ap (λ (z : ℕ). w * e * u * z) (sym h) in
    omega (arith, a, b)

module _ (rows : List Row) (r : Row) (old new : List Stay) (p_is : IsProblem (made_problem rows old)) (q_is : IsProblem (probed rows r new)) where
  rows-alike : (x : Assignment) (k : ℕ) → count_of (part (lines (made_problem rows old)) x k) (map line_of_row rows) * common (lines (probed rows r new)) ≡ count_of (part (lines (probed rows r new)) x k) (map line_of_row rows) * common (lines (made_problem rows old))
  rows-alike x k =
      counts-alike (part (lines (made_problem rows old)) x k) (part (lines (probed rows r new)) x k) (common (lines (probed rows r new))) (common (lines (made_problem rows old))) (map line_of_row rows)
      (each-impl (λ l. (0 < l.scale * l.den) × ((share (lines (made_problem rows old)) l * (l.scale * l.den) ≡ common (lines (made_problem rows old))) × (share (lines (probed rows r new)) l * (l.scale * l.den) ≡ common (lines (probed rows r new))))) _ (map line_of_row rows)
      (λ l h. part-alike (nat_eq l.level k) l.weight (error x l) (share (lines (made_problem rows old)) l) (share (lines (probed rows r new)) l) (l.scale * l.den) (common (lines (made_problem rows old))) (common (lines (probed rows r new))) h.0 h.1.0 h.1.1)
      (each-both _ _ (map line_of_row rows) (front (λ l. 0 < l.scale * l.den) rows (stay_lines 1001 old) (line-products (made_problem rows old) p_is))
      (each-both _ _ (map line_of_row rows) (front _ rows (stay_lines 1001 old) (line-shares (made_problem rows old) p_is)) (front-more _ rows r (stay_lines 1001 new) (line-shares (probed rows r new) q_is)).0)))

  -- below the rank of the probe the costs are the same, over other denominators
  pub same_below : r.rank ≡ 0 → (x : Assignment) (k : ℕ) → k < 1000 → cost (lines (made_problem rows old)) x k * common (lines (probed rows r new)) ≡ cost (lines (probed rows r new)) x k * common (lines (made_problem rows old))
  same_below rank x k low =
      let none : part (lines (probed rows r new)) x k (line_of_row r) ≡ 0 = ap (λ (b : Bool). cond b (r.weight * error x (line_of_row r) * share (lines (probed rows r new)) (line_of_row r)) 0) (ne_eqb (1000 - r.rank) k (λ e. absurd (omega (arith, e, rank, low)))) in
      let q : cost (lines (probed rows r new)) x k ≡ count_of (part (lines (probed rows r new)) x k) (map line_of_row rows) = probed-cost rows r new x k (omega (arith, low)) ∙ (omega (arith, none)) in
      ap (λ (n : ℕ). n * common (lines (probed rows r new))) (base-cost rows old x k (omega (arith, low))) ∙ rows-alike x k ∙ ap (λ (n : ℕ). n * common (lines (made_problem rows old))) (sym q)

  -- ---- at the probe's rank

  none-at-rank : (f : Line → ℕ) (rs : List Row) → Each (λ s. 0 < s.rank) rs → count_of (λ l. cond (nat_eq l.level 1000) (f l) 0) (map line_of_row rs) ≡ 0
  none-at-rank f [] h = refl
  none-at-rank f (s ∷ rs) h =
      let some = h.0 in
      let rest = none-at-rank f rs h.1 in
      let here : cond (nat_eq (1000 - s.rank) 1000) (f (line_of_row s)) 0 ≡ 0 = ap (λ (b : Bool). cond b (f (line_of_row s)) 0) (ne_eqb (1000 - s.rank) 1000 (λ e. absurd (omega (arith, e, some)))) in
      omega (arith, here, rest)

  pub base_none : All (λ s. 0 < s.rank) rows → (x : Assignment) → cost (lines (made_problem rows old)) x 1000 ≡ 0
  base_none ranks x = base-cost rows old x 1000 (omega arith) ∙ none-at-rank (λ l. l.weight * error x l * share (lines (made_problem rows old)) l) rows (recursion_from_All (λ s. 0 < s.rank) rows ranks)

  pub probe_cost : All (λ s. 0 < s.rank) rows → r.rank ≡ 0 → r.weight ≡ 1 → (x : Assignment) → cost (lines (probed rows r new)) x 1000 ≡ error x (line_of_row r) * share (lines (probed rows r new)) (line_of_row r)
  probe_cost ranks rank weight x =
      let none = none-at-rank (λ l. l.weight * error x l * share (lines (probed rows r new)) l) rows (recursion_from_All (λ s. 0 < s.rank) rows ranks) in
      let here : part (lines (probed rows r new)) x 1000 (line_of_row r) ≡ 1 * error x (line_of_row r) * share (lines (probed rows r new)) (line_of_row r) =
      ap₂ (λ (n w : ℕ). cond (nat_eq (1000 - n) 1000) (w * error x (line_of_row r) * share (lines (probed rows r new)) (line_of_row r)) 0) rank weight in
      probed-cost rows r new x 1000 (omega arith) ∙ (omega (arith, none, here))

  pub probe_share : 0 < share (lines (probed rows r new)) (line_of_row r)
  probe_share =
      let whole = (front-more _ rows r (stay_lines 1001 new) (line-shares (probed rows r new) q_is)).1 in
      left-positive (share (lines (probed rows r new)) (line_of_row r)) (r.scale * r.constant.den) (common (lines (probed rows r new))) whole (common_above (probed rows r new) q_is)

-- ---- the best of the probed problem

-- costs over A and over B
moved-same : (a c A B C D u v : ℕ) → 0 < A → a * B ≡ u * A → c * B ≡ v * A → a * D ≡ c * C → u * D ≡ v * C
moved-same a c A B C D u v above h k e =
    cancel A (u * D) (v * C) above
    (let l : a * B * D ≡ u * A * D = ap (λ (n : ℕ). n * D) h in
    let r : c * B * C ≡ v * A * C = ap (λ (n : ℕ). n * C) k in
    let m : a * D * B ≡ c * C * B = ap (λ (n : ℕ). n * B) e in
    omega (arith, l, r, m))

moved-less : (a c A B C D u v : ℕ) → 0 < B → a * B ≡ u * A → c * B ≡ v * A → a * D < c * C → u * D < v * C
moved-less a c A B C D u v above h k e =
    less_from (u * D) (v * C) A
    (let l : a * B * D ≡ u * A * D = ap (λ (n : ℕ). n * D) h in
    let r : c * B * C ≡ v * A * C = ap (λ (n : ℕ). n * C) k in
    let m : a * D * B < c * C * B = less_times (a * D) (c * C) B above e in
    omega (arith, l, r, m))

rows-front : (P : Row → Type 0) (rows : List Row) (r : Row) → Each P (rows ++ r ∷ []) → Each P rows
rows-front P [] r h = tt
rows-front P (s ∷ rows) r h = (h.0, rows-front P rows r h.1)

module _ (rows : List Row) (r : Row) (old new : List Stay) (p_is : IsProblem (made_problem rows old)) (q_is : IsProblem (probed rows r new)) (ranks : All (λ s. 0 < s.rank) rows) (rank : r.rank ≡ 0) (weight : r.weight ≡ 1) where
  pub probed_loosely : (x : Assignment) → IsBest (probed rows r new) x → IsLooselyBest (made_problem rows old) x
  probed_loosely x best = record {
    satisfies = All-from_recursion (λ s. s.rank ≡ 1000 → error x (line_of_row s) ≡ 0) rows (rows-front (λ s. s.rank ≡ 1000 → error x (line_of_row s) ≡ 0) rows r (recursion_from_All _ (rows ++ r ∷ []) best.0));
    least = λ y less. elim (cases_lt less.0 1000) [
      | inl low ↦
          best.1 y (
            less.0,
            λ k before.
                moved-same (cost (lines (made_problem rows old)) y k) (cost (lines (made_problem rows old)) x k) (common (lines (made_problem rows old))) (common (lines (probed rows r new))) y.den x.den (cost (lines (probed rows r new)) y k) (cost (lines (probed rows r new)) x k)
                (common_above (made_problem rows old) p_is) (same_below rows r old new p_is q_is rank y k (omega (arith, before, low))) (same_below rows r old new p_is q_is rank x k (omega (arith, before, low))) (less.2 k before),
            moved-less (cost (lines (made_problem rows old)) y less.0) (cost (lines (made_problem rows old)) x less.0) (common (lines (made_problem rows old))) (common (lines (probed rows r new))) y.den x.den (cost (lines (probed rows r new)) y less.0) (cost (lines (probed rows r new)) x less.0)
                (common_above (probed rows r new) q_is) (same_below rows r old new p_is q_is rank y less.0 low) (same_below rows r old new p_is q_is rank x less.0 low) less.3,
          )
      | inr high ↦
          let top : less.0 ≡ 1000 = (let most = less.1 in omega (arith, high, most)) in
          let last : cost (lines (made_problem rows old)) y 1000 * x.den < cost (lines (made_problem rows old)) x 1000 * y.den = subst (λ (k : ℕ). cost (lines (made_problem rows old)) y k * x.den < cost (lines (made_problem rows old)) x k * y.den) top less.3 in
          let none : cost (lines (made_problem rows old)) x 1000 * y.den ≡ 0 * y.den = ap (λ (n : ℕ). n * y.den) (base_none rows r old new p_is q_is ranks x) in
          absurd (omega (arith, last, none))
    ];
  }

  -- no loosely best assignment has a lesser error at the probe
  pub probed_nearest : (x y : Assignment) → IsBest (probed rows r new) x → IsLooselyBest (made_problem rows old) y → error y (line_of_row r) * x.den < error x (line_of_row r) * y.den → ⊥
  probed_nearest x y best also less =
      best.1 y (
        1000,
        λ k before.
            moved-same (cost (lines (made_problem rows old)) y k) (cost (lines (made_problem rows old)) x k) (common (lines (made_problem rows old))) (common (lines (probed rows r new))) y.den x.den (cost (lines (probed rows r new)) y k) (cost (lines (probed rows r new)) x k)
            (common_above (made_problem rows old) p_is) (same_below rows r old new p_is q_is rank y k before) (same_below rows r old new p_is q_is rank x k before) (same_costs (made_problem rows old) y x also (probed_loosely x best) k (omega (arith, before))),
        (let times = less_times (error y (line_of_row r) * x.den) (error x (line_of_row r) * y.den) (share (lines (probed rows r new)) (line_of_row r)) (probe_share rows r old new p_is q_is) less in
            let a : cost (lines (probed rows r new)) y 1000 * x.den ≡ error y (line_of_row r) * share (lines (probed rows r new)) (line_of_row r) * x.den = ap (λ (n : ℕ). n * x.den) (probe_cost rows r old new p_is q_is ranks rank weight y) in
            let b : cost (lines (probed rows r new)) x 1000 * y.den ≡ error x (line_of_row r) * share (lines (probed rows r new)) (line_of_row r) * y.den = ap (λ (n : ℕ). n * y.den) (probe_cost rows r old new p_is q_is ranks rank weight x) in
            omega (arith, times, a, b)),
      )
