-- What is best stays best when rows and stays are added that cost nothing there; and so is what gives the stays' attributes the same values.
use Rattle.std.proofs.Common.{◌≡◌, ℕ, zero, suc, ◌+◌, ◌*◌, ◌<◌, ◌≤◌, cond, nat_eq, List, [], ◌∷◌, ◌++◌, map, length, refl, sym, ap, ap₂, subst, ◌∙◌, ◌⊎◌, inl, inr, arith, mul-le-mul_right, zero-mul}
use Rattle.std.specs.List.{AllByRecursion as Each, All}
use Rattle.std.proofs.lemmas.List.Elements.{recursion_from_All, All-from_recursion}
use Rattle.std.proofs.lemmas.Bool.{cases_eq, cases_lt}
use Rattle.problem_core.specs.declared.parts.Stay.{Stay}
use Rattle.problem_core.specs.Layout.{Row, Line, Problem, Assignment, IsProblem, IsProper, IsCovered, IsBest, IsLess, AreSame, lines, line_of_row, line_of_stay, stay_lines, gap, error, common, share, cost, count_of}
use Rattle.problem_core.proofs.Forms.{each-impl, each-both}
use Rattle.problem_core.proofs.Best.Midpoints.{count-append, cancel}
use Rattle.problem_core.proofs.Best.Targets.{wholes, cross-shares, in_proportion, some}
use Rattle.problem_core.proofs.Best.Agreed.{AgreeAt, cost-agree, agree-lines, agree-row, gap-agree, error-agree, weightless}
use Rattle.frac_core.proofs.Numbers.{factor-zero as none_of}
use Rattle.frac_core.proofs.Lists.{each-joined, each-onto_map, each-right, each-left}

-- ---- the first level that differs

first-less : (c d : ℕ → ℕ) (n : ℕ) → ((k : ℕ) → k < n → c k ≤ d k) → ((k : ℕ) → k < n → c k ≡ d k) ⊎ ((level : ℕ) × ((k : ℕ) → k < level → c k ≡ d k) × (c level < d level))
first-less c d zero h = inl (λ k l. absurd (omega arith))
first-less c d (suc n) h =
    elim (first-less c d n (λ k l. h k (omega arith))) [
      | inl e ↦ elim (cases_lt (c n) (d n)) [
        | inl l ↦ inr (n, e, l)
        | inr l ↦ inl (λ k m. elim (cases_eq k n) [ inl q ↦ rw q (let b : c n ≤ d n = h n (omega arith) in omega arith) | inr q ↦ e k (omega arith) ])
      ]
      | inr r ↦ inr r
    ]

least : (c d : ℕ → ℕ) (n : ℕ) → ((k : ℕ) → k < n → c k ≤ d k) → c n < d n → (level : ℕ) × ((k : ℕ) → k < level → c k ≡ d k) × (c level < d level)
least c d n h l = elim (first-less c d n h) [ inl e ↦ (n, e, l) | inr r ↦ r ]

-- ---- the lines of a problem with more rows and stays

map-rows : (old new : List Row) → map line_of_row (old ++ new) ≡ map line_of_row old ++ map line_of_row new
map-rows [] new = refl
map-rows (r ∷ old) new = ap (λ (ls : List Line). line_of_row r ∷ ls) (map-rows old new)

more-stays : (base : ℕ) (old new : List Stay) → stay_lines base (old ++ new) ≡ stay_lines base old ++ stay_lines (base + length old) new
more-stays base [] new = ap (λ (b : ℕ). stay_lines b new) (let e : base ≡ base + 0 = omega arith in e)
more-stays base (s ∷ old) new =
    ap (λ (ls : List Line). line_of_stay base s ∷ ls)
    (more-stays (base + 1) old new ∙ ap (λ (b : ℕ). stay_lines (base + 1) old ++ stay_lines b new) (let e : base + 1 + length old ≡ base + suc (length old) = omega arith in e))

part : (Line → ℕ) → List Line → Assignment → ℕ → ℕ
part share ls x level = count_of (λ l. cond (nat_eq l.level level) (l.weight * error x l * share l) 0) ls

abbrev wider : Problem → List Row → List Stay → Problem
wider p rows stays = record { rows = p.rows ++ rows; stays = p.stays ++ stays }

four_parts : (a b c d n : ℕ) → n ≡ (a + b) + (c + d) → n ≡ (a + c) + (b + d)
four_parts a b c d n h = omega arith

cost-wider : (p : Problem) (rows : List Row) (stays : List Stay) (s : Line → ℕ) (x : Assignment) (level : ℕ) → part s (lines (wider p rows stays)) x level ≡ part s (lines p) x level + (part s (map line_of_row rows) x level + part s (stay_lines (1001 + length p.stays) stays) x level)
unfolding part
cost-wider p rows stays s x level =
    let f : Line → ℕ = λ l. cond (nat_eq l.level level) (l.weight * error x l * s l) 0 in
    let old = count-append f (map line_of_row p.rows) (stay_lines 1001 p.stays) in
    let all = count-append f (map line_of_row (p.rows ++ rows)) (stay_lines 1001 (p.stays ++ stays)) in
    let held = ap (λ (ls : List Line). count_of f ls) (map-rows p.rows rows) ∙ count-append f (map line_of_row p.rows) (map line_of_row rows) in
    let kept = ap (λ (ls : List Line). count_of f ls) (more-stays 1001 p.stays stays) ∙ count-append f (stay_lines 1001 p.stays) (stay_lines (1001 + length p.stays) stays) in
    all ∙ ap₂ ◌+◌ held kept
    ∙ four_parts (count_of f (map line_of_row p.rows)) (count_of f (map line_of_row rows)) (count_of f (stay_lines 1001 p.stays)) (count_of f (stay_lines (1001 + length p.stays) stays)) _ refl
    ∙ ap (λ (t : ℕ). t + (count_of f (map line_of_row rows) + count_of f (stay_lines (1001 + length p.stays) stays))) (sym old)

each-old : (P : Line → Type 0) (p : Problem) (rows : List Row) (stays : List Stay) → Each P (lines (wider p rows stays)) → Each P (lines p)
each-old P p rows stays h =
    let held : Each P (map line_of_row p.rows ++ map line_of_row rows) = subst (Each P) (map-rows p.rows rows) (each-left P (map line_of_row (p.rows ++ rows)) (stay_lines 1001 (p.stays ++ stays)) h) in
    let kept : Each P (stay_lines 1001 p.stays ++ stay_lines (1001 + length p.stays) stays) = subst (Each P) (more-stays 1001 p.stays stays) (each-right P (map line_of_row (p.rows ++ rows)) (stay_lines 1001 (p.stays ++ stays)) h) in
    each-joined P (map line_of_row p.rows) (stay_lines 1001 p.stays) (each-left P (map line_of_row p.rows) (map line_of_row rows) held) (each-left P (stay_lines 1001 p.stays) (stay_lines (1001 + length p.stays) stays) kept)

-- ---- costs of the old lines, with the shares of the new

free : (s : Line → ℕ) (x : Assignment) (level : ℕ) (xs : List Line) → Each (λ l. error x l ≡ 0) xs → part s xs x level ≡ 0
unfolding part
free s x level [] h = refl
free s x level (l ∷ xs) h = omega (arith, free s x level xs h.1, weightless (nat_eq l.level level) l.weight (error x l) (s l) h.0)

in_share : (p : Problem) (rows : List Row) (stays : List Stay) → IsProblem p → IsProblem (wider p rows stays) → (x : Assignment) (level : ℕ) → part (share (lines (wider p rows stays))) (lines p) x level * common (lines p) ≡ cost (lines p) x level * common (lines (wider p rows stays))
unfolding part
in_share p rows stays ok okq x level =
    let sq : Line → ℕ = share (lines (wider p rows stays)) in
    let old : Each (λ l. share (lines p) l * (l.scale * l.den) ≡ common (lines p)) (lines p) = wholes (lines p) (recursion_from_All _ _ ok) in
    let new : Each (λ l. share (lines (wider p rows stays)) l * (l.scale * l.den) ≡ common (lines (wider p rows stays))) (lines p) =
    each-old (λ l. share (lines (wider p rows stays)) l * (l.scale * l.den) ≡ common (lines (wider p rows stays))) p rows stays (wholes (lines (wider p rows stays)) (recursion_from_All _ _ okq)) in
    in_proportion (lines p) x level (share (lines (wider p rows stays))) (share (lines p)) (common (lines p)) (common (lines (wider p rows stays)))
    (each-impl (λ l. (share (lines p) l * (l.scale * l.den) ≡ common (lines p)) × (share (lines (wider p rows stays)) l * (l.scale * l.den) ≡ common (lines (wider p rows stays)))) _ (lines p)
    (λ l h. cross-shares (share (lines p) l) (share (lines (wider p rows stays)) l) (l.scale * l.den) (common (lines p)) (common (lines (wider p rows stays))) h.0 h.1)
    (each-both _ _ (lines p) old new))

strict : (k a b : ℕ) → 0 < k → a < b → a * k < b * k
strict k a b h l = omega (arith, mul-le-mul_right k (let m : suc a ≤ b = omega (arith, l) in m))

-- a, b are the costs of y and z with the new shares, f, g with the old: c and e are the two common denominators
not_more : (c e a b f g d n : ℕ) → 0 < e → a * c ≡ f * e → b * c ≡ g * e → a * d ≤ b * n → f * d ≤ g * n
not_more c e a b f g d n h p q l =
    elim (cases_lt (g * n) (f * d)) [
      | inl k ↦ absurd (omega (arith, strict e (g * n) (f * d) h k, mul-le-mul_right c l, ap (λ (t : ℕ). t * d) p, ap (λ (t : ℕ). t * n) q))
      | inr k ↦ k
    ]

less_still : (c e a b f g d n : ℕ) → 0 < c → a * c ≡ f * e → b * c ≡ g * e → a * d < b * n → f * d < g * n
less_still c e a b f g d n h p q l =
    elim (cases_lt (f * d) (g * n)) [
      | inl k ↦ k
      | inr k ↦ absurd (omega (arith, mul-le-mul_right e k, strict c (a * d) (b * n) h l, ap (λ (t : ℕ). t * d) p, ap (λ (t : ℕ). t * n) q))
    ]

-- ---- best

added-beaten : (p : Problem) → IsProblem p → (z : Assignment) → IsBest p z → (rows : List Row) (stays : List Stay) → IsProblem (wider p rows stays) → Each (λ l. error z l ≡ 0) (map line_of_row rows) → Each (λ l. error z l ≡ 0) (stay_lines (1001 + length p.stays) stays) → (y : Assignment) → IsLess (wider p rows stays) y z → ⊥
unfolding part
added-beaten p ok z best rows stays okq held kept y (level, before, less) =
    let s : Line → ℕ = share (lines (wider p rows stays)) in
    let q : ℕ = common (lines (wider p rows stays)) in
    let whole : (x : Assignment) (k : ℕ) → cost (lines (wider p rows stays)) x k ≡ part (share (lines (wider p rows stays))) (lines p) x k + (part (share (lines (wider p rows stays))) (map line_of_row rows) x k + part (share (lines (wider p rows stays))) (stay_lines (1001 + length p.stays) stays) x k) = λ x k.
    cost-wider p rows stays (share (lines (wider p rows stays))) x k in
    let same : (k : ℕ) → cost (lines (wider p rows stays)) z k ≡ part (share (lines (wider p rows stays))) (lines p) z k = λ k.
    omega (arith, whole z k, free (share (lines (wider p rows stays))) z k (map line_of_row rows) held, free (share (lines (wider p rows stays))) z k (stay_lines (1001 + length p.stays) stays) kept) in
    let more : (k : ℕ) → part (share (lines (wider p rows stays))) (lines p) y k ≤ cost (lines (wider p rows stays)) y k = λ k. omega (arith, whole y k) in
    let up_to : (k : ℕ) → k < level → cost (lines p) y k * z.den ≤ cost (lines p) z k * y.den = λ k l.
    not_more (common (lines p)) (common (lines (wider p rows stays))) (part (share (lines (wider p rows stays))) (lines p) y k) (part (share (lines (wider p rows stays))) (lines p) z k) (cost (lines p) y k) (cost (lines p) z k) z.den y.den (some (wider p rows stays) okq)
    (in_share p rows stays ok okq y k) (in_share p rows stays ok okq z k)
    (omega (arith, before k l, mul-le-mul_right z.den (more k), ap (λ (t : ℕ). t * y.den) (same k))) in
    let here : cost (lines p) y level * z.den < cost (lines p) z level * y.den =
    less_still (common (lines p)) (common (lines (wider p rows stays))) (part (share (lines (wider p rows stays))) (lines p) y level) (part (share (lines (wider p rows stays))) (lines p) z level) (cost (lines p) y level) (cost (lines p) z level) z.den y.den (some p ok)
    (in_share p rows stays ok okq y level) (in_share p rows stays ok okq z level)
    (omega (arith, less, mul-le-mul_right z.den (more level), ap (λ (t : ℕ). t * y.den) (same level))) in
    best.1 y (least (λ k. cost (lines p) y k * z.den) (λ k. cost (lines p) z k * y.den) level up_to here)

error_free : (x : Assignment) (base other : ℕ) (stays : List Stay) → Each (λ s. error x (line_of_stay base s) ≡ 0) stays → Each (λ l. error x l ≡ 0) (stay_lines other stays)
error_free x base other [] h = tt
error_free x base other (s ∷ stays) h = (h.0, error_free x base (other + 1) stays h.1)

pub added-IsBest : (p : Problem) → IsProblem p → (z : Assignment) → IsBest p z → (rows : List Row) (stays : List Stay) → IsProblem (record { rows = p.rows ++ rows; stays = p.stays ++ stays }) → All (λ r. error z (line_of_row r) ≡ 0) rows → All (λ s. error z (line_of_stay 0 s) ≡ 0) stays → IsBest (record { rows = p.rows ++ rows; stays = p.stays ++ stays }) z
added-IsBest p ok z best rows stays okq held kept =
    let met : Each (λ r. error z (line_of_row r) ≡ 0) rows = recursion_from_All (λ r. error z (line_of_row r) ≡ 0) rows held in
    let fixed : Each (λ s. error z (line_of_stay 0 s) ≡ 0) stays = recursion_from_All (λ s. error z (line_of_stay 0 s) ≡ 0) stays kept in (
      All-from_recursion (λ r. r.rank ≡ 1000 → error z (line_of_row r) ≡ 0) (p.rows ++ rows)
          (each-joined (λ r. r.rank ≡ 1000 → error z (line_of_row r) ≡ 0) p.rows rows (recursion_from_All (λ r. r.rank ≡ 1000 → error z (line_of_row r) ≡ 0) p.rows best.0)
          (each-impl (λ r. error z (line_of_row r) ≡ 0) (λ r. r.rank ≡ 1000 → error z (line_of_row r) ≡ 0) rows (λ r h e. h) met)),
      added-beaten p ok z best rows stays okq (each-onto_map (λ l. error z l ≡ 0) line_of_row rows met) (error_free z 0 (1001 + length p.stays) stays fixed),
    )

-- ---- the same values

carried_eq : (cy cx cz dy dx dz : ℕ) → 0 < dz → cy * dz ≡ cz * dy → cx * dz ≡ cz * dx → cy * dx ≡ cx * dy
carried_eq cy cx cz dy dx dz h e f = cancel dz (cy * dx) (cx * dy) h (omega (arith, ap (λ (t : ℕ). t * dx) e, ap (λ (t : ℕ). t * dy) f))

carried_lt : (cy cx cz dy dx dz : ℕ) → 0 < dx → cy * dz < cz * dy → cx * dz ≡ cz * dx → cy * dx < cx * dy
carried_lt cy cx cz dy dx dz h l f =
    elim (cases_lt (cy * dx) (cx * dy)) [
      | inl k ↦ k
      | inr k ↦ absurd (omega (arith, mul-le-mul_right dz k, strict dx (cy * dz) (cz * dy) h l, ap (λ (t : ℕ). t * dy) f))
    ]

met_too : (x z : Assignment) (l : Line) → Each (λ t. AgreeAt x z t.attr) l.form → error x l ≡ 0 → error z l ≡ 0
met_too x z l agree none =
    none_of (error z l) x.den x.positive
    (sym (error-agree l.rel (gap x l) (gap z l) x.den z.den x.positive z.positive (gap-agree x z l agree)) ∙ ap (λ (t : ℕ). t * z.den) none ∙ zero-mul z.den)

pub same-IsBest : (p : Problem) → IsProper p → (x z : Assignment) → IsBest p x → AreSame p x z → IsBest p z
same-IsBest p ok x z best same =
    let equal : (k : ℕ) → cost (lines p) x k * z.den ≡ cost (lines p) z k * x.den = λ k.
    cost-agree (share (lines p)) (lines p) x z k (agree-lines p x z ok.covered same) in (
      All-from_recursion (λ r. r.rank ≡ 1000 → error z (line_of_row r) ≡ 0) p.rows
          (each-impl (λ r. IsCovered p.stays r × (r.rank ≡ 1000 → error x (line_of_row r) ≡ 0)) (λ r. r.rank ≡ 1000 → error z (line_of_row r) ≡ 0) p.rows
          (λ r h e. met_too x z (line_of_row r) (agree-row x z p.stays same r h.0) (h.1 e))
          (each-both (IsCovered p.stays) (λ r. r.rank ≡ 1000 → error x (line_of_row r) ≡ 0) p.rows (recursion_from_All _ _ ok.covered) (recursion_from_All (λ r. r.rank ≡ 1000 → error x (line_of_row r) ≡ 0) p.rows best.0))),
      λ y less.
          best.1 y (
            less.0,
            λ k l. carried_eq (cost (lines p) y k) (cost (lines p) x k) (cost (lines p) z k) y.den x.den z.den z.positive (less.1 k l) (equal k),
            carried_lt (cost (lines p) y less.0) (cost (lines p) x less.0) (cost (lines p) z less.0) y.den x.den z.den x.positive less.2 (equal less.0),
          ),
    )
