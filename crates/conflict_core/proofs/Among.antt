-- Numbers among others, of lists that rise.
use Rattle.std.proofs.Common.{◌≡◌, ◌≢◌, ◌∙◌, ℕ, zero, suc, ◌<◌, ◌≤◌, Bool, true, not, cond, nat_eq, Err, Ok, Result, List, [], ◌∷◌, length, take, get_or, refl, sym, ap, ap₂, subst, arith, inl, inr, ◌⊎◌, AllPairs, Contains, eq-eqb, ne_eqb, eqb-true}
use Rattle.std.specs.List.{AllByRecursion as Each}
use Rattle.std.specs.List.Sorted.{IsBinarySearchResult}
use Rattle.std.specs.Ordering.{nat_cmp}
use Rattle.std.specs.Prelude.{MatchResult, is_ok}
use Rattle.std.proofs.lemmas.Bool.{cases_eq, cases_lt, cases_order, false_from_ne_true, false≢true, or_cases, or_left, or_right}
use Rattle.std.proofs.lemmas.List.{get_or_default}
use Rattle.std.proofs.lemmas.List.Sorted.{searched}
use Rattle.std.proofs.lemmas.List.Elements.{recursion_from_All}
use Rattle.frac_core.proofs.Bools.{nat_eq-self}
use Rattle.frac_core.proofs.Lists.{pairs-rest}
use Rattle.corner_laws.proofs.Counting.{head_pairs}
use Rattle.conflict_core.specs.Cores.{is_among, without}

-- all of the first are among the second
abbrev pub IsPart : List ℕ → List ℕ → Type 0
IsPart xs ys = (n : ℕ) → is_among xs n ≡ true → is_among ys n ≡ true

pub among-head : (x : ℕ) (xs : List ℕ) → is_among (x ∷ xs) x ≡ true
among-head x xs = or_left (nat_eq x x) (is_among xs x) (nat_eq-self x)

pub among-later : (x n : ℕ) (xs : List ℕ) → is_among xs n ≡ true → is_among (x ∷ xs) n ≡ true
among-later x n xs h = or_right (nat_eq x n) (is_among xs n) h

pub among-cases : (x n : ℕ) (xs : List ℕ) → is_among (x ∷ xs) n ≡ true → (x ≡ n) ⊎ (is_among xs n ≡ true)
among-cases x n xs h =
    elim (or_cases (nat_eq x n) (is_among xs n) h) [
      | inl e ↦ inl (eqb-true x n e)
      | inr later ↦ inr later
    ]

pub each-among : (P : ℕ → Type 0) (xs : List ℕ) (n : ℕ) → Each P xs → is_among xs n ≡ true → P n
each-among P [] n all h = absurd (false≢true h)
each-among P (x ∷ xs) n all h =
    elim (among-cases x n xs h) [
      | inl e ↦ subst P e all.0
      | inr later ↦ each-among P xs n all.1 later
    ]

pub among-each : (P : ℕ → Type 0) (xs : List ℕ) → ((n : ℕ) → is_among xs n ≡ true → P n) → Each P xs
among-each P [] f = tt
among-each P (x ∷ xs) f = (f x (among-head x xs), among-each P xs (λ n h. f n (among-later x n xs h)))

pub contains_among : (xs : List ℕ) (n : ℕ) → Contains xs n → is_among xs n ≡ true
contains_among [] n (k, within, is) = absurd (omega (arith, within))
contains_among (x ∷ xs) n (zero, within, is) = subst (λ (m : ℕ). is_among (x ∷ xs) m ≡ true) is (among-head x xs)
contains_among (x ∷ xs) n (suc k, within, is) = among-later x n xs (contains_among xs n (k, omega (arith, within), is))

pub among_contains : (xs : List ℕ) (n : ℕ) → is_among xs n ≡ true → Contains xs n
among_contains [] n h = absurd (false≢true h)
among_contains (x ∷ xs) n h =
    elim (among-cases x n xs h) [
      | inl e ↦ (0, omega arith, e)
      | inr later ↦ let (k, within, is) = among_contains xs n later in (suc k, omega (arith, within), is)
    ]

-- ---- without one of them

without-same : (id x : ℕ) (ids : List ℕ) → x ≡ id → without id (x ∷ ids) ≡ without id ids
without-same id x ids e = ap (λ (b : Bool). cond (not b) (x ∷ without id ids) (without id ids)) (eq-eqb x id e)

without-other : (id x : ℕ) (ids : List ℕ) → x ≢ id → without id (x ∷ ids) ≡ x ∷ without id ids
without-other id x ids n = ap (λ (b : Bool). cond (not b) (x ∷ without id ids) (without id ids)) (ne_eqb x id n)

pub among-without : (id n : ℕ) (ids : List ℕ) → is_among (without id ids) n ≡ true → (is_among ids n ≡ true) × (n ≢ id)
among-without id n [] h = absurd (false≢true h)
among-without id n (x ∷ ids) h =
    elim (cases_eq x id) [
      | inl e ↦
          let rest = among-without id n ids (subst (λ (ns : List ℕ). is_among ns n ≡ true) (without-same id x ids e) h) in
          (among-later x n ids rest.0, rest.1)
      | inr other ↦
          elim (among-cases x n (without id ids) (subst (λ (ns : List ℕ). is_among ns n ≡ true) (without-other id x ids other) h)) [
            | inl e ↦ (subst (λ (m : ℕ). is_among (x ∷ ids) m ≡ true) e (among-head x ids), λ same. other (e ∙ same))
            | inr later ↦ let rest = among-without id n ids later in (among-later x n ids rest.0, rest.1)
          ]
    ]

pub without-among : (id n : ℕ) (ids : List ℕ) → is_among ids n ≡ true → n ≢ id → is_among (without id ids) n ≡ true
without-among id n [] h apart = absurd (false≢true h)
without-among id n (x ∷ ids) h apart =
    elim (among-cases x n ids h) [
      | inl e ↦
          subst (λ (ns : List ℕ). is_among ns n ≡ true) (sym (without-other id x ids (λ same. apart (sym e ∙ same))))
          (subst (λ (m : ℕ). is_among (m ∷ without id ids) n ≡ true) (sym e) (among-head n (without id ids)))
      | inr later ↦
          elim (cases_eq x id) [
            | inl same ↦ subst (λ (ns : List ℕ). is_among ns n ≡ true) (sym (without-same id x ids same)) (without-among id n ids later apart)
            | inr other ↦ subst (λ (ns : List ℕ). is_among ns n ≡ true) (sym (without-other id x ids other)) (among-later x n (without id ids) (without-among id n ids later apart))
          ]
    ]

-- without one of them they are a part, of a part too
pub without-part : (id : ℕ) (ids : List ℕ) → IsPart (without id ids) ids
without-part id ids n h = (among-without id n ids h).0

pub part-without : (id : ℕ) (xs ys : List ℕ) → IsPart xs ys → IsPart (without id xs) (without id ys)
part-without id xs ys part n h = let both = among-without id n xs h in without-among id n ys (part n both.0) both.1

without-most : (id : ℕ) (ids : List ℕ) → length (without id ids) ≤ length ids
without-most id [] = omega arith
without-most id (x ∷ ids) =
    let rest = without-most id ids in
    elim (cases_eq x id) [
      | inl e ↦ subst (λ (ns : List ℕ). length ns ≤ length (x ∷ ids)) (sym (without-same id x ids e)) (omega (arith, rest))
      | inr n ↦ subst (λ (ns : List ℕ). length ns ≤ length (x ∷ ids)) (sym (without-other id x ids n)) (omega (arith, rest))
    ]

pub without-fewer : (id : ℕ) (ids : List ℕ) → is_among ids id ≡ true → length (without id ids) < length ids
without-fewer id [] h = absurd (false≢true h)
without-fewer id (x ∷ ids) h =
    elim (cases_eq x id) [
      | inl e ↦
          let most = without-most id ids in
          subst (λ (ns : List ℕ). length ns < length (x ∷ ids)) (sym (without-same id x ids e)) (omega (arith, most))
      | inr n ↦
          elim (among-cases x id ids h) [
            | inl same ↦ absurd (n same)
            | inr later ↦
                let rest = without-fewer id ids later in
                subst (λ (ns : List ℕ). length ns < length (x ∷ ids)) (sym (without-other id x ids n)) (omega (arith, rest))
          ]
    ]

-- ---- lists that rise

abbrev pub Rises : List ℕ → Type 0
Rises [] = Unit {0}
Rises (x ∷ xs) = Each (λ m. x < m) xs × Rises xs

pub rises : (xs : List ℕ) → AllPairs (λ a b. a < b) xs → Rises xs
rises [] h = tt
rises (x ∷ xs) h =
    (recursion_from_All (λ m. x < m) xs (head_pairs (λ a b. a < b) x xs h), rises xs (pairs-rest (λ a b. a < b) x xs h))

-- of two lists with one head, the rest of a part is a part of the rest
rest-part : (x y : ℕ) (xs ys : List ℕ) → x ≡ y → Rises (x ∷ xs) → IsPart (x ∷ xs) (y ∷ ys) → IsPart xs ys
rest-part x y xs ys same rising part n h =
    elim (among-cases y n ys (part n (among-later x n xs h))) [
      | inl e ↦ let above = each-among (λ m. x < m) xs n rising.0 h in absurd (omega (arith, above, same, e))
      | inr later ↦ later
    ]

-- a part that doesn't begin with the head is a part of the rest
skip-part : (x y : ℕ) (xs ys : List ℕ) → x ≢ y → Rises (x ∷ xs) → Rises (y ∷ ys) → IsPart (x ∷ xs) (y ∷ ys) → IsPart (x ∷ xs) ys
skip-part x y xs ys apart rising other part n h =
    elim (among-cases y n ys (part n h)) [
      | inl e ↦
          elim (among-cases y x ys (part x (among-head x xs))) [
            | inl same ↦ absurd (apart (sym same))
            | inr first ↦
                elim (among-cases x n xs h) [
                  | inl same ↦ absurd (apart (same ∙ sym e))
                  | inr later ↦
                      let below = each-among (λ m. y < m) ys x other.0 first in
                      let above = each-among (λ m. x < m) xs n rising.0 later in
                      absurd (omega (arith, below, above, e))
                ]
          ]
      | inr later ↦ later
    ]

-- a part has no more elements
pub part-most : (xs ys : List ℕ) → Rises xs → Rises ys → IsPart xs ys → length xs ≤ length ys
part-most [] ys rising other part = omega arith
part-most (x ∷ xs) [] rising other part = absurd (false≢true (part x (among-head x xs)))
part-most (x ∷ xs) (y ∷ ys) rising other part =
    elim (cases_eq x y) [
      | inl same ↦ let rest = part-most xs ys rising.1 other.1 (rest-part x y xs ys same rising part) in omega (arith, rest)
      | inr apart ↦ let rest = part-most (x ∷ xs) ys rising other.1 (skip-part x y xs ys apart rising other part) in omega (arith, rest)
    ]

each-take : (P : ℕ → Type 0) (k : ℕ) (xs : List ℕ) → Each P xs → Each P (take k xs)
each-take P zero xs all = tt
each-take P (suc k) [] all = tt
each-take P (suc k) (x ∷ xs) all = (all.0, each-take P k xs all.1)

abbrev AreAmong : List ℕ → List ℕ → Type 0
AreAmong xs ns = Each (λ n. is_among xs n ≡ true) ns

rest-among : (x : ℕ) (xs ns : List ℕ) → Each (λ m. x < m) ns → AreAmong (x ∷ xs) ns → AreAmong xs ns
rest-among x xs [] above all = tt
rest-among x xs (n ∷ ns) above all = (
  elim (among-cases x n xs all.0) [
    | inl e ↦ absurd (let less = above.0 in omega (arith, less, e))
    | inr later ↦ later
  ],
  rest-among x xs ns above.1 all.1,
)

same-head : (x y : ℕ) (xs ys : List ℕ) → Rises (x ∷ xs) → Rises (y ∷ ys) → IsPart (x ∷ xs) (y ∷ ys) → is_among (x ∷ xs) y ≡ true → x ≡ y
same-head x y xs ys rising other part h =
    elim (among-cases x y xs h) [
      | inl e ↦ e
      | inr later ↦
          elim (among-cases y x ys (part x (among-head x xs))) [
            | inl e ↦ sym e
            | inr first ↦
                let above = each-among (λ m. x < m) xs y rising.0 later in
                let below = each-among (λ m. y < m) ys x other.0 first in
                absurd (omega (arith, above, below))
          ]
    ]

-- a part that has the first of them begins with these
pub part-begins : (k : ℕ) (xs ys : List ℕ) → Rises xs → Rises ys → IsPart xs ys → k ≤ length ys → Each (λ n. is_among xs n ≡ true) (take k ys) → take k xs ≡ take k ys
part-begins zero xs ys rising other part within all = refl
part-begins (suc k) xs [] rising other part within all = absurd (omega (arith, within))
part-begins (suc k) [] (y ∷ ys) rising other part within all = absurd (false≢true all.0)
part-begins (suc k) (x ∷ xs) (y ∷ ys) rising other part within all =
    let same : x ≡ y = same-head x y xs ys rising other part all.0 in
    let above : Each (λ m. x < m) (take k ys) = subst (λ (a : ℕ). Each (λ m. a < m) (take k ys)) (sym same) (each-take (λ m. y < m) k ys other.0) in
    ap₂ (λ (n : ℕ) (ns : List ℕ). n ∷ ns) same
    (part-begins k xs ys rising.1 other.1 (rest-part x y xs ys same rising part) (omega (arith, within)) (rest-among x xs (take k ys) above all.1))

-- ---- searched

never-falls : (xs : List ℕ) → AllPairs (λ a b. a < b) xs → (i j : ℕ) → i ≤ j → j < length xs → get_or xs i 0 ≤ get_or xs j 0
never-falls xs rising i j least within =
    elim (cases_order i j) [
      | inl e ↦ subst (λ (k : ℕ). get_or xs i 0 ≤ get_or xs k 0) e (omega arith)
      | inr (inl less) ↦ let h = rising i j 0 less within in omega (arith, h)
      | inr (inr more) ↦ absurd (omega (arith, least, more))
    ]

told : (xs : List ℕ) (x : ℕ) (r : Result ℕ ℕ) → MatchResult r (λ i. (i < length xs) × (get_or xs i 0 ≡ x)) (λ i. (i ≤ length xs) × ((k : ℕ) → k < i → get_or xs k 0 < x) × ((k : ℕ) → i ≤ k → k < length xs → x < get_or xs k 0)) → is_ok r ≡ is_among xs x
told xs x (Ok i) h = sym (contains_among xs x (i, h.0, get_or_default xs i x 0 h.0 ∙ h.1))
told xs x (Err i) h =
    sym (false_from_ne_true (is_among xs x) (λ yes.
    let (k, within, is) = among_contains xs x yes in
    let here : get_or xs k 0 ≡ x = get_or_default xs k 0 x within ∙ is in
    elim (cases_lt k i) [
      | inl before ↦ (let less = h.1 k before in absurd (omega (arith, less, here)))
      | inr after ↦ (let more = h.2 k after within in absurd (omega (arith, more, here)))
    ]))

-- what a search tells of numbers that rise
pub search_tells : (xs : List ℕ) (x : ℕ) (r : Result ℕ ℕ) → AllPairs (λ a b. a < b) xs → IsBinarySearchResult (λ y. nat_cmp y x) xs r → is_ok r ≡ is_among xs x
search_tells xs x r rising found = told xs x r (searched xs x r found (never-falls xs rising))
