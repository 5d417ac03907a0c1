-- Which of two columns over their numbers is the lesser, by the levels at which lines stand.
use Rattle.std.proofs.Common.{◌≡◌, ◌∙◌, inl, inr, ℕ, zero, suc, ◌+◌, ◌<◌, ◌≤◌, List, [], ◌∷◌, length, ℤ, pos, ◌*ℤ◌, ◌-ℤ◌, ◌<ℤ◌, refl, sym, ap, subst, arith, AllPairs, Contains, slice_index_or, slice_get}
use Rattle.std.specs.Prelude.{Some, None}
use borrow.Author.Differences.{ints}
use Rattle.frac_core.proofs.Integers.{mul-zero_ℤ}
use Rattle.problem_core.specs.declared.parts.Mark.{Mark}
use Rattle.problem_core.specs.declared.parts.Level.{Level}
use Rattle.problem_core.specs.Layout.{Problem, lines}
use Rattle.problem_core.specs.Corners.{place}
use Rattle.problem_core.specs.Kept.{IsWhole}
use Rattle.problem_core.specs.Levels.{IsLevelAt}
use Rattle.corner_view.specs.Seen.{IsInUse, IsKeptCorner, IsMarkOf, IsReducedAt, IsStronger}
use Rattle.corner_ends.specs.Columns.{Reduced}
use Rattle.corner_ends.proofs.Fronts.{level_named, reduced_there, some_line, used_line}
use Rattle.corner_ends.proofs.Marks.{got_holds, same_got}
use Rattle.dual_run.specs.declared.ratios.Choice.{Choice}
use Rattle.dual_run.specs.Entering.{AreLevels, IsNoGreater}
use Rattle.dual_run.proofs.Lesser.{lex_at, lex_none}
use Rattle.frac_core.proofs.Orders.{three as order}
use Rattle.corner_lines.proofs.LevelRows.StayRows.{level_one}

-- ---- items of a list

pub contains_got : {X : Type 0} (xs : List X) (x : X) → Contains xs x → (q : ℕ) × (q < length xs) × (slice_get xs q ≡ Some x)
contains_got [] x (q, within, is) = absurd (omega (arith, within))
contains_got (y ∷ xs) x (zero, within, is) = (0, omega arith, ap (λ z. Some z) is)
contains_got (y ∷ xs) x (suc q, within, is) = let h = contains_got xs x (q, omega (arith, within), is) in (suc h.0, (let less = h.1 in omega (arith, less)), h.2)

got_within : {X : Type 0} (xs : List X) (q : ℕ) (x : X) → slice_get xs q ≡ Some x → q < length xs
got_within [] q x e = absurd (let none : None ≡ Some x = e in cc)
got_within (y ∷ xs) zero x e = omega arith
got_within (y ∷ xs) (suc q) x e = let h = got_within xs q x e in omega (arith, h)

got_item : {X : Type 0} (xs : List X) (q : ℕ) (x d : X) → slice_get xs q ≡ Some x → slice_index_or xs q d ≡ x
got_item [] q x d e = absurd (let none : None ≡ Some x = e in cc)
got_item (y ∷ xs) zero x d e = let g : Some y ≡ Some x = e in cc
got_item (y ∷ xs) (suc q) x d e = got_item xs q x d e

pair_got : {X : Type 0} (R : X → X → Type 0) (xs : List X) (i q : ℕ) (x y : X) → AllPairs R xs → i < q → slice_get xs i ≡ Some x → slice_get xs q ≡ Some y → R x y
pair_got R xs i q x y h less e f =
    subst (λ z. R z y) (got_item xs i x x e) (subst (λ z. R (slice_index_or xs i x) z) (got_item xs q y x f) (h i q x less (got_within xs q y f)))

-- ---- levels

-- what the two marks cost at the level, each over its number, is equal
abbrev pub IsEqualAt : Problem → List Mark → Choice → Choice → Level → Type 0
IsEqualAt p at a b level = (r : Reduced p at) (k : ℕ) → IsLevelAt p level k → b.by *ℤ r.costs k (place a.mark) ≡ a.by *ℤ r.costs k (place b.mark)

-- it is at the first i levels
abbrev pub AreEqualBefore : Problem → List Mark → List Level → Choice → Choice → ℕ → Type 0
AreEqualBefore p at levels a b i = (q : ℕ) (level : Level) → q < i → slice_get levels q ≡ Some level → IsEqualAt p at a b level

pub equal_turned : (p : Problem) (at : List Mark) (levels : List Level) (a b : Choice) (i : ℕ) → AreEqualBefore p at levels a b i → AreEqualBefore p at levels b a i
equal_turned p at levels a b i h q level less got r k here = sym (h q level less got r k here)

pub equal_more : (p : Problem) (at : List Mark) (levels : List Level) (a b : Choice) (i : ℕ) (level : Level) → AreEqualBefore p at levels a b i → slice_get levels i ≡ Some level → IsEqualAt p at a b level → AreEqualBefore p at levels a b (i + 1)
equal_more p at levels a b i level h got here q other less e =
    elim (order q i) [
      | inl before ↦ h q other before e
      | inr (inl same) ↦ subst (IsEqualAt p at a b) (same_got (slice_get levels i) level other got (subst (λ (n : ℕ). slice_get levels n ≡ Some other) same e)) here
      | inr (inr more) ↦ absurd (omega (arith, less, more))
    ]

pub equal_none : (p : Problem) (at : List Mark) (levels : List Level) (a b : Choice) → AreEqualBefore p at levels a b 0
equal_none p at levels a b q level less e = absurd (omega (arith, less))

pub both-zero : (x y z w : ℤ) → z ≡ pos 0 → w ≡ pos 0 → x *ℤ z -ℤ y *ℤ w ≡ pos 0
both-zero x y z w e f =
    let one : x *ℤ z ≡ pos 0 = ap (λ (k : ℤ). x *ℤ k) e ∙ mul-zero_ℤ x in
    let two : y *ℤ w ≡ pos 0 = ap (λ (k : ℤ). y *ℤ k) f ∙ mul-zero_ℤ y in
    omega (arith, ints, one, two)

zero-there : (p : Problem) (at : List Mark) (levels : List Level) (a b : Choice) (i j : ℕ) → IsKeptCorner p at → AreLevels p levels → ((q : ℕ) (level : Level) → slice_get levels q ≡ Some level → IsLevelAt p level j → q < i) → AreEqualBefore p at levels a b i → (r : Reduced p at) → a.by *ℤ r.costs j (place b.mark) -ℤ b.by *ℤ r.costs j (place a.mark) ≡ pos 0
zero-there p at levels a b i j kept are within equal r =
    elim (some_line (lines p) j) [
      | inl used ↦
          let named = level_named p j kept.whole used in
          let found = contains_got levels named.0 (are.all named.0 (used.0, used.1, used.2, used.3, subst (λ (n : ℕ). IsLevelAt p named.0 n) (sym used.4) named.1)) in
          let e = equal found.0 named.0 (within found.0 named.0 found.2 named.1) found.2 r j named.1 in
          omega (arith, ints, e)
      | inr none ↦ both-zero a.by b.by (r.costs j (place b.mark)) (r.costs j (place a.mark)) (r.unused j none (place b.mark)) (r.unused j none (place a.mark))
    ]

-- of two levels the stronger one stands before
level-before : (p : Problem) (levels : List Level) (i n : ℕ) (level : Level) → IsWhole p → AreLevels p levels → slice_get levels i ≡ Some level → IsLevelAt p level n → (j q : ℕ) (other : Level) → j < n → slice_get levels q ≡ Some other → IsLevelAt p other j → q < i
level-before p levels i n level whole are got here j q other less e there =
    elim (order q i) [
      | inl before ↦ before
      | inr (inl same) ↦
          let one : other ≡ level = same_got (slice_get levels i) other level (subst (λ (m : ℕ). slice_get levels m ≡ Some other) same e) got in
          let equal : j ≡ n = level_one p level j n whole (subst (λ (x : Level). IsLevelAt p x j) one there) here in
          absurd (omega (arith, equal, less))
      | inr (inr more) ↦ let after : n < j = pair_got (IsStronger p) levels i q level other are.in_order more got e n j here there in absurd (omega (arith, after, less))
    ]

-- ---- which is the lesser

pub lesser_here : (p : Problem) (at : List Mark) (levels : List Level) (a b : Choice) (i : ℕ) (level : Level) → IsKeptCorner p at → AreLevels p levels → slice_get levels i ≡ Some level → AreEqualBefore p at levels a b i
    → ((r : Reduced p at) (k : ℕ) → IsLevelAt p level k → (b.by *ℤ r.costs k (place a.mark)) <ℤ (a.by *ℤ r.costs k (place b.mark))) → IsNoGreater p at a b
lesser_here p at levels a b i level kept are got equal less r =
    let used = got_holds (IsInUse p) levels i level are.used got in
    let n = used.1.level in
    let here : IsLevelAt p level n = used.4 in
    lex_at (λ k. a.by *ℤ r.costs k (place b.mark) -ℤ b.by *ℤ r.costs k (place a.mark)) n
    (λ j before. zero-there p at levels a b i j kept are (λ q other e there. level-before p levels i n level kept.whole are got here j q other before e there) equal r)
    (let h = less r n here in omega (arith, ints, h))

pub all_equal : (p : Problem) (at : List Mark) (levels : List Level) (a b : Choice) (i : ℕ) → IsKeptCorner p at → AreLevels p levels → length levels ≤ i → AreEqualBefore p at levels a b i → IsNoGreater p at a b
all_equal p at levels a b i kept are over equal r =
    lex_none (λ k. a.by *ℤ r.costs k (place b.mark) -ℤ b.by *ℤ r.costs k (place a.mark))
    (λ j. zero-there p at levels a b i j kept are (λ q other e there. (let h = got_within levels q other e in omega (arith, h, over))) equal r)

-- the reduced cost of a mark at a level in use
pub cost_there : (p : Problem) (at : List Mark) (level : Level) (m : Mark) (z : ℤ) → IsKeptCorner p at → IsInUse p level → IsMarkOf p m → IsReducedAt p at level m z → (r : Reduced p at) (k : ℕ) → IsLevelAt p level k → r.costs k (place m) ≡ z
cost_there p at level m z kept used mark is r k here = reduced_there p at r level k m z kept.whole kept.rays mark (used_line p level k kept.whole here used) here is

-- an item that a loop looks at
pub got_at : {X : Type 0} (xs : List X) (i : ℕ) (d : X) → i < length xs → slice_get xs i ≡ Some (slice_index_or xs i d)
got_at [] i d within = absurd (omega (arith, within))
got_at (y ∷ xs) zero d within = refl
got_at (y ∷ xs) (suc i) d within = got_at xs i d (omega (arith, within))
