-- Terms of rising attributes, none of which is 0 times, are known by the coefficients.
use Rattle.std.proofs.Common.{◌≡◌, ◌∙◌, ◌⊎◌, inl, inr, ℕ, zero, suc, ◌<◌, cond, nat_eq, List, [], ◌∷◌, ℤ, pos, All, AllPairs, refl, sym, ap, ap₂, subst, arith, eq-eqb, ne_eqb}
use Rattle.std.proofs.lemmas.List.Elements.{All-head, All-tail}
use borrow.Author.Differences.{ints}
use Rattle.frac_core.proofs.Lists.{pairs-rest}
use Rattle.problem_core.specs.declared.parts.Term.{Term}
use Rattle.problem_core.specs.Layout.{coefficient}
use Rattle.problem_core.specs.Kept.{IsTerm}
use Rattle.frac_core.specs.Fraction.{Fraction}
use Rattle.constraint_compile.specs.Coefficients.Sums.{AreTerms}
use Rattle.session_laws.proofs.Posing.Sums.{one-over}

abbrev Rise : List Term → Type 0
Rise ts = AllPairs (λ (s t : Term). s.attr < t.attr) ts

-- what the head has of an attribute
head-of : ℕ → Term → ℤ
head-of v t = cond (nat_eq t.attr v) t.by (pos 0)

absent : (v : ℕ) (ts : List Term) → All (λ t. v < t.attr) ts → coefficient v ts ≡ pos 0
absent v [] above = refl
absent v (t ∷ ts) above =
    let more : v < t.attr = All-head (λ (s : Term). v < s.attr) t ts above in
    let no : cond (nat_eq t.attr v) t.by (pos 0) ≡ pos 0 = rw (ne_eqb t.attr v (λ same. omega (arith, more, same))) refl in
    omega (arith, ints, no, absent v ts (All-tail (λ (s : Term). v < s.attr) t ts above))

-- the others have later attributes
others : (t : Term) (ts : List Term) → Rise (t ∷ ts) → All (λ s. t.attr < s.attr) ts
others t ts rising = λ k d within. rising zero (suc k) d (omega arith) (omega (arith, within))

first : (t : Term) (ts : List Term) → Rise (t ∷ ts) → coefficient t.attr (t ∷ ts) ≡ t.by
first t ts rising =
    let yes : cond (nat_eq t.attr t.attr) t.by (pos 0) ≡ t.by = rw (eq-eqb t.attr t.attr refl) refl in
    omega (arith, ints, yes, absent t.attr ts (others t ts rising))

-- an attribute before the first one has no part
before : (v : ℕ) (t : Term) (ts : List Term) → v < t.attr → Rise (t ∷ ts) → coefficient v (t ∷ ts) ≡ pos 0
before v t ts less rising =
    let no : cond (nat_eq t.attr v) t.by (pos 0) ≡ pos 0 = rw (ne_eqb t.attr v (λ same. omega (arith, less, same))) refl in
    omega (arith, ints, no, absent v ts (λ k d within. omega (arith, less, others t ts rising k d within)))

-- the coefficients are the same
abbrev AreAlike : List Term → List Term → Type 0
AreAlike ss ts = (v : ℕ) → coefficient v ss ≡ coefficient v ts

-- what comes first isn't missing in the other list
no-less : (s : Term) (ss ts : List Term) → Rise (s ∷ ss) → IsTerm s → coefficient s.attr ts ≡ pos 0 → AreAlike (s ∷ ss) ts → ⊥
no-less s ss ts rising is none alike = is.nonzero (sym (first s ss rising) ∙ alike s.attr ∙ none)

order : (v w : ℕ) → (v < w) ⊎ (w < v) ⊎ (v ≡ w)
order v w = grind arith

one-head : (s t : Term) (ss ts : List Term) → Rise (s ∷ ss) → Rise (t ∷ ts) → AreAlike (s ∷ ss) (t ∷ ts) → s.attr ≡ t.attr → s ≡ t
one-head s t ss ts rising also alike same =
    let by : s.by ≡ t.by = sym (first s ss rising) ∙ ap (λ v. coefficient v (s ∷ ss)) same ∙ alike t.attr ∙ first t ts also in
    ap₂ (λ (v : ℕ) (n : ℤ). (let r : Term = record { attr = v; by = n } in r)) same by

less-tail : (t : Term) (ss ts : List Term) → AreAlike (t ∷ ss) (t ∷ ts) → AreAlike ss ts
less-tail t ss ts alike v = omega (arith, ints, alike v)

heads : (s t : Term) (ss ts : List Term) → Rise (s ∷ ss) → Rise (t ∷ ts) → IsTerm s → IsTerm t → AreAlike (s ∷ ss) (t ∷ ts) → s ≡ t
heads s t ss ts rising also is too alike = elim (order s.attr t.attr) [
  | inl less ↦ absurd (no-less s ss (t ∷ ts) rising is (before s.attr t ts less also) alike)
  | inr rest ↦ elim rest [
    | inl more ↦ absurd (no-less t ts (s ∷ ss) also too (before t.attr s ss more rising) (λ v. sym (alike v)))
    | inr same ↦ one-head s t ss ts rising also alike same
  ]
]

pub same-terms : (ss ts : List Term) → Rise ss → Rise ts → All IsTerm ss → All IsTerm ts → AreAlike ss ts → ss ≡ ts
same-terms [] [] rising also are too alike = refl
same-terms [] (t ∷ ts) rising also are too alike = absurd (no-less t ts [] also (All-head IsTerm t ts too) refl (λ v. sym (alike v)))
same-terms (s ∷ ss) [] rising also are too alike = absurd (no-less s ss [] rising (All-head IsTerm s ss are) refl alike)
same-terms (s ∷ ss) (t ∷ ts) rising also are too alike =
    let here : s ≡ t = heads s t ss ts rising also (All-head IsTerm s ss are) (All-head IsTerm t ts too) alike in
    let tail : AreAlike ss ts = less-tail t ss ts (subst (λ (r : Term). AreAlike (r ∷ ss) (t ∷ ts)) here alike) in
    ap₂ (λ (r : Term) (rs : List Term). r ∷ rs) here
    (same-terms ss ts (pairs-rest (λ (a b : Term). a.attr < b.attr) s ss rising) (pairs-rest (λ (a b : Term). a.attr < b.attr) t ts also) (All-tail IsTerm s ss are) (All-tail IsTerm t ts too) tail)

-- the terms of some coefficients over a scale are one list
pub one-terms : (b : ℕ → Fraction) (scale : ℕ) (ss ts : List Term) → ((v : ℕ) → 0 < (b v).den) → AreTerms b scale ss → AreTerms b scale ts → ss ≡ ts
one-terms b scale ss ts above is also =
    same-terms ss ts is.rising also.rising is.each also.each
    (λ v. one-over scale (b v) (coefficient v ss) (coefficient v ts) (above v) (is.over v) (also.over v))
