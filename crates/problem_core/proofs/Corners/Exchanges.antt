-- The lexicographic rule: rows stay lexicographically positive at an exchange, the costs fall, and so no corner comes twice.
use Rattle.std.proofs.Common.{◌≡◌, ℕ, zero, suc, ◌<◌, List, [], ◌∷◌, ℤ, pos, ◌+ℤ◌, ◌*ℤ◌, ◌<ℤ◌, sym, ap, subst, ◌∙◌, inl, inr, ◌⊎◌, arith}
use Rattle.std.specs.List.{AllByRecursion as Each}
use lib.Signed.{<ℤ_irrefl}
use borrow.Author.Differences.{ints}
use Rattle.frac_core.proofs.Integers.{zero-mul_ℤ, zero_from_mul, mul_positive, mul-zero_ℤ, add-zero_ℤ, positive_from}

-- along the columns cs the first of f's numbers that isn't 0 is above 0, and there is one
abbrev pub IsLexPositive : (ℕ → ℤ) → List ℕ → Type 0
IsLexPositive f [] = ⊥
IsLexPositive f (c ∷ cs) = (pos 0 <ℤ f c) ⊎ ((f c ≡ pos 0) × IsLexPositive f cs)

abbrev pub AreZero : (ℕ → ℤ) → List ℕ → Type 0
AreZero f cs = Each (λ c. f c ≡ pos 0) cs

-- positive multiples
pub lex_scaled : (g : ℕ) (f h : ℕ → ℤ) (cs : List ℕ) → 0 < g → ((c : ℕ) → pos g *ℤ h c ≡ f c) → IsLexPositive f cs → IsLexPositive h cs
lex_scaled g f h [] p e l = l
lex_scaled g f h (c ∷ cs) p e (inl l) = inl (positive_from g (h c) (subst (λ (t : ℤ). pos 0 <ℤ t) (sym (e c)) l))
lex_scaled g f h (c ∷ cs) p e (inr l) = inr (zero_from_mul g (h c) p (e c ∙ l.0), lex_scaled g f h cs p e l.1)

pub lex_times : (g : ℕ) (f : ℕ → ℤ) (cs : List ℕ) → 0 < g → IsLexPositive f cs → IsLexPositive (λ c. pos g *ℤ f c) cs
lex_times g f [] p l = l
lex_times g f (c ∷ cs) p (inl l) = inl (mul_positive g (f c) p l)
lex_times g f (c ∷ cs) p (inr l) = inr (ap (λ (t : ℤ). pos g *ℤ t) l.0 ∙ mul-zero_ℤ (pos g), lex_times g f cs p l.1)

pub lex_plus : (f h : ℕ → ℤ) (cs : List ℕ) → IsLexPositive f cs → IsLexPositive h cs → IsLexPositive (λ c. f c +ℤ h c) cs
lex_plus f h [] p q = p
lex_plus f h (c ∷ cs) (inl p) (inl q) = inl (omega (arith, ints, p, q))
lex_plus f h (c ∷ cs) (inl p) (inr q) = inl (omega (arith, ints, p, q.0))
lex_plus f h (c ∷ cs) (inr p) (inl q) = inl (omega (arith, ints, p.0, q))
lex_plus f h (c ∷ cs) (inr p) (inr q) = inr (omega (arith, ints, p.0, q.0), lex_plus f h cs p.1 q.1)

pub lex_irreflexive : (f : ℕ → ℤ) (cs : List ℕ) → IsLexPositive f cs → AreZero f cs → ⊥
lex_irreflexive f [] p z = p
lex_irreflexive f (c ∷ cs) (inl p) z = <ℤ_irrefl (subst (λ (t : ℤ). pos 0 <ℤ t) z.0 p)
lex_irreflexive f (c ∷ cs) (inr p) z = lex_irreflexive f cs p.1 z.1

-- ---- a row after an exchange

-- the row's entry at the entering column isn't above 0: nothing to show of ratios
pub stays_positive : (old leaving new : ℕ → ℤ) (g k m : ℕ) (cs : List ℕ) → 0 < g → 0 < k → ((c : ℕ) → pos g *ℤ new c ≡ pos k *ℤ old c +ℤ pos m *ℤ leaving c) → IsLexPositive old cs → IsLexPositive leaving cs → IsLexPositive new cs
stays_positive old leaving new g k zero cs p q e a b =
    lex_scaled g (λ c. pos k *ℤ old c) new cs p (λ c. e c ∙ ap (λ (t : ℤ). pos k *ℤ old c +ℤ t) (zero-mul_ℤ (leaving c)) ∙ add-zero_ℤ (pos k *ℤ old c)) (lex_times k old cs q a)
stays_positive old leaving new g k (suc m) cs p q e a b =
    lex_scaled g (λ c. pos k *ℤ old c +ℤ pos (suc m) *ℤ leaving c) new cs p e (lex_plus _ _ cs (lex_times k old cs q a) (lex_times (suc m) leaving cs (omega arith) b))
