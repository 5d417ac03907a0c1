-- A sweep leaves no constant out.
use Rattle.std.proofs.Common.{◌⊎◌, inl, inr, zero, suc, List, [], ◌∷◌, ℤ, pos, ◌-ℤ◌, ◌*ℤ◌, ◌≤ℤ◌, refl, sym, subst, arith, Any}
use Rattle.frac_core.specs.Fraction.{Fraction}
use borrow.Author.Differences.{ints}
use Rattle.frac_core.proofs.Integers.{sign_cases}
use Rattle.sweep_laws.specs.Fractions.{IsNoMore}
use Rattle.sweep_laws.specs.Stretches.{Clash, Cover, Piece, Stretch, end_of, start_of}
use Rattle.sweep_laws.specs.Laws.{IsInStretch, SweepCovers}

-- of two numbers one is no greater than the other
pub no_more_either : (u v : ℤ) → (u ≤ℤ v) ⊎ (v ≤ℤ u)
no_more_either u v = elim (sign_cases (u -ℤ v)) [
  | inl e ↦ inl (omega (arith, ints, e))
  | inr e ↦ elim e [
    | inl above ↦ inr (omega (arith, ints, above))
    | inr below ↦ inl (omega (arith, ints, below))
  ]
]

in_stretch : (w : Fraction) (s : Stretch) → IsNoMore (start_of s) w → IsNoMore w (end_of s) → IsInStretch w s
in_stretch w (Piece from to low high) a b = (a, b)
in_stretch w (Clash from to by) a b = (a, b)

any_first : (P : Stretch → Type 0) (s : Stretch) (rest : List Stretch) → P s → Any P (s ∷ rest)
any_first P s rest h = (zero, s, omega arith, refl, h)

any_later : (P : Stretch → Type 0) (s : Stretch) (rest : List Stretch) → Any P rest → Any P (s ∷ rest)
any_later P s rest (n, x, lt, e, h) = (suc n, x, omega (arith, lt), e, h)

pub covered : (from to w : Fraction) (stretches : List Stretch) → Cover from to stretches → IsNoMore from w → IsNoMore w to → Any (IsInStretch w) stretches
covered from to w [] c a b = absurd c
covered from to w (s ∷ []) c a b =
    any_first (IsInStretch w) s []
    (in_stretch w s (subst (λ (f : Fraction). IsNoMore f w) (sym c.0) a) (subst (λ (f : Fraction). IsNoMore w f) (sym c.1) b))
covered from to w (s ∷ t ∷ rest) c a b =
    elim (no_more_either (w.num *ℤ pos (end_of s).den) ((end_of s).num *ℤ pos w.den)) [
      | inl before ↦ any_first (IsInStretch w) s (t ∷ rest) (in_stretch w s (subst (λ (f : Fraction). IsNoMore f w) (sym c.0) a) before)
      | inr beyond ↦ any_later (IsInStretch w) s (t ∷ rest) (covered (end_of s) to w (t ∷ rest) c.1 beyond b)
    ]

pub sweep_covers : SweepCovers
sweep_covers from to w stretches c a b = covered from to w stretches c a b
