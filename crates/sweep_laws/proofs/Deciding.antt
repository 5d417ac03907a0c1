-- For each constant of a sweep there is a best layout, or a conflict is shown.
use Rattle.std.proofs.Common.{◌≡◌, ◌⊎◌, inl, inr, ℕ, Bool, true, false, List, [], ◌∷◌, ℤ, pos, ◌-ℤ◌, ◌*ℤ◌, ◌≤ℤ◌, ◌<ℤ◌, sym, subst, arith}
use borrow.Author.Differences.{ints}
use Rattle.frac_core.specs.Fraction.{Fraction, IsLowest}
use Rattle.frac_core.proofs.Bools.{true-not-false}
use Rattle.frac_core.proofs.Numbers.{low-or-up}
use Rattle.problem_core.specs.Layout.{Assignment, IsBest, Problem}
use Rattle.cert_core.specs.declared.by.By.{By}
use Rattle.cert_core.specs.Stops.{IsShownConflict}
use Rattle.corner_lines.specs.Shifts.{with_constant}
use Rattle.sweep_laws.specs.Fractions.{IsLess, IsNoMore}
use Rattle.sweep_laws.specs.Stretches.{AreRight, Clash, Cover, IsRightPiece, Piece, Stretch}
use Rattle.sweep_laws.specs.Laws.{SweepDecides}

-- of two numbers the first is no greater, or the second is less
no-more-or-less : (u v : ℤ) → (u ≤ℤ v) ⊎ (v <ℤ u)
no-more-or-less u v = elim (low-or-up (v -ℤ u)) [
  | inl low ↦ inr (omega (arith, ints, low))
  | inr up ↦ inl (omega (arith, ints, up))
]

less-or-no-less : (u v : ℤ) → (u <ℤ v) ⊎ (v ≤ℤ u)
less-or-no-less u v = elim (low-or-up (u -ℤ v)) [
  | inl low ↦ inl (omega (arith, ints, low))
  | inr up ↦ inr (omega (arith, ints, up))
]

weakly-less : (u v : ℤ) → u <ℤ v → u ≤ℤ v
weakly-less u v h = omega (arith, ints, h)

-- the best values, or a conflict
abbrev IsDecided : Problem → ℕ → Fraction → Type 0
IsDecided p row w = ((x : Assignment) × IsBest (with_constant row w p) x) ⊎ ((by : List By) × IsShownConflict (with_constant row w p) by)

at-piece : (p : Problem) (row : ℕ) (w f t : Fraction) (low high : List (ℕ × Fraction)) → IsRightPiece p row f t low high → IsLowest w → IsNoMore f w → IsNoMore w t → IsDecided p row w
at-piece p row w f t low high right is from to = let best = right.each w is from to in inl (best.0, best.1)

never : (A : Type 0) → true ≡ false → A
never A e = absurd (true-not-false e)

-- the constant is at least the first one's start, and above it where that doesn't count
decided-by : (p : Problem) (row : ℕ) (w : Fraction) (counts : Bool) (from to : Fraction) (stretches : List Stretch) → IsLowest w → Cover from to stretches → AreRight p row counts stretches → IsNoMore from w → (counts ≡ false → IsLess from w) → IsNoMore w to → IsDecided p row w
decided-by p row w counts from to [] is cover right low first up = absurd cover
decided-by p row w counts from to (Piece f t ls hs ∷ []) is cover right low first up =
    at-piece p row w f t ls hs right.0 is (subst (λ (e : Fraction). IsNoMore e w) (sym cover.0) low) (subst (λ (e : Fraction). IsNoMore w e) (sym cover.1) up)
decided-by p row w counts from to (Piece f t ls hs ∷ s ∷ rest) is cover right low first up =
    elim (no-more-or-less (w.num *ℤ pos t.den) (t.num *ℤ pos w.den)) [
      | inl before ↦ at-piece p row w f t ls hs right.0 is (subst (λ (e : Fraction). IsNoMore e w) (sym cover.0) low) before
      | inr beyond ↦ decided-by p row w false t to (s ∷ rest) is cover.1 right.1 (weakly-less (t.num *ℤ pos w.den) (w.num *ℤ pos t.den) beyond) (λ e. beyond) up
    ]
decided-by p row w counts from to (Clash f t by ∷ []) is cover right low first up =
    inr (
      by,
      right.0.each w is (record {
        lower = subst (λ (e : Fraction). IsNoMore e w) (sym cover.0) low;
        upper = subst (λ (e : Fraction). IsNoMore w e) (sym cover.1) up;
        not_first = λ e. subst (λ (g : Fraction). IsLess g w) (sym cover.0) (first e);
        not_last = λ e. never (IsLess w t) e;
      }),
    )
decided-by p row w counts from to (Clash f t by ∷ Clash g u more ∷ rest) is cover right low first up =
    elim (no-more-or-less (w.num *ℤ pos t.den) (t.num *ℤ pos w.den)) [
      | inl before ↦ inr (
        by,
        right.0.each w is (record {
          lower = subst (λ (e : Fraction). IsNoMore e w) (sym cover.0) low;
          upper = before;
          not_first = λ e. subst (λ (g : Fraction). IsLess g w) (sym cover.0) (first e);
          not_last = λ e. never (IsLess w t) e;
        }),
      )
      | inr beyond ↦ decided-by p row w true t to (Clash g u more ∷ rest) is cover.1 right.1 (weakly-less (t.num *ℤ pos w.den) (w.num *ℤ pos t.den) beyond) (λ e. beyond) up
    ]
decided-by p row w counts from to (Clash f t by ∷ Piece g u ls hs ∷ rest) is cover right low first up =
    elim (less-or-no-less (w.num *ℤ pos t.den) (t.num *ℤ pos w.den)) [
      | inl before ↦ inr (
        by,
        right.0.each w is (record {
          lower = subst (λ (e : Fraction). IsNoMore e w) (sym cover.0) low;
          upper = weakly-less (w.num *ℤ pos t.den) (t.num *ℤ pos w.den) before;
          not_first = λ e. subst (λ (g : Fraction). IsLess g w) (sym cover.0) (first e);
          not_last = λ e. before;
        }),
      )
      | inr beyond ↦ decided-by p row w true t to (Piece g u ls hs ∷ rest) is cover.1 right.1 beyond (λ e. never (IsLess t w) e) up
    ]

pub sweep_decides : SweepDecides
sweep_decides p row from to w stretches sweep is low up = decided-by p row w true from to stretches is sweep.covers sweep.right low (λ e. never (IsLess from w) e) up
