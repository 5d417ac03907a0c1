-- Rows of levels in lowest terms, before and after they are divided, and what of them fits.
use Rattle.std.proofs.Common.{◌≡◌, ◌∙◌, ℕ, ◌*◌, ◌<◌, ◌⊎◌, inl, inr, Bool, cond, nat_eq, List, get_or, refl, sym, ap, subst, arith, ℤ, pos, ◌*ℤ◌, unsigned_abs, All, eq-eqb, ne_eqb}
use Rattle.std.specs.Int.{◌∣◌}
use Rattle.std.specs.List.{AllByRecursion as Each}
use Rattle.std.proofs.lemmas.Bool.{cases_eq}
use Rattle.std.proofs.lemmas.List.Elements.{All-from_recursion, recursion_from_All}
use Rattle.std.proofs.lemmas.Nat.Gcd.{dvd-zero}
use borrow.Author.Differences.{ints}
use Rattle.frac_core.specs.Fraction.{IsFitting}
use Rattle.frac_core.proofs.Integers.{mul-zero_ℤ, zero_from_mul}
use Rattle.row_core.specs.Rows.{IsUnfit}
use Rattle.problem_core.specs.declared.parts.Mark.{Mark}
use Rattle.problem_core.specs.declared.parts.RowName.{RowName}
use Rattle.problem_core.specs.declared.parts.Side.{Side}
use Rattle.problem_core.specs.declared.parts.Side.TheVariants.{Under, Over}
use Rattle.problem_core.specs.Layout.{Line, Problem, lines}
use Rattle.problem_core.specs.Window.{zero_fraction}
use Rattle.problem_core.specs.Corners.{IsIn, place_of}
use Rattle.problem_core.specs.Levels.{AreFitting}
use Rattle.problem_core.proofs.Forms.{each-both, each-impl}
use Rattle.corner_laws.specs.Units.{IsLevelRow, IsReducedBy}
use Rattle.corner_laws.proofs.LevelCosts.LevelSizes.{level_fits}
use Rattle.corner_lines.specs.LineEquations.{AreReduced, IsOutsideLine}
use Rattle.corner_lines.specs.Levels.LevelCosts.{IsSound}
use Rattle.corner_lines.specs.Levels.LevelFits.{IsFittingRow}
use Rattle.corner_lines.specs.Levels.LevelRows.{IsDividedRow, IsUnfitRow, inside_number, reduced_number}
use Rattle.corner_lines.proofs.LevelRows.LevelExchanges.{inside-numbers}
use Rattle.corner_lines.proofs.Costs.LevelFits.{reduced-by, reduced-is, reduced_by, fit-of, Fitting as Known, reduced-fits}
use Rattle.corner_table.specs.Tables.{Lists, problem_of}
use Rattle.corner_table.specs.Kept.{AreSlots}
use Rattle.corner_exchange.proofs.Basics.RowEquations.{AreTermsOf, positive_part, unfit_terms}
use Rattle.frac_core.proofs.Numbers.{size-zero, size-of-zero as zero-size}
use Rattle.frac_core.proofs.Fitting.{zero-fits}
use Rattle.problem_core.proofs.Sides.{zero-kept as zero_kept}

-- ---- lowest terms

-- each line is outside, or has no number
abbrev pub AreApart : Problem → List Mark → (RowName → ℤ) → Type 0
AreApart p at by = All (λ l. IsOutsideLine at l.name ⊎ ((IsOutsideLine at l.name → ⊥) × (by l.name ≡ pos 0))) (lines p)

none-divides : (k g : ℕ) (y z : ℤ) → 0 < g → pos g *ℤ y ≡ z → z ≡ pos 0 → k ∣ unsigned_abs y
none-divides k g y z above e none = subst (λ (x : ℤ). k ∣ unsigned_abs x) (sym (zero_from_mul g y above (e ∙ none))) (dvd-zero k)

pub divided_terms : (p : Problem) (at : List Mark) (own : ℕ) (by : RowName → ℤ) (low : ℕ) (part : RowName → ℤ) → AreReduced (lines p) own by low part → AreApart p at by → IsDividedRow p at own by low part
divided_terms p at own by low part red apart = record {
  factor = red.factor;
  above = red.factor_positive;
  own_is = red.own_same;
  same = λ i d within out. red.same i d within;
  lowest = λ k divides each. red.lowest k divides (λ i d within. elim (apart i d within) [
    | inl out ↦ each i d within out
    | inr (inside, none) ↦ none-divides k red.factor (part (get_or (lines p) i d).name) (by (get_or (lines p) i d).name) red.factor_positive (red.same i d within) none
  ]);
}

-- the numbers of the lines that have one
abbrev part-or : (RowName → ℤ) → (RowName → ℤ) → RowName → ℤ
part-or by number name = cond (nat_eq (unsigned_abs (by name)) 0) (pos 0) (number name)

part-none : (by number : RowName → ℤ) (name : RowName) → by name ≡ pos 0 → part-or by number name ≡ pos 0
part-none by number name e = ap (λ (b : Bool). cond b (pos 0) (number name)) (eq-eqb (unsigned_abs (by name)) 0 (zero-size (by name) e))

part-same : (g : ℕ) (by number : RowName → ℤ) (name : RowName) → 0 < g → pos g *ℤ number name ≡ by name → part-or by number name ≡ number name
part-same g by number name above e =
    elim (cases_eq (unsigned_abs (by name)) 0) [
      | inl none ↦ let z : by name ≡ pos 0 = size-zero (by name) none in part-none by number name z ∙ sym (zero_from_mul g (number name) above (e ∙ z))
      | inr some ↦ ap (λ (b : Bool). cond b (pos 0) (number name)) (ne_eqb (unsigned_abs (by name)) 0 some)
    ]

reduced-of : (p : Problem) (at : List Mark) (own : ℕ) (by number : RowName → ℤ) (low : ℕ) → 0 < own → AreApart p at by → IsDividedRow p at own by low number → AreReduced (lines p) own by low (part-or by number)
reduced-of p at own by number low above apart d =
    let part = positive_part d.factor own (pos low) above (ap pos d.own_is) in
    record {
      factor = d.factor;
      factor_positive = d.above;
      low_positive = let e : pos low ≡ pos part.0 = part.1 in let up = part.2 in omega (arith, ints, e, up);
      own_same = d.own_is;
      same = λ i l within. elim (apart i l within) [
        | inl out ↦ ap (λ (z : ℤ). pos d.factor *ℤ z) (part-same d.factor by number (get_or (lines p) i l).name d.above (d.same i l within out)) ∙ d.same i l within out
        | inr (inside, none) ↦ ap (λ (z : ℤ). pos d.factor *ℤ z) (part-none by number (get_or (lines p) i l).name none) ∙ mul-zero_ℤ (pos d.factor) ∙ sym none
      ];
      lowest = λ k divides each. d.lowest k divides (λ i l within out. subst (λ (z : ℤ). k ∣ unsigned_abs z) (part-same d.factor by number (get_or (lines p) i l).name d.above (d.same i l within out)) (each i l within));
    }

-- where no row in lowest terms with these numbers fits, no lowest terms of the level's row do
pub unfit_divided : (t : Lists) (w : ℕ) (whole : ℕ → ℤ) (own : ℕ) (by : RowName → ℤ) (at : List Mark) → 0 < own → AreSlots t → AreTermsOf t w whole own by → AreApart (problem_of t) at by → IsUnfit whole → IsUnfitRow (problem_of t) at own by
unfit_divided t w whole own by at above slots are apart unfit low number d low_fits fits =
    unfit_terms t w whole own by (pos 0) 1 slots are unfit low (part-or by number) zero_fraction (reduced-of (problem_of t) at own by number low above apart d) refl low_fits
    (λ i l within. elim (apart i l within) [
      | inl out ↦ subst IsFitting (sym (part-same d.factor by number (get_or (lines (problem_of t)) i l).name d.above (d.same i l within out))) (fits i l within out)
      | inr (inside, none) ↦ zero-fits (part-or by number (get_or (lines (problem_of t)) i l).name) (part-none by number (get_or (lines (problem_of t)) i l).name none)
    ])
    zero_kept

-- ---- what fits

-- a line's number and both reduced costs
record Fitting (p : Problem) (at : List Mark) (level unit own : ℕ) (by number : RowName → ℤ) (l : Line) : Type 0 where
  known : Known p at level unit own by number l
  outside_fit : IsOutsideLine at l.name → IsFitting (number l.name)

-- a row that fits has numbers that do
pub fitting_numbers : (p : Problem) (at : List Mark) (level unit own : ℕ) (by number : RowName → ℤ) → IsSound p → IsLevelRow p at level unit own by → All (λ l. IsOutsideLine at l.name → by l.name ≡ number l.name) (lines p)
    → IsFittingRow p at level unit own number → AreFitting p (own * unit) by (reduced_by p level unit own by)
fitting_numbers p at level unit own by number sound row outside fit =
    let reduced : ℕ → ℤ = reduced_by p level unit own by in
    let known : Each (Fitting p at level unit own by number) (lines p) =
    each-impl (λ l. (((reduced (place_of l.name Under) ≡ reduced_number Under level unit own (by l.name) l) × (reduced (place_of l.name Over) ≡ reduced_number Over level unit own (by l.name) l)) × (((side : Side) → IsIn (place_of l.name side) at → by l.name ≡ inside_number side level unit own l) × (IsOutsideLine at l.name → by l.name ≡ number l.name)))
    × ((IsOutsideLine at l.name → IsFitting (number l.name)) × ((l.level ≡ level → IsOutsideLine at l.name → (side : Side) → IsFitting (reduced_number side level unit own (number l.name) l)) × (l.level ≡ level → (side inside : Side) → IsIn (place_of l.name inside) at → IsFitting (reduced_number side level unit own (inside_number inside level unit own l) l))))) _ (lines p)
    (λ l h. record {
      known = record { under_is = h.0.0.0; over_is = h.0.0.1; inside = h.0.1.0; outside = h.0.1.1; own_fit = h.1.1.0; inside_fit = h.1.1.1 };
      outside_fit = h.1.0;
    })
    (each-both _ _ (lines p) (each-both _ _ (lines p) (reduced-is p level unit own by sound) (each-both _ _ (lines p) (inside-numbers p at level unit own by row) (recursion_from_All _ (lines p) outside)))
    (each-both _ _ (lines p) (recursion_from_All _ (lines p) fit.outside_fit) (each-both _ _ (lines p) (recursion_from_All _ (lines p) fit.own_fit) (recursion_from_All _ (lines p) fit.inside_fit)))) in
    level_fits p at level unit own by reduced row (reduced-by p level unit own by sound)
    (record {
      scale_fits = fit.scale_fits;
      outside_fit = All-from_recursion (λ l. (IsIn (place_of l.name Under) at → ⊥) → (IsIn (place_of l.name Over) at → ⊥) → IsFitting (by l.name)) (lines p)
          (each-impl (Fitting p at level unit own by number) _ (lines p)
          (λ l h u o. subst IsFitting (sym (h.known.outside (record { under = u; over = o }))) (h.outside_fit (record { under = u; over = o }))) known);
      own_fit = All-from_recursion (λ l. l.level ≡ level → IsFitting (reduced (place_of l.name Under)) × IsFitting (reduced (place_of l.name Over))) (lines p)
          (each-impl (Fitting p at level unit own by number) _ (lines p)
          (λ l f e. (subst IsFitting (sym f.known.under_is) (reduced-fits p at level unit own by number l f.known e Under), subst IsFitting (sym f.known.over_is) (reduced-fits p at level unit own by number l f.known e Over))) known);
    })

abbrev HasNumbers : List Mark → (level unit own : ℕ) → (RowName → ℤ) → (RowName → ℤ) → Line → Type 0
HasNumbers at level unit own by number l = (((side : Side) → IsIn (place_of l.name side) at → by l.name ≡ inside_number side level unit own l) × (IsOutsideLine at l.name → by l.name ≡ number l.name))
    × (IsFitting (by l.name) × ((side : Side) → IsFitting (reduced_number side level unit own (by l.name) l)))

-- and numbers that fit are those of a row that does
pub numbers_fit : (p : Problem) (at : List Mark) (level unit own : ℕ) (by number : RowName → ℤ) (reduced : ℕ → ℤ) → IsLevelRow p at level unit own by → All (λ l. IsOutsideLine at l.name → by l.name ≡ number l.name) (lines p)
    → IsReducedBy p level unit own by reduced → AreFitting p (own * unit) by reduced → IsFittingRow p at level unit own number
numbers_fit p at level unit own by number reduced row outside is fit =
    let each : Each (HasNumbers at level unit own by number) (lines p) =
    each-both _ _ (lines p) (each-both _ _ (lines p) (inside-numbers p at level unit own by row) (recursion_from_All _ (lines p) outside))
    (each-both _ _ (lines p) (recursion_from_All _ (lines p) fit.times_fit)
    (each-impl (λ l. ((reduced (place_of l.name Under) ≡ reduced_number Under level unit own (by l.name) l) × (reduced (place_of l.name Over) ≡ reduced_number Over level unit own (by l.name) l)) × (IsFitting (reduced (place_of l.name Under)) × IsFitting (reduced (place_of l.name Over)))) _ (lines p)
    (λ l h side. both-sides level unit own (by l.name) l (subst IsFitting h.0.0 h.1.0) (subst IsFitting h.0.1 h.1.1) side)
    (each-both _ _ (lines p) (each-both _ _ (lines p) (recursion_from_All _ (lines p) is.under) (recursion_from_All _ (lines p) is.over)) (each-both _ _ (lines p) (recursion_from_All _ (lines p) (fit.reduced_fit Under)) (recursion_from_All _ (lines p) (fit.reduced_fit Over)))))) in
    record {
      scale_fits = fit.scale_fits;
      outside_fit = All-from_recursion (λ l. IsOutsideLine at l.name → IsFitting (number l.name)) (lines p) (each-impl (HasNumbers at level unit own by number) _ (lines p) (λ l h out. subst IsFitting (h.0.1 out) h.1.0) each);
      own_fit = All-from_recursion (λ l. l.level ≡ level → IsOutsideLine at l.name → (side : Side) → IsFitting (reduced_number side level unit own (number l.name) l)) (lines p)
          (each-impl (HasNumbers at level unit own by number) _ (lines p) (λ l h e out side. fit-of side level unit own (number l.name) (by l.name) l (sym (h.0.1 out)) (h.1.1 side)) each);
      inside_fit = All-from_recursion (λ l. l.level ≡ level → (side inside : Side) → IsIn (place_of l.name inside) at → IsFitting (reduced_number side level unit own (inside_number inside level unit own l) l)) (lines p)
          (each-impl (HasNumbers at level unit own by number) _ (lines p) (λ l h e side inside i. fit-of side level unit own (inside_number inside level unit own l) (by l.name) l (sym (h.0.0 inside i)) (h.1.1 side)) each);
    }
  where
    both-sides : (level unit own : ℕ) (y : ℤ) (l : Line) → IsFitting (reduced_number Under level unit own y l) → IsFitting (reduced_number Over level unit own y l) → (side : Side) → IsFitting (reduced_number side level unit own y l)
    both-sides level unit own y l u o Under = u
    both-sides level unit own y l u o Over = o
