-- Rows that are over, and the row that a sum of terms names.
use Rattle.std.proofs.Common.{◌≡◌, ◌∙◌, ℕ, ◌+◌, ◌<◌, ◌≤◌, List, length, get_or, refl, sym, ap, subst, arith, inl, inr}
use Rattle.std.proofs.lemmas.Bool.{cases_eq, cases_lt}
use Rattle.std.proofs.lemmas.List.{get_or_default}
use Rattle.problem_core.specs.declared.parts.Mark.{Mark}
use Rattle.problem_core.specs.declared.parts.RowName.{RowName}
use Rattle.problem_core.specs.declared.parts.Side.TheVariants.{Over}
use Rattle.problem_core.specs.declared.stops.What.TheVariants.{Attr}
use Rattle.problem_core.specs.declared.stops.Quantity.TheVariants.{Plain, Terms}
use Rattle.problem_core.specs.Kept.{IsWhole}
use Rattle.problem_core.specs.Layout.{Problem, Row}
use Rattle.problem_core.specs.Corners.{IsIn, place_of}
use Rattle.problem_core.specs.Unfit.{AreOverFrom, HasNoWriting, IsUnfitTerms, first_terms, over_mark}
use Rattle.path_lines.proofs.Walking.FirstLines.{row_name}
use Rattle.path_fits.specs.declared.last.Fit.{Fit}
use Rattle.path_fits.specs.declared.last.Fit.TheVariants.{Fits, Unfit, NoRoom}
use Rattle.path_fits.specs.Fits.{IsFitAt}
use Rattle.path_fits.specs.TermSums.{AreOverAt, IsRowFit}
use Rattle.path_fits.proofs.Beginning.FirstSums.{over_number as same_id}

-- the row at a place, and the one that the quantity names
one_row : (p : Problem) (i j : ℕ) (d : Row) → IsWhole p → i < length p.rows → j < length p.rows → (get_or p.rows i d).id ≡ (get_or p.rows j d).id → i ≡ j
one_row p i j d whole within there e =
    elim (cases_lt i j) [
      | inl before ↦ let h : (get_or p.rows i d).id < (get_or p.rows j d).id = whole.rising i j d before there in absurd (omega (arith, h, e))
      | inr from ↦
          elim (cases_lt j i) [
            | inl after ↦ let h : (get_or p.rows j d).id < (get_or p.rows i d).id = whole.rising j i d after within in absurd (omega (arith, h, e))
            | inr not_after ↦ omega (arith, from, not_after)
          ]
    ]

pub over_from : (p : Problem) (at : List Mark) (i : ℕ) (r : Row) → IsWhole p → i < length p.rows → get_or p.rows i r ≡ r → AreOverAt p at i (length p.rows) → AreOverFrom p at r.id
over_from p at i r whole within is over k d there le =
    let late : i ≤ k = elim (cases_lt k i) [
      | inl before ↦ let h : (get_or p.rows k r).id < (get_or p.rows i r).id = whole.rising k i r before within in
          let a : (get_or p.rows i r).id ≡ r.id = ap (λ (s : Row). s.id) is in
          let b : (get_or p.rows k d).id ≡ (get_or p.rows k r).id = ap (λ (s : Row). s.id) (get_or_default p.rows k d r there) in
          absurd (omega (arith, h, a, b, le))
      | inr from ↦ from
    ] in
    subst (λ (n : RowName). IsIn (place_of n Over) at) (row_name p k d there) (over k late there)

pub over_at : (p : Problem) (at : List Mark) (i : ℕ) (r : Row) → IsWhole p → i < length p.rows → get_or p.rows i r ≡ r → AreOverFrom p at r.id → AreOverAt p at i (length p.rows)
over_at p at i r whole within is over k late there =
    let le : r.id ≤ (get_or p.rows k r).id = elim (cases_eq i k) [
      | inl e ↦ let a : r.id ≡ (get_or p.rows k r).id = ap (λ (s : Row). s.id) (sym is ∙ ap (λ (n : ℕ). get_or p.rows n r) e) in omega (arith, a)
      | inr ne ↦ let h : (get_or p.rows i r).id < (get_or p.rows k r).id = whole.rising i k r (omega (arith, late, ne)) there in
          let a : (get_or p.rows i r).id ≡ r.id = ap (λ (s : Row). s.id) is in omega (arith, h, a)
    ] in
    subst (λ (n : RowName). IsIn (place_of n Over) at) (sym (row_name p k r there)) (over k r there le)

-- what is named of this mark is the sum of this row
pub named_row : (p : Problem) (at : List Mark) (mark : Mark) (j i : ℕ) (r : Row) → IsWhole p → i < length p.rows → get_or p.rows i r ≡ r → over_mark r.id ≡ mark → IsUnfitTerms p at mark j
    → AreOverFrom p at r.id × (1 ≤ j) × (j ≤ length r.terms + 1) × HasNoWriting p at (first_terms r j)
named_row p at mark j i r whole within is e (k, s, there, same, (m, over, low, high, none)) =
    let ids : r.id ≡ s.id = same_id r.id s.id (e ∙ m) in
    let a : (get_or p.rows i r).id ≡ (get_or p.rows k r).id = ap (λ (t : Row). t.id) is ∙ ids ∙ ap (λ (t : Row). t.id) (sym same ∙ get_or_default p.rows k s r there) in
    let rows : s ≡ r = sym same ∙ get_or_default p.rows k s r there ∙ ap (λ (n : ℕ). get_or p.rows n r) (sym (one_row p i k r whole within there a)) ∙ is in
    subst (λ (t : Row). AreOverFrom p at t.id × (1 ≤ j) × (j ≤ length t.terms + 1) × HasNoWriting p at (first_terms t j)) rows (over, low, high, none)

unfit_named : (p : Problem) (at : List Mark) (mark : Mark) (j i : ℕ) (r : Row) → i < length p.rows → get_or p.rows i r ≡ r → over_mark r.id ≡ mark → AreOverFrom p at r.id → 1 ≤ j → j ≤ length r.terms + 1 → HasNoWriting p at (first_terms r j) → IsUnfitTerms p at mark j
unfit_named p at mark j i r within is e over low high none = (i, r, within, is, (sym e, over, low, high, none))

pub fit_named : (p : Problem) (at : List Mark) (mark : Mark) (j i : ℕ) (r : Row) (fit : Fit) → IsWhole p → i < length p.rows → get_or p.rows i r ≡ r → over_mark r.id ≡ mark → AreOverFrom p at r.id → 1 ≤ j → j ≤ length r.terms + 1 → IsRowFit p at r j fit → IsFitAt p at (Terms mark j) fit
fit_named p at mark j i r Fits whole within is e over low high fits = λ unfit. fits (named_row p at mark j i r whole within is e unfit).3
fit_named p at mark j i r Unfit whole within is e over low high none = unfit_named p at mark j i r within is e over low high none
fit_named p at mark j i r NoRoom whole within is e over low high (inl (k, first, less, none)) = (Terms mark k, (refl, less), unfit_named p at mark k i r within is e over first (omega (arith, less, high)) none)
fit_named p at mark j i r NoRoom whole within is e over low high (inr (attr, any, unfit)) = (Plain (Attr attr), (i, r, within, is, (sym e, any)), unfit)
