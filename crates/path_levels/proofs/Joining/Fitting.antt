-- Which reduced costs fit.
use Rattle.std.proofs.Common.{◌≡◌, ◌∙◌, ℕ, ◌+◌, ◌<◌, List, Bool, true, false, length, get_or, arith, inl, inr, ap, subst, sym, ℤ, pos, unsigned_abs}
use Rattle.std.specs.Prelude.{◌↔◌, IsTrue}
use Rattle.std.proofs.lemmas.List.{get_or_default}
use Rattle.path_lines.specs.Numbers.{number_at}
use Rattle.path_levels.specs.declared.outline.LineFacts.{LineFacts}
use Rattle.std.specs.declared.option.Option.{Option}
use Rattle.std.proofs.lemmas.Bool.{cases_lt}
use Rattle.path_lines.specs.declared.table.Inside.{Inside}
use Rattle.path_levels.specs.declared.outline.Outline.{Outline}
use Rattle.path_levels.specs.declared.joins.Draft.{Draft}
use Rattle.path_levels.specs.Joins.{AreFittingCosts, AreFittingTo, IsFittingAt}

pub fits_more : (outline : Outline) (kept : List (Option Inside)) (place at : ℕ) (draft : Draft) → AreFittingTo outline kept place at draft → IsFittingAt outline kept place draft at → AreFittingTo outline kept place (at + 1) draft
fits_more outline kept place at draft before here k less =
    elim (cases_lt k at) [
      | inl lt ↦ before k lt
      | inr ge ↦ subst (λ (n : ℕ). IsFittingAt outline kept place draft n) (let e : at ≡ k = omega (arith, less, ge) in e) here
    ]

pub fitting_at : (outline : Outline) (kept : List (Option Inside)) (place : ℕ) (draft : Draft) (at : ℕ) (line : LineFacts) (inside : Option Inside) (number : ℤ) (b : Bool) → at < length outline.lines.items → at < length kept → at < length draft.by.items
    → line ≡ get_or outline.lines.items at line → inside ≡ get_or kept at inside → number ≡ get_or draft.by.items at number → line.level ≡ place
    → (IsTrue b ↔ AreFittingCosts line inside (unsigned_abs draft.unit) (unsigned_abs draft.own) number) → (IsTrue b ↔ IsFittingAt outline kept place draft at)
fitting_at outline kept place draft at line inside number b l1 l2 l3 e1 e2 e3 same all = (
  (λ t f d level.
      subst (λ (x : LineFacts). AreFittingCosts x (get_or kept at d) (unsigned_abs draft.unit) (unsigned_abs draft.own) (number_at draft.by.items at)) (e1 ∙ get_or_default outline.lines.items at line f l1)
      (subst (λ (x : Option Inside). AreFittingCosts line x (unsigned_abs draft.unit) (unsigned_abs draft.own) (number_at draft.by.items at)) (e2 ∙ get_or_default kept at inside d l2)
      (subst (λ (x : ℤ). AreFittingCosts line inside (unsigned_abs draft.unit) (unsigned_abs draft.own) x) (e3 ∙ get_or_default draft.by.items at number (pos 0) l3) (all.0 t)))),
  (λ h.
      all.1
      (subst (λ (x : LineFacts). AreFittingCosts x inside (unsigned_abs draft.unit) (unsigned_abs draft.own) number) (sym e1)
      (subst (λ (x : Option Inside). AreFittingCosts (get_or outline.lines.items at line) x (unsigned_abs draft.unit) (unsigned_abs draft.own) number) (sym e2)
      (subst (λ (x : ℤ). AreFittingCosts (get_or outline.lines.items at line) (get_or kept at inside) (unsigned_abs draft.unit) (unsigned_abs draft.own) x) (sym (e3 ∙ get_or_default draft.by.items at number (pos 0) l3))
      (h line inside (ap (λ (x : LineFacts). x.level) (sym e1) ∙ same)))))),
)

abbrev Holds : Bool → Type 0
Holds true = Unit {0}
Holds false = ⊥

no-bool : (P : Type 0) → true ≡ false → P
no-bool P e = absurd (subst Holds e tt)

pub not_true : (P : Type 0) (b : Bool) → b ≡ false → b ≡ true → P
not_true P b e t = no-bool P (sym t ∙ e)
