-- Rows and constants, one after another.
use Rattle.std.proofs.Common.{◌≡◌, ℕ, ◌+◌, ◌<◌, List, [], ◌∷◌, ◌++◌, length, length-append, take, map, get_or, nat_eq, refl, sym, subst, ap, ◌∙◌, arith, inl, inr, Bool, ◌||◌}
use Rattle.std.specs.List.{list_any}
use Rattle.std.proofs.Math.ListN.{get_or-append, get_or-map}
use Rattle.std.proofs.Math.Seq.{get_or-append_seam}
use Rattle.std.proofs.lemmas.List.{take_more, map_push, length-map}
use Rattle.std.proofs.lemmas.List.Elements.{All-push}
use Rattle.problem_core.specs.Layout.{Row}
use Rattle.view_tree.specs.declared.view.ViewId.{ViewId}
use Rattle.compile_parts.specs.Meaning.{MetricList}
use Rattle.constraint_compile.specs.Compiled as compiled
use Rattle.compile_parts.specs.Steps.{AreSmallSteps}
use Rattle.constraint_compile.specs.Compiled.{AreSmallForms, AreRowsNow, IsRowNow}
use Rattle.constraint_compile.specs.Inside.{form_view}
use Rattle.constraint_compile.specs.declared.compiled.RowForm.{RowForm}
use Rattle.frac_core.proofs.Numbers.{less-or-here as lt_or_eq}

pub any_number : (views : List ViewId) (n : ℕ) → list_any (λ (v : ViewId). nat_eq v.0 n) views ≡ list_any (λ (v : ℕ). nat_eq v n) (map (λ (v : ViewId). v.0) views)
any_number [] n = refl
any_number (v ∷ views) n = ap (λ (b : Bool). nat_eq v.0 n || b) (any_number views n)

pub taken : (forms : List RowForm) (i : ℕ) (t : RowForm) → i < length forms → t ≡ get_or forms i t → map form_view (take (i + 1) forms) ≡ map form_view (take i forms) ++ form_view t ∷ []
taken forms i t within is = ap (map form_view) (take_more forms i t within ∙ ap (λ (x : RowForm). take i forms ++ x ∷ []) (sym is)) ∙ map_push form_view (take i forms) t

pub form_small : (metrics : MetricList) (forms : List RowForm) (i : ℕ) (t : RowForm) → i < length forms → t ≡ get_or forms i t → AreSmallForms metrics (map form_view forms) → AreSmallSteps metrics (form_view t).steps
form_small metrics forms i t within is small =
    subst (λ (f : compiled.RowForm). AreSmallSteps metrics f.steps) (get_or-map form_view forms i t ∙ sym (ap form_view is)) (small i (form_view t) (omega (arith, within, length-map forms form_view)))

-- what holds of two lists, place by place, and of one more of each
pairs_more : {A B : Type 0} (P : A → B → Type 0) (xs : List A) (ys : List B) (a : A) (b : B) → length ys ≡ length xs → ((i : ℕ) (f : A) (r : B) → i < length xs → P (get_or xs i f) (get_or ys i r)) → P a b
    → (i : ℕ) (f : A) (r : B) → i < length (xs ++ a ∷ []) → P (get_or (xs ++ a ∷ []) i f) (get_or (ys ++ b ∷ []) i r)
pairs_more {A} {B} P xs ys a b long each here i f r within = elim (lt_or_eq i (length xs) (omega (arith, within, length-append xs (a ∷ [])))) [
  | inl less ↦
      subst (λ (x : A). P x (get_or (ys ++ b ∷ []) i r)) (sym (get_or-append xs (a ∷ []) f i less))
      (subst (λ (y : B). P (get_or xs i f) y) (sym (get_or-append ys (b ∷ []) r i (omega (arith, less, long)))) (each i f r less))
  | inr same ↦
      let first : get_or (xs ++ a ∷ []) i f ≡ a = ap (λ (k : ℕ). get_or (xs ++ a ∷ []) k f) same ∙ get_or-append_seam xs a [] f in
      let second : get_or (ys ++ b ∷ []) i r ≡ b = ap (λ (k : ℕ). get_or (ys ++ b ∷ []) k r) (let e : i ≡ length ys = omega (arith, same, long) in e) ∙ get_or-append_seam ys b [] r in
      subst (λ (x : A). P x (get_or (ys ++ b ∷ []) i r)) (sym first) (subst (λ (y : B). P a y) (sym second) here)
]

longer : {A B : Type 0} (xs : List A) (ys : List B) (a : A) (b : B) → length ys ≡ length xs → length (ys ++ b ∷ []) ≡ length (xs ++ a ∷ [])
longer xs ys a b long = omega (arith, length-append xs (a ∷ []), length-append ys (b ∷ []), long)

pub rows_more : (metrics : MetricList) (forms : List RowForm) (rows : List Row) (i : ℕ) (t : RowForm) (r : Row) → i < length forms → t ≡ get_or forms i t → IsRowNow metrics (form_view t) r → AreSmallSteps metrics (form_view t).steps
    → AreRowsNow metrics (map form_view (take i forms)) rows → AreRowsNow metrics (map form_view (take (i + 1) forms)) (rows ++ r ∷ [])
rows_more metrics forms rows i t r within is here small are = subst (λ (fs : List compiled.RowForm). AreRowsNow metrics fs (rows ++ r ∷ [])) (sym (taken forms i t within is)) (record {
  long = longer (map form_view (take i forms)) rows (form_view t) r are.long;
  each = pairs_more (IsRowNow metrics) (map form_view (take i forms)) rows (form_view t) r are.long are.each here;
  small = All-push (λ (f : compiled.RowForm). AreSmallSteps metrics f.steps) (map form_view (take i forms)) (form_view t) are.small small;
})
