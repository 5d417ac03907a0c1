-- The rows that name a metric, and those that don't.
use Rattle.std.proofs.Common.{◌≡◌, ◌∙◌, ◌||◌, ℕ, zero, suc, ◌+◌, ◌<◌, Bool, true, false, cond, List, [], ◌∷◌, ◌++◌, length, take, map, get_or, refl, sym, ap, ap₂, subst, arith}
use Rattle.std.specs.List.{list_any}
use Rattle.std.proofs.lemmas.List.{append-nil}
use Rattle.std.proofs.lemmas.List.Elements.{All-head, All-tail, filter-append}
use Rattle.frac_core.specs.Fraction.{Fraction}
use Rattle.problem_core.specs.Layout.{Row}
use Rattle.compile_parts.specs.Meaning.{Part, Nothing, Number, Multiple, MetricList, part_value, value_in}
use Rattle.compile_parts.specs.Fractions.{plus, IsConstant, IsSmallConstant}
use Rattle.constraint_compile.specs.Compiled as compiled
use Rattle.compile_parts.specs.Steps.{Step, AreSmallSteps, step_sum, last_scale}
use Rattle.constraint_compile.specs.Compiled.{AreSmallForms, IsRowNow}
use Rattle.constraint_compile.specs.Inside.{form_view}
use Rattle.constraint_compile.specs.Naming.{is_multiple, names_metric, naming, AreSameBut, IsConstantOf, AreConstantsOf}
use Rattle.constraint_compile.specs.declared.compiled.RowForm.{RowForm}
use Rattle.constraint_compile.specs.declared.naming.RowConstant.{RowConstant}
use Rattle.constraint_compile.proofs.RowConstants.Forms.{taken}
use Rattle.frac_core.proofs.Lists.{zip-push as zipped_more}
use Rattle.frac_core.proofs.Bools.{neither}

-- ---- along the lists of the code

pub any_mapped : {A B : Type 0} (f : A → B) (p : B → Bool) (xs : List A) → list_any (λ x. p (f x)) xs ≡ list_any p (map f xs)
any_mapped f p [] = refl
any_mapped f p (x ∷ xs) = ap (λ (b : Bool). p (f x) || b) (any_mapped f p xs)

-- the named among one form more
named_more : (name : List ℕ) (forms : List RowForm) (i : ℕ) (t : RowForm) → i < length forms → t ≡ get_or forms i t
    → naming name (map form_view (take (i + 1) forms)) ≡ naming name (map form_view (take i forms)) ++ cond (names_metric name (form_view t)) (form_view t ∷ []) []
named_more name forms i t within is = ap (naming name) (taken forms i t within is) ∙ filter-append (names_metric name) (map form_view (take i forms)) (form_view t ∷ [])

module _ (metrics : MetricList) (name : List ℕ) (forms : List RowForm) (i : ℕ) (t : RowForm) (within : i < length forms) (is : t ≡ get_or forms i t) where
  pub naming_next : (constants : List RowConstant) (c : RowConstant) → names_metric name (form_view t) ≡ true → IsConstantOf metrics (form_view t) c → AreConstantsOf metrics (naming name (map form_view (take i forms))) constants
      → AreConstantsOf metrics (naming name (map form_view (take (i + 1) forms))) (constants ++ c ∷ [])
  naming_next constants c names here are =
      subst (λ (fs : List compiled.RowForm). AreConstantsOf metrics fs (constants ++ c ∷ []))
      (sym (named_more name forms i t within is ∙ ap (λ (b : Bool). naming name (map form_view (take i forms)) ++ cond b (form_view t ∷ []) []) names))
      (zipped_more (IsConstantOf metrics) (naming name (map form_view (take i forms))) constants (form_view t) c are here)

  pub naming_past : (constants : List RowConstant) → names_metric name (form_view t) ≡ false → AreConstantsOf metrics (naming name (map form_view (take i forms))) constants
      → AreConstantsOf metrics (naming name (map form_view (take (i + 1) forms))) constants
  naming_past constants none are =
      subst (λ (fs : List compiled.RowForm). AreConstantsOf metrics fs constants)
      (sym (named_more name forms i t within is ∙ ap (λ (b : Bool). naming name (map form_view (take i forms)) ++ cond b (form_view t ∷ []) []) none ∙ append-nil (naming name (map form_view (take i forms)))))
      are

-- a row that names the metric is small where all such rows are
pub naming_small : (metrics : MetricList) (name : List ℕ) (forms : List RowForm) (i : ℕ) (t : RowForm) → i < length forms → t ≡ get_or forms i t → names_metric name (form_view t) ≡ true
    → AreSmallForms metrics (naming name (map form_view forms)) → AreSmallSteps metrics (form_view t).steps
naming_small metrics name [] i t within is names small = absurd (omega (arith, within))
naming_small metrics name (x ∷ forms) zero t within is names small =
    let same : names_metric name (form_view x) ≡ true = ap (λ (f : RowForm). names_metric name (form_view f)) (sym is) ∙ names in
    let first : AreSmallForms metrics (form_view x ∷ naming name (map form_view forms)) =
    subst (λ (b : Bool). AreSmallForms metrics (cond b (form_view x ∷ naming name (map form_view forms)) (naming name (map form_view forms)))) same small in
    subst (λ (f : RowForm). AreSmallSteps metrics (form_view f).steps) (sym is) (All-head (λ (f : compiled.RowForm). AreSmallSteps metrics f.steps) (form_view x) (naming name (map form_view forms)) first)
naming_small metrics name (x ∷ forms) (suc i) t within is names small = naming_small metrics name forms i t (omega (arith, within)) is names (rest (names_metric name (form_view x)) small)
  where
    rest : (b : Bool) → AreSmallForms metrics (cond b (form_view x ∷ naming name (map form_view forms)) (naming name (map form_view forms))) → AreSmallForms metrics (naming name (map form_view forms))
    rest true all = All-tail (λ (f : compiled.RowForm). AreSmallSteps metrics f.steps) (form_view x) (naming name (map form_view forms)) all
    rest false all = all

-- ---- rows that don't name it

any_taken : {A : Type 0} (p : A → Bool) (xs : List A) (n : ℕ) → list_any p xs ≡ false → list_any p (take n xs) ≡ false
any_taken p [] zero none = refl
any_taken p [] (suc n) none = refl
any_taken p (x ∷ xs) zero none = refl
any_taken p (x ∷ xs) (suc n) none =
    let both = neither (p x) (list_any p xs) none in
    ap (λ (b : Bool). b || list_any p (take n xs)) both.0 ∙ any_taken p xs n both.1

module _ (name : List ℕ) (old new : MetricList) (same : AreSameBut name old new) where
  other_part : (p : Part) → is_multiple name p ≡ false → part_value new p ≡ part_value old p
  other_part Nothing none = refl
  other_part (Number by) none = refl
  other_part (Multiple by other) none = ap (λ o. value_in o by) (same other none)

  other_sum : (steps : List Step) → list_any (λ s. is_multiple name s.part) steps ≡ false → step_sum new steps ≡ step_sum old steps
  other_sum [] none = refl
  other_sum (s ∷ steps) none =
      let both = neither (is_multiple name s.part) (list_any (λ (t : Step). is_multiple name t.part) steps) none in
      ap₂ plus (other_part s.part both.0) (other_sum steps both.1)

  -- its constant is small for both lists of metrics
  pub other_small : (steps : List Step) → list_any (λ s. is_multiple name s.part) steps ≡ false → AreSmallSteps old steps → AreSmallSteps new steps
  other_small steps none small i d within =
      subst (IsSmallConstant (get_or steps i d).scale) (sym (other_sum (take (i + 1) steps) (any_taken (λ (s : Step). is_multiple name s.part) steps (i + 1) none))) (small i d within)

  -- its row is the same for both
  pub other_row : (f : compiled.RowForm) (r : Row) → names_metric name f ≡ false → IsRowNow old f r → IsRowNow new f r
  other_row f r none is = record {
    id = is.id;
    rank = is.rank;
    weight = is.weight;
    rel = is.rel;
    scale = is.scale;
    terms = is.terms;
    constant = subst (λ (e : Fraction). IsConstant (last_scale f.steps) e r.constant) (sym (other_sum f.steps none)) is.constant;
  }
