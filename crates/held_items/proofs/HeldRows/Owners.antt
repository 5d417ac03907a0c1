-- The attributes of compiled rows are those of views that the line names, or of their parents.
use Rattle.std.proofs.Common.{◌≡◌, inl, inr, ℕ, List, [], ◌∷◌, ◌++◌, get_or, Option, pos, refl, sym, subst, ◌∙◌, arith, All}
use Rattle.std.specs.List.{Contains, AllByRecursion as Each}
use Rattle.std.specs.Option.{option_map, option_to_list}
use Rattle.std.proofs.lemmas.List.Elements.{All-from_recursion, Contains-append_left, Contains-append_right, Contains-append_cases, recursion_from_All}
use Rattle.frac_core.specs.Fraction.{Fraction}
use Rattle.problem_core.specs.Layout.{coefficient}
use Rattle.view_tree.specs.Views.{LiveView, view_named}
use Rattle.script_text.specs.Meaning as mean
use Rattle.compile_parts.specs.Meaning.{HasDenominator, MetricList, share, sum_at, terms_of, view_in, views_in}
use Rattle.constraint_compile.specs.Compiled.{RowForm, CompiledLine}
use Rattle.compile_parts.specs.Steps.{last_scale}
use Rattle.constraint_compile.specs.Stops.{IsCompiled, IsSumRow}
use Rattle.constraint_compile.proofs.RowTerms.{coefficient_at, is_zero}
use Rattle.held_items.specs.Attributes.{AreOwned, HasOwner, IsClose, view_attributes}
use Rattle.held_items.specs.Leaving.{attributes_in}
use Rattle.held_items.proofs.HeldRows.FormTerms.{no-share-in, sum-above}
use Rattle.held_items.proofs.Lists.{contains-cons, contains-first, contains-or}
use Rattle.constraint_compile.proofs.Sums.Found.{zeros}
use Rattle.frac_core.proofs.Lists.{each-at as each-contained}

-- ---- attributes of some views

attributes-front : (xs ys : List ℕ) (a : ℕ) → Contains (attributes_in xs) a → Contains (attributes_in (xs ++ ys)) a
attributes-front [] ys a h = absurd (omega (arith, h.1))
attributes-front (x ∷ xs) ys a h = elim (Contains-append_cases (view_attributes x) (attributes_in xs) a h) [
  | inl here ↦ Contains-append_left (view_attributes x) (attributes_in (xs ++ ys)) a here
  | inr there ↦ Contains-append_right (view_attributes x) (attributes_in (xs ++ ys)) a (attributes-front xs ys a there)
]

attributes-back : (xs ys : List ℕ) (a : ℕ) → Contains (attributes_in ys) a → Contains (attributes_in (xs ++ ys)) a
attributes-back [] ys a h = h
attributes-back (x ∷ xs) ys a h = Contains-append_right (view_attributes x) (attributes_in (xs ++ ys)) a (attributes-back xs ys a h)

-- an attribute among them is that of one of them
pub owner-of : (ids : List ℕ) (a : ℕ) → Contains (attributes_in ids) a → (id : ℕ) × Contains ids id × Contains (view_attributes id) a
owner-of [] a h = absurd (omega (arith, h.1))
owner-of (x ∷ ids) a h = elim (Contains-append_cases (view_attributes x) (attributes_in ids) a h) [
  | inl here ↦ (x, contains-first x ids x refl, here)
  | inr there ↦ (let rest = owner-of ids a there in (rest.0, contains-cons x ids rest.0 rest.1, rest.2))
]

-- ---- shares

no-share-named : (views : List LiveView) (v : ℕ) (by : Fraction) (o : mean.Operand) → (Contains (attributes_in (view_in views o)) v → ⊥) → (share views v (record { by = by; of = o })).num ≡ pos 0
no-share-named views v by (mean.Attr name w) off =
    no-share-in (view_named views name) by w v
    (λ u is inside. off (subst (λ (p : Option LiveView). Contains (attributes_in (option_to_list (option_map (λ x. x.id) p))) v) (sym is) (Contains-append_left (view_attributes u.id) [] v inside)))
no-share-named views v by (mean.Metric name) off = refl
no-share-named views v by mean.One off = refl

no-sum-named : (views : List LiveView) (v : ℕ) (terms : List mean.Term) → (Contains (attributes_in (views_in views terms)) v → ⊥) → (sum_at views terms v).num ≡ pos 0
no-sum-named views v [] off = refl
no-sum-named views v (t ∷ terms) off =
    zeros (share views v t).den (sum_at views terms v).den (share views v t).num (sum_at views terms v).num
    (no-share-named views v t.by t.of (λ h. off (attributes-front (view_in views t.of) (views_in views terms) v h)))
    (no-sum-named views v terms (λ h. off (attributes-back (view_in views t.of) (views_in views terms) v h)))

-- the attributes of a sum's row are those of views that its terms name
terms-named : (views : List LiveView) (summed : List mean.Term) (row : RowForm) → All HasDenominator summed → IsSumRow views summed row → All (λ t. Contains (attributes_in (views_in views summed)) t.attr) row.terms
terms-named views summed row above is k d within = elim (contains-or (attributes_in (views_in views summed)) (get_or row.terms k d).attr) [
  | inl inside ↦ inside
  | inr off ↦ absurd (never off)
]
  where
    never : (Contains (attributes_in (views_in views summed)) (get_or row.terms k d).attr → ⊥) → ⊥
    never off =
        (is.terms.each k d within).nonzero
        (sym (coefficient_at row.terms k d is.terms.rising within)
        ∙ is_zero (last_scale row.steps) (sum_at views summed (get_or row.terms k d).attr).den (coefficient (get_or row.terms k d).attr row.terms) (sum_at views summed (get_or row.terms k d).attr).num
        (sum-above views (get_or row.terms k d).attr summed (recursion_from_All HasDenominator summed above)) (is.terms.over (get_or row.terms k d).attr) (no-sum-named views (get_or row.terms k d).attr summed off))

-- where the views of the terms are close, the row's attributes are owned
pub row-owned : (views : List LiveView) (named : List ℕ) (summed : List mean.Term) (row : RowForm) → All HasDenominator summed → IsSumRow views summed row → Each (IsClose views named) (views_in views summed)
    → All (λ t. HasOwner views named t.attr) row.terms
row-owned views named summed row above is close k d within =
    let owner = owner-of (views_in views summed) (get_or row.terms k d).attr (terms-named views summed row above is k d within) in
    (owner.0, each-contained (IsClose views named) (views_in views summed) owner.0 close owner.1, owner.2)

-- ---- linear lines

all-close : (views : List LiveView) (named ids : List ℕ) → ((id : ℕ) → Contains ids id → Contains named id) → Each (IsClose views named) ids
all-close views named [] to = tt
all-close views named (id ∷ ids) to = (inl (to id (contains-first id ids id refl)), all-close views named ids (λ v h. to v (contains-cons id ids v h)))

pub constrain-owned : (views : List LiveView) (ms : MetricList) (l : mean.Linear) (number : ℕ) (c : CompiledLine) → IsCompiled views ms l number c → All HasDenominator (terms_of l) → AreOwned views c
constrain-owned views ms l number c is above =
    let row = is.row in
    subst (All (λ (f : RowForm). All (λ t. HasOwner views c.views t.attr) f.terms)) (sym row.1)
    (All-from_recursion (λ (f : RowForm). All (λ t. HasOwner views c.views t.attr) f.terms) (row.0 ∷ [])
    (row-owned views c.views (terms_of l) row.0 above row.2.sum (all-close views c.views (views_in views (terms_of l)) (λ id h. subst (λ (ids : List ℕ). Contains ids id) (sym is.views_named) h)), tt))
