-- The attributes of compiled rows are those of views.
use Rattle.std.proofs.Common.{◌≡◌, ℕ, ◌+◌, ◌*◌, ◌<◌, Bool, true, false, cond, List, [], ◌∷◌, get_or, Option, Some, None, pos, ℤ, ◌*ℤ◌, refl, sym, ap, subst, ◌∙◌, arith, inl, inr, All, ne_eqb, mul-pos}
use Rattle.std.specs.List.{Contains, AllByRecursion as Each}
use Rattle.std.specs.Str.{bytes_eq}
use Rattle.std.proofs.lemmas.Option.{none-some, same_Some}
use Rattle.std.proofs.lemmas.List.Elements.{Contains-append_left, Contains-append_right, recursion_from_All}
use Rattle.frac_core.specs.Fraction.{Fraction}
use Rattle.frac_core.proofs.Integers.{mul-zero_ℤ}
use Rattle.problem_core.specs.Layout.{coefficient}
use Rattle.view_tree.specs.Views.{LiveView, view_named}
use Rattle.script_text.specs.declared.words.AttrWord.{AttrWord}
use Rattle.script_text.specs.Meaning as mean
use Rattle.compile_parts.specs.Meaning.{HasDenominator, attr_sum, doubled, edge_and_size, share, share_in, sum_at}
use Rattle.constraint_compile.specs.Compiled.{RowForm}
use Rattle.compile_parts.specs.Steps.{last_scale}
use Rattle.constraint_compile.specs.Stops.{IsSumRow}
use Rattle.constraint_compile.proofs.RowTerms.{coefficient_at, is_zero}
use Rattle.held_items.specs.Attributes.{view_attributes, all_attributes}
use Rattle.held_items.proofs.Lists.{contains-or}
use Rattle.held_items.proofs.Views.Attributes.{contains-left, contains-top, contains-width, contains-height}
use Rattle.constraint_compile.proofs.Sums.Found.{zeros}

-- ---- a view has only its own attributes

pub without : (a b v : ℕ) (e s : ℤ) → (a ≡ v → ⊥) → (b ≡ v → ⊥) → coefficient v (record { attr = a; by = e } ∷ record { attr = b; by = s } ∷ []) ≡ pos 0
without a b v e s first second = rw (ne_eqb a v first, ne_eqb b v second) refl

-- v is none of the view's attributes
abbrev pub IsElsewhere : ℕ → ℕ → Type 0
IsElsewhere id v = Contains (view_attributes id) v → ⊥

no-edge-or-size : (is_across : Bool) (id v e s : ℕ) → IsElsewhere id v → coefficient v (edge_and_size is_across id e s) ≡ pos 0
no-edge-or-size true id v e s off = without (4 * id + 1) (4 * id + 3) v (pos e) (pos s) (λ q. off (subst (Contains (view_attributes id)) q (contains-left id))) (λ q. off (subst (Contains (view_attributes id)) q (contains-width id)))
no-edge-or-size false id v e s off = without (4 * id + 2) (4 * id + 4) v (pos e) (pos s) (λ q. off (subst (Contains (view_attributes id)) q (contains-top id))) (λ q. off (subst (Contains (view_attributes id)) q (contains-height id)))

no-coefficient : (id v : ℕ) (w : AttrWord) → IsElsewhere id v → coefficient v (doubled id w) ≡ pos 0
no-coefficient id v w off = no-edge-or-size (attr_sum w).is_across id v _ _ off

-- ---- views that are found by their names

pub found-among : (views : List LiveView) (name : List ℕ) (w : LiveView) (v : ℕ) → view_named views name ≡ Some w → Contains (view_attributes w.id) v → Contains (all_attributes views) v
found-among [] name w v found inside = absurd (none-some w found)
found-among (u ∷ views) name w v found inside =
    elim (bytes_eq name u.name) as (λ b. cond b (Some u) (view_named views name) ≡ Some w → Contains (all_attributes (u ∷ views)) v) [
      | true ↦ λ h. Contains-append_left (view_attributes u.id) (all_attributes views) v (subst (λ (x : LiveView). Contains (view_attributes x.id) v) (sym (same_Some u w h)) inside)
      | false ↦ λ h. Contains-append_right (view_attributes u.id) (all_attributes views) v (found-among views name w v h inside)
    ] found

-- ---- shares

pub no-share-in : (o : Option LiveView) (by : Fraction) (w : AttrWord) (v : ℕ) → ((u : LiveView) → o ≡ Some u → IsElsewhere u.id v) → (share_in o by w v).num ≡ pos 0
no-share-in None by w v off = refl
no-share-in (Some u) by w v off = ap (λ (z : ℤ). by.num *ℤ z) (no-coefficient u.id v w (off u refl)) ∙ mul-zero_ℤ by.num

no-share : (views : List LiveView) (v : ℕ) (by : Fraction) (o : mean.Operand) → (Contains (all_attributes views) v → ⊥) → (share views v (record { by = by; of = o })).num ≡ pos 0
no-share views v by (mean.Attr name w) off = no-share-in (view_named views name) by w v (λ u is inside. off (found-among views name u v is inside))
no-share views v by (mean.Metric name) off = refl
no-share views v by mean.One off = refl

no-sum : (views : List LiveView) (v : ℕ) (terms : List mean.Term) → (Contains (all_attributes views) v → ⊥) → (sum_at views terms v).num ≡ pos 0
no-sum views v [] off = refl
no-sum views v (t ∷ terms) off = zeros (share views v t).den (sum_at views terms v).den (share views v t).num (sum_at views terms v).num (no-share views v t.by t.of off) (no-sum views v terms off)

-- ---- denominators

share-in-above : (o : Option LiveView) (by : Fraction) (w : AttrWord) (v : ℕ) → 0 < by.den → 0 < (share_in o by w v).den
share-in-above None by w v above = omega arith
share-in-above (Some u) by w v above = omega (arith, above)

share-above : (views : List LiveView) (v : ℕ) (by : Fraction) (o : mean.Operand) → 0 < by.den → 0 < (share views v (record { by = by; of = o })).den
share-above views v by (mean.Attr name w) above = share-in-above (view_named views name) by w v above
share-above views v by (mean.Metric name) above = omega arith
share-above views v by mean.One above = omega arith

pub sum-above : (views : List LiveView) (v : ℕ) (terms : List mean.Term) → Each HasDenominator terms → 0 < (sum_at views terms v).den
sum-above views v [] all = omega arith
sum-above views v (t ∷ terms) all = mul-pos (share-above views v t.by t.of all.0) (sum-above views v terms all.1)

-- ---- rows

pub terms-among : (views : List LiveView) (summed : List mean.Term) (row : RowForm) → All HasDenominator summed → IsSumRow views summed row → All (λ t. Contains (all_attributes views) t.attr) row.terms
terms-among views summed row above is k d within = elim (contains-or (all_attributes views) (get_or row.terms k d).attr) [
  | inl inside ↦ inside
  | inr off ↦ absurd (never off)
]
  where
    never : (Contains (all_attributes views) (get_or row.terms k d).attr → ⊥) → ⊥
    never off =
        (is.terms.each k d within).nonzero
        (sym (coefficient_at row.terms k d is.terms.rising within)
        ∙ is_zero (last_scale row.steps) (sum_at views summed (get_or row.terms k d).attr).den (coefficient (get_or row.terms k d).attr row.terms) (sum_at views summed (get_or row.terms k d).attr).num
        (sum-above views (get_or row.terms k d).attr summed (recursion_from_All HasDenominator summed above)) (is.terms.over (get_or row.terms k d).attr) (no-sum views (get_or row.terms k d).attr summed off))
