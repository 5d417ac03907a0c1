-- Required rows of one attribute each.
use Rattle.std.proofs.Common.{◌≡◌, ℕ, ◌+◌, ◌<◌, ◌≤◌, List, [], ◌∷◌, refl, sym, subst, arith, All, pos}
use Rattle.std.specs.List.{Contains}
use Rattle.std.proofs.lemmas.List.Elements.{All-from_recursion}
use Rattle.frac_core.specs.Fraction.{Fraction}
use Rattle.problem_core.specs.declared.parts.Term.{Term}
use Rattle.problem_core.specs.Layout.{Row}
use Rattle.problem_core.specs.Kept.{IsRow}
use Rattle.view_tree.specs.Views.{ViewTree, IsTree}
use Rattle.held_items.specs.Items.{size_rows}
use Rattle.held_items.specs.Attributes.{all_attributes, HasOnly}
use Rattle.held_items.proofs.Lists.{pairs-cons}
use Rattle.held_items.proofs.Views.Attributes.{contains-width, contains-height, window-among}
use Rattle.held_items.specs.Attributes.{MayBeAdded}
use Rattle.frac_core.proofs.Lists.{pairs-nil}

pub one-only : (attrs : List ℕ) (t : Term) → Contains attrs t.attr → All (λ s. Contains attrs s.attr) (t ∷ [])
one-only attrs t inside = All-from_recursion (λ (s : Term). Contains attrs s.attr) (t ∷ []) (inside, tt)

abbrev pub once : ℕ → Term
once attr = record { attr = attr; by = pos 1 }

two-may : (attrs : List ℕ) (n : ℕ) (r s : Row) → All IsRow (r ∷ s ∷ []) → r.id ≡ n → s.id ≡ n + 1 → HasOnly attrs r → HasOnly attrs s → MayBeAdded attrs n (r ∷ s ∷ [])
two-may attrs n r s each first second only_r only_s = record {
  rows = each;
  rising = pairs-cons (λ (x y : Row). x.id < y.id) r (s ∷ []) (All-from_recursion (λ (y : Row). r.id < y.id) (s ∷ []) (omega (arith, first, second), tt))
      (pairs-cons (λ (x y : Row). x.id < y.id) s [] (All-from_recursion (λ (y : Row). s.id < y.id) [] tt) (pairs-nil (λ (x y : Row). x.id < y.id)));
  above = All-from_recursion (λ (x : Row). n ≤ x.id) (r ∷ s ∷ []) (omega (arith, first), (omega (arith, second), tt));
  only = All-from_recursion (HasOnly attrs) (r ∷ s ∷ []) (only_r, (only_s, tt));
}

pub size-may : (t : ViewTree) (next : ℕ) (w h : Fraction) (more : List Row) → IsTree t → more ≡ size_rows next w h → All IsRow more → MayBeAdded (all_attributes t.views) next more
size-may t next w h more tree is each =
    subst (MayBeAdded (all_attributes t.views) next) (sym is)
    (two-may (all_attributes t.views) next _ _ (subst (All IsRow) is each) refl refl
    (one-only (all_attributes t.views) (once 3) (window-among t.views 3 tree.root (contains-width 0)))
    (one-only (all_attributes t.views) (once 4) (window-among t.views 4 tree.root (contains-height 0))))
