-- The attributes of a suggestion's row are its view's.
use Rattle.std.proofs.Common.{◌≡◌, ℕ, ◌<◌, ◌≤◌, List, [], ◌∷◌, Some, subst, arith, All}
use Rattle.std.specs.List.{Contains, AllByRecursion as Each}
use Rattle.std.proofs.lemmas.List.Elements.{All-from_recursion, All-weaker}
use Rattle.problem_core.specs.declared.parts.Term.{Term}
use Rattle.problem_core.specs.Layout.{Row}
use Rattle.problem_core.specs.Kept.{IsRow}
use Rattle.view_tree.specs.Views.{LiveView, view_named}
use Rattle.script_text.specs.Directions.{turned}
use Rattle.script_text.specs.declared.words.AttrWord.{AttrWord}
use Rattle.script_text.specs.declared.words.AttrWord.TheVariants as word
use Rattle.constraint_compile.specs.Suggestions.{suggested_row, suggested_terms}
use Rattle.constraint_compile.specs.declared.suggestion.Suggestion.{Suggestion}
use Rattle.held_items.specs.Attributes.{all_attributes, view_attributes, HasOnly}
use Rattle.held_items.proofs.Views.Attributes.{contains-left, contains-top, contains-width, contains-height}
use Rattle.held_items.proofs.HeldRows.FormTerms.{found-among}
use Rattle.held_items.proofs.Lists.{pairs-cons}
use Rattle.held_items.specs.Attributes.{MayBeAdded}
use Rattle.frac_core.proofs.Lists.{pairs-nil}

each-own : (v : ℕ) (w : AttrWord) → Each (λ t. Contains (view_attributes v) t.attr) (suggested_terms v w)
each-own v word.Left = (contains-left v, tt)
each-own v word.Top = (contains-top v, tt)
each-own v word.Width = (contains-width v, tt)
each-own v word.Height = (contains-height v, tt)
each-own v word.Right = (contains-left v, (contains-width v, tt))
each-own v word.Bottom = (contains-top v, (contains-height v, tt))
each-own v word.CenterX = (contains-left v, (contains-width v, tt))
each-own v word.CenterY = (contains-top v, (contains-height v, tt))
each-own v word.Leading = (contains-left v, tt)
each-own v word.Trailing = (contains-left v, (contains-width v, tt))

pub own-terms : (v : ℕ) (w : AttrWord) → All (λ t. Contains (view_attributes v) t.attr) (suggested_terms v w)
own-terms v w = All-from_recursion (λ (t : Term). Contains (view_attributes v) t.attr) (suggested_terms v w) (each-own v w)

one-may : (attrs : List ℕ) (n : ℕ) (r : Row) → IsRow r → r.id ≡ n → HasOnly attrs r → MayBeAdded attrs n (r ∷ [])
one-may attrs n r is id only = record {
  rows = All-from_recursion IsRow (r ∷ []) (is, tt);
  rising = pairs-cons (λ (x y : Row). x.id < y.id) r [] (All-from_recursion (λ (y : Row). r.id < y.id) [] tt) (pairs-nil (λ (x y : Row). x.id < y.id));
  above = All-from_recursion (λ (x : Row). n ≤ x.id) (r ∷ []) (omega (arith, id), tt);
  only = All-from_recursion (HasOnly attrs) (r ∷ []) (only, tt);
}

-- the row of a suggestion for a view that is there
pub suggestion-may : (views : List LiveView) (next : ℕ) (s : Suggestion) (name : List ℕ) (v : LiveView) → view_named views name ≡ Some v → s.view ≡ v.id → s.row ≡ next → IsRow (suggested_row s) → MayBeAdded (all_attributes views) next (suggested_row s ∷ [])
suggestion-may views next s name v found same row is =
    one-may (all_attributes views) next (suggested_row s) is row
    (All-weaker (λ (t : Term). Contains (view_attributes s.view) t.attr) (λ (t : Term). Contains (all_attributes views) t.attr)
    (λ t h. found-among views name v t.attr found (subst (λ (n : ℕ). Contains (view_attributes n) t.attr) same h)) (suggested_terms s.view (turned s.direction s.word)) (own-terms s.view (turned s.direction s.word)))
