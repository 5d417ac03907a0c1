-- The attributes of views, and what makes the rows and stays of a session a problem.
use Rattle.std.specs.Prelude.{◌≡◌, ◌⊎◌, Some, ℕ, zero, suc, ◌+◌, ◌<◌, ◌≤◌, List, [], ◌∷◌, ◌++◌}
use Rattle.std.specs.Prelude.{length, map, All, AllPairs}
use Rattle.std.specs.List.{Contains}
use Rattle.std.specs.List.Sorted.{IsPermutation}
use Rattle.problem_core.specs.Kept.{IsRow}
use Rattle.problem_core.specs.Layout.{Row, Problem}
use Rattle.view_tree.specs.declared.limits.TheConstants.{ID_LIMIT, VIEW_LIMIT}
use Rattle.view_tree.specs.Attributes.{left_of, top_of, width_of, height_of}
use Rattle.view_tree.specs.Views.{LiveView, HasParent}
use Rattle.constraint_compile.specs.Compiled.{RowForm, CompiledLine}
use Rattle.held_items.specs.declared.limits.TheConstants.{MOST_ROWS}

-- left, top, width and height of a view
abbrev pub view_attributes : ℕ → List ℕ
view_attributes id = left_of id ∷ top_of id ∷ width_of id ∷ height_of id ∷ []

-- those of all views, in order
abbrev pub all_attributes : List LiveView → List ℕ
all_attributes [] = []
all_attributes (v ∷ views) = view_attributes v.id ++ all_attributes views

-- those of so many views, of which the first has this number: that of each later one is 1 more
abbrev pub attributes_from : ℕ → ℕ → List ℕ
attributes_from id zero = []
attributes_from id (suc count) = view_attributes id ++ attributes_from (id + 1) count

-- a row has these attributes alone
abbrev pub HasOnly : List ℕ → Row → Type 0
HasOnly attrs r = All (λ t. Contains attrs t.attr) r.terms

-- the rows may join others whose numbers are below this one, and have these attributes alone
pub record MayBeAdded (attrs : List ℕ) (next : ℕ) (more : List Row) : Type 0 where
  pub rows : All IsRow more
  pub rising : AllPairs (λ r s. r.id < s.id) more
  pub above : All (λ r. next ≤ r.id) more
  pub only : All (HasOnly attrs) more

-- the line's text names the view, or one whose parent it is
abbrev pub IsClose : List LiveView → List ℕ → ℕ → Type 0
IsClose views named id =
    Contains named id ⊎ ((child : ℕ) × Contains named child × HasParent views child (Some id))

-- the attribute is that of such a view
abbrev pub HasOwner : List LiveView → List ℕ → ℕ → Type 0
HasOwner views named attr = (id : ℕ) × IsClose views named id × Contains (view_attributes id) attr

-- so it is with each attribute that the line's rows have
abbrev pub AreOwned : List LiveView → CompiledLine → Type 0
AreOwned views line = All (λ f. All (λ t. HasOwner views line.views t.attr) f.terms) line.rows

-- each row's number is the one before it and 1 more, from this number on
abbrev pub AreNumberedFrom : ℕ → List RowForm → Type 0
AreNumberedFrom n [] = Unit {0}
AreNumberedFrom n (f ∷ forms) = (f.id ≡ n) × AreNumberedFrom (n + 1) forms

-- a line whose rows are numbered from this number on, have ranks above 0, and have attributes of these views
-- alone, each of one that is close to those that the line's text names
pub record IsNextLine (views : List LiveView) (next : ℕ) (line : CompiledLine) : Type 0 where
  pub numbers : AreNumberedFrom next line.rows
  pub ranks : All (λ f. 0 < f.rank) line.rows
  pub attributes : All (λ f. All (λ t. Contains (all_attributes views) t.attr) f.terms) line.rows
  pub owned : AreOwned views line

-- there are so many views more, whose numbers go up one by one from this one, and are above all others
pub record IsGrown (old new : List LiveView) (id count : ℕ) : Type 0 where
  pub more : List LiveView
  pub are : new ≡ old ++ more
  pub attributes : all_attributes more ≡ attributes_from id count
  pub above : All (λ v. v.id < id) old
  pub few : length new ≤ VIEW_LIMIT
  pub small : id + count ≤ ID_LIMIT

-- the stays are those of the views' attributes, in any order, and the rows, which aren't too many, have
-- numbers below the next one and ranks above 0
pub record IsCounted (views : List LiveView) (next_row : ℕ) (problem : Problem) : Type 0 where
  pub stays : IsPermutation (all_attributes views) (map (λ s. s.attr) problem.stays)
  pub below : All (λ r. r.id < next_row) problem.rows
  pub ranks : All (λ r. 0 < r.rank) problem.rows
  pub few : length problem.rows ≤ MOST_ROWS
