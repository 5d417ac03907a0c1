-- The views of a branch one by one.
use Rattle.std.specs.Prelude.{◌≡◌, ◌+◌, ℕ, List, [], ◌∷◌, ◌++◌, Some, IsSome, length, map}
use Rattle.std.specs.Option.{option_map, option_map_or}
use Rattle.view_tree.specs.JsonTrees.{Branch, branch, Branches, no_branches, more, JsonTree, height}
use Rattle.view_tree.specs.Stops.{IsNewView}
use Rattle.view_tree.specs.Views.{LiveView, ViewTree, IsTree, view_named, with_view}
use Rattle.view_tree.specs.declared.plan.Plan.{Plan}
use Rattle.view_tree.specs.declared.plan.Planned.{Planned}

-- the names in preorder, each with the name of its parent
abbrev mutual
  pub pairs : List ℕ → Branch → List (List ℕ × List ℕ)
  pairs parent (branch name inner) = (name, parent) ∷ pairs_in name inner

  pub pairs_in : List ℕ → Branches → List (List ℕ × List ℕ)
  pairs_in parent no_branches = []
  pairs_in parent (more b bs) = pairs parent b ++ pairs_in parent bs

-- the name of a view to be made, and that of its parent
abbrev pub pair_of : Planned → List ℕ × List ℕ
pair_of p = (p.name.now, p.parent.now)

-- the names of the views to be made, in order, each with that of its parent
abbrev pub pairs_of : List Planned → List (List ℕ × List ℕ)
pairs_of ps = map pair_of ps

-- the names of the views to be made, in order
abbrev pub names_of_plan : List Planned → List (List ℕ)
names_of_plan ps = map (λ p. p.name.now) ps

-- the plan is the tree's
pub record IsPlanOf (plan : Plan) (tree : JsonTree) : Type 0 where
  pub place : plan.place.now ≡ tree.place
  pub pairs : pairs_of plan.views.items ≡ pairs tree.place tree.branch
  pub height : plan.height ≡ height tree.branch

-- the plan is that of some tree
abbrev pub IsPlan : Plan → Type 0
IsPlan plan = (tree : JsonTree) × IsPlanOf plan tree

-- the number of the view that the plan's views go in
abbrev pub PlanGoesIn : ViewTree → Plan → ℕ → Type 0
PlanGoesIn t plan parent = Some parent ≡ option_map (λ v. v.id) (view_named t.views plan.place.now)

-- the number of the live view of this name, and 0 where there is none
abbrev pub id_named : ViewTree → List ℕ → ℕ
id_named t name = option_map_or (λ v. v.id) (view_named t.views name) 0

-- the tree with these views more, one after another
abbrev pub grown : ViewTree → List (List ℕ × List ℕ) → ViewTree
grown t [] = t
grown t (p ∷ ps) = grown (with_view t p.0 (id_named t p.1)) ps

-- each of them may be added after those before it
abbrev pub AreNew : ViewTree → List (List ℕ × List ℕ) → Type 0
AreNew t [] = Unit {0}
AreNew t (p ∷ ps) = IsSome (view_named t.views p.1) × IsNewView t p.0 (id_named t p.1)
    × AreNew (with_view t p.0 (id_named t p.1)) ps

-- so many views were added to a tree
pub record IsGrownBy (t : ViewTree) (count : ℕ) : Type 0 where
  pub before : ViewTree
  pub views : List LiveView
  pub whole : IsTree before
  pub counted : length views ≡ count
  pub is : t ≡ record before { views = before.views ++ views; next = before.next + count }
