-- What removals come to, and the causes against them.
use Rattle.std.proofs.Common.{◌≡◌, ◌≢◌, ℕ, true, false, List, Option, Some, None, refl, sym, ap, inl, inr, ◌∙◌, true≢false}
use Rattle.std.specs.List.{list_any}
use Rattle.std.specs.Option.{option_map}
use Rattle.std.proofs.lemmas.Option.{none-some}
use Rattle.view_tree.specs.Views.{LiveView, view_named}
use Rattle.scenes.specs.Scene.{Scene}
use Rattle.session_undo.specs.State.{State}
use Rattle.held_items.specs.Leaving.{is_in_group}
use Rattle.scenes.specs.Leaving.{without_group, without_views}
use Rattle.session_undo.specs.Replies.{Reply, Unknown}
use Rattle.session_undo.specs.Machine.{TriedDrop, TriedRemove}
use Rattle.session_undo.specs.Adding.{IsGoing}

-- ---- no cause is there

pub removed-passed : (old : State) (group : List ℕ) (End : Scene → Reply → State → Type 0) (reply : Reply) (new : State) → list_any (is_in_group group) old.scene.held ≡ true
    → End (without_group old.scene group) reply new → TriedRemove old group End reply new
removed-passed old group End reply new here end = inr ((λ none. true≢false (sym here ∙ none)), end)

some-number : (o : Option LiveView) (v : LiveView) → o ≡ Some v → v.id ≢ 0 → option_map (λ u. u.id) o ≡ Some 0 → ⊥
some-number None v is below h = none-some 0 h
some-number (Some u) v is below h = below (ap (λ (x : Option LiveView). number x) (sym is) ∙ ap (λ (x : Option ℕ). value x) h)
  where
    number : Option LiveView → ℕ
    number None = 0
    number (Some x) = x.id

    value : Option ℕ → ℕ
    value None = 0
    value (Some n) = n

pub dropped-passed : (old : State) (name gone : List ℕ) (End : Scene → Reply → State → Type 0) (reply : Reply) (new : State) → IsGoing old.scene name gone
    → End (without_views old.scene gone) reply new → TriedDrop old name End reply new
dropped-passed old name gone End reply new going end =
    inr (
      (λ none. none-some going.root (sym none ∙ going.found)),
      inr (
        (λ window. some-number (view_named old.scene.tree.views name) going.root going.found going.below window),
        (going.root, gone, going.found, going.are, end),
      ),
    )

-- no line of the group is held
pub removed-unknown : (old : State) (group : List ℕ) (End : Scene → Reply → State → Type 0) → list_any (is_in_group group) old.scene.held ≡ false → TriedRemove old group End (Unknown group) old
removed-unknown old group End none = inl (none, refl, refl)
