-- The rows of the size that a view would like.
use Rattle.std.proofs.Common.{◌≡◌, ℕ, ◌+◌, ◌<◌, ◌≤◌, List, Some, subst, arith, All, AllPairs}
use Rattle.std.specs.List.{Contains}
use Rattle.std.proofs.lemmas.List.Elements.{All-from_recursion}
use Rattle.problem_core.specs.declared.parts.Rel.TheVariants.{Ge, Le}
use Rattle.problem_core.specs.Layout.{Row}
use Rattle.problem_core.specs.Kept.{IsRow}
use Rattle.view_tree.specs.Attributes.{width_of, height_of}
use Rattle.view_tree.specs.Views.{LiveView, view_named}
use Rattle.held_items.specs.declared.item.intrinsic.IntrinsicSize.{IntrinsicSize}
use Rattle.held_items.specs.Attributes.{all_attributes, view_attributes, HasOnly, MayBeAdded}
use Rattle.held_items.specs.Items.{bound, intrinsic_rows}
use Rattle.held_items.proofs.Lists.{four-rising}
use Rattle.held_items.proofs.HeldRows.FormTerms.{found-among}
use Rattle.held_items.proofs.HeldRows.Ranks.{HasRank}
use Rattle.held_items.proofs.HeldRows.RequiredRows.{once, one-only}
use Rattle.held_items.proofs.Views.Attributes.{contains-width, contains-height}

module _ (s : IntrinsicSize) where
  -- the numbers of the four rows rise by one
  intrinsic-rising : AllPairs (λ x y. x.id < y.id) (intrinsic_rows s)
  intrinsic-rising =
      four-rising (λ (r : Row). r.id) (bound s.first_row s.resist (width_of s.view) Ge s.width) (bound (s.first_row + 1) s.hug (width_of s.view) Le s.width)
      (bound (s.first_row + 2) s.resist (height_of s.view) Ge s.height) (bound (s.first_row + 2 + 1) s.hug (height_of s.view) Le s.height)
      (omega arith) (omega arith) (omega arith)

  intrinsic-above : All (λ r. s.first_row ≤ r.id) (intrinsic_rows s)
  intrinsic-above = All-from_recursion (λ (r : Row). s.first_row ≤ r.id) (intrinsic_rows s) (omega arith, (omega arith, (omega arith, (omega arith, tt))))

  pub intrinsic-below : All (λ r. r.id < s.first_row + 4) (intrinsic_rows s)
  intrinsic-below = All-from_recursion (λ (r : Row). r.id < s.first_row + 4) (intrinsic_rows s) (omega arith, (omega arith, (omega arith, (omega arith, tt))))

  pub intrinsic-ranked : 0 < s.resist → 0 < s.hug → All HasRank (intrinsic_rows s)
  intrinsic-ranked resist hug = All-from_recursion HasRank (intrinsic_rows s) (resist, (hug, (resist, (hug, tt))))

  -- they have attributes of the view alone
  intrinsic-only : (attrs : List ℕ) → Contains attrs (width_of s.view) → Contains attrs (height_of s.view) → All (HasOnly attrs) (intrinsic_rows s)
  intrinsic-only attrs width height =
      let across = one-only attrs (once (width_of s.view)) width in
      let down = one-only attrs (once (height_of s.view)) height in
      All-from_recursion (HasOnly attrs) (intrinsic_rows s) (across, (across, (down, (down, tt))))

  -- the rows of a size for a view that is there
  pub intrinsic-may : (views : List LiveView) (next : ℕ) (name : List ℕ) (v : LiveView) → view_named views name ≡ Some v → s.view ≡ v.id → s.first_row ≡ next → All IsRow (intrinsic_rows s) → MayBeAdded (all_attributes views) next (intrinsic_rows s)
  intrinsic-may views next name v found same row each =
      let own = λ (a : ℕ) (inside : Contains (view_attributes s.view) a). found-among views name v a found (subst (λ (n : ℕ). Contains (view_attributes n) a) same inside) in
      record {
        rows = each;
        rising = intrinsic-rising;
        above = subst (λ (n : ℕ). All (λ (r : Row). n ≤ r.id) (intrinsic_rows s)) row intrinsic-above;
        only = intrinsic-only (all_attributes views) (own (width_of s.view) (contains-width s.view)) (own (height_of s.view) (contains-height s.view));
      }
