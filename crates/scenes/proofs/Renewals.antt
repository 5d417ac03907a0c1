-- Other constants of what is held: the rows that come of them, and that these may have them.
use Rattle.std.proofs.Common.{◌≡◌, ℕ, ◌<◌, Bool, true, false, cond, nat_eq, eqb-true, Some, List, [], ◌∷◌, All, AllPairs, refl, sym, subst, arith}
use Rattle.std.proofs.lemmas.Option.{none-some, same_Some}
use Rattle.std.specs.List.{AllByRecursion as Each}
use Rattle.std.proofs.lemmas.List.Elements.{recursion_from_All}
use Rattle.view_tree.specs.Views.{ViewTree}
use Rattle.compile_parts.specs.Meaning.{IsRowRank, MetricList}
use Rattle.layout_solver.specs.declared.engine.Change.{Change}
use Rattle.layout_solver.specs.Layouts.{IsKeptLayout, Layout}
use Rattle.layout_solver.specs.Shifts.{AreKept, CanShift, shifted}
use Rattle.held_items.specs.declared.item.renewing.Renewal.{Renewal}
use Rattle.held_items.specs.declared.item.renewing.Renewal.TheVariants as renewal
use Rattle.held_items.specs.declared.item.HeldSize.{HeldSize}
use Rattle.held_items.specs.declared.item.intrinsic.IntrinsicSize.{IntrinsicSize}
use Rattle.held_items.specs.Items.{AreRows, Intrinsic, Item, OfLine, OfView, OfWindow, Size, Sized, Suggested, has_size, intrinsic_of, size_of}
use Rattle.held_items.specs.Kept.{HasRowNumbers, IsIntrinsic, IsItem, changes_of, renewed_by}
use Rattle.held_items.proofs.Constants.Renewed.{IsHeldFor, IsNearFor, can-renew, renewed-rising, shifted-renewed}
use Rattle.held_items.proofs.Constants.Resized.{size-number, some-held}
use Rattle.scenes.specs.Drafts.{IsNearIntrinsic, IsNearRenewal, renewed_draft}
use Rattle.scenes.specs.Kept.{IsKept, scene_at}
use Rattle.scenes.specs.Scene.{Scene, with_window}
use Rattle.scenes.specs.declared.scene.past.Setting.{Setting}
use Rattle.scenes.proofs.Engines.Posed.{is}

-- what is near is held
pub near-held : (scene : Scene) (to : Renewal) → IsNearRenewal scene to → IsHeldFor scene.held to
near-held scene (renewal.Size size) near = (near.0, near.1, near.2)
near-held scene (renewal.Suggestion again) near = (near.before, near.found, near.row)
near-held scene (renewal.Intrinsic again) near = (near.before, near.found, near.row)

near-near : (scene : Scene) (to : Renewal) (near : IsNearRenewal scene to) → IsNearFor scene.held to (near-held scene to near)
unfolding near-held
near-near scene (renewal.Size size) near = (near.3, near.4)
near-near scene (renewal.Suggestion again) near = near.near
near-near scene (renewal.Intrinsic again) near = (near.width, near.height)

-- ---- another size of the window

pub window-again : (scene : Scene) (size : HeldSize) (before : Size) → size_of scene.held ≡ Some before → renewed_draft scene (renewal.Size size) ≡ with_window scene size.size.width size.size.height
window-again scene size before some = sym (again scene size (some-held scene.held before some))
  where
    again : (scene : Scene) (size : HeldSize) → has_size scene.held ≡ true → with_window scene size.size.width size.size.height ≡ renewed_draft scene (renewal.Size size)
    again scene size some = rw some refl

-- ---- the numbers of a view's size

held-is : (view : ℕ) (held : List Item) (s : IntrinsicSize) → Each IsItem held → intrinsic_of view held ≡ Some s → IsIntrinsic s × (s.view ≡ view)
held-is view [] s each found = absurd (none-some s found)
held-is view (OfWindow ∷ held) s each found = held-is view held s each.1 found
held-is view (OfView first id ∷ held) s each found = held-is view held s each.1 found
held-is view (Sized first w h ∷ held) s each found = held-is view held s each.1 found
held-is view (OfLine group line ∷ held) s each found = held-is view held s each.1 found
held-is view (Suggested own ∷ held) s each found = held-is view held s each.1 found
held-is view (Intrinsic own ∷ held) s each found = by (nat_eq own.view view) refl found (λ later. held-is view held s each.1 later)
  where
    by : (b : Bool) → nat_eq own.view view ≡ b → cond b (Some own) (intrinsic_of view held) ≡ Some s → (intrinsic_of view held ≡ Some s → IsIntrinsic s × (s.view ≡ view)) → IsIntrinsic s × (s.view ≡ view)
    by true same h later = subst (λ (t : IntrinsicSize). IsIntrinsic t × (t.view ≡ view)) (same_Some own s h) (each.0, eqb-true own.view view same)
    by false other h later = later h

-- a size that is near has the numbers of the one that is held
pub preferred-own : (scene : Scene) (s : IntrinsicSize) → All IsItem scene.held → IsNearIntrinsic scene s → IsIntrinsic s
preferred-own scene s each near =
    let own = held-is s.view scene.held near.before (recursion_from_All IsItem scene.held each) near.found in
    record {
      above = omega (arith, near.row, own.0.above);
      below = omega (arith, near.row, own.0.below);
      view = omega (arith, own.0.view, own.1);
      resist = subst IsRowRank (sym near.resist) own.0.resist;
      hug = subst IsRowRank (sym near.hug) own.0.hug;
    }

-- the numbers of the rows of what is near are such
pub near-numbers : (scene : Scene) (to : Renewal) → All IsItem scene.held → IsNearRenewal scene to → HasRowNumbers to
near-numbers scene (renewal.Size size) each (before, found, same, width, height) = (let number = size-number scene.held before each found in omega (arith, same, number.1))
near-numbers scene (renewal.Suggestion again) each near = tt
near-numbers scene (renewal.Intrinsic again) each near = preferred-own scene again each near

-- ---- their rows

-- the numbers of the rows rise
pub changes-rising : (to : Renewal) (changes : List Change) → changes ≡ changes_of to → AllPairs (λ a b. a.row < b.row) changes
changes-rising to changes are = subst (AllPairs (λ (a b : Change). a.row < b.row)) (sym are) (renewed-rising to)

module _ (tree : ViewTree) (ms : MetricList) (held : List Item) (setting : Setting) (l : Layout) (kept : IsKept (scene_at tree ms held setting l)) (sound : IsKeptLayout l)
    (to : Renewal) (changes : List Change) (are : changes ≡ changes_of to) where
  -- the rows of what is held with these constants
  pub renewed-rows : IsHeldFor held to → AreRows ms (renewed_by to held) (shifted changes l.problem.rows)
  renewed-rows found =
      subst (λ (cs : List Change). AreRows ms (renewed_by to held) (shifted cs l.problem.rows)) (sym are)
      (shifted-renewed ms held l.problem.rows kept.are_rows to found (is tree ms held setting l kept sound).whole.rising)

  -- they may have them
  pub renewed-can : IsNearRenewal (scene_at tree ms held setting l) to → AreKept changes → CanShift l.problem changes
  renewed-can near kept_changes =
      subst (CanShift l.problem) (sym are)
      (can-renew ms held l.problem to (near-held (scene_at tree ms held setting l) to near) (near-near (scene_at tree ms held setting l) to near) kept.are_rows (is tree ms held setting l kept sound).whole (subst AreKept are kept_changes))
