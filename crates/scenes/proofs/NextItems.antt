-- The problem of a draft with an item more, and which items may be held next.
use Rattle.std.proofs.Common.{◌≡◌, ◌∙◌, ℕ, suc, ◌+◌, ◌^◌, ◌<◌, ◌≤◌, true, false, cond, Some, List, [], ◌∷◌, ◌++◌, length, All, refl, sym, ap, subst, arith}
use Rattle.std.proofs.lemmas.List.{append-nil}
use Rattle.std.proofs.lemmas.List.Elements.{All-from_recursion}
use Rattle.std.proofs.lemmas.Option.{none-some, same_Some}
use Rattle.std.specs.Str.{bytes_eq}
use Rattle.frac_core.specs.Fraction.{Fraction}
use Rattle.problem_core.specs.declared.limits.TheConstants.{NUMBER_LIMIT}
use Rattle.problem_core.specs.Kept.{IsRow, IsWhole}
use Rattle.problem_core.specs.Layout.{Row, Problem}
use Rattle.view_tree.specs.Views.{IsTree, LiveView, ViewTree, view_named}
use Rattle.constraint_compile.specs.Compiled.{AreRowsNow, CompiledLine}
use Rattle.compile_parts.specs.Meaning.{MetricList}
use Rattle.constraint_compile.specs.Suggestions.{IsSuggestion, suggested_row}
use Rattle.constraint_compile.specs.declared.suggestion.Suggestion.{Suggestion}
use Rattle.layout_solver.specs.Layouts.{Layout, IsKeptLayout, with_added}
use Rattle.held_items.specs.declared.limits.TheConstants.{MOST_ROWS}
use Rattle.scenes.specs.Drafts.{HasRoomFor, IsNextIntrinsic, IsNextSuggestion, MayComeNext}
use Rattle.held_items.specs.Attributes.{IsNextLine, all_attributes}
use Rattle.held_items.specs.Items.{AreRows, Intrinsic, Item, OfLine, OfView, OfWindow, Sized, Suggested, has_size, intrinsic_rows, size_rows}
use Rattle.held_items.specs.declared.item.intrinsic.IntrinsicSize.{IntrinsicSize}
use Rattle.held_items.specs.Kept.{IsIntrinsic, IsItem, IsNamed}
use Rattle.scenes.specs.Kept.{IsKept, IsNextItem, scene_at}
use Rattle.scenes.specs.Steps.{IsProblemOf}
use Rattle.scenes.specs.Scene.{Scene, with_item, with_window}
use Rattle.scenes.proofs.Engines.Additions.{counted-added, rows-whole}
use Rattle.held_items.proofs.HeldRows.IntrinsicRows.{intrinsic-below, intrinsic-may, intrinsic-ranked}
use Rattle.held_items.proofs.HeldRows.RequiredRows.{size-may}
use Rattle.held_items.proofs.HeldRows.ItemRows.{all-more, rows-more}
use Rattle.held_items.proofs.HeldRows.NextRows.{line-below, line-may}
use Rattle.held_items.proofs.HeldRows.Ranks.{HasRank, ranks-now, size-ranked}
use Rattle.scenes.proofs.Engines.Reached.{settled}
use Rattle.scenes.proofs.Engines.Posed.{still}
use Rattle.scenes.proofs.Engines.Requests.{rows_is, stays_is}
use Rattle.held_items.proofs.Suggestions.SuggestionTerms.{suggestion-may}
use Rattle.scenes.specs.declared.scene.past.Setting.{Setting}
use Rattle.scenes.proofs.Settings.{later}

module _ (tree : ViewTree) (ms : MetricList) (held : List Item) (setting : Setting) (l : Layout) (kept : IsKept (scene_at tree ms held setting l)) (sound : IsKeptLayout l)
    (item : Item) (more : List Row) (fits : IsNextItem (scene_at tree ms held setting l) item more) where
  pub item-whole : IsWhole (with_added l [] more)
  item-whole = rows-whole tree.views setting.next_row l more (settled l sound) kept.counted fits.may fits.room

  with-rows : (rows : List Row) → rows ≡ l.problem.rows ++ more → AreRows ms (held ++ item ∷ []) rows
  with-rows rows joined = subst (AreRows ms (held ++ item ∷ [])) (sym joined) (rows-more ms held item l.problem.rows more kept.are_rows fits.own)

  pub item-kept : (items : List Item) (new : Layout) → new.problem ≡ with_added l [] more → items ≡ held ++ item ∷ [] → setting.next_row + length more ≤ NUMBER_LIMIT
      → IsKept (scene_at tree ms items (later setting (length more)) new)
  item-kept items new done items_is small =
      subst (λ (hs : List Item). IsKept (scene_at tree ms hs (later setting (length more)) new)) (sym items_is)
      (record {
        are_rows = with-rows new.problem.rows (rows_is new.problem (with_added l [] more) done);
        each = all-more IsItem held item kept.each fits.is;
        named = all-more (IsNamed tree.views) held item kept.named fits.named;
        next = omega (arith, kept.next);
        top = small;
        counted = counted-added tree.views tree.views setting.next_row (setting.next_row + length more) l [] more new.problem (settled l sound).attributes kept.counted
            (sym (append-nil (all_attributes tree.views))) fits.below fits.ranks (omega arith) fits.room done;
      })

  pub item-posed : (p : Problem) → p ≡ with_added l [] more → IsProblemOf (with_item (scene_at tree ms held setting l) item (length more)) p
  item-posed p made = (
    with-rows p.rows (rows_is p (with_added l [] more) made),
    stays_is p (with_added l [] more) made ∙ sym (still tree ms held setting l kept sound),
  )

-- ---- the draft with an item more

-- the window's first size
pub size-draft : (scene : Scene) (w h : Fraction) (more : List Row) → has_size scene.held ≡ false → more ≡ size_rows scene.next_row w h
    → with_item scene (Sized scene.next_row w h) (length more) ≡ with_window scene w h
size-draft scene w h more none are = ap (λ (rows : List Row). with_item scene (Sized scene.next_row w h) (length rows)) are ∙ sym (first scene w h none)
  where
    first : (scene : Scene) (w h : Fraction) → has_size scene.held ≡ false → with_window scene w h ≡ with_item scene (Sized scene.next_row w h) 2
    first scene w h none = rw none refl

-- so many rows
pub count-draft : (scene : Scene) (item : Item) (m n : ℕ) → m ≡ n → with_item scene item m ≡ with_item scene item n
count-draft scene item m n same = ap (with_item scene item) same

-- ---- numbers of what may be held next

found-small : (views : List LiveView) (name : List ℕ) (v : LiveView) → All (λ u. u.id < 2 ^ 29) views → view_named views name ≡ Some v → v.id < 2 ^ 29
found-small [] name v all found = absurd (none-some v found)
found-small (u ∷ views) name v all found =
    elim (bytes_eq name u.name) as (λ b. cond b (Some u) (view_named views name) ≡ Some v → v.id < 2 ^ 29) [
      | true ↦ λ h. subst (λ (x : LiveView). x.id < 2 ^ 29) (same_Some u v h) (all 0 u (omega arith))
      | false ↦ λ h. found-small views name v (λ k d within. all (suc k) d (omega (arith, within))) h
    ] found

-- the numbers are those of a row and of a view
pub suggestion-own : (scene : Scene) (s : Suggestion) → 0 < scene.next_row → IsTree scene.tree → IsNextSuggestion scene s → scene.next_row < NUMBER_LIMIT → IsSuggestion s
suggestion-own scene s above whole new small = record {
  row = (omega (arith, new.row, above), omega (arith, new.row, small));
  rank = new.rank.1;
  view = (let low : new.view.id < 2 ^ 29 = found-small scene.tree.views new.name new.view (λ k d within. omega (arith, whole.below k d within, whole.ids)) new.found in omega (arith, low, new.same));
}

pub intrinsic-own : (scene : Scene) (s : IntrinsicSize) → 0 < scene.next_row → IsTree scene.tree → IsNextIntrinsic scene s → scene.next_row + 4 ≤ NUMBER_LIMIT → IsIntrinsic s
intrinsic-own scene s above whole new small = record {
  above = omega (arith, new.row, above);
  below = omega (arith, new.row, small);
  view = (let low : new.view.id < 2 ^ 29 = found-small scene.tree.views new.name new.view (λ k d within. omega (arith, whole.below k d within, whole.ids)) new.found in omega (arith, low, new.same));
  resist = new.resist;
  hug = new.hug;
}

-- ---- items that may be held next

pub line-next : (scene : Scene) (group : List ℕ) (line : CompiledLine) (more : List Row) → IsNextLine scene.tree.views scene.next_row line → AreRowsNow scene.metrics line.rows more → All IsRow more
    → length scene.rows + length more ≤ MOST_ROWS → IsNextItem scene (OfLine group line) more
line-next scene group line more fits are each room = record {
  own = are;
  is = tt;
  named = fits.owned;
  may = line-may scene.tree.views scene.next_row line scene.metrics more fits are each;
  below = line-below scene.tree.views scene.next_row line scene.metrics more fits are;
  ranks = ranks-now scene.metrics line.rows more are fits.ranks;
  room = room;
}

module _ (tree : ViewTree) (ms : MetricList) (held : List Item) (setting : Setting) (l : Layout) (kept : IsKept (scene_at tree ms held setting l)) where
  pub size-next : (w h : Fraction) (more : List Row) → IsTree tree → more ≡ size_rows setting.next_row w h → All IsRow more → length l.problem.rows + 2 ≤ MOST_ROWS → setting.next_row < NUMBER_LIMIT
      → IsNextItem (scene_at tree ms held setting l) (Sized setting.next_row w h) more
  size-next w h more whole are each room small =
      let two : length more ≡ 2 = ap length are in
      record {
        own = are;
        is = (kept.next, small);
        named = tt;
        may = size-may tree setting.next_row w h more whole are each;
        below = subst (λ (n : ℕ). All (λ (r : Row). r.id < setting.next_row + n) more) (sym two)
            (subst (All (λ (r : Row). r.id < setting.next_row + 2)) (sym are) (All-from_recursion (λ (r : Row). r.id < setting.next_row + 2) (size_rows setting.next_row w h) (omega arith, (omega arith, tt))));
        ranks = subst (All HasRank) (sym are) (size-ranked setting.next_row w h);
        room = omega (arith, room, two);
      }

  pub suggestion-next : (s : Suggestion) (more : List Row) → IsTree tree → IsNextSuggestion (scene_at tree ms held setting l) s → setting.next_row < NUMBER_LIMIT → more ≡ suggested_row s ∷ [] → All IsRow more
      → length l.problem.rows + 1 ≤ MOST_ROWS → IsNextItem (scene_at tree ms held setting l) (Suggested s) more
  suggestion-next s more whole new small are each room =
      let own : IsRow (suggested_row s) = subst (All IsRow) are each 0 (suggested_row s) (omega arith) in
      let count : length more ≡ 1 = ap length are in
      record {
        own = are;
        is = suggestion-own (scene_at tree ms held setting l) s kept.next whole new small;
        named = tt;
        may = rw are (suggestion-may tree.views setting.next_row s new.name new.view new.found new.same new.row own);
        below = subst (λ (n : ℕ). All (λ (r : Row). r.id < setting.next_row + n) more) (sym count)
            (subst (All (λ (r : Row). r.id < setting.next_row + 1)) (sym are) (All-from_recursion (λ (r : Row). r.id < setting.next_row + 1) (suggested_row s ∷ []) (omega (arith, new.row), tt)));
        ranks = subst (All HasRank) (sym are) (All-from_recursion HasRank (suggested_row s ∷ []) (new.rank.0, tt));
        room = omega (arith, room, count);
      }

  pub intrinsic-next : (s : IntrinsicSize) (more : List Row) → IsTree tree → IsNextIntrinsic (scene_at tree ms held setting l) s → setting.next_row + 4 ≤ NUMBER_LIMIT → more ≡ intrinsic_rows s → All IsRow more
      → length l.problem.rows + 4 ≤ MOST_ROWS → IsNextItem (scene_at tree ms held setting l) (Intrinsic s) more
  intrinsic-next s more whole new small are each room =
      let own : All IsRow (intrinsic_rows s) = subst (All IsRow) are each in
      let count : length more ≡ 4 = ap length are in
      record {
        own = are;
        is = intrinsic-own (scene_at tree ms held setting l) s kept.next whole new small;
        named = tt;
        may = rw are (intrinsic-may s tree.views setting.next_row new.name new.view new.found new.same new.row own);
        below = subst (λ (n : ℕ). All (λ (r : Row). r.id < setting.next_row + n) more) (sym count)
            (subst (λ (n : ℕ). All (λ (r : Row). r.id < n + 4) more) new.row (subst (All (λ (r : Row). r.id < s.first_row + 4)) (sym are) (intrinsic-below s)));
        ranks = subst (All HasRank) (sym are) (intrinsic-ranked s new.resist.0 new.hug.0);
        room = omega (arith, room, count);
      }

  -- what may come next
  pub item-next : (item : Item) (more : List Row) → IsTree tree → MayComeNext (scene_at tree ms held setting l) item more → All IsRow more → HasRoomFor (scene_at tree ms held setting l) (length more)
      → IsNextItem (scene_at tree ms held setting l) item more
  item-next OfWindow more whole next each room = absurd next
  item-next (OfView first_row id) more whole next each room = absurd next
  item-next (Sized first_row w h) more whole (same, none, are) each room =
      let two : length more ≡ 2 = ap length are in
      subst (λ (n : ℕ). IsNextItem (scene_at tree ms held setting l) (Sized n w h) more) (sym same)
      (size-next w h more whole (are ∙ ap (λ (n : ℕ). size_rows n w h) same) each (omega (arith, room.rows, two)) (omega (arith, room.numbers, two)))
  item-next (OfLine group line) more whole (are, next) each room = line-next (scene_at tree ms held setting l) group line more next are each room.rows
  item-next (Suggested s) more whole (next, are) each room =
      let one : length more ≡ 1 = ap length are in
      suggestion-next s more whole next (omega (arith, room.numbers, one)) are each (omega (arith, room.rows, one))
  item-next (Intrinsic s) more whole (next, are) each room =
      let four : length more ≡ 4 = ap length are in
      intrinsic-next s more whole next (omega (arith, room.numbers, four)) are each (omega (arith, room.rows, four))
