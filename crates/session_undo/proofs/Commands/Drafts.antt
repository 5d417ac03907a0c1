-- What a change asks of the scene: its draft.
use Rattle.std.proofs.Common.{◌≡◌, ◌∙◌, ◌+◌, ◌*◌, ◌^◌, ◌<◌, ◌≤◌, ℕ, List, Option, Some, [], ◌∷◌, true, true≢false, false, length, refl, sym, ap, ap₂, subst, arith, inr, All}
use Rattle.std.specs.Global.{Vec}
use Rattle.std.specs.List.{list_any}
use Rattle.frac_core.specs.Fraction.{Fraction}
use Rattle.problem_core.specs.Kept.{IsRow}
use Rattle.span_text.specs.Objects.{Meant}
use Rattle.constraint_compile.specs.Compiled.{CompiledLine}
use Rattle.constraint_compile.specs.Suggestions.{IsSuggestion, suggested_row}
use Rattle.constraint_compile.specs.declared.suggestion.Suggestion.{Suggestion}
use Rattle.held_items.specs.declared.item.HeldSize.{HeldSize}
use Rattle.held_items.specs.declared.item.WindowSize.{WindowSize}
use Rattle.held_items.specs.declared.item.coming.NewViews.{NewViews}
use Rattle.held_items.specs.declared.item.intrinsic.IntrinsicSize.{IntrinsicSize}
use Rattle.held_items.specs.declared.item.leaving.Leaver.TheVariants as leaver
use Rattle.held_items.specs.declared.item.new_item.NewItem.{NewItem}
use Rattle.held_items.specs.declared.item.renewing.Renewal.TheVariants as renewal
use Rattle.held_items.specs.Items.{Item, OfLine, Size, Sized, Suggested, Intrinsic, has_size, intrinsic_rows, size_of, size_rows}
use Rattle.held_items.specs.Kept.{IsIntrinsic, item_of, size_in}
use Rattle.held_items.specs.Leaving.{is_in_group}
use Rattle.held_items.specs.Moving.{FitsAfter}
use Rattle.script_text.specs.Meaning.{Linear}
use Rattle.script_text.specs.Meaning as mean
use Rattle.name_tables.specs.declared.stops.LimitWord.TheVariants as word
use Rattle.script_text.specs.declared.words.Align.{Align}
use Rattle.script_text.specs.declared.words.AttrWord.{AttrWord}
use Rattle.vfl_text.specs.Formats.{FormatMeaning}
use Rattle.view_tree.specs.JsonTrees.{size}
use Rattle.view_tree.specs.Views.{IsTree, ViewTree}
use Rattle.view_tree.specs.declared.view.ViewId.{ViewId}
use Rattle.scenes.specs.Drafts.{AreComing, HasRoomFor, IsViewNamed, MayComeNext, drafted, views_draft}
use Rattle.scenes.specs.Scene.{with_item, with_kept}
use Rattle.scenes.specs.declared.scene.draft.Draft.TheVariants as draft
use Rattle.scenes.specs.declared.scene.draft.NewMetrics.{NewMetrics}
use Rattle.scenes.proofs.NextItems as next
use Rattle.scenes.proofs.Renewals.{window-again}
use Rattle.session_undo.specs.Adding.{IsFirstIntrinsic, IsFirstSuggestion, IsFreeMetric, IsFreeTree, IsFreeView, IsGoing, IsHeldIntrinsic, IsHeldSuggestion, IsLaterIntrinsic, IsLaterSuggestion, IsNewLine, NoEnd}
use Rattle.session_undo.specs.Asking.{AsksFor, IsDraft}
use Rattle.session_undo.specs.Kept.{AreWithin}
use Rattle.session_undo.specs.Machine.{IsCrowded, TriedWindow, parent_name}
use Rattle.session_undo.specs.Replies.{Done, Limit}
use Rattle.session_undo.specs.State.{State}
use Rattle.session_undo.proofs.Commands.Chains.{metric-passed, view-passed, window-far, window-passed}
use Rattle.session_undo.proofs.Commands.LeavingSteps.{dropped-passed, removed-passed}
use Rattle.session_undo.proofs.Commands.LineStops.{IsLineOf, IsTextOf, constraint-passed, format-passed}
use Rattle.session_undo.proofs.Commands.Rooms.{room-fits, room-numbers}
use Rattle.session_undo.proofs.Commands.SizeSteps.{first-size-next, first-size-passed, later-size-near, later-size-passed, unsize-passed}
use Rattle.session_undo.proofs.Commands.SuggestionSteps.{first-next, first-passed, later-near, later-passed, release-passed}
use Rattle.session_undo.proofs.Commands.TreeChains.{tree-passed}
use Rattle.std.proofs.lemmas.Option.{none-some, same_Some}
use Rattle.held_items.proofs.Constants.Resized.{some-held}

module _ (old : State) (within : AreWithin old.limits) where
  has-room : (n : ℕ) → (IsCrowded old n → ⊥) → HasRoomFor old.scene n
  has-room n free = record { rows = room-fits old n within free; numbers = room-numbers old n free }

  pub view-draft : (name : List ℕ) (parent : Option (List ℕ)) (new : NewViews) → IsFreeView old name (parent_name parent) new.tree new.first_view.0 → new.count ≡ 1 → AreComing old.scene new → IsDraft old (mean.Views (mean.View name parent)) (draft.Views new)
  view-draft name parent new free one grown =
      let room : length old.scene.rows + 2 ≤ 2000 = room-fits old 2 within free.rows in
      let fits : old.scene.next_row + 2 ≤ 2 ^ 31 = room-numbers old 2 free.rows in
      record {
        asks = view-passed old name (parent_name parent) (AsksFor (drafted old.scene (draft.Views new))) new.tree new.first_view.0 Done old free (ap (λ (k : ℕ). views_draft old.scene new.tree new.first_view.0 k) (sym one));
        may = (grown, record { rows = omega (arith, room, one); numbers = omega (arith, fits, one) }, ap (λ (t : ViewTree). t.most) free.tree_is);
        kind_is = refl;
      }

  pub tree-draft : (text : List ℕ) (start : ℕ) (new : NewViews) → IsFreeTree old text new.tree new.first_view.0 new.count → AreComing old.scene new → IsDraft old (mean.Views (mean.Tree text start)) (draft.Views new)
  tree-draft text start new free grown =
      let room : length old.scene.rows + 2 * size free.tree.branch ≤ 2000 = room-fits old (2 * size free.tree.branch) within free.rows in
      let fits : old.scene.next_row + 2 * size free.tree.branch ≤ 2 ^ 31 = room-numbers old (2 * size free.tree.branch) free.rows in
      record {
        asks = tree-passed old text start (AsksFor (drafted old.scene (draft.Views new))) new.tree new.first_view.0 new.count Done old free refl;
        may = (grown, record { rows = omega (arith, room, free.count_is); numbers = omega (arith, fits, free.count_is) }, ap (λ (t : ViewTree). t.most) free.tree_is);
        kind_is = refl;
      }

  -- the scene with this item more, which has so many rows
  more-is : (new : NewItem) (item : Item) (n : ℕ) → item_of new.item ≡ item → length new.rows.items ≡ n → with_item old.scene item n ≡ drafted old.scene (draft.More new)
  more-is new item n is long = sym (ap₂ (with_item old.scene) is long)

  pub first-window-draft : (width height : Fraction) (new : NewItem) → has_size old.scene.held ≡ false → (IsCrowded old 2 → ⊥) → item_of new.item ≡ Sized old.scene.next_row width height
      → new.rows.items ≡ size_rows old.scene.next_row width height → All IsRow new.rows.items → IsDraft old (mean.Update (mean.Window width height)) (draft.More new)
  first-window-draft width height new none free is rows each =
      let long : length new.rows.items ≡ 2 = ap length rows in
      record {
        asks = window-passed old width height (AsksFor (drafted old.scene (draft.More new))) (λ (h, crowded). free crowded) Done old (λ (s, some, far). no-size s none some)
            (sym (next.size-draft old.scene width height new.rows.items none rows) ∙ sym (ap (λ (item : Item). with_item old.scene item (length new.rows.items)) is));
        may = record {
          next = subst (λ (item : Item). MayComeNext old.scene item new.rows.items) (sym is) (refl, none, rows);
          each = each;
          room = subst (HasRoomFor old.scene) (sym long) (has-room 2 free);
        };
        kind_is = refl;
      }
    where
      no-size : (s : Size) → has_size old.scene.held ≡ false → size_of old.scene.held ≡ Some s → ⊥
      no-size s none some = true≢false (sym (some-held old.scene.held s some) ∙ none)

  roomy : (group : List ℕ) (line : CompiledLine) (new : NewItem) → IsNewLine old group line new → HasRoomFor old.scene (length new.rows.items)
  roomy group line new is = has-room (length new.rows.items) (subst (λ (n : ℕ). IsCrowded old n → ⊥) (sym is.free.are_rows.long) is.free.free.1)

  line-next : (group : List ℕ) (line : CompiledLine) (new : NewItem) → IsNewLine old group line new → MayComeNext old.scene (item_of new.item) new.rows.items
  line-next group line new is = subst (λ (item : Item). MayComeNext old.scene item new.rows.items) (sym is.item) (is.free.are_rows, is.free.next)

  pub constraint-draft : (group : List ℕ) (line : Linear) (compiled : CompiledLine) (new : NewItem) → IsLineOf old line compiled → IsNewLine old group compiled new
      → IsDraft old (mean.Update (mean.Constrain group line)) (draft.More new)
  constraint-draft group line compiled new is made = record {
    asks = constraint-passed old group line (AsksFor (drafted old.scene (draft.More new))) compiled new.rows.items Done old is made.free (more-is new (OfLine group compiled) (length compiled.rows) made.item made.free.are_rows.long);
    may = record { next = line-next group compiled new made; each = made.free.each; room = roomy group compiled new made };
    kind_is = refl;
  }

  pub format-draft : (group : List ℕ) (align : Option Align) (format : FormatMeaning) (compiled : CompiledLine) (new : NewItem) → IsTextOf old align format compiled → IsNewLine old group compiled new
      → IsDraft old (mean.Update (mean.Vfl group align format)) (draft.More new)
  format-draft group align format compiled new is made = record {
    asks = format-passed old group align format (AsksFor (drafted old.scene (draft.More new))) compiled new.rows.items Done old is made.free (more-is new (OfLine group compiled) (length compiled.rows) made.item made.free.are_rows.long);
    may = record { next = line-next group compiled new made; each = made.free.each; room = roomy group compiled new made };
    kind_is = refl;
  }

  pub suggestion-draft : (name : List ℕ) (attr : AttrWord) (value : Fraction) (priority : Option Meant) (s : Suggestion) (new : NewItem) → IsFirstSuggestion old name attr value priority s → item_of new.item ≡ Suggested s
      → new.rows.items ≡ suggested_row s ∷ [] → All IsRow new.rows.items → IsDraft old (mean.Update (mean.Suggest name attr value priority)) (draft.More new)
  suggestion-draft name attr value priority s new first is rows each =
      let one : length new.rows.items ≡ 1 = ap length rows in
      record {
        asks = first-passed old name attr value priority s (AsksFor (drafted old.scene (draft.More new))) Done old first (more-is new (Suggested s) 1 is one);
        may = record {
          next = subst (λ (item : Item). MayComeNext old.scene item new.rows.items) (sym is) (first-next old name attr value priority s first, rows);
          each = each;
          room = subst (HasRoomFor old.scene) (sym one) (has-room 1 first.room);
        };
        kind_is = refl;
      }

  pub size-draft : (name : List ℕ) (width height : Fraction) (hug resist : Option Meant) (s : IntrinsicSize) (new : NewItem) → IsFirstIntrinsic old name width height hug resist s → item_of new.item ≡ Intrinsic s
      → new.rows.items ≡ intrinsic_rows s → All IsRow new.rows.items → IsDraft old (mean.Update (mean.Size name width height hug resist)) (draft.More new)
  size-draft name width height hug resist s new first is rows each =
      let four : length new.rows.items ≡ 4 = ap length rows in
      record {
        asks = first-size-passed old name width height hug resist s (AsksFor (drafted old.scene (draft.More new))) Done old first (more-is new (Intrinsic s) 4 is four);
        may = record {
          next = subst (λ (item : Item). MayComeNext old.scene item new.rows.items) (sym is) (first-size-next old name width height hug resist s first, rows);
          each = each;
          room = subst (HasRoomFor old.scene) (sym four) (has-room 4 first.room);
        };
        kind_is = refl;
      }

pub later-window-draft : (old : State) (size : WindowSize) (held : HeldSize) → size_of old.scene.held ≡ Some (size_in held) → FitsAfter held.size.width size.width × FitsAfter held.size.height size.height
    → IsDraft old (mean.Update (mean.Window size.width size.height)) (draft.Renewed (renewal.Size (record held { size = size })))
later-window-draft old size held some near = record {
  asks = window-passed old size.width size.height (AsksFor (drafted old.scene (draft.Renewed (renewal.Size (record held { size = size }))))) (λ (none, crowded). true≢false (sym (some-held old.scene.held (size_in held) some) ∙ none)) Done old
      (λ (s, found, far). far (subst (λ (t : Size). FitsAfter t.width size.width × FitsAfter t.height size.height) (same_Some (size_in held) s (sym some ∙ found)) near))
      (sym (window-again old.scene (record held { size = size }) (size_in held) some));
  may = (size_in held, some, refl, near.0, near.1);
  kind_is = refl;
}

-- one constant moves too far
pub later-window-far : (old : State) (size : WindowSize) (held : HeldSize) → size_of old.scene.held ≡ Some (size_in held) → (FitsAfter held.size.width size.width × FitsAfter held.size.height size.height → ⊥)
    → TriedWindow old size.width size.height NoEnd (Limit word.Constant) old
later-window-far old size held some far =
    window-far old size.width size.height NoEnd (λ (none, crowded). true≢false (sym (some-held old.scene.held (size_in held) some) ∙ none)) (size_in held, some, far)

pub suggested-draft : (old : State) (name : List ℕ) (attr : AttrWord) (value : Fraction) (priority : Option Meant) (s : Suggestion) → IsLaterSuggestion old name attr value priority s
    → IsDraft old (mean.Update (mean.Suggest name attr value priority)) (draft.Renewed (renewal.Suggestion s))
suggested-draft old name attr value priority s later = record {
  asks = later-passed old name attr value priority s (AsksFor (drafted old.scene (draft.Renewed (renewal.Suggestion s)))) Done old later refl;
  may = later-near old name attr value priority s later;
  kind_is = refl;
}

pub preferred-draft : (old : State) (name : List ℕ) (width height : Fraction) (hug resist : Option Meant) (s : IntrinsicSize) → IsLaterIntrinsic old name width height hug resist s
    → IsDraft old (mean.Update (mean.Size name width height hug resist)) (draft.Renewed (renewal.Intrinsic s))
preferred-draft old name width height hug resist s later = record {
  asks = later-size-passed old name width height hug resist s (AsksFor (drafted old.scene (draft.Renewed (renewal.Intrinsic s)))) Done old later refl;
  may = later-size-near old name width height hug resist s later;
  kind_is = refl;
}

-- ---- numbers of what comes first

pub suggestion-numbers : (old : State) (name : List ℕ) (attr : AttrWord) (value : Fraction) (priority : Option Meant) (s : Suggestion) → 0 < old.scene.next_row → IsTree old.scene.tree → IsFirstSuggestion old name attr value priority s → IsSuggestion s
suggestion-numbers old name attr value priority s above tree first =
    let small : old.scene.next_row + 1 ≤ 2 ^ 31 = room-numbers old 1 first.room in
    next.suggestion-own old.scene s above tree (first-next old name attr value priority s first) (omega (arith, small))

pub size-numbers : (old : State) (name : List ℕ) (width height : Fraction) (hug resist : Option Meant) (s : IntrinsicSize) → 0 < old.scene.next_row → IsTree old.scene.tree → IsFirstIntrinsic old name width height hug resist s → IsIntrinsic s
size-numbers old name width height hug resist s above tree first =
    next.intrinsic-own old.scene s above tree (first-size-next old name width height hug resist s first) (room-numbers old 4 first.room)

-- ---- metrics, and what leaves

pub metric-draft : (old : State) (name : List ℕ) (value : Fraction) (new : NewMetrics) → IsFreeMetric old name value new.metrics new.to.items → IsDraft old (mean.Update (mean.Metric name value)) (draft.Metrics new)
metric-draft old name value new free = record {
  asks = metric-passed old name value (AsksFor (drafted old.scene (draft.Metrics new))) new.metrics new.to.items Done old free refl;
  may = free.changes;
  kind_is = refl;
}

pub drop-draft : (old : State) (name : List ℕ) (gone : Vec ℕ) → IsGoing old.scene name gone.items → IsDraft old (mean.Leave (mean.Drop name)) (draft.Out (leaver.Views gone))
drop-draft old name gone going = record {
  asks = dropped-passed old name gone.items (AsksFor (drafted old.scene (draft.Out (leaver.Views gone)))) Done old going refl;
  may = (going.root.id, going.below, going.are);
  kind_is = refl;
}

pub group-draft : (old : State) (group name : List ℕ) → name ≡ group → list_any (is_in_group group) old.scene.held ≡ true → IsDraft old (mean.Leave (mean.Remove group)) (draft.Out (leaver.Group name))
group-draft old group name is held =
    subst (λ (g : List ℕ). IsDraft old (mean.Leave (mean.Remove group)) (draft.Out (leaver.Group g))) (sym is) (record {
      asks = removed-passed old group (AsksFor (drafted old.scene (draft.Out (leaver.Group group)))) Done old held refl;
      may = tt;
      kind_is = refl;
    })

pub release-draft : (old : State) (name : List ℕ) (attr : AttrWord) (view : ViewId) → IsHeldSuggestion old.scene name attr view.0 → IsDraft old (mean.Leave (mean.Release name attr)) (draft.Out (leaver.Suggestion view.0 attr))
release-draft old name attr view held = record {
  asks = release-passed old name attr view.0 (AsksFor (drafted old.scene (draft.Out (leaver.Suggestion view.0 attr)))) Done old held refl;
  may = tt;
  kind_is = refl;
}

pub unsize-draft : (old : State) (name : List ℕ) (view : ViewId) → IsHeldIntrinsic old.scene name view.0 → IsDraft old (mean.Leave (mean.Unsize name)) (draft.Out (leaver.Intrinsic view.0))
unsize-draft old name view held = record {
  asks = unsize-passed old name view.0 (AsksFor (drafted old.scene (draft.Out (leaver.Intrinsic view.0)))) Done old held refl;
  may = tt;
  kind_is = refl;
}

pub keep-draft : (old : State) (name : List ℕ) (view : ViewId) → IsViewNamed old.scene name view.0 → IsDraft old (mean.Keep name) (draft.Keep view)
keep-draft old name view (v, found, same) = record {
  asks = inr ((λ none. none-some v (sym none ∙ found)), (v, found, ap (with_kept old.scene) (sym same)));
  may = (name, (v, found, same));
  kind_is = refl;
}
