-- A command makes one draft at most, and it is definite.
use Rattle.std.proofs.Common.{◌≡◌, ◌∙◌, ℕ, ◌<◌, List, Option, None, Some, sym, ap, ap₂, subst}
use Rattle.std.proofs.lemmas.Option.{same_Some}
use Rattle.frac_core.specs.Fraction.{Fraction}
use Rattle.view_tree.specs.Drops.{AreGoing}
use Rattle.view_tree.specs.JsonStops.{GoesIn}
use Rattle.view_tree.specs.JsonTrees.{IsTreeText, JsonTree, tree_of}
use Rattle.view_tree.specs.Views.{LiveView, view_named}
use Rattle.script_text.specs.Directions.{line_in}
use Rattle.script_text.specs.Meaning.{Change}
use Rattle.script_text.specs.Meaning as mean
use Rattle.script_text.specs.declared.words.AttrWord.{AttrWord}
use Rattle.compile_parts.specs.Fractions.{negated}
use Rattle.constraint_compile.specs.Suggestions.{scale_of, suggested_priority}
use Rattle.constraint_compile.specs.declared.suggestion.Suggestion.{Suggestion}
use Rattle.held_items.specs.Items.{intrinsic_of, is_intrinsic, is_suggestion, suggestion_of}
use Rattle.held_items.specs.Leaving.{is_in_group}
use Rattle.held_items.specs.declared.item.intrinsic.IntrinsicSize.{IntrinsicSize}
use Rattle.scenes.specs.Leaving.{without_intrinsic, without_suggestion, without_views}
use Rattle.scenes.specs.Scene.{Scene, with_branch, with_kept, with_line, with_view}
use Rattle.session_undo.specs.Machine.{hugging, intrinsic_at, parent_name, resisting}
use Rattle.session_undo.specs.State.{State}
use Rattle.session_laws.specs.Posed.Definite.{IsDefinite, IsDefiniteChange}
use Rattle.session_laws.proofs.Posing.Sums.{one-constant}
use Rattle.session_laws.proofs.Posing.LineRows.{line-above, line-definite as compiled-definite, one-line, one-rank}
use Rattle.session_laws.proofs.Posing.FormatRows.{format-definite, one-format}
use Rattle.session_laws.proofs.Posing.GoingViews.{one-going}
use Rattle.session_undo.proofs.Commands.Resolved.{Makes, sized_draft, suggested_draft, suggestion_at}
use Rattle.session_laws.proofs.Posing.Drafts.{branch-definite, dropped-definite, intrinsic-definite, kept-definite, less-definite, line-definite, metrics-definite, named-below, number-below, preferred-definite, suggested-definite, suggestion-definite, turned-definite, view-definite, window-definite}

-- a text stands for one tree at most
one-tree : (text : List ℕ) (t u : JsonTree) → IsTreeText text t → IsTreeText text u → t ≡ u
one-tree text t u is also =
    let same : is.value ≡ also.value = same_Some is.value also.value (sym is.json.value ∙ also.json.value) in
    same_Some t u (sym is.shape ∙ ap tree_of same ∙ also.shape)

-- what is found is one view
one-view : (views : List LiveView) (name : List ℕ) (v w : LiveView) → view_named views name ≡ Some v → view_named views name ≡ Some w → v ≡ w
one-view views name v w found also = same_Some v w (sym found ∙ also)

module _ (old : State) (definite : IsDefinite old.scene) where
  same-branch : (t u : JsonTree) (p q : ℕ) → t ≡ u → GoesIn old.scene.tree t p → GoesIn old.scene.tree u q → with_branch old.scene p t.branch ≡ with_branch old.scene q u.branch
  same-branch t u p q same goes also =
      let parent : p ≡ q = same_Some p q (sym (subst (λ (x : JsonTree). GoesIn old.scene.tree x p) same goes) ∙ also) in
      ap₂ (λ (n : ℕ) (x : JsonTree). with_branch old.scene n x.branch) parent same

  same-views : (v w : LiveView) (g h : List ℕ) → v ≡ w → AreGoing old.scene.tree.views v.id g → AreGoing old.scene.tree.views w.id h → without_views old.scene g ≡ without_views old.scene h
  same-views v w g h same are also =
      ap (without_views old.scene) (one-going old.scene.tree.views w.id definite.older g h (subst (λ (x : LiveView). AreGoing old.scene.tree.views x.id g) same are) also)

  same-suggestion : (attr : AttrWord) (v w : LiveView) (r s : ℕ) (c d : Fraction) → v ≡ w → r ≡ s → c ≡ d
      → suggested_draft old v.id attr r (suggestion_of v.id attr old.scene.held) c ≡ suggested_draft old w.id attr s (suggestion_of w.id attr old.scene.held) d
  same-suggestion attr v w r s c d view rank constant =
      ap₂ (λ (x : LiveView) (n : ℕ). suggested_draft old x.id attr n (suggestion_of x.id attr old.scene.held) c) view rank
      ∙ ap (λ (f : Fraction). suggested_draft old w.id attr s (suggestion_of w.id attr old.scene.held) f) constant

  same-size : (width height : Fraction) (v w : LiveView) (g h r s : ℕ) → v ≡ w → g ≡ h → r ≡ s
      → sized_draft old v.id width height g r (intrinsic_of v.id old.scene.held) ≡ sized_draft old w.id width height h s (intrinsic_of w.id old.scene.held)
  same-size width height v w g h r s view hugs resists =
      ap₂ (λ (x : LiveView) (n : ℕ). sized_draft old x.id width height n r (intrinsic_of x.id old.scene.held)) view hugs
      ∙ ap (λ (n : ℕ). sized_draft old w.id width height h n (intrinsic_of w.id old.scene.held)) resists

  pub one-draft : (m : Change) (d e : Scene) → IsDefiniteChange m → Makes old m d → Makes old m e → d ≡ e
  one-draft (mean.Views (mean.View name parent)) d e ok (v, found, is) (w, found2, also) =
      is ∙ ap (λ (x : LiveView). with_view old.scene name x.id) (one-view old.scene.tree.views (parent_name parent) v w found found2) ∙ sym also
  one-draft (mean.Views (mean.Tree text start)) d e ok (t, p, read, goes, is) (u, q, read2, goes2, also) = is ∙ same-branch t u p q (one-tree text t u read read2) goes goes2 ∙ sym also
  one-draft (mean.Leave (mean.Drop name)) d e ok (v, g, found, are, is) (w, h, found2, are2, also) = is ∙ same-views v w g h (one-view old.scene.tree.views name v w found found2) are are2 ∙ sym also
  one-draft (mean.Update (mean.Metric name value)) d e ok is also = is ∙ sym also
  one-draft (mean.Update (mean.Window width height)) d e ok is also = is ∙ sym also
  one-draft (mean.Update (mean.Constrain group line)) d e ok (a, made, is) (b, made2, also) =
      is
      ∙ ap (with_line old.scene group) (one-line old.scene.tree.views old.scene.metrics (line_in old.scene.direction line) old.scene.next_row a b (line-above old.scene.direction line ok) made made2)
      ∙ sym also
  one-draft (mean.Update (mean.Vfl group align format)) d e ok (a, made, is) (b, made2, also) =
      is ∙ ap (with_line old.scene group) (one-format old.scene.tree.views old.scene.metrics format align old.scene.direction old.scene.next_row a b made made2) ∙ sym also
  one-draft (mean.Leave (mean.Remove group)) d e ok is also = is ∙ sym also
  one-draft (mean.Update (mean.Suggest name attr value priority)) d e ok (v, r, a, found, rank, constant, is) (w, s, b, found2, rank2, constant2, also) =
      is
      ∙ same-suggestion attr v w r s a b (one-view old.scene.tree.views name v w found found2)
      (one-rank old.scene.tree.views old.scene.metrics (suggested_priority priority) r s rank rank2)
      (one-constant (scale_of attr) (negated value) a b ok constant constant2)
      ∙ sym also
  one-draft (mean.Leave (mean.Release name attr)) d e ok (v, found, is) (w, found2, also) =
      is ∙ ap (λ (x : LiveView). without_suggestion old.scene x.id attr) (one-view old.scene.tree.views name v w found found2) ∙ sym also
  one-draft (mean.Turn to) d e ok is also = is ∙ sym also
  one-draft (mean.Update (mean.Size name width height hug resist)) d e ok (v, g, r, found, hugs, resists, is) (w, h, s, found2, hugs2, resists2, also) =
      is
      ∙ same-size width height v w g h r s (one-view old.scene.tree.views name v w found found2)
      (one-rank old.scene.tree.views old.scene.metrics (hugging hug) g h hugs hugs2)
      (one-rank old.scene.tree.views old.scene.metrics (resisting resist) r s resists resists2)
      ∙ sym also
  one-draft (mean.Leave (mean.Unsize name)) d e ok (v, found, is) (w, found2, also) =
      is ∙ ap (λ (x : LiveView). without_intrinsic old.scene x.id) (one-view old.scene.tree.views name v w found found2) ∙ sym also
  one-draft (mean.Keep name) d e ok (v, found, is) (w, found2, also) =
      is ∙ ap (λ (x : LiveView). with_kept old.scene x.id) (one-view old.scene.tree.views name v w found found2) ∙ sym also

  -- ---- and it is definite

  suggested-draft-definite : (view : ℕ) (attr : AttrWord) (rank : ℕ) (held : Option Suggestion) (c : Fraction) → IsDefinite (suggested_draft old view attr rank held c)
  suggested-draft-definite view attr rank None c = suggestion-definite old.scene definite (suggestion_at old view attr rank c)
  suggested-draft-definite view attr rank (Some held) c = suggested-definite old.scene definite view attr c

  sized-draft-definite : (view : ℕ) (width height : Fraction) (hugs resists : ℕ) (held : Option IntrinsicSize) → IsDefinite (sized_draft old view width height hugs resists held)
  sized-draft-definite view width height hugs resists None = intrinsic-definite old.scene definite (intrinsic_at old.scene.next_row view width height hugs resists)
  sized-draft-definite view width height hugs resists (Some held) = preferred-definite old.scene definite view width height

  goes-below : (t : JsonTree) (parent : ℕ) → GoesIn old.scene.tree t parent → parent < old.scene.tree.next
  goes-below t parent goes =
      number-below (view_named old.scene.tree.views t.place) parent old.scene.tree.next (λ v found. named-below old.scene.tree.views t.place v old.scene.tree.next definite.below found) goes

  pub draft-definite : (m : Change) (d : Scene) → IsDefiniteChange m → Makes old m d → IsDefinite d
  draft-definite (mean.Views (mean.View name parent)) d ok (v, found, is) =
      subst IsDefinite (sym is) (view-definite old.scene definite name v.id (named-below old.scene.tree.views (parent_name parent) v old.scene.tree.next definite.below found))
  draft-definite (mean.Views (mean.Tree text start)) d ok (t, p, read, goes, is) = subst IsDefinite (sym is) (branch-definite old.scene definite p t.branch (goes-below t p goes))
  draft-definite (mean.Leave (mean.Drop name)) d ok (v, gone, found, are, is) = subst IsDefinite (sym is) (dropped-definite old.scene definite gone)
  draft-definite (mean.Update (mean.Metric name value)) d ok is = subst IsDefinite (sym is) (metrics-definite old.scene definite name value ok)
  draft-definite (mean.Update (mean.Window width height)) d ok is = subst IsDefinite (sym is) (window-definite old.scene definite width height)
  draft-definite (mean.Update (mean.Constrain group line)) d ok (a, made, is) =
      subst IsDefinite (sym is)
      (line-definite old.scene definite group a
      (compiled-definite old.scene.tree.views old.scene.metrics (line_in old.scene.direction line) old.scene.next_row a (line-above old.scene.direction line ok) made))
  draft-definite (mean.Update (mean.Vfl group align format)) d ok (a, made, is) =
      subst IsDefinite (sym is)
      (line-definite old.scene definite group a (format-definite old.scene.tree.views old.scene.metrics format align old.scene.direction old.scene.next_row a made))
  draft-definite (mean.Leave (mean.Remove group)) d ok is = subst IsDefinite (sym is) (less-definite old.scene definite (is_in_group group))
  draft-definite (mean.Update (mean.Suggest name attr value priority)) d ok (v, r, a, found, rank, constant, is) =
      subst IsDefinite (sym is) (suggested-draft-definite v.id attr r (suggestion_of v.id attr old.scene.held) a)
  draft-definite (mean.Leave (mean.Release name attr)) d ok (v, found, is) = subst IsDefinite (sym is) (less-definite old.scene definite (is_suggestion v.id attr))
  draft-definite (mean.Turn to) d ok is = subst IsDefinite (sym is) (turned-definite old.scene definite to)
  draft-definite (mean.Update (mean.Size name width height hug resist)) d ok (v, g, r, found, hugs, resists, is) =
      subst IsDefinite (sym is) (sized-draft-definite v.id width height g r (intrinsic_of v.id old.scene.held))
  draft-definite (mean.Leave (mean.Unsize name)) d ok (v, found, is) = subst IsDefinite (sym is) (less-definite old.scene definite (is_intrinsic v.id))
  draft-definite (mean.Keep name) d ok (v, found, is) = subst IsDefinite (sym is) (kept-definite old.scene definite v.id)
