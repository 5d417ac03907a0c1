-- The steps of commands, whose earlier causes don't hold.
use Rattle.std.proofs.Common.{◌≡◌, ℕ, ◌<◌, ◌≤◌, ◌^◌, Bool, true, false, cond, nat_eq, is_some, List, [], ◌∷◌, length, Some, None, IsSome, refl, sym, ap, ◌∙◌, subst, arith, inl, inr, true≢false, eq-eqb}
use Rattle.std.proofs.lemmas.Grind.{common_steps}
use Rattle.std.specs.Prelude.{IfErr}
use Rattle.std.specs.declared.option.Option.{Option}
use Rattle.std.specs.declared.result.Result.{Result}
use Rattle.std.specs.declared.result.Result.TheVariants.{Ok, Err}
use Rattle.std.specs.Option.{option_map}
use Rattle.std.specs.Str.{bytes_eq}
use Rattle.std.proofs.lemmas.Option.{none-some, same_Some}
use Rattle.frac_core.specs.Fraction.{Fraction}
use Rattle.problem_core.specs.Layout.{Row}
use Rattle.name_tables.specs.declared.stops.LimitWord.TheVariants as word
use Rattle.view_tree.specs.Views.{LiveView, ViewTree, view_of, view_named, IsAtDepth}
use Rattle.view_tree.specs.Views as tree
use Rattle.view_tree.specs.Stops.{IsNewView, is_full}
use Rattle.view_tree.proofs.ViewLemmas.{IsAtDepth-unique, room}
use Rattle.compile_parts.specs.Meaning.{MetricList}
use Rattle.frac_core.specs.declared.memory.Stop.TheVariants as stop
use Rattle.compile_parts.specs.declared.stops.LargeConstant.{LargeConstant}
use Rattle.layout_solver.specs.declared.engine.Change.{Change}
use Rattle.layout_solver.specs.Shifts.{shifted}
use Rattle.session_undo.specs.declared.reply.Refusal.{Refusal}
use Rattle.session_undo.specs.Replies.{Reply, Limit, MayRefuse}
use Rattle.scenes.specs.Scene.{Scene, AreDraftRows, with_window, metrics_with}
use Rattle.session_undo.specs.State.{State}
use Rattle.session_undo.specs.Machine.{AddsView, IsDeep, IsCrowded, AreTooMany, TriedView, Unless, TriedMetric, TriedWindow, UnlessFar, HasAllViews}
use Rattle.held_items.specs.Moving.{IsFarSize, AreNear}
use Rattle.held_items.specs.Items.{has_size}
use Rattle.held_items.specs.declared.item.coming.NewViews.{NewViews}
use Rattle.session_undo.specs.Adding.{IsFreeName, IsFreeView, IsFreeMetric, IsViewMore, UnlessUnfree, ViewStep}
use Rattle.scenes.specs.Drafts.{views_draft, metrics_draft}
use Rattle.scenes.specs.Moving.{MayLackChanges}
use Rattle.held_items.proofs.HeldRows.ItemRows.{rows-small}
use Rattle.session_undo.proofs.Commands.Steps.{refuses}
use Rattle.session_undo.proofs.Commands.SuggestionSteps.{view-found}

pub err-map : {T : Type 0} (F G : Reply → Type 0) (r : Result T Refusal) → ((reply : Reply) → F reply → G reply) → IfErr r (MayRefuse F) → IfErr r (MayRefuse G)
err-map F G (Ok x) to h = h
err-map F G (Err e) to h = refuses F G e to h

-- ---- views

tail-none : {X : Type 0} (b : Bool) (x : X) (o : Option X) → cond b (Some x) o ≡ None → o ≡ None
tail-none true x o h = absurd (none-some x (sym h))
tail-none false x o h = h

here : {X : Type 0} (m n : ℕ) (x : X) (o : Option X) → n ≡ m → cond (nat_eq m n) (Some x) o ≡ None → ⊥
here m n x o is none = none-some x (sym none ∙ ap (λ (b : Bool). cond b (Some x) o) (eq-eqb m n (sym is)))

-- a view that is found by its name is live
pub found-live : (views : List LiveView) (name : List ℕ) (id : ℕ) → Some id ≡ option_map (λ v. v.id) (view_named views name) → view_of views id ≡ None → ⊥
found-live [] name id found none = none-some id (sym found)
found-live (v ∷ views) name id found none =
    elim (bytes_eq name v.name) as (λ b. Some id ≡ option_map (λ w. w.id) (cond b (Some v) (view_named views name)) → ⊥) [
      | true ↦ λ h. here v.id id v (view_of views id) (same_Some id v.id h) none
      | false ↦ λ h. found-live views name id h (tail-none (nat_eq v.id id) v (view_of views id) none)
    ] found

not-deep : (t : ViewTree) (parent : List ℕ) (above : LiveView) (depth : ℕ) → view_named t.views parent ≡ Some above → IsAtDepth t.views above.id depth → depth < 32 → IsDeep t parent → ⊥
not-deep t parent above depth is on high (w, d, w_is, on_2, deep) =
    let same : w ≡ above = same_Some w above (sym w_is ∙ is) in
    let depths : d ≡ depth = IsAtDepth-unique t.views above.id d depth (subst (λ (u : LiveView). IsAtDepth t.views u.id d) same on_2) on in
    omega (arith, depths, high, deep)

pub not-some : {X : Type 0} (o : Option X) → o ≡ None → IsSome o → ⊥
not-some None is some = true≢false (sym some)
not-some (Some x) is some = absurd (none-some x (sym is))

not-none : {X : Type 0} (o : Option X) (x : X) → o ≡ Some x → o ≡ None → ⊥
not-none o x is none = none-some x (sym none ∙ is)

pub not-both : (b : Bool) → b ≡ false → b ≡ true → ⊥
not-both true e f = true≢false e
not-both false e f = true≢false (sym f)

pub unfound : {X Y Z : Type 0} (f : X → Z) (g : Y → Z) (r : Option X) (o : Option Y) → option_map f r ≡ option_map g o → false ≡ is_some r → o ≡ None
unfound f g None None e h = refl
unfound f g None (Some y) e h = absurd (none-some (g y) e)
unfound f g (Some x) o e h = absurd (true≢false (sym h))

-- ---- the causes against a view

module _ (old : State) (name parent : List ℕ) (End : Scene → Reply → State → Type 0) where
  pub view-passed : (t : ViewTree) (id : ℕ) (reply : Reply) (new : State) → IsFreeView old name parent t id → End (views_draft old.scene t id 1) reply new → TriedView old name parent End reply new
  view-passed t id reply new is end =
      inr (
        not-none (view_named old.scene.tree.views parent) is.above is.found,
        inr (
          is.free,
          inr (
            (λ long. omega (arith, is.short, long)),
            inr (
              is.room,
              inr (
                is.high,
                inr (
                  is.rows,
                  (
                    is.above,
                    is.found,
                    subst (λ (u : ViewTree). End (views_draft old.scene u old.scene.tree.next 1) reply new) is.tree_is (subst (λ (n : ℕ). End (views_draft old.scene t n 1) reply new) is.id_is end),
                  ),
                ),
              ),
            ),
          ),
        ),
      )

-- ---- what the tree says of a view that is to be made

few-views : (s : State) → length s.scene.tree.views < s.limits.views → is_full s.scene.tree ≡ false → HasAllViews s → ⊥
few-views s less h (inl many) = omega (arith, less, many)
few-views s less h (inr last) = omega (arith, (room s.scene.tree h).1, last)

-- where there are fewer views than there may be, it is a number that is wanting
no-number : (t : ViewTree) → is_full t ≡ true → length t.views < t.most → 2 ^ 29 ≤ t.next
no-number t full few = grind (arith, common_steps, full, few)

-- what is known of a view's name when the tree is asked
pub record IsAsked (old : State) (name parent : List ℕ) (above : ℕ) : Type 0 where
  pub found : Some above ≡ option_map (λ v. v.id) (view_named old.scene.tree.views parent)
  pub named : IsFreeName old name
  pub most : old.scene.tree.most ≡ old.limits.views

asked-found : (t : ViewTree) (parent : List ℕ) (above : ℕ) → Some above ≡ option_map (λ v. v.id) (view_named t.views parent) → view_named t.views parent ≡ None → ⊥
asked-found t parent above found =
    let v = view-found (view_named t.views parent) above found in
    not-none (view_named t.views parent) v.0 v.1

-- the view in which it is to stand has this depth
asked-depth : (t : ViewTree) (parent : List ℕ) (above depth : ℕ) → Some above ≡ option_map (λ v. v.id) (view_named t.views parent) → IsAtDepth t.views above depth
    → (v : LiveView) × (view_named t.views parent ≡ Some v) × IsAtDepth t.views v.id depth
asked-depth t parent above depth found on =
    let v = view-found (view_named t.views parent) above found in
    (v.0, v.1, subst (λ (n : ℕ). IsAtDepth t.views n depth) (sym v.2) on)

asked-high : (old : State) (name parent : List ℕ) (above : ℕ) → IsAsked old name parent above → IsNewView old.scene.tree name above → IsDeep old.scene.tree parent → ⊥
asked-high old name parent above asked fresh =
    let v = asked-depth old.scene.tree parent above fresh.high.0 asked.found fresh.high.1 in
    not-deep old.scene.tree parent v.0 fresh.high.0 v.1 v.2 fresh.high.2

-- no view may have the name
pub view-unfree : (old : State) (name parent : List ℕ) (above : ℕ) (End : Scene → Reply → State → Type 0) (reply : Reply) (new : State) → Some above ≡ option_map (λ v. v.id) (view_named old.scene.tree.views parent)
    → UnlessUnfree old name (λ reply new. ⊥) reply new → TriedView old name parent End reply new
view-unfree old name parent above End reply new found (inl h) = inr (asked-found old.scene.tree parent above found, inl h)
view-unfree old name parent above End reply new found (inr (a, inl h)) = inr (asked-found old.scene.tree parent above found, inr (a, inl h))
view-unfree old name parent above End reply new found (inr (a, inr (b, inl h))) = inr (asked-found old.scene.tree parent above found, inr (a, inr (b, inl h)))
view-unfree old name parent above End reply new found (inr (a, inr (b, inr (c, never)))) = absurd never

module _ (old : State) (name parent : List ℕ) (above : ℕ) (End : Scene → Reply → State → Type 0) (asked : IsAsked old name parent above) where
  found-named : (reply : Reply) (new : State) → Unless (HasAllViews old) (Limit word.Views) old (Unless (IsDeep old.scene.tree parent) (Limit word.Depth) old (Unless (IsCrowded old 2) (Limit word.Rows) old (AddsView old name parent End))) reply new
      → TriedView old name parent End reply new
  found-named reply new rest = inr (asked-found old.scene.tree parent above asked.found, inr (asked.named.free, inr ((λ long. omega (arith, asked.named.short, long)), rest)))

  -- the tree tells a limit
  pub view-limited : (reply : Reply) (new : State) → ViewStep old name above reply new → TriedView old name parent End reply new
  view-limited reply new (word.Name, (live, free, long), keeps) = absurd (omega (arith, asked.named.short, long))
  view-limited reply new (word.Views, (live, free, (short, full)), keeps) =
      found-named reply new (inl (inr (no-number old.scene.tree full (omega (arith, asked.named.few, asked.most))), keeps.0, keeps.1))
  view-limited reply new (word.Depth, (live, free, (short, not_full, (depth, on, deep))), keeps) =
      let v = asked-depth old.scene.tree parent above depth asked.found on in
      found-named reply new (inr (few-views old asked.named.few not_full, inl ((v.0, depth, v.1, v.2, deep), keeps.0, keeps.1)))
  view-limited reply new (word.Line, (live, free, never), keeps) = absurd never
  view-limited reply new (word.Metrics, (live, free, never), keeps) = absurd never
  view-limited reply new (word.Lines, (live, free, never), keeps) = absurd never
  view-limited reply new (word.Rows, (live, free, never), keeps) = absurd never
  view-limited reply new (word.Terms, (live, free, never), keeps) = absurd never
  view-limited reply new (word.Attributes, (live, free, never), keeps) = absurd never
  view-limited reply new (word.Coefficient, (live, free, never), keeps) = absurd never
  view-limited reply new (word.Constant, (live, free, never), keeps) = absurd never
  view-limited reply new (word.Budget, (live, free, never), keeps) = absurd never

  -- there is no room for the rows
  pub view-full : (new : NewViews) → IsViewMore old.scene name above new → IsCrowded old 2 → TriedView old name parent End (Limit word.Rows) old
  view-full new more crowded =
      found-named (Limit word.Rows) old (inr (few-views old asked.named.few more.fresh.room, inr (asked-high old name parent above asked more.fresh, inl (crowded, refl, refl))))

pub view-free : (old : State) (name parent : List ℕ) (above : ℕ) (new : NewViews) → IsAsked old name parent above → IsViewMore old.scene name above new → (IsCrowded old 2 → ⊥) → IsFreeView old name parent new.tree new.first_view.0
view-free old name parent above new asked more room =
    let v = view-found (view_named old.scene.tree.views parent) above asked.found in
    record {
      above = v.0;
      found = v.1;
      free = asked.named.free;
      short = asked.named.short;
      room = few-views old asked.named.few more.fresh.room;
      high = asked-high old name parent above asked more.fresh;
      rows = room;
      tree_is = more.tree_is ∙ ap (λ (n : ℕ). tree.with_view old.scene.tree name n) (sym v.2);
      id_is = more.id_is;
    }

-- ---- metrics

module _ (old : State) (name : List ℕ) (value : Fraction) (End : Scene → Reply → State → Type 0) where
  pub metric-passed : (ms : MetricList) (to : List Change) (reply : Reply) (new : State) → IsFreeMetric old name value ms to → End (metrics_draft old.scene ms) reply new → TriedMetric old name value End reply new
  metric-passed ms to reply new is end =
      inr (
        is.free,
        inr (
          (λ long. omega (arith, is.short, long)),
          inr (
            is.room,
            subst (λ (m : MetricList). UnlessFar old (metrics_draft old.scene m) (End (metrics_draft old.scene m)) reply new) is.new_is
                (inr ((λ no. no (rows-small ms old.scene.held (shifted to old.scene.rows) is.changes.rows)), (shifted to old.scene.rows, is.changes.rows, inr ((λ far. far is.changes.near), end)))),
          ),
        ),
      )

-- what is known of a metric when its rows are made
pub record IsNamed (old : State) (name : List ℕ) (value : Fraction) (ms : MetricList) : Type 0 where
  pub free : view_named old.scene.tree.views name ≡ None
  pub short : length name ≤ 64
  pub room : AreTooMany old.scene.metrics name → ⊥
  pub new_is : ms ≡ metrics_with old.scene.metrics name value

named-far : (old : State) (name : List ℕ) (value : Fraction) (ms : MetricList) (End : Scene → Reply → State → Type 0) → IsNamed old name value ms
    → UnlessFar old (metrics_draft old.scene ms) (End (metrics_draft old.scene ms)) (Limit word.Constant) old → TriedMetric old name value End (Limit word.Constant) old
named-far old name value ms End is h =
    inr (
      not-some (view_named old.scene.tree.views name) is.free,
      inr (
        (λ long. omega (arith, is.short, long)),
        inr (is.room, subst (λ (m : MetricList). UnlessFar old (metrics_draft old.scene m) (End (metrics_draft old.scene m)) (Limit word.Constant) old) is.new_is h),
      ),
    )

metric-far : (old : State) (name : List ℕ) (value : Fraction) (ms : MetricList) (End : Scene → Reply → State → Type 0) (rows : List Row) → IsNamed old name value ms → AreDraftRows (metrics_draft old.scene ms) rows
    → (AreNear old.scene.rows rows → ⊥) → TriedMetric old name value End (Limit word.Constant) old
metric-far old name value ms End rows is are far =
    named-far old name value ms End is (inr ((λ no. no (rows-small ms old.scene.held rows are)), (rows, are, inl (far, refl, refl))))

pub metric-lacks : (old : State) (name : List ℕ) (value : Fraction) (ms : MetricList) (End : Scene → Reply → State → Type 0) (cause : LargeConstant) → IsNamed old name value ms → MayLackChanges old.scene ms (stop.Refused cause)
    → TriedMetric old name value End (Limit word.Constant) old
metric-lacks old name value ms End cause is (inl lacks) = named-far old name value ms End is (inl (lacks, refl, refl))
metric-lacks old name value ms End cause is (inr (rows, are, far)) = metric-far old name value ms End rows is are far

-- ---- the window

module _ (old : State) (w h : Fraction) (End : Scene → Reply → State → Type 0) (room : (has_size old.scene.held ≡ false) × IsCrowded old 2 → ⊥) where
  pub window-far : IsFarSize old.scene.held w h → TriedWindow old w h End (Limit word.Constant) old
  window-far far = inr (room, inl (far, refl, refl))

  pub window-passed : (reply : Reply) (new : State) → (IsFarSize old.scene.held w h → ⊥) → End (with_window old.scene w h) reply new → TriedWindow old w h End reply new
  window-passed reply new near end = inr (room, inr (near, end))
