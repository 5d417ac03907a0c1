-- A scene with those before it: after another is kept, after one that was marked is taken back, and after the
-- latest of the earlier ones is the scene.
use Rattle.std.proofs.Common.{◌≡◌, ◌∙◌, ℕ, zero, suc, ◌+◌, ◌<◌, ◌≤◌, List, [], ◌∷◌, take, length, refl, sym, ap, subst, arith, All}
use Rattle.std.proofs.lemmas.List.Elements.{All-cons, All-head, All-same, All-tail, All-take}
use Rattle.view_tree.specs.Views.{ViewTree}
use Rattle.compile_parts.specs.Meaning.{MetricList}
use Rattle.version_lists.specs.Versions.{Versions}
use Rattle.version_lists.specs.declared.versions.TheConstants.{VERSION_LIMIT}
use Rattle.layout_solver.specs.Layouts.{Layout, Solution, solution_of}
use Rattle.held_items.specs.declared.item.Item as declared
use Rattle.scenes.specs.declared.scene.past.Past.{Past}
use Rattle.held_items.specs.Items.{Item}
use Rattle.scenes.specs.Kept.{AreAlike, IsKept, IsKeptHistory, earlier_at, history_at, own_or, scene_at, scene_of}
use Rattle.held_items.specs.Kept.{items_of}
use Rattle.scenes.specs.Scene.{Scene, with_earlier}
use Rattle.held_items.specs.declared.limits.TheConstants.{EARLIER}
use Rattle.scenes.specs.declared.scene.past.Setting.{Setting}

-- ---- one solution, one scene

pub same-scene : (tree : ViewTree) (metrics : MetricList) (held : List Item) (setting : Setting) (l m : Layout) → solution_of l ≡ solution_of m → scene_at tree metrics held setting l ≡ scene_at tree metrics held setting m
same-scene tree metrics held setting l m same = ap (scene_of tree metrics held setting) same

-- ---- how many there are

module _ (most : ℕ) (items : List (List declared.Item)) (solutions : List Solution) (pasts : List Past) (alike : AreAlike most items solutions pasts) where
  pub few-items : length items ≤ EARLIER
  few-items = omega (arith, alike.items, alike.few, alike.limit)

  -- there is room for one more
  pub few-solutions : length solutions < VERSION_LIMIT
  few-solutions = omega (arith, alike.solutions, alike.few, alike.limit)

  pub more-items : (before : List (List declared.Item)) (now : List declared.Item) → before ≡ now ∷ items → length before ≡ 1 + length pasts
  more-items before now are = omega (arith, ap length are, alike.items)

  pub more-solutions : (earlier : List Solution) (now : Solution) → earlier ≡ now ∷ solutions → length earlier ≡ 1 + length pasts
  more-solutions earlier now are = omega (arith, ap length are, alike.solutions)

count : (tree : ViewTree) (metrics : MetricList) (items : List (List declared.Item)) (solutions : List Solution) (pasts : List Past) → length items ≡ length pasts → length solutions ≡ length pasts → length (earlier_at tree metrics items solutions pasts) ≡ length pasts
count tree metrics [] solutions pasts its_items its_solutions = its_items
count tree metrics (items ∷ rest) [] pasts its_items its_solutions = its_solutions
count tree metrics (items ∷ rest) (s ∷ solutions) [] its_items its_solutions = refl
count tree metrics (items ∷ rest) (s ∷ solutions) (p ∷ pasts) its_items its_solutions =
    ap suc (count (own_or p.tree tree) (own_or p.metrics metrics) rest solutions pasts (omega (arith, its_items)) (omega (arith, its_solutions)))

module _ (tree : ViewTree) (metrics : MetricList) (most : ℕ) where
  -- there are as many earlier scenes as pasts
  pub earlier-count : (items : List (List declared.Item)) (solutions : List Solution) (pasts : List Past) → AreAlike most items solutions pasts → length (earlier_at tree metrics items solutions pasts) ≡ length pasts
  earlier-count items solutions pasts alike = count tree metrics items solutions pasts alike.items alike.solutions

  pub no-earlier : (items : List (List declared.Item)) (solutions : List Solution) (pasts : List Past) → AreAlike most items solutions pasts → pasts ≡ [] → earlier_at tree metrics items solutions pasts ≡ []
  no-earlier [] solutions pasts alike none = refl
  no-earlier (items ∷ rest) solutions pasts alike none = absurd (omega (arith, alike.items, ap length none))

-- ---- another scene after this one

earlier-take : (n : ℕ) (tree : ViewTree) (metrics : MetricList) (items : List (List declared.Item)) (solutions : List Solution) (pasts : List Past)
    → earlier_at tree metrics (take n items) (take n solutions) (take n pasts) ≡ take n (earlier_at tree metrics items solutions pasts)
earlier-take zero tree metrics items solutions pasts = refl
earlier-take (suc n) tree metrics [] solutions pasts = refl
earlier-take (suc n) tree metrics (items ∷ rest) [] pasts = refl
earlier-take (suc n) tree metrics (items ∷ rest) (s ∷ solutions) [] = refl
earlier-take (suc n) tree metrics (items ∷ rest) (s ∷ solutions) (p ∷ pasts) =
    ap (λ (earlier : List Scene). scene_of (own_or p.tree tree) (own_or p.metrics metrics) (items_of items) p.setting s ∷ earlier)
    (earlier-take n (own_or p.tree tree) (own_or p.metrics metrics) rest solutions pasts)

-- `past` says what the scene of the other parts has otherwise than one of these views and metrics after it
module _ (tree tree' : ViewTree) (metrics metrics' : MetricList) (items : Versions declared.Item) (setting : Setting) (layout : Layout) (pasts : List Past) (most : ℕ) (past : Past)
    (its_tree : own_or past.tree tree' ≡ tree) (its_metrics : own_or past.metrics metrics' ≡ metrics) (its_setting : past.setting ≡ setting) where
  before-is : earlier_at tree' metrics' (items.items ∷ items.before) (solution_of layout ∷ layout.earlier) (past ∷ pasts)
      ≡ scene_at tree metrics (items_of items.items) setting layout ∷ earlier_at tree metrics items.before layout.earlier pasts
  before-is =
      ap (λ (t : ViewTree). scene_of t (own_or past.metrics metrics') (items_of items.items) past.setting (solution_of layout) ∷ earlier_at t (own_or past.metrics metrics') items.before layout.earlier pasts) its_tree
      ∙ ap (λ (m : MetricList). scene_of tree m (items_of items.items) past.setting (solution_of layout) ∷ earlier_at tree m items.before layout.earlier pasts) its_metrics
      ∙ ap (λ (s : Setting). scene_of tree metrics (items_of items.items) s (solution_of layout) ∷ earlier_at tree metrics items.before layout.earlier pasts) its_setting

  pub next-earlier : earlier_at tree' metrics' (take most (items.items ∷ items.before)) (take most (solution_of layout ∷ layout.earlier)) (take most (past ∷ pasts))
      ≡ with_earlier most (scene_at tree metrics (items_of items.items) setting layout) (earlier_at tree metrics items.before layout.earlier pasts)
  next-earlier = earlier-take most tree' metrics' (items.items ∷ items.before) (solution_of layout ∷ layout.earlier) (past ∷ pasts) ∙ ap (take most) before-is

  -- the lists that `keep` leaves, once what is held and the engine were marked
  module _ (marked before : List (List declared.Item)) (run earlier : List Solution) (kept : List Past)
      (are_marked : marked ≡ items.items ∷ items.before) (are_run : run ≡ solution_of layout ∷ layout.earlier)
      (items_are : before ≡ take most marked) (solutions_are : earlier ≡ take most run) (pasts_are : kept ≡ take most (past ∷ pasts)) where
    pub kept-earlier : earlier_at tree' metrics' before earlier kept ≡ with_earlier most (scene_at tree metrics (items_of items.items) setting layout) (earlier_at tree metrics items.before layout.earlier pasts)
    kept-earlier =
        ap (λ (xs : List (List declared.Item)). earlier_at tree' metrics' xs earlier kept) (items_are ∙ ap (take most) are_marked)
        ∙ ap (λ (xs : List Solution). earlier_at tree' metrics' (take most (items.items ∷ items.before)) xs kept) (solutions_are ∙ ap (take most) are_run)
        ∙ ap (earlier_at tree' metrics' (take most (items.items ∷ items.before)) (take most (solution_of layout ∷ layout.earlier))) pasts_are
        ∙ next-earlier

    pub kept-earlier-IsKept : IsKeptHistory (history_at tree metrics items setting layout pasts most) → All IsKept (earlier_at tree' metrics' before earlier kept)
    kept-earlier-IsKept sound =
        let scene : Scene = scene_at tree metrics (items_of items.items) setting layout in
        let scenes : List Scene = earlier_at tree metrics items.before layout.earlier pasts in
        All-same IsKept (earlier_at tree' metrics' before earlier kept) (with_earlier most scene scenes) kept-earlier
        (All-take IsKept most (scene ∷ scenes) (All-cons IsKept scene scenes sound.scene sound.earlier))

  -- `new`, `after` and `kept` are what `keep` leaves
  pub next-history : (new : Versions declared.Item) (setting' : Setting) (after : Layout) (kept : List Past) (marked : List (List declared.Item)) (run : List Solution)
      → marked ≡ items.items ∷ items.before → run ≡ solution_of layout ∷ layout.earlier
      → new.before ≡ take most marked → after.earlier ≡ take most run → kept ≡ take most (past ∷ pasts)
      → IsKeptHistory (history_at tree metrics items setting layout pasts most)
      → IsKept (scene_at tree' metrics' (items_of new.items) setting' after)
      → IsKeptHistory (history_at tree' metrics' new setting' after kept most)
  next-history new setting' after kept marked run are_marked are_run items_are solutions_are pasts_are sound is = record {
    scene = is;
    earlier = kept-earlier-IsKept marked new.before run after.earlier kept are_marked are_run items_are solutions_are pasts_are sound;
  }

-- ---- a scene that was marked is taken back

-- `new` and `after` are the items and the engine after a refusal
module _ (tree : ViewTree) (metrics : MetricList) (old new : Versions declared.Item) (setting : Setting) (layout after : Layout) (pasts : List Past) (undo : ℕ) (same_items : new ≡ old) (same_layout : after ≡ layout) where
  pub unchanged : history_at tree metrics new setting after pasts undo ≡ history_at tree metrics old setting layout pasts undo
  unchanged =
      ap (λ (items : Versions declared.Item). history_at tree metrics items setting after pasts undo) same_items
      ∙ ap (λ (l : Layout). history_at tree metrics old setting l pasts undo) same_layout

  pub unchanged-IsKept : IsKeptHistory (history_at tree metrics old setting layout pasts undo) → IsKeptHistory (history_at tree metrics new setting after pasts undo)
  unchanged-IsKept = subst IsKeptHistory (sym unchanged)

  pub unchanged-AreAlike : AreAlike undo old.before layout.earlier pasts → AreAlike undo new.before after.earlier pasts
  unchanged-AreAlike alike =
      subst (λ (l : Layout). AreAlike undo new.before l.earlier pasts) (sym same_layout)
      (subst (λ (items : Versions declared.Item). AreAlike undo items.before layout.earlier pasts) (sym same_items) alike)

-- ---- the latest earlier scene is the scene

module _ (tree tree' : ViewTree) (metrics metrics' : MetricList) (items new : Versions declared.Item) (setting setting' : Setting) (layout after : Layout) (pasts rest : List Past) (undo : ℕ) (past : Past)
    (pasts_are : pasts ≡ past ∷ rest) (items_are : items.before ≡ new.items ∷ new.before) (solutions_are : layout.earlier ≡ solution_of after ∷ after.earlier)
    (its_tree : own_or past.tree tree ≡ tree') (its_metrics : own_or past.metrics metrics ≡ metrics') (its_setting : past.setting ≡ setting') where
  pub back-history : earlier_at tree metrics items.before layout.earlier pasts ≡ scene_at tree' metrics' (items_of new.items) setting' after ∷ earlier_at tree' metrics' new.before after.earlier rest
  back-history =
      ap (λ (xs : List (List declared.Item)). earlier_at tree metrics xs layout.earlier pasts) items_are
      ∙ ap (λ (xs : List Solution). earlier_at tree metrics (new.items ∷ new.before) xs pasts) solutions_are
      ∙ ap (earlier_at tree metrics (new.items ∷ new.before) (solution_of after ∷ after.earlier)) pasts_are
      ∙ before-is tree' tree metrics' metrics new setting' after rest undo past its_tree its_metrics its_setting

  pub back-IsKept : IsKeptHistory (history_at tree metrics items setting layout pasts undo) → IsKeptHistory (history_at tree' metrics' new setting' after rest undo)
  back-IsKept sound =
      let scene : Scene = scene_at tree' metrics' (items_of new.items) setting' after in
      let scenes : List Scene = earlier_at tree' metrics' new.before after.earlier rest in
      let all : All IsKept (scene ∷ scenes) = All-same IsKept (scene ∷ scenes) (earlier_at tree metrics items.before layout.earlier pasts) (sym back-history) sound.earlier in
      record {
        scene = All-head IsKept scene scenes all;
        earlier = All-tail IsKept scene scenes all;
      }

  pub back-AreAlike : AreAlike undo items.before layout.earlier pasts → AreAlike undo new.before after.earlier rest
  back-AreAlike alike = record {
    items = omega (arith, alike.items, ap length items_are, ap length pasts_are);
    solutions = omega (arith, alike.solutions, ap length solutions_are, ap length pasts_are);
    few = omega (arith, alike.few, ap length pasts_are);
    limit = alike.limit;
  }
