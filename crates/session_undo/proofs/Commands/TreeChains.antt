-- The steps of trees of views, whose earlier causes don't hold.
use Rattle.std.proofs.Common.{◌≡◌, ℕ, ◌*◌, true, List, [], ◌∷◌, ◌++◌, append_assoc, length, Some, None, IsSome, refl, sym, ap, ap₂, ◌∙◌, subst, arith, inl, inr}
use Rattle.std.specs.List.{slice_get}
use Rattle.std.specs.Option.{option_map}
use Rattle.std.proofs.lemmas.List.{append-nil}
use Rattle.std.proofs.lemmas.Option.{none-some, same_Some}
use Rattle.frac_core.specs.Fraction.{Fraction}
use Rattle.name_tables.specs.declared.stops.LimitWord.{LimitWord}
use Rattle.name_tables.specs.declared.stops.LimitWord.TheVariants as word
use Rattle.serde_json.specs.Data.{Data}
use Rattle.view_tree.specs.JsonTrees.{Branch, branch, IsJson, IsTreeText, JsonTree, names, size, tree_of, with_branch}
use Rattle.view_tree.specs.JsonStops.{AreFree, GoesIn, IsFirstHeld, IsGrown, IsWithin, MayStayOut, PassesTreeLimit, has_room, is_held}
use Rattle.view_tree.specs.Views.{LiveView, ViewTree, view_named}
use Rattle.view_tree.specs.declared.stops.TreeStop.TheVariants as stays
use Rattle.view_tree.proofs.ViewLemmas.{IsAtDepth-unique}
use Rattle.compile_parts.specs.declared.stops.KindWord.TheVariants as kind
use Rattle.session_undo.specs.Replies.{Reply, Outside, Unknown, Taken, Limit, Kind}
use Rattle.scenes.specs.Scene.{Scene}
use Rattle.session_undo.specs.State.{State}
use Rattle.session_undo.specs.Machine.{AddsBranch, IsCrowded, IsMisshapen, TriedTree, Unless, UnlessAny}
use Rattle.session_undo.specs.Adding.{IsFreeTree}
use Rattle.scenes.specs.Drafts.{views_draft}
use Rattle.session_undo.proofs.Commands.Chains.{not-both, not-some}

-- ---- names

none-held : (t : ViewTree) (ms : List (List ℕ × Fraction)) (seen before later : List (List ℕ)) (name : List ℕ) → AreFree t ms seen (before ++ name ∷ later) → is_held t ms (seen ++ before) name ≡ true → ⊥
none-held t ms seen [] later name free held = not-both (is_held t ms seen name) free.0 (subst (λ (b : List (List ℕ)). is_held t ms b name ≡ true) (append-nil seen) held)
none-held t ms seen (x ∷ before) later name free held =
    none-held t ms (seen ++ x ∷ []) before later name free.1 (subst (λ (b : List (List ℕ)). is_held t ms b name ≡ true) (sym (append_assoc seen (x ∷ []) before)) held)

-- where all names are free, none is the first that is held
pub no-first : (t : ViewTree) (ms : List (List ℕ × Fraction)) (all : List (List ℕ)) → AreFree t ms [] all → (name : List ℕ) → IsFirstHeld t ms all name → ⊥
no-first t ms all free name first = none-held t ms [] first.before first.later name (subst (AreFree t ms []) first.split free) first.held

-- ---- limits

-- what is within the limits passes none
pub no-limit : (t : ViewTree) (parent : ℕ) (b : Branch) → IsWithin t parent b → (limit : LimitWord) → PassesTreeLimit t parent b limit → ⊥
no-limit t parent b within word.Name passes = passes within.short
no-limit t parent b within word.Views passes = not-both (has_room t (size b)) passes.1 within.room
no-limit t parent b within word.Depth (short, room, (level, on, deep)) =
    let same : level ≡ within.high.0 = IsAtDepth-unique t.views parent level within.high.0 on within.high.1 in
    omega (arith, same, deep, within.high.2)
no-limit t parent b within word.Line passes = passes
no-limit t parent b within word.Metrics passes = passes
no-limit t parent b within word.Lines passes = passes
no-limit t parent b within word.Rows passes = passes
no-limit t parent b within word.Terms passes = passes
no-limit t parent b within word.Attributes passes = passes
no-limit t parent b within word.Coefficient passes = passes
no-limit t parent b within word.Constant passes = passes
no-limit t parent b within word.Budget passes = passes

-- ---- the first view that comes

seam : (views : List LiveView) (v : LiveView) (more : List LiveView) → slice_get (views ++ v ∷ more) (length views) ≡ Some v
seam [] v more = refl
seam (u ∷ views) v more = seam views v more

first-come : (t : ViewTree) (parent : ℕ) (b : Branch) → (v : LiveView) × (slice_get (with_branch t parent b).views (length t.views) ≡ Some v) × (v.id ≡ t.next)
first-come t parent (branch name inner) = (_, seam t.views _ _, refl)

module _ (t new : ViewTree) (parent n : ℕ) (b : Branch) (grown : new ≡ with_branch t parent b) (n_is : n ≡ length t.views) where
  come : slice_get new.views n ≡ Some (first-come t parent b).0
  come = ap₂ (λ (u : ViewTree) (k : ℕ). slice_get u.views k) grown n_is ∙ (first-come t parent b).1

  pub first-there : None ≡ slice_get new.views n → ⊥
  first-there none = none-some (first-come t parent b).0 (none ∙ come)

  pub first-number : (v : LiveView) → Some v ≡ slice_get new.views n → v.id ≡ t.next
  first-number v is = ap (λ (u : LiveView). u.id) (same_Some v (first-come t parent b).0 (is ∙ come)) ∙ (first-come t parent b).2

-- ---- the causes against a tree

one-value : (text : List ℕ) (d e : Data) → IsJson text d → IsJson text e → d ≡ e
one-value text d e one other = same_Some d e (sym one.value ∙ other.value)

-- the view that the tree goes in is there
found : (t : ViewTree) (tree : JsonTree) (parent : ℕ) → GoesIn t tree parent → view_named t.views tree.place ≡ None → ⊥
found t tree parent goes none = none-some parent (sym (ap (option_map (λ (v : LiveView). v.id)) none) ∙ goes)

module _ (old : State) (text : List ℕ) (start : ℕ) (End : Scene → Reply → State → Type 0) where
  pub tree-outside : ((d : Data) → IsJson text d → ⊥) → TriedTree old text start End (Outside start) old
  tree-outside none = inl (none, refl, refl)

  pub tree-misshapen : IsMisshapen text → TriedTree old text start End (Kind kind.Tree) old
  tree-misshapen bad = inr ((λ none. none bad.0 bad.1), inl (bad, refl, refl))

  -- the text has this tree
  tree-read : (tree : JsonTree) (reply : Reply) (new : State) → IsTreeText text tree
      → Unless (view_named old.scene.tree.views tree.place ≡ None) (Unknown tree.place) old (UnlessAny (IsFirstHeld old.scene.tree old.scene.metrics (names tree.branch)) Taken old (AddsBranch old tree End)) reply new
      → TriedTree old text start End reply new
  tree-read tree reply new read rest =
      inr ((λ none. none read.value read.json), inr ((λ bad. none-some tree (sym bad.2 ∙ ap tree_of (one-value text bad.0 read.value bad.1 read.json) ∙ read.shape)), (tree, read, rest)))

  pub tree-unknown : (tree : JsonTree) → IsTreeText text tree → view_named old.scene.tree.views tree.place ≡ None → TriedTree old text start End (Unknown tree.place) old
  tree-unknown tree read none = tree-read tree (Unknown tree.place) old read (inl (none, refl, refl))

  pub tree-taken : (tree : JsonTree) (name : List ℕ) → IsTreeText text tree → IsSome (view_named old.scene.tree.views tree.place) → IsFirstHeld old.scene.tree old.scene.metrics (names tree.branch) name
      → TriedTree old text start End (Taken name) old
  tree-taken tree name read some first = tree-read tree (Taken name) old read (inr ((λ none. not-some (view_named old.scene.tree.views tree.place) none some), inl (name, first, refl, refl)))

  pub tree-limited : (tree : JsonTree) (parent : ℕ) (limit : LimitWord) → IsTreeText text tree → GoesIn old.scene.tree tree parent → AreFree old.scene.tree old.scene.metrics [] (names tree.branch)
      → PassesTreeLimit old.scene.tree parent tree.branch limit → TriedTree old text start End (Limit limit) old
  tree-limited tree parent limit read goes free passes =
      tree-read tree (Limit limit) old read
      (inr (found old.scene.tree tree parent goes, inr (no-first old.scene.tree old.scene.metrics (names tree.branch) free, (parent, goes, inl (limit, passes, refl, refl)))))

  pub tree-crowded : (tree : JsonTree) (parent : ℕ) → IsTreeText text tree → GoesIn old.scene.tree tree parent → AreFree old.scene.tree old.scene.metrics [] (names tree.branch) → IsWithin old.scene.tree parent tree.branch
      → IsCrowded old (2 * size tree.branch) → TriedTree old text start End (Limit word.Rows) old
  tree-crowded tree parent read goes free within crowded =
      tree-read tree (Limit word.Rows) old read
      (inr (found old.scene.tree tree parent goes, inr (no-first old.scene.tree old.scene.metrics (names tree.branch) free, (parent, goes, inr (no-limit old.scene.tree parent tree.branch within, inl (crowded, refl, refl))))))

  pub tree-passed : (t : ViewTree) (id n : ℕ) (reply : Reply) (new : State) → IsFreeTree old text t id n → End (views_draft old.scene t id n) reply new → TriedTree old text start End reply new
  tree-passed t id n reply new is end =
      tree-read is.tree reply new is.read
      (inr (
        found old.scene.tree is.tree is.parent is.goes,
        inr (
          no-first old.scene.tree old.scene.metrics (names is.tree.branch) is.free,
          (
            is.parent,
            is.goes,
            inr (
              no-limit old.scene.tree is.parent is.tree.branch is.within,
              inr (
                is.rows,
                subst (λ (u : ViewTree). End (views_draft old.scene u old.scene.tree.next (size is.tree.branch)) reply new) is.tree_is
                    (subst (λ (i : ℕ). End (views_draft old.scene t i (size is.tree.branch)) reply new) is.id_is (subst (λ (k : ℕ). End (views_draft old.scene t id k) reply new) is.count_is end)),
              ),
            ),
          ),
        ),
      ))

-- ---- what the tree's text leads to

module _ (old : State) (text : List ℕ) where
  pub free-tree : (new : ViewTree) (id n : ℕ) → IsGrown old.scene.tree old.scene.metrics text new n → (IsCrowded old (2 * n) → ⊥) → id ≡ old.scene.tree.next → IsFreeTree old text new id n
  free-tree new id n grown room id_is = record {
    tree = grown.tree;
    parent = grown.parent;
    read = grown.read;
    goes = grown.goes;
    free = grown.free;
    within = grown.within;
    rows = λ crowded. room (subst (λ (k : ℕ). IsCrowded old (2 * k)) (sym grown.counted) crowded);
    tree_is = grown.grown;
    id_is = id_is;
    count_is = grown.counted;
  }

  module _ (start : ℕ) (End : Scene → Reply → State → Type 0) where
    pub unknown-tree : (name : List ℕ) → MayStayOut old.scene.tree old.scene.metrics text (stays.Unknown name) → TriedTree old text start End (Unknown name) old
    unknown-tree name (tree, read, none, is) =
        subst (λ (n : List ℕ). TriedTree old text start End (Unknown n) old) (sym is) (tree-unknown old text start End tree read none)

    pub taken-tree : (name : List ℕ) → MayStayOut old.scene.tree old.scene.metrics text (stays.Taken name) → TriedTree old text start End (Taken name) old
    taken-tree name (tree, read, some, first) = tree-taken old text start End tree name read some first

    pub limited-tree : (limit : LimitWord) → MayStayOut old.scene.tree old.scene.metrics text (stays.Limit limit) → TriedTree old text start End (Limit limit) old
    limited-tree limit (tree, read, (parent, goes, free, passes)) = tree-limited old text start End tree parent limit read goes free passes

    pub crowded-tree : (new : ViewTree) (n : ℕ) → IsGrown old.scene.tree old.scene.metrics text new n → IsCrowded old (2 * n) → TriedTree old text start End (Limit word.Rows) old
    crowded-tree new n grown crowded =
        tree-crowded old text start End grown.tree grown.parent grown.read grown.goes grown.free grown.within (subst (λ (k : ℕ). IsCrowded old (2 * k)) grown.counted crowded)
