-- The attributes of a format's rows are those of views that the format names, or of their parents.
use Rattle.std.proofs.Common.{◌≡◌, ◌≢◌, ◌||◌, inl, inr, ℕ, zero, suc, ◌+◌, ◌≤◌, Bool, true, false, cond, List, [], ◌∷◌, ◌++◌, map, length, Option, Some, None, is_some, is_none, unwrap_or, nat_eq, refl, sym, ap, subst, ◌∙◌, arith, All, AllPairs, true≢false, if◌then◌else◌}
use Rattle.std.specs.List.{Contains, list_any, AllByRecursion as Each}
use Rattle.std.specs.Option.{option_map, option_and_then, option_to_list}
use Rattle.std.specs.Bool.{⊤}
use Rattle.std.specs.Str.{bytes_eq}
use Rattle.std.proofs.lemmas.Option.{none-some, same_Some}
use Rattle.std.proofs.lemmas.Slice.Eq.{bytes_eq-Decides}
use Rattle.std.proofs.lemmas.List.Elements.{All-from_recursion, recursion_from_All}
use Rattle.span_text.specs.Objects.{Meant}
use Rattle.span_text.specs.Objects as object
use Rattle.vfl_text.specs.Formats.{FormatMeaning, PredMeaning, SpacingMeaning, Flush, Standard, Given, ItemMeaning}
use Rattle.view_tree.specs.Views.{AreAbove, HasParent, IsAtDepth, IsTree, LiveView, ViewTree, view_named, view_of}
use Rattle.script_text.specs.declared.words.Align.{Align}
use Rattle.script_text.specs.declared.words.AttrWord.{AttrWord}
use Rattle.script_text.specs.declared.words.Direction.{Direction}
use Rattle.script_text.specs.declared.words.Direction.TheVariants as direction
use Rattle.vfl_text.specs.declared.parts.Axis.{Axis}
use Rattle.vfl_text.specs.declared.parts.Axis.TheVariants as axis
use Rattle.script_text.specs.Meaning as mean
use Rattle.compile_parts.specs.Meaning.{HasDenominator, MetricList, minus, terms_of, view_in, views_in}
use Rattle.constraint_compile.specs.Compiled.{RowForm, CompiledLine}
use Rattle.format_compile.specs.FormatParts.{End, Span, Part, View, Bar, Asks, parts, parts_over, asks, spacing_parts, item_parts, chain_parts, leading_parts, back_parts, aligned_parts, align_parts, aligned_word, last_name, course_of, onwards, own, parents, size, between, near, far, extent}
use Rattle.format_compile.specs.FormatLines.{line_of, lines_of, minus_terms, name_in, name_of, ids_named, object_term, object_views, owner_name, part_views, parts_views}
use Rattle.format_compile.specs.FormatRefusals.{lacks_parent, parent_of}
use Rattle.format_compile.specs.FormatRows.{AreRowsOf, IsCompiledFormat}
use Rattle.held_items.specs.Attributes.{AreOwned, HasOwner, IsClose}
use Rattle.held_items.proofs.Removals.LeavingRows.{each-join, each-map, each-split}
use Rattle.held_items.proofs.Lists.{contains-cons, contains-first}
use Rattle.held_items.proofs.HeldRows.NextLines.{lines-above}
use Rattle.held_items.proofs.HeldRows.Owners.{row-owned}
use Rattle.view_tree.proofs.DropLemmas.{found-each}

-- ---- the tree

-- names that are distinct, from the front
abbrev Apart : List LiveView → Type 0
Apart [] = Unit {0}
Apart (v ∷ views) = Each (λ w. v.name ≢ w.name) views × Apart views

each-unmapped : (P : List ℕ → Type 0) (views : List LiveView) → Each P (map (λ v. v.name) views) → Each (λ v. P v.name) views
each-unmapped P [] h = tt
each-unmapped P (v ∷ views) h = (h.0, each-unmapped P views h.1)

names-apart : (views : List LiveView) → AllPairs (λ a b. a ≢ b) (map (λ v. v.name) views) → Apart views
names-apart [] h = tt
names-apart (v ∷ views) h = (
  each-unmapped (λ n. v.name ≢ n) views (recursion_from_All (λ n. v.name ≢ n) (map (λ w. w.name) views) (λ k d within. h zero (suc k) d (omega arith) (omega (arith, within)))),
  names-apart views (λ i j d less within. h (suc i) (suc j) d (omega (arith, less)) (omega (arith, within))),
)

-- a view is found by its name
named-itself : (views : List LiveView) (id : ℕ) (q : LiveView) → Apart views → view_of views id ≡ Some q → view_named views q.name ≡ Some q
named-itself [] id q apart found = absurd (none-some q found)
named-itself (v ∷ views) id q apart found = by (nat_eq v.id id) refl found (λ e. named-itself views id q apart.1 e)
  where
    at : (b : Bool) → bytes_eq q.name v.name ≡ b → (b ≡ true → ⊥) → view_named views q.name ≡ Some q → cond (bytes_eq q.name v.name) (Some v) (view_named views q.name) ≡ Some q
    at true e never rest = absurd (never refl)
    at false e never rest = ap (λ b. cond b (Some v) (view_named views q.name)) e ∙ rest

    by : (b : Bool) → nat_eq v.id id ≡ b → cond b (Some v) (view_of views id) ≡ Some q → (view_of views id ≡ Some q → view_named views q.name ≡ Some q) → cond (bytes_eq q.name v.name) (Some v) (view_named views q.name) ≡ Some q
    by true same e rest =
        let here : v ≡ q = same_Some v q e in
        subst (λ (w : LiveView). cond (bytes_eq w.name v.name) (Some v) (view_named views w.name) ≡ Some w) here
        (ap (λ b. cond b (Some v) (view_named views v.name)) ((bytes_eq-Decides v.name v.name).1 refl))
    by false other e rest =
        at (bytes_eq q.name v.name) refl
        (λ same. (found-each (λ w. v.name ≢ w.name) id views q e apart.0).0 (sym ((bytes_eq-Decides q.name v.name).0 same)))
        (rest e)

module _ (t : ViewTree) (tree : IsTree t) where
  one-parent : (id : ℕ) (p q : Option ℕ) → HasParent t.views id p → HasParent t.views id q → p ≡ q
  one-parent id p q h g = ap (λ (o : Option (Option ℕ)). unwrap_or o None) (sym h ∙ g)

  has-one : (id : ℕ) (above : List ℕ) → AreAbove t.views id above → view_of t.views id ≡ None → ⊥
  has-one id [] h none = none-some None (ap (option_map (λ (v : LiveView). v.parent)) (sym none) ∙ h)
  has-one id (p ∷ above) h none = none-some (Some p) (ap (option_map (λ (v : LiveView). v.parent)) (sym none) ∙ h.0)

  -- a parent is live
  parent-lives : (id pid : ℕ) (w : LiveView) → view_of t.views id ≡ Some w → HasParent t.views id (Some pid) → view_of t.views pid ≡ None → ⊥
  parent-lives id pid w found has none =
      let at = found-each (λ v. (level : ℕ) × IsAtDepth t.views v.id level × (level ≤ 32)) id t.views w found (recursion_from_All (λ v. (level : ℕ) × IsAtDepth t.views v.id level × (level ≤ 32)) t.views tree.depths) in
      up at.0.1.above (subst (λ (n : ℕ). AreAbove t.views n at.0.1.above) at.1 at.0.1.chain)
    where
      up : (above : List ℕ) → AreAbove t.views id above → ⊥
      up [] h = none-some pid (one-parent id None (Some pid) h has)
      up (x ∷ above) h =
          let same : x ≡ pid = ap (λ (o : Option ℕ). unwrap_or o 0) (one-parent id (Some x) (Some pid) h.0 has) in
          has-one pid above (subst (λ (n : ℕ). AreAbove t.views n above) same h.1) none

  module _ (named : List ℕ) where
    abbrev Close : ℕ → Type 0
    Close id = IsClose t.views named id

    -- the view of this name is named
    abbrev Known : List ℕ → Type 0
    Known name = Each (λ id. Contains named id) (ids_named t.views name)

    -- the view of the end is close
    abbrev IsCloseEnd : End → Type 0
    IsCloseEnd e = Each Close (ids_named t.views (owner_name t.views e.owner e.view))

    own-close : (name : List ℕ) (w : AttrWord) → Known name → IsCloseEnd (own name w)
    own-close name w known = each-map (λ id. Contains named id) Close (λ id h. inl h) (ids_named t.views name) known

    close-found : (child pid : ℕ) (q : Option LiveView) → Contains named child → HasParent t.views child (Some pid) → view_of t.views pid ≡ q → (q ≡ None → ⊥) → Each Close (ids_named t.views (name_in q))
    close-found child pid None known has is live = absurd (live refl)
    close-found child pid (Some q) known has is live =
        let found = found-each (λ v. ⊤) pid t.views q is (all-true t.views) in
        subst (λ (o : Option LiveView). Each Close (option_to_list (option_map (λ v. v.id) o))) (sym (named-itself t.views pid q (names-apart t.views tree.names) is))
        (inr (child, known, subst (λ (n : ℕ). HasParent t.views child (Some n)) (sym found.1) has), tt)
      where
        all-true : (views : List LiveView) → Each (λ v. ⊤) views
        all-true [] = tt
        all-true (v ∷ views) = (tt, all-true views)

    close-up : (u w : LiveView) (p : Option ℕ) → Contains named u.id → view_of t.views u.id ≡ Some w → w.parent ≡ p → is_none p ≡ false → Each Close (ids_named t.views (name_of t.views p))
    close-up u w None known found up has = absurd (true≢false has)
    close-up u w (Some pid) known found up has =
        let parent : HasParent t.views u.id (Some pid) = ap (option_map (λ (v : LiveView). v.parent)) found ∙ ap Some up in
        close-found u.id pid (view_of t.views pid) known parent refl (λ none. parent-lives u.id pid w found parent none)

    close-at : (u : LiveView) (w : Option LiveView) → Contains named u.id → view_of t.views u.id ≡ w → is_none (option_and_then (λ v. v.parent) w) ≡ false
        → Each Close (ids_named t.views (name_of t.views (option_and_then (λ v. v.parent) w)))
    close-at u None known found has = absurd (true≢false has)
    close-at u (Some w) known found has = close-up u w w.parent known found refl has

    abbrev parent_in : Option LiveView → Option ℕ
    parent_in o = option_and_then (λ id. option_and_then (λ v. v.parent) (view_of t.views id)) (option_map (λ v. v.id) o)

    close-parent : (u : Option LiveView) → Each (λ id. Contains named id) (option_to_list (option_map (λ v. v.id) u)) → is_none (parent_in u) ≡ false
        → Each Close (ids_named t.views (name_of t.views (parent_in u)))
    close-parent None known has = absurd (true≢false has)
    close-parent (Some u) known has = close-at u (view_of t.views u.id) known.0 refl has

    parents-close : (name : List ℕ) (w : AttrWord) → Known name → is_none (parent_of t.views name) ≡ false → IsCloseEnd (parents name w)
    parents-close name w known has = close-parent (view_named t.views name) known has

    -- ---- lines

    abbrev IsCloseMinus : Option End → Type 0
    IsCloseMinus None = Unit {0}
    IsCloseMinus (Some e) = IsCloseEnd e

    object-close : (w : AttrWord) (o : Meant) → Each (λ id. Contains named id) (object_views t.views o) → Each Close (views_in t.views (minus (object_term t.views w o) ∷ []))
    object-close w (object.Number z) h = tt
    object-close w (object.Name name) h = elim (is_some (view_named t.views name)) as (λ b. Each Close (view_in t.views (if b then mean.Attr name w else mean.Metric name) ++ [])) [
      | true ↦ each-join Close (ids_named t.views name) [] (each-map (λ id. Contains named id) Close (λ id g. inl g) (ids_named t.views name) h) tt
      | false ↦ tt
    ]

    rest-close : (w : AttrWord) (o : Meant) (e : Option End) → IsCloseMinus e → Each (λ id. Contains named id) (object_views t.views o)
        → Each Close (views_in t.views (map minus (minus_terms t.views e ++ object_term t.views w o ∷ [])))
    rest-close w o None h g = object-close w o g
    rest-close w o (Some e) h g = each-join Close (ids_named t.views (owner_name t.views e.owner e.view)) (views_in t.views (minus (object_term t.views w o) ∷ [])) h (object-close w o g)

    line-close : (s : Span) (p : PredMeaning) → IsCloseEnd s.plus → IsCloseMinus s.minus → Each (λ id. Contains named id) (object_views t.views p.object)
        → Each Close (views_in t.views (terms_of (line_of t.views s p)))
    line-close s p plus less object =
        each-join Close (ids_named t.views (owner_name t.views s.plus.owner s.plus.view)) (views_in t.views (map minus (minus_terms t.views s.minus ++ object_term t.views s.plus.word p.object ∷ []))) plus
        (rest-close s.plus.word p.object s.minus less object)

    abbrev IsClosePart : Part → Type 0
    IsClosePart (View name) = Unit {0}
    IsClosePart (Bar name) = Unit {0}
    IsClosePart (Asks s p) = IsCloseEnd s.plus × IsCloseMinus s.minus × Each (λ id. Contains named id) (object_views t.views p.object)

    lines-close : (ps : List Part) → Each IsClosePart ps → Each (λ l. Each Close (views_in t.views (terms_of l))) (lines_of t.views ps)
    lines-close [] h = tt
    lines-close (View name ∷ ps) h = lines-close ps h.1
    lines-close (Bar name ∷ ps) h = lines-close ps h.1
    lines-close (Asks s p ∷ ps) h = (line-close s p h.0.0 h.0.1 h.0.2, lines-close ps h.1)

    -- ---- parts

    -- what is known of each part: its views are named, and a bar stands where there is a parent
    abbrev Holds : Part → Type 0
    Holds p = Each (λ id. Contains named id) (part_views t.views p) × (lacks_parent t.views p ≡ false)

    asks-close : (s : Span) (ps : List PredMeaning) → IsCloseEnd s.plus → IsCloseMinus s.minus → Each Holds (asks s ps) → Each IsClosePart (asks s ps)
    asks-close s [] plus less h = tt
    asks-close s (p ∷ ps) plus less h = ((plus, less, h.0.0), asks-close s ps plus less h.1)

    spacing-close : (s : Span) (usual : ℕ) (g : SpacingMeaning) → IsCloseEnd s.plus → IsCloseMinus s.minus → Each Holds (spacing_parts s usual g) → Each IsClosePart (spacing_parts s usual g)
    spacing-close s usual Flush plus less h = ((plus, less, tt), tt)
    spacing-close s usual Standard plus less h = ((plus, less, tt), tt)
    spacing-close s usual (Given ps) plus less h = asks-close s ps plus less h

    -- both ends of a span are close, whichever way it goes
    onwards-close : (d : Direction) (x : Axis) (from to : End) → IsCloseEnd from → IsCloseEnd to → IsCloseEnd (onwards (course_of d x) from to).plus × IsCloseMinus (onwards (course_of d x) from to).minus
    onwards-close direction.Ltr axis.H from to one other = (other, one)
    onwards-close direction.Rtl axis.H from to one other = (one, other)
    onwards-close d axis.V from to one other = (other, one)

    module _ (d : Direction) (x : Axis) where
      gap-close : (from to : End) (usual : ℕ) (g : SpacingMeaning) → IsCloseEnd from → IsCloseEnd to → Each Holds (spacing_parts (onwards (course_of d x) from to) usual g)
          → Each IsClosePart (spacing_parts (onwards (course_of d x) from to) usual g)
      gap-close from to usual g one other h = (let both = onwards-close d x from to one other in spacing-close (onwards (course_of d x) from to) usual g both.0 both.1 h)

      item-close : (i : ItemMeaning) → Each Holds (item_parts (course_of d x) i) → Known i.name × Each IsClosePart (item_parts (course_of d x) i)
      item-close i h = (h.0.0, (tt, asks-close (size (course_of d x) i.name) i.sizes (own-close i.name (extent (course_of d x)) h.0.0) tt h.1))

      chain-close : (before : List ℕ) (gs : List SpacingMeaning) (is : List ItemMeaning) → length gs ≡ length is → Known before → Each Holds (chain_parts (course_of d x) before gs is)
          → Each (λ i. Known i.name) is × Each IsClosePart (chain_parts (course_of d x) before gs is)
      chain-close before [] [] long known h = (tt, tt)
      chain-close before [] (i ∷ is) long known h = absurd (omega (arith, long))
      chain-close before (g ∷ gs) [] long known h = absurd (omega (arith, long))
      chain-close before (g ∷ gs) (i ∷ is) long known h =
          let first = each-split Holds (spacing_parts (between (course_of d x) before i.name) 8000 g) (item_parts (course_of d x) i ++ chain_parts (course_of d x) i.name gs is) h in
          let second = each-split Holds (item_parts (course_of d x) i) (chain_parts (course_of d x) i.name gs is) first.1 in
          let here = item-close i second.0 in
          let rest = chain-close i.name gs is (omega (arith, long)) here.0 second.1 in
          let from = own-close before (far (course_of d x)) known in
          let to = own-close i.name (near (course_of d x)) here.0 in (
            (here.0, rest.0),
            each-join IsClosePart (spacing_parts (between (course_of d x) before i.name) 8000 g) (item_parts (course_of d x) i ++ chain_parts (course_of d x) i.name gs is)
                (gap-close (own before (far (course_of d x))) (own i.name (near (course_of d x))) 8000 g from to first.0)
                (each-join IsClosePart (item_parts (course_of d x) i) (chain_parts (course_of d x) i.name gs is) here.1 rest.1),
          )

      front-close : (name : List ℕ) (g : Option SpacingMeaning) → Known name → Each Holds (leading_parts (course_of d x) name g) → Each IsClosePart (leading_parts (course_of d x) name g)
      front-close name None known h = tt
      front-close name (Some g) known h =
          let edge = near (course_of d x) in
          (tt, gap-close (parents name edge) (own name edge) 20000 g (parents-close name edge known h.0.1) (own-close name edge known) h.1)

      back-close : (name : List ℕ) (g : Option SpacingMeaning) → Known name → Each Holds (back_parts (course_of d x) name g) → Each IsClosePart (back_parts (course_of d x) name g)
      back-close name None known h = tt
      back-close name (Some g) known h =
          let edge = far (course_of d x) in
          (tt, gap-close (own name edge) (parents name edge) 20000 g (own-close name edge known) (parents-close name edge known h.0.1) h.1)

    level-close : (w : AttrWord) (before : List ℕ) (is : List ItemMeaning) → Known before → Each (λ i. Known i.name) is → Each IsClosePart (aligned_parts w before is)
    level-close w before [] known h = tt
    level-close w before (i ∷ is) known h = ((own-close i.name w h.0, own-close before w known, tt), level-close w i.name is h.0 h.1)

    align-close : (a : Option Align) (first : List ℕ) (is : List ItemMeaning) → Known first → Each (λ i. Known i.name) is → Each IsClosePart (align_parts a first is)
    align-close None first is known h = tt
    align-close (Some a) first is known h = level-close (aligned_word a) first is known h

    last-known : (name : List ℕ) (is : List ItemMeaning) → Known name → Each (λ i. Known i.name) is → Known (last_name name is)
    last-known name [] known h = known
    last-known name (i ∷ is) known h = last-known i.name is h.0 h.1

    parts-close : (f : FormatMeaning) (a : Option Align) (d : Direction) (is : List ItemMeaning) → length f.spacings + 1 ≡ length is → Each Holds (parts_over f a (course_of d f.axis) is) → Each IsClosePart (parts_over f a (course_of d f.axis) is)
    parts-close f a d [] long h = tt
    parts-close f a d (i ∷ is) long h =
        let one = each-split Holds (leading_parts (course_of d f.axis) i.name f.from_parent) (item_parts (course_of d f.axis) i ++ (chain_parts (course_of d f.axis) i.name f.spacings is ++ (back_parts (course_of d f.axis) (last_name i.name is) f.to_parent ++ align_parts a i.name is))) h in
        let two = each-split Holds (item_parts (course_of d f.axis) i) (chain_parts (course_of d f.axis) i.name f.spacings is ++ (back_parts (course_of d f.axis) (last_name i.name is) f.to_parent ++ align_parts a i.name is)) one.1 in
        let three = each-split Holds (chain_parts (course_of d f.axis) i.name f.spacings is) (back_parts (course_of d f.axis) (last_name i.name is) f.to_parent ++ align_parts a i.name is) two.1 in
        let four = each-split Holds (back_parts (course_of d f.axis) (last_name i.name is) f.to_parent) (align_parts a i.name is) three.1 in
        let here = item-close d f.axis i two.0 in
        let rest = chain-close d f.axis i.name f.spacings is (omega (arith, long)) here.0 three.0 in
        each-join IsClosePart (leading_parts (course_of d f.axis) i.name f.from_parent) (item_parts (course_of d f.axis) i ++ (chain_parts (course_of d f.axis) i.name f.spacings is ++ (back_parts (course_of d f.axis) (last_name i.name is) f.to_parent ++ align_parts a i.name is))) (front-close d f.axis i.name f.from_parent here.0 one.0)
        (each-join IsClosePart (item_parts (course_of d f.axis) i) (chain_parts (course_of d f.axis) i.name f.spacings is ++ (back_parts (course_of d f.axis) (last_name i.name is) f.to_parent ++ align_parts a i.name is)) here.1
        (each-join IsClosePart (chain_parts (course_of d f.axis) i.name f.spacings is) (back_parts (course_of d f.axis) (last_name i.name is) f.to_parent ++ align_parts a i.name is) rest.1
        (each-join IsClosePart (back_parts (course_of d f.axis) (last_name i.name is) f.to_parent) (align_parts a i.name is)
        (back-close d f.axis (last_name i.name is) f.to_parent (last-known i.name is here.0 rest.0) four.0)
        (align-close a i.name is here.0 rest.0))))

    -- ---- what holds of the parts of a compiled format

    front-any : (a b : Bool) → (a || b) ≡ false → (a ≡ false) × (b ≡ false)
    front-any true b h = absurd (true≢false h)
    front-any false b h = (refl, h)

    contains-front : (xs ys : List ℕ) → ((id : ℕ) → Contains (xs ++ ys) id → Contains named id) → Each (λ id. Contains named id) xs
    contains-front [] ys to = tt
    contains-front (x ∷ xs) ys to = (to x (contains-first x (xs ++ ys) x refl), contains-front xs ys (λ id h. to id (contains-cons x (xs ++ ys) id h)))

    contains-back : (xs ys : List ℕ) → ((id : ℕ) → Contains (xs ++ ys) id → Contains named id) → (id : ℕ) → Contains ys id → Contains named id
    contains-back [] ys to id h = to id h
    contains-back (x ∷ xs) ys to id h = contains-back xs ys (λ n g. to n (contains-cons x (xs ++ ys) n g)) id h

    each-holds : (ps : List Part) → ((id : ℕ) → Contains (parts_views t.views ps) id → Contains named id) → list_any (lacks_parent t.views) ps ≡ false → Each Holds ps
    each-holds [] to none = tt
    each-holds (p ∷ ps) to none =
        let parts_apart = front-any (lacks_parent t.views p) (list_any (lacks_parent t.views) ps) none in (
          (contains-front (part_views t.views p) (parts_views t.views ps) to, parts_apart.0),
          each-holds ps (contains-back (part_views t.views p) (parts_views t.views ps) to) parts_apart.1,
        )

    rows-owned : (ms : MetricList) (lines : List mean.Linear) (n : ℕ) (rows : List RowForm) → Each (λ l. All HasDenominator (terms_of l)) lines → Each (λ l. Each Close (views_in t.views (terms_of l))) lines → AreRowsOf t.views ms lines n rows
        → Each (λ (f : RowForm). All (λ u. HasOwner t.views named u.attr) f.terms) rows
    rows-owned ms [] n [] above close are = tt
    rows-owned ms [] n (r ∷ rows) above close are = absurd are
    rows-owned ms (l ∷ lines) n [] above close are = absurd are
    rows-owned ms (l ∷ lines) n (r ∷ rows) above close are =
        (row-owned t.views named (terms_of l) r above.0 are.0.is_row.sum close.0, rows-owned ms lines (n + 1) rows above.1 close.1 are.1)

pub format-owned : (t : ViewTree) (ms : MetricList) (f : FormatMeaning) (a : Option Align) (d : Direction) (first : ℕ) (c : CompiledLine) → IsTree t → length f.spacings + 1 ≡ length f.items → IsCompiledFormat t.views ms f a d first c → AreOwned t.views c
unfolding parts
format-owned t ms f a d first c tree long is =
    All-from_recursion (λ (r : RowForm). All (λ u. HasOwner t.views c.views u.attr) r.terms) c.rows
    (rows-owned t tree c.views ms (lines_of t.views (parts f a d)) first c.rows (lines-above t.views (parts f a d))
    (lines-close t tree c.views (parts f a d) (parts-close t tree c.views f a d f.items long
    (each-holds t tree c.views (parts f a d) (λ id h. subst (λ (ids : List ℕ). Contains ids id) (sym is.views_named) h) is.usable.parents)))
    is.rows)
