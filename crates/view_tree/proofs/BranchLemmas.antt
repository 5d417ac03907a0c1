-- The views of a branch, added one by one, are the views of the branch.
use Rattle.std.proofs.Common.{◌≡◌, ◌||◌, ℕ, zero, suc, ◌+◌, ◌≤◌, ◌^◌, Bool, true, false, cond, List, [], ◌∷◌, ◌++◌, Option, None, Some, IsSome, is_some, length, map, nat_eq, refl, sym, ap, subst, ◌∙◌, true≢false, arith, length-append, append_assoc, append-nil, unwrap_or}
use Rattle.std.proofs.lemmas.Grind.{common_steps}
use Rattle.std.proofs.lemmas.List.{map-append}
use Rattle.std.proofs.lemmas.List.Elements.{recursion_from_All}
use Rattle.std.proofs.lemmas.List.Folds.{find-append}
use Rattle.std.proofs.lemmas.Option.{none-some}
use Rattle.std.proofs.lemmas.Slice.Eq.{bytes_eq-Decides}
use Rattle.std.specs.List.{AllByRecursion, list_any, range_with_len}
use Rattle.std.specs.Option.{option_map, option_map_or, option_or}
use Rattle.std.specs.Str.{bytes_eq}
use Rattle.frac_core.specs.Fraction.{Fraction}
use Rattle.name_tables.specs.Names.{value_of}
use Rattle.view_tree.specs.JsonStops.{AreFree, IsWithin, has_room, is_held}
use Rattle.view_tree.specs.JsonTrees.{Branch, branch, Branches, no_branches, more, height, height_in, names, names_in, size, size_in, views_of, views_in, with_branch}
use Rattle.view_tree.specs.Plans.{AreNew, grown, id_named, pairs, pairs_in}
use Rattle.view_tree.specs.Stops.{IsNewView, is_full}
use Rattle.view_tree.specs.Views.{IsAtDepth, IsTree, LiveView, ViewTree, view_named, view_of, with_view}
use Rattle.view_tree.proofs.ViewLemmas.{IsAtDepth-append, IsAtDepth-push, IsTree-with_view, none_first as or_none}

-- ---- counts

mutual
  pub length-views_of : (next parent : ℕ) (b : Branch) → length (views_of next parent b) ≡ size b
  length-views_of next parent (branch name inner) = ap suc (length-views_in (next + 1) next inner)

  pub length-views_in : (next parent : ℕ) (bs : Branches) → length (views_in next parent bs) ≡ size_in bs
  length-views_in next parent no_branches = refl
  length-views_in next parent (more b bs) = omega (arith, length-append (views_of next parent b) (views_in (next + size b) parent bs), length-views_of next parent b, length-views_in (next + size b) parent bs)

mutual
  pub length-pairs : (parent : List ℕ) (b : Branch) → length (pairs parent b) ≡ size b
  length-pairs parent (branch name inner) = ap suc (length-pairs_in name inner)

  pub length-pairs_in : (parent : List ℕ) (bs : Branches) → length (pairs_in parent bs) ≡ size_in bs
  length-pairs_in parent no_branches = refl
  length-pairs_in parent (more b bs) = omega (arith, length-append (pairs parent b) (pairs_in parent bs), length-pairs parent b, length-pairs_in parent bs)

mutual
  pub low : (b : Branch) → height b ≤ size b
  low (branch name inner) = omega (arith, low_in inner)

  pub low_in : (bs : Branches) → height_in bs ≤ size_in bs
  low_in no_branches = omega arith
  low_in (more b bs) = omega (arith, low b, low_in bs)

-- ---- numbers

range-append : (a m n : ℕ) → range_with_len a (m + n) ≡ range_with_len a m ++ range_with_len (a + m) n
range-append a zero n =
    let none_more : zero + n ≡ n = omega arith in
    let same : a ≡ a + zero = omega arith in
    ap (range_with_len a) none_more ∙ ap (λ b. range_with_len b n) same
range-append a (suc m) n =
    let one_more : suc m + n ≡ suc (m + n) = omega arith in
    let next : a + 1 + m ≡ a + suc m = omega arith in
    ap (range_with_len a) one_more ∙ ap (λ ns. a ∷ ns) (range-append (a + 1) m n ∙ ap (λ b. range_with_len (a + 1) m ++ range_with_len b n) next)

mutual
  pub numbers-views_of : (next parent : ℕ) (b : Branch) → map (λ v. v.id) (views_of next parent b) ≡ range_with_len next (size b)
  numbers-views_of next parent (branch name inner) = ap (λ ns. next ∷ ns) (numbers-views_in (next + 1) next inner)

  pub numbers-views_in : (next parent : ℕ) (bs : Branches) → map (λ v. v.id) (views_in next parent bs) ≡ range_with_len next (size_in bs)
  numbers-views_in next parent no_branches = refl
  numbers-views_in next parent (more b bs) =
      map-append (λ (v : LiveView). v.id) (views_of next parent b) (views_in (next + size b) parent bs)
      ∙ ap (λ ns. ns ++ map (λ (v : LiveView). v.id) (views_in (next + size b) parent bs)) (numbers-views_of next parent b)
      ∙ ap (λ ns. range_with_len next (size b) ++ ns) (numbers-views_in (next + size b) parent bs)
      ∙ sym (range-append next (size b) (size_in bs))

-- ---- names

mutual
  pub names-pairs : (parent : List ℕ) (b : Branch) → map (λ p. p.0) (pairs parent b) ≡ names b
  names-pairs parent (branch name inner) = ap (λ ns. name ∷ ns) (names-pairs_in name inner)

  pub names-pairs_in : (parent : List ℕ) (bs : Branches) → map (λ p. p.0) (pairs_in parent bs) ≡ names_in bs
  names-pairs_in parent no_branches = refl
  names-pairs_in parent (more b bs) = map-append (λ (p : List ℕ × List ℕ). p.0) (pairs parent b) (pairs_in parent bs) ∙ ap (λ ns. ns ++ map (λ (p : List ℕ × List ℕ). p.0) (pairs_in parent bs)) (names-pairs parent b) ∙ ap (λ ns. names b ++ ns) (names-pairs_in parent bs)

split : (P : List ℕ → Type 0) (xs ys : List (List ℕ)) → AllByRecursion P (xs ++ ys) → AllByRecursion P xs × AllByRecursion P ys
split P [] ys h = (tt, h)
split P (x ∷ xs) ys h = let rest = split P xs ys h.1 in ((h.0, rest.0), rest.1)

module _ (t : ViewTree) (metrics : List (List ℕ × Fraction)) where
  pub AreFree-split : (before xs ys : List (List ℕ)) → AreFree t metrics before (xs ++ ys) → AreFree t metrics before xs × AreFree t metrics (before ++ xs) ys
  AreFree-split before [] ys h = (tt, subst (λ ns. AreFree t metrics ns ys) (sym (append-nil before)) h)
  AreFree-split before (x ∷ xs) ys h =
      let rest = AreFree-split (before ++ x ∷ []) xs ys h.1 in
      ((h.0, rest.0), subst (λ ns. AreFree t metrics ns ys) (append_assoc before (x ∷ []) xs) rest.1)

-- ---- the view of a name

or-left : (a b : Bool) → (a || b) ≡ false → a ≡ false
or-left true b h = absurd (true≢false h)
or-left false b h = refl

pub or-right : (a b : Bool) → (a || b) ≡ false → b ≡ false
or-right true b h = absurd (true≢false h)
or-right false b h = h

none : {X : Type 0} (o : Option X) → is_some o ≡ false → o ≡ None
none None h = refl
none (Some x) h = absurd (true≢false h)

or_some : {X : Type 0} (o p : Option X) → IsSome o → option_or o p ≡ o
or_some None p h = absurd (true≢false (sym h))
or_some (Some x) p h = refl

named_alone : (v : LiveView) (n : List ℕ) → bytes_eq n v.name ≡ false → view_named (v ∷ []) n ≡ None
named_alone v n other = ap (λ b. cond b (Some v) None) other

named_itself : (v : LiveView) → view_named (v ∷ []) v.name ≡ Some v
named_itself v = ap (λ b. cond b (Some v) None) ((bytes_eq-Decides v.name v.name).1 refl)

unnamed-push : (views : List LiveView) (v : LiveView) (n : List ℕ) → view_named views n ≡ None → bytes_eq n v.name ≡ false → view_named (views ++ v ∷ []) n ≡ None
unnamed-push views v n missing other = find-append (λ (w : LiveView). bytes_eq n w.name) views (v ∷ []) ∙ or_none (view_named views n) (view_named (v ∷ []) n) missing ∙ named_alone v n other

named-push : (views : List LiveView) (v : LiveView) → view_named views v.name ≡ None → view_named (views ++ v ∷ []) v.name ≡ Some v
named-push views v missing = find-append (λ (w : LiveView). bytes_eq v.name w.name) views (v ∷ []) ∙ or_none (view_named views v.name) (view_named (v ∷ []) v.name) missing ∙ named_itself v

named-append : (views later : List LiveView) (n : List ℕ) → IsSome (view_named views n) → view_named (views ++ later) n ≡ view_named views n
named-append views later n some = find-append (λ (w : LiveView). bytes_eq n w.name) views later ∙ or_some (view_named views n) (view_named later n) some

-- a view that a name finds is found by its number
alive : (id : ℕ) (views : List LiveView) (n : List ℕ) → option_map (λ v. v.id) (view_named views n) ≡ Some id → IsSome (view_of views id)
alive id [] n h = absurd (none-some id h)
alive id (v ∷ views) n h = by (bytes_eq n v.name) h (alive id views n)
  where
    here : (b : Bool) → nat_eq v.id id ≡ b → IsSome (view_of views id) → IsSome (cond b (Some v) (view_of views id))
    here true e rest = refl
    here false e rest = rest

    same : v.id ≡ id → IsSome (cond (nat_eq v.id id) (Some v) (view_of views id))
    same e = let yes : nat_eq v.id id ≡ true = grind (arith, common_steps, e) in subst (λ b. IsSome (cond b (Some v) (view_of views id))) (sym yes) refl

    by : (b : Bool) → option_map (λ w. w.id) (cond b (Some v) (view_named views n)) ≡ Some id → (option_map (λ w. w.id) (view_named views n) ≡ Some id → IsSome (view_of views id))
        → IsSome (cond (nat_eq v.id id) (Some v) (view_of views id))
    by true e rest = same (ap (λ o. unwrap_or o 0) e)
    by false e rest = here (nat_eq v.id id) refl (rest e)

pub IsSome-view_of : (views : List LiveView) (n : List ℕ) (id : ℕ) → option_map (λ v. v.id) (view_named views n) ≡ Some id → IsSome (view_of views id)
IsSome-view_of views n id h = alive id views n h

-- ---- view by view

module _ (t : ViewTree) (metrics : List (List ℕ × Fraction)) where
  -- a name that isn't held is free among these views
  abbrev Frees : ViewTree → List (List ℕ) → Type 0
  Frees u before = (n : List ℕ) → is_held t metrics before n ≡ false → view_named u.views n ≡ None

  record Grows (u w : ViewTree) (after : List (List ℕ)) (ps : List (List ℕ × List ℕ)) (vs : List LiveView) (count : ℕ) : Type 0 where
    tree : IsTree w
    frees : Frees w after
    able : (rest : List (List ℕ × List ℕ)) → AreNew w rest → AreNew u (ps ++ rest)
    same : (rest : List (List ℕ × List ℕ)) → grown u (ps ++ rest) ≡ grown w rest
    views : w.views ≡ u.views ++ vs
    next : w.next ≡ u.next + count
    most : w.most ≡ u.most

  -- where views of these names on so many tall may go in
  record Holds (u : ViewTree) (before : List (List ℕ)) (up : List ℕ) (parent depth : ℕ) (ns : List (List ℕ)) (count tall : ℕ) : Type 0 where
    tree : IsTree u
    frees : Frees u before
    some : IsSome (view_named u.views up)
    number : id_named u up ≡ parent
    live : IsSome (view_of u.views parent)
    on : IsAtDepth u.views parent depth
    within : depth + tall ≤ 32
    free : AreFree t metrics before ns
    short : AllByRecursion (λ n. length n ≤ 64) ns
    room : length u.views + count ≤ u.most
    ids : u.next + count ≤ 2 ^ 29

  not_full : (u : ViewTree) → length u.views + 1 ≤ u.most → u.next + 1 ≤ 2 ^ 29 → is_full u ≡ false
  not_full u a b = grind (arith, common_steps, a, b)

  any-push : (p : List ℕ → Bool) (xs : List (List ℕ)) (x : List ℕ) → list_any p (xs ++ x ∷ []) ≡ false → (list_any p xs ≡ false) × (p x ≡ false)
  any-push p [] x h = (refl, or-left (p x) false h)
  any-push p (y ∷ ys) x h = by (p y) h (any-push p ys x)
    where
      by : (b : Bool) → (b || list_any p (ys ++ x ∷ [])) ≡ false → (list_any p (ys ++ x ∷ []) ≡ false → (list_any p ys ≡ false) × (p x ≡ false)) → ((b || list_any p ys) ≡ false) × (p x ≡ false)
      by true h rest = absurd (true≢false h)
      by false h rest = rest h

  both : (a b c : Bool) → a ≡ false → b ≡ false → c ≡ false → (a || (b || c)) ≡ false
  both true b c x y z = x
  both false true c x y z = y
  both false false c x y z = z

  held-push : (before : List (List ℕ)) (name n : List ℕ) → is_held t metrics (before ++ name ∷ []) n ≡ false → (is_held t metrics before n ≡ false) × (bytes_eq n name ≡ false)
  held-push before name n h =
      let live : Bool = is_some (view_named t.views n) in
      let metric : Bool = is_some (value_of metrics n) in
      let others = or-right live (metric || list_any (bytes_eq n) (before ++ name ∷ [])) h in
      let earlier = any-push (bytes_eq n) before name (or-right metric (list_any (bytes_eq n) (before ++ name ∷ [])) others) in (
        both live metric (list_any (bytes_eq n) before) (or-left live (metric || list_any (bytes_eq n) (before ++ name ∷ [])) h) (or-left metric (list_any (bytes_eq n) (before ++ name ∷ [])) others) earlier.0,
        earlier.1,
      )

  frees-push : (u : ViewTree) (before : List (List ℕ)) (name : List ℕ) (parent : ℕ) → Frees u before → Frees (with_view u name parent) (before ++ name ∷ [])
  frees-push u before name parent frees n h =
      let apart = held-push before name n h in
      unnamed-push u.views (record { id = u.next; name = name; parent = Some parent }) n (frees n apart.0) apart.1

  is_new : (u : ViewTree) (before : List (List ℕ)) (up : List ℕ) (parent depth : ℕ) (name : List ℕ) (ns : List (List ℕ)) (count tall : ℕ)
      → Holds u before up parent depth (name ∷ ns) (suc count) (suc tall) → IsNewView u name parent
  is_new u before up parent depth name ns count tall h = record {
    live = h.live;
    free = h.frees name h.free.0;
    short = h.short.0;
    room = not_full u (omega (arith, h.room)) (omega (arith, h.ids));
    high = (depth, h.on, omega (arith, h.within));
  }

  number-named : (u : ViewTree) (n : List ℕ) (v : LiveView) → view_named u.views n ≡ Some v → id_named u n ≡ v.id
  number-named u n v e = ap (λ o. option_map_or (λ (w : LiveView). w.id) o 0) e

  number_some : (u : ViewTree) (n : List ℕ) (id : ℕ) → IsSome (view_named u.views n) → id_named u n ≡ id → option_map (λ v. v.id) (view_named u.views n) ≡ Some id
  number_some u n id some is = by (view_named u.views n) some is
    where
      by : (o : Option LiveView) → IsSome o → option_map_or (λ v. v.id) o 0 ≡ id → option_map (λ v. v.id) o ≡ Some id
      by None some is = absurd (true≢false (sym some))
      by (Some v) some is = ap Some is

  -- the views inside go in where their own was added
  inside : (u : ViewTree) (before : List (List ℕ)) (up : List ℕ) (parent depth : ℕ) (name : List ℕ) (ns : List (List ℕ)) (count tall : ℕ)
      → Holds u before up parent depth (name ∷ ns) (suc count) (suc tall) → Holds (with_view u name parent) (before ++ name ∷ []) name u.next (depth + 1) ns count tall
  inside u before up parent depth name ns count tall h =
      let v : LiveView = record { id = u.next; name = name; parent = Some parent } in
      let found : view_named (u.views ++ v ∷ []) name ≡ Some v = named-push u.views v (h.frees name h.free.0) in
      record {
        tree = IsTree-with_view u name parent h.tree (is_new u before up parent depth name ns count tall h);
        frees = frees-push u before name parent h.frees;
        some = ap is_some found;
        number = number-named (with_view u name parent) name v found;
        live = IsSome-view_of (u.views ++ v ∷ []) name u.next (ap (option_map (λ (w : LiveView). w.id)) found);
        on = IsAtDepth-push u.views v parent depth refl h.tree.below h.on;
        within = omega (arith, h.within);
        free = h.free.1;
        short = h.short.1;
        room = omega (arith, h.room, length-append u.views (v ∷ []));
        ids = omega (arith, h.ids);
      }

  all_views : (before vs mid : List LiveView) (parent : ℕ) (bs : Branches) (n m : ℕ) (last : List LiveView) → mid ≡ before ++ vs → n ≡ m → last ≡ mid ++ views_in n parent bs → last ≡ before ++ (vs ++ views_in m parent bs)
  all_views before vs mid parent bs n m last is next e =
      let both_are : mid ++ views_in n parent bs ≡ (before ++ vs) ++ views_in m parent bs = λ i. is i ++ views_in (next i) parent bs in
      e ∙ both_are ∙ append_assoc before vs (views_in m parent bs)

  same_tree : (w u : ViewTree) → w.views ≡ u.views → w.next ≡ u.next → w.most ≡ u.most → w ≡ u
  same_tree w u e f g = λ i. record { views = e i; next = f i; most = g i }

  same_first : (u : ViewTree) (name up : List ℕ) (parent : ℕ) (ps : List (List ℕ × List ℕ)) (w : ViewTree) → id_named u up ≡ parent → grown (with_view u name parent) ps ≡ w
      → grown (with_view u name (id_named u up)) ps ≡ w
  same_first u name up parent ps w is e = ap (λ p. grown (with_view u name p) ps) is ∙ e

  same_both : (u mid w : ViewTree) (ps qs rest : List (List ℕ × List ℕ)) → grown u (ps ++ (qs ++ rest)) ≡ grown mid (qs ++ rest) → grown mid (qs ++ rest) ≡ grown w rest
      → grown u ((ps ++ qs) ++ rest) ≡ grown w rest
  same_both u mid w ps qs rest e f = ap (grown u) (append_assoc ps qs rest) ∙ e ∙ f

  mutual
    grows : (b : Branch) (u : ViewTree) (before : List (List ℕ)) (up : List ℕ) (parent depth : ℕ) → Holds u before up parent depth (names b) (size b) (height b)
        → (w : ViewTree) × Grows u w (before ++ names b) (pairs up b) (views_of u.next parent b) (size b)
    grows (branch name inner) u before up parent depth h =
        let new = is_new u before up parent depth name (names_in inner) (size_in inner) (height_in inner) h in
        let u1 : ViewTree = with_view u name parent in
        let v : LiveView = record { id = u.next; name = name; parent = Some parent } in
        let more = grows_in inner u1 (before ++ name ∷ []) name u.next (depth + 1) (inside u before up parent depth name (names_in inner) (size_in inner) (height_in inner) h) in
        let w : ViewTree = more.0 in (
          w,
          record {
            tree = more.1.tree;
            frees = subst (Frees w) (append_assoc before (name ∷ []) (names_in inner)) more.1.frees;
            able = λ rest a. (
              h.some,
              subst (IsNewView u name) (sym h.number) new,
              subst (λ p. AreNew (with_view u name p) (pairs_in name inner ++ rest)) (sym h.number) (more.1.able rest a),
            );
            same = λ rest. same_first u name up parent (pairs_in name inner ++ rest) (grown w rest) h.number (more.1.same rest);
            views = more.1.views ∙ append_assoc u.views (v ∷ []) (views_in (u.next + 1) u.next inner);
            next = omega (arith, more.1.next);
            most = more.1.most;
          },
        )

    grows_in : (bs : Branches) (u : ViewTree) (before : List (List ℕ)) (up : List ℕ) (parent depth : ℕ) → Holds u before up parent depth (names_in bs) (size_in bs) (height_in bs)
        → (w : ViewTree) × Grows u w (before ++ names_in bs) (pairs_in up bs) (views_in u.next parent bs) (size_in bs)
    grows_in no_branches u before up parent depth h = (
      u,
      record {
        tree = h.tree;
        frees = subst (Frees u) (sym (append-nil before)) h.frees;
        able = λ rest a. a;
        same = λ rest. refl;
        views = sym (append-nil u.views);
        next = omega arith;
        most = refl;
      },
    )
    grows_in (more b bs) u before up parent depth h =
        let ns = split (λ n. length n ≤ 64) (names b) (names_in bs) h.short in
        let free = AreFree-split t metrics before (names b) (names_in bs) h.free in
        let one = grows b u before up parent depth (record {
          tree = h.tree;
          frees = h.frees;
          some = h.some;
          number = h.number;
          live = h.live;
          on = h.on;
          within = omega (arith, h.within);
          free = free.0;
          short = ns.0;
          room = omega (arith, h.room);
          ids = omega (arith, h.ids);
        }) in
        let u1 : ViewTree = one.0 in
        let vs : List LiveView = views_of u.next parent b in
        let is : u1.views ≡ u.views ++ vs = one.1.views in
        let up_is : view_named u1.views up ≡ view_named u.views up = ap (λ views. view_named views up) is ∙ named-append u.views vs up h.some in
        let two = grows_in bs u1 (before ++ names b) up parent depth (record {
          tree = one.1.tree;
          frees = one.1.frees;
          some = ap is_some up_is ∙ h.some;
          number = ap (λ o. option_map_or (λ (w : LiveView). w.id) o 0) up_is ∙ h.number;
          live = alive parent u1.views up (ap (option_map (λ (v : LiveView). v.id)) up_is ∙ number_some u up parent h.some h.number);
          on = subst (λ views. IsAtDepth views parent depth) (sym is) (IsAtDepth-append u.views vs parent depth h.on);
          within = omega (arith, h.within);
          free = free.1;
          short = ns.1;
          room = omega (arith, h.room, ap length is, length-append u.views vs, length-views_of u.next parent b, one.1.most);
          ids = omega (arith, h.ids, one.1.next);
        }) in
        let w : ViewTree = two.0 in (
          w,
          record {
            tree = two.1.tree;
            frees = subst (Frees w) (append_assoc before (names b) (names_in bs)) two.1.frees;
            able = λ rest a. subst (AreNew u) (sym (append_assoc (pairs up b) (pairs_in up bs) rest)) (one.1.able (pairs_in up bs ++ rest) (two.1.able rest a));
            same = λ rest. same_both u u1 w (pairs up b) (pairs_in up bs) rest (one.1.same (pairs_in up bs ++ rest)) (two.1.same rest);
            views = all_views u.views vs u1.views parent bs u1.next (u.next + size b) w.views is one.1.next two.1.views;
            next = omega (arith, one.1.next, two.1.next);
            most = two.1.most ∙ one.1.most;
          },
        )

-- the branch of a tree that goes in and passes no limit
goes_in : (t : ViewTree) (n : List ℕ) (parent : ℕ) → option_map (λ v. v.id) (view_named t.views n) ≡ Some parent → IsSome (view_named t.views n) × (id_named t n ≡ parent)
goes_in t n parent h = by (view_named t.views n) h
  where
    by : (o : Option LiveView) → option_map (λ v. v.id) o ≡ Some parent → IsSome o × (option_map_or (λ v. v.id) o 0 ≡ parent)
    by None h = absurd (none-some parent h)
    by (Some v) h = (refl, ap (λ o. unwrap_or o 0) h)

pub room_for : (t : ViewTree) (count : ℕ) → has_room t count ≡ true → (length t.views + count ≤ t.most) × (t.next + count ≤ 2 ^ 29)
room_for t count h = grind (arith, common_steps, h)

module _ (t : ViewTree) (metrics : List (List ℕ × Fraction)) (up : List ℕ) (parent : ℕ) (b : Branch) (tree : IsTree t) (goes : option_map (λ v. v.id) (view_named t.views up) ≡ Some parent)
    (free : AreFree t metrics [] (names b)) (within : IsWithin t parent b) where
  holds : Holds t metrics t [] up parent within.high.0 (names b) (size b) (height b)
  holds =
      let where_in = goes_in t up parent goes in
      let room = room_for t (size b) within.room in
      record {
        tree = tree;
        frees = λ n h. none (view_named t.views n) (or-left (is_some (view_named t.views n)) _ h);
        some = where_in.0;
        number = where_in.1;
        live = IsSome-view_of t.views up parent goes;
        on = within.high.1;
        within = within.high.2;
        free = free;
        short = recursion_from_All (λ (n : List ℕ). length n ≤ 64) (names b) within.short;
        room = room.0;
        ids = room.1;
      }

  pub AreNew-pairs : AreNew t (pairs up b)
  AreNew-pairs = let g = grows t metrics b t [] up parent within.high.0 holds in subst (AreNew t) (append-nil (pairs up b)) (g.1.able [] tt)

  pub grown-pairs : grown t (pairs up b) ≡ with_branch t parent b
  grown-pairs =
      let g = grows t metrics b t [] up parent within.high.0 holds in
      ap (grown t) (sym (append-nil (pairs up b))) ∙ g.1.same [] ∙ same_tree t metrics g.0 (with_branch t parent b) g.1.views g.1.next g.1.most
