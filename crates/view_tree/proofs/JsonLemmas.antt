-- What a plan says of its tree.
use Rattle.std.proofs.Common.{◌≡◌, ◌||◌, ℕ, zero, suc, ◌+◌, ◌-◌, ◌<◌, ◌≤◌, Bool, true, false, cond, not, List, [], ◌∷◌, ◌++◌, Option, None, Some, IsSome, is_some, Result, Ok, Err, IfErr, add-one, length, map, drop, take, get_or, nat_eq, nat_lt, position, unwrap_or, refl, sym, ap, subst, ◌∙◌, true≢false, arith, append_assoc, append-nil, length-append}
use Rattle.std.proofs.lemmas.Bool.{eqb-true}
use Rattle.std.proofs.lemmas.Bool.Decides.{nat_tests}
use Rattle.std.proofs.lemmas.Grind.{common_steps}
use Rattle.std.proofs.lemmas.List.{length-map}
use Rattle.std.proofs.lemmas.List.Elements.{All-from_recursion, recursion_from_All}
use Rattle.std.proofs.lemmas.Map.Made.{is_some-lookup}
use Rattle.std.proofs.lemmas.Option.{none-some}
use Rattle.std.specs.List.{AllByRecursion, list_any, position_or_len}
use Rattle.std.specs.Option.{option_map, option_map_or}
use Rattle.std.specs.Str.{bytes_eq}
use Rattle.frac_core.specs.Fraction.{Fraction}
use Rattle.name_tables.specs.Names.{names_of, value_of}
use Rattle.name_tables.specs.declared.stops.LimitWord.{LimitWord}
use Rattle.name_tables.specs.declared.stops.LimitWord.TheVariants.{Name, Views, Depth}
use Rattle.view_tree.specs.JsonStops.{AreFree, AreShort, GoesIn, IsAddable, IsFirstHeld, IsGrown, IsWithin, MayStayOut, PassesTreeLimit, has_room, is_held}
use Rattle.view_tree.specs.JsonTrees.{IsTreeText, JsonTree, names, size}
use Rattle.view_tree.specs.Plans.{AreNew, IsPlanOf, PlanGoesIn, grown, names_of_plan, id_named, pair_of, pairs_of}
use Rattle.view_tree.specs.Stops.{IsNewView, PassesLimit}
use Rattle.view_tree.specs.Views.{AreAbove, IsAtDepth, IsTree, LiveView, ViewTree, view_named, view_of, with_view}
use Rattle.view_tree.specs.declared.stops.TreeStop.TheVariants as stop
use Rattle.view_tree.specs.declared.plan.Plan.{Plan}
use Rattle.view_tree.specs.declared.plan.Planned.{Planned}
use Rattle.view_tree.proofs.BranchLemmas.{AreNew-pairs, grown-pairs, length-pairs, names-pairs, room_for, or-right}
use Rattle.view_tree.proofs.ViewLemmas.{IsAtDepth-unique}

-- ---- names

map_twice : (ps : List Planned) → map (λ (p : List ℕ × List ℕ). p.0) (pairs_of ps) ≡ names_of_plan ps
map_twice [] = refl
map_twice (p ∷ ps) = ap (λ ns. p.name.now ∷ ns) (map_twice ps)

module _ (plan : Plan) (tree : JsonTree) (is : IsPlanOf plan tree) where
  pub names_are : names_of_plan plan.views.items ≡ names tree.branch
  names_are = sym (map_twice plan.views.items) ∙ ap (map (λ (p : List ℕ × List ℕ). p.0)) is.pairs ∙ names-pairs tree.place tree.branch

  pub count_is : length plan.views.items ≡ size tree.branch
  count_is = sym (length-map plan.views.items pair_of) ∙ ap length is.pairs ∙ length-pairs tree.place tree.branch

-- ---- names that are held

module _ (t : ViewTree) (metrics : List (List ℕ × Fraction)) where
  pub AreFree-push : (before xs : List (List ℕ)) (n : List ℕ) → AreFree t metrics before xs → is_held t metrics (before ++ xs) n ≡ false → AreFree t metrics before (xs ++ n ∷ [])
  AreFree-push before [] n h free = (subst (λ ns. is_held t metrics ns n ≡ false) (append-nil before) free, tt)
  AreFree-push before (x ∷ xs) n h free = (h.0, AreFree-push (before ++ x ∷ []) xs n h.1 (subst (λ ns. is_held t metrics ns n ≡ false) (sym (append_assoc before (x ∷ []) xs)) free))

nowhere : (p : List ℕ → Bool) (xs : List (List ℕ)) → list_any p xs ≡ false → length xs ≤ position_or_len p xs
nowhere p [] h = omega arith
nowhere p (x ∷ xs) h =
    rw (← add-one (length xs)) (elim (p x) as (λ b. (b || list_any p xs) ≡ false → length xs + 1 ≤ cond (not b) (1 + position_or_len p xs) 0) [
      | true ↦ λ e. absurd (true≢false e)
      | false ↦ λ e. omega (arith, nowhere p xs e)
    ] h)

-- the last test of a name
pub held_last : (t : ViewTree) (metrics : List (List ℕ × Fraction)) (es : List (List ℕ × Unit {0})) (n : List ℕ) → is_some (view_named t.views n) ≡ false → is_some (value_of metrics n) ≡ false
    → is_some (value_of es n) ≡ is_held t metrics (names_of es) n
held_last t metrics es n live metric = is_some-lookup (bytes_eq n) es ∙ sym (λ i. live i || (metric i || list_any (bytes_eq n) (names_of es)))

pub names_push : {V : Type 0} (es : List (List ℕ × V)) (n : List ℕ) (v : V) → names_of (es ++ (n, v) ∷ []) ≡ names_of es ++ n ∷ []
names_push [] n v = refl
names_push (e ∷ es) n v = ap (λ ns. e.0 ∷ ns) (names_push es n v)

pub absent : (t : ViewTree) (metrics : List (List ℕ × Fraction)) (before : List (List ℕ)) (n : List ℕ) → is_held t metrics before n ≡ false → position (bytes_eq n) before ≡ None
absent t metrics before n h =
    let metric : Bool = is_some (value_of metrics n) in
    let others : list_any (bytes_eq n) before ≡ false = or-right metric (list_any (bytes_eq n) before) (or-right (is_some (view_named t.views n)) (metric || list_any (bytes_eq n) before) h) in
    let past : length before ≤ position_or_len (bytes_eq n) before = nowhere (bytes_eq n) before others in
    grind (arith, common_steps, past)

-- ---- one after another

name_at : (ps : List Planned) (i : ℕ) (d : Planned) → i < length ps → take (i + 1) (names_of_plan ps) ≡ take i (names_of_plan ps) ++ (get_or ps i d).name.now ∷ []
name_at [] i d h = absurd (omega (arith, h))
name_at (p ∷ ps) zero d h = refl
name_at (p ∷ ps) (suc i) d h =
    let one_more : suc i + 1 ≡ suc (i + 1) = omega arith in
    ap (λ n. take n (names_of_plan (p ∷ ps))) one_more ∙ ap (λ ns. p.name.now ∷ ns) (name_at ps i d (omega (arith, h)))

pub names_more : (ps : List Planned) (i : ℕ) (d : Planned) (before after : List (List ℕ)) → i < length ps → before ≡ take i (names_of_plan ps) → after ≡ before ++ (get_or ps i d).name.now ∷ [] → after ≡ take (i + 1) (names_of_plan ps)
names_more ps i d before after h was is = is ∙ ap (λ ns. ns ++ (get_or ps i d).name.now ∷ []) was ∙ sym (name_at ps i d h)

names_split : (ps : List Planned) (i : ℕ) (d : Planned) → i < length ps → names_of_plan ps ≡ take i (names_of_plan ps) ++ (get_or ps i d).name.now ∷ drop (suc i) (names_of_plan ps)
names_split [] i d h = absurd (omega (arith, h))
names_split (p ∷ ps) zero d h = refl
names_split (p ∷ ps) (suc i) d h = ap (λ ns. p.name.now ∷ ns) (names_split ps i d (omega (arith, h)))

pub first_held : (t : ViewTree) (metrics : List (List ℕ × Fraction)) (ps : List Planned) (i : ℕ) (d : Planned) (before : List (List ℕ)) → i < length ps → before ≡ take i (names_of_plan ps)
    → AreFree t metrics [] before → is_held t metrics before (get_or ps i d).name.now ≡ true → IsFirstHeld t metrics (names_of_plan ps) (get_or ps i d).name.now
first_held t metrics ps i d before h was free held = record {
  before = before;
  later = drop (suc i) (names_of_plan ps);
  split = names_split ps i d h ∙ ap (λ ns. ns ++ (get_or ps i d).name.now ∷ drop (suc i) (names_of_plan ps)) (sym was);
  free = free;
  held = held;
}

-- ---- views that are added one after another

pub pairs_left : (ps : List Planned) (i : ℕ) (d : Planned) → i < length ps → drop i (pairs_of ps) ≡ pair_of (get_or ps i d) ∷ drop (i + 1) (pairs_of ps)
pairs_left [] i d h = absurd (omega (arith, h))
pairs_left (p ∷ ps) zero d h = refl
pairs_left (p ∷ ps) (suc i) d h =
    let one_more : suc (i + 1) ≡ suc i + 1 = omega arith in
    pairs_left ps i d (omega (arith, h)) ∙ ap (λ n. pair_of (get_or ps i d) ∷ drop n (pairs_of (p ∷ ps))) one_more

-- the next view may be added, and those after it then
pub record Next (u : ViewTree) (ps : List Planned) (i : ℕ) (p : Planned) : Type 0 where
  pub live : IsSome (view_named u.views p.parent.now)
  pub new : IsNewView u p.name.now (id_named u p.parent.now)
  pub rest : AreNew (with_view u p.name.now (id_named u p.parent.now)) (drop (i + 1) (pairs_of ps))
  pub same : grown (with_view u p.name.now (id_named u p.parent.now)) (drop (i + 1) (pairs_of ps)) ≡ grown u (drop i (pairs_of ps))

pub next : (u : ViewTree) (ps : List Planned) (i : ℕ) (d : Planned) → i < length ps → AreNew u (drop i (pairs_of ps)) → Next u ps i (get_or ps i d)
next u ps i d h are =
    let p : Planned = get_or ps i d in
    let left : drop i (pairs_of ps) ≡ pair_of p ∷ drop (i + 1) (pairs_of ps) = pairs_left ps i d h in
    let first = subst (AreNew u) left are in
    record { live = first.0; new = first.1; rest = first.2; same = ap (grown u) (sym left) }

pub grows_by : (t u w : ViewTree) (views : List LiveView) (name : List ℕ) (parent : ℕ) → u ≡ record t { views = t.views ++ views; next = t.next + length views } → w ≡ with_view u name parent
    → (more : List LiveView) × (w ≡ record t { views = t.views ++ more; next = t.next + length more })
grows_by t u w views name parent was is =
    let v : LiveView = record { id = u.next; name = name; parent = Some parent } in
    let longer : u.next + 1 ≡ t.next + length (views ++ v ∷ []) = omega (arith, ap (λ (x : ViewTree). x.next) was, length-append views (v ∷ [])) in
    let same : u.views ++ v ∷ [] ≡ t.views ++ (views ++ v ∷ []) = ap (λ (x : ViewTree). x.views ++ v ∷ []) was ∙ append_assoc t.views views (v ∷ []) in
    let most : u.most ≡ t.most = ap (λ (x : ViewTree). x.most) was in
    (views ++ v ∷ [], is ∙ (λ i. record { views = same i; next = longer i; most = most i }))

-- ---- limits

-- a plan with no name to write down
abbrev pub unplanned : Planned
unplanned = record { name = record { ref_ptr = (0, 0); now = [] }; parent = record { ref_ptr = (0, 0); now = [] } }

abbrev is_long : Planned → Bool
is_long p = nat_lt 64 (length p.name.now)

pub long_yes : (ps : List Planned) → list_any (λ p. nat_lt 64 (length p.name.now)) ps ≡ true → AreShort (names_of_plan ps) → ⊥
long_yes ps h short = by ps h (recursion_from_All (λ (n : List ℕ). length n ≤ 64) (names_of_plan ps) short)
  where
    by : (qs : List Planned) → list_any is_long qs ≡ true → AllByRecursion (λ n. length n ≤ 64) (names_of_plan qs) → ⊥
    by [] h s = true≢false (sym h)
    by (q ∷ qs) h s = let no : nat_lt 64 (length q.name.now) ≡ false = grind (arith, nat_tests, s.0) in by qs (ap (λ b. b || list_any is_long qs) (sym no) ∙ h) s.1

long_none : (ps : List Planned) → list_any is_long ps ≡ false → AllByRecursion (λ n. length n ≤ 64) (names_of_plan ps)
long_none [] h = tt
long_none (p ∷ ps) h = by (nat_lt 64 (length p.name.now)) refl h (long_none ps)
  where
    by : (b : Bool) → nat_lt 64 (length p.name.now) ≡ b → (b || list_any is_long ps) ≡ false → (list_any is_long ps ≡ false → AllByRecursion (λ n. length n ≤ 64) (names_of_plan ps)) → AllByRecursion (λ n. length n ≤ 64) (names_of_plan (p ∷ ps))
    by true e h rest = absurd (true≢false h)
    by false e h rest = (grind (arith, nat_tests, e), rest h)

pub long_no : (ps : List Planned) → list_any (λ p. nat_lt 64 (length p.name.now)) ps ≡ false → AreShort (names_of_plan ps)
long_no ps h = All-from_recursion (λ (n : List ℕ). length n ≤ 64) (names_of_plan ps) (long_none ps h)

module _ (t : ViewTree) (parent : ℕ) (plan : Plan) (tree : JsonTree) (is : IsPlanOf plan tree) (views : List Planned) (are : views ≡ plan.views.items) where
  short : AreShort (names_of_plan views) → AreShort (names tree.branch)
  short h = subst AreShort (ap names_of_plan are ∙ names_are plan tree is) h

  counted : (n : ℕ) → n ≡ length plan.views.items → n ≡ size tree.branch
  counted n e = e ∙ count_is plan tree is

  pub passes_name : (AreShort (names_of_plan views) → ⊥) → PassesTreeLimit t parent tree.branch Name
  passes_name long h = long (subst AreShort (sym (ap names_of_plan are ∙ names_are plan tree is)) h)

  pub passes_views : (n : ℕ) → AreShort (names_of_plan views) → n ≡ length plan.views.items → has_room t n ≡ false → PassesTreeLimit t parent tree.branch Views
  passes_views n h e full = (short h, ap (has_room t) (sym (counted n e)) ∙ full)

  pub passes_depth : (n : ℕ) → AreShort (names_of_plan views) → n ≡ length plan.views.items → has_room t n ≡ true → (depth : ℕ) × IsAtDepth t.views parent depth × (32 < depth + plan.height) → PassesTreeLimit t parent tree.branch Depth
  passes_depth n h e room deep = (short h, ap (has_room t) (sym (counted n e)) ∙ room, (deep.0, deep.1, omega (arith, deep.2, is.height)))

  pub is_within : (n : ℕ) → AreShort (names_of_plan views) → n ≡ length plan.views.items → has_room t n ≡ true → (depth : ℕ) × IsAtDepth t.views parent depth × (depth + plan.height ≤ 32) → IsWithin t parent tree.branch
  is_within n h e room high = record { short = short h; room = ap (has_room t) (sym (counted n e)) ∙ room; high = (high.0, high.1, omega (arith, high.2, is.height)) }

-- ---- depths

some_mapped : {X Y : Type 0} (f : X → Y) (o : Option X) (y : Y) → option_map f o ≡ Some y → IsSome o
some_mapped f None y h = absurd (none-some y h)
some_mapped f (Some x) y h = refl

found_of : (P : LiveView → Type 0) (id : ℕ) (views : List LiveView) → AllByRecursion P views → IsSome (view_of views id) → (v : LiveView) × P v × (v.id ≡ id)
found_of P id [] h some = absurd (true≢false (sym some))
found_of P id (v ∷ views) h some = by (nat_eq v.id id) refl some (found_of P id views h.1)
  where
    by : (b : Bool) → nat_eq v.id id ≡ b → IsSome (cond b (Some v) (view_of views id)) → (IsSome (view_of views id) → (w : LiveView) × P w × (w.id ≡ id)) → (w : LiveView) × P w × (w.id ≡ id)
    by true e s rest = (v, h.0, eqb-true v.id id e)
    by false e s rest = rest s

live_above : (views : List LiveView) (id : ℕ) (above : List ℕ) → AreAbove views id above → IsSome (view_of views id)
live_above views id [] h = some_mapped (λ (v : LiveView). v.parent) (view_of views id) None h
live_above views id (p ∷ above) h = some_mapped (λ (v : LiveView). v.parent) (view_of views id) (Some p) h.0

-- no depth of a tree is below the 32nd
pub low_depth : (t : ViewTree) (id depth : ℕ) → IsTree t → IsAtDepth t.views id depth → depth ≤ 32
low_depth t id depth whole on =
    let found = found_of (λ v. (l : ℕ) × IsAtDepth t.views v.id l × (l ≤ 32)) id t.views (recursion_from_All (λ v. (l : ℕ) × IsAtDepth t.views v.id l × (l ≤ 32)) t.views whole.depths) (live_above t.views id on.above on.chain) in
    let there : IsAtDepth t.views id found.1.0 = subst (λ n. IsAtDepth t.views n found.1.0) found.2 found.1.1 in
    omega (arith, IsAtDepth-unique t.views id depth found.1.0 on there, found.1.2)

pub is_deep : (depth tall : ℕ) → depth ≤ 32 → nat_lt (32 - depth) tall ≡ true → 32 < depth + tall
is_deep depth tall low h = grind (arith, nat_tests, h, low)

pub is_high : (depth tall : ℕ) → depth ≤ 32 → nat_lt (32 - depth) tall ≡ false → depth + tall ≤ 32
is_high depth tall low h = grind (arith, nat_tests, h, low)

-- ---- a view that may be added

pub limit_passed : (t : ViewTree) (name : List ℕ) (parent : ℕ) → IsNewView t name parent → (limit : LimitWord) → PassesLimit t name parent limit → ⊥
limit_passed t name parent new Name h = omega (arith, h, new.short)
limit_passed t name parent new Views h = true≢false (sym h.1 ∙ new.room)
limit_passed t name parent new Depth h = omega (arith, IsAtDepth-unique t.views parent h.2.0 new.high.0 h.2.1 new.high.1, h.2.2, new.high.2)
limit_passed t name parent new _ h = h

pub is_parent : (t : ViewTree) (up : List ℕ) (parent : ℕ) → Some parent ≡ option_map (λ v. v.id) (view_named t.views up) → id_named t up ≡ parent
is_parent t up parent e = by (view_named t.views up) e
  where
    by : (o : Option LiveView) → Some parent ≡ option_map (λ v. v.id) o → option_map_or (λ v. v.id) o 0 ≡ parent
    by None e = absurd (none-some parent (sym e))
    by (Some v) e = ap (λ o. unwrap_or o 0) (sym e)

-- ---- the whole call

module _ (t : ViewTree) (metrics : List (List ℕ × Fraction)) (plan : Plan) (tree : JsonTree) (planned : IsPlanOf plan tree) where
  free_names : AreFree t metrics [] (names_of_plan plan.views.items) → AreFree t metrics [] (names tree.branch)
  free_names free = subst (AreFree t metrics []) (names_are plan tree planned) free

  goes_in : (parent : ℕ) → PlanGoesIn t plan parent → GoesIn t tree parent
  goes_in parent found = ap (λ n. option_map (λ v. v.id) (view_named t.views n)) (sym planned.place) ∙ sym found

  pub taken_by : (text : List ℕ) → IsTreeText text tree → IsSome (view_named t.views plan.place.now) → (name : List ℕ) → IsFirstHeld t metrics (names_of_plan plan.views.items) name
      → (held : List ℕ) → held ≡ name → MayStayOut t metrics text (stop.Taken held)
  taken_by text from placed name first held is = (
    tree,
    from,
    subst (λ n. IsSome (view_named t.views n)) planned.place placed,
    subst (λ n. IsFirstHeld t metrics (names tree.branch) n) (sym is) (subst (λ ns. IsFirstHeld t metrics ns name) (names_are plan tree planned) first),
  )

  pub limited_by : (text : List ℕ) → IsTreeText text tree → (parent : ℕ) → PlanGoesIn t plan parent → AreFree t metrics [] (names_of_plan plan.views.items)
      → (limit : LimitWord) → PassesTreeLimit t parent tree.branch limit → MayStayOut t metrics text (stop.Limit limit)
  limited_by text from parent found free limit passes = (tree, from, (parent, goes_in parent found, free_names free, passes))

  pub new_views : IsAddable t metrics plan → AreNew t (pairs_of plan.views.items)
  new_views may = subst (AreNew t) (sym planned.pairs) (AreNew-pairs t metrics tree.place may.parent tree.branch may.whole (goes_in may.parent may.goes) (free_names may.free) (may.within tree planned))

  pub few_views : IsAddable t metrics plan → length plan.views.items ≤ 200
  few_views may = omega (arith, (room_for t (size tree.branch) (may.within tree planned).room).0, may.whole.most, count_is plan tree planned)

  pub is_grown : IsAddable t metrics plan → (text : List ℕ) → IsTreeText text tree → (new : ViewTree) → new ≡ grown t (pairs_of plan.views.items)
      → (count : ℕ) → count ≡ length plan.views.items → IsGrown t metrics text new count
  is_grown may text from new is count counts = record {
    tree = tree;
    parent = may.parent;
    read = from;
    goes = goes_in may.parent may.goes;
    free = free_names may.free;
    within = may.within tree planned;
    grown = is ∙ ap (grown t) planned.pairs ∙ grown-pairs t metrics tree.place may.parent tree.branch may.whole (goes_in may.parent may.goes) (free_names may.free) (may.within tree planned);
    counted = counts ∙ count_is plan tree planned;
  }

-- what each stop of one kind is of another
pub stop_then : {T E : Type 0} (r : Result T E) (P Q : E → Type 0) → ((e : E) → P e → Q e) → IfErr r P → IfErr r Q
stop_then (Ok x) P Q f h = tt
stop_then (Err e) P Q f h = f e h
