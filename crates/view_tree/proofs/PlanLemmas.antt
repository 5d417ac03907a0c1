-- The plan of a JSON value, read from its parts.
use Rattle.std.proofs.Common.{◌≡◌, ◌==◌, ◌&&◌, ℕ, zero, suc, max, ◌<◌, ◌≤◌, Bool, true, false, cond, List, [], ◌∷◌, ◌++◌, Option, None, Some, Ordering, Less, Equal, Greater, length, get_or, is_eq, nat_cmp, refl, sym, ap, ◌∙◌, true≢false, arith, append_assoc, length-append, Result, Ok, Err, unwrap_or}
use Rattle.std.specs.Prelude.{codes, option_map, option_and_then}
use Rattle.std.proofs.lemmas.Bool.Decides.{nat_tests}
use Rattle.std.proofs.lemmas.List.{map-append}
use Rattle.std.proofs.lemmas.Map.Text.{is_eq-slice_cmp}
use Rattle.std.proofs.lemmas.Option.{none-some}
use Rattle.std.specs.Cmp.Lexicographic.{slice_cmp}
use Rattle.std.specs.List.{list_all}
use Rattle.std.specs.Option.{option_map_or}
use Rattle.std.specs.Ordering.{match_ordering}
use Rattle.std.specs.Str.{bytes_eq}
use Rattle.serde_json.specs.Data.{Data, null, boolean, number, string, array, object, Items, Members, no_members, member, depth, items_depth, members_depth}
use Rattle.serde_json.specs.Find.{get, get_member, as_array, as_object}
use Rattle.serde_json.specs.View.{view, items_view}
use Rattle.serde_json.specs.declared.value.Value.{Value}
use Rattle.span_text.specs.Classes.{is_letter, is_word}
use Rattle.span_text.specs.Reading.{back, one_at}
use Rattle.span_text.specs.Tokens.{raw_name_at}
use Rattle.view_tree.specs.JsonTrees.{Branch, branch, Branches, no_branches, height_in, branch_of, children_of, elements_of, branches_of, are_members, is_name, is_member, name_under, place_of, tree_of}
use Rattle.view_tree.specs.Plans.{pair_of, pairs, pairs_in, pairs_of}
use Rattle.view_tree.specs.declared.plan.Planned.{Planned}
use Rattle.view_tree.proofs.BranchLemmas.{length-pairs_in, low_in}

-- ---- names

abbrev is_empty : List ℕ → Bool
is_empty [] = true
is_empty (b ∷ s) = false

all_or_back : (s : List ℕ) → list_all is_word s ≡ is_empty (back is_word s)
unfolding back
all_or_back [] = refl
all_or_back (b ∷ s) = by (is_word b) (all_or_back s)
  where
    by : (c : Bool) → list_all is_word s ≡ is_empty (back is_word s) → (c && list_all is_word s) ≡ is_empty (cond c (back is_word s) (b ∷ s))
    by true h = h
    by false h = refl

abbrev after_name : Result (List ℕ × List ℕ) ℕ → Bool
after_name (Ok p) = is_empty p.1
after_name (Err m) = false

pub is_name-raw_name_at : (s : List ℕ) → is_name s ≡ after_name (raw_name_at s)
unfolding raw_name_at one_at
is_name-raw_name_at [] = refl
is_name-raw_name_at (b ∷ s) =
    elim (is_letter b) as (λ c. (c && list_all is_word s) ≡ after_name (Rattle.span_text.specs.Reading.◌>>=◌ (cond c (Ok (b, s)) (Err (length (b ∷ s)))) Rattle.span_text.specs.Tokens.raw_named)) [
      | true ↦ all_or_back s
      | false ↦ refl
    ]

is_empty-length : (xs : List ℕ) → (length xs == 0) ≡ is_empty xs
is_empty-length [] = refl
is_empty-length (x ∷ xs) = let no : (length (x ∷ xs) == 0) ≡ false = grind (arith, nat_tests) in no

pub name_read : (s t name rest : List ℕ) → t ≡ s → raw_name_at t ≡ Ok (name, rest) → (length rest == 0) ≡ is_name s
name_read s t name rest is e = is_empty-length rest ∙ ap after_name (sym e) ∙ sym (is_name-raw_name_at t) ∙ ap is_name is

pub name_unread : (s t : List ℕ) (m : ℕ) → t ≡ s → raw_name_at t ≡ Err m → false ≡ is_name s
name_unread s t m is e = ap after_name (sym e) ∙ sym (is_name-raw_name_at t) ∙ ap is_name is

-- ---- members

-- the members from one on
pub members_next : (o : Bool) (key : List ℕ) (d : Data) (ms : Members) (all : Bool) → is_member o key ≡ true → are_members o (member key d ms) ≡ all → are_members o ms ≡ all
members_next o key d ms all is e = ap (λ b. b && are_members o ms) (sym is) ∙ e

pub members_stop : (o : Bool) (key : List ℕ) (d : Data) (ms : Members) (all : Bool) → is_member o key ≡ false → are_members o (member key d ms) ≡ all → false ≡ all
members_stop o key d ms all isnt e = ap (λ b. b && are_members o ms) (sym isnt) ∙ e

pick : {X : Type 0} (o : Ordering) (b : Bool) → is_eq o ≡ b → (x : Data) (r : Option Data) (f : Data → X) (z y : X) → y ≡ option_map_or f r z → cond b (f x) y ≡ option_map_or f (match_ordering o r (Some x) r) z
pick Less true e x r f z y h = absurd (true≢false (sym e))
pick Less false e x r f z y h = h
pick Equal true e x r f z y h = refl
pick Equal false e x r f z y h = absurd (true≢false e)
pick Greater true e x r f z y h = absurd (true≢false (sym e))
pick Greater false e x r f z y h = h

pub children_of-get : (ms : Members) → children_of ms ≡ option_map_or elements_of (get_member (codes "children") ms) (Some no_branches)
children_of-get no_members = refl
children_of-get (member k d ms) = pick (slice_cmp nat_cmp (codes "children") k) (bytes_eq (codes "children") k) (is_eq-slice_cmp (codes "children") k) d (get_member (codes "children") ms) elements_of (Some no_branches) (children_of ms) (children_of-get ms)

-- ---- depth

pick_depth : (o : Ordering) (x : Data) (r : Option Data) (d : Data) (n : ℕ) → (r ≡ Some d → depth d ≤ n) → match_ordering o r (Some x) r ≡ Some d → depth d ≤ max (depth x) n
pick_depth Less x r d n h e = omega (arith, h e)
pick_depth Equal x r d n h e = let same : x ≡ d = ap (λ o. unwrap_or o x) e in omega (arith, ap depth same)
pick_depth Greater x r d n h e = omega (arith, h e)

depth-get_member : (k : List ℕ) (ms : Members) (d : Data) → get_member k ms ≡ Some d → depth d ≤ members_depth ms
depth-get_member k no_members d e = absurd (none-some d e)
depth-get_member k (member l x ms) d e = pick_depth (slice_cmp nat_cmp k l) x (get_member k ms) d (members_depth ms) (depth-get_member k ms d) e

pub depth-get : (k : List ℕ) (v d : Data) → get k v ≡ Some d → depth d < depth v
depth-get k null d e = absurd (none-some d e)
depth-get k (boolean b) d e = absurd (none-some d e)
depth-get k (number n) d e = absurd (none-some d e)
depth-get k (string s) d e = absurd (none-some d e)
depth-get k (array ds) d e = absurd (none-some d e)
depth-get k (object ms) d e = omega (arith, depth-get_member k ms d e)

depth-items : (vs : List Value) (i : ℕ) (d : Value) → i < length vs → depth (view (get_or vs i d)) ≤ items_depth (items_view vs)
depth-items [] i d h = absurd (omega arith)
depth-items (v ∷ vs) zero d h = omega arith
depth-items (v ∷ vs) (suc i) d h = omega (arith, depth-items vs i d (omega arith))

as_array-depth : (v : Data) (ds : Items) → as_array v ≡ Some ds → suc (items_depth ds) ≤ depth v
as_array-depth null ds e = absurd (none-some ds e)
as_array-depth (boolean b) ds e = absurd (none-some ds e)
as_array-depth (number n) ds e = absurd (none-some ds e)
as_array-depth (string s) ds e = absurd (none-some ds e)
as_array-depth (array xs) ds e = let same : xs ≡ ds = ap (λ o. unwrap_or o xs) e in omega (arith, ap items_depth same)
as_array-depth (object ms) ds e = absurd (none-some ds e)

pub depth-element : (v : Data) (vs : List Value) (i : ℕ) (d : Value) → Some (items_view vs) ≡ as_array v → i < length vs → depth (view (get_or vs i d)) < depth v
depth-element v vs i d e h = omega (arith, as_array-depth v (items_view vs) (sym e), depth-items vs i d h)

-- ---- an object

abbrev Inside : Option (List ℕ) → Members → Option Branch
Inside name ms = option_and_then (λ n. option_map (branch n) (children_of ms)) name

-- an object of this shape with this name, by what stands under children
pub object_of : (o : Bool) (v : Data) (name : List ℕ) → option_map_or (are_members o) (as_object v) false ≡ true → name_under (codes "name") v ≡ Some name
    → branch_of o v ≡ option_map (branch name) (option_map_or elements_of (get (codes "children") v) (Some no_branches))
object_of o null name h e = absurd (true≢false (sym h))
object_of o (boolean b) name h e = absurd (true≢false (sym h))
object_of o (number n) name h e = absurd (true≢false (sym h))
object_of o (string s) name h e = absurd (true≢false (sym h))
object_of o (array ds) name h e = absurd (true≢false (sym h))
object_of o (object ms) name h e =
    ap (λ b. cond b (Inside (name_under (codes "name") (object ms)) ms) None) h
    ∙ ap (λ n. Inside n ms) e ∙ ap (option_map (branch name)) (children_of-get ms)

pub object_some : (o : Bool) (v : Data) (name : List ℕ) (child : Data) (bs : Branches) → option_map_or (are_members o) (as_object v) false ≡ true → Some name ≡ name_under (codes "name") v
    → Some child ≡ get (codes "children") v → elements_of child ≡ Some bs → branch_of o v ≡ Some (branch name bs)
object_some o v name child bs shape is has e = object_of o v name shape (sym is) ∙ ap (λ g. option_map (branch name) (option_map_or elements_of g (Some no_branches))) (sym has) ∙ ap (option_map (branch name)) e

pub object_alone : (o : Bool) (v : Data) (name : List ℕ) → option_map_or (are_members o) (as_object v) false ≡ true → Some name ≡ name_under (codes "name") v
    → None ≡ get (codes "children") v → branch_of o v ≡ Some (branch name no_branches)
object_alone o v name shape is has = object_of o v name shape (sym is) ∙ ap (λ g. option_map (branch name) (option_map_or elements_of g (Some no_branches))) (sym has)

pub object_other : (o : Bool) (v : Data) (name : List ℕ) (child : Data) → option_map_or (are_members o) (as_object v) false ≡ true → Some name ≡ name_under (codes "name") v
    → Some child ≡ get (codes "children") v → elements_of child ≡ None → branch_of o v ≡ None
object_other o v name child shape is has e = object_of o v name shape (sym is) ∙ ap (λ g. option_map (branch name) (option_map_or elements_of g (Some no_branches))) (sym has) ∙ ap (option_map (branch name)) e

pub pairs_object : (items pushed : List Planned) (p : Planned) (bs : Branches) (now : List (List ℕ × List ℕ)) → pushed ≡ items ++ p ∷ [] → now ≡ pairs_of pushed ++ pairs_in p.name.now bs
    → now ≡ pairs_of items ++ pairs p.parent.now (branch p.name.now bs)
pairs_object items pushed p bs now was is =
    is ∙ ap (λ ps. pairs_of ps ++ pairs_in p.name.now bs) was ∙ ap (λ ps. ps ++ pairs_in p.name.now bs) (map-append pair_of items (p ∷ [])) ∙ append_assoc (pairs_of items) (pair_of p ∷ []) (pairs_in p.name.now bs)

pub pairs_leaf : (items pushed : List Planned) (p : Planned) → pushed ≡ items ++ p ∷ [] → pairs_of pushed ≡ pairs_of items ++ pairs p.parent.now (branch p.name.now no_branches)
pairs_leaf items pushed p was = ap pairs_of was ∙ map-append pair_of items (p ∷ [])

pub tree_is : (d : Data) (place : List ℕ) (b : Branch) → Some place ≡ place_of d → branch_of true d ≡ Some b → tree_of d ≡ Some (record { place = place; branch = b })
tree_is d place b goes is =
    ap (λ o. option_and_then (λ n. option_map (λ c. record { place = n; branch = c }) (branch_of true d)) o) (sym goes)
    ∙ ap (option_map (λ (c : Branch). record { place = place; branch = c })) is

-- ---- elements

-- the elements that are left, after so much of the plan
pub record Upto (all left : Items) (parent : List ℕ) (old now : List (List ℕ × List ℕ)) (high : ℕ) : Type 0 where
  pub some : (rest : Branches) → branches_of left ≡ Some rest
      → (whole : Branches) × (branches_of all ≡ Some whole) × (now ++ pairs_in parent rest ≡ old ++ pairs_in parent whole) × (max high (height_in rest) ≡ height_in whole)
  pub none : branches_of left ≡ None → branches_of all ≡ None

-- the high are no more than the views
pub low_height : (parent : List ℕ) (bs : Branches) (old now : List (List ℕ × List ℕ)) → now ≡ old ++ pairs_in parent bs → height_in bs ≤ length now
low_height parent bs old now e = omega (arith, ap length e, length-append old (pairs_in parent bs), length-pairs_in parent bs, low_in bs)
