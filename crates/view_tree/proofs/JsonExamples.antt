-- Where each stop of a tree of views may come, and where it may not.
use Rattle.std.proofs.Common.{◌≡◌, ◌&&◌, ℕ, zero, suc, ◌+◌, ◌<◌, ◌≤◌, Bool, true, false, List, [], ◌∷◌, ◌++◌, None, Some, codes, length, nat_lt, pos, refl, sym, ap, subst, ◌∙◌, true≢false, append-nil, append_assoc, arith, lit<, lit≤, unwrap_or}
use Rattle.std.specs.Prelude.{IsUtf8}
use Rattle.std.proofs.lemmas.Bool.Decides.{nat_tests}
use Rattle.std.proofs.lemmas.List.Elements.{All-from_recursion}
use Rattle.std.proofs.lemmas.Option.{none-some}
use Rattle.std.proofs.lemmas.Str.{IsUtf8-from_ascii}
use Rattle.std.proofs.lemmas.Str.Ascii.{IsAscii-from_all}
use Rattle.std.specs.List.{AllByRecursion, list_all}
use Rattle.frac_core.specs.Fraction.{Fraction}
use Rattle.name_tables.specs.declared.stops.LimitWord.{LimitWord}
use Rattle.name_tables.specs.declared.stops.LimitWord.TheVariants as word
use Rattle.serde_json.specs.Data.{Data, object, no_members, member, string, array, no_items, item, number, unsigned}
use Rattle.serde_json.specs.Read.{read}
use Rattle.serde_json.proofs.OnLiterals.{serde_json_on_literals}
use Rattle.view_tree.specs.JsonStops.{AreFree, IsFirstHeld, IsWithin, MayStayOut, PassesTreeLimit, has_room, is_held}
use Rattle.view_tree.specs.JsonTrees.{Branch, branch, no_branches, more, height, names, IsJson, IsTreeText, JsonTree, tree_of, with_branch}
use Rattle.view_tree.specs.Views.{IsAtDepth, ViewTree, first_tree, view_named, window}
use Rattle.view_tree.specs.declared.stops.TreeStop.TheVariants.{Syntax, Shape, Unknown, Taken}
use Rattle.view_tree.proofs.ViewLemmas.{IsAtDepth-unique}

-- the window alone, and one metric
abbrev bare : ViewTree
bare = first_tree 200

abbrev gap : List (List ℕ × Fraction)
gap = (codes "gap", record { num = pos 8; den = 1 }) ∷ []

pub small : (bs : List ℕ) → list_all (λ b. nat_lt b 128) bs ≡ true → AllByRecursion (λ b. b < 128) bs
small [] h = tt
small (b ∷ bs) h = by (nat_lt b 128) refl h (small bs)
  where
    by : (c : Bool) → nat_lt b 128 ≡ c → (c && list_all (λ x. nat_lt x 128) bs) ≡ true → (list_all (λ x. nat_lt x 128) bs ≡ true → AllByRecursion (λ x. x < 128) bs) → AllByRecursion (λ x. x < 128) (b ∷ bs)
    by true e h rest = (grind (arith, nat_tests, e), rest h)
    by false e h rest = absurd (true≢false (sym h))

pub ascii : (bs : List ℕ) → list_all (λ b. nat_lt b 128) bs ≡ true → IsUtf8 bs
ascii bs h = IsUtf8-from_ascii bs (IsAscii-from_all bs (All-from_recursion (λ b. b < 128) bs (small bs h)))

-- the one value of a text
one_value : (text : List ℕ) (v d : Data) → read text ≡ Some v → IsJson text d → v ≡ d
one_value text v d e json = ap (λ o. unwrap_or o v) (sym e ∙ json.value)

-- ---- two texts

abbrev open_array : List ℕ
open_array = codes "["

abbrev empty_object : List ℕ
empty_object = codes "{}"

abbrev pub two_views : List ℕ
two_views = codes "{\"name\":\"p\",\"children\":[{\"name\":\"q\"}]}"

-- its value and its tree
abbrev pub two_value : Data
two_value = object (member (codes "children") (array (item (object (member (codes "name") (string (codes "q")) no_members)) no_items)) (member (codes "name") (string (codes "p")) no_members))

abbrev pub two_tree : JsonTree
two_tree = record { place = codes "window"; branch = branch (codes "p") (more (branch (codes "q") no_branches) no_branches) }

read_open : read open_array ≡ None
unfolding serde_json_on_literals
read_open = refl

read_empty : read empty_object ≡ Some (object no_members)
unfolding serde_json_on_literals
read_empty = refl

pub read_two : read two_views ≡ Some two_value
unfolding serde_json_on_literals
read_two = refl

json_empty : IsJson empty_object (object no_members)
json_empty = record { utf8 = ascii empty_object refl; value = read_empty }

pub json_two : IsJson two_views two_value
json_two = record { utf8 = ascii two_views refl; value = read_two }

pub text_two : IsTreeText two_views two_tree
text_two = record { value = two_value; json = json_two; shape = refl }

-- both views go in, numbered 1 and 2, the second below the first
pub both_views : with_branch bare 0 two_tree.branch
    ≡ record { views = window ∷ record { id = 1; name = codes "p"; parent = Some 0 } ∷ record { id = 2; name = codes "q"; parent = Some 1 } ∷ []; next = 3; most = 200 }
both_views = refl

-- the tree of a text is one
pub one_tree : (tree : JsonTree) → IsTreeText two_views tree → two_tree ≡ tree
one_tree tree text = ap (λ o. unwrap_or o two_tree) (ap tree_of (one_value two_views two_value text.value read_two text.json) ∙ text.shape)

-- ---- what is no JSON

pub syntax_holds : MayStayOut bare gap open_array Syntax
syntax_holds d json = none-some d (sym read_open ∙ json.value)

pub syntax_fails : MayStayOut bare gap empty_object Syntax → ⊥
syntax_fails h = h (object no_members) json_empty

-- ---- another shape

pub shape_holds : MayStayOut bare gap empty_object Shape
shape_holds = (object no_members, json_empty, refl)

pub shape_fails : MayStayOut bare gap two_views Shape → ⊥
shape_fails h = none-some two_tree (sym h.2 ∙ ap tree_of (sym (one_value two_views two_value h.0 read_two h.1)))

-- a number under name, no name, a member that isn't known, children that are no array, and in at an inner object
pub other_shapes : (tree_of (object (member (codes "name") (number (unsigned 1)) no_members)) ≡ None)
    × (tree_of (object (member (codes "name") (string (codes "1x")) no_members)) ≡ None)
    × (tree_of (object (member (codes "name") (string (codes "p")) (member (codes "x") (number (unsigned 1)) no_members))) ≡ None)
    × (tree_of (object (member (codes "children") (object no_members) (member (codes "name") (string (codes "p")) no_members))) ≡ None)
    × (tree_of (object (member (codes "children") (array (item (object (member (codes "in") (string (codes "p")) (member (codes "name") (string (codes "q")) no_members))) no_items)) (member (codes "name") (string (codes "p")) no_members))) ≡ None)
other_shapes = (refl, refl, refl, refl, refl)

-- and in at the outermost object is the place
pub outer_place : tree_of (object (member (codes "in") (string (codes "a")) (member (codes "name") (string (codes "p")) no_members)))
    ≡ Some (record { place = codes "a"; branch = branch (codes "p") no_branches })
outer_place = refl

-- ---- a place that isn't there

-- no view at all, and so no window
abbrev nothing : ViewTree
nothing = record { views = []; next = 0; most = 200 }

pub unknown_holds : MayStayOut nothing gap two_views (Unknown (codes "window"))
unknown_holds = (two_tree, text_two, refl, refl)

pub unknown_fails : MayStayOut bare gap two_views (Unknown (codes "window")) → ⊥
unknown_fails h = none-some window (sym h.2 ∙ ap (λ (tree : JsonTree). view_named bare.views tree.place) (sym (one_tree h.0 h.1)))

-- ---- names that are taken

-- by a metric, by a live view, by an earlier view of the tree
pub metric_holds : IsFirstHeld bare gap (codes "p" ∷ codes "gap" ∷ []) (codes "gap")
metric_holds = record { before = codes "p" ∷ []; later = []; split = refl; free = (refl, tt); held = refl }

pub view_holds : IsFirstHeld bare gap (codes "p" ∷ codes "window" ∷ codes "gap" ∷ []) (codes "window")
view_holds = record { before = codes "p" ∷ []; later = codes "gap" ∷ []; split = refl; free = (refl, tt); held = refl }

pub twice_holds : IsFirstHeld bare gap (codes "p" ∷ codes "q" ∷ codes "p" ∷ []) (codes "p")
twice_holds = record { before = codes "p" ∷ codes "q" ∷ []; later = []; split = refl; free = (refl, (refl, tt)); held = refl }

pub free_names : AreFree bare gap [] (codes "p" ∷ codes "q" ∷ [])
free_names = (refl, (refl, tt))

-- where the names are free, none of them is held
module _ (t : ViewTree) (metrics : List (List ℕ × Fraction)) where
  none_held : (before early : List (List ℕ)) (name : List ℕ) (later : List (List ℕ)) → AreFree t metrics before (early ++ name ∷ later) → is_held t metrics (before ++ early) name ≡ false
  none_held before [] name later h = subst (λ ns. is_held t metrics ns name ≡ false) (sym (append-nil before)) h.0
  none_held before (x ∷ early) name later h =
      subst (λ ns. is_held t metrics ns name ≡ false) (append_assoc before (x ∷ []) early) (none_held (before ++ x ∷ []) early name later h.1)

  pub free_is_not_held : (all : List (List ℕ)) (name : List ℕ) → AreFree t metrics [] all → IsFirstHeld t metrics all name → ⊥
  free_is_not_held all name free first =
      true≢false (sym first.held ∙ none_held [] first.before name first.later (subst (AreFree t metrics []) first.split free))

pub taken_fails : (name : List ℕ) → MayStayOut bare gap two_views (Taken name) → ⊥
taken_fails name h =
    let same : two_tree ≡ h.0 = one_tree h.0 h.1 in
    free_is_not_held bare gap (codes "p" ∷ codes "q" ∷ []) name free_names
    (subst (λ (tree : JsonTree). IsFirstHeld bare gap (names tree.branch) name) (sym same) h.3)

-- ---- limits

-- the window's depth
on_first : IsAtDepth bare.views 0 1
on_first = record { above = []; chain = refl; count = refl }

-- a chain of so many views
abbrev chain : ℕ → Branch
chain zero = branch (codes "p") no_branches
chain (suc n) = branch (codes "p") (more (chain n) no_branches)

pub depth_holds : IsAtDepth bare.views 0 1 × (32 < 1 + height (chain 31))
depth_holds = (on_first, lit< tt)

-- the two views of the text pass no limit
pub within_two : IsWithin bare 0 two_tree.branch
within_two = record {
  short = All-from_recursion (λ (name : List ℕ). length name ≤ 64) (codes "p" ∷ codes "q" ∷ []) (lit≤ tt, (lit≤ tt, tt));
  room = refl;
  high = (1, on_first, lit≤ tt);
}

pub limits_fail : (limit : LimitWord) → PassesTreeLimit bare 0 two_tree.branch limit → ⊥
limits_fail word.Name h = h within_two.short
limits_fail word.Views h = true≢false h.1
limits_fail word.Depth h =
    let same : h.2.0 ≡ 1 = IsAtDepth-unique bare.views 0 h.2.0 1 h.2.1 on_first in
    omega (arith, same, h.2.2)
limits_fail _ h = h

-- 199 views more have room, 200 have none
pub room_for_199 : (has_room bare 199 ≡ true) × (has_room bare 200 ≡ false)
room_for_199 = (refl, refl)
