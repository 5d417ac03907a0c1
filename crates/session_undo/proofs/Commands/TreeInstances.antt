-- Texts of trees against which there is a cause, one for each, and a text against which there is none.
use Rattle.std.proofs.Common.{◌≡◌, ℕ, ◌*◌, ◌^◌, List, [], ◌∷◌, None, Some, codes, pos, refl, sym, subst, arith, inl, inr, lit<}
use Rattle.std.proofs.lemmas.Option.{none-some, same_Some}
use Rattle.name_tables.specs.declared.stops.LimitWord.TheVariants as word
use Rattle.serde_json.specs.Data.{Data, object, no_members, member, string}
use Rattle.serde_json.specs.Read.{read}
use Rattle.serde_json.proofs.OnLiterals.{serde_json_on_literals}
use Rattle.view_tree.specs.JsonStops.{IsFirstHeld, PassesTreeLimit}
use Rattle.view_tree.specs.JsonTrees.{branch, no_branches, names, size, IsTreeText, JsonTree}
use Rattle.view_tree.specs.Views.{view_named, window}
use Rattle.view_tree.proofs.JsonExamples.{limits_fail, shape_fails, shape_holds, syntax_holds, within_two, ascii, two_value, two_tree, two_views, json_two as json-two, text_two as text-two, one_tree as one-tree}
use Rattle.compile_parts.specs.declared.stops.KindWord.TheVariants as kind
use Rattle.session_undo.specs.Replies.{Reply, Done, Outside, Unknown, Taken, Limit, Kind}
use Rattle.script_text.specs.declared.words.Version.TheVariants as version
use Rattle.session_undo.specs.State.{State, first_state}
use Rattle.scenes.specs.Scene.{first_scene}
use Rattle.session_undo.specs.Machine.{AddsBranch, IsCrowded, Keeps, TriedTree, Unless, UnlessAny}
use Rattle.session_undo.specs.Adding.{NoEnd}
use Rattle.session_undo.proofs.Commands.TreeChains.{no-first, no-limit, tree-crowded, tree-limited, tree-misshapen, tree-outside, tree-taken, tree-unknown}

-- a new session of version 1
abbrev at-first : State
at-first = first_state version.One []

-- ---- two texts

-- a view in another
abbrev in-a : List ℕ
in-a = codes "{\"in\":\"a\",\"name\":\"p\"}"

abbrev in-value : Data
in-value = object (member (codes "in") (string (codes "a")) (member (codes "name") (string (codes "p")) no_members))

abbrev in-tree : JsonTree
in-tree = record { place = codes "a"; branch = branch (codes "p") no_branches }

read-in : read in-a ≡ Some in-value
unfolding serde_json_on_literals
read-in = refl

text-in : IsTreeText in-a in-tree
text-in = record { value = in-value; json = record { utf8 = ascii in-a refl; value = read-in }; shape = refl }

-- ---- each cause against a text

-- a bracket that is left open is no JSON
pub outside-holds : TriedTree at-first (codes "[") 5 NoEnd (Outside 5) at-first
outside-holds = tree-outside at-first (codes "[") 5 NoEnd syntax_holds

-- an object without a name is no tree
pub misshapen-holds : TriedTree at-first (codes "{}") 5 NoEnd (Kind kind.Tree) at-first
misshapen-holds = tree-misshapen at-first (codes "{}") 5 NoEnd shape_holds

-- there is no view a
pub unknown-holds : TriedTree at-first in-a 5 NoEnd (Unknown (codes "a")) at-first
unknown-holds = tree-unknown at-first in-a 5 NoEnd in-tree text-in refl

-- a metric has the name of the inner view
abbrev with-q : State
with-q = record at-first { scene = record (first_scene []) { metrics = (codes "q", record { num = pos 8; den = 1 }) ∷ [] } }

pub taken-holds : TriedTree with-q two_views 5 NoEnd (Taken (codes "q")) with-q
taken-holds =
    tree-taken with-q two_views 5 NoEnd two_tree (codes "q") text-two refl
    (record { before = codes "p" ∷ []; later = []; split = refl; free = (refl, tt); held = refl })

-- no number is left for a view
abbrev at-end : State
at-end = record at-first { scene = record (first_scene []) { tree = record (first_scene []).tree { next = 2 ^ 29 } } }

pub limit-holds : TriedTree at-end two_views 5 NoEnd (Limit word.Views) at-end
limit-holds = tree-limited at-end two_views 5 NoEnd two_tree 0 word.Views text-two refl (refl, (refl, tt)) (within_two.short, refl)

-- four rows are held, the two views have four more, and seven have room
abbrev narrow : State
narrow = record at-first { limits = record at-first.limits { rows = 7 } }

pub crowded-holds : TriedTree narrow two_views 5 NoEnd (Limit word.Rows) narrow
crowded-holds = tree-crowded narrow two_views 5 NoEnd two_tree 0 text-two refl (refl, (refl, tt)) within_two (inl (lit< tt))

-- ---- none against the two views in the window alone

free-two : (name : List ℕ) → IsFirstHeld (first_scene []).tree [] (names two_tree.branch) name → ⊥
free-two = no-first (first_scene []).tree [] (names two_tree.branch) (refl, (refl, tt))

no-adds : (reply : Reply) (new : State)
    → Unless (view_named (first_scene []).tree.views two_tree.place ≡ None) (Unknown two_tree.place) at-first (UnlessAny (IsFirstHeld (first_scene []).tree [] (names two_tree.branch)) Taken at-first (AddsBranch at-first two_tree NoEnd)) reply new → ⊥
no-adds reply new (inl (none, is, same)) = none-some window (sym none)
no-adds reply new (inr (found, inl (name, first, is, same))) = free-two name first
no-adds reply new (inr (found, inr (free, (parent, goes, inl (limit, passes, is, same))))) =
    limits_fail limit (subst (λ (n : ℕ). PassesTreeLimit (first_scene []).tree n two_tree.branch limit) (sym (same_Some 0 parent goes)) passes)
no-adds reply new (inr (found, inr (free, (parent, goes, inr (within, inl (inl many, is, same)))))) = omega (arith, many)
no-adds reply new (inr (found, inr (free, (parent, goes, inr (within, inl (inr great, is, same)))))) = omega (arith, great)
no-adds reply new (inr (found, inr (free, (parent, goes, inr (within, inr (room, never)))))) = never

pub no-cause : (reply : Reply) (new : State) → TriedTree at-first two_views 5 NoEnd reply new → ⊥
no-cause reply new (inl (none, is, same)) = none two_value json-two
no-cause reply new (inr (json, inl (bad, is, same))) = shape_fails bad
no-cause reply new (inr (json, inr (shaped, (tree, text, rest)))) =
    no-adds reply new
    (subst (λ (t : JsonTree). Unless (view_named (first_scene []).tree.views t.place ≡ None) (Unknown t.place) at-first (UnlessAny (IsFirstHeld (first_scene []).tree [] (names t.branch)) Taken at-first (AddsBranch at-first t NoEnd)) reply new) (sym (one-tree tree text)) rest)

-- so they are added
pub two-come : TriedTree at-first two_views 5 (λ draft. Keeps Done at-first) Done at-first
two-come =
    inr ((λ none. none two_value json-two), inr (shape_fails, (two_tree, text-two, inr ((λ none. none-some window (sym none)), inr (free-two, (0, refl, inr (no-limit (first_scene []).tree 0 two_tree.branch within_two, inr ((λ crowded. no-room crowded), (refl, refl)))))))))
  where
    no-room : IsCrowded at-first (2 * size two_tree.branch) → ⊥
    no-room (inl many) = omega (arith, many)
    no-room (inr great) = omega (arith, great)
