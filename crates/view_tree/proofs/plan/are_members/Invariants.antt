use Rattle.std.proofs.Common.{◌≡◌}
use Rattle.serde_json.specs.View.{members_view}
use Rattle.view_tree.specs.JsonTrees.{are_members}
use Rattle.view_tree.proofs.plan.are_members.Given as goal

abbrev pub invariant-loop-key : goal.invariant-loop-key
invariant-loop-key l = are_members l.is_outermost (members_view l.key-iterator) ≡ are_members l.is_outermost (members_view l.members.entries)
