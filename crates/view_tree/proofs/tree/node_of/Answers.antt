use Rattle.std.proofs.Common.{◌==◌, ◌∙◌, sym}
use Rattle.view_tree.specs.declared.tree.Node.{Node}
use Rattle.view_tree.proofs.NodeLemmas.{find-nowhere, find-position}
use Rattle.view_tree.proofs.tree.node_of.Goals as goal

pub returns : goal.returns
returns c = sym (find-position (λ (n : Node). n.id.0 == c.args.id) c.args.nodes.now c.in_ok-place.place _ (sym c.in_ok-place.ensures))

pub returns-in_err-place : goal.returns-in_err-place
returns-in_err-place c = c.from_residual.ensures ∙ sym (find-nowhere (λ (n : Node). n.id.0 == c.args.id) c.args.nodes.now (sym c.in_err-place.ensures))
