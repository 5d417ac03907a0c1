use Rattle.std.proofs.Common.{refl}
use Rattle.std.specs.Option.{option_map}
use Rattle.view_tree.specs.Views.{LiveView}
use Rattle.view_tree.specs.declared.tree.Node.{Node}
use Rattle.view_tree.specs.declared.view.ViewId.{ViewId}
use Rattle.view_tree.proofs.NodeLemmas.{IsAtDepth-find, find-live_view, found, missing}
use Rattle.view_tree.proofs.tree.Tree.node.Goals as goal

pub returns-clause-live : goal.returns-clause-live
returns-clause-live c =
    rw (c.node_of.ensures, c.values.ensures, ← c.self.view_is)
    (found (λ (n : Node). option_map (λ (p : ViewId). p.0) n.parent) (λ (v : LiveView). v.parent) _ _
    (find-live_view (λ (n : Node). option_map (λ (p : ViewId). p.0) n.parent) (λ (v : LiveView). v.parent) (λ e. refl) c.args.id.0 c.self.inside.table))

pub returns-clause-depth : goal.returns-clause-depth
returns-clause-depth c = rw (c.node_of.ensures, c.values.ensures, ← c.self.view_is) (IsAtDepth-find _ c.args.id.0 c.self.inside.table c.self.invariant.depths)

pub returns-clause-dead : goal.returns-clause-dead
returns-clause-dead c =
    rw (c.node_of.ensures, c.values.ensures, ← c.self.view_is)
    (missing (λ (n : Node). n.id.0) (λ (v : LiveView). v.id) _ _
    (find-live_view (λ (n : Node). n.id.0) (λ (v : LiveView). v.id) (λ e. refl) c.args.id.0 c.self.inside.table))
