use Rattle.std.proofs.Common.{◌∙◌, ap, refl}
use Rattle.std.specs.Option.{option_map}
use Rattle.view_tree.specs.Views.{LiveView}
use Rattle.view_tree.specs.declared.tree.Node.{Node}
use Rattle.view_tree.proofs.NodeLemmas.{lookup-live_view}
use Rattle.view_tree.proofs.tree.Tree.find.Goals as goal

pub returns-in_err-node : goal.returns-in_err-node
returns-in_err-node c =
    rw (c.from_residual.ensures, ← c.self.view_is)
    (ap (option_map (λ (n : Node). n.id.0)) c.in_err-node.ensures
    ∙ lookup-live_view (λ (n : Node). n.id.0) (λ (v : LiveView). v.id) (λ e. refl) c.args.name.now c.self.inside.table)

pub returns : goal.returns
returns c =
    rw (← c.self.view_is)
    (ap (option_map (λ (n : Node). n.id.0)) c.in_ok-node.ensures
    ∙ lookup-live_view (λ (n : Node). n.id.0) (λ (v : LiveView). v.id) (λ e. refl) c.args.name.now c.self.inside.table)
