use Rattle.std.proofs.Common.{◌∙◌, ap, refl, is_some}
use Rattle.view_tree.specs.Views.{LiveView}
use Rattle.view_tree.specs.declared.tree.Node.{Node}
use Rattle.view_tree.proofs.NodeLemmas.{is_some-same, lookup-live_view}
use Rattle.view_tree.proofs.tree.Tree.has_name.Goals as goal

pub returns : goal.returns
returns c =
    rw (← c.self.view_is)
    (let k = lookup-live_view (λ (n : Node). n.id.0) (λ (v : LiveView). v.id) (λ e. refl) c.args.name.now c.self.inside.table in
    c.is_some.ensures ∙ ap is_some c.get.ensures ∙ is_some-same (λ (n : Node). n.id.0) (λ (v : LiveView). v.id) _ _ k)
