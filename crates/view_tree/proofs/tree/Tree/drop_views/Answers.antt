use Rattle.std.proofs.Common.{ℕ, subst, sym, map}
use Rattle.view_tree.specs.Drops.{AreGoing, is_among}
use Rattle.view_tree.specs.Nodes.{live_view}
use Rattle.view_tree.specs.Views.{ViewTree}
use Rattle.view_tree.proofs.DropLemmas.{AreKept-left, closed, kept_tree-left, window-stays}
use Rattle.view_tree.proofs.tree.Tree.drop_views.Goals as goal

pub invariant_of-self : goal.invariant_of-self
invariant_of-self c =
    let root : ℕ = c.requires.0 in
    let are : AreGoing (map live_view c.self.inside.table) root c.args.gone.now = subst (λ (t : ViewTree). AreGoing t.views root c.args.gone.now) (sym c.self.view_is) c.requires.2 in
    rw c.drop_nodes.ensures
    (AreKept-left (is_among c.args.gone.now) c.self.inside.table c.self.inside.next c.self.inside.most c.self.invariant
    (window-stays (map live_view c.self.inside.table) root c.args.gone.now are c.requires.1 c.self.invariant.tree.root)
    (closed (map live_view c.self.inside.table) root c.args.gone.now are))

pub returns : goal.returns
returns c = rw (← c.self.view_is, c.drop_nodes.ensures) (kept_tree-left (is_among c.args.gone.now) c.self.inside.table c.self.inside.next c.self.inside.most)
