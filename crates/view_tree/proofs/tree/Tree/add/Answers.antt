use Rattle.std.proofs.Common.{refl, subst, sym, map}
use Rattle.view_tree.specs.Nodes.{live_view, kept_tree}
use Rattle.view_tree.specs.Stops.{IsNewView}
use Rattle.view_tree.specs.Views.{IsAtDepth, ViewTree}
use Rattle.view_tree.proofs.NodeLemmas.{AreKept-push, unnamed}
use Rattle.view_tree.proofs.tree.Tree.add.Goals as goal

pub add-requires : goal.add-requires
add-requires c =
    let new : IsNewView (kept_tree c.self.inside.table c.self.inside.next c.self.inside.most) c.args.name.now c.args.parent.0 =
    subst (λ t. IsNewView t c.args.name.now c.args.parent.0) (sym c.self.view_is) c.in_ok-depth.ensures.new in
    unnamed c.args.name.now c.self.inside.table new.free

pub invariant_of-self-2 : goal.invariant_of-self-2
invariant_of-self-2 c =
    let new : IsNewView (kept_tree c.self.inside.table c.self.inside.next c.self.inside.most) c.args.name.now c.args.parent.0 =
    subst (λ t. IsNewView t c.args.name.now c.args.parent.0) (sym c.self.view_is) c.in_ok-depth.ensures.new in
    let above = c.in_ok-depth.ensures.depth in
    let on : IsAtDepth (map live_view c.self.inside.table) c.args.parent.0 above.0 =
    subst (λ (t : ViewTree). IsAtDepth t.views c.args.parent.0 above.0) (sym c.self.view_is) above.1 in
    rw c.in_ok-add.ensures.added
    (AreKept-push c.self.inside.table c.self.inside.next c.self.inside.most c.args.name.now _ c.args.parent.0 refl refl above.0 c.self.invariant new on above.2)
