use Rattle.std.proofs.Common.{◌∙◌, sym, subst}
use Rattle.view_tree.specs.Nodes.{kept_tree}
use Rattle.view_tree.specs.Plans.{IsGrownBy}
use Rattle.view_tree.proofs.NodeLemmas.{AreKept-cut, kept_tree-cut}
use Rattle.view_tree.proofs.tree.Tree.take_back_views.Goals as goal

pub invariant_of-self : goal.invariant_of-self
invariant_of-self c =
    let were : IsGrownBy (kept_tree c.self.inside.table c.self.inside.next c.self.inside.most) c.args.count = subst (λ t. IsGrownBy t c.args.count) (sym c.self.view_is) c.requires in
    rw (c.truncate.ensures, c.len.ensures.len) (AreKept-cut c.self.inside.table c.self.inside.next c.self.inside.most were.before were.views c.args.count were.is were.counted were.whole c.self.invariant)

pub returns : goal.returns
returns c before views counted is =
    rw (c.truncate.ensures, c.len.ensures.len) (kept_tree-cut c.self.inside.table c.self.inside.next c.self.inside.most before views c.args.count (c.self.view_is ∙ is) counted)
