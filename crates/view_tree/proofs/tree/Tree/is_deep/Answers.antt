use Rattle.std.proofs.Common.{◌≤◌}
use Rattle.view_tree.proofs.JsonLemmas.{is_deep, is_high, low_depth}
use Rattle.view_tree.proofs.tree.Tree.is_deep.Goals as goal

pub returns-clause-yes : goal.returns-clause-yes
returns-clause-yes c = λ e.
    let low : c.in-Some.depth ≤ 32 = low_depth c.args.self.now c.args.parent.0 c.in-Some.depth c.requires.tree c.in-Some.ensures.depth in
    (c.in-Some.depth, c.in-Some.ensures.depth, is_deep c.in-Some.depth c.args.height low e)

pub returns-clause-no : goal.returns-clause-no
returns-clause-no c = λ e.
    let low : c.in-Some.depth ≤ 32 = low_depth c.args.self.now c.args.parent.0 c.in-Some.depth c.requires.tree c.in-Some.ensures.depth in
    (c.in-Some.depth, c.in-Some.ensures.depth, is_high c.in-Some.depth c.args.height low e)

pub overflow_sub-result : goal.overflow_sub-result
overflow_sub-result c = low_depth c.args.self.now c.args.parent.0 c.in-Some.depth c.requires.tree c.in-Some.ensures.depth
