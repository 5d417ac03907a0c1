use Rattle.std.proofs.Common.{subst}
use Rattle.view_tree.specs.Stops.{IsNewView}
use Rattle.view_tree.proofs.JsonLemmas.{is_parent, limit_passed}
use Rattle.view_tree.proofs.tree.Tree.add_planned.Goals as goal

pub unreachable-requires-in-Err-Limit : goal.unreachable-requires-in-Err-Limit
unreachable-requires-in-Err-Limit c =
    let number = is_parent c.args.self.now c.args.view.now.parent.now c.in-Some.parent.0 c.in-Some.ensures in
    let new : IsNewView c.args.self.now c.args.view.now.name.now c.in-Some.parent.0 = subst (IsNewView c.args.self.now c.args.view.now.name.now) number c.requires.new in
    let why = rw c.in-Err-Limit.field-0-is at c.in-Err-Limit.ensures.refused in
    limit_passed c.args.self.now c.args.view.now.name.now c.in-Some.parent.0 new c.in-Err-Limit.field-0-0 why.2
