use Rattle.session_undo.specs.Adding.{NoEnd}
use Rattle.session_undo.proofs.Commands.TreeChains.{limited-tree, taken-tree, tree-misshapen, tree-outside, unknown-tree}
use Rattle.session_undo.proofs.reply.tree_refusal.Goals as goal

pub returns-in-Syntax : goal.returns-in-Syntax
returns-in-Syntax c = λ old text stays. tree-outside old text c.args.start NoEnd (rw c.in-Syntax.is at stays)

pub returns-in-Shape : goal.returns-in-Shape
returns-in-Shape c = λ old text stays. tree-misshapen old text c.args.start NoEnd (rw c.in-Shape.is at stays)

pub returns-in-Unknown : goal.returns-in-Unknown
returns-in-Unknown c = λ old text stays. unknown-tree old text c.args.start NoEnd c.in-Unknown.name (rw c.in-Unknown.is at stays)

pub returns-in-Taken : goal.returns-in-Taken
returns-in-Taken c = λ old text stays. taken-tree old text c.args.start NoEnd c.in-Taken.name (rw c.in-Taken.is at stays)

pub returns-in-Limit : goal.returns-in-Limit
returns-in-Limit c = λ old text stays. limited-tree old text c.args.start NoEnd c.in-Limit.word (rw c.in-Limit.is at stays)
