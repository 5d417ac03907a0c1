use Rattle.format_compile.proofs.Parents.{parent_found}
use Rattle.format_compile.proofs.lines.parent_at.Goals as goal

pub returns-clause-some : goal.returns-clause-some
returns-clause-some c = (parent_found c.args.tree.now c.len-count.ensures.tree c.args.name.now c.parent_of.result c.parent_of.ensures.id).0

pub returns-clause-within : goal.returns-clause-within
returns-clause-within c = (parent_found c.args.tree.now c.len-count.ensures.tree c.args.name.now c.parent_of.result c.parent_of.ensures.id).1

pub returns-clause-none : goal.returns-clause-none
returns-clause-none c = (parent_found c.args.tree.now c.len-count.ensures.tree c.args.name.now c.parent_of.result c.parent_of.ensures.id).2
