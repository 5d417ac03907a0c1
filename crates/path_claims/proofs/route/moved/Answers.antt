use Rattle.path_lines.proofs.MarkSides.Walks.{moved_length}
use Rattle.path_claims.proofs.route.moved.Goals as goal

pub returns-clause-count : goal.returns-clause-count
returns-clause-count c = moved_length c.args.step c.args.sides.now
