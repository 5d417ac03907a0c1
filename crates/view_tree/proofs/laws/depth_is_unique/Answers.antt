use Rattle.view_tree.proofs.ViewLemmas.{IsAtDepth-unique}
use Rattle.view_tree.proofs.laws.depth_is_unique.Goals as goal

pub returns : goal.returns
returns c = IsAtDepth-unique
