use Rattle.view_tree.proofs.BranchLemmas.{numbers-views_of}
use Rattle.view_tree.proofs.laws.numbers_rise.Goals as goal

pub returns : goal.returns
returns c = numbers-views_of
