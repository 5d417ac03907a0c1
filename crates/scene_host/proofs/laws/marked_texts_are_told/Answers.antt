use Rattle.scene_host.proofs.Apart.{all_told}
use Rattle.scene_host.proofs.laws.marked_texts_are_told.Goals as goal

pub returns : goal.returns
returns c = all_told
