use Rattle.scene_host.proofs.Apart.{others_untold}
use Rattle.scene_host.proofs.laws.other_texts_are_not_told.Goals as goal

pub returns : goal.returns
returns c = others_untold
