use Rattle.session_laws.proofs.Answering.FirstFits.{first-fits}
use Rattle.session_laws.proofs.answered.first_scene_fits.Goals as goal

pub returns : goal.returns
returns c = λ corner. first-fits
