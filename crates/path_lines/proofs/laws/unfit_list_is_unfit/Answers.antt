use Rattle.path_lines.proofs.Arithmetic.Unfits.{unfit_list_is_unfit}
use Rattle.path_lines.proofs.laws.unfit_list_is_unfit.Goals as goal

pub returns : goal.returns
returns c = unfit_list_is_unfit
