use Rattle.sweep_param.proofs.Answering.{sweeps_are_answered}
use Rattle.sweep_param.proofs.laws.sweeps_are_answered.Goals as goal

pub returns : goal.returns
returns c = sweeps_are_answered
