use Rattle.session_laws.proofs.Posing.Questions.{core-not-accepted, solvable-not-refused}
use Rattle.session_laws.proofs.posed.questions_foretell.Goals as goal

pub returns-clause-solvable : goal.returns-clause-solvable
returns-clause-solvable c = solvable-not-refused

pub returns-clause-core : goal.returns-clause-core
returns-clause-core c = core-not-accepted
