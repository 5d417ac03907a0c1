use Rattle.session_laws.proofs.Answering.Drafts.{never-spent}
use Rattle.session_laws.proofs.answered.large_budgets_are_never_spent.Goals as goal

pub returns : goal.returns
returns c = never-spent
