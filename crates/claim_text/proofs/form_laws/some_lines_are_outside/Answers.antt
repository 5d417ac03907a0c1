use Rattle.claim_text.proofs.FormExamples.{some-are-outside}
use Rattle.claim_text.proofs.Paths.PathExamples.{some-paths-are-inside, some-paths-are-outside}
use Rattle.claim_text.proofs.form_laws.some_lines_are_outside.Goals as goal

pub returns-clause-some : goal.returns-clause-some
returns-clause-some c = some-are-outside

pub returns-clause-inside : goal.returns-clause-inside
returns-clause-inside c = some-paths-are-inside

pub returns-clause-outside : goal.returns-clause-outside
returns-clause-outside c = some-paths-are-outside
