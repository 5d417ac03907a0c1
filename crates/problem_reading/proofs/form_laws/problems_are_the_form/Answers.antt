use Rattle.problem_reading.proofs.Problems.ProblemForms.{problems-are-the-form}
use Rattle.problem_reading.proofs.form_laws.problems_are_the_form.Goals as goal

pub returns : goal.returns
returns c = problems-are-the-form
