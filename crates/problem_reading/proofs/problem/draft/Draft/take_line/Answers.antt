use Rattle.problem_reading.specs.Problems.{Says}
use Rattle.problem_reading.proofs.Problems.Refused.{may_not}
use Rattle.problem_reading.proofs.problem.draft.Draft.take_line.Goals as goal

pub returns-then-not-may_follow-clause-refused : goal.returns-then-not-may_follow-clause-refused
returns-then-not-may_follow-clause-refused c = λ _ new step.
    let says : Says c.args.line.now c.in-Some.item = rw c.in-Some.is at c.in_ok-item.ensures.some in
    may_not _ c.args.self.now c.args.line.now c.in-Some.item c.may_follow.result says c.may_follow.ensures c.if-not-may_follow.true new step
