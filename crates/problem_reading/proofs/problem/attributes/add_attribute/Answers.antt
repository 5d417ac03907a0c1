use Rattle.problem_reading.proofs.Problems.StayAttributes.{attributes_more, attributes_same}
use Rattle.problem_reading.proofs.problem.attributes.add_attribute.Goals as goal

pub returns-in_ok-push-in-Some : goal.returns-in_ok-push-in-Some
returns-in_ok-push-in-Some c = λ before are.
    rw c.in_ok-push-in-Some.ensures.items (attributes_more before c.args.line.now c.args.attrs.now.items c.in-Some.stay c.in-Some.ensures.some.0 c.in-Some.ensures.some.1 are)

pub returns-in-None : goal.returns-in-None
returns-in-None c = λ before are. attributes_same before c.args.line.now c.args.attrs.now.items c.in-None.ensures.none are
