use Rattle.std.proofs.lemmas.Result.{IfOk-weaker}
use Rattle.problem_reading.proofs.Problems.StayAttributes.{attributes_sorted}
use Rattle.problem_reading.proofs.problem.attributes.stay_attributes.Goals as goal

pub returns : goal.returns
returns c = IfOk-weaker c.of.result _ _ (λ a same. attributes_sorted _ _ a c.in_ok-attributes_in_order.ensures same) c.of.ensures
