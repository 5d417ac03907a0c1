use Rattle.std.proofs.Common.{arith}
use Rattle.std.specs.Int.{w128}
use Rattle.std.proofs.lemmas.Int.{to_z_pos}
use Rattle.row_core.specs.Walks.{whole}
use Rattle.row_core.proofs.Dividing.{divisor_of_none, divisor_of_some}
use Rattle.row_core.proofs.divide.divisor_of.Goals as goal

pub returns-then-divisor-eq0 : goal.returns-then-divisor-eq0
returns-then-divisor-eq0 c =
    let d = c.common_divisor-divisor in
    divisor_of_none (whole c.args.sum.now) d.result d.ensures.divides c.if-divisor-eq0.true

pub returns-else-divisor-eq0 : goal.returns-else-divisor-eq0
returns-else-divisor-eq0 c =
    let d = c.common_divisor-divisor in
    divisor_of_some (whole c.args.sum.now) d.result _ d.ensures.divides d.ensures.greatest (omega (arith, c.if-divisor-eq0.false)) (to_z_pos w128 d.result (omega (arith, d.ensures.small)))
