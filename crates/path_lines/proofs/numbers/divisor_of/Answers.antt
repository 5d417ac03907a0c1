use Rattle.std.proofs.Common.{arith}
use Rattle.std.specs.Int.{w128}
use Rattle.std.proofs.lemmas.Int.{to_z-of_z, to_z_pos}
use Rattle.path_lines.proofs.Arithmetic.LowestTerms.{common_is}
use Rattle.path_lines.proofs.numbers.divisor_of.Goals as goal

pub returns : goal.returns
returns c =
    let d = c.common_divisor in
    let own = to_z-of_z w128 c.args.own c.ranges.own in
    common_is c.args.own c.args.by.now d.result _ (to_z_pos w128 d.result (omega (arith, d.ensures.small))) d.ensures.above (rw own at d.ensures.divides) (rw own at d.ensures.greatest)
