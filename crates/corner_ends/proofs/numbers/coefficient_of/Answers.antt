use Rattle.std.proofs.Common.{rules, SFits}
use Rattle.std.specs.Int.{w64}
use Rattle.std.proofs.lemmas.Int.{to_z-of_z}
use Rattle.corner_ends.proofs.ReadNumbers.{coefficient_is}
use Rattle.corner_ends.proofs.numbers.coefficient_of.Goals as goal

pub returns : goal.returns
returns g c = λ w h.
    let fits : SFits w64 c.coefficient.result = search rules in
    simp to_z-of_z (coefficient_is c.args.c.now.problem c.args.c.now.marks c.args.m c.args.enter c.coefficient.result w c.show_corner.ensures.kept c.coefficient.ensures h)
