use Rattle.std.proofs.Common.{rules, SFits}
use Rattle.std.specs.Int.{w64}
use Rattle.std.proofs.lemmas.Int.{to_z-of_z}
use Rattle.certificates.proofs.Numbers.{times_fit, times_is}
use Rattle.certificates.proofs.times.multiplier.Goals as goal

pub returns-clause-value : goal.returns-clause-value
returns-clause-value g c = λ scale times are.
    let fits : SFits w64 c.multiplier.result = search rules in
    simp to_z-of_z (times_is c.args.c.now.problem c.args.c.now.marks c.args.level c.args.row c.multiplier.result c.show_corner.ensures.kept c.requires.row c.multiplier.ensures scale times are)

pub returns-clause-fits : goal.returns-clause-fits
returns-clause-fits g c =
    let fits : SFits w64 c.multiplier.result = search rules in
    simp to_z-of_z (times_fit c.args.c.now.problem c.args.c.now.marks c.args.level c.args.row c.multiplier.result c.show_corner.ensures.kept c.requires.row c.multiplier.ensures)
