use Rattle.std.proofs.Common.{rules, SFits}
use Rattle.std.specs.Int.{w64}
use Rattle.std.proofs.lemmas.Int.{to_z-of_z}
use Rattle.certificates.proofs.Numbers.{scale_above, scale_fits, scale_is}
use Rattle.certificates.proofs.times.scale.Goals as goal

pub returns-clause-value : goal.returns-clause-value
returns-clause-value g c = λ scale times are.
    let fits : SFits w64 c.scale.result = search rules in
    simp to_z-of_z (scale_is c.args.c.now.problem c.args.c.now.marks c.args.level c.scale.result c.show_corner.ensures.kept c.scale.ensures scale times are)

pub returns-clause-above : goal.returns-clause-above
returns-clause-above g c =
    let fits : SFits w64 c.scale.result = search rules in
    simp to_z-of_z (scale_above c.args.c.now.problem c.args.c.now.marks c.args.level c.scale.result c.scale.ensures)

pub returns-clause-fits : goal.returns-clause-fits
returns-clause-fits g c =
    let fits : SFits w64 c.scale.result = search rules in
    simp to_z-of_z (scale_fits c.args.c.now.problem c.args.c.now.marks c.args.level c.scale.result c.show_corner.ensures.kept c.scale.ensures)
