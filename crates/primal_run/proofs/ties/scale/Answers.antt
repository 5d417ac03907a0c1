use Rattle.std.proofs.Common.{rules, SFits}
use Rattle.std.specs.Int.{w64}
use Rattle.std.proofs.lemmas.Int.{to_z-of_z}
use Rattle.corner_ends.proofs.ReadNumbers.{scale_is}
use Rattle.primal_run.proofs.ties.scale.Goals as goal

pub returns-clause-of : goal.returns-clause-of
returns-clause-of g c = λ w h.
    let fits : SFits w64 c.denominator.result = search rules in
    simp to_z-of_z (scale_is c.args.c.now.problem c.args.c.now.marks c.args.m c.denominator.result w c.show_corner.ensures.kept c.denominator.ensures h)
