use Rattle.std.proofs.Common.{rules, SFits}
use Rattle.std.specs.Int.{w64}
use Rattle.std.proofs.lemmas.Int.{to_z-of_z}
use Rattle.problem_core.specs.declared.parts.Mark.{Mark}
use Rattle.problem_core.specs.declared.parts.Side.TheVariants.{Under}
use Rattle.dual_run.proofs.Turns.{number_fits, over_number}
use Rattle.dual_run.proofs.entering.number_at.Goals as goal

pub coefficient_of-requires-clause-outside : goal.coefficient_of-requires-clause-outside
coefficient_of-requires-clause-outside g c = c.requires.row Under

pub returns-clause-over : goal.returns-clause-over
returns-clause-over g c =
    let fits : SFits w64 c.coefficient_of.result = search rules in
    simp to_z-of_z (over_number c.args.c.now.problem c.args.c.now.marks c.args.leave c.args.row c.coefficient_of.result c.show_corner.ensures.kept c.requires.row c.requires.other c.coefficient_of.ensures)

pub returns-clause-fits : goal.returns-clause-fits
returns-clause-fits g c =
    let fits : SFits w64 c.coefficient_of.result = search rules in
    let under : Mark = record { row = c.args.row; side = Under } in
    simp to_z-of_z (number_fits c.args.c.now.problem c.args.c.now.marks c.args.leave under c.coefficient_of.result c.show_corner.ensures.kept c.requires.leave c.coefficient_of.ensures)
