use Rattle.std.proofs.Common.{SFits, rules, w64}
use Rattle.std.specs.Int.{w128}
use Rattle.std.proofs.lemmas.Int.{to_z-of_z}
use Rattle.path_levels.proofs.Cuts.{unit_sfits}
use Rattle.path_levels.proofs.rows.fitting_sum.Goals as goal

pub overflow_cast-result : goal.overflow_cast-result
overflow_cast-result c =
    let u : SFits w128 c.args.draft.unit = search rules in
    simp to_z-of_z (unit_sfits c.args.draft.own c.args.draft.unit c.requires.own c.requires.scale)

pub returns-clause-unit : goal.returns-clause-unit
returns-clause-unit c =
    let u : SFits w128 c.args.draft.unit = search rules in
    let w : SFits w64 c.args.draft.unit = unit_sfits c.args.draft.own c.args.draft.unit c.requires.own c.requires.scale in
    simp to_z-of_z
