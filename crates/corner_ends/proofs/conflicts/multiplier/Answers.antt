use Rattle.std.proofs.Common.{rules, SFits}
use Rattle.std.specs.Int.{w64}
use Rattle.std.proofs.lemmas.Int.{to_z-of_z}
use Rattle.problem_core.specs.declared.parts.RowName.TheVariants.{Held}
use Rattle.corner_ends.proofs.RequiredTimes.{row_named, times_are, times_at_first, times_fit}
use Rattle.corner_ends.proofs.conflicts.multiplier.Goals as goal

pub multiplier-requires-clause-row : goal.multiplier-requires-clause-row
multiplier-requires-clause-row g c = row_named c.args.c.now.problem c.args.row.now.id c.id.result c.requires c.id.ensures

pub returns-clause-value : goal.returns-clause-value
returns-clause-value g c = λ y are.
    let fits : SFits w64 c.multiplier.result = search rules in
    simp to_z-of_z
    (times_are c.args.c.now.problem c.args.c.now.marks c.args.row.now.id c.id.result c.multiplier.result y c.show_corner.ensures.kept c.requires c.id.ensures
    (times_at_first c.args.c.now.problem c.args.c.now.marks c.required_level.result (Held c.id.result) c.multiplier.result c.required_level.ensures c.multiplier.ensures) are)

pub returns-clause-fits : goal.returns-clause-fits
returns-clause-fits g c =
    let fits : SFits w64 c.multiplier.result = search rules in
    simp to_z-of_z
    (times_fit c.args.c.now.problem c.args.c.now.marks c.args.row.now.id c.id.result c.multiplier.result c.show_corner.ensures.kept c.requires c.id.ensures
    (times_at_first c.args.c.now.problem c.args.c.now.marks c.required_level.result (Held c.id.result) c.multiplier.result c.required_level.ensures c.multiplier.ensures))
