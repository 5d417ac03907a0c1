use Rattle.std.proofs.Common.{rules, SFits, ◌∙◌}
use Rattle.std.specs.Int.{w64}
use Rattle.std.proofs.lemmas.Int.{to_z-of_z}
use Rattle.problem_core.specs.declared.parts.Side.TheVariants.{Under, Over}
use Rattle.dual_run.proofs.Turns.{grown_choice}
use Rattle.dual_run.proofs.entering.grower.Goals as goal

pub returns-then-is_above-clause-some : goal.returns-then-is_above-clause-some
returns-then-is_above-clause-some g c =
    let fits : SFits w64 c.number_at-under.result = search rules in
    let up = simp to_z-of_z at c.is_above.ensures.yes in
    simp to_z-of_z (grown_choice c.args.c.now.problem c.args.c.now.marks c.args.leave c.args.row Under c.number_at-under.result c.requires.row c.number_at-under.ensures.under (up c.if-is_above.true))

pub returns-then-is_above-2-clause-some : goal.returns-then-is_above-2-clause-some
returns-then-is_above-2-clause-some g c =
    let under : SFits w64 c.number_at-under.result = search rules in
    let fits : SFits w64 c.opposite-over.result = search rules in
    let up = simp to_z-of_z at c.is_above-2.ensures.yes in
    let over = simp to_z-of_z at c.opposite-over.ensures.value in
    simp to_z-of_z (grown_choice c.args.c.now.problem c.args.c.now.marks c.args.leave c.args.row Over c.opposite-over.result c.requires.row
    (λ w writes. over ∙ c.number_at-under.ensures.over w writes) (up c.if-is_above-2.true))
