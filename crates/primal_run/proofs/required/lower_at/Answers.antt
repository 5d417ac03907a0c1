use Rattle.std.proofs.Common.{rules, SFits}
use Rattle.std.specs.Int.{w64}
use Rattle.std.proofs.lemmas.Int.{to_z-of_z}
use Rattle.primal_run.proofs.FirstLevel.{is_required}
use Rattle.primal_run.proofs.required.lower_at.Goals as goal

pub returns-then-is_below-clause-some : goal.returns-then-is_below-clause-some
returns-then-is_below-clause-some g c =
    let fits : SFits w64 c.reduced_of-reduced.result = search rules in
    let low = simp to_z-of_z at c.is_below.ensures.yes in
    is_required c.args.c.now.problem c.args.c.now.marks c.args.mark c.reduced_of-reduced.result c.requires c.reduced_of-reduced.ensures (low c.if-is_below.true)
