use Rattle.std.proofs.Common.{rules, sym, subst, SFits}
use Rattle.std.specs.Int.{w64, w128}
use Rattle.std.proofs.lemmas.Int.{to_z-of_z}
use Rattle.path_lines.proofs.Exchanges.Leading.{ok_then}
use Rattle.path_levels.specs.Exchanges.Carried.{AreSharing}
use Rattle.path_levels.specs.Outlines.{IsPriced}
use Rattle.path_levels.proofs.Exchanges.MultipleFacts.{multiple_there}
use Rattle.path_levels.proofs.carried.next_level_numbers.Goals as goal

pub leaving_number-leaving-requires-clause-line : goal.leaving_number-leaving-requires-clause-line
leaving_number-leaving-requires-clause-line c =
    subst IsPriced (sym c.index-leaves.ensures)
    (c.requires.outline c.args.pivot.now.step.leave.at c.index-leaves.result.now c.requires.pivot.leave_at).priced

pub returns-clause-next : goal.returns-clause-next
returns-clause-next c =
    let size : SFits w64 c.args.pivot.now.size = search rules in
    let n : SFits w64 c.entering_number-n.result = record { sfits = c.entering_number-n.type_inv } in
    let row : SFits w64 c.factors_of-factors.result.row = search rules in
    let pivot : SFits w64 c.factors_of-factors.result.pivot = search rules in
    let leaving : SFits w128 c.leaving_number-leaving.result = record { sfits = c.leaving_number-leaving.type_inv } in
    let sharing : AreSharing c.args.pivot.now.size c.entering_number-n.result c.factors_of-factors.result = simp to_z-of_z at c.factors_of-factors.ensures in
    ok_then c.put_together.result
    (λ wide carried p at outline_is turn is.
    multiple_there p at c.args.outline.now c.args.row.place c.args.row.sum.now c.args.pivot.now c.factors_of-factors.result c.entering_number-n.result c.leaving_number-leaving.result wide c.index.result.now c.index-leaves.result.now c.requires.place
    c.index.ensures c.index-leaves.ensures c.entering_number-n.ensures.value sharing c.leaving_number-leaving.ensures.value carried outline_is turn is)
    (simp to_z-of_z at c.put_together.ensures.carried)
