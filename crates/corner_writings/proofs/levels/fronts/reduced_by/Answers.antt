use Rattle.std.proofs.Common.{rules, ◌∙◌, ◌+ℤ◌, ap₂, SFits}
use Rattle.std.specs.Int.{w64}
use Rattle.std.proofs.lemmas.Int.{to_z-of_z}
use Rattle.corner_writings.proofs.LevelFacts.LevelReadFacts.{added, added_fits}
use Rattle.corner_writings.proofs.levels.fronts.reduced_by.Goals as goal

pub overflow_add-result : goal.overflow_add-result
overflow_add-result c =
    let fits : SFits w64 c.part.result = search rules in
    let fits-2 : SFits w64 c.signed.result = search rules in
    added_fits c.part.result c.signed.result fits fits-2 c.part.ensures.small c.signed.ensures.small

pub returns : goal.returns
returns c =
    let fits : SFits w64 c.part.result = search rules in
    let fits-2 : SFits w64 c.signed.result = search rules in
    let fits-3 : SFits w64 c.args.cost = search rules in
    let fits-4 : SFits w64 c.args.times = search rules in
    let counts = simp to_z-of_z at c.part.ensures.value in
    let turns = simp to_z-of_z at c.signed.ensures.value in
    added c.part.result c.signed.result fits fits-2 c.part.ensures.small c.signed.ensures.small ∙ ap₂ ◌+ℤ◌ counts turns
