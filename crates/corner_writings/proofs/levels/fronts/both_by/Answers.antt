use Rattle.std.proofs.Common.{rules, ◌≡◌, ◌∙◌, ◌+ℤ◌, ◌*ℤ◌, ℤ, ap, SFits}
use Rattle.std.specs.Int.{w64}
use Rattle.std.proofs.lemmas.Int.{to_z-of_z}
use Rattle.problem_core.specs.declared.parts.Side.TheVariants.{Over, Under}
use Rattle.corner_lines.specs.LineEquations.{sign_of}
use Rattle.corner_table.specs.Tables.{lists_of}
use Rattle.corner_table.specs.Reads.LevelNumbers.{own_cost}
use Rattle.corner_writings.specs.Fitting.{counted}
use Rattle.corner_writings.specs.Walks.{dear_side}
use Rattle.corner_writings.proofs.LevelFacts.LowestFronts.{counted_cost}
use Rattle.corner_writings.proofs.levels.fronts.both_by.Goals as goal

pub returns-clause-under : goal.returns-clause-under
returns-clause-under c =
    let fits : SFits w64 c.own_cost-cost.result = search rules in
    let fits-2 : SFits w64 c.reduced_by.result = search rules in
    let fits-3 : SFits w64 c.args.times = search rules in
    let cost : c.own_cost-cost.result ≡ own_cost (lists_of c.args.table.now) c.args.slot (dear_side c.args.slot.rel) = c.own_cost-cost.ensures.value ∙ ap (own_cost (lists_of c.args.table.now) c.args.slot) c.dear_side.ensures in
    let sum = simp to_z-of_z at c.reduced_by.ensures in
    to_z-of_z w64 c.reduced_by.result fits-2 ∙ (sum ∙ ap (λ (z : ℤ). z +ℤ sign_of Under *ℤ c.args.times) (ap (counted c.args.slot.rel Under) cost ∙ counted_cost (lists_of c.args.table.now) c.args.slot Under))

pub returns-clause-over : goal.returns-clause-over
returns-clause-over c =
    let fits : SFits w64 c.own_cost-cost.result = search rules in
    let fits-2 : SFits w64 c.reduced_by-2.result = search rules in
    let fits-3 : SFits w64 c.args.times = search rules in
    let cost : c.own_cost-cost.result ≡ own_cost (lists_of c.args.table.now) c.args.slot (dear_side c.args.slot.rel) = c.own_cost-cost.ensures.value ∙ ap (own_cost (lists_of c.args.table.now) c.args.slot) c.dear_side.ensures in
    let sum = simp to_z-of_z at c.reduced_by-2.ensures in
    to_z-of_z w64 c.reduced_by-2.result fits-2 ∙ (sum ∙ ap (λ (z : ℤ). z +ℤ sign_of Over *ℤ c.args.times) (ap (counted c.args.slot.rel Over) cost ∙ counted_cost (lists_of c.args.table.now) c.args.slot Over))
