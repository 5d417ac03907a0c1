use Rattle.std.proofs.Common.{rules, SFits, IsTrue}
use Rattle.std.specs.Int.{w64}
use Rattle.std.proofs.lemmas.Int.{to_z-of_z}
use Rattle.path_levels.proofs.Exchanges.FitFacts.{both_sides, under_unfit}
use Rattle.path_levels.proofs.levels_after.line_fits.Goals as goal

pub returns-then-has_fitting_cost : goal.returns-then-has_fitting_cost
returns-then-has_fitting_cost c =
    let shown : SFits w64 c.shown_number-shown.result = record { sfits = c.shown_number-shown.type_inv } in
    let up : IsTrue c.has_fitting_cost.result = search rules in
    both_sides c.args.line.now c.args.inside c.args.row.place c.args.row.sum.now c.args.number c.shown_number-shown.result c.has_fitting_cost.result c.has_fitting_cost-then-has_fitting_cost.result (simp (to_z-of_z, c.ranges.number) at c.shown_number-shown.ensures.value) c.if-line-row.false
    (simp to_z-of_z at c.has_fitting_cost.ensures) (simp to_z-of_z at c.has_fitting_cost-then-has_fitting_cost.ensures) up

pub returns-else-has_fitting_cost : goal.returns-else-has_fitting_cost
returns-else-has_fitting_cost c =
    let shown : SFits w64 c.shown_number-shown.result = record { sfits = c.shown_number-shown.type_inv } in
    let down : IsTrue c.has_fitting_cost.result → ⊥ = search rules in
    under_unfit c.args.line.now c.args.inside c.args.row.place c.args.row.sum.now c.args.number c.shown_number-shown.result c.has_fitting_cost.result (simp (to_z-of_z, c.ranges.number) at c.shown_number-shown.ensures.value) c.if-line-row.false (simp to_z-of_z at c.has_fitting_cost.ensures) down
