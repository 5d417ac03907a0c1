use Rattle.std.proofs.Common.{SFits, w64, ◌<◌, inr, sym, subst, arith, length}
use Rattle.std.proofs.lemmas.Int.{to_z-of_z}
use Rattle.frac_core.specs.Fraction.{Fraction, IsRatio, IsUnfitRatio, sum_den, sum_num}
use Rattle.problem_core.specs.Levels.{IsCostAt}
use Rattle.corner_table.specs.declared.table.Slot.{Slot}
use Rattle.corner_table.specs.Tables.{lists_of, marks_at, standing_at}
use Rattle.corner_joins.specs.Additions.CostJoins.{IsCostStop, home_at, with_next}
use Rattle.corner_joins.proofs.Costs.CostFound.{found, found_below}
use Rattle.corner_joins.proofs.Costs.CostValues.{found_cost, found_unfit}
use Rattle.corner_joins.proofs.joining.joined_value.Goals as goal
use Rattle.frac_core.proofs.Results.{ok_implies, err_implies as err_all}

pub value_at-cost-requires-clause-within : goal.value_at-cost-requires-clause-within
value_at-cost-requires-clause-within c =
    let low = found_below (lists_of c.args.table.now) c.args.line (record { unit = c.args.unit; times = c.requires.rise.0 }) (found (lists_of c.args.table.now) c.requires.joins.row c.args.line (record { unit = c.args.unit; times = c.requires.rise.0 }) c.requires.joins.kept c.requires.joins.is c.requires.rise.1) in
    let some = c.requires.joins.kept.slots.levels in
    subst (λ (slot : Slot). slot.home < length c.args.table.now.slots.items) (sym c.slot_at.ensures) (omega (arith, low, some))

pub returns-clause-ok : goal.returns-clause-ok
returns-clause-ok c =
    let n : SFits w64 c.args.count = c.ranges.count in
    let u : SFits w64 c.args.unit = c.ranges.unit in
    ok_implies c.named_sum.result _ (IsCostAt (with_next (lists_of c.args.table.now) (home_at (lists_of c.args.table.now) c.args.line)) (marks_at (lists_of c.args.table.now)) (home_at (lists_of c.args.table.now) c.args.line))
    (λ v ratio. found_cost (lists_of c.args.table.now) c.args.line (record { unit = c.args.unit; times = c.requires.rise.0 }) c.args.count v
    (found (lists_of c.args.table.now) c.requires.joins.row c.args.line (record { unit = c.args.unit; times = c.requires.rise.0 }) c.requires.joins.kept c.requires.joins.is c.requires.rise.1) c.requires.count
    (subst (λ (slot : Slot). IsRatio v (sum_num (standing_at (lists_of c.args.table.now) slot.home).value c.args.count c.args.unit (standing_at (lists_of c.args.table.now) c.args.line).value) (sum_den (standing_at (lists_of c.args.table.now) slot.home).value c.args.unit (standing_at (lists_of c.args.table.now) c.args.line).value)) c.slot_at.ensures
    (subst (λ (y : Fraction). IsRatio v (sum_num (standing_at (lists_of c.args.table.now) c.slot_at.result.home).value c.args.count c.args.unit y) (sum_den (standing_at (lists_of c.args.table.now) c.slot_at.result.home).value c.args.unit y)) c.value_at.ensures
    (subst (λ (x : Fraction). IsRatio v (sum_num x c.args.count c.args.unit c.value_at.result) (sum_den x c.args.unit c.value_at.result)) c.value_at-cost.ensures (simp to_z-of_z at ratio)))))
    c.named_sum.ensures.ok

pub returns-clause-err : goal.returns-clause-err
returns-clause-err c =
    let n : SFits w64 c.args.count = c.ranges.count in
    let u : SFits w64 c.args.unit = c.ranges.unit in
    err_all c.named_sum.result _ (IsCostStop (lists_of c.args.table.now) c.args.line c.args.stop)
    (λ e h. inr (
      h.0,
      found_unfit (lists_of c.args.table.now) c.args.line (record { unit = c.args.unit; times = c.requires.rise.0 }) c.args.count
          (found (lists_of c.args.table.now) c.requires.joins.row c.args.line (record { unit = c.args.unit; times = c.requires.rise.0 }) c.requires.joins.kept c.requires.joins.is c.requires.rise.1) c.requires.count
          (subst (λ (slot : Slot). IsUnfitRatio (sum_num (standing_at (lists_of c.args.table.now) slot.home).value c.args.count c.args.unit (standing_at (lists_of c.args.table.now) c.args.line).value) (sum_den (standing_at (lists_of c.args.table.now) slot.home).value c.args.unit (standing_at (lists_of c.args.table.now) c.args.line).value)) c.slot_at.ensures
          (subst (λ (y : Fraction). IsUnfitRatio (sum_num (standing_at (lists_of c.args.table.now) c.slot_at.result.home).value c.args.count c.args.unit y) (sum_den (standing_at (lists_of c.args.table.now) c.slot_at.result.home).value c.args.unit y)) c.value_at.ensures
          (subst (λ (x : Fraction). IsUnfitRatio (sum_num x c.args.count c.args.unit c.value_at.result) (sum_den x c.args.unit c.value_at.result)) c.value_at-cost.ensures (simp to_z-of_z at h.1)))),
    ))
    c.named_sum.ensures.err
