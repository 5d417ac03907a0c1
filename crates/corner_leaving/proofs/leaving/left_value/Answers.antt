use Rattle.std.proofs.Common.{rules, SFits, w64, ◌<ℤ◌, ◌∙◌, inr, pos, neg_ℤ, ap, sym, subst, arith}
use Rattle.std.proofs.lemmas.Int.{to_z-of_z}
use Rattle.frac_core.specs.Fraction.{Fraction, IsFitting, IsRatio, IsUnfitRatio, sum_den, sum_num}
use Rattle.problem_core.specs.Levels.{IsCostAt}
use Rattle.corner_table.specs.declared.table.Priority.{Priority}
use Rattle.corner_table.specs.Tables.{lists_of, standing_at}
use Rattle.corner_leaving.specs.Leaving.{IsLeftStop, marks_left, problem_left}
use Rattle.corner_leaving.proofs.Removals.LeavingRows.{its_level, its_place}
use Rattle.corner_leaving.proofs.Removals.LeavingCosts.{left_cost_is, left_cost_unfit}
use Rattle.corner_leaving.proofs.Removals.LeavingEnds.{unit_fits, unit_up}
use Rattle.corner_leaving.proofs.leaving.left_value.Goals as goal
use Rattle.frac_core.proofs.Results.{ok_implies, err_implies as err_all}

pub value_at-cost-requires-clause-within : goal.value_at-cost-requires-clause-within
value_at-cost-requires-clause-within c =
    let low = its_level (lists_of c.args.table.now) c.requires.leaver.0 c.args.leaver (record { kept = c.requires.kept; is = c.requires.leaver.1 }) in
    let some = c.requires.kept.slots.levels in
    omega (arith, low, some)

pub priority_at-unit-requires-clause-level : goal.priority_at-unit-requires-clause-level
priority_at-unit-requires-clause-level c = its_level (lists_of c.args.table.now) c.requires.leaver.0 c.args.leaver (record { kept = c.requires.kept; is = c.requires.leaver.1 })

pub value_at-requires-clause-within : goal.value_at-requires-clause-within
value_at-requires-clause-within c = (its_place (lists_of c.args.table.now) c.requires.leaver.0 c.args.leaver (record { kept = c.requires.kept; is = c.requires.leaver.1 })).1

pub named_sum-requires-clause-d : goal.named_sum-requires-clause-d
named_sum-requires-clause-d c =
    let u : SFits w64 c.priority_at-unit.result.unit = search rules in
    simp to_z-of_z (subst (λ (p : Priority). IsFitting p.unit) (sym c.priority_at-unit.ensures) (unit_fits (lists_of c.args.table.now) c.requires.leaver.0 c.args.leaver (record { kept = c.requires.kept; is = c.requires.leaver.1 })))

pub named_sum-requires-clause-above : goal.named_sum-requires-clause-above
named_sum-requires-clause-above c =
    let u : SFits w64 c.priority_at-unit.result.unit = search rules in
    simp to_z-of_z (subst (λ (p : Priority). pos 0 <ℤ p.unit) (sym c.priority_at-unit.ensures) (unit_up (lists_of c.args.table.now) c.requires.leaver.0 c.args.leaver (record { kept = c.requires.kept; is = c.requires.leaver.1 })))

pub returns-clause-ok : goal.returns-clause-ok
returns-clause-ok c =
    let l : SFits w64 c.leaving_count.result = search rules in
    let n : SFits w64 c.opposite-count.result = search rules in
    let u : SFits w64 c.priority_at-unit.result.unit = search rules in
    ok_implies c.named_sum.result _ (IsCostAt (problem_left (lists_of c.args.table.now) c.args.leaver) (marks_left (lists_of c.args.table.now) c.args.leaver) c.args.leaver.level)
    (λ v ratio. left_cost_is (lists_of c.args.table.now) c.requires.leaver.0 c.args.leaver c.opposite-count.result c.priority_at-unit.result.unit v (record { kept = c.requires.kept; is = c.requires.leaver.1 })
    ((simp to_z-of_z at c.opposite-count.ensures.value) ∙ ap neg_ℤ c.leaving_count.ensures.value) (ap (λ (p : Priority). p.unit) c.priority_at-unit.ensures)
    (subst (λ (y : Fraction). IsRatio v (sum_num (standing_at (lists_of c.args.table.now) c.args.leaver.level).value c.opposite-count.result c.priority_at-unit.result.unit y) (sum_den (standing_at (lists_of c.args.table.now) c.args.leaver.level).value c.priority_at-unit.result.unit y)) c.value_at.ensures
    (subst (λ (x : Fraction). IsRatio v (sum_num x c.opposite-count.result c.priority_at-unit.result.unit c.value_at.result) (sum_den x c.priority_at-unit.result.unit c.value_at.result)) c.value_at-cost.ensures (simp to_z-of_z at ratio))))
    c.named_sum.ensures.ok

pub returns-clause-err : goal.returns-clause-err
returns-clause-err c =
    let l : SFits w64 c.leaving_count.result = search rules in
    let n : SFits w64 c.opposite-count.result = search rules in
    let u : SFits w64 c.priority_at-unit.result.unit = search rules in
    err_all c.named_sum.result _ (IsLeftStop (lists_of c.args.table.now) c.args.leaver c.args.stop)
    (λ e h. inr (
      h.0,
      left_cost_unfit (lists_of c.args.table.now) c.requires.leaver.0 c.args.leaver c.opposite-count.result c.priority_at-unit.result.unit (record { kept = c.requires.kept; is = c.requires.leaver.1 })
          ((simp to_z-of_z at c.opposite-count.ensures.value) ∙ ap neg_ℤ c.leaving_count.ensures.value) (ap (λ (p : Priority). p.unit) c.priority_at-unit.ensures)
          (subst (λ (y : Fraction). IsUnfitRatio (sum_num (standing_at (lists_of c.args.table.now) c.args.leaver.level).value c.opposite-count.result c.priority_at-unit.result.unit y) (sum_den (standing_at (lists_of c.args.table.now) c.args.leaver.level).value c.priority_at-unit.result.unit y)) c.value_at.ensures
          (subst (λ (x : Fraction). IsUnfitRatio (sum_num x c.opposite-count.result c.priority_at-unit.result.unit c.value_at.result) (sum_den x c.priority_at-unit.result.unit c.value_at.result)) c.value_at-cost.ensures (simp to_z-of_z at h.1))),
    ))
    c.named_sum.ensures.err
